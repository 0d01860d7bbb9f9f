-- `separate::read_texts` meets its contract.
use mathlib.Core.Path.{refl, sym, ◌∙◌}
use Rattle.reader.proofs.Laws.{not_none}
use native.Mathlib.Omega.{arith}
use Rattle.separate.proofs.Reading.{long-common, long-part, common-fault, common-read, part-fault, both_read}
use Rattle.separate.proofs.read_texts.Goals as goal

pub returns-then-common-gt-TEXT_BYTES : goal.returns-then-common-gt-TEXT_BYTES
returns-then-common-gt-TEXT_BYTES c = long-common c.if-common-gt-TEXT_BYTES.true refl (record { number_is = c.unread.ensures.0; text_is = c.unread.ensures.1; start_is = c.unread.ensures.2; len_is = c.unread.ensures.3 })

pub returns-then-part-gt-TEXT_BYTES : goal.returns-then-part-gt-TEXT_BYTES
returns-then-part-gt-TEXT_BYTES c = long-part (omega (arith, c.if-common-gt-TEXT_BYTES.false)) c.if-part-gt-TEXT_BYTES.true refl (record { number_is = c.unread-then-part-gt-TEXT_BYTES.ensures.0; text_is = c.unread-then-part-gt-TEXT_BYTES.ensures.1; start_is = c.unread-then-part-gt-TEXT_BYTES.ensures.2; len_is = c.unread-then-part-gt-TEXT_BYTES.ensures.3 })

pub returns-in-Err : goal.returns-in-Err
returns-in-Err c = common-fault (omega (arith, c.if-common-gt-TEXT_BYTES.false)) (omega (arith, c.if-part-gt-TEXT_BYTES.false)) c.in-Err.ensures (not_none _) (record { number_is = c.unread-in-Err.ensures.0 ∙ c.from.ensures; text_is = c.unread-in-Err.ensures.1; start_is = c.unread-in-Err.ensures.2; len_is = c.unread-in-Err.ensures.3 })

pub returns-in-Err-check_part : goal.returns-in-Err-check_part
returns-in-Err-check_part c = part-fault (omega (arith, c.if-common-gt-TEXT_BYTES.false)) (omega (arith, c.if-part-gt-TEXT_BYTES.false)) (common-read (omega (arith, c.if-common-gt-TEXT_BYTES.false)) c.in-Ok.ensures) c.in-Err-check_part.ensures (not_none _) (record { number_is = c.unread-in-Err-check_part.ensures.0 ∙ c.from-in-Err-check_part.ensures; text_is = c.unread-in-Err-check_part.ensures.1; start_is = c.unread-in-Err-check_part.ensures.2; len_is = c.unread-in-Err-check_part.ensures.3 })

pub returns : goal.returns
returns c = both_read (omega (arith, c.if-common-gt-TEXT_BYTES.false)) (omega (arith, c.if-part-gt-TEXT_BYTES.false)) (common-read (omega (arith, c.if-common-gt-TEXT_BYTES.false)) c.in-Ok.ensures) c.in-Ok-check_part.ensures refl refl
