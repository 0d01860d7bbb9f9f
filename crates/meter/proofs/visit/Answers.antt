use Rattle.meter.proofs.Seen.{outside_low, outside_high, here-word, visit-invalid, visit-unreached, visit-made, visit-here}
use Rattle.meter.proofs.Laws.{rule-small, not-nothing}
use Rattle.loader.proofs.Visits.{decode-none, decode-one, decode-both, decode-short, two-words}
use mathlib.Core.Path.{sym, ◌∙◌}
use native.Mathlib.Omega.{arith}
use Rattle.meter.proofs.visit.Goals.{then-at-eq0-via-then-at-eq0, then-at-eq0-via-else-at-eq0+then-size-at}
use Rattle.meter.proofs.visit.Goals as goal

pub returns-then-at-eq0 : goal.returns-then-at-eq0
returns-then-at-eq0 c =
    elim c.then-at-eq0.branch [
      | then-at-eq0-via-then-at-eq0 w ↦ visit-invalid c.requires.0 (outside_low _ _ w.if-at-eq0.true)
      | then-at-eq0-via-else-at-eq0+then-size-at w ↦ visit-invalid c.requires.0 (outside_high _ _ (omega (arith, c.size_of-size.ensures, w.if-size-at.true)))
    ]

pub returns-then-number-eq0 : goal.returns-then-number-eq0
returns-then-number-eq0 c = visit-unreached c.requires.0 c.number-number.ensures c.if-number-eq0.true

pub overflow_sub-at : goal.overflow_sub-at
overflow_sub-at c = omega (arith, not-nothing c.if-at-eq0.false)

pub returns-then-k-eq0 : goal.returns-then-k-eq0
returns-then-k-eq0 c = visit-invalid c.requires.0 (decode-none _ _ _ (here-word c.args.program.table.now c.args.at c.if-at-eq0.false (omega (arith, c.size_of-size.ensures, c.if-size-at.false)) c.word-i.ensures) (sym c.instruction_length-k.ensures ∙ c.if-k-eq0.true))

pub visit_one-requires : goal.visit_one-requires
visit_one-requires c = (c.requires.3, rule-small c.requires.0 (visit-here c.requires.0 c.requires.1 c.requires.2 (omega (arith, c.size_of-size.ensures, c.if-size-at.false)) c.number-number.ensures c.if-number-eq0.false), omega (arith, c.size_of-size.ensures, c.if-size-at.false, c.requires.0.shaped.short), (visit-here c.requires.0 c.requires.1 c.requires.2 (omega (arith, c.size_of-size.ensures, c.if-size-at.false)) c.number-number.ensures c.if-number-eq0.false).small)

pub returns-then-k-eq1 : goal.returns-then-k-eq1
returns-then-k-eq1 c = visit-made c.requires.0 (decode-one _ _ _ (here-word c.args.program.table.now c.args.at c.if-at-eq0.false (omega (arith, c.size_of-size.ensures, c.if-size-at.false)) c.word-i.ensures) (sym c.instruction_length-k.ensures ∙ c.if-k-eq1.true)) c.number-number.ensures (c.visit_one.ensures.steps c.requires.0 (visit-here c.requires.0 c.requires.1 c.requires.2 (omega (arith, c.size_of-size.ensures, c.if-size-at.false)) c.number-number.ensures c.if-number-eq0.false) (decode-one _ _ _ (here-word c.args.program.table.now c.args.at c.if-at-eq0.false (omega (arith, c.size_of-size.ensures, c.if-size-at.false)) c.word-i.ensures) (sym c.instruction_length-k.ensures ∙ c.if-k-eq1.true)))

pub overflow_add-at : goal.overflow_add-at
overflow_add-at c = omega (arith, c.size_of-size.ensures, c.if-size-at.false, c.requires.0.shaped.short)

pub returns-then-size-at-2 : goal.returns-then-size-at-2
returns-then-size-at-2 c = visit-invalid c.requires.0 (decode-short _ _ _ (here-word c.args.program.table.now c.args.at c.if-at-eq0.false (omega (arith, c.size_of-size.ensures, c.if-size-at.false)) c.word-i.ensures) (two-words _ _ c.instruction_length-k.ensures c.if-k-eq0.false c.if-k-eq1.false) (omega (arith, c.size_of-size.ensures, c.if-size-at-2.true)))

pub overflow_add-at-2 : goal.overflow_add-at-2
overflow_add-at-2 c = omega (arith, c.size_of-size.ensures, c.if-size-at.false, c.requires.0.shaped.short)

pub word_at-x-requires : goal.word_at-x-requires
word_at-x-requires c = (omega arith, omega (arith, c.size_of-size.ensures, c.if-size-at-2.false))

pub visit_two-requires : goal.visit_two-requires
visit_two-requires c = (c.requires.0, (visit-here c.requires.0 c.requires.1 c.requires.2 (omega (arith, c.size_of-size.ensures, c.if-size-at.false)) c.number-number.ensures c.if-number-eq0.false), decode-both _ _ _ _ (here-word c.args.program.table.now c.args.at c.if-at-eq0.false (omega (arith, c.size_of-size.ensures, c.if-size-at.false)) c.word-i.ensures) (two-words _ _ c.instruction_length-k.ensures c.if-k-eq0.false c.if-k-eq1.false) c.word_at-x.ensures.0, c.word_at-x.ensures.1, c.requires.3)

pub returns : goal.returns
returns c = visit-made c.requires.0 (decode-both _ _ _ _ (here-word c.args.program.table.now c.args.at c.if-at-eq0.false (omega (arith, c.size_of-size.ensures, c.if-size-at.false)) c.word-i.ensures) (two-words _ _ c.instruction_length-k.ensures c.if-k-eq0.false c.if-k-eq1.false) c.word_at-x.ensures.0) c.number-number.ensures c.visit_two.ensures
