-- `reader::read_common` meets its contract.
use Rattle.std.proofs.lemmas.Result.{err_from_is_err_and}
use Rattle.reader.proofs.Laws.{not_none}
use mathlib.Core.Path.{refl}
use Prim.Native.Nat.{◌+◌}
use lib.ListN.{length}
use Rattle.reader.proofs.Laws.{stops}
use Rattle.reader.proofs.TextLaws.{closes-off, closes-on, in_two, listed, settles-off, settles_on}
use Rattle.syntax.specs.Texts.{read_common}
use Rattle.words.specs.Words.{words}
use Rattle.reader.proofs.read_common.Goals as goal

pub returns-in_err-s : goal.returns-in_err-s
unfolding read_common
returns-in_err-s c = let p = err_from_is_err_and c.from_residual.result c.from_residual.ensures.1 in rw (p.1, p.2) (rw (in_two (length c.args.text.now + 1) (words c.args.text.now)) (settles-off (stops _ c.in_err-s.ensures.brings.tells (not_none _)) (not_none _)))

pub returns-in_err-read_end : goal.returns-in_err-read_end
unfolding read_common
returns-in_err-read_end c = let p = err_from_is_err_and c.from_residual-in_err-read_end.result c.from_residual-in_err-read_end.ensures.1 in rw (p.1, p.2) (rw (in_two (length c.args.text.now + 1) (words c.args.text.now)) (settles_on _ c.in_ok-s.ensures.brings refl (λ p e q. closes-off p _ c.in_err-read_end.ensures (not_none _))))

pub returns : goal.returns
unfolding read_common
returns c = rw (in_two (length c.args.text.now + 1) (words c.args.text.now)) (settles_on _ c.in_ok-s.ensures.brings refl (λ p e q. closes-on p _ c.in_ok-read_end.ensures refl refl (listed e c.in_ok-s.ensures.high c.look-w.ensures c.in_ok-read_end.ensures refl q)))
