-- `objects::body_at` meets its contract: past the rule's name and its type stand the names of its calls, past these its cells.
use native.Mathlib.Omega.{arith}
use mathlib.Core.Path.{refl, ap, ◌∙◌}
use Prim.Native.Nat.{ℕ}
use lib.Dec.{eqb}
use Rattle.machine.specs.Bytes.{words_of}
use Rattle.objects.proofs.Bodies.{no-body-there, no-gives, gives-is, no-calls, calls-inside, no-cells, cells-inside, all-inside, body-stands}
use Rattle.objects.proofs.body_at.Goals as goal

pub returns-in_err-gives : goal.returns-in_err-gives
returns-in_err-gives c = rw c.from_residual.ensures (no-body-there (λ v k e. no-gives (words_of c.args.objects.now) c.args.q v k e c.in_err-gives.ensures.ends))

pub returns-in_err-calls : goal.returns-in_err-calls
returns-in_err-calls c = rw c.from_residual-in_err-calls.ensures (no-body-there (λ v k e. no-calls (words_of c.args.objects.now) c.args.q v k e c.in_ok-gives.ensures.ends c.in_err-calls.ensures.ends))

pub returns-then-calls-end : goal.returns-then-calls-end
returns-then-calls-end c = no-body-there (λ v k e. let h = calls-inside (words_of c.args.objects.now) c.args.q v k e c.in_ok-gives.ensures.ends c.in_ok-calls.ensures.ends in omega (arith, h))

pub returns-in_err-cells : goal.returns-in_err-cells
returns-in_err-cells c = rw c.from_residual-in_err-cells.ensures (no-body-there (λ v k e. no-cells (words_of c.args.objects.now) c.args.q v k e c.in_ok-gives.ensures.ends c.in_ok-calls.ensures.ends c.number-names.ensures.0 c.in_err-cells.ensures.ends))

pub returns-then-cells-end : goal.returns-then-cells-end
returns-then-cells-end c = no-body-there (λ v k e. let h = cells-inside (words_of c.args.objects.now) c.args.q v k e c.in_ok-gives.ensures.ends c.in_ok-calls.ensures.ends c.number-names.ensures.0 c.in_ok-cells.ensures.ends in omega (arith, h))

pub returns-then-size-end : goal.returns-then-size-end
returns-then-size-end c = no-body-there (λ v k e. let h = all-inside (words_of c.args.objects.now) c.args.q v k e c.in_ok-gives.ensures.ends c.in_ok-calls.ensures.ends c.number-names.ensures.0 c.in_ok-cells.ensures.ends in omega (arith, h))

pub returns : goal.returns
returns c = record { low = omega arith; high = let h = c.in_ok-cells.ensures.within in omega (arith, h); named = let h = c.in_ok-calls.ensures.within in omega (arith, h); tells = λ v k e. (ap (λ (n : ℕ). eqb n 1) c.number.ensures.0 ∙ gives-is (words_of c.args.objects.now) c.args.q v k e c.in_ok-gives.ensures.ends, body-stands (words_of c.args.objects.now) c.args.q v k e c.in_ok-gives.ensures.ends c.in_ok-calls.ensures.ends c.number-names.ensures.0 c.in_ok-cells.ensures.ends _ refl (omega arith) refl refl) }
