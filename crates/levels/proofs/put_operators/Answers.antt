-- `levels::put_operators` meets its contract.
use native.Mathlib.Omega.{arith}
use mathlib.Core.Path.{◌∙◌}
use Rattle.levels.proofs.Putting.{operators-last, operators-more, operators-stuck}
use Rattle.resolver.proofs.Appending.{appends-length, appends-bound}
use Rattle.levels.proofs.put_operators.Goals.{then-w-eq-SEMICOLON-via-then-w-eq-SEMICOLON, then-w-eq-SEMICOLON-via-else-w-eq-SEMICOLON+then-next-i}
use Rattle.levels.proofs.put_operators.Goals as goal

-- src/lib.rt:126:5
pub returns-then-w-eq-SEMICOLON : goal.returns-then-w-eq-SEMICOLON
returns-then-w-eq-SEMICOLON c = c.loop-aim.invariant.3 _ _ (elim c.then-w-eq-SEMICOLON.branch [
  | then-w-eq-SEMICOLON-via-then-w-eq-SEMICOLON w ↦ operators-last c.read_entry-e.ensures c.put_if-c.ensures c.next_word-w.ensures w.if-w-eq-SEMICOLON.true
  | then-w-eq-SEMICOLON-via-else-w-eq-SEMICOLON+then-next-i w ↦ operators-stuck c.read_entry-e.ensures c.put_if-c.ensures w.if-next-i.true
])

-- src/lib.rt:126:5
pub loop-aim-preserved : goal.loop-aim-preserved
loop-aim-preserved c = (c.read_entry-e.ensures.high, omega (arith, appends-bound c.put_if-c.ensures, appends-length c.put_if-c.ensures), appends-length c.put_if-c.ensures ∙ c.loop-aim.invariant.2, λ cs' r d. c.loop-aim.invariant.3 cs' r (operators-more c.read_entry-e.ensures c.put_if-c.ensures c.next_word-w.ensures c.if-w-eq-SEMICOLON.false d))
