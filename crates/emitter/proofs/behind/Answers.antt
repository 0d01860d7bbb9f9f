use mathlib.Core.Path.{ap, sym}
use mathlib.Core.Bool.{Bool, cond}
use Prim.Native.Nat.{◌+◌}
use borrow.Author.Tests.{eq-eqb, ne_eqb}
use Rattle.emitter.specs.Heads.{behind}
use Rattle.emitter.proofs.behind.Goals as goal

-- src/lib.rt:384:1
pub returns-then-older-eq0 : goal.returns-then-older-eq0
unfolding behind
returns-then-older-eq0 c = sym (ap (λ (b : Bool). cond b c.args.from (c.args.older + 1)) (eq-eqb c.args.older 0 c.if-older-eq0.true))

-- src/lib.rt:384:1
pub returns-else-older-eq0 : goal.returns-else-older-eq0
unfolding behind
returns-else-older-eq0 c = sym (ap (λ (b : Bool). cond b c.args.from (c.args.older + 1)) (ne_eqb c.args.older 0 c.if-older-eq0.false))
