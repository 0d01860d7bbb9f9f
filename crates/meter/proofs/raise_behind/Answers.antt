use Prim.Native.Nat.{◌+◌}
use Rattle.meter.proofs.Laws.{here-inside, behind-values, behind-nothing, behind-raised}
use mathlib.Core.Path.{refl}
use native.Mathlib.Omega.{arith}
use Rattle.meter.proofs.raise_behind.Goals as goal

pub overflow_add-next : goal.overflow_add-next
overflow_add-next c = omega (arith, (here-inside c.requires.0 c.requires.1.here).1)

pub choice_at-requires : goal.choice_at-requires
choice_at-requires c = (omega arith, omega (arith, (here-inside c.requires.0 c.requires.1.here).1))

pub raise_values-requires : goal.raise_values-requires
raise_values-requires c = (c.requires.0, c.requires.1, c.in-Some.ensures, c.requires.2)

pub returns-in-Some : goal.returns-in-Some
returns-in-Some c = behind-values c.requires.0 c.in-Some.ensures c.raise_values.ensures

pub overflow_add-q : goal.overflow_add-q
overflow_add-q c = omega (arith, c.requires.1.found, c.requires.0.shaped.few)

pub returns-then-m-eq0 : goal.returns-then-m-eq0
returns-then-m-eq0 c = behind-nothing c.requires.0 c.in_default.ensures c.called_number-m.ensures c.if-m-eq0.true

pub overflow_add-here : goal.overflow_add-here
overflow_add-here c = omega (arith, c.called_number-m.ensures, c.requires.0.called_small (4225 + c.args.q), c.requires.1.here.small)

pub overflow_add-here-2 : goal.overflow_add-here-2
overflow_add-here-2 c = omega (arith, c.called_number-m.ensures, c.requires.0.called_small (4225 + c.args.q), c.requires.1.here.small)

pub raise-requires : goal.raise-requires
raise-requires c = c.requires.2

pub returns : goal.returns
returns c = behind-raised c.requires.0 c.requires.1 c.in_default.ensures c.called_number-m.ensures c.if-m-eq0.false refl c.raise.ensures
