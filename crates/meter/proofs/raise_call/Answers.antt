use Prim.Native.Nat.{◌+◌}
use Rattle.meter.proofs.Laws.{here-inside, rule-small, call-index, called-here, call-first, called-all}
use mathlib.Core.Path.{refl}
use native.Mathlib.Omega.{arith}
use borrow.Author.Rules.{rules}
use Rattle.meter.proofs.raise_call.Goals as goal

pub starts_before-q-requires : goal.starts_before-q-requires
starts_before-q-requires c = c.requires.0.shaped.rising

pub overflow_add-q : goal.overflow_add-q
overflow_add-q c = omega (arith, (called-here c.requires.0 c.requires.1 c.requires.2 (call-index c.requires.0 c.requires.1 c.requires.2 c.starts_before-q.ensures)).found, c.requires.0.shaped.few)

pub overflow_add-o : goal.overflow_add-o
overflow_add-o c = omega (arith, c.called_number.ensures, c.requires.0.called_small (4097 + c.starts_before-q.result), c.requires.1.small)

pub overflow_add-here : goal.overflow_add-here
overflow_add-here c = omega (arith, rule-small c.requires.0 c.requires.1)

pub overflow_add-here-2 : goal.overflow_add-here-2
overflow_add-here-2 c = omega (arith, (here-inside c.requires.0 c.requires.1).1)

pub raise_two-a-requires : goal.raise_two-a-requires
raise_two-a-requires c = c.requires.3

pub raise_behind-b-requires : goal.raise_behind-b-requires
raise_behind-b-requires c = ((call-first c.requires.0 c.requires.1 c.requires.2 (call-index c.requires.0 c.requires.1 c.requires.2 c.starts_before-q.ensures) c.called_number.ensures c.mark_of-mark.ensures refl c.raise_two-a.ensures).kept, called-here c.requires.0 c.requires.1 c.requires.2 (call-index c.requires.0 c.requires.1 c.requires.2 c.starts_before-q.ensures), search rules)

pub returns : goal.returns
returns c = called-all c.requires.0 (call-index c.requires.0 c.requires.1 c.requires.2 c.starts_before-q.ensures) (call-first c.requires.0 c.requires.1 c.requires.2 (call-index c.requires.0 c.requires.1 c.requires.2 c.starts_before-q.ensures) c.called_number.ensures c.mark_of-mark.ensures refl c.raise_two-a.ensures) c.raise_behind-b.ensures refl
