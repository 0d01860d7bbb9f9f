use mathlib.Core.Path.{◌≡◌}
use Prim.Native.Nat.{◌+◌, ◌*◌, ◌≤◌}
use lib.ListN.{length}
use Rattle.emitter.proofs.Rules.{RulesGo}
use Rattle.emitter.proofs.emit_rules.Given as goal

abbrev pub invariant-loop-r : goal.invariant-loop-r
invariant-loop-r l = (l.here.p ≤ length l.cells) × (l.here.at ≤ 400 * l.here.p + l.r) × (length l.out ≡ length l.initial.out) × (length l.slots ≡ length l.initial.slots) × RulesGo l.cells l.sorts l.rules l.initial.slots l.initial.out l.here.p l.here.at l.r l.out l.slots
