-- `symbols::nodes_of` meets its contract.
use Prim.Native.Nat.{◌+◌, ◌<◌, ◌≤◌}
use Rattle.std.specs.Prelude.{IfSome}
use Rattle.symbols.proofs.Along.{nodes_left}
use Rattle.symbols.proofs.nodes_of.Given as goal

abbrev pub invariant-loop-node : goal.invariant-loop-node
invariant-loop-node l = IfSome l.node (λ k. k < 65535) × (l.count + nodes_left l.node ≤ 65536)

abbrev pub decreases-loop-node : goal.decreases-loop-node
decreases-loop-node l = nodes_left l.node
