-- `symbols::find_row` meets its contract.
use Prim.Native.Nat.{◌<◌}
use Rattle.std.specs.Prelude.{IfSome}
use Rattle.symbols.specs.Index.{node_of}
use Rattle.symbols.proofs.Along.{Along, nodes_left}
use Rattle.symbols.proofs.Searches.{by_name}
use Rattle.symbols.proofs.find_row.Given as goal

abbrev pub invariant-loop-node : goal.invariant-loop-node
invariant-loop-node l = IfSome l.node (λ k. k < 65535) × Along (by_name l.class l.word) l.text l.rows l.n (node_of l.node)

abbrev pub decreases-loop-node : goal.decreases-loop-node
decreases-loop-node l = nodes_left l.node
