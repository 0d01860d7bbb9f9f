use borrow.Author.Rules.{rules}
use Prim.Native.Nat.{ℕ}
use lib.Dec.{ltb}
use Rattle.std.proofs.lemmas.List.Sorted.{IsPartitionPoint-from_clause}
use Rattle.meter.proofs.Words.{rising-partitioned, point-between}
use Rattle.meter.proofs.starts_before.Goals as goal

pub returns : goal.returns
returns c = point-between c.partition_point.ensures.bound (IsPartitionPoint-from_clause (λ (y : ℕ). ltb y c.args.s) c.args.starts.now c.partition_point.result c.partition_point.ensures.partitioned (rising-partitioned c.requires c.args.s) (search rules))
