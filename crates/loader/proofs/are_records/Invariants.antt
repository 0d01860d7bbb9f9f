-- `loader::are_records` meets its contract.
use Prim.Native.Nat.{◌+◌, ◌*◌, ◌-◌}
use Rattle.machine.specs.Bytes.{words_of}
use Rattle.loader.specs.Records.{Read}
use Rattle.loader.proofs.are_records.Given as goal

abbrev pub invariant-loop-k : goal.invariant-loop-k
invariant-loop-k l = Read (words_of l.file) l.n (4 + 258 * l.k) (l.n - 256 * l.k)
