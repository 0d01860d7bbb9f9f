-- `reader::number_of` meets its contract.
use Rattle.std.proofs.Common.{◌≡◌, ◌≤◌, take, drop}
use Rattle.words.specs.Words.{value}
use Rattle.reader.proofs.number_of.Given as goal

abbrev pub invariant-loop-b : goal.invariant-loop-b
invariant-loop-b l = (l.n ≤ 65535) × (value l.n (drop l.b-index l.b-items) ≡ value 0 (take l.len (drop l.start l.text)))
