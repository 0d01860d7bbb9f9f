-- `loader::copy_words` meets its contract.
use mathlib.Core.Path.{◌≡◌}
use lib.ListN.{take}
use Rattle.machine.specs.Bytes.{bytes_of, over}
use Rattle.loading.specs.File.{table_named}
use Rattle.loader.proofs.copy_words.Given as goal

abbrev pub invariant-loop-k : goal.invariant-loop-k
invariant-loop-k l = l.out ≡ over (bytes_of (take l.k (table_named l.file))) l.initial.out
