-- `writer::put_file` meets its contract.
use mathlib.Core.Path.{◌≡◌}
use lib.ListN.{take}
use Rattle.loading.specs.File.{file_words}
use Rattle.machine.specs.Bytes.{words_of, bytes_of, over}
use Rattle.writer.proofs.put_file.Given as goal

abbrev pub invariant-loop-j : goal.invariant-loop-j
invariant-loop-j l = l.file ≡ over (bytes_of (take l.j (file_words (words_of l.table) l.verdict))) l.initial.file
