-- The processor over words as they were before a percent sign could stand in a string; kept for the theorem `accepted-before` (proofs/Before.antt).
use Rattle.std.specs.Prelude.{List, ℕ, ◌+◌, ltb, length, if◌then◌else◌}
use Rattle.processor.specs.Process.{Answer, read_in, answer_for}
use Rattle.syntax.specs.Parse.{program, end_of}
use Rattle.syntax.specs.Reading.{Read, fault}
use Rattle.syntax.specs.Written.{Program}
use Rattle.words.specs.Before.{words_before}

unfoldable pub parse_before : List ℕ → Read Program
parse_before text = let read = program (length text + 1) (words_before text) in if ltb 32768 (length text) then fault 9 (end_of text) else read

unfoldable pub process_before : List ℕ → ℕ → Answer
process_before text room = answer_for text room (read_in (parse_before text))
