-- What the entries for table files answer (include/sst.h).
use Rattle.std.specs.Prelude.{ℕ}
use Rattle.loading.specs.File.{Numbers}

-- what a call leaves with its caller: its number, the words handed over, the verdict word
abbrev pub hands : ℕ → ℕ → ℕ → Numbers
hands number words verdict = record { number = number; words = words; verdict = verdict }
