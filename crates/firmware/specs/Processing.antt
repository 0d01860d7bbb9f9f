-- What the processor's entry for C answers (include/sst.h).
use Rattle.std.specs.Prelude.{Bool, true, false, ℕ, length}
use Rattle.figure.specs.Told.{Told}
use Rattle.processor.specs.Process.{Answer, accepted, refused}

-- its number, and the numbers it writes: the part of the text at fault, the words of the table, the verdict, Q, and 47 where Q is past the greatest figure
pub record Numbers : Type 0 where
  pub number : ℕ
  pub start : ℕ
  pub len : ℕ
  pub words : ℕ
  pub finishing : ℕ
  pub figure : ℕ
  pub figure_number : ℕ

-- "`*finishing` 1 where the verdict is "finishing""
unfoldable pub flag_of : Bool → ℕ
flag_of true = 1
flag_of false = 0

-- 0 for an accepted text, also with 47, "where the table is still given"
unfoldable pub numbers_of : Answer → Told → Numbers
numbers_of (accepted words verdict) f = record { number = 0; start = 0; len = 0; words = length words; finishing = flag_of verdict; figure = f.figure; figure_number = f.number }
numbers_of (refused number at) f = record { number = number; start = at.start; len = at.size; words = 0; finishing = 0; figure = f.figure; figure_number = f.number }

-- what a call leaves with its caller
abbrev pub tells : ℕ → ℕ → ℕ → ℕ → ℕ → ℕ → ℕ → Numbers
tells number start len words finishing figure check = record { number = number; start = start; len = len; words = words; finishing = finishing; figure = figure; figure_number = check }
