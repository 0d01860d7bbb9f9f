-- What the entries for parts leave with their caller.
use Rattle.std.specs.Prelude.{Bool, true, false, List, ◌≡◌, ℕ, length}
use Rattle.linking.specs.Answered.{Answered}
use Rattle.machine.specs.Bytes.{count}
use Rattle.parts.specs.Link.{Linked, linked, refused, lent_bytes}
use Rattle.separate.specs.declared.Made.{Made}

-- `sst_part`: number, the text and the part of it at fault, the object's words
abbrev pub makes : ℕ → ℕ → ℕ → ℕ → ℕ → Made
makes number text start len words = record { number = number; text = text; start = start; len = len; words = words }

-- `sst_link`: the same, but the words are the table's; the verdict, Q, and 47 where Q is past the greatest figure
pub record Numbers : Type 0 where
  pub number : ℕ
  pub text : ℕ
  pub start : ℕ
  pub len : ℕ
  pub words : ℕ
  pub finishing : ℕ
  pub figure : ℕ
  pub figure_number : ℕ

unfoldable pub flag_of : Bool → ℕ
flag_of true = 1
flag_of false = 0

unfoldable pub numbers_of : Linked → Numbers
numbers_of (linked words verdict f) = record { number = 0; text = 0; start = 0; len = 0; words = length words; finishing = flag_of verdict; figure = f.figure; figure_number = f.number }
numbers_of (refused number text at) = record { number = number; text = text; start = at.start; len = at.size; words = 0; finishing = 0; figure = 0; figure_number = 0 }

abbrev pub tells : ℕ → ℕ → ℕ → ℕ → ℕ → ℕ → ℕ → ℕ → Numbers
tells number text start len words finishing figure check =
    record { number = number; text = text; start = start; len = len; words = words; finishing = finishing; figure = figure; figure_number = check }

-- numbers and every lent byte are those of the answer for these bytes
pub record Joins (common objects old new : List ℕ) (x : Numbers) : Type 0 where
  pub answer : Linked
  pub answers : Answered common objects (count old) answer
  pub numbers : x ≡ numbers_of answer
  pub lent : new ≡ lent_bytes answer old

-- all of this file computes where this is unfolded
unfoldable pub opened : Unit {0}
unfolding flag_of numbers_of
opened = tt
