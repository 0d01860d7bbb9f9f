-- What the lister promises. "The lister reads a program on standard input."
use mathlib.Core.List.{List, [], ◌∷◌, ◌++◌, flatten}
use Rattle.std.proofs.Math.Option.{some}
use Rattle.std.specs.Prelude.{◌≡◌, ℕ, ◌+◌, ◌≤◌, ◌<◌, length, take}
use Rattle.figure.specs.Count.{figure}
use Rattle.figure.specs.Told.{figure_of}
use Rattle.finishing.specs.Finishing.{Finishing}
use Rattle.listing.specs.Listing.{line_feeds, listing}
use Rattle.processor.specs.Process.{process}
use Rattle.program.specs.Accepted.{Accepted}
use Rattle.program.specs.Program.{Rule}
use Rattle.translator.specs.Answered.{answered, fault_word}
use Rattle.lister.specs.declared.Piece.{Piece}
use Rattle.lister.specs.declared.Printed.{Printed}

-- Of a text past its first 32,769 bytes only the line feeds are counted, piece by piece, as the pieces are read.

-- the most that are counted: 2^40 pieces of 65,536 bytes
abbrev pub most : ℕ
most = 72057594037927936

-- the count behind a piece, which is the beginning of the buffer
pub record Counted (feeds : ℕ) (buffer : List ℕ) (r : Piece) : Type 0 where
  pub within : r.len ≤ length buffer
  pub count : r.feeds ≡ feeds + line_feeds (take r.len buffer)

-- the count behind all pieces
unfoldable pub count_on : ℕ → List (List ℕ) → ℕ
count_on feeds [] = feeds
count_on feeds (piece ∷ pieces) = count_on (feeds + line_feeds piece) pieces

-- What is printed for an input: its listing, the answer being that of a table with room for 4,096 words, with the figure of that text; and the part that is shown is that at fault.
pub record Shown (input kept new : List ℕ) (r : Printed) : Type 0 where
  pub listed : take r.len new ≡ listing input (process input 4096) (figure_of input 4096).figure
  pub word : fault_word kept r.answer ≡ fault_word input (answered (process input 4096) (figure_of input 4096))

-- The input is what is kept of it, its first 32,769 bytes, which is enough to see that it is over-long, and then the pieces whose line feeds were counted.
abbrev pub Prints : List ℕ → ℕ → List ℕ → Printed → Type 0
Prints kept feeds new r = (pieces : List (List ℕ)) → kept ≡ take 32769 (kept ++ flatten pieces) → feeds ≡ count_on 0 pieces
    → Shown (kept ++ flatten pieces) kept new r

-- No figure is 0, so the line of the figure is printed for every finishing program that has one.
abbrev pub FigureShown : Type 0
FigureShown = (prog : List Rule) → Accepted prog → Finishing prog → (q : ℕ) → figure prog ≡ some q → 0 < q
