-- Figures over a shelf of books, over one table.
use Rattle.std.specs.Prelude.{Bool, true, ◌&&◌, List, [], ◌∷◌, ℕ, zero, suc, ◌+◌, ◌*◌, ◌-◌, ◌/◌, ◌%◌, ◌^◌, eqb, ltb, length, take, drop, get_or, set, replicate, if◌then◌else◌}
use Rattle.std.specs.Int.Bits.{bit_or}
use Rattle.std.specs.Int.Count.{ones}
use Rattle.base.specs.Common.{same}
use Rattle.figures.specs.Visits.{Given, called, visited}

unfoldable pub sum : List ℕ → ℕ
sum [] = 0
sum (x ∷ xs) = x + sum xs

-- how often each location 1 to 4,096 was executed; "one bit a location"; books; "the same grand total"
pub record Figures : Type 0 where
  pub counts : List ℕ
  pub bits : List ℕ
  pub books : ℕ
  pub total : ℕ

unfoldable pub empty : Figures
empty = record { counts = replicate 4096 0; bits = replicate 64 0; books = 0; total = 0 }

-- one execution more of location l, which stands at index l - 1
unfoldable pub bump : List ℕ → ℕ → List ℕ
bump cs l = set cs (l - 1) (suc (get_or cs (l - 1) 0))

-- its bit: bit (l - 1) mod 64, the lowest first, of word (l - 1) / 64
unfoldable pub mark : List ℕ → ℕ → List ℕ
mark ws l = set ws ((l - 1) / 64) (bit_or (get_or ws ((l - 1) / 64) 0) (2 ^ ((l - 1) % 64)))

unfoldable pub bumps : List ℕ → List ℕ → List ℕ
bumps cs [] = cs
bumps cs (l ∷ ls) = bumps (bump cs l) ls

unfoldable pub marks : List ℕ → List ℕ → List ℕ
marks ws [] = ws
marks ws (l ∷ ls) = marks (mark ws l) ls

-- a book more
unfoldable pub plus : List ℕ → Given → Figures → Figures
plus T g f = record {
  counts = bumps f.counts (visited T g);
  bits = marks f.bits (visited T g);
  books = f.books + 1;
  total = f.total + (called T g).steps;
}

-- "how many locations were executed at all, kept as one bit a location and counted from those bits"
unfoldable pub covered : List ℕ → ℕ
covered [] = 0
covered (w ∷ ws) = ones w + covered ws

-- "Mean steps a book are a whole part and a remainder, both 0 for an empty shelf."
unfoldable pub mean_whole : Figures → ℕ
mean_whole f = if eqb f.books 0 then 0 else f.total / f.books

unfoldable pub mean_rest : Figures → ℕ
mean_rest f = if eqb f.books 0 then 0 else f.total % f.books

-- "46 for any of these numbers past 64 bits"

abbrev pub below64 : ℕ → Bool
below64 n = ltb n 18446744073709551616

unfoldable pub all_below64 : List ℕ → Bool
all_below64 [] = true
all_below64 (c ∷ cs) = below64 c && all_below64 cs

unfoldable pub within64 : Figures → Bool
within64 f = all_below64 f.counts && (below64 f.books && below64 f.total)

-- Figures that are sums: what an entry asks of figures that it is handed

-- 1 for a location that was executed
unfoldable pub flag : ℕ → ℕ
flag zero = 0
flag (suc c) = 1

-- the bits of some counts, the first lowest
unfoldable pub packed : List ℕ → ℕ
packed [] = 0
packed (c ∷ cs) = packed cs * 2 + flag c

-- n words of 64 bits each
unfoldable pub bits_of : ℕ → List ℕ → List ℕ
bits_of zero cs = []
bits_of (suc n) cs = packed (take 64 cs) ∷ bits_of n (drop 64 cs)

-- 4,096 counts, their bits, their sum; no count without a book
unfoldable pub sound : Figures → Bool
sound f =
    eqb (length f.counts) 4096 && (same f.bits (bits_of 64 f.counts) && (eqb f.total (sum f.counts)
    && (if eqb f.books 0 then eqb f.total 0 else true)))

-- all of this file computes where this is unfolded
unfoldable pub opened : Unit {0}
unfolding sum empty bump mark bumps marks plus covered mean_whole mean_rest all_below64 within64 flag packed bits_of sound
opened = tt
