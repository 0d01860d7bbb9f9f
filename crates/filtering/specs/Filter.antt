-- "A character filter that publishers edit": entries of four bytes, the checks, and the tokens of a byte string.
use Rattle.std.specs.Prelude.{Bool, ◌&&◌, List, [], ◌∷◌, ℕ, zero, suc, ◌+◌, ◌*◌, eqb, leb, ltb, length, if◌then◌else◌}
use Rattle.std.proofs.Math.Option.{Option, none, some}
use Rattle.machine.specs.Bytes.{bytes_of, over}

-- "entries of four bytes: first byte, last byte, input token number"
pub record Entry : Type 0 where
  pub first : ℕ
  pub last : ℕ
  pub token : ℕ

-- "a part entry at the end counts for nothing"
unfoldable pub entries : List ℕ → List Entry
entries [] = []
entries (a ∷ []) = []
entries (a ∷ b ∷ []) = []
entries (a ∷ b ∷ h ∷ []) = []
entries (a ∷ b ∷ h ∷ l ∷ s) = record { first = a; last = b; token = h * 256 + l } ∷ entries s

-- the byte is in the entry
unfoldable pub has : ℕ → Entry → Bool
has b e = leb e.first b && leb b e.last

-- how many entries have the byte
unfoldable pub holders : ℕ → List Entry → ℕ
holders b [] = 0
holders b (e ∷ es) = (if has b e then 1 else 0) + holders b es

-- "the first entry (from 0) whose first exceeds its last", of entries that are numbered from i on
unfoldable pub crossed : ℕ → List Entry → Option ℕ
crossed i [] = none
crossed i (e ∷ es) = let later = crossed (suc i) es in if ltb e.last e.first then some i else later

-- the lowest of n bytes from b on that passes a test
unfoldable pub lowest : (ℕ → Bool) → ℕ → ℕ → Option ℕ
lowest f zero b = none
lowest f (suc n) b = let later = lowest f n (suc b) in if f b then some b else later

-- "the lowest byte in two entries": in two or more
unfoldable pub doubled : List Entry → Option ℕ
doubled es = lowest (λ b. leb 2 (holders b es)) 256 0

-- "the lowest byte in none"
unfoldable pub missing : List Entry → Option ℕ
missing es = lowest (λ b. eqb (holders b es) 0) 256 0

-- the token of the byte's entry; 0 where none has it
unfoldable pub token_of : List Entry → ℕ → ℕ
token_of [] b = 0
token_of (e ∷ es) b = let later = token_of es b in if has b e then e.token else later

-- "turns a byte string into tokens, one each, that of its entry"
unfoldable pub tokens_of : List Entry → List ℕ → List ℕ
tokens_of es [] = []
tokens_of es (b ∷ bs) = token_of es b ∷ tokens_of es bs

-- what filtering answers: the tokens; or a number and the entry or byte that it names
pub data Answer : Type 0 where
  folded : List ℕ → Answer
  refused : ℕ → ℕ → Answer

-- a check that names what it found, and what is answered if it found nothing
unfoldable pub unless : Option ℕ → ℕ → Answer → Answer
unless none number rest = rest
unless (some at) number rest = refused number at

-- "Checks: 9 for more than 64 entries, then 42 .., then 43 .., then 44 .., each naming it, then 20 for a token buffer too short": a filter, a byte
-- string, and a token buffer of so many words; 9 and 20 name nothing
unfoldable pub filter : List ℕ → List ℕ → ℕ → Answer
filter s text room =
    let es = entries s in
    let fits = if leb (length text) room then folded (tokens_of es text) else refused 20 0 in
    let checked = unless (crossed 0 es) 42 (unless (doubled es) 43 (unless (missing es) 44 fits)) in
    if leb (length es) 64 then checked else refused 9 0

-- "nothing is written"; "touches nothing past them"
unfoldable pub buffer_after : Answer → List ℕ → List ℕ
buffer_after (folded ts) buffer = over (bytes_of ts) buffer
buffer_after (refused number at) buffer = buffer

-- what a caller reads: the number, the entry or byte that it names, the tokens written
pub record Numbers : Type 0 where
  pub number : ℕ
  pub at : ℕ
  pub written : ℕ

unfoldable pub numbers_of : Answer → Numbers
numbers_of (folded ts) = record { number = 0; at = 0; written = length ts }
numbers_of (refused number at) = record { number = number; at = at; written = 0 }

-- what a call leaves with its caller
abbrev pub tells : ℕ → ℕ → ℕ → Numbers
tells number at written = record { number = number; at = at; written = written }

-- all of this file computes where this is unfolded
unfoldable pub opened : Unit {0}
unfolding entries has holders crossed lowest doubled missing token_of tokens_of unless filter buffer_after numbers_of
opened = tt
