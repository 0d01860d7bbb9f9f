-- What the filter's functions compute, over bytes.
use Rattle.std.specs.Prelude.{List, [], ◌∷◌, ◌≡◌, ℕ, zero, suc, ◌+◌, ◌*◌, ◌/◌, ◌%◌, ◌<◌, ◌≤◌, eqb, leb, length, get_or, set, drop}
use Rattle.std.proofs.Math.Option.{Option, none, some}
use Rattle.std.specs.Prelude as P
use Rattle.std.specs.Prelude.{None, Some}
use Rattle.buffers.specs.Words.{put_word}
use Rattle.filtering.specs.Filter.{Entry, entries, holders, lowest, token_of}

-- the entry at place i
unfoldable pub entry_at : List ℕ → ℕ → Entry
entry_at s i = record { first = get_or s (4 * i) 0; last = get_or s (4 * i + 1) 0; token = get_or s (4 * i + 2) 0 * 256 + get_or s (4 * i + 3) 0 }

-- a word with its bytes exchanged
unfoldable pub turned : ℕ → ℕ
turned x = x % 256 * 256 + x / 256

-- a place or a byte that a definition finds, as a function gives it
unfoldable pub given : Option ℕ → P.Option ℕ
given none = None
given (some x) = Some x

-- the first byte value that is held twice, or not at all
unfoldable pub lowest_doubled : List ℕ → Option ℕ
lowest_doubled held = lowest (λ b. leb 2 (get_or held b 0)) 256 0

unfoldable pub lowest_missing : List ℕ → Option ℕ
lowest_missing held = lowest (λ b. eqb (get_or held b 0) 0) 256 0

-- one entry with this token more has the byte b
pub record Counts (b token : ℕ) (held map held' map' : List ℕ) : Type 0 where
  pub count : held' ≡ set held b (get_or held b 0 + 1)
  pub first : get_or held b 0 ≡ 0 → map' ≡ set map b token
  pub later : (get_or held b 0 ≡ 0 → ⊥) → map' ≡ map

-- after i entries: k of them have the byte x, and the token, turned, is that of the first of these
pub record Sofar (s : List ℕ) (i x k token : ℕ) : Type 0 where
  pub few : k ≤ i
  pub count : k + holders x (drop i (entries s)) ≡ holders x (entries s)
  pub none_yet : k ≡ 0 → token_of (drop i (entries s)) x ≡ token_of (entries s) x
  pub found : 1 ≤ k → turned token ≡ token_of (entries s) x

-- after i entries, for every byte value
pub record Tallied (s : List ℕ) (i : ℕ) (held map : List ℕ) : Type 0 where
  pub held_size : length held ≡ 256
  pub map_size : length map ≡ 256
  pub each : (x : ℕ) → x < 256 → Sofar s i x (get_or held x 0) (get_or map x 0)

-- every byte value has its token in the map, turned
pub record Mapped (es : List Entry) (map : List ℕ) : Type 0 where
  pub size : length map ≡ 256
  pub tokens : (b : ℕ) → b < 256 → turned (get_or map b 0) ≡ token_of es b

-- the tokens of a byte string by the map
unfoldable pub map_tokens : List ℕ → List ℕ → List ℕ
map_tokens map [] = []
map_tokens map (b ∷ bs) = turned (get_or map b 0) ∷ map_tokens map bs

-- n of the words ws from k on, each written at its index
unfoldable pub put_words : List ℕ → ℕ → ℕ → List ℕ → List ℕ
put_words ws zero k out = out
put_words ws (suc n) k out = put_words ws n (suc k) (put_word out k (get_or ws k 0))

-- all of this file computes where this is unfolded
unfoldable pub opened : Unit {0}
unfolding entry_at turned given lowest_doubled lowest_missing map_tokens put_words
opened = tt
