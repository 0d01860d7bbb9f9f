-- What the filter promises its publishers: which filters are accepted, and what the tokens of a byte string are.
use Rattle.std.specs.Prelude.{true, List, ◌≡◌, ℕ, ◌<◌, ◌≤◌, length, get_or}
use Rattle.std.proofs.Math.Option.{some}
use Rattle.std.proofs.Math.ListN.{get_elem?}
use Rattle.filtering.specs.Filter.{Entry, entries, has, holders}

-- e is an entry of the filter s
abbrev pub Among : List ℕ → Entry → Type 0
Among s e = (i : ℕ) × (get_elem? (entries s) i ≡ some e)

-- "up to 64 entries"; "Every byte value 0 to 255 must be in one entry and no more"; the byte string's tokens fit
pub record Accepted (s text : List ℕ) (room : ℕ) : Type 0 where
  pub few : length (entries s) ≤ 64
  pub straight : (e : Entry) → Among s e → e.first ≤ e.last
  pub once : (b : ℕ) → b < 256 → holders b (entries s) ≡ 1
  pub fits : length text ≤ room

-- "An accepted filter turns a byte string into tokens, one each, that of its entry"
pub record Folds (s text tokens : List ℕ) : Type 0 where
  pub one_each : length tokens ≡ length text
  pub its_entry : (k : ℕ) (e : Entry) → k < length text → Among s e → has (get_or text k 0) e ≡ true → get_or tokens k 0 ≡ e.token
