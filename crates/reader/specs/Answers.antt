-- What the code's answers say of the definitions.
use Rattle.std.specs.Prelude.{◌≡◌, List, [], ◌∷◌, ℕ, ◌+◌, ◌≤◌, ◌<◌, eqb, length, if◌then◌else◌}
use Rattle.std.specs.Prelude.{Result, Ok, Err}
use Rattle.base.specs.Faults.{fault_number}
use Rattle.base.specs.declared.Refusal.{Refusal}
use Rattle.scanner.specs.Next.{as_word}
use Rattle.scanner.specs.declared.WordAt.{WordAt}
use Rattle.syntax.specs.Reading.{Read, Reader, got, fault, peek}
use Rattle.words.specs.Words.{Word, words_at}

-- what `look` promises: `Next` inside the text
pub record Here (text : List ℕ) (at : ℕ) (w : WordAt) : Type 0 where
  pub head : peek (words_at text at) ≡ as_word text w
  pub more : 2 ≤ w.kind → words_at text at ≡ as_word text w ∷ words_at text w.next
  pub final : w.kind < 2 → words_at text at ≡ as_word text w ∷ []
  pub moves : 2 ≤ w.kind → at < w.next
  pub onto : at ≤ w.next
  pub low : at ≤ w.start
  pub inside : w.start + w.len ≤ length text
  pub high : w.next ≤ length text

-- an answer of the code but for its value: fault 0 and the place up to which it read; or the fault, the place and the length of its word
pub record Out : Type 0 where
  pub fault : ℕ
  pub at : ℕ
  pub len : ℕ

abbrev pub failing : Refusal → Out
failing e = record { fault = fault_number e.fault; at = e.at; len = e.len }

-- of a function that gives a place
abbrev pub out : Result ℕ Refusal → Out
out (Ok at) = record { fault = 0; at = at; len = 0 }
out (Err e) = failing e

-- of one that gives more, where this is its place
abbrev pub out_at : {X : Type 0} → (X → ℕ) → Result X Refusal → Out
out_at place (Ok x) = record { fault = 0; at = place x; len = 0 }
out_at place (Err e) = failing e

-- of one that gives nothing
abbrev pub done : Result (Unit {0}) Refusal → Out
done (Ok x) = record { fault = 0; at = 0; len = 0 }
done (Err e) = failing e

-- a reading but for its value: the words left, or a fault with its word's start and length
pub data Told : Type 0 where
  went : List Word → Told
  failed : ℕ → ℕ → ℕ → Told

abbrev pub told : {A : Type 0} → Read A → Told
told (got a ws) = went ws
told (fault n w) = failed n w.start (length w.text)

-- what an answer of the code says
unfoldable pub says : List ℕ → Out → Told
says text r = if eqb r.fault 0 then went (words_at text r.at) else failed r.fault r.at r.len

-- the answer r of the code is right for the reading m
pub record Tells {A : Type 0} (m : Read A) (text : List ℕ) (r : Out) : Type 0 where
  pub same : told m ≡ says text r

-- the value that is read, if one is, has the property
pub data Holds {A : Type 0} (P : A → Type 0) : Read A → Type 0 where
  held : {a : A} {ws : List Word} → P a → Holds P (got a ws)
  void : {n : ℕ} {w : Word} → Holds P (fault n w)

-- both
pub record Brings {A : Type 0} (P : A → Type 0) (m : Read A) (text : List ℕ) (r : Out) : Type 0 where
  pub tells : Tells m text r
  pub holds : Holds P m

-- what a function that reads from the place `at` promises; k is the definition's fuel, enough from the place `from`
pub record Reads {A : Type 0} (text : List ℕ) (at from : ℕ) (m : ℕ → Reader A) (r : Out) : Type 0 where
  pub low : at ≤ r.at
  pub high : r.at ≤ length text
  pub tells : (k : ℕ) → length text < from + k → Tells (m k (words_at text at)) text r

-- the same of a function that gets past its first word
pub record Moves {A : Type 0} (text : List ℕ) (at from : ℕ) (m : ℕ → Reader A) (r : Out) : Type 0 where
  pub reads : Reads text at from m r
  pub past : r.fault ≡ 0 → at < r.at

-- and of one that tells something of the value
pub record Yields {A : Type 0} (P : A → Type 0) (text : List ℕ) (at from : ℕ) (m : ℕ → Reader A) (r : Out) : Type 0 where
  pub low : at ≤ r.at
  pub high : r.at ≤ length text
  pub past : r.fault ≡ 0 → at < r.at
  pub brings : (k : ℕ) → length text < from + k → Brings P (m k (words_at text at)) text r

-- the answer r is the fault n at the word w
pub record Faulty (n : ℕ) (w : WordAt) (r : Out) : Type 0 where
  pub number : r.fault ≡ n
  pub place : r.at ≡ w.start
  pub size : r.len ≡ w.len

-- 1 at a bad word, 2 at any other
abbrev pub refusal : ℕ → ℕ
refusal kind = if eqb kind 0 then 1 else 2
