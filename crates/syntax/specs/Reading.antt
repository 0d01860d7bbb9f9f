-- Reading words one after the other: what is read, or the first fault 1, 2 or 9 at its word. "Then 1, 2, 9 by the first word in the
-- text, the lower number where one word has two": a word's kind is tested before a limit that it passes.
use Rattle.std.specs.Prelude.{List, [], ◌∷◌, ℕ, eqb, ltb, length, if◌then◌else◌}
use Rattle.std.proofs.Math.Option.{Option, none, some}
use Rattle.words.specs.Words.{Word, bad, last, name, number, string, value}

-- what reading gives: a value and the words left, or a fault and its word
pub data Read (A : Type 0) : Type 0 where
  got : A → List Word → Read A
  fault : ℕ → Word → Read A

abbrev pub Reader : Type 0 → Type 0
Reader A = List Word → Read A

unfoldable pub onward : {A B : Type 0} → Read A → (A → Reader B) → Read B
onward (got a ws) f = f a ws
onward (fault n w) f = fault n w

abbrev pub ◌>>=◌ : {A B : Type 0} → Reader A → (A → Reader B) → Reader B
◌>>=◌ m f ws = onward (m ws) f

abbrev pub ◌>>◌ : {A B : Type 0} → Reader A → Reader B → Reader B
◌>>◌ m k ws = onward (m ws) (λ _. k)

abbrev pub pure : {A : Type 0} → A → Reader A
pure a ws = got a ws

-- the next word; there always is one, since the last is the end or a bad word and nothing is read past it
unfoldable pub peek : List Word → Word
peek [] = record { kind = last; start = 0; text = [] }
peek (w ∷ ws) = w

unfoldable pub pass : Reader Word
pass [] = got (peek []) []
pass (w ∷ ws) = got w ws

-- "1 byte or quote that makes no word", "2 word not allowed here, or the text ends early"
unfoldable pub refuse : {A : Type 0} → Reader A
refuse ws = let w = peek ws in fault (if eqb w.kind bad then 1 else 2) w

-- "9 over a limit, at the first word past it"
unfoldable pub over : {A : Type 0} → Reader A
over ws = fault 9 (peek ws)

-- what is read if one more may be
unfoldable pub within : {A : Type 0} → ℕ → Reader A → Reader A
within left m ws = if eqb left 0 then over ws else m ws

-- the kind of the next word picks what is read
unfoldable pub on◌then◌else◌ : {A : Type 0} → ℕ → Reader A → Reader A → Reader A
(on k then a else b) ws = (if eqb (peek ws).kind k then a else b) ws

infixr 10 on◌then◌else◌
-- the next word, which has to be of this kind
unfoldable pub expect : ℕ → Reader Word
expect k = on k then pass else refuse

-- "32 bytes a name"
abbrev pub longest : ℕ
longest = 32

-- the next word, a name
unfoldable pub short : Reader Word
short ws = if ltb longest (length (peek ws).text) then over ws else pass ws

unfoldable pub a_name : Reader Word
a_name = on name then short else refuse

-- a name where `left` more may stand
unfoldable pub one_name : ℕ → Reader Word
one_name left = on name then within left short else refuse

unfoldable pub name_or_string : Reader Word
name_or_string = on string then pass else a_name

-- "values to 65,535": the next word, a number
unfoldable pub small : Reader ℕ
small ws = let n = value 0 (peek ws).text in if ltb 65535 n then over ws else onward (pass ws) (λ w. pure n)

unfoldable pub a_number : Reader ℕ
a_number = on number then small else refuse

-- a word of this kind and what is read after it, or nothing
unfoldable pub optional : {A : Type 0} → ℕ → Reader A → Reader (Option A)
optional k m = on k then (do pass; a ← m; pure (some a)) else pure none

-- all of this file computes where this is unfolded
unfoldable pub opened : Unit {0}
unfolding onward peek pass refuse over within on◌then◌else◌ expect short a_name one_name name_or_string small a_number optional
opened = tt
