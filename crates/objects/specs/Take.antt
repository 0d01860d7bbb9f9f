-- Taking words off the front of words: what is taken, and the words left; or nothing, where they are not of that form.
use Rattle.std.specs.Prelude.{List, [], ◌∷◌, ℕ, zero, suc, ◌-◌, ◌/◌, ◌%◌, eqb, leb, length, take, drop, if◌then◌else◌}
use Rattle.base.specs.Common.{same}

pub data Taken (A : Type 0) : Type 0 where
  took : A → List ℕ → Taken A
  missing : Taken A

abbrev pub Taker : Type 0 → Type 0
Taker A = List ℕ → Taken A

unfoldable pub onward : {A B : Type 0} → Taken A → (A → Taker B) → Taken B
onward (took a ws) f = f a ws
onward missing f = missing

abbrev pub ◌>>=◌ : {A B : Type 0} → Taker A → (A → Taker B) → Taker B
◌>>=◌ m f ws = onward (m ws) f

abbrev pub pure : {A : Type 0} → A → Taker A
pure a ws = took a ws

unfoldable pub refuse : {A : Type 0} → Taker A
refuse ws = missing

-- one word
unfoldable pub a_word : Taker ℕ
a_word [] = missing
a_word (x ∷ ws) = took x ws

-- n words
unfoldable pub some_words : ℕ → Taker (List ℕ)
some_words n ws = if leb n (length ws) then took (take n ws) (drop n ws) else missing

-- the word n and no other
unfoldable pub the_word : ℕ → Taker (Unit {0})
the_word n = do
  x ← a_word
  if eqb x n then pure tt else refuse

-- these words and no others
unfoldable pub the_words : List ℕ → Taker (Unit {0})
the_words xs = do
  ws ← some_words (length xs)
  if same ws xs then pure tt else refuse

-- n times the same, one behind the other
unfoldable pub times : {A : Type 0} → ℕ → Taker A → Taker (List A)
times zero m ws = took [] ws
times (suc n) m ws =
    (do
      a ← m
      as' ← times n m
      pure (a ∷ as')) ws

-- what is taken, and of how many words
pub record Counted (A : Type 0) : Type 0 where
  pub value : A
  pub count : ℕ

unfoldable pub counted : {A : Type 0} → Taker A → Taker (Counted A)
counted m ws = onward (m ws) (λ a rest. took (record { value = a; count = length ws - length rest }) rest)

unfoldable pub if_sized : {A : Type 0} → ℕ → ℕ → Counted A → Taker A
if_sized high low c = if eqb high (c.count / 65536) then (if eqb low (c.count % 65536) then pure c.value else refuse) else refuse

-- behind the number of its words, in two words
unfoldable pub sized : {A : Type 0} → Taker A → Taker A
sized m = do
  high ← a_word
  low ← a_word
  c ← counted m
  if_sized high low c

-- all of this file computes where this is unfolded
unfoldable pub opened : Unit {0}
unfolding onward refuse a_word some_words the_word the_words times counted if_sized sized
opened = tt
