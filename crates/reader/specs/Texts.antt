-- What the functions that read a common part and a further part promise.
use Rattle.std.specs.Prelude.{◌≡◌, List, ◌∷◌, ℕ, ◌+◌, ◌≤◌, ◌<◌, min, length, if◌then◌else◌}
use Rattle.std.specs.Prelude.{Result, IfOk}
use Rattle.base.specs.declared.Refusal.{Refusal}
use Rattle.reader.specs.Answers.{Out, out, out_at, Brings, Holds, Moves}
use Rattle.reader.specs.Counting.{Decides}
use Rattle.reader.specs.declared.Counted.{Counted}
use Rattle.syntax.specs.Parse.{end_of, some_rules}
use Rattle.syntax.specs.Reading.{Read, got, fault, Reader, ◌>>=◌, ◌>>◌, pure, expect}
use Rattle.syntax.specs.Sections.{nothing, some_sections}
use Rattle.syntax.specs.Texts.{Common, a_head, some_heads, too_long}
use Rattle.syntax.specs.Written.{Rule}
use Rattle.words.specs.Words.{Word, words, words_at, rules, end}

-- a line of the list was read where one more name may be declared
pub record AHead (text : List ℕ) (at left : ℕ) (r : Out) : Type 0 where
  pub moves : Moves text at at (λ _. a_head left) r
  pub some : r.fault ≡ 0 → 0 < left

-- a common part up to its word `end`
unfoldable pub up_to_end : ℕ → Reader Common
up_to_end k = do
  s ← some_sections k nothing
  expect rules
  hs ← some_heads k (min 128 s.left)
  pure (record { sections = s.sections; left = s.left; listed = hs })

pub record Shares (text : List ℕ) (r : Result Counted Refusal) : Type 0 where
  pub high : (out_at (λ c. c.at) r).at ≤ length text
  pub brings : Brings (λ (c : Common). IfOk r (λ n. c.left ≡ n.room)) (up_to_end (length text + 1) (words text)) text (out_at (λ c. c.at) r)

-- the answer r decides the reading m, and what is read has the property
pub record Settles {A : Type 0} (P : A → Type 0) (r : Out) (m : Read A) : Type 0 where
  pub decides : Decides r m
  pub holds : Holds P m

-- the common part c is read up to its word `end`, which begins at the place `at`; its sections leave n names
pub record Listed (text : List ℕ) (at n : ℕ) (c : Common) : Type 0 where
  pub leaves : c.left ≡ n
  pub inside : at < length text
  pub keyword : Word
  pub kind : keyword.kind ≡ end
  pub start : keyword.start ≡ at
  pub rest : List Word
  pub reads : up_to_end (length text + 1) (words text) ≡ got c (keyword ∷ rest)

-- the word `rules` stands before the place `at`, and behind it the rules rs, where `left` names may be declared
pub record RulesAt (text : List ℕ) (left at : ℕ) (rs : List Rule) : Type 0 where
  pub some : 0 < at
  pub inside : at ≤ length text
  pub keyword : Word
  pub first : words text ≡ keyword ∷ words_at text at
  pub rest : List Word
  pub reads : some_rules (length text + 1) (min 128 left) (words_at text at) ≡ got rs rest

-- what `check_common` and `check_part` promise, of these readings
abbrev pub SettlesCommon : List ℕ → Result Counted Refusal → Read Common → Type 0
SettlesCommon text r m = Settles (λ c. IfOk r (λ n. Listed text n.at n.room c)) (out_at (λ n. n.at) r) m

abbrev pub SettlesPart : List ℕ → ℕ → Result ℕ Refusal → Read (List Rule) → Type 0
SettlesPart text left r m = Settles (λ rs. IfOk r (λ at. RulesAt text left at rs)) (out r) m

-- "Text over 32,768 bytes is 9 before all else", as in `parse`
unfoldable pub unless_long : {A : Type 0} → List ℕ → Read A → Read A
unless_long text m = if too_long text then fault 9 (end_of text) else m
