-- A rule's words, from where it stands in the text at hand.
use Rattle.std.specs.Prelude.{List, ◌∷◌, ◌++◌, ◌≡◌, ℕ, ◌≤◌, length}
use Rattle.std.proofs.Math.Option.{Option}
use Rattle.grammar.specs.Derived.{Took, GivesIn, RuleIn}
use Rattle.parts.specs.Form.{name_words, type_words}
use Rattle.parts.specs.Moved.{move_word, move_if}
use Rattle.parts.specs.Objects.{calls_all}
use Rattle.partwriter.specs.Put.{Puts, back}
use Rattle.syntax.specs.Written.{Rule}
use Rattle.words.specs.Words.{Word, words_at}
use Rattle.partrules.specs.Calls.{called}
use Rattle.partrules.specs.Marks.{mark_by, turn_cells}
use Rattle.partrules.specs.declared.Spot.{Spot}

-- a rule's name and its type, or 0
unfoldable pub head_words : ℕ → Rule → List ℕ
head_words moved r = name_words (move_word (back moved) r.rule) ++ type_words (move_if (back moved) r.gives)

-- a rule with these cells: as `rule_words` of crate parts has it
unfoldable pub rule_here : ℕ → ℕ → List ℕ → Rule → List ℕ
rule_here moved first cells r =
    let cs = calls_all r.body in
    head_words moved r ++ (length cs ∷ (called moved cs ++ (length cells ∷ turn_cells (mark_by first) cells)))

-- the type, from behind the rule's name, is written, and its colon is passed
pub record TypePut (text : List ℕ) (at moved : ℕ) (object : List ℕ) (c : ℕ) (object' : List ℕ) (h : Spot) : Type 0 where
  pub low : at ≤ h.at
  pub high : h.at ≤ length text
  pub done : (g : Option Word) (colon : Word) (ws₁ ws : List Word) → GivesIn (words_at text at) ws₁ g → Took 58 ws₁ colon ws
      → (ws ≡ words_at text h.at) × Puts object c (type_words (move_if (back moved) g)) object' h.count

-- and so is the whole head
pub record HeadPut (text : List ℕ) (at moved : ℕ) (object : List ℕ) (c : ℕ) (object' : List ℕ) (h : Spot) : Type 0 where
  pub low : at ≤ h.at
  pub high : h.at ≤ length text
  pub done : (r : Rule) (colon : Word) (ws₁ ws₂ ws : List Word) → Took 257 (words_at text at) r.rule ws₁ → GivesIn ws₁ ws₂ r.gives → Took 58 ws₂ colon ws
      → (ws ≡ words_at text h.at) × Puts object c (head_words moved r) object' h.count

-- the rule at the place `at` is written, these being its cells
pub record RulePut (text : List ℕ) (at moved first : ℕ) (cells object : List ℕ) (c : ℕ) (object' : List ℕ) (c' : ℕ) : Type 0 where
  pub done : (r : Rule) (ws : List Word) → RuleIn (words_at text at) ws r → Puts object c (rule_here moved first cells r) object' c'

-- all of this file computes where this is unfolded
unfoldable pub opened : Unit {0}
unfolding head_words rule_here
opened = tt
