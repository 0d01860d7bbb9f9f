-- A rule's head: its name, which nothing before it may have, and its type.
use Rattle.std.specs.Prelude.{Result, Ok, Err, Bool, ◌&&◌, ◌||◌, List, ◌≡◌, ℕ, ◌+◌, ◌≤◌, eqb, ltb, length}
use Rattle.std.proofs.Math.Option.{Option}
use Rattle.base.specs.Common.{given}
use Rattle.base.specs.Faults.{fault_number}
use Rattle.base.specs.declared.Refusal.{Refusal}
use Rattle.builder.specs.declared.Head.{Head}
use Rattle.declarations.specs.Decls.{Decl, index_of, optional_in}
use Rattle.grammar.specs.Derived.{Took, GivesIn}
use Rattle.names.specs.Known.{Checked, good, wrong, ◌>>=◌, fault_if}
use Rattle.symbols.specs.Rows.{held, number_of}
use Rattle.syntax.specs.Written.{Rule}
use Rattle.words.specs.Words.{Word, words_at}

-- an operation has the name, or a rule before declaration i
unfoldable pub taken_before : List Decl → ℕ → List ℕ → Bool
taken_before ds i w = given (index_of 6 w 0 ds) || ltb (number_of (index_of 7 w 0 ds)) i

-- the class of the values of rule k, 0 for a procedure rule; the first rule is declaration `first`
unfoldable pub head_of : List Decl → ℕ → ℕ → Rule → Checked ℕ
head_of ds first k r = do
  _ ← fault_if (taken_before ds (first + k) r.rule.text) 4 r.rule
  _ ← fault_if (eqb k 0 && given r.gives) 5 r.rule
  optional_in ds ds r.gives

-- the code's answer in numbers: the fault is 0, and there are the class and the place behind the head, or there is a fault at a word
pub record HeadTold : Type 0 where
  pub fault : ℕ
  pub at : ℕ
  pub len : ℕ
  pub class : ℕ

abbrev pub head_told : Result Head Refusal → HeadTold
head_told (Ok h) = record { fault = 0; at = h.at; len = 0; class = h.class }
head_told (Err e) = record { fault = fault_number e.fault; at = e.at; len = e.len; class = 0 }

-- the code's answer tells the class and the words left, or the fault at its word
pub data HeadEnd (text : List ℕ) (ws : List Word) (h : HeadTold) : Checked ℕ → Type 0 where
  headed : {class : ℕ} → h.fault ≡ 0 → ws ≡ words_at text h.at → h.class ≡ class → HeadEnd text ws h (good class)
  misheaded : {n : ℕ} {w : Word} → h.fault ≡ n → (n ≡ 0 → ⊥) → h.at ≡ w.start → h.len ≡ length w.text → HeadEnd text ws h (wrong n w)

-- a rule's type and its colon, from behind its name
pub record TypeDone (text rows : List ℕ) (n at : ℕ) (h : HeadTold) : Type 0 where
  pub high : h.fault ≡ 0 → h.at ≤ length text
  pub done : (g : Option Word) (colon : Word) (ws₁ ws : List Word) → GivesIn (words_at text at) ws₁ g → Took 58 ws₁ colon ws
      → HeadEnd text ws h (optional_in (held text rows n) (held text rows n) g)

-- a rule's head to its colon
pub record HeadDone (text rows : List ℕ) (n first k at : ℕ) (h : HeadTold) : Type 0 where
  pub high : h.fault ≡ 0 → h.at ≤ length text
  pub done : (r : Rule) (colon : Word) (ws₁ ws₂ ws : List Word) → Took 257 (words_at text at) r.rule ws₁ → GivesIn ws₁ ws₂ r.gives
      → Took 58 ws₂ colon ws
      → HeadEnd text ws h (head_of (held text rows n) first k r)

-- all of this file computes where this is unfolded
unfoldable pub opened : Unit {0}
unfolding taken_before head_of
opened = tt
