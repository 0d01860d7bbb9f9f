-- What the functions that resolve actions promise: for every program whose declarations the rows hold, and every tree that stands at the place,
-- the outcome is that of crate names, the cells appended are the encoding of what it means, and the flags are those of crate program.
use Rattle.std.specs.Prelude.{Result, Ok, Err, Bool, ◌&&◌, ◌||◌, List, [], ◌∷◌, ◌++◌, ◌≡◌, ℕ, suc, ◌+◌, ◌-◌, ◌≤◌, length, take, drop}
use Rattle.base.specs.declared.Refusal.{Refusal}
use Rattle.base.specs.Common.{member}
use Rattle.base.specs.Tree.{cycle, choice, otherwise}
use Rattle.builder.specs.declared.Labelled.{Labelled}
use Rattle.cells.specs.Cells.{act_cells, acts_cells, alts_cells, other_cells}
use Rattle.declarations.specs.Decls.{Agrees, Decl, knowns_in}
use Rattle.grammar.specs.Derived.{Took, ActIn, ActsIn, AltsIn, LabelsIn, SelectorIn}
use Rattle.maker.specs.Pairs.{PairsAre}
use Rattle.names.specs.Known.{Checked, good, ◌>>=◌, Known, KnownRule, Names}
use Rattle.names.specs.Resolve.{Place, act_of, acts_of, alts_of, other_of, labels_of}
use Rattle.program.specs.Past.{past, past_all, past_some, past_other, exits, exits_all, exits_some, exits_other}
use Rattle.program.specs.Program as means
use Rattle.resolver.specs.Resolved.{DoneTold, BuiltTold, built_told, Ends, Flags}
use Rattle.symbols.specs.Rows.{held, gives_of}
use Rattle.syntax.specs.Written as written
use Rattle.syntax.specs.Written.{Program}
use Rattle.words.specs.Words.{Word, words_at}

-- in a cycle or not, in a rule that gives values of the class (0: in a procedure rule)
abbrev pub place_of : List Decl → Bool → ℕ → Place
place_of ds inside class = record { inside = inside; gives = gives_of ds class }

-- an alternative's labels and actions
unfoldable pub labelled_of : Program → Names → List KnownRule → List Word → written.Acts → Place → List Known → List ℕ → Checked (List ℕ × means.Acts)
labelled_of p names rs ls b at ks seen = do
  vs ← labels_of p names rs ls ks seen
  body ← acts_of p names rs b at
  good (vs, body)

-- a choice's alternatives and its otherwise
abbrev pub Choices : Type 0
Choices = means.Alts × means.Other

unfoldable pub choices_of : Program → Names → List KnownRule → written.Alts → written.Other → Place → List Known → List ℕ → Checked Choices
choices_of p names rs q o at ks seen = do
  alts ← alts_of p names rs q at ks seen
  other ← other_of p names rs o at
  good (alts, other)

-- their cells, where the cell `miss` stands for no otherwise
abbrev pub choices_cells : ℕ → Choices → List ℕ
choices_cells miss x = alts_cells x.0 (other_cells x.1 miss [])

-- whether one of them, or one before them, goes past itself (`one`), and whether one has an exit (`some`)
abbrev pub Marks : BuiltTold → Bool → Bool → Choices → Type 0
Marks r one some x = Flags r.past r.exits (one || (past_some x.0 || past_other x.1)) (some || (exits_some x.0 || exits_other x.1))

-- the cells before an alternative's actions, its labels being those from `from` to `to` of the choice's
unfoldable pub label_cells : List ℕ → ℕ → ℕ → List ℕ
label_cells seen from to = (64 + (to - from)) ∷ take (to - from) (drop from seen)

-- the cells keep their number, and what was read ends inside the text
pub record Kept (text : List ℕ) (from : ℕ) (cs cs' : List ℕ) (r : DoneTold) : Type 0 where
  pub same : length cs' ≡ length cs
  pub low : r.fault ≡ 0 → from ≤ r.at
  pub high : r.fault ≡ 0 → r.at ≤ length text

-- an action at the place `at`
pub record ActDone (text rows : List ℕ) (n at : ℕ) (inside : Bool) (class : ℕ) (cs : List ℕ) (c : ℕ) (cs' : List ℕ) (r : BuiltTold) : Type 0 where
  pub kept : Kept text (suc at) cs cs' r.done
  pub done : (p : Program) (names : Names) (rs : List KnownRule) → Agrees p names rs (held text rows n) → (a : written.Act) (ws : List Word)
      → ActIn (words_at text at) ws a
      → Ends (PairsAre text rows n p names) text ws cs c cs' (λ b. act_cells b []) (λ b. Flags r.past r.exits (past b) (exits b)) r.done
      (act_of p names rs a (place_of (held text rows n) inside class))

-- actions, after others that go past themselves (`before`) or have an exit (`some`)
pub record ActsDone (text rows : List ℕ) (n at : ℕ) (inside : Bool) (class : ℕ) (before some : Bool) (cs : List ℕ) (c : ℕ) (cs' : List ℕ)
    (r : BuiltTold) : Type 0 where
  pub kept : Kept text at cs cs' r.done
  pub done : (p : Program) (names : Names) (rs : List KnownRule) → Agrees p names rs (held text rows n) → (q : written.Acts) (ws : List Word)
      → ActsIn (words_at text at) ws q
      → Ends (PairsAre text rows n p names) text ws cs c cs' (λ b. acts_cells b []) (λ b. Flags r.past r.exits (before && past_all b) (some || exits_all b)) r.done
      (acts_of p names rs q (place_of (held text rows n) inside class))

-- a cycle after its brace
pub record CycleDone (text rows : List ℕ) (n at class : ℕ) (cs : List ℕ) (c : ℕ) (cs' : List ℕ) (r : BuiltTold) : Type 0 where
  pub kept : Kept text at cs cs' r.done
  pub done : (p : Program) (names : Names) (rs : List KnownRule) → Agrees p names rs (held text rows n) → (q : written.Acts) (close : Word)
      (ws₁ ws : List Word)
      → ActsIn (words_at text at) ws₁ q → Took 125 ws₁ close ws → (inside : Bool)
      → Ends (PairsAre text rows n p names) text ws cs c cs' (λ b. act_cells b []) (λ b. Flags r.past r.exits (past b) (exits b)) r.done
      (act_of p names rs (cycle q) (place_of (held text rows n) inside class))

-- a choice after its bracket
pub record ChoiceDone (text rows : List ℕ) (n at : ℕ) (inside : Bool) (class : ℕ) (cs : List ℕ) (c : ℕ) (cs' : List ℕ) (r : BuiltTold) : Type 0 where
  pub kept : Kept text at cs cs' r.done
  pub done : (p : Program) (names : Names) (rs : List KnownRule) → Agrees p names rs (held text rows n) → (s : written.Selector) (q : written.Alts)
      (o : written.Other)
      (bar : Word) (ws₁ ws₂ ws : List Word) → SelectorIn (words_at text at) ws₁ s → Took 124 ws₁ bar ws₂ → AltsIn ws₂ ws 64 q o
      → Ends (PairsAre text rows n p names) text ws cs c cs' (λ b. act_cells b []) (λ b. Flags r.past r.exits (past b) (exits b)) r.done
      (act_of p names rs (choice s q o) (place_of (held text rows n) inside class))

-- alternatives after a bar, after others of which one goes past itself (`one`) or has an exit (`some`); the choice's labels are of the class
-- `labels`, the first `used` of `seen` are those so far, and the cell `miss` stands for no otherwise
pub record AltsDone (text rows : List ℕ) (n at : ℕ) (inside : Bool) (class labels miss : ℕ) (seen : List ℕ) (used : ℕ) (one some : Bool) (cs : List ℕ)
    (c : ℕ) (cs' : List ℕ) (r : BuiltTold)
    : Type 0 where
  pub kept : Kept text at cs cs' r.done
  pub done : (p : Program) (names : Names) (rs : List KnownRule) → Agrees p names rs (held text rows n) → (q : written.Alts) (o : written.Other)
      (room : ℕ) (ws : List Word)
      → AltsIn (words_at text at) ws room q o → room + used ≤ length seen → (old : List ℕ) → ((v : ℕ) → member v old ≡ member v (take used seen))
      → Ends (PairsAre text rows n p names) text ws cs c cs' (choices_cells miss) (Marks r one some) r.done
      (choices_of p names rs q o (place_of (held text rows n) inside class) (knowns_in labels (held text rows n)) old)

-- otherwise after its star, whatever the cell for no otherwise
pub record OtherDone (text rows : List ℕ) (n at : ℕ) (inside : Bool) (class : ℕ) (cs : List ℕ) (c : ℕ) (cs' : List ℕ) (r : BuiltTold) : Type 0 where
  pub kept : Kept text at cs cs' r.done
  pub done : (p : Program) (names : Names) (rs : List KnownRule) → Agrees p names rs (held text rows n) → (q : written.Acts) (colon close : Word)
      (ws₁ ws₂ ws : List Word)
      → Took 58 (words_at text at) colon ws₁ → ActsIn ws₁ ws₂ q → Took 93 ws₂ close ws → (miss : ℕ)
      → Ends (PairsAre text rows n p names) text ws cs c cs' (λ b. other_cells b miss []) (λ b. Flags r.past r.exits (past_other b) (exits_other b)) r.done
      (other_of p names rs (otherwise q) (place_of (held text rows n) inside class))

-- the code's answer in numbers
pub record LabelledTold : Type 0 where
  pub built : BuiltTold
  pub used : ℕ

abbrev pub labelled_told : Result Labelled Refusal → LabelledTold
labelled_told (Ok l) = record { built = built_told (Ok l.built); used = l.used }
labelled_told (Err e) = record { built = built_told (Err e); used = 0 }

-- an alternative after its bar; its labels stand in `seen'` behind those before
pub record LabelledDone (text rows : List ℕ) (n at : ℕ) (inside : Bool) (class labels : ℕ) (seen : List ℕ) (used : ℕ) (seen' cs : List ℕ) (c : ℕ)
    (cs' : List ℕ) (r : LabelledTold)
    : Type 0 where
  pub kept : Kept text (suc at) cs cs' r.built.done
  pub same : length seen' ≡ length seen
  pub room : r.built.done.fault ≡ 0 → r.used ≤ length seen
  pub done : (p : Program) (names : Names) (rs : List KnownRule) → Agrees p names rs (held text rows n) → (ls : List Word) (q : written.Acts)
      (colon : Word) (ws₁ ws₂ ws : List Word)
      → LabelsIn (words_at text at) ws₁ ls → used + length ls ≤ length seen → Took 58 ws₁ colon ws₂ → ActsIn ws₂ ws q
      → (old : List ℕ) → ((v : ℕ) → member v old ≡ member v (take used seen))
      → Ends (PairsAre text rows n p names) text ws cs c cs' (λ x. (64 + length x.0) ∷ (x.0 ++ acts_cells x.1 []))
      (λ x. Flags r.built.past r.built.exits (past_all x.1) (exits_all x.1) × (r.used ≡ used + length ls) × (take r.used seen' ≡ take used seen ++ x.0))
      r.built.done
      (labelled_of p names rs ls q (place_of (held text rows n) inside class) (knowns_in labels (held text rows n)) old)

-- all of this file computes where this is unfolded
unfoldable pub opened : Unit {0}
unfolding labelled_of choices_of label_cells
opened = tt
