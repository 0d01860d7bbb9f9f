-- What the lookups of crate symbols tell of those of crate names.
use mathlib.Core.Bool.{Bool, true, false}
use mathlib.Core.List.{List}
use mathlib.Core.Option.{Option, none, some}
use mathlib.Core.Path.{◌≡◌, refl, sym, ap, ◌∙◌}
use Prim.Native.Nat.{ℕ, ◌+◌}
use native.Mathlib.Omega.{arith}
use borrow.Author.Tests.{eq-eqb, ne_eqb}
use lib.ListN.{length}
use Rattle.std.specs.Prelude.{if◌then◌else◌, Some, None, Ok, Err}
use Rattle.base.specs.Common.{given}
use Rattle.declarations.specs.Decls.{Decl, Agrees, knowns_in, index_of, decl_of, class_named, operation_from, rule_from, mapped, elsewhere_in, lookup_in, entries_of, operators_from}
use Rattle.declarations.proofs.Uses.{uses-elsewhere}
use Rattle.names.specs.Known.{Checked, good, wrong, ◌>>=◌, fault_if, KnownOperation, KnownRule, Names, find, find_operation, find_rule, elsewhere}
use Rattle.names.specs.Resolve.{operation_of, rule_named, ranked_of}
use Rattle.names.specs.Uses.{lowest_of, pairs_of}
use Rattle.program.specs.Made.{levels_of}
use Rattle.program.specs.Program.{Plain, call}
use Rattle.base.specs.Faults.{fault_number}
use Rattle.base.specs.declared.Fault.{Fault}
use Rattle.symbols.proofs.Numbered.{Numbered, found, missing, numbered}
use Rattle.symbols.proofs.Searches.{answer-some, answer-none}
use Rattle.symbols.specs.Rows.{answer_of, Looks, word_of, option_of, row_in, operation_in, operators_row, rule_in, gives_of}
use Rattle.syntax.specs.Written.{Program}
use Rattle.words.specs.Words.{Word}

-- Outcomes

-- good, or wrong at the word w
pub data About {A : Type 0} (w : Word) : Checked A → Type 0 where
  fine : {a : A} → About w (good a)
  faulty : {n : ℕ} → About w (wrong n w)

-- a lookup's answer in numbers
pub found-row : {v : ℕ} {m : Checked ℕ} → Looks (Ok v) m → Numbered 0 v m
found-row l = numbered l (refl, refl)

pub not-found : {f : Fault} {m : Checked ℕ} → Looks (Err f) m → Numbered (fault_number f) 0 m
not-found l = numbered l (refl, refl)

pub looks-good : {f v : ℕ} {m : Checked ℕ} → Numbered f v m → f ≡ 0 → m ≡ good v
looks-good (found e q) z = ap good (sym q)
looks-good (missing e q) z = absurd (q (sym e ∙ z))

pub looks-wrong : {f v : ℕ} {w : Word} {m : Checked ℕ} → About w m → Numbered f v m → (f ≡ 0 → ⊥) → m ≡ wrong f w
looks-wrong fine (found e q) z = absurd (z e)
looks-wrong {w = w} faulty (missing e q) z = ap (λ (k : ℕ). wrong k w) (sym e)

pub after-good : {A B : Type 0} {m : Checked A} (f : A → Checked B) (a : A) → m ≡ good a → ◌>>=◌ m f ≡ f a
after-good f a e = ap (λ m. ◌>>=◌ m f) e

pub after-wrong : {A B : Type 0} {m : Checked A} (f : A → Checked B) (n : ℕ) (w : Word) → m ≡ wrong n w → ◌>>=◌ m f ≡ wrong n w
after-wrong f n w e = ap (λ m. ◌>>=◌ m f) e

pub lookup-about : (ds : List Decl) (c : ℕ) (w : Word) → About w (lookup_in ds c w)
unfolding lookup_in
lookup-about ds c w = go (find w.text (knowns_in c ds))
  where
    go : (x : Option ℕ) → About {A = ℕ} w (elim x as (λ _. Checked ℕ) [ some v ↦ good v | none ↦ wrong (elsewhere_in ds w.text) w ])
    go none = faulty
    go (some v) = fine

pub row-about : (c : ℕ) (ds : List Decl) (w : Word) → About w (row_in c ds w)
unfolding row_in
row-about c ds w = go (index_of c w.text 0 ds)
  where
    go : (x : Option ℕ) → About {A = ℕ} w (elim x as (λ _. Checked ℕ) [ some v ↦ good v | none ↦ wrong (elsewhere_in ds w.text) w ])
    go none = faulty
    go (some v) = fine

wrong-good : {A : Type 0} {n : ℕ} {w : Word} {a : A} → ◌≡◌ {A = Checked A} (wrong n w) (good a) → ⊥
wrong-good e = let z : ◌≡◌ {A = ℕ} 0 1 = cc in omega (arith, z)

index-found : {x : Option ℕ} (m : ℕ) (w : Word) (i : ℕ) → (elim x as (λ _. Checked ℕ) [ some v ↦ good v | none ↦ wrong m w ]) ≡ good i → x ≡ some i
index-found {x = none} m w i e = absurd (wrong-good e)
index-found {x = some v} m w i e = cc

pub rule-about : (ds : List Decl) (w : Word) → About w (rule_in ds w)
unfolding rule_in
rule-about ds w = go (given (index_of 6 w.text 0 ds)) (index_of 7 w.text 0 ds)
  where
    go : (b : Bool) (x : Option ℕ) → About {A = ℕ} w (if b then wrong 5 w else elim x as (λ _. Checked ℕ) [ some v ↦ good v | none ↦ wrong (elsewhere_in ds w.text) w ])
    go true x = faulty
    go false none = faulty
    go false (some v) = fine

-- the row that was found
pub row-index : (c : ℕ) (ds : List Decl) (w : Word) (i : ℕ) → row_in c ds w ≡ good i → index_of c w.text 0 ds ≡ some i
unfolding row_in
row-index c ds w i e = index-found (elsewhere_in ds w.text) w i e

pub rule-index : (ds : List Decl) (w : Word) (i : ℕ) → rule_in ds w ≡ good i → index_of 7 w.text 0 ds ≡ some i
unfolding rule_in
rule-index ds w i e = go (given (index_of 6 w.text 0 ds)) e
  where
    go : (b : Bool) → (if b then wrong 5 w else elim (index_of 7 w.text 0 ds) as (λ _. Checked ℕ) [ some v ↦ good v | none ↦ wrong (elsewhere_in ds w.text) w ]) ≡ good i
        → index_of 7 w.text 0 ds ≡ some i
    go true q = absurd (wrong-good q)
    go false q = index-found (elsewhere_in ds w.text) w i q

-- Names by the row

-- an action that needs a procedure rule of the name
abbrev pub procedure_of : Program → Names → List KnownRule → (KnownRule → Plain) → Word → Checked Plain
procedure_of p names rs g w = ◌>>=◌ (rule_named p names rs w) (λ r. ◌>>=◌ (fault_if (given r.gives) 5 w) (λ _. good (g r)))

-- the call of the lowest rule that is made
abbrev pub lowest_for : Program → Names → Word → Word → Word → KnownRule → Plain
lowest_for p names s w o r = call (lowest_of names (record { sign = s; section = w; operand = o }) (length p.rules) (pairs_of p.rules))

module _ {p : Program} {names : Names} {rs : List KnownRule} {ds : List Decl} (ag : Agrees p names rs ds) where
  pub operation-is : (w : Word) → operation_of p names rs w ≡ ◌>>=◌ (operation_in ds w) (λ i. good (operation_from ds (decl_of ds i)))
  unfolding operation_of row_in
  operation-is w = ap (λ x. elim x as (λ _. Checked KnownOperation) [ some o ↦ good o | none ↦ elsewhere p w ]) (ag.operations w.text) ∙ go (index_of 6 w.text 0 ds)
    where
      go : (x : Option ℕ) → elim (mapped (λ i. operation_from ds (decl_of ds i)) x) as (λ _. Checked KnownOperation) [ some o ↦ good o | none ↦ elsewhere p w ]
          ≡ ◌>>=◌ (elim x as (λ _. Checked ℕ) [ some i ↦ good i | none ↦ wrong (elsewhere_in ds w.text) w ]) (λ i. good (operation_from ds (decl_of ds i)))
      go none = uses-elsewhere ag w
      go (some i) = refl

  -- `^` by the row of its section
  pub ranked-is : (s w o : Word) → ranked_of p names rs s w o ≡ ◌>>=◌ (operators_row ds w) (λ _. procedure_of p names rs (lowest_for p names s w o) o)
  unfolding ranked_of row_in
  ranked-is s w o =
      ap (λ x. elim x as (λ _. Checked Plain) [ none ↦ elsewhere p w | some ls ↦ procedure_of p names rs (lowest_for p names s w o) o ]) (ag.operators w.text) ∙ go (index_of 600 w.text 0 ds)
    where
      go : (x : Option ℕ) → elim (mapped (λ i. levels_of (operators_from ds (entries_of p i))) x) as (λ _. Checked Plain) [ none ↦ elsewhere p w | some ls ↦ procedure_of p names rs (lowest_for p names s w o) o ]
          ≡ ◌>>=◌ {A = ℕ} (elim x as (λ _. Checked ℕ) [ some i ↦ good i | none ↦ wrong (elsewhere_in ds w.text) w ]) (λ _. procedure_of p names rs (lowest_for p names s w o) o)
      go none = uses-elsewhere ag w
      go (some i) = refl

  given_is : (w : List ℕ) → given (find_operation w names.operations) ≡ given (index_of 6 w 0 ds)
  given_is w = ap given (ag.operations w) ∙ go (index_of 6 w 0 ds)
    where
      go : (x : Option ℕ) → given (mapped (λ i. operation_from ds (decl_of ds i)) x) ≡ given x
      go none = refl
      go (some i) = refl

  pub rule-is : (w : Word) → rule_named p names rs w ≡ ◌>>=◌ (rule_in ds w) (λ i. good (rule_from (decl_of ds i)))
  unfolding rule_named rule_in
  rule-is w =
      ap (λ b. if b then wrong 5 w else elim (find_rule w.text rs) as (λ _. Checked KnownRule) [ some r ↦ good r | none ↦ elsewhere p w ]) (given_is w.text)
      ∙ ap (λ x. if given (index_of 6 w.text 0 ds) then wrong 5 w else elim x as (λ _. Checked KnownRule) [ some r ↦ good r | none ↦ elsewhere p w ]) (ag.rules w.text)
      ∙ go (given (index_of 6 w.text 0 ds)) (index_of 7 w.text 0 ds)
    where
      go : (b : Bool) (x : Option ℕ) → (if b then wrong 5 w else elim (mapped (λ i. rule_from (decl_of ds i)) x) as (λ _. Checked KnownRule) [ some r ↦ good r | none ↦ elsewhere p w ])
          ≡ ◌>>=◌ (if b then wrong 5 w else elim x as (λ _. Checked ℕ) [ some i ↦ good i | none ↦ wrong (elsewhere_in ds w.text) w ]) (λ i. good (rule_from (decl_of ds i)))
      go true x = refl
      go false none = uses-elsewhere ag w
      go false (some i) = refl

-- The class of a type

pub class-there : (ds : List Decl) (w : List ℕ) (i : ℕ) → Some i ≡ answer_of (index_of 5 w 0 ds) → 8 + i ≡ class_named ds w
unfolding class_named
class-there ds w i e = rw (answer-some (index_of 5 w 0 ds) e) refl

pub class-nowhere : (ds : List Decl) (w : List ℕ) → None ≡ answer_of (index_of 5 w 0 ds) → 0 ≡ class_named ds w
unfolding class_named
class-nowhere ds w e = rw (answer-none (index_of 5 w 0 ds) e) refl

-- Declarations of the row

pub option-none : (text : List ℕ) (kind start len : ℕ) → len ≡ 0 → option_of text kind start len ≡ none
unfolding option_of
option-none text kind start len e = rw (eq-eqb len 0 e)

pub option-some : (text : List ℕ) (kind start len : ℕ) → (len ≡ 0 → ⊥) → option_of text kind start len ≡ some (word_of text kind start len)
unfolding option_of
option-some text kind start len e = rw (ne_eqb len 0 e)

pub gives_none : (ds : List Decl) (class : ℕ) → class ≡ 0 → gives_of ds class ≡ none
unfolding gives_of
gives_none ds class e = rw (eq-eqb class 0 e)

pub gives_some : (ds : List Decl) (class : ℕ) → (class ≡ 0 → ⊥) → gives_of ds class ≡ some (knowns_in class ds)
unfolding gives_of
gives_some ds class e = rw (ne_eqb class 0 e)
