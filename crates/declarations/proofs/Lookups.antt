-- Looking up a type, by crate names and by the row: one function of what was found.
use mathlib.Core.Bool.{Bool}
use mathlib.Core.List.{List}
use mathlib.Core.Option.{Option, none, some}
use mathlib.Core.Path.{◌≡◌, refl}
use Prim.Native.Nat.{ℕ, ◌+◌}
use Rattle.std.specs.Prelude.{if◌then◌else◌}
use Rattle.base.specs.Common.{given}
use Rattle.declarations.specs.Decls.{Decl, knowns_in, index_of, declared_in, mapped, elsewhere_in, lookup_in, type_in}
use Rattle.names.specs.Known.{Checked, good, wrong, Known, KnownType, find, find_type, declared, is_type, elsewhere, lookup, lookup_type}
use Rattle.syntax.specs.Written.{Program}
use Rattle.words.specs.Words.{Word}

-- what was found, or the fault of a type that is declared later, or of a word that is declared elsewhere or nowhere
unfoldable pub found : {A : Type 0} → Word → Option A → Bool → Bool → Checked A
found w (some a) later other = good a
found w none later other = if later then wrong 3 w else wrong (if other then 5 else 3) w

pub found-names : (p : Program) (ts : List KnownType) (w : Word) → lookup_type p ts w ≡ found w (find_type w.text ts) (is_type w.text p.sections) (declared p w.text)
unfolding lookup_type elsewhere found
found-names p ts w = go (find_type w.text ts)
  where
    go : (x : Option (List Known)) → elim x as (λ _. Checked (List Known)) [ some ks ↦ good ks | none ↦ if is_type w.text p.sections then wrong 3 w else elsewhere p w ]
        ≡ found w x (is_type w.text p.sections) (declared p w.text)
    go none = refl
    go (some ks) = refl

pub found-row : (ds before : List Decl) (w : Word)
    → type_in ds before w ≡ found w (mapped (λ i. 8 + i) (index_of 5 w.text 0 before)) (given (index_of 5 w.text 0 ds)) (declared_in w.text ds)
unfolding type_in elsewhere_in found
found-row ds before w = go (index_of 5 w.text 0 before)
  where
    go : (x : Option ℕ) → elim x as (λ _. Checked ℕ) [
      | some i ↦ good (8 + i)
      | none ↦ if given (index_of 5 w.text 0 ds) then wrong 3 w else wrong (elsewhere_in ds w.text) w
    ] ≡ found w (mapped (λ i. 8 + i) x) (given (index_of 5 w.text 0 ds)) (declared_in w.text ds)
    go none = refl
    go (some i) = refl

-- the value of a word in a class of the row
pub looked-up : (p : Program) (ds : List Decl) (c : ℕ) (w : Word) → declared p w.text ≡ declared_in w.text ds → lookup p (knowns_in c ds) w ≡ lookup_in ds c w
unfolding lookup lookup_in elsewhere elsewhere_in
looked-up p ds c w d = go (find w.text (knowns_in c ds))
  where
    other : elsewhere {A = ℕ} p w ≡ wrong (elsewhere_in ds w.text) w
    other = rw d

    go : (x : Option ℕ) → ◌≡◌ {A = Checked ℕ} (elim x as (λ _. Checked ℕ) [ some v ↦ good v | none ↦ elsewhere p w ])
        (elim x as (λ _. Checked ℕ) [ some v ↦ good v | none ↦ wrong (elsewhere_in ds w.text) w ])
    go none = other
    go (some v) = refl
