-- What the users of the row need: a lookup by crate names is the row's, where the names agree with the row.
use mathlib.Core.Bool.{Bool, true, false}
use mathlib.Core.List.{List, []}
use mathlib.Core.Option.{Option, none, some}
use mathlib.Core.Path.{◌≡◌, refl, sym}
use Prim.Native.Nat.{ℕ, ◌+◌}
use Rattle.base.specs.Common.{given}
use Rattle.declarations.proofs.Lookups.{found, found-names, found-row, looked-up}
use Rattle.declarations.specs.Decls.{Decl, knowns_in, index_of, declared_in, type_class, class_named, mapped, Agrees, elsewhere_in, lookup_in, type_in, optional_in}
use Rattle.names.specs.Known.{Checked, good, wrong, ◌>>=◌, Known, KnownRule, Names, find_type, elsewhere, lookup, lookup_type, optional_type}
use Rattle.names.specs.Resolve as resolve
use Rattle.syntax.specs.Written.{Program}
use Rattle.words.specs.Words.{Word}

module _ {p : Program} {n : Names} {rs : List KnownRule} {ds : List Decl} (agrees : Agrees p n rs ds) where
  pub uses-elsewhere : {A : Type 0} (w : Word) → elsewhere {A = A} p w ≡ wrong (elsewhere_in ds w.text) w
  unfolding elsewhere elsewhere_in
  uses-elsewhere w = rw (agrees.declared w.text)

  pub uses-lookup : (c : ℕ) (w : Word) → lookup p (knowns_in c ds) w ≡ lookup_in ds c w
  uses-lookup c w = looked-up p ds c w (agrees.declared w.text)

  pub uses-type : (w : Word) → lookup_type p n.types w ≡ ◌>>=◌ (type_in ds ds w) (λ c. good (knowns_in c ds))
  unfolding found
  uses-type w =
      rw (found-names, found-row, agrees.types w.text, agrees.is_type w.text, agrees.declared w.text)
      (go (index_of 5 w.text 0 ds) (given (index_of 5 w.text 0 ds)) (declared_in w.text ds))
    where
      go : (x : Option ℕ) (t u : Bool) → found w (mapped (λ i. knowns_in (8 + i) ds) x) t u ≡ ◌>>=◌ (found w (mapped (λ i. 8 + i) x) t u) (λ c. good (knowns_in c ds))
      go none true u = refl
      go none false u = refl
      go (some i) t u = refl

  pub uses-optional : (x : Option Word) → optional_type p n.types x ≡ ◌>>=◌ (optional_in ds ds x) (λ c. good (mapped (λ _. knowns_in c ds) x))
  unfolding optional_type optional_in
  uses-optional none = refl
  uses-optional (some w) = rw (uses-type w) (go (type_in ds ds w))
    where
      go : (x : Checked ℕ) → ◌>>=◌ (◌>>=◌ x (λ c. good (knowns_in c ds))) (λ ks. good (some ks)) ≡ ◌>>=◌ x (λ c. good (some (knowns_in c ds)))
      go (good c) = refl
      go (wrong k v) = refl

  pub uses-members : (t : List ℕ) → resolve.members_of p n rs t ≡ knowns_in (class_named ds t) ds
  unfolding resolve.members_of class_named
  uses-members t = go (find_type t n.types) (index_of 5 t 0 ds) (agrees.types t)
    where
      go : (y : Option (List Known)) (x : Option ℕ) → y ≡ mapped (λ i. knowns_in (8 + i) ds) x
          → elim y as (λ _. List Known) [ some ks ↦ ks | none ↦ [] ] ≡ knowns_in (type_class x) ds
      go none none e = sym agrees.nowhere
      go none (some i) e = cc
      go (some ks) none e = cc
      go (some ks) (some i) e = cc
