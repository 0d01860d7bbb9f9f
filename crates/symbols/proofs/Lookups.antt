-- Laws of the words that are looked up: what the answers of the searches make of them.
use mathlib.Core.Bool.{true, false}
use mathlib.Core.List.{List}
use mathlib.Core.Option.{Option, none, some}
use mathlib.Core.Path.{◌≡◌, refl, ap, sym}
use Prim.Native.Nat.{ℕ, ◌+◌}
use Rattle.std.specs.Prelude.{if◌then◌else◌, Some, None, Result, Ok, Err}
use Rattle.std.proofs.lemmas.Option.{none-some, same_Some}
use Rattle.base.specs.Common.{given}
use Rattle.base.specs.Faults.{fault_number}
use Rattle.base.specs.declared.Fault.{Fault}
use Rattle.base.specs.declared.Fault.TheVariants.{NotWanted, Undeclared}
use Rattle.declarations.specs.Decls.{Decl, elsewhere_in, lookup_in, type_in, index_of, knowns_in}
use Rattle.names.specs.Known.{Checked, good, wrong, find}
use Rattle.symbols.specs.Rows.{Looks, found, missing, answer_of, row_in, rule_in}
use Rattle.words.specs.Words.{Word}

-- one of two: the number that a search gave, or the fault of a word elsewhere
there_is : (m v : ℕ) (w : Word) (o : Option ℕ) → Some v ≡ answer_of o → Looks (Ok v) (elim o [ some v ↦ good v | none ↦ wrong m w ])
there_is m v w none e = absurd (none-some v (sym e))
there_is m v w (some u) e = found (ap (λ (k : ℕ). Ok k) (same_Some v u e))

there-is-not : (f : Fault) (m : ℕ) (w : Word) (o : Option ℕ) → None ≡ answer_of o → fault_number f ≡ m → Looks (Err f) (elim o [ some v ↦ good v | none ↦ wrong m w ])
there-is-not f m w none e q = missing refl q
there-is-not f m w (some u) e q = absurd (none-some u e)

-- the fault of a type that is not among those before
abbrev later : List Decl → Word → Checked ℕ
later ds w = if given (index_of 5 w.text 0 ds) then wrong 3 w else wrong (elsewhere_in ds w.text) w

module _ (ds : List Decl) (w : Word) where
  pub value_there : (c v : ℕ) → Some v ≡ answer_of (find w.text (knowns_in c ds)) → Looks (Ok v) (lookup_in ds c w)
  unfolding lookup_in
  value_there c v t = there_is _ v w _ t

  pub value_not : (c : ℕ) (f : Fault) → None ≡ answer_of (find w.text (knowns_in c ds)) → fault_number f ≡ elsewhere_in ds w.text → Looks (Err f) (lookup_in ds c w)
  unfolding lookup_in
  value_not c f t e = there-is-not f _ w _ t e

  pub row-there : (c i : ℕ) → Some i ≡ answer_of (index_of c w.text 0 ds) → Looks (Ok i) (row_in c ds w)
  unfolding row_in
  row-there c i t = there_is _ i w _ t

  pub row-not : (c : ℕ) (f : Fault) → None ≡ answer_of (index_of c w.text 0 ds) → fault_number f ≡ elsewhere_in ds w.text → Looks (Err f) (row_in c ds w)
  unfolding row_in
  row-not c f t e = there-is-not f _ w _ t e

  pub rule-clashes : true ≡ given (index_of 6 w.text 0 ds) → Looks (Err NotWanted) (rule_in ds w)
  unfolding rule_in
  rule-clashes e = rw (sym e) (missing refl refl)

  pub rule-rest : {r : Result ℕ Fault} → false ≡ given (index_of 6 w.text 0 ds) → Looks r (row_in 7 ds w) → Looks r (rule_in ds w)
  unfolding rule_in row_in
  rule-rest e t = rw (sym e) t

  pub type-there : (before : List Decl) (i : ℕ) → Some i ≡ answer_of (index_of 5 w.text 0 before) → Looks (Ok (8 + i)) (type_in ds before w)
  unfolding type_in
  type-there before i t = go (index_of 5 w.text 0 before) t where
    go : (o : Option ℕ) → Some i ≡ answer_of o → Looks (Ok (8 + i)) (elim o [ some i ↦ good (8 + i) | none ↦ later ds w ])
    go none e = absurd (none-some i (sym e))
    go (some u) e = found (ap (λ (k : ℕ). Ok (8 + k)) (same_Some i u e))

  -- no type among those before
  type-none : (before : List Decl) → None ≡ answer_of (index_of 5 w.text 0 before) → type_in ds before w ≡ later ds w
  unfolding type_in
  type-none before t = go (index_of 5 w.text 0 before) t where
    go : (o : Option ℕ) → None ≡ answer_of o → elim o [ some i ↦ good (8 + i) | none ↦ later ds w ] ≡ later ds w
    go none e = refl
    go (some u) e = absurd (none-some u e)

  pub type-later : (before : List Decl) → None ≡ answer_of (index_of 5 w.text 0 before) → true ≡ given (index_of 5 w.text 0 ds) → Looks (Err Undeclared) (type_in ds before w)
  type-later before t e = rw (type-none before t, sym e) (missing refl refl)

  pub type-not : (before : List Decl) (f : Fault) → None ≡ answer_of (index_of 5 w.text 0 before) → false ≡ given (index_of 5 w.text 0 ds)
      → fault_number f ≡ elsewhere_in ds w.text → Looks (Err f) (type_in ds before w)
  type-not before f t e q = rw (type-none before t, sym e) (missing refl q)
