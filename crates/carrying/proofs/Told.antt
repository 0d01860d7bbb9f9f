-- Laws of what carrying tells, one for each way out.
use mathlib.Core.Bool.{Bool, true, false}
use mathlib.Core.List.{List}
use mathlib.Core.Option.{none, some}
use mathlib.Core.Path.{◌≡◌, refl, sym, ◌∙◌, subst}
use Prim.Native.Nat.{ℕ}
use native.Mathlib.Omega.{arith}
use borrow.Author.Tests.{eq-eqb, ne_eqb}
use Rattle.carrier.specs.Sections.{Sections}
use Rattle.carrier.specs.Walks.{carried_by, CarriesWalk}
use Rattle.std.specs.Prelude.{Option, Some, None}
use Rattle.carry.specs.Carry.{same_all, carry, source_of}
use Rattle.carry.specs.Texts.{Answer, answer_of, between, carry_texts, told, outcome, carry_bytes}
use Rattle.machine.specs.Form.{walk_of, walk_bytes}
use Rattle.machine.specs.Walk as machine
use Rattle.walker.specs.View as view
use Rattle.walker.specs.declared.Walk.{Walk}
use Rattle.carrying.specs.Told.{Ready, Accepts, outcome_of, Tells, leaves}
use Rattle.carrying.specs.declared.Carried.{Carried}
use Rattle.carrying.proofs.Texts.{Refuses}

-- Between accepted texts

module _ {old a sheet new b other : List ℕ} (x : Ready old a sheet) (y : Ready new b other) (walk : Walk) where
  sections-are : (r : Bool) → Sections old new r → same_all (source_of old).sections (source_of new).sections ≡ r
  sections-are r s = (λ i. same_all (x.sections i) (y.sections i)) ∙ sym (s.same_as x.has_rules y.has_rules)

  pub sections-differ : (r : Bool) → Sections old new r → r ≡ false
      → Tells (record { number = 51; text = 0; start = 0; len = 0; walk = walk }) (answer_of (carry (source_of old) (source_of new) (view.walk_of walk)))
  unfolding outcome_of told answer_of carry
  sections-differ r s f = record { location = λ z. absurd (omega (arith, z)); is = λ bytes. rw (sections-are r s ∙ f) refl }

  module _ {o : Option Walk} (c : CarriesWalk a b old sheet new other walk o) (r : Bool) (s : Sections old new r) (t : r ≡ true) where
    pub walk-goes : (w : Walk) → o ≡ Some w → Tells (record { number = 0; text = 0; start = 0; len = 0; walk = w }) (answer_of (carry (source_of old) (source_of new) (view.walk_of walk)))
    unfolding outcome_of told answer_of carry carried_by view.walk_of view.walk_in
    walk-goes w e =
        let d : CarriesWalk a b old sheet new other walk (Some w) = subst (CarriesWalk a b old sheet new other walk) e c in
        record { location = λ _. d.location; is = λ bytes. rw (sections-are r s ∙ t, ← (d.is x.stands y.stands)) refl }

    pub walk-stays : o ≡ None → Tells (record { number = 52; text = 0; start = 0; len = 0; walk = walk }) (answer_of (carry (source_of old) (source_of new) (view.walk_of walk)))
    unfolding outcome_of told answer_of carry carried_by view.walk_of view.walk_in
    walk-stays e =
        let d : CarriesWalk a b old sheet new other walk None = subst (CarriesWalk a b old sheet new other walk) e c in
        record { location = λ z. absurd (omega (arith, z)); is = λ bytes. rw (sections-are r s ∙ t, ← (d.is x.stands y.stands)) refl }

-- Between any texts

module _ (old new : List ℕ) (walk : Walk) where
  refused_as : {number start len : ℕ} (text : ℕ) (answer : Answer) → (number ≡ 0 → ⊥)
      → ((bytes : List ℕ) → told answer bytes ≡ record { number = number; text = text; start = start; size = len; walk = bytes })
      → Tells (record { number = number; text = text; start = start; len = len; walk = walk }) answer
  unfolding outcome_of
  refused_as {number} text answer nz e = record { location = λ z. absurd (nz z); is = λ bytes. rw (ne_eqb number 0 nz) (sym (e bytes)) }

  pub old-refused : {number start len : ℕ} → Refuses old number start len → (number ≡ 0 → ⊥)
      → Tells (record { number = number; text = 1; start = start; len = len; walk = walk }) (carry_texts old new (view.walk_of walk))
  unfolding carry_texts between told
  old-refused x nz = refused_as 1 _ nz (λ bytes. rw (x.answers, ← x.begins, ← x.long) refl)

  pub new-refused : {a sheet : List ℕ} {number start len : ℕ} → Accepts old a sheet → Refuses new number start len → (number ≡ 0 → ⊥)
      → Tells (record { number = number; text = 2; start = start; len = len; walk = walk }) (carry_texts old new (view.walk_of walk))
  unfolding carry_texts between told
  new-refused x y nz = refused_as 2 _ nz (λ bytes. rw (x.answers, y.answers, ← y.begins, ← y.long) refl)

  pub both-accepted : {a sheet b other : List ℕ} {r : Carried} → Accepts old a sheet → Accepts new b other → Tells r (answer_of (carry (source_of old) (source_of new) (view.walk_of walk)))
      → Tells r (carry_texts old new (view.walk_of walk))
  unfolding carry_texts between
  both-accepted x y t = rw (x.answers, y.answers) t

-- Bytes

module _ (old new bytes : List ℕ) where
  pub no_walk : walk_of bytes ≡ none → leaves 21 0 0 0 bytes ≡ carry_bytes old new bytes
  unfolding leaves carry_bytes outcome
  no_walk e = rw e refl

  module _ {w : machine.Walk} (e : walk_of bytes ≡ some w) {r : Carried} (t : Tells r (carry_texts old new w)) where
    left : (bytes' : List ℕ) → bytes' ≡ (outcome_of r bytes).walk → leaves r.number r.text r.start r.len bytes' ≡ carry_bytes old new bytes
    unfolding leaves carry_bytes outcome outcome_of
    left bytes' d = rw e ((λ i. record { number = r.number; text = r.text; start = r.start; size = r.len; walk = d i }) ∙ t.is bytes)

    pub walk-carried : (bytes' : List ℕ) → r.number ≡ 0 → bytes' ≡ walk_bytes (view.walk_of r.walk) → leaves r.number r.text r.start r.len bytes' ≡ carry_bytes old new bytes
    unfolding outcome_of
    walk-carried bytes' z d = left bytes' (rw (eq-eqb r.number 0 z) d)

    pub walk_kept : (r.number ≡ 0 → ⊥) → leaves r.number r.text r.start r.len bytes ≡ carry_bytes old new bytes
    unfolding outcome_of
    walk_kept nz = left bytes (rw (ne_eqb r.number 0 nz) refl)
