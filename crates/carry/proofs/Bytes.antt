-- A carried walk has a byte form where the walk had one: its places lie in the new table.
use mathlib.Core.Bool.{Bool, true, false}
use mathlib.Core.List.{List, [], ◌∷◌}
use mathlib.Core.Option.{Option, none, some}
use mathlib.Core.Path.{◌≡◌, refl, sym, ap, ◌∙◌}
use Prim.Native.Nat.{ℕ, zero, suc, ◌+◌, ◌≤◌, ◌<◌}
use native.Mathlib.Omega.{arith}
use lib.ListN.{length, get_or}
use Rattle.base.proofs.Laws.{same-eq}
use Rattle.std.specs.Prelude.{if◌then◌else◌}
use Rattle.carry.proofs.Carrying.{keeping}
use Rattle.carry.proofs.Found.{length_marked}
use Rattle.carry.proofs.Lists.{some_inj, none-some, number-found, place-of}
use Rattle.carry.specs.Carry.{Source, Place, place_of, number_of, name_of, mark, marked_words, same_words, in_rule, carried_at, carry_place, beside, carry_places, carried, stays, put_at, same_all, carry}
use Rattle.machine.specs.Form.{Fits}
use Rattle.machine.specs.Walk.{Walk, moved, with_returns}
use Rattle.program.proofs.Places.{place-fits}
use Rattle.program.specs.Program.{rule_of}
use Rattle.program.specs.Table.{size_rule, size_rules, place}

module _ (p q : Source) (nq : length q.names ≡ length q.rules) where
  -- a carried place is a location of the new table
  place_inside : (l l' : ℕ) → carry_place p q l ≡ some l' → l' ≤ size_rules q.rules
  unfolding carry_place carried_at in_rule same_words
  place_inside l l' e = outer (place_of p.rules l) refl e
    where
      inner : (at : Place) (s : ℕ) → place_of p.rules l ≡ some at → number_of (name_of p.names at.rule) 0 q.names ≡ some s → (t : Bool) → same_words p q at.rule s ≡ t
          → (if t then some (place 1 q.rules s + at.offset) else none) ≡ some l' → l' ≤ size_rules q.rules
      inner at s d n true t e₁ =
          let y : place 1 q.rules s + at.offset ≡ l' = some_inj e₁ in
          let a = place-of p.rules l at d in
          let f = number-found (name_of p.names at.rule) 0 q.names s n in
          let z = same-eq (marked_words (mark p.names p.names) (rule_of p.rules at.rule)) (marked_words (mark p.names q.names) (rule_of q.rules s)) t in
          let m : size_rule (rule_of p.rules at.rule) ≡ size_rule (rule_of q.rules s) =
          sym (length_marked (mark p.names p.names) (rule_of p.rules at.rule)) ∙ ap length z ∙ length_marked (mark p.names q.names) (rule_of q.rules s) in
          let k = place-fits 1 q.rules s (omega (arith, f.1, f.2, nq)) in
          omega (arith, y, m, k, a.inside)
      inner at s d n false t e₁ = none-some e₁

      middle : (at : Place) → place_of p.rules l ≡ some at → (o : Option ℕ) → number_of (name_of p.names at.rule) 0 q.names ≡ o → in_rule p q at o ≡ some l' → l' ≤ size_rules q.rules
      middle at d none n e₁ = none-some e₁
      middle at d (some s) n e₁ = inner at s d n (same_words p q at.rule s) refl e₁

      outer : (o : Option Place) → place_of p.rules l ≡ o → carried_at p q o ≡ some l' → l' ≤ size_rules q.rules
      outer none d e₁ = none-some e₁
      outer (some at) d e₁ = middle at d (number_of (name_of p.names at.rule) 0 q.names) refl e₁

  places-inside : (ls ls' : List ℕ) → carry_places p q ls ≡ some ls' → (i : ℕ) → i < length ls' → get_or ls' i 0 ≤ size_rules q.rules
  unfolding carry_places beside
  places-inside [] ls' e i h = let z : [] ≡ ls' = some_inj e in absurd (omega (arith, h, ap length z))
  places-inside (l ∷ ls) ls' e i h = go (carry_place p q l) refl (carry_places p q ls) refl e (λ ms d j k. places-inside ls ms d j k)
    where
      at : (x : ℕ) (ms : List ℕ) → x ≤ size_rules q.rules → ((j : ℕ) → j < length ms → get_or ms j 0 ≤ size_rules q.rules) → (i : ℕ) → i < length (x ∷ ms) → get_or (x ∷ ms) i 0 ≤ size_rules q.rules
      at x ms a b zero k = a
      at x ms a b (suc j) k = b j (omega arith)

      go : (x : Option ℕ) → carry_place p q l ≡ x → (y : Option (List ℕ)) → carry_places p q ls ≡ y → beside x y ≡ some ls'
          → ((ms : List ℕ) → carry_places p q ls ≡ some ms → (j : ℕ) → j < length ms → get_or ms j 0 ≤ size_rules q.rules) → get_or ls' i 0 ≤ size_rules q.rules
      go none d y f e₁ ih = none-some e₁
      go (some x) d none f e₁ ih = none-some e₁
      go (some x) d (some ms) f e₁ ih =
          let z : (x ∷ ms) ≡ ls' = some_inj e₁ in
          let n : length (x ∷ ms) ≡ length ls' = ap length z in
          let k : i < length (x ∷ ms) = omega (arith, n, h) in
          rw (← z) (at x ms (place_inside l x d) (ih ms f) i k)

  no-stay : {A : Type 0} {n : ℕ} {w : Walk} → stays n ≡ carried w → A
  no-stay e = let z : ◌≡◌ {A = ℕ} 0 1 = cc in absurd (omega arith)

  carried-inj : {a b : Walk} → carried a ≡ carried b → a ≡ b
  carried-inj e = cc

  pub carried-fits : size_rules q.rules ≤ 4096 → (w w' : Walk) → carry p q w ≡ carried w' → Fits w → Fits w'
  unfolding carry put_at moved with_returns
  carried-fits small w w' c f = outer (same_all p.sections q.sections) c
    where
      inner : (x : Option ℕ) → carry_place p q w.location ≡ x → (y : Option (List ℕ)) → carry_places p q w.returns ≡ y → put_at w x y ≡ carried w' → Fits w'
      inner none d y g e = no-stay e
      inner (some x) d none g e = no-stay e
      inner (some x) d (some y) g e =
          let h = keeping p q w w' c in
          let z : moved x (with_returns y w) ≡ w' = carried-inj e in
          let a = place_inside w.location x d in
          let b = places-inside w.returns y g in
          let n : length y ≡ length w.returns = ap (λ (v : Walk). length v.returns) z ∙ h.depth in
          rw (← z) (record {
            location = omega (arith, a, small);
            result = f.result;
            parameter = f.parameter;
            depth = omega (arith, n, f.depth);
            returns = λ i k. omega (arith, b i k, small);
            read = f.read;
            used = f.used;
            allowance = f.allowance;
            events = f.events;
          })

      outer : (t : Bool) → (if t then put_at w (carry_place p q w.location) (carry_places p q w.returns) else stays 51) ≡ carried w' → Fits w'
      outer true e = inner (carry_place p q w.location) refl (carry_places p q w.returns) refl e
      outer false e = no-stay e
