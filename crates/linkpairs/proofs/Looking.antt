-- A pair sought among those collected, and the number of its lowest rule.
use mathlib.Core.Bool.{Bool, true, false, ◌&&◌}
use mathlib.Core.List.{List, [], ◌∷◌}
use mathlib.Core.Path.{◌≡◌, refl, sym, ap, ◌∙◌}
use native.Mathlib.Omega.{arith}
use Prim.Native.Nat.{ℕ, suc, ◌+◌, ◌<◌, ◌≤◌}
use lib.ListN.{length, get_or}
use Rattle.std.specs.Option.{IfSome, is_some, unwrap_or}
use Rattle.std.specs.Prelude.{Option, None, Some}
use Rattle.std.specs.Prelude.{if◌then◌else◌}
use Rattle.base.specs.Common.{same}
use Rattle.linkpairs.specs.Gather.{index_of}
use Rattle.linkpairs.specs.Standing.{PairAt, Stand, Numbered}
use Rattle.names.specs.Known.{Names}
use Rattle.names.specs.Uses.{Use, same_pair, is_used, levels_used, lowest_of}
use Rattle.objects.specs.View.{name_of}

-- Two pairs

pub pair-yes : (u v : Use) {b c : Bool} → b ≡ same (name_of u.section).text (name_of v.section).text → b ≡ true → c ≡ same (name_of u.operand).text (name_of v.operand).text → c ≡ same_pair u v
unfolding same_pair name_of
pair-yes u v e t f = f ∙ ap (λ (x : Bool). x && same u.operand.text v.operand.text) (sym (sym e ∙ t))

pub pair-no : (u v : Use) {b : Bool} → b ≡ same (name_of u.section).text (name_of v.section).text → b ≡ false → false ≡ same_pair u v
unfolding same_pair name_of
pair-no u v e t = ap (λ (x : Bool). x && same u.operand.text v.operand.text) (sym (sym e ∙ t))

-- Looking from pair to pair

pub record Looking (words sites : List ℕ) (us : List Use) (u : Use) (count i : ℕ) : Type 0 where
  pub left : List Use
  pub as_many : count ≡ i + length left
  pub stand : Stand words sites i left
  pub is : index_of u us ≡ i + index_of u left

pub look-first : {words sites : List ℕ} {us : List Use} {u : Use} {count : ℕ} → count ≡ length us → Stand words sites 0 us → Looking words sites us u count 0
look-first {us = us} e s = record { left = us; as_many = omega (arith, e); stand = s; is = omega arith }

module _ (words sites : List ℕ) (us : List Use) (u : Use) (count i : ℕ) (x : Looking words sites us u count i) where
  pub look-here : i < count → ((v : Use) → PairAt words (get_or sites i 0) v → same_pair u v ≡ true) → i ≡ index_of u us
  unfolding Stand index_of
  look-here l h = go x.left x.as_many x.stand x.is
    where
      go : (left : List Use) → count ≡ i + length left → Stand words sites i left → index_of u us ≡ i + index_of u left → i ≡ index_of u us
      go [] e s f = absurd (omega (arith, e, l))
      go (v ∷ left) e s f = sym (f ∙ rw (index_of, h v s.0) (omega arith))

  pub look-on : i < count → ((v : Use) → PairAt words (get_or sites i 0) v → same_pair u v ≡ false) → Looking words sites us u count (i + 1)
  unfolding Stand index_of
  look-on l h = go x.left x.as_many x.stand x.is
    where
      next : suc i ≡ i + 1
      next = omega arith

      go : (left : List Use) → count ≡ i + length left → Stand words sites i left → index_of u us ≡ i + index_of u left → Looking words sites us u count (i + 1)
      go [] e s f = absurd (omega (arith, e, l))
      go (v ∷ left) e s f = record { left = left; as_many = omega (arith, e); stand = rw (← next) s.1; is = f ∙ rw (index_of, h v s.0) (omega arith) }

  pub look-end : count ≤ i → i ≡ index_of u us
  unfolding index_of
  look-end l = go x.left x.as_many x.is
    where
      go : (left : List Use) → count ≡ i + length left → index_of u us ≡ i + index_of u left → i ≡ index_of u us
      go [] e f = omega (arith, f)
      go (v ∷ left) e f = absurd (omega (arith, e, l))

-- What looking found, with the number of all pairs for none

pub some-below : (o : Option ℕ) (k : ℕ) → IfSome o (λ i. i < k) → is_some o ≡ true → unwrap_or o k < k
some-below None k l e = absurd (let z : ◌≡◌ {A = ℕ} 0 1 = cc in omega (arith, z))
some-below (Some i) k l e = l

pub none-above : (o : Option ℕ) (k : ℕ) → is_some o ≡ false → k ≤ unwrap_or o k
none-above None k e = omega arith
none-above (Some i) k e = absurd (let z : ◌≡◌ {A = ℕ} 0 1 = cc in omega (arith, z))

-- Whether a pair stands there

pub index-used : (u : Use) (us : List Use) → index_of u us < length us → is_used u us ≡ true
unfolding index_of is_used
index-used u [] l = absurd (omega (arith, l))
index-used u (v ∷ us) l = go (same_pair u v) refl (index-used u us) l
  where
    go : (t : Bool) → same_pair u v ≡ t → (index_of u us < length us → is_used u us ≡ true) → (if t then 0 else suc (index_of u us)) < suc (length us) → is_used u (v ∷ us) ≡ true
    go true e f l = rw (is_used, e)
    go false e f l = rw (is_used, e) (f (omega (arith, l)))

pub index-not : (u : Use) (us : List Use) → length us ≤ index_of u us → is_used u us ≡ false
unfolding index_of is_used
index-not u [] l = refl
index-not u (v ∷ us) l = go (same_pair u v) refl (index-not u us) l
  where
    go : (t : Bool) → same_pair u v ≡ t → (length us ≤ index_of u us → is_used u us ≡ false) → suc (length us) ≤ (if t then 0 else suc (index_of u us)) → is_used u (v ∷ us) ≡ false
    go true e f l = absurd (omega (arith, l))
    go false e f l = rw (is_used, e) (f (omega (arith, l)))

-- The number of the lowest rule

pub lowest-there : (lowest : List ℕ) (names : Names) (u : Use) (us : List Use) (j own after : ℕ) → Numbered lowest names j own us after → index_of u us < length us → get_or lowest (j + index_of u us) 0 ≡ lowest_of names u own us
unfolding Numbered index_of lowest_of
lowest-there lowest names u [] j own after h l = absurd (omega (arith, l))
lowest-there lowest names u (v ∷ us) j own after h l = go (same_pair u v) refl (lowest-there lowest names u us (suc j) (own + length (levels_used names v)) after h.1) l
  where
    go : (t : Bool) → same_pair u v ≡ t → (index_of u us < length us → get_or lowest (suc j + index_of u us) 0 ≡ lowest_of names u (own + length (levels_used names v)) us)
        → (if t then 0 else suc (index_of u us)) < suc (length us) → get_or lowest (j + index_of u (v ∷ us)) 0 ≡ lowest_of names u own (v ∷ us)
    go true e f l = let z : j + 0 ≡ j = omega arith in rw (index_of, lowest_of, e) (ap (λ (i : ℕ). get_or lowest i 0) z ∙ h.0)
    go false e f l = let z : j + suc (index_of u us) ≡ suc j + index_of u us = omega arith in rw (index_of, lowest_of, e) (ap (λ (i : ℕ). get_or lowest i 0) z ∙ f (omega (arith, l)))

pub lowest-none : (names : Names) (u : Use) (us : List Use) (own : ℕ) → length us ≤ index_of u us → lowest_of names u own us ≡ 0
unfolding index_of lowest_of
lowest-none names u [] own l = refl
lowest-none names u (v ∷ us) own l = go (same_pair u v) refl (lowest-none names u us (own + length (levels_used names v))) l
  where
    go : (t : Bool) → same_pair u v ≡ t → (length us ≤ index_of u us → lowest_of names u (own + length (levels_used names v)) us ≡ 0)
        → suc (length us) ≤ (if t then 0 else suc (index_of u us)) → lowest_of names u own (v ∷ us) ≡ 0
    go true e f l = absurd (omega (arith, l))
    go false e f l = rw (lowest_of, e) (f (omega (arith, l)))
