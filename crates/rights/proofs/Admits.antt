-- `admit` answers 0 exactly for a table that is taken and whose reachable operations are all granted; 48 names the lowest location.
use mathlib.Core.Bool.{Bool, true, false, ◌&&◌, not}
use mathlib.Core.List.{List}
use mathlib.Core.Logic.{◌⊎◌, inl, inr}
use mathlib.Core.Option.{Option, none, some}
use mathlib.Core.Path.{◌≡◌, refl, sym, ap, ◌∙◌}
use Prim.Native.Nat.{ℕ, zero, suc, ◌+◌, ◌-◌, ◌<◌, ◌≤◌}
use native.Mathlib.Decide.{dec_le}
use native.Mathlib.Omega.{arith}
use lib.Dec.{eqb, leb}
use lib.ListN.{length, get_or}
use borrow.Author.Tests.{eqb-true, eqb-false, leb-true, not-true}
use Rattle.base.proofs.Laws.{above_zero}
use Rattle.base.specs.Bools.{never, and, split}
use Rattle.std.specs.Prelude.{if◌then◌else◌}
use Rattle.base.specs.Common.{member}
use Rattle.machine.proofs.Decoded.{of-operation, of_one, of_two, of_word}
use Rattle.machine.specs.Decode.{fetch, Instruction, decode_two, decode_one, decode_at, decode}
use Rattle.machine.specs.Lengths.{lengths, length_of}
use Rattle.loading.proofs.Files.{loads-exactly}
use Rattle.loading.specs.Reach.{Taken}
use Rattle.rights.specs.Promise.{AdmitsExactly, Denied, NamesLowest, LargerAdmits, LoadedAnswers}
use Rattle.rights.specs.Rights.{operation_of, allows, right, Admitted, lowest, denied, Admission, says, admit, admit_loaded}
use Rattle.loading.specs.Taking.{reached, taken}
use Rattle.loading.proofs.Exact.{reached-reach, reach-reached, taken-Taken, Taken-taken, good-there}
use Rattle.loading.proofs.Members.{fetch-inside}

module _ (T set : List ℕ) where
  -- a location at which an operation is reached that is not granted
  abbrev Wrong : ℕ → Bool
  Wrong l = member l (reached T) && not (right T set l)

  lowest-none : (n l : ℕ) → 1 ≤ l → lowest T set n l ≡ 0 → (m : ℕ) → l ≤ m → m < l + n → Wrong m ≡ false
  unfolding lowest
  lowest-none zero l p e m a b = absurd (omega arith)
  lowest-none (suc n) l p e m a b = go (Wrong l) refl e (λ d. lowest-none n (suc l) (omega arith) d m)
    where
      step : (l ≡ m → ⊥) → l ≤ m → suc l ≤ m
      step ne h = elim (dec_le (suc l) m) [ yes t ↦ t | no f ↦ absurd (ne (omega arith)) ]

      go : (t : Bool) → Wrong l ≡ t → (if t then l else lowest T set n (suc l)) ≡ 0
          → (lowest T set n (suc l) ≡ 0 → suc l ≤ m → m < suc l + n → Wrong m ≡ false) → Wrong m ≡ false
      go true w d i = absurd (omega arith)
      go false w d i = split (eqb l m) (λ q. let z = eqb-true l m q in rw (← z) w) (λ q. i d (step (eqb-false l m q) a) (omega arith))

  -- what `lowest` names
  pub record Lowest (from l : ℕ) : Type 0 where
    pub after : from ≤ l
    pub wrong : Wrong l ≡ true
    pub first : (m : ℕ) → from ≤ m → m < l → Wrong m ≡ false

  lowest-is : (n l at : ℕ) → lowest T set n l ≡ at → 1 ≤ at → Lowest l at
  unfolding lowest
  lowest-is zero l at e p = absurd (omega arith)
  lowest-is (suc n) l at e p = go (Wrong l) refl e (λ d. lowest-is n (suc l) at d p)
    where
      step : (m : ℕ) → (l ≡ m → ⊥) → l ≤ m → suc l ≤ m
      step m ne h = elim (dec_le (suc l) m) [ yes t ↦ t | no f ↦ absurd (ne (omega arith)) ]

      go : (t : Bool) → Wrong l ≡ t → (if t then l else lowest T set n (suc l)) ≡ at → (lowest T set n (suc l) ≡ at → Lowest (suc l) at) → Lowest l at
      go true w d i = record { after = omega arith; wrong = rw d at w; first = λ m a b. absurd (omega arith) }
      go false w d i =
          let r = i d in
          record {
            after = omega (arith, r.after);
            wrong = r.wrong;
            first = λ m a b. split (eqb l m) (λ q. let z = eqb-true l m q in rw (← z) w) (λ q. r.first m (step m (eqb-false l m q) a) b);
          }

  lowest-zero : (n l : ℕ) → ((m : ℕ) → Wrong m ≡ false) → lowest T set n l ≡ 0
  unfolding lowest
  lowest-zero zero l f = refl
  lowest-zero (suc n) l f = rw (f l) (lowest-zero n (suc l) f)

  wrong-right : (m : ℕ) → member m (reached T) ≡ true → Wrong m ≡ false → right T set m ≡ true
  wrong-right m h w = go (right T set m) (rw h at w)
    where
      go : (r : Bool) → not r ≡ false → r ≡ true
      go true e = refl
      go false e = sym e

  right-wrong : (m : ℕ) → (member m (reached T) ≡ true → right T set m ≡ true) → Wrong m ≡ false
  right-wrong m f = go (member m (reached T)) (right T set m) f
    where
      go : (a r : Bool) → (a ≡ true → r ≡ true) → (a && not r) ≡ false
      go true true f = refl
      go true false f = sym (f refl)
      go false r f = refl

  pub admit-Admitted : (admit T set).number ≡ 0 → Taken T × Admitted T set
  unfolding admit denied
  admit-Admitted e = go (taken T) refl e
    where
      inner : taken T ≡ true → denied T set ≡ 0 → Admitted T set
      inner t z l r =
          let s = fetch-inside T l (good-there T l (taken-Taken T t l r)) in
          wrong-right l (reach-reached T t r) (lowest-none (length T) 1 (omega arith) z l s.0 (omega (arith, s.1)))

      zero-at : (b : Bool) → eqb (denied T set) 0 ≡ b → (if b then says 0 0 else says 48 (denied T set)).number ≡ 0
          → denied T set ≡ 0
      zero-at true q d = eqb-true (denied T set) 0 q
      zero-at false q d = absurd (omega arith)

      go : (t : Bool) → taken T ≡ t
          → (if t then (if eqb (denied T set) 0 then says 0 0 else says 48 (denied T set)) else says 41 0).number ≡ 0 → Taken T × Admitted T set
      go true t d = (taken-Taken T t, inner t (zero-at (eqb (denied T set) 0) refl d))
      go false t d = absurd (omega arith)

  pub Admitted-admit : Taken T → Admitted T set → admit T set ≡ says 0 0
  unfolding admit denied
  Admitted-admit t h =
      let z = lowest-zero (length T) 1 (λ m. right-wrong m (λ s. h m (reached-reach T m s))) in
      rw (Taken-taken T t, z)

pub admits-exactly : (T set : List ℕ) → AdmitsExactly T set
admits-exactly T set = record { only_these = admit-Admitted T set; all_these = Admitted-admit T set }

-- "above 1,279": no operation has a greater number
one_word : (i : ℕ) → length_of i ≡ 1 → i < 1280
unfolding length_of
one_word i e = go (leb 1 i && leb i 13) (leb 256 i && leb i 1279) refl refl e
  where
    go : (a b : Bool) → (leb 1 i && leb i 13) ≡ a → (leb 256 i && leb i 1279) ≡ b → (if a then get_or lengths (i - 1) 0 else if b then 1 else 0) ≡ 1 → i < 1280
    go true b x y d = omega (arith, leb-true i 13 (and (leb 1 i) (leb i 13) x).1)
    go false true x y d = omega (arith, leb-true i 1279 (and (leb 256 i) (leb i 1279) y).1)
    go false false x y d = absurd (omega arith)

Small : Instruction → Type 0
Small x = (op : ℕ) → operation_of x ≡ some op → op < 1280

no-operation {ℓ} : {A : Type ℓ} {op : ℕ} → none ≡ some op → A
no-operation e = let z : ◌≡◌ {A = ℕ} 0 1 = cc in absurd (omega arith)

this-operation : {i : ℕ} → i < 1280 → (op : ℕ) → some i ≡ some op → op < 1280
this-operation {i} h op e = let d : i ≡ op = cc in omega arith

small-decoded : (T : List ℕ) (l : ℕ) → Small (decode T l)
unfolding decode decode_at Small operation_of
small-decoded T l = go (fetch T l)
  where
    one : (i : ℕ) → i < 1280 → Small (decode_one i)
    one i h =
        of_one Small i (λ _ op e. no-operation e) (λ _ op e. no-operation e) (λ _ op e. no-operation e)
        (of-operation Small i (λ _. this-operation h) (λ _. this-operation h) (λ _. this-operation h) (λ _. this-operation h))

    two : (i x : ℕ) → Small (decode_two l i x)
    two i x =
        of_two Small l i x (λ _ m op e. no-operation e) (λ _ m op e. no-operation e) (λ _ op e. no-operation e) (λ _ op e. no-operation e) (λ _ op e. no-operation e)
        (λ _ c _ op e. no-operation e) (λ _ op e. no-operation e) (λ _ op e. no-operation e) (λ _ c _ op e. no-operation e) (λ op e. no-operation e)

    go : (o : Option ℕ) → Small (decode_at l o (fetch T (suc l)))
    go none = λ op e. no-operation e
    go (some i) = of_word Small l i (fetch T (suc l)) (λ op e. no-operation e) (λ e. one i (one_word i e)) (λ x _. two i x)

-- "Enlarging a set never turns away a table that was admitted."
pub larger-admits : LargerAdmits
unfolding right allows Small
larger-admits T set larger f e =
    let h = admit-Admitted T set e in
    ap (λ (v : Admission). v.number) (Admitted-admit T larger h.0 (λ l r. go (operation_of (decode T l)) (small-decoded T l) (h.1 l r)))
  where
    go : (o : Option ℕ) → ((op : ℕ) → o ≡ some op → op < 1280) → allows set o ≡ true → allows larger o ≡ true
    go none s d = d
    go (some op) s d = f op (s op refl) d

-- "naming the lowest such location"
pub names-lowest : NamesLowest
unfolding admit denied
names-lowest T set l e = go (taken T) refl e
  where
    impossible : says 0 0 ≡ says 48 l → ⊥
    impossible d = let z : ◌≡◌ {A = ℕ} 0 48 = ap (λ (v : Admission). v.number) d in omega arith

    is-lowest : taken T ≡ true → (at : ℕ) → denied T set ≡ at → (at ≡ 0 → ⊥) → Denied T set at
    is-lowest t at d n =
        let s = lowest-is T set (length T) 1 at d (above_zero at n) in
        let w = and (member at (reached T)) (not (right T set at)) s.wrong in
        record {
          takes = taken-Taken T t;
          reached = reached-reach T at w.0;
          not_granted = not-true (right T set at) w.1;
          lowest = λ m r f. elim (dec_le at m) [
            | yes h ↦ h
            | no h ↦ (let q = fetch-inside T m (good-there T m (taken-Taken T t m r)) in
                let a = s.first m q.0 (omega arith) in
                let b : (member m (reached T) && not (right T set m)) ≡ true = rw (reach-reached T t r, f) in
                never (sym a ∙ b))
          ];
        }

    there : taken T ≡ true → (b : Bool) → eqb (denied T set) 0 ≡ b → (if b then says 0 0 else says 48 (denied T set)) ≡ says 48 l → Denied T set l
    there t true q d = absurd (impossible d)
    there t false q d = is-lowest t l (ap (λ (v : Admission). v.location) d) (λ z. eqb-false (denied T set) 0 q (ap (λ (v : Admission). v.location) d ∙ z))

    go : (t : Bool) → taken T ≡ t
        → (if t then (if eqb (denied T set) 0 then says 0 0 else says 48 (denied T set)) else says 41 0) ≡ says 48 l → Denied T set l
    go true t d = there t (eqb (denied T set) 0) refl d
    go false t d = let z : ◌≡◌ {A = ℕ} 41 48 = ap (λ (v : Admission). v.number) d in absurd (omega arith)

pub loaded-answers : LoadedAnswers
unfolding admit_loaded admit
loaded-answers file set room ws verdict e = rw e (go (eqb (denied ws set) 0))
  where
    t : taken ws ≡ true
    t = Taken-taken ws ((loads-exactly file room ws verdict).only_these e).takes

    go : (b : Bool) → ((if taken ws then (if b then says 0 0 else says 48 (denied ws set)) else says 41 0).number ≡ 0) ⊎ ((if taken ws then (if b then says 0 0 else says 48 (denied ws set)) else says 41 0).number ≡ 48)
    go true = inl (rw t)
    go false = inr (rw t)
