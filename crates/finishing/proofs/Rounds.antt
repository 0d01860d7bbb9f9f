-- The facts that the test finds are exactly the true ones.
use mathlib.Core.Path.{◌≡◌, refl, sym, ap}
use mathlib.Core.Logic.{◌⊎◌, inl, inr}
use mathlib.Core.Bool.{Bool, true, false, cond, ◌&&◌, ◌||◌, not}
use mathlib.Core.List.{List, [], ◌∷◌, Memᴰ}
use mathlib.Core.Option.{Option, none, some}
use native.Mathlib.Omega.{arith}
use native.Mathlib.Decide.{dec_lt}
use Prim.Native.Nat.{ℕ, zero, suc, ◌+◌, ◌<◌, ◌≤◌}
use lib.Dec.{eqb}
use lib.ListN.{length}
use borrow.Author.Tests.{eqb-true, eq-eqb, not-true}
use Rattle.base.specs.Bools.{never, or, and, or₁, or₂, both, split}
use Rattle.base.specs.Tree.{plain, cycle, choice, done, ◌▸◌, nil, alternative, absent, otherwise}
use Rattle.program.specs.Program.{Plain, match, any, emit, error, exit, call, back, give, update, update_with, by_token, by_rule, by_operation, by_operation_with, Act, Acts, Alts, Other, Rule, body_of}
use Rattle.finishing.specs.Finishing.{named, Gives, Passed}
use Rattle.finishing.specs.Test.{end, gives, is_end, is_leave, is_return, is_give, is_call, is_far, Known, quiet_plain, quiet, quiets, quiet_some, quiet_named, quiet_other, Fact, passing, giving, same, within, tells_of, some_of, known_of, holds, find, onward, grow, values_plain, values, values_all, values_some, values_other, givings, facts, known}
use Rattle.finishing.proofs.Paths.{Given, Sound, Closed, passes-sound, gives-sound}

-- a number below n + 1
pub last : (n r : ℕ) → r < suc n → (r < n) ⊎ (r ≡ n)
last n r h = elim (dec_lt r n) [ yes l ↦ inl l | no x ↦ inr (omega arith) ]

same_true : (e f : Fact) → same e f ≡ true → e ≡ f
unfolding same
same_true (passing r) (passing s) h = rw (eqb-true r s h)
same_true (passing r) (giving s u) h = never h
same_true (giving r v) (passing s) h = never h
same_true (giving r v) (giving s u) h = let x = and (eqb r s) (eqb v u) h in rw (eqb-true r s x.0, eqb-true v u x.1)

same_self : (e : Fact) → same e e ≡ true
unfolding same
same_self (passing r) = eq-eqb r r refl
same_self (giving r v) = both (eqb r r) (eqb v v) (eq-eqb r r refl) (eq-eqb v v refl)

-- how many of fs are not among es
unfoldable pub missing : List Fact → List Fact → ℕ
missing [] es = 0
missing (f ∷ fs) es = cond (within es f) 0 1 + missing fs es

none-missing : (fs es : List Fact) → missing fs es ≡ 0 → {f : Fact} → Memᴰ f fs → within es f ≡ true
unfolding missing
none-missing (g ∷ fs) es e (mathlib.Core.List.Memᴰ.head p) =
    split (within es g) (λ d. rw p d) (λ d. let z : 1 + missing fs es ≡ 0 = rw d at e in absurd (omega arith))
none-missing (g ∷ fs) es e (mathlib.Core.List.Memᴰ.tail i) =
    split (within es g)
    (λ d. let z : 0 + missing fs es ≡ 0 = rw d at e in none-missing fs es (omega arith) i)
    (λ d. let z : 1 + missing fs es ≡ 0 = rw d at e in absurd (omega arith))
none-missing [] es e {f = f} x'' = elim x'' [ ]

pub one_more : (a b : Bool) → cond (a || b) 0 1 ≤ cond b 0 1
one_more true true = omega arith
one_more true false = omega arith
one_more false true = omega arith
one_more false false = omega arith

fewer-missing : (fs es : List Fact) (e : Fact) → missing fs (e ∷ es) ≤ missing fs es
unfolding missing within
fewer-missing [] es e = omega arith
fewer-missing (f ∷ fs) es e = omega (arith, one_more (same e f) (within es f), fewer-missing fs es e)

-- one more among them is one less missing
pub cons-missing : (fs es : List Fact) {e : Fact} → Memᴰ e fs → within es e ≡ false → missing fs (e ∷ es) < missing fs es
unfolding missing within
cons-missing (f ∷ fs) es {e} (mathlib.Core.List.Memᴰ.head p) h =
    let x : same e f ≡ true = rw (← p) (same_self e) in
    let y : within es f ≡ false = rw p at h in
    rw (x, y) (omega (arith, fewer-missing fs es e))
cons-missing (f ∷ fs) es {e} (mathlib.Core.List.Memᴰ.tail i) h = omega (arith, one_more (same e f) (within es f), cons-missing fs es i h)
cons-missing [] es {e = e} x'' h = elim x'' [ ]

pub missing-le : (fs es : List Fact) → missing fs es ≤ length fs
unfolding missing
missing-le [] es = omega arith
missing-le (f ∷ fs) es = split (within es f) (λ e. rw e (omega (arith, missing-le fs es))) (λ e. rw e (omega (arith, missing-le fs es)))

find_none : (t : Fact → Bool) (fs : List Fact) → find t fs ≡ none → {f : Fact} → Memᴰ f fs → t f ≡ true → ⊥
unfolding find
find_none t (g ∷ fs) e (mathlib.Core.List.Memᴰ.head p) h =
    let y : t g ≡ true = rw (← p) h in
    let z : some g ≡ none = rw y at e in
    let x : ◌≡◌ {A = Bool} false true = cc in
    never x
find_none t (g ∷ fs) e (mathlib.Core.List.Memᴰ.tail i) h =
    split (t g)
    (λ d. let z : some g ≡ none = rw d at e in let y : ◌≡◌ {A = Bool} false true = cc in never y)
    (λ d. find_none t fs (rw d at e) i h)
find_none t [] e {f = f} x3 h = elim x3 [ ]

find-some : (t : Fact → Bool) (fs : List Fact) (f : Fact) → find t fs ≡ some f → Memᴰ f fs × (t f ≡ true)
unfolding find
find-some t [] f e = let y : ◌≡◌ {A = Bool} false true = cc in never y
find-some t (g ∷ fs) f e =
    split (t g)
    (λ d. let z : some g ≡ some f = rw d at e in let y : f ≡ g = cc in (mathlib.Core.List.Memᴰ.head y, rw y d))
    (λ d. let ih = find-some t fs f (rw d at e) in (mathlib.Core.List.Memᴰ.tail ih.0, ih.1))

module _ (prog : List Rule) where
  -- the fact is one
  pub Is : Fact → Type 0
  Is (passing r) = Passed prog r
  Is (giving r v) = Gives prog r v

  pub of_rule : Fact → Type 0
  of_rule (passing r) = r < length prog
  of_rule (giving r v) = r < length prog

  abbrev AllAre : List Fact → Type 0
  AllAre es = (f : Fact) → within es f ≡ true → Is f

  are-rest : (e : Fact) (es : List Fact) → AllAre (e ∷ es) → AllAre es
  unfolding within
  are-rest e es h f d = h f (or₂ (same e f) (within es f) d)

  are-first : (e : Fact) (es : List Fact) → AllAre (e ∷ es) → Is e
  unfolding within
  are-first e es h = h e (or₁ (same e e) (within es e) (same_self e))

  are-more : (e : Fact) (es : List Fact) → Is e → AllAre es → AllAre (e ∷ es)
  unfolding within
  are-more e es x h f d = elim (or (same e f) (within es f) d) [ inl y ↦ rw (← same_true e f y) x | inr y ↦ h f y ]

  told : (e : Fact) (r : ℕ) (p : ℕ → Bool) → Is e → tells_of e r p ≡ true → Given prog r p
  unfolding tells_of Is
  told (passing s) r p x h = never h
  told (giving s v) r p x h =
      let y = and (eqb s r) (p v) h in
      record { value = v; quietly = rw (eqb-true s r y.0) at x; has = y.1 }

  values-are : (es : List Fact) (r : ℕ) (p : ℕ → Bool) → AllAre es → some_of es r p ≡ true → Given prog r p
  unfolding some_of
  values-are [] r p h d = never d
  values-are (e ∷ es) r p h d = elim (or (tells_of e r p) (some_of es r p) d) [
    | inl y ↦ told e r p (are-first e es h) y
    | inr y ↦ values-are es r p (are-rest e es h) y
  ]

  pub sound-known : (es : List Fact) → AllAre es → Sound prog (known_of es)
  unfolding known_of Is
  sound-known es h = record { of-passed = λ r d. h (passing r) d; of_values = λ r p d. values-are es r p h d }

  holds-is : (es : List Fact) (f : Fact) → AllAre es → of_rule f → holds prog (known_of es) f ≡ true → Is f
  unfolding holds Is of_rule
  holds-is es (passing r) h l d = passes-sound prog (known_of es) (sound-known es h) r l d
  holds-is es (giving r v) h l d = gives-sound prog (known_of es) (sound-known es h) r v l d

  module _ (fs : List Fact) where
    grow-are : ((f : Fact) → Memᴰ f fs → of_rule f) → (i : ℕ) (es : List Fact) → AllAre es → AllAre (grow prog fs i es)
    unfolding grow
    grow-are l zero es h = h
    grow-are l (suc i) es h = go (find (λ f. not (within es f) && holds prog (known_of es) f) fs) refl (λ f h₁. grow-are l i (f ∷ es) h₁)
      where
        go : (o : Option Fact) → find (λ f. not (within es f) && holds prog (known_of es) f) fs ≡ o → ((f : Fact) → AllAre (f ∷ es) → AllAre (grow prog fs i (f ∷ es)))
            → AllAre (onward o (λ f. grow prog fs i (f ∷ es)) es)
        go none e ih = h
        go (some f) e ih =
            let x = find-some (λ f. not (within es f) && holds prog (known_of es) f) fs f e in
            let y = and (not (within es f)) (holds prog (known_of es) f) x.1 in
            ih f (are-more f es (holds-is es f h (l f x.0) y.1) h)

    grow-closed : (i : ℕ) (es : List Fact) → missing fs es ≤ i → (f : Fact) → Memᴰ f fs → holds prog (known_of (grow prog fs i es)) f ≡ true → within (grow prog fs i es) f ≡ true
    unfolding grow
    grow-closed zero es h = λ f m d. none-missing fs es (omega arith) m
    grow-closed (suc i) es h = go (find (λ f. not (within es f) && holds prog (known_of es) f) fs) refl (λ f h₁. grow-closed i (f ∷ es) h₁)
      where
        go : (o : Option Fact) → find (λ f. not (within es f) && holds prog (known_of es) f) fs ≡ o
            → ((f : Fact) → missing fs (f ∷ es) ≤ i → (g : Fact) → Memᴰ g fs → holds prog (known_of (grow prog fs i (f ∷ es))) g ≡ true → within (grow prog fs i (f ∷ es)) g ≡ true)
            → (g : Fact) → Memᴰ g fs → holds prog (known_of (onward o (λ f. grow prog fs i (f ∷ es)) es)) g ≡ true → within (onward o (λ f. grow prog fs i (f ∷ es)) es) g ≡ true
        go none e ih = λ g m d. split (within es g) (λ x. x) (λ x. absurd (find_none (λ f. not (within es f) && holds prog (known_of es) f) fs e m (rw (x, d))))
        go (some f) e ih =
            let x = find-some (λ f. not (within es f) && holds prog (known_of es) f) fs f e in
            let y = and (not (within es f)) (holds prog (known_of es) f) x.1 in
            ih f (omega (arith, cons-missing fs es x.0 (not-true (within es f) y.0)))

-- A value that is returned stands after a `>>`

is_give_lem : (v u : ℕ) → is_give v (gives u) ≡ true → Memᴰ u (v ∷ [])
unfolding is_give
is_give_lem v u e = mathlib.Core.List.Memᴰ.head (sym (eqb-true v u e))

module _ (k : Known) (u : ℕ) where
  plain_value : (p : Plain) → quiet_plain k p (gives u) ≡ true → Memᴰ u (values_plain p)
  unfolding quiet_plain values_plain is_end is_leave is_return is_call
  plain_value (match t) e = never e
  plain_value any e = never e
  plain_value (emit t) e = never e
  plain_value (error t) e = never e
  plain_value exit e = never e
  plain_value (call r) e = never e
  plain_value back e = never e
  plain_value (give v) e = is_give_lem v u e
  plain_value (update op) e = never e
  plain_value (update_with op v) e = never e

  mutual
    unfolding quiet values is_end is_far is_call

    value_in : (a : Act) → quiet k a (gives u) ≡ true → Memᴰ u (values a)
    value_in (plain p) e = plain_value p e
    value_in (cycle b) e = values_in b e
    value_in (choice by_token q o) e = mathlib.Core.List.Memᴰ.append_right (values_some q) (value-other o e)
    value_in (choice (by_rule r) q o) e = elim (or (quiet_named k r q (gives u)) (k.some_value r (λ v. not (named v q)) && quiet_other k o (gives u)) e) [
      | inl y ↦ mathlib.Core.List.Memᴰ.append_left (values_other o) (value-named q r y)
      | inr y ↦ mathlib.Core.List.Memᴰ.append_right (values_some q) (value-other o (and (k.some_value r (λ v. not (named v q))) (quiet_other k o (gives u)) y).1)
    ]
    value_in (choice (by_operation op) q o) e = elim (or (quiet_some k q (gives u)) (quiet_other k o (gives u)) e) [
      | inl y ↦ mathlib.Core.List.Memᴰ.append_left (values_other o) (value-some q y)
      | inr y ↦ mathlib.Core.List.Memᴰ.append_right (values_some q) (value-other o y)
    ]
    value_in (choice (by_operation_with op v) q o) e = elim (or (quiet_some k q (gives u)) (quiet_other k o (gives u)) e) [
      | inl y ↦ mathlib.Core.List.Memᴰ.append_left (values_other o) (value-some q y)
      | inr y ↦ mathlib.Core.List.Memᴰ.append_right (values_some q) (value-other o y)
    ]

    pub values_in : (q : Acts) → quiets k q (gives u) ≡ true → Memᴰ u (values_all q)
    values_in done e = never e
    values_in (a ▸ q) e = elim (or (quiet k a (gives u)) (quiet k a end && quiets k q (gives u)) e) [
      | inl y ↦ mathlib.Core.List.Memᴰ.append_left (values_all q) (value_in a y)
      | inr y ↦ mathlib.Core.List.Memᴰ.append_right (values a) (values_in q (and (quiet k a end) (quiets k q (gives u)) y).1)
    ]

    value-some : (q : Alts) → quiet_some k q (gives u) ≡ true → Memᴰ u (values_some q)
    value-some nil e = never e
    value-some (alternative ls b q) e = elim (or (quiets k b (gives u)) (quiet_some k q (gives u)) e) [
      | inl y ↦ mathlib.Core.List.Memᴰ.append_left (values_some q) (values_in b y)
      | inr y ↦ mathlib.Core.List.Memᴰ.append_right (values_all b) (value-some q y)
    ]

    value-named : (q : Alts) (r : ℕ) → quiet_named k r q (gives u) ≡ true → Memᴰ u (values_some q)
    value-named nil r e = never e
    value-named (alternative ls b q) r e = elim (or (k.some_value r _ && quiets k b (gives u)) (quiet_named k r q (gives u)) e) [
      | inl y ↦ mathlib.Core.List.Memᴰ.append_left (values_some q) (values_in b (and (k.some_value r _) (quiets k b (gives u)) y).1)
      | inr y ↦ mathlib.Core.List.Memᴰ.append_right (values_all b) (value-named q r y)
    ]

    value-other : (o : Other) → quiet_other k o (gives u) ≡ true → Memᴰ u (values_other o)
    value-other absent e = never e
    value-other (otherwise b) e = values_in b e

pub giving-in : (r v : ℕ) {vs : List ℕ} → Memᴰ v vs → Memᴰ (giving r v) (givings r vs)
unfolding givings
giving-in r v (mathlib.Core.List.Memᴰ.head p) = mathlib.Core.List.Memᴰ.head (ap (giving r) p)
giving-in r v (mathlib.Core.List.Memᴰ.tail i) = mathlib.Core.List.Memᴰ.tail (giving-in r v i)

givings-of : (prog : List Rule) (r : ℕ) (vs : List ℕ) → r < length prog → {f : Fact} → Memᴰ f (givings r vs) → of_rule prog f
unfolding givings of_rule
givings-of prog r (v ∷ vs) l (mathlib.Core.List.Memᴰ.head p) = rw p l
givings-of prog r (v ∷ vs) l (mathlib.Core.List.Memᴰ.tail i) = givings-of prog r vs l i
givings-of prog r [] l {f = f} x'' = elim x'' [ ]

module _ (prog : List Rule) where
  facts-of : (n : ℕ) → n ≤ length prog → (f : Fact) → Memᴰ f (facts prog n) → of_rule prog f
  unfolding facts of_rule
  facts-of zero h f m = elim m [ ]
  facts-of (suc n) h f (mathlib.Core.List.Memᴰ.head p) = rw p (omega arith)
  facts-of (suc n) h f (mathlib.Core.List.Memᴰ.tail i) = elim (mathlib.Core.List.Memᴰ.append_cases (givings n (values_all (body_of prog n))) i) [
    | inl j ↦ givings-of prog n (values_all (body_of prog n)) (omega arith) j
    | inr j ↦ facts-of n (omega arith) f j
  ]

  passing-in : (n r : ℕ) → r < n → Memᴰ (passing r) (facts prog n)
  unfolding facts
  passing-in zero r l = absurd (omega arith)
  passing-in (suc n) r l = elim (last n r l) [
    | inl x ↦ mathlib.Core.List.Memᴰ.tail (mathlib.Core.List.Memᴰ.append_right (givings n (values_all (body_of prog n))) (passing-in n r x))
    | inr x ↦ mathlib.Core.List.Memᴰ.head (ap passing x)
  ]

  value-fact : (n r v : ℕ) → r < n → Memᴰ v (values_all (body_of prog r)) → Memᴰ (giving r v) (facts prog n)
  unfolding facts
  value-fact zero r v l m = absurd (omega arith)
  value-fact (suc n) r v l m = elim (last n r l) [
    | inl x ↦ mathlib.Core.List.Memᴰ.tail (mathlib.Core.List.Memᴰ.append_right (givings n (values_all (body_of prog n))) (value-fact n r v x m))
    | inr x ↦ let y : Memᴰ v (values_all (body_of prog n)) = rw x at m in
        let z : Memᴰ (giving n v) (facts prog (suc n)) = mathlib.Core.List.Memᴰ.tail (mathlib.Core.List.Memᴰ.append_left (facts prog n) (giving-in n v y)) in
        rw x z
  ]

  -- a value among the facts that has the property
  some-of-true : (es : List Fact) (r v : ℕ) (p : ℕ → Bool) → within es (giving r v) ≡ true → p v ≡ true → some_of es r p ≡ true
  unfolding within some_of tells_of
  some-of-true [] r v p d e = d
  some-of-true (f ∷ es) r v p d e = elim (or (same f (giving r v)) (within es (giving r v)) d) [
    | inl y ↦ or₁ (tells_of f r p) (some_of es r p) (rw (same_true f (giving r v) y) (tells r v p e))
    | inr y ↦ or₂ (tells_of f r p) (some_of es r p) (some-of-true es r v p y e)
  ]
    where
      tells : (r v : ℕ) (p : ℕ → Bool) → p v ≡ true → tells_of (giving r v) r p ≡ true
      tells r v p e = both (eqb r r) (p v) (eq-eqb r r refl) e

  found : List Fact
  found = grow prog (facts prog (length prog)) (length (facts prog (length prog))) []

  found-closed : (f : Fact) → Memᴰ f (facts prog (length prog)) → holds prog (known_of found) f ≡ true → within found f ≡ true
  unfolding found
  found-closed = grow-closed prog (facts prog (length prog)) (length (facts prog (length prog))) [] (missing-le (facts prog (length prog)) [])

  pub known-sound : Sound prog (known prog)
  unfolding known within
  known-sound = sound-known prog _ (grow-are prog (facts prog (length prog)) (facts-of (length prog) (omega arith)) (length (facts prog (length prog))) [] (λ f d. never d))

  closed : Closed prog (known_of found)
  unfolding known_of holds
  closed = record {
    of-passed = λ r l d. found-closed (passing r) (passing-in (length prog) r l) d;
    of_values = λ r v p l d e. some-of-true found r v p (found-closed (giving r v) (value-fact (length prog) r v l (values_in (known_of found) v (body_of prog r) d)) d) e;
  }

  pub known-closed : Closed prog (known prog)
  unfolding known found
  known-closed = closed
