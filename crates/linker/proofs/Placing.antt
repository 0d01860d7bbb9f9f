-- The first rule of a name, by the names in words: what linking takes for the number of a call.
use mathlib.Core.Bool.{Bool, true, false, ◌||◌}
use mathlib.Core.List.{List, [], ◌∷◌}
use mathlib.Core.Option.{some}
use mathlib.Core.Path.{◌≡◌, refl, sym, ap, ◌∙◌}
use native.Mathlib.Numerals.{add-one}
use native.Mathlib.Omega.{arith}
use Prim.Native.Nat.{ℕ, zero, suc, ◌+◌, ◌-◌, ◌<◌, ◌≤◌, min}
use native.Mathlib.Decide.{dec_lt}
use borrow.Author.Tests.{eq-eqb, ne_eqb, lt-ltb, ltb-true}
use lib.Dec.{ltb}
use lib.ListN.{length, get_or, take, drop, get_or-eq_default}
use lib.Seq.{drop-cons}
use Rattle.base.proofs.Laws.{same-eq, is_false}
use Rattle.base.specs.Bools as bools
use Rattle.std.specs.Prelude.{if◌then◌else◌}
use Rattle.base.specs.Common.{same}
use Rattle.names.specs.Known.{KnownRule, Names, find_rule}
use Rattle.names.specs.Uses.{Use}
use Rattle.parts.specs.Link.{is_named, text_of, known_of, place_for}
use Rattle.parts.specs.Objects.{named, OpenRule}
use Rattle.linker.specs.Place.{letters, text_at, texts_at, place_of, rule_texts, places_for, behind_name, texts_from, texts_end}

-- Letters

pub letters-length : (ws : List ℕ) (p n : ℕ) → length (letters ws p n) ≡ n
unfolding letters
letters-length ws p zero = refl
letters-length ws p (suc n) = ap suc (letters-length ws (suc p) n)

-- within the words they are the words
pub letters-are : (ws : List ℕ) (p n : ℕ) → p + n ≤ length ws → letters ws p n ≡ take n (drop p ws)
unfolding letters
letters-are ws p zero l = refl
letters-are ws p (suc n) l =
    let h : p < length ws = omega arith in
    rw (drop-cons ws p 0 h) (ap (λ m. get_or ws p 0 ∷ m) (letters-are ws (suc p) n (omega arith)))

-- one more letter compared
letters-next : (ws : List ℕ) (p i n : ℕ) → i < n → letters ws (p + i) (n - i) ≡ get_or ws (p + i) 0 ∷ letters ws (p + (i + 1)) (n - (i + 1))
unfolding letters
letters-next ws p i n l =
    let z : n - i ≡ suc (n - (i + 1)) = omega arith in
    let y : suc (p + i) ≡ p + (i + 1) = omega arith in
    ap (letters ws (p + i)) z ∙ ap (λ q. get_or ws (p + i) 0 ∷ letters ws q (n - (i + 1))) y

same_head : (x y : ℕ) (xs ys : List ℕ) → x ≡ y → same (x ∷ xs) (y ∷ ys) ≡ same xs ys
same_head x y xs ys e = rw (eq-eqb x y e)

other-head : (x y : ℕ) (xs ys : List ℕ) → (x ≡ y → ⊥) → same (x ∷ xs) (y ∷ ys) ≡ false
other-head x y xs ys n = rw (ne_eqb x y n)

-- what is left to compare of n words from p and from q on, i being the same
abbrev pub Left : List ℕ → ℕ → ℕ → ℕ → ℕ → Bool
Left ws p q n i = same (letters ws (p + i) (n - i)) (letters ws (q + i) (n - i))

module _ (ws : List ℕ) (p q n i : ℕ) where
  pub left-next : i < n → get_or ws (p + i) 0 ≡ get_or ws (q + i) 0 → Left ws p q n i ≡ Left ws p q n (i + 1)
  left-next l e = rw (letters-next ws p i n l, letters-next ws q i n l) (same_head (get_or ws (p + i) 0) (get_or ws (q + i) 0) (letters ws (p + (i + 1)) (n - (i + 1))) (letters ws (q + (i + 1)) (n - (i + 1))) e)

  pub left_other : i < n → (get_or ws (p + i) 0 ≡ get_or ws (q + i) 0 → ⊥) → Left ws p q n i ≡ false
  left_other l e = rw (letters-next ws p i n l, letters-next ws q i n l) (other-head (get_or ws (p + i) 0) (get_or ws (q + i) 0) (letters ws (p + (i + 1)) (n - (i + 1))) (letters ws (q + (i + 1)) (n - (i + 1))) e)

  pub left-none : n ≤ i → Left ws p q n i ≡ true
  unfolding letters
  left-none l = let z : n - i ≡ 0 = omega arith in ap (λ m. same (letters ws (p + i) m) (letters ws (q + i) m)) z

pub left-all : (ws : List ℕ) (p q n : ℕ) → Left ws p q n 0 ≡ same (letters ws p n) (letters ws q n)
left-all ws p q n =
    let x : p + 0 ≡ p = omega arith in
    let y : q + 0 ≡ q = omega arith in
    let z : n - 0 ≡ n = omega arith in
    rw (x, y, z)

-- names of different lengths are different
pub unlike-names : (ws : List ℕ) (p q : ℕ) → (get_or ws (p + 1) 0 ≡ get_or ws (q + 1) 0 → ⊥) → same (text_at ws p) (text_at ws q) ≡ false
unfolding text_at
unlike-names ws p q n =
    is_false _ (λ e. n (sym (letters-length ws (p + 2) (get_or ws (p + 1) 0)) ∙ (ap length (same-eq (letters ws (p + 2) (get_or ws (p + 1) 0)) (letters ws (q + 2) (get_or ws (q + 1) 0)) e) ∙ letters-length ws (q + 2) (get_or ws (q + 1) 0))))

pub like-names : (ws : List ℕ) (p q : ℕ) {m r : ℕ} {t : Bool} → m ≡ r → r ≡ get_or ws (p + 1) 0 → m ≡ get_or ws (q + 1) 0 → t ≡ same (letters ws (p + 2) m) (letters ws (q + 2) m) → t ≡ same (text_at ws p) (text_at ws q)
unfolding text_at
like-names ws p q x e d h = let y = x ∙ e in rw (← y, ← d) h

-- a comparison of names, one of them being known by another place
pub compared : (ws : List ℕ) (p q q' : ℕ) {t v : Bool} → t ≡ same (text_at ws p) (text_at ws q) → text_at ws q ≡ text_at ws q' → t ≡ v → same (text_at ws p) (text_at ws q') ≡ v
compared ws p q q' h d k = rw (← d) (sym h ∙ k)

-- past the end every name is empty
no_text : (ws : List ℕ) (p : ℕ) → length ws ≤ p → text_at ws p ≡ []
unfolding text_at letters
no_text ws p l = rw (get_or-eq_default ws 0 {n = p + 1} (omega arith)) refl

pub text-within : (ws : List ℕ) (p n : ℕ) → n ≡ length ws → text_at ws (min p n) ≡ text_at ws p
text-within ws p n e = elim (dec_lt p n) [
  | yes l ↦ let z : min p n ≡ p = omega arith in ap (text_at ws) z
  | no l ↦ no_text ws (min p n) (omega (arith, e)) ∙ sym (no_text ws p (omega (arith, e)))
]

-- Places

module _ (ws w ps : List ℕ) (i : ℕ) (l : i < length ps) where
  pub place_here : same w (text_at ws (get_or ps i 0)) ≡ true → i + place_of w (texts_at ws (drop i ps)) ≡ i
  unfolding texts_at place_of
  place_here e = rw (drop-cons ps i 0 l, e) (omega arith)

  pub place-later : same w (text_at ws (get_or ps i 0)) ≡ false → i + place_of w (texts_at ws (drop i ps)) ≡ (i + 1) + place_of w (texts_at ws (drop (i + 1) ps))
  unfolding texts_at place_of
  place-later e = rw (drop-cons ps i 0 l, e, add-one i) (omega arith)

pub place_none : (ws w ps : List ℕ) (i : ℕ) → length ps ≤ i → place_of w (texts_at ws (drop i ps)) ≡ 0
unfolding texts_at place_of
place_none ws w [] zero l = refl
place_none ws w [] (suc i) l = refl
place_none ws w (p ∷ ps) zero l = absurd (omega arith)
place_none ws w (p ∷ ps) (suc i) l = place_none ws w ps i (omega arith)

pub place-bound : (ws w ps : List ℕ) → place_of w (texts_at ws ps) ≤ length ps
unfolding texts_at place_of
place-bound ws w [] = omega arith
place-bound ws w (p ∷ ps) = go (same w (text_at ws p)) (place-bound ws w ps)
  where
    go : (t : Bool) → place_of w (texts_at ws ps) ≤ length ps → (if t then 0 else suc (place_of w (texts_at ws ps))) ≤ suc (length ps)
    go true ih = omega arith
    go false ih = omega arith

-- names one behind the other

pub next-name : (ws : List ℕ) (p m : ℕ) → m ≡ get_or ws (p + 1) 0 → p + 2 + m ≡ behind_name ws p
unfolding behind_name
next-name ws p m e = rw e

pub end-behind : (ws : List ℕ) (p m : ℕ) → p ≤ texts_end ws p m
unfolding texts_end behind_name
end-behind ws p zero = omega arith
end-behind ws p (suc m) = let h = end-behind ws (p + 2 + get_or ws (p + 1) 0) m in omega arith

module _ (ws : List ℕ) (names : List (List ℕ)) (p q m i : ℕ) (l : i < m) (e : q ≡ behind_name ws p) where
  suc-left : m - i ≡ suc (m - (i + 1))
  suc-left = omega arith

  pub places-next : places_for names (texts_from ws p (m - i)) ≡ place_of (text_at ws p) names ∷ places_for names (texts_from ws q (m - (i + 1)))
  unfolding places_for texts_from
  places-next = rw (suc-left, e)

  pub end-next : texts_end ws p (m - i) ≡ texts_end ws q (m - (i + 1))
  unfolding texts_end
  end-next = rw (suc-left, e)

pub places-none : (ws : List ℕ) (names : List (List ℕ)) (p m i : ℕ) → m ≤ i → places_for names (texts_from ws p (m - i)) ≡ []
unfolding places_for texts_from
places-none ws names p m i l = let z : m - i ≡ 0 = omega arith in rw z

-- What it is to linking

suc-less : (a b : ℕ) → ltb a b ≡ ltb (suc a) (suc b)
suc-less a b = bools.same (ltb a b) (ltb (suc a) (suc b)) (λ e. lt-ltb (suc a) (suc b) (omega (arith, ltb-true a b e))) (λ e. lt-ltb a b (omega (arith, ltb-true (suc a) (suc b) e)))

-- the name is a rule's exactly if its place is one of theirs
pub named-place : (w : List ℕ) (rs : List OpenRule) → is_named w rs ≡ ltb (place_of w (rule_texts rs)) (length rs)
unfolding is_named place_of rule_texts
named-place w [] = refl
named-place w (r ∷ rs) = go (same w r.name.text) (named-place w rs)
  where
    go : (t : Bool) → is_named w rs ≡ ltb (place_of w (rule_texts rs)) (length rs) → (t || is_named w rs) ≡ ltb (if t then 0 else suc (place_of w (rule_texts rs))) (suc (length rs))
    go true ih = sym (lt-ltb 0 (suc (length rs)) (omega arith))
    go false ih = ih ∙ suc-less (place_of w (rule_texts rs)) (length rs)

-- the number that linking gives a call of a rule by its name
pub record Finds (i : ℕ) (w : List ℕ) (rs : List OpenRule) : Type 0 where
  pub rule : KnownRule
  pub found : find_rule w (known_of i rs) ≡ some rule
  pub place : rule.place ≡ i + place_of w (rule_texts rs)

pub finds : (i : ℕ) (w : List ℕ) (rs : List OpenRule) → is_named w rs ≡ true → Finds i w rs
unfolding is_named find_rule known_of place_of rule_texts
finds i w [] h = bools.never h
finds i w (r ∷ rs) h = go (same w r.name.text) refl (λ e. finds (suc i) w rs e) h
  where
    go : (t : Bool) → same w r.name.text ≡ t → (is_named w rs ≡ true → Finds (suc i) w rs) → (t || is_named w rs) ≡ true → Finds i w (r ∷ rs)
    go true e more h = record { rule = record { named = r.name.text; place = i; gives = text_of r.gives }; found = rw e; place = rw e (omega arith) }
    go false e more h = let x = more h in record { rule = x.rule; found = rw e x.found; place = rw e (x.place ∙ omega arith) }

pub place-for : (n : Names) (own : ℕ) (us : List Use) (w : List ℕ) (rs : List OpenRule) → is_named w rs ≡ true → place_for n (known_of 0 rs) own us (named w) ≡ place_of w (rule_texts rs)
unfolding place_for
place-for n own us w rs h = let x = finds 0 w rs h in rw (x.found, place_for) (omega (arith, x.place))
