-- Objects from a place on: given words, the common part, and the whole of an object.
use mathlib.Core.Bool.{Bool, true, false}
use mathlib.Core.List.{List, [], ◌∷◌}
use mathlib.Core.Path.{◌≡◌, refl, sym, ap, ◌∙◌, subst}
use native.Mathlib.Omega.{arith}
use Prim.Native.Nat.{ℕ, zero, suc, ◌+◌, ◌*◌, ◌-◌, ◌/◌, ◌%◌, ◌<◌, ◌≤◌}
use borrow.Author.Tests.{le-leb, lt-leb, eqb-true, eq-eqb, ne_eqb}
use lib.Dec.{eqb}
use lib.ListN.{length, get_or, take, drop, length-append, length-drop}
use lib.Seq.{drop-drop, ext_get_or, get_or-take, get_or-drop, length-take-le}
use Rattle.base.proofs.Laws.{is_false, same_refl, same-eq}
use Rattle.base.specs.Bools as bools
use Rattle.std.specs.Prelude.{if◌then◌else◌, Option, Some, None}
use Rattle.base.specs.Common.{same}
use Rattle.parts.specs.Form.{packed}
use Rattle.objects.proofs.Ends.{bind-on, bind-off, bind_word, ends_as, ends-here}
use Rattle.objects.proofs.TakeLaws.{Exact}
use Rattle.objects.specs.Places.{EndsAt, Ends}
use Rattle.objects.specs.Take.{Taken, took, missing, Taker, onward, ◌>>=◌, pure, refuse, a_word, some_words, the_word, the_words, times, Counted, counted, if_sized, sized}
use Rattle.objects.specs.View.{View, a_pair, a_rule, some_parts, a_content, a_body, a_view}

-- The words of the common part

pub packed-length : (s : List ℕ) → length (packed s) ≡ length s / 2 + length s % 2
unfolding packed
packed-length [] = refl
packed-length (a ∷ []) = refl
packed-length (a ∷ b ∷ s) = let h = packed-length s in omega (arith, h)

pub packed-at : (s : List ℕ) (i : ℕ) → 2 * i < length s → get_or (packed s) i 0 ≡ 256 * get_or s (2 * i) 0 + get_or s (2 * i + 1) 0
unfolding packed
packed-at [] i l = absurd (omega (arith, l))
packed-at (a ∷ []) zero l = omega arith
packed-at (a ∷ []) (suc i) l = absurd (omega (arith, l))
packed-at (a ∷ b ∷ s) zero l = refl
packed-at (a ∷ b ∷ s) (suc i) l =
    let d : 2 * suc i ≡ suc (suc (2 * i)) = omega arith in
    let e : 2 * suc i + 1 ≡ suc (suc (2 * i + 1)) = omega arith in
    packed-at s i (omega (arith, l)) ∙ (ap (λ (n : ℕ). 256 * get_or (a ∷ b ∷ s) n 0 + get_or s (2 * i + 1) 0) (sym d) ∙ ap (λ (n : ℕ). 256 * get_or (a ∷ b ∷ s) (2 * suc i) 0 + get_or (a ∷ b ∷ s) n 0) (sym e))

-- fewer than four words are no body
content-short : (common ws : List ℕ) → length ws < 3 → a_content common ws ≡ missing
unfolding a_content onward a_word
content-short common [] l = refl
content-short common (x ∷ []) l = refl
content-short common (x ∷ y ∷ []) l = refl
content-short common (x ∷ y ∷ z ∷ ws) l = absurd (omega (arith, l))

short : (common ws : List ℕ) → length ws < 4 → a_body common ws ≡ missing
unfolding a_body the_word onward a_word refuse
short common [] l = refl
short common (x ∷ ws) l = go (eqb x (length common))
  where
    go : (b : Bool) → onward {A = Unit {0}} ((if b then pure tt else refuse) ws) (λ _. a_content common) ≡ missing
    go true = content-short common ws (omega (arith, l))
    go false = refl

-- nor are fewer than three an object
few : (common ws : List ℕ) → length ws < 3 → a_view common ws ≡ missing
unfolding a_view sized the_word onward a_word refuse
few common [] l = refl
few common (x ∷ ws) l = go (eqb x 20559)
  where
    sized-short : (ws : List ℕ) → length ws < 2 → sized (a_body common) ws ≡ missing
    sized-short [] l = refl
    sized-short (x ∷ []) l = refl
    sized-short (x ∷ y ∷ ws) l = absurd (omega (arith, l))

    go : (b : Bool) → onward {A = Unit {0}} ((if b then pure tt else refuse) ws) (λ _. sized (a_body common)) ≡ missing
    go true = sized-short ws (omega (arith, l))
    go false = refl

counted-off : {A : Type 0} {m : Taker A} {words : List ℕ} {at : ℕ} → Ends m words at None → Ends (counted m) words at None
unfolding counted EndsAt onward
counted-off {A} {m} {words} {at} x = record { is = go (m (drop at words)) x.is }
  where
    go : (t : Taken A) → EndsAt words t None → EndsAt {A = Counted A} words (onward t (λ a rest. took (record { value = a; count = length (drop at words) - length rest }) rest)) None
    go (took a rest) e = absurd e
    go missing e = refl

counted-on : {A C : Type 0} {m : Taker A} (f : Counted A → Taker C) {words : List ℕ} {at p : ℕ} {r : Option ℕ} → Ends m words at (Some p) → at ≤ length words → p ≤ length words
    → ((c : Counted A) → c.count ≡ p - at → Ends (f c) words p r) → Ends (◌>>=◌ (counted m) f) words at r
unfolding counted EndsAt onward
counted-on {A} {C} {m} f {words} {at} {p} {r} x l₁ l h = record { is = go (m (drop at words)) x.is }
  where
    among : List ℕ → A → Counted A
    among rest a = record { value = a; count = length (drop at words) - length rest }

    count-is : (rest : List ℕ) → rest ≡ drop p words → length (drop at words) - length rest ≡ p - at
    count-is rest e = let a = length-drop at words in let b = length-drop p words in let d = ap length e in omega (arith, a, b, d, l, l₁)

    go : (t : Taken A) → EndsAt words t (Some p) → EndsAt words (onward {A = Counted A} (onward t (λ a rest. took (among rest a) rest)) f) r
    go (took a rest) e = subst (λ ws. EndsAt words (f (among rest a) ws) r) (sym e.0) (h (among rest a) (count-is rest e.0)).is
    go missing e = bools.never (sym e)

sized-right : {words : List ℕ} (high low : ℕ) (c : Counted View) {p : ℕ} → high ≡ c.count / 65536 → low ≡ c.count % 65536 → p ≤ length words → Ends (if_sized high low c) words p (Some p)
unfolding if_sized
sized-right high low c h g l = rw (eq-eqb high (c.count / 65536) h, eq-eqb low (c.count % 65536) g) (ends-here c.value l)

sized-wrong : {words : List ℕ} (high low : ℕ) (c : Counted View) {p : ℕ} → ((high ≡ c.count / 65536) × (low ≡ c.count % 65536) → ⊥) → Ends (if_sized high low c) words p None
unfolding if_sized refuse EndsAt
sized-wrong {words} high low c {p} f = record { is = go (eqb high (c.count / 65536)) refl (eqb low (c.count % 65536)) refl }
  where
    go : (b : Bool) → eqb high (c.count / 65536) ≡ b → (d : Bool) → eqb low (c.count % 65536) ≡ d
        → EndsAt {A = View} words ((if b then (if d then pure c.value else refuse) else refuse) (drop p words)) None
    go true x true y = absurd (f (eqb-true high (c.count / 65536) x, eqb-true low (c.count % 65536) y))
    go true x false y = refl
    go false x d y = refl

-- what is written is not behind itself
pub ahead : {A : Type 0} {m : Taker A} {w : A → List ℕ} {P : A → Type 0} {words : List ℕ} {at r : ℕ} → Exact m w P → Ends m words at (Some r) → at ≤ length words → at ≤ r
unfolding EndsAt
ahead {A} {m} {w} {P} {words} {at} {r} x y l = go (m (drop at words)) refl y.is
  where
    go : (t : Taken A) → m (drop at words) ≡ t → EndsAt words t (Some r) → at ≤ r
    go (took a rest) d e =
        let z = ap length (x.forth (drop at words) a rest d).0 in
        let n = length-append (w a) rest in
        let k = ap length e.0 in
        let i = length-drop at words in
        let j = length-drop r words in
        let h = e.1 in
        omega (arith, z, n, k, i, j, h, l)
    go missing d e = bools.never (sym e)

module _ (words : List ℕ) where
  gone : {A : Type 0} (m : Taker A) {at : ℕ} → m (drop at words) ≡ missing → Ends m words at None
  unfolding EndsAt
  gone m e = record { is = rw e refl }

  pub the_word_lem : (n : ℕ) {at : ℕ} → at < length words → get_or words at 0 ≡ n → Ends (the_word n) words at (Some (at + 1))
  unfolding the_word
  the_word_lem n {at} l e = bind_word (λ x. if eqb x n then pure tt else refuse) l (rw (eq-eqb (get_or words at 0) n e) (ends-here tt (omega (arith, l))))

  pub not-word : (n : ℕ) {at : ℕ} → at < length words → (get_or words at 0 ≡ n → ⊥) → Ends (the_word n) words at None
  unfolding the_word refuse
  not-word n {at} l e = bind_word (λ x. if eqb x n then pure tt else refuse) l (rw (ne_eqb (get_or words at 0) n e) (gone (λ ws. missing) refl))

  module _ (xs : List ℕ) where
    words-there : (at : ℕ) → at + length xs ≤ length words → some_words (length xs) (drop at words) ≡ took (take (length xs) (drop at words)) (drop (at + length xs) words)
    unfolding some_words
    words-there at l = let d = length-drop at words in rw (le-leb (length xs) (length (drop at words)) (omega (arith, d, l)), drop-drop (length xs) at words)

    pub words-few : {at : ℕ} → at ≤ length words → length words < at + length xs → Ends (the_words xs) words at None
    unfolding the_words onward some_words
    words-few {at} h l = let d = length-drop at words in gone (the_words xs) (rw (lt-leb (length xs) (length (drop at words)) (omega (arith, d, l, h))))

    pub words_are : {at r : ℕ} → at + length xs ≤ length words → ((k : ℕ) → k < length xs → get_or words (at + k) 0 ≡ get_or xs k 0) → r ≡ at + length xs → Ends (the_words xs) words at (Some r)
    unfolding the_words onward EndsAt
    words_are {at} {r} l h e =
        let d = length-drop at words in
        let size = length-take-le (length xs) (drop at words) (omega (arith, d, l)) in
        let alike : take (length xs) (drop at words) ≡ xs = ext_get_or 0 (take (length xs) (drop at words)) xs size (λ k m. each k (omega (arith, m, size))) in
        record { is = rw (words-there at l, alike, same_refl xs, e) (refl, l) }
      where
        each : (k : ℕ) → k < length xs → get_or (take (length xs) (drop at words)) k 0 ≡ get_or xs k 0
        each k m = get_or-take (length xs) (drop at words) k 0 m ∙ get_or-drop at words k 0 ∙ h k m

    pub words-not : {at : ℕ} (k : ℕ) → at + length xs ≤ length words → k < length xs → (get_or words (at + k) 0 ≡ get_or xs k 0 → ⊥) → Ends (the_words xs) words at None
    unfolding the_words onward refuse
    words-not {at} k l m f =
        let n = is_false (same (take (length xs) (drop at words)) xs) (λ t. f (sym (get_or-take (length xs) (drop at words) k 0 m ∙ get_or-drop at words k 0) ∙ ap (λ ys. get_or ys k 0) (same-eq (take (length xs) (drop at words)) xs t))) in
        gone (the_words xs) (rw (words-there at l, n))

  -- The body of an object

  module _ (common : List ℕ) where
    pub body-short : {at : ℕ} → length words < at + 4 → Ends (a_body common) words at None
    body-short {at} l = let d = length-drop at words in gone (a_body common) (short common (drop at words) (omega (arith, d, l)))

    pub body-of-other : {at : ℕ} → at < length words → (get_or words at 0 ≡ length common → ⊥) → Ends (a_body common) words at None
    unfolding a_body
    body-of-other l f = bind-off (the_word (length common)) _ (not-word (length common) l f)

    behind : {at : ℕ} {r : Option ℕ} → at + 4 ≤ length words → get_or words at 0 ≡ length common → Ends (some_parts common (get_or words (at + 1) 0) (get_or words (at + 2) 0) (get_or words (at + 3) 0)) words (at + 4) r
        → Ends (a_body common) words at r
    unfolding a_body a_content
    behind {at} {r} l e h =
        let a : at + 1 + 1 ≡ at + 2 = omega arith in
        let b : at + 2 + 1 ≡ at + 3 = omega arith in
        let c : at + 3 + 1 ≡ at + 4 = omega arith in
        bind-on (the_word (length common)) _ (the_word_lem (length common) (omega (arith, l)) e) (λ _.
        bind_word _ (omega (arith, l)) (rw a (bind_word _ (omega (arith, l)) (rw b (bind_word _ (omega (arith, l)) (rw c h))))))

    pub body-off-common : {at : ℕ} → at + 4 ≤ length words → get_or words at 0 ≡ length common → Ends (the_words (packed common)) words (at + 4) None → Ends (a_body common) words at None
    unfolding some_parts
    body-off-common l e x = behind l e (bind-off (the_words (packed common)) _ x)

    pub body-off-pairs : {at p : ℕ} → at + 4 ≤ length words → get_or words at 0 ≡ length common → Ends (the_words (packed common)) words (at + 4) (Some p)
        → Ends (times (get_or words (at + 3) 0) a_pair) words p None → Ends (a_body common) words at None
    unfolding some_parts
    body-off-pairs {at} l e x y = behind l e (bind-on (the_words (packed common)) _ x (λ _. bind-off (times (get_or words (at + 3) 0) a_pair) _ y))

    pub body-ends : {at p q : ℕ} {r : Option ℕ} → at + 4 ≤ length words → get_or words at 0 ≡ length common → Ends (the_words (packed common)) words (at + 4) (Some p)
        → Ends (times (get_or words (at + 3) 0) a_pair) words p (Some q) → Ends (times (get_or words (at + 2) 0) a_rule) words q r → Ends (a_body common) words at r
    unfolding some_parts
    body-ends {at} l e x y z = behind l e (bind-on (the_words (packed common)) _ x (λ _. bind-on (times (get_or words (at + 3) 0) a_pair) _ y (λ _. ends_as (times (get_or words (at + 2) 0) a_rule) _ z)))

    -- An object, behind its mark and its length

    pub view-short : {at : ℕ} → length words < at + 3 → Ends (a_view common) words at None
    view-short {at} l = let d = length-drop at words in gone (a_view common) (few common (drop at words) (omega (arith, d, l)))

    pub no-view : {at : ℕ} → at < length words → (get_or words at 0 ≡ 20559 → ⊥) → Ends (a_view common) words at None
    unfolding a_view
    no-view l f = bind-off (the_word 20559) _ (not-word 20559 l f)

    pub view-off : {at : ℕ} → at + 3 ≤ length words → get_or words at 0 ≡ 20559 → Ends (a_body common) words (at + 3) None → Ends (a_view common) words at None
    unfolding a_view sized
    view-off {at} l e x =
        let a : at + 1 + 1 + 1 ≡ at + 3 = omega arith in
        bind-on (the_word 20559) _ (the_word_lem 20559 (omega (arith, l)) e) (λ _.
        bind_word _ (omega (arith, l)) (bind_word _ (omega (arith, l)) (rw a (bind-off (counted (a_body common)) _ (counted-off x)))))

    pub view-missized : {at p : ℕ} → at + 3 ≤ length words → get_or words at 0 ≡ 20559 → Ends (a_body common) words (at + 3) (Some p) → p ≤ length words
        → ((get_or words (at + 1) 0 ≡ (p - (at + 3)) / 65536) × (get_or words (at + 2) 0 ≡ (p - (at + 3)) % 65536) → ⊥) → Ends (a_view common) words at None
    unfolding a_view sized
    view-missized {at} {p} l e x m f =
        let a : at + 1 + 1 + 1 ≡ at + 3 = omega arith in
        let b : at + 1 + 1 ≡ at + 2 = omega arith in
        bind-on (the_word 20559) _ (the_word_lem 20559 (omega (arith, l)) e) (λ _.
        bind_word _ (omega (arith, l)) (bind_word _ (omega (arith, l)) (rw (a, b) (counted-on (λ c. if_sized (get_or words (at + 1) 0) (get_or words (at + 2) 0) c) x (omega (arith, l)) m (λ c k.
        sized-wrong (get_or words (at + 1) 0) (get_or words (at + 2) 0) c (λ y. f (y.0 ∙ ap (λ n. n / 65536) k, y.1 ∙ ap (λ n. n % 65536) k)))))))

    pub view-ends : {at p : ℕ} → at + 3 ≤ length words → get_or words at 0 ≡ 20559 → Ends (a_body common) words (at + 3) (Some p) → p ≤ length words
        → get_or words (at + 1) 0 ≡ (p - (at + 3)) / 65536 → get_or words (at + 2) 0 ≡ (p - (at + 3)) % 65536 → Ends (a_view common) words at (Some p)
    unfolding a_view sized
    view-ends {at} {p} l e x m f g =
        let a : at + 1 + 1 + 1 ≡ at + 3 = omega arith in
        let b : at + 1 + 1 ≡ at + 2 = omega arith in
        bind-on (the_word 20559) _ (the_word_lem 20559 (omega (arith, l)) e) (λ _.
        bind_word _ (omega (arith, l)) (bind_word _ (omega (arith, l)) (rw (a, b) (counted-on (λ c. if_sized (get_or words (at + 1) 0) (get_or words (at + 2) 0) c) x (omega (arith, l)) m (λ c k.
        sized-right (get_or words (at + 1) 0) (get_or words (at + 2) 0) c (f ∙ ap (λ n. n / 65536) (sym k)) (g ∙ ap (λ n. n % 65536) (sym k)) m)))))
