-- Objects tested one behind the other: those passed are in order, so that the words left decide.
use mathlib.Core.Bool.{Bool, true, false, ◌&&◌}
use mathlib.Core.List.{List, [], ◌∷◌}
use mathlib.Core.Option.{Option, none, some}
use mathlib.Core.Path.{◌≡◌, refl, sym, ap, ◌∙◌}
use native.Mathlib.Omega.{arith}
use Prim.Native.Nat.{ℕ, zero, suc, ◌+◌, ◌<◌, ◌≤◌}
use lib.ListN.{length, drop, length-append, length-drop, drop_of_length-le}
use Rattle.base.specs.Bools as bools
use Rattle.std.specs.Prelude as code
use Rattle.std.specs.Prelude.{if◌then◌else◌}
use Rattle.names.specs.Known.{Names}
use Rattle.syntax.specs.Texts.{Head}
use Rattle.objects.proofs.TakeLaws.{no-took}
use Rattle.objects.proofs.Views.{view-exact}
use Rattle.objects.specs.Places.{EndsAt, Ends}
use Rattle.objects.specs.Take.{Taken, took, missing, Taker, onward, a_word, the_word}
use Rattle.objects.specs.View.{View, body_words, view_words, before, behind, a_view, views}
use Rattle.objects.specs.Whole.{every, view_in_order, all_in_order, are_objects, good_after, good_views}

-- what is taken up to a place within the words
pub record Taking {A : Type 0} (m : Taker A) (words : List ℕ) (at r : ℕ) : Type 0 where
  pub value : A
  pub is : m (drop at words) ≡ took value (drop r words)

pub taking : {A : Type 0} {m : Taker A} {words : List ℕ} {at r : ℕ} → Ends m words at (code.Some r) → Taking m words at r
unfolding EndsAt
taking {A} {m} {words} {at} {r} x = go (m (drop at words)) refl x.is
  where
    go : (t : Taken A) → m (drop at words) ≡ t → EndsAt words t (code.Some r) → Taking m words at r
    go (took a rest) e d = record { value = a; is = e ∙ ap (took a) d.0 }
    go missing e d = bools.never (sym d)

pub not_taken : {A : Type 0} {m : Taker A} {words : List ℕ} {at : ℕ} → Ends m words at code.None → m (drop at words) ≡ missing
unfolding EndsAt
not_taken {A} {m} {words} {at} x = go (m (drop at words)) refl x.is
  where
    go : (t : Taken A) → m (drop at words) ≡ t → EndsAt words t code.None → m (drop at words) ≡ missing
    go (took a rest) e d = absurd d
    go missing e d = e

module _ (common : List ℕ) where
  pub no-view : a_view common [] ≡ missing
  unfolding a_view the_word onward a_word
  no-view = refl

  -- an object has seven words or more
  pub shorter : (ws : List ℕ) (v : View) (rest : List ℕ) → a_view common ws ≡ took v rest → 7 + length rest ≤ length ws
  unfolding view_words body_words
  shorter ws v rest e =
      let a = ap length ((view-exact common).forth ws v rest e).0 in
      let b = length-append (view_words common v) rest in
      omega (arith, a, b)

  pub seven-on : {words : List ℕ} {at r : ℕ} → Taking (a_view common) words at r → at ≤ length words → r ≤ length words → at + 7 ≤ r
  seven-on {words} {at} {r} x l m =
      let a = shorter (drop at words) x.value (drop r words) x.is in
      let b = length-drop at words in
      let d = length-drop r words in
      omega (arith, a, b, d, l, m)

  -- more fuel than words changes nothing
  pub views-fuel : (k l : ℕ) (ws : List ℕ) → length ws ≤ k → length ws ≤ l → views common k ws ≡ views common l ws
  unfolding views behind
  views-fuel zero zero ws h g = refl
  views-fuel zero (suc l) [] h g = refl
  views-fuel zero (suc l) (w ∷ ws) h g = absurd (omega (arith, h))
  views-fuel (suc k) zero [] h g = refl
  views-fuel (suc k) zero (w ∷ ws) h g = absurd (omega (arith, g))
  views-fuel (suc k) (suc l) [] h g = refl
  views-fuel (suc k) (suc l) (w ∷ ws) h g = go (λ rest p q. views-fuel k l rest p q) (a_view common (w ∷ ws)) refl
    where
      go : ((rest : List ℕ) → length rest ≤ k → length rest ≤ l → views common k rest ≡ views common l rest) → (t : Taken View) → a_view common (w ∷ ws) ≡ t
          → behind t (λ rest. views common k rest) ≡ behind t (λ rest. views common l rest)
      go again (took v rest) e = let a = shorter (w ∷ ws) v rest e in ap (before v) (again rest (omega (arith, a, h)) (omega (arith, a, g)))
      go again missing e = refl

  module _ (hs : List Head) (n : Names) where
    pub good-fuel : (k l : ℕ) (ws : List ℕ) → length ws ≤ k → length ws ≤ l → good_views hs n common k ws ≡ good_views hs n common l ws
    unfolding good_views good_after
    good-fuel zero zero ws h g = refl
    good-fuel zero (suc l) [] h g = rw no-view
    good-fuel zero (suc l) (w ∷ ws) h g = absurd (omega (arith, h))
    good-fuel (suc k) zero [] h g = rw no-view
    good-fuel (suc k) zero (w ∷ ws) h g = absurd (omega (arith, g))
    good-fuel (suc k) (suc l) ws h g = go (λ rest p q. good-fuel k l rest p q) (a_view common ws) refl
      where
        go : ((rest : List ℕ) → length rest ≤ k → length rest ≤ l → good_views hs n common k rest ≡ good_views hs n common l rest) → (t : Taken View) → a_view common ws ≡ t
            → good_after hs n t (λ rest. good_views hs n common k rest) ≡ good_after hs n t (λ rest. good_views hs n common l rest)
        go again (took v rest) e = let a = shorter ws v rest e in rw (again rest (omega (arith, a, h)) (omega (arith, a, g)))
        go again missing e = refl

    -- the first object, and those behind it
    one_more : (v : View) (o : Option (List View)) → all_in_order hs n (before v o) ≡ (view_in_order hs n v && all_in_order hs n o)
    unfolding all_in_order before every
    one_more v (some vs) = refl
    one_more v none = go (view_in_order hs n v)
      where
        go : (b : Bool) → false ≡ (b && false)
        go true = refl
        go false = refl

    pub first-object : (ws : List ℕ) (v : View) (rest : List ℕ) → a_view common ws ≡ took v rest → are_objects hs n common ws ≡ (view_in_order hs n v && are_objects hs n common rest)
    unfolding are_objects views behind
    first-object [] v rest e = no-took (sym no-view ∙ e)
    first-object (w ∷ ws) v rest e =
        let a = shorter (w ∷ ws) v rest e in
        rw (e, views-fuel (length ws) (length rest) rest (omega (arith, a)) (omega arith)) (one_more v (views common (length rest) rest))

    pub first_good : (ws : List ℕ) (v : View) (rest : List ℕ) → a_view common ws ≡ took v rest
        → good_views hs n common (length ws) ws ≡ (if view_in_order hs n v then suc (good_views hs n common (length rest) rest) else 0)
    unfolding good_views good_after
    first_good [] v rest e = no-took (sym no-view ∙ e)
    first_good (w ∷ ws) v rest e =
        let a = shorter (w ∷ ws) v rest e in
        rw (e, good-fuel (length ws) (length rest) rest (omega (arith, a)) (omega arith))

    no-object : (ws : List ℕ) → 0 < length ws → a_view common ws ≡ missing → are_objects hs n common ws ≡ false
    unfolding are_objects views behind all_in_order
    no-object [] l e = absurd (omega (arith, l))
    no-object (w ∷ ws) l e = rw e

    none-good : (ws : List ℕ) → a_view common ws ≡ missing → good_views hs n common (length ws) ws ≡ 0
    unfolding good_views good_after
    none-good [] e = refl
    none-good (w ∷ ws) e = rw e

    no_words : are_objects hs n common [] ≡ true
    unfolding are_objects views all_in_order every
    no_words = refl

    module _ (words : List ℕ) where
      -- `good` objects are in order, up to the place `at`
      pub record Checking (at good : ℕ) : Type 0 where
        pub alike : are_objects hs n common words ≡ are_objects hs n common (drop at words)
        pub counted : good_views hs n common (length words) words ≡ good + good_views hs n common (length (drop at words)) (drop at words)

      pub checking : Checking 0 0
      checking = record { alike = refl; counted = omega arith }

      module _ {at good : ℕ} (x : Checking at good) where
        pub on-object : {r : ℕ} (y : Taking (a_view common) words at r) (b : Bool) → b ≡ view_in_order hs n y.value → b ≡ true → Checking r (good + 1)
        on-object {r} y b e t =
            let a = first-object (drop at words) y.value (drop r words) y.is in
            let d = first_good (drop at words) y.value (drop r words) y.is in
            record { alike = x.alike ∙ a ∙ rw (← e, t); counted = let g = x.counted in let f : good_views hs n common (length (drop at words)) (drop at words) ≡ suc (good_views hs n common (length (drop r words)) (drop r words)) = rw (← e, t) at d in omega (arith, g, f) }

        pub bad-object : {r : ℕ} (y : Taking (a_view common) words at r) (b : Bool) → b ≡ view_in_order hs n y.value → b ≡ false → (are_objects hs n common words ≡ false) × (good_views hs n common (length words) words ≡ good)
        bad-object {r} y b e t =
            let a = first-object (drop at words) y.value (drop r words) y.is in
            let d = first_good (drop at words) y.value (drop r words) y.is in
            (x.alike ∙ a ∙ rw (← e, t), (let g = x.counted in let f : good_views hs n common (length (drop at words)) (drop at words) ≡ 0 = rw (← e, t) at d in omega (arith, g, f)))

        pub off-objects : Ends (a_view common) words at code.None → at < length words → (are_objects hs n common words ≡ false) × (good_views hs n common (length words) words ≡ good)
        off-objects y m =
            let a = not_taken y in
            let d = length-drop at words in
            (x.alike ∙ no-object (drop at words) (omega (arith, d, m)) a, x.counted ∙ ap (λ (k : ℕ). good + k) (none-good (drop at words) a) ∙ omega arith)

        pub all-objects : length words ≤ at → (are_objects hs n common words ≡ true) × (good_views hs n common (length words) words ≡ good)
        all-objects l =
            let a = drop_of_length-le words l in
            (x.alike ∙ ap (are_objects hs n common) a ∙ no_words, x.counted ∙ ap (λ (k : ℕ). good + k) (none-good (drop at words) (ap (a_view common) a ∙ no-view)) ∙ omega arith)
