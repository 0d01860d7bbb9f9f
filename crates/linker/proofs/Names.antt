-- Names in the words of an object are read back as they were written.
use mathlib.Core.List.{List, [], ◌∷◌, ◌++◌, append_assoc}
use mathlib.Core.Path.{◌≡◌, refl, sym, ap, ◌∙◌}
use native.Mathlib.Omega.{arith}
use Prim.Native.Nat.{ℕ, suc, ◌+◌}
use lib.ListN.{length, get_or, take, length-append}
use lib.Seq.{get_or-append-add, drop-append-add, take-append_seam}
use Rattle.parts.specs.Form.{name_words, names_words}
use Rattle.parts.specs.Sound.{texts_of}
use Rattle.words.specs.Words.{Word}
use Rattle.linker.specs.Place.{letters, text_at, behind_name, texts_from, texts_end}
use Rattle.linker.proofs.Placing.{letters-are}

module _ (front : List ℕ) (w : Word) (back : List ℕ) where
  size-at : get_or (front ++ (name_words w ++ back)) (length front + 1) 0 ≡ length w.text
  unfolding name_words
  size-at = get_or-append-add front (name_words w ++ back) 1 0

  letters-at : letters (front ++ (name_words w ++ back)) (length front + 2) (length w.text) ≡ w.text
  unfolding name_words
  letters-at =
      let l = length-append front (name_words w ++ back) in
      let m = length-append w.text back in
      letters-are (front ++ (name_words w ++ back)) (length front + 2) (length w.text) (omega (arith, l, m))
      ∙ ap (take (length w.text)) (drop-append-add front (name_words w ++ back) 2) ∙ take-append_seam w.text back

  pub text_at_lem : text_at (front ++ (name_words w ++ back)) (length front) ≡ w.text
  unfolding text_at
  text_at_lem = ap (letters (front ++ (name_words w ++ back)) (length front + 2)) size-at ∙ letters-at

  pub behind-at : behind_name (front ++ (name_words w ++ back)) (length front) ≡ length (front ++ name_words w)
  unfolding behind_name name_words
  behind-at = let l = length-append front (name_words w) in omega (arith, l, size-at)

pub texts-from : (front : List ℕ) (ws : List Word) (back : List ℕ) → texts_from (front ++ (names_words ws ++ back)) (length front) (length ws) ≡ texts_of ws
unfolding texts_from names_words texts_of
texts-from front [] back = refl
texts-from front (w ∷ ws) back =
    let t = text_at_lem front w (names_words ws ++ back) in
    let e = behind-at front w (names_words ws ++ back) in
    let ih = texts-from (front ++ name_words w) ws back in
    rw (append_assoc (name_words w) (names_words ws) back, t, e)
    (ap (λ l. w.text ∷ l)
    (ap (λ (l : List ℕ). texts_from (front ++ l) (length (front ++ name_words w)) (length ws)) (append_assoc (name_words w) (names_words ws) back)
    ∙ (ap (λ l. texts_from l (length (front ++ name_words w)) (length ws)) (sym (append_assoc front (name_words w) (names_words ws ++ back))) ∙ ih)))

pub texts-end : (front : List ℕ) (ws : List Word) (back : List ℕ) → texts_end (front ++ (names_words ws ++ back)) (length front) (length ws) ≡ length front + length (names_words ws)
unfolding texts_end names_words
texts-end front [] back = omega arith
texts-end front (w ∷ ws) back =
    let e = behind-at front w (names_words ws ++ back) in
    let ih = texts-end (front ++ name_words w) ws back in
    let l = length-append front (name_words w) in
    let m = length-append (name_words w) (names_words ws) in
    let whole = front ++ (name_words w ++ (names_words ws ++ back)) in
    ap (λ l. texts_end (front ++ l) (length front) (suc (length ws))) (append_assoc (name_words w) (names_words ws) back) ∙ ap (λ q. texts_end whole q (length ws)) e
    ∙ ap (λ l. texts_end l (length (front ++ name_words w)) (length ws)) (sym (append_assoc front (name_words w) (names_words ws ++ back))) ∙ ih ∙ omega (arith, l, m)
