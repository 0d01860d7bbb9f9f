-- Names compared word by word: they are the same exactly if their lengths and all their bytes are.
use mathlib.Core.Bool.{true, false}
use mathlib.Core.List.{List}
use mathlib.Core.Path.{◌≡◌, sym, ap, ◌∙◌}
use native.Mathlib.Omega.{arith}
use Prim.Native.Nat.{ℕ, ◌+◌, ◌<◌, ◌≤◌}
use lib.ListN.{length, get_or, take, drop, length-drop}
use lib.Seq.{ext_get_or, get_or-take, get_or-drop, length-take-le}
use Rattle.base.proofs.Laws.{is_false, same_refl, same-eq}
use Rattle.base.specs.Common.{same}
use Rattle.objects.specs.Places.{NameAt}
use Rattle.objects.specs.View.{Name}

-- two texts: of the same length and bytes, of other lengths, or with another byte somewhere
texts-same : (s t : List ℕ) → length s ≡ length t → ((k : ℕ) → k < length s → get_or s k 0 ≡ get_or t k 0) → same s t ≡ true
texts-same s t l h = rw (ext_get_or 0 s t l h) (same_refl t)

texts-longer : (s t : List ℕ) → (length s ≡ length t → ⊥) → same s t ≡ false
texts-longer s t f = is_false (same s t) (λ e. f (ap length (same-eq s t e)))

texts-other : (s t : List ℕ) (k : ℕ) → (get_or s k 0 ≡ get_or t k 0 → ⊥) → same s t ≡ false
texts-other s t k f = is_false (same s t) (λ e. f (ap (λ u. get_or u k 0) (same-eq s t e)))

module _ {words : List ℕ} {p : ℕ} {n : Name} (x : NameAt words p n) where
  module _ {q : ℕ} {m : Name} (y : NameAt words q m) where
    pub names_same : get_or words (p + 1) 0 ≡ get_or words (q + 1) 0 → ((k : ℕ) → k < get_or words (p + 1) 0 → get_or words (p + 2 + k) 0 ≡ get_or words (q + 2 + k) 0) → true ≡ same n.text m.text
    names_same e h =
        let a = x.size in
        let b = y.size in
        sym (texts-same n.text m.text (sym a ∙ e ∙ b) (λ k l. sym (x.bytes k l) ∙ h k (omega (arith, a, l)) ∙ y.bytes k (omega (arith, a, b, e, l))))

    pub names-longer : (get_or words (q + 1) 0 ≡ get_or words (p + 1) 0 → ⊥) → false ≡ same n.text m.text
    names-longer f = sym (texts-longer n.text m.text (λ e. f (y.size ∙ sym e ∙ sym x.size)))

    pub names-other : (k : ℕ) → k < get_or words (p + 1) 0 → get_or words (p + 1) 0 ≡ get_or words (q + 1) 0 → (get_or words (p + 2 + k) 0 ≡ get_or words (q + 2 + k) 0 → ⊥) → false ≡ same n.text m.text
    names-other k l e f =
        let a = x.size in
        let b = y.size in
        sym (texts-other n.text m.text k (λ d. f (x.bytes k (omega (arith, a, l)) ∙ d ∙ sym (y.bytes k (omega (arith, a, b, e, l))))))

  pub name-inside : p + 2 ≤ length words
  name-inside = let h = x.there in omega (arith, h)

  -- a part of the common part's bytes
  module _ (common : List ℕ) (start size : ℕ) (inside : start + size ≤ length common) where
    part-size : length (take size (drop start common)) ≡ size
    part-size = let d = length-drop start common in length-take-le size (drop start common) (omega (arith, d, inside))

    part_at : (k : ℕ) → k < size → get_or (take size (drop start common)) k 0 ≡ get_or common (start + k) 0
    part_at k l = get_or-take size (drop start common) k 0 l ∙ get_or-drop start common k 0

    pub common-same : get_or words (p + 1) 0 ≡ size → ((k : ℕ) → k < size → get_or words (p + 2 + k) 0 ≡ get_or common (start + k) 0) → true ≡ same n.text (take size (drop start common))
    common-same e h =
        let a = x.size in
        sym (texts-same n.text (take size (drop start common)) (sym a ∙ e ∙ sym part-size) (λ k l. sym (x.bytes k l) ∙ h k (omega (arith, a, e, l)) ∙ sym (part_at k (omega (arith, a, e, l)))))

    pub common-longer : (get_or words (p + 1) 0 ≡ size → ⊥) → false ≡ same n.text (take size (drop start common))
    common-longer f = sym (texts-longer n.text (take size (drop start common)) (λ e. f (x.size ∙ e ∙ part-size)))

    pub common-other : (k : ℕ) → k < size → get_or words (p + 1) 0 ≡ size → (get_or words (p + 2 + k) 0 ≡ get_or common (start + k) 0 → ⊥) → false ≡ same n.text (take size (drop start common))
    common-other k l e f =
        let a = x.size in
        sym (texts-other n.text (take size (drop start common)) k (λ d. f (x.bytes k (omega (arith, a, e, l)) ∙ d ∙ part_at k l)))
