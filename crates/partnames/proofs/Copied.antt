-- Bytes that are copied to a place of a buffer.
use mathlib.Core.List.{List, ◌++◌, append_assoc}
use mathlib.Core.Path.{◌≡◌, sym, ap, ◌∙◌}
use Prim.Native.Nat.{ℕ, ◌+◌, ◌-◌, ◌≤◌, max}
use native.Mathlib.Omega.{arith}
use lib.ListN.{length, take, drop, replicate, length-drop, length-replicate}
use borrow.Rule.Slice.PartMut.{put_mid, same_len_mid}
use lib.Seq.{take_all, length-take-le}
use Rattle.std.proofs.lemmas.Slice.{take-put_mid}
use Rattle.partnames.specs.Buffer.{Copies, Fills, part_place, both_texts}

pub copied_part : (source s ys : List ℕ) (from n at : ℕ) → from + n ≤ length source → at + n ≤ length s → ys ≡ take (from + n - from) (drop from source) → Copies source s (put_mid at (at + n - at) s ys) from n at
copied_part source s ys from n at h k e =
    let d : from + n - from ≡ n = omega arith in
    let m : at + n - at ≡ n = omega arith in
    let f : ys ≡ take n (drop from source) = e ∙ ap (λ i. take i (drop from source)) d in
    let l : length ys ≡ n = ap length f ∙ length-take-le n (drop from source) (omega (arith, length-drop from source, h)) in
    let o : length (take (at + n - at) (drop at s)) ≡ n = ap (λ i. length (take i (drop at s))) m ∙ length-take-le n (drop at s) (omega (arith, length-drop at s, k)) in
    record {
      size = same_len_mid at (at + n - at) s ys (l ∙ sym o);
      bytes = take-put_mid at (at + n - at) s ys (at + n) (omega (arith, l)) (omega (arith, k)) ∙ ap (λ (t : List ℕ). take at s ++ t) f;
    }

-- line feeds

pub filled_part : (s ys : List ℕ) (at end : ℕ) → at ≤ end → end ≤ length s → ys ≡ replicate (length (take (end - at) (drop at s))) 10 → Fills s (put_mid at (end - at) s ys) (end - at) at
filled_part s ys at end h k e =
    let o : length (take (end - at) (drop at s)) ≡ end - at = length-take-le (end - at) (drop at s) (omega (arith, length-drop at s, h, k)) in
    let f : ys ≡ replicate (end - at) 10 = e ∙ ap (λ i. replicate i 10) o in
    let l : length ys ≡ end - at = ap length f ∙ length-replicate (end - at) 10 in
    record {
      size = same_len_mid at (end - at) s ys (l ∙ sym o);
      bytes = take-put_mid at (end - at) s ys (at + (end - at)) (omega (arith, l)) (omega (arith, h, k)) ∙ ap (λ (t : List ℕ). take at s ++ t) f;
    }

-- the common part, line feeds, the further part
pub both-copied : {common part s s₁ s₂ s₃ : List ℕ} {at from n k next : ℕ} → Copies common s s₁ 0 at 0 → Fills s₁ s₂ k at → Copies part s₂ s₃ from n next → next ≡ part_place at from
    → k ≡ next - at → n ≡ length part - from → take (next + n) s₃ ≡ both_texts common at part from
unfolding both_texts part_place
both-copied {common} {part} {s} {s₁} {s₂} {s₃} {at} {from} {n} {k} {next} a b c x y m =
    let w : at ≡ 0 + at = omega arith in
    let a' : take at s₁ ≡ take at common = ap (λ k. take k s₁) w ∙ a.bytes in
    let z : next ≡ at + k = omega arith in
    let v : k ≡ max (at + 1) from - at = omega arith in
    let b' : take next s₂ ≡ take at common ++ replicate k 10 = ap (λ k. take k s₂) z ∙ b.bytes ∙ ap (λ (t : List ℕ). t ++ replicate k 10) a' in
    let d : take n (drop from part) ≡ drop from part = take_all n (drop from part) (omega (arith, length-drop from part)) in
    c.bytes ∙ ap (λ (t : List ℕ). t ++ take n (drop from part)) b' ∙ append_assoc (take at common) (replicate k 10) (take n (drop from part))
    ∙ ap (λ (t : List ℕ). take at common ++ (replicate k 10 ++ t)) d ∙ ap (λ i. take at common ++ (replicate i 10 ++ drop from part)) v
