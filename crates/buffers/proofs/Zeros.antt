-- A buffer whose whole words are 0, and words over zeros.
use mathlib.Core.List.{List, ◌++◌, append_assoc}
use mathlib.Core.Path.{◌≡◌, sym, ap, ◌∙◌}
use Prim.Native.Nat.{ℕ, ◌+◌, ◌*◌, ◌-◌, ◌/◌, ◌≤◌}
use native.Mathlib.Omega.{arith}
use lib.ListN.{length, take, drop, replicate, length-append, length-drop, length-replicate, replicate-append-replicate}
use lib.Seq.{drop_at, length-take-le}
use Rattle.machine.proofs.Bytes.{length-bytes_of, bytes_of-append, zero-bytes}
use Rattle.machine.specs.Bytes.{count, bytes_of, over}
use Rattle.buffers.specs.Words.{zeroed}

zeroed-is : (t : List ℕ) → zeroed t ≡ replicate (2 * count t) 0 ++ drop (2 * count t) t
unfolding zeroed
zeroed-is t = ap (λ (z : List ℕ). z ++ drop (2 * count t) t) (zero-bytes (count t))

pub length-zeroed : (t : List ℕ) → length (zeroed t) ≡ length t
unfolding zeroed count
length-zeroed t =
    omega (arith, length-append (bytes_of (replicate (length t / 2) 0)) (drop (2 * (length t / 2)) t), length-bytes_of (replicate (length t / 2) 0), length-replicate {A = ℕ} (length t / 2) 0, length-drop (2 * (length t / 2)) t)

-- what `fill` leaves in the whole words
pub filled-zeroed : (out new : List ℕ) → new ≡ replicate (length (take (length out / 2 * 2) out)) 0 → new ++ drop (length out / 2 * 2) out ≡ zeroed out
unfolding count
filled-zeroed out new e =
    let k : length out / 2 * 2 ≡ 2 * (length out / 2) = omega arith in
    let l : length (take (length out / 2 * 2) out) ≡ 2 * (length out / 2) = length-take-le (length out / 2 * 2) out (omega arith) ∙ k in
    ap (λ (z : List ℕ). z ++ drop (length out / 2 * 2) out) (e ∙ ap (λ (n : ℕ). replicate n 0) l)
    ∙ ap (λ (n : ℕ). replicate (2 * (length out / 2)) 0 ++ drop n out) k ∙ sym (zeroed-is out)

-- Words over zeros

over_zeros : (ws t : List ℕ) → length ws ≤ count t → over (bytes_of ws) (zeroed t) ≡ bytes_of ws ++ (replicate (2 * (count t - length ws)) 0 ++ drop (2 * count t) t)
unfolding over
over_zeros ws t h =
    let a = length-bytes_of ws in
    let e : 2 * count t ≡ 2 * length ws + 2 * (count t - length ws) = omega arith in
    let r = replicate-append-replicate {A = ℕ} (2 * length ws) (2 * (count t - length ws)) 0 in
    let z : zeroed t ≡ replicate (2 * length ws) 0 ++ (replicate (2 * (count t - length ws)) 0 ++ drop (2 * count t) t) =
    zeroed-is t ∙ ap (λ (m : ℕ). replicate m 0 ++ drop (2 * count t) t) e ∙ ap (λ (y : List ℕ). y ++ drop (2 * count t) t) (sym r)
    ∙ append_assoc (replicate (2 * length ws) 0) (replicate (2 * (count t - length ws)) 0) (drop (2 * count t) t) in
    ap (λ (y : List ℕ). bytes_of ws ++ drop (length (bytes_of ws)) y) z
    ∙ ap (λ (y : List ℕ). bytes_of ws ++ y) (drop_at (replicate (2 * length ws) 0) (replicate (2 * (count t - length ws)) 0 ++ drop (2 * count t) t) (length (bytes_of ws)) (length-replicate {A = ℕ} (2 * length ws) 0 ∙ sym a))

-- words written into a buffer that was cleared: zeros stand behind them
pub over-zeroed : (ws t : List ℕ) → length ws ≤ count t → over (bytes_of ws) (zeroed t) ≡ bytes_of (ws ++ replicate (count t - length ws) 0) ++ drop (2 * count t) t
over-zeroed ws t h =
    over_zeros ws t h ∙ sym (append_assoc (bytes_of ws) (replicate (2 * (count t - length ws)) 0) (drop (2 * count t) t))
    ∙ ap (λ (y : List ℕ). (bytes_of ws ++ y) ++ drop (2 * count t) t) (sym (zero-bytes (count t - length ws)))
    ∙ ap (λ (y : List ℕ). y ++ drop (2 * count t) t) (sym (bytes_of-append ws (replicate (count t - length ws) 0)))

-- and cleared again
pub zeroed-over : (ws t : List ℕ) → length ws ≤ count t → zeroed (over (bytes_of ws) (zeroed t)) ≡ zeroed t
unfolding count
zeroed-over ws t h =
    let o = over-zeroed ws t h in
    let X = bytes_of (ws ++ replicate (count t - length ws) 0) in
    let D = drop (2 * count t) t in
    let a : length X ≡ 2 * count t =
    omega (arith, length-bytes_of (ws ++ replicate (count t - length ws) 0), length-append ws (replicate (count t - length ws) 0), length-replicate {A = ℕ} (count t - length ws) 0) in
    let l : length (X ++ D) ≡ length t = omega (arith, length-append X D, length-drop (2 * count t) t) in
    let c : count (X ++ D) ≡ count t = ap (λ (m : ℕ). m / 2) l in
    ap zeroed o ∙ zeroed-is (X ++ D) ∙ ap (λ (m : ℕ). replicate (2 * m) 0 ++ drop (2 * m) (X ++ D)) c
    ∙ ap (λ (y : List ℕ). replicate (2 * count t) 0 ++ y) (drop_at X D (2 * count t) a) ∙ sym (zeroed-is t)
