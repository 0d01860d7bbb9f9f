-- `firmware::put_returns` meets its contract: after i turns the first i words of the return locations are written, the held ones first.
use mathlib.Core.List.{List, [], ◌∷◌}
use mathlib.Core.Path.{◌≡◌, refl, sym, ap, ◌∙◌}
use Prim.Native.Nat.{ℕ, ◌+◌, ◌≤◌}
use native.Mathlib.Numerals.{add-one}
use native.Mathlib.Omega.{arith}
use lib.ListN.{length, take, get_or}
use lib.Seq.{length-take-le, take-suc, take_all}
use Rattle.machine.specs.Bytes.{bytes_of}
use Rattle.firmware.specs.Writes.{puts}
use Rattle.firmware.proofs.Laws.{puts_one, puts_then, length-puts, length-return-words, return_held, return-free}
use Rattle.firmware.proofs.put_returns.Invariants.{words}
use Rattle.firmware.proofs.put_returns.Goals as goal

-- one word more
one_more : (s : List ℕ) (d : ℕ) (rs : List ℕ) (i x : ℕ) → length rs ≡ 64 → i + 1 ≤ 64 → x ≡ get_or (words d rs) i 0
    → puts (puts s 15 (take i (words d rs))) (15 + i) (x ∷ []) ≡ puts s 15 (take (i + 1) (words d rs))
one_more s d rs i x e l h =
    let w = words d rs in
    let n : length w ≡ 64 = length-return-words d rs e in
    let m : length (take i w) ≡ i = length-take-le i w (omega arith) in
    rw h (puts_then s 15 (take i w) (get_or w i 0 ∷ []) (15 + i) (omega arith) ∙ rw (add-one, take-suc w i 0 (omega arith)))

pub loop-i-init : goal.loop-i-init
unfolding puts bytes_of
loop-i-init c = refl

pub put_word-requires : goal.put_word-requires
put_word-requires c =
    let a = c.args in
    let h = c.min-held.ensures in
    let e = ap length c.loop-i.invariant in
    let n = length-puts a.out.now 15 (take c.loop-i.i (words a.depth a.returns.now)) in
    omega arith

pub loop-i-preserved : goal.loop-i-preserved
loop-i-preserved c =
    let a = c.args in
    let h = c.min-held.ensures in
    let s = a.out.now in
    let i = c.loop-i.i in
    let d = a.depth in
    let rs = a.returns.now in
    let n : length rs ≡ 64 = omega arith in
    let x = sym (return_held d rs i (omega arith) (omega arith)) in
    c.put_word.ensures ∙ rw (c.loop-i.invariant, puts_one) (one_more s d rs i (get_or rs i 0) n (omega arith) x)

pub loop-i-2-init : goal.loop-i-2-init
loop-i-2-init c = λ s e. e

pub put_word-requires-in-loop-i-2 : goal.put_word-requires-in-loop-i-2
put_word-requires-in-loop-i-2 c =
    let a = c.args in
    let k : c.loop-i.i ≡ c.min-held.result = omega arith in
    let e = ap length (c.loop-i-2.invariant a.out.now (c.loop-i.invariant ∙ ap (λ (j : ℕ). puts a.out.now 15 (take j (words a.depth a.returns.now))) k)) in
    let n = length-puts a.out.now 15 (take c.loop-i-2.i (words a.depth a.returns.now)) in
    omega arith

pub loop-i-2-preserved : goal.loop-i-2-preserved
loop-i-2-preserved c =
    let a = c.args in
    let h = c.min-held.ensures in
    let i = c.loop-i-2.i in
    let d = a.depth in
    let rs = a.returns.now in
    let n : length rs ≡ 64 = omega arith in
    let x = sym (return-free d rs i (omega arith)) in
    λ t e. c.put_word-in-loop-i-2.ensures ∙ rw (c.loop-i-2.invariant t e, puts_one) (one_more t d rs i 0 n (omega arith) x)

pub shape_of-out : goal.shape_of-out
shape_of-out c =
    let a = c.args in
    let k : c.loop-i.i ≡ c.min-held.result = omega arith in
    ap length (c.loop-i-2.invariant a.out.now (c.loop-i.invariant ∙ ap (λ (j : ℕ). puts a.out.now 15 (take j (words a.depth a.returns.now))) k)) ∙ length-puts a.out.now 15 (take c.loop-i-2.i (words a.depth a.returns.now))

pub returns : goal.returns
returns c =
    let a = c.args in
    let n = length-return-words a.depth a.returns.now (omega arith) in
    let k : c.loop-i.i ≡ c.min-held.result = omega arith in
    c.loop-i-2.invariant a.out.now (c.loop-i.invariant ∙ ap (λ (j : ℕ). puts a.out.now 15 (take j (words a.depth a.returns.now))) k) ∙ ap (puts a.out.now 15) (take_all c.loop-i-2.i (words a.depth a.returns.now) (omega arith))
