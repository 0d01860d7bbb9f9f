-- `emitter::put_word` meets its contract.
use mathlib.Core.List.{List, [], ◌∷◌}
use mathlib.Core.Path.{◌≡◌, sym, ap, ◌∙◌}
use native.Mathlib.Omega.{arith}
use Prim.Native.Nat.{ℕ, ◌+◌, ◌*◌, ◌/◌, ◌%◌}
use lib.ListN.{length-set, get_or, set}
use Rattle.emitter.proofs.Laws.{set-in, set_out}
use Rattle.emitter.proofs.put_word.Goals as goal

pub bounds-out-i-then-i-out : goal.bounds-out-i-then-i-out
bounds-out-i-then-i-out c = simp length-set (omega arith)

pub returns-then-i-out : goal.returns-then-i-out
returns-then-i-out c =
    let a = c.args in
    let b : a.x / 256 % 256 ≡ a.x / 256 = omega (arith, c.ranges.x.fits) in
    ap (λ (w : List ℕ). set (set a.out.now (2 * a.i) (get_or w 0 0)) (2 * a.i + 1) (get_or w 1 0)) (c.to_be_bytes.ensures ∙ ap (λ (v : ℕ). v ∷ a.x % 256 ∷ []) b)
    ∙ sym (set-in _ _ _ c.if-i-out.true)

pub returns-else-i-out : goal.returns-else-i-out
returns-else-i-out c = sym (set_out _ _ _ (omega arith))
