-- `linkpairs::past_limit` meets its contract: the `^` is told by the pair's first two words.
use mathlib.Core.Path.{◌≡◌, refl, ap, ◌∙◌}
use native.Mathlib.Omega.{arith}
use Prim.Native.Nat.{ℕ, ◌+◌}
use lib.ListN.{get_or}
use Rattle.linkpairs.proofs.Standing.{pair_inside, sign-start, sign-size}
use Rattle.machine.specs.Bytes.{words_of}
use Rattle.linkpairs.proofs.past_limit.Goals as goal

pub returns : goal.returns
returns c = let a = c.args in let w = words_of a.objects.now in record { fault = refl; text = refl; count = refl; sign = λ u x. let h = pair_inside w a.s.at u x in let e : c.min-at.result ≡ a.s.at = omega (arith, h, c.min-at.ensures, c.total-end.ensures.0) in (c.number.ensures.0 ∙ ap (λ (i : ℕ). get_or w i 0) e ∙ sign-start w a.s.at u x, c.number-2.ensures.0 ∙ ap (λ (i : ℕ). get_or w (i + 1) 0) e ∙ sign-size w a.s.at u x) }
