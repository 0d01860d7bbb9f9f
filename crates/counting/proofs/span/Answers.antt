-- `counting::span` meets its contract: the sum of the counts between is that of the locations.
use mathlib.Core.List.{List, [], ◌∷◌}
use mathlib.Core.Path.{◌≡◌, sym, ap, ◌∙◌}
use Prim.Native.Nat.{ℕ, ◌+◌, ◌-◌, min}
use native.Mathlib.Decide.{dec_le}
use native.Mathlib.Omega.{arith}
use lib.ListN.{take, drop, length-take, drop_of_length-le}
use Rattle.std.specs.List.{fold}
use Rattle.std.specs.Prelude.{sum as total_of}
use Rattle.counting.proofs.Form.{sum-most}
use Rattle.figures.proofs.Spans.{span-within, drop-take, sum_drop}
use Rattle.figures.specs.Figures.{sum}
use Rattle.counting.proofs.span.Goals as goal

-- the library's sum is ours
sum-from : (l : List ℕ) (b : ℕ) → fold (λ (a : ℕ) (x : ℕ). a + x) b l ≡ b + sum l
unfolding sum
sum-from [] b = omega arith
sum-from (x ∷ l) b = let e = sum-from l (b + x) in e ∙ omega arith

same_sum : (l : List ℕ) → total_of l ≡ sum l
same_sum l = sum-from l 0 ∙ omega arith

-- nothing stands between an end and a start behind it
from-least : (counts : List ℕ) (start end : ℕ) → drop (min start end) (take end counts) ≡ drop start (take end counts)
from-least counts start end = elim (dec_le start end) [
  | yes h ↦ (let e : min start end ≡ start = omega arith in ap (λ (k : ℕ). drop k (take end counts)) e)
  | no h ↦ (drop_of_length-le (take end counts) {i = min start end} (omega (arith, length-take end counts)) ∙ sym (drop_of_length-le (take end counts) {i = start} (omega (arith, length-take end counts))))
]

-- the counts between are those from the start up to the end
between : (counts : List ℕ) (start end m : ℕ) → m ≡ min start end → total_of (take (end - m) (drop m counts)) ≡ sum (drop start (take end counts))
between counts start end m e =
    same_sum (take (end - m) (drop m counts))
    ∙ ap sum (sym (drop-take m end counts) ∙ ap (λ (k : ℕ). drop k (take end counts)) e ∙ from-least counts start end)

pub sum_of-requires : goal.sum_of-requires
sum_of-requires c =
    let counts = c.args.counts.now in
    let start = c.count_index-start.result in
    let end = c.count_index-end.result in
    omega (arith, between counts start end c.min.result c.min.ensures, sum_drop (take end counts) start, sum-most counts end, c.requires.1)

pub returns : goal.returns
returns c =
    let counts = c.args.counts.now in
    let n = c.requires.0 in
    c.sum_of.ensures ∙ between counts c.count_index-start.result c.count_index-end.result c.min.result c.min.ensures
    ∙ span-within c.args.from c.args.to c.count_index-start.result c.count_index-end.result counts (rw n c.count_index-start.ensures) (rw n c.count_index-end.ensures)
