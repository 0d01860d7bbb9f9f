use mathlib.Core.Path.{refl}
use native.Mathlib.Omega.{arith}
use Rattle.linking.proofs.Rules.{concluded, is-ready, kept, few-made}
use Rattle.linking.proofs.link_closed.Goals as goal

-- src/lib.rt:151:9
pub make-made-requires : goal.make-made-requires
make-made-requires c = let x = c.requires.1.closed in (omega (arith, x.rowed.size), kept x, x.few_pairs, omega (arith, few-made x), omega (arith, x.size), omega (arith, x.filled, x.size), c.place_rules.ensures.same.0, c.place_rules.ensures.same.1)

-- src/lib.rt:153:9
pub conclude-a-requires : goal.conclude-a-requires
conclude-a-requires c = (omega (arith, c.requires.0), is-ready c.requires.1 c.place_rules.ensures.placed c.place_rules.ensures.same.0 c.place_rules.ensures.same.1 c.make-made.ensures)

-- src/lib.rt:156:9
pub shape_of-cells-then-a-eq0 : goal.shape_of-cells-then-a-eq0
shape_of-cells-then-a-eq0 c = c.make-made.auto.cells

-- src/lib.rt:156:9
pub returns-then-a-eq0 : goal.returns-then-a-eq0
returns-then-a-eq0 c = λ d n h x. concluded x c.place_rules.ensures.placed c.place_rules.ensures.same.0 c.place_rules.ensures.same.1 c.make-made.ensures (c.last_size-size.ensures d n h) c.conclude-a.ensures (λ z. refl) (λ f. absurd (f c.if-a-eq0.true)) c.in_text.ensures

-- src/lib.rt:136:1
pub shape_of-cells : goal.shape_of-cells
shape_of-cells c = c.make-made.auto.cells

-- src/lib.rt:136:1
pub returns : goal.returns
returns c = λ d n h x. concluded x c.place_rules.ensures.placed c.place_rules.ensures.same.0 c.place_rules.ensures.same.1 c.make-made.ensures (c.last_size-size.ensures d n h) c.conclude-a.ensures (λ z. absurd (c.if-a-eq0.false z)) (λ f. c.count_objects-text.ensures d n h) c.in_text-2.ensures
