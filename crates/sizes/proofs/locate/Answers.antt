use Prim.Native.Nat.{ℕ, ◌+◌}
use mathlib.Core.Path.{◌≡◌, refl, sym, subst, ◌∙◌}
use native.Mathlib.Omega.{arith}
use Rattle.sizes.specs.Located.{Locates}
use Rattle.sizes.proofs.Places.{PlacesGo, places-start, places-go, places-end}
use Rattle.sizes.proofs.locate.Goals as goal
use Rattle.sizes.proofs.locate.Goals.{then-cells-gt-WORD_VALUES-via-then-cells-gt-WORD_VALUES, then-cells-gt-WORD_VALUES-via-else-cells-gt-WORD_VALUES+then-rules-gt-RULES}

pub returns-then-cells-gt-WORD_VALUES : goal.returns-then-cells-gt-WORD_VALUES
unfolding Locates
returns-then-cells-gt-WORD_VALUES c = elim c.then-cells-gt-WORD_VALUES.branch [
  | then-cells-gt-WORD_VALUES-via-then-cells-gt-WORD_VALUES w ↦ λ prog h. absurd (omega (arith, h.short, w.if-cells-gt-WORD_VALUES.true))
  | then-cells-gt-WORD_VALUES-via-else-cells-gt-WORD_VALUES+then-rules-gt-RULES w ↦ λ prog h. absurd (omega (arith, h.few, w.if-rules-gt-RULES.true))
]

pub loop-r-init : goal.loop-r-init
loop-r-init c = let a = c.args in (omega arith, omega arith, refl, places-start a.cells.now a.sorts.now a.rules a.starts.now)

pub overflow_add-w : goal.overflow_add-w
overflow_add-w c = let o = c.loop-r in omega (arith, c.loop-r.invariant.0, c.loop-r.invariant.1, c.if-cells-gt-WORD_VALUES.false, c.if-rules-gt-RULES.false, c.loop-r-test.true)

pub scan-s-requires : goal.scan-s-requires
scan-s-requires c = let o = c.loop-r in record { inside = c.loop-r.invariant.0; short = c.if-cells-gt-WORD_VALUES.false; room = omega arith }

pub overflow_add-w-in-loop-r : goal.overflow_add-w-in-loop-r
overflow_add-w-in-loop-r c = let o = c.loop-r in let m = c.scan-s.ensures.moved in omega (arith, c.loop-r.invariant.0, c.loop-r.invariant.1, c.if-cells-gt-WORD_VALUES.false, c.if-rules-gt-RULES.false, c.loop-r-test.true, m.few, m.inside, c.end_size.ensures.2)

pub overflow_add-w-in-loop-r-2 : goal.overflow_add-w-in-loop-r-2
overflow_add-w-in-loop-r-2 c = let o = c.loop-r in let m = c.scan-s.ensures.moved in omega (arith, c.loop-r.invariant.0, c.loop-r.invariant.1, c.if-cells-gt-WORD_VALUES.false, c.if-rules-gt-RULES.false, c.loop-r-test.true, m.few, m.inside, c.end_size.ensures.2)

pub loop-r-preserved : goal.loop-r-preserved
loop-r-preserved c = let a = c.args in let o = c.loop-r in let m = c.scan-s.ensures.moved in let E = c.end_size.ensures in
    let e : c.loop-r.w + (c.scan-s.result.at + c.end_size.result) ≡ c.loop-r.w + c.scan-s.result.at + c.end_size.result = omega arith in
    (m.inside, omega (arith, m.few, c.loop-r.invariant.1), c.put_start.auto.starts ∙ c.loop-r.invariant.2, subst (λ (i : ℕ). PlacesGo a.cells.now a.sorts.now a.rules c.put_start.new.starts c.scan-s.result.p i (c.loop-r.r + 1)) (sym e) (places-go a.cells.now a.sorts.now a.rules c.loop-r.starts _ c.loop-r.q c.loop-r.w c.loop-r.r c.sort_at.result c.end_size.result _ _ c.loop-r-test.true c.put_start.ensures c.put_start.auto.starts c.sort_at.ensures E.0 E.1 c.scan-s.ensures.scanned c.loop-r.invariant.3))

pub returns : goal.returns
returns c = let a = c.args in let o = c.loop-r in places-end a.cells.now a.sorts.now a.rules c.loop-r.starts c.loop-r.q c.loop-r.w c.loop-r.r (omega (arith, c.loop-r-test.false)) c.loop-r.invariant.3
