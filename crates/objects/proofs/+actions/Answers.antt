-- The functions that test actions, cycles, choices and alternatives meet their contracts. Measure: five times the nesting left, and a rank.
use mathlib.Core.Path.{refl}
use native.Mathlib.Omega.{arith}
use Rattle.machine.specs.Bytes.{words_of}
use Rattle.objects.proofs.Walked.{cycle-none, cycle-off, cycle-some, choice-deep, choice-some, act-cycle, act-token, act-ruled-off, act-ruled, act-asked-off, act-asked, acts-start, acts-over, acts-end, acts-fail, acts-more, last-other, last-bare, arms_start, arms-over, arms-last-off, arms_last, arms-unlabelled, arms-fail, arms_more}
use Rattle.objects.proofs.+actions.Goals as goal

pub act-cycle-requires : goal.act-cycle-requires
act-cycle-requires t c = (omega arith, omega arith)

pub act-returns-then-x-eq-CYCLE : goal.act-returns-then-x-eq-CYCLE
act-returns-then-x-eq-CYCLE t c = act-cycle c.if-x-eq-CYCLE.true c.cycle.ensures

pub act-choice-requires : goal.act-choice-requires
act-choice-requires t c = (omega arith, omega arith)

pub act-returns-then-x-eq-BY_TOKEN : goal.act-returns-then-x-eq-BY_TOKEN
act-returns-then-x-eq-BY_TOKEN t c = act-token c.if-x-eq-BY_TOKEN.true c.choice.ensures

pub act-returns-in_err-s : goal.act-returns-in_err-s
act-returns-in_err-s t c = act-ruled-off c.if-x-eq-BY_RULE.true c.rule_ok-ok.ensures c.in_err-s.ensures c.from_residual.ensures

pub act-choice-requires-then-x-eq-BY_RULE : goal.act-choice-requires-then-x-eq-BY_RULE
act-choice-requires-then-x-eq-BY_RULE t c = let w = c.in_ok-s.ensures.within in let h = w.high (omega arith) in let l = w.low in let q = w.same in let n = w.named (omega arith) in (omega (arith, h, l, q, n), omega (arith, h, l, q, n))

pub act-returns-then-x-eq-BY_RULE : goal.act-returns-then-x-eq-BY_RULE
act-returns-then-x-eq-BY_RULE t c = act-ruled c.if-x-eq-BY_RULE.true c.rule_ok-ok.ensures c.in_ok-s.ensures c.choice-then-x-eq-BY_RULE.ensures

pub act-returns-in_err-s-2 : goal.act-returns-in_err-s-2
act-returns-in_err-s-2 t c = act-asked-off (omega arith) (c.in_err-s-2.ensures _) c.from_residual-in_err-s-2.ensures

pub act-choice-requires-then-x-ge-ASK : goal.act-choice-requires-then-x-ge-ASK
act-choice-requires-then-x-ge-ASK t c = let w = (c.in_ok-s-2.ensures (words_of c.args.objects.now)).within in let h = w.high (omega arith) in let l = w.low in let q = w.same in let n = w.named (omega arith) in (omega (arith, h, l, q, n), omega (arith, h, l, q, n))

pub act-returns-then-x-ge-ASK : goal.act-returns-then-x-ge-ASK
act-returns-then-x-ge-ASK t c = act-asked (omega arith) (c.in_ok-s-2.ensures _) c.choice-then-x-ge-ASK.ensures

pub act-plain-requires : goal.act-plain-requires
act-plain-requires t c = record { fits = omega arith; fact = (c.if-x-eq-CYCLE.false, c.if-x-eq-BY_TOKEN.false, c.if-x-eq-BY_RULE.false) }

pub act-returns : goal.act-returns
act-returns t c = c.plain.ensures

pub acts-loop-here-init : goal.acts-loop-here-init
acts-loop-here-init t c = (omega arith, omega arith, omega arith, acts-start)

pub acts-ahead-next-requires : goal.acts-ahead-next-requires
acts-ahead-next-requires t c = omega arith

pub acts-returns-then-x-eq-END : goal.acts-returns-then-x-eq-END
acts-returns-then-x-eq-END t c = acts-end c.loop-here.invariant.3 _ (omega arith) c.number-x.ensures.0 c.if-x-eq-END.true c.ahead-next.ensures.0 c.passed.ensures

pub acts-act-requires : goal.acts-act-requires
acts-act-requires t c = (omega arith, omega arith)

pub acts-returns-in_err-a : goal.acts-returns-in_err-a
acts-returns-in_err-a t c = acts-fail c.loop-here.invariant.3 _ (omega arith) c.number-x.ensures.0 c.if-x-eq-END.false c.ahead-next.ensures.0 c.in_err-a.ensures refl c.from_residual.ensures

pub acts-loop-here-smaller : goal.acts-loop-here-smaller
acts-loop-here-smaller t c = let w = c.in_ok-a.ensures.within in let h = w.high (omega arith) in let l = w.low in let q = w.same in let n = w.named (omega arith) in omega (arith, h, l, q)

pub acts-loop-here-preserved : goal.acts-loop-here-preserved
acts-loop-here-preserved t c = let w = c.in_ok-a.ensures.within in let h = w.high (omega arith) in let l = w.low in let q = w.same in let n = w.named (omega arith) in (omega (arith, h), omega (arith, q), omega (arith, n), acts-more c.loop-here.invariant.3 _ (omega arith) c.number-x.ensures.0 c.if-x-eq-END.false c.ahead-next.ensures.0 c.in_ok-a.ensures refl refl refl)

pub acts-returns : goal.acts-returns
acts-returns t c = acts-over c.loop-here.invariant.3 (omega arith) refl

pub arms-loop-here-init : goal.arms-loop-here-init
arms-loop-here-init t c = (omega arith, omega arith, omega arith, arms_start)

pub arms-ahead-next-requires : goal.arms-ahead-next-requires
arms-ahead-next-requires t c = omega arith

pub arms-last_arm-requires : goal.arms-last_arm-requires
arms-last_arm-requires t c = (omega arith, omega arith)

pub arms-returns-in_err-o : goal.arms-returns-in_err-o
arms-returns-in_err-o t c = arms-last-off c.loop-here.invariant.3 _ (omega arith) c.number-x.ensures.0 c.ahead-next.ensures.0 refl refl refl c.in_err-o.ensures refl c.from_residual.ensures

pub arms-returns-then-x-le-ALTERNATIVE : goal.arms-returns-then-x-le-ALTERNATIVE
arms-returns-then-x-le-ALTERNATIVE t c = arms_last c.loop-here.invariant.3 _ (omega arith) c.number-x.ensures.0 c.ahead-next.ensures.0 refl refl refl c.in_ok-o.ensures refl c.passed.ensures

pub arms-overflow_sub-x : goal.arms-overflow_sub-x
arms-overflow_sub-x t c = omega arith

pub arms-labels-requires : goal.arms-labels-requires
arms-labels-requires t c = omega arith

pub arms-returns-in_err-l : goal.arms-returns-in_err-l
arms-returns-in_err-l t c = arms-unlabelled c.loop-here.invariant.3 _ (omega arith) c.number-x.ensures.0 c.ahead-next.ensures.0 (omega arith) refl (c.in_err-l.ensures _) c.from_residual-in_err-l.ensures

pub arms-acts-requires : goal.arms-acts-requires
arms-acts-requires t c = let w = (c.in_ok-l.ensures (words_of c.args.objects.now)).within in let h = w.high (omega arith) in let l = w.low in let q = w.same in let n = w.named (omega arith) in let p = c.requires.3 in (omega (arith, h, l, q, n), omega (arith, h, l, q, n, p))

pub arms-returns-in_err-a : goal.arms-returns-in_err-a
arms-returns-in_err-a t c = arms-fail c.loop-here.invariant.3 _ (omega arith) c.number-x.ensures.0 c.ahead-next.ensures.0 (omega arith) refl (c.in_ok-l.ensures _) c.in_err-a.ensures refl c.from_residual-in_err-a.ensures

pub arms-overflow_sub-room : goal.arms-overflow_sub-room
arms-overflow_sub-room t c = omega arith

pub arms-overflow_sub-room-in-loop-here : goal.arms-overflow_sub-room-in-loop-here
arms-overflow_sub-room-in-loop-here t c = (c.in_ok-l.ensures (words_of c.args.objects.now)).few

pub arms-loop-here-smaller : goal.arms-loop-here-smaller
arms-loop-here-smaller t c = let b = (c.in_ok-l.ensures (words_of c.args.objects.now)).within in let f = b.low in let m = b.same in let j = b.high (omega arith) in let w = c.in_ok-a.ensures.within in let h = w.high (omega (arith, j)) in let l = w.low in let q = w.same in omega (arith, f, m, h, l, q)

pub arms-loop-here-preserved : goal.arms-loop-here-preserved
arms-loop-here-preserved t c = let b = (c.in_ok-l.ensures (words_of c.args.objects.now)).within in let m = b.same in let j = b.high (omega arith) in let i = b.named (omega (arith, c.ahead-next.ensures.3, c.loop-here.invariant.2)) in let w = c.in_ok-a.ensures.within in let h = w.high (omega (arith, j)) in let q = w.same in let n = w.named (omega (arith, i)) in (omega (arith, h), omega (arith, q, m, c.ahead-next.ensures.2, c.loop-here.invariant.1), omega (arith, n), arms_more c.loop-here.invariant.3 _ (omega arith) c.number-x.ensures.0 c.ahead-next.ensures.0 (omega arith) refl (c.in_ok-l.ensures _) c.in_ok-a.ensures refl refl refl refl)

pub arms-returns : goal.arms-returns
arms-returns t c = arms-over c.loop-here.invariant.3 (omega arith) refl

pub choice-returns-then-depth-eq0 : goal.choice-returns-then-depth-eq0
choice-returns-then-depth-eq0 t c = choice-deep c.if-depth-eq0.true refl

pub choice-overflow_sub-inner : goal.choice-overflow_sub-inner
choice-overflow_sub-inner t c = omega arith

pub choice-arms-requires : goal.choice-arms-requires
choice-arms-requires t c = (omega arith, omega arith)

pub choice-returns : goal.choice-returns
choice-returns t c = choice-some c.if-depth-eq0.false refl refl c.arms.ensures

pub cycle-returns-then-depth-eq0 : goal.cycle-returns-then-depth-eq0
cycle-returns-then-depth-eq0 t c = cycle-none c.if-depth-eq0.true refl

pub cycle-overflow_sub-inner : goal.cycle-overflow_sub-inner
cycle-overflow_sub-inner t c = omega arith

pub cycle-acts-requires : goal.cycle-acts-requires
cycle-acts-requires t c = (omega arith, omega arith)

pub cycle-returns-in_err-b : goal.cycle-returns-in_err-b
cycle-returns-in_err-b t c = cycle-off c.if-depth-eq0.false refl refl c.in_err-b.ensures c.from_residual.ensures

pub cycle-returns : goal.cycle-returns
cycle-returns t c = cycle-some c.if-depth-eq0.false refl refl c.in_ok-b.ensures c.passed.ensures

pub last_arm-acts-requires : goal.last_arm-acts-requires
last_arm-acts-requires t c = (omega arith, omega arith)

pub last_arm-returns-then-last-eq-OTHERWISE : goal.last_arm-returns-then-last-eq-OTHERWISE
last_arm-returns-then-last-eq-OTHERWISE t c = last-other c.if-last-eq-OTHERWISE.true c.acts.ensures

pub last_arm-bare-requires : goal.last_arm-bare-requires
last_arm-bare-requires t c = (omega arith, c.if-last-eq-OTHERWISE.false)

pub last_arm-returns : goal.last_arm-returns
last_arm-returns t c = last-bare (c.bare.ensures _)
