use mathlib.Core.Path.{refl, ap, sym, ◌∙◌}
use native.Mathlib.Omega.{arith}
use Prim.Native.Nat.{ℕ}
use mathlib.Core.List.{[], ◌∷◌}
use Rattle.base.specs.Bools.{never}
use Rattle.emitter.specs.Words.{puts, set_word}
use Rattle.emitter.specs.Heads.{chooses, ins_of}
use Rattle.emitter.proofs.Laws.{cell-there, puts-word}
use Rattle.emitter.proofs.Emits.{exit-done, cycle-done, cycle-join, plain_done, goes_none, goes-more, goes_end}
use Rattle.emitter.proofs.Choices.{alts-none, alts-more, alts-end, other-done, absent-done, choice-join}
use Rattle.emitter.proofs.+emit_act_emit_alts_emit_choice_emit_cycle_emit_list_emit_other.Goals as goal

pub emit_act-put_words-requires : goal.emit_act-put_words-requires
emit_act-put_words-requires t c = let P = c.requires.0 in omega arith

pub emit_act-overflow_add-result : goal.emit_act-overflow_add-result
emit_act-overflow_add-result t c = let P = c.requires.0 in omega arith

pub emit_act-overflow_add-result-then-k-eq-EXIT : goal.emit_act-overflow_add-result-then-k-eq-EXIT
emit_act-overflow_add-result-then-k-eq-EXIT t c = let P = c.requires.0 in omega arith

pub emit_act-overflow_add-result-then-k-eq-EXIT-2 : goal.emit_act-overflow_add-result-then-k-eq-EXIT-2
emit_act-overflow_add-result-then-k-eq-EXIT-2 t c = let P = c.requires.0 in omega arith

pub emit_act-returns-then-k-eq-EXIT : goal.emit_act-returns-then-k-eq-EXIT
emit_act-returns-then-k-eq-EXIT t c = let P = c.requires.0 in let I = c.requires.1 in let a = c.args in record { act_done = exit-done a.cells.now a.spot.p a.out.now _ a.spot.at a.spot.exit a.slots.now (sym c.cell-k.ensures ∙ c.if-k-eq-EXIT.true) (c.put_words.ensures ∙ ap (λ (i : ℕ). puts a.out.now a.spot.at (1 ∷ i ∷ [])) c.low.ensures); passed = (record { on = omega arith; inside = omega arith; few = omega arith }, omega arith) }

pub emit_act-emit_cycle-requires : goal.emit_act-emit_cycle-requires
emit_act-emit_cycle-requires t c = let I = c.requires.1 in (omega arith, c.requires)

pub emit_act-returns-then-k-eq-CYCLE : goal.emit_act-returns-then-k-eq-CYCLE
emit_act-returns-then-k-eq-CYCLE t c = let a = c.args in record { act_done = cycle-done a.cells.now a.spot.p a.out.now _ a.spot.at a.spot.exit a.slots.now _ _ _ _ (sym c.cell-k.ensures ∙ c.if-k-eq-CYCLE.true) c.emit_cycle.ensures.cycle_done; passed = c.emit_cycle.ensures.passed }

pub emit_act-emit_choice-requires : goal.emit_act-emit_choice-requires
emit_act-emit_choice-requires t c = (omega arith, (c.requires.0, c.requires.1, sym (ap chooses c.cell-k.ensures) ∙ c.chooses.ensures.0 c.if-chooses.true, c.requires.2))

pub emit_act-returns-then-chooses : goal.emit_act-returns-then-chooses
emit_act-returns-then-chooses t c = record { act_done = c.emit_choice.ensures.act_done; passed = (c.emit_choice.ensures.passed) }

pub emit_act-emit_plain-requires : goal.emit_act-emit_plain-requires
emit_act-emit_plain-requires t c = (c.requires.0, c.requires.1)

pub emit_act-returns : goal.emit_act-returns
emit_act-returns t c = let a = c.args in let k = c.cell-k.ensures in let D = c.emit_plain.ensures.item_done in let E = c.emit_plain.ensures.slots_after in record { act_done = plain_done a.cells.now a.spot.p a.out.now _ a.spot.at a.spot.exit a.slots.now _ _ _ _ (λ z. c.if-k-eq-EXIT.false (k ∙ z)) (λ z. c.if-k-eq-CYCLE.false (k ∙ z)) (λ z. never (sym c.if-chooses.false ∙ c.chooses.ensures.1 (ap chooses k ∙ z))) D E.0 E.1; passed = (record { on = D.on; inside = D.inside; few = omega (arith, D.after, D.few, D.on) }, omega (arith, E.1, c.requires.2)) }

pub emit_alts-labels_at-j-requires : goal.emit_alts-labels_at-j-requires
emit_alts-labels_at-j-requires t c = let P = c.requires.0 in omega arith

pub emit_alts-loop-j-init : goal.emit_alts-loop-j-init
emit_alts-loop-j-init t c = let P = c.requires.0 in let l = c.labels_at-j.ensures in let a = c.args in (l.0, l.1, l.2, omega arith, omega arith, omega arith, refl, refl, c.requires.1, omega arith, alts-none a.cells.now a.spot.p a.out.now a.spot.at a.spot.exit a.slots.now)

pub emit_alts-overflow_add-first : goal.emit_alts-overflow_add-first
emit_alts-overflow_add-first t c = let P = c.requires.0 in let o = c.loop-j in omega arith

pub emit_alts-overflow_add-first-in-loop-j : goal.emit_alts-overflow_add-first-in-loop-j
emit_alts-overflow_add-first-in-loop-j t c = let P = c.requires.0 in let o = c.loop-j in omega arith

pub emit_alts-emit_list-s-requires : goal.emit_alts-emit_list-s-requires
emit_alts-emit_list-s-requires t c = let P = c.requires.0 in let o = c.loop-j in let i = c.loop-j.invariant.2 c.loop-j-test.true in (omega arith, (record { inside = omega arith; short = P.short; room = omega arith }, c.loop-j.invariant.8))

pub emit_alts-put_words-requires : goal.emit_alts-put_words-requires
emit_alts-put_words-requires t c = let P = c.requires.0 in let o = c.loop-j in let i = c.loop-j.invariant.2 c.loop-j-test.true in let m = c.emit_list-s.ensures.moved.0 in omega arith

pub emit_alts-overflow_add-end : goal.emit_alts-overflow_add-end
emit_alts-overflow_add-end t c = let P = c.requires.0 in let o = c.loop-j in let i = c.loop-j.invariant.2 c.loop-j-test.true in let m = c.emit_list-s.ensures.moved.0 in omega arith

pub emit_alts-overflow_add-n : goal.emit_alts-overflow_add-n
emit_alts-overflow_add-n t c = let P = c.requires.0 in let o = c.loop-j in let i = c.loop-j.invariant.2 c.loop-j-test.true in omega arith

pub emit_alts-overflow_add-here : goal.emit_alts-overflow_add-here
emit_alts-overflow_add-here t c = let P = c.requires.0 in let o = c.loop-j in let i = c.loop-j.invariant.2 c.loop-j-test.true in let m = c.emit_list-s.ensures.moved.0 in omega arith

pub emit_alts-labels_at-j-requires-in-loop-j : goal.emit_alts-labels_at-j-requires-in-loop-j
emit_alts-labels_at-j-requires-in-loop-j t c = let P = c.requires.0 in let m = c.emit_list-s.ensures.moved.0 in omega arith

pub emit_alts-loop-j-smaller : goal.emit_alts-loop-j-smaller
emit_alts-loop-j-smaller t c = let o = c.loop-j in let i = c.loop-j.invariant.2 c.loop-j-test.true in let m = c.emit_list-s.ensures.moved.0 in omega arith

pub emit_alts-loop-j-preserved : goal.emit_alts-loop-j-preserved
emit_alts-loop-j-preserved t c = let P = c.requires.0 in let a = c.args in let o = c.loop-j in let i = c.loop-j.invariant.2 c.loop-j-test.true in let m = c.emit_list-s.ensures.moved.0 in let l = c.labels_at-j-in-loop-j.ensures in (
  l.0,
  l.1,
  l.2,
  omega arith,
  omega arith,
  omega arith,
  c.put_words.auto.out ∙ (c.emit_list-s.auto.out ∙ c.loop-j.invariant.6),
  c.emit_list-s.auto.slots ∙ c.loop-j.invariant.7,
  c.emit_list-s.ensures.moved.1,
  omega arith,
  alts-more a.cells.now a.spot.p a.out.now a.spot.at a.spot.exit a.slots.now c.loop-j.here.p c.loop-j.here.at c.loop-j.here.exit c.loop-j.end c.loop-j.n c.loop-j.j _ _ _ c.loop-j.out _ _ c.loop-j.slots _ c.loop-j-test.true c.loop-j.invariant.0 (omega arith) c.loop-j.invariant.7 c.emit_list-s.ensures.list_done _ c.low.ensures _ c.low-in-loop-j.ensures c.put_words.ensures c.loop-j.invariant.10,
)

pub emit_alts-shape_of-slots : goal.emit_alts-shape_of-slots
emit_alts-shape_of-slots t c = c.loop-j.invariant.7

pub emit_alts-shape_of-out : goal.emit_alts-shape_of-out
emit_alts-shape_of-out t c = c.loop-j.invariant.6

pub emit_alts-returns : goal.emit_alts-returns
emit_alts-returns t c = let P = c.requires.0 in let a = c.args in let o = c.loop-j in record { alts_done = alts-end a.cells.now a.spot.p a.out.now a.spot.at a.spot.exit a.slots.now c.loop-j.here.p c.loop-j.here.at c.loop-j.here.exit c.loop-j.end c.loop-j.n c.loop-j.out c.loop-j.slots (sym c.loop-j.invariant.0 ∙ omega (arith, c.loop-j-test.false)) c.loop-j.invariant.10; moved = (record { on = omega arith; inside = omega arith; few = omega arith }, c.loop-j.invariant.8, c.loop-j.invariant.9) }

pub emit_choice-emit_sel-a-requires : goal.emit_choice-emit_sel-a-requires
emit_choice-emit_sel-a-requires t c = (c.requires.0, c.requires.1)

pub emit_choice-overflow_add-from : goal.emit_choice-overflow_add-from
emit_choice-overflow_add-from t c = let P = c.requires.0 in let D = c.emit_sel-a.ensures.item_done in omega (arith, D.after, D.few, D.on)

pub emit_choice-put_words-requires : goal.emit_choice-put_words-requires
emit_choice-put_words-requires t c = let P = c.requires.0 in let D = c.emit_sel-a.ensures.item_done in omega (arith, D.after, D.few, D.on)

pub emit_choice-emit_alts-z-requires : goal.emit_choice-emit_alts-z-requires
emit_choice-emit_alts-z-requires t c = let P = c.requires.0 in let D = c.emit_sel-a.ensures.item_done in (omega (arith, D.on, D.inside), (record { inside = D.inside; short = P.short; room = omega (arith, D.after, D.few, D.on) }, c.requires.3))

pub emit_choice-overflow_add-rest : goal.emit_choice-overflow_add-rest
emit_choice-overflow_add-rest t c = let P = c.requires.0 in let D = c.emit_sel-a.ensures.item_done in let M = c.emit_alts-z.ensures.moved.0 in omega (arith, D.after, D.few, D.on, M.few, M.inside)

pub emit_choice-overflow_mul-rest : goal.emit_choice-overflow_mul-rest
emit_choice-overflow_mul-rest t c = let P = c.requires.0 in let D = c.emit_sel-a.ensures.item_done in let M = c.emit_alts-z.ensures.moved.0 in omega (arith, D.after, D.few, D.on, M.few, M.inside)

pub emit_choice-overflow_add-rest-2 : goal.emit_choice-overflow_add-rest-2
emit_choice-overflow_add-rest-2 t c = let P = c.requires.0 in let D = c.emit_sel-a.ensures.item_done in let M = c.emit_alts-z.ensures.moved.0 in omega (arith, D.after, D.few, D.on, M.few, M.inside)

pub emit_choice-overflow_add-a : goal.emit_choice-overflow_add-a
emit_choice-overflow_add-a t c = let P = c.requires.0 in let D = c.emit_sel-a.ensures.item_done in omega (arith, D.after, D.few, D.on)

pub emit_choice-emit_table-requires : goal.emit_choice-emit_table-requires
emit_choice-emit_table-requires t c = let P = c.requires.0 in let D = c.emit_sel-a.ensures.item_done in let M = c.emit_alts-z.ensures.moved.0 in (c.emit_alts-z.ensures.moved.2, omega (arith, D.after, D.few, D.on, M.few, M.inside))

pub emit_choice-overflow_add-a-2 : goal.emit_choice-overflow_add-a-2
emit_choice-overflow_add-a-2 t c = let P = c.requires.0 in let D = c.emit_sel-a.ensures.item_done in omega (arith, D.inside)

pub emit_choice-emit_other-s-requires : goal.emit_choice-emit_other-s-requires
emit_choice-emit_other-s-requires t c = let P = c.requires.0 in let D = c.emit_sel-a.ensures.item_done in let M = c.emit_alts-z.ensures.moved.0 in (omega (arith, D.on, M.on, M.inside), (record { inside = M.inside; short = P.short; room = omega (arith, D.after, D.few, D.on, M.few, M.on) }, c.emit_alts-z.ensures.moved.1))

pub emit_choice-shape_of-slots : goal.emit_choice-shape_of-slots
emit_choice-shape_of-slots t c = c.emit_other-s.auto.slots ∙ (c.emit_alts-z.auto.slots ∙ c.emit_sel-a.auto.slots)

pub emit_choice-shape_of-out : goal.emit_choice-shape_of-out
emit_choice-shape_of-out t c = c.patch-2.auto.out ∙ (c.emit_other-s.auto.out ∙ (c.emit_table.auto.out ∙ (c.put_word.auto.out ∙ (c.patch.auto.out ∙ (c.emit_alts-z.auto.out ∙ (c.put_words.auto.out ∙ c.emit_sel-a.auto.out))))))

pub emit_choice-returns : goal.emit_choice-returns
emit_choice-returns t c = let P = c.requires.0 in let D = c.emit_sel-a.ensures.item_done in let M = c.emit_alts-z.ensures.moved.0 in let O = c.emit_other-s.ensures.moved.0 in let a = c.args in record {
  act_done = choice-join a.cells.now a.spot.p a.out.now _ _ _ _ _ _ _ _ a.spot.at a.spot.exit a.slots.now _ _ _ c.emit_sel-a.result.p c.emit_sel-a.result.at c.ins_of-ins.result c.cell-2.result c.emit_alts-z.result c.emit_other-s.result.p c.emit_other-s.result.at c.emit_other-s.result.exit c.requires.2 c.emit_sel-a.auto.slots (c.emit_alts-z.auto.slots ∙ c.emit_sel-a.auto.slots)
      c.emit_sel-a.ensures.item_done c.emit_sel-a.ensures.slots_after.0 (c.ins_of-ins.ensures ∙ ap ins_of c.cell.ensures) c.cell-2.ensures c.put_words.ensures c.emit_alts-z.ensures.alts_done c.patch.ensures (c.put_word.ensures ∙ (ap (λ (i : ℕ). set_word c.patch.new.out c.emit_alts-z.result.at i) c.low.ensures ∙ puts-word _ _ _)) c.emit_table.ensures c.emit_other-s.ensures.other_done c.patch-2.ensures;
  passed = (record { on = omega (arith, D.on, M.on, O.on); inside = O.inside; few = omega (arith, D.after, D.few, D.on, M.few, M.on, O.few, O.on) }, c.emit_other-s.ensures.moved.1);
}

pub emit_cycle-overflow_add-inner : goal.emit_cycle-overflow_add-inner
emit_cycle-overflow_add-inner t c = let P = c.requires.0 in omega arith

pub emit_cycle-emit_list-s-requires : goal.emit_cycle-emit_list-s-requires
emit_cycle-emit_list-s-requires t c = let P = c.requires.0 in let I = c.requires.1 in (omega arith, (record { inside = omega arith; short = P.short; room = omega arith }, omega arith))

pub emit_cycle-overflow_add-end : goal.emit_cycle-overflow_add-end
emit_cycle-overflow_add-end t c = let P = c.requires.0 in let m = c.emit_list-s.ensures.moved.0 in omega arith

pub emit_cycle-overflow_add-s : goal.emit_cycle-overflow_add-s
emit_cycle-overflow_add-s t c = let P = c.requires.0 in let m = c.emit_list-s.ensures.moved.0 in omega arith

pub emit_cycle-put_span-requires : goal.emit_cycle-put_span-requires
emit_cycle-put_span-requires t c = let P = c.requires.0 in let m = c.emit_list-s.ensures.moved.0 in omega arith

pub emit_cycle-returns : goal.emit_cycle-returns
emit_cycle-returns t c = let a = c.args in let L = c.emit_list-s in let m = c.emit_list-s.ensures.moved.0 in record { cycle_done = cycle-join a.cells.now a.spot.p a.out.now _ _ _ a.spot.at a.spot.exit a.slots.now _ c.emit_list-s.result.p c.emit_list-s.result.at c.emit_list-s.result.exit c.emit_list-s.ensures.list_done c.put_span.ensures c.patch.ensures; passed = (record { on = omega (arith, m.on); inside = m.inside; few = omega (arith, m.few) }, c.requires.2) }

pub emit_list-loop-slots-init : goal.emit_list-loop-slots-init
emit_list-loop-slots-init t c = let P = c.requires.0 in let a = c.args in (refl, refl, omega arith, omega arith, omega arith, c.requires.1, goes_none a.cells.now a.spot.p a.out.now a.spot.at a.spot.exit a.slots.now)

pub emit_list-emit_act-here-requires : goal.emit_list-emit_act-here-requires
emit_list-emit_act-here-requires t c = let P = c.requires.0 in let o = c.loop-slots in let i = cell-there c.args.cells.now o.here.p (λ z. c.loop-slots-test.true (c.cell.ensures ∙ z)) in
    (omega arith, (record { inside = o.invariant.3; short = P.short; room = omega arith }, i, o.invariant.5))

pub emit_list-loop-slots-smaller : goal.emit_list-loop-slots-smaller
emit_list-loop-slots-smaller t c = let a = c.args in let o = c.loop-slots in let i = cell-there a.cells.now o.here.p (λ z. c.loop-slots-test.true (c.cell.ensures ∙ z)) in let m = c.emit_act-here.ensures.passed.0 in omega arith

pub emit_list-loop-slots-preserved : goal.emit_list-loop-slots-preserved
emit_list-loop-slots-preserved t c = let a = c.args in let o = c.loop-slots in let m = c.emit_act-here.ensures.passed.0 in
    let g = goes-more a.cells.now a.spot.p a.out.now a.spot.at a.spot.exit a.slots.now o.here.p o.here.at o.here.exit _ _ _ o.out _ o.slots _ (λ z. c.loop-slots-test.true (c.cell.ensures ∙ z)) o.invariant.1 c.emit_act-here.ensures.act_done o.invariant.6 in
    (c.emit_act-here.auto.out ∙ o.invariant.0, c.emit_act-here.auto.slots ∙ o.invariant.1, omega arith, omega arith, omega arith, c.emit_act-here.ensures.passed.1, g)

pub emit_list-shape_of-slots : goal.emit_list-shape_of-slots
emit_list-shape_of-slots t c = c.loop-slots.invariant.1

pub emit_list-shape_of-out : goal.emit_list-shape_of-out
emit_list-shape_of-out t c = c.loop-slots.invariant.0

pub emit_list-returns : goal.emit_list-returns
emit_list-returns t c = let P = c.requires.0 in let a = c.args in let o = c.loop-slots in let l = c.min.ensures in record { list_done = goes_end a.cells.now a.spot.p a.out.now a.spot.at a.spot.exit a.slots.now o.here.p o.here.at o.here.exit c.min.result o.out o.slots (sym c.cell.ensures ∙ omega (arith, c.loop-slots-test.false)) l o.invariant.6; moved = (record { on = omega arith; inside = omega arith; few = omega arith }, o.invariant.5) }

pub emit_other-overflow_add-inner : goal.emit_other-overflow_add-inner
emit_other-overflow_add-inner t c = let P = c.requires.0 in omega arith

pub emit_other-emit_list-requires : goal.emit_other-emit_list-requires
emit_other-emit_list-requires t c = let P = c.requires.0 in let a = c.args in let i = cell-there a.cells.now a.spot.p (λ z. omega (arith, c.cell.ensures, c.if-cell-eq-OTHERWISE.true)) in (omega arith, (record { inside = omega arith; short = P.short; room = omega arith }, c.requires.1))

pub emit_other-returns-then-cell-eq-OTHERWISE : goal.emit_other-returns-then-cell-eq-OTHERWISE
emit_other-returns-then-cell-eq-OTHERWISE t c = let a = c.args in let m = c.emit_list.ensures.moved.0 in record { other_done = other-done a.cells.now a.spot.p a.out.now _ a.spot.at a.spot.exit a.first.label a.first.from a.slots.now _ _ _ _ (sym c.cell.ensures ∙ c.if-cell-eq-OTHERWISE.true) c.emit_list.ensures.list_done; moved = (record { on = omega arith; inside = m.inside; few = omega arith }, c.emit_list.ensures.moved.1) }

pub emit_other-emit_absent-requires : goal.emit_other-emit_absent-requires
emit_other-emit_absent-requires t c = let P = c.requires.0 in (record { inside = P.inside; short = P.short; room = omega arith }, omega arith)

pub emit_other-returns-else-cell-eq-OTHERWISE : goal.emit_other-returns-else-cell-eq-OTHERWISE
emit_other-returns-else-cell-eq-OTHERWISE t c = let a = c.args in let E = c.emit_absent.ensures.moved in record { other_done = absent-done a.cells.now a.spot.p a.out.now _ a.spot.at a.spot.exit a.first.label a.first.from a.slots.now _ _ _ (c.emit_absent.ensures.absent_done (λ z. c.if-cell-eq-OTHERWISE.false (c.cell.ensures ∙ z))) E.1; moved = (E.0, omega (arith, E.1, c.requires.1)) }
