-- `emitter::emit` meets its contract: a refusal by its size, else by `accepted-part`.
use Prim.Native.Nat.{ℕ, ◌*◌, ◌<◌}
use mathlib.Core.Logic.{◌⊎◌, inl, inr}
use mathlib.Core.Path.{refl, ap, ◌∙◌}
use native.Mathlib.Decide.{dec_lt}
use native.Mathlib.Omega.{arith}
use lib.Seq.{length-take-le}
use Rattle.program.specs.Table.{size_rules}
use Rattle.emitter.specs.Emitted.{Emits}
use Rattle.emitter.specs.Words.{words}
use Rattle.emitter.proofs.Rules.{refused-part, accepted-part, size_of}
use Rattle.emitter.proofs.emit.Goals as goal
use Rattle.emitter.proofs.emit.Goals.{then-cells-gt-WORD_VALUES-via-then-cells-gt-WORD_VALUES, then-cells-gt-WORD_VALUES-via-else-cells-gt-WORD_VALUES+then-rules-gt-RULES}

pub returns-then-cells-gt-WORD_VALUES : goal.returns-then-cells-gt-WORD_VALUES
unfolding Emits
returns-then-cells-gt-WORD_VALUES c = elim c.then-cells-gt-WORD_VALUES.branch [
  | then-cells-gt-WORD_VALUES-via-then-cells-gt-WORD_VALUES w ↦ λ prog h. absurd (omega (arith, h.short, w.if-cells-gt-WORD_VALUES.true))
  | then-cells-gt-WORD_VALUES-via-else-cells-gt-WORD_VALUES+then-rules-gt-RULES w ↦ λ prog h. absurd (omega (arith, h.few, w.if-rules-gt-RULES.true))
]

pub returns-then-room-size : goal.returns-then-room-size
unfolding Emits
returns-then-room-size c = λ prog h. rw c.too_short-then-room-size.ensures.size (
    let a = c.args in
    let s = size_of a.cells.now a.sorts.now a.rules prog _ _ _ c.emit_rules-size.result h refl c.emit_rules-size.ensures in
    let n = length-take-le (2 * c.min-room.result) a.table.now (omega (arith, c.min-room.ensures)) in
    let past : (4096 < size_rules prog) ⊎ (words a.table.now < size_rules prog) = elim (dec_lt 4096 (size_rules prog)) [ yes x ↦ inl x | no x ↦ inr (omega (arith, s, c.if-room-size.true, c.min-room.ensures)) ] in
    refused-part prog a.table.now c.emit_rules-size.new.out _ _ (2 * c.min-room.result) s past (c.emit_rules-size.auto.out ∙ n) (omega (arith, c.min-room.ensures)) c.too_short-then-room-size.ensures.table_after)

pub returns : goal.returns
unfolding Emits
returns c = λ prog h. (let a = c.args in accepted-part a.cells.now a.sorts.now a.rules prog _ a.table.now _ _ _ (2 * c.min-room.result) h refl c.emit_rules-size.ensures (omega (arith, c.if-room-size.false, c.min-room.ensures)) (omega (arith, c.if-room-size.false, c.min-room.ensures)) (ap (λ (i : ℕ). 2 * i) c.min-room.ensures) c.zero_from.ensures)
