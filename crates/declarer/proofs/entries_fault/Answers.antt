-- `declarer::entries_fault` meets its contract.
use Rattle.std.proofs.lemmas.Result.{err_from_is_err_and}
use Rattle.symbols.proofs.Numbered.{fault-some}
use mathlib.Core.Path.{refl, ◌∙◌}
use native.Mathlib.Omega.{arith}
use Rattle.declarer.proofs.MarkLaws.{marked-none}
use Rattle.declarer.proofs.OperatorLaws.{apart-entry, passed_start, passed-moves, passed-stops, passed-ends, passed-goes, passed-marks}
use Rattle.declarer.proofs.entries_fault.Goals.{then-w-eq-SEMICOLON-via-then-w-eq-SEMICOLON, then-w-eq-SEMICOLON-via-else-w-eq-SEMICOLON+then-next-i}
use Rattle.declarer.proofs.entries_fault.Goals as goal

pub loop-next-init : goal.loop-next-init
loop-next-init c = (omega arith, c.requires.1, (λ es ws' d. passed_start d), (λ es ws' d. marked-none es), refl)

pub returns-in_err-entry_fault : goal.returns-in_err-entry_fault
returns-in_err-entry_fault c es ws' d =
    let p = err_from_is_err_and c.from_residual.result c.from_residual.ensures.1 in
    rw (p.1, p.2) (passed-stops (c.loop-next.invariant.2 es ws' d) c.read_entry-e.ensures (λ l from o ws₁ is. c.in_err-entry_fault.ensures es ws' d l from o ws₁ is (apart-entry _ is c.find_value-v.ensures.same (c.loop-next.invariant.3 es ws' d) c.is_apart-apart.ensures)) (fault-some _))

pub returns-then-w-eq-SEMICOLON : goal.returns-then-w-eq-SEMICOLON
returns-then-w-eq-SEMICOLON c es ws' d = elim c.then-w-eq-SEMICOLON.branch [
  | then-w-eq-SEMICOLON-via-then-w-eq-SEMICOLON w ↦ passed-ends (c.loop-next.invariant.2 es ws' d) c.read_entry-e.ensures (λ l from o ws₁ is. c.in_ok-entry_fault.ensures es ws' d l from o ws₁ is (apart-entry _ is c.find_value-v.ensures.same (c.loop-next.invariant.3 es ws' d) c.is_apart-apart.ensures)) refl c.next_word-w.ensures w.if-w-eq-SEMICOLON.true
  | then-w-eq-SEMICOLON-via-else-w-eq-SEMICOLON+then-next-i w ↦ absurd (omega (arith, passed-moves (c.loop-next.invariant.2 es ws' d) c.read_entry-e.ensures, w.if-next-i.true))
]

pub loop-next-preserved : goal.loop-next-preserved
loop-next-preserved c = (
  omega (arith, c.if-next-i.false, c.loop-next.invariant.0),
  c.read_entry-e.ensures.high,
  (λ es ws' d. passed-goes (c.loop-next.invariant.2 es ws' d) c.read_entry-e.ensures (λ l from o ws₁ is. c.in_ok-entry_fault.ensures es ws' d l from o ws₁ is (apart-entry _ is c.find_value-v.ensures.same (c.loop-next.invariant.3 es ws' d) c.is_apart-apart.ensures)) refl c.next_word-w.ensures c.if-w-eq-SEMICOLON.false),
  (λ es ws' d. passed-marks (c.loop-next.invariant.2 es ws' d) c.read_entry-e.ensures (c.loop-next.invariant.3 es ws' d) c.mark.ensures.kept c.find_value-v.ensures.same c.mark.ensures.marked),
  c.mark.ensures.kept.size ∙ c.loop-next.invariant.4,
)
