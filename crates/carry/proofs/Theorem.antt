-- `carrying-on`: between any two texts that `process` accepts.
use mathlib.Core.Bool.{Bool, true}
use mathlib.Core.List.{List, ◌++◌}
use mathlib.Core.Path.{◌≡◌, sym, ap, ◌∙◌, subst}
use Prim.Native.Nat.{ℕ, ◌+◌, ◌*◌}
use Rattle.acceptance.proofs.Accepts.{accepted-table}
use Rattle.acceptance.specs.Answers.{TableOf}
use Rattle.agreement.proofs.BoundWalk.{budget}
use Rattle.agreement.specs.Demand.{Listed}
use Rattle.carry.proofs.Carrying.{carries, ends-carried}
use Rattle.carry.proofs.Sources.{SourceOk, source_ok}
use Rattle.carry.specs.Carry.{Source, carried, carry, source_of}
use Rattle.carry.specs.GoingOn.{Carries, FinishesCarried, CarryingOn}
use Rattle.events.specs.Events.{Event}
use Rattle.finishing.proofs.Exact.{finishing-sound}
use Rattle.finishing.specs.Finishing.{Finishing}
use Rattle.machine.specs.Walk.{Walk}
use Rattle.processor.specs.Process.{accepted, process}
use Rattle.program.specs.Accepted.{Accepted}
use Rattle.program.specs.Program.{Rule}
use Rattle.program.specs.Table.{table}

pub carrying-on : (old new : List ℕ) (room room' : ℕ) (words words' : List ℕ) (verdict verdict' : Bool) → process old room ≡ accepted words verdict
    → process new room' ≡ accepted words' verdict' → CarryingOn old new words words' verdict'
carrying-on old new room room' words words' verdict verdict' e e' = claim (accepted-table old room words verdict e) (accepted-table new room' words' verdict' e')
  where
    p : Source
    p = source_of old

    q : Source
    q = source_of new

    claim : TableOf old room words verdict → TableOf new room' words' verdict' → CarryingOn old new words words' verdict'
    claim t t' = record { prog' = t'.prog; means = t'.means; carries = carries_so; finishes = finishes-so }
      where
        s : SourceOk p t.prog
        s = source_ok old t.prog t.means

        s' : SourceOk q t'.prog
        s' = source_ok new t'.prog t'.means

        ok : Accepted p.rules
        ok = rw s.rules_are t.accepts

        ok' : Accepted q.rules
        ok' = rw s'.rules_are t'.accepts

        old-words : words ≡ table p.rules
        old-words = t.words_are ∙ ap table (sym s.rules_are)

        new-words : words' ≡ table q.rules
        new-words = t'.words_are ∙ ap table (sym s'.rules_are)

        carries_so : (more more' tokens answers : List ℕ) (allowance : ℕ) {w : Walk} {es : List Event} {n : ℕ} {ns : List ℕ}
            → Listed (words ++ more) tokens answers allowance w es n ns → (w' : Walk) → carry p q w ≡ carried w'
            → Carries t'.prog (words' ++ more') tokens answers w w' es
        carries_so more more' tokens answers allowance {w} {es} l w' c =
            subst (λ (rs : List Rule). Carries rs (words' ++ more') tokens answers w w' es) s'.rules_are
            (rw new-words (carries p q ok ok' s.distinct s'.distinct s.length-is s'.length-is more more' tokens answers allowance (rw old-words at l) w' c))

        finishes-so : verdict' ≡ true → FinishesCarried old new words words'
        finishes-so v count left = (
          3 * budget q.rules (count + (left + 1)) + 1,
          λ more more' tokens answers allowance w es n ns h l a w' c.
              let f : Finishing q.rules = rw s'.rules_are (finishing-sound t'.prog (sym t'.verdict_is ∙ v)) in
              rw (new-words, ← h) (ends-carried p q ok ok' s.distinct s'.distinct s.length-is s'.length-is more more' tokens answers allowance (rw old-words at l) w' c f left a),
        )
