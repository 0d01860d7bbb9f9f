-- `carrier::words_meet` meets its contract.
use mathlib.Core.Path.{refl, sym, ◌∙◌}
use Rattle.carrier.specs.Going.{words_meet}
use Rattle.carrier.specs.Held.{calls_held}
use Rattle.carrier.proofs.words_meet.Goals as goal

pub returns-then-calls : goal.returns-then-calls
unfolding words_meet
returns-then-calls c = rw (sym c.calls.ensures ∙ c.if-calls.true) (c.calls_meet.ensures ∙ (λ i. calls_held c.args.old.text.now c.args.old.sheet.now c.args.new.text.now c.args.new.sheet.now (c.from.ensures i) (c.from-then-calls.ensures i)))

pub returns-else-calls : goal.returns-else-calls
unfolding words_meet
returns-else-calls c = rw (sym c.calls.ensures ∙ c.if-calls.false) refl
