use mathlib.Core.Path.{sym, ◌∙◌}
use Rattle.meter.proofs.Store.{number_past, number-cap, number_word}
use Rattle.meter.proofs.number.Goals as goal

-- src/lib.rt:71:9
pub returns-then-i-ge-HALF : goal.returns-then-i-ge-HALF
returns-then-i-ge-HALF c = sym (number_past _ _ c.if-i-ge-HALF.true)

-- src/lib.rt:74:9
pub returns-then-at_cap : goal.returns-then-at_cap
returns-then-at_cap c = sym (number-cap _ _ c.if-i-ge-HALF.false (sym c.at_cap.ensures ∙ c.if-at_cap.true))

-- src/lib.rt:66:1
pub returns : goal.returns
returns c = c.from.ensures ∙ sym (number_word _ _ c.if-i-ge-HALF.false (sym c.at_cap.ensures ∙ c.if-at_cap.false))
