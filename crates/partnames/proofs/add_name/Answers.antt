-- `partnames::add_name` meets its contract.
use Rattle.partnames.proofs.Mentioned.{not-led, no-name-there, name-known, name-past, name_new}
use mathlib.Core.Bool.{not}
use mathlib.Core.Path.{ap}
use Rattle.partnames.proofs.add_name.Goals.{then-not-led-via-then-not-led, then-not-led-via-else-not-led+then-w-ne-NAME}
use Rattle.partnames.proofs.add_name.Goals as goal

pub returns-then-not-led : goal.returns-then-not-led
returns-then-not-led c =
    elim c.then-not-led.branch [
      | then-not-led-via-then-not-led w ↦ not-led _ _ _ _ c.requires.1 _ (ap not w.if-not-led.true)
      | then-not-led-via-else-not-led+then-w-ne-NAME w ↦ no-name-there _ _ _ _ c.requires.1 _ _ w.if-w-ne-NAME.true
    ]

pub returns-then-is_rule : goal.returns-then-is_rule
returns-then-is_rule c = name-known _ _ _ _ c.requires.1 _ c.args.w c.if-not-led.false c.if-w-ne-NAME.false c.is_rule.ensures c.if-is_rule.true

pub returns-then-n-eq-NAMES : goal.returns-then-n-eq-NAMES
returns-then-n-eq-NAMES c = name-past _ _ _ _ c.requires.1 _ c.args.w c.if-not-led.false c.if-w-ne-NAME.false c.is_rule.ensures c.if-is_rule.false c.if-n-eq-NAMES.true

pub returns : goal.returns
returns c = name_new _ _ _ _ c.requires.1 _ c.args.w c.if-not-led.false c.if-w-ne-NAME.false c.is_rule.ensures c.if-is_rule.false c.if-n-eq-NAMES.false (rw c.from.ensures at c.put_row.ensures)
