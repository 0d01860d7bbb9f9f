-- `counting::read_figures` meets its contract.
use mathlib.Core.Path.{refl}
use Rattle.counting.proofs.Form.{other-length, unsound}
use Rattle.counting.proofs.read_figures.Goals as goal

pub returns-then-figures-ne-FIGURES_BYTES-clause-refused : goal.returns-then-figures-ne-FIGURES_BYTES-clause-refused
returns-then-figures-ne-FIGURES_BYTES-clause-refused c = (refl, other-length c.args.figures.now c.if-figures-ne-FIGURES_BYTES.true)

pub returns-then-not-is_sound-clause-refused : goal.returns-then-not-is_sound-clause-refused
returns-then-not-is_sound-clause-refused c = (refl, unsound c.args.figures.now c.if-figures-ne-FIGURES_BYTES.false c.if-not-is_sound.ensures)
