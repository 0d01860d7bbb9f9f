-- `Registers::choice` meets its contract.
use Rattle.walker.proofs.Laws.{inside, behind}
use Rattle.walker.proofs.Registers.choice.Goals as goal

pub returns-then-n-loc : goal.returns-then-n-loc
returns-then-n-loc c = simp (behind c.args.self.location c.if-n-loc.true c.requires.0 c.requires.2)

pub returns : goal.returns
returns c = simp (inside c.args.self.location c.if-n-loc.false c.requires.0 c.requires.2, c.take_other.ensures, c.choice_target.ensures, c.low_word.ensures)
