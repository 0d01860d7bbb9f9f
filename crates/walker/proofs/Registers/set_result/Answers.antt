-- `Registers::set_result` meets its contract.
use Rattle.walker.proofs.Laws.{inside, behind}
use Rattle.walker.proofs.Registers.set_result.Goals as goal

pub returns-then-n-loc : goal.returns-then-n-loc
returns-then-n-loc c = simp (behind c.args.self.location c.if-n-loc.true c.requires.0 c.requires.2)

pub returns : goal.returns
returns c = simp (inside c.args.self.location c.if-n-loc.false c.requires.0 c.requires.2, c.with_result.ensures, c.word.ensures, c.moved.ensures, c.requires.2)
