-- `resolver::give_value` meets its contract.
use Rattle.program.specs.Program.{give}
use Rattle.resolver.proofs.Rests.{value-in-procedure, give-goes, give-sends}
use Rattle.resolver.proofs.give_value.Goals as goal

pub returns-then-class-eq0 : goal.returns-then-class-eq0
returns-then-class-eq0 c = value-in-procedure _ _ _ c.requires.0 c.next_word-v.ensures c.if-class-eq0.true c.refused.ensures

pub returns : goal.returns
returns c = give-goes c.args.w c.if-class-eq0.false (c.resolve_sent.ensures give give-sends)
