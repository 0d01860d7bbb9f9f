-- `carrier::Program::end_of` meets its contract.
use Rattle.carrier.proofs.Laws.{end-next, end-last}
use native.Mathlib.Omega.{arith}
use Rattle.carrier.proofs.Program.end_of.Goals as goal

pub returns-then-i-number : goal.returns-then-i-number
returns-then-i-number c = end-next c.args.self.sheet.now c.args.i _ (omega (arith, c.if-i-number.true, c.number.ensures.0)) c.number-then-i-number.ensures.0 c.number-then-i-number.ensures.1

pub returns : goal.returns
returns c = end-last c.args.self.sheet.now _ c.args.i (omega (arith, c.if-i-number.false, c.number.ensures.0)) c.number-2.ensures.0 (omega (arith, c.number-2.ensures.0, c.requires.1))
