-- `scanner::next_word` meets its contract.
use native.Mathlib.Omega.{arith}
use Rattle.scanner.proofs.WordLaws.{ended, at_word, earlier}
use Rattle.scanner.proofs.next_word.Goals as goal

pub returns-then-text-at : goal.returns-then-text-at
returns-then-text-at c = rw c.found.ensures (ended c.args.text.now c.args.at c.if-text-at.true)

pub returns-then-i-text : goal.returns-then-i-text
returns-then-i-text c = earlier c.args.text.now c.args.at c.skip-i.result _ c.skip-i.ensures.low c.skip-i.ensures.high c.skip-i.ensures.same (at_word c.args.text.now c.skip-i.result _ c.if-i-text.true (c.skip-i.ensures.solid c.if-i-text.true) (c.skip-i.ensures.plain c.if-i-text.true) c.word_here.ensures)

pub returns : goal.returns
returns c = earlier c.args.text.now c.args.at c.skip-i.result _ c.skip-i.ensures.low c.skip-i.ensures.high c.skip-i.ensures.same (rw c.found-2.ensures (ended c.args.text.now c.skip-i.result (omega arith)))
