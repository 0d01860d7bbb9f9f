use Rattle.linking.proofs.Answers.{refused-so}
use Rattle.linking.proofs.refuse.Goals as goal

-- src/lib.rt:79:1
pub returns : goal.returns
returns c = refused-so c.refuse-a.ensures.answer c.refuse-a.ensures.lent c.in_text.ensures
