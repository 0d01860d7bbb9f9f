-- `reader::look_ahead` meets its contract.
use Rattle.reader.proofs.SectionLaws.{ahead-open, ahead-plain, ahead-taking, ahead-unclosed}
use Rattle.reader.specs.Counting.{told_kind}
use Rattle.reader.proofs.look_ahead.Goals as goal

pub returns-then-p-ne-OPENING : goal.returns-then-p-ne-OPENING
unfolding told_kind
returns-then-p-ne-OPENING c = ahead-plain c.look-p.ensures c.if-p-ne-OPENING.true

pub returns-then-t-ne-NAME : goal.returns-then-t-ne-NAME
unfolding told_kind
returns-then-t-ne-NAME c = ahead-open c.look-p.ensures c.if-p-ne-OPENING.false c.look-t.ensures c.if-t-ne-NAME.true

pub returns-then-c-ne-CLOSING : goal.returns-then-c-ne-CLOSING
unfolding told_kind
returns-then-c-ne-CLOSING c = ahead-unclosed c.look-p.ensures c.if-p-ne-OPENING.false c.look-t.ensures c.if-t-ne-NAME.false c.look-c.ensures c.if-c-ne-CLOSING.true

pub returns : goal.returns
unfolding told_kind
returns c = ahead-taking c.look-p.ensures c.if-p-ne-OPENING.false c.look-t.ensures c.if-t-ne-NAME.false c.look-c.ensures c.if-c-ne-CLOSING.false c.look-g.ensures
