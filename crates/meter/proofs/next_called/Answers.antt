-- `meter::next_called` meets its contract, in each half.
use Rattle.meter.specs.Store.{numbers_of}
use Rattle.meter.proofs.Store.{none_first, none-own}
use Rattle.meter.proofs.next_called.Goals as goal

pub returns-then-called-eq-ROWS : goal.returns-then-called-eq-ROWS
returns-then-called-eq-ROWS c = (c.next_numbered.ensures.0, c.next_numbered.ensures.1, none_first c.args.called.now (numbers_of c.args.rows.now) c.args.i c.next_numbered.result c.if-called-eq-ROWS.true c.next_numbered.ensures.2)

pub returns : goal.returns
returns c = (c.next_numbered-2.ensures.0, c.next_numbered-2.ensures.1, none-own c.args.called.now (numbers_of c.args.rows.now) c.args.i c.next_numbered-2.result c.if-called-eq-ROWS.false c.next_numbered-2.ensures.2)
