-- `declarer::given_fault` meets its contract.
use Rattle.symbols.specs.Rows.{decl_at}
use Rattle.declarer.proofs.given_fault.Goals as goal

pub returns : goal.returns
unfolding decl_at
returns c = rw (c.number.ensures.0, c.number-2.ensures.0) at (c.optional_fault.ensures 257)
