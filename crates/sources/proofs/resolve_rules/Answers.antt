-- `sources::resolve_rules` meets its contract.
use borrow.Author.Rules.{rules}
use native.Mathlib.Omega.{arith}
use Rattle.grammar.proofs.ProgramIn.{parse-short}
use Rattle.sources.proofs.Answers.{read-wrong, read-long, in-buffers}
use Rattle.sources.proofs.resolve_rules.Goals as goal

pub resolve-requires : goal.resolve-requires
resolve-requires c = let i = c.requires.0 in (omega (arith, parse-short _ i.tree i.rest i.reads), search rules, search rules, search rules, search rules)

pub returns-in-Err : goal.returns-in-Err
returns-in-Err c = let i = c.requires.0 in rw c.from.ensures (read-wrong i.rest i.reads (c.in-Err.ensures i.tree i.rest i.reads))

pub returns-then-b-gt-CELLS : goal.returns-then-b-gt-CELLS
returns-then-b-gt-CELLS c = let i = c.requires.0 in read-long i.rest i.reads (c.in-Ok.ensures i.tree i.rest i.reads) (omega (arith, c.if-b-gt-CELLS.true)) c.too_short.ensures.0 c.too_short.ensures.1 c.too_short.ensures.2

pub put_sheet-requires : goal.put_sheet-requires
put_sheet-requires c = let i = c.requires.0 in (in-buffers i.rest i.reads (c.in-Ok.ensures i.tree i.rest i.reads) (omega (arith, c.if-b-gt-CELLS.false)), c.requires.4)
