-- `mapper::map_read` meets its contract.
use borrow.Author.Rules.{rules}
use native.Mathlib.Omega.{arith}
use Rattle.grammar.proofs.ProgramIn.{parse-short}
use Rattle.mapper.proofs.Answers.{its-place, read-wrong, read-long, read_held}
use Rattle.mapper.proofs.map_read.Goals as goal

pub resolve-requires : goal.resolve-requires
resolve-requires c = (omega (arith, parse-short _ c.requires.tree c.requires.rest c.requires.reads), search rules, search rules, search rules, search rules)

pub returns-in-Err : goal.returns-in-Err
returns-in-Err c = rw c.from.ensures (read-wrong c.requires.rest c.requires.reads _ (c.in-Err.ensures c.requires.tree c.requires.rest c.requires.reads))

pub returns-then-b-gt-CELLS : goal.returns-then-b-gt-CELLS
returns-then-b-gt-CELLS c = read-long c.requires.rest c.requires.reads _ (c.in-Ok.ensures c.requires.tree c.requires.rest c.requires.reads) (omega (arith, c.if-b-gt-CELLS.true))

pub map_held-requires : goal.map_held-requires
map_held-requires c = its-place (c.in-Ok.ensures c.requires.tree c.requires.rest c.requires.reads)

pub returns : goal.returns
returns c = read_held c.requires.rest c.requires.reads _ (c.in-Ok.ensures c.requires.tree c.requires.rest c.requires.reads) (omega (arith, c.if-b-gt-CELLS.false)) c.map_held.ensures
