use borrow.Author.Rules.{rules}
use native.Mathlib.Omega.{arith}
use Rattle.grammar.proofs.ProgramIn.{parse-short}
use Rattle.sources.proofs.Held.{held-20, held_whole}
use Rattle.sources.proofs.put_sheet.Goals as goal

pub returns-then-size-gt-TABLE_WORDS : goal.returns-then-size-gt-TABLE_WORDS
returns-then-size-gt-TABLE_WORDS c = held-20 c.requires.0 _ _ c.locate-size.ensures c.if-size-gt-TABLE_WORDS.true c.too_short.ensures.0 c.too_short.ensures.1 c.too_short.ensures.2

pub fill-requires : goal.fill-requires
fill-requires c = let h = c.requires.0 in (h.placed, search rules, search rules, omega (arith, parse-short _ h.tree h.rest h.reads))

pub returns : goal.returns
returns c = held_whole c.requires.0 _ _ c.locate-size.ensures _ (omega (arith, c.if-size-gt-TABLE_WORDS.false)) (search rules) c.fill.ensures c.put_counts.ensures
