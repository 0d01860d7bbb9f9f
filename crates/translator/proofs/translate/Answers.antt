use borrow.Author.Rules.{rules}
use native.Mathlib.Omega.{arith}
use Rattle.translator.proofs.Passes.{answered-wrong, answered-good}
use Rattle.grammar.proofs.ProgramIn.{parse-short}
use mathlib.Core.Path.{refl, ◌∙◌}
use Rattle.translator.proofs.translate.Goals as goal

-- src/lib.rt:157:9
pub resolve-requires : goal.resolve-requires
resolve-requires c = (omega (arith, parse-short _ c.requires.0.tree c.requires.0.rest c.requires.0.reads), search rules, search rules, search rules, search rules)

-- src/lib.rt:159:9
pub returns-in-Err : goal.returns-in-Err
returns-in-Err c = let i = c.requires.0 in answered-wrong _ i.tree i.rest i.reads (c.in-Err.ensures i.tree i.rest i.reads) (rw c.from.ensures at c.refuse.ensures)

-- src/lib.rt:149:1
pub returns : goal.returns
returns c = let i = c.requires.0 in answered-good _ i.tree i.rest i.reads _ _ (c.in-Ok.ensures i.tree i.rest i.reads) refl (c.locate.auto.starts ∙ c.requires.1) c.finish-answer.ensures c.locate.ensures
