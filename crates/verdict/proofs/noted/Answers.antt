-- `verdict::noted` meets its contract: known, no room, or one fact more.
use native.Mathlib.Omega.{arith}
use lib.ListN.{length-set}
use mathlib.Core.Path.{sym, ◌∙◌}
use Rattle.verdict.proofs.Growth.{noted-known, noted-full, noted_more}
use Rattle.verdict.proofs.noted.Goals as goal

pub returns-then-told : goal.returns-then-told
returns-then-told c = noted-known c.args.facts.now c.args.m c.args.r c.args.v c.requires (sym c.told.ensures ∙ c.if-told.true)

pub returns-then-facts-m-lt2 : goal.returns-then-facts-m-lt2
returns-then-facts-m-lt2 c = noted-full c.args.facts.now c.args.m c.args.r c.args.v c.requires c.if-facts-m-lt2.true

pub bounds-facts-m-2 : goal.bounds-facts-m-2
bounds-facts-m-2 c = simp length-set (omega arith)

pub returns : goal.returns
returns c = noted_more c.args.facts.now c.args.m c.args.r c.args.v (omega arith) (sym c.told.ensures ∙ c.if-told.false)
