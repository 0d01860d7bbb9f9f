use borrow.Author.Rules.{rules}
use native.Mathlib.Omega.{arith}
use Rattle.mapper.proofs.Answers.{held-long, held-full, held_whole}
use Rattle.mapper.proofs.map_held.Goals as goal

pub returns-then-locate-gt-TABLE_WORDS : goal.returns-then-locate-gt-TABLE_WORDS
returns-then-locate-gt-TABLE_WORDS c = λ p prog its rowed means. held-long _ _ _ _ c.locate.ensures its rowed means (omega (arith, c.if-locate-gt-TABLE_WORDS.true))

pub returns-then-out-b : goal.returns-then-out-b
returns-then-out-b c = λ p prog its rowed means. held-full _ _ _ _ c.locate.ensures its rowed means (omega (arith, c.if-locate-gt-TABLE_WORDS.false)) c.if-out-b.true

pub returns : goal.returns
returns c = λ p prog its rowed means. held_whole _ _ _ _ c.locate.ensures its rowed means (omega (arith, c.if-locate-gt-TABLE_WORDS.false)) (omega (arith, c.if-out-b.false)) (search rules) c.put_rows.ensures c.put_made.ensures
