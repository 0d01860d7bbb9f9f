-- `symbols::bucket` meets its contract.
use mathlib.Core.Path.{sym, ◌∙◌}
use native.Mathlib.Omega.{arith}
use Rattle.symbols.proofs.Parts.{hash-more, bucket-end}
use Rattle.symbols.proofs.bucket.Goals as goal

pub loop-b-preserved : goal.loop-b-preserved
loop-b-preserved c = (omega arith, sym (hash-more c.args.key c.args.word.now c.loop-b.h c.loop-b.b-index c.from.result c.loop-b-test.true (sym c.from.ensures)) ∙ c.loop-b.invariant.1)

pub returns-clause-value : goal.returns-clause-value
returns-clause-value c = bucket-end c.args.key c.args.class c.args.word.now c.loop-b.h c.loop-b.b-index (omega arith) c.loop-b.invariant.1
