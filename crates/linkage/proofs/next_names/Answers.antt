-- `linkage::next_names` meets its contract.
use mathlib.Core.Path.{◌∙◌}
use native.Mathlib.Omega.{arith}
use Rattle.machine.specs.Bytes.{words_of}
use Rattle.linkage.proofs.Closing.{behind-none, behind-one, past_one}
use Rattle.linkage.proofs.next_names.Goals as goal

-- `linkage::next_names` meets its contract.
-- src/lib.rt:98:9
pub returns-then-calls-eq0 : goal.returns-then-calls-eq0
returns-then-calls-eq0 c = behind-none _ _ c.if-calls-eq0.true

-- src/lib.rt:101:13
pub overflow_add-result : goal.overflow_add-result
overflow_add-result c = omega (arith, past_one (words_of c.args.objects.now) c.args.calls c.if-calls-eq0.false, c.requires)

-- src/lib.rt:101:65
pub overflow_add-calls : goal.overflow_add-calls
overflow_add-calls c = omega (arith, past_one (words_of c.args.objects.now) c.args.calls c.if-calls-eq0.false, c.requires)

-- src/lib.rt:101:13
pub overflow_add-result-2 : goal.overflow_add-result-2
overflow_add-result-2 c = let w = c.from.ensures ∙ c.word.ensures in omega (arith, w, past_one (words_of c.args.objects.now) c.args.calls c.if-calls-eq0.false, c.requires)

-- src/lib.rt:93:1
pub returns : goal.returns
returns c = behind-one _ _ _ c.if-calls-eq0.false (c.from.ensures ∙ c.word.ensures)
