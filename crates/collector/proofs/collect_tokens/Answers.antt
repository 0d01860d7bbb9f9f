-- `collector::collect_tokens` meets its contract.
use Rattle.collector.proofs.Sections.{tokens-alone, tokens-both}
use Rattle.collector.proofs.collect_tokens.Goals as goal

pub returns-then-w-eq-OUTPUT : goal.returns-then-w-eq-OUTPUT
returns-then-w-eq-OUTPUT c = tokens-both c.look-w.ensures c.if-w-eq-OUTPUT.true c.collect_group.ensures

pub returns-else-w-eq-OUTPUT : goal.returns-else-w-eq-OUTPUT
returns-else-w-eq-OUTPUT c = tokens-alone c.look-w.ensures c.if-w-eq-OUTPUT.false c.collect_group-else-w-eq-OUTPUT.ensures
