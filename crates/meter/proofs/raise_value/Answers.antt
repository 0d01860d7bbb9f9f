use mathlib.Core.Path.{refl, sym, ◌∙◌}
use Rattle.meter.proofs.Laws.{choice-fits, rule-inside}
use Rattle.meter.proofs.Calls.{value-cut, value-other, value-unreached, value-raised}
use native.Mathlib.Omega.{arith}
use Rattle.meter.proofs.raise_value.Goals.{then-word_at-ne-SET_RESULT-via-then-word_at-ne-SET_RESULT, then-word_at-ne-SET_RESULT-via-else-word_at-ne-SET_RESULT+then-size_of-p}
use Rattle.meter.proofs.raise_value.Goals as goal

pub word_at-requires : goal.word_at-requires
word_at-requires c = rule-inside c.requires.0 c.requires.1.here.found c.requires.1.in_rule

pub returns-then-word_at-ne-SET_RESULT : goal.returns-then-word_at-ne-SET_RESULT
returns-then-word_at-ne-SET_RESULT c =
    elim c.then-word_at-ne-SET_RESULT.branch [
      | then-word_at-ne-SET_RESULT-via-then-word_at-ne-SET_RESULT w ↦ value-other c.requires.0 c.word_at.ensures.0 w.if-word_at-ne-SET_RESULT.true
      | then-word_at-ne-SET_RESULT-via-else-word_at-ne-SET_RESULT+then-size_of-p w ↦ value-cut c.requires.0 (omega (arith, w.size_of.ensures, w.if-size_of-p.true))
    ]

pub returns-then-m-eq0 : goal.returns-then-m-eq0
returns-then-m-eq0 c = value-unreached c.requires.0 (sym c.called_number-m.ensures ∙ c.if-m-eq0.true)

pub overflow_add-p : goal.overflow_add-p
overflow_add-p c = omega (arith, c.size_of.ensures, c.if-size_of-p.false)

pub word_at-requires-2 : goal.word_at-requires-2
word_at-requires-2 c = (omega arith, omega (arith, c.size_of.ensures, c.if-size_of-p.false))

pub way_out-way-requires : goal.way_out-way-requires
way_out-way-requires c = choice-fits c.requires.0 c.requires.1

pub overflow_add-here : goal.overflow_add-here
overflow_add-here c = omega (arith, c.called_number-m.ensures, c.requires.0.called_small c.args.p, c.requires.1.here.here.small)

pub overflow_add-here-2 : goal.overflow_add-here-2
overflow_add-here-2 c = omega (arith, c.called_number-m.ensures, c.requires.0.called_small c.args.p, c.requires.1.here.here.small)

pub raise-requires : goal.raise-requires
raise-requires c = c.requires.2

pub returns : goal.returns
returns c = value-raised c.requires.0 c.requires.1 c.word_at.ensures.0 c.if-word_at-ne-SET_RESULT.false c.word_at-2.ensures.0 c.called_number-m.ensures c.if-m-eq0.false c.way_out-way.ensures refl c.raise.ensures
