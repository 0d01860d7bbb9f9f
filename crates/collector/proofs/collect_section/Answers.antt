-- `collector::collect_section` meets its contract.
use native.Mathlib.Omega.{arith}
use Rattle.collector.proofs.Sections.{section-errors, section-mechanism, section-operators, section-outputs, section-tokens, section-type}
use Rattle.collector.proofs.collect_section.Goals as goal

pub returns-in-260 : goal.returns-in-260
returns-in-260 c = section-tokens c.look-w.ensures c.in-260.is c.collect_tokens.ensures

pub returns-in-261 : goal.returns-in-261
returns-in-261 c = section-outputs c.look-w.ensures c.in-261.is c.collect_group.ensures

pub returns-in-262 : goal.returns-in-262
returns-in-262 c = section-errors c.look-w.ensures c.in-262.is c.collect_group-in-262.ensures

pub returns-in-263 : goal.returns-in-263
returns-in-263 c = section-type c.look-w.ensures c.in-263.is c.collect_type.ensures

pub returns-in-257 : goal.returns-in-257
returns-in-257 c = section-operators c.look-w.ensures c.in-257.is c.collect_operators.ensures

pub returns-in_default : goal.returns-in_default
returns-in_default c = section-mechanism c.look-w.ensures (λ e. omega (arith, e)) (λ e. omega (arith, e)) (λ e. omega (arith, e)) (λ e. omega (arith, e)) (λ e. omega (arith, e)) c.collect_mechanism.ensures
