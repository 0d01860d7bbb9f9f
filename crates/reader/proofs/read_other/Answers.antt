-- `reader::read_other` meets its contract.
use mathlib.Core.Path.{sym, ◌∙◌}
use native.Mathlib.Omega.{arith}
use Rattle.reader.proofs.SectionLaws.{is_name, other-mechanism, other-operators}
use Rattle.reader.proofs.read_other.Goals as goal

pub returns-then-is_operators : goal.returns-then-is_operators
returns-then-is_operators c = record { low = omega (arith); high = omega (arith); past = λ e. omega (arith, c.read_operator_section.ensures.past e); brings = λ s q k h. other-operators k s c.look-w.ensures (is_name _ _ (sym c.is_operators.ensures ∙ c.if-is_operators.true)) (sym c.is_operators.ensures ∙ c.if-is_operators.true) (c.read_operator_section.ensures.brings s q k (omega (arith, c.look-w.ensures.moves (is_name _ _ (sym c.is_operators.ensures ∙ c.if-is_operators.true))))) }

pub returns : goal.returns
returns c = record { low = omega (arith); high = omega (arith); past = λ e. c.read_mechanism.ensures.past e; brings = λ s q k h. other-mechanism k s c.look-w.ensures (sym c.is_operators.ensures ∙ c.if-is_operators.false) (c.read_mechanism.ensures.brings s q k h) }
