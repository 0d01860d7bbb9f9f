-- `reader::read_tokens` meets its contract.
use Rattle.reader.proofs.Laws.{faulty}
use Rattle.reader.proofs.Laws.{not_none}
use Rattle.std.proofs.lemmas.Result.{err_from_is_err_and}
use mathlib.Core.Path.{refl}
use native.Mathlib.Omega.{arith}
use Rattle.reader.proofs.Laws.{no-with, passes-with, yes-with}
use Rattle.reader.proofs.SectionLaws.{both_read, inputs_read}
use Rattle.syntax.specs.Sections.{token_section}
use Rattle.reader.proofs.read_tokens.Goals as goal

pub returns-then-w-eq-OUTPUT : goal.returns-then-w-eq-OUTPUT
unfolding token_section
returns-then-w-eq-OUTPUT c = record { low = omega (arith, c.in_ok-e.ensures.low, c.in_ok-e.ensures.high, c.in_ok-e.ensures.past refl); high = omega (arith, c.in_ok-e.ensures.low, c.in_ok-e.ensures.high, c.in_ok-e.ensures.past refl); past = λ e. omega (arith, c.in_ok-e.ensures.low, c.in_ok-e.ensures.high, c.in_ok-e.ensures.past refl, c.in_ok-e.ensures.past e); brings = λ s q k h. yes-with _ _ _ c.look-w.ensures c.if-w-eq-OUTPUT.true (passes-with _ c.look-w.ensures (omega (arith, c.in_ok-e.ensures.low, c.in_ok-e.ensures.high, c.in_ok-e.ensures.past refl)) (both_read s c.args.state k _ _ _ _ _ _ q c.max-v.ensures c.max-input.ensures c.max-output.ensures (c.in_ok-e.ensures.brings k (omega (arith, c.in_ok-e.ensures.low, c.in_ok-e.ensures.high, c.in_ok-e.ensures.past refl, c.look-w.ensures.moves (omega (arith, c.in_ok-e.ensures.low, c.in_ok-e.ensures.high, c.in_ok-e.ensures.past refl))))))) }

pub returns : goal.returns
unfolding token_section
returns c = record { low = omega (arith, c.in_ok-e-2.ensures.low, c.in_ok-e-2.ensures.high); high = omega (arith, c.in_ok-e-2.ensures.low, c.in_ok-e-2.ensures.high); past = λ e. c.in_ok-e-2.ensures.past e; brings = λ s q k h. no-with _ _ _ c.look-w.ensures c.if-w-eq-OUTPUT.false (inputs_read s c.args.state k _ _ _ _ q c.max-input-2.ensures (c.in_ok-e-2.ensures.brings k h)) }

pub returns-in_err-e : goal.returns-in_err-e
unfolding token_section
returns-in_err-e c = let p = err_from_is_err_and c.from_residual.result c.from_residual.ensures.1 in rw (p.1, p.2) (record { low = omega (arith, c.in_err-e.ensures.low, c.in_err-e.ensures.high); high = omega (arith, c.in_err-e.ensures.low, c.in_err-e.ensures.high); past = λ e. absurd (not_none _ e); brings = λ s q k h. faulty (yes-with _ _ _ c.look-w.ensures c.if-w-eq-OUTPUT.true (passes-with _ c.look-w.ensures (omega (arith, c.in_err-e.ensures.low, c.in_err-e.ensures.high)) (both_read s c.args.state k _ 0 0 _ _ _ q c.max-v.ensures refl refl (faulty (c.in_err-e.ensures.brings k (omega (arith, c.in_err-e.ensures.low, c.in_err-e.ensures.high, c.look-w.ensures.moves (omega (arith, c.in_err-e.ensures.low, c.in_err-e.ensures.high))))).tells (not_none _))))).tells (not_none _) })

pub returns-in_err-e-2 : goal.returns-in_err-e-2
unfolding token_section
returns-in_err-e-2 c = let p = err_from_is_err_and c.from_residual-in_err-e-2.result c.from_residual-in_err-e-2.ensures.1 in rw (p.1, p.2) (record { low = omega (arith, c.in_err-e-2.ensures.low, c.in_err-e-2.ensures.high); high = omega (arith, c.in_err-e-2.ensures.low, c.in_err-e-2.ensures.high); past = λ e. absurd (not_none _ e); brings = λ s q k h. faulty (no-with _ _ _ c.look-w.ensures c.if-w-eq-OUTPUT.false (inputs_read s c.args.state k 0 0 _ _ q refl (faulty (c.in_err-e-2.ensures.brings k h).tells (not_none _)))).tells (not_none _) })
