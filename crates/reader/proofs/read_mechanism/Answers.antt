-- `reader::read_mechanism` meets its contract.
use Rattle.std.proofs.lemmas.Result.{err_from_is_err_and}
use Rattle.reader.proofs.Laws.{not_none}
use mathlib.Core.Path.{refl}
use Prim.Native.Nat.{suc}
use native.Mathlib.Omega.{arith}
use Rattle.reader.proofs.Laws.{any_value, ends_with, faulty, goes, goes_with, stops}
use Rattle.reader.proofs.SectionLaws.{kept-operations, operations-as}
use Rattle.syntax.specs.Sections.{mechanism_section}
use Rattle.reader.proofs.read_mechanism.Goals as goal

pub returns-in_err-m : goal.returns-in_err-m
unfolding mechanism_section
returns-in_err-m c = let p = err_from_is_err_and c.from_residual.result c.from_residual.ensures.1 in rw (p.1, p.2) (record { low = omega (arith, c.in_err-m.ensures.low, c.in_err-m.ensures.high); high = omega (arith, c.in_err-m.ensures.low, c.in_err-m.ensures.high); past = λ e. absurd ((not_none _) e); brings = λ s q k h. faulty (stops _ (c.in_err-m.ensures.tells (suc k) (omega (arith, c.in_err-m.ensures.low, c.in_err-m.ensures.high))) (not_none _)) (not_none _) })

pub returns-in_err-n : goal.returns-in_err-n
unfolding mechanism_section
returns-in_err-n c = let p = err_from_is_err_and c.from_residual-in_err-n.result c.from_residual-in_err-n.ensures.1 in rw (p.1, p.2) (record { low = omega (arith, c.in_ok-m.ensures.low, c.in_ok-m.ensures.high, c.in_err-n.ensures.reads.low, c.in_err-n.ensures.reads.high); high = omega (arith, c.in_ok-m.ensures.low, c.in_ok-m.ensures.high, c.in_err-n.ensures.reads.low, c.in_err-n.ensures.reads.high); past = λ e. absurd ((not_none _) e); brings = λ s q k h. faulty (goes _ (c.in_ok-m.ensures.tells (suc k) (omega (arith, c.in_ok-m.ensures.low, c.in_ok-m.ensures.high, c.in_err-n.ensures.reads.low, c.in_err-n.ensures.reads.high))) refl (λ a. stops _ (c.in_err-n.ensures.reads.tells (suc k) (omega (arith, c.in_ok-m.ensures.low, c.in_ok-m.ensures.high, c.in_err-n.ensures.reads.low, c.in_err-n.ensures.reads.high))) (not_none _))) (not_none _) })

pub returns-in_err-c : goal.returns-in_err-c
unfolding mechanism_section
returns-in_err-c c = let p = err_from_is_err_and c.from_residual-in_err-c.result c.from_residual-in_err-c.ensures.1 in rw (p.1, p.2) (record { low = omega (arith, c.in_ok-m.ensures.low, c.in_ok-m.ensures.high, c.in_ok-n.ensures.reads.low, c.in_ok-n.ensures.reads.high, c.in_ok-n.ensures.past refl, c.in_err-c.ensures.low, c.in_err-c.ensures.high); high = omega (arith, c.in_ok-m.ensures.low, c.in_ok-m.ensures.high, c.in_ok-n.ensures.reads.low, c.in_ok-n.ensures.reads.high, c.in_ok-n.ensures.past refl, c.in_err-c.ensures.low, c.in_err-c.ensures.high); past = λ e. absurd ((not_none _) e); brings = λ s q k h. faulty (goes _ (c.in_ok-m.ensures.tells (suc k) (omega (arith, c.in_ok-m.ensures.low, c.in_ok-m.ensures.high, c.in_ok-n.ensures.reads.low, c.in_ok-n.ensures.reads.high, c.in_ok-n.ensures.past refl, c.in_err-c.ensures.low, c.in_err-c.ensures.high))) refl (λ a. goes _ (c.in_ok-n.ensures.reads.tells (suc k) (omega (arith, c.in_ok-m.ensures.low, c.in_ok-m.ensures.high, c.in_ok-n.ensures.reads.low, c.in_ok-n.ensures.reads.high, c.in_ok-n.ensures.past refl, c.in_err-c.ensures.low, c.in_err-c.ensures.high))) refl (λ b. stops _ (c.in_err-c.ensures.tells (suc k) (omega (arith, c.in_ok-m.ensures.low, c.in_ok-m.ensures.high, c.in_ok-n.ensures.reads.low, c.in_ok-n.ensures.reads.high, c.in_ok-n.ensures.past refl, c.in_err-c.ensures.low, c.in_err-c.ensures.high))) (not_none _)))) (not_none _) })

pub returns : goal.returns
unfolding mechanism_section
returns c = record { low = omega (arith, c.in_ok-m.ensures.low, c.in_ok-m.ensures.high, c.in_ok-n.ensures.reads.low, c.in_ok-n.ensures.reads.high, c.in_ok-n.ensures.past refl, c.in_ok-c.ensures.low, c.in_ok-c.ensures.high, c.in_ok-p.ensures.low, c.in_ok-p.ensures.high, c.in_ok-p.ensures.past refl, c.in_ok-m.ensures.low, c.in_ok-n.ensures.reads.low, c.in_ok-c.ensures.low, c.in_ok-p.ensures.low); high = omega (arith, c.in_ok-m.ensures.low, c.in_ok-m.ensures.high, c.in_ok-n.ensures.reads.low, c.in_ok-n.ensures.reads.high, c.in_ok-n.ensures.past refl, c.in_ok-c.ensures.low, c.in_ok-c.ensures.high, c.in_ok-p.ensures.low, c.in_ok-p.ensures.high, c.in_ok-p.ensures.past refl, c.in_ok-m.ensures.low, c.in_ok-n.ensures.reads.low, c.in_ok-c.ensures.low, c.in_ok-p.ensures.low); past = λ e. omega (arith, c.in_ok-m.ensures.low, c.in_ok-m.ensures.high, c.in_ok-n.ensures.reads.low, c.in_ok-n.ensures.reads.high, c.in_ok-n.ensures.past refl, c.in_ok-c.ensures.low, c.in_ok-c.ensures.high, c.in_ok-p.ensures.low, c.in_ok-p.ensures.high, c.in_ok-p.ensures.past refl, c.in_ok-m.ensures.low, c.in_ok-n.ensures.reads.low, c.in_ok-c.ensures.low, c.in_ok-p.ensures.low, c.in_ok-p.ensures.past e); brings = λ s q k h. goes_with _ (any_value (c.in_ok-m.ensures.tells (suc k) (omega (arith, c.in_ok-m.ensures.low, c.in_ok-m.ensures.high, c.in_ok-n.ensures.reads.low, c.in_ok-n.ensures.reads.high, c.in_ok-n.ensures.past refl, c.in_ok-c.ensures.low, c.in_ok-c.ensures.high, c.in_ok-p.ensures.low, c.in_ok-p.ensures.high, c.in_ok-p.ensures.past refl, c.in_ok-m.ensures.low, c.in_ok-n.ensures.reads.low, c.in_ok-c.ensures.low, c.in_ok-p.ensures.low)))) refl (λ a _. goes_with _ (any_value (c.in_ok-n.ensures.reads.tells (suc k) (omega (arith, c.in_ok-m.ensures.low, c.in_ok-m.ensures.high, c.in_ok-n.ensures.reads.low, c.in_ok-n.ensures.reads.high, c.in_ok-n.ensures.past refl, c.in_ok-c.ensures.low, c.in_ok-c.ensures.high, c.in_ok-p.ensures.low, c.in_ok-p.ensures.high, c.in_ok-p.ensures.past refl, c.in_ok-m.ensures.low, c.in_ok-n.ensures.reads.low, c.in_ok-c.ensures.low, c.in_ok-p.ensures.low)))) refl (λ b _. goes_with _ (any_value (c.in_ok-c.ensures.tells (suc k) (omega (arith, c.in_ok-m.ensures.low, c.in_ok-m.ensures.high, c.in_ok-n.ensures.reads.low, c.in_ok-n.ensures.reads.high, c.in_ok-n.ensures.past refl, c.in_ok-c.ensures.low, c.in_ok-c.ensures.high, c.in_ok-p.ensures.low, c.in_ok-p.ensures.high, c.in_ok-p.ensures.past refl, c.in_ok-m.ensures.low, c.in_ok-n.ensures.reads.low, c.in_ok-c.ensures.low, c.in_ok-p.ensures.low)))) refl (λ d _. ends_with _ (operations-as k _ _ _ _ q.left (c.in_ok-p.ensures.brings s.seen q.kinds k (omega (arith, c.in_ok-m.ensures.low, c.in_ok-m.ensures.high, c.in_ok-n.ensures.reads.low, c.in_ok-n.ensures.reads.high, c.in_ok-n.ensures.past refl, c.in_ok-c.ensures.low, c.in_ok-c.ensures.high, c.in_ok-p.ensures.low, c.in_ok-p.ensures.high, c.in_ok-p.ensures.past refl, c.in_ok-m.ensures.low, c.in_ok-n.ensures.reads.low, c.in_ok-c.ensures.low, c.in_ok-p.ensures.low, c.in_ok-n.ensures.past refl)))) (λ os z. kept-operations s c.args.state _ _ os q z)))) }

pub returns-in_err-p : goal.returns-in_err-p
unfolding mechanism_section
returns-in_err-p c = let p = err_from_is_err_and c.from_residual-in_err-p.result c.from_residual-in_err-p.ensures.1 in rw (p.1, p.2) (record { low = omega (arith, c.in_ok-m.ensures.low, c.in_ok-m.ensures.high, c.in_ok-n.ensures.reads.low, c.in_ok-n.ensures.reads.high, c.in_ok-n.ensures.past refl, c.in_ok-c.ensures.low, c.in_ok-c.ensures.high, c.in_err-p.ensures.low, c.in_err-p.ensures.high, c.in_ok-m.ensures.low, c.in_ok-n.ensures.reads.low, c.in_ok-c.ensures.low, c.in_err-p.ensures.low); high = omega (arith, c.in_ok-m.ensures.low, c.in_ok-m.ensures.high, c.in_ok-n.ensures.reads.low, c.in_ok-n.ensures.reads.high, c.in_ok-n.ensures.past refl, c.in_ok-c.ensures.low, c.in_ok-c.ensures.high, c.in_err-p.ensures.low, c.in_err-p.ensures.high, c.in_ok-m.ensures.low, c.in_ok-n.ensures.reads.low, c.in_ok-c.ensures.low, c.in_err-p.ensures.low); past = λ e. absurd (not_none _ e); brings = λ s q k h. goes_with _ (any_value (c.in_ok-m.ensures.tells (suc k) (omega (arith, c.in_ok-m.ensures.low, c.in_ok-m.ensures.high, c.in_ok-n.ensures.reads.low, c.in_ok-n.ensures.reads.high, c.in_ok-n.ensures.past refl, c.in_ok-c.ensures.low, c.in_ok-c.ensures.high, c.in_err-p.ensures.low, c.in_err-p.ensures.high, c.in_ok-m.ensures.low, c.in_ok-n.ensures.reads.low, c.in_ok-c.ensures.low, c.in_err-p.ensures.low)))) refl (λ a _. goes_with _ (any_value (c.in_ok-n.ensures.reads.tells (suc k) (omega (arith, c.in_ok-m.ensures.low, c.in_ok-m.ensures.high, c.in_ok-n.ensures.reads.low, c.in_ok-n.ensures.reads.high, c.in_ok-n.ensures.past refl, c.in_ok-c.ensures.low, c.in_ok-c.ensures.high, c.in_err-p.ensures.low, c.in_err-p.ensures.high, c.in_ok-m.ensures.low, c.in_ok-n.ensures.reads.low, c.in_ok-c.ensures.low, c.in_err-p.ensures.low)))) refl (λ b _. goes_with _ (any_value (c.in_ok-c.ensures.tells (suc k) (omega (arith, c.in_ok-m.ensures.low, c.in_ok-m.ensures.high, c.in_ok-n.ensures.reads.low, c.in_ok-n.ensures.reads.high, c.in_ok-n.ensures.past refl, c.in_ok-c.ensures.low, c.in_ok-c.ensures.high, c.in_err-p.ensures.low, c.in_err-p.ensures.high, c.in_ok-m.ensures.low, c.in_ok-n.ensures.reads.low, c.in_ok-c.ensures.low, c.in_err-p.ensures.low)))) refl (λ d _. ends_with _ (operations-as k _ _ _ _ q.left (c.in_err-p.ensures.brings s.seen q.kinds k (omega (arith, c.in_ok-m.ensures.low, c.in_ok-m.ensures.high, c.in_ok-n.ensures.reads.low, c.in_ok-n.ensures.reads.high, c.in_ok-n.ensures.past refl, c.in_ok-c.ensures.low, c.in_ok-c.ensures.high, c.in_err-p.ensures.low, c.in_err-p.ensures.high, c.in_ok-m.ensures.low, c.in_ok-n.ensures.reads.low, c.in_ok-c.ensures.low, c.in_err-p.ensures.low, c.in_ok-n.ensures.past refl)))) (λ os z. tt)))) })
