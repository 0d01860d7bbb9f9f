-- `reader::read_operation` meets its contract.
use Rattle.std.proofs.lemmas.Result.{err_from_is_err_and}
use Rattle.reader.proofs.Laws.{not_none}
use mathlib.Core.Path.{refl}
use mathlib.Core.Path.{sym, ◌∙◌}
use Prim.Native.Nat.{◌+◌}
use native.Mathlib.Omega.{arith}
use lib.ListN.{length}
use Rattle.reader.proofs.Laws.{faulty, goes-from, goes_with, stops}
use Rattle.reader.proofs.SectionLaws.{numbered-got, numbered-stops, operation-over, operation-rest, room-read}
use Rattle.syntax.specs.Sections.{an_operation}
use Rattle.reader.proofs.read_operation.Goals as goal

pub returns-in_err-o : goal.returns-in_err-o
unfolding an_operation
returns-in_err-o c = let p = err_from_is_err_and c.from_residual.result c.from_residual.ensures.1 in rw (p.1, p.2) (record { low = omega (arith, c.in_err-o.ensures.yields.low, c.in_err-o.ensures.yields.high); high = omega (arith, c.in_err-o.ensures.yields.low, c.in_err-o.ensures.yields.high); past = λ e. absurd ((not_none _) e); some = λ e. absurd ((not_none _) e); brings = λ is z. faulty (stops _ (c.in_err-o.ensures.yields.brings (length c.args.text.now + 1) (omega (arith, c.in_err-o.ensures.yields.low, c.in_err-o.ensures.yields.high))).tells (not_none _)) (not_none _) })

pub returns-then-is_full : goal.returns-then-is_full
unfolding an_operation
returns-then-is_full c = record { low = omega (arith, c.in_ok-o.ensures.yields.low, c.in_ok-o.ensures.yields.high, c.in_ok-o.ensures.yields.past refl, c.in_ok-o.ensures.some refl); high = omega (arith, c.in_ok-o.ensures.yields.low, c.in_ok-o.ensures.yields.high, c.in_ok-o.ensures.yields.past refl, c.in_ok-o.ensures.some refl); past = λ e. absurd (omega (arith, c.in_ok-o.ensures.yields.low, c.in_ok-o.ensures.yields.high, c.in_ok-o.ensures.yields.past refl, c.in_ok-o.ensures.some refl)); some = λ e. absurd (omega (arith, c.in_ok-o.ensures.yields.low, c.in_ok-o.ensures.yields.high, c.in_ok-o.ensures.yields.past refl, c.in_ok-o.ensures.some refl)); brings = λ is z. faulty (goes-from _ (c.in_ok-o.ensures.yields.brings (length c.args.text.now + 1) (omega (arith, c.in_ok-o.ensures.yields.low, c.in_ok-o.ensures.yields.high, c.in_ok-o.ensures.yields.past refl, c.in_ok-o.ensures.some refl))) refl (λ a e. operation-over a is _ _ _ z c.look_ahead-kind.ensures (sym c.is_full.ensures ∙ c.if-is_full.true) (e ∙ c.look-w.ensures.head) c.look-w.ensures.inside c.over.ensures)) (λ e. omega (arith, c.in_ok-o.ensures.yields.low, c.in_ok-o.ensures.yields.high, c.in_ok-o.ensures.yields.past refl, c.in_ok-o.ensures.some refl)) }

pub returns-in_err-t : goal.returns-in_err-t
unfolding an_operation
returns-in_err-t c = let p = err_from_is_err_and c.from_residual-in_err-t.result c.from_residual-in_err-t.ensures.1 in rw (p.1, p.2) (record { low = omega (arith, c.in_ok-o.ensures.yields.low, c.in_ok-o.ensures.yields.high, c.in_ok-o.ensures.yields.past refl, c.in_ok-o.ensures.some refl, c.in_err-t.ensures.low, c.in_err-t.ensures.high); high = omega (arith, c.in_ok-o.ensures.yields.low, c.in_ok-o.ensures.yields.high, c.in_ok-o.ensures.yields.past refl, c.in_ok-o.ensures.some refl, c.in_err-t.ensures.low, c.in_err-t.ensures.high); past = λ e. absurd ((not_none _) e); some = λ e. absurd ((not_none _) e); brings = λ is z. goes_with _ (c.in_ok-o.ensures.yields.brings (length c.args.text.now + 1) (omega (arith, c.in_ok-o.ensures.yields.low, c.in_ok-o.ensures.yields.high, c.in_ok-o.ensures.yields.past refl, c.in_ok-o.ensures.some refl, c.in_err-t.ensures.low, c.in_err-t.ensures.high))) refl (λ a e. operation-rest a is _ _ _ z c.look_ahead-kind.ensures (sym c.is_full.ensures ∙ c.if-is_full.false) (numbered-stops a is _ (c.in_err-t.ensures.tells (length c.args.text.now + 1) (omega (arith, c.in_ok-o.ensures.yields.low, c.in_ok-o.ensures.yields.high, c.in_ok-o.ensures.yields.past refl, c.in_ok-o.ensures.some refl, c.in_err-t.ensures.low, c.in_err-t.ensures.high))) (not_none _))) })

pub returns : goal.returns
unfolding an_operation
returns c = record { low = omega (arith, c.in_ok-o.ensures.yields.low, c.in_ok-o.ensures.yields.high, c.in_ok-o.ensures.yields.past refl, c.in_ok-o.ensures.some refl, c.in_ok-t.ensures.low, c.in_ok-t.ensures.high, c.in_ok-r.ensures.low, c.in_ok-r.ensures.high, c.in_ok-o.ensures.yields.low, c.in_ok-t.ensures.low, c.in_ok-r.ensures.low); high = c.in_ok-r.ensures.high; past = λ e. omega (arith, c.in_ok-o.ensures.yields.low, c.in_ok-o.ensures.yields.high, c.in_ok-o.ensures.yields.past refl, c.in_ok-o.ensures.some refl, c.in_ok-t.ensures.low, c.in_ok-t.ensures.high, c.in_ok-r.ensures.low, c.in_ok-r.ensures.high, c.in_ok-o.ensures.yields.past refl, c.in_ok-t.ensures.low, c.in_ok-r.ensures.low); some = λ e. c.in_ok-o.ensures.some refl; brings = λ is z. goes_with _ (c.in_ok-o.ensures.yields.brings (length c.args.text.now + 1) (omega (arith, c.in_ok-o.ensures.yields.low, c.in_ok-o.ensures.yields.high, c.in_ok-o.ensures.yields.past refl, c.in_ok-o.ensures.some refl, c.in_ok-t.ensures.low, c.in_ok-t.ensures.high, c.in_ok-r.ensures.low, c.in_ok-r.ensures.high))) refl (λ a e. operation-rest a is _ _ _ z c.look_ahead-kind.ensures (sym c.is_full.ensures ∙ c.if-is_full.false) (numbered-got a is _ _ _ _ z c.look_ahead-kind.ensures (sym c.is_full.ensures ∙ c.if-is_full.false) c.one_more-s.ensures (c.in_ok-t.ensures.tells (length c.args.text.now + 1) (omega (arith, c.in_ok-o.ensures.yields.low, c.in_ok-o.ensures.yields.high, c.in_ok-o.ensures.yields.past refl, c.in_ok-o.ensures.some refl, c.in_ok-t.ensures.low, c.in_ok-t.ensures.high, c.in_ok-r.ensures.low, c.in_ok-r.ensures.high))) refl (c.in_ok-r.ensures.tells (length c.args.text.now + 1) (omega (arith, c.in_ok-o.ensures.yields.low, c.in_ok-o.ensures.yields.high, c.in_ok-o.ensures.yields.past refl, c.in_ok-o.ensures.some refl, c.in_ok-t.ensures.low, c.in_ok-t.ensures.high, c.in_ok-r.ensures.low, c.in_ok-r.ensures.high))))) }

pub returns-in_err-r : goal.returns-in_err-r
unfolding an_operation
returns-in_err-r c = let p = err_from_is_err_and c.from_residual-in_err-r.result c.from_residual-in_err-r.ensures.1 in rw (p.1, p.2) (record { low = omega (arith, c.in_ok-o.ensures.yields.low, c.in_ok-o.ensures.yields.high, c.in_ok-o.ensures.yields.past refl, c.in_ok-o.ensures.some refl, c.in_ok-t.ensures.low, c.in_ok-t.ensures.high, c.in_err-r.ensures.low, c.in_err-r.ensures.high, c.in_ok-o.ensures.yields.low, c.in_ok-t.ensures.low, c.in_err-r.ensures.low); high = c.in_err-r.ensures.high; past = λ e. absurd (not_none _ e); some = λ e. absurd (not_none _ e); brings = λ is z. faulty (goes_with _ (c.in_ok-o.ensures.yields.brings (length c.args.text.now + 1) (omega (arith, c.in_ok-o.ensures.yields.low, c.in_ok-o.ensures.yields.high, c.in_ok-o.ensures.yields.past refl, c.in_ok-o.ensures.some refl, c.in_ok-t.ensures.low, c.in_ok-t.ensures.high, c.in_err-r.ensures.low, c.in_err-r.ensures.high))) refl (λ a e. operation-rest a is _ _ _ z c.look_ahead-kind.ensures (sym c.is_full.ensures ∙ c.if-is_full.false) (numbered-got a is _ _ _ _ z c.look_ahead-kind.ensures (sym c.is_full.ensures ∙ c.if-is_full.false) c.one_more-s.ensures (c.in_ok-t.ensures.tells (length c.args.text.now + 1) (omega (arith, c.in_ok-o.ensures.yields.low, c.in_ok-o.ensures.yields.high, c.in_ok-o.ensures.yields.past refl, c.in_ok-o.ensures.some refl, c.in_ok-t.ensures.low, c.in_ok-t.ensures.high, c.in_err-r.ensures.low, c.in_err-r.ensures.high))) refl (c.in_err-r.ensures.tells (length c.args.text.now + 1) (omega (arith, c.in_ok-o.ensures.yields.low, c.in_ok-o.ensures.yields.high, c.in_ok-o.ensures.yields.past refl, c.in_ok-o.ensures.some refl, c.in_ok-t.ensures.low, c.in_ok-t.ensures.high, c.in_err-r.ensures.low, c.in_err-r.ensures.high)))))).tells (not_none _) })

pub one_more-s-requires : goal.one_more-s-requires
one_more-s-requires c = room-read _ _ _ c.look_ahead-kind.ensures (sym c.is_full.ensures ∙ c.if-is_full.false) (c.in_ok-t.ensures.tells (length c.args.text.now + 1) (omega (arith, c.in_ok-o.ensures.yields.high))) refl
