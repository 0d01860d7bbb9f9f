-- `objects::call_ok` meets its contract.
use mathlib.Core.Bool.{not}
use native.Mathlib.Omega.{arith}
use mathlib.Core.Path.{sym, ap, ◌∙◌}
use Rattle.objects.proofs.Told.{first_cell, leads, call-named, call-paired}
use Rattle.objects.proofs.call_ok.Goals as goal

pub returns-then-m-eq0 : goal.returns-then-m-eq0
returns-then-m-eq0 c = record { tells = λ hs ps kn m n cells names x. ap not (c.is_listed.ensures hs n kn.listed (leads x).here) ∙ sym (call-named hs ps m n (sym (first_cell x) ∙ sym c.number-m.ensures.0 ∙ c.if-m-eq0.true)) }

pub returns : goal.returns
returns c = record { tells = λ hs ps kn m n cells names x. c.stands_at.ensures ps n kn.rest kn.pairs_here (leads x).here ∙ sym (call-paired hs ps m _ n (let e = sym (first_cell x) ∙ sym c.number-m.ensures.0 in omega (arith, e))) }
