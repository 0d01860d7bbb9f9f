-- `linkchecks::is_named` meets its contract: the rules passed have other names.
use native.Mathlib.Omega.{arith}
use mathlib.Core.Path.{refl}
use Rattle.linkchecks.specs.Row.{row_from}
use Rattle.linkchecks.proofs.Walking.{heads}
use Rattle.linkchecks.proofs.Finding.{stands-named, named_here, named-later, named_none}
use Rattle.linkchecks.proofs.is_named.Goals as goal

pub loop-cursor-init : goal.loop-cursor-init
loop-cursor-init c = (omega arith, omega arith, λ vs m v x. record { row = row_from 1 vs; stands = c.first_rule-cursor.ensures.2 vs v; is = refl })

pub returns-then-has_name : goal.returns-then-has_name
returns-then-has_name c = λ vs m v x. let h = heads (c.loop-cursor.invariant.2 vs m v x) (omega arith) in named_here _ _ h _ (c.has_name.ensures h.first.rule.name m (stands-named h.stands) x) c.if-has_name.true

pub loop-cursor-smaller : goal.loop-cursor-smaller
loop-cursor-smaller c = omega arith

pub loop-cursor-preserved : goal.loop-cursor-preserved
loop-cursor-preserved c = (omega arith, omega arith, λ vs m v x. let h = heads (c.loop-cursor.invariant.2 vs m v x) (omega arith) in named-later _ _ h _ (c.has_name.ensures h.first.rule.name m (stands-named h.stands) x) c.if-has_name.false _ (c.next_rule-cursor.ensures.3 vs h.first h.later h.stands))

pub returns : goal.returns
returns c = λ vs m v x. named_none _ _ (c.loop-cursor.invariant.2 vs m v x) (omega arith)
