-- `linkchecks::find_twice` meets its contract: no part before has the name of a rule passed.
use native.Mathlib.Omega.{arith}
use mathlib.Core.Path.{refl}
use Rattle.linkchecks.specs.Row.{row_from}
use Rattle.linkchecks.proofs.Walking.{heads}
use Rattle.linkchecks.proofs.Finding.{shows-some, stands-name, stands-named, stands-text, shown-some, shown-passed, shown-none, twice-some, twice-none}
use Rattle.linkchecks.proofs.Rows.{viewed, finds-by, twice-row}
use Rattle.linkchecks.proofs.find_twice.Goals as goal

pub loop-cursor-init : goal.loop-cursor-init
loop-cursor-init c = (omega arith, omega arith, λ vs v. record { row = row_from 1 vs; stands = c.first_rule-cursor.ensures.2 vs v; is = refl })

pub returns-then-is_named : goal.returns-then-is_named
returns-then-is_named c = λ d n h. let v = viewed h in let y = heads (c.loop-cursor.invariant.2 _ v) (omega arith) in let k = stands-name y.stands in finds-by _ _ _ (twice-row h.lengths h.objects h.as_many) (shown-some _ y _ _ (twice-some _ y.first _ (stands-text y.stands) _ (c.is_named.ensures _ y.first.rule.name v (stands-named y.stands)) c.if-is_named.true) (shows-some _ _ (c.found_at.ensures _ k.0 k.1)))

pub loop-cursor-smaller : goal.loop-cursor-smaller
loop-cursor-smaller c = omega arith

pub loop-cursor-preserved : goal.loop-cursor-preserved
loop-cursor-preserved c = (omega arith, omega arith, λ vs v. let y = heads (c.loop-cursor.invariant.2 vs v) (omega arith) in shown-passed _ y (twice-none _ y.first _ (stands-text y.stands) _ (c.is_named.ensures vs y.first.rule.name v (stands-named y.stands)) c.if-is_named.false) _ (c.next_rule-cursor.ensures.3 vs y.first y.later y.stands))

pub returns : goal.returns
returns c = λ d n h. finds-by _ _ _ (twice-row h.lengths h.objects h.as_many) (shown-none _ (c.loop-cursor.invariant.2 _ (viewed h)) (omega arith))
