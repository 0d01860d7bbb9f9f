-- `linkchecks::find_unlike` meets its contract: nothing is shown of the rules passed.
use native.Mathlib.Omega.{arith}
use mathlib.Core.Path.{refl, sym, ◌∙◌}
use Prim.Native.Nat.{◌+◌}
use lib.ListN.{length}
use Rattle.machine.specs.Bytes.{words_of}
use Rattle.linkchecks.specs.Row.{row_from}
use Rattle.linkchecks.proofs.Walking.{heads}
use Rattle.linkchecks.proofs.Finding.{shown-here, shown-later, shown-none}
use Rattle.linkchecks.proofs.Rows.{viewed, finds-by, few-objects, unlike-row}
use Rattle.linkchecks.proofs.find_unlike.Goals as goal

pub loop-cursor-init : goal.loop-cursor-init
loop-cursor-init c = (omega arith, omega arith, λ hs vs u v. record { row = row_from 1 vs; stands = c.first_rule-cursor.ensures.2 vs v; is = refl })

pub returns-then-is_some : goal.returns-then-is_some
returns-then-is_some c = λ d n h u. let v = viewed h in let y = heads (c.loop-cursor.invariant.2 d.listed _ u v) (omega arith) in finds-by _ _ _ (unlike-row d.listed (length (words_of c.args.objects.now) + 1) h.lengths h.objects h.as_many (few-objects h)) (shown-here _ y _ (c.unlike_rule-found.ensures d.listed _ y.first y.later u v y.stands) (sym c.is_some.ensures ∙ c.if-is_some.true))

pub loop-cursor-smaller : goal.loop-cursor-smaller
loop-cursor-smaller c = omega arith

pub loop-cursor-preserved : goal.loop-cursor-preserved
loop-cursor-preserved c = (omega arith, omega arith, λ hs vs u v. let y = heads (c.loop-cursor.invariant.2 hs vs u v) (omega arith) in shown-later _ y _ (c.unlike_rule-found.ensures hs vs y.first y.later u v y.stands) (sym c.is_some.ensures ∙ c.if-is_some.false) _ (c.next_rule-cursor.ensures.3 vs y.first y.later y.stands))

pub returns : goal.returns
returns c = λ d n h u. let v = viewed h in finds-by _ _ _ (unlike-row d.listed (length (words_of c.args.objects.now) + 1) h.lengths h.objects h.as_many (few-objects h)) (shown-none _ (c.loop-cursor.invariant.2 d.listed _ u v) (omega arith))
