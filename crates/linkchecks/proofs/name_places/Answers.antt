-- `linkchecks::name_places` meets its contract: the names of the rules passed are put.
use native.Mathlib.Omega.{arith}
use mathlib.Core.Path.{refl, sym, ◌∙◌, subst}
use lib.ListN.{get_or}
use Rattle.machine.specs.Bytes.{words_of}
use Rattle.objects.specs.Places.{NameAt}
use Rattle.linkchecks.proofs.Placing.{placed-none, placed-next, placed-all, item-names}
use Rattle.linkchecks.proofs.Rows.{viewed, row-length}
use Rattle.linkchecks.proofs.name_places.Goals as goal

pub loop-cursor-init : goal.loop-cursor-init
loop-cursor-init c = (omega arith, omega arith, omega arith, refl, λ vs v. placed-none _ _ (c.first_rule-cursor.ensures.2 vs v))

pub overflow_add-i : goal.overflow_add-i
overflow_add-i c = omega arith

pub loop-cursor-smaller : goal.loop-cursor-smaller
loop-cursor-smaller c = omega arith

pub loop-cursor-preserved : goal.loop-cursor-preserved
loop-cursor-preserved c = (omega arith, omega arith, omega arith, c.put_place.ensures.0 ∙ c.loop-cursor.invariant.3, λ vs v. placed-next (c.loop-cursor.invariant.4 vs v) (omega arith) _ c.put_place.ensures.0 c.put_place.ensures.1 c.put_place.ensures.2 _ (c.next_rule-cursor.ensures.3 vs))

pub shape_of-names : goal.shape_of-names
shape_of-names c = omega (arith, c.loop-cursor.invariant.3)

pub returns : goal.returns
returns c = λ d n h. let p = c.loop-cursor.invariant.4 _ (viewed h) in (placed-all p (omega arith) ∙ row-length 1 h.lengths h.objects h.as_many, λ k l m. subst (NameAt (words_of c.args.objects.now) (get_or c.loop-cursor.names k 0)) (sym (item-names 1 h.lengths h.objects h.as_many k)) (p.filled k l m))
