-- `linking::link_common` meets its contract.
use lib.Seq.{length-take-le}
use mathlib.Core.Path.{refl, sym, ◌∙◌}
use native.Mathlib.Omega.{arith}
use Rattle.linking.proofs.Common.{short-size, few-lines, wrong-names, named}
use Rattle.symbols.proofs.Numbered.{fault-some}
use Rattle.linking.proofs.link_common.Goals as goal

pub declare-d-requires : goal.declare-d-requires
declare-d-requires c = omega (arith, short-size _ c.requires.short)

pub returns-in-Err : goal.returns-in-Err
returns-in-Err c = wrong-names c.requires c.declare-d.ensures refl _ refl c.in-Err.ensures (rw c.in_common.ensures at c.refuse.ensures) (fault-some _)

pub slice_bounds-heads-end : goal.slice_bounds-heads-end
slice_bounds-heads-end c = omega (arith, few-lines c.requires c.declare-d.ensures refl)

pub slice_bounds-link_named-end : goal.slice_bounds-link_named-end
slice_bounds-link_named-end c = sym (length-take-le _ _ (omega (arith, few-lines c.requires c.declare-d.ensures refl)))

pub link_named-requires : goal.link_named-requires
link_named-requires c = (c.settle.ensures.size ∙ c.declare-d.ensures.size, named c.requires c.declare-d.ensures refl _ refl c.settle.ensures (rw c.in_default.is refl) (length-take-le _ _ (omega (arith, few-lines c.requires c.declare-d.ensures refl))) _ refl refl refl)
