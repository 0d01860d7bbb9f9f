use lib.Seq.{length-take-le}
use mathlib.Core.Path.{sym, ◌∙◌}
use native.Mathlib.Omega.{arith}
use Rattle.linking.proofs.Rules.{few_rules}
use Rattle.linking.proofs.link_rules.Goals as goal

-- src/lib.rt:196:39
pub slice_bounds-names-end : goal.slice_bounds-names-end
slice_bounds-names-end c = let x = c.requires.1 in omega (arith, few_rules x.passes, c.count_rules-own.ensures x.common_is x.names x.are)

-- src/lib.rt:196:39
pub slice_bounds-link_names-end : goal.slice_bounds-link_names-end
slice_bounds-link_names-end c = let x = c.requires.1 in sym (length-take-le _ _ (omega (arith, few_rules x.passes, c.count_rules-own.ensures x.common_is x.names x.are)))

-- src/lib.rt:196:5
pub link_names-requires : goal.link_names-requires
link_names-requires c = let x = c.requires.1 in (c.requires.0, x, λ d n h. length-take-le _ _ (omega (arith, few_rules x.passes, c.count_rules-own.ensures x.common_is x.names x.are)) ∙ c.count_rules-own.ensures d n h)
