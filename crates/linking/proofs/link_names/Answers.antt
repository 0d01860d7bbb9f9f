use mathlib.Core.Path.{refl, ◌∙◌}
use native.Mathlib.Omega.{arith}
use Rattle.linking.proofs.Rules.{pair-past, as-behind, closed, few_rules}
use borrow.Author.Rules.{rules}
use Rattle.linking.proofs.link_names.Goals as goal

-- src/lib.rt:177:9
pub collect-p-requires : goal.collect-p-requires
collect-p-requires c = let x = c.requires.1 in (omega (arith, x.rowed.size), x.rowed.small, x.rowed.few, omega (arith, few_rules x.passes, (c.name_places-own.ensures x.common_is x.names x.are).0), search rules, search rules)

-- src/lib.rt:179:9
pub returns-then-p-ne0 : goal.returns-then-p-ne0
returns-then-p-ne0 c = λ d n x h p. pair-past _ x h (c.name_places-own.ensures d n h).0 c.collect-p.ensures c.if-p-ne0.true c.refuse.ensures _ _

-- src/lib.rt:182:9
pub close_all-n-requires : goal.close_all-n-requires
close_all-n-requires c = let x = c.requires.1 in (omega (arith, c.collect-p.ensures.few, c.collect-p.auto.sites), omega (arith, c.collect-p.ensures.few, c.collect-p.auto.lowest), omega (arith, few_rules x.passes, c.requires.2 x.common_is x.names x.are, c.name_places-own.auto.names))

-- src/lib.rt:185:5
pub find_sites-requires : goal.find_sites-requires
find_sites-requires c = let x = c.requires.1 in (omega (arith, x.rowed.size), x.rowed.small, omega (arith, c.collect-p.ensures.few, c.collect-p.auto.sites), omega (arith, c.collect-p.ensures.few), omega (arith, few_rules x.passes, c.requires.2 x.common_is x.names x.are, c.name_places-own.auto.names))

-- src/lib.rt:186:5
pub link_closed-requires : goal.link_closed-requires
link_closed-requires c = let x = c.requires.1 in (c.requires.0, record { common_is = x.common_is; names = x.names; are = x.are; closed = closed _ x.rowed x.are (c.name_places-own.ensures x.common_is x.names x.are).0 c.collect-p.ensures c.if-p-ne0.false x.passes c.name_places-own.ensures (c.name_places-own.auto.names ∙ c.requires.2 x.common_is x.names x.are) c.close_all-n.ensures.closed refl c.close_all-n.ensures.bound.1 (omega (arith, c.close_all-n.ensures.bound.0)) c.find_sites.ensures })

-- src/lib.rt:162:1
pub shape_of-names : goal.shape_of-names
shape_of-names c = c.name_places-own.auto.names

-- src/lib.rt:162:1
pub returns : goal.returns
returns c = λ d n x h p. as-behind _ x h (c.name_places-own.ensures d n h).0 c.collect-p.ensures c.if-p-ne0.false _ _ (c.link_closed.ensures d n h (closed _ x h (c.name_places-own.ensures d n h).0 c.collect-p.ensures c.if-p-ne0.false p c.name_places-own.ensures (c.name_places-own.auto.names ∙ c.requires.2 d n h) c.close_all-n.ensures.closed refl c.close_all-n.ensures.bound.1 (omega (arith, c.close_all-n.ensures.bound.0)) c.find_sites.ensures))
