use Rattle.meter.proofs.Twos.{two-forward, two_back, two-input, two-token, two-call, two_choice, two-plain}
use Rattle.meter.proofs.Laws.{rule-small, token-fits, result_fits, as_call}
use Rattle.meter.proofs.visit_two.Goals as goal

pub returns-in-1 : goal.returns-in-1
returns-in-1 c = two-forward c.requires.0 c.requires.1 _ _ c.requires.2 c.in-1.is c.raise.ensures

pub returns-in-2 : goal.returns-in-2
returns-in-2 c = two_back c.requires.0 c.requires.1 _ _ c.requires.2 c.in-2.is c.saturating_sub.ensures c.raise-in-2.ensures

pub returns-in-3 : goal.returns-in-3
returns-in-3 c = two-input c.requires.0 c.requires.1 _ _ c.requires.2 c.in-3.is c.mark_of.ensures c.raise_two.ensures

pub visit_token-requires : goal.visit_token-requires
visit_token-requires c = (token-fits c.requires.0 c.requires.1 _ _ c.requires.2 c.in-7.is, c.requires.4, rule-small c.requires.0 c.requires.1, c.requires.1.small)

pub returns-in-7 : goal.returns-in-7
returns-in-7 c = two-token c.requires.0 c.requires.1 _ _ c.requires.2 c.in-7.is c.visit_token.ensures

pub raise_call-requires : goal.raise_call-requires
raise_call-requires c = (c.requires.0, c.requires.1, as_call _ _ _ _ c.requires.2 c.in-8.is, c.requires.4)

pub returns-in-8 : goal.returns-in-8
returns-in-8 c = two-call c.requires.0 c.requires.1 _ _ c.requires.2 c.in-8.is c.raise_call.ensures

pub raise_ways-requires : goal.raise_ways-requires
raise_ways-requires c = (result_fits c.requires.0 c.requires.1 _ _ c.requires.2 c.in-11.is, c.requires.4)

pub returns-in-11 : goal.returns-in-11
returns-in-11 c = two_choice c.requires.0 c.requires.1 _ _ c.requires.2 c.in-11.is c.raise_ways.ensures

pub returns-in_default : goal.returns-in_default
returns-in_default c =
    let r = c.in_default.in_default-own.rest in
    let low = r.0.0.0 in
    two-plain c.requires.0 c.requires.1 _ _ c.requires.2 low.0.0.1 low.0.1 low.1 r.0.0.1 r.0.1 r.1 c.raise-in_default.ensures
