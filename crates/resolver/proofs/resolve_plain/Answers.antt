-- `resolver::resolve_plain` meets its contract.
use mathlib.Core.Path.{refl}
use native.Mathlib.Omega.{arith}
use Rattle.resolver.proofs.Plains.{lies-here, first-name, first-string, first_any, first-emit, first-error, first-exit, first-call, first-give, first-ranked, first-none}
use Rattle.resolver.proofs.resolve_plain.Goals as goal

-- `resolver::resolve_plain` meets its contract.
pub resolve_named-requires : goal.resolve_named-requires
resolve_named-requires c = (lies-here c.requires.1 c.requires.0, c.requires.2)

pub resolve_named-requires-in-259 : goal.resolve_named-requires-in-259
resolve_named-requires-in-259 c = (lies-here c.requires.1 c.requires.0, c.requires.2)

pub resolve_emit-requires : goal.resolve_emit-requires
resolve_emit-requires c = (c.requires.1.high c.requires.0, c.requires.2)

pub resolve_error-requires : goal.resolve_error-requires
resolve_error-requires c = (c.requires.1.high c.requires.0, c.requires.2)

pub resolve_call-requires : goal.resolve_call-requires
resolve_call-requires c = (c.requires.1.high c.requires.0, c.requires.2)

pub resolve_give-requires : goal.resolve_give-requires
resolve_give-requires c = (lies-here c.requires.1 c.requires.0, c.requires.2)

pub resolve_ranked-requires : goal.resolve_ranked-requires
resolve_ranked-requires c = (lies-here c.requires.1 c.requires.0, c.requires.2)

pub returns-in-257 : goal.returns-in-257
returns-in-257 c = first-name _ _ _ c.requires.1 c.in-257.is c.resolve_named.ensures

pub returns-in-259 : goal.returns-in-259
returns-in-259 c = first-string _ _ _ c.requires.1 c.in-259.is c.resolve_named-in-259.ensures

pub returns-in-63 : goal.returns-in-63
returns-in-63 c = first_any _ _ _ c.requires.1 c.in-63.is (c.resolve_any.ensures _ _ _ (lies-here c.requires.1 c.requires.0))

pub returns-in-46 : goal.returns-in-46
returns-in-46 c = first-emit _ _ _ c.requires.1 c.in-46.is c.resolve_emit.ensures

pub returns-in-35 : goal.returns-in-35
returns-in-35 c = first-error _ _ _ c.requires.1 c.in-35.is c.resolve_error.ensures

pub returns-in-62 : goal.returns-in-62
returns-in-62 c = first-exit _ _ _ c.requires.1 c.in-62.is (c.resolve_exit.ensures _ _ _ (lies-here c.requires.1 c.requires.0))

pub returns-in-64 : goal.returns-in-64
returns-in-64 c = first-call _ _ _ c.requires.1 c.in-64.is c.resolve_call.ensures

pub returns-in-256 : goal.returns-in-256
returns-in-256 c = first-give _ _ _ c.requires.1 c.in-256.is c.resolve_give.ensures

pub returns-in-94 : goal.returns-in-94
returns-in-94 c = first-ranked _ _ _ c.requires.1 c.in-94.is c.resolve_ranked.ensures

pub returns-in_default : goal.returns-in_default
returns-in_default c = first-none _ _ _ c.requires.1 2 (λ e. omega arith) refl c.refused.ensures.fault c.in_default.in_default-own.rest.0.0.0.0.0.0.0.0.1 c.in_default.in_default-own.rest.0.0.0.0.0.0.0.1 c.in_default.in_default-own.rest.0.0.0.0.0.0.1 c.in_default.in_default-own.rest.0.0.0.0.0.1 c.in_default.in_default-own.rest.0.0.0.0.1 c.in_default.in_default-own.rest.0.0.0.1 c.in_default.in_default-own.rest.0.0.1 c.in_default.in_default-own.rest.0.1 c.in_default.in_default-own.rest.1
