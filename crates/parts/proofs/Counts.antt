-- How many calls and uses of operators a part's rules have: two words for each call, four for each use.
use mathlib.Core.Bool.{Bool, true, false}
use mathlib.Core.List.{List, [], ◌∷◌, ◌++◌}
use Prim.Native.Nat.{ℕ, suc, ◌+◌, ◌*◌, ◌≤◌}
use lib.ListN.{length, length-append}
use native.Mathlib.Omega.{arith}
use Rattle.std.specs.Prelude.{if◌then◌else◌}
use Rattle.grammar.specs.Derived.{PlainIn, named_in, any_in, emit_in, error_in, exit_in, call_in, give_in, ranked_in, SelectorIn, token_in, rule_inside, operation_inside, ActIn, plain_in, cycle_in, choice_in, ActsIn, none_in, more_in, AltsIn, other_in, last_in, next_in, RuleIn, one_rule, RulesIn, last_rule, more_rules}
use Rattle.names.specs.Uses.{Use, plain_uses, act_uses, acts_uses, alts_uses, other_uses, rules_uses, is_used, firsts, pairs_of}
use Rattle.parts.proofs.Bound.{took-less, reference-less, same-less, constant-less, value-less, selector-less, labels-less, gives_less}
use Rattle.parts.specs.Objects.{call_of, selects, calls, calls_all, calls_some, calls_other}
use Rattle.syntax.specs.Written as written
use Rattle.words.specs.Words.{Word}

-- Calls

call-few : {ws ws' : List Word} {a : written.Plain} → PlainIn ws ws' a → 2 * length (call_of a) + length ws' ≤ length ws
unfolding call_of
call-few (named_in r c) = omega (arith, reference-less r, constant-less c)
call-few (any_in t) = omega (arith, took-less t)
call-few (emit_in t r) = omega (arith, took-less t, reference-less r)
call-few (error_in t r) = omega (arith, took-less t, reference-less r)
call-few (exit_in t) = omega (arith, took-less t)
call-few (call_in t u) = omega (arith, took-less t, took-less u)
call-few (give_in t v) = omega (arith, took-less t, value-less v)
call-few (ranked_in s w t o) = omega (arith, took-less s, took-less w, took-less t, took-less o)

selects-few : {ws ws' : List Word} {s : written.Selector} → SelectorIn ws ws' s → 2 * length (selects s) + length ws' ≤ length ws
unfolding selects
selects-few (token_in n m e) = omega (arith, same-less e)
selects-few (rule_inside t u) = omega (arith, took-less t, took-less u)
selects-few (operation_inside t c) = omega (arith, took-less t, constant-less c)

mutual
  unfolding calls

  act-calls : {ws ws' : List Word} {a : written.Act} → ActIn ws ws' a → 2 * length (calls a) + length ws' ≤ length ws
  act-calls (plain_in x) = call-few x
  act-calls (cycle_in t q u) = omega (arith, took-less t, acts-calls q, took-less u)
  act-calls (choice_in {s = s} {q = q} {o = o} t x u r) =
      omega (arith, took-less t, selects-few x, took-less u, alts-calls r, length-append (selects s) (calls_some q ++ calls_other o), length-append (calls_some q) (calls_other o))

  pub acts-calls : {ws ws' : List Word} {q : written.Acts} → ActsIn ws ws' q → 2 * length (calls_all q) + length ws' ≤ length ws
  acts-calls (none_in t e) = omega (arith, same-less e)
  acts-calls (more_in {a = a} {q = q} t x r) = omega (arith, act-calls x, acts-calls r, length-append (calls a) (calls_all q))

  alts-calls : {ws ws' : List Word} {room : ℕ} {q : written.Alts} {o : written.Other} → AltsIn ws ws' room q o → 2 * (length (calls_some q) + length (calls_other o)) + length ws' ≤ length ws
  alts-calls (other_in t u q v) = omega (arith, took-less t, took-less u, acts-calls q, took-less v)
  alts-calls (last_in {b = b} l few t q u) = omega (arith, labels-less l, took-less t, acts-calls q, took-less u, length-append (calls_all b) [])
  alts-calls (next_in {b = b} {q = q} l few t r u m) = omega (arith, labels-less l, took-less t, acts-calls r, took-less u, alts-calls m, length-append (calls_all b) (calls_some q))

-- Uses of operators

plain-uses : {ws ws' : List Word} {a : written.Plain} → PlainIn ws ws' a → (k : List Use) → 4 * length (plain_uses a k) + length ws' ≤ 4 * length k + length ws
unfolding plain_uses
plain-uses (named_in r c) k = omega (arith, reference-less r, constant-less c)
plain-uses (any_in t) k = omega (arith, took-less t)
plain-uses (emit_in t r) k = omega (arith, took-less t, reference-less r)
plain-uses (error_in t r) k = omega (arith, took-less t, reference-less r)
plain-uses (exit_in t) k = omega (arith, took-less t)
plain-uses (call_in t u) k = omega (arith, took-less t, took-less u)
plain-uses (give_in t v) k = omega (arith, took-less t, value-less v)
plain-uses (ranked_in s w t o) k = omega (arith, took-less s, took-less w, took-less t, took-less o)

mutual
  unfolding act_uses

  act-uses : {ws ws' : List Word} {a : written.Act} → ActIn ws ws' a → (k : List Use) → 4 * length (act_uses a k) + length ws' ≤ 4 * length k + length ws
  act-uses (plain_in x) k = plain-uses x k
  act-uses (cycle_in t q u) k = omega (arith, took-less t, acts-uses q k, took-less u)
  act-uses (choice_in t x u r) k = omega (arith, took-less t, selector-less x, took-less u, alts-uses r k)

  acts-uses : {ws ws' : List Word} {q : written.Acts} → ActsIn ws ws' q → (k : List Use) → 4 * length (acts_uses q k) + length ws' ≤ 4 * length k + length ws
  acts-uses (none_in t e) k = omega (arith, same-less e)
  acts-uses (more_in {q = q} t x r) k = omega (arith, act-uses x (acts_uses q k), acts-uses r k)

  alts-uses : {ws ws' : List Word} {room : ℕ} {q : written.Alts} {o : written.Other} → AltsIn ws ws' room q o → (k : List Use)
      → 4 * length (alts_uses q (other_uses o k)) + length ws' ≤ 4 * length k + length ws
  alts-uses (other_in t u q v) k = omega (arith, took-less t, took-less u, acts-uses q k, took-less v)
  alts-uses (last_in l few t q u) k = omega (arith, labels-less l, took-less t, acts-uses q k, took-less u)
  alts-uses (next_in {q = q} {o = o} l few t r u m) k = omega (arith, labels-less l, took-less t, acts-uses r (alts_uses q (other_uses o k)), took-less u, alts-uses m k)

rule-uses : {ws ws' : List Word} {r : written.Rule} → RuleIn ws ws' r → (k : List Use) → 3 + 4 * length (acts_uses r.body k) + length ws' ≤ 4 * length k + length ws
rule-uses (one_rule t g u q v) k = omega (arith, took-less t, gives_less g, took-less u, acts-uses q k, took-less v)

pub rules-uses : {ws ws' : List Word} {rs : List written.Rule} → RulesIn ws ws' rs → 3 + 4 * length (rules_uses rs) + length ws' ≤ length ws
unfolding rules_uses
rules-uses (last_rule x n) = omega (arith, rule-uses x [])
rules-uses (more_rules {rs = rs} x e q) = omega (arith, rule-uses x (rules_uses rs), rules-uses q)

firsts-few : (seen us : List Use) → length (firsts seen us) ≤ length us
unfolding firsts
firsts-few seen [] = omega arith
firsts-few seen (u ∷ us) = go (is_used u seen) (firsts seen us) (firsts (u ∷ seen) us) (firsts-few seen us) (firsts-few (u ∷ seen) us)
  where
    go : (t : Bool) (x y : List Use) → length x ≤ length us → length y ≤ length us → length (if t then x else u ∷ y) ≤ suc (length us)
    go true x y h g = omega arith
    go false x y h g = omega arith

-- no more pairs than uses
pub pairs-few : {ws ws' : List Word} {rs : List written.Rule} → RulesIn ws ws' rs → 3 + 4 * length (pairs_of rs) + length ws' ≤ length ws
unfolding pairs_of
pairs-few {rs = rs} q = omega (arith, rules-uses q, firsts-few [] (rules_uses rs))
