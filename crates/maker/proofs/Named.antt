-- The operand of each use of the rules is a name.
use mathlib.Core.List.{List, []}
use Prim.Native.Nat.{ℕ}
use Rattle.grammar.specs.Derived.{PlainIn, named_in, any_in, emit_in, error_in, exit_in, call_in, give_in, ranked_in, ActIn, plain_in, cycle_in, choice_in, ActsIn, none_in, more_in, AltsIn, other_in, last_in, next_in, RuleIn, one_rule, RulesIn, last_rule, more_rules}
use Rattle.maker.specs.Pairing.{AllNamed}
use Rattle.names.specs.Uses.{Use, plain_uses, act_uses, acts_uses, alts_uses, other_uses, rules_uses}
use Rattle.syntax.specs.Written.{Plain, Act, Acts, Alts, Other, Rule}
use Rattle.words.specs.Words.{Word}

some-plain : {ws ws' : List Word} {a : Plain} (k : List Use) → PlainIn ws ws' a → AllNamed k → AllNamed (plain_uses a k)
unfolding plain_uses AllNamed
some-plain k (named_in r c) h = h
some-plain k (any_in t) h = h
some-plain k (emit_in t r) h = h
some-plain k (error_in t r) h = h
some-plain k (exit_in t) h = h
some-plain k (call_in t u) h = h
some-plain k (give_in t v) h = h
some-plain k (ranked_in a b c d) h = (d.kind, h)

mutual
  unfolding act_uses

  act : {ws ws' : List Word} {a : Act} (k : List Use) → ActIn ws ws' a → AllNamed k → AllNamed (act_uses a k)
  act k (plain_in p) h = some-plain k p h
  act k (cycle_in t x u) h = acts k x h
  act k (choice_in t s b q) h = alts k q h

  acts : {ws ws' : List Word} {q : Acts} (k : List Use) → ActsIn ws ws' q → AllNamed k → AllNamed (acts_uses q k)
  acts k (none_in c e) h = h
  acts k (more_in {q = q} c x m) h = act (acts_uses q k) x (acts k m h)

  alts : {ws ws' : List Word} {n : ℕ} {q : Alts} {o : Other} (k : List Use) → AltsIn ws ws' n q o → AllNamed k → AllNamed (alts_uses q (other_uses o k))
  alts k (other_in t c x u) h = acts k x h
  alts k (last_in l n c x u) h = acts k x h
  alts k (next_in {q = q} {o} l n c x u m) h = acts (alts_uses q (other_uses o k)) x (alts k m h)

rule : {ws ws' : List Word} {r : Rule} (k : List Use) → RuleIn ws ws' r → AllNamed k → AllNamed (acts_uses r.body k)
rule k (one_rule t g c x u) h = acts k x h

pub rules-named : {ws ws' : List Word} {rs : List Rule} → RulesIn ws ws' rs → AllNamed (rules_uses rs)
unfolding rules_uses AllNamed
rules-named (last_rule x n) = rule [] x tt
rules-named (more_rules {rs = rs} x d m) = rule (rules_uses rs) x (rules-named m)
