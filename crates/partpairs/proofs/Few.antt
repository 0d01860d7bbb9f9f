-- A use of operators takes four words, and so four bytes or more.
use mathlib.Core.Bool.{Bool, true, false, not}
use mathlib.Core.List.{List, [], ◌∷◌}
use mathlib.Core.Option.{Option}
use mathlib.Core.Path.{◌≡◌, ap}
use Prim.Native.Char.{code}
use Prim.Native.Nat.{ℕ, zero, suc, ◌+◌, ◌*◌, ◌-◌, ◌≤◌}
use native.Mathlib.Omega.{arith}
use lib.Dec.{eqb}
use lib.ListN.{length, take, drop, length-drop}
use Rattle.std.specs.Prelude.{if◌then◌else◌}
use Rattle.grammar.specs.Derived.{Took, Reference, by_name, by_string, ConstantIn, no_constant, one_constant, ValueIn, no_value, one_value, PlainIn, named_in, any_in, emit_in, error_in, exit_in, call_in, give_in, ranked_in, SelectorIn, token_in, rule_inside, operation_inside, LabelsIn, last_label, more_labels, ActIn, plain_in, cycle_in, choice_in, ActsIn, none_in, more_in, AltsIn, other_in, last_in, next_in, GivesIn, gives_none, gives_some, RuleIn, one_rule, RulesIn, last_rule, more_rules}
use Rattle.names.specs.Uses.{Use, plain_uses, act_uses, acts_uses, alts_uses, other_uses, rules_uses, is_used, firsts, pairs_of}
use Rattle.syntax.specs.Written.{Constant, Plain, Selector, Act, Acts, Alts, Other, Rule}
use Rattle.words.specs.Words.{Word, blank, bad, run, word_here, words_from, words_at}

-- Words

words-few : (skip at : ℕ) (s : List ℕ) → length (words_from skip at s) ≤ suc (length s)
unfolding words_from
words-few zero at [] = omega arith
words-few (suc n) at [] = omega arith
words-few (suc n) at (b ∷ s) = let h = words-few n (suc at) s in omega (arith, h)
words-few zero at (b ∷ s) =
    go (blank b) (eqb b (code "%")) (eqb (word_here b s).kind bad)
    (words_from 0 (suc at) s) (words_from (run (λ c. not (eqb c 10)) s) (suc at) s) (words_from ((word_here b s).size - 1) (suc at) s)
    (words-few 0 (suc at) s) (words-few (run (λ c. not (eqb c 10)) s) (suc at) s) (words-few ((word_here b s).size - 1) (suc at) s)
  where
    own : Word
    own = record { kind = (word_here b s).kind; start = at; text = take (word_here b s).size (b ∷ s) }

    go : (t u v : Bool) (gap comment more : List Word) → length gap ≤ suc (length s) → length comment ≤ suc (length s) → length more ≤ suc (length s)
        → length (if t then gap else if u then comment else if v then own ∷ [] else own ∷ more) ≤ suc (suc (length s))
    go true u v gap comment more f g h = omega (arith, f)
    go false true v gap comment more f g h = omega (arith, g)
    go false false true gap comment more f g h = omega arith
    go false false false gap comment more f g h = omega (arith, h)

words-at : (text : List ℕ) (at : ℕ) → length (words_at text at) ≤ suc (length text - at)
unfolding words_at
words-at text at = let h = words-few 0 at (drop at text) in omega (arith, h, length-drop at text)

-- What is read

took : {k : ℕ} {ws ws' : List Word} {w : Word} → Took k ws w ws' → length ws ≡ suc (length ws')
took t = ap length t.here

reference : {ws ws' : List Word} {w : Word} → Reference ws w ws' → length ws ≡ suc (length ws')
reference (by_name t) = took t
reference (by_string t) = took t

constant : {ws ws' : List Word} {c : Option Constant} → ConstantIn ws ws' c → length ws' ≤ length ws
constant (no_constant n e) = omega (arith, ap length e)
constant (one_constant p r q) = omega (arith, took p, reference r, took q)

value : {ws ws' : List Word} {v : Option Word} → ValueIn ws ws' v → length ws' ≤ length ws
value (no_value n m e) = omega (arith, ap length e)
value (one_value r) = omega (arith, reference r)

some-plain : {ws ws' : List Word} {a : Plain} (k : List Use) → PlainIn ws ws' a → 4 * length (plain_uses a k) + length ws' ≤ 4 * length k + length ws
unfolding plain_uses
some-plain k (named_in r c) = omega (arith, reference r, constant c)
some-plain k (any_in t) = omega (arith, took t)
some-plain k (emit_in t r) = omega (arith, took t, reference r)
some-plain k (error_in t r) = omega (arith, took t, reference r)
some-plain k (exit_in t) = omega (arith, took t)
some-plain k (call_in t u) = omega (arith, took t, took u)
some-plain k (give_in t v) = omega (arith, took t, value v)
some-plain k (ranked_in a b c d) = omega (arith, took a, took b, took c, took d)

selector : {ws ws' : List Word} {s : Selector} → SelectorIn ws ws' s → length ws' ≤ length ws
selector (token_in n m e) = omega (arith, ap length e)
selector (rule_inside t u) = omega (arith, took t, took u)
selector (operation_inside t c) = omega (arith, took t, constant c)

labels : {ws ws' ls : List Word} → LabelsIn ws ws' ls → length ws' ≤ length ws
labels (last_label r n) = omega (arith, reference r)
labels (more_labels r t m) = let h = labels m in omega (arith, reference r, took t, h)

mutual
  unfolding act_uses

  act : {ws ws' : List Word} {a : Act} (k : List Use) → ActIn ws ws' a → 4 * length (act_uses a k) + length ws' ≤ 4 * length k + length ws
  act k (plain_in p) = some-plain k p
  act k (cycle_in t x u) = let h = acts k x in omega (arith, took t, took u, h)
  act k (choice_in t s b q) = let h = alts k q in omega (arith, took t, selector s, took b, h)

  acts : {ws ws' : List Word} {q : Acts} (k : List Use) → ActsIn ws ws' q → 4 * length (acts_uses q k) + length ws' ≤ 4 * length k + length ws
  acts k (none_in c e) = omega (arith, ap length e)
  acts k (more_in {q = q} c x m) = let g = act (acts_uses q k) x in let h = acts k m in omega (arith, g, h)

  alts : {ws ws' : List Word} {n : ℕ} {q : Alts} {o : Other} (k : List Use) → AltsIn ws ws' n q o → 4 * length (alts_uses q (other_uses o k)) + length ws' ≤ 4 * length k + length ws
  alts k (other_in t c x u) = let h = acts k x in omega (arith, took t, took c, took u, h)
  alts k (last_in l n c x u) = let h = acts k x in omega (arith, labels l, took c, took u, h)
  alts k (next_in {q = q} {o} l n c x u m) = let g = acts (alts_uses q (other_uses o k)) x in let h = alts k m in omega (arith, labels l, took c, took u, g, h)

gives : {ws ws' : List Word} {g : Option Word} → GivesIn ws ws' g → length ws' ≤ length ws
gives (gives_none n e) = omega (arith, ap length e)
gives (gives_some t u) = omega (arith, took t, took u)

rule : {ws ws' : List Word} {r : Rule} (k : List Use) → RuleIn ws ws' r → 4 * length (acts_uses r.body k) + length ws' ≤ 4 * length k + length ws
rule k (one_rule t g c x u) = omega (arith, took t, gives g, took c, acts k x, took u)

rules-few : {ws ws' : List Word} {rs : List Rule} → RulesIn ws ws' rs → 4 * length (rules_uses rs) + length ws' ≤ length ws
unfolding rules_uses
rules-few (last_rule x n) = omega (arith, rule [] x)
rules-few (more_rules {rs = rs} x d m) = let h = rules-few m in omega (arith, rule (rules_uses rs) x, h)

firsts-few : (seen us : List Use) → length (firsts seen us) ≤ length us
unfolding firsts
firsts-few seen [] = omega arith
firsts-few seen (u ∷ us) = go (is_used u seen) (firsts-few seen us) (firsts-few (u ∷ seen) us)
  where
    go : (t : Bool) → length (firsts seen us) ≤ length us → length (firsts (u ∷ seen) us) ≤ length us → length (if t then firsts seen us else u ∷ firsts (u ∷ seen) us) ≤ suc (length us)
    go true a b = omega (arith, a)
    go false a b = omega (arith, b)

-- a part's rules have 8,192 pairs at most
pub pairs-few : (text : List ℕ) (at : ℕ) {ws : List Word} {rs : List Rule} → length text ≤ at + 32768 → RulesIn (words_at text at) ws rs → length (pairs_of rs) ≤ 8192
unfolding pairs_of
pairs-few text at {ws} {rs} h x = omega (arith, h, rules-few x, words-at text at, firsts-few [] (rules_uses rs))
