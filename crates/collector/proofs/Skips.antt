-- A rule's actions have no semicolon: a skip to the next one gets behind the rule.
use mathlib.Core.Bool.{Bool, false}
use mathlib.Core.List.{List, [], ◌∷◌}
use mathlib.Core.Option.{Option}
use mathlib.Core.Path.{◌≡◌, refl, sym, ap, ◌∙◌}
use Prim.Native.Nat.{ℕ, ◌≤◌, ◌<◌}
use native.Mathlib.Omega.{arith}
use lib.Dec.{eqb}
use lib.ListN.{length}
use borrow.Author.Tests.{ne_eqb, eq-eqb}
use Rattle.collector.specs.Collecting.{to_semicolon, Skips}
use Rattle.grammar.specs.Derived.{Took, Reference, by_name, by_string, ConstantIn, no_constant, one_constant, ValueIn, no_value, one_value, PlainIn, named_in, any_in, emit_in, error_in, exit_in, call_in, give_in, ranked_in, SideIn, left_in, right_in, OperatorIn, one_operator, OperatorsIn, last_operator, more_operators, SelectorIn, token_in, rule_inside, operation_inside, LabelsIn, last_label, more_labels, ActIn, plain_in, cycle_in, choice_in, ActsIn, none_in, more_in, AltsIn, other_in, last_in, next_in}
use Rattle.reader.specs.Answers.{Here}
use Rattle.scanner.specs.Next.{as_word}
use Rattle.scanner.specs.declared.WordAt.{WordAt}
use Rattle.syntax.specs.Written.{Constant, Operator, Plain, Selector, Act, Acts, Alts, Other}
use Rattle.words.specs.Words.{Word, words_at}

abbrev Same : List Word → List Word → Type 0
Same ws ws' = to_semicolon ws ≡ to_semicolon ws'

-- another word is passed
pub passed : (k : ℕ) {ws ws' : List Word} {w : Word} → eqb k 59 ≡ false → Took k ws w ws' → Same ws ws'
unfolding to_semicolon
passed k e t = rw (t.here, t.kind, e)

-- the semicolon is not
pub stays : {ws ws' : List Word} {w : Word} → Took 59 ws w ws' → to_semicolon ws ≡ ws
unfolding to_semicolon
stays t = rw (t.here, t.kind)

none_read : {ws ws' : List Word} → ws' ≡ ws → Same ws ws'
none_read e = ap to_semicolon (sym e)

reference : {ws ws' : List Word} {w : Word} → Reference ws w ws' → Same ws ws'
reference (by_name t) = passed 257 refl t
reference (by_string t) = passed 259 refl t

constant : {ws ws' : List Word} {c : Option Constant} → ConstantIn ws ws' c → Same ws ws'
constant (no_constant n e) = none_read e
constant (one_constant p r q) = passed 40 refl p ∙ reference r ∙ passed 41 refl q

given-value : {ws ws' : List Word} {v : Option Word} → ValueIn ws ws' v → Same ws ws'
given-value (no_value m n e) = none_read e
given-value (one_value r) = reference r

plain-action : {ws ws' : List Word} {a : Plain} → PlainIn ws ws' a → Same ws ws'
plain-action (named_in r c) = reference r ∙ constant c
plain-action (any_in t) = passed 63 refl t
plain-action (emit_in t r) = passed 46 refl t ∙ reference r
plain-action (error_in t r) = passed 35 refl t ∙ reference r
plain-action (exit_in t) = passed 62 refl t
plain-action (call_in t r) = passed 64 refl t ∙ passed 257 refl r
plain-action (give_in t v) = passed 256 refl t ∙ given-value v
plain-action (ranked_in s w t o) = passed 94 refl s ∙ passed 257 refl w ∙ passed 64 refl t ∙ passed 257 refl o

selector : {ws ws' : List Word} {s : Selector} → SelectorIn ws ws' s → Same ws ws'
selector (token_in m n e) = none_read e
selector (rule_inside t r) = passed 64 refl t ∙ passed 257 refl r
selector (operation_inside t c) = passed 257 refl t ∙ constant c

labels : {ws ws' ls : List Word} → LabelsIn ws ws' ls → Same ws ws'
labels (last_label r n) = reference r
labels (more_labels r t l) = reference r ∙ passed 44 refl t ∙ labels l

mutual
  action : {ws ws' : List Word} {a : Act} → ActIn ws ws' a → Same ws ws'
  action (plain_in p) = plain-action p
  action (cycle_in t b c) = passed 123 refl t ∙ actions b ∙ passed 125 refl c
  action (choice_in t s b q) = passed 91 refl t ∙ selector s ∙ passed 124 refl b ∙ alternatives q

  pub actions : {ws ws' : List Word} {q : Acts} → ActsIn ws ws' q → Same ws ws'
  actions (none_in c e) = none_read e
  actions (more_in c a q) = action a ∙ actions q

  alternatives : {ws ws' : List Word} {room : ℕ} {q : Alts} {o : Other} → AltsIn ws ws' room q o → Same ws ws'
  alternatives (other_in s c b t) = passed 42 refl s ∙ passed 58 refl c ∙ actions b ∙ passed 93 refl t
  alternatives (last_in l h c b t) = labels l ∙ passed 58 refl c ∙ actions b ∙ passed 93 refl t
  alternatives (next_in l h c b t q) = labels l ∙ passed 58 refl c ∙ actions b ∙ passed 124 refl t ∙ alternatives q

-- from a rule's colon on
pub body : {ws ws₁ ws₂ ws' : List Word} {colon semi : Word} {q : Acts} → Took 58 ws colon ws₁ → ActsIn ws₁ ws₂ q → Took 59 ws₂ semi ws' → Took 59 (to_semicolon ws) semi ws'
body c b s = rw (passed 58 refl c, actions b, stays s) s

-- entries of operators have none either
side : {ws ws' : List Word} {b : Bool} → SideIn ws ws' b → Same ws ws'
side (left_in t e) = passed 257 refl t
side (right_in t e) = passed 257 refl t

operator : {ws ws' : List Word} {o : Operator} → OperatorIn ws ws' o → Same ws ws'
operator (one_operator r d e low high s t) = reference r ∙ passed 258 refl d ∙ side s ∙ reference t

pub entries-behind : {text : List ℕ} {at r : ℕ} {ws ws' : List Word} {os : List Operator} → Skips text at r → Same (words_at text at) ws → OperatorsIn ws ws' os → ws' ≡ words_at text r
entries-behind {ws' = ws'} k e (last_operator {semi = semi} a t) = k.rest semi ws' (rw (e, operator a, stays t) t)
entries-behind k e (more_operators a m q) = entries-behind k (e ∙ operator a) q

-- The code's skip

pub skip-on : {text : List ℕ} (at : ℕ) {i : ℕ} {w : WordAt} → Here text i w → 2 ≤ w.kind → (w.kind ≡ 59 → ⊥) → Same (words_at text at) (words_at text i)
    → Same (words_at text at) (words_at text w.next)
unfolding to_semicolon
skip-on at {w = w} n h e s = s ∙ rw (n.more h, ne_eqb w.kind 59 e) refl

pub skip-found : {text : List ℕ} {at i : ℕ} {w : WordAt} → at ≤ i → Here text i w → w.kind ≡ 59 → Same (words_at text at) (words_at text i) → Skips text at w.next
unfolding to_semicolon
skip-found {text} {at} {i} {w} l n e s = record { low = omega (arith, n.onto); high = n.high; rest = rest } where
  here : to_semicolon (words_at text i) ≡ as_word text w ∷ words_at text w.next
  here = rw (n.more (omega arith), eq-eqb w.kind 59 e) refl

  rest : (semi : Word) (ws' : List Word) → Took 59 (to_semicolon (words_at text at)) semi ws' → ws' ≡ words_at text w.next
  rest semi ws' t = let g = t.here in let h = here in cc

pub skip-lost : {text : List ℕ} {at i : ℕ} {w : WordAt} → at ≤ i → i ≤ length text → Here text i w → w.kind < 2 → Same (words_at text at) (words_at text i) → Skips text at i
unfolding to_semicolon
skip-lost {text} {at} {i} {w} l m n e s = record { low = l; high = m; rest = rest } where
  gone : to_semicolon (words_at text i) ≡ []
  gone = rw (n.final e, ne_eqb w.kind 59 (λ z. omega arith)) refl

  rest : (semi : Word) (ws' : List Word) → Took 59 (to_semicolon (words_at text at)) semi ws' → ws' ≡ words_at text i
  rest semi ws' t = let g = t.here in let h = gone in let z : ◌≡◌ {A = ℕ} 0 1 = cc in absurd (omega arith)
