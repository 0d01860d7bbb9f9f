-- The names that stand behind semicolons and `@` are those of the rules and of the rules that they call.
use mathlib.Core.Bool.{true, false, ◌||◌}
use mathlib.Core.List.{List, [], ◌∷◌, ◌++◌, append_assoc, append-nil}
use mathlib.Core.Option.{Option}
use mathlib.Core.Path.{◌≡◌, refl, sym, ap, ◌∙◌}
use Prim.Native.Nat.{ℕ}
use lib.Dec.{eqb, leb}
use Rattle.grammar.specs.Derived.{Took, Reference, by_name, by_string, ConstantIn, no_constant, one_constant, ValueIn, no_value, one_value, PlainIn, named_in, any_in, emit_in, error_in, exit_in, call_in, give_in, ranked_in, SelectorIn, token_in, rule_inside, operation_inside, LabelsIn, last_label, more_labels, ActIn, plain_in, cycle_in, choice_in, ActsIn, none_in, more_in, AltsIn, other_in, last_in, next_in, GivesIn, gives_none, gives_some, RuleIn, one_rule, RulesIn, last_rule, more_rules}
use Rattle.parts.specs.Objects.{call_of, selects, calls, calls_all, calls_some, calls_other, mentions}
use Rattle.partnames.specs.Mentioning.{leads, names, names_from, stops}
use Rattle.syntax.specs.Reading.{peek}
use Rattle.syntax.specs.Written.{Constant, Plain, Selector, Act, Acts, Alts, Other, Rule}
use Rattle.words.specs.Words.{Word}

abbrev Same : List Word → List Word → Type 0
Same ws ws' = names_from false ws ≡ names_from false ws'

-- between ws and ws' stand the names xs
abbrev Has : List Word → List Word → List Word → Type 0
Has xs ws ws' = names_from false ws ≡ xs ++ names_from false ws'

-- a word that leads to no name
passed : (k : ℕ) {ws ws' : List Word} {w : Word} → (leb k 1 || eqb k 266) ≡ false → (eqb k 64 || eqb k 59) ≡ false → Took k ws w ws' → Same ws ws'
unfolding names_from names stops leads
passed k e f t = rw (t.here, t.kind, e, f) refl

-- a word that does, and the name
led : (k : ℕ) {ws ws' : List Word} {w : Word} → (leb k 1 || eqb k 266) ≡ false → (eqb k 64 || eqb k 59) ≡ true → Took k ws w ws' → names_from false ws ≡ names_from true ws'
unfolding names_from names stops leads
led k e f t = rw (t.here, t.kind, e, f) refl

a-name : {ws ws' : List Word} {w : Word} → Took 257 ws w ws' → names_from true ws ≡ w ∷ names_from false ws'
unfolding names_from names stops leads
a-name t = rw (t.here, t.kind) refl

none_read : {ws ws' : List Word} → ws' ≡ ws → Same ws ws'
none_read e = ap (names_from false) (sym e)

reference : {ws ws' : List Word} {w : Word} → Reference ws w ws' → Same ws ws'
reference (by_name t) = passed 257 refl refl t
reference (by_string t) = passed 259 refl refl t

constant : {ws ws' : List Word} {c : Option Constant} → ConstantIn ws ws' c → Same ws ws'
constant (no_constant n e) = none_read e
constant (one_constant p r q) = passed 40 refl refl p ∙ reference r ∙ passed 41 refl refl q

given-value : {ws ws' : List Word} {v : Option Word} → ValueIn ws ws' v → Same ws ws'
given-value (no_value m n e) = none_read e
given-value (one_value r) = reference r

called : {ws ws₁ ws' : List Word} {at w : Word} → Took 64 ws at ws₁ → Took 257 ws₁ w ws' → Has (w ∷ []) ws ws'
called t u = led 64 refl refl t ∙ a-name u

plain-names : {ws ws' : List Word} {a : Plain} → PlainIn ws ws' a → Has (call_of a) ws ws'
unfolding call_of
plain-names (named_in r c) = reference r ∙ constant c
plain-names (any_in t) = passed 63 refl refl t
plain-names (emit_in t r) = passed 46 refl refl t ∙ reference r
plain-names (error_in t r) = passed 35 refl refl t ∙ reference r
plain-names (exit_in t) = passed 62 refl refl t
plain-names (call_in t r) = called t r
plain-names (give_in t v) = passed 256 refl refl t ∙ given-value v
plain-names (ranked_in s w t o) = passed 94 refl refl s ∙ passed 257 refl refl w ∙ called t o

selector-names : {ws ws' : List Word} {s : Selector} → SelectorIn ws ws' s → Has (selects s) ws ws'
unfolding selects
selector-names (token_in m n e) = none_read e
selector-names (rule_inside t r) = called t r
selector-names (operation_inside t c) = passed 257 refl refl t ∙ constant c

labels : {ws ws' ls : List Word} → LabelsIn ws ws' ls → Same ws ws'
labels (last_label r n) = reference r
labels (more_labels r t l) = reference r ∙ passed 44 refl refl t ∙ labels l

-- names, and then others
then-names : {a b : List Word} (xs ys c : List Word) → a ≡ xs ++ b → b ≡ ys ++ c → a ≡ (xs ++ ys) ++ c
then-names xs ys c e f = e ∙ ap (λ (l : List Word). xs ++ l) f ∙ sym (append_assoc xs ys c)

then-none : {a b c : List Word} (xs : List Word) → a ≡ xs ++ b → b ≡ c → a ≡ xs ++ c
then-none xs e f = e ∙ ap (λ (l : List Word). xs ++ l) f

no_more : (xs c : List Word) → xs ++ c ≡ ((xs ++ []) ++ []) ++ c
no_more xs c = ap (λ (l : List Word). l ++ c) (sym (append-nil (xs ++ []) ∙ append-nil xs))

assoc : {a : List Word} (xs ys zs c : List Word) → a ≡ (xs ++ (ys ++ zs)) ++ c → a ≡ ((xs ++ ys) ++ zs) ++ c
assoc xs ys zs c e = e ∙ ap (λ (l : List Word). l ++ c) (sym (append_assoc xs ys zs))

mutual
  unfolding calls

  act-names : {ws ws' : List Word} {a : Act} → ActIn ws ws' a → Has (calls a) ws ws'
  act-names (plain_in p) = plain-names p
  act-names (cycle_in {b = b} t q c) = passed 123 refl refl t ∙ then-none (calls_all b) (acts-names q) (passed 125 refl refl c)
  act-names {ws' = ws'} (choice_in {s = s} {q = q} {o = o} t u b d) =
      passed 91 refl refl t ∙ then-names (selects s) (calls_some q ++ calls_other o) (names_from false ws') (selector-names u) (passed 124 refl refl b ∙ alts-names d)

  acts-names : {ws ws' : List Word} {q : Acts} → ActsIn ws ws' q → Has (calls_all q) ws ws'
  acts-names (none_in c e) = none_read e
  acts-names {ws' = ws'} (more_in {a = a} {q = q} c d m) = then-names (calls a) (calls_all q) (names_from false ws') (act-names d) (acts-names m)

  alts-names : {ws ws' : List Word} {room : ℕ} {q : Alts} {o : Other} → AltsIn ws ws' room q o → Has (calls_some q ++ calls_other o) ws ws'
  alts-names (other_in {b = b} s c q t) = passed 42 refl refl s ∙ passed 58 refl refl c ∙ then-none (calls_all b) (acts-names q) (passed 93 refl refl t)
  alts-names {ws' = ws'} (last_in {b = b} l h c q t) =
      labels l ∙ passed 58 refl refl c ∙ then-none (calls_all b) (acts-names q) (passed 93 refl refl t) ∙ no_more (calls_all b) (names_from false ws')
  alts-names {ws' = ws'} {o = o} (next_in {b = b} {q = q} l h c d t m) =
      labels l ∙ passed 58 refl refl c
      ∙ assoc (calls_all b) (calls_some q) (calls_other o) (names_from false ws') (then-names (calls_all b) (calls_some q ++ calls_other o) (names_from false ws') (acts-names d) (passed 124 refl refl t ∙ alts-names m))

gives-names : {ws ws' : List Word} {o : Option Word} → GivesIn ws ws' o → Same ws ws'
gives-names (gives_none n e) = none_read e
gives-names (gives_some t u) = passed 256 refl refl t ∙ passed 257 refl refl u

rule-names : {ws ws' : List Word} {r : Rule} → RuleIn ws ws' r → names_from true ws ≡ r.rule ∷ (calls_all r.body ++ names_from true ws')
rule-names {r = r} (one_rule t g c b e) =
    a-name t ∙ ap (λ (l : List Word). r.rule ∷ l) (gives-names g ∙ passed 58 refl refl c ∙ then-none (calls_all r.body) (acts-names b) (led 59 refl refl e))

-- `end` is next
ends-names : (ws : List Word) → (peek ws).kind ≡ 266 → names_from true ws ≡ []
unfolding peek names_from names stops
ends-names [] e = refl
ends-names (w ∷ ws) e = rw e refl

pub rules-names : {ws ws' : List Word} {rs : List Rule} → RulesIn ws ws' rs → (peek ws').kind ≡ 266 → names_from true ws ≡ mentions rs
unfolding mentions
rules-names {ws' = ws'} (last_rule {r = r} q m) e = rule-names q ∙ ap (λ (l : List Word). r.rule ∷ (calls_all r.body ++ l)) (ends-names ws' e)
rules-names (more_rules {r = r} q m l) e = rule-names q ∙ ap (λ (k : List Word). r.rule ∷ (calls_all r.body ++ k)) (rules-names l e)
