-- The loop over the words finds the uses of the tree, in its order.
use mathlib.Core.Bool.{false}
use mathlib.Core.List.{List, [], ◌∷◌}
use mathlib.Core.Option.{Option}
use mathlib.Core.Path.{◌≡◌, refl, sym, ap, ◌∙◌}
use Prim.Native.Nat.{ℕ}
use lib.Dec.{eqb}
use Rattle.std.specs.Prelude.{if◌then◌else◌}
use Rattle.grammar.proofs.SectionsIn.{peek-took}
use Rattle.grammar.specs.Derived.{Took, Reference, by_name, by_string, ConstantIn, no_constant, one_constant, ValueIn, no_value, one_value, PlainIn, named_in, any_in, emit_in, error_in, exit_in, call_in, give_in, ranked_in, SelectorIn, token_in, rule_inside, operation_inside, LabelsIn, last_label, more_labels, ActIn, plain_in, cycle_in, choice_in, ActsIn, none_in, more_in, AltsIn, other_in, last_in, next_in, GivesIn, gives_none, gives_some, RuleIn, one_rule, RulesIn, last_rule, more_rules}
use Rattle.maker.specs.Marks.{behind, use_of, marks}
use Rattle.names.specs.Uses.{Use, plain_uses, act_uses, acts_uses, alts_uses, other_uses, rules_uses}
use Rattle.syntax.specs.Reading.{peek}
use Rattle.syntax.specs.Written.{Constant, Plain, Selector, Act, Acts, Alts, Other, Rule}
use Rattle.words.specs.Words.{Word}

-- a word that is neither `^` nor `end` is passed
skip : {k : ℕ} {ws ws' : List Word} {w : Word} → Took k ws w ws' → eqb k 266 ≡ false → eqb k 94 ≡ false → marks ws ≡ marks ws'
unfolding marks
skip {k} {ws} {ws'} {w} t a b = ap marks t.here ∙ go
  where
    go : (if eqb w.kind 266 then [] else if eqb w.kind 94 then use_of w ws' ∷ marks ws' else marks ws') ≡ marks ws'
    go = rw (t.kind, a, b) refl

reference : {ws ws' : List Word} {w : Word} → Reference ws w ws' → marks ws ≡ marks ws'
reference (by_name t) = skip t refl refl
reference (by_string t) = skip t refl refl

constant : {ws ws' : List Word} {c : Option Constant} → ConstantIn ws ws' c → marks ws ≡ marks ws'
constant (no_constant n e) = ap marks (sym e)
constant (one_constant p r q) = skip p refl refl ∙ reference r ∙ skip q refl refl

value : {ws ws' : List Word} {v : Option Word} → ValueIn ws ws' v → marks ws ≡ marks ws'
value (no_value n m e) = ap marks (sym e)
value (one_value r) = reference r

behind-took : {k : ℕ} {ws ws' : List Word} {w : Word} → Took k ws w ws' → behind ws ≡ ws'
unfolding behind
behind-took t = rw t.here refl

-- `^`, a name, `@`, a name
mark : {ws ws₁ ws₂ ws₃ ws' : List Word} {s w at o : Word} → Took 94 ws s ws₁ → Took 257 ws₁ w ws₂ → Took 64 ws₂ at ws₃ → Took 257 ws₃ o ws'
    → marks ws ≡ record { sign = s; section = w; operand = o } ∷ marks ws'
unfolding marks use_of
mark {ws} {ws₁} {ws₂} {ws₃} {ws'} {s} {w} {at} {o} a b c d = ap marks a.here ∙ first ∙ rest
  where
    third : peek (behind (behind ws₁)) ≡ o
    third = ap (λ (x : List Word). peek (behind x)) (behind-took b) ∙ ap peek (behind-took c) ∙ peek-took d

    first : (if eqb s.kind 266 then [] else if eqb s.kind 94 then use_of s ws₁ ∷ marks ws₁ else marks ws₁) ≡ record { sign = s; section = peek ws₁; operand = peek (behind (behind ws₁)) } ∷ marks ws₁
    first = rw a.kind refl

    rest : ◌≡◌ {A = List Use} (record { sign = s; section = peek ws₁; operand = peek (behind (behind ws₁)) } ∷ marks ws₁) (record { sign = s; section = w; operand = o } ∷ marks ws')
    rest = rw (peek-took b, third, skip b refl refl, skip c refl refl, skip d refl refl) refl

some-plain : {ws ws' : List Word} {a : Plain} → PlainIn ws ws' a → marks ws ≡ plain_uses a (marks ws')
unfolding plain_uses
some-plain (named_in r c) = reference r ∙ constant c
some-plain (any_in t) = skip t refl refl
some-plain (emit_in t r) = skip t refl refl ∙ reference r
some-plain (error_in t r) = skip t refl refl ∙ reference r
some-plain (exit_in t) = skip t refl refl
some-plain (call_in t u) = skip t refl refl ∙ skip u refl refl
some-plain (give_in t v) = skip t refl refl ∙ value v
some-plain (ranked_in a b c d) = mark a b c d

selector : {ws ws' : List Word} {s : Selector} → SelectorIn ws ws' s → marks ws ≡ marks ws'
selector (token_in n m e) = ap marks (sym e)
selector (rule_inside t u) = skip t refl refl ∙ skip u refl refl
selector (operation_inside t c) = skip t refl refl ∙ constant c

labels : {ws ws' ls : List Word} → LabelsIn ws ws' ls → marks ws ≡ marks ws'
labels (last_label r n) = reference r
labels (more_labels r t m) = reference r ∙ skip t refl refl ∙ labels m

mutual
  unfolding act_uses

  act : {ws ws' : List Word} {a : Act} → ActIn ws ws' a → marks ws ≡ act_uses a (marks ws')
  act (plain_in p) = some-plain p
  act (cycle_in {b = b} t x u) = skip t refl refl ∙ acts x ∙ ap (acts_uses b) (skip u refl refl)
  act (choice_in t s b q) = skip t refl refl ∙ selector s ∙ skip b refl refl ∙ alts q

  acts : {ws ws' : List Word} {q : Acts} → ActsIn ws ws' q → marks ws ≡ acts_uses q (marks ws')
  acts (none_in c e) = ap marks (sym e)
  acts (more_in {a = a} c x m) = act x ∙ ap (act_uses a) (acts m)

  alts : {ws ws' : List Word} {n : ℕ} {q : Alts} {o : Other} → AltsIn ws ws' n q o → marks ws ≡ alts_uses q (other_uses o (marks ws'))
  alts (other_in {b = b} t c x u) = skip t refl refl ∙ skip c refl refl ∙ acts x ∙ ap (acts_uses b) (skip u refl refl)
  alts (last_in {b = b} l n c x u) = labels l ∙ skip c refl refl ∙ acts x ∙ ap (acts_uses b) (skip u refl refl)
  alts (next_in {b = b} l n c x u m) = labels l ∙ skip c refl refl ∙ acts x ∙ ap (acts_uses b) (skip u refl refl ∙ alts m)

gives : {ws ws' : List Word} {g : Option Word} → GivesIn ws ws' g → marks ws ≡ marks ws'
gives (gives_none n e) = ap marks (sym e)
gives (gives_some t u) = skip t refl refl ∙ skip u refl refl

rule : {ws ws' : List Word} {r : Rule} → RuleIn ws ws' r → marks ws ≡ acts_uses r.body (marks ws')
rule {r = r} (one_rule t g c x u) = skip t refl refl ∙ gives g ∙ skip c refl refl ∙ acts x ∙ ap (acts_uses r.body) (skip u refl refl)

-- from a rule's name to the word behind the last rule, which is `end`
rules-with : {ws ws' : List Word} {rs : List Rule} → RulesIn ws ws' rs → marks ws' ≡ [] → marks ws ≡ rules_uses rs
unfolding rules_uses
rules-with (last_rule {r = r} x n) e = rule x ∙ ap (acts_uses r.body) e
rules-with (more_rules {r = r} x d m) e = rule x ∙ ap (acts_uses r.body) (rules-with m e)

ending : (ws : List Word) → (peek ws).kind ≡ 266 → marks ws ≡ []
unfolding marks peek
ending [] e = refl
ending (w ∷ ws) e = rw e refl

pub marked : {ws ws' : List Word} {rs : List Rule} → RulesIn ws ws' rs → (peek ws').kind ≡ 266 → marks ws ≡ rules_uses rs
marked {ws' = ws'} x e = rules-with x (ending ws' e)
