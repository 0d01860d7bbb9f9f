-- Rules that are read of words are read, at other places, of the words at those places.
use mathlib.Core.List.{List, [], ◌∷◌}
use mathlib.Core.Option.{Option}
use mathlib.Core.Path.{◌≡◌, refl, sym, ap, ◌∙◌}
use Prim.Native.Nat.{ℕ, suc, ◌-◌, ◌≤◌}
use lib.ListN.{length}
use Rattle.grammar.specs.Derived.{Took, Not, Reference, by_name, by_string, ConstantIn, no_constant, one_constant, ValueIn, no_value, one_value, PlainIn, named_in, any_in, emit_in, error_in, exit_in, call_in, give_in, ranked_in, SelectorIn, token_in, rule_inside, operation_inside, LabelsIn, last_label, more_labels, ActIn, plain_in, cycle_in, choice_in, ActsIn, none_in, more_in, AltsIn, other_in, last_in, next_in, GivesIn, gives_none, gives_some, RuleIn, one_rule, RulesIn, last_rule, more_rules}
use Rattle.parts.specs.Moved.{move_word, move_words, move_if, move_constant, move_plain, move_selector, move_act, move_acts, move_alts, move_other, move_rule, move_rules}
use Rattle.syntax.specs.Actions.{closes}
use Rattle.syntax.specs.Reading.{peek}
use Rattle.syntax.specs.Written.{Constant, Plain, Selector, Act, Acts, Alts, Other, Rule}
use Rattle.words.specs.Words.{Word}

module _ (to : ℕ → ℕ) where
  -- Words

  pub peek-moved : (ws : List Word) → (peek (move_words to ws)).kind ≡ (peek ws).kind
  unfolding peek move_words move_word
  peek-moved [] = refl
  peek-moved (w ∷ ws) = refl

  not-moved : {k : ℕ} (ws : List Word) → Not k ws → Not k (move_words to ws)
  not-moved ws n e = n (sym (peek-moved ws) ∙ e)

  same-moved : {ws ws' : List Word} → ws' ≡ ws → move_words to ws' ≡ move_words to ws
  same-moved e = ap (move_words to) e

  took-moved : {k : ℕ} {ws ws' : List Word} {w : Word} → Took k ws w ws' → Took k (move_words to ws) (move_word to w) (move_words to ws')
  unfolding move_words move_word
  took-moved t = record { here = ap (move_words to) t.here; kind = t.kind }

  reference-moved : {ws ws' : List Word} {w : Word} → Reference ws w ws' → Reference (move_words to ws) (move_word to w) (move_words to ws')
  reference-moved (by_name t) = by_name (took-moved t)
  reference-moved (by_string t) = by_string (took-moved t)

  labels_length : (ls : List Word) → length (move_words to ls) ≡ length ls
  unfolding move_words
  labels_length [] = refl
  labels_length (w ∷ ls) = ap suc (labels_length ls)

  -- Plain actions and selectors

  constant-moved : {ws ws' : List Word} {c : Option Constant} → ConstantIn ws ws' c → ConstantIn (move_words to ws) (move_words to ws') (move_constant to c)
  unfolding move_constant
  constant-moved {ws} (no_constant n e) = no_constant (not-moved ws n) (same-moved e)
  constant-moved (one_constant t r u) = one_constant (took-moved t) (reference-moved r) (took-moved u)

  value-moved : {ws ws' : List Word} {v : Option Word} → ValueIn ws ws' v → ValueIn (move_words to ws) (move_words to ws') (move_if to v)
  unfolding move_if
  value-moved {ws} (no_value n m e) = no_value (not-moved ws n) (not-moved ws m) (same-moved e)
  value-moved (one_value r) = one_value (reference-moved r)

  plain_moved : {ws ws' : List Word} {a : Plain} → PlainIn ws ws' a → PlainIn (move_words to ws) (move_words to ws') (move_plain to a)
  unfolding move_plain
  plain_moved (named_in r c) = named_in (reference-moved r) (constant-moved c)
  plain_moved (any_in t) = any_in (took-moved t)
  plain_moved (emit_in t r) = emit_in (took-moved t) (reference-moved r)
  plain_moved (error_in t r) = error_in (took-moved t) (reference-moved r)
  plain_moved (exit_in t) = exit_in (took-moved t)
  plain_moved (call_in t u) = call_in (took-moved t) (took-moved u)
  plain_moved (give_in t v) = give_in (took-moved t) (value-moved v)
  plain_moved (ranked_in t u v o) = ranked_in (took-moved t) (took-moved u) (took-moved v) (took-moved o)

  selector-moved : {ws ws' : List Word} {s : Selector} → SelectorIn ws ws' s → SelectorIn (move_words to ws) (move_words to ws') (move_selector to s)
  unfolding move_selector
  selector-moved {ws} (token_in n m e) = token_in (not-moved ws n) (not-moved ws m) (same-moved e)
  selector-moved (rule_inside t u) = rule_inside (took-moved t) (took-moved u)
  selector-moved (operation_inside t c) = operation_inside (took-moved t) (constant-moved c)

  labels-moved : {ws ws' ls : List Word} → LabelsIn ws ws' ls → LabelsIn (move_words to ws) (move_words to ws') (move_words to ls)
  unfolding move_words
  labels-moved {ws' = ws'} (last_label r n) = last_label (reference-moved r) (not-moved ws' n)
  labels-moved (more_labels r t q) = more_labels (reference-moved r) (took-moved t) (labels-moved q)

  few-moved : {room : ℕ} (ls : List Word) → length ls ≤ room → length (move_words to ls) ≤ room
  few-moved ls h = rw (labels_length ls) h

  room_moved : {ws ws' : List Word} (room : ℕ) {q : Alts} {o : Other} (ls : List Word) → AltsIn ws ws' (room - length ls) q o → AltsIn ws ws' (room - length (move_words to ls)) q o
  room_moved room ls h = rw (labels_length ls) h

  -- Actions

  mutual
    unfolding move_act

    act-moved : {ws ws' : List Word} {a : Act} → ActIn ws ws' a → ActIn (move_words to ws) (move_words to ws') (move_act to a)
    act-moved (plain_in p) = plain_in (plain_moved p)
    act-moved (cycle_in t q u) = cycle_in (took-moved t) (acts-moved q) (took-moved u)
    act-moved (choice_in t s u q) = choice_in (took-moved t) (selector-moved s) (took-moved u) (alts-moved q)

    pub acts-moved : {ws ws' : List Word} {q : Acts} → ActsIn ws ws' q → ActsIn (move_words to ws) (move_words to ws') (move_acts to q)
    acts-moved (none_in {ws = ws} t e) = none_in (ap closes (peek-moved ws) ∙ t) (same-moved e)
    acts-moved (more_in {ws = ws} t a q) = more_in (ap closes (peek-moved ws) ∙ t) (act-moved a) (acts-moved q)

    alts-moved : {ws ws' : List Word} {room : ℕ} {q : Alts} {o : Other} → AltsIn ws ws' room q o → AltsIn (move_words to ws) (move_words to ws') room (move_alts to q) (move_other to o)
    alts-moved (other_in t u q v) = other_in (took-moved t) (took-moved u) (acts-moved q) (took-moved v)
    alts-moved (last_in {ls = ls} l few t q u) = last_in (labels-moved l) (few-moved ls few) (took-moved t) (acts-moved q) (took-moved u)
    alts-moved (next_in {ls = ls} {room = room} l few t q u r) =
        next_in (labels-moved l) (few-moved ls few) (took-moved t) (acts-moved q) (took-moved u) (room_moved room ls (alts-moved r))

  -- Rules

  pub gives_moved : {ws ws' : List Word} {g : Option Word} → GivesIn ws ws' g → GivesIn (move_words to ws) (move_words to ws') (move_if to g)
  unfolding move_if
  gives_moved {ws} (gives_none n e) = gives_none (not-moved ws n) (same-moved e)
  gives_moved (gives_some t u) = gives_some (took-moved t) (took-moved u)

  pub rule_moved : {ws ws' : List Word} {r : Rule} → RuleIn ws ws' r → RuleIn (move_words to ws) (move_words to ws') (move_rule to r)
  unfolding move_rule
  rule_moved (one_rule t g u q v) = one_rule (took-moved t) (gives_moved g) (took-moved u) (acts-moved q) (took-moved v)

  pub rules-moved : {ws ws' : List Word} {rs : List Rule} → RulesIn ws ws' rs → RulesIn (move_words to ws) (move_words to ws') (move_rules to rs)
  unfolding move_rules
  rules-moved {ws' = ws'} (last_rule r n) = last_rule (rule_moved r) (not-moved ws' n)
  rules-moved (more_rules {ws₁ = ws₁} r e q) = more_rules (rule_moved r) (peek-moved ws₁ ∙ e) (rules-moved q)
