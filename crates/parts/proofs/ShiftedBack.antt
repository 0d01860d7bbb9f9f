-- Rules that were moved with their words and back are the rules.
use mathlib.Core.List.{List, ◌∷◌}
use mathlib.Core.Option.{Option, some}
use mathlib.Core.Path.{◌≡◌, refl, ap}
use Prim.Native.Nat.{ℕ}
use Rattle.grammar.specs.Derived.{Took, Reference, by_name, by_string, ConstantIn, no_constant, one_constant, ValueIn, no_value, one_value, PlainIn, named_in, any_in, emit_in, error_in, exit_in, call_in, give_in, ranked_in, SelectorIn, token_in, rule_inside, operation_inside, LabelsIn, last_label, more_labels, ActIn, plain_in, cycle_in, choice_in, ActsIn, none_in, more_in, AltsIn, other_in, last_in, next_in, GivesIn, gives_none, gives_some, RuleIn, one_rule, RulesIn, last_rule, more_rules}
use Rattle.parts.specs.Moved.{move_word, move_words, move_if, move_constant, move_plain, move_selector, move_act, move_acts, move_alts, move_other, move_rule, move_rules}
use Rattle.syntax.specs.Written.{Constant, Plain, Selector, Act, Acts, Alts, Other, Rule}
use Rattle.words.specs.Words.{Word}

module _ (back to : ℕ → ℕ) where
  -- these words come back to their places
  abbrev pub Back : List Word → Type 0
  Back ws = move_words back (move_words to ws) ≡ ws

  back-if : {ws ws' : List Word} → ws' ≡ ws → Back ws → Back ws'
  back-if e h = rw e h

  cons-back : (w : Word) (ws : List Word) → Back (w ∷ ws) → (move_word back (move_word to w) ≡ w) × Back ws
  unfolding move_words
  cons-back w ws h = (cc, cc)

  took-back : {k : ℕ} {ws ws' : List Word} {w : Word} → Took k ws w ws' → Back ws → (move_word back (move_word to w) ≡ w) × Back ws'
  took-back {ws' = ws'} {w = w} t h = cons-back w ws' (rw t.here at h)

  reference-back : {ws ws' : List Word} {w : Word} → Reference ws w ws' → Back ws → (move_word back (move_word to w) ≡ w) × Back ws'
  reference-back (by_name t) h = took-back t h
  reference-back (by_string t) h = took-back t h

  -- Plain actions and selectors

  constant-back : {ws ws' : List Word} {c : Option Constant} → ConstantIn ws ws' c → Back ws → (move_constant back (move_constant to c) ≡ c) × Back ws'
  unfolding move_constant
  constant-back (no_constant n e) h = (refl, back-if e h)
  constant-back (one_constant t r u) h =
      let a = took-back t h in
      let b = reference-back r a.1 in
      (rw (a.0, b.0) refl, (took-back u b.1).1)

  value-back : {ws ws' : List Word} {v : Option Word} → ValueIn ws ws' v → Back ws → (move_if back (move_if to v) ≡ v) × Back ws'
  unfolding move_if
  value-back (no_value n m e) h = (refl, back-if e h)
  value-back (one_value r) h = let a = reference-back r h in (ap some a.0, a.1)

  plain_back : {ws ws' : List Word} {a : Plain} → PlainIn ws ws' a → Back ws → (move_plain back (move_plain to a) ≡ a) × Back ws'
  unfolding move_plain
  plain_back (named_in r c) h =
      let a = reference-back r h in
      let b = constant-back c a.1 in
      (rw (a.0, b.0) refl, b.1)
  plain_back (any_in t) h = let a = took-back t h in (rw a.0 refl, a.1)
  plain_back (emit_in t r) h = let a = reference-back r (took-back t h).1 in (rw a.0 refl, a.1)
  plain_back (error_in t r) h = let a = reference-back r (took-back t h).1 in (rw a.0 refl, a.1)
  plain_back (exit_in t) h = let a = took-back t h in (rw a.0 refl, a.1)
  plain_back (call_in t u) h = let a = took-back u (took-back t h).1 in (rw a.0 refl, a.1)
  plain_back (give_in t v) h =
      let a = took-back t h in
      let b = value-back v a.1 in
      (rw (a.0, b.0) refl, b.1)
  plain_back (ranked_in s w t o) h =
      let a = took-back s h in
      let b = took-back w a.1 in
      let d = took-back o (took-back t b.1).1 in
      (rw (a.0, b.0, d.0) refl, d.1)

  selector-back : {ws ws' : List Word} {s : Selector} → SelectorIn ws ws' s → Back ws → (move_selector back (move_selector to s) ≡ s) × Back ws'
  unfolding move_selector
  selector-back (token_in n m e) h = (refl, back-if e h)
  selector-back (rule_inside t u) h = let a = took-back u (took-back t h).1 in (rw a.0 refl, a.1)
  selector-back (operation_inside t c) h =
      let a = took-back t h in
      let b = constant-back c a.1 in
      (rw (a.0, b.0) refl, b.1)

  labels-back : {ws ws' ls : List Word} → LabelsIn ws ws' ls → Back ws → Back ls × Back ws'
  unfolding move_words
  labels-back (last_label r n) h = let a = reference-back r h in (rw a.0 refl, a.1)
  labels-back (more_labels r t q) h =
      let a = reference-back r h in
      let b = labels-back q (took-back t a.1).1 in
      (rw (a.0, b.0) refl, b.1)

  -- Actions

  mutual
    unfolding move_act

    act-back : {ws ws' : List Word} {a : Act} → ActIn ws ws' a → Back ws → (move_act back (move_act to a) ≡ a) × Back ws'
    act-back (plain_in p) h = let a = plain_back p h in (rw a.0 refl, a.1)
    act-back (cycle_in t q u) h = let a = acts-back q (took-back t h).1 in (rw a.0 refl, (took-back u a.1).1)
    act-back (choice_in t s u q) h =
        let a = selector-back s (took-back t h).1 in
        let b = alts-back q (took-back u a.1).1 in
        (rw (a.0, b.0, b.1) refl, b.2)

    acts-back : {ws ws' : List Word} {q : Acts} → ActsIn ws ws' q → Back ws → (move_acts back (move_acts to q) ≡ q) × Back ws'
    acts-back (none_in t e) h = (refl, back-if e h)
    acts-back (more_in t x q) h =
        let a = act-back x h in
        let b = acts-back q a.1 in
        (rw (a.0, b.0) refl, b.1)

    alts-back : {ws ws' : List Word} {room : ℕ} {q : Alts} {o : Other} → AltsIn ws ws' room q o → Back ws
        → (move_alts back (move_alts to q) ≡ q) × (move_other back (move_other to o) ≡ o) × Back ws'
    alts-back (other_in t u q v) h = let a = acts-back q (took-back u (took-back t h).1).1 in (refl, rw a.0 refl, (took-back v a.1).1)
    alts-back (last_in l few t q u) h =
        let a = labels-back l h in
        let b = acts-back q (took-back t a.1).1 in
        (rw (a.0, b.0) refl, refl, (took-back u b.1).1)
    alts-back (next_in l few t q u r) h =
        let a = labels-back l h in
        let b = acts-back q (took-back t a.1).1 in
        let d = alts-back r (took-back u b.1).1 in
        (rw (a.0, b.0, d.0) refl, d.1, d.2)

  -- Rules

  gives_back : {ws ws' : List Word} {g : Option Word} → GivesIn ws ws' g → Back ws → (move_if back (move_if to g) ≡ g) × Back ws'
  unfolding move_if
  gives_back (gives_none n e) h = (refl, back-if e h)
  gives_back (gives_some t u) h = let a = took-back u (took-back t h).1 in (rw a.0 refl, a.1)

  rule-back : {ws ws' : List Word} {r : Rule} → RuleIn ws ws' r → Back ws → (move_rule back (move_rule to r) ≡ r) × Back ws'
  unfolding move_rule
  rule-back (one_rule t g u q v) h =
      let a = took-back t h in
      let b = gives_back g a.1 in
      let d = acts-back q (took-back u b.1).1 in
      let e = took-back v d.1 in
      (rw (a.0, b.0, d.0, e.0) refl, e.1)

  pub rules-back : {ws ws' : List Word} {rs : List Rule} → RulesIn ws ws' rs → Back ws → move_rules back (move_rules to rs) ≡ rs
  unfolding move_rules
  rules-back (last_rule r n) h = rw (rule-back r h).0 refl
  rules-back (more_rules r e q) h = let a = rule-back r h in rw (a.0, rules-back q a.1) refl
