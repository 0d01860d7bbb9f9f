-- How many cells a rule of a part has: at most two for each of its words.
use mathlib.Core.Bool.{Bool, true, false, ◌&&◌, not}
use mathlib.Core.List.{List, [], ◌∷◌, ◌++◌}
use mathlib.Core.Option.{Option}
use mathlib.Core.Path.{◌≡◌, refl, ap}
use Prim.Native.Nat.{ℕ, zero, suc, ◌+◌, ◌*◌, ◌-◌, ◌≤◌}
use lib.Dec.{eqb}
use lib.ListN.{length, length-append, drop, length-drop}
use native.Mathlib.Omega.{arith}
use Rattle.acceptance.proofs.CheckLaws.{Yields, yields, next, passed, Any, any}
use Rattle.acceptance.proofs.Shape.{Each}
use Rattle.std.specs.Prelude.{if◌then◌else◌}
use Rattle.base.specs.Common.{member, given}
use Rattle.base.specs.Tree.{plain, cycle, choice, done, ◌▸◌, nil, alternative, absent, otherwise}
use Rattle.calls.specs.Renumber.{renumber_plain, renumber_selector, renumber, renumbers, renumber_alts, renumber_other}
use Rattle.cells.specs.Cells.{plain_cells, selector_cells, absent_cell, act_cells, acts_cells, alts_cells, other_cells}
use Rattle.grammar.specs.Derived.{Took, Reference, by_name, by_string, ConstantIn, no_constant, one_constant, ValueIn, no_value, one_value, PlainIn, named_in, any_in, emit_in, error_in, exit_in, call_in, give_in, ranked_in, SelectorIn, token_in, rule_inside, operation_inside, LabelsIn, last_label, more_labels, ActIn, plain_in, cycle_in, choice_in, ActsIn, none_in, more_in, AltsIn, other_in, last_in, next_in, GivesIn, gives_none, gives_some, RuleIn, one_rule, RulesIn, last_rule, more_rules}
use Rattle.names.specs.Known.{Known, KnownRule, Names, good, lookup, optional_type}
use Rattle.names.specs.Resolve.{Place, within, plain_of, selector_of, labels_of, act_of, acts_of, alts_of, other_of}
use Rattle.names.specs.Understand.{taken}
use Rattle.parts.proofs.Numbers.{each_map}
use Rattle.parts.specs.Form.{mark_of, body_cells}
use Rattle.parts.specs.Objects.{Aim, calls_all, open_names, OpenRule, open_rule, open_all}
use Rattle.program.specs.Past.{past_all}
use Rattle.program.specs.Program as means
use Rattle.syntax.specs.Written as written
use Rattle.syntax.specs.Written.{Program}
use Rattle.words.specs.Words.{Word, words_from, words_at, blank, word_here, run}

-- Words that are taken

pub took-less : {k : ℕ} {ws ws' : List Word} {w : Word} → Took k ws w ws' → length ws ≡ suc (length ws')
took-less t = ap length t.here

pub reference-less : {ws ws' : List Word} {w : Word} → Reference ws w ws' → length ws ≡ suc (length ws')
reference-less (by_name t) = took-less t
reference-less (by_string t) = took-less t

pub same-less : {ws ws' : List Word} → ws' ≡ ws → length ws' ≤ length ws
same-less {ws} {ws'} e = let d : length ws' ≡ length ws = ap length e in omega arith

pub constant-less : {ws ws' : List Word} {c : Option written.Constant} → ConstantIn ws ws' c → length ws' ≤ length ws
constant-less (no_constant n e) = same-less e
constant-less (one_constant t r u) = omega (arith, took-less t, reference-less r, took-less u)

pub value-less : {ws ws' : List Word} {v : Option Word} → ValueIn ws ws' v → length ws' ≤ length ws
value-less (no_value n m e) = same-less e
value-less (one_value r) = omega (arith, reference-less r)

pub plain-less : {ws ws' : List Word} {a : written.Plain} → PlainIn ws ws' a → 1 + length ws' ≤ length ws
plain-less (named_in r c) = omega (arith, reference-less r, constant-less c)
plain-less (any_in t) = omega (arith, took-less t)
plain-less (emit_in t r) = omega (arith, took-less t, reference-less r)
plain-less (error_in t r) = omega (arith, took-less t, reference-less r)
plain-less (exit_in t) = omega (arith, took-less t)
plain-less (call_in t u) = omega (arith, took-less t, took-less u)
plain-less (give_in t v) = omega (arith, took-less t, value-less v)
plain-less (ranked_in s w t o) = omega (arith, took-less s, took-less w, took-less t, took-less o)

pub selector-less : {ws ws' : List Word} {s : written.Selector} → SelectorIn ws ws' s → length ws' ≤ length ws
selector-less (token_in n m e) = same-less e
selector-less (rule_inside t u) = omega (arith, took-less t, took-less u)
selector-less (operation_inside t c) = omega (arith, took-less t, constant-less c)

pub labels-less : {ws ws' ls : List Word} → LabelsIn ws ws' ls → length ls + length ws' ≤ length ws
labels-less (last_label r n) = omega (arith, reference-less r)
labels-less (more_labels r t q) = omega (arith, reference-less r, took-less t, labels-less q)

-- Cells that are written

plain-two : (a : means.Plain) (k : List ℕ) → length (plain_cells a k) ≤ 2 + length k
unfolding plain_cells
plain-two (means.match t) k = omega arith
plain-two means.any k = omega arith
plain-two (means.emit t) k = omega arith
plain-two (means.error t) k = omega arith
plain-two means.exit k = omega arith
plain-two (means.call r) k = omega arith
plain-two means.back k = omega arith
plain-two (means.give v) k = omega arith
plain-two (means.update op) k = omega arith
plain-two (means.update_with op v) k = omega arith

selector-two : (s : means.Selector) (k : List ℕ) → length (selector_cells s k) ≤ 2 + length k
unfolding selector_cells
selector-two means.by_token k = omega arith
selector-two (means.by_rule r) k = omega arith
selector-two (means.by_operation op) k = omega arith
selector-two (means.by_operation_with op v) k = omega arith

-- at most two cells for each word, and the end of a list
abbrev InAct : List Word → List Word → means.Act → Type 0
InAct ws ws' a = (k : List ℕ) → length (act_cells a k) + 2 * length ws' ≤ length k + 2 * length ws

abbrev InActs : List Word → List Word → means.Acts → Type 0
InActs ws ws' q = (k : List ℕ) → length (acts_cells q k) + 2 * length ws' ≤ 1 + (length k + 2 * length ws)

abbrev InAlts : List Word → List Word → means.Alts → means.Other → Type 0
InAlts ws ws' q o = (c : ℕ) (k : List ℕ) → length (alts_cells q (other_cells o c k)) + 2 * length ws' ≤ length k + 2 * length ws

module _ (p : Program) (n : Names) (ks : List KnownRule) where
  labels-many : (ws : List Word) (vs : List Known) (seen : List ℕ) → Yields (λ us. length us ≡ length ws) (labels_of p n ks ws vs seen)
  unfolding labels_of
  labels-many [] vs seen = yields (λ us. length us ≡ 0) [] refl
  labels-many (w ∷ ws) vs seen =
      let P : List ℕ → Type 0 = λ us. length us ≡ suc (length ws) in
      next P Any (lookup p vs w) _ (any (lookup p vs w)) (λ v _.
      passed P (member v seen) 6 w _ (λ _.
      next P (λ us. length us ≡ length ws) (labels_of p n ks ws vs (v ∷ seen)) _ (labels-many ws vs (v ∷ seen)) (λ us e. yields P (v ∷ us) (ap suc e))))

  mutual
    unfolding act_cells act_of

    act-bound : {ws ws' : List Word} {a : written.Act} → ActIn ws ws' a → (at : Place) → Yields (InAct ws ws') (act_of p n ks a at)
    act-bound {ws} {ws'} (plain_in {a = a} x) at =
        next (InAct ws ws') Any (plain_of p n ks at a) _ (any (plain_of p n ks at a)) (λ d _.
        yields (InAct ws ws') (plain d) (λ k. omega (arith, plain-two d k, plain-less x)))
    act-bound {ws} {ws'} (cycle_in {ws₁ = ws₁} {ws₂ = ws₂} {b = b} t q u) at =
        next (InAct ws ws') (InActs ws₁ ws₂) (acts_of p n ks b (within at)) _ (acts-bound q (within at)) (λ d h.
        yields (InAct ws ws') (cycle d) (λ k. omega (arith, h k, took-less t, took-less u)))
    act-bound {ws} {ws'} (choice_in {ws₃ = ws₃} {s = s} {q = q} {o = o} t x u r) at =
        next (InAct ws ws') Any (selector_of p n ks s) _ (any (selector_of p n ks s)) (λ c _.
        next (InAct ws ws') (λ y. Yields (InAlts ws₃ ws' y) (other_of p n ks o at)) (alts_of p n ks q at c.labels []) _ (alts-bound r at c.labels []) (λ y g.
        next (InAct ws ws') (InAlts ws₃ ws' y) (other_of p n ks o at) _ g (λ z h.
        yields (InAct ws ws') (choice c.by y z)
        (λ k. omega (arith, h (absent_cell c.by) k, selector-two c.by (alts_cells y (other_cells z (absent_cell c.by) k)), took-less t, took-less u, selector-less x)))))

    pub acts-bound : {ws ws' : List Word} {q : written.Acts} → ActsIn ws ws' q → (at : Place) → Yields (InActs ws ws') (acts_of p n ks q at)
    acts-bound {ws} {ws'} (none_in t e) at = yields (InActs ws ws') done (λ k. omega (arith, same-less e))
    acts-bound {ws} {ws'} (more_in {ws₁ = ws₁} {a = a} {q = q} t x r) at =
        next (InActs ws ws') (InAct ws ws₁) (act_of p n ks a at) _ (act-bound x at) (λ d g.
        next (InActs ws ws') (InActs ws₁ ws') (acts_of p n ks q at) _ (acts-bound r at) (λ b h.
        yields (InActs ws ws') (d ▸ b) (λ k. omega (arith, g (acts_cells b k), h k))))

    alts-bound : {ws ws' : List Word} {room : ℕ} {q : written.Alts} {o : written.Other} → AltsIn ws ws' room q o → (at : Place) (vs : List Known) (seen : List ℕ)
        → Yields (λ x. Yields (InAlts ws ws' x) (other_of p n ks o at)) (alts_of p n ks q at vs seen)
    alts-bound {ws} {ws'} (other_in {ws₂ = ws₂} {ws₃ = ws₃} {b = b} t u q v) at vs seen =
        yields (λ x. Yields (InAlts ws ws' x) (other_of p n ks (otherwise b) at)) nil (
        next (InAlts ws ws' nil) (InActs ws₂ ws₃) (acts_of p n ks b at) _ (acts-bound q at) (λ d h.
        yields (InAlts ws ws' nil) (otherwise d) (λ c k. omega (arith, h k, took-less t, took-less u, took-less v))))
    alts-bound {ws} {ws'} (last_in {ws₁ = ws₁} {ws₂ = ws₂} {ws₃ = ws₃} {ls = ls} {b = b} l few t q u) at vs seen =
        let P : means.Alts → Type 0 = λ x. Yields (InAlts ws ws' x) (other_of p n ks absent at) in
        next P (λ us. length us ≡ length ls) (labels_of p n ks ls vs seen) _ (labels-many ls vs seen) (λ us e.
        next P (InActs ws₂ ws₃) (acts_of p n ks b at) _ (acts-bound q at) (λ d h.
        yields P (alternative us d nil) (
        yields (InAlts ws ws' (alternative us d nil)) absent (λ c k.
        omega (arith, e, h (c ∷ k), length-append us (acts_cells d (c ∷ k)), labels-less l, took-less t, took-less u)))))
    alts-bound {ws} {ws'} (next_in {ws₁ = ws₁} {ws₂ = ws₂} {ws₃ = ws₃} {ws₄ = ws₄} {ls = ls} {b = b} {q = q} {o = o} l few t r u m) at vs seen =
        let P : means.Alts → Type 0 = λ x. Yields (InAlts ws ws' x) (other_of p n ks o at) in
        next P (λ us. length us ≡ length ls) (labels_of p n ks ls vs seen) _ (labels-many ls vs seen) (λ us e.
        next P (InActs ws₂ ws₃) (acts_of p n ks b at) _ (acts-bound r at) (λ d h.
        next P (λ x. Yields (InAlts ws₄ ws' x) (other_of p n ks o at)) (alts_of p n ks q at vs (us ++ seen)) _ (alts-bound m at vs (us ++ seen)) (λ x g.
        yields P (alternative us d x) (λ y y-is c k.
        let k' = alts_cells x (other_cells y c k) in
        omega (arith, e, h k', g y y-is c k, length-append us (acts_cells d k'), labels-less l, took-less t, took-less u)))))

-- Rules

pub acts-cells : (p : Program) (n : Names) (ks : List KnownRule) {ws ws' : List Word} {q : written.Acts} → ActsIn ws ws' q → (at : Place) (b : means.Acts) → acts_of p n ks q at ≡ good b
    → length (acts_cells b []) + 2 * length ws' ≤ 1 + 2 * length ws
acts-cells p n ks x at b e = omega (arith, acts-bound p n ks x at b e [])

pub gives_less : {ws ws' : List Word} {g : Option Word} → GivesIn ws ws' g → length ws' ≤ length ws
gives_less (gives_none n e) = same-less e
gives_less (gives_some t u) = omega (arith, took-less t, took-less u)

-- a rule has its name, its colon and its semicolon too
abbrev pub InRule : List Word → List Word → OpenRule → Type 0
InRule ws ws' o = 5 + (length (acts_cells o.means.body []) + 2 * length ws') ≤ 2 * length ws

module _ (p : Program) (n : Names) (ks : List KnownRule) where
  rule-bound : {ws ws' : List Word} {r : written.Rule} → RuleIn ws ws' r → (seen : List (List ℕ)) → Yields (InRule ws ws') (open_rule p n ks seen r)
  unfolding open_rule
  rule-bound {ws} {ws'} {r} (one_rule {ws₃ = ws₃} {ws₄ = ws₄} t g u q v) seen =
      let P = InRule ws ws' in
      passed P (taken r.rule n seen) 4 r.rule _ (λ _.
      next P Any (optional_type p n.types r.gives) _ (any (optional_type p n.types r.gives)) (λ x _.
      let at : Place = record { inside = false; gives = x } in
      next P (InActs ws₃ ws₄) (acts_of p (open_names n) ks r.body at) _ (acts-bound p (open_names n) ks q at) (λ b h.
      passed P (given x && past_all b) 8 r.closing _ (λ _.
      yields P (record { name = r.rule; gives = r.gives; calls = calls_all r.body; means = record { valued = given x; body = b } })
      (omega (arith, h [], took-less t, gives_less g, took-less u, took-less v))))))

  pub rule-cells : {ws ws' : List Word} {r : written.Rule} → RuleIn ws ws' r → (seen : List (List ℕ)) (o : OpenRule) → open_rule p n ks seen r ≡ good o
      → 5 + (length (acts_cells o.means.body []) + 2 * length ws') ≤ 2 * length ws
  rule-cells x seen o e = rule-bound x seen o e

-- A part's rules

mutual
  act-less : {ws ws' : List Word} {a : written.Act} → ActIn ws ws' a → length ws' ≤ length ws
  act-less (plain_in x) = omega (arith, plain-less x)
  act-less (cycle_in t q u) = omega (arith, took-less t, acts-less q, took-less u)
  act-less (choice_in t s u q) = omega (arith, took-less t, selector-less s, took-less u, alts-less q)

  acts-less : {ws ws' : List Word} {q : written.Acts} → ActsIn ws ws' q → length ws' ≤ length ws
  acts-less (none_in t e) = same-less e
  acts-less (more_in t x q) = omega (arith, act-less x, acts-less q)

  alts-less : {ws ws' : List Word} {room : ℕ} {q : written.Alts} {o : written.Other} → AltsIn ws ws' room q o → length ws' ≤ length ws
  alts-less (other_in t u q v) = omega (arith, took-less t, took-less u, acts-less q, took-less v)
  alts-less (last_in l few t q u) = omega (arith, labels-less l, took-less t, acts-less q, took-less u)
  alts-less (next_in l few t q u r) = omega (arith, labels-less l, took-less t, acts-less q, took-less u, alts-less r)

rule-less : {ws ws' : List Word} {r : written.Rule} → RuleIn ws ws' r → 3 + length ws' ≤ length ws
rule-less (one_rule t g u q v) = omega (arith, took-less t, gives_less g, took-less u, acts-less q, took-less v)

-- each has a word for its name, its colon and its semicolon
pub rules-less : {ws ws' : List Word} {rs : List written.Rule} → RulesIn ws ws' rs → 3 * length rs + length ws' ≤ length ws
rules-less (last_rule x m) = omega (arith, rule-less x)
rules-less (more_rules x e q) = omega (arith, rule-less x, rules-less q)

behind-less : {ws ws' : List Word} {rs : List written.Rule} → RulesIn ws ws' rs → length ws' ≤ length ws
behind-less {rs = rs} q = omega (arith, rules-less q)

module _ (p : Program) (n : Names) (ks : List KnownRule) where
  pub rules-cells : {ws ws' : List Word} {rs : List written.Rule} → RulesIn ws ws' rs → (seen : List (List ℕ)) → Yields (Each (InRule ws ws')) (open_all p n ks seen rs)
  unfolding open_all Each
  rules-cells {ws} {ws'} (last_rule {r = r} x m) seen =
      let P = Each (InRule ws ws') in
      next P (InRule ws ws') (open_rule p n ks seen r) _ (rule-bound p n ks x seen) (λ o h. yields P (o ∷ []) (h, tt))
  rules-cells {ws} {ws'} (more_rules {ws₁ = ws₁} {r = r} {rs = rs} x e q) seen =
      let P = Each (InRule ws ws') in
      next P (InRule ws ws₁) (open_rule p n ks seen r) _ (rule-bound p n ks x seen) (λ o h.
      next P (Each (InRule ws₁ ws')) (open_all p n ks (r.rule.text ∷ seen) rs) _ (rules-cells q (r.rule.text ∷ seen)) (λ os g.
      yields P (o ∷ os) (omega (arith, h, behind-less q), each_map (InRule ws₁ ws') (InRule ws ws') os (λ o₁ k. omega (arith, k, rule-less x)) g)))

-- the calls' numbers are one cell each, whatever they are

module _ (to : ℕ → ℕ) where
  plain-as-long : (a : means.Plain) (k k' : List ℕ) → length k ≡ length k' → length (plain_cells (renumber_plain to a) k) ≡ length (plain_cells a k')
  unfolding plain_cells renumber_plain
  plain-as-long (means.match t) k k' e = omega arith
  plain-as-long means.any k k' e = omega arith
  plain-as-long (means.emit t) k k' e = omega arith
  plain-as-long (means.error t) k k' e = omega arith
  plain-as-long means.exit k k' e = omega arith
  plain-as-long (means.call r) k k' e = omega arith
  plain-as-long means.back k k' e = omega arith
  plain-as-long (means.give v) k k' e = omega arith
  plain-as-long (means.update op) k k' e = omega arith
  plain-as-long (means.update_with op v) k k' e = omega arith

  selector-as-long : (s : means.Selector) (k k' : List ℕ) → length k ≡ length k' → length (selector_cells (renumber_selector to s) k) ≡ length (selector_cells s k')
  unfolding selector_cells renumber_selector
  selector-as-long means.by_token k k' e = omega arith
  selector-as-long (means.by_rule r) k k' e = omega arith
  selector-as-long (means.by_operation op) k k' e = omega arith
  selector-as-long (means.by_operation_with op v) k k' e = omega arith

  mutual
    unfolding act_cells renumber

    act-as-long : (a : means.Act) (k k' : List ℕ) → length k ≡ length k' → length (act_cells (renumber to a) k) ≡ length (act_cells a k')
    act-as-long (plain a) k k' e = plain-as-long a k k' e
    act-as-long (cycle b) k k' e = ap suc (acts-as-long b k k' e)
    act-as-long (choice s q o) k k' e = selector-as-long s _ _ (alts-as-long q _ _ (other-as-long o (absent_cell (renumber_selector to s)) (absent_cell s) k k' e))

    acts-as-long : (q : means.Acts) (k k' : List ℕ) → length k ≡ length k' → length (acts_cells (renumbers to q) k) ≡ length (acts_cells q k')
    acts-as-long done k k' e = ap suc e
    acts-as-long (a ▸ q) k k' e = act-as-long a _ _ (acts-as-long q k k' e)

    alts-as-long : (q : means.Alts) (k k' : List ℕ) → length k ≡ length k' → length (alts_cells (renumber_alts to q) k) ≡ length (alts_cells q k')
    alts-as-long nil k k' e = e
    alts-as-long (alternative ls b q) k k' e =
        let f = acts-as-long b (alts_cells (renumber_alts to q) k) (alts_cells q k') (alts-as-long q k k' e) in
        omega (arith, f, length-append ls (acts_cells (renumbers to b) (alts_cells (renumber_alts to q) k)), length-append ls (acts_cells b (alts_cells q k')))

    other-as-long : (o : means.Other) (c c' : ℕ) (k k' : List ℕ) → length k ≡ length k' → length (other_cells (renumber_other to o) c k) ≡ length (other_cells o c' k')
    other-as-long absent c c' k k' e = ap suc e
    other-as-long (otherwise b) c c' k k' e = ap suc (acts-as-long b k k' e)

pub renumbered-length : (to : ℕ → ℕ) (q : means.Acts) → length (acts_cells (renumbers to q) []) ≡ length (acts_cells q [])
renumbered-length to q = acts-as-long to q [] [] refl

-- so the cells with marks are as many
pub body-length : (aims : List Aim) (first : ℕ) (b : means.Acts) → length (body_cells aims first b) ≡ length (acts_cells b [])
unfolding body_cells
body-length aims first b = renumbered-length (mark_of aims first) b

-- How many words a text has

few-if : (t : Bool) (n : ℕ) (x y : List Word) → length x ≤ n → length y ≤ n → length (if t then x else y) ≤ n
few-if true n x y h g = h
few-if false n x y h g = g

words-few : (s : List ℕ) (skip at : ℕ) → length (words_from skip at s) ≤ 1 + length s
unfolding words_from
words-few [] skip at = omega arith
words-few (b ∷ s) (suc m) at = omega (arith, words-few s m (suc at))
words-few (b ∷ s) zero at =
    let h : (skip : ℕ) → length (words_from skip (suc at) s) ≤ 1 + suc (length s) = λ skip. omega (arith, words-few s skip (suc at)) in
    few-if (blank b) _ _ _ (h 0)
    (few-if (eqb b 37) _ _ _ (h (run (λ c. not (eqb c 10)) s))
    (few-if (eqb (word_here b s).kind 0) _ _ _ (omega arith) (omega (arith, words-few s ((word_here b s).size - 1) (suc at)))))

pub words-at-few : (text : List ℕ) (at : ℕ) → length (words_at text at) ≤ 1 + (length text - at)
unfolding words_at
words-at-few text at = omega (arith, words-few (drop at text) 0 at, length-drop at text)

-- A part's text has at most 32,768 bytes, so that 65,536 cells are room for any rule of it

pub acts-fit : (p : Program) (n : Names) (ks : List KnownRule) (text : List ℕ) (at : ℕ) {ws : List Word} {q : written.Acts} → ActsIn (words_at text at) ws q → length text ≤ at + 32766
    → (place : Place) (b : means.Acts) → acts_of p n ks q place ≡ good b → length (acts_cells b []) ≤ 65535
acts-fit p n ks text at x h place b e = omega (arith, acts-cells p n ks x place b e, words-at-few text at)

pub rule_fits : (p : Program) (n : Names) (ks : List KnownRule) (text : List ℕ) (at : ℕ) {ws : List Word} {r : written.Rule} → RuleIn (words_at text at) ws r → length text ≤ at + 32768
    → (seen : List (List ℕ)) (o : OpenRule) → open_rule p n ks seen r ≡ good o → length (acts_cells o.means.body []) ≤ 65533
rule_fits p n ks text at x h seen o e = omega (arith, rule-cells p n ks x seen o e, words-at-few text at)
