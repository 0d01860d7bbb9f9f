-- No part's object has too many words: names are words of its text, which share no byte of it, and a rule has at most two cells for each of its words.
use mathlib.Core.Bool.{Bool, true, false, not, ◌&&◌}
use mathlib.Core.List.{List, [], ◌∷◌, ◌++◌}
use mathlib.Core.Option.{Option, none, some}
use mathlib.Core.Path.{◌≡◌, refl, ap, subst}
use Prim.Native.Nat.{ℕ, zero, suc, ◌+◌, ◌*◌, ◌-◌, ◌≤◌, min}
use native.Mathlib.Omega.{arith}
use lib.Dec.{eqb}
use lib.ListN.{length, length-append, length-take}
use borrow.Author.Tests.{ltb-false}
use Rattle.acceptance.proofs.CheckLaws.{Yields, yields, passed, Any, any}
use Rattle.acceptance.proofs.CheckLaws as check
use Rattle.std.specs.Prelude.{if◌then◌else◌}
use Rattle.base.specs.Common.{given}
use Rattle.cells.specs.Cells.{acts_cells}
use Rattle.grammar.proofs.Laws.{From, bind, next, gives, expects, expects-kind}
use Rattle.grammar.proofs.ProgramIn.{rules-from}
use Rattle.grammar.specs.Derived.{Took, Reference, by_name, by_string, ConstantIn, no_constant, one_constant, ValueIn, no_value, one_value, PlainIn, named_in, any_in, emit_in, error_in, exit_in, call_in, give_in, ranked_in, SelectorIn, token_in, rule_inside, operation_inside, LabelsIn, last_label, more_labels, ActIn, plain_in, cycle_in, choice_in, ActsIn, none_in, more_in, AltsIn, other_in, last_in, next_in, GivesIn, gives_none, gives_some, RuleIn, one_rule, RulesIn, last_rule, more_rules}
use Rattle.names.specs.Known.{KnownRule, Names, optional_type}
use Rattle.names.specs.Resolve.{Place, acts_of}
use Rattle.names.specs.Understand.{taken}
use Rattle.names.specs.Uses.{Use, plain_uses, act_uses, acts_uses, alts_uses, other_uses, rules_uses, is_used, firsts, pairs_of}
use Rattle.parts.proofs.Bound.{took-less, gives_less, acts-cells, body-length}
use Rattle.parts.proofs.Linking.{object_of}
use Rattle.parts.specs.Form.{name_words, type_words, names_words, body_cells, rule_words, rules_words, uses_words, first_pair}
use Rattle.parts.specs.Objects.{Aim, call_of, selects, calls, calls_all, calls_some, calls_other, aims_of, open_names, OpenRule, Object, Translated, object, in_common, in_part, open_rule, open_all, meaning, unless_past, read_on, read_both, translate}
use Rattle.processor.specs.Process.{Part}
use Rattle.program.specs.Past.{past_all}
use Rattle.separate.specs.Objects.{Countable}
use Rattle.syntax.specs.Parse.{some_rules}
use Rattle.syntax.specs.Reading.{Read, got, fault, expect}
use Rattle.syntax.specs.Texts.{Common, too_long, read_common, a_part, read_part}
use Rattle.syntax.specs.Written as written
use Rattle.syntax.specs.Written.{Program}
use Rattle.words.specs.Words.{Word, words, words_from, blank, word_here, run, last, rules, end}

-- What words weigh: six each and one more for each of their bytes. What an object has of a word is no more than it weighs.

unfoldable weight : List Word → ℕ
weight [] = 0
weight (w ∷ ws) = 6 + (length w.text + weight ws)

light-if : (t : Bool) (n : ℕ) (x y : List Word) → weight x ≤ n → weight y ≤ n → weight (if t then x else y) ≤ n
light-if true n x y h g = h
light-if false n x y h g = g

words-light : (s : List ℕ) (skip at : ℕ) → weight (words_from skip at s) ≤ 6 + 7 * (length s - skip)
unfolding words_from weight
words-light [] skip at = omega arith
words-light (b ∷ s) (suc m) at = omega (arith, words-light s m (suc at))
words-light (b ∷ s) zero at =
    let h : (skip : ℕ) → weight (words_from skip (suc at) s) ≤ 6 + 7 * suc (length s) = λ skip. omega (arith, words-light s skip (suc at)) in
    let n = (word_here b s).size in
    let g : weight (words_from 0 at (b ∷ s)) ≤ 6 + 7 * suc (length s) =
    light-if (blank b) _ _ _ (h 0)
    (light-if (eqb b 37) _ _ _ (h (run (λ c. not (eqb c 10)) s))
    (light-if (eqb (word_here b s).kind 0) _ _ _ (omega (arith, length-take n (b ∷ s))) (omega (arith, length-take n (b ∷ s), words-light s (n - 1) (suc at))))) in
    omega (arith, g)

six-each : (ws : List Word) → 6 * length ws ≤ weight ws
unfolding weight
six-each [] = omega arith
six-each (w ∷ ws) = omega (arith, six-each ws)

-- Words that are taken

took : {k : ℕ} {ws ws' : List Word} {w : Word} → Took k ws w ws' → weight ws ≡ 6 + (length w.text + weight ws')
unfolding weight
took t = ap weight t.here

reference : {ws ws' : List Word} {w : Word} → Reference ws w ws' → weight ws ≡ 6 + (length w.text + weight ws')
reference (by_name t) = took t
reference (by_string t) = took t

same : {ws ws' : List Word} → ws' ≡ ws → weight ws' ≡ weight ws
same e = ap weight e

constant : {ws ws' : List Word} {c : Option written.Constant} → ConstantIn ws ws' c → weight ws' ≤ weight ws
constant (no_constant n e) = omega (arith, same e)
constant (one_constant t r u) = omega (arith, took t, reference r, took u)

value : {ws ws' : List Word} {v : Option Word} → ValueIn ws ws' v → weight ws' ≤ weight ws
value (no_value n m e) = omega (arith, same e)
value (one_value r) = omega (arith, reference r)

labels : {ws ws' ls : List Word} → LabelsIn ws ws' ls → weight ws' ≤ weight ws
labels (last_label r n) = omega (arith, reference r)
labels (more_labels r t q) = omega (arith, reference r, took t, labels q)

-- Names of calls

names-append : (ws vs : List Word) → length (names_words (ws ++ vs)) ≡ length (names_words ws) + length (names_words vs)
unfolding names_words name_words
names-append [] vs = omega arith
names-append (w ∷ ws) vs = omega (arith, length-append w.text (names_words (ws ++ vs)), length-append w.text (names_words ws), names-append ws vs)

one_name_lem : (w : Word) → length (names_words (w ∷ [])) ≡ 2 + length w.text
unfolding names_words name_words
one_name_lem w = omega (arith, length-append w.text [])

call-names : {ws ws' : List Word} {a : written.Plain} → PlainIn ws ws' a → length (names_words (call_of a)) + weight ws' ≤ weight ws
unfolding call_of names_words
call-names (named_in r c) = omega (arith, reference r, constant c)
call-names (any_in t) = omega (arith, took t)
call-names (emit_in t r) = omega (arith, took t, reference r)
call-names (error_in t r) = omega (arith, took t, reference r)
call-names (exit_in t) = omega (arith, took t)
call-names (call_in {w = w} t u) = omega (arith, took t, took u, one_name_lem w)
call-names (give_in t v) = omega (arith, took t, value v)
call-names (ranked_in {o = o} s w t u) = omega (arith, took s, took w, took t, took u, one_name_lem o)

select-names : {ws ws' : List Word} {s : written.Selector} → SelectorIn ws ws' s → length (names_words (selects s)) + weight ws' ≤ weight ws
unfolding selects names_words
select-names (token_in n m e) = omega (arith, same e)
select-names (rule_inside {w = w} t u) = omega (arith, took t, took u, one_name_lem w)
select-names (operation_inside t c) = omega (arith, took t, constant c)

mutual
  unfolding calls names_words

  act-names : {ws ws' : List Word} {a : written.Act} → ActIn ws ws' a → length (names_words (calls a)) + weight ws' ≤ weight ws
  act-names (plain_in x) = call-names x
  act-names (cycle_in t q u) = omega (arith, took t, acts-names q, took u)
  act-names (choice_in {s = s} {q = q} {o = o} t x u r) =
      omega (arith, took t, select-names x, took u, alts-names r, names-append (selects s) (calls_some q ++ calls_other o), names-append (calls_some q) (calls_other o))

  acts-names : {ws ws' : List Word} {q : written.Acts} → ActsIn ws ws' q → length (names_words (calls_all q)) + weight ws' ≤ weight ws
  acts-names (none_in t e) = omega (arith, same e)
  acts-names (more_in {a = a} {q = q} t x r) = omega (arith, act-names x, acts-names r, names-append (calls a) (calls_all q))

  alts-names : {ws ws' : List Word} {room : ℕ} {q : written.Alts} {o : written.Other} → AltsIn ws ws' room q o
      → length (names_words (calls_some q)) + length (names_words (calls_other o)) + weight ws' ≤ weight ws
  alts-names (other_in t u q v) = omega (arith, took t, took u, acts-names q, took v)
  alts-names (last_in {b = b} l few t q u) = omega (arith, labels l, took t, acts-names q, took u, names-append (calls_all b) [])
  alts-names (next_in {b = b} {q = q} l few t r u m) = omega (arith, labels l, took t, acts-names r, took u, alts-names m, names-append (calls_all b) (calls_some q))

-- Uses of operators

use-words : (s w o : Word) (us : List Use)
    → length (uses_words (record { sign = s; section = w; operand = o } ∷ us)) ≡ 6 + (length w.text + (length o.text + length (uses_words us)))
unfolding uses_words name_words
use-words s w o us = omega (arith, length-append w.text (name_words o ++ uses_words us), length-append o.text (uses_words us))

plain-uses : {ws ws' : List Word} {a : written.Plain} → PlainIn ws ws' a → (k : List Use) → length (uses_words (plain_uses a k)) + weight ws' ≤ length (uses_words k) + weight ws
unfolding plain_uses
plain-uses (named_in r c) k = omega (arith, reference r, constant c)
plain-uses (any_in t) k = omega (arith, took t)
plain-uses (emit_in t r) k = omega (arith, took t, reference r)
plain-uses (error_in t r) k = omega (arith, took t, reference r)
plain-uses (exit_in t) k = omega (arith, took t)
plain-uses (call_in t u) k = omega (arith, took t, took u)
plain-uses (give_in t v) k = omega (arith, took t, value v)
plain-uses (ranked_in {s = s} {w = w} {o = o} t u v x) k = omega (arith, took t, took u, took v, took x, use-words s w o k)

selector : {ws ws' : List Word} {s : written.Selector} → SelectorIn ws ws' s → weight ws' ≤ weight ws
selector x = omega (arith, select-names x)

mutual
  unfolding act_uses

  act-uses : {ws ws' : List Word} {a : written.Act} → ActIn ws ws' a → (k : List Use) → length (uses_words (act_uses a k)) + weight ws' ≤ length (uses_words k) + weight ws
  act-uses (plain_in x) k = plain-uses x k
  act-uses (cycle_in t q u) k = omega (arith, took t, acts-uses q k, took u)
  act-uses (choice_in t x u r) k = omega (arith, took t, selector x, took u, alts-uses r k)

  acts-uses : {ws ws' : List Word} {q : written.Acts} → ActsIn ws ws' q → (k : List Use) → length (uses_words (acts_uses q k)) + weight ws' ≤ length (uses_words k) + weight ws
  acts-uses (none_in t e) k = omega (arith, same e)
  acts-uses (more_in {q = q} t x r) k = omega (arith, act-uses x (acts_uses q k), acts-uses r k)

  alts-uses : {ws ws' : List Word} {room : ℕ} {q : written.Alts} {o : written.Other} → AltsIn ws ws' room q o → (k : List Use)
      → length (uses_words (alts_uses q (other_uses o k))) + weight ws' ≤ length (uses_words k) + weight ws
  alts-uses (other_in t u q v) k = omega (arith, took t, took u, acts-uses q k, took v)
  alts-uses (last_in l few t q u) k = omega (arith, labels l, took t, acts-uses q k, took u)
  alts-uses (next_in {q = q} {o = o} l few t r u m) k = omega (arith, labels l, took t, acts-uses r (alts_uses q (other_uses o k)), took u, alts-uses m k)

type-words : {ws ws' : List Word} {g : Option Word} → GivesIn ws ws' g → length (type_words g) + weight ws' ≤ 1 + weight ws
unfolding type_words name_words
type-words (gives_none n e) = omega (arith, same e)
type-words (gives_some t u) = omega (arith, took t, took u)

rule-uses : {ws ws' : List Word} {r : written.Rule} → RuleIn ws ws' r → (k : List Use) → length (uses_words (acts_uses r.body k)) + weight ws' ≤ length (uses_words k) + weight ws
rule-uses (one_rule t g u q v) k = omega (arith, took t, type-words g, took u, acts-uses q k, took v)

rules-uses : {ws ws' : List Word} {rs : List written.Rule} → RulesIn ws ws' rs → length (uses_words (rules_uses rs)) + weight ws' ≤ weight ws
unfolding rules_uses uses_words
rules-uses (last_rule x n) = omega (arith, rule-uses x [])
rules-uses (more_rules {rs = rs} x e q) = omega (arith, rule-uses x (rules_uses rs), rules-uses q)

firsts-fewer : (seen us : List Use) → length (uses_words (firsts seen us)) ≤ length (uses_words us)
unfolding firsts
firsts-fewer seen [] = omega arith
firsts-fewer seen (u ∷ us) = go (is_used u seen) (firsts seen us) (firsts (u ∷ seen) us) (firsts-fewer seen us) (firsts-fewer (u ∷ seen) us)
  where
    go : (t : Bool) (x y : List Use) → length (uses_words x) ≤ length (uses_words us) → length (uses_words y) ≤ length (uses_words us)
        → length (uses_words (if t then x else u ∷ y)) ≤ length (uses_words (u ∷ us))
    go true x y h g = omega (arith, h, use-words u.sign u.section u.operand us)
    go false x y h g = omega (arith, g, use-words u.sign u.section u.operand us, use-words u.sign u.section u.operand y)

pairs-words : {ws ws' : List Word} {rs : List written.Rule} → RulesIn ws ws' rs → length (uses_words (pairs_of rs)) ≤ weight ws
unfolding pairs_of
pairs-words {rs = rs} q = omega (arith, rules-uses q, firsts-fewer [] (rules_uses rs))

-- Rules

module _ (aims : List Aim) (first : ℕ) where
  rule-words : (o : OpenRule)
      → length (rule_words aims first o) ≡ 4 + (length o.name.text + (length (type_words o.gives) + (length (names_words o.calls) + length (acts_cells o.means.body []))))
  unfolding rule_words name_words
  rule-words o =
      let cells = body_cells aims first o.means.body in
      let named = names_words o.calls ++ (length cells ∷ cells) in
      let typed = type_words o.gives ++ (length o.calls ∷ named) in
      omega (
        arith,
        length-append o.name.text typed,
        length-append (type_words o.gives) (length o.calls ∷ named),
        length-append (names_words o.calls) (length cells ∷ cells),
        body-length aims first o.means.body,
      )

  abbrev InRule : List Word → List Word → OpenRule → Type 0
  InRule ws ws' o = length (rule_words aims first o) + (weight ws' + 2 * length ws') ≤ weight ws + 2 * length ws

  abbrev InRules : List Word → List Word → List OpenRule → Type 0
  InRules ws ws' os = length (rules_words aims first os) + (weight ws' + 2 * length ws') ≤ weight ws + 2 * length ws

  module _ (p : Program) (n : Names) (ks : List KnownRule) where
    rule-bound : {ws ws' : List Word} {r : written.Rule} → RuleIn ws ws' r → (seen : List (List ℕ)) → Yields (InRule ws ws') (open_rule p n ks seen r)
    unfolding open_rule
    rule-bound {ws} {ws'} {r} (one_rule {ws₃ = ws₃} {ws₄ = ws₄} t g u q v) seen =
        let P = InRule ws ws' in
        passed P (taken r.rule n seen) 4 r.rule _ (λ _.
        check.next P Any (optional_type p n.types r.gives) _ (any (optional_type p n.types r.gives)) (λ x _.
        let at : Place = record { inside = false; gives = x } in
        check.next P (λ b. length (acts_cells b []) + 2 * length ws₄ ≤ 1 + 2 * length ws₃) (acts_of p (open_names n) ks r.body at) _ (acts-cells p (open_names n) ks q at) (λ b h.
        passed P (given x && past_all b) 8 r.closing _ (λ _.
        let o : OpenRule = record { name = r.rule; gives = r.gives; calls = calls_all r.body; means = record { valued = given x; body = b } } in
        yields P o
        (omega (arith, rule-words o, h, took t, type-words g, took u, acts-names q, took v, took-less t, gives_less g, took-less u, took-less v))))))

    rules-bound : {ws ws' : List Word} {rs : List written.Rule} → RulesIn ws ws' rs → (seen : List (List ℕ)) → Yields (InRules ws ws') (open_all p n ks seen rs)
    unfolding open_all rules_words
    rules-bound {ws} {ws'} (last_rule {r = r} x m) seen =
        let P = InRules ws ws' in
        check.next P (InRule ws ws') (open_rule p n ks seen r) _ (rule-bound x seen) (λ o h. yields P (o ∷ []) (omega (arith, h, length-append (rule_words aims first o) [])))
    rules-bound {ws} {ws'} (more_rules {ws₁ = ws₁} {r = r} {rs = rs} x e q) seen =
        let P = InRules ws ws' in
        check.next P (InRule ws ws₁) (open_rule p n ks seen r) _ (rule-bound x seen) (λ o h.
        check.next P (InRules ws₁ ws') (open_all p n ks (r.rule.text ∷ seen) rs) _ (rules-bound q (r.rule.text ∷ seen)) (λ os g.
        yields P (o ∷ os) (omega (arith, h, g, length-append (rule_words aims first o) (rules_words aims first os)))))

-- A part

record Inside (ws : List Word) (rs : List written.Rule) : Type 0 where
  first : List Word
  after : List Word
  lighter : weight first ≤ weight ws
  rules_in : RulesIn first after rs

inside : {ws : List Word} (k left : ℕ) → From ws (a_part k left) (λ _ rs. Inside ws rs)
unfolding a_part
inside k left =
    next (expect rules) _ (expects 265 refl) (λ ws₁ w t.
    bind (some_rules k (min 128 left)) _ (rules-from k (min 128 left)) (λ ws₂ rs m.
    next (expect end) _ (expects-kind end) (λ ws₃ _ _.
    next (expect last) _ (expects-kind last) (λ ws₄ _ _.
    gives rs (record { first = ws₁; after = ws₂; lighter = omega (arith, took t); rules_in = m.rules_in })))))

read-inside : (left : ℕ) (text : List ℕ) (rs : List written.Rule) (rest : List Word) → read_part left text ≡ got rs rest → Inside (words text) rs
unfolding read_part
read-inside left text rs rest e = (inside (length text + 1) left).holds rest rs e

text-light : (text : List ℕ) → weight (words text) ≤ 6 + 7 * length text
unfolding words
text-light text = omega (arith, words-light text 0 0)

meaning-countable : (c : Common) (left : ℕ) (part : List ℕ) (rs : List written.Rule) (rest : List Word) (o : Object) → length part ≤ 32768 → read_part left part ≡ got rs rest → meaning c rs ≡ object o → Countable o
meaning-countable c left part rs rest o h e m =
    let x = object_of c rs o m in
    let i = read-inside left part rs rest e in
    let made : Object = record { rules = x.rules; uses = pairs_of rs; aims = aims_of c.listed rs } in
    let counted : Countable made =
    omega (arith, h, pairs-words i.rules_in, rules-bound (aims_of c.listed rs) (first_pair made) _ x.names _ i.rules_in [] x.rules x.opens, i.lighter, six-each i.first, text-light part) in
    subst Countable x.is counted

-- The whole

no-object {ℓ} : {A : Type ℓ} {n : ℕ} {at : Part} {o : Object} → in_common n at ≡ object o → A
no-object e = let z : ◌≡◌ {A = ℕ} 0 1 = cc in absurd (omega arith)

no-object' {ℓ} : {A : Type ℓ} {n : ℕ} {at : Part} {o : Object} → in_part n at ≡ object o → A
no-object' e = let z : ◌≡◌ {A = ℕ} 0 1 = cc in absurd (omega arith)

not-past : (x : Option Word) (t : Translated) {o : Object} → unless_past x t ≡ object o → t ≡ object o
unfolding unless_past
not-past none t e = e
not-past (some w) t e = no-object' e

short : (text : List ℕ) → too_long text ≡ false → length text ≤ 32768
unfolding too_long
short text e = ltb-false 32768 (length text) e

pub countable : (common part : List ℕ) (o : Object) → translate common part ≡ object o → Countable o
unfolding translate read_both read_on
countable common part o e = one (too_long common) refl
  where
    four : (c : Common) → length part ≤ 32768 → (x : Read (List written.Rule)) → read_part c.left part ≡ x → read_on c x ≡ object o → Countable o
    four c h (got rs vs) f g = meaning-countable c c.left part rs vs o h f (not-past _ (meaning c rs) g)
    four c h (fault n w) f g = no-object' g

    three : length part ≤ 32768 → (x : Read Common) → read_both x part ≡ object o → Countable o
    three h (got c ws) g = four c h (read_part c.left part) refl g
    three h (fault n w) g = no-object g

    two : (b : Bool) → too_long part ≡ b → too_long common ≡ false → Countable o
    two true f a = no-object' (rw (translate, a, f) at e)
    two false f a = three (short part f) (read_common common) (rw (translate, a, f) at e)

    one : (b : Bool) → too_long common ≡ b → Countable o
    one true a = no-object (rw (translate, a) at e)
    one false a = two (too_long part) refl a
