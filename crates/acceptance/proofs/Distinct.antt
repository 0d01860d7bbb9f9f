-- What the checks for 6 and 45 leave: no label stands twice in a choice of a program that a text means, in the rules made for operators neither.
use mathlib.Core.Bool.{Bool, true, false, ◌&&◌, ◌||◌, not}
use mathlib.Core.List.{List, [], ◌∷◌, ◌++◌}
use mathlib.Core.Logic.{inl, inr}
use mathlib.Core.Option.{some}
use mathlib.Core.Path.{◌≡◌, refl, sym, ◌∙◌}
use Prim.Native.Nat.{ℕ}
use lib.Dec.{eqb}
use lib.ListN.{length}
use borrow.Author.Tests.{eqb-true, eq-eqb}
use Rattle.acceptance.proofs.Accepts.{understood-has}
use Rattle.acceptance.proofs.CheckLaws.{Yields, yields, next, passed, Any, any}
use Rattle.acceptance.proofs.Listed.{Distinct, AllLevels, sections-levels, used-have}
use Rattle.acceptance.proofs.NamesOk.{each_append, levels-have}
use Rattle.acceptance.proofs.Shape.{Each}
use Rattle.acceptance.proofs.Used.{made-have}
use Rattle.base.proofs.Laws.{neither, is_false, member-append}
use Rattle.base.specs.Bools.{never, or, and, both}
use Rattle.std.specs.Prelude.{if◌then◌else◌}
use Rattle.base.specs.Common.{member, given}
use Rattle.base.specs.Tree.{plain, cycle, choice, done, ◌▸◌, nil, alternative, absent, otherwise}
use Rattle.names.specs.Declare.{listed, declare_sections, known_rules}
use Rattle.names.specs.Known.{Known, KnownRule, Names, lookup, optional_type}
use Rattle.names.specs.Resolve.{Place, within, plain_of, selector_of, labels_of, act_of, acts_of, alts_of, other_of}
use Rattle.names.specs.Understand.{nobody, taken, is_first, rule_means, rules_mean, understand}
use Rattle.names.specs.Uses.{pairs_of, made_for}
use Rattle.processor.specs.Process.{meaning, understood}
use Rattle.program.specs.Labels.{once, labels_in, distinct, distinct_all, distinct_some, distinct_other, distinct_labels}
use Rattle.program.specs.Made.{Operator, Level, at_level, operator_alts, level_body, level_rule}
use Rattle.program.specs.Past.{past_all}
use Rattle.program.specs.Program as means
use Rattle.program.specs.Program.{Rule}
use Rattle.syntax.specs.Sections.{names_in_all}
use Rattle.syntax.specs.Written as written
use Rattle.syntax.specs.Written.{Program}
use Rattle.words.specs.Words.{Word}

-- Labels after those seen

record Fresh (seen vs : List ℕ) : Type 0 where
  alone : once vs ≡ true
  new : (x : ℕ) → member x vs ≡ true → member x seen ≡ false

not-true : (b : Bool) → b ≡ false → not b ≡ true
not-true true e = never (sym e)
not-true false e = refl

-- one that is not among them, then more
fresh-more : (v : ℕ) (seen vs : List ℕ) → member v seen ≡ false → Fresh (v ∷ seen) vs → Fresh seen (v ∷ vs)
unfolding once
fresh-more v seen vs h f = record {
  alone = both (not (member v vs)) (once vs) (not-true (member v vs) (is_false (member v vs) (λ t. never (sym (f.new v t) ∙ here)))) f.alone;
  new = λ x t. go x (eqb x v) refl t;
}
  where
    here : member v (v ∷ seen) ≡ true
    here = rw (eq-eqb v v refl)

    later : (x : ℕ) (b : Bool) → (if b then true else member x seen) ≡ false → member x seen ≡ false
    later x true e = never (sym e)
    later x false e = e

    go : (x : ℕ) (b : Bool) → eqb x v ≡ b → (if b then true else member x vs) ≡ true → member x seen ≡ false
    go x true e t = rw (eqb-true x v e) h
    go x false e t = later x (eqb x v) (f.new x t)

once-append : (vs ls : List ℕ) → once vs ≡ true → once ls ≡ true → ((x : ℕ) → member x ls ≡ true → member x vs ≡ false) → once (vs ++ ls) ≡ true
unfolding once
once-append [] ls a b h = b
once-append (v ∷ vs) ls a b h =
    let x = and (not (member v vs)) (once vs) a in
    both (not (member v (vs ++ ls))) (once (vs ++ ls)) (not-true (member v (vs ++ ls)) (member-append v vs ls ∙ none_of (member v vs) x.0 (is_false (member v ls) (λ t. never (sym (h v t) ∙ here)))))
    (once-append vs ls x.1 b (λ y t. later y (eqb y v) (h y t)))
  where
    here : member v (v ∷ vs) ≡ true
    here = rw (eq-eqb v v refl)

    none_of : (b : Bool) {c : Bool} → not b ≡ true → c ≡ false → (b || c) ≡ false
    none_of true e f = never e
    none_of false e f = f

    later : (y : ℕ) (b : Bool) → (if b then true else member y vs) ≡ false → member y vs ≡ false
    later y true e = never (sym e)
    later y false e = e

-- those of an alternative, then those of the later ones
fresh-append : (seen vs ls : List ℕ) → Fresh seen vs → Fresh (vs ++ seen) ls → Fresh seen (vs ++ ls)
fresh-append seen vs ls f g = record {
  alone = once-append vs ls f.alone g.alone (λ x t. (apart x t).0);
  new = λ x t. elim (or (member x vs) (member x ls) (sym (member-append x vs ls) ∙ t)) [ inl u ↦ f.new x u | inr u ↦ (apart x u).1 ];
}
  where
    apart : (x : ℕ) → member x ls ≡ true → (member x vs ≡ false) × (member x seen ≡ false)
    apart x t = neither (member x vs) (member x seen) (sym (member-append x vs seen) ∙ g.new x t)

-- A rule's actions

abbrev Once : Rule → Type 0
Once m = distinct_all m.body ≡ true

module _ (p : Program) (n : Names) (rules : List KnownRule) where
  labels-fresh : (ws : List Word) (ks : List Known) (seen : List ℕ) → Yields (Fresh seen) (labels_of p n rules ws ks seen)
  unfolding labels_of once
  labels-fresh [] ks seen = yields (Fresh seen) [] (record { alone = refl; new = λ x t. never t })
  labels-fresh (w ∷ ws) ks seen =
      next (Fresh seen) Any (lookup p ks w) _ (any (lookup p ks w)) (λ v _.
      passed (Fresh seen) (member v seen) 6 w _ (λ h.
      next (Fresh seen) (Fresh (v ∷ seen)) (labels_of p n rules ws ks (v ∷ seen)) _ (labels-fresh ws ks (v ∷ seen)) (λ vs f.
      yields (Fresh seen) (v ∷ vs) (fresh-more v seen vs h f))))

  abbrev AltsOnce : List ℕ → means.Alts → Type 0
  AltsOnce seen m = (distinct_some m ≡ true) × Fresh seen (labels_in m)

  mutual
    unfolding act_of distinct labels_in once

    act-once : (a : written.Act) (at : Place) → Yields (λ m. distinct m ≡ true) (act_of p n rules a at)
    act-once (plain a) at = next (λ m. distinct m ≡ true) Any (plain_of p n rules at a) _ (any (plain_of p n rules at a)) (λ d _. yields (λ m. distinct m ≡ true) (plain d) refl)
    act-once (cycle b) at = next (λ m. distinct m ≡ true) (λ m. distinct_all m ≡ true) (acts_of p n rules b (within at)) _ (acts-once b (within at)) (λ d h. yields (λ m. distinct m ≡ true) (cycle d) h)
    act-once (choice s q o) at =
        next (λ m. distinct m ≡ true) Any (selector_of p n rules s) _ (any (selector_of p n rules s)) (λ c _.
        next (λ m. distinct m ≡ true) (AltsOnce []) (alts_of p n rules q at c.labels []) _ (alts-once q at c.labels []) (λ alts h.
        next (λ m. distinct m ≡ true) (λ m. distinct_other m ≡ true) (other_of p n rules o at) _ (other-once o at) (λ other k.
        yields (λ m. distinct m ≡ true) (choice c.by alts other)
        (both (once (labels_in alts) && distinct_some alts) (distinct_other other) (both (once (labels_in alts)) (distinct_some alts) h.1.alone h.0) k))))

    acts-once : (q : written.Acts) (at : Place) → Yields (λ m. distinct_all m ≡ true) (acts_of p n rules q at)
    acts-once done at = yields (λ m. distinct_all m ≡ true) done refl
    acts-once (a ▸ q) at =
        next (λ m. distinct_all m ≡ true) (λ m. distinct m ≡ true) (act_of p n rules a at) _ (act-once a at) (λ x h.
        next (λ m. distinct_all m ≡ true) (λ m. distinct_all m ≡ true) (acts_of p n rules q at) _ (acts-once q at) (λ y k.
        yields (λ m. distinct_all m ≡ true) (x ▸ y) (both (distinct x) (distinct_all y) h k)))

    alts-once : (q : written.Alts) (at : Place) (ks : List Known) (seen : List ℕ) → Yields (AltsOnce seen) (alts_of p n rules q at ks seen)
    alts-once nil at ks seen = yields (AltsOnce seen) nil (refl, record { alone = refl; new = λ x t. never t })
    alts-once (alternative ls b q) at ks seen =
        next (AltsOnce seen) (Fresh seen) (labels_of p n rules ls ks seen) _ (labels-fresh ls ks seen) (λ vs f.
        next (AltsOnce seen) (λ m. distinct_all m ≡ true) (acts_of p n rules b at) _ (acts-once b at) (λ d h.
        next (AltsOnce seen) (AltsOnce (vs ++ seen)) (alts_of p n rules q at ks (vs ++ seen)) _ (alts-once q at ks (vs ++ seen)) (λ r k.
        yields (AltsOnce seen) (alternative vs d r) (both (distinct_all d) (distinct_some r) h k.0, fresh-append seen vs (labels_in r) f k.1))))

    other-once : (o : written.Other) (at : Place) → Yields (λ m. distinct_other m ≡ true) (other_of p n rules o at)
    other-once absent at = yields (λ m. distinct_other m ≡ true) absent refl
    other-once (otherwise b) at = next (λ m. distinct_other m ≡ true) (λ m. distinct_all m ≡ true) (acts_of p n rules b at) _ (acts-once b at) (λ d h. yields (λ m. distinct_other m ≡ true) (otherwise d) h)

  rule-once : (seen : List (List ℕ)) (r : written.Rule) → Yields Once (rule_means p n rules seen r)
  unfolding rule_means
  rule-once seen r =
      passed Once (taken r.rule n seen) 4 r.rule _ (λ _.
      passed Once (is_first seen && given r.gives) 5 r.rule _ (λ _.
      next Once Any (optional_type p n.types r.gives) _ (any (optional_type p n.types r.gives)) (λ g _.
      next Once (λ b. distinct_all b ≡ true) (acts_of p n rules r.body (record { inside = false; gives = g })) _ (acts-once r.body (record { inside = false; gives = g })) (λ b h.
      passed Once (given g && past_all b) 8 r.closing _ (λ _.
      yields Once (record { valued = given g; body = b }) h)))))

  rules-once : (seen : List (List ℕ)) (rs : List written.Rule) → Yields (Each Once) (rules_mean p n rules seen rs)
  unfolding rules_mean Each
  rules-once seen [] = yields (Each Once) [] tt
  rules-once seen (r ∷ rs) =
      next (Each Once) Once (rule_means p n rules seen r) _ (rule-once seen r) (λ m h.
      next (Each Once) (Each Once) (rules_mean p n rules (r.rule.text ∷ seen) rs) _ (rules-once (r.rule.text ∷ seen) rs) (λ ms k.
      yields (Each Once) (m ∷ ms) (h, k)))

-- The rules made for operators

member-tokens : (t c : ℕ) (os : List Operator) → member t (labels_in (operator_alts c os)) ≡ listed (some t) os
unfolding labels_in operator_alts listed
member-tokens t c [] = refl
member-tokens t c (o ∷ os) = go (eqb t o.token) (member-tokens t c os)
  where
    go : (b : Bool) → member t (labels_in (operator_alts c os)) ≡ listed (some t) os → (if b then true else member t (labels_in (operator_alts c os))) ≡ (b || listed (some t) os)
    go true e = refl
    go false e = e

alts-distinct : (c : ℕ) (os : List Operator) → Distinct os → (once (labels_in (operator_alts c os)) && distinct_some (operator_alts c os)) ≡ true
unfolding Distinct once labels_in distinct operator_alts
alts-distinct c [] d = refl
alts-distinct c (o ∷ os) d =
    let x = and (once (labels_in (operator_alts c os))) (distinct_some (operator_alts c os)) (alts-distinct c os d.1) in
    both (not (member o.token (labels_in (operator_alts c os))) && once (labels_in (operator_alts c os))) (distinct_some (operator_alts c os))
    (both (not (member o.token (labels_in (operator_alts c os)))) (once (labels_in (operator_alts c os))) (not-true (member o.token (labels_in (operator_alts c os))) (member-tokens o.token c os ∙ d.0)) x.0) x.1

abbrev Tokens : Level → Type 0
Tokens l = Distinct l.operators

level-once : (l : Level) (own higher : ℕ) → Tokens l → Once (level_rule l own higher)
unfolding level_rule level_body distinct
level-once l own higher d = go l.right
  where
    go : (b : Bool) → distinct_all (level_body b own higher l.operators) ≡ true
    go true = rw (alts-distinct own l.operators d)
    go false = rw (alts-distinct higher l.operators d)

not_listed : (t m : ℕ) (os : List Operator) → listed (some t) os ≡ false → listed (some t) (at_level m os) ≡ false
unfolding listed at_level
not_listed t m [] h = h
not_listed t m (o ∷ os) h = let x = neither (eqb t o.token) (listed (some t) os) h in go (eqb o.level m) x.0 (not_listed t m os x.1)
  where
    go : (b : Bool) → eqb t o.token ≡ false → listed (some t) (at_level m os) ≡ false → listed (some t) (if b then o ∷ at_level m os else at_level m os) ≡ false
    go true e k = rw e k
    go false e k = k

level-distinct : (m : ℕ) (os : List Operator) → Distinct os → Distinct (at_level m os)
unfolding Distinct at_level
level-distinct m [] d = tt
level-distinct m (o ∷ os) d = go (eqb o.level m) (level-distinct m os d.1)
  where
    go : (b : Bool) → Distinct (at_level m os) → Distinct (if b then o ∷ at_level m os else at_level m os)
    go true k = (not_listed o.token m os d.0, k)
    go false k = k

-- The program

each-distinct : (ms : List Rule) → Each Once ms → distinct_labels ms ≡ true
unfolding Each distinct_labels
each-distinct [] h = refl
each-distinct (m ∷ ms) h = both (distinct_all m.body) (distinct_labels ms) h.0 (each-distinct ms h.1)

understand-distinct : (p : Program) → Yields (λ prog. distinct_labels prog ≡ true) (understand p)
unfolding understand nobody Each
understand-distinct p =
    next (λ prog. distinct_labels prog ≡ true) (AllLevels (Each Tokens)) (declare_sections p p.sections nobody) _
    (sections-levels (Each Tokens) (λ os d. levels-have Distinct os (λ m. level-distinct m os d)) p p.sections nobody tt) (λ n h.
    next (λ prog. distinct_labels prog ≡ true) (Each Once) (rules_mean p n (known_rules 0 p.rules) [] p.rules) _ (rules-once p n (known_rules 0 p.rules) [] p.rules) (λ own a.
    next (λ prog. distinct_labels prog ≡ true) (Each Once) (made_for n (known_rules 0 p.rules) (names_in_all p.sections) (length p.rules) (pairs_of p.rules)) _
    (made-have Once Tokens level-once n (λ u _. used-have (Each Tokens) n u tt h) (known_rules 0 p.rules) (names_in_all p.sections) (length p.rules) (pairs_of p.rules)) (λ made b.
    yields (λ prog. distinct_labels prog ≡ true) (own ++ made) (each-distinct (own ++ made) (each_append Once own made a b)))))

-- in a program that a text means no label stands twice in a choice
pub understood-distinct : (text : List ℕ) (prog : List Rule) → understood text ≡ meaning prog → distinct_labels prog ≡ true
understood-distinct text prog e = understood-has (λ m. distinct_labels m ≡ true) (λ p _. understand-distinct p) text prog e
