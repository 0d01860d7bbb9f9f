-- A choice that was read has at most 64 labels, one or more in each alternative, and so has what it means; so has each choice of a rule made.
use mathlib.Core.List.{List, [], ◌∷◌, ◌++◌}
use mathlib.Core.Bool.{Bool, true, false, ◌&&◌}
use mathlib.Core.Path.{◌≡◌, refl}
use Prim.Native.Nat.{ℕ, suc, ◌<◌, ◌≤◌}
use lib.ListN.{length}
use native.Mathlib.Omega.{arith}
use Rattle.acceptance.proofs.Accepts.{at_place}
use Rattle.acceptance.proofs.CheckLaws.{Yields, yields, next, passed, Any, any}
use Rattle.acceptance.proofs.NamesOk.{each_append}
use Rattle.acceptance.proofs.Shape.{Each}
use Rattle.acceptance.proofs.Used.{made_each}
use Rattle.base.specs.Common.{given, member}
use Rattle.base.specs.Tree.{plain, cycle, choice, done, ◌▸◌, nil, alternative, absent, otherwise}
use Rattle.emitter.specs.Emitted.{FewLabels, FewLabelsAll, FewLabelsAlts, FewLabelsOther}
use Rattle.grammar.specs.Labels.{labelled, Labelled, LabelledAll, LabelledAlts, LabelledOther, LabelledRules}
use Rattle.names.specs.Known.{good, Known, KnownRule, Names, optional_type, lookup}
use Rattle.names.specs.Resolve.{Place, within, plain_of, selector_of, labels_of, act_of, acts_of, alts_of, other_of}
use Rattle.names.specs.Understand.{taken, is_first, rule_means, rules_mean}
use Rattle.names.specs.Uses.{Use, made_for}
use Rattle.program.specs.Made.{Operator, Level, operator_alts, level_body, level_rule}
use Rattle.program.specs.Past.{past_all}
use Rattle.program.specs.Program as means
use Rattle.program.specs.Program.{Rule, body_of}
use Rattle.syntax.specs.Written as written
use Rattle.verdict.specs.Lies as verdict
use Rattle.verdict.specs.Lies.{Few, FewAll, FewSome, FewOther}
use Rattle.syntax.specs.Written.{Program}
use Rattle.words.specs.Words.{Word}

-- few enough for the emitter and for the verdict
abbrev ActFew : means.Act → Type 0
ActFew a = FewLabels a × Few a

abbrev ActsFew : means.Acts → Type 0
ActsFew q = FewLabelsAll q × FewAll q

abbrev AltsFew : written.Alts → means.Alts → Type 0
AltsFew q m = (verdict.labelled m ≡ labelled q) × FewLabelsAlts m × FewSome m

abbrev OtherFew : means.Other → Type 0
OtherFew o = FewLabelsOther o × FewOther o

module _ (p : Program) (n : Names) (rules : List KnownRule) where
  -- a value for each label
  labels-kept : (ls : List Word) (ks : List Known) (seen : List ℕ) → Yields (λ vs. length vs ≡ length ls) (labels_of p n rules ls ks seen)
  unfolding labels_of
  labels-kept [] ks seen = yields (λ vs. length vs ≡ 0) [] refl
  labels-kept (w ∷ ws) ks seen =
      next (λ vs. length vs ≡ suc (length ws)) Any (lookup p ks w) _ (any (lookup p ks w)) (λ v _.
      passed (λ vs. length vs ≡ suc (length ws)) (member v seen) 6 w _ (λ _.
      next (λ vs. length vs ≡ suc (length ws)) (λ vs. length vs ≡ length ws) (labels_of p n rules ws ks (v ∷ seen)) _ (labels-kept ws ks (v ∷ seen)) (λ vs h.
      yields (λ vs. length vs ≡ suc (length ws)) (v ∷ vs) (omega (arith, h)))))

  mutual
    unfolding act_of within FewLabels Few verdict.labelled labelled Labelled

    act-few : (a : written.Act) (at : Place) → Labelled a → Yields ActFew (act_of p n rules a at)
    act-few (plain a) at s = next ActFew Any (plain_of p n rules at a) _ (any (plain_of p n rules at a)) (λ d _. yields ActFew (plain d) (tt, tt))
    act-few (cycle b) at s =
        next ActFew ActsFew (acts_of p n rules b (within at)) _ (acts-few b (within at) s) (λ d h. yields ActFew (cycle d) h)
    act-few (choice s q o) at h =
        next ActFew Any (selector_of p n rules s) _ (any (selector_of p n rules s)) (λ c _.
        next ActFew (AltsFew q) (alts_of p n rules q at c.labels []) _ (alts-few q at c.labels [] h.0 h.1) (λ alts ha.
        next ActFew OtherFew (other_of p n rules o at) _ (other-few o at h.2) (λ other ho.
        yields ActFew (choice c.by alts other) ((ha.1, ho.0), (omega (arith, ha.0, h.0), ha.2, ho.1)))))

    acts-few : (q : written.Acts) (at : Place) → LabelledAll q → Yields ActsFew (acts_of p n rules q at)
    acts-few done at s = yields ActsFew done (tt, tt)
    acts-few (a ▸ q) at s =
        next ActsFew ActFew (act_of p n rules a at) _ (act-few a at s.0) (λ x hx.
        next ActsFew ActsFew (acts_of p n rules q at) _ (acts-few q at s.1) (λ y hy.
        yields ActsFew (x ▸ y) ((hx.0, hy.0), (hx.1, hy.1))))

    alts-few : (q : written.Alts) (at : Place) (ks : List Known) (seen : List ℕ) → labelled q ≤ 64 → LabelledAlts q → Yields (AltsFew q) (alts_of p n rules q at ks seen)
    alts-few nil at ks seen l s = yields (AltsFew nil) nil (refl, tt, tt)
    alts-few (alternative ls b q) at ks seen l s =
        next (AltsFew (alternative ls b q)) (λ vs. length vs ≡ length ls) (labels_of p n rules ls ks seen) _ (labels-kept ls ks seen) (λ vs hv.
        next (AltsFew (alternative ls b q)) ActsFew (acts_of p n rules b at) _ (acts-few b at s.1) (λ d hd.
        next (AltsFew (alternative ls b q)) (AltsFew q) (alts_of p n rules q at ks (vs ++ seen)) _ (alts-few q at ks (vs ++ seen) (omega arith) s.2) (λ r hr.
        yields (AltsFew (alternative ls b q)) (alternative vs d r) (omega (arith, hv, hr.0), (omega (arith, hv, s.0), omega (arith, hv, l), hd.0, hr.1), (hd.1, hr.2)))))

    other-few : (o : written.Other) (at : Place) → LabelledOther o → Yields OtherFew (other_of p n rules o at)
    other-few absent at s = yields OtherFew absent (tt, tt)
    other-few (otherwise b) at s =
        next OtherFew ActsFew (acts_of p n rules b at) _ (acts-few b at s) (λ d hd. yields OtherFew (otherwise d) hd)

abbrev FewIn : Rule → Type 0
FewIn m = ActsFew m.body

-- as many rules as were written, each with few labels
record FewRules (rs : List written.Rule) (ms : List Rule) : Type 0 where
  count : length ms ≡ length rs
  few : Each FewIn ms

rules-few : (p : Program) (n : Names) (ks : List KnownRule) (seen : List (List ℕ)) (rs : List written.Rule) → LabelledRules rs → Yields (FewRules rs) (rules_mean p n ks seen rs)
unfolding rules_mean rule_means Each LabelledRules
rules-few p n ks seen [] h = yields (FewRules []) [] (record { count = refl; few = tt })
rules-few p n ks seen (r ∷ rs) h =
    next (FewRules (r ∷ rs)) FewIn (rule_means p n ks seen r) _
    (passed FewIn (taken r.rule n seen) 4 r.rule _ (λ _.
    passed FewIn (is_first seen && given r.gives) 5 r.rule _ (λ _.
    next FewIn Any (optional_type p n.types r.gives) _ (any (optional_type p n.types r.gives)) (λ g _.
    next FewIn ActsFew (acts_of p n ks r.body (record { inside = false; gives = g })) _ (acts-few p n ks r.body (record { inside = false; gives = g }) h.0) (λ b hb.
    passed FewIn (given g && past_all b) 8 r.closing _ (λ _.
    yields FewIn (record { valued = given g; body = b }) hb))))))
    (λ m hm. next (FewRules (r ∷ rs)) (FewRules rs) (rules_mean p n ks (r.rule.text ∷ seen) rs) _ (rules-few p n ks (r.rule.text ∷ seen) rs h.1)
    (λ ms hs. yields (FewRules (r ∷ rs)) (m ∷ ms) (record { count = omega (arith, hs.count); few = (hm, hs.few) })))

-- The rules made

operators-few : (c : ℕ) (os : List Operator) → (verdict.labelled (operator_alts c os) ≡ length os) × FewLabelsAlts (operator_alts c os) × FewSome (operator_alts c os)
unfolding operator_alts verdict.labelled FewLabels Few
operators-few c [] = (refl, tt, tt)
operators-few c (o ∷ os) = let h = operators-few c os in (omega (arith, h.0), (omega arith, omega arith, (tt, (tt, tt)), h.1), ((tt, (tt, tt)), h.2))

level-few : (l : Level) (own higher : ℕ) → length l.operators ≤ 64 → FewIn (level_rule l own higher)
unfolding level_rule level_body FewLabels Few
level-few l own higher h = go l.right
  where
    go : (b : Bool) → ActsFew (level_body b own higher l.operators)
    go false =
        let x = operators-few higher l.operators in
        ((tt, (((x.1, (tt, tt)), tt), tt)), (tt, (((omega (arith, x.0, h), x.2, (tt, tt)), tt), tt)))
    go true =
        let x = operators-few own l.operators in
        ((tt, ((x.1, tt), tt)), (tt, ((omega (arith, x.0, h), x.2, tt), tt)))

-- the rules of a program that was read and understood
pub record Meant (prog : List Rule) : Type 0 where
  pub labels : (r : ℕ) → r < length prog → FewLabelsAll (body_of prog r)
  pub choices : (r : ℕ) → r < length prog → FewAll (body_of prog r)

pub meant-count : (p : Program) (n : Names) (ks : List KnownRule) (seen : List (List ℕ)) (rs : List written.Rule) → LabelledRules rs → Yields (λ own. length own ≡ length rs) (rules_mean p n ks seen rs)
meant-count p n ks seen rs h own e = (rules-few p n ks seen rs h own e).count

-- those written and those made behind them
pub meant : (p : Program) (n : Names) (ks : List KnownRule) (seen : List (List ℕ)) (rs : List written.Rule) (others at : ℕ) (us : List Use) → LabelledRules rs
    → (own made : List Rule) → rules_mean p n ks seen rs ≡ good own → made_for n ks others at us ≡ good made → Meant (own ++ made)
unfolding body_of
meant p n ks seen rs others at us h own made e f =
    let all : Each FewIn (own ++ made) = each_append FewIn own made (rules-few p n ks seen rs h own e).few (made_each FewIn level-few n ks others at us made f) in
    record { labels = λ r l. (at_place FewIn (own ++ made) all r l).0; choices = λ r l. (at_place FewIn (own ++ made) all r l).1 }
