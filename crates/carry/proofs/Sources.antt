-- The source of a text that is understood: the program that the text means, as many names as rules, no name twice.
use mathlib.Core.Bool.{false}
use mathlib.Core.List.{List, [], ◌∷◌, ◌++◌}
use mathlib.Core.Path.{◌≡◌, refl, ap}
use Prim.Native.Nat.{ℕ, suc}
use native.Mathlib.Omega.{arith}
use lib.ListN.{length, length-append}
use Rattle.acceptance.proofs.CheckLaws.{Yields, yields, next, passed}
use Rattle.acceptance.proofs.Shape.{Each}
use Rattle.acceptance.proofs.Used.{total, MadeAre, made-are}
use Rattle.base.proofs.Laws.{neither}
use Rattle.base.specs.Common.{same, given}
use Rattle.carry.proofs.Lists.{Apart, apart-nil, apart_cons, Distinct, distinct_nil, distinct_cons}
use Rattle.carry.proofs.Naming.{sections-rising, AllRising, firsts-once, distinct_append, made-distinct, written-made}
use Rattle.carry.specs.Carry.{written, same_name, Source, written_names, level_names, made_names, names_of, with_rules, of_read, source_of}
use Rattle.names.specs.Declare.{declare_sections, known_rules}
use Rattle.names.specs.Known.{Checked, good, wrong, KnownRule, Names, find_operation}
use Rattle.names.specs.Understand.{nobody, is_one, taken, rule_means, rules_mean, understand}
use Rattle.names.specs.Uses.{Use, rules_uses, pairs_of, levels_used, made_for}
use Rattle.processor.specs.Process.{Part, meaning, faulty, checked, read_in, understood}
use Rattle.program.specs.Made.{Level}
use Rattle.program.specs.Program.{Rule}
use Rattle.syntax.specs.Parse.{parse}
use Rattle.syntax.specs.Reading.{Read, got, fault}
use Rattle.syntax.specs.Sections.{names_in_all}
use Rattle.syntax.specs.Written as syntax
use Rattle.syntax.specs.Written.{Program}
use Rattle.words.specs.Words.{Word}

-- The rules as written

-- none of the names stands among those seen
data Unseen (seen : List (List ℕ)) : List syntax.Rule → Type 0 where
  unseen-nil : Unseen seen []
  unseen-cons : {r : syntax.Rule} {rs : List syntax.Rule} → is_one r.rule.text seen ≡ false → Unseen seen rs → Unseen seen (r ∷ rs)

fewer : {w : List ℕ} {seen : List (List ℕ)} {rs : List syntax.Rule} → Unseen (w ∷ seen) rs → Unseen seen rs
unfolding is_one
fewer unseen-nil = unseen-nil
fewer {w} {seen} (unseen-cons {r = r} e h) = unseen-cons (neither (same r.rule.text w) (is_one r.rule.text seen) e).1 (fewer h)

apart : {w : List ℕ} {seen : List (List ℕ)} {rs : List syntax.Rule} → Unseen (w ∷ seen) rs → Apart (written w) (written_names rs)
unfolding is_one written_names same_name
apart unseen-nil = apart-nil
apart {w} {seen} (unseen-cons {r = r} e h) = apart_cons (neither (same r.rule.text w) (is_one r.rule.text seen) e).0 (apart h)

record Fine (seen : List (List ℕ)) (rs : List syntax.Rule) (ms : List Rule) : Type 0 where
  unseen : Unseen seen rs
  distinct : Distinct (written_names rs)
  length-is : length (written_names rs) ≡ length ms

rules-fine : (p : Program) (n : Names) (ks : List KnownRule) (seen : List (List ℕ)) (rs : List syntax.Rule) → Yields (Fine seen rs) (rules_mean p n ks seen rs)
unfolding rules_mean rule_means taken written_names
rules-fine p n ks seen [] = yields (Fine seen []) [] (record { unseen = unseen-nil; distinct = distinct_nil; length-is = refl })
rules-fine p n ks seen (r ∷ rs) =
    next (Fine seen (r ∷ rs)) (λ _. is_one r.rule.text seen ≡ false) (rule_means p n ks seen r) _
    (passed (λ _. is_one r.rule.text seen ≡ false) (taken r.rule n seen) 4 r.rule _
    (λ f. λ _ _. (neither (given (find_operation r.rule.text n.operations)) (is_one r.rule.text seen) f).1))
    (λ m h. next (Fine seen (r ∷ rs)) (Fine (r.rule.text ∷ seen) rs) (rules_mean p n ks (r.rule.text ∷ seen) rs) _
    (rules-fine p n ks (r.rule.text ∷ seen) rs)
    (λ ms hs. yields (Fine seen (r ∷ rs)) (m ∷ ms) (record {
      unseen = unseen-cons h (fewer hs.unseen);
      distinct = distinct_cons (apart hs.unseen) hs.distinct;
      length-is = ap suc hs.length-is;
    })))

-- The rules made

pub levels-named : (u : Use) (ls : List Level) → length (level_names u ls) ≡ length ls
unfolding level_names
levels-named u [] = refl
levels-named u (l ∷ ls) = ap suc (levels-named u ls)

pub made-named : (n : Names) (us : List Use) → length (made_names n us) ≡ total n us
unfolding made_names total
made-named n [] = refl
made-named n (u ∷ us) =
    let l = length-append (level_names u (levels_used n u)) (made_names n us) in
    omega (arith, l, levels-named u (levels_used n u), made-named n us)

-- All of them

record Named (p : Program) (prog : List Rule) : Type 0 where
  names : Names
  declared : declare_sections p p.sections nobody ≡ good names
  distinct : Distinct (names_of p (good names))
  length-is : length (names_of p (good names)) ≡ length prog

apart-from-made : (n : Names) (us : List Use) (rs : List syntax.Rule) → Each (λ v. Apart v (made_names n us)) (written_names rs)
unfolding Each written_names
apart-from-made n us [] = tt
apart-from-made n us (r ∷ rs) = (written-made r.rule.text n us, apart-from-made n us rs)

named : (p : Program) → Yields (Named p) (understand p)
unfolding understand names_of nobody Each pairs_of
named p =
    next (Named p) (λ n. (declare_sections p p.sections nobody ≡ good n) × AllRising n) (declare_sections p p.sections nobody) _
    (λ n e. (e, sections-rising p p.sections nobody none_yet n e)) (λ n h.
    next (Named p) (Fine [] p.rules) (rules_mean p n (known_rules 0 p.rules) [] p.rules) _ (rules-fine p n (known_rules 0 p.rules) [] p.rules) (λ own f.
    next (Named p) (MadeAre n us) (made_for n (known_rules 0 p.rules) (names_in_all p.sections) (length p.rules) us) _
    (made-are n (known_rules 0 p.rules) (names_in_all p.sections) (length p.rules) us) (λ made m.
    yields (Named p) (own ++ made) (record {
      names = n;
      declared = h.0;
      distinct = distinct_append (written_names p.rules) (made_names n us) f.distinct (made-distinct n us h.1 (firsts-once [] (rules_uses p.rules))) (apart-from-made n us p.rules);
      length-is = let a = length-append (written_names p.rules) (made_names n us) in let b = length-append own made in omega (arith, a, b, f.length-is, made-named n us, m.0);
    }))))
  where
    us : List Use
    us = pairs_of p.rules

    none_yet : AllRising nobody
    none_yet = tt

-- what holds of the source of a text
pub record SourceOk (s : Source) (prog : List Rule) : Type 0 where
  pub rules_are : s.rules ≡ prog
  pub distinct : Distinct s.names
  pub length-is : length s.names ≡ length s.rules

pub source_ok : (text : List ℕ) (prog : List Rule) → understood text ≡ meaning prog → SourceOk (source_of text) prog
unfolding source_of of_read with_rules understood read_in checked
source_ok text prog e = go (parse text) refl e
  where
    no-meaning : {A : Type 0} {n : ℕ} {at : Part} → faulty n at ≡ meaning prog → A
    no-meaning d = let z : ◌≡◌ {A = ℕ} 0 1 = cc in absurd (omega arith)

    same-program : {x y : List Rule} → meaning x ≡ meaning y → x ≡ y
    same-program d = cc

    inner : (q : Program) (vs : List Word) → parse text ≡ got q vs → (c : Checked (List Rule)) → understand q ≡ c → checked c ≡ meaning prog → SourceOk (source_of text) prog
    inner q vs a (good x) d e₁ =
        let h = named q x d in
        rw (a, d, h.declared) (record { rules_are = same-program e₁; distinct = h.distinct; length-is = h.length-is })
    inner q vs a (wrong n w) d e₁ = no-meaning e₁

    go : (r : Read Program) → parse text ≡ r → read_in r ≡ meaning prog → SourceOk (source_of text) prog
    go (got q vs) a e₁ = inner q vs a (understand q) refl e₁
    go (fault n w) a e₁ = no-meaning e₁
