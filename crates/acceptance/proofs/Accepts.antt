-- A text that is understood gives an accepted program; a table that the processor accepts is that program's, and all its words and locations
-- are in range.
use mathlib.Core.Bool.{Bool, true, false, ◌&&◌}
use mathlib.Core.List.{List, [], ◌∷◌, ◌++◌}
use mathlib.Core.Option.{Option, none, some}
use mathlib.Core.Path.{◌≡◌, refl, sym, ap, ◌∙◌}
use Prim.Native.Nat.{ℕ, zero, suc, ◌+◌, ◌<◌, ◌≤◌}
use lib.Dec.{leb}
use lib.ListN.{length, length-append}
use borrow.Author.Tests.{leb-true}
use native.Mathlib.Omega.{arith}
use Rattle.acceptance.specs.Answers.{TableOf}
use Rattle.acceptance.proofs.CheckLaws.{Yields, yields, next, passed, Any, any}
use Rattle.acceptance.proofs.NamesOk.{NamesOk, Typed, typed, each_append, sections-ok}
use Rattle.acceptance.proofs.Parsed.{parse-ok}
use Rattle.acceptance.proofs.Resolved.{acts-using, each-any, acts-of}
use Rattle.acceptance.proofs.Shape.{Each, ShapedAll, NotEmpty, WrittenOk}
use Rattle.acceptance.proofs.Used.{UseOk, pairs-used, total, Procedure, MadeAre, made-are, made-good, lowest-calls, Within, MadeFew, made-few}
use Rattle.base.specs.Bools.{never, and}
use Rattle.std.specs.Prelude.{if◌then◌else◌}
use Rattle.base.specs.Common.{same, given}
use Rattle.finishing.specs.Test.{finishing}
use Rattle.names.specs.Declare.{declare_sections, known_rules}
use Rattle.names.specs.Known.{Checked, good, wrong, KnownRule, Names, find_rule, optional_type}
use Rattle.names.specs.Resolve.{acts_of}
use Rattle.names.specs.Uses.{Use, acts_uses, pairs_of, lowest_of, made_for}
use Rattle.names.specs.Understand.{nobody, taken, is_first, rule_means, rules_mean, understand}
use Rattle.processor.specs.Process.{Part, Understood, meaning, faulty, checked, read_in, understood, accepted, refused, answer_for, process, part_of}
use Rattle.program.proofs.AcceptedWords.{accepted-word}
use Rattle.program.proofs.Lengths.{length-table}
use Rattle.program.proofs.Places.{place-from, place_inside}
use Rattle.program.specs.Accepted.{Calls, Oks, Accepted}
use Rattle.program.specs.Past.{past_all}
use Rattle.program.specs.Program.{Rule, rule_of, body_of}
use Rattle.program.specs.Table.{size_rules, table}
use Rattle.syntax.specs.Parse.{parse, end_of}
use Rattle.syntax.specs.Reading.{Read, got, fault}
use Rattle.syntax.specs.Sections.{names_in_all}
use Rattle.syntax.specs.Written as written
use Rattle.syntax.specs.Written.{Program}
use Rattle.words.specs.Words.{Word}

-- Rule by rule: a rule has a value exactly if it was written with a type

pub data Matched : List written.Rule → List Rule → Type 0 where
  matched-nil : Matched [] []
  matched-cons : {r : written.Rule} {rs : List written.Rule} {m : Rule} {ms : List Rule} → m.valued ≡ given r.gives → Matched rs ms → Matched (r ∷ rs) (m ∷ ms)

-- what is known of one rule; `first` is whether none stands before it
pub record RuleIs (r : written.Rule) (first : Bool) (m : Rule) : Type 0 where
  pub valued : m.valued ≡ given r.gives
  pub procedure : first ≡ true → m.valued ≡ false
  pub no_end : m.valued ≡ true → past_all m.body ≡ false

not-and : (a b : Bool) → (a && b) ≡ false → a ≡ true → b ≡ false
not-and true b e d = e
not-and false b e d = never d

rule-is : (p : Program) (n : Names) (ks : List KnownRule) (seen : List (List ℕ)) (r : written.Rule) → NamesOk n → Yields (RuleIs r (is_first seen)) (rule_means p n ks seen r)
unfolding rule_means
rule-is p n ks seen r ok =
    passed (RuleIs r (is_first seen)) (taken r.rule n seen) 4 r.rule _ (λ _.
    passed (RuleIs r (is_first seen)) (is_first seen && given r.gives) 5 r.rule _ (λ f.
    next (RuleIs r (is_first seen)) (Typed r.gives) (optional_type p n.types r.gives) _ (typed p n.types r.gives ok.types) (λ g hg.
    next (RuleIs r (is_first seen)) (λ _. Unit {0}) (acts_of p n ks r.body (record { inside = false; gives = g })) _ (λ _ _. tt) (λ b _.
    passed (RuleIs r (is_first seen)) (given g && past_all b) 8 r.closing _ (λ e.
    yields (RuleIs r (is_first seen)) (record { valued = given g; body = b })
    (record { valued = hg.same-given; procedure = λ d. hg.same-given ∙ not-and (is_first seen) (given r.gives) f d; no_end = not-and (given g) (past_all b) e }))))))

abbrev pub NoEnd : Rule → Type 0
NoEnd m = m.valued ≡ true → past_all m.body ≡ false

unfoldable FirstOk : List Rule → Type 0
FirstOk [] = Unit {0}
FirstOk (m ∷ ms) = m.valued ≡ false

record RulesAre (rs : List written.Rule) (first : Bool) (ms : List Rule) : Type 0 where
  matched : Matched rs ms
  no_end : Each NoEnd ms
  procedure : first ≡ true → FirstOk ms

rules_are : (p : Program) (n : Names) (ks : List KnownRule) (seen : List (List ℕ)) (rs : List written.Rule) → NamesOk n → Yields (RulesAre rs (is_first seen)) (rules_mean p n ks seen rs)
unfolding rules_mean Each FirstOk
rules_are p n ks seen [] ok = yields (RulesAre [] (is_first seen)) [] (record { matched = matched-nil; no_end = tt; procedure = λ d. tt })
rules_are p n ks seen (r ∷ rs) ok =
    next (RulesAre (r ∷ rs) (is_first seen)) (RuleIs r (is_first seen)) (rule_means p n ks seen r) _ (rule-is p n ks seen r ok) (λ m h.
    next (RulesAre (r ∷ rs) (is_first seen)) (RulesAre rs (is_first (r.rule.text ∷ seen))) (rules_mean p n ks (r.rule.text ∷ seen) rs) _ (rules_are p n ks (r.rule.text ∷ seen) rs ok) (λ ms hs.
    yields (RulesAre (r ∷ rs) (is_first seen)) (m ∷ ms) (record { matched = matched-cons h.valued hs.matched; no_end = (h.no_end, hs.no_end); procedure = h.procedure })))

-- A rule that a name finds is the program's

given-text : (x : Option Word) → given {A = List ℕ} (elim x as (λ _. Option (List ℕ)) [ none ↦ none | some w ↦ some w.text ]) ≡ given x
given-text none = refl
given-text (some w) = refl

found-rule : {rs : List written.Rule} {ms : List Rule} (i : ℕ) (w : List ℕ) (k : KnownRule) → Matched rs ms → find_rule w (known_rules i rs) ≡ some k
    → (j : ℕ) × (k.place ≡ i + j) × (j < length ms) × ((rule_of ms j).valued ≡ given k.gives)
unfolding known_rules find_rule rule_of
found-rule i w k matched-nil e = let z : ◌≡◌ {A = ℕ} 0 1 = cc in absurd (omega arith)
found-rule {ms = ms} i w k (matched-cons {r = r} {rs = rs} {m = m} {ms = ms₁} v h) e = go (same w r.rule.text) e (found-rule (suc i) w k h)
  where
    own : KnownRule
    own = record { named = r.rule.text; place = i; gives = elim r.gives as (λ _. Option (List ℕ)) [ none ↦ none | some w ↦ some w.text ] }

    go : (t : Bool) → (if t then some own else find_rule w (known_rules (suc i) rs)) ≡ some k
        → (find_rule w (known_rules (suc i) rs) ≡ some k → (j : ℕ) × (k.place ≡ suc i + j) × (j < length ms₁) × ((rule_of ms₁ j).valued ≡ given k.gives))
        → (j : ℕ) × (k.place ≡ i + j) × (j < length (m ∷ ms₁)) × ((rule_of (m ∷ ms₁) j).valued ≡ given k.gives)
    go true d f = let x : own ≡ k = cc in (0, rw (← x) (omega arith), omega arith, rw (← x) (v ∙ sym (given-text r.gives)))
    go false d f = let y = f d in (suc y.0, omega (arith, y.1), omega (arith, y.2), y.3)

calls-known : {rs : List written.Rule} {ms : List Rule} → Matched rs ms → (w : List ℕ) (k : KnownRule) → find_rule w (known_rules 0 rs) ≡ some k → Calls ms k.place (given k.gives)
calls-known {ms = ms} h w k e =
    let x = found-rule 0 w k h e in
    let y : k.place ≡ x.0 = omega (arith, x.1) in
    record { there = rw y x.2; sort = rw y x.3 }

-- Every rule's actions

abbrev RuleOks : List Rule → Rule → Type 0
RuleOks prog m = Oks prog m.body m.valued false

rules-oks : (p : Program) (n : Names) (ks : List KnownRule) (prog : List Rule) → NamesOk n → ((w : List ℕ) (k : KnownRule) → find_rule w ks ≡ some k → Calls prog k.place (given k.gives))
    → ((u : Use) → Calls prog (lowest_of n u (length p.rules) (pairs_of p.rules)) false) → (seen : List (List ℕ)) (rs : List written.Rule) → Each (λ r. ShapedAll r.body) rs → Yields (Each (RuleOks prog)) (rules_mean p n ks seen rs)
unfolding rules_mean rule_means Each
rules-oks p n ks prog ok known low seen [] h = yields (Each (RuleOks prog)) [] tt
rules-oks p n ks prog ok known low seen (r ∷ rs) h =
    next (Each (RuleOks prog)) (RuleOks prog) (rule_means p n ks seen r) _
    (passed (RuleOks prog) (taken r.rule n seen) 4 r.rule _ (λ _.
    passed (RuleOks prog) (is_first seen && given r.gives) 5 r.rule _ (λ _.
    next (RuleOks prog) (Typed r.gives) (optional_type p n.types r.gives) _ (typed p n.types r.gives ok.types) (λ g hg.
    next (RuleOks prog) (λ b. Oks prog b (given g) false) (acts_of p n ks r.body (record { inside = false; gives = g })) _
    (acts-of p n ks prog ok known (λ _. Unit {0}) (λ u _. low u) r.body (record { inside = false; gives = g }) (acts-using (λ _. Unit {0}) r.body [] (each-any (acts_uses r.body []))).0 h.0 hg.members) (λ b hb.
    passed (RuleOks prog) (given g && past_all b) 8 r.closing _ (λ _.
    yields (RuleOks prog) (record { valued = given g; body = b }) hb))))))
    (λ m hm. next (Each (RuleOks prog)) (Each (RuleOks prog)) (rules_mean p n ks (r.rule.text ∷ seen) rs) _ (rules-oks p n ks prog ok known low (r.rule.text ∷ seen) rs h.1)
    (λ ms hs. yields (Each (RuleOks prog)) (m ∷ ms) (hm, hs)))

-- From each to every place

pub at_place : (P : Rule → Type 0) (ms : List Rule) → Each P ms → (r : ℕ) → r < length ms → P (rule_of ms r)
unfolding Each rule_of
at_place P [] h r l = absurd (omega arith)
at_place P (m ∷ ms) h zero l = h.0
at_place P (m ∷ ms) h (suc r) l = at_place P ms h.1 r (omega arith)

first_is : (ms : List Rule) → FirstOk ms → (rule_of ms 0).valued ≡ false
unfolding FirstOk rule_of
first_is [] h = refl
first_is (m ∷ ms) h = h

matched-some : {rs : List written.Rule} {ms : List Rule} → Matched rs ms → NotEmpty rs → 0 < length ms
unfolding NotEmpty
matched-some matched-nil h = absurd h
matched-some (matched-cons v x) h = omega arith

pub nobody-ok : NamesOk nobody
unfolding nobody Each
nobody-ok = record { inputs = tt; outputs = tt; errors = tt; types = tt; operations = tt; operators = tt }

-- The program's own rules, and those made behind them

matched-length : {rs : List written.Rule} {ms : List Rule} → Matched rs ms → length ms ≡ length rs
matched-length matched-nil = refl
matched-length (matched-cons v h) = ap suc (matched-length h)

pub rule-before : (xs ys : List Rule) (r : ℕ) → r < length xs → rule_of (xs ++ ys) r ≡ rule_of xs r
unfolding rule_of
rule-before [] ys r l = absurd (omega arith)
rule-before (x ∷ xs) ys zero l = refl
rule-before (x ∷ xs) ys (suc r) l = rule-before xs ys r (omega arith)

pub later-procedures : (xs ys : List Rule) → Each Procedure ys → (r : ℕ) → length xs ≤ r → r < length (xs ++ ys) → (rule_of (xs ++ ys) r).valued ≡ false
unfolding rule_of
later-procedures [] ys h r b l = at_place Procedure ys h r l
later-procedures (x ∷ xs) ys h zero b l = absurd (omega arith)
later-procedures (x ∷ xs) ys h (suc r) b l = later-procedures xs ys h r (omega arith) (omega arith)

pub calls-more : (xs ys : List Rule) (r : ℕ) (v : Bool) → Calls xs r v → Calls (xs ++ ys) r v
calls-more xs ys r v c = record { there = let n = length-append xs ys in let l = c.there in omega arith; sort = ap (λ (m : Rule). m.valued) (rule-before xs ys r c.there) ∙ c.sort }

pub procedures-end : (ms : List Rule) → Each Procedure ms → Each NoEnd ms
unfolding Each
procedures-end [] h = tt
procedures-end (m ∷ ms) h = ((λ e. never (sym h.0 ∙ e)), procedures-end ms h.1)

accepts : (p : Program) (n : Names) (own made : List Rule) → WrittenOk p → NamesOk n → rules_mean p n (known_rules 0 p.rules) [] p.rules ≡ good own
    → made_for n (known_rules 0 p.rules) (names_in_all p.sections) (length p.rules) (pairs_of p.rules) ≡ good made → Accepted (own ++ made)
unfolding is_first body_of
accepts p n own made w ok e f =
    let ks = known_rules 0 p.rules in
    let prog = own ++ made in
    let base = length p.rules in
    let us = pairs_of p.rules in
    let a = rules_are p n ks [] p.rules ok own e in
    let m : MadeAre n us made = made-are n ks (names_in_all p.sections) base us made f in
    let same_length : length own ≡ base = matched-length a.matched in
    let some-own = matched-some a.matched w.some_rule in
    let n₁ = length-append own made in
    let long : length prog ≡ base + total n us = n₁ ∙ omega (arith, same_length, m.0) in
    let later : (r : ℕ) → base ≤ r → r < length prog → (rule_of prog r).valued ≡ false = λ r b l. later-procedures own made m.1 r (omega (arith, same_length)) l in
    let known : (v : List ℕ) (k : KnownRule) → find_rule v ks ≡ some k → Calls prog k.place (given k.gives) = λ v k d. calls-more own made k.place (given k.gives) (calls-known a.matched v k d) in
    let first : (rule_of prog 0).valued ≡ false = ap (λ (x : Rule). x.valued) (rule-before own made 0 some-own) ∙ first_is own (a.procedure refl) in
    let used : Each (UseOk n ks) us = pairs-used p n ks [] p.rules own e in
    let low : (u : Use) → Calls prog (lowest_of n u base us) false = λ u.
    lowest-calls prog base later n ks ok (record { there = omega (arith, some-own, n₁); sort = first }) u base us used (omega arith) (omega (arith, long)) in
    let o = rules-oks p n ks prog ok known low [] p.rules w.rules own e in
    let g = made-good prog base later n ks ok known (names_in_all p.sections) base us used (omega arith) (omega (arith, long)) made f in
    record {
      some_rule = omega (arith, some-own, n₁);
      first = first;
      in_order = at_place (RuleOks prog) prog (each_append (RuleOks prog) own made o g);
      no_end = at_place NoEnd prog (each_append NoEnd own made a.no_end (procedures-end made m.1));
    }

pub understand-accepts : (p : Program) → WrittenOk p → Yields Accepted (understand p)
unfolding understand
understand-accepts p w =
    next Accepted NamesOk (declare_sections p p.sections nobody) _ (sections-ok p p.sections nobody w.sections w.sections nobody-ok) (λ n ok.
    next Accepted (λ own. rules_mean p n (known_rules 0 p.rules) [] p.rules ≡ good own) (rules_mean p n (known_rules 0 p.rules) [] p.rules) _ (λ own e. e) (λ own e.
    next Accepted (λ made. made_for n (known_rules 0 p.rules) (names_in_all p.sections) (length p.rules) (pairs_of p.rules) ≡ good made) (made_for n (known_rules 0 p.rules) (names_in_all p.sections) (length p.rules) (pairs_of p.rules)) _ (λ made f. f) (λ made f.
    yields Accepted (own ++ made) (accepts p n own made w ok e f))))

-- The limits

-- "Limits: 128 rules, 512 names": the rules of a program with the names of its sections, those made among them
abbrev pub FewRules : Program → List Rule → Type 0
FewRules p prog = Within (names_in_all p.sections) 0 (length prog)

pub rules-count : (p : Program) (n : Names) (ks : List KnownRule) (seen : List (List ℕ)) (rs : List written.Rule) → Yields (λ ms. length ms ≡ length rs) (rules_mean p n ks seen rs)
unfolding rules_mean
rules-count p n ks seen [] = yields (λ ms. length ms ≡ 0) [] refl
rules-count p n ks seen (r ∷ rs) =
    next (λ ms. length ms ≡ suc (length rs)) Any (rule_means p n ks seen r) _ (any (rule_means p n ks seen r)) (λ m _.
    next (λ ms. length ms ≡ suc (length rs)) (λ ms. length ms ≡ length rs) (rules_mean p n ks (r.rule.text ∷ seen) rs) _ (rules-count p n ks (r.rule.text ∷ seen) rs) (λ ms h.
    yields (λ ms. length ms ≡ suc (length rs)) (m ∷ ms) (ap suc h)))

-- where the rules as written keep to the limits, those that the program has keep to them
pub understand-few : (p : Program) → Within (names_in_all p.sections) (length p.rules) 0 → Yields (FewRules p) (understand p)
unfolding understand
understand-few p w =
    next (FewRules p) Any (declare_sections p p.sections nobody) _ (any (declare_sections p p.sections nobody)) (λ n _.
    next (FewRules p) (λ own. length own ≡ length p.rules) (rules_mean p n (known_rules 0 p.rules) [] p.rules) _ (rules-count p n (known_rules 0 p.rules) [] p.rules) (λ own e.
    next (FewRules p) (λ made. MadeFew n (names_in_all p.sections) (length p.rules) (pairs_of p.rules) made × MadeAre n (pairs_of p.rules) made)
    (made_for n (known_rules 0 p.rules) (names_in_all p.sections) (length p.rules) (pairs_of p.rules)) _
    (λ made f. (
      made-few n (known_rules 0 p.rules) (names_in_all p.sections) (length p.rules) (pairs_of p.rules) w made f,
      made-are n (known_rules 0 p.rules) (names_in_all p.sections) (length p.rules) (pairs_of p.rules) made f,
    )) (λ made h.
    let l = length-append own made in
    yields (FewRules p) (own ++ made) (omega (arith, l, e, h.0.0.0, h.1.0), omega (arith, l, e, h.0.0.1, h.1.0)))))

-- The theorem

-- what every program has that is understood, whatever a text means has
pub understood-has : (P : List Rule → Type 0) → ((p : Program) → WrittenOk p → Yields P (understand p)) → (text : List ℕ) (prog : List Rule) → understood text ≡ meaning prog → P prog
unfolding understood read_in checked
understood-has P h text prog e = go (parse text) refl e
  where
    no-meaning : {n : ℕ} {at : Part} → faulty n at ≡ meaning prog → P prog
    no-meaning d = let z : ◌≡◌ {A = ℕ} 0 1 = cc in absurd (omega arith)

    inner : (p : Program) → WrittenOk p → (c : Checked (List Rule)) → understand p ≡ c → checked c ≡ meaning prog → P prog
    inner p w (good x) d d₁ = let y : x ≡ prog = cc in rw y at (h p w x d)
    inner p w (wrong n v) d d₁ = no-meaning d₁

    go : (r : Read Program) → parse text ≡ r → read_in r ≡ meaning prog → P prog
    go (got p rest) d d₁ = inner p (parse-ok text p rest d) (understand p) refl d₁
    go (fault n w) d d₁ = no-meaning d₁

-- whatever a text means is an accepted program
pub understood-accepted : (text : List ℕ) (prog : List Rule) → understood text ≡ meaning prog → Accepted prog
understood-accepted text prog e = understood-has Accepted understand-accepts text prog e

pub accepted-table : (text : List ℕ) (room : ℕ) (words : List ℕ) (verdict : Bool) → process text room ≡ accepted words verdict → TableOf text room words verdict
unfolding process answer_for
accepted-table text room words verdict e = go (understood text) refl e
  where
    no_answer : {n : ℕ} {at : Part} → refused n at ≡ accepted words verdict → TableOf text room words verdict
    no_answer d = let z : ◌≡◌ {A = ℕ} 0 1 = cc in absurd (omega arith)

    made : (prog : List Rule) → understood text ≡ meaning prog → (t : Bool) → (leb (size_rules prog) room && leb (size_rules prog) 4096) ≡ t
        → (if t then accepted (table prog) (finishing prog) else refused 20 (part_of (end_of text))) ≡ accepted words verdict → TableOf text room words verdict
    made prog d true t d₁ =
        let a = understood-accepted text prog d in
        let x : table prog ≡ words = cc in
        let y : finishing prog ≡ verdict = cc in
        let z = and (leb (size_rules prog) room) (leb (size_rules prog) 4096) t in
        let l₁ = leb-true (size_rules prog) room z.0 in
        let l₂ = leb-true (size_rules prog) 4096 z.1 in
        let n = length-table prog in
        record {
          prog = prog;
          means = d;
          accepts = a;
          words_are = sym x;
          verdict_is = sym y;
          fits = rw (← x) (omega arith);
          within_4096 = rw (← x) (omega arith);
          small = rw (← x) (accepted-word prog a l₂);
          from = place-from 1 prog;
          inside = rw (← x) (place_inside prog a.no_end);
        }
    made prog d false t d₁ = no_answer d₁

    go : (u : Understood) → understood text ≡ u → answer_for text room u ≡ accepted words verdict → TableOf text room words verdict
    go (meaning prog) d d₁ = made prog d (leb (size_rules prog) room && leb (size_rules prog) 4096) refl d₁
    go (faulty n at) d d₁ = no_answer d₁
