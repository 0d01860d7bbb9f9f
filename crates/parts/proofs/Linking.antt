-- "Linking parts of one common part in order gives the very words of translating their rules as one text, and the verdict of the whole."
use mathlib.Core.Bool.{Bool, true, false, ◌&&◌, ◌||◌}
use mathlib.Core.List.{List, [], ◌∷◌, ◌++◌}
use mathlib.Core.Option.{Option, none, some}
use mathlib.Core.Path.{◌≡◌, refl, sym, ap, ◌∙◌}
use Prim.Native.Nat.{ℕ, suc, ◌≤◌, min}
use native.Mathlib.Omega.{arith}
use lib.Dec.{eqb, leb, ltb}
use lib.ListN.{length}
use borrow.Author.Tests.{leb-true, ne_eqb, le-ltb}
use Rattle.acceptance.proofs.CheckLaws.{no-good}
use Rattle.acceptance.proofs.Shape.{Each}
use Rattle.base.specs.Bools.{and}
use Rattle.std.specs.Prelude.{if◌then◌else◌}
use Rattle.figure.specs.Told.{Told, told_if}
use Rattle.finishing.specs.Test.{finishing}
use Rattle.names.specs.Declare.{declare_sections, known_rules}
use Rattle.names.specs.Known.{Checked, good, wrong, ◌>>=◌, Names, KnownRule}
use Rattle.names.specs.Understand.{nobody, taken, rules_mean, understand}
use Rattle.names.specs.Uses.{pairs_of, made_for}
use Rattle.parts.proofs.Alike.{Like, both-good, like-on, like-next, like-if, id, type-alike}
use Rattle.parts.proofs.Checks.{typed-first, first-typed, all-alright, all-unlike-off, agree-listed, as-listed, calls_found, listed-agree, opened-calls, apart, not-twice, limits-off, limits-on, made-on, made-off}
use Rattle.parts.proofs.Numbers.{Finds}
use Rattle.parts.proofs.Rules.{Unseen, rules-clear, seen_after, rules-append}
use Rattle.parts.proofs.Sections.{sections-alike}
use Rattle.parts.proofs.Whole.{Translates, no_more, translates, opened-whole, pairs-are, known-are, length-is, Apart, parts-mean, parts-back}
use Rattle.parts.specs.Link.{Linked, linked, refused, Found, rules_of, first_typed, unlike_in, twice_in, past_limit_in, pairs_in, past_made, known_of, closed_in, or_none, program, refused_at, in_text, as_one, link, as_answer, lent_bytes}
use Rattle.parts.specs.Objects.{aims_of, open_rules, OpenRule, Object, together, list_means, open_all, object, in_common, in_part, of_common, of_part, common_means, meaning}
use Rattle.parts.specs.Promise.{LentZero, joined, one_text, Parts, parts_nil, parts_cons, VeryWords, InOrder, OneTextLinks}
use Rattle.processor.specs.Process as one
use Rattle.processor.specs.Process.{Part, part_of, accepted, answer_for}
use Rattle.program.proofs.Lengths.{length-table}
use Rattle.program.specs.Program.{Rule}
use Rattle.program.specs.Table.{size_rules, table}
use Rattle.syntax.specs.Parse.{end_of}
use Rattle.syntax.specs.Sections.{names_in_all}
use Rattle.syntax.specs.Texts.{Head, Common}
use Rattle.syntax.specs.Written as written
use Rattle.syntax.specs.Written.{Program}

pub good-inj : {A : Type 0} {a b : A} → good a ≡ good b → a ≡ b
good-inj e = cc

-- The common part beside any rules

pub record CommonIs (c : Common) (rs : List written.Rule) (n : Names) : Type 0 where
  pub sections : declare_sections (together c rs) c.sections nobody ≡ good n
  pub list : list_means (together c rs) n [] c.listed ≡ good tt

pub common_is : (c : Common) (rs : List written.Rule) (n : Names) → common_means c rs ≡ good n → CommonIs c rs n
unfolding common_means
common_is c rs n e = go (declare_sections (together c rs) c.sections nobody) refl e
  where
    two : (m : Names) → declare_sections (together c rs) c.sections nobody ≡ good m → (x : Checked (Unit {0})) → list_means (together c rs) m [] c.listed ≡ x
        → ◌>>=◌ x (λ _. good m) ≡ good n → CommonIs c rs n
    two m d (good tt) f e₁ = let y : m ≡ n = cc in record { sections = d ∙ ap good y; list = ap (λ (z : Names). list_means (together c rs) z [] c.listed) (sym y) ∙ f }
    two m d (wrong i w) f e₁ = no-good e₁

    go : (x : Checked Names) → declare_sections (together c rs) c.sections nobody ≡ x → ◌>>=◌ x (λ m. ◌>>=◌ (list_means (together c rs) m [] c.listed) (λ _. good m)) ≡ good n → CommonIs c rs n
    go (good m) d e₁ = two m d (list_means (together c rs) m [] c.listed) refl e₁
    go (wrong i w) d e₁ = no-good e₁

pub is-common : (c : Common) (rs : List written.Rule) (n : Names) → CommonIs c rs n → common_means c rs ≡ good n
unfolding common_means
is-common c rs n h = rw (h.sections, h.list)

sections-of : (c : Common) (rs rs' : List written.Rule) (n : Names) → declare_sections (record { sections = c.sections; rules = rs }) c.sections nobody ≡ good n
    → declare_sections (record { sections = c.sections; rules = rs' }) c.sections nobody ≡ good n
sections-of c rs rs' n e = like-on id (sections-alike c.sections rs rs' c.sections nobody) n e

list-alike : (p p' : Program) (n : Names) (seen : List (List ℕ)) (hs : List Head) → Like id (list_means p n seen hs) (list_means p' n seen hs)
unfolding list_means
list-alike p p' n seen [] = both-good tt
list-alike p p' n seen (h ∷ hs) =
    like-if id (taken h.rule n seen) (taken h.rule n seen) 4 h.rule _ _ refl (
    like-next id id _ _ (type-alike p p' n.types h.gives) (λ t _. list-alike p p' n (h.rule.text ∷ seen) hs))

pub common-same : (c : Common) (rs rs' : List written.Rule) (n : Names) → CommonIs c rs n → CommonIs c rs' n
unfolding together
common-same c rs rs' n h = record {
  sections = sections-of c (together c rs).rules (together c rs').rules n h.sections;
  list = like-on id (list-alike (together c rs) (together c rs') n [] c.listed) tt h.list;
}

-- What an object is

no-object {ℓ} : {A : Type ℓ} {n : ℕ} {at : Part} {o : Object} → in_common n at ≡ object o → A
no-object e = let z : ◌≡◌ {A = ℕ} 0 1 = cc in absurd (omega arith)

no-object' {ℓ} : {A : Type ℓ} {n : ℕ} {at : Part} {o : Object} → in_part n at ≡ object o → A
no-object' e = let z : ◌≡◌ {A = ℕ} 0 1 = cc in absurd (omega arith)

pub record ObjectOf (c : Common) (rs : List written.Rule) (o : Object) : Type 0 where
  pub names : Names
  pub common : common_means c rs ≡ good names
  pub rules : List OpenRule
  pub opens : open_all (together c rs) names (open_rules c.listed rs) [] rs ≡ good rules
  pub is : record { rules = rules; uses = pairs_of rs; aims = aims_of c.listed rs } ≡ o

pub object_of : (c : Common) (rs : List written.Rule) (o : Object) → meaning c rs ≡ object o → ObjectOf c rs o
unfolding meaning of_common of_part
object_of c rs o e = go (common_means c rs) refl e
  where
    made : List OpenRule → Object
    made os = record { rules = os; uses = pairs_of rs; aims = aims_of c.listed rs }

    two : (n : Names) → common_means c rs ≡ good n → (x : Checked (List OpenRule)) → open_all (together c rs) n (open_rules c.listed rs) [] rs ≡ x
        → of_part x (λ os. object (made os)) ≡ object o → ObjectOf c rs o
    two n d (good os) f e₁ = let y : made os ≡ o = cc in record { names = n; common = d; rules = os; opens = f; is = y }
    two n d (wrong i w) f e₁ = no-object' e₁

    go : (x : Checked Names) → common_means c rs ≡ x → of_common x (λ n. of_part (open_all (together c rs) n (open_rules c.listed rs) [] rs) (λ os. object (made os))) ≡ object o → ObjectOf c rs o
    go (good n) d e₁ = two n d (open_all (together c rs) n (open_rules c.listed rs) [] rs) refl e₁
    go (wrong i w) d e₁ = no-object e₁

of-object : (c : Common) (n : Names) (rs : List written.Rule) (os : List OpenRule) → common_means c rs ≡ good n → open_all (together c rs) n (open_rules c.listed rs) [] rs ≡ good os
    → meaning c rs ≡ object (record { rules = os; uses = pairs_of rs; aims = aims_of c.listed rs })
unfolding meaning of_common of_part
of-object c n rs os e f = rw (e, f)

translated : (c : Common) (n : Names) → common_means c [] ≡ good n → {rss : List (List written.Rule)} {os : List Object} → Parts c rss os → Translates c n rss os
translated c n e parts_nil = no_more
translated c n e (parts_cons {rs = rs} {rss = rss} {o = o} {os = os} d h) =
    let x = object_of c rs o d in
    let y = is-common c rs n (common-same c [] rs n (common_is c [] n e)) in
    let z : x.names ≡ n = good-inj (sym x.common ∙ y) in
    let opens : open_all (together c rs) n (open_rules c.listed rs) [] rs ≡ good x.rules = rw (← z) x.opens in
    let t = translates opens (translated c n e h) in
    rw x.is at t

parted : (c : Common) (n : Names) → common_means c [] ≡ good n → {rss : List (List written.Rule)} {os : List Object} → Translates c n rss os → Parts c rss os
parted c n e no_more = parts_nil
parted c n e (translates {rs = rs} {os = os} d h) = parts_cons (of-object c n rs os (is-common c rs n (common-same c [] rs n (common_is c [] n e))) d) (parted c n e h)

-- As one program

one-program : (c : Common) (n : Names) {rss : List (List written.Rule)} {os : List Object} → common_means c [] ≡ good n → Translates c n rss os
    → first_typed (rules_of os) ≡ none → unlike_in c.listed (rules_of os) 1 os ≡ none → twice_in [] 1 os ≡ none → past_made n (names_in_all c.sections) (length (rules_of os)) os (pairs_in os) ≡ none
    → understand (one_text c rss) ≡ good (program n (names_in_all c.sections) os)
unfolding understand program or_none together
one-program c n {rss} {os} e t a b d f =
    let whole = joined rss in
    let all = rules_of os in
    let o = opened-whole t in
    let known = known-are 0 o in
    let long = length-is o in
    let pairs = pairs-are t in
    let x = all-alright all 1 t b in
    let listed = rw known at (agree-listed c.listed 0 all x.agree) in
    let called = rw known at (calls_found all _ x.calls) in
    let s = sections-of c (together c []).rules whole n (common_is c [] n e).sections in
    let r = parts-mean c n whole listed [] t called (apart t d) (typed-first o a) in
    let m = made-on n (known_rules 0 whole) (names_in_all c.sections) (length whole) os (pairs_of whole) (rw (long, pairs) at f) in
    rw (known, long, pairs, s, r, m.1)

-- The answer

no-link {ℓ} : {A : Type ℓ} {n i : ℕ} {at : Part} {ws : List ℕ} {v : Bool} {t : Told} → refused n i at ≡ linked ws v t → A
no-link e = let z : ◌≡◌ {A = ℕ} 0 1 = cc in absurd (omega arith)

pub past-check : (n : ℕ) (f : Option Found) (rest : Linked) {ws : List ℕ} {v : Bool} {t : Told} → refused_at n f rest ≡ linked ws v t → (f ≡ none) × (rest ≡ linked ws v t)
unfolding refused_at
past-check n none rest e = (refl, e)
past-check n (some f) rest e = no-link e

pub past-test : (t : Bool) (n i : ℕ) (at : Part) (rest : Linked) {ws : List ℕ} {v : Bool} {told : Told} → (if t then refused n i at else rest) ≡ linked ws v told → (t ≡ false) × (rest ≡ linked ws v told)
past-test true n i at rest e = no-link e
past-test false n i at rest e = (refl, e)

-- what the processor answers for rules that it has understood, where it accepts them
pub record Accepts (room : ℕ) (prog : List Rule) (words : List ℕ) (verdict : Bool) (told : Told) : Type 0 where
  pub words_are : words ≡ table prog
  pub verdict_is : verdict ≡ finishing prog
  pub figure_is : told ≡ told_if (accepted words verdict) prog
  pub fits : length words ≤ room
  pub within_4096 : length words ≤ 4096

pub as_one_lem : (i : ℕ) (last_text : List ℕ) (room : ℕ) (prog : List Rule) (words : List ℕ) (verdict : Bool) (told : Told) → as_one i last_text room prog ≡ linked words verdict told → Accepts room prog words verdict told
unfolding as_one in_text answer_for
as_one_lem i last_text room prog words verdict told e = go (leb (size_rules prog) room && leb (size_rules prog) 4096) refl
  where
    go : (t : Bool) → (leb (size_rules prog) room && leb (size_rules prog) 4096) ≡ t → Accepts room prog words verdict told
    go true d =
        let f : linked (table prog) (finishing prog) (told_if (accepted (table prog) (finishing prog)) prog) ≡ linked words verdict told = rw (as_one, answer_for, d) at e in
        let x : table prog ≡ words = cc in
        let y : finishing prog ≡ verdict = cc in
        let z : told_if (accepted (table prog) (finishing prog)) prog ≡ told = cc in
        let u = and (leb (size_rules prog) room) (leb (size_rules prog) 4096) d in
        let l = length-table prog in
        let l₁ = leb-true (size_rules prog) room u.0 in
        let l₂ = leb-true (size_rules prog) 4096 u.1 in
        record {
          words_are = sym x;
          verdict_is = sym y;
          figure_is = sym z ∙ rw (x, y) refl;
          fits = rw (← x) (omega (arith, l, l₁));
          within_4096 = rw (← x) (omega (arith, l, l₂));
        }
    go false d = no-link (rw (as_one, answer_for, d) at e)

pub very-words : VeryWords
unfolding link
very-words common_text c n last_text rss os room words verdict told e h l =
    let all = rules_of os in
    let others = names_in_all c.sections in
    let t = translated c n e h in
    let a = past-test (eqb (length os) 0 || ltb 16 (length os)) 9 0 (part_of (end_of common_text)) _ l in
    let b = past-check 5 (first_typed all) _ a.1 in
    let d = past-check 49 (unlike_in c.listed all 1 os) _ b.1 in
    let f = past-check 50 (twice_in [] 1 os) _ d.1 in
    let g = past-check 9 (past_limit_in (min 128 c.left) 1 os) _ f.1 in
    let k = past-check 9 (past_made n others (length all) os (pairs_in os)) _ g.1 in
    let w = as_one_lem (length os) last_text room (program n others os) words verdict told k.1 in
    record {
      prog = program n others os;
      means = one-program c n e t b.0 d.0 f.0 k.0;
      words_are = w.words_are;
      verdict_is = w.verdict_is;
      figure_is = w.figure_is;
      fits = w.fits;
      within_4096 = w.within_4096;
    }

-- "then 9 .. for the whole": what is linked keeps to the limits of one text
pub few-linked : (common_text : List ℕ) (c : Common) (n : Names) (last_text : List ℕ) (rss : List (List written.Rule)) (os : List Object) (room : ℕ) (words : List ℕ) (verdict : Bool) (told : Told)
    → common_means c [] ≡ good n → Parts c rss os → link common_text c n last_text os room ≡ linked words verdict told → length (joined rss) ≤ min 128 c.left
unfolding link
few-linked common_text c n last_text rss os room words verdict told e h l =
    let a = past-test (eqb (length os) 0 || ltb 16 (length os)) 9 0 (part_of (end_of common_text)) _ l in
    let b = past-check 5 (first_typed (rules_of os)) _ a.1 in
    let d = past-check 49 (unlike_in c.listed (rules_of os) 1 os) _ b.1 in
    let f = past-check 50 (twice_in [] 1 os) _ d.1 in
    let g = past-check 9 (past_limit_in (min 128 c.left) 1 os) _ f.1 in
    let few = limits-on (min 128 c.left) 1 os g.0 in
    let long = length-is (opened-whole (translated c n e h)) in
    omega arith

-- The other way

record Understood (c : Common) (rss : List (List written.Rule)) (prog : List Rule) : Type 0 where
  names : Names
  sections : declare_sections (one_text c rss) c.sections nobody ≡ good names
  own : List Rule
  rules : rules_mean (one_text c rss) names (known_rules 0 (joined rss)) [] (joined rss) ≡ good own
  made : List Rule
  makes : made_for names (known_rules 0 (joined rss)) (names_in_all c.sections) (length (joined rss)) (pairs_of (joined rss)) ≡ good made
  is : own ++ made ≡ prog

understood : (c : Common) (rss : List (List written.Rule)) (prog : List Rule) → understand (one_text c rss) ≡ good prog → Understood c rss prog
unfolding understand
understood c rss prog e = one' (declare_sections (one_text c rss) c.sections nobody) refl e
  where
    ks : List KnownRule
    ks = known_rules 0 (joined rss)

    makes' : Names → Checked (List Rule)
    makes' n = made_for n ks (names_in_all c.sections) (length (joined rss)) (pairs_of (joined rss))

    three : (n : Names) → declare_sections (one_text c rss) c.sections nobody ≡ good n → (own : List Rule) → rules_mean (one_text c rss) n ks [] (joined rss) ≡ good own
        → (z : Checked (List Rule)) → makes' n ≡ z → ◌>>=◌ z (λ made. good (own ++ made)) ≡ good prog → Understood c rss prog
    three n d own f (good made) g e₁ = let y : own ++ made ≡ prog = cc in record { names = n; sections = d; own = own; rules = f; made = made; makes = g; is = y }
    three n d own f (wrong i w) g e₁ = no-good e₁

    two : (n : Names) → declare_sections (one_text c rss) c.sections nobody ≡ good n → (y : Checked (List Rule)) → rules_mean (one_text c rss) n ks [] (joined rss) ≡ y
        → ◌>>=◌ y (λ own. ◌>>=◌ (makes' n) (λ made. good (own ++ made))) ≡ good prog → Understood c rss prog
    two n d (good own) f e₁ = three n d own f (makes' n) refl e₁
    two n d (wrong i w) f e₁ = no-good e₁

    one' : (x : Checked Names) → declare_sections (one_text c rss) c.sections nobody ≡ x
        → ◌>>=◌ x (λ n. ◌>>=◌ (rules_mean (one_text c rss) n ks [] (joined rss)) (λ own. ◌>>=◌ (makes' n) (λ made. good (own ++ made)))) ≡ good prog → Understood c rss prog
    one' (good n) d e₁ = two n d (rules_mean (one_text c rss) n ks [] (joined rss)) refl e₁
    one' (wrong i w) d e₁ = no-good e₁

parts-length : {c : Common} {n : Names} {rss : List (List written.Rule)} {os : List Object} → Translates c n rss os → length os ≡ length rss
parts-length no_more = refl
parts-length (translates e t) = ap suc (parts-length t)

apart_of : (p : Program) (n : Names) (ks : List KnownRule) (prev : List (List ℕ)) (rss : List (List written.Rule)) (ms : List Rule) → rules_mean p n ks prev (joined rss) ≡ good ms → Apart prev rss
unfolding Apart joined
apart_of p n ks prev [] ms e = tt
apart_of p n ks prev (rs ∷ rss) ms e = go (rules_mean p n ks prev rs) refl (rules_mean p n ks (seen_after prev rs) (joined rss)) refl (apart_of p n ks (seen_after prev rs) rss)
  where
    go : (x : Checked (List Rule)) → rules_mean p n ks prev rs ≡ x → (y : Checked (List Rule)) → rules_mean p n ks (seen_after prev rs) (joined rss) ≡ y
        → ((ns : List Rule) → rules_mean p n ks (seen_after prev rs) (joined rss) ≡ good ns → Apart (seen_after prev rs) rss) → Unseen prev rs × Apart (seen_after prev rs) rss
    go (good xs) d (good ys) f ih = ((rules-clear p n ks prev rs xs d).unseen, ih ys f)
    go (good xs) d (wrong i w) f ih = no-good (rw (d, f) at (sym (rules-append p n ks prev rs (joined rss)) ∙ e))
    go (wrong i w) d y f ih = no-good (rw d at (sym (rules-append p n ks prev rs (joined rss)) ∙ e))

links-with : (c : Common) (n : Names) (rss : List (List written.Rule)) (os : List Object) (prog : List Rule) → InOrder c n rss → Translates c n rss os → (u : Understood c rss prog) → u.names ≡ n
    → closed_in n (known_rules 0 (joined rss)) (length (joined rss)) (pairs_of (joined rss)) os ≡ u.own → (common_text last_text : List ℕ) (room : ℕ)
    → link common_text c n last_text os room ≡ as_one (length rss) last_text room prog
unfolding link program or_none refused_at
links-with c n rss os prog h t u same_names own_is common_text last_text room =
    let whole = joined rss in
    let all = rules_of os in
    let ks = known_rules 0 whole in
    let others = names_in_all c.sections in
    let o = opened-whole t in
    let known = known-are 0 o in
    let long = length-is o in
    let pairs = pairs-are t in
    let few = parts-length t in
    let rules : rules_mean (one_text c rss) n ks [] whole ≡ good u.own = rw (← same_names) u.rules in
    let makes : made_for n ks others (length whole) (pairs_of whole) ≡ good u.made = rw (← same_names) u.makes in
    let clear = rules-clear (one_text c rss) n ks [] whole u.own rules in
    let some_part : eqb (length rss) 0 ≡ false = ne_eqb (length rss) 0 (λ e. omega (arith, h.some_part, e)) in
    let few_parts : ltb 16 (length rss) ≡ false = le-ltb 16 (length rss) h.few_parts in
    let found : Each (Finds (known_of 0 all)) _ = rw (← known) at clear.called in
    let five = first-typed o clear.untyped in
    let forty-nine = all-unlike-off c.listed all 1 os (listed-agree c.listed o h.listed) (opened-calls all o found) in
    let fifty = not-twice t (apart_of (one_text c rss) n ks [] rss u.own rules) in
    let nine = limits-off (min 128 c.left) 1 os (omega (arith, long, h.few_rules)) in
    let made-nine : past_made n others (length all) os (pairs_in os) ≡ none = rw (long, pairs) (made-off n ks others (length whole) os (pairs_of whole) (u.made, makes)) in
    let is : closed_in n (known_of 0 all) (length all) (pairs_in os) os ++ or_none (made_for n (known_of 0 all) others (length all) (pairs_in os)) ≡ prog = rw (known, long, pairs, own_is, makes) u.is in
    rw (five, forty-nine, fifty, nine, made-nine, few, some_part, few_parts, is)

pub one-text-links : OneTextLinks
unfolding together
one-text-links c n rss prog h e =
    let u = understood c rss prog e in
    let s = sections-of c (together c []).rules (joined rss) n (common_is c [] n h.common).sections in
    let names : u.names ≡ n = good-inj (sym u.sections ∙ s) in
    let rules : rules_mean (one_text c rss) n (known_rules 0 (joined rss)) [] (joined rss) ≡ good u.own = rw (← names) u.rules in
    let a = parts-back c n (joined rss) (as-listed c.listed 0 (joined rss) h.listed) [] rss u.own rules in
    record { objects = a.objects; parts = parted c n h.common a.parts; links = links-with c n rss a.objects prog h a.parts u names a.are }

-- What is lent

pub lent-zero : LentZero
unfolding lent_bytes as_answer one.lent_bytes one.lent_words
lent-zero n i at lent = refl
