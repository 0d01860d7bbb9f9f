-- What the checks of linking say of the rules, and when they find nothing.
use mathlib.Core.Bool.{Bool, true, false, ◌||◌, not}
use mathlib.Core.List.{List, [], ◌∷◌, ◌++◌}
use mathlib.Core.Option.{Option, none, some}
use mathlib.Core.Path.{◌≡◌, refl, sym, ap, ◌∙◌}
use Prim.Native.Nat.{ℕ, zero, suc, ◌+◌, ◌-◌, ◌≤◌}
use native.Mathlib.Omega.{arith}
use lib.ListN.{length, length-append}
use Rattle.acceptance.proofs.CheckLaws.{no-good}
use Rattle.acceptance.proofs.NamesOk.{each_append}
use Rattle.acceptance.proofs.Shape.{Each}
use Rattle.base.proofs.Laws.{same-eq}
use Rattle.base.specs.Bools.{never}
use Rattle.base.specs.Common.{same, given}
use Rattle.names.specs.Declare.{known_rules}
use Rattle.names.specs.Known.{Checked, good, wrong, KnownRule, Names}
use Rattle.names.specs.Understand.{is_one, is_first}
use Rattle.names.specs.Uses.{Use, levels_used, operand_of, made_for}
use Rattle.parts.proofs.Numbers.{none-some, Finds, each_map}
use Rattle.parts.proofs.Rules.{Unseen, NotTyped, Opened, opened-nil, opened-cons, all-opened, seen_after}
use Rattle.parts.proofs.Whole.{Translates, no_more, translates, head-text, Listed, named-found, found-named, calls-append, Apart}
use Rattle.parts.specs.Link.{Found, or◌else◌, found_if, rules_of, is_named, first_typed, listed_type, agrees, open_call, unlike, unlike_in, twice, twice_in, past_limit, past_limit_in, passes, past_made, text_using, text_of, known_of}
use Rattle.parts.specs.Objects.{calls_all, calls_in, open_rules, OpenRule, Object, together}
use Rattle.parts.specs.Promise.{joined, AsListed}
use Rattle.program.specs.Made.{level_rules}
use Rattle.program.specs.Program as means
use Rattle.syntax.specs.Texts.{Head, Common}
use Rattle.syntax.specs.Written as written
use Rattle.words.specs.Words.{Word}

pub or-none : (a b : Option Found) → (or a else b) ≡ none → (a ≡ none) × (b ≡ none)
unfolding or◌else◌
or-none none b e = (refl, e)
or-none (some f) b e = none-some (sym e)

none_or : (a b : Option Found) → a ≡ none → b ≡ none → (or a else b) ≡ none
unfolding or◌else◌
none_or a b d e = rw (d, e)

pub found-off : (t : Bool) (i : ℕ) (w : Word) → found_if t i w ≡ none → t ≡ false
unfolding found_if
found-off true i w e = none-some (sym e)
found-off false i w e = refl

off-found : (t : Bool) (i : ℕ) (w : Word) → t ≡ false → found_if t i w ≡ none
unfolding found_if
off-found t i w e = rw e

pub not-off : (t : Bool) → not t ≡ false → t ≡ true
not-off true e = refl
not-off false e = sym e

-- 5

pub typed-first : {rs : List written.Rule} {os : List OpenRule} → Opened rs os → first_typed os ≡ none → NotTyped [] rs
unfolding NotTyped first_typed is_first
typed-first opened-nil e = tt
typed-first (opened-cons {o = o} x g) e = ap given (sym x.gives) ∙ found-off (given o.gives) 1 o.name e

pub first-typed : {rs : List written.Rule} {os : List OpenRule} → Opened rs os → NotTyped [] rs → first_typed os ≡ none
unfolding NotTyped first_typed is_first
first-typed opened-nil e = refl
first-typed (opened-cons {o = o} x g) e = off-found (given o.gives) 1 o.name (ap given x.gives ∙ e)

-- 49

-- a rule is of the sort and type that the list gives its name
abbrev pub Agrees : List Head → OpenRule → Type 0
Agrees hs o = agrees o.gives (listed_type o.name.text hs) ≡ true

abbrev pub CallsIn : List OpenRule → List Word → Type 0
CallsIn all ws = Each (λ w. is_named w.text all ≡ true) ws

pub calls-there : (hs : List Head) (all : List OpenRule) (i : ℕ) (ws : List Word) → open_call hs all i ws ≡ none → CallsIn all ws
unfolding open_call Each
calls-there hs all i [] e = tt
calls-there hs all i (w ∷ ws) e =
    let x = or-none (found_if (not (is_named w.text all)) i w) (open_call hs all i ws) e in
    (not-off (is_named w.text all) (found-off (not (is_named w.text all)) i w x.0), calls-there hs all i ws x.1)

there-calls : (hs : List Head) (all : List OpenRule) (i : ℕ) (ws : List Word) → CallsIn all ws → open_call hs all i ws ≡ none
unfolding open_call Each
there-calls hs all i [] h = refl
there-calls hs all i (w ∷ ws) h =
    none_or (found_if (not (is_named w.text all)) i w) (open_call hs all i ws) (off-found (not (is_named w.text all)) i w (ap not h.0)) (there-calls hs all i ws h.1)

pub record Alright (hs : List Head) (all : List OpenRule) (rs : List written.Rule) (os : List OpenRule) : Type 0 where
  pub agree : Each (Agrees hs) os
  pub calls : CallsIn all (calls_in rs)

alright : (hs : List Head) (all : List OpenRule) (i : ℕ) {rs : List written.Rule} {os : List OpenRule} → Opened rs os → unlike hs all i os ≡ none → Alright hs all rs os
unfolding unlike calls_in Each
alright hs all i opened-nil e = record { agree = tt; calls = tt }
alright hs all i (opened-cons {r = r} {rs = rs} {o = o} {os = os} x g) e =
    let t = agrees o.gives (listed_type o.name.text hs) in
    let a = or-none (found_if (not t) i o.name) _ e in
    let b = or-none (open_call hs all i o.calls) (unlike hs all i os) a.1 in
    let h = alright hs all i g b.1 in
    record {
      agree = (not-off t (found-off (not t) i o.name a.0), h.agree);
      calls = each_append (λ w. is_named w.text all ≡ true) (calls_all r.body) (calls_in rs) (rw x.calls at (calls-there hs all i o.calls b.0)) h.calls;
    }

unlike-off : (hs : List Head) (all : List OpenRule) (i : ℕ) (os : List OpenRule) → Each (Agrees hs) os → Each (λ o. CallsIn all o.calls) os → unlike hs all i os ≡ none
unfolding unlike Each
unlike-off hs all i [] g h = refl
unlike-off hs all i (o ∷ os) g h =
    let t = agrees o.gives (listed_type o.name.text hs) in
    none_or (found_if (not t) i o.name) _ (off-found (not t) i o.name (ap not g.0))
    (none_or (open_call hs all i o.calls) (unlike hs all i os) (there-calls hs all i o.calls h.0) (unlike-off hs all i os g.1 h.1))

each_part : {A : Type 0} (P : A → Type 0) (xs ys : List A) → Each P (xs ++ ys) → Each P xs × Each P ys
unfolding Each
each_part P [] ys h = (tt, h)
each_part P (x ∷ xs) ys h = let k = each_part P xs ys h.1 in ((h.0, k.0), k.1)

pub all-alright : {c : Common} {n : Names} {rss : List (List written.Rule)} {objects : List Object} (all : List OpenRule) (i : ℕ) → Translates c n rss objects
    → unlike_in c.listed all i objects ≡ none → Alright c.listed all (joined rss) (rules_of objects)
unfolding rules_of unlike_in joined calls_in Each
all-alright all i no_more e = record { agree = tt; calls = tt }
all-alright {c} {n} all i (translates {rs = rs} {rss = rss} {os = os} {objects = objects} d t) e =
    let hs = c.listed in
    let x = or-none (unlike hs all i os) (unlike_in hs all (suc i) objects) e in
    let a = alright hs all i (all-opened (together c rs) n (open_rules hs rs) [] rs os d) x.0 in
    let b = all-alright all (suc i) t x.1 in
    let z = each_append (λ w. is_named w.text all ≡ true) (calls_in rs) (calls_in (joined rss)) a.calls b.calls in
    record { agree = each_append (Agrees hs) os (rules_of objects) a.agree b.agree; calls = rw (calls-append rs (joined rss)) z }

pub all-unlike-off : (hs : List Head) (all : List OpenRule) (i : ℕ) (objects : List Object) → Each (Agrees hs) (rules_of objects) → Each (λ o. CallsIn all o.calls) (rules_of objects)
    → unlike_in hs all i objects ≡ none
unfolding rules_of unlike_in
all-unlike-off hs all i [] g h = refl
all-unlike-off hs all i (o ∷ os) g h =
    let a = each_part (Agrees hs) o.rules (rules_of os) g in
    let b = each_part (λ x. CallsIn all x.calls) o.rules (rules_of os) h in
    none_or (unlike hs all i o.rules) (unlike_in hs all (suc i) os) (unlike-off hs all i o.rules a.0 b.0) (all-unlike-off hs all (suc i) os a.1 b.1)

pub agrees-text : (g : Option Word) (t : Option (List ℕ)) → agrees g t ≡ true → text_of g ≡ t
unfolding agrees text_of
agrees-text none none e = refl
agrees-text none (some t) e = never e
agrees-text (some w) none e = never e
agrees-text (some w) (some t) e = ap some (same-eq w.text t e)

pub agree-listed : (hs : List Head) (i : ℕ) (os : List OpenRule) → Each (Agrees hs) os → Each (Listed hs) (known_of i os)
unfolding known_of Each
agree-listed hs i [] h = tt
agree-listed hs i (o ∷ os) h = (agrees-text o.gives (listed_type o.name.text hs) h.0, agree-listed hs (suc i) os h.1)

pub as-listed : (hs : List Head) (i : ℕ) (rs : List written.Rule) → Each (AsListed hs) rs → Each (Listed hs) (known_rules i rs)
unfolding known_rules Each
as-listed hs i [] h = tt
as-listed hs i (r ∷ rs) h = (sym (head-text r.gives) ∙ agrees-text r.gives (listed_type r.rule.text hs) h.0, as-listed hs (suc i) rs h.1)

pub calls_found : (all : List OpenRule) (ws : List Word) → CallsIn all ws → Each (Finds (known_of 0 all)) ws
calls_found all ws h = each_map (λ w. is_named w.text all ≡ true) (Finds (known_of 0 all)) ws (λ w e. named-found w 0 all e) h

pub listed-agree : (hs : List Head) {rs : List written.Rule} {os : List OpenRule} → Opened rs os → Each (AsListed hs) rs → Each (Agrees hs) os
unfolding Each
listed-agree hs opened-nil h = tt
listed-agree hs (opened-cons {o = o} x g) h = (rw (x.gives, x.name) h.0, listed-agree hs g h.1)

pub opened-calls : (all : List OpenRule) {rs : List written.Rule} {os : List OpenRule} → Opened rs os → Each (Finds (known_of 0 all)) (calls_in rs) → Each (λ o. CallsIn all o.calls) os
unfolding calls_in Each
opened-calls all opened-nil h = tt
opened-calls all (opened-cons {r = r} {rs = rs} {o = o} x g) h =
    let a = each_part (Finds (known_of 0 all)) (calls_all r.body) (calls_in rs) h in
    let b = each_map (Finds (known_of 0 all)) (λ w. is_named w.text all ≡ true) (calls_all r.body) (λ w f. found-named w 0 all f) a.0 in
    (rw x.calls b, opened-calls all g a.1)

-- 50

comm-or : (a b : Bool) → (a || b) ≡ (b || a)
comm-or true true = refl
comm-or true false = refl
comm-or false true = refl
comm-or false false = refl

turn-or : (a b c : Bool) → (b || (a || c)) ≡ ((a || b) || c)
turn-or true true c = refl
turn-or true false c = refl
turn-or false true c = refl
turn-or false false c = refl

abbrev Same : List (List ℕ) → List OpenRule → Type 0
Same prev before = (w : List ℕ) → is_one w prev ≡ is_named w before

named-append : (w : List ℕ) (os us : List OpenRule) → is_named w (os ++ us) ≡ (is_named w os || is_named w us)
unfolding is_named
named-append w [] us = refl
named-append w (o ∷ os) us = ap (λ (t : Bool). same w o.name.text || t) (named-append w os us) ∙ sym (or_assoc (same w o.name.text) (is_named w os) (is_named w us))
  where
    or_assoc : (a b c : Bool) → ((a || b) || c) ≡ (a || (b || c))
    or_assoc true b c = refl
    or_assoc false b c = refl

one-after : (w : List ℕ) (prev : List (List ℕ)) {rs : List written.Rule} {os : List OpenRule} → Opened rs os → is_one w (seen_after prev rs) ≡ (is_named w os || is_one w prev)
unfolding seen_after is_one is_named
one-after w prev opened-nil = refl
one-after w prev (opened-cons {r = r} {o = o} {os = os} x g) =
    let e = one-after w (r.rule.text ∷ prev) g in
    let d : same w r.rule.text ≡ same w o.name.text = ap (λ (v : Word). same w v.text) (sym x.name) in
    e ∙ ap (λ (t : Bool). is_named w os || (t || is_one w prev)) d ∙ turn-or (same w o.name.text) (is_named w os) (is_one w prev)

same_after : (prev : List (List ℕ)) (before : List OpenRule) {rs : List written.Rule} {os : List OpenRule} → Opened rs os → Same prev before → Same (seen_after prev rs) (before ++ os)
same_after prev before {os = os} g h w =
    one-after w prev g ∙ ap (λ (t : Bool). is_named w os || t) (h w) ∙ comm-or (is_named w os) (is_named w before) ∙ sym (named-append w before os)

unseen : (prev : List (List ℕ)) (before : List OpenRule) (i : ℕ) {rs : List written.Rule} {os : List OpenRule} → Opened rs os → Same prev before → twice before i os ≡ none → Unseen prev rs
unfolding twice Each
unseen prev before i opened-nil h e = tt
unseen prev before i (opened-cons {r = r} {o = o} {os = os} x g) h e =
    let a = or-none (found_if (is_named o.name.text before) i o.name) (twice before i os) e in
    let y = h o.name.text ∙ found-off (is_named o.name.text before) i o.name a.0 in
    (ap (λ (v : Word). is_one v.text prev) (sym x.name) ∙ y, unseen prev before i g h a.1)

seen-not : (prev : List (List ℕ)) (before : List OpenRule) (i : ℕ) {rs : List written.Rule} {os : List OpenRule} → Opened rs os → Same prev before → Unseen prev rs → twice before i os ≡ none
unfolding twice Each
seen-not prev before i opened-nil h u = refl
seen-not prev before i (opened-cons {r = r} {o = o} {os = os} x g) h u =
    let y : is_named o.name.text before ≡ false = sym (h o.name.text) ∙ ap (λ (v : Word). is_one v.text prev) x.name ∙ u.0 in
    none_or (found_if (is_named o.name.text before) i o.name) (twice before i os) (off-found (is_named o.name.text before) i o.name y) (seen-not prev before i g h u.1)

apart_from : {c : Common} {n : Names} (prev : List (List ℕ)) (before : List OpenRule) (i : ℕ) {rss : List (List written.Rule)} {objects : List Object} → Translates c n rss objects → Same prev before
    → twice_in before i objects ≡ none → Apart prev rss
unfolding twice_in Apart
apart_from prev before i no_more h e = tt
apart_from {c} {n} prev before i (translates {rs = rs} {os = os} {objects = objects} d t) h e =
    let x = or-none (twice before i os) (twice_in (before ++ os) (suc i) objects) e in
    let g = all-opened (together c rs) n (open_rules c.listed rs) [] rs os d in
    (unseen prev before i g h x.0, apart_from (seen_after prev rs) (before ++ os) (suc i) t (λ w. same_after prev before g h w) x.1)

pub apart : {c : Common} {n : Names} {rss : List (List written.Rule)} {objects : List Object} → Translates c n rss objects → twice_in [] 1 objects ≡ none → Apart [] rss
apart t e = apart_from [] [] 1 t (λ w. unfold is_one is_named in refl) e

apart-back : {c : Common} {n : Names} (prev : List (List ℕ)) (before : List OpenRule) (i : ℕ) {rss : List (List written.Rule)} {objects : List Object} → Translates c n rss objects → Same prev before
    → Apart prev rss → twice_in before i objects ≡ none
unfolding twice_in Apart
apart-back prev before i no_more h a = refl
apart-back {c} {n} prev before i (translates {rs = rs} {os = os} {objects = objects} d t) h a =
    let g = all-opened (together c rs) n (open_rules c.listed rs) [] rs os d in
    none_or (twice before i os) (twice_in (before ++ os) (suc i) objects) (seen-not prev before i g h a.0) (apart-back (seen_after prev rs) (before ++ os) (suc i) t (λ w. same_after prev before g h w) a.1)

pub not-twice : {c : Common} {n : Names} {rss : List (List written.Rule)} {objects : List Object} → Translates c n rss objects → Apart [] rss → twice_in [] 1 objects ≡ none
not-twice t a = apart-back [] [] 1 t (λ w. unfold is_one is_named in refl) a

-- 9

limit-off : (left i : ℕ) (os : List OpenRule) → length os ≤ left → past_limit left i os ≡ none
unfolding past_limit
limit-off left i [] h = refl
limit-off zero i (o ∷ os) h = absurd (omega (arith, h))
limit-off (suc left) i (o ∷ os) h = limit-off left i os (omega (arith, h))

pub limits-off : (left i : ℕ) (objects : List Object) → length (rules_of objects) ≤ left → past_limit_in left i objects ≡ none
unfolding past_limit_in rules_of
limits-off left i [] h = refl
limits-off left i (o ∷ os) h =
    let l = length-append o.rules (rules_of os) in
    none_or (past_limit left i o.rules) (past_limit_in (left - length o.rules) (suc i) os) (limit-off left i o.rules (omega (arith, l, h))) (limits-off (left - length o.rules) (suc i) os (omega (arith, l, h)))

limit-on : (left i : ℕ) (os : List OpenRule) → past_limit left i os ≡ none → length os ≤ left
unfolding past_limit
limit-on left i [] e = omega arith
limit-on zero i (o ∷ os) e = none-some (sym e)
limit-on (suc left) i (o ∷ os) e = let h = limit-on left i os e in omega (arith, h)

pub limits-on : (left i : ℕ) (objects : List Object) → past_limit_in left i objects ≡ none → length (rules_of objects) ≤ left
unfolding past_limit_in rules_of
limits-on left i [] e = omega arith
limits-on left i (o ∷ os) e =
    let x = or-none (past_limit left i o.rules) (past_limit_in (left - length o.rules) (suc i) os) e in
    let a = limit-on left i o.rules x.0 in
    let b = limits-on (left - length o.rules) (suc i) os x.1 in
    let l = length-append o.rules (rules_of os) in
    omega (arith, l, a, b)

-- 9 at a `^`

abbrev pub MadeOf : Names → List KnownRule → ℕ → ℕ → List Use → Type 0
MadeOf n ks others own us = (ms : List means.Rule) × (made_for n ks others own us ≡ good ms)

pub made-on : (n : Names) (ks : List KnownRule) (others own : ℕ) (os : List Object) (us : List Use) → past_made n others own os us ≡ none → MadeOf n ks others own us
unfolding past_made made_for passes
made-on n ks others own os [] e = ([], refl)
made-on n ks others own os (u ∷ us) e =
    let t = passes others own (levels_used n u) in
    let x = or-none (found_if t (text_using u 1 os) u.sign) (past_made n others (own + length (levels_used n u)) os us) e in
    let d = found-off t (text_using u 1 os) u.sign x.0 in
    go (made-on n ks others (own + length (levels_used n u)) os us x.1) d
  where
    go : MadeOf n ks others (own + length (levels_used n u)) us → passes others own (levels_used n u) ≡ false → MadeOf n ks others own (u ∷ us)
    go m d = (level_rules own (operand_of ks u) (levels_used n u) ++ m.0, rw (made_for, d, m.1))

pub made-off : (n : Names) (ks : List KnownRule) (others own : ℕ) (os : List Object) (us : List Use) → MadeOf n ks others own us → past_made n others own os us ≡ none
unfolding past_made made_for passes
made-off n ks others own os [] h = refl
made-off n ks others own os (u ∷ us) h =
    go (passes others own (levels_used n u)) refl (made_for n ks others (own + length (levels_used n u)) us) refl (made-off n ks others (own + length (levels_used n u)) os us)
  where
    more : List means.Rule
    more = level_rules own (operand_of ks u) (levels_used n u)

    go : (t : Bool) → passes others own (levels_used n u) ≡ t → (m : Checked (List means.Rule)) → made_for n ks others (own + length (levels_used n u)) us ≡ m
        → (MadeOf n ks others (own + length (levels_used n u)) us → past_made n others (own + length (levels_used n u)) os us ≡ none) → past_made n others own os (u ∷ us) ≡ none
    go true d m f ih = no-good (rw (made_for, d) at h.1)
    go false d (good ms) f ih =
        none_or (found_if (passes others own (levels_used n u)) (text_using u 1 os) u.sign) (past_made n others (own + length (levels_used n u)) os us) (off-found _ (text_using u 1 os) u.sign d) (ih (ms, f))
    go false d (wrong i w) f ih = no-good (rw (made_for, d, f) at h.1)
