-- The parts' rules, linked, are what the rules mean as one program; and if they mean something as one program, each part does by itself.
use mathlib.Core.Bool.{Bool, true, false, ◌||◌}
use mathlib.Core.List.{List, [], ◌∷◌, ◌++◌, append_assoc}
use mathlib.Core.Option.{Option, none, some}
use mathlib.Core.Path.{◌≡◌, refl, sym, ap, ◌∙◌}
use Prim.Native.Nat.{ℕ, suc}
use lib.ListN.{length}
use Rattle.acceptance.proofs.CheckLaws.{no-good}
use Rattle.acceptance.proofs.Shape.{Each}
use Rattle.acceptance.proofs.Used.{UseOk, firsts-each, rules-used}
use Rattle.base.specs.Bools.{never}
use Rattle.base.specs.Common.{same}
use Rattle.names.specs.Declare.{known_rules}
use Rattle.names.specs.Known.{Checked, good, wrong, ◌>>=◌, KnownRule, Names, find_rule}
use Rattle.names.specs.Understand.{is_one, is_first, rules_mean}
use Rattle.names.specs.Uses.{Use, rules_uses, is_used, firsts, pairs_of}
use Rattle.parts.proofs.Alike.{Like, like-on, like-back, Renamed, Reranked, each_left, each_right}
use Rattle.parts.proofs.Numbers.{none-some, found-each, open-call, Finds, each_map, open-found, Sectioned, use-sectioned, use-open, open-use}
use Rattle.parts.proofs.Pairs.{uses-append, together-pairs, together-length, firsts-behind, part-pairs, uses-paired}
use Rattle.parts.proofs.Rules.{Unseen, NotTyped, rules-clear, all-used, Opened, opened-nil, opened-cons, opened-append, all-opened, rules-alike, seen_after, rules-append}
use Rattle.parts.specs.Link.{rules_of, is_named, listed_type, uses_of, pairs_in, text_of, known_of, place_for, closing, closed, closed_in}
use Rattle.parts.specs.Objects.{calls_all, calls_in, named, aims_of, open_rules, open_names, OpenRule, Object, together, open_all}
use Rattle.parts.specs.Promise.{joined}
use Rattle.program.specs.Program as means
use Rattle.syntax.specs.Texts.{Head, Common}
use Rattle.syntax.specs.Written as written
use Rattle.syntax.specs.Written.{Program}
use Rattle.words.specs.Words.{Word}

-- Parts and their objects

-- each part translated by itself, over the names n of the common part
pub data Translates (c : Common) (n : Names) : List (List written.Rule) → List Object → Type 0 where
  no_more : Translates c n [] []
  translates : {rs : List written.Rule} {rss : List (List written.Rule)} {os : List OpenRule} {objects : List Object}
      → open_all (together c rs) n (open_rules c.listed rs) [] rs ≡ good os → Translates c n rss objects
      → Translates c n (rs ∷ rss) (record { rules = os; uses = pairs_of rs; aims = aims_of c.listed rs } ∷ objects)

pub opened-whole : {c : Common} {n : Names} {rss : List (List written.Rule)} {objects : List Object} → Translates c n rss objects → Opened (joined rss) (rules_of objects)
unfolding joined rules_of
opened-whole no_more = opened-nil
opened-whole {c} {n} (translates {rs = rs} {os = os} e t) = opened-append (all-opened (together c rs) n (open_rules c.listed rs) [] rs os e) (opened-whole t)

pub pairs-whole : {c : Common} {n : Names} {rss : List (List written.Rule)} {objects : List Object} → Translates c n rss objects → (b : List Use)
    → firsts b (uses_of objects) ≡ firsts b (rules_uses (joined rss))
unfolding joined uses_of rules_uses
pairs-whole no_more b = refl
pairs-whole {c} {n} (translates {rs = rs} {rss = rss} {objects = objects} e t) b =
    part-pairs b rs (uses_of objects) ∙ firsts-behind (rules_uses rs) (uses_of objects) (rules_uses (joined rss)) (λ d. pairs-whole t d) b ∙ ap (firsts b) (sym (uses-append rs (joined rss)))

pub pairs-are : {c : Common} {n : Names} {rss : List (List written.Rule)} {objects : List Object} → Translates c n rss objects → pairs_in objects ≡ pairs_of (joined rss)
unfolding pairs_in pairs_of
pairs-are t = pairs-whole t []

-- the names of the whole

pub head-text : (x : Option Word) → ◌≡◌ {A = Option (List ℕ)} (text_of x) (elim x as (λ _. Option (List ℕ)) [ none ↦ none | some w ↦ some w.text ])
unfolding text_of
head-text none = refl
head-text (some w) = refl

pub known-are : {rs : List written.Rule} {os : List OpenRule} (i : ℕ) → Opened rs os → known_of i os ≡ known_rules i rs
unfolding known_of known_rules
known-are i opened-nil = refl
known-are i (opened-cons {r = r} {rs = rs} {o = o} {os = os} x g) =
    let e = known-are (suc i) g in
    let a = ap (λ (v : Word). v.text) x.name in
    let b : text_of o.gives ≡ elim r.gives as (λ _. Option (List ℕ)) [ none ↦ none | some w ↦ some w.text ] = ap text_of x.gives ∙ head-text r.gives in
    rw (e, a, b)

pub length-is : {rs : List written.Rule} {os : List OpenRule} → Opened rs os → length os ≡ length rs
length-is opened-nil = refl
length-is (opened-cons x g) = ap suc (length-is g)

-- a name that is some rule's is found, and the other way
pub named-found : (w : Word) (i : ℕ) (os : List OpenRule) → is_named w.text os ≡ true → Finds (known_of i os) w
unfolding is_named known_of find_rule
named-found w i [] e = never e
named-found w i (o ∷ os) e = go (same w.text o.name.text) refl (named-found w (suc i) os)
  where
    own : KnownRule
    own = record { named = o.name.text; place = i; gives = text_of o.gives }

    go : (t : Bool) → same w.text o.name.text ≡ t → (is_named w.text os ≡ true → Finds (known_of (suc i) os) w) → Finds (own ∷ known_of (suc i) os) w
    go true d ih = (own, rw (find_rule, d))
    go false d ih = let x = ih (rw (is_named, d) at e) in (x.0, rw (find_rule, d) x.1)

pub found-named : (w : Word) (i : ℕ) (os : List OpenRule) → Finds (known_of i os) w → is_named w.text os ≡ true
unfolding is_named known_of find_rule
found-named w i [] h = none-some h.1
found-named w i (o ∷ os) h = go (same w.text o.name.text) refl (found-named w (suc i) os)
  where
    go : (t : Bool) → same w.text o.name.text ≡ t → (Finds (known_of (suc i) os) w → is_named w.text os ≡ true) → (t || is_named w.text os) ≡ true
    go true d ih = refl
    go false d ih = ih (h.0, rw (find_rule, d) at h.1)

pub calls-append : (rs ss : List written.Rule) → calls_in (rs ++ ss) ≡ calls_in rs ++ calls_in ss
unfolding calls_in
calls-append [] ss = refl
calls-append (r ∷ rs) ss = ap (λ (v : List Word). calls_all r.body ++ v) (calls-append rs ss) ∙ sym (append_assoc (calls_all r.body) (calls_in rs) (calls_in ss))

each_both : {A : Type 0} (P Q R : A → Type 0) (xs : List A) → ((x : A) → P x → Q x → R x) → Each P xs → Each Q xs → Each R xs
unfolding Each
each_both P Q R [] f g h = tt
each_both P Q R (x ∷ xs) f g h = (f x g.0 h.0, each_both P Q R xs f g.1 h.1)

-- the sort of a rule is the list's
abbrev pub Listed : List Head → KnownRule → Type 0
Listed hs k = k.gives ≡ listed_type k.named hs

not_first : (prev : List (List ℕ)) (rs : List written.Rule) → is_first prev ≡ false → NotTyped prev rs
unfolding NotTyped
not_first prev [] e = tt
not_first prev (r ∷ rs) e = rw e

after_first : (prev : List (List ℕ)) (rs : List written.Rule) → is_first prev ≡ false → is_first (seen_after prev rs) ≡ false
unfolding seen_after is_first
after_first prev [] e = e
after_first prev (r ∷ rs) e = after_first (r.rule.text ∷ prev) rs refl

-- the first of all rules is in the first part or later
typed-here : (prev : List (List ℕ)) (rs ss : List written.Rule) → NotTyped prev (rs ++ ss) → NotTyped prev rs
unfolding NotTyped
typed-here prev [] ss h = tt
typed-here prev (r ∷ rs) ss h = h

typed-later : (prev : List (List ℕ)) (rs ss : List written.Rule) → NotTyped prev (rs ++ ss) → NotTyped (seen_after prev rs) ss
unfolding seen_after is_first
typed-later prev [] ss h = h
typed-later prev (r ∷ rs) ss h = not_first (seen_after (r.rule.text ∷ prev) rs) ss (after_first (r.rule.text ∷ prev) rs refl)

-- none of a part's names is one before
unfoldable pub Apart : List (List ℕ) → List (List written.Rule) → Type 0
Apart prev [] = Unit {0}
Apart prev (rs ∷ rss) = Unseen prev rs × Apart (seen_after prev rs) rss

module _ (c : Common) (n : Names) (whole : List written.Rule) (listed : Each (Listed c.listed) (known_rules 0 whole)) where
  abbrev p : Program
  p = record { sections = c.sections; rules = whole }

  abbrev ks : List KnownRule
  ks = known_rules 0 whole

  abbrev hs : List Head
  hs = c.listed

  -- what the calls of a part become
  abbrev to : List written.Rule → ℕ → ℕ
  to rs = closing n ks (length whole) (pairs_of whole) (aims_of hs rs)

  renamed : (rs : List written.Rule) (w : Word) → Finds (open_rules hs rs) w → Finds ks w → Renamed (open_rules hs rs) ks (to rs) w
  unfolding closing place_for
  renamed rs w a b =
      let x = open-call hs rs w.text a.0 a.1 in
      let y = found-each (Listed hs) w.text ks b.0 b.1 listed in
      let z : closing n ks (length whole) (pairs_of whole) (aims_of hs rs) a.0.place ≡ b.0.place = ap (place_for n ks (length whole) (pairs_of whole)) x.aim ∙ at_name in
      record {
        mine = a.0;
        other = b.0;
        here = a.1;
        found = b.1;
        place = sym z;
        gives = y.0 ∙ ap (λ (v : List ℕ). listed_type v hs) y.1 ∙ sym x.gives;
      }
    where
      at_name : place_for n ks (length whole) (pairs_of whole) (named w.text) ≡ b.0.place
      at_name = rw (place_for, b.1)

  reranked : (rs : List written.Rule) → Each (Sectioned n) (pairs_of rs) → (u : Use) → is_used u (pairs_of rs) ≡ true → Reranked (together c rs) p n (to rs) u
  unfolding closing place_for
  reranked rs h u e =
      let x = open-use hs rs n u h e (pairs_of whole) (length whole) (place_for n ks (length whole) (pairs_of whole)) (λ v. refl) in
      rw (together-length c rs, together-pairs c rs) x

  part-alike : (prev : List (List ℕ)) (rs : List written.Rule) → Each (Finds ks) (calls_in rs) → Each (Sectioned n) (pairs_of rs) → Unseen prev rs → NotTyped prev rs
      → Like (closed (to rs)) (open_all (together c rs) n (open_rules hs rs) [] rs) (rules_mean p n ks prev rs)
  part-alike prev rs f h u t =
      rules-alike (together c rs) p n (open_rules hs rs) ks (to rs) prev [] rs
      (each_both (Finds (open_rules hs rs)) (Finds ks) (Renamed (open_rules hs rs) ks (to rs)) (calls_in rs) (renamed rs) (open-found hs rs) f)
      (each_map (λ u. is_used u (pairs_of rs) ≡ true) (Reranked (together c rs) p n (to rs)) (rules_uses rs) (reranked rs h) (uses-paired rs)) u t

  pairs-sectioned : (P : Use → Type 0) → ((u : Use) → P u → Sectioned n u) → (rs : List written.Rule) → Each P (rules_uses rs) → Each (Sectioned n) (pairs_of rs)
  unfolding pairs_of
  pairs-sectioned P f rs h = each_map P (Sectioned n) (firsts [] (rules_uses rs)) f (firsts-each P [] (rules_uses rs) h)

  -- translated by themselves, the parts are the rules of the whole
  pub parts-mean : (prev : List (List ℕ)) {rss : List (List written.Rule)} {objects : List Object} → Translates c n rss objects → Each (Finds ks) (calls_in (joined rss)) → Apart prev rss
      → NotTyped prev (joined rss) → rules_mean p n ks prev (joined rss) ≡ good (closed_in n ks (length whole) (pairs_of whole) objects)
  unfolding joined closed_in Apart
  parts-mean prev no_more f a t = unfold rules_mean in refl
  parts-mean prev (translates {rs = rs} {rss = rss} {os = os} {objects = objects} e ts) f a t =
      let g = rw (calls-append rs (joined rss)) at f in
      let used = all-used (together c rs) n (open_rules hs rs) [] rs os e in
      let sec = pairs-sectioned (UseOk (open_names n) (open_rules hs rs)) (use-open n (open_rules hs rs)) rs used in
      let l = part-alike prev rs (each_left (Finds ks) (calls_in rs) (calls_in (joined rss)) g) sec a.0 (typed-here prev rs (joined rss) t) in
      let first = like-on (closed (to rs)) l os e in
      let rest = parts-mean (seen_after prev rs) ts (each_right (Finds ks) (calls_in rs) (calls_in (joined rss)) g) a.1 (typed-later prev rs (joined rss) t) in
      rules-append p n ks prev rs (joined rss) ∙ rw (first, rest)

  -- and the other way: if the whole means something, each part does by itself
  pub record Apiece (rss : List (List written.Rule)) (ms : List means.Rule) : Type 0 where
    pub objects : List Object
    pub parts : Translates c n rss objects
    pub are : closed_in n ks (length whole) (pairs_of whole) objects ≡ ms

  record Two (a b : Checked (List means.Rule)) (ms : List means.Rule) : Type 0 where
    left : List means.Rule
    right : List means.Rule
    left_is : a ≡ good left
    right_is : b ≡ good right
    both-are : left ++ right ≡ ms

  two-of : (a b : Checked (List means.Rule)) (ms : List means.Rule) → ◌>>=◌ a (λ xs. ◌>>=◌ b (λ ys. good (xs ++ ys))) ≡ good ms → Two a b ms
  two-of (good xs) (good ys) ms e = let d : xs ++ ys ≡ ms = cc in record { left = xs; right = ys; left_is = refl; right_is = refl; both-are = d }
  two-of (good xs) (wrong i w) ms e = no-good e
  two-of (wrong i w) b ms e = no-good e

  pub parts-back : (prev : List (List ℕ)) (rss : List (List written.Rule)) (ms : List means.Rule) → rules_mean p n ks prev (joined rss) ≡ good ms → Apiece rss ms
  unfolding joined closed_in rules_mean
  parts-back prev [] ms e = let d : [] ≡ ms = cc in record { objects = []; parts = no_more; are = d }
  parts-back prev (rs ∷ rss) ms e =
      let clear = rules-clear p n ks prev (rs ++ joined rss) ms e in
      let calls = rw (calls-append rs (joined rss)) at clear.called in
      let uses = rw (uses-append rs (joined rss)) at (rules-used p n ks prev (rs ++ joined rss) ms e) in
      let used = each_left (UseOk n ks) (rules_uses rs) (rules_uses (joined rss)) uses in
      let sec = pairs-sectioned (UseOk n ks) (use-sectioned n ks) rs used in
      let l = part-alike prev rs (each_left (Finds ks) (calls_in rs) (calls_in (joined rss)) calls) sec
      (each_left (λ r. is_one r.rule.text prev ≡ false) rs (joined rss) clear.unseen) (typed-here prev rs (joined rss) clear.untyped) in
      let t = two-of (rules_mean p n ks prev rs) (rules_mean p n ks (seen_after prev rs) (joined rss)) ms (sym (rules-append p n ks prev rs (joined rss)) ∙ e) in
      let b = like-back (closed (to rs)) l t.left t.left_is in
      let r = parts-back (seen_after prev rs) rss t.right t.right_is in
      record {
        objects = record { rules = b.from; uses = pairs_of rs; aims = aims_of hs rs } ∷ r.objects;
        parts = translates b.gives r.parts;
        are = rw (b.is, r.are) t.both-are;
      }
