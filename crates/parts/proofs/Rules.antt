-- The rules of a part by themselves and among all rules.
use mathlib.Core.Bool.{Bool, false, ◌&&◌, ◌||◌}
use mathlib.Core.List.{List, [], ◌∷◌, ◌++◌}
use mathlib.Core.Option.{Option, none, some}
use mathlib.Core.Path.{◌≡◌, refl, ap, ◌∙◌}
use Prim.Native.Nat.{ℕ}
use lib.ListN.{length}
use Rattle.acceptance.proofs.CheckLaws.{Yields, no-good, yields, next, passed, Any, any}
use Rattle.acceptance.proofs.NamesOk.{each_append}
use Rattle.acceptance.proofs.Shape.{Each}
use Rattle.acceptance.proofs.Used.{UseOk, found_of, acts-used}
use Rattle.base.proofs.Laws.{neither}
use Rattle.base.specs.Common.{same, given}
use Rattle.base.specs.Tree.{plain, cycle, choice, done, ◌▸◌, nil, alternative, absent, otherwise}
use Rattle.calls.proofs.Words.{past_all_lem}
use Rattle.calls.specs.Renumber.{renumbers, renumber_rule}
use Rattle.names.specs.Known.{Checked, good, wrong, ◌>>=◌, fault_if, Known, KnownRule, Names, find_operation, find_operators, elsewhere, optional_type}
use Rattle.names.specs.Resolve.{Place, within, rule_named, ranked_of, plain_of, selector_of, labels_of, act_of, acts_of, alts_of, other_of}
use Rattle.names.specs.Understand.{is_one, taken, is_first, rule_means, rules_mean}
use Rattle.names.specs.Uses.{Use, acts_uses, rules_uses, pairs_of, lowest_of}
use Rattle.parts.proofs.Alike.{both-good, Like, like-next, like-if, id, optional-alike, Renamed, Reranked, MeantAll, acts-meant, each_left, each_right, acts-alike}
use Rattle.parts.proofs.Numbers.{Finds}
use Rattle.parts.specs.Link.{closed}
use Rattle.parts.specs.Objects.{call_of, selects, calls, calls_all, calls_some, calls_other, calls_in, open_names, OpenRule, open_rule, open_all}
use Rattle.program.specs.Made.{Level}
use Rattle.program.specs.Past.{past_all}
use Rattle.program.specs.Program as means
use Rattle.syntax.specs.Written as written
use Rattle.syntax.specs.Written.{Program}
use Rattle.words.specs.Words.{Word}

-- In actions that mean something every name that is called is found

module _ (p : Program) (n : Names) (ks : List KnownRule) where
  name-called : (w : Word) → Yields (λ _. Finds ks w) (rule_named p n ks w)
  name-called w k e = (k, found_of p n ks w k e)

  ranked-called : (s w o : Word) → Yields (λ _. Finds ks o) (ranked_of p n ks s w o)
  unfolding ranked_of elsewhere
  ranked-called s w o a e = go (find_operators w.text n.operators) refl
    where
      call : ℕ
      call = lowest_of n (record { sign = s; section = w; operand = o }) (length p.rules) (pairs_of p.rules)

      go : (x : Option (List Level)) → find_operators w.text n.operators ≡ x → Finds ks o
      go none d = no-good (rw (ranked_of, d) at e)
      go (some ls) d =
          next (λ _. Finds ks o) (λ _. Finds ks o) (rule_named p n ks o) (λ r. ◌>>=◌ (fault_if (given r.gives) 5 o) (λ _. good (means.call call))) (name-called o) (λ r h _ _. h) a (rw (ranked_of, d) at e)

  plain-called : (at : Place) (a : written.Plain) → Yields (λ _. Each (Finds ks) (call_of a)) (plain_of p n ks at a)
  unfolding call_of plain_of Each
  plain-called at (written.named w c) = λ _ _. tt
  plain-called at (written.any w) = λ _ _. tt
  plain-called at (written.exit w) = λ _ _. tt
  plain-called at (written.emit w) = λ _ _. tt
  plain-called at (written.error w) = λ _ _. tt
  plain-called at (written.call w) = next (λ _. Finds ks w × Unit {0}) (λ _. Finds ks w) (rule_named p n ks w) _ (name-called w) (λ k h _ _. (h, tt))
  plain-called at (written.give w v) = λ _ _. tt
  plain-called at (written.ranked s w o) = λ a e. (ranked-called s w o a e, tt)

  selector-called : (s : written.Selector) → Yields (λ _. Each (Finds ks) (selects s)) (selector_of p n ks s)
  unfolding selects selector_of Each
  selector-called written.by_token = λ _ _. tt
  selector-called (written.by_rule w) = next (λ _. Finds ks w × Unit {0}) (λ _. Finds ks w) (rule_named p n ks w) _ (name-called w) (λ k h _ _. (h, tt))
  selector-called (written.by_operation w c) = λ _ _. tt

  abbrev C : List Word → Type 0
  C ws = Each (Finds ks) ws

  mutual
    unfolding act_of calls Each

    act-called : (a : written.Act) (at : Place) → Yields (λ _. C (calls a)) (act_of p n ks a at)
    act-called (plain a) at = next (λ _. C (call_of a)) (λ _. C (call_of a)) (plain_of p n ks at a) _ (plain-called at a) (λ d h _ _. h)
    act-called (cycle b) at = next (λ _. C (calls_all b)) (λ _. C (calls_all b)) (acts_of p n ks b (within at)) _ (acts-called b (within at)) (λ d h _ _. h)
    act-called (choice s q o) at =
        next (λ _. C (selects s ++ (calls_some q ++ calls_other o))) (λ _. C (selects s)) (selector_of p n ks s) _ (selector-called s) (λ c hs.
        next (λ _. C (selects s ++ (calls_some q ++ calls_other o))) (λ _. C (calls_some q)) (alts_of p n ks q at c.labels []) _ (alts-called q at c.labels []) (λ x ha.
        next (λ _. C (selects s ++ (calls_some q ++ calls_other o))) (λ _. C (calls_other o)) (other_of p n ks o at) _ (other-called o at) (λ y ho _ _.
        each_append (Finds ks) (selects s) (calls_some q ++ calls_other o) hs (each_append (Finds ks) (calls_some q) (calls_other o) ha ho))))

    pub acts-called : (q : written.Acts) (at : Place) → Yields (λ _. C (calls_all q)) (acts_of p n ks q at)
    acts-called done at = λ _ _. tt
    acts-called (a ▸ q) at =
        next (λ _. C (calls a ++ calls_all q)) (λ _. C (calls a)) (act_of p n ks a at) _ (act-called a at) (λ x hx.
        next (λ _. C (calls a ++ calls_all q)) (λ _. C (calls_all q)) (acts_of p n ks q at) _ (acts-called q at) (λ y hy _ _.
        each_append (Finds ks) (calls a) (calls_all q) hx hy))

    alts-called : (q : written.Alts) (at : Place) (vs : List Known) (seen : List ℕ) → Yields (λ _. C (calls_some q)) (alts_of p n ks q at vs seen)
    alts-called nil at vs seen = λ _ _. tt
    alts-called (alternative ls b q) at vs seen =
        next (λ _. C (calls_all b ++ calls_some q)) (λ _. Unit {0}) (labels_of p n ks ls vs seen) _ (λ _ _. tt) (λ us _.
        next (λ _. C (calls_all b ++ calls_some q)) (λ _. C (calls_all b)) (acts_of p n ks b at) _ (acts-called b at) (λ x hx.
        next (λ _. C (calls_all b ++ calls_some q)) (λ _. C (calls_some q)) (alts_of p n ks q at vs (us ++ seen)) _ (alts-called q at vs (us ++ seen)) (λ y hy _ _.
        each_append (Finds ks) (calls_all b) (calls_some q) hx hy)))

    other-called : (o : written.Other) (at : Place) → Yields (λ _. C (calls_other o)) (other_of p n ks o at)
    other-called absent at = λ _ _. tt
    other-called (otherwise b) at = next (λ _. C (calls_all b)) (λ _. C (calls_all b)) (acts_of p n ks b at) _ (acts-called b at) (λ d h _ _. h)

-- Rules that mean something

-- none of the rules' names is among these
abbrev pub Unseen : List (List ℕ) → List written.Rule → Type 0
Unseen prev rs = Each (λ r. is_one r.rule.text prev ≡ false) rs

-- the first of all rules has no type
unfoldable pub NotTyped : List (List ℕ) → List written.Rule → Type 0
NotTyped seen [] = Unit {0}
NotTyped seen (r ∷ rs) = (is_first seen && given r.gives) ≡ false

pub record Clear (ks : List KnownRule) (seen : List (List ℕ)) (rs : List written.Rule) : Type 0 where
  pub unseen : Unseen seen rs
  pub untyped : NotTyped seen rs
  pub called : Each (Finds ks) (calls_in rs)

one_less : (v : List ℕ) (seen : List (List ℕ)) (rs : List written.Rule) → Unseen (v ∷ seen) rs → Unseen seen rs
unfolding is_one Each
one_less v seen [] h = tt
one_less v seen (r ∷ rs) h = ((neither (same r.rule.text v) (is_one r.rule.text seen) h.0).1, one_less v seen rs h.1)

pub record ClearRule (ks : List KnownRule) (seen : List (List ℕ)) (r : written.Rule) : Type 0 where
  pub unseen : is_one r.rule.text seen ≡ false
  pub untyped : (is_first seen && given r.gives) ≡ false
  pub called : Each (Finds ks) (calls_all r.body)

rule-clear : (p : Program) (n : Names) (ks : List KnownRule) (seen : List (List ℕ)) (r : written.Rule) → Yields (λ _. ClearRule ks seen r) (rule_means p n ks seen r)
unfolding rule_means taken
rule-clear p n ks seen r =
    passed (λ _. ClearRule ks seen r) (taken r.rule n seen) 4 r.rule _ (λ a.
    passed (λ _. ClearRule ks seen r) (is_first seen && given r.gives) 5 r.rule _ (λ f.
    next (λ _. ClearRule ks seen r) Any (optional_type p n.types r.gives) _ (any (optional_type p n.types r.gives)) (λ g _.
    next (λ _. ClearRule ks seen r) (λ _. Each (Finds ks) (calls_all r.body)) (acts_of p n ks r.body (record { inside = false; gives = g })) _ (acts-called p n ks r.body (record { inside = false; gives = g })) (λ b h.
    λ _ _. record { unseen = (neither (given (find_operation r.rule.text n.operations)) (is_one r.rule.text seen) a).1; untyped = f; called = h }))))

pub rules-clear : (p : Program) (n : Names) (ks : List KnownRule) (seen : List (List ℕ)) (rs : List written.Rule) → Yields (λ _. Clear ks seen rs) (rules_mean p n ks seen rs)
unfolding rules_mean calls_in NotTyped Each
rules-clear p n ks seen [] = λ _ _. record { unseen = tt; untyped = tt; called = tt }
rules-clear p n ks seen (r ∷ rs) =
    next (λ _. Clear ks seen (r ∷ rs)) (λ _. ClearRule ks seen r) (rule_means p n ks seen r) _ (rule-clear p n ks seen r) (λ m h.
    next (λ _. Clear ks seen (r ∷ rs)) (λ _. Clear ks (r.rule.text ∷ seen) rs) (rules_mean p n ks (r.rule.text ∷ seen) rs) _ (rules-clear p n ks (r.rule.text ∷ seen) rs) (λ ms k _ _.
    record {
      unseen = (h.unseen, one_less r.rule.text seen rs k.unseen);
      untyped = h.untyped;
      called = each_append (Finds ks) (calls_all r.body) (calls_in rs) h.called k.called;
    }))

-- the uses of a part that means something
open-used : (p : Program) (n : Names) (ks : List KnownRule) (seen : List (List ℕ)) (r : written.Rule)
    → Yields (λ _. (k : List Use) → Each (UseOk (open_names n) ks) k → Each (UseOk (open_names n) ks) (acts_uses r.body k)) (open_rule p n ks seen r)
unfolding open_rule
open-used p n ks seen r =
    let P : OpenRule → Type 0 = λ _. (k : List Use) → Each (UseOk (open_names n) ks) k → Each (UseOk (open_names n) ks) (acts_uses r.body k) in
    passed P (taken r.rule n seen) 4 r.rule _ (λ _.
    next P Any (optional_type p n.types r.gives) _ (any (optional_type p n.types r.gives)) (λ g _.
    next P (λ _. (k : List Use) → Each (UseOk (open_names n) ks) k → Each (UseOk (open_names n) ks) (acts_uses r.body k)) (acts_of p (open_names n) ks r.body (record { inside = false; gives = g })) _
    (acts-used p (open_names n) ks r.body (record { inside = false; gives = g })) (λ b h _ _. h)))

pub all-used : (p : Program) (n : Names) (ks : List KnownRule) (seen : List (List ℕ)) (rs : List written.Rule) → Yields (λ _. Each (UseOk (open_names n) ks) (rules_uses rs)) (open_all p n ks seen rs)
unfolding open_all rules_uses Each
all-used p n ks seen [] = λ _ _. tt
all-used p n ks seen (r ∷ rs) =
    let P : List OpenRule → Type 0 = λ _. Each (UseOk (open_names n) ks) (acts_uses r.body (rules_uses rs)) in
    next P (λ _. (k : List Use) → Each (UseOk (open_names n) ks) k → Each (UseOk (open_names n) ks) (acts_uses r.body k)) (open_rule p n ks seen r) _ (open-used p n ks seen r) (λ m h.
    next P (λ _. Each (UseOk (open_names n) ks) (rules_uses rs)) (open_all p n ks (r.rule.text ∷ seen) rs) _ (all-used p n ks (r.rule.text ∷ seen) rs) (λ ms hs _ _. h (rules_uses rs) hs))

-- what an object keeps of a rule
pub record OpenIs (r : written.Rule) (o : OpenRule) : Type 0 where
  pub name : o.name ≡ r.rule
  pub gives : o.gives ≡ r.gives
  pub calls : o.calls ≡ calls_all r.body

pub data Opened : List written.Rule → List OpenRule → Type 0 where
  opened-nil : Opened [] []
  opened-cons : {r : written.Rule} {rs : List written.Rule} {o : OpenRule} {os : List OpenRule} → OpenIs r o → Opened rs os → Opened (r ∷ rs) (o ∷ os)

pub opened-append : {rs ss : List written.Rule} {os us : List OpenRule} → Opened rs os → Opened ss us → Opened (rs ++ ss) (os ++ us)
opened-append opened-nil h = h
opened-append (opened-cons x g) h = opened-cons x (opened-append g h)

open_is : (p : Program) (n : Names) (ks : List KnownRule) (seen : List (List ℕ)) (r : written.Rule) → Yields (OpenIs r) (open_rule p n ks seen r)
unfolding open_rule
open_is p n ks seen r =
    passed (OpenIs r) (taken r.rule n seen) 4 r.rule _ (λ _.
    next (OpenIs r) Any (optional_type p n.types r.gives) _ (any (optional_type p n.types r.gives)) (λ g _.
    next (OpenIs r) Any (acts_of p (open_names n) ks r.body (record { inside = false; gives = g })) _ (any (acts_of p (open_names n) ks r.body (record { inside = false; gives = g }))) (λ b _.
    passed (OpenIs r) (given g && past_all b) 8 r.closing _ (λ _.
    yields (OpenIs r) (record { name = r.rule; gives = r.gives; calls = calls_all r.body; means = record { valued = given g; body = b } })
    (record { name = refl; gives = refl; calls = refl })))))

pub all-opened : (p : Program) (n : Names) (ks : List KnownRule) (seen : List (List ℕ)) (rs : List written.Rule) → Yields (Opened rs) (open_all p n ks seen rs)
unfolding open_all
all-opened p n ks seen [] = yields (Opened []) [] opened-nil
all-opened p n ks seen (r ∷ rs) =
    next (Opened (r ∷ rs)) (OpenIs r) (open_rule p n ks seen r) _ (open_is p n ks seen r) (λ o h.
    next (Opened (r ∷ rs)) (Opened rs) (open_all p n ks (r.rule.text ∷ seen) rs) _ (all-opened p n ks (r.rule.text ∷ seen) rs) (λ os hs.
    yields (Opened (r ∷ rs)) (o ∷ os) (opened-cons h hs)))

-- By themselves and among all rules

one-append : (w : List ℕ) (vs us : List (List ℕ)) → is_one w us ≡ false → is_one w (vs ++ us) ≡ is_one w vs
unfolding is_one
one-append w [] us f = f
one-append w (v ∷ vs) us f = ap (λ (t : Bool). same w v || t) (one-append w vs us f)

not-typed : (v : List ℕ) (vs : List (List ℕ)) (rs : List written.Rule) → NotTyped (v ∷ vs) rs
unfolding NotTyped is_first
not-typed v vs [] = tt
not-typed v vs (r ∷ rs) = refl

like-skip : {B D : Type 0} (g : B → D) (m : Checked B) (t : Bool) (n : ℕ) (w : Word) (f : Unit {0} → Checked D) → t ≡ false → Like g m (f tt) → Like g m (◌>>=◌ (fault_if t n w) f)
like-skip g m t n w f e h = rw e h

abbrev closed_rule : (ℕ → ℕ) → OpenRule → means.Rule
closed_rule to o = renumber_rule to o.means

module _ (p p' : Program) (n : Names) (ks ks' : List KnownRule) (to : ℕ → ℕ) (prev : List (List ℕ)) where
  abbrev R : Word → Type 0
  R = Renamed ks ks' to

  abbrev U : Use → Type 0
  U = Reranked p p' n to

  rule-alike : (seen : List (List ℕ)) (r : written.Rule) → MeantAll R U r.body → is_one r.rule.text prev ≡ false
      → (is_first (seen ++ prev) && given r.gives) ≡ false → Like (closed_rule to) (open_rule p n ks seen r) (rule_means p' n ks' (seen ++ prev) r)
  unfolding open_rule rule_means taken renumber_rule
  rule-alike seen r h u f =
      let op = given (find_operation r.rule.text n.operations) in
      like-if (closed_rule to) (op || is_one r.rule.text seen) (op || is_one r.rule.text (seen ++ prev)) 4 r.rule _ _
      (ap (λ (t : Bool). op || t) (one-append r.rule.text seen prev u)) (
      like-skip (closed_rule to) _ (is_first (seen ++ prev) && given r.gives) 5 r.rule _ f (
      like-next (closed_rule to) id _ _ (optional-alike p p' n.types r.gives) (λ g _.
      like-next (closed_rule to) (renumbers to) _ _ (acts-alike p p' n ks ks' to r.body (record { inside = false; gives = g }) h) (λ b _.
      like-if (closed_rule to) (given g && past_all b) (given g && past_all (renumbers to b)) 8 r.closing _ _ (ap (λ (t : Bool). given g && t) (past_all_lem to b)) (
      both-good (record { name = r.rule; gives = r.gives; calls = calls_all r.body; means = record { valued = given g; body = b } }))))))

  pub rules-alike : (seen : List (List ℕ)) (rs : List written.Rule) → Each R (calls_in rs) → Each U (rules_uses rs) → Unseen prev rs → NotTyped (seen ++ prev) rs
      → Like (closed to) (open_all p n ks seen rs) (rules_mean p' n ks' (seen ++ prev) rs)
  unfolding open_all rules_mean calls_in rules_uses closed NotTyped Each
  rules-alike seen [] h q u f = both-good []
  rules-alike seen (r ∷ rs) h q u f =
      let m = acts-meant R U r.body (rules_uses rs) (each_left R (calls_all r.body) (calls_in rs) h) q in
      like-next (closed to) (closed_rule to) _ _ (rule-alike seen r m.0 u.0 f) (λ o _.
      like-next (closed to) (closed to) _ _
      (rules-alike (r.rule.text ∷ seen) rs (each_right R (calls_all r.body) (calls_in rs) h) m.1 u.1 (not-typed r.rule.text (seen ++ prev) rs)) (λ os _.
      both-good (o ∷ os)))

-- Rules one after the other

unfoldable pub seen_after : List (List ℕ) → List written.Rule → List (List ℕ)
seen_after seen [] = seen
seen_after seen (r ∷ rs) = seen_after (r.rule.text ∷ seen) rs

pub rules-append : (p : Program) (n : Names) (ks : List KnownRule) (seen : List (List ℕ)) (rs ss : List written.Rule)
    → rules_mean p n ks seen (rs ++ ss) ≡ ◌>>=◌ (rules_mean p n ks seen rs) (λ ms. ◌>>=◌ (rules_mean p n ks (seen_after seen rs) ss) (λ ns. good (ms ++ ns)))
unfolding rules_mean seen_after
rules-append p n ks seen [] ss = same-again (rules_mean p n ks seen ss)
  where
    same-again : (m : Checked (List means.Rule)) → m ≡ ◌>>=◌ m (λ ns. good ns)
    same-again (good ns) = refl
    same-again (wrong i w) = refl
rules-append p n ks seen (r ∷ rs) ss = go (rule_means p n ks seen r) (rules-append p n ks (r.rule.text ∷ seen) rs ss)
  where
    rest : Checked (List means.Rule)
    rest = rules_mean p n ks (seen_after (r.rule.text ∷ seen) rs) ss

    two : (m : means.Rule) (a b : Checked (List means.Rule)) → ◌>>=◌ (◌>>=◌ a (λ ms. ◌>>=◌ b (λ ns. good (ms ++ ns)))) (λ us. good (m ∷ us)) ≡ ◌>>=◌ (◌>>=◌ a (λ us. good (m ∷ us))) (λ ms. ◌>>=◌ b (λ ns. good (ms ++ ns)))
    two m (good us) (good ns) = refl
    two m (good us) (wrong i w) = refl
    two m (wrong i w) b = refl

    go : (c : Checked means.Rule) → rules_mean p n ks (r.rule.text ∷ seen) (rs ++ ss) ≡ ◌>>=◌ (rules_mean p n ks (r.rule.text ∷ seen) rs) (λ ms. ◌>>=◌ rest (λ ns. good (ms ++ ns)))
        → ◌>>=◌ c (λ m. ◌>>=◌ (rules_mean p n ks (r.rule.text ∷ seen) (rs ++ ss)) (λ us. good (m ∷ us)))
        ≡ ◌>>=◌ (◌>>=◌ c (λ m. ◌>>=◌ (rules_mean p n ks (r.rule.text ∷ seen) rs) (λ us. good (m ∷ us)))) (λ ms. ◌>>=◌ rest (λ ns. good (ms ++ ns)))
    go (good m) ih = ap (λ (x : Checked (List means.Rule)). ◌>>=◌ x (λ us. good (m ∷ us))) ih ∙ two m (rules_mean p n ks (r.rule.text ∷ seen) rs) rest
    go (wrong i w) ih = refl
