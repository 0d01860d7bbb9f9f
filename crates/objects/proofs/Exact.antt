-- A view is in order exactly if it is that of a sound object; and so words are objects exactly if the test says so.
use mathlib.Core.Bool.{Bool, true, false, ◌&&◌, not}
use mathlib.Core.List.{List, [], ◌∷◌, ◌++◌}
use mathlib.Core.Option.{Option, none, some}
use mathlib.Core.Path.{◌≡◌, refl, sym, ap, ◌∙◌}
use native.Mathlib.Omega.{arith}
use Prim.Native.Nat.{ℕ, suc, ◌+◌, ◌-◌}
use borrow.Author.Tests.{eqb-true, not-true}
use lib.Dec.{eqb}
use lib.ListN.{length, get_or}
use Rattle.acceptance.proofs.Shape.{Each, NotEmpty}
use Rattle.base.specs.Bools as bools
use Rattle.base.specs.Common.{given}
use Rattle.calls.specs.Renumber.{renumbers}
use Rattle.cells.specs.Cells.{acts_cells}
use Rattle.names.specs.Known.{Names, find_operators}
use Rattle.names.specs.Understand.{is_one}
use Rattle.names.specs.Uses.{Use}
use Rattle.parts.proofs.Alike.{each_left, each_right}
use Rattle.parts.specs.Form.{mark_of, body_cells, packed, first_pair, AreObjects, all_words}
use Rattle.parts.specs.Link.{listed_type}
use Rattle.parts.specs.Objects.{Aim, ranked, OpenRule, Object}
use Rattle.parts.specs.Sound as sound
use Rattle.parts.specs.Sound.{SoundRule, call_words, SoundUse, Sound}
use Rattle.syntax.specs.Texts.{Head}
use Rattle.program.specs.Accepted.{Values}
use Rattle.program.specs.Past.{past_all}
use Rattle.program.specs.Program.{Acts}
use Rattle.words.specs.Words.{Word}
use Rattle.objects.proofs.Complete.{acts-pass}
use Rattle.objects.proofs.Found.{Numbered, Ranks, FoundActs, acts-found, some_same}
use Rattle.objects.proofs.Marks.{nothing, word_of, words_of, names-words, spent, aligned}
use Rattle.objects.proofs.Numbering.{first_is, ranked-at, uses_of, use_of, pairs-uses, aims_for, pair-at, all-numbered}
use Rattle.objects.proofs.Views.{rules-length, object-words, views-are, are-views}
use Rattle.objects.specs.Order.{Went, stands_at, is_listed, acts, used_up, rule_in_order}
use Rattle.objects.specs.View.{Name, Pair, RuleView, View, name_of, names_of, option_of, pair_of, pairs_of, rule_of, rules_of, view_of, views_of, name_words, option_words, all, pair_words, rule_words, body_words, view_words, views}
use Rattle.objects.specs.Whole.{calls_of, texts_of, every, is_some, pair_in_order, view_in_order, all_in_order, are_objects, ObjectsPass, PassObjects, SameViews}

empty : {A : Type 0} (xs : List A) → length xs ≡ 0 → xs ≡ []
empty [] e = refl
empty (x ∷ xs) e = absurd (omega (arith, e))

-- Every

pub every_of : {A : Type 0} (f : A → Bool) (P : A → Type 0) (xs : List A) → ((x : A) → P x → f x ≡ true) → Each P xs → every f xs ≡ true
unfolding every Each
every_of f P [] h g = refl
every_of f P (x ∷ xs) h g = bools.both (f x) (every f xs) (h x g.0) (every_of f P xs h g.1)

pub of-every : {A : Type 0} (f : A → Bool) (xs : List A) → every f xs ≡ true → Each (λ x. f x ≡ true) xs
unfolding every Each
of-every f [] e = tt
of-every f (x ∷ xs) e = let y = bools.and (f x) (every f xs) e in (y.0, of-every f xs y.1)

-- Rules

optionally : Option Name → Option Word
optionally none = none
optionally (some n) = some (word_of n)

given-of : (o : Option Word) → given (option_of o) ≡ given o
unfolding option_of
given-of none = refl
given-of (some w) = refl

given_back : (o : Option Name) → given (optionally o) ≡ given o
unfolding optionally
given_back none = refl
given_back (some w) = refl

option_back : (o : Option Name) → option_of (optionally o) ≡ o
unfolding option_of optionally name_of
option_back none = refl
option_back (some n) = refl

-- the outcome of a rule's cells that are in order
record Ended (v : Bool) (r : Option Went) : Type 0 where
  pub outcome : Went
  pub is : r ≡ some outcome
  pub no_cells : outcome.cells ≡ []
  pub no_names : outcome.names ≡ []
  pub no_end : v ≡ true → outcome.past ≡ false

ended : (v : Bool) (r : Option Went) → used_up v r ≡ true → Ended v r
unfolding used_up
ended v none e = bools.never e
ended v (some w) e =
    let x = bools.and (eqb (length w.cells) 0 && eqb (length w.names) 0) (not (v && w.past)) e in
    let y = bools.and (eqb (length w.cells) 0) (eqb (length w.names) 0) x.0 in
    record {
      outcome = w;
      is = refl;
      no_cells = empty w.cells (eqb-true (length w.cells) 0 y.0);
      no_names = empty w.names (eqb-true (length w.names) 0 y.1);
      no_end = λ d. past-false v w.past d x.1;
    }
  where
    past-false : (a b : Bool) → a ≡ true → not (a && b) ≡ true → b ≡ false
    past-false true b d f = not-true b f
    past-false false b d f = bools.never d

not-past : (v p : Bool) → (v ≡ true → p ≡ false) → not (v && p) ≡ true
not-past true p h = rw (h refl)
not-past false p h = refl

texts-names : (ws : List Word) → texts_of (names_of ws) ≡ sound.texts_of ws
unfolding texts_of names_of sound.texts_of name_of
texts-names [] = refl
texts-names (w ∷ ws) = ap (λ ts. w.text ∷ ts) (texts-names ws)

texts-words : (ns : List Name) → sound.texts_of (words_of ns) ≡ texts_of ns
unfolding texts_of words_of sound.texts_of
texts-words [] = refl
texts-words (n ∷ ns) = ap (λ ts. n.text ∷ ts) (texts-words ns)

names-append : (ws us : List Word) → names_of (ws ++ us) ≡ names_of ws ++ names_of us
unfolding names_of
names-append [] us = refl
names-append (w ∷ ws) us = ap (λ ns. name_of w ∷ ns) (names-append ws us)

words_append : (ns ms : List Name) → words_of (ns ++ ms) ≡ words_of ns ++ words_of ms
unfolding words_of
words_append [] ms = refl
words_append (n ∷ ns) ms = ap (λ ws. word_of n ∷ ws) (words_append ns ms)

-- Sound rules pass

module _ (hs : List Head) (aims : List Aim) (first : ℕ) (us : List Use)
    (at : (i : ℕ) (u : Use) (n : Name) → get_or aims i nothing ≡ ranked u → u.operand.text ≡ n.text → stands_at (pairs_of us) (i - first) n ≡ true) where
  rule-passes : (r : OpenRule) → SoundRule hs aims r → rule_in_order hs (pairs_of us) (rule_of aims first r) ≡ true
  unfolding rule_in_order used_up rule_of body_cells
  rule-passes r s =
      let e : given (option_of r.gives) ≡ r.means.valued = given-of r.gives ∙ sym s.sort in
      let cells = body_cells aims first r.means.body in
      let x = acts-pass hs (pairs_of us) aims first r.means.valued at r.means.body (length cells) 32 false s.in_order s.few s.deep (names_of r.calls) []
      (spent aims (sound.numbers_all r.means.body) r.calls s.calls) [] (omega arith) in
      rw (e, x) (not-past r.means.valued (past_all r.means.body) s.no_end)

  rules-pass : (rs : List OpenRule) → Each (SoundRule hs aims) rs → every (rule_in_order hs (pairs_of us)) (rules_of aims first rs) ≡ true
  unfolding every rules_of Each
  rules-pass [] h = refl
  rules-pass (r ∷ rs) h = bools.both (rule_in_order hs (pairs_of us) (rule_of aims first r)) (every (rule_in_order hs (pairs_of us)) (rules_of aims first rs)) (rule-passes r h.0) (rules-pass rs h.1)

calls-rules : (aims : List Aim) (first : ℕ) (rs : List OpenRule) → calls_of (rules_of aims first rs) ≡ names_of (call_words rs)
unfolding calls_of rules_of rule_of call_words names_of
calls-rules aims first [] = refl
calls-rules aims first (r ∷ rs) = rw (calls-rules aims first rs, names-append r.calls (call_words rs))

pair-passes : (hs : List Head) (n : Names) (rules : List OpenRule) (views₁ : List RuleView) (u : Use) → calls_of views₁ ≡ names_of (call_words rules) → SoundUse hs n rules u → pair_in_order hs n views₁ (pair_of u) ≡ true
unfolding pair_in_order is_listed pair_of name_of
pair-passes hs n rules views₁ u e s = rw (s.section, s.procedure, e, texts-names (call_words rules)) s.shown

pairs-pass : (hs : List Head) (n : Names) (rules : List OpenRule) (views₁ : List RuleView) (us : List Use) → calls_of views₁ ≡ names_of (call_words rules) → Each (SoundUse hs n rules) us
    → every (pair_in_order hs n views₁) (pairs_of us) ≡ true
unfolding every pairs_of Each
pairs-pass hs n rules views₁ [] e h = refl
pairs-pass hs n rules views₁ (u ∷ us) e h =
    bools.both (pair_in_order hs n views₁ (pair_of u)) (every (pair_in_order hs n views₁) (pairs_of us)) (pair-passes hs n rules views₁ u e h.0) (pairs-pass hs n rules views₁ us e h.1)

some-passes : (aims : List Aim) (first : ℕ) (rs : List OpenRule) → NotEmpty rs → is_some (rules_of aims first rs) ≡ true
unfolding NotEmpty is_some rules_of
some-passes aims first [] h = absurd h
some-passes aims first (r ∷ rs) h = refl

-- the view of a sound object is in order
pub sound-in-order : (hs : List Head) (n : Names) (size : ℕ) (o : Object) → Sound hs n o → view_in_order hs n (view_of size o) ≡ true
unfolding view_in_order view_of first_pair
sound-in-order hs n size o s =
    let first = length o.aims - length o.uses in
    let rs = rules_of o.aims first o.rules in
    let is : first ≡ length hs + length s.others = ap (λ (xs : List Aim). length xs - length o.uses) s.numbered ∙ first_is hs s.others o.uses in
    let at = ranked-at hs s.others o.uses o.aims s.numbered in
    bools.both (is_some rs) (every (pair_in_order hs n rs) (pairs_of o.uses) && every (rule_in_order hs (pairs_of o.uses)) rs) (some-passes o.aims first o.rules s.some_rule)
    (bools.both (every (pair_in_order hs n rs) (pairs_of o.uses)) (every (rule_in_order hs (pairs_of o.uses)) rs)
    (pairs-pass hs n o.rules rs o.uses (calls-rules o.aims first o.rules) s.uses)
    (rules-pass hs o.aims first o.uses (λ i u m e d. rw is (at i u m e d)) o.rules s.rules))

-- Rules of views that are in order

view-of : (aims : List Aim) (first : ℕ) (r : RuleView) (v : Bool) (b : Acts) → r.cells ≡ body_cells aims first b
    → rule_of aims first (record { name = word_of r.name; gives = optionally r.gives; calls = words_of r.calls; means = record { valued = v; body = b } }) ≡ r
unfolding rule_of name_of
view-of aims first r v b e = rw (option_back r.gives, names-words r.calls, ← e)

module _ (hs : List Head) (pairs : List Pair) (aims : List Aim) (first : ℕ) (at : (k : ℕ) (n : Name) → stands_at pairs k n ≡ true → Ranks aims first k n) where
  record RuleFound (r : RuleView) : Type 0 where
    pub rule : OpenRule
    pub sound : SoundRule hs aims rule
    pub view : rule_of aims first rule ≡ r
    pub same-calls : rule.calls ≡ words_of r.calls

  rule_found : (r : RuleView) → Values r.cells → Each (Numbered aims) r.calls → rule_in_order hs pairs r ≡ true → RuleFound r
  unfolding rule_in_order body_cells
  rule_found r vs ks e = go (ended v (acts hs pairs v (length r.cells) 32 false r.cells r.calls) e)
    where
      v : Bool
      v = given r.gives

      body-cells : {rest : List ℕ} (b : Acts) → rest ≡ [] → acts_cells (renumbers (mark_of aims first) b) rest ≡ body_cells aims first b
      body-cells b d = rw d

      body_of : (x : Ended v (acts hs pairs v (length r.cells) 32 false r.cells r.calls)) → FoundActs hs pairs aims first v at 32 false r.cells r.calls x.outcome → RuleFound r
      body_of x y =
          let o : OpenRule = record { name = word_of r.name; gives = optionally r.gives; calls = words_of r.calls; means = record { valued = v; body = y.tree } } in
          record {
            rule = o;
            sound = record {
              sort = sym (given_back r.gives);
              in_order = y.good.0;
              no_end = λ d. sym y.past_is ∙ x.no_end d;
              few = y.good.1;
              deep = y.good.2;
              calls = aligned aims (sound.numbers_all y.tree) r.calls (rw x.no_names at y.used);
            };
            view = view-of aims first r v y.tree (y.cells_are ∙ body-cells y.tree x.no_cells);
            same-calls = refl;
          }

      go : Ended v (acts hs pairs v (length r.cells) 32 false r.cells r.calls) → RuleFound r
      go x = body_of x (acts-found hs pairs aims first v at (length r.cells) 32 false r.cells r.calls x.outcome vs ks x.is)

  record RulesFound (rs : List RuleView) : Type 0 where
    pub rules : List OpenRule
    pub sound : Each (SoundRule hs aims) rules
    pub view : rules_of aims first rules ≡ rs
    pub same-calls : call_words rules ≡ words_of (calls_of rs)

  rules-found : (rs : List RuleView) → Each (λ r. Values r.cells) rs → Each (Numbered aims) (calls_of rs) → Each (λ r. rule_in_order hs pairs r ≡ true) rs → RulesFound rs
  unfolding Each calls_of rules_of call_words words_of
  rules-found [] vs ks h = record { rules = []; sound = tt; view = refl; same-calls = refl }
  rules-found (r ∷ rs) vs ks h =
      let x = rule_found r vs.0 (each_left (Numbered aims) r.calls (calls_of rs) ks) h.0 in
      let y = rules-found rs vs.1 (each_right (Numbered aims) r.calls (calls_of rs) ks) h.1 in
      record {
        rules = x.rule ∷ y.rules;
        sound = (x.sound, y.sound);
        view = rw (x.view, y.view);
        same-calls = rw (x.same-calls, y.same-calls, words_append r.calls (calls_of rs));
      }

-- Pairs of views that are in order

given_some : {A : Type 0} (o : Option A) → given o ≡ true → (a : A) × (o ≡ some a)
given_some none e = bools.never e
given_some (some a) e = (a, refl)

given_none : {A : Type 0} (o : Option A) → given o ≡ false → o ≡ none
given_none none e = refl
given_none (some a) e = bools.never (sym e)

pair_found : (hs : List Head) (n : Names) (rs : List RuleView) (rules : List OpenRule) (p : Pair) → call_words rules ≡ words_of (calls_of rs) → pair_in_order hs n rs p ≡ true → SoundUse hs n rules (use_of p)
unfolding pair_in_order is_listed use_of
pair_found hs n rs rules p same-calls e =
    let x = bools.and (given (find_operators p.section.text n.operators)) (not (given (listed_type p.operand.text hs)) && is_one p.operand.text (texts_of (calls_of rs))) e in
    let y = bools.and (not (given (listed_type p.operand.text hs))) (is_one p.operand.text (texts_of (calls_of rs))) x.1 in
    let z = given_some (find_operators p.section.text n.operators) x.0 in
    record {
      levels = z.0;
      section = z.1;
      procedure = given_none (listed_type p.operand.text hs) (not-true (given (listed_type p.operand.text hs)) y.0);
      shown = rw (same-calls, texts-words (calls_of rs)) y.1;
    }

pairs-found : (hs : List Head) (n : Names) (rs : List RuleView) (rules : List OpenRule) (ps : List Pair) → call_words rules ≡ words_of (calls_of rs) → Each (λ p. pair_in_order hs n rs p ≡ true) ps
    → Each (SoundUse hs n rules) (uses_of ps)
unfolding Each uses_of
pairs-found hs n rs rules [] same-calls h = tt
pairs-found hs n rs rules (p ∷ ps) same-calls h = (pair_found hs n rs rules p same-calls h.0, pairs-found hs n rs rules ps same-calls h.1)

some-found : (rules : List OpenRule) (rs : List RuleView) → length rules ≡ length rs → is_some rs ≡ true → NotEmpty rules
unfolding is_some NotEmpty
some-found rules [] l e = bools.never e
some-found [] (r ∷ rs) l e = absurd (omega (arith, l))
some-found (o ∷ rules) (r ∷ rs) l e = tt

-- a view that is in order is that of a sound object
pub record Shown (hs : List Head) (n : Names) (v : View) : Type 0 where
  pub object : Object
  pub sound : Sound hs n object
  pub view : view_of v.size object ≡ v

view-same : (size first : ℕ) (ps : List Pair) (rs : List RuleView) (rules : List OpenRule) (aims : List Aim) → length aims - length (uses_of ps) ≡ first → rules_of aims first rules ≡ rs
    → view_of size (record { rules = rules; uses = uses_of ps; aims = aims }) ≡ record { size = size; pairs = ps; rules = rs }
unfolding view_of first_pair
view-same size first ps rs rules aims l e = rw (l, e, pairs-uses ps)

pub in-order-sound : (hs : List Head) (n : Names) (v : View) → Each (λ r. Values r.cells) v.rules → view_in_order hs n v ≡ true → Shown hs n v
unfolding view_in_order aims_for
in-order-sound hs n v vs e =
    let rs = v.rules in
    let ps = v.pairs in
    let a = bools.and (is_some rs) (every (pair_in_order hs n rs) ps && every (rule_in_order hs ps) rs) e in
    let b = bools.and (every (pair_in_order hs n rs) ps) (every (rule_in_order hs ps) rs) a.1 in
    let ws = words_of (calls_of rs) in
    let aims = aims_for hs ps (calls_of rs) in
    let x = rules-found hs ps aims (length hs + length ws) (pair-at hs ps (calls_of rs)) rs vs (all-numbered hs ps (calls_of rs)) (of-every (rule_in_order hs ps) rs b.1) in
    let l : length x.rules ≡ length rs = sym (rules-length aims (length hs + length ws) x.rules) ∙ ap length x.view in
    record {
      object = record { rules = x.rules; uses = uses_of ps; aims = aims };
      sound = record {
        others = ws;
        numbered = refl;
        some_rule = some-found x.rules rs l a.0;
        rules = x.sound;
        uses = pairs-found hs n rs x.rules ps x.same-calls (of-every (pair_in_order hs n rs) ps b.0);
      };
      view = view-same v.size (length hs + length ws) ps rs x.rules aims (first_is hs ws (uses_of ps)) x.view;
    }

-- Words

pub all-views : (common : List ℕ) (ns : List ℕ) (os : List Object) → all_words common ns os ≡ all (view_words common) (views_of ns os)
unfolding all_words all views_of
all-views common [] os = refl
all-views common (n ∷ ns) [] = refl
all-views common (n ∷ ns) (o ∷ os) = rw (object-words common n o, all-views common ns os)

-- the words of views are the words of no other views
words-views : (common : List ℕ) (words : List ℕ) (vs : List View) → words ≡ all (view_words common) vs → views common (length words) words ≡ some vs
words-views common words vs e = rw e (are-views common (length (all (view_words common) vs)) vs (omega arith))

pub views-in-order : (hs : List Head) (n : Names) (ns : List ℕ) (os : List Object) → Each (Sound hs n) os → every (view_in_order hs n) (views_of ns os) ≡ true
unfolding every views_of Each
views-in-order hs n [] os h = refl
views-in-order hs n (m ∷ ns) [] h = refl
views-in-order hs n (m ∷ ns) (o ∷ os) h =
    bools.both (view_in_order hs n (view_of m o)) (every (view_in_order hs n) (views_of ns os)) (sound-in-order hs n m o h.0) (views-in-order hs n ns os h.1)

-- words that are objects pass
pub objects-pass : ObjectsPass
unfolding are_objects all_in_order
objects-pass common c n words x =
    let hs = c.listed in
    rw (words-views common words (views_of x.lengths x.objects) (x.are ∙ all-views common x.lengths x.objects)) (views-in-order hs n x.lengths x.objects x.sound)

-- two readings of the same words have the same views
pub same-views : SameViews
same-views common c n words x y =
    let a = words-views common words (views_of x.lengths x.objects) (x.are ∙ all-views common x.lengths x.objects) in
    let b = words-views common words (views_of y.lengths y.objects) (y.are ∙ all-views common y.lengths y.objects) in
    some_same (sym a ∙ b)

-- The numbers of a view's cells are those of its words

values-right : (xs ys : List ℕ) → Values (xs ++ ys) → Values ys
unfolding Values
values-right [] ys h = h
values-right (x ∷ xs) ys h = values-right xs ys h.1

values-left : (xs ys : List ℕ) → Values (xs ++ ys) → Values xs
unfolding Values
values-left [] ys h = tt
values-left (x ∷ xs) ys h = (h.0, values-left xs ys h.1)

rule-values : (r : RuleView) → Values (rule_words r) → Values r.cells
unfolding rule_words Values
rule-values r h =
    let cells = length r.cells ∷ r.cells in
    let calls = length r.calls ∷ (all name_words r.calls ++ cells) in
    (values-right (all name_words r.calls) cells (values-right (option_words r.gives) calls (values-right (name_words r.name) (option_words r.gives ++ calls) h)).1).1

rules-values : (rs : List RuleView) → Values (all rule_words rs) → Each (λ r. Values r.cells) rs
unfolding all Each
rules-values [] h = tt
rules-values (r ∷ rs) h = (rule-values r (values-left (rule_words r) (all rule_words rs) h), rules-values rs (values-right (rule_words r) (all rule_words rs) h))

view-values : (common : List ℕ) (v : View) → Values (view_words common v) → Each (λ r. Values r.cells) v.rules
unfolding view_words body_words Values
view-values common v h =
    let rules = all rule_words v.rules in
    rules-values v.rules (values-right (all pair_words v.pairs) rules (values-right (packed common) (all pair_words v.pairs ++ rules) h.1.1.1.1.1.1.1))

-- Words that pass are objects

record AllShown (hs : List Head) (n : Names) (vs : List View) : Type 0 where
  pub lengths : List ℕ
  pub objects : List Object
  pub as_many : length lengths ≡ length objects
  pub sound : Each (Sound hs n) objects
  pub views₁ : views_of lengths objects ≡ vs

all_shown : (common : List ℕ) (hs : List Head) (n : Names) (vs : List View) → Values (all (view_words common) vs) → Each (λ v. view_in_order hs n v ≡ true) vs → AllShown hs n vs
unfolding all Each views_of
all_shown common hs n [] vs h = record { lengths = []; objects = []; as_many = refl; sound = tt; views₁ = refl }
all_shown common hs n (v ∷ vs) a h =
    let x = in-order-sound hs n v (view-values common v (values-left (view_words common v) (all (view_words common) vs) a)) h.0 in
    let y = all_shown common hs n vs (values-right (view_words common v) (all (view_words common) vs) a) h.1 in
    record {
      lengths = v.size ∷ y.lengths;
      objects = x.object ∷ y.objects;
      as_many = ap suc y.as_many;
      sound = (x.sound, y.sound);
      views₁ = rw (x.view, y.views₁);
    }

pub pass-objects : PassObjects
unfolding are_objects all_in_order
pass-objects common c n words a e = go (views common (length words) words) refl e
  where
    hs : List Head
    hs = c.listed

    go : (o : Option (List View)) → views common (length words) words ≡ o → all_in_order hs n o ≡ true → AreObjects common c n words
    go none d e₁ = bools.never e₁
    go (some vs) d e₁ =
        let w = views-are common (length words) words vs d in
        let x = all_shown common hs n vs (rw w at a) (of-every (view_in_order hs n) vs e₁) in
        record {
          lengths = x.lengths;
          objects = x.objects;
          as_many = x.as_many;
          sound = x.sound;
          are = w ∙ ap (all (view_words common)) (sym x.views₁) ∙ sym (all-views common x.lengths x.objects);
        }
