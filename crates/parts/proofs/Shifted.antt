-- What is made of rules whose words stand at other places is what is made of the rules, at those places: actions and uses of operators.
use mathlib.Core.Bool.{Bool, true, false}
use mathlib.Core.List.{List, [], ◌∷◌, ◌++◌}
use mathlib.Core.Option.{Option, none, some}
use mathlib.Core.Path.{◌≡◌, refl, ap, ◌∙◌}
use Prim.Native.Nat.{ℕ, ◌+◌}
use lib.ListN.{length}
use Rattle.std.specs.Prelude.{if◌then◌else◌}
use Rattle.base.specs.Common.{member, given}
use Rattle.base.specs.Tree.{plain, cycle, choice, done, ◌▸◌, nil, alternative, absent, otherwise}
use Rattle.names.specs.Known.{Checked, good, wrong, ◌>>=◌, fault_if, Known, KnownType, KnownOperation, KnownRule, Names, find, find_type, find_operation, find_operators, find_rule, declared, is_type, elsewhere, lookup, lookup_type, optional_type}
use Rattle.names.specs.Resolve.{Place, within, Chooses, choosing, operation_of, rule_named, parameter_of, update_of, match_of, give_of, ranked_of, plain_of, members_of, selector_of, labels_of, act_of, acts_of, alts_of, other_of}
use Rattle.names.specs.Uses.{Use, plain_uses, act_uses, acts_uses, alts_uses, other_uses, rules_uses, same_pair, is_used, firsts, pairs_of, levels_used, lowest_of}
use Rattle.parts.proofs.Alike.{id}
use Rattle.parts.specs.Moved.{move_word, move_words, move_if, move_constant, move_plain, move_selector, move_act, move_acts, move_alts, move_other, move_rule, move_rules, move_use, move_uses, move_checked}
use Rattle.program.specs.Made.{Level}
use Rattle.program.specs.Program as means
use Rattle.syntax.specs.Written as written
use Rattle.syntax.specs.Written.{Constant, Program}
use Rattle.words.specs.Words.{Word}

-- Two checks: the first gives what g makes of the second's, or has the second's fault at the word's other place
pub data Shifts (to : ℕ → ℕ) (A B : Type 0) (g : A → B) : Checked B → Checked A → Type 0 where
  shift-good : (a : A) → Shifts to A B g (good (g a)) (good a)
  shift-wrong : {n : ℕ} {w : Word} → Shifts to A B g (wrong n (move_word to w)) (wrong n w)

module _ (to : ℕ → ℕ) where
  abbrev pub Shift : {A B : Type 0} → (A → B) → Checked B → Checked A → Type 0
  Shift {A} {B} g m' m = Shifts to A B g m' m

  pub shift_is : {A B : Type 0} (g : A → B) {m' : Checked B} {m : Checked A} → Shift g m' m → m' ≡ move_checked to g m
  unfolding move_checked
  shift_is g (shift-good a) = refl
  shift_is g shift-wrong = refl

  pub shift-next : {A B C D : Type 0} (g : B → D) (h : A → C) {m' : Checked C} {m : Checked A} (f' : C → Checked D) (f : A → Checked B)
      → Shift h m' m → ((a : A) → Shift g (f' (h a)) (f a)) → Shift g (◌>>=◌ m' f') (◌>>=◌ m f)
  shift-next g h f' f (shift-good a) k = k a
  shift-next g h f' f shift-wrong k = shift-wrong

  -- one test on both sides
  pub shift-if : {B D : Type 0} (g : B → D) (t' t : Bool) (n : ℕ) (w : Word) (f' : Unit {0} → Checked D) (f : Unit {0} → Checked B)
      → t' ≡ t → Shift g (f' tt) (f tt) → Shift g (◌>>=◌ (fault_if t' n (move_word to w)) f') (◌>>=◌ (fault_if t n w) f)
  shift-if g t' t n w f' f e h = rw e (go t)
    where
      go : (t : Bool) → Shift g (◌>>=◌ (fault_if t n (move_word to w)) f') (◌>>=◌ (fault_if t n w) f)
      go true = shift-wrong
      go false = h

  good_shift : {A : Type 0} {a' a : A} → a' ≡ a → Shift {A = A} {B = A} id (good a') (good a)
  good_shift {A} {a'} {a} e = rw e (shift-good a)

  -- Uses of operators

  plain-uses : (a : written.Plain) (k : List Use) → plain_uses (move_plain to a) (move_uses to k) ≡ move_uses to (plain_uses a k)
  unfolding plain_uses move_plain move_uses move_use
  plain-uses (written.named w c) k = refl
  plain-uses (written.any w) k = refl
  plain-uses (written.exit w) k = refl
  plain-uses (written.emit w) k = refl
  plain-uses (written.error w) k = refl
  plain-uses (written.call w) k = refl
  plain-uses (written.give w v) k = refl
  plain-uses (written.ranked s w o) k = refl

  mutual
    unfolding act_uses move_act

    act-uses : (a : written.Act) (k : List Use) → act_uses (move_act to a) (move_uses to k) ≡ move_uses to (act_uses a k)
    act-uses (plain a) k = plain-uses a k
    act-uses (cycle b) k = acts-uses b k
    act-uses (choice s q o) k = ap (alts_uses (move_alts to q)) (other-uses o k) ∙ alts-uses q (other_uses o k)

    acts-uses : (q : written.Acts) (k : List Use) → acts_uses (move_acts to q) (move_uses to k) ≡ move_uses to (acts_uses q k)
    acts-uses done k = refl
    acts-uses (a ▸ q) k = ap (act_uses (move_act to a)) (acts-uses q k) ∙ act-uses a (acts_uses q k)

    alts-uses : (q : written.Alts) (k : List Use) → alts_uses (move_alts to q) (move_uses to k) ≡ move_uses to (alts_uses q k)
    alts-uses nil k = refl
    alts-uses (alternative ls b q) k = ap (acts_uses (move_acts to b)) (alts-uses q k) ∙ acts-uses b (alts_uses q k)

    other-uses : (o : written.Other) (k : List Use) → other_uses (move_other to o) (move_uses to k) ≡ move_uses to (other_uses o k)
    other-uses absent k = refl
    other-uses (otherwise b) k = acts-uses b k

  rules-uses : (rs : List written.Rule) → rules_uses (move_rules to rs) ≡ move_uses to (rules_uses rs)
  unfolding rules_uses move_rules move_rule move_uses
  rules-uses [] = refl
  rules-uses (r ∷ rs) = ap (acts_uses (move_acts to r.body)) (rules-uses rs) ∙ acts-uses r.body (rules_uses rs)

  is-used : (u : Use) (us : List Use) → is_used (move_use to u) (move_uses to us) ≡ is_used u us
  unfolding is_used same_pair move_uses move_use move_word
  is-used u [] = refl
  is-used u (v ∷ us) = rw (is-used u us)

  firsts-moved : (seen us : List Use) → firsts (move_uses to seen) (move_uses to us) ≡ move_uses to (firsts seen us)
  unfolding firsts move_uses
  firsts-moved seen [] = refl
  firsts-moved seen (u ∷ us) = go (is_used u seen) refl (firsts-moved seen us) (firsts-moved (u ∷ seen) us)
    where
      go : (t : Bool) → is_used u seen ≡ t → firsts (move_uses to seen) (move_uses to us) ≡ move_uses to (firsts seen us) → firsts (move_use to u ∷ move_uses to seen) (move_uses to us) ≡ move_uses to (firsts (u ∷ seen) us)
          → firsts (move_uses to seen) (move_use to u ∷ move_uses to us) ≡ move_uses to (firsts seen (u ∷ us))
      go true d a b = rw (firsts, is-used u seen, d) a
      go false d a b = rw (firsts, is-used u seen, d) (ap (λ (x : List Use). move_use to u ∷ x) b)

  pub pairs-moved : (rs : List written.Rule) → pairs_of (move_rules to rs) ≡ move_uses to (pairs_of rs)
  unfolding pairs_of move_uses
  pairs-moved rs = ap (firsts []) (rules-uses rs) ∙ firsts-moved [] (rules_uses rs)

  lowest-moved : (n : Names) (u : Use) (own : ℕ) (us : List Use) → lowest_of n (move_use to u) own (move_uses to us) ≡ lowest_of n u own us
  unfolding lowest_of move_uses same_pair move_use move_word levels_used
  lowest-moved n u own [] = refl
  lowest-moved n u own (v ∷ us) = rw (lowest-moved n u (own + length (levels_used n v)) us)

  -- Actions, in two programs that declare the same names

  module _ (p' p : Program) (same-declared : (w : List ℕ) → declared p' w ≡ declared p w) (same-types : (w : List ℕ) → is_type w p'.sections ≡ is_type w p.sections) where
    pub lookup-moved : (ks : List Known) (w : Word) → Shift id (lookup p' ks (move_word to w)) (lookup p ks w)
    unfolding lookup elsewhere move_word
    lookup-moved ks w = go (find w.text ks) refl
      where
        go : (x : Option ℕ) → find w.text ks ≡ x → Shift {A = ℕ} {B = ℕ} id (lookup p' ks (move_word to w)) (lookup p ks w)
        go (some v) e = rw (lookup, e) (shift-good v)
        go none e = rw (lookup, e, same-declared w.text) shift-wrong

    pub type-moved : (ts : List KnownType) (w : Word) → Shift id (lookup_type p' ts (move_word to w)) (lookup_type p ts w)
    unfolding lookup_type elsewhere move_word
    type-moved ts w = go (find_type w.text ts) refl
      where
        two : (t x : Bool) → Shift {A = List Known} {B = List Known} id
            (if t then wrong 3 (move_word to w) else wrong (if x then 5 else 3) (move_word to w)) (if t then wrong 3 w else wrong (if x then 5 else 3) w)
        two true x = shift-wrong
        two false x = shift-wrong

        go : (x : Option (List Known)) → find_type w.text ts ≡ x → Shift {A = List Known} {B = List Known} id (lookup_type p' ts (move_word to w)) (lookup_type p ts w)
        go (some ks) e = rw (lookup_type, e) (shift-good ks)
        go none e = rw (lookup_type, e, same-declared w.text, same-types w.text) (two (is_type w.text p.sections) (declared p w.text))

    pub optional-moved : (ts : List KnownType) (x : Option Word) → Shift id (optional_type p' ts (move_if to x)) (optional_type p ts x)
    unfolding optional_type move_if
    optional-moved ts none = shift-good none
    optional-moved ts (some w) = shift-next id id _ _ (type-moved ts w) (λ ks. shift-good (some ks))

    module _ (same_length : length p'.rules ≡ length p.rules) (moved-pairs : pairs_of p'.rules ≡ move_uses to (pairs_of p.rules)) (n : Names) (ks : List KnownRule) where
      operation-moved : (w : Word) → Shift id (operation_of p' n ks (move_word to w)) (operation_of p n ks w)
      unfolding operation_of elsewhere move_word
      operation-moved w = go (find_operation w.text n.operations) refl
        where
          go : (x : Option KnownOperation) → find_operation w.text n.operations ≡ x → Shift {A = KnownOperation} {B = KnownOperation} id (operation_of p' n ks (move_word to w)) (operation_of p n ks w)
          go (some o) e = rw (operation_of, e) (shift-good o)
          go none e = rw (operation_of, e, same-declared w.text) shift-wrong

      named-moved : (w : Word) → Shift id (rule_named p' n ks (move_word to w)) (rule_named p n ks w)
      unfolding rule_named elsewhere move_word
      named-moved w = go (given (find_operation w.text n.operations)) refl (find_rule w.text ks) refl
        where
          go : (t : Bool) → given (find_operation w.text n.operations) ≡ t → (x : Option KnownRule) → find_rule w.text ks ≡ x
              → Shift {A = KnownRule} {B = KnownRule} id (rule_named p' n ks (move_word to w)) (rule_named p n ks w)
          go true d x e = rw (rule_named, d) shift-wrong
          go false d (some k) e = rw (rule_named, d, e) (shift-good k)
          go false d none e = rw (rule_named, d, e, same-declared w.text) shift-wrong

      parameter-moved : (w : Word) (t : Option (List Known)) (c : Option Constant) → Shift id (parameter_of p' n ks (move_word to w) t (move_constant to c)) (parameter_of p n ks w t c)
      unfolding parameter_of move_constant
      parameter-moved w none none = shift-good none
      parameter-moved w none (some c) = shift-wrong
      parameter-moved w (some vs) none = shift-wrong
      parameter-moved w (some vs) (some c) = shift-next id id _ _ (lookup-moved vs c.constant) (λ v. shift-good (some v))

      update-moved : (w : Word) (c : Option Constant) → Shift id (update_of p' n ks (move_word to w) (move_constant to c)) (update_of p n ks w c)
      unfolding update_of
      update-moved w c =
          shift-next id id _ _ (operation-moved w) (λ o.
          shift-if id (given o.gives) (given o.gives) 5 w _ _ refl (
          shift-next id id _ _ (parameter-moved w o.takes c) (λ v. shift-good _)))

      match-moved : (v : ℕ) (c : Option Constant) → Shift id (match_of p' n ks v (move_constant to c)) (match_of p n ks v c)
      unfolding match_of move_constant
      match-moved v none = shift-good (means.match v)
      match-moved v (some c) = shift-wrong

      give-moved : (g : Option (List Known)) (w : Word) (v : Option Word) → Shift id (give_of p' n ks g (move_word to w) (move_if to v)) (give_of p n ks g w v)
      unfolding give_of move_if
      give-moved none w none = shift-good means.back
      give-moved none w (some v) = shift-wrong
      give-moved (some vs) w none = shift-wrong
      give-moved (some vs) w (some v) = shift-next id id _ _ (lookup-moved vs v) (λ x. shift-good (means.give x))

      ranked-moved : (s w o : Word) → Shift id (ranked_of p' n ks (move_word to s) (move_word to w) (move_word to o)) (ranked_of p n ks s w o)
      unfolding ranked_of elsewhere move_word move_use
      ranked-moved s w o = go (find_operators w.text n.operators) refl
        where
          u : Use
          u = record { sign = s; section = w; operand = o }

          same_place : lowest_of n (move_use to u) (length p'.rules) (pairs_of p'.rules) ≡ lowest_of n u (length p.rules) (pairs_of p.rules)
          same_place = rw (same_length, moved-pairs) (lowest-moved n u (length p.rules) (pairs_of p.rules))

          go : (x : Option (List Level)) → find_operators w.text n.operators ≡ x → Shift {A = means.Plain} {B = means.Plain} id (ranked_of p' n ks (move_word to s) (move_word to w) (move_word to o)) (ranked_of p n ks s w o)
          go none e = rw (ranked_of, e, same-declared w.text) shift-wrong
          go (some ls) e =
              rw (ranked_of, e) (
              shift-next id id _ _ (named-moved o) (λ r.
              shift-if id (given r.gives) (given r.gives) 5 o _ _ refl (
              good_shift (ap means.call same_place))))

      pub plain_moved : (at : Place) (a : written.Plain) → Shift id (plain_of p' n ks at (move_plain to a)) (plain_of p n ks at a)
      unfolding plain_of move_plain move_word
      plain_moved at (written.named w c) = go (find w.text n.inputs) refl
        where
          go : (x : Option ℕ) → find w.text n.inputs ≡ x → Shift {A = means.Plain} {B = means.Plain} id (plain_of p' n ks at (move_plain to (written.named w c))) (plain_of p n ks at (written.named w c))
          go (some v) e = rw (plain_of, e) (match-moved v c)
          go none e = rw (plain_of, e) (update-moved w c)
      plain_moved at (written.any w) = shift-good means.any
      plain_moved at (written.exit w) = go at.inside
        where
          go : (t : Bool) → Shift {A = means.Plain} {B = means.Plain} id (if t then good means.exit else wrong 7 (move_word to w)) (if t then good means.exit else wrong 7 w)
          go true = shift-good means.exit
          go false = shift-wrong
      plain_moved at (written.emit w) = shift-next id id _ _ (lookup-moved n.outputs w) (λ v. shift-good (means.emit v))
      plain_moved at (written.error w) = shift-next id id _ _ (lookup-moved n.errors w) (λ v. shift-good (means.error v))
      plain_moved at (written.call w) =
          shift-next id id _ _ (named-moved w) (λ r. shift-if id (given r.gives) (given r.gives) 5 w _ _ refl (shift-good (means.call r.place)))
      plain_moved at (written.give w v) = give-moved at.gives w v
      plain_moved at (written.ranked s w o) = ranked-moved s w o

      pub selector-moved : (s : written.Selector) → Shift id (selector_of p' n ks (move_selector to s)) (selector_of p n ks s)
      unfolding selector_of move_selector members_of
      selector-moved written.by_token = shift-good _
      selector-moved (written.by_rule w) = shift-next id id _ _ (named-moved w) (λ r. go r r.gives)
        where
          go : (r : KnownRule) (g : Option (List ℕ)) → Shift {A = Chooses} {B = Chooses} id
              (elim g as (λ _. Checked Chooses) [ none ↦ wrong 5 (move_word to w) | some t ↦ good (record { by = means.by_rule r.place; labels = members_of p' n ks t }) ])
              (elim g as (λ _. Checked Chooses) [ none ↦ wrong 5 w | some t ↦ good (record { by = means.by_rule r.place; labels = members_of p n ks t }) ])
          go r none = shift-wrong
          go r (some t) = shift-good _
      selector-moved (written.by_operation w c) = shift-next id id _ _ (operation-moved w) (λ o. go o o.gives)
        where
          go : (o : KnownOperation) (g : Option (List Known)) → Shift {A = Chooses} {B = Chooses} id
              (elim g as (λ _. Checked Chooses) [
                | none ↦ wrong 5 (move_word to w)
                | some vs ↦ ◌>>=◌ (parameter_of p' n ks (move_word to w) o.takes (move_constant to c)) (λ v. good (record { by = choosing o.instruction v; labels = vs }))
              ])
              (elim g as (λ _. Checked Chooses) [
                | none ↦ wrong 5 w
                | some vs ↦ ◌>>=◌ (parameter_of p n ks w o.takes c) (λ v. good (record { by = choosing o.instruction v; labels = vs }))
              ])
          go o none = shift-wrong
          go o (some vs) = shift-next id id _ _ (parameter-moved w o.takes c) (λ v. shift-good _)

      pub labels-moved : (ws : List Word) (vs : List Known) (seen : List ℕ) → Shift id (labels_of p' n ks (move_words to ws) vs seen) (labels_of p n ks ws vs seen)
      unfolding labels_of move_words
      labels-moved [] vs seen = shift-good []
      labels-moved (w ∷ ws) vs seen =
          shift-next id id _ _ (lookup-moved vs w) (λ v.
          shift-if id (member v seen) (member v seen) 6 w _ _ refl (
          shift-next id id _ _ (labels-moved ws vs (v ∷ seen)) (λ more. shift-good (v ∷ more))))

      mutual
        unfolding act_of move_act

        pub act-moved : (a : written.Act) (at : Place) → Shift id (act_of p' n ks (move_act to a) at) (act_of p n ks a at)
        act-moved (plain a) at = shift-next id id _ _ (plain_moved at a) (λ d. shift-good (plain d))
        act-moved (cycle q) at = shift-next id id _ _ (acts-moved q (within at)) (λ d. shift-good (cycle d))
        act-moved (choice s q o) at =
            shift-next id id _ _ (selector-moved s) (λ c.
            shift-next id id _ _ (alts-moved q at c.labels []) (λ x.
            shift-next id id _ _ (other-moved o at) (λ y. shift-good (choice c.by x y))))

        pub acts-moved : (q : written.Acts) (at : Place) → Shift id (acts_of p' n ks (move_acts to q) at) (acts_of p n ks q at)
        acts-moved done at = shift-good done
        acts-moved (a ▸ q) at = shift-next id id _ _ (act-moved a at) (λ x. shift-next id id _ _ (acts-moved q at) (λ y. shift-good (x ▸ y)))

        pub alts-moved : (q : written.Alts) (at : Place) (vs : List Known) (seen : List ℕ) → Shift id (alts_of p' n ks (move_alts to q) at vs seen) (alts_of p n ks q at vs seen)
        alts-moved nil at vs seen = shift-good nil
        alts-moved (alternative ls q r) at vs seen =
            shift-next id id _ _ (labels-moved ls vs seen) (λ us.
            shift-next id id _ _ (acts-moved q at) (λ x.
            shift-next id id _ _ (alts-moved r at vs (us ++ seen)) (λ y. shift-good (alternative us x y))))

        pub other-moved : (o : written.Other) (at : Place) → Shift id (other_of p' n ks (move_other to o) at) (other_of p n ks o at)
        other-moved absent at = shift-good absent
        other-moved (otherwise q) at = shift-next id id _ _ (acts-moved q at) (λ d. shift-good (otherwise d))
