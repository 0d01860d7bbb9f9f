-- What translating a part writes is sound: linking never turns it away as no object.
use mathlib.Core.Bool.{Bool, true, false, ◌&&◌, ◌||◌}
use mathlib.Core.List.{List, [], ◌∷◌, ◌++◌}
use mathlib.Core.Option.{Option, none, some}
use mathlib.Core.Path.{◌≡◌, refl, sym, ap, ◌∙◌}
use Prim.Native.Nat.{ℕ, zero, suc, ◌+◌, ◌-◌, ◌<◌, min}
use native.Mathlib.Omega.{arith}
use lib.ListN.{length, get_or}
use Rattle.acceptance.proofs.Accepts.{nobody-ok}
use Rattle.acceptance.proofs.CheckLaws.{Yields, no-good, yields, never, next, passed}
use Rattle.acceptance.proofs.NamesOk.{NamesOk, OperatorsOk, Typed, typed, sections-ok}
use Rattle.acceptance.proofs.Resolved.{PlainUsing, Using, UsingAll, UsingSome, UsingOther, acts-using, acts-of}
use Rattle.acceptance.proofs.Shape.{Each, NotEmpty, ShapedAll}
use Rattle.acceptance.proofs.Used.{UseOk, found_of, firsts-each}
use Rattle.base.proofs.Laws.{same_refl}
use Rattle.base.specs.Bools as bools
use Rattle.std.specs.Prelude.{if◌then◌else◌}
use Rattle.base.specs.Common.{same, member, given}
use Rattle.base.specs.Tree.{plain, cycle, choice, done, ◌▸◌, nil, alternative, absent, otherwise}
use Rattle.grammar.proofs.Labels.{rules-labelled}
use Rattle.grammar.proofs.Laws as from
use Rattle.grammar.proofs.Laws.{From}
use Rattle.grammar.proofs.ProgramIn.{rules-from}
use Rattle.grammar.specs.Labels.{labelled, Labelled, LabelledAll, LabelledAlts, LabelledOther, LabelledRules}
use Rattle.names.specs.Known.{Checked, good, wrong, ◌>>=◌, fault_if, Known, KnownOperation, KnownOperators, KnownRule, Names, find, find_operators, find_rule, elsewhere, lookup, optional_type}
use Rattle.names.specs.Resolve.{Place, within, Chooses, updating, choosing, operation_of, rule_named, parameter_of, update_of, match_of, give_of, ranked_of, plain_of, members_of, selector_of, labels_of, act_of, acts_of, alts_of, other_of}
use Rattle.names.specs.Understand.{nobody, is_one, taken}
use Rattle.names.specs.Uses.{Use, plain_uses, act_uses, acts_uses, alts_uses, other_uses, rules_uses, is_used, pairs_of, lowest_of}
use Rattle.parts.proofs.Accepted.{common-ok, part-ok}
use Rattle.parts.proofs.Alike.{OneEach, nowhere, there, one_each_lem, each_left, each_right}
use Rattle.parts.proofs.Depth.{DeepRule, part-deep}
use Rattle.parts.proofs.Linking.{good-inj, common_is, is-common, common-same, object_of}
use Rattle.parts.proofs.Numbers.{none-some, nothing, found-each, open-call, each_map, Sectioned, use-open, OpenUse, use-aim, open-below}
use Rattle.parts.proofs.Pairs.{together-pairs, together-length, uses-paired}
use Rattle.parts.proofs.Rules.{Opened, opened-nil, opened-cons, all-opened, all-used}
use Rattle.parts.proofs.Sound.{frame_at}
use Rattle.parts.specs.Objects
use Rattle.parts.specs.Objects.{call_of, selects, calls, calls_all, calls_some, calls_other, calls_in, Aim, named, ranked, others, aims_of, open_rules, one_each, open_names, OpenRule, together, open_rule, open_all}
use Rattle.parts.specs.Sound.{Few, FewAll, FewSome, FewOther, Deep, DeepAll, DeepSome, DeepOther, number_of, selector_number, numbers, numbers_all, numbers_some, numbers_other, sort_of, frame, texts_of, StandsFor, Aligned, SoundRule, call_words, SoundUse, Sound, TranslatedSound}
use Rattle.precedence.proofs.Places as pair
use Rattle.program.specs.Accepted.{Calls, Oks}
use Rattle.program.specs.Made.{Level}
use Rattle.program.specs.Past.{past_all}
use Rattle.program.specs.Program as means
use Rattle.program.specs.Table.{count_labels}
use Rattle.syntax.specs.Parse.{some_rules}
use Rattle.syntax.specs.Reading.{got, expect}
use Rattle.syntax.specs.Texts.{Head, Common, a_part, read_common, read_part}
use Rattle.syntax.specs.Written as written
use Rattle.syntax.specs.Written.{Constant, Program}
use Rattle.words.specs.Words as word
use Rattle.words.specs.Words.{Word}

-- The calls in order

aligned-append : (aims : List Aim) (is js : List ℕ) (ws vs : List Word) → Aligned aims is ws → Aligned aims js vs → Aligned aims (is ++ js) (ws ++ vs)
unfolding Aligned
aligned-append aims [] js [] vs h k = k
aligned-append aims [] js (w ∷ ws) vs h k = absurd h
aligned-append aims (i ∷ is) js [] vs h k = absurd h
aligned-append aims (i ∷ is) js (w ∷ ws) vs h k = (h.0, aligned-append aims is js ws vs h.1 k)

module _ (hs : List Head) (rs : List written.Rule) (p : Program) (n : Names) (sec : Each (Sectioned n) (pairs_of rs))
    (same_length : length p.rules ≡ length hs + length (others hs rs)) (same-pairs : pairs_of p.rules ≡ pairs_of rs) where
  abbrev aims : List Aim
  aims = aims_of hs rs

  abbrev ks : List KnownRule
  ks = open_rules hs rs

  abbrev n₁ : Names
  n₁ = open_names n

  abbrev Q : Use → Type 0
  Q u = is_used u (pairs_of rs) ≡ true

  use-at : (u : Use) → Q u → OpenUse u aims (lowest_of n₁ u (length p.rules) (pairs_of p.rules))
  use-at u h = rw (same_length, same-pairs) (use-aim hs rs n u sec h)

  -- a rule that is named stands for its name
  name-stands : (w : Word) → Yields (λ k. StandsFor (get_or aims k.place nothing) w) (rule_named p n₁ ks w)
  unfolding StandsFor
  name-stands w k e = rw (open-call hs rs w.text k (found_of p n₁ ks w k e)).aim refl

  use-stands : (u : Use) → Q u → StandsFor (get_or aims (lowest_of n₁ u (length p.rules) (pairs_of p.rules)) nothing) u.operand
  unfolding StandsFor
  use-stands u h = let x = use-at u h in rw x.aim (sym (pair.alike u x.twin x.same-pair).operand)

  abbrev A : List ℕ → List Word → Type 0
  A is ws = Aligned aims is ws

  abbrev PlainAligned : List Word → means.Plain → Type 0
  PlainAligned ws d = A (number_of d) ws

  update-aligned : (w : Word) (c : Option Constant) → Yields (PlainAligned []) (update_of p n₁ ks w c)
  unfolding update_of number_of Aligned
  update-aligned w c =
      next (PlainAligned []) (λ _. Unit {0}) (operation_of p n₁ ks w) _ (λ _ _. tt) (λ o _.
      passed (PlainAligned []) (given o.gives) 5 w _ (λ _.
      next (PlainAligned []) (λ _. Unit {0}) (parameter_of p n₁ ks w o.takes c) _ (λ _ _. tt) (λ v _. yields (PlainAligned []) (updating o.instruction v) (go o.instruction v))))
    where
      go : (i : ℕ) (v : Option ℕ) → PlainAligned [] (updating i v)
      go i none = tt
      go i (some v) = tt

  match-aligned : (v : ℕ) (c : Option Constant) → Yields (PlainAligned []) (match_of p n₁ ks v c)
  unfolding match_of number_of Aligned
  match-aligned v none = yields (PlainAligned []) (means.match v) tt
  match-aligned v (some c) = never (PlainAligned []) 5 c.paren

  give-aligned : (g : Option (List Known)) (w : Word) (v : Option Word) → Yields (PlainAligned []) (give_of p n₁ ks g w v)
  unfolding give_of number_of Aligned
  give-aligned none w none = yields (PlainAligned []) means.back tt
  give-aligned none w (some v) = never (PlainAligned []) 8 v
  give-aligned (some vs) w none = never (PlainAligned []) 8 w
  give-aligned (some vs) w (some v) = next (PlainAligned []) (λ _. Unit {0}) (lookup p vs v) _ (λ _ _. tt) (λ x _. yields (PlainAligned []) (means.give x) tt)

  ranked-aligned : (s w o : Word) → Q (record { sign = s; section = w; operand = o }) → Yields (PlainAligned (o ∷ [])) (ranked_of p n₁ ks s w o)
  unfolding ranked_of elsewhere number_of Aligned
  ranked-aligned s w o h a e = go (find_operators w.text n₁.operators) refl
    where
      u : Use
      u = record { sign = s; section = w; operand = o }

      at : ℕ
      at = lowest_of n₁ u (length p.rules) (pairs_of p.rules)

      go : (x : Option (List Level)) → find_operators w.text n₁.operators ≡ x → PlainAligned (o ∷ []) a
      go none d = no-good (rw (ranked_of, d) at e)
      go (some ls) d =
          next (PlainAligned (o ∷ [])) (λ _. Unit {0}) (rule_named p n₁ ks o) (λ r. ◌>>=◌ (fault_if (given r.gives) 5 o) (λ _. good (means.call at))) (λ _ _. tt) (λ r _.
          passed (PlainAligned (o ∷ [])) (given r.gives) 5 o _ (λ _. yields (PlainAligned (o ∷ [])) (means.call at) (use-stands u h, tt))) a (rw (ranked_of, d) at e)

  plain-aligned : (at : Place) (a : written.Plain) → PlainUsing Q a → Yields (PlainAligned (call_of a)) (plain_of p n₁ ks at a)
  unfolding plain_of call_of PlainUsing number_of Aligned
  plain-aligned at (written.named w c) u = λ d e. go (find w.text n₁.inputs) refl d e
    where
      go : (x : Option ℕ) → find w.text n₁.inputs ≡ x → (d : means.Plain) → plain_of p n₁ ks at (written.named w c) ≡ good d → PlainAligned [] d
      go (some v) f d e = match-aligned v c d (rw (plain_of, f) at e)
      go none f d e = update-aligned w c d (rw (plain_of, f) at e)
  plain-aligned at (written.any w) u = yields (PlainAligned []) means.any tt
  plain-aligned at (written.exit w) u = go at.inside
    where
      go : (t : Bool) → Yields (PlainAligned []) (if t then good means.exit else wrong 7 w)
      go true = yields (PlainAligned []) means.exit tt
      go false = never (PlainAligned []) 7 w
  plain-aligned at (written.emit w) u = next (PlainAligned []) (λ _. Unit {0}) (lookup p n₁.outputs w) _ (λ _ _. tt) (λ v _. yields (PlainAligned []) (means.emit v) tt)
  plain-aligned at (written.error w) u = next (PlainAligned []) (λ _. Unit {0}) (lookup p n₁.errors w) _ (λ _ _. tt) (λ v _. yields (PlainAligned []) (means.error v) tt)
  plain-aligned at (written.call w) u =
      next (PlainAligned (w ∷ [])) (λ k. StandsFor (get_or aims k.place nothing) w) (rule_named p n₁ ks w) _ (name-stands w) (λ k h.
      passed (PlainAligned (w ∷ [])) (given k.gives) 5 w _ (λ _. yields (PlainAligned (w ∷ [])) (means.call k.place) (h, tt)))
  plain-aligned at (written.give w v) u = give-aligned at.gives w v
  plain-aligned at (written.ranked s w o) u = ranked-aligned s w o u

  abbrev ChosenAligned : List Word → Chooses → Type 0
  ChosenAligned ws c = A (selector_number c.by) ws

  selector-aligned : (s : written.Selector) → Yields (ChosenAligned (selects s)) (selector_of p n₁ ks s)
  unfolding selector_of selects selector_number Aligned
  selector-aligned written.by_token = yields (ChosenAligned []) (record { by = means.by_token; labels = n₁.inputs }) tt
  selector-aligned (written.by_rule w) =
      next (ChosenAligned (w ∷ [])) (λ k. StandsFor (get_or aims k.place nothing) w) (rule_named p n₁ ks w) _ (name-stands w) (λ k h. go k h k.gives)
    where
      go : (k : KnownRule) → StandsFor (get_or aims k.place nothing) w → (g : Option (List ℕ))
          → Yields (ChosenAligned (w ∷ [])) (elim g as (λ _. Checked Chooses) [ none ↦ wrong 5 w | some t ↦ good (record { by = means.by_rule k.place; labels = members_of p n₁ ks t }) ])
      go k h none = never (ChosenAligned (w ∷ [])) 5 w
      go k h (some t) = yields (ChosenAligned (w ∷ [])) (record { by = means.by_rule k.place; labels = members_of p n₁ ks t }) (h, tt)
  selector-aligned (written.by_operation w c) = next (ChosenAligned []) (λ _. Unit {0}) (operation_of p n₁ ks w) _ (λ _ _. tt) (λ o _. go o o.gives)
    where
      one : (i : ℕ) (v : Option ℕ) (vs : List Known) → ChosenAligned [] (record { by = choosing i v; labels = vs })
      one i none vs = tt
      one i (some v) vs = tt

      go : (o : KnownOperation) (g : Option (List Known))
          → Yields (ChosenAligned []) (elim g as (λ _. Checked Chooses) [
            | none ↦ wrong 5 w
            | some vs ↦ ◌>>=◌ (parameter_of p n₁ ks w o.takes c) (λ v. good (record { by = choosing o.instruction v; labels = vs }))
          ])
      go o none = never (ChosenAligned []) 5 w
      go o (some vs) = next (ChosenAligned []) (λ _. Unit {0}) (parameter_of p n₁ ks w o.takes c) _ (λ _ _. tt) (λ v _. yields (ChosenAligned []) (record { by = choosing o.instruction v; labels = vs }) (one o.instruction v vs))

  mutual
    unfolding act_of calls numbers Using Aligned

    act-aligned : (a : written.Act) (at : Place) → Using Q a → Yields (λ d. A (numbers d) (calls a)) (act_of p n₁ ks a at)
    act-aligned (plain a) at u = next (λ d. A (numbers d) (call_of a)) (PlainAligned (call_of a)) (plain_of p n₁ ks at a) _ (plain-aligned at a u) (λ d h. yields (λ d. A (numbers d) (call_of a)) (plain d) h)
    act-aligned (cycle b) at u =
        next (λ d. A (numbers d) (calls_all b)) (λ d. A (numbers_all d) (calls_all b)) (acts_of p n₁ ks b (within at)) _ (acts-aligned b (within at) u) (λ d h. yields (λ d. A (numbers d) (calls_all b)) (cycle d) h)
    act-aligned (choice s q o) at u =
        next (λ d. A (numbers d) (selects s ++ (calls_some q ++ calls_other o))) (ChosenAligned (selects s)) (selector_of p n₁ ks s) _ (selector-aligned s) (λ c hc.
        next (λ d. A (numbers d) (selects s ++ (calls_some q ++ calls_other o))) (λ d. A (numbers_some d) (calls_some q)) (alts_of p n₁ ks q at c.labels []) _ (alts-aligned q at c.labels [] u.0) (λ x hx.
        next (λ d. A (numbers d) (selects s ++ (calls_some q ++ calls_other o))) (λ d. A (numbers_other d) (calls_other o)) (other_of p n₁ ks o at) _ (other-aligned o at u.1) (λ y hy.
        yields (λ d. A (numbers d) (selects s ++ (calls_some q ++ calls_other o))) (choice c.by x y)
        (aligned-append aims (selector_number c.by) (numbers_some x ++ numbers_other y) (selects s) (calls_some q ++ calls_other o) hc
        (aligned-append aims (numbers_some x) (numbers_other y) (calls_some q) (calls_other o) hx hy)))))

    pub acts-aligned : (q : written.Acts) (at : Place) → UsingAll Q q → Yields (λ d. A (numbers_all d) (calls_all q)) (acts_of p n₁ ks q at)
    acts-aligned done at u = yields (λ d. A (numbers_all d) []) done tt
    acts-aligned (a ▸ q) at u =
        next (λ d. A (numbers_all d) (calls a ++ calls_all q)) (λ d. A (numbers d) (calls a)) (act_of p n₁ ks a at) _ (act-aligned a at u.0) (λ x hx.
        next (λ d. A (numbers_all d) (calls a ++ calls_all q)) (λ d. A (numbers_all d) (calls_all q)) (acts_of p n₁ ks q at) _ (acts-aligned q at u.1) (λ y hy.
        yields (λ d. A (numbers_all d) (calls a ++ calls_all q)) (x ▸ y) (aligned-append aims (numbers x) (numbers_all y) (calls a) (calls_all q) hx hy)))

    alts-aligned : (q : written.Alts) (at : Place) (vs : List Known) (seen : List ℕ) → UsingSome Q q → Yields (λ d. A (numbers_some d) (calls_some q)) (alts_of p n₁ ks q at vs seen)
    alts-aligned nil at vs seen u = yields (λ d. A (numbers_some d) []) nil tt
    alts-aligned (alternative ls b q) at vs seen u =
        next (λ d. A (numbers_some d) (calls_all b ++ calls_some q)) (λ _. Unit {0}) (labels_of p n₁ ks ls vs seen) _ (λ _ _. tt) (λ us _.
        next (λ d. A (numbers_some d) (calls_all b ++ calls_some q)) (λ d. A (numbers_all d) (calls_all b)) (acts_of p n₁ ks b at) _ (acts-aligned b at u.0) (λ x hx.
        next (λ d. A (numbers_some d) (calls_all b ++ calls_some q)) (λ d. A (numbers_some d) (calls_some q)) (alts_of p n₁ ks q at vs (us ++ seen)) _ (alts-aligned q at vs (us ++ seen) u.1) (λ y hy.
        yields (λ d. A (numbers_some d) (calls_all b ++ calls_some q)) (alternative us x y) (aligned-append aims (numbers_all x) (numbers_some y) (calls_all b) (calls_some q) hx hy))))

    other-aligned : (o : written.Other) (at : Place) → UsingOther Q o → Yields (λ d. A (numbers_other d) (calls_other o)) (other_of p n₁ ks o at)
    other-aligned absent at u = yields (λ d. A (numbers_other d) []) absent tt
    other-aligned (otherwise b) at u =
        next (λ d. A (numbers_other d) (calls_all b)) (λ d. A (numbers_all d) (calls_all b)) (acts_of p n₁ ks b at) _ (acts-aligned b at u) (λ d h. yields (λ d. A (numbers_other d) (calls_all b)) (otherwise d) h)

  -- Labels

  labels-kept : (ls : List Word) (vs : List Known) (seen : List ℕ) → Yields (λ us. length us ≡ length ls) (labels_of p n₁ ks ls vs seen)
  unfolding labels_of
  labels-kept [] vs seen = yields (λ us. length us ≡ 0) [] refl
  labels-kept (w ∷ ws) vs seen =
      next (λ us. length us ≡ suc (length ws)) (λ _. Unit {0}) (lookup p vs w) _ (λ _ _. tt) (λ v _.
      passed (λ us. length us ≡ suc (length ws)) (member v seen) 6 w _ (λ _.
      next (λ us. length us ≡ suc (length ws)) (λ us. length us ≡ length ws) (labels_of p n₁ ks ws vs (v ∷ seen)) _ (labels-kept ws vs (v ∷ seen)) (λ us h.
      yields (λ us. length us ≡ suc (length ws)) (v ∷ us) (omega (arith, h)))))

  abbrev AltsFew : written.Alts → means.Alts → Type 0
  AltsFew q d = (count_labels d ≡ labelled q) × FewSome d

  mutual
    unfolding act_of Few labelled Labelled count_labels

    act-few : (a : written.Act) (at : Place) → Labelled a → Yields Few (act_of p n₁ ks a at)
    act-few (plain a) at h = next Few (λ _. Unit {0}) (plain_of p n₁ ks at a) _ (λ _ _. tt) (λ d _. yields Few (plain d) tt)
    act-few (cycle b) at h = next Few FewAll (acts_of p n₁ ks b (within at)) _ (acts-few b (within at) h) (λ d k. yields Few (cycle d) k)
    act-few (choice s q o) at h =
        next Few (λ _. Unit {0}) (selector_of p n₁ ks s) _ (λ _ _. tt) (λ c _.
        next Few (AltsFew q) (alts_of p n₁ ks q at c.labels []) _ (alts-few q at c.labels [] h.1) (λ x hx.
        next Few FewOther (other_of p n₁ ks o at) _ (other-few o at h.2) (λ y hy.
        yields Few (choice c.by x y) (omega (arith, hx.0, h.0), hx.1, hy))))

    acts-few : (q : written.Acts) (at : Place) → LabelledAll q → Yields FewAll (acts_of p n₁ ks q at)
    acts-few done at h = yields FewAll done tt
    acts-few (a ▸ q) at h =
        next FewAll Few (act_of p n₁ ks a at) _ (act-few a at h.0) (λ x hx.
        next FewAll FewAll (acts_of p n₁ ks q at) _ (acts-few q at h.1) (λ y hy. yields FewAll (x ▸ y) (hx, hy)))

    alts-few : (q : written.Alts) (at : Place) (vs : List Known) (seen : List ℕ) → LabelledAlts q → Yields (AltsFew q) (alts_of p n₁ ks q at vs seen)
    alts-few nil at vs seen h = yields (AltsFew nil) nil (refl, tt)
    alts-few (alternative ls b q) at vs seen h =
        next (AltsFew (alternative ls b q)) (λ us. length us ≡ length ls) (labels_of p n₁ ks ls vs seen) _ (labels-kept ls vs seen) (λ us hu.
        next (AltsFew (alternative ls b q)) FewAll (acts_of p n₁ ks b at) _ (acts-few b at h.1) (λ x hx.
        next (AltsFew (alternative ls b q)) (AltsFew q) (alts_of p n₁ ks q at vs (us ++ seen)) _ (alts-few q at vs (us ++ seen) h.2) (λ y hy.
        yields (AltsFew (alternative ls b q)) (alternative us x y) (omega (arith, hu, hy.0), (omega (arith, hu, h.0), hx, hy.1)))))

    other-few : (o : written.Other) (at : Place) → LabelledOther o → Yields FewOther (other_of p n₁ ks o at)
    other-few absent at h = yields FewOther absent tt
    other-few (otherwise b) at h = next FewOther FewAll (acts_of p n₁ ks b at) _ (acts-few b at h) (λ d k. yields FewOther (otherwise d) k)

  -- Depth

  abbrev DeepTo : ℕ → means.Act → Type 0
  DeepTo left d = Deep d left

  abbrev DeepToAll : ℕ → means.Acts → Type 0
  DeepToAll left d = DeepAll d left

  abbrev DeepToSome : ℕ → means.Alts → Type 0
  DeepToSome left d = DeepSome d left

  abbrev DeepToOther : ℕ → means.Other → Type 0
  DeepToOther left d = DeepOther d left

  mutual
    unfolding act_of Deep

    act-deep : (a : written.Act) (at : Place) (left : ℕ) → Deep a left → Yields (DeepTo left) (act_of p n₁ ks a at)
    act-deep (plain a) at left h = next (DeepTo left) (λ _. Unit {0}) (plain_of p n₁ ks at a) _ (λ _ _. tt) (λ d _. yields (DeepTo left) (plain d) tt)
    act-deep (cycle b) at left h =
        next (DeepTo left) (DeepToAll (left - 1)) (acts_of p n₁ ks b (within at)) _ (acts-deep b (within at) (left - 1) h.1) (λ d k. yields (DeepTo left) (cycle d) (h.0, k))
    act-deep (choice s q o) at left h =
        next (DeepTo left) (λ _. Unit {0}) (selector_of p n₁ ks s) _ (λ _ _. tt) (λ c _.
        next (DeepTo left) (DeepToSome (left - 1)) (alts_of p n₁ ks q at c.labels []) _ (alts-deep q at c.labels [] (left - 1) h.1) (λ x hx.
        next (DeepTo left) (DeepToOther (left - 1)) (other_of p n₁ ks o at) _ (other-deep o at (left - 1) h.2) (λ y hy.
        yields (DeepTo left) (choice c.by x y) (h.0, hx, hy))))

    acts-deep : (q : written.Acts) (at : Place) (left : ℕ) → DeepAll q left → Yields (DeepToAll left) (acts_of p n₁ ks q at)
    acts-deep done at left h = yields (DeepToAll left) done tt
    acts-deep (a ▸ q) at left h =
        next (DeepToAll left) (DeepTo left) (act_of p n₁ ks a at) _ (act-deep a at left h.0) (λ x hx.
        next (DeepToAll left) (DeepToAll left) (acts_of p n₁ ks q at) _ (acts-deep q at left h.1) (λ y hy. yields (DeepToAll left) (x ▸ y) (hx, hy)))

    alts-deep : (q : written.Alts) (at : Place) (vs : List Known) (seen : List ℕ) (left : ℕ) → DeepSome q left → Yields (DeepToSome left) (alts_of p n₁ ks q at vs seen)
    alts-deep nil at vs seen left h = yields (DeepToSome left) nil tt
    alts-deep (alternative ls b q) at vs seen left h =
        next (DeepToSome left) (λ _. Unit {0}) (labels_of p n₁ ks ls vs seen) _ (λ _ _. tt) (λ us _.
        next (DeepToSome left) (DeepToAll left) (acts_of p n₁ ks b at) _ (acts-deep b at left h.0) (λ x hx.
        next (DeepToSome left) (DeepToSome left) (alts_of p n₁ ks q at vs (us ++ seen)) _ (alts-deep q at vs (us ++ seen) left h.1) (λ y hy.
        yields (DeepToSome left) (alternative us x y) (hx, hy))))

    other-deep : (o : written.Other) (at : Place) (left : ℕ) → DeepOther o left → Yields (DeepToOther left) (other_of p n₁ ks o at)
    other-deep absent at left h = yields (DeepToOther left) absent tt
    other-deep (otherwise b) at left h = next (DeepToOther left) (DeepToAll left) (acts_of p n₁ ks b at) _ (acts-deep b at left h) (λ d k. yields (DeepToOther left) (otherwise d) k)

  -- The frame

  frame-length : (xs : List Aim) → length (frame hs xs) ≡ length xs
  unfolding frame
  frame-length [] = refl
  frame-length (a ∷ xs) = ap suc (frame-length xs)

  known : (w : List ℕ) (k : KnownRule) → find_rule w ks ≡ some k → Calls (frame hs aims) k.place (given k.gives)
  unfolding sort_of
  known w k e =
      let x = open-call hs rs w k e in
      let b = (found-each (λ k. k.place < length aims) w ks k e (open-below hs rs)).0 in
      let l = frame-length aims in
      let there : k.place < length (frame hs aims) = omega (arith, b, l) in
      record {
        there = there;
        sort = ap (λ (r : means.Rule). r.valued) (frame_at hs aims k.place there) ∙ ap (λ (a : Aim). (sort_of hs a).valued) x.aim ∙ ap given (sym x.gives);
      }

  inside : (xs : List Aim) (i : ℕ) (u : Use) → get_or xs i nothing ≡ ranked u → i < length xs
  inside [] i u e = let z : ◌≡◌ {A = ℕ} 0 1 = cc in absurd (omega arith)
  inside (a ∷ xs) zero u e = omega arith
  inside (a ∷ xs) (suc i) u e = let h = inside xs i u e in omega (arith, h)

  lowest : (u : Use) → Q u → Calls (frame hs aims) (lowest_of n₁ u (length p.rules) (pairs_of p.rules)) false
  unfolding sort_of
  lowest u h =
      let x = use-at u h in
      let i = lowest_of n₁ u (length p.rules) (pairs_of p.rules) in
      let b = inside aims i x.twin x.aim in
      let l = frame-length aims in
      let there : i < length (frame hs aims) = omega (arith, b, l) in
      record { there = there; sort = ap (λ (r : means.Rule). r.valued) (frame_at hs aims i there) ∙ ap (λ (a : Aim). (sort_of hs a).valued) x.aim }

  -- Rules

  not-and : (a b : Bool) → (a && b) ≡ false → a ≡ true → b ≡ false
  not-and true b e d = e
  not-and false b e d = bools.never d

  rule-sound : NamesOk n → NamesOk n₁ → (seen : List (List ℕ)) (r : written.Rule) → ShapedAll r.body → LabelledAll r.body → DeepRule r → UsingAll Q r.body → Yields (SoundRule hs aims) (open_rule p n ks seen r)
  unfolding open_rule
  rule-sound ok ok₁ seen r s f l u =
      passed (SoundRule hs aims) (taken r.rule n seen) 4 r.rule _ (λ _.
      next (SoundRule hs aims) (Typed r.gives) (optional_type p n.types r.gives) _ (typed p n.types r.gives ok.types) (λ g hg.
      let at : Place = record { inside = false; gives = g } in
      next (SoundRule hs aims) (λ b. Oks (frame hs aims) b (given g) false × A (numbers_all b) (calls_all r.body) × FewAll b × DeepAll b 32) (acts_of p n₁ ks r.body at) _
      (λ b e. (acts-of p n₁ ks (frame hs aims) ok₁ known Q lowest r.body at u s hg.members b e, acts-aligned r.body at u b e, acts-few r.body at f b e, acts-deep r.body at 32 l b e)) (λ b hb.
      passed (SoundRule hs aims) (given g && past_all b) 8 r.closing _ (λ e.
      yields (SoundRule hs aims) (record { name = r.rule; gives = r.gives; calls = calls_all r.body; means = record { valued = given g; body = b } })
      (record { sort = hg.same-given; in_order = hb.0; no_end = not-and (given g) (past_all b) e; few = hb.2; deep = hb.3; calls = hb.1 })))))

  pub rules-sound : NamesOk n → NamesOk n₁ → (seen : List (List ℕ)) (rs₁ : List written.Rule) → Each (λ r. ShapedAll r.body) rs₁ → LabelledRules rs₁ → Each DeepRule rs₁ → Each Q (rules_uses rs₁) → Yields (Each (SoundRule hs aims)) (open_all p n ks seen rs₁)
  unfolding open_all rules_uses Each LabelledRules
  rules-sound ok ok₁ seen [] s f l u = yields (Each (SoundRule hs aims)) [] tt
  rules-sound ok ok₁ seen (r ∷ rs₁) s f l u =
      let x = acts-using Q r.body (rules_uses rs₁) u in
      next (Each (SoundRule hs aims)) (SoundRule hs aims) (open_rule p n ks seen r) _ (rule-sound ok ok₁ seen r s.0 f.0 l.0 x.0) (λ m h.
      next (Each (SoundRule hs aims)) (Each (SoundRule hs aims)) (open_all p n ks (r.rule.text ∷ seen) rs₁) _ (rules-sound ok ok₁ (r.rule.text ∷ seen) rs₁ s.1 f.1 l.1 x.1) (λ ms k.
      yields (Each (SoundRule hs aims)) (m ∷ ms) (h, k)))

-- Uses

module _ (P : Word → Type 0) where
  abbrev P₁ : Use → Type 0
  P₁ u = P u.operand

  plain-operands : (a : written.Plain) (k : List Use) → Each P (call_of a) → Each P₁ k → Each P₁ (plain_uses a k)
  unfolding call_of plain_uses Each
  plain-operands (written.named w c) k h u = u
  plain-operands (written.any w) k h u = u
  plain-operands (written.exit w) k h u = u
  plain-operands (written.emit w) k h u = u
  plain-operands (written.error w) k h u = u
  plain-operands (written.call w) k h u = u
  plain-operands (written.give w v) k h u = u
  plain-operands (written.ranked s w o) k h u = (h.0, u)

  mutual
    unfolding calls act_uses

    act-operands : (a : written.Act) (k : List Use) → Each P (calls a) → Each P₁ k → Each P₁ (act_uses a k)
    act-operands (plain a) k h u = plain-operands a k h u
    act-operands (cycle b) k h u = acts-operands b k h u
    act-operands (choice s q o) k h u =
        let rest = each_right P (selects s) (calls_some q ++ calls_other o) h in
        alts-operands q (other_uses o k) (each_left P (calls_some q) (calls_other o) rest) (other-operands o k (each_right P (calls_some q) (calls_other o) rest) u)

    acts-operands : (q : written.Acts) (k : List Use) → Each P (calls_all q) → Each P₁ k → Each P₁ (acts_uses q k)
    acts-operands done k h u = u
    acts-operands (a ▸ q) k h u = act-operands a (acts_uses q k) (each_left P (calls a) (calls_all q) h) (acts-operands q k (each_right P (calls a) (calls_all q) h) u)

    alts-operands : (q : written.Alts) (k : List Use) → Each P (calls_some q) → Each P₁ k → Each P₁ (alts_uses q k)
    alts-operands nil k h u = u
    alts-operands (alternative ls b q) k h u = acts-operands b (alts_uses q k) (each_left P (calls_all b) (calls_some q) h) (alts-operands q k (each_right P (calls_all b) (calls_some q) h) u)

    other-operands : (o : written.Other) (k : List Use) → Each P (calls_other o) → Each P₁ k → Each P₁ (other_uses o k)
    other-operands absent k h u = u
    other-operands (otherwise b) k h u = acts-operands b k h u

  rules-operands : (rs : List written.Rule) → Each P (calls_in rs) → Each P₁ (rules_uses rs)
  unfolding calls_in rules_uses Each
  rules-operands [] h = tt
  rules-operands (r ∷ rs) h = acts-operands r.body (rules_uses rs) (each_left P (calls_all r.body) (calls_in rs) h) (rules-operands rs (each_right P (calls_all r.body) (calls_in rs) h))

texts-self : (ws : List Word) → Each (λ w. is_one w.text (texts_of ws) ≡ true) ws
unfolding texts_of is_one Each
texts-self [] = tt
texts-self (w ∷ ws) = (
  bools.or₁ (same w.text w.text) (is_one w.text (texts_of ws)) (same_refl w.text),
  each_map (λ v. is_one v.text (texts_of ws) ≡ true) (λ v. (same v.text w.text || is_one v.text (texts_of ws)) ≡ true) ws (λ v e. bools.or₂ (same v.text w.text) (is_one v.text (texts_of ws)) e) (texts-self ws),
)

opened-words : {rs : List written.Rule} {os : List OpenRule} → Opened rs os → call_words os ≡ calls_in rs
unfolding call_words calls_in
opened-words opened-nil = refl
opened-words (opened-cons {r = r} {rs = rs} x g) = rw (x.calls, opened-words g)

opened_some : {rs : List written.Rule} {os : List OpenRule} → Opened rs os → NotEmpty rs → NotEmpty os
unfolding NotEmpty
opened_some opened-nil h = h
opened_some (opened-cons x g) h = tt

not-given : (x : Option (List ℕ)) → given x ≡ false → x ≡ none
not-given none e = refl
not-given (some w) e = bools.never (sym e)

use-sound : (hs : List Head) (rs : List written.Rule) (n : Names) (os : List OpenRule) → call_words os ≡ calls_in rs → (u : Use) → UseOk (open_names n) (open_rules hs rs) u
    → is_one u.operand.text (texts_of (calls_in rs)) ≡ true → SoundUse hs n os u
unfolding open_names
use-sound hs rs n os same_words u h e = go (one_each_lem u.section.text n.operators)
  where
    go : OneEach u.section.text n.operators → SoundUse hs n os u
    go (nowhere a b) = none-some (sym a ∙ h.section)
    go (there ls₁ ls a l b) =
        record { levels = ls; section = b; procedure = sym (open-call hs rs u.operand.text h.rule h.found).gives ∙ not-given h.rule.gives h.procedure; shown = rw same_words e }

one-each-ok : (ks : List KnownOperators) → Each OperatorsOk (one_each ks)
unfolding one_each Each NotEmpty
one-each-ok [] = tt
one-each-ok (k ∷ ks) = (record { some_level = tt; levels = (tt, tt) }, one-each-ok ks)

open-ok : (n : Names) → NamesOk n → NamesOk (open_names n)
unfolding open_names
open-ok n ok = record { inputs = ok.inputs; outputs = ok.outputs; errors = ok.errors; types = ok.types; operations = ok.operations; operators = one-each-ok n.operators }

each_two : (P Q R : Use → Type 0) (us : List Use) → ((u : Use) → P u → Q u → R u) → Each P us → Each Q us → Each R us
unfolding Each
each_two P Q R [] f g h = tt
each_two P Q R (u ∷ us) f g h = (f u g.0 h.0, each_two P Q R us f g.1 h.1)

sound-of : (c : Common) (n : Names) (rs : List written.Rule) (os : List OpenRule) → NamesOk n → Each (λ r. ShapedAll r.body) rs → LabelledRules rs → Each DeepRule rs → NotEmpty rs
    → open_all (together c rs) n (open_rules c.listed rs) [] rs ≡ good os → Sound c.listed n (record { rules = os; uses = pairs_of rs; aims = aims_of c.listed rs })
unfolding together pairs_of aims_of
sound-of c n rs os ok shaped few deep some_rule e =
    let hs = c.listed in
    let o = all-opened (together c rs) n (open_rules hs rs) [] rs os e in
    let used = all-used (together c rs) n (open_rules hs rs) [] rs os e in
    let sec = each_map (UseOk (open_names n) (open_rules hs rs)) (Sectioned n) (pairs_of rs) (use-open n (open_rules hs rs)) (firsts-each (UseOk (open_names n) (open_rules hs rs)) [] (rules_uses rs) used) in
    let operands = rules-operands (λ w. is_one w.text (texts_of (calls_in rs)) ≡ true) rs (texts-self (calls_in rs)) in
    let uses = each_two (UseOk (open_names n) (open_rules hs rs)) (λ u. is_one u.operand.text (texts_of (calls_in rs)) ≡ true) (SoundUse hs n os) (rules_uses rs) (use-sound hs rs n os (opened-words o)) used operands in
    record {
      others = Objects.others hs rs;
      numbered = refl;
      some_rule = opened_some o some_rule;
      rules = rules-sound hs rs (together c rs) n sec (together-length c rs) (together-pairs c rs) ok (open-ok n ok) [] rs shaped few deep (uses-paired rs) os e;
      uses = firsts-each (SoundUse hs n os) [] (rules_uses rs) uses;
    }

-- a part that was read has few labels
part-from : {ws : List Word} (k left : ℕ) → From ws (a_part k left) (λ rest rs. LabelledRules rs)
unfolding a_part
part-from k left =
    from.next (expect word.rules) _ (from.expects 265 refl) (λ ws₁ head t.
    from.bind (some_rules k (min 128 left)) _ (rules-from k (min 128 left)) (λ ws₂ rs m.
    from.next (expect word.end) _ (from.expects-kind word.end) (λ ws₃ _ d.
    from.next (expect word.last) _ (from.expects-kind word.last) (λ ws₄ _ _.
    from.gives rs (rules-labelled m.rules_in)))))

part-labelled : (k left : ℕ) (ws : List Word) (rs : List written.Rule) (rest : List Word) → a_part k left ws ≡ got rs rest → LabelledRules rs
part-labelled k left ws rs rest e = (part-from k left).holds rest rs e

pub translated-sound : TranslatedSound
unfolding read_common read_part together
translated-sound common_text c rest read n common text rs rest₁ read₁ o e =
    let x = object_of c rs o e in
    let y = is-common c rs n (common-same c [] rs n (common_is c [] n common)) in
    let z : x.names ≡ n = good-inj (sym x.common ∙ y) in
    let opens : open_all (together c rs) n (open_rules c.listed rs) [] rs ≡ good x.rules = rw (← z) x.opens in
    let sections = common-ok (length common_text + 1) (word.words common_text) c rest read in
    let ok = sections-ok (together c []) c.sections nobody sections sections nobody-ok n (common_is c [] n common).sections in
    let p = part-ok (length text + 1) c.left (word.words text) rs rest₁ read₁ in
    rw x.is at (sound-of c n rs x.rules ok p.0 (part-labelled (length text + 1) c.left (word.words text) rs rest₁ read₁) (part-deep (length text + 1) c.left (word.words text) rs rest₁ read₁) p.1 opens)
