-- What is made of a part's rules at other places is the same object with its words at those places; and a fault is the same, at the word's other place.
-- The common part stays where it is.
use mathlib.Core.Bool.{Bool, true, false, ◌&&◌, ◌||◌, not}
use mathlib.Core.List.{List, [], ◌∷◌, ◌++◌}
use mathlib.Core.Option.{Option, none, some}
use mathlib.Core.Path.{◌≡◌, refl, sym, ap, ◌∙◌}
use Prim.Native.Nat.{ℕ, zero, suc, ◌-◌}
use lib.ListN.{length}
use Rattle.std.specs.Prelude.{if◌then◌else◌}
use Rattle.base.specs.Common.{given}
use Rattle.base.specs.Tree.{plain, cycle, choice, done, ◌▸◌, nil, alternative, absent, otherwise}
use Rattle.names.specs.Declare.{with_operations, declare_operations, inputs_of, outputs_of, other_side, listed, operator_of, operators_of, declare_section, declare_sections}
use Rattle.names.specs.Known.{Checked, good, wrong, Known, KnownRule, Names, find, find_operation, find_operators, among_rules, declared, is_type, lookup, optional_type}
use Rattle.names.specs.Understand.{nobody, is_one, taken}
use Rattle.names.specs.Uses.{Use, rules_uses, pairs_of}
use Rattle.parts.proofs.Alike.{id}
use Rattle.parts.proofs.Pairs.{together-pairs, together-length}
use Rattle.parts.proofs.Shifted.{shift-good, shift-wrong, Shift, shift-next, shift-if, pairs-moved, lookup-moved, type-moved, optional-moved, acts-moved}
use Rattle.parts.specs.Moved.{move_word, move_words, move_if, move_plain, move_selector, move_act, move_acts, move_alts, move_other, move_rule, move_rules, move_use, move_uses, move_aim, move_aims, move_open, move_opens, move_object, move_part, move_translated}
use Rattle.parts.specs.Objects.{call_of, selects, calls, calls_all, calls_some, calls_other, mentions, Aim, named, ranked, head_aims, use_aims, call_aims, fresh, names_of, others, aims_of, by_calls, open_rules, open_names, OpenRule, as_rules, called_rules, used_in, together, list_means, open_rule, open_all, Translated, object, of_common, of_part, common_means, meaning, past_names, unless_past, read_on}
use Rattle.processor.specs.Process.{part_of}
use Rattle.program.specs.Made as made
use Rattle.program.specs.Past.{past_all}
use Rattle.syntax.specs.Reading.{got}
use Rattle.syntax.specs.Texts.{Head, Common}
use Rattle.syntax.specs.Written as written
use Rattle.syntax.specs.Written.{Operation, Operator, Section, inputs, outputs, both, errors, values, operations, operators, Program}
use Rattle.words.specs.Words.{Word}

-- Two programs with the same sections that declare the same names: their sections mean the same, and have the same fault

abbrev stay : ℕ → ℕ
stay s = s

stay-same : {A : Type 0} {m' m : Checked A} → Shift stay {A = A} {B = A} id m' m → m' ≡ m
unfolding move_word
stay-same (shift-good a) = refl
stay-same shift-wrong = refl

same-stay : {A : Type 0} (m : Checked A) → Shift stay {A = A} {B = A} id m m
unfolding move_word
same-stay (good a) = shift-good a
same-stay (wrong n w) = shift-wrong

module _ (ss : List Section) (rs' rs : List written.Rule)
    (same-declared : (w : List ℕ) → declared (record { sections = ss; rules = rs' }) w ≡ declared (record { sections = ss; rules = rs }) w) where
  abbrev p : Program
  p = record { sections = ss; rules = rs }

  abbrev p' : Program
  p' = record { sections = ss; rules = rs' }

  lookup-stay : (ks : List Known) (w : Word) → Shift stay id (lookup p' ks w) (lookup p ks w)
  unfolding move_word
  lookup-stay ks w = lookup-moved stay p' p same-declared (λ v. refl) ks w

  optional-stay : (n : Names) (x : Option Word) → Shift stay id (optional_type p' n.types x) (optional_type p n.types x)
  unfolding move_if move_word
  optional-stay n none = optional-moved stay p' p same-declared (λ v. refl) n.types none
  optional-stay n (some w) = optional-moved stay p' p same-declared (λ v. refl) n.types (some w)

  operator-stay : (e : Operator) (before : List made.Operator) → Shift stay id (operator_of p' e before) (operator_of p e before)
  unfolding operator_of move_word
  operator-stay e before =
      let t = other_side e before || listed (find e.token.text (inputs_of ss)) before in
      shift-if stay id (not (declared p' e.token.text)) (not (declared p e.token.text)) 3 e.token _ _ (ap not (same-declared e.token.text)) (
      shift-if stay id t t 45 e.token _ _ refl (
      shift-next stay id id _ _ (lookup-stay (inputs_of ss) e.token) (λ v.
      shift-next stay id id _ _ (lookup-stay (outputs_of ss) e.emits) (λ x. shift-good _))))

  operators-stay : (es : List Operator) (before : List made.Operator) → Shift stay id (operators_of p' es before) (operators_of p es before)
  unfolding operators_of
  operators-stay [] before = shift-good before
  operators-stay (e ∷ es) before = shift-next stay id id _ _ (operator-stay e before) (λ o. operators-stay es (before ++ (o ∷ [])))

  operations-stay : (os : List Operation) (n : Names) → Shift stay id (declare_operations p' os n) (declare_operations p os n)
  unfolding declare_operations move_word
  operations-stay [] n = shift-good n
  operations-stay (o ∷ os) n =
      let w = o.operation in
      let t = given (find_operation w.text n.operations) || given (find w.text n.inputs) in
      shift-if stay id t t 4 w _ _ refl (
      shift-next stay id id _ _ (optional-stay n o.takes) (λ t₁.
      shift-next stay id id _ _ (optional-stay n o.gives) (λ g.
      operations-stay os (with_operations n (n.operations ++ (record { named = w.text; instruction = o.instruction; takes = t₁; gives = g } ∷ []))))))

  section-stay : (s : Section) (n : Names) → Shift stay id (declare_section p' s n) (declare_section p s n)
  unfolding declare_section move_word
  section-stay (inputs es) n = same-stay _
  section-stay (outputs es) n = same-stay _
  section-stay (both es) n = same-stay _
  section-stay (errors es) n = same-stay _
  section-stay (values w es) n = same-stay _
  section-stay (operations os) n = operations-stay os n
  section-stay (operators w es) n =
      let t = given (find_operators w.text n.operators) in
      shift-if stay id t t 4 w _ _ refl (shift-next stay id id _ _ (operators-stay es []) (λ os. same-stay _))

  sections-stay : (xs : List Section) (n : Names) → Shift stay id (declare_sections p' xs n) (declare_sections p xs n)
  unfolding declare_sections
  sections-stay [] n = shift-good n
  sections-stay (s ∷ xs) n = shift-next stay id id _ _ (section-stay s n) (λ m. sections-stay xs m)

  list-stay : (n : Names) (seen : List (List ℕ)) (hs : List Head) → Shift stay id (list_means p' n seen hs) (list_means p n seen hs)
  unfolding list_means move_word
  list-stay n seen [] = shift-good tt
  list-stay n seen (h ∷ hs) =
      let t = taken h.rule n seen in
      shift-if stay id t t 4 h.rule _ _ refl (
      shift-next stay id id _ _ (type-moved stay p' p same-declared (λ v. refl) n.types h.gives) (λ _. list-stay n (h.rule.text ∷ seen) hs))

-- What the rules name

module _ (to : ℕ → ℕ) where
  words_append : (xs ys : List Word) → move_words to (xs ++ ys) ≡ move_words to xs ++ move_words to ys
  unfolding move_words
  words_append [] ys = refl
  words_append (x ∷ xs) ys = ap (λ (l : List Word). move_word to x ∷ l) (words_append xs ys)

  words-two : (xs ys : List Word) {xs' ys' : List Word} → xs' ≡ move_words to xs → ys' ≡ move_words to ys → xs' ++ ys' ≡ move_words to (xs ++ ys)
  words-two xs ys e d = rw (e, d) (sym (words_append xs ys))

  call-moved : (a : written.Plain) → call_of (move_plain to a) ≡ move_words to (call_of a)
  unfolding call_of move_plain move_words
  call-moved (written.named w c) = refl
  call-moved (written.any w) = refl
  call-moved (written.exit w) = refl
  call-moved (written.emit w) = refl
  call-moved (written.error w) = refl
  call-moved (written.call w) = refl
  call-moved (written.give w v) = refl
  call-moved (written.ranked s w o) = refl

  selects-moved : (s : written.Selector) → selects (move_selector to s) ≡ move_words to (selects s)
  unfolding selects move_selector move_words
  selects-moved written.by_token = refl
  selects-moved (written.by_rule w) = refl
  selects-moved (written.by_operation w c) = refl

  mutual
    unfolding calls move_act move_words

    calls_moved : (a : written.Act) → calls (move_act to a) ≡ move_words to (calls a)
    calls_moved (plain a) = call-moved a
    calls_moved (cycle b) = calls-all-moved b
    calls_moved (choice s q o) = words-two (selects s) (calls_some q ++ calls_other o) (selects-moved s) (words-two (calls_some q) (calls_other o) (calls-some-moved q) (calls-other-moved o))

    pub calls-all-moved : (q : written.Acts) → calls_all (move_acts to q) ≡ move_words to (calls_all q)
    calls-all-moved done = refl
    calls-all-moved (a ▸ q) = words-two (calls a) (calls_all q) (calls_moved a) (calls-all-moved q)

    calls-some-moved : (q : written.Alts) → calls_some (move_alts to q) ≡ move_words to (calls_some q)
    calls-some-moved nil = refl
    calls-some-moved (alternative ls b q) = words-two (calls_all b) (calls_some q) (calls-all-moved b) (calls-some-moved q)

    calls-other-moved : (o : written.Other) → calls_other (move_other to o) ≡ move_words to (calls_other o)
    calls-other-moved absent = refl
    calls-other-moved (otherwise b) = calls-all-moved b

  mentions-moved : (rs : List written.Rule) → mentions (move_rules to rs) ≡ move_words to (mentions rs)
  unfolding mentions move_rules move_rule move_words
  mentions-moved [] = refl
  mentions-moved (r ∷ rs) = ap (λ (l : List Word). move_word to r.rule ∷ l) (words-two (calls_all r.body) (mentions rs) (calls-all-moved r.body) (mentions-moved rs))

  fresh-moved : (seen : List (List ℕ)) (ws : List Word) → fresh seen (move_words to ws) ≡ move_words to (fresh seen ws)
  unfolding fresh move_words move_word
  fresh-moved seen [] = refl
  fresh-moved seen (w ∷ ws) = go (is_one w.text seen) (fresh seen ws) (fresh (w.text ∷ seen) ws) (fresh-moved seen ws) (fresh-moved (w.text ∷ seen) ws)
    where
      go : (t : Bool) (a b : List Word) {a' b' : List Word} → a' ≡ move_words to a → b' ≡ move_words to b → (if t then a' else move_word to w ∷ b') ≡ move_words to (if t then a else w ∷ b)
      go true a b e d = e
      go false a b e d = ap (λ (l : List Word). move_word to w ∷ l) d

  pub others-moved : (hs : List Head) (rs : List written.Rule) → others hs (move_rules to rs) ≡ move_words to (others hs rs)
  unfolding others
  others-moved hs rs = ap (fresh (names_of hs)) (mentions-moved rs) ∙ fresh-moved (names_of hs) (mentions rs)

  words-length : (ws : List Word) → length (move_words to ws) ≡ length ws
  unfolding move_words
  words-length [] = refl
  words-length (w ∷ ws) = ap suc (words-length ws)

  by-calls-moved : (i : ℕ) (ws : List Word) → by_calls i (move_words to ws) ≡ by_calls i ws
  unfolding by_calls move_words move_word
  by-calls-moved i [] = refl
  by-calls-moved i (w ∷ ws) = rw (by-calls-moved (suc i) ws)

  pub open-moved : (hs : List Head) (rs : List written.Rule) → open_rules hs (move_rules to rs) ≡ open_rules hs rs
  unfolding open_rules
  open-moved hs rs = rw (others-moved hs rs, by-calls-moved (length hs) (others hs rs))

  -- the numbers of its calls

  aims-append : (xs ys : List Aim) → move_aims to (xs ++ ys) ≡ move_aims to xs ++ move_aims to ys
  unfolding move_aims
  aims-append [] ys = refl
  aims-append (x ∷ xs) ys = ap (λ (l : List Aim). move_aim to x ∷ l) (aims-append xs ys)

  aims-two : (xs ys : List Aim) {xs' ys' : List Aim} → xs' ≡ move_aims to xs → ys' ≡ move_aims to ys → xs' ++ ys' ≡ move_aims to (xs ++ ys)
  aims-two xs ys e d = rw (e, d) (sym (aims-append xs ys))

  head-aims : (hs : List Head) → head_aims hs ≡ move_aims to (head_aims hs)
  unfolding head_aims move_aims move_aim
  head-aims [] = refl
  head-aims (h ∷ hs) = ap (λ (l : List Aim). named h.rule.text ∷ l) (head-aims hs)

  call-aims : (ws : List Word) → call_aims (move_words to ws) ≡ move_aims to (call_aims ws)
  unfolding call_aims move_aims move_aim move_words move_word
  call-aims [] = refl
  call-aims (w ∷ ws) = ap (λ (l : List Aim). named w.text ∷ l) (call-aims ws)

  use-aims : (us : List Use) → use_aims (move_uses to us) ≡ move_aims to (use_aims us)
  unfolding use_aims move_aims move_aim move_uses
  use-aims [] = refl
  use-aims (u ∷ us) = ap (λ (l : List Aim). ranked (move_use to u) ∷ l) (use-aims us)

  pub aims-moved : (hs : List Head) (rs : List written.Rule) → aims_of hs (move_rules to rs) ≡ move_aims to (aims_of hs rs)
  unfolding aims_of
  aims-moved hs rs =
      let ns = call_aims (others hs rs) in
      let us = use_aims (pairs_of rs) in
      aims-two (head_aims hs) (ns ++ us) (head-aims hs) (aims-two ns us (ap call_aims (others-moved hs rs) ∙ call-aims (others hs rs)) (ap use_aims (pairs-moved to rs) ∙ use-aims (pairs_of rs)))

  -- The program in which a part is resolved

  among-used : (v : List ℕ) (us : List Use) (rs : List written.Rule) → among_rules v (used_in us rs) ≡ among_rules v rs
  unfolding among_rules used_in
  among-used v us [] = refl
  among-used v us (r ∷ rs) = refl

  among-called : (v : List ℕ) (ws : List Word) → among_rules v (called_rules (move_words to ws)) ≡ among_rules v (called_rules ws)
  unfolding among_rules called_rules move_words move_word
  among-called v [] = refl
  among-called v (w ∷ ws) = rw (among-called v ws)

  among-listed : (v : List ℕ) (hs : List Head) (ws : List Word) → among_rules v (as_rules hs ++ called_rules (move_words to ws)) ≡ among_rules v (as_rules hs ++ called_rules ws)
  unfolding among_rules as_rules
  among-listed v [] ws = among-called v ws
  among-listed v (h ∷ hs) ws = rw (among-listed v hs ws)

  module _ (c : Common) (rs : List written.Rule) where
    pub together-declares : (v : List ℕ) → declared (together c (move_rules to rs)) v ≡ declared (together c rs) v
    unfolding declared together
    together-declares v =
        rw (
          among-used v (rules_uses (move_rules to rs)) (as_rules c.listed ++ called_rules (others c.listed (move_rules to rs))),
          among-used v (rules_uses rs) (as_rules c.listed ++ called_rules (others c.listed rs)),
          others-moved c.listed rs,
          among-listed v c.listed (others c.listed rs),
        ) refl

    pub together-as-long : length (together c (move_rules to rs)).rules ≡ length (together c rs).rules
    together-as-long = rw (together-length c (move_rules to rs), together-length c rs, others-moved c.listed rs, words-length (others c.listed rs)) refl

    pub together-paired : pairs_of (together c (move_rules to rs)).rules ≡ move_uses to (pairs_of (together c rs).rules)
    together-paired = together-pairs c (move_rules to rs) ∙ pairs-moved to rs ∙ ap (move_uses to) (sym (together-pairs c rs))

    -- the common part means the same, and has the same fault
    pub common-moved : common_means c (move_rules to rs) ≡ common_means c rs
    unfolding common_means together
    common-moved =
        let rs' = (together c (move_rules to rs)).rules in
        let rs₀ = (together c rs).rules in
        stay-same (
        shift-next stay id id _ _ (sections-stay c.sections rs' rs₀ together-declares c.sections nobody) (λ n.
        shift-next stay id id _ _ (list-stay c.sections rs' rs₀ together-declares n [] c.listed) (λ _. shift-good n)))

  -- Rules

  module _ (p' p : Program) (same-declared : (w : List ℕ) → declared p' w ≡ declared p w) (same-types : (w : List ℕ) → is_type w p'.sections ≡ is_type w p.sections)
      (same_length : length p'.rules ≡ length p.rules) (moved-pairs : pairs_of p'.rules ≡ move_uses to (pairs_of p.rules)) (n : Names) (ks : List KnownRule) where
    pub rule_moved : (seen : List (List ℕ)) (r : written.Rule) → Shift to (move_open to) (open_rule p' n ks seen (move_rule to r)) (open_rule p n ks seen r)
    unfolding open_rule move_rule move_open taken move_word
    rule_moved seen r =
        let t = taken r.rule n seen in
        shift-if to (move_open to) t t 4 r.rule _ _ refl (
        shift-next to (move_open to) id _ _ (optional-moved to p' p same-declared same-types n.types r.gives) (λ g.
        shift-next to (move_open to) id _ _ (acts-moved to p' p same-declared same-types same_length moved-pairs (open_names n) ks r.body (record { inside = false; gives = g })) (λ b.
        shift-if to (move_open to) (given g && past_all b) (given g && past_all b) 8 r.closing _ _ refl (
        rw (calls-all-moved r.body) (shift-good (record { name = r.rule; gives = r.gives; calls = calls_all r.body; means = record { valued = given g; body = b } }))))))

    pub rules-moved : (seen : List (List ℕ)) (rs : List written.Rule) → Shift to (move_opens to) (open_all p' n ks seen (move_rules to rs)) (open_all p n ks seen rs)
    unfolding open_all move_rules move_rule move_opens move_word
    rules-moved seen [] = shift-good []
    rules-moved seen (r ∷ rs) =
        shift-next to (move_opens to) (move_open to) _ _ (rule_moved seen r) (λ o.
        shift-next to (move_opens to) (move_opens to) _ _ (rules-moved (r.rule.text ∷ seen) rs) (λ os. shift-good (o ∷ os)))

  -- The whole part

  of_part_lem : {A B : Type 0} (g : A → B) {m' : Checked B} {m : Checked A} (f' : B → Translated) (f : A → Translated) → Shift to g m' m → ((a : A) → f' (g a) ≡ move_translated to (f a))
      → of_part m' f' ≡ move_translated to (of_part m f)
  unfolding of_part move_translated move_part part_of move_word
  of_part_lem g f' f (shift-good a) h = h a
  of_part_lem g f' f shift-wrong h = refl

  of-common : {A : Type 0} (m : Checked A) (f' f : A → Translated) → ((a : A) → f' a ≡ move_translated to (f a)) → of_common m f' ≡ move_translated to (of_common m f)
  unfolding of_common move_translated
  of-common (good a) f' f h = h a
  of-common (wrong n w) f' f h = refl

  object-moved : (os : List OpenRule) (us : List Use) (aims₀ : List Aim)
      → object (record { rules = move_opens to os; uses = move_uses to us; aims = move_aims to aims₀ }) ≡ move_translated to (object (record { rules = os; uses = us; aims = aims₀ }))
  unfolding move_translated move_object
  object-moved os us aims₀ = refl

  pub meaning-moved : (c : Common) (rs : List written.Rule) → meaning c (move_rules to rs) ≡ move_translated to (meaning c rs)
  unfolding meaning
  meaning-moved c rs =
      rw (common-moved c rs, open-moved c.listed rs, pairs-moved to rs, aims-moved c.listed rs) (
      of-common (common_means c rs) _ _ (λ n.
      of_part_lem (move_opens to) _ _
      (rules-moved (together c (move_rules to rs)) (together c rs) (together-declares c rs) (λ v. unfold together in refl) (together-as-long c rs) (together-paired c rs) n (open_rules c.listed rs) [] rs)
      (λ os. object-moved os (pairs_of rs) (aims_of c.listed rs))))

  past-moved : (left : ℕ) (ws : List Word) → past_names left (move_words to ws) ≡ move_if to (past_names left ws)
  unfolding past_names move_words move_if
  past-moved left [] = refl
  past-moved zero (w ∷ ws) = refl
  past-moved (suc left) (w ∷ ws) = past-moved left ws

  unless-moved : (x : Option Word) (t : Translated) → unless_past (move_if to x) (move_translated to t) ≡ move_translated to (unless_past x t)
  unfolding unless_past move_if move_translated move_part part_of move_word
  unless-moved none t = refl
  unless-moved (some w) t = refl

  -- what is read at other places is translated to the same, at those places
  pub read-on-moved : (c : Common) (rs : List written.Rule) (ws' ws : List Word) → read_on c (got (move_rules to rs) ws') ≡ move_translated to (read_on c (got rs ws))
  unfolding read_on
  read-on-moved c rs ws' ws =
      rw (others-moved c.listed rs, past-moved (c.left - length c.listed) (others c.listed rs), meaning-moved c rs)
      (unless-moved (past_names (c.left - length c.listed) (others c.listed rs)) (meaning c rs))
