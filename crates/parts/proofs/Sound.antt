-- What is linked of sound objects, whoever wrote them, is the table of an accepted program.
use mathlib.Core.Bool.{Bool, true, false, ◌||◌, not}
use mathlib.Core.List.{List, [], ◌∷◌, ◌++◌, append_assoc}
use mathlib.Core.Logic.{◌⊎◌, inl, inr}
use mathlib.Core.Option.{Option, none, some}
use mathlib.Core.Path.{◌≡◌, refl, sym, ap, ◌∙◌}
use Prim.Native.Nat.{ℕ, zero, suc, ◌+◌, ◌≤◌, ◌<◌, min}
use native.Mathlib.Omega.{arith}
use lib.Dec.{eqb, ltb}
use lib.ListN.{length, get_or, length-append}
use Rattle.acceptance.proofs.Accepts.{NoEnd, at_place, nobody-ok, rule-before, later-procedures, calls-more, procedures-end}
use Rattle.acceptance.proofs.NamesOk.{NamesOk, each_append, sections-ok}
use Rattle.acceptance.proofs.Shape.{Each, NotEmpty}
use Rattle.acceptance.proofs.Used.{UseOk, firsts-each, total, MadeAre, made-are, made-good, lowest-calls, made_each}
use Rattle.base.proofs.Laws.{same_refl, same-eq}
use Rattle.base.specs.Bools.{never, or, or₁, or₂}
use Rattle.base.specs.Common.{same, given}
use Rattle.base.specs.Tree.{plain, cycle, choice, done, ◌▸◌, nil, alternative, absent, otherwise}
use Rattle.calls.proofs.Words.{count-labels, past_all_lem}
use Rattle.calls.specs.Renumber.{renumber_plain, renumber_selector, renumber, renumbers, renumber_alts, renumber_other, renumber_rule}
use Rattle.names.specs.Known.{good, KnownRule, Names, find_rule}
use Rattle.names.specs.Understand.{nobody, is_one}
use Rattle.names.specs.Uses.{Use, lowest_of, made_for}
use Rattle.parts.proofs.Alike.{each_left, each_right}
use Rattle.parts.proofs.Accepted.{common-ok, accepted-works}
use Rattle.parts.proofs.Linking.{past-check, past-test, as_one_lem, common_is}
use Rattle.parts.proofs.Checks.{made-on, or-none, found-off, not-off, Agrees, CallsIn, calls-there, agree-listed}
use Rattle.parts.proofs.Whole.{Listed, named-found}
use Rattle.parts.proofs.Numbers.{some_inj, none-some, found-each, each_map}
use Rattle.parts.specs.Link.{found_if, rules_of, is_named, first_typed, listed_type, agrees, open_call, unlike, unlike_in, uses_of, pairs_in, text_of, known_of, place_for, closing, closed, closed_in, twice_in, past_limit_in, past_made, or_none, program, link}
use Rattle.parts.specs.Objects.{Aim, named, ranked, OpenRule, Object, together}
use Rattle.parts.specs.Sound.{SoundUse, texts_of, call_words, number_of, selector_number, numbers, numbers_all, numbers_some, numbers_other, Few, FewAll, FewSome, FewOther, sort_of, frame, StandsFor, Aligned, SoundRule, Sound, AnyObjects}
use Rattle.program.specs.Accepted.{Accepted, Calls, OkPlain, OkSelector, Ok, Oks, OkAlts, OkOther, NeedsLabel, Labelled}
use Rattle.program.specs.Made.{Operator, Level, operator_alts, level_body, level_rule}
use Rattle.program.specs.Table.{count_labels}
use Rattle.program.specs.Program.{Plain, match, any, emit, error, exit, call, back, give, update, update_with, Selector, by_token, by_rule, by_operation, by_operation_with, Act, Acts, Alts, Other, Rule, rule_of, body_of}
use Rattle.processor.specs.Process.{part_of}
use Rattle.syntax.specs.Parse.{end_of}
use Rattle.syntax.specs.Sections.{names_in_all}
use Rattle.syntax.specs.Texts.{Head, read_common}
use Rattle.words.specs.Words as word
use Rattle.words.specs.Words.{Word}

-- Actions with other numbers are in order where the numbers are

module _ (old prog : List Rule) (to : ℕ → ℕ) where
  -- the rule that a number stands for is a rule of prog, of the same sort
  abbrev pub Moves : ℕ → Type 0
  Moves i = (v : Bool) → Calls old i v → Calls prog (to i) v

  plain_moved : (p : Plain) (v c : Bool) → Each Moves (number_of p) → OkPlain old p v c → OkPlain prog (renumber_plain to p) v c
  unfolding number_of OkPlain renumber_plain Each
  plain_moved (match t) v c h k = k
  plain_moved any v c h k = k
  plain_moved (emit t) v c h k = k
  plain_moved (error t) v c h k = k
  plain_moved exit v c h k = k
  plain_moved (call r) v c h k = h.0 false k
  plain_moved back v c h k = k
  plain_moved (give w) v c h k = k
  plain_moved (update op) v c h k = k
  plain_moved (update_with op w) v c h k = k

  selector-moved : (s : Selector) → Each Moves (selector_number s) → OkSelector old s → OkSelector prog (renumber_selector to s)
  unfolding selector_number OkSelector renumber_selector Each
  selector-moved by_token h k = k
  selector-moved (by_rule r) h k = h.0 true k
  selector-moved (by_operation op) h k = k
  selector-moved (by_operation_with op w) h k = k

  labelled-moved : (q : Alts) → Labelled q → Labelled (renumber_alts to q)
  unfolding Labelled renumber_alts
  labelled-moved nil h = h
  labelled-moved (alternative [] b q) h = h
  labelled-moved (alternative (x ∷ ls) b q) h = h

  label-moved : (s : Selector) (o : Other) (q : Alts) → NeedsLabel s o q → NeedsLabel (renumber_selector to s) (renumber_other to o) (renumber_alts to q)
  unfolding NeedsLabel renumber_selector renumber_other
  label-moved by_token absent q h = labelled-moved q h
  label-moved by_token (otherwise b) q h = h
  label-moved (by_rule r) o q h = h
  label-moved (by_operation op) o q h = h
  label-moved (by_operation_with op w) o q h = h

  mutual
    unfolding numbers Ok renumber

    act-moved : (a : Act) (v c : Bool) → Each Moves (numbers a) → Ok old a v c → Ok prog (renumber to a) v c
    act-moved (plain p) v c h k = plain_moved p v c h k
    act-moved (cycle b) v c h k = acts-moved b v true h k
    act-moved (choice s q o) v c h k =
        let rest = numbers_some q ++ numbers_other o in
        let h₁ = each_right Moves (selector_number s) rest h in (
          selector-moved s (each_left Moves (selector_number s) rest h) k.0,
          alts-moved q v c (each_left Moves (numbers_some q) (numbers_other o) h₁) k.1,
          other-moved o v c (each_right Moves (numbers_some q) (numbers_other o) h₁) k.2,
          label-moved s o q k.3,
        )

    pub acts-moved : (q : Acts) (v c : Bool) → Each Moves (numbers_all q) → Oks old q v c → Oks prog (renumbers to q) v c
    acts-moved done v c h k = k
    acts-moved (a ▸ q) v c h k =
        (act-moved a v c (each_left Moves (numbers a) (numbers_all q) h) k.0, acts-moved q v c (each_right Moves (numbers a) (numbers_all q) h) k.1)

    alts-moved : (q : Alts) (v c : Bool) → Each Moves (numbers_some q) → OkAlts old q v c → OkAlts prog (renumber_alts to q) v c
    alts-moved nil v c h k = k
    alts-moved (alternative ls b q) v c h k =
        (k.0, acts-moved b v c (each_left Moves (numbers_all b) (numbers_some q) h) k.1, alts-moved q v c (each_right Moves (numbers_all b) (numbers_some q) h) k.2)

    other-moved : (o : Other) (v c : Bool) → Each Moves (numbers_other o) → OkOther old o v c → OkOther prog (renumber_other to o) v c
    other-moved absent v c h k = k
    other-moved (otherwise b) v c h k = acts-moved b v c h k

-- Labels stay

module _ (to : ℕ → ℕ) where
  mutual
    unfolding Few renumber

    act-few : (a : Act) → Few a → Few (renumber to a)
    act-few (plain p) h = h
    act-few (cycle b) h = acts-few b h
    act-few (choice s q o) h = let e = count-labels to q in (omega (arith, e, h.0), alts-few q h.1, other-few o h.2)

    acts-few : (q : Acts) → FewAll q → FewAll (renumbers to q)
    acts-few done h = h
    acts-few (a ▸ q) h = (act-few a h.0, acts-few q h.1)

    alts-few : (q : Alts) → FewSome q → FewSome (renumber_alts to q)
    alts-few nil h = h
    alts-few (alternative ls b q) h = (h.0, acts-few b h.1, alts-few q h.2)

    other-few : (o : Other) → FewOther o → FewOther (renumber_other to o)
    other-few absent h = h
    other-few (otherwise b) h = acts-few b h

abbrev pub FewRule : Rule → Type 0
FewRule m = FewAll m.body

operators-few : (c : ℕ) (os : List Operator) → (count_labels (operator_alts c os) ≡ length os) × FewSome (operator_alts c os)
unfolding operator_alts count_labels Few
operators-few c [] = (refl, tt)
operators-few c (o ∷ os) = let h = operators-few c os in (omega (arith, h.0), (omega arith, (tt, (tt, tt)), h.1))

pub level-few : (l : Level) (own higher : ℕ) → length l.operators ≤ 64 → FewRule (level_rule l own higher)
unfolding level_rule level_body Few
level-few l own higher h = go l.right
  where
    go : (b : Bool) → FewAll (level_body b own higher l.operators)
    go false = let x = operators-few higher l.operators in (tt, (((omega (arith, x.0, h), x.1, (tt, tt)), tt), tt))
    go true = let x = operators-few own l.operators in (tt, ((omega (arith, x.0, h), x.1, tt), tt))

closed-few : (hs : List Head) (aims : List Aim) (to : ℕ → ℕ) (rs : List OpenRule) → Each (SoundRule hs aims) rs → Each FewRule (closed to rs)
unfolding closed renumber_rule Each
closed-few hs aims to [] h = tt
closed-few hs aims to (r ∷ rs) h = (acts-few to r.means.body h.0.few, closed-few hs aims to rs h.1)

pub all-few : (hs : List Head) (n : Names) (ks : List KnownRule) (own : ℕ) (us : List Use) (os : List Object) → Each (Sound hs n) os → Each FewRule (closed_in n ks own us os)
unfolding closed_in Each
all-few hs n ks own us [] h = tt
all-few hs n ks own us (o ∷ os) h =
    let to = closing n ks own us o.aims in
    each_append FewRule (closed to o.rules) (closed_in n ks own us os) (closed-few hs o.aims to o.rules h.0.rules) (all-few hs n ks own us os h.1)

-- The linked rules, beside the open ones

data Fit : List OpenRule → List Rule → Type 0 where
  fit-nil : Fit [] []
  fit-cons : {o : OpenRule} {os : List OpenRule} {m : Rule} {ms : List Rule} → m.valued ≡ given o.gives → Fit os ms → Fit (o ∷ os) (m ∷ ms)

fit_append : {os us : List OpenRule} {ms ns : List Rule} → Fit os ms → Fit us ns → Fit (os ++ us) (ms ++ ns)
fit_append fit-nil k = k
fit_append (fit-cons e h) k = fit-cons e (fit_append h k)

fit_length : {os : List OpenRule} {ms : List Rule} → Fit os ms → length ms ≡ length os
fit_length fit-nil = refl
fit_length (fit-cons e h) = ap suc (fit_length h)

closed-fit : (hs : List Head) (aims : List Aim) (to : ℕ → ℕ) (rs : List OpenRule) → Each (SoundRule hs aims) rs → Fit rs (closed to rs)
unfolding closed renumber_rule Each
closed-fit hs aims to [] h = fit-nil
closed-fit hs aims to (r ∷ rs) h = fit-cons h.0.sort (closed-fit hs aims to rs h.1)

all_fit : (hs : List Head) (n : Names) (ks : List KnownRule) (own : ℕ) (us : List Use) (os : List Object) → Each (Sound hs n) os → Fit (rules_of os) (closed_in n ks own us os)
unfolding rules_of closed_in Each
all_fit hs n ks own us [] h = fit-nil
all_fit hs n ks own us (o ∷ os) h = fit_append (closed-fit hs o.aims (closing n ks own us o.aims) o.rules h.0.rules) (all_fit hs n ks own us os h.1)

given-text : (x : Option Word) → given (text_of x) ≡ given x
unfolding text_of
given-text none = refl
given-text (some w) = refl

found-rule : {os : List OpenRule} {ms : List Rule} (i : ℕ) (w : List ℕ) (k : KnownRule) → Fit os ms → find_rule w (known_of i os) ≡ some k
    → (j : ℕ) × (k.place ≡ i + j) × (j < length ms) × ((rule_of ms j).valued ≡ given k.gives)
unfolding known_of find_rule rule_of
found-rule i w k fit-nil e = none-some e
found-rule i w k (fit-cons {o = o} {os = os} {m = m} {ms = ms} v h) e = go (same w o.name.text) refl (found-rule (suc i) w k h)
  where
    own : KnownRule
    own = record { named = o.name.text; place = i; gives = text_of o.gives }

    go : (t : Bool) → same w o.name.text ≡ t
        → (find_rule w (known_of (suc i) os) ≡ some k → (j : ℕ) × (k.place ≡ suc i + j) × (j < length ms) × ((rule_of ms j).valued ≡ given k.gives))
        → (j : ℕ) × (k.place ≡ i + j) × (j < length (m ∷ ms)) × ((rule_of (m ∷ ms) j).valued ≡ given k.gives)
    go true d f =
        let x : own ≡ k = some_inj (rw (find_rule, d) at e) in
        let a : i ≡ k.place = ap (λ (z : KnownRule). z.place) x in
        let b : text_of o.gives ≡ k.gives = ap (λ (z : KnownRule). z.gives) x in
        (0, omega (arith, a), omega arith, v ∙ sym (given-text o.gives) ∙ ap given b)
    go false d f = let y = f (rw (find_rule, d) at e) in (suc y.0, omega (arith, y.1), omega (arith, y.2), y.3)

calls-known : {os : List OpenRule} {ms : List Rule} → Fit os ms → (w : List ℕ) (k : KnownRule) → find_rule w (known_of 0 os) ≡ some k → Calls ms k.place (given k.gives)
calls-known {ms = ms} h w k e =
    let x = found-rule 0 w k h e in
    let y : k.place ≡ x.0 = omega (arith, x.1) in
    record { there = rw y x.2; sort = rw y x.3 }

-- What 49 found nothing in

each_and : {A : Type 0} (P : A → Type 0) (xs ys : List A) → Each P (xs ++ ys) → Each P xs × Each P ys
each_and P xs ys h = (each_left P xs ys h, each_right P xs ys h)

unlike-on : (hs : List Head) (all : List OpenRule) (i : ℕ) (os : List OpenRule) → unlike hs all i os ≡ none → Each (Agrees hs) os × CallsIn all (call_words os)
unfolding unlike call_words Each
unlike-on hs all i [] e = (tt, tt)
unlike-on hs all i (o ∷ os) e =
    let t = agrees o.gives (listed_type o.name.text hs) in
    let a = or-none (found_if (not t) i o.name) _ e in
    let b = or-none (open_call hs all i o.calls) (unlike hs all i os) a.1 in
    let h = unlike-on hs all i os b.1 in
    ((not-off t (found-off (not t) i o.name a.0), h.0), each_append (λ w. is_named w.text all ≡ true) o.calls (call_words os) (calls-there hs all i o.calls b.0) h.1)

words_append : (os us : List OpenRule) → call_words (os ++ us) ≡ call_words os ++ call_words us
unfolding call_words
words_append [] us = refl
words_append (o ∷ os) us = ap (λ (v : List Word). o.calls ++ v) (words_append os us) ∙ sym (append_assoc o.calls (call_words os) (call_words us))

pub unlike-all : (hs : List Head) (all : List OpenRule) (i : ℕ) (os : List Object) → unlike_in hs all i os ≡ none → Each (Agrees hs) (rules_of os) × CallsIn all (call_words (rules_of os))
unfolding unlike_in rules_of call_words Each
unlike-all hs all i [] e = (tt, tt)
unlike-all hs all i (o ∷ os) e =
    let x = or-none (unlike hs all i o.rules) (unlike_in hs all (suc i) os) e in
    let a = unlike-on hs all i o.rules x.0 in
    let b = unlike-all hs all (suc i) os x.1 in
    let z = each_append (λ w. is_named w.text all ≡ true) (call_words o.rules) (call_words (rules_of os)) a.1 b.1 in
    (each_append (Agrees hs) o.rules (rules_of os) a.0 b.0, rw (words_append o.rules (rules_of os)) z)

-- a name that a number stands for is among the words that 49 looks at
unfoldable Shown : List Word → Aim → Type 0
Shown ws (named w) = is_one w (texts_of ws) ≡ true
Shown ws (ranked u) = Unit {0}

shown-more : (w : Word) (ws : List Word) (a : Aim) → Shown ws a → Shown (w ∷ ws) a
unfolding Shown texts_of is_one
shown-more w ws (named v) h = or₂ (same v w.text) (is_one v (texts_of ws)) h
shown-more w ws (ranked u) h = tt

shown-here : (w : Word) (ws : List Word) (a : Aim) → StandsFor a w → Shown (w ∷ ws) a
unfolding Shown StandsFor texts_of is_one
shown-here w ws (named v) h = or₁ (same v w.text) (is_one v (texts_of ws)) (rw h (same_refl w.text))
shown-here w ws (ranked u) h = tt

aligned-shown : (aims : List Aim) (is : List ℕ) (ws : List Word) → Aligned aims is ws → Each (λ i. Shown ws (get_or aims i (named []))) is
unfolding Aligned Each
aligned-shown aims [] [] h = tt
aligned-shown aims [] (w ∷ ws) h = absurd h
aligned-shown aims (i ∷ is) [] h = absurd h
aligned-shown aims (i ∷ is) (w ∷ ws) h =
    (shown-here w ws (get_or aims i (named [])) h.0, each_map (λ j. Shown ws (get_or aims j (named []))) (λ j. Shown (w ∷ ws) (get_or aims j (named []))) is (λ j x. shown-more w ws (get_or aims j (named [])) x) (aligned-shown aims is ws h.1))

-- a word that is among those looked at is a rule's
looked : (all : List OpenRule) (ws : List Word) (w : List ℕ) → CallsIn all ws → is_one w (texts_of ws) ≡ true → is_named w all ≡ true
unfolding texts_of is_one Each
looked all [] w h e = never e
looked all (v ∷ ws) w h e = go (or (same w v.text) (is_one w (texts_of ws)) e) (looked all ws w h.1)
  where
    go : (same w v.text ≡ true) ⊎ (is_one w (texts_of ws) ≡ true) → (is_one w (texts_of ws) ≡ true → is_named w all ≡ true) → is_named w all ≡ true
    go (inl d) ih = ap (λ (x : List ℕ). is_named x all) (same-eq w v.text d) ∙ h.0
    go (inr d) ih = ih d

pub frame_at : (hs : List Head) (aims : List Aim) (i : ℕ) → i < length (frame hs aims) → rule_of (frame hs aims) i ≡ sort_of hs (get_or aims i (named []))
unfolding frame rule_of
frame_at hs [] i l = absurd (omega (arith, l))
frame_at hs (a ∷ aims) zero l = refl
frame_at hs (a ∷ aims) (suc i) l = frame_at hs aims i (omega (arith, l))

first-procedure : {os : List OpenRule} {ms : List Rule} → Fit os ms → NotEmpty os → first_typed os ≡ none → (0 < length ms) × ((rule_of ms 0).valued ≡ false)
unfolding NotEmpty first_typed rule_of
first-procedure fit-nil h e = absurd h
first-procedure (fit-cons {o = o} v k) h e = (omega arith, v ∙ found-off (given o.gives) 1 o.name e)

-- The program

module _ (hs : List Head) (n : Names) (ok : NamesOk n) (os : List Object) (sound : Each (Sound hs n) os) (all-some : NotEmpty (rules_of os))
    (five : first_typed (rules_of os) ≡ none) (forty-nine : unlike_in hs (rules_of os) 1 os ≡ none) (others : ℕ) (made : List Rule)
    (makes : made_for n (known_of 0 (rules_of os)) others (length (rules_of os)) (pairs_in os) ≡ good made) where
  abbrev all : List OpenRule
  all = rules_of os

  abbrev ks : List KnownRule
  ks = known_of 0 (rules_of os)

  abbrev us : List Use
  us = pairs_in os

  abbrev own : ℕ
  own = length (rules_of os)

  abbrev ms : List Rule
  ms = closed_in n ks own us os

  abbrev prog : List Rule
  prog = ms ++ made

  fit : Fit all ms
  fit = all_fit hs n ks own us os sound

  listed : Each (Listed hs) ks
  listed = agree-listed hs 0 all (unlike-all hs all 1 os forty-nine).0

  called : CallsIn all (call_words all)
  called = (unlike-all hs all 1 os forty-nine).1

  record Known (w : List ℕ) : Type 0 where
    rule : KnownRule
    found : find_rule w ks ≡ some rule
    gives : rule.gives ≡ listed_type w hs

  known-of : (w : List ℕ) → is_named w all ≡ true → Known w
  known-of w e =
      let v : Word = record { kind = 0; start = 0; text = w } in
      let x = named-found v 0 all e in
      let y = found-each (Listed hs) w ks x.0 x.1 listed in
      record { rule = x.0; found = x.1; gives = y.0 ∙ ap (λ (z : List ℕ). listed_type z hs) y.1 }

  known : (w : List ℕ) (k : KnownRule) → find_rule w ks ≡ some k → Calls prog k.place (given k.gives)
  known w k e = calls-more ms made k.place (given k.gives) (calls-known fit w k e)

  made-is : MadeAre n us made
  made-is = made-are n ks others own us made makes

  long : length prog ≡ own + total n us
  long = let a = length-append ms made in let b = fit_length fit in let c = made-is.0 in omega (arith, a, b, c)

  later : (r : ℕ) → own ≤ r → r < length prog → (rule_of prog r).valued ≡ false
  later r a l = let b = fit_length fit in later-procedures ms made made-is.1 r (omega (arith, a, b)) l

  first_is : Calls prog 0 false
  first_is =
      let f = first-procedure fit all-some five in
      let a = length-append ms made in
      record { there = omega (arith, f.0, a); sort = ap (λ (x : Rule). x.valued) (rule-before ms made 0 f.0) ∙ f.1 }

  -- the uses
  uses-ok : (us₁ : List Use) (rules : List OpenRule) → CallsIn all (call_words rules) → Each (SoundUse hs n rules) us₁ → Each (UseOk n ks) us₁
  uses-ok us₁ rules c h = each_map (SoundUse hs n rules) (UseOk n ks) us₁ (λ u s.
      let k = known-of u.operand.text (looked all (call_words rules) u.operand.text c s.shown) in
      record { levels = s.levels; section = s.section; rule = k.rule; found = k.found; procedure = ap given (k.gives ∙ s.procedure) }) h

  all-uses : (os₁ : List Object) → CallsIn all (call_words (rules_of os₁)) → Each (Sound hs n) os₁ → Each (UseOk n ks) (uses_of os₁)
  unfolding uses_of rules_of Each
  all-uses [] c h = tt
  all-uses (o ∷ os₁) c h =
      let x = each_and (λ w. is_named w.text all ≡ true) (call_words o.rules) (call_words (rules_of os₁)) (rw (words_append o.rules (rules_of os₁)) at c) in
      each_append (UseOk n ks) o.uses (uses_of os₁) (uses-ok o.uses o.rules x.0 h.0.uses) (all-uses os₁ x.1 h.1)

  used : Each (UseOk n ks) us
  unfolding pairs_in
  used = firsts-each (UseOk n ks) [] (uses_of os) (all-uses os called sound)

  low : (u : Use) → Calls prog (lowest_of n u own us) false
  low u = lowest-calls prog own later n ks ok first_is u own us used (omega arith) (let l = long in omega (arith, l))

  -- the calls
  moves : (aims : List Aim) (ws : List Word) → CallsIn all ws → (i : ℕ) → Shown ws (get_or aims i (named [])) → Moves (frame hs aims) prog (closing n ks own us aims) i
  unfolding closing place_for Shown sort_of
  moves aims ws c i s v h = go (get_or aims i (named [])) refl s
    where
      sort : (rule_of (frame hs aims) i).valued ≡ v
      sort = h.sort

      go : (a : Aim) → get_or aims i (named []) ≡ a → Shown ws a → Calls prog (place_for n ks own us (get_or aims i (named []))) v
      go (named w) d s₁ =
          let k = known-of w (looked all ws w c s₁) in
          let e : given (listed_type w hs) ≡ v = ap (λ (x : Aim). (sort_of hs x).valued) (sym d) ∙ sym (ap (λ (x : Rule). x.valued) (frame_at hs aims i h.there)) ∙ sort in
          let x = known w k.rule k.found in
          let p : place_for n ks own us (named w) ≡ k.rule.place = rw (place_for, k.found) in
          rw (d, p, ← e) (rw k.gives at x)
      go (ranked u) d s₁ =
          let e : false ≡ v = ap (λ (x : Aim). (sort_of hs x).valued) (sym d) ∙ sym (ap (λ (x : Rule). x.valued) (frame_at hs aims i h.there)) ∙ sort in
          rw (d, ← e) (low u)

  abbrev InOrder : Rule → Type 0
  InOrder m = Oks prog m.body m.valued false

  part-good : (aims : List Aim) (rs : List OpenRule) → CallsIn all (call_words rs) → Each (SoundRule hs aims) rs
      → Each InOrder (closed (closing n ks own us aims) rs) × Each NoEnd (closed (closing n ks own us aims) rs)
  unfolding closed renumber_rule call_words Each
  part-good aims [] c h = (tt, tt)
  part-good aims (r ∷ rs) c h =
      let x = each_and (λ w. is_named w.text all ≡ true) r.calls (call_words rs) c in
      let to = closing n ks own us aims in
      let s = h.0 in
      let m = each_map (λ i. Shown r.calls (get_or aims i (named []))) (Moves (frame hs aims) prog to) (numbers_all r.means.body) (λ i w. moves aims r.calls x.0 i w) (aligned-shown aims (numbers_all r.means.body) r.calls s.calls) in
      let rest = part-good aims rs x.1 h.1 in
      ((acts-moved (frame hs aims) prog to r.means.body r.means.valued false m s.in_order, rest.0), ((λ e. past_all_lem to r.means.body ∙ s.no_end e), rest.1))

  all-good : (os₁ : List Object) → CallsIn all (call_words (rules_of os₁)) → Each (Sound hs n) os₁ → Each InOrder (closed_in n ks own us os₁) × Each NoEnd (closed_in n ks own us os₁)
  unfolding closed_in rules_of Each
  all-good [] c h = (tt, tt)
  all-good (o ∷ os₁) c h =
      let x = each_and (λ w. is_named w.text all ≡ true) (call_words o.rules) (call_words (rules_of os₁)) (rw (words_append o.rules (rules_of os₁)) at c) in
      let a = part-good o.aims o.rules x.0 h.0.rules in
      let b = all-good os₁ x.1 h.1 in
      let to = closing n ks own us o.aims in
      (each_append InOrder (closed to o.rules) (closed_in n ks own us os₁) a.0 b.0, each_append NoEnd (closed to o.rules) (closed_in n ks own us os₁) a.1 b.1)

  pub program-accepted : Accepted prog
  unfolding body_of
  program-accepted =
      let g = all-good os called sound in
      let l = long in
      let m = made-good prog own later n ks ok known others own us used (omega arith) (omega (arith, l)) made makes in
      record {
        some_rule = first_is.there;
        first = first_is.sort;
        in_order = at_place InOrder prog (each_append InOrder ms made g.0 m);
        no_end = at_place NoEnd prog (each_append NoEnd ms made g.1 (procedures-end made made-is.1));
      }

-- The answer

pub some-rules : (hs : List Head) (n : Names) (os : List Object) → Each (Sound hs n) os → (eqb (length os) 0 || ltb 16 (length os)) ≡ false → NotEmpty (rules_of os)
unfolding rules_of Each NotEmpty
some-rules hs n [] h e = never (sym e)
some-rules hs n (o ∷ os) h e = longer o.rules (rules_of os) h.0.some_rule
  where
    longer : (rs ss : List OpenRule) → NotEmpty rs → NotEmpty (rs ++ ss)
    longer [] ss k = absurd k
    longer (r ∷ rs) ss k = tt

pub program-is : (n : Names) (others : ℕ) (os : List Object) (made : List Rule) → made_for n (known_of 0 (rules_of os)) others (length (rules_of os)) (pairs_in os) ≡ good made
    → closed_in n (known_of 0 (rules_of os)) (length (rules_of os)) (pairs_in os) os ++ made ≡ program n others os
unfolding program or_none
program-is n others os made e = rw e

pub any-objects : AnyObjects
unfolding link program or_none read_common together
any-objects common_text c rest read n common last_text os room words verdict told h l =
    let hs = c.listed in
    let all = rules_of os in
    let others = names_in_all c.sections in
    let t = eqb (length os) 0 || ltb 16 (length os) in
    let z = past-test t 9 0 (part_of (end_of common_text)) _ l in
    let b = past-check 5 (first_typed all) _ z.1 in
    let d = past-check 49 (unlike_in hs all 1 os) _ b.1 in
    let f = past-check 50 (twice_in [] 1 os) _ d.1 in
    let g = past-check 9 (past_limit_in (min 128 c.left) 1 os) _ f.1 in
    let k = past-check 9 (past_made n others (length all) os (pairs_in os)) _ g.1 in
    let m = made-on n (known_of 0 all) others (length all) os (pairs_in os) k.0 in
    let w = as_one_lem (length os) last_text room (program n others os) words verdict told k.1 in
    let sections = common-ok (length common_text + 1) (word.words common_text) c rest read in
    let ok = sections-ok (together c []) c.sections nobody sections sections nobody-ok n (common_is c [] n common).sections in
    let a = program-accepted hs n ok os h (some-rules hs n os h z.0) b.0 d.0 others m.0 m.1 in
    let labels : Each FewRule (program n others os) = rw (program-is n others os m.0 m.1) at (each_append FewRule _ m.0 (all-few hs n (known_of 0 all) (length all) (pairs_in os) os h)
    (made_each FewRule level-few n (known_of 0 all) others (length all) (pairs_in os) m.0 m.1)) in
    let accepts = rw (program-is n others os m.0 m.1) at a in
    record {
      works = accepted-works (program n others os) words verdict accepts w.words_are w.verdict_is;
      few = labels;
      words_are = w.words_are;
      verdict_is = w.verdict_is;
      figure_is = w.figure_is;
      fits = w.fits;
      within_4096 = w.within_4096;
    }
