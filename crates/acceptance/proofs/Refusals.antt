-- What is refused of a program that was read is refused at a word of its text; so is what is refused of any text, at this word or at the text's end. The
-- laws follow the checks, one by one.
use mathlib.Core.Bool.{Bool, true, false, ◌&&◌, ◌||◌, not}
use mathlib.Core.List.{List, [], ◌∷◌, ◌++◌}
use mathlib.Core.Logic.{inl, inr}
use mathlib.Core.Option.{Option, none, some}
use mathlib.Core.Path.{◌≡◌, refl, ap}
use Prim.Native.Nat.{ℕ, ◌+◌}
use lib.Dec.{leb, ltb}
use lib.ListN.{length, take, drop}
use borrow.Author.Tests.{ltb-true}
use native.Mathlib.Omega.{arith}
use Rattle.acceptance.proofs.ReadShown.{Is, May, ConstantShown, PlainShown, SelectorShown, ActShown, ActsShown, AltsShown, OtherShown, EntryShown, OperationShown, OperatorShown, SectionShown, RuleShown, ProgramShown, programs}
use Rattle.acceptance.proofs.Shape.{Each}
use Rattle.acceptance.proofs.Used.{firsts-each}
use Rattle.acceptance.specs.Shown.{Later, ShownBy, a_byte, too_early, a_word, ShownAt, at_word, over_long, too_short, WordOf, Shows, the_word, nothing, LiesIn}
use Rattle.std.specs.Prelude.{if◌then◌else◌}
use Rattle.base.specs.Common.{given, member}
use Rattle.base.specs.Tree.{plain, cycle, choice, done, ◌▸◌, nil, alternative, absent, otherwise}
use Rattle.finishing.specs.Test.{finishing}
use Rattle.names.specs.Declare.{repeats, clashes, declare_all, declare_both, declare_operations, inputs_of, outputs_of, other_side, listed, operator_of, operators_of, declare_section, declare_sections, known_rules}
use Rattle.names.specs.Known as known
use Rattle.names.specs.Known.{Checked, good, wrong, fault_if, Known, KnownType, KnownOperation, KnownRule, Names, find, find_type, find_operation, find_operators, find_rule, declared, is_type, elsewhere, lookup, lookup_type, optional_type}
use Rattle.names.specs.Resolve.{Place, operation_of, rule_named, parameter_of, update_of, match_of, give_of, ranked_of, plain_of, selector_of, labels_of, act_of, acts_of, alts_of, other_of}
use Rattle.names.specs.Understand.{nobody, taken, is_first, rule_means, rules_mean, understand}
use Rattle.names.specs.Uses.{Use, plain_uses, act_uses, acts_uses, alts_uses, other_uses, rules_uses, pairs_of, levels_used, made_for}
use Rattle.processor.specs.Process.{Part, part_of, Understood, meaning, faulty, checked, read_in, understood, accepted, refused, answer_for, process}
use Rattle.program.specs.Made as made
use Rattle.program.specs.Made.{crowded}
use Rattle.program.specs.Past.{past_all}
use Rattle.program.specs.Program as means
use Rattle.program.specs.Table.{size_rules, table}
use Rattle.syntax.specs.Parse.{program, parse, end_of}
use Rattle.syntax.specs.Reading.{Read, got, fault}
use Rattle.syntax.specs.Sections.{names_in_all}
use Rattle.syntax.specs.Written as written
use Rattle.syntax.specs.Written.{Constant, Entry, Operation, Section, inputs, outputs, both, errors, values, operations, operators, Program}
use Rattle.words.specs.Words.{Word, words}

module _ (text : List ℕ) where
  -- whatever fault m gives is shown
  record Wrongs {A : Type 0} (m : Checked A) : Type 0 where
    says : (n : ℕ) (w : Word) → m ≡ wrong n w → ShownBy text n w

  goods : {A : Type 0} {a : A} → Wrongs (good a)
  goods = record { says = λ n w e. (let z : ◌≡◌ {A = ℕ} 0 1 = cc in absurd (omega arith)) }

  shows : {A : Type 0} {k : ℕ} {v : Word} → ShownBy text k v → Wrongs {A = A} (wrong k v)
  shows {k = k} {v = v} h = record { says = λ n w e. (let d : k ≡ n = cc in let c : v ≡ w = cc in rw (d, c) at h) }

  wrongs : {A : Type 0} (k : ℕ) {v : Word} → Later k → Is text v → Wrongs {A = A} (wrong k v)
  wrongs k h i = shows (a_word h i)

  next : {A B : Type 0} (m : Checked A) {f : A → Checked B} → Wrongs m → ((a : A) → Wrongs (f a)) → Wrongs (known.◌>>=◌ m f)
  next (good a) p q = q a
  next (wrong k v) p q = shows (p.says k v refl)

  tested : {B : Type 0} (t : Bool) (k : ℕ) (v : Word) {f : Unit {0} → Checked B} → Later k → Is text v → ((u : Unit {0}) → Wrongs (f u)) → Wrongs (known.◌>>=◌ (fault_if t k v) f)
  tested true k v h i p = wrongs k h i
  tested false k v h i p = p tt

  one_of : {A : Type 0} (t : Bool) {m k : Checked A} → Wrongs m → Wrongs k → Wrongs (if t then m else k)
  one_of true p q = p
  one_of false p q = q

  elsewheres : {A : Type 0} (p : Program) (w : Word) → Is text w → Wrongs {A = A} (elsewhere p w)
  unfolding elsewhere
  elsewheres {A} p w i = go (declared p w.text)
    where
      go : (t : Bool) → Wrongs {A = A} (wrong (if t then 5 else 3) w)
      go true = wrongs 5 (inl (omega arith, omega arith)) i
      go false = wrongs 3 (inl (omega arith, omega arith)) i

  -- what is found, or a fault
  found : {A B : Type 0} (o : Option A) {f : A → Checked B} {m : Checked B} → ((a : A) → Wrongs (f a)) → Wrongs m → Wrongs {A = B} (elim o as (λ _. Checked B) [ some a ↦ f a | none ↦ m ])
  found none p q = q
  found (some a) p q = p a

  typed : {A B : Type 0} (o : Option A) {m : Checked B} {f : A → Checked B} → Wrongs m → ((a : A) → Wrongs (f a)) → Wrongs {A = B} (elim o as (λ _. Checked B) [ none ↦ m | some a ↦ f a ])
  typed none p q = p
  typed (some a) p q = q a

  lookups : (p : Program) (ks : List Known) (w : Word) → Is text w → Wrongs (lookup p ks w)
  unfolding lookup
  lookups p ks w i = found (find w.text ks) (λ v. goods) (elsewheres p w i)

  type-lookups : (p : Program) (ts : List KnownType) (w : Word) → Is text w → Wrongs (lookup_type p ts w)
  unfolding lookup_type
  type-lookups p ts w i = found (find_type w.text ts) (λ ks. goods) (one_of (is_type w.text p.sections) (wrongs 3 (inl (omega arith, omega arith)) i) (elsewheres p w i))

  optional-types : (p : Program) (ts : List KnownType) (w : Option Word) → May text w → Wrongs (optional_type p ts w)
  unfolding optional_type
  optional-types p ts none i = goods
  optional-types p ts (some w) i = next (lookup_type p ts w) (type-lookups p ts w i) (λ ks. goods)

  -- Declarations

  declare-all : (es : List Entry) (have : List Known) (os : List KnownOperation) → Each (EntryShown text) es → Wrongs (declare_all es have os)
  unfolding declare_all Each
  declare-all [] have os i = goods
  declare-all (e ∷ es) have os i = tested (repeats e have || clashes e os) 4 e.entry (inl (omega arith, omega arith)) i.0 (λ _. declare-all es _ os i.1)

  declare-both : (es : List Entry) (ins outs : List Known) (os : List KnownOperation) → Each (EntryShown text) es → Wrongs (declare_both es ins outs os)
  unfolding declare_both Each
  declare-both [] ins outs os i = goods
  declare-both (e ∷ es) ins outs os i =
      tested (repeats e ins || repeats e outs || clashes e os) 4 e.entry (inl (omega arith, omega arith)) i.0 (λ _. declare-both es _ _ os i.1)

  declare-operations : (p : Program) (os : List Operation) (n : Names) → Each (OperationShown text) os → Wrongs (declare_operations p os n)
  unfolding declare_operations Each
  declare-operations p [] n i = goods
  declare-operations p (o ∷ os) n i =
      tested (given (find_operation o.operation.text n.operations) || given (find o.operation.text n.inputs)) 4 o.operation (inl (omega arith, omega arith)) i.0.0
      (λ _. next (optional_type p n.types o.takes) (optional-types p n.types o.takes i.0.1) (λ t.
      next (optional_type p n.types o.gives) (optional-types p n.types o.gives i.0.2) (λ g. declare-operations p os _ i.1)))

  operator-of : (p : Program) (e : written.Operator) (before : List made.Operator) → OperatorShown text e → Wrongs (operator_of p e before)
  unfolding operator_of
  operator-of p e before i =
      tested (not (declared p e.token.text)) 3 e.token (inl (omega arith, omega arith)) i.0 (λ _.
      tested (other_side e before || listed (find e.token.text (inputs_of p.sections)) before) 45 e.token (inr refl) i.0 (λ _.
      next (lookup p (inputs_of p.sections) e.token) (lookups p (inputs_of p.sections) e.token i.0) (λ t.
      next (lookup p (outputs_of p.sections) e.emits) (lookups p (outputs_of p.sections) e.emits i.1) (λ o. goods))))

  operators-of : (p : Program) (es : List written.Operator) (before : List made.Operator) → Each (OperatorShown text) es → Wrongs (operators_of p es before)
  unfolding operators_of Each
  operators-of p [] before i = goods
  operators-of p (e ∷ es) before i = next (operator_of p e before) (operator-of p e before i.0) (λ o. operators-of p es _ i.1)

  declare-section : (p : Program) (s : Section) (n : Names) → SectionShown text s → Wrongs (declare_section p s n)
  unfolding declare_section
  declare-section p (inputs es) n i = next (declare_all es n.inputs n.operations) (declare-all es n.inputs n.operations i) (λ ks. goods)
  declare-section p (outputs es) n i = next (declare_all es n.outputs []) (declare-all es n.outputs [] i) (λ ks. goods)
  declare-section p (both es) n i = next (declare_both es n.inputs n.outputs n.operations) (declare-both es n.inputs n.outputs n.operations i) (λ ks. goods)
  declare-section p (errors es) n i = next (declare_all es n.errors []) (declare-all es n.errors [] i) (λ ks. goods)
  declare-section p (values w es) n i =
      tested (given (find_type w.text n.types)) 4 w (inl (omega arith, omega arith)) i.0 (λ _. next (declare_all es [] []) (declare-all es [] [] i.1) (λ ks. goods))
  declare-section p (operations os) n i = declare-operations p os n i
  declare-section p (operators w es) n i =
      tested (given (find_operators w.text n.operators)) 4 w (inl (omega arith, omega arith)) i.0 (λ _. next (operators_of p es []) (operators-of p es [] i.1) (λ os. goods))

  declare-sections : (p : Program) (ss : List Section) (n : Names) → Each (SectionShown text) ss → Wrongs (declare_sections p ss n)
  unfolding declare_sections Each
  declare-sections p [] n i = goods
  declare-sections p (s ∷ ss) n i = next (declare_section p s n) (declare-section p s n i.0) (λ m. declare-sections p ss m i.1)

  -- Rules

  module _ (p : Program) (n : Names) (ks : List KnownRule) where
    operation-of : (w : Word) → Is text w → Wrongs (operation_of p n ks w)
    unfolding operation_of
    operation-of w i = found (find_operation w.text n.operations) (λ o. goods) (elsewheres p w i)

    rule-named : (w : Word) → Is text w → Wrongs (rule_named p n ks w)
    unfolding rule_named
    rule-named w i =
        one_of (given (find_operation w.text n.operations)) (wrongs 5 (inl (omega arith, omega arith)) i) (found (find_rule w.text ks) (λ r. goods) (elsewheres p w i))

    parameter-of : (w : Word) (takes : Option (List Known)) (c : Option Constant) → Is text w → ConstantShown text c → Wrongs (parameter_of p n ks w takes c)
    unfolding parameter_of
    parameter-of w none none i j = goods
    parameter-of w none (some c) i j = wrongs 5 (inl (omega arith, omega arith)) j.0
    parameter-of w (some ms) none i j = wrongs 5 (inl (omega arith, omega arith)) i
    parameter-of w (some ms) (some c) i j = next (lookup p ms c.constant) (lookups p ms c.constant j.1) (λ v. goods)

    update-of : (w : Word) (c : Option Constant) → Is text w → ConstantShown text c → Wrongs (update_of p n ks w c)
    unfolding update_of
    update-of w c i j =
        next (operation_of p n ks w) (operation-of w i) (λ o. tested (given o.gives) 5 w (inl (omega arith, omega arith)) i
        (λ _. next (parameter_of p n ks w o.takes c) (parameter-of w o.takes c i j) (λ v. goods)))

    match-of : (v : ℕ) (c : Option Constant) → ConstantShown text c → Wrongs (match_of p n ks v c)
    unfolding match_of
    match-of v none j = goods
    match-of v (some c) j = wrongs 5 (inl (omega arith, omega arith)) j.0

    give-of : (g : Option (List Known)) (w : Word) (v : Option Word) → Is text w → May text v → Wrongs (give_of p n ks g w v)
    unfolding give_of
    give-of none w none i j = goods
    give-of none w (some v) i j = wrongs 8 (inl (omega arith, omega arith)) j
    give-of (some ms) w none i j = wrongs 8 (inl (omega arith, omega arith)) i
    give-of (some ms) w (some v) i j = next (lookup p ms v) (lookups p ms v j) (λ x. goods)

    ranked-of : (s w o : Word) → Is text w → Is text o → Wrongs (ranked_of p n ks s w o)
    unfolding ranked_of
    ranked-of s w o i j =
        typed (find_operators w.text n.operators) (elsewheres p w i) (λ ls.
        next (rule_named p n ks o) (rule-named o j) (λ r. tested (given r.gives) 5 o (inl (omega arith, omega arith)) j (λ _. goods)))

    plain-of : (at : Place) (a : written.Plain) → PlainShown text a → Wrongs (plain_of p n ks at a)
    unfolding plain_of
    plain-of at (written.named w c) i = found (find w.text n.inputs) (λ v. match-of v c i.1) (update-of w c i.0 i.1)
    plain-of at (written.any w) i = goods
    plain-of at (written.exit w) i = one_of at.inside goods (wrongs 7 (inl (omega arith, omega arith)) i)
    plain-of at (written.emit w) i = next (lookup p n.outputs w) (lookups p n.outputs w i) (λ v. goods)
    plain-of at (written.error w) i = next (lookup p n.errors w) (lookups p n.errors w i) (λ v. goods)
    plain-of at (written.call w) i = next (rule_named p n ks w) (rule-named w i) (λ r. tested (given r.gives) 5 w (inl (omega arith, omega arith)) i (λ _. goods))
    plain-of at (written.give w v) i = give-of at.gives w v i.0 i.1
    plain-of at (written.ranked s w o) i = ranked-of s w o i.1 i.2

    selector-of : (s : written.Selector) → SelectorShown text s → Wrongs (selector_of p n ks s)
    unfolding selector_of
    selector-of written.by_token i = goods
    selector-of (written.by_rule w) i = next (rule_named p n ks w) (rule-named w i) (λ r. typed r.gives (wrongs 5 (inl (omega arith, omega arith)) i) (λ t. goods))
    selector-of (written.by_operation w c) i =
        next (operation_of p n ks w) (operation-of w i.0) (λ o. typed o.gives (wrongs 5 (inl (omega arith, omega arith)) i.0) (λ ms.
        next (parameter_of p n ks w o.takes c) (parameter-of w o.takes c i.0 i.1) (λ v. goods)))

    labels-of : (ws : List Word) (ms : List Known) (seen : List ℕ) → Each (Is text) ws → Wrongs (labels_of p n ks ws ms seen)
    unfolding labels_of Each
    labels-of [] ms seen i = goods
    labels-of (w ∷ ws) ms seen i =
        next (lookup p ms w) (lookups p ms w i.0) (λ v. tested (member v seen) 6 w (inl (omega arith, omega arith)) i.0
        (λ _. next (labels_of p n ks ws ms (v ∷ seen)) (labels-of ws ms (v ∷ seen) i.1) (λ more. goods)))

    mutual
      unfolding act_of ActShown

      act-of : (a : written.Act) (at : Place) → ActShown text a → Wrongs (act_of p n ks a at)
      act-of (plain a) at i = next (plain_of p n ks at a) (plain-of at a i) (λ d. goods)
      act-of (cycle b) at i = next (acts_of p n ks b _) (acts-of b _ i) (λ body. goods)
      act-of (choice s q o) at i =
          next (selector_of p n ks s) (selector-of s i.0) (λ c. next (alts_of p n ks q at c.labels []) (alts-of q at c.labels [] i.1) (λ alts.
          next (other_of p n ks o at) (other-of o at i.2) (λ other. goods)))

      acts-of : (q : written.Acts) (at : Place) → ActsShown text q → Wrongs (acts_of p n ks q at)
      acts-of done at i = goods
      acts-of (a ▸ q) at i = next (act_of p n ks a at) (act-of a at i.0) (λ first. next (acts_of p n ks q at) (acts-of q at i.1) (λ rest. goods))

      alts-of : (q : written.Alts) (at : Place) (ms : List Known) (seen : List ℕ) → AltsShown text q → Wrongs (alts_of p n ks q at ms seen)
      alts-of nil at ms seen i = goods
      alts-of (alternative ls b q) at ms seen i =
          next (labels_of p n ks ls ms seen) (labels-of ls ms seen i.0) (λ vs. next (acts_of p n ks b at) (acts-of b at i.1) (λ body.
          next (alts_of p n ks q at ms (vs ++ seen)) (alts-of q at ms (vs ++ seen) i.2) (λ rest. goods)))

      other-of : (o : written.Other) (at : Place) → OtherShown text o → Wrongs (other_of p n ks o at)
      other-of absent at i = goods
      other-of (otherwise b) at i = next (acts_of p n ks b at) (acts-of b at i) (λ body. goods)

    rule-means : (seen : List (List ℕ)) (r : written.Rule) → RuleShown text r → Wrongs (rule_means p n ks seen r)
    unfolding rule_means
    rule-means seen r i =
        tested (taken r.rule n seen) 4 r.rule (inl (omega arith, omega arith)) i.rule (λ _.
        tested (is_first seen && given r.gives) 5 r.rule (inl (omega arith, omega arith)) i.rule (λ _.
        next (optional_type p n.types r.gives) (optional-types p n.types r.gives i.gives) (λ g.
        next (acts_of p n ks r.body (record { inside = false; gives = g })) (acts-of r.body (record { inside = false; gives = g }) i.body) (λ b.
        tested (given g && past_all b) 8 r.closing (inl (omega arith, omega arith)) i.closing (λ _. goods)))))

    rules-mean : (seen : List (List ℕ)) (rs : List written.Rule) → Each (RuleShown text) rs → Wrongs (rules_mean p n ks seen rs)
    unfolding rules_mean Each
    rules-mean seen [] i = goods
    rules-mean seen (r ∷ rs) i =
        next (rule_means p n ks seen r) (rule-means seen r i.0) (λ first.
        next (rules_mean p n ks (r.rule.text ∷ seen) rs) (rules-mean (r.rule.text ∷ seen) rs i.1) (λ rest. goods))

  -- The rules made for operators

  -- the `^` of a use
  abbrev UseShown : Use → Type 0
  UseShown u = Is text u.sign

  plain-uses : (a : written.Plain) (k : List Use) → PlainShown text a → Each UseShown k → Each UseShown (plain_uses a k)
  unfolding plain_uses Each
  plain-uses (written.named w c) k i h = h
  plain-uses (written.any w) k i h = h
  plain-uses (written.exit w) k i h = h
  plain-uses (written.emit w) k i h = h
  plain-uses (written.error w) k i h = h
  plain-uses (written.call w) k i h = h
  plain-uses (written.give w v) k i h = h
  plain-uses (written.ranked s w o) k i h = (i.0, h)

  mutual
    unfolding act_uses ActShown

    act-uses : (a : written.Act) (k : List Use) → ActShown text a → Each UseShown k → Each UseShown (act_uses a k)
    act-uses (plain a) k i h = plain-uses a k i h
    act-uses (cycle b) k i h = acts-uses b k i h
    act-uses (choice s q o) k i h = alts-uses q (other_uses o k) i.1 (other-uses o k i.2 h)

    acts-uses : (q : written.Acts) (k : List Use) → ActsShown text q → Each UseShown k → Each UseShown (acts_uses q k)
    acts-uses done k i h = h
    acts-uses (a ▸ q) k i h = act-uses a (acts_uses q k) i.0 (acts-uses q k i.1 h)

    alts-uses : (q : written.Alts) (k : List Use) → AltsShown text q → Each UseShown k → Each UseShown (alts_uses q k)
    alts-uses nil k i h = h
    alts-uses (alternative ls b q) k i h = acts-uses b (alts_uses q k) i.1 (alts-uses q k i.2 h)

    other-uses : (o : written.Other) (k : List Use) → OtherShown text o → Each UseShown k → Each UseShown (other_uses o k)
    other-uses absent k i h = h
    other-uses (otherwise b) k i h = acts-uses b k i h

  rules-uses : (rs : List written.Rule) → Each (RuleShown text) rs → Each UseShown (rules_uses rs)
  unfolding rules_uses Each
  rules-uses [] i = tt
  rules-uses (r ∷ rs) i = acts-uses r.body (rules_uses rs) i.0.body (rules-uses rs i.1)

  made-for : (n : Names) (ks : List KnownRule) (others own : ℕ) (us : List Use) → Each UseShown us → Wrongs (made_for n ks others own us)
  unfolding made_for Each
  made-for n ks others own [] i = goods
  made-for n ks others own (u ∷ us) i =
      tested (ltb 128 (own + length (levels_used n u)) || ltb 512 (others + (own + length (levels_used n u))) || crowded (levels_used n u)) 9 u.sign (inl (omega arith, omega arith)) i.0 (λ _.
      next (made_for n ks others (own + length (levels_used n u)) us) (made-for n ks others (own + length (levels_used n u)) us i.1) (λ more. goods))

  understands : (p : Program) → ProgramShown text p → Wrongs (understand p)
  unfolding understand pairs_of
  understands p i =
      next (declare_sections p p.sections nobody) (declare-sections p p.sections nobody i.sections) (λ n.
      next (rules_mean p n (known_rules 0 p.rules) [] p.rules) (rules-mean p n (known_rules 0 p.rules) [] p.rules i.rules) (λ own.
      next (made_for n (known_rules 0 p.rules) (names_in_all p.sections) (length p.rules) (pairs_of p.rules))
      (made-for n (known_rules 0 p.rules) (names_in_all p.sections) (length p.rules) (pairs_of p.rules) (firsts-each UseShown [] (rules_uses p.rules) (rules-uses p.rules i.rules))) (λ made. goods)))

-- The theorem

understood-shown : (text : List ℕ) (n : ℕ) (at : Part) → understood text ≡ faulty n at → ShownAt text n at
unfolding understood read_in checked parse
understood-shown text n at e = by_length (ltb 32768 (length text)) refl e
  where
    inner : (p : Program) → ProgramShown text p → (c : Checked (List means.Rule)) → understand p ≡ c → checked c ≡ faulty n at → ShownAt text n at
    inner p i (good x) d e₁ = let z : ◌≡◌ {A = ℕ} 0 1 = cc in absurd (omega arith)
    inner p i (wrong k w) d e₁ = let x : k ≡ n = cc in let y : part_of w ≡ at = cc in let h : ShownAt text k (part_of w) = at_word ((understands text p i).says k w d) in rw (x, y) at h

    read : (r : Read Program) → program (length text + 1) (words text) ≡ r → read_in r ≡ faulty n at → ShownAt text n at
    read (got p ws) d e₁ = inner p ((programs text (length text + 1)).leaves p ws d) (understand p) refl e₁
    read (fault k w) d e₁ = let x : k ≡ n = cc in let y : part_of w ≡ at = cc in let h : ShownAt text k (part_of w) = at_word ((programs text (length text + 1)).says k w d) in rw (x, y) at h

    by_length : (t : Bool) → ltb 32768 (length text) ≡ t → read_in (if t then fault 9 (end_of text) else program (length text + 1) (words text)) ≡ faulty n at → ShownAt text n at
    by_length true d e₁ = let x : 9 ≡ n = cc in let y : part_of (end_of text) ≡ at = cc in let h : ShownAt text 9 (part_of (end_of text)) = over_long (ltb-true 32768 (length text) d) in rw (x, y) at h
    by_length false d e₁ = read (program (length text + 1) (words text)) refl e₁

-- "The word at fault is handed back as a part of the author's text"
pub refusal-shown : (text : List ℕ) (room n : ℕ) (at : Part) → process text room ≡ refused n at → ShownAt text n at
unfolding process answer_for
refusal-shown text room n at e = go (understood text) refl e
  where
    sized : (t : Bool) (words : List ℕ) (v : Bool) → (if t then accepted words v else refused 20 (part_of (end_of text))) ≡ refused n at → ShownAt text n at
    sized true words v d = let z : ◌≡◌ {A = ℕ} 0 1 = cc in absurd (omega arith)
    sized false words v d = let x : 20 ≡ n = cc in let y : part_of (end_of text) ≡ at = cc in let h : ShownAt text 20 (part_of (end_of text)) = too_short in rw (x, y) at h

    go : (u : Understood) → understood text ≡ u → answer_for text room u ≡ refused n at → ShownAt text n at
    go (meaning prog) d e₁ = sized (leb (size_rules prog) room && leb (size_rules prog) 4096) (table prog) (finishing prog) e₁
    go (faulty k part) d e₁ = let x : k ≡ n = cc in let y : part ≡ at = cc in rw (x, y) at (understood-shown text k part d)

-- so it lies in the text
lies_word : {text : List ℕ} {n : ℕ} {w : Word} → ShownBy text n w → LiesIn text n (part_of w)
unfolding part_of end_of
lies_word (a_byte o k one) = record { inside = o.inside; one_byte = λ _. one; empty = λ z. absurd (omega arith) }
lies_word (too_early {w} o e) = record { inside = o.inside; one_byte = λ z. absurd (omega arith); empty = λ z. (ap (λ (v : Word). v.start) e, inl refl) }
lies_word {n = n} (a_word h s) = record { inside = s.word.inside; one_byte = λ z. absurd (never h z); empty = λ z. absurd (omega (arith, s.some)) }
  where
    never : Later n → n ≡ 1 → ⊥
    never (inl g) z = omega (arith, g.0)
    never (inr g) z = omega arith

pub refusal-lies : {text : List ℕ} {n : ℕ} {at : Part} → ShownAt text n at → LiesIn text n at
unfolding part_of end_of
refusal-lies (at_word b) = lies_word b
refusal-lies (over_long h) = record { inside = omega arith; one_byte = λ z. absurd (omega arith); empty = λ z. (refl, inr (inl (refl, h))) }
refusal-lies too_short = record { inside = omega arith; one_byte = λ z. absurd (omega arith); empty = λ z. (refl, inr (inr refl)) }

-- and the bytes there are the word's
by_word : {text : List ℕ} {n : ℕ} {w : Word} → ShownBy text n w → WordOf text w
by_word (a_byte o k one) = o
by_word (too_early o e) = o
by_word (a_word h s) = s.word

pub refusal-shows : {text : List ℕ} {n : ℕ} {at : Part} → ShownAt text n at → Shows text n (take at.size (drop at.start text))
unfolding part_of end_of
refusal-shows {text} {n} (at_word b) = let h : Shows text n _ = the_word b in rw (by_word b).spelt h
refusal-shows (over_long h) = nothing (inl (refl, h))
refusal-shows too_short = nothing (inr refl)
