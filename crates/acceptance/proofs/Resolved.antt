-- What the resolver leaves of a rule's actions: every check of the paper, as `Ok` states them.
use mathlib.Core.Bool.{Bool, true, false}
use mathlib.Core.List.{List, [], ◌∷◌, ◌++◌}
use mathlib.Core.Option.{Option, none, some}
use mathlib.Core.Path.{◌≡◌, refl, ap, ◌∙◌}
use Prim.Native.Nat.{ℕ, ◌<◌}
use lib.ListN.{length}
use native.Mathlib.Omega.{arith}
use Rattle.acceptance.proofs.CheckLaws.{Yields, no-good, yields, never, next, passed}
use Rattle.acceptance.proofs.NamesOk.{KnownOk, MembersOk, OperationOk, NamesOk, find-in, lookup-in, find-type-in, operation_inside}
use Rattle.acceptance.proofs.Shape.{Each, Defaulted, Shaped, ShapedAll, ShapedAlts, ShapedOther}
use Rattle.std.specs.Prelude.{if◌then◌else◌}
use Rattle.base.specs.Common.{member, given}
use Rattle.base.specs.Tree.{plain, cycle, choice, done, ◌▸◌, nil, alternative, absent, otherwise}
use Rattle.names.specs.Known.{Checked, good, wrong, ◌>>=◌, fault_if, Known, KnownOperation, KnownRule, Names, find, find_type, find_operation, find_operators, find_rule, elsewhere, lookup}
use Rattle.names.specs.Resolve.{Place, within, Chooses, updating, choosing, operation_of, rule_named, parameter_of, update_of, match_of, give_of, ranked_of, plain_of, members_of, selector_of, labels_of, act_of, acts_of, alts_of, other_of}
use Rattle.names.specs.Uses.{Use, plain_uses, act_uses, acts_uses, alts_uses, other_uses, pairs_of, lowest_of}
use Rattle.program.specs.Made.{Level}
use Rattle.program.specs.Accepted.{Values, Labelled, NeedsLabel, Calls, OkPlain, OkSelector, Ok, Oks, OkAlts, OkOther}
use Rattle.program.specs.Program as means
use Rattle.program.specs.Program.{Rule}
use Rattle.syntax.specs.Sections.{first_of}
use Rattle.syntax.specs.Written as written
use Rattle.syntax.specs.Written.{Constant, Program}
use Rattle.words.specs.Words.{Word}

-- a constant that is in range, and there exactly if the operation has a parameter
pub record ParameterOk (takes : Option (List Known)) (v : Option ℕ) : Type 0 where
  pub same-given : given v ≡ given takes
  pub range : (x : ℕ) → v ≡ some x → x < 65536

-- the same otherwise, or none, before and after
pub data SameOther : written.Other → means.Other → Type 0 where
  same-absent : SameOther absent absent
  same_otherwise : {b : written.Acts} {d : means.Acts} → SameOther (otherwise b) (otherwise d)

-- every use of operators has Q
module _ (Q : Use → Type 0) where
  unfoldable pub PlainUsing : written.Plain → Type 0
  PlainUsing (written.named w c) = Unit {0}
  PlainUsing (written.any w) = Unit {0}
  PlainUsing (written.exit w) = Unit {0}
  PlainUsing (written.emit w) = Unit {0}
  PlainUsing (written.error w) = Unit {0}
  PlainUsing (written.call w) = Unit {0}
  PlainUsing (written.give w v) = Unit {0}
  PlainUsing (written.ranked s w o) = Q (record { sign = s; section = w; operand = o })

  unfoldable mutual
    pub Using : written.Act → Type 0
    Using (plain a) = PlainUsing a
    Using (cycle b) = UsingAll b
    Using (choice s q o) = UsingSome q × UsingOther o

    pub UsingAll : written.Acts → Type 0
    UsingAll done = Unit {0}
    UsingAll (a ▸ q) = Using a × UsingAll q

    pub UsingSome : written.Alts → Type 0
    UsingSome nil = Unit {0}
    UsingSome (alternative ls b q) = UsingAll b × UsingSome q

    pub UsingOther : written.Other → Type 0
    UsingOther absent = Unit {0}
    UsingOther (otherwise b) = UsingAll b

  plain-using : (a : written.Plain) (k : List Use) → Each Q (plain_uses a k) → PlainUsing a × Each Q k
  unfolding plain_uses PlainUsing Each
  plain-using (written.named w c) k h = (tt, h)
  plain-using (written.any w) k h = (tt, h)
  plain-using (written.exit w) k h = (tt, h)
  plain-using (written.emit w) k h = (tt, h)
  plain-using (written.error w) k h = (tt, h)
  plain-using (written.call w) k h = (tt, h)
  plain-using (written.give w v) k h = (tt, h)
  plain-using (written.ranked s w o) k h = (h.0, h.1)

  mutual
    unfolding act_uses Using

    act-using : (a : written.Act) (k : List Use) → Each Q (act_uses a k) → Using a × Each Q k
    act-using (plain a) k h = plain-using a k h
    act-using (cycle b) k h = acts-using b k h
    act-using (choice s q o) k h = let x = alts-using q (other_uses o k) h in let y = other-using o k x.1 in ((x.0, y.0), y.1)

    pub acts-using : (q : written.Acts) (k : List Use) → Each Q (acts_uses q k) → UsingAll q × Each Q k
    acts-using done k h = (tt, h)
    acts-using (a ▸ q) k h = let x = act-using a (acts_uses q k) h in let y = acts-using q k x.1 in ((x.0, y.0), y.1)

    alts-using : (q : written.Alts) (k : List Use) → Each Q (alts_uses q k) → UsingSome q × Each Q k
    alts-using nil k h = (tt, h)
    alts-using (alternative ls b q) k h = let x = acts-using b (alts_uses q k) h in let y = alts-using q k x.1 in ((x.0, y.0), y.1)

    other-using : (o : written.Other) (k : List Use) → Each Q (other_uses o k) → UsingOther o × Each Q k
    other-using absent k h = (tt, h)
    other-using (otherwise b) k h = acts-using b k h

-- nothing is asked of a use
pub each-any : (us : List Use) → Each {A = Use} (λ _. Unit {0}) us
unfolding Each
each-any [] = tt
each-any (u ∷ us) = (tt, each-any us)

module _ (p : Program) (n : Names) (rules : List KnownRule) (prog : List Rule) (ok : NamesOk n)
    (known : (w : List ℕ) (k : KnownRule) → find_rule w rules ≡ some k → Calls prog k.place (given k.gives))
    (Q : Use → Type 0) (lowest : (u : Use) → Q u → Calls prog (lowest_of n u (length p.rules) (pairs_of p.rules)) false) where
  operation-of : (w : Word) → Yields OperationOk (operation_of p n rules w)
  unfolding operation_of elsewhere
  operation-of w o e = go (find_operation w.text n.operations) refl e
    where
      go : (x : Option KnownOperation) → find_operation w.text n.operations ≡ x → elim x as (λ _. Checked KnownOperation) [ some y ↦ good y | none ↦ elsewhere p w ] ≡ good o → OperationOk o
      go none d e₁ = no-good e₁
      go (some y) d e₁ = let z : y ≡ o = cc in rw z at (operation_inside w.text n y ok d)

  abbrev RuleOk : KnownRule → Type 0
  RuleOk r = Calls prog r.place (given r.gives)

  rule-named : (w : Word) → Yields RuleOk (rule_named p n rules w)
  unfolding rule_named elsewhere
  rule-named w r e = outer (given (find_operation w.text n.operations)) e
    where
      go : (x : Option KnownRule) → find_rule w.text rules ≡ x → elim x as (λ _. Checked KnownRule) [ some y ↦ good y | none ↦ elsewhere p w ] ≡ good r → RuleOk r
      go none d e₁ = no-good e₁
      go (some y) d e₁ = let z : y ≡ r = cc in rw z at (known w.text y d)

      outer : (t : Bool) → (if t then wrong 5 w else elim (find_rule w.text rules) as (λ _. Checked KnownRule) [ some y ↦ good y | none ↦ elsewhere p w ]) ≡ good r → RuleOk r
      outer true e₁ = no-good e₁
      outer false e₁ = go (find_rule w.text rules) refl e₁

  some_inj : {A : Type 0} {a b : A} → some a ≡ some b → a ≡ b
  some_inj e = cc

  parameter-of : (w : Word) (t : Option (List Known)) (c : Option Constant) → MembersOk t → Yields (ParameterOk t) (parameter_of p n rules w t c)
  unfolding parameter_of MembersOk
  parameter-of w none none h = yields (ParameterOk none) none (record { same-given = refl; range = λ x e. let z : ◌≡◌ {A = ℕ} 0 1 = cc in absurd (omega arith) })
  parameter-of w none (some c) h = never (ParameterOk none) 5 c.paren
  parameter-of w (some ks) none h = never (ParameterOk (some ks)) 5 w
  parameter-of w (some ks) (some c) h =
      next (ParameterOk (some ks)) (λ v. v < 65536) (lookup p ks c.constant) _ (lookup-in p ks c.constant h) (λ v hv.
      yields (ParameterOk (some ks)) (some v) (record { same-given = refl; range = λ x e. rw (some_inj e) at hv }))

  -- an operation's number from its kind
  update-ok : (o : KnownOperation) (v : Option ℕ) (i c : Bool) → OperationOk o → given o.gives ≡ false → ParameterOk o.takes v
      → OkPlain prog (updating o.instruction v) i c
  unfolding OkPlain first_of
  update-ok o none i c h g q =
      let l = rw (← q.same-given, g) at h.low in
      let m = rw (← q.same-given, g) at h.high in
      (l, m)
  update-ok o (some x) i c h g q =
      let l = rw (← q.same-given, g) at h.low in
      let m = rw (← q.same-given, g) at h.high in
      (l, m, q.range x refl)

  select-ok : (o : KnownOperation) (v : Option ℕ) → OperationOk o → given o.gives ≡ true → ParameterOk o.takes v
      → OkSelector prog (choosing o.instruction v)
  unfolding OkSelector first_of
  select-ok o none h g q =
      let l = rw (← q.same-given, g) at h.low in
      let m = rw (← q.same-given, g) at h.high in
      (l, m)
  select-ok o (some x) h g q =
      let l = rw (← q.same-given, g) at h.low in
      let m = rw (← q.same-given, g) at h.high in
      (l, m, q.range x refl)

  update-of : (w : Word) (k : Option Constant) (i c : Bool) → Yields (λ a. OkPlain prog a i c) (update_of p n rules w k)
  unfolding update_of
  update-of w k i c =
      next (λ a. OkPlain prog a i c) OperationOk (operation_of p n rules w) _ (operation-of w) (λ o h.
      passed (λ a. OkPlain prog a i c) (given o.gives) 5 w _ (λ g.
      next (λ a. OkPlain prog a i c) (ParameterOk o.takes) (parameter_of p n rules w o.takes k) _ (parameter-of w o.takes k h.takes) (λ v q.
      yields (λ a. OkPlain prog a i c) (updating o.instruction v) (update-ok o v i c h g q))))

  match-of : (v : ℕ) (k : Option Constant) (i c : Bool) → v < 65536 → Yields (λ a. OkPlain prog a i c) (match_of p n rules v k)
  unfolding match_of OkPlain
  match-of v none i c h = yields (λ a. OkPlain prog a i c) (means.match v) h
  match-of v (some k) i c h = never (λ a. OkPlain prog a i c) 5 k.paren

  give-of : (g : Option (List Known)) (w : Word) (v : Option Word) (c : Bool) → MembersOk g → Yields (λ a. OkPlain prog a (given g) c) (give_of p n rules g w v)
  unfolding give_of OkPlain MembersOk
  give-of none w none c h = yields (λ a. OkPlain prog a false c) means.back refl
  give-of none w (some v) c h = never (λ a. OkPlain prog a false c) 8 v
  give-of (some ks) w none c h = never (λ a. OkPlain prog a true c) 8 w
  give-of (some ks) w (some v) c h =
      next (λ a. OkPlain prog a true c) (λ x. x < 65536) (lookup p ks v) _ (lookup-in p ks v h) (λ x hx.
      yields (λ a. OkPlain prog a true c) (means.give x) (refl, hx))

  named-of : (w : Word) (k : Option Constant) (i c : Bool) (x : Option ℕ) → find w.text n.inputs ≡ x
      → Yields (λ a. OkPlain prog a i c) (elim x as (λ _. Checked means.Plain) [ some v ↦ match_of p n rules v k | none ↦ update_of p n rules w k ])
  named-of w k i c none e = update-of w k i c
  named-of w k i c (some v) e = match-of v k i c (find-in w.text n.inputs v ok.inputs e)

  exit-of : (w : Word) (t i : Bool) → Yields (λ a. OkPlain prog a i t) (if t then good means.exit else wrong 7 w)
  unfolding OkPlain
  exit-of w true i = yields (λ a. OkPlain prog a i true) means.exit refl
  exit-of w false i = never (λ a. OkPlain prog a i false) 7 w

  ranked-of : (s w o : Word) (i c : Bool) → Q (record { sign = s; section = w; operand = o }) → Yields (λ a. OkPlain prog a i c) (ranked_of p n rules s w o)
  unfolding ranked_of OkPlain elsewhere
  ranked-of s w o i c used = go (find_operators w.text n.operators)
    where
      go : (x : Option (List Level)) → Yields (λ a. OkPlain prog a i c) (elim x as (λ _. Checked means.Plain) [
        | none ↦ elsewhere p w
        | some ls ↦ ◌>>=◌ (rule_named p n rules o) (λ r. ◌>>=◌ (fault_if (given r.gives) 5 o) (λ _. good (means.call (lowest_of n (record { sign = s; section = w; operand = o }) (length p.rules) (pairs_of p.rules)))))
      ])
      go none = λ a e. no-good e
      go (some ls) =
          next (λ a. OkPlain prog a i c) (λ _. Unit {0}) (rule_named p n rules o) _ (λ _ _. tt) (λ r _.
          passed (λ a. OkPlain prog a i c) (given r.gives) 5 o _ (λ _.
          yields (λ a. OkPlain prog a i c) (means.call (lowest_of n (record { sign = s; section = w; operand = o }) (length p.rules) (pairs_of p.rules))) (lowest (record { sign = s; section = w; operand = o }) used)))

  plain-of : (at : Place) (a : written.Plain) → PlainUsing Q a → MembersOk at.gives → Yields (λ d. OkPlain prog d (given at.gives) at.inside) (plain_of p n rules at a)
  unfolding plain_of OkPlain PlainUsing
  plain-of at (written.named w k) u h = named-of w k (given at.gives) at.inside (find w.text n.inputs) refl
  plain-of at (written.any w) u h = yields (λ d. OkPlain prog d (given at.gives) at.inside) means.any tt
  plain-of at (written.exit w) u h = exit-of w at.inside (given at.gives)
  plain-of at (written.emit w) u h =
      next (λ d. OkPlain prog d (given at.gives) at.inside) (λ v. v < 65536) (lookup p n.outputs w) _ (lookup-in p n.outputs w ok.outputs) (λ v hv.
      yields (λ d. OkPlain prog d (given at.gives) at.inside) (means.emit v) hv)
  plain-of at (written.error w) u h =
      next (λ d. OkPlain prog d (given at.gives) at.inside) (λ v. v < 65536) (lookup p n.errors w) _ (lookup-in p n.errors w ok.errors) (λ v hv.
      yields (λ d. OkPlain prog d (given at.gives) at.inside) (means.error v) hv)
  plain-of at (written.call w) u h =
      next (λ d. OkPlain prog d (given at.gives) at.inside) RuleOk (rule_named p n rules w) _ (rule-named w) (λ r hr.
      passed (λ d. OkPlain prog d (given at.gives) at.inside) (given r.gives) 5 w _ (λ g.
      yields (λ d. OkPlain prog d (given at.gives) at.inside) (means.call r.place) (record { there = hr.there; sort = hr.sort ∙ g })))
  plain-of at (written.give w v) u h = give-of at.gives w v at.inside h
  plain-of at (written.ranked s w o) u h = ranked-of s w o (given at.gives) at.inside u

  -- Choices

  pub record ChoosesOk (c : Chooses) : Type 0 where
    pub by : OkSelector prog c.by
    pub labels : Each KnownOk c.labels

  members-of : (t : List ℕ) → Each KnownOk (members_of p n rules t)
  unfolding members_of Each
  members-of t = go (find_type t n.types) refl
    where
      go : (x : Option (List Known)) → find_type t n.types ≡ x → Each KnownOk (elim x as (λ _. List Known) [ some ks ↦ ks | none ↦ [] ])
      go none e = tt
      go (some ks) e = find-type-in t n.types ks ok.types e

  by-rule : (w : Word) (r : KnownRule) (g : Option (List ℕ)) → r.gives ≡ g → RuleOk r
      → Yields ChoosesOk (elim g as (λ _. Checked Chooses) [ none ↦ wrong 5 w | some t ↦ good (record { by = means.by_rule r.place; labels = members_of p n rules t }) ])
  unfolding OkSelector
  by-rule w r none e h = never ChoosesOk 5 w
  by-rule w r (some t) e h =
      yields ChoosesOk (record { by = means.by_rule r.place; labels = members_of p n rules t }) (record {
        by = record { there = h.there; sort = h.sort ∙ ap given e };
        labels = members-of t;
      })

  by-operation : (w : Word) (k : Option Constant) (o : KnownOperation) (g : Option (List Known)) → o.gives ≡ g → OperationOk o
      → Yields ChoosesOk (elim g as (λ _. Checked Chooses) [
        | none ↦ wrong 5 w
        | some ks ↦ ◌>>=◌ (parameter_of p n rules w o.takes k) (λ v.
            good (record { by = choosing o.instruction v; labels = ks }))
      ])
  unfolding MembersOk
  by-operation w k o none e h = never ChoosesOk 5 w
  by-operation w k o (some ks) e h =
      next ChoosesOk (ParameterOk o.takes) (parameter_of p n rules w o.takes k) _ (parameter-of w o.takes k h.takes) (λ v q.
      yields ChoosesOk _ (record { by = select-ok o v h (ap given e) q; labels = rw e at h.gives }))

  selector-of : (s : written.Selector) → Yields ChoosesOk (selector_of p n rules s)
  unfolding selector_of OkSelector
  selector-of written.by_token = yields ChoosesOk (record { by = means.by_token; labels = n.inputs }) (record { by = tt; labels = ok.inputs })
  selector-of (written.by_rule w) =
      next ChoosesOk RuleOk (rule_named p n rules w) _ (rule-named w) (λ r h. by-rule w r r.gives refl h)
  selector-of (written.by_operation w k) =
      next ChoosesOk OperationOk (operation_of p n rules w) _ (operation-of w) (λ o h. by-operation w k o o.gives refl h)

  -- labels in range, and one for each
  pub data LabelsOk : List Word → List ℕ → Type 0 where
    no-labels : LabelsOk [] []
    more_labels : {w : Word} {ws : List Word} {v : ℕ} {vs : List ℕ} → LabelsOk (w ∷ ws) (v ∷ vs)

  abbrev LabelsAre : List Word → List ℕ → Type 0
  LabelsAre ws vs = Values vs × LabelsOk ws vs

  labels-of : (ws : List Word) (ks : List Known) (seen : List ℕ) → Each KnownOk ks → Yields (LabelsAre ws) (labels_of p n rules ws ks seen)
  unfolding labels_of Values
  labels-of [] ks seen h = yields (LabelsAre []) [] (tt, no-labels)
  labels-of (w ∷ ws) ks seen h =
      next (LabelsAre (w ∷ ws)) (λ v. v < 65536) (lookup p ks w) _ (lookup-in p ks w h) (λ v hv.
      passed (LabelsAre (w ∷ ws)) (member v seen) 6 w _ (λ _.
      next (LabelsAre (w ∷ ws)) (LabelsAre ws) (labels_of p n rules ws ks (v ∷ seen)) _ (labels-of ws ks (v ∷ seen) h) (λ vs hs.
      yields (LabelsAre (w ∷ ws)) (v ∷ vs) ((hv, hs.0), more_labels))))

  first-label : (ws : List Word) (vs : List ℕ) (b : written.Acts) (q : written.Alts) (d : means.Acts) (r : means.Alts) → LabelsOk ws vs → Defaulted absent (alternative ws b q) → Labelled (alternative vs d r)
  unfolding Defaulted Labelled
  first-label [] [] b q d r no-labels h = h
  first-label (w ∷ ws) (v ∷ vs) b q d r more_labels h = tt
  first-label [] (v ∷ vs) b q d r x4 h = elim x4 [ ]
  first-label (w ∷ ws) [] b q d r x4 h = elim x4 [ ]

  no_default : Defaulted absent nil → Labelled nil
  unfolding Defaulted
  no_default x = absurd x

  needs-label : (s : means.Selector) {o : written.Other} {other : means.Other} (q : written.Alts) (alts : means.Alts)
      → SameOther o other → Defaulted o q → (Defaulted absent q → Labelled alts) → NeedsLabel s other alts
  unfolding NeedsLabel
  needs-label means.by_token q alts same-absent h f = f h
  needs-label means.by_token q alts same_otherwise h f = tt
  needs-label (means.by_rule r) q alts x h f = tt
  needs-label (means.by_operation op) q alts x h f = tt
  needs-label (means.by_operation_with op v) q alts x h f = tt

  -- The tree

  abbrev AltsAre : Place → written.Alts → means.Alts → Type 0
  AltsAre at q m = OkAlts prog m (given at.gives) at.inside × (Defaulted absent q → Labelled m)

  abbrev OtherIs : Place → written.Other → means.Other → Type 0
  OtherIs at o m = OkOther prog m (given at.gives) at.inside × SameOther o m

  mutual
    unfolding act_of within Ok Shaped Using

    act-of : (a : written.Act) (at : Place) → Using Q a → Shaped a → MembersOk at.gives → Yields (λ m. Ok prog m (given at.gives) at.inside) (act_of p n rules a at)
    act-of (plain a) at u s h =
        next (λ m. Ok prog m (given at.gives) at.inside) (λ d. OkPlain prog d (given at.gives) at.inside) (plain_of p n rules at a) _ (plain-of at a u h) (λ d hd.
        yields (λ m. Ok prog m (given at.gives) at.inside) (plain d) hd)
    act-of (cycle b) at u s h =
        next (λ m. Ok prog m (given at.gives) at.inside) (λ m. Oks prog m (given at.gives) true) (acts_of p n rules b (within at)) _ (acts-of b (within at) u s h) (λ d hd.
        yields (λ m. Ok prog m (given at.gives) at.inside) (cycle d) hd)
    act-of (choice s q o) at u sh h =
        next (λ m. Ok prog m (given at.gives) at.inside) ChoosesOk (selector_of p n rules s) _ (selector-of s) (λ c hc.
        next (λ m. Ok prog m (given at.gives) at.inside) (AltsAre at q) (alts_of p n rules q at c.labels []) _ (alts-of q at c.labels [] u.0 sh.0 h hc.labels) (λ alts ha.
        next (λ m. Ok prog m (given at.gives) at.inside) (OtherIs at o) (other_of p n rules o at) _ (other-of o at u.1 sh.1 h) (λ other ho.
        yields (λ m. Ok prog m (given at.gives) at.inside) (choice c.by alts other)
        (hc.by, ha.0, ho.0, needs-label c.by q alts ho.1 sh.2 ha.1))))

    pub acts-of : (q : written.Acts) (at : Place) → UsingAll Q q → ShapedAll q → MembersOk at.gives → Yields (λ m. Oks prog m (given at.gives) at.inside) (acts_of p n rules q at)
    acts-of done at u s h = yields (λ m. Oks prog m (given at.gives) at.inside) done tt
    acts-of (a ▸ q) at u s h =
        next (λ m. Oks prog m (given at.gives) at.inside) (λ m. Ok prog m (given at.gives) at.inside) (act_of p n rules a at) _ (act-of a at u.0 s.0 h) (λ x hx.
        next (λ m. Oks prog m (given at.gives) at.inside) (λ m. Oks prog m (given at.gives) at.inside) (acts_of p n rules q at) _ (acts-of q at u.1 s.1 h) (λ y hy.
        yields (λ m. Oks prog m (given at.gives) at.inside) (x ▸ y) (hx, hy)))

    alts-of : (q : written.Alts) (at : Place) (ks : List Known) (seen : List ℕ) → UsingSome Q q → ShapedAlts q → MembersOk at.gives → Each KnownOk ks → Yields (AltsAre at q) (alts_of p n rules q at ks seen)
    alts-of nil at ks seen u s h hk = yields (AltsAre at nil) nil (tt, no_default)
    alts-of (alternative ls b q) at ks seen u s h hk =
        next (AltsAre at (alternative ls b q)) (LabelsAre ls) (labels_of p n rules ls ks seen) _ (labels-of ls ks seen hk) (λ vs hv.
        next (AltsAre at (alternative ls b q)) (λ m. Oks prog m (given at.gives) at.inside) (acts_of p n rules b at) _ (acts-of b at u.0 s.0 h) (λ d hd.
        next (AltsAre at (alternative ls b q)) (AltsAre at q) (alts_of p n rules q at ks (vs ++ seen)) _ (alts-of q at ks (vs ++ seen) u.1 s.1 h hk) (λ r hr.
        yields (AltsAre at (alternative ls b q)) (alternative vs d r) ((hv.0, hd, hr.0), first-label ls vs b q d r hv.1))))

    other-of : (o : written.Other) (at : Place) → UsingOther Q o → ShapedOther o → MembersOk at.gives → Yields (OtherIs at o) (other_of p n rules o at)
    other-of absent at u s h = yields (OtherIs at absent) absent (tt, same-absent)
    other-of (otherwise b) at u s h =
        next (OtherIs at (otherwise b)) (λ m. Oks prog m (given at.gives) at.inside) (acts_of p n rules b at) _ (acts-of b at u s h) (λ d hd.
        yields (OtherIs at (otherwise b)) (otherwise d) (hd, same_otherwise))
