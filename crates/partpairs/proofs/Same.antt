-- Actions mean the same in two programs with the same rules, where the same is declared and each section of operators has as many levels.
use mathlib.Core.Bool.{Bool, true, false}
use mathlib.Core.List.{List, [], ◌∷◌, ◌++◌}
use mathlib.Core.Option.{Option, none, some}
use mathlib.Core.Path.{◌≡◌, refl, ap, ◌∙◌}
use Prim.Native.Nat.{ℕ, ◌+◌}
use lib.ListN.{length}
use Rattle.std.specs.Prelude.{if◌then◌else◌}
use Rattle.base.specs.Common.{member, given}
use Rattle.base.specs.Tree.{plain, cycle, choice, done, ◌▸◌, nil, alternative, absent, otherwise}
use Rattle.names.specs.Known.{Checked, good, wrong, ◌>>=◌, fault_if, Known, KnownOperation, KnownOperators, KnownRule, Names, find, find_operation, find_operators, find_rule, declared, elsewhere, lookup}
use Rattle.names.specs.Resolve.{Place, within, Chooses, choosing, operation_of, rule_named, parameter_of, update_of, match_of, give_of, ranked_of, plain_of, members_of, selector_of, labels_of, act_of, acts_of, alts_of, other_of}
use Rattle.names.specs.Uses.{Use, pairs_of, same_pair, levels_used, lowest_of}
use Rattle.program.specs.Made.{Level}
use Rattle.program.specs.Program as means
use Rattle.syntax.specs.Written as written
use Rattle.syntax.specs.Written.{Constant, Section, Program}
use Rattle.words.specs.Words.{Word}

pub bind-same : {A B : Type 0} (m : Checked A) {m' : Checked A} {f f' : A → Checked B} → m ≡ m' → ((a : A) → f a ≡ f' a) → ◌>>=◌ m f ≡ ◌>>=◌ m' f'
bind-same {A} {B} m {m'} {f} {f'} e h = rw (← e) (go m)
  where
    go : (x : Checked A) → ◌>>=◌ x f ≡ ◌>>=◌ x f'
    go (good a) = h a
    go (wrong n w) = refl

-- a section of the name: in neither, or in both, with as many levels
pub data Levelled (ops ops' : List KnownOperators) (w : List ℕ) : Type 0 where
  neither : find_operators w ops ≡ none → find_operators w ops' ≡ none → Levelled ops ops' w
  both : (ls ls' : List Level) → find_operators w ops ≡ some ls → find_operators w ops' ≡ some ls' → length ls ≡ length ls' → Levelled ops ops' w

abbrev pub with_operators : Names → List KnownOperators → Names
with_operators n ops = record { inputs = n.inputs; outputs = n.outputs; errors = n.errors; types = n.types; operations = n.operations; operators = ops }

abbrev pub with_sections : Program → List Section → Program
with_sections p ss = record { sections = ss; rules = p.rules }

module _ (p : Program) (ss : List Section) (n : Names) (ops ops' : List KnownOperators) (ks : List KnownRule)
    (d : (w : List ℕ) → declared (with_sections p ss) w ≡ declared p w) (l : (w : List ℕ) → Levelled ops ops' w) where
  abbrev p₁ : Program
  p₁ = with_sections p ss

  abbrev n₁ : Names
  n₁ = with_operators n ops

  abbrev n₂ : Names
  n₂ = with_operators n ops'

  elsewhere-same : {A : Type 0} (w : Word) → elsewhere {A = A} p₁ w ≡ elsewhere {A = A} p w
  unfolding elsewhere
  elsewhere-same w = rw (d w.text) refl

  lookup-same : (vs : List Known) (w : Word) → lookup p₁ vs w ≡ lookup p vs w
  unfolding lookup
  lookup-same vs w = go (find w.text vs)
    where
      go : (x : Option ℕ) → ◌≡◌ {A = Checked ℕ} (elim x as (λ _. Checked ℕ) [ some v ↦ good v | none ↦ elsewhere p₁ w ]) (elim x as (λ _. Checked ℕ) [ some v ↦ good v | none ↦ elsewhere p w ])
      go (some v) = refl
      go none = elsewhere-same w

  operation-same : (w : Word) → operation_of p₁ n₁ ks w ≡ operation_of p n₂ ks w
  unfolding operation_of
  operation-same w = go (find_operation w.text n.operations)
    where
      go : (x : Option KnownOperation)
          → ◌≡◌ {A = Checked KnownOperation} (elim x as (λ _. Checked KnownOperation) [ some o ↦ good o | none ↦ elsewhere p₁ w ]) (elim x as (λ _. Checked KnownOperation) [ some o ↦ good o | none ↦ elsewhere p w ])
      go (some o) = refl
      go none = elsewhere-same w

  rule-same : (w : Word) → rule_named p₁ n₁ ks w ≡ rule_named p n₂ ks w
  unfolding rule_named
  rule-same w = go (given (find_operation w.text n.operations)) (find_rule w.text ks)
    where
      go : (t : Bool) (x : Option KnownRule)
          → ◌≡◌ {A = Checked KnownRule} (if t then wrong 5 w else elim x as (λ _. Checked KnownRule) [ some r ↦ good r | none ↦ elsewhere p₁ w ])
          (if t then wrong 5 w else elim x as (λ _. Checked KnownRule) [ some r ↦ good r | none ↦ elsewhere p w ])
      go true x = refl
      go false (some r) = refl
      go false none = elsewhere-same w

  parameter-same : (w : Word) (t : Option (List Known)) (c : Option Constant) → parameter_of p₁ n₁ ks w t c ≡ parameter_of p n₂ ks w t c
  unfolding parameter_of
  parameter-same w none none = refl
  parameter-same w none (some c) = refl
  parameter-same w (some vs) none = refl
  parameter-same w (some vs) (some c) = bind-same (lookup p₁ vs c.constant) (lookup-same vs c.constant) (λ v. refl)

  update_same : (w : Word) (c : Option Constant) → update_of p₁ n₁ ks w c ≡ update_of p n₂ ks w c
  unfolding update_of
  update_same w c =
      bind-same (operation_of p₁ n₁ ks w) (operation-same w) (λ o.
      bind-same (fault_if (given o.gives) 5 w) refl (λ _.
      bind-same (parameter_of p₁ n₁ ks w o.takes c) (parameter-same w o.takes c) (λ v. refl)))

  match-same : (v : ℕ) (c : Option Constant) → match_of p₁ n₁ ks v c ≡ match_of p n₂ ks v c
  unfolding match_of
  match-same v none = refl
  match-same v (some c) = refl

  give-same : (g : Option (List Known)) (w : Word) (v : Option Word) → give_of p₁ n₁ ks g w v ≡ give_of p n₂ ks g w v
  unfolding give_of
  give-same none w none = refl
  give-same none w (some v) = refl
  give-same (some vs) w none = refl
  give-same (some vs) w (some v) = bind-same (lookup p₁ vs v) (lookup-same vs v) (λ x. refl)

  -- Only the number of levels counts in a use's number.
  levels-same : (u : Use) → length (levels_used n₁ u) ≡ length (levels_used n₂ u)
  unfolding levels_used
  levels-same u = go (l u.section.text)
    where
      go : Levelled ops ops' u.section.text → length (levels_used n₁ u) ≡ length (levels_used n₂ u)
      go (neither a b) = rw (levels_used, a, b) refl
      go (both ls ls' a b e) = rw (levels_used, a, b) e

  lowest_same : (u : Use) (own : ℕ) (us : List Use) → lowest_of n₁ u own us ≡ lowest_of n₂ u own us
  unfolding lowest_of
  lowest_same u own [] = refl
  lowest_same u own (v ∷ us) = go (same_pair u v) (ap (λ (k : ℕ). lowest_of n₁ u (own + k) us) (levels-same v) ∙ lowest_same u (own + length (levels_used n₂ v)) us)
    where
      go : (t : Bool) {a b : ℕ} → a ≡ b → (if t then own else a) ≡ (if t then own else b)
      go true e = refl
      go false e = e

  ranked-same : (s w o : Word) → ranked_of p₁ n₁ ks s w o ≡ ranked_of p n₂ ks s w o
  unfolding ranked_of
  ranked-same s w o = go (l w.text)
    where
      u : Use
      u = record { sign = s; section = w; operand = o }

      go : Levelled ops ops' w.text → ranked_of p₁ n₁ ks s w o ≡ ranked_of p n₂ ks s w o
      go (neither a b) = rw (ranked_of, a, b) (elsewhere-same w)
      go (both ls ls' a b e) =
          rw (ranked_of, a, b) (bind-same (rule_named p₁ n₁ ks o) (rule-same o) (λ r.
          bind-same (fault_if (given r.gives) 5 o) refl (λ _.
          ap (λ (k : ℕ). good (means.call k)) (lowest_same u (length p.rules) (pairs_of p.rules)))))

  plain-same : (at : Place) (a : written.Plain) → plain_of p₁ n₁ ks at a ≡ plain_of p n₂ ks at a
  unfolding plain_of
  plain-same at (written.named w c) = go (find w.text n.inputs)
    where
      go : (x : Option ℕ) → ◌≡◌ {A = Checked means.Plain} (elim x as (λ _. Checked means.Plain) [ some v ↦ match_of p₁ n₁ ks v c | none ↦ update_of p₁ n₁ ks w c ])
          (elim x as (λ _. Checked means.Plain) [ some v ↦ match_of p n₂ ks v c | none ↦ update_of p n₂ ks w c ])
      go (some v) = match-same v c
      go none = update_same w c
  plain-same at (written.any w) = refl
  plain-same at (written.exit w) = refl
  plain-same at (written.emit w) = bind-same (lookup p₁ n.outputs w) (lookup-same n.outputs w) (λ v. refl)
  plain-same at (written.error w) = bind-same (lookup p₁ n.errors w) (lookup-same n.errors w) (λ v. refl)
  plain-same at (written.call w) = bind-same (rule_named p₁ n₁ ks w) (rule-same w) (λ r. refl)
  plain-same at (written.give w v) = give-same at.gives w v
  plain-same at (written.ranked s w o) = ranked-same s w o

  selector-same : (s : written.Selector) → selector_of p₁ n₁ ks s ≡ selector_of p n₂ ks s
  unfolding selector_of members_of
  selector-same written.by_token = refl
  selector-same (written.by_rule w) = bind-same (rule_named p₁ n₁ ks w) (rule-same w) (λ r. refl)
  selector-same (written.by_operation w c) = bind-same (operation_of p₁ n₁ ks w) (operation-same w) (λ o. go o o.gives)
    where
      chosen : Checked (Option ℕ) → KnownOperation → Option (List Known) → Checked Chooses
      chosen m o g =
          elim g as (λ _. Checked Chooses) [
            | none ↦ wrong 5 w
            | some vs ↦ ◌>>=◌ m (λ v. good (record { by = choosing o.instruction v; labels = vs }))
          ]

      go : (o : KnownOperation) (g : Option (List Known)) → chosen (parameter_of p₁ n₁ ks w o.takes c) o g ≡ chosen (parameter_of p n₂ ks w o.takes c) o g
      go o none = refl
      go o (some vs) = bind-same (parameter_of p₁ n₁ ks w o.takes c) (parameter-same w o.takes c) (λ v. refl)

  labels-same : (ws : List Word) (vs : List Known) (seen : List ℕ) → labels_of p₁ n₁ ks ws vs seen ≡ labels_of p n₂ ks ws vs seen
  unfolding labels_of
  labels-same [] vs seen = refl
  labels-same (w ∷ ws) vs seen =
      bind-same (lookup p₁ vs w) (lookup-same vs w) (λ v.
      bind-same (fault_if (member v seen) 6 w) refl (λ _.
      bind-same (labels_of p₁ n₁ ks ws vs (v ∷ seen)) (labels-same ws vs (v ∷ seen)) (λ more. refl)))

  mutual
    unfolding act_of

    act-same : (a : written.Act) (at : Place) → act_of p₁ n₁ ks a at ≡ act_of p n₂ ks a at
    act-same (plain a) at = bind-same (plain_of p₁ n₁ ks at a) (plain-same at a) (λ x. refl)
    act-same (cycle b) at = bind-same (acts_of p₁ n₁ ks b (within at)) (acts-same b (within at)) (λ x. refl)
    act-same (choice s q o) at =
        bind-same (selector_of p₁ n₁ ks s) (selector-same s) (λ c.
        bind-same (alts_of p₁ n₁ ks q at c.labels []) (alts-same q at c.labels []) (λ x.
        bind-same (other_of p₁ n₁ ks o at) (other-same o at) (λ y. refl)))

    pub acts-same : (q : written.Acts) (at : Place) → acts_of p₁ n₁ ks q at ≡ acts_of p n₂ ks q at
    acts-same done at = refl
    acts-same (a ▸ q) at =
        bind-same (act_of p₁ n₁ ks a at) (act-same a at) (λ x.
        bind-same (acts_of p₁ n₁ ks q at) (acts-same q at) (λ y. refl))

    alts-same : (q : written.Alts) (at : Place) (vs : List Known) (seen : List ℕ) → alts_of p₁ n₁ ks q at vs seen ≡ alts_of p n₂ ks q at vs seen
    alts-same nil at vs seen = refl
    alts-same (alternative ls b q) at vs seen =
        bind-same (labels_of p₁ n₁ ks ls vs seen) (labels-same ls vs seen) (λ us.
        bind-same (acts_of p₁ n₁ ks b at) (acts-same b at) (λ x.
        bind-same (alts_of p₁ n₁ ks q at vs (us ++ seen)) (alts-same q at vs (us ++ seen)) (λ y. refl)))

    other-same : (o : written.Other) (at : Place) → other_of p₁ n₁ ks o at ≡ other_of p n₂ ks o at
    other-same absent at = refl
    other-same (otherwise b) at = bind-same (acts_of p₁ n₁ ks b at) (acts-same b at) (λ x. refl)
