-- What a part's actions mean by themselves, with the calls' numbers changed, is what they mean among all rules; and where the one has a fault, the
-- other has one.
use mathlib.Core.Bool.{Bool, true, false}
use mathlib.Core.List.{List, [], ◌∷◌, ◌++◌}
use mathlib.Core.Option.{Option, none, some}
use mathlib.Core.Path.{◌≡◌, refl, ap}
use Prim.Native.Nat.{ℕ}
use lib.ListN.{length}
use Rattle.acceptance.proofs.CheckLaws.{no-good}
use Rattle.acceptance.proofs.Shape.{Each}
use Rattle.std.specs.Prelude.{if◌then◌else◌}
use Rattle.base.specs.Common.{member, given, same}
use Rattle.base.specs.Tree.{plain, cycle, choice, done, ◌▸◌, nil, alternative, absent, otherwise}
use Rattle.calls.specs.Renumber.{renumber_plain, renumber_selector, renumber, renumbers, renumber_alts, renumber_other}
use Rattle.names.specs.Known.{Checked, good, wrong, ◌>>=◌, fault_if, Known, KnownType, KnownOperation, KnownOperators, KnownRule, Names, find, find_type, find_operation, find_operators, find_rule, is_type, declared, elsewhere, lookup, lookup_type, optional_type}
use Rattle.names.specs.Resolve.{Place, within, Chooses, updating, choosing, operation_of, rule_named, parameter_of, update_of, match_of, give_of, ranked_of, plain_of, members_of, selector_of, labels_of, act_of, acts_of, alts_of, other_of}
use Rattle.names.specs.Uses.{Use, plain_uses, act_uses, acts_uses, alts_uses, other_uses, pairs_of, lowest_of}
use Rattle.parts.specs.Objects.{call_of, selects, calls, calls_all, calls_some, calls_other, one_each, open_names}
use Rattle.program.specs.Made.{Level}
use Rattle.program.specs.Program as means
use Rattle.syntax.specs.Written as written
use Rattle.syntax.specs.Written.{Constant, Program}
use Rattle.words.specs.Words.{Word}

-- Two checks

-- both give, the second what g makes of the first's; or both have a fault
pub data Alike (A B : Type 0) (g : A → B) : Checked A → Checked B → Type 0 where
  both-good : (a : A) → Alike A B g (good a) (good (g a))
  both-wrong : {n n' : ℕ} {w w' : Word} → Alike A B g (wrong n w) (wrong n' w')

abbrev pub Like : {A B : Type 0} → (A → B) → Checked A → Checked B → Type 0
Like {A} {B} g m m' = Alike A B g m m'

pub like-on : {A B : Type 0} (g : A → B) {m : Checked A} {m' : Checked B} → Like g m m' → (a : A) → m ≡ good a → m' ≡ good (g a)
like-on g (both-good a₀) a e = let d : a₀ ≡ a = cc in ap (λ x. good (g x)) d
like-on g both-wrong a e = no-good e

pub record Back (A B : Type 0) (g : A → B) (m : Checked A) (b : B) : Type 0 where
  pub from : A
  pub gives : m ≡ good from
  pub is : g from ≡ b

pub like-back : {A B : Type 0} (g : A → B) {m : Checked A} {m' : Checked B} → Like g m m' → (b : B) → m' ≡ good b → Back A B g m b
like-back g (both-good a) b e = let d : g a ≡ b = cc in record { from = a; gives = refl; is = d }
like-back g both-wrong b e = no-good e

pub like-good : {A B : Type 0} (g : A → B) (a : A) (b : B) → b ≡ g a → Like g (good a) (good b)
like-good g a b d = rw d (both-good a)

pub like-next : {A B C D : Type 0} (g : B → D) (h : A → C) {m : Checked A} {m' : Checked C} (f : A → Checked B) (f' : C → Checked D)
    → Like h m m' → ((a : A) → m ≡ good a → Like g (f a) (f' (h a))) → Like g (◌>>=◌ m f) (◌>>=◌ m' f')
like-next g h f f' (both-good a) k = k a refl
like-next g h f f' both-wrong k = both-wrong

-- one test on both sides
pub like-if : {B D : Type 0} (g : B → D) (t t' : Bool) (n : ℕ) (w : Word) (f : Unit {0} → Checked B) (f' : Unit {0} → Checked D)
    → t' ≡ t → Like g (f tt) (f' tt) → Like g (◌>>=◌ (fault_if t n w) f) (◌>>=◌ (fault_if t' n w) f')
like-if {B} {D} g t t' n w f f' e h = rw e (go t)
  where
    go : (t : Bool) → Like g (◌>>=◌ (fault_if t n w) f) (◌>>=◌ (fault_if t n w) f')
    go true = both-wrong
    go false = h

abbrev pub id : {A : Type 0} → A → A
id a = a

-- what a word finds does not depend on the program, which only tells 3 from 5
module _ (p p' : Program) where
  pub lookup-alike : (ks : List Known) (w : Word) → Like id (lookup p ks w) (lookup p' ks w)
  unfolding lookup elsewhere
  lookup-alike ks w = go (find w.text ks) refl
    where
      go : (x : Option ℕ) → find w.text ks ≡ x → Like {A = ℕ} {B = ℕ} id (lookup p ks w) (lookup p' ks w)
      go (some v) e = rw (lookup, e) (both-good v)
      go none e = rw (lookup, e) both-wrong

  pub type-alike : (ts : List KnownType) (w : Word) → Like id (lookup_type p ts w) (lookup_type p' ts w)
  unfolding lookup_type elsewhere
  type-alike ts w = go (find_type w.text ts) refl
    where
      two : (t t' : Bool) (a b : Bool) → Like {A = List Known} {B = List Known} id
          (if t then wrong 3 w else wrong (if a then 5 else 3) w) (if t' then wrong 3 w else wrong (if b then 5 else 3) w)
      two true true a b = both-wrong
      two true false a b = both-wrong
      two false true a b = both-wrong
      two false false a b = both-wrong

      go : (x : Option (List Known)) → find_type w.text ts ≡ x → Like {A = List Known} {B = List Known} id (lookup_type p ts w) (lookup_type p' ts w)
      go (some ks) e = rw (lookup_type, e) (both-good ks)
      go none e = rw (lookup_type, e) (two (is_type w.text p.sections) (is_type w.text p'.sections) (declared p w.text) (declared p' w.text))

  pub optional-alike : (ts : List KnownType) (w : Option Word) → Like id (optional_type p ts w) (optional_type p' ts w)
  unfolding optional_type
  optional-alike ts none = both-good none
  optional-alike ts (some w) = like-next id id _ _ (type-alike ts w) (λ ks _. both-good (some ks))

-- Sections of operators

pub data OneEach (w : List ℕ) (ks : List KnownOperators) : Type 0 where
  nowhere : find_operators w (one_each ks) ≡ none → find_operators w ks ≡ none → OneEach w ks
  there : (ls₁ ls : List Level) → find_operators w (one_each ks) ≡ some ls₁ → length ls₁ ≡ 1 → find_operators w ks ≡ some ls → OneEach w ks

pub one_each_lem : (w : List ℕ) (ks : List KnownOperators) → OneEach w ks
unfolding find_operators one_each
one_each_lem w [] = nowhere refl refl
one_each_lem w (k ∷ ks) = go (same w k.named) refl (one_each_lem w ks)
  where
    own : List Level
    own = record { right = false; operators = [] } ∷ []

    go : (t : Bool) → same w k.named ≡ t → OneEach w ks → OneEach w (k ∷ ks)
    go true e h = there own k.levels (rw (find_operators, e)) refl (rw (find_operators, e))
    go false e (nowhere a b) = nowhere (rw (find_operators, e) a) (rw (find_operators, e) b)
    go false e (there ls₁ ls a l b) = there ls₁ ls (rw (find_operators, e) a) l (rw (find_operators, e) b)

-- Calls

-- what a name finds here, it finds among all rules under another number
pub record Renamed (ks ks' : List KnownRule) (to : ℕ → ℕ) (w : Word) : Type 0 where
  pub mine : KnownRule
  pub other : KnownRule
  pub here : find_rule w.text ks ≡ some mine
  pub found : find_rule w.text ks' ≡ some other
  pub place : other.place ≡ to mine.place
  pub gives : other.gives ≡ mine.gives

-- every word after `@` has P, every use of operators Q
module _ (P : Word → Type 0) (Q : Use → Type 0) where
  unfoldable pub MeantPlain : written.Plain → Type 0
  MeantPlain (written.named w c) = Unit {0}
  MeantPlain (written.any w) = Unit {0}
  MeantPlain (written.exit w) = Unit {0}
  MeantPlain (written.emit w) = Unit {0}
  MeantPlain (written.error w) = Unit {0}
  MeantPlain (written.call w) = P w
  MeantPlain (written.give w v) = Unit {0}
  MeantPlain (written.ranked s w o) = P o × Q (record { sign = s; section = w; operand = o })

  unfoldable pub MeantSelector : written.Selector → Type 0
  MeantSelector written.by_token = Unit {0}
  MeantSelector (written.by_rule w) = P w
  MeantSelector (written.by_operation w c) = Unit {0}

  unfoldable mutual
    pub Meant : written.Act → Type 0
    Meant (plain a) = MeantPlain a
    Meant (cycle b) = MeantAll b
    Meant (choice s q o) = MeantSelector s × MeantSome q × MeantOther o

    pub MeantAll : written.Acts → Type 0
    MeantAll done = Unit {0}
    MeantAll (a ▸ q) = Meant a × MeantAll q

    pub MeantSome : written.Alts → Type 0
    MeantSome nil = Unit {0}
    MeantSome (alternative ls b q) = MeantAll b × MeantSome q

    pub MeantOther : written.Other → Type 0
    MeantOther absent = Unit {0}
    MeantOther (otherwise b) = MeantAll b

pub each_left : {A : Type 0} (P : A → Type 0) (vs ws : List A) → Each P (vs ++ ws) → Each P vs
unfolding Each
each_left P [] ws h = tt
each_left P (v ∷ vs) ws h = (h.0, each_left P vs ws h.1)

pub each_right : {A : Type 0} (P : A → Type 0) (vs ws : List A) → Each P (vs ++ ws) → Each P ws
unfolding Each
each_right P [] ws h = h
each_right P (v ∷ vs) ws h = each_right P vs ws h.1

module _ (P : Word → Type 0) (Q : Use → Type 0) where
  plain-meant : (a : written.Plain) (k : List Use) → Each P (call_of a) → Each Q (plain_uses a k) → MeantPlain P Q a × Each Q k
  unfolding call_of plain_uses MeantPlain Each
  plain-meant (written.named w c) k h u = (tt, u)
  plain-meant (written.any w) k h u = (tt, u)
  plain-meant (written.exit w) k h u = (tt, u)
  plain-meant (written.emit w) k h u = (tt, u)
  plain-meant (written.error w) k h u = (tt, u)
  plain-meant (written.call w) k h u = (h.0, u)
  plain-meant (written.give w v) k h u = (tt, u)
  plain-meant (written.ranked s w o) k h u = ((h.0, u.0), u.1)

  selector-meant : (s : written.Selector) → Each P (selects s) → MeantSelector P Q s
  unfolding selects MeantSelector Each
  selector-meant written.by_token h = tt
  selector-meant (written.by_rule w) h = h.0
  selector-meant (written.by_operation w c) h = tt

  mutual
    unfolding calls act_uses Meant

    act-meant : (a : written.Act) (k : List Use) → Each P (calls a) → Each Q (act_uses a k) → Meant P Q a × Each Q k
    act-meant (plain a) k h u = plain-meant a k h u
    act-meant (cycle b) k h u = acts-meant b k h u
    act-meant (choice s q o) k h u =
        let rest = calls_some q ++ calls_other o in
        let x = alts-meant q (other_uses o k) (each_left P (calls_some q) (calls_other o) (each_right P (selects s) rest h)) u in
        let y = other-meant o k (each_right P (calls_some q) (calls_other o) (each_right P (selects s) rest h)) x.1 in
        ((selector-meant s (each_left P (selects s) rest h), x.0, y.0), y.1)

    pub acts-meant : (q : written.Acts) (k : List Use) → Each P (calls_all q) → Each Q (acts_uses q k) → MeantAll P Q q × Each Q k
    acts-meant done k h u = (tt, u)
    acts-meant (a ▸ q) k h u =
        let x = act-meant a (acts_uses q k) (each_left P (calls a) (calls_all q) h) u in
        let y = acts-meant q k (each_right P (calls a) (calls_all q) h) x.1 in
        ((x.0, y.0), y.1)

    alts-meant : (q : written.Alts) (k : List Use) → Each P (calls_some q) → Each Q (alts_uses q k) → MeantSome P Q q × Each Q k
    alts-meant nil k h u = (tt, u)
    alts-meant (alternative ls b q) k h u =
        let x = acts-meant b (alts_uses q k) (each_left P (calls_all b) (calls_some q) h) u in
        let y = alts-meant q k (each_right P (calls_all b) (calls_some q) h) x.1 in
        ((x.0, y.0), y.1)

    other-meant : (o : written.Other) (k : List Use) → Each P (calls_other o) → Each Q (other_uses o k) → MeantOther P Q o × Each Q k
    other-meant absent k h u = (tt, u)
    other-meant (otherwise b) k h u = acts-meant b k h u

-- the call of a use's rules, here and among all rules
abbrev pub Reranked : Program → Program → Names → (ℕ → ℕ) → Use → Type 0
Reranked p p' n to u = lowest_of n u (length p'.rules) (pairs_of p'.rules) ≡ to (lowest_of (open_names n) u (length p.rules) (pairs_of p.rules))

module _ (p p' : Program) (n : Names) (ks ks' : List KnownRule) (to : ℕ → ℕ) where
  abbrev n₁ : Names
  n₁ = open_names n

  operation-alike : (w : Word) → Like id (operation_of p n₁ ks w) (operation_of p' n ks' w)
  unfolding operation_of elsewhere open_names
  operation-alike w = go (find_operation w.text n.operations) refl
    where
      go : (x : Option KnownOperation) → find_operation w.text n.operations ≡ x → Like {A = KnownOperation} {B = KnownOperation} id (operation_of p n₁ ks w) (operation_of p' n ks' w)
      go (some o) e = rw (operation_of, e) (both-good o)
      go none e = rw (operation_of, e) both-wrong

  parameter-alike : (w : Word) (t : Option (List Known)) (c : Option Constant) → Like id (parameter_of p n₁ ks w t c) (parameter_of p' n ks' w t c)
  unfolding parameter_of
  parameter-alike w none none = both-good none
  parameter-alike w none (some c) = both-wrong
  parameter-alike w (some vs) none = both-wrong
  parameter-alike w (some vs) (some c) = like-next id id _ _ (lookup-alike p p' vs c.constant) (λ v _. both-good (some v))

  updating-same : (op : ℕ) (v : Option ℕ) → updating op v ≡ renumber_plain to (updating op v)
  unfolding renumber_plain
  updating-same op none = refl
  updating-same op (some v) = refl

  choosing-same : (op : ℕ) (v : Option ℕ) → choosing op v ≡ renumber_selector to (choosing op v)
  unfolding renumber_selector
  choosing-same op none = refl
  choosing-same op (some v) = refl

  update_alike : (w : Word) (c : Option Constant) → Like (renumber_plain to) (update_of p n₁ ks w c) (update_of p' n ks' w c)
  unfolding update_of
  update_alike w c =
      like-next (renumber_plain to) id _ _ (operation-alike w) (λ o _.
      like-if (renumber_plain to) (given o.gives) (given o.gives) 5 w _ _ refl (
      like-next (renumber_plain to) id _ _ (parameter-alike w o.takes c) (λ v _.
      like-good (renumber_plain to) (updating o.instruction v) (updating o.instruction v) (updating-same o.instruction v))))

  match-alike : (v : ℕ) (c : Option Constant) → Like (renumber_plain to) (match_of p n₁ ks v c) (match_of p' n ks' v c)
  unfolding match_of renumber_plain
  match-alike v none = both-good (means.match v)
  match-alike v (some c) = both-wrong

  give-alike : (g : Option (List Known)) (w : Word) (v : Option Word) → Like (renumber_plain to) (give_of p n₁ ks g w v) (give_of p' n ks' g w v)
  unfolding give_of renumber_plain
  give-alike none w none = both-good means.back
  give-alike none w (some v) = both-wrong
  give-alike (some vs) w none = both-wrong
  give-alike (some vs) w (some v) = like-next (renumber_plain to) id _ _ (lookup-alike p p' vs v) (λ x _. both-good (means.give x))

  -- a name that is a rule is that rule under its other number
  data Named (w : Word) (r : Renamed ks ks' to w) : Type 0 where
    operation : rule_named p n₁ ks w ≡ wrong 5 w → rule_named p' n ks' w ≡ wrong 5 w → Named w r
    rule : rule_named p n₁ ks w ≡ good r.mine → rule_named p' n ks' w ≡ good r.other → Named w r

  named-alike : (w : Word) (r : Renamed ks ks' to w) → Named w r
  unfolding rule_named open_names
  named-alike w r = go (given (find_operation w.text n.operations)) refl
    where
      go : (t : Bool) → given (find_operation w.text n.operations) ≡ t → Named w r
      go true e = operation (rw (rule_named, e)) (rw (rule_named, e))
      go false e = rule (rw (rule_named, e, r.here)) (rw (rule_named, e, r.found))

  -- a call of a procedure rule, whatever number it gets
  procedure-alike : (w : Word) (r : Renamed ks ks' to w) (f f' : KnownRule → ℕ) → f' r.other ≡ to (f r.mine)
      → Like (renumber_plain to) (◌>>=◌ (rule_named p n₁ ks w) (λ k. ◌>>=◌ (fault_if (given k.gives) 5 w) (λ _. good (means.call (f k)))))
      (◌>>=◌ (rule_named p' n ks' w) (λ k. ◌>>=◌ (fault_if (given k.gives) 5 w) (λ _. good (means.call (f' k)))))
  unfolding renumber_plain
  procedure-alike w r f f' e = go (named-alike w r)
    where
      go : Named w r → Like (renumber_plain to) (◌>>=◌ (rule_named p n₁ ks w) (λ k. ◌>>=◌ (fault_if (given k.gives) 5 w) (λ _. good (means.call (f k)))))
          (◌>>=◌ (rule_named p' n ks' w) (λ k. ◌>>=◌ (fault_if (given k.gives) 5 w) (λ _. good (means.call (f' k)))))
      go (operation a b) = rw (a, b) both-wrong
      go (rule a b) =
          rw (a, b) (like-if (renumber_plain to) (given r.mine.gives) (given r.other.gives) 5 w _ _ (ap given r.gives)
          (like-good (renumber_plain to) (means.call (f r.mine)) (means.call (f' r.other)) (ap means.call e)))

  ranked-alike : (s w o : Word) → Renamed ks ks' to o → Reranked p p' n to (record { sign = s; section = w; operand = o })
      → Like (renumber_plain to) (ranked_of p n₁ ks s w o) (ranked_of p' n ks' s w o)
  unfolding ranked_of elsewhere open_names
  ranked-alike s w o r q = go (one_each_lem w.text n.operators)
    where
      u : Use
      u = record { sign = s; section = w; operand = o }

      go : OneEach w.text n.operators → Like (renumber_plain to) (ranked_of p n₁ ks s w o) (ranked_of p' n ks' s w o)
      go (nowhere a b) = rw (ranked_of, a, b) both-wrong
      go (there ls₁ ls a l b) =
          rw (ranked_of, a, b) (procedure-alike o r (λ _. lowest_of n₁ u (length p.rules) (pairs_of p.rules)) (λ _. lowest_of n u (length p'.rules) (pairs_of p'.rules)) q)

  abbrev R : Word → Type 0
  R = Renamed ks ks' to

  abbrev U : Use → Type 0
  U = Reranked p p' n to

  plain-alike : (at : Place) (a : written.Plain) → MeantPlain R U a → Like (renumber_plain to) (plain_of p n₁ ks at a) (plain_of p' n ks' at a)
  unfolding plain_of MeantPlain renumber_plain open_names
  plain-alike at (written.named w c) h = go (find w.text n.inputs) refl
    where
      go : (x : Option ℕ) → find w.text n.inputs ≡ x → Like (renumber_plain to) (plain_of p n₁ ks at (written.named w c)) (plain_of p' n ks' at (written.named w c))
      go (some v) e = rw (plain_of, e) (match-alike v c)
      go none e = rw (plain_of, e) (update_alike w c)
  plain-alike at (written.any w) h = both-good means.any
  plain-alike at (written.exit w) h = go at.inside
    where
      go : (t : Bool) → Like {A = means.Plain} {B = means.Plain} (renumber_plain to) (if t then good means.exit else wrong 7 w) (if t then good means.exit else wrong 7 w)
      go true = both-good means.exit
      go false = both-wrong
  plain-alike at (written.emit w) h = like-next (renumber_plain to) id _ _ (lookup-alike p p' n.outputs w) (λ v _. both-good (means.emit v))
  plain-alike at (written.error w) h = like-next (renumber_plain to) id _ _ (lookup-alike p p' n.errors w) (λ v _. both-good (means.error v))
  plain-alike at (written.call w) h = procedure-alike w h (λ k. k.place) (λ k. k.place) h.place
  plain-alike at (written.give w v) h = give-alike at.gives w v
  plain-alike at (written.ranked s w o) h = ranked-alike s w o h.0 h.1

  -- Choices

  unfoldable chooses : Chooses → Chooses
  chooses c = record { by = renumber_selector to c.by; labels = c.labels }

  selector-alike : (s : written.Selector) → MeantSelector R U s → Like chooses (selector_of p n₁ ks s) (selector_of p' n ks' s)
  unfolding selector_of MeantSelector chooses renumber_selector open_names members_of
  selector-alike written.by_token h = both-good (record { by = means.by_token; labels = n.inputs })
  selector-alike (written.by_rule w) h = go (named-alike w h)
    where
      gave : KnownRule → Option (List ℕ) → Checked Chooses
      gave r g = elim g as (λ _. Checked Chooses) [ none ↦ wrong 5 w | some t ↦ good (record { by = means.by_rule r.place; labels = members_of p n ks t }) ]

      two : (g g' : Option (List ℕ)) → g' ≡ g → Like chooses (gave h.mine g) (gave h.other g')
      two g g' e = rw e (three g)
        where
          three : (g : Option (List ℕ)) → Like chooses (gave h.mine g) (gave h.other g)
          three none = both-wrong
          three (some t) =
              like-good chooses (record { by = means.by_rule h.mine.place; labels = members_of p n ks t }) (record { by = means.by_rule h.other.place; labels = members_of p n ks t })
              (ap (λ (i : ℕ). record { by = means.by_rule i; labels = members_of p n ks t }) h.place)

      go : Named w h → Like chooses (selector_of p n₁ ks (written.by_rule w)) (selector_of p' n ks' (written.by_rule w))
      go (operation a b) = rw (a, b) both-wrong
      go (rule a b) = rw (a, b) (two h.mine.gives h.other.gives h.gives)
  selector-alike (written.by_operation w c) h = like-next chooses id _ _ (operation-alike w) (λ o _. go o o.gives)
    where
      chosen : Checked (Option ℕ) → KnownOperation → Option (List Known) → Checked Chooses
      chosen m o g =
          elim g as (λ _. Checked Chooses) [
            | none ↦ wrong 5 w
            | some vs ↦ ◌>>=◌ m (λ v. good (record { by = choosing o.instruction v; labels = vs }))
          ]

      go : (o : KnownOperation) (g : Option (List Known)) → Like chooses (chosen (parameter_of p n₁ ks w o.takes c) o g) (chosen (parameter_of p' n ks' w o.takes c) o g)
      go o none = both-wrong
      go o (some vs) =
          like-next chooses id _ _ (parameter-alike w o.takes c) (λ v _.
          like-good chooses (record { by = choosing o.instruction v; labels = vs }) (record { by = choosing o.instruction v; labels = vs })
          (ap (λ (s : means.Selector). record { by = s; labels = vs }) (choosing-same o.instruction v)))

  labels-alike : (ws : List Word) (vs : List Known) (seen : List ℕ) → Like id (labels_of p n₁ ks ws vs seen) (labels_of p' n ks' ws vs seen)
  unfolding labels_of
  labels-alike [] vs seen = both-good []
  labels-alike (w ∷ ws) vs seen =
      like-next id id _ _ (lookup-alike p p' vs w) (λ v _.
      like-if id (member v seen) (member v seen) 6 w _ _ refl (
      like-next id id _ _ (labels-alike ws vs (v ∷ seen)) (λ more _. both-good (v ∷ more))))

  mutual
    unfolding act_of renumber chooses Meant

    act-alike : (a : written.Act) (at : Place) → Meant R U a → Like (renumber to) (act_of p n₁ ks a at) (act_of p' n ks' a at)
    act-alike (plain a) at h = like-next (renumber to) (renumber_plain to) _ _ (plain-alike at a h) (λ d _. both-good (plain d))
    act-alike (cycle b) at h = like-next (renumber to) (renumbers to) _ _ (acts-alike b (within at) h) (λ d _. both-good (cycle d))
    act-alike (choice s q o) at h =
        like-next (renumber to) chooses _ _ (selector-alike s h.0) (λ c _.
        like-next (renumber to) (renumber_alts to) _ _ (alts-alike q at c.labels [] h.1) (λ as₁ _.
        like-next (renumber to) (renumber_other to) _ _ (other-alike o at h.2) (λ os _. both-good (choice c.by as₁ os))))

    pub acts-alike : (q : written.Acts) (at : Place) → MeantAll R U q → Like (renumbers to) (acts_of p n₁ ks q at) (acts_of p' n ks' q at)
    acts-alike done at h = both-good done
    acts-alike (a ▸ q) at h =
        like-next (renumbers to) (renumber to) _ _ (act-alike a at h.0) (λ x _.
        like-next (renumbers to) (renumbers to) _ _ (acts-alike q at h.1) (λ y _. both-good (x ▸ y)))

    alts-alike : (q : written.Alts) (at : Place) (vs : List Known) (seen : List ℕ) → MeantSome R U q → Like (renumber_alts to) (alts_of p n₁ ks q at vs seen) (alts_of p' n ks' q at vs seen)
    alts-alike nil at vs seen h = both-good nil
    alts-alike (alternative ls b q) at vs seen h =
        like-next (renumber_alts to) id _ _ (labels-alike ls vs seen) (λ us _.
        like-next (renumber_alts to) (renumbers to) _ _ (acts-alike b at h.0) (λ x _.
        like-next (renumber_alts to) (renumber_alts to) _ _ (alts-alike q at vs (us ++ seen) h.1) (λ y _. both-good (alternative us x y))))

    other-alike : (o : written.Other) (at : Place) → MeantOther R U o → Like (renumber_other to) (other_of p n₁ ks o at) (other_of p' n ks' o at)
    other-alike absent at h = both-good absent
    other-alike (otherwise b) at h = like-next (renumber_other to) (renumbers to) _ _ (acts-alike b at h) (λ d _. both-good (otherwise d))
