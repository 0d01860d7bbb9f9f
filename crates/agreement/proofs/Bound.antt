-- From the start of a tree with no quiet cycle the rules' own walk is over, reads or repairs within the tree's weight and what its ways take.
use mathlib.Core.Bool.{Bool, true, false, ◌||◌}
use mathlib.Core.List.{List, [], ◌∷◌}
use mathlib.Core.Option.{Option, none, some}
use mathlib.Core.Path.{◌≡◌, refl}
use native.Mathlib.Omega.{arith}
use Prim.Native.Nat.{ℕ, zero, suc, ◌+◌, ◌*◌, ◌≤◌, ◌<◌}
use lib.Dec.{ltb}
use borrow.Author.Tests.{ltb-true}
use Rattle.base.specs.Bools.{split}
use lib.ListN.{length}
use Rattle.std.specs.Prelude.{if◌then◌else◌}
use Rattle.base.specs.Common.{member, given}
use Rattle.base.specs.Tree.{plain, cycle, choice, done, ◌▸◌, nil, alternative, absent, otherwise}
use Rattle.events.specs.Events.{Event, output, signal, operation, operation_with, Reason, differs, missing, unlabelled, deep, Io, present, took, wrote, answered, mends, spent, repaired, is}
use Rattle.finishing.specs.Finishing.{Way, to_end, to_exit, to_back, to_give, to_call, Away, away_exit, away_back, away_give, away_call, far_back, far_give, far_call, Path, path_emit, path_error, path_update, path_update_with, path_call, path_calls, path_exit, path_back, path_give, path_out, path_in, path_selects, path_labelled, path_otherwise, path_named, path_unnamed, Paths, paths_done, paths_here, paths_later, PathsSome, paths_this, paths_that, PathsFor, for_this, for_that, opens_operation, opens_operation_with, OpensElse, else_token, else_opens, by_give, named, Gives, gives, Passed, passed}
use Rattle.ownwalk.specs.OwnWalk.{Context, in_cycle, in_alternative, in_otherwise, Pending, before, before_choice, Own, on, choosing, stopped, nowhere, labelled, labelled_by, chosen, repaired_first, unmatched, ended, left, gave_back, next_answer, asked, entered, own_plain, own_choice, own}
use Rattle.program.proofs.Bounds.{SmallPlain, SmallSelector}
use Rattle.program.specs.Program.{Plain, match, any, emit, error, exit, call, back, give, update, update_with, Selector, by_token, by_rule, by_operation, by_operation_with, Act, Acts, Alts, Other, Rule, body_of}

-- the rules' own walk goes no further
pub data Over : Own → Type 0 where
  over-stopped : {r : Reason} {io : Io} → Over (stopped r io)
  over-nowhere : {io : Io} → Over (nowhere io)

unfoldable pub read_of : Own → ℕ
read_of (on q k ps io) = io.read
read_of (choosing v al o q k ps io) = io.read
read_of (stopped r io) = io.read
read_of (nowhere io) = io.read

-- what is left of the repair allowance
unfoldable pub left_of : Own → ℕ
left_of (on q k ps io) = io.allowance
left_of (choosing v al o q k ps io) = io.allowance
left_of (stopped r io) = io.allowance
left_of (nowhere io) = io.allowance

-- from s to t a token is read or a repair is made: more is read than allowance comes back
abbrev pub Uses : Own → Own → Type 0
Uses s t = read_of s + left_of t < read_of t + left_of s

-- The weight of a tree, where a call weighs c and some

unfoldable pub weigh_plain : ℕ → Plain → ℕ
weigh_plain c (match t) = 1
weigh_plain c any = 1
weigh_plain c (emit t) = 1
weigh_plain c (error t) = 1
weigh_plain c exit = 1
weigh_plain c (call r) = 2 + c
weigh_plain c back = 1
weigh_plain c (give v) = 1
weigh_plain c (update op) = 1
weigh_plain c (update_with op v) = 1

unfoldable mutual
  pub weigh : ℕ → Act → ℕ
  weigh c (plain p) = weigh_plain c p
  weigh c (cycle b) = 2 * weighs c b + 2
  weigh c (choice s q o) = 4 + c + weigh_alts c q + weigh_other c o

  pub weighs : ℕ → Acts → ℕ
  weighs c done = 0
  weighs c (a ▸ q) = weigh c a + weighs c q

  pub weigh_alts : ℕ → Alts → ℕ
  weigh_alts c nil = 0
  weigh_alts c (alternative ls b q) = weighs c b + weigh_alts c q

  pub weigh_other : ℕ → Other → ℕ
  weigh_other c absent = 0
  weigh_other c (otherwise b) = weighs c b

-- Steps that come to an end, to a read or to a repair

-- within n steps it is over, reads or repairs
pub data Ends (step : Own → Own) : ℕ → Own → Type 0 where
  ends-over : {n : ℕ} {s : Own} → Over s → Ends step n s
  ends_read : {n : ℕ} {s : Own} → Uses s (step s) → Ends step n s
  ends-step : {n : ℕ} {s : Own} → Ends step n (step s) → Ends step (suc n) s

pub ends_more : {step : Own → Own} {n : ℕ} {s : Own} (m : ℕ) → n ≤ m → Ends step n s → Ends step m s
ends_more m h (ends-over o) = ends-over o
ends_more m h (ends_read r) = ends_read r
ends_more zero h (ends-step e) = absurd (omega arith)
ends_more (suc m) h (ends-step e) = ends-step (ends_more m (omega arith) e)

-- what a labelled alternative takes, if there is one
pub data Opt (step : Own → Own) (n : ℕ) (q : Acts) (k : List Context) (ps : List Pending) (io : Io) : Option Acts → Type 0 where
  opt_none : Opt step n q k ps io none
  opt-some : {b : Acts} → Ends step n (on b (in_alternative q ∷ k) ps io) → Opt step n q k ps io (some b)

opt-more : {step : Own → Own} {n : ℕ} {q : Acts} {k : List Context} {ps : List Pending} {io : Io} {f : Option Acts} (m : ℕ) → n ≤ m → Opt step n q k ps io f → Opt step m q k ps io f
opt-more m h opt_none = opt_none
opt-more m h (opt-some e) = opt-some (ends_more m h e)

opt-if : {step : Own → Own} {n : ℕ} {q b : Acts} {k : List Context} {ps : List Pending} {io : Io} {f : Option Acts} (t : Bool) → (t ≡ true → Ends step n (on b (in_alternative q ∷ k) ps io))
    → Opt step n q k ps io f → Opt step n q k ps io (if t then some b else f)
opt-if true h e = opt-some (h refl)
opt-if false h e = e

-- no alternative has the label: none names the value
unlabelled-unnamed : (v : ℕ) (al : Alts) → labelled v al ≡ none → named v al ≡ false
unfolding labelled named
unlabelled-unnamed v nil e = refl
unlabelled-unnamed v (alternative ls b al) e = go (member v ls) e (λ d. unlabelled-unnamed v al d)
  where
    go : (t : Bool) → (if t then some b else labelled v al) ≡ none → (labelled v al ≡ none → named v al ≡ false) → (t || named v al) ≡ false
    go true d ih = let z : ◌≡◌ {A = ℕ} 0 1 = cc in absurd (omega arith)
    go false d ih = ih d

module _ {step : Own → Own} where
  step-to : {n : ℕ} {t : Own} (s : Own) → step s ≡ t → Ends step n t → Ends step (suc n) s
  step-to {n} s e h =
      let x : Ends step n (step s) = rw e h in
      ends-step x

  -- a test of the token, with one read where it holds
  read-ends : {n : ℕ} (s t : Own) (r : Reason) (io : Io) (b : Bool) → step s ≡ (if b then t else stopped r io) → Uses s t → Ends step (suc n) s
  read-ends s t r io true e h = ends_read {s = s} (rw e h)
  read-ends s t r io false e h = step-to s e (ends-over over-stopped)

  -- a required token: read, repaired, or neither
  required-ends : {n : ℕ} (s t t' : Own) (r : Reason) (io : Io) (b c : Bool) → step s ≡ (if b then t else if c then t' else stopped r io) → Uses s t → (c ≡ true → Uses s t')
      → Ends step (suc n) s
  required-ends s t t' r io true c e h h' = ends_read {s = s} (rw e h)
  required-ends s t t' r io false true e h h' =
      let u : Uses s t' = h' refl in
      ends_read {s = s} (rw e u)
  required-ends s t t' r io false false e h h' = step-to s e (ends-over over-stopped)

  test-ends : {n : ℕ} (s t : Own) (r : Reason) (io : Io) (b : Bool) → step s ≡ (if b then t else stopped r io) → Ends step n t → Ends step (suc n) s
  test-ends s t r io true e h = step-to s e h
  test-ends s t r io false e h = step-to s e (ends-over over-stopped)

  -- an input choice with no label for the token and no otherwise repairs or is over
  first_ends : {n : ℕ} (s : Own) (al : Alts) (q : Acts) (k : List Context) (ps : List Pending) (io : Io) → step s ≡ repaired_first al q k ps io → read_of s ≡ io.read → left_of s ≡ io.allowance
      → 0 < io.allowance → Ends step (suc n) s
  unfolding repaired_first repaired wrote spent read_of left_of
  first_ends s nil q k ps io e d g l = step-to s e (ends-over over-nowhere)
  first_ends s (alternative [] b al) q k ps io e d g l = step-to s e (ends-over over-nowhere)
  first_ends s (alternative (t ∷ ls) b al) q k ps io e d g l = ends_read {s = s} (rw (e, d, g) (omega arith))

  unmatched-ends : {n : ℕ} (s : Own) (al : Alts) (q : Acts) (k : List Context) (ps : List Pending) (io : Io) → step s ≡ unmatched al q k ps io → read_of s ≡ io.read → left_of s ≡ io.allowance
      → Ends step (suc n) s
  unfolding unmatched mends
  unmatched-ends s al q k ps io e d g =
      split (ltb 0 io.allowance) (λ t. first_ends s al q k ps io (rw t at e) d g (ltb-true 0 io.allowance t)) (λ f. step-to s (rw f at e) (ends-over over-stopped))

  -- an input choice reads where a label is
  token-ends : {n : ℕ} (s : Own) (al : Alts) (o : Other) (q : Acts) (k : List Context) (ps : List Pending) (io : Io) (f : Option Acts)
      → step s ≡ chosen f o q k ps (unmatched al q k ps io) io (took io) → read_of s ≡ io.read → left_of s ≡ io.allowance
      → Ends step n (chosen none o q k ps (stopped differs io) io (took io)) → Ends step (suc n) s
  unfolding chosen read_of left_of took
  token-ends s al o q k ps io (some b) e d g h = ends_read {s = s} (rw (e, d, g) (omega arith))
  token-ends s al (otherwise b) q k ps io none e d g h = step-to s e h
  token-ends s al absent q k ps io none e d g h = unmatched-ends s al q k ps io e d g

  asked-ends : {n : ℕ} (a : Option ℕ) (e : Event) (al : Alts) (o : Other) (q : Acts) (k : List Context) (ps : List Pending) (io : Io) → ((v : ℕ) (io₁ : Io) → Ends step n (choosing v al o q k ps io₁))
      → Ends step n (asked a e al o q k ps io)
  unfolding asked
  asked-ends none e al o q k ps io h = ends-over over-stopped
  asked-ends (some v) e al o q k ps io h = h v (answered (wrote e io))

  -- a choice by a value, with what its labelled alternative and what otherwise takes
  value-ends : {n : ℕ} {q : Acts} {k : List Context} {ps : List Pending} {io : Io} {f : Option Acts} (s : Own) (o : Other) → step s ≡ chosen f o q k ps (stopped unlabelled io) io io → Opt step n q k ps io f
      → (f ≡ none → Ends step n (chosen none o q k ps (stopped unlabelled io) io io)) → Ends step (suc n) s
  unfolding chosen
  value-ends s o e opt_none h = step-to s e (h refl)
  value-ends s o e (opt-some x) h = step-to s e x

module _ (prog : List Rule) where
  -- no cycle in it has a quiet path from its start to its end, and the rules that it calls are there
  unfoldable mutual
    pub Tame : Act → Type 0
    Tame (plain p) = SmallPlain (length prog) p
    Tame (cycle b) = (¬ (Paths prog to_end b)) × Tames b
    Tame (choice s q o) = SmallSelector (length prog) s × TameAlts q × TameOther o

    pub Tames : Acts → Type 0
    Tames done = Unit {0}
    Tames (a ▸ q) = Tame a × Tames q

    pub TameAlts : Alts → Type 0
    TameAlts nil = Unit {0}
    TameAlts (alternative ls b q) = Tames b × TameAlts q

    pub TameOther : Other → Type 0
    TameOther absent = Unit {0}
    TameOther (otherwise b) = Tames b

  gives-passed : {r v : ℕ} → Gives prog r v → Passed prog r
  gives-passed (gives l x) = passed l by_give x

  for_some : {v : ℕ} {w : Way} {q : Alts} → PathsFor prog v w q → PathsSome prog w q
  for_some (for_this e x) = paths_this x
  for_some (for_that x) = paths_that (for_some x)

module _ (prog : List Rule) (tokens answers : List ℕ) where
  abbrev pub EndsIn : ℕ → Own → Type 0
  EndsIn n s = Ends (own prog tokens answers) n s

  -- a return without a value and one with it take at most n
  abbrev pub Back : ℕ → List Pending → Type 0
  Back n ps = ((io : Io) → EndsIn n (ended [] ps io)) × ((v : ℕ) (io : Io) → EndsIn n (gave_back v ps io))

  -- the same where rule r returns quietly, with a value that it can return so
  abbrev pub BackOf : ℕ → ℕ → List Pending → Type 0
  BackOf r n ps = (Passed prog r → (io : Io) → EndsIn n (ended [] ps io)) × ((v : ℕ) → Gives prog r v → (io : Io) → EndsIn n (gave_back v ps io))

  -- a call of r takes at most c, and n after it
  abbrev pub RuleEnds : ℕ → ℕ → Type 0
  RuleEnds c r = r < length prog → (ps : List Pending) (n : ℕ) → BackOf r n ps → (io : Io) → EndsIn (c + n) (on (body_of prog r) [] ps io)

  -- where a path has come to: what follows takes at most n
  unfoldable pub Goal : ℕ → Acts → List Context → List Pending → ℕ → Way → Type 0
  Goal c q k ps n to_end = (io : Io) → EndsIn n (on q k ps io)
  Goal c q k ps n to_exit = (io : Io) → EndsIn n (left k ps io)
  Goal c q k ps n to_back = (io : Io) → EndsIn n (ended [] ps io)
  Goal c q k ps n (to_give v) = (io : Io) → EndsIn n (gave_back v ps io)
  Goal c q k ps n (to_call r) = RuleEnds c r

  module _ (c : ℕ) where
    goal-more : (n m : ℕ) (q : Acts) (k : List Context) (ps : List Pending) (w : Way) → Away w → n ≤ m → Goal c done k ps n w → Goal c q k ps m w
    unfolding Goal
    goal-more n m q k ps to_exit a h e = λ io. ends_more m h (e io)
    goal-more n m q k ps to_back a h e = λ io. ends_more m h (e io)
    goal-more n m q k ps (to_give v) a h e = λ io. ends_more m h (e io)
    goal-more n m q k ps (to_call r) a h e = e
    goal-more n m q k ps to_end a h e = elim a [ ]

    -- from inside a cycle, an alternative, otherwise
    pub cycle-goal : (b q : Acts) (k : List Context) (ps : List Pending) (n : ℕ) → ¬ (Paths prog to_end b) → ((w : Way) → Path prog w (cycle b) → Goal c q k ps n w)
        → (w : Way) → Paths prog w b → Goal c done (in_cycle b q ∷ k) ps n w
    unfolding Goal left
    cycle-goal b q k ps n quiet h to_end p = absurd (quiet p)
    cycle-goal b q k ps n quiet h to_exit p = h to_end (path_out p)
    cycle-goal b q k ps n quiet h to_back p = h to_back (path_in far_back p)
    cycle-goal b q k ps n quiet h (to_give v) p = h (to_give v) (path_in far_give p)
    cycle-goal b q k ps n quiet h (to_call r) p = h (to_call r) (path_in far_call p)

    alternative-goal : (q : Acts) (k : List Context) (ps : List Pending) (n : ℕ) (w : Way) → Goal c q k ps n w → Goal c done (in_alternative q ∷ k) ps (n + 1) w
    unfolding Goal left own ended
    alternative-goal q k ps n to_end h = λ io. ends_more _ (omega arith) (ends-step (h io))
    alternative-goal q k ps n to_exit h = λ io. ends_more _ (omega arith) (h io)
    alternative-goal q k ps n to_back h = λ io. ends_more _ (omega arith) (h io)
    alternative-goal q k ps n (to_give v) h = λ io. ends_more _ (omega arith) (h io)
    alternative-goal q k ps n (to_call r) h = h

    otherwise-goal : (q : Acts) (k : List Context) (ps : List Pending) (n : ℕ) (w : Way) → Goal c q k ps n w → Goal c done (in_otherwise q ∷ k) ps (n + 1) w
    unfolding Goal left own ended
    otherwise-goal q k ps n to_end h = λ io. ends_more _ (omega arith) (ends-step (h io))
    otherwise-goal q k ps n to_exit h = λ io. ends_more _ (omega arith) (h io)
    otherwise-goal q k ps n to_back h = λ io. ends_more _ (omega arith) (h io)
    otherwise-goal q k ps n (to_give v) h = λ io. ends_more _ (omega arith) (h io)
    otherwise-goal q k ps n (to_call r) h = h

    -- of the first action of a list: to its end, and so to what follows, or away
    first-goal : (a : Act) (q : Acts) (k : List Context) (ps : List Pending) (n : ℕ) → (Path prog to_end a → (io : Io) → EndsIn (weighs c q + n) (on q k ps io))
        → ((w : Way) → Away w → Path prog w a → Goal c done k ps n w) → (w : Way) → Path prog w a → Goal c q k ps (weighs c q + n) w
    unfolding Goal
    first-goal a q k ps n he ha to_end p = he p
    first-goal a q k ps n he ha to_exit p = goal-more n (weighs c q + n) q k ps to_exit away_exit (omega arith) (ha to_exit away_exit p)
    first-goal a q k ps n he ha to_back p = goal-more n (weighs c q + n) q k ps to_back away_back (omega arith) (ha to_back away_back p)
    first-goal a q k ps n he ha (to_give v) p = goal-more n (weighs c q + n) q k ps (to_give v) away_give (omega arith) (ha (to_give v) away_give p)
    first-goal a q k ps n he ha (to_call r) p = ha (to_call r) away_call p

    -- a choice by the value v: x for the labelled alternatives, y for otherwise
    pub choosing-ends : (n x y v : ℕ) (al : Alts) (o : Other) (q : Acts) (k : List Context) (ps : List Pending) → ((io : Io) → Opt (own prog tokens answers) (x + (n + 1)) q k ps io (labelled v al))
        → (labelled v al ≡ none → (io : Io) → EndsIn (y + (n + 1)) (chosen none o q k ps (stopped unlabelled io) io io)) → (io : Io) → EndsIn (2 + x + y + n) (choosing v al o q k ps io)
    unfolding own
    choosing-ends n x y v al o q k ps ha ho io =
        ends_more _ (omega arith)
        (value-ends {n = 1 + x + y + n} (choosing v al o q k ps io) o refl (opt-more (1 + x + y + n) (omega arith) (ha io))
        (λ e. ends_more (1 + x + y + n) (omega arith) (ho e io)))

    plain-ends : (p : Plain) (q : Acts) (k : List Context) (ps : List Pending) (n : ℕ) → SmallPlain (length prog) p → ((w : Way) → Path prog w (plain p) → Goal c q k ps n w) → (io : Io)
        → EndsIn (weigh_plain c p + n) (on (plain p ▸ q) k ps io)
    unfolding weigh_plain SmallPlain own own_plain entered ended gave_back Goal read_of left_of took repaired wrote spent mends
    plain-ends (match t) q k ps n ok h io =
        ends_more _ (omega arith)
        (required-ends {n = 0} (on (plain (match t) ▸ q) k ps io) (on q k ps (took io)) (on q k ps (repaired t io)) differs io (is t (present tokens io)) (mends io) refl (omega arith)
        (λ l. omega (arith, ltb-true 0 io.allowance l)))
    plain-ends any q k ps n ok h io =
        ends_more _ (omega arith) (read-ends {n = 0} (on (plain any ▸ q) k ps io) (on q k ps (took io)) missing io (given (present tokens io)) refl (omega arith))
    plain-ends (emit t) q k ps n ok h io = ends_more _ (omega arith) (ends-step (h to_end path_emit (wrote (output t) io)))
    plain-ends (error t) q k ps n ok h io = ends_more _ (omega arith) (ends-step (h to_end path_error (wrote (signal t) io)))
    plain-ends exit q k ps n ok h io = ends_more _ (omega arith) (ends-step (h to_exit path_exit io))
    plain-ends (call r) q k ps n ok h io =
        ends_more _ (omega arith)
        (test-ends (on (plain (call r) ▸ q) k ps io) (on (body_of prog r) [] (before q k ∷ ps) io) deep io (ltb (length ps) 64) refl
        (h (to_call r) path_calls ok (before q k ∷ ps) n (λ p. h to_end (path_call p), λ v g. h to_end (path_call (gives-passed prog g))) io))
    plain-ends back q k ps n ok h io = ends_more _ (omega arith) (ends-step (h to_back path_back io))
    plain-ends (give v) q k ps n ok h io = ends_more _ (omega arith) (ends-step (h (to_give v) path_give io))
    plain-ends (update op) q k ps n ok h io = ends_more _ (omega arith) (ends-step (h to_end path_update (wrote (operation op) io)))
    plain-ends (update_with op v) q k ps n ok h io = ends_more _ (omega arith) (ends-step (h to_end path_update_with (wrote (operation_with op v) io)))

    mutual
      unfolding weighs Tame SmallSelector own own_choice Goal entered ended gave_back read_of left_of chosen labelled

      act-ends : (a : Act) (q : Acts) (k : List Context) (ps : List Pending) (n : ℕ) → Tame prog a → ((w : Way) → Path prog w a → Goal c q k ps n w) → (io : Io)
          → EndsIn (weigh c a + n) (on (a ▸ q) k ps io)
      act-ends (plain p) q k ps n ok h io = plain-ends p q k ps n ok h io
      act-ends (cycle b) q k ps n ok h io =
          ends_more _ (omega arith) (ends-step (acts-ends b (in_cycle b q ∷ k) ps n ok.1 (cycle-goal b q k ps n ok.0 h) io))
      act-ends (choice by_token al o) q k ps n ok h io =
          ends_more _ (omega arith)
          (token-ends (on (choice by_token al o ▸ q) k ps io) al o q k ps io (labelled_by (present tokens io) al) refl refl refl
          (other-ends o by_token al q k ps n differs ok.2 else_token h io (took io)))
      act-ends (choice (by_rule r) al o) q k ps n ok h io =
          ends_more _ (omega arith)
          (test-ends (on (choice (by_rule r) al o ▸ q) k ps io) (on (body_of prog r) [] (before_choice al o q k ∷ ps) io) deep io (ltb (length ps) 64) refl
          (h (to_call r) path_selects ok.0 (before_choice al o q k ∷ ps) (2 + weigh_alts c al + weigh_other c o + n) (
            λ p io₁. ends-over over-nowhere,
            λ v g. choosing-ends n (weigh_alts c al) (weigh_other c o) v al o q k ps (λ io₁. alts-ends al q k ps n v ok.1 (λ w p. h w (path_named g p)) io₁)
                (λ e io₁. unnamed-ends o r v al q k ps n unlabelled ok.2 g (unlabelled-unnamed v al e) h io₁ io₁),
          ) io))
      act-ends (choice (by_operation op) al o) q k ps n ok h io =
          ends_more _ (omega arith)
          (step-to (on (choice (by_operation op) al o ▸ q) k ps io) refl
          (asked-ends (next_answer answers io) (operation op) al o q k ps io
          (λ v. choosing-ends n (weigh_alts c al) (weigh_other c o) v al o q k ps (λ io₁. alts-ends al q k ps n v ok.1 (λ w p. h w (path_labelled opens_operation (for_some prog p))) io₁)
          (λ e io₁. other-ends o (by_operation op) al q k ps n unlabelled ok.2 (else_opens opens_operation) h io₁ io₁))))
      act-ends (choice (by_operation_with op u) al o) q k ps n ok h io =
          ends_more _ (omega arith)
          (step-to (on (choice (by_operation_with op u) al o ▸ q) k ps io) refl
          (asked-ends (next_answer answers io) (operation_with op u) al o q k ps io
          (λ v. choosing-ends n (weigh_alts c al) (weigh_other c o) v al o q k ps (λ io₁. alts-ends al q k ps n v ok.1 (λ w p. h w (path_labelled opens_operation_with (for_some prog p))) io₁)
          (λ e io₁. other-ends o (by_operation_with op u) al q k ps n unlabelled ok.2 (else_opens opens_operation_with) h io₁ io₁))))

      pub acts-ends : (q : Acts) (k : List Context) (ps : List Pending) (n : ℕ) → Tames prog q → ((w : Way) → Paths prog w q → Goal c done k ps n w) → (io : Io) → EndsIn (weighs c q + n) (on q k ps io)
      acts-ends done k ps n ok h io = ends_more _ (omega arith) (h to_end paths_done io)
      acts-ends (a ▸ q) k ps n ok h io =
          ends_more _ (omega arith)
          (act-ends a q k ps (weighs c q + n) ok.0
          (first-goal a q k ps n (λ p io₁. acts-ends q k ps n ok.1 (λ w p₁. h w (paths_later p p₁)) io₁) (λ w x p. h w (paths_here x p))) io)

      pub other-ends : (o : Other) (s : Selector) (al : Alts) (q : Acts) (k : List Context) (ps : List Pending) (n : ℕ) (r : Reason) → TameOther prog o → OpensElse s
          → ((w : Way) → Path prog w (choice s al o) → Goal c q k ps n w) → (io io' : Io) → EndsIn (weigh_other c o + (n + 1)) (chosen none o q k ps (stopped r io) io io')
      other-ends absent s al q k ps n r ok op h io io' = ends-over over-stopped
      other-ends (otherwise b) s al q k ps n r ok op h io io' = acts-ends b (in_otherwise q ∷ k) ps (n + 1) ok (λ w p. otherwise-goal q k ps n w (h w (path_otherwise op p))) io

      -- where no label names the value that rule r returns
      unnamed-ends : (o : Other) (r v : ℕ) (al : Alts) (q : Acts) (k : List Context) (ps : List Pending) (n : ℕ) (e : Reason) → TameOther prog o → Gives prog r v → named v al ≡ false
          → ((w : Way) → Path prog w (choice (by_rule r) al o) → Goal c q k ps n w) → (io io' : Io) → EndsIn (weigh_other c o + (n + 1)) (chosen none o q k ps (stopped e io) io io')
      unnamed-ends absent r v al q k ps n e ok g d h io io' = ends-over over-stopped
      unnamed-ends (otherwise b) r v al q k ps n e ok g d h io io' = acts-ends b (in_otherwise q ∷ k) ps (n + 1) ok (λ w p. otherwise-goal q k ps n w (h w (path_unnamed g d p))) io

      pub alts-ends : (al : Alts) (q : Acts) (k : List Context) (ps : List Pending) (n v : ℕ) → TameAlts prog al → ((w : Way) → PathsFor prog v w al → Goal c q k ps n w) → (io : Io)
          → Opt (own prog tokens answers) (weigh_alts c al + (n + 1)) q k ps io (labelled v al)
      alts-ends nil q k ps n v ok h io = opt_none
      alts-ends (alternative ls b al) q k ps n v ok h io =
          opt-if (member v ls)
          (λ e. ends_more _ (omega arith) (acts-ends b (in_alternative q ∷ k) ps (n + 1) ok.0 (λ w p. alternative-goal q k ps n w (h w (for_this e p))) io))
          (opt-more _ (omega arith) (alts-ends al q k ps n v ok.1 (λ w p. h w (for_that p)) io))
