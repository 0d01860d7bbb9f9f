-- A finishing program's own walk is over within a budget that the program, the number of tokens and the allowance give.
use mathlib.Core.Bool.{Bool, true, false}
use mathlib.Core.List.{List, [], ◌∷◌}
use mathlib.Core.Option.{Option, none, some}
use mathlib.Core.Path.{◌≡◌, refl}
use native.Mathlib.Nat.{le_refl, le_trans, mul-le-mul_right}
use native.Mathlib.Omega.{arith}
use Prim.Native.Nat.{ℕ, zero, suc, ◌+◌, ◌*◌, ◌≤◌, ◌<◌}
use lib.Dec.{ltb}
use lib.ListN.{length, get_elem?}
use borrow.Author.Tests.{ltb-true}
use Rattle.agreement.proofs.Bound.{Over, over-stopped, over-nowhere, read_of, left_of, weigh, weighs, weigh_alts, weigh_other, ends-over, ends_read, ends-step, ends_more, Tame, Tames, TameAlts, TameOther, EndsIn, Back, Goal, cycle-goal, choosing-ends, acts-ends, other-ends, alts-ends}
use Rattle.agreement.proofs.BoundRules.{total, total-le, costs, tame-rule, any-rule}
use Rattle.std.specs.Prelude.{if◌then◌else◌}
use Rattle.base.specs.Common.{member, given}
use Rattle.base.specs.Tree.{plain, cycle, choice, done, ◌▸◌, nil, alternative, absent, otherwise}
use Rattle.events.specs.Events.{Event, operation, operation_with, Reason, differs, missing, unlabelled, deep, Io, present, took, wrote, answered, mends, spent, repaired, is}
use Rattle.finishing.specs.Finishing.{Way, to_end, to_exit, to_back, to_give, to_call, opens_operation, else_opens, Finishing}
use Rattle.ownwalk.specs.OwnWalk.{Context, in_cycle, in_alternative, in_otherwise, Pending, before, before_choice, Own, on, choosing, stopped, nowhere, labelled, labelled_by, chosen, repaired_first, unmatched, ended, left, gave_back, next_answer, asked, entered, own_plain, own_choice, own, owns, own_start}
use Rattle.program.proofs.Bounds.{SmallPlain, SmallSelector}
use Rattle.program.specs.Accepted.{Accepted}
use Rattle.program.specs.Program.{Plain, match, any, emit, error, exit, call, back, give, update, update_with, Selector, by_token, by_rule, by_operation, by_operation_with, Act, Acts, Alts, Other, Rule, body_of}

-- what a call of any rule takes at most, and all rules with such calls
unfoldable pub call_cost : List Rule → ℕ
call_cost prog = costs prog (length prog)

unfoldable pub all_rules : List Rule → ℕ
all_rules prog = total (call_cost prog) prog + 1

-- steps between two reads or repairs, at most: all the rules, in each of 65 places
unfoldable pub most : List Rule → ℕ
most prog = 65 * all_rules prog

-- steps of the rules' own walk over tokens and an allowance that are t together, at most
unfoldable pub budget : List Rule → ℕ → ℕ
budget prog t = most prog + (t + 1) * (most prog + 1)

-- Where a walk can be

module _ (prog : List Rule) where
  -- the weight of what is around a place, and of what is behind the pending calls
  weigh_around : List Context → ℕ
  weigh_around [] = 1
  weigh_around (in_cycle b r ∷ k) = 1 + weighs (call_cost prog) b + weighs (call_cost prog) r + weigh_around k
  weigh_around (in_alternative r ∷ k) = 1 + weighs (call_cost prog) r + weigh_around k
  weigh_around (in_otherwise r ∷ k) = 1 + weighs (call_cost prog) r + weigh_around k

  weigh_pending : List Pending → ℕ
  weigh_pending [] = 0
  weigh_pending (before q k ∷ ps) = weighs (call_cost prog) q + weigh_around k + weigh_pending ps
  weigh_pending (before_choice al o q k ∷ ps) = 2 + weigh_alts (call_cost prog) al + weigh_other (call_cost prog) o + weighs (call_cost prog) q + weigh_around k + weigh_pending ps

  -- a place of the program: tame, and no heavier than all rules
  pub data Fits : Acts → List Context → Type 0 where
    fits-rule : {q : Acts} → Tames prog q → weighs (call_cost prog) q + 1 ≤ all_rules prog → Fits q []
    fits-cycle : {q b r : Acts} {k : List Context} → Tames prog q → weighs (call_cost prog) q ≤ weighs (call_cost prog) b → Fits (cycle b ▸ r) k → Fits q (in_cycle b r ∷ k)
    fits-alternative : {q r : Acts} {k : List Context} (a : Act) → Tames prog q → weighs (call_cost prog) q + 1 ≤ weigh (call_cost prog) a → Fits (a ▸ r) k → Fits q (in_alternative r ∷ k)
    fits-otherwise : {q r : Acts} {k : List Context} (a : Act) → Tames prog q → weighs (call_cost prog) q + 1 ≤ weigh (call_cost prog) a → Fits (a ▸ r) k → Fits q (in_otherwise r ∷ k)

  fits_le : {q : Acts} {k : List Context} → Fits q k → weighs (call_cost prog) q + weigh_around k ≤ all_rules prog
  unfolding weigh_around weighs
  fits_le (fits-rule o h) = h
  fits_le (fits-cycle o h f) = omega (arith, fits_le f)
  fits_le (fits-alternative a o h f) = omega (arith, fits_le f)
  fits_le (fits-otherwise a o h f) = omega (arith, fits_le f)

  pub fits-tame : {q : Acts} {k : List Context} → Fits q k → Tames prog q
  fits-tame (fits-rule o h) = o
  fits-tame (fits-cycle o h f) = o
  fits-tame (fits-alternative a o h f) = o
  fits-tame (fits-otherwise a o h f) = o

  fits-less : {q q₁ : Acts} {k : List Context} → Tames prog q₁ → weighs (call_cost prog) q₁ ≤ weighs (call_cost prog) q → Fits q k → Fits q₁ k
  fits-less o l (fits-rule x h) = fits-rule o (omega arith)
  fits-less o l (fits-cycle x h f) = fits-cycle o (le_trans l h) f
  fits-less o l (fits-alternative a x h f) = fits-alternative a o (omega arith) f
  fits-less o l (fits-otherwise a x h f) = fits-otherwise a o (omega arith) f

  pub fits-rest : {a : Act} {q : Acts} {k : List Context} → Fits (a ▸ q) k → Fits q k
  unfolding Tame weighs
  fits-rest {a} {q} f =
      let h : weighs (call_cost prog) q ≤ weighs (call_cost prog) (a ▸ q) = omega arith in
      fits-less (fits-tame f).1 h f

  pub data Waits : List Pending → Type 0 where
    waits-nil : Waits []
    waits-before : {q : Acts} {k : List Context} {ps : List Pending} → Fits q k → Waits ps → Waits (before q k ∷ ps)
    waits-choice : {al : Alts} {o : Other} {q : Acts} {k : List Context} {ps : List Pending} (s : Selector) → Fits (choice s al o ▸ q) k → Waits ps → Waits (before_choice al o q k ∷ ps)

  waits-le : {ps : List Pending} → Waits ps → weigh_pending ps ≤ length ps * all_rules prog
  unfolding weigh_pending weighs
  waits-le waits-nil = omega arith
  waits-le (waits-before f w) = omega (arith, fits_le f, waits-le w)
  waits-le (waits-choice s f w) = omega (arith, fits_le f, waits-le w)

  -- i of t tokens read, with these calls pending
  pub record Sits (t i : ℕ) (ps : List Pending) : Type 0 where
    pub waits : Waits ps
    pub few : length ps ≤ 64
    pub within : i ≤ t

  -- a state that a walk comes to
  pub data Good (t : ℕ) : Own → Type 0 where
    good-on : {q : Acts} {k : List Context} {ps : List Pending} {io : Io} → Fits q k → Sits t io.read ps → Good t (on q k ps io)
    good-choosing : {v : ℕ} {al : Alts} {o : Other} {q : Acts} {k : List Context} {ps : List Pending} {io : Io} (s : Selector) → Fits (choice s al o ▸ q) k → Sits t io.read ps
        → Good t (choosing v al o q k ps io)
    good-over : {s : Own} → Over s → Good t s

-- From such a state it is over, reads or repairs within `most`

module _ (prog : List Rule) (ok : Accepted prog) (fin : Finishing prog) (tokens answers : List ℕ) where
  -- what follows a place takes, from the end of its list, from an exit, from a return
  record After (k : List Context) (ps : List Pending) (n : ℕ) : Type 0 where
    at_end : (io : Io) → EndsIn prog tokens answers n (on done k ps io)
    at_exit : (io : Io) → EndsIn prog tokens answers n (left k ps io)
    at_return : Back prog tokens answers n ps

  back_more : (n m : ℕ) (ps : List Pending) → n ≤ m → Back prog tokens answers n ps → Back prog tokens answers m ps
  back_more n m ps h r = (λ io. ends_more m h (r.0 io), λ v io. ends_more m h (r.1 v io))

  rule-costs : (q : Acts) (k : List Context) (ps : List Pending) (n r : ℕ) → Goal prog tokens answers (call_cost prog) q k ps n (to_call r)
  unfolding call_cost Goal
  rule-costs q k ps n r = any-rule prog ok fin tokens answers r

  after-goal : {k : List Context} {ps : List Pending} {n : ℕ} → After k ps n → (w : Way) → Goal prog tokens answers (call_cost prog) done k ps n w
  unfolding Goal
  after-goal a to_end = a.at_end
  after-goal a to_exit = a.at_exit
  after-goal a to_back = a.at_return.0
  after-goal a (to_give v) = a.at_return.1 v
  after-goal {k} {ps} {n} a (to_call r) = rule-costs done k ps n r

  list-ends : (q : Acts) (k : List Context) (ps : List Pending) (n : ℕ) → Tames prog q → After k ps n → (io : Io) → EndsIn prog tokens answers (weighs (call_cost prog) q + n) (on q k ps io)
  list-ends q k ps n o h = acts-ends prog tokens answers (call_cost prog) q k ps n o (λ w p. after-goal h w)

  -- the same from in front of what is left of the list
  next-goal : (q : Acts) {k : List Context} {ps : List Pending} {n : ℕ} → Tames prog q → After k ps n → (w : Way) → Goal prog tokens answers (call_cost prog) q k ps (weighs (call_cost prog) q + n) w
  unfolding Goal
  next-goal q {k} {ps} {n} o h to_end = list-ends q k ps n o h
  next-goal q o h to_exit = λ io. ends_more _ (omega arith) (h.at_exit io)
  next-goal q o h to_back = λ io. ends_more _ (omega arith) (h.at_return.0 io)
  next-goal q o h (to_give v) = λ io. ends_more _ (omega arith) (h.at_return.1 v io)
  next-goal q {k} {ps} {n} o h (to_call r) = rule-costs q k ps (weighs (call_cost prog) q + n) r

  choose-ends : (al : Alts) (o : Other) (q : Acts) (k : List Context) (ps : List Pending) (n : ℕ) → TameAlts prog al → TameOther prog o → Tames prog q → After k ps n → (v : ℕ) (io : Io)
      → EndsIn prog tokens answers (2 + weigh_alts (call_cost prog) al + weigh_other (call_cost prog) o + (weighs (call_cost prog) q + n)) (choosing v al o q k ps io)
  choose-ends al o q k ps n ca co cq h v =
      let m = weighs (call_cost prog) q + n in
      choosing-ends prog tokens answers (call_cost prog) m (weigh_alts (call_cost prog) al) (weigh_other (call_cost prog) o) v al o q k ps
      (alts-ends prog tokens answers (call_cost prog) al q k ps m v ca (λ w p. next-goal q cq h w))
      (λ e io. other-ends prog tokens answers (call_cost prog) o (by_operation 0) al q k ps m unlabelled co (else_opens opens_operation) (λ w p. next-goal q cq h w) io io)

  past : {q : Acts} {k : List Context} (ps : List Pending) (n : ℕ) → Fits prog q k → Back prog tokens answers n ps → After k ps (weigh_around prog k + n)
  unfolding left own ended weigh_around Tame
  past ps n (fits-rule o h) hb = record {
    at_end = λ io. ends_more _ (omega arith) (ends-step (hb.0 io));
    at_exit = λ io. ends-over over-nowhere;
    at_return = back_more n (1 + n) ps (omega arith) hb;
  }
  past ps n (fits-cycle {b = b} {r = r} {k = k} o h f) hb =
      let a = past ps n f hb in
      let t = fits-tame prog f in
      let m = weighs (call_cost prog) r + (weigh_around prog k + n) in
      record {
        at_end = λ io. ends_more _ (omega arith)
            (ends-step
            (acts-ends prog tokens answers (call_cost prog) b (in_cycle b r ∷ k) ps m t.0.1
            (cycle-goal prog tokens answers (call_cost prog) b r k ps m t.0.0 (λ w p. next-goal r t.1 a w)) io));
        at_exit = λ io. ends_more _ (omega arith) (list-ends r k ps (weigh_around prog k + n) t.1 a io);
        at_return = back_more n _ ps (omega arith) hb;
      }
  past ps n (fits-alternative {r = r} {k = k} a₁ o h f) hb =
      let a = past ps n f hb in
      record {
        at_end = λ io. ends_more _ (omega arith) (ends-step (list-ends r k ps (weigh_around prog k + n) (fits-tame prog f).1 a io));
        at_exit = λ io. ends_more _ (omega arith) (a.at_exit io);
        at_return = back_more n _ ps (omega arith) hb;
      }
  past ps n (fits-otherwise {r = r} {k = k} a₁ o h f) hb =
      let a = past ps n f hb in
      record {
        at_end = λ io. ends_more _ (omega arith) (ends-step (list-ends r k ps (weigh_around prog k + n) (fits-tame prog f).1 a io));
        at_exit = λ io. ends_more _ (omega arith) (a.at_exit io);
        at_return = back_more n _ ps (omega arith) hb;
      }

  waits-ends : {ps : List Pending} → Waits prog ps → Back prog tokens answers (weigh_pending prog ps) ps
  unfolding weigh_pending ended gave_back Tame
  waits-ends waits-nil = (λ io. ends-over over-stopped, λ v io. ends-over over-stopped)
  waits-ends (waits-before {q = q} {k = k} {ps = ps} f w) =
      let m = weigh_around prog k + weigh_pending prog ps in
      let h : (io : Io) → EndsIn prog tokens answers (weighs (call_cost prog) q + m) (on q k ps io) = list-ends q k ps m (fits-tame prog f) (past ps (weigh_pending prog ps) f (waits-ends w)) in
      (λ io. ends_more _ (omega arith) (h io), λ v io. ends_more _ (omega arith) (h io))
  waits-ends (waits-choice {al = al} {o = o} {q = q} {k = k} {ps = ps} s f w) =
      let t = fits-tame prog f in
      let m = weigh_around prog k + weigh_pending prog ps in
      (λ io. ends-over over-nowhere, λ v io. ends_more _ (omega arith) (choose-ends al o q k ps m t.0.1 t.0.2 t.1 (past ps (weigh_pending prog ps) f (waits-ends w)) v io))

  good-ends : {s : Own} → Good prog (length tokens) s → EndsIn prog tokens answers (most prog) s
  unfolding most weighs Tame
  good-ends (good-over x) = ends-over x
  good-ends (good-on {q = q} {k = k} {ps = ps} {io = io} f w) =
      ends_more _ (omega (arith, fits_le prog f, waits-le prog w.waits, mul-le-mul_right (all_rules prog) w.few))
      (list-ends q k ps (weigh_around prog k + weigh_pending prog ps) (fits-tame prog f) (past ps (weigh_pending prog ps) f (waits-ends w.waits)) io)
  good-ends (good-choosing {v = v} {al = al} {o = o} {q = q} {k = k} {ps = ps} {io = io} s f w) =
      let t = fits-tame prog f in
      ends_more _ (omega (arith, fits_le prog f, waits-le prog w.waits, mul-le-mul_right (all_rules prog) w.few))
      (choose-ends al o q k ps (weigh_around prog k + weigh_pending prog ps) t.0.1 t.0.2 t.1 (past ps (weigh_pending prog ps) f (waits-ends w.waits)) v io)

-- A step leads from such a state to such a state; it unreads nothing, and gives no allowance back

element-lt : (l : List ℕ) (i u : ℕ) → get_elem? l i ≡ some u → i < length l
element-lt [] i u h = let z : ◌≡◌ {A = ℕ} 0 1 = cc in absurd (omega arith)
element-lt (v ∷ l) zero u h = omega arith
element-lt (v ∷ l) (suc i) u h = omega (arith, element-lt l i u h)

pub given-lt : (tokens : List ℕ) (io : Io) (w : Option ℕ) → present tokens io ≡ w → given w ≡ true → io.read < length tokens
unfolding present
given-lt tokens io none e h = let z : ◌≡◌ {A = ℕ} 0 1 = cc in absurd (omega arith)
given-lt tokens io (some u) e h = element-lt tokens io.read u e

pub is-given : (t : ℕ) (w : Option ℕ) → is t w ≡ true → given w ≡ true
unfolding is
is-given t none h = h
is-given t (some u) h = refl

picked : (prog : List Rule) (u : ℕ) (al : Alts) (b : Acts) → TameAlts prog al → labelled u al ≡ some b → Tames prog b × (weighs (call_cost prog) b ≤ weigh_alts (call_cost prog) al)
unfolding labelled Tame weighs
picked prog u nil b o h = let z : ◌≡◌ {A = ℕ} 0 1 = cc in absurd (omega arith)
picked prog u (alternative ls d al) b o h = go (member u ls) (λ e. picked prog u al b o.1 e) h
  where
    go : (t : Bool) → (labelled u al ≡ some b → Tames prog b × (weighs (call_cost prog) b ≤ weigh_alts (call_cost prog) al)) → (if t then some d else labelled u al) ≡ some b
        → Tames prog b × (weighs (call_cost prog) b ≤ weighs (call_cost prog) d + weigh_alts (call_cost prog) al)
    go true ih e =
        let p : d ≡ b = cc in
        (rw p at o.0, rw p (omega arith))
    go false ih e = let r = ih e in (r.0, omega (arith, r.1))

module _ (prog : List Rule) (ok : Accepted prog) (fin : Finishing prog) (tokens answers : List ℕ) where
  -- from a state with so many tokens read and so much allowance
  record Kept (i a : ℕ) (s : Own) : Type 0 where
    good : Good prog (length tokens) s
    onward : i + left_of s ≤ read_of s + a

  abbrev Here : Io → List Pending → Type 0
  Here io ps = Sits prog (length tokens) io.read ps

  on-kept : {q : Acts} {k : List Context} {ps : List Pending} (io : Io) → Fits prog q k → Here io ps → Kept io.read io.allowance (on q k ps io)
  unfolding read_of left_of
  on-kept io f w = record { good = good-on f w; onward = le_refl _ }

  stopped-kept : (r : Reason) (io : Io) → Kept io.read io.allowance (stopped r io)
  unfolding read_of left_of
  stopped-kept r io = record { good = good-over over-stopped; onward = le_refl _ }

  nowhere-kept : (io : Io) → Kept io.read io.allowance (nowhere io)
  unfolding read_of left_of
  nowhere-kept io = record { good = good-over over-nowhere; onward = le_refl _ }

  left-kept : {q : Acts} {k : List Context} {ps : List Pending} (io : Io) → Fits prog q k → Here io ps → Kept io.read io.allowance (left k ps io)
  unfolding left
  left-kept io (fits-rule o h) w = nowhere-kept io
  left-kept io (fits-cycle o h f) w = on-kept io (fits-rest prog f) w
  left-kept io (fits-alternative a o h f) w = left-kept io f w
  left-kept io (fits-otherwise a o h f) w = left-kept io f w

  -- one call less is pending
  sits_on : {i : ℕ} {p : Pending} {ps : List Pending} → Sits prog (length tokens) i (p ∷ ps) → Waits prog ps → Sits prog (length tokens) i ps
  sits_on h w = record { waits = w; few = omega (arith, h.few); within = h.within }

  back-kept : (ps : List Pending) (io : Io) → Waits prog ps → Here io ps → Kept io.read io.allowance (ended [] ps io)
  unfolding ended
  back-kept ps io waits-nil h = stopped-kept _ io
  back-kept ps io (waits-before f w) h = on-kept io f (sits_on h w)
  back-kept ps io (waits-choice s f w) h = nowhere-kept io

  gave_kept : (v : ℕ) (ps : List Pending) (io : Io) → Waits prog ps → Here io ps → Kept io.read io.allowance (gave_back v ps io)
  unfolding gave_back read_of left_of
  gave_kept v ps io waits-nil h = stopped-kept _ io
  gave_kept v ps io (waits-before f w) h = on-kept io f (sits_on h w)
  gave_kept v ps io (waits-choice s f w) h = record { good = good-choosing s f (sits_on h w); onward = le_refl _ }

  ended-kept : {k : List Context} (ps : List Pending) (io : Io) → Fits prog done k → Here io ps → Kept io.read io.allowance (ended k ps io)
  unfolding ended Tame
  ended-kept ps io (fits-rule o h) w = back-kept ps io w.waits w
  ended-kept ps io (fits-cycle o h f) w = on-kept io (fits-cycle (fits-tame prog f).0.1 (le_refl _) f) w
  ended-kept ps io (fits-alternative a o h f) w = on-kept io (fits-rest prog f) w
  ended-kept ps io (fits-otherwise a o h f) w = on-kept io (fits-rest prog f) w

  -- with the present token read
  sits-took : {ps : List Pending} (io : Io) → Here io ps → given (present tokens io) ≡ true → Here (took io) ps
  unfolding took
  sits-took io w h = record { waits = w.waits; few = w.few; within = omega (arith, given-lt tokens io (present tokens io) refl h) }

  took-kept : {q : Acts} {k : List Context} {ps : List Pending} (io : Io) (r : Reason) (b : Bool) → (b ≡ true → given (present tokens io) ≡ true) → Fits prog q k → Here io ps
      → Kept io.read io.allowance (if b then on q k ps (took io) else stopped r io)
  unfolding took read_of left_of
  took-kept io r true h f w = record { good = good-on f (sits-took io w (h refl)); onward = omega arith }
  took-kept io r false h f w = stopped-kept r io

  -- with one repaired
  repaired-kept : {q : Acts} {k : List Context} {ps : List Pending} (t : ℕ) (io : Io) → Fits prog q k → Here io ps → Kept io.read io.allowance (on q k ps (repaired t io))
  unfolding repaired wrote spent read_of left_of
  repaired-kept t io f w = record { good = good-on f (record { waits = w.waits; few = w.few; within = w.within }); onward = omega arith }

  required-kept : {q : Acts} {k : List Context} {ps : List Pending} (t : ℕ) (io : Io) (b c : Bool) → (b ≡ true → given (present tokens io) ≡ true) → Fits prog q k → Here io ps
      → Kept io.read io.allowance (if b then on q k ps (took io) else if c then on q k ps (repaired t io) else stopped differs io)
  unfolding took read_of left_of
  required-kept t io true c h f w = record { good = good-on f (sits-took io w (h refl)); onward = omega arith }
  required-kept t io false true h f w = repaired-kept t io f w
  required-kept t io false false h f w = stopped-kept differs io

  -- an input choice with no label for the token and no otherwise
  first-kept : (al : Alts) (o : Other) (q : Acts) (k : List Context) (ps : List Pending) (io : Io) → Fits prog (choice by_token al o ▸ q) k → Here io ps
      → Kept io.read io.allowance (repaired_first al q k ps io)
  unfolding repaired_first Tame weighs
  first-kept nil o q k ps io f w = nowhere-kept io
  first-kept (alternative [] b al) o q k ps io f w = nowhere-kept io
  first-kept (alternative (t ∷ ls) b al) o q k ps io f w =
      let h : weighs (call_cost prog) b + 1 ≤ weigh (call_cost prog) (choice by_token (alternative (t ∷ ls) b al) o) = omega arith in
      repaired-kept t io (fits-alternative (choice by_token (alternative (t ∷ ls) b al) o) (fits-tame prog f).0.1.0 h f) w

  unmatched-kept : (al : Alts) (o : Other) (q : Acts) (k : List Context) (ps : List Pending) (io : Io) → Fits prog (choice by_token al o ▸ q) k → Here io ps
      → Kept io.read io.allowance (unmatched al q k ps io)
  unfolding unmatched
  unmatched-kept al o q k ps io f w = go (mends io)
    where
      go : (b : Bool) → Kept io.read io.allowance (if b then repaired_first al q k ps io else stopped differs io)
      go true = first-kept al o q k ps io f w
      go false = stopped-kept differs io

  -- a choice: io where no label is taken, io' where one is, x where there is neither a label nor otherwise
  other-kept : (s : Selector) (al : Alts) (o : Other) (q : Acts) (k : List Context) (ps : List Pending) (x : Own) (io io' : Io) → Kept io.read io.allowance x
      → Fits prog (choice s al o ▸ q) k → Here io ps → Kept io.read io.allowance (chosen none o q k ps x io io')
  unfolding chosen Tame weighs
  other-kept s al absent q k ps x io io' n f w = n
  other-kept s al (otherwise b) q k ps x io io' n f w =
      let h : weighs (call_cost prog) b + 1 ≤ weigh (call_cost prog) (choice s al (otherwise b)) = omega arith in
      on-kept io (fits-otherwise (choice s al (otherwise b)) (fits-tame prog f).0.2 h f) w

  chosen-kept : (s : Selector) (al : Alts) (o : Other) (q : Acts) (k : List Context) (ps : List Pending) (z : Own) (io io' : Io) (u : ℕ) (x : Option Acts) → Kept io.read io.allowance z → labelled u al ≡ x
      → io.read + io'.allowance ≤ io'.read + io.allowance → Fits prog (choice s al o ▸ q) k → Here io ps → Here io' ps
      → Kept io.read io.allowance (chosen x o q k ps z io io')
  unfolding chosen Tame weighs read_of left_of
  chosen-kept s al o q k ps z io io' u none n p y f w w' = other-kept s al o q k ps z io io' n f w
  chosen-kept s al o q k ps z io io' u (some b) n p y f w w' =
      let c = picked prog u al b (fits-tame prog f).0.1 p in
      let h : weighs (call_cost prog) b + 1 ≤ weigh (call_cost prog) (choice s al o) = omega (arith, c.1) in
      record { good = good-on (fits-alternative (choice s al o) c.0 h f) w'; onward = y }

  token-kept : (al : Alts) (o : Other) (q : Acts) (k : List Context) (ps : List Pending) (io : Io) (v : Option ℕ) → present tokens io ≡ v → Fits prog (choice by_token al o ▸ q) k → Here io ps
      → Kept io.read io.allowance (chosen (labelled_by v al) o q k ps (unmatched al q k ps io) io (took io))
  unfolding labelled_by took
  token-kept al o q k ps io none e f w = other-kept by_token al o q k ps (unmatched al q k ps io) io (took io) (unmatched-kept al o q k ps io f w) f w
  token-kept al o q k ps io (some u) e f w =
      chosen-kept by_token al o q k ps (unmatched al q k ps io) io (took io) u (labelled u al) (unmatched-kept al o q k ps io f w) refl (omega arith) f w (sits-took io w (rw e))

  asked-kept : (s : Selector) (al : Alts) (o : Other) (q : Acts) (k : List Context) (ps : List Pending) (io : Io) (e : Event) (a : Option ℕ) → Fits prog (choice s al o ▸ q) k → Here io ps
      → Kept io.read io.allowance (asked a e al o q k ps io)
  unfolding asked answered wrote read_of left_of
  asked-kept s al o q k ps io e none f w = stopped-kept _ io
  asked-kept s al o q k ps io e (some v) f w = record { good = good-choosing s f w; onward = le_refl _ }

  entered-kept : (r : ℕ) (p : Pending) (ps : List Pending) (io : Io) (b : Bool) → ltb (length ps) 64 ≡ b → r < length prog → Waits prog (p ∷ ps) → Here io ps
      → Kept io.read io.allowance (if b then on (body_of prog r) [] (p ∷ ps) io else stopped deep io)
  unfolding all_rules
  entered-kept r p ps io true e l x w =
      let h : weighs (call_cost prog) (body_of prog r) + 1 ≤ total (call_cost prog) prog + 1 = omega (arith, total-le (call_cost prog) prog r) in
      let few : length ps < 64 = ltb-true (length ps) 64 e in
      on-kept io (fits-rule (tame-rule prog ok fin r l) h) (record { waits = x; few = few; within = w.within })
  entered-kept r p ps io false e l x w = stopped-kept deep io

  plain-kept : (p : Plain) (q : Acts) (k : List Context) (ps : List Pending) (io : Io) → Fits prog (plain p ▸ q) k → Here io ps → Kept io.read io.allowance (own_plain prog tokens answers p q k ps io)
  unfolding own_plain entered Tame SmallPlain wrote
  plain-kept (match t) q k ps io f w = required-kept t io (is t (present tokens io)) (mends io) (is-given t (present tokens io)) (fits-rest prog f) w
  plain-kept any q k ps io f w = took-kept io missing (given (present tokens io)) (λ e. e) (fits-rest prog f) w
  plain-kept (emit t) q k ps io f w = on-kept (wrote _ io) (fits-rest prog f) w
  plain-kept (error t) q k ps io f w = on-kept (wrote _ io) (fits-rest prog f) w
  plain-kept exit q k ps io f w = left-kept io f w
  plain-kept (call r) q k ps io f w = entered-kept r (before q k) ps io (ltb (length ps) 64) refl (fits-tame prog f).0 (waits-before (fits-rest prog f) w.waits) w
  plain-kept back q k ps io f w = back-kept ps io w.waits w
  plain-kept (give v) q k ps io f w = gave_kept v ps io w.waits w
  plain-kept (update op) q k ps io f w = on-kept (wrote _ io) (fits-rest prog f) w
  plain-kept (update_with op v) q k ps io f w = on-kept (wrote _ io) (fits-rest prog f) w

  choice-kept : (s : Selector) (al : Alts) (o : Other) (q : Acts) (k : List Context) (ps : List Pending) (io : Io) → Fits prog (choice s al o ▸ q) k → Here io ps
      → Kept io.read io.allowance (own_choice prog tokens answers s al o q k ps io)
  unfolding own_choice entered Tame SmallSelector
  choice-kept by_token al o q k ps io f w = token-kept al o q k ps io (present tokens io) refl f w
  choice-kept (by_rule r) al o q k ps io f w = entered-kept r (before_choice al o q k) ps io (ltb (length ps) 64) refl (fits-tame prog f).0.0 (waits-choice (by_rule r) f w.waits) w
  choice-kept (by_operation op) al o q k ps io f w = asked-kept (by_operation op) al o q k ps io (operation op) (next_answer answers io) f w
  choice-kept (by_operation_with op v) al o q k ps io f w = asked-kept (by_operation_with op v) al o q k ps io (operation_with op v) (next_answer answers io) f w

  kept : {s : Own} → Good prog (length tokens) s → Kept (read_of s) (left_of s) (own prog tokens answers s)
  unfolding own read_of left_of Tame
  kept (good-over over-stopped) = stopped-kept _ _
  kept (good-over over-nowhere) = nowhere-kept _
  kept (good-choosing {v = v} {al = al} {o = o} {q = q} {k = k} {ps = ps} {io = io} s f w) = chosen-kept s al o q k ps (stopped unlabelled io) io io v (labelled v al) (stopped-kept unlabelled io) refl (le_refl _) f w w
  kept (good-on {q = done} {ps = ps} {io = io} f w) = ended-kept ps io f w
  kept (good-on {q = plain p ▸ q} {k = k} {ps = ps} {io = io} f w) = plain-kept p q k ps io f w
  kept (good-on {q = cycle b ▸ q} {io = io} f w) = on-kept io (fits-cycle (fits-tame prog f).0.1 (le_refl _) f) w
  kept (good-on {q = choice s al o ▸ q} {k = k} {ps = ps} {io = io} f w) = choice-kept s al o q k ps io f w

  -- the walk from s is over within m steps
  pub record OverBy (m : ℕ) (s : Own) : Type 0 where
    pub steps : ℕ
    pub few : steps ≤ m
    pub over : Over (owns prog tokens answers steps s)

  -- x: one more than the tokens and repairs left after the next one; n: steps until that
  inner : (x : ℕ) → ((s : Own) → Good prog (length tokens) s → length tokens + left_of s < read_of s + x → OverBy (most prog + x * (most prog + 1)) s)
      → {n : ℕ} {s : Own} → EndsIn prog tokens answers n s → Good prog (length tokens) s → length tokens + left_of s < read_of s + suc x → OverBy (n + suc x * (most prog + 1)) s
  unfolding owns
  inner x next (ends-over o) g h = record { steps = 0; few = omega arith; over = o }
  inner x next (ends_read {s = s} r) g h =
      let a = next (own prog tokens answers s) (kept g).good (omega arith) in
      record { steps = suc a.steps; few = omega (arith, a.few); over = a.over }
  inner x next (ends-step {s = s} e) g h =
      let k = kept g in
      let a = inner x next e k.good (omega (arith, k.onward)) in
      record { steps = suc a.steps; few = omega (arith, a.few); over = a.over }

  pub over_by : (x : ℕ) (s : Own) → Good prog (length tokens) s → length tokens + left_of s < read_of s + x → OverBy (most prog + x * (most prog + 1)) s
  unfolding owns read_of left_of
  over_by zero s (good-over o) h = record { steps = 0; few = omega arith; over = o }
  over_by zero s (good-on f w) h = absurd (omega (arith, w.within))
  over_by zero s (good-choosing c f w) h = absurd (omega (arith, w.within))
  over_by (suc x) s g h = inner x (λ s₁ g₁ h₁. over_by x s₁ g₁ h₁) (good-ends prog ok fin tokens answers g) g h

-- "fixed by the program and the number of tokens", and "now also depends on the allowance": whatever the tokens and the answers
pub finishes : (prog : List Rule) (tokens answers : List ℕ) (allowance : ℕ) → Accepted prog → Finishing prog
    → (j : ℕ) × (j ≤ budget prog (length tokens + allowance)) × Over (owns prog tokens answers j (own_start prog allowance))
unfolding budget own_start all_rules read_of left_of
finishes prog tokens answers allowance ok fin =
    let h : weighs (call_cost prog) (body_of prog 0) + 1 ≤ total (call_cost prog) prog + 1 = omega (arith, total-le (call_cost prog) prog 0) in
    let here : Sits prog (length tokens) 0 [] = record { waits = waits-nil; few = omega arith; within = omega arith } in
    let place : Good prog (length tokens) (own_start prog allowance) = good-on (fits-rule (tame-rule prog ok fin 0 ok.some_rule) h) here in
    let a = over_by prog ok fin tokens answers (length tokens + allowance + 1) (own_start prog allowance) place (omega arith) in
    (a.steps, a.few, a.over)
