-- Each step of the rules' own walk is none, one, two or three instructions of the table.
use Prim.Native.Nat.{ℕ, suc, ◌+◌, ◌-◌, ◌*◌, ◌<◌}
use native.Mathlib.Omega.{arith}
use mathlib.Core.Path.{◌≡◌, refl, sym, ap, ◌∙◌}
use mathlib.Core.Bool.{Bool, true, false, ◌||◌}
use mathlib.Core.Option.{Option, none, some}
use mathlib.Core.List.{List, [], ◌∷◌}
use lib.Dec.{eqb, ltb}
use lib.ListN.{length}
use borrow.Author.Tests.{eqb-true, eq-eqb}
use Rattle.base.specs.Bools.{or₁, or₂, both, same, split}
use Rattle.std.specs.Prelude.{if◌then◌else◌}
use Rattle.base.specs.Common.{member, given}
use Rattle.base.specs.Tree.{plain, cycle, choice, done, ◌▸◌, nil, alternative, absent}
use Rattle.events.specs.Events.{Event, operation, operation_with, repair, Reason, differs, missing, unlabelled, deep, Io, present, took, mends, spent, repaired, is}
use Rattle.machine.specs.Call.{writing}
use Rattle.machine.specs.Decode.{fetch, Instruction, invalid, jump, input, input_any, write, input_choice, call_rule, return, set_result, choice as by_result, end_choice, set_parameter, update as updates, update_with as updates_with, choose, choose_with, decode_at, decode}
use Rattle.machine.specs.Step.{stops, goes, tells, go_to, seek_by, landed, branched, input_choosing, calling, returning, requiring, exec, step}
use Rattle.machine.specs.Walk.{Walk, moved, with_returns, with_result, with_parameter, with_io, in_phase, with_answer}
use Rattle.ownwalk.specs.OwnWalk as rules
use Rattle.ownwalk.specs.OwnWalk.{Context, in_cycle, in_alternative, in_otherwise, Pending, Own, on, choosing, labelled, labelled_by, chosen, repaired_first, unmatched, ended, left, gave_back, next_answer, asked, entered, own_plain, own_choice, own}
use Rattle.program.specs.Accepted.{Calls, Labelled, NeedsLabel}
use Rattle.program.specs.Past.{plain_past, is_exit, exits, exits_all, exits_some, exits_other, past, past_all, past_some, past_other}
use Rattle.program.specs.Program.{Plain, match, any, emit, error, exit, call, update, update_with, by_token, by_rule, by_operation, by_operation_with, Act, Acts, Alts, Other, Rule, rule_of, body_of}
use Rattle.agreement.proofs.Single.{taking, done as doing, one_in, one}
use Rattle.agreement.proofs.Lay.{Entry, lookup, entries, Leads, leads-none, leads, Table, going_at, inside, LayPlain, lay-match, lay-any, lay-emit, lay-error, lay-exit, lay-call, lay-back, lay-give, lay-update, lay-update_with, Lay, lay-plain, lay-cycle, lay-token, lay-rule, lay-operation, lay-operation_with, Lays, lays-done, lays_cons, lay-choice, LayAlts, alts-nil, alts-cons, LayOther, other-input, other-end, other-is, At, at_place, End, end-rule, end-cycle, end-alternative, end-otherwise, Out, out-cycle, out-alternative, out-otherwise, AtChoice, at-choice, Pend, pend-nil, pend-last, pend-before, pend-choice, Rel, rel-on, rel-choosing, rel-stopped}

-- Steps that are no instruction: into a cycle, out of otherwise; with them this weight falls

mutual
  weigh : Act → ℕ
  weigh (plain p) = 0
  weigh (cycle b) = weighs b
  weigh (choice s q o) = 0

  weighs : Acts → ℕ
  weighs done = 1
  weighs (a ▸ q) = weigh a + weighs q + 1

weigh_contexts : List Context → ℕ
weigh_contexts [] = 0
weigh_contexts (in_cycle b r ∷ k) = 0
weigh_contexts (in_alternative r ∷ k) = 0
weigh_contexts (in_otherwise r ∷ k) = weighs r + weigh_contexts k

unfoldable pub weight : Own → ℕ
unfolding weighs weigh_contexts
weight (on q k ps io) = weighs q + weigh_contexts k
weight (choosing u al o q k ps io) = 0
weight (rules.stopped r io) = 0
weight (rules.nowhere io) = 0

-- the rules' own walk goes on, with this io
pub data Running : Own → Io → Type 0 where
  running-on : {q : Acts} {k : List Context} {ps : List Pending} {io : Io} → Running (on q k ps io) io
  running-choosing : {u : ℕ} {al : Alts} {o : Other} {q : Acts} {k : List Context} {ps : List Pending} {io : Io}
      → Running (choosing u al o q k ps io) io

-- Labels and entries

unfoldable pub lookup_by : Option ℕ → List Entry → Option ℕ
lookup_by none ps = none
lookup_by (some u) ps = lookup u ps

entries-lookup : (u : ℕ) (ls : List ℕ) (l : ℕ) (ps : List Entry)
    → lookup u (entries ls l ps) ≡ (if member u ls then some l else lookup u ps)
unfolding lookup entries
entries-lookup u [] l ps = refl
entries-lookup u (v ∷ ls) l ps = go (eqb u v) (entries-lookup u ls l ps)
  where
    go : (t : Bool) → lookup u (entries ls l ps) ≡ (if member u ls then some l else lookup u ps)
        → (if t then some l else lookup u (entries ls l ps)) ≡ (if (if t then true else member u ls) then some l else lookup u ps)
    go true h = refl
    go false h = h

-- the first label is not the token where no label is
pub missed : (w : Option ℕ) (v a : ℕ) (ps : List Entry) → lookup_by w ((v, a) ∷ ps) ≡ none → is v w ≡ false
unfolding lookup_by lookup is
missed none v a ps h = refl
missed (some u) v a ps h = same (eqb v u) (eqb u v) (λ e. eq-eqb u v (sym (eqb-true v u e))) (λ e. eq-eqb v u (sym (eqb-true u v e))) ∙ go (eqb u v) h
  where
    go : (t : Bool) → (if t then some a else lookup u ps) ≡ none → t ≡ false
    go true e = cc
    go false e = refl

-- what input_choice makes of the result
unfoldable pub or_else : Option ℕ → ℕ → ℕ
or_else none v = v
or_else (some u) v = u

-- The table

unfoldable pub good : Instruction → Bool
good invalid = false
good (jump y) = true
good (input t) = true
good input_any = true
good (write e) = true
good (input_choice c) = true
good (call_rule y) = true
good return = true
good (set_result u) = true
good (by_result c) = true
good end_choice = true
good (set_parameter u) = true
good (updates w) = true
good (updates_with w) = true
good (choose w) = true
good (choose_with w) = true

pub good-there : (T : List ℕ) (l : ℕ) → good (decode T l) ≡ true → given (fetch T l) ≡ true
unfolding decode decode_at good
good-there T l h = go (fetch T l) h
  where
    go : (f : Option ℕ) → good (decode_at l f (fetch T (suc l))) ≡ true → given f ≡ true
    go none e = e
    go (some w) e = refl

module _ (T tokens : List ℕ) where
  pub go_to-is : (y : ℕ) (w : Walk) → good (decode T y) ≡ true → go_to T tokens y w ≡ goes (moved y w)
  unfolding go_to
  go_to-is y w h = rw (good-there T y h)

  pub landed-is : (l x y d : ℕ) (taken w : Walk) → fetch T l ≡ some x → l - x ≡ y → landed T tokens (some l) d taken w ≡ go_to T tokens y taken
  unfolding landed
  landed-is l x y d taken w f e = rw (f, landed, e)

  pub seek-leads : (w : Option ℕ) {c : ℕ} {ps : List Entry} → Table T c ps → Leads T (seek_by T tokens w (length ps) (c + 1)) (lookup_by w ps)
  unfolding seek_by lookup_by
  seek-leads none t = leads-none
  seek-leads (some u) t = t.finds tokens u

  pub branched-is : (u : Option ℕ) {c : ℕ} {ps : List Entry} (taken w : Walk) → Table T c ps
      → branched T tokens (fetch T c) u c taken w ≡ landed T tokens (seek_by T tokens u (length ps) (c + 1)) (c + 1 + 2 * length ps) taken w
  unfolding branched
  branched-is u taken w t = rw (t.count, t.fits)

  pub input_choosing-is : (u : Option ℕ) {c : ℕ} {ps : List Entry} (l : ℕ) (rs : List ℕ) (w p : ℕ) (io : Io) → Table T c ps
      → input_choosing T tokens u c (going_at l rs w p io)
      ≡ landed T tokens (seek_by T tokens u (length ps) (c + 1)) (c + 1 + 2 * length ps)
      (going_at l rs (or_else u w) p (took io)) (going_at l rs (or_else u w) p io)
  unfolding input_choosing or_else with_result with_io seek_by landed
  input_choosing-is none l rs w p io t = branched-is none (going_at l rs w p io) (going_at l rs w p io) t
  input_choosing-is (some u) l rs w p io t = branched-is (some u) (going_at l rs u p (took io)) (going_at l rs u p io) t

-- Where the rules stand, the table has an instruction

module _ (T : List ℕ) (start : ℕ → ℕ) (prog : List Rule) where
  plain-good : {p : Plain} {v : Bool} {x l e : ℕ} → LayPlain T start prog v p x l e → good (decode T l) ≡ true
  unfolding good
  plain-good (lay-match d) = rw d
  plain-good (lay-any d) = rw d
  plain-good (lay-emit d) = rw d
  plain-good (lay-error d) = rw d
  plain-good (lay-exit d) = rw d
  plain-good (lay-call d c) = rw d
  plain-good (lay-back e d) = rw d
  plain-good (lay-give e d d₁) = rw d
  plain-good (lay-update d) = rw d
  plain-good (lay-update_with d d₁) = rw d

  mutual
    unfolding good past_all

    lay-good : (a : Act) {v : Bool} {x l e : ℕ} → Lay T start prog v a x l e → good (decode T l) ≡ true
    lay-good (plain p) (lay-plain h) = plain-good h
    lay-good (cycle b) (lay-cycle h d) = lays-good b h (λ g. rw d)
    lay-good (choice by_token q o) (lay-token nl d t hq ho) = rw d
    lay-good (choice (by_rule r) q o) (lay-rule d c h) = rw d
    lay-good (choice (by_operation op) q o) (lay-operation d h) = rw d
    lay-good (choice (by_operation_with op u) q o) (lay-operation_with d d₁ h) = rw d

    lays-good : (q : Acts) {v : Bool} {x l e : ℕ} → Lays T start prog v q x l e → (past_all q ≡ true → good (decode T e) ≡ true)
        → good (decode T l) ≡ true
    lays-good done lays-done g = g refl
    lays-good (a ▸ q) (lays_cons h hs) g = lay-good a h

  end-good : (k : List Context) {v : Bool} {e : ℕ} → End T start prog v k e → good (decode T e) ≡ true
  unfolding good
  end-good [] (end-rule z d) = rw d
  end-good (in_cycle b r ∷ k) (end-cycle h d o) = rw d
  end-good (in_alternative r ∷ k) (end-alternative d a) = rw d
  end-good (in_otherwise r ∷ k) (end-otherwise (at_place h hg hh)) = lays-good r h (λ g. end-good k (hg g))

  pub at-good : {v : Bool} {q : Acts} {k : List Context} {l : ℕ} → At T start prog v q k l → good (decode T l) ≡ true
  at-good (at_place {q = q} {k = k} h hg hh) = lays-good q h (λ g. end-good k (hg g))

  pub at-choice-good : {v : Bool} {q : Alts} {o : Other} {r : Acts} {k : List Context} {l : ℕ} → AtChoice T start prog v q o r k l
      → good (decode T l) ≡ true
  unfolding good
  at-choice-good (at-choice (lay-choice d t hq ho) hg hh) = rw d

  -- what follows an action that goes past; where an exit in it goes
  pub rest_at : {v : Bool} (a : Act) {q : Acts} {k : List Context} {x m e : ℕ} → Lays T start prog v q x m e
      → (past_all (a ▸ q) ≡ true → End T start prog v k e) → (exits_all (a ▸ q) ≡ true → Out T start prog v k x)
      → past a ≡ true → At T start prog v q k m
  unfolding past_all exits_all
  rest_at a {q} hs hg hh g = at_place hs (λ gs. hg (both (past a) (past_all q) g gs)) (λ h. hh (or₂ (exits a) (exits_all q) h))

  pub exit_out : {v : Bool} (a : Act) (q : Acts) {k : List Context} {x : ℕ} → (exits_all (a ▸ q) ≡ true → Out T start prog v k x)
      → exits a ≡ true → Out T start prog v k x
  unfolding exits_all
  exit_out a q hh g = hh (or₁ (exits a) (exits_all q) g)

  pub pend-length : {v : Bool} {ps : List Pending} {rs : List ℕ} → Pend T start prog v ps rs → length ps ≡ length rs
  pend-length pend-nil = refl
  pend-length pend-last = refl
  pend-length (pend-before a h) = ap suc (pend-length h)
  pend-length (pend-choice a h) = ap suc (pend-length h)

  -- where a choice goes: by the labels of the tree and by the entries of the table
  pub data Found (v : Bool) (x y : ℕ) (q : Alts) : Option Acts → Option ℕ → Type 0 where
    found_none : Found v x y q none none
    found : {b : Acts} {a m : ℕ} → Lays T start prog v b x a m → decode T m ≡ jump y → (past_all b ≡ true → past_some q ≡ true)
        → (exits_all b ≡ true → exits_some q ≡ true) → Found v x y q (some b) (some a)

  found-later : {v : Bool} {x y : ℕ} {ls : List ℕ} {b : Acts} {q : Alts} {f : Option Acts} {g : Option ℕ} → Found v x y q f g
      → Found v x y (alternative ls b q) f g
  unfolding past_some exits_some
  found-later found_none = found_none
  found-later {b = b} {q = q} (found h j i i') =
      found h j (λ g. or₂ (past_all b) (past_some q) (i g)) (λ g. or₂ (exits_all b) (exits_some q) (i' g))

  if-found : {v : Bool} {x y : ℕ} {q : Alts} (t : Bool) {b b' : Option Acts} {a a' : Option ℕ} → Found v x y q b a → Found v x y q b' a'
      → Found v x y q (if t then b else b') (if t then a else a')
  if-found true h h' = h
  if-found false h h' = h'

  pub alts-found : (u : ℕ) {v : Bool} {q : Alts} {x y l : ℕ} {ps : List Entry} → LayAlts T start prog v q x y l ps
      → Found v x y q (labelled u q) (lookup u ps)
  unfolding labelled lookup past_some exits_some
  alts-found u alts-nil = found_none
  alts-found u (alts-cons {ls = ls} {b = b} {q = q} {l = l} {ps = ps} h d t) =
      rw (entries-lookup u ls l ps) (if-found (member u ls)
      (found h d (λ g. or₁ (past_all b) (past_some q) g) (λ g. or₁ (exits_all b) (exits_some q) g)) (found-later (alts-found u t)))

  pub by-found : (w : Option ℕ) {v : Bool} {q : Alts} {x y l : ℕ} {ps : List Entry} → LayAlts T start prog v q x y l ps
      → Found v x y q (labelled_by w q) (lookup_by w ps)
  unfolding labelled_by lookup_by
  by-found none h = found_none
  by-found (some u) h = alts-found u h

  -- the first alternative of an input choice without otherwise, and the first entry of its table
  data First (v : Bool) (x y : ℕ) : Alts → List Entry → Type 0 where
    first : {u : ℕ} {ls : List ℕ} {b : Acts} {q : Alts} {a m : ℕ} {ps : List Entry} → Lays T start prog v b x a m → decode T m ≡ jump y
        → First v x y (alternative (u ∷ ls) b q) ((u, a) ∷ ps)

  alts-first : {v : Bool} {q : Alts} {x y l : ℕ} {ps : List Entry} → Labelled q → LayAlts T start prog v q x y l ps → First v x y q ps
  unfolding Labelled entries
  alts-first {q = nil} ok h = absurd ok
  alts-first {q = alternative [] b q} ok h = absurd ok
  alts-first {q = alternative (u ∷ ls) b q} ok (alts-cons h d t) = first h d

-- Single steps

module _ (T : List ℕ) (start : ℕ → ℕ) (prog : List Rule) (tokens answers : List ℕ) where
  go_to-rel : {v : Bool} {q : Acts} {k : List Context} {ps : List Pending} {y : ℕ} {rs : List ℕ} (io : Io) (l w p : ℕ) (m : Walk)
      → At T start prog v q k y → Pend T start prog v ps rs
      → Rel T start prog (on q k ps io) (doing T tokens answers (go_to T tokens y (going_at l rs w p io)) m)
  unfolding doing moved
  go_to-rel {y = y} {rs = rs} io l w p m a h = rw (go_to-is T tokens y (going_at l rs w p io) (at-good T start prog a)) (rel-on a h)

  test-rel : (r : Reason) (t : Bool) {v : Bool} {q : Acts} {k : List Context} {ps : List Pending} {y : ℕ} {rs : List ℕ}
      (io io₀ : Io) (l w p : ℕ) (rs₀ : List ℕ) → inside r ≡ true → At T start prog v q k y → Pend T start prog v ps rs
      → Rel T start prog (if t then on q k ps io else rules.stopped r io₀)
      (doing T tokens answers (if t then goes (going_at y rs w p io) else stops r) (going_at l rs₀ w p io₀))
  unfolding doing in_phase
  test-rel r true io io₀ l w p rs₀ z a h = rel-on a h
  test-rel r false io io₀ l w p rs₀ z a h = rel-stopped z

  -- a required token: there, repaired, or neither
  required-rel : (t : ℕ) (b : Bool) {v : Bool} {q : Acts} {k : List Context} {ps : List Pending} {rs : List ℕ} (io : Io) (l w p : ℕ)
      → At T start prog v q k (l + 2) → Pend T start prog v ps rs
      → Rel T start prog (if b then on q k ps (took io) else if mends io then on q k ps (repaired t io) else rules.stopped differs io)
      (doing T tokens answers (requiring T tokens t b (going_at l rs w p io)) (going_at l rs w p io))
  unfolding requiring doing writing moved with_io in_phase repaired
  required-rel t true io l w p a h = rel-on a h
  required-rel t false {v} {q} {k} {ps} {rs} io l w p a h = go (mends io)
    where
      go : (b : Bool) → Rel T start prog (if b then on q k ps (repaired t io) else rules.stopped differs io)
          (doing T tokens answers (if b then tells (repair t) (going_at (l + 2) rs w p (spent io)) else stops differs) (going_at l rs w p io))
      go true = rel-on a h
      go false = rel-stopped refl

  left-rel : {v : Bool} {k : List Context} {x : ℕ} {ps : List Pending} {rs : List ℕ} (io : Io) (l w p : ℕ) (m : Walk)
      → Out T start prog v k x → Pend T start prog v ps rs
      → Rel T start prog (left k ps io) (doing T tokens answers (go_to T tokens x (going_at l rs w p io)) m)
  unfolding left
  left-rel io l w p m (out-cycle a) h = go_to-rel io l w p m a h
  left-rel io l w p m (out-alternative o) h = left-rel io l w p m o h
  left-rel io l w p m (out-otherwise o) h = left-rel io l w p m o h

  return-rel : {ps : List Pending} {rs : List ℕ} (io : Io) (l w p : ℕ) → Pend T start prog false ps rs
      → Rel T start prog (ended [] ps io) (doing T tokens answers (returning T tokens rs (going_at l rs w p io)) (going_at l rs w p io))
  unfolding ended returning doing in_phase with_returns
  return-rel io l w p pend-nil = rel-stopped refl
  return-rel io l w p (pend-before {r = r} {rs = rs} a h) = go_to-rel io l w p (going_at l (r ∷ rs) w p io) a h

  give-rel : {ps : List Pending} {rs : List ℕ} (io : Io) (l w p : ℕ) → Pend T start prog true ps rs
      → Rel T start prog (gave_back w ps io) (doing T tokens answers (returning T tokens rs (going_at l rs w p io)) (going_at l rs w p io))
  unfolding gave_back returning doing with_returns moved in_phase
  give-rel io l w p pend-last = rel-stopped refl
  give-rel io l w p (pend-choice {r = r} {rs = rs} a h) =
      rw (go_to-is T tokens r (going_at l rs w p io) (at-choice-good T start prog a)) (rel-choosing a h)

  asked-rel : (x : Option ℕ) {v : Bool} {al : Alts} {o : Other} {q : Acts} {k : List Context} {ps : List Pending} {rs : List ℕ}
      (e : Event) (io : Io) (l w p : ℕ)
      → AtChoice T start prog v al o q k (l + 1) → Pend T start prog v ps rs
      → Rel T start prog (asked x e al o q k ps io) (taking x e (going_at (l + 1) rs w p io) (going_at l rs w p io))
  unfolding asked taking with_answer writing in_phase with_result with_io
  asked-rel none e io l w p c h = rel-stopped refl
  asked-rel (some u) e io l w p c h = rel-choosing c h

  module _ (laid : (r : ℕ) → r < length prog → At T start prog (rule_of prog r).valued (body_of prog r) [] (start r)) where
    -- the next step of the own walk s is no, one or two instructions of the walk m
    pub data Move (s : Own) (m : Walk) : Type 0 where
      no_step : Rel T start prog (own prog tokens answers s) m → weight (own prog tokens answers s) < weight s → Move s m
      one-step : Rel T start prog (own prog tokens answers s) (one T tokens answers m) → Move s m
      two_steps : (io : Io) (l : ℕ) (rs : List ℕ) (w p : ℕ) → Running s io → one T tokens answers m ≡ going_at l rs w p io
          → Rel T start prog (own prog tokens answers s) (one T tokens answers (going_at l rs w p io)) → Move s m
      -- an input choice without otherwise that repairs: the choice, the repaired input, the jump back; after two the rules have written
      three-steps : (io : Io) (l : ℕ) (rs : List ℕ) (w p : ℕ) (io' : Io) (l' : ℕ) → Running s io → one T tokens answers m ≡ going_at l rs w p io
          → Running (own prog tokens answers s) io' → one T tokens answers (going_at l rs w p io) ≡ going_at l' rs w p io'
          → Rel T start prog (own prog tokens answers s) (one T tokens answers (going_at l' rs w p io')) → Move s m

    -- at a choice: i: of an input choice; f, t: where the tree and the table lead; z: the location of the distance; fall: where neither
    -- a label nor otherwise is
    choice-move : (i : Bool) {v : Bool} {al : Alts} {f : Option Acts} {t z : Option ℕ} {q : Acts} {k : List Context} {pps : List Pending} {o : Other}
        {ps : List Entry} {x d e : ℕ} {rs : List ℕ} (fallen : Own) (io io' : Io) (l w p : ℕ) (s : Own) (m : Walk)
        → own prog tokens answers s ≡ chosen f o q k pps fallen io io'
        → one T tokens answers m ≡ doing T tokens answers (landed T tokens z d (going_at l rs w p io') (going_at l rs w p io)) m
        → (t ≡ none → o ≡ absent → own prog tokens answers s ≡ fallen → LayOther T start prog v i absent x ps d e
        → one T tokens answers m ≡ doing T tokens answers (go_to T tokens d (going_at l rs w p io)) m → Move s m)
        → Leads T z t → Found T start prog v x e al f t → LayOther T start prog v i o x ps d e
        → ((past_some al || past_other o) ≡ true → At T start prog v q k e) → ((exits_some al || exits_other o) ≡ true → Out T start prog v k x)
        → Pend T start prog v pps rs → Move s m
    unfolding landed chosen past_other exits_other
    choice-move i {al = al} {o = o} {d = d} {rs = rs} fallen io io' l w p s m os st fall (leads {l = c} {x = n} {y = y} f e) (found h j a b) ho hg hh hp =
        one-step (rw (os, st, landed-is T tokens c n y d (going_at l rs w p io') (going_at l rs w p io) f e) (go_to-rel io' l w p m (at_place h
        (λ g. end-alternative j (hg (or₁ (past_some al) (past_other o) (a g))))
        (λ g. out-alternative (hh (or₁ (exits_some al) (exits_other o) (b g))))) hp))
    choice-move i {al = al} fallen io io' l w p s m os st fall leads-none found_none (other-is {b = b} h) hg hh hp =
        one-step (rw (os, st) (go_to-rel io l w p m (at_place h
        (λ g. end-otherwise (hg (or₂ (past_some al) (past_all b) g)))
        (λ g. out-otherwise (hh (or₂ (exits_some al) (exits_all b) g)))) hp))
    choice-move true fallen io io' l w p s m os st fall leads-none found_none (other-input j j₁) hg hh hp = fall refl refl os (other-input j j₁) st
    choice-move false fallen io io' l w p s m os st fall leads-none found_none (other-end j) hg hh hp = fall refl refl os (other-end j) st

    -- a choice by the result with no label for it and no otherwise
    value-fall : {v : Bool} {ps : List Entry} {x d e : ℕ} (rs : List ℕ) (io : Io) (l w p : ℕ) (s : Own) (m : Walk) → Running s io
        → own prog tokens answers s ≡ rules.stopped unlabelled io → LayOther T start prog v false absent x ps d e
        → one T tokens answers m ≡ doing T tokens answers (go_to T tokens d (going_at l rs w p io)) m → Move s m
    unfolding doing one one_in step exec in_phase moved good
    value-fall {d = d} rs io l w p s m rn os (other-end j) st =
        two_steps io d rs w p rn (rw (st, go_to-is T tokens d (going_at l rs w p io) (rw j))) (rw (os, j) (rel-stopped refl))

    -- an input choice with no label for the token and no otherwise: the default's input stops or is repaired, and then it goes back to the
    -- first alternative
    token-fall : {v : Bool} {al : Alts} {ps : List Entry} {x d e : ℕ} {q : Acts} {k : List Context} {pps : List Pending} {rs : List ℕ}
        (io : Io) (l w p : ℕ) (s : Own) (m : Walk) → Running s io
        → own prog tokens answers s ≡ unmatched al q k pps io → lookup_by (present tokens io) ps ≡ none → First T start prog v x e al ps
        → LayOther T start prog v true absent x ps d e
        → (past_some al ≡ true → At T start prog v q k e) → (exits_some al ≡ true → Out T start prog v k x)
        → Pend T start prog v pps rs
        → one T tokens answers m ≡ doing T tokens answers (go_to T tokens d (going_at l rs w p io)) m → Move s m
    unfolding unmatched repaired_first doing one one_in step exec requiring writing with_io in_phase moved good past_some exits_some repaired
    token-fall {d = d} {q = q} {k = k} {pps = pps} {rs = rs} io l w p s m rn os lk (first {u = u} {ls = ls} {b = b} {q = al} {a = a} {ps = ps} h j₂) (other-input j j₁) hg hh hp st =
        split (mends io)
        (λ t.
        let o : own prog tokens answers s ≡ on b (in_alternative q ∷ k) pps (repaired u io) = os ∙ rw t in
        three-steps io d rs w p (repaired u io) (d + 2) rn (rw (st, go_to-is T tokens d (going_at l rs w p io) (rw j)))
        (rw o running-on) (rw (j, missed (present tokens io) u a ps lk, t))
        (rw (o, j₁) (go_to-rel (repaired u io) (d + 2) w p _ (at_place h
        (λ g. end-alternative j₂ (hg (or₁ (past_all b) (past_some al) g)))
        (λ g. out-alternative (hh (or₁ (exits_all b) (exits_some al) g)))) hp)))
        (λ f.
        let o : own prog tokens answers s ≡ rules.stopped differs io = os ∙ rw f in
        two_steps io d rs w p rn (rw (st, go_to-is T tokens d (going_at l rs w p io) (rw j)))
        (rw (o, j, missed (present tokens io) u a ps lk, f) (rel-stopped refl)))

    end-move : {v : Bool} {k : List Context} {ps : List Pending} {e : ℕ} {rs : List ℕ} (io : Io) (w p : ℕ)
        → End T start prog v k e → Pend T start prog v ps rs → Move (on done k ps io) (going_at e rs w p io)
    unfolding own ended one one_in step exec weight
    end-move {e = e} io w p (end-rule z d) h = one-step (rw d (return-rel io e w p (rw z at h)))
    end-move {e = e} io w p (end-cycle b d o) h = one-step (rw d (go_to-rel io e w p _ (at_place b (λ x. end-cycle b d o) o) h))
    end-move {e = e} io w p (end-alternative d a) h = one-step (rw d (go_to-rel io e w p _ a h))
    end-move io w p (end-otherwise a) h = no_step (rel-on a h) (omega arith)

    entered-rel : {v : Bool} {r : ℕ} {pl : Pending} {ps : List Pending} {rs : List ℕ} (io : Io) (l w p : ℕ) → Calls prog r v → length ps ≡ length rs
        → Pend T start prog v (pl ∷ ps) ((l + 2) ∷ rs)
        → Rel T start prog (entered prog tokens answers r pl ps io)
        (doing T tokens answers (calling T tokens (start r) (going_at l rs w p io)) (going_at l rs w p io))
    unfolding entered calling moved with_returns
    entered-rel {r = r} {rs = rs} io l w p c e h =
        let a = laid r c.there in
        rw (good-there T (start r) (at-good T start prog a), e) (test-rel deep (ltb (length rs) 64) io io l w p rs refl (rw c.sort at a) h)

    -- before a plain action
    plain-move : {v : Bool} {a : Plain} {q : Acts} {k : List Context} {ps : List Pending} {x l m e : ℕ} {rs : List ℕ} (io : Io) (w p : ℕ)
        → LayPlain T start prog v a x l m → Lays T start prog v q x m e → (past_all (plain a ▸ q) ≡ true → End T start prog v k e)
        → (exits_all (plain a ▸ q) ≡ true → Out T start prog v k x) → Pend T start prog v ps rs → Move (on (plain a ▸ q) k ps io) (going_at l rs w p io)
    unfolding own own_plain one one_in step exec doing writing moved with_io with_result with_parameter past plain_past exits is_exit
    plain-move {l = l} {rs = rs} io w p (lay-match {t = t} d) hs hg hh h =
        one-step (rw d (required-rel t (is t (present tokens io)) io l w p (rest_at T start prog (plain (match t)) hs hg hh refl) h))
    plain-move {l = l} {rs = rs} io w p (lay-any d) hs hg hh h =
        one-step (rw d (test-rel missing (given (present tokens io)) (took io) io l w p rs refl (rest_at T start prog (plain any) hs hg hh refl) h))
    plain-move io w p (lay-emit {t = t} d) hs hg hh h = one-step (rw d (rel-on (rest_at T start prog (plain (emit t)) hs hg hh refl) h))
    plain-move io w p (lay-error {t = t} d) hs hg hh h = one-step (rw d (rel-on (rest_at T start prog (plain (error t)) hs hg hh refl) h))
    plain-move {q = q} {l = l} io w p (lay-exit d) hs hg hh h = one-step (rw d (left-rel io l w p _ (exit_out T start prog (plain exit) q hh refl) h))
    plain-move {l = l} io w p (lay-call {r = r} d c) hs hg hh h =
        one-step (rw d (entered-rel io l w p c (pend-length T start prog h) (pend-before (rest_at T start prog (plain (call r)) hs hg hh refl) h)))
    plain-move {l = l} io w p (lay-back z d) hs hg hh h = one-step (rw d (return-rel io l w p (rw z at h)))
    plain-move {l = l} {rs = rs} io w p (lay-give {u = u} z d d₁) hs hg hh h =
        two_steps io (l + 2) rs u p running-on (rw d) (rw d₁ (give-rel io (l + 2) u p (rw z at h)))
    plain-move io w p (lay-update {op = op} d) hs hg hh h = one-step (rw d (rel-on (rest_at T start prog (plain (update op)) hs hg hh refl) h))
    plain-move {l = l} {rs = rs} io w p (lay-update_with {op = op} {u = u} d d₁) hs hg hh h =
        two_steps io (l + 2) rs w u running-on (rw d) (rw d₁ (rel-on (rest_at T start prog (plain (update_with op u)) hs hg hh refl) h))

    pub move : {s : Own} {m : Walk} → Rel T start prog s m → Move s m
    unfolding own own_choice next_answer one one_in step exec doing moved with_parameter weight lookup_by past exits past_all NeedsLabel past_other exits_other
    move (rel-stopped z) = one-step (rel-stopped z)
    move (rel-choosing {io = io} {l = l} {w = w} {p = p} {rs = rs} (at-choice (lay-choice d t a o) hg hh) h) =
        choice-move false (rules.stopped unlabelled io) io io l w p _ _ refl
        (rw (d, branched-is T tokens (some w) (going_at l rs w p io) (going_at l rs w p io) t))
        (λ t₁ e os lo st. value-fall rs io l w p _ _ running-choosing os lo st) (seek-leads T tokens (some w) t) (alts-found T start prog w a) o hg hh h
    move (rel-on {io = io} {w = w} {p = p} (at_place lays-done hg hh) h) = end-move io w p (hg refl) h
    move (rel-on {io = io} {w = w} {p = p} (at_place (lays_cons (lay-plain a) hs) hg hh) h) = plain-move io w p a hs hg hh h
    move (rel-on (at_place (lays_cons (lay-cycle {b = b} d₁ d) hs) hg hh) h) =
        no_step (rel-on (at_place d₁
        (λ x. end-cycle d₁ d (λ y. out-cycle (rest_at T start prog (cycle b) hs hg hh y)))
        (λ y. out-cycle (rest_at T start prog (cycle b) hs hg hh y))) h) (omega arith)
    move (rel-on {io = io} {l = l} {w = w} {p = p} {rs = rs} (at_place (lays_cons {q = r} (lay-token {q = al} {o = ot} nl d t a o) hs) hg hh) h) =
        let here = choice by_token al ot in
        let now = present tokens io in
        choice-move true (unmatched al r _ _ io) io (took io) l (or_else now w) p _ _ refl (rw (d, input_choosing-is T tokens now l rs w p io t))
        (λ t₁ e os lo st. token-fall io l (or_else now w) p _ _ running-on os t₁ (alts-first T start prog (rw e at nl) a) lo
        (λ x. rest_at T start prog here hs hg hh (or₁ (past_some al) (past_other ot) x))
        (λ x. exit_out T start prog here r hh (or₁ (exits_some al) (exits_other ot) x)) h st)
        (seek-leads T tokens now t) (by-found T start prog now a) o
        (λ x. rest_at T start prog here hs hg hh x) (λ x. exit_out T start prog here r hh x) h
    move (rel-on {io = io} {l = l} {w = w} {p = p} (at_place (lays_cons {q = q} (lay-rule {r = r} {q = al} {o = o} d c a) hs) hg hh) h) =
        let here = choice (by_rule r) al o in
        one-step (rw d (entered-rel io l w p c (pend-length T start prog h)
        (pend-choice (at-choice a (λ x. rest_at T start prog here hs hg hh x) (λ x. exit_out T start prog here q hh x)) h)))
    move (rel-on {io = io} {l = l} {w = w} {p = p} (at_place (lays_cons {q = q} (lay-operation {op = op} {q = al} {o = o} d a) hs) hg hh) h) =
        let here = choice (by_operation op) al o in
        one-step (rw d (asked-rel (next_answer answers io) (operation op) io l w p
        (at-choice a (λ x. rest_at T start prog here hs hg hh x) (λ x. exit_out T start prog here q hh x)) h))
    move (rel-on {io = io} {l = l} {w = w} {rs = rs} (at_place (lays_cons {q = q} (lay-operation_with {op = op} {u = u} {q = al} {o = o} d d₁ a) hs) hg hh) h) =
        let here = choice (by_operation_with op u) al o in
        two_steps io (l + 2) rs w u running-on (rw d)
        (rw d₁ (asked-rel (next_answer answers io) (operation_with op u) io (l + 2) w u
        (at-choice a (λ x. rest_at T start prog here hs hg hh x) (λ x. exit_out T start prog here q hh x)) h))
