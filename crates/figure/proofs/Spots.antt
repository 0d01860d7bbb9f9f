-- In the table of an accepted program every location that is reachable from a rule's start, without entering calls, is a place of a rule;
-- every call there goes to a rule's start.
use Prim.Native.Nat.{ℕ, ◌+◌, ◌*◌, ◌≤◌, ◌<◌}
use mathlib.Core.Path.{◌≡◌, refl, sym}
use mathlib.Core.Bool.{Bool, true, false, ◌||◌}
use mathlib.Core.Option.{Option, some}
use mathlib.Core.List.{List, [], ◌∷◌, ◌++◌, append-nil}
use lib.Dec.{eqb}
use lib.ListN.{length}
use borrow.Author.Tests.{eq-eqb, leb-true}
use Rattle.agreement.proofs.Laid.{program-laid}
use Rattle.agreement.proofs.Lay as lay
use Rattle.agreement.proofs.Lay.{Entry, lookup, Table, LayPlain, lay-match, lay-any, lay-emit, lay-error, lay-exit, lay-call, lay-back, lay-give, lay-update, lay-update_with, Lay, lay-plain, lay-cycle, lay-token, lay-rule, lay-operation, lay-operation_with, Lays, lays-done, lays_cons, lay-choice, LayAlts, LayOther, other-input, other-end, other-is, At, at_place, End, end-rule, end-cycle, end-alternative, end-otherwise, Out, out-cycle, out-alternative, out-otherwise, AtChoice, at-choice}
use Rattle.agreement.proofs.Sim.{rest_at, exit_out, Found, found, alts-found, by-found, seek-leads}
use Rattle.base.specs.Bools.{or₁, or₂}
use Rattle.std.specs.Prelude.{if◌then◌else◌}
use Rattle.base.specs.Tree.{plain, cycle, choice, done, ◌▸◌}
use Rattle.machine.specs.Decode.{fetch, Instruction, invalid, jump, input, input_any, write, input_choice, call_rule, return, set_result, choice as by_result, end_choice, set_parameter, update as updates, update_with as updates_with, choose, choose_with, decode}
use Rattle.ownwalk.specs.OwnWalk.{Context, in_cycle, in_alternative, in_otherwise, labelled}
use Rattle.program.specs.Accepted.{Accepted, Calls}
use Rattle.program.specs.Past.{plain_past, is_exit, exits, exits_all, exits_some, exits_other, past, past_all, past_some, past_other}
use Rattle.program.specs.Program.{Plain, match, any, emit, error, exit, call, update, update_with, by_token, by_rule, by_operation, by_operation_with, Act, Acts, Alts, Other, Rule, rule_of, body_of}
use Rattle.program.proofs.Places.{place-first}
use Rattle.program.specs.Table.{place, table}
use Rattle.figure.specs.Figure.{back_from, way_among, way_of, way_out, Leads, leads_jump, leads_input, leads_any, leads_write, leads_token, leads_call, leads_result, leads_choice, leads_parameter, leads_update, leads_update_with, leads_choose, leads_choose_with, Reached, at_start, further}
use Rattle.figure.specs.Promise.{RuleStart, rule_start}
use Rattle.figure.proofs.Frames.{Called, called-first, called-from}
use Rattle.figure.proofs.Steps.{labels-seek}

-- what the next instruction does: a choice goes by the result that was made, a return gives the value that was set, or there is no result
pub data Stage : Type 0 where
  plainly : Stage
  choosing : Stage
  giving : Stage

-- a choice goes by the value of a rule that gives one
abbrev pub behind_call : Bool → Stage
behind_call false = plainly
behind_call true = choosing

-- a return: of a value that was set, in a rule that gives one
pub data Returns : Bool → Stage → Type 0 where
  returns-value : Returns true giving
  returns_plain : Returns false plainly

module _ (T : List ℕ) (start : ℕ → ℕ) (prog : List Rule) where
  pub data IsStart (s : ℕ) : Type 0 where
    is_start : (r : ℕ) → r < length prog → s ≡ start r → IsStart s

  -- a place of a rule, v being whether it gives a value: before actions, before a choice by the result, or in the midst of the words of an action
  pub data Spot (v : Bool) : Stage → ℕ → Type 0 where
    spot-at : {l : ℕ} {q : Acts} {k : List Context} → At T start prog v q k l → Spot v plainly l
    spot-choice : {l : ℕ} {al : Alts} {o : Other} {q : Acts} {k : List Context} → AtChoice T start prog v al o q k l → Spot v choosing l
    spot-return : {l : ℕ} → v ≡ true → decode T l ≡ return → Spot v giving l
    spot-end : {l : ℕ} → decode T l ≡ end_choice → Spot v plainly l
    spot-update : {l op : ℕ} → decode T l ≡ updates_with op → Spot v plainly (l + 1) → Spot v plainly l
    spot-choose : {l op : ℕ} → decode T l ≡ choose_with op → Spot v choosing (l + 1) → Spot v plainly l
    spot-jump : {l m : ℕ} → decode T l ≡ jump m → Spot v plainly m → Spot v plainly l
    spot-input : {l u m : ℕ} → decode T l ≡ input u → decode T (l + 2) ≡ jump m → Spot v plainly m → Spot v plainly l

  -- a call of a rule that starts at s, and then the place l
  pub record CallsThen (v : Bool) (s l : ℕ) : Type 0 where
    pub rule : ℕ
    pub valued : Bool
    pub calls : Calls prog rule valued
    pub is_rule : s ≡ start rule
    pub next : Spot v (behind_call valued) l

  -- the choice table at c lies inside
  pub record Inside (c : ℕ) : Type 0 where
    pub labels : ℕ
    pub is_count : fetch T c ≡ some labels
    pub fits : c + 2 * labels ≤ length T

  -- the instruction i at l leads to places only, and calls a rule; its choice table lies inside; a value is set before a return
  unfoldable pub Fine : Bool → Stage → ℕ → Instruction → Type 0
  Fine v g l invalid = ⊥
  Fine v g l (jump m) = (g ≡ plainly) × Spot v plainly m
  Fine v g l (input t) = (g ≡ plainly) × Spot v plainly (l + 2)
  Fine v g l input_any = (g ≡ plainly) × Spot v plainly (l + 1)
  Fine v g l (write e) = (g ≡ plainly) × Spot v plainly (l + 2)
  Fine v g l (input_choice c) = (g ≡ plainly) × Inside c × ((w : Option ℕ) → Spot v plainly (way_out T c w))
  Fine v g l (call_rule s) = (g ≡ plainly) × CallsThen v s (l + 2)
  Fine v g l return = Returns v g
  Fine v g l (set_result u) = (g ≡ plainly) × (decode T (l + 2) ≡ return) × Spot v giving (l + 2)
  Fine v g l (by_result c) = (g ≡ choosing) × Inside c × ((w : Option ℕ) → Spot v plainly (way_out T c w))
  Fine v g l end_choice = g ≡ plainly
  Fine v g l (set_parameter u) = (g ≡ plainly) × Spot v plainly (l + 2)
  Fine v g l (updates op) = (g ≡ plainly) × Spot v plainly (l + 1)
  Fine v g l (updates_with op) = (g ≡ plainly) × Spot v plainly (l + 1)
  Fine v g l (choose op) = (g ≡ plainly) × Spot v choosing (l + 1)
  Fine v g l (choose_with op) = (g ≡ plainly) × Spot v choosing (l + 1)

  -- a place at some stage
  pub record Place (v : Bool) (l : ℕ) : Type 0 where
    pub stage : Stage
    pub spot : Spot v stage l

  pub placed : {v : Bool} {g : Stage} {l : ℕ} → Spot v g l → Place v l
  placed {g = g} s = record { stage = g; spot = s }

  leads-fine : {v : Bool} (g : Stage) {l m : ℕ} {i : Instruction} → Fine v g l i → Leads T l i m → Place v m
  unfolding Fine
  leads-fine g f leads_jump = placed f.1
  leads-fine g f leads_input = placed f.1
  leads-fine g f leads_any = placed f.1
  leads-fine g f leads_write = placed f.1
  leads-fine g f (leads_token w) = placed (f.2 w)
  leads-fine g f leads_call = placed f.1.next
  leads-fine g f leads_result = placed f.2
  leads-fine g f (leads_choice w) = placed (f.2 w)
  leads-fine g f leads_parameter = placed f.1
  leads-fine g f leads_update = placed f.1
  leads-fine g f leads_update_with = placed f.1
  leads-fine g f leads_choose = placed f.1
  leads-fine g f leads_choose_with = placed f.1

  -- Choices

  -- what is behind a choice: at the end of an alternative that goes past, and at an exit in one
  data Behind (v : Bool) (al : Alts) (o : Other) (q : Acts) (k : List Context) (x e : ℕ) : Type 0 where
    behind : ((past_some al || past_other o) ≡ true → At T start prog v q k e) → ((exits_some al || exits_other o) ≡ true → Out T start prog v k x) → Behind v al o q k x e

  alternative-spot : {v : Bool} {al : Alts} {o : Other} {q : Acts} {k : List Context} {x e y : ℕ} {f : Option Acts} → Behind v al o q k x e → Found T start prog v x e al f (some y) → Spot v plainly y
  alternative-spot {al = al} {o = o} (behind hg hh) (found h j a b) =
      spot-at (at_place h (λ g. end-alternative j (hg (or₁ (past_some al) (past_other o) (a g)))) (λ g. out-alternative (hh (or₁ (exits_some al) (exits_other o) (b g)))))

  default-spot : {v i : Bool} {al : Alts} {o : Other} {q : Acts} {k : List Context} {ps : List Entry} {x e l n : ℕ} → LayOther T start prog v i o x ps l e → LayAlts T start prog v al x e n ps
      → Behind v al o q k x e → Spot v plainly l
  unfolding lookup past_other exits_other
  default-spot {al = al} (other-input {u = u} {a = a} {ps = ps} d j) ha hb =
      let z : Found T start prog _ _ _ al (labelled u al) (if eqb u u then some a else lookup u ps) = alts-found T start prog u ha in
      let y : Found T start prog _ _ _ al (labelled u al) (some a) = rw (eq-eqb u u refl) at z in
      spot-input d j (alternative-spot hb y)
  default-spot (other-end d) ha hb = spot-end d
  default-spot {al = al} (other-is {b = b} h) ha (behind hg hh) =
      spot-at (at_place h (λ g. end-otherwise (hg (or₂ (past_some al) (past_all b) g))) (λ g. out-otherwise (hh (or₂ (exits_some al) (exits_all b) g))))

  way-spot : {v i : Bool} {al : Alts} {o : Other} {q : Acts} {k : List Context} {ps : List Entry} {x e m : ℕ} {f : Option Acts} {s t : Option ℕ} (c n : ℕ) → lay.Leads T s t
      → Found T start prog v x e al f t → LayAlts T start prog v al x e m ps → LayOther T start prog v i o x ps (c + 1 + 2 * n) e → Behind v al o q k x e → Spot v plainly (way_among T c n s)
  unfolding way_among back_from
  way-spot c n lay.leads-none h ha ho hb = default-spot ho ha hb
  way-spot c n (lay.leads {y = y} f z) h ha ho hb = rw (f, z) (alternative-spot hb h)

  ways-spot : {v i : Bool} {al : Alts} {o : Other} {q : Acts} {k : List Context} {ps : List Entry} {x e m : ℕ} (c : ℕ) → Table T c ps → LayAlts T start prog v al x e m ps
      → LayOther T start prog v i o x ps (c + 1 + 2 * length ps) e → Behind v al o q k x e → (w : Option ℕ) → Spot v plainly (way_out T c w)
  unfolding way_out way_of
  ways-spot {ps = ps} c t ha ho hb w =
      rw (t.count, ← labels-seek T [] [] w (length ps) (c + 1)) (way-spot c (length ps) (seek-leads T [] w t) (by-found T start prog w ha) ha ho hb)

  table-inside : {c : ℕ} {ps : List Entry} → Table T c ps → Inside c
  table-inside {c} {ps} t = record { labels = length ps; is_count = t.count; fits = leb-true (c + 2 * length ps) (length T) t.fits }

  choice-fine : {v : Bool} {al : Alts} {o : Other} {q : Acts} {k : List Context} {l : ℕ} → AtChoice T start prog v al o q k l → Fine v choosing l (decode T l)
  unfolding Fine
  choice-fine (at-choice (lay-choice {c = c} d t ha ho) hg hh) = rw d (refl, table-inside t, ways-spot c t ha ho (behind hg hh))

  -- Places

  out-spot : {v : Bool} {k : List Context} {x : ℕ} → Out T start prog v k x → Spot v plainly x
  out-spot (out-cycle a) = spot-at a
  out-spot (out-alternative o) = out-spot o
  out-spot (out-otherwise o) = out-spot o

  plain-fine : {v : Bool} {p : Plain} {q : Acts} {k : List Context} {x l m e : ℕ} → LayPlain T start prog v p x l m → Lays T start prog v q x m e
      → (past_all (plain p ▸ q) ≡ true → End T start prog v k e) → (exits_all (plain p ▸ q) ≡ true → Out T start prog v k x) → Fine v plainly l (decode T l)
  unfolding Fine past plain_past exits is_exit
  plain-fine (lay-match {t = t} d) hs hg hh = rw d (refl, spot-at (rest_at T start prog (plain (match t)) hs hg hh refl))
  plain-fine (lay-any d) hs hg hh = rw d (refl, spot-at (rest_at T start prog (plain any) hs hg hh refl))
  plain-fine (lay-emit {t = t} d) hs hg hh = rw d (refl, spot-at (rest_at T start prog (plain (emit t)) hs hg hh refl))
  plain-fine (lay-error {t = t} d) hs hg hh = rw d (refl, spot-at (rest_at T start prog (plain (error t)) hs hg hh refl))
  plain-fine {q = q} (lay-exit d) hs hg hh = rw d (refl, out-spot (exit_out T start prog (plain exit) q hh refl))
  plain-fine (lay-call {r = r} d c) hs hg hh = rw d (refl, record { rule = r; valued = false; calls = c; is_rule = refl; next = spot-at (rest_at T start prog (plain (call r)) hs hg hh refl) })
  plain-fine (lay-back z d) hs hg hh = rw (d, z) returns_plain
  plain-fine (lay-give z d d₁) hs hg hh = rw d (refl, d₁, spot-return z d₁)
  plain-fine (lay-update {op = op} d) hs hg hh = rw d (refl, spot-at (rest_at T start prog (plain (update op)) hs hg hh refl))
  plain-fine (lay-update_with {op = op} {u = u} d d₁) hs hg hh = rw d (refl, spot-update d₁ (spot-at (rest_at T start prog (plain (update_with op u)) hs hg hh refl)))

  end-cycle-fine : {v : Bool} {b r : Acts} {k : List Context} {e : ℕ} → End T start prog v (in_cycle b r ∷ k) e → Fine v plainly e (decode T e)
  unfolding Fine
  end-cycle-fine (end-cycle h d o) = rw d (refl, spot-at (at_place h (λ x. end-cycle h d o) o))

  mutual
    unfolding Fine past exits past_all

    act-fine : (a : Act) {v : Bool} {q : Acts} {k : List Context} {x l m e : ℕ} → Lay T start prog v a x l m → Lays T start prog v q x m e
        → (past_all (a ▸ q) ≡ true → End T start prog v k e) → (exits_all (a ▸ q) ≡ true → Out T start prog v k x) → Fine v plainly l (decode T l)
    act-fine (plain p) (lay-plain h) hs hg hh = plain-fine h hs hg hh
    act-fine (cycle b) {v = v} {q = q} {k = k} (lay-cycle {m = m} h d) hs hg hh =
        let o : exits_all b ≡ true → Out T start prog v (in_cycle b q ∷ k) (m + 2) = λ y. out-cycle (rest_at T start prog (cycle b) hs hg hh y) in
        acts-fine b h (λ g. end-cycle-fine (end-cycle h d o)) (λ g. end-cycle h d o) o
    act-fine (choice by_token al ot) {q = q} (lay-token {c = c} nl d t ha ho) hs hg hh =
        let here = choice by_token al ot in
        rw d (refl, table-inside t, ways-spot c t ha ho (behind (λ x. rest_at T start prog here hs hg hh x) (λ x. exit_out T start prog here q hh x)))
    act-fine (choice (by_rule r) al ot) {q = q} (lay-rule d c a) hs hg hh =
        let here = choice (by_rule r) al ot in
        rw d (refl, record { rule = r; valued = true; calls = c; is_rule = refl; next = spot-choice (at-choice a (λ x. rest_at T start prog here hs hg hh x) (λ x. exit_out T start prog here q hh x)) })
    act-fine (choice (by_operation op) al ot) {q = q} (lay-operation d a) hs hg hh =
        let here = choice (by_operation op) al ot in
        rw d (refl, spot-choice (at-choice a (λ x. rest_at T start prog here hs hg hh x) (λ x. exit_out T start prog here q hh x)))
    act-fine (choice (by_operation_with op u) al ot) {q = q} (lay-operation_with d d₁ a) hs hg hh =
        let here = choice (by_operation_with op u) al ot in
        rw d (refl, spot-choose d₁ (spot-choice (at-choice a (λ x. rest_at T start prog here hs hg hh x) (λ x. exit_out T start prog here q hh x))))

    -- he: where they end, if they come there
    acts-fine : (q : Acts) {v : Bool} {k : List Context} {x l e : ℕ} → Lays T start prog v q x l e → (past_all q ≡ true → Fine v plainly e (decode T e))
        → (past_all q ≡ true → End T start prog v k e) → (exits_all q ≡ true → Out T start prog v k x) → Fine v plainly l (decode T l)
    acts-fine done lays-done he hg hh = he refl
    acts-fine (a ▸ q) (lays_cons h hs) he hg hh = act-fine a h hs hg hh

  end-fine : (k : List Context) {v : Bool} {e : ℕ} → End T start prog v k e → Fine v plainly e (decode T e)
  unfolding Fine
  end-fine [] (end-rule z d) = rw (d, z) returns_plain
  end-fine (in_cycle b r ∷ k) h = end-cycle-fine h
  end-fine (in_alternative r ∷ k) (end-alternative d a) = rw d (refl, spot-at a)
  end-fine (in_otherwise r ∷ k) (end-otherwise (at_place h hg hh)) = acts-fine r h (λ g. end-fine k (hg g)) hg hh

  pub spot-fine : {v : Bool} {g : Stage} {l : ℕ} → Spot v g l → Fine v g l (decode T l)
  unfolding Fine
  spot-fine (spot-at (at_place {q = q} {k = k} h hg hh)) = acts-fine q h (λ g. end-fine k (hg g)) hg hh
  spot-fine (spot-choice a) = choice-fine a
  spot-fine (spot-return z d) = rw (d, z) returns-value
  spot-fine (spot-end d) = rw d refl
  spot-fine (spot-update d s) = rw d (refl, s)
  spot-fine (spot-choose d s) = rw d (refl, s)
  spot-fine (spot-jump d s) = rw d (refl, s)
  spot-fine (spot-input d j s) = rw d (refl, spot-jump j s)

  pub reached-spot : {v : Bool} {s l : ℕ} → Place v s → Reached T s l → Place v l
  reached-spot h at_start = h
  reached-spot h (further r c) = let p = reached-spot h r in leads-fine p.stage (spot-fine p.spot) c

  module _ (laid : (r : ℕ) → r < length prog → At T start prog (rule_of prog r).valued (body_of prog r) [] (start r)) where
    pub start-spot : {s : ℕ} (r : ℕ) → r < length prog → s ≡ start r → Spot (rule_of prog r).valued plainly s
    start-spot r l e = rw e (spot-at (laid r l))

    -- what is reached from the start of rule r is a place of it
    pub reached-place : {s l : ℕ} (r : ℕ) → r < length prog → s ≡ start r → Reached T s l → Place (rule_of prog r).valued l
    reached-place r l e h = reached-spot (placed (start-spot r l e)) h

    call-start : {v : Bool} {l m : ℕ} → Place v l → decode T l ≡ call_rule m → IsStart m
    unfolding Fine
    call-start {v} {l} {m} h d =
        let f : Fine v h.stage l (call_rule m) = rw d at (spot-fine h.spot) in
        is_start f.1.rule f.1.calls.there f.1.is_rule

    pub reached-call : {s l m : ℕ} → IsStart s → Reached T s l → decode T l ≡ call_rule m → IsStart m
    reached-call (is_start q b e) r d = call-start (reached-place q b e r) d

    -- what is called is a rule
    pub called-start : {s : ℕ} → IsStart 1 → Called T s → IsStart s
    called-start h called-first = h
    called-start h (called-from c r d) = reached-call (called-start h c) r d

-- the rules of a program, in its table

pub as-rule : {prog : List Rule} {T : List ℕ} {s : ℕ} → IsStart T (place 1 prog) prog s → RuleStart prog s
as-rule (is_start r l e) = rule_start r l e

pub called-rule : (prog : List Rule) (more : List ℕ) → Accepted prog → {s : ℕ} → Called (table prog ++ more) s → RuleStart prog s
called-rule prog more a c =
    let first : 1 ≡ place 1 prog 0 = sym (place-first 1 prog) in
    as-rule (called-start (table prog ++ more) (place 1 prog) prog (program-laid prog more a) (is_start 0 a.some_rule first) c)

-- what is called from a reachable place of a rule is a rule
pub reached-rule : (prog : List Rule) (more : List ℕ) → Accepted prog → {s l m : ℕ} → RuleStart prog s → Reached (table prog ++ more) s l → decode (table prog ++ more) l ≡ call_rule m → RuleStart prog m
reached-rule prog more a {s} (rule_start r l e) h d = as-rule (reached-call (table prog ++ more) (place 1 prog) prog (program-laid prog more a) (is_start r l e) h d)

pub program-laid-here : (prog : List Rule) → Accepted prog → (r : ℕ) → r < length prog → At (table prog) (place 1 prog) prog (rule_of prog r).valued (body_of prog r) [] (place 1 prog r)
program-laid-here prog a r h = rw (append-nil (table prog)) at (program-laid prog [] a r h)

-- what is reachable from the start of rule r is a place of that rule
pub rule-place : (prog : List Rule) → Accepted prog → {s l : ℕ} (r : ℕ) → r < length prog → s ≡ place 1 prog r → Reached (table prog) s l → Place (table prog) (place 1 prog) prog (rule_of prog r).valued l
rule-place prog a r b e h = reached-place (table prog) (place 1 prog) prog (program-laid-here prog a) r b e h
