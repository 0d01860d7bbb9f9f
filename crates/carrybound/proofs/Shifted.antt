-- What is reachable in a rule by the rule's own words is what is reachable in the table, so many words later. W has the words of one rule from location 1 on, with `mk` for the
-- locations of the rules that it calls; in the table T the rule begins `base` words later (crate carry, proofs/Placed.antt).
use mathlib.Core.Bool.{Bool, true}
use mathlib.Core.List.{List, []}
use mathlib.Core.Option.{Option, none, some}
use mathlib.Core.Path.{◌≡◌, refl, subst}
use native.Mathlib.Omega.{arith}
use Prim.Native.Nat.{ℕ, ◌+◌, ◌*◌}
use lib.ListN.{length}
use borrow.Author.Tests.{eq-eqb}
use Rattle.agreement.proofs.Lay as lay
use Rattle.agreement.proofs.Lay.{Entry, lookup, Table}
use Rattle.agreement.proofs.Sim.{lookup_by, good, good-there, seek-leads}
use Rattle.base.specs.Common.{given}
use Rattle.carry.proofs.Placed.{later, Place, Choice}
use Rattle.carry.proofs.Ready.{Default, default-place, default-input, default-end, Branch, Ready, r-jump, r-input, r-any, r-write, r-call, r-rule, r-return, r-give, r-update, r-update_with, r-token, r-operation, r-operation_with, ready, ReadyChoice, ready-choice}
use Rattle.carry.proofs.Track.{length-later, ahead, by-later}
use Rattle.events.specs.Events.{Event}
use Rattle.figure.proofs.Steps.{labels-seek}
use Rattle.figure.specs.Figure.{back_from, way_among, way_of, way_out, Leads, leads_jump, leads_input, leads_any, leads_write, leads_token, leads_call, leads_result, leads_choice, leads_parameter, leads_update, leads_update_with, leads_choose, leads_choose_with, Reached, at_start, further}
use Rattle.machine.specs.Decode.{fetch, Instruction, jump, input, input_any, write, input_choice, call_rule, return, set_result, choice as by_result, end_choice, set_parameter, update as updates, update_with as updates_with, choose, choose_with, decode}
use Rattle.program.specs.Program.{Rule}

-- Choice tables

-- the location that a choice with its choice table at c leads to: of its label, or behind its n labels
unfoldable lands_at : ℕ → ℕ → Option ℕ → ℕ
lands_at c n none = c + 1 + 2 * n
lands_at c n (some y) = y

way-is : (S : List ℕ) (c : ℕ) (ps : List Entry) → Table S c ps → (v : Option ℕ) → way_out S c v ≡ lands_at c (length ps) (lookup_by v ps)
unfolding way_out way_of way_among back_from lands_at
way-is S c ps t v = rw (t.count, ← labels-seek S [] [] v (length ps) (c + 1)) (go (seek-leads S [] v t))
  where
    go : {z x : Option ℕ} → lay.Leads S z x → way_among S c (length ps) z ≡ lands_at c (length ps) x
    go lay.leads-none = refl
    go (lay.leads f e) = rw f e

module _ (prog : List Rule) (T W : List ℕ) (start mk : ℕ → ℕ) (base : ℕ) (rule : Rule) where
  abbrev P : ℕ → Type 0
  P = Place prog T W start mk base rule

  abbrev C : ℕ → Type 0
  C = Choice prog T W start mk base rule

  abbrev B : Bool → ℕ → Type 0
  B = Branch prog T W start mk base rule

  -- where an instruction stands in W and in T: at a place of the rule, or in the midst of the words of an action
  pub data Spot : ℕ → Type 0 where
    at_place : {o : ℕ} → P o → Spot o
    at-choice : {o : ℕ} → C o → Spot o
    at_return : {o : ℕ} → decode W o ≡ return → decode T (base + o) ≡ return → Spot o
    at-update : {o op : ℕ} → decode W o ≡ updates_with op → decode T (base + o) ≡ updates_with op → P (o + 1) → Spot o
    at-choose : {o op : ℕ} → decode W o ≡ choose_with op → decode T (base + o) ≡ choose_with op → C (o + 1) → Spot o
    at_end : {o : ℕ} → decode W o ≡ end_choice → decode T (base + o) ≡ end_choice → Spot o
    at-jump : {o y : ℕ} → decode W o ≡ jump y → decode T (base + o) ≡ jump (base + y) → P y → Spot o
    at-input : {o u : ℕ} → decode W o ≡ input u → decode T (base + o) ≡ input u → Spot (o + 2) → Spot o

  -- the instruction at o in W, and the one at base + o in T: they lead to the same spots
  pub data Alike (o : ℕ) : Instruction → Instruction → Type 0 where
    a-jump : {y : ℕ} → Spot y → Alike o (jump y) (jump (base + y))
    a-input : {t : ℕ} → Spot (o + 2) → Alike o (input t) (input t)
    a-any : Spot (o + 1) → Alike o input_any input_any
    a_write : {e : Event} → Spot (o + 2) → Alike o (write e) (write e)
    a-token : {c : ℕ} → ((v : Option ℕ) → Spot (way_out W c v)) → ((v : Option ℕ) → way_out T (base + c) v ≡ base + way_out W c v) → Alike o (input_choice c) (input_choice (base + c))
    a_call : {y s : ℕ} → Spot (o + 2) → Alike o (call_rule y) (call_rule s)
    a-return : Alike o return return
    a-result : {u : ℕ} → Spot (o + 2) → Alike o (set_result u) (set_result u)
    a-choice : {c : ℕ} → ((v : Option ℕ) → Spot (way_out W c v)) → ((v : Option ℕ) → way_out T (base + c) v ≡ base + way_out W c v) → Alike o (by_result c) (by_result (base + c))
    a-end : Alike o end_choice end_choice
    a-parameter : {u : ℕ} → Spot (o + 2) → Alike o (set_parameter u) (set_parameter u)
    a-update : {op : ℕ} → Spot (o + 1) → Alike o (updates op) (updates op)
    a-update_with : {op : ℕ} → Spot (o + 1) → Alike o (updates_with op) (updates_with op)
    a-choose : {op : ℕ} → Spot (o + 1) → Alike o (choose op) (choose op)
    a-choose_with : {op : ℕ} → Spot (o + 1) → Alike o (choose_with op) (choose_with op)

  -- Choices

  default-spot : {i : Bool} {d : ℕ} {ps : List Entry} → Default prog T W start mk base rule i d ps → ((u y : ℕ) → lookup u ps ≡ some y → P y) → Spot d
  unfolding lookup
  default-spot (default-place p) g = at_place p
  default-spot (default-input {u = u} {a = a} dw dt dw₂ dt₂) g = at-input dw dt (at-jump dw₂ dt₂ (g u a (rw (eq-eqb u u refl))))
  default-spot (default-end dw dt) g = at_end dw dt

  ways : {i : Bool} (c : ℕ) (b : B i c) (v : Option ℕ) → Spot (way_out W c v)
  unfolding lands_at lookup_by
  ways c b v = rw (way-is W c b.ps b.local v) (go v)
    where
      by : (u : ℕ) (x : Option ℕ) → lookup u b.ps ≡ x → Spot (lands_at c (length b.ps) x)
      by u none e = default-spot b.default b.goes
      by u (some y) e = at_place (b.goes u y e)

      go : (v : Option ℕ) → Spot (lands_at c (length b.ps) (lookup_by v b.ps))
      go none = default-spot b.default b.goes
      go (some u) = by u (lookup u b.ps) refl

  ways-later : {i : Bool} (c : ℕ) (b : B i c) (v : Option ℕ) → way_out T (base + c) v ≡ base + way_out W c v
  unfolding lands_at ahead
  ways-later c b v =
      rw (way-is T (base + c) (later base b.ps) b.global v, way-is W c b.ps b.local v, by-later base v b.ps, length-later base b.ps) (go (lookup_by v b.ps))
    where
      go : (x : Option ℕ) → lands_at (base + c) (length b.ps) (ahead base x) ≡ base + lands_at c (length b.ps) x
      go none = omega arith
      go (some y) = refl

  -- Instructions

  ready-alike : {o : ℕ} → Ready prog T W start mk base rule o → Alike o (decode W o) (decode T (base + o))
  ready-alike (r-jump d t p) = rw (d, t) (a-jump (at_place p))
  ready-alike (r-input d t p) = rw (d, t) (a-input (at_place p))
  ready-alike (r-any d t p) = rw (d, t) (a-any (at_place p))
  ready-alike (r-write d t p) = rw (d, t) (a_write (at_place p))
  ready-alike (r-call d t c p) = rw (d, t) (a_call (at_place p))
  ready-alike (r-rule d t c p) = rw (d, t) (a_call (at-choice p))
  ready-alike (r-return z d t) = rw (d, t) a-return
  ready-alike (r-give z d t d₂ t₂) = rw (d, t) (a-result (at_return d₂ t₂))
  ready-alike (r-update d t p) = rw (d, t) (a-update (at_place p))
  ready-alike (r-update_with d t d₂ t₂ p) = rw (d, t) (a-parameter (at-update d₂ t₂ p))
  ready-alike (r-token {c = c} d t b) = rw (d, t) (a-token (ways c b) (ways-later c b))
  ready-alike (r-operation d t p) = rw (d, t) (a-choose (at-choice p))
  ready-alike (r-operation_with d t d₂ t₂ p) = rw (d, t) (a-parameter (at-choose d₂ t₂ p))

  choice-alike : {o : ℕ} → ReadyChoice prog T W start mk base rule o → Alike o (decode W o) (decode T (base + o))
  choice-alike x = rw (x.local, x.global) (a-choice (ways x.table_at x.branches) (ways-later x.table_at x.branches))

  alike : {o : ℕ} → Spot o → Alike o (decode W o) (decode T (base + o))
  alike (at_place p) = ready-alike (ready prog T W start mk base rule p)
  alike (at-choice c) = choice-alike (ready-choice prog T W start mk base rule c)
  alike (at_return d t) = rw (d, t) a-return
  alike (at-update d t p) = rw (d, t) (a-update_with (at_place p))
  alike (at-choose d t c) = rw (d, t) (a-choose_with (at-choice c))
  alike (at_end d t) = rw (d, t) a-end
  alike (at-jump d t p) = rw (d, t) (a-jump (at_place p))
  alike (at-input d t s) = rw (d, t) (a-input s)

  alike-good : {o : ℕ} {i j : Instruction} → Alike o i j → good i ≡ true
  unfolding good
  alike-good (a-jump s) = refl
  alike-good (a-input s) = refl
  alike-good (a-any s) = refl
  alike-good (a_write s) = refl
  alike-good (a-token s e) = refl
  alike-good (a_call s) = refl
  alike-good a-return = refl
  alike-good (a-result s) = refl
  alike-good (a-choice s e) = refl
  alike-good a-end = refl
  alike-good (a-parameter s) = refl
  alike-good (a-update s) = refl
  alike-good (a-update_with s) = refl
  alike-good (a-choose s) = refl
  alike-good (a-choose_with s) = refl

  -- a spot is a word of the rule
  pub spot-inside : (o : ℕ) → Spot o → given (fetch W o) ≡ true
  spot-inside o s = good-there W o (alike-good (alike s))

  -- Ways

  -- from T to W
  record Down (o : ℕ) (i : Instruction) (m : ℕ) : Type 0 where
    to : ℕ
    is : m ≡ base + to
    way : Leads W o i to
    spot : Spot to

  near : (b o n : ℕ) → b + o + n ≡ b + (o + n)
  near b o n = omega arith

  down-jump : {o y m : ℕ} → Spot y → Leads T (base + o) (jump (base + y)) m → Down o (jump y) m
  down-jump {o} {y} s leads_jump = record { to = y; is = refl; way = leads_jump; spot = s }

  down-token : {o c m : ℕ} → ((v : Option ℕ) → Spot (way_out W c v)) → ((v : Option ℕ) → way_out T (base + c) v ≡ base + way_out W c v) → Leads T (base + o) (input_choice (base + c)) m → Down o (input_choice c) m
  down-token {o} {c} s e (leads_token v) = record { to = way_out W c v; is = e v; way = leads_token v; spot = s v }

  down-choice : {o c m : ℕ} → ((v : Option ℕ) → Spot (way_out W c v)) → ((v : Option ℕ) → way_out T (base + c) v ≡ base + way_out W c v) → Leads T (base + o) (by_result (base + c)) m → Down o (by_result c) m
  down-choice {o} {c} s e (leads_choice v) = record { to = way_out W c v; is = e v; way = leads_choice v; spot = s v }

  down_step : {o m : ℕ} {i j : Instruction} → Alike o i j → Leads T (base + o) j m → Down o i m
  down_step (a-jump s) w = down-jump s w
  down_step {o} (a-input s) leads_input = record { to = o + 2; is = near base o 2; way = leads_input; spot = s }
  down_step {o} (a-any s) leads_any = record { to = o + 1; is = near base o 1; way = leads_any; spot = s }
  down_step {o} (a_write s) leads_write = record { to = o + 2; is = near base o 2; way = leads_write; spot = s }
  down_step (a-token s e) w = down-token s e w
  down_step {o} (a_call s) leads_call = record { to = o + 2; is = near base o 2; way = leads_call; spot = s }
  down_step {o} (a-result s) leads_result = record { to = o + 2; is = near base o 2; way = leads_result; spot = s }
  down_step (a-choice s e) w = down-choice s e w
  down_step {o} (a-parameter s) leads_parameter = record { to = o + 2; is = near base o 2; way = leads_parameter; spot = s }
  down_step {o} (a-update s) leads_update = record { to = o + 1; is = near base o 1; way = leads_update; spot = s }
  down_step {o} (a-update_with s) leads_update_with = record { to = o + 1; is = near base o 1; way = leads_update_with; spot = s }
  down_step {o} (a-choose s) leads_choose = record { to = o + 1; is = near base o 1; way = leads_choose; spot = s }
  down_step {o} (a-choose_with s) leads_choose_with = record { to = o + 1; is = near base o 1; way = leads_choose_with; spot = s }
  down_step a-return w = elim w [ ]
  down_step a-end w = elim w [ ]

  -- from W to T
  record Up (o : ℕ) (j : Instruction) (m : ℕ) : Type 0 where
    way : Leads T (base + o) j (base + m)
    spot : Spot m

  up_to : {o l : ℕ} {j : Instruction} (m : ℕ) → l ≡ base + m → Leads T (base + o) j l → Spot m → Up o j m
  up_to {o} {j = j} m e h s = record { way = subst (λ (k : ℕ). Leads T (base + o) j k) e h; spot = s }

  up-jump : {o y m : ℕ} → Spot y → Leads W o (jump y) m → Up o (jump (base + y)) m
  up-jump {y = y} s leads_jump = up_to y refl leads_jump s

  up-token : {o c m : ℕ} → ((v : Option ℕ) → Spot (way_out W c v)) → ((v : Option ℕ) → way_out T (base + c) v ≡ base + way_out W c v) → Leads W o (input_choice c) m → Up o (input_choice (base + c)) m
  up-token {c = c} s e (leads_token v) = up_to (way_out W c v) (e v) (leads_token v) (s v)

  up-choice : {o c m : ℕ} → ((v : Option ℕ) → Spot (way_out W c v)) → ((v : Option ℕ) → way_out T (base + c) v ≡ base + way_out W c v) → Leads W o (by_result c) m → Up o (by_result (base + c)) m
  up-choice {c = c} s e (leads_choice v) = up_to (way_out W c v) (e v) (leads_choice v) (s v)

  up_step : {o m : ℕ} {i j : Instruction} → Alike o i j → Leads W o i m → Up o j m
  up_step (a-jump s) w = up-jump s w
  up_step {o} (a-input s) leads_input = up_to (o + 2) (near base o 2) leads_input s
  up_step {o} (a-any s) leads_any = up_to (o + 1) (near base o 1) leads_any s
  up_step {o} (a_write s) leads_write = up_to (o + 2) (near base o 2) leads_write s
  up_step (a-token s e) w = up-token s e w
  up_step {o} (a_call s) leads_call = up_to (o + 2) (near base o 2) leads_call s
  up_step {o} (a-result s) leads_result = up_to (o + 2) (near base o 2) leads_result s
  up_step (a-choice s e) w = up-choice s e w
  up_step {o} (a-parameter s) leads_parameter = up_to (o + 2) (near base o 2) leads_parameter s
  up_step {o} (a-update s) leads_update = up_to (o + 1) (near base o 1) leads_update s
  up_step {o} (a-update_with s) leads_update_with = up_to (o + 1) (near base o 1) leads_update_with s
  up_step {o} (a-choose s) leads_choose = up_to (o + 1) (near base o 1) leads_choose s
  up_step {o} (a-choose_with s) leads_choose_with = up_to (o + 1) (near base o 1) leads_choose_with s
  up_step a-return w = elim w [ ]
  up_step a-end w = elim w [ ]

  module _ (first : P 1) where
    -- a location of T that is reachable in the rule, by the rule's own words
    pub record Within (l : ℕ) : Type 0 where
      pub at : ℕ
      pub is : l ≡ base + at
      pub reached : Reached W 1 at
      pub spot : Spot at

    pub down : {l : ℕ} → Reached T (base + 1) l → Within l
    down at_start = record { at = 1; is = refl; reached = at_start; spot = at_place first }
    down (further {l = l} {m = m} r d) =
        let h = down r in
        let e : Leads T (base + h.at) (decode T (base + h.at)) m = rw h.is at d in
        let s = down_step (alike h.spot) e in
        record { at = s.to; is = s.is; reached = further h.reached s.way; spot = s.spot }

    pub record Reaches (o : ℕ) : Type 0 where
      pub spot : Spot o
      pub way : Reached T (base + 1) (base + o)

    pub up : {o : ℕ} → Reached W 1 o → Reaches o
    up at_start = record { spot = at_place first; way = at_start }
    up (further r d) =
        let h = up r in
        let s = up_step (alike h.spot) d in
        record { spot = s.spot; way = further h.way s.way }
