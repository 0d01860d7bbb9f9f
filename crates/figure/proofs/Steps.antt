-- What one instruction of a walk is: a stop, a read or a repair, a quiet step within its rule, a call, a return.
use mathlib.Core.Bool.{Bool, true, false}
use mathlib.Core.List.{List, [], ◌∷◌}
use mathlib.Core.Logic.{◌⊎◌, inl, inr}
use mathlib.Core.Option.{Option, none, some}
use mathlib.Core.Path.{◌≡◌, refl, ap}
use native.Mathlib.Omega.{arith}
use Prim.Native.Nat.{ℕ, zero, suc, ◌+◌, ◌-◌, ◌*◌, ◌<◌}
use lib.Dec.{leb, ltb}
use lib.ListN.{length, get_elem?}
use borrow.Author.Tests.{ltb-true}
use Rattle.agreement.proofs.BoundWalk.{given-lt, is-given}
use Rattle.agreement.proofs.Single.{taking, done}
use Rattle.std.specs.Prelude.{if◌then◌else◌}
use Rattle.base.specs.Common.{given}
use Rattle.events.specs.Events.{Event, repair, operation, operation_with, Reason, finished, differs, missing, unlabelled, deep, unanswered, outside, choices, present, took, wrote, answered, mends, spent, is}
use Rattle.machine.specs.Call.{writing}
use Rattle.machine.specs.Decode.{fetch, Instruction, invalid, jump, input, input_any, write, input_choice, call_rule, return, set_result, choice, end_choice, set_parameter, update, update_with, choose, choose_with}
use Rattle.machine.specs.Step.{Next, goes_outside, stops, goes, tells, asks, go_to, seek, seek_by, landed, branched, input_choosing, calling, returning, requiring, exec}
use Rattle.machine.specs.Walk
use Rattle.machine.specs.Walk.{going, stopped, Walk, moved, with_returns, with_result, with_parameter, with_io, in_phase}
use Rattle.figure.specs.Figure.{label_at, label_by, back_from, way_among, way_of, way_out, Leads, leads_jump, leads_input, leads_any, leads_write, leads_token, leads_result, leads_choice, leads_parameter, leads_update, leads_update_with, leads_choose, leads_choose_with, End, over, back, Quiet, Does, does_jump, does_input, does_any, does_write, does_token, does_default, does_call_stop, does_return, does_result, does_choice, does_end, does_parameter, does_update, does_update_with, does_choose, does_choose_with, does_choose_stop, does_choose_with_stop, Goes, any_way, by_result}

-- what a path knows of the result is true
pub data Knows : Option ℕ → ℕ → Type 0 where
  knows-none : {v : ℕ} → Knows none v
  knows : {v : ℕ} → Knows (some v) v

pub knows-goes : {x : Option ℕ} {v : ℕ} → Knows x v → Goes x (some v)
knows-goes knows-none = any_way
knows-goes knows = by_result

-- the reads and the repairs that are still possible
unfoldable pub left : List ℕ → Walk → ℕ
left tokens w = length tokens - w.io.read + w.io.allowance

module _ (T tokens answers : List ℕ) where
  -- the path that goes on behind the instruction i at l: from m, where y is known
  pub record After (l : ℕ) (x : Option ℕ) (i : Instruction) (m v : ℕ) : Type 0 where
    pub known : Option ℕ
    pub true_of : Knows known v
    pub onward : (n : ℕ) (e : End) → Quiet T m known n e → Does T l x i (suc n) e

  -- a path that ends with the instruction: at a return with nothing pending, or over
  pub record Last (l : ℕ) (x : Option ℕ) (i : Instruction) (rs : List ℕ) : Type 0 where
    pub end : End
    pub path : Does T l x i 1 end
    pub how : (end ≡ over) ⊎ (rs ≡ [])

  -- the instruction i leads from w to v; reads_here: by a read or a repair
  pub data Sorted (i : Instruction) (w v : Walk) : Type 0 where
    goes-outside : v.phase ≡ stopped outside → Sorted i w v
    stops-here : (r : Reason) → v.phase ≡ stopped r → ((x : Option ℕ) → Last w.location x i w.returns) → Sorted i w v
    reads_here : v.phase ≡ going → left tokens v < left tokens w → v.returns ≡ w.returns → Leads T w.location i v.location
        → ((x : Option ℕ) → Does T w.location x i 1 over) → Sorted i w v
    goes_on : v.phase ≡ going → left tokens v ≡ left tokens w → v.returns ≡ w.returns → Leads T w.location i v.location
        → ((x : Option ℕ) → Knows x w.result → After w.location x i v.location v.result) → Sorted i w v
    calls : v.phase ≡ going → left tokens v ≡ left tokens w → i ≡ call_rule v.location → v.returns ≡ (w.location + 2) ∷ w.returns → length w.returns < 64 → Sorted i w v
    returns : v.phase ≡ going → left tokens v ≡ left tokens w → i ≡ return → w.returns ≡ v.location ∷ v.returns → v.result ≡ w.result → Sorted i w v

  -- Choices

  label-seek : (v n l : ℕ) → seek T tokens v n l ≡ label_at T v n l
  unfolding seek label_at
  label-seek v zero l = refl
  label-seek v (suc n) l = rw (label-seek v n (l + 2))

  pub labels-seek : (v : Option ℕ) (n l : ℕ) → seek_by T tokens v n l ≡ label_by T v n l
  unfolding seek_by label_by
  labels-seek none n l = refl
  labels-seek (some v) n l = label-seek v n l

  -- what holds of every outcome of going to m
  went : (P : Next → Type 0) (m : ℕ) (w : Walk) → P goes_outside → P (goes (moved m w)) → P (go_to T tokens m w)
  unfolding go_to
  went P m w o g = go (given (fetch T m))
    where
      go : (b : Bool) → P (if b then goes (moved m w) else goes_outside)
      go true = g
      go false = o

  back-landed : (P : Next → Type 0) (d c : ℕ) (taken w : Walk) (f : Option ℕ) → fetch T d ≡ f → P goes_outside → P (goes (moved (back_from T d f) taken)) → P (landed T tokens (some d) c taken w)
  unfolding landed back_from
  back-landed P d c taken w none e o g = rw (e, landed) o
  back-landed P d c taken w (some x) e o g = rw (e, landed) (went P (d - x) taken o g)

  among : (P : Next → Type 0) (c n : ℕ) (v : Option ℕ) (taken w : Walk) (s : Option ℕ) → P goes_outside → P (goes (moved (way_among T c n s) taken))
      → (s ≡ none → P (goes (moved (way_among T c n s) w))) → P (landed T tokens s (c + 1 + 2 * n) taken w)
  unfolding way_among landed
  among P c n v taken w none o g d = went P (c + 1 + 2 * n) w o (d refl)
  among P c n v taken w (some s) o g d = back-landed P s (c + 1 + 2 * n) taken w (fetch T s) refl o g

  branch-of : (P : Next → Type 0) (c : ℕ) (v : Option ℕ) (taken w : Walk) (f : Option ℕ) → P goes_outside → P (goes (moved (way_of T c v f) taken))
      → (way_of T c v f ≡ way_of T c none f → P (goes (moved (way_of T c v f) w))) → P (branched T tokens f v c taken w)
  unfolding branched way_of label_by
  branch-of P c v taken w none o g d = o
  branch-of P c v taken w (some n) o g d = go (leb (c + 2 * n) (length T))
    where
      go : (b : Bool) → P (if b then landed T tokens (seek_by T tokens v n (c + 1)) (c + 1 + 2 * n) taken w else goes_outside)
      go true = rw (labels-seek v n (c + 1)) (among P c n v taken w (label_by T v n (c + 1)) o g (λ e. d (ap (way_among T c n) e)))
      go false = o

  -- what holds of every outcome of a choice: with `taken` by a label, with w to the default
  branch : (P : Next → Type 0) (c : ℕ) (v : Option ℕ) (taken w : Walk) → P goes_outside → P (goes (moved (way_out T c v) taken))
      → (way_out T c v ≡ way_out T c none → P (goes (moved (way_out T c v) w))) → P (branched T tokens (fetch T c) v c taken w)
  unfolding way_out
  branch P c v taken w o g d = branch-of P c v taken w (fetch T c) o g d

  -- Instructions

  module _ (w : Walk) (g : w.phase ≡ going) where
    abbrev Step : Instruction → Next → Type 0
    Step i nx = Sorted i w (done T tokens answers nx w)

    out : (i : Instruction) → Step i goes_outside
    unfolding done in_phase
    out i = goes-outside refl

    stop : (i : Instruction) (r : Reason) → ((x : Option ℕ) → Does T w.location x i 1 over) → Step i (stops r)
    unfolding done in_phase
    stop i r d = stops-here r refl (λ x. record { end = over; path = d x; how = inl refl })

    if-step : (i : Instruction) (b : Bool) (x y : Next) → (b ≡ true → Step i x) → (b ≡ false → Step i y) → Step i (if b then x else y)
    if-step i true x y p q = p refl
    if-step i false x y p q = q refl

    reads : (i : Instruction) (m : ℕ) → Leads T w.location i m → ((x : Option ℕ) → Does T w.location x i 1 over) → w.io.read < length tokens
        → Step i (goes (moved m (with_io (took w.io) w)))
    unfolding left done Walk.opened took
    reads i m l d h = reads_here g (omega arith) refl l d

    -- a repair uses the allowance up as a read uses the tokens up
    repairs : (t : ℕ) → mends w.io ≡ true → Step (input t) (tells (repair t) (moved (w.location + 2) (with_io (spent w.io) w)))
    unfolding left done Walk.opened writing wrote spent mends
    repairs t h = reads_here g (omega (arith, ltb-true 0 w.io.allowance h)) refl leads_input (λ x. does_input)

    -- a step that keeps the result
    plain_step : (i : Instruction) (m : ℕ) → Leads T w.location i m → ((x : Option ℕ) (n : ℕ) (e : End) → Quiet T m x n e → Does T w.location x i (suc n) e) → Step i (goes (moved m w))
    unfolding left done Walk.opened
    plain_step i m l d = goes_on g refl refl l (λ x k. record { known = x; true_of = k; onward = d x })

    told-step : (i : Instruction) (m : ℕ) (e : Event) → Leads T w.location i m → ((x : Option ℕ) (n : ℕ) (e : End) → Quiet T m x n e → Does T w.location x i (suc n) e)
        → Step i (tells e (moved m w))
    unfolding left done Walk.opened writing wrote
    told-step i m e l d = goes_on g refl refl l (λ x k. record { known = x; true_of = k; onward = d x })

    asked-step : (i : Instruction) (m : ℕ) (e : Event) → Leads T w.location i m → ((x : Option ℕ) (n : ℕ) (e : End) → Quiet T m none n e → Does T w.location x i (suc n) e)
        → ((x : Option ℕ) → Does T w.location x i 1 over) → Step i (asks e (moved m w))
    unfolding left done taking Walk.opened writing wrote answered
    asked-step i m e l d s = go (get_elem? answers (choices w.io.events))
      where
        go : (o : Option ℕ) → Sorted i w (taking o e (moved m w) w)
        go none = stops-here unanswered refl (λ x. record { end = over; path = s x; how = inl refl })
        go (some v) = goes_on refl refl refl l (λ x k. record { known = none; true_of = knows-none; onward = d x })

    token-step : (c : ℕ) (o : Option ℕ) → present tokens w.io ≡ o → Step (input_choice c) (input_choosing T tokens o c w)
    unfolding left input_choosing done Walk.opened took
    token-step c none e = branch (Step (input_choice c)) c none w w (out (input_choice c)) default (λ z. default)
      where
        default : Step (input_choice c) (goes (moved (way_out T c none) w))
        default = goes_on g refl refl (leads_token none) (λ x k. record { known = none; true_of = knows-none; onward = λ n e q. does_default q })
    token-step c (some t) e =
        branch (Step (input_choice c)) c (some t) (with_io (took w.io) (with_result t w)) (with_result t w) (out (input_choice c))
        (reads_here g (omega (arith, given-lt tokens w.io (some t) e refl)) refl (leads_token (some t)) (λ x. does_token))
        (λ z. goes_on g refl refl (leads_token (some t)) (λ x k. record { known = none; true_of = knows-none; onward = λ n e q. does_default (rw z at q) }))

    choice-step : (c : ℕ) → Step (choice c) (branched T tokens (fetch T c) (some w.result) c w w)
    unfolding left done Walk.opened
    choice-step c = branch (Step (choice c)) c (some w.result) w w (out (choice c)) taken (λ z. taken)
      where
        taken : Step (choice c) (goes (moved (way_out T c (some w.result)) w))
        taken = goes_on g refl refl (leads_choice (some w.result)) (λ x k. record { known = none; true_of = knows-none; onward = λ n e q. does_choice (some w.result) (knows-goes k) q })

    call_step : (s : ℕ) → Step (call_rule s) (calling T tokens s w)
    unfolding left calling done Walk.opened
    call_step s =
        if-step (call_rule s) (given (fetch T s)) _ _
        (λ a. if-step (call_rule s) (ltb (length w.returns) 64) _ _ (λ b. calls g refl refl refl (ltb-true (length w.returns) 64 b)) (λ b. stop (call_rule s) deep (λ x. does_call_stop)))
        (λ a. out (call_rule s))

    return-step : (rs : List ℕ) → w.returns ≡ rs → Step return (returning T tokens rs w)
    unfolding left returning done Walk.opened
    return-step [] e = stops-here finished refl (λ x. record { end = back x; path = does_return; how = inr e })
    return-step (l ∷ rs) e = went (Step return) l (with_returns rs w) (out return) (returns g refl refl e refl)

    result-step : (v : ℕ) → Step (set_result v) (goes (moved (w.location + 2) (with_result v w)))
    unfolding left done Walk.opened
    result-step v = goes_on g refl refl leads_result (λ x k. record { known = some v; true_of = knows; onward = λ n e q. does_result q })

    parameter-step : (v : ℕ) → Step (set_parameter v) (goes (moved (w.location + 2) (with_parameter v w)))
    unfolding left done Walk.opened
    parameter-step v = goes_on g refl refl leads_parameter (λ x k. record { known = x; true_of = k; onward = λ n e q. does_parameter q })

    pub step-sort : (i : Instruction) → Step i (exec T tokens i w)
    unfolding exec requiring
    step-sort invalid = out invalid
    step-sort (jump m) = went (Step (jump m)) m w (out (jump m)) (plain_step (jump m) m leads_jump (λ x n e q. does_jump q))
    step-sort (input t) =
        if-step (input t) (is t (present tokens w.io)) _ _
        (λ b. reads (input t) (w.location + 2) leads_input (λ x. does_input) (given-lt tokens w.io (present tokens w.io) refl (is-given t (present tokens w.io) b)))
        (λ b. if-step (input t) (mends w.io) _ _ (λ c. repairs t c) (λ c. stop (input t) differs (λ x. does_input)))
    step-sort input_any =
        if-step input_any (given (present tokens w.io)) _ _
        (λ b. reads input_any (w.location + 1) leads_any (λ x. does_any) (given-lt tokens w.io (present tokens w.io) refl b))
        (λ b. stop input_any missing (λ x. does_any))
    step-sort (write e) = told-step (write e) (w.location + 2) e leads_write (λ x n e₁ q. does_write q)
    step-sort (input_choice c) = token-step c (present tokens w.io) refl
    step-sort (call_rule s) = call_step s
    step-sort return = return-step w.returns refl
    step-sort (set_result v) = result-step v
    step-sort (choice c) = choice-step c
    step-sort end_choice = stop end_choice unlabelled (λ x. does_end)
    step-sort (set_parameter v) = parameter-step v
    step-sort (update op) = told-step (update op) (w.location + 1) (operation op) leads_update (λ x n e q. does_update q)
    step-sort (update_with op) = told-step (update_with op) (w.location + 1) (operation_with op w.parameter) leads_update_with (λ x n e q. does_update_with q)
    step-sort (choose op) = asked-step (choose op) (w.location + 1) (operation op) leads_choose (λ x n e q. does_choose q) (λ x. does_choose_stop)
    step-sort (choose_with op) = asked-step (choose_with op) (w.location + 1) (operation_with op w.parameter) leads_choose_with (λ x n e q. does_choose_with q) (λ x. does_choose_with_stop)
