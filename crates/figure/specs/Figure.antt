-- The figure Q: "the most instructions on a quiet path from any instruction of a rule, reachable in the sense of A.4 from that rule's own
-- start without entering calls, to that rule's return or to a stop". Everything here is said of the words of a table, so that an
-- instruction is an instruction.
use Rattle.std.specs.Prelude.{List, ◌≡◌, ℕ, zero, suc, ◌+◌, ◌-◌, ◌*◌, ◌≤◌, if◌then◌else◌}
use Rattle.std.proofs.Math.Option.{Option, none, some}
use Rattle.events.specs.Events.{Event, is}
use Rattle.machine.specs.Decode.{fetch, Instruction, jump, input, input_any, write, input_choice, call_rule, return, set_result, choice, end_choice, set_parameter, update, update_with, choose, choose_with, decode}

-- how a path ends: with a read, a repair or a stop; at the return of the rule it began in, with the result where the path knows it
pub data End : Type 0 where
  over : End
  back : Option ℕ → End

-- "one begun at a choice instruction takes any way out of it, and a rule choice met later goes by the value returned on the path": by what
-- a choice goes, the result being known or not
pub data Goes : Option ℕ → Option ℕ → Type 0 where
  any_way : {v : Option ℕ} → Goes none v
  by_result : {u : ℕ} → Goes (some u) (some u)

module _ (T : List ℕ) where
  -- Choice tables

  -- the location of the distance behind the first of n labels from l on that is v
  unfoldable pub label_at : ℕ → ℕ → ℕ → Option ℕ
  label_at v zero l = none
  label_at v (suc n) l = let later = label_at v n (l + 2) in if is v (fetch T l) then some (l + 1) else later

  unfoldable pub label_by : Option ℕ → ℕ → ℕ → Option ℕ
  label_by none n l = none
  label_by (some v) n l = label_at v n l

  unfoldable pub back_from : ℕ → Option ℕ → ℕ
  back_from d none = 0
  back_from d (some x) = d - x

  unfoldable pub way_among : ℕ → ℕ → Option ℕ → ℕ
  way_among c n none = c + 1 + 2 * n
  way_among c n (some d) = back_from d (fetch T d)

  unfoldable pub way_of : ℕ → Option ℕ → Option ℕ → ℕ
  way_of c v none = 0
  way_of c v (some n) = way_among c n (label_by v n (c + 1))

  -- where a choice with its choice table at c goes by the value v; with none, and by a value that is no label, to the default
  unfoldable pub way_out : ℕ → Option ℕ → ℕ
  way_out c v = way_of c v (fetch T c)

  -- Reachable

  -- the location m can come after the instruction at l, in the same rule: "treating every jump target, label, default, .. and place after a
  -- call as possible"
  pub data Leads (l : ℕ) : Instruction → ℕ → Type 0 where
    leads_jump : {m : ℕ} → Leads l (jump m) m
    leads_input : {t : ℕ} → Leads l (input t) (l + 2)
    leads_any : Leads l input_any (l + 1)
    leads_write : {e : Event} → Leads l (write e) (l + 2)
    leads_token : {c : ℕ} (v : Option ℕ) → Leads l (input_choice c) (way_out c v)
    leads_call : {s : ℕ} → Leads l (call_rule s) (l + 2)
    leads_result : {v : ℕ} → Leads l (set_result v) (l + 2)
    leads_choice : {c : ℕ} (v : Option ℕ) → Leads l (choice c) (way_out c v)
    leads_parameter : {v : ℕ} → Leads l (set_parameter v) (l + 2)
    leads_update : {op : ℕ} → Leads l (update op) (l + 1)
    leads_update_with : {op : ℕ} → Leads l (update_with op) (l + 1)
    leads_choose : {op : ℕ} → Leads l (choose op) (l + 1)
    leads_choose_with : {op : ℕ} → Leads l (choose_with op) (l + 1)

  -- "reachable in the sense of A.4 from that rule's own start without entering calls"
  pub data Reached (s : ℕ) : ℕ → Type 0 where
    at_start : Reached s s
    further : {l m : ℕ} → Reached s l → Leads l (decode T l) m → Reached s m

  -- Quiet paths

  mutual
    -- from the location l, the result being known or not, with n instructions, the last of them included
    pub data Quiet : ℕ → Option ℕ → ℕ → End → Type 0 where
      quiet : {l n : ℕ} {x : Option ℕ} {e : End} → Does l x (decode T l) n e → Quiet l x n e

    -- the same, the instruction at l being given
    pub data Does : ℕ → Option ℕ → Instruction → ℕ → End → Type 0 where
      does_jump : {l : ℕ} {x : Option ℕ} {m n : ℕ} {e : End} → Quiet m x n e → Does l x (jump m) (suc n) e
      -- "a path also ends with the instruction that reads"
      does_input : {l : ℕ} {x : Option ℕ} {t : ℕ} → Does l x (input t) (suc zero) over
      does_any : {l : ℕ} {x : Option ℕ} → Does l x input_any (suc zero) over
      does_write : {l : ℕ} {x : Option ℕ} {ev : Event} {n : ℕ} {e : End} → Quiet (l + 2) x n e → Does l x (write ev) (suc n) e
      -- an input choice reads where it takes a label
      does_token : {l : ℕ} {x : Option ℕ} {c : ℕ} → Does l x (input_choice c) (suc zero) over
      does_default : {l : ℕ} {x : Option ℕ} {c n : ℕ} {e : End} → Quiet (way_out c none) none n e → Does l x (input_choice c) (suc n) e
      -- "with called rules counted in full": over in the called rule, or back from it; or the call stops, with 33
      does_call_over : {l : ℕ} {x : Option ℕ} {s n : ℕ} → Quiet s none n over → Does l x (call_rule s) (suc n) over
      does_call : {l : ℕ} {x : Option ℕ} {s m n k : ℕ} {y : Option ℕ} {e : End} → Quiet s none m (back y) → Quiet (l + 2) y n e → m + n ≡ k → Does l x (call_rule s) (suc k) e
      does_call_stop : {l : ℕ} {x : Option ℕ} {s : ℕ} → Does l x (call_rule s) (suc zero) over
      does_return : {l : ℕ} {x : Option ℕ} → Does l x return (suc zero) (back x)
      does_result : {l : ℕ} {x : Option ℕ} {v n : ℕ} {e : End} → Quiet (l + 2) (some v) n e → Does l x (set_result v) (suc n) e
      does_choice : {l : ℕ} {x : Option ℕ} {c n : ℕ} {e : End} (v : Option ℕ) → Goes x v → Quiet (way_out c v) none n e → Does l x (choice c) (suc n) e
      does_end : {l : ℕ} {x : Option ℕ} → Does l x end_choice (suc zero) over
      does_parameter : {l : ℕ} {x : Option ℕ} {v n : ℕ} {e : End} → Quiet (l + 2) x n e → Does l x (set_parameter v) (suc n) e
      does_update : {l : ℕ} {x : Option ℕ} {op n : ℕ} {e : End} → Quiet (l + 1) x n e → Does l x (update op) (suc n) e
      does_update_with : {l : ℕ} {x : Option ℕ} {op n : ℕ} {e : End} → Quiet (l + 1) x n e → Does l x (update_with op) (suc n) e
      -- an answer is any; or there is none, and it stops with 34
      does_choose : {l : ℕ} {x : Option ℕ} {op n : ℕ} {e : End} → Quiet (l + 1) none n e → Does l x (choose op) (suc n) e
      does_choose_with : {l : ℕ} {x : Option ℕ} {op n : ℕ} {e : End} → Quiet (l + 1) none n e → Does l x (choose_with op) (suc n) e
      does_choose_stop : {l : ℕ} {x : Option ℕ} {op : ℕ} → Does l x (choose op) (suc zero) over
      does_choose_with_stop : {l : ℕ} {x : Option ℕ} {op : ℕ} → Does l x (choose_with op) (suc zero) over

  -- The figure

  -- no path from a reachable instruction of the rules that start so has more
  pub record Bounds (Start : ℕ → Type 0) (q : ℕ) : Type 0 where
    pub most : {s l n : ℕ} {e : End} → Start s → Reached s l → Quiet l none n e → n ≤ q

  -- and one has as many
  pub record Figure (Start : ℕ → Type 0) (q : ℕ) : Type 0 where
    pub bounds : Bounds Start q
    pub start : ℕ
    pub location : ℕ
    pub end : End
    pub is_start : Start start
    pub reached : Reached start location
    pub path : Quiet location none q end

  -- one has as many as n, or more
  pub record Long (Start : ℕ → Type 0) (n : ℕ) : Type 0 where
    pub start : ℕ
    pub location : ℕ
    pub end : End
    pub count : ℕ
    pub is_start : Start start
    pub reached : Reached start location
    pub path : Quiet location none count end
    pub long : n ≤ count

-- all of this file computes where this is unfolded
unfoldable pub opened : Unit {0}
unfolding label_at label_by back_from way_among way_of way_out
opened = tt
