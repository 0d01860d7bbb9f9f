-- What it is for a table to hold a tree, by locations alone, and for a walk over it to stand where the rules stand.
use Prim.Native.Nat.{ℕ, ◌+◌, ◌-◌, ◌*◌}
use mathlib.Core.Path.{◌≡◌}
use mathlib.Core.Bool.{Bool, true, false, ◌||◌}
use mathlib.Core.Option.{Option, none, some}
use mathlib.Core.List.{List, [], ◌∷◌}
use lib.Dec.{leb, eqb}
use lib.ListN.{length}
use Rattle.std.specs.Prelude.{if◌then◌else◌}
use Rattle.base.specs.Tree.{plain, cycle, choice, done, ◌▸◌, nil, alternative, absent, otherwise}
use Rattle.events.specs.Events.{output, signal, Reason, finished, differs, missing, unlabelled, deep, unanswered, outside, Io}
use Rattle.machine.specs.Decode.{fetch, jump, input, input_any, write, input_choice, call_rule, return, set_result, choice as by_result, end_choice, set_parameter, update as updates, update_with as updates_with, choose, choose_with, decode}
use Rattle.machine.specs.Step.{seek}
use Rattle.machine.specs.Walk.{going, stopped, Walk}
use Rattle.ownwalk.specs.OwnWalk as rules
use Rattle.ownwalk.specs.OwnWalk.{Context, in_cycle, in_alternative, in_otherwise, Pending, before, before_choice, Own, on, choosing}
use Rattle.program.specs.Accepted.{Calls, NeedsLabel}
use Rattle.program.specs.Past.{exits_all, exits_some, exits_other, past_all, past_some, past_other}
use Rattle.program.specs.Program.{Plain, match, any, emit, error, exit, call, back, give, update, update_with, by_token, by_rule, by_operation, by_operation_with, Act, Acts, Alts, Other, Rule}

-- Choice tables

-- a label, and the location where its alternative begins
abbrev pub Entry : Type 0
Entry = ℕ × ℕ

unfoldable pub lookup : ℕ → List Entry → Option ℕ
lookup v [] = none
lookup v (p ∷ ps) = if eqb v p.0 then some p.1 else lookup v ps

-- an alternative's labels before the entries ps
unfoldable pub entries : List ℕ → ℕ → List Entry → List Entry
entries [] l ps = ps
entries (v ∷ ls) l ps = (v, l) ∷ entries ls l ps

-- the location of a distance, and where that leads
pub data Leads (T : List ℕ) : Option ℕ → Option ℕ → Type 0 where
  leads-none : Leads T none none
  leads : {l x y : ℕ} → fetch T l ≡ some x → l - x ≡ y → Leads T (some l) (some y)

-- from l on the entries' labels, one after the other; the distance behind each leads to its location
pub data Entries (T : List ℕ) : ℕ → List Entry → Type 0 where
  entries-nil : {l : ℕ} → Entries T l []
  entries-cons : {l v x y : ℕ} {ps : List Entry} → fetch T l ≡ some v → fetch T (l + 1) ≡ some x → l + 1 - x ≡ y → Entries T (l + 2) ps → Entries T l ((v, y) ∷ ps)

-- the choice table of these entries stands at c
pub record Table (T : List ℕ) (c : ℕ) (ps : List Entry) : Type 0 where
  pub count : fetch T c ≡ some (length ps)
  pub fits : leb (c + 2 * length ps) (length T) ≡ true
  pub all : Entries T (c + 1) ps
  pub finds : (tokens : List ℕ) (v : ℕ) → Leads T (seek T tokens v (length ps) (c + 1)) (lookup v ps)

-- Walks

-- a walk that goes on, and one that has stopped
abbrev pub going_at : ℕ → List ℕ → ℕ → ℕ → Io → Walk
going_at l rs w p io = record { phase = going; location = l; returns = rs; result = w; parameter = p; io = io }

abbrev pub stopped_at : Reason → ℕ → List ℕ → ℕ → ℕ → Io → Walk
stopped_at r l rs w p io = record { phase = stopped r; location = l; returns = rs; result = w; parameter = p; io = io }

-- any reason but 37
abbrev pub inside : Reason → Bool
inside finished = true
inside differs = true
inside missing = true
inside unlabelled = true
inside deep = true
inside unanswered = true
inside outside = false

module _ (T : List ℕ) (start : ℕ → ℕ) (prog : List Rule) where
  -- Trees; v: in a choice rule; x: where an exit goes; l: where it begins; e: where it ends

  pub data LayPlain (v : Bool) : Plain → ℕ → ℕ → ℕ → Type 0 where
    lay-match : {t x l : ℕ} → decode T l ≡ input t → LayPlain v (match t) x l (l + 2)
    lay-any : {x l : ℕ} → decode T l ≡ input_any → LayPlain v any x l (l + 1)
    lay-emit : {t x l : ℕ} → decode T l ≡ write (output t) → LayPlain v (emit t) x l (l + 2)
    lay-error : {t x l : ℕ} → decode T l ≡ write (signal t) → LayPlain v (error t) x l (l + 2)
    lay-exit : {x l e : ℕ} → decode T l ≡ jump x → LayPlain v exit x l e
    lay-call : {r x l : ℕ} → decode T l ≡ call_rule (start r) → Calls prog r false → LayPlain v (call r) x l (l + 2)
    lay-back : {x l e : ℕ} → v ≡ false → decode T l ≡ return → LayPlain v back x l e
    lay-give : {u x l e : ℕ} → v ≡ true → decode T l ≡ set_result u → decode T (l + 2) ≡ return → LayPlain v (give u) x l e
    lay-update : {op x l : ℕ} → decode T l ≡ updates op → LayPlain v (update op) x l (l + 1)
    lay-update_with : {op u x l : ℕ} → decode T l ≡ set_parameter u → decode T (l + 2) ≡ updates_with op
        → LayPlain v (update_with op u) x l (l + 2 + 1)

  mutual
    pub data Lay (v : Bool) : Act → ℕ → ℕ → ℕ → Type 0 where
      lay-plain : {p : Plain} {x l e : ℕ} → LayPlain v p x l e → Lay v (plain p) x l e
      lay-cycle : {b : Acts} {x l m : ℕ} → Lays v b (m + 2) l m → decode T m ≡ jump l → Lay v (cycle b) x l (m + 2)
      lay-token : {q : Alts} {o : Other} {x l e c : ℕ} {ps : List Entry} → NeedsLabel by_token o q → decode T l ≡ input_choice c → Table T c ps
          → LayAlts v q x e (l + 2) ps → LayOther v true o x ps (c + 1 + 2 * length ps) e → Lay v (choice by_token q o) x l e
      lay-rule : {r x l e : ℕ} {q : Alts} {o : Other} → decode T l ≡ call_rule (start r) → Calls prog r true
          → LayChoice v q o x (l + 2) e → Lay v (choice (by_rule r) q o) x l e
      lay-operation : {op x l e : ℕ} {q : Alts} {o : Other} → decode T l ≡ choose op
          → LayChoice v q o x (l + 1) e → Lay v (choice (by_operation op) q o) x l e
      lay-operation_with : {op u x l e : ℕ} {q : Alts} {o : Other} → decode T l ≡ set_parameter u → decode T (l + 2) ≡ choose_with op
          → LayChoice v q o x (l + 2 + 1) e → Lay v (choice (by_operation_with op u) q o) x l e

    pub data Lays (v : Bool) : Acts → ℕ → ℕ → ℕ → Type 0 where
      lays-done : {x l : ℕ} → Lays v done x l l
      lays_cons : {a : Act} {q : Acts} {x l m e : ℕ} → Lay v a x l m → Lays v q x m e → Lays v (a ▸ q) x l e

    -- a choice by the result
    pub data LayChoice (v : Bool) : Alts → Other → ℕ → ℕ → ℕ → Type 0 where
      lay-choice : {q : Alts} {o : Other} {x l e c : ℕ} {ps : List Entry} → decode T l ≡ by_result c → Table T c ps
          → LayAlts v q x e (l + 2) ps → LayOther v false o x ps (c + 1 + 2 * length ps) e → LayChoice v q o x l e

    -- y: where each goes at its end; ps: their entries
    pub data LayAlts (v : Bool) : Alts → ℕ → ℕ → ℕ → List Entry → Type 0 where
      alts-nil : {x y l : ℕ} → LayAlts v nil x y l []
      alts-cons : {ls : List ℕ} {b : Acts} {q : Alts} {x y l m : ℕ} {ps : List Entry} → Lays v b x l m → decode T m ≡ jump y
          → LayAlts v q x y (m + 2) ps → LayAlts v (alternative ls b q) x y l (entries ls l ps)

    -- true: of an input choice
    pub data LayOther (v : Bool) : Bool → Other → ℕ → List Entry → ℕ → ℕ → Type 0 where
      other-input : {x u a l e : ℕ} {ps : List Entry} → decode T l ≡ input u → decode T (l + 2) ≡ jump a → LayOther v true absent x ((u, a) ∷ ps) l e
      other-end : {x l e : ℕ} {ps : List Entry} → decode T l ≡ end_choice → LayOther v false absent x ps l e
      other-is : {i : Bool} {b : Acts} {x l e : ℕ} {ps : List Entry} → Lays v b x l e → LayOther v i (otherwise b) x ps l e

  -- Places: what goes on at the end of the actions, if they can come there, and at an exit, if they have one

  mutual
    pub data At (v : Bool) : Acts → List Context → ℕ → Type 0 where
      at_place : {q : Acts} {k : List Context} {x l e : ℕ} → Lays v q x l e → (past_all q ≡ true → End v k e) → (exits_all q ≡ true → Out v k x)
          → At v q k l

    pub data End (v : Bool) : List Context → ℕ → Type 0 where
      end-rule : {e : ℕ} → v ≡ false → decode T e ≡ return → End v [] e
      end-cycle : {b r : Acts} {k : List Context} {l e : ℕ} → Lays v b (e + 2) l e → decode T e ≡ jump l
          → (exits_all b ≡ true → Out v (in_cycle b r ∷ k) (e + 2)) → End v (in_cycle b r ∷ k) e
      end-alternative : {r : Acts} {k : List Context} {e y : ℕ} → decode T e ≡ jump y → At v r k y → End v (in_alternative r ∷ k) e
      end-otherwise : {r : Acts} {k : List Context} {e : ℕ} → At v r k e → End v (in_otherwise r ∷ k) e

    pub data Out (v : Bool) : List Context → ℕ → Type 0 where
      out-cycle : {b r : Acts} {k : List Context} {x : ℕ} → At v r k x → Out v (in_cycle b r ∷ k) x
      out-alternative : {r : Acts} {k : List Context} {x : ℕ} → Out v k x → Out v (in_alternative r ∷ k) x
      out-otherwise : {r : Acts} {k : List Context} {x : ℕ} → Out v k x → Out v (in_otherwise r ∷ k) x

  -- before a choice by the result, with the actions r after it
  pub data AtChoice (v : Bool) : Alts → Other → Acts → List Context → ℕ → Type 0 where
    at-choice : {q : Alts} {o : Other} {r : Acts} {k : List Context} {x l e : ℕ} → LayChoice v q o x l e
        → ((past_some q || past_other o) ≡ true → At v r k e) → ((exits_some q || exits_other o) ≡ true → Out v k x) → AtChoice v q o r k l

  -- pending calls beside return locations; the index says whether the rule that returns next is a choice rule
  pub data Pend : Bool → List Pending → List ℕ → Type 0 where
    pend-nil : Pend false [] []
    pend-last : Pend true [] []  -- a walk begun in a choice rule
    pend-before : {v : Bool} {q : Acts} {k : List Context} {ps : List Pending} {r : ℕ} {rs : List ℕ} → At v q k r → Pend v ps rs
        → Pend false (before q k ∷ ps) (r ∷ rs)
    pend-choice : {v : Bool} {q : Alts} {o : Other} {b : Acts} {k : List Context} {ps : List Pending} {r : ℕ} {rs : List ℕ}
        → AtChoice v q o b k r → Pend v ps rs → Pend true (before_choice q o b k ∷ ps) (r ∷ rs)

  -- the rules' own walk, and the walk over the table at the same place
  pub data Rel : Own → Walk → Type 0 where
    rel-on : {v : Bool} {q : Acts} {k : List Context} {ps : List Pending} {io : Io} {l w p : ℕ} {rs : List ℕ} → At v q k l → Pend v ps rs
        → Rel (on q k ps io) (going_at l rs w p io)
    rel-choosing : {v : Bool} {q : Alts} {o : Other} {b : Acts} {k : List Context} {ps : List Pending} {io : Io} {l w p : ℕ} {rs : List ℕ}
        → AtChoice v q o b k l → Pend v ps rs → Rel (choosing w q o b k ps io) (going_at l rs w p io)
    rel-stopped : {r : Reason} {io : Io} {l w p : ℕ} {rs : List ℕ} → inside r ≡ true → Rel (rules.stopped r io) (stopped_at r l rs w p io)
