-- "The rules' own walk is fed the program, tokens and answers, no table. It holds its place, pending calls, tokens read, answers
-- used (with the same greatest) and events, and begins at the first rule's start."; "the source meaning begins with the same allowance and
-- repairs likewise"
use Rattle.std.specs.Prelude.{List, [], ◌∷◌, ℕ, zero, suc, ltb, length, if◌then◌else◌}
use Rattle.std.proofs.Math.Option.{Option, none, some}
use Rattle.std.proofs.Math.ListN.{get_elem?}
use Rattle.base.specs.Common.{member, given}
use Rattle.base.specs.Tree.{plain, cycle, choice, done, ◌▸◌, nil, alternative, absent, otherwise}
use Rattle.events.specs.Events.{Event, output, signal, operation, operation_with, Reason, finished, differs, missing, unlabelled, deep, unanswered, Io, choices, present, took, wrote, answered, mends, repaired, is}
use Rattle.program.specs.Program.{Plain, match, any, emit, error, exit, call, back, give, update, update_with, Selector, by_token, by_rule, by_operation, by_operation_with, Acts, Alts, Other, Rule, body_of}

-- what stands around the actions of a place: a cycle with its body, an alternative's choice, otherwise's choice, each with the
-- actions after it
pub data Context : Type 0 where
  in_cycle : Acts → Acts → Context
  in_alternative in_otherwise : Acts → Context

-- what is behind a pending call: actions, or the choice that goes by the rule's value
pub data Pending : Type 0 where
  before : Acts → List Context → Pending
  before_choice : Alts → Other → Acts → List Context → Pending

-- going on before actions; about to choose by a value; stopped; nowhere (no accepted program comes there)
pub data Own : Type 0 where
  on : Acts → List Context → List Pending → Io → Own
  choosing : ℕ → Alts → Other → Acts → List Context → List Pending → Io → Own
  stopped : Reason → Io → Own
  nowhere : Io → Own

-- the alternative with that label
unfoldable pub labelled : ℕ → Alts → Option Acts
labelled v nil = none
labelled v (alternative ls b q) = if member v ls then some b else labelled v q

unfoldable pub labelled_by : Option ℕ → Alts → Option Acts
labelled_by none q = none
labelled_by (some v) q = labelled v q

-- "to the alternative with that label, else otherwise, else it stops": io where no label is taken, io' where one is; s where there is
-- neither a label nor otherwise
unfoldable pub chosen : Option Acts → Other → Acts → List Context → List Pending → Own → Io → Io → Own
chosen (some b) o q k ps s io io' = on b (in_alternative q ∷ k) ps io'
chosen none (otherwise b) q k ps s io io' = on b (in_otherwise q ∷ k) ps io
chosen none absent q k ps s io io' = s

-- "An input choice without otherwise thus takes its first alternative": its first label is repaired
unfoldable pub repaired_first : Alts → Acts → List Context → List Pending → Io → Own
repaired_first nil q k ps io = nowhere io
repaired_first (alternative [] b al) q k ps io = nowhere io
repaired_first (alternative (t ∷ ls) b al) q k ps io = on b (in_alternative q ∷ k) ps (repaired t io)

-- an input choice with no label for the present token and no otherwise: "30 comes only with the allowance used up"
unfoldable pub unmatched : Alts → Acts → List Context → List Pending → Io → Own
unmatched al q k ps io = if mends io then repaired_first al q k ps io else stopped differs io

-- "a cycle's end goes to its start, .. an alternative's end past its choice"; a rule's end goes back behind the call
unfoldable pub ended : List Context → List Pending → Io → Own
ended [] [] io = stopped finished io
ended [] (before q k ∷ ps) io = on q k ps io
ended [] (before_choice al o q k ∷ ps) io = nowhere io
ended (in_cycle b r ∷ k) ps io = on b (in_cycle b r ∷ k) ps io
ended (in_alternative r ∷ k) ps io = on r k ps io
ended (in_otherwise r ∷ k) ps io = on r k ps io

-- "`>` past it": past the nearest cycle
unfoldable pub left : List Context → List Pending → Io → Own
left [] ps io = nowhere io
left (in_cycle b r ∷ k) ps io = on r k ps io
left (in_alternative r ∷ k) ps io = left k ps io
left (in_otherwise r ∷ k) ps io = left k ps io

-- "A rule's end or `>>`, with its value if any, goes back behind the call; with none pending it stops with 0."
unfoldable pub gave_back : ℕ → List Pending → Io → Own
gave_back v [] io = stopped finished io
gave_back v (before q k ∷ ps) io = on q k ps io
gave_back v (before_choice al o q k ∷ ps) io = choosing v al o q k ps io

-- the next answer: one is behind for each choice operation in the events, also past the greatest count of answers used
unfoldable pub next_answer : List ℕ → Io → Option ℕ
next_answer answers io = get_elem? answers (choices io.events)

-- "or the next answer (with none 34, no event)"
unfoldable pub asked : Option ℕ → Event → Alts → Other → Acts → List Context → List Pending → Io → Own
asked none e al o q k ps io = stopped unanswered io
asked (some v) e al o q k ps io = choosing v al o q k ps (answered (wrote e io))

module _ (prog : List Rule) (tokens answers : List ℕ) where
  -- "A call goes to its rule's start; with 64 pending it stops with 33."
  unfoldable pub entered : ℕ → Pending → List Pending → Io → Own
  entered r p ps io = if ltb (length ps) 64 then on (body_of prog r) [] (p ∷ ps) io else stopped deep io

  -- "Actions go in order, reading and writing as above": a plain action before the actions q
  unfoldable pub own_plain : Plain → Acts → List Context → List Pending → Io → Own
  own_plain (match t) q k ps io =
      if is t (present tokens io) then on q k ps (took io) else if mends io then on q k ps (repaired t io) else stopped differs io
  own_plain any q k ps io = if given (present tokens io) then on q k ps (took io) else stopped missing io
  own_plain (emit t) q k ps io = on q k ps (wrote (output t) io)
  own_plain (error t) q k ps io = on q k ps (wrote (signal t) io)
  own_plain exit q k ps io = left k ps io
  own_plain (call r) q k ps io = entered r (before q k) ps io
  own_plain back q k ps io = ended [] ps io
  own_plain (give v) q k ps io = gave_back v ps io
  own_plain (update op) q k ps io = on q k ps (wrote (operation op) io)
  own_plain (update_with op v) q k ps io = on q k ps (wrote (operation_with op v) io)

  -- "A choice goes by the present token, its rule's value or the next answer": before the actions q
  unfoldable pub own_choice : Selector → Alts → Other → Acts → List Context → List Pending → Io → Own
  own_choice by_token al o q k ps io = chosen (labelled_by (present tokens io) al) o q k ps (unmatched al q k ps io) io (took io)
  own_choice (by_rule r) al o q k ps io = entered r (before_choice al o q k) ps io
  own_choice (by_operation op) al o q k ps io = asked (next_answer answers io) (operation op) al o q k ps io
  own_choice (by_operation_with op v) al o q k ps io = asked (next_answer answers io) (operation_with op v) al o q k ps io

  -- one step; a walk that has stopped stays so
  unfoldable pub own : Own → Own
  own (on done k ps io) = ended k ps io
  own (on (plain p ▸ q) k ps io) = own_plain p q k ps io
  own (on (cycle b ▸ q) k ps io) = on b (in_cycle b q ∷ k) ps io
  own (on (choice s al o ▸ q) k ps io) = own_choice s al o q k ps io
  own (choosing v al o q k ps io) = chosen (labelled v al) o q k ps (stopped unlabelled io) io io
  own (stopped r io) = stopped r io
  own (nowhere io) = nowhere io

  unfoldable pub owns : ℕ → Own → Own
  owns zero s = s
  owns (suc n) s = owns n (own s)

-- with so much repair allowance
unfoldable pub own_start : List Rule → ℕ → Own
own_start prog allowance = on (body_of prog 0) [] [] (record { read = 0; used = 0; allowance = allowance; events = [] })

-- all of this file computes where this is unfolded
unfoldable pub opened : Unit {0}
unfolding labelled labelled_by chosen repaired_first unmatched ended left gave_back next_answer asked entered own_plain own_choice own owns own_start
opened = tt
