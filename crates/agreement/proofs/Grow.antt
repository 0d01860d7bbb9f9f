-- The rules' own events only grow: those of fewer steps are a beginning of those of more.
use mathlib.Core.Bool.{Bool, true, false}
use mathlib.Core.List.{List, [], ◌∷◌, ◌++◌, append-nil, append_assoc}
use mathlib.Core.Option.{Option, none, some}
use mathlib.Core.Path.{refl, sym, ap, ◌∙◌}
use Prim.Native.Nat.{ℕ, zero, suc}
use lib.Dec.{ltb}
use lib.ListN.{length}
use Rattle.agreement.specs.Demand.{events_of, Begins}
use Rattle.std.specs.Prelude.{if◌then◌else◌}
use Rattle.base.specs.Common.{given}
use Rattle.base.specs.Tree.{plain, cycle, choice, done, ◌▸◌, nil, alternative, absent, otherwise}
use Rattle.events.specs.Events.{Event, output, signal, operation, operation_with, repair, differs, missing, unlabelled, deep, Io, present, took, wrote, answered, mends, spent, repaired, is}
use Rattle.ownwalk.specs.OwnWalk.{Context, in_cycle, in_alternative, in_otherwise, Pending, before, before_choice, Own, on, choosing, stopped, nowhere, labelled, labelled_by, chosen, repaired_first, unmatched, ended, left, gave_back, next_answer, asked, entered, own_plain, own_choice, own, owns}
use Rattle.program.specs.Program.{Plain, match, any, emit, error, exit, call, back, give, update, update_with, Selector, by_token, by_rule, by_operation, by_operation_with, Acts, Alts, Other, Rule, body_of}

pub stays : (a : List Event) → Begins a a
stays a = record { rest = []; whole = sym (append-nil a) }

pub begins-trans : {a b c : List Event} → Begins a b → Begins b c → Begins a c
begins-trans {a} h g = record { rest = h.rest ++ g.rest; whole = g.whole ∙ ap (λ (x : List Event). x ++ g.rest) h.whole ∙ append_assoc a h.rest g.rest }

-- one event more
one_more : (a : List Event) (e : Event) → Begins a (a ++ (e ∷ []))
one_more a e = record { rest = e ∷ []; whole = refl }

test : (b : Bool) (a : List Event) (s t : Own) → Begins a (events_of s) → Begins a (events_of t) → Begins a (events_of (if b then s else t))
test true a s t h h' = h
test false a s t h h' = h'

ended-grows : (k : List Context) (ps : List Pending) (io : Io) → Begins io.events (events_of (ended k ps io))
unfolding ended events_of
ended-grows [] [] io = stays io.events
ended-grows [] (before q k ∷ ps) io = stays io.events
ended-grows [] (before_choice al o q k ∷ ps) io = stays io.events
ended-grows (in_cycle b r ∷ k) ps io = stays io.events
ended-grows (in_alternative r ∷ k) ps io = stays io.events
ended-grows (in_otherwise r ∷ k) ps io = stays io.events

left-grows : (k : List Context) (ps : List Pending) (io : Io) → Begins io.events (events_of (left k ps io))
unfolding left events_of
left-grows [] ps io = stays io.events
left-grows (in_cycle b r ∷ k) ps io = stays io.events
left-grows (in_alternative r ∷ k) ps io = left-grows k ps io
left-grows (in_otherwise r ∷ k) ps io = left-grows k ps io

gave-grows : (v : ℕ) (ps : List Pending) (io : Io) → Begins io.events (events_of (gave_back v ps io))
unfolding gave_back events_of
gave-grows v [] io = stays io.events
gave-grows v (before q k ∷ ps) io = stays io.events
gave-grows v (before_choice al o q k ∷ ps) io = stays io.events

chosen-grows : (f : Option Acts) (o : Other) (q : Acts) (k : List Context) (ps : List Pending) (s : Own) (io io' : Io) → Begins io.events io'.events → Begins io.events (events_of s)
    → Begins io.events (events_of (chosen f o q k ps s io io'))
unfolding chosen events_of
chosen-grows (some b) o q k ps s io io' h g = h
chosen-grows none (otherwise b) q k ps s io io' h g = stays io.events
chosen-grows none absent q k ps s io io' h g = g

first-grows : (al : Alts) (q : Acts) (k : List Context) (ps : List Pending) (io : Io) → Begins io.events (events_of (repaired_first al q k ps io))
unfolding repaired_first repaired spent wrote events_of
first-grows nil q k ps io = stays io.events
first-grows (alternative [] b al) q k ps io = stays io.events
first-grows (alternative (t ∷ ls) b al) q k ps io = one_more io.events (repair t)

unmatched-grows : (al : Alts) (q : Acts) (k : List Context) (ps : List Pending) (io : Io) → Begins io.events (events_of (unmatched al q k ps io))
unfolding unmatched events_of
unmatched-grows al q k ps io = test (mends io) io.events (repaired_first al q k ps io) (stopped differs io) (first-grows al q k ps io) (stays io.events)

asked-grows : (a : Option ℕ) (e : Event) (al : Alts) (o : Other) (q : Acts) (k : List Context) (ps : List Pending) (io : Io) → Begins io.events (events_of (asked a e al o q k ps io))
unfolding asked answered wrote events_of
asked-grows none e al o q k ps io = stays io.events
asked-grows (some v) e al o q k ps io = one_more io.events e

module _ (prog : List Rule) (tokens answers : List ℕ) where
  entered-grows : (r : ℕ) (p : Pending) (ps : List Pending) (io : Io) → Begins io.events (events_of (entered prog tokens answers r p ps io))
  unfolding entered events_of
  entered-grows r p ps io = test (ltb (length ps) 64) io.events (on (body_of prog r) [] (p ∷ ps) io) (stopped deep io) (stays io.events) (stays io.events)

  plain-grows : (p : Plain) (q : Acts) (k : List Context) (ps : List Pending) (io : Io) → Begins io.events (events_of (own_plain prog tokens answers p q k ps io))
  unfolding own_plain events_of took wrote repaired spent
  plain-grows (match t) q k ps io = test (is t (present tokens io)) io.events (on q k ps (took io)) _ (stays io.events)
      (test (mends io) io.events (on q k ps (repaired t io)) (stopped differs io) (one_more io.events (repair t)) (stays io.events))
  plain-grows any q k ps io = test (given (present tokens io)) io.events (on q k ps (took io)) (stopped missing io) (stays io.events) (stays io.events)
  plain-grows (emit t) q k ps io = one_more io.events (output t)
  plain-grows (error t) q k ps io = one_more io.events (signal t)
  plain-grows exit q k ps io = left-grows k ps io
  plain-grows (call r) q k ps io = entered-grows r (before q k) ps io
  plain-grows back q k ps io = ended-grows [] ps io
  plain-grows (give v) q k ps io = gave-grows v ps io
  plain-grows (update op) q k ps io = one_more io.events (operation op)
  plain-grows (update_with op v) q k ps io = one_more io.events (operation_with op v)

  choice-grows : (s : Selector) (al : Alts) (o : Other) (q : Acts) (k : List Context) (ps : List Pending) (io : Io) → Begins io.events (events_of (own_choice prog tokens answers s al o q k ps io))
  unfolding own_choice took
  choice-grows by_token al o q k ps io = chosen-grows (labelled_by (present tokens io) al) o q k ps (unmatched al q k ps io) io (took io) (stays io.events) (unmatched-grows al q k ps io)
  choice-grows (by_rule r) al o q k ps io = entered-grows r (before_choice al o q k) ps io
  choice-grows (by_operation op) al o q k ps io = asked-grows (next_answer answers io) (operation op) al o q k ps io
  choice-grows (by_operation_with op v) al o q k ps io = asked-grows (next_answer answers io) (operation_with op v) al o q k ps io

  pub own-grows : (s : Own) → Begins (events_of s) (events_of (own prog tokens answers s))
  unfolding own events_of
  own-grows (on done k ps io) = ended-grows k ps io
  own-grows (on (plain p ▸ q) k ps io) = plain-grows p q k ps io
  own-grows (on (cycle b ▸ q) k ps io) = stays io.events
  own-grows (on (choice s al o ▸ q) k ps io) = choice-grows s al o q k ps io
  own-grows (choosing v al o q k ps io) = chosen-grows (labelled v al) o q k ps (stopped unlabelled io) io io (stays io.events) (stays io.events)
  own-grows (stopped r io) = stays io.events
  own-grows (nowhere io) = stays io.events

  pub owns-grow : (i : ℕ) (s : Own) → Begins (events_of s) (events_of (owns prog tokens answers i s))
  unfolding owns
  owns-grow zero s = stays (events_of s)
  owns-grow (suc i) s = begins-trans (own-grows s) (owns-grow i (own prog tokens answers s))
