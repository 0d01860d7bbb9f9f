-- The byte form of a walk (docs/LAYOUT.md), and a call over bytes alone.
use Rattle.std.specs.Prelude.{List, [], ◌∷◌, ◌++◌, reverse, ◌≡◌, ℕ, ◌+◌, ◌*◌, ◌-◌, ◌/◌, ◌%◌, ◌<◌, ◌≤◌, eqb, length, take, drop, get_or, replicate, if◌then◌else◌}
use Rattle.std.proofs.Math.Option.{Option, none, some}
use Rattle.base.specs.Common.{same}
use Rattle.events.specs.Events.{Event, event_words, Reason, finished, differs, missing, unlabelled, deep, unanswered, outside, reason_number}
use Rattle.machine.specs.Bytes.{count, words_of, table_of, bytes_of, over}
use Rattle.machine.specs.Walk.{Phase, going, waiting, stopped, Walk}
use Rattle.machine.specs.Call.{Mode, Called, call_walk}

-- the first two words: 0 0 going on, 1 0 waiting, 2 and the reason's number stopped
unfoldable pub phase_words : Phase → List ℕ
phase_words going = 0 ∷ 0 ∷ []
phase_words waiting = 1 ∷ 0 ∷ []
phase_words (stopped r) = 2 ∷ reason_number r ∷ []

-- a number of 64 bits as four words
unfoldable pub words64 : ℕ → List ℕ
words64 n = n / 281474976710656 ∷ n / 4294967296 % 65536 ∷ n / 65536 % 65536 ∷ n % 65536 ∷ []

-- the 64 words of the return locations, the oldest first, unused ones 0
unfoldable pub return_words : List ℕ → List ℕ
return_words rs = reverse rs ++ replicate (64 - length rs) 0

-- the 79 words of a walk
unfoldable pub walk_words : Walk → List ℕ
walk_words w =
    phase_words w.phase ++ (w.location ∷ w.result ∷ w.parameter ∷ length w.returns
    ∷ w.io.allowance ∷ (words64 w.io.read ++ (words64 w.io.used ++ return_words w.returns)))

unfoldable pub walk_bytes : Walk → List ℕ
walk_bytes w = bytes_of (walk_words w)

-- what the words name, if they are a walk's
unfoldable pub reason_of : ℕ → Reason
reason_of n =
    if eqb n 30 then differs else if eqb n 31 then missing else if eqb n 32 then unlabelled else if eqb n 33 then deep
    else if eqb n 34 then unanswered else if eqb n 37 then outside else finished

unfoldable pub phase_of : ℕ → ℕ → Phase
phase_of p r = if eqb p 0 then going else if eqb p 1 then waiting else stopped (reason_of r)

unfoldable pub number64 : List ℕ → ℕ
number64 ws = get_or ws 0 0 * 281474976710656 + get_or ws 1 0 * 4294967296 + get_or ws 2 0 * 65536 + get_or ws 3 0

unfoldable pub walk_named : List ℕ → Walk
walk_named ws = record {
  phase = phase_of (get_or ws 0 0) (get_or ws 1 0);
  location = get_or ws 2 0;
  result = get_or ws 3 0;
  parameter = get_or ws 4 0;
  returns = reverse (take (get_or ws 5 0) (take 64 (drop 15 ws)));
  io = record { read = number64 (drop 7 ws); used = number64 (drop 11 ws); allowance = get_or ws 6 0; events = [] };
}

-- the walk that the bytes are; none for "bytes that no walk is written as by the layout in docs/"
unfoldable pub walk_of : List ℕ → Option Walk
walk_of s = let w = walk_named (words_of s) in if same (walk_bytes w) s then some w else none

-- the walks that the layout has a form for: every walk that goes on within a device does
pub record Fits (w : Walk) : Type 0 where
  pub location : w.location < 65536
  pub result : w.result < 65536
  pub parameter : w.parameter < 65536
  pub depth : length w.returns ≤ 64
  pub returns : (i : ℕ) → i < length w.returns → get_or w.returns i 0 < 65536
  pub read : w.io.read < 18446744073709551616
  pub used : w.io.used < 18446744073709551616
  pub allowance : w.io.allowance < 65536
  pub events : w.io.events ≡ []

-- A call over bytes

-- the words of events, one after the other
unfoldable pub events_words : List Event → List ℕ
events_words [] = []
events_words (e ∷ es) = event_words e ++ events_words es

-- what a call over bytes gives: its number, the walk's bytes, the event buffer's bytes, events written, steps done
pub record Outcome : Type 0 where
  pub number : ℕ
  pub walk : List ℕ
  pub buffer : List ℕ
  pub events : ℕ
  pub steps : ℕ

unfoldable pub outcome : Option Walk → List ℕ → List ℕ → (Walk → Called) → Outcome
outcome none walk buffer f = record { number = 21; walk = walk; buffer = buffer; events = 0; steps = 0 }
outcome (some w) walk buffer f =
    let c = f w in
    record {
      number = c.number;
      walk = walk_bytes c.walk;
      buffer = over (bytes_of (events_words c.events)) buffer;
      events = length c.events;
      steps = c.steps;
    }

-- a call over the bytes of table, tokens, walk and event buffer
unfoldable pub call_bytes : List ℕ → List ℕ → Mode → ℕ → List ℕ → List ℕ → Outcome
call_bytes table tokens m budget walk buffer =
    outcome (walk_of walk) walk buffer (call_walk (table_of table) (words_of tokens) m budget (count buffer))

-- all of this file computes where this is unfolded
unfoldable pub opened : Unit {0}
unfolding phase_words words64 return_words walk_words walk_bytes reason_of phase_of number64 walk_named walk_of events_words outcome call_bytes
opened = tt
