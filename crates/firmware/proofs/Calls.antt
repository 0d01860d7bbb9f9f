-- A call of the walker's definitions on the walk that some bytes are gives what the call over bytes gives.
use Rattle.base.specs.Bools.{split}
use mathlib.Core.List.{List}
use Rattle.std.specs.Prelude.{Option}
use mathlib.Core.Option.{none, some}
use mathlib.Core.Path.{◌≡◌, ap, ◌∙◌}
use Prim.Native.Nat.{ℕ, ◌<◌}
use native.Mathlib.Omega.{arith}
use lib.Dec.{eqb}
use lib.ListN.{length}
use Rattle.machine.proofs.Bytes.{length-words_of, length-table_of}
use Rattle.machine.proofs.Form.{walk_of-fits}
use Rattle.machine.proofs.Words.{small-words, small-table}
use Rattle.machine.specs.Small.{SmallMode}
use Rattle.machine.proofs.Keeps.{fits-call}
use Rattle.machine.specs.Bytes.{count, words_of, table_of}
use Rattle.machine.specs.Call.{Mode, whole, paused, call_walk}
use Rattle.machine.specs.Form as form
use Rattle.walker.proofs.Link.{whole-call, paused-call}
use Rattle.walker.specs.Linked.{Bytes, handed, Agrees}
use Rattle.walker.specs.Shape as shape
use Rattle.walker.specs.Shape.{ending_number}
use Rattle.walker.specs.View as view
use Rattle.walker.specs.declared.Called.{Called}
use Rattle.walker.specs.declared.Walk.{Walk}
use Rattle.firmware.specs.Entries.{handing, gives}

-- what a call of the code's definitions gives, x, is what the call over bytes gives, y, and its walk can be written
pub record Done (x : shape.Outcome) (y : form.Outcome) : Type 0 where
  pub number : x.number ≡ y.number
  pub walk : form.walk_bytes (view.walk_of x.walk) ≡ y.walk
  pub buffer : x.out ≡ y.buffer
  pub events : x.events ≡ y.events
  pub steps : x.steps ≡ y.steps
  pub location : x.walk.at.location < 65536

-- the location of a struct is that of its walk
at-location : (w : Walk) → form.Fits (view.walk_of w) → w.at.location < 65536
unfolding view.walk_of view.walk_in
at-location w f = f.location

at-used : (w : Walk) → form.Fits (view.walk_of w) → w.at.used < 18446744073709551616
unfolding view.walk_of view.walk_in
at-used w f = f.used

-- the answer that is handed is a word
pub small-handing : (given x : ℕ) → x < 65536 → SmallMode (handing given x)
unfolding handing
small-handing given x h = split (eqb given 0) (λ e. rw e tt) (λ e. rw e h)

-- what the call's caller is left with: y, where the call was done
pub left-with : (r : Called) {x : shape.Outcome} {y : form.Outcome} {number written steps : ℕ} {walk buffer : List ℕ} → Done x y
    → (r.walk ≡ x.walk) × ((r.events ≡ x.events) × ((r.steps ≡ x.steps) × ((ending_number r.ending ≡ x.number) × (buffer ≡ x.out))))
    → (number ≡ ending_number r.ending) × (walk ≡ form.walk_bytes (view.walk_of r.walk)) × (written ≡ r.events) × (steps ≡ r.steps)
    → gives number walk buffer written steps ≡ y
left-with told d r g =
    let walk = g.1 ∙ ap (λ w. form.walk_bytes (view.walk_of w)) r.0 ∙ d.walk in
    λ i. gives ((g.0 ∙ r.1.1.1.0 ∙ d.number) i) (walk i) ((r.1.1.1.1 ∙ d.buffer) i) ((g.2 ∙ r.1.0 ∙ d.events) i) ((g.3 ∙ r.1.1.0 ∙ d.steps) i)

-- and where the bytes are no walk
pub left-refused : {number written steps : ℕ} (table tokens s buffer : List ℕ) (m : Mode) (budget : ℕ) → form.walk_of s ≡ none
    → (number ≡ 21) × (written ≡ 0) × (steps ≡ 0) → gives number s buffer written steps ≡ form.call_bytes table tokens m budget s buffer
unfolding form.call_bytes form.outcome
left-refused table tokens s buffer m budget e r = rw e (λ i. gives (r.0 i) s buffer (r.1 i) (r.2 i))

module _ (table tokens : List ℕ) (budget : ℕ) (s buffer : List ℕ) (w : Walk) (small-t : Bytes table) (small-k : Bytes tokens) (small-s : Bytes s)
    (long : length tokens < 18446744073709551616) (sized : length w.returns ≡ 64) (e : form.walk_of s ≡ some (view.walk_of w)) where
  done : (m : Mode) → SmallMode m → (x : shape.Outcome) → Agrees buffer x (call_walk (table_of table) (words_of tokens) m budget (count buffer) (view.walk_of w))
      → Done x (form.call_bytes table tokens m budget s buffer)
  unfolding form.call_bytes form.outcome count
  done m sm x a =
      let n = length-words_of tokens in
      let f : form.Fits (call_walk (table_of table) (words_of tokens) m budget (count buffer) (view.walk_of w)).walk =
      fits-call (table_of table) (words_of tokens) m budget (count buffer) (view.walk_of w) (small-table table small-t) (small-words tokens small-k) sm (length-table_of table) (omega arith) (walk_of-fits s (view.walk_of w) small-s e) in
      rw e (record {
        number = a.number;
        walk = ap form.walk_bytes a.walk;
        buffer = a.out;
        events = a.events;
        steps = a.steps;
        location = at-location x.walk (rw a.walk f);
      })

  used : w.at.used < 18446744073709551616
  used = at-used w (walk_of-fits s (view.walk_of w) small-s e)

  pub whole-done : (answers : List ℕ) → Bytes answers
      → Done (shape.whole_of table tokens answers budget w buffer w.phase) (form.call_bytes table tokens (whole (words_of answers)) budget s buffer)
  whole-done answers small-a = done (whole (words_of answers)) (small-words answers small-a) _ (whole-call table tokens budget w buffer sized used small-t small-k answers small-a)

  pub paused-done : (g : Option ℕ) (given x : ℕ) → paused (handed g) ≡ handing given x → x < 65536
      → Done (shape.paused_of table tokens g budget w buffer w.phase) (form.call_bytes table tokens (handing given x) budget s buffer)
  paused-done g given x e h =
      rw (← e) (done (paused (handed g)) (rw e (small-handing given x h)) _ (paused-call table tokens budget w buffer sized used small-t small-k g (rw e (small-handing given x h))))
