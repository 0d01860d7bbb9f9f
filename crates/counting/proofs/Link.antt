-- The locations that the code's loop meets are those of the machine's definition.
use mathlib.Core.Bool.{false}
use mathlib.Core.List.{List, [], ◌∷◌, ◌++◌}
use mathlib.Core.Path.{◌≡◌, refl, ap, ◌∙◌}
use Prim.Native.Nat.{ℕ, zero, suc, ◌+◌, ◌*◌, ◌-◌, ◌%◌, ◌<◌}
use native.Mathlib.Omega.{arith}
use lib.Dec.{ltb}
use lib.ListN.{length, set, replicate, length-set, length-replicate}
use borrow.Author.Tests.{lt-ltb, le-ltb}
use Rattle.std.specs.Prelude.{if◌then◌else◌}
use Rattle.counting.specs.Counting.{visits_of, book_visits, book_of}
use Rattle.events.specs.Events as events
use Rattle.figures.specs.Form.{given_of}
use Rattle.figures.specs.Visits.{visits, called, visited}
use Rattle.machine.specs.Bytes.{count, words_of, table_of, bytes_of, over}
use Rattle.machine.specs.Call as calls
use Rattle.machine.specs.Call.{whole, further, ends, ends_for, call_in, call_walk}
use Rattle.machine.specs.Form.{events_words}
use Rattle.machine.specs.Walk as machine
use Rattle.walker.proofs.Keeps.{Keeps, keeps}
use Rattle.walker.proofs.Link.{Held, held_after, go-run}
use Rattle.walker.proofs.LinkStep.{with_events, in_call, turn_of, step-turn}
use Rattle.walker.specs.Linked.{Bytes, Agrees}
use Rattle.walker.specs.Shape.{fresh_at, with_depth, step_of}
use Rattle.walker.specs.View.{walk_in, event_of}
use Rattle.walker.specs.declared.Next.{Next}
use Rattle.walker.specs.declared.Next.TheVariants.{Full, Stop, On, Tells, Push, Waits}
use Rattle.walker.specs.declared.Registers.{Registers}

none_here : (n l : ℕ) → [] ≡ (if ltb n n then l ∷ [] else [])
none_here n l = rw (le-ltb n n (omega arith))

one-here : (n l : ℕ) → l ∷ [] ≡ (if ltb n (n + 1) then l ∷ [] else [])
one-here n l = rw (lt-ltb n (n + 1) (omega arith))

module _ (t k a : List ℕ) (small-t : Bytes t) (small-k : Bytes k) (small-a : Bytes a) where
  abbrev Same : ℕ → Type 0
  Same n = (r : Registers) (rs : List ℕ) (room d : ℕ) (es : List events.Event) → length rs ≡ 64 → Held r
      → visits_of t k a n r rs room ≡ visits (table_of t) (words_of k) n (whole (words_of a)) room d (in_call es r rs)

  module _ (n : ℕ) (ih : Same n) (r : Registers) (rs : List ℕ) (room d : ℕ) (es : List events.Event) (sized : length rs ≡ 64) (held : Held r) where
    next : (x : Next) → Keeps room r x → ◌≡◌ {A = List ℕ}
        (elim x as (λ y. List ℕ) [
          | Full ↦ []
          | Next.Outside ↦ []
          | Stop y ↦ r.location ∷ []
          | On v ↦ r.location ∷ visits_of t k a n v rs room
          | Tells v y ↦ r.location ∷ visits_of t k a n v rs (room - 3)
          | Push v l ↦ r.location ∷ visits_of t k a n (with_depth v (v.depth + 1)) (set rs v.depth l) room
          | Waits v y ↦ r.location ∷ []
        ])
        (elim (turn_of room d es r rs x) as (λ y. List ℕ) [
          | calls.over c ↦ if ltb d c.steps then r.location ∷ [] else []
          | further left v ↦ r.location ∷ visits (table_of t) (words_of k) n (whole (words_of a)) left (d + 1) v
        ])
    unfolding turn_of ends_for ends
    next Full h = none_here d r.location
    next Next.Outside h = none_here d r.location
    next (Stop y) h = one-here d r.location
    next (On v) h = ap (λ (l : List ℕ). r.location ∷ l) (ih v rs room (d + 1) es sized (held_after h held))
    next (Tells v y) h = ap (λ (l : List ℕ). r.location ∷ l) (ih v rs (room - 3) (d + 1) (es ++ (event_of y ∷ [])) sized (held_after h.0 held))
    next (Push v l) h =
        ap (λ (x : List ℕ). r.location ∷ x)
        (ih (with_depth v (v.depth + 1)) (set rs v.depth l) room (d + 1) es (length-set rs v.depth l ∙ sized) (record { depth = omega (arith, h.1); used = (held_after h.0 held).used }))
    next (Waits v y) h = one-here d r.location

  pub same-visits : (n : ℕ) → Same n
  unfolding visits_of visits with_events walk_in machine.with_io
  same-visits zero r rs room d es h held = refl
  same-visits (suc n) r rs room d es h held =
      rw (step-turn t k a room d false es r rs h held.depth held.used small-t small-k small-a, visits)
      (next n (same-visits n) r rs room d es h held (step_of rs t k a room false r) (keeps room r rs t k a false))

  pub book-visits : (budget allowance words : ℕ) → allowance < 65536
      → book_visits t k a budget allowance words ≡ visited (table_of t) (record { tokens = words_of k; answers = words_of a; budget = budget; allowance = allowance; room = words })
  unfolding book_visits visited with_events walk_in machine.opened
  book-visits budget allowance words h =
      let e : allowance % 65536 ≡ allowance = omega arith in
      rw e at (same-visits budget (fresh_at allowance) (replicate 64 0) words 0 [] (length-replicate {A = ℕ} 64 0) (record { depth = omega arith; used = omega arith }))

  -- and what the code's call gives is what the machine's gives
  pub book-call : (budget allowance : ℕ) (o : List ℕ) → allowance < 65536
      → Agrees o (book_of t k a budget allowance o) (called (table_of t) (given_of k a budget allowance o))
  unfolding book_of called given_of call_walk call_in with_events walk_in machine.opened over bytes_of events_words
  book-call budget allowance o h =
      let e : allowance % 65536 ≡ allowance = omega arith in
      let z : count o - 3 * 0 ≡ count o = omega arith in
      rw (e, z) at (go-run t k a false o small-t small-k small-a budget (fresh_at allowance) (replicate 64 0) o 0 0 [] (length-replicate {A = ℕ} 64 0) (record { depth = omega arith; used = omega arith }) refl refl)
