-- "with budgets and buffers enough": two calls of one walk that end neither with 35 nor with 36 give the same, whatever their budgets and
-- buffers; from it the agreement of a whole call with paused calls that each have a budget and a buffer of their own.
use mathlib.Core.Bool.{Bool, true, false}
use mathlib.Core.List.{List, []}
use mathlib.Core.Option.{Option, none, some}
use mathlib.Core.Path.{◌≡◌, refl, sym, ap, ◌∙◌}
use Prim.Native.Nat.{ℕ, zero, suc, ◌+◌, ◌-◌, ◌*◌, ◌^◌, ◌<◌, ◌≤◌}
use native.Mathlib.Omega.{arith}
use lib.Dec.{ltb}
use lib.ListN.{length, drop}
use borrow.Author.Tests.{ltb-false, le-ltb}
use Rattle.std.specs.Prelude.{if◌then◌else◌}
use Rattle.events.specs.Events.{Event, answer}
use Rattle.machine.specs.Call.{Mode, whole, paused, Called, ends, writing, Turn, over, further, takes, hands_out, turn, run, call_in, call_walk}
use Rattle.machine.specs.Step.{Next, goes_outside, stops, goes, tells, asks, step}
use Rattle.machine.specs.Walk.{Phase, going, waiting, stopped, Walk, with_answer, at_rest}
use Rattle.agreement.specs.Pauses.{joined, Enough, Row, first, next, Agree, while_waiting, answering, fed, in_aRow}
use Rattle.agreement.proofs.Pauses.{fed-rests, whole-paused}

-- one turn with less room and with more
data Turns : Turn → Turn → Type 0 where
  over-both : {c : Called} → Turns (over c) (over c)
  on_both : {left more : ℕ} {v : Walk} → left ≤ more → Turns (further left v) (further more v)
  over-35 : {c : Called} {t : Turn} → c.number ≡ 35 → Turns (over c) t

fewer : (r s : ℕ) → r ≤ s → r - 3 ≤ s - 3
fewer r s h = omega arith

takes-both : (o : Option ℕ) (r s n : ℕ) (w : Walk) (e : Event) (v : Walk) → r ≤ s → Turns (takes o r n w e v) (takes o s n w e v)
unfolding takes
takes-both none r s n w e v h = over-both
takes-both (some x) r s n w e v h = on_both (fewer r s h)

hands-both : (m : Mode) (r s n : ℕ) (w : Walk) (e : Event) (v : Walk) → r ≤ s → Turns (hands_out m r n w e v) (hands_out m s n w e v)
unfolding hands_out
hands-both (whole given) r s n w e v h = takes-both (answer given w.io) r s n w e v h
hands-both (paused x) r s n w e v h = over-both

if-both : (a b : Bool) (c : Called) (t u : Turn) → c.number ≡ 35 → (a ≡ false → b ≡ false) → Turns t u
    → Turns (if a then over c else t) (if b then over c else u)
if-both true b c t u e f h = over-35 e
if-both false true c t u e f h = let z : ◌≡◌ {A = Bool} true false = f refl in let y : ◌≡◌ {A = ℕ} 0 1 = cc in absurd (omega arith)
if-both false false c t u e f h = h

less-false : (r s : ℕ) → r ≤ s → ltb r 3 ≡ false → ltb s 3 ≡ false
less-false r s h e = let x = ltb-false r 3 e in le-ltb s 3 (omega arith)

turn-both : (m : Mode) (r s n : ℕ) (w : Walk) (x : Next) → r ≤ s → Turns (turn m r n w x) (turn m s n w x)
unfolding turn ends
turn-both m r s n w goes_outside h = over-both
turn-both m r s n w (stops y) h = over-both
turn-both m r s n w (goes v) h = on_both h
turn-both m r s n w (tells e v) h = if-both (ltb r 3) (ltb s 3) (ends 35 n w) (further (r - 3) (writing e v)) (further (s - 3) (writing e v)) refl (less-false r s h) (on_both (fewer r s h))
turn-both m r s n w (asks e v) h = if-both (ltb r 3) (ltb s 3) (ends 35 n w) (hands_out m r n w e v) (hands_out m s n w e v) refl (less-false r s h) (hands-both m r s n w e v h)

module _ (T tokens : List ℕ) where
  run_more : (b c r s n : ℕ) (m : Mode) (w : Walk) → b ≤ c → r ≤ s → Enough (run T tokens b m r n w) → run T tokens c m s n w ≡ run T tokens b m r n w
  unfolding run ends
  run_more zero c r s n m w hb hr h = absurd (h.1 refl)
  run_more (suc b) zero r s n m w hb hr h = absurd (omega arith)
  run_more (suc b) (suc c) r s n m w hb hr h =
      go (turn m r n w (step T tokens w)) (turn m s n w (step T tokens w)) (turn-both m r s n w (step T tokens w) hr) (λ left more v p q. run_more b c left more (n + 1) m v (omega arith) p q) h
    where
      go : (t u : Turn) → Turns t u
          → ((left more : ℕ) (v : Walk) → left ≤ more → Enough (run T tokens b m left (n + 1) v) → run T tokens c m more (n + 1) v ≡ run T tokens b m left (n + 1) v)
          → Enough (elim t as (λ _. Called) [ over d ↦ d | further left v ↦ run T tokens b m left (n + 1) v ])
          → ◌≡◌ {A = Called} (elim u as (λ _. Called) [ over d ↦ d | further left v ↦ run T tokens c m left (n + 1) v ]) (elim t as (λ _. Called) [ over d ↦ d | further left v ↦ run T tokens b m left (n + 1) v ])
      go (over d) (over d') over-both ih e = refl
      go (further left v) (further more v') (on_both p) ih e = ih left more v p e
      go (over d) u (over-35 q) ih e = absurd (e.0 q)
      go (further left v) (over d') x7 ih e = elim x7 [ ]

  call-more : (p : Phase) (m : Mode) (b c r s : ℕ) (w : Walk) → b ≤ c → r ≤ s → Enough (call_in T tokens p m b r w) → call_in T tokens p m c s w ≡ call_in T tokens p m b r w
  unfolding call_in
  call-more going (whole given) b c r s w hb hr h = run_more b c r s 0 (whole given) (at_rest w) hb hr h
  call-more going (paused none) b c r s w hb hr h = run_more b c r s 0 (paused none) (at_rest w) hb hr h
  call-more going (paused (some x)) b c r s w hb hr h = refl
  call-more waiting (whole given) b c r s w hb hr h = refl
  call-more waiting (paused none) b c r s w hb hr h = refl
  call-more waiting (paused (some x)) b c r s w hb hr h = run_more b c r s 0 (paused none) (with_answer x (at_rest w)) hb hr h
  call-more (stopped y) (whole given) b c r s w hb hr h = refl
  call-more (stopped y) (paused none) b c r s w hb hr h = refl
  call-more (stopped y) (paused (some x)) b c r s w hb hr h = refl

  -- with more budget and a larger buffer than were enough
  pub more-enough : (m : Mode) (b c r s : ℕ) (w : Walk) → b ≤ c → r ≤ s → Enough (call_walk T tokens m b r w) → call_walk T tokens m c s w ≡ call_walk T tokens m b r w
  unfolding call_walk
  more-enough m b c r s w hb hr h = call-more w.phase m b c r s w hb hr h

  pub enough : (m : Mode) (b c r s : ℕ) (w : Walk) → Enough (call_walk T tokens m b r w) → Enough (call_walk T tokens m c s w)
      → call_walk T tokens m b r w ≡ call_walk T tokens m c s w
  enough m b c r s w h k = sym (more-enough m b (b + c) r (r + s) w (omega arith) (omega arith) h) ∙ more-enough m c (b + c) s (r + s) w (omega arith) (omega arith) k

  -- a budget and a room that all the calls of a row could have shared
  record Shared (w : Walk) (given xs : List ℕ) (c : Called) : Type 0 where
    budget : ℕ
    room : ℕ
    row : (b r : ℕ) → budget ≤ b → room ≤ r → in_aRow T tokens b r given w ≡ fed T tokens b r xs c

  on-waiting : (p : Phase) (c d : Called) → p ≡ waiting → while_waiting p c d ≡ d
  unfolding while_waiting
  on-waiting p c d e = rw e

  shared : {w : Walk} {given xs : List ℕ} {c : Called} → Row T tokens w given xs c → Shared w given xs c
  unfolding in_aRow fed answering
  shared {w} {given} (first b r h) =
      record { budget = b; room = r; row = λ c s hb hr. ap (fed T tokens c s given) (more-enough (paused none) b c r s w hb hr h) }
  shared {w} {given} (next {x = x} {xs = xs} {c = c} l p b r h) =
      let k = shared l in
      record {
        budget = k.budget + c.steps + b;
        room = k.room + 3 * length c.events + r;
        row = λ b' r' hb hr. k.row b' r' (omega arith) (omega arith) ∙ on-waiting c.walk.phase c (fed T tokens b' r' xs (answering T tokens b' r' x c)) p
            ∙ ap (λ (d : Called). fed T tokens b' r' xs (joined c d))
            (more-enough (paused (some x)) b (b' - c.steps) r (r' - 3 * length c.events) c.walk (omega arith) (omega arith) h);
      }

  -- a row that has gone as far as it can
  rests : (b r : ℕ) (xs : List ℕ) (c : Called) (p : Phase) → c.walk.phase ≡ p → (c.walk.phase ≡ waiting → xs ≡ []) → fed T tokens b r xs c ≡ c
  unfolding fed
  rests b r xs c going e h = fed-rests T tokens b r xs c (λ z. going-waits (sym e ∙ z))
    where
      going-waits : ◌≡◌ {A = Phase} going waiting → ⊥
      going-waits q = let z : ◌≡◌ {A = ℕ} 0 1 = cc in omega arith
  rests b r xs c waiting e h = rw (h e)
  rests b r xs c (stopped y) e h = fed-rests T tokens b r xs c (λ z. stopped-waits (sym e ∙ z))
    where
      stopped-waits : stopped y ≡ waiting → ⊥
      stopped-waits q = let z : ◌≡◌ {A = ℕ} 0 1 = cc in omega arith

  -- "Fed the same answers, with budgets and buffers enough, the two agree": a whole call of any walk that does not wait, by any table, and any
  -- paused calls of it, given the answers from the next one on, as far as they can go
  pub agree-enough : (answers : List ℕ) → length answers < 2 ^ 64 → (w : Walk) → (w.phase ≡ waiting → ⊥)
      → (budget room : ℕ) → Enough (call_walk T tokens (whole answers) budget room w)
      → {xs : List ℕ} {c : Called} → Row T tokens w (drop w.io.used answers) xs c → (c.walk.phase ≡ waiting → xs ≡ [])
      → Agree T tokens answers w (call_walk T tokens (whole answers) budget room w) c
  agree-enough answers short w n budget room h {xs} {c} l q =
      let k = shared l in
      let b = budget + k.budget in
      let r = room + k.room in
      let one = more-enough (whole answers) budget b room r w (omega arith) (omega arith) h in
      let all = k.row b r (omega arith) (omega arith) ∙ rests b r xs c c.walk.phase refl q in
      rw (one, all) at (whole-paused T tokens b r answers short w n)
