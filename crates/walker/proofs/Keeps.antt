-- A step does not raise the depth but by a push, which it does only below 64; it uses one answer at most, and tells an event only where three words are free. Of the definitions alone.
-- Assumes nothing.
use mathlib.Core.Path.{◌≡◌, refl}
use mathlib.Core.Bool.{Bool, true, false}
use mathlib.Core.List.{List}
use mathlib.Core.Logic.{◌⊎◌, inl, inr}
use Prim.Native.Nat.{ℕ, ◌+◌, ◌-◌, ◌%◌, ◌<◌, ◌≤◌}
use native.Mathlib.Omega.{arith}
use lib.Dec.{eqb, ltb, leb}
use lib.ListN.{get_or}
use borrow.Author.Tests.{ltb-true, leb-true}
use Rattle.std.specs.Prelude.{if◌then◌else◌}
use Rattle.machine.specs.Bytes.{count, word_at}
use Rattle.machine.specs.Lengths.{length_of}
use Rattle.walker.specs.Shape.{size, operand, table_at, take_input, take_other, choice_of, default_of, forward_of, back_of, one_more, mend_of, input_of, any_of, tell_of, input_choice_of, call_of, back_to, return_of, ask_of, answer_of, act_of, operate_of, fetched_of, step_of}
use Rattle.walker.specs.declared.Event.{Event}
use Rattle.walker.specs.declared.Next.{Next}
use Rattle.walker.specs.declared.Registers.{Registers}
use Rattle.walker.specs.declared.Target.{Target}

-- no more return locations are held, and as many answers are used or one more
pub record After (r v : Registers) : Type 0 where
  pub depth : v.depth ≤ r.depth
  pub used : (v.used ≡ r.used) ⊎ (v.used ≡ one_more r.used)

abbrev pub Keeps : ℕ → Registers → Next → Type 0
Keeps room r Next.Full = Unit {0}
Keeps room r Next.Outside = Unit {0}
Keeps room r (Next.Stop x) = Unit {0}
Keeps room r (Next.On v) = After r v
Keeps room r (Next.Tells v e) = After r v × (3 ≤ room)
Keeps room r (Next.Push v l) = After r v × (v.depth < 64)
Keeps room r (Next.Waits v e) = 3 ≤ room

module _ (room : ℕ) (r : Registers) where
  either : (x y : Next) (b : Bool) → (b ≡ true → Keeps room r x) → (b ≡ false → Keeps room r y) → Keeps room r (if b then x else y)
  either x y true f g = f refl
  either x y false f g = g refl

  -- registers with the same depth, and as many answers used
  still : {v : Registers} → v.depth ≡ r.depth → v.used ≡ r.used → After r v
  still e f = record { depth = omega (arith, e); used = inl f }

  input-to : (x : ℕ) (g : Target) → Keeps room r (take_input r x g)
  unfolding take_input
  input-to x (Target.Label l) = still refl refl
  input-to x (Target.Otherwise l) = still refl refl
  input-to x Target.Outside = tt

  other-to : (g : Target) → Keeps room r (take_other r g)
  unfolding take_other
  other-to (Target.Label l) = still refl refl
  other-to (Target.Otherwise l) = still refl refl
  other-to Target.Outside = tt

  tells : (l : ℕ) (e : Event) → Keeps room r (tell_of room l e r)
  unfolding tell_of
  tells l e = either _ _ (leb 3 room) (λ h. (still refl refl, leb-true 3 room h)) (λ _. tt)

  asks : (paused : Bool) (a : List ℕ) (e : Event) → 3 ≤ room → Keeps room r (ask_of paused a e r)
  unfolding ask_of
  asks true a e h = h
  asks false a e h = either _ _ (ltb r.used (count a)) (λ _. (record { depth = omega arith; used = inr refl }, h)) (λ _. tt)

  answers : (paused : Bool) (a : List ℕ) (e : Event) → Keeps room r (answer_of room paused a e r)
  unfolding answer_of
  answers paused a e = either _ _ (leb 3 room) (λ h. asks paused a e (leb-true 3 room h)) (λ _. tt)

  operates : (paused : Bool) (a : List ℕ) (i : ℕ) → Keeps room r (operate_of room paused a i r)
  unfolding operate_of
  operates paused a i =
      either _ _ (ltb i 256) (λ _. tt) (λ _.
      either _ _ (ltb i 512) (λ _. tells _ _) (λ _.
      either _ _ (ltb i 768) (λ _. tells _ _) (λ _.
      either _ _ (ltb i 1024) (λ _. answers paused a _) (λ _.
      either _ _ (ltb i 1280) (λ _. answers paused a _) (λ _. tt)))))

  module _ (rs t k : List ℕ) where
    forwards : Keeps room r (forward_of t r)
    unfolding forward_of
    forwards = either _ _ (leb (table_at t r.location) (size t)) (λ _. still refl refl) (λ _. tt)

    backs : Keeps room r (back_of t r)
    unfolding back_of
    backs = either _ _ (leb (operand t r.location) r.location) (λ _. still refl refl) (λ _. tt)

    mends : Keeps room r (mend_of t room r)
    unfolding mend_of tell_of
    mends = either _ _ (ltb 0 (r.allowance % 65536)) (λ _. either _ _ (leb 3 room) (λ h. (still refl refl, leb-true 3 room h)) (λ _. tt)) (λ _. tt)

    inputs : Keeps room r (input_of t k room r)
    unfolding input_of
    inputs =
        either _ _ (ltb r.read (count k)) (λ _.
        either _ _ (eqb (word_at k r.read) (operand t r.location)) (λ _. still refl refl) (λ _. mends)) (λ _. mends)

    anys : Keeps room r (any_of k r)
    unfolding any_of
    anys = either _ _ (ltb r.read (count k)) (λ _. still refl refl) (λ _. tt)

    input_choices : Keeps room r (input_choice_of t k r)
    unfolding input_choice_of
    input_choices =
        either _ _ (ltb r.read (count k))
        (λ _. input-to (word_at k r.read) (choice_of t r.location (word_at k r.read)))
        (λ _. other-to (default_of t r.location))

    calls : Keeps room r (call_of t r)
    unfolding call_of
    calls =
        either _ _ (eqb (operand t r.location) 0) (λ _. tt) (λ _.
        either _ _ (leb (operand t r.location) (size t)) (λ _.
        either _ _ (ltb r.depth 64) (λ h. (still refl refl, ltb-true r.depth 64 h)) (λ _. tt)) (λ _. tt))

    returns : Keeps room r (return_of rs t r)
    unfolding return_of back_to
    returns =
        either _ _ (eqb r.depth 0) (λ _. tt) (λ _.
        either _ _ (eqb (get_or rs (r.depth - 1) 0) 0) (λ _. tt) (λ _.
        either _ _ (leb (get_or rs (r.depth - 1) 0) (size t)) (λ _. record { depth = omega arith; used = inl refl }) (λ _. tt)))

    acts : (i : ℕ) → Keeps room r (act_of rs t k room i r)
    unfolding act_of
    acts i =
        either _ _ (eqb i 1) (λ _. forwards) (λ _.
        either _ _ (eqb i 2) (λ _. backs) (λ _.
        either _ _ (eqb i 3) (λ _. inputs) (λ _.
        either _ _ (eqb i 4) (λ _. anys) (λ _.
        either _ _ (eqb i 5) (λ _. tells _ _) (λ _.
        either _ _ (eqb i 6) (λ _. tells _ _) (λ _.
        either _ _ (eqb i 7) (λ _. input_choices) (λ _.
        either _ _ (eqb i 8) (λ _. calls) (λ _.
        either _ _ (eqb i 9) (λ _. returns) (λ _.
        either _ _ (eqb i 10) (λ _. still refl refl) (λ _.
        either _ _ (eqb i 11) (λ _. other-to (choice_of t r.location (r.result % 65536))) (λ _.
        either _ _ (eqb i 12) (λ _. tt) (λ _.
        either _ _ (eqb i 13) (λ _. still refl refl) (λ _. tt)))))))))))))

    pub keeps : (a : List ℕ) (paused : Bool) → Keeps room r (step_of rs t k a room paused r)
    unfolding step_of fetched_of
    keeps a paused =
        either _ _ (eqb r.location 0) (λ _. tt) (λ _.
        either _ _ (leb r.location (size t)) (λ _.
        either _ _ (ltb (word_at t (r.location - 1)) 14)
        (λ _. either _ _ (leb (r.location + length_of (word_at t (r.location - 1))) (size t + 1)) (λ _. acts (word_at t (r.location - 1))) (λ _. tt))
        (λ _. operates paused a (word_at t (r.location - 1)))) (λ _. tt))
