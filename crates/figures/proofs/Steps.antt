-- The steps of a call are done at the locations visited, one each, and each is an instruction of the table.
use mathlib.Core.Bool.{Bool, true, false}
use mathlib.Core.List.{List, [], ◌∷◌, ◌++◌}
use mathlib.Core.Logic.{◌⊎◌, inl, inr}
use mathlib.Core.Option.{Option, none, some}
use mathlib.Core.Path.{◌≡◌, refl, sym, ap, ◌∙◌, subst}
use Prim.Native.Nat.{ℕ, zero, suc, ◌+◌, ◌-◌, ◌≤◌, ◌<◌}
use native.Mathlib.Omega.{arith}
use lib.Dec.{ltb}
use lib.ListN.{length, get_elem?, replicate}
use borrow.Author.Tests.{lt-ltb, le-ltb}
use Rattle.std.specs.Prelude.{if◌then◌else◌}
use Rattle.events.specs.Events.{Event, answer}
use Rattle.figures.specs.Visits.{visits, Given, called, visited}
use Rattle.machine.specs.Call.{Mode, whole, paused, Called, Turn, over, further, ends, ends_for, writing, takes, hands_out, turn, run, call_in, call_walk}
use Rattle.machine.specs.Decode.{fetch, Instruction, invalid, decode_at, decode}
use Rattle.machine.specs.Decode as decodes
use Rattle.machine.specs.Lengths as lengths
use Rattle.machine.specs.Step.{Next, goes_outside, stops, goes, tells, asks, exec, step}
use Rattle.machine.specs.Walk.{Walk, fresh, at_rest}

-- As many as steps

-- a call that is over after n steps, or after one more
abbrev Ends : ℕ → Turn → Type 0
Ends n (over c) = (c.steps ≡ n) ⊎ (c.steps ≡ n + 1)
Ends n (further left v) = Unit {0}

ends-takes : (o : Option ℕ) (room n : ℕ) (w : Walk) (e : Event) (v : Walk) → Ends n (takes o room n w e v)
unfolding takes ends_for ends
ends-takes none room n w e v = inr refl
ends-takes (some x) room n w e v = tt

ends-hands_out : (m : Mode) (room n : ℕ) (w : Walk) (e : Event) (v : Walk) → Ends n (hands_out m room n w e v)
unfolding hands_out ends
ends-hands_out (whole given) room n w e v = ends-takes (answer given w.io) room n w e v
ends-hands_out (paused x) room n w e v = inr refl

ends-if : (n : ℕ) (t : Bool) (x y : Turn) → Ends n x → Ends n y → Ends n (if t then x else y)
ends-if n true x y p q = p
ends-if n false x y p q = q

ends-turn : (m : Mode) (room n : ℕ) (w : Walk) (nx : Next) → Ends n (turn m room n w nx)
unfolding turn ends_for ends
ends-turn m room n w goes_outside = inl refl
ends-turn m room n w (stops r) = inr refl
ends-turn m room n w (goes v) = tt
ends-turn m room n w (tells e v) = ends-if n (ltb room 3) (over (ends 35 n w)) (further (room - 3) (writing e v)) (inl refl) tt
ends-turn m room n w (asks e v) = ends-if n (ltb room 3) (over (ends 35 n w)) (hands_out m room n w e v) (inl refl) (ends-hands_out m room n w e v)

one-or-none : (n k l : ℕ) → (k ≡ n) ⊎ (k ≡ n + 1) → length (if ltb n k then l ∷ [] else []) + n ≡ k
one-or-none n k l (inl e) = rw (le-ltb n k (omega arith)) (omega arith)
one-or-none n k l (inr e) = rw (lt-ltb n k (omega arith)) (omega arith)

module _ (T tokens : List ℕ) where
  length-visits : (b : ℕ) (m : Mode) (room n : ℕ) (w : Walk) → length (visits T tokens b m room n w) + n ≡ (run T tokens b m room n w).steps
  unfolding visits run ends
  length-visits zero m room n w = omega arith
  length-visits (suc b) m room n w = go (turn m room n w (step T tokens w)) (ends-turn m room n w (step T tokens w)) (λ left v. length-visits b m left (n + 1) v)
    where
      go : (t : Turn) → Ends n t → ((left : ℕ) (v : Walk) → length (visits T tokens b m left (n + 1) v) + (n + 1) ≡ (run T tokens b m left (n + 1) v).steps)
          → length {A = ℕ} (elim t as (λ _. List ℕ) [ over c ↦ if ltb n c.steps then w.location ∷ [] else [] | further left v ↦ w.location ∷ visits T tokens b m left (n + 1) v ]) + n
          ≡ (elim t as (λ _. Called) [ over c ↦ c | further left v ↦ run T tokens b m left (n + 1) v ]).steps
      go (over c) h rest = one-or-none n c.steps w.location h
      go (further left v) h rest = omega (arith, rest left v)

-- the locations visited are as many as the steps of the call
pub length-visited : (T : List ℕ) (g : Given) → length (visited T g) ≡ (called T g).steps
unfolding visited called call_walk call_in fresh
length-visited T g = omega (arith, length-visits T g.tokens g.budget (whole g.answers) g.room 0 (at_rest (fresh g.allowance)))

-- Inside the table

abbrev pub Every : (ℕ → Type 0) → List ℕ → Type 0
Every P [] = Unit {0}
Every P (l ∷ ls) = P l × Every P ls

-- an instruction begins there
abbrev pub Valid : List ℕ → ℕ → Type 0
Valid T l = decode T l ≡ invalid → ⊥

every_one : (P : ℕ → Type 0) (t : Bool) (l : ℕ) → P l → Every P (if t then l ∷ [] else [])
every_one P true l h = (h, tt)
every_one P false l h = tt

-- all but 37
abbrev Done : Next → Type 0
Done goes_outside = ⊥
Done (stops r) = Unit {0}
Done (goes v) = Unit {0}
Done (tells e v) = Unit {0}
Done (asks e v) = Unit {0}

-- 37 does nothing
nothing-at-37 : (n l : ℕ) (P : ℕ → Type 0) → Every P (if ltb n n then l ∷ [] else [])
nothing-at-37 n l P = rw (le-ltb n n (omega arith)) tt

module _ (T tokens : List ℕ) where
  step-outside : (w : Walk) → decode T w.location ≡ invalid → step T tokens w ≡ goes_outside
  unfolding step exec
  step-outside w e = ap (λ (i : Instruction). exec T tokens i w) e

  done-valid : (w : Walk) (nx : Next) → step T tokens w ≡ nx → Done nx → Valid T w.location
  done-valid w nx d h e = subst Done (sym d ∙ step-outside w e) h

  valid-visits : (b : ℕ) (m : Mode) (room n : ℕ) (w : Walk) → Every (Valid T) (visits T tokens b m room n w)
  unfolding visits turn ends_for ends
  valid-visits zero m room n w = tt
  valid-visits (suc b) m room n w = next (step T tokens w) refl (λ left v. valid-visits b m left (n + 1) v)
    where
      go : Valid T w.location → (t : Turn) → ((left : ℕ) (v : Walk) → Every (Valid T) (visits T tokens b m left (n + 1) v))
          → Every (Valid T) (elim t as (λ _. List ℕ) [ over c ↦ if ltb n c.steps then w.location ∷ [] else [] | further left v ↦ w.location ∷ visits T tokens b m left (n + 1) v ])
      go h (over c) rest = every_one (Valid T) (ltb n c.steps) w.location h
      go h (further left v) rest = (h, rest left v)

      next : (nx : Next) → step T tokens w ≡ nx → ((left : ℕ) (v : Walk) → Every (Valid T) (visits T tokens b m left (n + 1) v))
          → Every (Valid T) (elim (turn m room n w nx) as (λ _. List ℕ) [ over c ↦ if ltb n c.steps then w.location ∷ [] else [] | further left v ↦ w.location ∷ visits T tokens b m left (n + 1) v ])
      next goes_outside d rest = nothing-at-37 n w.location (Valid T)
      next (stops r) d rest = go (done-valid w (stops r) d tt) (turn m room n w (stops r)) rest
      next (goes v) d rest = go (done-valid w (goes v) d tt) (turn m room n w (goes v)) rest
      next (tells e v) d rest = go (done-valid w (tells e v) d tt) (turn m room n w (tells e v)) rest
      next (asks e v) d rest = go (done-valid w (asks e v) d tt) (turn m room n w (asks e v)) rest

pub valid-visited : (T : List ℕ) (g : Given) → Every (Valid T) (visited T g)
unfolding visited
valid-visited T g = valid-visits T g.tokens g.budget (whole g.answers) g.room 0 (at_rest (fresh g.allowance))

-- An instruction begins inside the table, and not on a 0: what the processor leaves behind the table is never executed

-- there is an instruction there
abbrev Stands : Option ℕ → Type 0
Stands none = ⊥
Stands (some zero) = ⊥
Stands (some (suc x)) = Unit {0}

stands_at : (l : ℕ) (o x : Option ℕ) → (decode_at l o x ≡ invalid → ⊥) → Stands o
unfolding decodes.opened lengths.opened
stands_at l none x h = h refl
stands_at l (some zero) none h = h refl
stands_at l (some zero) (some y) h = h refl
stands_at l (some (suc i)) x h = tt

valid-stands : (T : List ℕ) (l : ℕ) → Valid T l → Stands (fetch T l)
unfolding decode
valid-stands T l h = stands_at l (fetch T l) (fetch T (suc l)) h

in-zeros : (z i : ℕ) → Stands (get_elem? (replicate z 0) i) → ⊥
in-zeros zero i h = h
in-zeros (suc z) zero h = h
in-zeros (suc z) (suc i) h = in-zeros z i h

in-front : (a : List ℕ) (z i : ℕ) → Stands (get_elem? (a ++ replicate z 0) i) → i < length a
in-front [] z i h = absurd (in-zeros z i h)
in-front (x ∷ a) z zero h = omega arith
in-front (x ∷ a) z (suc i) h = let ih = in-front a z i h in omega arith

-- the locations of a table
abbrev pub Inside : ℕ → ℕ → Type 0
Inside n l = (0 < l) × (l ≤ n)

pub inside : (a : List ℕ) (z l : ℕ) → Valid (a ++ replicate z 0) l → Inside (length a) l
unfolding fetch
inside a z l h = go l (valid-stands (a ++ replicate z 0) l h)
  where
    go : (l : ℕ) → Stands (fetch (a ++ replicate z 0) l) → Inside (length a) l
    go zero s = absurd s
    go (suc i) s = let b = in-front a z i s in (omega arith, omega arith)

every_map : {P Q : ℕ → Type 0} → ((l : ℕ) → P l → Q l) → (ls : List ℕ) → Every P ls → Every Q ls
every_map f [] h = tt
every_map f (l ∷ ls) h = (f l h.0, every_map f ls h.1)

pub visited-inside : (a : List ℕ) (z : ℕ) (g : Given) → Every (Inside (length a)) (visited (a ++ replicate z 0) g)
visited-inside a z g = every_map (inside a z) (visited (a ++ replicate z 0) g) (valid-visited (a ++ replicate z 0) g)
