-- The answer, and every lent byte.
use Rattle.std.specs.Prelude.{List, ◌++◌, ◌≡◌, ℕ, suc, ◌*◌, ◌≤◌, min, length, take, drop}
use Rattle.machine.specs.Bytes.{count, bytes_of, words_of}
use Rattle.parts.specs.Form as form
use Rattle.parts.specs.Form.{made, unmade, if_fits, make_object, lent_object}
use Rattle.separate.specs.declared.Fault.{Fault}
use Rattle.separate.specs.declared.Made.{Made}
use Rattle.separate.specs.declared.Written.{Written}

-- the answer as the code's struct
unfoldable pub answered : form.Made → Made
answered (made ws) = record { number = 0; text = 0; start = 0; len = 0; words = length ws }
answered (unmade n t p) = record { number = n; text = t; start = p.start; len = p.size; words = 0 }

-- the lent bytes: "an odd last byte counts for nothing and is not touched"
unfoldable pub lent_bytes : form.Made → List ℕ → List ℕ
lent_bytes m lent = bytes_of (lent_object m (count lent)) ++ drop (2 * count lent) lent

-- the code's answer and the lent bytes are those of m
pub record Settles (m : form.Made) (old new : List ℕ) (r : Made) : Type 0 where
  pub answer : r ≡ answered m
  pub lent : new ≡ lent_bytes m old

-- what is promised of the whole
abbrev pub Makes : List ℕ → List ℕ → List ℕ → List ℕ → Made → Type 0
Makes common part old new r = Settles (make_object common part (count old)) old new r

-- Parts of it

-- a fault as a part of a text
abbrev pub unmade_by : Fault → form.Made
unmade_by f = unmade f.number f.text (record { start = f.start; size = f.len })

abbrev pub Refused : List ℕ → List ℕ → Fault → Made → Type 0
Refused old new f r = Settles (unmade_by f) old new r

-- of the words ws, as many as there is room for stand in front of the lent ones; n counts them up to one above the room
pub record Holds (lent ws : List ℕ) (n : ℕ) : Type 0 where
  pub total : n ≡ min (suc (count lent)) (length ws)
  pub front : length ws ≤ count lent → take (length ws) (words_of lent) ≡ ws

-- what is not written is kept
pub record Keeps (old new : List ℕ) : Type 0 where
  pub size : length new ≡ length old
  pub odd : drop (2 * count old) new ≡ drop (2 * count old) old

-- the answer for what was written, the part having so many bytes
pub record Concludes (old new : List ℕ) (size : ℕ) (w : Written) (r : Made) : Type 0 where
  pub faulty : (w.fault.number ≡ 0 → ⊥) → Refused old new w.fault r
  pub whole : w.fault.number ≡ 0 → (part ws : List ℕ) → length part ≡ size → Holds old ws w.words → Settles (if_fits part (count old) ws) old new r

-- all of this file computes where this is unfolded
unfoldable pub opened : Unit {0}
unfolding answered lent_bytes
opened = tt
