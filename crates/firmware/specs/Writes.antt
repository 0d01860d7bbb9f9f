-- Words written to a buffer of bytes, and the walk that a buffer is.
use Rattle.std.specs.Prelude.{List, ◌∷◌, ◌++◌, ◌≡◌, ℕ, ◌*◌, ◌%◌, ◌<◌, min, length, get_or, drop}
use Rattle.std.proofs.Math.Option.{some}
use Rattle.std.proofs.lemmas.List.Edits.{sets}
use Rattle.machine.specs.Bytes.{bytes_of}
use Rattle.machine.specs.Form as form
use Rattle.walker.specs.View as view
use Rattle.walker.specs.declared.Registers.{Registers}
use Rattle.walker.specs.declared.Walk.{Walk}

-- s with the words ws from index i on
unfoldable pub puts : List ℕ → ℕ → List ℕ → List ℕ
puts s i ws = sets s (2 * i) (bytes_of ws)

-- words 2 to 14 of a walk
unfoldable pub register_words : Registers → List ℕ
register_words r = r.location ∷ r.result % 65536 ∷ r.parameter % 65536 ∷ min r.depth 64 ∷ r.allowance % 65536 ∷ (form.words64 r.read ++ form.words64 r.used)

-- the registers that a walk's words name
unfoldable pub registers_in : List ℕ → Registers
registers_in ws = record {
  location = get_or ws 2 0;
  depth = get_or ws 5 0;
  result = get_or ws 3 0;
  parameter = get_or ws 4 0;
  read = form.number64 (drop 7 ws);
  used = form.number64 (drop 11 ws);
  allowance = get_or ws 6 0;
}

-- w is the walk that the bytes s are, and it can be written
pub record Is (s : List ℕ) (w : Walk) : Type 0 where
  pub walk : form.walk_of s ≡ some (view.walk_of w)
  pub location : w.at.location < 65536
  pub returns : length w.returns ≡ 64
