-- A walk's struct against its form: what is written of it, what words name, and which bytes are a walk.
use mathlib.Core.Bool.{true, false}
use mathlib.Core.List.{List, [], ◌++◌, append_assoc, reverse}
use mathlib.Core.Option.{Option, none, some}
use mathlib.Core.Path.{◌≡◌, refl, ap, ◌∙◌}
use Prim.Native.Nat.{ℕ, ◌%◌, ◌<◌, min}
use native.Mathlib.Omega.{arith}
use lib.ListN.{length, take, drop, get_or, length-append, length-take, length-reverse}
use Rattle.base.specs.Common.{same}
use Rattle.machine.proofs.Form.{length-phase_words, walk_of-length}
use Rattle.machine.specs.Bytes.{words_of}
use Rattle.machine.specs.Form as form
use Rattle.machine.specs.Walk as machine
use Rattle.walker.specs.View as view
use Rattle.walker.specs.declared.Phase.{Phase}
use Rattle.walker.specs.declared.Registers.{Registers}
use Rattle.walker.specs.declared.Walk.{Walk}
use Rattle.firmware.specs.Writes.{puts, register_words, registers_in}
use Rattle.firmware.proofs.Laws.{puts_then, puts-all, length-return-words}

length-registers : (r : Registers) → length (register_words r) ≡ 13
unfolding register_words form.words64
length-registers r = refl

-- the words of a walk, part by part
words-of : (w : Walk) → length w.returns ≡ 64
    → (form.phase_words (view.phase_of w.phase) ++ register_words w.at) ++ form.return_words (reverse (take w.at.depth w.returns)) ≡ form.walk_words (view.walk_of w)
unfolding view.walk_of view.walk_in register_words form.walk_words
words-of w e =
    let n : length (reverse (take w.at.depth w.returns)) ≡ min w.at.depth 64 = simp (length-reverse, length-take) (omega arith) in
    rw n (simp append_assoc)

-- phase, registers and return locations, each written in its place, are the form
pub walk-written : (s : List ℕ) (w : Walk) → length s ≡ 158 → length w.returns ≡ 64
    → puts (puts (puts s 0 (form.phase_words (view.phase_of w.phase))) 2 (register_words w.at)) 15 (form.return_words (reverse (take w.at.depth w.returns))) ≡ form.walk_bytes (view.walk_of w)
unfolding form.walk_bytes
walk-written s w e n =
    let a = form.phase_words (view.phase_of w.phase) in
    let b = register_words w.at in
    let c = form.return_words (reverse (take w.at.depth w.returns)) in
    let la = length-phase_words (view.phase_of w.phase) in
    let lb : length b ≡ 13 = length-registers w.at in
    let lc = length-return-words w.at.depth w.returns n in
    let lab = length-append a b in
    let labc = length-append (a ++ b) c in
    rw (puts_then s 0 a b 2 (omega arith), puts_then s 0 (a ++ b) c 15 (omega arith), puts-all s ((a ++ b) ++ c) (omega arith), words-of w n)

-- what words name, part by part
pub named-is : (ph : Phase) (at : Registers) (rs ws : List ℕ) → view.phase_of ph ≡ form.phase_of (get_or ws 0 0) (get_or ws 1 0) → at ≡ registers_in ws
    → rs ≡ take 64 (drop 15 ws) → ((i : ℕ) → get_or ws i 0 < 65536) → view.walk_of (record { phase = ph; at = at; returns = rs }) ≡ form.walk_named ws
unfolding view.walk_of view.walk_in registers_in form.walk_named
named-is ph at rs ws p e f small =
    let result : at.result % 65536 ≡ get_or ws 3 0 = ap (λ (r : Registers). r.result % 65536) e ∙ omega (arith, small 3) in
    let parameter : at.parameter % 65536 ≡ get_or ws 4 0 = ap (λ (r : Registers). r.parameter % 65536) e ∙ omega (arith, small 4) in
    let allowance : at.allowance % 65536 ≡ get_or ws 6 0 = ap (λ (r : Registers). r.allowance % 65536) e ∙ omega (arith, small 6) in
    λ i. record {
      phase = p i;
      location = (e i).location;
      returns = reverse (take (e i).depth (f i));
      result = result i;
      parameter = parameter i;
      io = record { read = (e i).read; used = (e i).used; allowance = allowance i; events = [] };
    }

-- only 158 bytes are a walk
pub no_walk : (s : List ℕ) → ((i : ℕ) → get_or s i 0 < 256) → (length s ≡ 158 → ⊥) → form.walk_of s ≡ none
no_walk s b h = by_cases (form.walk_of s) refl
  where
    by_cases : (o : Option machine.Walk) → form.walk_of s ≡ o → o ≡ none
    by_cases none e = refl
    by_cases (some w) e = absurd (h (walk_of-length s w b e))

-- what the words of s name is the walk that s is, if it is written as s
pub is_walk : (s : List ℕ) (v : machine.Walk) → v ≡ form.walk_named (words_of s) → same (form.walk_bytes v) s ≡ true → form.walk_of s ≡ some v
unfolding form.walk_of
is_walk s v e t = rw (← e, t)

pub is-no-walk : (s : List ℕ) (v : machine.Walk) → v ≡ form.walk_named (words_of s) → same (form.walk_bytes v) s ≡ false → form.walk_of s ≡ none
unfolding form.walk_of
is-no-walk s v e t = rw (← e, t)
