-- The byte form of walks is canonical: a walk that fits is read back from its bytes, and bytes that are read as a walk are that walk's.
use mathlib.Core.Path.{◌≡◌, refl, sym, ap, ◌∙◌, subst}
use mathlib.Core.Bool.{Bool, true, false}
use mathlib.Core.List.{List, [], ◌∷◌, ◌++◌, reverse, reverse-reverse}
use mathlib.Core.Option.{none, some}
use Prim.Native.Nat.{ℕ, ◌-◌, ◌<◌, ◌≤◌}
use native.Mathlib.Omega.{arith}
use lib.ListN.{length, take, drop, get_or, replicate, length-append, length-take, length-drop, length-reverse, length-replicate}
use lib.Seq.{take_at, take-take}
use Rattle.base.proofs.Laws.{same_refl, same-eq}
use Rattle.base.specs.Common.{same}
use Rattle.base.specs.Bools.{never, split}
use Rattle.events.specs.Events.{Reason, finished, differs, missing, unlabelled, deep, unanswered, outside, reason_number}
use Rattle.machine.specs.Bytes.{words_of, bytes_of}
use Rattle.machine.specs.Walk.{Phase, going, waiting, stopped, Walk}
use Rattle.machine.specs.Form.{phase_words, words64, return_words, walk_words, walk_bytes, reason_of, phase_of, walk_named, walk_of, Fits}
use Rattle.machine.specs.Small.{Small}
use Rattle.machine.proofs.Bytes.{words_of-bytes_of, length-bytes_of}
use Rattle.machine.proofs.Words.{small-words, small-take, small-drop, small-reverse, small-number, number64-words64}

-- From a walk to its bytes and back

pub reason-back : (r : Reason) → reason_of (reason_number r) ≡ r
unfolding reason_of reason_number
reason-back finished = refl
reason-back differs = refl
reason-back missing = refl
reason-back unlabelled = refl
reason-back deep = refl
reason-back unanswered = refl
reason-back outside = refl

returns-back : (rs : List ℕ) → length rs ≤ 64 → reverse (take (length rs) (take 64 (return_words rs))) ≡ rs
unfolding return_words
returns-back rs h = rw (take-take (length rs) 64 (reverse rs ++ replicate (64 - length rs) 0) h, take_at (reverse rs) (replicate (64 - length rs) 0) (length rs) (length-reverse rs)) (reverse-reverse rs)

-- the words after those of the phase
after_phase : Walk → List ℕ
after_phase w =
    w.location ∷ w.result ∷ w.parameter ∷ length w.returns
    ∷ w.io.allowance ∷ (words64 w.io.read ++ (words64 w.io.used ++ return_words w.returns))

named : (a b : ℕ) (w : Walk) → length w.returns ≤ 64 → w.io.events ≡ [] → phase_of a b ≡ w.phase → walk_named (a ∷ b ∷ after_phase w) ≡ w
unfolding walk_named after_phase words64
named a b w d e p = λ i. record {
  phase = p i;
  location = w.location;
  result = w.result;
  parameter = w.parameter;
  returns = returns-back w.returns d i;
  io = record {
    read = number64-words64 w.io.read (words64 w.io.used ++ return_words w.returns) i;
    used = number64-words64 w.io.used (return_words w.returns) i;
    allowance = w.io.allowance;
    events = sym e i;
  };
}

named_in : (p : Phase) (w : Walk) → length w.returns ≤ 64 → w.io.events ≡ [] → p ≡ w.phase → walk_named (phase_words p ++ after_phase w) ≡ w
unfolding phase_words phase_of
named_in going w d e q = named 0 0 w d e q
named_in waiting w d e q = named 1 0 w d e q
named_in (stopped r) w d e q = named 2 (reason_number r) w d e (ap stopped (reason-back r) ∙ q)

walk_named-walk_words : (w : Walk) → length w.returns ≤ 64 → w.io.events ≡ [] → walk_named (walk_words w) ≡ w
unfolding walk_words after_phase
walk_named-walk_words w d e = named_in w.phase w d e refl

pub walk_of-walk_bytes : (w : Walk) → Fits w → walk_of (walk_bytes w) ≡ some w
unfolding walk_of walk_bytes
walk_of-walk_bytes w f =
    let e : walk_named (words_of (bytes_of (walk_words w))) ≡ w = ap walk_named (words_of-bytes_of (walk_words w)) ∙ walk_named-walk_words w f.depth f.events in
    rw (e, same_refl (bytes_of (walk_words w)))

-- From bytes to a walk and back

pub walk_bytes-walk_of : (s : List ℕ) (w : Walk) → walk_of s ≡ some w → walk_bytes w ≡ s
unfolding walk_of
walk_bytes-walk_of s w e =
    split (same (walk_bytes (walk_named (words_of s))) s)
    (λ t. let v : some (walk_named (words_of s)) ≡ some w = rw t at e in
    let u : walk_named (words_of s) ≡ w = cc in
    rw u at (same-eq (walk_bytes (walk_named (words_of s))) s t))
    (λ f. let v : none ≡ some w = rw f at e in let z : ◌≡◌ {A = Bool} false true = cc in never z)

pub length-phase_words : (p : Phase) → length (phase_words p) ≡ 2
unfolding phase_words
length-phase_words going = refl
length-phase_words waiting = refl
length-phase_words (stopped r) = refl

pub length-return_words : (rs : List ℕ) → length rs ≤ 64 → length (return_words rs) ≡ 64
unfolding return_words
length-return_words rs h = simp (length-append, length-reverse, length-replicate) (omega arith)

pub length-walk : (w : Walk) → length w.returns ≤ 64 → length (walk_bytes w) ≡ 158
unfolding walk_bytes walk_words words64 after_phase
length-walk w h =
    let a = length-bytes_of (walk_words w) in
    let b = length-append (phase_words w.phase) (after_phase w) in
    let c = length-phase_words w.phase in
    let d = length-return_words w.returns h in
    omega arith

pub walk_bytes-length : (w : Walk) → Fits w → length (walk_bytes w) ≡ 158
walk_bytes-length w f = length-walk w f.depth

-- Bytes of the right length are read as a walk that fits

fits-named : (ws : List ℕ) → Small ws → Fits (walk_named ws)
unfolding walk_named
fits-named ws b = record {
  location = b 2;
  result = b 3;
  parameter = b 4;
  depth = simp (length-reverse, length-take, length-drop) (omega arith);
  returns = λ i h. small-reverse (take (get_or ws 5 0) (take 64 (drop 15 ws))) [] (small-take (get_or ws 5 0) (take 64 (drop 15 ws)) (small-take 64 (drop 15 ws) (small-drop 15 ws b))) (λ k. omega arith) i;
  read = small-number (drop 7 ws) (small-drop 7 ws b);
  used = small-number (drop 11 ws) (small-drop 11 ws b);
  allowance = b 6;
  events = refl;
}

pub walk_of-fits : (s : List ℕ) (w : Walk) → ((i : ℕ) → get_or s i 0 < 256) → walk_of s ≡ some w → Fits w
unfolding walk_of
walk_of-fits s w b e =
    split (same (walk_bytes (walk_named (words_of s))) s)
    (λ t. let v : some (walk_named (words_of s)) ≡ some w = rw t at e in
    let u : walk_named (words_of s) ≡ w = cc in
    subst Fits u (fits-named (words_of s) (small-words s b)))
    (λ f. let v : none ≡ some w = rw f at e in let z : ◌≡◌ {A = Bool} false true = cc in never z)

-- a walk is 158 bytes
pub walk_of-length : (s : List ℕ) (w : Walk) → ((i : ℕ) → get_or s i 0 < 256) → walk_of s ≡ some w → length s ≡ 158
walk_of-length s w b e = rw (walk_bytes-walk_of s w e) at (walk_bytes-length w (walk_of-fits s w b e))
