-- What the steps of the screen's entries make of its bytes.
use mathlib.Core.Bool.{true, false}
use mathlib.Core.List.{List, [], ◌++◌, append_assoc, append-nil}
use mathlib.Core.Path.{◌≡◌, sym, ap, ap₂, ◌∙◌}
use Prim.Native.Nat.{ℕ, ◌+◌, ◌*◌, ◌-◌, ◌<◌, ◌≤◌}
use native.Mathlib.Omega.{arith}
use lib.ListN.{length, take, drop, length-append, length-drop, drop_of_length-le}
use lib.Seq.{sets, sets-eq, take_at, drop-drop}
use borrow.Rule.Slice.PartMut.{mid_of, post_of, put_mid}
use Rattle.buffers.specs.Words.{put64}
use Rattle.machine.specs.Bytes.{words_of, bytes_of}
use Rattle.machine.specs.Call.{Mode}
use Rattle.machine.specs.Form.{words64, number64, walk_bytes, Outcome, call_bytes}
use Rattle.machine.specs.Walk.{fresh}
use Rattle.screen.proofs.Cuts.{length_cut, length-patch, words-drop, number_cut}
use Rattle.screen.proofs.Sizes.{length-call, length-counter, length-fresh, length-fresh_book}
use Rattle.screen.proofs.Turns.{screen-is, book-in, bytes-budget, turn_is, away}
use Rattle.screen.specs.Screen.{cut, patch, book_size, screen_size, walk_in, left_in, with_left, is_book, taken, turned_away, turn_bytes, fresh_book, fresh_bytes}
use Rattle.firmware.specs.Entries.{gives}
use Rattle.firmware.specs.Turning.{leaves}
use Rattle.firmware.specs.Writes.{puts}
use Rattle.firmware.proofs.Laws.{puts-64}

-- the steps left, read and written

pub left-read : (b : ℕ) (r : List ℕ) → number64 (drop (b * 83 + 79) (words_of r)) ≡ left_in b r
unfolding left_in cut
left-read b r =
    let e : 2 * (b * 83 + 79) ≡ b * book_size + 158 = omega arith in
    ap number64 (words-drop (b * 83 + 79) r) ∙ ap (λ (i : ℕ). number64 (words_of (drop i r))) e ∙ sym (number_cut (drop (b * book_size + 158) r))

pub left-put : (b n : ℕ) (r : List ℕ) → b < 2 → length r ≡ screen_size → put64 r (b * 83 + 79) n ≡ with_left b n r
unfolding puts with_left patch
left-put b n r h k =
    let e : 2 * (b * 83 + 79) ≡ b * book_size + 158 = omega arith in
    let f = b * book_size + 158 in
    puts-64 r (b * 83 + 79) n ∙ ap (λ (i : ℕ). sets r i (bytes_of (words64 n))) e ∙ sets-eq (bytes_of (words64 n)) r f (omega (arith, length-counter n))
    ∙ append_assoc (take f r) (bytes_of (words64 n)) (drop (f + length (bytes_of (words64 n))) r)

-- a call does no more steps than its budget
pub enough : {number written done left : ℕ} {W E : List ℕ} (table tokens : List ℕ) (m : Mode) (walk buffer : List ℕ)
    → gives number W E written done ≡ call_bytes table tokens m left walk buffer → done ≤ left
enough {left = left} table tokens m walk buffer q = let e = ap (λ (o : Outcome). o.steps) q in omega (arith, e, bytes-budget table tokens m left walk buffer)

-- a turn: the part that is lent, the call, the steps left
module _ (table tokens : List ℕ) (m : Mode) (b : ℕ) (r buffer : List ℕ) (is : is_book b r ≡ true) where
  pub turned : (W E P : List ℕ) (from end place left number written done : ℕ) → from ≡ b * book_size → end ≡ from + 158 → place ≡ b * 83 + 79 → left ≡ number64 (drop place (words_of r))
      → gives number W E written done ≡ call_bytes table tokens m left (mid_of from (end - from) r) buffer
      → P ≡ put64 (put_mid from (end - from) r W) place (left - done)
      → leaves number P E written done ≡ turn_bytes table tokens m b r buffer
  unfolding taken walk_in cut patch
  turned W E P from end place left number written done f e j d q p =
      let k : length r ≡ screen_size = (book-in b r is).1 in
      let h : b < 2 = (book-in b r is).0 in
      let n : end - from ≡ 158 = omega arith in
      let l : left ≡ left_in b r = d ∙ ap (λ (i : ℕ). number64 (drop i (words_of r))) j ∙ left-read b r in
      let c : gives number W E written done ≡ call_bytes table tokens m (left_in b r) (walk_in b r) buffer =
      q ∙ (λ i. call_bytes table tokens m (l i) (take (n i) (drop (f i) r)) buffer) in
      let w : length W ≡ 158 =
      ap (λ (o : Outcome). length o.walk) c ∙ length-call table tokens m (left_in b r) (walk_in b r) buffer (length_cut (b * book_size) 158 r (omega arith)) in
      let u : from + (end - from) ≡ b * book_size + length W = omega arith in
      let z : post_of from (end - from) r ≡ drop (b * book_size + length W) r = drop-drop (end - from) from r ∙ ap (λ (i : ℕ). drop i r) u in
      let v : put_mid from (end - from) r W ≡ patch (b * book_size) W r = ap₂ (λ (i : ℕ) (y : List ℕ). take i r ++ (W ++ y)) f z in
      let s : length (patch (b * book_size) W r) ≡ screen_size = length-patch (b * book_size) W r (omega arith) ∙ k in
      let t : P ≡ with_left b (left_in b r - done) (patch (b * book_size) W r) =
      p ∙ (λ i. put64 (v i) (j i) (l i - done)) ∙ left-put b (left_in b r - done) (patch (b * book_size) W r) h s in
      (λ i. leaves number (t i) E written done) ∙ ap (taken b r) c ∙ sym (turn_is table tokens m b r buffer h k)

pub turned-away : {number written steps : ℕ} (table tokens : List ℕ) (m : Mode) (b : ℕ) (r buffer : List ℕ) → is_book b r ≡ false
    → (number ≡ 21) × (written ≡ 0) × (steps ≡ 0) → leaves number r buffer written steps ≡ turn_bytes table tokens m b r buffer
unfolding turned_away
turned-away table tokens m b r buffer e x = (λ i. leaves (x.0 i) r buffer (x.1 i) (x.2 i)) ∙ sym (away table tokens m b r buffer e)

-- a fresh book: its walk, then no steps left
pub book-put : (a : ℕ) (seat W P : List ℕ) → length seat ≡ book_size → W ≡ walk_bytes (fresh a) → P ≡ put64 (W ++ drop 158 seat) 79 0 → P ≡ fresh_book a
unfolding fresh_book puts
book-put a seat W P k e p =
    let B = bytes_of (words64 0) in
    let l : length W ≡ 158 = ap (λ (s : List ℕ). length s) e ∙ length-fresh a in
    let n : length (W ++ drop 158 seat) ≡ book_size = length-append W (drop 158 seat) ∙ omega (arith, length-drop 158 seat) in
    let d : drop (158 + length B) (W ++ drop 158 seat) ≡ [] = drop_of_length-le (W ++ drop 158 seat) {i = 158 + length B} (omega (arith, length-counter 0)) in
    p ∙ puts-64 (W ++ drop 158 seat) 79 0 ∙ sets-eq B (W ++ drop 158 seat) 158 (omega (arith, length-counter 0))
    ∙ ap₂ (λ (x y : List ℕ). (x ++ B) ++ y) (take_at W (drop 158 seat) 158 l ∙ e) d ∙ append-nil (walk_bytes (fresh a) ++ B)

-- both
pub screen-put : (a₀ a₁ : ℕ) (r F₀ F₁ : List ℕ) → length r ≡ screen_size → F₀ ≡ fresh_book a₀ → F₁ ≡ fresh_book a₁
    → put_mid 166 (length (F₀ ++ drop 166 r) - 166) (F₀ ++ drop 166 r) F₁ ≡ fresh_bytes a₀ a₁ r
unfolding fresh_bytes
screen-put a₀ a₁ r F₀ F₁ k e₀ e₁ =
    let l : length F₀ ≡ book_size = ap (λ (s : List ℕ). length s) e₀ ∙ length-fresh_book a₀ in
    let S = F₀ ++ drop 166 r in
    let z : post_of 166 (length S - 166) S ≡ [] = drop_of_length-le (drop 166 S) {i = length S - 166} (omega (arith, length-drop 166 S)) in
    let c : put_mid 166 (length S - 166) S F₁ ≡ F₀ ++ F₁ = ap₂ (λ (x y : List ℕ). x ++ (F₁ ++ y)) (take_at F₀ (drop 166 r) 166 l) z ∙ ap (λ (x : List ℕ). F₀ ++ x) (append-nil F₁) in
    c ∙ (rw (screen-is r k) (ap₂ (λ (x y : List ℕ). x ++ y) e₀ e₁))
