-- A walk that does not leave its table goes the same way with anything behind the table.
use mathlib.Core.Bool.{Bool, true, false}
use mathlib.Core.List.{List, [], ◌∷◌, ◌++◌}
use mathlib.Core.Option.{Option, none, some}
use mathlib.Core.Path.{◌≡◌, refl, sym, ap, ◌∙◌}
use native.Mathlib.Omega.{arith}
use Prim.Native.Nat.{ℕ, zero, suc, ◌+◌, ◌-◌, ◌*◌, ◌≤◌, ◌<◌}
use lib.Dec.{eqb, leb, ltb}
use lib.ListN.{length, get_elem?, length-append}
use borrow.Author.Tests.{leb-true, le-leb}
use Rattle.agreement.proofs.Lists.{one-going}
use Rattle.agreement.proofs.Single.{done, one_in, one, runs}
use Rattle.agreement.proofs.Theorem.{stays}
use Rattle.std.specs.Prelude.{if◌then◌else◌}
use Rattle.base.specs.Common.{given}
use Rattle.events.specs.Events.{Reason, deep, outside, present, took}
use Rattle.machine.specs.Decode.{fetch, Instruction, invalid, jump, input, input_any, write, input_choice, call_rule, return, set_result, choice, end_choice, set_parameter, update, update_with, choose, choose_with, decode_one, decode_two, decode_word, decode_at, decode}
use Rattle.machine.specs.Lengths.{length_of}
use Rattle.machine.specs.Step.{Next, goes_outside, stops, goes, go_to, seek, seek_by, landed, branched, input_choosing, calling, returning, requiring, exec, step}
use Rattle.machine.specs.Walk.{Phase, going, waiting, stopped, Walk, moved, with_returns, with_result, with_io, in_phase}

element-more : (T more : List ℕ) (i x : ℕ) → get_elem? T i ≡ some x → get_elem? (T ++ more) i ≡ some x
element-more [] more i x e = let z : ◌≡◌ {A = ℕ} 0 1 = cc in absurd (omega arith)
element-more (v ∷ T) more zero x e = e
element-more (v ∷ T) more (suc i) x e = element-more T more i x e

pub element-within : (T more : List ℕ) (i : ℕ) → i < length T → get_elem? (T ++ more) i ≡ get_elem? T i
element-within [] more i h = absurd (omega arith)
element-within (v ∷ T) more zero h = refl
element-within (v ∷ T) more (suc i) h = element-within T more i (omega arith)

fetch-more : (T more : List ℕ) (l x : ℕ) → fetch T l ≡ some x → fetch (T ++ more) l ≡ some x
unfolding fetch
fetch-more T more zero x e = let z : ◌≡◌ {A = ℕ} 0 1 = cc in absurd (omega arith)
fetch-more T more (suc i) x e = element-more T more i x e

fetch-within : (T more : List ℕ) (l : ℕ) → l ≤ length T → fetch (T ++ more) l ≡ fetch T l
unfolding fetch
fetch-within T more zero h = refl
fetch-within T more (suc i) h = element-within T more i (omega arith)

-- out of the shorter table, or the same
pub data Alike : Next → Next → Type 0 where
  alike-out : {n : Next} → Alike goes_outside n
  alike : {n : Next} → Alike n n

pub data AlikeAt : Instruction → Instruction → Type 0 where
  alike-none : {i : Instruction} → AlikeAt invalid i
  alike_at : {i : Instruction} → AlikeAt i i

if-at : (b : Bool) (i j : Instruction) → AlikeAt (if b then i else invalid) (if b then i else j)
if-at true i j = alike_at
if-at false i j = alike-none

word-alike : (l i : ℕ) (f g : Option ℕ) → ((x : ℕ) → f ≡ some x → g ≡ some x) → AlikeAt (decode_word l i f) (decode_word l i g)
unfolding decode_word
word-alike l i none none h = alike_at
word-alike l i none (some y) h = if-at (eqb (length_of i) 1) (decode_one i) (if eqb (length_of i) 2 then decode_two l i y else invalid)
word-alike l i (some x) g h = rw (h x refl) alike_at

-- the word at l and the one behind it, in the one table and in the other
pub words-alike : (l : ℕ) (f f₁ g g₁ : Option ℕ) → ((x : ℕ) → f ≡ some x → g ≡ some x) → ((x : ℕ) → f₁ ≡ some x → g₁ ≡ some x) → AlikeAt (decode_at l f f₁) (decode_at l g g₁)
unfolding decode_at
words-alike l none f₁ g g₁ h k = alike-none
words-alike l (some i) f₁ g g₁ h k = rw (h i refl) (word-alike l i f₁ g₁ k)

module _ (T more : List ℕ) where
  decode-alike : (l : ℕ) → AlikeAt (decode T l) (decode (T ++ more) l)
  unfolding decode
  decode-alike l =
      words-alike l (fetch T l) (fetch T (suc l)) (fetch (T ++ more) l) (fetch (T ++ more) (suc l)) (λ x e. fetch-more T more l x e) (λ x e. fetch-more T more (suc l) x e)

  module _ (tokens : List ℕ) where
    go_to-alike : (l : ℕ) (w : Walk) → Alike (go_to T tokens l w) (go_to (T ++ more) tokens l w)
    unfolding go_to
    go_to-alike l w = go (fetch T l) (fetch (T ++ more) l) (λ x e. fetch-more T more l x e)
      where
        go : (f g : Option ℕ) → ((x : ℕ) → f ≡ some x → g ≡ some x) → Alike (if given f then goes (moved l w) else goes_outside) (if given g then goes (moved l w) else goes_outside)
        go none g h = alike-out
        go (some x) g h = rw (h x refl) alike

    seek-within : (v n l : ℕ) → l + 2 * n ≤ suc (length T) → seek (T ++ more) tokens v n l ≡ seek T tokens v n l
    unfolding seek
    seek-within v zero l h = refl
    seek-within v (suc n) l h = rw (fetch-within T more l (omega arith), seek-within v n (l + 2) (omega arith)) refl

    seek_by-within : (v : Option ℕ) (n l : ℕ) → l + 2 * n ≤ suc (length T) → seek_by (T ++ more) tokens v n l ≡ seek_by T tokens v n l
    unfolding seek_by
    seek_by-within none n l h = refl
    seek_by-within (some v) n l h = seek-within v n l h

    landed-out : (l d : ℕ) (taken w : Walk) → fetch T l ≡ none → landed T tokens (some l) d taken w ≡ goes_outside
    unfolding landed
    landed-out l d taken w e = rw (e, landed) refl

    landed-on : (T : List ℕ) (l x d : ℕ) (taken w : Walk) → fetch T l ≡ some x → landed T tokens (some l) d taken w ≡ go_to T tokens (l - x) taken
    unfolding landed
    landed-on T l x d taken w e = rw (e, landed) refl

    landed-alike : (s : Option ℕ) (d : ℕ) (taken w : Walk) → Alike (landed T tokens s d taken w) (landed (T ++ more) tokens s d taken w)
    unfolding landed
    landed-alike none d taken w = go_to-alike d w
    landed-alike (some l) d taken w = go (fetch T l) refl
      where
        go : (f : Option ℕ) → fetch T l ≡ f → Alike (landed T tokens (some l) d taken w) (landed (T ++ more) tokens (some l) d taken w)
        go none e = rw (landed-out l d taken w e) alike-out
        go (some x) e = rw (landed-on T l x d taken w e, landed-on (T ++ more) l x d taken w (fetch-more T more l x e)) (go_to-alike (l - x) taken)

    branched-alike : (v : Option ℕ) (c : ℕ) (taken w : Walk) (f g : Option ℕ) → ((x : ℕ) → f ≡ some x → g ≡ some x)
        → Alike (branched T tokens f v c taken w) (branched (T ++ more) tokens g v c taken w)
    unfolding branched
    branched-alike v c taken w none g h = alike-out
    branched-alike v c taken w (some n) g h = rw (h n refl) (go (leb (c + 2 * n) (length T)) refl)
      where
        go : (b : Bool) → leb (c + 2 * n) (length T) ≡ b
            → Alike (if b then landed T tokens (seek_by T tokens v n (c + 1)) (c + 1 + 2 * n) taken w else goes_outside)
            (if leb (c + 2 * n) (length (T ++ more)) then landed (T ++ more) tokens (seek_by (T ++ more) tokens v n (c + 1)) (c + 1 + 2 * n) taken w else goes_outside)
        go false e = alike-out
        go true e =
            let z : c + 2 * n ≤ length T = leb-true (c + 2 * n) (length T) e in
            let y : leb (c + 2 * n) (length (T ++ more)) ≡ true = le-leb (c + 2 * n) (length (T ++ more)) (omega (arith, length-append T more)) in
            rw (y, seek_by-within v n (c + 1) (omega arith)) (landed-alike (seek_by T tokens v n (c + 1)) (c + 1 + 2 * n) taken w)

    choosing-alike : (o : Option ℕ) (c : ℕ) (w : Walk) → Alike (input_choosing T tokens o c w) (input_choosing (T ++ more) tokens o c w)
    unfolding input_choosing
    choosing-alike none c w = branched-alike none c w w (fetch T c) (fetch (T ++ more) c) (λ x e. fetch-more T more c x e)
    choosing-alike (some t) c w = branched-alike (some t) c (with_io (took w.io) (with_result t w)) (with_result t w) (fetch T c) (fetch (T ++ more) c) (λ x e. fetch-more T more c x e)

    calling-alike : (l : ℕ) (w : Walk) → Alike (calling T tokens l w) (calling (T ++ more) tokens l w)
    unfolding calling
    calling-alike l w = go (fetch T l) (fetch (T ++ more) l) (λ x e. fetch-more T more l x e)
      where
        go : (f g : Option ℕ) → ((x : ℕ) → f ≡ some x → g ≡ some x)
            → Alike (if given f then (if ltb (length w.returns) 64 then goes (moved l (with_returns ((w.location + 2) ∷ w.returns) w)) else stops deep) else goes_outside)
            (if given g then (if ltb (length w.returns) 64 then goes (moved l (with_returns ((w.location + 2) ∷ w.returns) w)) else stops deep) else goes_outside)
        go none g h = alike-out
        go (some x) g h = rw (h x refl) alike

    returning-alike : (rs : List ℕ) (w : Walk) → Alike (returning T tokens rs w) (returning (T ++ more) tokens rs w)
    unfolding returning
    returning-alike [] w = alike
    returning-alike (l ∷ rs) w = go_to-alike l (with_returns rs w)

    exec-alike : (i : Instruction) (w : Walk) → Alike (exec T tokens i w) (exec (T ++ more) tokens i w)
    unfolding exec requiring
    exec-alike invalid w = alike
    exec-alike (jump l) w = go_to-alike l w
    exec-alike (input t) w = alike
    exec-alike input_any w = alike
    exec-alike (write e) w = alike
    exec-alike (input_choice c) w = choosing-alike (present tokens w.io) c w
    exec-alike (call_rule l) w = calling-alike l w
    exec-alike return w = returning-alike w.returns w
    exec-alike (set_result v) w = alike
    exec-alike (choice c) w = branched-alike (some w.result) c w w (fetch T c) (fetch (T ++ more) c) (λ x e. fetch-more T more c x e)
    exec-alike end_choice w = alike
    exec-alike (set_parameter v) w = alike
    exec-alike (update op) w = alike
    exec-alike (update_with op) w = alike
    exec-alike (choose op) w = alike
    exec-alike (choose_with op) w = alike

    by-decode : (i j : Instruction) (w : Walk) → AlikeAt i j → Alike (exec T tokens i w) (exec (T ++ more) tokens j w)
    unfolding exec
    by-decode i j w alike-none = alike-out
    by-decode i j w alike_at = exec-alike i w

    pub step-alike : (w : Walk) → Alike (step T tokens w) (step (T ++ more) tokens w)
    unfolding step
    step-alike w = by-decode (decode T w.location) (decode (T ++ more) w.location) w (decode-alike w.location)

    module _ (answers : List ℕ) where
      stops_same : {p : Phase} {r s : Reason} → p ≡ stopped r → p ≡ stopped s → s ≡ r
      stops_same e f = cc

      -- a walk over the table that stops, and not with 37, is the same over a longer one
      pub same-run : (k : ℕ) (w : Walk) (r : Reason) → (runs T tokens answers k w).phase ≡ stopped r → (r ≡ outside → ⊥) → runs (T ++ more) tokens answers k w ≡ runs T tokens answers k w
      unfolding runs done in_phase one one_in
      same-run zero w r e h = refl
      same-run (suc k) w r e h = ap (runs (T ++ more) tokens answers k) (go w.phase refl) ∙ same-run k (one T tokens answers w) r e h
        where
          next : (n m : Next) → Alike n m → done T tokens answers n w ≡ one T tokens answers w → done (T ++ more) tokens answers m w ≡ one T tokens answers w
          next n m alike-out z =
              let y : (one T tokens answers w).phase ≡ stopped outside = ap (λ (u : Walk). u.phase) (sym z) in
              absurd (h (stops_same y (ap (λ (u : Walk). u.phase) (sym (stays T tokens answers k (one T tokens answers w) outside y)) ∙ e)))
          next n m alike z = z

          go : (p : Phase) → w.phase ≡ p → one (T ++ more) tokens answers w ≡ one T tokens answers w
          go going g =
              one-going (T ++ more) tokens answers w g ∙ next (step T tokens w) (step (T ++ more) tokens w) (step-alike w) (sym (one-going T tokens answers w g))
          go waiting g = rw g refl
          go (stopped s) g = rw g refl
