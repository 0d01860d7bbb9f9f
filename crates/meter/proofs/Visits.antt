-- What a visit of an instruction does is what the instruction asks for.
use mathlib.Core.Bool.{Bool, false, ◌||◌, or-false}
use mathlib.Core.List.{List}
use mathlib.Core.Option.{Option, none, some}
use mathlib.Core.Path.{◌≡◌, refl, sym, ◌∙◌}
use native.Mathlib.Decide.{dec_lt}
use native.Mathlib.Omega.{arith}
use Prim.Native.Nat.{ℕ, ◌+◌, ◌*◌, ◌-◌, ◌≤◌, ◌<◌, min}
use lib.ListN.{length}
use borrow.Author.Tests.{ne_eqb, lt-ltb, le-ltb}
use Rattle.machine.specs.Decode.{fetch, input_any, return, end_choice, update, update_with, choose, choose_with, decode_operation, decode_one}
use Rattle.figure.specs.Figure.{way_out}
use Rattle.meter.specs.Shaped.{Fits}
use Rattle.meter.proofs.Words.{one-count, Labelled, labelled, unlabelled, label-cases, FirstOr, is-first, repeats, label-way, default-way}
use Rattle.meter.specs.Makes.{over_at, back_at, half, cap, Makes, makes_any, marks_any, makes_return, makes_end, makes_update, makes_update_with, makes_choose, makes_choose_over, makes_choose_with, makes_choose_with_over, Stands}
use Rattle.meter.specs.Steps.{flag_of, row_of, Kept, Steps, Only, only, Both, this, that, IsBelow, Raised, RaisedTwo, LabelRaised, way_raised, has_enough, Ways, ways, WaysRaised, Visited}
use Rattle.meter.proofs.Raising.{stays, seq, covers, may}

module _ {called : List ℕ} {r l k : ℕ} {rows after : List ℕ} {b : Bool} where
  as-return : Raised (back_at r) k rows after b → Visited return called r l k rows after b
  as-return x = record { sized = x.sized; steps = λ kp h d. covers (λ j v m. ask m) (x.steps kp (may kp h d makes_return)) }
    where
      ask : {T S : List ℕ} {f : ℕ → ℕ} {flag j v : ℕ} {rows : List ℕ} → Makes T S f flag r l k return j v → Only (back_at r) k rows j v
      ask makes_return = only

  as-end : Raised (over_at r) k rows after b → Visited end_choice called r l k rows after b
  as-end x = record { sized = x.sized; steps = λ kp h d. covers (λ j v m. ask m) (x.steps kp (may kp h d makes_end)) }
    where
      ask : {T S : List ℕ} {f : ℕ → ℕ} {flag j v : ℕ} {rows : List ℕ} → Makes T S f flag r l k end_choice j v → Only (over_at r) k rows j v
      ask makes_end = only

  as-any : {flag : ℕ} → flag ≡ flag_of called → RaisedTwo (over_at r) k (l + 1) flag rows after b → Visited input_any called r l k rows after b
  as-any {flag} e x = record { sized = x.sized; steps = λ kp h d. covers (λ j v m. ask (rw (← e) at m)) (x.steps kp (may kp h d makes_any) (rw e (may kp h d marks_any))) }
    where
      ask : {T S : List ℕ} {f : ℕ → ℕ} {flag j v : ℕ} {rows : List ℕ} → Makes T S f flag r l k input_any j v → Both (Only (over_at r) k) (Only (l + 1) flag) rows j v
      ask makes_any = this only
      ask marks_any = that only

  as-update : (op : ℕ) → Raised (l + 1) (k + 1) rows after b → Visited (update op) called r l k rows after b
  as-update op x = record { sized = x.sized; steps = λ kp h d. covers (λ j v m. ask m) (x.steps kp (may kp h d makes_update)) }
    where
      ask : {T S : List ℕ} {f : ℕ → ℕ} {flag j v : ℕ} {rows : List ℕ} → Makes T S f flag r l k (update op) j v → Only (l + 1) (k + 1) rows j v
      ask makes_update = only

  as-update_with : (op : ℕ) → Raised (l + 1) (k + 1) rows after b → Visited (update_with op) called r l k rows after b
  as-update_with op x = record { sized = x.sized; steps = λ kp h d. covers (λ j v m. ask m) (x.steps kp (may kp h d makes_update_with)) }
    where
      ask : {T S : List ℕ} {f : ℕ → ℕ} {flag j v : ℕ} {rows : List ℕ} → Makes T S f flag r l k (update_with op) j v → Only (l + 1) (k + 1) rows j v
      ask makes_update_with = only

  as-choose : (op : ℕ) → RaisedTwo (over_at r) k (l + 1) (k + 1) rows after b → Visited (choose op) called r l k rows after b
  as-choose op x = record { sized = x.sized; steps = λ kp h d. covers (λ j v m. ask m) (x.steps kp (may kp h d makes_choose_over) (may kp h d makes_choose)) }
    where
      ask : {T S : List ℕ} {f : ℕ → ℕ} {flag j v : ℕ} {rows : List ℕ} → Makes T S f flag r l k (choose op) j v → Both (Only (over_at r) k) (Only (l + 1) (k + 1)) rows j v
      ask makes_choose_over = this only
      ask makes_choose = that only

  as-choose_with : (op : ℕ) → RaisedTwo (over_at r) k (l + 1) (k + 1) rows after b → Visited (choose_with op) called r l k rows after b
  as-choose_with op x = record { sized = x.sized; steps = λ kp h d. covers (λ j v m. ask m) (x.steps kp (may kp h d makes_choose_with_over) (may kp h d makes_choose_with)) }
    where
      ask : {T S : List ℕ} {f : ℕ → ℕ} {flag j v : ℕ} {rows : List ℕ} → Makes T S f flag r l k (choose_with op) j v → Both (Only (over_at r) k) (Only (l + 1) (k + 1)) rows j v
      ask makes_choose_with_over = this only
      ask makes_choose_with = that only

-- Instructions of one word, by number

operation : (i : ℕ) → (i ≡ 9 → ⊥) → (i ≡ 12 → ⊥) → (i ≡ 4 → ⊥) → decode_one i ≡ decode_operation i
unfolding decode_one
operation i p q s = rw (ne_eqb i 4 s, ne_eqb i 9 p, ne_eqb i 12 q) refl

module _ {called : List ℕ} {r l k i : ℕ} {rows after : List ℕ} {b : Bool} where
  pub one-return : i ≡ 9 → Raised (back_at r) k rows after b → Visited (decode_one i) called r l k rows after b
  unfolding decode_one
  one-return e x = rw e (as-return x)

  pub one_end : i ≡ 12 → Raised (over_at r) k rows after b → Visited (decode_one i) called r l k rows after b
  unfolding decode_one
  one_end e x = rw e (as-end x)

  pub one-any : {flag : ℕ} → i ≡ 4 → flag ≡ flag_of called → RaisedTwo (over_at r) k (l + 1) flag rows after b → Visited (decode_one i) called r l k rows after b
  unfolding decode_one
  one-any e f x = rw e (as-any f x)

  pub one-update : (i ≡ 9 → ⊥) → (i ≡ 12 → ⊥) → (i ≡ 4 → ⊥) → i < 768 → Raised (l + 1) (k + 1) rows after b → Visited (decode_one i) called r l k rows after b
  unfolding decode_operation
  one-update p q s h x = elim (dec_lt i 512) [
    | yes z ↦ let e : decode_one i ≡ update i = rw (operation i p q s, lt-ltb i 512 z) refl in rw e (as-update i x)
    | no z ↦ let e : decode_one i ≡ update_with i = rw (operation i p q s, le-ltb i 512 (omega arith), lt-ltb i 768 h) refl in rw e (as-update_with i x)
  ]

  pub one-choose : (i ≡ 9 → ⊥) → (i ≡ 12 → ⊥) → (i ≡ 4 → ⊥) → 768 ≤ i → RaisedTwo (over_at r) k (l + 1) (k + 1) rows after b → Visited (decode_one i) called r l k rows after b
  unfolding decode_operation
  one-choose p q s h x = elim (dec_lt i 1024) [
    | yes z ↦ let e : decode_one i ≡ choose i = rw (operation i p q s, le-ltb i 512 (omega arith), le-ltb i 768 h, lt-ltb i 1024 z) refl in rw e (as-choose i x)
    | no z ↦ let e : decode_one i ≡ choose_with i = rw (operation i p q s, le-ltb i 512 (omega arith), le-ltb i 768 h, le-ltb i 1024 (omega arith)) refl in rw e (as-choose_with i x)
  ]

-- The ways out of a choice, label by label

pub data WayBelow (T : List ℕ) (c v i : ℕ) (rows : List ℕ) : ℕ → ℕ → Type 0 where
  way-label : {j a : ℕ} → j < i → fetch T (c + 1 + 2 * j) ≡ some a → WayBelow T c v i rows (way_out T c (some a)) v

pub record WaysUpto (T : List ℕ) (c v n i : ℕ) (rows after : List ℕ) (b : Bool) : Type 0 where
  pub inside : i ≤ n
  pub is_count : fetch T c ≡ some n
  pub table : Fits T c
  pub fits : c + 2 * n ≤ length T
  pub short : length T ≤ 4096
  pub sized : length after ≡ length rows
  pub steps : {S called : List ℕ} → Kept T S called rows → ((w : Option ℕ) → way_out T c w < half → 0 < v → Stands T S (flag_of called) (way_out T c w) v) → Steps T S (WayBelow T c v i) called rows after b

pub ways-first : {T : List ℕ} {c v n : ℕ} {rows : List ℕ} → length T ≤ 4096 → Fits T c → fetch T c ≡ some n → WaysUpto T c v n 0 rows rows false
ways-first s f e = record {
  inside = omega arith;
  is_count = e;
  table = f;
  fits = omega (arith, f.fits, one-count f e);
  short = s;
  sized = refl;
  steps = λ k w. stays k (λ i v m. absurd (nothing m));
}
  where
    nothing : {T : List ℕ} {c v : ℕ} {rows : List ℕ} {i u : ℕ} → WayBelow T c v 0 rows i u → ⊥
    nothing (way-label h e) = omega arith

ways-raised : {T : List ℕ} {c v n i a : ℕ} {rows mid after : List ℕ} {b d : Bool} → WaysUpto T c v n i rows mid b → i < n → fetch T (c + 1 + 2 * i) ≡ some a → Raised (way_out T c (some a)) v mid after d
    → WaysUpto T c v n (i + 1) rows after (b || d)
ways-raised {T} {c} {v} {n} {i} {a} u h f r = record {
  inside = omega arith;
  is_count = u.is_count;
  table = u.table;
  fits = u.fits;
  short = u.short;
  sized = r.sized ∙ u.sized;
  steps = λ k w. let s = u.steps k w in covers (λ j x m. split m) (seq s (r.steps s.kept (w (some a))));
}
  where
    split : {rows : List ℕ} {j x : ℕ} → WayBelow T c v (i + 1) rows j x → Both (WayBelow T c v i) (Only (way_out T c (some a)) v) rows j x
    split {rows} (way-label {j = j} {a = y} l g) = elim (dec_lt j i) [
      | yes o ↦ this (way-label o g)
      | no o ↦ let q : j ≡ i = omega arith in
          let g₁ : fetch T (c + 1 + 2 * i) ≡ some y = rw q at g in
          let t : y ≡ a = (let k : some y ≡ some a = sym g₁ ∙ f in cc) in
          that (rw t only)
    ]

-- a label whose way has enough, since the way beside it has
ways-passed : {T : List ℕ} {c v n i x : ℕ} {rows mid : List ℕ} {b : Bool} → WaysUpto T c v n i rows mid b → i < n → fetch T (c + 1 + 2 * i + 1) ≡ some x → IsBelow (c + 1 + 2 * i + 1 - x) v mid false
    → WaysUpto T c v n (i + 1) rows mid b
ways-passed {T} {c} {v} {n} {i} {x} {rows} {mid} {b} u h f r = record {
  inside = omega arith;
  is_count = u.is_count;
  table = u.table;
  fits = u.fits;
  short = u.short;
  sized = u.sized;
  steps = λ k w. let s = u.steps k w in
      record { kept = s.kept; grows = s.grows; same = s.same; less = s.less; all = λ e m l. each (s.same e) (λ j y o p. s.all e o p) m l };
}
  where
    each : {j y : ℕ} → mid ≡ rows → ((j y : ℕ) → WayBelow T c v i rows j y → j < half → min y cap ≤ row_of rows j) → WayBelow T c v (i + 1) rows j y → j < half → min y cap ≤ row_of rows j
    each e t (way-label {j = j} {a = a} l g) o = elim (dec_lt j i) [
      | yes y ↦ t _ _ (way-label y g) o
      | no y ↦ let k : j ≡ i = omega arith in
          let g₁ : fetch T (c + 1 + 2 * i) ≡ some a = rw k at g in
          go (label-way u.short u.table u.is_count h g₁ f)
    ]
      where
        go : FirstOr T c i a (c + 1 + 2 * i + 1 - x) → min v cap ≤ row_of rows (way_out T c (some a))
        go (repeats j l y) = t _ _ (way-label l y) o
        go (is-first y) = let m : c + 1 + 2 * i + 1 - x < half = rw y at o in rw (y, ← e) (r.enough refl m)

-- what was done for a label
pub label-raised : {T : List ℕ} {c i a v way : ℕ} {rows after : List ℕ} {b : Bool} → fetch T (c + 1 + 2 * i) ≡ some a → way ≡ way_out T c (some a) → Raised way v rows after b → LabelRaised T c i v rows after b
label-raised f e r = way_raised f (rw e at r)

pub label-enough : {T : List ℕ} {c i x v way : ℕ} {rows : List ℕ} {b : Bool} → fetch T (c + 1 + 2 * i + 1) ≡ some x → way ≡ c + 1 + 2 * i + 1 - x → IsBelow way v rows b → b ≡ false → LabelRaised T c i v rows rows false
label-enough f e r q = has_enough f (rw (e, q) at r)

pub ways_next : {T : List ℕ} {c v n i : ℕ} {rows mid after : List ℕ} {b d e : Bool} → WaysUpto T c v n i rows mid b → i < n → LabelRaised T c i v mid after d → e ≡ (b || d) → WaysUpto T c v n (i + 1) rows after e
ways_next {T} {c} {v} {n} {i} {rows} {mid} {b = b} u h r q = rw q (go r)
  where
    go : {after : List ℕ} {d : Bool} → LabelRaised T c i v mid after d → WaysUpto T c v n (i + 1) rows after (b || d)
    go (way_raised f y) = ways-raised u h f y
    go (has_enough f y) = rw (or-false b) (ways-passed u h f y)

-- nothing is raised to 0
pub ways-none : {T : List ℕ} {c v : ℕ} {rows : List ℕ} → v ≡ 0 → WaysRaised T c v rows rows false
ways-none {T} {c} {v} {rows} e = record { sized = refl; steps = λ k w. stays k (λ i u m h. none-asked m) }
  where
    none-asked : {i u : ℕ} → Ways T c v rows i u → min u cap ≤ row_of rows i
    none-asked (ways w) = omega arith

pub ways-all : {T : List ℕ} {c v n i : ℕ} {rows mid after : List ℕ} {b d e : Bool} → WaysUpto T c v n i rows mid b → n ≤ i → Raised (c + 1 + 2 * n) v mid after d → e ≡ (b || d) → WaysRaised T c v rows after e
ways-all {T} {c} {v} {n} {i} u h r q = rw q (record {
  sized = r.sized ∙ u.sized;
  steps = λ k w. let s = u.steps k w in covers (λ j x m. each m) (seq s (r.steps s.kept (rw (← default-way T c u.is_count) (w none))));
})
  where
    each : {rows : List ℕ} {j x : ℕ} → Ways T c v rows j x → Both (WayBelow T c v i) (Only (c + 1 + 2 * n) v) rows j x
    each (ways none) = that (rw (default-way T c u.is_count) only)
    each {rows} (ways (some a)) = go (label-cases a u.short u.table u.is_count)
      where
        go : Labelled T c n a → Both (WayBelow T c v i) (Only (c + 1 + 2 * n) v) rows (way_out T c (some a)) v
        go (labelled j l g) = this (way-label {j = j} (omega arith) g)
        go (unlabelled g) = that (rw g only)
