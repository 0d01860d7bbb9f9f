-- What the numbers that are kept, and the places that paths come to, give a caller.
use mathlib.Core.Bool.{Bool, true, false, ◌||◌}
use mathlib.Core.List.{List}
use mathlib.Core.Path.{◌≡◌, sym, ap, ◌∙◌}
use native.Mathlib.Decide.{dec_lt}
use native.Mathlib.Omega.{arith}
use Prim.Native.Nat.{ℕ, ◌+◌, ◌≤◌, ◌<◌}
use lib.ListN.{length}
use Rattle.machine.specs.Decode.{input_choice, call_rule, choice, decode_two, decode}
use Rattle.figure.specs.Figure.{at_start, leads_call}
use Rattle.meter.specs.Makes.{over_at, back_at, Makes, makes_call_over, makes_call_back, makes_call_value, marks_call}
use Rattle.meter.specs.Shaped.{Between, index_of, start_of, end_of, InRule, is_choice, Fits, HasTable, by_token, by_result}
use Rattle.meter.specs.Steps.{flag_of, called_of, Kept, Here, Steps, Only, only, Both, this, that, Raised, RaisedTwo, MakesAt, CallsHere, ValueAt, value_at, ValueHere, Values, values, Behind, behind_back, behind_value}
use Rattle.meter.proofs.Bounds.{index-start, next-to}
use Rattle.meter.proofs.Words.{end-next, end-last}
use Rattle.meter.proofs.Raising.{stays, seq, covers, may}
use Rattle.base.proofs.Laws.{above_zero}
use Rattle.base.specs.Bools.{never}

pub not-nothing : {n : ℕ} → (n ≡ 0 → ⊥) → 1 ≤ n
not-nothing {n} f = above_zero n f

no_both : (T : List ℕ) (l : ℕ) {c : ℕ} → decode T l ≡ choice c → is_choice (decode T l) ≡ false → ⊥
unfolding is_choice
no_both T l d n = let y : ◌≡◌ {A = Bool} true false = rw d at n in never (sym y)

-- the end of a rule's words, from the table's length
pub is-end : (S : List ℕ) (q : ℕ) {n size to : ℕ} → to ≡ end_of size S q → size ≡ n → to ≡ end_of n S q
is-end S q e f = rw f at e

module _ {T S called rows : List ℕ} (kp : Kept T S called rows) where
  -- the choice behind a call has its table
  pub choice-fits : {r l k c p : ℕ} → ValueHere T S called r l k c p → Fits T c
  choice-fits {l = l} {c = c} h =
      let a = h.here.here.comes in
      let g = next-to h.here.calls a.reached leads_call in
      let t : HasTable c (decode T (l + 2)) = rw h.chooses by_result in
      kp.shaped.tables a.is_rule g t

  -- a rule has a word
  pub start-end : {q : ℕ} → q < length S → start_of S q ≤ end_of (length T) S q
  start-end h = let i = kp.shaped.stays h at_start in omega (arith, i.from, i.to)

  -- the words of a rule are the table's
  pub rule-inside : {q p : ℕ} → q < length S → InRule T S q p → (1 ≤ p) × (p ≤ length T)
  rule-inside {q} {p} h i = (omega (arith, (kp.shaped.inside h at_start).0, i.from), ends (dec_lt (q + 1) (length S)))
    where
      ends : Dec (q + 1 < length S) → p ≤ length T
      ends (yes y) = omega (arith, i.to, end-next (length T) q S y, (kp.shaped.inside y at_start).1)
      ends (no y) = omega (arith, i.to, end-last (length T) q S (omega arith))

  -- a path comes to places of the table only
  pub here-inside : {r l k : ℕ} → Here T S called r l k → (1 ≤ l) × (l ≤ 4096)
  here-inside h = let z = kp.shaped.inside h.comes.is_rule h.comes.reached in (z.0, omega (arith, z.1, kp.shaped.short))

  pub rule-small : {r l k : ℕ} → Here T S called r l k → r < 128
  rule-small h = omega (arith, h.is_rule, kp.shaped.few)

  -- the rule that is called: as many start before it as its index says
  pub call-index : {r l k s q : ℕ} → Here T S called r l k → decode T l ≡ call_rule s → Between S s q q → q ≡ index_of S s
  call-index {s = s} {q = q} h d b =
      let i = index_of S s in
      let f = kp.shaped.calls h.comes.is_rule h.comes.reached d in
      let e = index-start S s f in
      elim (dec_lt q i) [
        | yes y ↦ absurd (omega (arith, e, kp.shaped.rising.rising y f, b.behind q (omega arith) (omega arith)))
        | no n ↦ elim (dec_lt i q) [
          | yes y ↦ absurd (omega (arith, e, b.before i y))
          | no m ↦ omega arith
        ]
      ]

  pub called-here : {r l k s q : ℕ} → Here T S called r l k → decode T l ≡ call_rule s → q ≡ index_of S s → CallsHere T S called r l k q
  called-here {r} {l} {k} {s} {q} h d e =
      let f = kp.shaped.calls h.comes.is_rule h.comes.reached d in
      let z : start_of S q ≡ s = rw e (index-start S s f) in
      let c : decode T l ≡ call_rule (start_of S q) = d ∙ ap call_rule (sym z) in
      record { here = h; calls = c; found = rw e f; is_index = ap (index_of S) z ∙ sym e }

  pub behind-values : {c l k q : ℕ} {after : List ℕ} {b : Bool} → decode T (l + 2) ≡ choice c → Steps T S (Values T S called c k q (end_of (length T) S q)) called rows after b → Steps T S (Behind T S called l k q) called rows after b
  unfolding is_choice
  behind-values {c} {l} {k} {q} d x = covers (λ i v m. ask d m) x
    where
      ask : decode T (l + 2) ≡ choice c → {i v : ℕ} → Behind T S called l k q rows i v → Values T S called c k q (end_of (length T) S q) rows i v
      ask d (behind_back e z) = let y : ◌≡◌ {A = Bool} true false = rw d at e in never (sym y)
      ask d {i} {v} (behind_value {c = o} d₁ y m) =
          let f : o ≡ c = (let g : choice o ≡ choice c = sym d₁ ∙ d in cc) in
          let m₁ : ValueAt T called c k _ rows i v = rw f at m in
          values y y.to m₁

  pub behind-nothing : {l k q m : ℕ} → is_choice (decode T (l + 2)) ≡ false → m ≡ called_of called rows (back_at q) → m ≡ 0 → Steps T S (Behind T S called l k q) called rows rows false
  behind-nothing {l} {k} {q} n e z = stays kp (λ i v m. absurd (ask n m))
    where
      ask : is_choice (decode T (l + 2)) ≡ false → {i v : ℕ} → Behind T S called l k q rows i v → ⊥
      ask n (behind_back y w) = omega arith
      ask n (behind_value d y w) = no_both T (l + 2) d n

  pub behind-raised : {r l k q m u : ℕ} {after : List ℕ} {b : Bool} → CallsHere T S called r l k q → is_choice (decode T (l + 2)) ≡ false → m ≡ called_of called rows (back_at q) → (m ≡ 0 → ⊥) → u ≡ k + m + 1
      → Raised (l + 2) u rows after b → Steps T S (Behind T S called l k q) called rows after b
  behind-raised {r} {l} {k} {q} {m} {u} {after} {b} h n e z y x =
      let t : u ≡ k + called_of called rows (back_at q) + 1 = y ∙ ap (λ (i : ℕ). k + i + 1) e in
      let x₁ : Raised (l + 2) (k + called_of called rows (back_at q) + 1) rows after b = rw t at x in
      let i = h.is_index in
      let p : 0 < called_of called rows (back_at q) = omega (arith, not-nothing z) in
      covers (λ j v w. ask n w) (x₁.steps kp (may kp h.here h.calls (makes n p i)))
    where
      ask : is_choice (decode T (l + 2)) ≡ false → {i v : ℕ} → Behind T S called l k q rows i v → Only (l + 2) (k + called_of called rows (back_at q) + 1) rows i v
      ask n (behind_back y w) = only
      ask n (behind_value d y w) = absurd (no_both T (l + 2) d n)

      makes : is_choice (decode T (l + 2)) ≡ false → 0 < called_of called rows (back_at q) → index_of S (start_of S q) ≡ q → Makes T S (called_of called rows) (flag_of called) r l k (call_rule (start_of S q)) (l + 2) (k + called_of called rows (back_at q) + 1)
      makes n p i =
          let z : Makes T S (called_of called rows) (flag_of called) r l k (call_rule (start_of S q)) (l + 2) (k + called_of called rows (back_at (index_of S (start_of S q))) + 1) =
          makes_call_back {s = start_of S q} (rw i h.found) n (rw i p) in
          rw i at z

  -- a call: what is over, and the place behind it
  pub call-first : {r l k s q o flag u : ℕ} {mid : List ℕ} {a : Bool} → Here T S called r l k → decode T l ≡ call_rule s → q ≡ index_of S s → o ≡ called_of called rows (over_at q) → flag ≡ flag_of called → u ≡ k + o
      → RaisedTwo (over_at r) u (l + 2) flag rows mid a → Steps T S (Both (Only (over_at r) (k + called_of called rows (over_at (index_of S s)))) (Only (l + 2) (flag_of called))) called rows mid a
  call-first {r} {l} {k} {s} {mid = mid} {a = a} h d f g w t x =
      let n = kp.shaped.calls h.comes.is_rule h.comes.reached d in
      let v = t ∙ ap (λ (i : ℕ). k + i) (g ∙ ap (λ (i : ℕ). called_of called rows (over_at i)) f) in
      let x₁ : RaisedTwo (over_at r) (k + called_of called rows (over_at (index_of S s))) (l + 2) (flag_of called) rows mid a = rw (v, w) at x in
      x₁.steps kp (may kp h d (makes_call_over n)) (may kp h d (marks_call n))

  -- and what is behind it
  pub called-all : {r l k s q : ℕ} {mid after : List ℕ} {a b e : Bool} → q ≡ index_of S s → Steps T S (Both (Only (over_at r) (k + called_of called rows (over_at (index_of S s)))) (Only (l + 2) (flag_of called))) called rows mid a
      → Steps T S (Behind T S called l k q) called mid after b → e ≡ (a || b) → Steps T S (MakesAt T S called r l k (call_rule s)) called rows after e
  called-all {r} {l} {k} {s} {q} {mid} {after} {b = b} f c y z =
      let m : Steps T S (Behind T S called l k (index_of S s)) called mid after b = rw f at y in
      rw z (covers (λ i j p. ask p) (seq c m))
    where
      ask : {i j : ℕ} → MakesAt T S called r l k (call_rule s) rows i j → Both (Both (Only (over_at r) (k + called_of called rows (over_at (index_of S s)))) (Only (l + 2) (flag_of called))) (Behind T S called l k (index_of S s)) rows i j
      ask (makes_call_over n) = this (this only)
      ask (makes_call_back n p i) = that (behind_back p i)
      ask (makes_call_value n p i g j) = that (behind_value p i (value_at g j))
      ask (marks_call n) = this (that only)

  -- the tables of choices
  pub token-fits : {r l k : ℕ} → Here T S called r l k → (i x : ℕ) → decode T l ≡ decode_two l i x → i ≡ 7 → Fits T (l + 1 + x)
  unfolding decode_two
  token-fits {l = l} h i x d e =
      let f : decode T l ≡ input_choice (l + 1 + x) = rw e at d in
      let t : HasTable (l + 1 + x) (decode T l) = rw f by_token in
      kp.shaped.tables h.comes.is_rule h.comes.reached t

  pub result_fits : {r l k : ℕ} → Here T S called r l k → (i x : ℕ) → decode T l ≡ decode_two l i x → i ≡ 11 → Fits T (l + 1 + x)
  unfolding decode_two
  result_fits {l = l} h i x d e =
      let f : decode T l ≡ choice (l + 1 + x) = rw e at d in
      let t : HasTable (l + 1 + x) (decode T l) = rw f by_result in
      kp.shaped.tables h.comes.is_rule h.comes.reached t

pub as_call : (T : List ℕ) (l i x : ℕ) → decode T l ≡ decode_two l i x → i ≡ 8 → decode T l ≡ call_rule x
unfolding decode_two
as_call T l i x d e = rw e at d
