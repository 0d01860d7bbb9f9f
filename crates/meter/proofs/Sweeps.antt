-- Loops over the places of a rule, over the rules, and until nothing is raised.
use mathlib.Core.Bool.{Bool, true, false, ◌||◌}
use mathlib.Core.List.{List}
use mathlib.Core.Path.{◌≡◌, refl, sym, ap, ◌∙◌}
use native.Mathlib.Decide.{dec_lt}
use native.Mathlib.Omega.{arith}
use Prim.Native.Nat.{ℕ, ◌+◌, ◌*◌, ◌≤◌, ◌<◌, min}
use lib.ListN.{length, get_or}
use Rattle.base.specs.Bools.{never}
use Rattle.meter.specs.Makes.{half, cap}
use Rattle.meter.specs.Shaped.{start_of, end_of, InRule}
use Rattle.meter.specs.Steps.{row_of, called_of, left, Kept, Steps, Both, this, that, ValueAt, value_at, Values, values, NoneCalled, AskedAt, AskedBelow, asked_below, AskedFrom, asked_from, rule_in, Settled}
use Rattle.meter.specs.declared.Direction.{Direction}
use Rattle.meter.specs.declared.Direction.TheVariants.{Down, Up}
use Rattle.meter.proofs.Raising.{stays, seq, covers}

-- The values of a rule

pub record ValuesUpto (T S called : List ℕ) (c k q to p : ℕ) (rows after : List ℕ) (b : Bool) : Type 0 where
  pub from : start_of S q ≤ p
  pub upto : p ≤ to
  pub is-end : to ≡ end_of (length T) S q
  pub steps : Steps T S (Values T S called c k q p) called rows after b

pub values-first : {T S called : List ℕ} {c k q to : ℕ} {rows : List ℕ} → Kept T S called rows → start_of S q ≤ to → to ≡ end_of (length T) S q → ValuesUpto T S called c k q to (start_of S q) rows rows false
values-first {T} {S} {called} {c} {k} {q} {rows = rows} kp h e = record { from = omega arith; upto = h; is-end = e; steps = stays kp (λ i v m. absurd (nothing m)) }
  where
    nothing : {i v : ℕ} → Values T S called c k q (start_of S q) rows i v → ⊥
    nothing (values i l m) = omega (arith, i.from)

pub values-next : {T S called : List ℕ} {c k q to p : ℕ} {rows mid after : List ℕ} {a b e : Bool} → ValuesUpto T S called c k q to p rows mid a → p < to → Steps T S (ValueAt T called c k p) called mid after b → e ≡ (a || b)
    → ValuesUpto T S called c k q to (p + 1) rows after e
values-next {T} {S} {called} {c} {k} {q} {p = p} u h x e = rw e (record { from = omega (arith, u.from); upto = omega arith; is-end = u.is-end; steps = covers (λ i v m. split m) (seq u.steps x) })
  where
    split : {rows : List ℕ} {i v : ℕ} → Values T S called c k q (p + 1) rows i v → Both (Values T S called c k q p) (ValueAt T called c k p) rows i v
    split {rows} {i} {v} (values {p = o} y l m) = elim (dec_lt o p) [
      | yes z ↦ this (values y z m)
      | no z ↦ let f : o ≡ p = omega arith in let n : ValueAt T called c k p rows i v = rw f at m in that n
    ]

-- what is raised so far, by a test of what one more raised
pub or-raised : (a b : Bool) → b ≡ true → true ≡ (a || b)
or-raised true b e = refl
or-raised false b e = sym e

pub or-unraised : (a b : Bool) → b ≡ false → a ≡ (a || b)
or-unraised true b e = refl
or-unraised false b e = sym e

-- places without a number set no value
pub values-past : {T S called : List ℕ} {c k q to p n : ℕ} {rows after : List ℕ} {b : Bool} → ValuesUpto T S called c k q to p rows after b → p ≤ n → n ≤ to → NoneCalled called after p n
    → ValuesUpto T S called c k q to n rows after b
values-past {T} {S} {called} {c} {k} {q} {to} {p} {n} {rows} {after} {b} u h l z = record {
  from = omega (arith, u.from);
  upto = l;
  is-end = u.is-end;
  steps = record { kept = u.steps.kept; grows = u.steps.grows; same = u.steps.same; less = u.steps.less; all = λ e {i} {v} m d. one e m d };
}
  where
    at-value : b ≡ false → {o i v : ℕ} → InRule T S q o → o < n → ValueAt T called c k o rows i v → i < half → min v cap ≤ row_of rows i
    at-value e {o} y x (value_at d f) w = elim (dec_lt o p) [
      | yes g ↦ u.steps.all e (values y g (value_at d f)) w
      | no g ↦
          let r : called_of called rows o ≡ 0 = rw (u.steps.same e) at (z.zero o (omega arith) x) in
          absurd (omega (arith, f, r))
    ]

    one : b ≡ false → {i v : ℕ} → Values T S called c k q n rows i v → i < half → min v cap ≤ row_of rows i
    one e (values y x a) w = at-value e y x a w

pub values-all : {T S called : List ℕ} {c k q to p : ℕ} {rows after : List ℕ} {b : Bool} → ValuesUpto T S called c k q to p rows after b → to ≤ p → Steps T S (Values T S called c k q (end_of (length T) S q)) called rows after b
values-all {T} {S} {called} {c} {k} {q} {to} {p} {rows} {after} {b} u h =
    let e : p ≡ end_of (length T) S q = omega (arith, u.upto, u.is-end) in
    rw (← e) u.steps

-- The places of a rule

pub record SweptUpto (T S called : List ℕ) (r to l : ℕ) (rows after : List ℕ) (b : Bool) : Type 0 where
  pub from : start_of S r ≤ l
  pub upto : l ≤ to
  pub is-end : to ≡ end_of (length T) S r
  pub steps : Steps T S (AskedBelow T S called r l) called rows after b

pub swept-first : {T S called : List ℕ} {r to : ℕ} {rows : List ℕ} → Kept T S called rows → start_of S r ≤ to → to ≡ end_of (length T) S r → SweptUpto T S called r to (start_of S r) rows rows false
swept-first {T} {S} {called} {r} {rows = rows} kp h e = record { from = omega arith; upto = h; is-end = e; steps = stays kp (λ i v m. absurd (nothing m)) }
  where
    nothing : {i v : ℕ} → AskedBelow T S called r (start_of S r) rows i v → ⊥
    nothing (asked_below i l m) = omega (arith, i.from)

pub swept-next : {T S called : List ℕ} {r to l : ℕ} {rows mid after : List ℕ} {a b e : Bool} → SweptUpto T S called r to l rows mid a → l < to → Steps T S (AskedAt T S called r l) called mid after b → e ≡ (a || b)
    → SweptUpto T S called r to (l + 1) rows after e
swept-next {T} {S} {called} {r} {l = l} u h x e = rw e (record { from = omega (arith, u.from); upto = omega arith; is-end = u.is-end; steps = covers (λ i v m. split m) (seq u.steps x) })
  where
    split : {rows : List ℕ} {i v : ℕ} → AskedBelow T S called r (l + 1) rows i v → Both (AskedBelow T S called r l) (AskedAt T S called r l) rows i v
    split {rows} {i} {v} (asked_below {l = o} y z m) = elim (dec_lt o l) [
      | yes w ↦ this (asked_below y w m)
      | no w ↦ let f : o ≡ l = omega arith in let n : AskedAt T S called r l rows i v = rw f at m in that n
    ]

pub swept_all : {T S called : List ℕ} {r to l : ℕ} {rows after : List ℕ} {b : Bool} → SweptUpto T S called r to l rows after b → to ≤ l → Steps T S (AskedBelow T S called r (end_of (length T) S r)) called rows after b
swept_all {T} {S} {called} {r} {to} {l} {rows} {after} {b} u h =
    let e : l ≡ end_of (length T) S r = omega (arith, u.upto, u.is-end) in
    rw (← e) u.steps

-- The rules, in either order

-- what the first n of them ask for
pub data AskedIn (T S called : List ℕ) (d : Direction) (n : ℕ) (rows : List ℕ) (i v : ℕ) : Type 0 where
  asked-in : {j l : ℕ} → j < n → InRule T S (rule_in d (length S) j) l → AskedAt T S called (rule_in d (length S) j) l rows i v → AskedIn T S called d n rows i v

pub record RulesIn (T S called : List ℕ) (d : Direction) (n : ℕ) (rows after : List ℕ) (b : Bool) : Type 0 where
  pub upto : n ≤ length S
  pub steps : Steps T S (AskedIn T S called d n) called rows after b

pub rules-first : {T S called rows : List ℕ} {d : Direction} → Kept T S called rows → RulesIn T S called d 0 rows rows false
rules-first {T} {S} {called} {rows} {d} kp = record { upto = omega arith; steps = stays kp (λ i v m. absurd (nothing m)) }
  where
    nothing : {i v : ℕ} → AskedIn T S called d 0 rows i v → ⊥
    nothing (asked-in h i m) = omega arith

pub rules-next : {T S called : List ℕ} {d : Direction} {n r : ℕ} {rows mid after : List ℕ} {a b e : Bool} → RulesIn T S called d n rows mid a → n < length S → r ≡ rule_in d (length S) n
    → Steps T S (AskedBelow T S called r (end_of (length T) S r)) called mid after b → e ≡ (a || b) → RulesIn T S called d (n + 1) rows after e
rules-next {T} {S} {called} {d} {n} {r} u h is x e = rw e (record { upto = omega (arith, u.upto); steps = covers (λ i v m. split m) (seq u.steps x) })
  where
    split : {rows : List ℕ} {i v : ℕ} → AskedIn T S called d (n + 1) rows i v → Both (AskedIn T S called d n) (AskedBelow T S called r (end_of (length T) S r)) rows i v
    split {rows} {i} {v} (asked-in {j = j} {l = l} y w m) = elim (dec_lt j n) [
      | yes q ↦ this (asked-in {j = j} {l = l} q w m)
      | no q ↦ let f : j ≡ n = omega arith in
          let g : rule_in d (length S) j ≡ r = ap (rule_in d (length S)) f ∙ sym is in
          let w₁ : InRule T S r l = rw g at w in
          let m₁ : AskedAt T S called r l rows i v = rw g at m in
          that (asked_below w₁ w₁.to m₁)
    ]

-- the turn in which a rule comes
turn-of : (d : Direction) (n r : ℕ) → r < n → (rule_in d n r < n) × (rule_in d n (rule_in d n r) ≡ r)
turn-of Down n r h = (omega arith, omega arith)
turn-of Up n r h = (h, refl)

pub rule-within : (d : Direction) {n i r : ℕ} → r ≡ rule_in d n i → i < n → r < n
rule-within d {n} {i} e h = let t = (turn-of d n i h).0 in omega (arith, e, t)

pub rules-all : {T S called : List ℕ} {d : Direction} {n : ℕ} {rows after : List ℕ} {b : Bool} → RulesIn T S called d n rows after b → length S ≤ n → Steps T S (AskedFrom T S called 0) called rows after b
rules-all {T} {S} {called} {d} {n} u h = covers (λ i v m. ask m) u.steps
  where
    ask : {rows : List ℕ} {i v : ℕ} → AskedFrom T S called 0 rows i v → AskedIn T S called d n rows i v
    ask {rows} {i} {v} (asked_from {r = o} {l = l} y z w m) =
        let t = turn-of d (length S) o z in
        let w₁ : InRule T S (rule_in d (length S) (rule_in d (length S) o)) l = rw (t.1) w in
        let m₁ : AskedAt T S called (rule_in d (length S) (rule_in d (length S) o)) l rows i v = rw (t.1) m in
        asked-in {j = rule_in d (length S) o} {l = l} (omega (arith, t.0)) w₁ m₁

-- Sweeps of some rules, of which nothing is known but what they keep

pub none-asked : {T S called rows : List ℕ} → Kept T S called rows → Steps T S (AskedFrom T S called (length S)) called rows rows false
none-asked {T} {S} {called} {rows} k = stays k (λ i v m. absurd (nothing m))
  where
    nothing : {i v : ℕ} → AskedFrom T S called (length S) rows i v → ⊥
    nothing (asked_from h l i m) = omega arith

pub some-swept : {T S called : List ℕ} {r : ℕ} {rows after : List ℕ} {b : Bool} → Steps T S (AskedBelow T S called r (end_of (length T) S r)) called rows after b → Steps T S (AskedFrom T S called (length S)) called rows after b
some-swept {T} {S} {called} x = covers (λ i v m. absurd (nothing m)) x
  where
    nothing : {rows : List ℕ} {i v : ℕ} → AskedFrom T S called (length S) rows i v → ⊥
    nothing (asked_from h l i m) = omega arith

-- and then a sweep
pub then-swept : {T S called : List ℕ} {q : ℕ} {rows mid after : List ℕ} {a b e : Bool} → Steps T S (AskedFrom T S called (length S)) called rows mid a → Steps T S (AskedFrom T S called q) called mid after b → e ≡ (a || b)
    → Steps T S (AskedFrom T S called q) called rows after e
then-swept x y e = rw e (covers (λ i v m. that m) (seq x y))

-- Until nothing is raised

pub record Settling (T S called rows after : List ℕ) (changed : Bool) : Type 0 where
  pub kept : Kept T S called after
  pub grows : (i : ℕ) → get_or rows i 0 ≤ get_or after i 0
  pub done : changed ≡ false → {i v : ℕ} → AskedFrom T S called 0 after i v → i < half → min v cap ≤ row_of after i

-- what is left to do
pub todo : List ℕ → Bool → ℕ
todo rows true = 2 * left rows + 1
todo rows false = 2 * left rows

pub settling-first : {T S called rows : List ℕ} → Kept T S called rows → Settling T S called rows rows true
settling-first k = record { kept = k; grows = λ i. omega arith; done = λ e. never (sym e) }

pub settling-next : {T S called rows mid after : List ℕ} {a b : Bool} → Settling T S called rows mid a → Steps T S (AskedFrom T S called 0) called mid after b → Settling T S called rows after b
settling-next {T} {S} {called} {rows} {mid} {after} {a} {b} u x = record {
  kept = x.kept;
  grows = λ i. omega (arith, u.grows i, x.grows i);
  done = λ e m h. done e m h;
}
  where
    done : b ≡ false → {i v : ℕ} → AskedFrom T S called 0 after i v → i < half → min v cap ≤ row_of after i
    done e {i} {v} m h =
        let q = x.same e in
        let n : AskedFrom T S called 0 mid i v = rw q at m in
        rw q (x.all e n h)

-- what goes before a sweep
pub settling-rounds : {T S called rows mid after : List ℕ} {a b : Bool} → Settling T S called rows mid a → Steps T S (AskedFrom T S called (length S)) called mid after b → Settling T S called rows after true
settling-rounds u x = record { kept = x.kept; grows = λ i. omega (arith, u.grows i, x.grows i); done = λ e. never (sym e) }

pub no-more-left : {T S called rows after : List ℕ} {q : ℕ} {b : Bool} → Steps T S (AskedFrom T S called q) called rows after b → left after ≤ left rows
no-more-left {rows = rows} {after = after} {b = b} x = go b x.less x.same
  where
    go : (b : Bool) → (b ≡ true → left after < left rows) → (b ≡ false → after ≡ rows) → left after ≤ left rows
    go true f g = omega (arith, f refl)
    go false f g = rw (g refl) (omega arith)

pub todo-less : {T S called rows mid after : List ℕ} {a b e : Bool} → a ≡ true → Steps T S (AskedFrom T S called (length S)) called rows mid e → Steps T S (AskedFrom T S called 0) called mid after b → todo after b < todo rows a
unfolding todo
todo-less {rows = rows} {mid = mid} {after = after} {b = b} e y x = rw e (go b x.less x.same)
  where
    go : (b : Bool) → (b ≡ true → left after < left mid) → (b ≡ false → after ≡ mid) → todo after b < 2 * left rows + 1
    go true f g = omega (arith, f refl, no-more-left y)
    go false f g = rw (g refl) (omega (arith, no-more-left y))

pub settled : {T S called rows after : List ℕ} {a : Bool} → Settling T S called rows after a → a ≡ false → Settled T S called rows after
settled u e = record { kept = u.kept; grows = u.grows; all = λ m h. u.done e m h }
