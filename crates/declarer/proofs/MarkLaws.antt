-- Marks of a section's entries: an entry that is apart from all marks has no entry against it.
use mathlib.Core.Bool.{Bool, true, false, ◌&&◌, ◌||◌, not}
use mathlib.Core.List.{List, [], ◌∷◌, ◌++◌}
use mathlib.Core.Option.{Option, none, some}
use mathlib.Core.Path.{◌≡◌, refl, ap, sym, ◌∙◌}
use Prim.Native.Nat.{ℕ, suc, ◌+◌, ◌*◌, ◌-◌, ◌%◌, ◌≤◌, ◌<◌}
use native.Mathlib.Omega.{arith}
use lib.Dec.{eqb}
use lib.ListN.{length, get_or, set, take, length-set}
use lib.Seq.{get_or-set_same, get_or-set_other}
use borrow.Author.Tests.{eqb-true, eqb-false, eq-eqb, ne_eqb}
use Rattle.std.specs.Prelude.{if◌then◌else◌}
use mir.Val.{bool_byte}
use Rattle.base.specs.Bools.{never}
use Rattle.declarations.specs.Decls.{Decl, knowns_in}
use Rattle.declarer.specs.Operators.{same_value, against_one, against, slot_from, slot_of, is_free, side_slot, MarkedAs, Apart, MarksKept, AllMarked, none_marked, more_marked}
use Rattle.names.specs.Declare.{differ}
use Rattle.names.specs.Known.{find}
use Rattle.std.specs.Prelude.{Option as Answer, Some, None}
use Rattle.symbols.specs.Rows.{answer_of}
use Rattle.syntax.specs.Written.{Operator}

-- answers

some-none : {u : ℕ} → ◌≡◌ {A = Answer ℕ} (Some u) None → ⊥
some-none e = let y : ◌≡◌ {A = ℕ} 0 1 = cc in omega (arith, y)

same-some : {u v : ℕ} → ◌≡◌ {A = Answer ℕ} (Some u) (Some v) → u ≡ v
same-some e = cc

-- the first row of a value

one-slot : (rows : List ℕ) (v i k : ℕ) → slot_from rows v i (suc k) ≡ (if eqb (get_or rows (8 * i + 1) 0) v then some i else slot_from rows v (suc i) k)
unfolding slot_from
one-slot rows v i k = refl

pub slot-start : (rows : List ℕ) (v n : ℕ) → slot_from rows v 0 n ≡ slot_from rows v 0 (n - 0)
slot-start rows v n = let z : n ≡ n - 0 = omega arith in ap (λ (k : ℕ). slot_from rows v 0 k) z

module _ (rows : List ℕ) (v n i : ℕ) (h : slot_from rows v 0 n ≡ slot_from rows v i (n - i)) where
  step : i < n → slot_from rows v 0 n ≡ (if eqb (get_or rows (8 * i + 1) 0) v then some i else slot_from rows v (suc i) (n - (i + 1)))
  step l = h ∙ (ap (λ (k : ℕ). slot_from rows v i k) more ∙ one-slot rows v i (n - (i + 1)))
    where
      more : n - i ≡ suc (n - (i + 1))
      more = omega (arith, l)

  slot-here : (x : ℕ) → i < n → x ≡ get_or rows (8 * i + 1) 0 → x ≡ v → slot_from rows v 0 n ≡ some i
  slot-here x l e f = step l ∙ ap (λ (t : Bool). if t then some i else slot_from rows v (suc i) (n - (i + 1))) (eq-eqb (get_or rows (8 * i + 1) 0) v (sym e ∙ f))

  pub slot_next : (x : ℕ) → i < n → x ≡ get_or rows (8 * i + 1) 0 → (x ≡ v → ⊥) → slot_from rows v 0 n ≡ slot_from rows v (i + 1) (n - (i + 1))
  slot_next x l e f = step l ∙ (ap (λ (t : Bool). if t then some i else slot_from rows v (suc i) (n - (i + 1))) (ne_eqb (get_or rows (8 * i + 1) 0) v (λ z. f (e ∙ z))) ∙ ap (λ (k : ℕ). slot_from rows v k (n - (i + 1))) one)
    where
      one : suc i ≡ i + 1
      one = omega arith

  slot-none : i ≤ n → n ≤ i → slot_from rows v 0 n ≡ none
  unfolding slot_from
  slot-none a b = let z : n - i ≡ 0 = omega (arith, b) in h ∙ ap (λ (k : ℕ). slot_from rows v i k) z

  -- the same of a value that is there
  module _ {w : Answer ℕ} (q : w ≡ Some v) (x : Option ℕ) (e : w ≡ answer_of x) where
    value-is : x ≡ some v
    value-is = go x (sym q ∙ e) where
      go : (y : Option ℕ) → Some v ≡ answer_of y → y ≡ some v
      go none z = absurd (some-none z)
      go (some u) z = ap some (sym (same-some z))

    slot-is : slot_of rows n x ≡ slot_from rows v 0 n
    unfolding slot_of
    slot-is = rw value-is refl

    pub slot-found : (c : ℕ) → i < n → c ≡ get_or rows (8 * i + 1) 0 → c ≡ v → Some i ≡ answer_of (slot_of rows n x)
    slot-found c l d f = rw (slot-is, slot-here c l d f) refl

    pub slot-missing : i ≤ n → n ≤ i → None ≡ answer_of (slot_of rows n x)
    slot-missing a b = rw (slot-is, slot-none a b) refl

pub slot-without : (rows : List ℕ) (n : ℕ) {w : Answer ℕ} → w ≡ None → (x : Option ℕ) → w ≡ answer_of x → None ≡ answer_of (slot_of rows n x)
unfolding slot_of
slot-without rows n q none e = refl
slot-without rows n q (some u) e = absurd (some-none (sym e ∙ q))

-- sides

pub slot-side : (level : ℕ) (right : Bool) {r : ℕ} → r ≡ 512 + 2 * (level % 16) + bool_byte right → r ≡ side_slot level right
unfolding side_slot
slot-side level true e = omega (arith, e)
slot-side level false e = omega (arith, e)

zero_one : {x : ℕ} → x ≡ 0 → x ≡ 1 → ⊥
zero_one {x} a b = omega (arith, a, b)

one_side : (marks : List ℕ) (l k : ℕ) (r s : Bool) → get_or marks (side_slot l (not r)) 0 ≡ 0 → get_or marks (side_slot k s) 0 ≡ 1 → (eqb l k && differ r s) ≡ false
one_side marks l k r s = go (eqb l k) refl r s
  where
    clash : (b : Bool) → eqb l k ≡ true → get_or marks (side_slot l b) 0 ≡ 0 → get_or marks (side_slot k b) 0 ≡ 1 → ⊥
    clash b e x y = zero_one x (ap (λ (j : ℕ). get_or marks (side_slot j b) 0) (eqb-true l k e) ∙ y)

    go : (t : Bool) → eqb l k ≡ t → (r s : Bool) → get_or marks (side_slot l (not r)) 0 ≡ 0 → get_or marks (side_slot k s) 0 ≡ 1 → (t && differ r s) ≡ false
    go false e r s x y = refl
    go true e true true x y = refl
    go true e false false x y = refl
    go true e true false x y = absurd (clash false e x y)
    go true e false true x y = absurd (clash true e x y)

one_token : (rows marks : List ℕ) (n : ℕ) (x y : Option ℕ) (i : ℕ) → slot_of rows n x ≡ some i → get_or marks i 0 ≡ 0 → ((j : ℕ) → slot_of rows n y ≡ some j → get_or marks j 0 ≡ 1) → same_value x y ≡ false
unfolding same_value
one_token rows marks n none y i f z g = refl
one_token rows marks n (some v) none i f z g = refl
one_token rows marks n (some v) (some u) i f z g = go (eqb v u) refl
  where
    go : (t : Bool) → eqb v u ≡ t → t ≡ false
    go false e = refl
    go true e = absurd (zero_one z (g i (ap (λ (w : ℕ). slot_of rows n (some w)) (sym (eqb-true v u e)) ∙ f)))

both_false : {a b : Bool} → a ≡ false → b ≡ false → (a || b) ≡ false
both_false p q = rw (p, q) refl

pub apart-against : {ds : List Decl} {rows : List ℕ} {n : ℕ} {marks : List ℕ} {bs : List Operator} (o : Operator) → AllMarked ds rows n marks bs → Apart rows n marks o.level o.right (find o.token.text (knowns_in 1 ds))
    → against ds (find o.token.text (knowns_in 1 ds)) o bs ≡ false
unfolding against against_one
apart-against o none_marked a = refl
apart-against {ds} {rows} {n} {marks} o (more_marked {b = b} m ms) a =
    both_false (both_false (one_side marks o.level b.level o.right b.right a.side m.side) (one_token rows marks n (find o.token.text (knowns_in 1 ds)) (find b.token.text (knowns_in 1 ds)) a.slot a.first a.free m.token)) (apart-against o ms a)

pub marked-kept : {ds : List Decl} {rows : List ℕ} {n : ℕ} {old new : List ℕ} {bs : List Operator} → MarksKept old new → AllMarked ds rows n old bs → AllMarked ds rows n new bs
marked-kept k none_marked = none_marked
marked-kept {rows = rows} {n = n} k (more_marked {b = b} m ms) = more_marked (record { side = k.kept (side_slot b.level b.right) m.side; token = λ i e. k.kept i (m.token i e) }) (marked-kept k ms)

pub marked_more : {ds : List Decl} {rows : List ℕ} {n : ℕ} {marks : List ℕ} (bs : List Operator) (b : Operator) → AllMarked ds rows n marks bs → MarkedAs rows n marks b.level b.right (find b.token.text (knowns_in 1 ds)) → AllMarked ds rows n marks (bs ++ (b ∷ []))
marked_more _ b none_marked m = more_marked m none_marked
marked_more _ b (more_marked {bs = bs} x xs) m = more_marked x (marked_more bs b xs m)

pub marked-none : {ds : List Decl} {rows : List ℕ} {n : ℕ} {marks : List ℕ} (es : List Operator) → AllMarked ds rows n marks (take 0 es)
marked-none [] = none_marked
marked-none (e ∷ es) = none_marked

-- what the code tests and writes

pub apart-tested : (rows : List ℕ) (n : ℕ) (marks : List ℕ) (level : ℕ) (right : Bool) {r : Answer ℕ} (x : Option ℕ) → r ≡ answer_of (slot_of rows n x) → get_or marks (side_slot level (not right)) 0 ≡ 0 → is_free marks r ≡ true → Apart rows n marks level right x
apart-tested rows n marks level right {r} x e s k = go (slot_of rows n x) refl (rw e at k)
  where
    go : (o : Option ℕ) → slot_of rows n x ≡ o → is_free marks (answer_of o) ≡ true → Apart rows n marks level right x
    go none q z = never z
    go (some i) q z = record { side = s; slot = i; first = q; free = eqb-true _ _ z }

pub set-kept : (marks : List ℕ) (i : ℕ) → i < length marks → MarksKept marks (set marks i 1)
set-kept marks i l = record { size = length-set marks i 1; kept = λ j h. one j h (eqb i j) refl }
  where
    one : (j : ℕ) → get_or marks j 0 ≡ 1 → (t : Bool) → eqb i j ≡ t → get_or (set marks i 1) j 0 ≡ 1
    one j h true e = ap (λ (k : ℕ). get_or (set marks i 1) k 0) (sym (eqb-true i j e)) ∙ get_or-set_same marks i 1 0 l
    one j h false e = get_or-set_other marks i j 1 0 (λ z. eqb-false i j e (sym z)) ∙ h

pub kept-after : {a b c : List ℕ} → MarksKept a b → MarksKept b c → MarksKept a c
kept-after f g = record { size = g.size ∙ f.size; kept = λ j h. g.kept j (f.kept j h) }

module _ (rows : List ℕ) (n : ℕ) (marks : List ℕ) (level : ℕ) (right : Bool) (i : ℕ) (size : length marks ≡ 544) (e : i ≡ side_slot level right) (l : i < 544) where
  side_set : get_or (set marks i 1) (side_slot level right) 0 ≡ 1
  side_set = ap (λ (k : ℕ). get_or (set marks i 1) k 0) (sym e) ∙ get_or-set_same marks i 1 0 (omega (arith, l, size))

  pub marks-side : MarksKept marks (set marks i 1)
  marks-side = set-kept marks i (omega (arith, l, size))

  -- the token has no slot
  pub mark-side : {r : Answer ℕ} → r ≡ None → (x : Option ℕ) → r ≡ answer_of (slot_of rows n x) → MarkedAs rows n (set marks i 1) level right x
  mark-side z x t = record { side = side_set; token = λ j q. absurd (some-none (sym (ap answer_of q) ∙ sym t ∙ z)) }

  module _ (j : ℕ) (m : j < 512) where
    after : MarksKept (set marks i 1) (set (set marks i 1) j 1)
    after = set-kept (set marks i 1) j (omega (arith, m, size, length-set marks i 1))

    pub marks-both : MarksKept marks (set (set marks i 1) j 1)
    marks-both = kept-after marks-side after

    pub mark-both : {r : Answer ℕ} → r ≡ Some j → (x : Option ℕ) → r ≡ answer_of (slot_of rows n x) → MarkedAs rows n (set (set marks i 1) j 1) level right x
    mark-both z x t = record { side = after.kept (side_slot level right) side_set; token = λ k q. there-set k (same-some (sym (ap answer_of q) ∙ sym t ∙ z)) }
      where
        there-set : (k : ℕ) → k ≡ j → get_or (set (set marks i 1) j 1) k 0 ≡ 1
        there-set k q = ap (λ (h : ℕ). get_or (set (set marks i 1) j 1) h 0) q ∙ get_or-set_same (set marks i 1) j 1 0 (omega (arith, m, size, length-set marks i 1))
