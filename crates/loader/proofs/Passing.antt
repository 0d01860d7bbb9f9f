-- Blocks of entries: what is marked stays marked, and marking it again changes nothing.
use mathlib.Core.Bool.{Bool, true, false, ◌&&◌}
use mathlib.Core.List.{List, [], ◌∷◌, ◌++◌}
use mathlib.Core.Logic.{inl, inr}
use mathlib.Core.Path.{◌≡◌, refl, sym, ap, ◌∙◌, subst}
use Prim.Native.Nat.{ℕ, zero, suc, ◌+◌, ◌*◌, ◌-◌, ◌/◌, ◌%◌, ◌<◌, ◌≤◌}
use native.Mathlib.Omega.{arith}
use lib.Dec.{eqb, leb}
use lib.ListN.{length, get_or, set, replicate, length-set, length-replicate}
use lib.Seq.{get_or-set_same, get_or-set_other}
use borrow.Author.Tests.{eqb-true, eqb-false, leb-true, le-leb}
use Rattle.base.proofs.Laws.{zeros-at}
use Rattle.base.specs.Bools.{never, and, split}
use Rattle.std.specs.Prelude.{if◌then◌else◌}
use Rattle.loading.proofs.Members.{member-head, member-tail, member-cons}
use Rattle.loading.specs.Reach.{gives37}
use Rattle.loading.specs.Taking.{ways, labelled, back_from}
use Rattle.loader.proofs.Laws.{Worked, worked, some-marked, same-marked, append-on, append-stop, Along}
use Rattle.std.specs.Prelude as O
use Rattle.std.specs.Prelude.{Some}
use Rattle.loader.specs.Marking.{Work, work, mark_of, marks_of, failed, visit_of, Kept, Marked, Lies}
use Rattle.loader.specs.Passing.{AllMarked, Passed, Through, Whole}

-- Flags stay

abbrev pub Grows : List ℕ → List ℕ → Type 0
Grows seen seen' = (i : ℕ) → eqb (get_or seen i 0) 0 ≡ false → eqb (get_or seen' i 0) 0 ≡ false

set-grows : (seen : List ℕ) (k : ℕ) → Grows seen (set seen k 1)
set-grows [] k i h = never (sym h)
set-grows (x ∷ seen) zero zero h = refl
set-grows (x ∷ seen) zero (suc i) h = h
set-grows (x ∷ seen) (suc k) zero h = h
set-grows (x ∷ seen) (suc k) (suc i) h = set-grows seen k i h

mark-grows : (size m : ℕ) (w : Work) → Grows w.seen (mark_of size m w).seen
unfolding mark_of
mark-grows size m w i h = go (leb 1 m && leb m size) (eqb (get_or w.seen (m - 1) 0) 0)
  where
    go : (t f : Bool) → eqb (get_or (if t then (if f then work true (w.tail + 1) (set w.seen (m - 1) 1) (set w.order w.tail m) else work true w.tail w.seen w.order) else work false w.tail w.seen w.order).seen i 0) 0 ≡ false
    go true true = set-grows w.seen (m - 1) i h
    go true false = h
    go false f = h

marks-grow : (size : ℕ) (ms : List ℕ) (w : Work) → Grows w.seen (marks_of size ms w).seen
unfolding marks_of
marks-grow size [] w i h = h
marks-grow size (m ∷ ms) w i h = go (mark_of size m w).ok (mark-grows size m w i h) (marks-grow size ms (mark_of size m w) i)
  where
    go : (t : Bool) → eqb (get_or (mark_of size m w).seen i 0) 0 ≡ false
        → (eqb (get_or (mark_of size m w).seen i 0) 0 ≡ false → eqb (get_or (marks_of size ms (mark_of size m w)).seen i 0) 0 ≡ false)
        → eqb (get_or (if t then marks_of size ms (mark_of size m w) else mark_of size m w).seen i 0) 0 ≡ false
    go true a b = b a
    go false a b = a

visit-grows : (T : List ℕ) (l : ℕ) (w : Work) → Grows w.seen (visit_of T l w).seen
unfolding visit_of failed
visit-grows T l w i h = go (gives37 T l)
  where
    go : (t : Bool) → eqb (get_or (if t then work false w.tail w.seen w.order else marks_of (length T) (ways T l) w).seen i 0) 0 ≡ false
    go true = h
    go false = marks-grow (length T) (ways T l) w i h

pub passed_on : {T : List ℕ} {size : ℕ} {seen passed : List ℕ} (seen' : List ℕ) → Passed T size seen passed → Grows seen seen' → Passed T size seen' passed
passed_on seen' p g = record {
  room = p.room;
  ways = λ b n. record { each = λ m e. let a = (p.ways b n).each m e in (a.0, a.1, g (m - 1) a.2) };
}

-- what is left of an outcome
left-grows : {size : ℕ} {w : Work} {ok : Bool} {tail : ℕ} {seen order : List ℕ} (seen₀ : List ℕ) → Worked size w ok tail seen order → Grows seen₀ w.seen → Grows seen₀ seen
left-grows {size} {w} {ok} {tail} {seen} {order} seen₀ m g = subst (λ (v : Work). Grows seen₀ v.seen) (sym m.is) g

module _ {T : List ℕ} {size : ℕ} {seen passed : List ℕ} (tail : ℕ) (order : List ℕ) (p : Passed T size seen passed) {r : O.Option ℕ} {seen' order' : List ℕ} where
  pub through-mark : (m : ℕ) → Marked size (mark_of size m (work true tail seen order)) r seen' order' → Passed T size seen' passed
  through-mark m k = passed_on seen' p (left-grows seen (worked k) (mark-grows size m (work true tail seen order)))

  pub through-marks : (ms : List ℕ) → Marked size (marks_of size ms (work true tail seen order)) r seen' order'
      → Through T size (marks_of size ms (work true tail seen order)) r seen' order' passed
  through-marks ms k = record { marked = k; passes = passed_on seen' p (left-grows seen (worked k) (marks-grow size ms (work true tail seen order))) }

  pub through-visit : (l : ℕ) → Marked size (visit_of T l (work true tail seen order)) r seen' order'
      → Through T size (visit_of T l (work true tail seen order)) r seen' order' passed
  through-visit l k = record { marked = k; passes = passed_on seen' p (left-grows seen (worked k) (visit-grows T l (work true tail seen order))) }

pub same-through : {T : List ℕ} {size : ℕ} {w v : Work} {r : O.Option ℕ} {seen order passed : List ℕ} → Through T size v r seen order passed → w ≡ v
    → Through T size w r seen order passed
same-through t e = record { marked = same-marked t.marked e; passes = t.passes }

-- All are marked

record Set (size m : ℕ) (w v : Work) : Type 0 where
  from : 1 ≤ m
  low : m ≤ size
  flag : eqb (get_or v.seen (m - 1) 0) 0 ≡ false
  long : length v.seen ≡ length w.seen

mark-sets : (size m : ℕ) (w : Work) → size ≤ length w.seen → (mark_of size m w).ok ≡ true → Set size m w (mark_of size m w)
unfolding mark_of
mark-sets size m w h e = go (leb 1 m && leb m size) refl (eqb (get_or w.seen (m - 1) 0) 0) refl e
  where
    go : (t : Bool) → (leb 1 m && leb m size) ≡ t → (f : Bool) → eqb (get_or w.seen (m - 1) 0) 0 ≡ f
        → (if t then (if f then work true (w.tail + 1) (set w.seen (m - 1) 1) (set w.order w.tail m) else work true w.tail w.seen w.order) else work false w.tail w.seen w.order).ok ≡ true
        → Set size m w (if t then (if f then work true (w.tail + 1) (set w.seen (m - 1) 1) (set w.order w.tail m) else work true w.tail w.seen w.order) else work false w.tail w.seen w.order)
    go false x f y d = never d
    go true x f y d =
        let p = and (leb 1 m) (leb m size) x in
        let a = leb-true 1 m p.0 in
        let b = leb-true m size p.1 in
        inner f y a b
      where
        inner : (f : Bool) → eqb (get_or w.seen (m - 1) 0) 0 ≡ f → 1 ≤ m → m ≤ size
            → Set size m w (if f then work true (w.tail + 1) (set w.seen (m - 1) 1) (set w.order w.tail m) else work true w.tail w.seen w.order)
        inner true y a b = record { from = a; low = b; flag = rw (get_or-set_same w.seen (m - 1) 1 0 (omega arith)); long = length-set w.seen (m - 1) 1 }
        inner false y a b = record { from = a; low = b; flag = y; long = refl }

marks-all : (size : ℕ) (ms : List ℕ) (w : Work) → size ≤ length w.seen → (marks_of size ms w).ok ≡ true → AllMarked size (marks_of size ms w).seen ms
unfolding marks_of
marks-all size [] w h e = record { each = λ m x. never x }
marks-all size (m ∷ ms) w h e = go (mark_of size m w).ok refl e (λ s. marks-all size ms (mark_of size m w) (omega (arith, s.long)))
  where
    go : (t : Bool) → (mark_of size m w).ok ≡ t → (if t then marks_of size ms (mark_of size m w) else mark_of size m w).ok ≡ true
        → (Set size m w (mark_of size m w) → (marks_of size ms (mark_of size m w)).ok ≡ true → AllMarked size (marks_of size ms (mark_of size m w)).seen ms)
        → AllMarked size (if t then marks_of size ms (mark_of size m w) else mark_of size m w).seen (m ∷ ms)
    go false x d i = never (sym x ∙ d)
    go true x d i =
        let s = mark-sets size m w h x in
        let a = i s d in
        let f = marks-grow size ms (mark_of size m w) (m - 1) s.flag in
        record { each = λ n y. elim (member-cons n m ms y) [ inl q ↦ rw q (s.from, s.low, f) | inr q ↦ a.each n q ] }

-- marked again, nothing changes
mark-same : (size m tail : ℕ) (seen order : List ℕ) → 1 ≤ m → m ≤ size → eqb (get_or seen (m - 1) 0) 0 ≡ false → mark_of size m (work true tail seen order) ≡ work true tail seen order
unfolding mark_of
mark-same size m tail seen order a b f = rw (le-leb 1 m a, le-leb m size b, f)

marks-same : (size : ℕ) (ms : List ℕ) (tail : ℕ) (seen order : List ℕ) → AllMarked size seen ms → marks_of size ms (work true tail seen order) ≡ work true tail seen order
unfolding marks_of
marks-same size [] tail seen order a = refl
marks-same size (m ∷ ms) tail seen order a =
    let h = a.each m (member-head m ms) in
    rw (mark-same size m tail seen order h.0 h.1 h.2) (marks-same size ms tail seen order (record { each = λ n y. a.each n (member-tail n m ms y) }))

-- One piece

pub not-whole : (first count : ℕ) → false ≡ true → Whole first count
not-whole first count e = never e

pub lies-part : {T : List ℕ} {n from size : ℕ} → Lies T n from size → (i k : ℕ) → i + k ≤ n → Lies T k (from + 2 * i) size
lies-part l i k h = record { size_is = l.size_is; first = omega (arith, l.first); last = omega (arith, l.last) }

-- where a block begins, by its number
block_start : (first : ℕ) → first % 32 < 2 → (first / 32 * 2 + first % 2) / 2 * 32 + (first / 32 * 2 + first % 2) % 2 ≡ first
block_start first h = omega arith

module _ {T : List ℕ} {n first size tail : ℕ} {seen order passed : List ℕ} (k : Kept size tail seen order) (p : Passed T size seen passed) (b : ℕ) (e : b ≡ first / 32 * 2 + first % 2) (w : Whole first n) where
  start_is : b / 2 * 32 + b % 2 ≡ first
  start_is = ap (λ (x : ℕ). x / 2 * 32 + x % 2) e ∙ block_start first w.start

  block-is : labelled T 16 (b / 2 * 32 + b % 2) ≡ labelled T n first
  block-is = two 16 n _ first (sym w.size) start_is
    where
      two : (i j x y : ℕ) → i ≡ j → x ≡ y → labelled T i x ≡ labelled T j y
      two i j x y f g = rw (f, g)

  pub piece-done : (get_or passed b 0 ≡ 0 → ⊥) → Through T size (marks_of size (labelled T n first) (work true tail seen order)) (Some tail) seen order passed
  piece-done f =
      let a : AllMarked size seen (labelled T n first) = rw block-is at (p.ways b f) in
      record { marked = some-marked (record { is = sym (marks-same size (labelled T n first) tail seen order a); kept = k }); passes = p }

  pub piece-new : {tail' : ℕ} {seen' order' : List ℕ} → Worked size (marks_of size (labelled T n first) (work true tail seen order)) true tail' seen' order'
      → b < 256 → Through T size (marks_of size (labelled T n first) (work true tail seen order)) (Some tail') seen' order' (set passed b 1)
  piece-new {tail'} {seen'} {order'} m u = record {
    marked = some-marked m;
    passes = record {
      room = length-set passed b 1 ∙ p.room;
      ways = λ c f. split (eqb c b)
          (λ q. let z = eqb-true c b q in rw (z, block-is) all)
          (λ q. old.ways c (λ g. f (get_or-set_other passed b c 1 0 (eqb-false c b q) ∙ g)));
    };
  }
    where
      old : Passed T size seen' passed
      old = (through-marks tail order p (labelled T n first) (some-marked m)).passes

      all : AllMarked size seen' (labelled T n first)
      all = subst (λ (x : Work). AllMarked size x.seen (labelled T n first)) (sym m.is)
          (marks-all size (labelled T n first) (work true tail seen order) (omega (arith, k.small, k.flags)) (ap (λ (x : Work). x.ok) (sym m.is)))

-- Piece by piece

labels-split : (T : List ℕ) (k m p : ℕ) → labelled T (k + m) p ≡ labelled T k p ++ labelled T m (p + 2 * k)
unfolding labelled
labels-split T zero m p = two (0 + m) m p (p + 2 * 0) (omega arith) (omega arith)
  where
    two : (i j x y : ℕ) → i ≡ j → x ≡ y → labelled T i x ≡ labelled T j y
    two i j x y f g = rw (f, g)
labels-split T (suc k) m p =
    let e : suc k + m ≡ suc (k + m) = omega arith in
    let f : p + 2 + 2 * k ≡ p + 2 * suc k = omega arith in
    rw e (ap (λ (z : List ℕ). back_from T (p + 1) ∷ z) (labels-split T k m (p + 2) ∙ ap (λ (x : ℕ). labelled T k (p + 2) ++ labelled T m x) f))

labels-by : (T : List ℕ) (n i k from : ℕ) → i + k ≤ n
    → labelled T (n - i) (from + 2 * i) ≡ labelled T k (from + 2 * i) ++ labelled T (n - (i + k)) (from + 2 * (i + k))
labels-by T n i k from h =
    let e : n - i ≡ k + (n - (i + k)) = omega arith in
    let f : from + 2 * i + 2 * k ≡ from + 2 * (i + k) = omega arith in
    ap (λ (x : ℕ). labelled T x (from + 2 * i)) e ∙ labels-split T k (n - (i + k)) (from + 2 * i)
    ∙ ap (λ (x : ℕ). labelled T k (from + 2 * i) ++ labelled T (n - (i + k)) x) f

module _ {T : List ℕ} {n from size tail : ℕ} {seen₀ order₀ seen order : List ℕ} {at i : ℕ} (a : Along T n from size tail seen₀ order₀ seen order at i) (k : ℕ) (h : i + k ≤ n)
    {ok : Bool} {tail' : ℕ} {seen' order' : List ℕ} (m : Worked size (marks_of size (labelled T k (from + 2 * i)) (work true at seen order)) ok tail' seen' order') where
  rest-is : marks_of size (labelled T k (from + 2 * i) ++ labelled T (n - (i + k)) (from + 2 * (i + k))) (work true at seen order) ≡ marks_of size (labelled T n from) (work true tail seen₀ order₀)
  rest-is = ap (λ (ms : List ℕ). marks_of size ms (work true at seen order)) (sym (labels-by T n i k from h)) ∙ a.rest

  pub along-by : ok ≡ true → Along T n from size tail seen₀ order₀ seen' order' tail' (i + k)
  along-by t = record {
    low = h;
    kept = m.kept;
    rest =
        ap (λ (b : Bool). marks_of size (labelled T (n - (i + k)) (from + 2 * (i + k))) (work b tail' seen' order')) (sym t)
        ∙ sym (append-on size (labelled T k (from + 2 * i)) (labelled T (n - (i + k)) (from + 2 * (i + k))) (work true at seen order) (work ok tail' seen' order') refl (sym m.is) t)
        ∙ rest-is;
  }

  pub along-halt : ok ≡ false → Worked size (marks_of size (labelled T n from) (work true tail seen₀ order₀)) ok tail' seen' order'
  along-halt t = record {
    is = sym (append-stop size (labelled T k (from + 2 * i)) (labelled T (n - (i + k)) (from + 2 * (i + k))) (work true at seen order) (work ok tail' seen' order') refl (sym m.is) t) ∙ rest-is;
    kept = m.kept;
  }

-- no block is passed
pub passed-room : (passed : List ℕ) → passed ≡ replicate 256 0 → length passed ≡ 256
passed-room passed e = ap length e ∙ length-replicate {A = ℕ} 256 0

pub none_passed : (T : List ℕ) (size : ℕ) (seen passed : List ℕ) → passed ≡ replicate 256 0 → Passed T size seen passed
none_passed T size seen passed e = record {
  room = passed-room passed e;
  ways = λ b f. absurd (f (ap (λ (z : List ℕ). get_or z b 0) e ∙ zeros-at 256 b));
}
