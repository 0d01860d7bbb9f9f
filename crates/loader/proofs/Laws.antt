-- Laws of the marks, one for each way out of a function.
use mathlib.Core.Bool.{Bool, true, false, ◌&&◌}
use mathlib.Core.List.{List, [], ◌∷◌, ◌++◌}
use mathlib.Core.Option.{some}
use mathlib.Core.Path.{◌≡◌, refl, sym, ap, subst, ◌∙◌}
use Prim.Native.Nat.{ℕ, zero, suc, ◌+◌, ◌*◌, ◌-◌, ◌<◌, ◌≤◌, min}
use native.Mathlib.Omega.{arith}
use lib.Dec.{leb}
use lib.ListN.{length, get_or, set, take, length-set, length-take}
use lib.Seq.{get_or-take}
use borrow.Author.Tests.{eq-eqb, ne_eqb, le-leb, lt-leb}
use Rattle.base.specs.Bools.{never}
use Rattle.std.specs.Prelude as O
use Rattle.std.specs.Prelude.{if◌then◌else◌, Some, None, is_some, unwrap_or}
use Rattle.machine.proofs.Bytes.{length-words_of, elem_in}
use Rattle.machine.specs.Bytes.{count, words_of, table_of}
use Rattle.machine.specs.Decode.{fetch}
use Rattle.loading.specs.Taking.{back_from, labelled}
use Rattle.loader.specs.Marking.{Work, work, mark_of, marks_of, zeros, Kept, Marked}

-- The table

pub table-length : (s : List ℕ) → length (table_of s) ≡ min 4096 (count s)
unfolding table_of
table-length s = length-take 4096 (words_of s) ∙ ap (min 4096) (length-words_of s)

pub table-fetch : (s : List ℕ) (l : ℕ) → 1 ≤ l → l ≤ length (table_of s) → fetch (table_of s) l ≡ some (get_or (words_of s) (l - 1) 0)
unfolding fetch table_of
table-fetch s zero a b = absurd (omega arith)
table-fetch s (suc i) a b =
    let n = length-take 4096 (words_of s) in
    let e : suc i - 1 ≡ i = omega arith in
    elem_in (take 4096 (words_of s)) i (omega arith) ∙ ap some (get_or-take 4096 (words_of s) i 0 (omega arith) ∙ ap (λ (j : ℕ). get_or (words_of s) j 0) (sym e))

-- Flags

zeros-some : (seen : List ℕ) (i : ℕ) → i < length seen → get_or seen i 0 ≡ 0 → 1 ≤ zeros seen
unfolding zeros
zeros-some [] i h e = absurd (omega arith)
zeros-some (x ∷ seen) zero h e = rw (eq-eqb x 0 e) (omega arith)
zeros-some (x ∷ seen) (suc i) h e = let r = zeros-some seen i (omega arith) e in omega arith

zeros-set : (seen : List ℕ) (i : ℕ) → i < length seen → get_or seen i 0 ≡ 0 → suc (zeros (set seen i 1)) ≡ zeros seen
unfolding zeros
zeros-set [] i h e = absurd (omega arith)
zeros-set (x ∷ seen) zero h e = rw (eq-eqb x 0 e) (omega arith)
zeros-set (x ∷ seen) (suc i) h e = let r = zeros-set seen i (omega arith) e in omega arith

-- What a function left, by a flag and a place

pub record Worked (size : ℕ) (w : Work) (ok : Bool) (tail : ℕ) (seen order : List ℕ) : Type 0 where
  pub is : work ok tail seen order ≡ w
  pub kept : Kept size tail seen order

module _ {size : ℕ} {w : Work} {seen order : List ℕ} where
  pub some-marked : {t : ℕ} → Worked size w true t seen order → Marked size w (Some t) seen order
  some-marked {t} m =
      let e : t ≡ w.tail = ap (λ (x : Work). x.tail) m.is in
      record { is = ap (λ (n : ℕ). work true n seen order) (sym e) ∙ m.is; tail = e; kept = subst (λ (n : ℕ). Kept size n seen order) e m.kept }

  pub none-marked : {r : O.Option ℕ} {t : ℕ} → r ≡ None → Worked size w false t seen order → Marked size w r seen order
  none-marked {r} {t} f m =
      let e : t ≡ w.tail = ap (λ (x : Work). x.tail) m.is in
      let n : Marked size w None seen order =
      record { is = ap (λ (n : ℕ). work false n seen order) (sym e) ∙ m.is; tail = refl; kept = subst (λ (n : ℕ). Kept size n seen order) e m.kept } in
      subst (λ (x : O.Option ℕ). Marked size w x seen order) (sym f) n

  pub some-worked : {r : O.Option ℕ} {t : ℕ} → r ≡ Some t → Marked size w r seen order → Worked size w true t seen order
  some-worked {r} {t} e m =
      let n : t ≡ w.tail = ap (λ (o : O.Option ℕ). unwrap_or o w.tail) (sym e) ∙ m.tail in
      record {
        is = ap (λ (b : Bool). work b t seen order) (sym (ap is_some e)) ∙ ap (λ (k : ℕ). work (is_some r) k seen order) n ∙ m.is;
        kept = subst (λ (k : ℕ). Kept size k seen order) (sym n) m.kept;
      }

  pub none-worked : {r : O.Option ℕ} → r ≡ None → Marked size w r seen order → Worked size w false w.tail seen order
  none-worked e m = record { is = ap (λ (b : Bool). work b w.tail seen order) (sym (ap is_some e)) ∙ m.is; kept = m.kept }

  pub worked : {r : O.Option ℕ} → Marked size w r seen order → Worked size w (is_some r) w.tail seen order
  worked m = record { is = m.is; kept = m.kept }

  -- a contract from one of the same outcome
  pub same-marked : {v : Work} {r : O.Option ℕ} → Marked size v r seen order → w ≡ v → Marked size w r seen order
  same-marked {v} {r} m e = subst (λ (u : Work). Marked size u r seen order) (sym e) m

  pub pass-on : {v : Work} {r : O.Option ℕ} → Marked size v r seen order → Worked size w (is_some r) v.tail seen order → Marked size w r seen order
  pass-on m x = same-marked m (sym x.is ∙ m.is)

-- One location

module _ {size tail : ℕ} {seen order : List ℕ} (k : Kept size tail seen order) where
  pub room : (m : ℕ) → (m ≡ 0 → ⊥) → m ≤ size → get_or seen (m - 1) 0 ≡ 0 → tail < 4096
  room m a b e =
      let s = k.small in
      let f = k.flags in
      let c = k.counted in
      let z = zeros-some seen (m - 1) (below m a b) e in
      omega arith
    where
      below : (x : ℕ) → (x ≡ 0 → ⊥) → x ≤ size → x - 1 < length seen
      below zero n h = absurd (n refl)
      below (suc x) n h = omega (arith, k.small, k.flags)

  inside : (m : ℕ) → (m ≡ 0 → ⊥) → m ≤ size → (leb 1 m && leb m size) ≡ true
  inside zero a b = absurd (a refl)
  inside (suc m) a b = rw (le-leb 1 (suc m) (omega arith)) (le-leb (suc m) size b)

  pub mark-zero : (m : ℕ) → m ≡ 0 → Worked size (mark_of size m (work true tail seen order)) false tail seen order
  unfolding mark_of
  mark-zero m e = record { is = rw e; kept = k }

  pub mark-past : (m : ℕ) → size < m → Worked size (mark_of size m (work true tail seen order)) false tail seen order
  unfolding mark_of
  mark-past m h = record { is = rw (le-leb 1 m (omega arith), lt-leb m size h); kept = k }

  pub mark-old : (m : ℕ) → (m ≡ 0 → ⊥) → m ≤ size → (get_or seen (m - 1) 0 ≡ 0 → ⊥)
      → Worked size (mark_of size m (work true tail seen order)) true tail seen order
  unfolding mark_of
  mark-old m a b e = record { is = rw (inside m a b, ne_eqb (get_or seen (m - 1) 0) 0 e); kept = k }

  one_less : (m : ℕ) → (m ≡ 0 → ⊥) → m ≤ size → get_or seen (m - 1) 0 ≡ 0 → tail + 1 + zeros (set seen (m - 1) 1) ≡ 4096
  one_less zero a b e = absurd (a refl)
  one_less (suc m) a b e = let z = zeros-set seen (suc m - 1) (omega (arith, k.small, k.flags)) e in omega (arith, k.counted)

  pub mark-new : (m : ℕ) → (m ≡ 0 → ⊥) → m ≤ size → get_or seen (m - 1) 0 ≡ 0
      → Worked size (mark_of size m (work true tail seen order)) true (tail + 1) (set seen (m - 1) 1) (set order tail m)
  unfolding mark_of
  mark-new m a b e = record {
    is = rw (inside m a b, eq-eqb (get_or seen (m - 1) 0) 0 e);
    kept = record {
      small = k.small;
      flags = length-set seen (m - 1) 1 ∙ k.flags;
      row = length-set order tail m ∙ k.row;
      counted = one_less m a b e;
    };
  }

-- Several locations

pub marks-one : (size m : ℕ) (w : Work) → marks_of size (m ∷ []) w ≡ mark_of size m w
unfolding marks_of
marks-one size m w = go (mark_of size m w) (mark_of size m w).ok
  where
    go : (u : Work) (t : Bool) → (if t then u else u) ≡ u
    go u true = refl
    go u false = refl

pub marks-on : (size m : ℕ) (ms : List ℕ) (w u : Work) → mark_of size m w ≡ u → u.ok ≡ true → marks_of size (m ∷ ms) w ≡ marks_of size ms u
unfolding marks_of
marks-on size m ms w u e t = rw (e, t)

pub marks-stop : (size m : ℕ) (ms : List ℕ) (w u : Work) → mark_of size m w ≡ u → u.ok ≡ false → marks_of size (m ∷ ms) w ≡ u
unfolding marks_of
marks-stop size m ms w u e t = rw (e, t)

pub append-on : (size : ℕ) (a b : List ℕ) (w u : Work) → w.ok ≡ true → marks_of size a w ≡ u → u.ok ≡ true → marks_of size (a ++ b) w ≡ marks_of size b u
unfolding marks_of
append-on size [] b w u o e t = ap (marks_of size b) e
append-on size (m ∷ a) b w u o e t = go (mark_of size m w).ok refl e (append-on size a b (mark_of size m w) u)
  where
    go : (k : Bool) → (mark_of size m w).ok ≡ k → (if k then marks_of size a (mark_of size m w) else mark_of size m w) ≡ u
        → ((mark_of size m w).ok ≡ true → marks_of size a (mark_of size m w) ≡ u → u.ok ≡ true → marks_of size (a ++ b) (mark_of size m w) ≡ marks_of size b u)
        → (if k then marks_of size (a ++ b) (mark_of size m w) else mark_of size m w) ≡ marks_of size b u
    go true f d i = i f d t
    go false f d i = never (sym f ∙ ap (λ (x : Work). x.ok) d ∙ t)

pub append-stop : (size : ℕ) (a b : List ℕ) (w u : Work) → w.ok ≡ true → marks_of size a w ≡ u → u.ok ≡ false → marks_of size (a ++ b) w ≡ u
unfolding marks_of
append-stop size [] b w u o e t = never (sym t ∙ ap (λ (x : Work). x.ok) (sym e) ∙ o)
append-stop size (m ∷ a) b w u o e t = go (mark_of size m w).ok refl e (append-stop size a b (mark_of size m w) u)
  where
    go : (k : Bool) → (mark_of size m w).ok ≡ k → (if k then marks_of size a (mark_of size m w) else mark_of size m w) ≡ u
        → ((mark_of size m w).ok ≡ true → marks_of size a (mark_of size m w) ≡ u → u.ok ≡ false → marks_of size (a ++ b) (mark_of size m w) ≡ u)
        → (if k then marks_of size (a ++ b) (mark_of size m w) else mark_of size m w) ≡ u
    go true f d i = i f d t
    go false f d i = d

-- one more label
pub labels_next : (T : List ℕ) (n i from : ℕ) → i < n
    → labelled T (n - i) (from + 2 * i) ≡ back_from T (from + 2 * i + 1) ∷ labelled T (n - (i + 1)) (from + 2 * (i + 1))
unfolding labelled
labels_next T n i from h =
    let e : n - i ≡ suc (n - (i + 1)) = omega arith in
    let f : from + 2 * (i + 1) ≡ from + 2 * i + 2 = omega arith in
    rw (e, f)

pub labels-none : (T : List ℕ) (n i from : ℕ) → n ≤ i → labelled T (n - i) (from + 2 * i) ≡ []
unfolding labelled
labels-none T n i from h = let e : n - i ≡ 0 = omega arith in rw e

pub back_is : (T : List ℕ) (l x m : ℕ) → fetch T l ≡ some x → m ≡ l - x → back_from T l ≡ m
unfolding back_from
back_is T l x m e f = rw (back_from, e) (sym f)

-- The loop over labels: what is still to be marked gives what all of it gives

pub record Along (T : List ℕ) (n from size tail : ℕ) (seen₀ order₀ seen order : List ℕ) (at i : ℕ) : Type 0 where
  pub low : i ≤ n
  pub kept : Kept size at seen order
  pub rest : marks_of size (labelled T (n - i) (from + 2 * i)) (work true at seen order) ≡ marks_of size (labelled T n from) (work true tail seen₀ order₀)

pub along-start : {T : List ℕ} {n from size tail : ℕ} {seen order : List ℕ} → Kept size tail seen order → Along T n from size tail seen order seen order tail 0
along-start {T} {n} {from} {size} {tail} {seen} {order} k = record {
  low = omega arith;
  kept = k;
  rest = same (n - 0) (from + 2 * 0) (omega arith) (omega arith);
}
  where
    same : (a b : ℕ) → a ≡ n → b ≡ from → marks_of size (labelled T a b) (work true tail seen order) ≡ marks_of size (labelled T n from) (work true tail seen order)
    same a b e f = rw (e, f)

module _ {T : List ℕ} {n from size tail : ℕ} {seen₀ order₀ seen order : List ℕ} {at i : ℕ} (a : Along T n from size tail seen₀ order₀ seen order at i) where
  -- label i leads to m
  pub along-next : (m : ℕ) {ok : Bool} {tail' : ℕ} {seen' order' : List ℕ} → i < n → back_from T (from + 2 * i + 1) ≡ m
      → Worked size (mark_of size m (work true at seen order)) ok tail' seen' order' → ok ≡ true → Along T n from size tail seen₀ order₀ seen' order' tail' (i + 1)
  along-next m {ok} {tail'} {seen'} {order'} h b k t = record {
    low = omega arith;
    kept = k.kept;
    rest =
        ap (λ (b : Bool). marks_of size (labelled T (n - (i + 1)) (from + 2 * (i + 1))) (work b tail' seen' order')) (sym t)
        ∙ (sym (marks-on size m (labelled T (n - (i + 1)) (from + 2 * (i + 1))) (work true at seen order) (work ok tail' seen' order') (sym k.is) t)
        ∙ ap (λ (ms : List ℕ). marks_of size ms (work true at seen order)) (sym (labels_next T n i from h ∙ ap (λ (x : ℕ). x ∷ labelled T (n - (i + 1)) (from + 2 * (i + 1))) b))
        ∙ a.rest);
  }

  pub along-stop : (m : ℕ) {ok : Bool} {tail' : ℕ} {seen' order' : List ℕ} → i < n → back_from T (from + 2 * i + 1) ≡ m
      → Worked size (mark_of size m (work true at seen order)) ok tail' seen' order' → ok ≡ false
      → Worked size (marks_of size (labelled T n from) (work true tail seen₀ order₀)) ok tail' seen' order'
  along-stop m {ok} {tail'} {seen'} {order'} h b k t = record {
    is =
        sym (marks-stop size m (labelled T (n - (i + 1)) (from + 2 * (i + 1))) (work true at seen order) (work ok tail' seen' order') (sym k.is) t)
        ∙ ap (λ (ms : List ℕ). marks_of size ms (work true at seen order)) (sym (labels_next T n i from h ∙ ap (λ (x : ℕ). x ∷ labelled T (n - (i + 1)) (from + 2 * (i + 1))) b))
        ∙ a.rest;
    kept = k.kept;
  }

  pub along-end : n ≤ i → Worked size (marks_of size (labelled T n from) (work true tail seen₀ order₀)) true at seen order
  unfolding marks_of
  along-end h = record {
    is = ap (λ (ms : List ℕ). marks_of size ms (work true at seen order)) (sym (labels-none T n i from h)) ∙ a.rest;
    kept = a.kept;
  }
