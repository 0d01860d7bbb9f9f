-- The records of a file, one after the other.
use mathlib.Core.Bool.{Bool, true, false, ◌&&◌}
use mathlib.Core.List.{List}
use mathlib.Core.Path.{◌≡◌, refl, sym, ap, subst, ◌∙◌}
use Prim.Native.Nat.{ℕ, zero, suc, ◌+◌, ◌*◌, ◌-◌, ◌%◌, ◌<◌, ◌≤◌}
use native.Mathlib.Omega.{arith}
use lib.Dec.{eqb, leb}
use lib.ListN.{length, drop, get_or, length-drop}
use lib.Seq.{get_or-drop, drop-drop}
use borrow.Author.Tests.{eqb-true, eq-eqb, ne_eqb, leb-true, le-leb, lt-leb}
use Rattle.base.proofs.Laws.{above_zero}
use Rattle.base.specs.Bools.{never, and, both, same}
use Rattle.std.specs.Prelude.{if◌then◌else◌}
use Rattle.machine.proofs.Bytes.{length-words_of}
use Rattle.machine.specs.Bytes.{count, words_of}
use Rattle.loading.specs.File.{hd, tw, table_named, allowed, is_file}
use Rattle.loading.specs.Reading.{formed, headed}
use Rattle.loading.proofs.Readings.{headed-file, file-headed, heads, file-words}
use Rattle.std.specs.Prelude.{Some, None}
use Rattle.loader.specs.Records.{full_at, last_at, Read, size_named}

-- the word at p, and the one after it
first-at : (ws : List ℕ) (p : ℕ) → get_or (drop p ws) 0 0 ≡ get_or ws p 0
first-at ws p = get_or-drop p ws 0 0 ∙ ap (λ (i : ℕ). get_or ws i 0) (omega arith)

second_at : (ws : List ℕ) (p : ℕ) → get_or (drop p ws) 1 0 ≡ get_or ws (p + 1) 0
second_at ws p = get_or-drop p ws 1 0

and-true : (a b c : Bool) → a ≡ true → b ≡ true → c ≡ (a && (b && c))
and-true true true c e f = refl
and-true true false c e f = never f
and-true false b c e f = never e

and_first : (a b : Bool) → a ≡ false → false ≡ (a && b)
and_first true b e = never (sym e)
and_first false b e = refl

and_second : (a b c : Bool) → a ≡ true → b ≡ false → false ≡ (a && (b && c))
and_second true true c e f = never (sym f)
and_second true false c e f = refl
and_second false b c e f = never e

module _ (s : List ℕ) (p w x total : ℕ) (ew : w ≡ get_or (words_of s) p 0) (ex : x ≡ get_or (words_of s) (p + 1) 0) (et : total ≡ count s) where
  mark-is : w ≡ tw → eqb (get_or (drop p (words_of s)) 0 0) tw ≡ true
  mark-is e = eq-eqb (get_or (drop p (words_of s)) 0 0) tw (first-at (words_of s) p ∙ sym ew ∙ e)

  mark-not : (w ≡ tw → ⊥) → eqb (get_or (drop p (words_of s)) 0 0) tw ≡ false
  mark-not e = ne_eqb (get_or (drop p (words_of s)) 0 0) tw (λ q. e (ew ∙ sym (first-at (words_of s) p) ∙ q))

  count-is : (k : ℕ) → x ≡ k → eqb (get_or (drop p (words_of s)) 1 0) k ≡ true
  count-is k e = eq-eqb (get_or (drop p (words_of s)) 1 0) k (second_at (words_of s) p ∙ sym ex ∙ e)

  count-not : (k : ℕ) → (x ≡ k → ⊥) → eqb (get_or (drop p (words_of s)) 1 0) k ≡ false
  count-not k e = ne_eqb (get_or (drop p (words_of s)) 1 0) k (λ q. e (ex ∙ sym (second_at (words_of s) p) ∙ q))

  pub full-mark : (w ≡ tw → ⊥) → false ≡ full_at (words_of s) p
  unfolding full_at
  full-mark e = and_first _ _ (mark-not e)

  pub full-count : w ≡ tw → (x ≡ 256 → ⊥) → false ≡ full_at (words_of s) p
  unfolding full_at
  full-count e f = and_second _ _ _ (mark-is e) (count-not 256 f)

  pub full-there : w ≡ tw → x ≡ 256 → leb (p + 258) total ≡ full_at (words_of s) p
  unfolding full_at
  full-there e f = long ∙ and-true _ _ _ (mark-is e) (count-is 256 f)
    where
      long : leb (p + 258) total ≡ leb 258 (length (drop p (words_of s)))
      long =
          let l = length-drop p (words_of s) in
          let m = length-words_of s in
          same (leb (p + 258) total) (leb 258 (length (drop p (words_of s))))
          (λ t. let u = leb-true (p + 258) total t in le-leb 258 (length (drop p (words_of s))) (omega arith))
          (λ t. let u = leb-true 258 (length (drop p (words_of s))) t in le-leb (p + 258) total (omega arith))

  pub last-mark : (left : ℕ) → (w ≡ tw → ⊥) → false ≡ last_at (words_of s) p left
  unfolding last_at
  last-mark left e = and_first _ _ (mark-not e)

  pub last-count : (left : ℕ) → w ≡ tw → (x ≡ left → ⊥) → false ≡ last_at (words_of s) p left
  unfolding last_at
  last-count left e f = and_second _ _ _ (mark-is e) (count-not left f)

  pub last-there : (left : ℕ) → 1 ≤ left → w ≡ tw → x ≡ left → eqb (p + left + 2) total ≡ last_at (words_of s) p left
  unfolding last_at
  last-there left a e f = long ∙ and-true _ _ _ (mark-is e) (count-is left f)
    where
      long : eqb (p + left + 2) total ≡ eqb (length (drop p (words_of s))) (left + 2)
      long =
          let l = length-drop p (words_of s) in
          let m = length-words_of s in
          same (eqb (p + left + 2) total) (eqb (length (drop p (words_of s))) (left + 2))
          (λ t. let u = eqb-true (p + left + 2) total t in eq-eqb (length (drop p (words_of s))) (left + 2) (omega arith))
          (λ t. let u = eqb-true (length (drop p (words_of s))) (left + 2) t in eq-eqb (p + left + 2) total (omega arith))

-- The loop

pub read-start : (ws : List ℕ) (n : ℕ) → 1 ≤ n → n ≤ 4096 → Read ws n 4 n
read-start ws n a b = record { fuel = 16; some_left = a; enough = omega arith; low = omega arith; rest = refl }

module _ {ws : List ℕ} {n p left : ℕ} (r : Read ws n p left) where
  step : (k : ℕ) → left ≤ 256 * k → 256 < left → formed k left (drop p ws) ≡ (eqb (get_or (drop p ws) 0 0) tw && (eqb (get_or (drop p ws) 1 0) 256 && (leb 258 (length (drop p ws)) && formed (k - 1) (left - 256) (drop (p + 258) ws))))
  unfolding formed
  step zero h u = absurd (omega arith)
  step (suc k) h u =
      let e : suc k - 1 ≡ k = omega arith in
      rw (lt-leb left 256 u, drop-drop 258 p ws, e)

  pub read-on : 256 < left → full_at ws p ≡ true → Read ws n (p + 258) (left - 256)
  unfolding full_at
  read-on u f =
      let a = and (eqb (get_or (drop p ws) 0 0) tw) (eqb (get_or (drop p ws) 1 0) 256 && leb 258 (length (drop p ws))) f in
      let b = and (eqb (get_or (drop p ws) 1 0) 256) (leb 258 (length (drop p ws))) a.1 in
      let e = rw (a.0, b.0, b.1) at (step r.fuel r.enough u) in
      record {
        fuel = r.fuel - 1;
        some_left = omega arith;
        enough = omega (arith, r.enough);
        low = omega (arith, r.low, r.enough);
        rest = sym e ∙ r.rest;
      }

  pub read-bad : 256 < left → full_at ws p ≡ false → false ≡ formed 16 n (drop 4 ws)
  unfolding full_at
  read-bad u f =
      go (eqb (get_or (drop p ws) 0 0) tw) (eqb (get_or (drop p ws) 1 0) 256) (leb 258 (length (drop p ws))) (formed (r.fuel - 1) (left - 256) (drop (p + 258) ws)) f
      ∙ sym (step r.fuel r.enough u) ∙ r.rest
    where
      go : (a b c d : Bool) → (a && (b && c)) ≡ false → false ≡ (a && (b && (c && d)))
      go true true true d e = never (sym e)
      go true true false d e = refl
      go true false c d e = refl
      go false b c d e = refl

  last_step : (k : ℕ) → left ≤ 256
      → (eqb (get_or (drop p ws) 0 0) tw && (eqb (get_or (drop p ws) 1 0) left && eqb (length (drop p ws)) (left + 2))) ≡ formed (suc k) left (drop p ws)
  unfolding formed
  last_step k u = rw (le-leb left 256 u)

  pub read-end : left ≤ 256 → (x : Bool) → x ≡ last_at ws p left → x ≡ formed 16 n (drop 4 ws)
  unfolding last_at
  read-end u x e = e ∙ go r.fuel r.enough ∙ r.rest
    where
      go : (k : ℕ) → left ≤ 256 * k → (eqb (get_or (drop p ws) 0 0) tw && (eqb (get_or (drop p ws) 1 0) left && eqb (length (drop p ws)) (left + 2))) ≡ formed k left (drop p ws)
      go zero h = absurd (omega (arith, r.some_left))
      go (suc k) h = last_step k u

pub read-as : {ws : List ℕ} {n p left p' left' : ℕ} → Read ws n p left → p ≡ p' → left ≡ left' → Read ws n p' left'
read-as {ws} {n} {p} {left} {p'} r e f = subst (λ (y : ℕ). Read ws n p' y) f (subst (λ (x : ℕ). Read ws n x left) e r)

-- The file

pub bounds : (n v : ℕ) → allowed n v ≡ true → (1 ≤ n) × (n ≤ 4096) × (v ≤ 1)
unfolding allowed
bounds n v e =
    let a = and (leb 1 n && leb n 4096) (leb v 1) e in
    let b = and (leb 1 n) (leb n 4096) a.0 in
    (leb-true 1 n b.0, leb-true n 4096 b.1, leb-true v 1 a.1)

allowed-is : (n v : ℕ) → 1 ≤ n → n ≤ 4096 → v ≤ 1 → allowed n v ≡ true
unfolding allowed
allowed-is n v a b c = both (leb 1 n && leb n 4096) (leb v 1) (both (leb 1 n) (leb n 4096) (le-leb 1 n a) (le-leb n 4096 b)) (le-leb v 1 c)

heading : (ws : List ℕ) → get_or ws 0 0 ≡ hd → get_or ws 1 0 ≡ 2 → allowed (get_or ws 2 0) (get_or ws 3 0) ≡ true → formed 16 (get_or ws 2 0) (drop 4 ws) ≡ true → headed ws ≡ true
unfolding headed
heading ws a b c d = rw (eq-eqb (get_or ws 0 0) hd a, eq-eqb (get_or ws 1 0) 2 b, c) d

not-file : (s : List ℕ) → (is_file s ≡ true → ⊥) → None ≡ size_named s
unfolding size_named
not-file s f = go (is_file s) refl
  where
    go : (t : Bool) → is_file s ≡ t → None ≡ (if t then Some (length (table_named s)) else None)
    go true e = absurd (f e)
    go false e = refl

module _ (s : List ℕ) where
  pub odd-file : (length s % 2 ≡ 0 → ⊥) → None ≡ size_named s
  odd-file h = not-file s (λ e. h (file-headed s e).1)

  -- what a file's first words are
  pub first-file : (w : ℕ) → w ≡ get_or (words_of s) 0 0 → (w ≡ hd → ⊥) → None ≡ size_named s
  first-file w e h = not-file s (λ f. h (e ∙ (heads (words_of s) (file-headed s f).0).mark))

  pub second-file : (w : ℕ) → w ≡ get_or (words_of s) 1 0 → (w ≡ 2 → ⊥) → None ≡ size_named s
  second-file w e h = not-file s (λ f. h (e ∙ (heads (words_of s) (file-headed s f).0).two))

  pub length-file : (n : ℕ) → n ≡ get_or (words_of s) 2 0 → (1 ≤ n → n ≤ 4096 → ⊥) → None ≡ size_named s
  length-file n e h = not-file s (λ f. let a = (heads (words_of s) (file-headed s f).0).right in let b = bounds (get_or (words_of s) 2 0) (get_or (words_of s) 3 0) a in h (omega (arith, b.0)) (omega (arith, b.1)))

  pub verdict_file : (v : ℕ) → v ≡ get_or (words_of s) 3 0 → 1 < v → None ≡ size_named s
  verdict_file v e h = not-file s (λ f. let a = (heads (words_of s) (file-headed s f).0).right in let b = bounds (get_or (words_of s) 2 0) (get_or (words_of s) 3 0) a in omega (arith, b.2))

  pub records-file : (n : ℕ) (x : Bool) → n ≡ get_or (words_of s) 2 0 → x ≡ formed 16 n (drop 4 (words_of s)) → x ≡ false → None ≡ size_named s
  records-file n x e g h = not-file s (λ f. let a = (heads (words_of s) (file-headed s f).0).rest in never (sym h ∙ g ∙ ap (λ (m : ℕ). formed 16 m (drop 4 (words_of s))) e ∙ a))

  pub whole-file : (w₀ w₁ n v : ℕ) (x : Bool) → ((i : ℕ) → get_or s i 0 < 256) → length s % 2 ≡ 0 → w₀ ≡ get_or (words_of s) 0 0 → w₀ ≡ hd → w₁ ≡ get_or (words_of s) 1 0 → w₁ ≡ 2
      → n ≡ get_or (words_of s) 2 0 → (n ≡ 0 → ⊥) → n ≤ 4096 → v ≡ get_or (words_of s) 3 0 → v ≤ 1 → x ≡ formed 16 n (drop 4 (words_of s)) → x ≡ true → Some n ≡ size_named s
  unfolding size_named table_named
  whole-file w₀ w₁ n v x b o e₀ m₀ e₁ m₁ e₂ a u e₃ l g t =
      let h = heading (words_of s) (sym e₀ ∙ m₀) (sym e₁ ∙ m₁) (allowed-is (get_or (words_of s) 2 0) (get_or (words_of s) 3 0) (above_zero (get_or (words_of s) 2 0) (λ q. a (e₂ ∙ q))) (omega arith) (omega arith))
      (ap (λ (m : ℕ). formed 16 m (drop 4 (words_of s))) (sym e₂) ∙ sym g ∙ t) in
      let f = headed-file s b o h in
      let k = file-words (words_of s) (heads (words_of s) h) in
      rw f (ap Some (e₂ ∙ sym k.0))
