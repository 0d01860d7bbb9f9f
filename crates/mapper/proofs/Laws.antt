-- Rows of words one behind the other, and the rows that the buffers hold.
use mathlib.Core.List.{List, [], ◌∷◌, ◌++◌, append_assoc, append-nil}
use mathlib.Core.Path.{◌≡◌, refl, sym, ap, ◌∙◌}
use Prim.Native.Nat.{ℕ, zero, suc, ◌+◌, ◌*◌, ◌<◌, ◌≤◌}
use native.Mathlib.Numerals.{add-one}
use native.Mathlib.Omega.{arith}
use lib.ListN.{length, get_or, length-append}
use Rattle.buffers.proofs.Writes.{put-behind, over-length}
use Rattle.buffers.specs.Words.{put_word, put64}
use Rattle.declarations.specs.Decls.{Decl, decls_of, sections_decls, rule_decls}
use Rattle.machine.specs.Bytes.{bytes_of, over}
use Rattle.machine.specs.Form.{words64}
use Rattle.mapper.specs.Mapped.{Puts, held_rows}
use Rattle.mapping.specs.Mapping.{Row, row_of, rows_from, row_words, rows_words}
use Rattle.program.specs.Program.{Rule}
use Rattle.program.specs.Table.{place}
use Rattle.symbols.specs.Rows.{decl_at, held_from, held}
use Rattle.symbols.specs.Search.{part}
use Rattle.syntax.specs.Written as written
use Rattle.syntax.specs.Written.{Program}
use Rattle.frontend.specs.Resolving.{Rowed}
use Rattle.frontend.specs.declared.Resolved.{Resolved}

-- Words behind words

pub puts_word : {out out' : List ℕ} {i x : ℕ} → out' ≡ put_word out i x → Puts out out' i (x ∷ [])
puts_word {out} {out'} {i} {x} e = record { puts = λ ws before l room q. e ∙ ap (λ (z : List ℕ). put_word z i x) q ∙ put-behind ws before i x l (omega arith) }

pub puts-more : {a b c : List ℕ} {i j : ℕ} {xs ys : List ℕ} → Puts a b i xs → Puts b c j ys → j ≡ i + length xs → Puts a c i (xs ++ ys)
puts-more {a} {b} {c} {i} {j} {xs} {ys} p q e = record {
  puts = λ ws before l room o.
      let k = length-append xs ys in
      let s = p.puts ws before l (omega arith) o in
      q.puts (ws ++ xs) before (omega (arith, length-append ws xs)) (omega arith) s ∙ ap (λ (z : List ℕ). over (bytes_of z) before) (append_assoc ws xs ys);
}

-- number i is words 4 i to 4 i + 3
pub puts-number : {out out' : List ℕ} (i n : ℕ) {j : ℕ} → j ≡ 4 * i → out' ≡ put64 out (4 * i) n → Puts out out' j (words64 n)
unfolding put64 words64
puts-number i n q e = rw q (puts-more (puts_word refl) (puts-more (puts_word refl) (puts-more (puts_word refl) (puts_word e) (omega arith)) (omega arith)) (omega arith))

-- Rows

length-row : (r : Row) → length (row_words r) ≡ 12
unfolding row_words words64
length-row r = refl

pub length-rows : (rs : List Row) → length (rows_words rs) ≡ 12 * length rs
unfolding rows_words
length-rows [] = refl
length-rows (r ∷ rs) = omega (arith, length-append (row_words r) (rows_words rs), length-row r, length-rows rs)

pub one_more : (rs : List Row) (r : Row) → rows_words (rs ++ (r ∷ [])) ≡ rows_words rs ++ row_words r
unfolding rows_words
one_more [] r = append-nil (row_words r)
one_more (x ∷ rs) r = ap (λ (z : List ℕ). row_words x ++ z) (one_more rs r) ∙ sym (append_assoc (row_words x) (rows_words rs) (row_words r))

-- Lists of declarations

nothing : {d : Decl} {ds : List Decl} → [] ≡ d ∷ ds → ⊥
nothing q = let z : ◌≡◌ {A = ℕ} 0 1 = cc in omega arith

first : {d d' : Decl} {ds ds' : List Decl} → d ∷ ds ≡ d' ∷ ds' → d.name ≡ d'.name
first q = cc

rest : {d d' : Decl} {ds ds' : List Decl} → d ∷ ds ≡ d' ∷ ds' → ds ≡ ds'
rest q = cc

-- The rows that the buffers hold

-- a row by the numbers of a declaration
pub row-held : (text rows : List ℕ) (i : ℕ) {start len size l : ℕ} → start ≡ get_or rows (8 * i + 2) 0 → len ≡ get_or rows (8 * i + 3) 0 → size ≡ length (part text start len)
    → record { start = start; size = size; location = l } ≡ row_of (decl_at text rows i).name l
unfolding decl_at
row-held text rows i {start} {len} {size} {l} p q s =
    let z : size ≡ length (part text (get_or rows (8 * i + 2) 0) (get_or rows (8 * i + 3) 0)) = s ∙ rw (p, q) refl in
    cc

module _ (text rows places : List ℕ) where
  held-length : (i k n : ℕ) → length (held_rows text rows places i k n) ≡ n
  unfolding held_rows
  held-length i k zero = refl
  held-length i k (suc n) = ap suc (held-length (suc i) (suc k) n)

  held_more : (i k n : ℕ) → held_rows text rows places i k (suc n) ≡ held_rows text rows places i k n ++ (row_of (decl_at text rows (i + n)).name (get_or places (k + n) 0) ∷ [])
  unfolding held_rows
  held_more i k zero =
      let a : i + 0 ≡ i = omega arith in
      let b : k + 0 ≡ k = omega arith in
      rw (a, b) refl
  held_more i k (suc n) =
      let a : suc i + n ≡ i + suc n = omega arith in
      let b : suc k + n ≡ k + suc n = omega arith in
      ap (λ (z : List Row). row_of (decl_at text rows i).name (get_or places k 0) ∷ z)
      (held_more (suc i) (suc k) n ∙ ap (λ (m : ℕ). held_rows text rows places (suc i) (suc k) n ++ (row_of (decl_at text rows m).name (get_or places (suc k + n) 0) ∷ [])) a
      ∙ ap (λ (m : ℕ). held_rows text rows places (suc i) (suc k) n ++ (row_of (decl_at text rows (i + suc n)).name (get_or places m 0) ∷ [])) b)

  -- the loop: n rows stand over the buffer, and another is put behind them
  pub rows_start : (i : ℕ) (before : List ℕ) → before ≡ over (bytes_of (rows_words (held_rows text rows places i 0 0))) before
  unfolding held_rows rows_words bytes_of over
  rows_start i before = refl

  pub rows-put : (i n : ℕ) (before : List ℕ) {out out' : List ℕ} {r : Row} → r ≡ row_of (decl_at text rows (i + n)).name (get_or places n 0) → 24 * n + 24 ≤ length before
      → out ≡ over (bytes_of (rows_words (held_rows text rows places i 0 n))) before → Puts out out' (12 * n) (row_words r)
      → out' ≡ over (bytes_of (rows_words (held_rows text rows places i 0 (n + 1)))) before
  rows-put i n before {out} {out'} {r} e room o p =
      let l : length (rows_words (held_rows text rows places i 0 n)) ≡ 12 * n = length-rows (held_rows text rows places i 0 n) ∙ ap (λ (m : ℕ). 12 * m) (held-length i 0 n) in
      let z : 0 + n ≡ n = omega arith in
      let h : held_rows text rows places i 0 (n + 1) ≡ held_rows text rows places i 0 n ++ (r ∷ []) =
      ap (λ (m : ℕ). held_rows text rows places i 0 m) (add-one n) ∙ held_more i 0 n
      ∙ ap (λ (m : ℕ). held_rows text rows places i 0 n ++ (row_of (decl_at text rows (i + n)).name (get_or places m 0) ∷ [])) z
      ∙ ap (λ (x : Row). held_rows text rows places i 0 n ++ (x ∷ [])) (sym e) in
      p.puts (rows_words (held_rows text rows places i 0 n)) before l (omega (arith, length-row r)) o
      ∙ ap (λ (w : List ℕ). over (bytes_of w) before) (sym (ap rows_words h ∙ one_more (held_rows text rows places i 0 n) r))

  pub rows-size : (i n : ℕ) (before : List ℕ) {out : List ℕ} → 24 * n ≤ length before → out ≡ over (bytes_of (rows_words (held_rows text rows places i 0 n))) before → length out ≡ length before
  rows-size i n before {out} h e =
      ap length e ∙ over-length (rows_words (held_rows text rows places i 0 n)) before (omega (arith, length-rows (held_rows text rows places i 0 n), held-length i 0 n))

  pub rows_end : (i n m : ℕ) (before : List ℕ) {out : List ℕ} → n ≡ m → out ≡ over (bytes_of (rows_words (held_rows text rows places i 0 n))) before → out ≡ over (bytes_of (rows_words (held_rows text rows places i 0 m))) before
  rows_end i n m before e o = rw e at o

  -- The rows are the program's

  held-rules : (prog : List Rule) (k i m : ℕ) (rs : List written.Rule) → held_from text rows i m ≡ rule_decls k rs
      → ((j : ℕ) → j < length rs → get_or places (k + j) 0 ≡ place 1 prog (k + j)) → held_rows text rows places i k (length rs) ≡ rows_from prog k rs
  unfolding held_from rule_decls held_rows rows_from
  held-rules prog k i m [] e f = refl
  held-rules prog k i zero (r ∷ rs) e f = absurd (nothing e)
  held-rules prog k i (suc m) (r ∷ rs) e f =
      let z : k + 0 ≡ k = omega arith in
      let a : get_or places k 0 ≡ place 1 prog k = rw z at (f 0 (omega arith)) in
      let name = first e in
      let ih = held-rules prog (suc k) (suc i) m rs (rest e) (λ j l. further j (f (suc j) (omega arith))) in
      cc
    where
      further : (j : ℕ) → get_or places (k + suc j) 0 ≡ place 1 prog (k + suc j) → get_or places (suc k + j) 0 ≡ place 1 prog (suc k + j)
      further j q = let b : k + suc j ≡ suc k + j = omega arith in rw b at q

  -- m declarations are left behind those of the sections
  behind : (i n : ℕ) (ds es : List Decl) → held_from text rows i n ≡ ds ++ es → (m : ℕ) × (n ≡ length ds + m) × (held_from text rows (i + length ds) m ≡ es)
  unfolding held_from
  behind i n [] es e = let z : i + 0 ≡ i = omega arith in (n, omega arith, rw z e)
  behind i zero (d ∷ ds) es e = absurd (nothing e)
  behind i (suc n) (d ∷ ds) es e =
      let x = behind (suc i) n ds es (rest e) in
      let a : suc i + length ds ≡ i + suc (length ds) = omega arith in
      (x.0, omega (arith, x.1), rw a at x.2)

-- the rules' declarations have their place among the 512
pub inside : {text rows : List ℕ} {b : Resolved} {p : Program} → Rowed text rows b p → b.first + b.written ≤ 512
inside h = omega (arith, h.known.small, h.known.count, h.number)

-- what stands in the buffers is the map of the rules written
pub held-map : {text rows : List ℕ} {b : Resolved} {p : Program} (places : List ℕ) (prog : List Rule) → Rowed text rows b p
    → ((j : ℕ) → j < b.written → get_or places j 0 ≡ place 1 prog j) → held_rows text rows places b.first 0 b.written ≡ rows_from prog 0 p.rules
unfolding held decls_of
held-map {text} {rows} {b} {p} places prog h f =
    let x = behind text rows places 0 b.declared (sections_decls 0 p.sections) (rule_decls 0 p.rules) h.known.held_are in
    let n : b.written ≡ length p.rules = h.number in
    let i : b.first ≡ 0 + length (sections_decls 0 p.sections) = omega (arith, h.known.first_is) in
    rw (n, i) (held-rules text rows places prog 0 (0 + length (sections_decls 0 p.sections)) x.0 p.rules x.2 (λ j l. further j (f j (omega (arith, n, l)))))
  where
    further : (j : ℕ) → get_or places j 0 ≡ place 1 prog j → get_or places (0 + j) 0 ≡ place 1 prog (0 + j)
    further j q = let z : 0 + j ≡ j = omega arith in rw z q
