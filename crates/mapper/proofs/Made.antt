-- The rows of the rules made for operators, pair by pair.
use mathlib.Core.List.{List, [], ◌∷◌, ◌++◌, append_assoc, append-nil}
use mathlib.Core.Path.{◌≡◌, refl, sym, ap, ◌∙◌, subst}
use Prim.Native.Nat.{ℕ, zero, suc, ◌+◌, ◌*◌, ◌-◌, ◌<◌, ◌≤◌}
use native.Mathlib.Omega.{arith}
use lib.ListN.{length, get_or, length-append}
use Rattle.declarations.specs.Decls.{Decl}
use Rattle.frontend.specs.declared.Resolved.{Resolved}
use mathlib.Core.Option.{some}
use Rattle.levels.proofs.Naming.{named-behind, ordered-behind}
use Rattle.levels.specs.Naming.{AllFirst, FirstDone, Found, Names, behind_first, first_use}
use Rattle.levels.specs.declared.FirstUse.{FirstUse}
use Rattle.levels.specs.declared.Part.{Part}
use Rattle.machine.specs.Bytes.{bytes_of, over}
use Rattle.maker.specs.Marks.{marks}
use Rattle.maker.specs.Pairing.{AllNamed}
use Rattle.maker.specs.Pairs.{Pair, pair_at, pairs_from, section_row, operand_row, AllOrdered, pair_of, pairs_mean}
use Rattle.mapper.proofs.Laws.{puts-more, length-rows, one_more}
use Rattle.mapper.specs.Mapped.{Puts, levels_held, EndOf, MadePut}
use Rattle.mapping.proofs.Parting.{levels-length as level-rows}
use Rattle.mapping.specs.Mapping.{Row, row_for, level_rows, made_rows, row_words, rows_words}
use Rattle.names.specs.Known as known
use Rattle.names.specs.Uses.{Use, levels_used}
use Rattle.program.specs.Program.{Rule}
use Rattle.program.specs.Table.{place}
use Rattle.symbols.specs.Rows.{held}
use Rattle.words.specs.Words.{words_at}

puts_none : {out : List ℕ} {i : ℕ} → Puts out out i []
puts_none = record { puts = λ ws before l room q. q ∙ ap (λ (z : List ℕ). over (bytes_of z) before) (sym (append-nil ws)) }

pub rows_append : (xs ys : List Row) → rows_words (xs ++ ys) ≡ rows_words xs ++ rows_words ys
unfolding rows_words
rows_append [] ys = refl
rows_append (x ∷ xs) ys = ap (λ (z : List ℕ). row_words x ++ z) (rows_append xs ys) ∙ sym (append_assoc (row_words x) (rows_words xs) (rows_words ys))

no_rows : rows_words [] ≡ []
unfolding rows_words
no_rows = refl

-- The rules of a pair

module _ (start len : ℕ) (places : List ℕ) where
  levels-length : (k n : ℕ) → length (levels_held start len places k n) ≡ n
  unfolding levels_held
  levels-length k zero = refl
  levels-length k (suc n) = ap suc (levels-length (suc k) n)

  levels-more : (k n : ℕ) → levels_held start len places k (suc n) ≡ levels_held start len places k n ++ (record { start = start; size = len; location = get_or places (k + n) 0 } ∷ [])
  unfolding levels_held
  levels-more k zero = let a : k + 0 ≡ k = omega arith in rw a refl
  levels-more k (suc n) =
      let a : suc k + n ≡ k + suc n = omega arith in
      ap (λ (z : List Row). record { start = start; size = len; location = get_or places k 0 } ∷ z)
      (levels-more (suc k) n ∙ ap (λ (m : ℕ). levels_held start len places (suc k) n ++ (record { start = start; size = len; location = get_or places m 0 } ∷ [])) a)

  none-held : (k : ℕ) → rows_words (levels_held start len places k 0) ≡ []
  unfolding levels_held rows_words
  none-held k = refl

  pub levels-start : {out : List ℕ} (k : ℕ) → Puts out out (12 * k) (rows_words (levels_held start len places k (k - k)))
  levels-start {out} k =
      let z : k - k ≡ 0 = omega arith in
      subst (λ w. Puts out out (12 * k) w) (sym (ap (λ m. rows_words (levels_held start len places k m)) z ∙ none-held k)) puts_none

  pub levels-step : {out₀ out out' : List ℕ} (k i : ℕ) → k ≤ i → Puts out₀ out (12 * k) (rows_words (levels_held start len places k (i - k)))
      → Puts out out' (12 * i) (row_words (record { start = start; size = len; location = get_or places i 0 })) → Puts out₀ out' (12 * k) (rows_words (levels_held start len places k (i + 1 - k)))
  levels-step {out₀} {out} {out'} k i low p q =
      let a : i + 1 - k ≡ suc (i - k) = omega (arith, low) in
      let b : k + (i - k) ≡ i = omega (arith, low) in
      let r : List Row = levels_held start len places k (i - k) in
      let e : rows_words (levels_held start len places k (i + 1 - k)) ≡ rows_words r ++ row_words (record { start = start; size = len; location = get_or places i 0 }) =
      ap (λ m. rows_words (levels_held start len places k m)) a ∙ ap rows_words (levels-more k (i - k)) ∙ one_more r (record { start = start; size = len; location = get_or places (k + (i - k)) 0 })
      ∙ ap (λ m. rows_words r ++ row_words (record { start = start; size = len; location = get_or places m 0 })) b in
      subst (λ w. Puts out₀ out' (12 * k) w) (sym e) (puts-more p q (omega (arith, low, length-rows r, levels-length k (i - k))))

  pub levels-end : {out₀ out : List ℕ} (k i end : ℕ) → i ≡ end → Puts out₀ out (12 * k) (rows_words (levels_held start len places k (i - k))) → Puts out₀ out (12 * k) (rows_words (levels_held start len places k (end - k)))
  levels-end k i end e p = rw e at p

  -- they are the pair's
  levels-are : (prog : List Rule) (u : Use) (k n : ℕ) → ◌≡◌ {A = Part} (record { start = start; len = len }) (record { start = u.sign.start; len = u.operand.start + length u.operand.text - u.sign.start })
      → ((r : ℕ) → r < k + n → get_or places r 0 ≡ place 1 prog r) → levels_held start len places k n ≡ level_rows prog u k n
  unfolding levels_held level_rows
  levels-are prog u k zero e f = refl
  levels-are prog u k (suc n) e f =
      let a : get_or places k 0 ≡ place 1 prog k = f k (omega arith) in
      let s : start ≡ u.sign.start = ap (λ (x : Part). x.start) e in
      let l : len ≡ u.operand.start + length u.operand.text - u.sign.start = ap (λ (x : Part). x.len) e in
      let h : ◌≡◌ {A = Row} (record { start = start; size = len; location = get_or places k 0 }) (row_for u (place 1 prog k)) = cc in
      ap (λ (x : Row). x ∷ levels_held start len places (suc k) n) h ∙ ap (λ (z : List Row). row_for u (place 1 prog k) ∷ z) (levels-are prog u (suc k) n e (λ r q. f r (omega (arith, q))))

-- Pairs

abbrev levels : known.Names → Use → ℕ
levels names u = length (levels_used names u)

made-rows : (prog : List Rule) (names : known.Names) (k : ℕ) (u : Use) (us : List Use) → made_rows prog names k (u ∷ us) ≡ level_rows prog u k (levels names u) ++ made_rows prog names (k + levels names u) us
unfolding made_rows
made-rows prog names k u us = refl

made_none : (prog : List Rule) (names : known.Names) (k : ℕ) → made_rows prog names k [] ≡ []
unfolding made_rows
made_none prog names k = refl

pub made-long : (prog : List Rule) (names : known.Names) (k : ℕ) (u : Use) (us : List Use) → length (made_rows prog names k (u ∷ us)) ≡ levels names u + length (made_rows prog names (k + levels names u) us)
made-long prog names k u us =
    ap (λ (z : List Row). length z) (made-rows prog names k u us) ∙ length-append (level_rows prog u k (levels names u)) (made_rows prog names (k + levels names u) us)
    ∙ ap (λ m. m + length (made_rows prog names (k + levels names u) us)) (level-rows prog u k (levels names u))

no-pair : {q : Pair} {qs : List Pair} → [] ≡ q ∷ qs → ⊥
no-pair e = let z : ◌≡◌ {A = ℕ} 0 1 = cc in omega (arith, z)

first-pair : {q r : Pair} {qs rs : List Pair} → q ∷ qs ≡ r ∷ rs → q ≡ r
first-pair e = cc

other-pairs : {q r : Pair} {qs rs : List Pair} → q ∷ qs ≡ r ∷ rs → qs ≡ rs
other-pairs e = cc

-- no pair is left
none_left : (rows : List ℕ) (j m : ℕ) (names : known.Names) (ds : List Decl) (k : ℕ) (us : List Use) → m ≡ 0 → pairs_from rows j m ≡ pairs_mean names ds k us → us ≡ []
unfolding pairs_from pairs_mean
none_left rows j zero names ds k [] z e = refl
none_left rows j zero names ds k (u ∷ us) z e = absurd (no-pair e)
none_left rows j (suc m) names ds k us z e = absurd (omega (arith, z))

-- the pair of a use, and those of the later ones
record Splits (rows : List ℕ) (j m : ℕ) (names : known.Names) (ds : List Decl) (k : ℕ) (us : List Use) : Type 0 where
  used : Use
  later : List Use
  are : us ≡ used ∷ later
  pair : pair_at rows j ≡ pair_of ds k used
  others : pairs_from rows (suc j) m ≡ pairs_mean names ds (k + levels names used) later

splits : (rows : List ℕ) (j m : ℕ) (names : known.Names) (ds : List Decl) (k : ℕ) (us : List Use) → pairs_from rows j (suc m) ≡ pairs_mean names ds k us → Splits rows j m names ds k us
unfolding pairs_from pairs_mean
splits rows j m names ds k [] e = absurd (no-pair (sym e))
splits rows j m names ds k (u ∷ us) e = record { used = u; later = us; are = refl; pair = first-pair e; others = other-pairs e }

lowest-at : (rows : List ℕ) (j : ℕ) → (pair_at rows (suc j)).lowest ≡ get_or rows (5638 + 3 * j) 0
unfolding pair_at
lowest-at rows j = let e : 5635 + 3 * suc j ≡ 5638 + 3 * j = omega arith in ap (λ i. get_or rows i 0) e

-- where the rules of the pair end
end_is : {rows : List ℕ} {j rules end : ℕ} (m : ℕ) (prog : List Rule) (names : known.Names) (ds : List Decl) (k : ℕ) (later : List Use) → EndOf rows j rules end → get_or rows 5632 0 ≡ j + suc m
    → pairs_from rows (suc j) m ≡ pairs_mean names ds k later → k + length (made_rows prog names k later) ≡ rules → end ≡ k
end_is {rows} {j} zero prog names ds k later d c e total =
    let z = none_left rows (suc j) 0 names ds k later refl e in
    let l : length (made_rows prog names k later) ≡ 0 = ap (λ us. length (made_rows prog names k us)) z ∙ ap (λ (x : List Row). length x) (made_none prog names k) in
    omega (arith, d.last (omega (arith, c)), total, l)
end_is {rows} {j} (suc m) prog names ds k later d c e total =
    let s = splits rows (suc j) m names ds k later e in
    let l : get_or rows (5638 + 3 * j) 0 ≡ k = sym (lowest-at rows j) ∙ ap (λ (q : Pair). q.lowest) s.pair in
    d.next (omega (arith, c)) (omega (arith, l, total)) ∙ l

-- what the code reads as the end
next-at : (rows : List ℕ) (j : ℕ) → get_or rows (5635 + 3 * (j + 1)) 0 ≡ get_or rows (5638 + 3 * j) 0
next-at rows j = let e : 5635 + 3 * (j + 1) ≡ 5638 + 3 * j = omega arith in ap (λ i. get_or rows i 0) e

pub end-next : {rows : List ℕ} {j rules n v : ℕ} → n ≡ get_or rows 5632 0 → v ≡ get_or rows (5635 + 3 * (j + 1)) 0 → j + 1 < n → v < rules → EndOf rows j rules v
end-next {rows} {j} c e h l = record { low = omega (arith, l); next = λ _ _. e ∙ next-at rows j; last = λ q. absurd (omega (arith, q, h, c)) }

pub end-over : {rows : List ℕ} {j rules v : ℕ} → v ≡ get_or rows (5635 + 3 * (j + 1)) 0 → rules ≤ v → EndOf rows j rules rules
end-over {rows} {j} e l = record { low = omega arith; next = λ _ q. omega (arith, q, l, e, next-at rows j); last = λ _. refl }

section-at : (rows : List ℕ) (j : ℕ) → (pair_at rows j).section ≡ get_or rows (5633 + 3 * j) 0
unfolding pair_at
section-at rows j = refl

operand_at : (rows : List ℕ) (j : ℕ) → (pair_at rows j).operand ≡ get_or rows (5634 + 3 * j) 0
unfolding pair_at
operand_at rows j = refl

first-of : (ds : List Decl) (all : List Use) (u : Use) (us : List Use) → AllFirst ds all (u ∷ us) → (first_use ds (section_row ds u) (operand_row ds u) all ≡ some u) × AllFirst ds (behind_first ds (section_row ds u) (operand_row ds u) all) us
unfolding AllFirst
first-of ds all u us h = h

part-is : {u : Use} {r : Part} → Names u r → ◌≡◌ {A = Part} (record { start = r.start; len = r.len }) (record { start = u.sign.start; len = u.operand.start + length u.operand.text - u.sign.start })
part-is n = let a = n.start in let b = n.len in cc

-- The loop

pub made-end : {text rows : List ℕ} {b : Resolved} {j k at : ℕ} {places out : List ℕ} → get_or rows 5632 0 ≤ j → MadePut text rows b j k at places out out
made-end {text} {rows} {b} {j} {k} {at} {places} {out} h = record {
  puts = λ names prog us e nm or first total f.
      let z = none_left rows j (get_or rows 5632 0 - j) names (held text rows b.declared) k us (omega (arith, h)) e in
      subst (λ w. Puts out out (12 * k) w) (sym (ap (λ xs. rows_words (made_rows prog names k xs)) z ∙ ap rows_words (made_none prog names k) ∙ no_rows)) puts_none;
}

module _ (text rows : List ℕ) (b : Resolved) (j k end : ℕ) (inside : j < get_or rows 5632 0) (ends : EndOf rows j b.rules end) where
  abbrev ds : List Decl
  ds = held text rows b.declared

  abbrev left : ℕ
  left = get_or rows 5632 0 - (j + 1)

  split : (names : known.Names) (us : List Use) → pairs_from rows j (get_or rows 5632 0 - j) ≡ pairs_mean names ds k us → Splits rows j left names ds k us
  split names us e = let z : get_or rows 5632 0 - j ≡ suc left = omega (arith, inside) in splits rows j left names ds k us (ap (λ m. pairs_from rows j m) (sym z) ∙ e)

  ended : (names : known.Names) (prog : List Rule) (us : List Use) (s : Splits rows j left names ds k us) → k + length (made_rows prog names k us) ≡ b.rules → end ≡ k + levels names s.used
  ended names prog us s total =
      let l : length (made_rows prog names k us) ≡ levels names s.used + length (made_rows prog names (k + levels names s.used) s.later) =
      ap (λ xs. length (made_rows prog names k xs)) s.are ∙ made-long prog names k s.used s.later in
      end_is left prog names ds (k + levels names s.used) s.later ends (omega (arith, inside)) s.others (omega (arith, total, l))

  -- a pair does not end before it begins
  pub made-never : {at : ℕ} {places out : List ℕ} → end < k → MadePut text rows b j k at places out out
  made-never h = record { puts = λ names prog us e nm or first total f. absurd (omega (arith, h, ended names prog us (split names us e) total)) }

  -- those from a place on
  abbrev uses : ℕ → List Use
  uses at = marks (words_at text at)

  -- the pair's first use among those from the place `at` on, and the later pairs' among those behind it
  pub made-next : {at : ℕ} {places out out₁ out' : List ℕ} {section operand : ℕ} {r : FirstUse} → FirstDone text rows b.declared at section operand r → section ≡ get_or rows (5633 + 3 * j) 0
      → operand ≡ get_or rows (5634 + 3 * j) 0 → Puts out out₁ (12 * k) (rows_words (levels_held r.name.start r.name.len places k (end - k))) → MadePut text rows b (j + 1) end r.next places out₁ out'
      → MadePut text rows b j k at places out out'
  made-next {at} {places} {out} {out₁} {out'} {section} {operand} {r} done e₁ e₂ put more = record { puts = go }
    where
      go : (names : known.Names) (prog : List Rule) (us : List Use) → pairs_from rows j (get_or rows 5632 0 - j) ≡ pairs_mean names ds k us → AllNamed (uses at) → AllOrdered ds (uses at) → AllFirst ds (uses at) us
          → k + length (made_rows prog names k us) ≡ b.rules → ((r : ℕ) → r < b.rules → get_or places r 0 ≡ place 1 prog r) → Puts out out' (12 * k) (rows_words (made_rows prog names k us))
      go names prog us e nm or first total f =
          let s = split names us e in
          let n : ℕ = levels names s.used in
          let q : end ≡ k + n = ended names prog us s total in
          let firsts = first-of ds (uses at) s.used s.later (subst (λ xs. AllFirst ds (uses at) xs) s.are first) in
          let a : section ≡ section_row ds s.used = e₁ ∙ sym (section-at rows j) ∙ ap (λ (x : Pair). x.section) s.pair in
          let o : operand ≡ operand_row ds s.used = e₂ ∙ sym (operand_at rows j) ∙ ap (λ (x : Pair). x.operand) s.pair in
          let found : Found text s.used (behind_first ds section operand (uses at)) r = done.found nm or s.used (ap (λ x. first_use ds x operand (uses at)) a ∙ ap (λ x. first_use ds (section_row ds s.used) x (uses at)) o ∙ firsts.0) in
          let later : behind_first ds (section_row ds s.used) (operand_row ds s.used) (uses at) ≡ uses r.next =
          sym (found.behind ∙ ap (λ x. behind_first ds x operand (uses at)) a ∙ ap (λ x. behind_first ds (section_row ds s.used) x (uses at)) o) in
          let nm' : AllNamed (uses r.next) = subst (λ xs. AllNamed xs) later (named-behind ds (section_row ds s.used) (operand_row ds s.used) (uses at) nm) in
          let or' : AllOrdered ds (uses r.next) = subst (λ xs. AllOrdered ds xs) later (ordered-behind ds (section_row ds s.used) (operand_row ds s.used) (uses at) or) in
          let first' : AllFirst ds (uses r.next) s.later = subst (λ xs. AllFirst ds xs s.later) later firsts.1 in
          let l : length (made_rows prog names k us) ≡ n + length (made_rows prog names (k + n) s.later) = ap (λ xs. length (made_rows prog names k xs)) s.are ∙ made-long prog names k s.used s.later in
          let z : end - k ≡ n = omega (arith, q) in
          let own : levels_held r.name.start r.name.len places k (end - k) ≡ level_rows prog s.used k n =
          ap (λ m. levels_held r.name.start r.name.len places k m) z ∙ levels-are r.name.start r.name.len places prog s.used k n (part-is found.names) (λ r h. f r (omega (arith, h, total, l))) in
          let put' : Puts out out₁ (12 * k) (rows_words (level_rows prog s.used k n)) = subst (λ (x : List Row). Puts out out₁ (12 * k) (rows_words x)) own put in
          let one : suc j ≡ j + 1 = omega arith in
          let rest : Puts out₁ out' (12 * end) (rows_words (made_rows prog names end s.later)) =
          more.puts names prog s.later (ap (λ i. pairs_from rows i left) (sym one) ∙ s.others ∙ ap (λ i. pairs_mean names ds i s.later) (sym q)) nm' or' first'
          (ap (λ i. i + length (made_rows prog names i s.later)) q ∙ omega (arith, total, l)) f in
          let rest' : Puts out₁ out' (12 * end) (rows_words (made_rows prog names (k + n) s.later)) = subst (λ i. Puts out₁ out' (12 * end) (rows_words (made_rows prog names i s.later))) q rest in
          let whole : rows_words (made_rows prog names k us) ≡ rows_words (level_rows prog s.used k n) ++ rows_words (made_rows prog names (k + n) s.later) =
          ap (λ xs. rows_words (made_rows prog names k xs)) s.are ∙ ap rows_words (made-rows prog names k s.used s.later) ∙ rows_append (level_rows prog s.used k n) (made_rows prog names (k + n) s.later) in
          subst (λ w. Puts out out' (12 * k) w) (sym whole)
          (puts-more put' rest' (omega (arith, q, length-rows (level_rows prog s.used k n), level-rows prog s.used k n)))
