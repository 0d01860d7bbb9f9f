-- Totals rule by rule: what the code tells is what the definitions say.
use mathlib.Core.Bool.{Bool, true, false}
use mathlib.Core.List.{List}
use mathlib.Core.Option.{none}
use mathlib.Core.Path.{◌≡◌, refl, sym, ap, ◌∙◌}
use Prim.Native.Nat.{ℕ, ◌+◌, ◌-◌, ◌/◌, ◌<◌}
use native.Mathlib.Omega.{arith}
use lib.Dec.{ltb}
use lib.ListN.{length, take, get_or}
use lib.Seq.{take_all}
use borrow.Author.Tests.{eq-eqb, lt-ltb, le-ltb, ltb-true, ltb-false}
use Rattle.std.specs.Prelude.{if◌then◌else◌}
use Rattle.counting.proofs.Form.{sum-next, sum-most}
use Rattle.counting.specs.Counting.{Named}
use Rattle.counting.specs.declared.Sums.{Sums}
use Rattle.figures.proofs.Form.{length-numbers_at}
use Rattle.figures.proofs.Shelves.{balanced}
use Rattle.figures.proofs.Spans.{length-span_totals, length-locations_at, get_d-span_totals, get_d-last_total}
use Rattle.figures.specs.Figures.{sum, sound}
use Rattle.figures.specs.Form.{numbers_at, figures_named, figures_of}
use Rattle.figures.specs.Spans.{span_total, span_totals, location_at, locations_at, locations_in, tells, span_of, span_bytes, bounded, together_of, together_bytes}
use Rattle.machine.specs.Bytes.{words_of}

module _ (fs : List ℕ) where
  pub no-span : (from to : ℕ) → figures_of fs ≡ none → tells 21 0 ≡ span_bytes fs from to
  unfolding span_bytes span_of
  no-span from to h = rw h refl

  pub the-span : (from to t : ℕ) → length fs ≡ 33296 → sound (figures_named (words_of fs)) ≡ true → t ≡ span_total from to (numbers_at (words_of fs) 0 4096) → tells 0 t ≡ span_bytes fs from to
  unfolding span_bytes span_of figures_of figures_named
  the-span from to t h e q = ap (tells 0) q ∙ rw (eq-eqb (length fs) 33296 h, e) refl

  pub no-rules : (rows : List ℕ) (end : ℕ) → figures_of fs ≡ none → tells 21 0 ≡ together_bytes fs rows end
  unfolding together_bytes together_of
  no-rules rows end h = rw h refl

  pub the-rules : (rows : List ℕ) (end : ℕ) → length fs ≡ 33296 → sound (figures_named (words_of fs)) ≡ true
      → bounded (sum (span_totals (locations_at (words_of rows) 0 (length rows / 24)) end (numbers_at (words_of fs) 0 4096))) ≡ together_bytes fs rows end
  unfolding together_bytes together_of locations_in figures_of figures_named
  the-rules rows end h e = rw (eq-eqb (length fs) 33296 h, e) refl

-- the counts of figures that fit together

pub counts-sized : {fs counts : List ℕ} {sums : Sums} → Named fs counts sums → length counts ≡ 4096
counts-sized {fs} n = ap (λ (l : List ℕ). length l) n.counts_are ∙ length-numbers_at (words_of fs) 0 4096

pub counts-fit : {fs counts : List ℕ} {sums : Sums} → Named fs counts sums → sum counts < 18446744073709551616
unfolding figures_named
counts-fit {fs} n =
    let e = ap sum n.counts_are ∙ sym (balanced (figures_named (words_of fs)) n.good).total ∙ sym n.total_is in
    omega (arith, e, n.total_low)

-- Rules together

module _ (rows counts : List ℕ) (n end : ℕ) where
  abbrev pub all : List ℕ
  all = span_totals (locations_at (words_of rows) 0 n) end counts

  pub length-all : length all ≡ n
  length-all = length-span_totals (locations_at (words_of rows) 0 n) end counts ∙ length-locations_at (words_of rows) 0 n

  -- where row i begins; behind the last
  abbrev pub begins : ℕ → ℕ
  begins i = if ltb i n then location_at (words_of rows) i else end

  -- the total of row i
  pub one-total : (i from to t : ℕ) → i < n → from ≡ begins i → to ≡ begins (i + 1) → t ≡ span_total from to counts → get_or all i 0 ≡ t
  one-total i from to t h f g e = go (ltb (i + 1) n) refl
    where
      a : from ≡ location_at (words_of rows) i
      a = f ∙ rw (lt-ltb i n h) refl

      z : 0 + i ≡ i
      z = omega arith

      ltb-lt : ltb (i + 1) n ≡ true → i + 1 < n
      ltb-lt q = ltb-true (i + 1) n q

      ltb-last : ltb (i + 1) n ≡ false → i + 1 ≡ n
      ltb-last q = omega (arith, ltb-false (i + 1) n q)

      go : (b : Bool) → ltb (i + 1) n ≡ b → get_or all i 0 ≡ t
      go true q =
          let c : to ≡ location_at (words_of rows) (i + 1) = g ∙ rw q refl in
          get_d-span_totals (words_of rows) 0 n i end counts (ltb-lt q) ∙ rw z (sym (e ∙ (λ k. span_total (a k) (c k) counts)))
      go false q =
          let c : to ≡ end = g ∙ rw q refl in
          get_d-last_total (words_of rows) 0 n i end counts (ltb-last q) ∙ rw z (sym (e ∙ (λ k. span_total (a k) (c k) counts)))

  -- one more
  pub all-next : (i t : ℕ) → i < n → get_or all i 0 ≡ t → sum (take (i + 1) all) ≡ sum (take i all) + t
  all-next i t h e = sum-next all i (omega (arith, length-all)) ∙ ap (λ (x : ℕ). sum (take i all) + x) e

  -- past 64 bits
  pub all_past : (i so t : ℕ) → i < n → so ≡ sum (take i all) → get_or all i 0 ≡ t → 18446744073709551615 - so < t → tells 46 0 ≡ bounded (sum all)
  unfolding bounded
  all_past i so t h s e p =
      let x = all-next i t h e in
      let y = sum-most all (i + 1) in
      rw (le-ltb (sum all) 18446744073709551616 (omega arith)) refl

  pub all_done : (i so : ℕ) → i ≡ n → so ≡ sum (take i all) → so < 18446744073709551616 → tells 0 so ≡ bounded (sum all)
  unfolding bounded
  all_done i so h s b =
      let x : so ≡ sum all = s ∙ ap sum (take_all i all (omega (arith, length-all))) in
      let y : sum all < 18446744073709551616 = omega arith in
      rw (lt-ltb (sum all) 18446744073709551616 y) (ap (tells 0) x)
