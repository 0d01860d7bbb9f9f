-- `two_ways`: rule by rule by the rows of `sst_rules` the grand total of `sst_shelf`.
use mathlib.Core.Bool.{Bool, true, false, ◌&&◌}
use mathlib.Core.List.{List, [], ◌∷◌, ◌++◌}
use mathlib.Core.Path.{◌≡◌, refl, sym, ap, ◌∙◌}
use Prim.Native.Nat.{ℕ, zero, suc, ◌+◌, ◌*◌, ◌-◌, ◌/◌, ◌<◌, ◌≤◌}
use native.Mathlib.Omega.{arith}
use lib.Dec.{leb}
use lib.ListN.{length, take, drop, length-append}
use lib.Seq.{take_at, drop-append-add}
use borrow.Author.Tests.{ltb-true, lt-ltb}
use Rattle.acceptance.proofs.Accepts.{accepted-table}
use Rattle.base.specs.Bools.{and}
use Rattle.std.specs.Prelude.{if◌then◌else◌}
use Rattle.figures.proofs.Shelves.{shelf-sums}
use Rattle.figures.proofs.Spans.{drop-take}
use Rattle.figures.specs.Figures.{sum, Figures, empty, plus, below64, all_below64, within64}
use Rattle.figures.specs.Form.{number_at, report_of, shelf_bytes}
use Rattle.figures.specs.Shelf.{Shelf, no_book, and_book}
use Rattle.figures.specs.Spans.{span_total, next_at, span_totals, location_at, locations_at, locations_in, tells, bounded, together_of, together_bytes}
use Rattle.figures.specs.Visits.{Given}
use Rattle.machine.proofs.Bytes.{length-bytes_of, length-table_of, words_of-bytes_of}
use Rattle.machine.proofs.Words.{number64-words64}
use Rattle.machine.specs.Bytes.{count, bytes_of, over}
use Rattle.machine.specs.Form.{words64, number64}
use Rattle.mapping.specs.Mapping.{Row, rule_rows, mapped, refused, map_of, map_rules, row_words, rows_words, room_in, lent_rows}
use Rattle.mapping.specs.Parts.{Parts, none_left, one_more}
use Rattle.processor.specs.Process as processor
use Rattle.processor.specs.Process.{process, accepted, lent_bytes}
use Rattle.program.specs.Program.{Rule}
use Rattle.shelf.proofs.Books.{from-calls}
use Rattle.shelf.proofs.Rows.{whole, by_rows}
use Rattle.shelf.specs.ByRows.{next_in, row_totals}
use Rattle.shelf.specs.ByText.{table_left}
use Rattle.shelf.specs.TwoWays.{TwoWays}

-- The locations of rows, read from their bytes

locations : List Row → List ℕ
locations [] = []
locations (r ∷ rs) = r.location ∷ locations rs

row-length : (r : Row) → length (row_words r) ≡ 12
unfolding row_words words64
row-length r = refl

-- past a row
location-shift : (a ws : List ℕ) (i : ℕ) → length a ≡ 12 → location_at (a ++ ws) (i + 1) ≡ location_at ws i
unfolding location_at number_at
location-shift a ws i e =
    let z : 4 * (3 * (i + 1) + 2) ≡ length a + 4 * (3 * i + 2) = omega arith in
    ap (λ (k : ℕ). number64 (drop k (a ++ ws))) z ∙ ap number64 (drop-append-add a ws (4 * (3 * i + 2)))

locations-shift : (a ws : List ℕ) (i n : ℕ) → length a ≡ 12 → locations_at (a ++ ws) (i + 1) n ≡ locations_at ws i n
unfolding locations_at
locations-shift a ws i zero e = refl
locations-shift a ws i (suc n) e = both (location-shift a ws i e) (locations-shift a ws (i + 1) n e)
  where
    both : {x y : ℕ} {xs ys : List ℕ} → x ≡ y → xs ≡ ys → x ∷ xs ≡ y ∷ ys
    both p q = cc

first-location : (r : Row) (ws : List ℕ) → location_at (row_words r ++ ws) 0 ≡ r.location
unfolding location_at number_at row_words words64
first-location r ws = number64-words64 r.location ws

rows-locations : (rows : List Row) → locations_at (rows_words rows) 0 (length rows) ≡ locations rows
unfolding locations_at rows_words locations
rows-locations [] = refl
rows-locations (r ∷ rs) = both (first-location r (rows_words rs)) (locations-shift (row_words r) (rows_words rs) 0 (length rs) (row-length r) ∙ rows-locations rs)
  where
    both : {x y : ℕ} {xs ys : List ℕ} → x ≡ y → xs ≡ ys → x ∷ xs ≡ y ∷ ys
    both p q = cc

rows-length : (rows : List Row) → length (rows_words rows) ≡ 12 * length rows
unfolding rows_words
rows-length [] = refl
rows-length (r ∷ rs) = length-append (row_words r) (rows_words rs) ∙ omega (arith, row-length r, rows-length rs)

bytes-locations : (rows : List Row) → locations_in (bytes_of (rows_words rows)) ≡ locations rows
unfolding locations_in
bytes-locations rows =
    let n : length (bytes_of (rows_words rows)) / 24 ≡ length rows = omega (arith, length-bytes_of (rows_words rows), rows-length rows) in
    rw (n, words_of-bytes_of (rows_words rows)) (rows-locations rows)

-- Totals

next-same : (rs : List Row) (e : ℕ) → next_at (locations rs) e ≡ next_in rs e
unfolding next_at next_in locations
next-same [] e = refl
next-same (r ∷ rs) e = refl

-- a row's location is 1 or more, so that the counts from it on up to the next row's are those before the next one's but for those before it
totals-same : {l e : ℕ} {rows : List Row} {bs : List Rule} (counts : List ℕ) → 1 ≤ l → Parts l rows bs e → span_totals (locations rows) e counts ≡ row_totals rows e counts
unfolding span_totals row_totals locations span_total
totals-same counts h (none_left q) = refl
totals-same counts h (one_more {e = e} {r = r} {rs = rs} q p) =
    let n : next_in rs e - 1 - (r.location - 1) ≡ next_in rs e - r.location = omega (arith, q) in
    both (rw (next-same rs e) (ap sum (drop-take (r.location - 1) (next_in rs e - 1) counts ∙ ap (λ (k : ℕ). take k (drop (r.location - 1) counts)) n))) (totals-same counts (omega arith) p)
  where
    both : {x y : ℕ} {xs ys : List ℕ} → x ≡ y → xs ≡ ys → x ∷ xs ≡ y ∷ ys
    both p q = cc

-- a shelf's total has 64 bits
total-small : {T : List ℕ} {f : Figures} {gs : List Given} → Shelf T f gs → f.total < 18446744073709551616
unfolding empty within64
total-small no_book = omega arith
total-small {T} (and_book {f = f} s g w) =
    let h = plus T g f in
    ltb-true h.total 18446744073709551616 (and (below64 h.books) (below64 h.total) (and (all_below64 h.counts) (below64 h.books && below64 h.total) w).1).1

-- the rows that a map tells are the text's
mapped-rows : (text : List ℕ) (room : ℕ) (rows : List Row) → map_rules text room ≡ mapped rows → rule_rows text ≡ rows
unfolding map_rules map_of
mapped-rows text room rows e = go (process text 4096) e
  where
    inner : (t : Bool) → (if t then mapped (rule_rows text) else refused 20) ≡ mapped rows → rule_rows text ≡ rows
    inner true d = cc
    inner false d = let z : ◌≡◌ {A = ℕ} 0 1 = cc in absurd (omega arith)

    go : (a : processor.Answer) → map_of (rule_rows text) room a ≡ mapped rows → rule_rows text ≡ rows
    go (processor.refused n at) d = let z : ◌≡◌ {A = ℕ} 0 1 = cc in absurd (omega arith)
    go (processor.accepted words verdict) d = inner (leb (length (rule_rows text)) room) d

pub two_ways : TwoWays
unfolding table_left lent_rows over shelf_bytes report_of together_bytes together_of bounded
two_ways text lent words verdict e figures gs calls lent_for_rows rows m =
    let k = from-calls (lent_bytes (process text (count lent)) lent) figures gs calls in
    let f = k.sums in
    let b = by_rows text lent words verdict e f gs k.shelf in
    let r : rule_rows text ≡ rows = mapped-rows text (room_in lent_for_rows) rows m in
    let a = accepted-table text (count lent) words verdict e in
    let w = whole text words a.prog a.means a.words_are in
    let B = bytes_of (rows_words rows) in
    let n : length B ≡ 24 * length rows = omega (arith, length-bytes_of (rows_words rows), rows-length rows) in
    let t : take (24 * length rows) (B ++ drop (length B) lent_for_rows) ≡ B = take_at B (drop (length B) lent_for_rows) (24 * length rows) n in
    let l : locations_in (take (24 * length rows) (B ++ drop (length B) lent_for_rows)) ≡ locations rows = ap locations_in t ∙ bytes-locations rows in
    let s : sum (span_totals (locations rows) (1 + length words) f.counts) ≡ f.total =
    ap sum (totals-same f.counts (omega arith) (rw r at w)) ∙ ap (λ (x : List Row). sum (row_totals x (1 + length words) f.counts)) (sym r) ∙ b.together in
    let g : together_bytes figures (take (24 * length rows) (B ++ drop (length B) lent_for_rows)) (1 + length words) ≡ tells 0 f.total =
    rw (k.taken, l, s, lt-ltb f.total 18446744073709551616 (total-small k.shelf)) refl in
    record {
      shelf = rw k.taken refl;
      rules = ap (λ x. x.number) g;
      same = ap (λ x. x.total) g ∙ rw k.taken refl;
      instructions = rw k.taken (shelf-sums (table_left text lent) (length-table_of (lent_bytes (process text (count lent)) lent)) k.shelf).total;
    }
