-- Uses taken one after the other: the pairs that stand there are those of the uses seen, and the answer is that of the rules made for them.
use mathlib.Core.Bool.{Bool, true, false, ◌&&◌, ◌||◌}
use mathlib.Core.List.{List, [], ◌∷◌, ◌++◌}
use mathlib.Core.Option.{none, some}
use mathlib.Core.Path.{◌≡◌, refl, sym, ap, ◌∙◌}
use Prim.Native.Nat.{ℕ, suc, ◌+◌, ◌*◌, ◌-◌, ◌<◌, ◌≤◌}
use native.Mathlib.Omega.{arith}
use borrow.Author.Tests.{eqb-true, ltb-false}
use lib.Dec.{eqb, ltb}
use lib.ListN.{length, get_or}
use Rattle.base.proofs.Laws.{neither, above_zero}
use Rattle.base.specs.Bools.{and}
use Rattle.std.specs.Prelude.{Option as Answer, Some, None, Result, Ok, Err, is_some, if◌then◌else◌}
use Rattle.base.specs.Common.{given, same}
use Rattle.declarations.specs.Decls.{Agrees, Decl, EntriesAt, entries_of, decl_of, index_of, mapped, operators_from}
use Rattle.grammar.specs.Derived.{OperatorsIn}
use Rattle.maker.proofs.Holding.{answer-given, never-none}
use Rattle.maker.proofs.Ranking.{levels-some}
use Rattle.maker.specs.Pairs.{pairs_held, look_pair, section_row, operand_row, Ordered, pair_of}
use Rattle.maker.specs.Pairing.{Adds, PlaceOf, Finds, UseRead, passes, is_there, again, added, over, TakenBound, UseDone}
use Rattle.maker.specs.Ranks.{LevelsDone}
use Rattle.maker.specs.declared.Levels.{Levels}
use Rattle.maker.specs.declared.Untaken.{Untaken}
use Rattle.maker.specs.declared.Untaken.TheVariants.{NotInOrder, OverLimit}
use Rattle.maker.specs.declared.Used.{Used}
use Rattle.names.specs.Known.{KnownRule, Names}
use Rattle.names.specs.Uses.{Use, levels_used}
use Rattle.program.specs.Made.{Level, levels_of, crowded}
use Rattle.symbols.proofs.Indexing.{index_same}
use Rattle.symbols.proofs.Searches.{held_at, held-length}
use Rattle.symbols.specs.Rows.{decl_at, held_from, held, answer_of}
use Rattle.syntax.specs.Written.{Program}
use Rattle.words.specs.Words.{words_at}

-- Declarations

-- the declaration that a search finds
pub record AtRow (c : ℕ) (w : List ℕ) (d : Decl) : Type 0 where
  pub class : d.class ≡ c
  pub name : same w d.name.text ≡ true

record Row (c : ℕ) (w : List ℕ) (i k : ℕ) (ds : List Decl) : Type 0 where
  low : i ≤ k
  row : AtRow c w (decl_of ds (k - i))

index-row : (c : ℕ) (w : List ℕ) (i k : ℕ) (ds : List Decl) → index_of c w i ds ≡ some k → Row c w i k ds
unfolding index_of decl_of
index-row c w i k [] e = let z : ◌≡◌ {A = ℕ} 0 1 = cc in absurd (omega (arith, z))
index-row c w i k (d ∷ ds) e = go (eqb d.class c && same w d.name.text) refl e (index-row c w (suc i) k ds)
  where
    go : (t : Bool) → (eqb d.class c && same w d.name.text) ≡ t → (if t then some i else index_of c w (suc i) ds) ≡ some k
        → (index_of c w (suc i) ds ≡ some k → Row c w (suc i) k ds) → Row c w i k (d ∷ ds)
    go true q f g =
        let z : i ≡ k = cc in
        let y : 0 ≡ k - i = omega (arith, z) in
        record { low = omega (arith, z); row = rw (sym y) (record { class = eqb-true d.class c (and _ _ q).0; name = (and (eqb d.class c) _ q).1 }) }
    go false q f g =
        let r = g f in
        let y : suc (k - suc i) ≡ k - i = omega (arith, r.low) in
        record { low = omega (arith, r.low); row = rw (sym y) r.row }

pub row_at : (c : ℕ) (w : List ℕ) (k : ℕ) (ds : List Decl) → index_of c w 0 ds ≡ some k → AtRow c w (decl_of ds k)
row_at c w k ds e = let d : k - 0 ≡ k = omega arith in rw d at (index-row c w 0 k ds e).row

index-less : (c : ℕ) (w : List ℕ) (i k : ℕ) (ds : List Decl) → index_of c w i ds ≡ some k → k < i + length ds
unfolding index_of
index-less c w i k [] e = let z : ◌≡◌ {A = ℕ} 0 1 = cc in absurd (omega (arith, z))
index-less c w i k (d ∷ ds) e = go (eqb d.class c && same w d.name.text) e (index-less c w (suc i) k ds)
  where
    go : (t : Bool) → (if t then some i else index_of c w (suc i) ds) ≡ some k → (index_of c w (suc i) ds ≡ some k → k < suc i + length ds) → k < i + suc (length ds)
    go true f g = let z : i ≡ k = cc in omega (arith, z)
    go false f g = omega (arith, g f)

-- a row that is found is one of the first n
pub row-less : (text rows : List ℕ) (n c : ℕ) (w : List ℕ) (k : ℕ) → index_of c w 0 (held text rows n) ≡ some k → k < n
unfolding held
row-less text rows n c w k e = omega (arith, index-less c w 0 k (held_from text rows 0 n) e, held-length text rows 0 n)

-- The levels of a use

pub levels-used : {p : Program} {names : Names} {ks : List KnownRule} {ds : List Decl} (u : Use) → Agrees p names ks ds → Ordered ds u
    → levels_used names u ≡ levels_of (operators_from ds (entries_of p (section_row ds u)))
unfolding levels_used
levels-used {p} {names} {ds = ds} u ag q =
    ap (λ x. elim x as (λ _. List Level) [ some ls ↦ ls | none ↦ [] ]) (ag.operators u.section.text ∙ ap (mapped (λ i. levels_of (operators_from ds (entries_of p i)))) q.section)

record Counts (names : Names) (u : Use) (l : Levels) : Type 0 where
  count : l.count ≡ length (levels_used names u)
  crowd : l.crowded ≡ crowded (levels_used names u)
  some : 1 ≤ l.count

counts_of : {text rows : List ℕ} {n i : ℕ} {u : Use} (r : Used) {l : Levels} {p : Program} {names : Names} {ks : List KnownRule} → Agrees p names ks (held text rows n)
    → EntriesAt text (held text rows n) (entries_of p) → Ordered (held text rows n) u → r.section ≡ section_row (held text rows n) u → r.section < n → PlaceOf text rows r.section i → LevelsDone text i l → Counts names u l
unfolding decl_at
counts_of {text} {rows} {n} {i} {u} r {l} {p} {names} ag en q f low pl d =
    let ds = held text rows n in
    let s = section_row ds u in
    let e = levels-used u ag q in
    let here : decl_of ds s ≡ decl_at text rows r.section = ap (decl_of ds) (sym f) ∙ held_at text rows n r.section low in
    let x : OperatorsIn (words_at text (get_or rows (8 * r.section + 1) 0)) (en.behind s) (entries_of p s) =
    rw (ap (λ (k : Decl). words_at text k.value) here) at (en.stand s (row_at 600 u.section.text s ds q.section).class) in
    let y = pl.entries (entries_of p s) (en.behind s) x in
    let c = d.done ds (entries_of p s) (en.behind s) y in
    record { count = c.0 ∙ ap length (sym e); crowd = c.1 ∙ ap crowded (sym e); some = omega (arith, c.0, levels-some ds (entries_of p s) y) }

-- A use that is taken

keeps : {rows : List ℕ} {own : ℕ} → own ≤ 128 → get_or rows 5632 0 ≤ own → TakenBound rows rows (Ok own)
keeps {rows} f g = record { index = index_same rows; few = f; count = g }

refused : {rows : List ℕ} {e : Untaken} → TakenBound rows rows (Err e)
refused {rows} = record { index = index_same rows; few = tt; count = tt }

-- the use that was read is the one that is found
pub found-is : {ds : List Decl} {x : Use} {u : Used} → Finds ds x (Some u) → (u.section ≡ section_row ds x) × (u.operand ≡ operand_row ds x)
found-is {u = u} f = let e : f.used ≡ u = cc in (ap (λ (v : Used). v.section) (sym e) ∙ f.section, ap (λ (v : Used). v.operand) (sym e) ∙ f.operand)

pub use-missing : {text rows : List ℕ} {n others own at : ℕ} {r : Answer Used} → UseRead text rows n at r → r ≡ None
    → UseDone text rows n others own at rows (Err NotInOrder)
use-missing f e = record { bound = refused; takes = λ p names ks ag en w k q. let x = f.finds w k q in absurd (never-none (sym e ∙ x.there)) }

abbrev pub Looked : List ℕ → Used → Answer ℕ → Type 0
Looked rows u v = v ≡ answer_of (look_pair u.section u.operand (pairs_held rows))

pub is-there : {ds : List Decl} (rows : List ℕ) {u : Used} {x : Use} (b : Bool) → given (look_pair u.section u.operand (pairs_held rows)) ≡ b → Finds ds x (Some u) → is_there ds (pairs_held rows) x ≡ b
is-there {ds} rows {u} {x} b e g =
    let f = found-is g in
    ap (λ (i : ℕ). given (look_pair i (operand_row ds x) (pairs_held rows))) (sym f.0) ∙ (ap (λ (i : ℕ). given (look_pair u.section i (pairs_held rows))) (sym f.1) ∙ e)

pub use-again : {text rows : List ℕ} {n others own at : ℕ} {v : Answer ℕ} {u : Used} → own ≤ 128 → get_or rows 5632 0 ≤ own → UseRead text rows n at (Some u) → Looked rows u v → is_some v ≡ true
    → UseDone text rows n others own at rows (Ok own)
use-again {text} {rows} {n} {u = u} f g r t h = record { bound = keeps f g; takes = λ p names ks ag en w k q. again refl refl (is-there _ true (answer-given _ t ∙ h) (r.finds w k q)) }

pub use-empty : {text rows : List ℕ} {n others own at i : ℕ} {u : Used} {l : Levels} → UseRead text rows n at (Some u)
    → PlaceOf text rows u.section i → LevelsDone text i l → l.count ≡ 0
    → UseDone text rows n others own at rows (Err NotInOrder)
use-empty {u = u} r pl d z = record { bound = refused; takes = λ p names ks ag en w k q. absurd (omega (arith, z, (counts_of u ag en q (found-is (r.finds w k q)).0 r.low.0 pl d).some)) }

over-is : {names : Names} {u : Use} {l : Levels} (others own : ℕ) (b : Bool) → Counts names u l → b ≡ (ltb 128 (own + l.count) || ltb 512 (others + (own + l.count)) || l.crowded) → passes others own (levels_used names u) ≡ b
over-is {l = l} others own b c e = rw (sym c.count, sym c.crowd) (sym e)

pub use-over : {text rows : List ℕ} {n others own at i : ℕ} {v : Answer ℕ} {u : Used} {l : Levels} {b : Bool} → UseRead text rows n at (Some u)
    → Looked rows u v → is_some v ≡ false → PlaceOf text rows u.section i → LevelsDone text i l
    → b ≡ (ltb 128 (own + l.count) || ltb 512 (others + (own + l.count)) || l.crowded) → b ≡ true
    → UseDone text rows n others own at rows (Err OverLimit)
use-over {others = others} {own} {u = u} r t h pl d p z = record {
  bound = refused;
  takes = λ p₁ names ks ag en w k q. over refl (is-there _ false (answer-given _ t ∙ h) (r.finds w k q)) (over-is others own _ (counts_of u ag en q (found-is (r.finds w k q)).0 r.low.0 pl d) p ∙ z);
}

pub not-over : (others own : ℕ) (l : Levels) {b : Bool} → b ≡ (ltb 128 (own + l.count) || ltb 512 (others + (own + l.count)) || l.crowded) → b ≡ false → own + l.count ≤ 128
not-over others own l {b} e z = ltb-false 128 (own + l.count) (neither _ _ (neither _ _ (sym e ∙ z)).0).0

pub use-added : {text rows rows' : List ℕ} {n others own at i k : ℕ} {v : Answer ℕ} {u : Used} {l : Levels} {b : Bool} → get_or rows 5632 0 ≤ own → UseRead text rows n at (Some u)
    → Looked rows u v → is_some v ≡ false → PlaceOf text rows u.section i → LevelsDone text i l → (l.count ≡ 0 → ⊥)
    → b ≡ (ltb 128 (own + l.count) || ltb 512 (others + (own + l.count)) || l.crowded) → b ≡ false → k ≡ get_or rows 5632 0 → Adds rows rows' k u.section u.operand own
    → UseDone text rows n others own at rows' (Ok (own + l.count))
use-added {text} {rows} {rows'} {n} {others} {own} {at} {k = k} {u = u} {l} g r t h pl d nz p z ek a = record {
  bound = record { index = a.index; few = not-over others own l p z; count = omega (arith, a.count, ek, g, above_zero l.count nz) };
  takes = λ p₁ names ks ag en w m q.
      let f = r.finds w m q in
      let c = counts_of u ag en q (found-is f).0 r.low.0 pl d in
      added (ap {B = Result ℕ Untaken} (λ (j : ℕ). Ok (own + j)) c.count) (a.pairs (sym ek) ∙ pair-as f) (is-there _ false (answer-given _ t ∙ h) f) (over-is others own _ c p ∙ z);
}
  where
    pair-as : {x : Use} → Finds (held text rows n) x (Some u)
        → pairs_held rows ++ (record { section = u.section; operand = u.operand; lowest = own } ∷ []) ≡ pairs_held rows ++ (pair_of (held text rows n) own x ∷ [])
    pair-as g = let f = found-is g in rw (f.0, f.1) refl
