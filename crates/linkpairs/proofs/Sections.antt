-- The section of a pair among the declarations in the rows, and its entries in the text.
use mathlib.Core.List.{List, []}
use mathlib.Core.Option.{Option, none, some}
use mathlib.Core.Path.{◌≡◌, refl, sym, ap, ◌∙◌}
use native.Mathlib.Omega.{arith}
use Prim.Native.Nat.{ℕ, ◌+◌, ◌*◌, ◌<◌}
use lib.ListN.{length, get_or}
use Rattle.declarations.specs.Decls as decls
use Rattle.declarations.specs.Decls.{Decl, entries_of, operators_from, mapped}
use Rattle.grammar.specs.Derived.{OperatorsIn}
use Rattle.linkpairs.specs.Standing.{Sections, KnownUse, EntriesAre, Counts}
use Rattle.maker.proofs.Ranking.{levels-some}
use Rattle.maker.proofs.Taking.{row_at, row-less}
use Rattle.maker.specs.Pairing.{PlaceOf}
use Rattle.maker.specs.Ranks.{LevelsDone}
use Rattle.maker.specs.declared.Levels.{Levels}
use Rattle.names.specs.Known.{Names, find_operators}
use Rattle.names.specs.Uses.{Use, levels_used}
use Rattle.parts.proofs.Numbers.{none-some}
use Rattle.program.specs.Made.{Level, levels_of, crowded}
use Rattle.symbols.proofs.Searches.{held_at}
use Rattle.symbols.specs.Rows.{decl_at, held, number_of}
use Rattle.syntax.specs.Written.{Operator, Program}
use Rattle.words.specs.Words.{Word, words_at}

-- the section's declaration
record RowOf (text rows : List ℕ) (n : ℕ) (p : Program) (names : Names) (u : Use) : Type 0 where
  row : ℕ
  is : decls.index_of 600 u.section.text 0 (held text rows n) ≡ some row
  levels : levels_used names u ≡ levels_of (operators_from (held text rows n) (entries_of p row))

row_of : {text rows : List ℕ} {n : ℕ} {p : Program} {names : Names} (u : Use) → Sections text rows n p names → KnownUse names u → RowOf text rows n p names u
unfolding levels_used
row_of {text} {rows} {n} {p} {names} u s x = go (decls.index_of 600 u.section.text 0 (held text rows n)) refl (sym (s.operators u.section.text) ∙ x.section)
  where
    ls : ℕ → List Level
    ls i = levels_of (operators_from (held text rows n) (entries_of p i))

    used : (o : Option ℕ) → decls.index_of 600 u.section.text 0 (held text rows n) ≡ o → find_operators u.section.text names.operators ≡ mapped ls o
    used o d = s.operators u.section.text ∙ ap (mapped ls) d

    go : (o : Option ℕ) → decls.index_of 600 u.section.text 0 (held text rows n) ≡ o → mapped ls (decls.index_of 600 u.section.text 0 (held text rows n)) ≡ some x.levels → RowOf text rows n p names u
    go none d e = none-some (ap (mapped ls) (sym d) ∙ e)
    go (some i) d e = record { row = i; is = d; levels = ap (λ y. elim y as (λ _. List Level) [ some k ↦ k | none ↦ [] ]) (used (some i) d) }

as_row : (text rows : List ℕ) {row i : ℕ} {ws : List Word} {os : List Operator} → row ≡ i → OperatorsIn (words_at text (get_or rows (8 * i + 1) 0)) ws os → OperatorsIn (words_at text (get_or rows (8 * row + 1) 0)) ws os
as_row text rows e x = rw e x

module _ {text rows : List ℕ} {n : ℕ} {p : Program} {names : Names} (u : Use) (s : Sections text rows n p names) (x : KnownUse names u) {row : ℕ} (e : row ≡ number_of (decls.index_of 600 u.section.text 0 (held text rows n))) where
  y : RowOf text rows n p names u
  y = row_of u s x

  row_is : row ≡ y.row
  row_is = e ∙ ap number_of y.is

  pub row_low : row < n
  row_low = let a = row-less text rows n 600 u.section.text y.row y.is in omega (arith, a, row_is)

  pub entries-are : {r : ℕ} → PlaceOf text rows row r → EntriesAre text rows n names u r
  unfolding decl_at
  entries-are {r} pl =
      let ds = held text rows n in
      let i = y.row in
      let en = s.entries in
      let d = held_at text rows n i (row-less text rows n 600 u.section.text i y.is) in
      let z : OperatorsIn (words_at text (get_or rows (8 * i + 1) 0)) (en.behind i) (entries_of p i) = rw (ap (λ (k : Decl). words_at text k.value) d) at (en.stand i (row_at 600 u.section.text i ds y.is).class) in
      record {
        inside = pl.inside;
        operators = entries_of p i;
        behind = en.behind i;
        entries = pl.entries (entries_of p i) (en.behind i) (as_row text rows row_is z);
        levels = y.levels;
      }

pub levels-counted : {text rows : List ℕ} {n : ℕ} {names : Names} {u : Use} {r : ℕ} {l : Levels} → EntriesAre text rows n names u r → LevelsDone text r l → Counts names u l
levels-counted {text} {rows} {n} x d =
    let c = d.done (held text rows n) x.operators x.behind x.entries in
    let m = levels-some (held text rows n) x.operators x.entries in
    record { count = c.0 ∙ ap length (sym x.levels); crowd = c.1 ∙ ap crowded (sym x.levels); one = omega (arith, c.0, m) }
