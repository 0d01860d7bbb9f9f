-- The steps together: for a part, over one buffer of both texts; for linking, over the common part's own text.
use mathlib.Core.List.{List, [], ◌∷◌}
use mathlib.Core.Path.{◌≡◌, sym, subst, ◌∙◌}
use Prim.Native.Nat.{ℕ, ◌+◌, ◌*◌, ◌-◌, ◌≤◌}
use native.Mathlib.Omega.{arith}
use lib.ListN.{length}
use Rattle.declarations.specs.Decls.{EntriesAt, entries_of}
use Rattle.base.specs.declared.Refusal.{Refusal}
use Rattle.std.specs.Prelude.{Result}
use Rattle.objects.specs.Places.{HeadsAt}
use Rattle.parts.specs.Objects.{together}
use Rattle.partnames.proofs.Commons.{end-no-line, listed-in-text}
use Rattle.partnames.proofs.HeadLaws.{heads-at}
use Rattle.partnames.proofs.Together.{rows-alone}
use Rattle.partnames.specs.Declaring.{Declares}
use Rattle.partnames.specs.Heads.{CopiesHeads}
use Rattle.partnames.specs.Settling.{RowsOf, Settles}
use Rattle.partnames.specs.declared.Declared.{Declared}
use Rattle.reader.specs.Texts.{Listed}
use Rattle.symbols.specs.Rows.{held}
use Rattle.syntax.specs.Texts.{Common}
use Rattle.syntax.specs.Written.{Rule}

-- the common part alone
pub common-rows : {common rows rows₁ : List ℕ} {at n : ℕ} {c : Common} {d : Declared} → Listed common at n c → Declares common rows rows₁ d → length rows ≡ 6017
    → RowsOf common rows₁ d.count d.first (d.count - d.first) c []
common-rows {c = c} l b z = let i = listed-in-text l in rows-alone i (b.common c (l.keyword ∷ l.rest) i (end-no-line l) z)

-- Rows that were settled are the same rows

pub rows_settled : {text rows rows' : List ℕ} {n first lines : ℕ} {f : Result (Unit {0}) Refusal} {c : Common} {rs : List Rule} → Settles text rows rows' n first lines f → RowsOf text rows n first lines c rs → RowsOf text rows' n first lines c rs
rows_settled {text} s r = record { rows_are = s.same text ∙ r.rows_are; entries = r.entries; first_is = r.first_is; lines_are = r.lines_are }

pub entries-held : {text rows : List ℕ} {n first lines : ℕ} {c : Common} {rs : List Rule} → RowsOf text rows n first lines c rs → EntriesAt text (held text rows n) (entries_of (together c rs))
entries-held {text} {c = c} {rs} r = subst (λ ds. EntriesAt text ds (entries_of (together c rs))) (sym r.rows_are) r.entries

-- and the list's names and types are read off them
pub heads-of : {text rows heads heads' : List ℕ} {n first lines : ℕ} {c : Common} {rs : List Rule} → RowsOf text rows n first lines c rs → first + lines ≤ n → length heads ≡ 4 * lines
    → CopiesHeads text rows first lines heads heads' → HeadsAt text heads' c.listed
heads-of {text} {rows} {n = n} {first} {c = c} {rs} r h s a = heads-at text rows n first c rs r.rows_are r.first_is (omega (arith, r.lines_are)) r.lines_are s a
