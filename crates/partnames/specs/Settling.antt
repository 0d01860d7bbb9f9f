-- The names that a part is resolved by, in rows; and the faults of a common part by them.
use Rattle.std.specs.Prelude.{Result, Ok, List, ◌≡◌, ℕ, ◌+◌, length}
use Rattle.std.proofs.Math.Option.{Option, none, some}
use Rattle.declarations.specs.Decls.{Agrees, EntriesAt, decls_of, entries_of}
use Rattle.base.specs.declared.Refusal.{Refusal}
use Rattle.declarer.specs.Faults.{fault_of, at_of, len_of}
use Rattle.names.specs.Declare.{declare_sections, known_rules}
use Rattle.names.specs.Known.{Checked, good, wrong, Names}
use Rattle.names.specs.Understand.{nobody}
use Rattle.parts.specs.Objects.{common_means, together}
use Rattle.symbols.specs.Index.{Kept}
use Rattle.symbols.specs.Rows.{held}
use Rattle.syntax.specs.Sections.{names_in_all}
use Rattle.syntax.specs.Texts.{Common}
use Rattle.syntax.specs.Written.{Rule}
use Rattle.words.specs.Words.{Word}

-- the rows are those of the sections, the list and the other rules that rs name; or one of these names is past the 512
pub data Rowed (text rows : List ℕ) (first : ℕ) (r : Result ℕ Refusal) (c : Common) (rs : List Rule) : Option Word → Type 0 where
  in_rows : {n : ℕ} → r ≡ Ok n → held text rows n ≡ decls_of (together c rs) → n ≡ first + length (together c rs).rules → Rowed text rows first r c rs none
  past_names_lem : {w : Word} → fault_of r ≡ 9 → at_of r ≡ w.start → len_of r ≡ length w.text → Rowed text rows first r c rs (some w)

-- what the first n rows are before they are settled: the first of them that is a rule's, and how many lines the list has
pub record RowsOf (text rows : List ℕ) (n first lines : ℕ) (c : Common) (rs : List Rule) : Type 0 where
  pub rows_are : held text rows n ≡ decls_of (together c rs)
  pub entries : EntriesAt text (decls_of (together c rs)) (entries_of (together c rs))
  pub first_is : first ≡ names_in_all c.sections
  pub lines_are : lines ≡ length c.listed

-- the common part's names, or its first fault
pub data Settled (text rows : List ℕ) (n : ℕ) (r : Result (Unit {0}) Refusal) (c : Common) (rs : List Rule) : Checked Names → Type 0 where
  in_order : {names : Names} → fault_of r ≡ 0 → declare_sections (together c rs) c.sections nobody ≡ good names
      → Agrees (together c rs) names (known_rules 0 (together c rs).rules) (held text rows n) → Settled text rows n r c rs (good names)
  faulty : {k : ℕ} {w : Word} → fault_of r ≡ k → (k ≡ 0 → ⊥) → at_of r ≡ w.start → len_of r ≡ length w.text → Settled text rows n r c rs (wrong k w)

pub record Settles (text rows rows' : List ℕ) (n first lines : ℕ) (r : Result (Unit {0}) Refusal) : Type 0 where
  pub size : length rows' ≡ length rows
  pub kept : Kept text rows' n
  pub same : (t : List ℕ) → held t rows' n ≡ held t rows n
  pub settled : (c : Common) (rs : List Rule) → RowsOf text rows n first lines c rs → Settled text rows' n r c rs (common_means c rs)
