-- What is to be shown: the declarations of crate names and those of the row have the same first fault, and where there is none the same names.
use Rattle.std.specs.Prelude.{ℕ}
use Rattle.declarations.specs.Decls.{Agrees, decls_of}
use Rattle.names.specs.Declare.{known_rules}
use Rattle.names.specs.Known.{Checked, good, wrong, Names}
use Rattle.syntax.specs.Written.{Program}
use Rattle.words.specs.Words.{Word}

-- the faults by the row, and what crate names declares
pub data Declares (p : Program) : Checked (Unit {0}) → Checked Names → Type 0 where
  declared_wrong : {n : ℕ} {w : Word} → Declares p (wrong n w) (wrong n w)
  declared_good : {n : Names} → Agrees p n (known_rules 0 p.rules) (decls_of p) → Declares p (good tt) (good n)
