-- A text without a fault of 1 to 9: it was read, and what it means is in the buffers.
use mathlib.Core.List.{List}
use mathlib.Core.Path.{◌≡◌, refl}
use Prim.Native.Nat.{ℕ}
use Rattle.std.specs.Prelude.{Ok}
use Rattle.frontend.proofs.Steps.{decides-fine}
use Rattle.frontend.specs.Resolving.{Ready, Rowed, Resolves, meant, IsRead}
use Rattle.frontend.specs.declared.Resolved.{Resolved}
use Rattle.names.specs.Known.{Checked, good, wrong}
use Rattle.names.specs.Understand.{understand}
use Rattle.program.specs.Program.{Rule}
use Rattle.reader.specs.Counting.{Decides}
use Rattle.reader.specs.Answers.{Out}
use Rattle.syntax.specs.Parse.{parse}
use Rattle.syntax.specs.Written.{Program}

pub text-read : {text : List ℕ} {out : Out} → Decides out (parse text) → out.fault ≡ 0 → IsRead text
text-read d z = let h = decides-fine d z in record { tree = h.value; rest = h.rest; reads = h.is }

-- a text that has no fault: what it means, in the buffers
pub record Meant (text rows cells starts sorts : List ℕ) (r : Resolved) (p : Program) : Type 0 where
  pub prog : List Rule
  pub means : understand p ≡ good prog
  pub ready : Ready cells starts sorts r.rules r.cells prog
  pub rowed : Rowed text rows r p

pub its-meaning : {text rows cells starts sorts : List ℕ} {r : Resolved} {p : Program} → Resolves text rows cells starts sorts p (Ok r) (understand p) → Meant text rows cells starts sorts r p
its-meaning {text} {rows} {cells} {starts} {sorts} {r} {p} resolved = go (understand p) refl resolved
  where
    go : (m : Checked (List Rule)) → understand p ≡ m → Resolves text rows cells starts sorts p (Ok r) m → Meant text rows cells starts sorts r p
    go (good prog) u (meant ready rowed) = record { prog = prog; means = u; ready = ready; rowed = rowed }
    go (wrong k w) u x = elim x [ ]
