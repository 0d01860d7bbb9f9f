-- `reader::read_spelling` meets its contract.
use mathlib.Core.Path.{refl}
use native.Mathlib.Omega.{arith}
use Rattle.reader.proofs.Laws.{gives, no, passes, yes}
use Rattle.syntax.specs.Sections.{a_spelling}
use Rattle.reader.proofs.read_spelling.Goals.{else-strings-via-then-strings+else-w-eq-STRING, else-strings-via-else-strings}
use Rattle.reader.proofs.read_spelling.Goals as goal

pub returns-then-w-eq-STRING : goal.returns-then-w-eq-STRING
unfolding a_spelling
returns-then-w-eq-STRING c = record { low = omega arith; high = omega arith; tells = λ k h. rw c.if-strings.true (yes _ _ _ c.look-w.ensures c.if-w-eq-STRING.true (passes _ c.look-w.ensures (omega arith) (gives refl))) }

pub returns-else-strings : goal.returns-else-strings
unfolding a_spelling
returns-else-strings c =
    elim c.else-strings.branch [
      | else-strings-via-then-strings+else-w-eq-STRING w ↦ record { low = omega arith; high = omega arith; tells = λ k h. rw w.if-strings.true (no _ _ _ c.look-w.ensures w.if-w-eq-STRING.false (gives refl)) }
      | else-strings-via-else-strings w ↦ record { low = omega arith; high = omega arith; tells = λ k h. rw w.if-strings.false (gives refl) }
    ]
