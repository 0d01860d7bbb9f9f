-- Where the rules mean something, each use of operators names a section and a rule of the row.
use mathlib.Core.List.{List, [], ◌∷◌}
use mathlib.Core.Option.{Option, none, some}
use mathlib.Core.Path.{◌≡◌, refl, sym, ◌∙◌}
use Prim.Native.Nat.{ℕ}
use native.Mathlib.Omega.{arith}
use Rattle.acceptance.proofs.Shape.{Each}
use Rattle.acceptance.proofs.Used.{UseOk}
use Rattle.declarations.specs.Decls.{Agrees, Decl, index_of, mapped}
use Rattle.maker.specs.Pairs.{section_row, operand_row, Ordered, AllOrdered}
use Rattle.names.specs.Known.{KnownRule, Names}
use Rattle.names.specs.Uses.{Use}
use Rattle.symbols.specs.Rows.{number_of}
use Rattle.syntax.specs.Written.{Program}

found : {A : Type 0} (f : ℕ → A) (x : Option ℕ) {a : A} → mapped f x ≡ some a → x ≡ some (number_of x)
found f none e = let z : ◌≡◌ {A = ℕ} 0 1 = cc in absurd (omega (arith, z))
found f (some i) e = refl

module _ {p : Program} {names : Names} {ks : List KnownRule} {ds : List Decl} (ag : Agrees p names ks ds) where
  ordered : (u : Use) → UseOk names ks u → Ordered ds u
  unfolding section_row operand_row
  ordered u h = record {
    section = found _ (index_of 600 u.section.text 0 ds) (sym (ag.operators u.section.text) ∙ h.section);
    operand = found _ (index_of 7 u.operand.text 0 ds) (sym (ag.rules u.operand.text) ∙ h.found);
  }

  pub all-ordered : (us : List Use) → Each (UseOk names ks) us → AllOrdered ds us
  unfolding Each AllOrdered
  all-ordered [] h = tt
  all-ordered (u ∷ us) h = (ordered u h.0, all-ordered us h.1)
