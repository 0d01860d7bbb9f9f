-- `objects::find_section` meets its contract: the declarations passed are no such section.
use native.Mathlib.Omega.{arith}
use Rattle.declarations.specs.Decls.{index_of}
use Rattle.machine.specs.Bytes.{words_of}
use Rattle.symbols.proofs.Searches.{told-number}
use Rattle.symbols.specs.Rows.{held}
use Rattle.symbols.specs.Search.{Tells}
use Rattle.objects.proofs.Sections.{seeks-all, found-section, other-section, no_section}
use Rattle.objects.specs.Places.{NameAt}
use Rattle.objects.specs.View.{Name}
use Rattle.objects.proofs.find_section.Goals as goal

pub loop-i-init : goal.loop-i-init
loop-i-init c = let a = c.args in λ m x. seeks-all a.text.now a.rows.now m.text a.n

pub returns-then-is_section : goal.returns-then-is_section
returns-then-is_section c =
    let a = c.args in
    let t : (m : Name) → NameAt (words_of a.objects.now) a.p m → Tells c.loop-i.i (index_of 600 m.text 0 (held a.text.now a.rows.now a.n)) =
    λ m x. found-section a.text.now a.rows.now m.text a.n c.loop-i.i (omega arith) (c.loop-i.invariant m x) (omega arith) _ (c.is_section.ensures m x) c.if-is_section.true in record { same = λ m x. told-number (t m x); tells = t; below = λ _. omega arith }

pub loop-i-preserved : goal.loop-i-preserved
loop-i-preserved c =
    let a = c.args in
    λ m x. other-section a.text.now a.rows.now m.text a.n c.loop-i.i (c.loop-i.invariant m x) (omega arith) _ (c.is_section.ensures m x) c.if-is_section.false

pub returns : goal.returns
returns c =
    let a = c.args in
    let t : (m : Name) → NameAt (words_of a.objects.now) a.p m → Tells 65536 (index_of 600 m.text 0 (held a.text.now a.rows.now a.n)) =
    λ m x. no_section a.text.now a.rows.now m.text a.n c.loop-i.i (c.loop-i.invariant m x) (omega arith) in record { same = λ m x. told-number (t m x); tells = t; below = λ l. absurd (omega (arith, l)) }
