-- `objects::pair_in_order` meets its contract: the section is found, and its operand rule is looked up behind it.
use Rattle.machine.specs.Bytes.{words_of}
use Rattle.objects.proofs.PairAt.{pair-at, no_section, operand-listed, operand-called}
use Rattle.objects.proofs.Sections.{section-there, section-nowhere}
use native.Mathlib.Omega.{arith}
use Rattle.objects.proofs.pair_in_order.Goals as goal

pub returns-then-total-q-lt2 : goal.returns-then-total-q-lt2
returns-then-total-q-lt2 c = λ hs n vs p k rest h s t e.
    let a = c.args in
    let y = pair-at (words_of a.objects.now) a.q p k e in
    let z = y.inside in
    absurd (omega (arith, z))

pub returns-then-find_section-eq-NONE : goal.returns-then-find_section-eq-NONE
returns-then-find_section-eq-NONE c = λ hs n vs p k rest h s t e.
    let a = c.args in
    let y = pair-at (words_of a.objects.now) a.q p k e in
    no_section hs n vs p (section-nowhere s p.section.text (c.find_section.ensures.tells p.section y.section) c.if-find_section-eq-NONE.true)

pub returns-in_default : goal.returns-in_default
returns-in_default c = λ hs n vs p k rest h s t e.
    let a = c.args in
    let y = pair-at (words_of a.objects.now) a.q p k e in
    absurd (y.there c.in_default.ensures.ends)

pub returns-then-is_listed : goal.returns-then-is_listed
returns-then-is_listed c = λ hs n vs p k rest h s t e.
    let a = c.args in
    let y = pair-at (words_of a.objects.now) a.q p k e in
    operand-listed hs n vs p (section-there s p.section.text (c.find_section.ensures.tells p.section y.section) c.if-find_section-eq-NONE.false) _ (c.is_listed.ensures hs p.operand h (y.operand _ c.in-Some.ensures.ends).1) c.if-is_listed.true

pub returns : goal.returns
returns c = λ hs n vs p k rest h s t e.
    let a = c.args in
    let y = pair-at (words_of a.objects.now) a.q p k e in
    operand-called hs n vs p (section-there s p.section.text (c.find_section.ensures.tells p.section y.section) c.if-find_section-eq-NONE.false) _ (c.is_listed.ensures hs p.operand h (y.operand _ c.in-Some.ensures.ends).1) c.if-is_listed.false _
    (c.is_called.ensures vs p.operand rest t (y.operand _ c.in-Some.ensures.ends).1)
