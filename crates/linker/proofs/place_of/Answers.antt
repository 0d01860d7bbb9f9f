-- `linker::place_of` meets its contract.
use mathlib.Core.Path.{sym, ◌∙◌}
use native.Mathlib.Omega.{arith}
use Rattle.machine.specs.Bytes.{words_of}
use Rattle.linker.specs.Place.{text_at}
use Rattle.linker.proofs.Placing.{compared, place_here, place-later, place_none}
use Rattle.linker.proofs.place_of.Goals as goal

pub returns-then-same_name : goal.returns-then-same_name
returns-then-same_name c =
    let a = c.args in
    let t = compared (words_of a.words.now) _ _ _ c.same_name.ensures c.within.ensures.0 c.if-same_name.true in
    sym (c.loop-i.invariant ∙ place_here (words_of a.words.now) (text_at (words_of a.words.now) a.p) a.names.now c.loop-i.i (omega arith) t)

pub loop-i-preserved : goal.loop-i-preserved
loop-i-preserved c =
    let a = c.args in
    let t = compared (words_of a.words.now) _ _ _ c.same_name.ensures c.within.ensures.0 c.if-same_name.false in
    c.loop-i.invariant ∙ place-later (words_of a.words.now) (text_at (words_of a.words.now) a.p) a.names.now c.loop-i.i (omega arith) t

pub returns : goal.returns
returns c =
    let a = c.args in
    let e = place_none (words_of a.words.now) (text_at (words_of a.words.now) a.p) a.names.now c.loop-i.i (omega arith) in
    omega (arith, c.loop-i.invariant, e)
