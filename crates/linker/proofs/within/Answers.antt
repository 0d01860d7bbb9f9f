-- `linker::within` meets its contract.
use mathlib.Core.Path.{ap, ◌∙◌}
use native.Mathlib.Omega.{arith}
use Rattle.machine.specs.Bytes.{words_of}
use Rattle.linker.specs.Place.{text_at}
use Rattle.linker.proofs.Placing.{text-within}
use Rattle.linker.proofs.within.Goals as goal

pub returns : goal.returns
returns c =
    let a = c.args in
    let t = c.total.ensures in
    (ap (text_at (words_of a.words.now)) c.min.ensures ∙ text-within (words_of a.words.now) a.p c.total.result c.total.ensures.0, omega (arith, c.min.ensures, c.total.ensures.1))
