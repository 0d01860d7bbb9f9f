-- The figure that `sst_process` tells of the new text is enough for every list of calls after a carrying.
use mathlib.Core.Bool.{true}
use mathlib.Core.Path.{refl, ap, ◌∙◌}
use native.Mathlib.Omega.{arith}
use Rattle.figure.specs.Told.{figure_of}
use Rattle.firmware.proofs.Zero.{accepts-0}
use Rattle.firmware.specs.Processing.{Numbers}
use Rattle.machine.specs.Bytes.{count}
use Rattle.processor.specs.Process.{process}
use Rattle.bytewise.proofs.Carried.{enough-carried}
use Rattle.bytewise.proofs.Figures.{Measured, measured, told-figure}
use Rattle.bytewise.specs.AtCarryFigure.{FigureAtCarry}

pub figure-at-carry : FigureAtCarry
figure-at-carry old lent table new lent' table' x x' p z p' h tokens answers bk ba allowance low s ws n ns c s' m w b =
    let a = accepts-0 old (count lent) (figure_of old (count lent)) x p.numbers z in
    let q = ap (λ (y : Numbers). y.figure) p'.numbers ∙ told-figure (process new (count lent')) (figure_of new (count lent')) in
    let f : Measured new (count lent') x'.figure = rw q (measured new (count lent') (omega (arith, q))) in
    enough-carried old new (count lent) (count lent') a.0 f.words a.1 true a.2 f.answer (record { buffer = p.buffer; answer = a.2; bytes = p.bytes }) tokens answers bk ba allowance low c s' m
    (record { buffer = p'.buffer; answer = f.answer; bytes = p'.bytes }) refl f.prog f.means x'.figure f.is w b
