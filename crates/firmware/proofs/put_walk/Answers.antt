-- `firmware::put_walk` meets its contract: the three parts are the form.
use mathlib.Core.Path.{◌≡◌, ◌∙◌}
use lib.ListN.{length}
use borrow.Author.Rules.{rules}
use Rattle.firmware.proofs.Walks.{walk-written}
use Rattle.firmware.proofs.put_walk.Goals as goal

pub returns : goal.returns
returns c =
    let a = c.args in
    let n : length a.w.returns ≡ 64 = search rules in
    let phase = c.put_phase.ensures in
    let registers = c.put_registers.ensures in
    c.put_returns.ensures ∙ rw (registers, phase) (walk-written a.out.now a.w c.requires.0 n)
