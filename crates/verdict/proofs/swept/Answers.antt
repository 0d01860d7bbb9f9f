-- `verdict::swept` meets its contract.
use Rattle.verdict.proofs.Looking.{sweep-after}
use Rattle.verdict.proofs.swept.Goals as goal

pub sweep-requires : goal.sweep-requires
sweep-requires c = (c.rounds-m.ensures.widens.facts.room, c.requires.1)

pub returns-then-late : goal.returns-then-late
returns-then-late c =
    let a = c.args in
    let h = c.rounds-m in
    let s = c.sweep in
    sweep-after a.cells.now a.starts.now a.n 0 a.k a.facts.now c.rounds-m.result c.rounds-m.new.facts c.sweep.result c.sweep.new.facts c.rounds-m.ensures c.sweep.ensures

pub returns : goal.returns
returns c = c.sweep-2.ensures
