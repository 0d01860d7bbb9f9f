-- `counting::covered` meets its contract: the ones of the first j words.
use mathlib.Core.Path.{◌≡◌}
use Prim.Native.Nat.{◌*◌, ◌≤◌}
use lib.ListN.{take}
use Rattle.figures.specs.Figures as figures
use Rattle.figures.specs.Form.{numbers_at}
use Rattle.machine.specs.Bytes.{words_of}
use Rattle.counting.proofs.covered.Given as goal

abbrev pub invariant-loop-j : goal.invariant-loop-j
invariant-loop-j l = (l.j ≤ 64) × ((l.n ≤ l.j * 64) × (l.n ≡ figures.covered (take l.j (numbers_at (words_of l.s) 4096 64))))
