-- The functions that test actions, cycles, choices and alternatives meet their contracts. Measure: five times the nesting left, and a rank.
use lib.ListN.{length}
use Rattle.machine.specs.Bytes.{words_of}
use Rattle.objects.proofs.Walked.{ActsLeft, ArmsLeft}
use Prim.Native.Nat.{◌+◌, ◌*◌, ◌-◌, ◌≤◌}
use Rattle.objects.proofs.+actions.Given as goal

abbrev pub decreases-act : goal.decreases-act
decreases-act l = 5 * l.depth.left + 1

abbrev pub decreases-acts : goal.decreases-acts
decreases-acts l = 5 * l.depth.left + 2

abbrev pub decreases-arms : goal.decreases-arms
decreases-arms l = 5 * l.depth.left + 4

abbrev pub decreases-choice : goal.decreases-choice
decreases-choice l = 5 * l.depth.left + 0

abbrev pub decreases-cycle : goal.decreases-cycle
decreases-cycle l = 5 * l.depth.left + 0

abbrev pub decreases-last_arm : goal.decreases-last_arm
decreases-last_arm l = 5 * l.depth.left + 3

abbrev pub invariant-acts-loop-here : goal.invariant-acts-loop-here
invariant-acts-loop-here l =
    (l.here.cell ≤ l.here.end) × (l.here.end ≤ length (words_of l.objects)) × (l.here.name ≤ length (words_of l.objects))
    × ActsLeft l.common l.heads (words_of l.objects) l.ground l.depth l.initial.here l.here l.past l.exits

abbrev pub decreases-acts-loop-here : goal.decreases-acts-loop-here
decreases-acts-loop-here l = l.here.end - l.here.cell

abbrev pub invariant-arms-loop-here : goal.invariant-arms-loop-here
invariant-arms-loop-here l =
    (l.here.cell ≤ l.here.end) × (l.here.end ≤ length (words_of l.objects)) × (l.here.name ≤ length (words_of l.objects))
    × ArmsLeft l.common l.heads (words_of l.objects) l.ground l.depth l.token l.initial.here l.here l.room l.labelled l.past l.exits

abbrev pub decreases-arms-loop-here : goal.decreases-arms-loop-here
decreases-arms-loop-here l = l.here.end - l.here.cell
