-- The scan of an action, of actions and of alternatives meet their contracts. The measure is the cells left, twice, and one more for a list.
use mathlib.Core.Path.{◌≡◌}
use mathlib.Core.List.{List}
use lib.ListN.{length, take, drop, get_or}
use Rattle.program.specs.Program.{Acts, Alts, Other}
use Rattle.verdict.specs.Lies.{labelled, LiesAll, LiesRest}
use Rattle.verdict.specs.Told.{known_in}
use Rattle.verdict.proofs.Scan.{Left, Rest, RestBy}
use Prim.Native.Nat.{ℕ, ◌≤◌, ◌-◌, ◌*◌, ◌+◌}
use Rattle.verdict.proofs.+act_acts_alts_valued.Given as goal

abbrev pub decreases-act : goal.decreases-act
decreases-act l = 2 * (length l.cells.now - l.at)

abbrev pub decreases-acts : goal.decreases-acts
decreases-acts l = 2 * (length l.cells.now - l.at) + 1

abbrev pub decreases-alts : goal.decreases-alts
decreases-alts l = 2 * (length l.cells.now - l.at) + 1

abbrev pub decreases-valued : goal.decreases-valued
decreases-valued l = 2 * (length l.cells.now - l.at) + 1

abbrev pub invariant-acts-loop-known : goal.invariant-acts-loop-known
invariant-acts-loop-known l = (l.at ≤ l.i) × (l.i ≤ length l.cells) × ((t : Acts) (k : List ℕ) → LiesAll (drop l.at l.cells) t k → Left l.wanted l.cells l.i (known_in l.known.passed l.facts l.known.count) l.w t k)

abbrev pub decreases-acts-loop-known : goal.decreases-acts-loop-known
decreases-acts-loop-known l = length l.cells - l.i

abbrev pub invariant-alts-loop-tag : goal.invariant-alts-loop-tag
invariant-alts-loop-tag l =
    (l.at ≤ l.i) × (l.i ≤ length l.cells) × (l.tag ≡ get_or l.cells l.i 0) × ((q : Alts) (o : Other) (k : List ℕ) → LiesRest (drop l.at l.cells) q o k → Rest l.wanted l.cells l.i (known_in l.known.passed l.facts l.known.count) l.x l.w q o k)

abbrev pub decreases-alts-loop-tag : goal.decreases-alts-loop-tag
decreases-alts-loop-tag l = length l.cells - l.i

abbrev pub invariant-valued-loop-tag : goal.invariant-valued-loop-tag
invariant-valued-loop-tag l =
    (l.at ≤ l.i) × (l.i ≤ length l.cells) × (l.tag ≡ get_or l.cells l.i 0) × (l.n ≤ 64) × (length l.labels ≡ 64)
    × ((q : Alts) (o : Other) (k : List ℕ) → labelled q ≤ 64 → LiesRest (drop l.at l.cells) q o k → RestBy l.wanted l.cells l.i (known_in l.known.passed l.facts l.known.count) l.r l.w (take l.n l.labels) l.n q o k)

abbrev pub decreases-valued-loop-tag : goal.decreases-valued-loop-tag
decreases-valued-loop-tag l = length l.cells - l.i
