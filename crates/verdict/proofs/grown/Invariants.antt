-- `verdict::grown` meets its contract: one value more each time.
use Prim.Native.Nat.{◌≤◌, ◌-◌}
use mathlib.Core.Path.{◌≡◌}
use lib.ListN.{length}
use Rattle.verdict.specs.Told.{NotesTold}
use Rattle.verdict.proofs.grown.Given as goal

abbrev pub invariant-loop-j : goal.invariant-loop-j
invariant-loop-j l = (l.j ≤ l.n) × (length l.facts ≡ length l.initial.facts) × NotesTold l.initial.facts l.m l.r l.wanted l.j l.given l.facts l.k

abbrev pub decreases-loop-j : goal.decreases-loop-j
decreases-loop-j l = l.n - l.j
