-- Two exits in a cycle, by computing: their chain while the cycle is open, and their distances afterwards.
use Prim.Native.Nat.{◌-◌}
use mathlib.Core.Path.{◌≡◌, refl}
use mathlib.Core.List.{[], ◌∷◌}
use native.Mathlib.Omega.{arith}
use Rattle.base.specs.Tree.{plain, cycle, done, ◌▸◌}
use Rattle.program.specs.Program.{exit, any, call, Acts}
use Rattle.program.specs.Table as tables
use Rattle.chains.specs.Marks.{outside, rule, known, waiting, waits, number, filled, plain_marks, marks, marks_all, solved}
use Rattle.chains.specs.Chain.{Chain, places, patched}

-- `> . > @R` in a cycle
abbrev body : Acts
body = plain exit ▸ plain any ▸ plain exit ▸ plain (call 5) ▸ done

-- what its words are, and which wait
pub open-words : marks_all body ≡ known 1 ∷ waiting outside ∷ known 4 ∷ known 1 ∷ waiting outside ∷ known 8 ∷ waiting (rule 5) ∷ []
unfolding marks plain_marks
open-words = refl

-- from word 10 on: the exits' words are 14 and 11, newest first, the call's is 16
pub exits-open : places outside 10 (marks_all body) ≡ 14 ∷ 11 ∷ []
unfolding marks plain_marks places waits number
exits-open = refl

pub calls-open : places (rule 5) 10 (marks_all body) ≡ 16 ∷ []
unfolding marks plain_marks places waits number
calls-open = refl

-- at word 0: each names the older one, the oldest 0
pub chained : Chain (1 ∷ 0 ∷ 4 ∷ 1 ∷ 1 ∷ 8 ∷ 0 ∷ []) 4 (4 ∷ 1 ∷ [])
unfolding Chain
chained = (refl, omega arith, omega arith, omega arith, (refl, omega arith, omega arith, omega arith, refl))

-- the cycle's end is word 9: distances 5 and 8
pub jumps : patched (1 ∷ 0 ∷ 4 ∷ 1 ∷ 1 ∷ 8 ∷ 0 ∷ 2 ∷ 8 ∷ []) (λ j. 9 - j) (4 ∷ 1 ∷ []) ≡ 1 ∷ 8 ∷ 4 ∷ 1 ∷ 5 ∷ 8 ∷ 0 ∷ 2 ∷ 8 ∷ []
unfolding patched
jumps = refl

-- and the words are the table's
pub written : solved (λ r. 77) 0 0 (marks (cycle body)) ≡ tables.code (λ r. 77) (cycle body) 0
unfolding tables.opened marks plain_marks filled waits number solved
written = refl
