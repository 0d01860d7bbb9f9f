-- An example by computing: the cells of a program, what is asked of them, and the bytes that the emitter makes of them.
use Prim.Native.Nat.{ℕ, zero, suc, ◌<◌}
use mathlib.Core.Path.{◌≡◌, refl}
use mathlib.Core.Bool.{false}
use mathlib.Core.List.{List, [], ◌∷◌}
use native.Mathlib.Omega.{arith}
use lib.ListN.{get_or}
use Rattle.base.specs.Tree.{plain, cycle, choice, done, ◌▸◌, nil, alternative, absent}
use Rattle.program.specs.Program.{exit, by_token, Rule, rule_of, body_of}
use Rattle.program.specs.Accepted.{Oks, OkPlain, OkSelector, NeedsLabel, Labelled, Values}
use Rattle.program.specs.Table as tables
use Rattle.cells.specs.Cells as encoding
use Rattle.machine.specs.Bytes as machine
use Rattle.emitter.specs.Emitted.{FewLabelsAll, sort_of, CellsOf, fits, emitted_words, emitted_bytes}

-- `( [ 7: > ] )`: an input choice in a cycle
abbrev example : List Rule
example = record { valued = false; body = cycle (choice by_token (alternative (7 ∷ []) (plain exit ▸ done) nil) absent ▸ done) ▸ done } ∷ []

abbrev cells : List ℕ
cells = 2 ∷ 7 ∷ 65 ∷ 7 ∷ 1 ∷ 0 ∷ 14 ∷ 0 ∷ 0 ∷ []

sort : (r : ℕ) → r < 1 → get_or (0 ∷ []) r 0 ≡ sort_of (rule_of example r).valued
unfolding sort_of rule_of
sort zero h = refl
sort (suc r) h = absurd (omega arith)

in_order : (r : ℕ) → r < 1 → Oks example (body_of example r) (rule_of example r).valued false
unfolding Oks OkPlain OkSelector NeedsLabel Labelled Values body_of rule_of
in_order zero h = (((tt, ((omega arith, tt), (refl, tt), tt), tt, tt), tt), tt)
in_order (suc r) h = absurd (omega arith)

labels : (r : ℕ) → r < 1 → FewLabelsAll (body_of example r)
unfolding FewLabelsAll body_of rule_of
labels zero h = ((((omega arith, omega arith, (tt, tt), tt), tt), tt), tt)
labels (suc r) h = absurd (omega arith)

-- what is asked can be met
pub asked : CellsOf cells (0 ∷ []) 1 example
unfolding encoding.opened
asked = record { rest = []; same = refl; short = omega arith; count = refl; few = omega arith; sort = sort; in_order = in_order; labels = labels }

-- 18 words and an odd byte
pub made : emitted_bytes example (1 ∷ 1 ∷ 1 ∷ 1 ∷ 1 ∷ 1 ∷ 1 ∷ 1 ∷ 1 ∷ 1 ∷ 1 ∷ 1 ∷ 1 ∷ 1 ∷ 1 ∷ 1 ∷ 1 ∷ 1 ∷ 1 ∷ 1 ∷ 1 ∷ 1 ∷ 1 ∷ 1 ∷ 1 ∷ 1 ∷ 1 ∷ 1 ∷ 1 ∷ 1 ∷ 1 ∷ 1 ∷ 1 ∷ 1 ∷ 1 ∷ 1 ∷ 9 ∷ [])
    ≡ 0 ∷ 7 ∷ 0 ∷ 5 ∷ 0 ∷ 1 ∷ 0 ∷ 12 ∷ 0 ∷ 1 ∷ 0 ∷ 8 ∷ 0 ∷ 1 ∷ 0 ∷ 7 ∷ 0 ∷ 6 ∷ 0 ∷ 3 ∷ 0 ∷ 7 ∷ 0 ∷ 2 ∷ 0 ∷ 10 ∷ 0 ∷ 2 ∷ 0 ∷ 14 ∷ 0 ∷ 9 ∷ 0 ∷ 0 ∷ 0 ∷ 0 ∷ 9 ∷ []
unfolding emitted_bytes emitted_words fits machine.opened tables.opened
made = refl
