use Prim.Native.Nat.{ℕ, ◌*◌}
use mathlib.Core.Path.{ap, ◌∙◌}
use native.Mathlib.Omega.{arith}
use lib.ListN.{get_or}
use borrow.Author.Tests.{lt-ltb, le-ltb}
use Rattle.sizes.specs.Heads.{words_of, words_table}
use Rattle.sizes.proofs.words_of.Goals as goal

pub returns-in-0-to-14 : goal.returns-in-0-to-14
unfolding words_of
returns-in-0-to-14 c = simp (lt-ltb c.args.k 15 (omega arith)) (c.from-in-0-to-14.ensures ∙ ap (λ (i : ℕ). get_or words_table i 0) c.from.ensures)

pub returns-in-15-to-63 : goal.returns-in-15-to-63
unfolding words_of
returns-in-15-to-63 c = simp (le-ltb c.args.k 15 (omega arith), lt-ltb c.args.k 64 (omega arith))

pub returns-in-64-to-255 : goal.returns-in-64-to-255
unfolding words_of
returns-in-64-to-255 c = simp (le-ltb c.args.k 15 (omega arith), le-ltb c.args.k 64 (omega arith), lt-ltb c.args.k 256 (omega arith)) (ap (λ (i : ℕ). 2 * i) c.from-in-64-to-255.ensures)

pub returns-in-256-to-511 : goal.returns-in-256-to-511
unfolding words_of
returns-in-256-to-511 c = simp (le-ltb c.args.k 15 (omega arith), le-ltb c.args.k 64 (omega arith), le-ltb c.args.k 256 (omega arith), lt-ltb c.args.k 512 (omega arith))

pub returns-in-512-to-767 : goal.returns-in-512-to-767
unfolding words_of
returns-in-512-to-767 c = simp (le-ltb c.args.k 15 (omega arith), le-ltb c.args.k 64 (omega arith), le-ltb c.args.k 256 (omega arith), le-ltb c.args.k 512 (omega arith), lt-ltb c.args.k 768 (omega arith))

pub returns-in-768-to-1023 : goal.returns-in-768-to-1023
unfolding words_of
returns-in-768-to-1023 c = simp (le-ltb c.args.k 15 (omega arith), le-ltb c.args.k 64 (omega arith), le-ltb c.args.k 256 (omega arith), le-ltb c.args.k 512 (omega arith), le-ltb c.args.k 768 (omega arith), lt-ltb c.args.k 1024 (omega arith))

pub returns-in_default : goal.returns-in_default
unfolding words_of
returns-in_default c = simp (le-ltb c.args.k 15 (omega arith), le-ltb c.args.k 64 (omega arith), le-ltb c.args.k 256 (omega arith), le-ltb c.args.k 512 (omega arith), le-ltb c.args.k 768 (omega arith), le-ltb c.args.k 1024 (omega arith))
