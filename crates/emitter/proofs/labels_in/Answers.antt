use native.Mathlib.Omega.{arith}
use borrow.Author.Tests.{lt-ltb, le-ltb}
use Rattle.emitter.specs.Heads.{labels_in}
use Rattle.emitter.proofs.labels_in.Goals as goal

pub returns-in-64-to-255 : goal.returns-in-64-to-255
unfolding labels_in
returns-in-64-to-255 c = (simp (le-ltb c.args.k 64 (omega arith), lt-ltb c.args.k 256 (omega arith)) c.from.ensures, omega (arith, c.from.ensures))

pub returns-in_default : goal.returns-in_default
unfolding labels_in
returns-in_default c = (simp (lt-ltb c.args.k 64 (omega arith)), omega arith)

pub returns-in_default-2 : goal.returns-in_default-2
unfolding labels_in
returns-in_default-2 c = (simp (le-ltb c.args.k 64 (omega arith), le-ltb c.args.k 256 (omega arith)), omega arith)
