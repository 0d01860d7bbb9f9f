-- What is told of a text's figure: Q, and the number of the check.
use Rattle.std.specs.Prelude.{true, false, List, ℕ}
use Rattle.std.proofs.Math.Option.{Option, none, some}
use Rattle.processor.specs.Process.{Understood, meaning, faulty, understood, Answer, accepted, refused, process}
use Rattle.program.specs.Program.{Rule}
use Rattle.figure.specs.Count.{figure}

pub record Told : Type 0 where
  -- Q, 0 where there is none
  pub figure : ℕ
  -- 47, or 0
  pub number : ℕ

-- neither Q nor 47
unfoldable pub untold : Told
untold = record { figure = 0; number = 0 }

-- "47 for Q above 4,294,967,295"
unfoldable pub told : Option ℕ → Told
told (some q) = record { figure = q; number = 0 }
told none = record { figure = 0; number = 47 }

-- "For a finishing program let Q be ..": by the processor's answer
unfoldable pub told_if : Answer → List Rule → Told
told_if (accepted words true) prog = told (figure prog)
told_if (accepted words false) prog = untold
told_if (refused number at) prog = untold

unfoldable pub told_for : Answer → Understood → Told
told_for a (meaning prog) = told_if a prog
told_for a (faulty n w) = untold

-- of a text, with a lent buffer of so many words; "the table is still given": the answer is `process`'s all the same
unfoldable pub figure_of : List ℕ → ℕ → Told
figure_of text room = told_for (process text room) (understood text)

-- all of this file computes where this is unfolded
unfoldable pub opened : Unit {0}
unfolding untold told told_if told_for figure_of
opened = tt
