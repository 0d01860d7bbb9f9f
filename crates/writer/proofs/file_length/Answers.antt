-- `writer::file_length` meets its contract.
use native.Mathlib.Omega.{arith}
use Rattle.writer.specs.Storing.{file_length}
use Rattle.writer.proofs.file_length.Goals as goal

pub returns : goal.returns
unfolding file_length
returns c = omega (arith, c.div_ceil.ensures)
