-- `linkpairs::section_at` meets its contract: two words behind the pair's place, where there is one.
use native.Mathlib.Omega.{arith}
use Rattle.linkpairs.proofs.Standing.{pair_inside}
use Rattle.machine.specs.Bytes.{words_of}
use Rattle.linkpairs.proofs.section_at.Goals as goal

pub returns : goal.returns
returns c = let a = c.args in record { inside = omega (arith, c.min.ensures, c.total.ensures); place = λ u x. let h = pair_inside (words_of a.objects.now) a.p u x in omega (arith, h, c.min.ensures, c.saturating_add.ensures, c.total.ensures) }
