-- `linkpairs::first_pair` meets its contract: the pairs stand behind the common part.
use native.Mathlib.Omega.{arith}
use Rattle.linkpairs.proofs.Standing.{pairs-at, pairs_inside}
use Rattle.machine.specs.Bytes.{words_of}
use Rattle.linkpairs.proofs.first_pair.Goals as goal

pub returns : goal.returns
returns c =
    let a = c.args in
    let w = words_of a.objects.now in
    record {
      inside = omega (arith, c.min.ensures, c.total-end.ensures);
      rest = λ common size o k e. let h = pairs_inside w a.at common size o k e c.number-size.ensures.0 (omega arith) in pairs-at w a.at common size o k e c.number-size.ensures.0 (omega (arith, h, c.min.ensures, c.total-end.ensures));
    }
