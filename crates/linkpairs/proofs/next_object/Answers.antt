-- `linkpairs::next_object` meets its contract: as many words further on as the object tells.
use native.Mathlib.Omega.{arith}
use mathlib.Core.Path.{◌≡◌}
use Prim.Native.Nat.{◌+◌, ◌*◌}
use lib.ListN.{get_or}
use Rattle.linkpairs.proofs.Standing.{object-inside, behind-object}
use Rattle.machine.specs.Bytes.{words_of}
use Rattle.linkpairs.proofs.next_object.Goals as goal

pub returns : goal.returns
returns c =
    let a = c.args in
    let w = words_of a.objects.now in
    let m = 3 + 65536 * c.number.result + c.number-2.result in
    record {
      past = omega (arith, c.min.ensures, c.total-end.ensures);
      inside = omega (arith, c.min.ensures, c.total-end.ensures);
      rest = λ common size o k e.
          let f : m ≡ 3 + 65536 * get_or w (a.at + 1) 0 + get_or w (a.at + 2) 0 = omega (arith, c.number.ensures.0, c.number-2.ensures.0) in
          let h = object-inside w a.at common size o k e m f (omega arith) in
          behind-object w a.at common size o k e m f (omega (arith, h, c.min.ensures, c.total-end.ensures));
    }
