-- `verdict::decided` meets its contract: the laws of `Table`, `Laid` and `Room`: what is known, the rows' closure and the cycles tell exactly.
use native.Mathlib.Omega.{arith}
use Rattle.verdict.specs.Told.{known_in}
use Rattle.verdict.proofs.Laid.{laid}
use Rattle.verdict.proofs.Room.{room}
use Rattle.verdict.proofs.Table.{answer, sound-known, closed-known}
use Rattle.verdict.proofs.decided.Goals as goal

pub returns : goal.returns
returns c =
    let a = c.args in
    let s = c.settled-k in
    let k = c.settled-k.result in
    let facts = c.settled-k.new.facts in
    record {
      exact = λ prog big h.
          let l = laid a.cells.now a.starts.now a.n prog h in
          let t = c.settled-k.ensures.holds prog h.number l in
          let m = room a.cells.now a.starts.now a.n prog k.passed facts k.count h t c.settled-k.ensures.apart in
          let cl = closed-known prog k.passed facts k.count (λ r b. c.settled-k.ensures.closed prog h.number l (omega (arith, m, big, c.settled-k.auto.facts)) r (omega (arith, h.number))) in
          answer a.cells.now a.starts.now a.n (known_in k.passed facts k.count) c.arrows-looping.result c.itself-again.result c.arrows-looping.new.rows c.closed.new.rows (omega arith) c.arrows-looping.ensures c.closed.ensures c.itself-again.ensures prog h.number l (sound-known prog k.passed facts k.count t) cl;
    }
