-- `writer::record_word` meets its contract.
use native.Mathlib.Omega.{arith}
use Rattle.writer.proofs.Places.{sized_inside, sized-mark, sized-count, sized-word}
use Rattle.writer.proofs.record_word.Goals as goal

pub overflow_sub-n : goal.overflow_sub-n
overflow_sub-n c = omega (arith, sized_inside c.requires.0 c.args.j c.requires.1)

pub returns-in-0 : goal.returns-in-0
returns-in-0 c = sized-mark c.requires.0 c.args.j c.requires.1 c.in-0.is

pub returns-in-1 : goal.returns-in-1
returns-in-1 c = sized-count c.requires.0 c.args.j c.requires.1 c.record_count.result c.in-1.is c.record_count.ensures

pub returns-in_default : goal.returns-in_default
returns-in_default c =
    let r = c.in_default.in_default-own.rest in
    sized-word c.requires.0 c.args.j c.requires.1 c.word.result r.0.1 r.1 c.word.ensures
