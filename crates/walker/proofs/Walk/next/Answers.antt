-- `Walk::next` meets its contract.
use mathlib.Core.Path.{refl, sym, ap, ◌∙◌}
use native.Mathlib.Omega.{arith}
use Rattle.machine.specs.Lengths.{lengths, length_of}
use Rattle.walker.specs.Steps.{took_of}
use Rattle.walker.proofs.Steps.{inside-at, step-any, step-return, step-holds}
use Rattle.walker.proofs.Walk.next.Goals as goal

pub length_of-requires : goal.length_of-requires
unfolding lengths
length_of-requires c = (refl, omega arith, omega arith)

pub step_any-requires : goal.step_any-requires
unfolding lengths length_of
step_any-requires c = (omega (arith, c.table_words-n.ensures), omega (arith, c.table_words-n.ensures, inside-at c.args.t.now _ _ (sym c.fetched-ins.ensures ∙ c.in-4.is)), c.length_of.ensures)

pub length_of-requires-in-9 : goal.length_of-requires-in-9
unfolding lengths
length_of-requires-in-9 c = (refl, omega arith, omega arith)

pub step_return-requires : goal.step_return-requires
unfolding lengths length_of
step_return-requires c = (c.table_words-n.ensures, omega (arith, c.table_words-n.ensures, inside-at c.args.t.now _ _ (sym c.fetched-ins.ensures ∙ c.in-9.is)), c.length_of-in-9.ensures, c.requires)

pub next-requires : goal.next-requires
unfolding lengths
next-requires c = (refl, c.requires)

pub took-requires : goal.took-requires
took-requires c =
    let a = c.args in
    rw c.next.ensures (step-holds a.self.returns a.t.now a.tokens.now a.answers.now a.room a.pause a.self.at)

pub returns-in-4 : goal.returns-in-4
returns-in-4 c =
    let a = c.args in
    c.step_any.ensures ∙ ap (took_of a.self) (sym (step-any a.t.now a.self.returns a.tokens.now a.answers.now a.room a.pause a.self.at (sym c.fetched-ins.ensures ∙ c.in-4.is)))

pub returns-in-9 : goal.returns-in-9
returns-in-9 c =
    let a = c.args in
    c.step_return.ensures ∙ ap (took_of a.self) (sym (step-return a.t.now a.self.returns a.tokens.now a.answers.now a.room a.pause a.self.at (sym c.fetched-ins.ensures ∙ c.in-9.is)))

pub returns-in_default : goal.returns-in_default
returns-in_default c = c.took.ensures ∙ ap (took_of c.args.self) c.next.ensures
