-- `carrier::announce` meets its contract.
use mathlib.Core.Path.{sym, ◌∙◌}
use native.Mathlib.Omega.{arith}
use Rattle.carrier.proofs.Words.{tells-same, tells-table, tells-past}
use Rattle.carrier.specs.Going.{meant}
use Rattle.carrier.proofs.announce.Goals as goal

pub returns-then-t-flags : goal.returns-then-t-flags
returns-then-t-flags c = rw c.from.ensures (tells-table c.args.flags.now c.args.o (meant c.args.next) c.args.w (sym c.announces.ensures ∙ c.if-announces.true) (omega (arith, c.if-t-flags.true, c.from.ensures)))

pub returns-else-t-flags : goal.returns-else-t-flags
returns-else-t-flags c = tells-past c.args.flags.now c.args.o (meant c.args.next) c.args.w (omega (arith, c.if-t-flags.false, c.from.ensures))

pub returns-else-announces : goal.returns-else-announces
returns-else-announces c = tells-same c.args.flags.now c.args.o (meant c.args.next) c.args.w (sym c.announces.ensures ∙ c.if-announces.false)
