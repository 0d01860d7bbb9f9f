use mathlib.Core.Path.{◌≡◌, sym, ap, ◌∙◌}
use native.Mathlib.Omega.{arith}
use lib.ListN.{get_or}
use Rattle.emitter.specs.Heads.{labels_in}
use Rattle.emitter.proofs.Laws.{at_in, at_out}
use Rattle.emitter.proofs.labels_at.Goals as goal

-- src/lib.rt:264:1
pub returns-then-p-j : goal.returns-then-p-j
returns-then-p-j c = let e : c.labels_in-j.result ≡ labels_in (get_or c.args.cells.now c.args.p 0) = c.labels_in-j.ensures.0 ∙ ap labels_in c.cell.ensures in
    (e ∙ sym (at_in c.args.cells.now c.args.p (omega arith)), omega arith, λ h. omega arith)

-- src/lib.rt:264:1
pub returns-else-p-j : goal.returns-else-p-j
returns-else-p-j c = let e : c.labels_in-j.result ≡ labels_in (get_or c.args.cells.now c.args.p 0) = c.labels_in-j.ensures.0 ∙ ap labels_in c.cell.ensures in
    (sym (at_out c.args.cells.now c.args.p (omega arith)), omega arith, λ h. omega arith)
