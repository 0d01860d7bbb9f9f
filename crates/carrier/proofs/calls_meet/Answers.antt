-- `carrier::calls_meet` meets its contract.
use mathlib.Core.Path.{refl}
use Rattle.carrier.proofs.Answered.{no-rule, a-rule, below}
use Rattle.carrier.proofs.Laws.{calls-nowhere, calls-gone, calls-named}
use Rattle.carrier.proofs.calls_meet.Goals as goal

pub returns-in_default : goal.returns-in_default
returns-in_default c = calls-nowhere c.args.old.text.now c.args.old.sheet.now c.args.new.text.now c.args.new.sheet.now c.args.x c.args.y _ refl (no-rule c.rule_at.ensures c.in_default.is)

pub returns-in_default-rule_at : goal.returns-in_default-rule_at
returns-in_default-rule_at c =
    let a = a-rule c.rule_at.ensures c.in-Some.is in
    calls-gone c.args.old.text.now c.args.old.sheet.now c.args.new.text.now c.args.new.sheet.now c.args.x c.args.y _ _ a.0 (below a.1) refl (no-rule c.rule_at-2.ensures c.in_default-rule_at.is)

pub returns : goal.returns
returns c =
    let a = a-rule c.rule_at.ensures c.in-Some.is in
    let b = a-rule c.rule_at-2.ensures c.in-Some-rule_at.is in
    calls-named c.args.old.text.now c.args.old.sheet.now c.args.new.text.now c.args.new.sheet.now c.args.x c.args.y _ _ _ a.0 (below a.1) b.0 (below b.1) c.same_names.ensures
