-- `carrier::carry_place` meets its contract.
use mathlib.Core.Path.{refl}
use native.Mathlib.Omega.{arith}
use Rattle.carrier.proofs.Answered.{no-rule, a-rule, below, no-place}
use Rattle.carrier.proofs.Placing.{rule-lies, named-low, place-nowhere, place-gone, place-changed, place_kept, place-from, place-small}
use Rattle.carrier.proofs.carry_place.Goals as goal

pub returns-in_err-i : goal.returns-in_err-i
returns-in_err-i c = rw c.from_residual.ensures (no-place (place-nowhere c.args.old.table.now c.args.new.table.now c.args.old.text.now c.args.old.sheet.now c.args.new.text.now c.args.new.sheet.now c.args.l _ refl (no-rule c.rule_at.ensures c.in_err-i.was)))

pub returns-in_err-j : goal.returns-in_err-j
returns-in_err-j c =
    let a = a-rule c.rule_at.ensures c.in_ok-i.was in
    rw c.from_residual-in_err-j.ensures (no-place (place-gone c.args.old.table.now c.args.new.table.now c.args.old.text.now c.args.old.sheet.now c.args.new.text.now c.args.new.sheet.now c.args.l _ _ a.0 (below a.1) refl (no-rule c.rule_named.ensures c.in_err-j.was)))

pub same_rules-requires : goal.same_rules-requires
same_rules-requires c =
    let a = a-rule c.rule_at.ensures c.in_ok-i.was in
    let b = a-rule c.rule_named.ensures c.in_ok-j.was in
    (c.requires.0, c.requires.1, (rule-lies c.args.old.sheet.now c.args.l _ a.0 (below a.1)).low, named-low c.args.old.text.now c.args.old.sheet.now _ c.args.new.text.now c.args.new.sheet.now _ _ b.0 (below b.1))

pub returns-then-not-same_rules : goal.returns-then-not-same_rules
returns-then-not-same_rules c =
    let a = a-rule c.rule_at.ensures c.in_ok-i.was in
    let b = a-rule c.rule_named.ensures c.in_ok-j.was in
    no-place (place-changed c.args.old.table.now c.args.new.table.now c.args.old.text.now c.args.old.sheet.now c.args.new.text.now c.args.new.sheet.now c.args.l _ _ _ a.0 (below a.1) b.0 (below b.1) c.same_rules.ensures c.if-not-same_rules.true)

pub overflow_sub-result : goal.overflow_sub-result
overflow_sub-result c =
    let a = a-rule c.rule_at.ensures c.in_ok-i.was in
    omega (arith, (rule-lies c.args.old.sheet.now c.args.l _ a.0 (below a.1)).begins, c.location-2.ensures.0)

pub overflow_add-result : goal.overflow_add-result
overflow_add-result c =
    let a = a-rule c.rule_at.ensures c.in_ok-i.was in
    omega (arith, (rule-lies c.args.old.sheet.now c.args.l _ a.0 (below a.1)).inside, c.requires.0.small, c.location.ensures.1)

pub returns : goal.returns
returns c =
    let a = a-rule c.rule_at.ensures c.in_ok-i.was in
    let b = a-rule c.rule_named.ensures c.in_ok-j.was in
    let lies = rule-lies c.args.old.sheet.now c.args.l _ a.0 (below a.1) in
    let low = named-low c.args.old.text.now c.args.old.sheet.now _ c.args.new.text.now c.args.new.sheet.now _ _ b.0 (below b.1) in
    record {
      is = place_kept c.args.old.table.now c.args.new.table.now c.args.old.text.now c.args.old.sheet.now c.args.new.text.now c.args.new.sheet.now c.args.l _ _ _ _ _ a.0 (below a.1) b.0 (below b.1) c.same_rules.ensures c.if-not-same_rules.false c.location-2.ensures.0 c.location.ensures.0;
      some = omega (arith, place-from c.requires.1 low c.location.ensures.0);
      low = place-small c.args.old.table.now c.args.new.table.now c.args.old.sheet.now c.args.new.sheet.now c.args.l _ _ _ _ c.requires.0 c.requires.1 lies low c.location.ensures.0;
    }
