-- `filter::fold` meets its contract: the checks in their order, then the tokens.
use mathlib.Core.Path.{refl}
use native.Mathlib.Omega.{arith}
use Rattle.base.proofs.Laws.{zeros-at}
use Rattle.filter.proofs.Counting.{tally-start}
use Rattle.filter.proofs.Writes.{too_many, at-crossed, at-doubled, at-missing, too_short, all-written}
use Rattle.machine.specs.Bytes.{count}
use Rattle.filter.proofs.fold.Goals as goal

pub tally-requires : goal.tally-requires
tally-requires c = (refl, c.if-n-gt-MOST_ENTRIES.false, tally-start _ _ _ refl refl (zeros-at 256))

pub returns-then-n-gt-MOST_ENTRIES-clause-told : goal.returns-then-n-gt-MOST_ENTRIES-clause-told
returns-then-n-gt-MOST_ENTRIES-clause-told c = (too_many c.args.s.now c.args.text.now c.args.out.now c.if-n-gt-MOST_ENTRIES.true).told

pub returns-then-n-gt-MOST_ENTRIES-clause-lent : goal.returns-then-n-gt-MOST_ENTRIES-clause-lent
returns-then-n-gt-MOST_ENTRIES-clause-lent c = (too_many c.args.s.now c.args.text.now c.args.out.now c.if-n-gt-MOST_ENTRIES.true).lent

pub returns-in-Some-clause-told : goal.returns-in-Some-clause-told
returns-in-Some-clause-told c = (at-crossed c.args.s.now c.args.text.now c.args.out.now c.if-n-gt-MOST_ENTRIES.false _ c.first_crossed.ensures c.in-Some.entry c.in-Some.is).told

pub returns-in-Some-clause-lent : goal.returns-in-Some-clause-lent
returns-in-Some-clause-lent c = (at-crossed c.args.s.now c.args.text.now c.args.out.now c.if-n-gt-MOST_ENTRIES.false _ c.first_crossed.ensures c.in-Some.entry c.in-Some.is).lent

pub returns-in-Some-lowest_doubled-clause-told : goal.returns-in-Some-lowest_doubled-clause-told
returns-in-Some-lowest_doubled-clause-told c = (at-doubled c.args.s.now c.args.text.now c.args.out.now c.if-n-gt-MOST_ENTRIES.false _ c.first_crossed.ensures c.in_default.is _ _ c.tally.ensures _ c.lowest_doubled.ensures c.in-Some-lowest_doubled.byte c.in-Some-lowest_doubled.is).told

pub returns-in-Some-lowest_doubled-clause-lent : goal.returns-in-Some-lowest_doubled-clause-lent
returns-in-Some-lowest_doubled-clause-lent c = (at-doubled c.args.s.now c.args.text.now c.args.out.now c.if-n-gt-MOST_ENTRIES.false _ c.first_crossed.ensures c.in_default.is _ _ c.tally.ensures _ c.lowest_doubled.ensures c.in-Some-lowest_doubled.byte c.in-Some-lowest_doubled.is).lent

pub returns-in-Some-lowest_missing-clause-told : goal.returns-in-Some-lowest_missing-clause-told
returns-in-Some-lowest_missing-clause-told c = (at-missing c.args.s.now c.args.text.now c.args.out.now c.if-n-gt-MOST_ENTRIES.false _ c.first_crossed.ensures c.in_default.is _ _ c.tally.ensures _ c.lowest_doubled.ensures c.in_default-lowest_doubled.is _ c.lowest_missing.ensures c.in-Some-lowest_missing.byte c.in-Some-lowest_missing.is).told

pub returns-in-Some-lowest_missing-clause-lent : goal.returns-in-Some-lowest_missing-clause-lent
returns-in-Some-lowest_missing-clause-lent c = (at-missing c.args.s.now c.args.text.now c.args.out.now c.if-n-gt-MOST_ENTRIES.false _ c.first_crossed.ensures c.in_default.is _ _ c.tally.ensures _ c.lowest_doubled.ensures c.in_default-lowest_doubled.is _ c.lowest_missing.ensures c.in-Some-lowest_missing.byte c.in-Some-lowest_missing.is).lent

pub returns-then-out-text-clause-told : goal.returns-then-out-text-clause-told
unfolding count
returns-then-out-text-clause-told c = (too_short c.args.s.now c.args.text.now c.args.out.now c.if-n-gt-MOST_ENTRIES.false _ c.first_crossed.ensures c.in_default.is _ _ c.tally.ensures _ c.lowest_doubled.ensures c.in_default-lowest_doubled.is _ c.lowest_missing.ensures c.in_default-lowest_missing.is c.if-out-text.true).told

pub returns-then-out-text-clause-lent : goal.returns-then-out-text-clause-lent
unfolding count
returns-then-out-text-clause-lent c = (too_short c.args.s.now c.args.text.now c.args.out.now c.if-n-gt-MOST_ENTRIES.false _ c.first_crossed.ensures c.in_default.is _ _ c.tally.ensures _ c.lowest_doubled.ensures c.in_default-lowest_doubled.is _ c.lowest_missing.ensures c.in_default-lowest_missing.is c.if-out-text.true).lent

pub returns-clause-told : goal.returns-clause-told
unfolding count
returns-clause-told c = (all-written c.args.s.now c.args.text.now c.args.out.now c.if-n-gt-MOST_ENTRIES.false _ c.first_crossed.ensures c.in_default.is _ _ c.tally.ensures _ c.lowest_doubled.ensures c.in_default-lowest_doubled.is _ c.lowest_missing.ensures c.in_default-lowest_missing.is _ c.if-out-text.false (λ i. omega (arith, c.shared_slice_known-2-1.given i)) c.put_tokens.ensures).told

pub returns-clause-lent : goal.returns-clause-lent
unfolding count
returns-clause-lent c = (all-written c.args.s.now c.args.text.now c.args.out.now c.if-n-gt-MOST_ENTRIES.false _ c.first_crossed.ensures c.in_default.is _ _ c.tally.ensures _ c.lowest_doubled.ensures c.in_default-lowest_doubled.is _ c.lowest_missing.ensures c.in_default-lowest_missing.is _ c.if-out-text.false (λ i. omega (arith, c.shared_slice_known-2-1.given i)) c.put_tokens.ensures).lent
