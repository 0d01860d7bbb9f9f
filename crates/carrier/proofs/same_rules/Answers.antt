-- `carrier::same_rules` meets its contract.
use Rattle.carrier.proofs.Spans.{bounds, ordered, rules-apart, rules-meet, spans_fit}
use Rattle.carrier.proofs.same_rules.Goals as goal

pub overflow_sub-n : goal.overflow_sub-n
overflow_sub-n c = (ordered c.args.old.table.now (bounds c.location-p.ensures.0 c.end_of.ensures.0) c.requires.0 c.requires.2).1

pub overflow_sub-m : goal.overflow_sub-m
overflow_sub-m c = (ordered c.args.new.table.now (bounds c.location-q.ensures.0 c.end_of-2.ensures.0) c.requires.1 c.requires.3).1

pub returns-then-m-n : goal.returns-then-m-n
returns-then-m-n c = rules-apart c.args.old.table.now c.args.new.table.now c.args.old.text.now c.args.old.sheet.now c.args.new.text.now c.args.new.sheet.now c.args.i c.args.j (bounds c.location-p.ensures.0 c.end_of.ensures.0) (bounds c.location-q.ensures.0 c.end_of-2.ensures.0) c.if-m-n.true

pub overflow_sub-span : goal.overflow_sub-span
overflow_sub-span c = (ordered c.args.old.table.now (bounds c.location-p.ensures.0 c.end_of.ensures.0) c.requires.0 c.requires.2).0

pub overflow_sub-span-2 : goal.overflow_sub-span-2
overflow_sub-span-2 c = (ordered c.args.new.table.now (bounds c.location-q.ensures.0 c.end_of-2.ensures.0) c.requires.1 c.requires.3).0

pub same_words-requires : goal.same_words-requires
same_words-requires c = spans_fit c.args.old.table.now c.args.new.table.now c.args.old.text.now c.args.old.sheet.now c.args.new.text.now c.args.new.sheet.now c.args.i c.args.j (bounds c.location-p.ensures.0 c.end_of.ensures.0) (bounds c.location-q.ensures.0 c.end_of-2.ensures.0) c.if-m-n.false c.requires.0 c.requires.1 c.requires.2 c.requires.3

pub returns : goal.returns
returns c = rules-meet c.args.old.table.now c.args.new.table.now c.args.old.text.now c.args.old.sheet.now c.args.new.text.now c.args.new.sheet.now c.args.i c.args.j _ (bounds c.location-p.ensures.0 c.end_of.ensures.0) (bounds c.location-q.ensures.0 c.end_of-2.ensures.0) c.if-m-n.false c.same_words.ensures
