-- `writer::write_file` meets its contract.
use Rattle.machine.specs.Bytes.{count}
use Rattle.writer.proofs.Answers.{store-40, store-20, store-41, store-0, sized, claim, few, fits}
use Rattle.writer.proofs.write_file.Goals as goal

pub returns-then-not-is_allowed : goal.returns-then-not-is_allowed
returns-then-not-is_allowed c = store-40 c.args.table.now c.args.file.now c.count_words-n.result c.args.verdict c.is_allowed.result c.count_words-n.ensures c.is_allowed.ensures c.if-not-is_allowed.true _ c.clear_words.ensures

pub file_length-total-requires : goal.file_length-total-requires
file_length-total-requires c = few c.args.table.now c.args.file.now c.count_words-n.result c.args.verdict c.is_allowed.result c.count_words-n.ensures c.is_allowed.ensures c.if-not-is_allowed.false

pub returns-then-room-total : goal.returns-then-room-total
unfolding count
returns-then-room-total c = store-20 c.args.table.now c.args.file.now c.count_words-n.result c.args.verdict c.is_allowed.result c.count_words-n.ensures c.is_allowed.ensures c.if-not-is_allowed.false c.file_length-total.result c.file_length-total.ensures c.if-room-total.true _ c.clear_words.ensures

pub returns-then-not-takes : goal.returns-then-not-takes
unfolding count
returns-then-not-takes c = store-41 c.args.table.now c.args.file.now c.count_words-n.result c.args.verdict c.is_allowed.result c.count_words-n.ensures c.is_allowed.ensures c.if-not-is_allowed.false c.file_length-total.result c.file_length-total.ensures c.if-room-total.false c.takes.result c.takes.ensures c.if-not-takes.true _ c.clear_words.ensures

pub put_file-requires : goal.put_file-requires
unfolding count
put_file-requires c = (sized c.args.table.now c.args.file.now c.count_words-n.result c.args.verdict c.is_allowed.result c.count_words-n.ensures c.is_allowed.ensures c.if-not-is_allowed.false, claim c.args.table.now c.args.file.now c.count_words-n.result c.args.verdict c.is_allowed.result c.count_words-n.ensures c.is_allowed.ensures c.if-not-is_allowed.false, fits c.args.table.now c.args.file.now c.count_words-n.result c.args.verdict c.is_allowed.result c.count_words-n.ensures c.is_allowed.ensures c.if-not-is_allowed.false c.file_length-total.result c.file_length-total.ensures c.if-room-total.false _ c.clear_words.ensures)

pub returns : goal.returns
unfolding count
returns c = store-0 c.args.table.now c.args.file.now c.count_words-n.result c.args.verdict c.is_allowed.result c.count_words-n.ensures c.is_allowed.ensures c.if-not-is_allowed.false c.file_length-total.result c.file_length-total.ensures c.if-room-total.false c.takes.result c.takes.ensures c.if-not-takes.false _ _ c.clear_words.ensures c.put_file.ensures
