-- `writer::file_word` meets its contract.
use Rattle.writer.proofs.Places.{header_at, record-at, record-inside}
use Rattle.writer.proofs.file_word.Goals as goal

pub returns-then-j-lt-RECORDS_AT : goal.returns-then-j-lt-RECORDS_AT
returns-then-j-lt-RECORDS_AT c = header_at _ c.args.verdict c.args.n c.requires.0 c.header_word.result c.args.j c.if-j-lt-RECORDS_AT.true c.header_word.ensures

pub record_word-requires : goal.record_word-requires
record_word-requires c = (c.requires.0, record-inside _ c.args.verdict c.args.n c.requires.0 c.args.j c.if-j-lt-RECORDS_AT.false c.requires.2)

pub returns-else-j-lt-RECORDS_AT : goal.returns-else-j-lt-RECORDS_AT
returns-else-j-lt-RECORDS_AT c = record-at _ c.args.verdict c.args.n c.requires.0 c.record_word.result c.args.j c.if-j-lt-RECORDS_AT.false c.record_word.ensures
