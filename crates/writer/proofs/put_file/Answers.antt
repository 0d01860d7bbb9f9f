-- `writer::put_file` meets its contract.
use native.Mathlib.Omega.{arith}
use Rattle.buffers.proofs.Writes.{upto-start, upto_put}
use Rattle.loading.specs.File.{file_words}
use Rattle.machine.specs.Bytes.{words_of}
use Rattle.writer.proofs.Places.{room_for}
use Rattle.writer.proofs.put_file.Goals as goal

pub loop-j-init : goal.loop-j-init
loop-j-init c = upto-start (file_words (words_of c.args.table.now) c.args.verdict) c.args.file.now (room_for (words_of c.args.table.now) c.args.verdict c.args.n c.requires.0 c.args.total c.args.file.now c.requires.2)

pub loop-j-preserved : goal.loop-j-preserved
loop-j-preserved c = upto_put (file_words (words_of c.args.table.now) c.args.verdict) c.args.file.now (room_for (words_of c.args.table.now) c.args.verdict c.args.n c.requires.0 c.args.total c.args.file.now c.requires.2) c.loop-j.j c.file_word.result c.put_word.ensures c.loop-j.invariant (omega (arith, c.loop-j-test.true, c.requires.2.words)) c.file_word.ensures
