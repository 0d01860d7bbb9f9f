-- `loader::copy_words` meets its contract.
use native.Mathlib.Omega.{arith}
use Rattle.loading.specs.File.{table_named}
use Rattle.buffers.proofs.Writes.{upto-start, upto_put}
use Rattle.loader.proofs.Loading.{word-named}
use Rattle.loader.proofs.copy_words.Goals as goal

pub loop-k-init : goal.loop-k-init
loop-k-init c = upto-start (table_named c.args.file.now) c.args.out.now (omega (arith, c.requires.1, c.requires.3))

pub loop-k-preserved : goal.loop-k-preserved
loop-k-preserved c = upto_put (table_named c.args.file.now) c.args.out.now (omega (arith, c.requires.1, c.requires.3)) c.loop-k.k c.word-x.result c.put_word.ensures c.loop-k.invariant (omega (arith, c.loop-k-test.true, c.requires.1)) (word-named c.args.file.now c.args.n c.loop-k.k c.word-x.result c.requires.0 c.requires.1 c.loop-k-test.true c.word-x.ensures)
