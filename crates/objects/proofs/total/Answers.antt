-- `objects::total` meets its contract: the words are half the bytes.
use mathlib.Core.Path.{sym, ◌∙◌}
use native.Mathlib.Omega.{arith}
use Rattle.machine.proofs.Bytes.{length-words_of}
use Rattle.machine.specs.Bytes.{count}
use Rattle.objects.proofs.total.Goals as goal

pub returns : goal.returns
unfolding count
returns c = (c.count_words.ensures ∙ sym (length-words_of c.args.objects.now), omega arith)
