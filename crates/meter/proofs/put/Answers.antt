use Rattle.meter.proofs.Store.{put_word, put-cap}
use borrow.Author.Rules.{rules}
use Rattle.meter.proofs.put.Goals as goal

-- src/lib.rt:86:9
pub returns-then-v-lt-CAP : goal.returns-then-v-lt-CAP
returns-then-v-lt-CAP c = put_word _ _ _ c.requires.0 c.requires.1 c.requires.2 c.if-v-lt-CAP.true

-- src/lib.rt:80:1
pub returns : goal.returns
returns c = put-cap _ _ _ c.requires.0 c.requires.1 (search rules)
