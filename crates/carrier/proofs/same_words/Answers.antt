-- `carrier::same_words` meets its contract.
use mathlib.Core.Path.{refl}
use native.Mathlib.Omega.{arith}
use Rattle.machine.specs.Bytes.{words_of}
use Rattle.symbols.specs.Search.{part}
use Rattle.carrier.specs.Held.{calls_held}
use Rattle.carrier.proofs.Loop.{going-first, going-not, going_next, going_end, rule-length, rule-word}
use Rattle.carrier.proofs.same_words.Goals as goal

pub loop-o-init : goal.loop-o-init
loop-o-init c = going-first (calls_held c.args.old.text.now c.args.old.sheet.now c.args.new.text.now c.args.new.sheet.now) (part (words_of c.args.old.table.now) c.args.span.i c.args.span.n) (part (words_of c.args.new.table.now) c.args.span.j c.args.span.n) c.args.span.n (rule-length c.args.old.table.now c.args.span.i c.args.span.n c.requires.0) (rule-length c.args.new.table.now c.args.span.j c.args.span.n c.requires.1)

pub returns-then-not-words_meet : goal.returns-then-not-words_meet
returns-then-not-words_meet c = going-not c.loop-o.invariant (omega (arith, c.loop-o-test.true)) _ _ (rule-word c.args.old.table.now c.args.span.i c.args.span.n _ _ (omega (arith, c.loop-o-test.true)) c.word-w.ensures) (rule-word c.args.new.table.now c.args.span.j c.args.span.n _ _ (omega (arith, c.loop-o-test.true)) c.word-v.ensures) _ c.words_meet.ensures c.if-not-words_meet.true

pub loop-o-preserved : goal.loop-o-preserved
loop-o-preserved c = going_next c.loop-o.invariant (omega (arith, c.loop-o-test.true)) _ _ (rule-word c.args.old.table.now c.args.span.i c.args.span.n _ _ (omega (arith, c.loop-o-test.true)) c.word-w.ensures) (rule-word c.args.new.table.now c.args.span.j c.args.span.n _ _ (omega (arith, c.loop-o-test.true)) c.word-v.ensures) _ _ _ _ _ c.words_meet.ensures c.if-not-words_meet.false c.requires.2 refl refl c.announce.ensures c.after-next.ensures

pub returns : goal.returns
returns c = going_end c.loop-o.invariant (omega (arith, c.loop-o-test.false))
