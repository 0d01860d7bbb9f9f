-- `linkage::aimed` meets its contract.
use native.Mathlib.Omega.{arith}
use Rattle.linker.proofs.Placing.{place-bound}
use Rattle.linker.specs.Place.{text_at}
use Rattle.machine.specs.Bytes.{words_of}
use Rattle.linkage.proofs.Closing.{by_pair, by-none, by_name}
use Rattle.linkage.proofs.aimed.Goals as goal

-- src/lib.rt:84:9
pub returns-then-mark-ne0 : goal.returns-then-mark-ne0
returns-then-mark-ne0 c = λ low h. by_pair low _ _ _ _ _ _ c.if-mark-ne0.true c.from.ensures (c.low_of.ensures low h)

-- src/lib.rt:87:9
pub returns-then-calls-eq0 : goal.returns-then-calls-eq0
returns-then-calls-eq0 c = λ low h. by-none low _ _ _ _ c.if-mark-ne0.false c.if-calls-eq0.true

-- src/lib.rt:89:5
pub overflow_cast-result : goal.overflow_cast-result
overflow_cast-result c = let a = c.args in omega (arith, c.place_of.ensures, place-bound (words_of a.objects.now) (text_at (words_of a.objects.now) a.calls.at) a.names.now, c.requires.4)

-- src/lib.rt:70:1
pub returns : goal.returns
returns c = λ low h. by_name low _ _ _ _ _ c.if-mark-ne0.false c.if-calls-eq0.false c.place_of.ensures
