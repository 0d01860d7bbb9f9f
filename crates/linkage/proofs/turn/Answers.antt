-- `linkage::turn` meets its contract.
use mathlib.Core.Path.{refl}
use native.Mathlib.Omega.{arith}
use Rattle.linker.proofs.Placing.{end-behind}
use Rattle.machine.specs.Bytes.{words_of}
use Rattle.linkage.proofs.Closing.{turned-first, turned-call, turned-copy}
use Rattle.linkage.proofs.turn.Goals as goal

pub returns-then-spot-eq0 : goal.returns-then-spot-eq0
returns-then-spot-eq0 c = record { end = refl; turned = λ low h. turned-first low _ _ _ _ _ c.if-spot-eq0.true c.count_behind.ensures }

pub aimed-cell-requires : goal.aimed-cell-requires
aimed-cell-requires c = let a = c.args in let g = c.requires in (g.0, g.1, g.2, omega (arith, g.3, end-behind (words_of a.objects.now) a.spot.calls.at a.spot.calls.left), g.4)

pub returns-then-is_call : goal.returns-then-is_call
returns-then-is_call c = record { end = c.next_names-calls.ensures.end; turned = λ low h. turned-call low _ _ _ _ _ c.if-spot-eq0.false c.is_call.ensures c.if-is_call.true (c.aimed-cell.ensures low h) c.next_names-calls.ensures }

pub returns-else-is_call : goal.returns-else-is_call
returns-else-is_call c = record { end = refl; turned = λ low h. turned-copy low _ _ _ _ c.if-spot-eq0.false c.is_call.ensures c.if-is_call.false }
