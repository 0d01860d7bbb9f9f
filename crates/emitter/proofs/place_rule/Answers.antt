use Rattle.emitter.proofs.Rules.{place-done}
use Rattle.emitter.proofs.place_rule.Goals as goal

-- src/lib.rt:710:1
pub returns : goal.returns
returns c = place-done c.args.slots.now _ c.args.r c.slot.result c.args.out.now _ c.args.at c.put_slot.ensures c.slot.ensures c.patch.ensures
