-- `declarer::types_fault` meets its contract.
use mathlib.Core.Path.{refl}
use Rattle.std.proofs.lemmas.Result.{err_from_is_err_and}
use Rattle.symbols.proofs.Numbered.{fault-some}
use Rattle.symbols.specs.Rows.{held, decl_at, second_kind}
use lib.ListN.{get_or}
use Prim.Native.Nat.{◌*◌}
use Rattle.declarer.proofs.FaultLaws.{types-go, types-stop}
use Rattle.declarer.proofs.types_fault.Goals as goal

pub returns-in_err-optional_fault : goal.returns-in_err-optional_fault
unfolding decl_at
returns-in_err-optional_fault c = let p = err_from_is_err_and c.from_residual.result c.from_residual.ensures.1 in rw (p.1, p.2) (types-stop (held c.args.text.now c.args.rows.now c.args.n) (held c.args.text.now c.args.rows.now c.args.i) (decl_at c.args.text.now c.args.rows.now c.args.i) (rw (c.number.ensures.0, c.number-2.ensures.0) at (c.in_err-optional_fault.ensures (second_kind (get_or c.args.rows.now (8 * c.args.i) 0)))) (fault-some _))

pub returns : goal.returns
unfolding decl_at
returns c = types-go (held c.args.text.now c.args.rows.now c.args.n) (held c.args.text.now c.args.rows.now c.args.i) (decl_at c.args.text.now c.args.rows.now c.args.i) (rw (c.number.ensures.0, c.number-2.ensures.0) at (c.in_ok-optional_fault.ensures (second_kind (get_or c.args.rows.now (8 * c.args.i) 0)))) refl (rw (c.number-3.ensures.0, c.number-4.ensures.0) at (c.optional_fault-2.ensures 257))
