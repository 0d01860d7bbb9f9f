-- `admission::load_admitted` meets its contract.
use mathlib.Core.Path.{ap, ◌∙◌}
use native.Mathlib.Omega.{arith}
use Prim.Native.Nat.{◌*◌}
use Rattle.std.specs.Prelude.{Ok, Err}
use Rattle.std.proofs.lemmas.Result.{err_from_is_err_and}
use Rattle.loader.proofs.Loading.{part_length}
use Rattle.admission.specs.Told.{told}
use Rattle.admission.proofs.Loaded.{front, told-refused, told-loaded}
use Rattle.admission.proofs.load_admitted.Goals as goal

pub returns-in_err-loaded-clause-told : goal.returns-in_err-loaded-clause-told
returns-in_err-loaded-clause-told c =
    let x = err_from_is_err_and _ c.from_residual.ensures.1 in
    ap told (x.1 ∙ ap Err x.2) ∙ told-refused c.args.file.now c.args.table.now _ _ c.load.ensures c.args.set.now _ c.in_err-loaded.was

pub overflow_mul-loaded : goal.overflow_mul-loaded
overflow_mul-loaded c = omega (arith, (front c.args.file.now c.args.table.now _ _ c.load.ensures c.in_ok-loaded.loaded c.in_ok-loaded.was).small)

pub slice_bounds-admits-end : goal.slice_bounds-admits-end
slice_bounds-admits-end c = (front c.args.file.now c.args.table.now _ _ c.load.ensures c.in_ok-loaded.loaded c.in_ok-loaded.was).inside

pub slice_bounds-admits-end-2 : goal.slice_bounds-admits-end-2
slice_bounds-admits-end-2 c = part_length (2 * c.in_ok-loaded.loaded.words) c.load.ensures.lent (front c.args.file.now c.args.table.now _ _ c.load.ensures c.in_ok-loaded.loaded c.in_ok-loaded.was).inside

pub returns-in-Ok-clause-told : goal.returns-in-Ok-clause-told
returns-in-Ok-clause-told c = told-loaded c.args.file.now c.args.table.now _ c.args.set.now c.in_ok-loaded.loaded (Ok c.in-Ok.field-0) (front c.args.file.now c.args.table.now _ _ c.load.ensures c.in_ok-loaded.loaded c.in_ok-loaded.was) c.in-Ok.ensures

pub returns-in-Err-clause-told : goal.returns-in-Err-clause-told
returns-in-Err-clause-told c = told-loaded c.args.file.now c.args.table.now _ c.args.set.now c.in_ok-loaded.loaded (Err c.in-Err.denial) (front c.args.file.now c.args.table.now _ _ c.load.ensures c.in_ok-loaded.loaded c.in_ok-loaded.was) c.in-Err.ensures
