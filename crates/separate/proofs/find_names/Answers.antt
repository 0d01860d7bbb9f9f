-- `separate::find_names` meets its contract.
use mathlib.Core.Path.{refl, ◌∙◌}
use native.Mathlib.Omega.{arith}
use Rattle.symbols.proofs.Numbered.{fault-some}
use Rattle.separate.proofs.Naming.{finds_past, finds-fault, finds-all}
use Rattle.separate.proofs.find_names.Goals as goal

pub returns-in-Err : goal.returns-in-Err
returns-in-Err c = finds_past c.requires.1 c.declare-d.ensures _ c.in-Err.ensures c.rows-2-1.given (fault-some _) (record { number_is = c.shown.ensures.0; text_is = c.shown.ensures.1; start_is = c.shown.ensures.2; len_is = c.shown.ensures.3 })

pub returns-in-Err-settle : goal.returns-in-Err-settle
returns-in-Err-settle c = finds-fault _ _ _ c.requires.1 c.declare-d.ensures c.in-Ok.ensures c.rows-2-1.given refl c.in-Err-settle.ensures refl (fault-some _) (record { number_is = c.shown-in-Err-settle.ensures.0; text_is = c.shown-in-Err-settle.ensures.1; start_is = omega (arith, c.shown-in-Err-settle.ensures.2); len_is = c.shown-in-Err-settle.ensures.3 })

pub returns-in-Ok-settle : goal.returns-in-Ok-settle
returns-in-Ok-settle c = finds-all _ _ _ c.requires.1 c.declare-d.ensures c.in-Ok.ensures c.rows-2-1.given refl c.in-Ok-settle.ensures refl refl
