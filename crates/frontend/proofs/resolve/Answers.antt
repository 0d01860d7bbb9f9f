-- `frontend::resolve` meets its contract.
use Rattle.std.proofs.lemmas.Result.{err_from_is_err_and}
use mathlib.Core.Path.{refl, ◌∙◌}
use Rattle.frontend.proofs.Passes.{declared_wrong, declared_good}
use Rattle.symbols.proofs.Numbered.{fault-some}
use native.Mathlib.Omega.{arith}
use Rattle.frontend.proofs.resolve.Goals as goal

pub resolve_rules-requires : goal.resolve_rules-requires
resolve_rules-requires c = (c.requires.0, omega (arith, c.requires, c.collect-c.ensures.size, c.index.ensures.rows.size), c.index.ensures.index, c.collect-c.ensures.early, c.collect-c.ensures.inside, c.requires.2, c.requires.3, c.requires.4)

pub shape_of-rows : goal.shape_of-rows
shape_of-rows c = c.resolve_rules.ensures.size ∙ c.index.ensures.rows.size ∙ c.collect-c.ensures.size

pub returns-in_err-check_declarations : goal.returns-in_err-check_declarations
returns-in_err-check_declarations c = let p = err_from_is_err_and c.from_residual.result c.from_residual.ensures.1 in rw (p.1, p.2) (λ p ws e. declared_wrong _ p ws e _ c.collect-c.ensures (omega (arith, c.requires)) c.index.ensures.held c.in_err-check_declarations.ensures (fault-some _) refl refl refl)

pub returns : goal.returns
returns c = λ p ws e. declared_good _ p ws e _ c.collect-c.ensures (omega (arith, c.requires)) c.index.ensures.held c.in_ok-check_declarations.ensures refl c.resolve_rules.ensures
