-- `frontend::resolve_rules` meets its contract.
use Rattle.std.proofs.lemmas.Result.{err_from_is_err_and}
use Rattle.symbols.proofs.Indexing.{kept-behind}
use Rattle.symbols.proofs.Numbered.{fault-some}
use Rattle.frontend.proofs.Rests.{rules-wrong, limit-passed, rules_made}
use native.Mathlib.Omega.{arith}
use mathlib.Core.Path.{refl}
use Rattle.frontend.proofs.resolve_rules.Goals as goal

pub build-requires : goal.build-requires
build-requires c = (c.requires.4, c.requires.3, kept-behind c.pairs-q.ensures.index c.requires.2, omega (arith, c.requires.6), omega (arith, c.requires.7), omega (arith, c.requires.5))

pub make-m-requires : goal.make-m-requires
make-m-requires c = (c.requires.0, kept-behind c.pairs-q.ensures.index c.requires.2, omega (arith, c.requires.5), omega (arith, c.filled.ensures.low, c.requires.5), omega (arith, c.requires.6), omega (arith, c.requires.7))

pub shape_of-rows : goal.shape_of-rows
shape_of-rows c = c.pairs-q.ensures.index.size

pub returns-in_err-b : goal.returns-in_err-b
returns-in_err-b c = let p = err_from_is_err_and c.from_residual.result c.from_residual.ensures.1 in rw (p.1, p.2) (record { size = c.pairs-q.ensures.index.size; rules = λ p names known. rules-wrong known c.pairs-q.ensures c.in_err-b.ensures (fault-some _) refl refl refl })

pub returns-in_err-q : goal.returns-in_err-q
returns-in_err-q c = let p = err_from_is_err_and c.from_residual-in_err-q.result c.from_residual-in_err-q.ensures.1 in rw (p.1, p.2) (record { size = c.pairs-q.ensures.index.size; rules = λ p names known. limit-passed known c.pairs-q.ensures c.in_ok-b.ensures refl c.in_err-q.was })

pub returns : goal.returns
returns c = record { size = c.pairs-q.ensures.index.size; rules = λ p names known. rules_made known c.pairs-q.ensures c.in_ok-b.ensures c.make-m.ensures c.filled.ensures.same (omega (arith, c.requires.5)) refl (rw c.in_ok-q.was refl) c.requires.4 c.requires.2 }
