-- `builder::read_type` meets its contract.
use Rattle.symbols.proofs.Numbered.{fault-some}
use Rattle.resolver.proofs.Looking.{found-row, not-found}
use mathlib.Core.Path.{refl}
use Rattle.builder.proofs.Heading.{type-none, type-fail, type-more}
use Rattle.builder.proofs.read_type.Goals as goal

pub returns-then-g-ne-TWICE : goal.returns-then-g-ne-TWICE
returns-then-g-ne-TWICE c = type-none c.requires.0 c.look-g.ensures c.if-g-ne-TWICE.true refl refl refl

pub returns-in-Err : goal.returns-in-Err
returns-in-Err c = type-fail c.requires.0 c.look-g.ensures c.if-g-ne-TWICE.false c.look-w.ensures (λ kind. not-found (c.in-Err.ensures.looks kind)) (fault-some c.in-Err.fault) c.refused.ensures.fault c.refused.ensures.at c.refused.ensures.len

pub returns-in-Ok : goal.returns-in-Ok
returns-in-Ok c = type-more c.requires.0 c.look-g.ensures c.if-g-ne-TWICE.false c.look-w.ensures (λ kind. found-row (c.in-Ok.ensures.looks kind)) refl c.look-c.ensures refl refl refl
