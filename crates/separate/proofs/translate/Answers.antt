-- `separate::translate` meets its contract.
use mathlib.Core.Path.{refl, sym}
use native.Mathlib.Omega.{arith}
use borrow.Author.Rules.{rules}
use Rattle.separate.proofs.Translating.{front_long, front_of, kept_of, rows_of, some_rule, translates-fault, translates}
use Rattle.symbols.proofs.Indexing.{kept-behind}
use Rattle.separate.proofs.translate.Goals as goal

pub returns-in-Err : goal.returns-in-Err
returns-in-Err c = translates-fault c.in-Err.ensures refl

pub slice_bounds-pairs-end : goal.slice_bounds-pairs-end
slice_bounds-pairs-end c = sym (rows_of c.in-Ok.ensures (front_long refl))

pub pairs-pairs-requires : goal.pairs-pairs-requires
pairs-pairs-requires c = (c.requires.2.inside, c.requires.2.short, c.requires.2.short_part, rows_of c.in-Ok.ensures (front_long refl), search rules, kept_of c.in-Ok.ensures (front_long refl), omega (arith, c.in-Ok.ensures.small))

pub write_object-requires : goal.write_object-requires
write_object-requires c = (c.requires.0, omega (arith, c.requires.1), c.requires.2.inside, omega (arith, c.requires.2.short), kept-behind c.pairs-pairs.ensures.index (kept_of c.in-Ok.ensures (front_long refl)), some_rule c.in-Ok.ensures c.requires.2, omega (arith, c.pairs-pairs.ensures.few, c.pairs-pairs.ensures.size), c.pairs-pairs.ensures.few)

pub returns : goal.returns
returns c = translates _ c.in-Ok.ensures (front_of c.in-Ok.ensures (front_long refl)) refl refl c.pairs-pairs.ensures c.write_object.ensures
