-- `reader::is_closing` meets its contract.
use Rattle.std.proofs.Common.{refl, sym}
use native.Mathlib.Omega.{arith}
use borrow.Author.Tests.{ne_eqb}
use Rattle.reader.proofs.Laws.{closes-either, closes-both}
use Rattle.syntax.specs.Actions.{closes}
use Rattle.reader.proofs.is_closing.Goals as goal

pub returns-in_default : goal.returns-in_default
unfolding closes
returns-in_default c = rw (ne_eqb c.args.kind 59 (λ e. grind arith), ne_eqb c.args.kind 125 (λ e. grind arith), ne_eqb c.args.kind 93 (λ e. grind arith), ne_eqb c.args.kind 124 (λ e. grind arith)) refl

pub returns-in_default-2 : goal.returns-in_default-2
unfolding closes
returns-in_default-2 c = rw (ne_eqb c.args.kind 59 (λ e. grind arith), ne_eqb c.args.kind 125 (λ e. grind arith), ne_eqb c.args.kind 93 (λ e. grind arith), ne_eqb c.args.kind 124 (λ e. grind arith)) refl

pub returns-in-59 : goal.returns-in-59
returns-in-59 c = sym (closes-either c.args.kind c.in-59.is)

pub returns-in-59-2 : goal.returns-in-59-2
returns-in-59-2 c = sym (closes-both c.args.kind (grind arith) (grind arith))
