-- `scanner::is_symbol` meets its contract.
use mathlib.Core.Path.{refl, sym}
use mathlib.Core.Logic.{inl, inr}
use mathlib.Core.List.{[], ◌∷◌}
use borrow.Author.Tests.{ne_eqb}
use Rattle.scanner.proofs.WordLaws.{one_of}
use Rattle.words.specs.Words.{symbol}
use Rattle.scanner.proofs.is_symbol.Goals as goal

-- `scanner::is_symbol` meets its contract.
pub returns-in-40 : goal.returns-in-40
unfolding symbol
returns-in-40 c = sym (one_of symbol (40 ∷ 91 ∷ 123 ∷ []) _ (refl, (refl, (refl, tt))) c.in-40.is)

pub returns-in-41 : goal.returns-in-41
unfolding symbol
returns-in-41 c = sym (one_of symbol (41 ∷ 93 ∷ 125 ∷ []) _ (refl, (refl, (refl, tt))) c.in-41.is)

pub returns-in-58 : goal.returns-in-58
unfolding symbol
returns-in-58 c = sym (one_of symbol (44 ∷ 58 ∷ 61 ∷ 124 ∷ []) _ (refl, (refl, (refl, (refl, tt)))) c.in-58.is)

pub returns-in-59 : goal.returns-in-59
unfolding symbol
returns-in-59 c = sym (one_of symbol (35 ∷ 42 ∷ 46 ∷ 59 ∷ 63 ∷ 94 ∷ []) _ (refl, (refl, (refl, (refl, (refl, (refl, tt)))))) c.in-59.is)

pub returns-in-64 : goal.returns-in-64
unfolding symbol
returns-in-64 c = sym (one_of symbol (62 ∷ 64 ∷ []) _ (refl, (refl, tt)) c.in-64.is)

pub returns-in_default : goal.returns-in_default
unfolding symbol
returns-in_default c = simp (ne_eqb c.args.b 58 (λ e. c.in_default.in_default-own.rest.0.0.1 (inr (inl e))), ne_eqb c.args.b 59 (λ e. c.in_default.in_default-own.rest.0.1 (inr (inr (inr (inl e))))), ne_eqb c.args.b 44 (λ e. c.in_default.in_default-own.rest.0.0.1 (inl e)), ne_eqb c.args.b 61 (λ e. c.in_default.in_default-own.rest.0.0.1 (inr (inr (inl e)))), ne_eqb c.args.b 40 (λ e. c.in_default.in_default-own.rest.0.0.0.0.1 (inl e)), ne_eqb c.args.b 41 (λ e. c.in_default.in_default-own.rest.0.0.0.1 (inl e)), ne_eqb c.args.b 91 (λ e. c.in_default.in_default-own.rest.0.0.0.0.1 (inr (inl e))), ne_eqb c.args.b 93 (λ e. c.in_default.in_default-own.rest.0.0.0.1 (inr (inl e))), ne_eqb c.args.b 123 (λ e. c.in_default.in_default-own.rest.0.0.0.0.1 (inr (inr e))), ne_eqb c.args.b 125 (λ e. c.in_default.in_default-own.rest.0.0.0.1 (inr (inr e))), ne_eqb c.args.b 124 (λ e. c.in_default.in_default-own.rest.0.0.1 (inr (inr (inr e)))), ne_eqb c.args.b 42 (λ e. c.in_default.in_default-own.rest.0.1 (inr (inl e))), ne_eqb c.args.b 63 (λ e. c.in_default.in_default-own.rest.0.1 (inr (inr (inr (inr (inl e)))))), ne_eqb c.args.b 46 (λ e. c.in_default.in_default-own.rest.0.1 (inr (inr (inl e)))), ne_eqb c.args.b 35 (λ e. c.in_default.in_default-own.rest.0.1 (inl e)), ne_eqb c.args.b 64 (λ e. c.in_default.in_default-own.rest.1 (inr e)), ne_eqb c.args.b 62 (λ e. c.in_default.in_default-own.rest.1 (inl e)), ne_eqb c.args.b 94 (λ e. c.in_default.in_default-own.rest.0.1 (inr (inr (inr (inr (inr e)))))))
