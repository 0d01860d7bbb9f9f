use mathlib.Core.Logic.{inl, inr}
use Rattle.loader.proofs.Laws.{same-marked}
use Rattle.loader.proofs.Visits.{forward-is, back_is, input-choice-is, choice-is, call-is, on-is}
use Rattle.loader.proofs.Passing.{through-visit, same-through}
use Rattle.loader.proofs.visit_two.Goals as goal

pub returns-in-1 : goal.returns-in-1
returns-in-1 c = through-visit _ _ c.requires.1 _ (same-marked c.mark.ensures (forward-is c.requires.0 c.in-1.is))

pub returns-in-2 : goal.returns-in-2
returns-in-2 c = through-visit _ _ c.requires.1 _ (same-marked c.mark-in-2.ensures (back_is c.requires.0 _ c.in-2.is c.saturating_sub.ensures))

pub returns-in-7 : goal.returns-in-7
returns-in-7 c = elim c.in-7.is [
  | inl e ↦ same-through c.mark_choice.ensures (input-choice-is c.requires.0 e)
  | inr e ↦ same-through c.mark_choice.ensures (choice-is c.requires.0 e)
]

pub returns-in-8 : goal.returns-in-8
returns-in-8 c = through-visit _ _ c.requires.1 _ (same-marked c.mark_two.ensures (call-is c.requires.0 c.in-8.is))

pub returns-in_default : goal.returns-in_default
returns-in_default c =
    let r = c.in_default.in_default-own.rest in
    let choices = r.0.1 in
    through-visit _ _ c.requires.1 _ (same-marked c.mark-in_default.ensures (on-is c.requires.0 r.0.0.0.1 r.0.0.1 (λ e. choices (inl e)) r.1 (λ e. choices (inr e))))
