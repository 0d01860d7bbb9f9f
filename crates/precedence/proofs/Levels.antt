-- No token is an operator of two levels where none is listed twice.
use mathlib.Core.Bool.{Bool, true, false}
use mathlib.Core.List.{List, [], ◌∷◌}
use mathlib.Core.Option.{none, some}
use mathlib.Core.Path.{◌≡◌, refl, sym, ◌∙◌}
use Prim.Native.Nat.{ℕ, zero, suc, ◌<◌}
use lib.Dec.{eqb}
use native.Mathlib.Omega.{arith}
use borrow.Author.Tests.{eqb-true}
use Rattle.acceptance.proofs.CheckLaws.{Yields}
use Rattle.acceptance.proofs.Listed.{Distinct, AllLevels, sections-levels}
use Rattle.acceptance.proofs.NamesOk.{none-some}
use Rattle.base.proofs.Laws.{neither}
use Rattle.base.specs.Bools.{never}
use Rattle.std.specs.Prelude.{if◌then◌else◌}
use Rattle.names.specs.Declare.{listed, declare_sections}
use Rattle.names.specs.Known.{Names}
use Rattle.precedence.specs.Sums.{emits_of, operator_of as operator_at, Clear, Apart}
use Rattle.program.specs.Made.{Operator, Level, at_level, level_and, levels_from, levels_of}
use Rattle.syntax.specs.Written.{Section, Program}

not_at : (t m : ℕ) (os : List Operator) → listed (some t) os ≡ false → emits_of t (at_level m os) ≡ none
unfolding listed emits_of at_level
not_at t m [] h = refl
not_at t m (o ∷ os) h = let x = neither (eqb t o.token) (listed (some t) os) h in go (eqb o.level m) x.0 (not_at t m os x.1)
  where
    go : (b : Bool) → eqb t o.token ≡ false → emits_of t (at_level m os) ≡ none → emits_of t (if b then o ∷ at_level m os else at_level m os) ≡ none
    go true e k = rw e k
    go false e k = k

two : {A : Type 0} (b : Bool) → b ≡ true → b ≡ false → A
two true e f = never (sym f)
two false e f = never e

-- an operator of one level is none of another
other-level : (t v l m : ℕ) (os : List Operator) → Distinct os → (l ≡ m → ⊥) → emits_of t (at_level l os) ≡ some v → emits_of t (at_level m os) ≡ none
unfolding emits_of at_level Distinct
other-level t v l m [] d ne e = refl
other-level t v l m (o ∷ os) d ne e = go (eqb o.level l) refl (eqb o.level m) refl (eqb t o.token) refl (other-level t v l m os d.1 ne) e
  where
    -- the operator's own token stands in no other level
    own : eqb t o.token ≡ true → (k : ℕ) → emits_of t (at_level k os) ≡ none
    own c k = not_at t k os (rw (eqb-true t o.token c) d.0)

    go : (a : Bool) → eqb o.level l ≡ a → (b : Bool) → eqb o.level m ≡ b → (c : Bool) → eqb t o.token ≡ c
        → (emits_of t (at_level l os) ≡ some v → emits_of t (at_level m os) ≡ none)
        → emits_of t (if a then o ∷ at_level l os else at_level l os) ≡ some v → emits_of t (if b then o ∷ at_level m os else at_level m os) ≡ none
    go true ea true eb c ec f e₁ = absurd (ne (sym (eqb-true o.level l ea) ∙ eqb-true o.level m eb))
    go true ea false eb true ec f e₁ = own ec m
    go true ea false eb false ec f e₁ = f (rw ec at e₁)
    go false ea true eb true ec f e₁ = none-some (sym (own ec l) ∙ e₁)
    go false ea true eb false ec f e₁ = rw ec (f e₁)
    go false ea false eb c ec f e₁ = f e₁

clear-and : (t m : ℕ) (os : List Operator) (ls : List Level) → emits_of t os ≡ none → Clear ls (some t) → Clear (level_and os ls) (some t)
unfolding level_and Clear operator_at
clear-and t m [] ls e c = c
clear-and t m (o ∷ os) ls e c = (e, c)

clear-from : (t v l n m : ℕ) (os : List Operator) → Distinct os → l < m → emits_of t (at_level l os) ≡ some v → Clear (levels_from n m os) (some t)
unfolding levels_from Clear
clear-from t v l zero m os d h e = tt
clear-from t v l (suc n) m os d h e =
    clear-and t m (at_level m os) (levels_from n (suc m) os) (other-level t v l m os d (λ q. omega (arith, q)) e) (clear-from t v l n (suc m) os d (omega arith) e)

apart-and : (os : List Operator) (ls : List Level) → ((t v : ℕ) → emits_of t os ≡ some v → Clear ls (some t)) → Apart ls → Apart (level_and os ls)
unfolding level_and Apart
apart-and [] ls h k = k
apart-and (o ∷ os) ls h k = (h, k)

apart_from : (n l : ℕ) (os : List Operator) → Distinct os → Apart (levels_from n l os)
unfolding levels_from Apart
apart_from zero l os d = tt
apart_from (suc n) l os d =
    apart-and (at_level l os) (levels_from n (suc l) os) (λ t v e. clear-from t v l n (suc l) os d (omega arith) e) (apart_from n (suc l) os d)

pub apart-levels : (os : List Operator) → Distinct os → Apart (levels_of os)
unfolding levels_of
apart-levels os d = apart_from 15 1 os d

-- every section that is declared

abbrev pub AllApart : Names → Type 0
AllApart n = AllLevels Apart n

pub sections-apart : (p : Program) (ss : List Section) (n : Names) → AllApart n → Yields AllApart (declare_sections p ss n)
sections-apart p ss n k = sections-levels Apart apart-levels p ss n k
