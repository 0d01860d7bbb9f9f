-- Finishing in the form that a bound on steps uses: no quiet cycle in a tree, and calls one after the other.
use mathlib.Core.List.{List}
use Prim.Native.Nat.{ℕ, ◌<◌}
use lib.ListN.{length}
use Rattle.base.specs.Tree.{plain, cycle, choice, done, ◌▸◌, nil, alternative, absent, otherwise}
use Rattle.program.specs.Program.{Selector, Act, Acts, Alts, Other, Rule, body_of}
use Rattle.finishing.specs.Finishing.{to_end, to_call, Paths, Loop, loop_here, loop_in, loop_labelled, loop_otherwise, Loops, loops_here, loops_later, LoopsSome, loops_this, loops_that, Comes, directly, through, Finishing}

module _ (prog : List Rule) where
  -- no cycle in it has a quiet path from its start to its end; the tree says it part by part
  unfoldable mutual
    pub Calm : Act → Type 0
    Calm (plain p) = Unit {0}
    Calm (cycle b) = (¬ (Paths prog to_end b)) × Calms b
    Calm (choice s q o) = CalmAlts q × CalmOther o

    pub Calms : Acts → Type 0
    Calms done = Unit {0}
    Calms (a ▸ q) = Calm a × Calms q

    pub CalmAlts : Alts → Type 0
    CalmAlts nil = Unit {0}
    CalmAlts (alternative ls b q) = Calms b × CalmAlts q

    pub CalmOther : Other → Type 0
    CalmOther absent = Unit {0}
    CalmOther (otherwise b) = Calms b

  mutual
    unfolding Calm

    calm : (a : Act) → (Loop prog a → ⊥) → Calm a
    calm (plain p) n = tt
    calm (cycle b) n = ((λ p. n (loop_here p)), calms b (λ l. n (loop_in l)))
    calm (choice s q o) n = (calm-alts q (λ l. n (loop_labelled l)), calm-other o s q n)

    pub calms : (q : Acts) → (Loops prog q → ⊥) → Calms q
    calms done n = tt
    calms (a ▸ q) n = (calm a (λ l. n (loops_here l)), calms q (λ l. n (loops_later l)))

    calm-alts : (q : Alts) → (LoopsSome prog q → ⊥) → CalmAlts q
    calm-alts nil n = tt
    calm-alts (alternative ls b q) n = (calms b (λ l. n (loops_this l)), calm-alts q (λ l. n (loops_that l)))

    calm-other : (o : Other) (s : Selector) (q : Alts) → (Loop prog (choice s q o) → ⊥) → CalmOther o
    calm-other absent s q n = tt
    calm-other (otherwise b) s q n = calms b (λ l. n (loop_otherwise l))

  -- `Comes` as a chain, so that an induction takes off one call at a time
  pub data Reach : ℕ → ℕ → Type 0 where
    reach-one : {r s : ℕ} → r < length prog → Paths prog (to_call s) (body_of prog r) → Reach r s
    reach-more : {r s t : ℕ} → r < length prog → Paths prog (to_call s) (body_of prog r) → Reach s t → Reach r t

  pub comes : {r s : ℕ} → Reach r s → Comes prog r s
  comes (reach-one l p) = directly l p
  comes (reach-more l p x) = through (directly l p) (comes x)

  pub bound-form : Finishing prog → ((r : ℕ) → r < length prog → Calms (body_of prog r)) × ((r : ℕ) → Reach r r → ⊥)
  bound-form fin = ((λ r l. calms (body_of prog r) (fin.cycles r l)), λ r x. fin.rules r (comes x))
