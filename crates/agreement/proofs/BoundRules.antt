-- In a finishing program a call is over, reads or is back within a number of steps that the program gives.
use mathlib.Core.List.{List, [], ◌∷◌, Memᴰ}
use mathlib.Core.Path.{◌≡◌, sym}
use native.Mathlib.Decide.{ℕ_discrete}
use native.Mathlib.Omega.{arith}
use Prim.Native.Nat.{ℕ, zero, suc, ◌+◌, ◌≤◌, ◌<◌}
use lib.ListN.{length}
use Rattle.agreement.proofs.Bound.{over-nowhere, weighs, ends-over, ends-step, ends_more, Tame, Tames, TameAlts, TameOther, BackOf, RuleEnds, Goal, acts-ends}
use Rattle.base.specs.Tree.{plain, cycle, choice, done, ◌▸◌, nil, alternative, absent, otherwise}
use Rattle.finishing.proofs.Bridge.{Calm, Calms, CalmAlts, CalmOther, Reach, reach-one, reach-more, bound-form}
use Rattle.finishing.specs.Finishing.{Way, to_end, to_exit, to_back, to_give, to_call, by_end, by_back, Paths, gives, passed, Finishing}
use Rattle.ownwalk.specs.OwnWalk.{Pending, left, own}
use Rattle.program.proofs.AcceptedWords.{accepted-small}
use Rattle.program.proofs.Bounds.{Small, Smalls, SmallAlts, SmallOther, SmallProgram, SmallRule}
use Rattle.program.specs.Accepted.{Accepted}
use Rattle.program.specs.Program.{Act, Acts, Alts, Other, Rule, rule_of, body_of}

-- Different numbers below n are at most n

data Distinct (n : ℕ) : List ℕ → Type 0 where
  distinct_nil : Distinct n []
  distinct_cons : {r : ℕ} {vs : List ℕ} → r < n → ¬ (Memᴰ r vs) → Distinct n vs → Distinct n (r ∷ vs)

distinct-down : {n : ℕ} {vs : List ℕ} → ¬ (Memᴰ n vs) → Distinct (suc n) vs → Distinct n vs
distinct-down h distinct_nil = distinct_nil
distinct-down {n} h (distinct_cons {r = r} {vs = vs} l m d) = distinct_cons (below (ℕ_discrete r n)) m (distinct-down (λ i. h (Memᴰ.tail i)) d)
  where
    below : Dec (r ≡ n) → r < n
    below (yes e) = absurd (h (Memᴰ.head (sym e)))
    below (no e) = omega arith

-- all of vs but n
record Rest (n : ℕ) (vs : List ℕ) : Type 0 where
  numbers : List ℕ
  distinct : Distinct n numbers
  one_less : length vs ≤ suc (length numbers)
  of-them : (y : ℕ) → Memᴰ y numbers → Memᴰ y vs

rest : {n : ℕ} {vs : List ℕ} → Distinct (suc n) vs → Rest n vs
rest distinct_nil = record { numbers = []; distinct = distinct_nil; one_less = omega arith; of-them = λ y m. m }
rest {n} (distinct_cons {r = r} {vs = vs} l m d) = go (ℕ_discrete r n) (rest d)
  where
    kept : {ws : List ℕ} (y : ℕ) → Memᴰ y (r ∷ ws) → (Memᴰ y ws → Memᴰ y vs) → Memᴰ y (r ∷ vs)
    kept y (Memᴰ.head p) g = Memᴰ.head p
    kept y (Memᴰ.tail i) g = Memᴰ.tail (g i)

    go : Dec (r ≡ n) → Rest n vs → Rest n (r ∷ vs)
    go (yes e) h = record { numbers = vs; distinct = distinct-down (rw e at m) d; one_less = omega arith; of-them = λ y i. Memᴰ.tail i }
    go (no e) h =
        let lt : r < n = omega arith in
        record {
          numbers = r ∷ h.numbers;
          distinct = distinct_cons lt (λ i. m (h.of-them r i)) h.distinct;
          one_less = omega (arith, h.one_less);
          of-them = λ y i. kept y i (h.of-them y);
        }

pigeonhole : (n : ℕ) (vs : List ℕ) → Distinct n vs → length vs ≤ n
pigeonhole zero vs distinct_nil = omega arith
pigeonhole zero vs (distinct_cons l m d) = absurd (omega arith)
pigeonhole (suc n) vs d = let h = rest d in omega (arith, h.one_less, pigeonhole n h.numbers h.distinct)

-- What a call takes

-- the weight of all rules
unfoldable pub total : ℕ → List Rule → ℕ
total c [] = 0
total c (b ∷ bs) = weighs c b.body + total c bs

pub total-le : (c : ℕ) (bs : List Rule) (r : ℕ) → weighs c (body_of bs r) ≤ total c bs
unfolding total weighs body_of rule_of
total-le c [] r = omega arith
total-le c (b ∷ bs) zero = omega arith
total-le c (b ∷ bs) (suc r) = omega (arith, total-le c bs r)

-- what a call takes at most, where i rules are still to be met
unfoldable pub costs : List Rule → ℕ → ℕ
costs prog zero = 1
costs prog (suc i) = 1 + total (costs prog i) prog

module _ (prog : List Rule) where
  mutual
    unfolding Tame Calm Small

    tame : (a : Act) → Calm prog a → Small (length prog) a → Tame prog a
    tame (plain p) c s = s
    tame (cycle b) c s = (c.0, tames b c.1 s)
    tame (choice t q o) c s = (s.0, tame-alts q c.0 s.1, tame-other o c.1 s.2)

    tames : (q : Acts) → Calms prog q → Smalls (length prog) q → Tames prog q
    tames done c s = tt
    tames (a ▸ q) c s = (tame a c.0 s.0, tames q c.1 s.1)

    tame-alts : (q : Alts) → CalmAlts prog q → SmallAlts (length prog) q → TameAlts prog q
    tame-alts nil c s = tt
    tame-alts (alternative ls b q) c s = (tames b c.0 s.1, tame-alts q c.1 s.2)

    tame-other : (o : Other) → CalmOther prog o → SmallOther (length prog) o → TameOther prog o
    tame-other absent c s = tt
    tame-other (otherwise b) c s = tames b c s

  reach-on : {v r s : ℕ} → Reach prog v r → r < length prog → Paths prog (to_call s) (body_of prog r) → Reach prog v s
  reach-on (reach-one l c) h d = reach-more l c (reach-one h d)
  reach-on (reach-more l c x) h d = reach-more l c (reach-on x h d)

module _ (prog : List Rule) (ok : Accepted prog) (fin : Finishing prog) where
  pub tame-rule : (r : ℕ) → r < length prog → Tames prog (body_of prog r)
  unfolding SmallProgram SmallRule body_of
  tame-rule r l = tames prog (body_of prog r) ((bound-form prog fin).0 r l) (accepted-small prog ok r l)

  module _ (tokens answers : List ℕ) where
    rule-goal : (r i : ℕ) (ps : List Pending) (n : ℕ) → r < length prog → ((s : ℕ) → Paths prog (to_call s) (body_of prog r) → RuleEnds prog tokens answers (costs prog i) s)
        → BackOf prog tokens answers r n ps → (w : Way) → Paths prog w (body_of prog r) → Goal prog tokens answers (costs prog i) done [] ps (suc n) w
    unfolding Goal own left
    rule-goal r i ps n l hc hp to_end p = λ io. ends-step (hp.0 (passed l by_end p) io)
    rule-goal r i ps n l hc hp to_exit p = λ io. ends-over over-nowhere
    rule-goal r i ps n l hc hp to_back p = λ io. ends_more _ (omega arith) (hp.0 (passed l by_back p) io)
    rule-goal r i ps n l hc hp (to_give v) p = λ io. ends_more _ (omega arith) (hp.1 v (gives l p) io)
    rule-goal r i ps n l hc hp (to_call s) p = hc s p

    -- vs: rules met on the way, each of which comes to a call of r
    rule-ends : (i : ℕ) (vs : List ℕ) (r : ℕ) → Distinct (length prog) vs → ((v : ℕ) → Memᴰ v vs → Reach prog v r) → length prog ≤ length vs + i
        → RuleEnds prog tokens answers (costs prog i) r
    unfolding costs
    rule-ends zero vs r d reach h l ps n hp io = absurd (omega (arith, pigeonhole (length prog) (r ∷ vs) (distinct_cons l (λ m. (bound-form prog fin).1 r (reach r m)) d)))
    rule-ends (suc i) vs r d reach h l ps n hp io =
        ends_more _ (omega (arith, total-le (costs prog i) prog r))
        (acts-ends prog tokens answers (costs prog i) (body_of prog r) [] ps (suc n) (tame-rule r l)
        (rule-goal r i ps n l
        (λ s c. rule-ends i (r ∷ vs) s (distinct_cons l (λ m. (bound-form prog fin).1 r (reach r m)) d) (λ v m. met v s c m) (omega arith)) hp) io)
      where
        met : (v s : ℕ) → Paths prog (to_call s) (body_of prog r) → Memᴰ v (r ∷ vs) → Reach prog v s
        met v s c (Memᴰ.head e) = rw e (reach-one l c)
        met v s c (Memᴰ.tail m) = reach-on prog (reach v m) l c

    pub any-rule : (r : ℕ) → RuleEnds prog tokens answers (costs prog (length prog)) r
    any-rule r = rule-ends (length prog) [] r distinct_nil (λ v m. elim m [ ]) (omega arith)
