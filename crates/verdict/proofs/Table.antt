-- Laws of the table of calls and of the answer.
use Prim.Native.Nat.{ℕ, zero, suc, ◌+◌, ◌*◌, ◌<◌, ◌≤◌}
use mathlib.Core.Path.{◌≡◌, refl, sym, ◌∙◌}
use mathlib.Core.Logic.{inl, inr}
use mathlib.Core.Bool.{Bool, true, false, ◌||◌, ◌&&◌, not, or_comm}
use mathlib.Core.List.{List}
use native.Mathlib.Omega.{arith}
use native.Mathlib.Numerals.{add-one}
use lib.ListN.{length, get_or, set, length-set}
use lib.Seq.{get_or-set_same, get_or-set_other}
use Rattle.program.specs.Program.{Rule, body_of}
use Rattle.finishing.specs.Test.{Known, loops, reach, some_below, arrow, finishing}
use Rattle.verdict.specs.Told.{member, RuleTold, Laid, True, ClosedAt, some_in, known_in, row_of, Puts, Widened, Closure, Arrows}
use Rattle.finishing.proofs.Rounds.{last}
use Rattle.finishing.proofs.Exact.{tells, tells-sound, tells-complete, exact, below-same, below_true, true_below}
use Rattle.finishing.specs.Finishing.{Gives}
use Rattle.finishing.proofs.Paths.{Sound, Closed}
use Rattle.base.specs.Bools.{and, both}
use borrow.Author.Tests.{eqb-true}
use lib.Dec.{eqb}
use Rattle.verdict.specs.declared.Rules.{Rules}
use Rattle.verdict.specs.declared.Ways.{Ways}

pub puts : (rows : List ℕ) (r : ℕ) (s : Rules) → 2 * r + 1 < length rows → Puts rows r s (set (set rows (2 * r) s.lo) (2 * r + 1) s.hi)
unfolding row_of
puts rows r s h = record {
  here =
      let a : get_or (set (set rows (2 * r) s.lo) (2 * r + 1) s.hi) (2 * r) 0 ≡ s.lo = get_or-set_other (set rows (2 * r) s.lo) (2 * r + 1) (2 * r) s.hi 0 (λ e. omega arith) ∙ get_or-set_same rows (2 * r) s.lo 0 (omega arith) in
      let b : get_or (set (set rows (2 * r) s.lo) (2 * r + 1) s.hi) (2 * r + 1) 0 ≡ s.hi = get_or-set_same (set rows (2 * r) s.lo) (2 * r + 1) s.hi 0 (rw (length-set rows (2 * r) s.lo) h) in
      λ i. record { lo = a i; hi = b i };
  there = λ j n.
      let o : (x : ℕ) → (x ≡ 2 * r → ⊥) → (x ≡ 2 * r + 1 → ⊥) → get_or (set (set rows (2 * r) s.lo) (2 * r + 1) s.hi) x 0 ≡ get_or rows x 0
      = λ x p q. get_or-set_other (set rows (2 * r) s.lo) (2 * r + 1) x s.hi 0 q ∙ get_or-set_other rows (2 * r) x s.lo 0 p in
      let a = o (2 * j) (λ e. n (omega arith)) (λ e. n (omega arith)) in
      let b = o (2 * j + 1) (λ e. n (omega arith)) (λ e. n (omega arith)) in
      λ i. record { lo = a i; hi = b i };
}

-- One row after the other is widened
pub record Widening (old : List ℕ) (k r : ℕ) (new : List ℕ) : Type 0 where
  pub done : (j s : ℕ) → j < r → member (row_of new j) s ≡ (member (row_of old j) s || (member (row_of old j) k && member (row_of old k) s))
  pub left : (j : ℕ) → r ≤ j → row_of new j ≡ row_of old j

pub widening-start : (old : List ℕ) (k : ℕ) → Widening old k 0 old
widening-start old k = record { done = λ j s l. absurd (omega arith); left = λ j l. refl }

pub widening-next : (old mid new : List ℕ) (k r : ℕ) (a b w : Rules) → a ≡ row_of mid r → b ≡ row_of old k → ((s : ℕ) → member w s ≡ (member a s || (member a k && member b s))) → Puts mid r w new
    → Widening old k r mid → Widening old k (r + 1) new
widening-next old mid new k r a b w ea eb h p i = record {
  done = λ j s l. elim (last r j (omega arith)) [
    | inl x ↦ rw (p.there j (λ e. omega arith)) (i.done j s x)
    | inr x ↦
        let e : a ≡ row_of old r = ea ∙ i.left r (omega arith) in
        let u : member w s ≡ (member (row_of old r) s || (member (row_of old r) k && member (row_of old k) s)) = rw (e, eb) at (h s) in
        rw (x, p.here) u
  ];
  left = λ j l. p.there j (λ e. omega arith) ∙ i.left j (omega arith);
}

pub widening-done : (old new : List ℕ) (n k r : ℕ) → n ≤ r → Widening old k r new → Widened old n k new
widening-done old new n k r l i = record { rows = λ j s h. i.done j s (omega arith) }

-- The closure, k after k
pub record Closing (old : List ℕ) (n k : ℕ) (new : List ℕ) : Type 0 where
  pub rows : (r s : ℕ) → r < n → member (row_of new r) s ≡ reach (λ r s. member (row_of old r) s) k r s

pub closing-start : (old : List ℕ) (n : ℕ) → Closing old n 0 old
unfolding reach
closing-start old n = record { rows = λ r s l. refl }

pub closing-next : (old mid new : List ℕ) (n k : ℕ) → k < n → Widened mid n k new → Closing old n k mid → Closing old n (k + 1) new
unfolding reach
closing-next old mid new n k l w c = record { rows = λ r s h. rw add-one (w.rows r s h ∙ rw (c.rows r s h, c.rows r k h, c.rows k s l) refl) }

-- The rows of the calls
pub record Filling (cells starts : List ℕ) (n : ℕ) (kn : Known) (r : ℕ) (b : Bool) (new : List ℕ) : Type 0 where
  pub looping : (prog : List Rule) → length prog ≡ n → Laid cells starts prog → b ≡ some_below r (λ r. loops kn (body_of prog r))
  pub rows : (prog : List Rule) → length prog ≡ n → Laid cells starts prog → (j s : ℕ) → j < r → s < 128 → member (row_of new j) s ≡ arrow prog kn j s

pub filling-start : (cells starts : List ℕ) (n : ℕ) (kn : Known) (new : List ℕ) → Filling cells starts n kn 0 false new
unfolding some_below
filling-start cells starts n kn new = record { looping = λ prog e l. refl; rows = λ prog e l j s h b. absurd (omega arith) }

pub filling-next : {vs : List ℕ} (cells starts : List ℕ) (n : ℕ) (kn : Known) (r : ℕ) (b : Bool) (mid new : List ℕ) (w : Ways) → r < n → RuleTold cells starts r kn vs w → Puts mid r w.calls new
    → Filling cells starts n kn r b mid → Filling cells starts n kn (r + 1) (b || w.looping) new
unfolding some_below arrow
filling-next cells starts n kn r b mid new w h t p f = record {
  looping = λ prog e l.
      let x = (t.told (body_of prog r) (l.tail r) (l.lies r (omega arith))).1 in
      rw (add-one, ← x.at_loops, ← f.looping prog e l) (or_comm b w.looping);
  rows = λ prog e l j s k u. elim (last r j (omega arith)) [
    | inl y ↦ rw (p.there j (λ e. omega arith)) (f.rows prog e l j s y u)
    | inr y ↦ let x = (t.told (body_of prog r) (l.tail r) (l.lies r (omega arith))).1 in rw (y, p.here) (x.at_calls s u)
  ];
}

pub filling-done : (cells starts : List ℕ) (n : ℕ) (kn : Known) (r : ℕ) (b : Bool) (new : List ℕ) → r ≡ n → Filling cells starts n kn r b new → Arrows cells starts n kn b new
filling-done cells starts n kn r b new e f =
    let g : Filling cells starts n kn n b new = rw e at f in
    record { looping = g.looping; rows = g.rows }

-- one step of a test of all
pub below_next : (r : ℕ) (f : ℕ → Bool) (b c : Bool) → b ≡ some_below r f → c ≡ f r → (b || c) ≡ some_below (r + 1) f
unfolding some_below
below_next r f b c d e = rw (add-one, ← d, ← e) (or_comm b c)

reach-same : (f g : ℕ → ℕ → Bool) (n k r s : ℕ) → ((r s : ℕ) → r < n → s < n → f r s ≡ g r s) → k ≤ n → r < n → s < n → reach f k r s ≡ reach g k r s
unfolding reach
reach-same f g n zero r s h b l u = h r s l u
reach-same f g n (suc k) r s h b l u =
    rw (reach-same f g n k r s h (omega arith) l u, reach-same f g n k r k h (omega arith) l (omega arith), reach-same f g n k k s h (omega arith) (omega arith) u) refl

neither : (a b : Bool) → not (a || b) ≡ (not a && not b)
neither true b = refl
neither false b = refl

-- what is known is so: no more and no less than the definition asks for

given_by : (prog : List Rule) (a b v : ℕ) → a ≡ b → Gives prog a v → Gives prog b v
given_by prog a b v e g = rw e at g

pub sound-known : (prog : List Rule) (ps : Rules) (facts : List ℕ) (m : ℕ) → True prog ps facts m → Sound prog (known_in ps facts m)
unfolding known_in some_in
sound-known prog ps facts m t = record {
  of-passed = t.passes;
  of_values = λ r p e.
      let x = true_below m (λ i. eqb (get_or facts (2 * i) 0) r && p (get_or facts (2 * i + 1) 0)) e in
      let y = and (eqb (get_or facts (2 * x.0) 0) r) (p (get_or facts (2 * x.0 + 1) 0)) x.2 in
      let z : get_or facts (2 * x.0) 0 ≡ r = eqb-true (get_or facts (2 * x.0) 0) r y.0 in
      record { value = get_or facts (2 * x.0 + 1) 0; quietly = given_by prog (get_or facts (2 * x.0) 0) r (get_or facts (2 * x.0 + 1) 0) z (t.returns x.0 x.1); has = y.1 };
}

some_more : (n : ℕ) (f g : ℕ → Bool) → ((i : ℕ) → f i ≡ true → g i ≡ true) → some_below n f ≡ true → some_below n g ≡ true
some_more n f g h e = let x = true_below n f e in below_true n g x.0 x.1 (h x.0 x.2)

pub closed-known : (prog : List Rule) (ps : Rules) (facts : List ℕ) (m : ℕ) → ((r : ℕ) → r < length prog → ClosedAt prog (known_in ps facts m) r) → Closed prog (known_in ps facts m)
unfolding known_in some_in
closed-known prog ps facts m c = record {
  of-passed = λ r l e. (c r l).passing e;
  of_values = λ r v p l e h. some_more m (λ i. eqb (get_or facts (2 * i) 0) r && eqb (get_or facts (2 * i + 1) 0) v) (λ i. eqb (get_or facts (2 * i) 0) r && p (get_or facts (2 * i + 1) 0))
      (λ i x.
      let y = and (eqb (get_or facts (2 * i) 0) r) (eqb (get_or facts (2 * i + 1) 0) v) x in
      let z : get_or facts (2 * i + 1) 0 ≡ v = eqb-true (get_or facts (2 * i + 1) 0) v y.1 in
      both (eqb (get_or facts (2 * i) 0) r) (p (get_or facts (2 * i + 1) 0)) y.0 (rw z h)) ((c r l).giving v e);
}

-- the answer
pub answer : (cells starts : List ℕ) (n : ℕ) (kn : Known) (b d : Bool) (old new : List ℕ) → n ≤ 128
    → Arrows cells starts n kn b old → Closure old n new → d ≡ some_below n (λ r. member (row_of new r) r)
    → (prog : List Rule) → length prog ≡ n → Laid cells starts prog → Sound prog kn → Closed prog kn → not (b || d) ≡ finishing prog
unfolding tells
answer cells starts n kn b d old new h a c e prog q l so cl =
    let f : (r s : ℕ) → r < n → s < n → member (row_of old r) s ≡ arrow prog kn r s = λ r s u v. a.rows prog q l r s u (omega arith) in
    let g : some_below n (λ r. member (row_of new r) r) ≡ some_below n (λ r. reach (arrow prog kn) n r r) =
    below-same n (λ r. member (row_of new r) r) (λ r. reach (arrow prog kn) n r r)
    (λ r u. c.rows r r u ∙ reach-same (λ r s. member (row_of old r) s) (arrow prog kn) n n r r f (omega arith) u u) in
    let t : not (b || d) ≡ tells prog kn = neither b d ∙ (rw (a.looping prog q l, e, g, ← q) refl) in
    exact prog (not (b || d))
    (λ z. tells-sound prog kn so cl (sym t ∙ z))
    (λ z. t ∙ tells-complete prog kn so cl z)

pub closing-done : (old new : List ℕ) (n k : ℕ) → k ≡ n → Closing old n k new → Closure old n new
closing-done old new n k e c =
    let d : Closing old n n new = rw e at c in
    record { rows = d.rows }
