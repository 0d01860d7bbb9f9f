-- Facts that could only open ways that bring nothing need not be read.
use Prim.Native.Nat.{ℕ, ◌*◌, ◌≤◌}
use mathlib.Core.Path.{◌≡◌, refl, sym, ap, ◌∙◌}
use mathlib.Core.Bool.{Bool, true, false, not, ◌||◌, ◌&&◌}
use mathlib.Core.List.{List}
use native.Mathlib.Omega.{arith}
use Rattle.finishing.specs.Test.{some_below}
use Rattle.verdict.specs.Told.{member, some_in, Either, Covers, Worth, all_worth, none_worth}
use Rattle.verdict.specs.declared.Rules.{Rules}
use Rattle.verdict.specs.declared.Ways.{Ways}

-- what is in the one if it is in the other
pub implied : (w a : Bool) → (a && not w) ≡ false → (w || a) ≡ w
implied true a e = refl
implied false true e = e
implied false false e = refl

-- a union that has the words of the one is the one
pub same_words : (s u : Rules) → u.lo ≡ s.lo → u.hi ≡ s.hi → (k : ℕ) → member u k ≡ member s k
same_words s u d e k =
    let f : u ≡ s = ap (λ (x : ℕ). record { lo = x; hi = u.hi }) d ∙ ap (λ (x : ℕ). record { lo = s.lo; hi = x }) e in
    ap (λ (v : Rules). member v k) f

or-none : (b : Bool) → (b || false) ≡ b
or-none true = refl
or-none false = refl

covered : {w a r : Ways} (y : Bool) → Covers w a → Either w a false r → Either w a y r
covered true c h = record {
  end = h.end ∙ (or-none _ ∙ sym c.end);
  exit = h.exit ∙ (or-none _ ∙ sym c.exit);
  ret = h.ret ∙ (or-none _ ∙ sym c.ret);
  calls = λ k. h.calls k ∙ (or-none _ ∙ sym (c.calls k));
  given = λ k. h.given k ∙ (or-none _ ∙ sym (c.given k));
  loops = h.loops;
  next = h.next;
}
covered false c h = h

no-facts : (facts : List ℕ) (q : ℕ) (p : ℕ → Bool) → some_in facts 0 q p ≡ false
unfolding some_in some_below
no-facts facts q p = refl

pub either-worth : {w a r : Ways} {m n : ℕ} {x : Bool} (q : ℕ) (facts : List ℕ) (p : ℕ → Bool) → Worth w a m n → x ≡ some_in facts n q p → Either w a x r → Either w a (some_in facts m q p) r
either-worth q facts p all_worth e h = rw (← e) h
either-worth q facts p (none_worth c) e h = covered _ c (rw (e ∙ no-facts facts q p) at h)

pub worth-few : {w a : Ways} {m n k : ℕ} → Worth w a m n → 2 * m ≤ k → 2 * n ≤ k
worth-few all_worth h = h
worth-few (none_worth c) h = omega arith
