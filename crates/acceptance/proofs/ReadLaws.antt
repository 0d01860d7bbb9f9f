-- What holds of whatever a reader gives, one law for each way of putting readers together.
use mathlib.Core.Bool.{Bool, true, false}
use mathlib.Core.List.{List}
use mathlib.Core.Path.{◌≡◌, refl}
use Prim.Native.Nat.{ℕ}
use lib.Dec.{eqb}
use native.Mathlib.Omega.{arith}
use Rattle.std.specs.Prelude.{if◌then◌else◌}
use Rattle.syntax.specs.Reading.{Read, got, fault, Reader, onward, ◌>>=◌, ◌>>◌, pure, peek, refuse, over, within, on◌then◌else◌}
use Rattle.words.specs.Words.{Word}

-- whatever m gives has P
abbrev pub Gives : {A : Type 0} → (A → Type 0) → Reader A → Type 0
Gives {A} P m = (ws : List Word) (a : A) (rest : List Word) → m ws ≡ got a rest → P a

-- nothing is asked of it
abbrev pub Any : {A : Type 0} → A → Type 0
Any a = Unit {0}

pub any : {A : Type 0} (m : Reader A) → Gives Any m
any m ws a rest e = tt

pub no-got {ℓ} : {A : Type 0} {B : Type ℓ} {n : ℕ} {w : Word} {a : A} {rest : List Word} → fault n w ≡ got a rest → B
no-got e = let z : ◌≡◌ {A = ℕ} 0 1 = cc in absurd (omega arith)

pub bind : {A B : Type 0} (P : B → Type 0) (Q : A → Type 0) (m : Reader A) (f : A → Reader B) → Gives Q m → ((a : A) → Q a → Gives P (f a)) → Gives P (◌>>=◌ m f)
unfolding onward
bind {A} {B} P Q m f q h ws b rest e = go (m ws) refl e
  where
    go : (r : Read A) → m ws ≡ r → onward r f ≡ got b rest → P b
    go (got a more) d e₁ = h a (q ws a more d) more b rest e₁
    go (fault n w) d e₁ = no-got e₁

pub after : {A B : Type 0} (P : B → Type 0) (m : Reader A) (k : Reader B) → Gives P k → Gives P (◌>>◌ m k)
unfolding onward
after {A} {B} P m k h ws b rest e = go (m ws) e
  where
    go : (r : Read A) → onward r (λ _. k) ≡ got b rest → P b
    go (got a more) e₁ = h more b rest e₁
    go (fault n w) e₁ = no-got e₁

pub gives : {A : Type 0} (P : A → Type 0) (a : A) → P a → Gives P (pure a)
gives P a p ws b rest e = let d : a ≡ b = cc in rw d at p

pub refuses : {A : Type 0} (P : A → Type 0) → Gives P refuse
unfolding refuse
refuses P ws a rest e = no-got e

pub either : {A : Type 0} (P : A → Type 0) (t : Bool) (m k : Reader A) → Gives P m → Gives P k → Gives P (if t then m else k)
either P true m k h h' = h
either P false m k h h' = h'

pub on-kind : {A : Type 0} (P : A → Type 0) (k : ℕ) (m n : Reader A) → Gives P m → Gives P n → Gives P (on k then m else n)
unfolding on◌then◌else◌
on-kind P k m n h h' ws a rest e = either P (eqb (peek ws).kind k) m n h h' ws a rest e

pub limited : {A : Type 0} (P : A → Type 0) (left : ℕ) (m : Reader A) → Gives P m → Gives P (within left m)
unfolding within over
limited P left m h ws a rest e = go (eqb left 0) e
  where
    go : (t : Bool) → (if t then over ws else m ws) ≡ got a rest → P a
    go true e₁ = no-got e₁
    go false e₁ = h ws a rest e₁
