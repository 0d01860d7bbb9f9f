-- What holds of whatever a check gives, one law for each way of putting checks together.
use mathlib.Core.Bool.{Bool, true, false}
use mathlib.Core.Path.{◌≡◌, refl}
use Prim.Native.Nat.{ℕ}
use native.Mathlib.Omega.{arith}
use Rattle.names.specs.Known.{Checked, good, wrong, ◌>>=◌, fault_if}
use Rattle.words.specs.Words.{Word}

-- whatever m gives has P
abbrev pub Yields : {A : Type 0} → (A → Type 0) → Checked A → Type 0
Yields {A} P m = (a : A) → m ≡ good a → P a

pub no-good {ℓ} : {A : Type 0} {B : Type ℓ} {n : ℕ} {w : Word} {a : A} → wrong n w ≡ good a → B
no-good e = let z : ◌≡◌ {A = ℕ} 0 1 = cc in absurd (omega arith)

pub yields : {A : Type 0} (P : A → Type 0) (a : A) → P a → Yields P (good a)
yields P a p b e = let d : a ≡ b = cc in rw d at p

pub never : {A : Type 0} (P : A → Type 0) (n : ℕ) (w : Word) → Yields P (wrong n w)
never P n w a e = no-good e

pub next : {A B : Type 0} (P : B → Type 0) (Q : A → Type 0) (m : Checked A) (f : A → Checked B) → Yields Q m → ((a : A) → Q a → Yields P (f a)) → Yields P (◌>>=◌ m f)
next P Q (good a) f q h = h a (q a refl)
next P Q (wrong n w) f q h = never P n w

-- past a test that did not hold
pub passed : {B : Type 0} (P : B → Type 0) (t : Bool) (n : ℕ) (w : Word) (f : Unit {0} → Checked B) → (t ≡ false → Yields P (f tt)) → Yields P (◌>>=◌ (fault_if t n w) f)
passed P true n w f h = never P n w
passed P false n w f h = h refl

-- nothing is asked of it
abbrev pub Any : {A : Type 0} → A → Type 0
Any a = Unit {0}

pub any : {A : Type 0} (m : Checked A) → Yields Any m
any m a e = tt
