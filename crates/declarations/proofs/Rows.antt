-- Rows of declarations put together: classes, places and faults of a row that is two rows, one after the other.
use mathlib.Core.Bool.{Bool, true, false, ◌&&◌, ◌||◌, not, or_assoc}
use mathlib.Core.List.{List, [], ◌∷◌, ◌++◌, append-nil, append_assoc}
use mathlib.Core.Option.{Option, none, some}
use mathlib.Core.Path.{◌≡◌, refl, sym}
use Prim.Native.Nat.{ℕ, suc, ◌+◌}
use lib.Dec.{eqb}
use lib.ListN.{length}
use lib.Seq.{append_snoc, get_or-append_seam}
use native.Mathlib.Nat.{add-zero}
use native.Mathlib.Omega.{arith}
use Rattle.std.specs.Prelude.{if◌then◌else◌}
use Rattle.base.specs.Common.{same, given}
use Rattle.declarations.specs.Decls.{Decl, feeds, knowns_of, knowns_in, index_of, declared_in, decl_of, mapped, decl_fault, decl_faults}
use Rattle.names.specs.Known.{Checked, good, wrong, ◌>>=◌, Known, KnownType, KnownOperation, KnownOperators, find_type, find_operation, find_operators, is_word}
use Rattle.syntax.specs.Written.{Operator}

-- the first of two that is there
abbrev pub first : {A : Type 0} → Option A → Option A → Option A
first none y = y
first (some a) y = some a

pub first-none : {A : Type 0} (x : Option A) → first x none ≡ x
first-none none = refl
first-none (some a) = refl

pub mapped-first : {A B : Type 0} (f : A → B) (x y : Option A) → mapped f (first x y) ≡ first (mapped f x) (mapped f y)
mapped-first f none y = refl
mapped-first f (some a) y = refl

pub given-first : {A : Type 0} (x y : Option A) → given (first x y) ≡ (given x || given y)
given-first none y = refl
given-first (some a) y = refl

pub given-mapped : {A B : Type 0} (f : A → B) (x : Option A) → given (mapped f x) ≡ given x
given-mapped f none = refl
given-mapped f (some a) = refl

pick-append : (t : Bool) (x y z : List Known) → (if t then x ++ (y ++ z) else (y ++ z)) ≡ (if t then x ++ y else y) ++ z
pick-append true x y z = sym (append_assoc x y z)
pick-append false x y z = refl

pick_first : {A : Type 0} (t : Bool) (a : A) (x y : Option A) → (if t then some a else first x y) ≡ first (if t then some a else x) y
pick_first true a x y = refl
pick_first false a x y = refl

pub knowns-append : (c : ℕ) (a b : List Decl) → knowns_in c (a ++ b) ≡ knowns_in c a ++ knowns_in c b
unfolding knowns_in
knowns-append c [] b = refl
knowns-append c (d ∷ a) b = rw (knowns-append c a b) (pick-append (feeds c d) (knowns_of d) (knowns_in c a) (knowns_in c b))

pub index-append : (c : ℕ) (w : List ℕ) (i : ℕ) (a b : List Decl) → index_of c w i (a ++ b) ≡ first (index_of c w i a) (index_of c w (i + length a) b)
unfolding index_of
index-append c w i [] b = rw add-zero
index-append c w i (d ∷ a) b =
    let e : i + suc (length a) ≡ suc i + length a = omega arith in
    rw (index-append c w (suc i) a b, e) (pick_first (eqb d.class c && same w d.name.text) i (index_of c w (suc i) a) (index_of c w (suc i + length a) b))

pub find-type-append : (w : List ℕ) (a b : List KnownType) → find_type w (a ++ b) ≡ first (find_type w a) (find_type w b)
unfolding find_type
find-type-append w [] b = refl
find-type-append w (k ∷ a) b = rw (find-type-append w a b) (pick_first (same w k.named) k.members (find_type w a) (find_type w b))

pub find-operation-append : (w : List ℕ) (a b : List KnownOperation) → find_operation w (a ++ b) ≡ first (find_operation w a) (find_operation w b)
unfolding find_operation
find-operation-append w [] b = refl
find-operation-append w (k ∷ a) b = rw (find-operation-append w a b) (pick_first (same w k.named) k (find_operation w a) (find_operation w b))

pub find-operators-append : (w : List ℕ) (a b : List KnownOperators) → find_operators w (a ++ b) ≡ first (find_operators w a) (find_operators w b)
unfolding find_operators
find-operators-append w [] b = refl
find-operators-append w (k ∷ a) b = rw (find-operators-append w a b) (pick_first (same w k.named) k.levels (find_operators w a) (find_operators w b))

pub declared-append : (w : List ℕ) (a b : List Decl) → declared_in w (a ++ b) ≡ (declared_in w a || declared_in w b)
unfolding declared_in
declared-append w [] b = refl
declared-append w (d ∷ a) b =
    rw (declared-append w a b) (sym (or_assoc (same w d.name.text || (not (eqb d.class 6) && is_word w d.second)) (declared_in w a) (declared_in w b)))

-- the declaration after those of `before`
pub decl-here : (before : List Decl) (d : Decl) (rest : List Decl) → decl_of (before ++ (d ∷ rest)) (length before) ≡ d
unfolding decl_of
decl-here before d rest = get_or-append_seam before d rest _

pub faults-append : (ds : List Decl) (en : ℕ → List Operator) (before a b : List Decl) → decl_faults ds en before (a ++ b) ≡ ◌>>=◌ (decl_faults ds en before a) (λ _. decl_faults ds en (before ++ a) b)
unfolding decl_faults
faults-append ds en before [] b = rw append-nil
faults-append ds en before (d ∷ a) b = go (decl_fault ds before (en (length before)) d) (faults-append ds en (before ++ (d ∷ [])) a b)
  where
    go : (x : Checked (Unit {0}))
        → decl_faults ds en (before ++ (d ∷ [])) (a ++ b) ≡ ◌>>=◌ (decl_faults ds en (before ++ (d ∷ [])) a) (λ _. decl_faults ds en (before ++ (d ∷ []) ++ a) b)
        → ◌>>=◌ x (λ _. decl_faults ds en (before ++ (d ∷ [])) (a ++ b)) ≡ ◌>>=◌ (◌>>=◌ x (λ _. decl_faults ds en (before ++ (d ∷ [])) a)) (λ _. decl_faults ds en (before ++ (d ∷ a)) b)
    go (good u) h = rw append_snoc at h
    go (wrong n w) h = refl
