-- The kind that an operation's words tell before any of them is judged is the kind of what is read.
use mathlib.Core.Bool.{Bool, true, false, ◌&&◌}
use mathlib.Core.List.{List, [], ◌∷◌}
use mathlib.Core.Option.{Option, none, some}
use mathlib.Core.Path.{◌≡◌, refl, sym, ap, ◌∙◌}
use Prim.Native.Char.{code}
use Prim.Native.Nat.{ℕ, ◌<◌}
use native.Mathlib.Omega.{arith}
use borrow.Author.Tests.{leb-false}
use lib.Dec.{eqb, ltb}
use lib.ListN.{length}
use Rattle.std.specs.Prelude.{if◌then◌else◌}
use Rattle.base.specs.Common.{given}
use Rattle.syntax.specs.Reading.{Read, got, fault, Reader, onward, ◌>>=◌, ◌>>◌, pure, peek, pass, refuse, over, on◌then◌else◌, expect, longest, short, a_name, optional}
use Rattle.syntax.specs.Sections.{first_of, of_kind, kind_at, kind_ahead, is_full, a_parameter}
use Rattle.words.specs.Words.{Word, twice, name}

no-got {ℓ} : {A : Type 0} {B : Type ℓ} {n : ℕ} {w : Word} {a : A} {rest : List Word} → fault n w ≡ got a rest → B
no-got e = let z : ◌≡◌ {A = ℕ} 0 1 = cc in absurd (omega arith)

-- what is told of the kind, with `(type)` read as t and the words vs behind it
abbrev Same : Option Word → List Word → Option ℕ → Type 0
Same t vs k = k ≡ some (first_of (given t) (eqb (peek vs).kind twice))

same : (t u : Option Word) (vs us : List Word) → got u us ≡ got t vs → Same t vs (some (first_of (given u) (eqb (peek us).kind twice)))
same t u vs us e = let x : u ≡ t = cc in let y : us ≡ vs = cc in rw (x, y) refl

closed : (t : Option Word) (vs : List Word) (w : Word) (us : List Word) → onward (expect (code ")") us) (λ _. pure (some w)) ≡ got t vs
    → Same t vs (if eqb (peek us).kind (code ")") then some (first_of true (eqb (kind_at 1 us) twice)) else none)
unfolding expect on◌then◌else◌ onward pass refuse peek kind_at
closed t vs w [] e = no-got e
closed t vs w (c ∷ us) e = go (eqb c.kind (code ")")) e
  where
    go : (b : Bool) → onward ((if b then pass else refuse) (c ∷ us)) (λ _. pure (some w)) ≡ got t vs
        → Same t vs (if b then some (first_of true (eqb (peek us).kind twice)) else none)
    go true e₁ = same t (some w) vs us e₁
    go false e₁ = no-got e₁

opened : (t : Option Word) (vs ws : List Word) → onward (a_name ws) (λ w. (◌>>◌ (expect (code ")")) (pure (some w)))) ≡ got t vs
    → Same t vs (if eqb (peek ws).kind name && eqb (kind_at 1 ws) (code ")") then some (first_of true (eqb (kind_at 2 ws) twice)) else none)
unfolding a_name short over on◌then◌else◌ onward pass refuse peek kind_at
opened t vs [] e = no-got e
opened t vs (w ∷ us) e = go (eqb w.kind name) e
  where
    judged : (long : Bool) → onward (if long then fault 9 w else got w us) (λ w. (◌>>◌ (expect (code ")")) (pure (some w)))) ≡ got t vs
        → Same t vs (if eqb (peek us).kind (code ")") then some (first_of true (eqb (kind_at 1 us) twice)) else none)
    judged true e₁ = no-got e₁
    judged false e₁ = closed t vs w us e₁

    go : (b : Bool) → onward ((if b then short else refuse) (w ∷ us)) (λ w. (◌>>◌ (expect (code ")")) (pure (some w)))) ≡ got t vs
        → Same t vs (if b && eqb (peek us).kind (code ")") then some (first_of true (eqb (kind_at 1 us) twice)) else none)
    go true e₁ = judged (ltb longest (length w.text)) e₁
    go false e₁ = no-got e₁

pub kind-read : (ws vs : List Word) (t : Option Word) → a_parameter ws ≡ got t vs → kind_ahead ws ≡ some (first_of (given t) (eqb (peek vs).kind twice))
unfolding a_parameter kind_ahead on◌then◌else◌ onward pass peek kind_at
kind-read [] vs t e = same t none vs [] e
kind-read (p ∷ ws) vs t e = go (eqb p.kind (code "(")) e
  where
    go : (b : Bool) → (if b then (◌>>◌ pass (◌>>=◌ a_name (λ w. (◌>>◌ (expect (code ")")) (pure (some w)))))) else pure none) (p ∷ ws) ≡ got t vs
        → Same t vs (if b then (if eqb (peek ws).kind name && eqb (kind_at 1 ws) (code ")") then some (first_of true (eqb (kind_at 2 ws) twice)) else none)
        else some (first_of false (eqb p.kind twice)))
    go true e₁ = opened t vs ws e₁
    go false e₁ = same t none vs (p ∷ ws) e₁

-- what is after an optional word is there exactly if the word is
pub optional-given : {A : Type 0} (k : ℕ) (m : Reader A) (ws rest : List Word) (x : Option A) → optional k m ws ≡ got x rest → given x ≡ eqb (peek ws).kind k
unfolding optional on◌then◌else◌ onward
optional-given {A} k m ws rest x e = go (eqb (peek ws).kind k) e
  where
    inner : (r : Read A) → onward r (λ a. pure (some a)) ≡ got x rest → given x ≡ true
    inner (got a more) d = let y : some a ≡ x = cc in ap given (sym y)
    inner (fault n w) d = no-got d

    outer : (r : Read Word) → onward r (λ _. (◌>>=◌ m (λ a. pure (some a)))) ≡ got x rest → given x ≡ true
    outer (got w more) d = inner (m more) d
    outer (fault n w) d = no-got d

    go : (t : Bool) → (if t then (◌>>◌ pass (◌>>=◌ m (λ a. pure (some a)))) else pure none) ws ≡ got x rest → given x ≡ t
    go true d = outer (pass ws) d
    go false d = let y : none ≡ x = cc in ap given (sym y)

-- the kind of an operation of which both types have been read
pub kinds-read : (ws vs rest : List Word) (t g : Option Word) → a_parameter ws ≡ got t vs → optional twice a_name vs ≡ got g rest
    → kind_ahead ws ≡ some (first_of (given t) (given g))
kinds-read ws vs rest t g d e = kind-read ws vs t d ∙ ap (λ c. some (first_of (given t) c)) (sym (optional-given twice a_name vs rest g e))

-- a kind that is not full has room for one more
pub room-left : (seen : List ℕ) (k : Option ℕ) (b : ℕ) → k ≡ some b → is_full k seen ≡ false → of_kind b seen < 256
unfolding is_full
room-left seen k b d u = leb-false 256 (of_kind b seen) (rw d at u)
