-- What holds of whatever a reader gives and of the words that it leaves, one law for each way of putting readers together.
use mathlib.Core.Bool.{Bool, true, false}
use mathlib.Core.List.{List, [], ◌∷◌}
use mathlib.Core.Path.{◌≡◌, refl}
use Prim.Native.Nat.{ℕ, ◌<◌}
use lib.Dec.{eqb, ltb}
use lib.ListN.{length}
use borrow.Author.Tests.{eqb-true, eqb-false}
use native.Mathlib.Omega.{arith}
use Rattle.std.specs.Prelude.{if◌then◌else◌}
use Rattle.grammar.specs.Derived.{Took, Not, Reference, by_name, by_string}
use Rattle.syntax.specs.Reading.{Read, got, fault, Reader, onward, ◌>>=◌, ◌>>◌, pure, peek, pass, refuse, over, within, on◌then◌else◌, expect, short, a_name, one_name, name_or_string}
use Rattle.words.specs.Words.{Word, name, string}

-- whatever m gives of ws has P, with the words left
pub record From {A : Type 0} (ws : List Word) (m : Reader A) (P : List Word → A → Type 0) : Type 0 where
  pub holds : (rest : List Word) (a : A) → m ws ≡ got a rest → P rest a

pub no-got {ℓ} : {A : Type 0} {B : Type ℓ} {n : ℕ} {w : Word} {a : A} {rest : List Word} → fault n w ≡ got a rest → B
no-got e = let z : ◌≡◌ {A = ℕ} 0 1 = cc in absurd (omega arith)

pub bind : {A B : Type 0} {P : List Word → B → Type 0} {Q : List Word → A → Type 0} {ws : List Word} (m : Reader A) (f : A → Reader B)
    → From ws m Q → ((ws₁ : List Word) (a : A) → Q ws₁ a → From ws₁ (f a) P) → From ws (◌>>=◌ m f) P
unfolding onward
bind {A} {B} {P} {Q} {ws} m f q h = record { holds = λ rest b e. go rest b (m ws) refl e }
  where
    go : (rest : List Word) (b : B) (r : Read A) → m ws ≡ r → onward r f ≡ got b rest → P rest b
    go rest b (got a more) d e₁ = (h more a (q.holds more a d)).holds rest b e₁
    go rest b (fault n w) d e₁ = no-got e₁

pub next : {A B : Type 0} {P : List Word → B → Type 0} {Q : List Word → A → Type 0} {ws : List Word} (m : Reader A) (k : Reader B)
    → From ws m Q → ((ws₁ : List Word) (a : A) → Q ws₁ a → From ws₁ k P) → From ws (◌>>◌ m k) P
next m k q h = bind m (λ _. k) q h

pub gives : {A : Type 0} {P : List Word → A → Type 0} {ws : List Word} (a : A) → P ws a → From ws (pure a) P
gives {A} {P} {ws} a p = record { holds = λ rest b e. let d : a ≡ b = cc in let d' : ws ≡ rest = cc in rw d at (rw d' at p) }

pub refuses : {A : Type 0} {P : List Word → A → Type 0} {ws : List Word} → From ws refuse P
unfolding refuse
refuses = record { holds = λ rest a e. no-got e }

-- the test is remembered
pub either : {A : Type 0} {P : List Word → A → Type 0} {ws : List Word} (t : Bool) (m n : Reader A)
    → (t ≡ true → From ws m P) → (t ≡ false → From ws n P) → From ws (if t then m else n) P
either true m n h h' = h refl
either false m n h h' = h' refl

pub on-kind : {A : Type 0} {P : List Word → A → Type 0} {ws : List Word} (k : ℕ) (m n : Reader A)
    → ((peek ws).kind ≡ k → From ws m P) → (Not k ws → From ws n P) → From ws (on k then m else n) P
unfolding on◌then◌else◌
on-kind {A} {P} {ws} k m n h h' =
    record { holds = (either (eqb (peek ws).kind k) m n (λ t. h (eqb-true (peek ws).kind k t)) (λ t. h' (eqb-false (peek ws).kind k t))).holds }

pub limited : {A : Type 0} {P : List Word → A → Type 0} {ws : List Word} (left : ℕ) (m : Reader A) → (0 < left → From ws m P) → From ws (within left m) P
unfolding within over
limited {A} {P} {ws} left m h = record { holds = λ rest a e. go rest a (eqb left 0) refl e }
  where
    go : (rest : List Word) (a : A) (t : Bool) → eqb left 0 ≡ t → (if t then over ws else m ws) ≡ got a rest → P rest a
    go rest a true t e₁ = no-got e₁
    go rest a false t e₁ = let z = eqb-false left 0 t in (h (omega arith)).holds rest a e₁

-- another property that follows
pub weaken : {A : Type 0} {P Q : List Word → A → Type 0} {ws : List Word} {m : Reader A} → From ws m P → ((rest : List Word) (a : A) → P rest a → Q rest a) → From ws m Q
weaken p h = record { holds = λ rest a e. h rest a (p.holds rest a e) }

-- Words

-- past the end of the words is the word of the kind 1, so that a kind other than 1 is that of a word
pub passes : {ws : List Word} (k : ℕ) → eqb 1 k ≡ false → (peek ws).kind ≡ k → From ws pass (λ rest w. Took k ws w rest)
unfolding pass peek
passes {ws = []} k t d = absurd (eqb-false 1 k t d)
passes {ws = v ∷ ws} k t d = record { holds = λ rest w e. let x : v ≡ w = cc in let y : ws ≡ rest = cc in record { here = cc; kind = rw x at d } }

pub expects : {ws : List Word} (k : ℕ) → eqb 1 k ≡ false → From ws (expect k) (λ rest w. Took k ws w rest)
unfolding expect
expects k t = on-kind k pass refuse (λ d. passes k t d) (λ _. refuses)

-- of the end of the text only the kind is told
pub expects-kind : {ws : List Word} (k : ℕ) → From ws (expect k) (λ rest w. (peek ws).kind ≡ k)
unfolding expect
expects-kind k = on-kind k pass refuse (λ d. record { holds = λ rest w e. d }) (λ _. refuses)

-- the next word, a name by its kind
pub shorts : {ws : List Word} → (peek ws).kind ≡ 257 → From ws short (λ rest w. Took 257 ws w rest)
unfolding short over
shorts {ws} d = record { holds = λ rest w e. go rest w (ltb 32 (length (peek ws).text)) e }
  where
    go : (rest : List Word) (w : Word) (t : Bool) → (if t then over ws else pass ws) ≡ got w rest → Took 257 ws w rest
    go rest w true e₁ = no-got e₁
    go rest w false e₁ = (passes 257 refl d).holds rest w e₁

pub a-name : {ws : List Word} → From ws a_name (λ rest w. Took 257 ws w rest)
unfolding a_name
a-name = on-kind name short refuse (λ d. shorts d) (λ _. refuses)

-- a name where `left` more may stand
pub record Named (left : ℕ) (ws rest : List Word) (w : Word) : Type 0 where
  pub word : Took 257 ws w rest
  pub some_left : 0 < left

pub one_name_lem : {ws : List Word} (left : ℕ) → From ws (one_name left) (λ rest w. Named left ws rest w)
unfolding one_name
one_name_lem left =
    on-kind name (within left short) refuse
    (λ d. limited left short (λ h. weaken (shorts d) (λ rest w t. record { word = t; some_left = h })))
    (λ _. refuses)

pub name-or-string : {ws : List Word} → From ws name_or_string (λ rest w. Reference ws w rest)
unfolding name_or_string
name-or-string =
    on-kind string pass a_name
    (λ d. weaken (passes 259 refl d) (λ rest w t. by_string t))
    (λ _. weaken a-name (λ rest w t. by_name t))
