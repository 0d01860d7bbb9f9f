-- Outcomes put together: one law for each way in which the code goes on after a part.
use mathlib.Core.Bool.{◌||◌, or_comm}
use mathlib.Core.List.{List, ◌++◌}
use mathlib.Core.Path.{◌≡◌, sym, ap, ◌∙◌}
use Prim.Native.Nat.{ℕ}
use Rattle.base.proofs.Laws.{member-append}
use Rattle.base.specs.Common.{member}
use Rattle.resolver.proofs.Appending.{appends-then}
use Rattle.names.specs.Known.{Checked, good, wrong, ◌>>=◌}
use Rattle.resolver.specs.Resolved.{DoneTold, Appends, Ends, ended, failed}
use Rattle.words.specs.Words.{Word, words_at}

-- a value with a property, or a fault
abbrev pub Holds : {A : Type 0} → (A → Type 0) → Checked A → Type 0
Holds P (good a) = P a
Holds P (wrong n w) = Unit {0}

-- a fault of the first part is the fault of the whole
pub ends-fails : {E A B : Type 0} {text : List ℕ} {ws₁ : List Word} {cs : List ℕ} {c : ℕ} {cs₁ : List ℕ} {f : A → List ℕ} {P : A → Type 0} {r : DoneTold} (m : Checked A) (k : A → Checked B)
    {ws : List Word} {cs₀ : List ℕ} {c₀ : ℕ} {cs₂ : List ℕ} {h : B → List ℕ} {R : B → Type 0}
    → Ends E text ws₁ cs c cs₁ f P r m → (r.fault ≡ 0 → ⊥) → Ends E text ws cs₀ c₀ cs₂ h R r (◌>>=◌ m k)
ends-fails (good a) k (ended e _ _ _) z = absurd (z e)
ends-fails (wrong n w) k (failed e nz at len) z = failed e nz at len

-- and then nothing is said of a value
pub ends-off : {E A : Type 0} {text : List ℕ} {ws : List Word} {cs : List ℕ} {c : ℕ} {cs' : List ℕ} {f : A → List ℕ} {P Q : A → Type 0} {r : DoneTold} {m : Checked A}
    → Ends E text ws cs c cs' f P r m → (r.fault ≡ 0 → ⊥) → Ends E text ws cs c cs' f Q r m
ends-off (ended e _ _ _) z = absurd (z e)
ends-off (failed e nz at len) z = failed e nz at len

-- where it went on
pub ends-here : {E A : Type 0} {text : List ℕ} {ws : List Word} {cs : List ℕ} {c : ℕ} {cs' : List ℕ} {f : A → List ℕ} {P : A → Type 0} {r : DoneTold} (m : Checked A)
    → Ends E text ws cs c cs' f P r m → r.fault ≡ 0 → ws ≡ words_at text r.at
ends-here (good a) (ended e here app pa) z = here
ends-here (wrong n w) (failed e nz at len) z = absurd (nz (sym e ∙ z))

-- the value is put into something
pub ends-map : {E A B : Type 0} {text : List ℕ} {ws : List Word} {cs : List ℕ} {c : ℕ} {cs' : List ℕ} {f : A → List ℕ} {P : A → Type 0} {r : DoneTold} (h : B → List ℕ) (R : B → Type 0) (v : A → B) (m : Checked A)
    → Ends E text ws cs c cs' f P r m → ((a : A) → P a → (h (v a) ≡ f a) × R (v a)) → Ends E text ws cs c cs' h R r (◌>>=◌ m (λ a. good (v a)))
ends-map h R v (good a) (ended e here app pa) q = ended {b = v a} e here (λ x. rw (q a pa).0 (app x)) (q a pa).1
ends-map h R v (wrong n w) (failed e nz at len) q = failed e nz at len

-- cells before it
pub ends-after : {E A : Type 0} {text : List ℕ} {ws : List Word} {cs : List ℕ} {c : ℕ} {xs cs₁ : List ℕ} {c₁ : ℕ} {cs₂ : List ℕ} {f : A → List ℕ} {P : A → Type 0} {r : DoneTold} (m : Checked A)
    → Appends cs c xs cs₁ c₁ → Ends E text ws cs₁ c₁ cs₂ f P r m → Ends E text ws cs c cs₂ (λ a. xs ++ f a) P r m
ends-after (good a) b (ended e here app pa) = ended e here (λ x. appends-then b (app x)) pa
ends-after (wrong n w) b (failed e nz at len) = failed e nz at len

-- words and cells behind it
pub ends-moved : {E A : Type 0} {text : List ℕ} {ws₁ : List Word} {cs : List ℕ} {c : ℕ} {cs₁ : List ℕ} {f : A → List ℕ} {P : A → Type 0} {r : DoneTold}
    {ws : List Word} {xs cs₂ : List ℕ} {r₂ : DoneTold} (m : Checked A)
    → Ends E text ws₁ cs c cs₁ f P r m → r.fault ≡ 0 → r₂.fault ≡ 0 → (ws₁ ≡ words_at text r.at → ws ≡ words_at text r₂.at) → Appends cs₁ r.count xs cs₂ r₂.count
    → Ends E text ws cs c cs₂ (λ a. f a ++ xs) P r₂ m
ends-moved (good a) (ended e here app pa) z z₂ moves b = ended z₂ (moves here) (λ x. appends-then (app x) b) pa
ends-moved (wrong n w) (failed e nz at len) z z₂ moves b = absurd (nz (sym e ∙ z))

-- words behind it
pub ends-passed : {E A : Type 0} {text : List ℕ} {ws₁ : List Word} {cs : List ℕ} {c : ℕ} {cs₁ : List ℕ} {f : A → List ℕ} {P : A → Type 0} {r : DoneTold}
    {ws : List Word} {r₂ : DoneTold} (m : Checked A)
    → Ends E text ws₁ cs c cs₁ f P r m → r.fault ≡ 0 → r₂.fault ≡ 0 → (ws₁ ≡ words_at text r.at → ws ≡ words_at text r₂.at) → r₂.count ≡ r.count
    → Ends E text ws cs c cs₁ f P r₂ m
ends-passed (good a) (ended e here app pa) z z₂ moves b = ended {b = a} z₂ (moves here) (λ x. rw b (app x)) pa
ends-passed (wrong n w) (failed e nz at len) z z₂ moves b = absurd (nz (sym e ∙ z))

-- another way to say the cells and the property
pub ends_same : {E A : Type 0} {text : List ℕ} {ws : List Word} {cs : List ℕ} {c : ℕ} {cs' : List ℕ} {f : A → List ℕ} {P : A → Type 0} {r : DoneTold} (h : A → List ℕ) (R : A → Type 0) (m : Checked A)
    → Ends E text ws cs c cs' f P r m → ((a : A) → P a → (h a ≡ f a) × R a) → Ends E text ws cs c cs' h R r m
ends_same h R (good a) (ended e here app pa) q = ended {b = a} e here (λ x. rw (q a pa).0 (app x)) (q a pa).1
ends_same h R (wrong n w) (failed e nz at len) q = failed e nz at len

-- a part, then another
pub ends-then : {E A B C : Type 0} {text : List ℕ} {ws₁ : List Word} {cs : List ℕ} {c : ℕ} {cs₁ : List ℕ} {f : A → List ℕ} {P : A → Type 0} {r₁ : DoneTold} {ws : List Word} {cs₂ : List ℕ} {r₂ : DoneTold}
    (g : A → B → List ℕ) (Q : A → B → Type 0) (h : C → List ℕ) (R : C → Type 0) (v : A → B → C) (m : Checked A) (k : A → Checked B)
    → Ends E text ws₁ cs c cs₁ f P r₁ m → r₁.fault ≡ 0
    → ((a : A) → ws₁ ≡ words_at text r₁.at → P a → Ends E text ws cs₁ r₁.count cs₂ (g a) (Q a) r₂ (k a))
    → ((a : A) (b : B) → P a → Q a b → (h (v a b) ≡ f a ++ g a b) × R (v a b))
    → Ends E text ws cs c cs₂ h R r₂ (◌>>=◌ m (λ a. ◌>>=◌ (k a) (λ b. good (v a b))))
ends-then {E} {A} {B} {C} {text} {ws₁} {cs} {c} {cs₁} {f} {P} {r₁} {ws} {cs₂} {r₂} g Q h R v (good a) k (ended e here app pa) z next joins = go (k a) (next a here pa)
  where
    go : (x : Checked B) → Ends E text ws cs₁ r₁.count cs₂ (g a) (Q a) r₂ x → Ends E text ws cs c cs₂ h R r₂ (◌>>=◌ x (λ b. good (v a b)))
    go (good b) (ended e₂ here₂ app₂ qb) = ended {b = v a b} e₂ here₂ (λ x. rw (joins a b pa qb).0 (appends-then (app x) (app₂ x))) (joins a b pa qb).1
    go (wrong n w) (failed e₂ nz at len) = failed e₂ nz at len
ends-then g Q h R v (wrong n w) k (failed e nz at len) z next joins = absurd (nz (sym e ∙ z))

-- Labels

-- the labels so far, whatever their order
pub member-more : (old vs seen : List ℕ) → ((v : ℕ) → member v old ≡ member v seen) → (v : ℕ) → member v (vs ++ old) ≡ member v (seen ++ vs)
member-more old vs seen q v =
    member-append v vs old ∙ or_comm (member v vs) (member v old) ∙ ap (λ b. b || member v vs) (q v) ∙ sym (member-append v seen vs)
