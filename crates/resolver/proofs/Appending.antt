-- Laws of appending cells.
use mathlib.Core.Bool.{Bool, true, false}
use mathlib.Core.List.{List, [], ◌∷◌, ◌++◌}
use mathlib.Core.Logic.{◌⊎◌, inl, inr}
use mathlib.Core.Path.{◌≡◌, refl, sym, ap, ◌∙◌}
use Prim.Native.Nat.{ℕ, zero, suc, ◌+◌, ◌<◌, ◌≤◌}
use native.Mathlib.Nat.{add-zero}
use native.Mathlib.Omega.{arith}
use lib.ListN.{length, drop, set, length-append}
use lib.Seq.{sets, length-sets, sets-eq, set_out}
use Rattle.std.specs.Prelude.{Option as Answer, Some, None, IfSome, unwrap_or}
use Rattle.cells.specs.Cells.{plain_cells, selector_cells}
use Rattle.program.specs.Program.{Plain, match, any, emit, error, exit, call, back, give, update, update_with, Selector, by_token, by_rule, by_operation, by_operation_with}
use Rattle.resolver.specs.Parts.{operation_cells}
use Rattle.resolver.specs.Resolved.{Appends}

pub small-value : (o : Answer ℕ) → unwrap_or o 0 < 65536 → IfSome o (λ v. v < 65536)
small-value None h = tt
small-value (Some v) h = h

side : (a b : ℕ) → (a ≤ b) ⊎ (b < a)
side zero b = inl (omega arith)
side (suc a) zero = inr (omega arith)
side (suc a) (suc b) = go (side a b)
  where
    go : (a ≤ b) ⊎ (b < a) → (suc a ≤ suc b) ⊎ (suc b < suc a)
    go (inl h) = inl (omega arith)
    go (inr h) = inr (omega arith)

sets-past : (l : List ℕ) (i : ℕ) (vs : List ℕ) → length l ≤ i → sets l i vs ≡ l
sets-past l i [] h = refl
sets-past l i (a ∷ vs) h = ap (λ (k : List ℕ). sets k (suc i) vs) (set_out l i a h) ∙ sets-past l (suc i) vs (omega arith)

sets_then : (l : List ℕ) (i : ℕ) (a b : List ℕ) → sets (sets l i a) (i + length a) b ≡ sets l i (a ++ b)
sets_then l i [] b = rw add-zero
sets_then l i (x ∷ a) b =
    let e : i + suc (length a) ≡ suc i + length a = omega arith in
    rw e (sets_then (set l i x) (suc i) a b)

pub appends-length : {cs xs cs' : List ℕ} {c c' : ℕ} → Appends cs c xs cs' c' → length cs' ≡ length cs
appends-length {cs} {xs} {cs'} {c} {c'} h = ap length h.cells ∙ length-sets cs c xs

-- the count is never more than one above the room
pub appends-bound : {cs xs cs' : List ℕ} {c c' : ℕ} → Appends cs c xs cs' c' → c' ≤ suc (length cs)
appends-bound h = omega (arith, h.count)

pub appends-none : (cs : List ℕ) (c : ℕ) → c ≤ suc (length cs) → Appends cs c [] cs c
appends-none cs c h = record { cells = refl; count = omega arith }

pub appends-one : (cs : List ℕ) (c x : ℕ) → c < length cs → Appends cs c (x ∷ []) (set cs c x) (c + 1)
appends-one cs c x h = record { cells = refl; count = omega arith }

pub appends-past : (cs : List ℕ) (c x : ℕ) → length cs ≤ c → Appends cs c (x ∷ []) cs (length cs + 1)
appends-past cs c x h = record { cells = sym (set_out cs c x h); count = omega arith }

pub appends-then : {cs xs ys cs₁ cs₂ : List ℕ} {c c₁ c₂ : ℕ} → Appends cs c xs cs₁ c₁ → Appends cs₁ c₁ ys cs₂ c₂ → Appends cs c (xs ++ ys) cs₂ c₂
appends-then {cs} {xs} {ys} {cs₁} {cs₂} {c} {c₁} {c₂} h g = record { cells = go (side (c + length xs) (length cs)); count = omega (arith, h.count, g.count, appends-length h, length-append xs ys) }
  where
    go : (c + length xs ≤ length cs) ⊎ (length cs < c + length xs) → cs₂ ≡ sets cs c (xs ++ ys)
    go (inl q) =
        let e : c₁ ≡ c + length xs = omega (arith, h.count) in
        g.cells ∙ ap (λ (k : ℕ). sets cs₁ k ys) e ∙ ap (λ (k : List ℕ). sets k (c + length xs) ys) h.cells ∙ sets_then cs c xs ys
    go (inr q) =
        let e : c₁ ≡ suc (length cs) = omega (arith, h.count) in
        g.cells ∙ sets-past cs₁ c₁ ys (omega (arith, appends-length h)) ∙ h.cells
        ∙ sym (sets-past (sets cs c xs) (c + length xs) ys (omega (arith, length-sets cs c xs))) ∙ sets_then cs c xs ys

-- from an empty row: all the cells, where they fit
pub appends-whole : {cs xs cs' : List ℕ} {c' : ℕ} → Appends cs 0 xs cs' c' → c' ≤ length cs → (length xs ≡ c') × (cs' ≡ xs ++ drop (length xs) cs)
appends-whole {cs} {xs} {cs'} {c'} h q =
    let e : length xs ≡ c' = omega (arith, h.count) in
    let z : 0 + length xs ≡ length xs = omega arith in
    (e, h.cells ∙ sets-eq xs cs 0 (omega arith) ∙ ap (λ (k : ℕ). xs ++ drop k cs) z)

pub appends-over : {cs xs cs' : List ℕ} {c' : ℕ} → Appends cs 0 xs cs' c' → length cs < c' → length cs < length xs
appends-over {cs} {xs} {cs'} {c'} h q = omega (arith, h.count)

-- Cells before others

pub plain-behind : (b : Plain) (k : List ℕ) → plain_cells b k ≡ plain_cells b [] ++ k
unfolding plain_cells
plain-behind (match t) k = refl
plain-behind any k = refl
plain-behind (emit t) k = refl
plain-behind (error t) k = refl
plain-behind exit k = refl
plain-behind (call r) k = refl
plain-behind back k = refl
plain-behind (give v) k = refl
plain-behind (update op) k = refl
plain-behind (update_with op v) k = refl

pub selector-behind : (s : Selector) (k : List ℕ) → selector_cells s k ≡ selector_cells s [] ++ k
unfolding selector_cells
selector-behind by_token k = refl
selector-behind (by_rule r) k = refl
selector-behind (by_operation op) k = refl
selector-behind (by_operation_with op v) k = refl

-- An operation's cells

pub operation-with : {cs cs' : List ℕ} {c c' op op' v : ℕ} (b : Bool) → op' ≡ op → b ≡ true → Appends cs c (op' ∷ v ∷ []) cs' c' → Appends cs c (operation_cells op b v) cs' c'
unfolding operation_cells
operation-with true e q h = rw (← e) h
operation-with false e q h = let z : ◌≡◌ {A = ℕ} 0 1 = cc in absurd (omega arith)

pub operation-alone : {cs cs' : List ℕ} {c c' op op' : ℕ} (b : Bool) (v : ℕ) → op' ≡ op → b ≡ false → Appends cs c (op' ∷ []) cs' c' → Appends cs c (operation_cells op b v) cs' c'
unfolding operation_cells
operation-alone false v e q h = rw (← e) h
operation-alone true v e q h = let z : ◌≡◌ {A = ℕ} 0 1 = cc in absurd (omega arith)

-- the same second cell
pub appends-same : {cs cs' : List ℕ} {c c' x y y' : ℕ} → y' ≡ y → Appends cs c (x ∷ y' ∷ []) cs' c' → Appends cs c (x ∷ y ∷ []) cs' c'
appends-same e h = rw (← e) h
