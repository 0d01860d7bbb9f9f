-- Rows put one behind the other.
use mathlib.Core.List.{List, [], ◌∷◌, ◌++◌}
use mathlib.Core.Logic.{◌⊎◌, inl, inr}
use mathlib.Core.Path.{◌≡◌, refl, sym, ap, ◌∙◌}
use Prim.Native.Nat.{ℕ, zero, suc, ◌+◌, ◌-◌, ◌*◌, ◌%◌, ◌<◌, ◌≤◌}
use native.Mathlib.Omega.{arith}
use lib.Dec.{eqb}
use lib.ListN.{length, get_or, set, length-append, length-set, get_or-append}
use lib.Seq.{get_or-set_same, get_or-set_other, get_or-append-add}
use Rattle.base.proofs.Laws.{lt-or-le}
use Rattle.std.specs.Prelude.{if◌then◌else◌}
use Rattle.carrier.specs.Held.{number_held, name_held}
use Rattle.carry.specs.Carry.{Name, written, made, name_of}
use Rattle.rulerows.specs.Filled.{set_row, Puts, WrittenPut}
use Rattle.rulerows.specs.declared.Row.{Row}
use Rattle.symbols.specs.Rows.{decl_at}
use Rattle.symbols.specs.Search.{part}

-- Numbers of a sheet

numbers-same : (a b : List ℕ) (i n : ℕ) → ((j : ℕ) → j < 6 * i + 6 → get_or b j 0 ≡ get_or a j 0) → n < 6 → number_held b i n ≡ number_held a i n
unfolding number_held
numbers-same a b i n f h = f (6 * i + n) (omega (arith, h))

-- a name by its five numbers
abbrev pub name_by : List ℕ → ℕ → ℕ → ℕ → ℕ → ℕ → Name
name_by text a b c d l = if eqb l 0 then written (part text a b) else made (part text a b) (part text c d) l

name_by_lem : (text sheet : List ℕ) (i : ℕ) {a b c d l : ℕ} → number_held sheet i 1 ≡ a → number_held sheet i 2 ≡ b → number_held sheet i 3 ≡ c → number_held sheet i 4 ≡ d → number_held sheet i 5 ≡ l
    → name_held text sheet i ≡ name_by text a b c d l
unfolding name_held
name_by_lem text sheet i p q r s t = λ j. name_by text (p j) (q j) (r j) (s j) (t j)

name-as : (text sheet : List ℕ) (i : ℕ) → name_held text sheet i ≡ name_by text (number_held sheet i 1) (number_held sheet i 2) (number_held sheet i 3) (number_held sheet i 4) (number_held sheet i 5)
unfolding name_held
name-as text sheet i = refl

name-same : (text a b : List ℕ) (i : ℕ) → ((j : ℕ) → j < 6 * i + 6 → get_or b j 0 ≡ get_or a j 0) → name_held text b i ≡ name_held text a i
name-same text a b i f =
    name_by_lem text b i (numbers-same a b i 1 f (omega arith)) (numbers-same a b i 2 f (omega arith)) (numbers-same a b i 3 f (omega arith)) (numbers-same a b i 4 f (omega arith))
    (numbers-same a b i 5 f (omega arith)) ∙ sym (name-as text a i)

-- One row

-- row k is r, and what stood before it stays
pub record RowPut (sheet sheet' : List ℕ) (k : ℕ) (r : Row) : Type 0 where
  pub kept : (j : ℕ) → j < 6 * k → get_or sheet' j 0 ≡ get_or sheet j 0
  pub location : number_held sheet' k 0 ≡ r.location
  pub start : number_held sheet' k 1 ≡ r.start
  pub len : number_held sheet' k 2 ≡ r.len
  pub operand : number_held sheet' k 3 ≡ r.operand
  pub size : number_held sheet' k 4 ≡ r.size
  pub level : number_held sheet' k 5 ≡ r.level

below_set : (l : List ℕ) (i j v : ℕ) → j < i → get_or (set l i v) j 0 ≡ get_or l j 0
below_set l i j v h = get_or-set_other l i j v 0 (λ e. omega (arith, e, h))

module _ (s : List ℕ) (i : ℕ) (r : Row) (room : i + 6 ≤ length s) where
  abbrev s₁ : List ℕ
  s₁ = set s i r.location

  abbrev s₂ : List ℕ
  s₂ = set s₁ (i + 1) r.start

  abbrev s₃ : List ℕ
  s₃ = set s₂ (i + 2) r.len

  abbrev s₄ : List ℕ
  s₄ = set s₃ (i + 3) r.operand

  abbrev s₅ : List ℕ
  s₅ = set s₄ (i + 4) r.size

  abbrev s₆ : List ℕ
  s₆ = set s₅ (i + 5) r.level

  kept₅ : (j : ℕ) → j < i + 5 → get_or s₆ j 0 ≡ get_or s₅ j 0
  kept₅ j h = below_set s₅ (i + 5) j r.level h

  kept₄ : (j : ℕ) → j < i + 4 → get_or s₆ j 0 ≡ get_or s₄ j 0
  kept₄ j h = kept₅ j (omega (arith, h)) ∙ below_set s₄ (i + 4) j r.size h

  kept₃ : (j : ℕ) → j < i + 3 → get_or s₆ j 0 ≡ get_or s₃ j 0
  kept₃ j h = kept₄ j (omega (arith, h)) ∙ below_set s₃ (i + 3) j r.operand h

  kept₂ : (j : ℕ) → j < i + 2 → get_or s₆ j 0 ≡ get_or s₂ j 0
  kept₂ j h = kept₃ j (omega (arith, h)) ∙ below_set s₂ (i + 2) j r.len h

  kept₁ : (j : ℕ) → j < i + 1 → get_or s₆ j 0 ≡ get_or s₁ j 0
  kept₁ j h = kept₂ j (omega (arith, h)) ∙ below_set s₁ (i + 1) j r.start h

  kept₀ : (j : ℕ) → j < i → get_or s₆ j 0 ≡ get_or s j 0
  kept₀ j h = kept₁ j (omega (arith, h)) ∙ below_set s i j r.location h

  long₁ : length s₁ ≡ length s
  long₁ = length-set s i r.location

  long₂ : length s₂ ≡ length s
  long₂ = length-set s₁ (i + 1) r.start ∙ long₁

  long₃ : length s₃ ≡ length s
  long₃ = length-set s₂ (i + 2) r.len ∙ long₂

  long₄ : length s₄ ≡ length s
  long₄ = length-set s₃ (i + 3) r.operand ∙ long₃

  long₅ : length s₅ ≡ length s
  long₅ = length-set s₄ (i + 4) r.size ∙ long₄

  six : (get_or s₆ i 0 ≡ r.location) × (get_or s₆ (i + 1) 0 ≡ r.start) × (get_or s₆ (i + 2) 0 ≡ r.len) × (get_or s₆ (i + 3) 0 ≡ r.operand) × (get_or s₆ (i + 4) 0 ≡ r.size)
      × (get_or s₆ (i + 5) 0 ≡ r.level)
  six = (
    kept₁ i (omega arith) ∙ get_or-set_same s i r.location 0 (omega (arith, room)),
    kept₂ (i + 1) (omega arith) ∙ get_or-set_same s₁ (i + 1) r.start 0 (omega (arith, room, long₁)),
    kept₃ (i + 2) (omega arith) ∙ get_or-set_same s₂ (i + 2) r.len 0 (omega (arith, room, long₂)),
    kept₄ (i + 3) (omega arith) ∙ get_or-set_same s₃ (i + 3) r.operand 0 (omega (arith, room, long₃)),
    kept₅ (i + 4) (omega arith) ∙ get_or-set_same s₄ (i + 4) r.size 0 (omega (arith, room, long₄)),
    get_or-set_same s₅ (i + 5) r.level 0 (omega (arith, room, long₅)),
  )

pub row_put : {sheet sheet' : List ℕ} {k : ℕ} {r : Row} → 6 * k + 6 ≤ length sheet → sheet' ≡ set_row sheet (6 * k) r → RowPut sheet sheet' k r
unfolding number_held
row_put {sheet} {sheet'} {k} {r} room e =
    let x = six sheet (6 * k) r room in
    let z : 6 * k + 0 ≡ 6 * k = omega arith in
    rw e (record {
      kept = kept₀ sheet (6 * k) r room;
      location = ap (λ (j : ℕ). get_or (set_row sheet (6 * k) r) j 0) z ∙ x.0;
      start = x.1;
      len = x.2;
      operand = x.3;
      size = x.4;
      level = x.5;
    })

row-name : (text : List ℕ) {sheet sheet' : List ℕ} {k : ℕ} {r : Row} → RowPut sheet sheet' k r
    → name_held text sheet' k ≡ name_by text r.start r.len r.operand r.size r.level
row-name text {sheet' = sheet'} {k} p = name_by_lem text sheet' k p.start p.len p.operand p.size p.level

-- Rows behind rows

pub puts_none : {text places sheet : List ℕ} {k : ℕ} → Puts text places sheet sheet k []
puts_none = record { kept = λ j _. refl; located = λ i h. absurd (omega (arith, h)); named = λ i h. absurd (omega (arith, h)) }

module _ {text places a b c : List ℕ} {k m : ℕ} {xs ys : List Name} (p : Puts text places a b k xs) (q : Puts text places b c m ys) (e : m ≡ k + length xs) where
  still : (i : ℕ) → i < length xs → (j : ℕ) → j < 6 * (k + i) + 6 → get_or c j 0 ≡ get_or b j 0
  still i h j l = q.kept j (omega (arith, h, l, e))

  behind : (i : ℕ) → length xs ≤ i → k + i ≡ m + (i - length xs)
  behind i h = omega (arith, h, e)

  over : (i : ℕ) → i < length (xs ++ ys) → length xs ≤ i → i - length xs < length ys
  over i h l = omega (arith, h, l, length-append xs ys)

  location-then : (i : ℕ) → i < length (xs ++ ys) → (i < length xs) ⊎ (length xs ≤ i) → number_held c (k + i) 0 ≡ get_or places (k + i) 0 % 65536
  location-then i h (inl l) = numbers-same b c (k + i) 0 (still i l) (omega arith) ∙ p.located i l
  location-then i h (inr l) =
      ap (λ (j : ℕ). number_held c j 0) (behind i l) ∙ q.located (i - length xs) (over i h l) ∙ ap (λ (j : ℕ). get_or places j 0 % 65536) (sym (behind i l))

  name-then : (i : ℕ) → i < length (xs ++ ys) → (i < length xs) ⊎ (length xs ≤ i) → name_held text c (k + i) ≡ name_of (xs ++ ys) i
  unfolding name_of
  name-then i h (inl l) = name-same text b c (k + i) (still i l) ∙ p.named i l ∙ sym (get_or-append xs ys (written []) i l)
  name-then i h (inr l) =
      let z : length xs + (i - length xs) ≡ i = omega (arith, l) in
      ap (λ (j : ℕ). name_held text c j) (behind i l) ∙ q.named (i - length xs) (over i h l) ∙ sym (get_or-append-add xs ys (i - length xs) (written [])) ∙ ap (λ (j : ℕ). get_or (xs ++ ys) j (written [])) z

  pub puts_then : Puts text places a c k (xs ++ ys)
  puts_then = record {
    kept = λ j h. q.kept j (omega (arith, h, e)) ∙ p.kept j h;
    located = λ i h. location-then i h (lt-or-le i (length xs));
    named = λ i h. name-then i h (lt-or-le i (length xs));
  }

pub puts-row : {text places sheet sheet' : List ℕ} {k : ℕ} {r : Row} {n : Name} → RowPut sheet sheet' k r → r.location ≡ get_or places k 0 % 65536
    → name_by text r.start r.len r.operand r.size r.level ≡ n → Puts text places sheet sheet' k (n ∷ [])
unfolding name_of
puts-row {text} {places} {sheet} {sheet'} {k} {r} {n} p e f = record { kept = p.kept; located = located; named = named }
  where
    here : k + 0 ≡ k
    here = omega arith

    located : (i : ℕ) → i < 1 → number_held sheet' (k + i) 0 ≡ get_or places (k + i) 0 % 65536
    located zero h = ap (λ (j : ℕ). number_held sheet' j 0) here ∙ p.location ∙ e ∙ ap (λ (j : ℕ). get_or places j 0 % 65536) (sym here)
    located (suc i) h = absurd (omega (arith, h))

    named : (i : ℕ) → i < 1 → name_held text sheet' (k + i) ≡ get_or (n ∷ []) i (written [])
    named zero h = ap (λ (j : ℕ). name_held text sheet' j) here ∙ row-name text p ∙ f
    named (suc i) h = absurd (omega (arith, h))

-- The rules written

pub written_none : {rows : List ℕ} {first : ℕ} {places sheet : List ℕ} → WrittenPut rows first places 0 sheet
written_none = record { located = λ i h. absurd (omega (arith, h)); named = λ text i h. absurd (omega (arith, h)) }

module _ {rows : List ℕ} {first : ℕ} {places sheet sheet' : List ℕ} {k : ℕ} {r : Row} (w : WrittenPut rows first places k sheet) (p : RowPut sheet sheet' k r) (e : r.location ≡ get_or places k 0 % 65536)
    (s : r.start ≡ get_or rows (8 * (first + k) + 2) 0) (l : r.len ≡ get_or rows (8 * (first + k) + 3) 0) (z : r.level ≡ 0) where
  earlier : (i : ℕ) → i < k → (j : ℕ) → j < 6 * i + 6 → get_or sheet' j 0 ≡ get_or sheet j 0
  earlier i h j q = p.kept j (omega (arith, h, q))

  own-location : (i : ℕ) → i < k + 1 → (i < k) ⊎ (k ≤ i) → number_held sheet' i 0 ≡ get_or places i 0 % 65536
  own-location i h (inl q) = numbers-same sheet sheet' i 0 (earlier i q) (omega arith) ∙ w.located i q
  own-location i h (inr q) =
      let o : i ≡ k = omega (arith, h, q) in
      ap (λ (j : ℕ). number_held sheet' j 0) o ∙ p.location ∙ e ∙ ap (λ (j : ℕ). get_or places j 0 % 65536) (sym o)

  own_name : (text : List ℕ) (i : ℕ) → i < k + 1 → (i < k) ⊎ (k ≤ i) → name_held text sheet' i ≡ written (decl_at text rows (first + i)).name.text
  unfolding decl_at
  own_name text i h (inl q) = name-same text sheet sheet' i (earlier i q) ∙ w.named text i q
  own_name text i h (inr q) =
      let o : i ≡ k = omega (arith, h, q) in
      ap (λ (j : ℕ). name_held text sheet' j) o ∙ row-name text p ∙ by_level z
      ∙ ap (λ (j : ℕ). written (part text j r.len)) s ∙ ap (λ (j : ℕ). written (part text (get_or rows (8 * (first + k) + 2) 0) j)) l
      ∙ ap (λ (j : ℕ). written (part text (get_or rows (8 * (first + j) + 2) 0) (get_or rows (8 * (first + j) + 3) 0))) (sym o)
    where
      by_level : {v : ℕ} → v ≡ 0 → name_by text r.start r.len r.operand r.size v ≡ written (part text r.start r.len)
      by_level y = ap (name_by text r.start r.len r.operand r.size) y

  pub written-more : WrittenPut rows first places (k + 1) sheet'
  written-more = record { located = λ i h. own-location i h (lt-or-le i k); named = λ text i h. own_name text i h (lt-or-le i k) }

pub written-end : {rows : List ℕ} {first : ℕ} {places sheet : List ℕ} {k n : ℕ} → k ≡ n → WrittenPut rows first places k sheet → WrittenPut rows first places n sheet
written-end e w = rw e at w
