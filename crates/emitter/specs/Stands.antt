-- What stands in a row of cells, by places: the encoding of crate cells read backwards, with the ranges that tell one cell from another.
use Rattle.std.specs.Prelude.{ℕ, ◌+◌, ◌<◌, ◌≤◌, ◌≡◌, List, [], ◌∷◌, length, get_or}
use Rattle.base.specs.Tree.{plain, cycle, choice, done, ◌▸◌, nil, alternative, absent, otherwise}
use Rattle.program.specs.Program.{Plain, match, any, emit, error, exit, call, back, give, update, update_with, Selector, by_token, by_rule, by_operation, by_operation_with, Act, Acts, Alts, Other}
use Rattle.program.specs.Accepted.{NeedsLabel}
use Rattle.cells.specs.Cells.{absent_cell}

pub data IsSel (cs : List ℕ) (n : ℕ) : ℕ → ℕ → Selector → Type 0 where
  sel_token : {p e : ℕ} → e ≡ p + 1 → e ≤ length cs → get_or cs p 0 ≡ 7 → IsSel cs n p e by_token
  sel_rule : {p e r : ℕ} → e ≡ p + 2 → e ≤ length cs → get_or cs p 0 ≡ 11 → get_or cs (p + 1) 0 ≡ r → r < n → IsSel cs n p e (by_rule r)
  sel_op : {p e op : ℕ} → e ≡ p + 1 → e ≤ length cs → get_or cs p 0 ≡ op → 768 ≤ op → op < 1024 → IsSel cs n p e (by_operation op)
  sel_op_with : {p e op v : ℕ} → e ≡ p + 2 → e ≤ length cs → get_or cs p 0 ≡ op → get_or cs (p + 1) 0 ≡ v → 1024 ≤ op → op < 1280 → IsSel cs n p e (by_operation_with op v)

pub data Labels (cs : List ℕ) : ℕ → List ℕ → Type 0 where
  lab_none : {p : ℕ} → Labels cs p []
  lab_more : {p v : ℕ} {ls : List ℕ} → get_or cs p 0 ≡ v → Labels cs (p + 1) ls → Labels cs p (v ∷ ls)

pub data IsPlain (cs : List ℕ) (n : ℕ) : ℕ → ℕ → Plain → Type 0 where
  is_match : {p e t : ℕ} → e ≡ p + 2 → e ≤ length cs → get_or cs p 0 ≡ 3 → get_or cs (p + 1) 0 ≡ t → IsPlain cs n p e (match t)
  is_any : {p e : ℕ} → e ≡ p + 1 → e ≤ length cs → get_or cs p 0 ≡ 4 → IsPlain cs n p e any
  is_emit : {p e t : ℕ} → e ≡ p + 2 → e ≤ length cs → get_or cs p 0 ≡ 5 → get_or cs (p + 1) 0 ≡ t → IsPlain cs n p e (emit t)
  is_error : {p e t : ℕ} → e ≡ p + 2 → e ≤ length cs → get_or cs p 0 ≡ 6 → get_or cs (p + 1) 0 ≡ t → IsPlain cs n p e (error t)
  is_exit : {p e : ℕ} → e ≡ p + 1 → e ≤ length cs → get_or cs p 0 ≡ 1 → IsPlain cs n p e exit
  is_called : {p e r : ℕ} → e ≡ p + 2 → e ≤ length cs → get_or cs p 0 ≡ 8 → get_or cs (p + 1) 0 ≡ r → r < n → IsPlain cs n p e (call r)
  is_back : {p e : ℕ} → e ≡ p + 1 → e ≤ length cs → get_or cs p 0 ≡ 9 → IsPlain cs n p e back
  is_give : {p e v : ℕ} → e ≡ p + 2 → e ≤ length cs → get_or cs p 0 ≡ 10 → get_or cs (p + 1) 0 ≡ v → IsPlain cs n p e (give v)
  is_update : {p e op : ℕ} → e ≡ p + 1 → e ≤ length cs → get_or cs p 0 ≡ op → 256 ≤ op → op < 512 → IsPlain cs n p e (update op)
  is_update_with : {p e op v : ℕ} → e ≡ p + 2 → e ≤ length cs → get_or cs p 0 ≡ op → get_or cs (p + 1) 0 ≡ v → 512 ≤ op → op < 768 → IsPlain cs n p e (update_with op v)

-- n rules; from cell p up to cell e stands ..
mutual
  pub data Is (cs : List ℕ) (n : ℕ) : ℕ → ℕ → Act → Type 0 where
    is_plain : {p e : ℕ} {a : Plain} → IsPlain cs n p e a → Is cs n p e (plain a)
    is_cycle : {p e : ℕ} {b : Acts} → p < length cs → get_or cs p 0 ≡ 2 → IsAll cs n (p + 1) e b → Is cs n p e (cycle b)
    is_a_choice : {p e f g : ℕ} {s : Selector} {q : Alts} {o : Other} → IsSel cs n p f s → IsAlts cs n f g q → IsOther cs n s g e o → NeedsLabel s o q → Is cs n p e (choice s q o)

  pub data IsAlts (cs : List ℕ) (n : ℕ) : ℕ → ℕ → Alts → Type 0 where
    is_nil : {p e : ℕ} → e ≡ p → IsAlts cs n p e nil
    is_alt : {p e f : ℕ} {ls : List ℕ} {b : Acts} {q : Alts} → get_or cs p 0 ≡ 64 + length ls → 0 < length ls → length ls < 192 → Labels cs (p + 1) ls → IsAll cs n (p + (1 + length ls)) f b → IsAlts cs n f e q → IsAlts cs n p e (alternative ls b q)

  pub data IsOther (cs : List ℕ) (n : ℕ) : Selector → ℕ → ℕ → Other → Type 0 where
    is_stop : {s : Selector} {p e : ℕ} → e ≡ p + 1 → e ≤ length cs → get_or cs p 0 ≡ absent_cell s → IsOther cs n s p e absent
    is_other : {s : Selector} {p e : ℕ} {b : Acts} → p < length cs → get_or cs p 0 ≡ 13 → IsAll cs n (p + 1) e b → IsOther cs n s p e (otherwise b)

  pub data IsAll (cs : List ℕ) (n : ℕ) : ℕ → ℕ → Acts → Type 0 where
    is_done : {p e : ℕ} → e ≡ p + 1 → e ≤ length cs → get_or cs p 0 ≡ 0 → IsAll cs n p e done
    is_cons : {p e m : ℕ} {a : Act} {q : Acts} → Is cs n p m a → IsAll cs n m e q → IsAll cs n p e (a ▸ q)
