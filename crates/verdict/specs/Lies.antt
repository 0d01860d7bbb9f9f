-- The program's cells as a relation that a scan takes apart cell by cell, for programs whose operations are in their ranges.
use Rattle.std.specs.Prelude.{List, ◌∷◌, ◌≡◌, ℕ, ◌+◌, ◌<◌, ◌≤◌, length, take, drop}
use Rattle.base.specs.Tree.{plain, cycle, choice, done, ◌▸◌, nil, alternative, absent, otherwise}
use Rattle.program.specs.Program.{Plain, match, any, emit, error, exit, call, back, give, update, update_with, Selector, by_token, by_rule, by_operation, by_operation_with, Act, Acts, Alts, Other, Rule, body_of}
use Rattle.cells.specs.Cells.{plain_cells}

-- an operation's number says its sort: a choice operation or an update, with a constant or without
unfoldable pub RangePlain : Plain → Type 0
RangePlain (match t) = Unit {0}
RangePlain any = Unit {0}
RangePlain (emit t) = Unit {0}
RangePlain (error t) = Unit {0}
RangePlain exit = Unit {0}
RangePlain (call r) = Unit {0}
RangePlain back = Unit {0}
RangePlain (give v) = Unit {0}
RangePlain (update op) = (256 ≤ op) × (op < 512)
RangePlain (update_with op v) = (512 ≤ op) × (op < 768)

unfoldable pub RangeSelector : Selector → Type 0
RangeSelector by_token = Unit {0}
RangeSelector (by_rule r) = Unit {0}
RangeSelector (by_operation op) = (768 ≤ op) × (op < 1024)
RangeSelector (by_operation_with op v) = (1024 ≤ op) × (op < 1280)

unfoldable mutual
  pub Range : Act → Type 0
  Range (plain p) = RangePlain p
  Range (cycle b) = Ranges b
  Range (choice s q o) = RangeSelector s × RangeAlts q × RangeOther o

  pub Ranges : Acts → Type 0
  Ranges done = Unit {0}
  Ranges (a ▸ q) = Range a × Ranges q

  pub RangeAlts : Alts → Type 0
  RangeAlts nil = Unit {0}
  RangeAlts (alternative ls b q) = Ranges b × RangeAlts q

  pub RangeOther : Other → Type 0
  RangeOther absent = Unit {0}
  RangeOther (otherwise b) = Ranges b

-- how many labels alternatives have
unfoldable pub labelled : Alts → ℕ
labelled nil = 0
labelled (alternative ls b q) = length ls + labelled q

-- no choice has more than 64 labels
unfoldable mutual
  pub Few : Act → Type 0
  Few (plain p) = Unit {0}
  Few (cycle b) = FewAll b
  Few (choice s q o) = (labelled q ≤ 64) × FewSome q × FewOther o

  pub FewAll : Acts → Type 0
  FewAll done = Unit {0}
  FewAll (a ▸ q) = Few a × FewAll q

  pub FewSome : Alts → Type 0
  FewSome nil = Unit {0}
  FewSome (alternative ls b q) = FewAll b × FewSome q

  pub FewOther : Other → Type 0
  FewOther absent = Unit {0}
  FewOther (otherwise b) = FewAll b

-- every operation of the program is in its range, and no choice has more than 64 labels
pub record InRange (prog : List Rule) : Type 0 where
  pub bodies : (r : ℕ) → r < length prog → Ranges (body_of prog r)
  pub labels : (r : ℕ) → r < length prog → FewAll (body_of prog r)

-- the cells are those of an action, and k behind them
mutual
  pub data Lies : List ℕ → Act → List ℕ → Type 0 where
    lies_plain : {p : Plain} {l k : List ℕ} → l ≡ plain_cells p k → RangePlain p → Lies l (plain p) k
    lies_cycle : {b : Acts} {l k : List ℕ} → LiesAll l b k → Lies (2 ∷ l) (cycle b) k
    lies_token : {q : Alts} {o : Other} {l k : List ℕ} → LiesRest l q o k → Lies (7 ∷ l) (choice by_token q o) k
    lies_rule : {r : ℕ} {q : Alts} {o : Other} {l k : List ℕ} → labelled q ≤ 64 → LiesRest l q o k → Lies (11 ∷ r ∷ l) (choice (by_rule r) q o) k
    lies_operation : {op : ℕ} {q : Alts} {o : Other} {l k : List ℕ} → 768 ≤ op → op < 1024 → LiesRest l q o k → Lies (op ∷ l) (choice (by_operation op) q o) k
    lies_operation_with : {op v : ℕ} {q : Alts} {o : Other} {l k : List ℕ} → 1024 ≤ op → op < 1280 → LiesRest l q o k → Lies (op ∷ v ∷ l) (choice (by_operation_with op v) q o) k

  pub data LiesAll : List ℕ → Acts → List ℕ → Type 0 where
    lies_done : {k : List ℕ} → LiesAll (0 ∷ k) done k
    lies_next : {a : Act} {q : Acts} {l m k : List ℕ} → Lies l a m → LiesAll m q k → LiesAll l (a ▸ q) k

  -- alternatives, their labels as they stand, and what stands for otherwise
  pub data LiesRest : List ℕ → Alts → Other → List ℕ → Type 0 where
    lies_absent : {k : List ℕ} → LiesRest (12 ∷ k) nil absent k
    lies_absent_token : {k : List ℕ} → LiesRest (14 ∷ k) nil absent k
    lies_otherwise : {b : Acts} {l k : List ℕ} → LiesAll l b k → LiesRest (13 ∷ l) nil (otherwise b) k
    lies_alternative : {t : ℕ} {ls : List ℕ} {b : Acts} {q : Alts} {o : Other} {l m k : List ℕ} (n : ℕ)
        → t ≡ 64 + n → take n l ≡ ls → LiesAll (drop n l) b m → LiesRest m q o k → LiesRest (t ∷ l) (alternative ls b q) o k
