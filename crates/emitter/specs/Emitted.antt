-- What the emitter is for: the cells of a program become its table in the lent bytes, if it fits.
use Rattle.std.specs.Prelude.{ℕ, ◌+◌, ◌*◌, ◌-◌, ◌<◌, ◌≤◌, ◌≡◌, Bool, false, ◌&&◌, List, [], ◌∷◌, ◌++◌, leb, length, get_or, drop, replicate, set, if◌then◌else◌, Result, Ok, Err}
use Rattle.base.specs.Tree.{plain, cycle, choice, done, ◌▸◌, nil, alternative, absent, otherwise}
use Rattle.program.specs.Program.{Act, Acts, Alts, Other, Rule, rule_of, body_of}
use Rattle.program.specs.Table.{size_rules, table}
use Rattle.program.specs.Accepted.{Oks}
use Rattle.cells.specs.Cells.{rules_cells}
unfoldable pub use Rattle.cells.specs.Cells.{sort_of}
use Rattle.machine.specs.Bytes.{count, bytes_of}
use Rattle.emitter.specs.Stands.{IsAll}
use Rattle.chains.specs.Marks.{marks_rule}
use Rattle.chains.specs.Chain.{placed}
use Rattle.emitter.specs.Words.{words, puts}
use Rattle.emitter.specs.Work.{Done, PatchDone}
use Rattle.emitter.specs.declared.TooShort.{TooShort}

-- every alternative has a label, and fewer than 192 ("64 labels a choice")
unfoldable mutual
  pub FewLabels : Act → Type 0
  FewLabels (plain p) = Unit {0}
  FewLabels (cycle b) = FewLabelsAll b
  FewLabels (choice s q o) = FewLabelsAlts q × FewLabelsOther o

  pub FewLabelsAll : Acts → Type 0
  FewLabelsAll done = Unit {0}
  FewLabelsAll (a ▸ q) = FewLabels a × FewLabelsAll q

  pub FewLabelsAlts : Alts → Type 0
  FewLabelsAlts nil = Unit {0}
  FewLabelsAlts (alternative ls b q) = (0 < length ls) × (length ls < 192) × FewLabelsAll b × FewLabelsAlts q

  pub FewLabelsOther : Other → Type 0
  FewLabelsOther absent = Unit {0}
  FewLabelsOther (otherwise b) = FewLabelsAll b

-- the cells, from the first on, are those of this program, and `sorts` tells its choice rules
pub record CellsOf (cells sorts : List ℕ) (rules : ℕ) (prog : List Rule) : Type 0 where
  pub rest : List ℕ
  pub same : cells ≡ rules_cells prog ++ rest
  pub short : length cells ≤ 65536
  pub count : rules ≡ length prog
  pub few : rules ≤ 128
  pub sort : (r : ℕ) → r < length prog → get_or sorts r 0 ≡ sort_of (rule_of prog r).valued
  pub in_order : (r : ℕ) → r < length prog → Oks prog (body_of prog r) (rule_of prog r).valued false
  pub labels : (r : ℕ) → r < length prog → FewLabelsAll (body_of prog r)

-- "20 the table passes the lent buffer or 4,096 words"
unfoldable pub fits : List Rule → ℕ → Bool
fits prog room = leb (size_rules prog) room && leb (size_rules prog) 4096

-- "On acceptance the words after the table are zero."; "lent table all zero words"
unfoldable pub emitted_words : List Rule → ℕ → List ℕ
emitted_words prog n = if fits prog n then table prog ++ replicate (n - length (table prog)) 0 else replicate n 0

-- "an odd last byte counts for nothing and is not touched"
unfoldable pub emitted_bytes : List Rule → List ℕ → List ℕ
emitted_bytes prog lent = bytes_of (emitted_words prog (count lent)) ++ drop (2 * count lent) lent

-- the lent bytes of a refusal
unfoldable pub zeroed_bytes : List ℕ → List ℕ
zeroed_bytes lent = bytes_of (replicate (count lent) 0) ++ drop (2 * count lent) lent

unfoldable pub fault_of : List Rule → ℕ → ℕ
fault_of prog room = if fits prog room then 0 else 20

-- the lent bytes, the number and the size in words
pub record EmitDone (prog : List Rule) (old new : List ℕ) (fault size : ℕ) : Type 0 where
  pub bytes : new ≡ emitted_bytes prog old
  pub number : fault ≡ fault_of prog (count old)
  pub words : size ≡ size_rules prog

unfoldable pub Emits : List ℕ → List ℕ → ℕ → List ℕ → List ℕ → ℕ → ℕ → Type 0
Emits cells sorts rules old new fault size = (prog : List Rule) → CellsOf cells sorts rules prog → EmitDone prog old new fault size

-- the number and the size that a result stands for
abbrev pub fault_in : Result ℕ TooShort → ℕ
fault_in (Ok size) = 0
fault_in (Err e) = 20

abbrev pub size_in : Result ℕ TooShort → ℕ
size_in (Ok size) = size
size_in (Err e) = e.size

-- Inside: rules one after the other, by places

pub data IsRules (cs sorts : List ℕ) (n : ℕ) : ℕ → ℕ → List Rule → Type 0 where
  rules_none : {p r : ℕ} → IsRules cs sorts n p r []
  rules_more : {p r e : ℕ} {b : Rule} {bs : List Rule} → IsAll cs n p e b.body → get_or sorts r 0 ≡ sort_of b.valued → IsRules cs sorts n e (r + 1) bs → IsRules cs sorts n p r (b ∷ bs)

unfoldable pub RuleDone : List ℕ → ℕ → List ℕ → List ℕ → ℕ → ℕ → List ℕ → List ℕ → ℕ → ℕ → Type 0
RuleDone cs p old new at sort slots slots' p' at' = (n : ℕ) (b : Rule) (e : ℕ) → n ≤ length slots → IsAll cs n p e b.body → sort ≡ sort_of b.valued → Done (marks_rule b) e old new at 0 slots slots' p' at' 0

-- rule r begins at `at`
unfoldable pub PlaceDone : List ℕ → List ℕ → ℕ → List ℕ → List ℕ → ℕ → Type 0
PlaceDone slots slots' r old new at = (slots' ≡ set slots r (placed + at + 1)) × PatchDone old new (get_or slots r 0) (at + 1) 0

unfoldable pub RulesDone : List ℕ → List ℕ → ℕ → List ℕ → List ℕ → List ℕ → ℕ → Type 0
RulesDone cs sorts rules slots old new size = (prog : List Rule) → IsRules cs sorts (length prog) 0 0 prog → rules ≡ length prog → slots ≡ replicate 128 0
    → (size ≡ size_rules prog) × (size_rules prog ≤ words old → size_rules prog ≤ 4096 → new ≡ puts old 0 (table prog))
