-- What each function of the emitter does: on any cells it keeps to its bounds, and whatever stands there is written, open jumps in their chains.
use Rattle.std.specs.Prelude.{ℕ, ◌+◌, ◌*◌, ◌-◌, ◌<◌, ◌≤◌, ◌≡◌, List, ◌++◌, length}
use Rattle.base.specs.Tree.{cycle}
use Rattle.program.specs.Program.{Selector, Act, Acts, Alts, Other}
use Rattle.program.specs.Table.{count_labels, label_words, absent_words}
use Rattle.chains.specs.Marks.{Mark, marks, marks_all, marks_alts, marks_other}
use Rattle.chains.specs.Chain.{Chain, patched, Grown}
use Rattle.emitter.specs.Words.{words, puts}
use Rattle.emitter.specs.Stands.{Labels, Is, IsAlts, IsOther, IsAll}
use Rattle.emitter.specs.Heads.{words_in, anchor}
use Rattle.emitter.specs.Ends.{Entry, entries, Ends, heads, row_length, row_words}
use Rattle.emitter.specs.declared.Item.{Item}
use Rattle.emitter.specs.declared.Row.{Row}

-- Bounds: a place in the cells and a place in the table; a cell gives fewer than 400 words

pub record Room (cs : List ℕ) (p at : ℕ) : Type 0 where
  pub inside : p ≤ length cs
  pub short : length cs ≤ 65536
  pub room : at ≤ 1000000000 + 400 * p

-- from p and at to p' and at'
pub record Moved (cs : List ℕ) (p at p' at' : ℕ) : Type 0 where
  pub on : p ≤ p'
  pub inside : p' ≤ length cs
  pub few : at' + 400 * p ≤ at + 400 * p'

-- by a cell or more
pub record Passed (cs : List ℕ) (p at p' at' : ℕ) : Type 0 where
  pub on : p < p'
  pub inside : p' ≤ length cs
  pub few : at' + 400 * p ≤ at + 400 * p'

-- Words

pub record ItemDone (cs : List ℕ) (w : Item) (p at : ℕ) (old new : List ℕ) (p' at' : ℕ) : Type 0 where
  pub next : p + w.cells ≤ length cs → p' ≡ p + w.cells
  pub after : at' ≡ at + w.count
  pub wrote : new ≡ puts old at (words_in w)
  pub on : p < p'
  pub inside : p' ≤ length cs
  pub few : w.count ≤ 3

-- a chain's target is known: its words, and no others, are written
unfoldable pub PatchDone : List ℕ → List ℕ → ℕ → ℕ → ℕ → Type 0
PatchDone old new n to k = (base ws ps : List ℕ) → old ≡ puts base 0 ws → length ws ≤ words base → to < 65536 → Chain ws n ps → new ≡ puts base 0 (patched ws (λ j. to - anchor k j) ps)

-- the words ws of a buffer have grown by those of ms: in `Grown`, each chain is this part's open jumps, newest first, then the chain before
pub record Extended (ms : List Mark) (base ws new : List ℕ) (x x' : ℕ) (slots slots' : List ℕ) : Type 0 where
  pub now : List ℕ
  pub wrote : new ≡ puts base 0 now
  pub grown : Grown ms ws now x x' slots slots'

-- "while the table fits"
pub record Emitted (ms : List Mark) (old new : List ℕ) (at x x' : ℕ) (slots slots' : List ℕ) : Type 0 where
  pub grow : (base ws : List ℕ) → old ≡ puts base 0 ws → length ws ≡ at → at + length ms ≤ words base → at + length ms < 65536 → Extended ms base ws new x x' slots slots'

pub record Done (ms : List Mark) (e : ℕ) (old new : List ℕ) (at x : ℕ) (slots slots' : List ℕ) (p' at' x' : ℕ) : Type 0 where
  pub next : p' ≡ e
  pub after : at' ≡ at + length ms
  pub emitted : Emitted ms old new at x x' slots slots'

-- the newest open exit was x, a slot for each of the n rules
unfoldable pub ListDone : List ℕ → ℕ → List ℕ → List ℕ → ℕ → ℕ → List ℕ → List ℕ → ℕ → ℕ → ℕ → Type 0
ListDone cs p old new at x slots slots' p' at' x' = (n : ℕ) (q : Acts) (e : ℕ) → n ≤ length slots → IsAll cs n p e q → Done (marks_all q) e old new at x slots slots' p' at' x'

unfoldable pub ActDone : List ℕ → ℕ → List ℕ → List ℕ → ℕ → ℕ → List ℕ → List ℕ → ℕ → ℕ → ℕ → Type 0
ActDone cs p old new at x slots slots' p' at' x' = (n : ℕ) (a : Act) (e : ℕ) → n ≤ length slots → Is cs n p e a → Done (marks a) e old new at x slots slots' p' at' x'

unfoldable pub CycleDone : List ℕ → ℕ → List ℕ → List ℕ → ℕ → ℕ → List ℕ → List ℕ → ℕ → ℕ → ℕ → Type 0
CycleDone cs p old new at x slots slots' p' at' x' = (n : ℕ) (b : Acts) (e : ℕ) → n ≤ length slots → IsAll cs n (p + 1) e b → Done (marks (cycle b)) e old new at x slots slots' p' at' x'

-- the choice table's entries of one alternative, which begins at `from`
unfoldable pub LabelsDone : List ℕ → ℕ → ℕ → List ℕ → List ℕ → ℕ → ℕ → Type 0
LabelsDone cs p j old new at from = (ls : List ℕ) (d k : ℕ) → Labels cs p ls → length ls ≡ j → at ≡ from + (d + k) → at + 2 * j < 65536 → new ≡ puts old at (label_words d k ls)

-- the choice table's entries up to `end`; the ends are those from n on, the alternatives begin at `from`
unfoldable pub TableDone : List ℕ → List ℕ → List ℕ → ℕ → ℕ → ℕ → Type 0
TableDone cs old new n from end = (base ws : List ℕ) (es : List Entry) → old ≡ puts base 0 ws → Ends cs ws from n es → from ≤ length ws → length ws + row_length es ≡ end → end ≤ words base → end < 65536
    → new ≡ puts base 0 (patched ws (λ j. 1) (heads es) ++ row_words es end)

-- alternatives: their ends are a chain of their own
pub record AltsExtended (cs : List ℕ) (ms : List Mark) (es : List Entry) (at end : ℕ) (base ws new : List ℕ) (x x' : ℕ) (slots slots' : List ℕ) : Type 0 where
  pub now : List ℕ
  pub wrote : new ≡ puts base 0 now
  pub grown : Grown ms ws now x x' slots slots'
  pub ends : Ends cs now at end es

pub record AltsEmitted (cs : List ℕ) (ms : List Mark) (es : List Entry) (old new : List ℕ) (at end x x' : ℕ) (slots slots' : List ℕ) : Type 0 where
  pub grow : (base ws : List ℕ) → old ≡ puts base 0 ws → length ws ≡ at → at + length ms ≤ words base → at + length ms < 65536 → AltsExtended cs ms es at end base ws new x x' slots slots'

pub record Rowed (cs : List ℕ) (q : Alts) (f : ℕ) (old new : List ℕ) (at x : ℕ) (slots slots' : List ℕ) (r : Row) : Type 0 where
  pub next : r.p ≡ f
  pub after : r.at ≡ at + length (marks_alts q)
  pub count : r.labels ≡ count_labels q
  pub emitted : AltsEmitted cs (marks_alts q) (entries at q) old new at r.end x r.exit slots slots'

unfoldable pub AltsDone : List ℕ → ℕ → List ℕ → List ℕ → ℕ → ℕ → List ℕ → List ℕ → Row → Type 0
AltsDone cs p old new at x slots slots' r = (n : ℕ) (s : Selector) (q : Alts) (o : Other) (f e : ℕ) → 1 < at → n ≤ length slots → IsAlts cs n p f q → IsOther cs n s f e o → Rowed cs q f old new at x slots slots' r

-- otherwise, or what stands for it; v: the first label, `from`: where the alternatives begin
unfoldable pub OtherDone : List ℕ → ℕ → List ℕ → List ℕ → ℕ → ℕ → ℕ → ℕ → List ℕ → List ℕ → ℕ → ℕ → ℕ → Type 0
OtherDone cs p old new at x v from slots slots' p' at' x' = (n : ℕ) (s : Selector) (o : Other) (e : ℕ) → n ≤ length slots → IsOther cs n s p e o → Done (marks_other o (absent_words s v (at + 3 - from))) e old new at x slots slots' p' at' x'

-- what stands for no otherwise
unfoldable pub AbsentDone : List ℕ → ℕ → List ℕ → List ℕ → ℕ → ℕ → ℕ → ℕ → ℕ → Type 0
AbsentDone cs p old new at v from p' at' = (n : ℕ) (s : Selector) (o : Other) (e x : ℕ) (slots : List ℕ) → IsOther cs n s p e o → Done (marks_other o (absent_words s v (at + 3 - from))) e old new at x slots slots p' at' x
