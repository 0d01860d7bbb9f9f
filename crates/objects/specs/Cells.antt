-- What the code promises that goes over the cells of a rule by places: for all cells and names that stand there, its outcome is that of file Order.
use Rattle.std.specs.Prelude.{Bool, true, false, ◌&&◌, List, ◌∷◌, ◌++◌, ◌≡◌, ℕ, ◌+◌, ◌-◌, ◌≤◌, leb, ltb, length, drop, if◌then◌else◌}
use Rattle.std.proofs.Math.Option.{Option, none, some}
use Rattle.std.specs.Prelude as code
use Rattle.base.specs.Common.{given}
use Rattle.syntax.specs.Texts.{Head}
use Rattle.objects.specs.declared.Body.{Body}
use Rattle.objects.specs.declared.Depth.{Depth}
use Rattle.objects.specs.declared.Ground.{Ground}
use Rattle.objects.specs.declared.Last.{Last}
use Rattle.objects.specs.declared.Outcome.{Outcome}
use Rattle.objects.specs.declared.Spot.{Spot}
use Rattle.objects.specs.Order.{Sort, sort_of, arm_of, Went, deeper, on_operand, on_call, call_ok, rule_ok, Actions, Choices, an_act, an_arm, acts, arms}
use Rattle.objects.specs.Places.{HeadsAt}
use Rattle.objects.specs.Take.{took, times}
use Rattle.objects.specs.View.{Name, Pair, RuleView, name_words, all, a_pair, rule_words}

-- n cells further on
abbrev pub along : ℕ → Spot → Spot
along n s = record { cell = s.cell + n; end = s.end; name = s.name; names = s.names }

-- the places are those of words
abbrev pub Fits : List ℕ → Ground → Spot → Type 0
Fits words g s = (s.cell ≤ s.end) × (s.end ≤ length words) × (s.name ≤ length words) × (g.pairs ≤ length words)

-- t is s or further on
pub record Within (words : List ℕ) (s t : Spot) : Type 0 where
  pub low : s.cell ≤ t.cell
  pub high : s.cell ≤ s.end → t.cell ≤ t.end
  pub same : t.end ≡ s.end
  pub named : s.name ≤ length words → t.name ≤ length words

-- the cells and the names left stand at these places
pub record Stand (words : List ℕ) (s : Spot) (cells : List ℕ) (names : List Name) : Type 0 where
  pub after : List ℕ
  pub cells_here : drop s.cell words ≡ cells ++ after
  pub cells_count : s.cell + length cells ≡ s.end
  pub rest : List ℕ
  pub names_here : drop s.name words ≡ all name_words names ++ rest
  pub names_count : length names ≡ s.names

-- the list of the common part and the pairs of the object are those
pub record Knows (common heads words : List ℕ) (g : Ground) (hs : List Head) (ps : List Pair) : Type 0 where
  pub listed : HeadsAt common heads hs
  pub rest : List ℕ
  pub pairs_here : times g.count a_pair (drop g.pairs words) ≡ took ps rest

-- cells in order, and what they come to
abbrev pub yes : Spot → Bool → Bool → code.Option Outcome
yes s past exits = code.Some (record { spot = s; past = past; exits = exits })

-- the place behind them is s or further on
abbrev pub Reaches : List ℕ → Spot → code.Option Outcome → Type 0
Reaches words s r = code.IfSome r (λ o. Within words s o.spot)

unfoldable pub Is : List ℕ → Option Went → code.Option Outcome → Type 0
Is words none r = code.IsNone r
Is words (some w) r = code.IsSomeAnd r (λ o. Stand words o.spot w.cells w.names × (o.past ≡ w.past) × (o.exits ≡ w.exits))

-- r tells of that outcome
pub record Tells (words : List ℕ) (o : Option Went) (r : code.Option Outcome) : Type 0 where
  pub is : Is words o r

-- r tells what f does with what stands at s
pub record Does (words : List ℕ) (s : Spot) (f : List ℕ → List Name → Option Went) (r : code.Option Outcome) : Type 0 where
  pub tells : (cells : List ℕ) (names : List Name) → Stand words s cells names → Tells words (f cells names) r

abbrev pub went : List ℕ → List Name → Bool → Bool → Went
went cells names past exits = record { cells = cells; names = names; past = past; exits = exits }

-- The functions, one record each

abbrev pub with_operand : Bool → List ℕ → List Name → Option Went
with_operand past cells names = on_operand cells (λ cells. some (went cells names past false))

pub record OperandDone (words : List ℕ) (s : Spot) (past : Bool) (r : code.Option Outcome) : Type 0 where
  pub within : Reaches words s r
  pub does : Does words s (with_operand past) r

abbrev pub with_name : (ℕ → Name → Bool) → List ℕ → List Name → Option Went
with_name test cells names = on_call test cells names (λ cells names. some (went cells names true false))

-- a call's mark and its name, of which the test gives b
pub record NameDone (words : List ℕ) (s : Spot) (b : Bool) (r : code.Option Outcome) : Type 0 where
  pub within : Reaches words s r
  pub does : (test : ℕ → Name → Bool) → ((m : ℕ) (n : Name) (cells : List ℕ) (names : List Name) → Stand words s (m ∷ cells) (n ∷ names) → b ≡ test m n) → Does words s (with_name test) r

pub record CallOk (common heads words : List ℕ) (g : Ground) (s : Spot) (r : Bool) : Type 0 where
  pub tells : (hs : List Head) (ps : List Pair) → Knows common heads words g hs ps → (m : ℕ) (n : Name) (cells : List ℕ) (names : List Name) → Stand words s (m ∷ cells) (n ∷ names) → r ≡ call_ok hs ps m n

pub record RuleOk (common heads words : List ℕ) (s : Spot) (r : Bool) : Type 0 where
  pub tells : (hs : List Head) (ps : List Pair) → HeadsAt common heads hs → (m : ℕ) (n : Name) (cells : List ℕ) (names : List Name) → Stand words s (m ∷ cells) (n ∷ names) → r ≡ rule_ok hs ps m n

-- an action of the sort, behind its first cell
pub record SortDone (common heads words : List ℕ) (g : Ground) (d : Depth) (s : Spot) (sort : Sort) (r : code.Option Outcome) : Type 0 where
  pub within : Reaches words s r
  pub does : (hs : List Head) (ps : List Pair) → Knows common heads words g hs ps → (k : ℕ) → s.end ≤ s.cell + k
      → Does words s (λ cells names. an_act hs ps g.valued (λ l d s n. acts hs ps g.valued k l d s n) (λ l d b t r s n. arms hs ps g.valued k l d b t r s n) d.left d.inside sort cells names) r

-- the same where neither calls nor actions stand in it
pub record SimpleDone (words : List ℕ) (s : Spot) (x : ℕ) (r : code.Option Outcome) : Type 0 where
  pub within : Reaches words s r
  pub does : (hs : List Head) (ps : List Pair) (v : Bool) (inner : Actions hs ps v) (choices : Choices hs ps v) (left : ℕ) (c : Bool) → Does words s (λ cells names. an_act hs ps v inner choices left c (sort_of x) cells names) r

-- behind a selector, where it was in order
unfoldable pub selecting : Option Went → (List ℕ → List Name → Option Went) → Option Went
selecting none more = none
selecting (some w) more = more w.cells w.names

-- the selector of a choice by an operation, behind its first cell x
unfoldable pub asks : ℕ → List ℕ → List Name → Option Went
asks x cells names = if ltb x 1024 then some (went cells names true false) else if ltb x 1280 then with_operand true cells names else none

pub record AskedDone (words : List ℕ) (s : Spot) (x : ℕ) (r : code.Option Outcome) : Type 0 where
  pub within : Reaches words s r
  pub does : Does words s (asks x) r

-- the alternatives of a choice, behind its selector
pub record ChoiceDone (common heads words : List ℕ) (g : Ground) (d : Depth) (s : Spot) (by_token : Bool) (r : code.Option Outcome) : Type 0 where
  pub within : Reaches words s r
  pub does : (hs : List Head) (ps : List Pair) → Knows common heads words g hs ps → (k : ℕ) → s.end ≤ s.cell + k
      → Does words s (λ cells names. deeper d.left (arms hs ps g.valued k (d.left - 1) d.inside by_token false 64 cells names)) r

-- actions
pub record ActsDone (common heads words : List ℕ) (g : Ground) (d : Depth) (s : Spot) (r : code.Option Outcome) : Type 0 where
  pub within : Reaches words s r
  pub does : (hs : List Head) (ps : List Pair) → Knows common heads words g hs ps → (k : ℕ) → s.end ≤ s.cell + k → Does words s (λ cells names. acts hs ps g.valued k d.left d.inside cells names) r

-- alternatives
pub record ArmsDone (common heads words : List ℕ) (g : Ground) (d : Depth) (s : Spot) (by_token : Bool) (r : code.Option Outcome) : Type 0 where
  pub within : Reaches words s r
  pub does : (hs : List Head) (ps : List Pair) → Knows common heads words g hs ps → (k : ℕ) → s.end ≤ s.cell + k → Does words s (λ cells names. arms hs ps g.valued k d.left d.inside by_token false 64 cells names) r

-- an alternative with no labels and no actions, behind its first cell
pub record BareDone (words : List ℕ) (s : Spot) (x : ℕ) (by_token labelled : Bool) (r : code.Option Outcome) : Type 0 where
  pub within : Reaches words s r
  pub does : (hs : List Head) (ps : List Pair) (v : Bool) (inner : Actions hs ps v) (choices : Choices hs ps v) (left : ℕ) (c : Bool) (room : ℕ) → Does words s (λ cells names. an_arm hs ps v inner choices left c by_token labelled room (arm_of x) cells names) r

-- n labels, of which room may still stand
unfoldable pub some_labels : ℕ → ℕ → List ℕ → List Name → Option Went
some_labels n room cells names = if leb n room && leb n (length cells) then some (went (drop n cells) names true false) else none

pub record LabelsDone (words : List ℕ) (s : Spot) (n room : ℕ) (r : code.Option Outcome) : Type 0 where
  pub within : Reaches words s r
  pub few : code.IfSome r (λ _. n ≤ room)
  pub does : Does words s (some_labels n room) r

-- the alternative that ends a choice, behind its first cell
pub record LastDone (common heads words : List ℕ) (g : Ground) (d : Depth) (s : Spot) (l : Last) (r : code.Option Outcome) : Type 0 where
  pub within : Reaches words s r
  pub does : (hs : List Head) (ps : List Pair) → Knows common heads words g hs ps → (k : ℕ) → s.end ≤ s.cell + k → (room : ℕ)
      → Does words s (λ cells names. an_arm hs ps g.valued (λ l d s n. acts hs ps g.valued k l d s n) (λ l d b t r s n. arms hs ps g.valued k l d b t r s n) d.left d.inside l.token l.labelled room (arm_of l.x) cells names) r

-- the cells of the rule at q and the names of its calls
pub record BodyDone (words : List ℕ) (q : ℕ) (r : code.Option Body) : Type 0 where
  pub low : code.IfSome r (λ b. b.spot.cell ≤ b.spot.end)
  pub high : code.IfSome r (λ b. b.spot.end ≤ length words)
  pub named : code.IfSome r (λ b. b.spot.name ≤ length words)
  pub tells : (v : RuleView) (k : List ℕ) → drop q words ≡ rule_words v ++ k → code.IsSomeAnd r (λ b. (b.valued ≡ given v.gives) × Stand words b.spot v.cells v.calls)

-- all of this file computes where this is unfolded
unfoldable pub opened : Unit {0}
unfolding Is selecting asks some_labels
opened = tt
