-- What the functions that collect the pairs promise: where each pair stands in the words, and the number of its lowest rule.
use Rattle.std.specs.Prelude.{List, [], ◌∷◌, ◌++◌, ◌≡◌, ℕ, suc, ◌+◌, ◌<◌, ◌≤◌, length, get_or, drop}
use Rattle.std.proofs.Math.Option.{Option, none, some}
use Rattle.acceptance.proofs.Shape.{Each}
use Rattle.declarations.specs.Decls as decls
use Rattle.declarations.specs.Decls.{EntriesAt, entries_of, operators_from, mapped}
use Rattle.grammar.specs.Derived.{OperatorsIn}
use Rattle.linkpairs.specs.Gather.{Gathered, gathered, past, gather}
use Rattle.linkpairs.specs.declared.Pairs.{Pairs}
use Rattle.linkpairs.specs.declared.Scope.{Scope}
use Rattle.linkpairs.specs.declared.Spot.{Spot}
use Rattle.maker.specs.declared.Levels.{Levels}
use Rattle.names.specs.Known.{Names, find_operators}
use Rattle.names.specs.Uses.{Use, levels_used}
use Rattle.objects.specs.Places.{NameAt}
use Rattle.objects.specs.View.{name_of, pair_of, pairs_of, all, pair_words}
use Rattle.parts.specs.Form.{AreObjects, object_words}
use Rattle.parts.specs.Link.{Found, pairs_in, past_made}
use Rattle.parts.specs.Objects.{Object}
use Rattle.program.specs.Made.{Level, levels_of, crowded}
use Rattle.symbols.specs.Rows.{held}
use Rattle.syntax.specs.Texts.{Common}
use Rattle.syntax.specs.Written.{Operator, Program}
use Rattle.words.specs.Words.{Word, words_at}

-- A pair in the words

-- the first use u of a pair stands at the place p
pub record PairAt (words : List ℕ) (p : ℕ) (u : Use) : Type 0 where
  pub rest : List ℕ
  pub is : drop p words ≡ pair_words (pair_of u) ++ rest

-- its section's name stands at r
pub record SectionName (words : List ℕ) (p r : ℕ) : Type 0 where
  pub inside : r ≤ length words
  pub place : (u : Use) → PairAt words p u → r ≡ p + 2

-- and its operand rule's
pub record OperandName (words : List ℕ) (p r : ℕ) : Type 0 where
  pub inside : r ≤ length words
  pub low : r < 9223372036854775808
  pub name : (u : Use) → PairAt words p u → NameAt words r (name_of u.operand)

-- An object in the words, from the place `at` on

-- its first pair stands at r
pub record PairsFrom (words : List ℕ) (at r : ℕ) : Type 0 where
  pub inside : r ≤ length words
  pub rest : (common : List ℕ) (size : ℕ) (o : Object) (k : List ℕ) → drop at words ≡ object_words common size o ++ k → (more : List ℕ) × (drop r words ≡ all pair_words (pairs_of o.uses) ++ more)

-- it ends at r
pub record ObjectEnds (words : List ℕ) (at r : ℕ) : Type 0 where
  pub past : at < r
  pub inside : r ≤ length words
  pub rest : (common : List ℕ) (size : ℕ) (o : Object) (k : List ℕ) → drop at words ≡ object_words common size o ++ k → drop r words ≡ k

-- The sections of the common part, as the rows hold them

pub record Sections (text rows : List ℕ) (n : ℕ) (p : Program) (names : Names) : Type 0 where
  pub entries : EntriesAt text (held text rows n) (entries_of p)
  pub operators : (w : List ℕ) → find_operators w names.operators ≡ mapped (λ i. levels_of (operators_from (held text rows n) (entries_of p i))) (decls.index_of 600 w 0 (held text rows n))

-- there is such a section
pub record KnownUse (names : Names) (u : Use) : Type 0 where
  pub levels : List Level
  pub section : find_operators u.section.text names.operators ≡ some levels

-- the entries of the section that u uses stand at r in the text
pub record EntriesAre (text rows : List ℕ) (n : ℕ) (names : Names) (u : Use) (r : ℕ) : Type 0 where
  pub inside : r ≤ length text
  pub operators : List Operator
  pub behind : List Word
  pub entries : OperatorsIn (words_at text r) behind operators
  pub levels : levels_used names u ≡ levels_of (operators_from (held text rows n) operators)

-- those of the pair at the place p
pub record EntriesOf (text rows : List ℕ) (n : ℕ) (words : List ℕ) (p r : ℕ) : Type 0 where
  pub inside : r ≤ length text
  pub are : (prog : Program) (names : Names) → Sections text rows n prog names → (u : Use) → PairAt words p u → KnownUse names u → EntriesAre text rows n names u r

-- how many levels they have, one or more, and whether one has too many operators
pub record Counts (names : Names) (u : Use) (l : Levels) : Type 0 where
  pub count : l.count ≡ length (levels_used names u)
  pub crowd : l.crowded ≡ crowded (levels_used names u)
  pub one : 1 ≤ l.count

pub record LevelsOf (text rows : List ℕ) (n : ℕ) (words : List ℕ) (p : ℕ) (l : Levels) : Type 0 where
  pub few : l.count ≤ 15
  pub counts : (prog : Program) (names : Names) → Sections text rows n prog names → (u : Use) → PairAt words p u → KnownUse names u → Counts names u l

-- The rows of the pairs collected

-- the pairs us stand at the places in `sites`, from the j-th on
unfoldable pub Stand : List ℕ → List ℕ → ℕ → List Use → Type 0
Stand words sites j [] = Unit {0}
Stand words sites j (u ∷ us) = PairAt words (get_or sites j 0) u × Stand words sites (suc j) us

-- the numbers of their lowest rules stand in `lowest`, those made for the first of them being `own` and up; behind them all comes the number `after`
unfoldable pub Numbered : List ℕ → Names → ℕ → ℕ → List Use → ℕ → Type 0
Numbered lowest names j own [] after = after ≡ own
Numbered lowest names j own (u ∷ us) after = (get_or lowest j 0 ≡ own) × Numbered lowest names (suc j) (own + length (levels_used names u)) us after

-- as many pairs as `count`, these
pub record Held (words sites lowest : List ℕ) (names : Names) (own count after : ℕ) (us : List Use) : Type 0 where
  pub as_many : count ≡ length us
  pub stand : Stand words sites 0 us
  pub numbered : Numbered lowest names 0 own us after

-- Collecting

-- s without a fault, where the next pair stands at `at`
abbrev pub moved_to : Spot → ℕ → ℕ → Spot
moved_to s at left = record { at = at; left = left; count = s.count; own = s.own; fault = 0 }

-- r tells what was gathered
unfoldable pub Gives : List ℕ → List ℕ → List ℕ → Names → ℕ → Spot → Gathered → Type 0
Gives words sites lowest names own r (gathered after us) = (r.fault ≡ 0) × Held words sites lowest names own r.count r.own us × (after ≡ r.own)
Gives words sites lowest names own r (past u) = (r.fault ≡ 9) × PairAt words r.at u

-- what is kept from pair to pair
pub record SpotKept (sites lowest sites' lowest' : List ℕ) (r : Spot) : Type 0 where
  pub sites_same : length sites' ≡ length sites
  pub lowest_same : length lowest' ≡ length lowest
  pub few : r.own ≤ 128
  pub count : r.count ≤ r.own

-- the pair where s stands
pub record PairTaken (text rows : List ℕ) (scope : Scope) (words sites lowest : List ℕ) (s : Spot) (sites' lowest' : List ℕ) (r : Spot) : Type 0 where
  pub kept : SpotKept sites lowest sites' lowest' r
  pub at : r.at ≡ s.at
  pub left : r.left ≡ s.left
  pub gives : (p : Program) (names : Names) → Sections text rows scope.n p names → (own : ℕ) (seen : List Use) → Held words sites lowest names own s.count s.own seen → s.fault ≡ 0
      → (u : Use) → PairAt words s.at u → KnownUse names u → Gives words sites' lowest' names own r (gather names scope.others s.own seen (u ∷ []))

-- the pairs of an object that are left, from where s stands on
pub record PairsTaken (text rows : List ℕ) (scope : Scope) (words sites lowest : List ℕ) (s : Spot) (sites' lowest' : List ℕ) (r : Spot) : Type 0 where
  pub kept : SpotKept sites lowest sites' lowest' r
  pub gives : (p : Program) (names : Names) → Sections text rows scope.n p names → (own : ℕ) (seen : List Use) → Held words sites lowest names own s.count s.own seen → s.fault ≡ 0
      → (us : List Use) (k : List ℕ) → drop s.at words ≡ all pair_words (pairs_of us) ++ k → length us ≡ s.left → Each (KnownUse names) us
      → Gives words sites' lowest' names own r (gather names scope.others s.own seen us)

-- the fault of the pair where s stands, in text i
pub record PastLimit (words : List ℕ) (s : Spot) (i : ℕ) (r : Pairs) : Type 0 where
  pub fault : r.fault ≡ 9
  pub text : r.text ≡ i
  pub count : r.count ≡ s.count
  pub sign : (u : Use) → PairAt words s.at u → (r.start ≡ u.sign.start) × (r.len ≡ length u.sign.text)

-- the pairs of all objects: the first whose rules pass a limit, or all of them
unfoldable pub Tells : List ℕ → List ℕ → List ℕ → Names → ℕ → List Use → Pairs → Option Found → Type 0
Tells words sites lowest names own us r (some f) = (r.fault ≡ 9) × (r.text ≡ f.text) × (r.start ≡ f.word.start) × (r.len ≡ length f.word.text)
Tells words sites lowest names own us r none = (r.fault ≡ 0) × ((after : ℕ) × Held words sites lowest names own r.count after us)

pub record Collected (text rows : List ℕ) (scope : Scope) (words sites lowest : List ℕ) (r : Pairs) : Type 0 where
  pub few : r.count ≤ 128
  pub tells : (p : Program) (names : Names) → Sections text rows scope.n p names → (common : List ℕ) (c : Common) (h : AreObjects common c names words)
      → Tells words sites lowest names scope.own (pairs_in h.objects) r (past_made names scope.others scope.own h.objects (pairs_in h.objects))

-- all of this file computes where this is unfolded
unfoldable pub opened : Unit {0}
unfolding Stand Numbered Gives Tells
opened = tt
