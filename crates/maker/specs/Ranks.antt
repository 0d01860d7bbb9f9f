-- The levels of a section of operators as scans of its entries find them: the next level in use, how many operators it has, its side.
use Rattle.std.specs.Prelude.{Option, Some, None, IfSome, ◌||◌, eqb, Bool, false, List, [], ◌∷◌, ◌≡◌, ℕ, ◌+◌, ◌<◌, ◌≤◌, leb, ltb, length, if◌then◌else◌}
use Rattle.declarations.specs.Decls.{Decl, operators_from}
use Rattle.grammar.specs.Derived.{OperatorIn, OperatorsIn}
use Rattle.maker.specs.declared.Entry.{Entry}
use Rattle.maker.specs.declared.Levels.{Levels}
use Rattle.maker.specs.declared.Rank.{Rank}
use Rattle.program.specs.Made as made
use Rattle.program.specs.Made.{levels_of, crowded}
use Rattle.scanner.specs.Next.{as_word}
use Rattle.syntax.specs.Written.{Operator}
use Rattle.words.specs.Words.{Word, words_at}

-- the entry r is the operator o, and ws' are the words behind it
pub record EntryIs (text : List ℕ) (at : ℕ) (o : Operator) (ws' : List Word) (r : Entry) : Type 0 where
  pub token : o.token ≡ as_word text r.token
  pub level : o.level ≡ r.level
  pub right : o.right ≡ r.right
  pub emits : o.emits ≡ as_word text r.emits
  pub rest : ws' ≡ words_at text r.emits.next
  pub past : at < r.emits.next

pub record AnEntry (text : List ℕ) (at : ℕ) (r : Entry) : Type 0 where
  pub low : at ≤ r.emits.next
  pub high : r.emits.next ≤ length text
  pub entry : (o : Operator) (ws' : List Word) → OperatorIn (words_at text at) ws' o → EntryIs text at o ws' r

-- no level yet: 16 is above all of them
unfoldable pub no_rank : Rank
no_rank = record { level = 16; count = 0; right = false }

-- the least level above `above`, after one entry more
unfoldable pub rank_step : ℕ → Rank → ℕ → Bool → Rank
rank_step above s level right =
    let one : Rank = record { level = level; count = 1; right = right } in
    let more : Rank = record { level = s.level; count = s.count + 1; right = s.right } in
    if leb level above then s else if ltb s.level level then s else if ltb level s.level then one else more

-- the rank that was found, if one was
abbrev pub rank_or : Option Rank → Rank
rank_or None = no_rank
rank_or (Some s) = s

-- the same step where no rank may have been found; 15 is the highest level
unfoldable pub next_rank : ℕ → Option Rank → ℕ → Bool → Option Rank
next_rank above best level right =
    let one : Option Rank = Some (record { level = level; count = 1; right = right }) in
    let joined : Rank → Option Rank = λ s. if ltb s.level level then best else if eqb s.level level then Some (record { level = s.level; count = s.count + 1; right = s.right }) else one in
    if leb level above || ltb 15 level then best else elim best [ Some s ↦ joined s | None ↦ one ]

unfoldable pub rank_of : ℕ → Rank → List made.Operator → Rank
rank_of above s [] = s
rank_of above s (o ∷ os) = rank_of above (rank_step above s o.level o.right) os

-- a scan of the entries at the place `at`, from s on
pub record RankDone (text : List ℕ) (at above : ℕ) (s r : Rank) : Type 0 where
  pub done : (ds : List Decl) (os : List Operator) (ws' : List Word) → OperatorsIn (words_at text at) ws' os → r ≡ rank_of above s (operators_from ds os)

-- a rank that was found lies above, and has a level
abbrev pub RankBound : ℕ → Option Rank → Type 0
RankBound above r = IfSome r (λ s. (above < s.level) × (s.level ≤ 15))

-- how many levels the entries have, and whether one has more than 64 operators
pub record LevelsDone (text : List ℕ) (at : ℕ) (r : Levels) : Type 0 where
  pub few : r.count ≤ 15
  pub done : (ds : List Decl) (os : List Operator) (ws' : List Word) → OperatorsIn (words_at text at) ws' os
      → (r.count ≡ length (levels_of (operators_from ds os))) × (r.crowded ≡ crowded (levels_of (operators_from ds os)))

-- all of this file computes where this is unfolded
unfoldable pub opened : Unit {0}
unfolding no_rank rank_step next_rank rank_of
opened = tt
