-- What the functions that collect a part's pairs promise.
use Rattle.std.specs.Prelude.{Bool, true, false, List, [], ◌∷◌, ◌++◌, ◌≡◌, ℕ, suc, ◌+◌, ◌<◌, ◌≤◌, length, get_or}
use Rattle.declarations.specs.Decls.{Decl}
use Rattle.grammar.specs.Derived.{RulesIn}
use Rattle.maker.specs.Marks.{behind, use_of, marks}
use Rattle.maker.specs.Pairing.{is_there, Stands, AllNamed}
use Rattle.maker.specs.Pairs.{pairs_held, Ordered, AllOrdered, pair_of}
use Rattle.names.specs.Uses.{Use, rules_uses, firsts, pairs_of}
use Rattle.partpairs.specs.Numbers.{numbered, Numbered}
use Rattle.partpairs.specs.declared.UseWords.{UseWords}
use Rattle.scanner.specs.Next.{as_word}
use Rattle.scanner.specs.declared.WordAt.{WordAt}
use Rattle.symbols.specs.Index.{IndexKept}
use Rattle.symbols.specs.Rows.{held}
use Rattle.syntax.specs.Reading.{peek}
use Rattle.syntax.specs.Written.{Rule}
use Rattle.words.specs.Words.{Word, words_at}

-- Where a use stands

-- the words from the place i on begin with the use u: 94 is `^`, 257 a name
pub record UseAt (text : List ℕ) (i : ℕ) (u : Use) : Type 0 where
  pub inside : i ≤ length text
  pub sign : u.sign.kind ≡ 94
  pub operand : u.operand.kind ≡ 257
  pub is : use_of (peek (words_at text i)) (behind (words_at text i)) ≡ u

-- the uses us stand at the places that `signs` holds from the k-th on
unfoldable pub UsesAt : List ℕ → List ℕ → ℕ → List Use → Type 0
UsesAt text signs k [] = Unit {0}
UsesAt text signs k (u ∷ us) = UseAt text (get_or signs k 0) u × UsesAt text signs (suc k) us

-- the words of the use at the place i
pub record UseRead (text : List ℕ) (i : ℕ) (r : UseWords) : Type 0 where
  pub inside : i ≤ length text → (r.sign.start + r.sign.len ≤ length text) × (r.section.start + r.section.len ≤ length text) × (r.operand.start + r.operand.len ≤ length text)
  pub words : (u : Use) → UseAt text i u → record { sign = as_word text r.sign; section = as_word text r.section; operand = as_word text r.operand } ≡ u

-- Taking uses

-- how many pairs the rows hold
abbrev pub count_of : List ℕ → ℕ
count_of rows = get_or rows 5632 0

-- what is kept from use to use: the rows and their index, and the places of the pairs that stand there
pub record Goes (rows signs rows' signs' : List ℕ) : Type 0 where
  pub index : IndexKept rows rows'
  pub few : count_of rows' ≤ 8192
  pub more : count_of rows ≤ count_of rows'
  pub size : length signs' ≡ length signs
  pub stay : (j : ℕ) → j < count_of rows → get_or signs' j 0 ≡ get_or signs j 0

-- a use that was looked at, at the place `at`: its pair stood there, was added, or there is no room for it
pub data Takes (ds : List Decl) (own at : ℕ) (rows signs rows' signs' : List ℕ) (u : Use) (r : Bool) : Type 0 where
  again : r ≡ true → pairs_held rows' ≡ pairs_held rows → count_of rows' ≡ count_of rows → is_there ds (pairs_held rows) u ≡ true → Takes ds own at rows signs rows' signs' u r
  added : r ≡ true → pairs_held rows' ≡ pairs_held rows ++ (pair_of ds (own + count_of rows) u ∷ []) → count_of rows' ≡ suc (count_of rows) → get_or signs' (count_of rows) 0 ≡ at
      → is_there ds (pairs_held rows) u ≡ false → Takes ds own at rows signs rows' signs' u r
  full : r ≡ false → 8192 ≤ count_of rows → is_there ds (pairs_held rows) u ≡ false → Takes ds own at rows signs rows' signs' u r

-- the use whose `^` is the next word at the place `at`, and stands before the place `next`
pub record UseDone (text rows signs : List ℕ) (n own at next : ℕ) (rows' signs' : List ℕ) (r : Bool) : Type 0 where
  pub goes : Goes rows signs rows' signs'
  pub takes : (w : Word) → (use_of w (words_at text next)).operand.kind ≡ 257 → Ordered (held text rows n) (use_of w (words_at text next))
      → Takes (held text rows n) own at rows signs rows' signs' (use_of w (words_at text next)) r

-- the word w, the next at the place `at`: a `^` begins a use, any other is passed over
pub record WordDone (text rows signs : List ℕ) (n own at : ℕ) (w : WordAt) (rows' signs' : List ℕ) (r : Bool) : Type 0 where
  pub goes : Goes rows signs rows' signs'
  pub caret : w.kind ≡ 94 → UseDone text rows signs n own at w.next rows' signs' r
  pub other : (w.kind ≡ 94 → ⊥) → (r ≡ true) × (rows' ≡ rows) × (signs' ≡ signs)

-- the first uses us, behind those that stand there
pub record PairsEnd (text : List ℕ) (ds : List Decl) (own : ℕ) (rows rows' signs' : List ℕ) (us : List Use) : Type 0 where
  pub pairs : pairs_held rows' ≡ pairs_held rows ++ numbered ds (own + count_of rows) us
  pub count : count_of rows' ≡ count_of rows + length us
  pub uses : UsesAt text signs' (count_of rows) us

-- the uses from the place `at` on, behind those that stand there
pub record PairsFrom (text rows signs : List ℕ) (n own at : ℕ) (rows' signs' : List ℕ) : Type 0 where
  pub goes : Goes rows signs rows' signs'
  pub done : (seen : List Use) → Stands (held text rows n) (pairs_held rows) seen → AllNamed (marks (words_at text at)) → AllOrdered (held text rows n) (marks (words_at text at))
      → count_of rows + length (firsts seen (marks (words_at text at))) ≤ 8192
      → PairsEnd text (held text rows n) own rows rows' signs' (firsts seen (marks (words_at text at)))

-- the pairs of the first uses us: r of them, numbered from `own` on, and where each use stands
pub record Collected (text rows' signs' : List ℕ) (n own : ℕ) (us : List Use) (r : ℕ) : Type 0 where
  pub numbers : Numbered text rows' n own us
  pub count : r ≡ length us
  pub uses : UsesAt text signs' 0 us

-- the pairs of a part's rules, which stand from the place `at` on, up to `end` (266), where each of their uses is in order
pub record PairsDone (text rows signs : List ℕ) (n own at : ℕ) (rows' signs' : List ℕ) (r : ℕ) : Type 0 where
  pub index : IndexKept rows rows'
  pub size : length signs' ≡ length signs
  pub few : r ≤ 8192
  pub done : (rs : List Rule) (ws : List Word) → RulesIn (words_at text at) ws rs → (peek ws).kind ≡ 266 → AllOrdered (held text rows n) (rules_uses rs)
      → Collected text rows' signs' n own (pairs_of rs) r

-- all of this file computes where this is unfolded
unfoldable pub opened : Unit {0}
unfolding UsesAt
opened = tt
