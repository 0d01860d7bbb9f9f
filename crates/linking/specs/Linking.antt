-- What the steps of linking promise each other.
use Rattle.std.specs.Prelude.{Option as Maybe, Some, None, false, ◌||◌, List, [], ◌≡◌, ℕ, ◌+◌, ◌*◌, ◌≤◌, min, eqb, ltb, length, replicate, if◌then◌else◌}
use Rattle.std.proofs.Math.Option.{none}
use Rattle.cells.specs.Cells.{rules_cells}
use Rattle.declarations.specs.Decls.{decls_of}
use Rattle.linking.specs.Answered.{IsCommon, Leaves}
use Rattle.linking.specs.declared.Fault.{Fault}
use Rattle.linking.specs.declared.Linked as code
use Rattle.linking.specs.declared.Shared.{Shared}
use Rattle.levels.specs.Making.{MadeEnd}
use Rattle.levels.specs.declared.Made.{Made}
use Rattle.linkpairs.specs.Places.{RulesMade}
use Rattle.linkpairs.specs.Standing.{Sections}
use Rattle.linkpairs.specs.declared.Work.{Work}
use Rattle.machine.specs.Bytes.{count, words_of}
use Rattle.names.specs.Known.{good, Names}
use Rattle.names.specs.Uses.{made_for}
use Rattle.objects.specs.Places.{HeadsAt, SectionsAt}
use Rattle.parts.specs.Form.{AreObjects, last_length}
use Rattle.parts.specs.Link.{Linked, refused, rules_of, first_typed, unlike_in, twice_in, past_limit_in, pairs_in, past_made, known_of, closed_in, program, refused_at, as_one}
use Rattle.parts.specs.Objects.{Object, together}
use Rattle.processor.specs.Process.{part_of}
use Rattle.program.specs.Program.{Rule}
use Rattle.reader.specs.Texts.{Listed}
use Rattle.resolver.specs.Resolved.{Appends}
use Rattle.symbols.specs.Index.{Kept}
use Rattle.symbols.specs.Rows.{held}
use Rattle.syntax.specs.Parse.{end_of}
use Rattle.syntax.specs.Reading.{got}
use Rattle.syntax.specs.Sections.{names_in_all}
use Rattle.syntax.specs.Texts.{Common, too_long, read_common}
use Rattle.words.specs.Words.{Word}

-- a common part that is read; its sections leave `room` names
pub record IsRead (common : List ℕ) (room : ℕ) : Type 0 where
  pub short : too_long common ≡ false
  pub tree : Common
  pub rest : List Word
  pub reads : read_common common ≡ got tree rest
  pub at : ℕ
  pub listed : Listed common at room tree

-- the common part c with the names n: its declarations stand in the rows
pub record Rowed (common rows : List ℕ) (shared : Shared) (c : Common) (n : Names) : Type 0 where
  pub is : IsCommon common c n
  pub size : length common ≤ 32768
  pub small : shared.n ≤ 512
  pub others : shared.others ≡ names_in_all c.sections
  pub few : shared.others ≤ 512
  pub room : shared.room ≡ c.left
  pub all_names : names_in_all c.sections + c.left ≡ 512
  pub kept : Kept common rows shared.n
  pub found : SectionsAt common rows shared.n n
  pub sections : Sections common rows shared.n (together c []) n

-- these are its sections', then its list's, and there is just room for the list in the heads
pub record Named (common rows heads : List ℕ) (shared : Shared) : Type 0 where
  pub common_is : Common
  pub names : Names
  pub rowed : Rowed common rows shared common_is names
  pub held_are : held common rows shared.n ≡ decls_of (together common_is [])
  pub lines : shared.n ≡ shared.others + length common_is.listed
  pub room : length heads ≡ 4 * length common_is.listed

-- and its list stands in the heads
pub record Declared (common rows heads : List ℕ) (shared : Shared) : Type 0 where
  pub common_is : Common
  pub names : Names
  pub rowed : Rowed common rows shared common_is names
  pub heads_are : HeadsAt common heads common_is.listed

-- the checks of `link` up to the number of rules, and the answer behind them
unfoldable pub checked : List ℕ → Common → List Object → Linked → Linked
checked common c os other =
    if eqb (length os) 0 || ltb 16 (length os) then refused 9 0 (part_of (end_of common))
    else refused_at 5 (first_typed (rules_of os))
    (refused_at 49 (unlike_in c.listed (rules_of os) 1 os)
    (refused_at 50 (twice_in [] 1 os)
    (refused_at 9 (past_limit_in (min 128 c.left) 1 os) other)))

-- they find nothing
pub record Passed (common : List ℕ) (c : Common) (os : List Object) : Type 0 where
  pub number : (eqb (length os) 0 || ltb 16 (length os)) ≡ false
  pub untyped : first_typed (rules_of os) ≡ none
  pub alike : unlike_in c.listed (rules_of os) 1 os ≡ none
  pub once : twice_in [] 1 os ≡ none
  pub few : past_limit_in (min 128 c.left) 1 os ≡ none

-- the first fault, or none
pub data Finds (common : List ℕ) (c : Common) (os : List Object) : Maybe Fault → Type 0 where
  faulty : {r : Fault} → (r.number ≡ 0 → ⊥) → ((other : Linked) → checked common c os other ≡ refused r.number r.text (record { start = r.start; size = r.len })) → Finds common c os (Some r)
  passed : Passed common c os → Finds common c os None

-- the answer behind these checks
unfoldable pub behind_checks : Common → Names → List ℕ → List Object → ℕ → Linked
behind_checks c n last os room =
    refused_at 9 (past_made n (names_in_all c.sections) (length (rules_of os)) os (pairs_in os)) (as_one (length os) last room (program n (names_in_all c.sections) os))

-- objects of a common part that have passed the checks
pub record Sound (common rows objects : List ℕ) (shared : Shared) : Type 0 where
  pub common_is : Common
  pub names : Names
  pub rowed : Rowed common rows shared common_is names
  pub are : AreObjects common common_is names (words_of objects)
  pub passes : Passed common common_is are.objects

-- what is left for them
abbrev pub LinksSound : List ℕ → List ℕ → List ℕ → Shared → List ℕ → List ℕ → code.Linked → Type 0
LinksSound common rows objects shared old new r =
    (c : Common) (n : Names) → Rowed common rows shared c n → (h : AreObjects common c n (words_of objects)) → Passed common c h.objects
    → Leaves (behind_checks c n (replicate (last_length h.lengths) 0) h.objects (count old)) old new r

-- any reading of the objects has so many rules
abbrev pub SoMany : List ℕ → List ℕ → ℕ → Type 0
SoMany common objects own = (c : Common) (n : Names) (h : AreObjects common c n (words_of objects)) → own ≡ length (rules_of h.objects)

-- the rules of the objects are closed: their cells stand in the buffer; and by these places the rules are made for all pairs of section and operand rule
pub record Closed (common rows objects places cells : List ℕ) (work : Work) (c : Common) (n : Names) (h : AreObjects common c n (words_of objects)) : Type 0 where
  pub shared : Shared
  pub rowed : Rowed common rows shared c n
  pub passes : Passed common c h.objects
  pub rows_are : work.n ≡ shared.n
  pub rules_are : work.rules ≡ length (rules_of h.objects)
  pub few_pairs : work.count ≤ 128
  pub before : List ℕ
  pub room : length before ≡ 4224
  pub size : length cells ≡ 4224
  pub filled : work.cells ≤ 4225
  pub closes : Appends before 0 (rules_cells (closed_in n (known_of 0 (rules_of h.objects)) (length (rules_of h.objects)) (pairs_in h.objects) h.objects)) cells work.cells
  pub makes : {cs : List ℕ} {k : ℕ} {starts sorts cs' starts' sorts' : List ℕ} {r : Made} → RulesMade common rows work.n places 0 work.count work.rules cs k starts sorts cs' starts' sorts' r
      → (ms : List Rule) × ((made_for n (known_of 0 (rules_of h.objects)) (names_in_all c.sections) (length (rules_of h.objects)) (pairs_in h.objects) ≡ good ms)
      × MadeEnd (length (rules_of h.objects)) cs k cs' starts sorts starts' sorts' r ms)

-- so it is for some reading
pub record IsClosed (common rows objects places cells : List ℕ) (work : Work) : Type 0 where
  pub common_is : Common
  pub names : Names
  pub are : AreObjects common common_is names (words_of objects)
  pub closed : Closed common rows objects places cells work common_is names are

-- what is left for them
abbrev pub LinksClosed : List ℕ → List ℕ → List ℕ → List ℕ → List ℕ → Work → List ℕ → List ℕ → code.Linked → Type 0
LinksClosed common rows objects places cells work old new r =
    (c : Common) (n : Names) (h : AreObjects common c n (words_of objects)) → Closed common rows objects places cells work c n h
    → Leaves (as_one (length h.objects) (replicate (last_length h.lengths) 0) (count old) (program n (names_in_all c.sections) h.objects)) old new r

-- all of this file computes where this is unfolded
unfoldable pub opened : Unit {0}
unfolding checked behind_checks
opened = tt
