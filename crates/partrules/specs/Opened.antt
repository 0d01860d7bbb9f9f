-- A rule of a part, resolved by itself, and what its words are: what is promised of one rule, and of the rules from one on.
use Rattle.std.specs.Prelude.{Result, Ok, Err, Bool, true, false, ◌&&◌, ◌||◌, not, List, [], ◌∷◌, ◌++◌, ◌≡◌, ℕ, ◌+◌, ◌≤◌, eqb, length, get_or, set}
use Rattle.std.proofs.Math.Option.{Option, none, some}
use Rattle.acceptance.proofs.Shape.{Each}
use Rattle.base.specs.Common.{given}
use Rattle.base.specs.declared.Refusal.{Refusal}
use Rattle.builder.specs.Parts.{place_of, ActsDone}
use Rattle.cells.specs.Cells.{acts_cells}
use Rattle.declarations.specs.Decls.{Agrees, Decl, index_of, optional_in}
use Rattle.grammar.specs.Derived.{ActsIn, RuleIn, RulesIn}
use Rattle.names.specs.Known.{Checked, good, wrong, ◌>>=◌, fault_if, KnownRule, Names}
use Rattle.names.specs.Resolve.{acts_of}
use Rattle.names.specs.Understand.{is_one}
use Rattle.names.specs.Uses.{Use}
use Rattle.parts.specs.Form.{rule_words, rules_words}
use Rattle.parts.specs.Moved.{move_open, move_opens}
use Rattle.parts.specs.Objects.{Aim, head_aims, call_aims, use_aims, OpenRule, calls_all, open_names, open_rule, open_all}
use Rattle.parts.specs.Sound.{SoundRule}
use Rattle.partwriter.specs.Put.{Puts, back}
use Rattle.program.specs.Past.{past_all}
use Rattle.resolver.specs.Resolved.{read_told, fault_told, DoneTold, BuiltTold, Ends}
use Rattle.symbols.specs.Rows.{held, gives_of}
use Rattle.syntax.specs.Texts.{Head}
use Rattle.syntax.specs.Written as written
use Rattle.syntax.specs.Written.{Program}
use Rattle.words.specs.Words.{Word, words_at}
use Rattle.partrules.specs.declared.Read.{Read}
use Rattle.partrules.specs.declared.Rules.{Rules}

-- The names of the rules before

-- the byte of a row, where there is the row, is not 0
unfoldable pub marked : List ℕ → Option ℕ → Bool
marked seen none = false
marked seen (some i) = not (eqb (get_or seen i 0) 0)

-- that of the row is 1 now
unfoldable pub marking : List ℕ → Option ℕ → List ℕ
marking seen none = seen
marking seen (some i) = set seen i 1

-- the rules before are those whose rows are marked
pub record SeenAre (ds : List Decl) (before : List (List ℕ)) (seen : List ℕ) : Type 0 where
  pub names : (w : List ℕ) → is_one w before ≡ marked seen (index_of 7 w 0 ds)

-- an operation has the name, or a rule before
unfoldable pub taken_by : List Decl → List ℕ → List ℕ → Bool
taken_by ds seen w = given (index_of 6 w 0 ds) || marked seen (index_of 7 w 0 ds)

-- What a part is resolved in

pub record Context : Type 0 where
  pub program : Program
  pub names : Names
  pub known : List KnownRule
  -- what the numbers of calls stand for: the names of the list, the other names, the pairs
  pub listed : List Head
  pub others : List Word
  pub uses : List Use
  -- the rows hold the part's pairs: they do where each of its uses is in order, and cells are told only there
  pub sure : Bool

unfoldable pub aims_in : Context → List Aim
aims_in x = head_aims x.listed ++ (call_aims x.others ++ use_aims x.uses)

-- that a rule's actions, as crate builder tells them, are those of a part, a pair being one open call
pub record OpenActs (text rows : List ℕ) (n : ℕ) (x : Context) : Type 0 where
  pub tells : (at class : ℕ) (cs : List ℕ) (c : ℕ) (cs' : List ℕ) (r : BuiltTold) → ActsDone text rows n at false class true false cs c cs' r
      → (q : written.Acts) (ws : List Word) → ActsIn (words_at text at) ws q
      → Ends (x.sure ≡ true) text ws cs c cs' (λ b. acts_cells b []) (λ b. r.past ≡ past_all b) r.done
      (acts_of x.program (open_names x.names) x.known q (place_of (held text rows n) false class))

-- the rows hold what it is resolved in, and pairs are numbered from `first` on
pub record Holds (text rows : List ℕ) (n first : ℕ) (x : Context) : Type 0 where
  pub agrees : Agrees x.program x.names x.known (held text rows n)
  pub acts : OpenActs text rows n x
  pub pairs : first ≡ length x.listed + length x.others

-- what is asked of a rule: it has a row, its cells are no more than there is room for, and its calls are in order
pub record Able (ds : List Decl) (room : ℕ) (x : Context) (r : written.Rule) : Type 0 where
  pub row : given (index_of 7 r.rule.text 0 ds) ≡ true
  pub fits : x.sure ≡ true → (before : List (List ℕ)) (o : OpenRule) → open_rule x.program x.names x.known before r ≡ good o → length (acts_cells o.means.body []) ≤ room
  pub sound : x.sure ≡ true → (before : List (List ℕ)) (o : OpenRule) → open_rule x.program x.names x.known before r ≡ good o → SoundRule x.listed (aims_in x) o

-- One rule

-- by its declarations
unfoldable pub open_by : Context → List Decl → List ℕ → written.Rule → Checked OpenRule
open_by x ds seen r = do
  _ ← fault_if (taken_by ds seen r.rule.text) 4 r.rule
  class ← optional_in ds ds r.gives
  b ← acts_of x.program (open_names x.names) x.known r.body (place_of ds false class)
  _ ← fault_if (given (gives_of ds class) && past_all b) 8 r.closing
  good (record { name = r.rule; gives = r.gives; calls = calls_all r.body; means = record { valued = given (gives_of ds class); body = b } })

-- its words are the written rule's
pub record OpensAs (r : written.Rule) (o : OpenRule) : Type 0 where
  pub name : o.name ≡ r.rule
  pub gives : o.gives ≡ r.gives
  pub calls : o.calls ≡ calls_all r.body

-- the code's answer in numbers
abbrev pub done_told : Result Read Refusal → DoneTold
done_told (Ok r) = read_told r.at r.count
done_told (Err e) = fault_told e

-- the rule at the place `at` is read: its cells from the start on, or its fault
pub record RuleRead (text rows : List ℕ) (n at : ℕ) (seen cs cs' : List ℕ) (d : DoneTold) : Type 0 where
  pub same : length cs' ≡ length cs
  pub high : d.fault ≡ 0 → d.at ≤ length text
  pub done : (first : ℕ) (x : Context) → Holds text rows n first x → (r : written.Rule) (ws : List Word) → RuleIn (words_at text at) ws r
      → Ends (x.sure ≡ true) text ws cs 0 cs' (λ o. acts_cells o.means.body []) (OpensAs r) d (open_by x (held text rows n) seen r)

-- the code's answer tells an open rule, its words appended and its row marked; or the fault at its word
pub data RuleEnd (text : List ℕ) (ws : List Word) (moved first : ℕ) (x : Context) (object : List ℕ) (c : ℕ) (object' : List ℕ) (marks : Type 0) (d : DoneTold) : Checked OpenRule → Type 0 where
  rule_made : {o : OpenRule} → d.fault ≡ 0 → ws ≡ words_at text d.at → (x.sure ≡ true → Puts object c (rule_words (aims_in x) first (move_open (back moved) o)) object' d.count) → marks
      → RuleEnd text ws moved first x object c object' marks d (good o)
  rule_faulty : {n : ℕ} {w : Word} → d.fault ≡ n → (n ≡ 0 → ⊥) → d.at ≡ w.start → d.len ≡ length w.text → RuleEnd text ws moved first x object c object' marks d (wrong n w)

-- the rule at the place `at`
pub record RuleDone (text rows : List ℕ) (n first moved at : ℕ) (seen cs object : List ℕ) (c : ℕ) (seen' object' : List ℕ) (d : DoneTold) : Type 0 where
  pub high : d.fault ≡ 0 → d.at ≤ length text
  pub done : (x : Context) → Holds text rows n first x → (before : List (List ℕ)) → SeenAre (held text rows n) before seen → (r : written.Rule) (ws : List Word) → RuleIn (words_at text at) ws r
      → Able (held text rows n) (length cs) x r
      → RuleEnd text ws moved first x object c object' (SeenAre (held text rows n) (r.rule.text ∷ before) seen') d (open_rule x.program x.names x.known before r)

-- The rules

-- the code's answer tells the open rules, their words appended, behind k rules; or the fault at its word
pub data RulesEnd (k moved first : ℕ) (x : Context) (object : List ℕ) (c : ℕ) (object' : List ℕ) (a : Rules) : Checked (List OpenRule) → Type 0 where
  rules_made : {os : List OpenRule} → a.fault ≡ 0 → a.rules ≡ k + length os → (x.sure ≡ true → Puts object c (rules_words (aims_in x) first (move_opens (back moved) os)) object' a.count)
      → RulesEnd k moved first x object c object' a (good os)
  rules_faulty : {n : ℕ} {w : Word} → a.fault ≡ n → (n ≡ 0 → ⊥) → a.at ≡ w.start → a.len ≡ length w.text → RulesEnd k moved first x object c object' a (wrong n w)

-- the rules from the place `at` on, behind k rules
pub record RulesDone (text rows : List ℕ) (n first moved k at : ℕ) (room : ℕ) (seen object : List ℕ) (c : ℕ) (object' : List ℕ) (a : Rules) : Type 0 where
  pub done : (x : Context) → Holds text rows n first x → (before : List (List ℕ)) → SeenAre (held text rows n) before seen → (rs : List written.Rule) (ws : List Word) → RulesIn (words_at text at) ws rs
      → k + length rs ≤ 128 → Each (Able (held text rows n) room x) rs
      → RulesEnd k moved first x object c object' a (open_all x.program x.names x.known before rs)

-- all of this file computes where this is unfolded
unfoldable pub opened : Unit {0}
unfolding marked marking taken_by aims_in open_by
opened = tt
