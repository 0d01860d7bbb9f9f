-- The steps from two texts to an object, each told by the definition of crate parts.
use Rattle.std.specs.Prelude.{Result, Ok, Err, IfOk, List, [], ◌≡◌, ℕ, ◌+◌, ◌-◌, ◌≤◌, length}
use Rattle.declarations.specs.Decls.{Agrees, EntriesAt, decls_of, entries_of}
use Rattle.grammar.specs.Derived.{RulesIn}
use Rattle.names.specs.Known.{good, Names}
use Rattle.names.specs.Uses.{pairs_of}
use Rattle.partnames.specs.Declaring.{CommonIn}
use Rattle.parts.specs.Moved.{move_translated}
use Rattle.parts.specs.Objects.{Translated, object, in_common, in_part, translate, read_on, together, open_rules, open_all, aims_of, of_part, common_means}
use Rattle.partwriter.specs.Put.{back}
use Rattle.processor.specs.Process.{Part}
use Rattle.reader.specs.Texts.{Listed, RulesAt}
use Rattle.separate.specs.declared.Fault.{Fault}
use Rattle.separate.specs.declared.Named.{Named}
use Rattle.separate.specs.declared.Texts.{Texts}
use Rattle.symbols.specs.Index.{Kept}
use Rattle.symbols.specs.Rows.{held}
use Rattle.syntax.specs.Reading.{got, peek}
use Rattle.syntax.specs.Texts.{Common, read_common, read_part}
use Rattle.syntax.specs.Written.{Rule}
use Rattle.words.specs.Words.{Word, words_at}

-- the fault is the one that stands here: text 0 is the common part, text 1 the part
pub data Refuses (f : Fault) : Translated → Type 0 where
  refuses_common : {n : ℕ} {p : Part} → f.number ≡ n → f.text ≡ 0 → f.start ≡ p.start → f.len ≡ p.size → Refuses f (in_common n p)
  refuses_part : {n : ℕ} {p : Part} → f.number ≡ n → f.text ≡ 1 → f.start ≡ p.start → f.len ≡ p.size → Refuses f (in_part n p)

-- both texts are read: the common part up to its `end` at the place `at`, the part from behind its word `rules`, at the place `from`, on
pub record BothRead (common part : List ℕ) (at from : ℕ) : Type 0 where
  pub shared : Common
  pub left : ℕ
  pub rules : List Rule
  pub rest : List Word
  pub listed : Listed common at left shared
  pub rules_at : RulesAt part left from rules
  pub reads : read_part left part ≡ got rules rest
  pub behind : List Word
  pub reads_common : read_common common ≡ got shared behind
  pub short_common : length common ≤ 32768
  pub short_part : length part ≤ 32768
  pub so_far : translate common part ≡ read_on shared (got rules rest)

pub record ReadsTexts (common part : List ℕ) (r : Texts) : Type 0 where
  pub read : r.fault.number ≡ 0 → BothRead common part r.at r.from
  pub refused : (r.fault.number ≡ 0 → ⊥) → Refuses r.fault (translate common part)

-- both stand in one text, the part's rules from the place `at` on
pub record StandsIn (text : List ℕ) (at : ℕ) : Type 0 where
  pub shared : Common
  pub rules : List Rule
  pub left : List Word
  pub common_in : CommonIn (words_at text 0) (words_at text at) shared
  pub rules_in : RulesIn (words_at text at) left rules
  pub ends : (peek left).kind ≡ 266
  pub few : length rules ≤ 128
  pub inside : at ≤ length text
  pub short : length text ≤ 65535
  pub short_part : length text ≤ at + 32768

-- what they are translated to: the part's words stand `moved` further on in this text than in the part
unfoldable pub translated_in : {text : List ℕ} {at : ℕ} → ℕ → StandsIn text at → Translated
translated_in moved s = move_translated (back moved) (read_on s.shared (got s.rules s.left))

-- the names in order: the first n rows hold them, and `own` of them are names of rules
pub record Known (text rows : List ℕ) (n own : ℕ) (c : Common) (rs : List Rule) (names : Names) : Type 0 where
  pub kept : Kept text rows n
  pub agrees : Agrees (together c rs) names (open_rules c.listed rs) (held text rows n)
  pub entries : EntriesAt text (held text rows n) (entries_of (together c rs))
  pub held_are : held text rows n ≡ decls_of (together c rs)
  pub own_is : own ≡ length (together c rs).rules

-- the rules by these names
unfoldable pub opened_by : Common → List Rule → Names → Translated
opened_by c rs names =
    of_part (open_all (together c rs) names (open_rules c.listed rs) [] rs) (λ os. object (record { rules = os; uses = pairs_of rs; aims = aims_of c.listed rs }))

pub data Finds (text rows : List ℕ) (moved : ℕ) (r : Result Named Fault) {at : ℕ} (s : StandsIn text at) : Type 0 where
  names_found : (names : Names) {x : Named} → r ≡ Ok x → common_means s.shared s.rules ≡ good names → Known text rows x.count (x.count - x.first) s.shared s.rules names
      → translated_in moved s ≡ move_translated (back moved) (opened_by s.shared s.rules names) → Finds text rows moved r s
  names_faulty : {f : Fault} → r ≡ Err f → (f.number ≡ 0 → ⊥) → Refuses f (translated_in moved s) → Finds text rows moved r s

pub record FindsNames (text rows rows' : List ℕ) (moved : ℕ) (r : Result Named Fault) : Type 0 where
  pub size : length rows' ≡ length rows
  pub early : IfOk r (λ x. x.first ≤ x.count)
  pub small : IfOk r (λ x. x.count ≤ 512)
  pub kept : IfOk r (λ x. Kept text rows' x.count)
  pub finds : {at : ℕ} (s : StandsIn text at) → Finds text rows' moved r s

-- all of this file computes where this is unfolded
unfoldable pub opened : Unit {0}
unfolding translated_in opened_by
opened = tt
