-- What the passes over a text that was read promise: its rules' cells in the buffers and its declarations in the rows, or a fault of 3 to 8, of 45 or of 9.
use Rattle.std.specs.Prelude.{Result, Ok, Err, List, [], ◌++◌, ◌≡◌, ℕ, ◌+◌, ◌<◌, ◌≤◌, length, get_or}
use Rattle.base.specs.Faults.{fault_number}
use Rattle.base.specs.declared.Refusal.{Refusal}
use Rattle.cells.specs.Cells.{rules_cells, cells_start}
use Rattle.collector.specs.declared.Collected.{Collected}
use Rattle.declarations.specs.Decls.{Agrees, EntriesAt, decls_of, entries_of, sections_decls}
use Rattle.emitter.specs.Emitted.{FewLabelsAll, sort_of}
use Rattle.frontend.specs.declared.Resolved.{Resolved}
use Rattle.grammar.specs.Derived.{RulesIn}
use Rattle.maker.specs.Pairs.{AllOrdered, PairsAre}
use Rattle.names.specs.Declare.{declare_sections, known_rules}
use Rattle.names.specs.Known.{Checked, good, wrong, ◌>>=◌, Names}
use Rattle.names.specs.Understand.{nobody, rules_mean, understand}
use Rattle.names.specs.Uses.{rules_uses, pairs_of, made_for}
use Rattle.program.specs.Accepted.{Accepted}
use Rattle.program.specs.Program.{Rule, rule_of, body_of}
use Rattle.resolver.specs.Resolved.{Appends}
use Rattle.symbols.specs.Index.{Kept}
use Rattle.symbols.specs.Rows.{held}
use Rattle.syntax.specs.Parse.{parse}
use Rattle.syntax.specs.Reading.{got, peek}
use Rattle.syntax.specs.Sections.{names_in_all}
use Rattle.syntax.specs.Written.{Program}
use Rattle.verdict.specs.Lies.{FewAll}
use Rattle.words.specs.Words.{Word, words_at}

-- what stands in the buffers once the rules are resolved: the cells of prog, or as many as there was room for; its rules' starts and sorts
pub record Ready (cells starts sorts : List ℕ) (rules filled : ℕ) (prog : List Rule) : Type 0 where
  pub accepts : Accepted prog
  pub labels : (r : ℕ) → r < length prog → FewLabelsAll (body_of prog r)
  pub choices : (r : ℕ) → r < length prog → FewAll (body_of prog r)
  pub number : rules ≡ length prog
  pub few : rules ≤ 128
  pub before : List ℕ
  pub room : length before ≡ 4224
  pub appends : Appends before 0 (rules_cells prog) cells filled
  pub sorted : (r : ℕ) → r < length prog → get_or sorts r 0 ≡ sort_of (rule_of prog r).valued
  pub begins : filled ≤ 4224 → (r : ℕ) → r < length prog → get_or starts r 0 ≡ cells_start 0 prog r

-- the rules written, by the names that are declared
abbrev pub written_by : Program → Names → Checked (List Rule)
written_by p names = rules_mean p names (known_rules 0 p.rules) [] p.rules

-- those made for operators
abbrev pub made_by : Program → Names → Checked (List Rule)
made_by p names = made_for names (known_rules 0 p.rules) (names_in_all p.sections) (length p.rules) (pairs_of p.rules)

-- both, "as if written after the last rule"
abbrev pub rules_by : Program → Names → Checked (List Rule)
rules_by p names = ◌>>=◌ (written_by p names) (λ own. ◌>>=◌ (made_by p names) (λ made. good (own ++ made)))

-- what is known of the text p once its declarations are in order: the rows, the names, and where its rules are read again
pub record Declared (text rows : List ℕ) (n first at : ℕ) (p : Program) (names : Names) : Type 0 where
  pub small : n ≤ 512
  pub held_are : held text rows n ≡ decls_of p
  pub first_is : first ≡ length (sections_decls 0 p.sections)
  pub count : n ≡ first + length p.rules
  pub declares : declare_sections p p.sections nobody ≡ good names
  pub agrees : Agrees p names (known_rules 0 p.rules) (decls_of p)
  pub entries : EntriesAt text (decls_of p) (entries_of p)
  pub left : List Word
  pub again : RulesIn (words_at text at) left p.rules
  pub ending : (peek left).kind ≡ 266
  pub few : length p.rules ≤ 128
  pub few_names : names_in_all p.sections + length p.rules ≤ 512
  pub accepts : (prog : List Rule) → rules_by p names ≡ good prog → Accepted prog

-- the declarations of p stand in the rows, those of its rules from row `first` on, and the pairs of its uses of operators
pub record Rowed (text rows : List ℕ) (r : Resolved) (p : Program) : Type 0 where
  pub names : Names
  pub known : Declared text rows r.declared r.first r.body p names
  pub number : r.written ≡ length p.rules
  pub inside : r.body ≤ length text
  pub kept : Kept text rows r.declared
  pub ordered : AllOrdered (held text rows r.declared) (rules_uses p.rules)
  pub pairs : PairsAre text rows r.declared p names

-- what the text means is in the buffers, or it has a fault
pub data Resolves (text rows cells starts sorts : List ℕ) (p : Program) : Result Resolved Refusal → Checked (List Rule) → Type 0 where
  meant : {r : Resolved} {prog : List Rule} → Ready cells starts sorts r.rules r.cells prog → Rowed text rows r p → Resolves text rows cells starts sorts p (Ok r) (good prog)
  mistaken : {e : Refusal} {n : ℕ} {w : Word} → fault_number e.fault ≡ n → e.at ≡ w.start → e.len ≡ length w.text → Resolves text rows cells starts sorts p (Err e) (wrong n w)

-- the rules of a text whose declarations are in order, resolved
pub record ResolvesRules (text rows rows' : List ℕ) (c : Collected) (cells starts sorts : List ℕ) (r : Result Resolved Refusal) : Type 0 where
  pub size : length rows' ≡ length rows
  pub rules : (p : Program) (names : Names) → Declared text rows c.count c.rules c.at p names → Resolves text rows' cells starts sorts p r (rules_by p names)

-- a text that is read, resolved
abbrev pub ResolvesRead : List ℕ → List ℕ → List ℕ → List ℕ → List ℕ → Result Resolved Refusal → Type 0
ResolvesRead text rows cells starts sorts r = (p : Program) (ws : List Word) → parse text ≡ got p ws → Resolves text rows cells starts sorts p r (understand p)

-- the syntax pass has read the text
pub record IsRead (text : List ℕ) : Type 0 where
  pub tree : Program
  pub rest : List Word
  pub reads : parse text ≡ got tree rest
