-- What the function that resolves the rules promises: their cells one after the other, where each begins, and what sort it is.
use Rattle.std.specs.Prelude.{Result, Ok, Err, List, [], ◌≡◌, ℕ, ◌<◌, ◌≤◌, length, get_or}
use Rattle.base.specs.Faults.{fault_number}
use Rattle.base.specs.declared.Refusal.{Refusal}
use Rattle.builder.specs.declared.Rules.{Rules}
use Rattle.cells.specs.Cells.{rules_cells, cells_start}
unfoldable pub use Rattle.cells.specs.Cells.{sort_of}
use Rattle.declarations.specs.Decls.{Agrees, decls_of, sections_decls}
use Rattle.grammar.specs.Derived.{RulesIn}
use Rattle.maker.specs.Pairs.{PairsAre}
use Rattle.names.specs.Declare.{known_rules}
use Rattle.names.specs.Known.{Checked, good, wrong, Names}
use Rattle.names.specs.Understand.{rules_mean}
use Rattle.program.specs.Program.{Rule, rule_of}
use Rattle.resolver.specs.Resolved.{Appends}
use Rattle.symbols.specs.Rows.{held}
use Rattle.syntax.specs.Written.{Program}
use Rattle.words.specs.Words.{Word, words_at}

-- the code's answer in numbers: the fault is 0, and there are the cells and the rules, or there is a fault at a word
pub record RulesTold : Type 0 where
  pub fault : ℕ
  pub at : ℕ
  pub len : ℕ
  pub count : ℕ
  pub rules : ℕ

abbrev pub rules_told : Result Rules Refusal → RulesTold
rules_told (Ok r) = record { fault = 0; at = 0; len = 0; count = r.count; rules = r.rules }
rules_told (Err e) = record { fault = fault_number e.fault; at = e.at; len = e.len; count = 0; rules = 0 }

-- the code's answer tells what the rules mean. Their cells rest on E: that the rows hold the pairs of the text's uses of operators
pub data RulesEnd (E : Type 0) (cs cs' starts sorts : List ℕ) (r : RulesTold) : Checked (List Rule) → Type 0 where
  built : {prog : List Rule} → r.fault ≡ 0 → r.rules ≡ length prog → (E → Appends cs 0 (rules_cells prog) cs' r.count)
      → ((k : ℕ) → k < length prog → get_or sorts k 0 ≡ sort_of (rule_of prog k).valued)
      → (E → r.count ≤ length cs → (k : ℕ) → k < length prog → get_or starts k 0 ≡ cells_start 0 prog k)
      → RulesEnd E cs cs' starts sorts r (good prog)
  faulty : {n : ℕ} {w : Word} → r.fault ≡ n → (n ≡ 0 → ⊥) → r.at ≡ w.start → r.len ≡ length w.text → RulesEnd E cs cs' starts sorts r (wrong n w)

-- n declarations, the first rule's being declaration `first`, and the rules from the place `at` on
pub record RulesDone (text rows : List ℕ) (n first at : ℕ) (cs cs' starts' sorts' : List ℕ) (r : RulesTold) : Type 0 where
  pub done : (p : Program) (names : Names) → held text rows n ≡ decls_of p → first ≡ length (sections_decls 0 p.sections) → Agrees p names (known_rules 0 p.rules) (decls_of p)
      → (ws : List Word) → RulesIn (words_at text at) ws p.rules → length p.rules ≤ 128
      → RulesEnd (PairsAre text rows n p names) cs cs' starts' sorts' r (rules_mean p names (known_rules 0 p.rules) [] p.rules)

-- all of this file computes where this is unfolded
unfoldable pub opened : Unit {0}
unfolding sort_of
opened = tt
