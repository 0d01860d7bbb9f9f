-- One rule, and the rules from one on: what is promised of them before the whole.
use Rattle.std.specs.Prelude.{Result, Ok, Err, Bool, false, ◌&&◌, List, [], ◌≡◌, ℕ, ◌+◌, ◌<◌, ◌≤◌, eqb, ltb, length, get_or, drop}
use Rattle.base.specs.Common.{given}
use Rattle.base.specs.declared.Refusal.{Refusal}
use Rattle.builder.specs.Heads.{head_of}
use Rattle.builder.specs.Parts.{place_of}
use Rattle.builder.specs.Rules.{RulesTold, sort_of}
use Rattle.builder.specs.declared.Ruled.{Ruled}
use Rattle.cells.specs.Cells.{acts_cells, rules_cells, cells_start}
use Rattle.declarations.specs.Decls.{Agrees, Decl, index_of, rule_decls}
use Rattle.grammar.specs.Derived.{RuleIn, RulesIn}
use Rattle.maker.specs.Pairs.{PairsAre}
use Rattle.names.specs.Known.{Checked, good, wrong, ◌>>=◌, fault_if, KnownRule, Names}
use Rattle.names.specs.Resolve.{acts_of}
use Rattle.names.specs.Understand.{is_one, is_first, rules_mean}
use Rattle.program.specs.Past.{past_all}
use Rattle.program.specs.Program as means
use Rattle.program.specs.Program.{rule_of}
use Rattle.resolver.specs.Resolved.{DoneTold, read_told, fault_told, Appends, Ends}
use Rattle.symbols.specs.Rows.{held, gives_of, number_of}
use Rattle.syntax.specs.Written as written
use Rattle.syntax.specs.Written.{Program}
use Rattle.words.specs.Words.{Word, words_at}

-- rule k by its declaration
unfoldable pub rule_by : Program → Names → List KnownRule → List Decl → ℕ → ℕ → written.Rule → Checked means.Rule
rule_by p names rs ds first k r = do
  class ← head_of ds first k r
  b ← acts_of p names rs r.body (place_of ds false class)
  _ ← fault_if (given (gives_of ds class) && past_all b) 8 r.closing
  good (record { valued = given (gives_of ds class); body = b })

-- the code's answer in numbers
pub record RuledTold : Type 0 where
  pub done : DoneTold
  pub valued : Bool

abbrev pub ruled_told : Result Ruled Refusal → RuledTold
ruled_told (Ok r) = record { done = read_told r.at r.count; valued = r.valued }
ruled_told (Err e) = record { done = fault_told e; valued = false }

pub record RuleDone (text rows : List ℕ) (n first k at : ℕ) (cs : List ℕ) (c : ℕ) (cs' : List ℕ) (r : RuledTold) : Type 0 where
  pub same : length cs' ≡ length cs
  pub high : r.done.fault ≡ 0 → r.done.at ≤ length text
  pub done : (p : Program) (names : Names) (rs : List KnownRule) → Agrees p names rs (held text rows n) → (x : written.Rule) (ws : List Word)
      → RuleIn (words_at text at) ws x
      → Ends (PairsAre text rows n p names) text ws cs c cs' (λ b. acts_cells b.body []) (λ b. r.valued ≡ b.valued) r.done (rule_by p names rs (held text rows n) first k x)

-- k rules, of the names `seen`, stand before those of `rest`
pub record Sofar (ds : List Decl) (first k : ℕ) (seen : List (List ℕ)) (rest : List written.Rule) : Type 0 where
  pub start : is_first seen ≡ eqb k 0
  pub names : (w : List ℕ) → is_one w seen ≡ ltb (number_of (index_of 7 w 0 ds)) (first + k)
  pub left : drop (first + k) ds ≡ rule_decls k rest

-- the code's answer tells what the rules from the k-th on mean, the cells if E; what was written for those before stays
pub data RowEnd (E : Type 0) (k : ℕ) (cs : List ℕ) (c : ℕ) (cs' starts sorts starts' sorts' : List ℕ) (r : RulesTold) : Checked (List means.Rule) → Type 0 where
  row_built : {prog : List means.Rule} → r.fault ≡ 0 → r.rules ≡ k + length prog → (E → Appends cs c (rules_cells prog) cs' r.count)
      → ((j : ℕ) → j < k → get_or sorts' j 0 ≡ get_or sorts j 0) → ((j : ℕ) → j < k → get_or starts' j 0 ≡ get_or starts j 0)
      → ((j : ℕ) → j < length prog → get_or sorts' (k + j) 0 ≡ sort_of (rule_of prog j).valued)
      → (E → r.count ≤ length cs → (j : ℕ) → j < length prog → get_or starts' (k + j) 0 ≡ cells_start c prog j)
      → RowEnd E k cs c cs' starts sorts starts' sorts' r (good prog)
  row_faulty : {n : ℕ} {w : Word} → r.fault ≡ n → (n ≡ 0 → ⊥) → r.at ≡ w.start → r.len ≡ length w.text
      → RowEnd E k cs c cs' starts sorts starts' sorts' r (wrong n w)

-- the rules from the k-th on, at the place `at`
pub record RowDone (text rows : List ℕ) (n first k at : ℕ) (cs : List ℕ) (c : ℕ) (cs' starts sorts starts' sorts' : List ℕ) (r : RulesTold) : Type 0 where
  pub done : (p : Program) (names : Names) (rs : List KnownRule) → Agrees p names rs (held text rows n) → (seen : List (List ℕ))
      (rest : List written.Rule) (ws : List Word)
      → Sofar (held text rows n) first k seen rest → RulesIn (words_at text at) ws rest → k + length rest ≤ 128
      → RowEnd (PairsAre text rows n p names) k cs c cs' starts sorts starts' sorts' r (rules_mean p names rs seen rest)

-- all of this file computes where this is unfolded
unfoldable pub opened : Unit {0}
unfolding rule_by
opened = tt
