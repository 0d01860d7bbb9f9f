-- "A program is sections, then `rules`, one rule or more, `end`": a text that the syntax pass reads through has a derivation.
use mathlib.Core.Bool.{Bool, true, false}
use mathlib.Core.List.{List, [], ◌∷◌}
use mathlib.Core.Path.{◌≡◌, refl}
use Prim.Native.Char.{code}
use Prim.Native.Nat.{ℕ, zero, suc, ◌+◌, ◌-◌, ◌<◌, ◌≤◌, min}
use lib.Dec.{ltb}
use lib.ListN.{length}
use borrow.Author.Tests.{ltb-false}
use native.Mathlib.Omega.{arith}
use Rattle.std.specs.Prelude.{if◌then◌else◌}
use Rattle.grammar.specs.Derived.{Not, RuleIn, one_rule, RulesIn, last_rule, more_rules, names_in_all, ProgramIn, a_program}
use Rattle.grammar.proofs.ActionsIn.{actions-in}
use Rattle.grammar.proofs.Laws.{From, no-got, bind, next, gives, refuses, on-kind, weaken, expects, expects-kind, one_name_lem}
use Rattle.grammar.proofs.SectionsIn.{gives-in, AllSections, some-sections-in}
use Rattle.syntax.specs.Actions.{actions}
use Rattle.syntax.specs.Parse.{a_rule, some_rules, program, end_of, parse}
use Rattle.syntax.specs.Reading.{got, fault, pure, peek, on◌then◌else◌, expect, a_name, one_name, optional}
use Rattle.syntax.specs.Sections.{nothing, Sections, some_sections}
use Rattle.syntax.specs.Written.{Rule, Program}
use Rattle.words.specs.Words.{Word, words, last, twice, name, rules, end}

-- Rules

-- a rule, where `left` more may be declared
record OneRule (left : ℕ) (ws rest : List Word) (r : Rule) : Type 0 where
  pub rule_inside : RuleIn ws rest r
  pub some_left : 0 < left

rule-from : {ws : List Word} (k left : ℕ) → From ws (a_rule k left) (λ rest r. OneRule left ws rest r)
unfolding a_rule
rule-from k left =
    bind (one_name left) _ (one_name_lem left) (λ ws₁ w t.
    bind (optional twice a_name) _ gives-in (λ ws₂ g u.
    next (expect (code ":")) _ (expects 58 refl) (λ ws₃ colon v.
    bind (actions k 32) _ (actions-in k 32 ws₃) (λ ws₄ b q.
    bind (expect (code ";")) _ (expects 59 refl) (λ ws₅ e x.
    gives (record { rule = w; gives = g; body = b; closing = e }) (record { rule_inside = one_rule t.word u v q x; some_left = t.some_left }))))))

-- rules and how many
pub record SomeRules (left : ℕ) (ws rest : List Word) (rs : List Rule) : Type 0 where
  pub rules_in : RulesIn ws rest rs
  pub few : length rs ≤ left

-- what stands behind a rule
data Behind (left : ℕ) (ws rest : List Word) : List Rule → Type 0 where
  no_name : Not 257 ws → rest ≡ ws → Behind left ws rest []
  more : {rs : List Rule} → (peek ws).kind ≡ 257 → SomeRules left ws rest rs → Behind left ws rest rs

behind : {left : ℕ} {ws ws₁ rest : List Word} {r : Rule} {rs : List Rule} → OneRule left ws ws₁ r → Behind (left - 1) ws₁ rest rs → SomeRules left ws rest (r ∷ rs)
behind x (no_name n d) = record { rules_in = last_rule (rw (← d) at x.rule_inside) (rw (← d) at n); few = let h = x.some_left in omega arith }
behind x (more d m) = record { rules_in = more_rules x.rule_inside d m.rules_in; few = let h = x.some_left in let g = m.few in omega arith }

pub rules-from : {ws : List Word} (k left : ℕ) → From ws (some_rules k left) (λ rest rs. SomeRules left ws rest rs)
unfolding some_rules
rules-from zero left = refuses
rules-from (suc k) left =
    bind (a_rule k left) _ (rule-from k left) (λ ws₁ r x.
    bind (on name then some_rules k (left - 1) else pure []) _
    (on-kind name _ _ (λ d. weaken (rules-from k (left - 1)) (λ rest rs m. more d m)) (λ n. gives [] (no_name n refl)))
    (λ ws₂ rs b. gives (r ∷ rs) (behind x b)))

-- The program

-- "Limits: 128 rules, 512 names"
pub few-in : {ws : List Word} {p : Program} → ProgramIn ws p → (length p.rules ≤ 128) × (names_in_all p.sections + length p.rules ≤ 512)
few-in (a_program s h r e few names) = (few, names)

counts : {s : Sections} {ws rest ws₁ rest₁ : List Word} {rs : List Rule} → AllSections nothing ws rest s → SomeRules (min 128 s.left) ws₁ rest₁ rs
    → (length rs ≤ 128) × (names_in_all s.sections + length rs ≤ 512)
unfolding nothing
counts {s} x m = let h = x.few in let g = m.few in (omega arith, omega arith)

program-from : {ws : List Word} (k : ℕ) → From ws (program k) (λ rest p. ProgramIn ws p)
unfolding program
program-from k =
    bind (some_sections k nothing) _ (some-sections-in k nothing) (λ ws₁ s x.
    next (expect rules) _ (expects 265 refl) (λ ws₂ head t.
    bind (some_rules k (min 128 s.left)) _ (rules-from k (min 128 s.left)) (λ ws₃ rs m.
    next (expect end) _ (expects-kind end) (λ ws₄ _ d.
    next (expect last) _ (expects-kind last) (λ ws₅ _ _.
    gives (record { sections = s.sections; rules = rs }) (a_program x.sections-in t m.rules_in d (counts x m).0 (counts x m).1))))))

-- the syntax pass reads a text of at most 32,768 bytes
record Parsed (text : List ℕ) (p : Program) (rest : List Word) : Type 0 where
  pub short : length text ≤ 32768
  pub read : program (length text + 1) (words text) ≡ got p rest

parsed : (text : List ℕ) (p : Program) (rest : List Word) → parse text ≡ got p rest → Parsed text p rest
unfolding parse
parsed text p rest e = go (ltb 32768 (length text)) refl e
  where
    go : (t : Bool) → ltb 32768 (length text) ≡ t → (if t then fault 9 (end_of text) else program (length text + 1) (words text)) ≡ got p rest → Parsed text p rest
    go true t e₁ = no-got e₁
    go false t e₁ = record { short = ltb-false 32768 (length text) t; read = e₁ }

-- a text that the syntax pass reads through has a derivation
pub parse-in : (text : List ℕ) (p : Program) (rest : List Word) → parse text ≡ got p rest → ProgramIn (words text) p
parse-in text p rest e = (program-from (length text + 1)).holds rest p (parsed text p rest e).read

-- "Text over 32,768 bytes is 9 before all else"
pub parse-short : (text : List ℕ) (p : Program) (rest : List Word) → parse text ≡ got p rest → length text ≤ 32768
parse-short text p rest e = (parsed text p rest e).short
