-- What the actions and selectors come to, by the answers of the lookups.
use mathlib.Core.List.{List}
use mathlib.Core.Option.{Option, none, some}
use mathlib.Core.Path.{◌≡◌, sym, ap, ◌∙◌}
use Prim.Native.Nat.{ℕ, ◌+◌, ◌*◌, ◌<◌}
use lib.ListN.{get_or}
use Rattle.base.specs.Common.{given}
use Rattle.declarations.specs.Decls.{Agrees, knowns_in, decl_of, class_named, members_of, operation_from, rule_from, lookup_in}
use Rattle.declarations.proofs.Uses.{uses-lookup, uses-members}
use Rattle.names.specs.Known.{Checked, good, wrong, ◌>>=◌, fault_if, Known, KnownRule, Names, find, lookup}
use Rattle.names.specs.Resolve.{Place, Chooses, updating, choosing, operation_of, rule_named, parameter_of, update_of, match_of, give_of, ranked_of, plain_of, selector_of}
use Rattle.names.specs.Resolve as resolve
use Rattle.program.specs.Program.{Plain, emit, error, call, give, by_rule}
use Rattle.resolver.proofs.Looking.{after-good, after-wrong, operation-is, rule-is, ranked-is, procedure_of, lowest_for, option-none, option-some}
use Rattle.resolver.specs.Parts.{valued, named_of, call_of, by_rule_of, by_operation_of, chooses_of}
use Rattle.symbols.proofs.Searches.{held_at}
use Rattle.symbols.specs.Rows.{word_of, second_kind, decl_at, held, operation_in, operators_row, rule_in}
use Rattle.syntax.specs.Written as written
use Rattle.syntax.specs.Written.{Constant, Program}
use Rattle.words.specs.Words.{Word}

module _ {p : Program} {names : Names} {rs : List KnownRule} (text rows : List ℕ) (n : ℕ) (ag : Agrees p names rs (held text rows n)) where
  pub emit-is : (at : Place) (w : Word) → plain_of p names rs at (written.emit w) ≡ valued emit (lookup_in (held text rows n) 2 w)
  unfolding plain_of
  emit-is at w = ap (λ m. valued emit m) (ap (λ ks. lookup p ks w) ag.outputs ∙ uses-lookup ag 2 w)

  pub error-is : (at : Place) (w : Word) → plain_of p names rs at (written.error w) ≡ valued error (lookup_in (held text rows n) 4 w)
  unfolding plain_of
  error-is at w = ap (λ m. valued error m) (ap (λ ks. lookup p ks w) ag.errors ∙ uses-lookup ag 4 w)

  pub give-is : (class : ℕ) (w v : Word) → give_of p names rs (some (knowns_in class (held text rows n))) w (some v) ≡ valued give (lookup_in (held text rows n) class v)
  unfolding give_of
  give-is class w v = ap (λ m. valued give m) (uses-lookup ag class v)

  pub parameter-is : (class : ℕ) (w : Word) (c : Constant) → parameter_of p names rs w (some (knowns_in class (held text rows n))) (some c) ≡ valued some (lookup_in (held text rows n) class c.constant)
  unfolding parameter_of
  parameter-is class w c = ap (λ m. valued some m) (uses-lookup ag class c.constant)

  -- a token or an operation
  pub named-token : (w : Word) (c : Option Constant) (v : ℕ) → find w.text (knowns_in 1 (held text rows n)) ≡ some v → named_of p names rs w c ≡ match_of p names rs v c
  unfolding plain_of
  named-token w c v e =
      ap (λ x. elim x as (λ _. Checked Plain) [ some v ↦ match_of p names rs v c | none ↦ update_of p names rs w c ]) (ap (find w.text) ag.inputs ∙ e)

  pub named_other : (w : Word) (c : Option Constant) → find w.text (knowns_in 1 (held text rows n)) ≡ none → named_of p names rs w c ≡ update_of p names rs w c
  unfolding plain_of
  named_other w c e =
      ap (λ x. elim x as (λ _. Checked Plain) [ some v ↦ match_of p names rs v c | none ↦ update_of p names rs w c ]) (ap (find w.text) ag.inputs ∙ e)

  -- operations
  operation-row : (w : Word) (row : ℕ) → row < n → operation_in (held text rows n) w ≡ good row → operation_of p names rs w ≡ good (operation_from (held text rows n) (decl_at text rows row))
  operation-row w row h e =
      operation-is ag w ∙ after-good (λ i. good (operation_from (held text rows n) (decl_of (held text rows n) i))) row e
      ∙ ap (λ d. good (operation_from (held text rows n) d)) (held_at text rows n row h)

  pub update-missing : (w : Word) (c : Option Constant) (f : ℕ) → operation_in (held text rows n) w ≡ wrong f w → update_of p names rs w c ≡ wrong f w
  unfolding update_of
  update-missing w c f e = after-wrong _ f w (operation-is ag w ∙ after-wrong _ f w e)

  third-none : (row : ℕ) → get_or rows (8 * row + 7) 0 ≡ 0 → members_of (held text rows n) (decl_at text rows row).third ≡ none
  unfolding members_of decl_at
  third-none row e = ap (members_of (held text rows n)) (option-none text 257 (get_or rows (8 * row + 6) 0) (get_or rows (8 * row + 7) 0) e)

  third-some : (row : ℕ) → (get_or rows (8 * row + 7) 0 ≡ 0 → ⊥)
      → members_of (held text rows n) (decl_at text rows row).third
      ≡ some (knowns_in (class_named (held text rows n) (word_of text 257 (get_or rows (8 * row + 6) 0) (get_or rows (8 * row + 7) 0)).text) (held text rows n))
  unfolding members_of decl_at
  third-some row e = ap (members_of (held text rows n)) (option-some text 257 (get_or rows (8 * row + 6) 0) (get_or rows (8 * row + 7) 0) e)

  pub update-choice : (w : Word) (c : Option Constant) (row : ℕ) → row < n → operation_in (held text rows n) w ≡ good row → (get_or rows (8 * row + 7) 0 ≡ 0 → ⊥) → update_of p names rs w c ≡ wrong 5 w
  unfolding update_of
  update-choice w c row h e q =
      after-good _ _ (operation-row w row h e)
      ∙ ap (λ g. ◌>>=◌ (fault_if (given g) 5 w) (λ _. ◌>>=◌ (parameter_of p names rs w (members_of (held text rows n) (decl_at text rows row).second) c) (λ v. good (updating (decl_at text rows row).value v)))) (third-some row q)

  pub update-rest : (w : Word) (c : Option Constant) (row : ℕ) → row < n → operation_in (held text rows n) w ≡ good row → get_or rows (8 * row + 7) 0 ≡ 0
      → update_of p names rs w c ≡ ◌>>=◌ (parameter_of p names rs w (members_of (held text rows n) (decl_at text rows row).second) c) (λ v. good (updating (decl_at text rows row).value v))
  unfolding update_of
  update-rest w c row h e q =
      after-good _ _ (operation-row w row h e)
      ∙ ap (λ g. ◌>>=◌ (fault_if (given g) 5 w) (λ _. ◌>>=◌ (parameter_of p names rs w (members_of (held text rows n) (decl_at text rows row).second) c) (λ v. good (updating (decl_at text rows row).value v)))) (third-none row q)

  pub by-operation-missing : (w : Word) (c : Option Constant) (f : ℕ) → operation_in (held text rows n) w ≡ wrong f w → by_operation_of p names rs w c ≡ wrong f w
  unfolding selector_of
  by-operation-missing w c f e = after-wrong _ f w (operation-is ag w ∙ after-wrong _ f w e)

  chosen : Word → Option Constant → ℕ → Option (List Known) → Checked Chooses
  chosen w c row g = elim g as (λ _. Checked Chooses) [
    | none ↦ wrong 5 w
    | some ks ↦ ◌>>=◌ (parameter_of p names rs w (members_of (held text rows n) (decl_at text rows row).second) c) (λ v. good (record { by = choosing (decl_at text rows row).value v; labels = ks }))
  ]

  pub by-operation-update : (w : Word) (c : Option Constant) (row : ℕ) → row < n → operation_in (held text rows n) w ≡ good row → get_or rows (8 * row + 7) 0 ≡ 0 → by_operation_of p names rs w c ≡ wrong 5 w
  unfolding selector_of chosen
  by-operation-update w c row h e q = after-good _ _ (operation-row w row h e) ∙ ap (chosen w c row) (third-none row q)

  pub by-operation-rest : (w : Word) (c : Option Constant) (row class : ℕ) → row < n → operation_in (held text rows n) w ≡ good row → (get_or rows (8 * row + 7) 0 ≡ 0 → ⊥)
      → class ≡ class_named (held text rows n) (word_of text 257 (get_or rows (8 * row + 6) 0) (get_or rows (8 * row + 7) 0)).text
      → by_operation_of p names rs w c ≡ chooses_of text rows n row w class p names rs c
  unfolding selector_of chosen
  by-operation-rest w c row class h e q k =
      after-good _ _ (operation-row w row h e) ∙ ap (chosen w c row) (third-some row q)
      ∙ ap (λ (t : ℕ). chooses_of text rows n row w t p names rs c) (sym k)

  -- rules
  rule-row : (w : Word) (row : ℕ) → row < n → rule_in (held text rows n) w ≡ good row → rule_named p names rs w ≡ good (rule_from (decl_at text rows row))
  rule-row w row h e =
      rule-is ag w ∙ after-good (λ i. good (rule_from (decl_of (held text rows n) i))) row e ∙ ap (λ d. good (rule_from d)) (held_at text rows n row h)

  named_none : (row : ℕ) → get_or rows (8 * row + 7) 0 ≡ 0 → (rule_from (decl_at text rows row)).gives ≡ none
  unfolding decl_at
  named_none row e = ap (λ x. elim x as (λ _. Option (List ℕ)) [ none ↦ none | some w ↦ some w.text ]) (option-none text 257 (get_or rows (8 * row + 6) 0) (get_or rows (8 * row + 7) 0) e)

  named_some : (row : ℕ) → (get_or rows (8 * row + 7) 0 ≡ 0 → ⊥) → (rule_from (decl_at text rows row)).gives ≡ some (word_of text 257 (get_or rows (8 * row + 6) 0) (get_or rows (8 * row + 7) 0)).text
  unfolding decl_at
  named_some row e = ap (λ x. elim x as (λ _. Option (List ℕ)) [ none ↦ none | some w ↦ some w.text ]) (option-some text 257 (get_or rows (8 * row + 6) 0) (get_or rows (8 * row + 7) 0) e)

  -- a procedure rule, of which g makes an action
  procedure-missing : (g : KnownRule → Plain) (w : Word) (f : ℕ) → rule_in (held text rows n) w ≡ wrong f w → procedure_of p names rs g w ≡ wrong f w
  procedure-missing g w f e = after-wrong _ f w (rule-is ag w ∙ after-wrong _ f w e)

  procedure-valued : (g : KnownRule → Plain) (w : Word) (row : ℕ) → row < n → rule_in (held text rows n) w ≡ good row → (get_or rows (8 * row + 7) 0 ≡ 0 → ⊥) → procedure_of p names rs g w ≡ wrong 5 w
  procedure-valued g w row h e q =
      after-good _ _ (rule-row w row h e) ∙ ap (λ x. ◌>>=◌ (fault_if (given x) 5 w) (λ _. good (g (rule_from (decl_at text rows row))))) (named_some row q)

  procedure-rule : (g : KnownRule → Plain) (w : Word) (row : ℕ) → row < n → rule_in (held text rows n) w ≡ good row → get_or rows (8 * row + 7) 0 ≡ 0
      → procedure_of p names rs g w ≡ good (g (rule_from (decl_at text rows row)))
  procedure-rule g w row h e q =
      after-good _ _ (rule-row w row h e) ∙ ap (λ x. ◌>>=◌ (fault_if (given x) 5 w) (λ _. good (g (rule_from (decl_at text rows row))))) (named_none row q)

  pub call-missing : (w : Word) (f : ℕ) → rule_in (held text rows n) w ≡ wrong f w → call_of p names rs w ≡ wrong f w
  unfolding plain_of
  call-missing w f e = procedure-missing (λ r. call r.place) w f e

  pub call-valued : (w : Word) (row : ℕ) → row < n → rule_in (held text rows n) w ≡ good row → (get_or rows (8 * row + 7) 0 ≡ 0 → ⊥) → call_of p names rs w ≡ wrong 5 w
  unfolding plain_of
  call-valued w row h e q = procedure-valued (λ r. call r.place) w row h e q

  pub call-rule : (w : Word) (row : ℕ) → row < n → rule_in (held text rows n) w ≡ good row → get_or rows (8 * row + 7) 0 ≡ 0 → call_of p names rs w ≡ good (call (decl_at text rows row).value)
  unfolding plain_of
  call-rule w row h e q = procedure-rule (λ r. call r.place) w row h e q

  -- `^`: the section, then the rule
  pub ranked-nowhere : (s w o : Word) (f : ℕ) → operators_row (held text rows n) w ≡ wrong f w → ranked_of p names rs s w o ≡ wrong f w
  ranked-nowhere s w o f e = ranked-is ag s w o ∙ after-wrong _ f w e

  pub ranked-missing : (s w o : Word) (i f : ℕ) → operators_row (held text rows n) w ≡ good i → rule_in (held text rows n) o ≡ wrong f o → ranked_of p names rs s w o ≡ wrong f o
  ranked-missing s w o i f a e = ranked-is ag s w o ∙ after-good _ i a ∙ procedure-missing (lowest_for p names s w o) o f e

  pub ranked-valued : (s w o : Word) (i row : ℕ) → operators_row (held text rows n) w ≡ good i → row < n → rule_in (held text rows n) o ≡ good row → (get_or rows (8 * row + 7) 0 ≡ 0 → ⊥) → ranked_of p names rs s w o ≡ wrong 5 o
  ranked-valued s w o i row a h e q = ranked-is ag s w o ∙ after-good _ i a ∙ procedure-valued (lowest_for p names s w o) o row h e q

  pub ranked-rule : (s w o : Word) (i row : ℕ) → operators_row (held text rows n) w ≡ good i → row < n → rule_in (held text rows n) o ≡ good row → get_or rows (8 * row + 7) 0 ≡ 0
      → ranked_of p names rs s w o ≡ good (lowest_for p names s w o (rule_from (decl_at text rows row)))
  ranked-rule s w o i row a h e q = ranked-is ag s w o ∙ after-good _ i a ∙ procedure-rule (lowest_for p names s w o) o row h e q

  pub by-rule-missing : (w : Word) (f : ℕ) → rule_in (held text rows n) w ≡ wrong f w → by_rule_of p names rs w ≡ wrong f w
  unfolding selector_of
  by-rule-missing w f e = after-wrong _ f w (rule-is ag w ∙ after-wrong _ f w e)

  giving : Word → ℕ → Option (List ℕ) → Checked Chooses
  giving w row g = elim g as (λ _. Checked Chooses) [ none ↦ wrong 5 w | some t ↦ good (record { by = by_rule (decl_at text rows row).value; labels = resolve.members_of p names rs t }) ]

  pub by-rule-procedure : (w : Word) (row : ℕ) → row < n → rule_in (held text rows n) w ≡ good row → get_or rows (8 * row + 7) 0 ≡ 0 → by_rule_of p names rs w ≡ wrong 5 w
  unfolding selector_of giving
  by-rule-procedure w row h e q = after-good _ _ (rule-row w row h e) ∙ ap (giving w row) (named_none row q)

  pub by-rule-rest : (w : Word) (row class : ℕ) → row < n → rule_in (held text rows n) w ≡ good row → (get_or rows (8 * row + 7) 0 ≡ 0 → ⊥)
      → class ≡ class_named (held text rows n) (word_of text 257 (get_or rows (8 * row + 6) 0) (get_or rows (8 * row + 7) 0)).text
      → by_rule_of p names rs w ≡ good (record { by = by_rule (decl_at text rows row).value; labels = knowns_in class (held text rows n) })
  unfolding selector_of giving
  by-rule-rest w row class h e q k =
      after-good _ _ (rule-row w row h e) ∙ ap (giving w row) (named_some row q)
      ∙ ap (λ ks. good (record { by = by_rule (decl_at text rows row).value; labels = ks })) (uses-members ag _ ∙ ap (λ (t : ℕ). knowns_in t (held text rows n)) (sym k))

  -- an operation's parameter, by its row
  pub second_none : (row : ℕ) → get_or rows (8 * row + 5) 0 ≡ 0 → members_of (held text rows n) (decl_at text rows row).second ≡ none
  unfolding members_of decl_at
  second_none row e = ap (members_of (held text rows n)) (option-none text (second_kind (get_or rows (8 * row) 0)) (get_or rows (8 * row + 4) 0) (get_or rows (8 * row + 5) 0) e)

  pub second-some : (row class : ℕ) → (get_or rows (8 * row + 5) 0 ≡ 0 → ⊥)
      → class ≡ class_named (held text rows n) (word_of text 257 (get_or rows (8 * row + 4) 0) (get_or rows (8 * row + 5) 0)).text
      → members_of (held text rows n) (decl_at text rows row).second ≡ some (knowns_in class (held text rows n))
  unfolding members_of decl_at
  second-some row class e k =
      ap (members_of (held text rows n)) (option-some text (second_kind (get_or rows (8 * row) 0)) (get_or rows (8 * row + 4) 0) (get_or rows (8 * row + 5) 0) e)
      ∙ ap (λ (t : ℕ). some (knowns_in t (held text rows n))) (sym k)
