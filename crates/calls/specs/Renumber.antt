-- A program's calls under other numbers: what is left of a rule when the numbers of the rules that it calls are not yet known.
use Rattle.std.specs.Prelude.{List, [], ◌∷◌, ℕ}
use Rattle.base.specs.Tree.{plain, cycle, choice, done, ◌▸◌, nil, alternative, absent, otherwise}
use Rattle.program.specs.Program.{Plain, match, any, emit, error, exit, call, back, give, update, update_with, Selector, by_token, by_rule, by_operation, by_operation_with, Act, Acts, Alts, Other, Rule}

module _ (to : ℕ → ℕ) where
  unfoldable pub renumber_plain : Plain → Plain
  renumber_plain (match t) = match t
  renumber_plain any = any
  renumber_plain (emit t) = emit t
  renumber_plain (error t) = error t
  renumber_plain exit = exit
  renumber_plain (call r) = call (to r)
  renumber_plain back = back
  renumber_plain (give v) = give v
  renumber_plain (update op) = update op
  renumber_plain (update_with op v) = update_with op v

  unfoldable pub renumber_selector : Selector → Selector
  renumber_selector by_token = by_token
  renumber_selector (by_rule r) = by_rule (to r)
  renumber_selector (by_operation op) = by_operation op
  renumber_selector (by_operation_with op v) = by_operation_with op v

  unfoldable mutual
    pub renumber : Act → Act
    renumber (plain p) = plain (renumber_plain p)
    renumber (cycle b) = cycle (renumbers b)
    renumber (choice s q o) = choice (renumber_selector s) (renumber_alts q) (renumber_other o)

    pub renumbers : Acts → Acts
    renumbers done = done
    renumbers (a ▸ q) = renumber a ▸ renumbers q

    pub renumber_alts : Alts → Alts
    renumber_alts nil = nil
    renumber_alts (alternative ls b q) = alternative ls (renumbers b) (renumber_alts q)

    pub renumber_other : Other → Other
    renumber_other absent = absent
    renumber_other (otherwise b) = otherwise (renumbers b)

  unfoldable pub renumber_rule : Rule → Rule
  renumber_rule r = record { valued = r.valued; body = renumbers r.body }

  unfoldable pub renumber_rules : List Rule → List Rule
  renumber_rules [] = []
  renumber_rules (r ∷ rs) = renumber_rule r ∷ renumber_rules rs

-- all of this file computes where this is unfolded
unfoldable pub opened : Unit {0}
unfolding renumber_plain renumber_selector renumber renumber_rule renumber_rules
opened = tt
