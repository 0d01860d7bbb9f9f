-- The words made are as many as the sizes say.
use mathlib.Core.Path.{◌≡◌, refl}
use mathlib.Core.List.{List, [], ◌∷◌}
use Prim.Native.Nat.{ℕ, ◌+◌, ◌*◌}
use native.Mathlib.Omega.{arith}
use lib.ListN.{length, length-append}
use Rattle.base.specs.Tree.{plain, cycle, choice, done, ◌▸◌, nil, alternative, absent, otherwise}
use Rattle.program.specs.Program.{Plain, match, any, emit, error, exit, call, back, give, update, update_with, Selector, by_token, by_rule, by_operation, by_operation_with, Act, Acts, Alts, Other, Rule}
use Rattle.program.specs.Table.{size_plain, size_selector, size_absent, count_labels, size, sizes, size_alts, size_other, label_words, table_words, first_label, absent_words, selector_words, plain_words, code, codes, code_alts, code_other, size_rule, size_rules, rules_words, place, table}

-- The choice table

pub length-labels : (d p : ℕ) (ls : List ℕ) → length (label_words d p ls) ≡ 2 * length ls
unfolding label_words
length-labels d p [] = refl
length-labels d p (v ∷ ls) = omega (arith, length-labels d (p + 2) ls)

pub length-table_words : (p : ℕ) (q : Alts) → length (table_words p q) ≡ 2 * count_labels q
unfolding table_words count_labels
length-table_words p nil = refl
length-table_words p (alternative ls b q) =
    simp length-append (omega (arith, length-labels (sizes b + (2 + size_alts q)) p ls, length-table_words (p + 2 * length ls) q))

pub length-absent : (s : Selector) (v d : ℕ) → length (absent_words s v d) ≡ size_absent s
unfolding absent_words size_absent
length-absent by_token v d = refl
length-absent (by_rule r) v d = refl
length-absent (by_operation op) v d = refl
length-absent (by_operation_with op u) v d = refl

-- Actions

module _ (start : ℕ → ℕ) where
  pub length-selector : (s : Selector) → length (selector_words start s) ≡ size_selector s
  unfolding selector_words size_selector
  length-selector by_token = refl
  length-selector (by_rule r) = refl
  length-selector (by_operation op) = refl
  length-selector (by_operation_with op u) = refl

  pub length-plain : (p : Plain) (out : ℕ) → length (plain_words start p out) ≡ size_plain p
  unfolding plain_words size_plain
  length-plain (match t) out = refl
  length-plain any out = refl
  length-plain (emit t) out = refl
  length-plain (error t) out = refl
  length-plain exit out = refl
  length-plain (call r) out = refl
  length-plain back out = refl
  length-plain (give v) out = refl
  length-plain (update op) out = refl
  length-plain (update_with op v) out = refl

  mutual
    unfolding size code

    pub length-code : (a : Act) (out : ℕ) → length (code start a out) ≡ size a
    length-code (plain p) out = length-plain p out
    length-code (cycle b) out = simp length-append (omega (arith, length-codes b 2))
    length-code (choice s q o) out =
        let rest = 1 + 2 * count_labels q + size_other o (size_absent s) in
        let d = size_alts q + (1 + 2 * count_labels q + 3) in
        simp length-append (omega (
          arith,
          length-selector s,
          length-alts q out rest,
          length-table_words 1 q,
          length-other o out (size_absent s) (absent_words s (first_label q) d) (length-absent s (first_label q) d),
        ))

    pub length-codes : (q : Acts) (out : ℕ) → length (codes start q out) ≡ sizes q
    length-codes done out = refl
    length-codes (a ▸ q) out = simp length-append (omega (arith, length-code a (sizes q + out), length-codes q out))

    pub length-alts : (q : Alts) (out rest : ℕ) → length (code_alts start q out rest) ≡ size_alts q
    length-alts nil out rest = refl
    length-alts (alternative ls b q) out rest =
        simp length-append (omega (arith, length-codes b (2 + size_alts q + (rest + out)), length-alts q out rest))

    pub length-other : (o : Other) (out n : ℕ) (default : List ℕ) → length default ≡ n → length (code_other start o out default) ≡ size_other o n
    length-other absent out n default e = e
    length-other (otherwise b) out n default e = length-codes b out

-- Rules

pub length-rules : (start : ℕ → ℕ) (rs : List Rule) → length (rules_words start rs) ≡ size_rules rs
unfolding rules_words size_rules size_rule
length-rules start [] = refl
length-rules start (r ∷ rs) = simp length-append (omega (arith, length-codes start r.body 0, length-rules start rs))

-- the table's length is the sum of the sizes
pub length-table : (prog : List Rule) → length (table prog) ≡ size_rules prog
unfolding table
length-table prog = length-rules (place 1 prog) prog
