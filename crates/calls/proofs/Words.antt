-- Emission after renumbering is emission with the other locations: "calls left open".
use mathlib.Core.List.{List, [], ◌∷◌}
use mathlib.Core.Path.{◌≡◌, refl, ap}
use Prim.Native.Nat.{ℕ, ◌+◌, ◌*◌}
use lib.ListN.{length}
use Rattle.base.specs.Tree.{plain, cycle, choice, done, ◌▸◌, nil, alternative, absent, otherwise}
use Rattle.program.specs.Past.{plain_past, is_exit, exits, exits_all, exits_some, exits_other, past, past_all, past_some, past_other}
use Rattle.program.specs.Program.{Plain, match, any, emit, error, exit, call, back, give, update, update_with, Selector, by_token, by_rule, by_operation, by_operation_with, Act, Acts, Alts, Other, Rule}
use Rattle.program.specs.Table.{size_plain, size_selector, size_absent, count_labels, size, sizes, size_alts, size_other, table_words, first_label, absent_words, choice_number, selector_words, plain_words, code, codes, code_alts, code_other, size_rule, size_rules, rules_words}
use Rattle.calls.specs.Renumber.{renumber_plain, renumber_selector, renumber, renumbers, renumber_alts, renumber_other, renumber_rule, renumber_rules}

module _ (to : ℕ → ℕ) where
  -- Sizes, labels and what goes past stay

  pub size-plain : (p : Plain) → size_plain (renumber_plain to p) ≡ size_plain p
  unfolding size_plain renumber_plain
  size-plain (match t) = refl
  size-plain any = refl
  size-plain (emit t) = refl
  size-plain (error t) = refl
  size-plain exit = refl
  size-plain (call r) = refl
  size-plain back = refl
  size-plain (give v) = refl
  size-plain (update op) = refl
  size-plain (update_with op v) = refl

  size-selector : (s : Selector) → size_selector (renumber_selector to s) ≡ size_selector s
  unfolding size_selector renumber_selector
  size-selector by_token = refl
  size-selector (by_rule r) = refl
  size-selector (by_operation op) = refl
  size-selector (by_operation_with op v) = refl

  size-absent : (s : Selector) → size_absent (renumber_selector to s) ≡ size_absent s
  unfolding size_absent renumber_selector
  size-absent by_token = refl
  size-absent (by_rule r) = refl
  size-absent (by_operation op) = refl
  size-absent (by_operation_with op v) = refl

  absent-words : (s : Selector) (v d : ℕ) → absent_words (renumber_selector to s) v d ≡ absent_words s v d
  unfolding absent_words renumber_selector
  absent-words by_token v d = refl
  absent-words (by_rule r) v d = refl
  absent-words (by_operation op) v d = refl
  absent-words (by_operation_with op u) v d = refl

  choice-number : (s : Selector) → choice_number (renumber_selector to s) ≡ choice_number s
  unfolding choice_number renumber_selector
  choice-number by_token = refl
  choice-number (by_rule r) = refl
  choice-number (by_operation op) = refl
  choice-number (by_operation_with op u) = refl

  pub count-labels : (q : Alts) → count_labels (renumber_alts to q) ≡ count_labels q
  unfolding count_labels renumber_alts
  count-labels nil = refl
  count-labels (alternative ls b q) = ap (λ (n : ℕ). length ls + n) (count-labels q)

  first-label : (q : Alts) → first_label (renumber_alts to q) ≡ first_label q
  unfolding first_label renumber_alts
  first-label nil = refl
  first-label (alternative ls b q) = refl

  mutual
    unfolding size renumber

    size_same : (a : Act) → size (renumber to a) ≡ size a
    size_same (plain p) = size-plain p
    size_same (cycle b) = ap (λ (n : ℕ). n + 2) (sizes-same b)
    size_same (choice s q o) =
        rw (size-selector s, size-alts q, count-labels q, size-absent s, size-other o (size_absent s))

    pub sizes-same : (q : Acts) → sizes (renumbers to q) ≡ sizes q
    sizes-same done = refl
    sizes-same (a ▸ q) = rw (size_same a, sizes-same q)

    size-alts : (q : Alts) → size_alts (renumber_alts to q) ≡ size_alts q
    size-alts nil = refl
    size-alts (alternative ls b q) = rw (sizes-same b, size-alts q)

    size-other : (o : Other) (n : ℕ) → size_other (renumber_other to o) n ≡ size_other o n
    size-other absent n = refl
    size-other (otherwise b) n = sizes-same b

  table-words : (p : ℕ) (q : Alts) → table_words p (renumber_alts to q) ≡ table_words p q
  unfolding table_words renumber_alts
  table-words p nil = refl
  table-words p (alternative ls b q) = rw (sizes-same b, size-alts q, table-words (p + 2 * length ls) q)

  -- Words

  module _ (start : ℕ → ℕ) where
    abbrev via : ℕ → ℕ
    via r = start (to r)

    plain-words : (p : Plain) (out : ℕ) → plain_words start (renumber_plain to p) out ≡ plain_words via p out
    unfolding plain_words renumber_plain
    plain-words (match t) out = refl
    plain-words any out = refl
    plain-words (emit t) out = refl
    plain-words (error t) out = refl
    plain-words exit out = refl
    plain-words (call r) out = refl
    plain-words back out = refl
    plain-words (give v) out = refl
    plain-words (update op) out = refl
    plain-words (update_with op v) out = refl

    selector-words : (s : Selector) → selector_words start (renumber_selector to s) ≡ selector_words via s
    unfolding selector_words renumber_selector
    selector-words by_token = refl
    selector-words (by_rule r) = refl
    selector-words (by_operation op) = refl
    selector-words (by_operation_with op u) = refl

    mutual
      unfolding code renumber

      code_same : (a : Act) (out : ℕ) → code start (renumber to a) out ≡ code via a out
      code_same (plain p) out = plain-words p out
      code_same (cycle b) out = rw (codes_same b 2, sizes-same b)
      code_same (choice s q o) out =
          rw (
            count-labels q,
            size-absent s,
            size-alts q,
            first-label q,
            choice-number s,
            table-words 1 q,
            selector-words s,
            size-other o (size_absent s),
            absent-words s (first_label q) (size_alts q + (1 + 2 * count_labels q + 3)),
            alts-same q out (1 + 2 * count_labels q + size_other o (size_absent s)),
            other-same o out (absent_words s (first_label q) (size_alts q + (1 + 2 * count_labels q + 3))),
          )

      pub codes_same : (q : Acts) (out : ℕ) → codes start (renumbers to q) out ≡ codes via q out
      codes_same done out = refl
      codes_same (a ▸ q) out = rw (sizes-same q, code_same a (sizes q + out), codes_same q out)

      alts-same : (q : Alts) (out rest : ℕ) → code_alts start (renumber_alts to q) out rest ≡ code_alts via q out rest
      alts-same nil out rest = refl
      alts-same (alternative ls b q) out rest =
          rw (size-alts q, codes_same b (2 + size_alts q + (rest + out)), alts-same q out rest)

      other-same : (o : Other) (out : ℕ) (default : List ℕ) → code_other start (renumber_other to o) out default ≡ code_other via o out default
      other-same absent out default = refl
      other-same (otherwise b) out default = codes_same b out

    -- the words of a part's rules are those of its open form, the calls' locations put in
    pub rules-same : (rs : List Rule) → rules_words start (renumber_rules to rs) ≡ rules_words via rs
    unfolding rules_words renumber_rules renumber_rule
    rules-same [] = refl
    rules-same (r ∷ rs) = rw (codes_same r.body 0, rules-same rs)

  pub size-rule : (r : Rule) → size_rule (renumber_rule to r) ≡ size_rule r
  unfolding size_rule renumber_rule
  size-rule r = rw (sizes-same r.body)

  pub size-rules : (rs : List Rule) → size_rules (renumber_rules to rs) ≡ size_rules rs
  unfolding size_rules renumber_rules
  size-rules [] = refl
  size-rules (r ∷ rs) = rw (size-rule r, size-rules rs)

  -- What goes past

  plain-past : (p : Plain) → plain_past (renumber_plain to p) ≡ plain_past p
  unfolding plain_past renumber_plain
  plain-past (match t) = refl
  plain-past any = refl
  plain-past (emit t) = refl
  plain-past (error t) = refl
  plain-past exit = refl
  plain-past (call r) = refl
  plain-past back = refl
  plain-past (give v) = refl
  plain-past (update op) = refl
  plain-past (update_with op v) = refl

  plain-exit : (p : Plain) → is_exit (renumber_plain to p) ≡ is_exit p
  unfolding is_exit renumber_plain
  plain-exit (match t) = refl
  plain-exit any = refl
  plain-exit (emit t) = refl
  plain-exit (error t) = refl
  plain-exit exit = refl
  plain-exit (call r) = refl
  plain-exit back = refl
  plain-exit (give v) = refl
  plain-exit (update op) = refl
  plain-exit (update_with op v) = refl

  mutual
    unfolding exits renumber

    exits-same : (a : Act) → exits (renumber to a) ≡ exits a
    exits-same (plain p) = plain-exit p
    exits-same (cycle b) = refl
    exits-same (choice s q o) = rw (exits-some q, exits-other o)

    exits-all : (q : Acts) → exits_all (renumbers to q) ≡ exits_all q
    exits-all done = refl
    exits-all (a ▸ q) = rw (exits-same a, exits-all q)

    exits-some : (q : Alts) → exits_some (renumber_alts to q) ≡ exits_some q
    exits-some nil = refl
    exits-some (alternative ls b q) = rw (exits-all b, exits-some q)

    exits-other : (o : Other) → exits_other (renumber_other to o) ≡ exits_other o
    exits-other absent = refl
    exits-other (otherwise b) = exits-all b

  mutual
    unfolding past renumber

    past_same : (a : Act) → past (renumber to a) ≡ past a
    past_same (plain p) = plain-past p
    past_same (cycle b) = exits-all b
    past_same (choice s q o) = rw (past-some q, past-other o)

    pub past_all_lem : (q : Acts) → past_all (renumbers to q) ≡ past_all q
    past_all_lem done = refl
    past_all_lem (a ▸ q) = rw (past_same a, past_all_lem q)

    past-some : (q : Alts) → past_some (renumber_alts to q) ≡ past_some q
    past-some nil = refl
    past-some (alternative ls b q) = rw (past_all_lem b, past-some q)

    past-other : (o : Other) → past_other (renumber_other to o) ≡ past_other o
    past-other absent = refl
    past-other (otherwise b) = past_all_lem b
