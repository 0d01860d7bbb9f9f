-- Every word of a table is a word of 16 bits, if the program's own numbers are and the table has 4,096 words or fewer.
use mathlib.Core.Bool.{Bool, true, false}
use mathlib.Core.List.{List, [], ◌∷◌, ◌++◌}
use Prim.Native.Nat.{ℕ, zero, suc, ◌+◌, ◌*◌, ◌≤◌, ◌<◌}
use native.Mathlib.Omega.{arith}
use lib.ListN.{length, get_or}
use Rattle.base.specs.Tree.{plain, cycle, choice, done, ◌▸◌, nil, alternative, absent, otherwise}
use Rattle.program.specs.Program.{Plain, match, any, emit, error, exit, call, back, give, update, update_with, Selector, by_token, by_rule, by_operation, by_operation_with, Act, Acts, Alts, Other, Rule, rule_of}
use Rattle.program.specs.Table.{size_plain, size_absent, count_labels, size, sizes, size_alts, size_other, label_words, table_words, first_of, first_label, absent_words, choice_number, selector_words, plain_words, code, codes, code_alts, code_other, end_words, size_rule, size_rules, rules_words, place, table}
use Rattle.program.proofs.Places.{place-fits}

-- "Words of 16 bits"
abbrev pub Word : ℕ → Type 0
Word w = w < 65536

-- each number of a list is so
pub data All (P : ℕ → Type 0) : List ℕ → Type 0 where
  all_nil : All P []
  all_cons : (w : ℕ) {ws : List ℕ} → P w → All P ws → All P (w ∷ ws)

pub all_append : {P : ℕ → Type 0} {vs ws : List ℕ} → All P vs → All P ws → All P (vs ++ ws)
all_append all_nil h = h
all_append (all_cons v p g) h = all_cons v p (all_append g h)

pub all_get_d : {P : ℕ → Type 0} {ws : List ℕ} (d : ℕ) → P d → All P ws → (i : ℕ) → P (get_or ws i d)
all_get_d d h all_nil i = h
all_get_d d h (all_cons w p g) zero = p
all_get_d d h (all_cons w p g) (suc i) = all_get_d d h g i

-- The numbers that stand in a program are words, and the rules that it calls are among its n

module _ (n : ℕ) where
  unfoldable pub SmallPlain : Plain → Type 0
  SmallPlain (match t) = Word t
  SmallPlain any = Unit {0}
  SmallPlain (emit t) = Word t
  SmallPlain (error t) = Word t
  SmallPlain exit = Unit {0}
  SmallPlain (call r) = r < n
  SmallPlain back = Unit {0}
  SmallPlain (give v) = Word v
  SmallPlain (update op) = Word op
  SmallPlain (update_with op v) = Word op × Word v

  unfoldable pub SmallSelector : Selector → Type 0
  SmallSelector by_token = Unit {0}
  SmallSelector (by_rule r) = r < n
  SmallSelector (by_operation op) = Word op
  SmallSelector (by_operation_with op v) = Word op × Word v

  unfoldable mutual
    pub Small : Act → Type 0
    Small (plain p) = SmallPlain p
    Small (cycle b) = Smalls b
    Small (choice s q o) = SmallSelector s × SmallAlts q × SmallOther o

    pub Smalls : Acts → Type 0
    Smalls done = Unit {0}
    Smalls (a ▸ q) = Small a × Smalls q

    pub SmallAlts : Alts → Type 0
    SmallAlts nil = Unit {0}
    SmallAlts (alternative ls b q) = All Word ls × Smalls b × SmallAlts q

    pub SmallOther : Other → Type 0
    SmallOther absent = Unit {0}
    SmallOther (otherwise b) = Smalls b

unfoldable pub SmallRule : ℕ → Rule → Type 0
SmallRule n r = Smalls n r.body

unfoldable pub SmallProgram : List Rule → Type 0
SmallProgram prog = (r : ℕ) → r < length prog → SmallRule (length prog) (rule_of prog r)

-- The choice table

label-words : (d p : ℕ) (ls : List ℕ) → All Word ls → d + (p + 2 * length ls) ≤ 16384 → All Word (label_words d p ls)
unfolding label_words
label-words d p [] g h = all_nil
label-words d p (v ∷ ls) (all_cons x e g) h = all_cons v e (all_cons (d + (p + 1)) (omega arith) (label-words d (p + 2) ls g (omega arith)))

choice-words : (n p : ℕ) (q : Alts) → SmallAlts n q → size_alts q + (p + 2 * count_labels q) ≤ 16384 → All Word (table_words p q)
unfolding table_words count_labels size_alts SmallAlts
choice-words n p nil g h = all_nil
choice-words n p (alternative ls b q) g h =
    all_append (label-words (sizes b + (2 + size_alts q)) p ls g.0 (omega arith)) (choice-words n (p + 2 * length ls) q g.2 (omega arith))

first-of : (ls : List ℕ) → All Word ls → Word (first_of ls)
unfolding first_of
first-of [] g = omega arith
first-of (v ∷ ls) (all_cons x e g) = e

first_word : (n : ℕ) (q : Alts) → SmallAlts n q → Word (first_label q)
unfolding first_label SmallAlts
first_word n nil g = omega arith
first_word n (alternative ls b q) g = first-of ls g.0

absent-words : (s : Selector) (v d : ℕ) → Word v → Word d → All Word (absent_words s v d)
unfolding absent_words
absent-words by_token v d x y = all_cons 3 (omega arith) (all_cons v x (all_cons 2 (omega arith) (all_cons d y all_nil)))
absent-words (by_rule r) v d x y = all_cons 12 (omega arith) all_nil
absent-words (by_operation op) v d x y = all_cons 12 (omega arith) all_nil
absent-words (by_operation_with op u) v d x y = all_cons 12 (omega arith) all_nil

number_word : (s : Selector) → Word (choice_number s)
unfolding choice_number
number_word by_token = omega arith
number_word (by_rule r) = omega arith
number_word (by_operation op) = omega arith
number_word (by_operation_with op u) = omega arith

end-words : (v : Bool) → All Word (end_words v)
unfolding end_words
end-words true = all_nil
end-words false = all_cons 9 (omega arith) all_nil

-- Actions, if the rules stand at words

module _ (n : ℕ) (start : ℕ → ℕ) (at : (r : ℕ) → r < n → Word (start r)) where
  selector-words : (s : Selector) → SmallSelector n s → All Word (selector_words start s)
  unfolding selector_words SmallSelector
  selector-words by_token g = all_nil
  selector-words (by_rule r) g = all_cons 8 (omega arith) (all_cons (start r) (at r g) all_nil)
  selector-words (by_operation op) g = all_cons op g all_nil
  selector-words (by_operation_with op u) g = all_cons 13 (omega arith) (all_cons u g.1 (all_cons op g.0 all_nil))

  plain-words : (p : Plain) (out : ℕ) → SmallPlain n p → size_plain p + out ≤ 8192 → All Word (plain_words start p out)
  unfolding plain_words size_plain SmallPlain
  plain-words (match t) out g h = all_cons 3 (omega arith) (all_cons t g all_nil)
  plain-words any out g h = all_cons 4 (omega arith) all_nil
  plain-words (emit t) out g h = all_cons 5 (omega arith) (all_cons t g all_nil)
  plain-words (error t) out g h = all_cons 6 (omega arith) (all_cons t g all_nil)
  plain-words exit out g h = all_cons 1 (omega arith) (all_cons (out + 1) (omega arith) all_nil)
  plain-words (call r) out g h = all_cons 8 (omega arith) (all_cons (start r) (at r g) all_nil)
  plain-words back out g h = all_cons 9 (omega arith) all_nil
  plain-words (give v) out g h = all_cons 10 (omega arith) (all_cons v g (all_cons 9 (omega arith) all_nil))
  plain-words (update op) out g h = all_cons op g all_nil
  plain-words (update_with op v) out g h = all_cons 13 (omega arith) (all_cons v g.1 (all_cons op g.0 all_nil))

  -- the words, and those after them that an exit goes over, are 8,192 or fewer
  mutual
    unfolding size code Small

    code-words : (a : Act) (out : ℕ) → Small n a → size a + out ≤ 8192 → All Word (code start a out)
    code-words (plain p) out g h = plain-words p out g h
    code-words (cycle b) out g h = all_append (codes-words b 2 g (omega arith)) (all_cons 2 (omega arith) (all_cons (sizes b + 1) (omega arith) all_nil))
    code-words (choice s q o) out g h =
        let rest = 1 + 2 * count_labels q + size_other o (size_absent s) in
        let d = size_alts q + (1 + 2 * count_labels q + 3) in
        let default = absent-words s (first_label q) d (first_word n q g.1) (omega arith) in
        let others = other-words o out (size_absent s) (absent_words s (first_label q) d) g.2 (omega arith) default in
        let labels = all_append (choice-words n 1 q g.1 (omega arith)) others in
        let alts = all_append (alts-words q out rest g.1 (omega arith)) (all_cons (count_labels q) (omega arith) labels) in
        all_append (selector-words s g.0) (all_cons (choice_number s) (number_word s) (all_cons (size_alts q + 1) (omega arith) alts))

    codes-words : (q : Acts) (out : ℕ) → Smalls n q → sizes q + out ≤ 8192 → All Word (codes start q out)
    codes-words done out g h = all_nil
    codes-words (a ▸ q) out g h = all_append (code-words a (sizes q + out) g.0 (omega arith)) (codes-words q out g.1 (omega arith))

    alts-words : (q : Alts) (out rest : ℕ) → SmallAlts n q → size_alts q + (rest + out) ≤ 8192 → All Word (code_alts start q out rest)
    alts-words nil out rest g h = all_nil
    alts-words (alternative ls b q) out rest g h =
        all_append (codes-words b (2 + size_alts q + (rest + out)) g.1 (omega arith))
        (all_cons 1 (omega arith) (all_cons (1 + size_alts q + rest) (omega arith) (alts-words q out rest g.2 (omega arith))))

    other-words : (o : Other) (out m : ℕ) (default : List ℕ) → SmallOther n o → size_other o m + out ≤ 8192 → All Word default → All Word (code_other start o out default)
    other-words absent out m default g h x = x
    other-words (otherwise b) out m default g h x = codes-words b out g h

  rules-words : (rs : List Rule) → ((r : ℕ) → r < length rs → SmallRule n (rule_of rs r)) → size_rules rs ≤ 8192 → All Word (rules_words start rs)
  unfolding rules_words size_rules size_rule rule_of SmallRule
  rules-words [] g h = all_nil
  rules-words (r ∷ rs) g h =
      all_append (codes-words r.body 0 (g 0 (omega arith)) (omega arith))
      (all_append (end-words r.valued) (rules-words rs (λ i l. g (suc i) (omega arith)) (omega arith)))

-- "Words of 16 bits"
pub table-words : (prog : List Rule) → SmallProgram prog → size_rules prog ≤ 4096 → All (λ w. w < 65536) (table prog)
unfolding table SmallProgram
table-words prog g h = rules-words (length prog) (place 1 prog) (λ r l. omega (arith, place-fits 1 prog r l)) prog g (omega arith)

pub table-word : (prog : List Rule) → SmallProgram prog → size_rules prog ≤ 4096 → (i : ℕ) → get_or (table prog) i 0 < 65536
table-word prog g h = all_get_d 0 (omega arith) (table-words prog g h)
