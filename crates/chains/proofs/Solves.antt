-- The marks of a program, solved, are its table. Assumes nothing.
use Prim.Native.Nat.{ℕ, suc, ◌+◌, ◌*◌}
use mathlib.Core.Path.{◌≡◌, refl, ap, ◌∙◌}
use mathlib.Core.Bool.{Bool, cond}
use mathlib.Core.List.{List, [], ◌∷◌, ◌++◌, append_assoc}
use native.Mathlib.Omega.{arith}
use lib.ListN.{length, get_or, length-append}
use borrow.Author.Tests.{ne_eqb}
use Rattle.base.specs.Tree.{plain, cycle, choice, done, ◌▸◌, nil, alternative, absent, otherwise}
use Rattle.program.specs.Program.{Plain, match, any, emit, error, exit, call, back, give, update, update_with, Selector, by_token, by_rule, by_operation, by_operation_with, Act, Acts, Alts, Other, Rule}
use Rattle.program.specs.Table.{size_plain, size_selector, size_absent, count_labels, size, sizes, size_alts, size_other, table_words, first_label, absent_words, choice_number, selector_words, plain_words, code, codes, code_alts, code_other, end_words, size_rule, size_rules, rules_words}
use Rattle.program.proofs.Lengths.{length-table_words, length-absent}
use Rattle.chains.specs.Marks.{outside, end, head, table, rule, Mark, known, waiting, waits, number, knowns, filled, close, shut, plain_marks, selector_marks, marks, marks_all, marks_alts, marks_other, marks_rule, marks_rules, solved}
use Rattle.chains.specs.Chain.{At, at_here, at_there}
use Rattle.chains.proofs.Lists.{length-filled, length-knowns}

-- as many words as the sizes say
pub length-plain_marks : (p : Plain) → length (plain_marks p) ≡ size_plain p
unfolding plain_marks size_plain
length-plain_marks (match t) = refl
length-plain_marks any = refl
length-plain_marks (emit t) = refl
length-plain_marks (error t) = refl
length-plain_marks exit = refl
length-plain_marks (call r) = refl
length-plain_marks back = refl
length-plain_marks (give v) = refl
length-plain_marks (update op) = refl
length-plain_marks (update_with op v) = refl

pub length-selector_marks : (s : Selector) → length (selector_marks s) ≡ size_selector s
unfolding selector_marks size_selector
length-selector_marks by_token = refl
length-selector_marks (by_rule r) = refl
length-selector_marks (by_operation op) = refl
length-selector_marks (by_operation_with op v) = refl

mutual
  unfolding marks size

  pub length-marks : (a : Act) → length (marks a) ≡ size a
  length-marks (plain p) = length-plain_marks p
  length-marks (cycle b) = length-filled outside (λ k. k + 1) (marks_all b ++ (known 2 ∷ known (sizes b + 1) ∷ [])) ∙ (length-append (marks_all b) (known 2 ∷ known (sizes b + 1) ∷ []) ∙ ap (λ (k : ℕ). k + 2) (length-marks_all b))
  length-marks (choice s q o) =
      let ws = absent_words s (first_label q) (size_alts q + (1 + 2 * count_labels q + 3)) in
      let O = marks_other o ws in
      let T = knowns (table_words 1 q) in
      let A = shut (marks_alts q) in
      let C = A ++ (known (count_labels q) ∷ (T ++ O)) in
      omega (
        arith,
        length-append (selector_marks s) (known (choice_number s) ∷ known (size_alts q + 1) ∷ close end C),
        length-selector_marks s,
        length-filled end (λ k. k + 1) C,
        length-append A (known (count_labels q) ∷ (T ++ O)),
        length-filled head (λ k. 1) (marks_alts q),
        length-marks_alts q,
        length-append T O,
        length-knowns (table_words 1 q),
        length-table_words 1 q,
        length-marks_other o (size_absent s) ws (length-absent s (first_label q) (size_alts q + (1 + 2 * count_labels q + 3))),
      )

  pub length-marks_all : (q : Acts) → length (marks_all q) ≡ sizes q
  length-marks_all done = refl
  length-marks_all (a ▸ q) = omega (arith, length-append (marks a) (marks_all q), length-marks a, length-marks_all q)

  pub length-marks_alts : (q : Alts) → length (marks_alts q) ≡ size_alts q
  length-marks_alts nil = refl
  length-marks_alts (alternative ls b q) = omega (arith, length-append (marks_all b) (waiting head ∷ waiting end ∷ marks_alts q), length-marks_all b, length-marks_alts q)

  pub length-marks_other : (o : Other) (n : ℕ) (ws : List ℕ) → length ws ≡ n → length (marks_other o ws) ≡ size_other o n
  length-marks_other absent n ws e = length-knowns ws ∙ e
  length-marks_other (otherwise b) n ws e = length-marks_all b

-- a part behind another
module _ (start : ℕ → ℕ) where
  pub solved-append : (out fin : ℕ) (xs ys : List Mark) → solved start out fin (xs ++ ys) ≡ solved start (length ys + out) (length ys + fin) xs ++ solved start out fin ys
  unfolding solved
  solved-append out fin [] ys = refl
  solved-append out fin (known w ∷ xs) ys = ap (λ (s : List ℕ). w ∷ s) (solved-append out fin xs ys)
  solved-append out fin (waiting outside ∷ xs) ys =
      let e : length (xs ++ ys) + (out + 1) ≡ length xs + (length ys + out + 1) = omega (arith, length-append xs ys) in
      ap (λ (s : List ℕ). (length (xs ++ ys) + (out + 1)) ∷ s) (solved-append out fin xs ys) ∙ ap (λ (k : ℕ). k ∷ (solved start (length ys + out) (length ys + fin) xs ++ solved start out fin ys)) e
  solved-append out fin (waiting end ∷ xs) ys =
      let e : length (xs ++ ys) + (fin + 1) ≡ length xs + (length ys + fin + 1) = omega (arith, length-append xs ys) in
      ap (λ (s : List ℕ). (length (xs ++ ys) + (fin + 1)) ∷ s) (solved-append out fin xs ys) ∙ ap (λ (k : ℕ). k ∷ (solved start (length ys + out) (length ys + fin) xs ++ solved start out fin ys)) e
  solved-append out fin (waiting head ∷ xs) ys = ap (λ (s : List ℕ). 1 ∷ s) (solved-append out fin xs ys)
  solved-append out fin (waiting table ∷ xs) ys = ap (λ (s : List ℕ). 0 ∷ s) (solved-append out fin xs ys)
  solved-append out fin (waiting (rule r) ∷ xs) ys = ap (λ (s : List ℕ). start r ∷ s) (solved-append out fin xs ys)

  pub solved-knowns : (out fin : ℕ) (ws : List ℕ) → solved start out fin (knowns ws) ≡ ws
  unfolding solved knowns
  solved-knowns out fin [] = refl
  solved-knowns out fin (w ∷ ws) = ap (λ (s : List ℕ). w ∷ s) (solved-knowns out fin ws)

  -- a target that is known
  solved-exits : (out fin : ℕ) (ms : List Mark) → solved start out fin (close outside ms) ≡ solved start 0 fin ms
  unfolding solved filled waits number
  solved-exits out fin [] = refl
  solved-exits out fin (known w ∷ ms) = ap (λ (s : List ℕ). w ∷ s) (solved-exits out fin ms)
  solved-exits out fin (waiting outside ∷ ms) = ap (λ (s : List ℕ). (length ms + 1) ∷ s) (solved-exits out fin ms)
  solved-exits out fin (waiting end ∷ ms) = ap (λ (s : List ℕ). (length (close outside ms) + (fin + 1)) ∷ s) (solved-exits out fin ms) ∙ ap (λ (k : ℕ). (k + (fin + 1)) ∷ solved start 0 fin ms) (length-filled outside (λ k. k + 1) ms)
  solved-exits out fin (waiting head ∷ ms) = ap (λ (s : List ℕ). 1 ∷ s) (solved-exits out fin ms)
  solved-exits out fin (waiting table ∷ ms) = ap (λ (s : List ℕ). 0 ∷ s) (solved-exits out fin ms)
  solved-exits out fin (waiting (rule r) ∷ ms) = ap (λ (b : Bool). solved start out fin (cond b (known (length ms + 1)) (waiting (rule r)) ∷ close outside ms)) (ne_eqb 0 (r + 4) (λ e. omega arith)) ∙ ap (λ (s : List ℕ). start r ∷ s) (solved-exits out fin ms)

  solved-ends : (out fin : ℕ) (ms : List Mark) → solved start out fin (close end ms) ≡ solved start out 0 ms
  unfolding solved filled waits number
  solved-ends out fin [] = refl
  solved-ends out fin (known w ∷ ms) = ap (λ (s : List ℕ). w ∷ s) (solved-ends out fin ms)
  solved-ends out fin (waiting outside ∷ ms) = ap (λ (s : List ℕ). (length (close end ms) + (out + 1)) ∷ s) (solved-ends out fin ms) ∙ ap (λ (k : ℕ). (k + (out + 1)) ∷ solved start out 0 ms) (length-filled end (λ k. k + 1) ms)
  solved-ends out fin (waiting end ∷ ms) = ap (λ (s : List ℕ). (length ms + 1) ∷ s) (solved-ends out fin ms)
  solved-ends out fin (waiting head ∷ ms) = ap (λ (s : List ℕ). 1 ∷ s) (solved-ends out fin ms)
  solved-ends out fin (waiting table ∷ ms) = ap (λ (s : List ℕ). 0 ∷ s) (solved-ends out fin ms)
  solved-ends out fin (waiting (rule r) ∷ ms) = ap (λ (b : Bool). solved start out fin (cond b (known (length ms + 1)) (waiting (rule r)) ∷ close end ms)) (ne_eqb 1 (r + 4) (λ e. omega arith)) ∙ ap (λ (s : List ℕ). start r ∷ s) (solved-ends out fin ms)

  solved-heads : (out fin : ℕ) (ms : List Mark) → solved start out fin (shut ms) ≡ solved start out fin ms
  unfolding solved filled waits number
  solved-heads out fin [] = refl
  solved-heads out fin (known w ∷ ms) = ap (λ (s : List ℕ). w ∷ s) (solved-heads out fin ms)
  solved-heads out fin (waiting outside ∷ ms) = ap (λ (s : List ℕ). (length (shut ms) + (out + 1)) ∷ s) (solved-heads out fin ms) ∙ ap (λ (k : ℕ). (k + (out + 1)) ∷ solved start out fin ms) (length-filled head (λ k. 1) ms)
  solved-heads out fin (waiting end ∷ ms) = ap (λ (s : List ℕ). (length (shut ms) + (fin + 1)) ∷ s) (solved-heads out fin ms) ∙ ap (λ (k : ℕ). (k + (fin + 1)) ∷ solved start out fin ms) (length-filled head (λ k. 1) ms)
  solved-heads out fin (waiting head ∷ ms) = ap (λ (s : List ℕ). 1 ∷ s) (solved-heads out fin ms)
  solved-heads out fin (waiting table ∷ ms) = ap (λ (s : List ℕ). 0 ∷ s) (solved-heads out fin ms)
  solved-heads out fin (waiting (rule r) ∷ ms) = ap (λ (b : Bool). solved start out fin (cond b (known 1) (waiting (rule r)) ∷ shut ms)) (ne_eqb 2 (r + 4) (λ e. omega arith)) ∙ ap (λ (s : List ℕ). start r ∷ s) (solved-heads out fin ms)

  solved-plain : (p : Plain) (out fin : ℕ) → solved start out fin (plain_marks p) ≡ plain_words start p out
  unfolding solved plain_marks plain_words
  solved-plain (match t) out fin = refl
  solved-plain any out fin = refl
  solved-plain (emit t) out fin = refl
  solved-plain (error t) out fin = refl
  solved-plain exit out fin = let e : 0 + (out + 1) ≡ out + 1 = omega arith in ap (λ (k : ℕ). 1 ∷ k ∷ []) e
  solved-plain (call r) out fin = refl
  solved-plain back out fin = refl
  solved-plain (give v) out fin = refl
  solved-plain (update op) out fin = refl
  solved-plain (update_with op v) out fin = refl

  solved-selector : (s : Selector) (out fin : ℕ) → solved start out fin (selector_marks s) ≡ selector_words start s
  unfolding solved selector_marks selector_words
  solved-selector by_token out fin = refl
  solved-selector (by_rule r) out fin = refl
  solved-selector (by_operation op) out fin = refl
  solved-selector (by_operation_with op v) out fin = refl

  mutual
    unfolding marks code solved

    pub solved-marks : (a : Act) (out fin : ℕ) → solved start out fin (marks a) ≡ code start a out
    solved-marks (plain p) out fin = solved-plain p out fin
    solved-marks (cycle b) out fin =
        let ys = known 2 ∷ known (sizes b + 1) ∷ [] in
        solved-exits out fin (marks_all b ++ ys) ∙ (solved-append 0 fin (marks_all b) ys ∙ ap (λ (s : List ℕ). s ++ (2 ∷ (sizes b + 1) ∷ [])) (solved-all b 2 (2 + fin)))
    solved-marks (choice s q o) out fin =
        let ws = absent_words s (first_label q) (size_alts q + (1 + 2 * count_labels q + 3)) in
        let O = marks_other o ws in
        let T = knowns (table_words 1 q) in
        let Y = known (count_labels q) ∷ (T ++ O) in
        let rest = 1 + 2 * count_labels q + size_other o (size_absent s) in
        let C = close end (shut (marks_alts q) ++ Y) in
        let L : length Y ≡ rest = omega (arith, length-append T O, length-knowns (table_words 1 q), length-table_words 1 q, length-marks_other o (size_absent s) ws (length-absent s (first_label q) (size_alts q + (1 + 2 * count_labels q + 3)))) in
        let z : rest + 0 ≡ rest = omega arith in
        let A : solved start (length Y + out) (length Y + 0) (shut (marks_alts q)) ≡ code_alts start q out rest = solved-heads (length Y + out) (length Y + 0) (marks_alts q) ∙ (ap (λ (k : ℕ). solved start (k + out) (k + 0) (marks_alts q)) L ∙ (ap (λ (k : ℕ). solved start (rest + out) k (marks_alts q)) z ∙ solved-alts q out rest)) in
        let Z : solved start out 0 (T ++ O) ≡ table_words 1 q ++ code_other start o out ws = solved-append out 0 T O ∙ (ap (λ (s : List ℕ). s ++ solved start out 0 O) (solved-knowns (length O + out) (length O + 0) (table_words 1 q)) ∙ ap (λ (s : List ℕ). table_words 1 q ++ s) (solved-other o out 0 ws)) in
        let B : solved start out fin C ≡ code_alts start q out rest ++ (count_labels q ∷ (table_words 1 q ++ code_other start o out ws)) =
        solved-ends out fin (shut (marks_alts q) ++ Y) ∙ (solved-append out 0 (shut (marks_alts q)) Y ∙ (ap (λ (t : List ℕ). t ++ (count_labels q ∷ solved start out 0 (T ++ O))) A ∙ ap (λ (t : List ℕ). code_alts start q out rest ++ (count_labels q ∷ t)) Z)) in
        let X = known (choice_number s) ∷ known (size_alts q + 1) ∷ C in
        solved-append out fin (selector_marks s) X ∙ (ap (λ (t : List ℕ). t ++ solved start out fin X) (solved-selector s (length X + out) (length X + fin)) ∙ ap (λ (t : List ℕ). selector_words start s ++ (choice_number s ∷ (size_alts q + 1) ∷ t)) B)

    pub solved-all : (q : Acts) (out fin : ℕ) → solved start out fin (marks_all q) ≡ codes start q out
    solved-all done out fin = refl
    solved-all (a ▸ q) out fin =
        solved-append out fin (marks a) (marks_all q) ∙ (ap (λ (s : List ℕ). s ++ solved start out fin (marks_all q)) (solved-marks a (length (marks_all q) + out) (length (marks_all q) + fin) ∙ ap (λ (k : ℕ). code start a (k + out)) (length-marks_all q)) ∙ ap (λ (s : List ℕ). code start a (sizes q + out) ++ s) (solved-all q out fin))

    pub solved-alts : (q : Alts) (out rest : ℕ) → solved start (rest + out) rest (marks_alts q) ≡ code_alts start q out rest
    solved-alts nil out rest = refl
    solved-alts (alternative ls b q) out rest =
        let M = marks_alts q in
        let Y = waiting head ∷ waiting end ∷ M in
        let l = length-marks_alts q in
        let e1 : length Y + (rest + out) ≡ 2 + size_alts q + (rest + out) = omega arith in
        let e2 : length M + (rest + 1) ≡ 1 + size_alts q + rest = omega arith in
        solved-append (rest + out) rest (marks_all b) Y ∙ (ap (λ (s : List ℕ). s ++ solved start (rest + out) rest Y) (solved-all b (length Y + (rest + out)) (length Y + rest) ∙ ap (λ (k : ℕ). codes start b k) e1)
        ∙ (ap (λ (s : List ℕ). codes start b (2 + size_alts q + (rest + out)) ++ (1 ∷ (length M + (rest + 1)) ∷ s)) (solved-alts q out rest) ∙ ap (λ (k : ℕ). codes start b (2 + size_alts q + (rest + out)) ++ (1 ∷ k ∷ code_alts start q out rest)) e2))

    pub solved-other : (o : Other) (out fin : ℕ) (ws : List ℕ) → solved start out fin (marks_other o ws) ≡ code_other start o out ws
    solved-other absent out fin ws = solved-knowns out fin ws
    solved-other (otherwise b) out fin ws = solved-all b out fin

  pub solved-rules : (prog : List Rule) → solved start 0 0 (marks_rules prog) ≡ rules_words start prog
  unfolding marks_rules marks_rule rules_words solved
  solved-rules [] = refl
  solved-rules (r ∷ rs) =
      let E = knowns (end_words r.valued) in
      let M = marks_rules rs in
      let k = length M + 0 in
      solved-append 0 0 (close outside (marks_all r.body) ++ E) M
      ∙ (ap (λ (s : List ℕ). s ++ solved start 0 0 M) (solved-append k k (close outside (marks_all r.body)) E ∙ (ap (λ (s : List ℕ). s ++ solved start k k E) (solved-exits (length E + k) (length E + k) (marks_all r.body) ∙ solved-all r.body 0 (length E + k)) ∙ ap (λ (s : List ℕ). codes start r.body 0 ++ s) (solved-knowns k k (end_words r.valued))))
      ∙ (ap (λ (s : List ℕ). (codes start r.body 0 ++ end_words r.valued) ++ s) (solved-rules rs) ∙ append_assoc (codes start r.body 0) (end_words r.valued) (rules_words start rs)))

pub length-marks_rule : (r : Rule) → length (marks_rule r) ≡ size_rule r
unfolding marks_rule size_rule
length-marks_rule r =
    omega (arith, length-append (close outside (marks_all r.body)) (knowns (end_words r.valued)), length-filled outside (λ k. k + 1) (marks_all r.body), length-marks_all r.body, length-knowns (end_words r.valued))

pub length-marks_rules : (prog : List Rule) → length (marks_rules prog) ≡ size_rules prog
unfolding marks_rules size_rules
length-marks_rules [] = refl
length-marks_rules (r ∷ rs) = omega (arith, length-append (marks_rule r) (marks_rules rs), length-marks_rule r, length-marks_rules rs)

-- word by word
module _ (start : ℕ → ℕ) (out fin : ℕ) where
  pub length-solved : (ms : List Mark) → length (solved start out fin ms) ≡ length ms
  unfolding solved
  length-solved [] = refl
  length-solved (known w ∷ ms) = omega (arith, length-solved ms)
  length-solved (waiting outside ∷ ms) = omega (arith, length-solved ms)
  length-solved (waiting end ∷ ms) = omega (arith, length-solved ms)
  length-solved (waiting head ∷ ms) = omega (arith, length-solved ms)
  length-solved (waiting table ∷ ms) = omega (arith, length-solved ms)
  length-solved (waiting (rule r) ∷ ms) = omega (arith, length-solved ms)

  record Solved (m : Mark) (ms : List Mark) : Type 0 where
    first : ℕ
    eq : solved start out fin (m ∷ ms) ≡ first ∷ solved start out fin ms

  solved-first : (m : Mark) (ms : List Mark) → Solved m ms
  unfolding solved
  solved-first (known w) ms = record { first = w; eq = refl }
  solved-first (waiting outside) ms = record { first = length ms + (out + 1); eq = refl }
  solved-first (waiting end) ms = record { first = length ms + (fin + 1); eq = refl }
  solved-first (waiting head) ms = record { first = 1; eq = refl }
  solved-first (waiting table) ms = record { first = 0; eq = refl }
  solved-first (waiting (rule r)) ms = record { first = start r; eq = refl }

  solved-there : (m : Mark) (ms : List Mark) (i j : ℕ) → j ≡ i + 1 → get_or (solved start out fin (m ∷ ms)) j 0 ≡ get_or (solved start out fin ms) i 0
  solved-there m ms i j e = let s = solved-first m ms in let z : j ≡ suc i = omega arith in ap (λ (k : List ℕ). get_or k j 0) s.eq ∙ ap (λ (k : ℕ). get_or (s.first ∷ solved start out fin ms) k 0) z

  pub solved-known : {ms : List Mark} {i w : ℕ} → At ms i (known w) → get_or (solved start out fin ms) i 0 ≡ w
  unfolding solved
  solved-known at_here = refl
  solved-known {ms = m ∷ ms} {i = j} (at_there {i = i} e a) = solved-there m ms i j e ∙ solved-known a

  pub solved-call : {ms : List Mark} {i r : ℕ} → At ms i (waiting (rule r)) → get_or (solved start out fin ms) i 0 ≡ start r
  unfolding solved
  solved-call at_here = refl
  solved-call {ms = m ∷ ms} {i = j} (at_there {i = i} e a) = solved-there m ms i j e ∙ solved-call a
