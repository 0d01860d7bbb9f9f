-- `scanned-words`: two rules have the same words exactly if going through them in step, calls by the names of the rules that they go to, finds no difference.
use mathlib.Core.Bool.{Bool, true, false}
use mathlib.Core.List.{List, [], ◌∷◌, ◌++◌}
use mathlib.Core.Option.{Option, none, some}
use mathlib.Core.Path.{◌≡◌, refl, sym, ap, ◌∙◌}
use Prim.Native.Nat.{ℕ, suc, ◌+◌, ◌*◌, ◌≤◌, ◌<◌}
use native.Mathlib.Omega.{arith}
use lib.Dec.{eqb}
use lib.ListN.{length}
use borrow.Author.Tests.{eqb-true, eq-eqb, ne_eqb}
use Rattle.agreement.proofs.Laid.{own_words}
use Rattle.base.specs.Bools.{never, split}
use Rattle.base.specs.Bools as bools
use Rattle.base.specs.Common.{same}
use Rattle.base.specs.Tree.{plain, cycle, choice, done, ◌▸◌, nil, alternative, absent, otherwise}
use Rattle.carry.proofs.Found.{shift-place, place-back}
use Rattle.carry.proofs.Lists.{name-self, name-eq, Distinct, number-name, number-found, place-of}
use Rattle.carry.proofs.Scanning.{in_step, scanned-rule}
use Rattle.carry.specs.Carry.{Name, same_name, Source, Place, place_of, number_of, name_of, numbered, mark, marked_words, same_words}
use Rattle.carry.specs.Scan.{instruction, same_scan, names_meet, calls_meet}
use Rattle.program.proofs.Places.{rule-word}
use Rattle.program.specs.Accepted.{OkPlain, OkSelector, Ok, Oks, OkAlts, OkOther, Accepted}
use Rattle.program.specs.Program.{Plain, match, any, emit, error, exit, call, back, give, update, update_with, Selector, by_token, by_rule, by_operation, by_operation_with, Act, Acts, Alts, Other, Rule, rule_of, body_of}
use Rattle.program.specs.Table.{count_labels, sizes, size_alts, size_other, size_absent, table_words, first_label, absent_words, choice_number, selector_words, plain_words, code, codes, code_alts, code_other, end_words, place}

-- Only the rules that are there are called

module _ (prog : List Rule) (a b : ℕ → ℕ) (h : (i : ℕ) → i < length prog → a i ≡ b i) where
  plain-same : (p : Plain) (v c : Bool) (out : ℕ) → OkPlain prog p v c → plain_words a p out ≡ plain_words b p out
  unfolding OkPlain plain_words
  plain-same (match t) v c out ok = refl
  plain-same any v c out ok = refl
  plain-same (emit t) v c out ok = refl
  plain-same (error t) v c out ok = refl
  plain-same exit v c out ok = refl
  plain-same (call r) v c out ok = ap (λ (i : ℕ). 8 ∷ i ∷ []) (h r ok.there)
  plain-same back v c out ok = refl
  plain-same (give u) v c out ok = refl
  plain-same (update op) v c out ok = refl
  plain-same (update_with op u) v c out ok = refl

  selector-same : (s : Selector) → OkSelector prog s → selector_words a s ≡ selector_words b s
  unfolding OkSelector selector_words
  selector-same by_token ok = refl
  selector-same (by_rule r) ok = ap (λ (i : ℕ). 8 ∷ i ∷ []) (h r ok.there)
  selector-same (by_operation op) ok = refl
  selector-same (by_operation_with op u) ok = refl

  mutual
    unfolding Ok code

    act-same : (x : Act) (v c : Bool) (out : ℕ) → Ok prog x v c → code a x out ≡ code b x out
    act-same (plain p) v c out ok = plain-same p v c out ok
    act-same (cycle q) v c out ok = ap (λ (l : List ℕ). l ++ (2 ∷ (sizes q + 1) ∷ [])) (acts-same q v true 2 ok)
    act-same (choice s q o) v c out ok =
        let x = selector-same s ok.0 in
        let y = alts-same q v c out (1 + 2 * count_labels q + size_other o (size_absent s)) ok.1 in
        let z = other-same o v c out (absent_words s (first_label q) (size_alts q + (1 + 2 * count_labels q + 3))) ok.2 in
        λ i. x i ++ (choice_number s ∷ (size_alts q + 1) ∷ (y i ++ (count_labels q ∷ (table_words 1 q ++ z i))))

    acts-same : (q : Acts) (v c : Bool) (out : ℕ) → Oks prog q v c → codes a q out ≡ codes b q out
    acts-same done v c out ok = refl
    acts-same (x ▸ q) v c out ok = let y = act-same x v c (sizes q + out) ok.0 in let z = acts-same q v c out ok.1 in λ i. y i ++ z i

    alts-same : (q : Alts) (v c : Bool) (out rest : ℕ) → OkAlts prog q v c → code_alts a q out rest ≡ code_alts b q out rest
    alts-same nil v c out rest ok = refl
    alts-same (alternative ls x q) v c out rest ok =
        let y = acts-same x v c (2 + size_alts q + (rest + out)) ok.1 in
        let z = alts-same q v c out rest ok.2 in
        λ i. y i ++ (1 ∷ (1 + size_alts q + rest) ∷ z i)

    other-same : (o : Other) (v c : Bool) (out : ℕ) (d : List ℕ) → OkOther prog o v c → code_other a o out d ≡ code_other b o out d
    other-same absent v c out d ok = refl
    other-same (otherwise x) v c out d ok = acts-same x v c out ok

  rule-same : Accepted prog → (r : ℕ) → r < length prog → marked_words a (rule_of prog r) ≡ marked_words b (rule_of prog r)
  unfolding marked_words body_of
  rule-same ok r k = ap (λ (l : List ℕ). l ++ end_words (rule_of prog r).valued) (acts-same (rule_of prog r).body (rule_of prog r).valued false 0 (ok.in_order r k))

-- A location as the mark of the rule in which it lies

unfoldable mark_of : List Name → List Name → ℕ → Option Place → ℕ
mark_of old names k none = k
mark_of old names k (some at) = mark old names at.rule

start-in : (prog : List Rule) → Accepted prog → (r : ℕ) → r < length prog → place_of prog (place 1 prog r) ≡ some (record { rule = r; offset = 0 })
unfolding place_of
start-in prog ok r h =
    let z : place 1 prog r ≡ suc (place 0 prog r + 0) = shift-place 1 prog r ∙ near (place 0 prog r) in
    let y : 0 + r ≡ r = omega arith in
    rw z (place-back 0 prog r 0 h (rule-word prog ok.no_end r h) ∙ ap (λ (i : ℕ). some (record { rule = i; offset = 0 })) y)
  where
    near : (n : ℕ) → 1 + n ≡ suc (n + 0)
    near n = omega arith

module _ (p q : Source) (ok : Accepted p.rules) (ok' : Accepted q.rules) (dp : Distinct p.names) (dq : Distinct q.names)
    (np : length p.names ≡ length p.rules) (nq : length q.names ≡ length q.rules) where
  -- the same name is the same mark
  own-mark : (i : ℕ) → i < length p.names → mark p.names p.names i ≡ 65536 + (0 + i)
  unfolding mark numbered
  own-mark i h = rw (number-name dp 0 i h)

  meet : (i j : ℕ) → i < length p.names → same_name (name_of p.names i) (name_of q.names j) ≡ true → mark p.names p.names i ≡ mark p.names q.names j
  unfolding mark numbered
  meet i j h e =
      let z = name-eq (name_of p.names i) (name_of q.names j) e in
      let x : number_of (name_of q.names j) 0 p.names ≡ some (0 + i) = ap (λ (v : Name). number_of v 0 p.names) (sym z) ∙ number-name dp 0 i h in
      rw (number-name dp 0 i h, x)

  meet-back : (i j : ℕ) → i < length p.names → mark p.names p.names i ≡ mark p.names q.names j → same_name (name_of p.names i) (name_of q.names j) ≡ true
  unfolding mark numbered
  meet-back i j h e = go (number_of (name_of q.names j) 0 p.names) refl (sym (own-mark i h) ∙ e)
    where
      go : (n : Option ℕ) → number_of (name_of q.names j) 0 p.names ≡ n → 65536 + (0 + i) ≡ 65536 + numbered (length p.names + j) n → same_name (name_of p.names i) (name_of q.names j) ≡ true
      go none d f = absurd (omega (arith, f, h))
      go (some k) d f =
          let g = number-found (name_of q.names j) 0 p.names k d in
          let y : g.0 ≡ i = omega (arith, f, g.1) in
          rw (← (ap (name_of p.names) (sym y) ∙ g.3)) (name-self (name_of p.names i))

  marks-meet : (i j : ℕ) → i < length p.names → same_name (name_of p.names i) (name_of q.names j) ≡ eqb (mark p.names p.names i) (mark p.names q.names j)
  marks-meet i j h =
      bools.same (same_name (name_of p.names i) (name_of q.names j)) (eqb (mark p.names p.names i) (mark p.names q.names j))
      (λ e. eq-eqb (mark p.names p.names i) (mark p.names q.names j) (meet i j h e))
      (λ e. meet-back i j h (eqb-true (mark p.names p.names i) (mark p.names q.names j) e))

  -- a mark is above all else
  high : (names : List Name) (i : ℕ) → 65536 ≤ mark p.names names i
  unfolding mark
  high names i = omega arith

  calls-meet : (x y : ℕ) → calls_meet p q x y ≡ eqb (mark_of p.names p.names 0 (place_of p.rules x)) (mark_of p.names q.names 1 (place_of q.rules y))
  unfolding calls_meet names_meet mark_of
  calls-meet x y = go (place_of p.rules x) refl (place_of q.rules y)
    where
      go : (a : Option Place) → place_of p.rules x ≡ a → (b : Option Place)
          → names_meet p.names q.names a b ≡ eqb (mark_of p.names p.names 0 a) (mark_of p.names q.names 1 b)
      go none e none = refl
      go none e (some b) = sym (ne_eqb 0 (mark p.names q.names b.rule) (λ z. omega (arith, z, high q.names b.rule)))
      go (some a) e none = sym (ne_eqb (mark p.names p.names a.rule) 1 (λ z. omega (arith, z, high p.names a.rule)))
      go (some a) e (some b) = marks-meet a.rule b.rule (omega (arith, np, (place-of p.rules x a e).there))

  pub scanned-words : (r s : ℕ) → r < length p.rules → s < length q.rules
      → same_scan (calls_meet p q) [] 0 instruction (own_words p.rules r) (own_words q.rules s) ≡ same_words p q r s
  unfolding same_words mark_of
  scanned-words r s h k =
      let f : ℕ → ℕ = λ x. mark_of p.names p.names 0 (place_of p.rules x) in
      let g : ℕ → ℕ = λ x. mark_of p.names q.names 1 (place_of q.rules x) in
      let a = scanned-rule f p.rules ok r h ∙ rule-same p.rules (λ i. f (place 1 p.rules i)) (mark p.names p.names) (λ i z. ap (mark_of p.names p.names 0) (start-in p.rules ok i z)) ok r h in
      let b = scanned-rule g q.rules ok' s k ∙ rule-same q.rules (λ i. g (place 1 q.rules i)) (mark p.names q.names) (λ i z. ap (mark_of p.names q.names 1) (start-in q.rules ok' i z)) ok' s k in
      in_step (calls_meet p q) f g calls-meet [] 0 instruction (own_words p.rules r) (own_words q.rules s) ∙ (λ i. same (a i) (b i))
