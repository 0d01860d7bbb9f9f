-- `place-held`: what `carry_place` finds by rows and tables is `carry_place` of the sources.
use mathlib.Core.Bool.{Bool, true, false}
use mathlib.Core.List.{List, [], ◌∷◌, ◌++◌, append_assoc}
use mathlib.Core.Option.{Option, none, some}
use mathlib.Core.Path.{◌≡◌, refl, sym, ap, ◌∙◌}
use Prim.Native.Nat.{ℕ, suc, ◌+◌, ◌-◌, ◌<◌, ◌≤◌}
use native.Mathlib.Nat.{add-zero}
use native.Mathlib.Omega.{arith}
use native.Mathlib.Decide.{dec_lt}
use lib.Dec.{eqb}
use lib.ListN.{length, drop, length-append}
use lib.Seq.{take-append_seam, drop-append-le}
use borrow.Author.Tests.{lt-ltb, le-ltb, eqb-true, eqb-false, ne_eqb}
use Rattle.agreement.proofs.Laid.{own_words}
use Rattle.std.specs.Prelude.{if◌then◌else◌}
use Rattle.carry.proofs.Found.{length_marked}
use Rattle.carry.proofs.Lists.{Distinct, number-found}
use Rattle.carry.specs.Carry.{Name, same_name, Source, Place, place_of, number_of, name_of, mark, marked_words, same_words, in_rule, carried_at, carry_place}
use Rattle.carry.specs.Scan.{instruction, same_scan}
use Rattle.machine.proofs.Bytes.{length-words_of}
use Rattle.machine.specs.Bytes.{words_of}
use Rattle.program.proofs.Lengths.{length-table}
use Rattle.program.proofs.Places.{place-next, place-from, place-fits, place-words}
use Rattle.program.specs.Accepted.{Accepted}
use Rattle.program.specs.Program.{Rule, rule_of, body_of}
use Rattle.program.specs.Table.{codes, end_words, size_rule, size_rules, rules_words, place, table}
use Rattle.scanner.proofs.WordLaws.{same_length}
use Rattle.symbols.specs.Search.{part}
use Rattle.carrier.proofs.Sheets.{Found, nowhere, somewhere, rule-held, words-held}
use Rattle.carrier.specs.Held.{number_held, name_held, rule_held, calls_held, find_held, end_held, Laid, words_held, place_held}
use Rattle.carrier.specs.Sheets.{Sheet}

-- a number, or 128 or 0 where there is none
unfoldable pub or_no : ℕ → Option ℕ → ℕ
or_no n none = n
or_no n (some x) = x

-- the rule with a name
find-is : (old sheet : List ℕ) (i : ℕ) (new other : List ℕ) (names : List Name) (k : ℕ) → ((m : ℕ) → m < length names → name_held new other (k + m) ≡ name_of names m)
    → find_held old sheet i new other (length names) k ≡ or_no 128 (number_of (name_held old sheet i) k names)
unfolding find_held number_of name_of or_no
find-is old sheet i new other [] k h = refl
find-is old sheet i new other (v ∷ vs) k h =
    let z : name_held new other k ≡ v = ap (name_held new other) (sym (add-zero k)) ∙ h 0 (omega arith) in
    rw z (go (same_name (name_held old sheet i) v) (find-is old sheet i new other vs (suc k) (λ m l. ap (name_held new other) (near k m) ∙ h (suc m) (omega arith))))
  where
    near : (k m : ℕ) → suc k + m ≡ k + suc m
    near k m = omega arith

    go : (t : Bool) → find_held old sheet i new other (length vs) (suc k) ≡ or_no 128 (number_of (name_held old sheet i) (suc k) vs)
        → (if t then k else find_held old sheet i new other (length vs) (suc k)) ≡ or_no 128 (if t then some k else number_of (name_held old sheet i) (suc k) vs)
    go true e = refl
    go false e = e

place_end : (l : ℕ) (bs : List Rule) → place l bs (length bs) ≡ l + size_rules bs
unfolding place size_rules
place_end l [] = omega arith
place_end l (b ∷ bs) = let x = place_end (l + size_rule b) bs in omega (arith, x)

module _ (text sheet : List ℕ) (p : Source) (s : Sheet text sheet p) where
  -- where a rule ends
  end_is : (r : ℕ) → r < length p.rules → end_held sheet r ≡ place 1 p.rules r + size_rule (rule_of p.rules r)
  unfolding end_held
  end_is r h = rw (s.count, s.size) (elim (dec_lt (r + 1) (length p.rules)) [
    | yes x ↦ let z : r + 1 ≡ suc r = omega arith in rw (lt-ltb (r + 1) (length p.rules) x, s.locations (r + 1) x, z) (place-next 1 p.rules r h)
    | no x ↦ let y : length p.rules ≡ suc r = omega arith in
        let a = place-next 1 p.rules r h in
        let b = place_end 1 p.rules in
        let c : place 1 p.rules (length p.rules) ≡ place 1 p.rules (suc r) = ap (place 1 p.rules) y in
        rw (le-ltb (r + 1) (length p.rules) (omega arith)) (omega (arith, a, b, c))
  ])

  size_is : (r : ℕ) → r < length p.rules → end_held sheet r - number_held sheet r 0 ≡ size_rule (rule_of p.rules r)
  size_is r h = let a = end_is r h in let b = s.locations r h in omega (arith, a, b)

  -- the sheet of a program with no more than 4,096 words, whose table the bytes begin with
  pub laid : (a more : List ℕ) → words_of a ≡ table p.rules ++ more → size_rules p.rules ≤ 4096 → Laid sheet a
  laid a more e small = record {
    few = omega (arith, s.count, s.few);
    small = omega (arith, s.size, small);
    inside = omega (arith, s.size, length-words_of a, ap length e, length-append (table p.rules) more, length-table p.rules);
    from = λ i h. omega (arith, s.locations i (omega (arith, s.count, h)), place-from 1 p.rules i);
    onward = λ i h. let k : i < length p.rules = omega (arith, s.count, h) in omega (arith, end_is i k, s.locations i k);
    within = λ i h. let k : i < length p.rules = omega (arith, s.count, h) in omega (arith, end_is i k, place-fits 1 p.rules i k, s.size);
  }

  -- its words in the table
  words-is : (a more : List ℕ) → words_of a ≡ table p.rules ++ more → (r : ℕ) → r < length p.rules → part (words_of a) (number_held sheet r 0 - 1) (size_rule (rule_of p.rules r)) ≡ own_words p.rules r
  unfolding body_of
  words-is a more e r h =
      let prog = p.rules in
      let l = place 1 prog r - 1 in
      let f = place-from 1 prog r in
      let z : place 1 prog r ≡ suc l = omega (arith, f) in
      let g = place-fits 1 prog r h in
      let n = length-table prog in
      let own = own_words prog r in
      let rest = rules_words (place 1 prog) (drop (suc r) prog) in
      let w : drop l (table prog) ≡ own ++ rest = place-words prog r l h z ∙ sym (append_assoc (codes (place 1 prog) (rule_of prog r).body 0) (end_words (rule_of prog r).valued) rest) in
      let d : drop l (table prog ++ more) ≡ own ++ (rest ++ more) = drop-append-le l (table prog) more (omega (arith, f, g, n)) ∙ ap (λ (x : List ℕ). x ++ more) w ∙ append_assoc own rest more in
      let m : size_rule (rule_of prog r) ≡ length own = sym (unfold marked_words in length_marked (place 1 prog) (rule_of prog r)) in
      rw (e, s.locations r h, d, m) (take-append_seam own (rest ++ more))

module _ (old sheet : List ℕ) (p : Source) (s : Sheet old sheet p) (new sheet' : List ℕ) (q : Source) (s' : Sheet new sheet' q) (ok : Accepted p.rules) (ok' : Accepted q.rules)
    (dp : Distinct p.names) (dq : Distinct q.names) (np : length p.names ≡ length p.rules) (nq : length q.names ≡ length q.rules)
    (a more b more' : List ℕ) (ea : words_of a ≡ table p.rules ++ more) (eb : words_of b ≡ table q.rules ++ more') where
  abbrev Same : ℕ → ℕ → Bool
  Same = words_held a b old sheet new sheet'

  -- rules of different length have other words
  apart : (r t : ℕ) → (size_rule (rule_of q.rules t) ≡ size_rule (rule_of p.rules r) → ⊥) → same_words p q r t ≡ false
  unfolding same_words
  apart r t n =
      same_length (marked_words (mark p.names p.names) (rule_of p.rules r)) (marked_words (mark p.names q.names) (rule_of q.rules t))
      (λ e. n (sym (sym (length_marked (mark p.names p.names) (rule_of p.rules r)) ∙ e ∙ length_marked (mark p.names q.names) (rule_of q.rules t))))

  abbrev Calls : ℕ → ℕ → Bool
  Calls = calls_held old sheet new sheet'

  rules-held : (r t : ℕ) → r < length p.rules → t < length q.rules → Same r t ≡ same_words p q r t
  unfolding words_held
  rules-held r t h k = rw (size_is old sheet p s r h, size_is new sheet' q s' t k) (go (eqb (size_rule (rule_of q.rules t)) (size_rule (rule_of p.rules r))) refl)
    where
      go : (z : Bool) → eqb (size_rule (rule_of q.rules t)) (size_rule (rule_of p.rules r)) ≡ z
          → (if z then same_scan Calls [] 0 instruction (part (words_of a) (number_held sheet r 0 - 1) (size_rule (rule_of p.rules r))) (part (words_of b) (number_held sheet' t 0 - 1) (size_rule (rule_of p.rules r))) else false)
          ≡ same_words p q r t
      go true e =
          let n = eqb-true (size_rule (rule_of q.rules t)) (size_rule (rule_of p.rules r)) e in
          let x = words-is old sheet p s a more ea r h in
          let y : part (words_of b) (number_held sheet' t 0 - 1) (size_rule (rule_of p.rules r)) ≡ own_words q.rules t = ap (part (words_of b) (number_held sheet' t 0 - 1)) (sym n) ∙ words-is new sheet' q s' b more' eb t k in
          rw (x, y) (words-held old sheet p s new sheet' q s' ok ok' dp dq np nq r t h k)
      go false e = sym (apart r t (λ n. eqb-false (size_rule (rule_of q.rules t)) (size_rule (rule_of p.rules r)) e n))

  pub place-held : (l : ℕ) → place_held a b old sheet new sheet' l ≡ or_no 0 (carry_place p q l)
  unfolding place_held carry_place carried_at in_rule or_no
  place-held l = rw s'.count (outer (place_of p.rules l) (rule_held sheet l) (rule-held old sheet p s l))
    where
      held : (r : ℕ) → r < length p.rules → find_held old sheet r new sheet' (length q.rules) 0 ≡ or_no 128 (number_of (name_of p.names r) 0 q.names)
      held r h =
          ap (λ (n : ℕ). find_held old sheet r new sheet' n 0) (sym nq)
          ∙ find-is old sheet r new sheet' q.names 0 (λ m k. ap (name_held new sheet') (zero_more m) ∙ s'.names m (omega (arith, nq, k)))
          ∙ ap (λ (v : Name). or_no 128 (number_of v 0 q.names)) (s.names r h)
        where
          zero_more : (m : ℕ) → 0 + m ≡ m
          zero_more m = omega arith

      last : (at : Place) → at.rule < length p.rules → place 1 p.rules at.rule + at.offset ≡ l → (j : ℕ) → j < length q.rules → (z : Bool) → same_words p q at.rule j ≡ z
          → (if z then number_held sheet' j 0 + (l - number_held sheet at.rule 0) else 0) ≡ or_no 0 (if z then some (place 1 q.rules j + at.offset) else none)
      last at h e j k true f = let x = s'.locations j k in let y = s.locations at.rule h in omega (arith, x, y, e)
      last at h e j k false f = refl

      inner : (at : Place) → at.rule < length p.rules → place 1 p.rules at.rule + at.offset ≡ l → (o : Option ℕ) → number_of (name_of p.names at.rule) 0 q.names ≡ o
          → (if eqb (or_no 128 o) 128 then 0 else if Same at.rule (or_no 128 o) then number_held sheet' (or_no 128 o) 0 + (l - number_held sheet at.rule 0) else 0) ≡ or_no 0 (in_rule p q at o)
      inner at h e none d = refl
      inner at h e (some j) d =
          let f = number-found (name_of p.names at.rule) 0 q.names j d in
          let k : j < length q.rules = omega (arith, f.1, f.2, nq) in
          rw (ne_eqb j 128 (λ z. omega (arith, z, k, s'.few)), rules-held at.rule j h k) (last at h e j k (same_words p q at.rule j) refl)

      outer : (x : Option Place) (i : ℕ) → Found old sheet p s l x i
          → (if eqb i 128 then 0 else if eqb (find_held old sheet i new sheet' (length q.rules) 0) 128 then 0
          else if Same i (find_held old sheet i new sheet' (length q.rules) 0) then number_held sheet' (find_held old sheet i new sheet' (length q.rules) 0) 0 + (l - number_held sheet i 0) else 0)
          ≡ or_no 0 (carried_at p q x)
      outer none i nowhere = refl
      outer (some x) i (somewhere at h e) =
          rw (ne_eqb at.rule 128 (λ z. omega (arith, z, h, s.few)), held at.rule h) (inner at h e (number_of (name_of p.names at.rule) 0 q.names) refl)
