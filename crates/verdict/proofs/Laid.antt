-- A program's cells lie as the scan takes them apart.
use mathlib.Core.Path.{◌≡◌, refl, sym, ap, ◌∙◌}
use mathlib.Core.Bool.{Bool, true, false}
use mathlib.Core.List.{List, [], ◌∷◌, ◌++◌, append_assoc}
use native.Mathlib.Omega.{arith}
use native.Mathlib.Decide.{dec_lt}
use Prim.Native.Nat.{ℕ, zero, suc, ◌+◌, ◌<◌, ◌≤◌}
use lib.ListN.{length, take, drop, get_or, length-append}
use lib.Seq.{drop_at}
use Rattle.base.specs.Tree.{plain, cycle, choice, done, ◌▸◌, nil, alternative, absent, otherwise}
use Rattle.program.specs.Accepted.{OkPlain, OkSelector, Ok, Oks, OkAlts, OkOther, Accepted}
use Rattle.program.specs.Program.{Plain, match, any, emit, error, exit, call, back, give, update, update_with, Selector, by_token, by_rule, by_operation, by_operation_with, Act, Acts, Alts, Other, Rule, rule_of, body_of}
use Rattle.cells.specs.Cells.{plain_cells, selector_cells, absent_cell, act_cells, acts_cells, alts_cells, other_cells, rules_cells, cells_start}
use Rattle.verdict.specs.Lies.{RangePlain, RangeSelector, labelled, Few, FewAll, FewSome, FewOther, Range, Ranges, RangeAlts, RangeOther, InRange, Lies, lies_plain, lies_cycle, lies_token, lies_rule, lies_operation, lies_operation_with, LiesAll, lies_done, lies_next, LiesRest, lies_absent, lies_absent_token, lies_otherwise, lies_alternative}
use Rattle.verdict.specs.Told.{Laid, Holds}

take_at : (l m : List ℕ) → take (length l) (l ++ m) ≡ l
take_at [] m = refl
take_at (x ∷ l) m = ap (λ (k : List ℕ). x ∷ k) (take_at l m)

lies-selector : (s : Selector) (q : Alts) (o : Other) (k : List ℕ) {l : List ℕ} → RangeSelector s → labelled q ≤ 64 → LiesRest l q o k → Lies (selector_cells s l) (choice s q o) k
unfolding selector_cells RangeSelector
lies-selector by_token q o k h y x = lies_token x
lies-selector (by_rule r) q o k h y x = lies_rule y x
lies-selector (by_operation op) q o k h y x = lies_operation h.0 h.1 x
lies-selector (by_operation_with op v) q o k h y x = lies_operation_with h.0 h.1 x

lies-none : (s : Selector) (k : List ℕ) → LiesRest (absent_cell s ∷ k) nil absent k
unfolding absent_cell
lies-none by_token k = lies_absent_token
lies-none (by_rule r) k = lies_absent
lies-none (by_operation op) k = lies_absent
lies-none (by_operation_with op v) k = lies_absent

mutual
  unfolding act_cells Range Few

  pub lies : (a : Act) (k : List ℕ) → Range a → Few a → Lies (act_cells a k) a k
  lies (plain p) k h f = lies_plain refl h
  lies (cycle b) k h f = lies_cycle (lies-all b k h f)
  lies (choice s q o) k h f = lies-selector s q o k h.0 f.0 (lies-rest q o (absent_cell s) k h.1 f.1 (lies-other s o k h.2 f.2))

  lies-other : (s : Selector) (o : Other) (k : List ℕ) → RangeOther o → FewOther o → LiesRest (other_cells o (absent_cell s) k) nil o k
  lies-other s absent k h f = lies-none s k
  lies-other s (otherwise b) k h f = lies_otherwise (lies-all b k h f)

  lies-rest : (q : Alts) (o : Other) (c : ℕ) (k : List ℕ) → RangeAlts q → FewSome q → LiesRest (other_cells o c k) nil o k → LiesRest (alts_cells q (other_cells o c k)) q o k
  lies-rest nil o c k h f x = x
  lies-rest (alternative ls b q) o c k h f x =
      let m = alts_cells q (other_cells o c k) in
      let y : LiesAll (drop (length ls) (ls ++ acts_cells b m)) b m = rw (drop_at ls (acts_cells b m) (length ls) refl) (lies-all b m h.0 f.0) in
      lies_alternative (length ls) refl (take_at ls (acts_cells b m)) y (lies-rest q o c k h.1 f.1 x)

  pub lies-all : (q : Acts) (k : List ℕ) → Ranges q → FewAll q → LiesAll (acts_cells q k) q k
  lies-all done k h f = lies_done
  lies-all (a ▸ q) k h f = lies_next (lies a (acts_cells q k) h.0 f.0) (lies-all q k h.1 f.1)

-- more cells behind
plain-append : (p : Plain) (k m : List ℕ) → plain_cells p (k ++ m) ≡ plain_cells p k ++ m
unfolding plain_cells
plain-append (match t) k m = refl
plain-append any k m = refl
plain-append (emit t) k m = refl
plain-append (error t) k m = refl
plain-append exit k m = refl
plain-append (call r) k m = refl
plain-append back k m = refl
plain-append (give v) k m = refl
plain-append (update op) k m = refl
plain-append (update_with op v) k m = refl

selector-append : (s : Selector) (k m : List ℕ) → selector_cells s (k ++ m) ≡ selector_cells s k ++ m
unfolding selector_cells
selector-append by_token k m = refl
selector-append (by_rule r) k m = refl
selector-append (by_operation op) k m = refl
selector-append (by_operation_with op v) k m = refl

mutual
  unfolding act_cells

  act-append : (a : Act) (k m : List ℕ) → act_cells a (k ++ m) ≡ act_cells a k ++ m
  act-append (plain p) k m = plain-append p k m
  act-append (cycle b) k m = ap (λ (l : List ℕ). 2 ∷ l) (acts-append b k m)
  act-append (choice s q o) k m =
      ap (λ (l : List ℕ). selector_cells s (alts_cells q l)) (other-append o (absent_cell s) k m)
      ∙ (ap (selector_cells s) (alts-append q (other_cells o (absent_cell s) k) m) ∙ selector-append s (alts_cells q (other_cells o (absent_cell s) k)) m)

  pub acts-append : (q : Acts) (k m : List ℕ) → acts_cells q (k ++ m) ≡ acts_cells q k ++ m
  acts-append done k m = refl
  acts-append (a ▸ q) k m = ap (act_cells a) (acts-append q k m) ∙ act-append a (acts_cells q k) m

  alts-append : (q : Alts) (k m : List ℕ) → alts_cells q (k ++ m) ≡ alts_cells q k ++ m
  alts-append nil k m = refl
  alts-append (alternative ls b q) k m =
      ap (λ (l : List ℕ). (64 + length ls) ∷ (ls ++ l)) (ap (acts_cells b) (alts-append q k m) ∙ acts-append b (alts_cells q k) m)
      ∙ ap (λ (l : List ℕ). (64 + length ls) ∷ l) (sym (append_assoc ls (acts_cells b (alts_cells q k)) m))

  other-append : (o : Other) (c : ℕ) (k m : List ℕ) → other_cells o c (k ++ m) ≡ other_cells o c k ++ m
  other-append absent c k m = refl
  other-append (otherwise b) c k m = ap (λ (l : List ℕ). 13 ∷ l) (acts-append b k m)

-- the whole program: what lies from the start of a rule on
start-lies : (bs : List Rule) (pre rest : List ℕ) (r : ℕ) → r < length bs → Ranges (get_or bs r (record { valued = false; body = done })).body → FewAll (get_or bs r (record { valued = false; body = done })).body
    → (k : List ℕ) × LiesAll (drop (cells_start (length pre) bs r) (pre ++ (rules_cells bs ++ rest))) (get_or bs r (record { valued = false; body = done })).body k
unfolding rules_cells cells_start
start-lies [] pre rest r h g f = absurd (omega arith)
start-lies (b ∷ bs) pre rest zero h g f =
    let k = rules_cells bs ++ rest in
    (k, rw (← acts-append b.body (rules_cells bs) rest, drop_at pre (acts_cells b.body k) (length pre) refl) (lies-all b.body k g f))
start-lies (b ∷ bs) pre rest (suc r) h g f =
    let own = acts_cells b.body [] in
    let k = rules_cells bs ++ rest in
    let ih = start-lies bs (pre ++ own) rest r (omega arith) g f in
    let e : (pre ++ own) ++ k ≡ pre ++ (acts_cells b.body (rules_cells bs) ++ rest) =
    append_assoc pre own k ∙ ap (λ (l : List ℕ). pre ++ l) (sym (acts-append b.body [] k) ∙ acts-append b.body (rules_cells bs) rest) in
    (ih.0, rw (← e, ← length-append pre own) ih.1)

pub laid : (cells starts : List ℕ) (count : ℕ) (prog : List Rule) → Holds cells starts count prog → Laid cells starts prog
unfolding body_of rule_of
laid cells starts count prog h = record { tail = tail; lies = lies_at }
  where
    one : (r : ℕ) → r < length prog → (k : List ℕ) × LiesAll (drop (get_or starts r 0) cells) (body_of prog r) k
    one r l =
        let x = start-lies prog [] h.rest r l (h.ranges.bodies r l) (h.ranges.labels r l) in
        (x.0, rw (h.begins r (omega (arith, h.number)), h.its) x.1)

    at : (r : ℕ) → Dec (r < length prog) → List ℕ
    at r (yes l) = (one r l).0
    at r (no n) = []

    tail : ℕ → List ℕ
    tail r = at r (dec_lt r (length prog))

    lies_at : (r : ℕ) → r < length prog → LiesAll (drop (get_or starts r 0) cells) (body_of prog r) (tail r)
    lies_at r l = go (dec_lt r (length prog))
      where
        go : (d : Dec (r < length prog)) → LiesAll (drop (get_or starts r 0) cells) (body_of prog r) (at r d)
        go (yes x) = (one r x).1
        go (no n) = absurd (n l)

-- An accepted program's operations are in their ranges
module _ (prog : List Rule) where
  range-plain : (p : Plain) (v c : Bool) → OkPlain prog p v c → RangePlain p
  unfolding OkPlain RangePlain
  range-plain (match t) v c h = tt
  range-plain any v c h = tt
  range-plain (emit t) v c h = tt
  range-plain (error t) v c h = tt
  range-plain exit v c h = tt
  range-plain (call r) v c h = tt
  range-plain back v c h = tt
  range-plain (give w) v c h = tt
  range-plain (update op) v c h = h
  range-plain (update_with op w) v c h = (h.0, h.1)

  range-selector : (s : Selector) → OkSelector prog s → RangeSelector s
  unfolding OkSelector RangeSelector
  range-selector by_token h = tt
  range-selector (by_rule r) h = tt
  range-selector (by_operation op) h = h
  range-selector (by_operation_with op w) h = (h.0, h.1)

  mutual
    unfolding Ok Range

    range : (a : Act) (v c : Bool) → Ok prog a v c → Range a
    range (plain p) v c h = range-plain p v c h
    range (cycle b) v c h = ranges b v true h
    range (choice s q o) v c h = (range-selector s h.0, range-alts q v c h.1, range_other o v c h.2)

    ranges : (q : Acts) (v c : Bool) → Oks prog q v c → Ranges q
    ranges done v c h = tt
    ranges (a ▸ q) v c h = (range a v c h.0, ranges q v c h.1)

    range-alts : (q : Alts) (v c : Bool) → OkAlts prog q v c → RangeAlts q
    range-alts nil v c h = tt
    range-alts (alternative ls b q) v c h = (ranges b v c h.1, range-alts q v c h.2)

    range_other : (o : Other) (v c : Bool) → OkOther prog o v c → RangeOther o
    range_other absent v c h = tt
    range_other (otherwise b) v c h = ranges b v c h

  pub accepted-range : Accepted prog → ((r : ℕ) → r < length prog → FewAll (body_of prog r)) → InRange prog
  accepted-range a f = record { bodies = λ r l. ranges (body_of prog r) (rule_of prog r).valued false (a.in_order r l); labels = f }
