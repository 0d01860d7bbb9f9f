-- The cells of a program, read by places, are its rules. Assumes nothing.
use Prim.Native.Nat.{ℕ, zero, suc, ◌+◌, ◌<◌, ◌≤◌}
use mathlib.Core.Path.{◌≡◌, refl, sym, ap, ◌∙◌}
use mathlib.Core.Bool.{Bool, true, false}
use mathlib.Core.List.{List, [], ◌∷◌, ◌++◌}
use native.Mathlib.Omega.{arith}
use lib.ListN.{length, get_or, drop}
use Rattle.base.specs.Tree.{plain, cycle, choice, done, ◌▸◌, nil, alternative, absent, otherwise}
use Rattle.program.specs.Program.{Plain, match, any, emit, error, exit, call, back, give, update, update_with, Selector, by_token, by_rule, by_operation, by_operation_with, Act, Acts, Alts, Other, Rule, rule_of, body_of}
use Rattle.program.specs.Accepted.{OkPlain, OkSelector, Ok, Oks, OkAlts, OkOther}
use Rattle.cells.specs.Cells.{plain_cells, selector_cells, absent_cell, act_cells, acts_cells, alts_cells, other_cells, rules_cells}
use Rattle.emitter.specs.Stands.{IsSel, sel_token, sel_rule, sel_op, sel_op_with, Labels, lab_none, lab_more, IsPlain, is_match, is_any, is_emit, is_error, is_exit, is_called, is_back, is_give, is_update, is_update_with, Is, is_plain, is_cycle, is_a_choice, IsAlts, is_nil, is_alt, IsOther, is_stop, is_other, IsAll, is_done, is_cons}
use Rattle.emitter.specs.Emitted.{FewLabels, FewLabelsAll, FewLabelsAlts, FewLabelsOther, CellsOf, sort_of, IsRules, rules_none, rules_more}

-- the cells from p on, taken one or two at a time
pub record One (cs : List ℕ) (p x : ℕ) (xs : List ℕ) : Type 0 where
  pub there : p + 1 ≤ length cs
  pub cell : get_or cs p 0 ≡ x
  pub rest : drop (p + 1) cs ≡ xs

one : (cs : List ℕ) (p x : ℕ) (xs : List ℕ) → drop p cs ≡ x ∷ xs → One cs p x xs
one [] zero x xs e = let z : ◌≡◌ {A = ℕ} 0 1 = cc in absurd (omega arith)
one [] (suc p) x xs e = let z : ◌≡◌ {A = ℕ} 0 1 = cc in absurd (omega arith)
one (c ∷ cs) zero x xs e = record { there = omega arith; cell = cc; rest = cc }
one (c ∷ cs) (suc p) x xs e =
    let o = one cs p x xs e in
    let s : suc p + 1 ≡ suc (p + 1) = omega arith in
    record { there = omega (arith, o.there); cell = o.cell; rest = ap (λ (n : ℕ). drop n (c ∷ cs)) s ∙ o.rest }

pub record Two (cs : List ℕ) (p x y : ℕ) (xs : List ℕ) : Type 0 where
  pub there : p + 2 ≤ length cs
  pub cell : get_or cs p 0 ≡ x
  pub next : get_or cs (p + 1) 0 ≡ y
  pub rest : drop (p + 2) cs ≡ xs

two : (cs : List ℕ) (p x y : ℕ) (xs : List ℕ) → drop p cs ≡ x ∷ y ∷ xs → Two cs p x y xs
two cs p x y xs e =
    let a = one cs p x (y ∷ xs) e in
    let b = one cs (p + 1) y xs a.rest in
    let s : p + 2 ≡ p + 1 + 1 = omega arith in
    record { there = omega (arith, b.there); cell = a.cell; next = b.cell; rest = ap (λ (n : ℕ). drop n cs) s ∙ b.rest }

pub record PlainStood (cs : List ℕ) (n p : ℕ) (a : Plain) (k : List ℕ) : Type 0 where
  pub e : ℕ
  pub stands : IsPlain cs n p e a
  pub rest : drop e cs ≡ k

pub record SelStood (cs : List ℕ) (n p : ℕ) (s : Selector) (k : List ℕ) : Type 0 where
  pub e : ℕ
  pub stands : IsSel cs n p e s
  pub rest : drop e cs ≡ k

pub record ActStood (cs : List ℕ) (n p : ℕ) (a : Act) (k : List ℕ) : Type 0 where
  pub e : ℕ
  pub stands : Is cs n p e a
  pub rest : drop e cs ≡ k

pub record ActsStood (cs : List ℕ) (n p : ℕ) (a : Acts) (k : List ℕ) : Type 0 where
  pub e : ℕ
  pub stands : IsAll cs n p e a
  pub rest : drop e cs ≡ k

pub record AltsStood (cs : List ℕ) (n p : ℕ) (a : Alts) (k : List ℕ) : Type 0 where
  pub e : ℕ
  pub stands : IsAlts cs n p e a
  pub rest : drop e cs ≡ k

pub record OtherStood (cs : List ℕ) (n : ℕ) (s : Selector) (p : ℕ) (a : Other) (k : List ℕ) : Type 0 where
  pub e : ℕ
  pub stands : IsOther cs n s p e a
  pub rest : drop e cs ≡ k

pub record LabelsStood (cs : List ℕ) (p : ℕ) (ls k : List ℕ) : Type 0 where
  pub labels : Labels cs p ls
  pub rest : drop (p + length ls) cs ≡ k

labels-stand : (cs tail : List ℕ) (ls : List ℕ) (p : ℕ) (k : List ℕ) → drop p cs ≡ (ls ++ k) ++ tail → LabelsStood cs p ls (k ++ tail)
labels-stand cs tail [] p k e = let s : p + 0 ≡ p = omega arith in record { labels = lab_none; rest = ap (λ (n : ℕ). drop n cs) s ∙ e }
labels-stand cs tail (v ∷ ls) p k e =
    let o = one cs p v ((ls ++ k) ++ tail) e in
    let r = labels-stand cs tail ls (p + 1) k o.rest in
    let s : p + length (v ∷ ls) ≡ p + 1 + length ls = omega arith in
    record { labels = lab_more o.cell r.labels; rest = ap (λ (n : ℕ). drop n cs) s ∙ r.rest }

-- `tail`: the cells behind the program's
module _ (prog : List Rule) (cs tail : List ℕ) where
  plain-stands : (a : Plain) (p : ℕ) (k : List ℕ) (v c : Bool) → drop p cs ≡ plain_cells a k ++ tail → OkPlain prog a v c → PlainStood cs (length prog) p a (k ++ tail)
  unfolding plain_cells OkPlain
  plain-stands (match t) p k v c e h = let o = two cs p 3 t (k ++ tail) e in record { e = p + 2; stands = is_match refl o.there o.cell o.next; rest = o.rest }
  plain-stands any p k v c e h = let o = one cs p 4 (k ++ tail) e in record { e = p + 1; stands = is_any refl o.there o.cell; rest = o.rest }
  plain-stands (emit t) p k v c e h = let o = two cs p 5 t (k ++ tail) e in record { e = p + 2; stands = is_emit refl o.there o.cell o.next; rest = o.rest }
  plain-stands (error t) p k v c e h = let o = two cs p 6 t (k ++ tail) e in record { e = p + 2; stands = is_error refl o.there o.cell o.next; rest = o.rest }
  plain-stands exit p k v c e h = let o = one cs p 1 (k ++ tail) e in record { e = p + 1; stands = is_exit refl o.there o.cell; rest = o.rest }
  plain-stands (call r) p k v c e h = let o = two cs p 8 r (k ++ tail) e in record { e = p + 2; stands = is_called refl o.there o.cell o.next h.there; rest = o.rest }
  plain-stands back p k v c e h = let o = one cs p 9 (k ++ tail) e in record { e = p + 1; stands = is_back refl o.there o.cell; rest = o.rest }
  plain-stands (give w) p k v c e h = let o = two cs p 10 w (k ++ tail) e in record { e = p + 2; stands = is_give refl o.there o.cell o.next; rest = o.rest }
  plain-stands (update op) p k v c e h = let o = one cs p op (k ++ tail) e in record { e = p + 1; stands = is_update refl o.there o.cell h.0 h.1; rest = o.rest }
  plain-stands (update_with op w) p k v c e h = let o = two cs p op w (k ++ tail) e in record { e = p + 2; stands = is_update_with refl o.there o.cell o.next h.0 h.1; rest = o.rest }

  sel-stands : (s : Selector) (p : ℕ) (k : List ℕ) → drop p cs ≡ selector_cells s k ++ tail → OkSelector prog s → SelStood cs (length prog) p s (k ++ tail)
  unfolding selector_cells OkSelector
  sel-stands by_token p k e h = let o = one cs p 7 (k ++ tail) e in record { e = p + 1; stands = sel_token refl o.there o.cell; rest = o.rest }
  sel-stands (by_rule r) p k e h = let o = two cs p 11 r (k ++ tail) e in record { e = p + 2; stands = sel_rule refl o.there o.cell o.next h.there; rest = o.rest }
  sel-stands (by_operation op) p k e h = let o = one cs p op (k ++ tail) e in record { e = p + 1; stands = sel_op refl o.there o.cell h.0 h.1; rest = o.rest }
  sel-stands (by_operation_with op w) p k e h = let o = two cs p op w (k ++ tail) e in record { e = p + 2; stands = sel_op_with refl o.there o.cell o.next h.0 h.1; rest = o.rest }

  mutual
    unfolding act_cells Ok FewLabels

    act-stands : (a : Act) (p : ℕ) (k : List ℕ) (v c : Bool) → drop p cs ≡ act_cells a k ++ tail → Ok prog a v c → FewLabels a → ActStood cs (length prog) p a (k ++ tail)
    act-stands (plain a) p k v c e h l = let o = plain-stands a p k v c e h in record { e = o.e; stands = is_plain o.stands; rest = o.rest }
    act-stands (cycle b) p k v c e h l =
        let o = one cs p 2 (acts_cells b k ++ tail) e in
        let r = acts-stand b (p + 1) k v true o.rest h l in
        record { e = r.e; stands = is_cycle {p = p} (omega (arith, o.there)) o.cell r.stands; rest = r.rest }
    act-stands (choice s q o) p k v c e h l =
        let x = sel-stands s p (alts_cells q (other_cells o (absent_cell s) k)) e h.0 in
        let y = alts-stand q x.e (other_cells o (absent_cell s) k) v c x.rest h.1 l.0 in
        let z = other-stands o s y.e k v c y.rest h.2 l.1 in
        record { e = z.e; stands = is_a_choice x.stands y.stands z.stands h.3; rest = z.rest }

    acts-stand : (q : Acts) (p : ℕ) (k : List ℕ) (v c : Bool) → drop p cs ≡ acts_cells q k ++ tail → Oks prog q v c → FewLabelsAll q → ActsStood cs (length prog) p q (k ++ tail)
    acts-stand done p k v c e h l = let o = one cs p 0 (k ++ tail) e in record { e = p + 1; stands = is_done refl o.there o.cell; rest = o.rest }
    acts-stand (a ▸ q) p k v c e h l =
        let x = act-stands a p (acts_cells q k) v c e h.0 l.0 in
        let y = acts-stand q x.e k v c x.rest h.1 l.1 in
        record { e = y.e; stands = is_cons x.stands y.stands; rest = y.rest }

    alts-stand : (q : Alts) (p : ℕ) (k : List ℕ) (v c : Bool) → drop p cs ≡ alts_cells q k ++ tail → OkAlts prog q v c → FewLabelsAlts q → AltsStood cs (length prog) p q (k ++ tail)
    alts-stand nil p k v c e h l = record { e = p; stands = is_nil refl; rest = e }
    alts-stand (alternative ls b q) p k v c e h l =
        let o = one cs p (64 + length ls) ((ls ++ acts_cells b (alts_cells q k)) ++ tail) e in
        let m = labels-stand cs tail ls (p + 1) (acts_cells b (alts_cells q k)) o.rest in
        let s : p + (1 + length ls) ≡ p + 1 + length ls = omega arith in
        let x = acts-stand b (p + (1 + length ls)) (alts_cells q k) v c (ap (λ (n : ℕ). drop n cs) s ∙ m.rest) h.1 l.2 in
        let y = alts-stand q x.e k v c x.rest h.2 l.3 in
        record { e = y.e; stands = is_alt o.cell l.0 l.1 m.labels x.stands y.stands; rest = y.rest }

    other-stands : (o : Other) (s : Selector) (p : ℕ) (k : List ℕ) (v c : Bool) → drop p cs ≡ other_cells o (absent_cell s) k ++ tail → OkOther prog o v c → FewLabelsOther o → OtherStood cs (length prog) s p o (k ++ tail)
    other-stands absent s p k v c e h l = let o = one cs p (absent_cell s) (k ++ tail) e in record { e = p + 1; stands = is_stop refl o.there o.cell; rest = o.rest }
    other-stands (otherwise b) s p k v c e h l =
        let o = one cs p 13 (acts_cells b k ++ tail) e in
        let r = acts-stand b (p + 1) k v c o.rest h l in
        record { e = r.e; stands = is_other {p = p} (omega (arith, o.there)) o.cell r.stands; rest = r.rest }

-- what is asked of each rule, from rule r on
pub record Each (prog : List Rule) (sorts : List ℕ) (r : ℕ) (rs : List Rule) : Type 0 where
  pub sort : (i : ℕ) → i < length rs → get_or sorts (r + i) 0 ≡ sort_of (rule_of rs i).valued
  pub in_order : (i : ℕ) → i < length rs → Oks prog (body_of rs i) (rule_of rs i).valued false
  pub labels : (i : ℕ) → i < length rs → FewLabelsAll (body_of rs i)

rules-stand : (prog : List Rule) (cs tail sorts : List ℕ) (rs : List Rule) (p r : ℕ) → drop p cs ≡ rules_cells rs ++ tail → Each prog sorts r rs → IsRules cs sorts (length prog) p r rs
unfolding rules_cells rule_of body_of
rules-stand prog cs tail sorts [] p r e h = rules_none
rules-stand prog cs tail sorts (b ∷ bs) p r e h =
    let x = acts-stand prog cs tail b.body p (rules_cells bs) b.valued false e (h.in_order 0 (omega arith)) (h.labels 0 (omega arith)) in
    let z : r + 0 ≡ r = omega arith in
    rules_more x.stands (ap (λ (i : ℕ). get_or sorts i 0) (sym z) ∙ h.sort 0 (omega arith))
    (rules-stand prog cs tail sorts bs x.e (r + 1) x.rest (record {
      sort = λ i l. let s : r + 1 + i ≡ r + suc i = omega arith in ap (λ (j : ℕ). get_or sorts j 0) s ∙ h.sort (suc i) (omega arith);
      in_order = λ i l. h.in_order (suc i) (omega arith);
      labels = λ i l. h.labels (suc i) (omega arith);
    }))

-- the cells of a program are its rules
pub program-stands : (cells sorts : List ℕ) (rules : ℕ) (prog : List Rule) → CellsOf cells sorts rules prog → IsRules cells sorts (length prog) 0 0 prog
program-stands cells sorts rules prog h =
    rules-stand prog cells h.rest sorts prog 0 0 h.same (record {
      sort = λ i l. let s : 0 + i ≡ i = omega arith in ap (λ (j : ℕ). get_or sorts j 0) s ∙ h.sort i l;
      in_order = h.in_order;
      labels = h.labels;
    })
