-- A value that a rule can quietly return stands behind a cell 10 of its cells.
use mathlib.Core.Path.{◌≡◌, refl, sym, ap, ◌∙◌}
use mathlib.Core.Logic.{inl, inr}
use mathlib.Core.List.Memᴰ
use mathlib.Core.List.{List, ◌∷◌, ◌++◌, Memᴰ}
use native.Mathlib.Omega.{arith}
use Prim.Native.Nat.{ℕ, suc, ◌+◌, ◌<◌, ◌≤◌}
use lib.ListN.{length, drop, get_or, length-drop}
use lib.Seq.{get_or-drop, drop-drop}
use Rattle.program.specs.Program.{Plain, match, any, emit, error, exit, call, back, give, update, update_with, Act, Acts, Alts, Other}
use Rattle.cells.specs.Cells.{plain_cells}
use Rattle.finishing.specs.Test.{values_plain, values, values_all, values_some, values_other}
use Rattle.verdict.specs.Lies.{Lies, lies_plain, lies_cycle, lies_token, lies_rule, lies_operation, lies_operation_with, LiesAll, lies_done, lies_next, LiesRest, lies_absent, lies_absent_token, lies_otherwise, lies_alternative}

-- k is the end of l
pub record End (l k : List ℕ) : Type 0 where
  pub from : ℕ
  pub its : k ≡ drop from l

end-self : (k : List ℕ) → End k k
end-self k = record { from = 0; its = refl }

end-cons : {l k : List ℕ} (x : ℕ) → End l k → End (x ∷ l) k
end-cons x e = record { from = suc e.from; its = e.its }

end-trans : {l m k : List ℕ} → End l m → End m k → End l k
end-trans {l} {m} {k} a b = record { from = a.from + b.from; its = b.its ∙ (ap (λ (x : List ℕ). drop b.from x) a.its ∙ drop-drop b.from a.from l) }

end-drop : (n : ℕ) {l k : List ℕ} → End (drop n l) k → End l k
end-drop n {l} {k} e = record { from = n + e.from; its = e.its ∙ drop-drop e.from n l }

end_same : {l m k : List ℕ} → l ≡ m → End m k → End l k
end_same q e = rw q e

end_short : {l k : List ℕ} → End l k → length k ≤ length l
end_short {l} {k} e = omega (arith, ap length e.its, length-drop e.from l)

plain_end : (p : Plain) (k : List ℕ) → End (plain_cells p k) k
unfolding plain_cells
plain_end (match t) k = end-cons 3 (end-cons t (end-self k))
plain_end any k = end-cons 4 (end-self k)
plain_end (emit t) k = end-cons 5 (end-cons t (end-self k))
plain_end (error t) k = end-cons 6 (end-cons t (end-self k))
plain_end exit k = end-cons 1 (end-self k)
plain_end (call r) k = end-cons 8 (end-cons r (end-self k))
plain_end back k = end-cons 9 (end-self k)
plain_end (give v) k = end-cons 10 (end-cons v (end-self k))
plain_end (update op) k = end-cons op (end-self k)
plain_end (update_with op v) k = end-cons op (end-cons v (end-self k))

mutual
  end-act : {l k : List ℕ} {a : Act} → Lies l a k → End l k
  end-act {k = k} (lies_plain {p = p} e h) = end_same e (plain_end p k)
  end-act (lies_cycle x) = end-cons 2 (end-acts x)
  end-act (lies_token x) = end-cons 7 (end_rest x)
  end-act (lies_rule {r = r} h x) = end-cons 11 (end-cons r (end_rest x))
  end-act (lies_operation {op = op} h l x) = end-cons op (end_rest x)
  end-act (lies_operation_with {op = op} {v = v} h l x) = end-cons op (end-cons v (end_rest x))

  pub end-acts : {l k : List ℕ} {q : Acts} → LiesAll l q k → End l k
  end-acts {k = k} lies_done = end-cons 0 (end-self k)
  end-acts (lies_next x y) = end-trans (end-act x) (end-acts y)

  end_rest : {l k : List ℕ} {q : Alts} {o : Other} → LiesRest l q o k → End l k
  end_rest {k = k} lies_absent = end-cons 12 (end-self k)
  end_rest {k = k} lies_absent_token = end-cons 14 (end-self k)
  end_rest (lies_otherwise x) = end-cons 13 (end-acts x)
  end_rest (lies_alternative {t = t} n e d x y) = end-cons t (end-drop n (end-trans (end-acts x) (end_rest y)))

-- v stands behind a cell 10 of l, before k
pub record Stands (l k : List ℕ) (v : ℕ) : Type 0 where
  pub at : ℕ
  pub before : at + length k < length l
  pub mark : get_or l at 0 ≡ 10
  pub its : get_or l (at + 1) 0 ≡ v

stands-within : {l m k : List ℕ} {v : ℕ} → Stands l m v → length k ≤ length m → Stands l k v
stands-within s h = record { at = s.at; before = omega arith; mark = s.mark; its = s.its }

stands-end : {l m k : List ℕ} {v : ℕ} → End l m → Stands m k v → Stands l k v
stands-end {l} {m} {k} {v} e s =
    let i = s.at in
    let n = e.from in
    let g : (j : ℕ) → get_or m j 0 ≡ get_or l (n + j) 0 = λ j. ap (λ (x : List ℕ). get_or x j 0) e.its ∙ get_or-drop n l j 0 in
    record {
      at = n + i;
      before = omega (arith, ap length e.its, length-drop n l);
      mark = sym (g i) ∙ s.mark;
      its = ap (λ (j : ℕ). get_or l j 0) (omega arith) ∙ (sym (g (i + 1)) ∙ s.its);
    }

stands_same : {l m k : List ℕ} {v : ℕ} → l ≡ m → Stands m k v → Stands l k v
stands_same e s = rw e s

end-first : (x : ℕ) (l : List ℕ) → End (x ∷ l) l
end-first x l = end-cons x (end-self l)

module _ (v : ℕ) where
  stands-give : (u : ℕ) (k : List ℕ) → v ≡ u → Stands (10 ∷ u ∷ k) k v
  stands-give u k e = record { at = 0; before = omega arith; mark = refl; its = sym e }

  stands_plain : (p : Plain) (k : List ℕ) → Memᴰ v (values_plain p) → Stands (plain_cells p k) k v
  unfolding plain_cells values_plain
  stands_plain (match t) k m = elim m [ ]
  stands_plain any k m = elim m [ ]
  stands_plain (emit t) k m = elim m [ ]
  stands_plain (error t) k m = elim m [ ]
  stands_plain exit k m = elim m [ ]
  stands_plain (call r) k m = elim m [ ]
  stands_plain back k m = elim m [ ]
  stands_plain (give u) k (Memᴰ.head e) = stands-give u k e
  stands_plain (give u) k (Memᴰ.tail m) = elim m [ ]
  stands_plain (update op) k m = elim m [ ]
  stands_plain (update_with op w) k m = elim m [ ]

  mutual
    unfolding values

    stands-act : {l k : List ℕ} {a : Act} → Lies l a k → Memᴰ v (values a) → Stands l k v
    stands-act {k = k} (lies_plain {p = p} e h) m = stands_same e (stands_plain p k m)
    stands-act (lies_cycle {l = l} x) m = stands-end (end-first 2 l) (stands x m)
    stands-act (lies_token {l = l} x) m = stands-end (end-first 7 l) (stands-rest x m)
    stands-act (lies_rule {r = r} {l = l} h x) m = stands-end (end-cons 11 (end-first r l)) (stands-rest x m)
    stands-act (lies_operation {op = op} {l = l} h b x) m = stands-end (end-first op l) (stands-rest x m)
    stands-act (lies_operation_with {op = op} {v = w} {l = l} h b x) m = stands-end (end-cons op (end-first w l)) (stands-rest x m)

    pub stands : {l k : List ℕ} {q : Acts} → LiesAll l q k → Memᴰ v (values_all q) → Stands l k v
    stands lies_done m = elim m [ ]
    stands (lies_next {a = a} {q = q} x y) m = elim (Memᴰ.append_cases (values a) m) [
      | inl i ↦ stands-within (stands-act x i) (end_short (end-acts y))
      | inr i ↦ stands-end (end-act x) (stands y i)
    ]

    stands-rest : {l k : List ℕ} {q : Alts} {o : Other} → LiesRest l q o k → Memᴰ v (values_some q ++ values_other o) → Stands l k v
    stands-rest lies_absent m = elim m [ ]
    stands-rest lies_absent_token m = elim m [ ]
    stands-rest (lies_otherwise {l = l} x) m = stands-end (end-first 13 l) (stands x m)
    stands-rest (lies_alternative {t = t} {b = b} {q = q} {o = o} {l = l} n e d x y) m = elim (Memᴰ.append_cases (values_all b ++ values_some q) m) [
      | inl i ↦ elim (Memᴰ.append_cases (values_all b) i) [
        | inl j ↦ stands-end (end-cons t (end-drop n (end-self (drop n l)))) (stands-within (stands x j) (end_short (end_rest y)))
        | inr j ↦ stands-end (end-cons t (end-drop n (end-acts x))) (stands-rest y (Memᴰ.append_left (values_other o) j))
      ]
      | inr i ↦ stands-end (end-cons t (end-drop n (end-acts x))) (stands-rest y (Memᴰ.append_right (values_some q) i))
    ]
