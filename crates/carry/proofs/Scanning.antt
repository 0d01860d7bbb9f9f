-- Going through the words of a rule by the lengths of its instructions finds the operands of its calls, and no other words.
use mathlib.Core.Bool.{Bool, true, false, ◌||◌}
use mathlib.Core.List.{List, [], ◌∷◌, ◌++◌, append_assoc}
use mathlib.Core.Logic.{◌⊎◌, inl, inr}
use mathlib.Core.Path.{◌≡◌, refl, sym, ap, ◌∙◌, subst}
use Prim.Native.Nat.{ℕ, zero, suc, ◌+◌, ◌*◌, ◌≤◌, ◌<◌}
use native.Mathlib.Nat.{add-zero}
use native.Mathlib.Omega.{arith}
use lib.Dec.{eqb}
use lib.ListN.{length, length-append}
use borrow.Author.Tests.{eqb-true, eq-eqb}
use Rattle.agreement.proofs.Laid.{length-operation, own_words}
use Rattle.base.specs.Bools.{never, split}
use Rattle.std.specs.Prelude.{if◌then◌else◌}
use Rattle.base.specs.Common.{member, same}
use Rattle.base.specs.Tree.{plain, cycle, choice, done, ◌▸◌, nil, alternative, absent, otherwise}
use Rattle.carry.specs.Carry.{marked_words}
use Rattle.carry.specs.Scan.{Expects, instruction, operand, label, labels_left, expects_after, tables_after, is_call, scan, same_scan}
use Rattle.machine.specs.Lengths.{lengths, length_of}
use Rattle.program.proofs.Lengths.{length-table_words, length-selector, length-code, length-codes, length-alts}
use Rattle.program.specs.Accepted.{OkPlain, OkSelector, Ok, Oks, OkAlts, OkOther, Accepted}
use Rattle.program.specs.Program.{Plain, match, any, emit, error, exit, call, back, give, update, update_with, Selector, by_token, by_rule, by_operation, by_operation_with, Act, Acts, Alts, Other, Rule, rule_of, body_of}
use Rattle.program.specs.Table.{size_plain, size_selector, size_absent, count_labels, size, sizes, size_alts, size_other, table_words, first_label, absent_words, choice_number, selector_words, plain_words, code, codes, code_alts, code_other, end_words, place}

-- In step

pub in_step : (c : ℕ → ℕ → Bool) (f g : ℕ → ℕ) → ((x y : ℕ) → c x y ≡ eqb (f x) (g y)) → (ts : List ℕ) (o : ℕ) (e : Expects) (ws vs : List ℕ)
    → same_scan c ts o e ws vs ≡ same (scan f ts o e ws) (scan g ts o e vs)
unfolding same_scan scan is_call expects_after tables_after
in_step c f g h ts o e [] [] = refl
in_step c f g h ts o e [] (v ∷ vs) = refl
in_step c f g h ts o e (w ∷ ws) [] = refl
in_step c f g h ts o instruction (w ∷ ws) (v ∷ vs) =
    split (eqb w v)
    (λ t. let z = eqb-true w v t in rw (t, ← z) (in_step c f g h ts (suc o) (expects_after ts o instruction w) ws vs))
    (λ t. rw t refl)
in_step c f g h ts o (label n) (w ∷ ws) (v ∷ vs) =
    split (eqb w v)
    (λ t. rw t (in_step c f g h ts (suc o) (labels_left n) ws vs))
    (λ t. rw t refl)
in_step c f g h ts o (operand i) (w ∷ ws) (v ∷ vs) = go (eqb i 8) refl (λ us. in_step c f g h us (suc o) instruction ws vs)
  where
    tables : ℕ → List ℕ
    tables x = if eqb i 7 || eqb i 11 then (o + x) ∷ ts else ts

    go : (b : Bool) → eqb i 8 ≡ b → ((us : List ℕ) → same_scan c us (suc o) instruction ws vs ≡ same (scan f us (suc o) instruction ws) (scan g us (suc o) instruction vs))
        → (if (if b then c w v else eqb w v) then same_scan c (tables w) (suc o) instruction ws vs else false)
        ≡ (if eqb (if b then f w else w) (if b then g v else v) then same (scan f (tables w) (suc o) instruction ws) (scan g (tables v) (suc o) instruction vs) else false)
    go true d ih = let z = eqb-true i 8 d in rw (z, h w v, ih ts)
    go false d ih =
        split (eqb w v)
        (λ t. let z = eqb-true w v t in rw (t, ← z) (ih (tables w)))
        (λ t. rw t refl)

-- From one instruction to another: these words give those; the tables announced on the way stand before b

pub record Scanned (f : ℕ → ℕ) (ts : List ℕ) (o : ℕ) (ws vs ts' : List ℕ) (b : ℕ) : Type 0 where
  pub goes : (rest : List ℕ) → scan f ts o instruction (ws ++ rest) ≡ vs ++ scan f ts' (o + length ws) instruction rest
  pub more : (t : ℕ) → member t ts ≡ true → member t ts' ≡ true
  pub less : (t : ℕ) → member t ts' ≡ true → (member t ts ≡ true) ⊎ (t < b)

-- no table of those announced stands among the n words at o
abbrev Clear : List ℕ → ℕ → ℕ → Type 0
Clear ts o n = (t : ℕ) → o ≤ t → t < o + n → member t ts ≡ false

clear-part : (ts : List ℕ) (o n o₁ n₁ : ℕ) → o ≤ o₁ → o₁ + n₁ ≤ o + n → Clear ts o n → Clear ts o₁ n₁
clear-part ts o n o₁ n₁ h k c t a b = c t (omega arith) (omega arith)

clear-here : (ts : List ℕ) (o n : ℕ) → 1 ≤ n → Clear ts o n → member o ts ≡ false
clear-here ts o n h c = c o (omega arith) (omega arith)

-- behind what was scanned
clear-after : (ts ts' : List ℕ) (o n b : ℕ) → b ≤ o → ((t : ℕ) → member t ts' ≡ true → (member t ts ≡ true) ⊎ (t < b)) → Clear ts o n → Clear ts' o n
clear-after ts ts' o n b h l c t x y = split (member t ts') (λ e. go (l t e)) (λ e. e)
  where
    go : (member t ts ≡ true) ⊎ (t < b) → member t ts' ≡ false
    go (inl e) = never (sym (c t x y) ∙ e)
    go (inr e) = absurd (omega arith)

clear-head : (c o n : ℕ) (ts : List ℕ) → ((o ≤ c) × (c < o + n) → ⊥) → Clear ts o n → Clear (c ∷ ts) o n
clear-head c o n ts h k t x y = split (eqb t c) (λ e. let z = eqb-true t c e in absurd (h (omega arith, omega arith))) (λ e. rw e (k t x y))

module _ (f : ℕ → ℕ) where
  scanned-to : {ts : List ℕ} {o : ℕ} {ws vs ts' : List ℕ} {b : ℕ} (b₁ : ℕ) → b ≤ b₁ → Scanned f ts o ws vs ts' b → Scanned f ts o ws vs ts' b₁
  scanned-to {ts} {b = b} b₁ h s = record { goes = s.goes; more = s.more; less = λ t e. go t (s.less t e) }
    where
      go : (t : ℕ) → (member t ts ≡ true) ⊎ (t < b) → (member t ts ≡ true) ⊎ (t < b₁)
      go t (inl e) = inl e
      go t (inr e) = inr (omega arith)

  scanned-none : (ts : List ℕ) (o : ℕ) → Scanned f ts o [] [] ts 0
  scanned-none ts o = record { goes = λ rest. ap (λ (k : ℕ). scan f ts k instruction rest) (sym (add-zero o)); more = λ t h. h; less = λ t h. inl h }

  scanned-one : (ts : List ℕ) (o w : ℕ) → member o ts ≡ false → length_of w ≡ 1 → Scanned f ts o (w ∷ []) (w ∷ []) ts 0
  unfolding scan is_call expects_after tables_after
  scanned-one ts o w h l = record {
    goes = λ rest. rw (h, l) (ap (λ (k : ℕ). w ∷ scan f ts k instruction rest) (one o));
    more = λ t h. h;
    less = λ t h. inl h;
  }
    where
      one : (o : ℕ) → suc o ≡ o + 1
      one o = omega arith

  -- an instruction and its operand, f of it for a call
  scanned-two : (ts : List ℕ) (o w d : ℕ) → member o ts ≡ false → length_of w ≡ 2 → (eqb w 7 || eqb w 11) ≡ false → Scanned f ts o (w ∷ d ∷ []) (w ∷ (if eqb w 8 then f d else d) ∷ []) ts 0
  unfolding scan is_call expects_after tables_after
  scanned-two ts o w d h l c = record {
    goes = λ rest. rw (h, l, c) (ap (λ (k : ℕ). w ∷ (if eqb w 8 then f d else d) ∷ scan f ts k instruction rest) (two o));
    more = λ t h. h;
    less = λ t h. inl h;
  }
    where
      two : (o : ℕ) → suc (suc o) ≡ o + 2
      two o = omega arith

  -- a choice announces its table
  scanned-choice : (ts : List ℕ) (o w d : ℕ) → member o ts ≡ false → length_of w ≡ 2 → (eqb w 7 || eqb w 11) ≡ true → eqb w 8 ≡ false
      → Scanned f ts o (w ∷ d ∷ []) (w ∷ d ∷ []) ((suc o + d) ∷ ts) (suc o + d + 1)
  unfolding scan is_call expects_after tables_after
  scanned-choice ts o w d h l c n = record {
    goes = λ rest. rw (h, l, c, n) (ap (λ (k : ℕ). w ∷ d ∷ scan f ((suc o + d) ∷ ts) k instruction rest) (two o));
    more = λ t e. later t (eqb t (suc o + d)) e;
    less = λ t e. split (eqb t (suc o + d)) (λ x. let z = eqb-true t (suc o + d) x in inr (omega arith)) (λ x. inl (rw x at e));
  }
    where
      two : (o : ℕ) → suc (suc o) ≡ o + 2
      two o = omega arith

      later : (t : ℕ) (b : Bool) → member t ts ≡ true → (if b then true else member t ts) ≡ true
      later t true e = refl
      later t false e = e

  -- the words of a choice table
  scan-labels : (ts : List ℕ) (n o : ℕ) (ws rest : List ℕ) → length ws ≡ n → scan f ts o (labels_left n) (ws ++ rest) ≡ ws ++ scan f ts (o + length ws) instruction rest
  unfolding scan is_call expects_after tables_after labels_left
  scan-labels ts zero o [] rest e = ap (λ (k : ℕ). scan f ts k instruction rest) (sym (add-zero o))
  scan-labels ts zero o (w ∷ ws) rest e = absurd (omega (arith, e))
  scan-labels ts (suc n) o [] rest e = absurd (omega (arith, e))
  scan-labels ts (suc n) o (w ∷ ws) rest e =
      let z : suc o + length ws ≡ o + suc (length ws) = omega arith in
      ap (λ (l : List ℕ). w ∷ l) (scan-labels ts n (suc o) ws rest (omega (arith, e)) ∙ ap (λ (k : ℕ). ws ++ scan f ts k instruction rest) z)

  scanned-table : (ts : List ℕ) (o n : ℕ) (ws : List ℕ) → member o ts ≡ true → length ws ≡ 2 * n → Scanned f ts o (n ∷ ws) (n ∷ ws) ts 0
  unfolding scan is_call expects_after tables_after
  scanned-table ts o n ws h e = record {
    goes = λ rest.
        let z : suc o + length ws ≡ o + suc (length ws) = omega arith in
        rw h (ap (λ (l : List ℕ). n ∷ l) (scan-labels ts (2 * n) (suc o) ws rest e ∙ ap (λ (k : ℕ). ws ++ scan f ts k instruction rest) z));
    more = λ t h. h;
    less = λ t h. inl h;
  }

  -- one after the other
  then-scanned : {ts : List ℕ} {o : ℕ} {a a' ts₁ b b' ts₂ : List ℕ} {k m : ℕ} → Scanned f ts o a a' ts₁ k → Scanned f ts₁ (o + length a) b b' ts₂ m → k ≤ m → Scanned f ts o (a ++ b) (a' ++ b') ts₂ m
  then-scanned {ts} {o} {a} {a'} {ts₁} {b} {b'} {ts₂} {k} {m} s t h = record {
    goes = λ rest.
        let n = length-append a b in
        let z : o + length a + length b ≡ o + length (a ++ b) = omega (arith, n) in
        ap (scan f ts o instruction) (append_assoc a b rest) ∙ s.goes (b ++ rest) ∙ ap (λ (l : List ℕ). a' ++ l) (t.goes rest ∙ ap (λ (j : ℕ). b' ++ scan f ts₂ j instruction rest) z)
        ∙ sym (append_assoc a' b' (scan f ts₂ (o + length (a ++ b)) instruction rest));
    more = λ x e. t.more x (s.more x e);
    less = λ x e. go x (t.less x e);
  }
    where
      first : (x : ℕ) → (member x ts ≡ true) ⊎ (x < k) → (member x ts ≡ true) ⊎ (x < m)
      first x (inl e) = inl e
      first x (inr e) = inr (omega arith)

      go : (x : ℕ) → (member x ts₁ ≡ true) ⊎ (x < m) → (member x ts ≡ true) ⊎ (x < m)
      go x (inl e) = first x (s.less x e)
      go x (inr e) = inr e

-- The words of a tree, with anything for the locations of the rules

module _ (f st : ℕ → ℕ) (prog : List Rule) where
  abbrev st' : ℕ → ℕ
  st' r = f (st r)

  plain-scanned : (p : Plain) (v c : Bool) (out o : ℕ) (ts : List ℕ) → OkPlain prog p v c → Clear ts o (size_plain p) → Scanned f ts o (plain_words st p out) (plain_words st' p out) ts 0
  unfolding OkPlain size_plain plain_words length_of lengths
  plain-scanned (match t) v c out o ts ok h = scanned-two f ts o 3 t (clear-here ts o 2 (omega arith) h) refl refl
  plain-scanned any v c out o ts ok h = scanned-one f ts o 4 (clear-here ts o 1 (omega arith) h) refl
  plain-scanned (emit t) v c out o ts ok h = scanned-two f ts o 5 t (clear-here ts o 2 (omega arith) h) refl refl
  plain-scanned (error t) v c out o ts ok h = scanned-two f ts o 6 t (clear-here ts o 2 (omega arith) h) refl refl
  plain-scanned exit v c out o ts ok h = scanned-two f ts o 1 (out + 1) (clear-here ts o 2 (omega arith) h) refl refl
  plain-scanned (call r) v c out o ts ok h = scanned-two f ts o 8 (st r) (clear-here ts o 2 (omega arith) h) refl refl
  plain-scanned back v c out o ts ok h = scanned-one f ts o 9 (clear-here ts o 1 (omega arith) h) refl
  plain-scanned (give u) v c out o ts ok h =
      then-scanned f (scanned-two f ts o 10 u (clear-here ts o 3 (omega arith) h) refl refl) (scanned-one f ts (o + 2) 9 (h (o + 2) (omega arith) (omega arith)) refl) (omega arith)
  plain-scanned (update op) v c out o ts ok h = scanned-one f ts o op (clear-here ts o 1 (omega arith) h) (length-operation op ok.0 (omega (arith, ok.1)))
  plain-scanned (update_with op u) v c out o ts ok h =
      then-scanned f (scanned-two f ts o 13 u (clear-here ts o 3 (omega arith) h) refl refl)
      (scanned-one f ts (o + 2) op (h (o + 2) (omega arith) (omega arith)) (length-operation op (omega (arith, ok.0)) (omega (arith, ok.1)))) (omega arith)

  selector-scanned : (s : Selector) (o : ℕ) (ts : List ℕ) → OkSelector prog s → Clear ts o (size_selector s) → Scanned f ts o (selector_words st s) (selector_words st' s) ts 0
  unfolding OkSelector size_selector selector_words length_of lengths
  selector-scanned by_token o ts ok h = scanned-none f ts o
  selector-scanned (by_rule r) o ts ok h = scanned-two f ts o 8 (st r) (clear-here ts o 2 (omega arith) h) refl refl
  selector-scanned (by_operation op) o ts ok h = scanned-one f ts o op (clear-here ts o 1 (omega arith) h) (length-operation op (omega (arith, ok.0)) (omega (arith, ok.1)))
  selector-scanned (by_operation_with op u) o ts ok h =
      then-scanned f (scanned-two f ts o 13 u (clear-here ts o 3 (omega arith) h) refl refl)
      (scanned-one f ts (o + 2) op (h (o + 2) (omega arith) (omega arith)) (length-operation op (omega (arith, ok.0)) ok.1)) (omega arith)

  -- the instruction of a choice
  number-scanned : (s : Selector) (o d : ℕ) (ts : List ℕ) → member o ts ≡ false → Scanned f ts o (choice_number s ∷ d ∷ []) (choice_number s ∷ d ∷ []) ((suc o + d) ∷ ts) (suc o + d + 1)
  unfolding choice_number length_of lengths
  number-scanned by_token o d ts h = scanned-choice f ts o 7 d h refl refl refl
  number-scanned (by_rule r) o d ts h = scanned-choice f ts o 11 d h refl refl refl
  number-scanned (by_operation op) o d ts h = scanned-choice f ts o 11 d h refl refl refl
  number-scanned (by_operation_with op u) o d ts h = scanned-choice f ts o 11 d h refl refl refl

  absent-scanned : (s : Selector) (u d o : ℕ) (ts : List ℕ) → Clear ts o (size_absent s) → Scanned f ts o (absent_words s u d) (absent_words s u d) ts 0
  unfolding size_absent absent_words length_of lengths
  absent-scanned by_token u d o ts h =
      then-scanned f (scanned-two f ts o 3 u (clear-here ts o 4 (omega arith) h) refl refl) (scanned-two f ts (o + 2) 2 d (h (o + 2) (omega arith) (omega arith)) refl refl) (omega arith)
  absent-scanned (by_rule r) u d o ts h = scanned-one f ts o 12 (clear-here ts o 1 (omega arith) h) refl
  absent-scanned (by_operation op) u d o ts h = scanned-one f ts o 12 (clear-here ts o 1 (omega arith) h) refl
  absent-scanned (by_operation_with op w) u d o ts h = scanned-one f ts o 12 (clear-here ts o 1 (omega arith) h) refl

  -- words that are gone through, and the tables announced
  record Through (ts : List ℕ) (o : ℕ) (ws vs : List ℕ) (b : ℕ) : Type 0 where
    tables : List ℕ
    scanned : Scanned f ts o ws vs tables b

  after-clear : {ts : List ℕ} {o : ℕ} {ws vs : List ℕ} {b : ℕ} (t : Through ts o ws vs b) (o₁ n : ℕ) → b ≤ o₁ → Clear ts o₁ n → Clear t.tables o₁ n
  after-clear {ts} {b = b} t o₁ n h c = clear-after ts t.tables o₁ n b h t.scanned.less c

  still : {ts : List ℕ} {o : ℕ} {ws vs : List ℕ} {b : ℕ} (b₁ : ℕ) → b ≤ b₁ → Scanned f ts o ws vs ts b → Through ts o ws vs b₁
  still {ts} b₁ h s = record { tables = ts; scanned = scanned-to f b₁ h s }

  join : {ts : List ℕ} {o o₁ : ℕ} {a a' b b' : List ℕ} {k m : ℕ} (t : Through ts o a a' k) → o + length a ≡ o₁ → Through t.tables o₁ b b' m → k ≤ m → Through ts o (a ++ b) (a' ++ b') m
  join {b = b} {b' = b'} {m = m} t e u h = record {
    tables = u.tables;
    scanned = then-scanned f t.scanned (subst (λ (j : ℕ). Scanned f t.tables j b b' u.tables m) (sym e) u.scanned) h;
  }

  to : {ts : List ℕ} {o : ℕ} {ws vs : List ℕ} {b : ℕ} (b₁ : ℕ) → b ≤ b₁ → Through ts o ws vs b → Through ts o ws vs b₁
  to b₁ h t = record { tables = t.tables; scanned = scanned-to f b₁ h t.scanned }

  -- a jump
  jump_back : (ts : List ℕ) (o d : ℕ) → member o ts ≡ false → Scanned f ts o (2 ∷ d ∷ []) (2 ∷ d ∷ []) ts 0
  unfolding length_of lengths
  jump_back ts o d h = scanned-two f ts o 2 d h refl refl

  forward : (ts : List ℕ) (o d : ℕ) → member o ts ≡ false → Scanned f ts o (1 ∷ d ∷ []) (1 ∷ d ∷ []) ts 0
  unfolding length_of lengths
  forward ts o d h = scanned-two f ts o 1 d h refl refl

  choice-through : (s : Selector) (q : Alts) (ot : Other) (out o : ℕ) (ts : List ℕ) → OkSelector prog s → Clear ts o (size (choice s q ot))
      → ((ts₁ : List ℕ) (o₁ : ℕ) → Clear ts₁ o₁ (size_alts q) → Through ts₁ o₁ (code_alts st q out (1 + 2 * count_labels q + size_other ot (size_absent s)))
      (code_alts st' q out (1 + 2 * count_labels q + size_other ot (size_absent s))) (o₁ + size_alts q))
      → ((ts₁ : List ℕ) (o₁ : ℕ) → Clear ts₁ o₁ (size_other ot (size_absent s)) → Through ts₁ o₁ (code_other st ot out (absent_words s (first_label q) (size_alts q + (1 + 2 * count_labels q + 3))))
      (code_other st' ot out (absent_words s (first_label q) (size_alts q + (1 + 2 * count_labels q + 3)))) (o₁ + size_other ot (size_absent s)))
      → Through ts o (code st (choice s q ot) out) (code st' (choice s q ot) out) (o + size (choice s q ot))
  unfolding code size still
  choice-through s q ot out o ts ok h alts other =
      let e = o + (size_selector s + (2 + size_alts q + (1 + 2 * count_labels q + size_other ot (size_absent s)))) in
      let o₁ = o + size_selector s in
      let a : Through ts o (selector_words st s) (selector_words st' s) o₁ = still o₁ (omega arith) (selector-scanned s o ts ok (clear-part ts o _ o (size_selector s) (omega arith) (omega arith) h)) in
      let c₁ = o₁ + 2 + size_alts q in
      let free : member o₁ ts ≡ false = h o₁ (omega arith) (omega arith) in
      let z : suc o₁ + (size_alts q + 1) ≡ c₁ = omega arith in
      let b : Through ts o₁ (choice_number s ∷ (size_alts q + 1) ∷ []) (choice_number s ∷ (size_alts q + 1) ∷ []) (c₁ + 1) =
      record { tables = c₁ ∷ ts; scanned = rw z at (number-scanned s o₁ (size_alts q + 1) ts free) } in
      let d = alts (c₁ ∷ ts) (o₁ + 2) (clear-head c₁ (o₁ + 2) (size_alts q) ts (λ p. omega (arith, p.0, p.1)) (clear-part ts o _ (o₁ + 2) (size_alts q) (omega arith) (omega arith) h)) in
      let there : member c₁ d.tables ≡ true = d.scanned.more c₁ (rw (eq-eqb c₁ c₁ refl)) in
      let t : Through d.tables c₁ (count_labels q ∷ table_words 1 q) (count_labels q ∷ table_words 1 q) (c₁ + 1) =
      still (c₁ + 1) (omega arith) (scanned-table f d.tables c₁ (count_labels q) (table_words 1 q) there (length-table_words 1 q)) in
      let o₂ = c₁ + (1 + 2 * count_labels q) in
      let k₀ : Clear (c₁ ∷ ts) o₂ (size_other ot (size_absent s)) = clear-head c₁ o₂ (size_other ot (size_absent s)) ts (λ p. omega (arith, p.0)) (clear-part ts o _ o₂ (size_other ot (size_absent s)) (omega arith) (omega arith) h) in
      let k₁ = after-clear d o₂ (size_other ot (size_absent s)) (omega arith) k₀ in
      let u = other t.tables o₂ k₁ in
      let n = length-table_words 1 q in
      let last = join t (omega (arith, n)) (to e (omega arith) u) (omega arith) in
      join a (ap (λ (i : ℕ). o + i) (length-selector st s)) (join b refl (join d (ap (λ (i : ℕ). o₁ + 2 + i) (length-alts st q out (1 + 2 * count_labels q + size_other ot (size_absent s)))) last (omega arith)) (omega arith)) (omega arith)

  mutual
    unfolding Ok code sizes size

    act-through : (a : Act) (v c : Bool) (out o : ℕ) (ts : List ℕ) → Ok prog a v c → Clear ts o (size a) → Through ts o (code st a out) (code st' a out) (o + size a)
    act-through (plain p) v c out o ts ok h = still (o + size_plain p) (omega arith) (plain-scanned p v c out o ts ok h)
    act-through (cycle b) v c out o ts ok h =
        let t = acts-through b v true 2 o ts ok (clear-part ts o (sizes b + 2) o (sizes b) (omega arith) (omega arith) h) in
        let k = after-clear t (o + sizes b) 2 (omega arith) (clear-part ts o (sizes b + 2) (o + sizes b) 2 (omega arith) (omega arith) h) in
        let j : Through t.tables (o + sizes b) (2 ∷ (sizes b + 1) ∷ []) (2 ∷ (sizes b + 1) ∷ []) (o + (sizes b + 2)) =
        still (o + (sizes b + 2)) (omega arith) (jump_back t.tables (o + sizes b) (sizes b + 1) (clear-here t.tables (o + sizes b) 2 (omega arith) k)) in
        join t (ap (λ (i : ℕ). o + i) (length-codes st b 2)) j (omega arith)
    act-through (choice s q ot) v c out o ts ok h =
        choice-through s q ot out o ts ok.0 h (λ ts₁ o₁ k. alts-through q v c out (1 + 2 * count_labels q + size_other ot (size_absent s)) o₁ ts₁ ok.1 k)
        (λ ts₁ o₁ k. other-through ot s v c out (first_label q) (size_alts q + (1 + 2 * count_labels q + 3)) o₁ ts₁ ok.2 k)

    acts-through : (q : Acts) (v c : Bool) (out o : ℕ) (ts : List ℕ) → Oks prog q v c → Clear ts o (sizes q) → Through ts o (codes st q out) (codes st' q out) (o + sizes q)
    acts-through done v c out o ts ok h = still (o + 0) (omega arith) (scanned-none f ts o)
    acts-through (a ▸ q) v c out o ts ok h =
        let t = act-through a v c (sizes q + out) o ts ok.0 (clear-part ts o (size a + sizes q) o (size a) (omega arith) (omega arith) h) in
        let k = after-clear t (o + size a) (sizes q) (omega arith) (clear-part ts o (size a + sizes q) (o + size a) (sizes q) (omega arith) (omega arith) h) in
        let u = acts-through q v c out (o + size a) t.tables ok.1 k in
        join t (ap (λ (i : ℕ). o + i) (length-code st a (sizes q + out))) (to (o + (size a + sizes q)) (omega arith) u) (omega arith)

    alts-through : (q : Alts) (v c : Bool) (out rest o : ℕ) (ts : List ℕ) → OkAlts prog q v c → Clear ts o (size_alts q) → Through ts o (code_alts st q out rest) (code_alts st' q out rest) (o + size_alts q)
    alts-through nil v c out rest o ts ok h = still (o + 0) (omega arith) (scanned-none f ts o)
    alts-through (alternative ls b q) v c out rest o ts ok h =
        let n = 2 + size_alts q + (rest + out) in
        let t = acts-through b v c n o ts ok.1 (clear-part ts o (sizes b + (2 + size_alts q)) o (sizes b) (omega arith) (omega arith) h) in
        let o₁ = o + sizes b in
        let k = after-clear t o₁ (2 + size_alts q) (omega arith) (clear-part ts o (sizes b + (2 + size_alts q)) o₁ (2 + size_alts q) (omega arith) (omega arith) h) in
        let j : Through t.tables o₁ (1 ∷ (1 + size_alts q + rest) ∷ []) (1 ∷ (1 + size_alts q + rest) ∷ []) (o₁ + 2) =
        still (o₁ + 2) (omega arith) (forward t.tables o₁ (1 + size_alts q + rest) (clear-here t.tables o₁ (2 + size_alts q) (omega arith) k)) in
        let m = after-clear j (o₁ + 2) (size_alts q) (omega arith) (clear-part t.tables o₁ (2 + size_alts q) (o₁ + 2) (size_alts q) (omega arith) (omega arith) k) in
        let u = alts-through q v c out rest (o₁ + 2) j.tables ok.2 m in
        join t (ap (λ (i : ℕ). o + i) (length-codes st b n)) (join j refl (to (o + (sizes b + (2 + size_alts q))) (omega arith) u) (omega arith)) (omega arith)

    other-through : (ot : Other) (s : Selector) (v c : Bool) (out u d o : ℕ) (ts : List ℕ) → OkOther prog ot v c → Clear ts o (size_other ot (size_absent s))
        → Through ts o (code_other st ot out (absent_words s u d)) (code_other st' ot out (absent_words s u d)) (o + size_other ot (size_absent s))
    other-through absent s v c out u d o ts ok h = still (o + size_absent s) (omega arith) (absent-scanned s u d o ts h)
    other-through (otherwise b) s v c out u d o ts ok h = acts-through b v c out o ts ok h

-- A rule

scan-end : (f : ℕ → ℕ) (v : Bool) (ts : List ℕ) (o : ℕ) → member o ts ≡ false → scan f ts o instruction (end_words v) ≡ end_words v
unfolding scan is_call expects_after tables_after end_words
scan-end f true ts o e = refl
scan-end f false ts o e = refl

pub scanned-rule : (f : ℕ → ℕ) (prog : List Rule) → Accepted prog → (r : ℕ) → r < length prog → scan f [] 0 instruction (own_words prog r) ≡ marked_words (λ i. f (place 1 prog i)) (rule_of prog r)
unfolding marked_words body_of
scanned-rule f prog ok r h =
    let b = (rule_of prog r).body in
    let t = acts-through f (place 1 prog) prog b (rule_of prog r).valued false 0 0 [] (ok.in_order r h) (λ t x y. refl) in
    let e = t.scanned.goes (end_words (rule_of prog r).valued) in
    e ∙ ap (λ (l : List ℕ). codes (λ i. f (place 1 prog i)) b 0 ++ l) (last (rule_of prog r).valued t.tables (0 + length (codes (place 1 prog) b 0)) (clear t.tables t.scanned.less))
  where
    clear : (ts : List ℕ) → ((x : ℕ) → member x ts ≡ true → (member x [] ≡ true) ⊎ (x < 0 + sizes (rule_of prog r).body)) → member (0 + length (codes (place 1 prog) (rule_of prog r).body 0)) ts ≡ false
    clear ts l = split (member (0 + length (codes (place 1 prog) (rule_of prog r).body 0)) ts) (λ e. absurd (none (l _ e))) (λ e. e)
      where
        none : (member (0 + length (codes (place 1 prog) (rule_of prog r).body 0)) [] ≡ true) ⊎ (0 + length (codes (place 1 prog) (rule_of prog r).body 0) < 0 + sizes (rule_of prog r).body) → ⊥
        none (inl e) = never e
        none (inr e) = omega (arith, length-codes (place 1 prog) (rule_of prog r).body 0)

    last : (v : Bool) (ts : List ℕ) (o : ℕ) → member o ts ≡ false → scan f ts o instruction (end_words v) ≡ end_words v
    last v ts o e = scan-end f v ts o e
