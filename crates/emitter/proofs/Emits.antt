-- Emission over the cells: what stands where, and how the words grow. Assumes nothing.
use Prim.Native.Nat.{ℕ, ◌+◌, ◌-◌, ◌<◌, ◌≤◌, min}
use mathlib.Core.Path.{◌≡◌, refl, sym, ap, ◌∙◌, subst}
use mathlib.Core.Bool.{Bool, true, false, cond}
use mathlib.Core.List.{List, [], ◌∷◌, ◌++◌, append_assoc, append-nil}
use native.Mathlib.Omega.{arith}
use lib.ListN.{length, get_or, set, length-set, length-append}
use lib.Seq.{get_or-set_same, get_or-set_other}
use lib.Dec.{eqb, ltb}
use borrow.Author.Tests.{eq-eqb, ne_eqb, lt-ltb, le-ltb, ltb-true, ltb-false, eqb-true, eqb-false}
use Rattle.base.specs.Tree.{plain, cycle, done, ◌▸◌}
use Rattle.program.specs.Program.{Plain, exit, Selector, Act, Acts}
use Rattle.program.specs.Table.{sizes, plain_words}
use Rattle.program.proofs.Lengths.{length-plain}
use Rattle.chains.specs.Marks.{Target, outside, end, head, table, rule, Mark, known, waiting, knowns, close, plain_marks, marks, marks_all}
use Rattle.chains.specs.Chain.{Chain, places, patched, newest, Waiting, Fixed, fixed_call, Grown, placed}
use Rattle.chains.proofs.Lists.{length-knowns, length-filled, at_in}
use Rattle.chains.proofs.Grows.{chain-low, grown-none, grown-join, grown-known, grown-open, grown-placed, grown-close}
use Rattle.chains.proofs.Solves.{length-marks_all, length-plain_marks}
use Rattle.emitter.specs.Words.{puts, cut}
use Rattle.emitter.specs.Stands.{IsSel, sel_token, sel_rule, sel_op, sel_op_with, IsPlain, is_match, is_any, is_emit, is_error, is_exit, is_called, is_back, is_give, is_update, is_update_with, Is, is_plain, is_cycle, is_a_choice, IsAll, is_done, is_cons}
use Rattle.emitter.specs.Heads.{chooses, plain_of, firsts, words_in, start_of, plain_at, called, called_at, anchor}
use Rattle.emitter.specs.Work.{ItemDone, PatchDone, Emitted, Done, ListDone, ActDone, CycleDone}
use Rattle.emitter.specs.declared.Item.{Item}
use Rattle.emitter.proofs.Laws.{cut_small, few}
use Rattle.emitter.proofs.Leave.{plain_in, all_in}
use Rattle.emitter.proofs.Rows.{row-append}

-- a choice by its first cell
pub sel-tag : {cs : List ℕ} {n p e : ℕ} {s : Selector} → IsSel cs n p e s → 6 < get_or cs p 0
sel-tag (sel_token h l t) = omega arith
sel-tag (sel_rule h l t v r) = omega arith
sel-tag (sel_op h l t f u) = omega arith
sel-tag (sel_op_with h l t v f u) = omega arith

chooses-op : (k : ℕ) → 768 ≤ k → chooses k ≡ 1
unfolding chooses
chooses-op k h = simp (ne_eqb k 7 (λ z. omega arith), ne_eqb k 11 (λ z. omega arith), le-ltb k 768 h)

pub sel-chooses : {cs : List ℕ} {n p e : ℕ} {s : Selector} → IsSel cs n p e s → chooses (get_or cs p 0) ≡ 1
unfolding chooses
sel-chooses (sel_token h l t) = ap chooses t
sel-chooses (sel_rule h l t v r) = ap chooses t
sel-chooses (sel_op {op = op} h l t f u) = ap chooses t ∙ chooses-op op f
sel-chooses (sel_op_with {op = op} h l t v f u) = ap chooses t ∙ chooses-op op (omega arith)

-- the first cell tells an action from an end
plain-tag : {cs : List ℕ} {n p e : ℕ} {a : Plain} → IsPlain cs n p e a → (0 < get_or cs p 0) × (get_or cs p 0 ≡ 2 → ⊥)
plain-tag (is_match h l t v) = (omega arith, λ z. omega arith)
plain-tag (is_any h l t) = (omega arith, λ z. omega arith)
plain-tag (is_emit h l t v) = (omega arith, λ z. omega arith)
plain-tag (is_error h l t v) = (omega arith, λ z. omega arith)
plain-tag (is_exit h l t) = (omega arith, λ z. omega arith)
plain-tag (is_called h l t v r) = (omega arith, λ z. omega arith)
plain-tag (is_back h l t) = (omega arith, λ z. omega arith)
plain-tag (is_give h l t v) = (omega arith, λ z. omega arith)
plain-tag (is_update h l t f u) = (omega arith, λ z. omega arith)
plain-tag (is_update_with h l t v f u) = (omega arith, λ z. omega arith)

pub tag_of : {cs : List ℕ} {n p e : ℕ} {a : Act} → Is cs n p e a → 0 < get_or cs p 0
tag_of (is_plain a) = (plain-tag a).0
tag_of (is_cycle h t b) = omega arith
tag_of (is_a_choice s q o w) = let t = sel-tag s in omega arith

pub record Cons (cs : List ℕ) (n p e : ℕ) (q : Acts) : Type 0 where
  pub a : Act
  pub r : Acts
  pub mid : ℕ
  pub act : Is cs n p mid a
  pub acts : IsAll cs n mid e r
  pub eq : q ≡ a ▸ r

pub cons_of : {cs : List ℕ} {n p e : ℕ} {q : Acts} → IsAll cs n p e q → (get_or cs p 0 ≡ 0 → ⊥) → Cons cs n p e q
cons_of (is_done h l t) f = absurd (f t)
cons_of (is_cons {m = m} {a = a} {q = q} i r) f = record { a = a; r = q; mid = m; act = i; acts = r; eq = refl }

pub done-of : {cs : List ℕ} {n p e : ℕ} {q : Acts} → IsAll cs n p e q → get_or cs p 0 ≡ 0 → (q ≡ done) × (e ≡ p + 1)
done-of (is_done h l t) z = (refl, h)
done-of (is_cons i r) z = let t = tag_of i in absurd (omega arith)

plain-exit : {cs : List ℕ} {n p e : ℕ} {a : Plain} → IsPlain cs n p e a → get_or cs p 0 ≡ 1 → (a ≡ exit) × (e ≡ p + 1)
plain-exit (is_match h l t v) z = absurd (omega arith)
plain-exit (is_any h l t) z = absurd (omega arith)
plain-exit (is_emit h l t v) z = absurd (omega arith)
plain-exit (is_error h l t v) z = absurd (omega arith)
plain-exit (is_exit h l t) z = (refl, h)
plain-exit (is_called h l t v r) z = absurd (omega arith)
plain-exit (is_back h l t) z = absurd (omega arith)
plain-exit (is_give h l t v) z = absurd (omega arith)
plain-exit (is_update h l t f u) z = absurd (omega arith)
plain-exit (is_update_with h l t v f u) z = absurd (omega arith)

pub exit-of : {cs : List ℕ} {n p e : ℕ} {a : Act} → Is cs n p e a → get_or cs p 0 ≡ 1 → (a ≡ plain exit) × (e ≡ p + 1)
exit-of (is_plain a) z = let x = plain-exit a z in (ap (λ (p : Plain). plain p) x.0, x.1)
exit-of (is_cycle h t q) z = absurd (omega arith)
exit-of (is_a_choice s q o w) z = let t = sel-tag s in absurd (omega arith)

pub record Body (cs : List ℕ) (n p e : ℕ) (a : Act) : Type 0 where
  pub b : Acts
  pub acts : IsAll cs n (p + 1) e b
  pub eq : a ≡ cycle b

pub cycle-of : {cs : List ℕ} {n p e : ℕ} {a : Act} → Is cs n p e a → get_or cs p 0 ≡ 2 → Body cs n p e a
cycle-of (is_plain a) z = absurd ((plain-tag a).1 z)
cycle-of (is_cycle {b = b} h t q) z = record { b = b; acts = q; eq = refl }
cycle-of (is_a_choice s q o w) z = let t = sel-tag s in absurd (omega arith)

-- a plain action's words and cells are those that its cells tell
pub record Plainly (w : Item) (p e : ℕ) (ws : List ℕ) : Type 0 where
  pub words : words_in w ≡ ws
  pub cells : e ≡ p + w.cells

module _ (starts : List ℕ) where
  plain-is : (cs : List ℕ) (p e : ℕ) (k v c : ℕ) (ws : List ℕ) → get_or cs p 0 ≡ k → get_or cs (p + 1) 0 ≡ v
      → words_in (plain_of k v (start_of starts v)) ≡ ws → (plain_of k v (start_of starts v)).cells ≡ c → e ≡ p + c → Plainly (plain_at cs starts p) p e ws
  unfolding plain_at
  plain-is cs p e k v c ws t u x y z =
      let w : plain_at cs starts p ≡ plain_of k v (start_of starts v) = cc in
      record { words = ap words_in w ∙ x; cells = z ∙ ap (λ (i : ℕ). p + i) (sym (ap (λ (i : Item). i.cells) w ∙ y)) }

  pub plain-words : {cs : List ℕ} {n p e : ℕ} {a : Plain} → IsPlain cs n p e a → (get_or cs p 0 ≡ 1 → ⊥) → (m : ℕ) → Plainly (plain_at cs starts p) p e (plain_words (start_of starts) a m)
  unfolding plain_of firsts plain_words
  plain-words {cs} {p = p} {e = e} (is_match h l t v) f m = plain-is cs p e 3 _ 2 _ t v refl refl h
  plain-words {cs} {p = p} {e = e} (is_any h l t) f m = plain-is cs p e 4 (get_or cs (p + 1) 0) 1 _ t refl refl refl h
  plain-words {cs} {p = p} {e = e} (is_emit h l t v) f m = plain-is cs p e 5 _ 2 _ t v refl refl h
  plain-words {cs} {p = p} {e = e} (is_error h l t v) f m = plain-is cs p e 6 _ 2 _ t v refl refl h
  plain-words {cs} {p = p} {e = e} (is_exit h l t) f m = absurd (f t)
  plain-words {cs} {p = p} {e = e} (is_called h l t v r) f m = plain-is cs p e 8 _ 2 _ t v refl refl h
  plain-words {cs} {p = p} {e = e} (is_back h l t) f m = plain-is cs p e 9 (get_or cs (p + 1) 0) 1 _ t refl refl refl h
  plain-words {cs} {p = p} {e = e} (is_give h l t v) f m = plain-is cs p e 10 _ 2 _ t v refl refl h
  plain-words {cs} {p = p} {e = e} (is_update {op = op} h l t a b) f m = plain-is cs p e op (get_or cs (p + 1) 0) 1 _ t refl (simp (le-ltb op 256 a, lt-ltb op 512 b)) (simp (le-ltb op 256 a, lt-ltb op 512 b)) h
  plain-words {cs} {p = p} {e = e} (is_update_with {op = op} h l t v a b) f m = let i : 256 ≤ op = omega arith in plain-is cs p e op _ 2 _ t v (simp (le-ltb op 256 i, le-ltb op 512 a)) (simp (le-ltb op 256 i, le-ltb op 512 a)) h

-- one part behind another
pub emitted-join : {ms ns : List Mark} {old mid new : List ℕ} {at at₁ x y z : ℕ} {slots more last : List ℕ} → Emitted ms old mid at x y slots more → Emitted ns mid new at₁ y z more last → at₁ ≡ at + length ms → Emitted (ms ++ ns) old new at x z slots last
emitted-join {ms} {ns} g h e = record {
  grow = λ base ws o l f s. (
      let k = length-append ms ns in
      let a = g.grow base ws o l (omega arith) (omega arith) in
      let b = h.grow base a.now a.wrote (omega (arith, a.grown.long)) (omega arith) (omega arith) in
      record { now = b.now; wrote = b.wrote; grown = grown-join a.grown b.grown });
}

pub done-join : {ms ns : List Mark} {m e : ℕ} {old mid new : List ℕ} {at x p₁ at₁ x₁ p₂ at₂ x₂ : ℕ} {slots more last : List ℕ} → Done ms m old mid at x slots more p₁ at₁ x₁ → Done ns e mid new at₁ x₁ more last p₂ at₂ x₂ → Done (ms ++ ns) e old new at x slots last p₂ at₂ x₂
done-join {ms} {ns} g h = record { next = h.next; after = omega (arith, g.after, h.after, length-append ms ns); emitted = emitted-join g.emitted h.emitted g.after }

-- words that are known
pub emitted-known : (vs : List ℕ) {old new : List ℕ} {at x : ℕ} {slots : List ℕ} → (at + length vs < 65536 → new ≡ puts old at vs) → Emitted (knowns vs) old new at x x slots slots
emitted-known vs {at = at} {x = x} {slots = slots} w = record {
  grow = λ base ws o l f s. (
      let k = length-knowns vs in
      record { now = ws ++ vs; wrote = w (omega arith) ∙ (ap (λ (t : List ℕ). puts t at vs) o ∙ row-append base ws vs at l); grown = grown-known ws vs x slots });
}

pub emitted-none : {old : List ℕ} {at x : ℕ} {slots : List ℕ} → Emitted [] old old at x x slots slots
emitted-none {x = x} {slots = slots} = record { grow = λ base ws o l f s. record { now = ws; wrote = o; grown = grown-none ws x slots } }

-- what a list from p, begun at `at`, has come to at q
pub record Rest (cs : List ℕ) (n e : ℕ) (a : Acts) (old : List ℕ) (at x : ℕ) (slots : List ℕ) (q l y : ℕ) (out more : List ℕ) : Type 0 where
  pub rest : Acts
  pub so_far : List Mark
  pub stands : IsAll cs n q e rest
  pub split : so_far ++ marks_all rest ≡ marks_all a
  pub after : l ≡ at + length so_far
  pub emitted : Emitted so_far old out at x y slots more

abbrev pub Goes : List ℕ → ℕ → List ℕ → ℕ → ℕ → List ℕ → ℕ → ℕ → ℕ → List ℕ → List ℕ → Type 0
Goes cs p old at x slots q l y out more = (n : ℕ) (a : Acts) (e : ℕ) → n ≤ length slots → IsAll cs n p e a → Rest cs n e a old at x slots q l y out more

pub goes_none : (cs : List ℕ) (p : ℕ) (old : List ℕ) (at x : ℕ) (slots : List ℕ) → Goes cs p old at x slots p at x old slots
goes_none cs p old at x slots n a e s h = record { rest = a; so_far = []; stands = h; split = refl; after = omega arith; emitted = emitted-none }

-- one action further
pub goes-more : (cs : List ℕ) (p : ℕ) (old : List ℕ) (at x : ℕ) (slots : List ℕ) (q l y q' l' y' : ℕ) (out new more last : List ℕ) → (get_or cs q 0 ≡ 0 → ⊥) → length more ≡ length slots → ActDone cs q out new l y more last q' l' y'
    → Goes cs p old at x slots q l y out more → Goes cs p old at x slots q' l' y' new last
unfolding ActDone marks_all
goes-more cs p old at x slots q l y q' l' y' out new more last f k d g n a e s h =
    let r = g n a e s h in
    let v = cons_of r.stands f in
    let w = d n v.a v.mid (omega arith) v.act in
    record {
      rest = v.r;
      so_far = r.so_far ++ marks v.a;
      stands = subst (λ (i : ℕ). IsAll cs n i e v.r) (sym w.next) v.acts;
      split = append_assoc r.so_far (marks v.a) (marks_all v.r) ∙ (ap (λ (i : Acts). r.so_far ++ marks_all i) (sym v.eq) ∙ r.split);
      after = omega (arith, w.after, r.after, length-append r.so_far (marks v.a));
      emitted = emitted-join r.emitted w.emitted r.after;
    }

pub goes_end : (cs : List ℕ) (p : ℕ) (old : List ℕ) (at x : ℕ) (slots : List ℕ) (q l y p' : ℕ) (out more : List ℕ) → get_or cs q 0 ≡ 0 → p' ≡ min (q + 1) (length cs) → Goes cs p old at x slots q l y out more → ListDone cs p old out at x slots more p' l y
unfolding ListDone marks_all
goes_end cs p old at x slots q l y p' out more z i g n a e s h =
    let r = g n a e s h in
    let v = done-of r.stands z in
    let j = all_in r.stands in
    let w : r.so_far ≡ marks_all a = sym (append-nil r.so_far) ∙ (ap (λ (k : Acts). r.so_far ++ marks_all k) (sym v.0) ∙ r.split) in
    record { next = omega (arith, v.1); after = r.after ∙ ap (λ (k : List Mark). at + length k) w; emitted = subst (λ (k : List Mark). Emitted k old out at x y slots more) w r.emitted }

-- an exit
apart : (t : Target) (x y : ℕ) (slots : List ℕ) → (t ≡ outside → ⊥) → newest y slots t ≡ newest x slots t
unfolding newest
apart outside x y slots h = absurd (h refl)
apart end x y slots h = refl
apart head x y slots h = refl
apart table x y slots h = refl
apart (rule r) x y slots h = refl

emitted-exit : {old new : List ℕ} {at x : ℕ} {slots : List ℕ} → new ≡ puts old at (1 ∷ cut x ∷ []) → Emitted (known 1 ∷ waiting outside ∷ []) old new at x (at + 1) slots slots
unfolding newest Waiting
emitted-exit {at = at} {x = x} {slots = slots} w = record {
  grow = λ base ws o l f s. record {
    now = ws ++ (1 ∷ cut x ∷ []);
    wrote = w ∙ (ap (λ (t : List ℕ). puts t at (1 ∷ cut x ∷ [])) o ∙ row-append base ws (1 ∷ cut x ∷ []) at l);
    grown = grown-open ws 1 (cut x) x (at + 1) slots slots outside tt (λ ps c. cut_small x (omega (arith, chain-low ws x ps c))) (ap (λ (k : ℕ). k + 1) (sym l)) (λ t h. apart t x (at + 1) slots h) (λ r h. refl) (λ r h. h) refl;
  };
}

pub exit-done : (cs : List ℕ) (p : ℕ) (old new : List ℕ) (at x : ℕ) (slots : List ℕ) → get_or cs p 0 ≡ 1 → new ≡ puts old at (1 ∷ cut x ∷ []) → ActDone cs p old new at x slots slots (p + 1) (at + 2) (at + 1)
unfolding ActDone marks plain_marks
exit-done cs p old new at x slots t w n a e s h =
    let v = exit-of h t in
    subst (λ (i : Act). Done (marks i) e old new at x slots slots (p + 1) (at + 2) (at + 1)) (sym v.0) (record { next = sym v.1; after = refl; emitted = emitted-exit w })

-- a cycle
pub cycle-done : (cs : List ℕ) (p : ℕ) (old new : List ℕ) (at x : ℕ) (slots more : List ℕ) (p' at' x' : ℕ) → get_or cs p 0 ≡ 2 → CycleDone cs p old new at x slots more p' at' x' → ActDone cs p old new at x slots more p' at' x'
unfolding ActDone CycleDone
cycle-done cs p old new at x slots more p' at' x' t d n a e s h =
    let v = cycle-of h t in
    subst (λ (i : Act). Done (marks i) e old new at x slots more p' at' x') (sym v.eq) (d n v.b e s v.acts)

-- where the target of the exits is known
pub emitted-close : {ms : List Mark} {old mid new : List ℕ} {at y to : ℕ} {slots more : List ℕ} (x : ℕ) → Emitted ms old mid at 0 y slots more → to ≡ at + length ms → PatchDone mid new y to 1 → Emitted (close outside ms) old new at x x slots more
unfolding PatchDone Waiting newest Chain anchor
emitted-close {ms} {at = at} {y = y} {to = to} x g t d = record {
  grow = λ base ws o l f s. (
      let k = length-filled outside (λ k. k + 1) ms in
      let a = g.grow base ws o l (omega arith) (omega arith) in
      let c = a.grown.chains outside [] tt refl in
      let n = a.grown.long in
      let c' = subst (λ (i : List ℕ). Chain a.now y i) (append-nil (places outside (length ws) ms)) c in
      record {
        now = patched a.now (λ j. to - j) (places outside (length ws) ms);
        wrote = d base a.now (places outside (length ws) ms) a.wrote (omega arith) (omega arith) c';
        grown = grown-close a.grown x (λ j. to - j) (λ k. k + 1) (λ i h. omega (arith, at_in h));
      });
}

pub cycle-join : (cs : List ℕ) (p : ℕ) (old mid row new : List ℕ) (at x : ℕ) (slots more : List ℕ) (q l y : ℕ) → ListDone cs (p + 1) old mid at 0 slots more q l y → row ≡ puts mid l (2 ∷ cut (l + 1 - at) ∷ []) → PatchDone row new y (l + 2) 1 → CycleDone cs p old new at x slots more q (l + 2) x
unfolding ListDone CycleDone marks knowns
cycle-join cs p old mid row new at x slots more q l y d u w n b e s h =
    let v = d n b e s h in
    let m = length-marks_all b in
    let k = length-append (marks_all b) (known 2 ∷ known (sizes b + 1) ∷ []) in
    let W : l + 2 < 65536 → row ≡ puts mid l (2 ∷ (sizes b + 1) ∷ []) = λ z. u ∙ ap (λ (i : ℕ). puts mid l (2 ∷ i ∷ [])) (cut_small (l + 1 - at) (omega (arith, v.after)) ∙ omega (arith, v.after)) in
    let E = emitted-join v.emitted (emitted-known (2 ∷ (sizes b + 1) ∷ []) W) v.after in
    record { next = v.next; after = omega (arith, v.after, length-filled outside (λ k. k + 1) (marks_all b ++ (known 2 ∷ known (sizes b + 1) ∷ []))); emitted = emitted-close x E (omega (arith, v.after)) w }

-- a call, by whether its rule is placed
call-newest : (slots : List ℕ) (r m x : ℕ) (t : Target) → (t ≡ rule r → ⊥) → newest x (set slots r m) t ≡ newest x slots t
unfolding newest
call-newest slots r m x outside h = refl
call-newest slots r m x end h = refl
call-newest slots r m x head h = refl
call-newest slots r m x table h = refl
call-newest slots r m x (rule s) h = get_or-set_other slots r s m 0 (λ e. h (ap rule e))

set-still : (slots : List ℕ) (r m s : ℕ) (b : Bool) → eqb s r ≡ b → r < length slots → m < placed → get_or slots s 0 < placed → get_or (set slots r m) s 0 < placed
set-still slots r m s true e l h k = let q : s ≡ r = eqb-true s r e in let z : get_or (set slots r m) s 0 ≡ m = ap (λ (i : ℕ). get_or (set slots r m) i 0) q ∙ get_or-set_same slots r m 0 l in omega arith
set-still slots r m s false e l h k = let z = get_or-set_other slots r s m 0 (eqb-false s r e) in omega arith

location : (n w : ℕ) → n ≡ placed + w → w < placed → cut n ≡ w
unfolding cut
location n w e h = omega arith

call-location : {slots : List ℕ} {r w : ℕ} → Fixed slots (waiting (rule r)) w → cut (get_or slots r 0) ≡ w
call-location {slots} {r} {w} (fixed_call e h) = location (get_or slots r 0) w e h

call-extends : (base ws : List ℕ) (at x : ℕ) (slots : List ℕ) (r : ℕ) (b : Bool) → ltb (get_or slots r 0) placed ≡ b → r < length slots → length ws ≡ at → at + 2 < 65536
    → Grown (known 8 ∷ waiting (rule r) ∷ []) ws (ws ++ (8 ∷ cut (get_or slots r 0) ∷ [])) x x slots (cond b (set slots r (at + 1)) slots)
unfolding newest Waiting
call-extends base ws at x slots r true e h l s =
    let o = ltb-true (get_or slots r 0) placed e in
    grown-open ws 8 (cut (get_or slots r 0)) x x slots (set slots r (at + 1)) (rule r) (h, o) (λ ps c. cut_small (get_or slots r 0) o) (get_or-set_same slots r (at + 1) 0 h ∙ ap (λ (k : ℕ). k + 1) (sym l)) (call-newest slots r (at + 1) x)
    (λ i k. get_or-set_other slots r i (at + 1) 0 (λ q. (let z : get_or slots i 0 ≡ get_or slots r 0 = ap (λ (j : ℕ). get_or slots j 0) q in omega arith))) (λ i k. set-still slots r (at + 1) i (eqb i r) refl h (omega arith) k) (length-set slots r (at + 1))
call-extends base ws at x slots r false e h l s = grown-placed ws 8 (cut (get_or slots r 0)) x slots r (ltb-false (get_or slots r 0) placed e) (λ w f. call-location f)

pub emitted-call : {old new : List ℕ} {at x : ℕ} {slots more : List ℕ} (r : ℕ) → r < length slots → new ≡ puts old at (8 ∷ start_of slots r ∷ []) → more ≡ called slots r (at + 1) → Emitted (known 8 ∷ waiting (rule r) ∷ []) old new at x x slots more
unfolding start_of called
emitted-call {old} {new} {at} {x} {slots} {more} r h w m = record {
  grow = λ base ws o l f s. record {
    now = ws ++ (8 ∷ cut (get_or slots r 0) ∷ []);
    wrote = w ∙ (ap (λ (t : List ℕ). puts t at (8 ∷ cut (get_or slots r 0) ∷ [])) o ∙ row-append base ws (8 ∷ cut (get_or slots r 0) ∷ []) at l);
    grown = subst (λ (i : List ℕ). Grown (known 8 ∷ waiting (rule r) ∷ []) ws (ws ++ (8 ∷ cut (get_or slots r 0) ∷ [])) x x slots i) (sym m) (call-extends base ws at x slots r (ltb (get_or slots r 0) placed) refl h l s);
  };
}

-- the slots after an item
pub not-called : (cs : List ℕ) (p k : ℕ) (slots : List ℕ) (m : ℕ) → (get_or cs p 0 ≡ k → ⊥) → called_at cs p k slots m ≡ slots
unfolding called_at
not-called cs p k slots m h = ap (λ (b : Bool). cond b (called slots (get_or cs (p + 1) 0) m) slots) (ne_eqb (get_or cs p 0) k h)

pub is-called : (cs : List ℕ) (p k : ℕ) (slots : List ℕ) (m r : ℕ) → get_or cs p 0 ≡ k → get_or cs (p + 1) 0 ≡ r → called_at cs p k slots m ≡ called slots r m
unfolding called_at
is-called cs p k slots m r h e = ap (λ (b : Bool). cond b (called slots (get_or cs (p + 1) 0) m) slots) (eq-eqb (get_or cs p 0) k h) ∙ ap (λ (i : ℕ). called slots i m) e

module _ (cs : List ℕ) (n p e : ℕ) (old new : List ℕ) (at x : ℕ) (slots more : List ℕ) (most : n ≤ length slots) (m : more ≡ called_at cs p 8 slots (at + 1)) where
  shut-item : (vs : List ℕ) (ms : List Mark) → knowns vs ≡ ms → new ≡ puts old at vs → (get_or cs p 0 ≡ 8 → ⊥) → Emitted ms old new at x x slots more
  shut-item vs ms k w h =
      subst (λ (i : List ℕ). Emitted ms old new at x x slots i) (sym (m ∙ not-called cs p 8 slots (at + 1) h)) (subst (λ (i : List Mark). Emitted i old new at x x slots slots) k (emitted-known vs (λ z. w)))

  plain-emits : {a : Plain} → IsPlain cs n p e a → (get_or cs p 0 ≡ 1 → ⊥) → new ≡ puts old at (plain_words (start_of slots) a 0) → Emitted (plain_marks a) old new at x x slots more
  unfolding plain_words plain_marks knowns
  plain-emits (is_match {t = v} h l t u) f w = shut-item (3 ∷ v ∷ []) _ refl w (λ z. omega arith)
  plain-emits (is_any h l t) f w = shut-item (4 ∷ []) _ refl w (λ z. omega arith)
  plain-emits (is_emit {t = v} h l t u) f w = shut-item (5 ∷ v ∷ []) _ refl w (λ z. omega arith)
  plain-emits (is_error {t = v} h l t u) f w = shut-item (6 ∷ v ∷ []) _ refl w (λ z. omega arith)
  plain-emits (is_exit h l t) f w = absurd (f t)
  plain-emits (is_called {r = r} h l t u b) f w = emitted-call r (omega arith) w (m ∙ is-called cs p 8 slots (at + 1) r t u)
  plain-emits (is_back h l t) f w = shut-item (9 ∷ []) _ refl w (λ z. omega arith)
  plain-emits (is_give {v = v} h l t u) f w = shut-item (10 ∷ v ∷ 9 ∷ []) _ refl w (λ z. omega arith)
  plain-emits (is_update {op = op} h l t a b) f w = shut-item (op ∷ []) _ refl w (λ z. omega arith)
  plain-emits (is_update_with {op = op} {v = v} h l t u a b) f w = shut-item (13 ∷ v ∷ op ∷ []) _ refl w (λ z. omega arith)

-- a plain action
module _ (cs : List ℕ) (n p e : ℕ) (old new : List ℕ) (at x : ℕ) (slots more : List ℕ) (p' at' : ℕ) (most : n ≤ length slots) (m : more ≡ called_at cs p 8 slots (at + 1)) (d : ItemDone cs (plain_at cs slots p) p at old new p' at') where
  plain-is-done : {a : Act} → Is cs n p e a → (get_or cs p 0 ≡ 1 → ⊥) → (get_or cs p 0 ≡ 2 → ⊥) → (chooses (get_or cs p 0) ≡ 1 → ⊥) → Done (marks a) e old new at x slots more p' at' x
  unfolding marks plain_at
  plain-is-done (is_plain {a = a} i) f g k =
      let v = plain-words slots i f 0 in
      let j = plain_in i in
      let u = few (get_or cs p 0) (get_or cs (p + 1) 0) (start_of slots (get_or cs (p + 1) 0)) in
      record {
        next = d.next (omega (arith, v.cells)) ∙ sym v.cells;
        after = d.after ∙ ap (λ (k : ℕ). at + k) (sym u.count ∙ (ap length v.words ∙ (length-plain (start_of slots) a 0 ∙ sym (length-plain_marks a))));
        emitted = plain-emits cs n p e old new at x slots more most m i f (d.wrote ∙ ap (λ (t : List ℕ). puts old at t) v.words);
      }
  plain-is-done (is_cycle h t b) f g k = absurd (g t)
  plain-is-done (is_a_choice s q o w) f g k = absurd (k (sel-chooses s))

pub plain_done : (cs : List ℕ) (p : ℕ) (old new : List ℕ) (at x : ℕ) (slots more : List ℕ) (p' at' x' : ℕ) → (get_or cs p 0 ≡ 1 → ⊥) → (get_or cs p 0 ≡ 2 → ⊥) → (chooses (get_or cs p 0) ≡ 1 → ⊥) → ItemDone cs (plain_at cs slots p) p at old new p' at'
    → more ≡ called_at cs p 8 slots (at + 1) → x' ≡ x → ActDone cs p old new at x slots more p' at' x'
unfolding ActDone
plain_done cs p old new at x slots more p' at' x' f g k d m y n a e s h = subst (λ (i : ℕ). Done (marks a) e old new at x slots more p' at' i) (sym y) (plain-is-done cs n p e old new at x slots more p' at' s m d h f g k)
