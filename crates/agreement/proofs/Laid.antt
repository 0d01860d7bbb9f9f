-- The words of an accepted program, standing at the start of a table, are laid out as `Lay` says.
use Prim.Native.Nat.{ℕ, zero, suc, ◌+◌, ◌-◌, ◌*◌, ◌≤◌, ◌<◌}
use native.Mathlib.Omega.{arith}
use native.Mathlib.Nat.{add-zero}
use native.Mathlib.Numerals.{add-one}
use mathlib.Core.Path.{◌≡◌, refl, sym, ap, ◌∙◌, subst}
use mathlib.Core.Logic.{inl, inr}
use mathlib.Core.Bool.{Bool, true, false}
use mathlib.Core.Option.{Option, none, some}
use mathlib.Core.List.{List, [], ◌∷◌, ◌++◌, append-nil}
use lib.Dec.{eqb}
use lib.ListN.{length, replicate}
use borrow.Author.Tests.{le-leb, lt-leb, lt-ltb, le-ltb, ne_eqb}
use Rattle.base.specs.Bools.{never, or}
use Rattle.std.specs.Prelude.{if◌then◌else◌}
use Rattle.base.specs.Tree.{plain, cycle, choice, done, ◌▸◌, nil, alternative, absent, otherwise}
use Rattle.events.specs.Events.{is}
use Rattle.machine.specs.Decode.{fetch, jump, input_choice, return, choice as by_result, update as updates, update_with as updates_with, choose, choose_with, decode_operation, decode_two, decode_one, decode_word, decode_at, decode}
use Rattle.machine.specs.Lengths.{lengths, length_of}
use Rattle.machine.specs.Step.{seek}
use Rattle.program.proofs.Lengths.{length-labels, length-table_words, length-selector, length-code, length-codes, length-alts}
use Rattle.program.specs.Accepted.{Labelled, NeedsLabel, OkPlain, OkSelector, Ok, Oks, OkAlts, OkOther, Accepted}
use Rattle.program.specs.Past.{is_exit, exits, exits_all, exits_some, exits_other, past_all}
use Rattle.program.specs.Program.{Plain, match, any, emit, error, exit, call, back, give, update, update_with, Selector, by_token, by_rule, by_operation, by_operation_with, Act, Acts, Alts, Other, Rule, rule_of, body_of}
use Rattle.program.specs.Table.{size_plain, size_selector, size_absent, count_labels, size, sizes, size_alts, size_other, label_words, table_words, first_of, first_label, absent_words, choice_number, selector_words, plain_words, code, codes, code_alts, code_other, end_words, size_rule, rules_words, place, table}
use Rattle.agreement.proofs.Lay.{Entry, lookup, entries, Leads, leads-none, leads, Entries, entries-nil, entries-cons, Table, LayPlain, lay-match, lay-any, lay-emit, lay-error, lay-exit, lay-call, lay-back, lay-give, lay-update, lay-update_with, Lay, lay-plain, lay-cycle, lay-token, lay-rule, lay-operation, lay-operation_with, Lays, lays-done, lays_cons, LayChoice, lay-choice, LayAlts, alts-nil, alts-cons, LayOther, other-input, other-end, other-is, At, at_place, End, end-rule}

-- Words in a table

-- the words stand in T from l on
pub data Seg (T : List ℕ) : ℕ → List ℕ → Type 0 where
  seg-nil : {l : ℕ} → Seg T l []
  seg-cons : {l w : ℕ} {ws : List ℕ} → fetch T l ≡ some w → Seg T (suc l) ws → Seg T l (w ∷ ws)

pub seg-weaken : {T : List ℕ} {l : ℕ} {ws : List ℕ} (v : ℕ) → Seg T (suc l) ws → Seg (v ∷ T) (suc (suc l)) ws
unfolding fetch
seg-weaken v seg-nil = seg-nil
seg-weaken v (seg-cons f h) = seg-cons f (seg-weaken v h)

pub seg-self : (ws : List ℕ) → Seg ws 1 ws
unfolding fetch
seg-self [] = seg-nil
seg-self (w ∷ ws) = seg-cons refl (seg-weaken w (seg-self ws))

-- zeros before them
seg-behind : (n : ℕ) (ws : List ℕ) → Seg (replicate n 0 ++ ws) (suc n) ws
seg-behind zero ws = seg-self ws
seg-behind (suc n) ws = seg-weaken 0 (seg-behind n ws)

pub seg-at : {T : List ℕ} {l l' : ℕ} {ws : List ℕ} → Seg T l ws → l ≡ l' → Seg T l' ws
seg-at {T} {ws = ws} h p = subst (λ (i : ℕ). Seg T i ws) p h

pub seg-left : {T : List ℕ} {l : ℕ} (a b : List ℕ) → Seg T l (a ++ b) → Seg T l a
seg-left [] b h = seg-nil
seg-left (w ∷ a) b (seg-cons f h) = seg-cons f (seg-left a b h)

pub seg-right : {T : List ℕ} {l : ℕ} (a b : List ℕ) → Seg T l (a ++ b) → Seg T (l + length a) b
seg-right [] b h = rw add-zero h
seg-right (w ∷ a) b (seg-cons f h) = seg-at (seg-right a b h) (omega arith)

pub seg-after : {T : List ℕ} {l : ℕ} (k : ℕ) (a b : List ℕ) → length a ≡ k → Seg T l (a ++ b) → Seg T (l + k) b
seg-after k a b e s = seg-at (seg-right a b s) (omega arith)

pub fetch-le : (T : List ℕ) (l w : ℕ) → fetch T l ≡ some w → l ≤ length T
unfolding fetch
fetch-le T zero w h = omega arith
fetch-le [] (suc i) w h = let z : ◌≡◌ {A = ℕ} 0 1 = cc in absurd (omega arith)
fetch-le (v ∷ T) (suc zero) w h = omega arith
fetch-le (v ∷ T) (suc (suc i)) w h = omega (arith, fetch-le T (suc i) w h)

-- the last of some words is in the table
pub seg-le : {T : List ℕ} {l : ℕ} (w : ℕ) (ws : List ℕ) → Seg T l (w ∷ ws) → l + length ws ≤ length T
seg-le {T} {l} w [] (seg-cons f h) = omega (arith, fetch-le T l w f)
seg-le {T} {l} w (v ∷ ws) (seg-cons f h) = omega (arith, seg-le v ws h)

-- Choice tables

-- the entries of alternatives that begin at l
unfoldable pub pairs : ℕ → Alts → List Entry
pairs l nil = []
pairs l (alternative ls b q) = entries ls l (pairs (l + sizes b + 2) q)

pub entries-length : (ls : List ℕ) (l : ℕ) (ps : List Entry) → length (entries ls l ps) ≡ length ls + length ps
unfolding entries
entries-length [] l ps = omega arith
entries-length (v ∷ ls) l ps = omega (arith, entries-length ls l ps)

pub pairs-length : (l : ℕ) (q : Alts) → length (pairs l q) ≡ count_labels q
unfolding pairs count_labels
pairs-length l nil = refl
pairs-length l (alternative ls b q) =
    entries-length ls l (pairs (l + sizes b + 2) q) ∙ ap (λ (i : ℕ). length ls + i) (pairs-length (l + sizes b + 2) q)

module _ (T tokens : List ℕ) (u : ℕ) where
  if-leads : (t : Bool) {a a' y y' : Option ℕ} → Leads T a y → Leads T a' y' → Leads T (if t then a else a') (if t then y else y')
  if-leads true h h' = h
  if-leads false h h' = h'

  -- entries from word p of the choice table at c, for an alternative at l
  entries-find : (ls : List ℕ) (ps : List Entry) (c d p l : ℕ) → l + d ≡ c → Seg T (c + p) (label_words d p ls)
      → Leads T (seek T tokens u (length ps) (c + p + 2 * length ls)) (lookup u ps)
      → Leads T (seek T tokens u (length (entries ls l ps)) (c + p)) (lookup u (entries ls l ps))
  unfolding label_words entries lookup seek is
  entries-find [] ps c d p l e s h = rw (add-zero (c + p)) at h
  entries-find (v ∷ ls) ps c d p l e (seg-cons f (seg-cons g s)) h =
      let ih = entries-find ls ps c d (p + 2) l e (seg-at s (omega arith)) (rw (next c p (length ls)) h) in
      rw (f, add-one (c + p), ← three c p) (if-leads (eqb u v) (leads g (back_to c p d l e)) ih)
    where
      next : (c p n : ℕ) → c + (p + 2) + 2 * n ≡ c + p + 2 * suc n
      next c p n = omega arith

      back_to : (c p d l : ℕ) → l + d ≡ c → suc (c + p) - (d + (p + 1)) ≡ l
      back_to c p d l e = omega arith

      three : (c p : ℕ) → c + (p + 2) ≡ c + p + 2
      three c p = omega arith

  pairs-find : (q : Alts) (c p l : ℕ) → l + size_alts q ≡ c → Seg T (c + p) (table_words p q)
      → Leads T (seek T tokens u (length (pairs l q)) (c + p)) (lookup u (pairs l q))
  unfolding table_words pairs size_alts seek lookup
  pairs-find nil c p l e s = leads-none
  pairs-find (alternative ls b q) c p l e s =
      let d = sizes b + (2 + size_alts q) in
      let a = label_words d p ls in
      let t = table_words (p + 2 * length ls) q in
      entries-find ls (pairs (l + sizes b + 2) q) c d p l e (seg-left a t s)
      (rw (near c p (length ls)) (pairs-find q c (p + 2 * length ls) (l + sizes b + 2) (omega arith)
      (seg-at (seg-right a t s) (omega (arith, length-labels d p ls)))))
    where
      near : (c p n : ℕ) → c + p + 2 * n ≡ c + (p + 2 * n)
      near c p n = omega arith

-- the same, one entry after the other
module _ (T : List ℕ) where
  entries_at : {l l' : ℕ} {ps : List Entry} → Entries T l ps → l ≡ l' → Entries T l' ps
  entries_at {ps = ps} h p = subst (λ (i : ℕ). Entries T i ps) p h

  entries-all : (ls : List ℕ) (ps : List Entry) (c d p l : ℕ) → l + d ≡ c → Seg T (c + p) (label_words d p ls)
      → Entries T (c + p + 2 * length ls) ps → Entries T (c + p) (entries ls l ps)
  unfolding label_words entries
  entries-all [] ps c d p l e s h = entries_at h (omega arith)
  entries-all (v ∷ ls) ps c d p l e (seg-cons f (seg-cons g s)) h =
      let g₁ : fetch T (c + p + 1) ≡ some (d + (p + 1)) = rw (add-one (c + p)) g in
      entries-cons {y = l} f g₁ (omega arith)
      (entries_at (entries-all ls ps c d (p + 2) l e (seg-at s (omega arith)) (entries_at h (omega arith))) (omega arith))

  pairs-all : (q : Alts) (c p l : ℕ) → l + size_alts q ≡ c → Seg T (c + p) (table_words p q) → Entries T (c + p) (pairs l q)
  unfolding table_words pairs size_alts
  pairs-all nil c p l e s = entries-nil
  pairs-all (alternative ls b q) c p l e s =
      let d = sizes b + (2 + size_alts q) in
      let a = label_words d p ls in
      let t = table_words (p + 2 * length ls) q in
      entries-all ls (pairs (l + sizes b + 2) q) c d p l e (seg-left a t s)
      (entries_at (pairs-all q c (p + 2 * length ls) (l + sizes b + 2) (omega arith)
      (seg-at (seg-right a t s) (omega (arith, length-labels d p ls)))) (omega arith))

pub laid_table : (T : List ℕ) (q : Alts) (l : ℕ) (ws : List ℕ) → Seg T (l + size_alts q) (count_labels q ∷ (table_words 1 q ++ ws))
    → Table T (l + size_alts q) (pairs l q)
laid_table T q l ws (seg-cons f s) =
    let left = seg-left (table_words 1 q) ws s in
    let last = seg-le (count_labels q) (table_words 1 q) (seg-cons f left) in
    record {
      count = rw (pairs-length l q) f;
      fits = le-leb (l + size_alts q + 2 * length (pairs l q)) (length T) (omega (arith, last, length-table_words 1 q, pairs-length l q));
      all = pairs-all T q (l + size_alts q) 1 l refl (seg-at left (omega arith));
      finds = λ tokens u. pairs-find T tokens u q (l + size_alts q) 1 l refl (seg-at left (omega arith));
    }

-- Instructions

-- an instruction of one word, whatever follows it
one_word : (l w : ℕ) (x : Option ℕ) → length_of w ≡ 1 → decode_word l w x ≡ decode_one w
unfolding decode_word
one_word l w none h = rw h
one_word l w (some x) h = rw h

-- an operation's number
pub length-operation : (w : ℕ) → 256 ≤ w → w < 1280 → length_of w ≡ 1
unfolding length_of
length-operation w a b = rw (le-leb 1 w (omega arith), lt-leb w 13 (omega arith), le-leb 256 w a, le-leb w 1279 (omega arith))

decode-operation : (w : ℕ) → 256 ≤ w → decode_one w ≡ decode_operation w
unfolding decode_one
decode-operation w a = rw (ne_eqb w 4 (λ e. omega arith), ne_eqb w 9 (λ e. omega arith), ne_eqb w 12 (λ e. omega arith))

pub is_update : (w : ℕ) → w < 512 → decode_operation w ≡ updates w
unfolding decode_operation
is_update w b = rw (lt-ltb w 512 b)

pub is_update_with : (w : ℕ) → 512 ≤ w → w < 768 → decode_operation w ≡ updates_with w
unfolding decode_operation
is_update_with w a b = rw (le-ltb w 512 a, lt-ltb w 768 b)

pub is-choose : (w : ℕ) → 768 ≤ w → w < 1024 → decode_operation w ≡ choose w
unfolding decode_operation
is-choose w a b = rw (le-ltb w 512 (omega arith), le-ltb w 768 a, lt-ltb w 1024 b)

pub is-choose_with : (w : ℕ) → 1024 ≤ w → decode_operation w ≡ choose_with w
unfolding decode_operation
is-choose_with w a = rw (le-ltb w 512 (omega arith), le-ltb w 768 (omega arith), le-ltb w 1024 a)

module _ {T : List ℕ} where
  pub seg_two : {l w d : ℕ} {ws : List ℕ} → Seg T l (w ∷ d ∷ ws) → decode T l ≡ decode_word l w (some d)
  unfolding decode decode_at
  seg_two (seg-cons f (seg-cons g s)) = rw (f, g)

  pub seg-one : {l w : ℕ} {ws : List ℕ} → length_of w ≡ 1 → Seg T l (w ∷ ws) → decode T l ≡ decode_one w
  unfolding decode decode_at
  seg-one {l} {w} h (seg-cons f s) = rw (f, one_word l w (fetch T (suc l)) h)

  pub seg-operation : {l w : ℕ} {ws : List ℕ} → 256 ≤ w → w < 1280 → Seg T l (w ∷ ws) → decode T l ≡ decode_operation w
  seg-operation {w = w} a b s = seg-one (length-operation w a b) s ∙ decode-operation w a

  pub seg-return : {l : ℕ} {ws : List ℕ} → Seg T l (9 ∷ ws) → decode T l ≡ return
  unfolding length_of lengths decode_one
  seg-return s = seg-one refl s

  pub seg-jump : {l d : ℕ} {ws : List ℕ} (y : ℕ) → l + 1 + d ≡ y → Seg T l (1 ∷ d ∷ ws) → decode T l ≡ jump y
  unfolding length_of lengths decode_word decode_two
  seg-jump y e s = seg_two s ∙ ap jump e

  pub seg-jump_back : {l d : ℕ} {ws : List ℕ} (y : ℕ) → y + d ≡ l + 1 → Seg T l (2 ∷ d ∷ ws) → decode T l ≡ jump y
  unfolding length_of lengths decode_word decode_two
  seg-jump_back {l} {d} y e s =
      let z : l + 1 - d ≡ y = omega arith in
      seg_two s ∙ ap jump z

-- Outside every cycle there is no exit

module _ (prog : List Rule) where
  no-exit-plain : (p : Plain) (v : Bool) → OkPlain prog p v false → is_exit p ≡ true → ⊥
  unfolding OkPlain is_exit
  no-exit-plain (match t) v ok e = never e
  no-exit-plain any v ok e = never e
  no-exit-plain (emit t) v ok e = never e
  no-exit-plain (error t) v ok e = never e
  no-exit-plain exit v ok e = never ok
  no-exit-plain (call r) v ok e = never e
  no-exit-plain back v ok e = never e
  no-exit-plain (give u) v ok e = never e
  no-exit-plain (update op) v ok e = never e
  no-exit-plain (update_with op u) v ok e = never e

  mutual
    unfolding Ok exits

    no-exit : (a : Act) (v : Bool) → Ok prog a v false → exits a ≡ true → ⊥
    no-exit (plain p) v ok e = no-exit-plain p v ok e
    no-exit (cycle b) v ok e = never e
    no-exit (choice s q o) v ok e =
        elim (or (exits_some q) (exits_other o) e) [ inl h ↦ no-exit-alts q v ok.1 h | inr h ↦ no-exit-other o v ok.2 h ]

    pub no-exits : (q : Acts) (v : Bool) → Oks prog q v false → exits_all q ≡ true → ⊥
    no-exits done v ok e = never e
    no-exits (a ▸ q) v ok e = elim (or (exits a) (exits_all q) e) [ inl h ↦ no-exit a v ok.0 h | inr h ↦ no-exits q v ok.1 h ]

    no-exit-alts : (q : Alts) (v : Bool) → OkAlts prog q v false → exits_some q ≡ true → ⊥
    no-exit-alts nil v ok e = never e
    no-exit-alts (alternative ls b q) v ok e =
        elim (or (exits_all b) (exits_some q) e) [ inl h ↦ no-exits b v ok.1 h | inr h ↦ no-exit-alts q v ok.2 h ]

    no-exit-other : (o : Other) (v : Bool) → OkOther prog o v false → exits_other o ≡ true → ⊥
    no-exit-other absent v ok e = never e
    no-exit-other (otherwise b) v ok e = no-exits b v ok e

-- Trees

module _ (T : List ℕ) (start : ℕ → ℕ) (prog : List Rule) where
  plain_end : {v : Bool} {a : Plain} {x l e e' : ℕ} → LayPlain T start prog v a x l e → e ≡ e' → LayPlain T start prog v a x l e'
  plain_end {v} {a} {x} {l} h p = subst (λ (i : ℕ). LayPlain T start prog v a x l i) p h

  lay-end : {v : Bool} {a : Act} {x l e e' : ℕ} → Lay T start prog v a x l e → e ≡ e' → Lay T start prog v a x l e'
  lay-end {v} {a} {x} {l} h p = subst (λ (i : ℕ). Lay T start prog v a x l i) p h

  lays-end : {v : Bool} {q : Acts} {x l e e' : ℕ} → Lays T start prog v q x l e → e ≡ e' → Lays T start prog v q x l e'
  lays-end {v} {q} {x} {l} h p = subst (λ (i : ℕ). Lays T start prog v q x l i) p h

  pub other_at : {v i : Bool} {o : Other} {x l l' e e' : ℕ} {ps : List Entry} → LayOther T start prog v i o x ps l e → l ≡ l' → e ≡ e'
      → LayOther T start prog v i o x ps l' e'
  other_at {v} {i} {o} {x} {l} {l'} {e} {ps = ps} h p q =
      subst (λ (z : ℕ). LayOther T start prog v i o x ps l' z) q (subst (λ (z : ℕ). LayOther T start prog v i o x ps z e) p h)

  laid-plain : (p : Plain) (v c : Bool) (out x l : ℕ) → OkPlain prog p v c → (c ≡ true → x ≡ l + size_plain p + out)
      → Seg T l (plain_words start p out) → LayPlain T start prog v p x l (l + size_plain p)
  unfolding OkPlain size_plain plain_words length_of lengths decode_word decode_two decode_one
  laid-plain (match t) v c out x l ok hx s = lay-match (seg_two s)
  laid-plain any v c out x l ok hx s = lay-any (seg-one refl s)
  laid-plain (emit t) v c out x l ok hx s = lay-emit (seg_two s)
  laid-plain (error t) v c out x l ok hx s = lay-error (seg_two s)
  laid-plain exit v c out x l ok hx s = lay-exit (seg-jump x (omega (arith, hx ok)) s)
  laid-plain (call r) v c out x l ok hx s = lay-call (seg_two s) ok
  laid-plain back v c out x l ok hx s = lay-back ok (seg-return s)
  laid-plain (give u) v c out x l ok hx s = lay-give ok.0 (seg_two s) (seg-return (seg-after 2 (10 ∷ u ∷ []) (9 ∷ []) refl s))
  laid-plain (update op) v c out x l ok hx s =
      let d : decode T l ≡ updates op = seg-operation ok.0 (omega (arith, ok.1)) s ∙ is_update op ok.1 in
      lay-update d
  laid-plain (update_with op u) v c out x l ok hx s =
      let s₂ = seg-after 2 (13 ∷ u ∷ []) (op ∷ []) refl s in
      let d : decode T (l + 2) ≡ updates_with op =
      seg-operation (omega (arith, ok.0)) (omega (arith, ok.1)) s₂ ∙ is_update_with op ok.0 ok.1
      in
      plain_end (lay-update_with (seg_two s) d) (omega arith)

  -- what stands where there is no otherwise
  laid-input : (v : Bool) (q : Alts) (x d l l' e : ℕ) → l + 3 ≡ l' + d → Labelled q → Seg T l (3 ∷ first_label q ∷ 2 ∷ d ∷ [])
      → LayOther T start prog v true absent x (pairs l' q) l e
  unfolding Labelled pairs entries first_label first_of length_of lengths decode_word decode_two
  laid-input v nil x d l l' e z ok s = absurd ok
  laid-input v (alternative [] b q) x d l l' e z ok s = absurd ok
  laid-input v (alternative (u ∷ ls) b q) x d l l' e z ok s =
      other-input (seg_two s) (seg-jump_back l' (omega arith) (seg-after 2 (3 ∷ u ∷ []) (2 ∷ d ∷ []) refl s))

  laid_end : (v : Bool) (x l e : ℕ) (ps : List Entry) → Seg T l (12 ∷ []) → LayOther T start prog v false absent x ps l e
  unfolding length_of lengths decode_one
  laid_end v x l e ps s = other-end (seg-one refl s)

  unfoldable pub is_token : Selector → Bool
  is_token by_token = true
  is_token (by_rule r) = false
  is_token (by_operation op) = false
  is_token (by_operation_with op u) = false

  laid-absent : (s : Selector) (v : Bool) (q : Alts) (x d l l' e : ℕ) → l + 3 ≡ l' + d → NeedsLabel s absent q → Seg T l (absent_words s (first_label q) d)
      → LayOther T start prog v (is_token s) absent x (pairs l' q) l e
  unfolding NeedsLabel absent_words is_token
  laid-absent by_token v q x d l l' e z ok t = laid-input v q x d l l' e z ok t
  laid-absent (by_rule r) v q x d l l' e z ok t = laid_end v x l e (pairs l' q) t
  laid-absent (by_operation op) v q x d l l' e z ok t = laid_end v x l e (pairs l' q) t
  laid-absent (by_operation_with op u) v q x d l l' e z ok t = laid_end v x l e (pairs l' q) t

  -- the parts of a choice that stand at its instruction, at l
  pub data Parts (v i : Bool) (q : Alts) (o : Other) (x l e : ℕ) : Type 0 where
    parts : {c : ℕ} {ps : List Entry} → c ≡ l + 2 + size_alts q → Table T c ps → LayAlts T start prog v q x e (l + 2) ps
        → LayOther T start prog v i o x ps (c + 1 + 2 * length ps) e → Parts v i q o x l e

  pub parts_at : {v i : Bool} {q : Alts} {o : Other} {x l l' e : ℕ} → Parts v i q o x l e → l ≡ l' → Parts v i q o x l' e
  parts_at {v} {i} {q} {o} {x} {e = e} h p = subst (λ (z : ℕ). Parts v i q o x z e) p h

  pub laid-token : {v : Bool} {q : Alts} {o : Other} {x l e : ℕ} {ws : List ℕ} → NeedsLabel by_token o q → Seg T l (7 ∷ (size_alts q + 1) ∷ ws) → Parts v true q o x l e
      → Lay T start prog v (choice by_token q o) x l e
  unfolding length_of lengths decode_word decode_two
  laid-token {q = q} {l = l} nl t (parts {c = c} z tb a b) =
      let d : decode T l ≡ input_choice c = seg_two t ∙ ap input_choice (omega arith) in
      lay-token nl d tb a b

  pub laid-result : {v : Bool} {q : Alts} {o : Other} {x l e : ℕ} {ws : List ℕ} → Seg T l (11 ∷ (size_alts q + 1) ∷ ws) → Parts v false q o x l e
      → LayChoice T start prog v q o x l e
  unfolding length_of lengths decode_word decode_two
  laid-result {q = q} {l = l} t (parts {c = c} z tb a b) =
      let d : decode T l ≡ by_result c = seg_two t ∙ ap by_result (omega arith) in
      lay-choice d tb a b

  -- behind its selector
  pub laid-choice : (s : Selector) (v : Bool) (q : Alts) (o : Other) (x l e : ℕ) (ws : List ℕ) → OkSelector prog s → NeedsLabel s o q
      → Seg T l (selector_words start s ++ (choice_number s ∷ (size_alts q + 1) ∷ ws)) → Parts v (is_token s) q o x (l + size_selector s) e
      → Lay T start prog v (choice s q o) x l e
  unfolding selector_words choice_number is_token OkSelector size_selector length_of lengths decode_word decode_two
  laid-choice by_token v q o x l e ws ok nl t p = laid-token nl t (parts_at p (omega arith))
  laid-choice (by_rule r) v q o x l e ws ok nl t p =
      lay-rule (seg_two t) ok (laid-result (seg-after 2 (8 ∷ start r ∷ []) (11 ∷ (size_alts q + 1) ∷ ws) refl t) p)
  laid-choice (by_operation op) v q o x l e ws ok nl t p =
      let d : decode T l ≡ choose op = seg-operation (omega (arith, ok.0)) (omega (arith, ok.1)) t ∙ is-choose op ok.0 ok.1 in
      lay-operation d (laid-result (seg-after 1 (op ∷ []) (11 ∷ (size_alts q + 1) ∷ ws) refl t) p)
  laid-choice (by_operation_with op u) v q o x l e ws ok nl t p =
      let t₂ = seg-after 2 (13 ∷ u ∷ []) (op ∷ 11 ∷ (size_alts q + 1) ∷ ws) refl t in
      let d : decode T (l + 2) ≡ choose_with op = seg-operation (omega (arith, ok.0)) ok.1 t₂ ∙ is-choose_with op ok.0 in
      lay-operation_with (seg_two t) d (laid-result (seg-after 1 (op ∷ []) (11 ∷ (size_alts q + 1) ∷ ws) refl t₂) (parts_at p (omega arith)))

  mutual
    unfolding size code Ok NeedsLabel pairs

    pub laid : (a : Act) (v c : Bool) (out x l : ℕ) → Ok prog a v c → (c ≡ true → x ≡ l + size a + out) → Seg T l (code start a out)
        → Lay T start prog v a x l (l + size a)
    laid (plain p) v c out x l ok hx s = lay-plain (laid-plain p v c out x l ok hx s)
    laid (cycle b) v c out x l ok hx s =
        lay-end
        (lay-cycle (laids b v true 2 (l + sizes b + 2) l ok (λ e. refl) (seg-left (codes start b 2) (2 ∷ (sizes b + 1) ∷ []) s))
        (seg-jump_back l (omega arith) (seg-after (sizes b) (codes start b 2) (2 ∷ (sizes b + 1) ∷ []) (length-codes start b 2) s)))
        (omega arith)
    laid (choice sl q o) v c out x l ok hx s =
        let z = 1 + 2 * count_labels q + size_other o (size_absent sl) in
        let d = size_alts q + (1 + 2 * count_labels q + 3) in
        let l₁ = l + size_selector sl in
        let as₁ = code_alts start q out z in
        let os = code_other start o out (absent_words sl (first_label q) d) in
        let ts = count_labels q ∷ (table_words 1 q ++ os) in
        let ws = choice_number sl ∷ (size_alts q + 1) ∷ (as₁ ++ ts) in
        let s₁ = seg-after (size_selector sl) (selector_words start sl) ws (length-selector start sl) s in
        let s₂ = seg-after 2 (choice_number sl ∷ (size_alts q + 1) ∷ []) (as₁ ++ ts) refl s₁ in
        let s₃ = seg-after (size_alts q) as₁ ts (length-alts start q out z) s₂ in
        let s₄ = seg-after (1 + 2 * count_labels q) (count_labels q ∷ table_words 1 q) os (omega (arith, length-table_words 1 q)) s₃ in
        laid-choice sl v q o x l (l + size (choice sl q o)) (as₁ ++ ts) ok.0 ok.3 s
        (parts {c = l₁ + 2 + size_alts q} {ps = pairs (l₁ + 2) q} refl (laid_table T q (l₁ + 2) os s₃)
        (laid-alts q v c out z x (l + size (choice sl q o)) (l₁ + 2) ok.1 hx (omega arith) (seg-left as₁ ts s₂))
        (other_at
        (laid-other o sl v c q out d x (l₁ + 2 + size_alts q + (1 + 2 * count_labels q)) (l₁ + 2) (omega arith) ok.2 ok.3 (λ e. omega (arith, hx e)) s₄)
        (omega (arith, pairs-length (l₁ + 2) q)) (omega arith)))

    pub laids : (q : Acts) (v c : Bool) (out x l : ℕ) → Oks prog q v c → (c ≡ true → x ≡ l + sizes q + out) → Seg T l (codes start q out)
        → Lays T start prog v q x l (l + sizes q)
    laids done v c out x l ok hx s = lays-end lays-done (omega arith)
    laids (a ▸ q) v c out x l ok hx s =
        let w = code start a (sizes q + out) in
        lays-end
        (lays_cons (laid a v c (sizes q + out) x l ok.0 (λ e. omega (arith, hx e)) (seg-left w (codes start q out) s))
        (laids q v c out x (l + size a) ok.1 (λ e. omega (arith, hx e))
        (seg-after (size a) w (codes start q out) (length-code start a (sizes q + out)) s)))
        (omega arith)

    pub laid-alts : (q : Alts) (v c : Bool) (out z x y l : ℕ) → OkAlts prog q v c → (c ≡ true → x ≡ y + out) → l + size_alts q + z ≡ y
        → Seg T l (code_alts start q out z) → LayAlts T start prog v q x y l (pairs l q)
    laid-alts nil v c out z x y l ok hx e s = alts-nil
    laid-alts (alternative ls b q) v c out z x y l ok hx e s =
        let w = codes start b (2 + size_alts q + (z + out)) in
        let ws : List ℕ = 1 ∷ (1 + size_alts q + z) ∷ code_alts start q out z in
        let s₂ = seg-after (sizes b) w ws (length-codes start b (2 + size_alts q + (z + out))) s in
        alts-cons (laids b v c (2 + size_alts q + (z + out)) x l ok.1 (λ t. omega (arith, hx t)) (seg-left w ws s)) (seg-jump y (omega arith) s₂)
        (laid-alts q v c out z x y (l + sizes b + 2) ok.2 hx (omega arith)
        (seg-after 2 (1 ∷ (1 + size_alts q + z) ∷ []) (code_alts start q out z) refl s₂))

    pub laid-other : (o : Other) (sl : Selector) (v c : Bool) (q : Alts) (out d x l l' : ℕ) → l + 3 ≡ l' + d → OkOther prog o v c → NeedsLabel sl o q
        → (c ≡ true → x ≡ l + size_other o (size_absent sl) + out) → Seg T l (code_other start o out (absent_words sl (first_label q) d))
        → LayOther T start prog v (is_token sl) o x (pairs l' q) l (l + size_other o (size_absent sl))
    laid-other absent sl v c q out d x l l' z ok nl hx s = laid-absent sl v q x d l l' (l + size_absent sl) z nl s
    laid-other (otherwise b) sl v c q out d x l l' z ok nl hx s = other-is (laids b v c out x l ok hx s)

  -- Rules

  rule_end : (v : Bool) (q : Acts) (l : ℕ) → (v ≡ true → past_all q ≡ false) → Seg T l (end_words v) → past_all q ≡ true → End T start prog v [] l
  unfolding end_words
  rule_end true q l h s g = never (sym (h refl) ∙ g)
  rule_end false q l h s g = end-rule refl (seg-return s)

  -- a rule that stands at l
  rule-laid : (b : Rule) (l : ℕ) (ws : List ℕ) → Oks prog b.body b.valued false → (b.valued ≡ true → past_all b.body ≡ false)
      → Seg T l (codes start b.body 0 ++ (end_words b.valued ++ ws)) → At T start prog b.valued b.body [] l
  rule-laid b l ws ok en s =
      let w = codes start b.body 0 in
      let t = end_words b.valued in
      let s₂ = seg-after (sizes b.body) w (t ++ ws) (length-codes start b.body 0) s in
      at_place {x = 0} (laids b.body b.valued false 0 0 l ok (λ e. never e) (seg-left w (t ++ ws) s))
      (rule_end b.valued b.body (l + sizes b.body) en (seg-left t ws s₂))
      (λ x. absurd (no-exits prog b.body b.valued ok x))

  -- every rule of a list that stands at l
  rules-laid : (bs : List Rule) (l : ℕ) → ((i : ℕ) → i < length bs → Oks prog (body_of bs i) (rule_of bs i).valued false)
      → ((i : ℕ) → i < length bs → (rule_of bs i).valued ≡ true → past_all (body_of bs i) ≡ false) → Seg T l (rules_words start bs)
      → (i : ℕ) → i < length bs → At T start prog (rule_of bs i).valued (body_of bs i) [] (place l bs i)
  unfolding rules_words place size_rule rule_of body_of
  rules-laid [] l ok en s i h = absurd (omega arith)
  rules-laid (b ∷ bs) l ok en s zero h = rule-laid b l (rules_words start bs) (ok 0 h) (en 0 h) s
  rules-laid (b ∷ bs) l ok en s (suc i) h =
      let w = codes start b.body 0 in
      let t = end_words b.valued in
      let s₂ = seg-after (sizes b.body) w (t ++ rules_words start bs) (length-codes start b.body 0) s in
      rules-laid bs (l + (sizes b.body + length t)) (λ j k. ok (suc j) (omega arith)) (λ j k. en (suc j) (omega arith))
      (seg-at (seg-after (length t) t (rules_words start bs) refl s₂) (omega arith)) i (omega arith)

-- each rule of the program stands at its place, with anything behind the table
pub program-laid : (prog : List Rule) (more : List ℕ) → Accepted prog → (i : ℕ) → i < length prog
    → At (table prog ++ more) (place 1 prog) prog (rule_of prog i).valued (body_of prog i) [] (place 1 prog i)
unfolding table
program-laid prog more a =
    rules-laid (table prog ++ more) (place 1 prog) prog prog 1 a.in_order a.no_end (seg-left (table prog) more (seg-self (table prog ++ more)))

-- the words of rule r
abbrev pub own_words : List Rule → ℕ → List ℕ
own_words prog r = codes (place 1 prog) (body_of prog r) 0 ++ end_words (rule_of prog r).valued

-- a rule stands so too where its own words are all that there is
pub rule-alone : (prog : List Rule) → Accepted prog → (r n : ℕ) → r < length prog
    → At (replicate n 0 ++ own_words prog r) (place 1 prog) prog (rule_of prog r).valued (body_of prog r) [] (suc n)
unfolding body_of
rule-alone prog a r n h =
    let b = rule_of prog r in
    rule-laid (replicate n 0 ++ own_words prog r) (place 1 prog) prog b (suc n) [] (a.in_order r h) (a.no_end r h)
    (rw (append-nil (end_words b.valued)) (seg-behind n (own_words prog r)))
