-- What a visit is, by the instruction that is there.
use mathlib.Core.Bool.{Bool, true, false, ◌&&◌, not}
use mathlib.Core.List.{List, [], ◌∷◌, ◌++◌}
use mathlib.Core.Logic.{◌⊎◌, inl, inr}
use mathlib.Core.Option.{Option, none, some}
use mathlib.Core.Path.{◌≡◌, refl, sym, ap, ◌∙◌}
use Prim.Native.Nat.{ℕ, zero, suc, ◌+◌, ◌*◌, ◌-◌, ◌<◌, ◌≤◌}
use native.Mathlib.Omega.{arith}
use native.Mathlib.Numerals.{add-one}
use lib.Dec.{eqb, leb}
use lib.ListN.{length, get_or, set, replicate, length-replicate, get_or-replicate}
use lib.Seq.{ext_get_or, get_or-set_same, get_or-set_other}
use native.Mathlib.Decide.{dec_lt}
use borrow.Author.Tests.{eqb-true, eqb-false, leb-true, le-leb, lt-leb}
use Rattle.base.specs.Bools.{never, split}
use Rattle.std.specs.Prelude.{if◌then◌else◌}
use Rattle.machine.proofs.Decoded.{of-operation, of_one, of_two}
use Rattle.machine.specs.Decode.{fetch, Instruction, invalid, jump, input_choice, call_rule, return, choice, end_choice, decode_two, decode_one, decode_word, decode_at, decode}
use Rattle.machine.specs.Bytes.{words_of, table_of}
use Rattle.machine.specs.Lengths.{lengths, length_of}
use Rattle.loading.specs.Reach.{fits, bad, gives37}
use Rattle.loading.specs.Taking.{labelled, chosen, onward, ways}
use Rattle.loading.proofs.Members.{fetch-inside}
use Rattle.loader.specs.Marking.{Work, work, mark_of, marks_of, failed, visit_of, choice_of, Kept, Ready, Holds, Takes}
use Rattle.loader.proofs.Laws.{Worked, table-fetch, marks-one, marks-on, marks-stop, append-on, append-stop}

-- no word past the table
pub fetch-past : (T : List ℕ) (l : ℕ) → length T < l → fetch T l ≡ none
fetch-past T l h = go (fetch T l) refl
  where
    go : (o : Option ℕ) → fetch T l ≡ o → o ≡ none
    go none e = refl
    go (some x) e = let r = fetch-inside T l (rw e) in absurd (omega (arith, r.1))

pub decode-both : (T : List ℕ) (l i x : ℕ) → fetch T l ≡ some i → length_of i ≡ 2 → fetch T (l + 1) ≡ some x → decode T l ≡ decode_two l i x
unfolding decode decode_at decode_word
decode-both T l i x here e f = let g : fetch T (suc l) ≡ some x = rw (add-one l) at f in rw (here, g, decode_word, e)

module _ (T : List ℕ) (l i : ℕ) (here : fetch T l ≡ some i) where
  pub decode-none : length_of i ≡ 0 → decode T l ≡ invalid
  unfolding decode decode_at decode_word
  decode-none e = rw here (go (fetch T (suc l)))
    where
      go : (o : Option ℕ) → decode_word l i o ≡ invalid
      go none = rw e
      go (some x) = rw e

  pub decode-one : length_of i ≡ 1 → decode T l ≡ decode_one i
  unfolding decode decode_at decode_word
  decode-one e = rw here (go (fetch T (suc l)))
    where
      go : (o : Option ℕ) → decode_word l i o ≡ decode_one i
      go none = rw e
      go (some x) = rw e

  pub decode-short : length_of i ≡ 2 → length T < l + 1 → decode T l ≡ invalid
  unfolding decode decode_at decode_word
  decode-short e h = let g : fetch T (suc l) ≡ none = fetch-past T (suc l) (omega arith) in rw (here, g, decode_word, e)

-- a visit, by the instruction
visit-by : (T : List ℕ) (l : ℕ) (i : Instruction) (w : Work) → decode T l ≡ i
    → visit_of T l w ≡ (if bad T i then failed w else marks_of (length T) (onward T l i) w)
unfolding visit_of gives37 ways
visit-by T l i w e = rw e

visit-invalid : (T : List ℕ) (l : ℕ) (w : Work) → decode T l ≡ invalid → visit_of T l w ≡ failed w
unfolding bad
visit-invalid T l w e = visit-by T l invalid w e

visit-to : (T : List ℕ) (l : ℕ) (i : Instruction) (ms : List ℕ) (w : Work) → decode T l ≡ i → bad T i ≡ false → onward T l i ≡ ms
    → visit_of T l w ≡ marks_of (length T) ms w
visit-to T l i ms w e b o = visit-by T l i w e ∙ rw (b, o)

visit-choice : (T : List ℕ) (l c : ℕ) (i : Instruction) (w : Work) → decode T l ≡ i → bad T i ≡ not (fits T c (fetch T c)) → onward T l i ≡ chosen T c (fetch T c)
    → visit_of T l w ≡ choice_of T c w
unfolding choice_of
visit-choice T l c i w e b o = visit-by T l i w e ∙ rw (b, o) (go (fits T c (fetch T c)))
  where
    go : (t : Bool) → (if not t then failed w else marks_of (length T) (chosen T c (fetch T c)) w) ≡ (if t then marks_of (length T) (chosen T c (fetch T c)) w else failed w)
    go true = refl
    go false = refl

-- what follows the instructions of one and of two words that are no jump, call or choice
abbrev Next : List ℕ → ℕ → Instruction → ℕ → Type 0
Next T l i m = (bad T i ≡ false) × (onward T l i ≡ m ∷ [])

next_one : (T : List ℕ) (l i : ℕ) → (i ≡ 9 → ⊥) → (i ≡ 12 → ⊥) → Next T l (decode_one i) (l + 1)
unfolding bad onward
next_one T l i a b = of_one on i (λ _. (refl, refl)) (λ e. absurd (a e)) (λ e. absurd (b e)) (of-operation on i (λ _. (refl, refl)) (λ _. (refl, refl)) (λ _. (refl, refl)) (λ _. (refl, refl)))
  where
    on : Instruction → Type 0
    on j = Next T l j (l + 1)

next-two : (T : List ℕ) (l i x : ℕ) → (i ≡ 1 → ⊥) → (i ≡ 2 → ⊥) → (i ≡ 7 → ⊥) → (i ≡ 8 → ⊥) → (i ≡ 11 → ⊥) → Next T l (decode_two l i x) (l + 2)
unfolding bad onward
next-two T l i x a b c d e =
    of_two (λ j. Next T l j (l + 2)) l i x (λ q. absurd (a q)) (λ q. absurd (b q)) (λ _. (refl, refl)) (λ _. (refl, refl)) (λ _. (refl, refl)) (λ q. absurd (c q)) (λ q. absurd (d q)) (λ _. (refl, refl)) (λ q. absurd (e q)) (refl, refl)

-- The ways out of the functions

failing : {size tail : ℕ} {seen order : List ℕ} (w : Work) → Kept size tail seen order → w ≡ work false tail seen order → Worked size w false tail seen order
failing w k e = record { is = sym e; kept = k }

unfoldable failed-is : (tail : ℕ) (seen order : List ℕ) → failed (work true tail seen order) ≡ work false tail seen order
unfolding failed
failed-is tail seen order = refl

-- a contract from one of the same outcome
pub same-work : {size : ℕ} {w v : Work} {ok : Bool} {tail : ℕ} {seen order : List ℕ} → Worked size v ok tail seen order → w ≡ v → Worked size w ok tail seen order
same-work m e = record { is = m.is ∙ sym e; kept = m.kept }

module _ {T : List ℕ} {l size tail : ℕ} {seen order : List ℕ} where
  pub outside-none : (i : ℕ) → Ready T l size tail seen order → fetch T l ≡ some i → length_of i ≡ 0
      → Worked size (visit_of T l (work true tail seen order)) false tail seen order
  outside-none i r h e = failing _ r.kept (visit-invalid T l _ (decode-none T l i h e) ∙ failed-is tail seen order)

  pub outside-cut : (i : ℕ) → Ready T l size tail seen order → fetch T l ≡ some i → length_of i ≡ 2 → size < l + 1
      → Worked size (visit_of T l (work true tail seen order)) false tail seen order
  outside-cut i r h e b = failing _ r.kept (visit-invalid T l _ (decode-short T l i h e (omega (arith, r.size_is))) ∙ failed-is tail seen order)

  -- of one word
  module _ {i : ℕ} (h : Holds T l i 1 size tail seen order) where
    pub ends_there : (i ≡ 9) ⊎ (i ≡ 12) → Worked size (visit_of T l (work true tail seen order)) true tail seen order
    unfolding decode_one bad onward marks_of
    ends_there (inl e) = record { is = sym (visit-to T l return [] _ (decode-one T l i h.here h.long ∙ rw e) refl refl); kept = h.ready.kept }
    ends_there (inr e) = record { is = sym (visit-to T l end_choice [] _ (decode-one T l i h.here h.long ∙ rw e) refl refl); kept = h.ready.kept }

    pub one_on : {ok : Bool} {tail' : ℕ} {seen' order' : List ℕ} → (i ≡ 9 → ⊥) → (i ≡ 12 → ⊥)
        → Worked size (mark_of size (l + 1) (work true tail seen order)) ok tail' seen' order' → Worked size (visit_of T l (work true tail seen order)) ok tail' seen' order'
    one_on a b m =
        let n = next_one T l i a b in
        let z = h.ready.size_is in
        same-work m (visit-to T l (decode_one i) ((l + 1) ∷ []) _ (decode-one T l i h.here h.long) n.0 n.1 ∙ marks-one (length T) (l + 1) _ ∙ ap (λ (s : ℕ). mark_of s (l + 1) (work true tail seen order)) (sym z))

  -- of two
  module _ {i x : ℕ} (h : Takes T l i x size tail seen order) where
    abbrev w₀ : Work
    w₀ = work true tail seen order

    decoded : decode T l ≡ decode_two l i x
    decoded = decode-both T l i x h.holds.here h.holds.long h.operand

    to_one : (m : ℕ) (j : Instruction) → decode_two l i x ≡ j → bad T j ≡ false → onward T l j ≡ m ∷ [] → visit_of T l w₀ ≡ mark_of size m w₀
    to_one m j e b o =
        visit-to T l j (m ∷ []) w₀ (decoded ∙ e) b o ∙ marks-one (length T) m w₀ ∙ ap (λ (s : ℕ). mark_of s m w₀) (sym h.holds.ready.size_is)

    pub forward-is : i ≡ 1 → visit_of T l w₀ ≡ mark_of size (l + 1 + x) w₀
    unfolding decode_two bad onward
    forward-is e = to_one (l + 1 + x) (jump (l + 1 + x)) (rw e) refl refl

    pub back_is : (m : ℕ) → i ≡ 2 → m ≡ l + 1 - x → visit_of T l w₀ ≡ mark_of size m w₀
    unfolding decode_two bad onward
    back_is m e f = to_one m (jump m) (rw (e, f)) refl refl

    pub input-choice-is : i ≡ 7 → visit_of T l w₀ ≡ choice_of T (l + 1 + x) w₀
    unfolding decode_two bad onward
    input-choice-is e = visit-choice T l (l + 1 + x) (input_choice (l + 1 + x)) w₀ (decoded ∙ rw e) refl refl

    pub choice-is : i ≡ 11 → visit_of T l w₀ ≡ choice_of T (l + 1 + x) w₀
    unfolding decode_two bad onward
    choice-is e = visit-choice T l (l + 1 + x) (choice (l + 1 + x)) w₀ (decoded ∙ rw e) refl refl

    pub call-is : i ≡ 8 → visit_of T l w₀ ≡ marks_of size (x ∷ (l + 2) ∷ []) w₀
    unfolding decode_two bad onward
    call-is e =
        visit-to T l (call_rule x) (x ∷ (l + 2) ∷ []) w₀ (decoded ∙ rw e) refl refl ∙ ap (λ (s : ℕ). marks_of s (x ∷ (l + 2) ∷ []) w₀) (sym h.holds.ready.size_is)

    pub on-is : (i ≡ 1 → ⊥) → (i ≡ 2 → ⊥) → (i ≡ 7 → ⊥) → (i ≡ 8 → ⊥) → (i ≡ 11 → ⊥) → visit_of T l w₀ ≡ mark_of size (l + 2) w₀
    on-is a b c d e = let n = next-two T l i x a b c d e in to_one (l + 2) (decode_two l i x) refl n.0 n.1

-- A choice

module _ (T : List ℕ) (c : ℕ) {size tail : ℕ} {seen order : List ℕ} (k : Kept size tail seen order) (z : size ≡ length T) where
  abbrev w₁ : Work
  w₁ = work true tail seen order

  choice-fails : (o : Option ℕ) → fetch T c ≡ o → fits T c o ≡ false → Worked size (choice_of T c w₁) false tail seen order
  unfolding choice_of
  choice-fails o e f = failing _ k (rw (e, f) (failed-is tail seen order))

  pub choice-past : size < c → Worked size (choice_of T c w₁) false tail seen order
  unfolding fits
  choice-past h = choice-fails none (fetch-past T c (omega arith)) refl

  pub choice-cut : (n : ℕ) → fetch T c ≡ some n → size < c + 2 * n → Worked size (choice_of T c w₁) false tail seen order
  unfolding fits
  choice-cut n e h = choice-fails (some n) e (lt-leb (c + 2 * n) (length T) (omega arith))

  module _ (n : ℕ) (e : fetch T c ≡ some n) (h : c + 2 * n ≤ size) where
    choice-all : choice_of T c w₁ ≡ marks_of size (labelled T n (c + 1) ++ ((c + 1 + 2 * n) ∷ [])) w₁
    unfolding choice_of fits chosen
    choice-all = rw (e, fits, le-leb (c + 2 * n) (length T) (omega arith), ← z)

    pub choice-stop : {ok : Bool} {tail' : ℕ} {seen' order' : List ℕ} → Worked size (marks_of size (labelled T n (c + 1)) w₁) ok tail' seen' order' → ok ≡ false
        → Worked size (choice_of T c w₁) ok tail' seen' order'
    choice-stop {ok} {tail'} {seen'} {order'} m t =
        record { is = sym (choice-all ∙ append-stop size (labelled T n (c + 1)) ((c + 1 + 2 * n) ∷ []) w₁ (work ok tail' seen' order') refl (sym m.is) t); kept = m.kept }

    pub choice-on : {ok ok' : Bool} {tail' tail'' : ℕ} {seen' order' seen'' order'' : List ℕ} → Worked size (marks_of size (labelled T n (c + 1)) w₁) ok tail' seen' order' → ok ≡ true
        → Worked size (mark_of size (c + 1 + 2 * n) (work true tail' seen' order')) ok' tail'' seen'' order'' → Worked size (choice_of T c w₁) ok' tail'' seen'' order''
    choice-on {ok} {tail' = tail'} {seen' = seen'} {order' = order'} m t v =
        same-work v (choice-all ∙ append-on size (labelled T n (c + 1)) ((c + 1 + 2 * n) ∷ []) w₁ (work ok tail' seen' order') refl (sym m.is) t
        ∙ ap (λ (b : Bool). marks_of size ((c + 1 + 2 * n) ∷ []) (work b tail' seen' order')) t ∙ marks-one size (c + 1 + 2 * n) (work true tail' seen' order'))

-- Two locations

module _ (size tail m k : ℕ) (seen order : List ℕ) where
  pub two-stop : {ok : Bool} {tail' : ℕ} {seen' order' : List ℕ} → Worked size (mark_of size m (work true tail seen order)) ok tail' seen' order' → ok ≡ false
      → Worked size (marks_of size (m ∷ k ∷ []) (work true tail seen order)) ok tail' seen' order'
  two-stop {ok} {tail'} {seen'} {order'} a t =
      record { is = sym (marks-stop size m (k ∷ []) (work true tail seen order) (work ok tail' seen' order') (sym a.is) t); kept = a.kept }

  pub two-on : {ok ok' : Bool} {tail' tail'' : ℕ} {seen' order' seen'' order'' : List ℕ} → Worked size (mark_of size m (work true tail seen order)) ok tail' seen' order' → ok ≡ true
      → Worked size (mark_of size k (work true tail' seen' order')) ok' tail'' seen'' order''
      → Worked size (marks_of size (m ∷ k ∷ []) (work true tail seen order)) ok' tail'' seen'' order''
  two-on {ok} {tail' = tail'} {seen' = seen'} {order' = order'} a t v =
      same-work v (marks-on size m (k ∷ []) (work true tail seen order) (work ok tail' seen' order') (sym a.is) t
      ∙ ap (λ (b : Bool). marks_of size (k ∷ []) (work b tail' seen' order')) t ∙ marks-one size k (work true tail' seen' order'))

-- The instruction that is read

unfoldable small : List ℕ → Bool
small [] = true
small (x ∷ xs) = if leb x 2 then small xs else false

small_at : (xs : List ℕ) → small xs ≡ true → (k : ℕ) → get_or xs k 0 ≤ 2
unfolding small
small_at [] e k = omega arith
small_at (x ∷ xs) e k = go (leb x 2) refl e k (small_at xs)
  where
    go : (t : Bool) → leb x 2 ≡ t → (if t then small xs else false) ≡ true → (j : ℕ) → (small xs ≡ true → (m : ℕ) → get_or xs m 0 ≤ 2) → get_or (x ∷ xs) j 0 ≤ 2
    go true f d zero i = leb-true x 2 f
    go true f d (suc j) i = i d j
    go false f d j i = never d

all_small : small lengths ≡ true
unfolding small lengths
all_small = refl

if-small : (b : Bool) (x y : ℕ) → x ≤ 2 → y ≤ 2 → (if b then x else y) ≤ 2
if-small true x y p q = p
if-small false x y p q = q

length-small : (i : ℕ) → length_of i ≤ 2
unfolding length_of
length-small i =
    if-small (leb 1 i && leb i 13) (get_or lengths (i - 1) 0) (if leb 256 i && leb i 1279 then 1 else 0) (small_at lengths all_small (i - 1))
    (if-small (leb 256 i && leb i 1279) 1 0 (omega arith) (omega arith))

pub two-words : (i n : ℕ) → n ≡ length_of i → (n ≡ 0 → ⊥) → (n ≡ 1 → ⊥) → length_of i ≡ 2
two-words i zero e a b = absurd (a refl)
two-words i (suc zero) e a b = absurd (b refl)
two-words i (suc (suc n)) e a b = let s = length-small i in omega arith

module _ (s : List ℕ) (l : ℕ) {size tail : ℕ} {seen order : List ℕ} (r : Ready (table_of s) l size tail seen order) (word : ℕ) (w : word ≡ get_or (words_of s) (l - 1) 0) where
  pub here-is : fetch (table_of s) l ≡ some word
  here-is = table-fetch s l r.first (omega (arith, r.last, r.size_is)) ∙ ap some (sym w)

  pub holds-one : (wide n : ℕ) → wide ≡ word → n ≡ length_of word → n ≡ 1 → Holds (table_of s) l wide 1 size tail seen order
  holds-one wide n e f g = record { ready = r; here = here-is ∙ ap some (sym e); long = ap length_of e ∙ sym f ∙ g }

  pub takes_two : (wide n x : ℕ) → wide ≡ word → n ≡ length_of word → (n ≡ 0 → ⊥) → (n ≡ 1 → ⊥) → l + 1 ≤ size → fetch (table_of s) (l + 1) ≡ some x → x < 65536
      → Takes (table_of s) l wide x size tail seen order
  takes_two wide n x e f a b i o u = record {
    holds = record { ready = r; here = here-is ∙ ap some (sym e); long = ap length_of e ∙ two-words word n f a b };
    operand = o;
    inside = i;
    low = u;
  }

-- Flags that are cleared

pub cleared : (seen : List ℕ) → length seen ≡ 4096 → ((j : ℕ) → j < 4096 → get_or seen j 0 ≡ 0) → seen ≡ replicate 4096 0
cleared seen e f =
    let zero' : ℕ = 0 in
    ext_get_or 0 seen (replicate 4096 0) (e ∙ sym (length-replicate {A = ℕ} 4096 0)) (λ i h. f i (omega arith) ∙ sym (get_or-replicate {A = ℕ} 4096 i 0 0 (omega arith)))

pub clear_next : (seen : List ℕ) (i : ℕ) → length seen ≡ 4096 → i < 4096 → ((j : ℕ) → j < i → get_or seen j 0 ≡ 0)
    → (j : ℕ) → j < i + 1 → get_or (set seen i 0) j 0 ≡ 0
clear_next seen i e h f j u = split (eqb j i)
    (λ t. let z = eqb-true j i t in rw z (get_or-set_same seen i 0 0 (omega arith)))
    (λ t. let ne = eqb-false j i t in get_or-set_other seen i j 0 0 ne ∙ f j (less j i u ne))
  where
    less : (a b : ℕ) → a < b + 1 → (a ≡ b → ⊥) → a < b
    less a b p q = elim (dec_lt a b) [ yes t ↦ t | no n ↦ absurd (q (omega arith)) ]
