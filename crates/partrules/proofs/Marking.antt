-- A rule's cells, turned, are its cells with the marks of an object.
use mathlib.Core.Bool.{Bool, true, false}
use mathlib.Core.List.{List, [], ◌∷◌, ◌++◌}
use mathlib.Core.Logic.{◌⊎◌, inl, inr}
use mathlib.Core.Path.{◌≡◌, refl, sym, ap, ◌∙◌}
use native.Mathlib.Numerals.{add-one}
use native.Mathlib.Omega.{arith}
use Prim.Native.Nat.{ℕ, zero, suc, ◌+◌, ◌-◌, ◌<◌, ◌≤◌}
use borrow.Author.Tests.{lt-ltb, le-ltb}
use lib.ListN.{length, get_or, drop, length-append}
use lib.Seq.{drop-cons, get_or-append-add}
use Rattle.base.proofs.Laws.{lt-or-le}
use Rattle.std.proofs.lemmas.List.{drop_all}
use Rattle.base.specs.Tree.{plain, cycle, choice, done, ◌▸◌, nil, alternative, absent, otherwise}
use Rattle.calls.specs.Renumber.{renumber_plain, renumber_selector, renumber, renumbers, renumber_alts, renumber_other}
use Rattle.cells.specs.Cells.{plain_cells, selector_cells, absent_cell, act_cells, acts_cells, alts_cells, other_cells}
use Rattle.linker.proofs.Closing.{no_call, behind-labels, behind-update, behind-update_with, behind-ask, behind-ask_with}
use Rattle.linker.specs.Close.{is_call, behind}
use Rattle.names.specs.Uses.{Use}
use Rattle.parts.specs.Form.{mark_of}
use Rattle.parts.specs.Objects.{Aim, named, ranked, head_aims, use_aims, call_aims}
use Rattle.parts.specs.Sound.{Few, FewAll, FewSome, FewOther}
use Rattle.program.specs.Accepted.{Calls, OkPlain, OkSelector, Ok, Oks, OkAlts, OkOther}
use Rattle.program.specs.Program.{Plain, match, any, emit, error, exit, call, back, give, update, update_with, Selector, by_token, by_rule, by_operation, by_operation_with, Act, Acts, Alts, Other, Rule}
use Rattle.program.specs.Table.{count_labels}
use Rattle.syntax.specs.Texts.{Head}
use Rattle.words.specs.Words.{Word}
use Rattle.partrules.specs.Marks.{mark_by, operand, turn_from, turn_cells, Turned}
use Rattle.partrules.specs.declared.Pass.{Pass}

module _ (from : ℕ → ℕ) where
  -- where no cell is left behind a first cell, it does not matter which it was
  any-first : (f g : ℕ) (k : List ℕ) → turn_from from f 0 k ≡ turn_from from g 0 k
  unfolding turn_from
  any-first f g [] = refl
  any-first f g (x ∷ k) = refl

  one_cell : (x f g : ℕ) (k : List ℕ) → behind x ≡ 0 → turn_from from f 0 (x ∷ k) ≡ x ∷ turn_from from g 0 k
  unfolding turn_from
  one_cell x f g k b = rw b (ap (λ l. x ∷ l) (any-first x g k))

  copied : (f : ℕ) (ls k : List ℕ) → is_call f ≡ false → turn_from from f (length ls) (ls ++ k) ≡ ls ++ turn_from from f 0 k
  unfolding turn_from operand
  copied f [] k n = refl
  copied f (l ∷ ls) k n = rw n (ap (λ m. l ∷ m) (copied f ls k n))

  some-cells : (x f g : ℕ) (ls k : List ℕ) → behind x ≡ length ls → is_call x ≡ false → turn_from from f 0 (x ∷ (ls ++ k)) ≡ x ∷ (ls ++ turn_from from g 0 k)
  unfolding turn_from
  some-cells x f g ls k b n = rw b (ap (λ m. x ∷ m) (copied x ls k n ∙ ap (λ m. ls ++ m) (any-first x g k)))

  two_cells : (x v f g : ℕ) (k : List ℕ) → behind x ≡ 1 → is_call x ≡ false → turn_from from f 0 (x ∷ v ∷ k) ≡ x ∷ v ∷ turn_from from g 0 k
  two_cells x v f g k b n = some-cells x f g (v ∷ []) k b n

  module _ (to : ℕ → ℕ) (prog : List Rule) (alike : (i : ℕ) → i < length prog → from i ≡ to i) where
    -- a call, x being its first cell
    call-cells : (x i f g : ℕ) (v : Bool) (k : List ℕ) → behind x ≡ 1 → is_call x ≡ true → Calls prog i v → turn_from from f 0 (x ∷ i ∷ k) ≡ x ∷ to i ∷ turn_from from g 0 k
    unfolding turn_from operand
    call-cells x i f g v k b n h = rw (b, n, alike i h.there) (ap (λ m. x ∷ to i ∷ m) (any-first x g k))

    plain-turned : (p : Plain) (v c : Bool) → OkPlain prog p v c → (f g : ℕ) (k : List ℕ) → turn_from from f 0 (plain_cells p k) ≡ plain_cells (renumber_plain to p) (turn_from from g 0 k)
    unfolding plain_cells renumber_plain OkPlain behind is_call
    plain-turned (match t) v c ok f g k = two_cells 3 t f g k refl refl
    plain-turned any v c ok f g k = one_cell 4 f g k refl
    plain-turned (emit t) v c ok f g k = two_cells 5 t f g k refl refl
    plain-turned (error t) v c ok f g k = two_cells 6 t f g k refl refl
    plain-turned exit v c ok f g k = one_cell 1 f g k refl
    plain-turned (call r) v c ok f g k = call-cells 8 r f g false k refl refl ok
    plain-turned back v c ok f g k = one_cell 9 f g k refl
    plain-turned (give w) v c ok f g k = two_cells 10 w f g k refl refl
    plain-turned (update op) v c ok f g k = one_cell op f g k (behind-update op ok.0 ok.1)
    plain-turned (update_with op w) v c ok f g k = two_cells op w f g k (behind-update_with op ok.0 ok.1) (no_call op (omega (arith, ok.0)))

    selector-turned : (s : Selector) → OkSelector prog s → (f g : ℕ) (k : List ℕ) → turn_from from f 0 (selector_cells s k) ≡ selector_cells (renumber_selector to s) (turn_from from g 0 k)
    unfolding selector_cells renumber_selector OkSelector behind is_call
    selector-turned by_token ok f g k = one_cell 7 f g k refl
    selector-turned (by_rule r) ok f g k = call-cells 11 r f g true k refl refl ok
    selector-turned (by_operation op) ok f g k = one_cell op f g k (behind-ask op ok.0 ok.1)
    selector-turned (by_operation_with op w) ok f g k = two_cells op w f g k (behind-ask_with op ok.0) (no_call op (omega (arith, ok.0)))

    absent-same : (s : Selector) → absent_cell s ≡ absent_cell (renumber_selector to s)
    unfolding absent_cell renumber_selector
    absent-same by_token = refl
    absent-same (by_rule r) = refl
    absent-same (by_operation op) = refl
    absent-same (by_operation_with op v) = refl

    absent-alone : (s : Selector) → behind (absent_cell s) ≡ 0
    unfolding absent_cell behind
    absent-alone by_token = refl
    absent-alone (by_rule r) = refl
    absent-alone (by_operation op) = refl
    absent-alone (by_operation_with op v) = refl

    fewer : (ls : List ℕ) (b : Acts) (q : Alts) → count_labels (alternative ls b q) ≤ 64 → (length ls < 192) × (count_labels q ≤ 64)
    unfolding count_labels
    fewer ls b q h = (omega arith, omega arith)

    end-alone : behind 0 ≡ 0
    unfolding behind
    end-alone = refl

    two-alone : behind 2 ≡ 0
    unfolding behind
    two-alone = refl

    other-alone : behind 13 ≡ 0
    unfolding behind
    other-alone = refl

    mutual
      unfolding renumber act_cells Ok Few

      act-turned : (a : Act) (v c : Bool) → Ok prog a v c → Few a → (f g : ℕ) (k : List ℕ) → turn_from from f 0 (act_cells a k) ≡ act_cells (renumber to a) (turn_from from g 0 k)
      act-turned (plain p) v c ok few f g k = plain-turned p v c ok f g k
      act-turned (cycle b) v c ok few f g k = one_cell 2 f 2 (acts_cells b k) two-alone ∙ ap (λ m. 2 ∷ m) (acts-turned b v true ok few 2 g k)
      act-turned (choice s q o) v c ok few f g k =
          let e = absent-same s in
          selector-turned s ok.0 f 0 (alts_cells q (other_cells o (absent_cell s) k))
          ∙ ap (selector_cells (renumber_selector to s)) (alts-turned q v c ok.1 few.0 few.1 0 0 (other_cells o (absent_cell s) k)
          ∙ ap (alts_cells (renumber_alts to q)) (rw e (other-turned o (absent_cell (renumber_selector to s)) (absent-alone (renumber_selector to s)) v c ok.2 few.2 0 g k)))

      acts-turned : (b : Acts) (v c : Bool) → Oks prog b v c → FewAll b → (f g : ℕ) (k : List ℕ) → turn_from from f 0 (acts_cells b k) ≡ acts_cells (renumbers to b) (turn_from from g 0 k)
      acts-turned done v c ok few f g k = one_cell 0 f g k end-alone
      acts-turned (a ▸ q) v c ok few f g k = act-turned a v c ok.0 few.0 f 0 (acts_cells q k) ∙ ap (act_cells (renumber to a)) (acts-turned q v c ok.1 few.1 0 g k)

      alts-turned : (q : Alts) (v c : Bool) → OkAlts prog q v c → count_labels q ≤ 64 → FewSome q → (f g : ℕ) (k : List ℕ) → turn_from from f 0 (alts_cells q k) ≡ alts_cells (renumber_alts to q) (turn_from from g 0 k)
      alts-turned nil v c ok n few f g k = any-first f g k
      alts-turned (alternative ls b q) v c ok n few f g k =
          let l = fewer ls b q n in
          some-cells (64 + length ls) f 0 ls (acts_cells b (alts_cells q k)) (behind-labels (length ls) l.0) (no_call (64 + length ls) (omega arith))
          ∙ ap (λ m. (64 + length ls) ∷ (ls ++ m)) (acts-turned b v c ok.1 few.1 0 0 (alts_cells q k) ∙ ap (acts_cells (renumbers to b)) (alts-turned q v c ok.2 l.1 few.2 0 g k))

      other-turned : (o : Other) (cell : ℕ) → behind cell ≡ 0 → (v c : Bool) → OkOther prog o v c → FewOther o → (f g : ℕ) (k : List ℕ) → turn_from from f 0 (other_cells o cell k) ≡ other_cells (renumber_other to o) cell (turn_from from g 0 k)
      other-turned absent cell b v c ok few f g k = one_cell cell f g k b
      other-turned (otherwise b) cell e v c ok few f g k = one_cell 13 f 13 (acts_cells b k) other-alone ∙ ap (λ m. 13 ∷ m) (acts-turned b v c ok few 13 g k)

    -- the whole of a rule
    pub turned : (b : Acts) (v c : Bool) → Oks prog b v c → FewAll b → turn_cells from (acts_cells b []) ≡ acts_cells (renumbers to b) []
    unfolding turn_cells turn_from
    turned b v c ok few = acts-turned b v c ok few 0 0 []

-- A turn

module _ (to : ℕ → ℕ) where
  pub turned-first : (s : Pass) (x b : ℕ) → s.left ≡ 0 → b ≡ behind x → Turned to s x (record { first = x; left = b; cell = x })
  unfolding turn_from
  turned-first s x b e h = record { goes = λ cells. go s.left e cells }
    where
      go : (l : ℕ) → l ≡ 0 → (cells : List ℕ) → turn_from to s.first l (x ∷ cells) ≡ x ∷ turn_from to x b cells
      go zero e cells = rw h refl
      go (suc l) e cells = absurd (omega arith)

  operand-turn : (f l x y : ℕ) (cells : List ℕ) → (l ≡ 0 → ⊥) → y ≡ operand to f x → turn_from to f l (x ∷ cells) ≡ y ∷ turn_from to f (l - 1) cells
  unfolding turn_from
  operand-turn f zero x y cells n h = absurd (n refl)
  operand-turn f (suc l) x y cells n h = let z : suc l - 1 ≡ l = omega arith in rw (h, z) refl

  pub turned-call : (s : Pass) (x y : ℕ) (t : Bool) → (s.left ≡ 0 → ⊥) → t ≡ is_call s.first → t ≡ true → y ≡ to x → Turned to s x (record { first = s.first; left = s.left - 1; cell = y })
  unfolding operand
  turned-call s x y t n i e h = let c : is_call s.first ≡ true = sym i ∙ e in record { goes = λ cells. operand-turn s.first s.left x y cells n (rw c h) }

  pub turned-copy : (s : Pass) (x : ℕ) (t : Bool) → (s.left ≡ 0 → ⊥) → t ≡ is_call s.first → t ≡ false → Turned to s x (record { first = s.first; left = s.left - 1; cell = x })
  unfolding operand
  turned-copy s x t n i e = let c : is_call s.first ≡ false = sym i ∙ e in record { goes = λ cells. operand-turn s.first s.left x x cells n (rw c refl) }

  -- The pass: what is left to turn from the cell k on

  abbrev pub rest : List ℕ → ℕ → Pass → List ℕ
  rest cells k s = turn_from to s.first s.left (drop k cells)

  pub goes_on : (cells : List ℕ) (k : ℕ) (s r : Pass) (x : ℕ) → k < length cells → x ≡ get_or cells k 0 → Turned to s x r → rest cells k s ≡ r.cell ∷ rest cells (k + 1) r
  goes_on cells k s r x l e t =
      let d : drop k cells ≡ x ∷ drop (k + 1) cells = drop-cons cells k 0 l ∙ ap (λ y. y ∷ drop (suc k) cells) (sym e) ∙ ap (λ i. x ∷ drop i cells) (sym (add-one k)) in
      ap (turn_from to s.first s.left) d ∙ t.goes (drop (k + 1) cells)

  pub no_more : (cells : List ℕ) (k : ℕ) (s : Pass) → length cells ≤ k → rest cells k s ≡ []
  unfolding turn_from
  no_more cells k s l = ap (turn_from to s.first s.left) (drop_all k cells l)

-- The mark of a number

pub mark-low : (first i r : ℕ) → i < first → r ≡ 0 → r ≡ mark_by first i
unfolding mark_by
mark-low first i r h e = rw (lt-ltb i first h) e

pub mark-high : (first i r : ℕ) → first ≤ i → r ≡ 1 + (i - first) → r ≡ mark_by first i
unfolding mark_by
mark-high first i r h e = rw (le-ltb i first h) e

pub low-mark : (first i n : ℕ) → n ≡ i → n < first → 0 ≡ mark_by first i
low-mark first i n e h = mark-low first i 0 (omega (arith, e, h)) refl

pub high-mark : (first i n : ℕ) → n ≡ i → first ≤ n → 1 + (n - first) ≡ mark_by first i
high-mark first i n e h = mark-high first i (1 + (n - first)) (omega (arith, e, h)) (omega (arith, e))

-- The aims of a part: names, then pairs

head-low : (hs : List Head) (rest : List Aim) (i : ℕ) → i < length hs → (v : List ℕ) × (get_or (head_aims hs ++ rest) i (named []) ≡ named v)
unfolding head_aims
head-low [] rest i l = absurd (omega arith)
head-low (h ∷ hs) rest zero l = (h.rule.text, refl)
head-low (h ∷ hs) rest (suc i) l = head-low hs rest i (omega arith)

call-low : (ws : List Word) (rest : List Aim) (i : ℕ) → i < length ws → (v : List ℕ) × (get_or (call_aims ws ++ rest) i (named []) ≡ named v)
unfolding call_aims
call-low [] rest i l = absurd (omega arith)
call-low (w ∷ ws) rest zero l = (w.text, refl)
call-low (w ∷ ws) rest (suc i) l = call-low ws rest i (omega arith)

use-at : (us : List Use) (i : ℕ) → i < length us → (u : Use) × (get_or (use_aims us) i (named []) ≡ ranked u)
unfolding use_aims
use-at [] i l = absurd (omega arith)
use-at (u ∷ us) zero l = (u, refl)
use-at (u ∷ us) (suc i) l = use-at us i (omega arith)

heads-many : (hs : List Head) → length (head_aims hs) ≡ length hs
unfolding head_aims
heads-many [] = refl
heads-many (h ∷ hs) = ap suc (heads-many hs)

calls-many : (ws : List Word) → length (call_aims ws) ≡ length ws
unfolding call_aims
calls-many [] = refl
calls-many (w ∷ ws) = ap suc (calls-many ws)

uses-many : (us : List Use) → length (use_aims us) ≡ length us
unfolding use_aims
uses-many [] = refl
uses-many (u ∷ us) = ap suc (uses-many us)

mark-named : (aims : List Aim) (first i : ℕ) (v : List ℕ) → get_or aims i (named []) ≡ named v → mark_of aims first i ≡ 0
unfolding mark_of
mark-named aims first i v e = rw (e, mark_of)

mark-ranked : (aims : List Aim) (first i : ℕ) (u : Use) → get_or aims i (named []) ≡ ranked u → mark_of aims first i ≡ 1 + (i - first)
unfolding mark_of
mark-ranked aims first i u e = rw (e, mark_of)

-- the marks of the code are those of an object, for the numbers of the part's aims
pub marks-are : (hs : List Head) (ws : List Word) (us : List Use) (aims : List Aim) (first i : ℕ) → aims ≡ head_aims hs ++ (call_aims ws ++ use_aims us) → first ≡ length hs + length ws → i < length aims
    → mark_by first i ≡ mark_of aims first i
marks-are hs ws us aims first i e f l = go (lt-or-le i (length hs)) (lt-or-le i first)
  where
    many : length aims ≡ length hs + (length ws + length us)
    many =
        ap length e ∙ length-append (head_aims hs) (call_aims ws ++ use_aims us) ∙ ap (λ n. n + length (call_aims ws ++ use_aims us)) (heads-many hs)
        ∙ ap (λ n. length hs + n) (length-append (call_aims ws) (use_aims us) ∙ ap (λ n. n + length (use_aims us)) (calls-many ws) ∙ ap (λ n. length ws + n) (uses-many us))

    past-heads : (j : ℕ) → i ≡ length hs + j → get_or aims i (named []) ≡ get_or (call_aims ws ++ use_aims us) j (named [])
    past-heads j q =
        ap (λ l. get_or l i (named [])) e ∙ ap (λ k. get_or (head_aims hs ++ (call_aims ws ++ use_aims us)) k (named [])) (q ∙ ap (λ n. n + j) (sym (heads-many hs)))
        ∙ get_or-append-add (head_aims hs) (call_aims ws ++ use_aims us) j (named [])

    past-calls : (j : ℕ) → i ≡ first + j → get_or aims i (named []) ≡ get_or (use_aims us) j (named [])
    past-calls j q =
        past-heads (length ws + j) (omega (arith, q, f)) ∙ ap (λ n. get_or (call_aims ws ++ use_aims us) (n + j) (named [])) (sym (calls-many ws))
        ∙ get_or-append-add (call_aims ws) (use_aims us) j (named [])

    go : (i < length hs) ⊎ (length hs ≤ i) → (i < first) ⊎ (first ≤ i) → mark_by first i ≡ mark_of aims first i
    go (inl h) k =
        let x = head-low hs (call_aims ws ++ use_aims us) i h in
        sym (mark-low first i 0 (omega (arith, h, f)) refl) ∙ sym (mark-named aims first i x.0 (ap (λ l. get_or l i (named [])) e ∙ x.1))
    go (inr h) (inl k) =
        let x = call-low ws (use_aims us) (i - length hs) (omega (arith, h, k, f)) in
        sym (mark-low first i 0 k refl) ∙ sym (mark-named aims first i x.0 (past-heads (i - length hs) (omega (arith, h)) ∙ x.1))
    go (inr h) (inr k) =
        let x = use-at us (i - first) (omega (arith, k, f, l, many)) in
        sym (mark-high first i (1 + (i - first)) k refl) ∙ sym (mark-ranked aims first i x.0 (past-calls (i - first) (omega (arith, k)) ∙ x.1))
