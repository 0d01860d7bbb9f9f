-- A rule's cells with marks, closed, are its cells with the numbers that its calls are to have.
use mathlib.Core.Bool.{Bool, true, false}
use mathlib.Core.List.{List, [], ◌∷◌, ◌++◌}
use mathlib.Core.Path.{◌≡◌, refl, ap, ◌∙◌}
use native.Mathlib.Omega.{arith}
use Prim.Native.Nat.{ℕ, zero, suc, ◌+◌, ◌<◌, ◌≤◌}
use borrow.Author.Tests.{ne_eqb, lt-ltb, le-ltb}
use lib.ListN.{length}
use Rattle.base.specs.Tree.{plain, cycle, choice, done, ◌▸◌, nil, alternative, absent, otherwise}
use Rattle.calls.specs.Renumber.{renumber_plain, renumber_selector, renumber, renumbers, renumber_alts, renumber_other}
use Rattle.cells.specs.Cells.{plain_cells, selector_cells, absent_cell, act_cells, acts_cells, alts_cells, other_cells}
use Rattle.parts.specs.Sound.{number_of, selector_number, numbers, numbers_all, numbers_some, numbers_other, Few, FewAll, FewSome, FewOther}
use Rattle.program.specs.Accepted.{OkPlain, OkSelector, Ok, Oks, OkAlts, OkOther}
use Rattle.program.specs.Program.{Plain, match, any, emit, error, exit, call, back, give, update, update_with, Selector, by_token, by_rule, by_operation, by_operation_with, Act, Acts, Alts, Other, Rule}
use Rattle.program.specs.Table.{count_labels}
use Rattle.linker.specs.Close.{is_call, behind, aimed, operand, places_after, close_from, close_cells, TellsOne, Tells}

-- What first cells tell

pub no_call : (x : ℕ) → 64 ≤ x → is_call x ≡ false
unfolding is_call
no_call x l = simp (ne_eqb x 8 (λ h. omega arith), ne_eqb x 11 (λ h. omega arith))

pub behind-labels : (j : ℕ) → j < 192 → behind (64 + j) ≡ j
unfolding behind
behind-labels j l = simp (le-ltb (64 + j) 15 (omega arith), le-ltb (64 + j) 64 (omega arith), lt-ltb (64 + j) 256 (omega arith)) (omega arith)

pub behind-update : (x : ℕ) → 256 ≤ x → x < 512 → behind x ≡ 0
unfolding behind
behind-update x l h = simp (le-ltb x 15 (omega arith), le-ltb x 64 (omega arith), le-ltb x 256 l, lt-ltb x 512 h)

pub behind-update_with : (x : ℕ) → 512 ≤ x → x < 768 → behind x ≡ 1
unfolding behind
behind-update_with x l h = simp (le-ltb x 15 (omega arith), le-ltb x 64 (omega arith), le-ltb x 256 (omega arith), le-ltb x 512 l, lt-ltb x 768 h)

pub behind-ask : (x : ℕ) → 768 ≤ x → x < 1024 → behind x ≡ 0
unfolding behind
behind-ask x l h = simp (le-ltb x 15 (omega arith), le-ltb x 64 (omega arith), le-ltb x 256 (omega arith), le-ltb x 512 (omega arith), le-ltb x 768 l, lt-ltb x 1024 h)

pub behind-ask_with : (x : ℕ) → 1024 ≤ x → behind x ≡ 1
unfolding behind
behind-ask_with x l = simp (le-ltb x 15 (omega arith), le-ltb x 64 (omega arith), le-ltb x 256 (omega arith), le-ltb x 512 (omega arith), le-ltb x 768 (omega arith), le-ltb x 1024 l)

module _ (lowest : ℕ → ℕ) where
  -- where no cell is left behind a first cell, it does not matter which it was
  any-first : (f g : ℕ) (places more k : List ℕ) → places ≡ more → close_from lowest f 0 places k ≡ close_from lowest g 0 more k
  unfolding close_from
  any-first f g places more [] e = refl
  any-first f g places more (x ∷ k) e = rw e

  one_cell : (x f g : ℕ) (places more k : List ℕ) → behind x ≡ 0 → places ≡ more → close_from lowest f 0 places (x ∷ k) ≡ x ∷ close_from lowest g 0 more k
  unfolding close_from
  one_cell x f g places more k b e = rw b (ap (λ l. x ∷ l) (any-first x g places more k e))

  copied : (f : ℕ) (places ls k : List ℕ) → is_call f ≡ false → close_from lowest f (length ls) places (ls ++ k) ≡ ls ++ close_from lowest f 0 places k
  unfolding close_from operand places_after
  copied f places [] k n = refl
  copied f places (l ∷ ls) k n = rw n (ap (λ m. l ∷ m) (copied f places ls k n))

  some-cells : (x f g : ℕ) (places more ls k : List ℕ) → behind x ≡ length ls → is_call x ≡ false → places ≡ more → close_from lowest f 0 places (x ∷ (ls ++ k)) ≡ x ∷ (ls ++ close_from lowest g 0 more k)
  unfolding close_from
  some-cells x f g places more ls k b n e = rw b (ap (λ m. x ∷ m) (copied x places ls k n ∙ ap (λ m. ls ++ m) (any-first x g places more k e)))

  two_cells : (x v f g : ℕ) (places more k : List ℕ) → behind x ≡ 1 → is_call x ≡ false → places ≡ more → close_from lowest f 0 places (x ∷ v ∷ k) ≡ x ∷ v ∷ close_from lowest g 0 more k
  two_cells x v f g places more k b n e = some-cells x f g places more (v ∷ []) k b n e

  module _ (mark to : ℕ → ℕ) where
    record Parted (is js places more : List ℕ) : Type 0 where
      pub between : List ℕ
      pub left : Tells lowest mark to is places between
      pub right : Tells lowest mark to js between more

    parted : (is js places more : List ℕ) → Tells lowest mark to (is ++ js) places more → Parted is js places more
    unfolding Tells
    parted [] js places more h = record { between = places; left = refl; right = h }
    parted (i ∷ is) js [] more h = absurd h
    parted (i ∷ is) js (p ∷ places) more h = let x = parted is js places more h.1 in record { between = x.between; left = (h.0, x.left); right = x.right }

    aimed-so : (i p : ℕ) (places : List ℕ) → TellsOne lowest mark to i p → aimed lowest (p ∷ places) (mark i) ≡ to i
    unfolding aimed
    aimed-so i p places h = go (mark i) refl
      where
        go : (m : ℕ) → mark i ≡ m → aimed lowest (p ∷ places) m ≡ to i
        go zero e = h.by_name e
        go (suc k) e = h.by_pair k e

    -- a call, x being its first cell
    call-cells : (x i f g : ℕ) (places more k : List ℕ) → behind x ≡ 1 → is_call x ≡ true → Tells lowest mark to (i ∷ []) places more
        → close_from lowest f 0 places (x ∷ mark i ∷ k) ≡ x ∷ to i ∷ close_from lowest g 0 more k
    unfolding close_from operand places_after Tells
    call-cells x i f g [] more k b n h = absurd h
    call-cells x i f g (p ∷ places) more k b n h = rw (b, n, aimed-so i p places h.0) (ap (λ m. x ∷ to i ∷ m) (any-first x g places more k h.1))

    module _ (prog : List Rule) where
      plain_closed : (p : Plain) (v c : Bool) → OkPlain prog p v c → (f g : ℕ) (places more k : List ℕ) → Tells lowest mark to (number_of p) places more
          → close_from lowest f 0 places (plain_cells (renumber_plain mark p) k) ≡ plain_cells (renumber_plain to p) (close_from lowest g 0 more k)
      unfolding plain_cells renumber_plain number_of Tells OkPlain behind is_call
      plain_closed (match t) v c ok f g places more k h = two_cells 3 t f g places more k refl refl h
      plain_closed any v c ok f g places more k h = one_cell 4 f g places more k refl h
      plain_closed (emit t) v c ok f g places more k h = two_cells 5 t f g places more k refl refl h
      plain_closed (error t) v c ok f g places more k h = two_cells 6 t f g places more k refl refl h
      plain_closed exit v c ok f g places more k h = one_cell 1 f g places more k refl h
      plain_closed (call r) v c ok f g places more k h = call-cells 8 r f g places more k refl refl h
      plain_closed back v c ok f g places more k h = one_cell 9 f g places more k refl h
      plain_closed (give w) v c ok f g places more k h = two_cells 10 w f g places more k refl refl h
      plain_closed (update op) v c ok f g places more k h = one_cell op f g places more k (behind-update op ok.0 ok.1) h
      plain_closed (update_with op w) v c ok f g places more k h = two_cells op w f g places more k (behind-update_with op ok.0 ok.1) (no_call op (omega (arith, ok.0))) h

      selector-closed : (s : Selector) → OkSelector prog s → (f g : ℕ) (places more k : List ℕ) → Tells lowest mark to (selector_number s) places more
          → close_from lowest f 0 places (selector_cells (renumber_selector mark s) k) ≡ selector_cells (renumber_selector to s) (close_from lowest g 0 more k)
      unfolding selector_cells renumber_selector selector_number Tells OkSelector behind is_call
      selector-closed by_token ok f g places more k h = one_cell 7 f g places more k refl h
      selector-closed (by_rule r) ok f g places more k h = call-cells 11 r f g places more k refl refl h
      selector-closed (by_operation op) ok f g places more k h = one_cell op f g places more k (behind-ask op ok.0 ok.1) h
      selector-closed (by_operation_with op w) ok f g places more k h = two_cells op w f g places more k (behind-ask_with op ok.0) (no_call op (omega (arith, ok.0))) h

      absent-same : (s : Selector) → absent_cell (renumber_selector mark s) ≡ absent_cell (renumber_selector to s)
      unfolding absent_cell renumber_selector
      absent-same by_token = refl
      absent-same (by_rule r) = refl
      absent-same (by_operation op) = refl
      absent-same (by_operation_with op v) = refl

      absent-alone : (s : Selector) → behind (absent_cell s) ≡ 0
      unfolding absent_cell behind
      absent-alone by_token = refl
      absent-alone (by_rule r) = refl
      absent-alone (by_operation op) = refl
      absent-alone (by_operation_with op v) = refl

      fewer : (ls : List ℕ) (b : Acts) (q : Alts) → count_labels (alternative ls b q) ≤ 64 → (length ls < 192) × (count_labels q ≤ 64)
      unfolding count_labels
      fewer ls b q h = (omega arith, omega arith)

      two-alone : behind 2 ≡ 0
      unfolding behind
      two-alone = refl

      other-alone : behind 13 ≡ 0
      unfolding behind
      other-alone = refl

      cell-alone : (x f g : ℕ) (places more k : List ℕ) → behind x ≡ 0 → Tells lowest mark to [] places more → close_from lowest f 0 places (x ∷ k) ≡ x ∷ close_from lowest g 0 more k
      unfolding Tells
      cell-alone x f g places more k b h = one_cell x f g places more k b h

      end-alone : (f g : ℕ) (places more k : List ℕ) → Tells lowest mark to [] places more → close_from lowest f 0 places (0 ∷ k) ≡ 0 ∷ close_from lowest g 0 more k
      unfolding behind
      end-alone f g places more k h = cell-alone 0 f g places more k refl h

      none-closed : (f g : ℕ) (places more k : List ℕ) → Tells lowest mark to [] places more → close_from lowest f 0 places k ≡ close_from lowest g 0 more k
      unfolding Tells
      none-closed f g places more k h = any-first f g places more k h

      mutual
        unfolding renumber act_cells numbers Ok Few

        act-closed : (a : Act) (v c : Bool) → Ok prog a v c → Few a → (f g : ℕ) (places more k : List ℕ) → Tells lowest mark to (numbers a) places more
            → close_from lowest f 0 places (act_cells (renumber mark a) k) ≡ act_cells (renumber to a) (close_from lowest g 0 more k)
        act-closed (plain p) v c ok few f g places more k h = plain_closed p v c ok f g places more k h
        act-closed (cycle b) v c ok few f g places more k h =
            one_cell 2 f 2 places places (acts_cells (renumbers mark b) k) two-alone refl ∙ ap (λ m. 2 ∷ m) (acts-closed b v true ok few 2 g places more k h)
        act-closed (choice s q o) v c ok few f g places more k h =
            let x = parted (selector_number s) (numbers_some q ++ numbers_other o) places more h in
            let y = parted (numbers_some q) (numbers_other o) x.between more x.right in
            let e = absent-same s in
            selector-closed s ok.0 f 0 places x.between (alts_cells (renumber_alts mark q) (other_cells (renumber_other mark o) (absent_cell (renumber_selector mark s)) k)) x.left
            ∙ ap (selector_cells (renumber_selector to s)) (alts-closed q v c ok.1 few.0 few.1 0 0 x.between y.between (other_cells (renumber_other mark o) (absent_cell (renumber_selector mark s)) k) y.left
            ∙ ap (alts_cells (renumber_alts to q)) (rw e (other-closed o (absent_cell (renumber_selector to s)) (absent-alone (renumber_selector to s)) v c ok.2 few.2 0 g y.between more k y.right)))

        pub acts-closed : (b : Acts) (v c : Bool) → Oks prog b v c → FewAll b → (f g : ℕ) (places more k : List ℕ) → Tells lowest mark to (numbers_all b) places more
            → close_from lowest f 0 places (acts_cells (renumbers mark b) k) ≡ acts_cells (renumbers to b) (close_from lowest g 0 more k)
        acts-closed done v c ok few f g places more k h = end-alone f g places more k h
        acts-closed (a ▸ q) v c ok few f g places more k h =
            let x = parted (numbers a) (numbers_all q) places more h in
            act-closed a v c ok.0 few.0 f 0 places x.between (acts_cells (renumbers mark q) k) x.left
            ∙ ap (act_cells (renumber to a)) (acts-closed q v c ok.1 few.1 0 g x.between more k x.right)

        alts-closed : (q : Alts) (v c : Bool) → OkAlts prog q v c → count_labels q ≤ 64 → FewSome q → (f g : ℕ) (places more k : List ℕ) → Tells lowest mark to (numbers_some q) places more
            → close_from lowest f 0 places (alts_cells (renumber_alts mark q) k) ≡ alts_cells (renumber_alts to q) (close_from lowest g 0 more k)
        alts-closed nil v c ok n few f g places more k h = none-closed f g places more k h
        alts-closed (alternative ls b q) v c ok n few f g places more k h =
            let x = parted (numbers_all b) (numbers_some q) places more h in
            let l = fewer ls b q n in
            some-cells (64 + length ls) f 0 places places ls (acts_cells (renumbers mark b) (alts_cells (renumber_alts mark q) k)) (behind-labels (length ls) l.0) (no_call (64 + length ls) (omega arith)) refl
            ∙ ap (λ m. (64 + length ls) ∷ (ls ++ m)) (acts-closed b v c ok.1 few.1 0 0 places x.between (alts_cells (renumber_alts mark q) k) x.left
            ∙ ap (acts_cells (renumbers to b)) (alts-closed q v c ok.2 l.1 few.2 0 g x.between more k x.right))

        other-closed : (o : Other) (cell : ℕ) → behind cell ≡ 0 → (v c : Bool) → OkOther prog o v c → FewOther o → (f g : ℕ) (places more k : List ℕ) → Tells lowest mark to (numbers_other o) places more
            → close_from lowest f 0 places (other_cells (renumber_other mark o) cell k) ≡ other_cells (renumber_other to o) cell (close_from lowest g 0 more k)
        other-closed absent cell b v c ok few f g places more k h = cell-alone cell f g places more k b h
        other-closed (otherwise b) cell e v c ok few f g places more k h =
            one_cell 13 f 13 places places (acts_cells (renumbers mark b) k) other-alone refl ∙ ap (λ m. 13 ∷ m) (acts-closed b v c ok few 13 g places more k h)

      -- the whole of a rule
      pub closed : (b : Acts) (v c : Bool) → Oks prog b v c → FewAll b → (places more : List ℕ) → Tells lowest mark to (numbers_all b) places more
          → close_cells lowest places (acts_cells (renumbers mark b) []) ≡ acts_cells (renumbers to b) []
      unfolding close_cells close_from
      closed b v c ok few places more h = acts-closed b v c ok few 0 0 places more [] h
