-- The cells of actions that may stand in an object pass the test, whatever their calls are numbered by.
use mathlib.Core.Bool.{Bool, true, false, ◌&&◌, ◌||◌, not}
use mathlib.Core.List.{List, [], ◌∷◌, ◌++◌}
use mathlib.Core.Option.{Option, none, some}
use mathlib.Core.Path.{◌≡◌, refl, sym, ap, ◌∙◌}
use native.Mathlib.Omega.{arith}
use Prim.Native.Nat.{ℕ, zero, suc, ◌+◌, ◌-◌, ◌≤◌}
use borrow.Author.Tests.{ne_eqb, le-leb}
use lib.Dec.{eqb}
use lib.ListN.{length, get_or, length-append}
use lib.Seq.{drop-append_seam}
use Rattle.base.specs.Bools as bools
use Rattle.base.specs.Tree.{plain, cycle, choice, done, ◌▸◌, nil, alternative, absent, otherwise}
use Rattle.calls.specs.Renumber.{renumber_plain, renumber_selector, renumber, renumbers, renumber_alts, renumber_other}
use Rattle.cells.specs.Cells.{plain_cells, selector_cells, absent_cell, act_cells, acts_cells, alts_cells, other_cells}
use Rattle.names.specs.Uses.{Use}
use Rattle.parts.proofs.Sound.{frame_at}
use Rattle.parts.specs.Form.{mark_of}
use Rattle.parts.specs.Objects.{Aim, named, ranked}
use Rattle.parts.specs.Sound as sound
use Rattle.parts.specs.Sound.{number_of, selector_number, numbers, numbers_all, numbers_some, numbers_other, Few, FewAll, FewSome, FewOther, Deep, DeepAll, DeepSome, DeepOther, frame, StandsFor}
use Rattle.syntax.specs.Texts.{Head}
use Rattle.program.specs.Accepted.{Calls, OkPlain, OkSelector, Ok, Oks, OkAlts, OkOther}
use Rattle.syntax.specs.Texts.{Head}
use Rattle.program.specs.Past.{plain_past, is_exit, exits, exits_all, exits_some, exits_other, past, past_all, past_some, past_other}
use Rattle.program.specs.Program.{Plain, match, any, emit, error, exit, call, back, give, update, update_with, Selector, by_token, by_rule, by_operation, by_operation_with, Act, Acts, Alts, Other, Rule}
use Rattle.program.specs.Table.{count_labels}
use Rattle.objects.proofs.Marks.{nothing, word_of, is_token, absent_of, absent-is, May, OnNil, on-nil, later-nil, or_right, Spends, parted, one_name_lem, mark-named, mark-ranked, sort-alone, sort-taking, sort-asking, sort-asking_with, arm-labels, act-longer, acts-longer, selector-longer}
use Rattle.objects.specs.Order.{sort_of, arm_of, Went, joined, in_row, beside, either_of, around, deeper, on_operand, stands_at, is_listed, call_ok, rule_ok, on_call, an_act, an_arm, acts, arms}
use Rattle.objects.specs.View.{Name, Pair}

abbrev pub went : List ℕ → List Name → Bool → Bool → Went
went cells names p x = record { cells = cells; names = names; past = p; exits = x }

-- there is an action
unfoldable begins : List ℕ → Bool
begins [] = false
begins (x ∷ cells) = not (eqb x 0)

enters : (left : ℕ) (r : Option Went) → 1 ≤ left → deeper left r ≡ r
unfolding deeper
enters left r l = rw (ne_eqb left 0 (λ e. omega (arith, l, e)))

module _ (hs : List Head) (pairs : List Pair) (aims : List Aim) (first : ℕ) (v : Bool)
    (ranked-at : (i : ℕ) (u : Use) (n : Name) → get_or aims i nothing ≡ ranked u → u.operand.text ≡ n.text → stands_at pairs (i - first) n ≡ true) where
  abbrev mark : ℕ → ℕ
  mark i = mark_of aims first i

  abbrev prog : List Rule
  prog = frame hs aims

  valued-at : (i : ℕ) (b : Bool) → Calls prog i b → (sound.sort_of hs (get_or aims i nothing)).valued ≡ b
  valued-at i b h = ap (λ (r : Rule). r.valued) (sym (frame_at hs aims i h.there)) ∙ h.sort

  call_passes : (i : ℕ) (n : Name) → Calls prog i false → StandsFor (get_or aims i nothing) (word_of n) → call_ok hs pairs (mark i) n ≡ true
  unfolding call_ok is_listed StandsFor sound.sort_of
  call_passes i n h s = go (get_or aims i nothing) refl s (valued-at i false h)
    where
      go : (a : Aim) → get_or aims i nothing ≡ a → StandsFor a (word_of n) → (sound.sort_of hs a).valued ≡ false → call_ok hs pairs (mark i) n ≡ true
      go (named t) d s₁ e = rw (mark-named aims first i t d, ← s₁, e)
      go (ranked u) d s₁ e = rw (mark-ranked aims first i u d) (ranked-at i u n d s₁)

  rule-passes : (i : ℕ) (n : Name) → Calls prog i true → StandsFor (get_or aims i nothing) (word_of n) → rule_ok hs pairs (mark i) n ≡ true
  unfolding rule_ok is_listed StandsFor sound.sort_of
  rule-passes i n h s = go (get_or aims i nothing) refl s (valued-at i true h)
    where
      go : (a : Aim) → get_or aims i nothing ≡ a → StandsFor a (word_of n) → (sound.sort_of hs a).valued ≡ true → rule_ok hs pairs (mark i) n ≡ true
      go (named t) d s₁ e = rw (mark-named aims first i t d, ← s₁) e
      go (ranked u) d s₁ e = bools.never e

  abbrev Outcome : Type 0
  Outcome = Option Went

  -- an action by the cells that it begins with
  unfoldable act_at : ℕ → ℕ → Bool → List ℕ → List Name → Outcome
  act_at k left c [] names = none
  act_at k left c (x ∷ cells) names = an_act hs pairs v (λ l d s n. acts hs pairs v k l d s n) (λ l d b t r s n. arms hs pairs v k l d b t r s n) left c (sort_of x) cells names

  record Begins (k left : ℕ) (c : Bool) (cells : List ℕ) (names : List Name) (w : Went) : Type 0 where
    pub starts : begins cells ≡ true
    pub gives : act_at k left c cells names ≡ some w

  acts-more : (k left : ℕ) (c : Bool) (cells : List ℕ) (names : List Name) → begins cells ≡ true
      → acts hs pairs v (suc k) left c cells names ≡ in_row (act_at k left c cells names) (λ s n. acts hs pairs v k left c s n)
  unfolding acts act_at begins
  acts-more k left c [] names b = bools.never b
  acts-more k left c (x ∷ cells) names b = go (eqb x 0) refl
    where
      go : (t : Bool) → eqb x 0 ≡ t → acts hs pairs v (suc k) left c (x ∷ cells) names ≡ in_row (act_at k left c (x ∷ cells) names) (λ s n. acts hs pairs v k left c s n)
      go true d = bools.never (rw d at b)
      go false d = rw d

  large : (x : ℕ) → 1 ≤ x → not (eqb x 0) ≡ true
  large x l = rw (ne_eqb x 0 (λ e. omega (arith, l, e)))

  plain_passes : (p : Plain) (k left : ℕ) (c : Bool) → OkPlain prog p v c → (names more : List Name) → Spends aims (number_of p) names more → (rest : List ℕ)
      → Begins k left c (plain_cells (renumber_plain mark p) rest) names (went rest more (plain_past p) (is_exit p))
  unfolding OkPlain number_of Spends plain_cells renumber_plain plain_past is_exit act_at begins an_act sort_of on_operand on_call
  plain_passes (match t) k left c ok names more s rest = record { starts = refl; gives = rw s }
  plain_passes any k left c ok names more s rest = record { starts = refl; gives = rw s }
  plain_passes (emit t) k left c ok names more s rest = record { starts = refl; gives = rw s }
  plain_passes (error t) k left c ok names more s rest = record { starts = refl; gives = rw s }
  plain_passes exit k left c ok names more s rest = record { starts = refl; gives = rw (s, ok) }
  plain_passes (call r) k left c ok names more s rest =
      let x = one_name_lem aims r names more s in
      record { starts = refl; gives = rw (x.are, call_passes r x.first ok x.stands) }
  plain_passes back k left c ok names more s rest = record { starts = refl; gives = rw (s, ok) }
  plain_passes (give w) k left c ok names more s rest = record { starts = refl; gives = rw (s, ok.0) }
  plain_passes (update op) k left c ok names more s rest = let l = ok.0 in record { starts = large op (omega (arith, l)); gives = rw (s, sort-alone op ok.0 ok.1) }
  plain_passes (update_with op w) k left c ok names more s rest = let l = ok.0 in record { starts = large op (omega (arith, l)); gives = rw (s, sort-taking op ok.0 ok.1) }

  -- Choices

  -- the alternatives of a choice, once its selector is read
  choice-passes : (s : Selector) (k left : ℕ) (c : Bool) → OkSelector prog s → 1 ≤ left → (names between : List Name) → Spends aims (selector_number s) names between → (cells : List ℕ) (w : Went)
      → arms hs pairs v k (left - 1) c (is_token s) false 64 cells between ≡ some w → Begins k left c (selector_cells (renumber_selector mark s) cells) names w
  unfolding OkSelector selector_number Spends selector_cells renumber_selector is_token act_at begins an_act sort_of on_operand on_call
  choice-passes by_token k left c ok l names between s cells w e = record { starts = refl; gives = rw (s, enters left (arms hs pairs v k (left - 1) c true false 64 cells between) l) e }
  choice-passes (by_rule r) k left c ok l names between s cells w e =
      let x = one_name_lem aims r names between s in
      record { starts = refl; gives = rw (x.are, rule-passes r x.first ok x.stands, enters left (arms hs pairs v k (left - 1) c false false 64 cells between) l) e }
  choice-passes (by_operation op) k left c ok l names between s cells w e =
      let h = ok.0 in
      record { starts = large op (omega (arith, h)); gives = rw (s, sort-asking op ok.0 ok.1, enters left (arms hs pairs v k (left - 1) c false false 64 cells between) l) e }
  choice-passes (by_operation_with op y) k left c ok l names between s cells w e =
      let h = ok.0 in
      record { starts = large op (omega (arith, h)); gives = rw (s, sort-asking_with op ok.0 ok.1, enters left (arms hs pairs v k (left - 1) c false false 64 cells between) l) e }

  -- what the cells behind the alternatives give, with any room
  Behind : ℕ → Bool → Bool → Other → List ℕ → List Name → Went → Type 0
  Behind left c tok o cells names w = (k room : ℕ) (some₁ : Bool) → May tok o some₁ → length cells ≤ k → arms hs pairs v k left c tok some₁ room cells names ≡ some w

  absent-passes : (tok : Bool) (left : ℕ) (c : Bool) (rest : List ℕ) (names : List Name) → Behind left c tok absent (absent_of tok ∷ rest) names (went rest names false false)
  unfolding Behind May absent_of arms an_arm arm_of
  absent-passes tok left c rest names zero room some₁ m l = absurd (omega (arith, l))
  absent-passes true left c rest names (suc k) room some₁ m l = rw (m refl)
  absent-passes false left c rest names (suc k) room some₁ m l = refl

  abbrev cells_all : Acts → List ℕ → List ℕ
  cells_all q rest = acts_cells (renumbers mark q) rest

  abbrev cells_some : Alts → List ℕ → List ℕ
  cells_some q rest = alts_cells (renumber_alts mark q) rest

  labels-pass : (k left : ℕ) (c tok some₁ : Bool) (room : ℕ) (ls cells : List ℕ) (names : List Name) → 1 ≤ length ls → length ls ≤ room
      → arms hs pairs v (suc k) left c tok some₁ room ((64 + length ls) ∷ (ls ++ cells)) names
      ≡ either_of (acts hs pairs v k left c cells names) (λ s n. arms hs pairs v k left c tok true (room - length ls) s n)
  unfolding arms an_arm
  labels-pass k left c tok some₁ room ls cells names l h =
      let e = length-append ls cells in
      rw (arm-labels (length ls) l, le-leb (length ls) room h, le-leb (length ls) (length (ls ++ cells)) (omega (arith, e)), drop-append_seam ls cells)

  -- Each outcome of the walk, over plain variables

  cycle-passes : (k left : ℕ) (c : Bool) (cells : List ℕ) (names : List Name) (rest : List ℕ) (more : List Name) (p e : Bool) → 1 ≤ left → acts hs pairs v k (left - 1) true cells names ≡ some (went rest more p e)
      → Begins k left c (2 ∷ cells) names (went rest more e false)
  unfolding act_at begins an_act sort_of around
  cycle-passes k left c cells names rest more p e l h = record { starts = refl; gives = rw (h, enters left (some (went rest more e false)) l) }

  done-passes : (k left : ℕ) (c : Bool) (rest : List ℕ) (names more : List Name) → Spends aims [] names more → acts hs pairs v (suc k) left c (0 ∷ rest) names ≡ some (went rest more true false)
  unfolding acts Spends
  done-passes k left c rest names more s = rw s

  row-passes : (k left : ℕ) (c : Bool) (cells cells₁ : List ℕ) (names between : List Name) (rest : List ℕ) (more : List Name) (p e p₁ e₁ : Bool) → Begins k left c cells names (went cells₁ between p e)
      → acts hs pairs v k left c cells₁ between ≡ some (went rest more p₁ e₁) → acts hs pairs v (suc k) left c cells names ≡ some (went rest more (p && p₁) (e || e₁))
  unfolding in_row joined
  row-passes k left c cells cells₁ names between rest more p e p₁ e₁ y z = acts-more k left c cells names y.starts ∙ rw (y.gives, z)

  nil-passes : (k left : ℕ) (c tok some₁ : Bool) (room : ℕ) (o : Other) (cells : List ℕ) (names between : List Name) (rest : List ℕ) (more : List Name) (p e : Bool)
      → Behind left c tok o cells between (went rest more p e) → OnNil nil (May tok o some₁) → Spends aims [] names between → length cells ≤ k
      → arms hs pairs v k left c tok some₁ room cells names ≡ some (went rest more p e)
  unfolding Behind OnNil Spends
  nil-passes k left c tok some₁ room o cells names between rest more p e b m s l = rw s (b k room some₁ m l)

  fewer : (ls : List ℕ) (a : Acts) (q : Alts) (room : ℕ) → count_labels (alternative ls a q) ≤ room → count_labels q ≤ room - length ls
  unfolding count_labels
  fewer ls a q room h = omega (arith, h)

  few-labels : (ls : List ℕ) (a : Acts) (q : Alts) (room : ℕ) → count_labels (alternative ls a q) ≤ room → length ls ≤ room
  unfolding count_labels
  few-labels ls a q room h = omega (arith, h)

  arm-passes : (r : Outcome) (f : List ℕ → List Name → Outcome) (cells : List ℕ) (between : List Name) (rest : List ℕ) (more : List Name) (p e p₁ e₁ p₂ e₂ : Bool)
      → r ≡ some (went cells between p e) → f cells between ≡ some (went rest more (p₁ || p₂) (e₁ || e₂))
      → either_of r f ≡ some (went rest more ((p || p₁) || p₂) ((e || e₁) || e₂))
  unfolding either_of beside
  arm-passes r f cells between rest more p e p₁ e₁ p₂ e₂ y z = rw (y, z, or_right p p₁ p₂, or_right e e₁ e₂)

  nothing-passes : (tok : Bool) (left : ℕ) (c : Bool) (rest : List ℕ) (names more : List Name) → Spends aims [] names more → Behind left c tok absent (absent_of tok ∷ rest) names (went rest more false false)
  unfolding Spends
  nothing-passes tok left c rest names more s = rw s (absent-passes tok left c rest more)

  otherwise-passes : (tok : Bool) (left : ℕ) (c : Bool) (b : Acts) (cells : List ℕ) (names : List Name) (w : Went) → ((k : ℕ) → length cells ≤ k → acts hs pairs v k left c cells names ≡ some w)
      → Behind left c tok (otherwise b) (13 ∷ cells) names w
  unfolding Behind arms an_arm arm_of
  otherwise-passes tok left c b cells names w h zero room some₁ m l = absurd (omega (arith, l))
  otherwise-passes tok left c b cells names w h (suc k) room some₁ m l = h k (omega (arith, l))

  mutual
    unfolding renumber act_cells numbers Ok Few Deep past exits

    act-passes : (a : Act) (k left : ℕ) (c : Bool) → Ok prog a v c → Few a → Deep a left → (names more : List Name) → Spends aims (numbers a) names more → (rest : List ℕ)
        → length (act_cells (renumber mark a) rest) ≤ suc k → Begins k left c (act_cells (renumber mark a) rest) names (went rest more (past a) (exits a))
    act-passes (plain p) k left c ok few deep names more s rest l = plain_passes p k left c ok names more s rest
    act-passes (cycle b) k left c ok few deep names more s rest l =
        cycle-passes k left c (cells_all b rest) names rest more (past_all b) (exits_all b) deep.0 (acts-pass b k (left - 1) true ok few deep.1 names more s rest (omega (arith, l)))
    act-passes (choice s q o) k left c ok few deep names more sp rest l =
        let x = parted aims (selector_number s) (numbers_some q ++ numbers_other o) names more sp in
        let y = parted aims (numbers_some q) (numbers_other o) x.between more x.right in
        let e = absent-is mark s in
        let inside = alts_cells (renumber_alts mark q) (other_cells (renumber_other mark o) (absent_cell (renumber_selector mark s)) rest) in
        let d = selector-longer (renumber_selector mark s) inside in
        let l₁ : length (selector_cells (renumber_selector mark s) inside) ≤ suc k = l in
        let b = other-passes o (is_token s) (left - 1) c ok.2 few.2 deep.2 y.between more y.right rest in
        choice-passes s k left c ok.0 deep.0 names x.between x.left _ (went rest more (past (choice s q o)) (exits (choice s q o)))
        (rw e (alts-pass q k (left - 1) c (is_token s) false 64 o (other_cells (renumber_other mark o) (absent_of (is_token s)) rest) y.between rest more (past_other o) (exits_other o) b
        (on-nil s q o ok.3) ok.1 few.0 few.1 deep.1 x.between y.left (rw (← e) (omega (arith, l₁, d)))))

    pub acts-pass : (q : Acts) (k left : ℕ) (c : Bool) → Oks prog q v c → FewAll q → DeepAll q left → (names more : List Name) → Spends aims (numbers_all q) names more → (rest : List ℕ)
        → length (cells_all q rest) ≤ k → acts hs pairs v k left c (cells_all q rest) names ≡ some (went rest more (past_all q) (exits_all q))
    acts-pass done zero left c ok few deep names more s rest l = absurd (omega (arith, l))
    acts-pass done (suc k) left c ok few deep names more s rest l = done-passes k left c rest names more s
    acts-pass (a ▸ q) zero left c ok few deep names more s rest l = let h = act-longer (renumber mark a) (cells_all q rest) in absurd (omega (arith, l, h))
    acts-pass (a ▸ q) (suc k) left c ok few deep names more s rest l =
        let h = act-longer (renumber mark a) (cells_all q rest) in
        let x = parted aims (numbers a) (numbers_all q) names more s in
        let y = act-passes a k left c ok.0 few.0 deep.0 names x.between x.left (cells_all q rest) l in
        let z = acts-pass q k left c ok.1 few.1 deep.1 x.between more x.right rest (omega (arith, l, h)) in
        row-passes k left c (act_cells (renumber mark a) (cells_all q rest)) (cells_all q rest) names x.between rest more (past a) (exits a) (past_all q) (exits_all q) y z

    alts-pass : (q : Alts) (k left : ℕ) (c tok some₁ : Bool) (room : ℕ) (o : Other) (cells : List ℕ) (between : List Name) (rest : List ℕ) (more : List Name) (p e : Bool)
        → Behind left c tok o cells between (went rest more p e) → OnNil q (May tok o some₁) → OkAlts prog q v c → count_labels q ≤ room → FewSome q → DeepSome q left
        → (names : List Name) → Spends aims (numbers_some q) names between → length (cells_some q cells) ≤ k
        → arms hs pairs v k left c tok some₁ room (cells_some q cells) names ≡ some (went rest more (past_some q || p) (exits_some q || e))
    alts-pass nil k left c tok some₁ room o cells between rest more p e b m ok n few deep names s l = nil-passes k left c tok some₁ room o cells names between rest more p e b m s l
    alts-pass (alternative ls a q) zero left c tok some₁ room o cells between rest more p e b m ok n few deep names s l = absurd (omega (arith, l))
    alts-pass (alternative ls a q) (suc k) left c tok some₁ room o cells between rest more p e b m ok n few deep names s l =
        let x = parted aims (numbers_all a) (numbers_some q) names between s in
        let g = length-append ls (cells_all a (cells_some q cells)) in
        let h = acts-longer (renumbers mark a) (cells_some q cells) in
        let y = acts-pass a k left c ok.1 few.1 deep.0 names x.between x.left (cells_some q cells) (omega (arith, l, g)) in
        let z = alts-pass q k left c tok true (room - length ls) o cells between rest more p e b (later-nil q tok o) ok.2 (fewer ls a q room n) few.2 deep.1 x.between x.right (omega (arith, l, g, h)) in
        labels-pass k left c tok some₁ room ls (cells_all a (cells_some q cells)) names few.0 (few-labels ls a q room n)
        ∙ arm-passes _ (λ s n. arms hs pairs v k left c tok true (room - length ls) s n) (cells_some q cells) x.between rest more (past_all a) (exits_all a) (past_some q) (exits_some q) p e y z

    other-passes : (o : Other) (tok : Bool) (left : ℕ) (c : Bool) → OkOther prog o v c → FewOther o → DeepOther o left → (names more : List Name) → Spends aims (numbers_other o) names more → (rest : List ℕ)
        → Behind left c tok o (other_cells (renumber_other mark o) (absent_of tok) rest) names (went rest more (past_other o) (exits_other o))
    other-passes absent tok left c ok few deep names more s rest = nothing-passes tok left c rest names more s
    other-passes (otherwise b) tok left c ok few deep names more s rest =
        otherwise-passes tok left c b (cells_all b rest) names (went rest more (past_all b) (exits_all b)) (λ k l. acts-pass b k left c ok few deep names more s rest l)
