-- Cells that pass the test are those of actions that may stand in an object, with calls by any numbers that stand for the names.
use mathlib.Core.Bool.{Bool, true, false, ◌&&◌, ◌||◌}
use mathlib.Core.List.{List, [], ◌∷◌, ◌++◌, append_assoc}
use mathlib.Core.Logic.{inl, inr}
use mathlib.Core.Option.{Option, none, some}
use mathlib.Core.Path.{◌≡◌, refl, sym, ap, ◌∙◌, subst}
use native.Mathlib.Omega.{arith}
use Prim.Native.Nat.{ℕ, zero, suc, ◌+◌, ◌-◌, ◌<◌, ◌≤◌}
use borrow.Author.Tests.{eqb-true, eqb-false, leb-true, not-true}
use lib.Dec.{eqb, leb}
use lib.ListN.{length, get_or, take, drop, take-append-drop}
use lib.Seq.{length-take-le}
use Rattle.acceptance.proofs.Shape.{Each}
use Rattle.base.specs.Bools as bools
use Rattle.std.specs.Prelude.{if◌then◌else◌}
use Rattle.base.specs.Tree.{plain, cycle, choice, done, ◌▸◌, nil, alternative, absent, otherwise}
use Rattle.calls.specs.Renumber.{renumber_plain, renumber_selector, renumber, renumbers, renumber_alts, renumber_other}
use Rattle.cells.specs.Cells.{plain_cells, selector_cells, act_cells, acts_cells, alts_cells, other_cells}
use Rattle.names.specs.Uses.{Use}
use Rattle.parts.proofs.Numbers.{none-some}
use Rattle.parts.proofs.Sound.{frame_at}
use Rattle.parts.specs.Form.{mark_of}
use Rattle.parts.specs.Objects.{Aim, named, ranked}
use Rattle.parts.specs.Sound as sound
use Rattle.parts.specs.Sound.{number_of, selector_number, numbers, numbers_all, numbers_some, numbers_other, Few, FewAll, FewSome, FewOther, Deep, DeepAll, DeepSome, DeepOther, frame, StandsFor}
use Rattle.syntax.specs.Texts.{Head}
use Rattle.program.specs.Accepted.{Values, Calls, OkPlain, OkSelector, Ok, Oks, OkAlts, OkOther}
use Rattle.syntax.specs.Texts.{Head}
use Rattle.program.specs.Past.{plain_past, is_exit, exits, exits_all, exits_some, exits_other, past, past_all, past_some, past_other}
use Rattle.program.specs.Program.{Plain, match, any, emit, error, exit, call, back, give, update, update_with, Selector, by_token, by_rule, by_operation, by_operation_with, Alts, Other, Rule}
use Rattle.program.specs.Table.{count_labels}
use Rattle.objects.proofs.Complete.{went}
use Rattle.objects.proofs.Marks.{nothing, word_of, is_token, absent_of, absent-is, May, OnNil, needs-label, or_right, Spends, spends, mark-named, mark-ranked, SortIs, sort-is, ArmIs, arm_is}
use Rattle.objects.specs.Order.{Sort, ends, leaves, turns, alone, taking, calling, returning, giving, token, ruled, asking, asking_with, unknown, sort_of, Arm, bare, bare_token, other, labels, no_arm, arm_of, Went, joined, in_row, beside, either_of, around, deeper, on_operand, stands_at, is_listed, call_ok, rule_ok, on_call, Actions, Choices, an_act, an_arm, acts, arms}
use Rattle.objects.specs.View.{Name, Pair}

pub values-take : (n : ℕ) (xs : List ℕ) → Values xs → Values (take n xs)
unfolding Values
values-take zero xs h = tt
values-take (suc n) [] h = tt
values-take (suc n) (x ∷ xs) h = (h.0, values-take n xs h.1)

pub values-drop : (n : ℕ) (xs : List ℕ) → Values xs → Values (drop n xs)
unfolding Values
values-drop zero xs h = h
values-drop (suc n) [] h = tt
values-drop (suc n) (x ∷ xs) h = values-drop n xs h.1

pub some_same : {A : Type 0} {a b : A} → some a ≡ some b → a ≡ b
some_same e = cc

frame-length : (hs : List Head) (xs : List Aim) → length (frame hs xs) ≡ length xs
unfolding frame
frame-length hs [] = refl
frame-length hs (a ∷ xs) = ap suc (frame-length hs xs)

-- a number that stands for the rule of a name
pub record Numbered (aims : List Aim) (n : Name) : Type 0 where
  pub number : ℕ
  pub aim : get_or aims number nothing ≡ named n.text
  pub there : number < length aims

-- a number that stands for the rules of the k-th pair, whose operand rule has that name
pub record Ranks (aims : List Aim) (first k : ℕ) (n : Name) : Type 0 where
  pub pair : Use
  pub aim : get_or aims (first + k) nothing ≡ ranked pair
  pub operand : pair.operand.text ≡ n.text
  pub there : first + k < length aims

-- what was found: a tree whose cells and calls these are, in order, and how it ends
pub record Found (aims : List Aim) {T : Type 0} (cells_of : T → List ℕ → List ℕ) (numbers_of : T → List ℕ) (Good : T → Type 0) (past_of exits_of : T → Bool) (cells : List ℕ) (names : List Name) (w : Went) : Type 0 where
  pub tree : T
  pub cells_are : cells ≡ cells_of tree w.cells
  pub used : Spends aims (numbers_of tree) names w.names
  pub good : Good tree
  pub past_is : w.past ≡ past_of tree
  pub exits-is : w.exits ≡ exits_of tree
  pub values : Values w.cells
  pub known : Each (Numbered aims) w.names

-- the alternatives of a choice
pub record Arms : Type 0 where
  pub labelled : Alts
  pub default : Other

module _ (hs : List Head) (pairs : List Pair) (aims : List Aim) (first : ℕ) (v : Bool) (pair-at : (k : ℕ) (n : Name) → stands_at pairs k n ≡ true → Ranks aims first k n) where
  abbrev mark : ℕ → ℕ
  mark i = mark_of aims first i

  abbrev prog : List Rule
  prog = frame hs aims

  abbrev Names : List Name → Type 0
  Names ns = Each (Numbered aims) ns

  abbrev FoundAct : ℕ → Bool → List ℕ → List Name → Went → Type 0
  FoundAct left c = Found aims (λ a k. act_cells (renumber mark a) k) numbers (λ a. Ok prog a v c × Few a × Deep a left) past exits

  abbrev pub FoundActs : ℕ → Bool → List ℕ → List Name → Went → Type 0
  FoundActs left c = Found aims (λ b k. acts_cells (renumbers mark b) k) numbers_all (λ b. Oks prog b v c × FewAll b × DeepAll b left) past_all exits_all

  abbrev ArmsOk : ℕ → Bool → Bool → Bool → ℕ → Arms → Type 0
  ArmsOk left c tok some₁ room t =
      OkAlts prog t.labelled v c × OkOther prog t.default v c × (count_labels t.labelled ≤ room) × FewSome t.labelled × FewOther t.default
      × DeepSome t.labelled left × DeepOther t.default left × OnNil t.labelled (May tok t.default some₁)

  abbrev FoundArms : ℕ → Bool → Bool → Bool → ℕ → List ℕ → List Name → Went → Type 0
  FoundArms left c tok some₁ room =
      Found aims (λ t k. alts_cells (renumber_alts mark t.labelled) (other_cells (renumber_other mark t.default) (absent_of tok) k)) (λ t. numbers_some t.labelled ++ numbers_other t.default)
      (ArmsOk left c tok some₁ room) (λ t. past_some t.labelled || past_other t.default) (λ t. exits_some t.labelled || exits_other t.default)

  -- Calls

  record CallFound (m : ℕ) (n : Name) (b : Bool) : Type 0 where
    pub number : ℕ
    pub marked : mark number ≡ m
    pub calls : Calls prog number b
    pub stands : StandsFor (get_or aims number nothing) (word_of n)

  calls_at : (i : ℕ) (a : Aim) (b : Bool) → get_or aims i nothing ≡ a → i < length aims → (sound.sort_of hs a).valued ≡ b → Calls prog i b
  calls_at i a b d l e =
      let h = frame-length hs aims in
      let there : i < length prog = omega (arith, h, l) in
      record { there = there; sort = ap (λ (r : Rule). r.valued) (frame_at hs aims i there) ∙ ap (λ (a : Aim). (sound.sort_of hs a).valued) d ∙ e }

  by_name : (n : Name) (b : Bool) → Numbered aims n → is_listed hs n ≡ b → CallFound 0 n b
  unfolding is_listed StandsFor sound.sort_of
  by_name n b x e = record {
    number = x.number;
    marked = mark-named aims first x.number n.text x.aim;
    calls = calls_at x.number (named n.text) b x.aim x.there e;
    stands = rw x.aim refl;
  }

  call-found : (m : ℕ) (n : Name) → call_ok hs pairs m n ≡ true → Numbered aims n → CallFound m n false
  unfolding call_ok StandsFor sound.sort_of
  call-found zero n e x = by_name n false x (not-true (is_listed hs n) e)
  call-found (suc k) n e x =
      let y = pair-at k n e in
      let d : first + k - first ≡ k = omega arith in
      record {
        number = first + k;
        marked = mark-ranked aims first (first + k) y.pair y.aim ∙ ap suc d;
        calls = calls_at (first + k) (ranked y.pair) false y.aim y.there refl;
        stands = rw y.aim y.operand;
      }

  rule_found : (m : ℕ) (n : Name) → rule_ok hs pairs m n ≡ true → Numbered aims n → CallFound m n true
  unfolding rule_ok
  rule_found zero n e x = by_name n true x e
  rule_found (suc k) n e x = bools.never e

  -- Plain actions

  plainly : (p : Plain) (left : ℕ) (c : Bool) (cells : List ℕ) (names : List Name) (w : Went) (rest : List ℕ) (more : List Name) → cells ≡ plain_cells (renumber_plain mark p) rest → Spends aims (number_of p) names more
      → OkPlain prog p v c → Values rest → Names more → some (went rest more (plain_past p) (is_exit p)) ≡ some w → FoundAct left c cells names w
  unfolding renumber act_cells numbers Ok Few Deep past exits
  plainly p left c cells names w rest more d s ok vs ks e =
      subst (FoundAct left c cells names) (some_same e) (record { tree = plain p; cells_are = d; used = s; good = (ok, tt, tt); past_is = refl; exits-is = refl; values = vs; known = ks })

  alone-found : (left : ℕ) (c : Bool) (x : ℕ) (cells : List ℕ) (names : List Name) (w : Went) → SortIs alone x → Values cells → Names names → some (went cells names true false) ≡ some w → FoundAct left c (x ∷ cells) names w
  unfolding SortIs plain_cells renumber_plain number_of Spends OkPlain plain_past is_exit
  alone-found left c x cells names w (inl d) vs ks e = plainly any left c (x ∷ cells) names w cells names (rw d) refl tt vs ks e
  alone-found left c x cells names w (inr d) vs ks e = plainly (update x) left c (x ∷ cells) names w cells names refl refl d vs ks e

  taking-found : (left : ℕ) (c : Bool) (x : ℕ) (cells : List ℕ) (names : List Name) (w : Went) → SortIs taking x → Values cells → Names names
      → on_operand cells (λ cells. some (went cells names true false)) ≡ some w → FoundAct left c (x ∷ cells) names w
  unfolding SortIs plain_cells renumber_plain number_of Spends OkPlain plain_past is_exit on_operand Values
  taking-found left c x [] names w d vs ks e = none-some e
  taking-found left c x (o ∷ cells) names w (inl d) vs ks e = plainly (match o) left c (x ∷ o ∷ cells) names w cells names (rw d) refl vs.0 vs.1 ks e
  taking-found left c x (o ∷ cells) names w (inr (inl d)) vs ks e = plainly (emit o) left c (x ∷ o ∷ cells) names w cells names (rw d) refl vs.0 vs.1 ks e
  taking-found left c x (o ∷ cells) names w (inr (inr (inl d))) vs ks e = plainly (error o) left c (x ∷ o ∷ cells) names w cells names (rw d) refl vs.0 vs.1 ks e
  taking-found left c x (o ∷ cells) names w (inr (inr (inr d))) vs ks e = plainly (update_with x o) left c (x ∷ o ∷ cells) names w cells names refl refl (d.0, d.1, vs.0) vs.1 ks e

  calling-found : (left : ℕ) (c : Bool) (x : ℕ) (cells : List ℕ) (names : List Name) (w : Went) → x ≡ 8 → Values cells → Names names
      → on_call (call_ok hs pairs) cells names (λ cells names. some (went cells names true false)) ≡ some w → FoundAct left c (x ∷ cells) names w
  unfolding plain_cells renumber_plain number_of Spends OkPlain plain_past is_exit on_call Values Each
  calling-found left c x [] names w d vs ks e = none-some e
  calling-found left c x (m ∷ cells) [] w d vs ks e = none-some e
  calling-found left c x (m ∷ cells) (n ∷ names) w d vs ks e = go (call_ok hs pairs m n) refl e
    where
      go : (t : Bool) → call_ok hs pairs m n ≡ t → (if t then some (went cells names true false) else none) ≡ some w → FoundAct left c (x ∷ m ∷ cells) (n ∷ names) w
      go true f e₁ =
          let y = call-found m n f ks.0 in
          plainly (call y.number) left c (x ∷ m ∷ cells) (n ∷ names) w cells names (rw (d, y.marked)) (y.stands, refl) y.calls vs.1 ks.1 e₁
      go false f e₁ = none-some e₁

  leaves-found : (left : ℕ) (c : Bool) (x : ℕ) (cells : List ℕ) (names : List Name) (w : Went) → x ≡ 1 → Values cells → Names names → (if c then some (went cells names false true) else none) ≡ some w
      → FoundAct left c (x ∷ cells) names w
  unfolding plain_cells renumber_plain number_of Spends OkPlain plain_past is_exit
  leaves-found left true x cells names w d vs ks e = plainly exit left true (x ∷ cells) names w cells names (rw d) refl refl vs ks e
  leaves-found left false x cells names w d vs ks e = none-some e

  returning-found : (left : ℕ) (c : Bool) (x : ℕ) (cells : List ℕ) (names : List Name) (w : Went) → x ≡ 9 → Values cells → Names names → (t : Bool) → v ≡ t → (if t then none else some (went cells names false false)) ≡ some w
      → FoundAct left c (x ∷ cells) names w
  unfolding plain_cells renumber_plain number_of Spends OkPlain plain_past is_exit
  returning-found left c x cells names w d vs ks true f e = none-some e
  returning-found left c x cells names w d vs ks false f e = plainly back left c (x ∷ cells) names w cells names (rw d) refl f vs ks e

  giving-found : (left : ℕ) (c : Bool) (x : ℕ) (cells : List ℕ) (names : List Name) (w : Went) → x ≡ 10 → Values cells → Names names → (t : Bool) → v ≡ t
      → (if t then on_operand cells (λ cells. some (went cells names false false)) else none) ≡ some w → FoundAct left c (x ∷ cells) names w
  unfolding plain_cells renumber_plain number_of Spends OkPlain plain_past is_exit on_operand Values
  giving-found left c x [] names w d vs ks true f e = none-some e
  giving-found left c x (o ∷ cells) names w d vs ks true f e = plainly (give o) left c (x ∷ o ∷ cells) names w cells names (rw d) refl (f, vs.0) vs.1 ks e
  giving-found left c x cells names w d vs ks false f e = none-some e

  -- Cycles and choices

  -- where there is an outcome one deeper, that may be entered
  deeper-is : (left : ℕ) (r : Option Went) (w : Went) → deeper left r ≡ some w → (1 ≤ left) × (r ≡ some w)
  unfolding deeper
  deeper-is left r w e = go (eqb left 0) refl e
    where
      go : (t : Bool) → eqb left 0 ≡ t → (if t then none else r) ≡ some w → (1 ≤ left) × (r ≡ some w)
      go true d e₁ = none-some e₁
      go false d e₁ = let n = eqb-false left 0 d in (omega (arith, n), e₁)

  abbrev InnerFound : Actions hs pairs v → Type 0
  InnerFound inner = (left : ℕ) (c : Bool) (cells : List ℕ) (names : List Name) (w : Went) → Values cells → Names names → inner left c cells names ≡ some w → FoundActs left c cells names w

  abbrev ChoicesFound : Choices hs pairs v → Type 0
  ChoicesFound choices = (left : ℕ) (c tok some₁ : Bool) (room : ℕ) (cells : List ℕ) (names : List Name) (w : Went) → Values cells → Names names → choices left c tok some₁ room cells names ≡ some w
      → FoundArms left c tok some₁ room cells names w

  turns-found : (inner : Actions hs pairs v) → InnerFound inner → (left : ℕ) (c : Bool) (x : ℕ) (cells : List ℕ) (names : List Name) (w : Went) → x ≡ 2 → Values cells → Names names
      → deeper left (around (inner (left - 1) true cells names)) ≡ some w → FoundAct left c (x ∷ cells) names w
  unfolding around renumber act_cells numbers Ok Few Deep past exits
  turns-found inner h left c x cells names w d vs ks e =
      let y = deeper-is left (around (inner (left - 1) true cells names)) w e in
      go y.0 (inner (left - 1) true cells names) refl y.1
    where
      entered : 1 ≤ left → (r : Went) → FoundActs (left - 1) true cells names r → FoundAct left c (x ∷ cells) names (went r.cells r.names r.exits false)
      entered l r y = record {
        tree = cycle y.tree;
        cells_are = rw d (ap (λ k. 2 ∷ k) y.cells_are);
        used = y.used;
        good = (y.good.0, y.good.1, (l, y.good.2));
        past_is = y.exits-is;
        exits-is = refl;
        values = y.values;
        known = y.known;
      }

      go : 1 ≤ left → (t : Option Went) → inner (left - 1) true cells names ≡ t → around t ≡ some w → FoundAct left c (x ∷ cells) names w
      go l none f e₁ = none-some e₁
      go l (some r) f e₁ = subst (FoundAct left c (x ∷ cells) names) (some_same e₁) (entered l r (h (left - 1) true cells names r vs ks f))

  chosen : (s : Selector) (left : ℕ) (c : Bool) (cells : List ℕ) (names : List Name) (w : Went) (inside : List ℕ) (between : List Name) → cells ≡ selector_cells (renumber_selector mark s) inside
      → Spends aims (selector_number s) names between → OkSelector prog s → 1 ≤ left → FoundArms (left - 1) c (is_token s) false 64 inside between w → FoundAct left c cells names w
  unfolding renumber act_cells numbers Ok Few Deep past exits
  chosen s left c cells names w inside between d sp ok l y =
      let t = y.tree in
      let g = y.good in
      record {
        tree = choice s t.labelled t.default;
        cells_are = d ∙ ap (λ k. selector_cells (renumber_selector mark s) k) y.cells_are
            ∙ ap (λ a. selector_cells (renumber_selector mark s) (alts_cells (renumber_alts mark t.labelled) (other_cells (renumber_other mark t.default) a w.cells))) (sym (absent-is mark s));
        used = spends aims (selector_number s) (numbers_some t.labelled ++ numbers_other t.default) names between w.names sp y.used;
        good = ((ok, g.0, g.1, needs-label s t.labelled t.default g.3 g.7), (g.2, g.3, g.4), (l, g.5, g.6));
        past_is = y.past_is;
        exits-is = y.exits-is;
        values = y.values;
        known = y.known;
      }

  ruled-found : (choices : Choices hs pairs v) → ChoicesFound choices → (left : ℕ) (c : Bool) (x : ℕ) (cells : List ℕ) (names : List Name) (w : Went) → x ≡ 11 → Values cells → Names names → 1 ≤ left
      → on_call (rule_ok hs pairs) cells names (λ cells names. choices (left - 1) c false false 64 cells names) ≡ some w → FoundAct left c (x ∷ cells) names w
  unfolding selector_cells renumber_selector selector_number Spends OkSelector is_token on_call Values Each
  ruled-found choices h left c x [] names w d vs ks l e = none-some e
  ruled-found choices h left c x (m ∷ cells) [] w d vs ks l e = none-some e
  ruled-found choices h left c x (m ∷ cells) (n ∷ names) w d vs ks l e = go (rule_ok hs pairs m n) refl e
    where
      go : (t : Bool) → rule_ok hs pairs m n ≡ t → (if t then choices (left - 1) c false false 64 cells names else none) ≡ some w → FoundAct left c (x ∷ m ∷ cells) (n ∷ names) w
      go true f e₁ =
          let y = rule_found m n f ks.0 in
          chosen (by_rule y.number) left c (x ∷ m ∷ cells) (n ∷ names) w cells names (rw (d, y.marked)) (y.stands, refl) y.calls l (h (left - 1) c false false 64 cells names w vs.1 ks.1 e₁)
      go false f e₁ = none-some e₁

  asking_with-found : (choices : Choices hs pairs v) → ChoicesFound choices → (left : ℕ) (c : Bool) (x : ℕ) (cells : List ℕ) (names : List Name) (w : Went) → (1024 ≤ x) × (x < 1280) → Values cells → Names names → 1 ≤ left
      → on_operand cells (λ cells. choices (left - 1) c false false 64 cells names) ≡ some w → FoundAct left c (x ∷ cells) names w
  unfolding selector_cells renumber_selector selector_number Spends OkSelector is_token on_operand Values
  asking_with-found choices h left c x [] names w d vs ks l e = none-some e
  asking_with-found choices h left c x (o ∷ cells) names w d vs ks l e =
      chosen (by_operation_with x o) left c (x ∷ o ∷ cells) names w cells names refl refl (d.0, d.1, vs.0) l (h (left - 1) c false false 64 cells names w vs.1 ks e)

  act-found : (inner : Actions hs pairs v) (choices : Choices hs pairs v) → InnerFound inner → ChoicesFound choices → (left : ℕ) (c : Bool) (x : ℕ) (s : Sort) → SortIs s x → (cells : List ℕ) (names : List Name) (w : Went)
      → Values cells → Names names → an_act hs pairs v inner choices left c s cells names ≡ some w → FoundAct left c (x ∷ cells) names w
  unfolding SortIs an_act selector_cells renumber_selector selector_number Spends OkSelector is_token
  act-found inner choices h g left c x ends d cells names w vs ks e = none-some e
  act-found inner choices h g left c x leaves d cells names w vs ks e = leaves-found left c x cells names w d vs ks e
  act-found inner choices h g left c x turns d cells names w vs ks e = turns-found inner h left c x cells names w d vs ks e
  act-found inner choices h g left c x alone d cells names w vs ks e = alone-found left c x cells names w d vs ks e
  act-found inner choices h g left c x taking d cells names w vs ks e = taking-found left c x cells names w d vs ks e
  act-found inner choices h g left c x calling d cells names w vs ks e = calling-found left c x cells names w d vs ks e
  act-found inner choices h g left c x returning d cells names w vs ks e = returning-found left c x cells names w d vs ks v refl e
  act-found inner choices h g left c x giving d cells names w vs ks e = giving-found left c x cells names w d vs ks v refl e
  act-found inner choices h g left c x token d cells names w vs ks e =
      let y = deeper-is left (choices (left - 1) c true false 64 cells names) w e in
      chosen by_token left c (x ∷ cells) names w cells names (rw d) refl tt y.0 (g (left - 1) c true false 64 cells names w vs ks y.1)
  act-found inner choices h g left c x ruled d cells names w vs ks e =
      let y = deeper-is left (on_call (rule_ok hs pairs) cells names (λ cells names. choices (left - 1) c false false 64 cells names)) w e in
      ruled-found choices g left c x cells names w d vs ks y.0 y.1
  act-found inner choices h g left c x asking d cells names w vs ks e =
      let y = deeper-is left (choices (left - 1) c false false 64 cells names) w e in
      chosen (by_operation x) left c (x ∷ cells) names w cells names refl refl d y.0 (g (left - 1) c false false 64 cells names w vs ks y.1)
  act-found inner choices h g left c x asking_with d cells names w vs ks e =
      let y = deeper-is left (on_operand cells (λ cells. choices (left - 1) c false false 64 cells names)) w e in
      asking_with-found choices g left c x cells names w d vs ks y.0 y.1
  act-found inner choices h g left c x unknown d cells names w vs ks e = none-some e

  -- Alternatives

  -- no alternative, and no otherwise
  nothing-found : (left : ℕ) (c tok some₁ : Bool) (room x : ℕ) (cells : List ℕ) (names : List Name) (w : Went) → x ≡ absent_of tok → (tok ≡ true → some₁ ≡ true) → Values cells → Names names
      → some (went cells names false false) ≡ some w → FoundArms left c tok some₁ room (x ∷ cells) names w
  unfolding renumber_alts renumber_other alts_cells other_cells numbers_some numbers_other Spends OkAlts OkOther count_labels FewSome FewOther DeepSome DeepOther OnNil May past_some past_other exits_some exits_other
  nothing-found left c tok some₁ room x cells names w d m vs ks e =
      subst (FoundArms left c tok some₁ room (x ∷ cells) names) (some_same e)
      (record { tree = record { labelled = nil; default = absent }; cells_are = rw d; used = refl; good = (tt, tt, omega arith, tt, tt, tt, tt, m); past_is = refl; exits-is = refl; values = vs; known = ks })

  other-found : (left : ℕ) (c tok some₁ : Bool) (room x : ℕ) (cells : List ℕ) (names : List Name) (w : Went) → x ≡ 13 → FoundActs left c cells names w → FoundArms left c tok some₁ room (x ∷ cells) names w
  unfolding renumber_alts renumber_other alts_cells other_cells numbers_some numbers_other Spends OkAlts OkOther count_labels FewSome FewOther DeepSome DeepOther OnNil May past_some past_other exits_some exits_other
  other-found left c tok some₁ room x cells names w d y = record {
    tree = record { labelled = nil; default = otherwise y.tree };
    cells_are = rw d (ap (λ k. 13 ∷ k) y.cells_are);
    used = y.used;
    good = (tt, y.good.0, omega arith, tt, y.good.1, tt, y.good.2, tt);
    past_is = y.past_is;
    exits-is = y.exits-is;
    values = y.values;
    known = y.known;
  }

  -- labels, the actions of an alternative, and what stands behind them
  labels-found : (left : ℕ) (c tok some₁ : Bool) (room x n : ℕ) (cells : List ℕ) (names : List Name) (a w : Went) → (x ≡ 64 + n) × (1 ≤ n) → n ≤ room → n ≤ length cells → Values cells
      → FoundActs left c (drop n cells) names a → FoundArms left c tok true (room - n) a.cells a.names w
      → FoundArms left c tok some₁ room (x ∷ cells) names (went w.cells w.names (a.past || w.past) (a.exits || w.exits))
  unfolding renumber_alts alts_cells numbers_some OkAlts count_labels FewSome DeepSome OnNil past_some exits_some
  labels-found left c tok some₁ room x n cells names a w d few enough vs y z =
      let ls = take n cells in
      let t = z.tree in
      let size : length ls ≡ n = length-take-le n cells enough in
      let g = z.good in
      let h = g.2 in
      let one = d.1 in
      record {
        tree = record { labelled = alternative ls y.tree t.labelled; default = t.default };
        cells_are = cells_same;
        used = rw (append_assoc (numbers_all y.tree) (numbers_some t.labelled) (numbers_other t.default))
            (spends aims (numbers_all y.tree) (numbers_some t.labelled ++ numbers_other t.default) names a.names w.names y.used z.used);
        good = ((values-take n cells vs, y.good.0, g.0), g.1, omega (arith, size, h, few), (omega (arith, size, one), y.good.1, g.3), g.4, (y.good.2, g.5), g.6, tt);
        past_is = rw (y.past_is, z.past_is, or_right (past_all y.tree) (past_some t.labelled) (past_other t.default));
        exits-is = rw (y.exits-is, z.exits-is, or_right (exits_all y.tree) (exits_some t.labelled) (exits_other t.default));
        values = z.values;
        known = z.known;
      }
    where
      cells_same : x ∷ cells ≡ (64 + length (take n cells)) ∷ (take n cells ++ acts_cells (renumbers mark y.tree) (alts_cells (renumber_alts mark z.tree.labelled) (other_cells (renumber_other mark z.tree.default) (absent_of tok) w.cells)))
      cells_same = rw (length-take-le n cells enough, d.0, ← z.cells_are, ← y.cells_are, take-append-drop n cells)

  arm-found : (inner : Actions hs pairs v) (choices : Choices hs pairs v) → InnerFound inner → ChoicesFound choices → (left : ℕ) (c tok some₁ : Bool) (room x : ℕ) (s : Arm) → ArmIs s x
      → (cells : List ℕ) (names : List Name) (w : Went) → Values cells → Names names → an_arm hs pairs v inner choices left c tok some₁ room s cells names ≡ some w
      → FoundArms left c tok some₁ room (x ∷ cells) names w
  unfolding ArmIs an_arm either_of beside absent_of
  arm-found inner choices h g left c true some₁ room x bare d cells names w vs ks e = none-some e
  arm-found inner choices h g left c false some₁ room x bare d cells names w vs ks e = nothing-found left c false some₁ room x cells names w d (λ t. bools.never t) vs ks e
  arm-found inner choices h g left c true true room x bare_token d cells names w vs ks e = nothing-found left c true true room x cells names w d (λ _. refl) vs ks e
  arm-found inner choices h g left c true false room x bare_token d cells names w vs ks e = none-some e
  arm-found inner choices h g left c false some₁ room x bare_token d cells names w vs ks e = none-some e
  arm-found inner choices h g left c tok some₁ room x other d cells names w vs ks e = other-found left c tok some₁ room x cells names w d (h left c cells names w vs ks e)
  arm-found inner choices h g left c tok some₁ room x (labels n) d cells names w vs ks e = room_for (leb n room && leb n (length cells)) refl e
    where
      Rest : List ℕ → List Name → Option Went
      Rest cells₁ names₁ = choices left c tok true (room - n) cells₁ names₁

      behind : (a : Went) → n ≤ room → n ≤ length cells → inner left c (drop n cells) names ≡ some a → (r : Option Went) → Rest a.cells a.names ≡ r → beside a r ≡ some w
          → FoundArms left c tok some₁ room (x ∷ cells) names w
      behind a l₁ l₂ f none q e₁ = none-some e₁
      behind a l₁ l₂ f (some r) q e₁ =
          let y = h left c (drop n cells) names a (values-drop n cells vs) ks f in
          let z = g left c tok true (room - n) a.cells a.names r y.values y.known q in
          subst (FoundArms left c tok some₁ room (x ∷ cells) names) (some_same e₁) (labels-found left c tok some₁ room x n cells names a r d l₁ l₂ vs y z)

      within : n ≤ room → n ≤ length cells → (r : Option Went) → inner left c (drop n cells) names ≡ r → either_of r Rest ≡ some w → FoundArms left c tok some₁ room (x ∷ cells) names w
      within l₁ l₂ none q e₁ = none-some e₁
      within l₁ l₂ (some a) q e₁ = behind a l₁ l₂ q (Rest a.cells a.names) refl e₁

      room_for : (t : Bool) → (leb n room && leb n (length cells)) ≡ t → (if t then either_of (inner left c (drop n cells) names) Rest else none) ≡ some w → FoundArms left c tok some₁ room (x ∷ cells) names w
      room_for true f e₁ =
          let b = bools.and (leb n room) (leb n (length cells)) f in
          within (leb-true n room b.0) (leb-true n (length cells) b.1) (inner left c (drop n cells) names) refl e₁
      room_for false f e₁ = none-some e₁
  arm-found inner choices h g left c tok some₁ room x no_arm d cells names w vs ks e = none-some e

  -- Actions in a row

  done-found : (left : ℕ) (c : Bool) (x : ℕ) (cells : List ℕ) (names : List Name) (w : Went) → x ≡ 0 → Values cells → Names names → some (went cells names true false) ≡ some w → FoundActs left c (x ∷ cells) names w
  unfolding renumbers acts_cells numbers_all Spends Oks FewAll DeepAll past_all exits_all
  done-found left c x cells names w d vs ks e =
      subst (FoundActs left c (x ∷ cells) names) (some_same e) (record { tree = done; cells_are = rw d; used = refl; good = (tt, tt, tt); past_is = refl; exits-is = refl; values = vs; known = ks })

  row-found : (left : ℕ) (c : Bool) (cells : List ℕ) (names : List Name) (a w : Went) → FoundAct left c cells names a → FoundActs left c a.cells a.names w
      → FoundActs left c cells names (went w.cells w.names (a.past && w.past) (a.exits || w.exits))
  unfolding renumbers acts_cells numbers_all Oks FewAll DeepAll past_all exits_all
  row-found left c cells names a w y z = record {
    tree = y.tree ▸ z.tree;
    cells_are = y.cells_are ∙ ap (λ k. act_cells (renumber mark y.tree) k) z.cells_are;
    used = spends aims (numbers y.tree) (numbers_all z.tree) names a.names w.names y.used z.used;
    good = ((y.good.0, z.good.0), (y.good.1, z.good.1), (y.good.2, z.good.2));
    past_is = rw (y.past_is, z.past_is);
    exits-is = rw (y.exits-is, z.exits-is);
    values = z.values;
    known = z.known;
  }

  -- the first action is found, and so is what stands behind it
  more-found : (later : List ℕ → List Name → Option Went) (left : ℕ) (c : Bool) (cells : List ℕ) (names : List Name) (w : Went)
      → ((s : List ℕ) (ns : List Name) (r : Went) → Values s → Names ns → later s ns ≡ some r → FoundActs left c s ns r)
      → (t : Option Went) → ((a : Went) → t ≡ some a → FoundAct left c cells names a) → in_row t later ≡ some w → FoundActs left c cells names w
  unfolding in_row joined
  more-found later left c cells names w h none f e = none-some e
  more-found later left c cells names w h (some a) f e = go (later a.cells a.names) refl e
    where
      go : (t : Option Went) → later a.cells a.names ≡ t → joined a t ≡ some w → FoundActs left c cells names w
      go none d e₁ = none-some e₁
      go (some r) d e₁ =
          let y = f a refl in
          subst (FoundActs left c cells names) (some_same e₁) (row-found left c cells names a r y (h a.cells a.names r y.values y.known d))

  mutual
    unfolding acts Values

    pub acts-found : (k left : ℕ) (c : Bool) (cells : List ℕ) (names : List Name) (w : Went) → Values cells → Names names → acts hs pairs v k left c cells names ≡ some w → FoundActs left c cells names w
    acts-found zero left c cells names w vs ks e = none-some e
    acts-found (suc k) left c [] names w vs ks e = none-some e
    acts-found (suc k) left c (x ∷ cells) names w vs ks e =
        go (λ l d s n r p q f. acts-found k l d s n r p q f) (λ l d b t m s n r p q f. arms-found k l d b t m s n r p q f) (eqb x 0) refl e
      where
        Inner : Actions hs pairs v
        Inner l d s n = acts hs pairs v k l d s n

        Choosing : Choices hs pairs v
        Choosing l d b t r s n = arms hs pairs v k l d b t r s n

        go : InnerFound Inner → ChoicesFound Choosing → (t : Bool) → eqb x 0 ≡ t
            → (if t then some (went cells names true false) else in_row (an_act hs pairs v Inner Choosing left c (sort_of x) cells names) (λ s n. acts hs pairs v k left c s n)) ≡ some w
            → FoundActs left c (x ∷ cells) names w
        go h g true d e₁ = done-found left c x cells names w (eqb-true x 0 d) vs.1 ks e₁
        go h g false d e₁ =
            more-found (λ s n. acts hs pairs v k left c s n) left c (x ∷ cells) names w (λ s n r p q f. h left c s n r p q f) (an_act hs pairs v Inner Choosing left c (sort_of x) cells names)
            (λ a f. act-found Inner Choosing h g left c x (sort_of x) (sort-is x) cells names a vs.1 ks f) e₁

    arms-found : (k left : ℕ) (c tok some₁ : Bool) (room : ℕ) (cells : List ℕ) (names : List Name) (w : Went) → Values cells → Names names → arms hs pairs v k left c tok some₁ room cells names ≡ some w
        → FoundArms left c tok some₁ room cells names w
    arms-found zero left c tok some₁ room cells names w vs ks e = none-some e
    arms-found (suc k) left c tok some₁ room [] names w vs ks e = none-some e
    arms-found (suc k) left c tok some₁ room (x ∷ cells) names w vs ks e =
        arm-found (λ l d s n. acts hs pairs v k l d s n) (λ l d b t r s n. arms hs pairs v k l d b t r s n) (λ l d s n r p q f. acts-found k l d s n r p q f)
        (λ l d b t m s n r p q f. arms-found k l d b t m s n r p q f) left c tok some₁ room x (arm_of x) (arm_is x) cells names w vs.1 ks e
