-- What stands for the calls of a rule in its cells, which cell begins what, and how the names of calls are used up in order.
use mathlib.Core.Bool.{Bool, true, false, ◌||◌}
use mathlib.Core.List.{List, [], ◌∷◌, ◌++◌}
use mathlib.Core.Logic.{◌⊎◌, inl, inr}
use mathlib.Core.Path.{◌≡◌, refl, ap}
use native.Mathlib.Omega.{arith}
use Prim.Native.Nat.{ℕ, suc, ◌+◌, ◌-◌, ◌<◌, ◌≤◌}
use borrow.Author.Tests.{ltb-true, ltb-false, leb-false, eqb-true, lt-ltb, le-ltb, ne_eqb, lt-leb}
use lib.Dec.{eqb, ltb, leb}
use lib.ListN.{length, get_or, length-append}
use Rattle.base.specs.Bools as bools
use Rattle.std.specs.Prelude.{if◌then◌else◌}
use Rattle.base.specs.Tree.{plain, cycle, choice, done, ◌▸◌, nil, alternative, absent, otherwise}
use Rattle.calls.specs.Renumber.{renumber_selector}
use Rattle.cells.specs.Cells.{plain_cells, selector_cells, absent_cell, act_cells, acts_cells, alts_cells, other_cells}
use Rattle.names.specs.Uses.{Use}
use Rattle.parts.specs.Form.{mark_of}
use Rattle.parts.specs.Objects.{Aim, named, ranked}
use Rattle.parts.specs.Sound.{StandsFor, Aligned, Few, FewSome}
use Rattle.program.specs.Accepted.{Labelled, NeedsLabel}
use Rattle.program.specs.Program.{Plain, match, any, emit, error, exit, call, back, give, update, update_with, Selector, by_token, by_rule, by_operation, by_operation_with, Act, Acts, Alts, Other}
use Rattle.words.specs.Words.{Word, name}
use Rattle.objects.specs.Order.{Sort, ends, leaves, turns, alone, taking, calling, returning, giving, token, ruled, asking, asking_with, unknown, sort_of, Arm, bare, bare_token, other, labels, no_arm, arm_of}
use Rattle.objects.specs.View.{Name, name_of, names_of}

abbrev pub nothing : Aim
nothing = named []

-- a word of a name: of the kind that names have
abbrev pub word_of : Name → Word
word_of n = record { kind = name; start = n.start; text = n.text }

unfoldable pub words_of : List Name → List Word
words_of [] = []
words_of (n ∷ ns) = word_of n ∷ words_of ns

-- The numbers of calls, each with the name that it stands for; `more` are the names behind them

module _ (aims : List Aim) where
  unfoldable pub Spends : List ℕ → List Name → List Name → Type 0
  Spends [] names more = names ≡ more
  Spends (i ∷ is) [] more = ⊥
  Spends (i ∷ is) (n ∷ names) more = StandsFor (get_or aims i nothing) (word_of n) × Spends is names more

  pub record Parted (is js : List ℕ) (names more : List Name) : Type 0 where
    pub between : List Name
    pub left : Spends is names between
    pub right : Spends js between more

  pub parted : (is js : List ℕ) (names more : List Name) → Spends (is ++ js) names more → Parted is js names more
  unfolding Spends
  parted [] js names more h = record { between = names; left = refl; right = h }
  parted (i ∷ is) js [] more h = absurd h
  parted (i ∷ is) js (n ∷ names) more h = let x = parted is js names more h.1 in record { between = x.between; left = (h.0, x.left); right = x.right }

  pub spends : (is js : List ℕ) (names between more : List Name) → Spends is names between → Spends js between more → Spends (is ++ js) names more
  unfolding Spends
  spends [] js names between more h k = rw h k
  spends (i ∷ is) js [] between more h k = absurd h
  spends (i ∷ is) js (n ∷ names) between more h k = (h.0, spends is js names between more h.1 k)

  pub record OneName (i : ℕ) (names more : List Name) : Type 0 where
    pub first : Name
    pub are : names ≡ first ∷ more
    pub stands : StandsFor (get_or aims i nothing) (word_of first)

  pub one_name_lem : (i : ℕ) (names more : List Name) → Spends (i ∷ []) names more → OneName i names more
  unfolding Spends
  one_name_lem i [] more h = absurd h
  one_name_lem i (n ∷ names) more h = record { first = n; are = ap (λ ns. n ∷ ns) h.1; stands = h.0 }

  pub spent : (is : List ℕ) (ws : List Word) → Aligned aims is ws → Spends is (names_of ws) []
  unfolding Spends Aligned names_of StandsFor name_of
  spent [] [] h = refl
  spent [] (w ∷ ws) h = absurd h
  spent (i ∷ is) [] h = absurd h
  spent (i ∷ is) (w ∷ ws) h = (go (get_or aims i nothing) h.0, spent is ws h.1)
    where
      go : (a : Aim) → StandsFor a w → StandsFor a (word_of (name_of w))
      go (named t) d = d
      go (ranked u) d = d

  pub aligned : (is : List ℕ) (ns : List Name) → Spends is ns [] → Aligned aims is (words_of ns)
  unfolding Spends Aligned words_of
  aligned [] [] h = tt
  aligned [] (n ∷ ns) h = let l : length (n ∷ ns) ≡ 0 = ap length h in absurd (omega (arith, l))
  aligned (i ∷ is) [] h = absurd h
  aligned (i ∷ is) (n ∷ ns) h = (h.0, aligned is ns h.1)

  module _ (first : ℕ) where
    pub mark-named : (i : ℕ) (t : List ℕ) → get_or aims i nothing ≡ named t → mark_of aims first i ≡ 0
    unfolding mark_of
    mark-named i t e = rw (e, mark_of)

    pub mark-ranked : (i : ℕ) (u : Use) → get_or aims i nothing ≡ ranked u → mark_of aims first i ≡ suc (i - first)
    unfolding mark_of
    mark-ranked i u e = rw (e, mark_of) (omega arith)

pub names-words : (ns : List Name) → names_of (words_of ns) ≡ ns
unfolding names_of words_of name_of
names-words [] = refl
names-words (n ∷ ns) = ap (λ ms. n ∷ ms) (names-words ns)

-- What begins with a cell

unfoldable pub SortIs : Sort → ℕ → Type 0
SortIs ends x = x ≡ 0
SortIs leaves x = x ≡ 1
SortIs turns x = x ≡ 2
SortIs alone x = (x ≡ 4) ⊎ ((256 ≤ x) × (x < 512))
SortIs taking x = (x ≡ 3) ⊎ ((x ≡ 5) ⊎ ((x ≡ 6) ⊎ ((512 ≤ x) × (x < 768))))
SortIs calling x = x ≡ 8
SortIs returning x = x ≡ 9
SortIs giving x = x ≡ 10
SortIs token x = x ≡ 7
SortIs ruled x = x ≡ 11
SortIs asking x = (768 ≤ x) × (x < 1024)
SortIs asking_with x = (1024 ≤ x) × (x < 1280)
SortIs unknown x = Unit {0}

pick : (x : ℕ) (b : Bool) (s t : Sort) → (b ≡ true → SortIs s x) → (b ≡ false → SortIs t x) → SortIs (if b then s else t) x
pick x true s t f g = f refl
pick x false s t f g = g refl

pub sort-is : (x : ℕ) → SortIs (sort_of x) x
unfolding sort_of SortIs
sort-is x =
    pick x (eqb x 0) ends _ (eqb-true x 0) (λ _.
    pick x (eqb x 1) leaves _ (eqb-true x 1) (λ _.
    pick x (eqb x 2) turns _ (eqb-true x 2) (λ _.
    pick x (eqb x 3) taking _ (λ e. inl (eqb-true x 3 e)) (λ _.
    pick x (eqb x 4) alone _ (λ e. inl (eqb-true x 4 e)) (λ _.
    pick x (eqb x 5) taking _ (λ e. inr (inl (eqb-true x 5 e))) (λ _.
    pick x (eqb x 6) taking _ (λ e. inr (inr (inl (eqb-true x 6 e)))) (λ _.
    pick x (eqb x 7) token _ (eqb-true x 7) (λ _.
    pick x (eqb x 8) calling _ (eqb-true x 8) (λ _.
    pick x (eqb x 9) returning _ (eqb-true x 9) (λ _.
    pick x (eqb x 10) giving _ (eqb-true x 10) (λ _.
    pick x (eqb x 11) ruled _ (eqb-true x 11) (λ _.
    pick x (ltb x 256) unknown _ (λ _. tt) (λ a.
    pick x (ltb x 512) alone _ (λ b. inr (ltb-false x 256 a, ltb-true x 512 b)) (λ b.
    pick x (ltb x 768) taking _ (λ c. inr (inr (inr (ltb-false x 512 b, ltb-true x 768 c)))) (λ c.
    pick x (ltb x 1024) asking _ (λ d. (ltb-false x 768 c, ltb-true x 1024 d)) (λ d.
    pick x (ltb x 1280) asking_with _ (λ e. (ltb-false x 1024 d, ltb-true x 1280 e)) (λ _. tt)))))))))))))))))

-- the sort of a number past the small ones, by one test after the other
large : (x : ℕ) → 256 ≤ x → sort_of x ≡ (if ltb x 512 then alone else if ltb x 768 then taking else if ltb x 1024 then asking else if ltb x 1280 then asking_with else unknown)
unfolding sort_of
large x l =
    rw (
      ne_eqb x 0 (λ e. omega (arith, l, e)),
      ne_eqb x 1 (λ e. omega (arith, l, e)),
      ne_eqb x 2 (λ e. omega (arith, l, e)),
      ne_eqb x 3 (λ e. omega (arith, l, e)),
      ne_eqb x 4 (λ e. omega (arith, l, e)),
      ne_eqb x 5 (λ e. omega (arith, l, e)),
      ne_eqb x 6 (λ e. omega (arith, l, e)),
      ne_eqb x 7 (λ e. omega (arith, l, e)),
      ne_eqb x 8 (λ e. omega (arith, l, e)),
      ne_eqb x 9 (λ e. omega (arith, l, e)),
      ne_eqb x 10 (λ e. omega (arith, l, e)),
      ne_eqb x 11 (λ e. omega (arith, l, e)),
      le-ltb x 256 l,
    )

pub sort-alone : (x : ℕ) → 256 ≤ x → x < 512 → sort_of x ≡ alone
sort-alone x l h = rw (large x l, lt-ltb x 512 h)

pub sort-taking : (x : ℕ) → 512 ≤ x → x < 768 → sort_of x ≡ taking
sort-taking x l h = rw (large x (omega (arith, l)), le-ltb x 512 l, lt-ltb x 768 h)

pub sort-asking : (x : ℕ) → 768 ≤ x → x < 1024 → sort_of x ≡ asking
sort-asking x l h = rw (large x (omega (arith, l)), le-ltb x 512 (omega (arith, l)), le-ltb x 768 l, lt-ltb x 1024 h)

pub sort-asking_with : (x : ℕ) → 1024 ≤ x → x < 1280 → sort_of x ≡ asking_with
sort-asking_with x l h = rw (large x (omega (arith, l)), le-ltb x 512 (omega (arith, l)), le-ltb x 768 (omega (arith, l)), le-ltb x 1024 l, lt-ltb x 1280 h)

-- what begins an alternative
unfoldable pub ArmIs : Arm → ℕ → Type 0
ArmIs bare x = x ≡ 12
ArmIs other x = x ≡ 13
ArmIs bare_token x = x ≡ 14
ArmIs (labels n) x = (x ≡ 64 + n) × (1 ≤ n)
ArmIs no_arm x = Unit {0}

choose : (x : ℕ) (b : Bool) (s t : Arm) → (b ≡ true → ArmIs s x) → (b ≡ false → ArmIs t x) → ArmIs (if b then s else t) x
choose x true s t f g = f refl
choose x false s t f g = g refl

pub arm_is : (x : ℕ) → ArmIs (arm_of x) x
unfolding arm_of ArmIs
arm_is x =
    choose x (eqb x 12) bare _ (eqb-true x 12) (λ _.
    choose x (eqb x 13) other _ (eqb-true x 13) (λ _.
    choose x (eqb x 14) bare_token _ (eqb-true x 14) (λ _.
    choose x (leb x 64) no_arm (labels (x - 64)) (λ _. tt) (λ e. let l = leb-false x 64 e in (omega (arith, l), omega (arith, l))))))

pub arm-labels : (n : ℕ) → 1 ≤ n → arm_of (64 + n) ≡ labels n
unfolding arm_of
arm-labels n l =
    let e : 64 + n - 64 ≡ n = omega arith in
    rw (ne_eqb (64 + n) 12 (λ e. omega (arith, l, e)), ne_eqb (64 + n) 13 (λ e. omega (arith, l, e)), ne_eqb (64 + n) 14 (λ e. omega (arith, l, e)), lt-leb (64 + n) 64 (omega (arith, l)), e)

-- Choices

unfoldable pub is_token : Selector → Bool
is_token by_token = true
is_token (by_rule r) = false
is_token (by_operation op) = false
is_token (by_operation_with op w) = false

unfoldable pub absent_of : Bool → ℕ
absent_of true = 14
absent_of false = 12

pub absent-is : (to : ℕ → ℕ) (s : Selector) → absent_cell (renumber_selector to s) ≡ absent_of (is_token s)
unfolding absent_cell renumber_selector is_token absent_of
absent-is to by_token = refl
absent-is to (by_rule r) = refl
absent-is to (by_operation op) = refl
absent-is to (by_operation_with op w) = refl

-- whether otherwise may be missing where a label stands before, or none does
unfoldable pub May : Bool → Other → Bool → Type 0
May tok absent some₁ = tok ≡ true → some₁ ≡ true
May tok (otherwise b) some₁ = Unit {0}

pub may-later : (tok : Bool) (o : Other) → May tok o true
unfolding May
may-later tok absent = λ _. refl
may-later tok (otherwise b) = tt

-- only where there is no alternative
unfoldable pub OnNil : Alts → Type 0 → Type 0
OnNil nil A = A
OnNil (alternative ls b q) A = Unit {0}

pub on-nil : (s : Selector) (q : Alts) (o : Other) → NeedsLabel s o q → OnNil q (May (is_token s) o false)
unfolding NeedsLabel OnNil May is_token Labelled
on-nil by_token nil absent h = absurd h
on-nil by_token nil (otherwise b) h = tt
on-nil by_token (alternative ls b q) o h = tt
on-nil (by_rule r) nil absent h = λ e. bools.never e
on-nil (by_rule r) nil (otherwise b) h = tt
on-nil (by_rule r) (alternative ls b q) o h = tt
on-nil (by_operation op) nil absent h = λ e. bools.never e
on-nil (by_operation op) nil (otherwise b) h = tt
on-nil (by_operation op) (alternative ls b q) o h = tt
on-nil (by_operation_with op w) nil absent h = λ e. bools.never e
on-nil (by_operation_with op w) nil (otherwise b) h = tt
on-nil (by_operation_with op w) (alternative ls b q) o h = tt

pub later-nil : (q : Alts) (tok : Bool) (o : Other) → OnNil q (May tok o true)
unfolding OnNil
later-nil nil tok o = may-later tok o
later-nil (alternative ls b q) tok o = tt

pub or_right : (a b c : Bool) → (a || (b || c)) ≡ ((a || b) || c)
or_right true b c = refl
or_right false b c = refl

-- and so an input choice without otherwise has a first label
pub needs-label : (s : Selector) (q : Alts) (o : Other) → FewSome q → OnNil q (May (is_token s) o false) → NeedsLabel s o q
unfolding NeedsLabel OnNil May is_token Labelled Few
needs-label by_token nil absent f h = bools.never (h refl)
needs-label by_token (alternative [] b q) absent f h = let l = f.0 in absurd (omega (arith, l))
needs-label by_token (alternative (x ∷ ls) b q) absent f h = tt
needs-label by_token q (otherwise b) f h = tt
needs-label (by_rule r) q o f h = tt
needs-label (by_operation op) q o f h = tt
needs-label (by_operation_with op w) q o f h = tt

-- There are more cells with an action in front

plain-longer : (p : Plain) (k : List ℕ) → suc (length k) ≤ length (plain_cells p k)
unfolding plain_cells
plain-longer (match t) k = omega arith
plain-longer any k = omega arith
plain-longer (emit t) k = omega arith
plain-longer (error t) k = omega arith
plain-longer exit k = omega arith
plain-longer (call r) k = omega arith
plain-longer back k = omega arith
plain-longer (give v) k = omega arith
plain-longer (update op) k = omega arith
plain-longer (update_with op v) k = omega arith

pub selector-longer : (s : Selector) (k : List ℕ) → suc (length k) ≤ length (selector_cells s k)
unfolding selector_cells
selector-longer by_token k = omega arith
selector-longer (by_rule r) k = omega arith
selector-longer (by_operation op) k = omega arith
selector-longer (by_operation_with op v) k = omega arith

mutual
  unfolding act_cells

  pub act-longer : (a : Act) (k : List ℕ) → suc (length k) ≤ length (act_cells a k)
  act-longer (plain p) k = plain-longer p k
  act-longer (cycle b) k = let h = acts-longer b k in omega (arith, h)
  act-longer (choice s q o) k =
      let h₁ = selector-longer s (alts_cells q (other_cells o (absent_cell s) k)) in
      let h₂ = alts-longer q (other_cells o (absent_cell s) k) in
      let h₃ = other-longer o (absent_cell s) k in
      omega (arith, h₁, h₂, h₃)

  pub acts-longer : (q : Acts) (k : List ℕ) → suc (length k) ≤ length (acts_cells q k)
  acts-longer done k = omega arith
  acts-longer (a ▸ q) k = let h₁ = act-longer a (acts_cells q k) in let h₂ = acts-longer q k in omega (arith, h₁, h₂)

  pub alts-longer : (q : Alts) (k : List ℕ) → length k ≤ length (alts_cells q k)
  alts-longer nil k = omega arith
  alts-longer (alternative ls b q) k =
      let e = length-append ls (acts_cells b (alts_cells q k)) in
      let h₁ = acts-longer b (alts_cells q k) in
      let h₂ = alts-longer q k in
      omega (arith, e, h₁, h₂)

  pub other-longer : (o : Other) (c : ℕ) (k : List ℕ) → suc (length k) ≤ length (other_cells o c k)
  other-longer absent c k = omega arith
  other-longer (otherwise b) c k = let h = acts-longer b k in omega (arith, h)
