-- What is told of cells and names that stand at places: one law for each thing that the code does with them.
use mathlib.Core.Bool.{Bool, true, false, ◌&&◌, not}
use mathlib.Core.List.{List, [], ◌∷◌, ◌++◌, append_assoc}
use mathlib.Core.Logic.{◌⊎◌, inl, inr}
use mathlib.Core.Option.{Option, none, some}
use mathlib.Core.Path.{◌≡◌, refl, sym, ap, ◌∙◌}
use native.Mathlib.Omega.{arith}
use Prim.Native.Nat.{ℕ, zero, suc, ◌+◌, ◌-◌, ◌<◌, ◌≤◌}
use borrow.Author.Tests.{lt-ltb, le-ltb, le-leb, lt-leb, ne_eqb, eq-eqb}
use lib.Dec.{leb, eqb}
use lib.ListN.{length, get_or, drop, length-drop}
use lib.Seq.{get_or-drop, drop-drop, drop-append-le}
use Rattle.base.proofs.Laws.{lt-or-le}
use Rattle.base.specs.Bools as bools
use Rattle.std.specs.Prelude as code
use Rattle.std.specs.Prelude.{if◌then◌else◌}
use Rattle.syntax.specs.Texts.{Head}
use Rattle.objects.proofs.Looked.{ends-took, not-none, name-at}
use Rattle.objects.proofs.Marks.{SortIs, sort-is, sort-asking, sort-asking_with}
use Rattle.objects.proofs.Views.{name-exact}
use Rattle.objects.specs.declared.Depth.{Depth}
use Rattle.objects.specs.declared.Ground.{Ground}
use Rattle.objects.specs.declared.Outcome.{Outcome}
use Rattle.objects.specs.declared.Spot.{Spot}
use Rattle.objects.specs.Cells.{along, yes, Reaches, Within, Stand, Is, Tells, Does, went, with_operand, OperandDone, with_name, NameDone, CallOk, SortDone, SimpleDone, selecting, asks, AskedDone, BareDone, some_labels, LabelsDone}
use Rattle.objects.specs.Order.{Sort, ends, leaves, turns, alone, taking, calling, returning, giving, token, ruled, asking, asking_with, unknown, sort_of, arm_of, Went, deeper, on_operand, on_call, is_listed, stands_at, call_ok, rule_ok, Actions, Choices, an_act, an_arm, acts, arms, used_up}
use Rattle.objects.specs.Places.{Ends, NameAt}
use Rattle.objects.specs.View.{Name, Pair, name_words, all, a_name}

-- Places

pub within_same : (words : List ℕ) {s t : Spot} → t ≡ s → Within words s t
within_same words {s} {t} e =
    let a : t.cell ≡ s.cell = ap (λ (x : Spot). x.cell) e in
    let b : t.end ≡ s.end = ap (λ (x : Spot). x.end) e in
    let d : t.name ≡ s.name = ap (λ (x : Spot). x.name) e in
    record { low = omega (arith, a); high = λ l. omega (arith, a, b, l); same = b; named = λ l. omega (arith, d, l) }

pub within-along : (words : List ℕ) {s t : Spot} (n : ℕ) → s.cell + n ≤ s.end → t ≡ along n s → Within words s t
within-along words {s} {t} n l e =
    let a : t.cell ≡ s.cell + n = ap (λ (x : Spot). x.cell) e in
    let b : t.end ≡ s.end = ap (λ (x : Spot). x.end) e in
    let d : t.name ≡ s.name = ap (λ (x : Spot). x.name) e in
    record { low = omega (arith, a); high = λ m. omega (arith, a, b, l); same = b; named = λ m. omega (arith, d, m) }

pub within-then : {words : List ℕ} {s t u : Spot} → Within words s t → Within words t u → Within words s u
within-then {words} {s} {t} {u} x y =
    let a = x.low in
    let b = y.low in
    record { low = omega (arith, a, b); high = λ l. y.high (x.high l); same = y.same ∙ x.same; named = λ l. y.named (x.named l) }

-- What stands there

pub stand-at : {words : List ℕ} {s t : Spot} {cells : List ℕ} {names : List Name} → t ≡ s → Stand words s cells names → Stand words t cells names
stand-at e x = rw e x

pub none_left : {words : List ℕ} {s : Spot} {cells : List ℕ} {names : List Name} → Stand words s cells names → s.cell ≡ s.end → cells ≡ []
none_left {s = s} {cells = []} x e = refl
none_left {s = s} {cells = c ∷ cells} x e = let n = x.cells_count in absurd (omega (arith, n, e))

pub first_cell : {words : List ℕ} {s : Spot} {x : ℕ} {cells : List ℕ} {names : List Name} → Stand words s (x ∷ cells) names → get_or words s.cell 0 ≡ x
first_cell {words} {s} y =
    let n : s.cell + 0 ≡ s.cell = omega arith in
    ap (λ (i : ℕ). get_or words i 0) (sym n) ∙ sym (get_or-drop s.cell words 0 0) ∙ ap (λ (ws : List ℕ). get_or ws 0 0) y.cells_here

pub cells-on : {words : List ℕ} {s : Spot} {cells : List ℕ} {names : List Name} (n : ℕ) → n ≤ length cells → Stand words s cells names → Stand words (along n s) (drop n cells) names
cells-on {words} {s} {cells} {names} n l x =
    let d = length-drop n cells in
    let m = x.cells_count in
    record {
      after = x.after;
      cells_here = sym (drop-drop n s.cell words) ∙ ap (λ (ws : List ℕ). drop n ws) x.cells_here ∙ drop-append-le n cells x.after l;
      cells_count = omega (arith, d, m, l);
      rest = x.rest;
      names_here = x.names_here;
      names_count = x.names_count;
    }

pub cell-on : {words : List ℕ} {s : Spot} {c : ℕ} {cells : List ℕ} {names : List Name} → Stand words s (c ∷ cells) names → Stand words (along 1 s) cells names
cell-on {cells = cells} x = cells-on 1 (omega arith) x

-- the first name, and the place behind it
pub record Leads (words : List ℕ) (s : Spot) (n : Name) (names : List Name) : Type 0 where
  pub here : NameAt words s.name n
  pub rest : List ℕ
  pub there : Ends a_name words s.name code.None → ⊥
  pub behind : (r : ℕ) → Ends a_name words s.name (code.Some r) → (drop r words ≡ all name_words names ++ rest) × (r ≤ length words)

pub leads : {words : List ℕ} {s : Spot} {cells : List ℕ} {n : Name} {names : List Name} → Stand words s cells (n ∷ names) → Leads words s n names
unfolding all
leads {words} {s} {cells} {n} {names} x =
    let more = all name_words names ++ x.rest in
    let here : drop s.name words ≡ name_words n ++ more = x.names_here ∙ append_assoc (name_words n) (all name_words names) x.rest in
    record {
      here = name-at words s.name n more here;
      rest = x.rest;
      there = not-none n more (ap a_name here ∙ name-exact.back n tt more);
      behind = λ r y. let z = ends-took n more (ap a_name here ∙ name-exact.back n tt more) y in (sym z.0, z.1);
    }

pub call-on : {words : List ℕ} {s t : Spot} {m : ℕ} {cells : List ℕ} {n : Name} {names : List Name} → Stand words s (m ∷ cells) (n ∷ names) → Ends a_name words s.name (code.Some t.name)
    → t.cell ≡ s.cell + 1 → t.end ≡ s.end → t.names + 1 ≡ s.names → Stand words t cells names
call-on {words} {s} {t} {m} {cells} {n} {names} x y a b d =
    let z = leads x in
    let u = cell-on x in
    let k = u.cells_count in
    let j = x.names_count in
    record {
      after = u.after;
      cells_here = ap (λ (i : ℕ). drop i words) a ∙ u.cells_here;
      cells_count = omega (arith, a, b, k);
      rest = z.rest;
      names_here = (z.behind t.name y).0;
      names_count = omega (arith, d, j);
    }

-- Outcomes

pub reaches-then : {words : List ℕ} {s t : Spot} (r : code.Option Outcome) → Within words s t → Reaches words t r → Reaches words s r
reaches-then code.None x y = tt
reaches-then (code.Some o) x y = within-then x y

pub tells_none : {words : List ℕ} {r : code.Option Outcome} → r ≡ code.None → Tells words none r
unfolding Is
tells_none e = record { is = rw e refl }

pub tells-some : {words : List ℕ} {s : Spot} {cells : List ℕ} {names : List Name} {p e : Bool} {r : code.Option Outcome} → r ≡ yes s p e → Stand words s cells names → Tells words (some (went cells names p e)) r
unfolding Is
tells-some a x = rw a (record { is = (x, refl, refl) })

pub tells_as : {words : List ℕ} {o o₁ : Option Went} {r : code.Option Outcome} → o ≡ o₁ → Tells words o₁ r → Tells words o r
tells_as e x = rw e x

-- of nothing in order nothing is told
pub told-none : {words : List ℕ} (o : Option Went) → Tells words o code.None → o ≡ none
unfolding Is
told-none none x = refl
told-none (some w) x = absurd x.is

-- and something of what is
pub record Told (words : List ℕ) (o : Option Went) (r : Outcome) : Type 0 where
  pub cells : List ℕ
  pub names : List Name
  pub is : o ≡ some (went cells names r.past r.exits)
  pub stand : Stand words r.spot cells names

pub told-some : {words : List ℕ} (o : Option Went) (r : Outcome) → Tells words o (code.Some r) → Told words o r
unfolding Is
told-some none r x = bools.never (sym x.is)
told-some (some w) r x = let y = x.is in record { cells = w.cells; names = w.names; is = rw (y.1, y.2) refl; stand = y.0 }

-- nothing is in order there
pub does-none : {words : List ℕ} {s : Spot} {f : List ℕ → List Name → Option Went} {r : code.Option Outcome} → r ≡ code.None → ((cells : List ℕ) (names : List Name) → Stand words s cells names → f cells names ≡ none) → Does words s f r
does-none e h = record { tells = λ cells names x. tells_as (h cells names x) (tells_none e) }

-- everything is
pub does-some : {words : List ℕ} {s : Spot} {p e : Bool} {r : code.Option Outcome} → r ≡ yes s p e → Does words s (λ cells names. some (went cells names p e)) r
does-some a = record { tells = λ cells names x. tells-some a x }

pub does-as : {words : List ℕ} {s : Spot} {f g : List ℕ → List Name → Option Went} {r : code.Option Outcome} → ((cells : List ℕ) (names : List Name) → f cells names ≡ g cells names) → Does words s g r → Does words s f r
does-as h x = record { tells = λ cells names y. tells_as (h cells names) (x.tells cells names y) }

-- An operand

pub operand-none : (words : List ℕ) {s : Spot} {past : Bool} {r : code.Option Outcome} → s.cell ≡ s.end → r ≡ code.None → OperandDone words s past r
unfolding on_operand
operand-none words {s} {past} {r} l a = record { within = rw a tt; does = does-none a (λ cells names x. go cells names x (none_left x l)) }
  where
    go : (cells : List ℕ) (names : List Name) → Stand words s cells names → cells ≡ [] → with_operand past cells names ≡ none
    go cells names x e = rw e

pub operand-some : (words : List ℕ) {s : Spot} {past : Bool} {r : code.Option Outcome} → s.cell < s.end → r ≡ yes (along 1 s) past false → OperandDone words s past r
unfolding on_operand
operand-some words {s} {past} {r} l a = record { within = rw a (within-along words 1 (omega (arith, l)) refl); does = record { tells = go } }
  where
    go : (cells : List ℕ) (names : List Name) → Stand words s cells names → Tells words (with_operand past cells names) r
    go [] names x = let n = x.cells_count in absurd (omega (arith, n, l))
    go (c ∷ cells) names x = tells-some a (cell-on x)

-- A call

pub name-none : {words : List ℕ} {s : Spot} {b : Bool} {r : code.Option Outcome} → r ≡ code.None
    → ((m : ℕ) (n : Name) (cells : List ℕ) (names : List Name) → Stand words s (m ∷ cells) (n ∷ names) → b ≡ false) → NameDone words s b r
unfolding on_call
name-none {words} {s} {b} {r} a h = record { within = rw a tt; does = λ test same. record { tells = go test same } }
  where
    go : (test : ℕ → Name → Bool) → ((m : ℕ) (n : Name) (cells : List ℕ) (names : List Name) → Stand words s (m ∷ cells) (n ∷ names) → b ≡ test m n)
        → (cells : List ℕ) (names : List Name) → Stand words s cells names → Tells words (with_name test cells names) r
    go test same [] names x = tells_none a
    go test same (m ∷ cells) [] x = tells_none a
    go test same (m ∷ cells) (n ∷ names) x = rw (sym (same m n cells names x) ∙ h m n cells names x) (tells_none a)

pub name-some : {words : List ℕ} {s t : Spot} {b : Bool} {r : code.Option Outcome} → s.cell < s.end → 0 < s.names → b ≡ true → Ends a_name words s.name (code.Some t.name) → t.name ≤ length words → t.cell ≡ s.cell + 1
    → t.end ≡ s.end → t.names + 1 ≡ s.names → r ≡ yes t true false → NameDone words s b r
unfolding on_call
name-some {words} {s} {t} {b} {r} l m h y u a d e o = record {
  within = rw o (record { low = omega (arith, a); high = λ _. omega (arith, a, d, l); same = d; named = λ _. u });
  does = λ test same. record { tells = go test same };
}
  where
    go : (test : ℕ → Name → Bool) → ((m : ℕ) (n : Name) (cells : List ℕ) (names : List Name) → Stand words s (m ∷ cells) (n ∷ names) → b ≡ test m n)
        → (cells : List ℕ) (names : List Name) → Stand words s cells names → Tells words (with_name test cells names) r
    go test same [] names x = let n = x.cells_count in absurd (omega (arith, n, l))
    go test same (c ∷ cells) [] x = let n = x.names_count in absurd (omega (arith, n, m))
    go test same (c ∷ cells) (n ∷ names) x = rw (sym (same c n cells names x) ∙ h) (tells-some o (call-on x y a d e))

-- the mark 0 and any other
pub call-named : (hs : List Head) (ps : List Pair) (m : ℕ) (n : Name) → m ≡ 0 → call_ok hs ps m n ≡ not (is_listed hs n)
unfolding call_ok
call-named hs ps m n e = rw e

pub call-paired : (hs : List Head) (ps : List Pair) (m k : ℕ) (n : Name) → m ≡ suc k → call_ok hs ps m n ≡ stands_at ps k n
unfolding call_ok
call-paired hs ps m k n e = rw e

pub rule-named : (hs : List Head) (ps : List Pair) (m : ℕ) (n : Name) → m ≡ 0 → rule_ok hs ps m n ≡ is_listed hs n
unfolding rule_ok
rule-named hs ps m n e = rw e

pub rule-not : (hs : List Head) (ps : List Pair) (m : ℕ) (n : Name) → (m ≡ 0 → ⊥) → rule_ok hs ps m n ≡ false
unfolding rule_ok
rule-not hs ps zero n e = absurd (e refl)
rule-not hs ps (suc m) n e = refl

-- Simple actions

pub sort-unknown : (x : ℕ) → 12 ≤ x → (x < 256) ⊎ (1280 ≤ x) → sort_of x ≡ unknown
unfolding SortIs
sort-unknown x l h = go (sort_of x) (sort-is x) h
  where
    go : (s : Sort) → SortIs s x → (x < 256) ⊎ (1280 ≤ x) → s ≡ unknown
    go ends d h₁ = absurd (omega (arith, l, d))
    go leaves d h₁ = absurd (omega (arith, l, d))
    go turns d h₁ = absurd (omega (arith, l, d))
    go alone (inl d) h₁ = absurd (omega (arith, l, d))
    go alone (inr d) (inl m) = let a = d.0 in absurd (omega (arith, a, m))
    go alone (inr d) (inr m) = let a = d.1 in absurd (omega (arith, a, m))
    go taking (inl d) h₁ = absurd (omega (arith, l, d))
    go taking (inr (inl d)) h₁ = absurd (omega (arith, l, d))
    go taking (inr (inr (inl d))) h₁ = absurd (omega (arith, l, d))
    go taking (inr (inr (inr d))) (inl m) = let a = d.0 in absurd (omega (arith, a, m))
    go taking (inr (inr (inr d))) (inr m) = let a = d.1 in absurd (omega (arith, a, m))
    go calling d h₁ = absurd (omega (arith, l, d))
    go returning d h₁ = absurd (omega (arith, l, d))
    go giving d h₁ = absurd (omega (arith, l, d))
    go token d h₁ = absurd (omega (arith, l, d))
    go ruled d h₁ = absurd (omega (arith, l, d))
    go asking d (inl m) = let a = d.0 in absurd (omega (arith, a, m))
    go asking d (inr m) = let a = d.1 in absurd (omega (arith, a, m))
    go asking_with d (inl m) = let a = d.0 in absurd (omega (arith, a, m))
    go asking_with d (inr m) = let a = d.1 in absurd (omega (arith, a, m))
    go unknown d h₁ = refl

pub sort-few : (x : ℕ) → 3 ≤ x → x ≤ 6 → (x ≡ 4 → ⊥) → sort_of x ≡ taking
unfolding sort_of
sort-few x l h n = go (lt-or-le x 4) (lt-or-le x 6)
  where
    go : (x < 4) ⊎ (4 ≤ x) → (x < 6) ⊎ (6 ≤ x) → sort_of x ≡ taking
    go (inl a) b = let e : x ≡ 3 = omega (arith, a, l) in rw e
    go (inr a) (inl b) = let e : x ≡ 5 = omega (arith, a, b, n) in rw e
    go (inr a) (inr b) = let e : x ≡ 6 = omega (arith, b, h) in rw e

module _ (words : List ℕ) {s : Spot} {x : ℕ} {r : code.Option Outcome} where
  pub simple-alone : sort_of x ≡ alone → r ≡ yes s true false → SimpleDone words s x r
  unfolding an_act
  simple-alone q a = record { within = rw a (within_same words refl); does = λ hs ps v inner choices left c. rw q (does-some a) }

  pub simple-taking : sort_of x ≡ taking → OperandDone words s true r → SimpleDone words s x r
  unfolding an_act
  simple-taking q y = record { within = y.within; does = λ hs ps v inner choices left c. rw q (does-as (λ cells names. refl) y.does) }

  pub simple-unknown : sort_of x ≡ unknown → r ≡ code.None → SimpleDone words s x r
  unfolding an_act
  simple-unknown q a = record { within = rw a tt; does = λ hs ps v inner choices left c. rw q (does-none a (λ cells names y. refl)) }

  pub simple-ends : x ≡ 0 → r ≡ code.None → SimpleDone words s x r
  unfolding an_act sort_of
  simple-ends q a = record { within = rw a tt; does = λ hs ps v inner choices left c. rw q (does-none a (λ cells names y. refl)) }

  pub simple-any : x ≡ 4 → r ≡ yes s true false → SimpleDone words s x r
  unfolding an_act sort_of
  simple-any q a = record { within = rw a (within_same words refl); does = λ hs ps v inner choices left c. rw q (does-some a) }

-- Plain actions

pub act-leaves : (hs : List Head) (ps : List Pair) (v : Bool) (inner : Actions hs ps v) (choices : Choices hs ps v) (left : ℕ) (c : Bool) (x : ℕ) (cells : List ℕ) (names : List Name) → x ≡ 1
    → an_act hs ps v inner choices left c (sort_of x) cells names ≡ (if c then some (went cells names false true) else none)
unfolding an_act sort_of
act-leaves hs ps v inner choices left c x cells names e = rw e

pub act-calling : (hs : List Head) (ps : List Pair) (v : Bool) (inner : Actions hs ps v) (choices : Choices hs ps v) (left : ℕ) (c : Bool) (x : ℕ) (cells : List ℕ) (names : List Name) → x ≡ 8
    → an_act hs ps v inner choices left c (sort_of x) cells names ≡ with_name (call_ok hs ps) cells names
unfolding an_act sort_of
act-calling hs ps v inner choices left c x cells names e = rw e

pub act-returning : (hs : List Head) (ps : List Pair) (v : Bool) (inner : Actions hs ps v) (choices : Choices hs ps v) (left : ℕ) (c : Bool) (x : ℕ) (cells : List ℕ) (names : List Name) → x ≡ 9
    → an_act hs ps v inner choices left c (sort_of x) cells names ≡ (if v then none else some (went cells names false false))
unfolding an_act sort_of
act-returning hs ps v inner choices left c x cells names e = rw e

pub act-giving : (hs : List Head) (ps : List Pair) (v : Bool) (inner : Actions hs ps v) (choices : Choices hs ps v) (left : ℕ) (c : Bool) (x : ℕ) (cells : List ℕ) (names : List Name) → x ≡ 10
    → an_act hs ps v inner choices left c (sort_of x) cells names ≡ (if v then with_operand false cells names else none)
unfolding an_act sort_of
act-giving hs ps v inner choices left c x cells names e = rw e

pub on_true : {A : Type 0} (b : Bool) (y z : A) → b ≡ true → (if b then y else z) ≡ y
on_true b y z e = rw e

pub on_false : {A : Type 0} (b : Bool) (y z : A) → b ≡ false → (if b then y else z) ≡ z
on_false b y z e = rw e

module _ {common heads words : List ℕ} {g : Ground} {d : Depth} {s : Spot} {x : ℕ} {r : code.Option Outcome} where
  pub plain-simple : SimpleDone words s x r → SortDone common heads words g d s (sort_of x) r
  plain-simple y = record { within = y.within; does = λ hs ps kn k l. y.does hs ps g.valued (λ l d s n. acts hs ps g.valued k l d s n) (λ l d b t r s n. arms hs ps g.valued k l d b t r s n) d.left d.inside }

  pub plain-exit : x ≡ 1 → d.inside ≡ true → r ≡ yes s false true → SortDone common heads words g d s (sort_of x) r
  plain-exit q i a = record {
    within = rw a (within_same words refl);
    does = λ hs ps kn k l. does-as (λ cells names. act-leaves hs ps g.valued _ _ d.left d.inside x cells names q ∙ on_true d.inside _ _ i) (does-some a);
  }

  pub plain-no-exit : x ≡ 1 → d.inside ≡ false → r ≡ code.None → SortDone common heads words g d s (sort_of x) r
  plain-no-exit q i a = record {
    within = rw a tt;
    does = λ hs ps kn k l. does-none a (λ cells names _. act-leaves hs ps g.valued _ _ d.left d.inside x cells names q ∙ on_false d.inside _ _ i);
  }

  pub plain-call : {b : Bool} → x ≡ 8 → CallOk common heads words g s b → NameDone words s b r → SortDone common heads words g d s (sort_of x) r
  plain-call q y z = record {
    within = z.within;
    does = λ hs ps kn k l. does-as (λ cells names. act-calling hs ps g.valued _ _ d.left d.inside x cells names q) (z.does (call_ok hs ps) (y.tells hs ps kn));
  }

  pub plain_back : x ≡ 9 → g.valued ≡ false → r ≡ yes s false false → SortDone common heads words g d s (sort_of x) r
  plain_back q i a = record {
    within = rw a (within_same words refl);
    does = λ hs ps kn k l. does-as (λ cells names. act-returning hs ps g.valued _ _ d.left d.inside x cells names q ∙ on_false g.valued _ _ i) (does-some a);
  }

  pub plain-no-back : x ≡ 9 → g.valued ≡ true → r ≡ code.None → SortDone common heads words g d s (sort_of x) r
  plain-no-back q i a = record {
    within = rw a tt;
    does = λ hs ps kn k l. does-none a (λ cells names _. act-returning hs ps g.valued _ _ d.left d.inside x cells names q ∙ on_true g.valued _ _ i);
  }

  pub plain-give : x ≡ 10 → g.valued ≡ true → OperandDone words s false r → SortDone common heads words g d s (sort_of x) r
  plain-give q i y = record {
    within = y.within;
    does = λ hs ps kn k l. does-as (λ cells names. act-giving hs ps g.valued _ _ d.left d.inside x cells names q ∙ on_true g.valued _ _ i) y.does;
  }

  pub plain-no-give : x ≡ 10 → g.valued ≡ false → r ≡ code.None → SortDone common heads words g d s (sort_of x) r
  plain-no-give q i a = record {
    within = rw a tt;
    does = λ hs ps kn k l. does-none a (λ cells names _. act-giving hs ps g.valued _ _ d.left d.inside x cells names q ∙ on_false g.valued _ _ i);
  }

-- Selectors

pub deeper-none : (left : ℕ) → deeper left none ≡ none
unfolding deeper
deeper-none left = go (eqb left 0)
  where
    go : (b : Bool) → ◌≡◌ {A = Option Went} (if b then none else none) none
    go true = refl
    go false = refl

module _ (words : List ℕ) {s : Spot} {x : ℕ} {r : code.Option Outcome} where
  pub asked-alone : x < 1024 → r ≡ yes s true false → AskedDone words s x r
  unfolding asks
  asked-alone l a = record { within = rw a (within_same words refl); does = does-as (λ cells names. rw (lt-ltb x 1024 l)) (does-some a) }

  pub asked-with : 1024 ≤ x → x < 1280 → OperandDone words s true r → AskedDone words s x r
  unfolding asks
  asked-with l m y = record { within = y.within; does = does-as (λ cells names. rw (le-ltb x 1024 l, lt-ltb x 1280 m)) y.does }

  pub asked-none : 1280 ≤ x → r ≡ code.None → AskedDone words s x r
  unfolding asks
  asked-none l a = record { within = rw a tt; does = does-none a (λ cells names y. rw (le-ltb x 1024 (omega (arith, l)), le-ltb x 1280 l)) }

-- a choice by an operation: its selector, then its alternatives
pub act-asked-is : (hs : List Head) (ps : List Pair) (v : Bool) (inner : Actions hs ps v) (choices : Choices hs ps v) (left : ℕ) (c : Bool) (x : ℕ) (cells : List ℕ) (names : List Name) → 768 ≤ x
    → an_act hs ps v inner choices left c (sort_of x) cells names ≡ deeper left (selecting (asks x cells names) (λ cells names. choices (left - 1) c false false 64 cells names))
unfolding an_act selecting asks on_operand
act-asked-is hs ps v inner choices left c x cells names l = go cells (lt-or-le x 1024) (lt-or-le x 1280)
  where
    go : (cells : List ℕ) → (x < 1024) ⊎ (1024 ≤ x) → (x < 1280) ⊎ (1280 ≤ x)
        → an_act hs ps v inner choices left c (sort_of x) cells names ≡ deeper left (selecting (asks x cells names) (λ cells names. choices (left - 1) c false false 64 cells names))
    go cells₁ (inl a) b = rw (sort-asking x l a, lt-ltb x 1024 a)
    go [] (inr a) (inl b) = rw (sort-asking_with x a b, le-ltb x 1024 a, lt-ltb x 1280 b)
    go (o ∷ cells₁) (inr a) (inl b) = rw (sort-asking_with x a b, le-ltb x 1024 a, lt-ltb x 1280 b)
    go cells₁ (inr a) (inr b) = rw (sort-unknown x (omega (arith, l)) (inr b), le-ltb x 1024 a, le-ltb x 1280 b) (sym (deeper-none left))

-- Labels

and-false : (b : Bool) → (b && false) ≡ false
and-false true = refl
and-false false = refl

module _ (words : List ℕ) {s : Spot} {n room : ℕ} {r : code.Option Outcome} where
  pub labels-over : room < n → r ≡ code.None → LabelsDone words s n room r
  unfolding some_labels
  labels-over l a = record { within = rw a tt; few = rw a tt; does = does-none a (λ cells names y. rw (lt-leb n room l)) }

  pub labels-off : s.end < s.cell + n → r ≡ code.None → LabelsDone words s n room r
  unfolding some_labels
  labels-off l a = record {
    within = rw a tt;
    few = rw a tt;
    does = does-none a (λ cells names y. let m = y.cells_count in rw (lt-leb n (length cells) (omega (arith, m, l)), and-false (leb n room)));
  }

  pub labels-some : n ≤ room → s.cell + n ≤ s.end → r ≡ yes (along n s) true false → LabelsDone words s n room r
  unfolding some_labels
  labels-some l h a = record {
    within = rw a (within-along words n h refl);
    few = rw a l;
    does = record { tells = λ cells names y. let m = y.cells_count in let f : n ≤ length cells = omega (arith, m, h) in rw (le-leb n room l, le-leb n (length cells) f) (tells-some a (cells-on n f y)) };
  }

-- Alternatives that are but one cell

module _ (words : List ℕ) {s : Spot} {x : ℕ} {tok lab : Bool} {r : code.Option Outcome} where
  pub bare-some : x ≡ 12 → tok ≡ false → r ≡ yes s false false → BareDone words s x tok lab r
  unfolding an_arm arm_of
  bare-some q t a = record { within = rw a (within_same words refl); does = λ hs ps v inner choices left c room. rw (q, t) (does-some a) }

  pub bare-none : x ≡ 12 → tok ≡ true → r ≡ code.None → BareDone words s x tok lab r
  unfolding an_arm arm_of
  bare-none q t a = record { within = rw a tt; does = λ hs ps v inner choices left c room. rw (q, t) (does-none a (λ cells names y. refl)) }

  pub token-some : x ≡ 14 → (tok && lab) ≡ true → r ≡ yes s false false → BareDone words s x tok lab r
  unfolding an_arm arm_of
  token-some q t a = record { within = rw a (within_same words refl); does = λ hs ps v inner choices left c room. rw (q, t) (does-some a) }

  pub token-none : x ≡ 14 → (tok && lab) ≡ false → r ≡ code.None → BareDone words s x tok lab r
  unfolding an_arm arm_of
  token-none q t a = record { within = rw a tt; does = λ hs ps v inner choices left c room. rw (q, t) (does-none a (λ cells names y. refl)) }

  pub no_arm : x ≤ 64 → (x ≡ 12 → ⊥) → (x ≡ 13 → ⊥) → (x ≡ 14 → ⊥) → r ≡ code.None → BareDone words s x tok lab r
  unfolding an_arm arm_of
  no_arm l n₁ n₂ n₃ a = record {
    within = rw a tt;
    does = λ hs ps v inner choices left c room. rw (ne_eqb x 12 n₁, ne_eqb x 13 n₂, ne_eqb x 14 n₃, le-leb x 64 l) (does-none a (λ cells names y. refl));
  }

-- The end of a rule

module _ (v : Bool) {words : List ℕ} where
  pub used-none : (w : Option Went) → Tells words w code.None → false ≡ used_up v w
  unfolding used_up
  used-none w x = rw (told-none w x)

  module _ (o : Outcome) (w : Option Went) (x : Tells words w (code.Some o)) where
    pub used-cells : (o.spot.cell ≡ o.spot.end → ⊥) → false ≡ used_up v w
    unfolding used_up
    used-cells e = let y = told-some w o x in let n = y.stand.cells_count in rw (y.is, ne_eqb (length y.cells) 0 (λ z. e (omega (arith, n, z))))

    pub used-names : (o.spot.names ≡ 0 → ⊥) → false ≡ used_up v w
    unfolding used_up
    used-names e = let y = told-some w o x in let n = y.stand.names_count in rw (y.is, ne_eqb (length y.names) 0 (λ z. e (omega (arith, n, z))), and-false (eqb (length y.cells) 0))

    pub used_all : o.spot.cell ≡ o.spot.end → o.spot.names ≡ 0 → not (v && o.past) ≡ used_up v w
    unfolding used_up
    used_all d e =
        let y = told-some w o x in
        let n = y.stand.cells_count in
        let m = y.stand.names_count in
        rw (y.is, eq-eqb (length y.cells) 0 (omega (arith, n, d)), eq-eqb (length y.names) 0 (omega (arith, m, e)))

-- the first cells that are left
pub left-zero : (x : ℕ) → x < 3 → (x ≡ 1 → ⊥) → (x ≡ 2 → ⊥) → x ≡ 0
left-zero x l a b = omega (arith, l, a, b)

pub left-large : (x : ℕ) → 6 < x → (x ≡ 7 → ⊥) → (x ≡ 8 → ⊥) → (x ≡ 9 → ⊥) → (x ≡ 10 → ⊥) → (x ≡ 11 → ⊥) → 12 ≤ x
left-large x l a b d e f = above 11 x (above 10 x (above 9 x (above 8 x (above 7 x l a) b) d) e) f
  where
    above : (n x : ℕ) → n ≤ x → (x ≡ n → ⊥) → suc n ≤ x
    above n x l a = omega (arith, l, a)
