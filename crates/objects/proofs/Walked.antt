-- The test of actions and of alternatives: what is told of those gone through and of those left is told of all.
use mathlib.Core.Bool.{Bool, true, false, ◌&&◌, ◌||◌}
use mathlib.Core.List.{List, [], ◌∷◌}
use mathlib.Core.Option.{Option, none, some}
use mathlib.Core.Path.{◌≡◌, refl, sym, ap, ◌∙◌}
use native.Mathlib.Omega.{arith}
use Prim.Native.Nat.{ℕ, zero, suc, ◌+◌, ◌-◌, ◌<◌, ◌≤◌}
use borrow.Author.Tests.{lt-leb, ne_eqb}
use lib.Dec.{leb}
use lib.ListN.{length, get_or, drop}
use Rattle.std.specs.Prelude as code
use Rattle.std.specs.Prelude.{if◌then◌else◌}
use Rattle.syntax.specs.Texts.{Head}
use Rattle.objects.proofs.Told.{within_same, within-along, within-then, reaches-then, stand-at, first_cell, cell-on, tells_none, tells-some, tells_as, told-none, told-some, deeper-none, act-asked-is}
use Rattle.objects.specs.declared.Depth.{Depth}
use Rattle.objects.specs.declared.Ground.{Ground}
use Rattle.objects.specs.declared.Last.{Last}
use Rattle.objects.specs.declared.Outcome.{Outcome}
use Rattle.objects.specs.declared.Spot.{Spot}
use Rattle.objects.specs.Cells.{along, yes, Within, Stand, Knows, Tells, went, with_name, NameDone, RuleOk, SortDone, selecting, AskedDone, ChoiceDone, ActsDone, ArmsDone, LastDone, BareDone, some_labels, LabelsDone}
use Rattle.objects.specs.Order.{turns, sort_of, labels, arm_of, Went, joined, in_row, beside, either_of, around, deeper, on_call, rule_ok, Actions, Choices, an_act, an_arm, acts, arms}
use Rattle.objects.specs.View.{Name, Pair}

-- Outcomes put together

and_assoc : (a b d : Bool) → (a && (b && d)) ≡ ((a && b) && d)
and_assoc true b d = refl
and_assoc false b d = refl

or_assoc : (a b d : Bool) → (a || (b || d)) ≡ ((a || b) || d)
or_assoc true b d = refl
or_assoc false b d = refl

and-true : (a : Bool) → (a && true) ≡ a
and-true true = refl
and-true false = refl

or-false : (a : Bool) → (a || false) ≡ a
or-false true = refl
or-false false = refl

abbrev flags : Bool → Bool → Went
flags past exits = went [] [] past exits

joined-start : (o : Option Went) → o ≡ joined (flags true false) o
unfolding joined
joined-start none = refl
joined-start (some w) = refl

joined-again : (p e : Bool) (w : Went) (o : Option Went) → joined (flags p e) (joined w o) ≡ joined (flags (p && w.past) (e || w.exits)) o
unfolding joined
joined-again p e w none = refl
joined-again p e w (some r) = rw (and_assoc p w.past r.past, or_assoc e w.exits r.exits)

beside-start : (o : Option Went) → o ≡ beside (flags false false) o
unfolding beside
beside-start none = refl
beside-start (some w) = refl

beside-again : (p e : Bool) (w : Went) (o : Option Went) → beside (flags p e) (beside w o) ≡ beside (flags (p || w.past) (e || w.exits)) o
unfolding beside
beside-again p e w none = refl
beside-again p e w (some r) = rw (or_assoc p w.past r.past, or_assoc e w.exits r.exits)

tells-around : {words : List ℕ} (o : Option Went) {b : Outcome} {r : code.Option Outcome} → Tells words o (code.Some b) → r ≡ yes b.spot b.exits false → Tells words (around o) r
unfolding around
tells-around o {b} x a = let y = told-some o b x in tells_as (ap around y.is) (tells-some a y.stand)

tells-beside : {words : List ℕ} (o : Option Went) (p e : Bool) {b : Outcome} {r : code.Option Outcome} → Tells words o (code.Some b) → r ≡ yes b.spot (p || b.past) (e || b.exits) → Tells words (beside (flags p e) o) r
unfolding beside
tells-beside o p e {b} x a = let y = told-some o b x in tells_as (ap (beside (flags p e)) y.is) (tells-some a y.stand)

-- Cycles and choices

deeper-zero : (left : ℕ) (o : Option Went) → left ≡ 0 → deeper left o ≡ none
unfolding deeper
deeper-zero left o e = rw e

deeper-on : (left : ℕ) (o : Option Went) → (left ≡ 0 → ⊥) → deeper left o ≡ o
unfolding deeper
deeper-on left o e = rw (ne_eqb left 0 e)

acts-as : (hs : List Head) (ps : List Pair) (v : Bool) (k l l₁ : ℕ) (c c₁ : Bool) (cells : List ℕ) (names : List Name) → l ≡ l₁ → c ≡ c₁ → acts hs ps v k l c cells names ≡ acts hs ps v k l₁ c₁ cells names
acts-as hs ps v k l l₁ c c₁ cells names e d = rw (e, d)

arms-as : (hs : List Head) (ps : List Pair) (v : Bool) (k l l₁ : ℕ) (c c₁ t : Bool) (cells : List ℕ) (names : List Name) → l ≡ l₁ → c ≡ c₁ → arms hs ps v k l c t false 64 cells names ≡ arms hs ps v k l₁ c₁ t false 64 cells names
arms-as hs ps v k l l₁ c c₁ t cells names e d = rw (e, d)

module _ {common heads words : List ℕ} {g : Ground} {d : Depth} where
  pub cycle-none : {s : Spot} {r : code.Option Outcome} → d.left ≡ 0 → r ≡ code.None → SortDone common heads words g d s turns r
  unfolding an_act
  cycle-none e a = record {
    within = rw a tt;
    does = λ hs ps kn k l. record { tells = λ cells names x. tells_as (deeper-zero d.left _ e) (tells_none a) };
  }

  module _ {s : Spot} {d₁ : Depth} (n : d.left ≡ 0 → ⊥) (e : d.left - 1 ≡ d₁.left) (i : d₁.inside ≡ true) where
    pub cycle-off : {r : code.Option Outcome} → ActsDone common heads words g d₁ s code.None → r ≡ code.None → SortDone common heads words g d s turns r
    unfolding an_act around
    cycle-off y a = record {
      within = rw a tt;
      does = λ hs ps kn k l. record {
        tells = λ cells names x. tells_as (deeper-on d.left _ n ∙ ap around (acts-as hs ps g.valued k (d.left - 1) d₁.left true d₁.inside cells names e (sym i) ∙ told-none _ ((y.does hs ps kn k l).tells cells names x))) (tells_none a);
      };
    }

    pub cycle-some : {b : Outcome} {r : code.Option Outcome} → ActsDone common heads words g d₁ s (code.Some b) → r ≡ yes b.spot b.exits false → SortDone common heads words g d s turns r
    unfolding an_act
    cycle-some y a = record {
      within = rw a y.within;
      does = λ hs ps kn k l. record {
        tells = λ cells names x. tells_as (deeper-on d.left _ n) (tells-around _ (tells_as (acts-as hs ps g.valued k (d.left - 1) d₁.left true d₁.inside cells names e (sym i)) ((y.does hs ps kn k l).tells cells names x)) a);
      };
    }

  pub choice-deep : {s : Spot} {r : code.Option Outcome} {t : Bool} → d.left ≡ 0 → r ≡ code.None → ChoiceDone common heads words g d s t r
  choice-deep e a = record { within = rw a tt; does = λ hs ps kn k l. record { tells = λ cells names x. tells_as (deeper-zero d.left _ e) (tells_none a) } }

  pub choice-some : {s : Spot} {r : code.Option Outcome} {d₁ : Depth} {t : Bool} → (d.left ≡ 0 → ⊥) → d.left - 1 ≡ d₁.left → d.inside ≡ d₁.inside → ArmsDone common heads words g d₁ s t r → ChoiceDone common heads words g d s t r
  choice-some {d₁ = d₁} {t} n e i y = record {
    within = y.within;
    does = λ hs ps kn k l. record { tells = λ cells names x. tells_as (deeper-on d.left _ n ∙ arms-as hs ps g.valued k (d.left - 1) d₁.left d.inside d₁.inside t cells names e i) ((y.does hs ps kn k l).tells cells names x) };
  }

-- Actions by their first cells

act-token-is : (hs : List Head) (ps : List Pair) (v : Bool) (inner : Actions hs ps v) (choices : Choices hs ps v) (left : ℕ) (c : Bool) (x : ℕ) (cells : List ℕ) (names : List Name) → x ≡ 7
    → an_act hs ps v inner choices left c (sort_of x) cells names ≡ deeper left (choices (left - 1) c true false 64 cells names)
unfolding an_act sort_of
act-token-is hs ps v inner choices left c x cells names e = rw e

act-ruled-is : (hs : List Head) (ps : List Pair) (v : Bool) (inner : Actions hs ps v) (choices : Choices hs ps v) (left : ℕ) (c : Bool) (x : ℕ) (cells : List ℕ) (names : List Name) → x ≡ 11
    → an_act hs ps v inner choices left c (sort_of x) cells names ≡ deeper left (selecting (with_name (rule_ok hs ps) cells names) (λ cells names. choices (left - 1) c false false 64 cells names))
unfolding an_act sort_of selecting on_call
act-ruled-is hs ps v inner choices left c x [] names e = rw e
act-ruled-is hs ps v inner choices left c x (m ∷ cells) [] e = rw e
act-ruled-is hs ps v inner choices left c x (m ∷ cells) (n ∷ names) e = rw e (go (rule_ok hs ps m n))
  where
    go : (b : Bool) → deeper left (if b then choices (left - 1) c false false 64 cells names else none)
        ≡ deeper left (selecting (if b then some (went cells names true false) else none) (λ cells names. choices (left - 1) c false false 64 cells names))
    go true = refl
    go false = refl

later : {words : List ℕ} {s t : Spot} (k : ℕ) → Within words s t → s.end ≤ s.cell + k → t.end ≤ t.cell + k
later k y l = let a = y.low in let b = y.same in omega (arith, a, b, l)

-- a choice behind its selector
abbrev behind : List Head → List Pair → Bool → Depth → ℕ → Option Went → Option Went
behind hs ps v d k o = deeper d.left (selecting o (λ cells names. arms hs ps v k (d.left - 1) d.inside false false 64 cells names))

module _ {common heads words : List ℕ} {g : Ground} {d : Depth} {s : Spot} {x : ℕ} where
  pub act-cycle : {r : code.Option Outcome} → x ≡ 2 → SortDone common heads words g d s turns r → SortDone common heads words g d s (sort_of x) r
  unfolding sort_of
  act-cycle e y = rw e y

  pub act-token : {r : code.Option Outcome} → x ≡ 7 → ChoiceDone common heads words g d s true r → SortDone common heads words g d s (sort_of x) r
  act-token e y = record {
    within = y.within;
    does = λ hs ps kn k l. record { tells = λ cells names z. tells_as (act-token-is hs ps g.valued _ _ d.left d.inside x cells names e) ((y.does hs ps kn k l).tells cells names z) };
  }

  module _ (e : x ≡ 11) {b : Bool} (q : RuleOk common heads words s b) where
    pub act-ruled-off : {r : code.Option Outcome} → NameDone words s b code.None → r ≡ code.None → SortDone common heads words g d s (sort_of x) r
    unfolding selecting
    act-ruled-off n a = record {
      within = rw a tt;
      does = λ hs ps kn k l. record {
        tells = λ cells names z. tells_as (act-ruled-is hs ps g.valued _ _ d.left d.inside x cells names e ∙ ap (behind hs ps g.valued d k) (told-none _ ((n.does (rule_ok hs ps) (q.tells hs ps kn.listed)).tells cells names z)) ∙ deeper-none d.left) (tells_none a);
      };
    }

    pub act-ruled : {p : Outcome} {r : code.Option Outcome} → NameDone words s b (code.Some p) → ChoiceDone common heads words g d p.spot false r → SortDone common heads words g d s (sort_of x) r
    unfolding selecting
    act-ruled {p} {r} n y = record {
      within = reaches-then r n.within y.within;
      does = λ hs ps kn k l. record {
        tells = λ cells names z.
            let u = told-some _ p ((n.does (rule_ok hs ps) (q.tells hs ps kn.listed)).tells cells names z) in
            tells_as (act-ruled-is hs ps g.valued _ _ d.left d.inside x cells names e ∙ ap (behind hs ps g.valued d k) u.is) ((y.does hs ps kn k (later k n.within l)).tells u.cells u.names u.stand);
      };
    }

  module _ (e : 768 ≤ x) where
    pub act-asked-off : {r : code.Option Outcome} → AskedDone words s x code.None → r ≡ code.None → SortDone common heads words g d s (sort_of x) r
    unfolding selecting
    act-asked-off n a = record {
      within = rw a tt;
      does = λ hs ps kn k l. record {
        tells = λ cells names z. tells_as (act-asked-is hs ps g.valued _ _ d.left d.inside x cells names e ∙ ap (behind hs ps g.valued d k) (told-none _ (n.does.tells cells names z)) ∙ deeper-none d.left) (tells_none a);
      };
    }

    pub act-asked : {p : Outcome} {r : code.Option Outcome} → AskedDone words s x (code.Some p) → ChoiceDone common heads words g d p.spot false r → SortDone common heads words g d s (sort_of x) r
    unfolding selecting
    act-asked {p} {r} n y = record {
      within = reaches-then r n.within y.within;
      does = λ hs ps kn k l. record {
        tells = λ cells names z.
            let u = told-some _ p (n.does.tells cells names z) in
            tells_as (act-asked-is hs ps g.valued _ _ d.left d.inside x cells names e ∙ ap (behind hs ps g.valued d k) u.is) ((y.does hs ps kn k (later k n.within l)).tells u.cells u.names u.stand);
      };
    }

-- Actions

acts-end-is : (hs : List Head) (ps : List Pair) (v : Bool) (k left : ℕ) (c : Bool) (x : ℕ) (cells : List ℕ) (names : List Name) → x ≡ 0 → acts hs ps v (suc k) left c (x ∷ cells) names ≡ some (went cells names true false)
unfolding acts
acts-end-is hs ps v k left c x cells names e = rw e

acts-more-is : (hs : List Head) (ps : List Pair) (v : Bool) (k left : ℕ) (c : Bool) (x : ℕ) (cells : List ℕ) (names : List Name) → (x ≡ 0 → ⊥)
    → acts hs ps v (suc k) left c (x ∷ cells) names
    ≡ in_row (an_act hs ps v (λ l d s n. acts hs ps v k l d s n) (λ l d b t r s n. arms hs ps v k l d b t r s n) left c (sort_of x) cells names) (λ cells names. acts hs ps v k left c cells names)
unfolding acts
acts-more-is hs ps v k left c x cells names e = rw (ne_eqb x 0 e)

acts-none-is : (hs : List Head) (ps : List Pair) (v : Bool) (k left : ℕ) (c : Bool) (cells : List ℕ) (names : List Name) → length cells ≡ 0 → acts hs ps v k left c cells names ≡ none
unfolding acts
acts-none-is hs ps v zero left c cells names e = refl
acts-none-is hs ps v (suc k) left c [] names e = refl
acts-none-is hs ps v (suc k) left c (x ∷ cells) names e = absurd (omega (arith, e))

-- what is told of all, by what is told of those left at `here`
pub record Acting (words : List ℕ) (all : Option Went) (hs : List Head) (ps : List Pair) (v : Bool) (left : ℕ) (c : Bool) (here : Spot) (past exits : Bool) : Type 0 where
  pub fuel : ℕ
  pub enough : here.end ≤ here.cell + fuel
  pub cells : List ℕ
  pub names : List Name
  pub stand : Stand words here cells names
  pub is : all ≡ joined (flags past exits) (acts hs ps v fuel left c cells names)

pub record ActsLeft (common heads words : List ℕ) (g : Ground) (d : Depth) (s here : Spot) (past exits : Bool) : Type 0 where
  pub within : Within words s here
  pub left : (hs : List Head) (ps : List Pair) → Knows common heads words g hs ps → (k : ℕ) → s.end ≤ s.cell + k → (cells : List ℕ) (names : List Name) → Stand words s cells names
      → Acting words (acts hs ps g.valued k d.left d.inside cells names) hs ps g.valued d.left d.inside here past exits

-- the first of them
record Opening (words : List ℕ) (all : Option Went) (hs : List Head) (ps : List Pair) (v : Bool) (left : ℕ) (c : Bool) (here : Spot) (past exits : Bool) (x : ℕ) : Type 0 where
  pub fuel : ℕ
  pub enough : here.end ≤ suc here.cell + fuel
  pub cells : List ℕ
  pub names : List Name
  pub stand : Stand words (along 1 here) cells names
  pub is : all ≡ joined (flags past exits) (acts hs ps v (suc fuel) left c (x ∷ cells) names)

opening : {words : List ℕ} {all : Option Went} {hs : List Head} {ps : List Pair} {v : Bool} {left : ℕ} {c : Bool} {here : Spot} {past exits : Bool} (x : ℕ) → here.cell < here.end → x ≡ get_or words here.cell 0
    → Acting words all hs ps v left c here past exits → Opening words all hs ps v left c here past exits x
opening {words} {all} {hs} {ps} {v} {left} {c} {here} {past} {exits} x l e y = go y.fuel y.cells y.enough y.stand y.is
  where
    go : (k : ℕ) (cells : List ℕ) → here.end ≤ here.cell + k → Stand words here cells y.names → all ≡ joined (flags past exits) (acts hs ps v k left c cells y.names) → Opening words all hs ps v left c here past exits x
    go zero cells m z i = absurd (omega (arith, l, m))
    go (suc k) [] m z i = let n = z.cells_count in absurd (omega (arith, n, l))
    go (suc k) (a ∷ cells) m z i =
        let d : a ≡ x = sym (first_cell z) ∙ sym e in
        record { fuel = k; enough = omega (arith, m); cells = cells; names = y.names; stand = cell-on z; is = i ∙ ap (λ (j : ℕ). joined (flags past exits) (acts hs ps v (suc k) left c (j ∷ cells) y.names)) d }

module _ {common heads words : List ℕ} {g : Ground} {d : Depth} {s : Spot} where
  pub acts-start : ActsLeft common heads words g d s s true false
  acts-start = record {
    within = within_same words refl;
    left = λ hs ps kn k l cells names x. record { fuel = k; enough = l; cells = cells; names = names; stand = x; is = joined-start (acts hs ps g.valued k d.left d.inside cells names) };
  }

  module _ {here : Spot} {past exits : Bool} (y : ActsLeft common heads words g d s here past exits) where
    -- what is left decides as all
    abbrev put-behind : Option Went → Option Went
    put-behind o = joined (flags past exits) o

    pub acts-over : {r : code.Option Outcome} → here.end ≤ here.cell → r ≡ code.None → ActsDone common heads words g d s r
    unfolding joined
    acts-over l a = record {
      within = rw a tt;
      does = λ hs ps kn k m. record {
        tells = λ cells names x.
            let z = y.left hs ps kn k m cells names x in
            let n = z.stand.cells_count in
            tells_as (z.is ∙ ap put-behind (acts-none-is hs ps g.valued z.fuel d.left d.inside z.cells z.names (omega (arith, n, l)))) (tells_none a);
      };
    }

    pub acts-end : (x : ℕ) {next : Spot} {r : code.Option Outcome} → here.cell < here.end → x ≡ get_or words here.cell 0 → x ≡ 0 → next ≡ along 1 here → r ≡ yes next past exits → ActsDone common heads words g d s r
    unfolding joined
    acts-end x {next} l e o f a = record {
      within = rw a (within-then y.within (within-along words 1 (omega (arith, l)) f));
      does = λ hs ps kn k m. record {
        tells = λ cells names u.
            let z = opening x l e (y.left hs ps kn k m cells names u) in
            tells_as (z.is ∙ ap put-behind (acts-end-is hs ps g.valued z.fuel d.left d.inside x z.cells z.names o))
            (tells-some (a ∙ ap (λ p. yes next p exits) (sym (and-true past)) ∙ ap (λ q. yes next (past && true) q) (sym (or-false exits))) (stand-at f z.stand));
      };
    }

    module _ (x : ℕ) {next : Spot} {r : code.Option Outcome} (l : here.cell < here.end) (e : x ≡ get_or words here.cell 0) (o : x ≡ 0 → ⊥) (f : next ≡ along 1 here) (u : SortDone common heads words g d next (sort_of x) r) where
      abbrev the-act : List Head → List Pair → ℕ → List ℕ → List Name → Option Went
      the-act hs ps k cells names = an_act hs ps g.valued (λ l d s n. acts hs ps g.valued k l d s n) (λ l d b t r s n. arms hs ps g.valued k l d b t r s n) d.left d.inside (sort_of x) cells names

      abbrev onward : List Head → List Pair → ℕ → Option Went → Option Went
      onward hs ps k w = put-behind (in_row w (λ cells names. acts hs ps g.valued k d.left d.inside cells names))

      act-told : (hs : List Head) (ps : List Pair) → Knows common heads words g hs ps → {all : Option Went} (z : Opening words all hs ps g.valued d.left d.inside here past exits x) → Tells words (the-act hs ps z.fuel z.cells z.names) r
      act-told hs ps kn z =
          let c : next.cell ≡ here.cell + 1 = ap (λ (t : Spot). t.cell) f in
          let n : next.end ≡ here.end = ap (λ (t : Spot). t.end) f in
          let m = z.enough in
          (u.does hs ps kn z.fuel (omega (arith, c, n, m))).tells z.cells z.names (stand-at f z.stand)

      act-is : (hs : List Head) (ps : List Pair) {all : Option Went} (z : Opening words all hs ps g.valued d.left d.inside here past exits x) → all ≡ onward hs ps z.fuel (the-act hs ps z.fuel z.cells z.names)
      act-is hs ps z = z.is ∙ ap put-behind (acts-more-is hs ps g.valued z.fuel d.left d.inside x z.cells z.names o)

      pub acts-fail : {q : code.Option Outcome} → r ≡ code.None → q ≡ code.None → ActsDone common heads words g d s q
      unfolding joined in_row
      acts-fail b a = record {
        within = rw a tt;
        does = λ hs ps kn k m. record {
          tells = λ cells names v.
              let z = opening x l e (y.left hs ps kn k m cells names v) in
              tells_as (act-is hs ps z ∙ ap (onward hs ps z.fuel) (told-none (the-act hs ps z.fuel z.cells z.names) (rw b at (act-told hs ps kn z)))) (tells_none a);
        };
      }

      pub acts-more : {a : Outcome} {past₁ exits₁ : Bool} → r ≡ code.Some a → past₁ ≡ (past && a.past) → exits₁ ≡ (exits || a.exits) → ActsLeft common heads words g d s a.spot past₁ exits₁
      unfolding in_row
      acts-more {a} {past₁} {exits₁} b p₁ e₁ =
          let w : Within words next a.spot = rw b at u.within in
          record {
            within = within-then y.within (within-then (within-along words 1 (omega (arith, l)) f) w);
            left = λ hs ps kn k m cells names v.
                let z = opening x l e (y.left hs ps kn k m cells names v) in
                let t = told-some (the-act hs ps z.fuel z.cells z.names) a (rw b at (act-told hs ps kn z)) in
                let low = w.low in
                let same = w.same in
                let c : next.cell ≡ here.cell + 1 = ap (λ (t : Spot). t.cell) f in
                let n : next.end ≡ here.end = ap (λ (t : Spot). t.end) f in
                let q = z.enough in
                record {
                  fuel = z.fuel;
                  enough = omega (arith, low, same, c, n, q);
                  cells = t.cells;
                  names = t.names;
                  stand = t.stand;
                  is = act-is hs ps z ∙ ap (onward hs ps z.fuel) t.is ∙ joined-again past exits (went t.cells t.names a.past a.exits) (acts hs ps g.valued z.fuel d.left d.inside t.cells t.names)
                      ∙ ap (λ (f : Went). joined f (acts hs ps g.valued z.fuel d.left d.inside t.cells t.names)) (rw (p₁, e₁));
                };
          }

-- Alternatives

arms-none-is : (hs : List Head) (ps : List Pair) (v : Bool) (k left : ℕ) (c t h : Bool) (room : ℕ) (cells : List ℕ) (names : List Name) → length cells ≡ 0 → arms hs ps v k left c t h room cells names ≡ none
unfolding acts
arms-none-is hs ps v zero left c t h room cells names e = refl
arms-none-is hs ps v (suc k) left c t h room [] names e = refl
arms-none-is hs ps v (suc k) left c t h room (x ∷ cells) names e = absurd (omega (arith, e))

arms-arm-is : (hs : List Head) (ps : List Pair) (v : Bool) (k left : ℕ) (c t h : Bool) (room x : ℕ) (cells : List ℕ) (names : List Name)
    → arms hs ps v (suc k) left c t h room (x ∷ cells) names
    ≡ an_arm hs ps v (λ l d s n. acts hs ps v k l d s n) (λ l d b t r s n. arms hs ps v k l d b t r s n) left c t h room (arm_of x) cells names
unfolding acts
arms-arm-is hs ps v k left c t h room x cells names = refl

arm-other-is : (hs : List Head) (ps : List Pair) (v : Bool) (inner : Actions hs ps v) (choices : Choices hs ps v) (left : ℕ) (c t h : Bool) (room x : ℕ) (cells : List ℕ) (names : List Name) → x ≡ 13
    → an_arm hs ps v inner choices left c t h room (arm_of x) cells names ≡ inner left c cells names
unfolding an_arm arm_of
arm-other-is hs ps v inner choices left c t h room x cells names e = rw e

arm-large : (x : ℕ) → 64 < x → arm_of x ≡ labels (x - 64)
unfolding arm_of
arm-large x l = rw (ne_eqb x 12 (λ e. omega (arith, l, e)), ne_eqb x 13 (λ e. omega (arith, l, e)), ne_eqb x 14 (λ e. omega (arith, l, e)), lt-leb x 64 l)

arms-labels-is : (hs : List Head) (ps : List Pair) (v : Bool) (k left : ℕ) (c t h : Bool) (room x n : ℕ) (cells : List ℕ) (names : List Name) → 64 < x → n ≡ x - 64
    → arms hs ps v (suc k) left c t h room (x ∷ cells) names
    ≡ either_of (selecting (some_labels n room cells names) (λ cells names. acts hs ps v k left c cells names)) (λ cells names. arms hs ps v k left c t true (room - n) cells names)
unfolding acts an_arm selecting some_labels either_of
arms-labels-is hs ps v k left c t h room x n cells names l e = rw (arm-large x l, ← e) (go (leb n room && leb n (length cells)))
  where
    go : (b : Bool) → (if b then either_of (acts hs ps v k left c (drop n cells) names) (λ cells names. arms hs ps v k left c t true (room - n) cells names) else none)
        ≡ either_of (selecting (if b then some (went (drop n cells) names true false) else none) (λ cells names. acts hs ps v k left c cells names)) (λ cells names. arms hs ps v k left c t true (room - n) cells names)
    go true = refl
    go false = refl

-- one alternative

module _ {common heads words : List ℕ} {g : Ground} {d : Depth} where
  pub last-other : {s : Spot} {l : Last} {r : code.Option Outcome} → l.x ≡ 13 → ActsDone common heads words g d s r → LastDone common heads words g d s l r
  last-other {s} {l} {r} e y = record {
    within = y.within;
    does = λ hs ps kn k m room. record { tells = λ cells names z. tells_as (arm-other-is hs ps g.valued _ _ d.left d.inside l.token l.labelled room l.x cells names e) ((y.does hs ps kn k m).tells cells names z) };
  }

  pub last-bare : {s : Spot} {l : Last} {r : code.Option Outcome} → BareDone words s l.x l.token l.labelled r → LastDone common heads words g d s l r
  last-bare y = record {
    within = y.within;
    does = λ hs ps kn k m room. y.does hs ps g.valued (λ l d s n. acts hs ps g.valued k l d s n) (λ l d b t r s n. arms hs ps g.valued k l d b t r s n) d.left d.inside room;
  }

-- alternatives

pub record Arming (words : List ℕ) (all : Option Went) (hs : List Head) (ps : List Pair) (v : Bool) (left : ℕ) (c t : Bool) (here : Spot) (room : ℕ) (labelled past exits : Bool) : Type 0 where
  pub fuel : ℕ
  pub enough : here.end ≤ here.cell + fuel
  pub cells : List ℕ
  pub names : List Name
  pub stand : Stand words here cells names
  pub is : all ≡ beside (flags past exits) (arms hs ps v fuel left c t labelled room cells names)

pub record ArmsLeft (common heads words : List ℕ) (g : Ground) (d : Depth) (t : Bool) (s here : Spot) (room : ℕ) (labelled past exits : Bool) : Type 0 where
  pub within : Within words s here
  pub left : (hs : List Head) (ps : List Pair) → Knows common heads words g hs ps → (k : ℕ) → s.end ≤ s.cell + k → (cells : List ℕ) (names : List Name) → Stand words s cells names
      → Arming words (arms hs ps g.valued k d.left d.inside t false 64 cells names) hs ps g.valued d.left d.inside t here room labelled past exits

record Facing (words : List ℕ) (all : Option Went) (hs : List Head) (ps : List Pair) (v : Bool) (left : ℕ) (c t : Bool) (here : Spot) (room : ℕ) (labelled past exits : Bool) (x : ℕ) : Type 0 where
  pub fuel : ℕ
  pub enough : here.end ≤ suc here.cell + fuel
  pub cells : List ℕ
  pub names : List Name
  pub stand : Stand words (along 1 here) cells names
  pub is : all ≡ beside (flags past exits) (arms hs ps v (suc fuel) left c t labelled room (x ∷ cells) names)

facing : {words : List ℕ} {all : Option Went} {hs : List Head} {ps : List Pair} {v : Bool} {left : ℕ} {c t : Bool} {here : Spot} {room : ℕ} {labelled past exits : Bool} (x : ℕ) → here.cell < here.end → x ≡ get_or words here.cell 0
    → Arming words all hs ps v left c t here room labelled past exits → Facing words all hs ps v left c t here room labelled past exits x
facing {words} {all} {hs} {ps} {v} {left} {c} {t} {here} {room} {labelled} {past} {exits} x l e y = go y.fuel y.cells y.enough y.stand y.is
  where
    go : (k : ℕ) (cells : List ℕ) → here.end ≤ here.cell + k → Stand words here cells y.names → all ≡ beside (flags past exits) (arms hs ps v k left c t labelled room cells y.names)
        → Facing words all hs ps v left c t here room labelled past exits x
    go zero cells m z i = absurd (omega (arith, l, m))
    go (suc k) [] m z i = let n = z.cells_count in absurd (omega (arith, n, l))
    go (suc k) (a ∷ cells) m z i =
        let d : a ≡ x = sym (first_cell z) ∙ sym e in
        record { fuel = k; enough = omega (arith, m); cells = cells; names = y.names; stand = cell-on z; is = i ∙ ap (λ (j : ℕ). beside (flags past exits) (arms hs ps v (suc k) left c t labelled room (j ∷ cells) y.names)) d }

module _ {common heads words : List ℕ} {g : Ground} {d : Depth} {t : Bool} {s : Spot} where
  pub arms_start : ArmsLeft common heads words g d t s s 64 false false false
  arms_start = record {
    within = within_same words refl;
    left = λ hs ps kn k l cells names x. record { fuel = k; enough = l; cells = cells; names = names; stand = x; is = beside-start (arms hs ps g.valued k d.left d.inside t false 64 cells names) };
  }

  module _ {here : Spot} {room : ℕ} {labelled past exits : Bool} (y : ArmsLeft common heads words g d t s here room labelled past exits) where
    abbrev with-flags : Option Went → Option Went
    with-flags o = beside (flags past exits) o

    pub arms-over : {r : code.Option Outcome} → here.end ≤ here.cell → r ≡ code.None → ArmsDone common heads words g d s t r
    unfolding beside
    arms-over l a = record {
      within = rw a tt;
      does = λ hs ps kn k m. record {
        tells = λ cells names x.
            let z = y.left hs ps kn k m cells names x in
            let n = z.stand.cells_count in
            tells_as (z.is ∙ ap with-flags (arms-none-is hs ps g.valued z.fuel d.left d.inside t labelled room z.cells z.names (omega (arith, n, l)))) (tells_none a);
      };
    }

    module _ (x : ℕ) {next : Spot} (l : here.cell < here.end) (e : x ≡ get_or words here.cell 0) (f : next ≡ along 1 here) where
      next-cell : next.cell ≡ here.cell + 1
      next-cell = ap (λ (p : Spot). p.cell) f

      next-end : next.end ≡ here.end
      next-end = ap (λ (p : Spot). p.end) f

      in-next : Within words s next
      in-next = within-then y.within (within-along words 1 (omega (arith, l)) f)

      -- the last
      module _ {last : Last} (q₁ : last.x ≡ x) (q₂ : last.token ≡ t) (q₃ : last.labelled ≡ labelled) {o : code.Option Outcome} (u : LastDone common heads words g d next last o) where
        abbrev the-last : List Head → List Pair → ℕ → List ℕ → List Name → Option Went
        the-last hs ps k cells names = an_arm hs ps g.valued (λ l d s n. acts hs ps g.valued k l d s n) (λ l d b t r s n. arms hs ps g.valued k l d b t r s n) d.left d.inside last.token last.labelled room (arm_of last.x) cells names

        last-told : (hs : List Head) (ps : List Pair) → Knows common heads words g hs ps → {all : Option Went} (z : Facing words all hs ps g.valued d.left d.inside t here room labelled past exits x) → Tells words (the-last hs ps z.fuel z.cells z.names) o
        last-told hs ps kn z =
            let n = z.enough in
            let c = next-cell in
            let j = next-end in
            (u.does hs ps kn z.fuel (omega (arith, n, c, j)) room).tells z.cells z.names (stand-at f z.stand)

        last-is : (hs : List Head) (ps : List Pair) {all : Option Went} (z : Facing words all hs ps g.valued d.left d.inside t here room labelled past exits x) → all ≡ with-flags (the-last hs ps z.fuel z.cells z.names)
        last-is hs ps z = z.is ∙ ap with-flags (arms-arm-is hs ps g.valued z.fuel d.left d.inside t labelled room x z.cells z.names ∙ rw (q₁, q₂, q₃) refl)

        pub arms-last-off : {r : code.Option Outcome} → o ≡ code.None → r ≡ code.None → ArmsDone common heads words g d s t r
        unfolding beside
        arms-last-off b a = record {
          within = rw a tt;
          does = λ hs ps kn k m. record {
            tells = λ cells names v.
                let z = facing x l e (y.left hs ps kn k m cells names v) in
                tells_as (last-is hs ps z ∙ ap with-flags (told-none (the-last hs ps z.fuel z.cells z.names) (rw b at (last-told hs ps kn z)))) (tells_none a);
          };
        }

        pub arms_last : {b : Outcome} {r : code.Option Outcome} → o ≡ code.Some b → r ≡ yes b.spot (past || b.past) (exits || b.exits) → ArmsDone common heads words g d s t r
        arms_last b a = record {
          within = rw a (within-then in-next (rw b at u.within));
          does = λ hs ps kn k m. record {
            tells = λ cells names v.
                let z = facing x l e (y.left hs ps kn k m cells names v) in
                tells_as (last-is hs ps z) (tells-beside (the-last hs ps z.fuel z.cells z.names) past exits (rw b at (last-told hs ps kn z)) a);
          };
        }

      -- one with labels
      module _ {n : ℕ} (big : 64 < x) (many : n ≡ x - 64) where
        abbrev past-labels : List Head → List Pair → ℕ → Option Went → Option Went
        past-labels hs ps k o = with-flags (either_of (selecting o (λ cells names. acts hs ps g.valued k d.left d.inside cells names)) (λ cells names. arms hs ps g.valued k d.left d.inside t true (room - n) cells names))

        arm-is-it : (hs : List Head) (ps : List Pair) {all : Option Went} (z : Facing words all hs ps g.valued d.left d.inside t here room labelled past exits x) → all ≡ past-labels hs ps z.fuel (some_labels n room z.cells z.names)
        arm-is-it hs ps z = z.is ∙ ap with-flags (arms-labels-is hs ps g.valued z.fuel d.left d.inside t labelled room x n z.cells z.names big many)

        pub arms-unlabelled : {r : code.Option Outcome} → LabelsDone words next n room code.None → r ≡ code.None → ArmsDone common heads words g d s t r
        unfolding beside either_of selecting
        arms-unlabelled u a = record {
          within = rw a tt;
          does = λ hs ps kn k m. record {
            tells = λ cells names v.
                let z = facing x l e (y.left hs ps kn k m cells names v) in
                tells_as (arm-is-it hs ps z ∙ ap (past-labels hs ps z.fuel) (told-none (some_labels n room z.cells z.names) (u.does.tells z.cells z.names (stand-at f z.stand)))) (tells_none a);
          };
        }

        module _ {o : Outcome} (u : LabelsDone words next n room (code.Some o)) {r : code.Option Outcome} (w : ActsDone common heads words g d o.spot r) where
          abbrev the-arm : List Head → List Pair → ℕ → List ℕ → List Name → Option Went
          the-arm hs ps k cells names = selecting (some_labels n room cells names) (λ cells names. acts hs ps g.valued k d.left d.inside cells names)

          abbrev later-arms : List Head → List Pair → ℕ → Option Went → Option Went
          later-arms hs ps k o = with-flags (either_of o (λ cells names. arms hs ps g.valued k d.left d.inside t true (room - n) cells names))

          arm-told : (hs : List Head) (ps : List Pair) → Knows common heads words g hs ps → {all : Option Went} (z : Facing words all hs ps g.valued d.left d.inside t here room labelled past exits x)
              → Tells words (the-arm hs ps z.fuel z.cells z.names) r
          unfolding selecting
          arm-told hs ps kn z =
              let m = z.enough in
              let c = next-cell in
              let j = next-end in
              let v = told-some (some_labels n room z.cells z.names) o (u.does.tells z.cells z.names (stand-at f z.stand)) in
              tells_as (ap (λ (o : Option Went). selecting o (λ cells names. acts hs ps g.valued z.fuel d.left d.inside cells names)) v.is) ((w.does hs ps kn z.fuel (later z.fuel u.within (omega (arith, m, c, j)))).tells v.cells v.names v.stand)

          pub arms-fail : {q : code.Option Outcome} → r ≡ code.None → q ≡ code.None → ArmsDone common heads words g d s t q
          unfolding beside either_of
          arms-fail b a = record {
            within = rw a tt;
            does = λ hs ps kn k m. record {
              tells = λ cells names v.
                  let z = facing x l e (y.left hs ps kn k m cells names v) in
                  tells_as (arm-is-it hs ps z ∙ ap (later-arms hs ps z.fuel) (told-none (the-arm hs ps z.fuel z.cells z.names) (rw b at (arm-told hs ps kn z)))) (tells_none a);
            };
          }

          pub arms_more : {a : Outcome} {room₁ : ℕ} {past₁ exits₁ : Bool} → r ≡ code.Some a → room₁ ≡ room - n → past₁ ≡ (past || a.past) → exits₁ ≡ (exits || a.exits) → ArmsLeft common heads words g d t s a.spot room₁ true past₁ exits₁
          unfolding either_of
          arms_more {a} {room₁} {past₁} {exits₁} b r₁ p₁ e₁ =
              let i : Within words next a.spot = within-then u.within (rw b at w.within) in
              record {
                within = within-then in-next i;
                left = λ hs ps kn k m cells names v.
                    let z = facing x l e (y.left hs ps kn k m cells names v) in
                    let h = z.enough in
                    let c = next-cell in
                    let j = next-end in
                    let q = told-some (the-arm hs ps z.fuel z.cells z.names) a (rw b at (arm-told hs ps kn z)) in
                    record {
                      fuel = z.fuel;
                      enough = later z.fuel i (omega (arith, h, c, j));
                      cells = q.cells;
                      names = q.names;
                      stand = q.stand;
                      is = arm-is-it hs ps z ∙ ap (later-arms hs ps z.fuel) q.is ∙ beside-again past exits (went q.cells q.names a.past a.exits) (arms hs ps g.valued z.fuel d.left d.inside t true (room - n) q.cells q.names) ∙ rw (p₁, e₁, r₁) refl;
                    };
              }
