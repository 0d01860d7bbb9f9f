-- The figure of a program: it is the figure of the definition, and it suffices.
use mathlib.Core.Bool.{Bool, true, false}
use mathlib.Core.List.{List, [], ◌++◌, append-nil}
use mathlib.Core.Logic.{inl, inr}
use mathlib.Core.Option.{Option, none, some}
use mathlib.Core.Path.{◌≡◌, refl, sym, ap, ◌∙◌}
use native.Mathlib.Decide.{dec_lt}
use native.Mathlib.Omega.{arith}
use Prim.Native.Nat.{ℕ, zero, suc, ◌≤◌, ◌<◌}
use lib.Dec.{eqb}
use lib.ListN.{length}
use borrow.Author.Tests.{eqb-true, eq-eqb}
use Rattle.agreement.proofs.Lists.{going-stopped, going-waiting}
use Rattle.agreement.specs.Demand.{begin, Suffices}
use Rattle.base.specs.Bools.{never}
use Rattle.std.specs.Prelude.{if◌then◌else◌}
use Rattle.base.specs.Common.{member}
use Rattle.finishing.specs.Finishing.{Finishing}
use Rattle.machine.specs.Decode.{call_rule, decode}
use Rattle.machine.specs.Walk.{fresh}
use Rattle.program.specs.Accepted.{Accepted}
use Rattle.program.specs.Program.{Rule}
use Rattle.program.specs.Table.{place, table}
use Rattle.figure.specs.Figure.{Reached, Bounds, Figure, Long}
use Rattle.figure.specs.Count.{starts_of, most_figure, figure}
use Rattle.figure.specs.Promise.{RuleStart, rule_start, IsFigure, FigureExact, FigureEnough, FigureSteps, BoundEnough, FigureLong, Settles, FigureSettles}
use Rattle.figure.proofs.Counted.{Start, From, counted-bounds, counted-figure, counted-small, counted-long}
use Rattle.figure.proofs.Enough.{enough, steps}
use Rattle.figure.proofs.Spots.{reached-rule}

-- one figure at most
one-figure : {T : List ℕ} {Start : ℕ → Type 0} {q r : ℕ} → Figure T Start q → Figure T Start r → q ≡ r
one-figure f g = omega (arith, g.bounds.most f.is_start f.reached f.path, f.bounds.most g.is_start g.reached g.path)

-- the starts that are listed are the rules'

listed-rule : (prog : List Rule) (n s : ℕ) → n ≤ length prog → member s (starts_of prog n) ≡ true → RuleStart prog s
unfolding starts_of
listed-rule prog zero s h e = never e
listed-rule prog (suc n) s h e = go (eqb s (place 1 prog n)) refl e (λ z. listed-rule prog n s (omega arith) z)
  where
    go : (t : Bool) → eqb s (place 1 prog n) ≡ t → (if t then true else member s (starts_of prog n)) ≡ true → (member s (starts_of prog n) ≡ true → RuleStart prog s) → RuleStart prog s
    go true d z ih = rule_start n (omega arith) (eqb-true s (place 1 prog n) d)
    go false d z ih = ih z

rule-listed : (prog : List Rule) (n r s : ℕ) → r < n → s ≡ place 1 prog r → member s (starts_of prog n) ≡ true
unfolding starts_of
rule-listed prog zero r s h e = absurd (omega arith)
rule-listed prog (suc n) r s h e = go (eqb s (place 1 prog n)) refl (λ z. rule-listed prog n r s z e)
  where
    go : (t : Bool) → eqb s (place 1 prog n) ≡ t → (r < n → member s (starts_of prog n) ≡ true) → (if t then true else member s (starts_of prog n)) ≡ true
    go true d ih = refl
    go false d ih = elim (dec_lt r n) [
      | yes z ↦ ih z
      | no z ↦ let y : r ≡ n = omega arith in
          let w : s ≡ place 1 prog n = rw y at e in
          never (sym d ∙ eq-eqb s (place 1 prog n) w)
    ]

module _ (prog : List Rule) (a : Accepted prog) where
  abbrev T : List ℕ
  T = table prog

  abbrev Starts : List ℕ
  Starts = starts_of prog (length prog)

  as-listed : {s : ℕ} → RuleStart prog s → Start T Starts s
  as-listed {s} (rule_start r l e) = rule-listed prog (length prog) r s l e

  as-rule : {s : ℕ} → Start T Starts s → RuleStart prog s
  as-rule {s} e = listed-rule prog (length prog) s (omega arith) e

  reached-rule-here : {s l m : ℕ} → RuleStart prog s → Reached T s l → decode T l ≡ call_rule m → RuleStart prog m
  reached-rule-here {s} {l} {m} h r d =
      let r₁ : Reached (table prog ++ []) s l = rw (append-nil (table prog)) r in
      let d₁ : decode (table prog ++ []) l ≡ call_rule m = rw (append-nil (table prog)) d in
      reached-rule prog [] a h r₁ d₁

  calls : (l s : ℕ) → From T Starts l → decode T l ≡ call_rule s → Start T Starts s
  calls l s f d = as-listed (reached-rule-here (as-rule f.is_start) f.way d)

  bounds_of : (q : ℕ) → figure prog ≡ some q → Bounds (table prog) (RuleStart prog) q
  unfolding figure
  bounds_of q e = record { most = λ s r p. (counted-bounds T Starts calls (suc most_figure) q e).most (as-listed s) r p }

  -- a budget of 0 suffices for no walk
  not-nothing : (tokens answers : List ℕ) → Suffices prog (table prog ++ []) tokens answers 0 0 → ⊥
  unfolding fresh
  not-nothing tokens answers h = elim (h (fresh 0) [] 0 [] begin) [
    | inl z ↦ going-stopped refl z.stop
    | inr z ↦ elim z [ inl y ↦ omega arith | inr y ↦ going-waiting refl y.waits ]
  ]

  not-0 : Finishing prog → (q : ℕ) → figure prog ≡ some q → 0 < q
  not-0 f zero e = absurd (not-nothing [] [] (enough prog a f 0 (bounds_of 0 e) [] [] [] 0))
  not-0 f (suc q) e = omega arith

  is-figure : Finishing prog → (q : ℕ) → figure prog ≡ some q → IsFigure prog q
  unfolding figure
  is-figure f q e =
      let z = counted-figure T Starts calls (suc most_figure) q e (not-0 f q e) in
      record {
        exact = record { bounds = bounds_of q e; start = z.start; location = z.location; end = z.end; is_start = as-rule z.is_start; reached = z.reached; path = z.path };
        small = omega (arith, counted-small T Starts calls (suc most_figure) q e (not-0 f q e));
      }

  is-long : figure prog ≡ none → Long (table prog) (RuleStart prog) (suc most_figure)
  unfolding figure
  is-long e =
      let z = counted-long T Starts calls (suc most_figure) (omega arith) e in
      record { start = z.start; location = z.location; end = z.end; count = z.count; is_start = as-rule z.is_start; reached = z.reached; path = z.path; long = z.long }

  -- a path that is too long has no bound below that
  long-bound : {q : ℕ} → Long (table prog) (RuleStart prog) (suc most_figure) → Bounds (table prog) (RuleStart prog) q → most_figure < q
  long-bound h b = omega (arith, h.long, b.most h.is_start h.reached h.path)

  settled : Finishing prog → Settles prog
  settled f = record { figure_only = λ q i. only q i (figure prog) refl; long_only = λ h. too_long h (figure prog) refl }
    where
      only : (q : ℕ) → IsFigure prog q → (o : Option ℕ) → figure prog ≡ o → o ≡ some q
      only q i none e = absurd (omega (arith, i.small, long-bound (is-long e) i.exact.bounds))
      only q i (some r) e = ap some (one-figure (is-figure f r e).exact i.exact)

      too_long : Long (table prog) (RuleStart prog) (suc most_figure) → (o : Option ℕ) → figure prog ≡ o → o ≡ none
      too_long h none e = refl
      too_long h (some r) e = let z = is-figure f r e in absurd (omega (arith, z.small, long-bound h z.exact.bounds))

pub figure-exact : FigureExact
figure-exact prog a f q e = is-figure prog a f q e

pub bound-enough : BoundEnough
bound-enough prog a f q b = enough prog a f q b

pub figure-enough : FigureEnough
figure-enough prog a f q e = enough prog a f q (bounds_of prog a q e)

pub figure-steps : FigureSteps
figure-steps prog a f q e = steps prog a f q (bounds_of prog a q e)

pub figure-long : FigureLong
figure-long prog a e = is-long prog a e

pub figure-settles : FigureSettles
figure-settles prog a f = settled prog a f
