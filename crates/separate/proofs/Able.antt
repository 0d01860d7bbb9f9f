-- What is asked of each rule of a part holds.
use mathlib.Core.Bool.{Bool, true, false, not}
use mathlib.Core.List.{List, [], ◌∷◌}
use mathlib.Core.Option.{Option, none, some}
use mathlib.Core.Path.{◌≡◌, refl, sym, ap, subst, ◌∙◌}
use Prim.Native.Nat.{ℕ, zero, suc, ◌+◌, ◌≤◌}
use native.Mathlib.Omega.{arith}
use lib.Dec.{eqb}
use lib.ListN.{length, get_or, replicate}
use Rattle.acceptance.proofs.Shape.{Each}
use Rattle.base.specs.Bools.{never}
use Rattle.cells.specs.Cells.{acts_cells}
use Rattle.declarations.specs.Decls.{Decl, index_of}
use Rattle.grammar.specs.Derived.{RuleIn, one_rule, RulesIn, last_rule, more_rules}
use Rattle.names.specs.Known.{Checked, good, wrong, ◌>>=◌, fault_if, KnownRule, Names}
use Rattle.names.specs.Understand.{is_one, taken}
use Rattle.parts.proofs.Bound.{took-less, gives_less, rule-cells, words-at-few}
use Rattle.parts.proofs.Counts.{acts-calls}
use Rattle.parts.specs.Objects.{OpenRule, open_rule, open_all}
use Rattle.parts.specs.Sound.{SoundRule}
use Rattle.partrules.specs.Opened.{Context, Able, SeenAre, marked, aims_in}
use Rattle.separate.proofs.Own.{Rowed}
use Rattle.syntax.specs.Written.{Program, Rule}
use Rattle.words.specs.Words.{Word, words_at}

-- no rule before the first

get_d-zeros : (n i : ℕ) → ◌≡◌ {A = ℕ} (get_or (replicate n 0) i 0) 0
get_d-zeros zero i = refl
get_d-zeros (suc n) zero = refl
get_d-zeros (suc n) (suc i) = get_d-zeros n i

pub none_seen : (ds : List Decl) (n : ℕ) → SeenAre ds [] (replicate n 0)
unfolding marked is_one
none_seen ds n = record { names = λ w. go (index_of 7 w 0 ds) }
  where
    go : (o : Option ℕ) → false ≡ marked (replicate n 0) o
    go none = refl
    go (some i) = ap (λ k. not (eqb k 0)) (sym (get_d-zeros n i))

-- what a rule means does not rest on the rules before it

past-test : {A : Type 0} (t : Bool) (n : ℕ) (w : Word) (k : Unit {0} → Checked A) {a : A} → ◌>>=◌ (fault_if t n w) k ≡ good a → k tt ≡ good a
past-test true n w k e = let z : ◌≡◌ {A = ℕ} 0 1 = cc in absurd (omega (arith, z))
past-test false n w k e = e

good-same : {A : Type 0} {x : Checked A} {a b : A} → x ≡ good a → x ≡ good b → a ≡ b
good-same e d = cc

same-rule : (p : Program) (n : Names) (ks : List KnownRule) (s t : List (List ℕ)) (r : Rule) {o q : OpenRule} → open_rule p n ks s r ≡ good o → open_rule p n ks t r ≡ good q → o ≡ q
unfolding open_rule
same-rule p n ks s t r e d = good-same (past-test (taken r.rule n s) 4 r.rule _ e) (past-test (taken r.rule n t) 4 r.rule _ d)

-- so what holds of the rules of the whole holds of each by itself

abbrev Any : (P : OpenRule → Type 0) → Program → Names → List KnownRule → Rule → Type 0
Any P p n ks r = (before : List (List ℕ)) (o : OpenRule) → open_rule p n ks before r ≡ good o → P o

each-rule : (P : OpenRule → Type 0) (p : Program) (n : Names) (ks : List KnownRule) (seen : List (List ℕ)) (rs : List Rule) (os : List OpenRule) → open_all p n ks seen rs ≡ good os → Each P os
    → Each (Any P p n ks) rs
unfolding open_all Each
each-rule P p n ks seen [] os e h = tt
each-rule P p n ks seen (r ∷ rs) os e h = go (open_rule p n ks seen r) refl e (λ rest d g. each-rule P p n ks (r.rule.text ∷ seen) rs rest d g)
  where
    Later : Type 0
    Later = (rest : List OpenRule) → open_all p n ks (r.rule.text ∷ seen) rs ≡ good rest → Each P rest → Each (Any P p n ks) rs

    two : Later → (o : OpenRule) → open_rule p n ks seen r ≡ good o → (m : Checked (List OpenRule)) → open_all p n ks (r.rule.text ∷ seen) rs ≡ m → ◌>>=◌ m (λ rest. good (o ∷ rest)) ≡ good os
        → Each (Any P p n ks) (r ∷ rs)
    two later o q (wrong k w) d f = let z : ◌≡◌ {A = ℕ} 0 1 = cc in absurd (omega (arith, z))
    two later o q (good rest) d f =
        let y : o ∷ rest ≡ os = cc in
        let g : Each P (o ∷ rest) = subst (λ (l : List OpenRule). Each P l) (sym y) h in
        ((λ before x b. subst P (sym (same-rule p n ks before seen r b q)) g.0), later rest d g.1)

    go : (m : Checked OpenRule) → open_rule p n ks seen r ≡ m → ◌>>=◌ m (λ first. ◌>>=◌ (open_all p n ks (r.rule.text ∷ seen) rs) (λ rest. good (first ∷ rest))) ≡ good os → Later → Each (Any P p n ks) (r ∷ rs)
    go (wrong k w) q f later = let z : ◌≡◌ {A = ℕ} 0 1 = cc in absurd (omega (arith, z))
    go (good o) q f later = two later o q (open_all p n ks (r.rule.text ∷ seen) rs) refl f

-- cells

rule-less : {ws ws' : List Word} {r : Rule} → RuleIn ws ws' r → 3 + length ws' ≤ length ws
rule-less (one_rule t g u q v) = omega (arith, took-less t, gives_less g, took-less u, acts-calls q, took-less v)

abbrev Fits : Context → Rule → Type 0
Fits x r = (before : List (List ℕ)) (o : OpenRule) → open_rule x.program x.names x.known before r ≡ good o → length (acts_cells o.means.body []) ≤ 65535

fits_all : (x : Context) {ws ws' : List Word} {rs : List Rule} → length ws ≤ 32769 → RulesIn ws ws' rs → Each (Fits x) rs
unfolding Each
fits_all x l (last_rule i m) = ((λ before o e. omega (arith, rule-cells x.program x.names x.known i before o e, l)), tt)
fits_all x l (more_rules {ws₁ = ws₁} i d q) =
    ((λ before o e. omega (arith, rule-cells x.program x.names x.known i before o e, l)), fits_all x (omega (arith, rule-less i, l)) q)

-- All of it

able-all : (ds : List Decl) (x : Context) (rs : List Rule) → Each (Rowed ds) rs → Each (Fits x) rs
    → (x.sure ≡ true → Each (Any (SoundRule x.listed (aims_in x)) x.program x.names x.known) rs) → Each (Able ds 65535 x) rs
unfolding Each
able-all ds x [] a b c = tt
able-all ds x (r ∷ rs) a b c = (record { row = a.0; fits = λ h before o e. b.0 before o e; sound = λ h before o e. (c h).0 before o e }, able-all ds x rs a.1 b.1 (λ h. (c h).1))

pub able-unsure : (text : List ℕ) (at : ℕ) {left : List Word} (ds : List Decl) (x : Context) (rs : List Rule) → length text ≤ at + 32768 → RulesIn (words_at text at) left rs → x.sure ≡ false
    → Each (Rowed ds) rs → Each (Able ds 65535 x) rs
able-unsure text at ds x rs l i s a = able-all ds x rs a (fits_all x (omega (arith, words-at-few text at, l)) i) (λ h. never (sym s ∙ h))

pub able-sure : (text : List ℕ) (at : ℕ) {left : List Word} (ds : List Decl) (x : Context) (rs : List Rule) (os : List OpenRule) → length text ≤ at + 32768 → RulesIn (words_at text at) left rs
    → Each (Rowed ds) rs → open_all x.program x.names x.known [] rs ≡ good os → Each (SoundRule x.listed (aims_in x)) os → Each (Able ds 65535 x) rs
able-sure text at ds x rs os l i a e h =
    able-all ds x rs a (fits_all x (omega (arith, words-at-few text at, l)) i) (λ _. each-rule (SoundRule x.listed (aims_in x)) x.program x.names x.known [] rs os e h)
