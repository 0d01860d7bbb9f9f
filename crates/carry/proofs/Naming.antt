-- No name of a rule made for operators stands twice: each pair is made once, and its levels rise.
use mathlib.Core.Bool.{Bool, true, false, ◌&&◌, ◌||◌}
use mathlib.Core.List.{List, [], ◌∷◌, ◌++◌}
use mathlib.Core.Option.{Option, none, some}
use mathlib.Core.Path.{◌≡◌, refl, sym, ap, ◌∙◌}
use Prim.Native.Nat.{ℕ, zero, suc, ◌<◌, ◌≤◌}
use native.Mathlib.Omega.{arith}
use lib.Dec.{eqb}
use borrow.Author.Tests.{eqb-true}
use Rattle.acceptance.proofs.CheckLaws.{Yields, yields, next, passed}
use Rattle.acceptance.proofs.NamesOk.{each_append, picked}
use Rattle.acceptance.proofs.Shape.{Each}
use Rattle.base.proofs.Laws.{neither, is_false, same_refl, same-eq}
use Rattle.base.specs.Bools.{never, and, split}
use Rattle.std.specs.Prelude.{if◌then◌else◌}
use Rattle.base.specs.Common.{same, given}
use Rattle.carry.proofs.Lists.{none-some, name-eq, Apart, apart-nil, apart_cons, Distinct, distinct_nil, distinct_cons}
use Rattle.carry.specs.Carry.{Name, written, made, same_name, level_of, level_names, made_names}
use Rattle.names.specs.Declare.{declare_all, declare_both, declare_operations, with_operations, operators_of, declare_section, declare_sections}
use Rattle.names.specs.Known.{KnownOperators, Names, find, find_type, find_operation, find_operators, optional_type}
use Rattle.names.specs.Uses.{Use, same_pair, is_used, firsts, levels_used}
use Rattle.program.specs.Made.{Operator, Level, at_level, level_and, levels_from, levels_of}
use Rattle.syntax.specs.Written.{Operation, Section, inputs, outputs, both, errors, values, operations, operators, Program}

-- Levels rise

-- the levels' numbers are above b, each above the one before
unfoldable pub Rising : ℕ → List Level → Type 0
Rising b [] = Unit {0}
Rising b (l ∷ ls) = (b < level_of l.operators) × Rising (level_of l.operators) ls

rising-less : (a b : ℕ) (ls : List Level) → a ≤ b → Rising b ls → Rising a ls
unfolding Rising
rising-less a b [] h r = tt
rising-less a b (l ∷ ls) h r = (omega (arith, r.0), r.1)

-- the operators of a level have its number
pub level-of : (l : ℕ) (os : List Operator) (o : Operator) (more : List Operator) → at_level l os ≡ o ∷ more → o.level ≡ l
unfolding at_level
level-of l [] o more e = let z : ◌≡◌ {A = ℕ} 0 1 = cc in absurd (omega arith)
level-of l (x ∷ os) o more e = go (eqb x.level l) refl e (level-of l os o more)
  where
    go : (t : Bool) → eqb x.level l ≡ t → (if t then x ∷ at_level l os else at_level l os) ≡ o ∷ more → (at_level l os ≡ o ∷ more → o.level ≡ l) → o.level ≡ l
    go true d e₁ ih = let z : x ≡ o = cc in ap (λ (y : Operator). y.level) (sym z) ∙ eqb-true x.level l d
    go false d e₁ ih = ih e₁

rising-from : (n l b : ℕ) (os : List Operator) → b < l → Rising b (levels_from n l os)
unfolding levels_from Rising level_and level_of
rising-from zero l b os h = tt
rising-from (suc n) l b os h = go (rising-from n (suc l) b os (omega arith)) (rising-from n (suc l) l os (omega arith)) (at_level l os) refl
  where
    go : Rising b (levels_from n (suc l) os) → Rising l (levels_from n (suc l) os) → (xs : List Operator) → at_level l os ≡ xs → Rising b (level_and xs (levels_from n (suc l) os))
    go f g [] e = f
    go f g (o ∷ more) e = let z = level-of l os o more e in (omega (arith, z), rising-less o.level l (levels_from n (suc l) os) (omega (arith, z)) g)

-- so of every section that is declared
abbrev RisingOk : KnownOperators → Type 0
RisingOk k = Rising 0 k.levels

abbrev pub AllRising : Names → Type 0
AllRising n = Each RisingOk n.operators

operations-rising : (p : Program) (os : List Operation) (n : Names) → AllRising n → Yields AllRising (declare_operations p os n)
unfolding declare_operations
operations-rising p [] n k = yields AllRising n k
operations-rising p (o ∷ os) n k =
    passed AllRising (given (find_operation o.operation.text n.operations) || given (find o.operation.text n.inputs)) 4 o.operation _ (λ _.
    next AllRising (λ _. Unit {0}) (optional_type p n.types o.takes) _ (λ _ _. tt) (λ t _.
    next AllRising (λ _. Unit {0}) (optional_type p n.types o.gives) _ (λ _ _. tt) (λ g _.
    operations-rising p os (with_operations n (n.operations ++ (record { named = o.operation.text; instruction = o.instruction; takes = t; gives = g } ∷ []))) k)))

section-rising : (p : Program) (s : Section) (n : Names) → AllRising n → Yields AllRising (declare_section p s n)
unfolding declare_section Each levels_of
section-rising p (inputs es) n k = next AllRising (λ _. Unit {0}) (declare_all es n.inputs n.operations) _ (λ _ _. tt) (λ ks _. yields AllRising _ k)
section-rising p (outputs es) n k = next AllRising (λ _. Unit {0}) (declare_all es n.outputs []) _ (λ _ _. tt) (λ ks _. yields AllRising _ k)
section-rising p (both es) n k = next AllRising (λ _. Unit {0}) (declare_both es n.inputs n.outputs n.operations) _ (λ _ _. tt) (λ ks _. yields AllRising _ k)
section-rising p (errors es) n k = next AllRising (λ _. Unit {0}) (declare_all es n.errors []) _ (λ _ _. tt) (λ ks _. yields AllRising _ k)
section-rising p (values w es) n k =
    passed AllRising (given (find_type w.text n.types)) 4 w _ (λ _.
    next AllRising (λ _. Unit {0}) (declare_all es [] []) _ (λ _ _. tt) (λ ks _. yields AllRising _ k))
section-rising p (operations os) n k = operations-rising p os n k
section-rising p (operators w es) n k =
    passed AllRising (given (find_operators w.text n.operators)) 4 w _ (λ _.
    next AllRising (λ _. Unit {0}) (operators_of p es []) _ (λ _ _. tt) (λ os _.
    yields AllRising _ (each_append RisingOk n.operators _ k (rising-from 15 1 0 os (omega arith), tt))))

pub sections-rising : (p : Program) (ss : List Section) (n : Names) → AllRising n → Yields AllRising (declare_sections p ss n)
unfolding declare_sections
sections-rising p [] n k = yields AllRising n k
sections-rising p (s ∷ ss) n k = next AllRising AllRising (declare_section p s n) _ (section-rising p s n k) (λ m hm. sections-rising p ss m hm)

found-rising : (w : List ℕ) (ks : List KnownOperators) (ls : List Level) → Each RisingOk ks → find_operators w ks ≡ some ls → Rising 0 ls
unfolding Each find_operators
found-rising w [] ls h e = none-some e
found-rising w (k ∷ ks) ls h e = picked (Rising 0) (same w k.named) k.levels ls (find_operators w ks) h.0 (found-rising w ks ls h.1) e

used-rising : (n : Names) (u : Use) → AllRising n → Rising 0 (levels_used n u)
unfolding levels_used Rising
used-rising n u h = go (find_operators u.section.text n.operators) refl
  where
    go : (o : Option (List Level)) → find_operators u.section.text n.operators ≡ o → Rising 0 (elim o as (λ _. List Level) [ some ls ↦ ls | none ↦ [] ])
    go none e = tt
    go (some ls) e = found-rising u.section.text n.operators ls h e

-- Pairs are made once

record Alike (u v : Use) : Type 0 where
  section : u.section.text ≡ v.section.text
  operand : u.operand.text ≡ v.operand.text

alike : (u v : Use) → same_pair u v ≡ true → Alike u v
unfolding same_pair
alike u v e =
    let a = and (same u.section.text v.section.text) (same u.operand.text v.operand.text) e in
    record { section = same-eq u.section.text v.section.text a.0; operand = same-eq u.operand.text v.operand.text a.1 }

pair-self : (u : Use) → same_pair u u ≡ true
unfolding same_pair
pair-self u = rw (same_refl u.section.text, same_refl u.operand.text)

used-alike : (u v : Use) (us : List Use) → Alike u v → is_used u us ≡ is_used v us
unfolding is_used same_pair
used-alike u v [] h = refl
used-alike u v (x ∷ us) h =
    let a = h.section in
    let b = h.operand in
    let c = used-alike u v us h in
    λ i. (same (a i) x.section.text && same (b i) x.operand.text) || c i

seen-again : (u : Use) (seen us : List Use) → is_used u seen ≡ true → is_used u (firsts seen us) ≡ false
unfolding firsts is_used
seen-again u seen [] h = refl
seen-again u seen (v ∷ us) h = go (is_used v seen) refl (seen-again u seen us h) (λ k. seen-again u (v ∷ seen) us k)
  where
    go : (t : Bool) → is_used v seen ≡ t → is_used u (firsts seen us) ≡ false → (is_used u (v ∷ seen) ≡ true → is_used u (firsts (v ∷ seen) us) ≡ false)
        → is_used u (if t then firsts seen us else v ∷ firsts (v ∷ seen) us) ≡ false
    go true d a b = a
    go false d a b =
        split (same_pair u v)
        (λ s. never (sym d ∙ sym (used-alike u v seen (alike u v s)) ∙ h))
        (λ s. rw s (b (rw s h)))

-- no pair stands twice
unfoldable pub Once : List Use → Type 0
Once [] = Unit {0}
Once (u ∷ us) = (is_used u us ≡ false) × Once us

pub firsts-once : (seen us : List Use) → Once (firsts seen us)
unfolding firsts Once is_used
firsts-once seen [] = tt
firsts-once seen (u ∷ us) = go (is_used u seen) (firsts-once seen us) (firsts-once (u ∷ seen) us)
  where
    go : (t : Bool) → Once (firsts seen us) → Once (firsts (u ∷ seen) us) → Once (if t then firsts seen us else u ∷ firsts (u ∷ seen) us)
    go true a b = a
    go false a b = (seen-again u (u ∷ seen) us (rw (pair-self u)), b)

-- Their names

apart-append : {w : Name} (vs us : List Name) → Apart w vs → Apart w us → Apart w (vs ++ us)
apart-append [] us h k = k
apart-append (v ∷ vs) us (apart_cons e h) k = apart_cons e (apart-append vs us h k)

pub distinct_append : (vs us : List Name) → Distinct vs → Distinct us → Each (λ v. Apart v us) vs → Distinct (vs ++ us)
unfolding Each
distinct_append [] us d e h = e
distinct_append (v ∷ vs) us (distinct_cons a d) e h = distinct_cons (apart-append vs us a h.0) (distinct_append vs us d e h.1)

made_pair : {s r t q : List ℕ} {l m : ℕ} → made s r l ≡ made t q m → (s ≡ t) × (r ≡ q) × (l ≡ m)
made_pair e = (cc, cc, cc)

-- a lower level's name is none of the levels above it
above_apart : (u : Use) (b : ℕ) (ls : List Level) → Rising b ls → Apart (made u.section.text u.operand.text b) (level_names u ls)
unfolding Rising level_names
above_apart u b [] h = apart-nil
above_apart u b (l ∷ ls) h =
    apart_cons (is_false _ (λ e. let x = made_pair (name-eq (made u.section.text u.operand.text (level_of l.operators)) (made u.section.text u.operand.text b) e) in omega (arith, h.0, x.2)))
    (above_apart u b ls (rising-less b (level_of l.operators) ls (omega (arith, h.0)) h.1))

levels-distinct : (u : Use) (b : ℕ) (ls : List Level) → Rising b ls → Distinct (level_names u ls)
unfolding Rising level_names
levels-distinct u b [] h = distinct_nil
levels-distinct u b (l ∷ ls) h = distinct_cons (above_apart u (level_of l.operators) ls h.1) (levels-distinct u (level_of l.operators) ls h.1)

other-pair : (u v : Use) (a : ℕ) (ls : List Level) → same_pair u v ≡ false → Apart (made u.section.text u.operand.text a) (level_names v ls)
unfolding level_names same_pair
other-pair u v a [] h = apart-nil
other-pair u v a (l ∷ ls) h =
    apart_cons (is_false _ (λ e.
    let x = made_pair (name-eq (made v.section.text v.operand.text (level_of l.operators)) (made u.section.text u.operand.text a) e) in
    never (sym h ∙ rw (x.0, x.1, same_refl u.section.text, same_refl u.operand.text))))
    (other-pair u v a ls h)

unused-apart : (n : Names) (u : Use) (a : ℕ) (us : List Use) → is_used u us ≡ false → Apart (made u.section.text u.operand.text a) (made_names n us)
unfolding is_used made_names
unused-apart n u a [] h = apart-nil
unused-apart n u a (v ∷ us) h =
    let x = neither (same_pair u v) (is_used u us) h in
    apart-append (level_names v (levels_used n v)) (made_names n us) (other-pair u v a (levels_used n v) x.0) (unused-apart n u a us x.1)

pub made-distinct : (n : Names) (us : List Use) → AllRising n → Once us → Distinct (made_names n us)
unfolding made_names Once level_names Each
made-distinct n [] h o = distinct_nil
made-distinct n (u ∷ us) h o =
    distinct_append (level_names u (levels_used n u)) (made_names n us) (levels-distinct u 0 (levels_used n u) (used-rising n u h)) (made-distinct n us h o.1) (go (levels_used n u))
  where
    go : (ls : List Level) → Each (λ v. Apart v (made_names n us)) (level_names u ls)
    go [] = tt
    go (l ∷ ls) = (unused-apart n u (level_of l.operators) us o.0, go ls)

-- a written name is none of them
written_apart : (w : List ℕ) (u : Use) (ls : List Level) → Apart (written w) (level_names u ls)
unfolding level_names same_name
written_apart w u [] = apart-nil
written_apart w u (l ∷ ls) = apart_cons refl (written_apart w u ls)

pub written-made : (w : List ℕ) (n : Names) (us : List Use) → Apart (written w) (made_names n us)
unfolding made_names
written-made w n [] = apart-nil
written-made w n (u ∷ us) = apart-append (level_names u (levels_used n u)) (made_names n us) (written_apart w u (levels_used n u)) (written-made w n us)
