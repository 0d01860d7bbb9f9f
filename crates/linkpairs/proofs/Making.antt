-- The rules made for the pairs, one pair after the other.
use mathlib.Core.Bool.{true}
use mathlib.Core.List.{List, [], ◌∷◌, ◌++◌}
use mathlib.Core.Logic.{◌⊎◌, inl, inr}
use mathlib.Core.Option.{Option, none, some}
use mathlib.Core.Path.{◌≡◌, refl, sym, ap, ◌∙◌}
use native.Mathlib.Omega.{arith}
use Prim.Native.Nat.{ℕ, suc, ◌+◌, ◌*◌, ◌-◌, ◌<◌, ◌≤◌}
use lib.ListN.{length, get_or, set, length-set}
use lib.Seq.{get_or-set_same, get_or-set_other}
use Rattle.acceptance.proofs.Shape.{Each}
use Rattle.base.proofs.Laws.{lt-or-le}
use Rattle.declarations.specs.Decls.{operators_from}
use Rattle.grammar.specs.Derived.{OperatorsIn}
use Rattle.levels.proofs.Making.{made_none, made-split, few_rules, made_as, rules-as}
use Rattle.levels.specs.Making.{MadeEnd, SiteDone}
use Rattle.levels.specs.declared.Made.{Made}
use Rattle.levels.specs.declared.Site.{Site}
use Rattle.linker.proofs.Placing as placing
use Rattle.linker.specs.Place.{letters, text_at, texts_at, place_of, rule_texts}
use Rattle.linkpairs.specs.Places.{SiteFound, SitesFound, Placed, SiteIs, RulesMade}
use Rattle.linkpairs.specs.Standing.{Sections, KnownUse, EntriesOf, OperandName, Stand}
use Rattle.names.specs.Known.{good, Names, KnownRule}
use Rattle.names.specs.Uses.{Use, levels_used, operand_of, made_for}
use Rattle.objects.specs.Places.{NameAt}
use Rattle.objects.specs.View.{Name, name_of}
use Rattle.parts.specs.Link.{is_named, known_of}
use Rattle.parts.specs.Objects.{OpenRule}
use Rattle.program.specs.Made.{levels_of}
use Rattle.program.specs.Program.{Rule}
use Rattle.symbols.specs.Rows.{held}
use Rattle.syntax.specs.Written.{Operator, Program}
use Rattle.words.specs.Words.{Word, words_at}

-- The bytes of a name

letters-of : (words t : List ℕ) (q : ℕ) → ((k : ℕ) → k < length t → get_or words (q + k) 0 ≡ get_or t k 0) → letters words q (length t) ≡ t
unfolding letters
letters-of words [] q h = refl
letters-of words (x ∷ t) q h =
    let z : q + 0 ≡ q = omega arith in
    let first : get_or words q 0 ≡ x = ap (λ (i : ℕ). get_or words i 0) (sym z) ∙ h 0 (omega arith) in
    rw (first, letters-of words t (suc q) (λ k l. let e : suc q + k ≡ q + suc k = omega arith in ap (λ (i : ℕ). get_or words i 0) e ∙ h (suc k) (omega (arith, l))))

pub text_of : (words : List ℕ) (p : ℕ) (n : Name) → NameAt words p n → text_at words p ≡ n.text
unfolding text_at
text_of words p n x = ap (letters words (p + 2)) x.size ∙ letters-of words n.text (p + 2) x.bytes

-- The operand rule of a use

operand-is : (u : Use) (all : List OpenRule) → is_named u.operand.text all ≡ true → operand_of (known_of 0 all) u ≡ place_of u.operand.text (rule_texts all)
unfolding operand_of
operand-is u all h =
    let x = placing.finds 0 u.operand.text all h in
    ap (λ (o : Option KnownRule). elim o as (λ _. ℕ) [ some r ↦ r.place | none ↦ 0 ]) x.found ∙ (x.place ∙ omega arith)

-- the numbers found are the pairs'
pub placed : (text rows : List ℕ) (n : ℕ) (words heads sites : List ℕ) (count : ℕ) (places : List ℕ) → SitesFound text rows n words heads sites count places
    → (p : Program) (names : Names) → Sections text rows n p names → (all : List OpenRule) → texts_at words heads ≡ rule_texts all
    → (j : ℕ) (us : List Use) → count ≡ j + length us → Stand words sites j us → Each (KnownUse names) us → Each (λ u. is_named u.operand.text all ≡ true) us
    → Placed text rows n places names (known_of 0 all) j us
unfolding Placed Stand Each
placed text rows n words heads sites count places f p names sec all e j [] m s k h = tt
placed text rows n words heads sites count places f p names sec all e j (u ∷ us) m s k h =
    let x = f j (omega (arith, m)) in (
      x.entries.are p names sec u s.0 k.0,
      x.operand u s.0 ∙ ap (place_of u.operand.text) e ∙ sym (operand-is u all h.0),
      placed text rows n words heads sites count places f p names sec all e (suc j) us (omega (arith, m)) s.1 k.1 h.1,
    )

-- Pair after pair

pub rules-done : {text rows : List ℕ} {n : ℕ} {places : List ℕ} {j k own : ℕ} {cs : List ℕ} {c : ℕ} {starts sorts : List ℕ} → k ≡ 0 → c ≤ length cs + 1
    → RulesMade text rows n places j k own cs c starts sorts cs starts sorts (record { count = c; rules = own })
unfolding made_for
rules-done {own = own} {cs} {c} {starts} {sorts} z h = record { made = λ names known us e p others ms m. go names known us (sym e ∙ z) others ms m }
  where
    go : (names : Names) (known : List KnownRule) (us : List Use) → length us ≡ 0 → (others : ℕ) (ms : List Rule) → made_for names known others own us ≡ good ms
        → MadeEnd own cs c cs starts sorts starts sorts (record { count = c; rules = own }) ms
    go names known [] e others ms m = let y : [] ≡ ms = cc in rw (sym y) (made_none own cs c starts sorts h)
    go names known (u ∷ us) e others ms m = absurd (omega (arith, e))

entries_at : (text : List ℕ) {p q : ℕ} {ws : List Word} {os : List Operator} → p ≡ q → OperatorsIn (words_at text q) ws os → OperatorsIn (words_at text p) ws os
entries_at text e x = rw e x

pub rules-step : {text rows : List ℕ} {n : ℕ} {places : List ℕ} {j k k₁ : ℕ} {made : Made} {cs starts sorts cs₁ starts₁ sorts₁ cs' starts' sorts' : List ℕ} {q : Site} {r₁ r : Made} → k ≡ suc k₁ → SiteIs text places j made q
    → SiteDone text rows n q cs q.count starts sorts cs₁ starts₁ sorts₁ r₁ → RulesMade text rows n places (j + 1) k₁ r₁.rules cs₁ r₁.count starts₁ sorts₁ cs' starts' sorts' r
    → RulesMade text rows n places j k made.rules cs made.count starts sorts cs' starts' sorts' r
unfolding Placed
rules-step {text} {rows} {n} {places} {j} {k} {k₁} {made} {cs} {starts} {sorts} {cs₁} {starts₁} {sorts₁} {cs'} {starts'} {sorts'} {q} {r₁} {r} z site done f =
    record { made = λ names known us e p others ms m. go names known us (sym z ∙ e) p others ms m }
  where
    ends : (ms : List Rule) → MadeEnd q.own cs q.count cs' starts sorts starts' sorts' r ms → MadeEnd made.rules cs made.count cs' starts sorts starts' sorts' r ms
    ends ms x = rw (← site.own, ← site.count) x

    go : (names : Names) (known : List KnownRule) (us : List Use) → suc k₁ ≡ length us → Placed text rows n places names known j us
        → (others : ℕ) (ms : List Rule) → made_for names known others made.rules us ≡ good ms → MadeEnd made.rules cs made.count cs' starts sorts starts' sorts' r ms
    go names known [] e p others ms m = absurd (omega (arith, e))
    go names known (u ∷ us) e p others ms m =
        let ds = held text rows n in
        let x = made-split names known others made.rules u us ms m in
        let en = p.0 in
        let ops = operators_from ds en.operators in
        let lu : levels_used names u ≡ levels_of ops = en.levels in
        let op : operand_of known u ≡ q.operand = sym (site.operand ∙ p.1) in
        let y : OperatorsIn (words_at text q.at) en.behind en.operators = entries_at text (site.at en.inside) en.entries in
        let so = site.own in
        let few : q.own + length (levels_of ops) ≤ 128 = omega (arith, few_rules others made.rules (levels_used names u) x.fits, so, ap length lu) in
        let rr : r₁.rules ≡ made.rules + length (levels_used names u) = omega (arith, done.rules en.operators en.behind y few, so, ap length lu) in
        let next : suc j ≡ j + 1 = omega arith in
        let more : Placed text rows n places names known (j + 1) us = rw next at p.2 in
        let later = f.made names known us (omega (arith, e)) more others x.later (rw rr x.behind) in
        ends ms (made_as refl (ap (λ (v : List Rule). v ++ x.later) (rules-as so (sym op) (sym lu)) ∙ sym x.is) (done.made en.operators en.behind y few cs' starts' sorts' r x.later later))

pub rules-first : {text rows : List ℕ} {n : ℕ} {places : List ℕ} {k own : ℕ} {cs : List ℕ} {c : ℕ} {starts sorts cs' starts' sorts' : List ℕ} {r : Made} → RulesMade text rows n places 0 (k - 0) own cs c starts sorts cs' starts' sorts' r
    → RulesMade text rows n places 0 k own cs c starts sorts cs' starts' sorts' r
rules-first {k = k} f = let e : k - 0 ≡ k = omega arith in rw (← e) f

-- The numbers of one pair more

pub site-found : {text rows : List ℕ} {n : ℕ} {words heads : List ℕ} {p at rule o : ℕ} → EntriesOf text rows n words p at → OperandName words p o → rule ≡ place_of (text_at words o) (texts_at words heads)
    → SiteFound text rows n words heads p at rule
unfolding name_of
site-found {words = words} {heads} {o = o} x y e = record { entries = x; operand = λ u z. e ∙ ap (λ (t : List ℕ). place_of t (texts_at words heads)) (text_of words o (name_of u.operand) (y.name u z)) }

found_as : {text rows : List ℕ} {n : ℕ} {words heads : List ℕ} {p p₁ at at₁ rule rule₁ : ℕ} → p ≡ p₁ → at ≡ at₁ → rule ≡ rule₁ → SiteFound text rows n words heads p at rule → SiteFound text rows n words heads p₁ at₁ rule₁
found_as a b c x = rw (← a, ← b, ← c) x

pub sites-more : (text rows : List ℕ) (n : ℕ) (words heads sites : List ℕ) (j : ℕ) (places : List ℕ) (at rule : ℕ) → 2 * j + 1 < length places → SitesFound text rows n words heads sites j places
    → SiteFound text rows n words heads (get_or sites j 0) at rule → SitesFound text rows n words heads sites (j + 1) (set (set places (2 * j) at) (2 * j + 1) rule)
sites-more text rows n words heads sites j places at rule l f x i h = go (lt-or-le i j)
  where
    go : (i < j) ⊎ (j ≤ i) → SiteFound text rows n words heads (get_or sites i 0) (get_or (set (set places (2 * j) at) (2 * j + 1) rule) (2 * i) 0) (get_or (set (set places (2 * j) at) (2 * j + 1) rule) (2 * i + 1) 0)
    go (inl a) =
        let first : get_or (set (set places (2 * j) at) (2 * j + 1) rule) (2 * i) 0 ≡ get_or places (2 * i) 0 =
        get_or-set_other (set places (2 * j) at) (2 * j + 1) (2 * i) rule 0 (λ d. omega (arith, d, a)) ∙ get_or-set_other places (2 * j) (2 * i) at 0 (λ d. omega (arith, d, a)) in
        let second : get_or (set (set places (2 * j) at) (2 * j + 1) rule) (2 * i + 1) 0 ≡ get_or places (2 * i + 1) 0 =
        get_or-set_other (set places (2 * j) at) (2 * j + 1) (2 * i + 1) rule 0 (λ d. omega (arith, d, a)) ∙ get_or-set_other places (2 * j) (2 * i + 1) at 0 (λ d. omega (arith, d, a)) in
        found_as refl (sym first) (sym second) (f i a)
    go (inr a) =
        let e : j ≡ i = omega (arith, a, h) in
        let m = length-set places (2 * j) at in
        let first : get_or (set (set places (2 * j) at) (2 * j + 1) rule) (2 * i) 0 ≡ at =
        ap (λ (k : ℕ). get_or (set (set places (2 * j) at) (2 * j + 1) rule) (2 * k) 0) (sym e) ∙ get_or-set_other (set places (2 * j) at) (2 * j + 1) (2 * j) rule 0 (λ d. omega (arith, d)) ∙ get_or-set_same places (2 * j) at 0 (omega (arith, l)) in
        let second : get_or (set (set places (2 * j) at) (2 * j + 1) rule) (2 * i + 1) 0 ≡ rule =
        ap (λ (k : ℕ). get_or (set (set places (2 * j) at) (2 * j + 1) rule) (2 * k + 1) 0) (sym e) ∙ get_or-set_same (set places (2 * j) at) (2 * j + 1) rule 0 (omega (arith, l, m)) in
        found_as (ap (λ (k : ℕ). get_or sites k 0) e) (sym first) (sym second) x
