-- The checks of a section of operators, entry by entry, are the definition's.
use mathlib.Core.Bool.{Bool, true, false, ◌&&◌, ◌||◌, not, or-false, or_assoc}
use mathlib.Core.List.{List, [], ◌∷◌, ◌++◌}
use mathlib.Core.Logic.{◌⊎◌, inl, inr}
use mathlib.Core.Option.{Option, none, some}
use mathlib.Core.Path.{◌≡◌, refl, ap, sym, ◌∙◌}
use Prim.Native.Nat.{ℕ, suc, ◌+◌, ◌-◌, ◌≤◌, ◌<◌}
use native.Mathlib.Omega.{arith}
use lib.Dec.{eqb}
use lib.ListN.{length, take, length-append}
use lib.Seq.{append_snoc, take-append_seam}
use borrow.Author.Tests.{eqb-true, ne_eqb, eq-eqb}
use Rattle.base.specs.Bools.{never}
use Rattle.std.specs.Prelude.{is_some, if◌then◌else◌}
use Rattle.base.specs.Common.{given, same}
use Rattle.declarations.proofs.Declaring.{Means, entry-means}
use Rattle.declarations.specs.Decls.{Decl, feeds, knowns_in, declared_in, elsewhere_in, index_of, lookup_in, operator_in, operators_in, operators_fault}
use Rattle.declarer.proofs.FaultLaws.{goes, stops, ends, is-clean, again, once}
use Rattle.declarer.specs.Faults.{Faults, clean, faulty}
use Rattle.declarer.specs.Operators.{number_in, same_value, against_one, against, entry_fault, entries_fault, Left, Passed, MarkedAs, Apart, MarksKept, AllMarked}
use Rattle.declarer.proofs.MarkLaws.{apart-against, marked-kept, marked_more}
use Rattle.grammar.specs.Derived.{Not, OperatorsIn, last_operator, more_operators}
use Rattle.maker.specs.Ranks.{EntryIs, AnEntry}
use Rattle.maker.specs.declared.Entry.{Entry}
use Rattle.names.specs.Declare.{differ, other_side, listed}
use Rattle.names.specs.Known.{Checked, good, wrong, ◌>>=◌, fault_if, find, is_word}
use Rattle.places.proofs.Heres.{kind-here}
use Rattle.program.specs.Made as made
use Rattle.scanner.specs.Next.{Next, as_word}
use Rattle.scanner.specs.declared.WordAt.{WordAt}
use Rattle.symbols.proofs.Searches.{by_value, by_word}
use Rattle.std.specs.Option.{option_eq}
use Rattle.std.specs.Prelude.{Option as Answer, Result, Ok, Err}
use Rattle.base.specs.declared.Fault.{Fault}
use Rattle.symbols.specs.Rows as rows
use Rattle.symbols.specs.Rows.{answer_of, Looks}
use Rattle.symbols.proofs.Numbered.{Numbered, found, missing, fault-some}
use Rattle.symbols.specs.Search.{part, knows, declares}
use Rattle.syntax.specs.Reading.{peek}
use Rattle.syntax.specs.Written.{Operator}
use Rattle.words.specs.Words.{Word, words_at}

-- The entries before, as written and as numbers

-- 45 of an entry against those before it
abbrev clash : Option ℕ → Operator → List made.Operator → Bool
clash v e os = other_side e os || listed v os

-- four tests, in another order
shuffle : (a b c d : Bool) → ((a || b) || (c || d)) ≡ ((a || c) || (b || d))
shuffle true b c d = refl
shuffle false true true d = refl
shuffle false true false d = refl
shuffle false false true d = refl
shuffle false false false d = refl

other-append : (e : Operator) (a b : List made.Operator) → other_side e (a ++ b) ≡ (other_side e a || other_side e b)
unfolding other_side
other-append e [] b = refl
other-append e (o ∷ a) b = rw (other-append e a b) (sym (or_assoc (eqb e.level o.level && differ e.right o.right) (other_side e a) (other_side e b)))

listed-append : (v : Option ℕ) (a b : List made.Operator) → listed v (a ++ b) ≡ (listed v a || listed v b)
unfolding listed
listed-append none a b = refl
listed-append (some v) [] b = refl
listed-append (some v) (o ∷ a) b = rw (listed-append (some v) a b) (sym (or_assoc (eqb v o.token) (listed (some v) a) (listed (some v) b)))

clash-more : (v : Option ℕ) (e : Operator) (before : List made.Operator) (o : made.Operator) → clash v e (before ++ (o ∷ [])) ≡ (clash v e before || clash v e (o ∷ []))
clash-more v e before o = rw (other-append e before (o ∷ []), listed-append v before (o ∷ [])) (shuffle (other_side e before) (other_side e (o ∷ [])) (listed v before) (listed v (o ∷ [])))

one-clash : (ds : List Decl) (v : Option ℕ) (e b : Operator) (o : made.Operator) → Means ds b o → clash v e (o ∷ []) ≡ against_one ds v e b
unfolding other_side listed against_one same_value
one-clash ds none e b o m = let t = eqb e.level o.level && differ e.right o.right in rw (m.level, m.right, or-false t) (or-false t)
one-clash ds (some v) e b o m = rw (m.token, m.level, m.right, or-false (eqb e.level o.level && differ e.right o.right), or-false (eqb v o.token))

-- what the entries `bs` add to those before
all-clash : (ds : List Decl) (v : Option ℕ) (e : Operator) (bs : List Operator) (before os : List made.Operator) → operators_in ds bs before ≡ good os
    → clash v e os ≡ (clash v e before || against ds v e bs)
unfolding operators_in against
all-clash ds v e [] before os h = let q : before ≡ os = cc in rw (q, or-false) refl
all-clash ds v e (b ∷ bs) before os h = go (operator_in ds b before) (entry-means ds b before) (λ o. all-clash ds v e bs (before ++ (o ∷ [])) os) h
  where
    go : (x : Checked made.Operator) → ((o : made.Operator) → x ≡ good o → Means ds b o)
        → ((o : made.Operator) → operators_in ds bs (before ++ (o ∷ [])) ≡ good os → clash v e os ≡ (clash v e (before ++ (o ∷ [])) || against ds v e bs))
        → ◌>>=◌ x (λ o. operators_in ds bs (before ++ (o ∷ []))) ≡ good os → clash v e os ≡ (clash v e before || (against_one ds v e b || against ds v e bs))
    go (good o) m k q =
        k o q
        ∙ ap (λ (t : Bool). t || against ds v e bs) (clash-more v e before o ∙ ap (λ (t : Bool). clash v e before || t) (one-clash ds v e b o (m o refl)))
        ∙ or_assoc (clash v e before) (against_one ds v e b) (against ds v e bs)
    go (wrong n w) m k q = let z : ◌≡◌ {A = ℕ} 0 1 = cc in absurd (omega arith)

nobody : (v : Option ℕ) (e : Operator) → clash v e [] ≡ false
unfolding other_side listed
nobody none e = refl
nobody (some v) e = refl

operators-append : (ds : List Decl) (a b : List Operator) (before : List made.Operator) → operators_in ds (a ++ b) before ≡ ◌>>=◌ (operators_in ds a before) (operators_in ds b)
unfolding operators_in
operators-append ds [] b before = refl
operators-append ds (e ∷ a) b before = go (operator_in ds e before) (λ o. operators-append ds a b (before ++ (o ∷ [])))
  where
    go : (x : Checked made.Operator) → ((o : made.Operator) → operators_in ds (a ++ b) (before ++ (o ∷ [])) ≡ ◌>>=◌ (operators_in ds a (before ++ (o ∷ []))) (operators_in ds b))
        → ◌>>=◌ x (λ o. operators_in ds (a ++ b) (before ++ (o ∷ []))) ≡ ◌>>=◌ (◌>>=◌ x (λ o. operators_in ds a (before ++ (o ∷ [])))) (operators_in ds b)
    go (good o) h = h o
    go (wrong n w) h = refl

abbrev dropped : {A : Type 0} → Checked A → Checked (Unit {0})
dropped m = ◌>>=◌ m (λ _. good tt)

entry-link : (ds : List Decl) (bs : List Operator) (os : List made.Operator) (e : Operator) → operators_in ds bs [] ≡ good os → dropped (operator_in ds e os) ≡ entry_fault ds bs e
unfolding operator_in entry_fault
entry-link ds bs os e h =
    rw (all-clash ds (find e.token.text (knowns_in 1 ds)) e bs [] os h, nobody (find e.token.text (knowns_in 1 ds)) e)
    (go (fault_if (not (declared_in e.token.text ds)) 3 e.token) (fault_if (against ds (find e.token.text (knowns_in 1 ds)) e bs) 45 e.token) (lookup_in ds 1 e.token) (lookup_in ds 2 e.emits))
  where
    go : (a b : Checked (Unit {0})) (t u : Checked ℕ)
        → dropped {A = made.Operator} (◌>>=◌ a (λ _. ◌>>=◌ b (λ _. ◌>>=◌ t (λ v. ◌>>=◌ u (λ x. good (record { token = v; level = e.level; right = e.right; emits = x })))))) ≡ ◌>>=◌ a (λ _. ◌>>=◌ b (λ _. ◌>>=◌ t (λ _. ◌>>=◌ u (λ _. good tt))))
    go (wrong n w) b t u = refl
    go (good x) (wrong n w) t u = refl
    go (good x) (good y) (wrong n w) u = refl
    go (good x) (good y) (good v) (wrong n w) = refl
    go (good x) (good y) (good v) (good z) = refl

pub entries-link : (ds : List Decl) (es bs : List Operator) (os : List made.Operator) → operators_in ds bs [] ≡ good os → dropped (operators_in ds es os) ≡ entries_fault ds bs es
unfolding operators_in entries_fault
entries-link ds [] bs os h = refl
entries-link ds (e ∷ es) bs os h = rw (← entry-link ds bs os e h) (go (operator_in ds e os) refl (λ o. entries-link ds es (bs ++ (e ∷ [])) (os ++ (o ∷ []))))
  where
    one_more : (o : made.Operator) → operator_in ds e os ≡ good o → operators_in ds (bs ++ (e ∷ [])) [] ≡ good (os ++ (o ∷ []))
    one_more o q = operators-append ds bs (e ∷ []) [] ∙ rw (h, q)

    go : (x : Checked made.Operator) → operator_in ds e os ≡ x
        → ((o : made.Operator) → operators_in ds (bs ++ (e ∷ [])) [] ≡ good (os ++ (o ∷ [])) → dropped (operators_in ds es (os ++ (o ∷ []))) ≡ entries_fault ds (bs ++ (e ∷ [])) es)
        → dropped (◌>>=◌ x (λ o. operators_in ds es (os ++ (o ∷ [])))) ≡ ◌>>=◌ (dropped x) (λ _. entries_fault ds (bs ++ (e ∷ [])) es)
    go (good o) q k = k o (one_more o q)
    go (wrong n w) q k = refl

nothing_yet : (ds : List Decl) → operators_in ds [] [] ≡ good []
unfolding operators_in
nothing_yet ds = refl

-- Held against the entries before it

pub left-start : {ds : List Decl} {v : Option ℕ} {e : Operator} {text : List ℕ} {at count : ℕ} {ws' : List Word} {es : List Operator}
    → OperatorsIn (words_at text at) ws' es → count < length es → Left ds v e text at (count - 0) count ws' es
left-start {ds} {v} {e} {text} {at} {count} {ws'} {es} d h =
    let q : count - 0 ≡ count = omega arith in
    record { rest = es; stand = d; more = omega arith; same = rw q refl }

-- the next of them, at the place i
record Next-one (ds : List Decl) (v : Option ℕ) (e : Operator) (text : List ℕ) (i left count : ℕ) (ws' : List Word) (es : List Operator) (b : Entry) : Type 0 where
  one : Operator
  rest : List Operator
  tail : List Word
  is : EntryIs text i one tail b
  stand : OperatorsIn (words_at text b.emits.next) ws' rest
  more : left < length rest
  same : against ds v e (take count es) ≡ (against_one ds v e one || against ds v e (take left rest))

one-step : (ds : List Decl) (v : Option ℕ) (e o : Operator) (os : List Operator) (left : ℕ) → against ds v e (take (suc left) (o ∷ os)) ≡ (against_one ds v e o || against ds v e (take left os))
unfolding against
one-step ds v e o os left = refl

next_one : {ds : List Decl} {v : Option ℕ} {e : Operator} {text : List ℕ} {i left count : ℕ} {ws' : List Word} {es : List Operator} {b : Entry}
    → Left ds v e text i (suc left) count ws' es → AnEntry text i b → Next-one ds v e text i left count ws' es b
next_one {ds} {v} {e} {text} {i} {left} {count} {ws'} {es} {b} l a = go l.rest l.stand l.more l.same
  where
    go : (rest : List Operator) → OperatorsIn (words_at text i) ws' rest → suc left < length rest → against ds v e (take count es) ≡ against ds v e (take (suc left) rest)
        → Next-one ds v e text i left count ws' es b
    go _ (last_operator o t) m q = absurd (omega arith)
    go _ (more_operators {o = o} {os = os} d n s) m q =
        let is = a.entry o _ d in
        record { one = o; rest = os; tail = _; is = is; stand = rw is.rest at s; more = omega arith; same = q ∙ one-step ds v e o os left }

-- what the code finds of a token
value-token : (ds : List Decl) {text : List ℕ} {from : ℕ} {v : Answer ℕ} {o : Operator} {ws₁ : List Word} {e : Entry} → EntryIs text from o ws₁ e
    → v ≡ answer_of (find (part text e.token.start e.token.len) (knowns_in 1 ds)) → v ≡ answer_of (find o.token.text (knowns_in 1 ds))
value-token ds is h = rw is.token h

-- the code's test against the entry b
abbrev Tested : List Decl → List ℕ → Answer ℕ → Entry → Entry → Bool → Type 0
Tested ds text v e b r =
    (x : Option ℕ) → v ≡ answer_of x → r ≡ ((eqb e.level b.level && differ e.right b.right) || same_value x (find (part text b.token.start b.token.len) (knowns_in 1 ds)))

tested-one : (ds : List Decl) {text : List ℕ} {from i : ℕ} {v : Answer ℕ} {o b₀ : Operator} {ws₁ ws₂ : List Word} {e b : Entry} {r : Bool} → EntryIs text from o ws₁ e → EntryIs text i b₀ ws₂ b
    → v ≡ answer_of (find o.token.text (knowns_in 1 ds)) → Tested ds text v e b r → against_one ds (find o.token.text (knowns_in 1 ds)) o b₀ ≡ r
unfolding against_one
tested-one ds {o = o} is one t h = rw (one.level, one.right, one.token, is.level, is.right) (sym (h (find o.token.text (knowns_in 1 ds)) t))

-- the entry b clashes, or the next is looked at
module _ (ds : List Decl) {text : List ℕ} {count i k from : ℕ} {v : Answer ℕ} {ws' ws₁ : List Word} {es : List Operator} {o : Operator} {e b : Entry} {r : Bool} (is : EntryIs text from o ws₁ e)
    (l : Left ds (find o.token.text (knowns_in 1 ds)) o text i (count - k) count ws' es) (less : k < count) (a : AnEntry text i b)
    (t : v ≡ answer_of (find (part text e.token.start e.token.len) (knowns_in 1 ds))) (h : Tested ds text v e b r) where
  one_found : Next-one ds (find o.token.text (knowns_in 1 ds)) o text i (count - (k + 1)) count ws' es b
  one_found = next_one (rw one_less at l) a where
    one_less : count - k ≡ suc (count - (k + 1))
    one_less = omega arith

  one-is : against_one ds (find o.token.text (knowns_in 1 ds)) o one_found.one ≡ r
  one-is = tested-one ds is one_found.is (value-token ds is t) h

  abbrev others : Bool
  others = against ds (find o.token.text (knowns_in 1 ds)) o (take (count - (k + 1)) one_found.rest)

  pub left-stops : r ≡ true → true ≡ against ds (find o.token.text (knowns_in 1 ds)) o (take count es)
  left-stops q = sym (one_found.same ∙ ap (λ (z : Bool). z || others) (one-is ∙ q))

  pub left-goes : r ≡ false → Left ds (find o.token.text (knowns_in 1 ds)) o text b.emits.next (count - (k + 1)) count ws' es
  left-goes q = record { rest = one_found.rest; stand = one_found.stand; more = one_found.more; same = one_found.same ∙ ap (λ (z : Bool). z || others) (one-is ∙ q) }

pub left-ends : {ds : List Decl} {v : Option ℕ} {o : Operator} {text : List ℕ} {i k count : ℕ} {ws' : List Word} {es : List Operator} → Left ds v o text i (count - k) count ws' es → count ≤ k
    → false ≡ against ds v o (take count es)
unfolding against
left-ends {ds} {v} {o} {text} {i} {k} {count} {ws'} {es} l h = sym (l.same ∙ rw none_left (no_more l.rest)) where
  none_left : count - k ≡ 0
  none_left = omega arith

  no_more : (rest : List Operator) → against ds v o (take 0 rest) ≡ false
  no_more [] = refl
  no_more (x ∷ rest) = refl

-- Values that the code compares

pub token-none : {v : Answer ℕ} (x y : Option ℕ) → v ≡ answer_of x → is_some v ≡ false → false ≡ same_value x y
unfolding same_value
token-none none y e q = refl
token-none (some u) y e q = never (sym q ∙ rw e refl)

pub token-same : {v r : Answer ℕ} (x y : Option ℕ) → v ≡ answer_of x → r ≡ answer_of y → is_some v ≡ true → option_eq eqb v r ≡ same_value x y
unfolding same_value
token-same none y e f q = never (rw e at q)
token-same (some v) none e f q = rw (e, f) refl
token-same (some v) (some u) e f q = rw (e, f) refl

pub levels-apart : (a b : ℕ) (s : Bool) → (a ≡ b → ⊥) → false ≡ (eqb a b && s)
levels-apart a b s h = rw (ne_eqb a b h) refl

pub levels-same : (a b : ℕ) {r : Bool} (s : Bool) → a ≡ b → r ≡ s → r ≡ (eqb a b && s)
levels-same a b s e h = rw (eq-eqb a b e) h

pub sides-clash : {r s : Bool} (d : Bool) → r ≡ s → r ≡ true → true ≡ (s || d)
sides-clash d h e = let z : _ ≡ true = sym h ∙ e in rw z refl

pub sides-same : {r s d q : Bool} → r ≡ s → r ≡ false → q ≡ d → q ≡ (s || d)
sides-same h e k = let z : _ ≡ false = sym h ∙ e in rw z k

-- The fault of one entry

looked-up : {f v at len : ℕ} (ds : List Decl) (c : ℕ) (w : Word) → Numbered f v (lookup_in ds c w) → at ≡ w.start → len ≡ length w.text → Faults f at len (lookup_in ds c w)
unfolding lookup_in
looked-up {f} {v} {at} {len} ds c w l p q = go (find w.text (knowns_in c ds)) l
  where
    go : (x : Option ℕ) → Numbered f v (elim x as (λ _. Checked ℕ) [ some u ↦ good u | none ↦ wrong (elsewhere_in ds w.text) w ])
        → Faults {A = ℕ} f at len (elim x as (λ _. Checked ℕ) [ some u ↦ good u | none ↦ wrong (elsewhere_in ds w.text) w ])
    go (some u) (found e h) = clean e
    go none (missing e n) = faulty e n p q

-- the same of the word that the code has
looked-word : {f u v at len : ℕ} (ds : List Decl) (c : ℕ) (text : List ℕ) {w : Word} (a : WordAt) → w ≡ as_word text a → Numbered u v (lookup_in ds c (as_word text a)) → f ≡ u → at ≡ a.start
    → len ≡ length (part text a.start a.len) → Faults f at len (lookup_in ds c w)
looked-word ds c text {w} a e l h p q = rw (e, h) (looked-up ds c (as_word text a) l p q)

-- A token's value tells whether it is declared

not-operation : (k : ℕ) → (eqb k 1 || (eqb k 3 && true)) ≡ true → eqb k 6 ≡ false
not-operation k e = go (eqb k 1) refl (eqb k 3) refl e
  where
    go : (a : Bool) → eqb k 1 ≡ a → (b : Bool) → eqb k 3 ≡ b → (a || (b && true)) ≡ true → eqb k 6 ≡ false
    go true p b q z = rw (eqb-true k 1 p) refl
    go false p true q z = rw (eqb-true k 3 q) refl
    go false p false q z = never z

known-declares : (w : List ℕ) (d : Decl) → knows 1 w d ≡ true → declares w d ≡ true
unfolding knows declares feeds
known-declares w d e = go (feeds 1 d) refl (same w d.name.text) e
  where
    go : (s : Bool) → feeds 1 d ≡ s → (a : Bool) → (s && (a || is_word w d.second)) ≡ true → (a || (not (eqb d.class 6) && is_word w d.second)) ≡ true
    go true p true z = refl
    go true p false z = rw (not-operation d.class p) z
    go false p a z = never z

known-declared : (w : List ℕ) (ds : List Decl) {v : ℕ} → find w (knowns_in 1 ds) ≡ some v → declared_in w ds ≡ true
unfolding find knowns_in
known-declared w [] e = absurd (none-some e)
  where
    none-some : {v : ℕ} → ◌≡◌ {A = Option ℕ} none (some v) → ⊥
    none-some z = let y : ◌≡◌ {A = ℕ} 0 1 = cc in omega (arith, y)
known-declared w (d ∷ ds) {v} e = (by_word w).cons 0 d ds ∙ go (knows 1 w d) refl (declares w d) refl (known-declared w ds) (sym ((by_value 1 w).cons 0 d ds) ∙ e)
  where
    go : (s : Bool) → knows 1 w d ≡ s → (a : Bool) → declares w d ≡ a → (find w (knowns_in 1 ds) ≡ some v → declared_in w ds ≡ true) → (if s then some d.value else find w (knowns_in 1 ds)) ≡ some v
        → (if a then true else declared_in w ds) ≡ true
    go s p true q rest z = refl
    go true p false q rest z = never (sym q ∙ known-declares w d p)
    go false p false q rest z = rest z

token-nowhere : {t v : ℕ} (ds : List Decl) (w : Word) → Numbered t v (lookup_in ds 1 w) → t ≡ 3 → not (declared_in w.text ds) ≡ true
unfolding lookup_in elsewhere_in
token-nowhere {t} {v} ds w l e = go (find w.text (knowns_in 1 ds)) (declared_in w.text ds) l
  where
    go : (x : Option ℕ) (b : Bool) → Numbered t v (elim x as (λ _. Checked ℕ) [ some u ↦ good u | none ↦ wrong (if b then 5 else 3) w ]) → not b ≡ true
    go (some u) b (found p q) = absurd (omega (arith, p, e))
    go none true (missing p n) = absurd (omega (arith, p, e))
    go none false m = refl

token-declared : {t v : ℕ} (ds : List Decl) (w : Word) → Numbered t v (lookup_in ds 1 w) → (t ≡ 3 → ⊥) → not (declared_in w.text ds) ≡ false
unfolding lookup_in elsewhere_in
token-declared {t} {v} ds w l n = go (find w.text (knowns_in 1 ds)) refl (declared_in w.text ds) refl l
  where
    go : (x : Option ℕ) → find w.text (knowns_in 1 ds) ≡ x → (b : Bool) → declared_in w.text ds ≡ b → Numbered t v (elim x as (λ _. Checked ℕ) [ some u ↦ good u | none ↦ wrong (if b then 5 else 3) w ]) → not b ≡ false
    go x p true q m = refl
    go (some u) p false q m = never (sym q ∙ known-declared w.text ds p)
    go none p false q (missing h z) = absurd (n h)

abbrev pub unwrap_ok : Result ℕ Fault → ℕ
unwrap_ok (Ok v) = v
unwrap_ok (Err f) = 0

pub found-number : {r : Result ℕ Fault} {m : Checked ℕ} → Looks r m → Numbered (number_in r) (unwrap_ok r) m
found-number (rows.found {v = v} e) = rw e (found refl refl)
found-number (rows.missing {n = n} {f = f} e q) = rw e (missing q (λ z. fault-some f (q ∙ z)))

pub not-three : {n : ℕ} {b : Bool} → b ≡ eqb n 3 → b ≡ false → n ≡ 3 → ⊥
not-three {n} e f z = never (sym f ∙ e ∙ eq-eqb n 3 z)

module _ (ds : List Decl) (before : List Operator) {text : List ℕ} {from : ℕ} {o : Operator} {ws₁ : List Word} {e : Entry} (is : EntryIs text from o ws₁ e) {t v : ℕ}
    (ht : Numbered t v (lookup_in ds 1 (as_word text e.token))) where
  pub entry-nowhere : {f at len : ℕ} → t ≡ 3 → f ≡ 3 → at ≡ e.token.start → len ≡ length (part text e.token.start e.token.len) → Faults f at len (entry_fault ds before o)
  unfolding entry_fault
  entry-nowhere q h p l = stops _ (again _ _ _ _ 3 o.token undeclared h (λ z. omega arith) (rw is.token p) (rw is.token l)) (λ z. omega arith)
    where
      undeclared : not (declared_in o.token.text ds) ≡ true
      undeclared = rw is.token (token-nowhere ds (as_word text e.token) ht q)

  module _ (q : t ≡ 3 → ⊥) {a : Bool} (ha : a ≡ against ds (find o.token.text (knowns_in 1 ds)) o before) where
    is_declared : not (declared_in o.token.text ds) ≡ false
    is_declared = rw is.token (token-declared ds (as_word text e.token) ht q)

    pub entry-again : {f at len : ℕ} → a ≡ true → f ≡ 45 → at ≡ e.token.start → len ≡ length (part text e.token.start e.token.len) → Faults f at len (entry_fault ds before o)
    unfolding entry_fault
    entry-again r h p l =
        goes _ (once 0 0 0 _ 3 o.token is_declared refl) refl (λ _.
        stops _ (again _ _ _ _ 45 o.token (sym ha ∙ r) h (λ z. omega arith) (rw is.token p) (rw is.token l)) (λ z. omega arith))

    module _ (r : a ≡ false) where
      pub entry-token : {f at len : ℕ} → (t ≡ 0 → ⊥) → f ≡ t → at ≡ e.token.start → len ≡ length (part text e.token.start e.token.len) → Faults f at len (entry_fault ds before o)
      unfolding entry_fault
      entry-token z h p l =
          goes _ (once 0 0 0 _ 3 o.token is_declared refl) refl (λ _.
          goes _ (once 0 0 0 _ 45 o.token (sym ha ∙ r) refl) refl (λ _.
          stops _ (looked-word ds 1 text e.token is.token ht h p l) (λ y. z (sym h ∙ y))))

      pub entry-emits : {u v₂ f at len : ℕ} → t ≡ 0 → Numbered u v₂ (lookup_in ds 2 (as_word text e.emits)) → f ≡ u → at ≡ e.emits.start
          → len ≡ length (part text e.emits.start e.emits.len) → Faults f at len (entry_fault ds before o)
      unfolding entry_fault
      entry-emits z hu h p l =
          goes _ (once 0 0 0 _ 3 o.token is_declared refl) refl (λ _.
          goes _ (once 0 0 0 _ 45 o.token (sym ha ∙ r) refl) refl (λ _.
          goes _ (looked-word ds 1 text e.token is.token ht refl refl refl) z (λ _.
          ends (looked-word ds 2 text e.emits is.emits hu h p l))))

      -- no fault, whatever the places
      pub entry-clean : {u v₂ at len : ℕ} → t ≡ 0 → Numbered u v₂ (lookup_in ds 2 (as_word text e.emits)) → u ≡ 0 → Faults 0 at len (entry_fault ds before o)
      unfolding entry_fault
      entry-clean {at = at} {len = len} z hu q =
          goes _ (once 0 0 0 _ 3 o.token is_declared refl) refl (λ _.
          goes _ (once 0 0 0 _ 45 o.token (sym ha ∙ r) refl) refl (λ _.
          goes _ (looked-word ds 1 text e.token is.token ht refl refl refl) z (λ _.
          ends (places q (looked-word ds 2 text e.emits is.emits hu refl refl refl)))))
        where
          places : {A : Type 0} {f a l : ℕ} {m : Checked A} → f ≡ 0 → Faults f a l m → Faults 0 at len m
          places y (clean x) = clean refl
          places y (faulty x n p l) = absurd (n (sym x ∙ y))

-- an entry that is apart from the marks
pub apart-entry : (ds : List Decl) {text rows : List ℕ} {n from : ℕ} {v : Answer ℕ} {marks : List ℕ} {bs : List Operator} {o : Operator} {ws₁ : List Word} {e : Entry} {r : Bool} → EntryIs text from o ws₁ e
    → v ≡ answer_of (find (part text e.token.start e.token.len) (knowns_in 1 ds)) → AllMarked ds rows n marks bs → (r ≡ true → (x : Option ℕ) → v ≡ answer_of x → Apart rows n marks e.level e.right x)
    → r ≡ true → against ds (find o.token.text (knowns_in 1 ds)) o bs ≡ false
apart-entry ds {o = o} is t m f q = apart-against o m (rw (is.level, is.right) (f q (find o.token.text (knowns_in 1 ds)) (value-token ds is t)))

-- All entries

pub passed_start : {ds : List Decl} {text : List ℕ} {at : ℕ} {ws' : List Word} {es : List Operator} → OperatorsIn (words_at text at) ws' es → Passed ds text at 0 ws' es
passed_start {es = es} d = record { before = []; rest = es; whole = refl; size = refl; stand = d; same = refl }

-- the entry at the place i, and those behind it
record Here (ds : List Decl) (text : List ℕ) (i count : ℕ) (ws' : List Word) (es : List Operator) (e : Entry) : Type 0 where
  before : List Operator
  one : Operator
  rest : List Operator
  tail : List Word
  is : EntryIs text i one tail e
  whole : es ≡ before ++ (one ∷ rest)
  size : length before ≡ count
  same : entries_fault ds [] es ≡ entries_fault ds before (one ∷ rest)
  further : ((59 ≡ (peek tail).kind) × (rest ≡ [])) ⊎ (Not 59 tail × OperatorsIn tail ws' rest)

here : {ds : List Decl} {text : List ℕ} {i count : ℕ} {ws' : List Word} {es : List Operator} {e : Entry} → Passed ds text i count ws' es → AnEntry text i e → Here ds text i count ws' es e
unfolding peek
here {ds} {text} {i} {count} {ws'} {es} {e} p a = go p.rest p.stand p.whole p.same
  where
    go : (rest : List Operator) → OperatorsIn (words_at text i) ws' rest → es ≡ p.before ++ rest → entries_fault ds [] es ≡ entries_fault ds p.before rest → Here ds text i count ws' es e
    go _ (last_operator {o = o} d t) w q =
        record { before = p.before; one = o; rest = []; tail = _; is = a.entry o _ d; whole = w; size = p.size; same = q; further = inl (sym (ap (λ (l : List Word). (peek l).kind) t.here ∙ t.kind), refl) }
    go _ (more_operators {o = o} {os = os} d n s) w q =
        record { before = p.before; one = o; rest = os; tail = _; is = a.entry o _ d; whole = w; size = p.size; same = q; further = inr (n, s) }

module _ {ds : List Decl} {text : List ℕ} {i count : ℕ} {ws' : List Word} {es : List Operator} {e : Entry} (p : Passed ds text i count ws' es) (a : AnEntry text i e) where
  at_i : Here ds text i count ws' es e
  at_i = here p a

  pub passed-moves : i < e.emits.next
  passed-moves = at_i.is.past

  -- the entries before are the first `count`
  few : count < length es
  few = omega (arith, at_i.size, ap length at_i.whole, length-append at_i.before (at_i.one ∷ at_i.rest))

  taken : take count es ≡ at_i.before
  taken = ap (λ (l : List Operator). take count l) at_i.whole ∙ ap (λ (k : ℕ). take k (at_i.before ++ (at_i.one ∷ at_i.rest))) (sym at_i.size) ∙ take-append_seam at_i.before (at_i.one ∷ at_i.rest)

  taken_more : take (count + 1) es ≡ at_i.before ++ (at_i.one ∷ [])
  taken_more =
      ap (λ (l : List Operator). take (count + 1) l) (at_i.whole ∙ sym (append_snoc at_i.before at_i.one at_i.rest))
      ∙ ap (λ (k : ℕ). take k ((at_i.before ++ (at_i.one ∷ [])) ++ at_i.rest)) (sym size-more)
      ∙ take-append_seam (at_i.before ++ (at_i.one ∷ [])) at_i.rest
    where
      size-more : length (at_i.before ++ (at_i.one ∷ [])) ≡ count + 1
      size-more = omega (arith, at_i.size, length-append at_i.before (at_i.one ∷ []))

  -- the marks are those of this entry, too
  pub passed-marks : {rows : List ℕ} {n : ℕ} {v : Answer ℕ} {old new : List ℕ} → AllMarked ds rows n old (take count es) → MarksKept old new → v ≡ answer_of (find (part text e.token.start e.token.len) (knowns_in 1 ds))
      → ((x : Option ℕ) → v ≡ answer_of x → MarkedAs rows n new e.level e.right x) → AllMarked ds rows n new (take (count + 1) es)
  passed-marks {rows} {n} {v} {old} {new} m k t g = rw taken_more (marked_more at_i.before at_i.one (marked-kept k (rw taken at m)) (rw (at_i.is.level, at_i.is.right) (g (find at_i.one.token.text (knowns_in 1 ds)) (value-token ds at_i.is t))))

  module _ {f at len : ℕ} (h : count < length es → (from : ℕ) (o : Operator) (ws₁ : List Word) → EntryIs text from o ws₁ e → Faults f at len (entry_fault ds (take count es) o)) where
    one-fault : Faults f at len (entry_fault ds at_i.before at_i.one)
    one-fault = rw taken at (h few i at_i.one at_i.tail at_i.is)

    pub passed-stops : (f ≡ 0 → ⊥) → Faults f at len (entries_fault ds [] es)
    unfolding entries_fault
    passed-stops z = rw at_i.same (stops _ one-fault z)

    module _ (z : f ≡ 0) {w : WordAt} (n : Next text e.emits.next w) where
      kind-next : (peek at_i.tail).kind ≡ w.kind
      kind-next = rw at_i.is.rest (kind-here text e.emits.next w n)

      one_more : entries_fault ds [] es ≡ entries_fault ds (at_i.before ++ (at_i.one ∷ [])) at_i.rest
      unfolding entries_fault
      one_more = at_i.same ∙ rw (is-clean one-fault z) refl

      pub passed-ends : w.kind ≡ 59 → Faults f at len (entries_fault ds [] es)
      unfolding entries_fault
      passed-ends k = go at_i.further
        where
          go : ((59 ≡ (peek at_i.tail).kind) × (at_i.rest ≡ [])) ⊎ (Not 59 at_i.tail × OperatorsIn at_i.tail ws' at_i.rest) → Faults f at len (entries_fault ds [] es)
          go (inl (s, r)) = rw (one_more, r) (clean z)
          go (inr (s, r)) = absurd (s (kind-next ∙ k))

      pub passed-goes : (w.kind ≡ 59 → ⊥) → Passed ds text e.emits.next (count + 1) ws' es
      passed-goes k = go at_i.further
        where
          go : ((59 ≡ (peek at_i.tail).kind) × (at_i.rest ≡ [])) ⊎ (Not 59 at_i.tail × OperatorsIn at_i.tail ws' at_i.rest) → Passed ds text e.emits.next (count + 1) ws' es
          go (inl (s, r)) = absurd (k (sym kind-next ∙ sym s))
          go (inr (s, r)) = record {
            before = at_i.before ++ (at_i.one ∷ []);
            rest = at_i.rest;
            whole = at_i.whole ∙ sym (append_snoc at_i.before at_i.one at_i.rest);
            size = omega (arith, at_i.size, length-append at_i.before (at_i.one ∷ []));
            stand = rw at_i.is.rest at r;
            same = one_more;
          }

-- The section

module _ (ds before : List Decl) (d : Decl) (es : List Operator) where
  pub operators-stop : {f at len : ℕ} → Faults f at len (fault_if (given (index_of 600 d.name.text 0 before)) 4 d.name) → (f ≡ 0 → ⊥) → Faults f at len (operators_fault ds before es d)
  unfolding operators_fault
  operators-stop h z = stops _ h z

  pub operators-go : {f at len f₂ at₂ len₂ : ℕ} → Faults f at len (fault_if (given (index_of 600 d.name.text 0 before)) 4 d.name) → f ≡ 0 → Faults f₂ at₂ len₂ (entries_fault ds [] es)
      → Faults f₂ at₂ len₂ (operators_fault ds before es d)
  unfolding operators_fault
  operators-go h z k = goes _ h z (λ _. rw (entries-link ds es [] [] (nothing_yet ds)) k)
