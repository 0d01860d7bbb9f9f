-- The walk over the words: what is found from a place on, and from the start.
use mathlib.Core.Bool.{Bool, true, false, ◌&&◌, ◌||◌, or_comm}
use mathlib.Core.List.{List, [], ◌∷◌, ◌++◌, append_assoc, append-nil}
use mathlib.Core.Logic.{◌⊎◌, inl, inr}
use mathlib.Core.Option.{Option, none, some}
use mathlib.Core.Path.{◌≡◌, refl, sym, ap, ◌∙◌}
use Prim.Native.Nat.{ℕ, ◌+◌, ◌*◌, ◌-◌, ◌<◌, ◌≤◌}
use native.Mathlib.Decide.{dec_lt}
use native.Mathlib.Omega.{arith}
use borrow.Author.Tests.{eq-eqb, ne_eqb, eqb-true}
use lib.Dec.{eqb}
use lib.ListN.{length, get_or, set, take, drop, length-take, length-drop}
use lib.Seq.{get_or-set_same}
use Rattle.base.proofs.Laws.{same-eq, same_refl}
use Rattle.base.specs.Bools.{never}
use Rattle.std.specs.Prelude.{Result, Ok, Err, if◌then◌else◌}
use Rattle.base.specs.declared.Fault.TheVariants.{OverLimit as a_limit}
use Rattle.base.specs.declared.Refusal.{Refusal}
use Rattle.base.specs.Common.{given, same}
use Rattle.declarations.specs.Decls.{Agrees, Decl, EntriesAt, entries_of, decl_of, index_of}
use Rattle.grammar.specs.Derived.{RulesIn}
use Rattle.maker.proofs.Marked.{marked}
use Rattle.maker.proofs.Named.{rules-named}
use Rattle.maker.proofs.Taking.{row_at, row-less}
use Rattle.maker.specs.Marks.{use_of, marks}
use Rattle.maker.specs.Pairs.{Pair, pairs_from, pairs_held, look_pair, lowest_in, section_row, operand_row, Ordered, AllOrdered, pair_of, pairs_mean, PairsAre}
use Rattle.maker.specs.Pairing.{NoSection, is_there, passes, Takes, again, added, over, UseDone, WordDone, Stands, AllNamed, PairsEnd, paired, passed, PairsFrom, PairsDone}
use Rattle.maker.specs.declared.Untaken.{Untaken}
use Rattle.maker.specs.declared.Untaken.TheVariants.{NotInOrder, OverLimit}
use Rattle.names.specs.Declare.{known_rules}
use Rattle.names.specs.Known.{Checked, good, wrong, ◌>>=◌, KnownRule, Names}
use Rattle.names.specs.Uses.{Use, rules_uses, same_pair, is_used, firsts, pairs_of, levels_used, lowest_of, operand_of, made_for}
use Rattle.program.specs.Made.{level_rules}
use Rattle.program.specs.Program as means
use Rattle.scanner.specs.Next.{Next, as_word}
use Rattle.scanner.specs.declared.WordAt.{WordAt}
use Rattle.symbols.proofs.Indexing.{index_same, index-after, index-set, held-behind}
use Rattle.symbols.proofs.Searches.{held_at}
use Rattle.symbols.specs.Index.{IndexKept}
use Rattle.symbols.specs.Rows.{held, decl_at}
use Rattle.syntax.specs.Reading.{peek}
use Rattle.syntax.specs.Written.{Program}
use Rattle.words.specs.Words.{Word, words_at}

-- A word

pub word-caret : {text rows rows' : List ℕ} {n others own : ℕ} {w : WordAt} {r : Result ℕ Untaken} → w.kind ≡ 94 → UseDone text rows n others own w.next rows' r → WordDone text rows n others own w rows' r
word-caret k u = record { bound = u.bound; caret = λ _. u; other = λ f. absurd (f k) }

pub word-other : {text rows : List ℕ} {n others own : ℕ} {w : WordAt} → (w.kind ≡ 94 → ⊥) → own ≤ 128 → get_or rows 5632 0 ≤ own
    → WordDone text rows n others own w rows (Ok own)
word-other {rows = rows} k f g = record { bound = record { index = index_same rows; few = f; count = g }; caret = λ e. absurd (k e); other = λ _. (refl, refl) }

-- Pairs are the same by their texts and by their declarations

same_index : (c : ℕ) (w v : List ℕ) (i j : ℕ) (ds : List Decl) → index_of c w 0 ds ≡ some i → index_of c v 0 ds ≡ some j → same w v ≡ eqb j i
same_index c w v i j ds e f = go (same w v) refl
  where
    name_of : (u : List ℕ) (k : ℕ) → index_of c u 0 ds ≡ some k → u ≡ (decl_of ds k).name.text
    name_of u k q = same-eq u (decl_of ds k).name.text (row_at c u k ds q).name

    go : (t : Bool) → same w v ≡ t → t ≡ eqb j i
    go true q =
        let d : ◌≡◌ {A = Option ℕ} (some j) (some i) = sym f ∙ (ap (λ (u : List ℕ). index_of c u 0 ds) (sym (same-eq w v q)) ∙ e) in
        let z : j ≡ i = cc in
        sym (eq-eqb j i z)
    go false q = sym (ne_eqb j i (λ z. never (sym q ∙ (ap (same w) (name_of v j f ∙ (ap (λ (k : ℕ). (decl_of ds k).name.text) z ∙ sym (name_of w i e))) ∙ same_refl w))))

pub same-pair : {ds : List Decl} {u v : Use} → Ordered ds u → Ordered ds v → same_pair u v ≡ (eqb (section_row ds v) (section_row ds u) && eqb (operand_row ds v) (operand_row ds u))
unfolding same_pair
same-pair {ds} {u} {v} a b =
    rw (
      same_index 600 u.section.text v.section.text (section_row ds u) (section_row ds v) ds a.section b.section,
      same_index 7 u.operand.text v.operand.text (operand_row ds u) (operand_row ds v) ds a.operand b.operand,
    ) refl

-- The resolver's law: the place that the code finds is the definition's, for every use that is in order

lowest-mean : (names : Names) (ds : List Decl) (u : Use) (own : ℕ) (us : List Use) → Ordered ds u → AllOrdered ds us
    → lowest_in (section_row ds u) (operand_row ds u) (pairs_mean names ds own us) ≡ lowest_of names u own us
unfolding lowest_in look_pair pairs_mean lowest_of AllOrdered
lowest-mean names ds u own [] o a = refl
lowest-mean names ds u own (v ∷ us) o a = rw (same-pair o a.0) (go (eqb (section_row ds v) (section_row ds u) && eqb (operand_row ds v) (operand_row ds u)) (lowest-mean names ds u (own + length (levels_used names v)) us o a.1))
  where
    later : Option ℕ
    later = look_pair (section_row ds u) (operand_row ds u) (pairs_mean names ds (own + length (levels_used names v)) us)

    go : (t : Bool) → ◌≡◌ {A = ℕ} (elim later as (λ _. ℕ) [ some x ↦ x | none ↦ 0 ]) (lowest_of names u (own + length (levels_used names v)) us)
        → ◌≡◌ {A = ℕ} (elim (if t then some own else later) as (λ _. ℕ) [ some x ↦ x | none ↦ 0 ]) (if t then own else lowest_of names u (own + length (levels_used names v)) us)
    go true e = refl
    go false e = e

pub lowest-is : {text rows : List ℕ} {n : ℕ} {p : Program} {names : Names} (u : Use) → PairsAre text rows n p names → Ordered (held text rows n) u
    → lowest_in (section_row (held text rows n) u) (operand_row (held text rows n) u) (pairs_held rows) ≡ lowest_of names u (length p.rules) (pairs_of p.rules)
lowest-is {text} {rows} {n} {p} {names} u h o =
    ap (lowest_in (section_row (held text rows n) u) (operand_row (held text rows n) u)) h.pairs ∙ lowest-mean names (held text rows n) u (length p.rules) (pairs_of p.rules) o h.ordered

-- The pairs of the uses seen

look-append : (s o : ℕ) (qs : List Pair) (q : Pair) → given (look_pair s o (qs ++ (q ∷ []))) ≡ (given (look_pair s o qs) || (eqb q.section s && eqb q.operand o))
unfolding look_pair
look-append s o [] q = go (eqb q.section s && eqb q.operand o)
  where
    go : (t : Bool) → given (if t then some q.lowest else none) ≡ t
    go true = refl
    go false = refl
look-append s o (x ∷ qs) q = go (eqb x.section s && eqb x.operand o) (look-append s o qs q)
  where
    go : (t : Bool) → given (look_pair s o (qs ++ (q ∷ []))) ≡ (given (look_pair s o qs) || (eqb q.section s && eqb q.operand o))
        → given (if t then some x.lowest else look_pair s o (qs ++ (q ∷ []))) ≡ (given (if t then some x.lowest else look_pair s o qs) || (eqb q.section s && eqb q.operand o))
    go true e = refl
    go false e = e

pub stands-more : {ds : List Decl} (qs : List Pair) (seen : List Use) (own : ℕ) (v : Use) → Stands ds qs seen → Ordered ds v → Stands ds (qs ++ (pair_of ds own v ∷ [])) (v ∷ seen)
unfolding is_used
stands-more {ds} qs seen own v f b u a =
    look-append (section_row ds u) (operand_row ds u) qs (pair_of ds own v)
    ∙ (ap (λ (t : Bool). t || (eqb (section_row ds v) (section_row ds u) && eqb (operand_row ds v) (operand_row ds u))) (f u a)
    ∙ (ap (λ (t : Bool). is_used u seen || t) (sym (same-pair a b)) ∙ or_comm (is_used u seen) (same_pair u v)))

pub stands-as : {ds : List Decl} {qs rs : List Pair} (seen : List Use) → rs ≡ qs → Stands ds qs seen → Stands ds rs seen
stands-as {ds} seen e f u a = ap (λ (l : List Pair). is_there ds l u) e ∙ f u a

-- The words from a place on

module _ {text : List ℕ} {i : ℕ} {w : WordAt} (h : Next text i w) where
  pub marks-end : w.kind < 2 → marks (words_at text i) ≡ []
  unfolding marks
  marks-end k = ap marks (h.final k) ∙ go
    where
      go : (if eqb w.kind 266 then [] else if eqb w.kind 94 then use_of (as_word text w) [] ∷ [] else []) ≡ []
      go = rw (ne_eqb w.kind 266 (λ e. omega (arith, e, k)), ne_eqb w.kind 94 (λ e. omega (arith, e, k))) refl

  pub marks-last : w.kind ≡ 266 → marks (words_at text i) ≡ []
  unfolding marks
  marks-last k = ap marks (h.more (omega (arith, k))) ∙ go
    where
      go : (if eqb w.kind 266 then [] else if eqb w.kind 94 then use_of (as_word text w) (words_at text w.next) ∷ marks (words_at text w.next) else marks (words_at text w.next)) ≡ []
      go = rw (eq-eqb w.kind 266 k) refl

  pub marks-use : w.kind ≡ 94 → marks (words_at text i) ≡ use_of (as_word text w) (words_at text w.next) ∷ marks (words_at text w.next)
  unfolding marks
  marks-use k = ap marks (h.more (omega (arith, k))) ∙ go
    where
      go : (if eqb w.kind 266 then [] else if eqb w.kind 94 then use_of (as_word text w) (words_at text w.next) ∷ marks (words_at text w.next) else marks (words_at text w.next))
          ≡ use_of (as_word text w) (words_at text w.next) ∷ marks (words_at text w.next)
      go = rw (ne_eqb w.kind 266 (λ e. omega (arith, e, k)), eq-eqb w.kind 94 k) refl

  pub marks-other : 2 ≤ w.kind → (w.kind ≡ 266 → ⊥) → (w.kind ≡ 94 → ⊥) → marks (words_at text i) ≡ marks (words_at text w.next)
  unfolding marks
  marks-other l k m = ap marks (h.more l) ∙ go
    where
      go : (if eqb w.kind 266 then [] else if eqb w.kind 94 then use_of (as_word text w) (words_at text w.next) ∷ marks (words_at text w.next) else marks (words_at text w.next))
          ≡ marks (words_at text w.next)
      go = rw (ne_eqb w.kind 266 k, ne_eqb w.kind 94 m) refl

-- what is promised of the uses us from here on
record Ends {A : Type 0} (text rows : List ℕ) (n others own : ℕ) (rows' : List ℕ) (r : Result A Refusal) (us : List Use) : Type 0 where
  ends : (p : Program) (names : Names) (ks : List KnownRule) → Agrees p names ks (held text rows n) → EntriesAt text (held text rows n) (entries_of p)
      → (seen : List Use) → Stands (held text rows n) (pairs_held rows) seen → AllNamed us → AllOrdered (held text rows n) us
      → PairsEnd (held text rows n) (pairs_held rows) rows' names own (firsts seen us) r (made_for names ks others own (firsts seen us))

from-marks : {A : Type 0} {text rows rows' : List ℕ} {n others own i : ℕ} {r : Result A Refusal} {us : List Use} → marks (words_at text i) ≡ us → IndexKept rows rows' → Ends text rows n others own rows' r us → PairsFrom text rows n others own i rows' r
from-marks e k f = record { index = k; done = λ p names ks ag en seen st. rw e (f.ends p names ks ag en seen st) }

ends-none : {A : Type 0} {text rows : List ℕ} {n others own : ℕ} {a : A} → Ends text rows n others own rows (Ok a) []
unfolding firsts made_for pairs_mean
ends-none {rows = rows} = record { ends = λ p names ks ag en seen st nm or. paired refl (sym (append-nil (pairs_held rows))) }

-- a pair that was added stands before those found later
end_more : {A : Type 0} {ds : List Decl} {qs : List Pair} {rows' : List ℕ} {names : Names} {own : ℕ} {fs : List Use} {r : Result A Refusal} (u : Use) (f : List means.Rule → List means.Rule) (m : Checked (List means.Rule))
    → PairsEnd ds (qs ++ (pair_of ds own u ∷ [])) rows' names (own + length (levels_used names u)) fs r m → PairsEnd ds qs rows' names own (u ∷ fs) r (◌>>=◌ m (λ ms. good (f ms)))
unfolding pairs_mean
end_more {ds = ds} {qs} {names = names} {own} {fs} u f (good ms) (paired z e) = paired z (e ∙ append_assoc qs (pair_of ds own u ∷ []) (pairs_mean names ds (own + length (levels_used names u)) fs))
end_more u f (wrong _ w) (passed e z a l) = passed e z a l

end-as : {A : Type 0} {ds ds₁ : List Decl} {qs qs₁ : List Pair} {rows' : List ℕ} {names : Names} {own own₁ : ℕ} (ks : List KnownRule) {fs : List Use} {r : Result A Refusal} (others : ℕ) → ds₁ ≡ ds → qs₁ ≡ qs → own₁ ≡ own
    → PairsEnd ds₁ qs₁ rows' names own₁ fs r (made_for names ks others own₁ fs) → PairsEnd ds qs rows' names own fs r (made_for names ks others own fs)
end-as ks others a b c e = rw (← a, ← b, ← c) e

-- the same pairs stand there
ends_same : {A : Type 0} {text rows rows₁ rows' : List ℕ} {n others own own₁ : ℕ} {r : Result A Refusal} {us : List Use} → n ≤ 512 → IndexKept rows rows₁ → own₁ ≡ own → pairs_held rows₁ ≡ pairs_held rows
    → Ends text rows₁ n others own₁ rows' r us → Ends text rows n others own rows' r us
ends_same {text = text} {rows} {rows₁} {n = n} {others} few kept o q f = record {
  ends = λ p names ks ag en seen st nm or.
      let same : held text rows₁ n ≡ held text rows n = held-behind text n kept few in
      end-as ks others same q o (f.ends p names ks (rw same ag) (rw same en) seen (rw same (stands-as seen q st)) nm (rw same or));
}

-- one stands behind them
ends-added : {A : Type 0} {text rows rows₁ rows' : List ℕ} {n others own₁ : ℕ} {r : Result A Refusal} (own : ℕ) (u : Use) {us : List Use} → n ≤ 512 → IndexKept rows rows₁ → Ends text rows₁ n others own₁ rows' r us
    → (p : Program) (names : Names) (ks : List KnownRule) → Agrees p names ks (held text rows n) → EntriesAt text (held text rows n) (entries_of p)
    → (seen : List Use) → Stands (held text rows n) (pairs_held rows) seen → AllNamed us → AllOrdered (held text rows n) us → Ordered (held text rows n) u
    → own₁ ≡ own + length (levels_used names u) → pairs_held rows₁ ≡ pairs_held rows ++ (pair_of (held text rows n) own u ∷ [])
    → PairsEnd (held text rows n) (pairs_held rows ++ (pair_of (held text rows n) own u ∷ [])) rows' names (own + length (levels_used names u)) (firsts (u ∷ seen) us) r
    (made_for names ks others (own + length (levels_used names u)) (firsts (u ∷ seen) us))
ends-added {text = text} {rows} {rows₁} {n = n} {others} own u few kept f p names ks ag en seen st nm or ou o q =
    let same : held text rows₁ n ≡ held text rows n = held-behind text n kept few in
    end-as ks others same q o
    (f.ends p names ks (rw same ag) (rw same en) (u ∷ seen) (rw same (stands-as (u ∷ seen) q (stands-more (pairs_held rows) seen own u st ou))) nm (rw same or))

-- the first use of a pair, and a later one
pub first-again : (u : Use) (seen us : List Use) → is_used u seen ≡ true → firsts seen (u ∷ us) ≡ firsts seen us
unfolding firsts
first-again u seen us e = rw e refl

pub first-new : (u : Use) (seen us : List Use) → is_used u seen ≡ false → firsts seen (u ∷ us) ≡ u ∷ firsts (u ∷ seen) us
unfolding firsts
first-new u seen us e = rw e refl

made-fits : (names : Names) (ks : List KnownRule) (others own : ℕ) (u : Use) (us : List Use) → passes others own (levels_used names u) ≡ false
    → made_for names ks others own (u ∷ us) ≡ ◌>>=◌ (made_for names ks others (own + length (levels_used names u)) us) (λ ms. good (level_rules own (operand_of ks u) (levels_used names u) ++ ms))
unfolding made_for
made-fits names ks others own u us e = rw e refl

made-over : (names : Names) (ks : List KnownRule) (others own : ℕ) (u : Use) (us : List Use) → passes others own (levels_used names u) ≡ true → made_for names ks others own (u ∷ us) ≡ wrong 9 u.sign
unfolding made_for
made-over names ks others own u us e = rw e refl

pub sign_of : (w : Word) (ws : List Word) → (use_of w ws).sign ≡ w
unfolding use_of
sign_of w ws = refl

pub word-long : (text : List ℕ) (start len : ℕ) → start + len ≤ length text → len ≡ length (take len (drop start text))
word-long text start len h = simp (length-take, length-drop) (omega arith)

abbrev own-use : List ℕ → WordAt → Use
own-use text w = use_of (as_word text w) (words_at text w.next)

-- outcomes of a use differ
same-own : {a b : ℕ} → ◌≡◌ {A = Result ℕ Untaken} (Ok a) (Ok b) → a ≡ b
same-own e = cc

never-ok : {a : ℕ} {e : Untaken} → ◌≡◌ {A = Result ℕ Untaken} (Ok a) (Err e) → ⊥
never-ok e = let z : ◌≡◌ {A = ℕ} 0 1 = cc in omega (arith, z)

never-both : ◌≡◌ {A = Result ℕ Untaken} (Err NotInOrder) (Err OverLimit) → ⊥
never-both e = let z : ◌≡◌ {A = ℕ} 0 1 = cc in omega (arith, z)

ends-use : {A : Type 0} {text rows rows₁ rows' : List ℕ} {n others own own₁ : ℕ} {r : Result A Refusal} {us : List Use} (w : WordAt) → n ≤ 512 → UseDone text rows n others own w.next rows₁ (Ok own₁)
    → Ends text rows₁ n others own₁ rows' r us → Ends text rows n others own rows' r (own-use text w ∷ us)
unfolding AllNamed AllOrdered
ends-use {text = text} {rows} {rows₁} {rows'} {n} {others} {own} {own₁} {r} {us} w few d f = record { ends = go }
  where
    go : (p : Program) (names : Names) (ks : List KnownRule) → Agrees p names ks (held text rows n) → EntriesAt text (held text rows n) (entries_of p)
        → (seen : List Use) → Stands (held text rows n) (pairs_held rows) seen → AllNamed (own-use text w ∷ us) → AllOrdered (held text rows n) (own-use text w ∷ us)
        → PairsEnd (held text rows n) (pairs_held rows) rows' names own (firsts seen (own-use text w ∷ us)) r (made_for names ks others own (firsts seen (own-use text w ∷ us)))
    go p names ks ag en seen st nm or = by (d.takes p names ks ag en (as_word text w) nm.0 or.0)
      where
        by : Takes (held text rows n) others own rows rows₁ names (own-use text w) (Ok own₁)
            → PairsEnd (held text rows n) (pairs_held rows) rows' names own (firsts seen (own-use text w ∷ us)) r (made_for names ks others own (firsts seen (own-use text w ∷ us)))
        by (again o q h) = rw (first-again (own-use text w) seen us (sym (st (own-use text w) or.0) ∙ h)) ((ends_same few d.bound.index (same-own o) q f).ends p names ks ag en seen st nm.1 or.1)
        by (added o q h l) =
            rw (first-new (own-use text w) seen us (sym (st (own-use text w) or.0) ∙ h), made-fits names ks others own (own-use text w) (firsts (own-use text w ∷ seen) us) l)
            (end_more (own-use text w) (λ ms. level_rules own (operand_of ks (own-use text w)) (levels_used names (own-use text w)) ++ ms)
            (made_for names ks others (own + length (levels_used names (own-use text w))) (firsts (own-use text w ∷ seen) us))
            (ends-added own (own-use text w) few d.bound.index f p names ks ag en seen st nm.1 or.1 or.0 (same-own o) q))
        by (over e h l) = absurd (never-ok e)

-- rules that pass a limit, as the code says it
abbrev pub past-limit : {A : Type 0} → WordAt → Result A Refusal
past-limit w = Err (record { fault = a_limit; at = w.start; len = w.len })

ends-over : {A : Type 0} {text rows rows₁ : List ℕ} {n others own : ℕ} {us : List Use} (w : WordAt) → UseDone text rows n others own w.next rows₁ (Err OverLimit) → w.start + w.len ≤ length text
    → Ends {A = A} text rows n others own rows₁ (past-limit w) (own-use text w ∷ us)
unfolding AllNamed AllOrdered
ends-over {A = A} {text} {rows} {rows₁} {n} {others} {own} {us} w d inside = record { ends = go }
  where
    go : (p : Program) (names : Names) (ks : List KnownRule) → Agrees p names ks (held text rows n) → EntriesAt text (held text rows n) (entries_of p)
        → (seen : List Use) → Stands (held text rows n) (pairs_held rows) seen → AllNamed (own-use text w ∷ us) → AllOrdered (held text rows n) (own-use text w ∷ us)
        → PairsEnd {A = A} (held text rows n) (pairs_held rows) rows₁ names own (firsts seen (own-use text w ∷ us)) (past-limit w)
        (made_for names ks others own (firsts seen (own-use text w ∷ us)))
    go p names ks ag en seen st nm or = by (d.takes p names ks ag en (as_word text w) nm.0 or.0)
      where
        by : Takes (held text rows n) others own rows rows₁ names (own-use text w) (Err OverLimit)
            → PairsEnd {A = A} (held text rows n) (pairs_held rows) rows₁ names own (firsts seen (own-use text w ∷ us)) (past-limit w)
            (made_for names ks others own (firsts seen (own-use text w ∷ us)))
        by (again o q h) = absurd (never-ok (sym o))
        by (added o q h l) = absurd (never-ok (sym o))
        by (over e h l) =
            rw (first-new (own-use text w) seen us (sym (st (own-use text w) or.0) ∙ h), made-over names ks others own (own-use text w) (firsts (own-use text w ∷ seen) us) l)
            (passed refl refl (ap (λ (v : Word). v.start) (sym (sign_of (as_word text w) (words_at text w.next))))
            (word-long text w.start w.len inside ∙ ap (λ (v : Word). length v.text) (sym (sign_of (as_word text w) (words_at text w.next)))))

-- no use that is in order ends the pairs
ends-unordered : {A : Type 0} {text rows rows₁ : List ℕ} {n others own : ℕ} {r : Result A Refusal} {us : List Use} (w : WordAt) → UseDone text rows n others own w.next rows₁ (Err NotInOrder)
    → Ends text rows n others own rows₁ r (own-use text w ∷ us)
unfolding AllNamed AllOrdered
ends-unordered {text = text} {rows} {rows₁} {n} {others} {own} {r} {us} w d = record { ends = go }
  where
    go : (p : Program) (names : Names) (ks : List KnownRule) → Agrees p names ks (held text rows n) → EntriesAt text (held text rows n) (entries_of p)
        → (seen : List Use) → Stands (held text rows n) (pairs_held rows) seen → AllNamed (own-use text w ∷ us) → AllOrdered (held text rows n) (own-use text w ∷ us)
        → PairsEnd (held text rows n) (pairs_held rows) rows₁ names own (firsts seen (own-use text w ∷ us)) r (made_for names ks others own (firsts seen (own-use text w ∷ us)))
    go p names ks ag en seen st nm or = absurd (by (d.takes p names ks ag en (as_word text w) nm.0 or.0))
      where
        by : Takes (held text rows n) others own rows rows₁ names (own-use text w) (Err NotInOrder) → ⊥
        by (again o q h) = never-ok (sym o)
        by (added o q h l) = never-ok (sym o)
        by (over e h l) = never-both e

-- The loop

pub pairs-stop : {A : Type 0} {text rows : List ℕ} {n others own i : ℕ} {w : WordAt} {a : A} → Next text i w → w.kind < 2 → PairsFrom text rows n others own i rows (Ok a)
pairs-stop {rows = rows} h k = from-marks (marks-end h k) (index_same rows) ends-none

pub pairs-last : {A : Type 0} {text rows : List ℕ} {n others own i : ℕ} {w : WordAt} {a : A} → Next text i w → w.kind ≡ 266 → PairsFrom text rows n others own i rows (Ok a)
pairs-last {rows = rows} h k = from-marks (marks-last h k) (index_same rows) ends-none

pub pairs-over : {A : Type 0} {text rows rows₁ : List ℕ} {n others own i : ℕ} {w : WordAt} {t : Result ℕ Untaken} → i ≤ length text → Next text i w → WordDone text rows n others own w rows₁ t → t ≡ Err OverLimit
    → PairsFrom {A = A} text rows n others own i rows₁ (past-limit w)
pairs-over {A = A} {text} {rows} {rows₁} {n} {others} {own} {i} {w} {t} inside h d z = go (eqb w.kind 94) refl
  where
    go : (b : Bool) → eqb w.kind 94 ≡ b → PairsFrom {A = A} text rows n others own i rows₁ (past-limit w)
    go true e =
        let k = eqb-true w.kind 94 e in
        from-marks (marks-use h k) d.bound.index (ends-over {us = marks (words_at text w.next)} w (rw z at (d.caret k)) (h.inside inside))
    go false e = absurd (never-ok (sym (d.other (λ k. never (sym e ∙ eq-eqb w.kind 94 k))).0 ∙ z))

pub pairs-unordered : {A : Type 0} {text rows rows₁ : List ℕ} {n others own i : ℕ} {w : WordAt} {t : Result ℕ Untaken} {r : Result A Refusal} → Next text i w → WordDone text rows n others own w rows₁ t → t ≡ Err NotInOrder
    → PairsFrom text rows n others own i rows₁ r
pairs-unordered {text = text} {rows} {rows₁} {n} {others} {own} {i} {w} {t} {r} h d z = go (eqb w.kind 94) refl
  where
    go : (b : Bool) → eqb w.kind 94 ≡ b → PairsFrom text rows n others own i rows₁ r
    go true e =
        let k = eqb-true w.kind 94 e in
        from-marks (marks-use h k) d.bound.index (ends-unordered {us = marks (words_at text w.next)} w (rw z at (d.caret k)))
    go false e = absurd (never-ok (sym (d.other (λ k. never (sym e ∙ eq-eqb w.kind 94 k))).0 ∙ z))

pub pairs-step : {A : Type 0} {text rows rows₁ rows' : List ℕ} {n others own own₁ i : ℕ} {w : WordAt} {t : Result ℕ Untaken} {r : Result A Refusal} → n ≤ 512 → Next text i w → 2 ≤ w.kind → (w.kind ≡ 266 → ⊥)
    → WordDone text rows n others own w rows₁ t → t ≡ Ok own₁ → PairsFrom text rows₁ n others own₁ w.next rows' r → PairsFrom text rows n others own i rows' r
pairs-step {text = text} {rows} {rows₁} {rows'} {n} {others} {own} {own₁} {i} {w} {t} {r} few h k m d z f = go (eqb w.kind 94) refl
  where
    go : (b : Bool) → eqb w.kind 94 ≡ b → PairsFrom text rows n others own i rows' r
    go true e =
        let q = eqb-true w.kind 94 e in
        from-marks (marks-use h q) (index-after d.bound.index f.index) (ends-use {us = marks (words_at text w.next)} w few (rw z at (d.caret q)) (record { ends = f.done }))
    go false e =
        let q : (w.kind ≡ 94 → ⊥) = λ y. never (sym e ∙ eq-eqb w.kind 94 y) in
        let o = d.other q in
        from-marks (marks-other h k m q) (index-after d.bound.index f.index) (ends_same few d.bound.index (same-own (sym z ∙ o.0)) o.1 (record { ends = f.done }))

-- The whole

none-stands : (ds : List Decl) (u : Use) → is_there ds [] u ≡ is_used u []
unfolding is_used look_pair
none-stands ds u = refl

none-held : (rows : List ℕ) → length rows ≡ 6017 → pairs_held (set rows 5632 0) ≡ []
unfolding pairs_held pairs_from
none-held rows size = ap (pairs_from (set rows 5632 0) 0) (get_or-set_same rows 5632 0 0 (omega (arith, size)))

pub pairs-none : {A : Type 0} {text rows : List ℕ} {n first at : ℕ} {r : Result A Refusal} → (n < first) ⊎ (128 < n - first) → PairsDone text rows n first at (set rows 5632 0) r
pairs-none {rows = rows} h = record {
  index = index-set rows 5632 0 (omega arith);
  done = λ p names ag en ws x e q few. λ or. absurd (go (length p.rules) q few h);
}
  where
    go : {n first : ℕ} (k : ℕ) → n ≡ first + k → k ≤ 128 → (n < first) ⊎ (128 < n - first) → ⊥
    go k q few (inl l) = omega (arith, q, l)
    go k q few (inr l) = omega (arith, q, l, few)

pub more-without : (rows : List ℕ) (i : ℕ) {v : ℕ} → NoSection rows i → v ≡ get_or rows (8 * i) 0 → (v ≡ 600 → ⊥) → NoSection rows (i + 1)
more-without rows i h e z = λ j l q. elim (dec_lt j i) [
  | yes y ↦ h j y q
  | no y ↦ let k : j ≡ i = omega arith in z (e ∙ ap (λ (m : ℕ). get_or rows (8 * m) 0) (sym k) ∙ q)
]

no_section : (text rows : List ℕ) {n : ℕ} → NoSection rows n → (u : Use) → Ordered (held text rows n) u → ⊥
unfolding decl_at
no_section text rows {n} none-there u o =
    let ds = held text rows n in
    let k = section_row ds u in
    let h = row-less text rows n 600 u.section.text k o.section in
    none-there k h (ap (λ (d : Decl). d.class) (sym (held_at text rows n k h)) ∙ (row_at 600 u.section.text k ds o.section).class)

-- a text without a section has no use in order, and so none at all
pub pairs-unused : {A : Type 0} {text rows : List ℕ} {n first at : ℕ} {a : A} → n ≤ 512 → length rows ≡ 6017 → NoSection (set rows 5632 0) n
    → PairsDone text rows n first at (set rows 5632 0) (Ok a)
unfolding pairs_of firsts made_for pairs_mean AllOrdered
pairs-unused {text = text} {rows} {n} {first} {at} {a} few size none-there = record { index = clear; done = done }
  where
    clear : IndexKept rows (set rows 5632 0)
    clear = index-set rows 5632 0 (omega arith)

    same-held : held text (set rows 5632 0) n ≡ held text rows n
    same-held = held-behind text n clear few

    no-use : (u : Use) → Ordered (held text rows n) u → ⊥
    no-use u o = no_section text (set rows 5632 0) none-there u (rw same-held o)

    done : (p : Program) (names : Names) → Agrees p names (known_rules 0 p.rules) (held text rows n) → EntriesAt text (held text rows n) (entries_of p)
        → (ws : List Word) → RulesIn (words_at text at) ws p.rules → (peek ws).kind ≡ 266 → n ≡ first + length p.rules → length p.rules ≤ 128
        → AllOrdered (held text rows n) (rules_uses p.rules)
        → PairsEnd (held text rows n) [] (set rows 5632 0) names (length p.rules) (pairs_of p.rules) (Ok a) (made_for names (known_rules 0 p.rules) first (length p.rules) (pairs_of p.rules))
    done p names ag en ws x e q l or = go (rules_uses p.rules) or
      where
        go : (us : List Use) → AllOrdered (held text rows n) us
            → PairsEnd (held text rows n) [] (set rows 5632 0) names (length p.rules) (firsts [] us) (Ok a) (made_for names (known_rules 0 p.rules) first (length p.rules) (firsts [] us))
        go [] o = paired refl (none-held rows size)
        go (u ∷ us) o = absurd (no-use u o.0)

pub pairs-whole : {A : Type 0} {text rows rows' : List ℕ} {n first at : ℕ} {r : Result A Refusal} → n ≤ 512 → length rows ≡ 6017 → PairsFrom text (set rows 5632 0) n first (n - first) at rows' r → PairsDone text rows n first at rows' r
unfolding pairs_of
pairs-whole {text = text} {rows} {rows'} {n} {first} {at} {r} few size f = record { index = index-after clear f.index; done = done }
  where
    clear : IndexKept rows (set rows 5632 0)
    clear = index-set rows 5632 0 (omega arith)

    same : held text (set rows 5632 0) n ≡ held text rows n
    same = held-behind text n clear few

    start : Stands (held text (set rows 5632 0) n) (pairs_held (set rows 5632 0)) []
    start = stands-as [] (none-held rows size) (λ u a. none-stands _ u)

    done : (p : Program) (names : Names) → Agrees p names (known_rules 0 p.rules) (held text rows n) → EntriesAt text (held text rows n) (entries_of p)
        → (ws : List Word) → RulesIn (words_at text at) ws p.rules → (peek ws).kind ≡ 266 → n ≡ first + length p.rules → length p.rules ≤ 128
        → AllOrdered (held text rows n) (rules_uses p.rules)
        → PairsEnd (held text rows n) [] rows' names (length p.rules) (pairs_of p.rules) r (made_for names (known_rules 0 p.rules) first (length p.rules) (pairs_of p.rules))
    done p names ag en ws x e q l or =
        let own : n - first ≡ length p.rules = omega (arith, q) in
        let us = marked x e in
        end-as (known_rules 0 p.rules) first same (none-held rows size) own
        (rw us at (f.done p names (known_rules 0 p.rules) (rw same ag) (rw same en) [] start (rw us (rules-named x)) (rw (us, same) or)))
