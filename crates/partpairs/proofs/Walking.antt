-- The walk over the words of a part's rules.
use mathlib.Core.Bool.{Bool, true, false}
use mathlib.Core.List.{List, [], ◌∷◌, ◌++◌, append_assoc, append-nil}
use mathlib.Core.Path.{◌≡◌, refl, sym, ap, ◌∙◌}
use Prim.Native.Nat.{ℕ, suc, ◌+◌, ◌<◌, ◌≤◌}
use native.Mathlib.Omega.{arith}
use borrow.Author.Tests.{eq-eqb, eqb-true}
use lib.Dec.{eqb}
use lib.ListN.{length, get_or, set}
use lib.Seq.{get_or-set_same}
use Rattle.base.specs.Bools.{never}
use Rattle.builder.specs.Parts.{ActsDone}
use Rattle.declarations.specs.Decls.{Agrees, Decl, EntriesAt, entries_of}
use Rattle.grammar.specs.Derived.{RulesIn}
use Rattle.maker.proofs.Marked.{marked}
use Rattle.maker.proofs.Named.{rules-named}
use Rattle.maker.proofs.Walking.{marks-end, marks-last, marks-use, marks-other, stands-more, stands-as, first-again, first-new}
use Rattle.maker.specs.Marks.{use_of, marks}
use Rattle.maker.specs.Pairing.{Stands, is_there, AllNamed}
use Rattle.maker.specs.Pairs.{Pair, pairs_from, pairs_held, look_pair, AllOrdered, pair_of}
use Rattle.names.specs.Known.{good, KnownRule, Names}
use Rattle.names.specs.Uses.{Use, is_used, rules_uses, firsts, pairs_of}
use Rattle.partpairs.proofs.Few.{pairs-few}
use Rattle.partpairs.proofs.Open.{opens-ordered, firsts-ordered, open-acts}
use Rattle.partpairs.proofs.Taking.{stands_at, goes_same}
use Rattle.partpairs.specs.Acts.{OpenActs}
use Rattle.partpairs.specs.Numbers.{numbered}
use Rattle.partpairs.specs.Pairing.{UseAt, UsesAt, count_of, Goes, Takes, again, added, full, UseDone, WordDone, PairsEnd, PairsFrom, Collected, PairsDone}
use Rattle.parts.specs.Objects.{open_rules, OpenRule, open_all, together}
use Rattle.resolver.specs.Resolved.{BuiltTold}
use Rattle.scanner.specs.Next.{Next, as_word}
use Rattle.scanner.specs.declared.WordAt.{WordAt}
use Rattle.symbols.proofs.Indexing.{index-after, index-set, held-behind}
use Rattle.symbols.specs.Index.{IndexKept}
use Rattle.symbols.specs.Rows.{held}
use Rattle.syntax.specs.Reading.{peek}
use Rattle.syntax.specs.Texts.{Common}
use Rattle.syntax.specs.Written.{Program, Rule}
use Rattle.words.specs.Words.{Word, words_at}

goes_after : {rows signs rows₁ signs₁ rows' signs' : List ℕ} → Goes rows signs rows₁ signs₁ → Goes rows₁ signs₁ rows' signs' → Goes rows signs rows' signs'
goes_after a b = record {
  index = index-after a.index b.index;
  few = b.few;
  more = omega (arith, a.more, b.more);
  size = b.size ∙ a.size;
  stay = λ j h. b.stay j (omega (arith, h, a.more)) ∙ a.stay j h;
}

-- what is promised of the uses us from here on
record Ends (text rows : List ℕ) (n own : ℕ) (rows' signs' : List ℕ) (us : List Use) : Type 0 where
  ends : (seen : List Use) → Stands (held text rows n) (pairs_held rows) seen → AllNamed us → AllOrdered (held text rows n) us → count_of rows + length (firsts seen us) ≤ 8192
      → PairsEnd text (held text rows n) own rows rows' signs' (firsts seen us)

from-marks : {text rows signs rows' signs' : List ℕ} {n own i : ℕ} {us : List Use} → marks (words_at text i) ≡ us → Goes rows signs rows' signs' → Ends text rows n own rows' signs' us
    → PairsFrom text rows signs n own i rows' signs'
from-marks e g f = record { goes = g; done = λ seen st. rw e (f.ends seen st) }

ends-none : {text rows : List ℕ} {n own : ℕ} {signs : List ℕ} → Ends text rows n own rows signs []
unfolding firsts numbered UsesAt
ends-none {rows = rows} = record { ends = λ seen st nm or fit. record { pairs = sym (append-nil (pairs_held rows)); count = omega arith; uses = tt } }

-- the same pairs stand there
end-as : {text : List ℕ} {ds ds₁ : List Decl} {own : ℕ} {rows rows₁ rows' signs' : List ℕ} {us : List Use} → ds₁ ≡ ds → pairs_held rows₁ ≡ pairs_held rows → count_of rows₁ ≡ count_of rows
    → PairsEnd text ds₁ own rows₁ rows' signs' us → PairsEnd text ds own rows rows' signs' us
end-as {text} {ds} {ds₁} {own} {rows} {rows₁} {rows'} {signs'} {us} a b c e = record {
  pairs = e.pairs ∙ pairs a b c;
  count = omega (arith, e.count, c);
  uses = rw c at e.uses;
}
  where
    pairs : {x y : List Decl} {v w : List Pair} {k l : ℕ} → x ≡ y → v ≡ w → k ≡ l → v ++ numbered x (own + k) us ≡ w ++ numbered y (own + l) us
    pairs p q r = rw (p, q, r) refl

-- a pair that was added stands before those found later
end_more : {text : List ℕ} {ds ds₁ : List Decl} {own : ℕ} {rows rows₁ rows' signs' : List ℕ} (u : Use) {us : List Use} → ds₁ ≡ ds
    → pairs_held rows₁ ≡ pairs_held rows ++ (pair_of ds (own + count_of rows) u ∷ []) → count_of rows₁ ≡ suc (count_of rows) → UseAt text (get_or signs' (count_of rows) 0) u
    → PairsEnd text ds₁ own rows₁ rows' signs' us → PairsEnd text ds own rows rows' signs' (u ∷ us)
unfolding numbered UsesAt
end_more {text} {ds} {ds₁} {own} {rows} {rows₁} {rows'} {signs'} u {us} a b c h e = record {
  pairs = e.pairs ∙ (pairs a b (omega (arith, c)) ∙ append_assoc (pairs_held rows) (pair_of ds (own + count_of rows) u ∷ []) (numbered ds (suc (own + count_of rows)) us));
  count = omega (arith, e.count, c);
  uses = (h, rw c at e.uses);
}
  where
    pairs : {x y : List Decl} {v w : List Pair} {k l : ℕ} → x ≡ y → v ≡ w → k ≡ l → v ++ numbered x k us ≡ w ++ numbered y l us
    pairs p q r = rw (p, q, r) refl

abbrev own-use : List ℕ → WordAt → Use
own-use text w = use_of (as_word text w) (words_at text w.next)

ends-use : {text rows signs rows₁ signs₁ rows' signs' : List ℕ} {n own i : ℕ} {w : WordAt} {us : List Use} → n ≤ 512 → i ≤ length text → Next text i w → w.kind ≡ 94
    → UseDone text rows signs n own i w.next rows₁ signs₁ true → Goes rows₁ signs₁ rows' signs' → Ends text rows₁ n own rows' signs' us → Ends text rows n own rows' signs' (own-use text w ∷ us)
unfolding AllNamed AllOrdered
ends-use {text} {rows} {signs} {rows₁} {signs₁} {rows'} {signs'} {n} {own} {i} {w} {us} few low h k d g f = record { ends = go }
  where
    u : Use
    u = own-use text w

    ds : List Decl
    ds = held text rows n

    same-held : held text rows₁ n ≡ ds
    same-held = held-behind text n d.goes.index few

    go : (seen : List Use) → Stands ds (pairs_held rows) seen → AllNamed (u ∷ us) → AllOrdered ds (u ∷ us) → count_of rows + length (firsts seen (u ∷ us)) ≤ 8192
        → PairsEnd text ds own rows rows' signs' (firsts seen (u ∷ us))
    go seen st nm or fit = by (d.takes (as_word text w) nm.0 or.0)
      where
        by : Takes ds own i rows signs rows₁ signs₁ u true → PairsEnd text ds own rows rows' signs' (firsts seen (u ∷ us))
        by (again e q c t) =
            let same : firsts seen (u ∷ us) ≡ firsts seen us = first-again u seen us (sym (st u or.0) ∙ t) in
            rw same (end-as same-held q c (f.ends seen (rw same-held (stands-as seen q st)) nm.1 (rw same-held or.1) (omega (arith, fit, ap length same, c))))
        by (added e q c s t) =
            let new : firsts seen (u ∷ us) ≡ u ∷ firsts (u ∷ seen) us = first-new u seen us (sym (st u or.0) ∙ t) in
            let place : i ≡ get_or signs' (count_of rows) 0 = sym (g.stay (count_of rows) (omega (arith, c)) ∙ s) in
            rw new (end_more u same-held q c (rw (← place) (stands_at text i low h k nm.0))
            (f.ends (u ∷ seen) (rw same-held (stands-as (u ∷ seen) q (stands-more (pairs_held rows) seen (own + count_of rows) u st or.0))) nm.1 (rw same-held or.1)
            (omega (arith, fit, ap length new, c))))
        by (full e l t) = never (sym e)

-- a use for which there is no room is one too many
ends-full : {text rows signs rows₁ signs₁ : List ℕ} {n own i : ℕ} (w : WordAt) {us : List Use} → UseDone text rows signs n own i w.next rows₁ signs₁ false
    → Ends text rows n own rows₁ signs₁ (own-use text w ∷ us)
unfolding AllNamed AllOrdered
ends-full {text} {rows} {signs} {rows₁} {signs₁} {n} {own} {i} w {us} d = record { ends = go }
  where
    u : Use
    u = own-use text w

    ds : List Decl
    ds = held text rows n

    go : (seen : List Use) → Stands ds (pairs_held rows) seen → AllNamed (u ∷ us) → AllOrdered ds (u ∷ us) → count_of rows + length (firsts seen (u ∷ us)) ≤ 8192
        → PairsEnd text ds own rows rows₁ signs₁ (firsts seen (u ∷ us))
    go seen st nm or fit = by (d.takes (as_word text w) nm.0 or.0)
      where
        by : Takes ds own i rows signs rows₁ signs₁ u false → PairsEnd text ds own rows rows₁ signs₁ (firsts seen (u ∷ us))
        by (again e q c t) = never e
        by (added e q c s t) = never e
        by (full e l t) =
            let new : firsts seen (u ∷ us) ≡ u ∷ firsts (u ∷ seen) us = first-new u seen us (sym (st u or.0) ∙ t) in
            absurd (omega (arith, fit, ap length new, l))

-- The loop

pub pairs-stop : {text rows signs : List ℕ} {n own i : ℕ} {w : WordAt} → count_of rows ≤ 8192 → Next text i w → w.kind < 2 → PairsFrom text rows signs n own i rows signs
pairs-stop few h k = from-marks (marks-end h k) (goes_same few) ends-none

pub pairs-last : {text rows signs : List ℕ} {n own i : ℕ} {w : WordAt} → count_of rows ≤ 8192 → Next text i w → w.kind ≡ 266 → PairsFrom text rows signs n own i rows signs
pairs-last few h k = from-marks (marks-last h k) (goes_same few) ends-none

pub pairs-full : {text rows signs rows₁ signs₁ : List ℕ} {n own i : ℕ} {w : WordAt} {r : Bool} → Next text i w → WordDone text rows signs n own i w rows₁ signs₁ r → r ≡ false
    → PairsFrom text rows signs n own i rows₁ signs₁
pairs-full {text} {rows} {signs} {rows₁} {signs₁} {n} {own} {i} {w} {r} h d z = go (eqb w.kind 94) refl
  where
    go : (b : Bool) → eqb w.kind 94 ≡ b → PairsFrom text rows signs n own i rows₁ signs₁
    go true e =
        let k = eqb-true w.kind 94 e in
        from-marks (marks-use h k) d.goes (ends-full {i = i} w {us = marks (words_at text w.next)} (rw z at (d.caret k)))
    go false e = never (sym z ∙ (d.other (λ k. never (sym e ∙ eq-eqb w.kind 94 k))).0)

pub pairs-step : {text rows signs rows₁ signs₁ rows' signs' : List ℕ} {n own i : ℕ} {w : WordAt} {r : Bool} → n ≤ 512 → i ≤ length text → Next text i w → 2 ≤ w.kind → (w.kind ≡ 266 → ⊥)
    → WordDone text rows signs n own i w rows₁ signs₁ r → r ≡ true → PairsFrom text rows₁ signs₁ n own w.next rows' signs' → PairsFrom text rows signs n own i rows' signs'
pairs-step {text} {rows} {signs} {rows₁} {signs₁} {rows'} {signs'} {n} {own} {i} {w} {r} few low h k m d z f = go (eqb w.kind 94) refl
  where
    go : (b : Bool) → eqb w.kind 94 ≡ b → PairsFrom text rows signs n own i rows' signs'
    go true e =
        let q = eqb-true w.kind 94 e in
        from-marks (marks-use h q) (goes_after d.goes f.goes)
        (ends-use {signs = signs} {signs₁ = signs₁} {i = i} {us = marks (words_at text w.next)} few low h q (rw z at (d.caret q)) f.goes (record { ends = f.done }))
    go false e =
        let q : (w.kind ≡ 94 → ⊥) = λ y. never (sym e ∙ eq-eqb w.kind 94 y) in
        from-marks (marks-other h k m q) (goes_after d.goes f.goes) (as_before (d.other q).1 (record { ends = f.done }))
      where
        as_before : {us : List Use} → rows₁ ≡ rows → Ends text rows₁ n own rows' signs' us → Ends text rows n own rows' signs' us
        as_before e x = rw e at x

-- The whole

none-held : (rows : List ℕ) → 5632 < length rows → pairs_held (set rows 5632 0) ≡ []
unfolding pairs_held pairs_from
none-held rows room = ap (pairs_from (set rows 5632 0) 0) (get_or-set_same rows 5632 0 0 room)

none-stands : (ds : List Decl) (u : Use) → is_there ds [] u ≡ is_used u []
unfolding is_used look_pair
none-stands ds u = refl

pub pairs-whole : {text rows signs rows' signs' : List ℕ} {n own at r : ℕ} → n ≤ 512 → 5632 < length rows → length text ≤ at + 32768 → PairsFrom text (set rows 5632 0) signs n own at rows' signs'
    → r ≡ count_of rows' → PairsDone text rows signs n own at rows' signs' r
unfolding pairs_of
pairs-whole {text} {rows} {signs} {rows'} {signs'} {n} {own} {at} {r} few room size f er = record {
  index = whole;
  size = f.goes.size;
  few = omega (arith, er, f.goes.few);
  done = λ rs ws x e or.
      let h = ends rs ws x e or in
      record {
        numbers = record { pairs = rw same_after (h.pairs ∙ start-pairs rs); ordered = rw same_after (firsts-ordered (held text rows n) [] (rules_uses rs) or) };
        count = omega (arith, er, h.count, none_yet);
        uses = rw none_yet at h.uses;
      };
}
  where
    rows₀ : List ℕ
    rows₀ = set rows 5632 0

    clear : IndexKept rows rows₀
    clear = index-set rows 5632 0 (omega arith)

    whole : IndexKept rows rows'
    whole = index-after clear f.goes.index

    same-held : held text rows₀ n ≡ held text rows n
    same-held = held-behind text n clear few

    same_after : held text rows' n ≡ held text rows n
    same_after = held-behind text n whole few

    none_yet : count_of rows₀ ≡ 0
    none_yet = get_or-set_same rows 5632 0 0 room

    start : Stands (held text rows₀ n) (pairs_held rows₀) []
    start = stands-as [] (none-held rows room) (λ u a. none-stands _ u)

    start-pairs : (rs : List Rule) → pairs_held rows₀ ++ numbered (held text rows n) (own + count_of rows₀) (pairs_of rs) ≡ numbered (held text rows n) own (pairs_of rs)
    start-pairs rs =
        let e : own + count_of rows₀ ≡ own = omega (arith, none_yet) in
        ap (λ (v : List Pair). v ++ numbered (held text rows n) (own + count_of rows₀) (pairs_of rs)) (none-held rows room) ∙ ap (λ (k : ℕ). numbered (held text rows n) k (pairs_of rs)) e

    ends : (rs : List Rule) (ws : List Word) → RulesIn (words_at text at) ws rs → (peek ws).kind ≡ 266 → AllOrdered (held text rows n) (rules_uses rs)
        → PairsEnd text (held text rows n) own rows₀ rows' signs' (pairs_of rs)
    ends rs ws x e or =
        let us = marked x e in
        let all = pairs-few text at size x in
        end-as same-held refl refl (rw us at (f.done [] start (rw us (rules-named x)) (rw (us, same-held) or) (rw us (omega (arith, all, none_yet)))))

-- the pairs of a part whose rules mean something
pub pairs-open : {p : Program} {names : Names} {ks : List KnownRule} {text rows signs rows' signs' : List ℕ} {n own at r : ℕ} → PairsDone text rows signs n own at rows' signs' r
    → Agrees p names ks (held text rows n) → (seen : List (List ℕ)) {rs : List Rule} {ws : List Word} {os : List OpenRule} → RulesIn (words_at text at) ws rs → (peek ws).kind ≡ 266
    → open_all p names ks seen rs ≡ good os → Collected text rows' signs' n own (pairs_of rs) r
pairs-open d ag seen {rs} {ws} {os} x e g = d.done rs ws x e (opens-ordered ag seen rs os g)

-- actions that are resolved by the rows with the pairs, which hold the declarations as they were
pub acts-after : (c : Common) {names : Names} (rs : List Rule) {text rows signs rows' signs' : List ℕ} {n own at₀ k at : ℕ} {inside : Bool} {class : ℕ} {before some : Bool} {cs : List ℕ} {count : ℕ}
    {cs' : List ℕ} {r : BuiltTold} → n ≤ 512 → PairsDone text rows signs n own at₀ rows' signs' k
    → Agrees (together c rs) names (open_rules c.listed rs) (held text rows n) → EntriesAt text (held text rows n) (entries_of (together c rs))
    → ActsDone text rows' n at inside class before some cs count cs' r → OpenActs c names rs text rows' n at inside class before some cs count cs' r
acts-after c rs {text} {rows} {rows' = rows'} {n = n} few d ag en a =
    let same : held text rows' n ≡ held text rows n = held-behind text n d.index few in
    open-acts c rs (rw same ag) (rw same en) a
