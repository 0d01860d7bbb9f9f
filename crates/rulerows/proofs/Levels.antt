-- The rows of a pair's levels, one after the other.
use mathlib.Core.Bool.{Bool}
use mathlib.Core.List.{List, [], ◌∷◌}
use mathlib.Core.Path.{◌≡◌, refl, sym, ap, ◌∙◌, subst}
use Prim.Native.Nat.{ℕ, suc, ◌+◌, ◌-◌, ◌%◌, ◌<◌, ◌≤◌}
use native.Mathlib.Nat.{add-zero}
use native.Mathlib.Omega.{arith}
use borrow.Author.Tests.{ne_eqb}
use lib.ListN.{length, get_or}
use Rattle.carry.proofs.Naming.{level-of}
use Rattle.carry.specs.Carry.{made, level_of, level_names}
use Rattle.declarations.specs.Decls.{Decl, operators_from}
use Rattle.grammar.specs.Derived.{OperatorsIn}
use Rattle.levels.proofs.Making.{RestIs}
use Rattle.maker.proofs.Ranking.{rank_is}
use Rattle.maker.specs.Ranks.{no_rank, RankDone}
use Rattle.maker.specs.declared.Rank.{Rank}
use Rattle.names.specs.Uses.{Use}
use Rattle.program.specs.Made.{Operator, Level, at_level, level_and, levels_from, levels_of}
use Rattle.rulerows.proofs.Laws.{name_by, RowPut, puts_none, puts_then, puts-row}
use Rattle.rulerows.specs.Filled.{Puts, Named, LevelsPut}
use Rattle.rulerows.specs.declared.Pair.{Pair}
use Rattle.rulerows.specs.declared.Row.{Row}
use Rattle.syntax.specs.Written as written
use Rattle.words.specs.Words.{Word, words_at}

-- the levels that are left
abbrev rest : Rank → List Operator → List Level
rest l ops = levels_from (16 - l.level) l.level ops

-- a level that is there has its number: that of each of its operators
level-is : (n : ℕ) (ops : List Operator) (right : Bool) → n < 16 → levels_from (16 - n) n ops ≡ record { right = right; operators = at_level n ops } ∷ levels_from (15 - n) (suc n) ops → level_of (at_level n ops) ≡ n
unfolding levels_from level_and level_of
level-is n ops right h e = go (at_level n ops) refl (ap (λ (k : ℕ). levels_from k n ops) (sym many) ∙ e)
  where
    many : 16 - n ≡ suc (15 - n)
    many = omega (arith, h)

    go : (os : List Operator) → at_level n ops ≡ os → level_and (at_level n ops) (levels_from (15 - n) (suc n) ops) ≡ record { right = right; operators = at_level n ops } ∷ levels_from (15 - n) (suc n) ops
        → level_of (at_level n ops) ≡ n
    go [] q f =
        let x : length (levels_from (15 - n) (suc n) ops) ≡ suc (length (levels_from (15 - n) (suc n) ops)) =
        ap (λ (os : List Operator). length (level_and os (levels_from (15 - n) (suc n) ops))) (sym q) ∙ ap (λ (ls : List Level). length ls) f in
        absurd (omega (arith, x))
    go (o ∷ os) q f = ap level_of q ∙ level-of n ops o os q

-- how far the rows of a pair are put
pub record Going (text : List ℕ) (q : Pair) (places : List ℕ) (k : ℕ) (sheet : List ℕ) (i : ℕ) (l : Rank) (now : List ℕ) : Type 0 where
  pub sum : (ds : List Decl) (os : List written.Operator) (ws' : List Word) → OperatorsIn (words_at text q.at) ws' os → i + length (rest l (operators_from ds os)) ≡ k + length (levels_of (operators_from ds os))
  pub before : (ds : List Decl) (os : List written.Operator) (ws' : List Word) → OperatorsIn (words_at text q.at) ws' os → (u : Use) → Named text q u → (sheet' : List ℕ)
      → Puts text places now sheet' i (level_names u (rest l (operators_from ds os))) → Puts text places sheet sheet' k (level_names u (levels_of (operators_from ds os)))

pub going-first : {text : List ℕ} {q : Pair} {places : List ℕ} {k : ℕ} {sheet : List ℕ} {l : Rank} → RankDone text q.at 0 no_rank l → Going text q places k sheet k l sheet
unfolding levels_of
going-first {text} {q} {places} {k} {sheet} {l} d = record {
  sum = λ ds os ws' x. ap (λ (v : List Level). k + length v) (sym (all ds os ws' x));
  before = λ ds os ws' x u n sheet' f. subst (λ v. Puts text places sheet sheet' k (level_names u v)) (sym (all ds os ws' x)) f;
}
  where
    all : (ds : List Decl) (os : List written.Operator) (ws' : List Word) → OperatorsIn (words_at text q.at) ws' os → levels_from 15 1 (operators_from ds os) ≡ rest l (operators_from ds os)
    all ds os ws' x = let k : 15 ≡ 15 - 0 = omega arith in ap (λ (i : ℕ). levels_from i 1 (operators_from ds os)) k ∙ (rank_is ds os ws' d (omega arith) x).levels

-- the name that a row of the pair has
row_named : {text : List ℕ} {q : Pair} (u : Use) {n : ℕ} → 0 < n → Named text q u → name_by text q.start q.len q.operand q.size n ≡ made u.section.text u.operand.text n
row_named {text} {q} u {n} h e =
    let z = ne_eqb n 0 (λ y. omega (arith, y, h)) in
    let a = sym e.section in
    let b = sym e.operand in
    rw z (λ j. made (a j) (b j) n)

pub going_more : {text : List ℕ} {q : Pair} {places : List ℕ} {k : ℕ} {sheet : List ℕ} {i : ℕ} {l m : Rank} {now next : List ℕ} {r : Row} → 0 < l.level → l.level < 16 → RestIs text q.at l → RankDone text q.at l.level no_rank m
    → RowPut now next i r → r.location ≡ get_or places i 0 % 65536 → name_by text r.start r.len r.operand r.size r.level ≡ name_by text q.start q.len q.operand q.size l.level
    → Going text q places k sheet i l now → Going text q places k sheet (i + 1) m next
unfolding level_names
going_more {text} {q} {places} {k} {sheet} {i} {l} {m} {now} {next} {r} low lev here d put loc same g = record { sum = sum; before = before }
  where
    whole : (ds : List Decl) (os : List written.Operator) (ws' : List Word) → OperatorsIn (words_at text q.at) ws' os
        → rest l (operators_from ds os) ≡ record { right = l.right; operators = at_level l.level (operators_from ds os) } ∷ rest m (operators_from ds os)
    whole ds os ws' x =
        here.here ds os ws' x lev
        ∙ ap {B = List Level} (λ (v : List Level). record { right = l.right; operators = at_level l.level (operators_from ds os) } ∷ v) (rank_is ds os ws' d (omega (arith, lev)) x).levels

    sum : (ds : List Decl) (os : List written.Operator) (ws' : List Word) → OperatorsIn (words_at text q.at) ws' os → (i + 1) + length (rest m (operators_from ds os)) ≡ k + length (levels_of (operators_from ds os))
    sum ds os ws' x = omega (arith, g.sum ds os ws' x, ap (λ (v : List Level). length v) (whole ds os ws' x))

    before : (ds : List Decl) (os : List written.Operator) (ws' : List Word) → OperatorsIn (words_at text q.at) ws' os → (u : Use) → Named text q u → (sheet' : List ℕ)
        → Puts text places next sheet' (i + 1) (level_names u (rest m (operators_from ds os))) → Puts text places sheet sheet' k (level_names u (levels_of (operators_from ds os)))
    before ds os ws' x u n sheet' f =
        let ops = operators_from ds os in
        let v : level_of (at_level l.level ops) ≡ l.level = level-is l.level ops l.right lev (here.here ds os ws' x lev) in
        let name = same ∙ row_named u low n ∙ ap (λ (j : ℕ). made u.section.text u.operand.text j) (sym v) in
        let both : Puts text places now sheet' i (made u.section.text u.operand.text (level_of (at_level l.level ops)) ∷ level_names u (rest m ops)) =
        puts_then (puts-row put loc name) f refl in
        g.before ds os ws' x u n sheet' (subst (λ w. Puts text places now sheet' i (level_names u w)) (sym (whole ds os ws' x)) both)

pub levels-put : {text : List ℕ} {q : Pair} {places : List ℕ} {k rules : ℕ} {sheet : List ℕ} {i : ℕ} {l : Rank} {now : List ℕ} → i ≤ rules → l.level ≡ 16 → Going text q places k sheet i l now
    → LevelsPut text q places k rules sheet now i
unfolding levels_from level_names
levels-put {text} {q} {places} {i = i} {l} {now} low e g = record {
  low = low;
  ends = λ ds os ws' x few. sym (sym (g.sum ds os ws' x) ∙ ap (λ (v : List Level). i + length v) (none (operators_from ds os)) ∙ add-zero i);
  puts = λ ds os ws' x few u n. g.before ds os ws' x u n now (subst (λ v. Puts text places now now i (level_names u v)) (sym (none (operators_from ds os))) puts_none);
}
  where
    none : (ops : List Operator) → rest l ops ≡ []
    none ops = ap (λ (n : ℕ). levels_from (16 - n) n ops) e

-- more levels than there are rules: no text that was read has them
pub levels-full : {text : List ℕ} {q : Pair} {places : List ℕ} {k rules : ℕ} {sheet : List ℕ} {i : ℕ} {l : Rank} {now : List ℕ} → i ≤ rules → rules ≤ i → l.level < 16 → RestIs text q.at l
    → Going text q places k sheet i l now → LevelsPut text q places k rules sheet now i
levels-full {text} {q} {places} {k} {rules} {i = i} {l} low full h r g = record {
  low = low;
  ends = λ ds os ws' x few. absurd (never ds os ws' x few);
  puts = λ ds os ws' x few u n. absurd (never ds os ws' x few);
}
  where
    never : (ds : List Decl) (os : List written.Operator) (ws' : List Word) → OperatorsIn (words_at text q.at) ws' os → k + length (levels_of (operators_from ds os)) ≤ rules → ⊥
    never ds os ws' x few = omega (arith, full, few, g.sum ds os ws' x, ap (λ (v : List Level). length v) (r.here ds os ws' x h))
