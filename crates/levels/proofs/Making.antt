-- Rules made one after the other: a rule and those behind it, the levels of a pair, the pairs.
use mathlib.Core.Bool.{Bool, true, false}
use mathlib.Core.List.{List, [], ◌∷◌, ◌++◌}
use mathlib.Core.Option.{none, some}
use mathlib.Core.Path.{◌≡◌, refl, sym, ap, ◌∙◌}
use Prim.Native.Nat.{ℕ, zero, suc, ◌+◌, ◌*◌, ◌-◌, ◌%◌, ◌<◌, ◌≤◌}
use native.Mathlib.Nat.{add-zero, mod-eq_of_lt}
use native.Mathlib.Omega.{arith}
use borrow.Author.Tests.{ltb-false}
use lib.Dec.{ltb}
use lib.ListN.{length, get_or, set}
use lib.Seq.{get_or-set_same, get_or-set_other}
use Rattle.base.proofs.Laws.{neither}
use Rattle.cells.specs.Cells.{acts_cells, rules_cells, cells_start}
use Rattle.declarations.specs.Decls.{Agrees, Decl, EntriesAt, entries_of, decl_of, index_of, mapped, rule_from, operators_from}
use Rattle.grammar.specs.Derived.{OperatorsIn}
use Rattle.levels.proofs.CellsAre.{level-are, rule-cells}
use Rattle.levels.specs.LevelCells.{level_cells}
use Rattle.levels.specs.Making.{LevelPut, MadeEnd, SiteDone, SiteOf, MakeFrom, MakeDone}
use Rattle.levels.specs.declared.Made.{Made}
use Rattle.levels.specs.declared.Site.{Site}
use Rattle.maker.proofs.Ranking.{RankIs, rank_is}
use Rattle.maker.proofs.Taking.{row_at, row-less, levels-used}
use Rattle.maker.specs.Pairing.{PlaceOf, passes}
use Rattle.maker.specs.Pairs.{Pair, pair_at, pairs_from, pairs_held, section_row, operand_row, Ordered, AllOrdered, pair_of, pairs_mean}
use Rattle.maker.specs.Ranks.{no_rank, rank_or, RankBound, RankDone}
use Rattle.maker.specs.declared.Rank.{Rank}
use Rattle.std.specs.Prelude.{Option, Some, None, MatchOption, IfSome}
use Rattle.names.specs.Declare.{known_rules}
use Rattle.names.specs.Known.{Checked, good, wrong, ◌>>=◌, fault_if, KnownRule, Names}
use Rattle.names.specs.Uses.{Use, pairs_of, levels_used, operand_of, made_for}
use Rattle.program.specs.Made.{Operator, Level, at_level, levels_from, levels_of, level_rule, higher_of, level_rules, crowded}
use Rattle.program.specs.Program.{Rule}
use Rattle.resolver.proofs.Appending.{appends-length, appends-none, appends-then}
use Rattle.resolver.specs.Resolved.{Appends}
use Rattle.symbols.proofs.Searches.{held_at}
use Rattle.symbols.specs.Rows.{decl_at, held}
use Rattle.syntax.specs.Written as written
use Rattle.syntax.specs.Written.{Program}
use Rattle.words.specs.Words.{Word, words_at}

-- One rule and those behind it

pub made_none : (own : ℕ) (cs : List ℕ) (c : ℕ) (starts sorts : List ℕ) → c ≤ length cs + 1 → MadeEnd own cs c cs starts sorts starts sorts (record { count = c; rules = own }) []
unfolding rules_cells
made_none own cs c starts sorts h = record {
  rules = sym (add-zero own);
  cells = appends-none cs c (omega (arith, h));
  sorts_kept = λ j _. refl;
  starts_kept = λ j _. refl;
  sorted = λ j q. absurd (omega (arith, q));
  begins = λ _ j q. absurd (omega (arith, q));
}

made-cons : {own : ℕ} {cs : List ℕ} {c : ℕ} {cs₁ : List ℕ} {c₁ : ℕ} {cs' starts sorts starts' sorts' : List ℕ} {r : Made} {ms : List Rule} (m : Rule) (xs : List ℕ) → length cs ≤ 60000 → own < length starts → own < length sorts
    → rules_cells (m ∷ ms) ≡ xs ++ rules_cells ms → length xs ≡ length (acts_cells m.body []) → Appends cs c xs cs₁ c₁
    → MadeEnd (own + 1) cs₁ c₁ cs' (set starts own (c % 65536)) (set sorts own 0) starts' sorts' r ms → MadeEnd own cs c cs' starts sorts starts' sorts' r (m ∷ ms)
unfolding cells_start
made-cons {own} {cs} {c} {cs₁} {c₁} {cs'} {starts} {sorts} {starts'} {sorts'} {r} {ms} m xs big i j e l app f = record {
  rules = omega (arith, f.rules);
  cells = rw e (appends-then app f.cells);
  sorts_kept = λ x h. f.sorts_kept x (omega (arith, h)) ∙ get_or-set_other sorts own x 0 0 (λ t. omega (arith, h, t));
  starts_kept = λ x h. f.starts_kept x (omega (arith, h)) ∙ get_or-set_other starts own x (c % 65536) 0 (λ t. omega (arith, h, t));
  sorted = sorted;
  begins = begins;
}
  where
    suc-is : (x : ℕ) → own + suc x ≡ (own + 1) + x
    suc-is x = omega arith

    sorted : (x : ℕ) → x < suc (length ms) → get_or sorts' (own + x) 0 ≡ 0
    sorted zero h = ap (λ t. get_or sorts' t 0) (add-zero own) ∙ (f.sorts_kept own (omega arith) ∙ get_or-set_same sorts own 0 0 j)
    sorted (suc x) h = ap (λ t. get_or sorts' t 0) (suc-is x) ∙ f.sorted x (omega (arith, h))

    begins : r.count ≤ length cs → (x : ℕ) → x < suc (length ms) → get_or starts' (own + x) 0 ≡ cells_start c (m ∷ ms) x
    begins fits zero h =
        let low : c < 65536 = omega (arith, fits, big, app.count, f.cells.count, appends-length app) in
        ap (λ t. get_or starts' t 0) (add-zero own) ∙ (f.starts_kept own (omega arith) ∙ (get_or-set_same starts own (c % 65536) 0 i ∙ mod-eq_of_lt low))
    begins fits (suc x) h =
        let same : c₁ ≡ c + length (acts_cells m.body []) = omega (arith, fits, app.count, f.cells.count, appends-length app, l) in
        ap (λ t. get_or starts' t 0) (suc-is x) ∙ (f.begins (omega (arith, fits, appends-length app)) x (omega (arith, h)) ∙ ap (λ t. cells_start t ms x) same)

-- the rule of a level
made-level : {own : ℕ} {cs : List ℕ} {c : ℕ} {cs₁ : List ℕ} {c₁ : ℕ} {cs' starts sorts starts' sorts' : List ℕ} {r : Made} {ms : List Rule} (l : Level) (h : ℕ) → length cs ≤ 60000 → own < length starts → own < length sorts
    → Appends cs c (level_cells l.right own h l.operators []) cs₁ c₁
    → MadeEnd (own + 1) cs₁ c₁ cs' (set starts own (c % 65536)) (set sorts own 0) starts' sorts' r ms → MadeEnd own cs c cs' starts sorts starts' sorts' r (level_rule l own h ∷ ms)
unfolding level_rule
made-level {own} {ms = ms} l h big i j app f =
    made-cons (level_rule l own h) (level_cells l.right own h l.operators []) big i j (rule-cells l own h ms) (ap length (sym (level-are l.right own h l.operators []))) app f

-- The levels of a pair

abbrev rest : Rank → List Operator → List Level
rest l ops = levels_from (16 - l.level) l.level ops

-- what the rank says of the levels that are left
pub record RestIs (text : List ℕ) (at : ℕ) (l : Rank) : Type 0 where
  pub here : (ds : List Decl) (os : List written.Operator) (ws' : List Word) → OperatorsIn (words_at text at) ws' os → l.level < 16
      → rest l (operators_from ds os) ≡ record { right = l.right; operators = at_level l.level (operators_from ds os) } ∷ levels_from (15 - l.level) (suc l.level) (operators_from ds os)

pub rest-is : {text : List ℕ} {at above : ℕ} {l : Rank} → above ≤ 15 → RankDone text at above no_rank l → RestIs text at l
rest-is h d = record { here = λ ds os ws' x. (rank_is ds os ws' d h x).here }

-- how far the rules of a pair are made
pub record Progress (first operand : ℕ) (ops : List Operator) (cs : List ℕ) (c : ℕ) (starts sorts : List ℕ) (own : ℕ) (l : Rank) (cs₁ : List ℕ) (c₁ : ℕ) (starts₁ sorts₁ : List ℕ) : Type 0 where
  pub sum : own + length (rest l ops) ≡ first + length (levels_of ops)
  pub before : (cs' starts' sorts' : List ℕ) (s : Made) (more : List Rule) → MadeEnd own cs₁ c₁ cs' starts₁ sorts₁ starts' sorts' s (level_rules own operand (rest l ops) ++ more)
      → MadeEnd first cs c cs' starts sorts starts' sorts' s (level_rules first operand (levels_of ops) ++ more)

pub record Going (text rows : List ℕ) (n : ℕ) (q : Site) (cs : List ℕ) (c : ℕ) (starts sorts : List ℕ) (own : ℕ) (l : Rank) (cs₁ : List ℕ) (c₁ : ℕ) (starts₁ sorts₁ : List ℕ) : Type 0 where
  pub going : (os : List written.Operator) (ws' : List Word) → OperatorsIn (words_at text q.at) ws' os → q.own + length (levels_of (operators_from (held text rows n) os)) ≤ 128
      → Progress q.own q.operand (operators_from (held text rows n) os) cs c starts sorts own l cs₁ c₁ starts₁ sorts₁

pub going-first : {text rows : List ℕ} {n : ℕ} {q : Site} {cs : List ℕ} {c : ℕ} {starts sorts : List ℕ} {l : Rank} → RankDone text q.at 0 no_rank l → Going text rows n q cs c starts sorts q.own l cs c starts sorts
unfolding levels_of
going-first {text} {rows} {n} {q} {cs} {c} {starts} {sorts} {l} d = record {
  going = λ os ws' x few.
      let ops = operators_from (held text rows n) os in
      let k : 15 ≡ 15 - 0 = omega arith in
      let e : levels_of ops ≡ rest l ops = ap (λ (i : ℕ). levels_from i 1 ops) k ∙ (rank_is (held text rows n) os ws' d (omega arith) x).levels in
      record { sum = ap (λ (v : List Level). q.own + length v) (sym e); before = λ cs' starts' sorts' s more f. rw e f };
}

-- the rule above
higher-is : (own operand h : ℕ) (m : Option Rank) (ops : List Operator) (ls : List Level) → ls ≡ rest (rank_or m) ops
    → ((rank_or m).level < 16 → rest (rank_or m) ops ≡ record { right = (rank_or m).right; operators = at_level (rank_or m).level ops } ∷ levels_from (15 - (rank_or m).level) (suc (rank_or m).level) ops)
    → IfSome m (λ s. s.level ≤ 15) → MatchOption m (h ≡ operand) (λ _. h ≡ own + 1) → higher_of own operand ls ≡ h
unfolding higher_of levels_from no_rank
higher-is own operand h (Some m) ops ls e here b f =
    let y : suc own ≡ h = omega (arith, f) in
    ap (higher_of own operand) (e ∙ here (omega (arith, b))) ∙ y
higher-is own operand h None ops ls e here b f = ap (higher_of own operand) e ∙ sym f

low-bound : (above : ℕ) (m : Option Rank) → RankBound above m → IfSome m (λ s. s.level ≤ 15)
low-bound above None b = tt
low-bound above (Some m) b = b.1

pub higher-low : (m : Option Rank) {own operand h : ℕ} → MatchOption m (h ≡ operand) (λ _. h ≡ own + 1) → own < 128 → operand < 65536 → h < 65536
higher-low None f p q = omega (arith, f, q)
higher-low (Some m) f p q = omega (arith, f, p)

pub going_more : {text rows : List ℕ} {n : ℕ} {q : Site} {cs : List ℕ} {c : ℕ} {starts sorts : List ℕ} {own : ℕ} {l : Rank} (m : Option Rank) {cs₁ : List ℕ} {c₁ : ℕ} {starts₁ sorts₁ starts₂ sorts₂ cs₂ : List ℕ} {c₂ h : ℕ}
    → length cs₁ ≤ 60000 → length starts₁ ≡ 128 → length sorts₁ ≡ 128 → own < 128 → l.level < 16 → RankBound l.level m → RestIs text q.at l → RankDone text q.at l.level no_rank (rank_or m)
    → MatchOption m (h ≡ q.operand) (λ _. h ≡ own + 1) → starts₂ ≡ set starts₁ own (c₁ % 65536) → sorts₂ ≡ set sorts₁ own 0
    → LevelPut text rows n (record { at = q.at; level = l.level; right = l.right; own = own; higher = h }) cs₁ c₁ cs₂ c₂ → Going text rows n q cs c starts sorts own l cs₁ c₁ starts₁ sorts₁
    → Going text rows n q cs c starts sorts (own + 1) (rank_or m) cs₂ c₂ starts₂ sorts₂
unfolding level_rules
going_more {text} {rows} {n} {q} {cs} {c} {starts} {sorts} {own} {l} m {cs₁} {c₁} {starts₁} {sorts₁} {starts₂} {sorts₂} {cs₂} {c₂} {h} big ls ss low lev bound r d a es eo put g = record { going = go }
  where
    go : (os : List written.Operator) (ws' : List Word) → OperatorsIn (words_at text q.at) ws' os → q.own + length (levels_of (operators_from (held text rows n) os)) ≤ 128
        → Progress q.own q.operand (operators_from (held text rows n) os) cs c starts sorts (own + 1) (rank_or m) cs₂ c₂ starts₂ sorts₂
    go os ws' x few = record {
      sum = omega (arith, p.sum, ap length whole);
      before = λ cs' starts' sorts' s more f.
          p.before cs' starts' sorts' s more
          (rw (whole, above, next) (made-level (record { right = l.right; operators = at_level l.level ops }) h big (omega (arith, ls, low)) (omega (arith, ss, low)) (put.done os ws' x) (rw (← es, ← eo) f)));
    }
      where
        ops : List Operator
        ops = operators_from (held text rows n) os

        p : Progress q.own q.operand ops cs c starts sorts own l cs₁ c₁ starts₁ sorts₁
        p = g.going os ws' x few

        i : RankIs ops l.level (rank_or m)
        i = rank_is (held text rows n) os ws' d (omega (arith, lev)) x

        whole : rest l ops ≡ record { right = l.right; operators = at_level l.level ops } ∷ rest (rank_or m) ops
        whole = r.here (held text rows n) os ws' x lev ∙ ap {B = List Level} (λ (v : List Level). record { right = l.right; operators = at_level l.level ops } ∷ v) i.levels

        above : higher_of own q.operand (rest (rank_or m) ops) ≡ h
        above = higher-is own q.operand h m ops (rest (rank_or m) ops) refl i.here (low-bound _ m bound) a

        next : suc own ≡ own + 1
        next = omega arith

pub site-made : {text rows : List ℕ} {n : ℕ} {q : Site} {cs : List ℕ} {c : ℕ} {starts sorts : List ℕ} {own : ℕ} {l : Rank} {cs₁ : List ℕ} {c₁ : ℕ} {starts₁ sorts₁ : List ℕ}
    → length cs₁ ≡ length cs → c₁ ≤ length cs₁ + 1 → own < 65536 → l.level ≡ 16 → Going text rows n q cs c starts sorts own l cs₁ c₁ starts₁ sorts₁
    → SiteDone text rows n q cs c starts sorts cs₁ starts₁ sorts₁ (record { count = c₁; rules = own })
unfolding levels_from level_rules
site-made {text} {rows} {n} {q} {own = own} {l} same bound low e g = record {
  same = same;
  bound = omega (arith, same, bound);
  low = low;
  rules = λ os ws' x few. sym (sym (g.going os ws' x few).sum ∙ (ap (λ (v : List Level). own + length v) (none (operators_from (held text rows n) os)) ∙ add-zero own));
  made = λ os ws' x few cs' starts' sorts' s more f. (g.going os ws' x few).before cs' starts' sorts' s more (rw (none (operators_from (held text rows n) os)) f);
}
  where
    none : (ops : List Operator) → rest l ops ≡ []
    none ops = ap (λ (i : ℕ). levels_from (16 - i) i ops) e

-- more rules than there are places for: no text that was read has them
pub site-full : {text rows : List ℕ} {n : ℕ} {q : Site} {cs : List ℕ} {c : ℕ} {starts sorts : List ℕ} {own : ℕ} {l : Rank} {cs₁ : List ℕ} {c₁ : ℕ} {starts₁ sorts₁ : List ℕ}
    → length cs₁ ≡ length cs → c₁ ≤ length cs₁ + 1 → own < 65536 → l.level < 16 → 128 ≤ own → RestIs text q.at l → Going text rows n q cs c starts sorts own l cs₁ c₁ starts₁ sorts₁
    → SiteDone text rows n q cs c starts sorts cs₁ starts₁ sorts₁ (record { count = c₁; rules = own })
site-full {text} {rows} {n} {q} {own = own} {l} same bound low h full r g = record {
  same = same;
  bound = omega (arith, same, bound);
  low = low;
  rules = λ os ws' x few. absurd (never-full os ws' x few);
  made = λ os ws' x few cs' starts' sorts' s more f. absurd (never-full os ws' x few);
}
  where
    never-full : (os : List written.Operator) (ws' : List Word) → OperatorsIn (words_at text q.at) ws' os → q.own + length (levels_of (operators_from (held text rows n) os)) ≤ 128 → ⊥
    never-full os ws' x few = omega (arith, full, few, (g.going os ws' x few).sum, ap length (r.here (held text rows n) os ws' x h))

-- The pairs

-- what was made for a pair and for those behind it
pub record Split (names : Names) (ks : List KnownRule) (others own : ℕ) (u : Use) (us : List Use) (ms : List Rule) : Type 0 where
  pub later : List Rule
  pub fits : passes others own (levels_used names u) ≡ false
  pub behind : made_for names ks others (own + length (levels_used names u)) us ≡ good later
  pub is : ms ≡ level_rules own (operand_of ks u) (levels_used names u) ++ later

no-good : {A B : Type 0} {n : ℕ} {w : Word} {a : A} → ◌≡◌ {A = Checked A} (wrong n w) (good a) → B
no-good e = let z : ◌≡◌ {A = ℕ} 0 1 = cc in absurd (omega (arith, z))

pub made-split : (names : Names) (ks : List KnownRule) (others own : ℕ) (u : Use) (us : List Use) (ms : List Rule) → made_for names ks others own (u ∷ us) ≡ good ms → Split names ks others own u us ms
unfolding made_for
made-split names ks others own u us ms e = go (passes others own (levels_used names u)) refl e
  where
    rules : List Rule
    rules = level_rules own (operand_of ks u) (levels_used names u)

    inner : (x : Checked (List Rule)) → passes others own (levels_used names u) ≡ false → made_for names ks others (own + length (levels_used names u)) us ≡ x
        → ◌>>=◌ x (λ more. good (rules ++ more)) ≡ good ms → Split names ks others own u us ms
    inner (good later) f d q = let z : ms ≡ rules ++ later = cc in record { later = later; fits = f; behind = d; is = z }
    inner (wrong n w) f d q = no-good q

    go : (t : Bool) → passes others own (levels_used names u) ≡ t
        → ◌>>=◌ (fault_if t 9 u.sign) (λ _. ◌>>=◌ (made_for names ks others (own + length (levels_used names u)) us) (λ more. good (rules ++ more))) ≡ good ms → Split names ks others own u us ms
    go true f q = no-good q
    go false f q = inner (made_for names ks others (own + length (levels_used names u)) us) f refl q

pub few_rules : (others own : ℕ) (ls : List Level) → passes others own ls ≡ false → own + length ls ≤ 128
few_rules others own ls e = ltb-false 128 (own + length ls) (neither (ltb 128 (own + length ls)) _ (neither _ (crowded ls) e).0).0

operand-is : (text rows : List ℕ) (n : ℕ) {p : Program} {names : Names} {ks : List KnownRule} (u : Use) → Agrees p names ks (held text rows n) → Ordered (held text rows n) u
    → operand_of ks u ≡ get_or rows (8 * operand_row (held text rows n) u + 1) 0
unfolding operand_of decl_at
operand-is text rows n u ag o =
    let ds = held text rows n in
    ap (λ x. elim x as (λ _. ℕ) [ some r ↦ r.place | none ↦ 0 ]) (ag.rules u.operand.text ∙ ap (mapped (λ i. rule_from (decl_of ds i))) o.operand)
    ∙ ap (λ (d : Decl). d.value) (held_at text rows n (operand_row ds u) (row-less text rows n 7 u.operand.text (operand_row ds u) o.operand))

section-at : (text rows : List ℕ) (n : ℕ) (p : Program) (u : Use) (s : ℕ) (en : EntriesAt text (held text rows n) (entries_of p)) → Ordered (held text rows n) u → s ≡ section_row (held text rows n) u
    → OperatorsIn (words_at text (get_or rows (8 * s + 1) 0)) (en.behind s) (entries_of p s)
unfolding decl_at
section-at text rows n p u s en o e =
    let ds = held text rows n in
    let i : index_of 600 u.section.text 0 ds ≡ some s = o.section ∙ ap some (sym e) in
    let d = held_at text rows n s (row-less text rows n 600 u.section.text s i) in
    rw (ap (λ (k : Decl). words_at text k.value) d) at (en.stand s (row_at 600 u.section.text s ds i).class)

pub site-of : {text rows : List ℕ} {j c s o w at x : ℕ} → s ≡ get_or rows (5633 + 3 * j) 0 → o ≡ get_or rows (5634 + 3 * j) 0 → w ≡ get_or rows (5635 + 3 * j) 0 → w < 65536 → PlaceOf text rows s at
    → x ≡ get_or rows (8 * o + 1) 0 → x < 65536 → SiteOf text rows j c (record { at = at; operand = x; own = w; count = c })
site-of {text} {rows} {at = at} a b c l p d h = record { at = rw (← a) p; operand = rw (← b) d; own = c; count = refl; low = h; high = l }

pub make-end : {text rows : List ℕ} {n j k own : ℕ} {cs : List ℕ} {c : ℕ} {starts sorts : List ℕ} → k ≡ 0 → c ≤ length cs + 1
    → MakeFrom text rows n j k own cs c starts sorts cs starts sorts (record { count = c; rules = own })
unfolding pairs_from pairs_mean made_for
make-end {text} {rows} {n} {j} {k} {own} {cs} {c} {starts} {sorts} z h = record { made = λ p names ks ag en us others ms e or m. go p names ks us others ms (ap (pairs_from rows j) (sym z) ∙ e) m }
  where
    go : (p : Program) (names : Names) (ks : List KnownRule) (us : List Use) (others : ℕ) (ms : List Rule) → ◌≡◌ {A = List Pair} [] (pairs_mean names (held text rows n) own us) → made_for names ks others own us ≡ good ms
        → MadeEnd own cs c cs starts sorts starts sorts (record { count = c; rules = own }) ms
    go p names ks [] others ms e m = let y : [] ≡ ms = cc in rw (sym y) (made_none own cs c starts sorts h)
    go p names ks (u ∷ us) others ms e m = let y : ◌≡◌ {A = ℕ} 0 1 = cc in absurd (omega (arith, y))

pub made_as : {own own₁ : ℕ} {cs : List ℕ} {c : ℕ} {cs' starts sorts starts' sorts' : List ℕ} {r : Made} {xs ys : List Rule} → own₁ ≡ own → xs ≡ ys → MadeEnd own₁ cs c cs' starts sorts starts' sorts' r xs
    → MadeEnd own cs c cs' starts sorts starts' sorts' r ys
made_as e f m = rw (← e, ← f) m

pub rules-as : {own own₁ o o₁ : ℕ} {ls ls₁ : List Level} → own ≡ own₁ → o ≡ o₁ → ls ≡ ls₁ → level_rules own o ls ≡ level_rules own₁ o₁ ls₁
rules-as a b c = rw (a, b, c) refl

pair_made : {text rows : List ℕ} {n : ℕ} {cs : List ℕ} {c : ℕ} {starts sorts cs₁ starts₁ sorts₁ cs' starts' sorts' : List ℕ} {q : Site} {r₁ r : Made} (j k₁ own : ℕ)
    (p : Program) (names : Names) (ks : List KnownRule) → Agrees p names ks (held text rows n) → EntriesAt text (held text rows n) (entries_of p)
    → (u : Use) (us : List Use) (others : ℕ) (ms : List Rule) → pair_at rows j ≡ pair_of (held text rows n) own u → pairs_from rows (suc j) k₁ ≡ pairs_mean names (held text rows n) (own + length (levels_used names u)) us
    → Ordered (held text rows n) u → AllOrdered (held text rows n) us → made_for names ks others own (u ∷ us) ≡ good ms → SiteOf text rows j c q
    → SiteDone text rows n q cs c starts sorts cs₁ starts₁ sorts₁ r₁ → MakeFrom text rows n (j + 1) k₁ r₁.rules cs₁ r₁.count starts₁ sorts₁ cs' starts' sorts' r
    → MadeEnd own cs c cs' starts sorts starts' sorts' r ms
unfolding pair_at
pair_made {text} {rows} {n} {cs' = cs'} {starts'} {sorts'} {q} {r₁} {r} j k₁ own p names ks ag en u us others ms head tail ou os m site done f =
    let ds = held text rows n in
    let s = get_or rows (5633 + 3 * j) 0 in
    let x = made-split names ks others own u us ms m in
    let e₁ : s ≡ section_row ds u = ap (λ (v : Pair). v.section) head in
    let e₂ : get_or rows (5634 + 3 * j) 0 ≡ operand_row ds u = ap (λ (v : Pair). v.operand) head in
    let e₃ : q.own ≡ own = site.own ∙ ap (λ (v : Pair). v.lowest) head in
    let ops = operators_from ds (entries_of p s) in
    let lu : levels_used names u ≡ levels_of ops = levels-used u ag ou ∙ ap (λ (i : ℕ). levels_of (operators_from ds (entries_of p i))) (sym e₁) in
    let op : operand_of ks u ≡ q.operand = operand-is text rows n u ag ou ∙ (ap (λ (i : ℕ). get_or rows (8 * i + 1) 0) (sym e₂) ∙ sym site.operand) in
    let y = site.at.entries (entries_of p s) (en.behind s) (section-at text rows n p u s en ou e₁) in
    let few : q.own + length (levels_of ops) ≤ 128 = omega (arith, few_rules others own (levels_used names u) x.fits, e₃, ap length lu) in
    let rr : r₁.rules ≡ own + length (levels_used names u) = omega (arith, done.rules (entries_of p s) (en.behind s) y few, e₃, ap length lu) in
    let next : suc j ≡ j + 1 = omega arith in
    let later = f.made p names ks ag en us others x.later (rw (← next, rr) tail) os (rw rr x.behind) in
    made_as e₃ (ap (λ (v : List Rule). v ++ x.later) (rules-as e₃ (sym op) (sym lu)) ∙ sym x.is) (done.made (entries_of p s) (en.behind s) y few cs' starts' sorts' r x.later later)

done-as : {text rows : List ℕ} {n : ℕ} {q : Site} {cs : List ℕ} {c c₁ : ℕ} {starts sorts cs₁ starts₁ sorts₁ : List ℕ} {r : Made} → c₁ ≡ c → SiteDone text rows n q cs c₁ starts sorts cs₁ starts₁ sorts₁ r
    → SiteDone text rows n q cs c starts sorts cs₁ starts₁ sorts₁ r
done-as e d = rw (← e) d

pub make-step : {text rows : List ℕ} {n j k k₁ own : ℕ} {cs : List ℕ} {c : ℕ} {starts sorts cs₁ starts₁ sorts₁ cs' starts' sorts' : List ℕ} {q : Site} {r₁ r : Made} → k ≡ suc k₁ → SiteOf text rows j c q
    → SiteDone text rows n q cs q.count starts sorts cs₁ starts₁ sorts₁ r₁ → MakeFrom text rows n (j + 1) k₁ r₁.rules cs₁ r₁.count starts₁ sorts₁ cs' starts' sorts' r
    → MakeFrom text rows n j k own cs c starts sorts cs' starts' sorts' r
unfolding pairs_from pairs_mean AllOrdered
make-step {text} {rows} {n} {j} {k} {k₁} {own} {cs} {c} {starts} {sorts} {cs₁} {starts₁} {sorts₁} {cs'} {starts'} {sorts'} {q} {r₁} {r} z site done f =
    record { made = λ p names ks ag en us others ms e or m. go p names ks ag en us others ms (ap (pairs_from rows j) (sym z) ∙ e) or m }
  where
    go : (p : Program) (names : Names) (ks : List KnownRule) → Agrees p names ks (held text rows n) → EntriesAt text (held text rows n) (entries_of p)
        → (us : List Use) (others : ℕ) (ms : List Rule) → pair_at rows j ∷ pairs_from rows (suc j) k₁ ≡ pairs_mean names (held text rows n) own us → AllOrdered (held text rows n) us
        → made_for names ks others own us ≡ good ms → MadeEnd own cs c cs' starts sorts starts' sorts' r ms
    go p names ks ag en [] others ms e or m = let y : ◌≡◌ {A = ℕ} 0 1 = cc in absurd (omega (arith, y))
    go p names ks ag en (u ∷ us) others ms e or m = pair_made j k₁ own p names ks ag en u us others ms head tail or.0 or.1 m site (done-as site.count done) f
      where
        head : pair_at rows j ≡ pair_of (held text rows n) own u
        head = cc

        tail : pairs_from rows (suc j) k₁ ≡ pairs_mean names (held text rows n) (own + length (levels_used names u)) us
        tail = cc

pub make-whole : {text rows : List ℕ} {n k own : ℕ} {cs : List ℕ} {c : ℕ} {starts sorts cs' starts' sorts' : List ℕ} {r : Made} → k ≡ get_or rows 5632 0 → MakeFrom text rows n 0 k own cs c starts sorts cs' starts' sorts' r
    → MakeDone text rows n own cs c starts sorts cs' starts' sorts' r
unfolding pairs_held
make-whole {text} {rows} {n} {k} {own} e f = record {
  made = λ p names ag en o h others ms m.
      f.made p names (known_rules 0 p.rules) ag en (pairs_of p.rules) others ms (ap (pairs_from rows 0) e ∙ (h.pairs ∙ ap (λ (i : ℕ). pairs_mean names (held text rows n) i (pairs_of p.rules)) (sym o))) h.ordered m;
}

pub make-first : {text rows : List ℕ} {n k own : ℕ} {cs : List ℕ} {c : ℕ} {starts sorts cs' starts' sorts' : List ℕ} {r : Made} → MakeFrom text rows n 0 (k - 0) own cs c starts sorts cs' starts' sorts' r
    → MakeFrom text rows n 0 k own cs c starts sorts cs' starts' sorts' r
make-first {k = k} f = let e : k - 0 ≡ k = omega arith in rw (← e) f
