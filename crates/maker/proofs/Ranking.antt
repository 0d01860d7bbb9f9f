-- The levels of a section by scans of its entries: the next level in use begins what is left of them.
use mathlib.Core.Bool.{Bool, true, false, ◌||◌, or-false, or_assoc}
use mathlib.Core.List.{List, [], ◌∷◌, ◌++◌, append_assoc, append-nil}
use mathlib.Core.Logic.{◌⊎◌, inl, inr}
use mathlib.Core.Path.{◌≡◌, refl, sym, ap, ◌∙◌}
use Prim.Native.Nat.{ℕ, zero, suc, ◌+◌, ◌-◌, ◌<◌, ◌≤◌}
use native.Mathlib.Nat.{add-zero, zero-add}
use native.Mathlib.Omega.{arith}
use borrow.Author.Tests.{eq-eqb, ne_eqb, le-leb, lt-leb, lt-ltb, le-ltb}
use lib.Dec.{eqb, leb, ltb}
use lib.ListN.{length, length-append}
use Rattle.base.proofs.Laws.{lt-or-le}
use Rattle.std.specs.Prelude.{Option, Some, None, if◌then◌else◌}
use Rattle.declarations.specs.Decls.{Decl, operators_from}
use Rattle.grammar.specs.Derived.{one_operator, OperatorsIn, last_operator, more_operators}
use Rattle.maker.specs.Ranks.{no_rank, rank_or, next_rank, rank_step, rank_of, RankDone, RankBound, LevelsDone}
use Rattle.maker.specs.declared.Rank.{Rank}
use Rattle.program.specs.Made.{Operator, Level, at_level, level_and, levels_from, levels_of, crowded}
use Rattle.syntax.specs.Written as written
use Rattle.words.specs.Words.{Word, words_at}

-- The step by its tests

pub step-low : (above : ℕ) (s : Rank) (l : ℕ) (b : Bool) → l ≤ above → rank_step above s l b ≡ s
unfolding rank_step
step-low above s l b h = rw (le-leb l above h) refl

pub step-high : (above : ℕ) (s : Rank) (l : ℕ) (b : Bool) → above < l → s.level < l → rank_step above s l b ≡ s
unfolding rank_step
step-high above s l b h g = rw (lt-leb l above h, lt-ltb s.level l g) refl

pub step-new : (above : ℕ) (s : Rank) (l : ℕ) (b : Bool) → above < l → l < s.level → rank_step above s l b ≡ record { level = l; count = 1; right = b }
unfolding rank_step
step-new above s l b h g = rw (lt-leb l above h, le-ltb s.level l (omega arith), lt-ltb l s.level g) refl

pub step_same : (above : ℕ) (s : Rank) (l : ℕ) (b : Bool) → above < l → l ≤ s.level → s.level ≤ l → rank_step above s l b ≡ record { level = s.level; count = s.count + 1; right = s.right }
unfolding rank_step
step_same above s l b h g f = rw (lt-leb l above h, le-ltb s.level l g, le-ltb l s.level f) refl

-- Operators of a level

at_snoc : (l : ℕ) (xs : List Operator) (o : Operator) → at_level l (xs ++ (o ∷ [])) ≡ at_level l xs ++ at_level l (o ∷ [])
unfolding at_level
at_snoc l [] o = refl
at_snoc l (x ∷ xs) o = go (eqb x.level l) (at_snoc l xs o)
  where
    go : (t : Bool) → at_level l (xs ++ (o ∷ [])) ≡ at_level l xs ++ at_level l (o ∷ [])
        → (if t then x ∷ at_level l (xs ++ (o ∷ [])) else at_level l (xs ++ (o ∷ []))) ≡ (if t then x ∷ at_level l xs else at_level l xs) ++ at_level l (o ∷ [])
    go true e = ap {B = List Operator} (λ r. x ∷ r) e
    go false e = e

at-hit : (l : ℕ) (xs : List Operator) (o : Operator) → o.level ≡ l → at_level l (xs ++ (o ∷ [])) ≡ at_level l xs ++ (o ∷ [])
unfolding at_level
at-hit l xs o e = at_snoc l xs o ∙ go
  where
    go : at_level l xs ++ (if eqb o.level l then o ∷ [] else []) ≡ at_level l xs ++ (o ∷ [])
    go = rw (eq-eqb o.level l e) refl

at-miss : (l : ℕ) (xs : List Operator) (o : Operator) → (o.level ≡ l → ⊥) → at_level l (xs ++ (o ∷ [])) ≡ at_level l xs
unfolding at_level
at-miss l xs o e = at_snoc l xs o ∙ (go ∙ append-nil (at_level l xs))
  where
    go : at_level l xs ++ (if eqb o.level l then o ∷ [] else []) ≡ at_level l xs ++ []
    go = rw (ne_eqb o.level l e) refl

-- these are a level's operators, so many, of this side
record Filled (os : List Operator) (count : ℕ) (right : Bool) : Type 0 where
  first : Operator
  rest : List Operator
  is : os ≡ first ∷ rest
  side : first.right ≡ right
  many : suc (length rest) ≡ count

filled_at : {os vs : List Operator} {count : ℕ} {right : Bool} → vs ≡ os → Filled os count right → Filled vs count right
filled_at e f = record { first = f.first; rest = f.rest; is = e ∙ f.is; side = f.side; many = f.many }

filled_more : {os : List Operator} {count : ℕ} {right : Bool} (o : Operator) → Filled os count right → Filled (os ++ (o ∷ [])) (count + 1) right
filled_more o f = record { first = f.first; rest = f.rest ++ (o ∷ []); is = ap (λ l. l ++ (o ∷ [])) f.is; side = f.side; many = omega (arith, length-append f.rest (o ∷ []), f.many) }

-- what the rank says of the entries xs
record Scanned (above : ℕ) (xs : List Operator) (s : Rank) : Type 0 where
  higher : above < s.level
  most : s.level ≤ 16
  none : (j : ℕ) → above < j → j < s.level → at_level j xs ≡ []
  here : s.level < 16 → Filled (at_level s.level xs) s.count s.right

scanned-as : {above : ℕ} {xs : List Operator} {s t : Rank} → t ≡ s → Scanned above xs s → Scanned above xs t
scanned-as e f = rw e f

scanned-one : (above : ℕ) (xs : List Operator) (s : Rank) (o : Operator) → Scanned above xs s → Scanned above (xs ++ (o ∷ [])) (rank_step above s o.level o.right)
scanned-one above xs s o f = low (lt-or-le above o.level)
  where
    kept : (above < o.level → s.level < o.level) → Scanned above (xs ++ (o ∷ [])) s
    kept g = record {
      higher = f.higher;
      most = f.most;
      none = λ j a b. at-miss j xs o (λ e. omega (arith, e, a, b, g (omega (arith, e, a)))) ∙ f.none j a b;
      here = λ h. filled_at (at-miss s.level xs o (λ e. omega (arith, e, f.higher, g (omega (arith, e, f.higher))))) (f.here h);
    }

    new : above < o.level → o.level ≤ s.level → (o.level < s.level) ⊎ (s.level ≤ o.level) → Scanned above (xs ++ (o ∷ [])) (rank_step above s o.level o.right)
    new h g (inl d) = scanned-as (step-new above s o.level o.right h d) (record {
      higher = h;
      most = omega (arith, f.most, d);
      none = λ j a b. at-miss j xs o (λ e. omega (arith, e, b)) ∙ f.none j a (omega (arith, b, d));
      here = λ z. filled_at (at-hit o.level xs o refl ∙ ap (λ l. l ++ (o ∷ [])) (f.none o.level h d)) (record { first = o; rest = []; is = refl; side = refl; many = refl });
    })
    new h g (inr d) = scanned-as (step_same above s o.level o.right h g d) (record {
      higher = f.higher;
      most = f.most;
      none = λ j a b. at-miss j xs o (λ e. omega (arith, e, b, d)) ∙ f.none j a b;
      here = λ z. filled_at (at-hit s.level xs o (omega (arith, g, d))) (filled_more o (f.here z));
    })

    high : above < o.level → (s.level < o.level) ⊎ (o.level ≤ s.level) → Scanned above (xs ++ (o ∷ [])) (rank_step above s o.level o.right)
    high h (inl g) = scanned-as (step-high above s o.level o.right h g) (kept (λ _. g))
    high h (inr g) = new h g (lt-or-le o.level s.level)

    low : (above < o.level) ⊎ (o.level ≤ above) → Scanned above (xs ++ (o ∷ [])) (rank_step above s o.level o.right)
    low (inr h) = scanned-as (step-low above s o.level o.right h) (kept (λ g. absurd (omega (arith, g, h))))
    low (inl h) = high h (lt-or-le s.level o.level)

scanned : (above : ℕ) (xs os : List Operator) (s : Rank) → Scanned above xs s → Scanned above (xs ++ os) (rank_of above s os)
unfolding rank_of
scanned above xs [] s f = rw (append-nil xs) f
scanned above xs (o ∷ os) s f = rw (sym (append_assoc xs (o ∷ []) os)) (scanned above (xs ++ (o ∷ [])) os (rank_step above s o.level o.right) (scanned-one above xs s o f))

scanned-all : (above : ℕ) (os : List Operator) → above ≤ 15 → Scanned above os (rank_of above no_rank os)
unfolding no_rank at_level
scanned-all above os h = scanned above [] os no_rank (record { higher = omega arith; most = omega arith; none = λ j a b. refl; here = λ z. absurd (omega (arith, z)) })

-- What is left of the levels

-- no level of k is in use
skip-levels : (k n l : ℕ) (os : List Operator) → ((j : ℕ) → l ≤ j → j < l + k → at_level j os ≡ []) → levels_from (k + n) l os ≡ levels_from n (l + k) os
unfolding levels_from level_and
skip-levels zero n l os f = ap (λ (i : ℕ). levels_from i l os) (zero-add n) ∙ ap (λ (i : ℕ). levels_from n i os) (sym (add-zero l))
skip-levels (suc k) n l os f =
    let e : suc k + n ≡ suc (k + n) = omega arith in
    ap (λ (i : ℕ). levels_from i l os) e
    ∙ ap (λ (v : List Operator). level_and v (levels_from (k + n) (suc l) os)) (f l (omega arith) (omega arith))
    ∙ (skip-levels k n (suc l) os (λ j a b. f j (omega (arith, a)) (omega (arith, b))) ∙ ap (λ (i : ℕ). levels_from n i os) (omega arith))

-- the rank is that of the next level above `above`
pub record RankIs (os : List Operator) (above : ℕ) (s : Rank) : Type 0 where
  pub levels : levels_from (15 - above) (suc above) os ≡ levels_from (16 - s.level) s.level os
  pub here : s.level < 16 → levels_from (16 - s.level) s.level os ≡ record { right = s.right; operators = at_level s.level os } ∷ levels_from (15 - s.level) (suc s.level) os
  pub many : s.level < 16 → length (at_level s.level os) ≡ s.count

and-filled : {os : List Operator} {count : ℕ} {right : Bool} (more : List Level) → Filled os count right → level_and os more ≡ record { right = right; operators = os } ∷ more
unfolding level_and
and-filled {os} {count} {right} more f =
    ap (λ (v : List Operator). level_and v more) f.is
    ∙ (ap {B = List Level} (λ (b : Bool). record { right = b; operators = f.first ∷ f.rest } ∷ more) f.side
    ∙ ap {B = List Level} (λ (v : List Operator). record { right = right; operators = v } ∷ more) (sym f.is))

rank-of : (os : List Operator) (above : ℕ) (s : Rank) → above ≤ 15 → Scanned above os s → RankIs os above s
unfolding levels_from
rank-of os above s h f = record { levels = levels; here = here; many = λ z. ap length (f.here z).is ∙ (f.here z).many }
  where
    levels : levels_from (15 - above) (suc above) os ≡ levels_from (16 - s.level) s.level os
    levels =
        let a : 15 - above ≡ (s.level - suc above) + (16 - s.level) = omega (arith, f.higher, f.most, h) in
        let b : suc above + (s.level - suc above) ≡ s.level = omega (arith, f.higher) in
        ap (λ (k : ℕ). levels_from k (suc above) os) a
        ∙ (skip-levels (s.level - suc above) (16 - s.level) (suc above) os (λ j x y. f.none j (omega (arith, x)) (omega (arith, y, f.higher)))
        ∙ ap (λ (i : ℕ). levels_from (16 - s.level) i os) b)

    here : s.level < 16 → levels_from (16 - s.level) s.level os ≡ record { right = s.right; operators = at_level s.level os } ∷ levels_from (15 - s.level) (suc s.level) os
    here z =
        let a : 16 - s.level ≡ suc (15 - s.level) = omega (arith, z) in
        ap (λ (k : ℕ). levels_from k s.level os) a ∙ and-filled (levels_from (15 - s.level) (suc s.level) os) (f.here z)

pub rank_is : {text : List ℕ} {at above : ℕ} {r : Rank} (ds : List Decl) (os : List written.Operator) (ws' : List Word) → RankDone text at above no_rank r → above ≤ 15
    → OperatorsIn (words_at text at) ws' os → RankIs (operators_from ds os) above r
rank_is {above = above} ds os ws' d h x = rw (d.done ds os ws' x) (rank-of (operators_from ds os) above (rank_of above no_rank (operators_from ds os)) h (scanned-all above (operators_from ds os) h))

-- Counting the levels

-- k levels stand below the rank's, some of them crowded or none
pub record Counted (os : List Operator) (l : Rank) (k : ℕ) (c : Bool) : Type 0 where
  pub count : length (levels_of os) ≡ k + length (levels_from (16 - l.level) l.level os)
  pub crowd : crowded (levels_of os) ≡ (c || crowded (levels_from (16 - l.level) l.level os))
  pub here : l.level < 16 → levels_from (16 - l.level) l.level os ≡ record { right = l.right; operators = at_level l.level os } ∷ levels_from (15 - l.level) (suc l.level) os
  pub many : l.level < 16 → length (at_level l.level os) ≡ l.count

abbrev pub CountedAt : List ℕ → ℕ → Rank → ℕ → Bool → Type 0
CountedAt text at l k c = (ds : List Decl) (os : List written.Operator) (ws' : List Word) → OperatorsIn (words_at text at) ws' os → Counted (operators_from ds os) l k c

pub levels-first : {text : List ℕ} {at : ℕ} {r : Rank} → RankDone text at 0 no_rank r → CountedAt text at r 0 false
unfolding levels_of
levels-first {r = r} d ds os ws' x =
    let e : 15 ≡ 15 - 0 = omega arith in
    let whole : levels_of (operators_from ds os) ≡ levels_from (15 - 0) 1 (operators_from ds os) = ap (λ (k : ℕ). levels_from k 1 (operators_from ds os)) e in
    let i = rank_is ds os ws' d (omega arith) x in
    record { count = ap length (whole ∙ i.levels) ∙ sym (zero-add (length (levels_from (16 - r.level) r.level (operators_from ds os)))); crowd = ap crowded (whole ∙ i.levels); here = i.here; many = i.many }

pub levels-more : {text : List ℕ} {at : ℕ} {l r : Rank} {k : ℕ} {c c' : Bool} → CountedAt text at l k c → l.level < 16 → RankDone text at l.level no_rank r → c' ≡ (c || ltb 64 l.count)
    → CountedAt text at r (k + 1) c'
unfolding crowded
levels-more {l = l} {r} {k} {c} {c'} s h d e ds os ws' x =
    let ops = operators_from ds os in
    let q = s ds os ws' x in
    let i = rank_is ds os ws' d (omega (arith, h)) x in
    let a = q.here h ∙ ap {B = List Level} (λ (v : List Level). record { right = l.right; operators = at_level l.level ops } ∷ v) i.levels in
    record {
      count = q.count ∙ (ap (λ (v : List Level). k + length v) a ∙ omega arith);
      crowd =
          q.crowd ∙ (ap (λ (v : List Level). c || crowded v) a
          ∙ (ap (λ (n : ℕ). c || (ltb 64 n || crowded (levels_from (16 - r.level) r.level ops))) (q.many h)
          ∙ (sym (or_assoc c (ltb 64 l.count) (crowded (levels_from (16 - r.level) r.level ops))) ∙ ap (λ (b : Bool). b || crowded (levels_from (16 - r.level) r.level ops)) (sym e))));
      here = i.here;
      many = i.many;
    }

pub levels-end : {text : List ℕ} {at : ℕ} {l : Rank} {k : ℕ} {c : Bool} → CountedAt text at l k c → l.level ≡ 16 → k ≤ 15 → LevelsDone text at (record { count = k; crowded = c })
unfolding crowded levels_from
levels-end {l = l} {k} {c} s h few = record { few = few; done = λ ds os ws' x. go ds os (s ds os ws' x) }
  where
    none : (os : List Operator) → levels_from (16 - l.level) l.level os ≡ []
    none os = ap (λ (i : ℕ). levels_from (16 - i) i os) h

    go : (ds : List Decl) (os : List written.Operator) → Counted (operators_from ds os) l k c → (k ≡ length (levels_of (operators_from ds os))) × (c ≡ crowded (levels_of (operators_from ds os)))
    go ds os q = (
      sym (q.count ∙ (ap (λ (v : List Level). k + length v) (none (operators_from ds os)) ∙ add-zero k)),
      sym (q.crowd ∙ (ap (λ (v : List Level). c || crowded v) (none (operators_from ds os)) ∙ or-false c)),
    )

-- Entries have a level

some_level : (o : Operator) (os : List Operator) → 1 ≤ o.level → o.level ≤ 15 → 1 ≤ length (levels_of (o ∷ os))
unfolding levels_of at_level
some_level o os low high = go (lt-or-le (rank_of 0 no_rank (o ∷ os)).level 16)
  where
    f : Scanned 0 (o ∷ os) (rank_of 0 no_rank (o ∷ os))
    f = scanned-all 0 (o ∷ os) (omega arith)

    i : RankIs (o ∷ os) 0 (rank_of 0 no_rank (o ∷ os))
    i = rank-of (o ∷ os) 0 (rank_of 0 no_rank (o ∷ os)) (omega arith) f

    own : at_level o.level (o ∷ os) ≡ o ∷ at_level o.level os
    own = rw (eq-eqb o.level o.level refl) refl

    go : ((rank_of 0 no_rank (o ∷ os)).level < 16) ⊎ (16 ≤ (rank_of 0 no_rank (o ∷ os)).level) → 1 ≤ length (levels_from 15 1 (o ∷ os))
    go (inl h) = omega (arith, ap length (i.levels ∙ i.here h))
    go (inr h) = absurd (omega (arith, ap length (sym own ∙ f.none o.level (omega (arith, low)) (omega (arith, h, high)))))

pub levels-some : {ws ws' : List Word} (ds : List Decl) (os : List written.Operator) → OperatorsIn ws ws' os → 1 ≤ length (levels_of (operators_from ds os))
unfolding operators_from
levels-some ds _ (last_operator (one_operator r k q a b z y) t) = some_level _ _ a b
levels-some ds _ (more_operators (one_operator r k q a b z y) n m) = some_level _ _ a b

-- The step where no rank may have been found

tests-off : (above level : ℕ) → above < level → level ≤ 15 → (leb level above || ltb 15 level) ≡ false
tests-off above level h g = rw (lt-leb level above h, le-ltb 15 level g) refl

module _ (above : ℕ) (level : ℕ) (right : Bool) where
  pub next-low : (best : Option Rank) → level ≤ above → best ≡ next_rank above best level right
  unfolding next_rank
  next-low best h = rw (le-leb level above h) refl

  pub next-past : (best : Option Rank) → above < level → 15 < level → best ≡ next_rank above best level right
  unfolding next_rank
  next-past best h g = rw (lt-leb level above h, lt-ltb 15 level g) refl

  module _ (h : above < level) (g : level ≤ 15) where
    pub next-first : Some (record { level = level; count = 1; right = right }) ≡ next_rank above None level right
    unfolding next_rank
    next-first = rw (tests-off above level h g) refl

    pub next-high : (s : Rank) → s.level < level → Some s ≡ next_rank above (Some s) level right
    unfolding next_rank
    next-high s d = rw (tests-off above level h g, lt-ltb s.level level d) refl

    pub next-same : (s : Rank) → s.level ≡ level → Some (record { level = s.level; count = s.count + 1; right = s.right }) ≡ next_rank above (Some s) level right
    unfolding next_rank
    next-same s d = rw (tests-off above level h g, le-ltb s.level level (omega (arith, d)), eq-eqb s.level level d) refl

    pub next-new : (s : Rank) → level < s.level → Some (record { level = level; count = 1; right = right }) ≡ next_rank above (Some s) level right
    unfolding next_rank
    next-new s d = rw (tests-off above level h g, le-ltb s.level level (omega (arith, d)), ne_eqb s.level level (λ e. omega (arith, e, d))) refl

  -- the same as with a rank above all levels
  pub rank-next : (best : Option Rank) → level ≤ 15 → rank_or (next_rank above best level right) ≡ rank_step above (rank_or best) level right
  unfolding no_rank
  rank-next best g = low best (lt-or-le above level)
    where
      new : (s : Rank) → above < level → level ≤ s.level → (level < s.level) ⊎ (s.level ≤ level) → rank_or (next_rank above (Some s) level right) ≡ rank_step above s level right
      new s h k (inl d) = rw (← next-new h g s d) (sym (step-new above s level right h d))
      new s h k (inr d) = rw (← next-same h g s (omega (arith, k, d))) (sym (step_same above s level right h k d))

      high : (s : Rank) → above < level → (s.level < level) ⊎ (level ≤ s.level) → rank_or (next_rank above (Some s) level right) ≡ rank_step above s level right
      high s h (inl d) = rw (← next-high h g s d) (sym (step-high above s level right h d))
      high s h (inr d) = new s h d (lt-or-le level s.level)

      low : (o : Option Rank) → (above < level) ⊎ (level ≤ above) → rank_or (next_rank above o level right) ≡ rank_step above (rank_or o) level right
      low None (inl h) = rw (← next-first h g) (sym (step-new above no_rank level right h (omega (arith, g))))
      low (Some s) (inl h) = high s h (lt-or-le s.level level)
      low o (inr h) = rw (← next-low o h) (sym (step-low above (rank_or o) level right h))

  -- what is kept
  record Kept (o r : Option Rank) : Type 0 where
    bound : RankBound above o → RankBound above r
    count : (rank_or r).count ≤ (rank_or o).count + 1

  kept : (best : Option Rank) → Kept best (next_rank above best level right)
  unfolding no_rank
  kept best = low best (lt-or-le above level) (lt-or-le 15 level)
    where
      some : (s : Rank) → (h : above < level) → (g : level ≤ 15) → (level < s.level) ⊎ (s.level ≤ level) → (s.level < level) ⊎ (level ≤ s.level) → Kept (Some s) (next_rank above (Some s) level right)
      some s h g (inl d) e = rw (← next-new h g s d) (record { bound = λ f. (h, g); count = omega arith })
      some s h g (inr d) (inl e) = rw (← next-high h g s e) (record { bound = λ f. f; count = omega arith })
      some s h g (inr d) (inr e) = rw (← next-same h g s (omega (arith, d, e))) (record { bound = λ f. f; count = omega arith })

      low : (o : Option Rank) → (above < level) ⊎ (level ≤ above) → (15 < level) ⊎ (level ≤ 15) → Kept o (next_rank above o level right)
      low o (inr h) g = rw (← next-low o h) (record { bound = λ f. f; count = omega arith })
      low o (inl h) (inl g) = rw (← next-past o h g) (record { bound = λ f. f; count = omega arith })
      low None (inl h) (inr g) = rw (← next-first h g) (record { bound = λ f. (h, g); count = omega arith })
      low (Some s) (inl h) (inr g) = some s h g (lt-or-le level s.level) (lt-or-le s.level level)

pub bound-next : (above : ℕ) (best : Option Rank) {r : Option Rank} (level : ℕ) (right : Bool) → r ≡ next_rank above best level right → RankBound above best → RankBound above r
bound-next above best level right e f = rw e ((kept above level right best).bound f)

pub count-next : (above : ℕ) (best : Option Rank) {r : Option Rank} (level : ℕ) (right : Bool) → r ≡ next_rank above best level right → (rank_or r).count ≤ (rank_or best).count + 1
count-next above best level right e = rw e (kept above level right best).count

-- the rank that was found, or one above all levels

pub rank-above : (above : ℕ) (r : Option Rank) → above ≤ 15 → RankBound above r → (above < (rank_or r).level) × ((rank_or r).level ≤ 16)
unfolding no_rank
rank-above above None h f = (omega arith, omega arith)
rank-above above (Some s) h f = (f.0, omega (arith, f.1))

pub bound-zero : (above : ℕ) (r : Option Rank) → RankBound above r → RankBound 0 r
bound-zero above None f = f
bound-zero above (Some s) f = (omega (arith, f.0), f.1)

pub rank-none : (r : Option Rank) → r ≡ None → (rank_or r).level ≡ 16
unfolding no_rank
rank-none r e = rw e refl

pub rank-step : (above : ℕ) (best : Option Rank) {r : Option Rank} (level : ℕ) (right : Bool) → r ≡ next_rank above best level right → level ≤ 15 → rank_or r ≡ rank_step above (rank_or best) level right
rank-step above best level right e h = ap rank_or e ∙ rank-next above level right best h
