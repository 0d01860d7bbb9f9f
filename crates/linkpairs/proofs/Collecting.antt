-- Pairs collected one after the other: what stands in the two rows.
use mathlib.Core.Bool.{Bool, true, false, ◌||◌}
use mathlib.Core.List.{List, [], ◌∷◌, ◌++◌}
use mathlib.Core.Path.{◌≡◌, refl, sym, ap, ◌∙◌}
use native.Mathlib.Omega.{arith}
use Prim.Native.Nat.{ℕ, suc, ◌+◌, ◌-◌, ◌<◌, ◌≤◌}
use lib.Dec.{ltb}
use lib.ListN.{length, set, drop, length-append, length-set}
use lib.Seq.{get_or-set_same, get_or-set_other}
use borrow.Author.Tests.{ltb-false}
use Rattle.acceptance.proofs.Shape.{Each}
use Rattle.base.proofs.Laws.{neither, above_zero}
use Rattle.linkpairs.proofs.Gathering.{behind, gather-next}
use Rattle.linkpairs.proofs.Looking.{index-used, index-not}
use Rattle.std.specs.Prelude as code
use Rattle.linkpairs.proofs.Standing.{first-pair, no-pair-off, later-pairs}
use Rattle.linkpairs.specs.Gather.{Gathered, gathered, past, gather, index_of}
use Rattle.linkpairs.specs.Standing.{PairAt, Sections, KnownUse, Counts, LevelsOf, Stand, Numbered, Held, Gives, moved_to, PairTaken, PairsTaken}
use Rattle.linkpairs.specs.declared.Scope.{Scope}
use Rattle.linkpairs.specs.declared.Spot.{Spot}
use Rattle.maker.specs.declared.Levels.{Levels}
use Rattle.names.specs.Known.{Names}
use Rattle.names.specs.Uses.{Use, is_used, levels_used}
use Rattle.objects.specs.Places.{Ends}
use Rattle.objects.specs.View.{pairs_of, all, pair_words, a_pair}
use Rattle.parts.specs.Link.{passes}
use Rattle.syntax.specs.Written.{Program}

-- One pair more in the rows

stand-more : (words sites : List ℕ) (k p : ℕ) (u : Use) → k < length sites → PairAt words p u → (us : List Use) (j : ℕ) → k ≡ j + length us → Stand words sites j us → Stand words (set sites k p) j (us ++ (u ∷ []))
unfolding Stand
stand-more words sites k p u l x [] j e h =
    let f : k ≡ j = omega (arith, e) in
    (rw (← f, get_or-set_same sites k p 0 l) x, tt)
stand-more words sites k p u l x (v ∷ us) j e h =
    (rw (get_or-set_other sites k j p 0 (λ d. omega (arith, d, e))) h.0, stand-more words sites k p u l x us (suc j) (omega (arith, e)) h.1)

numbered_more : (lowest : List ℕ) (names : Names) (k after : ℕ) (u : Use) → k < length lowest → (us : List Use) (j own : ℕ) → k ≡ j + length us → Numbered lowest names j own us after
    → Numbered (set lowest k after) names j own (us ++ (u ∷ [])) (after + length (levels_used names u))
unfolding Numbered
numbered_more lowest names k after u l [] j own e h =
    let f : k ≡ j = omega (arith, e) in
    (rw (← f, get_or-set_same lowest k after 0 l) h, ap (λ (i : ℕ). i + length (levels_used names u)) h)
numbered_more lowest names k after u l (v ∷ us) j own e h =
    (get_or-set_other lowest k j after 0 (λ d. omega (arith, d, e)) ∙ h.0, numbered_more lowest names k after u l us (suc j) (own + length (levels_used names v)) (omega (arith, e)) h.1)

held_more : {words sites lowest : List ℕ} {names : Names} {own k after p : ℕ} {us : List Use} {u : Use} → k < length sites → k < length lowest → PairAt words p u → Held words sites lowest names own k after us
    → Held words (set sites k p) (set lowest k after) names own (k + 1) (after + length (levels_used names u)) (us ++ (u ∷ []))
held_more {words} {sites} {lowest} {names} {own} {k} {after} {p} {us} {u} l m x h =
    let e : k ≡ 0 + length us = omega (arith, h.as_many) in
    let n = length-append us (u ∷ []) in
    record {
      as_many = omega (arith, h.as_many, n);
      stand = stand-more words sites k p u l x us 0 e h.stand;
      numbered = numbered_more lowest names k after u m us 0 own e h.numbered;
    }

held-as : {words sites lowest : List ℕ} {names : Names} {own k after after₁ : ℕ} {us : List Use} → after ≡ after₁ → Held words sites lowest names own k after₁ us → Held words sites lowest names own k after us
held-as e h = rw e h

-- A pair taken

-- what the look among those collected tells
abbrev Looked : List ℕ → List ℕ → ℕ → ℕ → ℕ → Type 0
Looked words sites count at r = (us : List Use) (u : Use) → count ≡ length us → Stand words sites 0 us → PairAt words at u → r ≡ index_of u us

used : {words sites lowest : List ℕ} {names : Names} {own count at after r : ℕ} {us : List Use} {u : Use} → Looked words sites count at r → r < count → Held words sites lowest names own count after us → PairAt words at u
    → is_used u us ≡ true
used {us = us} {u} f l h x = let e = f us u h.as_many h.stand x in let m = h.as_many in index-used u us (omega (arith, e, m, l))

unused : {words sites lowest : List ℕ} {names : Names} {own count at after r : ℕ} {us : List Use} {u : Use} → Looked words sites count at r → count ≤ r → Held words sites lowest names own count after us → PairAt words at u
    → is_used u us ≡ false
unused {us = us} {u} f l h x = let e = f us u h.as_many h.stand x in let m = h.as_many in index-not u us (omega (arith, e, m, l))

over-is : {names : Names} {u : Use} {l : Levels} (others own : ℕ) {t v : Bool} → Counts names u l → t ≡ (ltb 128 (own + l.count) || ltb 512 (others + (own + l.count)) || l.crowded) → t ≡ v → passes others own (levels_used names u) ≡ v
unfolding passes
over-is {l = l} others own c e t = rw (sym c.count, sym c.crowd) (sym e ∙ t)

-- r is s with the fault 9
abbrev Faulty : Spot → Spot → Type 0
Faulty s r = (r.at ≡ s.at) × (r.left ≡ s.left) × (r.count ≡ s.count) × (r.own ≡ s.own) × (r.fault ≡ 9)

-- the rules of the levels pass a limit
abbrev Over : Scope → Spot → Levels → Bool
Over scope s l = ltb 128 (s.own + l.count) || ltb 512 (scope.others + (s.own + l.count)) || l.crowded

pub few-more : (scope : Scope) (s : Spot) (l : Levels) {t : Bool} → t ≡ Over scope s l → t ≡ false → s.own + l.count ≤ 128
few-more scope s l e z = ltb-false 128 (s.own + l.count) (neither _ _ (neither _ _ (sym e ∙ z)).0).0

module _ {text rows : List ℕ} {scope : Scope} {words sites lowest : List ℕ} {s : Spot} where
  pub taken-again : {r : ℕ} → s.count ≤ s.own → s.own ≤ 128 → Looked words sites s.count s.at r → r < s.count → PairTaken text rows scope words sites lowest s sites lowest s
  unfolding gather Gives
  taken-again a b f l = record {
    kept = record { sites_same = refl; lowest_same = refl; few = b; count = a };
    at = refl;
    left = refl;
    gives = λ p names sec own seen h z u x k. rw (used f l h x) (z, h, refl);
  }

  pub taken-empty : {r : Spot} {l : Levels} → s.count ≤ s.own → s.own ≤ 128 → Faulty s r → LevelsOf text rows scope.n words s.at l → l.count ≡ 0 → PairTaken text rows scope words sites lowest s sites lowest r
  taken-empty a b q y z = record {
    kept = record { sites_same = refl; lowest_same = refl; few = omega (arith, b, q.3); count = omega (arith, a, q.2, q.3) };
    at = q.0;
    left = q.1;
    gives = λ p names sec own seen h z₁ u x k. let o = (y.counts p names sec u x k).one in absurd (omega (arith, o, z));
  }

  pub taken-over : {i : ℕ} {r : Spot} {l : Levels} {t : Bool} → s.count ≤ s.own → s.own ≤ 128 → Faulty s r → Looked words sites s.count s.at i → s.count ≤ i → LevelsOf text rows scope.n words s.at l
      → t ≡ Over scope s l → t ≡ true → PairTaken text rows scope words sites lowest s sites lowest r
  unfolding gather Gives
  taken-over a b q f l y e t = record {
    kept = record { sites_same = refl; lowest_same = refl; few = omega (arith, b, q.3); count = omega (arith, a, q.2, q.3) };
    at = q.0;
    left = q.1;
    gives = λ p names sec own seen h z u x k. rw (unused f l h x, over-is scope.others s.own (y.counts p names sec u x k) e t) (q.4, rw q.0 x);
  }

  pub taken-new : {i : ℕ} {l : Levels} {t : Bool} → length sites ≡ 128 → length lowest ≡ 128 → s.count ≤ s.own → (l.count ≡ 0 → ⊥) → Looked words sites s.count s.at i → s.count ≤ i
      → LevelsOf text rows scope.n words s.at l → t ≡ Over scope s l → t ≡ false
      → PairTaken text rows scope words sites lowest s (set sites s.count s.at) (set lowest s.count s.own) (record { at = s.at; left = s.left; count = s.count + 1; own = s.own + l.count; fault = 0 })
  unfolding gather Gives
  taken-new {l = l} ls lo a nz f i y e t =
      let few = few-more scope s l e t in
      let one = above_zero l.count nz in
      record {
        kept = record { sites_same = length-set sites s.count s.at; lowest_same = length-set lowest s.count s.own; few = few; count = omega (arith, a, one) };
        at = refl;
        left = refl;
        gives = λ p names sec own seen h z u x k.
            let c = y.counts p names sec u x k in
            let n : s.own + l.count ≡ s.own + length (levels_used names u) = omega (arith, c.count) in
            rw (unused f i h x, over-is scope.others s.own c e t) (refl, held-as n (held_more (omega (arith, ls, a, few, one)) (omega (arith, lo, a, few, one)) x h), sym n);
      }

-- Pair after pair

ends_at : {words : List ℕ} {p q : ℕ} {r : code.Option ℕ} → q ≡ p → Ends a_pair words p r → Ends a_pair words q r
ends_at e x = rw e x

gathered_next : (names : Names) (others own : ℕ) (seen : List Use) (u : Use) (us : List Use) (g : Gathered) → gather names others own seen (u ∷ []) ≡ g → gather names others own seen (u ∷ us) ≡ behind names others g us
gathered_next names others own seen u us g e = gather-next names others own seen u us ∙ ap (λ (x : Gathered). behind names others x us) e

module _ {text rows : List ℕ} {scope : Scope} {words sites lowest : List ℕ} {s : Spot} where
  pub pairs-done : s.count ≤ s.own → s.own ≤ 128 → s.left ≡ 0 → PairsTaken text rows scope words sites lowest s sites lowest s
  unfolding gather Gives
  pairs-done a b z = record {
    kept = record { sites_same = refl; lowest_same = refl; few = b; count = a };
    gives = λ p names sec own seen h f us k e n ks. go names own seen h f us n;
  }
    where
      go : (names : Names) (own : ℕ) (seen : List Use) → Held words sites lowest names own s.count s.own seen → s.fault ≡ 0 → (us : List Use) → length us ≡ s.left
          → Gives words sites lowest names own s (gather names scope.others s.own seen us)
      go names own seen h f [] n = (f, h, refl)
      go names own seen h f (u ∷ us) n = absurd (omega (arith, n, z))

  module _ {sites₁ lowest₁ : List ℕ} {t : Spot} (x : PairTaken text rows scope words sites lowest s sites₁ lowest₁ t) (some : 0 < s.left) where
    pub pairs-over : (t.fault ≡ 0 → ⊥) → PairsTaken text rows scope words sites lowest s sites₁ lowest₁ t
    unfolding Gives behind Each
    pairs-over z = record { kept = x.kept; gives = λ p names sec own seen h f us k e n ks. go p names sec own seen h f us k e n ks }
      where
        at-fault : (names : Names) (own : ℕ) (seen : List Use) (u : Use) (us : List Use) (g : Gathered) → gather names scope.others s.own seen (u ∷ []) ≡ g → Gives words sites₁ lowest₁ names own t g
            → Gives words sites₁ lowest₁ names own t (gather names scope.others s.own seen (u ∷ us))
        at-fault names own seen u us (gathered after all) e h = absurd (z h.0)
        at-fault names own seen u us (past v) e h = rw (gathered_next names scope.others s.own seen u us (past v) e) h

        go : (p : Program) (names : Names) → Sections text rows scope.n p names → (own : ℕ) (seen : List Use) → Held words sites lowest names own s.count s.own seen → s.fault ≡ 0
            → (us : List Use) (k : List ℕ) → drop s.at words ≡ all pair_words (pairs_of us) ++ k → length us ≡ s.left → Each (KnownUse names) us
            → Gives words sites₁ lowest₁ names own t (gather names scope.others s.own seen us)
        go p names sec own seen h f [] k e n ks = absurd (omega (arith, n, some))
        go p names sec own seen h f (u ∷ us) k e n ks = at-fault names own seen u us (gather names scope.others s.own seen (u ∷ [])) refl (x.gives p names sec own seen h f u (first-pair words s.at u us k e) ks.0)

    pub pairs-off : Ends a_pair words t.at code.None → PairsTaken text rows scope words sites lowest s sites₁ lowest₁ t
    pairs-off y = record { kept = x.kept; gives = λ p names sec own seen h f us k e n ks. absurd (go us k e n) }
      where
        go : (us : List Use) (k : List ℕ) → drop s.at words ≡ all pair_words (pairs_of us) ++ k → length us ≡ s.left → ⊥
        go [] k e n = omega (arith, n, some)
        go (u ∷ us) k e n = no-pair-off words s.at u us k e (ends_at (sym x.at) y)

    pub pairs-step : {next left : ℕ} {sites' lowest' : List ℕ} {r : Spot} → t.fault ≡ 0 → Ends a_pair words t.at (code.Some next) → left ≡ t.left - 1
        → PairsTaken text rows scope words sites₁ lowest₁ (moved_to t next left) sites' lowest' r → PairsTaken text rows scope words sites lowest s sites' lowest' r
    unfolding Gives behind Each
    pairs-step {next} {left} {sites'} {lowest'} {r} z y l more = record {
      kept = record { sites_same = more.kept.sites_same ∙ x.kept.sites_same; lowest_same = more.kept.lowest_same ∙ x.kept.lowest_same; few = more.kept.few; count = more.kept.count };
      gives = λ p names sec own seen h f us k e n ks. go p names sec own seen h f us k e n ks;
    }
      where
        onward : (p : Program) (names : Names) → Sections text rows scope.n p names → (own : ℕ) (seen : List Use) (u : Use) (us : List Use) (k : List ℕ) → drop next words ≡ all pair_words (pairs_of us) ++ k → length us ≡ left → Each (KnownUse names) us
            → (g : Gathered) → gather names scope.others s.own seen (u ∷ []) ≡ g → Gives words sites₁ lowest₁ names own t g
            → Gives words sites' lowest' names own r (gather names scope.others s.own seen (u ∷ us))
        onward p names sec own seen u us k e n ks (gathered after seen₁) d h =
            rw (gathered_next names scope.others s.own seen u us (gathered after seen₁) d, h.2) (more.gives p names sec own seen₁ h.1 refl us k e n ks)
        onward p names sec own seen u us k e n ks (past v) d h = let q = h.0 in absurd (omega (arith, q, z))

        go : (p : Program) (names : Names) → Sections text rows scope.n p names → (own : ℕ) (seen : List Use) → Held words sites lowest names own s.count s.own seen → s.fault ≡ 0
            → (us : List Use) (k : List ℕ) → drop s.at words ≡ all pair_words (pairs_of us) ++ k → length us ≡ s.left → Each (KnownUse names) us
            → Gives words sites' lowest' names own r (gather names scope.others s.own seen us)
        go p names sec own seen h f [] k e n ks = absurd (omega (arith, n, some))
        go p names sec own seen h f (u ∷ us) k e n ks =
            let q = later-pairs words s.at u us k e (ends_at (sym x.at) y) in
            let m = x.left in
            onward p names sec own seen u us k (sym q.0) (omega (arith, n, l, m)) ks.1 (gather names scope.others s.own seen (u ∷ [])) refl
            (x.gives p names sec own seen h f u (first-pair words s.at u us k e) ks.0)

pub moved : {r : Spot} {at left count own : ℕ} → r ≡ record { at = at; left = left; count = count; own = own; fault = 0 } → (r.at ≡ at) × (r.left ≡ left) × (r.count ≡ count) × (r.own ≡ own) × (r.fault ≡ 0)
moved e = (ap (λ (x : Spot). x.at) e, ap (λ (x : Spot). x.left) e, ap (λ (x : Spot). x.count) e, ap (λ (x : Spot). x.own) e, ap (λ (x : Spot). x.fault) e)

pub pairs-as : {text rows : List ℕ} {scope : Scope} {words sites lowest : List ℕ} {s s₁ : Spot} {sites' lowest' : List ℕ} {r : Spot} → s ≡ s₁ → PairsTaken text rows scope words sites lowest s sites' lowest' r
    → PairsTaken text rows scope words sites lowest s₁ sites' lowest' r
pairs-as e x = rw (← e) x
