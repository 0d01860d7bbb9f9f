-- Laws of closing a rule where it stands in the words.
use mathlib.Core.Bool.{Bool, true, false}
use mathlib.Core.List.{List, [], ◌∷◌, ◌++◌, append_assoc}
use mathlib.Core.Path.{◌≡◌, refl, sym, ap, ◌∙◌}
use native.Mathlib.Numerals.{add-one}
use native.Mathlib.Omega.{arith}
use Prim.Native.Nat.{ℕ, zero, suc, ◌+◌, ◌-◌, ◌<◌, ◌≤◌}
use lib.ListN.{length, get_or, take, drop, get_or-eq_default}
use lib.Seq.{drop-cons}
use Rattle.linkage.specs.Closing.{Lows, places_of, Behind, close_spot, Turned}
use Rattle.linkage.specs.declared.Names.{Names}
use Rattle.linkage.specs.declared.Spot.{Spot}
use Rattle.linkage.specs.declared.Uses.{Uses}
use Rattle.linker.proofs.Passing.{first-turn, operand-turn}
use Rattle.linker.proofs.Placing.{end-behind}
use Rattle.linker.specs.Close.{is_call, behind, in_row, aimed, operand, places_after, close_from}
use Rattle.linker.specs.Place.{text_at, texts_at, place_of, places_for, behind_name, texts_from, texts_end, lowests}
use Rattle.linkpairs.specs.Standing.{Held, PairAt}
use Rattle.names.specs.Known as known
use Rattle.names.specs.Uses.{Use, lowest_of}
use Rattle.std.specs.Prelude as code
use Rattle.objects.proofs.Looked.{ends-took, not-none}
use Rattle.objects.proofs.TakeLaws.{times-exact}
use Rattle.objects.proofs.Views.{pair-exact, pairs-length}
use Rattle.objects.specs.Places.{Ends}
use Rattle.objects.specs.Take.{took, times}
use Rattle.objects.specs.View.{a_pair, pair_of, pairs_of, all, pair_words}

-- The names of the calls

pub behind-none : (ws : List ℕ) (c : Names) → c.left ≡ 0 → Behind ws c c
unfolding texts_from texts_end
behind-none ws c e = rw e (record { texts = refl; end = refl })

pub behind-one : (ws : List ℕ) (c : Names) (m : ℕ) → (c.left ≡ 0 → ⊥) → m ≡ get_or ws (c.at + 1) 0 → Behind ws c (record { at = c.at + 2 + m; left = c.left - 1 })
unfolding texts_from texts_end behind_name
behind-one ws c m n e = go c.left refl n
  where
    go : (l : ℕ) → c.left ≡ l → (c.left ≡ 0 → ⊥) → Behind ws c (record { at = c.at + 2 + m; left = c.left - 1 })
    go zero d n = absurd (n d)
    go (suc l) d n = let z : c.left - 1 ≡ l = omega arith in rw (z, d, e) (record { texts = refl; end = refl })

-- they lie before the end of all of them
pub past_one : (ws : List ℕ) (c : Names) → (c.left ≡ 0 → ⊥) → c.at + 2 + get_or ws (c.at + 1) 0 ≤ texts_end ws c.at c.left
unfolding texts_end behind_name
past_one ws c n = go c.left refl
  where
    go : (l : ℕ) → c.left ≡ l → c.at + 2 + get_or ws (c.at + 1) 0 ≤ texts_end ws c.at c.left
    go zero d = absurd (n d)
    go (suc l) d = rw d (end-behind ws (c.at + 2 + get_or ws (c.at + 1) 0) l)

-- The pairs

-- the pair at k
record Kth (us : List Use) (k : ℕ) : Type 0 where
  first : List Use
  use₁ : Use
  later : List Use
  is : us ≡ first ++ (use₁ ∷ later)
  long : length first ≡ k

kth : (us : List Use) (k : ℕ) → k < length us → Kth us k
kth [] k l = absurd (omega arith)
kth (u ∷ us) zero l = record { first = []; use₁ = u; later = us; is = refl; long = refl }
kth (u ∷ us) (suc k) l = let x = kth us k (omega arith) in record { first = u ∷ x.first; use₁ = x.use₁; later = x.later; is = ap (λ vs. u ∷ vs) x.is; long = ap suc x.long }

pairs-split : (us vs : List Use) (k : List ℕ) → all pair_words (pairs_of (us ++ vs)) ++ k ≡ all pair_words (pairs_of us) ++ (all pair_words (pairs_of vs) ++ k)
unfolding all pairs_of
pairs-split [] vs k = refl
pairs-split (u ∷ us) vs k =
    append_assoc (pair_words (pair_of u)) (all pair_words (pairs_of (us ++ vs))) k ∙ ap (λ (x : List ℕ). pair_words (pair_of u) ++ x) (pairs-split us vs k)
    ∙ sym (append_assoc (pair_words (pair_of u)) (all pair_words (pairs_of us)) (all pair_words (pairs_of vs) ++ k))

-- those before it are there
pairs-there : (words : List ℕ) (at : ℕ) (us : List Use) (rest : List ℕ) {k : ℕ} → drop at words ≡ all pair_words (pairs_of us) ++ rest → (x : Kth us k)
    → times k a_pair (drop at words) ≡ took (pairs_of x.first) (all pair_words (pairs_of (x.use₁ ∷ x.later)) ++ rest)
unfolding all pairs_of
pairs-there words at us rest {k} e x =
    let s : drop at words ≡ all pair_words (pairs_of x.first) ++ (all pair_words (pairs_of (x.use₁ ∷ x.later)) ++ rest) =
    e ∙ ap (λ (vs : List Use). all pair_words (pairs_of vs) ++ rest) x.is ∙ pairs-split x.first (x.use₁ ∷ x.later) rest in
    ap (times k a_pair) s ∙ (times-exact pair-exact k).back (pairs_of x.first) (pairs-length x.first ∙ x.long) (all pair_words (pairs_of (x.use₁ ∷ x.later)) ++ rest)

-- it stands behind those before it
pair-at : (words : List ℕ) (at : ℕ) (us : List Use) (rest : List ℕ) {k p : ℕ} → drop at words ≡ all pair_words (pairs_of us) ++ rest → (x : Kth us k) → Ends (times k a_pair) words at (code.Some p) → PairAt words p x.use₁
unfolding all pairs_of
pair-at words at us rest {k} {p} e x h =
    let t = ends-took (pairs_of x.first) (all pair_words (pairs_of (x.use₁ ∷ x.later)) ++ rest) (pairs-there words at us rest e x) h in
    record { rest = all pair_words (pairs_of x.later) ++ rest; is = sym t.0 ∙ append_assoc (pair_words (pair_of x.use₁)) (all pair_words (pairs_of x.later)) rest }

lowest-kth : (n : known.Names) (own : ℕ) (cs us : List Use) (k : ℕ) (x : Kth us k) → in_row (lowests n own cs us) k ≡ lowest_of n x.use₁ own cs
unfolding lowests
lowest-kth n own cs us k x = rw (x.is, ← x.long) (go x.first)
  where
    go : (fs : List Use) → get_or (lowests n own cs (fs ++ (x.use₁ ∷ x.later))) (length fs) 0 ≡ lowest_of n x.use₁ own cs
    go [] = refl
    go (f ∷ fs) = go fs

lowests-long : (n : known.Names) (own : ℕ) (cs us : List Use) → length (lowests n own cs us) ≡ length us
unfolding lowests
lowests-long n own cs [] = refl
lowests-long n own cs (u ∷ us) = ap suc (lowests-long n own cs us)

module _ {words sites lowest : List ℕ} {r : Uses} {low : ℕ → ℕ} (h : Lows words sites lowest r low) where
  pub low-none : (k : ℕ) → r.count ≤ k → 0 ≡ low k
  low-none k l = sym (h.is k ∙ get_or-eq_default (lowests h.names h.own h.collected h.uses) 0 {n = k} (omega (arith, h.as_many, lowests-long h.names h.own h.collected h.uses)))

  pub low-there : (k : ℕ) → k < r.count → Ends (times k a_pair) words r.at code.None → ⊥
  low-there k l e = let x = kth h.uses k (omega (arith, h.as_many)) in not-none (pairs_of x.first) _ (pairs-there words r.at h.uses h.rest h.stand x) e

  pub low-found : (k : ℕ) {p x : ℕ} → k < r.count → Ends (times k a_pair) words r.at (code.Some p)
      → ((names : known.Names) (own after : ℕ) (us : List Use) (u : Use) → Held words sites lowest names own r.collected after us → PairAt words p u → x ≡ lowest_of names u own us) → x ≡ low k
  low-found k l e f =
      let x = kth h.uses k (omega (arith, h.as_many)) in
      f h.names h.own h.after h.collected x.use₁ h.held (pair-at words r.at h.uses h.rest h.stand x e)
      ∙ sym (h.is k ∙ lowest-kth h.names h.own h.collected h.uses k x)

-- The number for a mark

module _ (low : ℕ → ℕ) (words names : List ℕ) (c : Names) where
  pub by_pair : (m w r : ℕ) → (m ≡ 0 → ⊥) → w ≡ m - 1 → r ≡ low w → r ≡ aimed low (places_of words names c) m
  unfolding aimed
  by_pair zero w r n e h = absurd (n refl)
  by_pair (suc k) w r n e h = let z : w ≡ k = omega arith in h ∙ ap low z

  pub by-none : (m : ℕ) → m ≡ 0 → c.left ≡ 0 → 0 ≡ aimed low (places_of words names c) m
  unfolding aimed texts_from places_for
  by-none zero e d = rw d refl
  by-none (suc k) e d = absurd (omega arith)

  pub by_name : (m r : ℕ) → m ≡ 0 → (c.left ≡ 0 → ⊥) → r ≡ place_of (text_at words c.at) (texts_at words names) → r ≡ aimed low (places_of words names c) m
  unfolding aimed texts_from places_for
  by_name zero r e n h = go c.left refl
    where
      go : (l : ℕ) → c.left ≡ l → r ≡ aimed low (places_of words names c) 0
      go zero d = absurd (n d)
      go (suc l) d = rw d h
  by_name (suc k) r e n h = absurd (omega arith)

  -- A turn

  places_of-behind : {r : Names} → Behind words c r → places_of words names r ≡ drop 1 (places_of words names c)
  unfolding places_for
  places_of-behind {r} b = ap (places_for (texts_at words names)) b.texts ∙ go (texts_from words c.at c.left)
    where
      go : (ts : List (List ℕ)) → places_for (texts_at words names) (drop 1 ts) ≡ drop 1 (places_for (texts_at words names) ts)
      go [] = refl
      go (t ∷ ts) = refl

pub turned-first : (low : ℕ → ℕ) (words names : List ℕ) (s : Spot) (x b : ℕ) → s.left ≡ 0 → b ≡ behind x → Turned low words names s x (record { first = x; left = b; calls = s.calls; cell = x })
turned-first low words names s x b e h = record { closes = λ cells. first-turn low s.first s.left x b (places_of words names s.calls) cells e h }

pub turned-call : (low : ℕ → ℕ) (words names : List ℕ) (s : Spot) (x y : ℕ) {r : Names} {t : Bool} → (s.left ≡ 0 → ⊥) → t ≡ is_call s.first → t ≡ true
    → y ≡ aimed low (places_of words names s.calls) x → Behind words s.calls r → Turned low words names s x (record { first = s.first; left = s.left - 1; calls = r; cell = y })
unfolding operand places_after
turned-call low words names s x y {r} n i e h b =
    let c : is_call s.first ≡ true = sym i ∙ e in
    record { closes = λ cells. operand-turn low s.first s.left x y (places_of words names s.calls) (places_of words names r) cells n (rw c h) (rw c (places_of-behind low words names s.calls b)) }

pub turned-copy : (low : ℕ → ℕ) (words names : List ℕ) (s : Spot) (x : ℕ) {t : Bool} → (s.left ≡ 0 → ⊥) → t ≡ is_call s.first → t ≡ false
    → Turned low words names s x (record { first = s.first; left = s.left - 1; calls = s.calls; cell = x })
unfolding operand places_after
turned-copy low words names s x n i e =
    let c : is_call s.first ≡ false = sym i ∙ e in
    record { closes = λ cells. operand-turn low s.first s.left x x (places_of words names s.calls) (places_of words names s.calls) cells n (rw c refl) (rw c refl) }

-- The pass

-- what is left to close from the word p on, up to `end`
abbrev pub rest : (ℕ → ℕ) → List ℕ → List ℕ → ℕ → ℕ → Spot → List ℕ
rest low words names end p s = close_spot low words names s (take (end - p) (drop p words))

pub goes_on : (low : ℕ → ℕ) (words names : List ℕ) (end p : ℕ) (s r : Spot) (x : ℕ) → p < end → end ≤ length words → x ≡ get_or words p 0 → Turned low words names s x r
    → rest low words names end p s ≡ r.cell ∷ rest low words names end (p + 1) r
goes_on low words names end p s r x l m e t =
    let h : p < length words = omega arith in
    let z : end - p ≡ suc (end - (p + 1)) = omega arith in
    let d : drop p words ≡ x ∷ drop (p + 1) words = drop-cons words p 0 h ∙ (ap (λ y. y ∷ drop (suc p) words) (sym e) ∙ ap (λ i. x ∷ drop i words) (sym (add-one p))) in
    let a : take (end - p) (drop p words) ≡ x ∷ take (end - (p + 1)) (drop (p + 1) words) = ap (λ i. take i (drop p words)) z ∙ ap (take (suc (end - (p + 1)))) d in
    ap (close_spot low words names s) a ∙ t.closes (take (end - (p + 1)) (drop (p + 1) words))

pub ends : (low : ℕ → ℕ) (words names : List ℕ) (end p : ℕ) (s : Spot) → end ≤ p → rest low words names end p s ≡ []
unfolding close_from
ends low words names end p s l = let z : end - p ≡ 0 = omega arith in ap (λ i. close_spot low words names s (take i (drop p words))) z
