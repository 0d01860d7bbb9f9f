-- A name looked up on the common part's list, and among the operand rules of pairs.
use mathlib.Core.Bool.{Bool, true, false}
use mathlib.Core.List.{List, [], ◌∷◌, ◌++◌, append_assoc}
use mathlib.Core.Path.{◌≡◌, refl, sym, ap, ◌∙◌}
use native.Mathlib.Omega.{arith}
use Prim.Native.Nat.{ℕ, zero, suc, ◌+◌, ◌*◌, ◌<◌, ◌≤◌}
use lib.ListN.{get_or-append, length, get_or, take, drop, length-append, length-drop}
use lib.Seq.{drop-drop, get_or-drop, length-take-le}
use Rattle.base.specs.Common.{same}
use Rattle.std.specs.Prelude.{Some, None}
use Rattle.parts.specs.Link.{listed_type}
use Rattle.syntax.specs.Texts.{Head}
use Rattle.objects.proofs.TakeLaws.{times-exact}
use Rattle.objects.proofs.Views.{pair-exact, name-exact}
use Rattle.objects.specs.Order.{stands_at, is_listed}
use Rattle.objects.specs.Places.{EndsAt, Ends, NameAt, HeadsAt, text_at}
use Rattle.objects.specs.Take.{took, Taker, times}
use Rattle.objects.specs.View.{Name, Pair, name_words, pair_words, all, a_name, a_pair}

-- The list

pub listed-none : (hs : List Head) (i : ℕ) (n : Name) → length hs ≤ i → is_listed (drop i hs) n ≡ false
unfolding is_listed listed_type
listed-none [] zero n l = refl
listed-none [] (suc i) n l = refl
listed-none (h ∷ hs) zero n l = absurd (omega (arith, l))
listed-none (h ∷ hs) (suc i) n l = listed-none hs i n (omega (arith, l))

pub listed_found : (hs : List Head) (i : ℕ) (n : Name) → i < length hs → same n.text (text_at hs i) ≡ true → is_listed (drop i hs) n ≡ true
unfolding is_listed listed_type text_at
listed_found [] i n l e = absurd (omega (arith, l))
listed_found (h ∷ hs) zero n l e = rw e
listed_found (h ∷ hs) (suc i) n l e = listed_found hs i n (omega (arith, l)) e

pub listed-later : (hs : List Head) (i : ℕ) (n : Name) → i < length hs → same n.text (text_at hs i) ≡ false → is_listed (drop i hs) n ≡ is_listed (drop (i + 1) hs) n
unfolding is_listed listed_type text_at
listed-later [] i n l e = absurd (omega (arith, l))
listed-later (h ∷ hs) zero n l e = rw e
listed-later (h ∷ hs) (suc i) n l e =
    let d : suc i + 1 ≡ suc (i + 1) = omega arith in
    listed-later hs i n (omega (arith, l)) e ∙ ap (λ j. is_listed (drop j (h ∷ hs)) n) (sym d)

-- what is compared is the name of the list's line i
pub line-is : {common heads : List ℕ} {hs : List Head} (x : HeadsAt common heads hs) (t : List ℕ) (i start size : ℕ) (r : Bool) → i < length hs → start ≡ get_or heads (4 * i) 0 → size ≡ get_or heads (4 * i + 1) 0
    → (start + size ≤ length common → r ≡ same t (take size (drop start common))) → same t (text_at hs i) ≡ r
line-is {common} {heads} x t i start size r l ds dz h =
    let a = x.inside i l in
    ap (same t) (x.names i l ∙ ap (λ k. take k (drop (get_or heads (4 * i) 0) common)) (sym dz) ∙ ap (λ k. take size (drop k common)) (sym ds)) ∙ sym (h (omega (arith, a, ds, dz)))

-- The pairs

-- the words of a name are a name at its place
pub name-at : (words : List ℕ) (p : ℕ) (n : Name) (k : List ℕ) → drop p words ≡ name_words n ++ k → NameAt words p n
unfolding name_words
name-at words p n k e =
    let a = length-drop p words in
    let b = ap length e in
    let d = length-append n.text k in
    record {
      there = omega (arith, a, b, d);
      size = sym (get_or-drop p words 1 0) ∙ ap (λ (ws : List ℕ). get_or ws 1 0) e;
      bytes = λ j l. byte-is j l;
    }
  where
    byte-is : (j : ℕ) → j < length n.text → get_or words (p + 2 + j) 0 ≡ get_or n.text j 0
    byte-is j l =
        let f : p + 2 + j ≡ p + suc (suc j) = omega arith in
        ap (λ (i : ℕ). get_or words i 0) f ∙ sym (get_or-drop p words (suc (suc j)) 0) ∙ ap (λ (ws : List ℕ). get_or ws (suc (suc j)) 0) e ∙ get_or-append n.text k 0 j l

pub stands-none : (ps : List Pair) (k : ℕ) (n : Name) → length ps ≤ k → stands_at ps k n ≡ false
unfolding stands_at
stands-none [] k n l = refl
stands-none (p ∷ ps) zero n l = absurd (omega (arith, l))
stands-none (p ∷ ps) (suc k) n l = stands-none ps k n (omega (arith, l))

-- the pair at a place, and those behind it
record Kth (ps : List Pair) (k : ℕ) : Type 0 where
  pub pair : Pair
  pub later : List Pair
  pub is : drop k ps ≡ pair ∷ later
  pub stands : (n : Name) → stands_at ps k n ≡ same pair.operand.text n.text

kth : (ps : List Pair) (k : ℕ) → k < length ps → Kth ps k
unfolding stands_at
kth [] k l = absurd (omega (arith, l))
kth (p ∷ ps) zero l = record { pair = p; later = ps; is = refl; stands = λ n. refl }
kth (p ∷ ps) (suc k) l = let x = kth ps k (omega (arith, l)) in record { pair = x.pair; later = x.later; is = x.is; stands = x.stands }

all_split : (ps : List Pair) (k : ℕ) (rest : List ℕ) → all pair_words ps ++ rest ≡ all pair_words (take k ps) ++ (all pair_words (drop k ps) ++ rest)
unfolding all
all_split ps zero rest = refl
all_split [] (suc k) rest = refl
all_split (p ∷ ps) (suc k) rest =
    append_assoc (pair_words p) (all pair_words ps) rest ∙ ap (λ ws. pair_words p ++ ws) (all_split ps k rest) ∙ sym (append_assoc (pair_words p) (all pair_words (take k ps)) (all pair_words (drop k ps) ++ rest))

-- where a taker ends whose outcome is known
pub ends-took : {A : Type 0} {m : Taker A} {words : List ℕ} {at r : ℕ} (a : A) (rest : List ℕ) → m (drop at words) ≡ took a rest → Ends m words at (Some r) → (rest ≡ drop r words) × (r ≤ length words)
unfolding EndsAt
ends-took {m = m} {words = words} {at = at} {r = r} a rest e x = rw e at x.is

-- it ends somewhere
pub not-none : {A : Type 0} {m : Taker A} {words : List ℕ} {at : ℕ} (a : A) (rest : List ℕ) → m (drop at words) ≡ took a rest → Ends m words at None → ⊥
unfolding EndsAt
not-none {m = m} {words = words} {at = at} a rest e x = rw e at x.is

-- the operand rule of the pair at the place k
pub record OperandAt (words : List ℕ) (ps : List Pair) (k at : ℕ) : Type 0 where
  pub inside : at + 2 ≤ length words
  pub operand : Name
  pub found : (r : ℕ) → Ends a_name words (at + 2) (Some r) → (r ≤ length words) × NameAt words r operand
  pub there : Ends a_name words (at + 2) None → ⊥
  pub stands : (n : Name) → stands_at ps k n ≡ same operand.text n.text

operand-of : (words : List ℕ) (ps : List Pair) (k at : ℕ) (rest : List ℕ) (x : Kth ps k) → all pair_words (drop k ps) ++ rest ≡ drop at words → OperandAt words ps k at
unfolding all pair_words name_words
operand-of words ps k at rest x e = record { inside = inside; operand = x.pair.operand; found = found; there = not-none p.section (name_words p.operand ++ more) taken; stands = x.stands }
  where
    p : Pair
    p = x.pair

    more : List ℕ
    more = all pair_words x.later ++ rest

    here : drop at words ≡ p.start ∷ p.size ∷ (name_words p.section ++ (name_words p.operand ++ more))
    here = sym e ∙ ap (λ qs. all pair_words qs ++ rest) x.is ∙ append_assoc (pair_words p) (all pair_words x.later) rest
        ∙ ap (λ ws. p.start ∷ p.size ∷ ws) (append_assoc (name_words p.section) (name_words p.operand) more)

    inside : at + 2 ≤ length words
    inside = let a = length-drop at words in let b = ap length here in omega (arith, a, b)

    behind : drop (at + 2) words ≡ name_words p.section ++ (name_words p.operand ++ more)
    behind = sym (drop-drop 2 at words) ∙ ap (λ (ws : List ℕ). drop 2 ws) here

    taken : a_name (drop (at + 2) words) ≡ took p.section (name_words p.operand ++ more)
    taken = ap a_name behind ∙ name-exact.back p.section tt (name_words p.operand ++ more)

    found : (r : ℕ) → Ends a_name words (at + 2) (Some r) → (r ≤ length words) × NameAt words r p.operand
    found r y =
        let z = ends-took p.section (name_words p.operand ++ more) taken y in
        (z.1, name-at words r p.operand more (sym z.0))

-- k pairs are there
pairs-taken : (words : List ℕ) (pairs count k : ℕ) (ps : List Pair) (rest : List ℕ) → times count a_pair (drop pairs words) ≡ took ps rest → k < count
    → times k a_pair (drop pairs words) ≡ took (take k ps) (all pair_words (drop k ps) ++ rest)
pairs-taken words pairs count k ps rest e l =
    let x = (times-exact pair-exact count).forth (drop pairs words) ps rest e in
    let n = x.1 in
    let size = length-take-le k ps (omega (arith, n, l)) in
    ap (times k a_pair) (x.0 ∙ all_split ps k rest) ∙ (times-exact pair-exact k).back (take k ps) size (all pair_words (drop k ps) ++ rest)

pub pairs-there : (words : List ℕ) (pairs count k : ℕ) (ps : List Pair) (rest : List ℕ) → times count a_pair (drop pairs words) ≡ took ps rest → k < count → Ends (times k a_pair) words pairs None → ⊥
pairs-there words pairs count k ps rest e l y = not-none (take k ps) _ (pairs-taken words pairs count k ps rest e l) y

pub operand_at : (words : List ℕ) (pairs count k at : ℕ) (ps : List Pair) (rest : List ℕ) → times count a_pair (drop pairs words) ≡ took ps rest → k < count → Ends (times k a_pair) words pairs (Some at) → OperandAt words ps k at
operand_at words pairs count k at ps rest e l y =
    let n = ((times-exact pair-exact count).forth (drop pairs words) ps rest e).1 in
    let z = ends-took (take k ps) (all pair_words (drop k ps) ++ rest) (pairs-taken words pairs count k ps rest e l) y in
    operand-of words ps k at rest (kth ps k (omega (arith, n, l))) z.0

pub as_many : (words : List ℕ) (pairs count : ℕ) (ps : List Pair) (rest : List ℕ) → times count a_pair (drop pairs words) ≡ took ps rest → length ps ≡ count
as_many words pairs count ps rest e = ((times-exact pair-exact count).forth (drop pairs words) ps rest e).1
