-- What the figures of a shelf are: sums over the calls of its books; and rule by rule the same grand total.
use mathlib.Core.Bool.{true, false, ◌&&◌}
use mathlib.Core.List.{List, [], ◌∷◌, ◌++◌, append-nil}
use mathlib.Core.Path.{◌≡◌, refl, sym, ap, ap₂, ◌∙◌, subst}
use Prim.Native.Nat.{ℕ, zero, suc, ◌+◌, ◌*◌, ◌-◌, ◌≤◌, ◌<◌}
use native.Mathlib.Omega.{arith}
use lib.Dec.{eqb}
use lib.ListN.{length, take, drop, get_or, replicate, length-replicate, replicate-append-replicate}
use lib.Seq.{drop-drop, get_or-drop}
use borrow.Author.Tests.{eq-eqb, ne_eqb, eqb-true}
use Rattle.base.proofs.Laws.{same_refl, same-eq, zeros-at}
use Rattle.std.specs.Prelude.{if◌then◌else◌}
use Rattle.base.specs.Common.{same}
use Rattle.base.specs.Bools.{and, both}
use Rattle.figures.proofs.Bits.{covered-is, bits-bumps, bit_is}
use Rattle.figures.proofs.Steps.{Every, Inside, Valid, length-visited, valid-visited, inside, visited-inside}
use Rattle.figures.proofs.Sums.{length-bumps, sum-bumps, get_d-bumps, decided}
use Rattle.figures.specs.ByRule.{rule_total, rule_totals}
use Rattle.figures.specs.Figures.{sum, Figures, empty, bumps, marks, plus, covered, below64, within64, bits_of, sound}
use Rattle.figures.specs.Figures as figures
use Rattle.figures.specs.Shelf.{Shelf, no_book, and_book, all_steps, all_visited, bit_at, Sums, RuleByRule}
use Rattle.figures.specs.Visits.{Given, called, visited, tally}
use Rattle.program.proofs.Lengths.{length-table}
use Rattle.program.proofs.Places.{place-from}
use Rattle.program.specs.Program.{Rule, rule_of}
use Rattle.program.specs.Table.{size_rule, size_rules, place, table}

tally-append : (l : ℕ) (a b : List ℕ) → tally l (a ++ b) ≡ tally l a + tally l b
unfolding tally
tally-append l [] b = omega arith
tally-append l (x ∷ a) b = let ih = tally-append l a b in omega arith

-- a location of any table that a call may be handed is one of 4,096
every-inside : (T : List ℕ) (g : Given) → length T ≤ 4096 → Every (Inside 4096) (visited T g)
every-inside T g h = go (visited T g) (valid-visited T g)
  where
    one : (l : ℕ) → Valid T l → Inside 4096 l
    one l v =
        let i = inside T 0 l (subst (λ (t : List ℕ). Valid t l) (sym (append-nil T)) v) in
        (i.0, omega (arith, i.1))

    go : (ls : List ℕ) → Every (Valid T) ls → Every (Inside 4096) ls
    go [] e = tt
    go (l ∷ ls) e = (one l e.0, go ls e.1)

sum_zeros : (n : ℕ) → sum (replicate n 0) ≡ 0
unfolding sum
sum_zeros zero = refl
sum_zeros (suc n) = let ih = sum_zeros n in omega arith

packed-zeros : (n : ℕ) → figures.packed (replicate n 0) ≡ 0
unfolding figures.packed figures.flag
packed-zeros zero = refl
packed-zeros (suc n) = let ih = packed-zeros n in omega arith

-- the bits of zeros, word by word
bits-zeros : (n : ℕ) → bits_of n (replicate (n * 64) 0) ≡ replicate n 0
unfolding bits_of
bits-zeros zero = refl
bits-zeros (suc n) =
    let e : suc n * 64 ≡ 64 + n * 64 = omega arith in
    ap (bits_of (suc n)) (ap (λ (k : ℕ). replicate k 0) e ∙ sym (replicate-append-replicate {A = ℕ} 64 (n * 64) 0)) ∙ ap₂ (λ (x : ℕ) (l : List ℕ). x ∷ l) (packed-zeros 64) (bits-zeros n)

sums-empty : (T : List ℕ) → Sums T empty []
unfolding empty all_steps tally all_visited
sums-empty T =
    let b : ◌≡◌ {A = List ℕ} (bits_of 64 (replicate 4096 0)) (replicate 64 0) = bits-zeros 64 in
    record {
      size = length-replicate {A = ℕ} 4096 0;
      counts = λ i. zeros-at 4096 i;
      bits = sym b;
      bit = λ l p h. ap (λ (ws : List ℕ). bit_at ws l) (sym b) ∙ bit_is (replicate 4096 0) l p h;
      coverage = ap covered (sym b) ∙ covered-is (replicate 4096 0) (length-replicate {A = ℕ} 4096 0);
      books = refl;
      total = refl;
      sum_of_counts = sym (sum_zeros 4096);
    }

sums-plus : (T : List ℕ) (f : Figures) (gs : List Given) (g : Given) → length T ≤ 4096 → Sums T f gs → Sums T (plus T g f) (g ∷ gs)
unfolding plus all_steps all_visited
sums-plus T f gs g h s =
    let e = every-inside T g h in
    let e₁ : Every (Inside (length f.counts)) (visited T g) = subst (λ (n : ℕ). Every (Inside n) (visited T g)) (sym s.size) e in
    let z : length (bumps f.counts (visited T g)) ≡ 4096 = length-bumps f.counts (visited T g) ∙ s.size in
    let b : marks f.bits (visited T g) ≡ bits_of 64 (bumps f.counts (visited T g)) = ap (λ (ws : List ℕ). marks ws (visited T g)) s.bits ∙ sym (bits-bumps f.counts (visited T g) s.size e) in
    record {
      size = z;
      counts = λ i. get_d-bumps f.counts (visited T g) i e₁ ∙ omega (arith, s.counts i, tally-append (suc i) (visited T g) (all_visited T gs));
      bits = b;
      bit = λ l p q. ap (λ (ws : List ℕ). bit_at ws l) b ∙ bit_is (bumps f.counts (visited T g)) l p q;
      coverage = ap covered b ∙ covered-is (bumps f.counts (visited T g)) z;
      books = omega (arith, s.books);
      total = omega (arith, s.total);
      sum_of_counts = omega (arith, s.sum_of_counts, sum-bumps f.counts (visited T g) e₁, length-visited T g);
    }

-- for every shelf over a table (words past 4,096 are outside it)
pub shelf-sums : (T : List ℕ) {f : Figures} {gs : List Given} → length T ≤ 4096 → Shelf T f gs → Sums T f gs
shelf-sums T h no_book = sums-empty T
shelf-sums T h (and_book {f = f} {gs = gs} s g e) = sums-plus T f gs g h (shelf-sums T h s)

-- Rule by rule

sum-split : (n : ℕ) (cs : List ℕ) → sum (take n cs) + sum (drop n cs) ≡ sum cs
unfolding sum
sum-split zero cs = omega arith
sum-split (suc n) [] = omega arith
sum-split (suc n) (c ∷ cs) = let ih = sum-split n cs in omega arith

-- the rules' own places part the locations from the first
totals-from : (prog : List Rule) (cs : List ℕ) → sum (rule_totals prog cs) + sum (drop (size_rules prog) cs) ≡ sum cs
unfolding rule_totals size_rules sum
totals-from [] cs = omega arith
totals-from (r ∷ rs) cs =
    let ih = totals-from rs (drop (size_rule r) cs) in
    let d : drop (size_rules rs) (drop (size_rule r) cs) ≡ drop (size_rule r + size_rules rs) cs = drop-drop (size_rules rs) (size_rule r) cs in
    let e : sum (drop (size_rules rs) (drop (size_rule r) cs)) ≡ sum (drop (size_rule r + size_rules rs) cs) = ap sum d in
    omega (arith, sum-split (size_rule r) cs)

-- with the first of the rules at l, whose counts come first
total-from : (l : ℕ) (prog : List Rule) (cs : List ℕ) (r : ℕ) → r < length prog
    → get_or (rule_totals prog cs) r 0 ≡ sum (take (size_rule (rule_of prog r)) (drop (place l prog r - l) cs))
unfolding rule_totals rule_of place
total-from l [] cs r h = absurd (omega arith)
total-from l (b ∷ bs) cs zero h =
    let e : l - l ≡ 0 = omega arith in
    rw e
total-from l (b ∷ bs) cs (suc r) h =
    let p = place (l + size_rule b) bs r in
    let e : size_rule b + (p - (l + size_rule b)) ≡ p - l = omega (arith, place-from (l + size_rule b) bs r) in
    total-from (l + size_rule b) bs (drop (size_rule b) cs) r (omega arith)
    ∙ ap (λ (x : List ℕ). sum (take (size_rule (rule_of bs r)) x)) (drop-drop (p - (l + size_rule b)) (size_rule b) cs ∙ ap (λ (k : ℕ). drop k cs) e)

-- the r-th of them is the sum over the locations of rule r
pub total-at : (prog : List Rule) (cs : List ℕ) (r : ℕ) → r < length prog → get_or (rule_totals prog cs) r 0 ≡ rule_total prog cs r
unfolding rule_total
total-at prog cs r h = total-from 1 prog cs r h

-- nothing is counted past the table
tally-past : (n : ℕ) (ls : List ℕ) (l : ℕ) → Every (Inside n) ls → n < l → tally l ls ≡ 0
unfolding tally
tally-past n [] l e h = refl
tally-past n (x ∷ ls) l e h =
    let d : eqb x l ≡ false = ne_eqb x l (λ q. omega (arith, e.0.1)) in
    let ih = tally-past n ls l e.1 h in
    rw d (omega arith)

every_append : (P : ℕ → Type 0) (a b : List ℕ) → Every P a → Every P b → Every P (a ++ b)
every_append P [] b h k = k
every_append P (x ∷ a) b h k = (h.0, every_append P a b h.1 k)

all-inside : (a : List ℕ) (z : ℕ) (gs : List Given) → Every (Inside (length a)) (all_visited (a ++ replicate z 0) gs)
unfolding all_visited
all-inside a z [] = tt
all-inside a z (g ∷ gs) = every_append (Inside (length a)) (visited (a ++ replicate z 0) g) (all_visited (a ++ replicate z 0) gs) (visited-inside a z g) (all-inside a z gs)

sum-none : (cs : List ℕ) → ((i : ℕ) → get_or cs i 0 ≡ 0) → sum cs ≡ 0
unfolding sum
sum-none [] h = refl
sum-none (c ∷ cs) h = let ih = sum-none cs (λ i. h (suc i)) in omega (arith, h 0)

-- "for the table of an accepted program a second way takes them rule by rule and must reach the same grand total, which is the number of instructions done in all walks": with zeros behind the table
pub by-rule : (prog : List Rule) (z : ℕ) {f : Figures} {gs : List Given} → length (table prog ++ replicate z 0) ≤ 4096 → Shelf (table prog ++ replicate z 0) f gs
    → RuleByRule (table prog ++ replicate z 0) prog f gs
by-rule prog z {f} {gs} h s =
    let T = table prog ++ replicate z 0 in
    let a = shelf-sums T h s in
    let n = size_rules prog in
    let e : Every (Inside n) (all_visited T gs) = subst (λ (k : ℕ). Every (Inside k) (all_visited T gs)) (length-table prog) (all-inside (table prog) z gs) in
    let past : (i : ℕ) → get_or (drop n f.counts) i 0 ≡ 0 = λ i. get_or-drop n f.counts i 0 ∙ a.counts (n + i) ∙ tally-past n (all_visited T gs) (suc (n + i)) e (omega arith) in
    record {
      each = total-at prog f.counts;
      grand_total = omega (arith, totals-from prog f.counts, sum-none (drop n f.counts) past, a.sum_of_counts);
      instructions = a.total;
    }

-- Adding

-- the figures of a shelf are ones that an entry takes
pub shelf-sound : (T : List ℕ) {f : Figures} {gs : List Given} → length T ≤ 4096 → Shelf T f gs → sound f ≡ true
unfolding sound all_steps
shelf-sound T {f} {gs} h s =
    let a = shelf-sums T h s in
    let b : same f.bits (bits_of 64 f.counts) ≡ true = subst (λ (ws : List ℕ). same f.bits ws ≡ true) a.bits (same_refl f.bits) in
    both (eqb (length f.counts) 4096) (same f.bits (bits_of 64 f.counts) && (eqb f.total (sum f.counts) && (if eqb f.books 0 then eqb f.total 0 else true)))
    (eq-eqb (length f.counts) 4096 a.size)
    (both (same f.bits (bits_of 64 f.counts)) (eqb f.total (sum f.counts) && (if eqb f.books 0 then eqb f.total 0 else true)) b
    (both (eqb f.total (sum f.counts)) (if eqb f.books 0 then eqb f.total 0 else true) (eq-eqb f.total (sum f.counts) a.sum_of_counts) (none-no-total gs a)))
  where
    none-no-total : (gs : List Given) → Sums T f gs → (if eqb f.books 0 then eqb f.total 0 else true) ≡ true
    none-no-total [] a = rw (eq-eqb f.books 0 a.books) (eq-eqb f.total 0 a.total)
    none-no-total (g ∷ gs) a = rw (ne_eqb f.books 0 (λ q. omega (arith, a.books)))

-- For any figures that an entry takes, whether a shelf gave them or not

-- what the test asks for
pub record Balanced (f : Figures) : Type 0 where
  pub size : length f.counts ≡ 4096
  pub bits : f.bits ≡ bits_of 64 f.counts
  pub total : f.total ≡ sum f.counts

pub balanced : (f : Figures) → sound f ≡ true → Balanced f
unfolding sound
balanced f e =
    let last = if eqb f.books 0 then eqb f.total 0 else true in
    let a = and (eqb (length f.counts) 4096) (same f.bits (bits_of 64 f.counts) && (eqb f.total (sum f.counts) && last)) e in
    let b = and (same f.bits (bits_of 64 f.counts)) (eqb f.total (sum f.counts) && last) a.1 in
    let c = and (eqb f.total (sum f.counts)) last b.1 in
    record {
      size = eqb-true (length f.counts) 4096 a.0;
      bits = same-eq f.bits (bits_of 64 f.counts) b.0;
      total = eqb-true f.total (sum f.counts) c.0;
    }

pub balanced-plus : (T : List ℕ) (f : Figures) (g : Given) → length T ≤ 4096 → Balanced f → Balanced (plus T g f)
unfolding plus
balanced-plus T f g h s =
    let e = every-inside T g h in
    let e₁ : Every (Inside (length f.counts)) (visited T g) = subst (λ (n : ℕ). Every (Inside n) (visited T g)) (sym s.size) e in
    record {
      size = length-bumps f.counts (visited T g) ∙ s.size;
      bits = ap (λ (ws : List ℕ). marks ws (visited T g)) s.bits ∙ sym (bits-bumps f.counts (visited T g) s.size e);
      total = omega (arith, s.total, sum-bumps f.counts (visited T g) e₁, length-visited T g);
    }

-- 46 exactly if the number of books or the grand total passes 64 bits
pub sound-decided : (T : List ℕ) (f : Figures) (g : Given) → length T ≤ 4096 → sound f ≡ true
    → within64 (plus T g f) ≡ (below64 (f.books + 1) && below64 (f.total + (called T g).steps))
unfolding plus
sound-decided T f g h e = decided (plus T g f) (balanced-plus T f g h (balanced f e)).total
