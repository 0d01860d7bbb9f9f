-- What the code of adding a book does is `add_bytes`, case by case.
use mathlib.Core.Bool.{Bool, true, false, ◌&&◌, and-false}
use mathlib.Core.List.{List, [], ◌∷◌, ◌++◌}
use mathlib.Core.Logic.{◌⊎◌, inl, inr}
use mathlib.Core.Option.{none}
use Rattle.std.specs.Prelude.{Ok, Err}
use mathlib.Core.Path.{◌≡◌, refl, sym, ap, ◌∙◌}
use Prim.Native.Nat.{ℕ, ◌+◌, ◌-◌, ◌/◌, ◌%◌, ◌<◌, ◌≤◌}
use native.Mathlib.Omega.{arith}
use lib.Dec.{eqb, leb, ltb}
use lib.ListN.{length}
use borrow.Author.Tests.{eq-eqb, lt-ltb, le-ltb, le-leb, lt-leb, leb-true, ltb-true, ltb-false}
use Rattle.base.specs.Bools.{never, split}
use Rattle.std.specs.Prelude.{if◌then◌else◌}
use Rattle.counting.proofs.Link.{book-visits, book-call}
use Rattle.counting.proofs.Loop.{tells_of}
use Rattle.counting.specs.Counting.{book_visits, book_of, Numbers, numbers_told, numbers_of, past_of, gives, reports}
use Rattle.counting.specs.declared.FiguresError.{FiguresError}
use Rattle.counting.specs.declared.FiguresError.TheVariants.{NoFigures, Past}
use Rattle.counting.specs.declared.Told.{Told}
use Rattle.figures.proofs.Shelves.{balanced, balanced-plus, sound-decided}
use Rattle.figures.proofs.Steps.{length-visited}
use Rattle.figures.specs.Figures.{Figures, sum, bumps, marks, plus, below64, within64, bits_of, sound, covered, mean_whole, mean_rest}
use Rattle.figures.specs.Form.{number_words, numbers, figures_bytes, number_at, numbers_at, figures_named, figures_of, unchanged, counted, added, given_of, add_bytes, report_of, shelf_bytes}
use Rattle.figures.specs.Visits.{Given, called, visited}
use Rattle.machine.proofs.Bytes.{length-table_of}
use Rattle.machine.proofs.Keeps.{steps-budget}
use Rattle.machine.specs.Bytes.{count, words_of, table_of, bytes_of}
use Rattle.machine.specs.Call.{whole}
use Rattle.machine.specs.Walk.{fresh}
use Rattle.walker.specs.Linked.{Bytes, Agrees}

-- whether a book's steps pass those that are left

pub past-budget : (steps budget left : ℕ) → budget ≤ left → false ≡ past_of steps budget left
unfolding past_of
past-budget steps budget left h = rw (le-leb budget left h) refl

pub past-measured : (steps budget left : ℕ) → left < budget → ltb left steps ≡ past_of steps budget left
unfolding past_of
past-measured steps budget left h = rw (lt-leb budget left h) refl

pub past-yes : (steps budget left : ℕ) → past_of steps budget left ≡ true → left < steps
unfolding past_of
past-yes steps budget left e =
    split (leb budget left)
    (λ t. never (rw t at e))
    (λ f. ltb-true left steps (rw f at e))

pub past-no : (steps budget left : ℕ) → past_of steps budget left ≡ false → (budget ≤ left) ⊎ (steps ≤ left)
unfolding past_of
past-no steps budget left e =
    split (leb budget left)
    (λ t. inl (leb-true budget left t))
    (λ f. inr (ltb-false left steps (rw f at e)))

module _ (t k a : List ℕ) (budget allowance : ℕ) (fs o : List ℕ) where
  abbrev ws : List ℕ
  ws = words_of fs

  abbrev f : Figures
  f = figures_named ws

  -- nothing is changed
  abbrev pub Unchanged : FiguresError → Type 0
  Unchanged e = gives (Err e) fs o ≡ add_bytes t k a budget allowance fs o

  pub no-sums : figures_of fs ≡ none → Unchanged NoFigures
  unfolding add_bytes added unchanged
  no-sums h = rw h refl

  module _ (long : length fs ≡ 33296) (good : sound f ≡ true) (small-t : Bytes t) (small-k : Bytes k) (small-a : Bytes a) (allowed : allowance < 65536) where
    abbrev T : List ℕ
    T = table_of t

    abbrev g : Given
    g = given_of k a budget allowance o

    abbrev vs : List ℕ
    vs = book_visits t k a budget allowance (count o)

    visits-are : vs ≡ visited T g
    unfolding given_of
    visits-are = book-visits t k a small-t small-k small-a budget allowance (count o) allowed

    steps-are : length vs ≡ (called T g).steps
    steps-are = ap (λ (l : List ℕ). length l) visits-are ∙ length-visited T g

    pub steps-within : length vs ≤ budget
    unfolding called given_of
    steps-within = omega (arith, steps-are, steps-budget T (words_of k) (whole (words_of a)) budget (count o) (fresh allowance))

    adds-as : (b : Bool) → within64 (plus T g f) ≡ b → add_bytes t k a budget allowance fs o ≡ (if b then counted (called T g) (plus T g f) o else unchanged 46 fs o)
    unfolding add_bytes added figures_of
    adds-as b e = rw (eq-eqb (length fs) 33296 long, good, e) refl

    decides : (b : Bool) → (below64 (f.books + 1) && below64 (f.total + (called T g).steps)) ≡ b → within64 (plus T g f) ≡ b
    decides b e = sound-decided T f g (length-table_of t) good ∙ e

    past : within64 (plus T g f) ≡ false → Unchanged Past
    unfolding unchanged
    past e = sym (adds-as false e)

    pub books-past : (n : ℕ) → n ≡ number_at ws 4160 → n ≡ 18446744073709551615 → Unchanged Past
    unfolding figures_named
    books-past n p e =
        let b : below64 (number_at ws 4160 + 1) ≡ false = le-ltb (number_at ws 4160 + 1) 18446744073709551616 (omega arith) in
        past (decides false (ap (λ (x : Bool). x && below64 (f.total + (called T g).steps)) b))

    pub total-past : (n : ℕ) → n ≡ number_at ws 4161 → 18446744073709551615 - n < length vs → n < 18446744073709551616 → Unchanged Past
    unfolding figures_named
    total-past n p h s =
        let b : below64 (number_at ws 4161 + (called T g).steps) ≡ false = le-ltb (number_at ws 4161 + (called T g).steps) 18446744073709551616 (omega (arith, steps-are)) in
        past (decides false (ap (λ (x : Bool). below64 (f.books + 1) && x) b ∙ and-false (below64 (f.books + 1))))

    pub counts-fit : (n : ℕ) → n ≡ number_at ws 4161 → n + length vs < 18446744073709551616 → sum (numbers_at ws 0 4096) + length vs < 18446744073709551616
    unfolding figures_named
    counts-fit n p h = let b = (balanced f good).total in omega (arith, b)

    agrees : Agrees o (book_of t k a budget allowance o) (called T g)
    agrees = book-call t k a small-t small-k small-a budget allowance o allowed

    -- as many steps as locations counted
    pub book-steps : (r : Numbers) → r ≡ tells_of (book_of t k a budget allowance o) → r.steps ≡ length vs
    book-steps r told = ap (λ (x : Numbers). x.steps) told ∙ agrees.steps ∙ sym steps-are

    -- the figures with the book
    module _ (r : Told) (fs' o' cs' : List ℕ) (books total : ℕ) (told : numbers_told r ≡ tells_of (book_of t k a budget allowance o)) (buffer : o' ≡ (book_of t k a budget allowance o).out)
        (counts : cs' ≡ bumps (numbers_at ws 0 4096) vs) (books-are : books ≡ number_at ws 4160) (total-is : total ≡ number_at ws 4161)
        (written : fs' ≡ bytes_of (number_words (numbers_of cs' (books + 1) (total + r.steps)))) where
      r-steps : r.steps ≡ (called T g).steps
      r-steps = ap (λ (x : Numbers). x.steps) told ∙ agrees.steps

      figures-are : fs' ≡ figures_bytes (plus T g f)
      unfolding figures_bytes numbers numbers_of plus figures_named
      figures-are =
          let cs : cs' ≡ bumps (numbers_at ws 0 4096) (visited T g) = counts ∙ ap (bumps (numbers_at ws 0 4096)) visits-are in
          let bs : bits_of 64 cs' ≡ marks (numbers_at ws 4096 64) (visited T g) = ap (bits_of 64) cs ∙ sym (balanced-plus T f g (length-table_of t) (balanced f good)).bits in
          let n : books + 1 ≡ number_at ws 4160 + 1 = ap (λ (x : ℕ). x + 1) books-are in
          let s : total + r.steps ≡ number_at ws 4161 + (called T g).steps = omega (arith, total-is, r-steps) in
          written ∙ (λ i. bytes_of (number_words (cs i ++ (bs i ++ (n i ∷ s i ∷ [])))))

      pub adds : books < 18446744073709551615 → total + r.steps < 18446744073709551616 → gives (Ok r) fs' o' ≡ add_bytes t k a budget allowance fs o
      unfolding counted figures_named
      adds b h =
          let n₁ : below64 (number_at ws 4160 + 1) ≡ true = lt-ltb (number_at ws 4160 + 1) 18446744073709551616 (omega arith) in
          let n₂ : below64 (number_at ws 4161 + (called T g).steps) ≡ true = lt-ltb (number_at ws 4161 + (called T g).steps) 18446744073709551616 (omega (arith, r-steps)) in
          let w = decides true (ap (λ (x : Bool). x && below64 (f.total + (called T g).steps)) n₁ ∙ n₂) in
          let number : (numbers_told r).number ≡ (called T g).number = ap (λ (x : Numbers). x.number) told ∙ agrees.number in
          let events : r.events ≡ length (called T g).events = ap (λ (x : Numbers). x.events) told ∙ agrees.events in
          (λ i. record { number = number i; figures = figures-are i; buffer = (buffer ∙ agrees.out) i; events = events i; steps = r-steps i }) ∙ sym (adds-as true w)

-- What the report of a shelf is

module _ (fs : List ℕ) where
  pub no-report : figures_of fs ≡ none → reports (Err NoFigures) ≡ shelf_bytes fs
  unfolding shelf_bytes report_of
  no-report h = rw h refl

  pub the-report : length fs ≡ 33296 → sound (figures_named (words_of fs)) ≡ true → (b t v m r : ℕ) → b ≡ number_at (words_of fs) 4160 → t ≡ number_at (words_of fs) 4161
      → v ≡ covered (numbers_at (words_of fs) 4096 64) → m ≡ (if eqb b 0 then 0 else t / b) → r ≡ (if eqb b 0 then 0 else t % b)
      → record { number = 0; books = b; total = t; covered = v; mean = m; rest = r } ≡ shelf_bytes fs
  unfolding shelf_bytes figures_of report_of figures_named mean_whole mean_rest
  the-report h e b t v m r p q s u w =
      let m₁ : m ≡ (if eqb (number_at (words_of fs) 4160) 0 then 0 else number_at (words_of fs) 4161 / number_at (words_of fs) 4160) = u ∙ (λ i. if eqb (p i) 0 then 0 else q i / p i) in
      let r₁ : r ≡ (if eqb (number_at (words_of fs) 4160) 0 then 0 else number_at (words_of fs) 4161 % number_at (words_of fs) 4160) = w ∙ (λ i. if eqb (p i) 0 then 0 else q i % p i) in
      (λ i. record { number = 0; books = p i; total = q i; covered = s i; mean = m₁ i; rest = r₁ i }) ∙ rw (eq-eqb (length fs) 33296 h, e) refl
