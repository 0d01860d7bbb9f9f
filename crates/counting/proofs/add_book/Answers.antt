-- `counting::add_book` meets its contract: each way out is a case of `add_bytes`.
use mathlib.Core.Bool.{false}
use mathlib.Core.List.{List}
use mathlib.Core.Logic.{⊎_elim}
use mathlib.Core.Path.{◌≡◌, refl, sym, ap, ◌∙◌}
use Prim.Native.Nat.{ℕ, ◌+◌, ◌-◌, ◌<◌}
use native.Mathlib.Omega.{arith}
use lib.ListN.{length}
use Rattle.std.specs.Prelude.{Err}
use Rattle.std.proofs.lemmas.Result.{err_from_is_err_and}
use Rattle.counting.proofs.Adds.{no-sums, steps-within, books-past, total-past, counts-fit, book-steps, past-yes, past-no, adds}
use Rattle.counting.proofs.Loop.{tells_of}
use Rattle.counting.proofs.Rules.{counts-sized}
use Rattle.counting.specs.Counting.{book_visits, book_of, past_of, Named, gives}
use Rattle.counting.specs.declared.Sums.{Sums}
use Rattle.counting.specs.declared.FiguresError.TheVariants.{Past}
use Rattle.figures.specs.Figures.{sum, bumps}
use Rattle.machine.specs.Bytes.{count}
use Rattle.walker.specs.Linked.{Bytes}
use Rattle.counting.proofs.add_book.Goals as goal

below-most : (n : ℕ) → (n ≡ 18446744073709551615 → ⊥) → n < 18446744073709551616 → n < 18446744073709551615
below-most n h k = omega arith

-- the book's steps stay within 64 bits: measured, or by the budget
module _ {fs cs : List ℕ} {sums : Sums} (named : Named fs cs sums) (t k a : List ℕ) (budget allowance : ℕ) (o : List ℕ) (small-t : Bytes t) (small-k : Bytes k) (small-a : Bytes a) (allowed : allowance < 65536) where
  fits : past_of (book_of t k a budget allowance o).steps budget (18446744073709551615 - sums.total) ≡ false → sums.total + length (book_visits t k a budget allowance (count o)) < 18446744073709551616
  fits p =
      ⊎_elim
      (λ w. omega (arith, w, named.total_low, steps-within t k a budget allowance fs o named.long named.good small-t small-k small-a allowed))
      (λ w. omega (arith, w, named.total_low, book-steps t k a budget allowance fs o named.long named.good small-t small-k small-a allowed (tells_of (book_of t k a budget allowance o)) refl))
      (past-no _ _ _ p)

pub returns-in_err-sums : goal.returns-in_err-sums
returns-in_err-sums c =
    let a = c.args in
    let x = err_from_is_err_and _ c.from_residual.ensures.1 in
    ap (λ r. gives r a.figures.now a.events.now) (x.1 ∙ ap Err (x.2 ∙ c.in_err-sums.ensures.refused.0))
    ∙ no-sums a.table.now a.tokens.now a.answers.now a.budget a.allowance a.figures.now a.events.now c.in_err-sums.ensures.refused.1

pub returns-then-sums : goal.returns-then-sums
returns-then-sums c =
    let a = c.args in
    let n = c.in_ok-sums.ensures.named in
    books-past a.table.now a.tokens.now a.answers.now a.budget a.allowance a.figures.now a.events.now n.long n.good (λ i. (c.type_inv.table i).fits) (λ i. (c.type_inv.tokens i).fits) (λ i. (c.type_inv.answers i).fits) c.ranges.allowance.fits _ n.books_are c.if-sums.true

pub returns-then-passes : goal.returns-then-passes
returns-then-passes c =
    let a = c.args in
    let p = c.passes in
    let n = c.in_ok-sums.ensures.named in
    let m = book-steps a.table.now a.tokens.now a.answers.now a.budget a.allowance a.figures.now a.events.now n.long n.good (λ i. (c.type_inv.table i).fits) (λ i. (c.type_inv.tokens i).fits) (λ i. (c.type_inv.answers i).fits) c.ranges.allowance.fits (tells_of (book_of a.table.now a.tokens.now a.answers.now a.budget a.allowance a.events.now)) refl in
    let past = past-yes _ _ _ (sym p.ensures.value ∙ c.if-passes.true) in
    (λ i. gives (Err Past) a.figures.now (p.ensures.events_unchanged i))
    ∙ total-past a.table.now a.tokens.now a.answers.now a.budget a.allowance a.figures.now a.events.now n.long n.good (λ i. (c.type_inv.table i).fits) (λ i. (c.type_inv.tokens i).fits) (λ i. (c.type_inv.answers i).fits) c.ranges.allowance.fits _ n.total_is (omega (arith, m, past)) n.total_low

pub count_book-told-requires : goal.count_book-told-requires
count_book-told-requires c =
    let a = c.args in
    let n = c.in_ok-sums.ensures.named in
    let f = counts-fit a.table.now a.tokens.now a.answers.now a.budget a.allowance a.figures.now a.events.now n.long n.good (λ i. (c.type_inv.table i).fits) (λ i. (c.type_inv.tokens i).fits) (λ i. (c.type_inv.answers i).fits) c.ranges.allowance.fits _ n.total_is
    (fits n a.table.now a.tokens.now a.answers.now a.budget a.allowance a.events.now (λ i. (c.type_inv.table i).fits) (λ i. (c.type_inv.tokens i).fits) (λ i. (c.type_inv.answers i).fits) c.ranges.allowance.fits (sym c.passes.ensures.value ∙ c.if-passes.false)) in
    let e = ap (λ (l : List ℕ). length (book_visits a.table.now a.tokens.now a.answers.now a.budget a.allowance (count l))) c.passes.ensures.events_unchanged in
    (ap (λ (l : List ℕ). length l) c.passes.ensures.counts_unchanged ∙ counts-sized n, λ y. omega (arith, ap sum (c.passes.ensures.counts_unchanged ∙ n.counts_are), e, f))

pub overflow_add-sums-2 : goal.overflow_add-sums-2
overflow_add-sums-2 c =
    let a = c.args in
    let n = c.in_ok-sums.ensures.named in
    let told = c.count_book-told.ensures.value ∙ ap (λ (l : List ℕ). tells_of (book_of a.table.now a.tokens.now a.answers.now a.budget a.allowance l)) c.passes.ensures.events_unchanged in
    record { fits = omega (arith, fits n a.table.now a.tokens.now a.answers.now a.budget a.allowance a.events.now (λ i. (c.type_inv.table i).fits) (λ i. (c.type_inv.tokens i).fits) (λ i. (c.type_inv.answers i).fits) c.ranges.allowance.fits (sym c.passes.ensures.value ∙ c.if-passes.false), book-steps a.table.now a.tokens.now a.answers.now a.budget a.allowance a.figures.now a.events.now n.long n.good (λ i. (c.type_inv.table i).fits) (λ i. (c.type_inv.tokens i).fits) (λ i. (c.type_inv.answers i).fits) c.ranges.allowance.fits _ told) }

pub returns : goal.returns
returns c =
    let a = c.args in
    let q = c.count_book-told.ensures in
    let n = c.in_ok-sums.ensures.named in
    let events = c.passes.ensures.events_unchanged in
    let counts = c.passes.ensures.counts_unchanged ∙ n.counts_are in
    let told = q.value ∙ ap (λ (l : List ℕ). tells_of (book_of a.table.now a.tokens.now a.answers.now a.budget a.allowance l)) events in
    adds a.table.now a.tokens.now a.answers.now a.budget a.allowance a.figures.now a.events.now n.long n.good (λ i. (c.type_inv.table i).fits) (λ i. (c.type_inv.tokens i).fits) (λ i. (c.type_inv.answers i).fits) c.ranges.allowance.fits c.count_book-told.result _ _ _ _ _ told
    (q.out_after ∙ ap (λ (l : List ℕ). (book_of a.table.now a.tokens.now a.answers.now a.budget a.allowance l).out) events)
    (q.counts_after ∙ (λ i. bumps (counts i) (book_visits a.table.now a.tokens.now a.answers.now a.budget a.allowance (count (events i)))))
    n.books_are n.total_is c.put_figures.ensures
    (below-most _ c.if-sums.false n.books_low) (omega (arith, fits n a.table.now a.tokens.now a.answers.now a.budget a.allowance a.events.now (λ i. (c.type_inv.table i).fits) (λ i. (c.type_inv.tokens i).fits) (λ i. (c.type_inv.answers i).fits) c.ranges.allowance.fits (sym c.passes.ensures.value ∙ c.if-passes.false), book-steps a.table.now a.tokens.now a.answers.now a.budget a.allowance a.figures.now a.events.now n.long n.good (λ i. (c.type_inv.table i).fits) (λ i. (c.type_inv.tokens i).fits) (λ i. (c.type_inv.answers i).fits) c.ranges.allowance.fits _ told))
