-- `from-calls`: what calls of `sst_add_book` leave is a shelf's.
use mathlib.Core.Bool.{Bool, true, false}
use mathlib.Core.List.{List, [], ◌∷◌, ◌++◌}
use mathlib.Core.Option.{Option, none, some}
use mathlib.Core.Path.{◌≡◌, refl, sym, ap, ◌∙◌, subst}
use Prim.Native.Nat.{ℕ, zero, suc, ◌+◌, ◌*◌, ◌-◌, ◌≤◌}
use native.Mathlib.Omega.{arith}
use lib.Dec.{ltb}
use lib.ListN.{replicate, replicate-append-replicate}
use Rattle.base.specs.Bools.{split}
use Rattle.std.specs.Prelude.{if◌then◌else◌}
use Rattle.events.specs.Events.{Event, Reason, finished, differs, missing, unlabelled, deep, unanswered, outside, reason_number, answer}
use Rattle.figures.proofs.Form.{figures_of-bytes}
use Rattle.figures.proofs.Shelves.{shelf-sound}
use Rattle.figures.specs.Figures.{Figures, empty, plus, within64}
use Rattle.figures.specs.Form.{number_words, numbers, figures_bytes, figures_of, Outcome, unchanged, counted, added, given_of, add_bytes}
use Rattle.figures.specs.Shelf.{Shelf, no_book, and_book}
use Rattle.figures.specs.Visits.{Given, called}
use Rattle.machine.proofs.Bytes.{length-table_of, zero-bytes}
use Rattle.machine.specs.Bytes.{table_of, bytes_of}
use Rattle.machine.specs.Call.{Mode, whole, paused, Called, Turn, over, further, ends, ends_for, writing, takes, hands_out, turn, run, call_in, call_walk}
use Rattle.machine.specs.Form.{words64}
use Rattle.machine.specs.Step.{Next, goes_outside, stops, goes, tells, asks, step}
use Rattle.machine.specs.Walk.{Walk, fresh, at_rest}
use Rattle.shelf.specs.Books.{empty_bytes, Calls, no_call, adds, passes, Kept, FromCalls}

-- A call's own number: neither 21 nor 46

abbrev Own : ℕ → Type 0
Own n = (n ≤ 37) × (n ≡ 21 → ⊥)

own-reason : (r : Reason) → Own (reason_number r)
unfolding reason_number
own-reason finished = (omega arith, λ e. omega arith)
own-reason differs = (omega arith, λ e. omega arith)
own-reason missing = (omega arith, λ e. omega arith)
own-reason unlabelled = (omega arith, λ e. omega arith)
own-reason deep = (omega arith, λ e. omega arith)
own-reason unanswered = (omega arith, λ e. omega arith)
own-reason outside = (omega arith, λ e. omega arith)

abbrev Owns : Turn → Type 0
Owns (over c) = Own c.number
Owns (further left v) = Unit {0}

own-takes : (o : Option ℕ) (room n : ℕ) (w : Walk) (e : Event) (v : Walk) → Owns (takes o room n w e v)
unfolding takes ends_for ends
own-takes none room n w e v = own-reason unanswered
own-takes (some x) room n w e v = tt

own-hands : (m : Mode) (room n : ℕ) (w : Walk) (e : Event) (v : Walk) → Owns (hands_out m room n w e v)
unfolding hands_out ends
own-hands (whole given) room n w e v = own-takes (answer given w.io) room n w e v
own-hands (paused x) room n w e v = (omega arith, λ q. omega arith)

own-if : (b : Bool) (x y : Turn) → Owns x → Owns y → Owns (if b then x else y)
own-if true x y p q = p
own-if false x y p q = q

own_turn : (m : Mode) (room n : ℕ) (w : Walk) (nx : Next) → Owns (turn m room n w nx)
unfolding turn ends_for ends
own_turn m room n w goes_outside = own-reason outside
own_turn m room n w (stops r) = own-reason r
own_turn m room n w (goes v) = tt
own_turn m room n w (tells e v) = own-if (ltb room 3) (over (ends 35 n w)) (further (room - 3) (writing e v)) (omega arith, λ q. omega arith) tt
own_turn m room n w (asks e v) = own-if (ltb room 3) (over (ends 35 n w)) (hands_out m room n w e v) (omega arith, λ q. omega arith) (own-hands m room n w e v)

own-run : (T tokens : List ℕ) (b : ℕ) (m : Mode) (room n : ℕ) (w : Walk) → Own (run T tokens b m room n w).number
unfolding run ends
own-run T tokens zero m room n w = (omega arith, λ e. omega arith)
own-run T tokens (suc b) m room n w = go (turn m room n w (step T tokens w)) (own_turn m room n w (step T tokens w)) (λ left v. own-run T tokens b m left (n + 1) v)
  where
    go : (t : Turn) → Owns t → ((left : ℕ) (v : Walk) → Own (run T tokens b m left (n + 1) v).number) → Own (elim t as (λ _. Called) [ over c ↦ c | further left v ↦ run T tokens b m left (n + 1) v ]).number
    go (over c) h rest = h
    go (further left v) h rest = rest left v

own-called : (T : List ℕ) (g : Given) → Own (called T g).number
unfolding called call_walk call_in fresh
own-called T g = own-run T g.tokens g.budget (whole g.answers) g.room 0 (at_rest (fresh g.allowance))

-- Empty figures are zero bytes

zero-words : (n : ℕ) → number_words (replicate n 0) ≡ replicate (4 * n) 0
unfolding number_words words64
zero-words zero = refl
zero-words (suc n) =
    let e : 4 * suc n ≡ suc (suc (suc (suc (4 * n)))) = omega arith in
    ap (λ (l : List ℕ). 0 ∷ 0 ∷ 0 ∷ 0 ∷ l) (zero-words n) ∙ ap (λ (k : ℕ). replicate k 0) (sym e)

all-zero : numbers empty ≡ replicate 4162 0
unfolding numbers empty
all-zero = ap (λ (l : List ℕ). replicate 4096 0 ++ l) (replicate-append-replicate {A = ℕ} 64 2 0) ∙ replicate-append-replicate {A = ℕ} 4096 66 0

empty-is : empty_bytes ≡ figures_bytes empty
unfolding empty_bytes figures_bytes
empty-is = sym (ap (λ (l : List ℕ). bytes_of (number_words l)) all-zero ∙ ap bytes_of (zero-words 4162) ∙ zero-bytes 16648)

-- One call more, where figures are those of a shelf

module _ (table figures : List ℕ) (f : Figures) (taken : figures_of figures ≡ some f) (tokens answers : List ℕ) (budget allowance : ℕ) (buffer : List ℕ) where
  abbrev T : List ℕ
  T = table_of table

  abbrev g : Given
  g = given_of tokens answers budget allowance buffer

  abbrev out : Outcome
  out = add_bytes table tokens answers budget allowance figures buffer

  as-test : (b : Bool) → within64 (plus T g f) ≡ b → out ≡ (if b then counted (called T g) (plus T g f) buffer else unchanged 46 figures buffer)
  unfolding add_bytes added
  as-test b e = rw (taken, e) refl

  own-number : within64 (plus T g f) ≡ true → Own out.number
  unfolding counted
  own-number e = subst Own (sym (ap (λ (x : Outcome). x.number) (as-test true e))) (own-called T g)

  new-figures : within64 (plus T g f) ≡ true → out.figures ≡ figures_bytes (plus T g f)
  unfolding counted
  new-figures e = ap (λ (x : Outcome). x.figures) (as-test true e)

  -- 46 exactly if some number passes 64 bits, and then nothing is changed
  past-46 : within64 (plus T g f) ≡ false → out.number ≡ 46
  unfolding unchanged
  past-46 e = ap (λ (x : Outcome). x.number) (as-test false e)

  same-figures : within64 (plus T g f) ≡ false → out.figures ≡ figures
  unfolding unchanged
  same-figures e = ap (λ (x : Outcome). x.figures) (as-test false e)

  never-21 : out.number ≡ 21 → ⊥
  never-21 h =
      split (within64 (plus T g f))
      (λ w. (own-number w).1 h)
      (λ w. omega (arith, past-46 w))

kept-as : (table figures : List ℕ) (gs : List Given) (f : Figures) → Shelf (table_of table) f gs → figures ≡ figures_bytes f → Kept table figures gs
kept-as table figures gs f s e =
    let t : figures_of figures ≡ some f = ap figures_of e ∙ figures_of-bytes f (shelf-sound (table_of table) (length-table_of table) s) in
    record { sums = f; shelf = s; bytes = e; taken = t; not_21 = never-21 table figures f t }

pub from-calls : FromCalls
from-calls table figures gs c = go c
  where
    go : {figures : List ℕ} {gs : List Given} → Calls table figures gs → Kept table figures gs
    go no_call = kept-as table empty_bytes [] empty no_book empty-is
    go (adds {figures = fs} {gs = hs} c k a budget allowance buffer o e n) =
        let kept = go c in
        let g = given_of k a budget allowance buffer in
        let f = kept.sums in
        split (within64 (plus (table_of table) g f))
        (λ w. kept-as table o.figures (g ∷ hs) (plus (table_of table) g f) (and_book kept.shelf g w) (ap (λ (x : Outcome). x.figures) e ∙ new-figures table fs f kept.taken k a budget allowance buffer w))
        (λ w. absurd (n (ap (λ (x : Outcome). x.number) e ∙ past-46 table fs f kept.taken k a budget allowance buffer w)))
    go (passes {figures = fs} {gs = hs} c k a budget allowance buffer o e n) =
        let kept = go c in
        let g = given_of k a budget allowance buffer in
        let f = kept.sums in
        let same : (x : ℕ) → x ≡ 46 → x ≤ 37 → ⊥ = λ x p q. omega arith in
        split (within64 (plus (table_of table) g f))
        (λ w. absurd (same _ (sym (ap (λ (x : Outcome). x.number) e) ∙ n) (own-number table fs f kept.taken k a budget allowance buffer w).0))
        (λ w. kept-as table o.figures hs f kept.shelf (ap (λ (x : Outcome). x.figures) e ∙ same-figures table fs f kept.taken k a budget allowance buffer w ∙ kept.bytes))
