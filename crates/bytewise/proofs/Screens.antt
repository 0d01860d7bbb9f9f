-- The turns of one book are a list of calls of that book alone, in every order, whatever the other book does.
use mathlib.Core.Bool.{Bool, true, false}
use mathlib.Core.List.{List, [], ◌∷◌, ◌++◌, append_assoc}
use mathlib.Core.Path.{◌≡◌, refl, sym, ap, ◌∙◌, subst}
use Prim.Native.Nat.{ℕ, ◌<◌}
use native.Mathlib.Omega.{arith}
use lib.Dec.{eqb}
use lib.ListN.{length, take, length-append}
use lib.Seq.{take_at, drop_at}
use borrow.Author.Tests.{eqb-true, eqb-false, ne_eqb}
use Rattle.agreement.proofs.Theorem.{agreement}
use Rattle.base.specs.Bools.{split}
use Rattle.std.specs.Prelude.{if◌then◌else◌}
use Rattle.base.specs.Common.{member}
use Rattle.machine.specs.Bytes.{words_of, table_of, bytes_of}
use Rattle.machine.specs.Call.{Mode}
use Rattle.machine.specs.Form.{words64, walk_bytes, Outcome, call_bytes}
use Rattle.machine.specs.Walk.{fresh}
use Rattle.processor.specs.Process.{accepted, process}
use Rattle.program.specs.Program.{Rule}
use Rattle.firmware.specs.Processing.{Numbers}
use Rattle.screen.proofs.Sizes.{length-fresh, length-fresh_book}
use Rattle.screen.proofs.Turns.{every-turn, refilled, kept, length-after, screen-is}
use Rattle.screen.specs.Items.{Item, turn, refill, book_of, own_view, screen_after, after, hears, heard}
use Rattle.screen.specs.Screen.{cut, screen_size, walk_in, left_in, Turned, turn_bytes, refill_bytes, fresh_book, fresh_bytes}
use Rattle.bytewise.proofs.Entries.{Below, agrees_bytes, from_entries}
use Rattle.bytewise.specs.AtEntries.{AgreesBytes, Processed}
use Rattle.bytewise.specs.AtScreen.{words_in, steps_in, numbers_in, Begins, Asked, Follows, InEveryOrder, OnScreen, FreshBegins}
use Rattle.bytewise.specs.ByteCalls.{Hands, ByteCalls, first, next}

module _ (table : List ℕ) (b : ℕ) (h : b < 2) (tokens answers : List ℕ) (allowance : ℕ) where
  -- a list of calls of the book's walk s, with what its turns gave
  abbrev Leads : List ℕ → List Outcome → Type 0
  Leads s os = ByteCalls table tokens answers allowance s (words_in os) (steps_in os) (numbers_in os)

  -- one turn of the book more
  own_turn : (m : Mode) (r buffer : List ℕ) (os : List Outcome) (g : Turned) → own_view b g ≡ call_bytes table tokens m (left_in b r) (walk_in b r) buffer
      → Hands answers m (walk_in b r) (words_in os) → Leads (walk_in b r) os → Leads (walk_in b g.screen) (own_view b g ∷ os)
  unfolding own_view words_in steps_in numbers_in
  own_turn m r buffer os g e a l = next l m (left_in b r) buffer a {o = own_view b g} e

  -- a turn of any number
  one_more : (c : ℕ) (given : List ℕ) (m : Mode) (r buffer : List ℕ) (os : List Outcome) → length r ≡ screen_size
      → (c ≡ b → (given ≡ tokens) × Hands answers m (walk_in b r) (words_in os)) → Leads (walk_in b r) os
      → Leads (walk_in b (turn_bytes table given m c r buffer).screen) (hears table b (turn c given m buffer) r os)
  unfolding hears screen_after book_of
  one_more c given m r buffer os k a l =
      split (eqb c b)
      (λ t. let d = eqb-true c b t in
      let w : given ≡ tokens = (a d).0 in
      rw (t, d, w) (own_turn m r buffer os (turn_bytes table tokens m b r buffer) (every-turn table tokens m b r buffer h k).alone (a d).1 l))
      (λ z. rw (z, (kept table (turn c given m buffer) r k).walk b h (λ q. eqb-false c b z (sym q))) l)

  walk-refilled : (c n : ℕ) (r : List ℕ) → length r ≡ screen_size → walk_in b (refill_bytes c n r) ≡ walk_in b r
  unfolding screen_after book_of
  walk-refilled c n r k =
      split (eqb c b)
      (λ t. let d = eqb-true c b t in rw d (refilled b n r h k).1)
      (λ z. (kept table (refill c n) r k).walk b h (λ q. eqb-false c b z (sym q)))

  pub projected : (r : List ℕ) → Begins b allowance r → (items : List Item) → Asked table b tokens answers r items → Leads (walk_in b (after table items r)) (heard table b items r)
  unfolding after screen_after heard hears words_in steps_in numbers_in Asked
  projected r g [] a = rw g.afresh first
  projected r g (turn c given m buffer ∷ items) a =
      one_more c given m (after table items r) buffer (heard table b items r) (length-after table items r g.size) a.0 (projected r g items a.1)
  projected r g (refill c n ∷ items) a = subst (λ (s : List ℕ). Leads s (heard table b items r)) (sym (walk-refilled c n (after table items r) (length-after table items r g.size))) (projected r g items a)

  -- none of its turns answered 37: each was the last of a list
  module _ (prog : List Rule) (w : AgreesBytes prog table tokens answers allowance) where
    not-37 : (t : Bool) (s : List ℕ) (o : Outcome) (os : List Outcome) → Leads s (if t then o ∷ os else os) → member 37 (numbers_in os) ≡ false
        → member 37 (numbers_in (if t then o ∷ os else os)) ≡ false
    unfolding numbers_in
    not-37 true s o os l i = rw (ne_eqb 37 o.number (λ e. w.never_37 l (sym e))) i
    not-37 false s o os l i = i

    never : (r : List ℕ) → Begins b allowance r → (items : List Item) → Asked table b tokens answers r items → member 37 (numbers_in (heard table b items r)) ≡ false
    unfolding heard hears Asked numbers_in
    never r g [] a = refl
    never r g (turn c given m buffer ∷ items) a =
        not-37 (eqb c b) (walk_in b (turn_bytes table given m c (after table items r) buffer).screen) (own_view b (turn_bytes table given m c (after table items r) buffer)) (heard table b items r)
        (one_more c given m (after table items r) buffer (heard table b items r) (length-after table items r g.size) a.0 (projected r g items a.1)) (never r g items a.1)
    never r g (refill c n ∷ items) a = never r g items a

  pub followed : (prog : List Rule) → AgreesBytes prog table tokens answers allowance → (r : List ℕ) → Begins b allowance r → (items : List Item) → Asked table b tokens answers r items
      → Follows prog table tokens answers allowance (walk_in b (after table items r)) (heard table b items r)
  followed prog w r g items a =
      let l = projected r g items a in
      record { calls = l; events = w.events l; events_waiting = w.events_waiting l; never_37 = never prog w r g items a; stops = λ d e. w.stops l d e; budget = λ k h. h _ _ _ _ l; steps = λ k h. h _ _ _ _ l }

-- for the bytes that `sst_process` left
pub on-screen : (text lent table : List ℕ) (x : Numbers) → Processed text lent table x → x.number ≡ 0 → OnScreen text table
on-screen text lent table x p z =
    let c = from_entries text lent table x p z in
    record {
      prog = c.claim.prog;
      means = c.claim.means;
      follows = λ b h tokens answers bk ba allowance small r g items a.
          followed table b h tokens answers allowance c.claim.prog (c.claim.agrees lent table c.left tokens answers bk ba allowance small) r g items a;
      finishes = λ f number allowance small.
          (let e = c.claim.finishes (c.claim.complete f) number allowance small in (e.0, λ tokens answers bk ba k. e.1 lent table c.left tokens answers bk ba k));
    }

-- and for any bytes that begin with the table's words
pub on-any-table : (text : List ℕ) (room : ℕ) (words : List ℕ) (verdict : Bool) (e : process text room ≡ accepted words verdict) (table more : List ℕ)
    → Below 256 table → table_of table ≡ words ++ more → InEveryOrder (agreement text room words verdict e).prog table
on-any-table text room words verdict e table more bt q b h tokens answers bk ba allowance small r g items a =
    let d = agreement text room words verdict e in
    followed table b h tokens answers allowance d.prog
    (agrees_bytes d.prog table tokens answers bt bk ba allowance small (rw q (d.agrees more (words_of tokens) (words_of answers) allowance))) r g items a

pub fresh-begins : FreshBegins
unfolding fresh_bytes fresh_book walk_in cut
fresh-begins a₀ a₁ r k =
    let W₀ = walk_bytes (fresh a₀) in
    let W₁ = walk_bytes (fresh a₁) in
    let L = bytes_of (words64 0) in
    let n : length ((W₀ ++ L) ++ (W₁ ++ L)) ≡ screen_size = length-append (W₀ ++ L) (W₁ ++ L) ∙ omega (arith, length-fresh_book a₀, length-fresh_book a₁) in
    rw (screen-is r k) (
      record { size = n; afresh = ap (take 158) (append_assoc W₀ L (W₁ ++ L)) ∙ take_at W₀ (L ++ (W₁ ++ L)) 158 (length-fresh a₀) },
      record { size = n; afresh = ap (take 158) (drop_at (W₀ ++ L) (W₁ ++ L) 166 (length-fresh_book a₀)) ∙ take_at W₁ L 158 (length-fresh a₁) },
    )
