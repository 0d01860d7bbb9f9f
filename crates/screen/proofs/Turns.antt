-- A turn answers and writes as its call alone, keeps the other book's bytes, and takes no more steps than are left to its book.
use mathlib.Core.Bool.{Bool, true, false, and-false}
use mathlib.Core.List.{List, [], ◌∷◌}
use mathlib.Core.Option.{Option, none, some}
use mathlib.Core.Path.{◌≡◌, refl, sym, ap, ap₂, ◌∙◌, subst}
use Prim.Native.Nat.{ℕ, zero, suc, ◌+◌, ◌*◌, ◌-◌, ◌<◌, ◌≤◌}
use native.Mathlib.Omega.{arith}
use lib.Dec.{eqb, ltb}
use lib.ListN.{length, get_or}
use borrow.Author.Tests.{lt-ltb, le-ltb, ltb-true, ltb-false, eqb-true, eqb-false, eq-eqb, ne_eqb}
use Rattle.std.specs.Prelude.{if◌then◌else◌}
use Rattle.base.specs.Bools.{both, and, split, never}
use Rattle.machine.proofs.Keeps.{steps-budget}
use Rattle.machine.proofs.Refused.{refused-unchanged}
use Rattle.machine.specs.Bytes.{count, words_of, table_of, bytes_of}
use Rattle.machine.specs.Call.{Mode, Called, call_walk}
use Rattle.machine.specs.Form.{words64, number64, walk_of, Outcome, outcome, call_bytes}
use Rattle.machine.specs.Walk.{Walk}
use Rattle.screen.proofs.Cuts.{length_cut, length-patch, cut-patch, cut-before, cut-behind, patch-same, small_cut}
use Rattle.screen.proofs.Sizes.{length-call, length-counter, counter-back, counter-same}
use Rattle.screen.specs.Items.{Item, turn, refill, book_of, own_view, screen_after, after, spent, granted}
use Rattle.screen.specs.Promise.{OneTurn, EveryTurn, KeepsAllowance}
use Rattle.screen.specs.Screen.{cut, patch, book_size, screen_size, walk_in, left_in, with_left, is_screen, is_book, Turned, taken, turned_away, turn_bytes, refill_bytes}

-- both outcomes of a test

if-true : {A : Type 0} (t : Bool) (x y : A) → t ≡ true → (if t then x else y) ≡ x
if-true true x y e = refl
if-true false x y e = never e

if-false : {A : Type 0} (t : Bool) (x y : A) → t ≡ false → (if t then x else y) ≡ y
if-false true x y e = never (sym e)
if-false false x y e = refl

-- a screen, and a number that names a book of it

pub screen-is : (r : List ℕ) → length r ≡ screen_size → is_screen r ≡ true
unfolding is_screen
screen-is r k = eq-eqb (length r) screen_size k

pub screen-not : (r : List ℕ) → (length r ≡ screen_size → ⊥) → is_screen r ≡ false
unfolding is_screen
screen-not r k = ne_eqb (length r) screen_size k

pub book-is : (b : ℕ) (r : List ℕ) → b < 2 → length r ≡ screen_size → is_book b r ≡ true
unfolding is_book
book-is b r h k = both (ltb b 2) (is_screen r) (lt-ltb b 2 h) (screen-is r k)

pub book-in : (b : ℕ) (r : List ℕ) → is_book b r ≡ true → (b < 2) × (length r ≡ screen_size)
unfolding is_book is_screen
book-in b r e = let p = and (ltb b 2) (eqb (length r) screen_size) e in (ltb-true b 2 p.0, eqb-true (length r) screen_size p.1)

pub no_book : (b : ℕ) (r : List ℕ) → 2 ≤ b → is_book b r ≡ false
unfolding is_book
no_book b r h = rw (le-ltb b 2 h) refl

pub no-screen : (b : ℕ) (r : List ℕ) → (length r ≡ screen_size → ⊥) → is_book b r ≡ false
unfolding is_book
no-screen b r h = rw (screen-not r h) (and-false (ltb b 2))

-- a call over bytes does no more steps than its budget: what the subtraction needs
pub bytes-budget : (table tokens : List ℕ) (m : Mode) (budget : ℕ) (walk buffer : List ℕ) → (call_bytes table tokens m budget walk buffer).steps ≤ budget
unfolding call_bytes outcome
bytes-budget table tokens m budget walk buffer = go (walk_of walk)
  where
    f : Walk → Called
    f = call_walk (table_of table) (words_of tokens) m budget (count buffer)

    go : (x : Option Walk) → (outcome x walk buffer f).steps ≤ budget
    go none = omega arith
    go (some w) = steps-budget (table_of table) (words_of tokens) m budget (count buffer) w

-- Parts of a record

-- what stands in the bytes of book c is kept by what is written in those of another
apart : (b c g n f : ℕ) (new r : List ℕ) → b < 2 → c < 2 → (c ≡ b → ⊥) → length r ≡ screen_size → c * book_size ≤ g → g + n ≤ c * book_size + book_size → b * book_size ≤ f → f + length new ≤ b * book_size + book_size
    → cut g n (patch f new r) ≡ cut g n r
apart zero zero g n f new r h i d k p q u v = absurd (d refl)
apart zero (suc zero) g n f new r h i d k p q u v = cut-behind g n f (g - (f + length new)) new r (omega arith) (omega arith)
apart (suc zero) zero g n f new r h i d k p q u v = cut-before g n f new r (omega arith) (omega arith)
apart (suc zero) (suc zero) g n f new r h i d k p q u v = absurd (d refl)
apart (suc (suc b)) c g n f new r h i d k p q u v = absurd (omega arith)
apart zero (suc (suc c)) g n f new r h i d k p q u v = absurd (omega arith)
apart (suc zero) (suc (suc c)) g n f new r h i d k p q u v = absurd (omega arith)

module _ (b n : ℕ) (r : List ℕ) (h : b < 2) (k : length r ≡ screen_size) where
  length-with_left : length (with_left b n r) ≡ screen_size
  unfolding with_left
  length-with_left = let l = length-counter n in length-patch (b * book_size + 158) (bytes_of (words64 n)) r (omega arith) ∙ k

  left-set : left_in b (with_left b n r) ≡ n
  unfolding left_in with_left
  left-set =
      ap (λ (s : List ℕ). number64 (words_of s)) (cut-patch (b * book_size + 158) 8 (bytes_of (words64 n)) r (length-counter n) (omega arith)) ∙ counter-back n

  own-kept : walk_in b (with_left b n r) ≡ walk_in b r
  unfolding walk_in with_left
  own-kept = cut-before (b * book_size) 158 (b * book_size + 158) (bytes_of (words64 n)) r (omega arith) (omega arith)

  module _ (c : ℕ) (i : c < 2) (d : c ≡ b → ⊥) where
    other_walk : walk_in c (with_left b n r) ≡ walk_in c r
    unfolding walk_in with_left
    other_walk = let l = length-counter n in apart b c (c * book_size) 158 (b * book_size + 158) (bytes_of (words64 n)) r h i d k (omega arith) (omega arith) (omega arith) (omega arith)

    other_left : left_in c (with_left b n r) ≡ left_in c r
    unfolding left_in with_left
    other_left =
        let l = length-counter n in
        ap (λ (s : List ℕ). number64 (words_of s))
        (apart b c (c * book_size + 158) 8 (b * book_size + 158) (bytes_of (words64 n)) r h i d k (omega arith) (omega arith) (omega arith) (omega arith))

left-same : (b : ℕ) (r : List ℕ) → b < 2 → ((i : ℕ) → get_or r i 0 < 256) → length r ≡ screen_size → with_left b (left_in b r) r ≡ r
unfolding left_in with_left
left-same b r h y k =
    let f = b * book_size + 158 in
    ap (λ (s : List ℕ). patch f s r) (counter-same (cut f 8 r) (small_cut f 8 r y) (length_cut f 8 r (omega arith))) ∙ patch-same f 8 r (omega arith)

-- One turn

module _ (table tokens : List ℕ) (m : Mode) (b : ℕ) (r buffer : List ℕ) (h : b < 2) (k : length r ≡ screen_size) where
  abbrev call : Outcome
  call = call_bytes table tokens m (left_in b r) (walk_in b r) buffer

  -- the record with the walk that the call gives back, and the steps that are then left
  abbrev put : List ℕ
  put = patch (b * book_size) call.walk r

  abbrev rest : ℕ
  rest = left_in b r - call.steps

  pub turn_is : turn_bytes table tokens m b r buffer ≡ taken b r call
  unfolding turn_bytes
  turn_is = if-true (is_book b r) (taken b r call) (turned_away r buffer) (book-is b r h k)

  size-call : length call.walk ≡ 158
  unfolding walk_in
  size-call = length-call table tokens m (left_in b r) (walk_in b r) buffer (length_cut (b * book_size) 158 r (omega arith))

  size-put : length put ≡ screen_size
  size-put = let l = size-call in length-patch (b * book_size) call.walk r (omega arith) ∙ k

  own-walk : walk_in b (with_left b rest put) ≡ call.walk
  own-walk = own-kept b rest put h size-put ∙ unfold walk_in in cut-patch (b * book_size) 158 call.walk r size-call (omega arith)

  walk-apart : (c : ℕ) → c < 2 → (c ≡ b → ⊥) → walk_in c put ≡ walk_in c r
  unfolding walk_in
  walk-apart c i d = let l = size-call in apart b c (c * book_size) 158 (b * book_size) call.walk r h i d k (omega arith) (omega arith) (omega arith) (omega arith)

  left-apart : (c : ℕ) → c < 2 → (c ≡ b → ⊥) → left_in c put ≡ left_in c r
  unfolding left_in
  left-apart c i d =
      let l = size-call in
      ap (λ (s : List ℕ). number64 (words_of s)) (apart b c (c * book_size + 158) 8 (b * book_size) call.walk r h i d k (omega arith) (omega arith) (omega arith) (omega arith))

  unchanged : ((i : ℕ) → get_or r i 0 < 256) → call.number ≡ 21 → with_left b rest put ≡ r
  unchanged y e =
      let u = refused-unchanged table tokens m (left_in b r) (walk_in b r) buffer e in
      let p : put ≡ r = ap (λ (w : List ℕ). patch (b * book_size) w r) u.walk_bytes_lem ∙ unfold walk_in in patch-same (b * book_size) 158 r (omega arith) in
      let n : rest ≡ left_in b r = omega (arith, u.no_step) in
      ap₂ (with_left b) n p ∙ left-same b r h y k

  one-turn : OneTurn table tokens m b r buffer (taken b r call)
  unfolding own_view taken
  one-turn = record {
    alone = λ i. record { number = call.number; walk = own-walk i; buffer = call.buffer; events = call.events; steps = call.steps };
    falls = omega (arith, left-set b rest put h size-put, bytes-budget table tokens m (left_in b r) (walk_in b r) buffer);
    other_walk = λ c i d. other_walk b rest put h size-put c i d ∙ walk-apart c i d;
    other_left = λ c i d. other_left b rest put h size-put c i d ∙ left-apart c i d;
    size = length-with_left b rest put h size-put;
    refused = unchanged;
  }

pub every-turn : EveryTurn
every-turn table tokens m b r buffer h k =
    subst (OneTurn table tokens m b r buffer) (sym (turn_is table tokens m b r buffer h k)) (one-turn table tokens m b r buffer h k)

-- a turn with a number that names no book, or of another length
pub away : (table tokens : List ℕ) (m : Mode) (b : ℕ) (r buffer : List ℕ) → is_book b r ≡ false → turn_bytes table tokens m b r buffer ≡ turned_away r buffer
unfolding turn_bytes
away table tokens m b r buffer e = if-false (is_book b r) (taken b r (call_bytes table tokens m (left_in b r) (walk_in b r) buffer)) (turned_away r buffer) e

-- Lists

-- what an item of any number leaves
pub record Kept (c : ℕ) (r s : List ℕ) : Type 0 where
  pub size : length s ≡ screen_size
  pub walk : (b : ℕ) → b < 2 → (b ≡ c → ⊥) → walk_in b s ≡ walk_in b r
  pub left : (b : ℕ) → b < 2 → (b ≡ c → ⊥) → left_in b s ≡ left_in b r

pub refill-is : (b n : ℕ) (r : List ℕ) → b < 2 → length r ≡ screen_size → refill_bytes b n r ≡ with_left b n r
unfolding refill_bytes
refill-is b n r h k = if-true (is_book b r) (with_left b n r) r (book-is b r h k)

-- of its own book a refill sets the steps left and keeps the walk
pub refilled : (b n : ℕ) (r : List ℕ) → b < 2 → length r ≡ screen_size → (left_in b (refill_bytes b n r) ≡ n) × (walk_in b (refill_bytes b n r) ≡ walk_in b r)
refilled b n r h k = rw (refill-is b n r h k) (left-set b n r h k, own-kept b n r h k)

module _ (table : List ℕ) where
  pub kept : (i : Item) (r : List ℕ) → length r ≡ screen_size → Kept (book_of i) r (screen_after table i r)
  unfolding screen_after book_of turned_away refill_bytes
  kept (turn c tokens m buffer) r k =
      split (ltb c 2)
      (λ t. let o = every-turn table tokens m c r buffer (ltb-true c 2 t) k in record { size = o.size; walk = o.other_walk; left = o.other_left })
      (λ z. let e = ap (λ (g : Turned). g.screen) (away table tokens m c r buffer (no_book c r (ltb-false c 2 z))) in subst (Kept c r) (sym e) (record { size = k; walk = λ b h d. refl; left = λ b h d. refl }))
  kept (refill c n) r k =
      split (ltb c 2)
      (λ t. let h = ltb-true c 2 t in subst (Kept c r) (sym (refill-is c n r h k)) (record { size = length-with_left c n r h k; walk = λ b i d. other_walk c n r h k b i d; left = λ b i d. other_left c n r h k b i d }))
      (λ z. rw (no_book c r (ltb-false c 2 z)) (record { size = k; walk = λ b h d. refl; left = λ b h d. refl }))

  pub length-after : (items : List Item) (r : List ℕ) → length r ≡ screen_size → length (after table items r) ≡ screen_size
  unfolding after
  length-after [] r k = k
  length-after (i ∷ items) r k = (kept i (after table items r) (length-after items r k)).size

pub keeps-allowance : KeepsAllowance
unfolding after screen_after spent granted book_of
keeps-allowance table b h [] r k = omega arith
keeps-allowance table b h (turn c tokens m buffer ∷ items) r k =
    let s = after table items r in
    let j = length-after table items r k in
    split (eqb c b)
    (λ t. let d = eqb-true c b t in rw (t, d) (omega (arith, keeps-allowance table b h items r k, (every-turn table tokens m b s buffer h j).falls)))
    (λ z. rw (z, (kept table (turn c tokens m buffer) s j).left b h (λ q. eqb-false c b z (sym q))) (keeps-allowance table b h items r k))
keeps-allowance table b h (refill c n ∷ items) r k =
    let s = after table items r in
    let j = length-after table items r k in
    split (eqb c b)
    (λ t. let d = eqb-true c b t in rw (t, d) (omega (arith, (refilled b n s h j).0)))
    (λ z. rw (z, (kept table (refill c n) s j).left b h (λ q. eqb-false c b z (sym q))) (keeps-allowance table b h items r k))
