-- What the other book is given and does changes nothing for a book: the other's items can be left out, and over its own items a book's walk and counter alone decide.
use mathlib.Core.Bool.{false}
use mathlib.Core.List.{List, [], ◌∷◌}
use mathlib.Core.Path.{◌≡◌, refl, sym, ap, ap₂, ◌∙◌, subst}
use Prim.Native.Nat.{ℕ, ◌<◌}
use native.Mathlib.Omega.{arith}
use lib.Dec.{eqb}
use lib.ListN.{length}
use borrow.Author.Tests.{eqb-true, eqb-false}
use Rattle.base.specs.Bools.{split}
use Rattle.std.specs.Prelude.{if◌then◌else◌}
use Rattle.machine.specs.Call.{Mode}
use Rattle.machine.specs.Form.{Outcome, call_bytes}
use Rattle.screen.proofs.Turns.{every-turn, refilled, kept, length-after}
use Rattle.screen.specs.Items.{Item, turn, refill, book_of, owned, own_view, screen_after, after, hears, heard, lefts}
use Rattle.screen.specs.Promise.{SameFor, Isolates}
use Rattle.screen.specs.Screen.{screen_size, walk_in, left_in, turn_bytes}

module _ (table : List ℕ) (b : ℕ) (h : b < 2) where
  -- two screens are the same to the book
  record Alike (s s' : List ℕ) : Type 0 where
    walk : walk_in b s ≡ walk_in b s'
    left : left_in b s ≡ left_in b s'

  -- and stay so under an item of its own, which gives it the same
  record Goes (i : Item) (s s' : List ℕ) : Type 0 where
    alike : Alike (screen_after table i s) (screen_after table i s')
    gives : (os : List Outcome) → hears table b i s os ≡ hears table b i s' os

  turned : (tokens : List ℕ) (m : Mode) (buffer s s' : List ℕ) → length s ≡ screen_size → length s' ≡ screen_size → Alike s s' → Goes (turn b tokens m buffer) s s'
  unfolding screen_after hears own_view
  turned tokens m buffer s s' k k' a =
      let o = every-turn table tokens m b s buffer h k in
      let o' = every-turn table tokens m b s' buffer h k' in
      let v : own_view b (turn_bytes table tokens m b s buffer) ≡ own_view b (turn_bytes table tokens m b s' buffer) =
      o.alone ∙ ap₂ (λ (n : ℕ) (w : List ℕ). call_bytes table tokens m n w buffer) a.left a.walk ∙ sym o'.alone in
      let e : (turn_bytes table tokens m b s buffer).steps ≡ (turn_bytes table tokens m b s' buffer).steps = ap (λ (x : Outcome). x.steps) v in
      record {
        alike = record { walk = ap (λ (x : Outcome). x.walk) v; left = omega (arith, e, o.falls, o'.falls, a.left) };
        gives = λ os. ap (λ (x : Outcome). if eqb b b then x ∷ os else os) v;
      }

  refills : (n : ℕ) (s s' : List ℕ) → length s ≡ screen_size → length s' ≡ screen_size → Alike s s' → Goes (refill b n) s s'
  unfolding screen_after hears
  refills n s s' k k' a =
      let x = refilled b n s h k in
      let y = refilled b n s' h k' in
      record { alike = record { walk = x.1 ∙ a.walk ∙ sym y.1; left = x.0 ∙ sym y.0 }; gives = λ os. refl }

  own : (i : Item) (s s' : List ℕ) → book_of i ≡ b → length s ≡ screen_size → length s' ≡ screen_size → Alike s s' → Goes i s s'
  unfolding book_of
  own (turn c tokens m buffer) s s' e k k' a = rw e (turned tokens m buffer s s' k k' a)
  own (refill c n) s s' e k k' a = rw e (refills n s s' k k' a)

  unheard : (i : Item) (s : List ℕ) (os : List Outcome) → eqb (book_of i) b ≡ false → hears table b i s os ≡ os
  unfolding hears book_of
  unheard (turn c tokens m buffer) s os z = rw z
  unheard (refill c n) s os z = refl

  -- Lists

  module _ (r r' : List ℕ) (k : length r ≡ screen_size) (k' : length r' ≡ screen_size) where
    same_start : walk_in b r ≡ walk_in b r' → left_in b r ≡ left_in b r' → SameFor table b [] [] r r'
    unfolding heard lefts after
    same_start e f = record { turns = refl; counters = refl; walk = e; left = f }

    -- an item of its own in both
    extended : (i : Item) (items items' : List Item) → book_of i ≡ b → SameFor table b items items' r r' → SameFor table b (i ∷ items) (i ∷ items') r r'
    unfolding heard lefts after
    extended i items items' e s =
        let g = own i (after table items r) (after table items' r') e (length-after table items r k) (length-after table items' r' k') (record { walk = s.walk; left = s.left }) in
        record {
          turns = g.gives (heard table b items r) ∙ ap (hears table b i (after table items' r')) s.turns;
          counters = ap₂ (λ (n : ℕ) (l : List ℕ). if eqb (book_of i) b then n ∷ l else l) g.alike.left s.counters;
          walk = g.alike.walk;
          left = g.alike.left;
        }

    -- the same items of its own from screens that are the same to it
    own-decide : walk_in b r ≡ walk_in b r' → left_in b r ≡ left_in b r' → (items : List Item) → SameFor table b (owned b items) (owned b items) r r'
    unfolding owned
    own-decide f g [] = same_start f g
    own-decide f g (i ∷ items) =
        split (eqb (book_of i) b)
        (λ t. rw t (extended i (owned b items) (owned b items) (eqb-true (book_of i) b t) (own-decide f g items)))
        (λ z. rw z (own-decide f g items))

    -- an item of the other book in one
    skipped : (i : Item) (items items' : List Item) → eqb (book_of i) b ≡ false → SameFor table b items items' r r' → SameFor table b (i ∷ items) items' r r'
    unfolding heard lefts after
    skipped i items items' z s =
        let t = kept table i (after table items r) (length-after table items r k) in
        let d : b ≡ book_of i → ⊥ = λ q. eqb-false (book_of i) b z (sym q) in
        record {
          turns = unheard i (after table items r) (heard table b items r) z ∙ s.turns;
          counters = rw z s.counters;
          walk = t.walk b h d ∙ s.walk;
          left = t.left b h d ∙ s.left;
        }

  -- the other's items left out
  without-others : (r : List ℕ) → length r ≡ screen_size → (items : List Item) → SameFor table b items (owned b items) r r
  unfolding owned
  without-others r k [] = same_start r r k k refl refl
  without-others r k (i ∷ items) =
      split (eqb (book_of i) b)
      (λ t. rw t (extended r r k k i items (owned b items) (eqb-true (book_of i) b t) (without-others r k items)))
      (λ z. rw z (skipped r r k k i items (owned b items) z (without-others r k items)))

pub isolated : Isolates
isolated table b h items items' r r' k k' e f g =
    let p = without-others table b h r k items in
    let q = own-decide table b h r r' k k' f g items in
    let u = without-others table b h r' k' items' in
    let c : SameFor table b (owned b items) (owned b items') r r' = subst (λ (l : List Item). SameFor table b (owned b items) l r r') e q in
    record {
      turns = p.turns ∙ c.turns ∙ sym u.turns;
      counters = p.counters ∙ c.counters ∙ sym u.counters;
      walk = p.walk ∙ c.walk ∙ sym u.walk;
      left = p.left ∙ c.left ∙ sym u.left;
    }
