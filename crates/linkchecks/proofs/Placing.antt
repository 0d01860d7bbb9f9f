-- Where the names of the rules stand: those of the rules passed are put.
use mathlib.Core.List.{List, [], ◌∷◌, ◌++◌}
use mathlib.Core.Logic.{◌⊎◌, inl, inr}
use mathlib.Core.Path.{◌≡◌, refl, sym, ap, ◌∙◌, subst}
use native.Mathlib.Omega.{arith}
use Prim.Native.Nat.{ℕ, zero, suc, ◌+◌, ◌<◌, ◌≤◌}
use lib.ListN.{length, get_or, drop, length-drop}
use lib.Seq.{drop-drop}
use Rattle.base.proofs.Laws.{lt-or-le}
use Rattle.objects.specs.Places.{NameAt}
use Rattle.objects.specs.View as view
use Rattle.objects.specs.View.{Name, View, rule_of, view_of, views_of}
use Rattle.parts.specs.Form.{first_pair}
use Rattle.parts.specs.Link.{rules_of}
use Rattle.parts.specs.Objects.{Aim, OpenRule, Object}
use Rattle.linkchecks.specs.Checks.{name_at}
use Rattle.linkchecks.specs.Row.{Item, in_text, row_from}
use Rattle.linkchecks.specs.Walk.{Stands}
use Rattle.linkchecks.specs.declared.Cursor.{Cursor}
use Rattle.linkchecks.proofs.Finding.{stands-named}
use Rattle.linkchecks.proofs.Walking.{no-cons, Still, Heads, heads, still-none}

unfoldable pub item_name : List Item → ℕ → Name
item_name [] k = record { start = 0; text = [] }
item_name (x ∷ xs) zero = x.rule.name
item_name (x ∷ xs) (suc k) = item_name xs k

text-names : (aims : List Aim) (first i : ℕ) (rs more : List OpenRule) (row : List Item) → ((k : ℕ) → name_at more k ≡ item_name row k) → (k : ℕ) → name_at (rs ++ more) k ≡ item_name (in_text i (view.rules_of aims first rs) ++ row) k
unfolding name_at item_name in_text view.rules_of rule_of
text-names aims first i [] more row h k = h k
text-names aims first i (r ∷ rs) more row h zero = refl
text-names aims first i (r ∷ rs) more row h (suc k) = text-names aims first i rs more row h k

pub item-names : (i : ℕ) (ns : List ℕ) (os : List Object) → length ns ≡ length os → (k : ℕ) → name_at (rules_of os) k ≡ item_name (row_from i (views_of ns os)) k
unfolding name_at item_name rules_of views_of view_of row_from
item-names i [] [] e k = refl
item-names i [] (o ∷ os) e k = absurd (omega (arith, e))
item-names i (n ∷ ns) [] e k = absurd (omega (arith, e))
item-names i (n ∷ ns) (o ∷ os) e k = text-names o.aims (first_pair o) i o.rules (rules_of os) (row_from (suc i) (views_of ns os)) (item-names (suc i) ns os (omega (arith, e))) k

item-at : (row : List Item) (i : ℕ) (x : Item) (later : List Item) → drop i row ≡ x ∷ later → item_name row i ≡ x.rule.name
unfolding item_name
item-at [] zero x later e = no-cons (sym e)
item-at [] (suc i) x later e = no-cons (sym e)
item-at (y ∷ row) zero x later e = let p : y ≡ x = cc in ap (λ (z : Item). z.rule.name) p
item-at (y ∷ row) (suc i) x later e = item-at row i x later e

-- i rules are passed
pub record Placed (common words : List ℕ) (vs : List View) (names : List ℕ) (i : ℕ) (c : Cursor) : Type 0 where
  pub still : Still common words vs (λ row. row) (drop i (row_from 1 vs)) c
  pub within : i ≤ length (row_from 1 vs)
  pub filled : (k : ℕ) → k < i → k < length names → NameAt words (get_or names k 0) (item_name (row_from 1 vs) k)

module _ {common words : List ℕ} {vs : List View} where
  pub placed-none : (names : List ℕ) (c : Cursor) → Stands common words vs c (row_from 1 vs) → Placed common words vs names 0 c
  placed-none names c s = record { still = record { row = row_from 1 vs; stands = s; is = refl }; within = omega arith; filled = λ k l m. absurd (omega (arith, l)) }

  pub placed-next : {names : List ℕ} {i : ℕ} {c : Cursor} → Placed common words vs names i c → c.at < length words → (names₁ : List ℕ) → length names₁ ≡ length names → (i < length names → get_or names₁ i 0 ≡ c.at)
      → ((k : ℕ) → (k ≡ i → ⊥) → get_or names₁ k 0 ≡ get_or names k 0) → (c₁ : Cursor) → ((x : Item) (row : List Item) → Stands common words vs c (x ∷ row) → Stands common words vs c₁ row) → Placed common words vs names₁ (i + 1) c₁
  placed-next {names} {i} {c} p l names₁ n here other c₁ step = go (heads p.still l)
    where
      row : List Item
      row = row_from 1 vs

      go : Heads common words vs (λ row. row) (drop i row) c → Placed common words vs names₁ (i + 1) c₁
      go h =
          let a = length-drop i row in
          let b = ap length h.is in
          record {
            still = record { row = h.later; stands = step h.first h.later h.stands; is = sym (drop-drop 1 i row) ∙ ap (λ (xs : List Item). drop 1 xs) h.is };
            within = omega (arith, a, b);
            filled = λ k d m. by k d m (lt-or-le k i);
          }
        where
          by : (k : ℕ) → k < i + 1 → k < length names₁ → (k < i) ⊎ (i ≤ k) → NameAt words (get_or names₁ k 0) (item_name row k)
          by k d m (inl e) = subst (λ q. NameAt words q (item_name row k)) (sym (other k (λ z. omega (arith, z, e)))) (p.filled k e (omega (arith, m, n)))
          by k d m (inr e) =
              let z : k ≡ i = omega (arith, d, e) in
              rw (z, here (omega (arith, m, n, z)), item-at row i h.first h.later h.is) (stands-named h.stands)

  pub placed-all : {names : List ℕ} {i : ℕ} {c : Cursor} → Placed common words vs names i c → length words ≤ c.at → i ≡ length (row_from 1 vs)
  placed-all {names} {i} {c} p l =
      let a = length-drop i (row_from 1 vs) in
      let b = ap length (still-none p.still l) in
      let d = p.within in
      omega (arith, a, b, d)
