-- A pair at a place: its section, and its operand rule behind that.
use mathlib.Core.Bool.{Bool, true, false}
use mathlib.Core.List.{List, ◌++◌, append_assoc}
use mathlib.Core.Path.{◌≡◌, sym, ap, ◌∙◌}
use native.Mathlib.Omega.{arith}
use Prim.Native.Nat.{ℕ, ◌+◌, ◌≤◌}
use lib.ListN.{length, drop, length-drop}
use lib.Seq.{drop-drop}
use Rattle.base.specs.Common.{given}
use Rattle.std.specs.Prelude.{Some, None}
use Rattle.names.specs.Known.{Names, find_operators}
use Rattle.names.specs.Understand.{is_one}
use Rattle.syntax.specs.Texts.{Head}
use Rattle.objects.proofs.Looked.{ends-took, not-none, name-at}
use Rattle.objects.proofs.Views.{name-exact}
use Rattle.objects.specs.Order.{is_listed}
use Rattle.objects.specs.Places.{Ends, NameAt}
use Rattle.objects.specs.Take.{took}
use Rattle.objects.specs.View.{Pair, RuleView, name_words, pair_words, a_name}
use Rattle.objects.specs.Whole.{calls_of, texts_of, pair_in_order}

pub record PairAt (words : List ℕ) (p : Pair) (q : ℕ) : Type 0 where
  pub inside : q + 2 ≤ length words
  pub section : NameAt words (q + 2) p.section
  pub there : Ends a_name words (q + 2) None → ⊥
  pub operand : (r : ℕ) → Ends a_name words (q + 2) (Some r) → (r ≤ length words) × NameAt words r p.operand

pub pair-at : (words : List ℕ) (q : ℕ) (p : Pair) (k : List ℕ) → drop q words ≡ pair_words p ++ k → PairAt words p q
unfolding pair_words
pair-at words q p k e = record { inside = inside; section = name-at words (q + 2) p.section (name_words p.operand ++ k) behind; there = not-none p.section (name_words p.operand ++ k) taken; operand = operand }
  where
    inside : q + 2 ≤ length words
    inside = let a = length-drop q words in let b = ap length e in omega (arith, a, b)

    behind : drop (q + 2) words ≡ name_words p.section ++ (name_words p.operand ++ k)
    behind = sym (drop-drop 2 q words) ∙ ap (λ (ws : List ℕ). drop 2 ws) e ∙ append_assoc (name_words p.section) (name_words p.operand) k

    taken : a_name (drop (q + 2) words) ≡ took p.section (name_words p.operand ++ k)
    taken = ap a_name behind ∙ name-exact.back p.section tt (name_words p.operand ++ k)

    operand : (r : ℕ) → Ends a_name words (q + 2) (Some r) → (r ≤ length words) × NameAt words r p.operand
    operand r y =
        let z = ends-took p.section (name_words p.operand ++ k) taken y in
        (z.1, name-at words r p.operand k (sym z.0))

module _ (hs : List Head) (n : Names) (vs : List RuleView) (p : Pair) where
  pub no_section : given (find_operators p.section.text n.operators) ≡ false → false ≡ pair_in_order hs n vs p
  unfolding pair_in_order
  no_section e = rw e

  pub operand-listed : given (find_operators p.section.text n.operators) ≡ true → (b : Bool) → b ≡ is_listed hs p.operand → b ≡ true → false ≡ pair_in_order hs n vs p
  unfolding pair_in_order
  operand-listed e b d t = rw (e, ← d, t)

  pub operand-called : given (find_operators p.section.text n.operators) ≡ true → (b : Bool) → b ≡ is_listed hs p.operand → b ≡ false → (r : Bool) → r ≡ is_one p.operand.text (texts_of (calls_of vs)) → r ≡ pair_in_order hs n vs p
  unfolding pair_in_order
  operand-called e b d t r h = rw (e, ← d, t) h
