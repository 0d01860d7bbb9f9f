-- Where the cells of a rule and the names of its calls stand, and the test of a rule.
use mathlib.Core.Bool.{Bool, false}
use mathlib.Core.List.{List, ◌∷◌, ◌++◌, append_assoc}
use mathlib.Core.Option.{Option, none, some}
use mathlib.Core.Path.{◌≡◌, sym, ap, ◌∙◌}
use native.Mathlib.Omega.{arith}
use Prim.Native.Nat.{ℕ, ◌+◌, ◌<◌, ◌≤◌}
use lib.Dec.{eqb}
use lib.ListN.{length, get_or, drop, length-drop, length-append}
use lib.Seq.{get_or-drop, drop-drop}
use Rattle.std.specs.Prelude as code
use Rattle.base.specs.Common.{given}
use Rattle.objects.proofs.Looked.{ends-took, not-none}
use Rattle.objects.proofs.TakeLaws.{times-exact}
use Rattle.objects.proofs.Views.{name-exact, option-exact}
use Rattle.objects.specs.declared.Body.{Body}
use Rattle.objects.specs.declared.Depth.{Depth}
use Rattle.objects.specs.declared.Ground.{Ground}
use Rattle.objects.specs.declared.Outcome.{Outcome}
use Rattle.objects.specs.declared.Spot.{Spot}
use Rattle.objects.specs.Cells.{Stand, Knows, Tells, ActsDone, BodyDone}
use Rattle.objects.specs.Order.{Went, acts, used_up, rule_in_order}
use Rattle.objects.specs.Places.{Ends}
use Rattle.objects.specs.Take.{took, times}
use Rattle.syntax.specs.Texts.{Head}
use Rattle.objects.specs.View.{Name, Pair, RuleView, name_words, option_words, rule_words, all, a_name, an_option}

-- a word and those behind it
record Word (words : List ℕ) (p a : ℕ) (more : List ℕ) : Type 0 where
  pub there : p < length words
  pub is : get_or words p 0 ≡ a
  pub behind : drop (p + 1) words ≡ more

word-at : (words : List ℕ) (p a : ℕ) (more : List ℕ) → drop p words ≡ a ∷ more → Word words p a more
word-at words p a more e =
    let l = ap length e in
    let d = length-drop p words in
    let n : p + 0 ≡ p = omega arith in
    record {
      there = omega (arith, l, d);
      is = ap (λ (i : ℕ). get_or words i 0) (sym n) ∙ sym (get_or-drop p words 0 0) ∙ ap (λ (ws : List ℕ). get_or ws 0 0) e;
      behind = sym (drop-drop 1 p words) ∙ ap (λ (ws : List ℕ). drop 1 ws) e;
    }

gives-word : (words : List ℕ) (p : ℕ) (o : Option Name) (more : List ℕ) → drop p words ≡ option_words o ++ more → eqb (get_or words p 0) 1 ≡ given o
unfolding option_words
gives-word words p none more e = rw (word-at words p 0 more e).is
gives-word words p (some n) more e = rw (word-at words p 1 (name_words n ++ more) e).is

module _ (words : List ℕ) (q : ℕ) (v : RuleView) (k : List ℕ) (e : drop q words ≡ rule_words v ++ k) where
  cells-words : List ℕ
  cells-words = length v.cells ∷ (v.cells ++ k)

  calls-words : List ℕ
  calls-words = length v.calls ∷ (all name_words v.calls ++ cells-words)

  parts : drop q words ≡ name_words v.name ++ (option_words v.gives ++ calls-words)
  unfolding rule_words cells-words calls-words
  parts = e ∙ append_assoc (name_words v.name) _ k ∙ ap (λ ws. name_words v.name ++ ws) (append_assoc (option_words v.gives) _ k
      ∙ ap (λ ws. option_words v.gives ++ (length v.calls ∷ ws)) (append_assoc (all name_words v.calls) (length v.cells ∷ v.cells) k))

  name-there : a_name (drop q words) ≡ took v.name (option_words v.gives ++ calls-words)
  name-there = ap a_name parts ∙ name-exact.back v.name tt (option_words v.gives ++ calls-words)

  pub no-gives : Ends a_name words q code.None → ⊥
  no-gives x = not-none v.name _ name-there x

  module _ {gives : ℕ} (x : Ends a_name words q (code.Some gives)) where
    at_gives : (option_words v.gives ++ calls-words ≡ drop gives words) × (gives ≤ length words)
    at_gives = ends-took v.name (option_words v.gives ++ calls-words) name-there x

    pub gives-inside : gives ≤ length words
    gives-inside = at_gives.1

    pub gives-is : eqb (get_or words gives 0) 1 ≡ given v.gives
    gives-is = gives-word words gives v.gives calls-words (sym at_gives.0)

    option-there : an_option (drop gives words) ≡ took v.gives calls-words
    option-there = ap an_option (sym at_gives.0) ∙ option-exact.back v.gives tt calls-words

    pub no-calls : Ends an_option words gives code.None → ⊥
    no-calls y = not-none v.gives _ option-there y

    module _ {calls : ℕ} (y : Ends an_option words gives (code.Some calls)) where
      at_calls : Word words calls (length v.calls) (all name_words v.calls ++ cells-words)
      unfolding calls-words
      at_calls = word-at words calls _ _ (sym (ends-took v.gives calls-words option-there y).0)

      pub calls-inside : calls < length words
      calls-inside = at_calls.there

      module _ {n : ℕ} (d : n ≡ get_or words calls 0) where
        as_many : n ≡ length v.calls
        as_many = d ∙ at_calls.is

        names-there : times n a_name (drop (calls + 1) words) ≡ took v.calls cells-words
        names-there = ap (times n a_name) at_calls.behind ∙ (times-exact name-exact n).back v.calls (sym as_many) cells-words

        pub no-cells : Ends (times n a_name) words (calls + 1) code.None → ⊥
        no-cells z = not-none v.calls _ names-there z

        module _ {cells : ℕ} (z : Ends (times n a_name) words (calls + 1) (code.Some cells)) where
          at_cells : Word words cells (length v.cells) (v.cells ++ k)
          unfolding cells-words
          at_cells = word-at words cells _ _ (sym (ends-took v.calls cells-words names-there z).0)

          pub cells-inside : cells < length words
          cells-inside = at_cells.there

          pub all-inside : cells + 1 + get_or words cells 0 ≤ length words
          all-inside =
              let a = at_cells.is in
              let l = length-drop (cells + 1) words in
              let m = ap length at_cells.behind in
              let p = length-append v.cells k in
              let t = at_cells.there in
              omega (arith, a, l, m, p, t)

          pub body-stands : (s : Spot) → s.cell ≡ cells + 1 → s.end ≡ cells + 1 + get_or words cells 0 → s.name ≡ calls + 1 → s.names ≡ n → Stand words s v.cells v.calls
          body-stands s a b c f =
              let i = at_cells.is in
              record {
                after = k;
                cells_here = ap (λ (j : ℕ). drop j words) a ∙ at_cells.behind;
                cells_count = omega (arith, a, b, i);
                rest = cells-words;
                names_here = ap (λ (j : ℕ). drop j words) c ∙ at_calls.behind;
                names_count = sym (f ∙ as_many);
              }

pub no-body-there : {words : List ℕ} {q : ℕ} → ((v : RuleView) (k : List ℕ) → drop q words ≡ rule_words v ++ k → ⊥) → BodyDone words q code.None
no-body-there h = record { low = tt; high = tt; named = tt; tells = h }

same_test : (hs : List Head) (ps : List Pair) (v : RuleView) (b c i : Bool) (left : ℕ) → b ≡ given v.gives → c ≡ b → left ≡ 32 → i ≡ false
    → used_up b (acts hs ps c (length v.cells) left i v.cells v.calls) ≡ rule_in_order hs ps v
unfolding rule_in_order
same_test hs ps v b c i left e f l d = rw (f, e, l, d)

pub rule-tested : {common heads words : List ℕ} {g : Ground} {d : Depth} {b : Body} {o : code.Option Outcome} {r : Bool} (hs : List Head) (ps : List Pair) (v : RuleView) → Knows common heads words g hs ps
    → g.valued ≡ b.valued → d.left ≡ 32 → d.inside ≡ false → (b.valued ≡ given v.gives) × Stand words b.spot v.cells v.calls → ActsDone common heads words g d b.spot o
    → ((words : List ℕ) (w : Option Went) → Tells words w o → r ≡ used_up b.valued w) → r ≡ rule_in_order hs ps v
rule-tested {words = words} {g = g} {d = d} {b = b} hs ps v kn f l i x y u =
    let n = x.1.cells_count in
    u words _ ((y.does hs ps kn (length v.cells) (omega (arith, n))).tells v.cells v.calls x.1) ∙ same_test hs ps v b.valued g.valued d.inside d.left x.0 f l i
