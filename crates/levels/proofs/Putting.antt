-- Laws for the cells of a level's rule: values of tokens, one entry, the entries in turn, the whole.
use mathlib.Core.Bool.{Bool, true, false}
use mathlib.Core.List.{List, [], ◌∷◌, ◌++◌, append-nil}
use mathlib.Core.Option.{Option, none, some}
use mathlib.Core.Path.{◌≡◌, refl, sym, ap, ◌∙◌}
use Prim.Native.Nat.{ℕ, ◌+◌, ◌<◌, ◌≤◌}
use native.Mathlib.Omega.{arith}
use borrow.Author.Tests.{eq-eqb, ne_eqb}
use lib.Dec.{eqb}
use lib.ListN.{length}
use Rattle.base.specs.Bools.{never}
use Rattle.std.specs.Prelude.{if◌then◌else◌}
use Rattle.declarations.specs.Decls.{Decl, knowns_in, value_in, operator_from, operators_from}
use Rattle.grammar.specs.Derived.{OperatorsIn, last_operator, more_operators}
use Rattle.levels.proofs.CellsAre.{level-parts}
use Rattle.levels.specs.LevelCells.{operator_cells, open_cells, close_cells, called_by}
use Rattle.levels.specs.Making.{entry_cells, OperatorsPut, LevelPut}
use Rattle.levels.specs.declared.Nested.{Nested}
use Rattle.maker.proofs.Entering.{operators-at, took-at}
use Rattle.maker.specs.Ranks.{EntryIs, AnEntry}
use Rattle.maker.specs.declared.Entry.{Entry}
use Rattle.names.specs.Known.{find}
use Rattle.places.proofs.Heres.{took-kind, not-here}
use Rattle.program.specs.Made as made
use Rattle.program.specs.Made.{at_level}
use Rattle.resolver.proofs.Appending.{appends-length, appends-bound, appends-none, appends-then}
use Rattle.resolver.specs.Resolved.{Appends}
use Rattle.scanner.specs.Next.{Next, as_word}
use Rattle.scanner.specs.declared.WordAt.{WordAt}
use Rattle.std.specs.Prelude.{Option as Answer, Some, None, IfSome, unwrap_or}
use Rattle.symbols.specs.Rows.{answer_of, held}
use Rattle.syntax.specs.Reading.{peek}
use Rattle.syntax.specs.Written.{Operator}
use Rattle.words.specs.Words.{Word, words_at}

-- Values

pub value_is : {v : ℕ} {r : Answer ℕ} (ds : List Decl) (c : ℕ) (w : Word) → v ≡ unwrap_or r 0 → r ≡ answer_of (find w.text (knowns_in c ds)) → v ≡ value_in ds c w
unfolding value_in
value_is ds c w q e = q ∙ rw e (go (find w.text (knowns_in c ds)))
  where
    go : (x : Option ℕ) → unwrap_or (answer_of x) 0 ≡ elim x as (λ _. ℕ) [ some u ↦ u | none ↦ 0 ]
    go (some u) = refl
    go none = refl

pub value-low : {v : ℕ} (r : Answer ℕ) → v ≡ unwrap_or r 0 → IfSome r (λ u. u < 65536) → v < 65536
value-low None q l = omega (arith, q)
value-low (Some u) q l = omega (arith, q, l)

-- One entry

pub operator-put : {cs cs₁ cs₂ cs₃ cs' : List ℕ} {c a b d r t o t' o' : ℕ} (called : ℕ) → t ≡ t' → o ≡ o' → Appends cs c (65 ∷ t ∷ []) cs₁ a → Appends cs₁ a (8 ∷ called ∷ []) cs₂ b → Appends cs₂ b (5 ∷ o ∷ []) cs₃ d
    → Appends cs₃ d (0 ∷ []) cs' r → Appends cs c (65 ∷ t' ∷ 8 ∷ called ∷ 5 ∷ o' ∷ 0 ∷ []) cs' r
operator-put called e f p q s u = rw (← e, ← f) (appends-then (appends-then (appends-then p q) s) u)

pub entry-put : {cs cs' : List ℕ} {c r : ℕ} (ds : List Decl) (text : List ℕ) (level called : ℕ) (e : Entry) → e.level ≡ level
    → Appends cs c (65 ∷ value_in ds 1 (as_word text e.token) ∷ 8 ∷ called ∷ 5 ∷ value_in ds 2 (as_word text e.emits) ∷ 0 ∷ []) cs' r → Appends cs c (entry_cells ds text level called e) cs' r
unfolding entry_cells
entry-put ds text level called e k a = rw (eq-eqb e.level level k) a

pub entry-passed : (cs : List ℕ) (c : ℕ) (ds : List Decl) (text : List ℕ) (level called : ℕ) (e : Entry) → (e.level ≡ level → ⊥) → c ≤ length cs + 1 → Appends cs c (entry_cells ds text level called e) cs c
unfolding entry_cells
entry-passed cs c ds text level called e k h = rw (ne_eqb e.level level k) (appends-none cs c (omega (arith, h)))

entry-is : {text : List ℕ} {at : ℕ} {o : Operator} {ws' : List Word} {e : Entry} (ds : List Decl) (level called : ℕ) (xs : List made.Operator) → EntryIs text at o ws' e
    → operator_cells called (at_level level (operator_from ds o ∷ xs)) [] ≡ entry_cells ds text level called e ++ operator_cells called (at_level level xs) []
unfolding at_level operator_cells entry_cells
entry-is {text} {at} {o} {ws'} {e} ds level called xs i = rw (← i.level, ← i.token, ← i.emits) (go (eqb o.level level))
  where
    go : (t : Bool) → operator_cells called (if t then operator_from ds o ∷ at_level level xs else at_level level xs) []
        ≡ (if t then 65 ∷ value_in ds 1 o.token ∷ 8 ∷ called ∷ 5 ∷ value_in ds 2 o.emits ∷ 0 ∷ [] else []) ++ operator_cells called (at_level level xs) []
    go true = refl
    go false = refl

-- The entries in turn

module _ {text : List ℕ} {rows : List ℕ} {n at level called : ℕ} {cs cs₁ : List ℕ} {c c₁ : ℕ} {e : Entry} (a : AnEntry text at e) (p : Appends cs c (entry_cells (held text rows n) text level called e) cs₁ c₁) where
  pub operators-last : {w : WordAt} → Next text e.emits.next w → w.kind ≡ 59 → OperatorsPut text rows n at level called cs c cs₁ c₁
  unfolding operators_from operator_cells at_level
  operators-last {w} h k = record { same = appends-length p; bound = omega (arith, appends-bound p); done = go }
    where
      go : (os : List Operator) (ws' : List Word) → OperatorsIn (words_at text at) ws' os → Appends cs c (operator_cells called (at_level level (operators_from (held text rows n) os)) []) cs₁ c₁
      go _ ws' (last_operator {ws₁ = ws₁} {o = o} x t) = rw (entry-is (held text rows n) level called [] (a.entry o ws₁ x) ∙ append-nil (entry_cells (held text rows n) text level called e)) p
      go _ ws' (more_operators {ws₁ = ws₁} {o = o} x m rest) = absurd (not-here text e.emits.next 59 w h (λ q. m (ap (λ (l : List Word). (peek l).kind) (a.entry o ws₁ x).rest ∙ q)) k)

  pub operators-more : {w : WordAt} {cs' : List ℕ} {r : ℕ} → Next text e.emits.next w → (w.kind ≡ 59 → ⊥) → OperatorsPut text rows n e.emits.next level called cs₁ c₁ cs' r
      → OperatorsPut text rows n at level called cs c cs' r
  unfolding operators_from
  operators-more {w} {cs'} {r} h k d = record { same = d.same ∙ appends-length p; bound = omega (arith, d.bound, appends-length p); done = go }
    where
      go : (os : List Operator) (ws' : List Word) → OperatorsIn (words_at text at) ws' os → Appends cs c (operator_cells called (at_level level (operators_from (held text rows n) os)) []) cs' r
      go _ ws' (last_operator {ws₁ = ws₁} {o = o} {semi} x t) = absurd (k (took-kind text e.emits.next 59 w semi ws' h (took-at (a.entry o ws₁ x).rest t)))
      go _ ws' (more_operators {ws₁ = ws₁} {o = o} {os = os} x m rest) =
          rw (entry-is (held text rows n) level called (operators_from (held text rows n) os) (a.entry o ws₁ x)) (appends-then p (d.done os ws' (operators-at (a.entry o ws₁ x).rest rest)))

  pub operators-stuck : e.emits.next ≤ at → OperatorsPut text rows n at level called cs c cs₁ c₁
  operators-stuck h = record { same = appends-length p; bound = omega (arith, appends-bound p); done = go }
    where
      go : (os : List Operator) (ws' : List Word) → OperatorsIn (words_at text at) ws' os → Appends cs c (operator_cells called (at_level level (operators_from (held text rows n) os)) []) cs₁ c₁
      go _ ws' (last_operator {ws₁ = ws₁} {o = o} x t) = absurd (omega (arith, (a.entry o ws₁ x).past, h))
      go _ ws' (more_operators {ws₁ = ws₁} {o = o} x m rest) = absurd (omega (arith, (a.entry o ws₁ x).past, h))

-- The whole

pub open-right : {cs cs₁ cs' : List ℕ} {c a r h : ℕ} (b : Bool) → b ≡ true → Appends cs c (8 ∷ h ∷ []) cs₁ a → Appends cs₁ a (7 ∷ []) cs' r → Appends cs c (open_cells b h) cs' r
unfolding open_cells
open-right true e p q = appends-then p q
open-right false e p q = never e

pub open-left : {cs cs₁ cs' : List ℕ} {c a r h : ℕ} (b : Bool) → b ≡ false → Appends cs c (8 ∷ h ∷ []) cs₁ a → Appends cs₁ a (2 ∷ 7 ∷ []) cs' r → Appends cs c (open_cells b h) cs' r
unfolding open_cells
open-left false e p q = appends-then p q
open-left true e p q = never (sym e)

pub close-right : {cs cs₁ cs' : List ℕ} {c a r : ℕ} (b : Bool) → b ≡ true → Appends cs c (13 ∷ 0 ∷ []) cs₁ a → Appends cs₁ a (0 ∷ []) cs' r → Appends cs c (close_cells b) cs' r
unfolding close_cells
close-right true e p q = appends-then p q
close-right false e p q = never e

pub close-left : {cs cs₁ cs₂ cs' : List ℕ} {c a d r : ℕ} (b : Bool) → b ≡ false → Appends cs c (13 ∷ 1 ∷ []) cs₁ a → Appends cs₁ a (0 ∷ 0 ∷ []) cs₂ d → Appends cs₂ d (0 ∷ []) cs' r → Appends cs c (close_cells b) cs' r
unfolding close_cells
close-left false e p q s = appends-then (appends-then p q) s
close-left true e p q s = never (sym e)

pub called-own : (b : Bool) (own h : ℕ) → b ≡ true → own ≡ called_by b own h
unfolding called_by
called-own true own h e = refl
called-own false own h e = never e

pub called-higher : (b : Bool) (own h : ℕ) → b ≡ false → h ≡ called_by b own h
unfolding called_by
called-higher false own h e = refl
called-higher true own h e = never (sym e)

pub called-low : (b : Bool) (own h : ℕ) {r : ℕ} → r ≡ called_by b own h → own < 65536 → h < 65536 → r < 65536
unfolding called_by
called-low true own h e p q = omega (arith, e, p)
called-low false own h e p q = omega (arith, e, q)

pub level-put : {text rows : List ℕ} {n called : ℕ} (x : Nested) {cs cs₁ cs₂ cs' : List ℕ} {c a b r : ℕ} → called ≡ called_by x.right x.own x.higher → Appends cs c (open_cells x.right x.higher) cs₁ a
    → OperatorsPut text rows n x.at x.level called cs₁ a cs₂ b → Appends cs₂ b (close_cells x.right) cs' r → LevelPut text rows n x cs c cs' r
level-put {text} {rows} {n} {called} x {cs} {cs₁} {cs₂} {cs'} {c} {a} {b} {r} e p d q = record {
  same = appends-length q ∙ (d.same ∙ appends-length p);
  bound = omega (arith, appends-bound q, d.same, appends-length p);
  done = λ os ws' y.
      let ops = at_level x.level (operators_from (held text rows n) os) in
      rw (level-parts x.right x.own x.higher ops, ← e) (appends-then p (appends-then (d.done os ws' y) q));
}
