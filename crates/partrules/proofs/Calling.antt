-- The words after `@` up to the rule's `;` are its calls.
use mathlib.Core.Bool.{Bool, true, false, ◌||◌, not, or-false}
use mathlib.Core.Logic.{◌⊎◌, inl, inr}
use mathlib.Core.List.{List, [], ◌∷◌, ◌++◌, append-nil, append_assoc}
use mathlib.Core.Option.{Option}
use mathlib.Core.Path.{◌≡◌, refl, sym, ap, ◌∙◌}
use native.Mathlib.Omega.{arith}
use Prim.Native.Nat.{ℕ, zero, suc, ◌+◌, ◌-◌, ◌<◌, ◌≤◌}
use borrow.Author.Tests.{eq-eqb, ne_eqb, ltb-false, le-ltb}
use lib.Dec.{eqb, ltb}
use mir.Val.{bool_byte}
use lib.ListN.{length, take, drop, length-append}
use Rattle.base.proofs.Laws.{neither, lt-or-le}
use Rattle.std.specs.Prelude.{if◌then◌else◌}
use Rattle.grammar.specs.Derived.{Took, Reference, by_name, by_string, ConstantIn, no_constant, one_constant, ValueIn, no_value, one_value, PlainIn, named_in, any_in, emit_in, error_in, exit_in, call_in, give_in, ranked_in, SelectorIn, token_in, rule_inside, operation_inside, LabelsIn, last_label, more_labels, ActIn, plain_in, cycle_in, choice_in, ActsIn, none_in, more_in, AltsIn, other_in, last_in, next_in}
use Rattle.parts.specs.Form.{name_words, names_words}
use Rattle.parts.specs.Moved.{move_word, move_words}
use Rattle.parts.specs.Objects.{call_of, selects, calls, calls_all, calls_some, calls_other}
use Rattle.scanner.specs.Next.{Next, as_word}
use Rattle.scanner.specs.declared.WordAt.{WordAt}
use Rattle.syntax.specs.Written as written
use Rattle.syntax.specs.Written.{Constant, named, any, exit, emit, error, call, give, ranked, by_token, by_rule, by_operation}
use Rattle.words.specs.Words.{Word, blank, run, word_here, words_from, words_at}
use Rattle.partwriter.specs.Put.{back, name_here}
use Rattle.partrules.specs.Calls.{first_of, call_by, calls_from, is_last, signs, called}

-- One word

word-passes : (w : Word) (ws : List Word) → (w.kind ≡ 59 → ⊥) → (w.kind ≡ 64 → ⊥) → calls_from (w ∷ ws) ≡ calls_from ws
unfolding calls_from call_by
word-passes w ws a b = rw (ne_eqb w.kind 59 a, ne_eqb w.kind 64 b) refl

word-calls : (w : Word) (ws : List Word) → w.kind ≡ 64 → calls_from (w ∷ ws) ≡ first_of ws ++ calls_from ws
unfolding calls_from call_by
word-calls w ws e = rw (ne_eqb w.kind 59 (λ f. omega (arith, e, f)), eq-eqb w.kind 64 e) refl

word-ends : (w : Word) (ws : List Word) → w.kind ≡ 59 → calls_from (w ∷ ws) ≡ []
unfolding calls_from
word-ends w ws e = rw (eq-eqb w.kind 59 e) refl

more-calls : (w : Word) (ws : List Word) → eqb w.kind 59 ≡ false → calls_from (w ∷ ws) ≡ call_by w.kind ws ++ calls_from ws
unfolding calls_from
more-calls w ws e = rw e refl

no-calls : (w : Word) (ws : List Word) → (eqb w.kind 59 || false) ≡ true → calls_from (w ∷ ws) ≡ []
unfolding calls_from
no-calls w ws e = rw (sym (or-false (eqb w.kind 59)) ∙ e) refl

alone : (w : Word) → calls_from (w ∷ []) ≡ []
unfolding calls_from call_by first_of
alone w = go (eqb w.kind 59) (eqb w.kind 64)
  where
    go : (a b : Bool) → ◌≡◌ {A = List Word} (if a then [] else ((if b then [] else []) ++ [])) []
    go true b = refl
    go false true = refl
    go false false = refl

passes : {k : ℕ} {ws ws' : List Word} {w : Word} → Took k ws w ws' → (k ≡ 59 → ⊥) → (k ≡ 64 → ⊥) → calls_from ws ≡ calls_from ws'
passes {k} {ws} {ws'} {w} t a b = ap calls_from t.here ∙ word-passes w ws' (λ e. a (sym t.kind ∙ e)) (λ e. b (sym t.kind ∙ e))

one-call : {ws ws₁ ws' : List Word} {at w : Word} → Took 64 ws at ws₁ → Took 257 ws₁ w ws' → calls_from ws ≡ w ∷ calls_from ws'
unfolding first_of
one-call {ws} {ws₁} {ws'} {at} {w} t u =
    ap calls_from t.here ∙ word-calls at ws₁ t.kind ∙ ap (λ l. first_of l ++ calls_from ws₁) u.here ∙ ap (λ l. w ∷ l) (passes u (λ e. omega (arith, e)) (λ e. omega (arith, e)))

pub calls-end : {ws ws' : List Word} {w : Word} → Took 59 ws w ws' → calls_from ws ≡ []
calls-end {ws} {ws'} {w} t = ap calls_from t.here ∙ word-ends w ws' t.kind

-- Parts without calls

reference-passes : {ws ws' : List Word} {w : Word} → Reference ws w ws' → calls_from ws ≡ calls_from ws'
reference-passes (by_name t) = passes t (λ e. omega (arith, e)) (λ e. omega (arith, e))
reference-passes (by_string t) = passes t (λ e. omega (arith, e)) (λ e. omega (arith, e))

constant-passes : {ws ws' : List Word} (c : Option Constant) → ConstantIn ws ws' c → calls_from ws ≡ calls_from ws'
constant-passes c (no_constant n e) = ap calls_from (sym e)
constant-passes c (one_constant t u v) = passes t (λ e. omega (arith, e)) (λ e. omega (arith, e)) ∙ reference-passes u ∙ passes v (λ e. omega (arith, e)) (λ e. omega (arith, e))

value_passes : {ws ws' : List Word} (v : Option Word) → ValueIn ws ws' v → calls_from ws ≡ calls_from ws'
value_passes v (no_value n m e) = ap calls_from (sym e)
value_passes v (one_value u) = reference-passes u

labels-pass : {ws ws' : List Word} (ls : List Word) → LabelsIn ws ws' ls → calls_from ws ≡ calls_from ws'
labels-pass ls (last_label u n) = reference-passes u
labels-pass ls (more_labels {ls = more} u t d) = reference-passes u ∙ passes t (λ e. omega (arith, e)) (λ e. omega (arith, e)) ∙ labels-pass more d

-- Actions

plain-calls : {ws ws' : List Word} (a : written.Plain) → PlainIn ws ws' a → calls_from ws ≡ call_of a ++ calls_from ws'
unfolding call_of
plain-calls a (named_in {c = c} u d) = reference-passes u ∙ constant-passes c d
plain-calls a (any_in t) = passes t (λ e. omega (arith, e)) (λ e. omega (arith, e))
plain-calls a (emit_in t u) = passes t (λ e. omega (arith, e)) (λ e. omega (arith, e)) ∙ reference-passes u
plain-calls a (error_in t u) = passes t (λ e. omega (arith, e)) (λ e. omega (arith, e)) ∙ reference-passes u
plain-calls a (exit_in t) = passes t (λ e. omega (arith, e)) (λ e. omega (arith, e))
plain-calls a (call_in t u) = one-call t u
plain-calls a (give_in {v = v} t u) = passes t (λ e. omega (arith, e)) (λ e. omega (arith, e)) ∙ value_passes v u
plain-calls a (ranked_in t u v x) = passes t (λ e. omega (arith, e)) (λ e. omega (arith, e)) ∙ passes u (λ e. omega (arith, e)) (λ e. omega (arith, e)) ∙ one-call v x

selector-calls : {ws ws' : List Word} (s : written.Selector) → SelectorIn ws ws' s → calls_from ws ≡ selects s ++ calls_from ws'
unfolding selects
selector-calls s (token_in n m e) = ap calls_from (sym e)
selector-calls s (rule_inside t u) = one-call t u
selector-calls s (operation_inside {c = c} t d) = passes t (λ e. omega (arith, e)) (λ e. omega (arith, e)) ∙ constant-passes c d

mutual
  unfolding calls

  act-calls : {ws ws' : List Word} {a : written.Act} → ActIn ws ws' a → calls_from ws ≡ calls a ++ calls_from ws'
  act-calls (plain_in {a = p} d) = plain-calls p d
  act-calls (cycle_in {b = b} t d u) =
      passes t (λ e. omega (arith, e)) (λ e. omega (arith, e)) ∙ acts-calls d ∙ ap (λ m. calls_all b ++ m) (passes u (λ e. omega (arith, e)) (λ e. omega (arith, e)))
  act-calls (choice_in {ws' = ws'} {s = s} {q = q} {o = o} t d u e) =
      passes t (λ f. omega (arith, f)) (λ f. omega (arith, f)) ∙ selector-calls s d ∙ ap (λ m. selects s ++ m) (passes u (λ f. omega (arith, f)) (λ f. omega (arith, f)) ∙ alts-calls e)
      ∙ sym (append_assoc (selects s) (calls_some q ++ calls_other o) (calls_from ws'))

  pub acts-calls : {ws ws' : List Word} {q : written.Acts} → ActsIn ws ws' q → calls_from ws ≡ calls_all q ++ calls_from ws'
  acts-calls (none_in k e) = ap calls_from (sym e)
  acts-calls (more_in {ws' = ws'} {a = a} {q = q} k d e) = act-calls d ∙ ap (λ m. calls a ++ m) (acts-calls e) ∙ sym (append_assoc (calls a) (calls_all q) (calls_from ws'))

  alts-calls : {ws ws' : List Word} {room : ℕ} {q : written.Alts} {o : written.Other} → AltsIn ws ws' room q o → calls_from ws ≡ (calls_some q ++ calls_other o) ++ calls_from ws'
  alts-calls (other_in {b = b} t u d v) =
      passes t (λ f. omega (arith, f)) (λ f. omega (arith, f)) ∙ passes u (λ f. omega (arith, f)) (λ f. omega (arith, f)) ∙ acts-calls d ∙ ap (λ m. calls_all b ++ m) (passes v (λ f. omega (arith, f)) (λ f. omega (arith, f)))
  alts-calls (last_in {ws' = ws'} {ls = ls} {b = b} l n t d u) =
      labels-pass ls l ∙ passes t (λ f. omega (arith, f)) (λ f. omega (arith, f)) ∙ acts-calls d ∙ ap (λ m. calls_all b ++ m) (passes u (λ f. omega (arith, f)) (λ f. omega (arith, f)))
      ∙ ap (λ m. m ++ calls_from ws') (sym (append-nil (calls_all b ++ []) ∙ append-nil (calls_all b)))
  alts-calls (next_in {ws' = ws'} {ls = ls} {b = b} {q = q} {o = o} l n t d u e) =
      labels-pass ls l ∙ passes t (λ f. omega (arith, f)) (λ f. omega (arith, f)) ∙ acts-calls d
      ∙ ap (λ m. calls_all b ++ m) (passes u (λ f. omega (arith, f)) (λ f. omega (arith, f)) ∙ alts-calls e)
      ∙ sym (append_assoc (calls_all b) (calls_some q ++ calls_other o) (calls_from ws')) ∙ ap (λ m. m ++ calls_from ws') (sym (append_assoc (calls_all b) (calls_some q) (calls_other o)))

-- the whole of a rule's body
pub body-calls : {ws ws₁ ws' : List Word} {w : Word} {q : written.Acts} → ActsIn ws ws₁ q → Took 59 ws₁ w ws' → calls_from ws ≡ calls_all q
body-calls {ws} {ws₁} {q = q} d t = acts-calls d ∙ ap (λ m. calls_all q ++ m) (calls-end t) ∙ append-nil (calls_all q)

-- A word of the text

pub is_word : (kind : ℕ) → is_last kind ≡ false → 2 ≤ kind
is_word kind e = ltb-false kind 2 (neither (eqb kind 59) (ltb kind 2) e).1

pub calls-on : {text : List ℕ} {at : ℕ} {w : WordAt} → Next text at w → is_last w.kind ≡ false → calls_from (words_at text at) ≡ call_by w.kind (words_at text w.next) ++ calls_from (words_at text w.next)
calls-on {text} {at} {w} N e = ap calls_from (N.more (is_word w.kind e)) ∙ go (neither (eqb w.kind 59) (ltb w.kind 2) e).0
  where
    go : eqb w.kind 59 ≡ false → calls_from (as_word text w ∷ words_at text w.next) ≡ call_by w.kind (words_at text w.next) ++ calls_from (words_at text w.next)
    go f = more-calls (as_word text w) (words_at text w.next) f

pub calls-off : {text : List ℕ} {at : ℕ} {w : WordAt} → Next text at w → is_last w.kind ≡ true → calls_from (words_at text at) ≡ []
calls-off {text} {at} {w} N e = go (lt-or-le w.kind 2)
  where
    go : (w.kind < 2) ⊎ (2 ≤ w.kind) → calls_from (words_at text at) ≡ []
    go (inl h) = ap calls_from (N.final h) ∙ alone (as_word text w)
    go (inr h) = ap calls_from (N.more h) ∙ no-calls (as_word text w) (words_at text w.next) (rw (le-ltb w.kind 2 h) at e)

-- How many

some_words : (s : List ℕ) (skip at : ℕ) → length (first_of (words_from skip at s)) ≡ 1
unfolding words_from first_of
some_words [] skip at = refl
some_words (b ∷ s) (suc n) at = some_words s n (suc at)
some_words (b ∷ s) zero at = go (blank b) (eqb b 37) (eqb (word_here b s).kind 0) (some_words s 0 (suc at)) (some_words s (run (λ c. not (eqb c 10)) s) (suc at))
  where
    go : (x y z : Bool) → length (first_of (words_from 0 (suc at) s)) ≡ 1 → length (first_of (words_from (run (λ c. not (eqb c 10)) s) (suc at) s)) ≡ 1
        → length (first_of (if x then words_from 0 (suc at) s else if y then words_from (run (λ c. not (eqb c 10)) s) (suc at) s else if z then (record { kind = (word_here b s).kind; start = at; text = take (word_here b s).size (b ∷ s) } ∷ []) else (record { kind = (word_here b s).kind; start = at; text = take (word_here b s).size (b ∷ s) } ∷ words_from ((word_here b s).size - 1) (suc at) s))) ≡ 1
    go true y z h k = h
    go false true z h k = k
    go false false true h k = refl
    go false false false h k = refl

pub signs-are : (text : List ℕ) (at kind : ℕ) → length (call_by kind (words_at text at)) ≡ signs kind
unfolding call_by signs words_at
signs-are text at kind = go (eqb kind 64)
  where
    go : (b : Bool) → length (if b then first_of (words_from 0 at (drop at text)) else []) ≡ (if b then 1 else 0)
    go true = some_words (drop at text) 0 at
    go false = refl

pub count-on : {text : List ℕ} {at : ℕ} {w : WordAt} (n k t : ℕ) → Next text at w → is_last w.kind ≡ false → k ≡ signs w.kind → n + length (calls_from (words_at text at)) ≡ t
    → n + k + length (calls_from (words_at text w.next)) ≡ t
count-on {text} {at} {w} n k t N l e h =
    let a : length (calls_from (words_at text at)) ≡ k + length (calls_from (words_at text w.next)) =
    ap length (calls-on N l) ∙ length-append (call_by w.kind (words_at text w.next)) (calls_from (words_at text w.next)) ∙ ap (λ m. m + length (calls_from (words_at text w.next))) (signs-are text w.next w.kind ∙ sym e) in
    omega (arith, a, h)

pub count-off : {text : List ℕ} {at : ℕ} {w : WordAt} (n t : ℕ) → Next text at w → is_last w.kind ≡ true → n + length (calls_from (words_at text at)) ≡ t → n ≡ t
count-off {text} {at} {w} n t N l h = let a = ap length (calls-off N l) in omega (arith, a, h)

pub sign-of : (kind n : ℕ) → n ≡ bool_byte (eqb kind 64) → n ≡ signs kind
unfolding signs
sign-of kind n = go (eqb kind 64)
  where
    go : (b : Bool) → n ≡ bool_byte b → n ≡ (if b then 1 else 0)
    go true e = e
    go false e = e

pub signs-few : (kind : ℕ) → signs kind ≤ 1
unfolding signs
signs-few kind = go (eqb kind 64)
  where
    go : (b : Bool) → (if b then 1 else 0) ≤ 1
    go true = omega arith
    go false = omega arith

-- Their words

moves-append : (f : ℕ → ℕ) (a b : List Word) → names_words (move_words f (a ++ b)) ≡ names_words (move_words f a) ++ names_words (move_words f b)
unfolding move_words names_words
moves-append f [] b = refl
moves-append f (w ∷ a) b = ap (λ m. name_words (move_word f w) ++ m) (moves-append f a b) ∙ sym (append_assoc (name_words (move_word f w)) (names_words (move_words f a)) (names_words (move_words f b)))

pub called_on : {text : List ℕ} {at : ℕ} {w : WordAt} (moved : ℕ) → Next text at w → is_last w.kind ≡ false
    → called moved (calls_from (words_at text at)) ≡ called moved (call_by w.kind (words_at text w.next)) ++ called moved (calls_from (words_at text w.next))
unfolding called
called_on {text} {at} {w} moved N l = ap (called moved) (calls-on N l) ∙ moves-append (back moved) (call_by w.kind (words_at text w.next)) (calls_from (words_at text w.next))

pub called-off : {text : List ℕ} {at : ℕ} {w : WordAt} (moved : ℕ) → Next text at w → is_last w.kind ≡ true → called moved (calls_from (words_at text at)) ≡ []
unfolding called move_words names_words
called-off moved N l = ap (called moved) (calls-off N l)

first-here : (text : List ℕ) (at : ℕ) (v : WordAt) → Next text at v → first_of (words_at text at) ≡ as_word text v ∷ []
unfolding first_of
first-here text at v N = go (lt-or-le v.kind 2)
  where
    go : (v.kind < 2) ⊎ (2 ≤ v.kind) → first_of (words_at text at) ≡ as_word text v ∷ []
    go (inl h) = ap first_of (N.final h)
    go (inr h) = ap first_of (N.more h)

pub called-one : {text : List ℕ} {at : ℕ} {v : WordAt} (kind moved : ℕ) → kind ≡ 64 → Next text at v → name_here text v.start v.len moved ≡ called moved (call_by kind (words_at text at))
unfolding called call_by move_words names_words name_here name_words move_word
called-one {text} {at} {v} kind moved e N = rw (eq-eqb kind 64 e, first-here text at v N) (sym (append-nil _))

pub called-none : (text : List ℕ) (at kind moved : ℕ) → (kind ≡ 64 → ⊥) → called moved (call_by kind (words_at text at)) ≡ []
unfolding called call_by move_words names_words
called-none text at kind moved n = rw (ne_eqb kind 64 n) refl
