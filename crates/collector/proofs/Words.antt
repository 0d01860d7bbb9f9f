-- The next word, as the code finds it and as the families of crate grammar take it.
use mathlib.Core.Bool.{Bool, true, false, not, ◌&&◌}
use mathlib.Core.List.{List, [], ◌∷◌}
use mathlib.Core.Option.{none, some}
use mathlib.Core.Path.{◌≡◌, refl, sym, ap, ◌∙◌}
use Prim.Native.Nat.{ℕ, zero, suc, ◌+◌, ◌-◌, ◌≤◌, ◌<◌}
use native.Mathlib.Omega.{arith}
use lib.Dec.{eqb, leb}
use lib.ListN.{length, get_or, take, drop, length-take}
use lib.Seq.{drop-drop}
use borrow.Author.Tests.{ne_eqb}
use Rattle.std.specs.Prelude.{if◌then◌else◌}
use Rattle.std.specs.Prelude.{Option as Maybe}
use Rattle.collector.specs.Collecting.{option_in, written}
use Rattle.collector.specs.declared.Part.{Part}
use Rattle.grammar.specs.Derived.{Took, Not, Reference, by_name, by_string}
use Rattle.places.proofs.Heres as heres
use Rattle.reader.proofs.Laws.{here-next, word-length}
use Rattle.reader.specs.Answers.{Here}
use Rattle.scanner.specs.Next.{as_word}
use Rattle.scanner.specs.declared.WordAt.{WordAt}
use Rattle.symbols.specs.Rows.{word_of, option_of}
use Rattle.syntax.specs.Reading.{peek}
use Rattle.words.specs.Words.{Word, Found, digit, run, string_byte, string_here, symbol, letter, word_here, words_from, words_at, blank}

-- Words have at least one byte, but for the end

abbrev Some : Found → Type 0
Some f = 0 < f.size

some-if : (c : Bool) (x y : Found) → Some x → Some y → Some (if c then x else y)
some-if true x y p q = p
some-if false x y p q = q

string-some : (s : List ℕ) → Some (string_here s)
unfolding string_here
string-some s = some-if (leb 1 (run string_byte s) && leb (run string_byte s) 32 && eqb (get_or s (run string_byte s) 0) 39) _ _ (omega arith) (omega arith)

here-some : (b : ℕ) (s : List ℕ) → Some (word_here b s)
unfolding word_here
here-some b s =
    some-if (letter b) _ _ (omega arith)
    (some-if (digit b) _ _ (omega arith)
    (some-if (eqb b 39) _ _ (string-some s)
    (some-if (eqb b 62 && eqb (get_or s 0 0) 62) _ _ (omega arith)
    (some-if (eqb b 33) _ _ (omega arith)
    (some-if (symbol b) _ _ (omega arith) (omega arith))))))

abbrev Solid : List Word → Type 0
Solid ws = 2 ≤ (peek ws).kind → 0 < length (peek ws).text

solid-if : (c : Bool) (x y : List Word) → Solid x → Solid y → Solid (if c then x else y)
solid-if true x y p q = p
solid-if false x y p q = q

solid-word : (k at n b : ℕ) (s : List ℕ) (ws : List Word) → 0 < n → Solid (record { kind = k; start = at; text = take n (b ∷ s) } ∷ ws)
unfolding peek
solid-word k at n b s ws h e = simp length-take (omega arith)

solid : (skip at : ℕ) (s : List ℕ) → Solid (words_from skip at s)
unfolding words_from peek
solid skip at [] = λ h. absurd (omega arith)
solid zero at (b ∷ s) =
    solid-if (blank b) _ _ (solid 0 (suc at) s)
    (solid-if (eqb b 37) _ _ (solid (run (λ c. not (eqb c 10)) s) (suc at) s)
    (solid-if (eqb (word_here b s).kind 0) _ _ (solid-word (word_here b s).kind at (word_here b s).size b s [] (here-some b s))
    (solid-word (word_here b s).kind at (word_here b s).size b s (words_from ((word_here b s).size - 1) (suc at) s) (here-some b s))))
solid (suc n) at (b ∷ s) = solid n (suc at) s

pub some-len : {text : List ℕ} {at : ℕ} {w : WordAt} → Here text at w → 2 ≤ w.kind → 0 < w.len
unfolding words_at
some-len {text} {at} {w} n h = rw (n.head, word-length n) at (solid 0 at (drop at text)) h

-- The words from the place of the first word on are the same

-- so it is of ws, where s are the bytes from `at` on
record Again (at : ℕ) (s : List ℕ) (ws : List Word) : Type 0 where
  pub low : at ≤ (peek ws).start
  pub same : words_from 0 (peek ws).start (drop ((peek ws).start - at) s) ≡ ws

again-if : (c : Bool) {at : ℕ} {s : List ℕ} {x y : List Word} → (c ≡ true → Again at s x) → (c ≡ false → Again at s y) → Again at s (if c then x else y)
again-if true f g = f refl
again-if false f g = g refl

-- one byte more before them
again-more : {at : ℕ} {s : List ℕ} {ws : List Word} (b : ℕ) → Again (suc at) s ws → Again at (b ∷ s) ws
again-more {at} {s} {ws} b a =
    let e : (peek ws).start - at ≡ suc ((peek ws).start - suc at) = omega (arith, a.low) in
    record { low = omega (arith, a.low); same = ap (λ (k : ℕ). words_from 0 (peek ws).start (drop k (b ∷ s))) e ∙ a.same }

-- words that begin at their first byte
again-here : (at : ℕ) (s : List ℕ) (ws : List Word) → (peek ws).start ≡ at → words_from 0 at s ≡ ws → Again at s ws
again-here at s ws e q =
    let z : (peek ws).start - at ≡ 0 = omega (arith, e) in
    record { low = omega (arith, e); same = rw (z, e) q }

again : (skip at : ℕ) (s : List ℕ) → Again at s (words_from skip at s)
unfolding words_from peek
again skip at [] = again-here at [] _ refl refl
again (suc n) at (b ∷ s) = again-more b (again n (suc at) s)
again zero at (b ∷ s) =
    again-if (blank b) (λ e. again-more b (again 0 (suc at) s)) (λ e₁.
    again-if (eqb b 37) (λ e. again-more b (again (run (λ c. not (eqb c 10)) s) (suc at) s)) (λ e₂.
    again-if (eqb (word_here b s).kind 0) (λ e₃. again-here at (b ∷ s) _ refl (rw (e₁, e₂, e₃) refl)) (λ e₃. again-here at (b ∷ s) _ refl (rw (e₁, e₂, e₃) refl))))

pub start-again : {text : List ℕ} {at : ℕ} {w : WordAt} → Here text at w → words_at text w.start ≡ words_at text at
unfolding words_at
start-again {text} {at} {w} n =
    let a = again 0 at (drop at text) in
    let i = (peek (words_at text at)).start in
    let e : i ≡ at + (i - at) = omega (arith, a.low) in
    ap (λ (x : Word). words_at text x.start) (sym n.head)
    ∙ (ap (λ (s : List ℕ). words_from 0 i s) (ap (λ (k : ℕ). drop k text) e ∙ sym (drop-drop (i - at) at text)) ∙ a.same)

-- What a family takes: the laws of crate places for what `look` promises

taken : {text : List ℕ} {at k : ℕ} {w : WordAt} {v : Word} {ws' : List Word} → Here text at w → Took k (words_at text at) v ws' → as_word text w ≡ v
unfolding peek
taken n t = sym n.head ∙ ap peek t.here

pub took-kind : {text : List ℕ} {at k : ℕ} {w : WordAt} {v : Word} {ws' : List Word} → Here text at w → Took k (words_at text at) v ws' → w.kind ≡ k
took-kind n t = heres.took-kind _ _ _ _ _ _ (here-next n) t

pub took-word : {text : List ℕ} {at k : ℕ} {w : WordAt} {v : Word} {ws' : List Word} → Here text at w → Took k (words_at text at) v ws' → v ≡ word_of text k w.start w.len
took-word {text} {w = w} n t = sym (taken n t) ∙ ap (λ (i : ℕ). word_of text i w.start w.len) (took-kind n t)

pub took-rest : {text : List ℕ} {at k : ℕ} {w : WordAt} {v : Word} {ws' : List Word} → Here text at w → 2 ≤ k → Took k (words_at text at) v ws' → ws' ≡ words_at text w.next
took-rest n h t = (heres.took-here _ _ _ _ _ _ h (here-next n) t).behind

pub took-past : {text : List ℕ} {at k : ℕ} {w : WordAt} {v : Word} {ws' : List Word} → Here text at w → 2 ≤ k → Took k (words_at text at) v ws' → at < w.next
took-past n h t = n.moves (omega (arith, took-kind n t))

pub not-kind : {text : List ℕ} {at : ℕ} (k : ℕ) {w : WordAt} → Here text at w → Not k (words_at text at) → w.kind ≡ k → ⊥
not-kind k n m e = heres.not-here _ _ k _ (here-next n) m e

pub next-kind : {text : List ℕ} {at : ℕ} (k : ℕ) {w : WordAt} → Here text at w → (peek (words_at text at)).kind ≡ k → w.kind ≡ k
next-kind k n e = sym (heres.kind-here _ _ _ (here-next n)) ∙ e

-- the same from a list of words that is known to be that
pub took-at : {k : ℕ} {ws vs : List Word} {v : Word} {ws' : List Word} → ws ≡ vs → Took k ws v ws' → Took k vs v ws'
took-at {k} {v = v} {ws'} e t = rw (← e) t

pub reference-start : {text : List ℕ} {at : ℕ} {w : WordAt} {v : Word} {ws' : List Word} → Here text at w → Reference (words_at text at) v ws' → v.start ≡ w.start
reference-start n (by_name t) = ap (λ (x : Word). x.start) (took-word n t)
reference-start n (by_string t) = ap (λ (x : Word). x.start) (took-word n t)

-- Words that may be there

pub option-some : {text : List ℕ} {at k : ℕ} {w : WordAt} {v : Word} {ws' : List Word} (p : Maybe Part) → Here text at w → 2 ≤ k → Took k (words_at text at) v ws'
    → (written p).start ≡ w.start → (written p).len ≡ w.len → some v ≡ option_in text k p
unfolding option_of
option-some {text} {k = k} {w} p n h t e f =
    rw (e, f, ne_eqb w.len 0 (λ z. omega (arith, some-len n (omega (arith, took-kind n t))))) (ap some (took-word n t))

pub option-none : (text : List ℕ) (k : ℕ) (p : Maybe Part) → (written p).len ≡ 0 → none ≡ option_in text k p
unfolding option_of
option-none text k p e = rw e refl
