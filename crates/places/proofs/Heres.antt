-- The word that the scanner finds at a place is the one that the derivation takes there.
use mathlib.Core.List.{List, ◌∷◌}
use mathlib.Core.Logic.{◌⊎◌, inl, inr}
use mathlib.Core.Path.{◌≡◌, sym, ap, ◌∙◌}
use Prim.Native.Nat.{ℕ, ◌≤◌}
use native.Mathlib.Omega.{arith}
use Rattle.grammar.specs.Derived.{Took, Not, Reference, by_name, by_string}
use Rattle.reader.proofs.Laws.{head-next}
use Rattle.scanner.specs.Next.{Next, as_word}
use Rattle.scanner.specs.declared.WordAt.{WordAt}
use Rattle.syntax.specs.Reading.{peek}
use Rattle.words.specs.Words.{Word, words_at}

-- the word v taken at the place is the code's w, and the words behind it are those from its end on
pub record Same (text : List ℕ) (w : WordAt) (v : Word) (ws : List Word) : Type 0 where
  pub word : v ≡ as_word text w
  pub behind : ws ≡ words_at text w.next

-- the next word is the code's
pub head-here : (text : List ℕ) (at : ℕ) (w : WordAt) → Next text at w → peek (words_at text at) ≡ as_word text w
head-here text at w h = head-next h

pub kind-here : (text : List ℕ) (at : ℕ) (w : WordAt) → Next text at w → (peek (words_at text at)).kind ≡ w.kind
kind-here text at w h = ap (λ (v : Word). v.kind) (head-here text at w h)

pub took-kind : (text : List ℕ) (at k : ℕ) (w : WordAt) (v : Word) (ws : List Word) → Next text at w → Took k (words_at text at) v ws → w.kind ≡ k
unfolding peek
took-kind text at k w v ws h t = sym (kind-here text at w h) ∙ (ap (λ l. (peek l).kind) t.here ∙ t.kind)

pub took-here : (text : List ℕ) (at k : ℕ) (w : WordAt) (v : Word) (ws : List Word) → 2 ≤ k → Next text at w → Took k (words_at text at) v ws → Same text w v ws
took-here text at k w v ws two h t =
    let e : w.kind ≡ k = took-kind text at k w v ws h t in
    let q : 2 ≤ w.kind = rw e two in
    let d : (v ∷ ws) ≡ (as_word text w ∷ words_at text w.next) = sym t.here ∙ h.more q in
    record { word = cc; behind = cc }

-- the code's word is not of a kind that the next word is not of
pub not-here : (text : List ℕ) (at k : ℕ) (w : WordAt) → Next text at w → Not k (words_at text at) → w.kind ≡ k → ⊥
not-here text at k w h n e = n (kind-here text at w h ∙ e)

-- a name or a string
pub reference-kind : (text : List ℕ) (at : ℕ) (w : WordAt) (v : Word) (ws : List Word) → Next text at w → Reference (words_at text at) v ws → (w.kind ≡ 257) ⊎ (w.kind ≡ 259)
reference-kind text at w v ws h (by_name t) = inl (took-kind text at 257 w v ws h t)
reference-kind text at w v ws h (by_string t) = inr (took-kind text at 259 w v ws h t)

pub reference-here : (text : List ℕ) (at : ℕ) (w : WordAt) (v : Word) (ws : List Word) → Next text at w → Reference (words_at text at) v ws → Same text w v ws
reference-here text at w v ws h (by_name t) = took-here text at 257 w v ws (omega arith) h t
reference-here text at w v ws h (by_string t) = took-here text at 259 w v ws (omega arith) h t
