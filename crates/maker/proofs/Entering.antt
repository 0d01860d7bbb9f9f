-- An entry of a section of operators as the code reads it, and scans of the entries.
use mathlib.Core.Bool.{Bool, true, false}
use mathlib.Core.List.{List, [], ◌∷◌}
use mathlib.Core.Logic.{◌⊎◌, inl, inr}
use mathlib.Core.Path.{◌≡◌, refl, sym, ap, ◌∙◌}
use Prim.Native.Nat.{ℕ, zero, suc, ◌+◌, ◌*◌, ◌<◌, ◌≤◌, min}
use Rattle.base.proofs.Laws.{lt-or-le}
use native.Mathlib.Omega.{arith}
use borrow.Author.Tests.{leb-true, leb-false}
use lib.Dec.{leb}
use lib.ListN.{length, get_or, take, drop}
use Rattle.base.specs.Common.{bytes, same}
use Rattle.declarations.specs.Decls.{Decl, operators_from}
use Rattle.grammar.specs.Derived.{Took, Reference, by_name, by_string, SideIn, left_in, right_in, OperatorIn, one_operator, OperatorsIn, last_operator, more_operators}
use Rattle.maker.specs.Pairing.{PlaceOf}
use Rattle.maker.specs.Ranks.{EntryIs, AnEntry, rank_step, rank_of, RankDone}
use Rattle.maker.specs.declared.Entry.{Entry}
use Rattle.maker.specs.declared.Rank.{Rank}
use Rattle.places.proofs.Heres.{took-here, took-kind, not-here, reference-kind, reference-here}
use Rattle.reader.specs.Counting.{NumberOf}
use Rattle.scanner.specs.Next.{Next}
use Rattle.scanner.specs.declared.WordAt.{WordAt}
use Rattle.syntax.specs.Reading.{peek}
use Rattle.syntax.specs.Written.{Operator}
use Rattle.words.specs.Words.{Word, value, words_from, words_at}

-- from a list of words that is known to be another
pub took-at : {k : ℕ} {ws vs ws' : List Word} {v : Word} → ws ≡ vs → Took k ws v ws' → Took k vs v ws'
took-at e t = rw (← e) t

reference-at : {ws vs ws' : List Word} {v : Word} → ws ≡ vs → Reference ws v ws' → Reference vs v ws'
reference-at e t = rw (← e) t

side-at : {ws vs ws' : List Word} {b : Bool} → ws ≡ vs → SideIn ws ws' b → SideIn vs ws' b
side-at e t = rw (← e) t

pub operators-at : {ws vs ws' : List Word} {os : List Operator} → ws ≡ vs → OperatorsIn ws ws' os → OperatorsIn vs ws' os
operators-at e t = rw (← e) t

-- the level's digits
level-is : {x l : ℕ} {digits : List ℕ} → NumberOf digits x → l ≡ value 0 digits → l ≤ 15 → l ≡ x
level-is {x} {l} {digits} n e h = e ∙ n.exact (choose (leb x 65535) refl) where
  choose : (b : Bool) → leb x 65535 ≡ b → x ≤ 65535
  choose true q = leb-true x 65535 q
  choose false q = absurd (omega (arith, n.past (leb-false x 65535 q), e, h))

-- its side
side-is : (text : List ℕ) (at : ℕ) {w : WordAt} {ws' : List Word} {b c : Bool} → Next text at w → c ≡ same (take w.len (drop w.start text)) (bytes "right") → SideIn (words_at text at) ws' b
    → (b ≡ c) × (ws' ≡ words_at text w.next)
side-is text at {w} n e (left_in {w = v} t q) =
    let s = took-here text at 257 w v _ (omega arith) n t in
    (sym (e ∙ ap (λ (x : List ℕ). same x (bytes "right")) (sym (ap (λ (x : Word). x.text) s.word) ∙ q)), s.behind)
side-is text at {w} n e (right_in {w = v} t q) =
    let s = took-here text at 257 w v _ (omega arith) n t in
    (sym (e ∙ ap (λ (x : List ℕ). same x (bytes "right")) (sym (ap (λ (x : Word). x.text) s.word) ∙ q)), s.behind)

reference-past : (text : List ℕ) (at : ℕ) {w : WordAt} {v : Word} {ws' : List Word} → Next text at w → Reference (words_at text at) v ws' → at < w.next
reference-past text at {w} {v} {ws'} n r = go (reference-kind text at w v ws' n r) where
  go : (w.kind ≡ 257) ⊎ (w.kind ≡ 259) → at < w.next
  go (inl e) = n.moves (omega (arith, e))
  go (inr e) = n.moves (omega (arith, e))

pub entry_read : (text : List ℕ) (at : ℕ) {t d s o : WordAt} (l : ℕ) (b : Bool) → at ≤ length text → Next text at t → Next text t.next d → Next text d.next s → Next text s.next o
    → NumberOf (take d.len (drop d.start text)) l → b ≡ same (take s.len (drop s.start text)) (bytes "right")
    → AnEntry text at (record { token = t; level = l; right = b; emits = o })
entry_read text at {t} {d} {s} {o} l b h nt nd ns nq num side = record {
  low = omega (arith, nt.onto, nd.onto, ns.onto, nq.onto);
  high = nq.high (ns.high (nd.high (nt.high h)));
  entry = λ e ws' x. go e ws' x;
}
  where
    go : (e : Operator) (ws' : List Word) → OperatorIn (words_at text at) ws' e → EntryIs text at e ws' (record { token = t; level = l; right = b; emits = o })
    go e ws' (one_operator {digits = v} {ws₁} {ws₂} {ws₃} r k q one most z y) =
        let a = reference-here text at t e.token ws₁ nt r in
        let k' = took-at a.behind k in
        let c = took-here text t.next 258 d v ws₂ (omega arith) nd k' in
        let u = side-is text d.next ns side (side-at c.behind z) in
        let y' = reference-at u.1 y in
        let f = reference-here text s.next o e.emits ws' nq y' in
        record {
          token = a.word;
          level = level-is num (q ∙ ap (λ (x : Word). value 0 x.text) c.word) most;
          right = u.0;
          emits = f.word;
          rest = f.behind;
          past = omega (arith, reference-past text at nt r, nd.onto, ns.onto, nq.onto);
        }

-- Where the entries stand

place_same : (text rows : List ℕ) (row : ℕ) (r : ℕ) → r ≡ get_or rows (8 * row + 1) 0 → r ≤ length text → PlaceOf text rows row r
place_same text rows row r e h = record { inside = h; entries = λ os ws' x. operators-at (ap (words_at text) (sym e)) x }

past-drop : (at : ℕ) (text : List ℕ) → length text < at → drop at text ≡ []
past-drop at [] h = go at where
  go : (k : ℕ) → drop {A = ℕ} k [] ≡ []
  go zero = refl
  go (suc k) = refl
past-drop zero (b ∷ text) h = absurd (omega arith)
past-drop (suc at) (b ∷ text) h = past-drop at text (omega arith)

no_word : (text : List ℕ) (at : ℕ) → length text < at → (peek (words_at text at)).kind ≡ 1
unfolding words_at words_from peek
no_word text at h = rw (past-drop at text h) refl

no-reference : (text : List ℕ) (at : ℕ) {v : Word} {ws' : List Word} → length text < at → Reference (words_at text at) v ws' → ⊥
unfolding peek
no-reference text at h (by_name t) = omega (arith, no_word text at h, ap (λ (l : List Word). (peek l).kind) t.here ∙ t.kind)
no-reference text at h (by_string t) = omega (arith, no_word text at h, ap (λ (l : List Word). (peek l).kind) t.here ∙ t.kind)

place-past : (text rows : List ℕ) (row : ℕ) (r : ℕ) {x : ℕ} → x ≡ get_or rows (8 * row + 1) 0 → length text < x → r ≤ length text → PlaceOf text rows row r
place-past text rows row r {x} e h i = record { inside = i; entries = λ os ws' y. absurd (go os ws' y) }
  where
    one : (o : Operator) (ws' : List Word) → OperatorIn (words_at text (get_or rows (8 * row + 1) 0)) ws' o → ⊥
    one o ws' (one_operator r₁ k q a b z y) = no-reference text (get_or rows (8 * row + 1) 0) (rw (← e) h) r₁

    go : (os : List Operator) (ws' : List Word) → OperatorsIn (words_at text (get_or rows (8 * row + 1) 0)) ws' os → ⊥
    go _ ws' (last_operator {o = o} a t) = one o _ a
    go _ ws' (more_operators {o = o} a n m) = one o _ a

-- a place that is cut at the text's end
pub place-cut : (text rows : List ℕ) (row : ℕ) {x r : ℕ} → x ≡ get_or rows (8 * row + 1) 0 → r ≡ min x (length text) → PlaceOf text rows row r
place-cut text rows row {x} {r} e f = go (lt-or-le (length text) x)
  where
    go : (length text < x) ⊎ (x ≤ length text) → PlaceOf text rows row r
    go (inl h) = place-past text rows row r e h (omega (arith, f))
    go (inr h) = place_same text rows row r (omega (arith, f, e, h)) (omega (arith, f))

-- Scans

module _ {text : List ℕ} {at : ℕ} (above : ℕ) (s : Rank) {s' : Rank} {e : Entry} (a : AnEntry text at e) (step : e.level ≤ 15 → s' ≡ rank_step above s e.level e.right) where
  most : (o : Operator) (ws' : List Word) → OperatorIn (words_at text at) ws' o → o.level ≤ 15
  most o ws' (one_operator r k q low high z y) = high

  stepped : (o : Operator) (ws' : List Word) → OperatorIn (words_at text at) ws' o → rank_step above s o.level o.right ≡ s'
  stepped o ws' x =
      let i = a.entry o ws' x in
      ap (λ (l : ℕ). rank_step above s l o.right) i.level ∙ ap (rank_step above s e.level) i.right ∙ sym (step (omega (arith, i.level, most o ws' x)))

  pub rank-last : {w : WordAt} → Next text e.emits.next w → w.kind ≡ 59 → RankDone text at above s s'
  unfolding rank_of operators_from
  rank-last {w} n k = record { done = go } where
    go : (ds : List Decl) (os : List Operator) (ws' : List Word) → OperatorsIn (words_at text at) ws' os → s' ≡ rank_of above s (operators_from ds os)
    go ds _ ws' (last_operator {o = o} x t) = sym (stepped o _ x)
    go ds _ ws' (more_operators {ws₁ = ws₁} {o = o} x m rest) = absurd (not-here text e.emits.next 59 w n (λ q. m (ap (λ (l : List Word). (peek l).kind) (a.entry o ws₁ x).rest ∙ q)) k)

  pub rank-more : {w : WordAt} {r : Rank} → Next text e.emits.next w → (w.kind ≡ 59 → ⊥) → RankDone text e.emits.next above s' r → RankDone text at above s r
  unfolding rank_of operators_from
  rank-more {w} {r} n k d = record { done = go } where
    go : (ds : List Decl) (os : List Operator) (ws' : List Word) → OperatorsIn (words_at text at) ws' os → r ≡ rank_of above s (operators_from ds os)
    go ds _ ws' (last_operator {ws₁ = ws₁} {o = o} {semi} x t) = absurd (k (took-kind text e.emits.next 59 w semi ws' n (took-at (a.entry o ws₁ x).rest t)))
    go ds _ ws' (more_operators {ws₁ = ws₁} {o = o} {os = os} x m rest) =
        d.done ds os ws' (operators-at (a.entry o ws₁ x).rest rest) ∙ ap (λ (z : Rank). rank_of above z (operators_from ds os)) (sym (stepped o ws₁ x))

  pub rank-stuck : {r : Rank} → e.emits.next ≤ at → RankDone text at above s r
  rank-stuck {r} h = record { done = go } where
    go : (ds : List Decl) (os : List Operator) (ws' : List Word) → OperatorsIn (words_at text at) ws' os → r ≡ rank_of above s (operators_from ds os)
    go ds _ ws' (last_operator {ws₁ = ws₁} {o = o} x t) = absurd (omega (arith, (a.entry o ws₁ x).past))
    go ds _ ws' (more_operators {ws₁ = ws₁} {o = o} x m rest) = absurd (omega (arith, (a.entry o ws₁ x).past))
