-- A table that is taken stays so with anything behind it, and the same locations are reached: the walk may be given the whole lent buffer.
use mathlib.Core.Bool.{Bool, true, false, not}
use mathlib.Core.List.{List, [], ◌∷◌, ◌++◌}
use mathlib.Core.Option.{Option, none, some}
use mathlib.Core.Path.{◌≡◌, refl, sym, ap, ◌∙◌}
use Prim.Native.Nat.{ℕ, zero, suc, ◌+◌, ◌*◌, ◌≤◌}
use native.Mathlib.Omega.{arith}
use lib.Dec.{eqb, leb}
use lib.ListN.{length, length-append, get_elem?}
use borrow.Author.Tests.{leb-true, le-leb}
use Rattle.base.specs.Bools.{never}
use Rattle.std.specs.Prelude.{if◌then◌else◌}
use Rattle.base.specs.Common.{given}
use Rattle.machine.specs.Decode.{fetch, Instruction, invalid, jump, input, input_any, write, input_choice, call_rule, return, set_result, choice, end_choice, set_parameter, update, update_with, choose, choose_with, decode_one, decode_word, decode_at, decode}
use Rattle.machine.specs.Lengths.{length_of}
use Rattle.loading.specs.Reach.{fits, bad, gives37, Reachable, at_start, Taken}
use Rattle.loading.specs.Taking.{back_from, labelled, chosen, onward, ways}
use Rattle.loading.proofs.Members.{inside-fetch}
use Rattle.loading.proofs.Ways.{ByWays, from_start, by_way, way, by-ways}

module _ (T more : List ℕ) where
  fetch-behind : (l : ℕ) → given (fetch T l) ≡ true → fetch (T ++ more) l ≡ fetch T l
  unfolding fetch
  fetch-behind zero h = never h
  fetch-behind (suc i) h = go T i h
    where
      go : (S : List ℕ) (k : ℕ) → given (get_elem? S k) ≡ true → get_elem? (S ++ more) k ≡ get_elem? S k
      go [] k e = never e
      go (x ∷ S) zero e = refl
      go (x ∷ S) (suc k) e = go S k e

  fetch-within : (l : ℕ) → 1 ≤ l → l ≤ length T → fetch (T ++ more) l ≡ fetch T l
  fetch-within l a b = fetch-behind l (inside-fetch T l a b)

  -- an instruction of one word does not look at the word behind it
  one_word : (l i : ℕ) (o : Option ℕ) → eqb (length_of i) 1 ≡ true → decode_word l i o ≡ decode_one i
  unfolding decode_word
  one_word l i none e = rw e
  one_word l i (some x) e = rw e

  word-behind : (l i : ℕ) (o p : Option ℕ) → bad T (decode_word l i o) ≡ false → (given o ≡ true → p ≡ o) → decode_word l i p ≡ decode_word l i o
  unfolding decode_word bad
  word-behind l i (some x) p b f = ap (decode_word l i) (f refl)
  word-behind l i none p b f = go (eqb (length_of i) 1) refl b
    where
      go : (t : Bool) → eqb (length_of i) 1 ≡ t → bad T (if t then decode_one i else invalid) ≡ false → decode_word l i p ≡ (if t then decode_one i else invalid)
      go true e d = one_word l i p e
      go false e d = never (sym d)

  decode-behind : (l : ℕ) → bad T (decode T l) ≡ false → decode (T ++ more) l ≡ decode T l
  unfolding decode decode_at bad
  decode-behind l b = go (fetch T l) (fetch (T ++ more) l) b (fetch-behind l)
    where
      go : (o p : Option ℕ) → bad T (decode_at l o (fetch T (suc l))) ≡ false → (given o ≡ true → p ≡ o)
          → decode_at l p (fetch (T ++ more) (suc l)) ≡ decode_at l o (fetch T (suc l))
      go none p d f = never (sym d)
      go (some i) p d f = rw (f refl) (word-behind l i (fetch T (suc l)) (fetch (T ++ more) (suc l)) d (fetch-behind (suc l)))

  labelled-behind : (n l : ℕ) → 1 ≤ l → l + 2 * n ≤ length T + 1 → labelled (T ++ more) n l ≡ labelled T n l
  unfolding labelled back_from
  labelled-behind zero l a b = refl
  labelled-behind (suc n) l a b =
      let e = fetch-within (l + 1) (omega arith) (omega arith) in
      rw (back_from, e, labelled-behind n (l + 2) (omega arith) (omega arith))

  fits-chosen : (c : ℕ) → not (fits T c (fetch T c)) ≡ false
      → (chosen (T ++ more) c (fetch (T ++ more) c) ≡ chosen T c (fetch T c)) × (fits (T ++ more) c (fetch (T ++ more) c) ≡ true)
  unfolding fits chosen
  fits-chosen c b = go (fetch T c) refl b
    where
      go : (o : Option ℕ) → fetch T c ≡ o → not (fits T c o) ≡ false
          → (chosen (T ++ more) c (fetch (T ++ more) c) ≡ chosen T c o) × (fits (T ++ more) c (fetch (T ++ more) c) ≡ true)
      go none e d = never (sym d)
      go (some n) e d = inner (leb (c + 2 * n) (length T)) refl d
        where
          inner : (t : Bool) → leb (c + 2 * n) (length T) ≡ t → not t ≡ false
              → (chosen (T ++ more) c (fetch (T ++ more) c) ≡ chosen T c (some n)) × (fits (T ++ more) c (fetch (T ++ more) c) ≡ true)
          inner false t z = never (sym z)
          inner true t z =
              let h = leb-true (c + 2 * n) (length T) t in
              let a = length-append T more in
              let u = le-leb (c + 2 * n) (length (T ++ more)) (omega arith) in
              let g : fetch (T ++ more) c ≡ some n = fetch-behind c (rw e) ∙ e in
              let r = labelled-behind n (c + 1) (omega arith) (omega arith) in
              (rw (g, chosen, u, r, t), rw (g, fits, u))

  -- what follows an instruction that does not give 37
  onward-behind : (l : ℕ) (i : Instruction) → bad T i ≡ false → (onward (T ++ more) l i ≡ onward T l i) × (bad (T ++ more) i ≡ false)
  unfolding bad onward
  onward-behind l invalid b = never (sym b)
  onward-behind l (jump m) b = (refl, refl)
  onward-behind l (input t) b = (refl, refl)
  onward-behind l input_any b = (refl, refl)
  onward-behind l (write e) b = (refl, refl)
  onward-behind l (input_choice c) b = let r = fits-chosen c b in (r.0, rw r.1)
  onward-behind l (call_rule m) b = (refl, refl)
  onward-behind l return b = (refl, refl)
  onward-behind l (set_result v) b = (refl, refl)
  onward-behind l (choice c) b = let r = fits-chosen c b in (r.0, rw r.1)
  onward-behind l end_choice b = (refl, refl)
  onward-behind l (set_parameter v) b = (refl, refl)
  onward-behind l (update op) b = (refl, refl)
  onward-behind l (update_with op) b = (refl, refl)
  onward-behind l (choose op) b = (refl, refl)
  onward-behind l (choose_with op) b = (refl, refl)

  module _ (h : Taken T) where
    ways-behind : {l : ℕ} → ByWays (T ++ more) l → Reachable T l
    unfolding ways gives37
    ways-behind from_start = at_start
    ways-behind (by_way {l = l} {m = m} r w) =
        let s = ways-behind r in
        let b = h l s in
        let d = decode-behind l b in
        let o = onward-behind l (decode T l) b in
        let e : onward (T ++ more) l (decode (T ++ more) l) ≡ onward T l (decode T l) = ap (onward (T ++ more) l) d ∙ o.0 in
        way T s (rw e at w)

    pub reach-behind : {l : ℕ} → Reachable (T ++ more) l → Reachable T l
    reach-behind r = ways-behind (by-ways (T ++ more) r)

    pub Taken-behind : Taken (T ++ more)
    unfolding gives37
    Taken-behind l r =
        let b = h l (reach-behind r) in
        ap (bad (T ++ more)) (decode-behind l b) ∙ (onward-behind l (decode T l) b).1

    pub decode-alike : {l : ℕ} → Reachable T l → decode (T ++ more) l ≡ decode T l
    unfolding gives37
    decode-alike {l} r = decode-behind l (h l r)
