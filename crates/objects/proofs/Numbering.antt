-- The numbers of an object's calls: the list, the other names, and its pairs, in this order.
use mathlib.Core.Bool.{true}
use mathlib.Core.List.{List, [], ◌∷◌, ◌++◌, append_assoc}
use mathlib.Core.Path.{◌≡◌, refl, ap, ◌∙◌, subst}
use native.Mathlib.Omega.{arith}
use Prim.Native.Nat.{ℕ, zero, suc, ◌+◌, ◌-◌, ◌<◌}
use lib.ListN.{length, get_or, replicate, length-append, length-replicate}
use lib.Seq.{get_or-append_seam, get_or-append-add}
use Rattle.acceptance.proofs.Shape.{Each}
use Rattle.base.proofs.Laws.{same_refl, same-eq}
use Rattle.base.specs.Bools as bools
use Rattle.names.specs.Uses.{Use}
use Rattle.parts.specs.Objects.{Aim, named, ranked, head_aims, use_aims, call_aims}
use Rattle.syntax.specs.Texts.{Head}
use Rattle.words.specs.Words.{Word}
use Rattle.objects.proofs.Found.{Numbered, Ranks}
use Rattle.objects.proofs.Marks.{nothing, word_of, words_of}
use Rattle.objects.specs.Order.{stands_at}
use Rattle.objects.specs.View.{Name, Pair, name_of, pair_of, pairs_of}

pub not-ranked {ℓ} : {B : Type ℓ} {t : List ℕ} {u : Use} → named t ≡ ranked u → B
not-ranked e = let z : ◌≡◌ {A = ℕ} 0 1 = cc in absurd (omega arith)

pub ranked-same : {u₁ u₂ : Use} → ranked u₁ ≡ ranked u₂ → u₁ ≡ u₂
ranked-same e = cc

pub heads-length : (hs : List Head) → length (head_aims hs) ≡ length hs
unfolding head_aims
heads-length [] = refl
heads-length (h ∷ hs) = ap suc (heads-length hs)

pub calls-length : (ws : List Word) → length (call_aims ws) ≡ length ws
unfolding call_aims
calls-length [] = refl
calls-length (w ∷ ws) = ap suc (calls-length ws)

pub uses-length : (us : List Use) → length (use_aims us) ≡ length us
unfolding use_aims
uses-length [] = refl
uses-length (u ∷ us) = ap suc (uses-length us)

-- the first number of a pair
pub first_is : (hs : List Head) (ws : List Word) (us : List Use) → length (head_aims hs ++ (call_aims ws ++ use_aims us)) - length us ≡ length hs + length ws
first_is hs ws us =
    let a = length-append (head_aims hs) (call_aims ws ++ use_aims us) in
    let b = length-append (call_aims ws) (use_aims us) in
    let c = heads-length hs in
    let d = calls-length ws in
    let e = uses-length us in
    omega (arith, a, b, c, d, e)

-- Whatever stands for a pair is at the pair's place

pub past-heads : (hs : List Head) (later : List Aim) (i : ℕ) (u : Use) → get_or (head_aims hs ++ later) i nothing ≡ ranked u → get_or later (i - length hs) nothing ≡ ranked u
unfolding head_aims
past-heads [] later i u e = let d : i - 0 ≡ i = omega arith in rw d e
past-heads (h ∷ hs) later zero u e = not-ranked e
past-heads (h ∷ hs) later (suc i) u e = let d : suc i - suc (length hs) ≡ i - length hs = omega arith in rw d (past-heads hs later i u e)

pub past-calls : (ws : List Word) (later : List Aim) (i : ℕ) (u : Use) → get_or (call_aims ws ++ later) i nothing ≡ ranked u → get_or later (i - length ws) nothing ≡ ranked u
unfolding call_aims
past-calls [] later i u e = let d : i - 0 ≡ i = omega arith in rw d e
past-calls (w ∷ ws) later zero u e = not-ranked e
past-calls (w ∷ ws) later (suc i) u e = let d : suc i - suc (length ws) ≡ i - length ws = omega arith in rw d (past-calls ws later i u e)

in-uses : (us : List Use) (i : ℕ) (u : Use) (n : Name) → get_or (use_aims us) i nothing ≡ ranked u → u.operand.text ≡ n.text → stands_at (pairs_of us) i n ≡ true
unfolding use_aims pairs_of pair_of stands_at name_of
in-uses [] i u n e d = not-ranked e
in-uses (x ∷ us) zero u n e d = let y = ranked-same e in rw (y, d) (same_refl n.text)
in-uses (x ∷ us) (suc i) u n e d = in-uses us i u n e d

pub ranked-at : (hs : List Head) (ws : List Word) (us : List Use) (aims : List Aim) → aims ≡ head_aims hs ++ (call_aims ws ++ use_aims us)
    → (i : ℕ) (u : Use) (n : Name) → get_or aims i nothing ≡ ranked u → u.operand.text ≡ n.text → stands_at (pairs_of us) (i - (length hs + length ws)) n ≡ true
ranked-at hs ws us aims are i u n e d =
    let x = past-heads hs (call_aims ws ++ use_aims us) i u (rw are at e) in
    let y = past-calls ws (use_aims us) (i - length hs) u x in
    let z : i - length hs - length ws ≡ i - (length hs + length ws) = omega arith in
    rw (← z) (in-uses us (i - length hs - length ws) u n y d)

-- Numbers for a view

-- a use with the pair's view: the `^` has the length, and any text
unfoldable pub use_of : Pair → Use
use_of p = record { sign = record { kind = 94; start = p.start; text = replicate p.size 0 }; section = word_of p.section; operand = word_of p.operand }

unfoldable pub uses_of : List Pair → List Use
uses_of [] = []
uses_of (p ∷ ps) = use_of p ∷ uses_of ps

pub pairs-uses : (ps : List Pair) → pairs_of (uses_of ps) ≡ ps
unfolding pairs_of uses_of pair_of use_of name_of
pairs-uses [] = refl
pairs-uses (p ∷ ps) = rw (length-replicate {A = ℕ} p.size 0, pairs-uses ps)

record UseAt (later : List Aim) (k : ℕ) (n : Name) : Type 0 where
  pub pair : Use
  pub aim : get_or later k nothing ≡ ranked pair
  pub operand : pair.operand.text ≡ n.text
  pub there : k < length later

use-at : (ps : List Pair) (k : ℕ) (n : Name) → stands_at ps k n ≡ true → UseAt (use_aims (uses_of ps)) k n
unfolding use_aims uses_of use_of stands_at
use-at [] k n e = bools.never e
use-at (p ∷ ps) zero n e = record { pair = use_of p; aim = refl; operand = same-eq p.operand.text n.text e; there = omega arith }
use-at (p ∷ ps) (suc k) n e = let x = use-at ps k n e in let l = x.there in record { pair = x.pair; aim = x.aim; operand = x.operand; there = omega (arith, l) }

-- each name that is called has a number behind those in front
numbered-behind : (front : List Aim) (ns : List Name) (later : List Aim) → Each (Numbered (front ++ (call_aims (words_of ns) ++ later))) ns
unfolding Each call_aims words_of
numbered-behind front [] later = tt
numbered-behind front (n ∷ ns) later = (
  record { number = length front; aim = get_or-append_seam front (named n.text) (call_aims (words_of ns) ++ later) nothing; there = here },
  subst (λ xs. Each (Numbered xs) ns) (append_assoc front (named n.text ∷ []) (call_aims (words_of ns) ++ later)) (numbered-behind (front ++ (named n.text ∷ [])) ns later),
)
  where
    here : length front < length (front ++ (named n.text ∷ (call_aims (words_of ns) ++ later)))
    here = let l = length-append front (named n.text ∷ (call_aims (words_of ns) ++ later)) in omega (arith, l)

module _ (hs : List Head) (ps : List Pair) (ns : List Name) where
  unfoldable pub aims_for : List Aim
  aims_for = head_aims hs ++ (call_aims (words_of ns) ++ use_aims (uses_of ps))

  pub pair-at : (k : ℕ) (n : Name) → stands_at ps k n ≡ true → Ranks aims_for (length hs + length (words_of ns)) k n
  unfolding aims_for
  pair-at k n e =
      let later = use_aims (uses_of ps) in
      let x = use-at ps k n e in
      let h = heads-length hs in
      let g = calls-length (words_of ns) in
      let d : length hs + length (words_of ns) + k ≡ length (head_aims hs) + (length (call_aims (words_of ns)) + k) = omega (arith, h, g) in
      let l = length-append (head_aims hs) (call_aims (words_of ns) ++ later) in
      let m = length-append (call_aims (words_of ns)) later in
      let t = x.there in
      record {
        pair = x.pair;
        aim = rw d (get_or-append-add (head_aims hs) (call_aims (words_of ns) ++ later) (length (call_aims (words_of ns)) + k) nothing ∙ get_or-append-add (call_aims (words_of ns)) later k nothing ∙ x.aim);
        operand = x.operand;
        there = omega (arith, l, m, t, d);
      }

  pub all-numbered : Each (Numbered aims_for) ns
  unfolding aims_for
  all-numbered = numbered-behind (head_aims hs) ns (use_aims (uses_of ps))
