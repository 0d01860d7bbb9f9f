-- The whole: the answer and the lent bytes.
use mathlib.Core.List.{List, [], ◌∷◌, ◌++◌}
use mathlib.Core.Path.{◌≡◌, refl, sym, ap, subst, ◌∙◌}
use Prim.Native.Nat.{ℕ, suc, ◌+◌, ◌*◌, ◌/◌, ◌%◌, ◌≤◌, min}
use native.Mathlib.Omega.{arith}
use lib.ListN.{length, take, drop, length-append, length-drop, length-take}
use lib.Seq.{drop_at}
use Rattle.machine.specs.Bytes.{count, bytes_of, words_of}
use Rattle.parts.specs.Form as form
use Rattle.parts.specs.Form.{made, unmade, if_fits, as_made, make_object, lent_object, object_words}
use Rattle.parts.specs.Objects.{Translated, translate}
use Rattle.separate.specs.Answers.{lent_bytes, Settles, Makes, unmade_by, Refused, Holds, Concludes}
use Rattle.separate.specs.Objects.{Writes, object_written, not_written}
use Rattle.separate.specs.Steps.{Refuses, refuses_common, refuses_part, ReadsTexts}
use Rattle.separate.specs.declared.Fault.{Fault}
use Rattle.separate.specs.declared.Made.{Made}
use Rattle.separate.specs.declared.Texts.{Texts}
use Rattle.separate.specs.declared.Written.{Written}

refused-is : (common part : List ℕ) (room : ℕ) {f : Fault} {t : Translated} → Refuses f t → unmade_by f ≡ as_made common part room t
unfolding as_made
refused-is common part room (refuses_common a b c d) = rw (a, b, c, d) refl
refused-is common part room (refuses_part a b c d) = rw (a, b, c, d) refl

pub makes-fault : {common part old new : List ℕ} {t : Texts} {r : Made} (f : Fault) → ReadsTexts common part t → f ≡ t.fault → (f.number ≡ 0 → ⊥) → Refused old new f r → Makes common part old new r
unfolding make_object
makes-fault {common} {part} {old} {new} {t} {r} f x e z s =
    subst (λ (m : form.Made). Settles m old new r) (refused-is common part (count old) (rw (← e) at (x.refused (λ h. z (rw e h))))) s

-- An odd last byte

words-even : (xs ys : List ℕ) → length xs % 2 ≡ 0 → length ys ≤ 1 → words_of (xs ++ ys) ≡ words_of xs
unfolding words_of
words-even [] [] e h = refl
words-even [] (y ∷ []) e h = refl
words-even [] (y ∷ z ∷ ys) e h = absurd (omega (arith, h))
words-even (x ∷ []) ys e h = absurd (omega (arith, e))
words-even (x ∷ y ∷ xs) ys e h = ap (λ (l : List ℕ). (x * 256 + y) ∷ l) (words-even xs ys (omega (arith, e)) h)

-- what was written into the whole words of what was lent
record Even (old lent mid : List ℕ) : Type 0 where
  long : length lent ≡ 2 * count old
  is : mid ≡ lent ++ drop (2 * count old) old

few-behind : (old : List ℕ) → length (drop (2 * count old) old) ≤ 1
unfolding count
few-behind old = omega (arith, length-drop (2 * (length old / 2)) old)

mid-count : {old lent mid : List ℕ} → Even old lent mid → (count mid ≡ count old) × (count lent ≡ count old)
unfolding count
mid-count {old} {lent} {mid} v =
    let a = ap length v.is ∙ length-append lent (drop (2 * (length old / 2)) old) in
    (omega (arith, a, v.long, length-drop (2 * (length old / 2)) old), omega (arith, v.long))

lent_same : {old lent mid : List ℕ} (m : form.Made) → Even old lent mid → lent_bytes m mid ≡ lent_bytes m old
unfolding lent_bytes
lent_same {old} {lent} {mid} m v =
    let c = (mid-count v).0 in
    let d : drop (2 * count old) mid ≡ drop (2 * count old) old = ap (drop (2 * count old)) v.is ∙ drop_at lent (drop (2 * count old) old) (2 * count old) v.long in
    ap (λ n. bytes_of (lent_object m n) ++ drop (2 * n) mid) c ∙ ap (λ (l : List ℕ). bytes_of (lent_object m (count old)) ++ l) d

settles-old : {old lent mid new : List ℕ} {r : Made} (m : form.Made) → Even old lent mid → Settles m mid new r → Settles m old new r
settles-old m v s = record { answer = s.answer; lent = s.lent ∙ lent_same m v }

holds-mid : {old lent mid ws : List ℕ} {n : ℕ} → Even old lent mid → Holds lent ws n → Holds mid ws n
holds-mid {old} {lent} {mid} {ws} {n} v h =
    let c = mid-count v in
    let w : words_of mid ≡ words_of lent = ap words_of v.is ∙ words-even lent (drop (2 * count old) old) (omega (arith, v.long)) (few-behind old) in
    record {
      total = h.total ∙ ap (λ i. min (suc i) (length ws)) (c.1 ∙ sym c.0);
      front = λ l. ap (take (length ws)) w ∙ h.front (omega (arith, l, c.0, c.1));
    }

concluded : (common part : List ℕ) {old lent mid new : List ℕ} {w : Written} {r : Made} {t : Translated} → translate common part ≡ t → Writes common (length part) lent w t → length lent ≡ 2 * count old
    → mid ≡ lent ++ drop (2 * count old) old → Concludes mid new (length part) w r → Makes common part old new r
unfolding make_object as_made
concluded common part {old} {lent} {mid} {new} {w} {r} e x l y k = subst (λ (t : Translated). Settles (as_made common part (count old) t) old new r) (sym e) (go x)
  where
    v : Even old lent mid
    v = record { long = l; is = y }

    go : {t : Translated} → Writes common (length part) lent w t → Settles (as_made common part (count old) t) old new r
    go (object_written {o} z h) =
        let ws = object_words common (length part) o in
        subst (λ n. Settles (if_fits part n ws) old new r) (mid-count v).0 (settles-old (if_fits part (count mid) ws) v (k.whole z part ws refl (holds-mid v h)))
    go (not_written {t} z f) = subst (λ (m : form.Made). Settles m old new r) (refused-is common part (count old) f) (settles-old (unmade_by w.fault) v (k.faulty z))

-- the whole words of what is lent

pub even-inside : (old : List ℕ) {n : ℕ} → n ≡ count old → 2 * n ≤ length old
unfolding count
even-inside old e = omega (arith, e)

even-long : (old lent : List ℕ) {n : ℕ} → n ≡ count old → length lent ≡ length (take (2 * n) old) → length lent ≡ 2 * count old
unfolding count
even-long old lent {n} e h = omega (arith, h, e, length-take (2 * n) old)

even_is : (old lent : List ℕ) {n : ℕ} → n ≡ count old → lent ++ drop (2 * n) old ≡ lent ++ drop (2 * count old) old
even_is old lent e = ap (λ i. lent ++ drop (2 * i) old) e

pub concluded-even : (common part old lent : List ℕ) {mid new : List ℕ} {w : Written} {r : Made} {t : Translated} {n : ℕ} → translate common part ≡ t → Writes common (length part) lent w t → n ≡ count old
    → length lent ≡ length (take (2 * n) old) → mid ≡ lent ++ drop (2 * n) old → Concludes mid new (length part) w r → Makes common part old new r
concluded-even common part old lent e x h l y k = concluded common part e x (even-long old lent h l) (y ∙ even_is old lent h) k
