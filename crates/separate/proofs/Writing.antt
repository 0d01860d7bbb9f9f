-- Laws of what is written into the lent bytes.
use mathlib.Core.List.{List, [], ◌∷◌, ◌++◌, append_assoc, append-nil}
use mathlib.Core.Path.{◌≡◌, refl, sym, ap, ◌∙◌}
use Prim.Native.Nat.{ℕ, suc, ◌+◌, ◌*◌, ◌-◌, ◌/◌, ◌%◌, ◌<◌, ◌≤◌}
use native.Mathlib.Omega.{arith}
use lib.ListN.{length, get_or, take, drop, replicate, length-take, length-drop}
use borrow.Author.Tests.{le-leb, lt-leb}
use Rattle.machine.specs.Bytes.{count, bytes_of, words_of}
use Rattle.names.specs.Uses.{Use}
use Rattle.partpairs.specs.Pairing.{UsesAt, UseRead}
use Rattle.partpairs.specs.declared.UseWords.{UseWords}
use Rattle.parts.specs.Form.{made, if_fits, lent_object, name_words, uses_words}
use Rattle.parts.specs.Moved.{move_word, move_use, move_uses}
use Rattle.partwriter.proofs.Putting.{puts-bound, puts_then, puts-nothing, puts-same, same_count}
use Rattle.partwriter.specs.Put.{Leaves, Puts, back, name_here}
use Rattle.processor.specs.Process.{part_of}
use Rattle.syntax.specs.Parse.{end_of}
use Rattle.scanner.specs.Next.{as_word}
use Rattle.separate.specs.Answers.{answered, lent_bytes, Holds, Refused, Concludes}
use Rattle.separate.specs.Uses.{UsePut}
use Rattle.separate.specs.declared.Fault.{Fault}
use Rattle.separate.specs.declared.Made.{Made}
use Rattle.separate.specs.declared.Written.{Written}

-- One use

size-of-part : (text : List ℕ) (start len : ℕ) → start + len ≤ length text → length (take len (drop start text)) ≡ len
size-of-part text start len h = omega (arith, length-take len (drop start text), length-drop start text)

pub use-none : (text : List ℕ) (i moved : ℕ) (out : List ℕ) (c : ℕ) → length text < i → UsePut text i moved out c out c
use-none text i moved out c h = record { size = refl; done = λ u a. let b = a.inside in absurd (omega (arith, b)) }

pub use-put : {text out out₁ out₂ out₃ : List ℕ} {i c c₁ c₂ c₃ start moved : ℕ} {r : UseWords} → UseRead text i r → i ≤ length text → start ≡ r.sign.start - moved
    → Puts out c (start ∷ r.sign.len ∷ []) out₁ c₁ → Puts out₁ c₁ (name_here text r.section.start r.section.len moved) out₂ c₂
    → Puts out₂ c₂ (name_here text r.operand.start r.operand.len moved) out₃ c₃ → UsePut text i moved out c out₃ c₃
unfolding uses_words move_use name_here name_words move_word
use-put {text} {i = i} {start = start} {moved} {r} d h e a b o =
    let z = size-of-part text r.sign.start r.sign.len (d.inside h).0 in
    let w : Use → List ℕ = λ u. uses_words (move_use (back moved) u ∷ []) in
    let section = name_here text r.section.start r.section.len moved in
    let operand = name_here text r.operand.start r.operand.len moved in
    let f : start ∷ r.sign.len ∷ (section ++ operand) ≡ w (record { sign = as_word text r.sign; section = as_word text r.section; operand = as_word text r.operand }) =
    ap (λ s. s ∷ r.sign.len ∷ (section ++ operand)) e ∙ ap (λ l. (r.sign.start - moved) ∷ l ∷ (section ++ operand)) (sym z)
    ∙ ap (λ (x : List ℕ). (r.sign.start - moved) ∷ length (take r.sign.len (drop r.sign.start text)) ∷ (section ++ x)) (sym (append-nil operand)) in
    record {
      size = o.leaves.size ∙ b.leaves.size ∙ a.leaves.size;
      done = λ u q. puts-same (f ∙ ap w (d.words u q)) (puts_then a (puts_then b o));
    }

-- Uses

uses-append : (moved : ℕ) (u : Use) (us : List Use) → uses_words (move_use (back moved) u ∷ []) ++ uses_words (move_uses (back moved) us) ≡ uses_words (move_uses (back moved) (u ∷ us))
unfolding uses_words move_uses
uses-append moved u us =
    let v = move_use (back moved) u in
    let rest = uses_words (move_uses (back moved) us) in
    let a = name_words v.section in
    let b = name_words v.operand in
    ap (λ (l : List ℕ). v.sign.start ∷ length v.sign.text ∷ l)
    (append_assoc a (b ++ []) rest ∙ ap (λ (l : List ℕ). a ++ l) (ap (λ (l : List ℕ). l ++ rest) (append-nil b)))

-- what is left of the uses us, once k of them are written
pub record Rest (text signs : List ℕ) (k total moved : ℕ) (out : List ℕ) (n : ℕ) (out₀ : List ℕ) (c : ℕ) (us : List Use) : Type 0 where
  pub left : List Use
  pub long : k + length left ≡ total
  pub places : UsesAt text signs k left
  pub bound : n ≤ suc (count out)
  pub on : (o : List ℕ) (m : ℕ) → Puts out n (uses_words (move_uses (back moved) left)) o m → Puts out₀ c (uses_words (move_uses (back moved) us)) o m

pub rest-first : {text signs out : List ℕ} {total moved c n : ℕ} {us : List Use} → Puts out c [] out n → total ≡ length us → UsesAt text signs 0 us → Rest text signs 0 total moved out n out c us
rest-first {us = us} p e h = record { left = us; long = omega (arith, e); places = h; bound = puts-bound p; on = λ o m q. puts_then p q }

pub rest-next : {text signs out out₁ out₀ : List ℕ} {k j total moved c n m i : ℕ} {us : List Use} → Rest text signs k total moved out n out₀ c us → k < total → j ≡ k + 1
    → i ≡ get_or signs k 0 → UsePut text i moved out n out₁ m → Rest text signs j total moved out₁ m out₀ c us
unfolding UsesAt
rest-next {text} {signs} {out} {out₁} {out₀} {k} {j} {total} {moved} {c} {n} {m} {i} {us} r h e g p = go r.left r.long r.places r.on
  where
    go : (left : List Use) → k + length left ≡ total → UsesAt text signs k left
        → ((o : List ℕ) (l : ℕ) → Puts out n (uses_words (move_uses (back moved) left)) o l → Puts out₀ c (uses_words (move_uses (back moved) us)) o l) → Rest text signs j total moved out₁ m out₀ c us
    go [] l a on = absurd (omega (arith, l))
    go (u ∷ left) l a on =
        let d = p.done u (rw g a.0) in
        let z : j ≡ suc k = omega (arith, e) in
        record {
          left = left;
          long = omega (arith, l, e);
          places = rw z a.1;
          bound = puts-bound d;
          on = λ o x q. on o x (puts-same (uses-append moved u left) (puts_then d q));
        }

pub rest-last : {text signs out out₀ : List ℕ} {k total moved c n : ℕ} {us : List Use} → Rest text signs k total moved out n out₀ c us → total ≤ k
    → Puts out₀ c (uses_words (move_uses (back moved) us)) out n
unfolding uses_words move_uses
rest-last {out = out} {out₀} {k} {total} {moved} {c} {n} {us} r h = go r.left r.long r.on
  where
    go : (left : List Use) → k + length left ≡ total
        → ((o : List ℕ) (l : ℕ) → Puts out n (uses_words (move_uses (back moved) left)) o l → Puts out₀ c (uses_words (move_uses (back moved) us)) o l)
        → Puts out₀ c (uses_words (move_uses (back moved) us)) out n
    go [] l on = on out n (puts-nothing refl r.bound)
    go (u ∷ left) l on = absurd (omega (arith, l))

-- The answer

-- a buffer is its words and an odd last byte
whole-bytes : (s : List ℕ) → ((i : ℕ) → get_or s i 0 < 256) → s ≡ bytes_of (words_of s) ++ drop (2 * count s) s
unfolding words_of bytes_of count
whole-bytes [] b = refl
whole-bytes (h ∷ []) b = refl
whole-bytes (h ∷ l ∷ s) b =
    let x : h < 256 = b 0 in
    let y : l < 256 = b 1 in
    let hi : (h * 256 + l) / 256 ≡ h = omega arith in
    let lo : (h * 256 + l) % 256 ≡ l = omega arith in
    let z : 2 * (suc (suc (length s)) / 2) ≡ suc (suc (2 * (length s / 2))) = omega arith in
    rw (hi, lo, z) (ap (λ (t : List ℕ). h ∷ l ∷ t) (whole-bytes s (λ k. b (suc (suc k)))))

lent_is : {mid new ws : List ℕ} {n : ℕ} → ((i : ℕ) → get_or new i 0 < 256) → Leaves mid (take n (words_of mid) ++ replicate (count mid - n) 0) new → length ws ≤ count mid → Holds mid ws n
    → new ≡ lent_bytes (made ws) mid
unfolding lent_bytes lent_object
lent_is {mid} {new} {ws} {n} b l h k =
    let e : n ≡ length ws = omega (arith, k.total) in
    let f : take n (words_of mid) ≡ ws = ap (λ i. take i (words_of mid)) e ∙ k.front h in
    let g : words_of new ≡ ws ++ replicate (count mid - length ws) 0 = l.words ∙ ap (λ (t : List ℕ). t ++ replicate (count mid - n) 0) f ∙ ap (λ i. ws ++ replicate (count mid - i) 0) e in
    whole-bytes new b ∙ ap (λ (t : List ℕ). bytes_of t ++ drop (2 * count new) new) g
    ∙ ap (λ (t : List ℕ). bytes_of (ws ++ replicate (count mid - length ws) 0) ++ t) (ap (λ i. drop (2 * i) new) (same_count mid new l.size) ∙ l.odd)

pub concludes-fault : {mid new : List ℕ} {size : ℕ} {w : Written} {r : Made} → (w.fault.number ≡ 0 → ⊥) → Refused mid new w.fault r → Concludes mid new size w r
concludes-fault z s = record { faulty = λ _. s; whole = λ e. absurd (z e) }

pub concludes-short : {mid new : List ℕ} {size room : ℕ} {w : Written} {r : Made} (f : Fault) → w.fault.number ≡ 0 → room ≡ count mid → room < w.words
    → f ≡ record { number = 20; text = 1; start = size; len = 0 } → Refused mid new f r → Concludes mid new size w r
unfolding if_fits part_of end_of
concludes-short {mid} {size = size} {w = w} f z m h e s = record {
  faulty = λ q. absurd (q z);
  whole = λ _ part ws l k.
      let g : count mid < length ws = omega (arith, k.total) in
      rw (lt-leb (length ws) (count mid) g, l) (rw e at s);
}

pub concludes-whole : {mid new : List ℕ} {size room : ℕ} {w : Written} {r : Made} → w.fault.number ≡ 0 → room ≡ count mid → w.words ≤ room → ((i : ℕ) → get_or new i 0 < 256)
    → Leaves mid (take w.words (words_of mid) ++ replicate (count mid - w.words) 0) new → r ≡ record { number = 0; text = 0; start = 0; len = 0; words = w.words } → Concludes mid new size w r
unfolding if_fits answered
concludes-whole {mid} {w = w} z m h b l e = record {
  faulty = λ q. absurd (q z);
  whole = λ _ part ws _ k.
      let g : length ws ≤ count mid = omega (arith, k.total) in
      let f : w.words ≡ length ws = omega (arith, k.total) in
      rw (le-leb (length ws) (count mid) g) (record { answer = e ∙ ap (λ n. record { number = 0; text = 0; start = 0; len = 0; words = n }) f; lent = lent_is b l g k });
}
