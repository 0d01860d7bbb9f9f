-- A common part and a part that are read stand in one text, and are translated there as by themselves.
use mathlib.Core.List.{List, [], ◌∷◌, ◌++◌, append_assoc}
use mathlib.Core.Path.{◌≡◌, refl, sym, ap, subst, ◌∙◌}
use Prim.Native.Nat.{ℕ, suc, ◌+◌, ◌-◌, ◌<◌, ◌≤◌, max}
use native.Mathlib.Omega.{arith}
use lib.ListN.{length, take, drop, replicate, length-append, length-take, length-drop, length-replicate}
use lib.Seq.{drop_at}
use Rattle.partnames.proofs.Commons.{listed-in-buffer}
use Rattle.partnames.specs.Buffer.{part_place, both_texts}
use Rattle.parts.proofs.PartIn.{part_in, part-few}
use Rattle.parts.proofs.ShiftedBack.{Back, rules-back}
use Rattle.parts.proofs.ShiftedIn.{peek-moved, rules-moved}
use Rattle.parts.proofs.ShiftedRules.{read-on-moved}
use Rattle.parts.specs.Moved.{move_word, move_words, move_rules}
use Rattle.parts.specs.Objects.{Object, object, translate, read_on}
use Rattle.partwriter.specs.Put.{back}
use Rattle.reader.proofs.TextLaws.{part-words}
use Rattle.scanner.proofs.Joined.{moved, words-moved}
use Rattle.separate.proofs.Sound.{sound-rules}
use Rattle.separate.specs.Objects.{Countable, Ordered}
use Rattle.separate.specs.Steps.{BothRead, StandsIn, translated_in}
use Rattle.syntax.specs.Reading.{got}
use Rattle.syntax.specs.Written.{Rule}
use Rattle.words.specs.Words.{Word, words, words_at, words_from}

-- Words further on

shifted : (d from : ℕ) (ws : List Word) → move_words (λ s. d + s) (moved from ws) ≡ moved (d + from) ws
unfolding move_words move_word
shifted d from [] = refl
shifted d from (w ∷ ws) = let e : d + (from + w.start) ≡ d + from + w.start = omega arith in rw (e, shifted d from ws) refl

pub comes_back : (d : ℕ) (ws : List Word) → Back (back d) (λ s. d + s) ws
unfolding move_words move_word
comes_back d [] = refl
comes_back d (w ∷ ws) = let e : d + w.start - d ≡ w.start = omega arith in rw (e, comes_back d ws) refl

rules-as-many : (to : ℕ → ℕ) (rs : List Rule) → length (move_rules to rs) ≡ length rs
unfolding move_rules
rules-as-many to [] = refl
rules-as-many to (r ∷ rs) = ap suc (rules-as-many to rs)

-- The buffer

front_length : (common : List ℕ) (at from : ℕ) → at ≤ length common → length (take at common ++ replicate (part_place at from - at) 10) ≡ part_place at from
unfolding part_place
front_length common at from h =
    omega (arith, length-append (take at common) (replicate (max (at + 1) from - at) 10), length-take at common, length-replicate {A = ℕ} (max (at + 1) from - at) 10)

behind-front : (common part : List ℕ) (at from : ℕ) → at ≤ length common → drop (part_place at from) (both_texts common at part from) ≡ drop from part
unfolding both_texts
behind-front common part at from h =
    let k = part_place at from - at in
    ap (drop (part_place at from)) (sym (append_assoc (take at common) (replicate k 10) (drop from part)))
    ∙ drop_at (take at common ++ replicate k 10) (drop from part) (part_place at from) (front_length common at from h)

pub both-length : (common part : List ℕ) (at from : ℕ) → at ≤ length common → length (both_texts common at part from) ≡ part_place at from + (length part - from)
unfolding both_texts
both-length common part at from h =
    let k = part_place at from - at in
    ap length (sym (append_assoc (take at common) (replicate k 10) (drop from part)))
    ∙ omega (arith, length-append (take at common ++ replicate k 10) (drop from part), front_length common at from h, length-drop from part)

there : (s : List ℕ) (d : ℕ) → words_from 0 d s ≡ moved d (words s)
unfolding words
there s d = ap (λ (k : ℕ). words_from 0 k s) (omega arith) ∙ words-moved s d 0 0

place-words : (common part : List ℕ) (at from : ℕ) → at ≤ length common → words_at (both_texts common at part from) (part_place at from) ≡ moved (part_place at from) (words (drop from part))
unfolding words_at
place-words common part at from h =
    ap (words_from 0 (part_place at from)) (behind-front common part at from h) ∙ there (drop from part) (part_place at from)

-- The whole

pub record Stands (common part text : List ℕ) (moved at : ℕ) : Type 0 where
  pub in-text : StandsIn text at
  pub same : translate common part ≡ translated_in moved in-text
  pub ordered : ((o : Object) → translate common part ≡ object o → Countable o) → Ordered moved in-text

pub stands : {common part : List ℕ} {at from d : ℕ} (b : BothRead common part at from) → d ≡ part_place at from - from → Stands common part (both_texts common at part from) d (part_place at from)
unfolding translated_in
stands {common} {part} {at} {from} {d} b e =
    let text = both_texts common at part from in
    let place = part_place at from in
    let to : ℕ → ℕ = λ s. d + s in
    let f : d + from ≡ place = unfold part_place in omega (arith, e) in
    let h : at ≤ length common = omega (arith, b.listed.inside) in
    let p = part_in b.left part b.rules b.rest b.reads b.rules_at.keyword (words_at part from) b.rules_at.first in
    let w = place-words common part at from h in
    let z : move_words to (words_at part from) ≡ words_at text place =
    ap (move_words to) (part-words part from) ∙ shifted d from (words (drop from part)) ∙ ap (λ k. moved k (words (drop from part))) f ∙ sym w in
    let l = both-length common part at from h in
    let s : StandsIn text place = record {
      shared = b.shared;
      rules = move_rules to b.rules;
      left = move_words to p.after;
      common_in = rw w (listed-in-buffer b.listed part from);
      rules_in = rw z at (rules-moved to p.rules_in);
      ends = peek-moved to p.after ∙ p.ends;
      few = omega (arith, part-few b.left part b.rules b.rest b.reads, rules-as-many to b.rules);
      inside = omega (arith, l);
      short = unfold part_place in omega (arith, l, b.listed.inside, b.short_common, b.short_part, b.rules_at.some, b.rules_at.inside);
      short_part = omega (arith, l, b.short_part);
    } in
    let g = rules-back (back d) to p.rules_in (comes_back d (words_at part from)) in
    let same : translate common part ≡ translated_in d s = b.so_far ∙ ap (λ (rs : List Rule). read_on b.shared (got rs b.rest)) (sym g) ∙ read-on-moved (back d) b.shared (move_rules to b.rules) b.rest (move_words to p.after) in
    record {
      in-text = s;
      same = same;
      ordered = λ few. record {
        sound = λ names m os o. sound-rules (back d) common part b.shared (move_rules to b.rules) b.rules b.reads_common b.listed.leaves b.reads g names m os o;
        few = λ o e. few o (same ∙ e);
      };
    }

-- the same for a text that is the buffer's, and a place that was reckoned
pub stands_at : {common part text : List ℕ} {at from place : ℕ} → BothRead common part at from → text ≡ both_texts common at part from → place ≡ part_place at from
    → Stands common part text (place - from) place
stands_at {common} {part} {text} {at} {from} {place} b e f =
    subst (λ (t : List ℕ). Stands common part t (place - from) place) (sym e) (subst (λ (i : ℕ). Stands common part (both_texts common at part from) (i - from) i) (sym f) (stands b refl))

-- there is room for both
pub join-fits : {common part : List ℕ} {at from : ℕ} → BothRead common part at from → (at ≤ length common) × (at < 65536) × (from ≤ length part) × (part_place at from + (length part - from) ≤ 65536)
unfolding part_place
join-fits b = let h = b.listed.inside in let i = b.rules_at.inside in let j = b.short_common in let k = b.short_part in (omega arith, omega arith, omega arith, omega arith)

pub place-behind : (at from : ℕ) → from ≤ part_place at from
unfolding part_place
place-behind at from = omega arith
