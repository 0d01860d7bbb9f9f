-- Linking is translating the one text of a common part and its parts: for any bytes, and the other way round.
use mathlib.Core.Bool.{Bool, false, ◌||◌}
use mathlib.Core.List.{List, [], ◌∷◌}
use mathlib.Core.Option.{none}
use mathlib.Core.Path.{◌≡◌, refl, sym, ap, ◌∙◌}
use Prim.Native.Nat.{ℕ, zero, suc, ◌+◌, ◌-◌, ◌≤◌}
use lib.Dec.{eqb, ltb}
use lib.ListN.{length, replicate}
use borrow.Author.Tests.{eqb-false, le-ltb, ne_eqb}
use native.Mathlib.Omega.{arith}
use Rattle.acceptance.proofs.Shape.{Each}
use Rattle.base.proofs.Laws.{neither, above_zero}
use Rattle.figure.specs.Told.{Told}
use Rattle.names.specs.Known.{Names}
use Rattle.parts.proofs.AsText.{very-text, text-links}
use Rattle.parts.proofs.FromTexts.{of-texts, of_parts}
use Rattle.parts.proofs.JoinedText.{joined-reads}
use Rattle.parts.proofs.Linking.{past-test, few-linked}
use Rattle.parts.specs.Form.{last_length}
use Rattle.parts.specs.Joined.{joined_text, ReadsEach, reads_nil, reads_cons, VeryJoined, MadeJoined, Named, JoinedLinks}
use Rattle.parts.specs.Link.{Linked, linked, at_part, collect, last_of, with_names, with_common, link, link_texts}
use Rattle.parts.specs.Objects.{others, Object, object, meaning, past_names, unless_past, read_on, read_both, translate}
use Rattle.parts.specs.Promise.{Parts, parts_nil, parts_cons}
use Rattle.processor.specs.Process.{part_of}
use Rattle.syntax.specs.Parse.{end_of}
use Rattle.syntax.specs.Texts.{Common, too_long, read_common, read_part}
use Rattle.syntax.specs.Reading.{got}
use Rattle.syntax.specs.Written.{Rule}
use Rattle.words.specs.Words.{Word}

pub very-joined : VeryJoined
very-joined common parts room words verdict told e short =
    let o = of-texts common parts room words verdict told e in
    let few = few-linked common o.c o.n (last_of parts) o.rules o.objects room words verdict told o.means o.translated o.answers in
    very-text common o.c o.n (last_of parts) o.rules o.objects room words verdict told o.means o.translated o.answers (joined_text common parts)
    (joined-reads common parts o.c o.rest o.rules o.reads o.each o.some short few)

-- Objects as words

parts-many : {c : Common} {rss : List (List Rule)} {os : List Object} → Parts c rss os → length rss ≡ length os
parts-many parts_nil = refl
parts-many (parts_cons e h) = ap suc (parts-many h)

-- no object is linked to nothing
some-object : (common_text : List ℕ) (c : Common) (n : Names) (last_text : List ℕ) (os : List Object) (room : ℕ) (words : List ℕ) (verdict : Bool) (told : Told)
    → link common_text c n last_text os room ≡ linked words verdict told → 1 ≤ length os
unfolding link
some-object common_text c n last_text os room words verdict told e =
    let t = past-test (eqb (length os) 0 || ltb 16 (length os)) 9 0 (part_of (end_of common_text)) _ e in
    above_zero (length os) (eqb-false (length os) 0 (neither (eqb (length os) 0) (ltb 16 (length os)) t.0).0)

pub made-joined : MadeJoined
made-joined common c rest e n m parts objects h room words verdict told l short =
    let o = of_parts common c rest e n m parts objects h in
    let last : List ℕ = replicate (last_length o.are.lengths) 0 in
    let os = o.are.objects in
    let so = sym (l.linked_so o.are) in
    let some_part = some-object common c n last os room words verdict told so in
    let many = parts-many o.parts in
    let few = few-linked common c n last o.rules os room words verdict told m o.parts so in
    very-text common c n last o.rules os room words verdict told m o.parts so (joined_text common parts)
    (joined-reads common parts c rest o.rules e o.each (omega (arith, some_part, many)) short few)

-- The other way

each-many : {left : ℕ} {ts : List (List ℕ)} {rss : List (List Rule)} → ReadsEach left ts rss → length ts ≡ length rss
each-many reads_nil = refl
each-many (reads_cons rest e r) = ap suc (each-many r)

none-past : (left : ℕ) (ws : List Word) → length ws ≤ left → past_names left ws ≡ none
unfolding past_names
none-past left [] h = refl
none-past zero (w ∷ ws) h = absurd (omega arith)
none-past (suc left) (w ∷ ws) h = none-past left ws (omega arith)

module _ (common : List ℕ) (c : Common) (rest : List Word) (e : read_common common ≡ got c rest) (short : length common ≤ 32768) where
  translates : (t : List ℕ) (rs : List Rule) (vs : List Word) (o : Object) → read_part c.left t ≡ got rs vs → length t ≤ 32768 → length c.listed + length (others c.listed rs) ≤ c.left
      → meaning c rs ≡ object o → translate common t ≡ object o
  unfolding translate too_long read_both read_on unless_past
  translates t rs vs o d h n m = rw (le-ltb 32768 (length common) short, le-ltb 32768 (length t) h, e, d, none-past (c.left - length c.listed) (others c.listed rs) (omega arith)) m

  collects : {ts : List (List ℕ)} {rss : List (List Rule)} {os : List Object} → ReadsEach c.left ts rss → Each (λ t. length t ≤ 32768) ts → Named c rss → Parts c rss os → (i : ℕ) (k : List Object → Linked) → collect common i ts k ≡ k os
  unfolding collect at_part Each
  collects reads_nil h n parts_nil i k = refl
  collects (reads_cons {t = t} {rs = rs} vs d r) h n (parts_cons {o = o} m q) i k = rw (translates t rs vs o d h.0 n.0 m) (collects r h.1 n.1 q (suc i) (λ os. k (o ∷ os)))

pub joined-links : JoinedLinks
unfolding link_texts with_common with_names
joined-links common parts c rest n rss e r h named short each whole room words verdict p =
    let l = text-links c n rss h (joined_text common parts) (joined-reads common parts c rest rss e r h.some_part whole h.few_rules) room words verdict p in
    let many = each-many r in
    let some_part : eqb (length parts) 0 ≡ false = ne_eqb (length parts) 0 (λ z. omega (arith, h.some_part, z, many)) in
    let few_parts : ltb 16 (length parts) ≡ false = le-ltb 16 (length parts) (omega (arith, h.few_parts, many)) in
    rw (some_part, few_parts) (collects common c rest e short r each named l.parts 1 _ ∙ rw (e, h.common) (l.links common (last_of parts)))
