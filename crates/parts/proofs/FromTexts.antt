-- From texts to the linked table, in one.
use mathlib.Core.Bool.{Bool, true, false, ◌||◌}
use mathlib.Core.List.{List, [], ◌∷◌, ◌++◌}
use mathlib.Core.Option.{Option, none, some}
use mathlib.Core.Path.{◌≡◌, refl, sym, ap, ◌∙◌}
use Prim.Native.Nat.{ℕ, suc, ◌≤◌}
use native.Mathlib.Omega.{arith}
use lib.Dec.{eqb, leb, ltb}
use lib.ListN.{length}
use borrow.Author.Tests.{eqb-false}
use Rattle.acceptance.proofs.Shape.{Each}
use Rattle.base.proofs.Laws.{neither, above_zero}
use Rattle.figure.specs.Told.{Told}
use Rattle.names.specs.Known.{Checked, good, wrong, Names}
use Rattle.parts.proofs.Accepted.{linked-works}
use Rattle.parts.proofs.Linking.{past-test, very-words}
use Rattle.parts.proofs.Written.{translated-sound}
use Rattle.parts.specs.Form.{object_words, made, unmade, if_fits, as_made, make_object, all_words, AreObjects, Makes, makes_none, makes_more, MadeAreObjects}
use Rattle.parts.specs.Joined.{ReadsEach, reads_nil, reads_cons}
use Rattle.parts.specs.Link.{Linked, linked, refused, at_part, collect, last_of, with_names, with_common, link, link_texts}
use Rattle.parts.specs.Objects.{Object, Translated, object, in_common, in_part, common_means, meaning, unless_past, read_on, read_both, translate}
use Rattle.parts.specs.Promise.{Parts, parts_nil, parts_cons, ReadFrom, read_nil, read_cons, TextsLinked}
use Rattle.processor.specs.Process.{Part, part_of}
use Rattle.syntax.specs.Parse.{end_of}
use Rattle.syntax.specs.Reading.{Read, got, fault}
use Rattle.syntax.specs.Texts.{Common, too_long, read_common, read_part}
use Rattle.syntax.specs.Written.{Rule}
use Rattle.words.specs.Words.{Word}

no-link {ℓ} : {A : Type ℓ} {n i : ℕ} {at : Part} {ws : List ℕ} {v : Bool} {t : Told} → refused n i at ≡ linked ws v t → A
no-link e = let z : ◌≡◌ {A = ℕ} 0 1 = cc in absurd (omega arith)

no-object {ℓ} : {A : Type ℓ} {n : ℕ} {at : Part} {o : Object} → in_common n at ≡ object o → A
no-object e = let z : ◌≡◌ {A = ℕ} 0 1 = cc in absurd (omega arith)

no-object' {ℓ} : {A : Type ℓ} {n : ℕ} {at : Part} {o : Object} → in_part n at ≡ object o → A
no-object' e = let z : ◌≡◌ {A = ℕ} 0 1 = cc in absurd (omega arith)

-- the parts and their objects
data All (common : List ℕ) : List (List ℕ) → List Object → Type 0 where
  all_nil : All common [] []
  all_cons : {t : List ℕ} {ts : List (List ℕ)} {o : Object} {os : List Object} → translate common t ≡ object o → All common ts os → All common (t ∷ ts) (o ∷ os)

record Collected (common : List ℕ) (ts : List (List ℕ)) (k : List Object → Linked) (answer : Linked) : Type 0 where
  objects : List Object
  all : All common ts objects
  answers : k objects ≡ answer

collected : (common : List ℕ) (i : ℕ) (ts : List (List ℕ)) (k : List Object → Linked) {ws : List ℕ} {v : Bool} {told : Told} → collect common i ts k ≡ linked ws v told → Collected common ts k (linked ws v told)
unfolding collect at_part
collected common i [] k e = record { objects = []; all = all_nil; answers = e }
collected common i (t ∷ ts) k {ws} {v} {told} e = go (translate common t) refl e (λ o f. collected common (suc i) ts (λ os. k (o ∷ os)) f)
  where
    go : (x : Translated) → translate common t ≡ x → at_part i x (λ o. collect common (suc i) ts (λ os. k (o ∷ os))) ≡ linked ws v told
        → ((o : Object) → collect common (suc i) ts (λ os. k (o ∷ os)) ≡ linked ws v told → Collected common ts (λ os. k (o ∷ os)) (linked ws v told))
        → Collected common (t ∷ ts) k (linked ws v told)
    go (object o) d f ih = let r = ih o f in record { objects = o ∷ r.objects; all = all_cons d r.all; answers = r.answers }
    go (in_common n p) d f ih = no-link f
    go (in_part n p) d f ih = no-link f

-- what a translated part is
record Part₁ (common t : List ℕ) (o : Object) : Type 0 where
  c : Common
  rest : List Word
  reads : read_common common ≡ got c rest
  rs : List Rule
  rest₁ : List Word
  reads-part : read_part c.left t ≡ got rs rest₁
  means : meaning c rs ≡ object o

not-past : (x : Option Word) (t : Translated) {o : Object} → unless_past x t ≡ object o → t ≡ object o
unfolding unless_past
not-past none t e = e
not-past (some w) t e = no-object' e

part-of : (common t : List ℕ) (o : Object) → translate common t ≡ object o → Part₁ common t o
unfolding translate read_both read_on
part-of common t o e = one (too_long common) refl
  where
    four : (c : Common) (ws : List Word) → read_common common ≡ got c ws → (x : Read (List Rule)) → read_part c.left t ≡ x → read_on c x ≡ object o → Part₁ common t o
    four c ws d (got rs vs) f g = record { c = c; rest = ws; reads = d; rs = rs; rest₁ = vs; reads-part = f; means = not-past _ (meaning c rs) g }
    four c ws d (fault n w) f g = no-object' g

    three : (x : Read Common) → read_common common ≡ x → read_both x t ≡ object o → Part₁ common t o
    three (got c ws) d g = four c ws d (read_part c.left t) refl g
    three (fault n w) d g = no-object g

    two : (b : Bool) → too_long t ≡ b → too_long common ≡ false → Part₁ common t o
    two true f a = no-object' (rw (translate, a, f) at e)
    two false f a = three (read_common common) refl (rw (translate, a, f) at e)

    one : (b : Bool) → too_long common ≡ b → Part₁ common t o
    one true a = no-object (rw (translate, a) at e)
    one false a = two (too_long t) refl a

got-inj : {A : Type 0} {a b : A} {ws vs : List Word} → got a ws ≡ got b vs → a ≡ b
got-inj e = cc

record Parted (c : Common) (ts : List (List ℕ)) (os : List Object) : Type 0 where
  rules : List (List Rule)
  parts : Parts c rules os
  read : ReadFrom c.left rules
  each : ReadsEach c.left ts rules
  as_many : length rules ≡ length ts

parted : (common : List ℕ) (c : Common) (rest : List Word) → read_common common ≡ got c rest → {ts : List (List ℕ)} {os : List Object} → All common ts os → Parted c ts os
parted common c rest e all_nil = record { rules = []; parts = parts_nil; read = read_nil; each = reads_nil; as_many = refl }
parted common c rest e (all_cons {t = t} {o = o} d h) =
    let x = part-of common t o d in
    let y : x.c ≡ c = got-inj (sym x.reads ∙ e) in
    let r = parted common c rest e h in
    let reads : read_part c.left t ≡ got x.rs x.rest₁ = ap (λ (z : Common). read_part z.left t) (sym y) ∙ x.reads-part in
    record {
      rules = x.rs ∷ r.rules;
      parts = parts_cons (ap (λ (z : Common). meaning z x.rs) (sym y) ∙ x.means) r.parts;
      read = read_cons t x.rest₁ reads r.read;
      each = reads_cons x.rest₁ reads r.each;
      as_many = ap suc r.as_many;
    }

-- the common part, translated
record Common₁ (common : List ℕ) (f : Common → Names → Linked) (answer : Linked) : Type 0 where
  c : Common
  rest : List Word
  reads : read_common common ≡ got c rest
  n : Names
  means : common_means c [] ≡ good n
  answers : f c n ≡ answer

common-of : (common : List ℕ) (f : Common → Names → Linked) {ws : List ℕ} {v : Bool} {told : Told} → with_common (read_common common) f ≡ linked ws v told → Common₁ common f (linked ws v told)
unfolding with_common with_names
common-of common f {ws} {v} {told} e = one (read_common common) refl e
  where
    two : (c : Common) (vs : List Word) → read_common common ≡ got c vs → (x : Checked Names) → common_means c [] ≡ x → with_names x (f c) ≡ linked ws v told → Common₁ common f (linked ws v told)
    two c vs d (good n) m g = record { c = c; rest = vs; reads = d; n = n; means = m; answers = g }
    two c vs d (wrong i w) m g = no-link g

    one : (x : Read Common) → read_common common ≡ x → with_common x f ≡ linked ws v told → Common₁ common f (linked ws v told)
    one (got c vs) d g = two c vs d (common_means c []) refl g
    one (fault i w) d g = no-link g

-- what was read and translated of texts that are linked
pub record OfTexts (common : List ℕ) (parts : List (List ℕ)) (room : ℕ) (answer : Linked) : Type 0 where
  pub c : Common
  pub rest : List Word
  pub reads : read_common common ≡ got c rest
  pub n : Names
  pub means : common_means c [] ≡ good n
  pub objects : List Object
  pub answers : link common c n (last_of parts) objects room ≡ answer
  pub rules : List (List Rule)
  pub translated : Parts c rules objects
  pub read : ReadFrom c.left rules
  pub each : ReadsEach c.left parts rules
  pub as_many : length rules ≡ length parts
  pub some : 1 ≤ length rules

pub of-texts : (common : List ℕ) (parts : List (List ℕ)) (room : ℕ) (words : List ℕ) (verdict : Bool) (told : Told) → link_texts common parts room ≡ linked words verdict told → OfTexts common parts room (linked words verdict told)
unfolding link_texts
of-texts common parts room words verdict told e =
    let t = past-test (eqb (length parts) 0 || ltb 16 (length parts)) 9 0 (part_of (end_of common)) _ e in
    let a = collected common 1 parts _ t.1 in
    let b = common-of common (λ c n. link common c n (last_of parts) a.objects room) a.answers in
    let p = parted common b.c b.rest b.reads a.all in
    let x = above_zero (length parts) (eqb-false (length parts) 0 (neither (eqb (length parts) 0) (ltb 16 (length parts)) t.0).0) in
    record {
      c = b.c;
      rest = b.rest;
      reads = b.reads;
      n = b.n;
      means = b.means;
      objects = a.objects;
      answers = b.answers;
      rules = p.rules;
      translated = p.parts;
      read = p.read;
      each = p.each;
      as_many = p.as_many;
      some = let y = p.as_many in omega (arith, x, y);
    }

pub texts-linked : TextsLinked
texts-linked common parts room words verdict told e =
    let o = of-texts common parts room words verdict told e in
    let w = very-words common o.c o.n (last_of parts) o.rules o.objects room words verdict told o.means o.translated o.answers in
    record {
      common_is = o.c;
      rest = o.rest;
      reads = o.reads;
      rules = o.rules;
      as_many = o.as_many;
      read = o.read;
      whole = w;
      works = linked-works common o.c o.rest o.reads o.rules o.read o.some room words verdict told w;
    }

-- What was made of parts are objects

no-made {ℓ} : {A : Type ℓ} {n i : ℕ} {at : Part} {ws : List ℕ} → unmade n i at ≡ made ws → A
no-made e = let z : ◌≡◌ {A = ℕ} 0 1 = cc in absurd (omega arith)

record MadeOf (common t : List ℕ) (ws : List ℕ) : Type 0 where
  object-is : Object
  translates : translate common t ≡ object object-is
  words_are : object_words common (length t) object-is ≡ ws

made_of : (common t : List ℕ) (room : ℕ) (ws : List ℕ) → make_object common t room ≡ made ws → MadeOf common t ws
unfolding make_object as_made if_fits
made_of common t room ws e = one (translate common t) refl e
  where
    two : (o : Object) → translate common t ≡ object o → (us : List ℕ) → object_words common (length t) o ≡ us → (b : Bool) → leb (length us) room ≡ b → if_fits t room us ≡ made ws → MadeOf common t ws
    two o d us f true g h = let k : made us ≡ made ws = rw (if_fits, g) at h in let y : us ≡ ws = cc in record { object-is = o; translates = d; words_are = f ∙ y }
    two o d us f false g h = no-made (rw (if_fits, g) at h)

    one : (x : Translated) → translate common t ≡ x → as_made common t room x ≡ made ws → MadeOf common t ws
    one (object o) d h = let us = object_words common (length t) o in two o d us refl (leb (length us) room) refl h
    one (in_common n p) d h = no-made h
    one (in_part n p) d h = no-made h

-- the objects that words are which were made of parts, and the rules that were read of each part
pub record OfParts (common : List ℕ) (c : Common) (n : Names) (ts : List (List ℕ)) (words : List ℕ) : Type 0 where
  pub are : AreObjects common c n words
  pub rules : List (List Rule)
  pub parts : Parts c rules are.objects
  pub each : ReadsEach c.left ts rules

pub of_parts : (common : List ℕ) (c : Common) (rest : List Word) → read_common common ≡ got c rest → (n : Names) → common_means c [] ≡ good n → (ts : List (List ℕ)) (words : List ℕ)
    → Makes common ts words → OfParts common c n ts words
unfolding all_words Each
of_parts common c rest e n m ts words makes_none =
    record { are = record { lengths = []; objects = []; as_many = refl; sound = tt; are = refl }; rules = []; parts = parts_nil; each = reads_nil }
of_parts common c rest e n m ts words (makes_more {t = t} {ts = us} {ws = ws} {more = more} room d h) =
    let x = made_of common t room ws d in
    let p = part-of common t x.object-is x.translates in
    let y : p.c ≡ c = got-inj (sym p.reads ∙ e) in
    let means : meaning c p.rs ≡ object x.object-is = ap (λ (z : Common). meaning z p.rs) (sym y) ∙ p.means in
    let reads : read_part c.left t ≡ got p.rs p.rest₁ = ap (λ (z : Common). read_part z.left t) (sym y) ∙ p.reads-part in
    let r = of_parts common c rest e n m us more h in
    let first : ws ≡ object_words common (length t) x.object-is = sym x.words_are in
    record {
      are = record {
        lengths = length t ∷ r.are.lengths;
        objects = x.object-is ∷ r.are.objects;
        as_many = ap suc r.are.as_many;
        sound = (translated-sound common c rest e n m t p.rs p.rest₁ reads x.object-is means, r.are.sound);
        are = λ i. first i ++ r.are.are i;
      };
      rules = p.rs ∷ r.rules;
      parts = parts_cons means r.parts;
      each = reads_cons p.rest₁ reads r.each;
    }

pub made-are-objects : MadeAreObjects
made-are-objects common c rest e n m ts words h = (of_parts common c rest e n m ts words h).are
