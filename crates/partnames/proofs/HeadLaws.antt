-- The list's lines as numbers.
use mathlib.Core.Bool.{Bool, true, false}
use mathlib.Core.List.{List, [], ◌∷◌, ◌++◌, append_assoc}
use mathlib.Core.Logic.{◌⊎◌, inl, inr}
use mathlib.Core.Option.{Option, none, some}
use mathlib.Core.Path.{◌≡◌, refl, sym, ap, ◌∙◌}
use Prim.Native.Nat.{ℕ, zero, suc, ◌+◌, ◌*◌, ◌≤◌, ◌<◌}
use native.Mathlib.Omega.{arith}
use lib.Dec.{eqb}
use lib.ListN.{length, get_or, set, take, drop, length-drop, length-set, drop_of_length-le}
use lib.Seq.{get_or-append-add, get_or-set_other, get_or-set_same, take-nil}
use Rattle.base.proofs.Laws.{lt-or-le}
use Rattle.std.specs.Prelude.{if◌then◌else◌}
use Rattle.collector.proofs.Rows.{two-length}
use Rattle.collector.specs.Collecting.{set_two}
use Rattle.collector.specs.declared.Part.{Part}
use Rattle.declarations.proofs.Whole.{length-sections}
use Rattle.declarations.specs.Decls.{Decl, decl_of, decls_of, rule_decls, sections_decls}
use Rattle.objects.specs.Places.{HeadsAt, text_at, type_at}
use Rattle.parts.specs.Objects.{as_rules, called_rules, others, together}
use Rattle.partnames.proofs.Together.{whole-rows}
use Rattle.partnames.specs.Heads.{CopiesHeads, CopiesPart, Inside, LineAt, PartAt}
use Rattle.symbols.proofs.Searches.{held_at}
use Rattle.symbols.specs.Rows.{decl_at, held, option_of, word_of}
use Rattle.syntax.specs.Sections.{names_in_all}
use Rattle.syntax.specs.Texts.{Common, Head}
use Rattle.syntax.specs.Written.{Rule}
use Rattle.words.specs.Words.{Word}

-- One part

pub past-text : (text : List ℕ) (start len : ℕ) → length text < start → Inside text start len (record { start = 0; len = 0 })
past-text text start len h = let l : length text ≤ start = omega arith in record { inside = omega arith; bytes = sym (ap (take len) (drop_of_length-le text l) ∙ take-nil len) }

cut : (l : List ℕ) (n : ℕ) → take (length (take n l)) l ≡ take n l
cut l zero = refl
cut [] (suc n) = refl
cut (x ∷ l) (suc n) = ap (λ (t : List ℕ). x ∷ t) (cut l n)

cut_low : (l : List ℕ) (n : ℕ) → length (take n l) ≤ length l
cut_low l zero = omega arith
cut_low [] (suc n) = omega arith
cut_low (x ∷ l) (suc n) = omega (arith, cut_low l n)

pub in-text : (text : List ℕ) (start len n : ℕ) → start ≤ length text → n ≡ length (take len (drop start text)) → Inside text start len (record { start = start; len = n })
in-text text start len n h e = record {
  inside = omega (arith, cut_low (drop start text) len, length-drop start text);
  bytes = ap (λ (k : ℕ). take k (drop start text)) e ∙ cut (drop start text) len;
}

part-copied : {text rows heads : List ℕ} {a b k p : ℕ} (r : Part) → Inside text a b r → p + 2 ≤ length heads → a ≡ get_or rows k 0 → b ≡ get_or rows (k + 1) 0
    → CopiesPart text rows k heads (set_two heads p r.start r.len) p
part-copied {text} {rows} {heads} {a} {b} {k} {p} r i h e f =
    let x : get_or (set_two heads p r.start r.len) p 0 ≡ r.start =
    get_or-set_other (set heads p r.start) (p + 1) p r.len 0 (λ z. omega (arith, z)) ∙ get_or-set_same heads p r.start 0 (omega arith) in
    let y : get_or (set_two heads p r.start r.len) (p + 1) 0 ≡ r.len = get_or-set_same (set heads p r.start) (p + 1) r.len 0 (omega (arith, length-set heads p r.start)) in
    record {
      size = two-length heads p r.start r.len;
      below = λ j l. get_or-set_other (set heads p r.start) (p + 1) j r.len 0 (λ z. omega (arith, z)) ∙ get_or-set_other heads p j r.start 0 (λ z. omega (arith, z));
      there = record { inside = rw (x, y) i.inside; bytes = rw (x, y, ← e, ← f) i.bytes };
    }

pub part-copied-as : {text rows heads heads' : List ℕ} {a b k p : ℕ} {r : Part} → Inside text a b r → p + 2 ≤ length heads → a ≡ get_or rows k 0 → b ≡ get_or rows (k + 1) 0 → heads' ≡ set_two heads p r.start r.len
    → CopiesPart text rows k heads heads' p
part-copied-as {r = r} i h e f g = rw g (part-copied r i h e f)

-- Lines in turn

-- what stands before the place p has not changed
kept-part : {text rows heads heads' : List ℕ} {k q : ℕ} (p : ℕ) → ((j : ℕ) → j < p → get_or heads' j 0 ≡ get_or heads j 0) → q + 1 < p → PartAt text rows k heads q → PartAt text rows k heads' q
kept-part {text} {rows} {heads} {heads'} {k} {q} p b h a =
    let x : get_or heads' q 0 ≡ get_or heads q 0 = b q (omega arith) in
    let y : get_or heads' (q + 1) 0 ≡ get_or heads (q + 1) 0 = b (q + 1) h in
    record { inside = rw (x, y) a.inside; bytes = rw (x, y) a.bytes }

kept_line : {text rows heads heads' : List ℕ} {r j : ℕ} (p : ℕ) → ((i : ℕ) → i < p → get_or heads' i 0 ≡ get_or heads i 0) → 4 * j + 3 < p → LineAt text rows r heads j → LineAt text rows r heads' j
kept_line p b h l = record { name = kept-part p b (omega arith) l.name; type = kept-part p b (omega arith) l.type }

pub no-heads : (text rows : List ℕ) (first : ℕ) (heads : List ℕ) → CopiesHeads text rows first 0 heads heads
no-heads text rows first heads = record { size = refl; lines = λ j h. absurd (omega arith) }

pub more_heads : {text rows heads heads₁ heads₂ heads₃ : List ℕ} {first i n k l p q : ℕ} → CopiesHeads text rows first i heads heads₁ → CopiesPart text rows k heads₁ heads₂ p → CopiesPart text rows l heads₂ heads₃ q
    → k ≡ 8 * (first + i) + 2 → l ≡ 8 * (first + i) + 6 → p ≡ 4 * i → q ≡ 4 * i + 2 → n ≡ i + 1 → CopiesHeads text rows first n heads heads₃
more_heads {text} {rows} {heads} {heads₁} {heads₂} {heads₃} {first} {i} {n} {k} {l} {p} {q} a b c d e f g m = record { size = c.size ∙ b.size ∙ a.size; lines = all } where
  before : (j : ℕ) → j < 4 * i → get_or heads₃ j 0 ≡ get_or heads₁ j 0
  before j h = c.below j (omega arith) ∙ b.below j (omega arith)

  its-name : PartAt text rows (8 * (first + i) + 2) heads₃ (4 * i)
  its-name = kept-part (4 * i + 2) (λ j h. c.below j (omega arith)) (omega arith) (rw d at (rw f at b.there))

  its-type : PartAt text rows (8 * (first + i) + 6) heads₃ (4 * i + 2)
  its-type = rw e at (rw g at c.there)

  all : (j : ℕ) → j < n → LineAt text rows (first + j) heads₃ j
  all j h = go (lt-or-le j i)
    where
      go : (j < i) ⊎ (i ≤ j) → LineAt text rows (first + j) heads₃ j
      go (inl o) = kept_line (4 * i) before (omega arith) (a.lines j o)
      go (inr o) = let z : i ≡ j = omega arith in record { name = rw z at its-name; type = rw z at its-type }

pub all-heads : {text rows heads heads' : List ℕ} {first i n : ℕ} → CopiesHeads text rows first i heads heads' → i ≡ n → CopiesHeads text rows first n heads heads'
all-heads a e = rw e at a

-- The lines of a common part

line-name : (k : ℕ) (hs : List Head) (more : List Decl) (i : ℕ) → i < length hs → (decl_of (rule_decls k (as_rules hs) ++ more) i).name.text ≡ text_at hs i
unfolding decl_of rule_decls as_rules text_at
line-name k [] more i h = absurd (omega arith)
line-name k (x ∷ hs) more zero h = refl
line-name k (x ∷ hs) more (suc i) h = line-name (suc k) hs more i (omega arith)

-- its type is there
typed-as : List ℕ → Option Word → Type 0
typed-as t none = ⊥
typed-as t (some w) = w.text ≡ t

line-type : (k : ℕ) (hs : List Head) (more : List Decl) (i : ℕ) → i < length hs → typed-as (type_at hs i) (decl_of (rule_decls k (as_rules hs) ++ more) i).third
unfolding decl_of rule_decls as_rules type_at typed-as
line-type k [] more i h = absurd (omega arith)
line-type k (x ∷ hs) more zero h = refl
line-type k (x ∷ hs) more (suc i) h = line-type (suc k) hs more i (omega arith)

type-part : (text : List ℕ) (a b : ℕ) (t : List ℕ) → typed-as t (option_of text 257 a b) → take b (drop a text) ≡ t
unfolding typed-as option_of
type-part text a b t = go (eqb b 0)
  where
    go : (x : Bool) → typed-as t (if x then none else some (word_of text 257 a b)) → take b (drop a text) ≡ t
    go true e = absurd e
    go false e = e

-- numbers one behind the other
inside-at : {text rows heads : List ℕ} {k p : ℕ} (q : ℕ) → q ≡ p + 1 → PartAt text rows k heads p → get_or heads p 0 + get_or heads q 0 ≤ length text
inside-at q e a = rw e a.inside

bytes-at : {text rows heads : List ℕ} {k p : ℕ} (l q : ℕ) → l ≡ k + 1 → q ≡ p + 1 → PartAt text rows k heads p → take (get_or heads q 0) (drop (get_or heads p 0) text) ≡ take (get_or rows l 0) (drop (get_or rows k 0) text)
bytes-at l q e f a = rw (e, f) a.bytes

abbrev rest : Common → List Rule → List Decl
rest c rs = rule_decls (length c.listed) (called_rules (others c.listed rs))

module _ (text rows : List ℕ) (n first : ℕ) (c : Common) (rs : List Rule) (e : held text rows n ≡ decls_of (together c rs)) (f : first ≡ names_in_all c.sections) (h : first + length c.listed ≤ n) where
  row_is : (i : ℕ) → i < length c.listed → decl_at text rows (first + i) ≡ decl_of (rule_decls 0 (as_rules c.listed) ++ rest c rs) i
  unfolding decl_of
  row_is i l =
      let xs = sections_decls 0 c.sections in
      let z : first + i ≡ length xs + i = omega (arith, length-sections 0 c.sections) in
      sym (held_at text rows n (first + i) (omega arith)) ∙ ap (λ (ds : List Decl). decl_of ds (first + i)) (e ∙ whole-rows c rs ∙ append_assoc xs (rule_decls 0 (as_rules c.listed)) (rest c rs))
      ∙ ap (decl_of (xs ++ (rule_decls 0 (as_rules c.listed) ++ rest c rs))) z ∙ get_or-append-add xs (rule_decls 0 (as_rules c.listed) ++ rest c rs) i _

  its-type : (i : ℕ) → i < length c.listed → typed-as (type_at c.listed i) (decl_at text rows (first + i)).third
  its-type i l = rw (row_is i l) (line-type 0 c.listed (rest c rs) i l)

  pub heads-at : {count : ℕ} {heads heads' : List ℕ} → count ≡ length c.listed → length heads ≡ 4 * count → CopiesHeads text rows first count heads heads' → HeadsAt text heads' c.listed
  unfolding decl_at
  heads-at {count} {heads} {heads'} k s a = record {
    as_many = omega (arith, a.size);
    inside = λ i l. (a.lines i (omega arith)).name.inside;
    names = λ i l. sym (bytes-at (8 * (first + i) + 3) (4 * i + 1) (omega arith) (omega arith) (a.lines i (omega arith)).name ∙ ap (λ (d : Decl). d.name.text) (row_is i l) ∙ line-name 0 c.listed (rest c rs) i l);
    types_inside = λ i l. inside-at (4 * i + 3) (omega arith) (a.lines i (omega arith)).type;
    types = λ i l. sym (bytes-at (8 * (first + i) + 7) (4 * i + 3) (omega arith) (omega arith) (a.lines i (omega arith)).type ∙ type-part text _ _ (type_at c.listed i) (its-type i l));
  }
