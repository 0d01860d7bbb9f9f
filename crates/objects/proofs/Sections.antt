-- A section of operators sought by a name: the declarations passed are others, so that those left decide.
use mathlib.Core.Bool.{Bool, true, false}
use mathlib.Core.List.{List, []}
use mathlib.Core.Option.{Option, none, some}
use mathlib.Core.Path.{◌≡◌, refl, sym, ap, ◌∙◌}
use native.Mathlib.Omega.{arith}
use Prim.Native.Nat.{ℕ, zero, suc, ◌+◌, ◌*◌, ◌<◌, ◌≤◌}
use borrow.Author.Tests.{eq-eqb, ne_eqb}
use lib.ListN.{length, get_or, take, drop_of_length-le}
use Rattle.base.specs.Common.{same, given}
use Rattle.declarations.specs.Decls.{Decl, Agrees, index_of, mapped, operators_from, entries_of}
use Rattle.names.specs.Known.{KnownRule, Names, find_operators}
use Rattle.program.specs.Made.{levels_of}
use Rattle.symbols.proofs.Searches.{From, by_name, start, hit, miss, end, tells-there, tells-nowhere}
use Rattle.symbols.specs.Rows.{decl_at, held}
use Rattle.symbols.specs.Search.{part, named, Tells, there, nowhere}
use Rattle.syntax.specs.Written.{Program}
use Rattle.objects.specs.Places.{SectionsAt}

take_none : (n : ℕ) → ◌≡◌ {A = List ℕ} (take n []) []
take_none zero = refl
take_none (suc n) = refl

-- a part past the text's end is empty
pub part-outside : (text : List ℕ) (from len : ℕ) → length text < from → part text from len ≡ []
part-outside text from len l = let h : length text ≤ from = omega (arith, l) in ap (take len) (drop_of_length-le text h) ∙ take_none len

module _ (text rows w : List ℕ) where
  -- declaration i by its row
  pub other-class : (i class : ℕ) → class ≡ get_or rows (8 * i) 0 → (class ≡ 600 → ⊥) → false ≡ named 600 w (decl_at text rows i)
  unfolding decl_at named
  other-class i class e f = rw (← e, ne_eqb class 600 f)

  pub by-its-name : (i class from len : ℕ) (r : Bool) → class ≡ get_or rows (8 * i) 0 → class ≡ 600 → from ≡ get_or rows (8 * i + 2) 0 → len ≡ get_or rows (8 * i + 3) 0 → r ≡ same w (part text from len)
      → r ≡ named 600 w (decl_at text rows i)
  unfolding decl_at named
  by-its-name i class from len r e f a b h = rw (← e, eq-eqb class 600 f, ← a, ← b) h

  -- the search from declaration i on
  pub Seeks : ℕ → ℕ → Type 0
  Seeks n i = index_of 600 w 0 (held text rows n) ≡ From (index_of 600 w) text rows i n

  pub seeks-all : (n : ℕ) → Seeks n 0
  unfolding Seeks
  seeks-all n = start (by_name 600 w) text rows n

  pub found-section : (n i : ℕ) → n ≤ 512 → Seeks n i → i < n → (b : Bool) → b ≡ named 600 w (decl_at text rows i) → b ≡ true → Tells i (index_of 600 w 0 (held text rows n))
  unfolding Seeks
  found-section n i m h l b e t = tells-there i i (index_of 600 w 0 (held text rows n)) (h ∙ hit (by_name 600 w) text rows i n l (sym e ∙ t)) refl (omega (arith, l, m))

  pub other-section : (n i : ℕ) → Seeks n i → i < n → (b : Bool) → b ≡ named 600 w (decl_at text rows i) → b ≡ false → Seeks n (i + 1)
  unfolding Seeks
  other-section n i h l b e t = h ∙ miss (by_name 600 w) text rows i n l (sym e ∙ t)

  pub no_section : (n i : ℕ) → Seeks n i → n ≤ i → Tells 65536 (index_of 600 w 0 (held text rows n))
  unfolding Seeks
  no_section n i h l = tells-nowhere 65536 (index_of 600 w 0 (held text rows n)) (h ∙ end (by_name 600 w) text rows i n l) refl

-- whether a section was found
module _ {text rows : List ℕ} {count : ℕ} {n : Names} (s : SectionsAt text rows count n) (w : List ℕ) where
  pub section-there : {r : ℕ} → Tells r (index_of 600 w 0 (held text rows count)) → (r ≡ 65536 → ⊥) → given (find_operators w n.operators) ≡ true
  section-there {r} t f = s.sections w ∙ go (index_of 600 w 0 (held text rows count)) t
    where
      go : (o : Option ℕ) → Tells r o → given o ≡ true
      go (some v) x = refl
      go none (nowhere e) = absurd (f e)

  pub section-nowhere : {r : ℕ} → Tells r (index_of 600 w 0 (held text rows count)) → r ≡ 65536 → given (find_operators w n.operators) ≡ false
  section-nowhere {r} t f = s.sections w ∙ go (index_of 600 w 0 (held text rows count)) t
    where
      go : (o : Option ℕ) → Tells r o → given o ≡ false
      go (some v) (there e l) = absurd (omega (arith, e, l, f))
      go none x = refl

-- names that agree with a program's declarations have the sections of rows that hold these
given-mapped : {A B : Type 0} (f : A → B) (o : Option A) → given (mapped f o) ≡ given o
given-mapped f none = refl
given-mapped f (some a) = refl

pub sections-agree : {p : Program} {n : Names} {rs : List KnownRule} {ds : List Decl} → Agrees p n rs ds → (text rows : List ℕ) (count : ℕ) → held text rows count ≡ ds → SectionsAt text rows count n
sections-agree {p} {n} {rs} {ds} x text rows count e = record {
  sections = λ w. ap given (x.operators w) ∙ given-mapped (λ i. levels_of (operators_from ds (entries_of p i))) (index_of 600 w 0 ds) ∙ ap (λ ds₁. given (index_of 600 w 0 ds₁)) (sym e);
}
