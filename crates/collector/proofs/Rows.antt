-- Laws of the rows: a row that is written, rows that are appended.
use mathlib.Core.List.{List, [], ◌∷◌, ◌++◌, append_assoc, append-nil}
use mathlib.Core.Path.{◌≡◌, refl, sym, ap, ◌∙◌}
use Prim.Native.Nat.{ℕ, zero, suc, ◌+◌, ◌*◌, ◌≤◌, ◌<◌}
use native.Mathlib.Nat.{add-zero, zero-add}
use native.Mathlib.Numerals.{add-one}
use native.Mathlib.Omega.{arith}
use lib.ListN.{length, get_or, set, length-set, length-append}
use lib.Seq.{get_or-set_same, get_or-set_other}
use Rattle.collector.specs.Collecting.{set_two, set_words, set_row, decl_in, written, Appends, Puts}
use Rattle.collector.specs.declared.Row.{Row}
use Rattle.declarations.specs.Decls.{Decl}
use Rattle.symbols.specs.Rows.{decl_at, held, held_from}

two-other : (l : List ℕ) (k a b j : ℕ) → (j ≡ k → ⊥) → (j ≡ k + 1 → ⊥) → get_or (set_two l k a b) j 0 ≡ get_or l j 0
two-other l k a b j h g = get_or-set_other (set l k a) (k + 1) j b 0 g ∙ get_or-set_other l k j a 0 h

two-first : (l : List ℕ) (k a b : ℕ) → k + 2 ≤ length l → get_or (set_two l k a b) k 0 ≡ a
two-first l k a b h = get_or-set_other (set l k a) (k + 1) k b 0 (λ e. omega arith) ∙ get_or-set_same l k a 0 (omega arith)

two-second : (l : List ℕ) (k a b j : ℕ) → j ≡ k + 1 → k + 2 ≤ length l → get_or (set_two l k a b) j 0 ≡ b
two-second l k a b j e h = rw e (get_or-set_same (set l k a) (k + 1) b 0 (simp length-set (omega arith)))

pub two-length : (l : List ℕ) (k a b : ℕ) → length (set_two l k a b) ≡ length l
two-length l k a b = length-set (set l k a) (k + 1) b ∙ length-set l k a

module _ (rows : List ℕ) (i : ℕ) (d : Row) where
  abbrev one : List ℕ
  one = set_two rows (8 * i) d.class d.value

  abbrev two : List ℕ
  two = set_two one (8 * i + 2) d.name.start d.name.len

  abbrev three : List ℕ
  three = set_two two (8 * i + 4) (written d.second).start (written d.second).len

  sized-two : length two ≡ length rows
  sized-two = two-length one _ _ _ ∙ two-length rows _ _ _

  sized-three : length three ≡ length rows
  sized-three = two-length two _ _ _ ∙ sized-two

  row_other : (j : ℕ) → j < 8 * i → get_or (set_row rows i d) j 0 ≡ get_or rows j 0
  unfolding set_row
  row_other j h =
      two-other three (8 * i + 6) _ _ j (λ e. omega arith) (λ e. omega arith)
      ∙ two-other two (8 * i + 4) _ _ j (λ e. omega arith) (λ e. omega arith)
      ∙ two-other one (8 * i + 2) _ _ j (λ e. omega arith) (λ e. omega arith)
      ∙ two-other rows (8 * i) _ _ j (λ e. omega arith) (λ e. omega arith)

  pub row-length : length (set_row rows i d) ≡ length rows
  unfolding set_row
  row-length = two-length three _ _ _ ∙ sized-three

  behind-one : (j : ℕ) → j < 8 * i + 2 → get_or (set_row rows i d) j 0 ≡ get_or one j 0
  unfolding set_row
  behind-one j h =
      two-other three (8 * i + 6) _ _ j (λ e. omega arith) (λ e. omega arith)
      ∙ two-other two (8 * i + 4) _ _ j (λ e. omega arith) (λ e. omega arith)
      ∙ two-other one (8 * i + 2) _ _ j (λ e. omega arith) (λ e. omega arith)

  behind-two : (j : ℕ) → j < 8 * i + 4 → get_or (set_row rows i d) j 0 ≡ get_or two j 0
  unfolding set_row
  behind-two j h =
      two-other three (8 * i + 6) _ _ j (λ e. omega arith) (λ e. omega arith)
      ∙ two-other two (8 * i + 4) _ _ j (λ e. omega arith) (λ e. omega arith)

  behind-three : (j : ℕ) → j < 8 * i + 6 → get_or (set_row rows i d) j 0 ≡ get_or three j 0
  unfolding set_row
  behind-three j h = two-other three (8 * i + 6) _ _ j (λ e. omega arith) (λ e. omega arith)

  module _ (fits : 8 * i + 8 ≤ length rows) where
    at-0 : get_or (set_row rows i d) (8 * i) 0 ≡ d.class
    at-0 = behind-one (8 * i) (omega arith) ∙ two-first rows (8 * i) _ _ (omega arith)

    at_1 : get_or (set_row rows i d) (8 * i + 1) 0 ≡ d.value
    at_1 = behind-one (8 * i + 1) (omega arith) ∙ two-second rows (8 * i) _ _ (8 * i + 1) refl (omega arith)

    at-2 : get_or (set_row rows i d) (8 * i + 2) 0 ≡ d.name.start
    at-2 = behind-two (8 * i + 2) (omega arith) ∙ two-first one (8 * i + 2) _ _ (omega (arith, two-length rows (8 * i) d.class d.value))

    at-3 : get_or (set_row rows i d) (8 * i + 3) 0 ≡ d.name.len
    at-3 = behind-two (8 * i + 3) (omega arith) ∙ two-second one (8 * i + 2) _ _ (8 * i + 3) (omega arith) (omega (arith, two-length rows (8 * i) d.class d.value))

    at-4 : get_or (set_row rows i d) (8 * i + 4) 0 ≡ (written d.second).start
    at-4 = behind-three (8 * i + 4) (omega arith) ∙ two-first two (8 * i + 4) _ _ (omega (arith, sized-two))

    at_5 : get_or (set_row rows i d) (8 * i + 5) 0 ≡ (written d.second).len
    at_5 = behind-three (8 * i + 5) (omega arith) ∙ two-second two (8 * i + 4) _ _ (8 * i + 5) (omega arith) (omega (arith, sized-two))

    at-6 : get_or (set_row rows i d) (8 * i + 6) 0 ≡ (written d.third).start
    unfolding set_row
    at-6 = two-first three (8 * i + 6) _ _ (omega (arith, sized-three))

    at_7 : get_or (set_row rows i d) (8 * i + 7) 0 ≡ (written d.third).len
    unfolding set_row
    at_7 = two-second three (8 * i + 6) _ _ (8 * i + 7) (omega arith) (omega (arith, sized-three))

    -- the row as a declaration
    row_is : (text : List ℕ) → decl_at text (set_row rows i d) i ≡ decl_in text d
    unfolding decl_at decl_in
    row_is text = rw (at-0, at_1, at-2, at-3, at-4, at_5, at-6, at_7)

-- the rows before it are what they were
decl-same : (text l m : List ℕ) (n : ℕ) → ((j : ℕ) → j < 8 * n + 8 → get_or l j 0 ≡ get_or m j 0) → decl_at text l n ≡ decl_at text m n
unfolding decl_at
decl-same text l m n f =
    rw (
      f (8 * n) (omega arith),
      f (8 * n + 1) (omega arith),
      f (8 * n + 2) (omega arith),
      f (8 * n + 3) (omega arith),
      f (8 * n + 4) (omega arith),
      f (8 * n + 5) (omega arith),
      f (8 * n + 6) (omega arith),
      f (8 * n + 7) (omega arith),
    )

held_same : (text l m : List ℕ) (i n : ℕ) → ((j : ℕ) → j < 8 * (i + n) → get_or l j 0 ≡ get_or m j 0) → held_from text l i n ≡ held_from text m i n
unfolding held_from
held_same text l m i zero f = refl
held_same text l m i (suc n) f =
    rw (decl-same text l m i (λ j h. f j (omega arith)), held_same text l m (suc i) n (λ j h. f j (omega arith)))

held-snoc : (text l : List ℕ) (i n : ℕ) → held_from text l i (suc n) ≡ held_from text l i n ++ (decl_at text l (i + n) ∷ [])
unfolding held_from
held-snoc text l i zero = rw add-zero
held-snoc text l i (suc n) = ap (λ (ds : List Decl). decl_at text l i ∷ ds) (held-snoc text l (suc i) n ∙ shift) where
  shift : held_from text l (suc i) n ++ (decl_at text l (suc i + n) ∷ []) ≡ held_from text l (suc i) n ++ (decl_at text l (i + suc n) ∷ [])
  shift = ap (λ (k : ℕ). held_from text l (suc i) n ++ (decl_at text l k ∷ [])) (omega arith)

-- one row more
pub appends-row : (text rows : List ℕ) (i : ℕ) (d : Row) → 8 * i + 8 ≤ length rows → Appends text rows (set_row rows i d) i (i + 1) (decl_in text d ∷ [])
unfolding held
appends-row text rows i d fits = record {
  counted = refl;
  filled =
      rw add-one
      (held-snoc text (set_row rows i d) 0 i
      ∙ ap (λ (k : ℕ). held_from text (set_row rows i d) 0 i ++ (decl_at text (set_row rows i d) k ∷ [])) (zero-add i)
      ∙ ap (λ (ds : List Decl). ds ++ (decl_at text (set_row rows i d) i ∷ [])) (held_same text (set_row rows i d) rows 0 i (λ j h. row_other rows i d j (omega arith)))
      ∙ ap (λ (x : Decl). held_from text rows 0 i ++ (x ∷ [])) (row_is rows i d fits text));
}

pub put_full : (rows : List ℕ) (i : ℕ) (d : Row) → i ≤ 512 → ((i ≡ 512 → ⊥) → length rows < 8 * i + 8) → Puts rows rows i i d
put_full rows i d h g = record { more = omega arith; small = h; puts = λ text r. absurd (omega (arith, g (λ e. omega (arith, r.room)), r.size, r.room)) }

put_in : (rows rows' : List ℕ) (i : ℕ) (d : Row) → i < 512 → 8 * i + 8 ≤ length rows → rows' ≡ set_row rows i d → Puts rows rows' i (i + 1) d
put_in rows rows' i d h g e = record { more = omega arith; small = omega arith; puts = λ text r. rw e (appends-row text rows i d g) }

-- written in two parts
pub put-parts : (rows : List ℕ) {rows₁ rows' : List ℕ} (i : ℕ) (d : Row) {a b : ℕ} → i < 512 → 8 * i + 8 ≤ length rows → a ≡ d.class → b ≡ d.value → rows₁ ≡ set_two rows (8 * i) a b
    → rows' ≡ set_words rows₁ (8 * i) d
    → Puts rows rows' i (i + 1) d
unfolding set_row
put-parts rows {rows₁} {rows'} i d {a} {b} h g e f p q = put_in rows rows' i d h g (rw (p, e, f) at q)

-- Rows appended in turn

pub appends-none : (text rows : List ℕ) (n : ℕ) → Appends text rows rows n n []
appends-none text rows n = record { counted = omega arith; filled = sym (append-nil (held text rows n)) }

pub appends-then : {text rows rows' rows'' : List ℕ} {n n' n'' : ℕ} {ds es : List Decl} → Appends text rows rows' n n' ds → Appends text rows' rows'' n' n'' es
    → Appends text rows rows'' n n'' (ds ++ es)
appends-then {text} {rows} {n = n} {ds = ds} {es} a b = record {
  counted = omega (arith, a.counted, b.counted, length-append ds es);
  filled = b.filled ∙ ap (λ (l : List Decl). l ++ es) a.filled ∙ append_assoc (held text rows n) ds es;
}
