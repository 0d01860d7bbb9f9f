-- The rows of the rules before are those that are marked.
use mathlib.Core.Bool.{Bool, true, false, ◌||◌, not}
use mathlib.Core.List.{List, [], ◌∷◌}
use mathlib.Core.Option.{Option, none, some}
use mathlib.Core.Path.{◌≡◌, refl, sym, ap, ◌∙◌}
use native.Mathlib.Omega.{arith}
use Prim.Native.Nat.{ℕ, zero, suc, ◌<◌, ◌≤◌}
use borrow.Author.Tests.{eq-eqb, ne_eqb, eqb-true, eqb-false}
use lib.Dec.{eqb}
use lib.ListN.{length, get_or, set}
use lib.Seq.{set_out, get_or-set_same, get_or-set_other}
use Rattle.base.proofs.Laws.{same_refl, same-eq}
use Rattle.base.specs.Common.{same, given}
use Rattle.declarations.specs.Decls.{Decl, decl_of, index_of}
use Rattle.maker.proofs.Taking.{row_at}
use Rattle.names.specs.Understand.{is_one}
use Rattle.std.specs.Prelude.{Some, None}
use Rattle.symbols.proofs.Searches.{answer-some, answer-none}
use Rattle.symbols.specs.Rows.{answer_of}
use Rattle.partrules.specs.Opened.{marked, marking, SeenAre, taken_by}

get_d_past : (l : List ℕ) (i : ℕ) → length l ≤ i → get_or l i 0 ≡ 0
get_d_past [] i h = refl
get_d_past (a ∷ l) zero h = absurd (omega arith)
get_d_past (a ∷ l) (suc i) h = get_d_past l i (omega arith)

past-marks : (seen : List ℕ) (i : ℕ) → length seen ≤ i → false ≡ not (eqb (get_or seen i 0) 0)
past-marks seen i h = rw (get_d_past seen i h) refl

-- A name

pub operation-taken : (ds : List Decl) (seen w : List ℕ) → true ≡ given (index_of 6 w 0 ds) → true ≡ taken_by ds seen w
unfolding taken_by
operation-taken ds seen w e = rw (sym e) refl

pub rule-taken : (ds : List Decl) (seen w : List ℕ) {s : ℕ} {b : Bool} → false ≡ given (index_of 6 w 0 ds) → Some s ≡ answer_of (index_of 7 w 0 ds) → b ≡ not (eqb (get_or seen s 0) 0) → b ≡ taken_by ds seen w
unfolding taken_by marked
rule-taken ds seen w e f q = rw (sym e, answer-some (index_of 7 w 0 ds) f) q

pub rule_free : (ds : List Decl) (seen w : List ℕ) → false ≡ given (index_of 6 w 0 ds) → None ≡ answer_of (index_of 7 w 0 ds) → false ≡ taken_by ds seen w
unfolding taken_by marked
rule_free ds seen w e f = rw (sym e, answer-none (index_of 7 w 0 ds) f) refl

pub marks-row : (seen : List ℕ) (o : Option ℕ) {s : ℕ} → Some s ≡ answer_of o → set seen s 1 ≡ marking seen o
unfolding marking
marks-row seen o e = rw (answer-some o e) refl

pub marks-past : (seen : List ℕ) (o : Option ℕ) {s : ℕ} → Some s ≡ answer_of o → length seen ≤ s → seen ≡ marking seen o
unfolding marking
marks-past seen o {s} e h = rw (answer-some o e) (sym (set_out seen s 1 h))

pub marks-none : (seen : List ℕ) (o : Option ℕ) → None ≡ answer_of o → seen ≡ marking seen o
unfolding marking
marks-none seen o e = rw (answer-none o e) refl

-- One rule more

same_index : (w v : List ℕ) (i j : ℕ) (ds : List Decl) → index_of 7 w 0 ds ≡ some i → index_of 7 v 0 ds ≡ some j → same w v ≡ eqb i j
same_index w v i j ds e f = go (same w v) refl
  where
    name_of : (u : List ℕ) (k : ℕ) → index_of 7 u 0 ds ≡ some k → u ≡ (decl_of ds k).name.text
    name_of u k q = same-eq u (decl_of ds k).name.text (row_at 7 u k ds q).name

    go : (t : Bool) → same w v ≡ t → t ≡ eqb i j
    go true q =
        let d : ◌≡◌ {A = Option ℕ} (some i) (some j) = sym e ∙ (ap (λ (u : List ℕ). index_of 7 u 0 ds) (same-eq w v q) ∙ f) in
        let z : i ≡ j = cc in
        sym (eq-eqb i j z)
    go false q =
        sym (ne_eqb i j (λ z.
        let y : ◌≡◌ {A = Bool} false true = sym q ∙ (ap (same w) (name_of v j f ∙ (ap (λ (k : ℕ). (decl_of ds k).name.text) (sym z) ∙ sym (name_of w i e))) ∙ same_refl w) in
        let x : ◌≡◌ {A = ℕ} 0 1 = cc in
        omega (arith, x)))

no_row : (w v : List ℕ) (j : ℕ) (ds : List Decl) → index_of 7 w 0 ds ≡ none → index_of 7 v 0 ds ≡ some j → same w v ≡ false
no_row w v j ds e f = go (same w v) refl
  where
    go : (t : Bool) → same w v ≡ t → t ≡ false
    go true q =
        let d : ◌≡◌ {A = Option ℕ} none (some j) = sym e ∙ (ap (λ (u : List ℕ). index_of 7 u 0 ds) (same-eq w v q) ∙ f) in
        let x : ◌≡◌ {A = ℕ} 0 1 = cc in
        absurd (omega (arith, x))
    go false q = refl

pub seen_more : (ds : List Decl) (before : List (List ℕ)) (seen v : List ℕ) → SeenAre ds before seen → (j : ℕ) → index_of 7 v 0 ds ≡ some j → j < length seen → SeenAre ds (v ∷ before) (marking seen (some j))
unfolding is_one marked marking
seen_more ds before seen v S j f l = record { names = λ w. ap (λ b. same w v || b) (S.names w) ∙ go w (index_of 7 w 0 ds) refl }
  where
    pick : (i : ℕ) (b : Bool) → eqb i j ≡ b → (b || not (eqb (get_or seen i 0) 0)) ≡ not (eqb (get_or (set seen j 1) i 0) 0)
    pick i true e = let z : get_or (set seen j 1) i 0 ≡ 1 = ap (λ k. get_or (set seen j 1) k 0) (eqb-true i j e) ∙ get_or-set_same seen j 1 0 l in rw z refl
    pick i false e = ap (λ y. not (eqb y 0)) (sym (get_or-set_other seen j i 1 0 (eqb-false i j e)))

    go : (w : List ℕ) (o : Option ℕ) → index_of 7 w 0 ds ≡ o → (same w v || marked seen o) ≡ marked (set seen j 1) o
    go w none e = rw (no_row w v j ds e f) refl
    go w (some i) e = ap (λ b. b || not (eqb (get_or seen i 0) 0)) (same_index w v i j ds e f) ∙ pick i (eqb i j) refl

-- before the first rule
pub seen_none : (ds : List Decl) (seen : List ℕ) → ((i : ℕ) → get_or seen i 0 ≡ 0) → SeenAre ds [] seen
unfolding is_one marked
seen_none ds seen h = record { names = λ w. go (index_of 7 w 0 ds) }
  where
    go : (o : Option ℕ) → false ≡ marked seen o
    go none = refl
    go (some i) = rw (h i) refl
