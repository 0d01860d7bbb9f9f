-- `parts-table`: the rows of a text part its table.
use mathlib.Core.List.{List, [], ◌∷◌, ◌++◌}
use mathlib.Core.Path.{◌≡◌, refl, sym, ap, ◌∙◌}
use Prim.Native.Nat.{ℕ, zero, suc, ◌+◌}
use native.Mathlib.Omega.{arith}
use lib.ListN.{length, length-append}
use Rattle.acceptance.proofs.Accepts.{rules-count}
use Rattle.acceptance.proofs.CheckLaws.{Yields, no-good, yields, next}
use Rattle.acceptance.proofs.Used.{total, MadeAre, made-are}
use Rattle.mapping.specs.Mapping.{Row, rows_from, level_rows, made_rows, rows_of, rows_read, rule_rows}
use Rattle.mapping.specs.Parts.{Parts, none_left, one_more, PartsTable}
use Rattle.names.specs.Declare.{declare_sections, known_rules}
use Rattle.names.specs.Known.{Checked, good, wrong, KnownRule, Names}
use Rattle.names.specs.Understand.{nobody, rules_mean, understand}
use Rattle.names.specs.Uses.{Use, pairs_of, levels_used, made_for}
use Rattle.processor.specs.Process.{meaning, faulty, checked, read_in, understood}
use Rattle.program.proofs.Lengths.{length-table}
use Rattle.program.proofs.Places.{place-first}
use Rattle.program.specs.Program.{Rule}
use Rattle.program.specs.Table.{size_rule, size_rules, place, table}
use Rattle.syntax.specs.Parse.{parse}
use Rattle.syntax.specs.Reading.{Read, got, fault}
use Rattle.syntax.specs.Sections.{names_in_all}
use Rattle.syntax.specs.Written as written
use Rattle.syntax.specs.Written.{Program}
use Rattle.words.specs.Words.{Word}

-- As many rules are understood as were read and made

pub all-understood : (p : Program) (n : Names) → declare_sections p p.sections nobody ≡ good n
    → Yields (λ prog. length prog ≡ length p.rules + total n (pairs_of p.rules)) (understand p)
unfolding understand
all-understood p n d =
    rw d (next All (λ own. length own ≡ length p.rules) (rules_mean p n ks [] p.rules) _ (rules-count p n ks [] p.rules) (λ own h.
    next All (MadeAre n us) (made_for n ks (names_in_all p.sections) (length p.rules) us) _ (made-are n ks (names_in_all p.sections) (length p.rules) us) (λ made k.
    let l = length-append own made in
    yields All (own ++ made) (omega (arith, l, h, k.0)))))
  where
    ks : List KnownRule
    ks = known_rules 0 p.rules

    us : List Use
    us = pairs_of p.rules

    All : List Rule → Type 0
    All prog = length prog ≡ length p.rules + total n (pairs_of p.rules)

-- Rows one after the other, the first that of rule i

unfoldable Located : List Rule → ℕ → List Row → Type 0
Located whole i [] = Unit {0}
Located whole i (r ∷ rs) = (r.location ≡ place 1 whole i) × Located whole (suc i) rs

located-append : (whole : List Rule) (i : ℕ) (xs ys : List Row) → Located whole i xs → Located whole (i + length xs) ys → Located whole i (xs ++ ys)
unfolding Located
located-append whole i [] ys h k = let z : i + 0 ≡ i = omega arith in rw z at k
located-append whole i (x ∷ xs) ys h k = let z : i + suc (length xs) ≡ suc i + length xs = omega arith in (h.0, located-append whole (suc i) xs ys h.1 (rw z at k))

-- those of the rules as written
pub own-length : (whole : List Rule) (i : ℕ) (rs : List written.Rule) → length (rows_from whole i rs) ≡ length rs
unfolding rows_from
own-length whole i [] = refl
own-length whole i (r ∷ rs) = ap suc (own-length whole (suc i) rs)

own-located : (whole : List Rule) (i : ℕ) (rs : List written.Rule) → Located whole i (rows_from whole i rs)
unfolding rows_from Located
own-located whole i [] = tt
own-located whole i (r ∷ rs) = (refl, own-located whole (suc i) rs)

-- those of the rules made
pub levels-length : (whole : List Rule) (u : Use) (i k : ℕ) → length (level_rows whole u i k) ≡ k
unfolding level_rows
levels-length whole u i zero = refl
levels-length whole u i (suc k) = ap suc (levels-length whole u (suc i) k)

levels-located : (whole : List Rule) (u : Use) (i k : ℕ) → Located whole i (level_rows whole u i k)
unfolding level_rows Located
levels-located whole u i zero = tt
levels-located whole u i (suc k) = (refl, levels-located whole u (suc i) k)

made-length : (whole : List Rule) (n : Names) (i : ℕ) (us : List Use) → length (made_rows whole n i us) ≡ total n us
unfolding made_rows total
made-length whole n i [] = refl
made-length whole n i (u ∷ us) =
    let k = length (levels_used n u) in
    let l = length-append (level_rows whole u i k) (made_rows whole n (i + k) us) in
    omega (arith, l, levels-length whole u i k, made-length whole n (i + k) us)

made-located : (whole : List Rule) (n : Names) (i : ℕ) (us : List Use) → Located whole i (made_rows whole n i us)
unfolding made_rows Located
made-located whole n i [] = tt
made-located whole n i (u ∷ us) =
    let k = length (levels_used n u) in
    located-append whole i (level_rows whole u i k) (made_rows whole n (i + k) us) (levels-located whole u i k)
    (rw (levels-length whole u i k) (made-located whole n (i + k) us))

-- all of them
rows-located : (p : Program) (n : Names) (whole : List Rule) → Located whole 0 (rows_from whole 0 p.rules ++ made_rows whole n (length p.rules) (pairs_of p.rules))
rows-located p n whole =
    let z : 0 + length (rows_from whole 0 p.rules) ≡ length p.rules = omega (arith, own-length whole 0 p.rules) in
    located-append whole 0 (rows_from whole 0 p.rules) (made_rows whole n (length p.rules) (pairs_of p.rules)) (own-located whole 0 p.rules)
    (rw z (made-located whole n (length p.rules) (pairs_of p.rules)))

rows-length : (p : Program) (n : Names) (whole : List Rule)
    → length (rows_from whole 0 p.rules ++ made_rows whole n (length p.rules) (pairs_of p.rules)) ≡ length p.rules + total n (pairs_of p.rules)
rows-length p n whole =
    let l = length-append (rows_from whole 0 p.rules) (made_rows whole n (length p.rules) (pairs_of p.rules)) in
    omega (arith, l, own-length whole 0 p.rules, made-length whole n (length p.rules) (pairs_of p.rules))

rows-part : (whole : List Rule) (i l : ℕ) (rs : List Row) (bs : List Rule) → length bs ≡ length rs → Located whole i rs → ((j : ℕ) → place 1 whole (i + j) ≡ place l bs j)
    → Parts l rs bs (l + size_rules bs)
unfolding Located size_rules place
rows-part whole i l [] [] e h f = let z : l ≡ l + 0 = omega arith in none_left z
rows-part whole i l [] (b ∷ bs) e h f = absurd (omega (arith, e))
rows-part whole i l (r ∷ rs) [] e h f = absurd (omega (arith, e))
rows-part whole i l (r ∷ rs) (b ∷ bs) e h f =
    let z : i + 0 ≡ i = omega arith in
    let s : l + size_rule b + size_rules bs ≡ l + (size_rule b + size_rules bs) = omega arith in
    let here : place 1 whole i ≡ l = rw z at (f 0) ∙ place-first l (b ∷ bs) in
    one_more (h.0 ∙ here) (rw s at (rows-part whole (suc i) (l + size_rule b) rs bs (omega (arith, e)) h.1 (λ j. further j (f (suc j)))))
  where
    further : (j : ℕ) → place 1 whole (i + suc j) ≡ place l (b ∷ bs) (suc j) → place 1 whole (suc i + j) ≡ place (l + size_rule b) bs j
    further j q = let a : i + suc j ≡ suc i + j = omega arith in rw a at q

-- A text

pub same-program : {p q : List Rule} → meaning p ≡ meaning q → p ≡ q
same-program e = cc

-- nothing is understood where the declarations are at fault
undeclared : (p : Program) (m : ℕ) (w : Word) → declare_sections p p.sections nobody ≡ wrong m w → understand p ≡ wrong m w
unfolding understand
undeclared p m w e = rw e refl

pub parts-table : PartsTable
unfolding understood rule_rows read_in rows_read checked rows_of
parts-table text prog e = go (parse text) e
  where
    nothing : {n : ℕ} {w : _} → faulty n w ≡ meaning prog → ⊥
    nothing q = let z : ◌≡◌ {A = ℕ} 0 1 = cc in omega arith

    its : (p : Program) (d : Checked Names) (m : Checked (List Rule)) → declare_sections p p.sections nobody ≡ d → understand p ≡ m → checked m ≡ meaning prog
        → Parts 1 (rows_of p d m) prog (1 + length (table prog))
    its p d (wrong n w) e₁ u q = absurd (nothing q)
    its p (wrong n w) (good x) e₁ u q = no-good (sym (undeclared p n w e₁) ∙ u)
    its p (good n) (good x) e₁ u q =
        let same : x ≡ prog = same-program q in
        let long : length prog ≡ length p.rules + total n (pairs_of p.rules) = all-understood p n e₁ prog (u ∙ ap good same) in
        let end : 1 + size_rules prog ≡ 1 + length (table prog) = ap (λ (k : ℕ). 1 + k) (sym (length-table prog)) in
        rw same (rw end at (rows-part prog 0 1 _ prog (omega (arith, long, rows-length p n prog)) (rows-located p n prog) (λ j. from j)))
      where
        from : (j : ℕ) → place 1 prog (0 + j) ≡ place 1 prog j
        from j = let z : 0 + j ≡ j = omega arith in ap (place 1 prog) z

    go : (r : Read Program) → read_in r ≡ meaning prog → Parts 1 (rows_read r) prog (1 + length (table prog))
    go (got p ws) q = its p (declare_sections p p.sections nobody) (understand p) refl refl q
    go (fault n w) q = absurd (nothing q)
