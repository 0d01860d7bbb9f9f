-- The rules one after the other: their locations. Assumes nothing.
use Prim.Native.Nat.{ℕ, suc, ◌+◌, ◌<◌, ◌≤◌}
use mathlib.Core.Path.{◌≡◌, refl, sym, ap, ◌∙◌, subst}
use mathlib.Core.Bool.{Bool, true, false}
use mathlib.Core.List.{List, [], ◌∷◌}
use mathlib.Core.Logic.{◌⊎◌, inl, inr}
use native.Mathlib.Omega.{arith}
use lib.ListN.{length, get_or, set}
use lib.Seq.{get_or-set_same, get_or-set_other}
use Rattle.base.proofs.Laws.{lt-or-le}
use Rattle.program.specs.Program.{Rule}
use Rattle.program.specs.Table.{end_words, sizes, size_rule, size_rules, place}
use Rattle.program.proofs.Places.{place-first}
use Rattle.emitter.specs.Emitted.{sort_of, IsRules, rules_more}
use Rattle.emitter.proofs.Link.{program-stands}
use Rattle.sizes.specs.Located.{Scanned, Locates}

pub record PlacesRest (cs sorts : List ℕ) (n rules : ℕ) (prog : List Rule) (starts : List ℕ) (q w r : ℕ) : Type 0 where
  pub rest : List Rule
  pub stands : IsRules cs sorts n q r rest
  pub count : r + length rest ≡ rules
  pub sum : w + size_rules rest ≡ size_rules prog
  pub onward : (i : ℕ) → place (w + 1) rest i ≡ place 1 prog (r + i)
  pub behind : (i : ℕ) → i < r → i < length starts → get_or starts i 0 ≡ place 1 prog i

abbrev pub PlacesGo : List ℕ → List ℕ → ℕ → List ℕ → ℕ → ℕ → ℕ → Type 0
PlacesGo cs sorts rules starts q w r = (n : ℕ) (prog : List Rule) → IsRules cs sorts n 0 0 prog → rules ≡ length prog → PlacesRest cs sorts n rules prog starts q w r

pub places-start : (cs sorts : List ℕ) (rules : ℕ) (starts : List ℕ) → PlacesGo cs sorts rules starts 0 0 0
places-start cs sorts rules starts n prog h c =
    record { rest = prog; stands = h; count = omega arith; sum = omega arith; onward = λ i. (let a : 0 + 1 ≡ 1 = omega arith in let b : i ≡ 0 + i = omega arith in ap (λ (j : ℕ). place 1 prog j) b); behind = λ i l k. absurd (omega arith) }

end_is : (v : Bool) (sort k : ℕ) → sort ≡ sort_of v → (sort ≡ 0 → k ≡ 1) → (sort ≡ 1 → k ≡ 0) → k ≡ length (end_words v)
unfolding sort_of end_words
end_is true sort k e f g = g e
end_is false sort k e f g = f e

place_kept : (prog : List Rule) (starts : List ℕ) (r l i : ℕ) → ((i : ℕ) → i < r → i < length starts → get_or starts i 0 ≡ place 1 prog i) → l ≡ place 1 prog r → i < r + 1 → i < length (set starts r l) → length (set starts r l) ≡ length starts → (i < r) ⊎ (r ≤ i)
    → get_or (set starts r l) i 0 ≡ place 1 prog i
place_kept prog starts r l i f e h k s (inl x) = get_or-set_other starts r i l 0 (λ z. omega arith) ∙ f i x (omega arith)
place_kept prog starts r l i f e h k s (inr x) =
    let z : i ≡ r = omega arith in
    ap (λ (j : ℕ). get_or (set starts r l) j 0) z ∙ get_or-set_same starts r l 0 (omega arith) ∙ e ∙ ap (λ (j : ℕ). place 1 prog j) (sym z)

places-step : (cs sorts : List ℕ) (n rules : ℕ) (prog : List Rule) (starts new : List ℕ) (q w r sort k q' v : ℕ) (rest : List Rule) → IsRules cs sorts n q r rest → r + length rest ≡ rules → w + size_rules rest ≡ size_rules prog
    → ((i : ℕ) → place (w + 1) rest i ≡ place 1 prog (r + i)) → ((i : ℕ) → i < r → i < length starts → get_or starts i 0 ≡ place 1 prog i)
    → r < rules → new ≡ set starts r (w + 1) → length new ≡ length starts → sort ≡ get_or sorts r 0 → (sort ≡ 0 → k ≡ 1) → (sort ≡ 1 → k ≡ 0) → Scanned cs q q' v → PlacesRest cs sorts n rules prog new q' (w + v + k) (r + 1)
unfolding Scanned size_rules size_rule place
places-step cs sorts n rules prog starts new q w r sort k q' v [] h c s f g i e L y a b d = absurd (omega arith)
places-step cs sorts n rules prog starts new q w r sort k q' v (b ∷ bs) (rules_more {e = E} x y z) c s f g i e L t a o d =
    let u = d n b.body E x in
    let m = end_is b.valued sort k (t ∙ y) a o in
    let z0 : r + 0 ≡ r = omega arith in
    let here : w + 1 ≡ place 1 prog r = place-first (w + 1) (b ∷ bs) ∙ (f 0 ∙ ap (λ (j : ℕ). place 1 prog j) z0) in
    record {
      rest = bs;
      stands = subst (λ (j : ℕ). IsRules cs sorts n j (r + 1) bs) (sym u.1) z;
      count = omega arith;
      sum = omega arith;
      onward = λ j. (let p : w + v + k + 1 ≡ w + 1 + (sizes b.body + length (end_words b.valued)) = omega arith in let p2 : r + suc j ≡ r + 1 + j = omega arith in ap (λ (l : ℕ). place l bs j) p ∙ (f (suc j) ∙ ap (λ (l : ℕ). place 1 prog l) p2));
      behind = λ j l l2. subst (λ (ss : List ℕ). get_or ss j 0 ≡ place 1 prog j) (sym e) (place_kept prog starts r (w + 1) j g here l (omega (arith, ap length e)) (omega (arith, ap length e)) (lt-or-le j r));
    }

pub places-go : (cs sorts : List ℕ) (rules : ℕ) (starts new : List ℕ) (q w r sort k q' v : ℕ) → r < rules → new ≡ set starts r (w + 1) → length new ≡ length starts → sort ≡ get_or sorts r 0 → (sort ≡ 0 → k ≡ 1) → (sort ≡ 1 → k ≡ 0) → Scanned cs q q' v
    → PlacesGo cs sorts rules starts q w r → PlacesGo cs sorts rules new q' (w + v + k) (r + 1)
places-go cs sorts rules starts new q w r sort k q' v i e L t a o d f n prog h c =
    let g = f n prog h c in
    places-step cs sorts n rules prog starts new q w r sort k q' v g.rest g.stands g.count g.sum g.onward g.behind i e L t a o d

none_left : (rest : List Rule) → length rest ≡ 0 → size_rules rest ≡ 0
unfolding size_rules
none_left [] h = refl
none_left (b ∷ bs) h = absurd (omega arith)

pub places-end : (cs sorts : List ℕ) (rules : ℕ) (starts : List ℕ) (q w r : ℕ) → rules ≤ r → PlacesGo cs sorts rules starts q w r → Locates cs sorts rules starts w
unfolding Locates
places-end cs sorts rules starts q w r i f prog h =
    let g = f (length prog) prog (program-stands cs sorts rules prog h) h.count in
    let z = none_left g.rest (omega (arith, g.count)) in
    record { words = omega (arith, g.sum); places = λ j l k. g.behind j (omega (arith, h.count, g.count)) k }
