-- The choice table's entries of one alternative. Assumes nothing.
use Prim.Native.Nat.{ℕ, ◌+◌, ◌*◌, ◌-◌, ◌<◌}
use mathlib.Core.Path.{◌≡◌, refl, sym, ap, ◌∙◌}
use mathlib.Core.List.{List, [], ◌∷◌}
use native.Mathlib.Omega.{arith}
use lib.ListN.{length, get_or}
use Rattle.program.specs.Table.{label_words}
use Rattle.emitter.specs.Words.{puts, cut}
use Rattle.emitter.specs.Stands.{Labels, lab_none, lab_more}
use Rattle.emitter.specs.Work.{LabelsDone}
use Rattle.emitter.proofs.Laws.{puts_then, cut_small}

pub record LabelsRest (cs : List ℕ) (d from : ℕ) (ls : List ℕ) (k : ℕ) (old : List ℕ) (at q l left : ℕ) (out : List ℕ) : Type 0 where
  pub rest : List ℕ
  pub j : ℕ
  pub stands : Labels cs q rest
  pub count : length rest ≡ left
  pub place : l ≡ from + (d + j)
  pub small : l + 2 * left < 65536
  pub same : puts out l (label_words d j rest) ≡ puts old at (label_words d k ls)

abbrev pub LabelsGo : List ℕ → ℕ → ℕ → List ℕ → ℕ → ℕ → ℕ → ℕ → ℕ → List ℕ → Type 0
LabelsGo cs p n old at from q l left out = (ls : List ℕ) (d k : ℕ) → Labels cs p ls → length ls ≡ n → at ≡ from + (d + k) → at + 2 * n < 65536 → LabelsRest cs d from ls k old at q l left out

pub labels-none : (cs : List ℕ) (p n : ℕ) (old : List ℕ) (at from q l left : ℕ) → q ≡ p → l ≡ at → left ≡ n → LabelsGo cs p n old at from q l left old
labels-none cs p n old at from q l left x y w ls d k h c z b = rw (x, y, w) (record { rest = ls; j = k; stands = h; count = c; place = z; small = b; same = refl })

labels-step : (cs : List ℕ) (d from : ℕ) (ls : List ℕ) (k : ℕ) (old : List ℕ) (at q l left : ℕ) (out : List ℕ) (rest : List ℕ) (j : ℕ) (new : List ℕ) → Labels cs q rest → length rest ≡ left → l ≡ from + (d + j) → l + 2 * left < 65536
    → puts out l (label_words d j rest) ≡ puts old at (label_words d k ls) → 0 < left → new ≡ puts out l (get_or cs q 0 ∷ cut (l + 1 - from) ∷ []) → LabelsRest cs d from ls k old at (q + 1) (l + 2) (left - 1) new
unfolding label_words
labels-step cs d from ls k old at q l left out [] j new lab_none c z b s o e = absurd (omega arith)
labels-step cs d from ls k old at q l left out (v ∷ rest) j new (lab_more t h) c z b s o e =
    let w : cut (l + 1 - from) ≡ d + (j + 1) = cut_small (l + 1 - from) (omega arith) ∙ omega arith in
    let f : new ≡ puts out l (v ∷ (d + (j + 1)) ∷ []) = e ∙ ap (λ (i : ℕ). puts out l (i ∷ cut (l + 1 - from) ∷ [])) t ∙ ap (λ (i : ℕ). puts out l (v ∷ i ∷ [])) w in
    record {
      rest = rest;
      j = j + 2;
      stands = h;
      count = omega arith;
      place = omega arith;
      small = omega arith;
      same = puts_then out new (puts new (l + 2) (label_words d (j + 2) rest)) l (l + 2) (v ∷ (d + (j + 1)) ∷ []) (label_words d (j + 2) rest) f refl refl ∙ s;
    }

pub labels-more : (cs : List ℕ) (p n : ℕ) (old : List ℕ) (at from q l left q' l' left' : ℕ) (out new : List ℕ) → q' ≡ q + 1 → l' ≡ l + 2 → left' ≡ left - 1 → 0 < left → new ≡ puts out l (get_or cs q 0 ∷ cut (l + 1 - from) ∷ [])
    → LabelsGo cs p n old at from q l left out → LabelsGo cs p n old at from q' l' left' new
labels-more cs p n old at from q l left q' l' left' out new x y w o e g ls d k h c z b =
    let r = g ls d k h c z b in
    rw (x, y, w) (labels-step cs d from ls k old at q l left out r.rest r.j new r.stands r.count r.place r.small r.same o e)

labels-last : (out : List ℕ) (d j l : ℕ) (rest : List ℕ) → length rest ≡ 0 → puts out l (label_words d j rest) ≡ out
unfolding label_words puts
labels-last out d j l [] c = refl
labels-last out d j l (v ∷ rest) c = absurd (omega arith)

pub labels-end : (cs : List ℕ) (p n : ℕ) (old : List ℕ) (at from q l left : ℕ) (out : List ℕ) → left ≡ 0 → LabelsGo cs p n old at from q l left out → LabelsDone cs p n old out at from
unfolding LabelsDone
labels-end cs p n old at from q l left out o g ls d k h c z b =
    let r = g ls d k h c z b in
    sym (labels-last out d r.j l r.rest (omega arith)) ∙ r.same
