-- Following a chain once its target is known. Assumes nothing.
use Prim.Native.Nat.{ℕ, ◌-◌, ◌<◌, ◌≤◌}
use mathlib.Core.Path.{◌≡◌, refl, sym, ap, ◌∙◌, subst}
use mathlib.Core.Bool.{Bool, cond}
use mathlib.Core.List.{List, [], ◌∷◌}
use native.Mathlib.Omega.{arith}
use lib.ListN.{length, get_or, set, length-set}
use lib.Dec.{ltb}
use borrow.Author.Tests.{lt-ltb, le-ltb}
use Rattle.machine.specs.Bytes.{words_of}
use Rattle.chains.specs.Chain.{Chain, patched}
use Rattle.chains.proofs.Lists.{chain-set}
use Rattle.emitter.specs.Words.{words, set_word, puts, cut}
use Rattle.emitter.specs.Heads.{link_at, anchor}
use Rattle.emitter.specs.Work.{PatchDone}
use Rattle.emitter.proofs.Laws.{cut_small}
use Rattle.emitter.proofs.Rows.{set-row, word_of}

pub link-is : (s : List ℕ) (i w : ℕ) → get_or (words_of s) i 0 ≡ w → w < i → link_at s i ≡ w
unfolding link_at
link-is s i w e h = ap (λ (k : ℕ). cond (ltb k i) k 0) e ∙ ap (λ (b : Bool). cond b w 0) (lt-ltb w i h)

pub link-none : (s : List ℕ) (i w : ℕ) → get_or (words_of s) i 0 ≡ w → i ≤ w → link_at s i ≡ 0
unfolding link_at
link-none s i w e h = ap (λ (k : ℕ). cond (ltb k i) k 0) e ∙ ap (λ (b : Bool). cond b w 0) (le-ltb w i h)

pub record PatchRest (f : ℕ → ℕ) (base ws ps out : List ℕ) (j : ℕ) : Type 0 where
  pub now : List ℕ
  pub rest : List ℕ
  pub wrote : out ≡ puts base 0 now
  pub long : length now ≡ length ws
  pub runs : Chain now j rest
  pub same : patched now f rest ≡ patched ws f ps

abbrev pub PatchGo : List ℕ → ℕ → ℕ → ℕ → List ℕ → ℕ → Type 0
PatchGo old n to k out j = (base ws ps : List ℕ) → old ≡ puts base 0 ws → length ws ≤ words base → to < 65536 → Chain ws n ps → PatchRest (λ i. to - anchor k i) base ws ps out j

pub patch-none : (old : List ℕ) (n to k : ℕ) → PatchGo old n to k old n
patch-none old n to k base ws ps e f t c = record { now = ws; rest = ps; wrote = e; long = refl; runs = c; same = refl }

patch-step : (f : ℕ → ℕ) (base ws ps out now rest new : List ℕ) (j older : ℕ) → 0 < j → older ≡ link_at out j → new ≡ set_word out j (f j) → length ws ≤ words base → out ≡ puts base 0 now → length now ≡ length ws → Chain now j rest → patched now f rest ≡ patched ws f ps
    → PatchRest f base ws ps new older
unfolding Chain patched
patch-step f base ws ps out now [] new j older o l w b e n c s = absurd (omega (arith, c))
patch-step f base ws ps out now (i ∷ rest) new j older o l w b e n c s =
    let q : i ≡ j = sym c.0 in
    let g : get_or now i 0 ≡ get_or now j 0 = ap (λ (k : ℕ). get_or now k 0) q in
    let r : link_at out j ≡ get_or now j 0 = link-is out j (get_or now j 0) (ap (λ (t : List ℕ). get_or (words_of t) j 0) e ∙ word_of base now j (omega (arith, c.2)) (omega arith)) (omega (arith, c.3, g)) in
    let z : older ≡ get_or now i 0 = l ∙ (r ∙ sym g) in
    record {
      now = set now j (f j);
      rest = rest;
      wrote = w ∙ (ap (λ (t : List ℕ). set_word t j (f j)) e ∙ set-row base j (f j) now (omega (arith, c.2)) (omega arith));
      long = length-set now j (f j) ∙ n;
      runs = subst (λ (k : ℕ). Chain (set now j (f j)) k rest) (sym z) (chain-set now (get_or now i 0) j (f j) rest (omega (arith, c.3)) c.4);
      same = ap (λ (k : ℕ). patched (set now k (f k)) f rest) (sym q) ∙ s;
    }

pub patch-more : (old : List ℕ) (n to k : ℕ) (out : List ℕ) (j older : ℕ) (new : List ℕ) → 0 < j → older ≡ link_at out j → new ≡ set_word out j (cut (to - anchor k j)) → PatchGo old n to k out j → PatchGo old n to k new older
patch-more old n to k out j older new o l w g base ws ps e f t c =
    let r = g base ws ps e f t c in
    patch-step (λ i. to - anchor k i) base ws ps out r.now r.rest new j older o l (w ∙ ap (λ (v : ℕ). set_word out j v) (cut_small (to - anchor k j) (omega arith))) f r.wrote r.long r.runs r.same

patch-last : (f : ℕ → ℕ) (ws rest : List ℕ) (j : ℕ) → j ≡ 0 → Chain ws j rest → patched ws f rest ≡ ws
unfolding Chain patched
patch-last f ws [] j z c = refl
patch-last f ws (i ∷ rest) j z c = absurd (omega (arith, c.0, c.1))

pub patch-end : (old : List ℕ) (n to k : ℕ) (out : List ℕ) (j : ℕ) → j ≡ 0 → PatchGo old n to k out j → PatchDone old out n to k
unfolding PatchDone
patch-end old n to k out j z g base ws ps e f t c =
    let r = g base ws ps e f t c in
    r.wrote ∙ ap (λ (v : List ℕ). puts base 0 v) (sym (patch-last (λ i. to - anchor k i) r.now r.rest j z r.runs) ∙ r.same)
