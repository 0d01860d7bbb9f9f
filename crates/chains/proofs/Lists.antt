-- Places, chains and patching. Assumes nothing.
use Prim.Native.Nat.{ℕ, zero, suc, ◌+◌, ◌-◌, ◌<◌, ◌≤◌}
use mathlib.Core.Path.{◌≡◌, refl, sym, ap, ◌∙◌, subst}
use mathlib.Core.Bool.{Bool, true, false, cond}
use mathlib.Core.Logic.{◌⊎◌, inl, inr}
use mathlib.Core.List.{List, [], ◌∷◌, ◌++◌, append_assoc, append-nil}
use native.Mathlib.Omega.{arith}
use lib.ListN.{length, get_or, set, length-set}
use lib.Seq.{get_or-set_same, get_or-set_other}
use borrow.Author.Tests.{eqb-true, eq-eqb}
use Rattle.base.proofs.Laws.{is_false}
use Rattle.chains.specs.Marks.{Target, outside, end, head, table, rule, Mark, known, waiting, waits, number, knowns, filled, shut}
use Rattle.chains.specs.Chain.{Chain, places, patched, At, at_here, at_there}

add-one' : (i : ℕ) → suc i ≡ i + 1
add-one' i = omega arith

pub untrue : false ≡ true → ⊥
untrue h = let z : ◌≡◌ {A = ℕ} 0 1 = cc in omega arith

number-eq : (t u : Target) → number t ≡ number u → t ≡ u
unfolding number
number-eq outside outside h = refl
number-eq outside end h = absurd (omega arith)
number-eq outside head h = absurd (omega arith)
number-eq outside table h = absurd (omega arith)
number-eq outside (rule s) h = absurd (omega arith)
number-eq end outside h = absurd (omega arith)
number-eq end end h = refl
number-eq end head h = absurd (omega arith)
number-eq end table h = absurd (omega arith)
number-eq end (rule s) h = absurd (omega arith)
number-eq head outside h = absurd (omega arith)
number-eq head end h = absurd (omega arith)
number-eq head head h = refl
number-eq head table h = absurd (omega arith)
number-eq head (rule s) h = absurd (omega arith)
number-eq table outside h = absurd (omega arith)
number-eq table end h = absurd (omega arith)
number-eq table head h = absurd (omega arith)
number-eq table table h = refl
number-eq table (rule s) h = absurd (omega arith)
number-eq (rule r) outside h = absurd (omega arith)
number-eq (rule r) end h = absurd (omega arith)
number-eq (rule r) head h = absurd (omega arith)
number-eq (rule r) table h = absurd (omega arith)
number-eq (rule r) (rule s) h = let z : r ≡ s = omega arith in ap rule z

-- what a word waits for, as a fact
pub waits-eq : (t : Target) (m : Mark) → waits t m ≡ true → m ≡ waiting t
unfolding waits
waits-eq t (known w) h = absurd (untrue h)
waits-eq t (waiting u) h = ap waiting (sym (number-eq t u (eqb-true (number t) (number u) h)))

pub waits-self : (t : Target) → waits t (waiting t) ≡ true
unfolding waits
waits-self t = eq-eqb (number t) (number t) refl

pub waits-ne : (t u : Target) → (t ≡ u → ⊥) → waits t (waiting u) ≡ false
waits-ne t u h = is_false (waits t (waiting u)) (λ e. h (let q = waits-eq t (waiting u) e in cc))

pub ne-waits : (t u : Target) → waits t (waiting u) ≡ false → t ≡ u → ⊥
ne-waits t u h e = let s : waits t (waiting u) ≡ true = ap (λ (v : Target). waits t (waiting v)) (sym e) ∙ waits-self t in untrue (sym h ∙ s)

-- marks by their places
pub at_in : {ms : List Mark} {i : ℕ} {m : Mark} → At ms i m → i < length ms
at_in at_here = omega arith
at_in (at_there e a) = let h = at_in a in omega arith

pub at_same : {ms : List Mark} {i : ℕ} {m n : Mark} → At ms i m → At ms i n → m ≡ n
at_same at_here at_here = refl
at_same at_here (at_there e b) = absurd (omega arith)
at_same (at_there e a) at_here = absurd (omega arith)
at_same {ms = x ∷ ms} {n = n} (at_there {i = i} e a) (at_there {i = j} f b) = let z : j ≡ i = omega arith in at_same a (subst (λ (k : ℕ). At ms k n) z b)

pub at_left : {xs : List Mark} {i : ℕ} {m : Mark} (ys : List Mark) → At xs i m → At (xs ++ ys) i m
at_left ys at_here = at_here
at_left ys (at_there e a) = at_there e (at_left ys a)

pub at_right : (xs : List Mark) {ys : List Mark} {i : ℕ} {m : Mark} → At ys i m → At (xs ++ ys) (length xs + i) m
at_right [] {ys} {i} {m} a = subst (λ (k : ℕ). At ys k m) (omega arith) a
at_right (x ∷ xs) {i = i} a = at_there {i = length xs + i} {j = length (x ∷ xs) + i} (omega arith) (at_right xs a)

pub record Behind (xs ys : List Mark) (i : ℕ) (m : Mark) : Type 0 where
  pub j : ℕ
  pub sum : i ≡ length xs + j
  pub there : At ys j m

behind_more : {x : Mark} {xs ys : List Mark} {i k : ℕ} {m : Mark} → k ≡ i + 1 → (At xs i m) ⊎ Behind xs ys i m → (At (x ∷ xs) k m) ⊎ Behind (x ∷ xs) ys k m
behind_more e (inl a) = inl (at_there e a)
behind_more e (inr b) = inr (record { j = b.j; sum = omega (arith, b.sum); there = b.there })

pub at_split : (xs ys : List Mark) {i : ℕ} {m : Mark} → At (xs ++ ys) i m → (At xs i m) ⊎ Behind xs ys i m
at_split [] ys {i} a = inr (record { j = i; sum = omega arith; there = a })
at_split (x ∷ xs) ys at_here = inl at_here
at_split (x ∷ xs) ys (at_there e a) = behind_more e (at_split xs ys a)

-- places of one row behind another
pub places-append : (t : Target) (l : ℕ) (xs ys : List Mark) → places t l (xs ++ ys) ≡ places t (l + length xs) ys ++ places t l xs
unfolding places
places-append t l [] ys = let z : l ≡ l + 0 = omega arith in ap (λ (k : ℕ). places t k ys) z ∙ sym (append-nil (places t (l + 0) ys))
places-append t l (x ∷ xs) ys =
    let z : l + 1 + length xs ≡ l + length (x ∷ xs) = omega arith in
    ap (λ (s : List ℕ). s ++ cond (waits t x) (l ∷ []) []) (places-append t (l + 1) xs ys ∙ ap (λ (k : ℕ). places t k ys ++ places t (l + 1) xs) z)
    ∙ append_assoc (places t (l + length (x ∷ xs)) ys) (places t (l + 1) xs) (cond (waits t x) (l ∷ []) [])

cond-none : (l : ℕ) (b : Bool) → (b ≡ true → ⊥) → cond b (l ∷ []) [] ≡ []
cond-none l true h = absurd (h refl)
cond-none l false h = refl

-- no word waits for it
pub places-none : (t : Target) (l : ℕ) (ms : List Mark) → ((i : ℕ) → At ms i (waiting t) → ⊥) → places t l ms ≡ []
unfolding places
places-none t l [] f = refl
places-none t l (m ∷ ms) f =
    ap (λ (s : List ℕ). s ++ cond (waits t m) (l ∷ []) []) (places-none t (l + 1) ms (λ i a. f (i + 1) (at_there refl a)))
    ∙ cond-none l (waits t m) (λ h. f 0 (subst (λ (k : Mark). At (m ∷ ms) 0 k) (waits-eq t m h) at_here))

-- so nothing is filled in
cond-kept : (g : ℕ) (m : Mark) (b : Bool) → (b ≡ true → ⊥) → cond b (known g) m ≡ m
cond-kept g m true h = absurd (h refl)
cond-kept g m false h = refl

pub filled_none : (t : Target) (g : ℕ → ℕ) (ms : List Mark) → ((i : ℕ) → At ms i (waiting t) → ⊥) → filled t g ms ≡ ms
unfolding filled
filled_none t g [] f = refl
filled_none t g (m ∷ ms) f =
    ap (λ (s : List Mark). cond (waits t m) (known (g (length ms))) m ∷ s) (filled_none t g ms (λ i a. f (i + 1) (at_there refl a)))
    ∙ ap (λ (k : Mark). k ∷ ms) (cond-kept (g (length ms)) m (waits t m) (λ h. f 0 (subst (λ (k : Mark). At (m ∷ ms) 0 k) (waits-eq t m h) at_here)))

pub shut-append : (xs ys : List Mark) → shut (xs ++ ys) ≡ shut xs ++ shut ys
unfolding filled
shut-append [] ys = refl
shut-append (x ∷ xs) ys = ap (λ (s : List Mark). cond (waits head x) (known 1) x ∷ s) (shut-append xs ys)

pub shut-knowns : (ws : List ℕ) → shut (knowns ws) ≡ knowns ws
unfolding filled knowns waits
shut-knowns [] = refl
shut-knowns (w ∷ ws) = ap (λ (s : List Mark). known w ∷ s) (shut-knowns ws)

pub record Marked (ms : List Mark) (i : ℕ) : Type 0 where
  pub mark : Mark
  pub there : At ms i mark

pub at_some : (ms : List Mark) (i : ℕ) → i < length ms → Marked ms i
at_some [] i h = absurd (omega arith)
at_some (m ∷ ms) zero h = record { mark = m; there = at_here }
at_some (m ∷ ms) (suc i) h = let r = at_some ms i (omega arith) in record { mark = r.mark; there = at_there (add-one' i) r.there }

-- words that are as they were
unfoldable pub Same : List ℕ → List ℕ → List ℕ → Type 0
Same ws vs [] = Unit {0}
Same ws vs (j ∷ ps) = (get_or vs j 0 ≡ get_or ws j 0) × Same ws vs ps

pub chain_same : (ws vs : List ℕ) (n : ℕ) (ps : List ℕ) → length ws ≤ length vs → Chain ws n ps → Same ws vs ps → Chain vs n ps
unfolding Chain Same
chain_same ws vs n [] l c s = c
chain_same ws vs n (j ∷ ps) l c s =
    (c.0, c.1, omega (arith, c.2), omega (arith, c.3, s.0), subst (λ (k : ℕ). Chain vs k ps) (sym s.0) (chain_same ws vs (get_or ws j 0) ps l c.4 s.1))

-- a word past the newest
pub chain-set : (ws : List ℕ) (n i a : ℕ) (ps : List ℕ) → n < i → Chain ws n ps → Chain (set ws i a) n ps
unfolding Chain
chain-set ws n i a [] h c = c
chain-set ws n i a (j ∷ ps) h c =
    let e : get_or (set ws i a) j 0 ≡ get_or ws j 0 = get_or-set_other ws i j a 0 (λ z. omega (arith, c.0)) in
    (c.0, c.1, omega (arith, c.2, length-set ws i a), omega (arith, c.3, e), subst (λ (k : ℕ). Chain (set ws i a) k ps) (sym e) (chain-set ws (get_or ws j 0) i a ps (omega (arith, c.0, c.3)) c.4))

pub same-before : (ws us vs : List ℕ) (n : ℕ) (ps : List ℕ) → Chain ws n ps → ((i : ℕ) → i < length ws → get_or vs i 0 ≡ get_or us i 0) → Same us vs ps
unfolding Chain Same
same-before ws us vs n [] c f = tt
same-before ws us vs n (j ∷ ps) c f = (f j c.2, same-before ws us vs (get_or ws j 0) ps c.4 f)

pub same-append : (ws vs ps qs : List ℕ) → Same ws vs ps → Same ws vs qs → Same ws vs (ps ++ qs)
unfolding Same
same-append ws vs [] qs a b = b
same-append ws vs (j ∷ ps) qs a b = (a.0, same-append ws vs ps qs a.1 b)

same-last : (ws vs : List ℕ) (l : ℕ) (b : Bool) → (b ≡ true → get_or vs l 0 ≡ get_or ws l 0) → Same ws vs (cond b (l ∷ []) [])
unfolding Same
same-last ws vs l true f = (f refl, tt)
same-last ws vs l false f = tt

pub same-places : (ws vs : List ℕ) (t : Target) (l : ℕ) (ms : List Mark) → ((i : ℕ) → At ms i (waiting t) → get_or vs (l + i) 0 ≡ get_or ws (l + i) 0) → Same ws vs (places t l ms)
unfolding places Same
same-places ws vs t l [] f = tt
same-places ws vs t l (m ∷ ms) f =
    same-append ws vs (places t (l + 1) ms) (cond (waits t m) (l ∷ []) [])
    (same-places ws vs t (l + 1) ms (λ i a. (let z : l + (i + 1) ≡ l + 1 + i = omega arith in subst (λ (k : ℕ). get_or vs k 0 ≡ get_or ws k 0) z (f (i + 1) (at_there refl a)))))
    (same-last ws vs l (waits t m) (λ h. (let z : l + 0 ≡ l = omega arith in subst (λ (k : ℕ). get_or vs k 0 ≡ get_or ws k 0) z (f 0 (subst (λ (k : Mark). At (m ∷ ms) 0 k) (waits-eq t m h) at_here)))))

-- patching
pub length-patched : (ws : List ℕ) (f : ℕ → ℕ) (ps : List ℕ) → length (patched ws f ps) ≡ length ws
unfolding patched
length-patched ws f [] = refl
length-patched ws f (j ∷ ps) = length-patched (set ws j (f j)) f ps ∙ length-set ws j (f j)

pub patched-append : (ws : List ℕ) (f : ℕ → ℕ) (ps qs : List ℕ) → patched ws f (ps ++ qs) ≡ patched (patched ws f ps) f qs
unfolding patched
patched-append ws f [] qs = refl
patched-append ws f (j ∷ ps) qs = patched-append (set ws j (f j)) f ps qs

last-other : (ws : List ℕ) (f : ℕ → ℕ) (l j : ℕ) (b : Bool) → (j ≡ l → ⊥) → get_or (patched ws f (cond b (l ∷ []) [])) j 0 ≡ get_or ws j 0
unfolding patched
last-other ws f l j true h = get_or-set_other ws l j (f l) 0 h
last-other ws f l j false h = refl

last-here : (ws : List ℕ) (f : ℕ → ℕ) (l : ℕ) (b : Bool) → l < length ws → b ≡ true → get_or (patched ws f (cond b (l ∷ []) [])) l 0 ≡ f l
unfolding patched
last-here ws f l true h e = get_or-set_same ws l (f l) 0 h
last-here ws f l false h e = absurd (untrue e)

last-kept : (ws : List ℕ) (f : ℕ → ℕ) (l : ℕ) (b : Bool) → b ≡ false → get_or (patched ws f (cond b (l ∷ []) [])) l 0 ≡ get_or ws l 0
unfolding patched
last-kept ws f l true e = absurd (untrue (sym e))
last-kept ws f l false e = refl

module _ (f : ℕ → ℕ) (t : Target) where
  pub patched-low : (ws : List ℕ) (l : ℕ) (ms : List Mark) (j : ℕ) → j < l → get_or (patched ws f (places t l ms)) j 0 ≡ get_or ws j 0
  unfolding places patched
  patched-low ws l [] j h = refl
  patched-low ws l (m ∷ ms) j h =
      ap (λ (s : List ℕ). get_or s j 0) (patched-append ws f (places t (l + 1) ms) (cond (waits t m) (l ∷ []) []))
      ∙ (last-other (patched ws f (places t (l + 1) ms)) f l j (waits t m) (λ e. omega arith) ∙ patched-low ws (l + 1) ms j (omega arith))

  pub patched-at : (ws : List ℕ) (l : ℕ) {ms : List Mark} {i : ℕ} → At ms i (waiting t) → l + length ms ≤ length ws → get_or (patched ws f (places t l ms)) (l + i) 0 ≡ f (l + i)
  unfolding places
  patched-at ws l {ms = m ∷ ms} at_here h =
      let z : l + 0 ≡ l = omega arith in
      let W = patched ws f (places t (l + 1) ms) in
      subst (λ (k : ℕ). get_or (patched ws f (places t (l + 1) ms ++ cond (waits t m) (l ∷ []) [])) k 0 ≡ f k) (sym z)
      (ap (λ (s : List ℕ). get_or s l 0) (patched-append ws f (places t (l + 1) ms) (cond (waits t m) (l ∷ []) [])) ∙ last-here W f l (waits t m) (omega (arith, length-patched ws f (places t (l + 1) ms))) (waits-self t))
  patched-at ws l {ms = m ∷ ms} {i = j} (at_there {i = i} e a) h =
      let z : l + 1 + i ≡ l + j = omega arith in
      let W = patched ws f (places t (l + 1) ms) in
      subst (λ (k : ℕ). get_or (patched ws f (places t (l + 1) ms ++ cond (waits t m) (l ∷ []) [])) k 0 ≡ f k) z
      (ap (λ (s : List ℕ). get_or s (l + 1 + i) 0) (patched-append ws f (places t (l + 1) ms) (cond (waits t m) (l ∷ []) [])) ∙ (last-other W f l (l + 1 + i) (waits t m) (λ y. omega arith) ∙ patched-at ws (l + 1) a (omega arith)))
  patched-at ws l {ms = []} x8 h = elim x8 [ ]

  pub patched-kept : (ws : List ℕ) (l : ℕ) {ms : List Mark} {i : ℕ} {n : Mark} → At ms i n → waits t n ≡ false → get_or (patched ws f (places t l ms)) (l + i) 0 ≡ get_or ws (l + i) 0
  unfolding places
  patched-kept ws l {ms = m ∷ ms} at_here h =
      let z : l + 0 ≡ l = omega arith in
      let W = patched ws f (places t (l + 1) ms) in
      subst (λ (k : ℕ). get_or (patched ws f (places t (l + 1) ms ++ cond (waits t m) (l ∷ []) [])) k 0 ≡ get_or ws k 0) (sym z)
      (ap (λ (s : List ℕ). get_or s l 0) (patched-append ws f (places t (l + 1) ms) (cond (waits t m) (l ∷ []) [])) ∙ (last-kept W f l (waits t m) h ∙ patched-low ws (l + 1) ms l (omega arith)))
  patched-kept ws l {ms = m ∷ ms} {i = j} (at_there {i = i} e a) h =
      let z : l + 1 + i ≡ l + j = omega arith in
      let W = patched ws f (places t (l + 1) ms) in
      subst (λ (k : ℕ). get_or (patched ws f (places t (l + 1) ms ++ cond (waits t m) (l ∷ []) [])) k 0 ≡ get_or ws k 0) z
      (ap (λ (s : List ℕ). get_or s (l + 1 + i) 0) (patched-append ws f (places t (l + 1) ms) (cond (waits t m) (l ∷ []) [])) ∙ (last-other W f l (l + 1 + i) (waits t m) (λ y. omega arith) ∙ patched-kept ws (l + 1) a h))
  patched-kept ws l {ms = []} x7 h = elim x7 [ ]

-- filling
pub length-filled : (t : Target) (g : ℕ → ℕ) (ms : List Mark) → length (filled t g ms) ≡ length ms
unfolding filled
length-filled t g [] = refl
length-filled t g (m ∷ ms) = omega (arith, length-filled t g ms)

pub data FilledAt (t : Target) (g : ℕ → ℕ) (ms : List Mark) (i : ℕ) (m : Mark) : Type 0 where
  as-was : At ms i m → waits t m ≡ false → FilledAt t g ms i m
  now-known : At ms i (waiting t) → m ≡ known (g (length ms - (i + 1))) → FilledAt t g ms i m

filled-here : (t : Target) (g : ℕ → ℕ) (n : Mark) (ms : List Mark) (b : Bool) → waits t n ≡ b → FilledAt t g (n ∷ ms) 0 (cond b (known (g (length ms))) n)
filled-here t g n ms true e =
    let z : length ms ≡ length (n ∷ ms) - (0 + 1) = omega arith in
    now-known (subst (λ (k : Mark). At (n ∷ ms) 0 k) (waits-eq t n e) at_here) (ap (λ (k : ℕ). known (g k)) z)
filled-here t g n ms false e = as-was at_here e

filled-there : {t : Target} {g : ℕ → ℕ} {n : Mark} {ms : List Mark} {i j : ℕ} {m : Mark} → j ≡ i + 1 → FilledAt t g ms i m → FilledAt t g (n ∷ ms) j m
filled-there e (as-was a h) = as-was (at_there e a) h
filled-there {g = g} {n = n} {ms = ms} {i = i} {j = j} e (now-known a h) = let z : length ms - (i + 1) ≡ length (n ∷ ms) - (j + 1) = omega arith in now-known (at_there e a) (h ∙ ap (λ (k : ℕ). known (g k)) z)

pub at-filled : (t : Target) (g : ℕ → ℕ) (ms : List Mark) {i : ℕ} {m : Mark} → At (filled t g ms) i m → FilledAt t g ms i m
unfolding filled
at-filled t g (n ∷ ms) at_here = filled-here t g n ms (waits t n) refl
at-filled t g (n ∷ ms) (at_there e a) = filled-there e (at-filled t g ms a)
at-filled t g [] {i = i} {m = m} x' = elim x' [ ]

cond-waits : (t : Target) (g : ℕ) (m : Mark) (b : Bool) → waits t m ≡ b → waits t (cond b (known g) m) ≡ false
unfolding waits
cond-waits t g m true e = refl
cond-waits t g m false e = e

pub places-filled : (t : Target) (g : ℕ → ℕ) (l : ℕ) (ms : List Mark) → places t l (filled t g ms) ≡ []
unfolding filled places
places-filled t g l [] = refl
places-filled t g l (m ∷ ms) =
    ap (λ (s : List ℕ). s ++ cond (waits t (cond (waits t m) (known (g (length ms))) m)) (l ∷ []) []) (places-filled t g (l + 1) ms)
    ∙ ap (λ (b : Bool). cond b (l ∷ []) []) (cond-waits t (g (length ms)) m (waits t m) refl)

pub known-waits : (u : Target) (w : ℕ) → waits u (known w) ≡ false
unfolding waits
known-waits u w = refl

other-waits : (t u : Target) (g : ℕ) (m : Mark) (b : Bool) → (u ≡ t → ⊥) → waits t m ≡ b → waits u (cond b (known g) m) ≡ waits u m
other-waits t u g m true h e = known-waits u g ∙ sym (ap (λ (k : Mark). waits u k) (waits-eq t m e) ∙ waits-ne u t h)
other-waits t u g m false h e = refl

pub places-filled-other : (t u : Target) (g : ℕ → ℕ) (l : ℕ) (ms : List Mark) → (u ≡ t → ⊥) → places u l (filled t g ms) ≡ places u l ms
unfolding filled places
places-filled-other t u g l [] h = refl
places-filled-other t u g l (m ∷ ms) h =
    ap (λ (s : List ℕ). s ++ cond (waits u (cond (waits t m) (known (g (length ms))) m)) (l ∷ []) []) (places-filled-other t u g (l + 1) ms h)
    ∙ ap (λ (b : Bool). places u (l + 1) ms ++ cond b (l ∷ []) []) (other-waits t u (g (length ms)) m (waits t m) h refl)

-- known words
pub length-knowns : (ws : List ℕ) → length (knowns ws) ≡ length ws
unfolding knowns
length-knowns [] = refl
length-knowns (w ∷ ws) = omega (arith, length-knowns ws)

pub places-knowns : (t : Target) (l : ℕ) (ws : List ℕ) → places t l (knowns ws) ≡ []
unfolding knowns places
places-knowns t l [] = refl
places-knowns t l (w ∷ ws) = ap (λ (s : List ℕ). s ++ cond (waits t (known w)) (l ∷ []) []) (places-knowns t (l + 1) ws) ∙ ap (λ (b : Bool). cond b (l ∷ []) []) (known-waits t w)

pub at-knowns : (ws : List ℕ) {i : ℕ} {m : Mark} → At (knowns ws) i m → m ≡ known (get_or ws i 0)
unfolding knowns
at-knowns (w ∷ ws) at_here = refl
at-knowns (w ∷ ws) {i = j} (at_there {i = i} e a) = at-knowns ws a ∙ ap known (let z : j ≡ suc i = omega arith in sym (ap (λ (k : ℕ). get_or (w ∷ ws) k 0) z))
at-knowns [] {i = j} {m = m} x' = elim x' [ ]
