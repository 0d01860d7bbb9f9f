-- How words grow, one part behind another, and how a target becomes known. Assumes nothing.
use Prim.Native.Nat.{ℕ, ◌+◌, ◌-◌, ◌<◌, ◌≤◌}
use mathlib.Core.Path.{◌≡◌, refl, sym, ap, ◌∙◌, subst}
use mathlib.Core.Bool.{Bool, true, false, cond}
use mathlib.Core.Logic.{◌⊎◌, inl, inr}
use mathlib.Core.List.{List, [], ◌∷◌, ◌++◌, append_assoc, append-nil}
use native.Mathlib.Omega.{arith}
use lib.ListN.{length, get_or, length-append, get_or-append}
use lib.Seq.{get_or-append-add}
use lib.Dec.{eqb}
use Rattle.chains.specs.Marks.{Target, outside, end, head, table, rule, Mark, known, waiting, waits, number, knowns, filled}
use Rattle.chains.specs.Chain.{Chain, places, patched, At, at_here, at_there, newest, Waiting, Fixed, fixed_known, fixed_call, Grown, placed}
use Rattle.chains.proofs.Lists.{waits-eq, waits-ne, ne-waits, at_in, at_split, Behind, places-append, chain_same, same-before, same-append, same-places, length-patched, patched-low, patched-at, patched-kept, length-filled, FilledAt, as-was, now-known, at-filled, places-filled, places-filled-other, length-knowns, places-knowns, at-knowns}

fixed_on : {slots more : List ℕ} {m : Mark} {w : ℕ} → ((r : ℕ) → placed ≤ get_or slots r 0 → get_or more r 0 ≡ get_or slots r 0) → Fixed slots m w → Fixed more m w
fixed_on f fixed_known = fixed_known
fixed_on f (fixed_call {r = r} e h) = fixed_call (f r (omega (arith, e)) ∙ e) h

waiting-on : (slots more : List ℕ) (t : Target) → ((r : ℕ) → get_or slots r 0 < placed → get_or more r 0 < placed) → length more ≡ length slots → Waiting slots t → Waiting more t
unfolding Waiting
waiting-on slots more outside f n w = w
waiting-on slots more end f n w = w
waiting-on slots more head f n w = w
waiting-on slots more table f n w = w
waiting-on slots more (rule r) f n w = (omega (arith, w.0), f r w.1)

known_is : {slots : List ℕ} {v w : ℕ} → Fixed slots (known v) w → v ≡ w
known_is fixed_known = refl

pub grown-none : (ws : List ℕ) (x : ℕ) (slots : List ℕ) → Grown [] ws ws x x slots slots
unfolding places
grown-none ws x slots = record { long = omega arith; before = λ i h. refl; words = λ i m w a f. absurd (let h = at_in a in omega arith); chains = λ t ps w c. c; kept = λ r h. refl; still = λ r h. h; many = refl }

-- one part behind another
module _ {ms ns : List Mark} {ws vs us : List ℕ} {x y z : ℕ} {slots more last : List ℕ} where
  words-join : Grown ms ws vs x y slots more → Grown ns vs us y z more last → {i : ℕ} {m : Mark} {w : ℕ} → (At ms i m) ⊎ Behind ms ns i m → Fixed slots m w → get_or us (length ws + i) 0 ≡ w
  words-join g h {i} {m} {w} (inl a) f = let l = at_in a in h.before (length ws + i) (omega (arith, g.long)) ∙ g.words i m w a f
  words-join g h {i} {m} {w} (inr b) f =
      let e : length ws + i ≡ length vs + b.j = omega (arith, g.long, b.sum) in
      ap (λ (k : ℕ). get_or us k 0) e ∙ h.words b.j m w b.there (fixed_on g.kept f)

  pub grown-join : Grown ms ws vs x y slots more → Grown ns vs us y z more last → Grown (ms ++ ns) ws us x z slots last
  grown-join g h = record {
    long = omega (arith, g.long, h.long, length-append ms ns);
    before = λ i l. h.before i (omega (arith, g.long)) ∙ g.before i l;
    words = λ i m w a f. words-join g h (at_split ms ns a) f;
    chains = λ t ps w c. (let p = h.chains t (places t (length ws) ms ++ ps) (waiting-on slots more t g.still g.many w) (g.chains t ps w c) in
        subst (λ (s : List ℕ). Chain us (newest z last t) s) (sym (append_assoc (places t (length vs) ns) (places t (length ws) ms) ps) ∙ ap (λ (s : List ℕ). s ++ ps) (ap (λ (k : ℕ). places t k ns ++ places t (length ws) ms) g.long ∙ sym (places-append t (length ws) ms ns))) p);
    kept = λ r k. h.kept r (omega (arith, g.kept r k)) ∙ g.kept r k;
    still = λ r k. h.still r (g.still r k);
    many = h.many ∙ g.many;
  }

-- known words behind
before-append : (ws vs : List ℕ) (i : ℕ) → i < length ws → get_or (ws ++ vs) i 0 ≡ get_or ws i 0
before-append ws vs i h = get_or-append ws vs 0 i h

known-word : {slots : List ℕ} {m : Mark} {v w : ℕ} → m ≡ known v → Fixed slots m w → v ≡ w
known-word {slots} {w = w} e f = known_is (subst (λ (k : Mark). Fixed slots k w) e f)

pub chain-append : (ws vs : List ℕ) (n : ℕ) (ps : List ℕ) → Chain ws n ps → Chain (ws ++ vs) n ps
chain-append ws vs n ps c = chain_same ws (ws ++ vs) n ps (omega (arith, length-append ws vs)) c (same-before ws ws (ws ++ vs) n ps c (before-append ws vs))

pub grown-known : (ws vs : List ℕ) (x : ℕ) (slots : List ℕ) → Grown (knowns vs) ws (ws ++ vs) x x slots slots
grown-known ws vs x slots = record {
  long = length-append ws vs ∙ ap (λ (k : ℕ). length ws + k) (sym (length-knowns vs));
  before = before-append ws vs;
  words = λ i m w a f. get_or-append-add ws vs i 0 ∙ known-word (at-knowns vs a) f;
  chains = λ t ps w c. subst (λ (s : List ℕ). Chain (ws ++ vs) (newest x slots t) (s ++ ps)) (sym (places-knowns t (length ws) vs)) (chain-append ws vs (newest x slots t) ps c);
  kept = λ r h. refl;
  still = λ r h. h;
  many = refl;
}

-- a jump or a call that waits
two-places : (t u : Target) (l a : ℕ) → places t l (known a ∷ waiting u ∷ []) ≡ cond (waits t (waiting u)) ((l + 1) ∷ []) []
unfolding places waits
two-places t u l a = append-nil (cond (eqb (number t) (number u)) ((l + 1) ∷ []) [])

not-fixed : {u : Target} {w : ℕ} (slots : List ℕ) → Waiting slots u → Fixed slots (waiting u) w → ⊥
unfolding Waiting
not-fixed slots h (fixed_call e i) = omega (arith, h.1)

pub chain-low : (ws : List ℕ) (n : ℕ) (ps : List ℕ) → Chain ws n ps → n < length ws + 1
unfolding Chain
chain-low ws n [] c = omega arith
chain-low ws n (j ∷ ps) c = omega (arith, c.0, c.2)

two-second : (ws : List ℕ) (a n : ℕ) → get_or (ws ++ (a ∷ n ∷ [])) (length ws + 1) 0 ≡ n
two-second ws a n = get_or-append-add ws (a ∷ n ∷ []) 1 0

two-words : {slots : List ℕ} {u : Target} {a n i w : ℕ} {m : Mark} (ws : List ℕ) → ((v : ℕ) → Fixed slots (waiting u) v → n ≡ v) → At (known a ∷ waiting u ∷ []) i m → Fixed slots m w → get_or (ws ++ (a ∷ n ∷ [])) (length ws + i) 0 ≡ w
two-words {a = a} {n = n} ws f at_here x = get_or-append-add ws (a ∷ n ∷ []) 0 0 ∙ known_is x
two-words {a = a} {n = n} {i = i} {w = w} ws f (at_there e at_here) x = let z : i ≡ 1 = omega arith in ap (λ (k : ℕ). get_or (ws ++ (a ∷ n ∷ [])) (length ws + k) 0) z ∙ (two-second ws a n ∙ f w x)
two-words {slots = slots} {u = u} {a = a} {n = n} {i = i} {w = w} {m = m} ws f (at_there e (at_there _ x28)) x = elim x28 [ ]

target-of : {t u : Target} → waiting t ≡ waiting u → u ≡ t
target-of h = cc

module _ (ws : List ℕ) (a v x x' : ℕ) (slots more : List ℕ) (u : Target) (w : Waiting slots u) (link : (ps : List ℕ) → Chain ws (newest x slots u) ps → v ≡ newest x slots u) (top : newest x' more u ≡ length ws + 1)
    (rest : (t : Target) → (t ≡ u → ⊥) → newest x' more t ≡ newest x slots t) where
  open-chain : (t : Target) (ps : List ℕ) (b : Bool) → waits t (waiting u) ≡ b → Chain ws (newest x slots t) ps → Chain (ws ++ (a ∷ v ∷ [])) (newest x' more t) (cond b ((length ws + 1) ∷ []) [] ++ ps)
  unfolding Chain
  open-chain t ps true e c =
      let q : t ≡ u = target-of (waits-eq t (waiting u) e) in
      let n = newest x slots u in
      let C : Chain ws n ps = subst (λ (k : Target). Chain ws (newest x slots k) ps) q c in
      let s : get_or (ws ++ (a ∷ v ∷ [])) (length ws + 1) 0 ≡ n = two-second ws a v ∙ link ps C in
      (ap (λ (k : Target). newest x' more k) q ∙ top, omega arith, omega (arith, length-append ws (a ∷ v ∷ [])), omega (arith, s, chain-low ws n ps C), subst (λ (k : ℕ). Chain (ws ++ (a ∷ v ∷ [])) k ps) (sym s) (chain-append ws (a ∷ v ∷ []) n ps C))
  open-chain t ps false e c =
      subst (λ (k : ℕ). Chain (ws ++ (a ∷ v ∷ [])) k ps) (sym (rest t (ne-waits t u e))) (chain-append ws (a ∷ v ∷ []) (newest x slots t) ps c)

  pub grown-open : ((r : ℕ) → placed ≤ get_or slots r 0 → get_or more r 0 ≡ get_or slots r 0) → ((r : ℕ) → get_or slots r 0 < placed → get_or more r 0 < placed) → length more ≡ length slots
      → Grown (known a ∷ waiting u ∷ []) ws (ws ++ (a ∷ v ∷ [])) x x' slots more
  grown-open k s m = record {
    long = length-append ws (a ∷ v ∷ []);
    before = before-append ws (a ∷ v ∷ []);
    words = λ i m v h f. two-words ws (λ v g. absurd (not-fixed slots w g)) h f;
    chains = λ t ps y c. subst (λ (q : List ℕ). Chain (ws ++ (a ∷ v ∷ [])) (newest x' more t) (q ++ ps)) (sym (two-places t u (length ws) a)) (open-chain t ps (waits t (waiting u)) refl c);
    kept = k;
    still = s;
    many = m;
  }

-- a word that waits for what no chain of another part runs through
loose-not : {slots : List ℕ} {v : ℕ} {u : Target} → number u < 4 → Fixed slots (waiting u) v → ⊥
unfolding number
loose-not h (fixed_call e i) = omega arith

loose-word : {i v : ℕ} {m : Mark} {slots : List ℕ} {u : Target} → number u < 4 → At (waiting u ∷ []) i m → Fixed slots m v → ⊥
loose-word h at_here x = loose-not h x
loose-word {i = i} {v = v} {m = m} {slots = slots} {u = u} h (at_there _ x17) x = elim x17 [ ]

loose-ne : (slots : List ℕ) (t u : Target) → 0 < number u → number u < 4 → Waiting slots t → t ≡ u → ⊥
unfolding Waiting number
loose-ne slots outside u h k w e = let z : number outside ≡ number u = ap number e in omega arith
loose-ne slots end u h k w e = w
loose-ne slots head u h k w e = w
loose-ne slots table u h k w e = w
loose-ne slots (rule r) u h k w e = let z : number (rule r) ≡ number u = ap number e in omega arith

pub grown-loose : (ws : List ℕ) (u : Target) (b x : ℕ) (slots : List ℕ) → 0 < number u → number u < 4 → Grown (waiting u ∷ []) ws (ws ++ (b ∷ [])) x x slots slots
unfolding places
grown-loose ws u b x slots h k = record {
  long = length-append ws (b ∷ []);
  before = before-append ws (b ∷ []);
  words = λ i m v a f. absurd (loose-word k a f);
  chains = λ t ps y c. subst (λ (q : Bool). Chain (ws ++ (b ∷ [])) (newest x slots t) (cond q (length ws ∷ []) [] ++ ps)) (sym (waits-ne t u (loose-ne slots t u h k y))) (chain-append ws (b ∷ []) (newest x slots t) ps c);
  kept = λ r h. refl;
  still = λ r h. h;
  many = refl;
}

-- a call whose rule is placed
waiting-ne : (slots : List ℕ) (t : Target) (r : ℕ) → Waiting slots t → placed ≤ get_or slots r 0 → t ≡ rule r → ⊥
unfolding Waiting
waiting-ne slots t r h e q = let g = subst (λ (k : Target). Waiting slots k) q h in omega (arith, g.1)

pub grown-placed : (ws : List ℕ) (a v x : ℕ) (slots : List ℕ) (r : ℕ) → placed ≤ get_or slots r 0 → ((w : ℕ) → Fixed slots (waiting (rule r)) w → v ≡ w) → Grown (known a ∷ waiting (rule r) ∷ []) ws (ws ++ (a ∷ v ∷ [])) x x slots slots
grown-placed ws a v x slots r e g = record {
  long = length-append ws (a ∷ v ∷ []);
  before = before-append ws (a ∷ v ∷ []);
  words = λ i m w h f. two-words ws g h f;
  chains = λ t ps y c. subst (λ (q : List ℕ). Chain (ws ++ (a ∷ v ∷ [])) (newest x slots t) (q ++ ps)) (sym (two-places t (rule r) (length ws) a ∙ ap (λ (b : Bool). cond b ((length ws + 1) ∷ []) []) (waits-ne t (rule r) (waiting-ne slots t r y e)))) (chain-append ws (a ∷ v ∷ []) (newest x slots t) ps c);
  kept = λ r h. refl;
  still = λ r h. h;
  many = refl;
}

-- a target becomes known
module _ {ms : List Mark} {ws vs : List ℕ} {x y : ℕ} {slots more : List ℕ} (g : Grown ms ws vs x y slots more) (t : Target) (f h : ℕ → ℕ) (fits : (i : ℕ) → At ms i (waiting t) → f (length ws + i) ≡ h (length ms - (i + 1))) where
  filled-words : {i : ℕ} {m : Mark} {w : ℕ} → FilledAt t h ms i m → Fixed slots m w → get_or (patched vs f (places t (length ws) ms)) (length ws + i) 0 ≡ w
  filled-words {i} {m} {w} (as-was a e) k = patched-kept f t vs (length ws) a e ∙ g.words i m w a k
  filled-words {i} {m} {w} (now-known a e) k = patched-at f t vs (length ws) a (omega (arith, g.long)) ∙ (fits i a ∙ known-word e k)

  kept-chain : (u : Target) (ps : List ℕ) → (u ≡ t → ⊥) → Waiting slots u → Chain ws (newest x slots u) ps → Chain (patched vs f (places t (length ws) ms)) (newest y more u) (places u (length ws) (filled t h ms) ++ ps)
  kept-chain u ps n w c =
      let vs' = patched vs f (places t (length ws) ms) in
      let S = same-append vs vs' (places u (length ws) ms) ps (same-places vs vs' u (length ws) ms (λ i a. patched-kept f t vs (length ws) a (waits-ne t u (λ q. n (sym q))))) (same-before ws vs vs' (newest x slots u) ps c (λ i l. patched-low f t vs (length ws) ms i l)) in
      subst (λ (s : List ℕ). Chain vs' (newest y more u) (s ++ ps)) (sym (places-filled-other t u h (length ws) ms n))
      (chain_same vs vs' (newest y more u) (places u (length ws) ms ++ ps) (omega (arith, length-patched vs f (places t (length ws) ms))) (g.chains u ps w c) S)

  -- an end, a head: the other chains go on
  pub grown-fill : (Waiting slots t → ⊥) → Grown (filled t h ms) ws (patched vs f (places t (length ws) ms)) x y slots more
  grown-fill n = record {
    long = length-patched vs f (places t (length ws) ms) ∙ (g.long ∙ ap (λ (k : ℕ). length ws + k) (sym (length-filled t h ms)));
    before = λ i l. patched-low f t vs (length ws) ms i l ∙ g.before i l;
    words = λ i m w a k. filled-words (at-filled t h ms a) k;
    chains = λ u ps w c. kept-chain u ps (λ e. n (subst (λ (k : Target). Waiting slots k) e w)) w c;
    kept = g.kept;
    still = g.still;
    many = g.many;
  }

apart : (r : ℕ) → number (rule r) ≡ number outside → ⊥
unfolding number
apart r e = omega arith

-- the end of a cycle: its exits are closed, the outer ones go on
module _ {ms : List Mark} {ws vs : List ℕ} {y : ℕ} {slots more : List ℕ} (g : Grown ms ws vs 0 y slots more) (z : ℕ) (f h : ℕ → ℕ) (fits : (i : ℕ) → At ms i (waiting outside) → f (length ws + i) ≡ h (length ms - (i + 1))) where
  close-chain : (u : Target) (ps : List ℕ) → Waiting slots u → Chain ws (newest z slots u) ps → Chain (patched vs f (places outside (length ws) ms)) (newest z more u) (places u (length ws) (filled outside h ms) ++ ps)
  unfolding newest Waiting
  close-chain outside ps w c =
      let vs' = patched vs f (places outside (length ws) ms) in
      subst (λ (s : List ℕ). Chain vs' z (s ++ ps)) (sym (places-filled outside h (length ws) ms))
      (chain_same ws vs' z ps (omega (arith, length-patched vs f (places outside (length ws) ms), g.long)) c (same-before ws ws vs' z ps c (λ i l. patched-low f outside vs (length ws) ms i l ∙ g.before i l)))
  close-chain end ps w c = absurd w
  close-chain head ps w c = absurd w
  close-chain table ps w c = absurd w
  close-chain (rule r) ps w c = kept-chain g outside f h fits (rule r) ps (λ e. (let n : number (rule r) ≡ number outside = ap number e in apart r n)) w c

  pub grown-close : Grown (filled outside h ms) ws (patched vs f (places outside (length ws) ms)) z z slots more
  grown-close = record {
    long = length-patched vs f (places outside (length ws) ms) ∙ (g.long ∙ ap (λ (k : ℕ). length ws + k) (sym (length-filled outside h ms)));
    before = λ i l. patched-low f outside vs (length ws) ms i l ∙ g.before i l;
    words = λ i m w a k. filled-words g outside f h fits (at-filled outside h ms a) k;
    chains = close-chain;
    kept = g.kept;
    still = g.still;
    many = g.many;
  }

-- a chain of one part alone
pub chain-fill : (vs : List ℕ) (n : ℕ) (t u : Target) (f : ℕ → ℕ) (l : ℕ) (ms : List Mark) → (u ≡ t → ⊥) → Chain vs n (places u l ms) → Chain (patched vs f (places t l ms)) n (places u l ms)
chain-fill vs n t u f l ms h c =
    let vs' = patched vs f (places t l ms) in
    chain_same vs vs' n (places u l ms) (omega (arith, length-patched vs f (places t l ms))) c (same-places vs vs' u l ms (λ i a. patched-kept f t vs l a (waits-ne t u (λ q. h (sym q)))))

pub chain-grown : {ms : List Mark} {ws vs : List ℕ} {x y : ℕ} {slots more : List ℕ} (n : ℕ) (ps : List ℕ) → Grown ms ws vs x y slots more → Chain ws n ps → Chain vs n ps
chain-grown {ws = ws} {vs = vs} n ps g c = chain_same ws vs n ps (omega (arith, g.long)) c (same-before ws ws vs n ps c g.before)
