-- A text that is cut where one of its words begins, with a line feed and other bytes behind the cut: the words before the cut stay as they are, and behind them
-- stand the words of those bytes.
use mathlib.Core.Bool.{Bool, true, false, ◌&&◌, false≢true}
use mathlib.Core.List.{List, [], ◌∷◌, ◌++◌}
use mathlib.Core.Path.{◌≡◌, refl, sym, ap, ◌∙◌}
use Prim.Native.Nat.{ℕ, zero, suc, ◌+◌, ◌-◌, ◌≤◌, ◌<◌}
use native.Mathlib.Omega.{arith}
use lib.Dec.{eqb, leb}
use lib.ListN.{length, get_or, take, drop, length-append, take-append-drop, get_or-append, get_or-eq_default}
use lib.Seq.{length-take-le, take-append-le}
use borrow.Author.Tests.{eqb-true, eqb-false, leb-true, leb-false}
use Rattle.std.specs.Prelude.{if◌then◌else◌}
use Rattle.scanner.proofs.WordLaws.{from-bad, from-blank, from-comment, from-word, in_line, run-within, the_word}
use Rattle.words.specs.Words.{Word, Found, blank, digit, letter, name_byte, run, string_byte, string_here, symbol, word_here, words, words_from}

-- The word at a byte is inside the text

record Fits (s : List ℕ) (f : Found) : Type 0 where
  pub fits : f.size - 1 ≤ length s

fits-if : (t : Bool) {s : List ℕ} {x y : Found} → (t ≡ true → Fits s x) → (t ≡ false → Fits s y) → Fits s (if t then x else y)
fits-if true f g = f refl
fits-if false f g = g refl

both_true : (a b : Bool) → (a && b) ≡ true → b ≡ true
both_true true b e = e
both_true false b e = absurd (false≢true e)

-- a byte that is not 0 is inside
there : (s : List ℕ) (i b : ℕ) → 0 < b → get_or s i 0 ≡ b → i < length s
there s i b h e = go (leb (suc i) (length s)) refl
  where
    go : (t : Bool) → leb (suc i) (length s) ≡ t → i < length s
    go true q = leb-true (suc i) (length s) q
    go false q = let d : get_or s i 0 ≡ 0 = get_or-eq_default s 0 (omega (arith, leb-false (suc i) (length s) q)) in absurd (omega arith)

string-fits : (s : List ℕ) → Fits s (string_here s)
unfolding string_here
string-fits s =
    fits-if (leb 1 (run string_byte s) && leb (run string_byte s) 32 && eqb (get_or s (run string_byte s) 0) 39)
    (λ e.
    let d = eqb-true (get_or s (run string_byte s) 0) 39 (both_true (leb 1 (run string_byte s) && leb (run string_byte s) 32) _ e) in
    record { fits = omega (arith, there s (run string_byte s) 39 (omega arith) d) })
    (λ e. record { fits = omega arith })

here-fits : (b : ℕ) (s : List ℕ) → Fits s (word_here b s)
unfolding word_here
here-fits b s =
    fits-if (letter b) (λ e. record { fits = omega (arith, run-within name_byte s) }) (λ e₁.
    fits-if (digit b) (λ e. record { fits = omega (arith, run-within digit s) }) (λ e₂.
    fits-if (eqb b 39) (λ e. string-fits s) (λ e₃.
    fits-if (eqb b 62 && eqb (get_or s 0 0) 62)
    (λ e. record { fits = omega (arith, there s 0 62 (omega arith) (eqb-true (get_or s 0 0) 62 (both_true (eqb b 62) _ e))) }) (λ e₄.
    fits-if (eqb b 33) (λ e. record { fits = omega arith }) (λ e₅.
    fits-if (symbol b) (λ e. record { fits = omega arith }) (λ e. record { fits = omega arith }))))))

-- Words begin one behind the other

data Rising : ℕ → List Word → Type 0 where
  nowhere : {n : ℕ} → Rising n []
  begun : {n : ℕ} {w : Word} {ws : List Word} → n ≤ w.start → Rising (suc w.start) ws → Rising n (w ∷ ws)

rising-from : {m n : ℕ} {ws : List Word} → n ≤ m → Rising m ws → Rising n ws
rising-from h nowhere = nowhere
rising-from {m} {n} h (begun {w = w} l r) = let k : n ≤ w.start = omega arith in begun k r

rising-at : {n : ℕ} (ws rest : List Word) (w : Word) → Rising n (ws ++ (w ∷ rest)) → n + length ws ≤ w.start
rising-at [] rest w (begun l r) = omega arith
rising-at (x ∷ ws) rest w (begun l r) = omega (arith, rising-at ws rest w r)

rising-if : (t : Bool) {n : ℕ} {x y : List Word} → Rising n x → Rising n y → Rising n (if t then x else y)
rising-if true p q = p
rising-if false p q = q

rising : (s : List ℕ) (skip at : ℕ) → skip ≤ length s → Rising (at + skip) (words_from skip at s)
unfolding words_from
rising [] skip at h = let k : at + skip ≤ at = omega arith in begun k nowhere
rising (b ∷ s) (suc n) at h = rising-from {m = suc at + n} (omega arith) (rising s n (suc at) (omega arith))
rising (b ∷ s) zero at h =
    let k : at + 0 ≤ at = omega arith in
    rising-if (blank b) (rising-from {m = suc at + 0} (omega arith) (rising s 0 (suc at) (omega arith)))
    (rising-if (eqb b 37) (rising-from {m = suc at + run in_line s} (omega arith) (rising s (run in_line s) (suc at) (run-within in_line s)))
    (rising-if (eqb (word_here b s).kind 0) (begun k nowhere)
    (begun k (rising-from {m = suc at + ((word_here b s).size - 1)} (omega arith) (rising s ((word_here b s).size - 1) (suc at) (here-fits b s).fits)))))

-- The word at a byte is the same where the text is cut behind it

run-cut : (p : ℕ → Bool) (u v more : List ℕ) → p 10 ≡ false → run p (u ++ v) ≤ length u → run p (u ++ (10 ∷ more)) ≡ run p (u ++ v)
unfolding run
run-cut p [] v more e h = let z : run p v ≡ 0 = omega arith in rw (e, z) refl
run-cut p (b ∷ u) v more e h = next (p b) (run-cut p u v more e) h
  where
    next : (t : Bool) {m n k : ℕ} → (n ≤ k → m ≡ n) → (if t then suc n else 0) ≤ suc k → (if t then suc m else 0) ≡ (if t then suc n else 0)
    next true f h = ap suc (f (omega arith))
    next false f h = refl

take-cut : (n : ℕ) (u v more : List ℕ) → n ≤ length u → take n (u ++ (10 ∷ more)) ≡ take n (u ++ v)
take-cut n u v more h = take-append-le n u (10 ∷ more) h ∙ sym (take-append-le n u v h)

-- a word that is not bad and ends before the cut
record Before (u : List ℕ) (f : Found) : Type 0 where
  pub good : f.kind ≡ 0 → ⊥
  pub short : f.size - 1 ≤ length u

cut-if : (t : Bool) {u : List ℕ} {x y x' y' : Found} → Before u (if t then x else y) → (Before u x → x' ≡ x) → (Before u y → y' ≡ y) → (if t then x' else y') ≡ (if t then x else y)
cut-if true p f g = f p
cut-if false p f g = g p

abbrev string-at : ℕ → Bool → Found
string-at n t = if t then record { kind = 259; size = n + 2 } else record { kind = 0; size = 1 }

abbrev closed : List ℕ → ℕ → Bool
closed s n = leb 1 n && leb n 32 && eqb (get_or s n 0) 39

string-cut : (u v more : List ℕ) → Before u (string_here (u ++ v)) → string_here (u ++ (10 ∷ more)) ≡ string_here (u ++ v)
unfolding string_here string_byte
string-cut u v more p = go (closed (u ++ v) (run string_byte (u ++ v))) refl p
  where
    go : (t : Bool) → closed (u ++ v) (run string_byte (u ++ v)) ≡ t → Before u (string-at (run string_byte (u ++ v)) t)
        → string-at (run string_byte (u ++ (10 ∷ more))) (closed (u ++ (10 ∷ more)) (run string_byte (u ++ (10 ∷ more)))) ≡ string-at (run string_byte (u ++ v)) (closed (u ++ v) (run string_byte (u ++ v)))
    go true e p =
        let n = run string_byte (u ++ v) in
        let h : n < length u = omega (arith, p.short) in
        rw (run-cut string_byte u v more refl (omega arith), get_or-append u (10 ∷ more) 0 n h, get_or-append u v 0 n h) refl
    go false e p = absurd (p.good refl)

-- a symbol by itself, and `>` by the byte behind it
abbrev plain : ℕ → Found
plain b = if eqb b 33 then record { kind = 124; size = 1 } else if symbol b then record { kind = b; size = 1 } else record { kind = 0; size = 1 }

abbrev symbols : ℕ → ℕ → Found
symbols b c = if eqb b 62 && eqb c 62 then record { kind = 256; size = 2 } else plain b

once : (b : ℕ) (s t : Bool) → Before [] (if s && t then record { kind = 256; size = 2 } else plain b)
    → (if s && false then record { kind = 256; size = 2 } else plain b) ≡ (if s && t then record { kind = 256; size = 2 } else plain b)
once b true true p = absurd (omega (arith, p.short))
once b true false p = refl
once b false t p = refl

symbols-cut : (b : ℕ) (u v more : List ℕ) → Before u (symbols b (get_or (u ++ v) 0 0)) → symbols b (get_or (u ++ (10 ∷ more)) 0 0) ≡ symbols b (get_or (u ++ v) 0 0)
symbols-cut b [] v more p = once b (eqb b 62) (eqb (get_or v 0 0) 62) p
symbols-cut b (c ∷ u) v more p = refl

here-cut : (b : ℕ) (u v more : List ℕ) → Before u (word_here b (u ++ v)) → word_here b (u ++ (10 ∷ more)) ≡ word_here b (u ++ v)
unfolding word_here name_byte letter digit
here-cut b u v more p =
    cut-if (letter b) p (λ q.
    let h : run name_byte (u ++ v) ≤ length u = omega (arith, q.short) in
    rw (run-cut name_byte u v more refl h, take-cut (run name_byte (u ++ v)) u v more h) refl) (λ p₁.
    cut-if (digit b) p₁ (λ q. rw (run-cut digit u v more refl (omega (arith, q.short))) refl) (λ p₂.
    cut-if (eqb b 39) p₂ (string-cut u v more) (symbols-cut b u v more)))

-- The words before the cut

abbrev start_of : List Word → ℕ
start_of [] = 0
start_of (w ∷ ws) = w.start

-- at the cut
at_cut : (v more : List ℕ) (at : ℕ) (ws rest : List Word) (w : Word) → w.start ≡ at → words_from 0 at v ≡ ws ++ (w ∷ rest) → words_from 0 at (10 ∷ more) ≡ ws ++ words_from 0 (w.start + 1) more
unfolding blank
at_cut v more at [] rest w e q = let z : w.start + 1 ≡ suc at = omega (arith, e) in rw z (from-blank at 10 more refl)
at_cut v more at (x ∷ ws) rest w e q = absurd (omega (arith, e, rising-at (x ∷ ws) rest w (rw q at (rising v 0 at (omega arith)))))

-- at the byte b before it, with what holds of the bytes behind b
module _ (b : ℕ) (u v more : List ℕ) (at : ℕ) (rest : List Word) (w : Word) (start : w.start ≡ suc at + length u)
    (on : (skip : ℕ) (ws : List Word) → skip ≤ length u → words_from skip (suc at) (u ++ v) ≡ ws ++ (w ∷ rest)
    → words_from skip (suc at) (u ++ (10 ∷ more)) ≡ ws ++ words_from 0 (w.start + 1) more) where
  abbrev Goal : List Word → Type 0
  Goal ws = words_from 0 at (b ∷ (u ++ (10 ∷ more))) ≡ ws ++ words_from 0 (w.start + 1) more

  inner : (skip : ℕ) → skip ≤ length (u ++ v) → (ws : List Word) → words_from skip (suc at) (u ++ v) ≡ ws ++ (w ∷ rest) → skip ≤ length u
  inner skip l ws z = omega (arith, start, rising-at ws rest w (rw z at (rising (u ++ v) skip (suc at) l)))

  at_word : blank b ≡ false → (b ≡ 37 → ⊥) → ((word_here b (u ++ v)).kind ≡ 0 → ⊥) → (ws : List Word)
      → the_word at b (u ++ v) ∷ words_from ((word_here b (u ++ v)).size - 1) (suc at) (u ++ v) ≡ ws ++ (w ∷ rest) → Goal ws
  at_word d f g [] z = let i : at ≡ w.start = ap start_of z in absurd (omega (arith, start))
  at_word d f g (x ∷ ws) z =
      let n = (word_here b (u ++ v)).size - 1 in
      let a : the_word at b (u ++ v) ≡ x = cc in
      let t : words_from n (suc at) (u ++ v) ≡ ws ++ (w ∷ rest) = cc in
      let l = inner n (here-fits b (u ++ v)).fits ws t in
      let c = here-cut b u v more (record { good = g; short = l }) in
      from-word at b (u ++ (10 ∷ more)) d f (λ y. g (ap (λ (k : Found). k.kind) (sym c) ∙ y))
      ∙ rw (c, take-cut (word_here b (u ++ v)).size (b ∷ u) v more (omega (arith, l)), on n ws l t) (ap (λ (y : Word). y ∷ (ws ++ words_from 0 (w.start + 1) more)) a)

  single : (x : Word) (ws : List Word) → x.start ≡ at → x ∷ [] ≡ ws ++ (w ∷ rest) → ⊥
  single x [] i z = let k : x.start ≡ w.start = ap start_of z in omega (arith, start)
  single x (y ∷ ws) i z = let k : 1 ≡ suc (length (ws ++ (w ∷ rest))) = ap length z in omega (arith, length-append ws (w ∷ rest))

  at_mark : blank b ≡ false → (b ≡ 37 → ⊥) → (ws : List Word) → (t : Bool) → eqb (word_here b (u ++ v)).kind 0 ≡ t → words_from 0 at (b ∷ (u ++ v)) ≡ ws ++ (w ∷ rest) → Goal ws
  at_mark d f ws true g q = absurd (single (the_word at b (u ++ v)) ws refl (sym (from-bad at b (u ++ v) d f (eqb-true (word_here b (u ++ v)).kind 0 g)) ∙ q))
  at_mark d f ws false g q = let k = eqb-false (word_here b (u ++ v)).kind 0 g in at_word d f k ws (sym (from-word at b (u ++ v) d f k) ∙ q)

  at-comment : blank b ≡ false → (ws : List Word) → (t : Bool) → eqb b 37 ≡ t → words_from 0 at (b ∷ (u ++ v)) ≡ ws ++ (w ∷ rest) → Goal ws
  at-comment d ws true f q =
      let z = sym (from-comment at b (u ++ v) (eqb-true b 37 f)) ∙ q in
      let l = inner (run in_line (u ++ v)) (run-within in_line (u ++ v)) ws z in
      from-comment at b (u ++ (10 ∷ more)) (eqb-true b 37 f) ∙ rw (run-cut in_line u v more refl l) (on (run in_line (u ++ v)) ws l z)
  at-comment d ws false f q = at_mark d (eqb-false b 37 f) ws (eqb (word_here b (u ++ v)).kind 0) refl q

  at_byte : (ws : List Word) → (t : Bool) → blank b ≡ t → words_from 0 at (b ∷ (u ++ v)) ≡ ws ++ (w ∷ rest) → Goal ws
  at_byte ws true d q = from-blank at b (u ++ (10 ∷ more)) d ∙ on 0 ws (omega arith) (sym (from-blank at b (u ++ v) d) ∙ q)
  at_byte ws false d q = at-comment d ws (eqb b 37) refl q

joins : (u v more : List ℕ) (skip at : ℕ) (ws rest : List Word) (w : Word) → skip ≤ length u → w.start ≡ at + length u → words_from skip at (u ++ v) ≡ ws ++ (w ∷ rest)
    → words_from skip at (u ++ (10 ∷ more)) ≡ ws ++ words_from 0 (w.start + 1) more
unfolding words_from
joins [] v more zero at ws rest w h e q = at_cut v more at ws rest w (omega (arith, e)) q
joins [] v more (suc n) at ws rest w h e q = absurd (omega arith)
joins (b ∷ u) v more (suc n) at ws rest w h e q = joins u v more n (suc at) ws rest w (omega arith) (omega (arith, e)) q
joins (b ∷ u) v more zero at ws rest w h e q =
    at_byte b u v more at rest w (omega (arith, e)) (λ skip vs l z. joins u v more skip (suc at) vs rest w l (omega (arith, e)) z) ws (blank b) refl q

pub joined : (text more : List ℕ) (ws rest : List Word) (w : Word) → w.start ≤ length text → words text ≡ ws ++ (w ∷ rest)
    → words (take w.start text ++ (10 ∷ more)) ≡ ws ++ words_from 0 (w.start + 1) more
unfolding words
joined text more ws rest w h q =
    joins (take w.start text) (drop w.start text) more 0 0 ws rest w (omega arith) (omega (arith, length-take-le w.start text h)) (rw (take-append-drop w.start text) q)

-- The words behind it: the same words, at other places

abbrev pub moved : ℕ → List Word → List Word
moved d [] = []
moved d (w ∷ ws) = record { kind = w.kind; start = d + w.start; text = w.text } ∷ moved d ws

moved-if : (t : Bool) (d : ℕ) (x y x' y' : List Word) → x ≡ moved d x' → y ≡ moved d y' → (if t then x else y) ≡ moved d (if t then x' else y')
moved-if true d x y x' y' e f = e
moved-if false d x y x' y' e f = f

moved-byte : (b : ℕ) (s : List ℕ) (d at : ℕ) → ((k : ℕ) → words_from k (suc (d + at)) s ≡ moved d (words_from k (suc at) s)) → words_from 0 (d + at) (b ∷ s) ≡ moved d (words_from 0 at (b ∷ s))
unfolding words_from
moved-byte b s d at on =
    moved-if (blank b) d _ _ _ _ (on 0)
    (moved-if (eqb b 37) d _ _ _ _ (on (run in_line s))
    (moved-if (eqb (word_here b s).kind 0) d _ _ _ _ refl
    (ap (λ (l : List Word). record { kind = (word_here b s).kind; start = d + at; text = take (word_here b s).size (b ∷ s) } ∷ l) (on ((word_here b s).size - 1)))))

one_on : (s : List ℕ) (k d at : ℕ) → words_from k (suc (d + at)) s ≡ words_from k (d + suc at) s
one_on s k d at = ap (λ (i : ℕ). words_from k i s) (omega arith)

pub words-moved : (s : List ℕ) (d skip at : ℕ) → words_from skip (d + at) s ≡ moved d (words_from skip at s)
unfolding words_from
words-moved [] d skip at = refl
words-moved (b ∷ s) d (suc n) at = one_on s n d at ∙ words-moved s d n (suc at)
words-moved (b ∷ s) d zero at = moved-byte b s d at (λ k. one_on s k d at ∙ words-moved s d k (suc at))
