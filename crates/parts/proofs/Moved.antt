-- A reader on other words: it looks at no word behind the first that it leaves, of which it sees the kind, and at no place; and fuel for the words that it reads
-- is enough. One law for each way of putting readers together.
use mathlib.Core.Bool.{Bool, true, false, ◌||◌, not, false≢true}
use mathlib.Core.List.{List, [], ◌∷◌}
use mathlib.Core.Path.{◌≡◌, refl, sym, ap, ◌∙◌}
use Prim.Native.Nat.{ℕ, suc, ◌+◌, ◌≤◌, ◌<◌}
use lib.Dec.{eqb, ltb}
use lib.ListN.{length}
use borrow.Author.Tests.{eqb-true}
use native.Mathlib.Omega.{arith}
use Rattle.acceptance.proofs.ReadLaws.{no-got}
use Rattle.std.specs.Prelude.{if◌then◌else◌}
use Rattle.parts.specs.Blank.{blank}
use Rattle.parts.specs.Moved.{move_word}
use Rattle.syntax.specs.Reading.{Read, got, fault, Reader, onward, ◌>>=◌, ◌>>◌, pure, peek, pass, refuse, over, within, on◌then◌else◌, expect, short, a_name, one_name, name_or_string}
use Rattle.words.specs.Words.{Word, bad, last, name, string, rules, end}

-- Words that are read

-- words of these kinds are read outside of sections and rules only
unfoldable pub inner : ℕ → Bool
inner k = not (eqb k bad || eqb k last || eqb k rules || eqb k end)

-- the words ws end in rest, and what stands before it may be read inside
pub data Ahead (rest : List Word) : List Word → Type 0 where
  at_rest : {ws : List Word} → ws ≡ rest → Ahead rest ws
  a_word : {w : Word} {ws : List Word} → inner w.kind ≡ true → Ahead rest ws → Ahead rest (w ∷ ws)

pub ahead-length : {rest ws : List Word} → Ahead rest ws → length rest ≤ length ws
ahead-length (at_rest e) = let h = ap (λ (l : List Word). length l) e in omega arith
ahead-length (a_word i h) = let g = ahead-length h in omega arith

pub ahead-on : {rest mid ws : List Word} → Ahead mid ws → Ahead rest mid → Ahead rest ws
ahead-on {rest} (at_rest e) g = rw e g
ahead-on (a_word i h) g = a_word i (ahead-on h g)

-- ws before rest is ws' before rest', but for places
pub data Upto (rest rest' : List Word) : List Word → List Word → Type 0 where
  here : {ws ws' : List Word} → ws ≡ rest → ws' ≡ rest' → Upto rest rest' ws ws'
  more : {w w' : Word} {ws ws' : List Word} → blank w ≡ blank w' → Upto rest rest' ws ws' → Upto rest rest' (w ∷ ws) (w' ∷ ws')

-- the next words are of one kind
abbrev pub Alike : List Word → List Word → Type 0
Alike ws ws' = (peek ws).kind ≡ (peek ws').kind

pub kind-same : (w w' : Word) → blank w ≡ blank w' → w.kind ≡ w'.kind
unfolding move_word
kind-same w w' e = ap (λ (x : Word). x.kind) e

pub text_same : (w w' : Word) → blank w ≡ blank w' → w.text ≡ w'.text
unfolding move_word
text_same w w' e = ap (λ (x : Word). x.text) e

-- the next words are the same but for places, where there are some before the rest
pub next-same : {rest rest' ws ws' : List Word} → Upto rest rest' ws ws' → length rest < length ws → blank (peek ws) ≡ blank (peek ws')
unfolding peek
next-same (here e f) h = let g = ap (λ (l : List Word). length l) e in absurd (omega arith)
next-same (more p u) h = p

pub alike-upto : {rest rest' ws ws' : List Word} → Upto rest rest' ws ws' → Alike rest rest' → Alike ws ws'
unfolding peek
alike-upto (here e f) h = rw (e, f) h
alike-upto (more {w = w} {w' = w'} p u) h = kind-same w w' p

upto-length : {rest rest' ws ws' : List Word} → Upto rest rest' ws ws' → length rest ≤ length ws
upto-length (here e f) = let g = ap (λ (l : List Word). length l) e in omega arith
upto-length (more p u) = let g = upto-length u in omega arith

pub upto-end : {rest rest' ws ws' : List Word} → Upto rest rest' ws ws' → length ws ≤ length rest → ws' ≡ rest'
upto-end (here e f) l = f
upto-end (more p u) l = let g = upto-length u in absurd (omega arith)

-- words in between
pub record Split (rest rest' mid ws ws' : List Word) : Type 0 where
  pub mid' : List Word
  pub first : Upto mid mid' ws ws'
  pub second : Upto rest rest' mid mid'

pub split : {rest rest' mid ws ws' : List Word} → Ahead mid ws → length rest ≤ length mid → Upto rest rest' ws ws' → Split rest rest' mid ws ws'
split {ws' = ws'} (at_rest e) l u = record { mid' = ws'; first = here e refl; second = rw e at u }
split (a_word i h) l (here e f) = let g = ap (λ (x : List Word). length x) e in let k = ahead-length h in absurd (omega arith)
split (a_word i h) l (more p u) = let r = split h l u in record { mid' = r.mid'; first = more p r.first; second = r.second }

-- Readers

-- a reader may read nothing, and sees the kind of the word that it leaves; or it does read a word; or it does, and does not see the word that it leaves
pub data Sort : Type 0 where
  may does alone : Sort

abbrev pub reads : Sort → Bool
reads may = false
reads does = true
reads alone = true

abbrev pub looks : Sort → Bool
looks may = true
looks does = true
looks alone = false

-- m' on words that are the same but for places
pub record Again {A : Type 0} (bl : A → A) (m' : Reader A) (ws' : List Word) (a : A) (rest' : List Word) : Type 0 where
  pub value : A
  pub gives : m' ws' ≡ got value rest'
  pub like : bl a ≡ bl value

-- what m gave of ws, m' gives with fuel for b words
pub record Carried (b : ℕ) (x : Sort) {A : Type 0} (bl : A → A) (m' : Reader A) (ws : List Word) (a : A) (rest : List Word) : Type 0 where
  pub ahead : Ahead rest ws
  pub some : reads x ≡ true → length rest < length ws
  pub again : (ws' rest' : List Word) → Upto rest rest' ws ws' → length ws < length rest + b → (looks x ≡ true → Alike rest rest') → Again bl m' ws' a rest'

pub record Carries (b : ℕ) (x : Sort) {A : Type 0} (bl : A → A) (ws : List Word) (m m' : Reader A) : Type 0 where
  pub carries : (a : A) (rest : List Word) → m ws ≡ got a rest → Carried b x bl m' ws a rest

-- readers one after the other
infixl 20 ◌then-a◌
abbrev pub ◌then-a◌ : Sort → Sort → Sort
x then-a alone = alone
x then-a does = does
may then-a may = may
does then-a may = does
alone then-a may = does

then_some : (x y : Sort) {k l m : ℕ} → (reads x ≡ true → k < l) → (reads y ≡ true → m < k) → m ≤ k → k ≤ l → reads (x then-a y) ≡ true → m < l
then_some x alone f g p q e = let h = g refl in omega arith
then_some x does f g p q e = let h = g refl in omega arith
then_some may may f g p q e = absurd (false≢true e)
then_some does may f g p q e = let h = f refl in omega arith
then_some alone may f g p q e = let h = f refl in omega arith

-- what the second reader sees
then-looks : (x y : Sort) → looks y ≡ true → looks (x then-a y) ≡ true
then-looks x alone e = e
then-looks x does e = refl
then-looks may may e = refl
then-looks does may e = refl
then-looks alone may e = refl

-- what the first reader sees
mid-alike : (y : Sort) {rest rest' mid mid' : List Word} → Upto rest rest' mid mid' → (reads y ≡ true → length rest < length mid) → (looks y ≡ true → Alike rest rest') → Alike mid mid'
mid-alike may u s l = alike-upto u (l refl)
mid-alike does u s l = alike-upto u (l refl)
mid-alike alone {mid = mid} {mid' = mid'} u s l = kind-same (peek mid) (peek mid') (next-same u (s refl))

module _ {A B : Type 0} {bl : A → A} {bl₂ : B → B} {ws : List Word} {m m' : Reader A} {f f' : A → Reader B} {x y : Sort} where
  -- with fuel for b words there is fuel for b₂ words behind the first reader
  sequence : (b b₂ : ℕ) → ((mid : List Word) → (reads x ≡ true → length mid < length ws) → length mid ≤ length ws → (rest : List Word) → length ws < length rest + b → length mid < length rest + b₂)
      → Carries b x bl ws m m' → ((mid : List Word) (a a' : A) → bl a ≡ bl a' → Carries b₂ y bl₂ mid (f a) (f' a')) → Carries b (x then-a y) bl₂ ws (◌>>=◌ m f) (◌>>=◌ m' f')
  unfolding onward
  sequence b b₂ l₂ h g = record { carries = λ v rest e. go v rest (m ws) refl e }
    where
      go : (v : B) (rest : List Word) (r : Read A) → m ws ≡ r → onward r f ≡ got v rest → Carried b (x then-a y) bl₂ (◌>>=◌ m' f') ws v rest
      go v rest (fault n w) d e = no-got e
      go v rest (got a mid) d e =
          let p = h.carries a mid d in
          let q = (g mid a a refl).carries v rest e in
          let k = ahead-length p.ahead in
          let j = ahead-length q.ahead in
          record {
            ahead = ahead-on p.ahead q.ahead;
            some = then_some x y p.some q.some j k;
            again = λ ws' rest' u fuel see.
                let s = split p.ahead j u in
                let see₂ : looks y ≡ true → Alike rest rest' = λ z. see (then-looks x y z) in
                let alike = mid-alike y s.second q.some see₂ in
                let one = p.again ws' s.mid' s.first (omega arith) (λ _. alike) in
                let two = ((g mid a one.value one.like).carries v rest e).again s.mid' rest' s.second (l₂ mid p.some k rest fuel) see₂ in
                record { value = two.value; gives = rw one.gives two.gives; like = two.like };
          }

  pub bind : {b : ℕ} → Carries b x bl ws m m' → ((mid : List Word) (a a' : A) → bl a ≡ bl a' → Carries b y bl₂ mid (f a) (f' a')) → Carries b (x then-a y) bl₂ ws (◌>>=◌ m f) (◌>>=◌ m' f')
  bind {b} h g = sequence b b (λ mid s l rest n. omega arith) h g

  -- the first reads a word, so that less fuel is enough for the second
  pub bind-on : {b : ℕ} → reads x ≡ true → Carries (suc b) x bl ws m m' → ((mid : List Word) (a a' : A) → bl a ≡ bl a' → Carries b y bl₂ mid (f a) (f' a'))
      → Carries (suc b) (x then-a y) bl₂ ws (◌>>=◌ m f) (◌>>=◌ m' f')
  bind-on {b} t h g = sequence (suc b) b (λ mid s l rest n. let k = s t in omega arith) h g

module _ {A B : Type 0} {bl : A → A} {bl₂ : B → B} {ws : List Word} {m m' : Reader A} {f f' : Reader B} {x y : Sort} where
  pub next : {b : ℕ} → Carries b x bl ws m m' → ((mid : List Word) → Carries b y bl₂ mid f f') → Carries b (x then-a y) bl₂ ws (◌>>◌ m f) (◌>>◌ m' f')
  next h g = bind {f = λ _. f} {f' = λ _. f'} h (λ mid a a' p. g mid)

  pub next-on : {b : ℕ} → reads x ≡ true → Carries (suc b) x bl ws m m' → ((mid : List Word) → Carries b y bl₂ mid f f') → Carries (suc b) (x then-a y) bl₂ ws (◌>>◌ m f) (◌>>◌ m' f')
  next-on t h g = bind-on {f = λ _. f} {f' = λ _. f'} t h (λ mid a a' p. g mid)

pub gives-a : {b : ℕ} {A : Type 0} {bl : A → A} {ws : List Word} {a a' : A} → bl a ≡ bl a' → Carries b may bl ws (pure a) (pure a')
gives-a {b} {A} {bl} {ws} {a} {a'} p =
    record {
      carries = λ v rest e.
          let d : a ≡ v = cc in let d' : ws ≡ rest = cc in
          record {
            ahead = at_rest d';
            some = λ t. absurd (false≢true t);
            again = λ ws' rest' u fuel see. record { value = a'; gives = ap (got a') (upto-end u (let g = ap (λ (x : List Word). length x) d' in omega arith)); like = ap bl (sym d) ∙ p };
          };
    }

-- m and a value made of what it gives
pub ends : {b : ℕ} {x : Sort} {A B : Type 0} {bl : A → A} {bl₂ : B → B} {ws : List Word} {m m' : Reader A} (f f' : A → B)
    → Carries b x bl ws m m' → ((a a' : A) → bl a ≡ bl a' → bl₂ (f a) ≡ bl₂ (f' a')) → Carries b x bl₂ ws (◌>>=◌ m (λ a. pure (f a))) (◌>>=◌ m' (λ a. pure (f' a)))
unfolding onward
ends {b} {x} {A} {B} {bl} {bl₂} {ws} {m} {m'} f f' h g = record { carries = λ v rest e. go v rest (m ws) refl e }
  where
    go : (v : B) (rest : List Word) (r : Read A) → m ws ≡ r → onward r (λ a. pure (f a)) ≡ got v rest → Carried b x bl₂ (◌>>=◌ m' (λ a. pure (f' a))) ws v rest
    go v rest (fault n w) d e = no-got e
    go v rest (got a mid) d e =
        let i : f a ≡ v = cc in let j : mid ≡ rest = cc in
        let p = h.carries a rest (d ∙ ap (got a) j) in
        record {
          ahead = p.ahead;
          some = p.some;
          again = λ ws' rest' u fuel see.
              let o = p.again ws' rest' u fuel see in
              record { value = f' o.value; gives = rw o.gives; like = ap bl₂ (sym i) ∙ g a o.value o.like };
        }

pub refuses : {b : ℕ} {x : Sort} {A : Type 0} {bl : A → A} {ws : List Word} {m' : Reader A} → Carries b x bl ws refuse m'
unfolding refuse
refuses = record { carries = λ a rest e. no-got e }

-- less is told of it, and without fuel nothing is
pub only-may : {b : ℕ} {x : Sort} {A : Type 0} {bl : A → A} {ws : List Word} {m m' : Reader A} → Carries b x bl ws m m' → Carries b may bl ws m m'
only-may h = record { carries = λ a rest e. let p = h.carries a rest e in record { ahead = p.ahead; some = λ t. absurd (false≢true t); again = λ ws' rest' u fuel see. p.again ws' rest' u fuel (λ t. see refl) } }

pub dry : {b : ℕ} {x : Sort} {A : Type 0} {bl : A → A} {ws : List Word} {m m' m'' : Reader A} → Carries b x bl ws m m' → Carries 0 x bl ws m m''
dry h = record { carries = λ a rest e. let p = h.carries a rest e in record { ahead = p.ahead; some = p.some; again = λ ws' rest' u fuel see. let k = ahead-length p.ahead in absurd (omega arith) } }

pub dry-does : {b : ℕ} {A : Type 0} {bl : A → A} {ws : List Word} {m m' m'' : Reader A} → Carries b does bl ws m m' → Carries 1 does bl ws m m''
dry-does h = record { carries = λ a rest e. let p = h.carries a rest e in record { ahead = p.ahead; some = p.some; again = λ ws' rest' u fuel see. let k = p.some refl in absurd (omega arith) } }

-- Tests

-- a test on the words, the same for words that are the same where one is read
module _ {b : ℕ} {x : Sort} {A : Type 0} {bl : A → A} {ws : List Word} {m m' : Reader A} (t : List Word → Bool) (n n' : List Word → Reader A) where
  tested : ((rest rest' ws' : List Word) → Upto rest rest' ws ws' → (reads x ≡ true → length rest < length ws) → (looks x ≡ true → Alike rest rest') → t ws ≡ t ws')
      → (t ws ≡ true → Carries b x bl ws m m') → (t ws ≡ false → Carries b x bl ws (λ vs. n vs vs) (λ vs. n' vs vs)) → Carries b x bl ws (λ ws. (if t ws then m else n ws) ws) (λ ws. (if t ws then m' else n' ws) ws)
  tested same h g = record { carries = λ a rest e. go a rest (t ws) refl e }
    where
      go : (a : A) (rest : List Word) (c : Bool) → t ws ≡ c → (if c then m else n ws) ws ≡ got a rest → Carried b x bl (λ ws. (if t ws then m' else n' ws) ws) ws a rest
      go a rest true d e =
          let p = (h d).carries a rest e in
          record {
            ahead = p.ahead;
            some = p.some;
            again = λ ws' rest' u fuel see.
                let o = p.again ws' rest' u fuel see in
                record { value = o.value; gives = rw (← same rest rest' ws' u p.some see, d) o.gives; like = o.like };
          }
      go a rest false d e =
          let p = (g d).carries a rest e in
          record {
            ahead = p.ahead;
            some = p.some;
            again = λ ws' rest' u fuel see.
                let o = p.again ws' rest' u fuel see in
                record { value = o.value; gives = rw (← same rest rest' ws' u p.some see, d) o.gives; like = o.like };
          }

-- by the kind of the next word
pub by_kind : {b : ℕ} {x : Sort} {A : Type 0} {bl : A → A} {ws : List Word} {m m' n n' : Reader A} (t : ℕ → Bool)
    → (t (peek ws).kind ≡ true → Carries b x bl ws m m') → (t (peek ws).kind ≡ false → Carries b x bl ws n n')
    → Carries b x bl ws (λ ws. (if t (peek ws).kind then m else n) ws) (λ ws. (if t (peek ws).kind then m' else n') ws)
by_kind {x = x} {n = n} {n' = n'} t h g = tested (λ ws. t (peek ws).kind) (λ _. n) (λ _. n') (λ rest rest' ws' u s l. ap t (mid-alike x u s l)) h g

pub on-kind : {b : ℕ} {x : Sort} {A : Type 0} {bl : A → A} {ws : List Word} {m m' n n' : Reader A} (k : ℕ)
    → ((peek ws).kind ≡ k → Carries b x bl ws m m') → Carries b x bl ws n n' → Carries b x bl ws (on k then m else n) (on k then m' else n')
unfolding on◌then◌else◌
on-kind {ws = ws} k h g = record { carries = (by_kind (λ j. eqb j k) (λ t. h (eqb-true (peek ws).kind k t)) (λ t. g)).carries }

-- by the next word, where one is read; the other branch may test the words too
pub by_word : {b : ℕ} {x : Sort} {A : Type 0} {bl : A → A} {ws : List Word} {m m' : Reader A} (t : List Word → Bool) (n n' : List Word → Reader A) → ((vs vs' : List Word) → blank (peek vs) ≡ blank (peek vs') → t vs ≡ t vs')
    → reads x ≡ true → (t ws ≡ true → Carries b x bl ws m m') → Carries b x bl ws (λ vs. n vs vs) (λ vs. n' vs vs) → Carries b x bl ws (λ ws. (if t ws then m else n ws) ws) (λ ws. (if t ws then m' else n' ws) ws)
by_word {ws = ws} t n n' same r h g = tested t n n' (λ rest rest' ws' u s l. same ws ws' (next-same u (s r))) h (λ _. g)

pub limited : {b : ℕ} {x : Sort} {A : Type 0} {bl : A → A} {ws : List Word} {m m' : Reader A} (l l' : ℕ) → (eqb l 0 ≡ false → eqb l' 0 ≡ false) → Carries b x bl ws m m'
    → Carries b x bl ws (within l m) (within l' m')
unfolding within over
limited {b} {x} {A} {bl} {ws} {m} {m'} l l' f h = record { carries = λ a rest e. go a rest (eqb l 0) refl e }
  where
    go : (a : A) (rest : List Word) (t : Bool) → eqb l 0 ≡ t → (if t then over ws else m ws) ≡ got a rest → Carried b x bl (within l' m') ws a rest
    go a rest true t e = no-got e
    go a rest false t e =
        let p = h.carries a rest e in
        let z = f t in
        record {
          ahead = p.ahead;
          some = p.some;
          again = λ ws' rest' u fuel see. let o = p.again ws' rest' u fuel see in record { value = o.value; gives = rw z o.gives; like = o.like };
        }

-- Words

-- one word is read, whatever it is tested for
pub one_word : {b : ℕ} {A : Type 0} {bl : A → A} {ws : List Word} {k : ℕ} (m m' : Reader A) → inner k ≡ true → (peek ws).kind ≡ k
    → ((w w' : Word) (rest rest' : List Word) (a : A) (vs : List Word) → blank w ≡ blank w' → m (w ∷ rest) ≡ got a vs → (vs ≡ rest) × Again bl m' (w' ∷ rest') a rest')
    → Carries b alone bl ws m m'
unfolding peek inner
one_word {ws = []} {k} m m' i d f = absurd (false≢true (ap inner d ∙ i))
one_word {b} {A} {bl} {ws = w ∷ ws} {k} m m' i d f =
    record {
      carries = λ a rest e.
          let s = (f w w ws ws a rest refl e).0 in
          record {
            ahead = a_word (ap inner d ∙ i) (at_rest (sym s));
            some = λ t. let g = ap (λ (l : List Word). length l) s in omega arith;
            again = λ ws' rest' u fuel see. go a rest s e ws' rest' u;
          };
    }
  where
    go : (a : A) (rest : List Word) → rest ≡ ws → m (w ∷ ws) ≡ got a rest → (ws' rest' : List Word) → Upto rest rest' (w ∷ ws) ws' → Again bl m' ws' a rest'
    go a rest s e ws' rest' (here p q) = let g = ap (λ (l : List Word). length l) s in let h = ap (λ (l : List Word). length l) p in absurd (omega arith)
    go a rest s e ws' rest' (more {w' = w'} {ws' = vs} p u) = rw (upto-end u (let g = ap (λ (l : List Word). length l) s in omega arith)) (f w w' ws rest' a rest p e).1

pub passes : {b : ℕ} {ws : List Word} (k : ℕ) → inner k ≡ true → (peek ws).kind ≡ k → Carries b alone blank ws pass pass
unfolding pass
passes k i d = one_word {k = k} pass pass i d (λ w w' rest rest' a vs p e. let x : w ≡ a = cc in (cc, record { value = w'; gives = refl; like = ap blank (sym x) ∙ p }))

pub expects : {b : ℕ} {ws : List Word} (k : ℕ) → inner k ≡ true → Carries b alone blank ws (expect k) (expect k)
unfolding expect
expects k i = on-kind k (λ d. passes k i d) refuses

pub shorts : {b : ℕ} {ws : List Word} → (peek ws).kind ≡ name → Carries b alone blank ws short short
unfolding short over pass peek inner
shorts {b} {ws} d = one_word {k = name} short short refl d (λ w w' rest rest' a vs p e. go w w' rest rest' a vs p (ltb 32 (length w.text)) refl e)
  where
    go : (w w' : Word) (rest rest' : List Word) (a : Word) (vs : List Word) → blank w ≡ blank w' → (t : Bool) → ltb 32 (length w.text) ≡ t
        → (if t then over (w ∷ rest) else got w rest) ≡ got a vs → (vs ≡ rest) × Again blank short (w' ∷ rest') a rest'
    go w w' rest rest' a vs p true t e = no-got e
    go w w' rest rest' a vs p false t e =
        let x : w ≡ a = cc in
        let q : ltb 32 (length w'.text) ≡ false = ap (λ (l : List ℕ). ltb 32 (length l)) (sym (text_same w w' p)) ∙ t in
        (cc, record { value = w'; gives = rw q; like = ap blank (sym x) ∙ p })

pub a-name : {b : ℕ} {ws : List Word} → Carries b alone blank ws a_name a_name
unfolding a_name
a-name = on-kind name (λ d. shorts d) refuses

-- a name where l more may stand, and l'
pub one_name_lem : {b : ℕ} {ws : List Word} (l l' : ℕ) → (eqb l 0 ≡ false → eqb l' 0 ≡ false) → Carries b alone blank ws (one_name l) (one_name l')
unfolding one_name
one_name_lem l l' f = on-kind name (λ d. limited l l' f (shorts d)) refuses

pub name-or-string : {b : ℕ} {ws : List Word} → Carries b alone blank ws name_or_string name_or_string
unfolding name_or_string inner
name-or-string = on-kind string (λ d. passes string refl d) a-name
