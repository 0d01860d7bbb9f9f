-- Laws of sections and operations, for the proofs of the code.
use mathlib.Core.Bool.{Bool, true, false, ◌&&◌, false≢true}
use mathlib.Core.List.{List, [], ◌∷◌, ◌++◌}
use mathlib.Core.Option.{Option, none, some}
use mathlib.Core.Path.{◌≡◌, refl, sym, ap, ◌∙◌}
use Prim.Native.Nat.{ℕ, suc, ◌+◌, ◌*◌, ◌-◌, ◌≤◌, ◌<◌, max, min}
use native.Mathlib.Nat.{zero-add}
use native.Mathlib.Numerals.{add-one}
use native.Mathlib.Omega.{arith}
use lib.Dec.{eqb, leb}
use lib.ListN.{length, get_or, take, drop, drop_of_length-le}
use lib.Seq.{drop-cons}
use borrow.Author.Tests.{leb-false, ne_eqb, lt-leb, le-leb, lt-ltb, le-ltb, eq-eqb, leb-true, eqb-true}
use Rattle.std.specs.Prelude.{if◌then◌else◌}
use Rattle.base.specs.Common.{given, bytes, same}
use Rattle.reader.proofs.Laws.{at_word, ends_as, ends_with, faults, faulty, goes-as, stops, gives-with, no, no-with, overs, passes-with, says-off, says_on, shorts, word-length, yes-with, one-or-two-not, refuses, gives}
use Rattle.reader.specs.Answers.{Out, Brings, Faulty, Here, Holds, Tells, failed, held, told, void, went, refusal}
use Rattle.reader.specs.Counting.{Adds, Decides, Kinds, count_of, told_kind, full_in, listed, one_more, wrong, Entered, Operated, Keeps, ending, fine, NumberOf}
use Rattle.scanner.proofs.WordLaws.{part_at, part_length}
use Rattle.scanner.specs.Next.{as_word}
use Rattle.syntax.proofs.Ahead.{kind-read, kinds-read}
use Rattle.syntax.specs.Parse.{parse, end_of, program, some_rules}
use Rattle.syntax.specs.Reading.{Read, Reader, a_name, a_number, expect, fault, got, onward, optional, pass, peek, short, small, within, on◌then◌else◌, one_name}
use Rattle.syntax.specs.Sections.{a_count, entries, first_of, next_of, kind_at, kind_ahead, is_full, a_parameter, numbered, of_kind, after, instructions, nothing, Sofar, some_operations, spells, ranking, a_side, operator_section, mechanism_section, other_section}
use Rattle.syntax.specs.Written.{Entry, Section, both, Operation, errors, inputs, operations, outputs, values, Operator, operators}
use Rattle.words.specs.Words.{Word, words_at, value, words}
use Rattle.reader.specs.declared.Ahead.{Ahead}
use Rattle.reader.specs.declared.State.{State}
use Rattle.reader.specs.declared.Seen.{Seen}
use Rattle.scanner.specs.declared.WordAt.{WordAt}

-- a property follows from another
mapped : {A : Type 0} {P Q : A → Type 0} (m : Read A) → Holds P m → ((a : A) → P a → Q a) → Holds Q m
mapped (got a ws) (held p) f = held (f a p)
mapped (fault n w) void f = void

pub so : {A : Type 0} {P Q : A → Type 0} {m : Read A} {text : List ℕ} {r : Out} → Brings P m text r → ((a : A) → P a → Q a) → Brings Q m text r
so {m = m} b f = record { tells = b.tells; holds = mapped m b.holds f }

-- Names

pub under-with : {A : Type 0} {P : A → Type 0} (left : ℕ) (m : Reader A) {text : List ℕ} (at : ℕ) {s : Out} → (left ≡ 0 → ⊥)
    → Brings P (m (words_at text at)) text s → Brings P (within left m (words_at text at)) text s
unfolding within
under-with left m at e t = rw (ne_eqb left 0 e) t

short-is : {text : List ℕ} {at : ℕ} {w : WordAt} → Here text at w → 2 ≤ w.kind → w.len ≤ 32
    → short (words_at text at) ≡ got (as_word text w) (words_at text w.next)
unfolding short pass
short-is {w = w} n k h = rw (n.head, word-length n, le-ltb 32 w.len h, n.more k)

pub shorts-with : {text : List ℕ} {at : ℕ} {w : WordAt} {r : Out} → Here text at w → 2 ≤ w.kind → w.len ≤ 32 → r.fault ≡ 0 → r.at ≡ w.next
    → Brings (λ a. a ≡ peek (words_at text at)) (short (words_at text at)) text r
shorts-with n k h e f = record { tells = shorts n k h e f; holds = rw (short-is n k h) (held (sym n.head)) }

-- Numbers

pub value-go : (n : ℕ) (bs : List ℕ) (i : ℕ) → i < length bs → value n (drop i bs) ≡ value (n * 10 + (get_or bs i 0 - 48)) (drop (i + 1) bs)
unfolding value
value-go n bs i h = rw (add-one, drop-cons bs i 0)

pub value-end : (n : ℕ) (bs : List ℕ) (i : ℕ) → length bs ≤ i → value n (drop i bs) ≡ n
unfolding value
value-end n bs i h = rw (drop_of_length-le bs h)

pub value_low : (n : ℕ) (bs : List ℕ) → n ≤ value n bs
unfolding value
value_low n [] = omega arith
value_low n (d ∷ ds) = omega (arith, value_low (n * 10 + (d - 48)) ds)

-- one more digit
pub number-on : (text : List ℕ) (start len n i d : ℕ) → start + len ≤ length text → i < len → d ≡ get_or text (start + i) 0 - 48
    → value n (drop i (take len (drop start text))) ≡ value 0 (take len (drop start text))
    → value (n * 10 + d) (drop (i + 1) (take len (drop start text))) ≡ value 0 (take len (drop start text))
number-on text start len n i d h g e f =
    rw (e, ← part_at text start len i g) (sym (value-go n (take len (drop start text)) i (omega (arith, part_length text start len h)))) ∙ f

pub number_past : (text : List ℕ) (start len n i d : ℕ) → start + len ≤ length text → i < len → d ≡ get_or text (start + i) 0 - 48 → 65535 < n * 10 + d
    → value n (drop i (take len (drop start text))) ≡ value 0 (take len (drop start text)) → 65535 < value 0 (take len (drop start text))
number_past text start len n i d h g e m f =
    omega (arith, value_low (n * 10 + d) (drop (i + 1) (take len (drop start text))), number-on text start len n i d h g e f)

pub small-over : {text : List ℕ} {at : ℕ} {w : WordAt} {r : Out} → Here text at w → 65535 < value 0 (take w.len (drop w.start text)) → Faulty 9 w r
    → Tells (small (words_at text at)) text r
unfolding small
small-over {text} {w = w} n h f = rw (n.head, lt-ltb 65535 (value 0 (take w.len (drop w.start text))) h) (overs n f)

pub small-got : {text : List ℕ} {at : ℕ} {w : WordAt} {r : Out} (v : ℕ) → Here text at w → 2 ≤ w.kind → value 0 (take w.len (drop w.start text)) ≡ v → v ≤ 65535
    → r.fault ≡ 0 → r.at ≡ w.next → Brings (λ n. n ≡ v) (small (words_at text at)) text r
unfolding small pass onward
small-got {text} {w = w} v n k p h e f = rw (n.head, p, le-ltb 65535 v h, n.more k, ← f) (gives-with e refl)

-- Entries

pub count_set : {P : ℕ → Type 0} (w : Word) (v : ℕ) {text : List ℕ} {at : ℕ} {y : WordAt} {r : Out} → Here text at y → y.kind ≡ 61
    → Brings P (a_number (words_at text y.next)) text r → Brings P (a_count w v (words_at text at)) text r
unfolding a_count
count_set w v n e b = yes-with _ _ _ n e (passes-with _ n (omega arith) b)

pub count-on : (w : Word) (v : ℕ) {text : List ℕ} {at : ℕ} {y : WordAt} {r : Out} → Here text at y → (y.kind ≡ 61 → ⊥) → v ≤ 65535 → r.fault ≡ 0 → r.at ≡ at
    → Brings (λ n. n ≡ v) (a_count w v (words_at text at)) text r
unfolding a_count
count-on w v n e h z f = no-with _ _ _ n e (rw (le-ltb 65535 v h, ← f) (gives-with z refl))

pub count-over : (w : Word) (v : ℕ) {text : List ℕ} {at from : ℕ} {x y : WordAt} {r : Out} → Here text at y → (y.kind ≡ 61 → ⊥) → 65535 < v
    → w ≡ peek (words_at text from) → Here text from x → Faulty 9 x r → Tells (a_count w v (words_at text at)) text r
unfolding a_count
count-over w v n e h d m f = no _ _ _ n e (rw (lt-ltb 65535 v h, d) (faults m (omega arith) f))

-- the last entry, and one before others
pub entered-one : (left top v t : ℕ) (e : Entry) (es : List Entry) → e.value ≡ v → es ≡ [] → t ≡ max top (v + 1) → Entered left top (left - 1) t (e ∷ es)
unfolding next_of
entered-one left top v t e es h z f = rw (z, f, ← h) (record { less = omega arith; most = refl })

pub entered-more : (left top v u n t : ℕ) (e : Entry) (es : List Entry) → e.value ≡ v → u ≡ max top (v + 1) → Entered (left - 1) u n t es → Entered left top n t (e ∷ es)
unfolding next_of
entered-more left top v u n t e es h f g = record { less = omega (arith, g.less); most = rw (h, ← f) g.most }

pub assoc : {A B C : Type 0} (m : Read A) (f : A → Reader B) (g : B → Reader C) → onward (onward m f) g ≡ onward m (λ a ws. onward (f a ws) g)
unfolding onward
assoc (got a ws) f g = refl
assoc (fault n w) f g = refl

pub listed-made : {P : List Entry → Type 0} {Q : Section → Type 0} (k left : ℕ) (strings : Bool) (v : ℕ) (f : List Entry → Section) {text : List ℕ} (at : ℕ) {r : Out}
    → Brings P (listed k left strings v (words_at text at)) text r → ((es : List Entry) → P es → Q (f es))
    → Brings Q (onward (expect 58 (words_at text at)) (λ _ ws. onward (entries k left strings v ws) (λ es ws. got (f es) ws))) text r
unfolding listed
listed-made k left strings v f {text} at b g = rw (← assoc (expect 58 (words_at text at)) (λ _ ws. entries k left strings v ws) (λ es ws. got (f es) ws)) (ends_with f b g)

listed-as : {P : List Entry → Type 0} (k left left' : ℕ) (strings : Bool) (v v' : ℕ) {text : List ℕ} (at : ℕ) {r : Out} → left ≡ left' → v ≡ v'
    → Brings P (listed k left strings v (words_at text at)) text r → Brings P (listed k left' strings v' (words_at text at)) text r
listed-as k left left' strings v v' at e f b = rw (← e, ← f) b

pub next-max : (n : ℕ) (es : List Entry) → next_of n es ≡ max n (next_of 0 es)
unfolding next_of
next-max n [] = omega arith
next-max n (e ∷ es) = omega (arith, next-max (max n (e.value + 1)) es, next-max (max 0 (e.value + 1)) es)

-- Operations

kind-in : (b i : ℕ) (is : List ℕ) → b ≤ i → i < b + 256 → of_kind b (i ∷ is) ≡ 1 + of_kind b is
unfolding of_kind
kind-in b i is h g = rw (le-leb b i h, lt-ltb i (b + 256) g)

kind-below : (b i : ℕ) (is : List ℕ) → i < b → of_kind b (i ∷ is) ≡ of_kind b is
unfolding of_kind
kind-below b i is h = rw (lt-leb b i h) (zero-add (of_kind b is))

kind-above : (b i : ℕ) (is : List ℕ) → b + 256 ≤ i → of_kind b (i ∷ is) ≡ of_kind b is
unfolding of_kind
kind-above b i is h = rw (le-leb b i (omega arith), le-ltb i (b + 256) h) (zero-add (of_kind b is))

kind-none : (b : ℕ) → of_kind b [] ≡ 0
unfolding of_kind
kind-none b = refl

pub count-is : (is : List ℕ) (s : Seen) (x y : Bool) → Kinds is s → count_of s x y ≡ of_kind (first_of x y) is
unfolding first_of
count-is is s false false k = k.plain
count-is is s true false k = k.taking
count-is is s false true k = k.giving
count-is is s true true k = k.both

pub adds_one : (s : Seen) (x y : Bool) (n : ℕ) → n < 256 → Adds ((first_of x y + n) ∷ []) s (one_more s x y)
unfolding first_of
adds_one s false false n h = record {
  plain = omega (arith, kind-in 256 (256 + n) [] (omega arith) (omega arith), kind-none 256);
  taking = omega (arith, kind-below 512 (256 + n) [] (omega arith), kind-none 512);
  giving = omega (arith, kind-below 768 (256 + n) [] (omega arith), kind-none 768);
  both = omega (arith, kind-below 1024 (256 + n) [] (omega arith), kind-none 1024);
}
adds_one s true false n h = record {
  plain = omega (arith, kind-above 256 (512 + n) [] (omega arith), kind-none 256);
  taking = omega (arith, kind-in 512 (512 + n) [] (omega arith) (omega arith), kind-none 512);
  giving = omega (arith, kind-below 768 (512 + n) [] (omega arith), kind-none 768);
  both = omega (arith, kind-below 1024 (512 + n) [] (omega arith), kind-none 1024);
}
adds_one s false true n h = record {
  plain = omega (arith, kind-above 256 (768 + n) [] (omega arith), kind-none 256);
  taking = omega (arith, kind-above 512 (768 + n) [] (omega arith), kind-none 512);
  giving = omega (arith, kind-in 768 (768 + n) [] (omega arith) (omega arith), kind-none 768);
  both = omega (arith, kind-below 1024 (768 + n) [] (omega arith), kind-none 1024);
}
adds_one s true true n h = record {
  plain = omega (arith, kind-above 256 (1024 + n) [] (omega arith), kind-none 256);
  taking = omega (arith, kind-above 512 (1024 + n) [] (omega arith), kind-none 512);
  giving = omega (arith, kind-above 768 (1024 + n) [] (omega arith), kind-none 768);
  both = omega (arith, kind-in 1024 (1024 + n) [] (omega arith) (omega arith), kind-none 1024);
}

kind-append : (b : ℕ) (is js : List ℕ) → of_kind b (is ++ js) ≡ of_kind b is + of_kind b js
unfolding of_kind
kind-append b [] js = omega arith
kind-append b (i ∷ is) js = omega (arith, kind-append b is js)

-- one more, then others
pub adds_then : (i : ℕ) (is : List ℕ) (s t u : Seen) → Adds (i ∷ []) s t → Adds is t u → Adds (i ∷ is) s u
adds_then i is s t u a b = record {
  plain = omega (arith, kind-append 256 (i ∷ []) is);
  taking = omega (arith, kind-append 512 (i ∷ []) is);
  giving = omega (arith, kind-append 768 (i ∷ []) is);
  both = omega (arith, kind-append 1024 (i ∷ []) is);
}

pub kinds-then : (is js : List ℕ) (s t : Seen) → Kinds js s → Adds is s t → Kinds (is ++ js) t
kinds-then is js s t k a = record {
  plain = omega (arith, kind-append 256 is js);
  taking = omega (arith, kind-append 512 is js);
  giving = omega (arith, kind-append 768 is js);
  both = omega (arith, kind-append 1024 is js);
}

-- the kind that was seen ahead
told-known : (a : Ahead) (b : ℕ) → told_kind a ≡ some b → a.known ≡ true
unfolding told_kind
told-known a b e = go a.known e
  where
    go : (t : Bool) → (if t then some (first_of a.takes a.gives) else none) ≡ some b → t ≡ true
    go true d = refl
    go false d = let y : ◌≡◌ {A = ℕ} 0 1 = cc in absurd (omega arith)

told-as : (a : Ahead) (b : ℕ) → told_kind a ≡ some b → first_of a.takes a.gives ≡ b
unfolding told_kind
told-as a b e = let d : some (first_of a.takes a.gives) ≡ some b = rw (told-known a b e) at e in cc

full_is : (is : List ℕ) (s : Seen) (a : Ahead) → Kinds is s → full_in s a ≡ is_full (told_kind a) is
unfolding full_in told_kind is_full
full_is is s a k = go a.known
  where
    go : (t : Bool) → (if t then leb 256 (count_of s a.takes a.gives) else false) ≡ is_full (if t then some (first_of a.takes a.gives) else none) is
    go true = rw (count-is is s a.takes a.gives k) refl
    go false = refl

room_in : (s : Seen) (a : Ahead) → a.known ≡ true → full_in s a ≡ false → count_of s a.takes a.gives < 256
unfolding full_in
room_in s a e u = leb-false 256 (count_of s a.takes a.gives) (rw e at u)

-- a parameter was read: the kind is known, and not full
pub room-read : (s : Seen) (a : Ahead) {text : List ℕ} (at : ℕ) {r : Out} → told_kind a ≡ kind_ahead (words_at text at) → full_in s a ≡ false
    → Tells (a_parameter (words_at text at)) text r → r.fault ≡ 0 → count_of s a.takes a.gives < 256
room-read s a {text} at {r} d u e h = go (a_parameter (words_at text at)) refl (e.same ∙ says_on text r h)
  where
    go : (m : Read (Option Word)) → a_parameter (words_at text at) ≡ m → told m ≡ went (words_at text r.at) → count_of s a.takes a.gives < 256
    go (got t vs) q z = room_in s a (told-known a _ (d ∙ kind-read (words_at text at) vs t q)) u
    go (fault n w) q z = let y : ◌≡◌ {A = ℕ} 0 1 = cc in absurd (omega arith)

-- an operation past the 256 of its kind, or the next one
pub operation-over : (name : Word) (is : List ℕ) (s : Seen) (a : Ahead) {text : List ℕ} (at : ℕ) {w : WordAt} {r : Out} → Kinds is s
    → told_kind a ≡ kind_ahead (words_at text at) → full_in s a ≡ true → name ≡ as_word text w → w.start + w.len ≤ length text → Faulty 9 w r
    → Tells ((if is_full (kind_ahead (words_at text at)) is then (λ _. fault 9 name) else numbered name is) (words_at text at)) text r
operation-over name is s a at k d u e i f = rw (← d, ← full_is is s a k, u, e) (at_word 9 (omega arith) i f)

pub operation-rest : {P : Operation → Type 0} (name : Word) (is : List ℕ) (s : Seen) (a : Ahead) {text : List ℕ} (at : ℕ) {r : Out} → Kinds is s
    → told_kind a ≡ kind_ahead (words_at text at) → full_in s a ≡ false → Brings P (numbered name is (words_at text at)) text r
    → Brings P ((if is_full (kind_ahead (words_at text at)) is then (λ _. fault 9 name) else numbered name is) (words_at text at)) text r
operation-rest name is s a at k d u b = rw (← d, ← full_is is s a k, u) b

one-added : (is : List ℕ) (s t : Seen) (a : Ahead) (b : ℕ) → Kinds is s → full_in s a ≡ false → told_kind a ≡ some b → t ≡ one_more s a.takes a.gives
    → Adds ((b + of_kind b is) ∷ []) s t
one-added is s t a b k u d e =
    let h = room_in s a (told-known a b d) u in
    rw (← told-as a b d, e) (adds_one s a.takes a.gives (of_kind (first_of a.takes a.gives) is) (omega (arith, h, count-is is s a.takes a.gives k)))

pub numbered-got : (name : Word) (is : List ℕ) (s after : Seen) (a : Ahead) {text : List ℕ} (at : ℕ) {t r : Out} → Kinds is s
    → told_kind a ≡ kind_ahead (words_at text at) → full_in s a ≡ false → after ≡ one_more s a.takes a.gives
    → Tells (a_parameter (words_at text at)) text t → t.fault ≡ 0 → Tells (optional 256 a_name (words_at text t.at)) text r
    → Brings (λ (o : Operation). Adds (o.instruction ∷ []) s after) (numbered name is (words_at text at)) text r
unfolding numbered
numbered-got name is s after a {text} at {t} k d u m e h v =
    goes-as _ e h (λ x q. ends_as _ v (λ y ws z. one-added is s after a (first_of (given x) (given y)) k u (d ∙ kinds-read (words_at text at) (words_at text t.at) ws x y q z) m))

pub numbered-stops : {P : Operation → Type 0} (name : Word) (is : List ℕ) {text : List ℕ} (at : ℕ) {t : Out} → Tells (a_parameter (words_at text at)) text t → (t.fault ≡ 0 → ⊥)
    → Brings P (numbered name is (words_at text at)) text t
unfolding numbered
numbered-stops name is at e h = faulty (stops _ e h) h

-- what the words ahead tell
ahead-by : (ws : List Word) (p t c g : ℕ) → kind_at 0 ws ≡ p → kind_at 1 ws ≡ t → kind_at 2 ws ≡ c → kind_at 3 ws ≡ g
    → kind_ahead ws ≡ (if eqb p 40 then (if eqb t 257 && eqb c 41 then some (first_of true (eqb g 256)) else none) else some (first_of false (eqb p 256)))
unfolding kind_ahead
ahead-by ws p t c g d e f h = rw (← d, ← e, ← f, ← h) refl

kind-here : {text : List ℕ} {at : ℕ} {w : WordAt} → Here text at w → kind_at 0 (words_at text at) ≡ w.kind
unfolding kind_at
kind-here n = ap (λ (w : Word). w.kind) n.head

kind-next : {text : List ℕ} {at : ℕ} {w : WordAt} (i : ℕ) → Here text at w → 2 ≤ w.kind → kind_at (suc i) (words_at text at) ≡ kind_at i (words_at text w.next)
unfolding kind_at
kind-next i n h = rw (n.more h) refl

pub ahead-plain : {text : List ℕ} {at : ℕ} {p : WordAt} → Here text at p → (p.kind ≡ 40 → ⊥) → some (first_of false (eqb p.kind 256)) ≡ kind_ahead (words_at text at)
ahead-plain {text} {at} {p} n e = rw (ahead-by (words_at text at) p.kind _ _ _ (kind-here n) refl refl refl, ne_eqb p.kind 40 e) refl

pub ahead-open : {text : List ℕ} {at : ℕ} {p t : WordAt} → Here text at p → p.kind ≡ 40 → Here text p.next t → (t.kind ≡ 257 → ⊥) → none ≡ kind_ahead (words_at text at)
ahead-open {text} {at} {p} {t} n e m f =
    rw (ahead-by (words_at text at) p.kind t.kind _ _ (kind-here n) (kind-next 0 n (omega arith) ∙ kind-here m) refl refl, eq-eqb p.kind 40 e, ne_eqb t.kind 257 f) refl

-- the third word behind the name
third : {text : List ℕ} {at : ℕ} {p t c : WordAt} → Here text at p → p.kind ≡ 40 → Here text p.next t → t.kind ≡ 257 → Here text t.next c
    → kind_at 2 (words_at text at) ≡ c.kind
third n e m f o = kind-next 1 n (omega arith) ∙ kind-next 0 m (omega arith) ∙ kind-here o

pub ahead-unclosed : {text : List ℕ} {at : ℕ} {p t c : WordAt} → Here text at p → p.kind ≡ 40 → Here text p.next t → t.kind ≡ 257 → Here text t.next c → (c.kind ≡ 41 → ⊥)
    → none ≡ kind_ahead (words_at text at)
ahead-unclosed {text} {at} {p} {t} {c} n e m f o h =
    rw (
      ahead-by (words_at text at) p.kind t.kind c.kind _ (kind-here n) (kind-next 0 n (omega arith) ∙ kind-here m) (third n e m f o) refl,
      eq-eqb p.kind 40 e,
      eq-eqb t.kind 257 f,
      ne_eqb c.kind 41 h,
    ) refl

pub ahead-taking : {text : List ℕ} {at : ℕ} {p t c g : WordAt} → Here text at p → p.kind ≡ 40 → Here text p.next t → t.kind ≡ 257 → Here text t.next c → c.kind ≡ 41
    → Here text c.next g → some (first_of true (eqb g.kind 256)) ≡ kind_ahead (words_at text at)
ahead-taking {text} {at} {p} {t} {c} {g} n e m f o h q =
    rw (
      ahead-by (words_at text at) p.kind t.kind c.kind g.kind (kind-here n) (kind-next 0 n (omega arith) ∙ kind-here m) (third n e m f o)
          (kind-next 2 n (omega arith) ∙ kind-next 1 m (omega arith) ∙ kind-next 0 o (omega arith) ∙ kind-here q),
      eq-eqb p.kind 40 e,
      eq-eqb t.kind 257 f,
      eq-eqb c.kind 41 h,
    ) refl

pub operated-one : (left : ℕ) (s t : Seen) (o : Operation) (os : List Operation) → Adds (o.instruction ∷ []) s t → os ≡ [] → Operated left (left - 1) s t (o ∷ os)
unfolding instructions
operated-one left s t o os a e = rw e (record { less = omega arith; adds = a })

pub operated-more : (left n : ℕ) (s t u : Seen) (o : Operation) (os : List Operation) → Adds (o.instruction ∷ []) s t → Operated (left - 1) n t u os
    → Operated left n s u (o ∷ os)
unfolding instructions
operated-more left n s t u o os a b = record { less = omega (arith, b.less); adds = adds_then o.instruction (instructions os) s t u a b.adds }

-- Sections: the state after each

kept-inputs : (s : Sofar) (t : State) (n m i : ℕ) (es : List Entry) → Keeps s t → Entered t.left 0 n m es → i ≡ max t.input m
    → Keeps (after s (inputs es)) (record { left = n; input = i; output = t.output; error = t.error; seen = t.seen })
unfolding after
kept-inputs s t n m i es q z e = record { left = omega (arith, z.less); input = omega (arith, z.most, next-max s.input es); output = q.output; error = q.error; kinds = q.kinds }

kept-outputs : (s : Sofar) (t : State) (n m o : ℕ) (es : List Entry) → Keeps s t → Entered t.left 0 n m es → o ≡ max t.output m
    → Keeps (after s (outputs es)) (record { left = n; input = t.input; output = o; error = t.error; seen = t.seen })
unfolding after
kept-outputs s t n m o es q z e = record { left = omega (arith, z.less); input = q.input; output = omega (arith, z.most, next-max s.output es); error = q.error; kinds = q.kinds }

kept-both : (s : Sofar) (t : State) (n m i o : ℕ) (es : List Entry) → Keeps s t → Entered t.left 0 n m es → i ≡ max t.input m → o ≡ max t.output m
    → Keeps (after s (both es)) (record { left = n; input = i; output = o; error = t.error; seen = t.seen })
unfolding after
kept-both s t n m i o es q z e f = record { left = omega (arith, z.less); input = omega (arith, z.most, next-max s.input es); output = omega (arith, z.most, next-max s.output es); error = q.error; kinds = q.kinds }

kept-errors : (s : Sofar) (t : State) (n m e : ℕ) (es : List Entry) → Keeps s t → Entered t.left 0 n m es → e ≡ max t.error m
    → Keeps (after s (errors es)) (record { left = n; input = t.input; output = t.output; error = e; seen = t.seen })
unfolding after
kept-errors s t n m e es q z f = record { left = omega (arith, z.less); input = q.input; output = q.output; error = omega (arith, z.most, next-max s.error es); kinds = q.kinds }

kept-values : (s : Sofar) (t : State) (n m : ℕ) (w : Word) (es : List Entry) → Keeps s t → Entered (t.left - 1) 0 n m es
    → Keeps (after s (values w es)) (record { left = n; input = t.input; output = t.output; error = t.error; seen = t.seen })
unfolding after
kept-values s t n m w es q z = record { left = omega (arith, z.less); input = q.input; output = q.output; error = q.error; kinds = q.kinds }

pub kept-operations : (s : Sofar) (t : State) (n : ℕ) (u : Seen) (os : List Operation) → Keeps s t → Operated t.left n t.seen u os
    → Keeps (after s (operations os)) (record { left = n; input = t.input; output = t.output; error = t.error; seen = u })
unfolding after
kept-operations s t n u os q z = record { left = omega (arith, z.less); input = q.input; output = q.output; error = q.error; kinds = kinds-then (instructions os) s.seen t.seen u q.kinds z.adds }

-- a section of entries, from what its list of entries brings
pub inputs_read : (s : Sofar) (t : State) (k n m i : ℕ) {text : List ℕ} (at : ℕ) {r : Out} → Keeps s t → i ≡ max t.input m
    → Brings (Entered t.left 0 n m) (listed k t.left true t.input (words_at text at)) text r
    → Brings (λ x. Keeps (after s x) (record { left = n; input = i; output = t.output; error = t.error; seen = t.seen }))
    (onward (expect 58 (words_at text at)) (λ _ ws. onward (entries k s.left true s.input ws) (λ es ws. got (inputs es) ws))) text r
inputs_read s t k n m i at q e b = listed-made k s.left true s.input inputs at (listed-as k _ _ true _ _ at q.left q.input b) (λ es z. kept-inputs s t n m i es q z e)

pub outputs-read : (s : Sofar) (t : State) (k n m o : ℕ) {text : List ℕ} (at : ℕ) {r : Out} → Keeps s t → o ≡ max t.output m
    → Brings (Entered t.left 0 n m) (listed k t.left true t.output (words_at text at)) text r
    → Brings (λ x. Keeps (after s x) (record { left = n; input = t.input; output = o; error = t.error; seen = t.seen }))
    (onward (expect 58 (words_at text at)) (λ _ ws. onward (entries k s.left true s.output ws) (λ es ws. got (outputs es) ws))) text r
outputs-read s t k n m o at q e b = listed-made k s.left true s.output outputs at (listed-as k _ _ true _ _ at q.left q.output b) (λ es z. kept-outputs s t n m o es q z e)

pub both_read : (s : Sofar) (t : State) (k v n m i o : ℕ) {text : List ℕ} (at : ℕ) {r : Out} → Keeps s t → v ≡ max t.input t.output → i ≡ max t.input m → o ≡ max t.output m
    → Brings (Entered t.left 0 n m) (listed k t.left true v (words_at text at)) text r
    → Brings (λ x. Keeps (after s x) (record { left = n; input = i; output = o; error = t.error; seen = t.seen }))
    (onward (expect 58 (words_at text at)) (λ _ ws. onward (entries k s.left true (max s.input s.output) ws) (λ es ws. got (both es) ws))) text r
both_read s t k v n m i o at q d e f b =
    listed-made k s.left true (max s.input s.output) both at (listed-as k _ _ true _ _ at q.left (omega arith) b) (λ es z. kept-both s t n m i o es q z e f)

pub errors-read : (s : Sofar) (t : State) (k n m e : ℕ) {text : List ℕ} (at : ℕ) {r : Out} → Keeps s t → e ≡ max t.error m
    → Brings (Entered t.left 0 n m) (listed k t.left false t.error (words_at text at)) text r
    → Brings (λ x. Keeps (after s x) (record { left = n; input = t.input; output = t.output; error = e; seen = t.seen }))
    (onward (expect 58 (words_at text at)) (λ _ ws. onward (entries k s.left false s.error ws) (λ es ws. got (errors es) ws))) text r
errors-read s t k n m e at q f b = listed-made k s.left false s.error errors at (listed-as k _ _ false _ _ at q.left q.error b) (λ es z. kept-errors s t n m e es q z f)

pub values-read : (s : Sofar) (t : State) (k n m : ℕ) (w : Word) {text : List ℕ} (at : ℕ) {r : Out} → Keeps s t
    → Brings (Entered (t.left - 1) 0 n m) (listed k (t.left - 1) false 0 (words_at text at)) text r
    → Brings (λ x. Keeps (after s x) (record { left = n; input = t.input; output = t.output; error = t.error; seen = t.seen }))
    (onward (expect 58 (words_at text at)) (λ _ ws. onward (entries k (s.left - 1) false 0 ws) (λ es ws. got (values w es) ws))) text r
values-read s t k n m w at q b = listed-made k (s.left - 1) false 0 (values w) at (listed-as k _ _ false _ _ at (omega arith) refl b) (λ es z. kept-values s t n m w es q z)

-- The sections and the rules of a program

pub operations-as : {P : List Operation → Type 0} (k left left' : ℕ) (is : List ℕ) {text : List ℕ} (at : ℕ) {r : Out} → left ≡ left'
    → Brings P (some_operations k left is (words_at text at)) text r → Brings P (some_operations k left' is (words_at text at)) text r
operations-as k left left' is at e b = rw (← e) b

pub name-as : {P : Word → Type 0} (left left' : ℕ) {text : List ℕ} (at : ℕ) {r : Out} → left ≡ left'
    → Brings P (one_name left (words_at text at)) text r → Brings P (one_name left' (words_at text at)) text r
name-as left left' at e b = rw (← e) b

pub rules-as : (k m l n : ℕ) {text : List ℕ} (at : ℕ) {r : Out} → m ≡ min 128 n → l ≡ n → Tells (some_rules k m (words_at text at)) text r
    → Tells (some_rules k (min 128 l) (words_at text at)) text r
rules-as k m l n at e f t = rw (f, ← e) t

pub start-kept : Keeps nothing (record { left = 512; input = 0; output = 0; error = 0; seen = record { plain = 0; taking = 0; giving = 0; both = 0 } })
unfolding nothing of_kind
start-kept = record { left = refl; input = refl; output = refl; error = refl; kinds = record { plain = refl; taking = refl; giving = refl; both = refl } }

-- The whole

decide-on : {A B : Type 0} {P : A → Type 0} (m : Read A) (f : A → Reader B) (ws : List Word) (r : Out)
    → told m ≡ went ws → Holds P m → ((a : A) → P a → Decides r (f a ws)) → Decides r (onward m f)
unfolding onward
decide-on (got a vs) f ws r e (held p) h = let same : vs ≡ ws = cc in rw same (h a p)
decide-on (fault n w) f ws r e void h = let y : ◌≡◌ {A = ℕ} 0 1 = cc in absurd (omega arith)

pub decides-on : {A B : Type 0} {P : A → Type 0} {m : Read A} (f : A → Reader B) {text : List ℕ} {r s : Out}
    → Brings P m text r → r.fault ≡ 0 → ((a : A) → P a → Decides s (f a (words_at text r.at))) → Decides s (onward m f)
decides-on {m = m} f {text} {r} {s} b h g = decide-on m f (words_at text r.at) s (b.tells.same ∙ says_on text r h) b.holds g

decide-off : {A : Type 0} (m : Read A) (r : Out) → (r.fault ≡ 0 → ⊥) → told m ≡ failed r.fault r.at r.len → Decides r m
decide-off (got a vs) r h e = let y : ◌≡◌ {A = ℕ} 0 1 = cc in absurd (omega arith)
decide-off (fault n w) r h e =
    let d : n ≡ r.fault = cc in
    wrong {w = w} (λ z. h (sym d ∙ z)) (sym d) (cc) (cc)

pub decides-off : {A : Type 0} {m : Read A} {text : List ℕ} {r : Out} → Tells m text r → (r.fault ≡ 0 → ⊥) → Decides r m
decides-off {m = m} {text} {r} e h = decide-off m r h (e.same ∙ says-off text r h)

-- `end`, then the end of the text
pub last_word : {text : List ℕ} {at : ℕ} {w : WordAt} {r : Out} → Here text at w → w.kind ≡ 1 → r.fault ≡ 0 → Decides r (expect 1 (words_at text at))
unfolding expect on◌then◌else◌ pass
last_word {w = w} n e f = rw (n.head, eq-eqb w.kind 1 e, n.final (omega arith)) (fine f)

pub no_last : {text : List ℕ} {at : ℕ} {w : WordAt} {r : Out} → Here text at w → (w.kind ≡ 1 → ⊥) → Faulty (refusal w.kind) w r → Decides r (expect 1 (words_at text at))
unfolding expect
no_last {w = w} n e f = decides-off (no _ _ _ n e (refuses n f)) (λ z. one-or-two-not w.kind (sym f.number ∙ z))

-- a value is made of what was read
decides-made : {A B : Type 0} (m : Read A) (f : A → B) {r : Out} → Decides r m → Decides r (onward m (λ a ws. got (f a) ws))
unfolding onward
decides-made (got a ws) f (fine e) = fine e
decides-made (fault n w) f (wrong z a b c) = wrong z a b c

pub ends-whole : {B : Type 0} (p : B) (ws : List Word) {r : Out} → Decides r (ending ws) → Decides r (onward (expect 266 ws) (λ _ ws. onward (expect 1 ws) (λ _ ws. got p ws)))
unfolding ending
ends-whole p ws d = rw (← assoc (expect 266 ws) (λ _ ws. expect 1 ws) (λ _ ws. got p ws)) (decides-made _ (λ _. p) d)

-- the whole text
pub from_start : (text : List ℕ) → words text ≡ words_at text 0
unfolding words words_at
from_start text = refl

pub too_long : (text : List ℕ) {r : Out} → 32768 < length text → r.fault ≡ 9 → r.at ≡ length text → r.len ≡ 0 → Decides r (parse text)
unfolding parse end_of
too_long text h a b c = rw (lt-ltb 32768 (length text) h) (wrong (λ z. let y : ◌≡◌ {A = ℕ} 9 0 = z in omega arith) a b c)

pub not-long : (text : List ℕ) {r : Out} → length text ≤ 32768 → Decides r (program (length text + 1) (words text)) → Decides r (parse text)
unfolding parse
not-long text h d = rw (le-ltb 32768 (length text) h) d

-- Operators

pub level-zero : {text : List ℕ} {at : ℕ} {w : WordAt} {r : Out} → Here text at w → value 0 (take w.len (drop w.start text)) ≡ 0 → Faulty 9 w r → Tells (ranking (words_at text at)) text r
unfolding ranking
level-zero {text} {w = w} n h f = rw (n.head, eq-eqb (value 0 (take w.len (drop w.start text))) 0 h) (overs n f)

pub level-high : {text : List ℕ} {at : ℕ} {w : WordAt} {r : Out} → Here text at w → 15 < value 0 (take w.len (drop w.start text)) → Faulty 9 w r → Tells (ranking (words_at text at)) text r
unfolding ranking
level-high {text} {w = w} n h f =
    rw (n.head, ne_eqb (value 0 (take w.len (drop w.start text))) 0 (λ e. omega (arith, e)), lt-ltb 15 (value 0 (take w.len (drop w.start text))) h) (overs n f)

pub level-got : {text : List ℕ} {at : ℕ} {w : WordAt} {r : Out} (v : ℕ) → Here text at w → 2 ≤ w.kind → value 0 (take w.len (drop w.start text)) ≡ v → (v ≡ 0 → ⊥) → v ≤ 15
    → r.fault ≡ 0 → r.at ≡ w.next → Tells (ranking (words_at text at)) text r
unfolding ranking pass onward
level-got {text} {w = w} v n k p z h e f = rw (n.head, p, ne_eqb v 0 z, le-ltb 15 v h, n.more k, ← f) (gives e)

-- a number past 15
pub level-past : (ds : List ℕ) (n : ℕ) → NumberOf ds n → 15 < n → 15 < value 0 ds
level-past ds n h l = go (leb n 65535) refl
  where
    go : (t : Bool) → leb n 65535 ≡ t → 15 < value 0 ds
    go true e = let x = h.exact (leb-true n 65535 e) in omega arith
    go false e = let x = h.past (leb-false n 65535 e) in omega arith

-- the next word is this name, or is not
pub spelling : (s : List ℕ) {text : List ℕ} {at : ℕ} {w : WordAt} → Here text at w → spells s (words_at text at) ≡ (eqb w.kind 257 && same (take w.len (drop w.start text)) s)
unfolding spells
spelling s n = rw n.head refl

pub side-none : {text : List ℕ} {at : ℕ} {w : WordAt} {r : Out} → Here text at w → (w.kind ≡ 257 → ⊥) → Faulty (refusal w.kind) w r → Tells (a_side (words_at text at)) text r
unfolding a_side
side-none {w = w} n d f = rw (spelling (bytes "left") n, spelling (bytes "right") n, ne_eqb w.kind 257 d) (refuses n f)

pub side_left : {text : List ℕ} {at : ℕ} {w : WordAt} {r : Out} → Here text at w → w.kind ≡ 257 → same (take w.len (drop w.start text)) (bytes "left") ≡ true → r.fault ≡ 0 → r.at ≡ w.next
    → Tells (a_side (words_at text at)) text r
unfolding a_side pass onward
side_left {w = w} n d e z f = rw (spelling (bytes "left") n, eq-eqb w.kind 257 d, e, n.more (omega arith), ← f) (gives z)

pub side_right : {text : List ℕ} {at : ℕ} {w : WordAt} {r : Out} → Here text at w → w.kind ≡ 257 → same (take w.len (drop w.start text)) (bytes "left") ≡ false
    → same (take w.len (drop w.start text)) (bytes "right") ≡ true → r.fault ≡ 0 → r.at ≡ w.next → Tells (a_side (words_at text at)) text r
unfolding a_side pass onward
side_right {w = w} n d e g z f = rw (spelling (bytes "left") n, spelling (bytes "right") n, eq-eqb w.kind 257 d, e, g, n.more (omega arith), ← f) (gives z)

pub side-neither : {text : List ℕ} {at : ℕ} {w : WordAt} {r : Out} → Here text at w → w.kind ≡ 257 → same (take w.len (drop w.start text)) (bytes "left") ≡ false
    → same (take w.len (drop w.start text)) (bytes "right") ≡ false → Faulty (refusal w.kind) w r → Tells (a_side (words_at text at)) text r
unfolding a_side
side-neither {w = w} n d e g f = rw (spelling (bytes "left") n, spelling (bytes "right") n, eq-eqb w.kind 257 d, e, g) (refuses n f)

-- the state after a section of operators
pub kept-operators : (s : Sofar) (t : State) (w : Word) (os : List Operator) → Keeps s t
    → Keeps (after s (operators w os)) (record { left = t.left - 1; input = t.input; output = t.output; error = t.error; seen = t.seen })
unfolding after
kept-operators s t w os q = record { left = rw q.left refl; input = q.input; output = q.output; error = q.error; kinds = q.kinds }

pub other-operators : {P : Section → Type 0} (k : ℕ) (s : Sofar) {text : List ℕ} {at : ℕ} {w : WordAt} {r : Out} → Here text at w → 2 ≤ w.kind
    → (eqb w.kind 257 && same (take w.len (drop w.start text)) (bytes "operators")) ≡ true
    → Brings P (operator_section k s (words_at text w.next)) text r → Brings P (other_section k s (words_at text at)) text r
unfolding other_section
other-operators k s n h e b = rw (spelling (bytes "operators") n, e) (passes-with _ n h b)

pub other-mechanism : {P : Section → Type 0} (k : ℕ) (s : Sofar) {text : List ℕ} {at : ℕ} {w : WordAt} {r : Out} → Here text at w
    → (eqb w.kind 257 && same (take w.len (drop w.start text)) (bytes "operators")) ≡ false
    → Brings P (mechanism_section k s (words_at text at)) text r → Brings P (other_section k s (words_at text at)) text r
unfolding other_section
other-mechanism k s n e b = rw (spelling (bytes "operators") n, e) b

-- a name by its kind
pub is_name : (k : ℕ) (b : Bool) → (eqb k 257 && b) ≡ true → 2 ≤ k
is_name k b e = go (eqb k 257) refl e
  where
    go : (t : Bool) → eqb k 257 ≡ t → (t && b) ≡ true → 2 ≤ k
    go true d h = let x = eqb-true k 257 d in omega arith
    go false d h = let z : ◌≡◌ {A = Bool} false true = h in absurd (false≢true z)
