-- Laws of readings, for the proofs of the code: a rule for each way of going on.
use mathlib.Core.Bool.{Bool, true, false, not}
use mathlib.Core.List.{List}
use mathlib.Core.Option.{Option}
use mathlib.Core.Logic.{◌⊎◌, inl, inr}
use mathlib.Core.Path.{◌≡◌, refl, sym, ◌∙◌}
use Prim.Native.Nat.{ℕ, zero, suc, ◌+◌, ◌≤◌, ◌<◌, ◌-◌, max}
use Rattle.std.specs.Ordering.{ord_max}
use Rattle.std.proofs.Common.{nat_cmp, rules}
use native.Mathlib.Omega.{arith}
use lib.Dec.{T, eqb, leb}
use lib.ListN.{length}
use borrow.Author.Tests.{ne_eqb, eq-eqb, lt-ltb, le-ltb, leb-true, leb-false, eqb-true, eqb-false}
use Rattle.std.specs.Prelude.{if◌then◌else◌}
use Rattle.base.specs.Faults.{fault_number}
use Rattle.base.specs.declared.Fault.{Fault}
use Rattle.base.specs.declared.Refusal.{Refusal}
use Rattle.reader.specs.Counting.{Operates, Sections_read}
use Rattle.reader.specs.declared.Seen.{Seen}
use Rattle.reader.specs.declared.State.{State}
use Rattle.syntax.specs.Sections.{Sections}
use Rattle.syntax.specs.Written.{Operation}
use Rattle.base.specs.declared.Fault.TheVariants.{NoWord, NotAllowed, Undeclared, Repeated, NotWanted, LabelRepeated, NoCycle, WrongReturn, OverLimit, Contradicts}
use Rattle.base.specs.Tree.{nil, absent, alternative}
use Rattle.reader.specs.Answers.{Out, failing, Yields, Brings, Faulty, Here, Holds, Tells, Told, failed, held, refusal, says, told, void, went}
use Rattle.reader.specs.Parts.{LeavesBoth, a_labelled, one_action, with_constant}
use Rattle.scanner.proofs.WordLaws.{part_length}
use Rattle.scanner.specs.Next.{as_word, Next}
use Rattle.syntax.specs.Actions.{closes, a_constant, actions, an_alternative, some_labels}
use Rattle.syntax.specs.Reading.{Read, Reader, a_name, expect, fault, got, on◌then◌else◌, onward, over, pass, peek, refuse, short, within}
use Rattle.syntax.specs.Written.{Acts, Choices, Constant}
use Rattle.words.specs.Words.{Word, words_at}
use Rattle.scanner.specs.declared.WordAt.{WordAt}

pub says_on : (text : List ℕ) (r : Out) → r.fault ≡ 0 → says text r ≡ went (words_at text r.at)
unfolding says
says_on text r e = rw e

pub says-off : (text : List ℕ) (r : Out) → (r.fault ≡ 0 → ⊥) → says text r ≡ failed r.fault r.at r.len
unfolding says
says-off text r e = rw (ne_eqb r.fault 0 e)

then-on : {A B : Type 0} (m : Read A) (f : A → Reader B) (ws : List Word) (z : Told)
    → told m ≡ went ws → ((a : A) → told (f a ws) ≡ z) → told (onward m f) ≡ z
unfolding onward
then-on (got a vs) f ws z e h = let same : vs ≡ ws = cc in rw same (h a)
then-on (fault n w) f ws z e h = let y : ◌≡◌ {A = ℕ} 0 1 = cc in absurd (omega arith)

then-off : {A B : Type 0} (m : Read A) (f : A → Reader B) (n s l : ℕ)
    → told m ≡ failed n s l → told (onward m f) ≡ failed n s l
unfolding onward
then-off (got a vs) f n s l e = let y : ◌≡◌ {A = ℕ} 0 1 = cc in absurd (omega arith)
then-off (fault m w) f n s l e = e

-- a part was read, and the rest goes on from where it ended
pub goes : {A B : Type 0} {m : Read A} (f : A → Reader B) {text : List ℕ} {r s : Out}
    → Tells m text r → r.fault ≡ 0 → ((a : A) → Tells (f a (words_at text r.at)) text s) → Tells (onward m f) text s
goes {m = m} f {text} {r} {s} e h g = record { same = then-on m f (words_at text r.at) (says text s) (e.same ∙ says_on text r h) (λ a. (g a).same) }

-- a part has a fault
pub stops : {A B : Type 0} {m : Read A} (f : A → Reader B) {text : List ℕ} {r : Out}
    → Tells m text r → (r.fault ≡ 0 → ⊥) → Tells (onward m f) text r
stops {m = m} f {text} {r} e h = record { same = then-off m f r.fault r.at r.len (e.same ∙ says-off text r h) ∙ sym (says-off text r h) }

-- a part is read last, and a value is made of it
end : {A B : Type 0} (m : Read A) (f : A → B) → told (onward m (λ a ws. got (f a) ws)) ≡ told m
unfolding onward
end (got a ws) f = refl
end (fault n w) f = refl

pub ends : {A B : Type 0} {m : Read A} (f : A → B) {text : List ℕ} {r : Out}
    → Tells m text r → Tells (onward m (λ a ws. got (f a) ws)) text r
ends {m = m} f e = record { same = end m f ∙ e.same }

-- a value is given with nothing more read
pub gives : {A : Type 0} {a : A} {text : List ℕ} {r : Out} → r.fault ≡ 0 → Tells (got a (words_at text r.at)) text r
gives {text = text} {r} e = record { same = sym (says_on text r e) }

-- the next word is passed
pub passes : {B : Type 0} (f : Word → Reader B) {text : List ℕ} {at : ℕ} {w : WordAt} {s : Out} → Here text at w → 2 ≤ w.kind
    → Tells (f (as_word text w) (words_at text w.next)) text s → Tells (onward (pass (words_at text at)) f) text s
unfolding pass onward
passes f n h t = rw (n.more h) t

-- a test on the next word
pub yes : {A : Type 0} (k : ℕ) (a b : Reader A) {text : List ℕ} {at : ℕ} {w : WordAt} {s : Out} → Here text at w → w.kind ≡ k
    → Tells (a (words_at text at)) text s → Tells ((on k then a else b) (words_at text at)) text s
unfolding on◌then◌else◌
yes k a b {w = w} n e t = rw (n.head, eq-eqb w.kind k e) t

pub no : {A : Type 0} (k : ℕ) (a b : Reader A) {text : List ℕ} {at : ℕ} {w : WordAt} {s : Out} → Here text at w → (w.kind ≡ k → ⊥)
    → Tells (b (words_at text at)) text s → Tells ((on k then a else b) (words_at text at)) text s
unfolding on◌then◌else◌
no k a b {w = w} n e t = rw (n.head, ne_eqb w.kind k e) t

-- faults at the next word
pub word-length : {text : List ℕ} {at : ℕ} {w : WordAt} → Here text at w → length (as_word text w).text ≡ w.len
word-length {text} {w = w} n = part_length text w.start w.len n.inside

pub faults : {A : Type 0} {text : List ℕ} {at n : ℕ} {w : WordAt} {r : Out} → Here text at w → 0 < n → Faulty n w r → Tells {A = A} (fault n (peek (words_at text at))) text r
faults {text = text} {w = w} {r} e h f = record { same = rw (e.head, word-length e, ← f.number, ← f.place, ← f.size) (sym (says-off text r (λ z. omega arith))) }

-- the same at a word that was read before
pub at_word : {A : Type 0} {text : List ℕ} (n : ℕ) {w : WordAt} {r : Out} → 0 < n → w.start + w.len ≤ length text → Faulty n w r → Tells {A = A} (fault n (as_word text w)) text r
at_word {text = text} n {w} {r} h i f = record { same = rw (part_length text w.start w.len i, ← f.number, ← f.place, ← f.size) (sym (says-off text r (λ z. omega (arith, f.number)))) }

pub overs : {A : Type 0} {text : List ℕ} {at : ℕ} {w : WordAt} {r : Out} → Here text at w → Faulty 9 w r → Tells (over {A = A} (words_at text at)) text r
unfolding over
overs n f = faults n (omega arith) f

one-or-two : (k : ℕ) → 0 < refusal k
one-or-two k = choose (eqb k 0) where
  choose : (b : Bool) → 0 < (if b then 1 else 2)
  choose true = omega arith
  choose false = omega arith

pub one-or-two-not : (k : ℕ) → refusal k ≡ 0 → ⊥
one-or-two-not k e = let h = one-or-two k in omega arith

pub refuses : {A : Type 0} {text : List ℕ} {at : ℕ} {w : WordAt} {r : Out} → Here text at w → Faulty (refusal w.kind) w r → Tells (refuse {A = A} (words_at text at)) text r
unfolding refuse
refuses {A} {w = w} n f = rw n.head (rw n.head at (faults {A = A} n (one-or-two w.kind) f))

-- a limit
pub under : {A : Type 0} (left : ℕ) (m : Reader A) {text : List ℕ} (at : ℕ) {s : Out} → (left ≡ 0 → ⊥)
    → Tells (m (words_at text at)) text s → Tells (within left m (words_at text at)) text s
unfolding within
under left m at e t = rw (ne_eqb left 0 e) t

pub above : {A : Type 0} (left : ℕ) (m : Reader A) {text : List ℕ} (at : ℕ) {s : Out} → left ≡ 0
    → Tells (over {A = A} (words_at text at)) text s → Tells (within left m (words_at text at)) text s
unfolding within
above left m at e t = rw (eq-eqb left 0 e) t

pub passed : {text : List ℕ} {at : ℕ} {w : WordAt} {r : Out} → Here text at w → 2 ≤ w.kind → r.fault ≡ 0 → r.at ≡ w.next
    → Tells (pass (words_at text at)) text r
unfolding pass
passed n h e f = rw (n.more h, ← f) (gives e)

pub long : {text : List ℕ} {at : ℕ} {w : WordAt} {r : Out} → Here text at w → 32 < w.len → Faulty 9 w r → Tells (short (words_at text at)) text r
unfolding short
long {w = w} n h f = rw (n.head, word-length n, lt-ltb 32 w.len h) (overs n f)

pub shorts : {text : List ℕ} {at : ℕ} {w : WordAt} {r : Out} → Here text at w → 2 ≤ w.kind → w.len ≤ 32 → r.fault ≡ 0 → r.at ≡ w.next
    → Tells (short (words_at text at)) text r
unfolding short
shorts {w = w} n k h e f = rw (n.head, word-length n, le-ltb 32 w.len h) (passed n k e f)

-- one number is not two
pub apart : {x : ℕ} (m n : ℕ) → x ≡ m → x ≡ n → T (not (eqb m n)) → ⊥
apart {x} m n e f t = differ (eqb m n) (eq-eqb m n (sym e ∙ f)) t where
  differ : (b : Bool) → b ≡ true → T (not b) → ⊥
  differ true q t = t
  differ false q t = let y : ◌≡◌ {A = ℕ} 0 1 = cc in absurd (omega arith)

-- fuel that is enough is not zero
pub fueled : {A : Type 0} (m : ℕ → Reader A) {text : List ℕ} {at : ℕ} {r : Out} → at ≤ length text
    → ((j : ℕ) → length text < at + suc j → Tells (m (suc j) (words_at text at)) text r)
    → (k : ℕ) → length text < at + k → Tells (m k (words_at text at)) text r
fueled m l f zero h = absurd (omega arith)
fueled m l f (suc j) h = f j h

-- a row of actions ends here, goes on after one more, or has a fault in one more
pub row_ends : {text : List ℕ} {at : ℕ} {w : WordAt} {r : Out} (j left : ℕ) → Here text at w → closes w.kind ≡ true → r.fault ≡ 0 → r.at ≡ at
    → Tells (actions (suc j) left (words_at text at)) text r
unfolding actions
row_ends j left n e f g = rw (n.head, e, ← g) (gives f)

pub row_goes : {text : List ℕ} {at : ℕ} {w : WordAt} {r s : Out} (j left : ℕ) → Here text at w → closes w.kind ≡ false
    → Tells (one_action j left (words_at text at)) text r → r.fault ≡ 0 → Tells (actions j left (words_at text r.at)) text s
    → Tells (actions (suc j) left (words_at text at)) text s
unfolding actions
row_goes j left n e t f u = rw (n.head, e) (goes _ t f (λ a. ends _ u))

pub row-stops : {text : List ℕ} {at : ℕ} {w : WordAt} {r : Out} (j left : ℕ) → Here text at w → closes w.kind ≡ false
    → Tells (one_action j left (words_at text at)) text r → (r.fault ≡ 0 → ⊥)
    → Tells (actions (suc j) left (words_at text at)) text r
unfolding actions
row-stops j left n e t f = rw (n.head, e) (stops _ t f)

-- the next word is the one that the scanner found
pub head-next : {text : List ℕ} {at : ℕ} {w : WordAt} → Next text at w → peek (words_at text at) ≡ as_word text w
unfolding peek
head-next {text} {at} {w} n = first (leb 2 w.kind) refl where
  first : (t : Bool) → leb 2 w.kind ≡ t → peek (words_at text at) ≡ as_word text w
  first true e = rw (n.more (leb-true 2 w.kind e)) refl
  first false e = rw (n.final (leb-false 2 w.kind e)) refl

-- what `look` gives is `Here`
pub here : {text : List ℕ} {at : ℕ} {w : WordAt} → at ≤ length text → Next text at w → Here text at w
here h n = record {
  head = head-next n;
  more = n.more;
  final = n.final;
  moves = n.moves;
  onto = n.onto;
  low = n.low;
  inside = n.inside h;
  high = n.high h;
}

-- and back
pub here-next : {text : List ℕ} {at : ℕ} {w : WordAt} → Here text at w → Next text at w
here-next n = record { more = n.more; final = n.final; moves = n.moves; low = n.low; onto = n.onto; inside = λ _. n.inside; high = λ _. n.high }

-- The value of a reading

then-with : {A B : Type 0} {P : A → Type 0} (Q : B → Type 0) (m : Read A) (f : A → Reader B) (text : List ℕ) (ws : List Word) (s : Out)
    → told m ≡ went ws → Holds P m → ((a : A) → P a → Brings Q (f a ws) text s) → Brings Q (onward m f) text s
unfolding onward
then-with Q (got a vs) f text ws s e (held p) h = let same : vs ≡ ws = cc in rw same (h a p)
then-with Q (fault n w) f text ws s e void h = let y : ◌≡◌ {A = ℕ} 0 1 = cc in absurd (omega arith)

-- a part was read with its value, and the rest goes on
pub goes_with : {A B : Type 0} {P : A → Type 0} {Q : B → Type 0} {m : Read A} (f : A → Reader B) {text : List ℕ} {r s : Out}
    → Brings P m text r → r.fault ≡ 0 → ((a : A) → P a → Brings Q (f a (words_at text r.at)) text s) → Brings Q (onward m f) text s
goes_with {Q = Q} {m} f {text} {r} {s} b h g = then-with Q m f text (words_at text r.at) s (b.tells.same ∙ says_on text r h) b.holds g

-- the same with all that is known of what was read
then_is : {A B : Type 0} (Q : B → Type 0) (m : Read A) (f : A → Reader B) (text : List ℕ) (ws : List Word) (s : Out)
    → told m ≡ went ws → ((a : A) → m ≡ got a ws → Brings Q (f a ws) text s) → Brings Q (onward m f) text s
unfolding onward
then_is Q (got a vs) f text ws s e h = let same : vs ≡ ws = cc in rw same (h a (rw same refl))
then_is Q (fault n w) f text ws s e h = let y : ◌≡◌ {A = ℕ} 0 1 = cc in absurd (omega arith)

pub goes-as : {A B : Type 0} {Q : B → Type 0} {m : Read A} (f : A → Reader B) {text : List ℕ} {r s : Out}
    → Tells m text r → r.fault ≡ 0 → ((a : A) → m ≡ got a (words_at text r.at) → Brings Q (f a (words_at text r.at)) text s) → Brings Q (onward m f) text s
goes-as {Q = Q} {m} f {text} {r} {s} e h g = then_is Q m f text (words_at text r.at) s (e.same ∙ says_on text r h) g

-- a fault has no value
no_value : {A : Type 0} (P : A → Type 0) (m : Read A) (n s l : ℕ) → told m ≡ failed n s l → Holds P m
no_value P (got a vs) n s l e = let y : ◌≡◌ {A = ℕ} 0 1 = cc in absurd (omega arith)
no_value P (fault m w) n s l e = void

pub faulty : {A : Type 0} {P : A → Type 0} {m : Read A} {text : List ℕ} {r : Out} → Tells m text r → (r.fault ≡ 0 → ⊥) → Brings P m text r
faulty {P = P} {m} {text} {r} e h = record { tells = e; holds = no_value P m r.fault r.at r.len (e.same ∙ says-off text r h) }

-- nothing is said of the value
anything : {A : Type 0} (m : Read A) → Holds (λ (_ : A). Unit {0}) m
anything (got a ws) = held tt
anything (fault n w) = void

pub any_value : {A : Type 0} {m : Read A} {text : List ℕ} {r : Out} → Tells m text r → Brings (λ (_ : A). Unit {0}) m text r
any_value {m = m} e = record { tells = e; holds = anything m }

-- a part was read with its value; nothing is said of the whole
pub goes-from : {A B : Type 0} {P : A → Type 0} {m : Read A} (f : A → Reader B) {text : List ℕ} {r s : Out}
    → Brings P m text r → r.fault ≡ 0 → ((a : A) → P a → Tells (f a (words_at text r.at)) text s) → Tells (onward m f) text s
goes-from f b h g = (goes_with f b h (λ a p. any_value (g a p))).tells

-- a value is made of the last part
made : {A B : Type 0} {P : A → Type 0} {Q : B → Type 0} (m : Read A) (f : A → B) → Holds P m → ((a : A) → P a → Q (f a)) → Holds Q (onward m (λ a ws. got (f a) ws))
unfolding onward
made (got a ws) f (held p) g = held (g a p)
made (fault n w) f void g = void

pub ends_with : {A B : Type 0} {P : A → Type 0} {Q : B → Type 0} {m : Read A} (f : A → B) {text : List ℕ} {r : Out}
    → Brings P m text r → ((a : A) → P a → Q (f a)) → Brings Q (onward m (λ a ws. got (f a) ws)) text r
ends_with {m = m} f b g = record { tells = ends f b.tells; holds = made m f b.holds g }

made_as : {A B : Type 0} {Q : B → Type 0} (m : Read A) (f : A → B) → ((a : A) (ws : List Word) → m ≡ got a ws → Q (f a)) → Holds Q (onward m (λ a ws. got (f a) ws))
unfolding onward
made_as (got a ws) f g = held (g a ws refl)
made_as (fault n w) f g = void

pub ends_as : {A B : Type 0} {Q : B → Type 0} {m : Read A} (f : A → B) {text : List ℕ} {r : Out}
    → Tells m text r → ((a : A) (ws : List Word) → m ≡ got a ws → Q (f a)) → Brings Q (onward m (λ a ws. got (f a) ws)) text r
ends_as {m = m} f e g = record { tells = ends f e; holds = made_as m f g }

pub gives-with : {A : Type 0} {P : A → Type 0} {a : A} {text : List ℕ} {r : Out} → r.fault ≡ 0 → P a → Brings P (got a (words_at text r.at)) text r
gives-with e p = record { tells = gives e; holds = held p }

pub passes-with : {B : Type 0} {Q : B → Type 0} (f : Word → Reader B) {text : List ℕ} {at : ℕ} {w : WordAt} {s : Out} → Here text at w → 2 ≤ w.kind
    → Brings Q (f (as_word text w) (words_at text w.next)) text s → Brings Q (onward (pass (words_at text at)) f) text s
unfolding pass onward
passes-with f n h t = rw (n.more h) t

pub yes-with : {A : Type 0} {P : A → Type 0} (k : ℕ) (a b : Reader A) {text : List ℕ} {at : ℕ} {w : WordAt} {s : Out} → Here text at w → w.kind ≡ k
    → Brings P (a (words_at text at)) text s → Brings P ((on k then a else b) (words_at text at)) text s
unfolding on◌then◌else◌
yes-with k a b {w = w} n e t = rw (n.head, eq-eqb w.kind k e) t

pub no-with : {A : Type 0} {P : A → Type 0} (k : ℕ) (a b : Reader A) {text : List ℕ} {at : ℕ} {w : WordAt} {s : Out} → Here text at w → (w.kind ≡ k → ⊥)
    → Brings P (b (words_at text at)) text s → Brings P ((on k then a else b) (words_at text at)) text s
unfolding on◌then◌else◌
no-with k a b {w = w} n e t = rw (n.head, ne_eqb w.kind k e) t

pub fueled-with : {A : Type 0} {P : A → Type 0} (m : ℕ → Reader A) {text : List ℕ} {at : ℕ} {r : Out} → at ≤ length text
    → ((j : ℕ) → length text < at + suc j → Brings P (m (suc j) (words_at text at)) text r)
    → (k : ℕ) → length text < at + k → Brings P (m k (words_at text at)) text r
fueled-with m l f zero h = absurd (omega arith)
fueled-with m l f (suc j) h = f j h

-- the same where the fuel may be spent at the end of the text
pub fueled-late : {A : Type 0} {P : A → Type 0} (m : ℕ → Reader A) {text : List ℕ} {at : ℕ} {r : Out} → at ≤ length text
    → (at ≡ length text → Brings P (m 0 (words_at text at)) text r)
    → ((j : ℕ) → length text < at + 1 + suc j → Brings P (m (suc j) (words_at text at)) text r)
    → (k : ℕ) → length text < at + 1 + k → Brings P (m k (words_at text at)) text r
fueled-late m l e f zero h = e (omega arith)
fueled-late m l e f (suc j) h = f j h

-- Parts of readers

-- two parts and what is made of them
last-two : {B C D : Type 0} (m : Read B) (f : B → C) (g : B → D) → told (onward m (λ b ws. got (f b) ws)) ≡ told (onward m (λ b ws. got (g b) ws))
unfolding onward
last-two (got b ws) f g = refl
last-two (fault n w) f g = refl

two : {A B C D : Type 0} (m : Read A) (n : Reader B) (f : A → B → C) (g : A → B → D)
    → told (onward m (λ a ws. onward (n ws) (λ b ws. got (f a b) ws))) ≡ told (onward m (λ a ws. onward (n ws) (λ b ws. got (g a b) ws)))
unfolding onward
two (got a ws) n f g = last-two (n ws) (f a) (g a)
two (fault n w) m f g = refl

pub constants : {C : Type 0} (f : Word → Option Constant → C) {text : List ℕ} (at : ℕ) {r : Out} → Tells (with_constant (words_at text at)) text r
    → Tells (onward (a_name (words_at text at)) (λ a ws. onward (a_constant ws) (λ b ws. got (f a b) ws))) text r
unfolding with_constant
constants f {text} at e = record { same = two (a_name (words_at text at)) a_constant f (λ a b. (a, b)) ∙ e.same }

-- three parts, of which the first and the last are kept, and what goes on from them
abbrev pair : {A C : Type 0} → A → C → A × C
pair a c = (a, c)

three-last : {A C D : Type 0} (a : A) (o : Read C) (g : A → C → Reader D)
    → onward o (λ c ws. g a c ws) ≡ onward (onward o (λ c ws. got (pair a c) ws)) (λ p ws. g p.0 p.1 ws)
unfolding onward
three-last a (got c ws) g = refl
three-last a (fault n w) g = refl

three-then : {A B C D : Type 0} (a : A) (n : Read B) (o : Reader C) (g : A → C → Reader D)
    → onward n (λ _ ws. onward (o ws) (λ c ws. g a c ws)) ≡ onward (onward n (λ _ ws. onward (o ws) (λ c ws. got (pair a c) ws))) (λ p ws. g p.0 p.1 ws)
unfolding onward
three-then a (got b ws) o g = three-last a (o ws) g
three-then a (fault n w) o g = refl

three : {A B C D : Type 0} (m : Read A) (n : Reader B) (o : Reader C) (g : A → C → Reader D)
    → onward m (λ a ws. onward (n ws) (λ _ ws. onward (o ws) (λ c ws. g a c ws)))
    ≡ onward (onward m (λ a ws. onward (n ws) (λ _ ws. onward (o ws) (λ c ws. got (pair a c) ws)))) (λ p ws. g p.0 p.1 ws)
unfolding onward
three (got a ws) n o g = three-then a (n ws) o g
three (fault x w) n o g = refl

-- the rest of an alternative after its labels and actions
abbrev afterwards : (ℕ → Reader Choices) → ℕ → Reader Choices
afterwards more left = on 124 then (λ ws. onward (pass ws) (λ _. more left)) else (λ ws. onward (expect 93 ws) (λ _ ws. got (record { labelled = nil; default = absent }) ws))

in_parts : (k room : ℕ) (inner : Reader Acts) (more : ℕ → Reader Choices) (ws : List Word)
    → an_alternative k room inner more ws
    ≡ onward (a_labelled k room inner ws) (λ p ws. onward (afterwards more (room - length p.0) ws)
    (λ c ws. got (record { labelled = alternative p.0 p.1 c.labelled; default = c.default }) ws))
unfolding an_alternative a_labelled
in_parts k room inner more ws =
    three (some_labels k room ws) (expect 58) inner
    (λ ls b ws. onward (afterwards more (room - length ls) ws) (λ c ws. got (record { labelled = alternative ls b c.labelled; default = c.default }) ws))

-- an alternative stops in its labels or actions
pub alternative-stops : (k room : ℕ) (inner : Reader Acts) (more : ℕ → Reader Choices) {text : List ℕ} (at : ℕ) {r : Out}
    → Tells (a_labelled k room inner (words_at text at)) text r → (r.fault ≡ 0 → ⊥) → Tells (an_alternative k room inner more (words_at text at)) text r
alternative-stops k room inner more {text} at e h = rw (in_parts k room inner more (words_at text at)) (stops _ e h)

-- its labels and actions are read, and `|` or `]` follows
pub alternative-goes : (k room left : ℕ) (inner : Reader Acts) (more : ℕ → Reader Choices) {text : List ℕ} (at : ℕ) {r s : Out}
    → Brings (LeavesBoth room left) (a_labelled k room inner (words_at text at)) text r → r.fault ≡ 0
    → Tells (afterwards more left (words_at text r.at)) text s → Tells (an_alternative k room inner more (words_at text at)) text s
alternative-goes k room left inner more {text} at b h t = rw (in_parts k room inner more (words_at text at)) (goes-from _ b h (λ a e. ends _ (rw e t)))

-- a fault has a number
pub not_none : (f : Fault) → fault_number f ≡ 0 → ⊥
not_none NoWord e = omega arith
not_none NotAllowed e = omega arith
not_none Undeclared e = omega arith
not_none Repeated e = omega arith
not_none NotWanted e = omega arith
not_none LabelRepeated e = omega arith
not_none NoCycle e = omega arith
not_none WrongReturn e = omega arith
not_none OverLimit e = omega arith
not_none Contradicts e = omega arith

-- a fault is one whatever is said of the value
pub yields-none : {A : Type 0} {P Q : A → Type 0} {text : List ℕ} {at from : ℕ} {m : ℕ → Reader A} (e : Refusal) → Yields P text at from m (failing e) → Yields Q text at from m (failing e)
yields-none e y = record { low = y.low; high = y.high; past = y.past; brings = λ k h. faulty (y.brings k h).tells (not_none e.fault) }

pub operates-none : {P Q : List Operation → Type 0} {text : List ℕ} {at left : ℕ} {seen : Seen} (e : Refusal) → Operates P text at left seen (failing e) → Operates Q text at left seen (failing e)
operates-none e y = record { low = y.low; high = y.high; past = y.past; brings = λ is z k h. faulty (y.brings is z k h).tells (not_none e.fault) }

pub sections-none : {P Q : Sections → Type 0} {text : List ℕ} {at : ℕ} {t : State} (e : Refusal) → Sections_read P text at t (failing e) → Sections_read Q text at t (failing e)
sections-none e y = record { low = y.low; high = y.high; brings = λ s q k h. faulty (y.brings s q k h).tells (not_none e.fault) }

-- what `max` gives
pub max-is : (a b : ℕ) → ord_max nat_cmp a b ≡ max a b
max-is a b = search rules

pub closes-either : (k : ℕ) → (k ≡ 59) ⊎ (k ≡ 93) → closes k ≡ true
unfolding closes
closes-either k (inl e) = rw e refl
closes-either k (inr e) = rw e refl

pub closes-both : (k : ℕ) → 124 ≤ k → k ≤ 125 → closes k ≡ true
unfolding closes
closes-both k h g = go (eqb k 124) refl where
  go : (t : Bool) → eqb k 124 ≡ t → closes k ≡ true
  go true e = rw (eqb-true k 124 e) refl
  go false e = let z : k ≡ 125 = omega (arith, eqb-false k 124 e) in rw z refl
