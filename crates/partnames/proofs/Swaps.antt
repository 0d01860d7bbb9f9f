-- The words behind what was read may be others, if the next of them is of the same kind: what was read is read again.
use mathlib.Core.Bool.{Bool}
use mathlib.Core.List.{List, [], ◌∷◌, ◌++◌}
use mathlib.Core.Option.{Option}
use mathlib.Core.Path.{◌≡◌, refl, sym, ap, ◌∙◌}
use Prim.Native.Nat.{ℕ}
use Rattle.collector.specs.Collecting.{ListIn, no_head, more_heads}
use Rattle.grammar.specs.Derived.{Took, Reference, by_name, by_string, SpellingIn, no_strings, no_spelling, one_spelling, CountIn, a_numeral, counted, EntryIn, one_entry, EntriesIn, last_entry, more_entries, GivesIn, gives_none, gives_some, TakesIn, takes_none, takes_some, OperationIn, one_operation, OperationsIn, last_operation, more_operations, SideIn, left_in, right_in, OperatorIn, one_operator, OperatorsIn, last_operator, more_operators, ListedIn, listed_in, SectionIn, inputs_in, both_in, outputs_in, errors_in, values_in, operations_in, operators_in, SectionsIn, no_section, more_sections}
use Rattle.partnames.specs.Declaring.{CommonIn}
use Rattle.syntax.specs.Reading.{peek}
use Rattle.syntax.specs.Sections.{Sofar}
use Rattle.syntax.specs.Texts.{Common}
use Rattle.syntax.specs.Written.{Entry, Operation, Operator, Section, Rule}
use Rattle.words.specs.Words.{Word}

-- ws ends in old, and words is ws with new in its place
data Swap (old new : List Word) : List Word → List Word → Type 0 where
  here : {ws words : List Word} → ws ≡ old → words ≡ new → Swap old new ws words
  more : {w : Word} {ws words vs : List Word} → vs ≡ w ∷ ws → Swap old new ws words → Swap old new vs (w ∷ words)

swap-on : {old new mid mid' ws words : List Word} → Swap mid mid' ws words → Swap old new mid mid' → Swap old new ws words
swap-on {old} {new} {words = words} (here e f) s = rw (← e) at (rw (← f) at s)
swap-on (more e s) t = more e (swap-on s t)

-- the next words are of one kind
record Alike (ws words : List Word) : Type 0 where
  pub kind : (peek ws).kind ≡ (peek words).kind

-- P is read from other words, with new behind it
record Again (old new ws : List Word) (P : List Word → Type 0) : Type 0 where
  pub words : List Word
  pub swap : Swap old new ws words
  pub alike : Alike ws words
  pub read : P words

-- nothing is read
none-again : {old new ws : List Word} {P : List Word → Type 0} → Alike old new → old ≡ ws → (Alike ws new → P new) → Again old new ws P
none-again {new = new} {ws} {P} a e p = let a' : Alike ws new = rw e at a in record { words = new; swap = here (sym e) refl; alike = a'; read = p a' }

took-again : {k : ℕ} {ws old : List Word} {w : Word} (new : List Word) → Took k ws w old → Again old new ws (λ u. Took k u w new)
unfolding peek
took-again {w = w} new t = record { words = w ∷ new; swap = more t.here (here refl refl); alike = record { kind = ap (λ (l : List Word). (peek l).kind) t.here }; read = record { here = refl; kind = t.kind } }

-- one reading after another
after : {old new mid ws : List Word} {P Q R : List Word → Type 0} (b : Again old new mid Q) (a : Again mid b.words ws P) → R a.words → Again old new ws R
after b a r = record { words = a.words; swap = swap-on a.swap b.swap; alike = a.alike; read = r }

after_two : {old new mid mid₁ ws : List Word} {P Q R S : List Word → Type 0} (c : Again old new mid₁ R) (b : Again mid₁ c.words mid Q) (a : Again mid b.words ws P) → S a.words → Again old new ws S
after_two c b a r = record { words = a.words; swap = swap-on a.swap (swap-on b.swap c.swap); alike = a.alike; read = r }

after-three : {old new mid mid₁ mid₂ ws : List Word} {P Q R S T : List Word → Type 0} (d : Again old new mid₂ S) (c : Again mid₂ d.words mid₁ R) (b : Again mid₁ c.words mid Q) (a : Again mid b.words ws P)
    → T a.words → Again old new ws T
after-three d c b a r = record { words = a.words; swap = swap-on a.swap (swap-on b.swap (swap-on c.swap d.swap)); alike = a.alike; read = r }

reference-again : {ws old : List Word} {w : Word} (new : List Word) → Reference ws w old → Again old new ws (λ u. Reference u w new)
reference-again new (by_name t) = let a = took-again new t in record { words = a.words; swap = a.swap; alike = a.alike; read = by_name a.read }
reference-again new (by_string t) = let a = took-again new t in record { words = a.words; swap = a.swap; alike = a.alike; read = by_string a.read }

-- Entries

spelling-again : {strings : Bool} {ws old : List Word} {o : Option Word} (new : List Word) → Alike old new → SpellingIn strings ws old o → Again old new ws (λ u. SpellingIn strings u new o)
spelling-again new a (no_strings e f) = none-again a f (λ _. no_strings e refl)
spelling-again new a (no_spelling e n f) = none-again a f (λ b. no_spelling e (λ k. n (b.kind ∙ k)) refl)
spelling-again new a (one_spelling e t) = let x = took-again new t in record { words = x.words; swap = x.swap; alike = x.alike; read = one_spelling e x.read }

count-again : {v n : ℕ} {ws old : List Word} (new : List Word) → Alike old new → CountIn v ws old n → Again old new ws (λ u. CountIn v u new n)
count-again new a (a_numeral t u e l) = let y = took-again new u in let x = took-again y.words t in after y x (a_numeral x.read y.read e l)
count-again new a (counted n f e l) = none-again a f (λ b. counted (λ k. n (b.kind ∙ k)) refl e l)

entry-again : {strings : Bool} {v : ℕ} {ws old : List Word} {e : Entry} (new : List Word) → Alike old new → EntryIn strings v ws old e → Again old new ws (λ u. EntryIn strings v u new e)
entry-again new a (one_entry t s n) =
    let z = count-again new a n in
    let y = spelling-again z.words z.alike s in
    let x = took-again y.words t in
    after_two z y x (one_entry x.read y.read z.read)

entries-again : {strings : Bool} {v : ℕ} {ws old : List Word} {es : List Entry} (new : List Word) → EntriesIn strings v ws old es → Again old new ws (λ u. EntriesIn strings v u new es)
entries-again new (last_entry q s) = let y = took-again new s in let x = entry-again y.words y.alike q in after y x (last_entry x.read y.read)
entries-again new (more_entries q n m) =
    let y = entries-again new m in
    let x = entry-again y.words y.alike q in
    after y x (more_entries x.read (λ k. n (y.alike.kind ∙ k)) y.read)

listed-again : {strings : Bool} {v : ℕ} {ws old : List Word} {es : List Entry} (new : List Word) → ListedIn strings v ws old es → Again old new ws (λ u. ListedIn strings v u new es)
listed-again new (listed_in t q) = let y = entries-again new q in let x = took-again y.words t in after y x (listed_in x.read y.read)

-- Operations

gives-again : {ws old : List Word} {o : Option Word} (new : List Word) → Alike old new → GivesIn ws old o → Again old new ws (λ u. GivesIn u new o)
gives-again new a (gives_none n f) = none-again a f (λ b. gives_none (λ k. n (b.kind ∙ k)) refl)
gives-again new a (gives_some t u) = let y = took-again new u in let x = took-again y.words t in after y x (gives_some x.read y.read)

takes-again : {ws old : List Word} {o : Option Word} (new : List Word) → Alike old new → TakesIn ws old o → Again old new ws (λ u. TakesIn u new o)
takes-again new a (takes_none n f) = none-again a f (λ b. takes_none (λ k. n (b.kind ∙ k)) refl)
takes-again new a (takes_some t u c) =
    let z = took-again new c in
    let y = took-again z.words u in
    let x = took-again y.words t in
    after_two z y x (takes_some x.read y.read z.read)

operation-again : {seen : List ℕ} {ws old : List Word} {o : Operation} (new : List Word) → Alike old new → OperationIn seen ws old o → Again old new ws (λ u. OperationIn seen u new o)
operation-again new a (one_operation t p g e l) =
    let z = gives-again new a g in
    let y = takes-again z.words z.alike p in
    let x = took-again y.words t in
    after_two z y x (one_operation x.read y.read z.read e l)

operations-again : {seen : List ℕ} {ws old : List Word} {os : List Operation} (new : List Word) → OperationsIn seen ws old os → Again old new ws (λ u. OperationsIn seen u new os)
operations-again new (last_operation q s) = let y = took-again new s in let x = operation-again y.words y.alike q in after y x (last_operation x.read y.read)
operations-again new (more_operations q n m) =
    let y = operations-again new m in
    let x = operation-again y.words y.alike q in
    after y x (more_operations x.read (λ k. n (y.alike.kind ∙ k)) y.read)

-- Operators

side-again : {ws old : List Word} {b : Bool} (new : List Word) → SideIn ws old b → Again old new ws (λ u. SideIn u new b)
side-again new (left_in t e) = let x = took-again new t in record { words = x.words; swap = x.swap; alike = x.alike; read = left_in x.read e }
side-again new (right_in t e) = let x = took-again new t in record { words = x.words; swap = x.swap; alike = x.alike; read = right_in x.read e }

operator-again : {ws old : List Word} {o : Operator} (new : List Word) → OperatorIn ws old o → Again old new ws (λ u. OperatorIn u new o)
operator-again new (one_operator r t e l h s m) =
    let z = reference-again new m in
    let y = side-again z.words s in
    let x = took-again y.words t in
    let w = reference-again x.words r in
    after-three z y x w (one_operator w.read x.read e l h y.read z.read)

operators-again : {ws old : List Word} {os : List Operator} (new : List Word) → OperatorsIn ws old os → Again old new ws (λ u. OperatorsIn u new os)
operators-again new (last_operator q s) = let y = took-again new s in let x = operator-again y.words q in after y x (last_operator x.read y.read)
operators-again new (more_operators q n m) =
    let y = operators-again new m in
    let x = operator-again y.words q in
    after y x (more_operators x.read (λ k. n (y.alike.kind ∙ k)) y.read)

-- Sections

section-again : {s : Sofar} {ws old : List Word} {x : Section} (new : List Word) → SectionIn s ws old x → Again old new ws (λ u. SectionIn s u new x)
section-again new (inputs_in t n q) = let y = listed-again new q in let x = took-again y.words t in after y x (inputs_in x.read (λ k. n (y.alike.kind ∙ k)) y.read)
section-again new (both_in t u q) =
    let z = listed-again new q in
    let y = took-again z.words u in
    let x = took-again y.words t in
    after_two z y x (both_in x.read y.read z.read)
section-again new (outputs_in t q) = let y = listed-again new q in let x = took-again y.words t in after y x (outputs_in x.read y.read)
section-again new (errors_in t q) = let y = listed-again new q in let x = took-again y.words t in after y x (errors_in x.read y.read)
section-again new (values_in t u q) =
    let z = listed-again new q in
    let y = took-again z.words u in
    let x = took-again y.words t in
    after_two z y x (values_in x.read y.read z.read)
section-again new (operations_in t u c q) =
    let z = operations-again new q in
    let y = took-again z.words c in
    let x = took-again y.words u in
    let w = took-again x.words t in
    after-three z y x w (operations_in w.read x.read y.read z.read)
section-again new (operators_in t e u c q) =
    let z = operators-again new q in
    let y = took-again z.words c in
    let x = took-again y.words u in
    let w = took-again x.words t in
    after-three z y x w (operators_in w.read e x.read y.read z.read)

sections-again : {s : Sofar} {ws old : List Word} {xs : List Section} (new : List Word) → Alike old new → SectionsIn s ws old xs → Again old new ws (λ u. SectionsIn s u new xs)
sections-again new a (no_section e f) = none-again a f (λ b. no_section (sym b.kind ∙ e) refl)
sections-again new a (more_sections n q m) =
    let y = sections-again new a m in
    let x = section-again y.words q in
    after y x (more_sections (λ k. n (x.alike.kind ∙ k)) x.read y.read)

-- The list needs no next word

record Swapped (old new ws : List Word) (P : List Word → Type 0) : Type 0 where
  pub words : List Word
  pub swap : Swap old new ws words
  pub read : P words

list-again : {ws old : List Word} {rs : List Rule} (new : List Word) → ListIn ws old rs → Swapped old new ws (λ u. ListIn u new rs)
list-again new (no_head e) = record { words = new; swap = here (sym e) refl; read = no_head refl }
list-again new (more_heads t u g s l) =
    let v = list-again new l in
    let z = took-again v.words s in
    let y = took-again z.words g in
    let x = took-again y.words u in
    let w = took-again x.words t in
    record { words = w.words; swap = swap-on w.swap (swap-on x.swap (swap-on y.swap (swap-on z.swap v.swap))); read = more_heads w.read x.read y.read z.read v.read }

common-again : {ws old : List Word} {c : Common} (new : List Word) → CommonIn ws old c → Swapped old new ws (λ u. CommonIn u new c)
common-again new q =
    let z = list-again new q.list in
    let y = took-again z.words q.rules in
    let x = sections-again y.words y.alike q.sections in
    record {
      words = x.words;
      swap = swap-on x.swap (swap-on y.swap z.swap);
      read = record { head = q.head; before = y.words; behind = z.words; sections = x.read; rules = y.read; list = z.read; names = q.names; few = q.few };
    }

-- The words before stay as they are, and others stand behind them

record Parts (old new ws words : List Word) : Type 0 where
  pub front : List Word
  pub was : ws ≡ front ++ old
  pub is : words ≡ front ++ new

parts : {old new ws words : List Word} → Swap old new ws words → Parts old new ws words
parts (here e f) = record { front = []; was = e; is = f }
parts (more {w = w} e s) = let p = parts s in record { front = w ∷ p.front; was = e ∙ ap (λ (l : List Word). w ∷ l) p.was; is = ap (λ (l : List Word). w ∷ l) p.is }

pub record Front (old new ws : List Word) (c : Common) : Type 0 where
  pub front : List Word
  pub is : ws ≡ front ++ old
  pub reads : CommonIn (front ++ new) new c

pub common-front : {ws old : List Word} {c : Common} (new : List Word) → CommonIn ws old c → Front old new ws c
common-front new q = let s = common-again new q in let p = parts s.swap in record { front = p.front; is = p.was; reads = rw p.is at s.read }
