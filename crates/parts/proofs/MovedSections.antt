-- The readers of sections on other words: the laws of proofs/Moved.antt along the readers, one by one.
use mathlib.Core.Bool.{Bool, true, false, ◌&&◌, ◌||◌}
use mathlib.Core.List.{List, [], ◌∷◌}
use mathlib.Core.Option.{Option, none, some}
use mathlib.Core.Path.{◌≡◌, refl, sym, ap, ◌∙◌}
use Prim.Native.Char.{code}
use Prim.Native.Nat.{ℕ, zero, suc, ◌+◌, ◌-◌, max}
use lib.Dec.{eqb, ltb}
use borrow.Author.Tests.{eqb-true}
use native.Mathlib.Omega.{arith}
use Rattle.acceptance.proofs.ReadLaws.{no-got}
use Rattle.base.specs.Bools.{and}
use Rattle.std.specs.Prelude.{if◌then◌else◌}
use Rattle.base.specs.Common.{given, bytes, same}
use Rattle.parts.proofs.Blank.{entries-length, operations-length}
use Rattle.parts.proofs.Moved.{inner, may, does, alone, Again, Carried, Carries, bind, bind-on, next, next-on, gives-a, refuses, only-may, dry, on-kind, by_word, one_word, passes, expects, a-name, one_name_lem, name-or-string, kind-same, text_same}
use Rattle.parts.proofs.MovedActions.{gives_moved}
use Rattle.parts.specs.Blank.{blank, blank_if, blank_entry, blank_entries, blank_operation, blank_operations, blank_operator, blank_operators, blank_section, blank_sections}
use Rattle.parts.specs.Moved.{move_if}
use Rattle.syntax.proofs.Ahead.{kinds-read}
use Rattle.syntax.specs.Reading.{Read, got, fault, Reader, onward, ◌>>=◌, ◌>>◌, pure, peek, pass, refuse, over, expect, a_name, small, a_number, optional}
use Rattle.syntax.specs.Sections.{a_spelling, a_count, an_entry, entries, first_of, kind_ahead, is_full, a_parameter, numbered, an_operation, some_operations, Sofar, next_of, instructions, after, token_section, a_section, Sections, some_sections, of_kind, spells, ranking, a_level, a_side, an_operator, some_operators, operator_section, mechanism_section, other_section}
use Rattle.syntax.specs.Written.{Entry, Operation, Section, inputs, outputs, both, errors, values, operations, operators}
use Rattle.words.specs.Words.{Word, twice, name, number, string, input, output, error, type, rules, value}

-- a number, a truth value: told by no place
abbrev pub itself : {A : Type 0} → A → A
itself a = a

-- Entries

spellings : {b : ℕ} {ws : List Word} (strings : Bool) → Carries b may blank_if ws (a_spelling strings) (a_spelling strings)
unfolding a_spelling move_if inner
spellings false = gives-a refl
spellings true = on-kind string (λ d. only-may (bind (passes 259 refl d) (λ ws₁ w w' p. gives-a (λ i. some (p i))))) (gives-a refl)

-- the next word as a number, or over a limit
module _ (beyond : ℕ → Bool) where
  abbrev numeral : Reader ℕ
  numeral ws = let n = value 0 (peek ws).text in if beyond n then over ws else onward (pass ws) (λ w. pure n)

  numerals : {b : ℕ} {ws : List Word} → (peek ws).kind ≡ number → Carries b alone itself ws numeral numeral
  unfolding over pass peek onward inner
  numerals d = one_word {k = number} numeral numeral refl d (λ w w' rest rest' a vs p e. go w w' rest rest' a vs p (beyond (value 0 w.text)) refl e)
    where
      go : (w w' : Word) (rest rest' : List Word) (a : ℕ) (vs : List Word) → blank w ≡ blank w' → (t : Bool) → beyond (value 0 w.text) ≡ t
          → (if t then over (w ∷ rest) else got (value 0 w.text) rest) ≡ got a vs → (vs ≡ rest) × Again itself numeral (w' ∷ rest') a rest'
      go w w' rest rest' a vs p true t e = no-got e
      go w w' rest rest' a vs p false t e =
          let x : value 0 w.text ≡ a = cc in
          let same_text = text_same w w' p in
          let q : beyond (value 0 w'.text) ≡ false = ap (λ (l : List ℕ). beyond (value 0 l)) (sym same_text) ∙ t in
          (cc, record { value = value 0 w'.text; gives = rw q; like = sym x ∙ ap (value 0) same_text })

numbers : {b : ℕ} {ws : List Word} → Carries b alone itself ws a_number a_number
unfolding a_number small
numbers = on-kind number (λ d. numerals (λ n. ltb 65535 n) d) refuses

-- a value that is counted, the same on other words
counts-on : {b : ℕ} {ws : List Word} (w w' : Word) (v : ℕ) → Carries b may itself ws (λ ws. if ltb 65535 v then fault 9 w else got v ws) (λ ws. if ltb 65535 v then fault 9 w' else got v ws)
counts-on {b} {ws} w w' v = go (ltb 65535 v)
  where
    go : (t : Bool) → Carries b may itself ws (λ ws. if t then fault 9 w else got v ws) (λ ws. if t then fault 9 w' else got v ws)
    go true = record { carries = λ a rest e. no-got e }
    go false = gives-a refl

counts : {b : ℕ} {ws : List Word} (w w' : Word) (v : ℕ) → Carries b may itself ws (a_count w v) (a_count w' v)
unfolding a_count inner
counts w w' v = on-kind (code "=") (λ d. only-may (next (passes 61 refl d) (λ ws₁. numbers))) (counts-on w w' v)

entries-one : {b : ℕ} {ws : List Word} (left : ℕ) (strings : Bool) (v : ℕ) → Carries b does blank_entry ws (an_entry left strings v) (an_entry left strings v)
unfolding an_entry blank_entry
entries-one left strings v =
    bind (one_name_lem left left (λ e. e)) (λ ws₁ w w' p.
    bind (spellings strings) (λ ws₂ s s' q.
    bind (counts w w' v) (λ ws₃ n n' r. gives-a (λ i. record { entry = p i; spelt = q i; value = r i }))))

entry_value : (e e' : Entry) → blank_entry e ≡ blank_entry e' → e.value ≡ e'.value
unfolding blank_entry
entry_value e e' p = ap (λ (x : Entry). x.value) p

entries-step : (k j left : ℕ) (strings : Bool) (v : ℕ) → ((u : ℕ) (ws : List Word) → Carries j does blank_entries ws (entries k (left - 1) strings u) (entries j (left - 1) strings u))
    → (ws : List Word) → Carries (suc j) does blank_entries ws (entries (suc k) left strings v) (entries (suc j) left strings v)
unfolding entries blank_entries inner
entries-step k j left strings v h ws =
    record {
      carries = (bind-on refl (entries-one left strings v) (λ ws₁ e e' p.
          let further : Carries j does blank_entries ws₁ (entries k (left - 1) strings (e.value + 1)) (entries j (left - 1) strings (e'.value + 1)) = rw (← entry_value e e' p) (h (e.value + 1) ws₁) in
          bind (on-kind (code ";") (λ d. next (passes 59 refl d) (λ ws₂. gives-a refl)) further)
          (λ ws₂ m m' q. gives-a (λ i. p i ∷ q i)))).carries;
    }

some_entries : (k j left : ℕ) (strings : Bool) (v : ℕ) (ws : List Word) → Carries j does blank_entries ws (entries k left strings v) (entries j left strings v)
unfolding entries
some_entries zero j left strings v ws = record { carries = refuses.carries }
some_entries (suc k) zero left strings v ws = dry (entries-step k 0 left strings v (λ u vs. some_entries k 0 (left - 1) strings u vs) ws)
some_entries (suc k) (suc j) left strings v ws = entries-step k j left strings v (λ u vs. some_entries k j (left - 1) strings u vs) ws

-- Operations

parameters : {b : ℕ} {ws : List Word} → Carries b may blank_if ws a_parameter a_parameter
unfolding a_parameter move_if inner
parameters = on-kind (code "(") (λ d. only-may (next (passes 40 refl d) (λ ws₁. bind a-name (λ ws₂ t t' p. next (expects 41 refl) (λ ws₃. gives-a (λ i. some (p i))))))) (gives-a refl)

given-same : (t t' : Option Word) → blank_if t ≡ blank_if t' → given t ≡ given t'
unfolding move_if
given-same none none e = refl
given-same none (some w) e = let z : ◌≡◌ {A = ℕ} 0 1 = cc in absurd (omega arith)
given-same (some w) none e = let z : ◌≡◌ {A = ℕ} 0 1 = cc in absurd (omega arith)
given-same (some w) (some w') e = refl

numbereds : {b : ℕ} {ws : List Word} (w w' : Word) (seen : List ℕ) → blank w ≡ blank w' → Carries b may blank_operation ws (numbered w seen) (numbered w' seen)
unfolding numbered blank_operation
numbereds w w' seen p =
    bind parameters (λ ws₁ t t' q.
    bind gives_moved (λ ws₂ g g' r.
    let x = given-same t t' q in let y = given-same g g' r in
    gives-a (λ i. record { operation = p i; takes = q i; gives = r i; instruction = first_of (x i) (y i) + of_kind (first_of (x i) (y i)) seen })))

-- the kind seen ahead is that of what is read
ahead-is : (ws rest : List Word) (w : Word) (seen : List ℕ) (o : Operation) → numbered w seen ws ≡ got o rest → kind_ahead ws ≡ some (first_of (given o.takes) (given o.gives))
unfolding numbered onward
ahead-is ws rest w seen o e = first (a_parameter ws) refl e
  where
    second : (t : Option Word) (vs : List Word) → a_parameter ws ≡ got t vs → (r : Read (Option Word)) → optional twice a_name vs ≡ r
        → onward r (λ g. let b = first_of (given t) (given g) in pure (record { operation = w; takes = t; gives = g; instruction = b + of_kind b seen })) ≡ got o rest
        → kind_ahead ws ≡ some (first_of (given o.takes) (given o.gives))
    second t vs d (got g us) f h =
        let x : record { operation = w; takes = t; gives = g; instruction = first_of (given t) (given g) + of_kind (first_of (given t) (given g)) seen } ≡ o = cc in
        kinds-read ws vs us t g d f ∙ ap (λ (z : Operation). some (first_of (given z.takes) (given z.gives))) x
    second t vs d (fault n v) f h = no-got h

    first : (r : Read (Option Word)) → a_parameter ws ≡ r
        → onward r (λ t. (◌>>=◌ (optional twice a_name) (λ g. let b = first_of (given t) (given g) in pure (record { operation = w; takes = t; gives = g; instruction = b + of_kind b seen })))) ≡ got o rest
        → kind_ahead ws ≡ some (first_of (given o.takes) (given o.gives))
    first (got t vs) d h = second t vs d (optional twice a_name vs) refl h
    first (fault n v) d h = no-got h

operation-kind : (o o' : Operation) → blank_operation o ≡ blank_operation o' → first_of (given o.takes) (given o.gives) ≡ first_of (given o'.takes) (given o'.gives)
unfolding blank_operation
operation-kind o o' p =
    let x = given-same o.takes o'.takes (ap (λ (z : Operation). z.takes) p) in
    let y = given-same o.gives o'.gives (ap (λ (z : Operation). z.gives) p) in
    λ i. first_of (x i) (y i)

operation-rest : {b : ℕ} {ws : List Word} (w w' : Word) (seen : List ℕ) → blank w ≡ blank w'
    → Carries b may blank_operation ws (λ ws. (if is_full (kind_ahead ws) seen then (λ _. fault 9 w) else numbered w seen) ws) (λ ws. (if is_full (kind_ahead ws) seen then (λ _. fault 9 w') else numbered w' seen) ws)
operation-rest {b} {ws} w w' seen p = record { carries = λ o rest e. go o rest (is_full (kind_ahead ws) seen) refl e }
  where
    go : (o : Operation) (rest : List Word) (t : Bool) → is_full (kind_ahead ws) seen ≡ t → (if t then (λ _. fault 9 w) else numbered w seen) ws ≡ got o rest
        → Carried b may blank_operation (λ ws. (if is_full (kind_ahead ws) seen then (λ _. fault 9 w') else numbered w' seen) ws) ws o rest
    go o rest true t e = no-got e
    go o rest false t e =
        let q = (numbereds {b = b} {ws = ws} w w' seen p).carries o rest e in
        record {
          ahead = q.ahead;
          some = q.some;
          again = λ ws' rest' u fuel see.
              let r = q.again ws' rest' u fuel see in
              let full : is_full (kind_ahead ws') seen ≡ false =
              ap (λ k. is_full k seen) (ahead-is ws' rest' w' seen r.value r.gives ∙ ap some (sym (operation-kind o r.value r.like)) ∙ sym (ahead-is ws rest w seen o e)) ∙ t in
              record { value = r.value; gives = rw full r.gives; like = r.like };
        }

operations-one : {b : ℕ} {ws : List Word} (left : ℕ) (seen : List ℕ) → Carries b does blank_operation ws (an_operation left seen) (an_operation left seen)
unfolding an_operation
operations-one left seen = bind (one_name_lem left left (λ e. e)) (λ ws₁ w w' p. operation-rest w w' seen p)

operation-number : (o o' : Operation) → blank_operation o ≡ blank_operation o' → o.instruction ≡ o'.instruction
unfolding blank_operation
operation-number o o' p = ap (λ (x : Operation). x.instruction) p

operations-step : (k j left : ℕ) (seen : List ℕ) → ((us : List ℕ) (ws : List Word) → Carries j does blank_operations ws (some_operations k (left - 1) us) (some_operations j (left - 1) us))
    → (ws : List Word) → Carries (suc j) does blank_operations ws (some_operations (suc k) left seen) (some_operations (suc j) left seen)
unfolding some_operations blank_operations inner
operations-step k j left seen h ws =
    record {
      carries = (bind-on refl (operations-one left seen) (λ ws₁ o o' p.
          let further : Carries j does blank_operations ws₁ (some_operations k (left - 1) (o.instruction ∷ seen)) (some_operations j (left - 1) (o'.instruction ∷ seen)) =
          rw (← operation-number o o' p) (h (o.instruction ∷ seen) ws₁) in
          bind (on-kind (code ";") (λ d. next (passes 59 refl d) (λ ws₂. gives-a refl)) further)
          (λ ws₂ m m' q. gives-a (λ i. p i ∷ q i)))).carries;
    }

some-operations : (k j left : ℕ) (seen : List ℕ) (ws : List Word) → Carries j does blank_operations ws (some_operations k left seen) (some_operations j left seen)
unfolding some_operations
some-operations zero j left seen ws = record { carries = refuses.carries }
some-operations (suc k) zero left seen ws = dry (operations-step k 0 left seen (λ u vs. some-operations k 0 (left - 1) u vs) ws)
some-operations (suc k) (suc j) left seen ws = operations-step k j left seen (λ u vs. some-operations k j (left - 1) u vs) ws

-- Operators

spells-same : (s : List ℕ) (vs vs' : List Word) → blank (peek vs) ≡ blank (peek vs') → spells s vs ≡ spells s vs'
unfolding spells
spells-same s vs vs' p = let x = kind-same (peek vs) (peek vs') p in let y = text_same (peek vs) (peek vs') p in λ i. eqb (x i) name && same (y i) s

spelt-name : (s : List ℕ) (ws : List Word) → spells s ws ≡ true → (peek ws).kind ≡ name
unfolding spells
spelt-name s ws t = eqb-true (peek ws).kind name (and (eqb (peek ws).kind name) (same (peek ws).text s) t).0

spelt : {b : ℕ} {ws : List Word} (s : List ℕ) → spells s ws ≡ true → Carries b alone blank ws pass pass
unfolding inner
spelt {ws = ws} s t = passes name refl (spelt-name s ws t)

levels : {b : ℕ} {ws : List Word} → Carries b alone itself ws a_level a_level
unfolding a_level ranking
levels = on-kind number (λ d. numerals (λ n. eqb n 0 || ltb 15 n) d) refuses

sides : {b : ℕ} {ws : List Word} → Carries b does itself ws a_side a_side
unfolding a_side
sides =
    record {
      carries = (by_word (spells (bytes "left")) other other (spells-same (bytes "left")) refl (λ t. next (spelt (bytes "left") t) (λ ws₁. gives-a refl))
          (by_word (spells (bytes "right")) (λ _. refuse) (λ _. refuse) (spells-same (bytes "right")) refl (λ t. next (spelt (bytes "right") t) (λ ws₁. gives-a refl)) refuses)).carries;
    }
  where
    other : List Word → Reader Bool
    other ws = if spells (bytes "right") ws then (◌>>◌ pass (pure true)) else refuse

operators-one : {b : ℕ} {ws : List Word} → Carries b does blank_operator ws an_operator an_operator
unfolding an_operator blank_operator
operators-one =
    bind name-or-string (λ ws₁ t t' p.
    bind levels (λ ws₂ l l' q.
    bind sides (λ ws₃ s s' r.
    bind name-or-string (λ ws₄ o o' z. gives-a (λ i. record { token = p i; level = q i; right = r i; emits = z i })))))

operators-step : (k j : ℕ) → ((ws : List Word) → Carries j does blank_operators ws (some_operators k) (some_operators j)) → (ws : List Word) → Carries (suc j) does blank_operators ws (some_operators (suc k)) (some_operators (suc j))
unfolding some_operators blank_operators inner
operators-step k j h ws =
    record {
      carries = (bind-on refl operators-one (λ ws₁ o o' p.
          bind (on-kind (code ";") (λ d. next (passes 59 refl d) (λ ws₂. gives-a refl)) (h ws₁))
          (λ ws₂ m m' q. gives-a (λ i. p i ∷ q i)))).carries;
    }

some_operators_lem : (k j : ℕ) (ws : List Word) → Carries j does blank_operators ws (some_operators k) (some_operators j)
unfolding some_operators
some_operators_lem zero j ws = record { carries = refuses.carries }
some_operators_lem (suc k) zero ws = dry (operators-step k 0 (λ vs. some_operators_lem k 0 vs) ws)
some_operators_lem (suc k) (suc j) ws = operators-step k j (λ vs. some_operators_lem k j vs) ws

-- Sections

-- a colon, entries, and a section made of them
listed : {b : ℕ} {ws : List Word} (k left : ℕ) (strings : Bool) (v : ℕ) (make make' : List Entry → Section) → ((es es' : List Entry) → blank_entries es ≡ blank_entries es' → blank_section (make es) ≡ blank_section (make' es'))
    → Carries b does blank_section ws (◌>>◌ (expect (code ":")) (◌>>=◌ (entries k left strings v) (λ es. pure (make es)))) (◌>>◌ (expect (code ":")) (◌>>=◌ (entries b left strings v) (λ es. pure (make' es))))
unfolding inner
listed {b} k left strings v make make' h = next (expects 58 refl) (λ ws₁. bind (some_entries k b left strings v ws₁) (λ ws₂ es es' p. gives-a (h es es' p)))

tokens : {b : ℕ} {ws : List Word} (k : ℕ) (s : Sofar) → Carries b does blank_section ws (token_section k s) (token_section b s)
unfolding token_section blank_section inner
tokens k s =
    on-kind output (λ d. next (passes 261 refl d) (λ ws₁. listed k s.left true (max s.input s.output) both both (λ es es' p. λ i. both (p i))))
    (listed k s.left true s.input inputs inputs (λ es es' p. λ i. inputs (p i)))

operator-sections : {b : ℕ} {ws : List Word} (k : ℕ) (s : Sofar) → Carries b does blank_section ws (operator_section k s) (operator_section b s)
unfolding operator_section blank_section inner
operator-sections {b} k s =
    bind (one_name_lem s.left s.left (λ e. e)) (λ ws₁ w w' p.
    next (expects 58 refl) (λ ws₂. bind (some_operators_lem k b ws₂) (λ ws₃ os os' q. gives-a (λ i. operators (p i) (q i)))))

mechanisms : {b : ℕ} {ws : List Word} (k : ℕ) (s : Sofar) → Carries (suc b) does blank_section ws (mechanism_section k s) (mechanism_section b s)
unfolding mechanism_section blank_section inner
mechanisms {b} k s =
    next-on refl (expects 264 refl) (λ ws₁. next a-name (λ ws₂. next (expects 58 refl) (λ ws₃.
    bind (some-operations k b s.left s.seen ws₃) (λ ws₄ os os' q. gives-a (λ i. operations (q i))))))

sections-one : {b : ℕ} {ws : List Word} (k : ℕ) (s : Sofar) → Carries (suc b) does blank_section ws (a_section k s) (a_section b s)
unfolding a_section other_section blank_section inner
sections-one {b} k s =
    on-kind input (λ d. next-on refl (passes 260 refl d) (λ ws₁. tokens k s))
    (on-kind output (λ d. next-on refl (passes 261 refl d) (λ ws₁. listed k s.left true s.output outputs outputs (λ es es' p. λ i. outputs (p i))))
    (on-kind error (λ d. next-on refl (passes 262 refl d) (λ ws₁. listed k s.left false s.error errors errors (λ es es' p. λ i. errors (p i))))
    (on-kind type (λ d. next-on refl (passes 263 refl d) (λ ws₁. bind (one_name_lem s.left s.left (λ e. e)) (λ ws₂ w w' q.
    listed k (s.left - 1) false 0 (values w) (values w') (λ es es' p. λ i. values (q i) (p i)))))
    (record {
      carries = (by_word (spells (bytes "operators")) (λ _. mechanism_section k s) (λ _. mechanism_section b s) (spells-same (bytes "operators")) refl
          (λ t. next-on refl (spelt (bytes "operators") t) (λ ws₁. operator-sections k s)) (mechanisms k s)).carries;
    }))))

-- what is counted on is told by no place
next-blank : (n : ℕ) (es : List Entry) → next_of n (blank_entries es) ≡ next_of n es
unfolding next_of blank_entries blank_entry
next-blank n [] = refl
next-blank n (e ∷ es) = next-blank (max n (e.value + 1)) es

instructions-blank : (os : List Operation) → instructions (blank_operations os) ≡ instructions os
unfolding instructions blank_operations blank_operation
instructions-blank [] = refl
instructions-blank (o ∷ os) = ap (λ (l : List ℕ). o.instruction ∷ l) (instructions-blank os)

after-blank : (s : Sofar) (x : Section) → after s (blank_section x) ≡ after s x
unfolding after blank_section
after-blank s (inputs es) = rw (entries-length es, next-blank s.input es)
after-blank s (outputs es) = rw (entries-length es, next-blank s.output es)
after-blank s (both es) = rw (entries-length es, next-blank s.input es, next-blank s.output es)
after-blank s (errors es) = rw (entries-length es, next-blank s.error es)
after-blank s (values w es) = rw (entries-length es)
after-blank s (operations os) = rw (operations-length os, instructions-blank os)
after-blank s (operators w os) = refl

unfoldable pub blank_all : Sections → Sections
blank_all x = record { sections = blank_sections x.sections; left = x.left }

sections-step : (k j : ℕ) (s : Sofar) → ((u : Sofar) (ws : List Word) → Carries j may blank_all ws (some_sections k u) (some_sections j u)) → (ws : List Word) → Carries (suc j) may blank_all ws (some_sections (suc k) s) (some_sections (suc j) s)
unfolding some_sections blank_all blank_sections
sections-step k j s h ws =
    record {
      carries = (on-kind {A = Sections} {bl = blank_all} rules (λ d. gives-a refl) (only-may (bind-on refl (sections-one k s) (λ ws₁ x x' p.
          let same_after : after s x ≡ after s x' = sym (after-blank s x) ∙ ap (after s) p ∙ after-blank s x' in
          let further : Carries j may blank_all ws₁ (some_sections k (after s x)) (some_sections j (after s x')) = rw (← same_after) (h (after s x) ws₁) in
          bind further (λ ws₂ m m' q. gives-a (λ i. record { sections = p i ∷ (q i).sections; left = (q i).left })))))).carries;
    }

pub some-sections : (k j : ℕ) (s : Sofar) (ws : List Word) → Carries j may blank_all ws (some_sections k s) (some_sections j s)
unfolding some_sections
some-sections zero j s ws = record { carries = refuses.carries }
some-sections (suc k) zero s ws = dry (sections-step k 0 s (λ u vs. some-sections k 0 u vs) ws)
some-sections (suc k) (suc j) s ws = sections-step k j s (λ u vs. some-sections k j u vs) ws
