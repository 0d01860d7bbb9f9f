-- What the readers of sections give has a derivation from the words that they read, and declares no more names than are left.
use mathlib.Core.Bool.{Bool, true, false, ◌||◌}
use mathlib.Core.List.{List, [], ◌∷◌}
use mathlib.Core.Option.{Option, none, some}
use mathlib.Core.Path.{◌≡◌, refl, sym, ap, ◌∙◌}
use Prim.Native.Char.{code}
use Prim.Native.Nat.{ℕ, zero, suc, ◌+◌, ◌-◌, ◌<◌, ◌≤◌, max}
use lib.Dec.{eqb, ltb}
use lib.ListN.{length}
use borrow.Author.Tests.{ltb-false, eq-eqb, ne_eqb, eqb-true, eqb-false}
use native.Mathlib.Omega.{arith}
use Rattle.base.proofs.Laws.{neither, above_zero, same-eq}
use Rattle.std.specs.Prelude.{if◌then◌else◌}
use Rattle.base.specs.Common.{given, bytes, same}
use Rattle.grammar.specs.Derived.{Took, Not, SpellingIn, no_strings, no_spelling, one_spelling, CountIn, a_numeral, counted, EntryIn, one_entry, EntriesIn, last_entry, more_entries, GivesIn, gives_none, gives_some, TakesIn, takes_none, takes_some, OperationIn, one_operation, OperationsIn, last_operation, more_operations, ListedIn, listed_in, SectionIn, inputs_in, both_in, outputs_in, errors_in, values_in, operations_in, SectionsIn, no_section, more_sections, names_in, names_in_all, SideIn, left_in, right_in, OperatorIn, one_operator, OperatorsIn, last_operator, more_operators, operators_in}
use Rattle.grammar.proofs.Laws.{From, no-got, bind, next, gives, refuses, either, on-kind, weaken, passes, expects, a-name, Named, one_name_lem, name-or-string}
use Rattle.syntax.proofs.Ahead.{kind-read, room-left}
use Rattle.syntax.specs.Reading.{got, fault, onward, ◌>>=◌, ◌>>◌, pure, peek, pass, refuse, over, on◌then◌else◌, expect, a_name, one_name, small, a_number, optional, name_or_string}
use Rattle.syntax.specs.Sections.{a_spelling, a_count, an_entry, entries, first_of, kind_ahead, is_full, a_parameter, numbered, an_operation, some_operations, Sofar, after, token_section, a_section, Sections, some_sections, spells, ranking, a_level, a_side, an_operator, some_operators, operator_section, mechanism_section, other_section}
use Rattle.syntax.specs.Written.{Entry, Operation, Section, inputs, outputs, both, errors, values, operations, Operator, operators}
use Rattle.words.specs.Words.{Word, twice, number, string, input, output, error, type, mechanism, rules, value}
use Rattle.base.specs.Bools.{and}

-- Entries

spelling-in : {ws : List Word} (strings : Bool) → From ws (a_spelling strings) (λ rest s. SpellingIn strings ws rest s)
unfolding a_spelling
spelling-in false = gives none (no_strings refl refl)
spelling-in true =
    on-kind string _ _ (λ d. bind pass _ (passes 259 refl d) (λ ws₁ w t. gives (some w) (one_spelling refl t)))
    (λ n. gives none (no_spelling refl n refl))

-- a number and its value
record Number (ws rest : List Word) (n : ℕ) : Type 0 where
  pub digits : Word
  pub word : Took 258 ws digits rest
  pub same : n ≡ value 0 digits.text
  pub low : n ≤ 65535

-- the next word is the one that was taken
pub peek-took : {k : ℕ} {ws rest : List Word} {w : Word} → Took k ws w rest → peek ws ≡ w
unfolding peek
peek-took {w = w} t = rw t.here refl

small-in : {ws : List Word} → (peek ws).kind ≡ 258 → From ws small (λ rest n. Number ws rest n)
unfolding small over
small-in {ws} d = record { holds = λ rest n e. go rest n (ltb 65535 v) refl e }
  where
    v : ℕ
    v = value 0 (peek ws).text

    read : v ≤ 65535 → From ws (◌>>=◌ pass (λ w. pure v)) (λ rest n. Number ws rest n)
    read h = bind pass _ (passes 258 refl d) (λ ws₁ w t. gives v (record { digits = w; word = t; same = ap (λ u. value 0 u.text) (peek-took t); low = h }))

    go : (rest : List Word) (n : ℕ) (t : Bool) → ltb 65535 v ≡ t → (if t then over ws else onward (pass ws) (λ w. pure v)) ≡ got n rest → Number ws rest n
    go rest n true t e = no-got e
    go rest n false t e = (read (let h = ltb-false 65535 v t in omega arith)).holds rest n e

number_in : {ws : List Word} → From ws a_number (λ rest n. Number ws rest n)
unfolding a_number
number_in = on-kind number small refuse (λ d. small-in d) (λ _. refuses)

count-in : {ws : List Word} (w : Word) (v : ℕ) → From ws (a_count w v) (λ rest n. CountIn v ws rest n)
unfolding a_count
count-in {ws} w v =
    on-kind (code "=") _ _
    (λ d. next pass _ (passes 61 refl d) (λ ws₁ sign t. weaken number_in (λ rest n m. a_numeral t m.word m.same m.low)))
    (λ n. record { holds = λ rest a e. go n rest a (ltb 65535 v) refl e })
  where
    go : Not 61 ws → (rest : List Word) (a : ℕ) (t : Bool) → ltb 65535 v ≡ t → (if t then fault 9 w else got v ws) ≡ got a rest → CountIn v ws rest a
    go n rest a true t e = no-got e
    go n rest a false t e =
        let h = ltb-false 65535 v t in let x : v ≡ a = cc in let y : ws ≡ rest = cc in
        counted n (sym y) (sym x) (omega arith)

-- an entry, where `left` more names may be declared
record OneEntry (strings : Bool) (v left : ℕ) (ws rest : List Word) (e : Entry) : Type 0 where
  pub entry : EntryIn strings v ws rest e
  pub some_left : 0 < left

entry_in : {ws : List Word} (left : ℕ) (strings : Bool) (v : ℕ) → From ws (an_entry left strings v) (λ rest e. OneEntry strings v left ws rest e)
unfolding an_entry
entry_in left strings v =
    bind (one_name left) _ (one_name_lem left) (λ ws₁ w t.
    bind (a_spelling strings) _ (spelling-in strings) (λ ws₂ s u.
    bind (a_count w v) _ (count-in w v) (λ ws₃ n m.
    gives (record { entry = w; spelt = s; value = n }) (record { entry = one_entry t.word u m; some_left = t.some_left }))))

-- entries and how many
record SomeEntries (strings : Bool) (v left : ℕ) (ws rest : List Word) (es : List Entry) : Type 0 where
  pub entries : EntriesIn strings v ws rest es
  pub few : length es ≤ left

-- what stands behind an entry
data BehindEntry (strings : Bool) (v left : ℕ) (ws rest : List Word) : List Entry → Type 0 where
  entry-last : {w : Word} → Took 59 ws w rest → BehindEntry strings v left ws rest []
  entry_more : {es : List Entry} → Not 59 ws → SomeEntries strings v left ws rest es → BehindEntry strings v left ws rest es

with-entry : {strings : Bool} {v left : ℕ} {ws ws₁ rest : List Word} {e : Entry} {es : List Entry}
    → OneEntry strings v left ws ws₁ e → BehindEntry strings (e.value + 1) (left - 1) ws₁ rest es → SomeEntries strings v left ws rest (e ∷ es)
with-entry x (entry-last t) = record { entries = last_entry x.entry t; few = let h = x.some_left in omega arith }
with-entry x (entry_more n m) = record { entries = more_entries x.entry n m.entries; few = let h = x.some_left in let g = m.few in omega arith }

entries-in : {ws : List Word} (k left : ℕ) (strings : Bool) (v : ℕ) → From ws (entries k left strings v) (λ rest es. SomeEntries strings v left ws rest es)
unfolding entries
entries-in zero left strings v = refuses
entries-in (suc k) left strings v =
    bind (an_entry left strings v) _ (entry_in left strings v) (λ ws₁ e x.
    bind (on code ";" then (◌>>◌ pass (pure [])) else entries k (left - 1) strings (e.value + 1)) _
    (on-kind (code ";") _ _ (λ d. next pass _ (passes 59 refl d) (λ ws₂ w t. gives [] (entry-last t)))
    (λ n. weaken (entries-in k (left - 1) strings (e.value + 1)) (λ rest es m. entry_more n m)))
    (λ ws₂ es b. gives (e ∷ es) (with-entry x b)))

-- Operations

takes-in : {ws : List Word} → From ws a_parameter (λ rest t. TakesIn ws rest t)
unfolding a_parameter
takes-in =
    on-kind (code "(") _ _
    (λ d. next pass _ (passes 40 refl d) (λ ws₁ opening t.
    bind a_name _ a-name (λ ws₂ w u.
    next (expect (code ")")) _ (expects 41 refl) (λ ws₃ close v. gives (some w) (takes_some t u v)))))
    (λ n. gives none (takes_none n refl))

pub gives-in : {ws : List Word} → From ws (optional twice a_name) (λ rest g. GivesIn ws rest g)
unfolding optional
gives-in =
    on-kind twice _ _ (λ d. next pass _ (passes 256 refl d) (λ ws₁ sign t. bind a_name _ a-name (λ ws₂ w u. gives (some w) (gives_some t u))))
    (λ n. gives none (gives_none n refl))

-- the operation is of the kind that was seen ahead
kind-in : {ws : List Word} → From ws a_parameter (λ rest t. TakesIn ws rest t × (kind_ahead ws ≡ some (first_of (given t) (eqb (peek rest).kind twice))))
kind-in {ws} = record { holds = λ rest t e. (takes-in.holds rest t e, kind-read ws rest t e) }

-- the type is there exactly if `>>` is
given-in : {ws rest : List Word} {g : Option Word} → GivesIn ws rest g → given g ≡ eqb (peek ws).kind twice
given-in {ws} (gives_none n d) = sym (ne_eqb (peek ws).kind 256 n)
given-in {ws} (gives_some t u) = sym (eq-eqb (peek ws).kind 256 (ap (λ w. w.kind) (peek-took t) ∙ t.kind))

-- an operation, where `left` more names may be declared
record OneOperation (seen : List ℕ) (left : ℕ) (ws rest : List Word) (o : Operation) : Type 0 where
  pub operation : OperationIn seen ws rest o
  pub some_left : 0 < left

-- the instruction number, by the kind
numbered-in : {ws ws₁ : List Word} {w : Word} {left : ℕ} (seen : List ℕ) → Named left ws ws₁ w → is_full (kind_ahead ws₁) seen ≡ false
    → From ws₁ (numbered w seen) (λ rest o. OneOperation seen left ws rest o)
unfolding numbered
numbered-in {ws} {ws₁} {w} seen x u =
    bind a_parameter _ kind-in (λ ws₂ t y.
    bind (optional twice a_name) _ gives-in (λ ws₃ g z.
    let d = room-left seen (kind_ahead ws₁) (first_of (given t) (given g)) (y.1 ∙ ap (λ c. some (first_of (given t) c)) (sym (given-in z))) u in
    gives _ (record { operation = one_operation x.word y.0 z refl (omega arith); some_left = x.some_left })))

operation_inside : {ws : List Word} (left : ℕ) (seen : List ℕ) → From ws (an_operation left seen) (λ rest o. OneOperation seen left ws rest o)
unfolding an_operation
operation_inside left seen =
    bind (one_name left) _ (one_name_lem left) (λ ws₁ w x.
    record { holds = (either (is_full (kind_ahead ws₁) seen) (λ _. fault 9 w) (numbered w seen) (λ _. record { holds = λ rest o e. no-got e }) (λ u. numbered-in seen x u)).holds })

-- operations and how many
record SomeOperations (seen : List ℕ) (left : ℕ) (ws rest : List Word) (os : List Operation) : Type 0 where
  pub operations : OperationsIn seen ws rest os
  pub few : length os ≤ left

-- what stands behind an operation
data BehindOperation (seen : List ℕ) (left : ℕ) (ws rest : List Word) : List Operation → Type 0 where
  operation-last : {w : Word} → Took 59 ws w rest → BehindOperation seen left ws rest []
  operation-more : {os : List Operation} → Not 59 ws → SomeOperations seen left ws rest os → BehindOperation seen left ws rest os

with-operation : {seen : List ℕ} {left : ℕ} {ws ws₁ rest : List Word} {o : Operation} {os : List Operation}
    → OneOperation seen left ws ws₁ o → BehindOperation (o.instruction ∷ seen) (left - 1) ws₁ rest os → SomeOperations seen left ws rest (o ∷ os)
with-operation x (operation-last t) = record { operations = last_operation x.operation t; few = let h = x.some_left in omega arith }
with-operation x (operation-more n m) = record { operations = more_operations x.operation n m.operations; few = let h = x.some_left in let g = m.few in omega arith }

some-operations-in : {ws : List Word} (k left : ℕ) (seen : List ℕ) → From ws (some_operations k left seen) (λ rest os. SomeOperations seen left ws rest os)
unfolding some_operations
some-operations-in zero left seen = refuses
some-operations-in (suc k) left seen =
    bind (an_operation left seen) _ (operation_inside left seen) (λ ws₁ o x.
    bind (on code ";" then (◌>>◌ pass (pure [])) else some_operations k (left - 1) (o.instruction ∷ seen)) _
    (on-kind (code ";") _ _ (λ d. next pass _ (passes 59 refl d) (λ ws₂ w t. gives [] (operation-last t)))
    (λ n. weaken (some-operations-in k (left - 1) (o.instruction ∷ seen)) (λ rest os m. operation-more n m)))
    (λ ws₂ os b. gives (o ∷ os) (with-operation x b)))

-- Operators

-- the next word, a name with this text
record Spelt (text : List ℕ) (ws rest : List Word) (w : Word) : Type 0 where
  pub word : Took 257 ws w rest
  pub spelt : w.text ≡ text

spelt-in : {ws : List Word} (text : List ℕ) → spells text ws ≡ true → From ws pass (λ rest w. Spelt text ws rest w)
unfolding spells
spelt-in {ws} text t =
    let x = and (eqb (peek ws).kind 257) (same (peek ws).text text) t in
    weaken (passes 257 refl (eqb-true (peek ws).kind 257 x.0)) (λ rest w u. record { word = u; spelt = ap (λ v. v.text) (sym (peek-took u)) ∙ same-eq (peek ws).text text x.1 })

-- a level and its number
record Ranking (ws rest : List Word) (n : ℕ) : Type 0 where
  pub digits : Word
  pub word : Took 258 ws digits rest
  pub same : n ≡ value 0 digits.text
  pub low : 1 ≤ n
  pub high : n ≤ 15

ranking-in : {ws : List Word} → (peek ws).kind ≡ 258 → From ws ranking (λ rest n. Ranking ws rest n)
unfolding ranking over
ranking-in {ws} d = record { holds = λ rest n e. go rest n (eqb v 0 || ltb 15 v) refl e }
  where
    v : ℕ
    v = value 0 (peek ws).text

    read : 1 ≤ v → v ≤ 15 → From ws (◌>>=◌ pass (λ w. pure v)) (λ rest n. Ranking ws rest n)
    read l h = bind pass _ (passes 258 refl d) (λ ws₁ w t. gives v (record { digits = w; word = t; same = ap (λ u. value 0 u.text) (peek-took t); low = l; high = h }))

    go : (rest : List Word) (n : ℕ) (t : Bool) → (eqb v 0 || ltb 15 v) ≡ t → (if t then over ws else onward (pass ws) (λ w. pure v)) ≡ got n rest → Ranking ws rest n
    go rest n true t e = no-got e
    go rest n false t e =
        let x = neither (eqb v 0) (ltb 15 v) t in
        (read (above_zero v (eqb-false v 0 x.0)) (ltb-false 15 v x.1)).holds rest n e

level_in : {ws : List Word} → From ws a_level (λ rest n. Ranking ws rest n)
unfolding a_level
level_in = on-kind number ranking refuse (λ d. ranking-in d) (λ _. refuses)

side-in : {ws : List Word} → From ws a_side (λ rest b. SideIn ws rest b)
unfolding a_side
side-in {ws} =
    let second : From ws (if spells (bytes "right") ws then (◌>>◌ pass (pure true)) else refuse) (λ rest b. SideIn ws rest b) =
    either (spells (bytes "right") ws) (◌>>◌ pass (pure true)) refuse (λ t. next pass _ (spelt-in (bytes "right") t) (λ ws₁ w u. gives true (right_in u.word u.spelt))) (λ _. refuses) in
    let all : From ws (if spells (bytes "left") ws then (◌>>◌ pass (pure false)) else (if spells (bytes "right") ws then (◌>>◌ pass (pure true)) else refuse)) (λ rest b. SideIn ws rest b) =
    either (spells (bytes "left") ws) (◌>>◌ pass (pure false)) _ (λ t. next pass _ (spelt-in (bytes "left") t) (λ ws₁ w u. gives false (left_in u.word u.spelt))) (λ _. second) in
    record { holds = λ rest b e. all.holds rest b e }

operator-in : {ws : List Word} → From ws an_operator (λ rest o. OperatorIn ws rest o)
unfolding an_operator
operator-in =
    bind name_or_string _ name-or-string (λ ws₁ t x.
    bind a_level _ level_in (λ ws₂ l y.
    bind a_side _ side-in (λ ws₃ s z.
    bind name_or_string _ name-or-string (λ ws₄ o u.
    gives (record { token = t; level = l; right = s; emits = o }) (one_operator x y.word y.same y.low y.high z u)))))

-- what stands behind an operator
data BehindOperator (ws rest : List Word) : List Operator → Type 0 where
  operator-last : {w : Word} → Took 59 ws w rest → BehindOperator ws rest []
  operator-more : {os : List Operator} → Not 59 ws → OperatorsIn ws rest os → BehindOperator ws rest os

with-operator : {ws ws₁ rest : List Word} {o : Operator} {os : List Operator} → OperatorIn ws ws₁ o → BehindOperator ws₁ rest os → OperatorsIn ws rest (o ∷ os)
with-operator x (operator-last t) = last_operator x t
with-operator x (operator-more n m) = more_operators x n m

some-operators-in : {ws : List Word} (k : ℕ) → From ws (some_operators k) (λ rest os. OperatorsIn ws rest os)
unfolding some_operators
some-operators-in zero = refuses
some-operators-in (suc k) =
    bind an_operator _ operator-in (λ ws₁ o x.
    bind (on code ";" then (◌>>◌ pass (pure [])) else some_operators k) _
    (on-kind (code ";") _ _ (λ d. next pass _ (passes 59 refl d) (λ ws₂ w t. gives [] (operator-last t)))
    (λ n. weaken (some-operators-in k) (λ rest os m. operator-more n m)))
    (λ ws₂ os b. gives (o ∷ os) (with-operator x b)))

-- Sections

-- a section, where `s.left` more names may be declared
record OneSection (s : Sofar) (ws rest : List Word) (x : Section) : Type 0 where
  pub section : SectionIn s ws rest x
  pub few : names_in x ≤ s.left

-- a colon and entries, and how many
record Listed (strings : Bool) (v left : ℕ) (ws rest : List Word) (es : List Entry) : Type 0 where
  pub listed : ListedIn strings v ws rest es
  pub few : length es ≤ left

-- a colon, entries, and a section made of them
listed-from : {P : List Word → Section → Type 0} {ws : List Word} (k left : ℕ) (strings : Bool) (v : ℕ) (make : List Entry → Section)
    → ((rest : List Word) (es : List Entry) → Listed strings v left ws rest es → P rest (make es))
    → From ws (◌>>◌ (expect (code ":")) (◌>>=◌ (entries k left strings v) (λ es. pure (make es)))) P
listed-from k left strings v make h =
    next (expect (code ":")) _ (expects 58 refl) (λ ws₁ colon t.
    bind (entries k left strings v) _ (entries-in k left strings v) (λ ws₂ es m.
    gives (make es) (h ws₂ es (record { listed = listed_in t m.entries; few = m.few }))))

tokens-in : {ws ws₁ : List Word} {head : Word} (k : ℕ) (s : Sofar) → Took 260 ws head ws₁ → From ws₁ (token_section k s) (λ rest x. OneSection s ws rest x)
unfolding token_section names_in
tokens-in k s t =
    on-kind output _ _
    (λ d. next pass _ (passes 261 refl d) (λ ws₂ second u.
    listed-from k s.left true (max s.input s.output) both (λ rest es m. record { section = both_in t u m.listed; few = m.few })))
    (λ n. listed-from k s.left true s.input inputs (λ rest es m. record { section = inputs_in t n m.listed; few = m.few }))

operators-from : {ws ws₁ : List Word} {head : Word} (k : ℕ) (s : Sofar) → Spelt (bytes "operators") ws ws₁ head → From ws₁ (operator_section k s) (λ rest x. OneSection s ws rest x)
unfolding operator_section names_in
operators-from k s t =
    bind (one_name s.left) _ (one_name_lem s.left) (λ ws₂ w u.
    next (expect (code ":")) _ (expects 58 refl) (λ ws₃ colon v.
    bind (some_operators k) _ (some-operators-in k) (λ ws₄ os m.
    gives (operators w os) (record { section = operators_in t.word t.spelt u.word v m; few = u.some_left }))))

mechanism-from : {ws : List Word} (k : ℕ) (s : Sofar) → From ws (mechanism_section k s) (λ rest x. OneSection s ws rest x)
unfolding mechanism_section names_in
mechanism-from k s =
    next (expect mechanism) _ (expects 264 refl) (λ ws₁ head t.
    next a_name _ a-name (λ ws₂ w u.
    next (expect (code ":")) _ (expects 58 refl) (λ ws₃ colon v.
    bind (some_operations k s.left s.seen) _ (some-operations-in k s.left s.seen) (λ ws₄ os m.
    gives (operations os) (record { section = operations_in t u v m.operations; few = m.few })))))

section-in : {ws : List Word} (k : ℕ) (s : Sofar) → From ws (a_section k s) (λ rest x. OneSection s ws rest x)
unfolding a_section other_section names_in
section-in {ws} k s =
    on-kind input _ _ (λ d. next pass _ (passes 260 refl d) (λ ws₁ head t. tokens-in k s t))
    (λ _. on-kind output _ _ (λ d. next pass _ (passes 261 refl d) (λ ws₁ head t.
    listed-from k s.left true s.output outputs (λ rest es m. record { section = outputs_in t m.listed; few = m.few })))
    (λ _. on-kind error _ _ (λ d. next pass _ (passes 262 refl d) (λ ws₁ head t.
    listed-from k s.left false s.error errors (λ rest es m. record { section = errors_in t m.listed; few = m.few })))
    (λ _. on-kind type _ _ (λ d. next pass _ (passes 263 refl d) (λ ws₁ head t.
    bind (one_name s.left) _ (one_name_lem s.left) (λ ws₂ w u.
    listed-from k (s.left - 1) false 0 (values w) (λ rest es m.
    record { section = values_in t u.word m.listed; few = let h = u.some_left in let g = m.few in omega arith }))))
    (λ _. record {
      holds = (either (spells (bytes "operators") ws) (◌>>◌ pass (operator_section k s)) (mechanism_section k s)
          (λ t. next pass _ (spelt-in (bytes "operators") t) (λ ws₁ head u. operators-from k s u))
          (λ _. mechanism-from k s)).holds;
    }))))

-- each section's names are taken from those left
after-left : (s : Sofar) (x : Section) → (after s x).left ≡ s.left - names_in x
unfolding after names_in
after-left s (inputs es) = refl
after-left s (outputs es) = refl
after-left s (both es) = refl
after-left s (errors es) = refl
after-left s (values w es) = omega arith
after-left s (operations os) = refl
after-left s (operators w os) = refl

-- the sections, and the names that they leave
pub record AllSections (s : Sofar) (ws rest : List Word) (x : Sections) : Type 0 where
  pub sections-in : SectionsIn s ws rest x.sections
  pub few : names_in_all x.sections + x.left ≡ s.left

pub some-sections-in : {ws : List Word} (k : ℕ) (s : Sofar) → From ws (some_sections k s) (λ rest x. AllSections s ws rest x)
unfolding some_sections names_in_all
some-sections-in zero s = refuses
some-sections-in (suc k) s =
    on-kind rules _ _ (λ d. gives (record { sections = []; left = s.left }) (record { sections-in = no_section d refl; few = omega arith }))
    (λ n. bind (a_section k s) _ (section-in k s) (λ ws₁ x m.
    bind (some_sections k (after s x)) _ (some-sections-in k (after s x)) (λ ws₂ r ms.
    gives (record { sections = x ∷ r.sections; left = r.left })
    (record { sections-in = more_sections n m.section ms.sections-in; few = let h = after-left s x in let g = m.few in let f = ms.few in omega arith }))))
