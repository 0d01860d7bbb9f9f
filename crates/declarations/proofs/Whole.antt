-- A program's row as a whole: what is declared in it, its types, its rules and its length; which classes a part of it does not feed.
use mathlib.Core.Bool.{Bool, true, false, ◌&&◌, ◌||◌, or-false, and-false}
use mathlib.Core.List.{List, [], ◌∷◌, ◌++◌, append-nil, append_assoc}
use mathlib.Core.Option.{Option, none, some}
use mathlib.Core.Path.{◌≡◌, refl, sym, ap, ◌∙◌}
use Prim.Native.Nat.{ℕ, suc, ◌+◌, ◌<◌, ◌≤◌}
use lib.Dec.{eqb}
use lib.ListN.{length, length-append}
use lib.Seq.{append_snoc}
use borrow.Author.Tests.{ne_eqb}
use native.Mathlib.Nat.{zero-add}
use native.Mathlib.Omega.{arith}
use Rattle.std.specs.Prelude.{if◌then◌else◌}
use Rattle.base.specs.Common.{same, given}
use Rattle.declarations.proofs.Rows.{first-none, given-first, knowns-append, index-append, declared-append, decl-here}
use Rattle.declarations.specs.Decls.{Decl, of_entry, of_type, of_operation, of_operators, of_rule, entry_decls, operation_decls, section_decls, sections_decls, rule_decls, decls_of, feeds, knowns_of, knowns_in, index_of, declared_in, decl_of, rule_from, mapped}
use Rattle.grammar.specs.Derived.{names_in, names_in_all, ProgramIn, a_program}
use Rattle.names.specs.Declare.{knowns, all_knowns, inputs_of, outputs_of, known_rules}
use Rattle.names.specs.Known.{find_rule, is_word, among_entries, among_operations, among_rules, in_section, in_sections, declared, is_type}
use Rattle.syntax.specs.Written.{Entry, Operation, Section, inputs, outputs, both, errors, values, operations, operators, Operator, Rule, Program}
use Rattle.words.specs.Words.{Word}

-- Classes that a part does not feed

-- the classes of values are none of the first eight
pub high : (i k : ℕ) → k < 8 → eqb (8 + i) k ≡ false
high i k h = ne_eqb (8 + i) k (λ e. omega arith)

-- a declaration of class k does not feed c
abbrev pub Apart : ℕ → ℕ → Type 0
Apart c k = (eqb k c || (eqb k 3 && (eqb c 1 || eqb c 2))) ≡ false

apart : (c k : ℕ) → (k ≡ c → ⊥) → (c ≡ 1 → ⊥) → (c ≡ 2 → ⊥) → Apart c k
apart c k h h₁ h₂ = rw (ne_eqb k c h, ne_eqb c 1 h₁, ne_eqb c 2 h₂) (and-false (eqb k 3))

pub none-nil : (c : ℕ) → knowns_in c [] ≡ []
unfolding knowns_in
none-nil c = refl

pub none-cons : (c : ℕ) (d : Decl) (ds : List Decl) → Apart c d.class → knowns_in c ds ≡ [] → knowns_in c (d ∷ ds) ≡ []
unfolding knowns_in feeds
none-cons c d ds a h = rw a h

pub entries_none : (c k : ℕ) (es : List Entry) → Apart c k → knowns_in c (entry_decls k es) ≡ []
unfolding entry_decls
entries_none c k [] a = none-nil c
entries_none c k (e ∷ es) a = none-cons c (of_entry k e) (entry_decls k es) a (entries_none c k es a)

pub operations-none : (c : ℕ) (os : List Operation) → Apart c 6 → knowns_in c (operation_decls os) ≡ []
unfolding operation_decls
operations-none c [] a = none-nil c
operations-none c (o ∷ os) a = none-cons c (of_operation o) (operation_decls os) a (operations-none c os a)

pub rules_none : (c i : ℕ) (rs : List Rule) → Apart c 7 → knowns_in c (rule_decls i rs) ≡ []
unfolding rule_decls
rules_none c i [] a = none-nil c
rules_none c i (r ∷ rs) a = none-cons c (of_rule i r) (rule_decls (suc i) rs) a (rules_none c (suc i) rs a)

-- 0, or a class of a type's values
pub record Valued (c : ℕ) : Type 0 where
  pub low : (k : ℕ) → 1 ≤ k → k < 8 → k ≡ c → ⊥
  pub high : 600 ≡ c → ⊥

small-apart : (c k : ℕ) → Valued c → 1 ≤ k → k < 8 → Apart c k
small-apart c k v l h = apart c k (v.low k l h) (λ e. v.low 1 (omega arith) (omega arith) (sym e)) (λ e. v.low 2 (omega arith) (omega arith) (sym e))

-- a section feeds no values but those of its own type
pub section-none : (c j : ℕ) (s : Section) → Valued c → (8 + j ≡ c → length (section_decls j s) ≡ 0) → knowns_in c (section_decls j s) ≡ []
unfolding section_decls
section-none c j (inputs es) v own = entries_none c 1 es (small-apart c 1 v (omega arith) (omega arith))
section-none c j (outputs es) v own = entries_none c 2 es (small-apart c 2 v (omega arith) (omega arith))
section-none c j (both es) v own = entries_none c 3 es (small-apart c 3 v (omega arith) (omega arith))
section-none c j (errors es) v own = entries_none c 4 es (small-apart c 4 v (omega arith) (omega arith))
section-none c j (values w es) v own =
    none-cons c (of_type w) (entry_decls (8 + j) es) (small-apart c 5 v (omega arith) (omega arith))
    (entries_none c (8 + j) es (apart c (8 + j) (λ e. omega (arith, own e)) (λ e. v.low 1 (omega arith) (omega arith) (sym e)) (λ e. v.low 2 (omega arith) (omega arith) (sym e))))
section-none c j (operations os) v own = operations-none c os (small-apart c 6 v (omega arith) (omega arith))
section-none c j (operators w es) v own =
    none-cons c (of_operators w es) [] (apart c 600 v.high (λ e. v.low 1 (omega arith) (omega arith) (sym e)) (λ e. v.low 2 (omega arith) (omega arith) (sym e))) (none-nil c)

-- nor do later sections and the rules
pub later-none : (c j : ℕ) (ss : List Section) (i : ℕ) (rs : List Rule) → Valued c → c < 8 + j → knowns_in c (sections_decls j ss ++ rule_decls i rs) ≡ []
unfolding sections_decls
later-none c j [] i rs v h = rules_none c i rs (small-apart c 7 v (omega arith) (omega arith))
later-none c j (s ∷ ss) i rs v h =
    rw (append_assoc, knowns-append, section-none c j s v (λ e. absurd (omega arith)))
    (later-none c (j + length (section_decls j s)) ss i rs v (omega arith))

pub class-0 : (p : Program) → knowns_in 0 (decls_of p) ≡ []
unfolding decls_of
class-0 p = later-none 0 0 p.sections 0 p.rules (record { low = λ k l h e. omega arith; high = λ e. omega arith }) (omega arith)

-- The tokens of the whole text

pub values-apart : (j c : ℕ) → c < 5 → Apart c (8 + j)
values-apart j c h = rw (high j c (omega arith), high j 3 (omega arith))

all_known : (c k : ℕ) (es : List Entry) → (eqb k c || (eqb k 3 && (eqb c 1 || eqb c 2))) ≡ true → knowns_in c (entry_decls k es) ≡ all_knowns es
unfolding entry_decls knowns_in knowns_of feeds all_knowns knowns
all_known c k [] a = refl
all_known c k (e ∷ es) a = rw (a, all_known c k es a)

input-section : (j : ℕ) (s : Section) (ss : List Section) → inputs_of (s ∷ ss) ≡ knowns_in 1 (section_decls j s) ++ inputs_of ss
unfolding inputs_of section_decls
input-section j (inputs es) ss = rw (all_known 1 1 es refl)
input-section j (outputs es) ss = rw (entries_none 1 2 es refl)
input-section j (both es) ss = rw (all_known 1 3 es refl)
input-section j (errors es) ss = rw (entries_none 1 4 es refl)
input-section j (values w es) ss = rw (none-cons 1 (of_type w) (entry_decls (8 + j) es) refl (entries_none 1 (8 + j) es (values-apart j 1 (omega arith))))
input-section j (operations os) ss = rw (operations-none 1 os refl)
input-section j (operators w es) ss = rw (none-cons 1 (of_operators w es) [] refl (none-nil 1))

output-section : (j : ℕ) (s : Section) (ss : List Section) → outputs_of (s ∷ ss) ≡ knowns_in 2 (section_decls j s) ++ outputs_of ss
unfolding outputs_of section_decls
output-section j (inputs es) ss = rw (entries_none 2 1 es refl)
output-section j (outputs es) ss = rw (all_known 2 2 es refl)
output-section j (both es) ss = rw (all_known 2 3 es refl)
output-section j (errors es) ss = rw (entries_none 2 4 es refl)
output-section j (values w es) ss = rw (none-cons 2 (of_type w) (entry_decls (8 + j) es) refl (entries_none 2 (8 + j) es (values-apart j 2 (omega arith))))
output-section j (operations os) ss = rw (operations-none 2 os refl)
output-section j (operators w es) ss = rw (none-cons 2 (of_operators w es) [] refl (none-nil 2))

input-sections : (j : ℕ) (ss : List Section) → inputs_of ss ≡ knowns_in 1 (sections_decls j ss)
unfolding inputs_of sections_decls
input-sections j [] = sym (none-nil 1)
input-sections j (s ∷ ss) = rw (knowns-append, ← input-sections (j + length (section_decls j s)) ss) (input-section j s ss)

output-sections : (j : ℕ) (ss : List Section) → outputs_of ss ≡ knowns_in 2 (sections_decls j ss)
unfolding outputs_of sections_decls
output-sections j [] = sym (none-nil 2)
output-sections j (s ∷ ss) = rw (knowns-append, ← output-sections (j + length (section_decls j s)) ss) (output-section j s ss)

pub whole-inputs : (p : Program) → inputs_of p.sections ≡ knowns_in 1 (decls_of p)
unfolding decls_of
whole-inputs p = rw (knowns-append, rules_none 1 0 p.rules refl, append-nil) (input-sections 0 p.sections)

pub whole-outputs : (p : Program) → outputs_of p.sections ≡ knowns_in 2 (decls_of p)
unfolding decls_of
whole-outputs p = rw (knowns-append, rules_none 2 0 p.rules refl, append-nil) (output-sections 0 p.sections)

-- Names that a part does not have in a class

pub index-nil : (c : ℕ) (w : List ℕ) (i : ℕ) → index_of c w i [] ≡ none
unfolding index_of
index-nil c w i = refl

pub index-cons : (c : ℕ) (w : List ℕ) (i : ℕ) (d : Decl) (ds : List Decl) → eqb d.class c ≡ false → index_of c w i (d ∷ ds) ≡ index_of c w (suc i) ds
unfolding index_of
index-cons c w i d ds a = rw a

pub index-entries : (c : ℕ) (w : List ℕ) (i k : ℕ) (es : List Entry) → eqb k c ≡ false → index_of c w i (entry_decls k es) ≡ none
unfolding entry_decls
index-entries c w i k [] a = index-nil c w i
index-entries c w i k (e ∷ es) a = index-cons c w i (of_entry k e) (entry_decls k es) a ∙ index-entries c w (suc i) k es a

pub index-operations : (c : ℕ) (w : List ℕ) (i : ℕ) (os : List Operation) → eqb 6 c ≡ false → index_of c w i (operation_decls os) ≡ none
unfolding operation_decls
index-operations c w i [] a = index-nil c w i
index-operations c w i (o ∷ os) a = index-cons c w i (of_operation o) (operation_decls os) a ∙ index-operations c w (suc i) os a

pub index-rules : (c : ℕ) (w : List ℕ) (i k : ℕ) (rs : List Rule) → eqb 7 c ≡ false → index_of c w i (rule_decls k rs) ≡ none
unfolding rule_decls
index-rules c w i k [] a = index-nil c w i
index-rules c w i k (r ∷ rs) a = index-cons c w i (of_rule k r) (rule_decls (suc k) rs) a ∙ index-rules c w (suc i) (suc k) rs a

-- Types

of_section : List ℕ → Section → Bool
of_section w (inputs es) = false
of_section w (outputs es) = false
of_section w (both es) = false
of_section w (errors es) = false
of_section w (values t es) = same w t.text
of_section w (operations os) = false
of_section w (operators e es) = false

is-type-cons : (w : List ℕ) (s : Section) (ss : List Section) → is_type w (s ∷ ss) ≡ (of_section w s || is_type w ss)
unfolding is_type of_section
is-type-cons w (inputs es) ss = refl
is-type-cons w (outputs es) ss = refl
is-type-cons w (both es) ss = refl
is-type-cons w (errors es) ss = refl
is-type-cons w (values t es) ss = refl
is-type-cons w (operations os) ss = refl
is-type-cons w (operators e es) ss = refl

-- a row of one section of operators
pub index-operators : (c : ℕ) (w : List ℕ) (i : ℕ) (e : Word) (es : List Operator) → eqb 600 c ≡ false → index_of c w i (of_operators e es ∷ []) ≡ none
index-operators c w i e es a = index-cons c w i (of_operators e es) [] a ∙ index-nil c w (suc i)

-- the index of a type's own row
pub index-type : (w : List ℕ) (i j : ℕ) (t : Word) (es : List Entry) → index_of 5 w i (of_type t ∷ entry_decls (8 + j) es) ≡ (if same w t.text then some i else none)
unfolding index_of
index-type w i j t es = rw (index-entries 5 w (suc i) (8 + j) es (high j 5 (omega arith)))

given-if : (t : Bool) (i : ℕ) → given {A = ℕ} (if t then some i else none) ≡ t
given-if true i = refl
given-if false i = refl

type-section : (w : List ℕ) (i j : ℕ) (s : Section) → given (index_of 5 w i (section_decls j s)) ≡ of_section w s
unfolding section_decls of_section
type-section w i j (inputs es) = rw (index-entries 5 w i 1 es refl)
type-section w i j (outputs es) = rw (index-entries 5 w i 2 es refl)
type-section w i j (both es) = rw (index-entries 5 w i 3 es refl)
type-section w i j (errors es) = rw (index-entries 5 w i 4 es refl)
type-section w i j (values t es) = rw (index-type w i j t es) (given-if (same w t.text) i)
type-section w i j (operations os) = rw (index-operations 5 w i os refl)
type-section w i j (operators e es) = rw (index-operators 5 w i e es refl)

type-sections : (w : List ℕ) (i j : ℕ) (ss : List Section) → given (index_of 5 w i (sections_decls j ss)) ≡ is_type w ss
unfolding sections_decls is_type
type-sections w i j [] = rw index-nil
type-sections w i j (s ∷ ss) =
    rw (index-append, given-first, type-section w i j s, type-sections w (i + length (section_decls j s)) (j + length (section_decls j s)) ss) (sym (is-type-cons w s ss))

pub is-type : (p : Program) (w : List ℕ) → is_type w p.sections ≡ given (index_of 5 w 0 (decls_of p))
unfolding decls_of
is-type p w = rw (index-append, index-rules 5 w (0 + length (sections_decls 0 p.sections)) 0 p.rules refl, first-none) (sym (type-sections w 0 0 p.sections))

-- Declared anywhere

declared-entries : (w : List ℕ) (k : ℕ) (es : List Entry) → eqb k 6 ≡ false → declared_in w (entry_decls k es) ≡ among_entries w es
unfolding declared_in entry_decls among_entries
declared-entries w k [] a = refl
declared-entries w k (e ∷ es) a = rw (a, declared-entries w k es a)

declared-operations : (w : List ℕ) (os : List Operation) → declared_in w (operation_decls os) ≡ among_operations w os
unfolding declared_in operation_decls among_operations
declared-operations w [] = refl
declared-operations w (o ∷ os) = rw (declared-operations w os, or-false)

declared-rules : (w : List ℕ) (i : ℕ) (rs : List Rule) → declared_in w (rule_decls i rs) ≡ among_rules w rs
unfolding declared_in rule_decls among_rules is_word
declared-rules w i [] = refl
declared-rules w i (r ∷ rs) = rw (declared-rules w (suc i) rs, or-false)

declared-section : (w : List ℕ) (j : ℕ) (s : Section) → declared_in w (section_decls j s) ≡ in_section w s
unfolding section_decls in_section declared_in is_word
declared-section w j (inputs es) = declared-entries w 1 es refl
declared-section w j (outputs es) = declared-entries w 2 es refl
declared-section w j (both es) = declared-entries w 3 es refl
declared-section w j (errors es) = declared-entries w 4 es refl
declared-section w j (values t es) = rw (declared-entries w (8 + j) es (high j 6 (omega arith)), or-false)
declared-section w j (operations os) = declared-operations w os
declared-section w j (operators e es) = or-false (same w e.text || false) ∙ or-false (same w e.text)

declared-sections : (w : List ℕ) (j : ℕ) (ss : List Section) → declared_in w (sections_decls j ss) ≡ in_sections w ss
unfolding sections_decls in_sections declared_in
declared-sections w j [] = refl
declared-sections w j (s ∷ ss) = rw (declared-append, declared-section w j s, declared-sections w (j + length (section_decls j s)) ss)

pub is_declared : (p : Program) (w : List ℕ) → declared p w ≡ declared_in w (decls_of p)
unfolding decls_of declared
is_declared p w = rw (declared-append, declared-sections w 0 p.sections, declared-rules w 0 p.rules)

-- Rules

no-rule : (w : List ℕ) (i j : ℕ) (s : Section) → index_of 7 w i (section_decls j s) ≡ none
unfolding section_decls
no-rule w i j (inputs es) = index-entries 7 w i 1 es refl
no-rule w i j (outputs es) = index-entries 7 w i 2 es refl
no-rule w i j (both es) = index-entries 7 w i 3 es refl
no-rule w i j (errors es) = index-entries 7 w i 4 es refl
no-rule w i j (values t es) = index-cons 7 w i (of_type t) (entry_decls (8 + j) es) refl ∙ index-entries 7 w (suc i) (8 + j) es (high j 7 (omega arith))
no-rule w i j (operations os) = index-operations 7 w i os refl
no-rule w i j (operators e es) = index-operators 7 w i e es refl

no-rules : (w : List ℕ) (i j : ℕ) (ss : List Section) → index_of 7 w i (sections_decls j ss) ≡ none
unfolding sections_decls
no-rules w i j [] = index-nil 7 w i
no-rules w i j (s ∷ ss) = rw (index-append, no-rule w i j s) (no-rules w (i + length (section_decls j s)) (j + length (section_decls j s)) ss)

pub pick-mapped : {A B : Type 0} (t : Bool) (f : A → B) (a : A) (b : B) (x : Option A) (y : Option B) → b ≡ f a → y ≡ mapped f x
    → (if t then some b else y) ≡ mapped f (if t then some a else x)
pick-mapped true f a b x y h k = ap some h
pick-mapped false f a b x y h k = k

rules-found : (w : List ℕ) (before : List Decl) (i : ℕ) (rs : List Rule)
    → find_rule w (known_rules i rs) ≡ mapped (λ k. rule_from (decl_of (before ++ rule_decls i rs) k)) (index_of 7 w (length before) (rule_decls i rs))
unfolding find_rule known_rules rule_decls index_of
rules-found w before i [] = refl
rules-found w before i (r ∷ rs) =
    let e : length (before ++ (of_rule i r ∷ [])) ≡ suc (length before) = omega (arith, length-append before (of_rule i r ∷ [])) in
    pick-mapped (same w r.rule.text) (λ k. rule_from (decl_of (before ++ (of_rule i r ∷ rule_decls (suc i) rs)) k)) (length before)
    (rule_from (of_rule i r)) (index_of 7 w (suc (length before)) (rule_decls (suc i) rs)) (find_rule w (known_rules (suc i) rs))
    (ap rule_from (sym (decl-here before (of_rule i r) (rule_decls (suc i) rs))))
    (rw (append_snoc, e) at (rules-found w (before ++ (of_rule i r ∷ [])) (suc i) rs))

pub is_rule : (p : Program) (w : List ℕ) → find_rule w (known_rules 0 p.rules) ≡ mapped (λ i. rule_from (decl_of (decls_of p) i)) (index_of 7 w 0 (decls_of p))
unfolding decls_of
is_rule p w = rw (index-append, no-rules w 0 0 p.sections, zero-add) (rules-found w (sections_decls 0 p.sections) 0 p.rules)

-- Length

length-entries : (k : ℕ) (es : List Entry) → length (entry_decls k es) ≡ length es
unfolding entry_decls
length-entries k [] = refl
length-entries k (e ∷ es) = ap suc (length-entries k es)

length-operations : (os : List Operation) → length (operation_decls os) ≡ length os
unfolding operation_decls
length-operations [] = refl
length-operations (o ∷ os) = ap suc (length-operations os)

length-rules : (i : ℕ) (rs : List Rule) → length (rule_decls i rs) ≡ length rs
unfolding rule_decls
length-rules i [] = refl
length-rules i (r ∷ rs) = ap suc (length-rules (suc i) rs)

pub length-section : (j : ℕ) (s : Section) → length (section_decls j s) ≡ names_in s
unfolding section_decls names_in
length-section j (inputs es) = length-entries 1 es
length-section j (outputs es) = length-entries 2 es
length-section j (both es) = length-entries 3 es
length-section j (errors es) = length-entries 4 es
length-section j (values w es) = omega (arith, length-entries (8 + j) es)
length-section j (operations os) = length-operations os
length-section j (operators w es) = refl

pub length-sections : (j : ℕ) (ss : List Section) → length (sections_decls j ss) ≡ names_in_all ss
unfolding sections_decls names_in_all
length-sections j [] = refl
length-sections j (s ∷ ss) = rw (length-append, length-section j s, length-sections (j + names_in s) ss)

-- "512 names"
pub length-decls : (p : Program) → length (decls_of p) ≡ names_in_all p.sections + length p.rules
unfolding decls_of
length-decls p = rw (length-append, length-sections 0 p.sections, length-rules 0 p.rules)

pub few-decls : {ws : List Word} {p : Program} → ProgramIn ws p → length (decls_of p) ≤ 512
few-decls {ws} {p} (a_program ss h rs e few all) = omega (arith, all, length-decls p)
