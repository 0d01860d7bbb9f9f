-- A text that is understood has a word `rules`: what stands before it is sections, and each of their words was taken.
use mathlib.Core.Bool.{Bool}
use mathlib.Core.List.{List}
use mathlib.Core.Logic.{inl, inr}
use mathlib.Core.Option.{Option}
use mathlib.Core.Path.{◌≡◌, refl}
use Prim.Native.Nat.{ℕ}
use native.Mathlib.Omega.{arith}
use Rattle.grammar.proofs.ProgramIn.{parse-in}
use Rattle.grammar.specs.Derived.{Took, Reference, by_name, by_string, SpellingIn, no_strings, no_spelling, one_spelling, CountIn, a_numeral, counted, EntryIn, one_entry, EntriesIn, last_entry, more_entries, GivesIn, gives_none, gives_some, TakesIn, takes_none, takes_some, OperationIn, one_operation, OperationsIn, last_operation, more_operations, SideIn, left_in, right_in, OperatorIn, one_operator, OperatorsIn, last_operator, more_operators, ListedIn, listed_in, SectionIn, inputs_in, both_in, outputs_in, errors_in, values_in, operations_in, operators_in, SectionsIn, no_section, more_sections, ProgramIn, a_program}
use Rattle.processor.specs.Process.{meaning, read_in, understood}
use Rattle.program.specs.Program.{Rule}
use Rattle.syntax.specs.Parse.{parse}
use Rattle.syntax.specs.Reading.{Read, got, fault}
use Rattle.syntax.specs.Sections.{Sofar}
use Rattle.syntax.specs.Written.{Entry, Operation, Operator, Section, Program}
use Rattle.words.specs.Words.{Word, words}
use Rattle.carrier.specs.Sections.{HasRules}

took : {k : ℕ} {ws : List Word} {w : Word} {ws' : List Word} → Took k ws w ws' → HasRules ws' → HasRules ws
unfolding HasRules
took t h = rw t.here (inr h)

stayed : {ws ws' : List Word} → ws' ≡ ws → HasRules ws' → HasRules ws
stayed e h = rw e at h

reference : {ws ws' : List Word} {w : Word} → Reference ws w ws' → HasRules ws' → HasRules ws
reference (by_name t) h = took t h
reference (by_string t) h = took t h

spelling : {strings : Bool} {ws ws' : List Word} {o : Option Word} → SpellingIn strings ws ws' o → HasRules ws' → HasRules ws
spelling (no_strings e d) h = stayed d h
spelling (no_spelling e n d) h = stayed d h
spelling (one_spelling e t) h = took t h

valued : {v n : ℕ} {ws ws' : List Word} → CountIn v ws ws' n → HasRules ws' → HasRules ws
valued (a_numeral s d e l) h = took s (took d h)
valued (counted n d e l) h = stayed d h

entry : {strings : Bool} {v : ℕ} {ws ws' : List Word} {e : Entry} → EntryIn strings v ws ws' e → HasRules ws' → HasRules ws
entry (one_entry t s c) h = took t (spelling s (valued c h))

entries : {strings : Bool} {v : ℕ} {ws ws' : List Word} {es : List Entry} → EntriesIn strings v ws ws' es → HasRules ws' → HasRules ws
entries (last_entry e t) h = entry e (took t h)
entries (more_entries e n es) h = entry e (entries es h)

gives : {ws ws' : List Word} {o : Option Word} → GivesIn ws ws' o → HasRules ws' → HasRules ws
gives (gives_none n d) h = stayed d h
gives (gives_some s t) h = took s (took t h)

takes : {ws ws' : List Word} {o : Option Word} → TakesIn ws ws' o → HasRules ws' → HasRules ws
takes (takes_none n d) h = stayed d h
takes (takes_some s t u) h = took s (took t (took u h))

operation : {seen : List ℕ} {ws ws' : List Word} {o : Operation} → OperationIn seen ws ws' o → HasRules ws' → HasRules ws
operation (one_operation t k g e l) h = took t (takes k (gives g h))

operations-back : {seen : List ℕ} {ws ws' : List Word} {os : List Operation} → OperationsIn seen ws ws' os → HasRules ws' → HasRules ws
operations-back (last_operation o t) h = operation o (took t h)
operations-back (more_operations o n os) h = operation o (operations-back os h)

side : {ws ws' : List Word} {b : Bool} → SideIn ws ws' b → HasRules ws' → HasRules ws
side (left_in t e) h = took t h
side (right_in t e) h = took t h

operator : {ws ws' : List Word} {o : Operator} → OperatorIn ws ws' o → HasRules ws' → HasRules ws
operator (one_operator r d e l m s u) h = reference r (took d (side s (reference u h)))

operators-back : {ws ws' : List Word} {os : List Operator} → OperatorsIn ws ws' os → HasRules ws' → HasRules ws
operators-back (last_operator o t) h = operator o (took t h)
operators-back (more_operators o n os) h = operator o (operators-back os h)

listed : {strings : Bool} {v : ℕ} {ws ws' : List Word} {es : List Entry} → ListedIn strings v ws ws' es → HasRules ws' → HasRules ws
listed (listed_in t es) h = took t (entries es h)

section : {s : Sofar} {ws ws' : List Word} {x : Section} → SectionIn s ws ws' x → HasRules ws' → HasRules ws
section (inputs_in t n l) h = took t (listed l h)
section (both_in t u l) h = took t (took u (listed l h))
section (outputs_in t l) h = took t (listed l h)
section (errors_in t l) h = took t (listed l h)
section (values_in t u l) h = took t (took u (listed l h))
section (operations_in t u v os) h = took t (took u (took v (operations-back os h)))
section (operators_in t e u v os) h = took t (took u (took v (operators-back os h)))

sections : {s : Sofar} {ws ws' : List Word} {xs : List Section} → SectionsIn s ws ws' xs → HasRules ws' → HasRules ws
sections (no_section k d) h = stayed d h
sections (more_sections n x xs) h = section x (sections xs h)

program : {ws : List Word} {p : Program} → ProgramIn ws p → HasRules ws
unfolding HasRules
program (a_program s t r e f n) = sections s (rw t.here (inl t.kind))

pub has_rules : (text : List ℕ) (prog : List Rule) → understood text ≡ meaning prog → HasRules (words text)
unfolding understood read_in
has_rules text prog e = go (parse text) refl e
  where
    go : (r : Read Program) → parse text ≡ r → read_in r ≡ meaning prog → HasRules (words text)
    go (got p vs) d f = program (parse-in text p vs d)
    go (fault n w) d f = let z : ◌≡◌ {A = ℕ} 0 1 = cc in absurd (omega arith)
