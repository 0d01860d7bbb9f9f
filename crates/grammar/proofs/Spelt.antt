-- A program that is read leaves no byte or quote that makes no word: what a derivation tells of the spelling of its words.
use mathlib.Core.Bool.{Bool, true, false}
use mathlib.Core.List.{List, [], ◌∷◌}
use mathlib.Core.Option.{Option}
use mathlib.Core.Path.{◌≡◌, refl, ◌∙◌, ap}
use Prim.Native.Nat.{ℕ, min}
use lib.Dec.{eqb}
use Rattle.grammar.specs.Derived.{Took, Reference, by_name, by_string, ConstantIn, no_constant, one_constant, ValueIn, no_value, one_value, PlainIn, named_in, any_in, emit_in, error_in, exit_in, call_in, give_in, ranked_in, SelectorIn, token_in, rule_inside, operation_inside, LabelsIn, last_label, more_labels, ActIn, plain_in, cycle_in, choice_in, ActsIn, none_in, more_in, AltsIn, other_in, last_in, next_in}
use Rattle.grammar.specs.Derived.{SpellingIn, no_strings, no_spelling, one_spelling, CountIn, a_numeral, counted, EntryIn, one_entry, EntriesIn, last_entry, more_entries, GivesIn, gives_none, gives_some, TakesIn, takes_none, takes_some, OperationIn, one_operation, OperationsIn, last_operation, more_operations, SideIn, left_in, right_in, OperatorIn, one_operator, OperatorsIn, last_operator, more_operators, ListedIn, listed_in, SectionIn, inputs_in, both_in, outputs_in, errors_in, values_in, operations_in, operators_in, SectionsIn, no_section, more_sections, RuleIn, one_rule, RulesIn, last_rule, more_rules}
use Rattle.grammar.proofs.Laws.{From, bind, next, gives, expects, expects-kind}
use Rattle.grammar.proofs.ProgramIn.{rules-from}
use Rattle.grammar.proofs.SectionsIn.{some-sections-in}
use Rattle.syntax.specs.Parse.{some_rules, program}
use Rattle.syntax.specs.Reading.{peek, got, expect}
use Rattle.syntax.specs.Sections.{Sofar, nothing, some_sections}
use Rattle.syntax.specs.Written.{Constant, Plain, Selector, Act, Acts, Alts, Other, Entry, Operation, Operator, Section, Rule, Program}
use Rattle.words.specs.Before.{well_spelt}
use Rattle.words.specs.Words.{Word, bad, last, rules, end}

-- what stands from ws on is well spelt if what is left is
abbrev Spelt : List Word → List Word → Type 0
Spelt ws rest = well_spelt rest ≡ true → well_spelt ws ≡ true

not-read : {ws rest : List Word} → rest ≡ ws → Spelt ws rest
not-read d h = rw d at h

one : {k : ℕ} {ws rest : List Word} {w : Word} → eqb k bad ≡ false → Took k ws w rest → Spelt ws rest
unfolding well_spelt
one {k} {ws} {rest} {w} e t h = ap well_spelt t.here ∙ go (eqb k last) refl
  where
    go : (l : Bool) → eqb k last ≡ l → well_spelt (w ∷ rest) ≡ true
    go true d = rw (t.kind, e, d) refl
    go false d = rw (t.kind, e, d) h

reference : {ws rest : List Word} {w : Word} → Reference ws w rest → Spelt ws rest
reference (by_name t) h = one refl t h
reference (by_string t) h = one refl t h

constant : {ws rest : List Word} {c : Option Constant} → ConstantIn ws rest c → Spelt ws rest
constant (no_constant n d) h = not-read d h
constant (one_constant t r u) h = one refl t (reference r (one refl u h))

value : {ws rest : List Word} {v : Option Word} → ValueIn ws rest v → Spelt ws rest
value (no_value n m d) h = not-read d h
value (one_value r) h = reference r h

plain-spelt : {ws rest : List Word} {a : Plain} → PlainIn ws rest a → Spelt ws rest
plain-spelt (named_in r c) h = reference r (constant c h)
plain-spelt (any_in t) h = one refl t h
plain-spelt (emit_in t r) h = one refl t (reference r h)
plain-spelt (error_in t r) h = one refl t (reference r h)
plain-spelt (exit_in t) h = one refl t h
plain-spelt (call_in t u) h = one refl t (one refl u h)
plain-spelt (give_in t v) h = one refl t (value v h)
plain-spelt (ranked_in t u v x) h = one refl t (one refl u (one refl v (one refl x h)))

selector : {ws rest : List Word} {s : Selector} → SelectorIn ws rest s → Spelt ws rest
selector (token_in n m d) h = not-read d h
selector (rule_inside t u) h = one refl t (one refl u h)
selector (operation_inside t c) h = one refl t (constant c h)

labels : {ws rest ls : List Word} → LabelsIn ws rest ls → Spelt ws rest
labels (last_label r n) h = reference r h
labels (more_labels r t m) h = reference r (one refl t (labels m h))

mutual
  act : {ws rest : List Word} {a : Act} → ActIn ws rest a → Spelt ws rest
  act (plain_in p) h = plain-spelt p h
  act (cycle_in t q u) h = one refl t (acts q (one refl u h))
  act (choice_in t s u q) h = one refl t (selector s (one refl u (alternatives q h)))

  acts : {ws rest : List Word} {q : Acts} → ActsIn ws rest q → Spelt ws rest
  acts (none_in c d) h = not-read d h
  acts (more_in c a q) h = act a (acts q h)

  alternatives : {ws rest : List Word} {room : ℕ} {q : Alts} {o : Other} → AltsIn ws rest room q o → Spelt ws rest
  alternatives (other_in t u q v) h = one refl t (one refl u (acts q (one refl v h)))
  alternatives (last_in l few t q u) h = labels l (one refl t (acts q (one refl u h)))
  alternatives (next_in l few t q u m) h = labels l (one refl t (acts q (one refl u (alternatives m h))))

spelling : {strings : Bool} {ws rest : List Word} {s : Option Word} → SpellingIn strings ws rest s → Spelt ws rest
spelling (no_strings e d) h = not-read d h
spelling (no_spelling e n d) h = not-read d h
spelling (one_spelling e t) h = one refl t h

count : {v n : ℕ} {ws rest : List Word} → CountIn v ws rest n → Spelt ws rest
count (a_numeral t u e few) h = one refl t (one refl u h)
count (counted n d e few) h = not-read d h

entry : {strings : Bool} {v : ℕ} {ws rest : List Word} {e : Entry} → EntryIn strings v ws rest e → Spelt ws rest
entry (one_entry t s c) h = one refl t (spelling s (count c h))

entries : {strings : Bool} {v : ℕ} {ws rest : List Word} {es : List Entry} → EntriesIn strings v ws rest es → Spelt ws rest
entries (last_entry e t) h = entry e (one refl t h)
entries (more_entries e n es) h = entry e (entries es h)

gives-spelt : {ws rest : List Word} {g : Option Word} → GivesIn ws rest g → Spelt ws rest
gives-spelt (gives_none n d) h = not-read d h
gives-spelt (gives_some t u) h = one refl t (one refl u h)

takes : {ws rest : List Word} {t : Option Word} → TakesIn ws rest t → Spelt ws rest
takes (takes_none n d) h = not-read d h
takes (takes_some t u v) h = one refl t (one refl u (one refl v h))

operation : {seen : List ℕ} {ws rest : List Word} {o : Operation} → OperationIn seen ws rest o → Spelt ws rest
operation (one_operation t a g e few) h = one refl t (takes a (gives-spelt g h))

operations : {seen : List ℕ} {ws rest : List Word} {os : List Operation} → OperationsIn seen ws rest os → Spelt ws rest
operations (last_operation o t) h = operation o (one refl t h)
operations (more_operations o n os) h = operation o (operations os h)

side : {ws rest : List Word} {s : Bool} → SideIn ws rest s → Spelt ws rest
side (left_in t e) h = one refl t h
side (right_in t e) h = one refl t h

operator : {ws rest : List Word} {o : Operator} → OperatorIn ws rest o → Spelt ws rest
operator (one_operator r t e low high s q) h = reference r (one refl t (side s (reference q h)))

operators : {ws rest : List Word} {os : List Operator} → OperatorsIn ws rest os → Spelt ws rest
operators (last_operator o t) h = operator o (one refl t h)
operators (more_operators o n os) h = operator o (operators os h)

listed : {strings : Bool} {v : ℕ} {ws rest : List Word} {es : List Entry} → ListedIn strings v ws rest es → Spelt ws rest
listed (listed_in t es) h = one refl t (entries es h)

section : {s : Sofar} {ws rest : List Word} {x : Section} → SectionIn s ws rest x → Spelt ws rest
section (inputs_in t n l) h = one refl t (listed l h)
section (both_in t u l) h = one refl t (one refl u (listed l h))
section (outputs_in t l) h = one refl t (listed l h)
section (errors_in t l) h = one refl t (listed l h)
section (values_in t u l) h = one refl t (one refl u (listed l h))
section (operations_in t u v os) h = one refl t (one refl u (one refl v (operations os h)))
section (operators_in t e u v os) h = one refl t (one refl u (one refl v (operators os h)))

sections : {s : Sofar} {ws rest : List Word} {xs : List Section} → SectionsIn s ws rest xs → Spelt ws rest
sections (no_section e d) h = not-read d h
sections (more_sections n x xs) h = section x (sections xs h)

rule : {ws rest : List Word} {r : Rule} → RuleIn ws rest r → Spelt ws rest
rule (one_rule t g u b v) h = one refl t (gives-spelt g (one refl u (acts b (one refl v h))))

some-rules : {ws rest : List Word} {rs : List Rule} → RulesIn ws rest rs → Spelt ws rest
some-rules (last_rule r n) h = rule r h
some-rules (more_rules r e rs) h = rule r (some-rules rs h)

-- the end of the text is well spelt
at_end : (ws : List Word) → (peek ws).kind ≡ last → well_spelt ws ≡ true
unfolding well_spelt peek
at_end [] e = refl
at_end (w ∷ ws) e = rw e refl

program-spelt : {ws : List Word} (k : ℕ) → From ws (program k) (λ rest p. well_spelt ws ≡ true)
unfolding program
program-spelt k =
    bind (some_sections k nothing) _ (some-sections-in k nothing) (λ ws₁ s x.
    next (expect rules) _ (expects 265 refl) (λ ws₂ head t.
    bind (some_rules k (min 128 s.left)) _ (rules-from k (min 128 s.left)) (λ ws₃ rs m.
    next (expect end) _ (expects 266 refl) (λ ws₄ _ u.
    next (expect last) _ (expects-kind last) (λ ws₅ _ e.
    gives (record { sections = s.sections; rules = rs })
    (sections x.sections-in (one refl t (some-rules m.rules_in (one refl u (at_end ws₄ e))))))))))

-- words that are read through as a program are well spelt
pub read-spelt : (k : ℕ) (ws : List Word) (p : Program) (rest : List Word) → program k ws ≡ got p rest → well_spelt ws ≡ true
read-spelt k ws p rest e = (program-spelt k).holds rest p e
