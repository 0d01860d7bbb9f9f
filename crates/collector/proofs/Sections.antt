-- Laws of sections and of the whole.
use mathlib.Core.Bool.{Bool, false, not}
use mathlib.Core.List.{List, [], ◌∷◌, ◌++◌}
use mathlib.Core.Path.{◌≡◌, refl, sym, ap, subst, ◌∙◌}
use Prim.Native.Nat.{ℕ, ◌+◌, ◌≤◌}
use native.Mathlib.Omega.{arith}
use lib.Dec.{T, eqb}
use lib.ListN.{length}
use Rattle.std.specs.Prelude.{None}
use Rattle.collector.proofs.Standing.{entries_at}
use Rattle.collector.proofs.Laws.{appended, decl-is}
use Rattle.collector.proofs.Lines.{rules-lines}
use Rattle.collector.proofs.Rows.{appends-none, appends-then}
use Rattle.collector.proofs.Skips.{entries-behind}
use Rattle.collector.proofs.Words.{next-kind, not-kind, option-none, reference-start, start-again, took-at, took-kind, took-past, took-rest, took-word}
use Rattle.collector.specs.Collecting.{ASection, AllStand, all_more, all_none, Appends, class_of, CollectedFor, Collects, first_value, Goes, Keeps, ListedSection, LinedIn, lined, LinesIn, MechanismIn, OperatorsSectionIn, Puts, section_of, Room, RowsFor, Skips, SomeEntries, SomeOperations, SomeRules, SomeSections, Stands, strings_of, TokensIn, TypeIn, part_of, with_top, a_mechanism, a_type, alone, doubled, some_listed, some_operators_lem}
use Rattle.collector.specs.declared.Entries.{Entries}
use Rattle.collector.specs.declared.Listed.{Listed}
use Rattle.collector.specs.declared.Listed.TheVariants.{Inputs, Outputs, Both, Errors}
use Rattle.collector.specs.declared.Operated.{Operated}
use Rattle.collector.specs.declared.Row.{Row}
use Rattle.collector.specs.declared.Sectioned.{Sectioned}
use Rattle.collector.specs.declared.Spot.{Spot}
use Rattle.collector.specs.declared.State.{State}
use Rattle.declarations.proofs.Whole.{length-section, length-sections}
use Rattle.declarations.specs.Decls.{Decl, decls_of, entries_of, entry_decls, of_operators, of_type, place_of, rule_decls, section_decls, sections_decls}
use Rattle.grammar.specs.Derived.{Took, ListedIn, OperationsIn, OperatorsIn, one_operator, last_operator, more_operators, SectionIn, inputs_in, both_in, outputs_in, errors_in, values_in, operations_in, operators_in, SectionsIn, no_section, more_sections, ProgramIn, a_program, names_in, names_in_all}
use Rattle.reader.proofs.Laws.{apart}
use Rattle.reader.proofs.SectionLaws.{kinds-then, next-max}
use Rattle.reader.specs.Answers.{Here}
use Rattle.scanner.specs.declared.WordAt.{WordAt}
use Rattle.symbols.specs.Rows.{held, held_from, second_kind}
use Rattle.syntax.specs.Sections.{Sofar, after, instructions, next_of, nothing, of_kind}
use Rattle.syntax.specs.Written.{Entry, Operation, Operator, Section, inputs, outputs, both, errors, values, operations, operators, Program}
use Rattle.words.specs.Words.{Word, words_at}

-- Sections of entries

-- the state after a section
kept : (l : Listed) (s : Sofar) (t : State) (es : List Entry) (top : ℕ) → Keeps s t → top ≡ next_of 0 es → Keeps (after s (section_of l es)) (with_top l t top)
unfolding after
kept Inputs s t es top k m = record { input = omega (arith, k.input, m, next-max s.input es); output = k.output; error = k.error; kinds = k.kinds }
kept Outputs s t es top k m = record { input = k.input; output = omega (arith, k.output, m, next-max s.output es); error = k.error; kinds = k.kinds }
kept Both s t es top k m = record { input = omega (arith, k.input, m, next-max s.input es); output = omega (arith, k.output, m, next-max s.output es); error = k.error; kinds = k.kinds }
kept Errors s t es top k m = record { input = k.input; output = k.output; error = omega (arith, k.error, m, next-max s.error es); kinds = k.kinds }

listed-names : (l : Listed) (es : List Entry) → names_in (section_of l es) ≡ length es
unfolding names_in
listed-names Inputs es = refl
listed-names Outputs es = refl
listed-names Both es = refl
listed-names Errors es = refl

listed-decls : (l : Listed) (n : ℕ) (es : List Entry) → section_decls n (section_of l es) ≡ entry_decls (class_of l) es
unfolding section_decls
listed-decls Inputs n es = refl
listed-decls Outputs n es = refl
listed-decls Both n es = refl
listed-decls Errors n es = refl

listed-stands : (text : List ℕ) (l : Listed) (es : List Entry) → Stands text (section_of l es)
listed-stands text Inputs es = tt
listed-stands text Outputs es = tt
listed-stands text Both es = tt
listed-stands text Errors es = tt

pub listed-section : {text rows rows' : List ℕ} {at n v c : ℕ} {b : Bool} {l : Listed} {t r : State} {e : Entries} → v ≡ first_value l t.input t.output t.error → c ≡ class_of l → b ≡ strings_of l
    → SomeEntries (ListedIn b v (words_at text at)) text rows rows' at n c 0 e → r ≡ with_top l t e.top → ASection (ListedSection l) text rows rows' at n t (record { at = e.at; count = e.count; state = r })
listed-section {text} {rows} {rows'} {at} {n} {v} {c} {b} {l} {t} {r} {e} f g h u m = record { bounds = u.bounds; keeps = keeping; goes = going; appends = added; stands = standing } where
  from-v : (s : Sofar) {ws' : List Word} {es : List Entry} → Keeps s t → ListedIn (strings_of l) (first_value l s.input s.output s.error) (words_at text at) ws' es → ListedIn b v (words_at text at) ws' es
  from-v s k q = rw (f, h, k.input, k.output, k.error) q

  keeping : (s : Sofar) (ws' : List Word) (x : Section) → ListedSection l s (words_at text at) ws' x → Keeps s t → Keeps (after s x) r
  keeping s ws' x (some_listed {es = es} p q) k = rw (p, m) (kept l s t es e.top k (u.most ws' es (from-v s k q)))

  going : (s : Sofar) (ws' : List Word) (x : Section) → ListedSection l s (words_at text at) ws' x → Keeps s t → Goes text at e.at ws'
  going s ws' x (some_listed {es = es} p q) k = u.goes ws' es (from-v s k q)

  added : (s : Sofar) (ws' : List Word) (x : Section) → ListedSection l s (words_at text at) ws' x → Keeps s t → Room rows n (names_in x) → Appends text rows rows' n e.count (section_decls n x)
  added s ws' x (some_listed {es = es} p q) k o = rw (p, listed-decls l n es, ← g) (u.appends ws' es (from-v s k q) (rw (p, listed-names l es) at o))

  standing : (s : Sofar) (ws' : List Word) (x : Section) → ListedSection l s (words_at text at) ws' x → Stands text x
  standing s ws' x (some_listed {es = es} p q) = rw p (listed-stands text l es)

pub tokens-alone : {text rows rows' : List ℕ} {at n : ℕ} {t : State} {w : WordAt} {r : Sectioned} → Here text at w → (w.kind ≡ 261 → ⊥) → ASection (ListedSection Inputs) text rows rows' at n t r
    → ASection TokensIn text rows rows' at n t r
tokens-alone {text} {rows} {rows'} {at} {n} {t} {w} {r} h e u = record {
  bounds = u.bounds;
  keeps = λ s ws' x q k. u.keeps s ws' x (inner q) k;
  goes = λ s ws' x q k. u.goes s ws' x (inner q) k;
  appends = λ s ws' x q k o. u.appends s ws' x (inner q) k o;
  stands = λ s ws' x q. u.stands s ws' x (inner q);
} where
  inner : {s : Sofar} {ws' : List Word} {x : Section} → TokensIn s (words_at text at) ws' x → ListedSection Inputs s (words_at text at) ws' x
  inner (alone m q) = q
  inner (doubled a q) = absurd (e (took-kind h a))

-- a section behind a word
behind : {F G : Sofar → List Word → List Word → Section → Type 0} {text rows rows' : List ℕ} {at n : ℕ} {t : State} {w : WordAt} {r : Sectioned} → Here text at w
    → ((s : Sofar) (ws' : List Word) (x : Section) → G s (words_at text at) ws' x → F s (words_at text w.next) ws' x)
    → ASection F text rows rows' w.next n t r → ASection G text rows rows' at n t r
behind h f u = record {
  bounds = record { low = omega (arith, h.onto, u.bounds.low); high = u.bounds.high; more = u.bounds.more; small = u.bounds.small };
  keeps = λ s ws' x q k. u.keeps s ws' x (f s ws' x q) k;
  goes = λ s ws' x q k. record { past = omega (arith, h.onto, (u.goes s ws' x (f s ws' x q) k).past); rest = (u.goes s ws' x (f s ws' x q) k).rest };
  appends = λ s ws' x q k o. u.appends s ws' x (f s ws' x q) k o;
  stands = λ s ws' x q. u.stands s ws' x (f s ws' x q);
}

pub tokens-both : {text rows rows' : List ℕ} {at n : ℕ} {t : State} {w : WordAt} {r : Sectioned} → Here text at w → w.kind ≡ 261 → ASection (ListedSection Both) text rows rows' w.next n t r
    → ASection TokensIn text rows rows' at n t r
tokens-both {text} {at = at} {w = w} h e u = behind h inner u where
  inner : (s : Sofar) (ws' : List Word) (x : Section) → TokensIn s (words_at text at) ws' x → ListedSection Both s (words_at text w.next) ws' x
  inner s ws' x (alone m q) = absurd (not-kind 261 h m e)
  inner s ws' x (doubled a q) = rw (took-rest h (omega arith) a) at q

-- A type and its members

abbrev type_row : WordAt → Row
type_row w = record { class = 5; value = 0; name = part_of w; second = None; third = None }

pub type-read : {text rows rows₁ rows' : List ℕ} {at n c : ℕ} {t : State} {w : WordAt} {e : Entries} → Here text at w → Puts rows rows₁ n c (type_row w) → length rows₁ ≡ length rows
    → SomeEntries (ListedIn false 0 (words_at text w.next)) text rows₁ rows' w.next c (8 + n) 0 e
    → ASection TypeIn text rows rows' at n t (record { at = e.at; count = e.count; state = t })
unfolding after section_decls names_in
type-read {text} {rows} {rows₁} {rows'} {at} {n} {c} {t} {w} {e} h p z u = record {
  bounds = record { low = omega (arith, h.onto, u.bounds.low); high = u.bounds.high; more = omega (arith, p.more, u.bounds.more); small = u.bounds.small };
  keeps = keeping;
  goes = going;
  appends = added;
  stands = standing;
} where
  keeping : (s : Sofar) (ws' : List Word) (x : Section) → TypeIn s (words_at text at) ws' x → Keeps s t → Keeps (after s x) t
  keeping s ws' (values v es) (a_type a q) k = record { input = k.input; output = k.output; error = k.error; kinds = k.kinds }
  keeping s ws' (inputs _) x4 k = elim x4 [ ]
  keeping s ws' (outputs _) x5 k = elim x5 [ ]
  keeping s ws' (both _) x6 k = elim x6 [ ]
  keeping s ws' (errors _) x7 k = elim x7 [ ]
  keeping s ws' (operations _) x8 k = elim x8 [ ]
  keeping s ws' (operators _ _) x10 k = elim x10 [ ]

  going : (s : Sofar) (ws' : List Word) (x : Section) → TypeIn s (words_at text at) ws' x → Keeps s t → Goes text at e.at ws'
  going s ws' (values v es) (a_type {ws₁ = ws₁} a q) k =
      let q' : ListedIn false 0 (words_at text w.next) ws' es = rw (took-rest h (omega arith) a) at q in
      record { past = omega (arith, h.onto, (u.goes ws' es q').past); rest = (u.goes ws' es q').rest }
  going s ws' (inputs _) x4 k = elim x4 [ ]
  going s ws' (outputs _) x5 k = elim x5 [ ]
  going s ws' (both _) x6 k = elim x6 [ ]
  going s ws' (errors _) x7 k = elim x7 [ ]
  going s ws' (operations _) x8 k = elim x8 [ ]
  going s ws' (operators _ _) x10 k = elim x10 [ ]

  added : (s : Sofar) (ws' : List Word) (x : Section) → TypeIn s (words_at text at) ws' x → Keeps s t → Room rows n (names_in x)
      → Appends text rows rows' n e.count (section_decls n x)
  added s ws' (values v es) (a_type {ws₁ = ws₁} a q) k r =
      let q' : ListedIn false 0 (words_at text w.next) ws' es = rw (took-rest h (omega arith) a) at q in
      let b = appended text (of_type v) p
      (decl-is text (type_row w) (of_type v) refl refl (took-word h a) (option-none text (second_kind 5) None refl) (option-none text 257 None refl))
      (record { size = r.size; room = omega (arith, r.room) }) in
      appends-then b (u.appends ws' es q' (record { size = z ∙ r.size; room = omega (arith, r.room, b.counted) }))
  added s ws' (inputs _) x5 k r = elim x5 [ ]
  added s ws' (outputs _) x6 k r = elim x6 [ ]
  added s ws' (both _) x7 k r = elim x7 [ ]
  added s ws' (errors _) x8 k r = elim x8 [ ]
  added s ws' (operations _) x9 k r = elim x9 [ ]
  added s ws' (operators _ _) x11 k r = elim x11 [ ]

  standing : (s : Sofar) (ws' : List Word) (x : Section) → TypeIn s (words_at text at) ws' x → Stands text x
  standing s ws' (values v es) (a_type a q) = tt
  standing s ws' (inputs _) x3 = elim x3 [ ]
  standing s ws' (outputs _) x4 = elim x4 [ ]
  standing s ws' (both _) x5 = elim x5 [ ]
  standing s ws' (errors _) x6 = elim x6 [ ]
  standing s ws' (operations _) x7 = elim x7 [ ]
  standing s ws' (operators _ _) x9 = elim x9 [ ]

pub mechanism-read : {text rows rows' : List ℕ} {at n : ℕ} {t : State} {w c : WordAt} {o : Operated} → Here text at w → Here text w.next c
    → SomeOperations text rows rows' c.next n t.seen o
    → ASection MechanismIn text rows rows' at n t (record { at = o.at; count = o.count; state = record { input = t.input; output = t.output; error = t.error; seen = o.seen } })
unfolding after section_decls names_in
mechanism-read {text} {rows} {rows'} {at} {n} {t} {w} {c} {o} h m u = record {
  bounds = record { low = omega (arith, h.onto, m.onto, u.bounds.low); high = u.bounds.high; more = u.bounds.more; small = u.bounds.small };
  keeps = keeping;
  goes = going;
  appends = added;
  stands = standing;
} where
  inner : (s : Sofar) (ws' : List Word) {ws₁ ws₂ : List Word} {v colon : Word} (os : List Operation) → Took 257 (words_at text at) v ws₁ → Took 58 ws₁ colon ws₂
      → OperationsIn s.seen ws₂ ws' os → OperationsIn s.seen (words_at text c.next) ws' os
  inner s ws' os a b q = rw (took-rest m (omega arith) (took-at (took-rest h (omega arith) a) b)) at q

  keeping : (s : Sofar) (ws' : List Word) (x : Section) → MechanismIn s (words_at text at) ws' x → Keeps s t
      → Keeps (after s x) (record { input = t.input; output = t.output; error = t.error; seen = o.seen })
  keeping s ws' (operations os) (a_mechanism a b q) k = record {
    input = k.input;
    output = k.output;
    error = k.error;
    kinds = kinds-then (instructions os) s.seen t.seen o.seen k.kinds (u.adds s.seen ws' os (inner s ws' os a b q) k.kinds);
  }
  keeping s ws' (inputs _) x4 k = elim x4 [ ]
  keeping s ws' (outputs _) x5 k = elim x5 [ ]
  keeping s ws' (both _) x6 k = elim x6 [ ]
  keeping s ws' (errors _) x7 k = elim x7 [ ]
  keeping s ws' (values _ _) x9 k = elim x9 [ ]
  keeping s ws' (operators _ _) x10 k = elim x10 [ ]

  going : (s : Sofar) (ws' : List Word) (x : Section) → MechanismIn s (words_at text at) ws' x → Keeps s t → Goes text at o.at ws'
  going s ws' (operations os) (a_mechanism a b q) k =
      let g = u.goes s.seen ws' os (inner s ws' os a b q) in
      record { past = omega (arith, h.onto, m.onto, g.past); rest = g.rest }
  going s ws' (inputs _) x4 k = elim x4 [ ]
  going s ws' (outputs _) x5 k = elim x5 [ ]
  going s ws' (both _) x6 k = elim x6 [ ]
  going s ws' (errors _) x7 k = elim x7 [ ]
  going s ws' (values _ _) x9 k = elim x9 [ ]
  going s ws' (operators _ _) x10 k = elim x10 [ ]

  added : (s : Sofar) (ws' : List Word) (x : Section) → MechanismIn s (words_at text at) ws' x → Keeps s t → Room rows n (names_in x)
      → Appends text rows rows' n o.count (section_decls n x)
  added s ws' (operations os) (a_mechanism a b q) k r = u.appends s.seen ws' os (inner s ws' os a b q) k.kinds r
  added s ws' (inputs _) x5 k r = elim x5 [ ]
  added s ws' (outputs _) x6 k r = elim x6 [ ]
  added s ws' (both _) x7 k r = elim x7 [ ]
  added s ws' (errors _) x8 k r = elim x8 [ ]
  added s ws' (values _ _) x10 k r = elim x10 [ ]
  added s ws' (operators _ _) x11 k r = elim x11 [ ]

  standing : (s : Sofar) (ws' : List Word) (x : Section) → MechanismIn s (words_at text at) ws' x → Stands text x
  standing s ws' (operations os) (a_mechanism a b q) = tt
  standing s ws' (inputs _) x3 = elim x3 [ ]
  standing s ws' (outputs _) x4 = elim x4 [ ]
  standing s ws' (both _) x5 = elim x5 [ ]
  standing s ws' (errors _) x6 = elim x6 [ ]
  standing s ws' (values _ _) x8 = elim x8 [ ]
  standing s ws' (operators _ _) x9 = elim x9 [ ]

-- A section of operators

abbrev operators_row : WordAt → ℕ → Row
operators_row w v = record { class = 600; value = v; name = part_of w; second = None; third = None }

first-place : {text : List ℕ} {at : ℕ} {w : WordAt} {ws' : List Word} {os : List Operator} → Here text at w → OperatorsIn (words_at text at) ws' os → place_of os ≡ w.start
first-place h (last_operator (one_operator r d e low high s t) q) = reference-start h r
first-place h (more_operators (one_operator r d e low high s t) m q) = reference-start h r

pub operators-read : {text rows rows' : List ℕ} {at n c to : ℕ} {t : State} {w colon first : WordAt} → Here text at w → Here text w.next colon → Here text colon.next first
    → Puts rows rows' n c (operators_row w first.start) → Skips text colon.next to → ASection OperatorsSectionIn text rows rows' at n t (record { at = to; count = c; state = t })
unfolding after section_decls names_in
operators-read {text} {rows} {rows'} {at} {n} {c} {to} {t} {w} {colon} {first} h m f p k = record {
  bounds = record { low = omega (arith, h.onto, m.onto, k.low); high = k.high; more = p.more; small = p.small };
  keeps = keeping;
  goes = going;
  appends = added;
  stands = standing;
} where
  inner : {ws₁ ws₂ ws' : List Word} {v sign : Word} {os : List Operator} → Took 257 (words_at text at) v ws₁ → Took 58 ws₁ sign ws₂ → OperatorsIn ws₂ ws' os
      → OperatorsIn (words_at text colon.next) ws' os
  inner a b q = rw (took-rest m (omega arith) (took-at (took-rest h (omega arith) a) b)) at q

  keeping : (s : Sofar) (ws' : List Word) (x : Section) → OperatorsSectionIn s (words_at text at) ws' x → Keeps s t → Keeps (after s x) t
  keeping s ws' (operators v os) (some_operators_lem a b q) z = record { input = z.input; output = z.output; error = z.error; kinds = z.kinds }
  keeping s ws' (inputs _) x4 z = elim x4 [ ]
  keeping s ws' (outputs _) x5 z = elim x5 [ ]
  keeping s ws' (both _) x6 z = elim x6 [ ]
  keeping s ws' (errors _) x7 z = elim x7 [ ]
  keeping s ws' (values _ _) x9 z = elim x9 [ ]
  keeping s ws' (operations _) x9 z = elim x9 [ ]

  going : (s : Sofar) (ws' : List Word) (x : Section) → OperatorsSectionIn s (words_at text at) ws' x → Keeps s t → Goes text at to ws'
  going s ws' (operators v os) (some_operators_lem a b q) z = record { past = omega (arith, took-past h (omega arith) a, m.onto, k.low); rest = entries-behind k refl (inner a b q) }
  going s ws' (inputs _) x4 z = elim x4 [ ]
  going s ws' (outputs _) x5 z = elim x5 [ ]
  going s ws' (both _) x6 z = elim x6 [ ]
  going s ws' (errors _) x7 z = elim x7 [ ]
  going s ws' (values _ _) x9 z = elim x9 [ ]
  going s ws' (operations _) x9 z = elim x9 [ ]

  added : (s : Sofar) (ws' : List Word) (x : Section) → OperatorsSectionIn s (words_at text at) ws' x → Keeps s t → Room rows n (names_in x)
      → Appends text rows rows' n c (section_decls n x)
  added s ws' (operators v os) (some_operators_lem a b q) z r =
      appended text (of_operators v os) p
      (decl-is text (operators_row w first.start) (of_operators v os) refl (first-place f (inner a b q)) (took-word h a) (option-none text (second_kind 600) None refl) (option-none text 257 None refl))
      r
  added s ws' (inputs _) x5 z r = elim x5 [ ]
  added s ws' (outputs _) x6 z r = elim x6 [ ]
  added s ws' (both _) x7 z r = elim x7 [ ]
  added s ws' (errors _) x8 z r = elim x8 [ ]
  added s ws' (values _ _) x10 z r = elim x10 [ ]
  added s ws' (operations _) x10 z r = elim x10 [ ]

  standing : (s : Sofar) (ws' : List Word) (x : Section) → OperatorsSectionIn s (words_at text at) ws' x → Stands text x
  standing s ws' (operators v os) (some_operators_lem a b q) =
      record { left = ws'; again = subst (λ (ws : List Word). OperatorsIn ws ws' os) (sym (ap (λ (i : ℕ). words_at text i) (first-place f (inner a b q)) ∙ start-again f)) (inner a b q) }
  standing s ws' (inputs _) x3 = elim x3 [ ]
  standing s ws' (outputs _) x4 = elim x4 [ ]
  standing s ws' (both _) x5 = elim x5 [ ]
  standing s ws' (errors _) x6 = elim x6 [ ]
  standing s ws' (values _ _) x8 = elim x8 [ ]
  standing s ws' (operations _) x8 = elim x8 [ ]

-- Which section

-- two kinds that differ
differ : {text : List ℕ} {at : ℕ} {w : WordAt} {v : Word} {ws' : List Word} (j k : ℕ) → Here text at w → w.kind ≡ j → Took k (words_at text at) v ws' → T (not (eqb j k)) → ⊥
differ j k h e t d = apart j k e (took-kind h t) d

-- entries of a section that says what they are
listed-in : (l : Listed) {s : Sofar} {ws ws' : List Word} {es : List Entry} {x : Section} → x ≡ section_of l es → ListedIn (strings_of l) (first_value l s.input s.output s.error) ws ws' es → ListedSection l s ws ws' x
listed-in l p q = some_listed p q

pub section-tokens : {text rows rows' : List ℕ} {at n : ℕ} {t : State} {w : WordAt} {r : Sectioned} → Here text at w → w.kind ≡ 260 → ASection TokensIn text rows rows' w.next n t r
    → ASection SectionIn text rows rows' at n t r
section-tokens {text} {at = at} {w = w} h e u = behind h inner u where
  inner : (s : Sofar) (ws' : List Word) (x : Section) → SectionIn s (words_at text at) ws' x → TokensIn s (words_at text w.next) ws' x
  inner s ws' (inputs es) (inputs_in a m q) = let g = took-rest h (omega arith) a in alone (rw g at m) (listed-in Inputs refl (rw g at q))
  inner s ws' (both es) (both_in a b q) = doubled (took-at (took-rest h (omega arith) a) b) (listed-in Both refl q)
  inner s ws' (outputs es) (outputs_in a q) = absurd (differ 260 261 h e a tt)
  inner s ws' (errors es) (errors_in a q) = absurd (differ 260 262 h e a tt)
  inner s ws' (values v es) (values_in a b q) = absurd (differ 260 263 h e a tt)
  inner s ws' (operations os) (operations_in a b d q) = absurd (differ 260 264 h e a tt)
  inner s ws' (operators v os) (operators_in a l b d q) = absurd (differ 260 257 h e a tt)

pub section-outputs : {text rows rows' : List ℕ} {at n : ℕ} {t : State} {w : WordAt} {r : Sectioned} → Here text at w → w.kind ≡ 261 → ASection (ListedSection Outputs) text rows rows' w.next n t r
    → ASection SectionIn text rows rows' at n t r
section-outputs {text} {at = at} {w = w} h e u = behind h inner u where
  inner : (s : Sofar) (ws' : List Word) (x : Section) → SectionIn s (words_at text at) ws' x → ListedSection Outputs s (words_at text w.next) ws' x
  inner s ws' (inputs es) (inputs_in a m q) = absurd (differ 261 260 h e a tt)
  inner s ws' (both es) (both_in a b q) = absurd (differ 261 260 h e a tt)
  inner s ws' (outputs es) (outputs_in a q) = listed-in Outputs refl (rw (took-rest h (omega arith) a) at q)
  inner s ws' (errors es) (errors_in a q) = absurd (differ 261 262 h e a tt)
  inner s ws' (values v es) (values_in a b q) = absurd (differ 261 263 h e a tt)
  inner s ws' (operations os) (operations_in a b d q) = absurd (differ 261 264 h e a tt)
  inner s ws' (operators v os) (operators_in a l b d q) = absurd (differ 261 257 h e a tt)

pub section-errors : {text rows rows' : List ℕ} {at n : ℕ} {t : State} {w : WordAt} {r : Sectioned} → Here text at w → w.kind ≡ 262 → ASection (ListedSection Errors) text rows rows' w.next n t r
    → ASection SectionIn text rows rows' at n t r
section-errors {text} {at = at} {w = w} h e u = behind h inner u where
  inner : (s : Sofar) (ws' : List Word) (x : Section) → SectionIn s (words_at text at) ws' x → ListedSection Errors s (words_at text w.next) ws' x
  inner s ws' (inputs es) (inputs_in a m q) = absurd (differ 262 260 h e a tt)
  inner s ws' (both es) (both_in a b q) = absurd (differ 262 260 h e a tt)
  inner s ws' (outputs es) (outputs_in a q) = absurd (differ 262 261 h e a tt)
  inner s ws' (errors es) (errors_in a q) = listed-in Errors refl (rw (took-rest h (omega arith) a) at q)
  inner s ws' (values v es) (values_in a b q) = absurd (differ 262 263 h e a tt)
  inner s ws' (operations os) (operations_in a b d q) = absurd (differ 262 264 h e a tt)
  inner s ws' (operators v os) (operators_in a l b d q) = absurd (differ 262 257 h e a tt)

pub section-type : {text rows rows' : List ℕ} {at n : ℕ} {t : State} {w : WordAt} {r : Sectioned} → Here text at w → w.kind ≡ 263 → ASection TypeIn text rows rows' w.next n t r
    → ASection SectionIn text rows rows' at n t r
section-type {text} {at = at} {w = w} h e u = behind h inner u where
  inner : (s : Sofar) (ws' : List Word) (x : Section) → SectionIn s (words_at text at) ws' x → TypeIn s (words_at text w.next) ws' x
  inner s ws' (inputs es) (inputs_in a m q) = absurd (differ 263 260 h e a tt)
  inner s ws' (both es) (both_in a b q) = absurd (differ 263 260 h e a tt)
  inner s ws' (outputs es) (outputs_in a q) = absurd (differ 263 261 h e a tt)
  inner s ws' (errors es) (errors_in a q) = absurd (differ 263 262 h e a tt)
  inner s ws' (values v es) (values_in a b q) = a_type (took-at (took-rest h (omega arith) a) b) q
  inner s ws' (operations os) (operations_in a b d q) = absurd (differ 263 264 h e a tt)
  inner s ws' (operators v os) (operators_in a l b d q) = absurd (differ 263 257 h e a tt)

pub section-operators : {text rows rows' : List ℕ} {at n : ℕ} {t : State} {w : WordAt} {r : Sectioned} → Here text at w → w.kind ≡ 257
    → ASection OperatorsSectionIn text rows rows' w.next n t r → ASection SectionIn text rows rows' at n t r
section-operators {text} {at = at} {w = w} h e u = behind h inner u where
  inner : (s : Sofar) (ws' : List Word) (x : Section) → SectionIn s (words_at text at) ws' x → OperatorsSectionIn s (words_at text w.next) ws' x
  inner s ws' (inputs es) (inputs_in a m q) = absurd (differ 257 260 h e a tt)
  inner s ws' (both es) (both_in a b q) = absurd (differ 257 260 h e a tt)
  inner s ws' (outputs es) (outputs_in a q) = absurd (differ 257 261 h e a tt)
  inner s ws' (errors es) (errors_in a q) = absurd (differ 257 262 h e a tt)
  inner s ws' (values v es) (values_in a b q) = absurd (differ 257 263 h e a tt)
  inner s ws' (operations os) (operations_in a b d q) = absurd (differ 257 264 h e a tt)
  inner s ws' (operators v os) (operators_in a l b d q) = some_operators_lem (took-at (took-rest h (omega arith) a) b) d q

pub section-mechanism : {text rows rows' : List ℕ} {at n : ℕ} {t : State} {w : WordAt} {r : Sectioned} → Here text at w
    → (w.kind ≡ 260 → ⊥) → (w.kind ≡ 261 → ⊥) → (w.kind ≡ 262 → ⊥) → (w.kind ≡ 263 → ⊥) → (w.kind ≡ 257 → ⊥)
    → ASection MechanismIn text rows rows' w.next n t r → ASection SectionIn text rows rows' at n t r
section-mechanism {text} {at = at} {w = w} h i o e v k u = behind h inner u where
  inner : (s : Sofar) (ws' : List Word) (x : Section) → SectionIn s (words_at text at) ws' x → MechanismIn s (words_at text w.next) ws' x
  inner s ws' (inputs es) (inputs_in a m q) = absurd (i (took-kind h a))
  inner s ws' (both es) (both_in a b q) = absurd (i (took-kind h a))
  inner s ws' (outputs es) (outputs_in a q) = absurd (o (took-kind h a))
  inner s ws' (errors es) (errors_in a q) = absurd (e (took-kind h a))
  inner s ws' (values y es) (values_in a b q) = absurd (v (took-kind h a))
  inner s ws' (operations os) (operations_in a b d q) = a_mechanism (took-at (took-rest h (omega arith) a) b) d q
  inner s ws' (operators y os) (operators_in a l b d q) = absurd (k (took-kind h a))

-- All sections

pub sections-end : {text rows : List ℕ} {i n : ℕ} {t : State} {w : WordAt} → i ≤ length text → n ≤ 512 → Here text i w → w.kind ≡ 265
    → SomeSections text rows rows i n t (record { at = i; count = n })
unfolding sections_decls
sections-end {text} {rows} {i} {n} {t} {w} l m h e = record {
  bounds = record { low = omega arith; high = l; more = omega arith; small = m };
  rest = rest;
  appends = added;
  stands = standing;
} where
  rest : (s : Sofar) (ws' : List Word) (xs : List Section) → SectionsIn s (words_at text i) ws' xs → Keeps s t → ws' ≡ words_at text i
  rest s ws' [] (no_section k g) z = g
  rest s ws' (x ∷ xs) (more_sections a q r) z = absurd (not-kind 265 h a e)

  added : (s : Sofar) (ws' : List Word) (xs : List Section) → SectionsIn s (words_at text i) ws' xs → Keeps s t → Room rows n (names_in_all xs)
      → Appends text rows rows n n (sections_decls n xs)
  added s ws' [] (no_section k g) z r = appends-none text rows n
  added s ws' (x ∷ xs) (more_sections a q u) z r = absurd (not-kind 265 h a e)

  standing : (s : Sofar) (ws' : List Word) (xs : List Section) → SectionsIn s (words_at text i) ws' xs → Keeps s t → AllStand text xs
  standing s ws' [] (no_section k g) z = all_none
  standing s ws' (x ∷ xs) (more_sections a q u) z = absurd (not-kind 265 h a e)

-- sections whose first declaration is i, which is j
from_row : {text rows rows' : List ℕ} {n n' : ℕ} (i j : ℕ) (xs : List Section) → i ≡ j → Appends text rows rows' n n' (sections_decls i xs) → Appends text rows rows' n n' (sections_decls j xs)
from_row i j xs e a = rw e at a

pub sections-more : {text rows rows₁ rows' : List ℕ} {i n : ℕ} {t : State} {w : WordAt} {x : Sectioned} {r : Spot} → Here text i w → (w.kind ≡ 265 → ⊥)
    → ASection SectionIn text rows rows₁ i n t x → length rows₁ ≡ length rows → SomeSections text rows₁ rows' x.at x.count x.state r → SomeSections text rows rows' i n t r
unfolding sections_decls names_in_all
sections-more {text} {rows} {rows₁} {rows'} {i} {n} {t} {w} {x} {r} h e a z u = record {
  bounds = record { low = omega (arith, a.bounds.low, u.bounds.low); high = u.bounds.high; more = omega (arith, a.bounds.more, u.bounds.more); small = u.bounds.small };
  rest = rest;
  appends = added;
  stands = standing;
} where
  others : (s : Sofar) {ws₁ ws' : List Word} {y : Section} {ys : List Section} → SectionIn s (words_at text i) ws₁ y → Keeps s t → SectionsIn (after s y) ws₁ ws' ys
      → SectionsIn (after s y) (words_at text x.at) ws' ys
  others s {ws₁} {y = y} q k l = rw (a.goes s ws₁ y q k).rest at l

  rest : (s : Sofar) (ws' : List Word) (xs : List Section) → SectionsIn s (words_at text i) ws' xs → Keeps s t → ws' ≡ words_at text r.at
  rest s ws' [] (no_section k g) y = absurd (e (next-kind 265 h k))
  rest s ws' (y ∷ ys) (more_sections {ws₁ = ws₁} b q l) k = u.rest (after s y) ws' ys (others s q k l) (a.keeps s ws₁ y q k)

  added : (s : Sofar) (ws' : List Word) (xs : List Section) → SectionsIn s (words_at text i) ws' xs → Keeps s t → Room rows n (names_in_all xs)
      → Appends text rows rows' n r.count (sections_decls n xs)
  added s ws' [] (no_section k g) y o = absurd (e (next-kind 265 h k))
  added s ws' (y ∷ ys) (more_sections {ws₁ = ws₁} b q l) k o =
      let d = a.appends s ws₁ y q k (record { size = o.size; room = omega (arith, o.room) }) in
      let f = u.appends (after s y) ws' ys (others s q k l) (a.keeps s ws₁ y q k) (record { size = z ∙ o.size; room = omega (arith, o.room, d.counted, length-section n y) }) in
      appends-then d (from_row _ _ ys d.counted f)

  standing : (s : Sofar) (ws' : List Word) (xs : List Section) → SectionsIn s (words_at text i) ws' xs → Keeps s t → AllStand text xs
  standing s ws' [] (no_section k g) y = absurd (e (next-kind 265 h k))
  standing s ws' (y ∷ ys) (more_sections {ws₁ = ws₁} b q l) k = all_more (a.stands s ws₁ y q) (u.stands (after s y) ws' ys (others s q k l) (a.keeps s ws₁ y q k))

pub sections-stuck : {text rows rows₁ : List ℕ} {i n : ℕ} {t : State} {w : WordAt} {x : Sectioned} → Here text i w → (w.kind ≡ 265 → ⊥)
    → ASection SectionIn text rows rows₁ i n t x → x.at ≤ i → SomeSections text rows rows₁ i n t (record { at = x.at; count = x.count })
sections-stuck {text} {rows} {rows₁} {i} {n} {t} {w} {x} h e a l = record {
  bounds = a.bounds;
  rest = λ s ws' xs q k. absurd (never s q k);
  appends = λ s ws' xs q k r. absurd (never s q k);
  stands = λ s ws' xs q k. absurd (never s q k);
} where
  never : (s : Sofar) {ws' : List Word} {xs : List Section} → SectionsIn s (words_at text i) ws' xs → Keeps s t → ⊥
  never s (no_section k g) z = e (next-kind 265 h k)
  never s (more_sections {ws₁ = ws₁} {x = y} b q u) z = omega (arith, (a.goes s ws₁ y q z).past)

-- The whole

pub start-kept : Keeps nothing (record { input = 0; output = 0; error = 0; seen = record { plain = 0; taking = 0; giving = 0; both = 0 } })
unfolding nothing of_kind
start-kept = record { input = refl; output = refl; error = refl; kinds = record { plain = refl; taking = refl; giving = refl; both = refl } }

start : (text rows : List ℕ) (ds : List Decl) → held text rows 0 ++ ds ≡ ds
unfolding held held_from
start text rows ds = refl

pub collected : {text rows rows₁ rows' : List ℕ} {c : ℕ} {s : Spot} {w : WordAt} → length rows₁ ≡ length rows → length rows' ≡ length rows₁
    → SomeSections text rows rows₁ 0 0 (record { input = 0; output = 0; error = 0; seen = record { plain = 0; taking = 0; giving = 0; both = 0 } }) s → Here text s.at w
    → SomeRules text rows₁ rows' w.next s.count 0 c → Collects text rows rows' (record { count = c; rules = s.count; at = w.next })
unfolding decls_of entries_of
collected {text} {rows} {rows₁} {rows'} {c} {s} {w} y z a h b = record { size = z ∙ y; early = a.bounds.small; small = b.small; inside = h.high; lines = lines; collects = all } where
  behind : {xs : List Section} {head : Word} {ws₁ ws₂ : List Word} → SectionsIn nothing (words_at text 0) ws₁ xs → Took 265 ws₁ head ws₂ → ws₂ ≡ words_at text w.next
  behind {xs} {ws₁ = ws₁} q t = took-rest h (omega arith) (took-at (a.rest nothing ws₁ xs q start-kept) t)

  lines : (p : Program) → LinedIn (words_at text 0) p → length rows ≡ 6017 → RowsFor p text rows' (record { count = c; rules = s.count; at = w.next })
  lines p (lined {ws₁ = ws₁} {ws₂ = ws₂} {ws₃ = ws₃} q t r n) l =
      let d = a.appends nothing ws₁ p.sections q start-kept (record { size = l; room = omega arith }) in
      let r' : LinesIn (words_at text w.next) ws₃ p.rules = rw (behind q t) at r in
      let f = b.appends ws₃ p.rules r' (record { size = y ∙ l; room = omega (arith, d.counted, length-sections 0 p.sections) }) in
      let g = appends-then d f in
      record { rows = g.filled ∙ start text rows (sections_decls 0 p.sections ++ rule_decls 0 p.rules); count = omega (arith, g.counted); rules = omega (arith, d.counted); entries = entries_at p.sections p.rules (a.stands nothing ws₁ p.sections q start-kept) (omega arith); again = behind }

  all : (p : Program) → ProgramIn (words_at text 0) p → length rows ≡ 6017 → CollectedFor p text rows' (record { count = c; rules = s.count; at = w.next })
  all p (a_program {ws₃ = ws₃} q t r e m n) l =
      let its = lines p (lined q t (rules-lines r) n) l in
      record { rows = its.rows; count = its.count; rules = its.rules; entries = its.entries; left = ws₃; again = rw (behind q t) at r; ending = e }
