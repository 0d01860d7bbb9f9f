-- The declarations' part: from what the collector and the checks of its rows tell to the outcome.
use mathlib.Core.List.{List, []}
use mathlib.Core.Path.{◌≡◌, refl, sym, ◌∙◌, subst}
use Prim.Native.Nat.{ℕ, ◌≤◌}
use lib.ListN.{length}
use native.Mathlib.Omega.{arith}
use Rattle.std.specs.Prelude.{Result, Ok, Err}
use Rattle.base.specs.Faults.{fault_number}
use Rattle.base.specs.declared.Refusal.{Refusal}
use Rattle.collector.specs.Collecting.{CollectedFor, Collects}
use Rattle.collector.specs.declared.Collected.{Collected}
use Rattle.declarations.proofs.Declaring.{declares-wrong, declares-good}
use Rattle.declarations.proofs.Whole.{length-sections, length-decls, few-decls}
use Rattle.declarations.specs.Decls.{EntriesAt, decls_of, decl_faults, entries_of}
use Rattle.declarer.specs.Faults.{Faults, clean, faulty}
use Rattle.grammar.proofs.ProgramIn.{few-in, parse-in}
use Rattle.grammar.specs.Derived.{ProgramIn}
use Rattle.names.specs.Known.{Checked, good, wrong, Names}
use Rattle.names.specs.Understand.{understand}
use Rattle.symbols.specs.Rows.{held}
use Rattle.syntax.specs.Parse.{parse}
use Rattle.syntax.specs.Reading.{got}
use Rattle.syntax.specs.Written.{Operator, Program}
use Rattle.frontend.proofs.Steps.{understand-wrong, understand-good, rules-accepted}
use Rattle.frontend.specs.Resolving.{rules_by, Resolves, mistaken, ResolvesRules}
use Rattle.frontend.specs.declared.Resolved.{Resolved}
use Rattle.words.specs.Words.{Word, words, words_at}

-- the whole text is its words from place 0 on
derives : (text : List ℕ) (p : Program) (ws : List Word) → parse text ≡ got p ws → ProgramIn (words_at text 0) p
unfolding words words_at
derives text p ws e = parse-in text p ws e

module _ (text : List ℕ) (p : Program) (ws : List Word) (e : parse text ≡ got p ws) {rows rows' : List ℕ} (rows'' : List ℕ) {c : Collected} (collected : Collects text rows rows' c) (size : length rows ≡ 6017)
    (kept : (t : List ℕ) → held t rows'' c.count ≡ held t rows' c.count) where
  abbrev its : CollectedFor p text rows' c
  its = collected.collects p (derives text p ws e) size

  abbrev asked : Checked (Unit {0})
  asked = decl_faults (decls_of p) (entries_of p) [] (decls_of p)

  -- what the checks tell of the rows, for all entries that stand at their places
  abbrev Checks : ℕ → ℕ → ℕ → Type 0
  Checks fault at len = (entries : ℕ → List Operator) → EntriesAt text (held text rows'' c.count) entries
      → Faults fault at len (decl_faults (held text rows'' c.count) entries [] (held text rows'' c.count))

  held-is : held text rows'' c.count ≡ decls_of p
  held-is = kept text ∙ its.rows

  -- the outcome of the checks is that of the whole row of declarations
  outcome : {fault at len : ℕ} → Checks fault at len → Faults fault at len asked
  outcome {fault} {at} {len} f =
      subst (λ ds. Faults fault at len (decl_faults ds (entries_of p) [] ds)) held-is (f (entries_of p) (subst (λ ds. EntriesAt text ds (entries_of p)) (sym held-is) its.entries))

  few : length (decls_of p) ≤ 512
  few = few-decls (derives text p ws e)

  pub declared_wrong : {rows''' cells starts sorts : List ℕ} {fault at len : ℕ} {x : Refusal} → Checks fault at len → (fault ≡ 0 → ⊥) → fault_number x.fault ≡ fault → x.at ≡ at → x.len ≡ len
      → Resolves text rows''' cells starts sorts p (Err x) (understand p)
  declared_wrong {rows'''} {cells} {starts} {sorts} {fault} {at} {len} {x} f z e₁ e₂ e₃ = go asked refl (outcome f)
    where
      go : (m : Checked (Unit {0})) → asked ≡ m → Faults fault at len m → Resolves text rows''' cells starts sorts p (Err x) (understand p)
      go (good tt) d (clean q) = absurd (z q)
      go (wrong k w) d (faulty q nonzero start l) =
          let u : understand p ≡ wrong k w = understand-wrong p k w (declares-wrong p few k w d) in
          rw u (mistaken (e₁ ∙ q) (e₂ ∙ start) (e₃ ∙ l))

  pub declared_good : {rows''' cells starts sorts : List ℕ} {fault at len : ℕ} {r : Result Resolved Refusal} → Checks fault at len → fault ≡ 0 → ResolvesRules text rows'' rows''' c cells starts sorts r
      → Resolves text rows''' cells starts sorts p r (understand p)
  declared_good {rows'''} {cells} {starts} {sorts} {fault} {at} {len} {r} f z rests = go asked refl (outcome f)
    where
      go : (m : Checked (Unit {0})) → asked ≡ m → Faults fault at len m → Resolves text rows''' cells starts sorts p r (understand p)
      go (wrong k w) d (faulty q nonzero start l) = absurd (nonzero (sym q ∙ z))
      go (good tt) d (clean q) =
          let x = declares-good p few d in
          let n : Names = x.0 in
          let u : understand p ≡ rules_by p n = understand-good p n x.1 in
          rw u (rests.rules p n (record {
            small = collected.small;
            held_are = held-is;
            first_is = its.rules;
            count = omega (arith, its.count, its.rules, length-decls p, length-sections 0 p.sections);
            declares = x.1;
            agrees = x.2;
            entries = its.entries;
            left = its.left;
            again = its.again;
            ending = its.ending;
            few = (few-in (derives text p ws e)).0;
            few_names = omega (arith, few, length-decls p);
            accepts = rules-accepted text p ws n e x.1;
          }))
