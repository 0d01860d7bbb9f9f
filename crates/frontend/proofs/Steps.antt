-- The processor's definition, pass by pass.
use mathlib.Core.List.{List}
use mathlib.Core.Path.{◌≡◌, refl, sym, ap, ◌∙◌}
use Prim.Native.Nat.{ℕ}
use lib.ListN.{length}
use Rattle.acceptance.proofs.Accepts.{understood-accepted}
use Rattle.frontend.specs.Resolving.{rules_by}
use Rattle.names.specs.Declare.{declare_sections}
use Rattle.names.specs.Known.{good, wrong, Names}
use Rattle.names.specs.Understand.{nobody, understand}
use Rattle.processor.specs.Process.{refused, meaning, part_of, checked, read_in, understood, answer_for, process}
use Rattle.program.specs.Accepted.{Accepted}
use Rattle.program.specs.Program.{Rule}
use Rattle.reader.specs.Counting.{Decides, fine, wrong as mistaken}
use Rattle.reader.specs.Answers.{Out}
use Rattle.syntax.specs.Parse.{parse}
use Rattle.syntax.specs.Reading.{Read, got, fault}
use Rattle.syntax.specs.Written.{Program}
use Rattle.words.specs.Words.{Word}

-- the syntax pass has read the text
pub record Parsed {A : Type 0} (m : Read A) : Type 0 where
  pub value : A
  pub rest : List Word
  pub is : m ≡ got value rest

pub decides-fine : {A : Type 0} {r : Out} {m : Read A} → Decides r m → r.fault ≡ 0 → Parsed m
decides-fine (fine {a = a} {ws = ws} e) f = record { value = a; rest = ws; is = refl }
decides-fine (mistaken n e at len) f = absurd (n (sym e ∙ f))

-- or has found a fault
pub record Mistake {A : Type 0} (r : Out) (m : Read A) : Type 0 where
  pub word : Word
  pub is : m ≡ fault r.fault word
  pub at : r.at ≡ word.start
  pub len : r.len ≡ length word.text

pub decides-fault : {A : Type 0} {r : Out} {m : Read A} → Decides r m → (r.fault ≡ 0 → ⊥) → Mistake r m
decides-fault (fine e) f = absurd (f e)
decides-fault (mistaken {n = n} {w = w} z e at len) f = record { word = w; is = ap (λ k. fault k w) (sym e); at = at; len = len }

pub process-fault : (text : List ℕ) (room n : ℕ) (w : Word) → parse text ≡ fault n w → process text room ≡ refused n (part_of w)
unfolding process understood read_in answer_for
process-fault text room n w e = rw e refl

pub process-read : (text : List ℕ) (room : ℕ) (p : Program) (ws : List Word) → parse text ≡ got p ws → process text room ≡ answer_for text room (checked (understand p))
unfolding process understood read_in
process-read text room p ws e = rw e refl

pub understood-read : (text : List ℕ) (p : Program) (ws : List Word) → parse text ≡ got p ws → understood text ≡ checked (understand p)
unfolding understood read_in
understood-read text p ws e = rw e refl

pub understand-wrong : (p : Program) (n : ℕ) (w : Word) → declare_sections p p.sections nobody ≡ wrong n w → understand p ≡ wrong n w
unfolding understand
understand-wrong p n w e = rw e refl

pub understand-good : (p : Program) (n : Names) → declare_sections p p.sections nobody ≡ good n → understand p ≡ rules_by p n
unfolding understand
understand-good p n e = rw e refl

pub checked-wrong : (text : List ℕ) (room n : ℕ) (w : Word) → answer_for text room (checked (wrong n w)) ≡ refused n (part_of w)
unfolding answer_for checked
checked-wrong text room n w = refl

pub checked-good : (text : List ℕ) (room : ℕ) (prog : List Rule) → answer_for text room (checked (good prog)) ≡ answer_for text room (meaning prog)
unfolding checked
checked-good text room prog = refl

-- whatever the rules mean is an accepted program
pub rules-accepted : (text : List ℕ) (p : Program) (ws : List Word) (n : Names) → parse text ≡ got p ws → declare_sections p p.sections nobody ≡ good n
    → (prog : List Rule) → rules_by p n ≡ good prog → Accepted prog
unfolding checked
rules-accepted text p ws n e d prog m = understood-accepted text prog (understood-read text p ws e ∙ ap checked (understand-good p n d ∙ m))
