-- From the outcome of the passes to the answer.
use mathlib.Core.Bool.{true, false, false≢true}
use mathlib.Core.List.{List}
use mathlib.Core.Path.{◌≡◌, refl, sym, ap, ◌∙◌}
use Prim.Native.Nat.{ℕ}
use lib.ListN.{length}
use Rattle.figure.specs.Told.{Told, untold, told, told_for, told_if, figure_of}
use Rattle.figure.specs.Count.{figure}
use Rattle.frontend.proofs.Meant.{its-meaning}
use Rattle.frontend.proofs.Steps.{process-read, understood-read}
use Rattle.base.specs.Faults.{fault_number}
use Rattle.base.specs.declared.Refusal.{Refusal}
use Rattle.std.specs.Prelude.{Ok, Err, Option}
use Rattle.frontend.specs.Resolving.{Resolves, mistaken}
use Rattle.frontend.specs.declared.Resolved.{Resolved}
use Rattle.machine.specs.Bytes.{count}
use Rattle.names.specs.Known.{Checked, good, wrong}
use Rattle.names.specs.Understand.{understand}
use Rattle.processor.specs.Process as means
use Rattle.processor.specs.Process.{Understood, meaning, faulty, accepted, refused, checked, answer_for, process, understood}
use Rattle.program.specs.Program.{Rule}
use Rattle.sizes.specs.Located.{Locates}
use Rattle.syntax.specs.Parse.{parse}
use Rattle.syntax.specs.Reading.{got}
use Rattle.syntax.specs.Written.{Program}
use Rattle.translator.proofs.Ends.{stands}
use Rattle.translator.proofs.Steps.{at_word}
use Rattle.translator.specs.Answered.{answered, Settles, Finishes, Translates}
use Rattle.translator.specs.Measured.{as_told}
use Rattle.translator.specs.declared.Answer.{Answer}
use Rattle.words.specs.Words.{Word}

module _ (text : List ℕ) (p : Program) (ws : List Word) (e : parse text ≡ got p ws) where
  -- what is answered goes by what the text means
  by-meaning : {old new : List ℕ} {a : Answer} (m : Checked (List Rule)) → understand p ≡ m
      → Settles (answer_for text (count old) (checked m)) untold old new a → Settles (process text (count old)) untold old new a
  by-meaning {old} {new} {a} m u s = rw (process-read text (count old) p ws e, u) s

  pub answered-wrong : {rows cells starts sorts old new places : List ℕ} {a : Answer} {rules : ℕ} {x : Refusal} → Resolves text rows cells starts sorts p (Err x) (understand p)
      → Settles (refused (fault_number x.fault) (record { start = x.at; size = x.len })) untold old new a
      → Translates text old new places a rules
  unfolding answer_for checked answered
  answered-wrong {rows} {cells} {starts} {sorts} {old} {new} {places} {a} {x = x} resolved s = record {
    settles = go (understand p) refl resolved;
    placed = λ v. absurd (false≢true (sym (ap (λ (b : Answer). b.finishing) s.answer) ∙ v));
  }
    where
      go : (m : Checked (List Rule)) → understand p ≡ m → Resolves text rows cells starts sorts p (Err x) m → Settles (process text (count old)) untold old new a
      go (good prog) u y = elim y [ ]
      go (wrong k w) u (mistaken q start len) = by-meaning (wrong k w) u (rw q at (at_word (fault_number x.fault) x.at x.len w s start len))

  pub answered-good : {rows cells starts sorts old new : List ℕ} (places : List ℕ) (located : ℕ) {a : Answer} {size : ℕ} {r : Resolved} → Resolves text rows cells starts sorts p (Ok r) (understand p) → length text ≡ size → length places ≡ 128
      → Finishes size cells starts sorts r.rules r.cells old new a → Locates cells sorts r.rules places located → Translates text old new places a r.rules
  unfolding checked
  answered-good places located resolved t k f l =
      let h = its-meaning resolved in
      let s = f text h.prog t h.ready in
      record {
        settles = by-meaning (good h.prog) h.means s;
        placed = λ v. record { prog = h.prog; means = understood-read text p ws e ∙ rw h.means refl; stands = stands text h.prog s v places located h.ready k l };
      }

-- The figure of a text that is translated

module _ {text old new places : List ℕ} {r : Answer} {rules : ℕ} (t : Translates text old new places r rules) where
  -- a text whose answer is not "finishing" has none
  pub no-figure : r.finishing ≡ false → Settles (process text (count old)) (figure_of text (count old)) old new r
  unfolding figure_of told_for told_if answered
  no-figure v = go (process text (count old)) (understood text) t.settles
    where
      go : (a : means.Answer) (u : Understood) → Settles a untold old new r → Settles a (told_for a u) old new r
      go (accepted words true) u s = absurd (false≢true (sym v ∙ ap (λ (b : Answer). b.finishing) s.answer))
      go (accepted words false) (meaning prog) s = s
      go (accepted words false) (faulty n w) s = s
      go (refused n w) (meaning prog) s = s
      go (refused n w) (faulty k w') s = s

  pub the-figure : (f : Option ℕ) {r' : Answer} (v : r.finishing ≡ true) → as_told f ≡ told (figure (t.placed v).prog)
      → r' ≡ record { number = r.number; start = r.start; len = r.len; words = r.words; finishing = r.finishing; figure = (as_told f).figure; check = (as_told f).number }
      → Settles (process text (count old)) (figure_of text (count old)) old new r'
  unfolding figure_of told_for told_if answered
  the-figure f {r'} v e q = go (process text (count old)) (understood text) t.settles (t.placed v).means
    where
      go : (a : means.Answer) (u : Understood) → Settles a untold old new r → u ≡ meaning (t.placed v).prog → Settles a (told_for a u) old new r'
      go (accepted words true) u s m = rw m (record { answer = q ∙ rw s.answer (ap (λ (o : Told). answered (accepted words true) o) e); lent = s.lent })
      go (accepted words false) u s m = absurd (false≢true (sym (ap (λ (b : Answer). b.finishing) s.answer) ∙ v))
      go (refused n w) u s m = absurd (false≢true (sym (ap (λ (b : Answer). b.finishing) s.answer) ∙ v))
