-- The figure of a program whose table and rules' starts were found.
use mathlib.Core.Bool.{true, false, false≢true}
use mathlib.Core.List.{List}
use mathlib.Core.Path.{◌≡◌, sym, ap, ◌∙◌}
use Prim.Native.Nat.{ℕ, ◌*◌}
use lib.ListN.{length, take, replicate, length-replicate}
use Rattle.std.specs.Prelude.{Option}
use Rattle.figure.specs.Count.{figure}
use Rattle.figure.specs.Told.{Told, untold, told, told_if}
use Rattle.frontend.specs.Resolving.{Ready}
use Rattle.linkage.specs.Concluded.{IsReady}
use Rattle.processor.specs.Process as means
use Rattle.processor.specs.Process.{accepted, refused}
use Rattle.program.specs.Program.{Rule}
use Rattle.sizes.specs.Located.{Locates}
use Rattle.translator.proofs.Ends.{stands}
use Rattle.translator.specs.Answered.{answered, Settles, Finishes, Stands}
use Rattle.translator.specs.Measured.{as_told, Tabled}
use Rattle.translator.specs.declared.Answer.{Answer}

-- a program whose answer is not "finishing" has none
pub no-figure : (a : means.Answer) (prog : List Rule) {old new : List ℕ} {r : Answer} → r.finishing ≡ false → Settles a untold old new r → Settles a (told_if a prog) old new r
unfolding told_if answered
no-figure (accepted words true) prog v s = absurd (false≢true (sym v ∙ ap (λ (b : Answer). b.finishing) s.answer))
no-figure (accepted words false) prog v s = s
no-figure (refused n w) prog v s = s

pub the-figure : (a : means.Answer) (prog : List Rule) {old new : List ℕ} {r r' : Answer} (f : Option ℕ) → r.finishing ≡ true → Settles a untold old new r → as_told f ≡ told (figure prog)
    → r' ≡ record { number = r.number; start = r.start; len = r.len; words = r.words; finishing = r.finishing; figure = (as_told f).figure; check = (as_told f).number }
    → Settles a (told_if a prog) old new r'
unfolding told_if answered
the-figure (accepted words true) prog f v s e q = record { answer = q ∙ rw s.answer (ap (λ (o : Told). answered (accepted words true) o) e); lent = s.lent }
the-figure (accepted words false) prog f v s e q = absurd (false≢true (sym (ap (λ (b : Answer). b.finishing) s.answer) ∙ v))
the-figure (refused n w) prog f v s e q = absurd (false≢true (sym (ap (λ (b : Answer). b.finishing) s.answer) ∙ v))

-- where the program is finishing, its table and its rules' starts stand there
pub stood : {size : ℕ} {cells starts sorts : List ℕ} {rules filled : ℕ} {old new : List ℕ} {r : Answer} (places : List ℕ) (located : ℕ) → Finishes size cells starts sorts rules filled old new r
    → (h : IsReady cells starts sorts rules filled) → r.finishing ≡ true → Locates cells sorts rules places located → length places ≡ 128 → Stands new places r.words rules h.prog
stood {size} places located f h v l p =
    let text : List ℕ = replicate size 0 in
    stands text h.prog (f text h.prog (length-replicate size 0) h.ready) v places located h.ready p l

-- it is the table of any program that stands there
pub tabled-as : {size : ℕ} {cells starts sorts : List ℕ} {rules filled : ℕ} {old new : List ℕ} {r : Answer} (places : List ℕ) (located : ℕ) → Finishes size cells starts sorts rules filled old new r
    → r.finishing ≡ true → Locates cells sorts rules places located → length places ≡ 128 → (prog : List Rule) → Ready cells starts sorts rules filled prog
    → Tabled (take (2 * r.words) new) (take rules places) prog
tabled-as places located f v l p prog h = (stood places located f (record { prog = prog; ready = h }) v l p).tabled
