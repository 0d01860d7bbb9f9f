-- The figure that `sst_process` tells is enough for every list of calls over the bytes that it left.
use mathlib.Core.Bool.{true, false}
use mathlib.Core.List.{List, ◌++◌}
use mathlib.Core.Option.{Option, none, some}
use mathlib.Core.Path.{◌≡◌, refl, sym, ap, ◌∙◌}
use Prim.Native.Nat.{ℕ, ◌+◌, ◌*◌, ◌<◌}
use native.Mathlib.Omega.{arith}
use Rattle.acceptance.proofs.Accepts.{accepted-table}
use Rattle.figure.proofs.Battery.{figure-enough, figure-steps}
use Rattle.figure.specs.Count.{figure}
use Rattle.figure.specs.Told.{Told, untold, told, told_if, told_for, figure_of}
use Rattle.finishing.proofs.Exact.{finishing-sound}
use Rattle.firmware.specs.Processing.{Numbers, flag_of, numbers_of}
use Rattle.machine.proofs.Bytes.{length-words_of}
use Rattle.machine.specs.Bytes.{count, words_of, table_of}
use Rattle.processor.specs.Process.{Answer, accepted, refused, Understood, meaning, faulty, understood, process}
use Rattle.program.specs.Program.{Rule}
use Rattle.program.specs.Table.{table}
use Rattle.bytewise.proofs.Entries.{suffices-bytes, steps-bytes, behind, begins, left-bytes}
use Rattle.bytewise.specs.AtEntries.{Leaves}
use Rattle.bytewise.specs.AtFigure.{FigureAtEntries}

-- a figure is told of a text that is accepted with the verdict "finishing", and it is that of its rules
pub record Measured (text : List ℕ) (room q : ℕ) : Type 0 where
  pub words : List ℕ
  pub answer : process text room ≡ accepted words true
  pub prog : List Rule
  pub means : understood text ≡ meaning prog
  pub is : figure prog ≡ some q

pub measured : (text : List ℕ) (room : ℕ) → 0 < (figure_of text room).figure → Measured text room (figure_of text room).figure
unfolding figure_of told_for told_if told untold
measured text room h = go (process text room) (understood text) refl refl h
  where
    some_is : (o : Option ℕ) → 0 < (told o).figure → o ≡ some (told o).figure
    some_is (some q) h = refl
    some_is none h = absurd (omega arith)

    go : (a : Answer) (u : Understood) → process text room ≡ a → understood text ≡ u → 0 < (told_for a u).figure → Measured text room (told_for a u).figure
    go (accepted words true) (meaning prog) e m h = record { words = words; answer = e; prog = prog; means = m; is = some_is (figure prog) h }
    go (accepted words false) (meaning prog) e m h = absurd (omega arith)
    go (refused number at) (meaning prog) e m h = absurd (omega arith)
    go a (faulty n w) e m h = absurd (omega arith)

pub same-meaning : {p q : List Rule} {u : Understood} → u ≡ meaning p → u ≡ meaning q → p ≡ q
same-meaning {p} {q} e f = let x : meaning p ≡ meaning q = sym e ∙ f in cc

pub told-figure : (a : Answer) (f : Told) → (numbers_of a f).figure ≡ f.figure
unfolding numbers_of
told-figure (accepted words verdict) f = refl
told-figure (refused number at) f = refl

numbers-good : (words : List ℕ) (f : Told) → ((numbers_of (accepted words true) f).number ≡ 0) × ((numbers_of (accepted words true) f).finishing ≡ 1)
unfolding numbers_of flag_of
numbers-good words f = (refl, refl)

pub figure-at-entries : FigureAtEntries
figure-at-entries text lent bytes x p h =
    let q : x.figure ≡ (figure_of text (count lent)).figure = ap (λ (y : Numbers). y.figure) p.numbers ∙ told-figure (process text (count lent)) (figure_of text (count lent)) in
    let m : Measured text (count lent) x.figure = rw q (measured text (count lent) (omega (arith, q))) in
    let t = accepted-table text (count lent) m.words true m.answer in
    let i : figure t.prog ≡ some x.figure = ap figure (same-meaning t.means m.means) ∙ m.is in
    let l : Leaves text m.words true lent bytes = record { buffer = p.buffer; answer = m.answer; bytes = p.bytes } in
    let more = behind text (count lent) m.words true m.answer l in
    let s : table_of bytes ≡ table t.prog ++ more = begins text (count lent) m.words true m.answer l ∙ ap (λ (w : List ℕ). w ++ more) t.words_are in
    let y = p.numbers ∙ ap (λ (a : Answer). numbers_of a (figure_of text (count lent))) m.answer in
    let g = numbers-good m.words (figure_of text (count lent)) in
    record {
      accepted = ap (λ (y : Numbers). y.number) y ∙ g.0;
      finishing = ap (λ (y : Numbers). y.finishing) y ∙ g.1;
      prog = t.prog;
      means = t.means;
      suffices = λ tokens answers bk ba allowance small.
          suffices-bytes t.prog bytes tokens answers (left-bytes text (count lent) m.words true m.answer l) bk ba allowance small (65 * x.figure * (count tokens + allowance + 1))
          (rw (s, ← length-words_of tokens) (figure-enough t.prog t.accepts (finishing-sound t.prog (sym t.verdict_is)) x.figure i more (words_of tokens) (words_of answers) allowance));
      steps = λ tokens answers bk ba allowance small.
          steps-bytes t.prog bytes tokens answers (left-bytes text (count lent) m.words true m.answer l) bk ba allowance small (65 * x.figure * (count tokens + allowance + 1))
          (rw (s, ← length-words_of tokens) (figure-steps t.prog t.accepts (finishing-sound t.prog (sym t.verdict_is)) x.figure i more (words_of tokens) (words_of answers) allowance));
    }
