-- Refusals of the passes as answers.
use mathlib.Core.List.{List}
use mathlib.Core.Path.{◌≡◌, refl}
use Prim.Native.Nat.{ℕ}
use lib.ListN.{length}
use Rattle.figure.specs.Told.{untold, told_for, figure_of}
use Rattle.frontend.proofs.Steps.{decides-fault, process-fault}
use Rattle.machine.specs.Bytes.{count}
use Rattle.processor.specs.Process.{refused, part_of, read_in, understood, process}
use Rattle.reader.specs.Counting.{Decides}
use Rattle.reader.specs.Answers.{Out}
use Rattle.syntax.specs.Parse.{parse}
use Rattle.syntax.specs.Reading.{fault}
use Rattle.translator.specs.Answered.{Settles}
use Rattle.translator.specs.declared.Answer.{Answer}
use Rattle.words.specs.Words.{Word}

-- a refusal at a word
pub at_word : {old new : List ℕ} {r : Answer} (n start len : ℕ) (w : Word) → Settles (refused n (record { start = start; size = len })) untold old new r
    → start ≡ w.start → len ≡ length w.text → Settles (refused n (part_of w)) untold old new r
unfolding part_of
at_word n start len w s e f = rw (← e) (rw (← f) s)

-- a text that is not read has no figure
untold-fault : (text : List ℕ) (room n : ℕ) (w : Word) → parse text ≡ fault n w → figure_of text room ≡ untold
unfolding figure_of told_for understood read_in
untold-fault text room n w e = rw e refl

-- a fault of the syntax pass
pub refused-read : (text : List ℕ) {old new : List ℕ} {r : Answer} {out : Out} → Decides out (parse text) → (out.fault ≡ 0 → ⊥)
    → Settles (refused out.fault (record { start = out.at; size = out.len })) untold old new r → Settles (process text (count old)) (figure_of text (count old)) old new r
refused-read text {old} {new} {r} {out} d z s =
    let m = decides-fault d z in
    rw (process-fault text (count old) out.fault m.word m.is, untold-fault text (count old) out.fault m.word m.is) (at_word out.fault out.at out.len m.word s m.at m.len)
