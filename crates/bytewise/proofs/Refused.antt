-- What `sst_process` shows of a text that it refuses is a word of the text, or its end.
use mathlib.Core.Path.{◌≡◌, refl, ap}
use Rattle.acceptance.proofs.Refusals.{refusal-shown, refusal-lies, refusal-shows}
use Rattle.figure.specs.Told.{figure_of}
use Rattle.firmware.specs.Processing.{Numbers, numbers_of}
use Rattle.machine.specs.Bytes.{count}
use Rattle.processor.specs.Process.{Answer, accepted, refused, process}
use Rattle.bytewise.specs.AtRefusal.{Refuses, RefusedAtEntries}

pub refused-at-entries : RefusedAtEntries
unfolding numbers_of
refused-at-entries text lent table x p z = go (process text (count lent)) refl p.numbers
  where
    go : (a : Answer) → process text (count lent) ≡ a → x ≡ numbers_of a (figure_of text (count lent)) → Refuses text x
    go (accepted words verdict) e d = absurd (z (ap (λ (y : Numbers). y.number) d))
    go (refused number at) e d =
        let s = refusal-shown text (count lent) number at e in
        let h : Refuses text (numbers_of (refused number at) (figure_of text (count lent))) = record { shown = s; lies = refusal-lies s; bytes = refusal-shows s } in
        rw d h
