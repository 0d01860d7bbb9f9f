-- "The word at fault is handed back as a part of the author's text", as a caller from C meets it: for the number, `*start` and `*len` that `sst_process` left with him.
use Rattle.std.specs.Prelude.{List, ◌≡◌, ℕ, take, drop}
use Rattle.acceptance.specs.Shown.{ShownAt, Shows, LiesIn}
use Rattle.firmware.specs.Processing.{Numbers}
use Rattle.processor.specs.Process.{Part}
use Rattle.bytewise.specs.AtEntries.{Processed}

abbrev pub part_told : Numbers → Part
part_told x = record { start = x.start; size = x.len }

-- what a caller has whom it answers a number other than 0: a word of the text that this number shows, or the empty part at the end; inside the text; and the
-- bytes from `*start` on, `*len` of them, are the word's
pub record Refuses (text : List ℕ) (x : Numbers) : Type 0 where
  pub shown : ShownAt text x.number (part_told x)
  pub lies : LiesIn text x.number (part_told x)
  pub bytes : Shows text x.number (take x.len (drop x.start text))

abbrev pub RefusedAtEntries : Type 0
RefusedAtEntries = (text lent table : List ℕ) (x : Numbers) → Processed text lent table x → (x.number ≡ 0 → ⊥) → Refuses text x
