-- What stands in the buffers is what the emitter and the verdict ask for; whether its table fits.
use mathlib.Core.Bool.{Bool, true, false, ◌&&◌}
use mathlib.Core.List.{List}
use mathlib.Core.Path.{◌≡◌, refl, sym}
use Prim.Native.Nat.{ℕ, ◌<◌, ◌≤◌}
use lib.Dec.{leb}
use lib.ListN.{length, drop}
use borrow.Author.Tests.{leb-true}
use native.Mathlib.Omega.{arith}
use Rattle.cells.proofs.Sizes.{rules-short}
use Rattle.cells.specs.Cells.{rules_cells}
use Rattle.emitter.specs.Emitted.{CellsOf, fits}
use Rattle.finishing.specs.Test.{finishing}
use Rattle.frontend.specs.Resolving.{Ready}
use Rattle.processor.specs.Process.{accepted, refused, meaning, answer_for, part_of}
use Rattle.program.specs.Program.{Rule}
use Rattle.program.specs.Table.{size_rules, table}
use Rattle.resolver.proofs.Appending.{appends-whole, appends-over, appends-length}
use Rattle.syntax.specs.Parse.{end_of}
use Rattle.verdict.proofs.Laid.{accepted-range}
use Rattle.verdict.specs.Told.{Holds}

-- the buffers are what the emitter asks for
pub ready-cells : {cells starts sorts : List ℕ} {rules filled : ℕ} {prog : List Rule} → Ready cells starts sorts rules filled prog → filled ≤ 4224 → CellsOf cells sorts rules prog
ready-cells h l =
    let w = appends-whole h.appends (omega (arith, h.room)) in
    let n = appends-length h.appends in
    record {
      rest = drop (length (rules_cells _)) h.before;
      same = w.1;
      short = omega (arith, n, h.room);
      count = h.number;
      few = h.few;
      sort = h.sorted;
      in_order = h.accepts.in_order;
      labels = h.labels;
    }

-- and what the verdict asks for
pub ready-laid : {cells starts sorts : List ℕ} {rules filled : ℕ} {prog : List Rule} → Ready cells starts sorts rules filled prog → filled ≤ 4224 → Holds cells starts rules prog
ready-laid {prog = prog} h l =
    let w = appends-whole h.appends (omega (arith, h.room)) in
    record {
      rest = drop (length (rules_cells prog)) h.before;
      number = sym h.number;
      few = h.few;
      ranges = accepted-range prog h.accepts h.choices;
      its = w.1;
      short = omega (arith, appends-length h.appends, h.room);
      begins = λ r x. h.begins l r (omega (arith, x, h.number));
    }

-- Whether the table fits

-- a table that does not fit
pub refused-20 : (text : List ℕ) (prog : List Rule) (room : ℕ) → fits prog room ≡ false → answer_for text room (meaning prog) ≡ refused 20 (record { start = length text; size = 0 })
unfolding answer_for fits part_of end_of
refused-20 text prog room e = rw e refl

pub accepts-it : (text : List ℕ) (prog : List Rule) (room : ℕ) → fits prog room ≡ true → answer_for text room (meaning prog) ≡ accepted (table prog) (finishing prog)
unfolding answer_for fits
accepts-it text prog room e = rw e refl

-- more cells than there is room for: more words than a table has
pub too_long : {cells starts sorts : List ℕ} {rules filled : ℕ} {prog : List Rule} (room : ℕ) → Ready cells starts sorts rules filled prog → 4224 < filled → fits prog room ≡ false
unfolding fits
too_long {prog = prog} room h l =
    let o = appends-over h.appends (omega (arith, h.room)) in
    let s = rules-short prog in
    off (leb (size_rules prog) room) (leb (size_rules prog) 4096) (small (leb (size_rules prog) 4096) refl (omega (arith, o, s, h.room, h.number, h.few)))
  where
    off : (a b : Bool) → b ≡ false → (a && b) ≡ false
    off true b e = e
    off false b e = refl

    small : (t : Bool) → leb (size_rules prog) 4096 ≡ t → 4096 < size_rules prog → t ≡ false
    small true e q = absurd (omega (arith, leb-true (size_rules prog) 4096 e))
    small false e q = refl
