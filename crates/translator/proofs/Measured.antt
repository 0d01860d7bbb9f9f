-- From the table of a program and its rules' starts to its figure.
use mathlib.Core.List.{List}
use mathlib.Core.Path.{◌≡◌, refl, sym, ap, ◌∙◌}
use Prim.Native.Nat.{ℕ, ◌<◌, ◌≤◌}
use native.Mathlib.Omega.{arith}
use lib.ListN.{length, take}
use lib.Seq.{ext_get_or, get_or-take, length-take-le}
use Rattle.emitter.specs.Emitted.{CellsOf}
use Rattle.figure.specs.Count.{figure}
use Rattle.figure.specs.Told.{told}
use Rattle.machine.proofs.Bytes.{length-table_of}
use Rattle.machine.specs.Bytes.{table_of}
use Rattle.meter.proofs.Programs.{starts-length, start-place, rules-shaped, found-figure, found-long}
use Rattle.meter.specs.Found.{Found}
use Rattle.meter.specs.Shaped.{Shaped}
use Rattle.meter.specs.Starts.{starts_in}
use Rattle.program.specs.Program.{Rule}
use Rattle.program.specs.Table.{table}
use Rattle.sizes.specs.Located.{Locates}
use Rattle.translator.specs.Measured.{Tabled, Measures}

-- the rules' starts, from the cells
pub starts_are : {cells sorts : List ℕ} (starts : List ℕ) {rules : ℕ} (size : ℕ) {prog : List Rule} → Locates cells sorts rules starts size → CellsOf cells sorts rules prog → rules ≤ length starts
    → take rules starts ≡ starts_in prog
unfolding Locates
starts_are starts {rules} size {prog} l its h =
    let n = its.count in
    let k = length-take-le rules starts h in
    let d = starts-length 1 prog in
    ext_get_or 0 (take rules starts) (starts_in prog) (k ∙ n ∙ sym d)
    (λ i b. get_or-take rules starts i 0 (omega (arith, k)) ∙ (l prog its).places i (omega (arith, k, n)) (omega (arith, k, h)) ∙ sym (start-place 1 prog i (omega (arith, k, n))))

pub shaped : {bytes starts : List ℕ} {prog : List Rule} → Tabled bytes starts prog → Shaped (table_of bytes) starts
shaped {bytes} {starts} {prog} t =
    let short = length-table_of bytes in
    let same = ap length t.words in
    rw (t.words, t.begins) (rules-shaped prog t.accepts (omega (arith, short, same)) t.few)

pub measured : {bytes starts : List ℕ} {q : ℕ} → Found (table_of bytes) starts q → Measures bytes starts q
measured {bytes} {starts} {q} f = λ prog t. go prog t f
  where
    go : (prog : List Rule) → Tabled bytes starts prog → Found (table_of bytes) starts q → Found (table prog) (starts_in prog) q
    go prog t f = rw (t.words, t.begins) at f

-- Q, or 47
module _ {bytes starts : List ℕ} {q : ℕ} (m : Measures bytes starts q) (prog : List Rule) (t : Tabled bytes starts prog) where
  pub figure-past : 4294967295 < q → record { figure = 0; number = 47 } ≡ told (figure prog)
  unfolding told
  figure-past h = rw (found-long prog t.accepts t.finishes (m prog t) (omega arith)) refl

  pub figure_is : q ≤ 4294967295 → record { figure = q; number = 0 } ≡ told (figure prog)
  unfolding told
  figure_is h = rw (found-figure prog t.accepts t.finishes (m prog t) (omega arith)) refl
