-- The table that the processor writes for a text has the shape that the code asks for.
use mathlib.Core.Bool.{Bool}
use mathlib.Core.List.{List}
use mathlib.Core.Path.{◌≡◌, refl, ap, ◌∙◌}
use native.Mathlib.Omega.{arith}
use Prim.Native.Nat.{ℕ, ◌≤◌}
use lib.ListN.{length}
use Rattle.acceptance.proofs.Accepts.{understand-few, understood-accepted, accepted-table}
use Rattle.acceptance.proofs.Used.{Within}
use Rattle.acceptance.specs.Answers.{TableOf}
use Rattle.grammar.proofs.ProgramIn.{few-in, parse-in}
use Rattle.names.specs.Known.{Checked, good, wrong}
use Rattle.names.specs.Understand.{understand}
use Rattle.processor.specs.Process.{Part, meaning, faulty, checked, read_in, understood, accepted, process}
use Rattle.program.specs.Program.{Rule}
use Rattle.program.specs.Table.{table}
use Rattle.syntax.specs.Parse.{parse}
use Rattle.syntax.specs.Reading.{Read, got, fault}
use Rattle.syntax.specs.Sections.{names_in_all}
use Rattle.syntax.specs.Written.{Program}
use Rattle.meter.specs.Shaped.{Shaped}
use Rattle.meter.specs.Starts.{starts_in}
use Rattle.meter.proofs.Programs.{rules-shaped}

-- "Limits: 128 rules", those made for operators among them
pub rules-few : (text : List ℕ) (prog : List Rule) → understood text ≡ meaning prog → length prog ≤ 128
unfolding understood read_in checked
rules-few text prog e = go (parse text) refl e
  where
    no-meaning : {n : ℕ} {at : Part} → faulty n at ≡ meaning prog → length prog ≤ 128
    no-meaning d = let z : ◌≡◌ {A = ℕ} 0 1 = cc in absurd (omega arith)

    inner : (p : Program) → Within (names_in_all p.sections) (length p.rules) 0 → (m : Checked (List Rule)) → understand p ≡ m → checked m ≡ meaning prog → length prog ≤ 128
    inner p h (good x) u d = let same : x ≡ prog = cc in omega (arith, (understand-few p h prog (u ∙ ap good same)).0)
    inner p h (wrong n w) u d = no-meaning d

    go : (r : Read Program) → parse text ≡ r → read_in r ≡ meaning prog → length prog ≤ 128
    go (got p rest) q d = let f = few-in (parse-in text p rest q) in inner p (omega (arith, f.0), omega (arith, f.1)) (understand p) refl d
    go (fault n w) q d = no-meaning d

-- a text that means something, with a table of at most 4,096 words
pub understood-shaped : (text : List ℕ) (prog : List Rule) → understood text ≡ meaning prog → length (table prog) ≤ 4096 → Shaped (table prog) (starts_in prog)
understood-shaped text prog e short = rules-shaped prog (understood-accepted text prog e) short (rules-few text prog e)

-- what the processor accepts
pub table-shaped : {text : List ℕ} {room : ℕ} {words : List ℕ} {verdict : Bool} (t : TableOf text room words verdict) → Shaped words (starts_in t.prog)
table-shaped {text} t =
    let short : length (table t.prog) ≤ 4096 = rw t.words_are at t.within_4096 in
    rw t.words_are (understood-shaped text t.prog t.means short)

pub accepted-shaped : (text : List ℕ) (room : ℕ) (words : List ℕ) (verdict : Bool) (e : process text room ≡ accepted words verdict)
    → Shaped words (starts_in (accepted-table text room words verdict e).prog)
accepted-shaped text room words verdict e = table-shaped (accepted-table text room words verdict e)
