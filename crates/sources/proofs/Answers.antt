-- A text's faults, and what the passes leave of a text that has none.
use mathlib.Core.List.{List}
use mathlib.Core.Path.{◌≡◌, refl, ap, ◌∙◌}
use Prim.Native.Nat.{ℕ, ◌<◌, ◌≤◌}
use native.Mathlib.Omega.{arith}
use lib.ListN.{length}
use Rattle.base.specs.Faults.{fault_number}
use Rattle.base.specs.declared.Refusal.{Refusal}
use Rattle.std.specs.Prelude.{Ok, Err}
use Rattle.symbols.proofs.Numbered.{fault-some}
use Rattle.frontend.proofs.Buffers.{ready-cells, refused-20, too_long}
use Rattle.frontend.proofs.Meant.{its-meaning}
use Rattle.frontend.proofs.Steps.{decides-fault, process-fault, process-read, checked-wrong, checked-good}
use Rattle.frontend.specs.Resolving.{Resolves, mistaken}
use Rattle.frontend.specs.declared.Resolved.{Resolved}
use Rattle.mapper.proofs.Answers.{its-place}
use Rattle.names.specs.Known.{Checked, good, wrong}
use Rattle.names.specs.Understand.{understand}
use Rattle.processor.specs.Process.{process, part_of, checked, answer_for}
use Rattle.program.specs.Program.{Rule}
use Rattle.reader.specs.Counting.{Decides}
use Rattle.reader.specs.Answers.{Out}
use Rattle.sources.specs.Prepared.{Reads, Writes, Prepares, unready, InBuffers}
use Rattle.syntax.specs.Parse.{parse}
use Rattle.syntax.specs.Reading.{got}
use Rattle.syntax.specs.Written.{Program}
use Rattle.words.specs.Words.{Word}

-- A text that is read

answer-by : (text : List ℕ) {p : Program} (ws : List Word) → parse text ≡ got p ws → (m : Checked (List Rule)) → understand p ≡ m → process text 4096 ≡ answer_for text 4096 (checked m)
answer-by text {p} ws e m u = process-read text 4096 p ws e ∙ ap (λ k. answer_for text 4096 (checked k)) u

module _ {text : List ℕ} {p : Program} (ws : List Word) (e : parse text ≡ got p ws) where
  pub read-wrong : {rows cells starts sorts sheet : List ℕ} {x : Refusal} → Resolves text rows cells starts sorts p (Err x) (understand p) → Reads text cells sorts sheet (fault_number x.fault) x.at x.len
  unfolding part_of
  read-wrong {rows} {cells} {starts} {sorts} {sheet} {x} resolved = record { sourced = λ f. absurd (fault-some x.fault f); prepares = λ _. go (understand p) refl resolved }
    where
      go : {table : List ℕ} (m : Checked (List Rule)) → understand p ≡ m → Resolves text rows cells starts sorts p (Err x) m → Prepares text table sheet (fault_number x.fault) x.at x.len (process text 4096)
      go (good prog) u y = elim y [ ]
      go (wrong k w) u (mistaken q start len) = rw (answer-by text ws e (wrong k w) u ∙ checked-wrong text 4096 k w) (unready q (λ e. fault-some x.fault (q ∙ e)) start len)

  pub read-long : {rows cells starts sorts : List ℕ} {r : Resolved} {sheet : List ℕ} {number start len : ℕ} → Resolves text rows cells starts sorts p (Ok r) (understand p) → 4224 < r.cells → number ≡ 20 → start ≡ length text → len ≡ 0 → Reads text cells sorts sheet number start len
  read-long resolved l n s k =
      let h = its-meaning resolved in
      record {
        sourced = λ f. absurd (omega (arith, f, n));
        prepares = λ _. rw (answer-by text ws e (good h.prog) h.means ∙ checked-good text 4096 h.prog ∙ refused-20 text h.prog 4096 (too_long 4096 h.ready l)) (unready n (λ x. omega (arith, x)) s k);
      }

  pub in-buffers : {rows cells starts sorts : List ℕ} {r : Resolved} → Resolves text rows cells starts sorts p (Ok r) (understand p) → r.cells ≤ 4224 → InBuffers text rows r cells sorts
  in-buffers resolved l =
      let h = its-meaning resolved in
      record { tree = p; rest = ws; reads = e; prog = h.prog; means = h.means; cells_are = ready-cells h.ready l; rowed = h.rowed; placed = its-place resolved }

-- Any text

pub text-wrong : (text : List ℕ) {cells sorts sheet : List ℕ} {out : Out} → Decides out (parse text) → (out.fault ≡ 0 → ⊥) → Reads text cells sorts sheet out.fault out.at out.len
unfolding part_of
text-wrong text {out = out} d z =
    let m = decides-fault d z in
    record { sourced = λ f. absurd (z f); prepares = λ _. rw (process-fault text 4096 out.fault m.word m.is) (unready refl z m.at m.len) }

-- with a fault there is no table, without one it is that of the rules that were read
module _ {text cells sorts sheet : List ℕ} {number start len : ℕ} (reads : Reads text cells sorts sheet number start len) {table : List ℕ} where
  pub all-wrong : (number ≡ 0 → ⊥) → Prepares text table sheet number start len (process text 4096)
  all-wrong z = reads.prepares (λ f. absurd (z f))

  pub all-well : Writes cells sorts sheet table → Prepares text table sheet number start len (process text 4096)
  all-well w = reads.prepares (λ f. let s = reads.sourced f in w.writes _ s.cells_are s.short)
