-- The last step: from the buffers to the answer.
use mathlib.Core.Bool.{Bool, true, false, false≢true}
use mathlib.Core.List.{List}
use mathlib.Core.Path.{◌≡◌, refl, sym, ap, ◌∙◌}
use Prim.Native.Nat.{ℕ, ◌*◌, ◌≤◌}
use lib.Dec.{leb}
use lib.ListN.{length, take}
use borrow.Author.Tests.{leb-true}
use native.Mathlib.Decide.{dec_lt}
use native.Mathlib.Omega.{arith}
use Rattle.base.specs.Bools.{and}
use Rattle.buffers.proofs.Writes.{over-length}
use Rattle.buffers.proofs.Zeros.{length-zeroed, over-zeroed}
use Rattle.buffers.specs.Words.{zeroed}
use Rattle.emitter.specs.Emitted.{EmitDone, fits, emitted_words, emitted_bytes, fault_of}
use Rattle.figure.specs.Told.{untold}
use Rattle.finishing.proofs.Exact.{finishing-sound}
use Rattle.finishing.specs.Test.{finishing}
use Rattle.frontend.proofs.Buffers.{ready-cells, too_long, refused-20, accepts-it}
use Rattle.frontend.specs.Resolving.{Ready}
use Rattle.loader.proofs.Loading.{part-is}
use Rattle.machine.specs.Bytes.{count, bytes_of, table_of, over}
use Rattle.processor.specs.Process as means
use Rattle.processor.specs.Process.{refused, meaning, answer_for, lent_bytes, lent_words}
use Rattle.program.proofs.Lengths.{length-table}
use Rattle.program.specs.Program.{Rule}
use Rattle.program.specs.Table.{size_rules, table}
use Rattle.sizes.specs.Located.{Locates}
use Rattle.translator.proofs.Measured.{starts_are}
use Rattle.translator.specs.Answered.{answered, Settles, Stands}
use Rattle.translator.specs.declared.Answer.{Answer}

-- Refusals

pub end_refused : (text : List ℕ) (prog : List Rule) {old new : List ℕ} {r : Answer} {size : ℕ} → Settles (refused 20 (record { start = size; size = 0 })) untold old new r → length text ≡ size
    → fits prog (count old) ≡ false → Settles (answer_for text (count old) (meaning prog)) untold old new r
end_refused text prog {old} {new} {r} {size} s e f =
    let a : answer_for text (count old) (meaning prog) ≡ refused 20 (record { start = size; size = 0 }) = rw (← e) (refused-20 text prog (count old) f) in
    rw a s

-- the emitter's fault says whether the table fits
emit-fits : {old new : List ℕ} {prog : List Rule} {fault size : ℕ} → EmitDone prog old new fault size → fault ≡ 0 → fits prog (count old) ≡ true
unfolding fault_of
emit-fits {old} {new} {prog} {fault} {size} d e = go (fits prog (count old)) refl
  where
    go : (t : Bool) → fits prog (count old) ≡ t → t ≡ true
    go true q = refl
    go false q = let z : fault ≡ 20 = d.number ∙ rw q refl in absurd (omega (arith, z, e))

emit-not : {old new : List ℕ} {prog : List Rule} {fault size : ℕ} → EmitDone prog old new fault size → (fault ≡ 0 → ⊥) → fits prog (count old) ≡ false
unfolding fault_of
emit-not {old} {new} {prog} {fault} {size} d e = go (fits prog (count old)) refl
  where
    go : (t : Bool) → fits prog (count old) ≡ t → t ≡ false
    go true q = absurd (e (d.number ∙ rw q refl))
    go false q = refl

pub end-20 : (text : List ℕ) {old new : List ℕ} {prog : List Rule} {fault size n : ℕ} {r : Answer} → EmitDone prog old new fault n → (fault ≡ 0 → ⊥) → length text ≡ size
    → r ≡ answered (refused 20 (record { start = size; size = 0 })) untold → Settles (answer_for text (count old) (meaning prog)) untold old new r
unfolding emitted_bytes emitted_words lent_bytes lent_words
end-20 text {old} {new} {prog} {fault} {size} {n} d f e q =
    let z = emit-not d f in
    end_refused text prog (record { answer = q; lent = d.bytes ∙ rw z refl }) e z

-- A table that fits

pub end-good : (text : List ℕ) {old new : List ℕ} {prog : List Rule} {fault n : ℕ} {b : Bool} {r : Answer} → EmitDone prog old new fault n → fault ≡ 0 → b ≡ finishing prog
    → r ≡ record { number = 0; start = 0; len = 0; words = n; finishing = b; figure = 0; check = 0 } → Settles (answer_for text (count old) (meaning prog)) untold old new r
unfolding emitted_bytes emitted_words lent_bytes lent_words answered untold
end-good text {old} {prog = prog} d f e z =
    let x = emit-fits d f in
    rw (accepts-it text prog (count old) x) (record { answer = z ∙ rw (d.words ∙ sym (length-table prog), e) refl; lent = d.bytes ∙ rw x refl })

-- A finishing text

module _ (text : List ℕ) (prog : List Rule) {old new : List ℕ} {r : Answer} (s : Settles (answer_for text (count old) (meaning prog)) untold old new r) (v : r.finishing ≡ true) where
  it-fits : fits prog (count old) ≡ true
  unfolding answered
  it-fits = go (fits prog (count old)) refl
    where
      go : (t : Bool) → fits prog (count old) ≡ t → t ≡ true
      go true q = refl
      go false q =
          let z : Settles (refused 20 (record { start = length text; size = 0 })) untold old new r = rw (refused-20 text prog (count old) q) at s in
          absurd (false≢true (sym (ap (λ (a : Answer). a.finishing) z.answer) ∙ v))

  as-accepted : Settles (means.accepted (table prog) (finishing prog)) untold old new r
  as-accepted = rw (accepts-it text prog (count old) it-fits) at s

  size_is : r.words ≡ length (table prog)
  unfolding answered
  size_is = ap (λ (a : Answer). a.words) as-accepted.answer

  verdict_is : finishing prog ≡ true
  unfolding answered
  verdict_is = sym (ap (λ (a : Answer). a.finishing) as-accepted.answer) ∙ v

  within : (r.words ≤ count old) × (r.words ≤ 4096)
  unfolding fits
  within =
      let x = and (leb (size_rules prog) (count old)) (leb (size_rules prog) 4096) it-fits in
      (omega (arith, size_is, length-table prog, leb-true (size_rules prog) (count old) x.0), omega (arith, size_is, length-table prog, leb-true (size_rules prog) 4096 x.1))

  -- the table stands in front of the lent bytes
  front : new ≡ over (bytes_of (table prog)) (zeroed old)
  unfolding lent_bytes lent_words
  front = as-accepted.lent ∙ sym (over-zeroed (table prog) old (omega (arith, within.0, size_is)))

  -- no more cells than there is room for
  few-cells : {cells starts sorts : List ℕ} {rules filled : ℕ} → Ready cells starts sorts rules filled prog → filled ≤ 4224
  few-cells {filled = filled} h = elim (dec_lt 4224 filled) [ yes y ↦ absurd (false≢true (sym (too_long _ h y) ∙ it-fits)) | no y ↦ omega arith ]

  pub stands : {cells starts sorts : List ℕ} {rules filled : ℕ} (places : List ℕ) (size : ℕ) → Ready cells starts sorts rules filled prog → length places ≡ 128
      → Locates cells sorts rules places size → Stands new places r.words rules prog
  unfolding count
  stands {rules = rules} places size h k l =
      let its = ready-cells h (few-cells h) in
      let long = ap length front ∙ over-length (table prog) (zeroed old) (omega (arith, within.0, size_is, length-zeroed old)) in
      let room : rules ≤ length places = omega (arith, h.few, k) in
      record {
        short = within.1;
        inside = omega (arith, within.0, long, length-zeroed old);
        room = room;
        tabled = record {
          words = ap (λ (y : List ℕ). table_of (take (2 * r.words) y)) front ∙ part-is (table prog) (zeroed old) r.words size_is within.1;
          begins = starts_are places size l its room;
          few = omega (arith, h.few, h.number);
          accepts = h.accepts;
          finishes = finishing-sound prog verdict_is;
        };
      }
