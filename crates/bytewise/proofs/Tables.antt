-- Demand 3 over any bytes that begin with the table's words, and over those that `sst_load` left of a text's own file; rights over bytes that `sst_admit` admitted.
use mathlib.Core.Bool.{Bool, true}
use mathlib.Core.List.{List, [], ◌++◌, append-nil}
use mathlib.Core.Option.{some}
use mathlib.Core.Path.{◌≡◌, sym, ap, ◌∙◌}
use Prim.Native.Nat.{ℕ, ◌+◌, ◌*◌, ◌<◌}
use Rattle.acceptance.proofs.Accepts.{accepted-table}
use Rattle.agreement.proofs.Theorem.{agreement}
use Rattle.figure.proofs.Battery.{figure-enough, figure-steps}
use Rattle.figure.specs.Count.{figure}
use Rattle.figure.specs.Told.{figure_of}
use Rattle.finishing.proofs.Exact.{finishing-sound}
use Rattle.loading.proofs.Files.{table_file, length-allowed, loads-exactly}
use Rattle.loading.specs.File.{file_bytes, table_named, Numbers}
use Rattle.machine.proofs.Bytes.{length-words_of}
use Rattle.machine.specs.Bytes.{count, words_of, table_of}
use Rattle.processor.specs.Process.{accepted, process}
use Rattle.program.specs.Table.{table}
use Rattle.rights.specs.Rights.{admit}
use Rattle.safety.proofs.Rights.{keeps}
use Rattle.safety.specs.Promise.{claim_of}
use Rattle.bytewise.proofs.Admitted.{within-words}
use Rattle.bytewise.proofs.Entries.{Below, suffices-bytes, steps-bytes, agrees_bytes}
use Rattle.bytewise.proofs.Figures.{measured, same-meaning}
use Rattle.bytewise.proofs.Joined.{byte-calls}
use Rattle.bytewise.proofs.Loaded.{left_by}
use Rattle.bytewise.specs.AtAdmission.{within_words, KeepsBytes}
use Rattle.bytewise.specs.AtLoading.{Loads}
use Rattle.bytewise.specs.AtTable.{OnTable, EnoughOn}
use Rattle.bytewise.specs.ByteCalls.{Slice}

pub on-table : (text : List ℕ) (room : ℕ) (words : List ℕ) (verdict : Bool) → process text room ≡ accepted words verdict → (table more : List ℕ) → Below 256 table
    → table_of table ≡ words ++ more → OnTable text verdict table
on-table text room words verdict e table more bt q =
    let d = agreement text room words verdict e in
    record {
      prog = d.prog;
      means = d.means;
      agrees = λ tokens answers bk ba allowance small.
          agrees_bytes d.prog table tokens answers bt bk ba allowance small (rw q (d.agrees more (words_of tokens) (words_of answers) allowance));
      finishes = λ v number allowance small.
          (let f = d.finishes v number allowance in (
            f.0,
            λ tokens answers bk ba h.
                suffices-bytes d.prog table tokens answers bt bk ba allowance small f.0 (rw q (f.1 more (words_of tokens) (words_of answers) (length-words_of tokens ∙ h))),
          ));
    }

-- the file of an accepted text, loaded: the same as where `sst_process` wrote the table
pub from-file : (text : List ℕ) (room : ℕ) (words : List ℕ) (verdict : Bool) → process text room ≡ accepted words verdict → (lent table : List ℕ) (x : Numbers)
    → Loads (file_bytes words (claim_of verdict)) lent table x → x.number ≡ 0 → OnTable text verdict table
from-file text room words verdict e lent table x l z =
    let file = file_bytes words (claim_of verdict) in
    let f = left_by file lent table l.source l.buffer l.bytes (ap (λ (y : Numbers). y.number) (sym l.numbers) ∙ z) in
    let g = (loads-exactly file (count lent) f.T f.v).only_these f.is in
    let a : table_named file ≡ words = table_file words (claim_of verdict) (accepted-table text room words verdict e).within_4096 in
    let b : table_named file ≡ f.T = ap table_named g.one_file ∙ table_file f.T f.v (length-allowed _ f.v g.limits) in
    on-table text room words verdict e table f.more f.bytes (f.begins ∙ ap (λ (w : List ℕ). w ++ f.more) (sym b ∙ a))

-- where `sst_admit` answers 0 for the bytes of a table, no call over them writes an event of an operation outside the set
pub from-admit : (table set : List ℕ) → Slice table → (admit (table_of table) set).number ≡ 0 → KeepsBytes table set
from-admit table set b z tokens answers bk ba allowance small s ws n ns c =
    let st = byte-calls table tokens answers b.bytes bk ba allowance small c in
    ap (within_words set) st.words
    ∙ within-words set (keeps (table_of table) [] set z (words_of tokens) (words_of answers) allowance st.walk st.events n ns (rw (append-nil (table_of table)) st.listed))

pub figure-on-table : (text : List ℕ) (room : ℕ) (words : List ℕ) (verdict : Bool) → process text room ≡ accepted words verdict → 0 < (figure_of text room).figure
    → (bytes more : List ℕ) → Below 256 bytes → table_of bytes ≡ words ++ more → EnoughOn text bytes (figure_of text room).figure
figure-on-table text room words verdict e h bytes more bt q =
    let m = measured text room h in
    let t = accepted-table text room m.words true m.answer in
    let i : figure t.prog ≡ some (figure_of text room).figure = ap figure (same-meaning t.means m.means) ∙ m.is in
    let w : words ≡ m.words = same_words (sym e ∙ m.answer) in
    let s : table_of bytes ≡ table t.prog ++ more = q ∙ ap (λ (v : List ℕ). v ++ more) (w ∙ t.words_are) in
    record {
      prog = t.prog;
      means = t.means;
      suffices = λ tokens answers bk ba allowance small.
          suffices-bytes t.prog bytes tokens answers bt bk ba allowance small (65 * (figure_of text room).figure * (count tokens + allowance + 1))
          (rw (s, ← length-words_of tokens) (figure-enough t.prog t.accepts (finishing-sound t.prog (sym t.verdict_is)) (figure_of text room).figure i more (words_of tokens) (words_of answers) allowance));
      steps = λ tokens answers bk ba allowance small.
          steps-bytes t.prog bytes tokens answers bt bk ba allowance small (65 * (figure_of text room).figure * (count tokens + allowance + 1))
          (rw (s, ← length-words_of tokens) (figure-steps t.prog t.accepts (finishing-sound t.prog (sym t.verdict_is)) (figure_of text room).figure i more (words_of tokens) (words_of answers) allowance));
    }
  where
    same_words : {a b : List ℕ} {x y : Bool} → accepted a x ≡ accepted b y → a ≡ b
    same_words d = cc
