-- Where `sst_load` answers 0, no call over the bytes that it left answers 37.
use mathlib.Core.Bool.{true}
use mathlib.Core.List.{List, ◌++◌}
use mathlib.Core.Path.{◌≡◌, refl, sym, ap, ◌∙◌}
use Prim.Native.Nat.{ℕ, zero, suc}
use native.Mathlib.Omega.{arith}
use lib.ListN.{length, take, drop}
use Rattle.loading.proofs.Files.{table_file, length-allowed, loads-exactly, loads-0}
use Rattle.loading.specs.File as files
use Rattle.loading.specs.File.{blocks, table_named, done, load, Numbers, numbers_of}
use Rattle.machine.specs.Bytes.{count, words_of, table_of}
use Rattle.processor.specs.Process.{accepted, lent_words, lent_bytes}
use Rattle.safety.proofs.Theorem.{loaded-never-37}
use Rattle.bytewise.proofs.Entries.{lent-table, Below, below_then, below-drop, lent-bytes}
use Rattle.bytewise.proofs.Joined.{byte-calls}
use Rattle.machine.proofs.Words.{small-words, small-take}
use Rattle.bytewise.specs.AtLoading.{Loads, NeverBytes37}
use Rattle.bytewise.specs.ByteCalls.{Slice}

-- the words of a file's records are words of the file
below-blocks : (n : ℕ) (ws : List ℕ) → Below 65536 ws → Below 65536 (blocks n ws)
unfolding blocks
below-blocks zero ws h = λ i. omega arith
below-blocks (suc n) ws h =
    below_then 65536 (take 256 (drop 2 ws)) (blocks n (drop 258 ws)) (small-take 256 (drop 2 ws) (below-drop 65536 2 ws (omega arith) h))
    (below-blocks n (drop 258 ws) (below-drop 65536 258 ws (omega arith) h))

below-named : (file : List ℕ) → Slice file → Below 65536 (table_named file)
unfolding table_named
below-named file s = below-blocks 16 (drop 4 (words_of file)) (below-drop 65536 4 (words_of file) (omega arith) (small-words file s.bytes))

-- the lent bytes are what the processor would have left
same-lent : (ws : List ℕ) (v : ℕ) (lent : List ℕ) → files.lent_bytes (done ws v) lent ≡ lent_bytes (accepted ws true) lent
unfolding files.lent_bytes files.lent_words lent_bytes lent_words
same-lent ws v lent = refl

-- a file that was loaded: its table stands at the front of the lent bytes, with more behind it
pub record Left (file lent table : List ℕ) : Type 0 where
  pub T : List ℕ
  pub v : ℕ
  pub is : load file (count lent) ≡ done T v
  pub more : List ℕ
  pub bytes : Below 256 table
  pub begins : table_of table ≡ T ++ more

pub left_by : (file lent table : List ℕ) → Slice file → Slice lent → table ≡ files.lent_bytes (load file (count lent)) lent
    → (numbers_of (load file (count lent))).number ≡ 0 → Left file lent table
left_by file lent table sf sl b z =
    let d = loads-0 file (count lent) z in
    let T = d.0 in
    let v = d.1 in
    let e = (loads-exactly file (count lent) T v).only_these d.2 in
    let low = length-allowed (length T) v e.limits in
    let named : table_named file ≡ T = ap table_named e.one_file ∙ table_file T v low in
    let left : table ≡ lent_bytes (accepted T true) lent = b ∙ ap (λ (a : files.Answer). files.lent_bytes a lent) d.2 ∙ same-lent T v lent in
    let more = lent-table T true lent low in
    let words : Below 65536 T = rw named at (below-named file sf) in
    record { T = T; v = v; is = d.2; more = more.0; bytes = rw left (lent-bytes T true lent words sl.bytes); begins = ap table_of left ∙ more.1 }

pub from-load : (file lent table : List ℕ) (x : Numbers) → Loads file lent table x → x.number ≡ 0 → NeverBytes37 table
from-load file lent table x l z tokens answers bk ba allowance small s ws n number ns c =
    let f = left_by file lent table l.source l.buffer l.bytes (ap (λ (y : Numbers). y.number) (sym l.numbers) ∙ z) in
    let st = byte-calls table tokens answers f.bytes bk ba allowance small c in
    loaded-never-37 file (count lent) f.T f.v f.more f.is (words_of tokens) (words_of answers) allowance st.walk st.events n number ns (rw f.begins at st.listed)
