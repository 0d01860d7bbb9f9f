-- Writing and loading are each other's inverse.
use mathlib.Core.Bool.{Bool, true, false}
use mathlib.Core.List.{List}
use mathlib.Core.Path.{◌≡◌, refl}
use Prim.Native.Nat.{ℕ, ◌≤◌}
use native.Mathlib.Omega.{arith}
use lib.Dec.{leb}
use lib.ListN.{length}
use borrow.Author.Tests.{le-leb}
use Rattle.base.specs.Bools.{and}
use Rattle.std.specs.Prelude.{if◌then◌else◌}
use Rattle.base.specs.Common.{same}
use Rattle.machine.specs.Bytes.{bytes_of}
use Rattle.loading.specs.File.{file_words, file_bytes, table_named, verdict_named, allowed, is_file, done, refused, load, store}
use Rattle.loading.specs.Inverse.{OneFile}
use Rattle.loading.specs.Taking.{taken}
use Rattle.loading.proofs.Files.{table_file, verdict_file, length-allowed, file_is, is_a_file, written_loads}

-- what a file that is loaded has passed
record Passed (s ws : List ℕ) (v : ℕ) : Type 0 where
  form : is_file s ≡ true
  sound : taken (table_named s) ≡ true
  table : table_named s ≡ ws
  claim : verdict_named s ≡ v

passed : (s : List ℕ) (room : ℕ) (ws : List ℕ) (v : ℕ) → load s room ≡ done ws v → Passed s ws v
unfolding load
passed s room ws v e = go (is_file s) (leb (length (table_named s)) room) (taken (table_named s)) refl refl e
  where
    go : (a b t : Bool) → is_file s ≡ a → taken (table_named s) ≡ t
        → (if a then (if b then (if t then done (table_named s) (verdict_named s) else refused 41) else refused 20) else refused 40) ≡ done ws v
        → Passed s ws v
    go false b t f g d = let z : ◌≡◌ {A = ℕ} 0 1 = cc in absurd (omega arith)
    go true false t f g d = let z : ◌≡◌ {A = ℕ} 0 1 = cc in absurd (omega arith)
    go true true false f g d = let z : ◌≡◌ {A = ℕ} 0 1 = cc in absurd (omega arith)
    go true true true f g d = record { form = f; sound = g; table = cc; claim = cc }

loaded_writes : (s : List ℕ) (room room' : ℕ) (ws : List ℕ) (v : ℕ) → load s room ≡ done ws v → length (file_words ws v) ≤ room'
    → (store ws v room' ≡ done (file_words ws v) v) × (bytes_of (file_words ws v) ≡ s)
unfolding is_file store file_bytes
loaded_writes s room room' ws v e h =
    let p = passed s room ws v e in
    let w = p.table in
    let c = p.claim in
    let a : allowed (length ws) v ≡ true = rw (w, c) at (and (allowed (length (table_named s)) (verdict_named s)) (same (file_bytes (table_named s) (verdict_named s)) s) p.form).0 in
    let t : taken ws ≡ true = rw w at p.sound in
    (rw (a, le-leb (length (file_words ws v)) room' h, t), rw (w, c) at (is_a_file s p.form))

pub one_file : OneFile
one_file = record {
  file_is = file_is;
  table_file = λ ws v a. table_file ws v (length-allowed (length ws) v a);
  verdict_file = λ ws v a. verdict_file ws v;
  is_a_file = is_a_file;
  written_loads = written_loads;
  loaded_writes = loaded_writes;
}
