-- "One table and verdict have one file": what is written is read back, and what is read is the table's own file.
use mathlib.Core.Bool.{Bool, true, false, ◌&&◌}
use mathlib.Core.List.{List, [], ◌∷◌, append-nil}
use mathlib.Core.Path.{◌≡◌, refl, sym, ap, ◌∙◌}
use Prim.Native.Nat.{ℕ, zero, suc, ◌*◌, ◌≤◌}
use native.Mathlib.Omega.{arith}
use lib.Dec.{leb}
use lib.ListN.{length, take, drop, length-drop, take-append-drop, drop_of_length-le}
use lib.Seq.{take_all, take_at, drop_at, length-take-le}
use borrow.Author.Tests.{leb-true, leb-false, le-leb}
use Rattle.base.proofs.Laws.{same_refl, same-eq}
use Rattle.base.specs.Bools.{and, split}
use Rattle.std.specs.Prelude.{if◌then◌else◌}
use Rattle.base.specs.Common.{same}
use Rattle.machine.specs.Bytes.{bytes_of}
use Rattle.machine.proofs.Bytes.{words_of-bytes_of}
use Rattle.loading.specs.File.{records, file_words, file_bytes, blocks, table_named, verdict_named, allowed, is_file, done, refused, load, store, numbers_of}
use Rattle.loading.specs.Promise.{Loadable, LoadsExactly}
use Rattle.loading.specs.Taking.{taken}
use Rattle.loading.proofs.Exact.{taken-Taken, Taken-taken}

-- Records

pub blocks-nil : (n : ℕ) → blocks n [] ≡ []
unfolding blocks
blocks-nil zero = refl
blocks-nil (suc n) = blocks-nil n

blocks-records : (n : ℕ) (ws : List ℕ) → length ws ≤ 256 * n → blocks n (records n ws) ≡ ws
unfolding blocks records
blocks-records zero [] h = refl
blocks-records zero (w ∷ ws) h = absurd (omega arith)
blocks-records (suc n) ws h = split (leb (length ws) 256) last (λ f. full f (blocks-records n (drop 256 ws) (omega (arith, length-drop 256 ws))))
  where
    last : leb (length ws) 256 ≡ true → blocks (suc n) (records (suc n) ws) ≡ ws
    last t =
        let l = leb-true (length ws) 256 t in
        rw (t, take_all 256 ws l, drop_of_length-le ws l, blocks-nil n, append-nil ws)

    full : leb (length ws) 256 ≡ false → blocks n (records n (drop 256 ws)) ≡ drop 256 ws → blocks (suc n) (records (suc n) ws) ≡ ws
    full f i =
        let l = leb-false (length ws) 256 f in
        let k = length-take-le 256 ws (omega arith) in
        rw (f, take_at (take 256 ws) (records n (drop 256 ws)) 256 k, drop_at (take 256 ws) (records n (drop 256 ws)) 256 k, i) (take-append-drop 256 ws)

-- what the file of a table and a verdict names
pub table_file : (ws : List ℕ) (v : ℕ) → length ws ≤ 4096 → table_named (file_bytes ws v) ≡ ws
unfolding table_named file_bytes file_words
table_file ws v h = rw (words_of-bytes_of (file_words ws v)) (blocks-records 16 ws (omega arith))

pub verdict_file : (ws : List ℕ) (v : ℕ) → verdict_named (file_bytes ws v) ≡ v
unfolding verdict_named file_bytes file_words
verdict_file ws v = rw (words_of-bytes_of (file_words ws v))

pub length-allowed : (n v : ℕ) → allowed n v ≡ true → n ≤ 4096
unfolding allowed
length-allowed n v e = leb-true n 4096 (and (leb 1 n) (leb n 4096) (and (leb 1 n && leb n 4096) (leb v 1) e).0).1

-- the file of an allowed table and verdict is one
pub file_is : (ws : List ℕ) (v : ℕ) → allowed (length ws) v ≡ true → is_file (file_bytes ws v) ≡ true
unfolding is_file
file_is ws v a = let l = length-allowed (length ws) v a in rw (table_file ws v l, verdict_file ws v, a) (same_refl (file_bytes ws v))

-- bytes that are a file are that of the table and the verdict that they name: no second file has the same
pub is_a_file : (s : List ℕ) → is_file s ≡ true → file_bytes (table_named s) (verdict_named s) ≡ s
unfolding is_file
is_a_file s e =
    let r = and (allowed (length (table_named s)) (verdict_named s)) (same (file_bytes (table_named s) (verdict_named s)) s) e in
    same-eq (file_bytes (table_named s) (verdict_named s)) s r.1

-- the file of a table that is taken is loaded, with its verdict
file-loads : (ws : List ℕ) (v room : ℕ) → allowed (length ws) v ≡ true → length ws ≤ room → taken ws ≡ true → load (file_bytes ws v) room ≡ done ws v
unfolding load
file-loads ws v room a h t =
    let l = length-allowed (length ws) v a in
    let i = file_is ws v a in
    let w = table_file ws v l in
    let c = verdict_file ws v in
    let r = le-leb (length ws) room h in
    rw (i, w, c, r, t)

pub loads-exactly : (file : List ℕ) (room : ℕ) (ws : List ℕ) (v : ℕ) → LoadsExactly file room ws v
unfolding load is_file
loads-exactly file room ws v = record {
  only_these = λ e. go (is_file file) refl e;
  all_these = λ h. ap (λ (s : List ℕ). load s room) h.one_file ∙ file-loads ws v room h.limits h.long_enough (Taken-taken ws h.takes);
}
  where
    loadable : is_file file ≡ true → leb (length (table_named file)) room ≡ true → taken (table_named file) ≡ true
        → Loadable file room (table_named file) (verdict_named file)
    loadable i r t = record {
      one_file = sym (is_a_file file i);
      limits = (and (allowed (length (table_named file)) (verdict_named file)) (same (file_bytes (table_named file) (verdict_named file)) file) i).0;
      long_enough = leb-true (length (table_named file)) room r;
      takes = taken-Taken (table_named file) t;
    }

    handed : (r t : Bool) → is_file file ≡ true → leb (length (table_named file)) room ≡ r → taken (table_named file) ≡ t
        → (if r then (if t then done (table_named file) (verdict_named file) else refused 41) else refused 20) ≡ done ws v → Loadable file room ws v
    handed false t i p q d = let z : ◌≡◌ {A = ℕ} 0 1 = cc in absurd (omega arith)
    handed true false i p q d = let z : ◌≡◌ {A = ℕ} 0 1 = cc in absurd (omega arith)
    handed true true i p q d =
        let x : table_named file ≡ ws = cc in
        let y : verdict_named file ≡ v = cc in
        rw (x, y) at (loadable i p q)

    go : (b : Bool) → is_file file ≡ b
        → (if b then (if leb (length (table_named file)) room then (if taken (table_named file) then done (table_named file) (verdict_named file) else refused 41) else refused 20) else refused 40) ≡ done ws v
        → Loadable file room ws v
    go false i d = let z : ◌≡◌ {A = ℕ} 0 1 = cc in absurd (omega arith)
    go true i d = handed (leb (length (table_named file)) room) (taken (table_named file)) i refl refl d

-- the number 0 is that of a file which is loaded
pub loads-0 : (file : List ℕ) (room : ℕ) → (numbers_of (load file room)).number ≡ 0 → (ws : List ℕ) × (v : ℕ) × (load file room ≡ done ws v)
unfolding load numbers_of
loads-0 file room e = go (is_file file) (leb (length (table_named file)) room) (taken (table_named file)) e
  where
    go : (a b t : Bool)
        → (numbers_of (if a then (if b then (if t then done (table_named file) (verdict_named file) else refused 41) else refused 20) else refused 40)).number ≡ 0
        → (ws : List ℕ) × (v : ℕ) × ((if a then (if b then (if t then done (table_named file) (verdict_named file) else refused 41) else refused 20) else refused 40) ≡ done ws v)
    go false b t d = absurd (omega arith)
    go true false t d = absurd (omega arith)
    go true true false d = absurd (omega arith)
    go true true true d = (table_named file, verdict_named file, refl)

-- what is written is loaded: the same table, with the same verdict
pub written_loads : (ws : List ℕ) (v room room' : ℕ) (file : List ℕ) (claim : ℕ) → store ws v room ≡ done file claim → length ws ≤ room'
    → load (bytes_of file) room' ≡ done ws v
unfolding store file_bytes
written_loads ws v room room' file claim e h = go (allowed (length ws) v) (leb (length (file_words ws v)) room) (taken ws) refl refl e
  where
    go : (a b t : Bool) → allowed (length ws) v ≡ a → taken ws ≡ t
        → (if a then (if b then (if t then done (file_words ws v) v else refused 41) else refused 20) else refused 40) ≡ done file claim
        → load (bytes_of file) room' ≡ done ws v
    go false b t f g d = let z : ◌≡◌ {A = ℕ} 0 1 = cc in absurd (omega arith)
    go true false t f g d = let z : ◌≡◌ {A = ℕ} 0 1 = cc in absurd (omega arith)
    go true true false f g d = let z : ◌≡◌ {A = ℕ} 0 1 = cc in absurd (omega arith)
    go true true true f g d =
        let q : file_words ws v ≡ file = cc in
        rw (← q) (file-loads ws v room' f h g)
