-- A table that was loaded stands at the front of the lent one; what is told of it.
use mathlib.Core.List.{List}
use mathlib.Core.Path.{◌≡◌, refl, sym, ap, ◌∙◌}
use Prim.Native.Nat.{ℕ, ◌*◌, ◌≤◌}
use native.Mathlib.Omega.{arith}
use lib.ListN.{length, take}
use Rattle.buffers.proofs.Writes.{over-length}
use Rattle.buffers.proofs.Zeros.{length-zeroed, over-zeroed}
use Rattle.buffers.specs.Words.{zeroed}
use Rattle.loader.proofs.Filing.{bounds}
use Rattle.loader.proofs.Loading.{part-is}
use Rattle.loader.specs.Records.{Loads}
use Rattle.loading.proofs.Files.{loads-exactly, loads-0}
use Rattle.loading.specs.File as files
use Rattle.loading.specs.File.{Answer, done, refused, load, lent_words, lent_bytes}
use Rattle.machine.specs.Bytes.{count, bytes_of, table_of, over}
use Rattle.rights.specs.Rights.{Numbers, admit, admit_loaded, tells}
use Rattle.std.specs.Prelude.{Result, Ok, Err}
use Rattle.loader.specs.Records as records
use Rattle.loader.specs.Records.{error_number}
use Rattle.loader.specs.declared.FileError.{FileError}
use Rattle.loader.specs.declared.FileError.TheVariants.{NotFormed, TooShort, NotTaken}
use Rattle.loader.specs.declared.Loaded.{Loaded}
use Rattle.admission.specs.Told.{said, told}
use Rattle.admission.specs.declared.Denial.{Denial}
use Rattle.admission.specs.declared.AdmissionError.TheVariants.{NotLoaded}

-- what is told of a table that was loaded, with what was said of it
abbrev pub together : Loaded → Result (Unit {0}) Denial → Numbers
together loaded a = tells (said a).number loaded.words loaded.verdict (said a).location

pub sides : (loaded : Loaded) (a : Result (Unit {0}) Denial) → together loaded a ≡ tells (said a).number loaded.words loaded.verdict (said a).location
sides loaded a = refl

-- what is known where a file was loaded
pub record Front (file before after : List ℕ) (words verdict : ℕ) : Type 0 where
  pub ws : List ℕ
  pub is : load file (count before) ≡ done ws verdict
  pub size : words ≡ length ws
  pub small : words ≤ 4096
  pub inside : 2 * words ≤ length after
  pub part : table_of (take (2 * words) after) ≡ ws

module _ (file before after : List ℕ) (r : Result Loaded FileError) (l : Loads (load file (count before)) r before after) where
  pub front : (loaded : Loaded) → r ≡ Ok loaded → Front file before after loaded.words loaded.verdict
  unfolding files.numbers_of lent_bytes lent_words count
  front loaded z =
      let n : records.told (Ok loaded) ≡ files.numbers_of (load file (count before)) = ap records.told (sym z) ∙ l.numbers in
      let d = loads-0 file (count before) (sym (ap (λ (x : files.Numbers). x.number) n)) in
      let ws = d.0 in
      let v = d.1 in
      let q = n ∙ ap files.numbers_of d.2 in
      let s : loaded.words ≡ length ws = ap (λ (x : files.Numbers). x.words) q in
      let u : loaded.verdict ≡ v = ap (λ (x : files.Numbers). x.verdict) q in
      let can = (loads-exactly file (count before) ws v).only_these d.2 in
      let low = (bounds (length ws) v can.limits).1 in
      let room = can.long_enough in
      let o : after ≡ over (bytes_of ws) (zeroed before) = l.lent ∙ ap (λ (a : Answer). lent_bytes a before) d.2 ∙ sym (over-zeroed ws before room) in
      let long = ap length o ∙ over-length ws (zeroed before) (omega (arith, length-zeroed before, room)) ∙ length-zeroed before in
      record {
        ws = ws;
        is = d.2 ∙ ap (done ws) (sym u);
        size = s;
        small = omega (arith, s, low);
        inside = omega (arith, long, room, s);
        part = ap (λ (y : List ℕ). table_of (take (2 * loaded.words) y)) o ∙ part-is ws (zeroed before) loaded.words s (omega (arith, s, low));
      }

  pub told-refused : (set : List ℕ) (error : FileError) → r ≡ Err error → told (Err (NotLoaded error)) ≡ admit_loaded set (load file (count before))
  unfolding files.numbers_of admit_loaded
  told-refused set error z = go (load file (count before)) refl
    where
      n : records.told (Err error) ≡ files.numbers_of (load file (count before))
      n = ap records.told (sym z) ∙ l.numbers

      go : (a : Answer) → load file (count before) ≡ a → told (Err (NotLoaded error)) ≡ admit_loaded set (load file (count before))
      go (refused k) e = let q : error_number error ≡ k = ap (λ (x : files.Numbers). x.number) (n ∙ ap files.numbers_of e) in rw (e, ← q) refl
      go (done ws v) e = absurd (not_zero error (ap (λ (x : files.Numbers). x.number) (n ∙ ap files.numbers_of e)))
        where
          not_zero : (x : FileError) → error_number x ≡ 0 → ⊥
          not_zero NotFormed q = omega arith
          not_zero TooShort q = omega arith
          not_zero NotTaken q = omega arith

pub told-loaded : (file before after set : List ℕ) (loaded : Loaded) (a : Result (Unit {0}) Denial) → Front file before after loaded.words loaded.verdict
    → said a ≡ admit (table_of (take (2 * loaded.words) after)) set → together loaded a ≡ admit_loaded set (load file (count before))
unfolding admit_loaded
told-loaded file before after set loaded a f e =
    let q : said a ≡ admit f.ws set = e ∙ ap (λ (t : List ℕ). admit t set) f.part in
    rw (f.is, ← q, ← f.size) (sides loaded a)
