-- What admission promises of tables. The proofs are in proofs/Admits.antt; what it promises of walks stands in crate safety.
use Rattle.std.specs.Prelude.{true, false, List, ◌⊎◌, ◌≡◌, ℕ, ◌<◌, ◌≤◌}
use Rattle.loading.specs.File.{done, load}
use Rattle.loading.specs.Reach.{Reachable, Taken}
use Rattle.rights.specs.Rights.{granted, right, Admitted, says, admit, admit_loaded}

-- "A loaded table is admitted for a publisher exactly if every operation at a location reachable in the sense of A.4 is granted."
pub record AdmitsExactly (T set : List ℕ) : Type 0 where
  pub only_these : (admit T set).number ≡ 0 → Taken T × Admitted T set
  pub all_these : Taken T → Admitted T set → admit T set ≡ says 0 0

-- "48 for an operation not granted, after 41, naming the lowest such location"
pub record Denied (T set : List ℕ) (l : ℕ) : Type 0 where
  pub takes : Taken T
  pub reached : Reachable T l
  pub not_granted : right T set l ≡ false
  pub lowest : (m : ℕ) → Reachable T m → right T set m ≡ false → l ≤ m

abbrev pub NamesLowest : Type 0
NamesLowest = (T set : List ℕ) (l : ℕ) → admit T set ≡ says 48 l → Denied T set l

-- every operation of the one set is in the other, whatever bits their bytes have for numbers past 1,279, which no operation has
abbrev pub Larger : List ℕ → List ℕ → Type 0
Larger set larger = (op : ℕ) → op < 1280 → granted set op ≡ true → granted larger op ≡ true

-- "Enlarging a set never turns away a table that was admitted."
abbrev pub LargerAdmits : Type 0
LargerAdmits = (T set larger : List ℕ) → Larger set larger → (admit T set).number ≡ 0 → (admit T larger).number ≡ 0

-- a table that was loaded is admitted or turned away with 48: never with 41
abbrev pub LoadedAnswers : Type 0
LoadedAnswers =
    (file set : List ℕ) (room : ℕ) (ws : List ℕ) (verdict : ℕ) → load file room ≡ done ws verdict
    → ((admit_loaded set (load file room)).number ≡ 0) ⊎ ((admit_loaded set (load file room)).number ≡ 48)
