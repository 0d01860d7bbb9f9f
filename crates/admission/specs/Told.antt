-- What C is told of a result: its number, the words and the verdict of what is loaded, and the location that it names, 0 for none.
use Rattle.std.specs.Prelude.{Result, Ok, Err, Option, Some, None, ◌≡◌, ℕ, ◌≤◌}
use Rattle.loader.specs.Records.{error_number}
use Rattle.loader.specs.declared.Loaded.{Loaded}
use Rattle.rights.specs.Rights.{Admission, Numbers, says, tells}
use Rattle.admission.specs.declared.Denial.{Denial}
use Rattle.admission.specs.declared.Denial.TheVariants.{NotTaken, NotGranted}
use Rattle.admission.specs.declared.AdmissionError.{AdmissionError}
use Rattle.admission.specs.declared.AdmissionError.TheVariants.{NotLoaded, Denied}

abbrev pub denial_number : Denial → ℕ
denial_number NotTaken = 41
denial_number (NotGranted location) = 48

abbrev pub location_in : Denial → ℕ
location_in NotTaken = 0
location_in (NotGranted location) = location

-- of a table
abbrev pub said : Result (Unit {0}) Denial → Admission
said (Ok done) = says 0 0
said (Err denial) = says (denial_number denial) (location_in denial)

-- of a file and its table
abbrev pub told : Result Loaded AdmissionError → Numbers
told (Ok loaded) = tells 0 loaded.words loaded.verdict 0
told (Err (NotLoaded error)) = tells (error_number error) 0 0 0
told (Err (Denied loaded denial)) = tells (denial_number denial) loaded.words loaded.verdict (location_in denial)

-- a search for a location, which is 1 at least, against the number that the definition gives, 0 for none
abbrev pub Lowest : ℕ → Option ℕ → Type 0
Lowest at None = at ≡ 0
Lowest at (Some l) = (1 ≤ l) × (at ≡ l)
