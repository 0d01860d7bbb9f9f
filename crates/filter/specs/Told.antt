-- What C is told of a result: its number, the entry or byte that it names, the tokens written.
use Rattle.std.specs.Prelude.{Result, Ok, Err, ℕ}
use Rattle.filtering.specs.Filter.{Numbers, tells}
use Rattle.filter.specs.declared.FilterError.{FilterError}
use Rattle.filter.specs.declared.FilterError.TheVariants.{OverLimit, Crossed, Doubled, NotCovered, TooShort}

abbrev pub error_number : FilterError → ℕ
error_number OverLimit = 9
error_number (Crossed entry) = 42
error_number (Doubled byte) = 43
error_number (NotCovered byte) = 44
error_number TooShort = 20

abbrev pub named_in : FilterError → ℕ
named_in OverLimit = 0
named_in (Crossed entry) = entry
named_in (Doubled byte) = byte
named_in (NotCovered byte) = byte
named_in TooShort = 0

abbrev pub told : Result ℕ FilterError → Numbers
told (Ok written) = tells 0 0 written
told (Err error) = tells (error_number error) (named_in error) 0
