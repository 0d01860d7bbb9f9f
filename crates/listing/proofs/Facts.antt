-- Listings worked out from document 01 by hand.
use mathlib.Core.Bool.{Bool, false, ◌&&◌}
use mathlib.Core.List.{[], ◌∷◌}
use Prim.Native.Nat.{ℕ}
use Prim.Native.String.{String}
use lib.Dec.{T}
use Rattle.base.specs.Common.{bytes, same}
use Rattle.finishing.specs.Test
use Rattle.machine.specs.Bytes
use Rattle.machine.specs.Bytes.{words_of}
use Rattle.names.specs.Declare
use Rattle.names.specs.Known
use Rattle.names.specs.Resolve
use Rattle.names.specs.Understand
use Rattle.names.specs.Uses
use Rattle.program.specs.Made
use Rattle.processor.specs.Process
use Rattle.processor.specs.Process.{accepted, process}
use Rattle.program.specs.Past
use Rattle.program.specs.Program
use Rattle.program.specs.Table
use Rattle.syntax.specs.Actions
use Rattle.syntax.specs.Parse
use Rattle.syntax.specs.Reading
use Rattle.syntax.specs.Sections
use Rattle.words.specs.Words
use Rattle.listing.specs.Listing
use Rattle.listing.specs.Listing.{decimal, listing}
use Rattle.listing.specs.Written.{filled}

listed : Unit {0}
unfolding Words.opened Reading.opened Actions.opened Sections.opened Parse.opened Known.opened Declare.opened Resolve.opened Understand.opened Uses.opened Made.opened Program.opened Past.opened Table.opened Test.opened Bytes.opened Process.opened Listing.opened
listed = tt

-- what is printed for a text that has this figure
pub prints : String → ℕ → String → Bool
prints text figure out = same (listing (bytes text) (process (bytes text) 4096) figure) (bytes out)

-- "For P1 it prints `table 1 finishing yes`, then `1 9`"; "For P8 it prints `refused 7 line 1`"; the figure's line is absent where there is none
pub printed : T (prints "rules M: ; end" 1 "table 1 finishing yes\n1\n1 9\n"
    && prints "rules M: ; end" 0 "table 1 finishing yes\n1 9\n"
    && prints "rules M: ; end" 4294967295 "table 1 finishing yes\n4294967295\n1 9\n"
    && prints "rules M: > ; end" 0 "refused 7 line 1\n"
    && prints "rules M: { } ; end" 0 "table 3 finishing no\n1 2\n2 1\n3 9\n"
    && prints "input: a b; rules M: [ | b: ]; end" 3 "table 12 finishing yes\n3\n1 7\n2 3\n3 1\n4 8\n5 1\n6 1\n7 4\n8 3\n9 1\n10 2\n11 8\n12 9\n"
    && prints "input: a = 65535; rules M: a; end" 1 "table 3 finishing yes\n1\n1 3\n2 65535\n3 9\n"
    && prints "% a comment\nrules M: >\n; end\n" 0 "refused 7 line 2\n"
    && prints "rules M:\n>\n; end\n" 0 "refused 7 line 2\n"
    && prints "rules M:\n;\n" 0 "refused 2 line 3\n"
    && prints "" 0 "refused 2 line 1\n")
unfolding listed prints
printed = tt

-- numbers in decimal
pub spelled : T (same (decimal 0) (bytes "0") && same (decimal 9) (bytes "9") && same (decimal 10) (bytes "10") && same (decimal 100) (bytes "100")
    && same (decimal 4096) (bytes "4096") && same (decimal 65535) (bytes "65535") && same (decimal 18446744073709551615) (bytes "18446744073709551615"))
unfolding listed
spelled = tt

-- "words high byte first"
pub high-first : T (same (listing [] (accepted (words_of (1 ∷ 2 ∷ [])) false) 0) (bytes "table 1 finishing no\n1 258\n"))
unfolding listed
high-first = tt

-- a buffer that is longer than the listing, and one that is shorter
pub fitted : T (same (filled (bytes "abc") (bytes "uvwxyz")) (bytes "abcxyz") && same (filled (bytes "abc") (bytes "uv")) (bytes "ab") && same (filled (bytes "abc") []) [])
unfolding listed filled
fitted = tt
