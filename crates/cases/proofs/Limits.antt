-- Texts at the limits, as in syntax/proofs/Facts.antt: those that take the most computing stand here, where few edits compute them again.
use mathlib.Core.List.{List, [], ◌∷◌, ◌++◌}
use lib.Dec.{T}
use Rattle.base.specs.Common.{bytes}
use Rattle.syntax.proofs.Facts.{Line, reading, agrees, all_agree, times, fine_of, at_of}
use Rattle.syntax.proofs.Marks.{mark_at, unmarked}

-- "Limits: 128 rules, 512 names of entries, types and rules, 256 operations a kind" (R7, R9)
pub many : List Line
many =
    fine_of (bytes "rules " ++ (times 128 "r:;" ++ bytes "end"))
    ∷ at_of (bytes "rules " ++ (times 128 "r:;" ++ bytes "^q >> abcdefghijklmnopqrstuvwxyz1234567:;end")) 9 1
    ∷ at_of (bytes "rules " ++ (times 128 "r:;" ++ bytes "^; end")) 2 1
    ∷ fine_of (bytes "type t:v;mechanism m:f;mechanism n:g;input:a'x'" ++ (times 506 "a " ++ bytes ";rules M:;end"))
    ∷ at_of (bytes "type t:v;mechanism m:f;mechanism n:g;input:a'x'" ++ (times 506 "a " ++ bytes ";rules M:;^N:;end")) 9 1
    ∷ fine_of (bytes "output:a;error:a;input output:a;input:" ++ (times 508 "a " ++ bytes ";rules M:;end"))
    ∷ at_of (bytes "output:a;error:a;input output:a;input:" ++ (times 508 "a " ++ bytes ";rules M:;^N:;end")) 9 1
    ∷ at_of (bytes "operators E:a 1 left a;input:" ++ (times 510 "a " ++ bytes ";rules M:;^N:;end")) 9 1
    ∷ at_of (bytes "input:" ++ (times 512 "a " ++ bytes ";operators ^E $")) 9 1
    ∷ at_of (bytes "input:" ++ (times 511 "a " ++ bytes ";type t:^v;")) 9 1
    ∷ at_of (bytes "input:" ++ (times 512 "a " ++ bytes ";mechanism m:^f")) 9 1
    ∷ at_of (bytes "input:" ++ (times 512 "a " ++ bytes "^b = 65536;")) 9 1
    ∷ at_of (bytes "input:" ++ (times 512 "a " ++ bytes "^)")) 2 1
    ∷ fine_of (bytes "mechanism m:" ++ (times 256 "f " ++ bytes "g(t) g>>t g(t)>>t;rules M:;end"))
    ∷ at_of (bytes "mechanism m:" ++ (times 256 "f>>t " ++ bytes "^g >> $")) 9 1
    ∷ at_of (bytes "mechanism m:" ++ (times 256 "f(t) " ++ bytes "^g(abcdefghijklmnopqrstuvwxyz1234567);")) 9 1
    ∷ []

pub many-agree : T (all_agree many)
unfolding reading agrees all_agree mark_at unmarked times many
many-agree = tt
