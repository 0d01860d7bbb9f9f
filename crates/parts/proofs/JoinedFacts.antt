-- Parts joined to one text, worked out by hand.
use mathlib.Core.List.{List, [], ◌∷◌, ◌++◌}
use Prim.Native.Nat.{ℕ}
use lib.Dec.{T}
use Rattle.base.specs.Common.{bytes, same}
use Rattle.parts.specs.Joined
use Rattle.parts.specs.Joined.{joined_text}
use Rattle.words.specs.Words

-- a line of a text
abbrev line : List ℕ → List ℕ → List ℕ
line s more = s ++ 10 ∷ more

-- a comment behind `rules`, one before `end`, an `end` that touches the rule, and bytes behind `end`
pub two-parts : T (same
    (joined_text (bytes "input: a;rules% the list" ++ 10 ∷ bytes "R >> t; end") ((bytes "rules M:a;" ++ 10 ∷ bytes "% end" ++ 10 ∷ bytes "end % M") ∷ bytes "rules N: { @M };end" ∷ []))
    (line (bytes "input: a;") (line (bytes "rules") (line (bytes " M:a;") (line (bytes "% end") (line [] (line (bytes " N: { @M };") (line (bytes "end") []))))))))
unfolding Words.opened Joined.opened
two-parts = tt

-- no section at all
pub one-part : T (same (joined_text (bytes "rules end") (bytes "rules M: ; end" ∷ [])) (line [] (line (bytes "rules") (line (bytes " M: ; ") (line (bytes "end") [])))))
unfolding Words.opened Joined.opened
one-part = tt
