-- Where a name's rule stands among all rules: the names as they stand in the words of objects.
use Rattle.std.specs.Prelude.{List, [], ◌∷◌, ℕ, zero, suc, ◌+◌, get_or, if◌then◌else◌}
use Rattle.base.specs.Common.{same}
use Rattle.names.specs.Known.{Names}
use Rattle.names.specs.Uses.{Use, lowest_of}
use Rattle.parts.specs.Objects.{OpenRule}

-- n words from p on, 0 past the last
unfoldable pub letters : List ℕ → ℕ → ℕ → List ℕ
letters ws p zero = []
letters ws p (suc n) = get_or ws p 0 ∷ letters ws (suc p) n

-- the bytes of the name at p: behind where it stands in its text come its length and its bytes, a word each
unfoldable pub text_at : List ℕ → ℕ → List ℕ
text_at ws p = letters ws (p + 2) (get_or ws (p + 1) 0)

unfoldable pub texts_at : List ℕ → List ℕ → List (List ℕ)
texts_at ws [] = []
texts_at ws (p ∷ ps) = text_at ws p ∷ texts_at ws ps

-- the number of the first of these names that is w; where none is, how many they are
unfoldable pub place_of : List ℕ → List (List ℕ) → ℕ
place_of w [] = 0
place_of w (n ∷ ns) = let later = suc (place_of w ns) in if same w n then 0 else later

-- the names of rules
unfoldable pub rule_texts : List OpenRule → List (List ℕ)
rule_texts [] = []
rule_texts (r ∷ rs) = r.name.text ∷ rule_texts rs

-- the numbers of the rules of these names, the names of all rules being given
unfoldable pub places_for : List (List ℕ) → List (List ℕ) → List ℕ
places_for names [] = []
places_for names (w ∷ ws) = place_of w names ∷ places_for names ws

-- the word behind the name at p; m names one behind the other from p on, and the word behind them
unfoldable pub behind_name : List ℕ → ℕ → ℕ
behind_name ws p = p + 2 + get_or ws (p + 1) 0

unfoldable pub texts_from : List ℕ → ℕ → ℕ → List (List ℕ)
texts_from ws p zero = []
texts_from ws p (suc m) = text_at ws p ∷ texts_from ws (behind_name ws p) m

unfoldable pub texts_end : List ℕ → ℕ → ℕ → ℕ
texts_end ws p zero = p
texts_end ws p (suc m) = texts_end ws (behind_name ws p) m

-- the numbers of the lowest rules of an object's pairs, those made for all pairs `us` standing behind `own` rules
unfoldable pub lowests : Names → ℕ → List Use → List Use → List ℕ
lowests n own us [] = []
lowests n own us (u ∷ uses) = lowest_of n u own us ∷ lowests n own us uses

-- all of this file computes where this is unfolded
unfoldable pub opened : Unit {0}
unfolding letters text_at texts_at place_of rule_texts places_for behind_name texts_from texts_end lowests
opened = tt
