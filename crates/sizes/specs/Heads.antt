-- What a construct's first cell tells: its cells, its words, the lists that it opens.
use Rattle.std.specs.Prelude.{ℕ, ◌+◌, ◌*◌, ◌-◌, cond, List, [], ◌∷◌, eqb, ltb, get_or}

-- by the cells below 15
abbrev pub cells_table : List ℕ
cells_table = 1 ∷ 1 ∷ 1 ∷ 2 ∷ 1 ∷ 2 ∷ 2 ∷ 1 ∷ 2 ∷ 1 ∷ 2 ∷ 2 ∷ 1 ∷ 1 ∷ 1 ∷ []

abbrev pub words_table : List ℕ
words_table = 0 ∷ 2 ∷ 2 ∷ 2 ∷ 1 ∷ 2 ∷ 2 ∷ 3 ∷ 2 ∷ 1 ∷ 3 ∷ 5 ∷ 1 ∷ 0 ∷ 4 ∷ []

-- 15 to 63 begin nothing; 64 and more is an alternative with that many labels more than 64
unfoldable pub cells_of : ℕ → ℕ
cells_of k = cond (ltb k 15) (get_or cells_table k 0) (cond (ltb k 64) 1 (cond (ltb k 256) (k - 63) (cond (ltb k 512) 1 (cond (ltb k 768) 2 (cond (ltb k 1024) 1 2)))))

unfoldable pub words_of : ℕ → ℕ
words_of k = cond (ltb k 15) (get_or words_table k 0) (cond (ltb k 64) 0 (cond (ltb k 256) (2 * (k - 63)) (cond (ltb k 512) 1 (cond (ltb k 768) 3 (cond (ltb k 1024) 4 6)))))

-- lists open after it, of d before it
unfoldable pub open_after : ℕ → ℕ → ℕ
open_after k d = cond (eqb k 0) (d - 1) (cond (eqb k 2) (d + 1) (cond (eqb k 13) (d + 1) (cond (ltb k 64) d (cond (ltb k 256) (d + 1) d))))
