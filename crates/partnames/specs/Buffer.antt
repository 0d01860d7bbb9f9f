-- The common part and a further part in one buffer.
use Rattle.std.specs.Prelude.{List, ◌++◌, ◌≡◌, ℕ, ◌+◌, ◌-◌, max, length, take, drop, replicate}

-- n bytes of the source, from the place `from` on, stand at the place `at` of a buffer, before which nothing has changed
pub record Copies (source before now : List ℕ) (from n at : ℕ) : Type 0 where
  pub size : length now ≡ length before
  pub bytes : take (at + n) now ≡ take at before ++ take n (drop from source)

-- the place of the further part, behind the place `from`: never before that place, so that its words stand in the buffer where they do in the part or further on
unfoldable pub part_place : ℕ → ℕ → ℕ
part_place at from = max (at + 1) from

-- n line feeds stand from the place `at` on of a buffer, before which nothing has changed
pub record Fills (before now : List ℕ) (n at : ℕ) : Type 0 where
  pub size : length now ≡ length before
  pub bytes : take (at + n) now ≡ take at before ++ replicate n 10

-- both texts: the common part before the place `at`, a line feed or more, the further part behind the place `from`
unfoldable pub both_texts : List ℕ → ℕ → List ℕ → ℕ → List ℕ
both_texts common at part from = take at common ++ (replicate (part_place at from - at) 10 ++ drop from part)

-- all of this file computes where this is unfolded
unfoldable pub opened : Unit {0}
unfolding part_place both_texts
opened = tt
