-- The tree of a rule's actions, once for what the author wrote and once for what it means: P is a plain action, S what a choice
-- goes by, L a label.
use Rattle.std.specs.Prelude.{List}

infixr 40 ◌▸◌
mutual
  -- "A cycle or a choice holds actions, which may be cycles and choices again"
  pub data Action (P S L : Type 0) : Type 0 where
    plain : P → Action P S L
    cycle : Actions P S L → Action P S L
    choice : S → Alternatives P S L → Otherwise P S L → Action P S L

  -- actions in a row
  pub data Actions (P S L : Type 0) : Type 0 where
    done : Actions P S L
    ◌▸◌ : Action P S L → Actions P S L → Actions P S L

  -- the labelled alternatives of a choice
  pub data Alternatives (P S L : Type 0) : Type 0 where
    nil : Alternatives P S L
    alternative : List L → Actions P S L → Alternatives P S L → Alternatives P S L

  -- "`*` alone, in the last place, is otherwise"
  pub data Otherwise (P S L : Type 0) : Type 0 where
    absent : Otherwise P S L
    otherwise : Actions P S L → Otherwise P S L
