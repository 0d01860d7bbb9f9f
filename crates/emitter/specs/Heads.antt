-- What a construct's first cell tells, and the words of a plain action or a selector.
use Rattle.std.specs.Prelude.{◌≡◌, ℕ, ◌+◌, ◌-◌, ◌<◌, ◌≤◌, cond, List, [], ◌∷◌, eqb, ltb, length, get_or, set}
use Rattle.machine.specs.Bytes.{words_of}
use Rattle.chains.specs.Chain.{placed}
use Rattle.emitter.specs.Words.{cut}
use Rattle.emitter.specs.declared.Item.{Item}
use Rattle.emitter.specs.declared.Operand.{Operand}
use Rattle.emitter.specs.declared.Operand.TheVariants.{Location, Distance}

-- how many labels the alternative at a cell has, 0: it is none
unfoldable pub labels_in : ℕ → ℕ
labels_in k = cond (ltb k 64) 0 (cond (ltb k 256) (k - 64) 0)

-- the same at p, 0 too where they do not fit into the cells
unfoldable pub labels_at : List ℕ → ℕ → ℕ
labels_at cs p = cond (ltb (p + labels_in (get_or cs p 0)) (length cs)) (labels_in (get_or cs p 0)) 0

-- 1: a choice
unfoldable pub chooses : ℕ → ℕ
chooses k = cond (eqb k 7) 1 (cond (eqb k 11) 1 (cond (ltb k 768) 0 1))

unfoldable pub ins_of : ℕ → ℕ
ins_of k = cond (eqb k 7) 7 11

-- a plain action by its cells k and v; t: where rule v starts
abbrev pub one : ℕ → Item
one k = record { cells = 1; count = 1; a = k; b = 0; d = 0 }

abbrev pub two : ℕ → ℕ → Item
two k v = record { cells = 2; count = 2; a = k; b = v; d = 0 }

abbrev pub three : ℕ → ℕ → ℕ → Item
three k v w = record { cells = 2; count = 3; a = k; b = v; d = w }

unfoldable pub plain_of : ℕ → ℕ → ℕ → Item
plain_of k v t =
    cond (ltb k 256)
    (cond (eqb k 4) (one k) (cond (eqb k 9) (one k) (cond (eqb k 8) (two k t) (cond (eqb k 10) (three k v 9) (two k v)))))
    (cond (ltb k 512) (one k) (three 13 v k))

-- the words of a selector, before the choice's instruction
abbrev pub none : Item
none = record { cells = 1; count = 0; a = 0; b = 0; d = 0 }

unfoldable pub sel_of : ℕ → ℕ → ℕ → Item
sel_of k v t = cond (eqb k 7) none (cond (eqb k 11) (two 8 t) (cond (ltb k 1024) (one k) (three 13 v k)))

-- at most three of the words
unfoldable pub firsts : ℕ → ℕ → ℕ → ℕ → List ℕ
firsts n a b d = cond (eqb n 0) [] (cond (eqb n 1) (a ∷ []) (cond (eqb n 2) (a ∷ b ∷ []) (a ∷ b ∷ d ∷ [])))

abbrev pub words_in : Item → List ℕ
words_in w = firsts w.count w.a w.b w.d

-- a call's word: where rule r starts, or its newest open call
unfoldable pub start_of : List ℕ → ℕ → ℕ
start_of starts r = cut (get_or starts r 0)

unfoldable pub plain_at : List ℕ → List ℕ → ℕ → Item
plain_at cs starts p = plain_of (get_or cs p 0) (get_or cs (p + 1) 0) (start_of starts (get_or cs (p + 1) 0))

unfoldable pub sel_at : List ℕ → List ℕ → ℕ → Item
sel_at cs starts p = sel_of (get_or cs p 0) (get_or cs (p + 1) 0) (start_of starts (get_or cs (p + 1) 0))

-- the slots after a call of rule r whose word stands at `place`
unfoldable pub called : List ℕ → ℕ → ℕ → List ℕ
called slots r place = cond (ltb (get_or slots r 0) placed) (set slots r place) slots

-- the same after an item whose first cell is k, where `call` is that of a call
abbrev pub called_by : ℕ → ℕ → List ℕ → ℕ → ℕ → List ℕ
called_by k call slots r place = cond (eqb k call) (called slots r place) slots

unfoldable pub called_at : List ℕ → ℕ → ℕ → List ℕ → ℕ → List ℕ
called_at cs p call slots place = called_by (get_or cs p 0) call slots (get_or cs (p + 1) 0) place

-- the next older word of a chain, 0: there is none
unfoldable pub link_at : List ℕ → ℕ → ℕ
link_at s i = cond (ltb (get_or (words_of s) i 0) i) (get_or (words_of s) i 0) 0

-- what each item keeps to
pub record Few (w : Item) : Type 0 where
  pub cells : w.cells ≤ 2
  pub some-cells : 0 < w.cells
  pub count : length (words_in w) ≡ w.count
  pub small : w.count ≤ 3

abbrev pub operand_number : Operand → ℕ
operand_number Location = 0
operand_number Distance = 1

-- what a jump's word counts from: k 0, the beginning; else the word itself
unfoldable pub anchor : ℕ → ℕ → ℕ
anchor k j = cond (eqb k 0) 0 j

-- where the alternative starts that follows the one whose jump is `older`; 0: it is the first
unfoldable pub behind : ℕ → ℕ → ℕ
behind older from = cond (eqb older 0) from (older + 1)
