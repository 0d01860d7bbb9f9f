-- Laws of faults: a rule for each way of going on, and one step of the definitions.
use mathlib.Core.Bool.{Bool, true, false}
use mathlib.Core.List.{List, [], ◌∷◌, ◌++◌}
use mathlib.Core.Option.{Option, none, some}
use mathlib.Core.Path.{◌≡◌, refl, ap, sym, ◌∙◌}
use Prim.Native.Nat.{ℕ, zero, suc, ◌+◌, ◌*◌, ◌-◌, ◌≤◌, ◌<◌}
use native.Mathlib.Numerals.{add-one}
use native.Mathlib.Nat.{add-zero}
use native.Mathlib.Omega.{arith}
use lib.ListN.{length, get_or}
use borrow.Author.Tests.{ne_eqb, eq-eqb}
use Rattle.std.specs.Prelude.{if◌then◌else◌}
use Rattle.base.specs.Common.{given}
use Rattle.declarations.specs.Decls.{Decl, EntriesAt, index_of, elsewhere_in, type_in, optional_in, entry_again, repeats_in, operation_fault, operators_fault, decl_fault, decl_faults}
use Rattle.declarer.specs.Faults.{Faults, clean, faulty, input_again, both_again, operation_again, types_in, line_again, line_fault, line_faults}
use Rattle.grammar.specs.Derived.{OperatorsIn}
use Rattle.names.specs.Known.{Checked, good, wrong, ◌>>=◌, fault_if}
use Rattle.symbols.proofs.Numbered.{Numbered, found, missing}
use Rattle.symbols.specs.Rows.{word_of, option_of, decl_at, held_from, held}
use Rattle.symbols.specs.Search.{part}
use Rattle.symbols.proofs.Searches.{held_next, held-end, held_at, held-length}
use Rattle.syntax.specs.Written.{Operator}
use Rattle.words.specs.Words.{Word, words_at}

-- no fault so far
pub goes : {A B : Type 0} {f at len f₂ at₂ len₂ : ℕ} {m : Checked A} (k : A → Checked B)
    → Faults f at len m → f ≡ 0 → ((a : A) → Faults f₂ at₂ len₂ (k a)) → Faults f₂ at₂ len₂ (◌>>=◌ m k)
goes k (clean e) z h = h _
goes k (faulty e n p q) z h = absurd (n (sym e ∙ z))

pub stops : {A B : Type 0} {f at len : ℕ} {m : Checked A} (k : A → Checked B) → Faults f at len m → (f ≡ 0 → ⊥) → Faults f at len (◌>>=◌ m k)
stops k (clean e) z = absurd (z e)
stops k (faulty e n p q) z = faulty e n p q

-- the last check
pub ends : {A : Type 0} {f at len : ℕ} {m : Checked A} → Faults f at len m → Faults f at len (◌>>=◌ m (λ a. good (tt {0})))
ends (clean e) = clean e
ends (faulty e n p q) = faulty e n p q

pub is-clean : {f at len : ℕ} {m : Checked (Unit {0})} → Faults f at len m → f ≡ 0 → m ≡ good tt
is-clean (clean e) z = refl
is-clean (faulty e n p q) z = absurd (n (sym e ∙ z))

-- the fault of a word
pub again : (f at len : ℕ) (b : Bool) (n : ℕ) (w : Word) → b ≡ true → f ≡ n → (n ≡ 0 → ⊥) → at ≡ w.start → len ≡ length w.text → Faults f at len (fault_if b n w)
again f at len b n w e h z p q = rw e (faulty h z p q)

pub once : (f at len : ℕ) (b : Bool) (n : ℕ) (w : Word) → b ≡ false → f ≡ 0 → Faults f at len (fault_if b n w)
once f at len b n w e h = rw e (clean h)

-- the same check, said otherwise
pub moved : {A : Type 0} {f at len : ℕ} {m n : Checked A} → m ≡ n → Faults f at len n → Faults f at len m
moved e h = rw e h

-- a type looked up

looked : {f v at len : ℕ} {m : Checked ℕ} → Numbered f v m → f ≡ 0 → Faults 0 at len m
looked (found e h) z = clean refl
looked (missing e n) z = absurd (n (sym e ∙ z))

-- the word at fault is the one that was looked up
type-fault : (f v len : ℕ) (ds before : List Decl) (w : Word) → Numbered f v (type_in ds before w) → (f ≡ 0 → ⊥) → len ≡ length w.text
    → Faults f w.start len (type_in ds before w)
unfolding type_in
type-fault f v len ds before w l z q = go (index_of 5 w.text 0 before) (given (index_of 5 w.text 0 ds)) (elsewhere_in ds w.text) l where
  go : (o : Option ℕ) (b : Bool) (x : ℕ) → Numbered f v (elim o [ some i ↦ good (8 + i) | none ↦ if b then wrong 3 w else wrong x w ])
      → Faults {A = ℕ} f w.start len (elim o [ some i ↦ good (8 + i) | none ↦ if b then wrong 3 w else wrong x w ])
  go (some i) b x (found e h) = absurd (z e)
  go none true x (missing e n) = faulty e n refl q
  go none false x (missing e n) = faulty e n refl q

module _ (text : List ℕ) (ds before : List Decl) (start len : ℕ) (kind : ℕ) where
  pub optional-none : len ≡ 0 → Faults 0 0 0 (optional_in ds before (option_of text kind start len))
  unfolding optional_in option_of
  optional-none e = rw (eq-eqb len 0 e) (clean refl)

  pub optional-good : (f v : ℕ) → (len ≡ 0 → ⊥) → Numbered f v (type_in ds before (word_of text kind start len)) → f ≡ 0
      → Faults 0 0 0 (optional_in ds before (option_of text kind start len))
  unfolding optional_in option_of
  optional-good f v e l z = rw (ne_eqb len 0 e) (looked l z)

  pub optional-wrong : (f v size : ℕ) → (len ≡ 0 → ⊥) → Numbered f v (type_in ds before (word_of text kind start len)) → (f ≡ 0 → ⊥) → size ≡ length (part text start len)
      → Faults f start size (optional_in ds before (option_of text kind start len))
  unfolding optional_in option_of
  optional-wrong f v size e l z q = rw (ne_eqb len 0 e) (type-fault f v size ds before (word_of text kind start len) l z q)

-- the checks of one declaration

module _ (ds before : List Decl) (d : Decl) where
  pub types-go : {f at len f₂ at₂ len₂ : ℕ} → Faults f at len (optional_in ds before d.second) → f ≡ 0 → Faults f₂ at₂ len₂ (optional_in ds before d.third)
      → Faults f₂ at₂ len₂ (types_in ds before d)
  unfolding types_in
  types-go h z g = goes _ h z (λ a. ends g)

  pub types-stop : {f at len : ℕ} → Faults f at len (optional_in ds before d.second) → (f ≡ 0 → ⊥) → Faults f at len (types_in ds before d)
  unfolding types_in
  types-stop h z = stops _ h z

  pub operation-go : {f at len f₂ at₂ len₂ : ℕ} → Faults f at len (fault_if (operation_again d before) 4 d.name) → f ≡ 0 → Faults f₂ at₂ len₂ (types_in ds before d)
      → Faults f₂ at₂ len₂ (operation_fault ds before d)
  unfolding operation_fault types_in
  operation-go h z g = goes _ h z (λ a. g)

  pub operation-stop : {f at len : ℕ} → Faults f at len (fault_if (operation_again d before) 4 d.name) → (f ≡ 0 → ⊥) → Faults f at len (operation_fault ds before d)
  unfolding operation_fault
  operation-stop h z = stops _ h z

  module _ (es : List Operator) where
    pub of-type : d.class ≡ 5 → decl_fault ds before es d ≡ fault_if (given (index_of 5 d.name.text 0 before)) 4 d.name
    unfolding decl_fault
    of-type e = rw (eq-eqb d.class 5 e) refl

    pub of-operation : d.class ≡ 6 → decl_fault ds before es d ≡ operation_fault ds before d
    unfolding decl_fault
    of-operation e = rw e refl

    pub of-rule : d.class ≡ 7 → decl_fault ds before es d ≡ fault_if false 4 d.name
    unfolding decl_fault
    of-rule e = rw e refl

    pub of-operators : d.class ≡ 600 → decl_fault ds before es d ≡ operators_fault ds before es d
    unfolding decl_fault
    of-operators e = rw e refl

    pub of_entry : (d.class ≡ 5 → ⊥) → (d.class ≡ 6 → ⊥) → (d.class ≡ 7 → ⊥) → (d.class ≡ 600 → ⊥) → decl_fault ds before es d ≡ fault_if (entry_again d before) 4 d.name
    unfolding decl_fault
    of_entry e f g h = rw (ne_eqb d.class 5 e, ne_eqb d.class 6 f, ne_eqb d.class 7 g, ne_eqb d.class 600 h) refl

  -- and then the others
  next : {f at len : ℕ} (entries : ℕ → List Operator) (rest : List Decl) → Faults f at len (decl_fault ds before (entries (length before)) d) → f ≡ 0
      → decl_faults ds entries before (d ∷ rest) ≡ decl_faults ds entries (before ++ (d ∷ [])) rest
  unfolding decl_faults
  next entries rest h z = rw (is-clean h z) refl

  halt : {f at len : ℕ} (entries : ℕ → List Operator) (rest : List Decl) → Faults f at len (decl_fault ds before (entries (length before)) d) → (f ≡ 0 → ⊥)
      → Faults f at len (decl_faults ds entries before (d ∷ rest))
  unfolding decl_faults
  halt entries rest h z = stops _ h z

-- the row

module _ (text rows : List ℕ) where
  from_more : (j k : ℕ) → held_from text rows j (suc k) ≡ held_from text rows j k ++ (decl_at text rows (j + k) ∷ [])
  unfolding held_from
  from_more j zero = rw add-zero refl
  from_more j (suc k) = ap (λ (l : List Decl). decl_at text rows j ∷ l) (from_more (suc j) k ∙ rw shifted refl) where
    shifted : suc j + k ≡ j + suc k
    shifted = omega arith

  pub held_more : (i : ℕ) → held text rows (i + 1) ≡ held text rows i ++ (decl_at text rows i ∷ [])
  unfolding held
  held_more i = rw add-one (from_more 0 i ∙ rw none_more refl) where
    none_more : 0 + i ≡ i
    none_more = omega arith

  all_held : (i : ℕ) → length (held text rows i) ≡ i
  unfolding held
  all_held i = held-length text rows 0 i

  -- the entries of row i
  pub entries-here : (n : ℕ) (entries : ℕ → List Operator) (at : EntriesAt text (held text rows n) entries) (i : ℕ) → i < n → (decl_at text rows i).class ≡ 600
      → OperatorsIn (words_at text (decl_at text rows i).value) (at.behind i) (entries i)
  entries-here n entries at i h e = rw (held_at text rows n i h) at (at.stand i (rw (held_at text rows n i h) e))

  -- row i is checked with its own entries
  abbrev RowFaults : List Decl → ℕ → ℕ → ℕ → ℕ → Type 0
  RowFaults ds f at len i = (es : List Operator) (ws' : List Word) → ((decl_at text rows i).class ≡ 600 → OperatorsIn (words_at text (decl_at text rows i).value) ws' es)
      → Faults f at len (decl_fault ds (held text rows i) es (decl_at text rows i))

  module _ (n : ℕ) (entries : ℕ → List Operator) (at : EntriesAt text (held text rows n) entries) where
    row-fault : {f at' len : ℕ} (i : ℕ) → i < n → RowFaults (held text rows n) f at' len i
        → Faults f at' len (decl_fault (held text rows n) (held text rows i) (entries (length (held text rows i))) (decl_at text rows i))
    row-fault i l h = rw (all_held i) (h (entries i) (at.behind i) (entries-here n entries at i l))

    pub rows_start : decl_faults (held text rows n) entries [] (held text rows n) ≡ decl_faults (held text rows n) entries (held text rows 0) (held_from text rows 0 (n - 0))
    unfolding held held_from
    rows_start = ap (λ (k : ℕ). decl_faults (held_from text rows 0 n) entries [] (held_from text rows 0 k)) none-off where
      none-off : n ≡ n - 0
      none-off = omega arith

    pub rows-go : {f at' len : ℕ} (i : ℕ) → i < n → RowFaults (held text rows n) f at' len i → f ≡ 0
        → decl_faults (held text rows n) entries (held text rows i) (held_from text rows i (n - i))
        ≡ decl_faults (held text rows n) entries (held text rows (i + 1)) (held_from text rows (i + 1) (n - (i + 1)))
    rows-go i l h z = rw (held_next text rows i n l, held_more i, add-one) (next (held text rows n) (held text rows i) (decl_at text rows i) entries _ (row-fault i l h) z)

    pub rows-stop : {f at' len : ℕ} (i : ℕ) → i < n → RowFaults (held text rows n) f at' len i → (f ≡ 0 → ⊥)
        → Faults f at' len (decl_faults (held text rows n) entries (held text rows i) (held_from text rows i (n - i)))
    rows-stop i l h z = rw (held_next text rows i n l) (halt (held text rows n) (held text rows i) (decl_at text rows i) entries _ (row-fault i l h) z)

    pub rows_end : (i : ℕ) → n ≤ i → Faults 0 0 0 (decl_faults (held text rows n) entries (held text rows i) (held_from text rows i (n - i)))
    unfolding decl_faults
    rows_end i l = rw (held-end text rows i n l) (clean refl)

-- the numbers of a declaration, in the row

pub value_at : (text rows : List ℕ) (i : ℕ) → (decl_at text rows i).value ≡ get_or rows (8 * i + 1) 0
unfolding decl_at
value_at text rows i = refl

pub part-at-name : (text : List ℕ) (s l at len : ℕ) {size : ℕ} → s ≡ at → l ≡ len → size ≡ length (part text s l) → size ≡ length (part text at len)
part-at-name text s l at len e f q = rw (← e, ← f) q

-- an entry again, by its class

module _ (before : List Decl) (d : Decl) where
  pub again-input : d.class ≡ 1 → entry_again d before ≡ input_again d before
  unfolding entry_again
  again-input e = rw (eq-eqb d.class 1 e) refl

  pub again-both : d.class ≡ 3 → entry_again d before ≡ both_again d before
  unfolding entry_again
  again-both e = rw (ne_eqb d.class 1 (λ z. omega arith), eq-eqb d.class 3 e) refl

  pub again-other : (c : ℕ) → d.class ≡ c → (c ≡ 1 → ⊥) → (c ≡ 3 → ⊥) → entry_again d before ≡ repeats_in c d before
  unfolding entry_again
  again-other c e f g = rw (ne_eqb d.class 1 (λ z. f (sym e ∙ z)), ne_eqb d.class 3 (λ z. g (sym e ∙ z)), e) refl

-- the lines of a list

module _ (ds before : List Decl) (d : Decl) where
  pub line-go : {f at len f₂ at₂ len₂ : ℕ} → Faults f at len (fault_if (line_again d before) 4 d.name) → f ≡ 0 → Faults f₂ at₂ len₂ (optional_in ds before d.third)
      → Faults f₂ at₂ len₂ (line_fault ds before d)
  unfolding line_fault
  line-go h z g = goes _ h z (λ a. ends g)

  pub line-stop : {f at len : ℕ} → Faults f at len (fault_if (line_again d before) 4 d.name) → (f ≡ 0 → ⊥) → Faults f at len (line_fault ds before d)
  unfolding line_fault
  line-stop h z = stops _ h z

  line-next : {f at len : ℕ} (rest : List Decl) → Faults f at len (line_fault ds before d) → f ≡ 0 → line_faults ds before (d ∷ rest) ≡ line_faults ds (before ++ (d ∷ [])) rest
  unfolding line_faults
  line-next rest h z = rw (is-clean h z) refl

  line-halt : {f at len : ℕ} (rest : List Decl) → Faults f at len (line_fault ds before d) → (f ≡ 0 → ⊥) → Faults f at len (line_faults ds before (d ∷ rest))
  unfolding line_faults
  line-halt rest h z = stops _ h z

module _ (text rows : List ℕ) (ds : List Decl) (to : ℕ) where
  abbrev pub lines_from : ℕ → Checked (Unit {0})
  lines_from i = line_faults ds (held text rows i) (held_from text rows i (to - i))

  pub lines-go : {f at len : ℕ} (i : ℕ) → i < to → Faults f at len (line_fault ds (held text rows i) (decl_at text rows i)) → f ≡ 0 → lines_from i ≡ lines_from (i + 1)
  lines-go i l h z = rw (held_next text rows i to l, held_more text rows i, add-one) (line-next ds (held text rows i) (decl_at text rows i) _ h z)

  pub lines-stop : {f at len : ℕ} (i : ℕ) → i < to → Faults f at len (line_fault ds (held text rows i) (decl_at text rows i)) → (f ≡ 0 → ⊥) → Faults f at len (lines_from i)
  lines-stop i l h z = rw (held_next text rows i to l) (line-halt ds (held text rows i) (decl_at text rows i) _ h z)

  pub lines_end : (i : ℕ) → to ≤ i → Faults 0 0 0 (lines_from i)
  unfolding line_faults
  lines_end i l = rw (held-end text rows i to l) (clean refl)
