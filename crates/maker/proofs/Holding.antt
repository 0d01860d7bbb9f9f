-- The pairs in the rows: looking one up, putting one behind the others; and a use by the row.
use mathlib.Core.Bool.{Bool, true, false, ◌&&◌}
use mathlib.Core.List.{List, [], ◌∷◌, ◌++◌}
use mathlib.Core.Logic.{◌⊎◌, inl, inr}
use mathlib.Core.Option.{Option, none, some}
use mathlib.Core.Path.{◌≡◌, refl, sym, ap, ◌∙◌}
use Prim.Native.Nat.{ℕ, zero, suc, ◌+◌, ◌*◌, ◌-◌, ◌<◌, ◌≤◌}
use native.Mathlib.Nat.{add-zero, zero-add}
use native.Mathlib.Omega.{arith}
use lib.Dec.{eqb}
use lib.ListN.{length, get_or, set, length-set, take, drop}
use lib.Seq.{get_or-set_same, get_or-set_other}
use Rattle.std.specs.Prelude.{Option as Answer, Some, None, is_some, unwrap_or, if◌then◌else◌}
use Rattle.base.specs.Common.{given}
use Rattle.declarations.specs.Decls.{index_of}
use Rattle.maker.specs.Marks.{behind, use_of}
use Rattle.maker.specs.Pairs.{Pair, pair_at, pairs_from, pairs_held, look_pair, lowest_in, section_row, operand_row}
use Rattle.maker.specs.Pairing.{set_three, Adds, UseRead}
use Rattle.places.proofs.Heres.{head-here}
use Rattle.scanner.specs.Next.{Next, as_word}
use Rattle.scanner.specs.declared.WordAt.{WordAt}
use Rattle.symbols.proofs.Indexing.{index-after, index-set}
use Rattle.symbols.specs.Rows.{held, answer_of, number_of}
use Rattle.syntax.specs.Reading.{peek}
use Rattle.words.specs.Words.{Word, words_at}

-- Looking up

abbrev pub is_pair : ℕ → ℕ → List ℕ → ℕ → Bool
is_pair s o rows j = eqb (get_or rows (5633 + 3 * j) 0) s && eqb (get_or rows (5634 + 3 * j) 0) o

pub look-first : (rows : List ℕ) (s o n : ℕ) → n ≡ get_or rows 5632 0 → look_pair s o (pairs_held rows) ≡ look_pair s o (pairs_from rows 0 (n - 0))
unfolding pairs_held
look-first rows s o n e = let d : get_or rows 5632 0 ≡ n - 0 = omega (arith, e) in ap (λ (k : ℕ). look_pair s o (pairs_from rows 0 k)) d

one-pair : (rows : List ℕ) (s o j n : ℕ) → j < n
    → look_pair s o (pairs_from rows j (n - j)) ≡ (if is_pair s o rows j then some (get_or rows (5635 + 3 * j) 0) else look_pair s o (pairs_from rows (suc j) (n - suc j)))
unfolding pairs_from pair_at look_pair
one-pair rows s o j n h = let d : n - j ≡ suc (n - suc j) = omega (arith, h) in ap (λ (k : ℕ). look_pair s o (pairs_from rows j k)) d

pub look_hit : (rows : List ℕ) (s o : ℕ) {j n r : ℕ} {b : Bool} → j < n → b ≡ is_pair s o rows j → b ≡ true → look_pair s o (pairs_held rows) ≡ look_pair s o (pairs_from rows j (n - j))
    → r ≡ get_or rows (5635 + 3 * j) 0 → Some r ≡ answer_of (look_pair s o (pairs_held rows))
look_hit rows s o {j} {n} {r} {b} h e t i q =
    rw (i ∙ (one-pair rows s o j n h ∙ ap (λ (x : Bool). if x then some (get_or rows (5635 + 3 * j) 0) else look_pair s o (pairs_from rows (suc j) (n - suc j))) (sym e ∙ t)))
    (ap {B = Answer ℕ} Some q)

pub look-on : (rows : List ℕ) (s o : ℕ) {j n : ℕ} {b : Bool} → j < n → b ≡ is_pair s o rows j → b ≡ false → look_pair s o (pairs_held rows) ≡ look_pair s o (pairs_from rows j (n - j))
    → look_pair s o (pairs_held rows) ≡ look_pair s o (pairs_from rows (j + 1) (n - (j + 1)))
look-on rows s o {j} {n} {b} h e t i =
    let d : suc j ≡ j + 1 = omega arith in
    i ∙ (one-pair rows s o j n h ∙ (ap (λ (x : Bool). if x then some (get_or rows (5635 + 3 * j) 0) else look_pair s o (pairs_from rows (suc j) (n - suc j))) (sym e ∙ t)
    ∙ ap (λ (k : ℕ). look_pair s o (pairs_from rows k (n - k))) d))

pub look-end : (rows : List ℕ) (s o : ℕ) {j n : ℕ} → n ≤ j → look_pair s o (pairs_held rows) ≡ look_pair s o (pairs_from rows j (n - j)) → None ≡ answer_of (look_pair s o (pairs_held rows))
unfolding pairs_from look_pair
look-end rows s o {j} {n} h i = let d : n - j ≡ 0 = omega (arith, h) in rw (i ∙ ap (λ (k : ℕ). look_pair s o (pairs_from rows j k)) d) refl

pub lowest-found : (rows : List ℕ) (s o : ℕ) → unwrap_or (answer_of (look_pair s o (pairs_held rows))) 0 ≡ lowest_in s o (pairs_held rows)
unfolding lowest_in
lowest-found rows s o = go (look_pair s o (pairs_held rows))
  where
    go : (x : Option ℕ) → ◌≡◌ {A = ℕ} (unwrap_or (answer_of x) 0) (elim x as (λ _. ℕ) [ some w ↦ w | none ↦ 0 ])
    go (some w) = refl
    go none = refl

-- Answers of the code

pub answer-given : {v : Answer ℕ} (x : Option ℕ) → v ≡ answer_of x → given x ≡ is_some v
answer-given (some k) e = rw e refl
answer-given none e = rw e refl

pub never-none : {A : Type 0} {v : A} → ◌≡◌ {A = Answer A} None (Some v) → ⊥
never-none e = let z : ◌≡◌ {A = ℕ} 0 1 = cc in omega (arith, z)

answer-number : {i : ℕ} (x : Option ℕ) → Some i ≡ answer_of x → i ≡ number_of x
answer-number none e = absurd (never-none (sym e))
answer-number (some v) e = cc

-- One pair more

pairs-snoc : (rows : List ℕ) (j k : ℕ) → pairs_from rows j (suc k) ≡ pairs_from rows j k ++ (pair_at rows (j + k) ∷ [])
unfolding pairs_from
pairs-snoc rows j zero = ap {B = List Pair} (λ (i : ℕ). pair_at rows i ∷ []) (sym (add-zero j))
pairs-snoc rows j (suc k) =
    let d : suc j + k ≡ j + suc k = omega arith in
    ap {B = List Pair} (λ (l : List Pair). pair_at rows j ∷ l) (pairs-snoc rows (suc j) k ∙ ap (λ (i : ℕ). pairs_from rows (suc j) k ++ (pair_at rows i ∷ [])) d)

pair_same : (old new : List ℕ) (j : ℕ) → ((i : ℕ) → 5632 < i → i < 5636 + 3 * j → get_or new i 0 ≡ get_or old i 0) → pair_at new j ≡ pair_at old j
unfolding pair_at
pair_same old new j f = rw (f (5633 + 3 * j) (omega arith) (omega arith), f (5634 + 3 * j) (omega arith) (omega arith), f (5635 + 3 * j) (omega arith) (omega arith)) refl

pairs-same : (old new : List ℕ) (j k : ℕ) → ((i : ℕ) → 5632 < i → i < 5633 + 3 * (j + k) → get_or new i 0 ≡ get_or old i 0) → pairs_from new j k ≡ pairs_from old j k
unfolding pairs_from
pairs-same old new j zero f = refl
pairs-same old new j (suc k) f =
    rw (pair_same old new j (λ i a b. f i a (omega (arith, b))), pairs-same old new (suc j) k (λ i a b. f i a (omega (arith, b)))) refl

module _ (rows : List ℕ) (k s o l : ℕ) (room : 5636 + 3 * k ≤ length rows) where
  abbrev three : List ℕ
  three = set_three rows (5633 + 3 * k) s o l

  abbrev after : List ℕ
  after = set three 5632 (k + 1)

  three-length : length three ≡ length rows
  three-length = simp length-set refl

  not_first : (i : ℕ) → (i ≡ 5632 → ⊥) → get_or after i 0 ≡ get_or three i 0
  not_first i h = get_or-set_other three 5632 i (k + 1) 0 h

  before : (i : ℕ) → 5632 < i → i < 5633 + 3 * k → get_or after i 0 ≡ get_or rows i 0
  before i a b =
      not_first i (λ e. omega (arith, e, a))
      ∙ (get_or-set_other (set (set rows (5633 + 3 * k) s) (5633 + 3 * k + 1) o) (5633 + 3 * k + 2) i l 0 (λ e. omega (arith, e, b))
      ∙ (get_or-set_other (set rows (5633 + 3 * k) s) (5633 + 3 * k + 1) i o 0 (λ e. omega (arith, e, b)) ∙ get_or-set_other rows (5633 + 3 * k) i s 0 (λ e. omega (arith, e, b))))

  at_first : get_or after (5633 + 3 * k) 0 ≡ s
  at_first =
      not_first (5633 + 3 * k) (λ e. omega (arith, e))
      ∙ (get_or-set_other (set (set rows (5633 + 3 * k) s) (5633 + 3 * k + 1) o) (5633 + 3 * k + 2) (5633 + 3 * k) l 0 (λ e. omega (arith, e))
      ∙ (get_or-set_other (set rows (5633 + 3 * k) s) (5633 + 3 * k + 1) (5633 + 3 * k) o 0 (λ e. omega (arith, e)) ∙ get_or-set_same rows (5633 + 3 * k) s 0 (omega (arith, room))))

  at_second : get_or after (5634 + 3 * k) 0 ≡ o
  at_second =
      not_first (5634 + 3 * k) (λ e. omega (arith, e))
      ∙ (get_or-set_other (set (set rows (5633 + 3 * k) s) (5633 + 3 * k + 1) o) (5633 + 3 * k + 2) (5634 + 3 * k) l 0 (λ e. omega (arith, e)) ∙ own (omega arith))
    where
      own : 5634 + 3 * k ≡ 5633 + 3 * k + 1 → get_or (set (set rows (5633 + 3 * k) s) (5633 + 3 * k + 1) o) (5634 + 3 * k) 0 ≡ o
      own e = rw e (get_or-set_same (set rows (5633 + 3 * k) s) (5633 + 3 * k + 1) o 0 (simp length-set (omega (arith, room))))

  at-third : get_or after (5635 + 3 * k) 0 ≡ l
  at-third = not_first (5635 + 3 * k) (λ e. omega (arith, e)) ∙ own (omega arith)
    where
      own : 5635 + 3 * k ≡ 5633 + 3 * k + 2 → get_or three (5635 + 3 * k) 0 ≡ l
      own e = rw e (get_or-set_same (set (set rows (5633 + 3 * k) s) (5633 + 3 * k + 1) o) (5633 + 3 * k + 2) l 0 (simp length-set (omega (arith, room))))

  pair_is : pair_at after k ≡ record { section = s; operand = o; lowest = l }
  unfolding pair_at
  pair_is = rw (at_first, at_second, at-third) refl

  count-is : get_or after 5632 0 ≡ k + 1
  count-is = get_or-set_same three 5632 (k + 1) 0 (omega (arith, three-length, room))

  pub pair-added : Adds rows after k s o l
  unfolding pairs_held
  pair-added = record {
    index = index-after (index-after (index-after (index-set rows (5633 + 3 * k) s (omega arith)) (index-set (set rows (5633 + 3 * k) s) (5633 + 3 * k + 1) o (omega arith)))
        (index-set (set (set rows (5633 + 3 * k) s) (5633 + 3 * k + 1) o) (5633 + 3 * k + 2) l (omega arith))) (index-set three 5632 (k + 1) (omega arith));
    count = count-is;
    pairs = λ e.
        let d : get_or after 5632 0 ≡ suc k = count-is ∙ omega arith in
        ap (pairs_from after 0) d
        ∙ (pairs-snoc after 0 k
        ∙ (ap (λ (v : List Pair). v ++ (pair_at after (0 + k) ∷ [])) (pairs-same rows after 0 k (λ i a b. before i a (omega (arith, b))) ∙ ap (pairs_from rows 0) (sym e))
        ∙ ap (λ (q : Pair). pairs_from rows 0 (get_or rows 5632 0) ++ (q ∷ [])) (ap (pair_at after) (zero-add k) ∙ pair_is)));
  }

pub pair_put : {rows mid rows' : List ℕ} {k s o l : ℕ} → 5636 + 3 * k ≤ length rows → mid ≡ set_three rows (5633 + 3 * k) s o l → rows' ≡ set mid 5632 (k + 1) → Adds rows rows' k s o l
pair_put {rows} {mid} {rows'} {k} {s} {o} {l} room e f = rw (f, e) (pair-added rows k s o l room)

-- A use

two-sides : (n : ℕ) → (2 ≤ n) ⊎ (n < 2)
two-sides zero = inr (omega arith)
two-sides (suc zero) = inr (omega arith)
two-sides (suc (suc n)) = inl (omega arith)

-- the words behind the next one, where there is a third
behind-here : (text : List ℕ) (at : ℕ) {w : WordAt} → Next text at w → (f : List Word → Word) → ((f []).kind ≡ 257 → ⊥) → (f (behind (words_at text at))).kind ≡ 257
    → behind (words_at text at) ≡ words_at text w.next
unfolding behind
behind-here text at {w} n f z k = go (two-sides w.kind)
  where
    go : (2 ≤ w.kind) ⊎ (w.kind < 2) → behind (words_at text at) ≡ words_at text w.next
    go (inl h) = ap behind (n.more h)
    go (inr h) = absurd (z (ap (λ (l : List Word). (f l).kind) (sym (ap behind (n.final h))) ∙ k))

module _ (text : List ℕ) (at : ℕ) {s c o : WordAt} (ns : Next text at s) (nc : Next text s.next c) (nq : Next text c.next o) (w : Word)
    (k : (use_of w (words_at text at)).operand.kind ≡ 257) where
  pub section-is : (use_of w (words_at text at)).section ≡ as_word text s
  unfolding use_of
  section-is = head-here text at s ns

  pub operand-is : (use_of w (words_at text at)).operand ≡ as_word text o
  unfolding use_of behind peek
  operand-is =
      let a = behind-here text at ns (λ l. peek (behind l)) (λ e. omega (arith, e)) k in
      let b = behind-here text s.next nc peek (λ e. omega (arith, e)) (ap (λ (l : List Word). (peek (behind l)).kind) (sym a) ∙ k) in
      ap (λ (l : List Word). peek (behind l)) a ∙ (ap peek b ∙ head-here text c.next o nq)

module _ (text rows : List ℕ) (n at : ℕ) {s c o : WordAt} (ns : Next text at s) (nc : Next text s.next c) (nq : Next text c.next o) where
  abbrev section-of : Option ℕ
  section-of = index_of 600 (take s.len (drop s.start text)) 0 (held text rows n)

  abbrev operand-of : Option ℕ
  operand-of = index_of 7 (take o.len (drop o.start text)) 0 (held text rows n)

  section-same : (w : Word) → (use_of w (words_at text at)).operand.kind ≡ 257 → index_of 600 (use_of w (words_at text at)).section.text 0 (held text rows n) ≡ section-of
  section-same w k = ap (λ (v : Word). index_of 600 v.text 0 (held text rows n)) (section-is text at ns nc nq w k)

  operand-same : (w : Word) → (use_of w (words_at text at)).operand.kind ≡ 257 → index_of 7 (use_of w (words_at text at)).operand.text 0 (held text rows n) ≡ operand-of
  operand-same w k = ap (λ (v : Word). index_of 7 v.text 0 (held text rows n)) (operand-is text at ns nc nq w k)

  pub no-section : None ≡ answer_of section-of → UseRead text rows n at None
  no-section e = record { low = tt; finds = λ w k q. absurd (never-none (e ∙ ap answer_of (sym (section-same w k) ∙ q.section))) }

  pub no-operand : None ≡ answer_of operand-of → UseRead text rows n at None
  no-operand e = record { low = tt; finds = λ w k q. absurd (never-none (e ∙ ap answer_of (sym (operand-same w k) ∙ q.operand))) }

  pub use-read : {i j : ℕ} → Some i ≡ answer_of section-of → i < n → Some j ≡ answer_of operand-of → j < n → UseRead text rows n at (Some (record { section = i; operand = j }))
  unfolding section_row operand_row
  use-read {i} {j} e l f m = record {
    low = (l, m);
    finds = λ w k q. record {
      used = record { section = i; operand = j };
      there = refl;
      section = answer-number section-of e ∙ ap number_of (sym (section-same w k));
      operand = answer-number operand-of f ∙ ap number_of (sym (operand-same w k));
    };
  }
