-- The faults of a common part, by its rows.
use mathlib.Core.List.{List, [], ◌∷◌, ◌++◌, append_assoc}
use mathlib.Core.Option.{some}
use mathlib.Core.Path.{◌≡◌, refl, sym, ap, subst, ◌∙◌}
use Prim.Native.Nat.{ℕ, zero, suc, ◌+◌, ◌-◌, ◌≤◌}
use native.Mathlib.Omega.{arith}
use lib.ListN.{length, take, drop}
use lib.Seq.{drop_at, take_at}
use Rattle.declarations.proofs.Declaring.{declares-good, declares-wrong}
use Rattle.declarations.proofs.Whole.{length-sections}
use Rattle.declarations.specs.Decls.{Agrees, Decl, EntriesAt, decl_faults, decls_of, entries_of, rule_decls, sections_decls}
use Rattle.declarer.proofs.Lines.{lines-mean}
use Rattle.base.specs.declared.Refusal.{Refusal}
use Rattle.std.specs.Prelude.{Result}
use Rattle.declarer.specs.Faults.{Faults, clean, faulty, fault_of, at_of, len_of, line_faults, lines_mean}
use Rattle.names.specs.Declare.{declare_sections, known_rules}
use Rattle.names.specs.Known.{Checked, good, wrong, ◌>>=◌, Known, Names, lookup_type, optional_type}
use Rattle.names.specs.Understand.{nobody}
use Rattle.names.specs.Uses.{Use, rules_uses}
use Rattle.parts.specs.Objects.{as_rules, called_rules, common_means, list_means, others, together, used_in}
use Rattle.partnames.proofs.Listing.{lines-length}
use Rattle.partnames.proofs.Mentioned.{held-from, held_size}
use Rattle.partnames.proofs.Together.{rows-length, used-decls, whole-rows}
use Rattle.partnames.specs.Settling as settling
use Rattle.partnames.specs.Settling.{RowsOf, Settled, in_order, Settles}
use Rattle.symbols.specs.Index.{Kept}
use Rattle.symbols.specs.Rows.{decl_at, held, held_from}
use Rattle.syntax.specs.Texts.{Common, Head}
use Rattle.syntax.specs.Written.{Operator, Program, Rule}
use Rattle.words.specs.Words.{Word}

-- The list by the definition is its lines

a_type : (m : Checked (List Known)) (rest : Checked (Unit {0})) → ◌>>=◌ (◌>>=◌ m (λ ks. good (some ks))) (λ _. rest) ≡ ◌>>=◌ m (λ _. rest)
a_type (good ks) rest = refl
a_type (wrong n w) rest = refl

list-is-lines : (p : Program) (n : Names) (seen : List (List ℕ)) (hs : List Head) → lines_mean p n seen (as_rules hs) ≡ list_means p n seen hs
unfolding lines_mean list_means as_rules optional_type
list-is-lines p n seen [] = refl
list-is-lines p n seen (h ∷ hs) =
    rw (list-is-lines p n (h.rule.text ∷ seen) hs, a_type (lookup_type p n.types h.gives) (list_means p n (h.rule.text ∷ seen) hs)) refl

used-lines : (p : Program) (n : Names) (seen : List (List ℕ)) (us : List Use) (rs : List Rule) → lines_mean p n seen (used_in us rs) ≡ lines_mean p n seen rs
unfolding lines_mean used_in
used-lines p n seen us [] = refl
used-lines p n seen us (r ∷ rs) = refl

-- the list's lines are the first of the rules
record Split (us : List Use) (hs rs : List Rule) : Type 0 where
  pub rest : List Rule
  pub is : used_in us (hs ++ rs) ≡ used_in us hs ++ rest

split : (us : List Use) (hs rs : List Rule) → Split us hs rs
unfolding used_in
split us [] rs = record { rest = used_in us rs; is = refl }
split us (h ∷ hs) rs = record { rest = rs; is = refl }

list-faults : (c : Common) (rs : List Rule) (n : Names) → Agrees (together c rs) n (known_rules 0 (together c rs).rules) (decls_of (together c rs))
    → list_means (together c rs) n [] c.listed ≡ line_faults (decls_of (together c rs)) (sections_decls 0 c.sections) (rule_decls 0 (as_rules c.listed))
unfolding together
list-faults c rs n a =
    let p = together c rs in
    let us = rules_uses rs in
    let s = split us (as_rules c.listed) (called_rules (others c.listed rs)) in
    sym (used-lines p n [] us (as_rules c.listed) ∙ list-is-lines p n [] c.listed)
    ∙ lines-mean p n (known_rules 0 p.rules) a (used_in us (as_rules c.listed)) s.rest s.is
    ∙ ap (line_faults (decls_of p) (sections_decls 0 c.sections)) (used-decls 0 us (as_rules c.listed))

-- Parts of the rows

take-held : (text rows : List ℕ) (i m n : ℕ) → m ≤ n → held_from text rows i m ≡ take m (held_from text rows i n)
unfolding held_from
take-held text rows i zero n h = refl
take-held text rows i (suc m) zero h = absurd (omega arith)
take-held text rows i (suc m) (suc n) h = ap (λ (ds : List Decl). decl_at text rows i ∷ ds) (take-held text rows (suc i) m n (omega arith))

held-front : (text rows : List ℕ) (k n : ℕ) → k ≤ n → held text rows k ≡ take k (held text rows n)
unfolding held
held-front text rows k n h = take-held text rows 0 k n h

module _ (text rows : List ℕ) (n first lines : ℕ) (xs ys zs : List Decl) (e : held text rows n ≡ (xs ++ ys) ++ zs) (f : length xs ≡ first) (g : length ys ≡ lines) (h : first + lines ≤ n) where
  rows_before : held text rows first ≡ xs
  rows_before = held-front text rows first n (omega arith) ∙ ap (take first) (e ∙ append_assoc xs ys zs) ∙ take_at xs (ys ++ zs) first f

  rows-between : held_from text rows first lines ≡ ys
  rows-between =
      take-held text rows first lines (n - first) (omega arith)
      ∙ ap (take lines) (held-from text rows first n ∙ ap (drop first) (e ∙ append_assoc xs ys zs) ∙ drop_at xs (ys ++ zs) first f) ∙ take_at ys zs lines g

-- What the checks tell

lines-count : (hs : List Head) → length (rule_decls 0 (as_rules hs)) ≡ length hs
lines-count hs = rows-length 0 (as_rules hs) ∙ lines-length hs

-- the outcome, by that of the sections and that of the list
outcome : Checked Names → (Names → Checked (Unit {0})) → Checked Names
outcome m f = ◌>>=◌ m (λ n. ◌>>=◌ (f n) (λ _. good n))

means-by : (c : Common) (rs : List Rule) → common_means c rs ≡ outcome (declare_sections (together c rs) c.sections nobody) (λ n. list_means (together c rs) n [] c.listed)
unfolding common_means outcome
means-by c rs = refl

-- the checks of the whole row of declarations
abbrev asked : Common → List Rule → Checked (Unit {0})
asked c rs = decl_faults (decls_of (together c rs)) (entries_of (together c rs)) [] (decls_of (together c rs))

abbrev Told : Type 0
Told = Result (Unit {0}) Refusal

-- what the checks tell of the rows, for all entries that stand at their places
abbrev Checks : List ℕ → List ℕ → ℕ → Told → Type 0
Checks text rows n f = (entries : ℕ → List Operator) → EntriesAt text (held text rows n) entries → Faults (fault_of f) (at_of f) (len_of f) (decl_faults (held text rows n) entries [] (held text rows n))

sections-wrong : (c : Common) (rs : List Rule) (k : ℕ) (w : Word) → length (decls_of (together c rs)) ≤ 512 → asked c rs ≡ wrong k w → common_means c rs ≡ wrong k w
unfolding outcome together
sections-wrong c rs k w few e = means-by c rs ∙ ap (λ (m : Checked Names). outcome m (λ n. list_means (together c rs) n [] c.listed)) (declares-wrong (together c rs) few k w e)

record SectionsGood (c : Common) (rs : List Rule) : Type 0 where
  pub names : Names
  pub declares : declare_sections (together c rs) c.sections nobody ≡ good names
  pub agrees : Agrees (together c rs) names (known_rules 0 (together c rs).rules) (decls_of (together c rs))
  pub means : common_means c rs ≡ ◌>>=◌ (line_faults (decls_of (together c rs)) (sections_decls 0 c.sections) (rule_decls 0 (as_rules c.listed))) (λ _. good names)

sections-good : (c : Common) (rs : List Rule) → length (decls_of (together c rs)) ≤ 512 → asked c rs ≡ good tt → SectionsGood c rs
unfolding outcome together
sections-good c rs few e =
    let x = declares-good (together c rs) few e in
    record {
      names = x.0;
      declares = x.1;
      agrees = x.2;
      means = means-by c rs ∙ ap (λ (m : Checked Names). outcome m (λ n. list_means (together c rs) n [] c.listed)) x.1
          ∙ ap (λ (m : Checked (Unit {0})). ◌>>=◌ m (λ _. good x.0)) (list-faults c rs x.0 x.2);
    }

module _ (text rows rows' : List ℕ) (n first lines : ℕ) (same : (t : List ℕ) → held t rows' n ≡ held t rows n) (few : n ≤ 512) (f : Told) (k : Checks text rows' n f) (c : Common) (rs : List Rule)
    (r : RowsOf text rows n first lines c rs) where
  held-is : held text rows' n ≡ decls_of (together c rs)
  held-is = same text ∙ r.rows_are

  few-rows : length (decls_of (together c rs)) ≤ 512
  few-rows = let e = ap (λ (ds : List Decl). length ds) r.rows_are in omega (arith, held_size text rows n)

  checked : Faults (fault_of f) (at_of f) (len_of f) (asked c rs)
  checked =
      subst (λ ds. Faults (fault_of f) (at_of f) (len_of f) (decl_faults ds (entries_of (together c rs)) [] ds)) held-is
      (k (entries_of (together c rs)) (subst (λ ds. EntriesAt text ds (entries_of (together c rs))) (sym held-is) r.entries))

  -- a fault of the sections
  settled-wrong : (fault_of f ≡ 0 → ⊥) → Settled text rows' n f c rs (common_means c rs)
  settled-wrong z = go (asked c rs) refl checked
    where
      go : (m : Checked (Unit {0})) → asked c rs ≡ m → Faults (fault_of f) (at_of f) (len_of f) m → Settled text rows' n f c rs (common_means c rs)
      go (good tt) d (clean q) = absurd (z q)
      go (wrong i w) d (faulty q nonzero start l) = rw (sections-wrong c rs i w few-rows d) (settling.faulty q nonzero start l)

  -- none: those of the list
  settled_lines : {g : Told} → fault_of f ≡ 0 → first + lines ≤ n → Faults (fault_of g) (at_of g) (len_of g) (line_faults (held text rows' n) (held text rows' first) (held_from text rows' first (first + lines - first)))
      → Settled text rows' n g c rs (common_means c rs)
  settled_lines {g} z h b = go (asked c rs) refl checked
    where
      before : held text rows' first ≡ sections_decls 0 c.sections
      before =
          rows_before text rows' n first lines (sections_decls 0 c.sections) (rule_decls 0 (as_rules c.listed)) _ (held-is ∙ whole-rows c rs) (omega (arith, length-sections 0 c.sections, r.first_is))
          (omega (arith, lines-count c.listed, r.lines_are)) h

      between : held_from text rows' first (first + lines - first) ≡ rule_decls 0 (as_rules c.listed)
      between =
          let e : first + lines - first ≡ lines = omega arith in
          ap (held_from text rows' first) e
          ∙ rows-between text rows' n first lines (sections_decls 0 c.sections) (rule_decls 0 (as_rules c.listed)) _ (held-is ∙ whole-rows c rs) (omega (arith, length-sections 0 c.sections, r.first_is))
          (omega (arith, lines-count c.listed, r.lines_are)) h

      last : (names : Names) → declare_sections (together c rs) c.sections nobody ≡ good names → Agrees (together c rs) names (known_rules 0 (together c rs).rules) (decls_of (together c rs))
          → {m : Checked (Unit {0})} → Faults (fault_of g) (at_of g) (len_of g) m → Settled text rows' n g c rs (◌>>=◌ m (λ _. good names))
      last names d a (clean q) = in_order q d (subst (λ ds. Agrees (together c rs) names (known_rules 0 (together c rs).rules) ds) (sym held-is) a)
      last names d a (faulty q nonzero start l) = settling.faulty q nonzero start l

      go : (m : Checked (Unit {0})) → asked c rs ≡ m → Faults (fault_of f) (at_of f) (len_of f) m → Settled text rows' n g c rs (common_means c rs)
      go (wrong i w) d (faulty q nonzero start l) = absurd (nonzero (sym q ∙ z))
      go (good tt) d (clean q) = let x = sections-good c rs few-rows d in rw x.means (last x.names x.declares x.agrees (rw (held-is, before, between) at b))

pub settles-wrong : {text rows rows' : List ℕ} {n first lines : ℕ} {f : Told} → length rows' ≡ length rows → Kept text rows' n → ((t : List ℕ) → held t rows' n ≡ held t rows n) → Checks text rows' n f
    → (fault_of f ≡ 0 → ⊥) → Settles text rows rows' n first lines f
settles-wrong {text} {rows} {rows'} {n} {first} {lines} {f} size kept same k z = record {
  size = size;
  kept = kept;
  same = same;
  settled = λ c rs r. settled-wrong text rows rows' n first lines same kept.few f k c rs r z;
}

pub settles-lines : {text rows rows' : List ℕ} {n first lines : ℕ} {g : Told} (f : Told) → length rows' ≡ length rows → Kept text rows' n → ((t : List ℕ) → held t rows' n ≡ held t rows n) → Checks text rows' n f
    → fault_of f ≡ 0 → first + lines ≤ n → Faults (fault_of g) (at_of g) (len_of g) (line_faults (held text rows' n) (held text rows' first) (held_from text rows' first (first + lines - first))) → Settles text rows rows' n first lines g
settles-lines {text} {rows} {rows'} {n} {first} {lines} f size kept same k z h b = record {
  size = size;
  kept = kept;
  same = same;
  settled = λ c rs r. settled_lines text rows rows' n first lines same kept.few f k c rs r z h b;
}
