-- The rows of the rules made for operators, pair by pair.
use mathlib.Core.List.{List, [], ◌∷◌, ◌++◌}
use mathlib.Core.Option.{some}
use mathlib.Core.Path.{◌≡◌, refl, sym, ap, ◌∙◌, subst}
use Prim.Native.Nat.{ℕ, suc, ◌+◌, ◌-◌, ◌*◌, ◌<◌, ◌≤◌}
use native.Mathlib.Omega.{arith}
use lib.ListN.{length, get_or, length-append}
use Rattle.base.proofs.Laws.{same-eq}
use Rattle.carry.proofs.Sources.{levels-named}
use Rattle.carry.specs.Carry.{level_names, made_names}
use Rattle.declarations.specs.Decls.{Agrees, Decl, EntriesAt, entries_of, decl_of, index_of, operators_from}
use Rattle.frontend.specs.declared.Resolved.{Resolved}
use Rattle.grammar.specs.Derived.{OperatorsIn}
use Rattle.maker.proofs.Taking.{row_at, row-less, levels-used}
use Rattle.maker.specs.Pairing.{PlaceOf}
use Rattle.maker.specs.Pairs.{Pair, pair_at, pairs_from, section_row, operand_row, Ordered, AllOrdered, pair_of, pairs_mean}
use Rattle.names.specs.Known.{KnownRule, Names}
use Rattle.names.specs.Uses.{Use, levels_used}
use Rattle.program.specs.Made.{Level, levels_of}
use Rattle.rulerows.proofs.Laws.{puts_none, puts_then}
use Rattle.rulerows.specs.Filled.{Puts, PairOf, Named, LevelsPut, MadePut}
use Rattle.rulerows.specs.declared.Pair as row
use Rattle.symbols.proofs.Searches.{held_at}
use Rattle.symbols.specs.Rows.{decl_at, held}
use Rattle.symbols.specs.Search.{part}
use Rattle.syntax.specs.Written.{Program}
use Rattle.words.specs.Words.{words_at}

-- Pairs

pub pair-of : {text rows : List ℕ} {j s o at a b c d : ℕ} → s ≡ get_or rows (5633 + 3 * j) 0 → o ≡ get_or rows (5634 + 3 * j) 0 → PlaceOf text rows s at → a ≡ get_or rows (8 * s + 2) 0 → b ≡ get_or rows (8 * s + 3) 0
    → c ≡ get_or rows (8 * o + 2) 0 → d ≡ get_or rows (8 * o + 3) 0 → PairOf text rows j (record { at = at; start = a; len = b; operand = c; size = d })
pair-of p q x a b c d = record { at = rw (← p) x; start = rw (← p) a; len = rw (← p) b; operand = rw (← q) c; size = rw (← q) d }

-- the name by which a declaration is found is its own
name-found : (text rows : List ℕ) (n c : ℕ) (w : List ℕ) (s : ℕ) → index_of c w 0 (held text rows n) ≡ some s → w ≡ part text (get_or rows (8 * s + 2) 0) (get_or rows (8 * s + 3) 0)
unfolding decl_at
name-found text rows n c w s e =
    let ds = held text rows n in
    same-eq w (decl_of ds s).name.text (row_at c w s ds e).name ∙ ap (λ (d : Decl). d.name.text) (held_at text rows n s (row-less text rows n c w s e))

-- the entries of a section that is found
entries-found : (text rows : List ℕ) (n : ℕ) (p : Program) (w : List ℕ) (s : ℕ) (en : EntriesAt text (held text rows n) (entries_of p)) → index_of 600 w 0 (held text rows n) ≡ some s
    → OperatorsIn (words_at text (get_or rows (8 * s + 1) 0)) (en.behind s) (entries_of p s)
unfolding decl_at
entries-found text rows n p w s en e =
    let ds = held text rows n in
    let d = held_at text rows n s (row-less text rows n 600 w s e) in
    rw (ap (λ (k : Decl). words_at text k.value) d) at (en.stand s (row_at 600 w s ds e).class)

-- a pair and the use that it stands for
record Meant (text rows : List ℕ) (n j : ℕ) (q : row.Pair) (p : Program) (names : Names) (en : EntriesAt text (held text rows n) (entries_of p)) (u : Use) : Type 0 where
  section : ℕ
  levels : levels_used names u ≡ levels_of (operators_from (held text rows n) (entries_of p section))
  entries : OperatorsIn (words_at text q.at) (en.behind section) (entries_of p section)
  named : Named text q u

meant : {text rows : List ℕ} {n j k : ℕ} {q : row.Pair} (p : Program) (names : Names) (ks : List KnownRule) → Agrees p names ks (held text rows n) → (en : EntriesAt text (held text rows n) (entries_of p)) (u : Use)
    → pair_at rows j ≡ pair_of (held text rows n) k u → Ordered (held text rows n) u → PairOf text rows j q → Meant text rows n j q p names en u
unfolding pair_at
meant {text} {rows} {n} {j} {k} {q} p names ks ag en u head ou is =
    let ds = held text rows n in
    let s = get_or rows (5633 + 3 * j) 0 in
    let o = get_or rows (5634 + 3 * j) 0 in
    let e₁ : s ≡ section_row ds u = ap (λ (v : Pair). v.section) head in
    let e₂ : o ≡ operand_row ds u = ap (λ (v : Pair). v.operand) head in
    let f₁ : index_of 600 u.section.text 0 ds ≡ some s = ou.section ∙ ap some (sym e₁) in
    let f₂ : index_of 7 u.operand.text 0 ds ≡ some o = ou.operand ∙ ap some (sym e₂) in
    record {
      section = s;
      levels = levels-used u ag ou ∙ ap (λ (i : ℕ). levels_of (operators_from ds (entries_of p i))) (sym e₁);
      entries = is.at.entries (entries_of p s) (en.behind s) (entries-found text rows n p u.section.text s en f₁);
      named = record {
        section = name-found text rows n 600 u.section.text s f₁ ∙ part-as is.start is.len;
        operand = name-found text rows n 7 u.operand.text o f₂ ∙ part-as is.operand is.size;
      };
    }
  where
    part-as : {a b c d : ℕ} → c ≡ a → d ≡ b → part text a b ≡ part text c d
    part-as {a} {b} {c} {d} x y = rw (x, y) refl

-- The loop

pub made-end : {text rows : List ℕ} {b : Resolved} {j k : ℕ} {places sheet : List ℕ} → get_or rows 5632 0 ≤ j → MadePut text rows b j k places sheet sheet
unfolding pairs_from pairs_mean made_names
made-end {text} {rows} {b} {j} {k} {places} {sheet} h = record { puts = λ p names ks ag en us e or few. go names us (ap (pairs_from rows j) (sym none) ∙ e) }
  where
    none : get_or rows 5632 0 - j ≡ 0
    none = omega (arith, h)

    go : (names : Names) (us : List Use) → ◌≡◌ {A = List Pair} [] (pairs_mean names (held text rows b.declared) k us) → Puts text places sheet sheet k (made_names names us)
    go names [] e = puts_none
    go names (u ∷ us) e = let y : ◌≡◌ {A = ℕ} 0 1 = cc in absurd (omega (arith, y))

pair_put : {text rows : List ℕ} {b : Resolved} {j k r : ℕ} {places sheet sheet₁ sheet' : List ℕ} {q : row.Pair} (p : Program) (names : Names) (ks : List KnownRule)
    → Agrees p names ks (held text rows b.declared) → EntriesAt text (held text rows b.declared) (entries_of p)
    → (u : Use) (us : List Use) → pair_at rows j ≡ pair_of (held text rows b.declared) k u → pairs_from rows (suc j) (get_or rows 5632 0 - (j + 1)) ≡ pairs_mean names (held text rows b.declared) (k + length (levels_used names u)) us
    → Ordered (held text rows b.declared) u → AllOrdered (held text rows b.declared) us → k + length (level_names u (levels_used names u) ++ made_names names us) ≤ b.rules → PairOf text rows j q
    → LevelsPut text q places k b.rules sheet sheet₁ r → MadePut text rows b (j + 1) r places sheet₁ sheet' → Puts text places sheet sheet' k (level_names u (levels_used names u) ++ made_names names us)
pair_put {text} {rows} {b} {j} {k} {r} {places} {sheet} {sheet₁} {sheet'} {q} p names ks ag en u us head tail ou os few is done f =
    let ds = held text rows b.declared in
    let m = meant p names ks ag en u head ou is in
    let ls = levels_used names u in
    let long = length-append (level_names u ls) (made_names names us) in
    let own = levels-named u ls in
    let room : k + length (levels_of (operators_from ds (entries_of p m.section))) ≤ b.rules = omega (arith, few, long, own, ap (λ (v : List Level). length v) m.levels) in
    let here : Puts text places sheet sheet₁ k (level_names u ls) =
    subst (λ v. Puts text places sheet sheet₁ k (level_names u v)) (sym m.levels) (done.puts ds (entries_of p m.section) (en.behind m.section) m.entries room u m.named) in
    let rr : r ≡ k + length ls = done.ends ds (entries_of p m.section) (en.behind m.section) m.entries room ∙ ap (λ (v : List Level). k + length v) (sym m.levels) in
    let next : suc j ≡ j + 1 = omega arith in
    let pairs : pairs_from rows (j + 1) (get_or rows 5632 0 - (j + 1)) ≡ pairs_mean names ds r us =
    ap (λ (i : ℕ). pairs_from rows i (get_or rows 5632 0 - (j + 1))) (sym next) ∙ tail ∙ ap (λ (i : ℕ). pairs_mean names ds i us) (sym rr) in
    puts_then here (f.puts p names ks ag en us pairs os (omega (arith, few, long, own, rr))) (omega (arith, rr, own))

pub made-next : {text rows : List ℕ} {b : Resolved} {j k r : ℕ} {places sheet sheet₁ sheet' : List ℕ} {q : row.Pair} → j < get_or rows 5632 0 → PairOf text rows j q
    → LevelsPut text q places k b.rules sheet sheet₁ r → MadePut text rows b (j + 1) r places sheet₁ sheet' → MadePut text rows b j k places sheet sheet'
unfolding pairs_from pairs_mean AllOrdered made_names
made-next {text} {rows} {b} {j} {k} {r} {places} {sheet} {sheet₁} {sheet'} {q} h is done f =
    record { puts = λ p names ks ag en us e or few. go p names ks ag en us (ap (pairs_from rows j) (sym one) ∙ e) or few }
  where
    one : get_or rows 5632 0 - j ≡ suc (get_or rows 5632 0 - (j + 1))
    one = omega (arith, h)

    go : (p : Program) (names : Names) (ks : List KnownRule) → Agrees p names ks (held text rows b.declared) → EntriesAt text (held text rows b.declared) (entries_of p)
        → (us : List Use) → pair_at rows j ∷ pairs_from rows (suc j) (get_or rows 5632 0 - (j + 1)) ≡ pairs_mean names (held text rows b.declared) k us → AllOrdered (held text rows b.declared) us
        → k + length (made_names names us) ≤ b.rules → Puts text places sheet sheet' k (made_names names us)
    go p names ks ag en [] e or few = let y : ◌≡◌ {A = ℕ} 0 1 = cc in absurd (omega (arith, y))
    go p names ks ag en (u ∷ us) e or few = pair_put p names ks ag en u us head tail or.0 or.1 few is done f
      where
        head : pair_at rows j ≡ pair_of (held text rows b.declared) k u
        head = cc

        tail : pairs_from rows (suc j) (get_or rows 5632 0 - (j + 1)) ≡ pairs_mean names (held text rows b.declared) (k + length (levels_used names u)) us
        tail = cc
