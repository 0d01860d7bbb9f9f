-- The sheet of a text that was read and resolved.
use mathlib.Core.List.{List, [], ◌∷◌, ◌++◌}
use mathlib.Core.Path.{◌≡◌, refl, sym, ap, ◌∙◌, subst}
use Prim.Native.Nat.{ℕ, zero, suc, ◌+◌, ◌-◌, ◌%◌, ◌<◌}
use native.Mathlib.Nat.{zero-add, mod-eq_of_lt}
use native.Mathlib.Omega.{arith}
use lib.ListN.{length, get_or, length-append}
use lib.Seq.{get_or-append-add}
use Rattle.carrier.specs.Held.{number_held, name_held}
use Rattle.carry.proofs.Sources.{made-named}
use Rattle.carry.specs.Carry.{Name, written, name_of, written_names, made_names}
use Rattle.declarations.specs.Decls.{Agrees, Decl, EntriesAt, decl_of, decls_of, entries_of, sections_decls, rule_decls}
use Rattle.frontend.specs.Resolving.{Rowed}
use Rattle.frontend.specs.declared.Resolved.{Resolved}
use Rattle.maker.specs.Pairs.{pairs_from, pairs_held, pairs_mean}
use Rattle.mapping.proofs.Parting.{all-understood}
use Rattle.names.specs.Declare.{known_rules}
use Rattle.names.specs.Known.{good}
use Rattle.names.specs.Understand.{understand}
use Rattle.names.specs.Uses.{pairs_of}
use Rattle.program.specs.Program.{Rule}
use Rattle.program.specs.Table.{place}
use Rattle.rulerows.proofs.Laws.{puts_then}
use Rattle.rulerows.specs.Filled.{Puts, WrittenPut, MadePut, RowsOf, Filled}
use Rattle.symbols.proofs.Searches.{held_at}
use Rattle.symbols.specs.Rows.{decl_at, held}
use Rattle.syntax.specs.Written as syntax
use Rattle.syntax.specs.Written.{Program}

-- The rules written

written-length : (rs : List syntax.Rule) → length (written_names rs) ≡ length rs
unfolding written_names
written-length [] = refl
written-length (r ∷ rs) = ap suc (written-length rs)

-- rule i's declaration has its name
rule-name : (k : ℕ) (rs : List syntax.Rule) (i : ℕ) → i < length rs → written (decl_of (rule_decls k rs) i).name.text ≡ name_of (written_names rs) i
unfolding decl_of rule_decls name_of written_names
rule-name k [] i h = absurd (omega (arith, h))
rule-name k (r ∷ rs) zero h = refl
rule-name k (r ∷ rs) (suc i) h = rule-name (suc k) rs i (omega (arith, h))

decl-behind : (p : Program) (i : ℕ) → decl_of (decls_of p) (length (sections_decls 0 p.sections) + i) ≡ decl_of (rule_decls 0 p.rules) i
unfolding decl_of decls_of
decl-behind p i = get_or-append-add (sections_decls 0 p.sections) (rule_decls 0 p.rules) i _

module _ {text rows : List ℕ} {b : Resolved} {p : Program} (rowed : Rowed text rows b p) where
  declared-name : (i : ℕ) → i < length p.rules → written (decl_at text rows (b.first + i)).name.text ≡ name_of (written_names p.rules) i
  declared-name i h =
      let known = rowed.known in
      let a : decl_at text rows (b.first + i) ≡ decl_of (held text rows b.declared) (b.first + i) = sym (held_at text rows b.declared (b.first + i) (omega (arith, h, known.count))) in
      let c : decl_of (held text rows b.declared) (b.first + i) ≡ decl_of (decls_of p) (b.first + i) = ap (λ (ds : List Decl). decl_of ds (b.first + i)) known.held_are in
      let d : decl_of (decls_of p) (b.first + i) ≡ decl_of (rule_decls 0 p.rules) i = ap (λ (n : ℕ). decl_of (decls_of p) (n + i)) known.first_is ∙ decl-behind p i in
      ap (λ (x : Decl). written x.name.text) (a ∙ c ∙ d) ∙ rule-name 0 p.rules i h

  own-puts : {places sheet sheet' : List ℕ} → WrittenPut rows b.first places b.written sheet' → Puts text places sheet sheet' 0 (written_names p.rules)
  own-puts {places} {sheet} {sheet'} w = record {
    kept = λ j h. absurd (omega (arith, h));
    located = λ i h. ap (λ (j : ℕ). number_held sheet' j 0) (zero-add i) ∙ w.located i (few i h) ∙ ap (λ (j : ℕ). get_or places j 0 % 65536) (sym (zero-add i));
    named = λ i h. ap (λ (j : ℕ). name_held text sheet' j) (zero-add i) ∙ w.named text i (few i h) ∙ declared-name i (omega (arith, h, written-length p.rules));
  }
    where
      few : (i : ℕ) → i < length (written_names p.rules) → i < b.written
      few i h = omega (arith, h, written-length p.rules, rowed.number)

  -- All rules

  abbrev all : List Name
  all = written_names p.rules ++ made_names rowed.names (pairs_of p.rules)

  held-pairs : pairs_from rows 0 (get_or rows 5632 0 - 0) ≡ pairs_mean rowed.names (held text rows b.declared) b.written (pairs_of p.rules)
  unfolding pairs_held
  held-pairs =
      let z : get_or rows 5632 0 - 0 ≡ get_or rows 5632 0 = omega arith in
      ap (λ (i : ℕ). pairs_from rows 0 i) z ∙ rowed.pairs.pairs ∙ ap (λ (i : ℕ). pairs_mean rowed.names (held text rows b.declared) i (pairs_of p.rules)) (sym rowed.number)

  all-puts : {places sheet middle sheet' : List ℕ} → length all ≡ b.rules → WrittenPut rows b.first places b.written middle → MadePut text rows b 0 b.written places middle sheet'
      → Puts text places sheet sheet' 0 all
  all-puts many w m =
      let same = sym rowed.known.held_are in
      let long = length-append (written_names p.rules) (made_names rowed.names (pairs_of p.rules)) in
      let own = written-length p.rules in
      puts_then (own-puts w)
      (m.puts p rowed.names (known_rules 0 p.rules) (subst (λ ds. Agrees p rowed.names (known_rules 0 p.rules) ds) same rowed.known.agrees)
      (subst (λ ds. EntriesAt text ds (entries_of p)) same rowed.known.entries) (pairs_of p.rules) held-pairs rowed.pairs.ordered (omega (arith, many, long, own, rowed.number)))
      (omega (arith, own, rowed.number))

  all-many : (prog : List Rule) → understand p ≡ good prog → length all ≡ length prog
  all-many prog means =
      omega (
        arith,
        length-append (written_names p.rules) (made_names rowed.names (pairs_of p.rules)),
        written-length p.rules,
        made-named rowed.names (pairs_of p.rules),
        all-understood p rowed.names rowed.known.declares prog means,
      )

  rows_of : {places sheet sheet' : List ℕ} (prog : List Rule) → length all ≡ length prog → ((r : ℕ) → r < length prog → get_or places r 0 ≡ place 1 prog r) → ((r : ℕ) → r < length prog → place 1 prog r < 65536)
      → Puts text places sheet sheet' 0 all → RowsOf text sheet' p prog rowed.names
  rows_of {places} {sheet} {sheet'} prog n at low m = record {
    locations = λ i h.
        ap (λ (j : ℕ). number_held sheet' j 0) (sym (zero-add i)) ∙ m.located i (omega (arith, h, n)) ∙ ap (λ (j : ℕ). get_or places j 0 % 65536) (zero-add i) ∙ ap (λ (v : ℕ). v % 65536) (at i h)
        ∙ mod-eq_of_lt (low i h);
    names = λ i h. ap (λ (j : ℕ). name_held text sheet' j) (sym (zero-add i)) ∙ m.named i (omega (arith, h, n));
  }

pub filled : {text rows : List ℕ} {b : Resolved} {places middle sheet' : List ℕ} → length sheet' ≡ 770 → WrittenPut rows b.first places b.written middle
    → MadePut text rows b 0 b.written places middle sheet' → Filled text rows b places sheet'
filled {text} {rows} {b} {places} {middle} {sheet'} long w m = record {
  long = long;
  rules_are = λ p prog rowed means count at low.
      let many = all-many rowed prog means in
      rows_of rowed prog many (λ r h. at r (omega (arith, h, count))) (λ r h. low r (omega (arith, h, count))) (all-puts rowed {sheet = middle} (many ∙ count) w m);
}
