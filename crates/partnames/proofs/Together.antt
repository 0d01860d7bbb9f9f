-- The rows of the program in which a part is resolved.
use mathlib.Core.Bool.{true}
use mathlib.Core.List.{List, [], ◌∷◌, ◌++◌, append_assoc, append-nil}
use mathlib.Core.Option.{Option}
use mathlib.Core.Path.{◌≡◌, refl, sym, ap, ◌∙◌}
use Prim.Native.Nat.{ℕ, suc, ◌+◌, ◌-◌, ◌≤◌}
use native.Mathlib.Omega.{arith}
use lib.ListN.{length, drop, length-append}
use lib.Seq.{drop_at}
use Rattle.collector.proofs.Standing.{entries_at}
use Rattle.collector.specs.Collecting.{AllStand}
use Rattle.declarations.proofs.Whole.{length-sections}
use Rattle.declarations.specs.Decls.{Decl, EntriesAt, decls_of, entries_of, rule_decls, sections_decls}
use Rattle.grammar.specs.Derived.{RulesIn}
use Rattle.names.specs.Declare.{known_rules}
use Rattle.names.specs.Known.{KnownRule}
use Rattle.names.specs.Understand.{is_one}
use Rattle.names.specs.Uses.{Use, rules_uses}
use Rattle.parts.specs.Objects.{as_rules, by_calls, by_list, called_rules, fresh, mentions, names_of, open_rules, others, past_names, together, used_in}
use Rattle.partnames.proofs.Listing.{lines-length}
use Rattle.partnames.proofs.Mentioned.{held-from}
use Rattle.partnames.proofs.Named.{rules-names}
use Rattle.partnames.specs.Declaring.{CommonIn, CommonRows}
use Rattle.partnames.specs.Mentioning.{Adds, added, past, AddsFrom, Seen, texts_of}
use Rattle.partnames.specs.Settling.{Rowed, in_rows, past_names_lem, RowsOf}
use Rattle.std.specs.Prelude.{Result}
use Rattle.base.specs.declared.Refusal.{Refusal}
use Rattle.partnames.specs.declared.Declared.{Declared}
use Rattle.symbols.specs.Rows.{held, held_from}
use Rattle.syntax.specs.Reading.{peek}
use Rattle.syntax.specs.Sections.{names_in_all}
use Rattle.syntax.specs.Texts.{Common, Head}
use Rattle.syntax.specs.Written.{Rule}
use Rattle.words.specs.Words.{Word, words_at}

-- Rows of rules

-- rows go by names and types
pub used-decls : (k : ℕ) (us : List Use) (rs : List Rule) → rule_decls k (used_in us rs) ≡ rule_decls k rs
unfolding rule_decls used_in
used-decls k us [] = refl
used-decls k us (r ∷ rs) = refl

used-length : (us : List Use) (rs : List Rule) → length (used_in us rs) ≡ length rs
unfolding used_in
used-length us [] = refl
used-length us (r ∷ rs) = refl

decls-append : (k : ℕ) (rs ss : List Rule) → rule_decls k (rs ++ ss) ≡ rule_decls k rs ++ rule_decls (k + length rs) ss
unfolding rule_decls
decls-append k [] ss = let e : k + 0 ≡ k = omega arith in rw e refl
decls-append k (r ∷ rs) ss = let e : suc k + length rs ≡ k + suc (length rs) = omega arith in rw (decls-append (suc k) rs ss, e) refl

called-length : (ws : List Word) → length (called_rules ws) ≡ length ws
unfolding called_rules
called-length [] = refl
called-length (w ∷ ws) = let e = called-length ws in omega arith

pub rows-length : (k : ℕ) (rs : List Rule) → length (rule_decls k rs) ≡ length rs
unfolding rule_decls
rows-length k [] = refl
rows-length k (r ∷ rs) = let e = rows-length (suc k) rs in omega arith

-- of the whole: sections, list, others
pub whole-rows : (c : Common) (rs : List Rule)
    → decls_of (together c rs) ≡ (sections_decls 0 c.sections ++ rule_decls 0 (as_rules c.listed)) ++ rule_decls (length c.listed) (called_rules (others c.listed rs))
unfolding decls_of together
whole-rows c rs =
    let e : 0 + length (as_rules c.listed) ≡ length c.listed = omega (arith, lines-length c.listed) in
    ap (λ (ds : List Decl). sections_decls 0 c.sections ++ ds) (used-decls 0 (rules_uses rs) (as_rules c.listed ++ called_rules (others c.listed rs)) ∙ decls-append 0 (as_rules c.listed) (called_rules (others c.listed rs))
    ∙ ap (λ (i : ℕ). rule_decls 0 (as_rules c.listed) ++ rule_decls i (called_rules (others c.listed rs))) e)
    ∙ sym (append_assoc (sections_decls 0 c.sections) (rule_decls 0 (as_rules c.listed)) (rule_decls (length c.listed) (called_rules (others c.listed rs))))

pub rules-length : (c : Common) (rs : List Rule) → length (together c rs).rules ≡ length c.listed + length (others c.listed rs)
unfolding together
rules-length c rs =
    used-length (rules_uses rs) (as_rules c.listed ++ called_rules (others c.listed rs))
    ∙ omega (arith, length-append (as_rules c.listed) (called_rules (others c.listed rs)), lines-length c.listed, called-length (others c.listed rs))

pub together-entries : {text : List ℕ} (c : Common) (rs : List Rule) → AllStand text c.sections → names_in_all c.sections ≤ 512 → EntriesAt text (decls_of (together c rs)) (entries_of (together c rs))
unfolding decls_of entries_of together
together-entries c rs s l = entries_at c.sections (used_in (rules_uses rs) (as_rules c.listed ++ called_rules (others c.listed rs))) s l

-- The names of the list are those of its rows

list-texts : (k : ℕ) (hs : List Head) → texts_of (rule_decls k (as_rules hs)) ≡ names_of hs
unfolding texts_of rule_decls as_rules names_of
list-texts k [] = refl
list-texts k (h ∷ hs) = ap (λ (l : List (List ℕ)). h.rule.text ∷ l) (list-texts (suc k) hs)

list-seen : {text rows : List ℕ} {d : Declared} {ws' : List Word} {c : Common} → CommonRows text rows d ws' c → Seen text rows d.first d.count (names_of c.listed)
list-seen {text} {rows} {d} {ws'} {c} r =
    let z : length (sections_decls 0 c.sections) ≡ d.first = omega (arith, length-sections 0 c.sections, r.first) in
    let e : held_from text rows d.first (d.count - d.first) ≡ rule_decls 0 (as_rules c.listed) =
    held-from text rows d.first d.count ∙ ap (λ (ds : List Decl). drop d.first ds) r.rows ∙ drop_at (sections_decls 0 c.sections) (rule_decls 0 (as_rules c.listed)) d.first z in
    record { same = λ w. ap (is_one w) (sym (ap texts_of e ∙ list-texts 0 c.listed)) }

-- All rows

all-rowed : {text rows rows' : List ℕ} {d : Declared} {ws' : List Word} {c : Common} (rs : List Rule) {a : Result ℕ Refusal} {o : Option Word} → CommonRows text rows d ws' c
    → Adds text rows rows' d.first d.count a (others c.listed rs) o → Rowed text rows' d.first a c rs o
all-rowed {text} {rows} {rows'} {d} {ws'} {c} rs {a} r (added z b) =
    let e : d.count - d.first ≡ length c.listed = omega (arith, r.count) in
    let n : length (rule_decls (d.count - d.first) (called_rules (others c.listed rs))) ≡ length (others c.listed rs) = rows-length (d.count - d.first) (called_rules (others c.listed rs)) ∙ called-length (others c.listed rs) in
    in_rows z
    (b.filled ∙ ap (λ (ds : List Decl). ds ++ rule_decls (d.count - d.first) (called_rules (others c.listed rs))) r.rows
    ∙ ap (λ (i : ℕ). (sections_decls 0 c.sections ++ rule_decls 0 (as_rules c.listed)) ++ rule_decls i (called_rules (others c.listed rs))) e ∙ sym (whole-rows c rs))
    (omega (arith, b.counted, r.count, n, rules-length c rs))
all-rowed rs r (past z i l) = past_names_lem z i l

pub others-rowed : {text rows rows' : List ℕ} {d : Declared} {ws ws' left : List Word} {c : Common} {rs : List Rule} {a : Result ℕ Refusal} → CommonIn ws ws' c → CommonRows text rows d ws' c
    → AddsFrom text rows rows' d.first d.count d.at true a → length rows ≡ 6017 → RulesIn (words_at text d.at) left rs → (peek left).kind ≡ 266
    → Rowed text rows' d.first a c rs (past_names (c.left - length c.listed) (others c.listed rs))
unfolding others
others-rowed {d = d} {c = c} {rs} i r u z q e =
    let k : c.left - length c.listed ≡ 512 - d.count = omega (arith, i.names, i.few, r.first, r.count) in
    rw k (all-rowed rs r (rw (rules-names q e) at (u.adds (names_of c.listed) (list-seen r) z)))

-- where there is room for all
pub rows-together : {text rows rows' : List ℕ} {d : Declared} {ws ws' : List Word} {c : Common} {rs : List Rule} {n : ℕ} → CommonIn ws ws' c → CommonRows text rows d ws' c → held text rows' n ≡ decls_of (together c rs)
    → RowsOf text rows' n d.first (d.count - d.first) c rs
rows-together {c = c} {rs} i r e = record {
  rows_are = e;
  entries = together-entries c rs r.stands (omega (arith, i.names));
  first_is = r.first;
  lines_are = omega (arith, r.count);
}

-- no part at all: the rows of the common part itself
pub rows-alone : {text rows : List ℕ} {d : Declared} {ws ws' : List Word} {c : Common} → CommonIn ws ws' c → CommonRows text rows d ws' c → RowsOf text rows d.count d.first (d.count - d.first) c []
unfolding rule_decls called_rules others fresh mentions
rows-alone {c = c} i r = rows-together i r (r.rows ∙ sym (whole-rows c [] ∙ append-nil (sections_decls 0 c.sections ++ rule_decls 0 (as_rules c.listed))))

-- Known rules

list-known : (k : ℕ) (hs : List Head) (rs : List Rule) → known_rules k (as_rules hs ++ rs) ≡ by_list k hs ++ known_rules (k + length hs) rs
unfolding known_rules as_rules by_list
list-known k [] rs = let e : k + 0 ≡ k = omega arith in rw e refl
list-known k (h ∷ hs) rs = let e : suc k + length hs ≡ k + suc (length hs) = omega arith in rw (list-known (suc k) hs rs, e) refl

calls-known : (k : ℕ) (ws : List Word) → known_rules k (called_rules ws) ≡ by_calls k ws
unfolding known_rules called_rules by_calls
calls-known k [] = refl
calls-known k (w ∷ ws) = rw (calls-known (suc k) ws) refl

used-known : (k : ℕ) (us : List Use) (rs : List Rule) → known_rules k (used_in us rs) ≡ known_rules k rs
unfolding known_rules used_in
used-known k us [] = refl
used-known k us (r ∷ rs) = refl

pub rules-known : (c : Common) (rs : List Rule) → known_rules 0 (together c rs).rules ≡ open_rules c.listed rs
unfolding together open_rules
rules-known c rs =
    let e : 0 + length c.listed ≡ length c.listed = omega arith in
    used-known 0 (rules_uses rs) (as_rules c.listed ++ called_rules (others c.listed rs)) ∙ list-known 0 c.listed (called_rules (others c.listed rs))
    ∙ ap (λ (l : List KnownRule). by_list 0 c.listed ++ l) (ap (λ (i : ℕ). known_rules i (called_rules (others c.listed rs))) e ∙ calls-known (length c.listed) (others c.listed rs))
