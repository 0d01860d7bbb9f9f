-- The names of a common part and a part that stand in one text.
use mathlib.Core.Bool.{true}
use mathlib.Core.List.{List}
use mathlib.Core.Option.{Option, none, some}
use mathlib.Core.Path.{◌≡◌, refl, sym, ap, ◌∙◌}
use Prim.Native.Nat.{ℕ, ◌+◌, ◌-◌, ◌≤◌}
use native.Mathlib.Omega.{arith}
use lib.ListN.{length}
use Rattle.declarations.specs.Decls.{decls_of}
use Rattle.base.specs.declared.Refusal.{Refusal}
use Rattle.declarer.specs.Faults.{fault_of, at_of, len_of}
use Rattle.std.specs.Prelude.{Result, Ok, Err, IfOk}
use Rattle.names.specs.Known.{Checked, good, wrong, Names}
use Rattle.partnames.proofs.Commons.{rules-no-line}
use Rattle.partnames.proofs.Together.{others-rowed, rows-together, rules-known}
use Rattle.partnames.specs.Declaring.{CommonRows, Declares}
use Rattle.partnames.specs.Mentioning.{AddsFrom}
use Rattle.partnames.specs.Settling.{Rowed, in_rows, past_names_lem, Settled, in_order, faulty, Settles}
use Rattle.partnames.specs.declared.Declared.{Declared}
use Rattle.parts.specs.Moved.{move_part, move_translated}
use Rattle.parts.specs.Objects.{common_means, meaning, of_common, others, past_names, read_on, together, unless_past}
use Rattle.partwriter.specs.Put.{back}
use Rattle.processor.specs.Process.{part_of}
use Rattle.separate.proofs.Reading.{IsFault}
use Rattle.separate.specs.Steps.{Refuses, refuses_common, refuses_part, StandsIn, translated_in, opened_by, Finds, names_found, names_faulty, FindsNames}
use Rattle.separate.specs.declared.Fault.{Fault}
use Rattle.separate.specs.declared.Named.{Named}
use Rattle.symbols.specs.Rows.{held}
use Rattle.syntax.specs.Texts.{Common}
use Rattle.syntax.specs.Written.{Rule}
use Rattle.words.specs.Words.{Word, words_at}

-- the first name past the 512
abbrev past : Common → List Rule → Option Word
past c rs = past_names (c.left - length c.listed) (others c.listed rs)

common-rows : {text rows rows₁ : List ℕ} {d : Declared} {at : ℕ} → length rows ≡ 6017 → Declares text rows rows₁ d → (s : StandsIn text at) → CommonRows text rows₁ d (words_at text at) s.shared
common-rows {at = at} z d s = d.common s.shared (words_at _ at) s.common_in (rules-no-line s.rules_in) z

rowed : {text rows rows₁ rows₂ : List ℕ} {d : Declared} {a : Result ℕ Refusal} {at : ℕ} → length rows ≡ 6017 → Declares text rows rows₁ d → AddsFrom text rows₁ rows₂ d.first d.count d.at true a
    → (s : StandsIn text at) → Rowed text rows₂ d.first a s.shared s.rules (past s.shared s.rules)
rowed z d a s =
    let r = common-rows z d s in
    others-rowed s.common_in r a (d.size ∙ z) (rw r.rest at s.rules_in) s.ends

past-fault : {text rows : List ℕ} {first : ℕ} (moved : ℕ) {a : Result ℕ Refusal} {f : Fault} {c : Common} {rs : List Rule} (o : Option Word) → Rowed text rows first a c rs o → (fault_of a ≡ 0 → ⊥)
    → IsFault f (fault_of a) 1 ((at_of a) - moved) (len_of a) → Refuses f (move_translated (back moved) (unless_past o (meaning c rs)))
unfolding unless_past move_translated move_part part_of
past-fault moved none (in_rows z e k) n f = absurd (n (rw z refl))
past-fault moved (some w) (past_names_lem z i l) n f = refuses_part (f.number_is ∙ z) f.text_is (f.start_is ∙ ap (λ k. k - moved) i) (f.len_is ∙ l)

pub finds_past : {text rows rows₁ rows₂ : List ℕ} {d : Declared} {moved : ℕ} {f : Fault} → length rows ≡ 6017 → Declares text rows rows₁ d
    → (a : Result ℕ Refusal) → AddsFrom text rows₁ rows₂ d.first d.count d.at true a → length rows₂ ≡ length rows₁ → (fault_of a ≡ 0 → ⊥) → IsFault f (fault_of a) 1 (at_of a - moved) (len_of a)
    → FindsNames text rows rows₂ moved (Err f)
unfolding translated_in read_on
finds_past {moved = moved} z d a x l n f = record {
  size = l ∙ d.size;
  early = tt;
  small = tt;
  kept = tt;
  finds = λ s. names_faulty refl (λ e. n (sym f.number_is ∙ e)) (past-fault moved (past s.shared s.rules) (rowed z d x s) n f);
}

-- where there is none
record InRows (text rows : List ℕ) (first n : ℕ) (c : Common) (rs : List Rule) : Type 0 where
  within : past c rs ≡ none
  held_are : held text rows n ≡ decls_of (together c rs)
  count : n ≡ first + length (together c rs).rules

in-them : {text rows : List ℕ} {first n : ℕ} {a : Result ℕ Refusal} {c : Common} {rs : List Rule} → a ≡ Ok n → Rowed text rows first a c rs (past c rs) → InRows text rows first n c rs
in-them {text} {rows} {first} {n} {a} {c} {rs} z r = go (past c rs) refl r
  where
    go : (o : Option Word) → past c rs ≡ o → Rowed text rows first a c rs o → InRows text rows first n c rs
    go none q (in_rows {n = m} y e k) = let i : m ≡ n = ok-same (sym y ∙ z) in record { within = q; held_are = rw (← i) e; count = sym i ∙ k }
      where
        ok-same : {i j : ℕ} → ◌≡◌ {A = Result ℕ Refusal} (Ok i) (Ok j) → i ≡ j
        ok-same e = cc
    go (some w) q (past_names_lem y i l) = let b = rw z at y in absurd (omega (arith, b))

-- so that the common part's names decide
means : {text : List ℕ} {at : ℕ} (moved : ℕ) (s : StandsIn text at) → past s.shared s.rules ≡ none → translated_in moved s ≡ move_translated (back moved) (meaning s.shared s.rules)
unfolding translated_in read_on unless_past
means moved s e = ap (λ (o : Option Word). move_translated (back moved) (unless_past o (meaning s.shared s.rules))) e

common-fault : {text rows : List ℕ} {n : ℕ} (moved : ℕ) {g : Result (Unit {0}) Refusal} {f : Fault} {c : Common} {rs : List Rule} → Settled text rows n g c rs (common_means c rs) → (fault_of g ≡ 0 → ⊥)
    → IsFault f (fault_of g) 0 (at_of g) (len_of g) → Refuses f (move_translated (back moved) (meaning c rs))
unfolding meaning of_common move_translated part_of
common-fault {text} {rows} {n} moved {g} {f} {c} {rs} s z i = go (common_means c rs) s _
  where
    go : (m : Checked Names) → Settled text rows n g c rs m → (k : Names → _) → Refuses f (move_translated (back moved) (of_common m k))
    go (good names) (in_order e d a) k = absurd (z e)
    go (wrong x w) (faulty e y b l) k = refuses_common (i.number_is ∙ e) i.text_is (i.start_is ∙ b) (i.len_is ∙ l)

module _ {text rows rows₁ rows₂ rows₃ : List ℕ} {d : Declared} (a : Result ℕ Refusal) {n : ℕ} (g : Result (Unit {0}) Refusal) (moved : ℕ) {lines : ℕ} (z : length rows ≡ 6017) (dd : Declares text rows rows₁ d)
    (aa : AddsFrom text rows₁ rows₂ d.first d.count d.at true a) (l : length rows₂ ≡ length rows₁) (y : a ≡ Ok n) (t : Settles text rows₂ rows₃ n d.first lines g) (e : lines ≡ d.count - d.first) where
  settled : {at : ℕ} (s : StandsIn text at) → Settled text rows₃ n g s.shared s.rules (common_means s.shared s.rules)
  settled s =
      let i = in-them y (rowed z dd aa s) in
      t.settled s.shared s.rules (rw e (rows-together s.common_in (common-rows z dd s) i.held_are))

  pub finds-fault : {f : Fault} → (fault_of g ≡ 0 → ⊥) → IsFault f (fault_of g) 0 (at_of g) (len_of g) → FindsNames text rows rows₃ moved (Err f)
  finds-fault k f = record {
    size = t.size ∙ l ∙ dd.size;
    early = tt;
    small = tt;
    kept = tt;
    finds = λ s. names_faulty refl (λ x. k (sym f.number_is ∙ x)) (rw (means moved s (in-them y (rowed z dd aa s)).within) (common-fault moved (settled s) k f));
  }

  known : {at : ℕ} → fault_of g ≡ 0 → (s : StandsIn text at) → Finds text rows₃ moved (Ok (record { count = n; first = d.first })) s
  unfolding meaning of_common opened_by
  known k s =
      let i = in-them y (rowed z dd aa s) in
      go i (common_means s.shared s.rules) refl (settled s)
    where
      c : Common
      c = s.shared

      rs : List Rule
      rs = s.rules

      go : InRows text rows₂ d.first n c rs → (x : Checked Names) → common_means c rs ≡ x → Settled text rows₃ n g c rs x → Finds text rows₃ moved (Ok (record { count = n; first = d.first })) s
      go i (wrong m w) o (faulty h u b q) = absurd (u (sym h ∙ k))
      go i (good names) o (in_order h u ag) =
          let w = rows-together s.common_in (common-rows z dd s) i.held_are in
          let same : held text rows₃ n ≡ decls_of (together c rs) = t.same text ∙ i.held_are in
          names_found names refl o
          (record {
            kept = t.kept;
            agrees = rw (rules-known c rs) at ag;
            entries = rw same w.entries;
            held_are = same;
            own_is = omega (arith, i.count);
          })
          (means moved s i.within ∙ ap (λ (x : Checked Names). move_translated (back moved) (of_common x (opened_by c rs))) o)

  pub finds-all : fault_of g ≡ 0 → FindsNames text rows rows₃ moved (Ok (record { count = n; first = d.first }))
  finds-all k =
      let low : d.count ≤ n = rw y at aa.low in
      let high : n ≤ 512 = rw y at aa.high in
      record {
        size = t.size ∙ l ∙ dd.size;
        early = omega (arith, dd.early, low);
        small = high;
        kept = t.kept;
        finds = λ s. known k s;
      }
