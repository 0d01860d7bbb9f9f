-- The other rules that a part names, as rows behind those of the list.
use Rattle.std.specs.Prelude as code
use Rattle.std.specs.Prelude.{Result, Ok, IfSome, IfOk, Bool, true, false, ◌&&◌, ◌||◌, List, [], ◌∷◌, ◌≡◌, ℕ, ◌-◌, ◌≤◌, eqb, leb, length, if◌then◌else◌}
use Rattle.std.proofs.Math.Option.{Option, none, some}
use Rattle.base.specs.declared.Refusal.{Refusal}
use Rattle.collector.specs.Collecting.{Appends}
use Rattle.declarer.specs.Faults.{fault_of, at_of, len_of}
use Rattle.declarations.specs.Decls.{Decl, rule_decls}
use Rattle.names.specs.Understand.{is_one}
use Rattle.parts.specs.Objects.{called_rules, fresh, past_names}
use Rattle.symbols.specs.Rows.{held_from}
use Rattle.words.specs.Words.{Word, words_at}

-- a rule's name is next: behind a semicolon its own, behind `@` that of a rule called
unfoldable pub leads : ℕ → Bool
leads kind = eqb kind 64 || eqb kind 59

-- no more rules behind a word of this kind: `end`, or no word
unfoldable pub stops : ℕ → Bool
stops kind = leb kind 1 || eqb kind 266

-- the word names a rule, where it is led to
unfoldable pub names : Bool → Word → Bool
names led w = led && eqb w.kind 257

-- the names of a part's rules and of those that they call, by the word before each
unfoldable pub names_from : Bool → List Word → List Word
names_from led [] = []
names_from led (w ∷ ws) =
    let later = names_from (leads w.kind) ws in
    if stops w.kind then [] else if names led w then w ∷ later else later

-- the names of declarations
unfoldable pub texts_of : List Decl → List (List ℕ)
texts_of [] = []
texts_of (d ∷ ds) = d.name.text ∷ texts_of ds

-- the names of the rows from `first` on
abbrev pub rules_held : List ℕ → List ℕ → ℕ → ℕ → List (List ℕ)
rules_held text rows first n = texts_of (held_from text rows first (n - first))

-- the names seen are those of the rows from `first` on
pub record Seen (text rows : List ℕ) (first n : ℕ) (seen : List (List ℕ)) : Type 0 where
  pub same : (w : List ℕ) → is_one w seen ≡ is_one w (rules_held text rows first n)

-- one word: r rows afterwards, none where there was no room for one more
pub data OneName (text rows rows' : List ℕ) (first n : ℕ) (seen : List (List ℕ)) (led : Bool) (w : Word) (r : code.Option ℕ) : Type 0 where
  no_name : names led w ≡ false → r ≡ code.Some n → rows' ≡ rows → OneName text rows rows' first n seen led w r
  known : names led w ≡ true → is_one w.text seen ≡ true → r ≡ code.Some n → rows' ≡ rows → OneName text rows rows' first n seen led w r
  full : names led w ≡ true → is_one w.text seen ≡ false → n ≡ 512 → r ≡ code.None → OneName text rows rows' first n seen led w r
  one_more : {m : ℕ} → names led w ≡ true → is_one w.text seen ≡ false → r ≡ code.Some m → m ≤ 512 → Appends text rows rows' n m (rule_decls (n - first) (called_rules (w ∷ [])))
      → OneName text rows rows' first n seen led w r

pub record Mentions (text rows rows' : List ℕ) (first n : ℕ) (led : Bool) (w : Word) (r : code.Option ℕ) : Type 0 where
  pub low : IfSome r (λ m. n ≤ m)
  pub high : IfSome r (λ m. m ≤ 512)
  pub one : (seen : List (List ℕ)) → Seen text rows first n seen → length rows ≡ 6017 → OneName text rows rows' first n seen led w r

-- rows for the words ws, or the first of them that there is no room for
pub data Adds (text rows rows' : List ℕ) (first n : ℕ) (r : Result ℕ Refusal) (ws : List Word) : Option Word → Type 0 where
  added : {m : ℕ} → r ≡ Ok m → Appends text rows rows' n m (rule_decls (n - first) (called_rules ws)) → Adds text rows rows' first n r ws none
  past : {w : Word} → fault_of r ≡ 9 → at_of r ≡ w.start → len_of r ≡ length w.text → Adds text rows rows' first n r ws (some w)

abbrev pub AddsAll : List ℕ → List ℕ → List ℕ → ℕ → ℕ → Result ℕ Refusal → List Word → Type 0
AddsAll text rows rows' first n r ws = Adds text rows rows' first n r ws (past_names (512 - n) ws)

-- the words from the place `at` on
pub record AddsFrom (text rows rows' : List ℕ) (first n at : ℕ) (led : Bool) (r : Result ℕ Refusal) : Type 0 where
  pub low : IfOk r (λ m. n ≤ m)
  pub high : IfOk r (λ m. m ≤ 512)
  pub adds : (seen : List (List ℕ)) → Seen text rows first n seen → length rows ≡ 6017 → AddsAll text rows rows' first n r (fresh seen (names_from led (words_at text at)))

-- all of this file computes where this is unfolded
unfoldable pub opened : Unit {0}
unfolding leads stops names names_from texts_of
opened = tt
