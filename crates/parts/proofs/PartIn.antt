-- A part that was read has a derivation from its words behind `rules` to its `end`; and where these words stand at other places, as behind the common
-- part in one buffer, its rules there have one too, and are translated to the same object and the same fault at the places of the buffer.
use mathlib.Core.List.{List, [], ◌∷◌}
use mathlib.Core.Path.{◌≡◌, refl, sym, ap, ◌∙◌}
use Prim.Native.Nat.{ℕ, ◌+◌, ◌-◌, ◌≤◌, min}
use lib.ListN.{length}
use native.Mathlib.Omega.{arith}
use Rattle.grammar.proofs.Laws.{From, bind, next, gives, expects, expects-kind}
use Rattle.grammar.proofs.ProgramIn.{rules-from}
use Rattle.grammar.specs.Derived.{Took, RulesIn}
use Rattle.parts.proofs.ShiftedBack.{Back, rules-back}
use Rattle.parts.proofs.ShiftedIn.{peek-moved, rules-moved}
use Rattle.parts.proofs.ShiftedRules.{meaning-moved, read-on-moved}
use Rattle.parts.specs.Moved.{rebased, move_word, move_words, move_rules, move_translated}
use Rattle.parts.specs.Objects.{meaning, read_on}
use Rattle.syntax.specs.Parse.{some_rules}
use Rattle.syntax.specs.Reading.{got, peek, expect}
use Rattle.syntax.specs.Texts.{Common, a_part, read_part}
use Rattle.syntax.specs.Written.{Rule}
use Rattle.words.specs.Words.{Word, words, last, rules, end}

-- the rules rs are what these words are, up to a word `end`
pub record PartIn (ws : List Word) (rs : List Rule) : Type 0 where
  pub after : List Word
  pub rules_in : RulesIn ws after rs
  pub ends : (peek after).kind ≡ 266

record Begun (left : ℕ) (ws : List Word) (rs : List Rule) : Type 0 where
  head : Word
  inside : List Word
  starts : Took 265 ws head inside
  few : length rs ≤ min 128 left
  part_in : PartIn inside rs

begun : {ws : List Word} (k left : ℕ) → From ws (a_part k left) (λ _ rs. Begun left ws rs)
unfolding a_part
begun k left =
    next (expect rules) _ (expects 265 refl) (λ ws₁ w t.
    bind (some_rules k (min 128 left)) _ (rules-from k (min 128 left)) (λ ws₂ rs m.
    next (expect end) _ (expects-kind end) (λ ws₃ _ e.
    next (expect last) _ (expects-kind last) (λ ws₄ _ _.
    gives rs (record { head = w; inside = ws₁; starts = t; few = m.few; part_in = record { after = ws₂; rules_in = m.rules_in; ends = e } })))))

begun-in : (left : ℕ) (text : List ℕ) (rs : List Rule) (rest : List Word) → read_part left text ≡ got rs rest → Begun left (words text) rs
unfolding read_part
begun-in left text rs rest e = (begun (length text + 1) left).holds rest rs e

pub part_in : (left : ℕ) (text : List ℕ) (rs : List Rule) (rest : List Word) → read_part left text ≡ got rs rest → (keyword : Word) (ws : List Word) → words text ≡ keyword ∷ ws → PartIn ws rs
part_in left text rs rest e keyword ws d =
    let b = begun-in left text rs rest e in
    let f : b.head ∷ b.inside ≡ keyword ∷ ws = sym b.starts.here ∙ d in
    let g : b.inside ≡ ws = cc in
    rw g at b.part_in

pub part-few : (left : ℕ) (text : List ℕ) (rs : List Rule) (rest : List Word) → read_part left text ≡ got rs rest → length rs ≤ min 128 left
part-few left text rs rest e = (begun-in left text rs rest e).few

-- The words at other places

pub rebase-words : (from at : ℕ) (ws : List Word) → move_words (rebased from at) (move_words (λ s. from + s) ws) ≡ move_words (λ s. at + s) ws
unfolding move_words move_word
rebase-words from at [] = refl
rebase-words from at (w ∷ ws) =
    let e : at + (from + w.start - from) ≡ at + w.start = omega arith in
    rw (e, rebase-words from at ws) refl

pub rebase-back : (from at : ℕ) (ws : List Word) → Back (rebased at from) (rebased from at) (move_words (λ s. from + s) ws)
rebase-back from at ws = ap (move_words (rebased at from)) (rebase-words from at ws) ∙ rebase-words at from ws

-- what was read of words from the place `from` on, read from the place `at` on
pub moved_in : (from at : ℕ) (ws : List Word) (rs : List Rule) → PartIn (move_words (λ s. from + s) ws) rs → PartIn (move_words (λ s. at + s) ws) (move_rules (rebased from at) rs)
moved_in from at ws rs p =
    let to = rebased from at in
    record { after = move_words to p.after; rules_in = rw (rebase-words from at ws) at (rules-moved to p.rules_in); ends = peek-moved to p.after ∙ p.ends }

pub back-again : (from at : ℕ) (ws : List Word) (rs : List Rule) → PartIn (move_words (λ s. from + s) ws) rs → move_rules (rebased at from) (move_rules (rebased from at) rs) ≡ rs
back-again from at ws rs p = rules-back (rebased at from) (rebased from at) p.rules_in (rebase-back from at ws)

-- what it is translated to at the places of the buffer, with these places changed back
pub meaning-back : (c : Common) (from at : ℕ) (ws : List Word) (rs : List Rule) → PartIn (move_words (λ s. from + s) ws) rs
    → meaning c rs ≡ move_translated (rebased at from) (meaning c (move_rules (rebased from at) rs))
meaning-back c from at ws rs p = ap (meaning c) (sym (back-again from at ws rs p)) ∙ meaning-moved (rebased at from) c (move_rules (rebased from at) rs)

pub read-on-back : (c : Common) (from at : ℕ) (ws : List Word) (rs : List Rule) → PartIn (move_words (λ s. from + s) ws) rs → (vs vs' : List Word)
    → read_on c (got rs vs) ≡ move_translated (rebased at from) (read_on c (got (move_rules (rebased from at) rs) vs'))
read-on-back c from at ws rs p vs vs' =
    ap (λ (x : List Rule). read_on c (got x vs)) (sym (back-again from at ws rs p)) ∙ read-on-moved (rebased at from) c (move_rules (rebased from at) rs) vs vs'
