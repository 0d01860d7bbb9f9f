-- A common part that was read up to its `end`: as a derivation, also where a part's rules stand behind it in one buffer.
use mathlib.Core.List.{List, [], ◌∷◌, ◌++◌}
use mathlib.Core.Option.{Option}
use mathlib.Core.Path.{◌≡◌, refl, sym, ap, ◌∙◌}
use Prim.Native.Nat.{ℕ, zero, suc, ◌+◌, ◌-◌, ◌≤◌, min, max}
use native.Mathlib.Omega.{arith}
use lib.ListN.{length, take, drop, replicate}
use Rattle.collector.specs.Collecting.{ListIn, no_head, more_heads}
use Rattle.grammar.proofs.Laws.{From, bind, next, gives, refuses, on-kind, expects, one_name_lem, a-name}
use Rattle.grammar.proofs.SectionsIn.{some-sections-in}
use Rattle.grammar.specs.Derived.{Took, Not, GivesIn, gives_none, gives_some, RuleIn, one_rule, RulesIn, last_rule, more_rules}
use Rattle.parts.specs.Moved.{move_word, move_words}
use Rattle.parts.specs.Objects.{as_rules}
use Rattle.partnames.proofs.Swaps.{common-front}
use Rattle.partnames.specs.Buffer.{part_place, both_texts}
use Rattle.partnames.specs.Declaring.{CommonIn, NoLine, no_name, no_type, no_semicolon}
use Rattle.reader.specs.Texts.{Listed, up_to_end}
use Rattle.scanner.proofs.Joined.{joined, moved, words-moved}
use Rattle.syntax.specs.Reading.{got, expect, a_name, one_name, peek, ◌>>=◌}
use Rattle.syntax.specs.Sections.{nothing, some_sections}
use Rattle.syntax.specs.Texts.{Common, Head, a_head, some_heads}
use Rattle.syntax.specs.Written.{Rule}
use Rattle.words.specs.Words.{Word, blank, name, words, words_at, words_from}

-- The list

record HeadIn (left : ℕ) (ws rest : List Word) (h : Head) : Type 0 where
  pub some_left : 1 ≤ left
  pub w₁ : List Word
  pub w₂ : List Word
  pub w₃ : List Word
  pub sign : Word
  pub semi : Word
  pub rule : Took 257 ws h.rule w₁
  pub twice : Took 256 w₁ sign w₂
  pub type : Took 257 w₂ h.gives w₃
  pub end : Took 59 w₃ semi rest

head_in : {ws : List Word} (left : ℕ) → From ws (a_head left) (λ rest h. HeadIn left ws rest h)
unfolding a_head
head_in left =
    bind (one_name left) _ (one_name_lem left) (λ ws₁ w n.
    next (expect 256) _ (expects 256 refl) (λ ws₂ sign t.
    bind a_name _ a-name (λ ws₃ g u.
    next (expect 59) _ (expects 59 refl) (λ ws₄ semi s.
    gives (record { rule = w; gives = g })
    (record { some_left = n.some_left; w₁ = ws₁; w₂ = ws₂; w₃ = ws₃; sign = sign; semi = semi; rule = n.word; twice = t; type = u; end = s })))))

record HeadsIn (left : ℕ) (ws rest : List Word) (hs : List Head) : Type 0 where
  pub list : ListIn ws rest (as_rules hs)
  pub few : length hs ≤ left

heads-in : {ws : List Word} (k left : ℕ) → From ws (some_heads k left) (λ rest hs. HeadsIn left ws rest hs)
unfolding some_heads as_rules
heads-in zero left = record { holds = refuses.holds }
heads-in {ws} (suc k) left = record {
  holds = (on-kind {P = λ rest hs. HeadsIn left ws rest hs} {ws = ws} name (◌>>=◌ (a_head left) (λ h. ◌>>=◌ (some_heads k (left - 1)) (λ more ws. got (h ∷ more) ws))) (λ ws. got [] ws)
      (λ _. bind (a_head left) _ (head_in left) (λ ws₁ h i.
      bind (some_heads k (left - 1)) _ (heads-in k (left - 1)) (λ ws₂ hs j.
      gives (h ∷ hs) (record { list = more_heads i.rule i.twice i.type i.end j.list; few = let f = j.few in let g = i.some_left in omega arith }))))
      (λ _. gives [] (record { list = no_head refl; few = omega arith }))).holds;
}

-- The whole

common_in : {ws : List Word} (k : ℕ) → From ws (up_to_end k) (λ rest c. CommonIn ws rest c)
unfolding up_to_end nothing
common_in k =
    bind (some_sections k nothing) _ (some-sections-in k nothing) (λ ws₁ s q.
    next (expect 265) _ (expects 265 refl) (λ ws₂ head t.
    bind (some_heads k (min 128 s.left)) _ (heads-in k (min 128 s.left)) (λ ws₃ hs i.
    gives (record { sections = s.sections; left = s.left; listed = hs })
    (record { head = head; before = ws₁; behind = ws₂; sections = q.sections-in; rules = t; list = i.list; names = q.few; few = i.few }))))

-- the whole text is its words from place 0 on
pub from_start : (text : List ℕ) → words text ≡ words_at text 0
unfolding words words_at
from_start text = refl

-- a common part's own text: its `end` stands behind the list
pub listed-in-text : {common : List ℕ} {at n : ℕ} {c : Common} (l : Listed common at n c) → CommonIn (words_at common 0) (l.keyword ∷ l.rest) c
unfolding words words_at
listed-in-text {common} {c = c} l = (common_in (length common + 1)).holds (l.keyword ∷ l.rest) c l.reads

pub end-no-line : {common : List ℕ} {at n : ℕ} {c : Common} (l : Listed common at n c) → NoLine (l.keyword ∷ l.rest)
unfolding peek
end-no-line l = no_name (λ e. let k = l.kind in omega arith)

-- the words that `up_to_end` leaves are the last of the text's
pub record Before (common : List ℕ) (last : List Word) : Type 0 where
  pub front : List Word
  pub is : words common ≡ front ++ last

pub leaves_last : {common : List ℕ} {at n : ℕ} {c : Common} (l : Listed common at n c) → Before common (l.keyword ∷ l.rest)
leaves_last {common} l = let f = common-front (l.keyword ∷ l.rest) (listed-in-text l) in record { front = f.front; is = from_start common ∙ f.is }

-- line feeds are passed over
behind-feeds : (k at : ℕ) (s : List ℕ) → words_from 0 at (replicate k 10 ++ s) ≡ words_from 0 (at + k) s
unfolding words_from blank
behind-feeds zero at s = ap (λ (i : ℕ). words_from 0 i s) (omega arith)
behind-feeds (suc k) at s = behind-feeds k (suc at) s ∙ ap (λ (i : ℕ). words_from 0 i s) (omega arith)

-- the words behind a place of a text are those of the rest of the text, so much further on
rest-words : (s : List ℕ) (d : ℕ) → words_from 0 d s ≡ moved d (words s)
unfolding words
rest-words s d = ap (λ (k : ℕ). words_from 0 k s) (omega arith) ∙ words-moved s d 0 0

-- the words of the buffer: those of the common part before `end`, then those of the further part behind `rules`, at their places in the buffer
buffer-words : {common : List ℕ} {at n : ℕ} {c : Common} (l : Listed common at n c) (part : List ℕ) (from : ℕ) (ws : List Word) → words common ≡ ws ++ (l.keyword ∷ l.rest)
    → words (both_texts common at part from) ≡ ws ++ moved (part_place at from) (words (drop from part))
unfolding both_texts part_place
buffer-words {common} {at} l part from ws q =
    let next = max (at + 1) from in
    let k = next - (at + 1) in
    let more = replicate k 10 ++ drop from part in
    let j = joined common more ws l.rest l.keyword (omega (arith, l.start, l.inside)) q in
    let z : next - at ≡ suc k = omega arith in
    let y : at + 1 + k ≡ next = omega arith in
    ap (λ (i : ℕ). words (take at common ++ (replicate i 10 ++ drop from part))) z ∙ (rw l.start at j)
    ∙ ap (λ (vs : List Word). ws ++ vs) (behind-feeds k (at + 1) (drop from part) ∙ ap (λ (i : ℕ). words_from 0 i (drop from part)) y ∙ rest-words (drop from part) next)

-- one buffer of both: the common part is read, and behind it stand the words of the further part at their places there
pub listed-in-buffer : {common : List ℕ} {at n : ℕ} {c : Common} (l : Listed common at n c) (part : List ℕ) (from : ℕ)
    → CommonIn (words_at (both_texts common at part from) 0) (moved (part_place at from) (words (drop from part))) c
listed-in-buffer {common} {at} {c = c} l part from =
    let new = moved (part_place at from) (words (drop from part)) in
    let f = common-front new (listed-in-text l) in
    let e = sym (from_start (both_texts common at part from)) ∙ buffer-words l part from f.front (from_start common ∙ f.is) in
    rw e f.reads

-- a rule is no line of the list
colon-there : {ws ws' : List Word} {w : Word} → Took 58 ws w ws' → Not 59 ws
unfolding peek
colon-there t k = let h = t.here in let i = t.kind in let z : ◌≡◌ {A = ℕ} 58 59 = cc in omega arith

typed-no-line : {ws ws₁ ws₂ ws₃ : List Word} {w colon : Word} {o : Option Word} → Took 257 ws w ws₁ → GivesIn ws₁ ws₂ o → Took 58 ws₂ colon ws₃ → NoLine ws
typed-no-line t (gives_none n f) c = no_type t n
typed-no-line t (gives_some u g) c = no_semicolon t u g (colon-there c)

rule-no-line : {ws ws' : List Word} {r : Rule} → RuleIn ws ws' r → NoLine ws
rule-no-line (one_rule t g c b e) = typed-no-line t g c

pub rules-no-line : {ws ws' : List Word} {rs : List Rule} → RulesIn ws ws' rs → NoLine ws
rules-no-line (last_rule q m) = rule-no-line q
rules-no-line (more_rules q m l) = rule-no-line q

-- words behind other words are words at other places, as rules are moved
pub moved-words : (d : ℕ) (ws : List Word) → moved d ws ≡ move_words (λ s. d + s) ws
unfolding move_words move_word
moved-words d [] = refl
moved-words d (w ∷ ws) = ap (λ (l : List Word). move_word (λ s. d + s) w ∷ l) (moved-words d ws)
