-- "May be handed in unexamined": what has to be found of an object, whoever wrote it, for what is linked to be the table of an accepted program. What is
-- asked is told from the object's own numbers, the common part's list and its sections; how it was made is not asked.
use Rattle.std.specs.Prelude.{Bool, true, false, List, [], ◌∷◌, ◌++◌, ◌≡◌, ℕ, ◌-◌, ◌≤◌, length, get_or}
use Rattle.std.proofs.Math.Option.{none, some}
use Rattle.acceptance.proofs.Shape.{Each, NotEmpty}
use Rattle.base.specs.Common.{given}
use Rattle.base.specs.Tree.{Action, Actions, Alternatives, Otherwise, plain, cycle, choice, done, ◌▸◌, nil, alternative, absent, otherwise}
use Rattle.figure.specs.Told.{Told, told_if}
use Rattle.finishing.specs.Test.{finishing}
use Rattle.names.specs.Known.{good, Names, find_operators}
use Rattle.names.specs.Understand.{is_one}
use Rattle.names.specs.Uses.{Use}
use Rattle.processor.specs.Process.{accepted}
use Rattle.program.specs.Accepted.{Oks}
use Rattle.program.specs.Made.{Level}
use Rattle.program.specs.Past.{past_all}
use Rattle.program.specs.Program.{Plain, match, any, emit, error, exit, call, back, give, update, update_with, Selector, by_token, by_rule, by_operation, by_operation_with, Act, Acts, Alts, Other, Rule}
use Rattle.program.specs.Table.{count_labels, table}
use Rattle.syntax.specs.Reading.{got}
use Rattle.syntax.specs.Sections.{names_in_all}
use Rattle.syntax.specs.Texts.{Head, Common, read_common, read_part}
use Rattle.syntax.specs.Written as written
use Rattle.words.specs.Words.{Word}
use Rattle.parts.specs.Link.{linked, listed_type, program, link}
use Rattle.parts.specs.Objects.{Aim, named, ranked, head_aims, use_aims, call_aims, OpenRule, Object, object, common_means, meaning}
use Rattle.parts.specs.Promise.{Works}

-- the numbers of a rule's calls
unfoldable pub number_of : Plain → List ℕ
number_of (match t) = []
number_of any = []
number_of (emit t) = []
number_of (error t) = []
number_of exit = []
number_of (call r) = r ∷ []
number_of back = []
number_of (give v) = []
number_of (update op) = []
number_of (update_with op v) = []

unfoldable pub selector_number : Selector → List ℕ
selector_number by_token = []
selector_number (by_rule r) = r ∷ []
selector_number (by_operation op) = []
selector_number (by_operation_with op v) = []

unfoldable mutual
  pub numbers : Act → List ℕ
  numbers (plain p) = number_of p
  numbers (cycle b) = numbers_all b
  numbers (choice s q o) = selector_number s ++ (numbers_some q ++ numbers_other o)

  pub numbers_all : Acts → List ℕ
  numbers_all done = []
  numbers_all (a ▸ q) = numbers a ++ numbers_all q

  pub numbers_some : Alts → List ℕ
  numbers_some nil = []
  numbers_some (alternative ls b q) = numbers_all b ++ numbers_some q

  pub numbers_other : Other → List ℕ
  numbers_other absent = []
  numbers_other (otherwise b) = numbers_all b

-- "64 labels a choice", and one or more an alternative
unfoldable mutual
  pub Few : Act → Type 0
  Few (plain p) = Unit {0}
  Few (cycle b) = FewAll b
  Few (choice s q o) = (count_labels q ≤ 64) × FewSome q × FewOther o

  pub FewAll : Acts → Type 0
  FewAll done = Unit {0}
  FewAll (a ▸ q) = Few a × FewAll q

  pub FewSome : Alts → Type 0
  FewSome nil = Unit {0}
  FewSome (alternative ls b q) = (1 ≤ length ls) × FewAll b × FewSome q

  pub FewOther : Other → Type 0
  FewOther absent = Unit {0}
  FewOther (otherwise b) = FewAll b

-- "at most 32 deep": no more cycles and choices, one in the other, than `left`; of any tree of actions
module _ {P S L : Type 0} where
  unfoldable mutual
    pub Deep : Action P S L → ℕ → Type 0
    Deep (plain p) left = Unit {0}
    Deep (cycle b) left = (1 ≤ left) × DeepAll b (left - 1)
    Deep (choice s q o) left = (1 ≤ left) × DeepSome q (left - 1) × DeepOther o (left - 1)

    pub DeepAll : Actions P S L → ℕ → Type 0
    DeepAll done left = Unit {0}
    DeepAll (a ▸ q) left = Deep a left × DeepAll q left

    pub DeepSome : Alternatives P S L → ℕ → Type 0
    DeepSome nil left = Unit {0}
    DeepSome (alternative ls b q) left = DeepAll b left × DeepSome q left

    pub DeepOther : Otherwise P S L → ℕ → Type 0
    DeepOther absent left = Unit {0}
    DeepOther (otherwise b) left = DeepAll b left

-- what a number stands for, as a rule: a choice rule or not, by the list
unfoldable pub sort_of : List Head → Aim → Rule
sort_of hs (named w) = record { valued = given (listed_type w hs); body = done }
sort_of hs (ranked u) = record { valued = false; body = done }

unfoldable pub frame : List Head → List Aim → List Rule
frame hs [] = []
frame hs (a ∷ aims) = sort_of hs a ∷ frame hs aims

unfoldable pub texts_of : List Word → List (List ℕ)
texts_of [] = []
texts_of (w ∷ ws) = w.text ∷ texts_of ws

-- the calls are the words that 49 looks at, in order: a number stands for the rule of that name, or for a pair with that operand rule
unfoldable pub StandsFor : Aim → Word → Type 0
StandsFor (named v) w = v ≡ w.text
StandsFor (ranked u) w = u.operand.text ≡ w.text

unfoldable pub Aligned : List Aim → List ℕ → List Word → Type 0
Aligned aims [] [] = Unit {0}
Aligned aims [] (w ∷ ws) = ⊥
Aligned aims (i ∷ is) [] = ⊥
Aligned aims (i ∷ is) (w ∷ ws) = StandsFor (get_or aims i (named [])) w × Aligned aims is ws

pub record SoundRule (hs : List Head) (aims : List Aim) (r : OpenRule) : Type 0 where
  pub sort : r.means.valued ≡ given r.gives
  pub in_order : Oks (frame hs aims) r.means.body r.means.valued false
  pub no_end : r.means.valued ≡ true → past_all r.means.body ≡ false
  pub few : FewAll r.means.body
  pub deep : DeepAll r.means.body 32
  pub calls : Aligned aims (numbers_all r.means.body) r.calls

-- all words that 49 looks at
unfoldable pub call_words : List OpenRule → List Word
call_words [] = []
call_words (r ∷ rs) = r.calls ++ call_words rs

pub record SoundUse (hs : List Head) (n : Names) (rules : List OpenRule) (u : Use) : Type 0 where
  pub levels : List Level
  pub section : find_operators u.section.text n.operators ≡ some levels
  pub procedure : listed_type u.operand.text hs ≡ none
  pub shown : is_one u.operand.text (texts_of (call_words rules)) ≡ true

pub record Sound (hs : List Head) (n : Names) (o : Object) : Type 0 where
  pub others : List Word
  pub numbered : o.aims ≡ head_aims hs ++ (call_aims others ++ use_aims o.uses)
  pub some_rule : NotEmpty o.rules
  pub rules : Each (SoundRule hs o.aims) o.rules
  pub uses : Each (SoundUse hs n o.rules) o.uses

-- so is every object of a part that is translated
abbrev pub TranslatedSound : Type 0
TranslatedSound =
    (common_text : List ℕ) (c : Common) (rest : List Word) → read_common common_text ≡ got c rest → (n : Names) → common_means c [] ≡ good n
    → (text : List ℕ) (rs : List written.Rule) (rest₁ : List Word) → read_part c.left text ≡ got rs rest₁ → (o : Object) → meaning c rs ≡ object o → Sound c.listed n o

-- whatever is linked of such objects is an accepted program's, and works as one
pub record LinkedTable (prog : List Rule) (room : ℕ) (words : List ℕ) (verdict : Bool) (told : Told) : Type 0 where
  pub works : Works prog words verdict
  pub few : Each (λ m. FewAll m.body) prog
  pub words_are : words ≡ table prog
  pub verdict_is : verdict ≡ finishing prog
  pub figure_is : told ≡ told_if (accepted words verdict) prog
  pub fits : length words ≤ room
  pub within_4096 : length words ≤ 4096

abbrev pub AnyObjects : Type 0
AnyObjects =
    (common_text : List ℕ) (c : Common) (rest : List Word) → read_common common_text ≡ got c rest → (n : Names) → common_means c [] ≡ good n
    → (size : List ℕ) (os : List Object) (room : ℕ) (words : List ℕ) (verdict : Bool) (told : Told) → Each (Sound c.listed n) os
    → link common_text c n size os room ≡ linked words verdict told → LinkedTable (program n (names_in_all c.sections) os) room words verdict told

-- all of this file computes where this is unfolded
unfoldable pub opened : Unit {0}
unfolding number_of selector_number numbers Few Deep sort_of frame texts_of StandsFor Aligned call_words
opened = tt
