-- The readers of actions on other words: the laws of proofs/Moved.antt along the readers, one by one.
use mathlib.Core.Bool.{false}
use mathlib.Core.List.{List, [], ◌∷◌}
use mathlib.Core.Option.{some}
use mathlib.Core.Path.{◌≡◌, refl, sym, ap, ◌∙◌}
use Prim.Native.Char.{code}
use Prim.Native.Nat.{ℕ, zero, suc, ◌-◌}
use lib.Dec.{eqb}
use lib.ListN.{length}
use Rattle.base.specs.Tree.{plain, cycle, choice, ◌▸◌, nil, alternative, otherwise}
use Rattle.parts.proofs.Moved.{inner, may, does, alone, Carries, bind, bind-on, next, next-on, gives-a, ends, refuses, only-may, dry, dry-does, by_kind, on-kind, limited, passes, expects, shorts, a-name, one_name_lem, name-or-string}
use Rattle.parts.specs.Blank.{blank, blanks, blank_if, blank_constant, blank_plain, blank_selector, blank_act, blank_acts, blank_alts, blank_other, blank_rule}
use Rattle.parts.specs.Moved.{move_words, move_if, move_constant, move_plain, move_selector, move_act, move_acts, move_alts, move_rule}
use Rattle.syntax.specs.Actions.{a_constant, a_value, a_ranked, a_plain, a_selector, a_label, some_labels, closes, a_cycle, a_choice, an_action, an_otherwise, an_alternative, actions, alternatives}
use Rattle.syntax.specs.Parse.{a_rule}
use Rattle.syntax.specs.Reading.{Reader, a_name, optional}
use Rattle.syntax.specs.Written.{named, any, exit, emit, error, call, give, ranked, by_rule, by_operation, Acts, Choices}
use Rattle.words.specs.Words.{Word, twice, name, string}

-- Plain actions and selectors

constants : {b : ℕ} {ws : List Word} → Carries b may blank_constant ws a_constant a_constant
unfolding a_constant move_constant inner
constants =
    on-kind (code "(")
    (λ d. only-may (bind (passes 40 refl d) (λ ws₁ s s' p. bind name-or-string (λ ws₂ c c' q. next (expects 41 refl) (λ ws₃. gives-a (λ i. some (record { paren = p i; constant = q i })))))))
    (gives-a refl)

values : {b : ℕ} {ws : List Word} → Carries b may blank_if ws a_value a_value
unfolding a_value move_if inner
values =
    on-kind name (λ d. only-may (bind a-name (λ ws₁ v v' p. gives-a (λ i. some (p i)))))
    (on-kind string (λ d. only-may (bind (passes 259 refl d) (λ ws₁ v v' p. gives-a (λ i. some (p i))))) (gives-a refl))

plains : {b : ℕ} {ws : List Word} → Carries b does blank_plain ws a_plain a_plain
unfolding a_plain a_ranked move_plain inner
plains =
    on-kind name (λ d. bind a-name (λ ws₁ w w' p. bind constants (λ ws₂ c c' q. gives-a (λ i. named (p i) (q i)))))
    (on-kind string (λ d. bind (passes 259 refl d) (λ ws₁ w w' p. bind constants (λ ws₂ c c' q. gives-a (λ i. named (p i) (q i)))))
    (on-kind (code "?") (λ d. bind (passes 63 refl d) (λ ws₁ w w' p. gives-a (λ i. any (p i))))
    (on-kind (code ".") (λ d. next (passes 46 refl d) (λ ws₁. bind name-or-string (λ ws₂ w w' p. gives-a (λ i. emit (p i)))))
    (on-kind (code "#") (λ d. next (passes 35 refl d) (λ ws₁. bind name-or-string (λ ws₂ w w' p. gives-a (λ i. error (p i)))))
    (on-kind (code ">") (λ d. bind (passes 62 refl d) (λ ws₁ w w' p. gives-a (λ i. exit (p i))))
    (on-kind (code "@") (λ d. next (passes 64 refl d) (λ ws₁. bind a-name (λ ws₂ w w' p. gives-a (λ i. call (p i)))))
    (on-kind twice (λ d. bind (passes 256 refl d) (λ ws₁ w w' p. bind values (λ ws₂ v v' q. gives-a (λ i. give (p i) (q i)))))
    (on-kind (code "^") (λ d. bind (passes 94 refl d) (λ ws₁ s s' p.
    bind a-name (λ ws₂ w w' q. next (expects 64 refl) (λ ws₃. bind a-name (λ ws₄ o o' r. gives-a (λ i. ranked (p i) (q i) (r i)))))))
    refuses))))))))

selectors : {b : ℕ} {ws : List Word} → Carries b may blank_selector ws a_selector a_selector
unfolding a_selector move_selector inner
selectors =
    on-kind (code "@") (λ d. only-may (next (passes 64 refl d) (λ ws₁. bind a-name (λ ws₂ w w' p. gives-a (λ i. by_rule (p i))))))
    (on-kind name (λ d. only-may (bind a-name (λ ws₁ w w' p. bind constants (λ ws₂ c c' q. gives-a (λ i. by_operation (p i) (q i))))))
    (gives-a refl))

-- Labels

labels-one : {b : ℕ} {ws : List Word} (room : ℕ) → Carries b alone blank ws (a_label room) (a_label room)
unfolding a_label inner
labels-one room = on-kind string (λ d. limited room room (λ e. e) (passes 259 refl d)) (on-kind name (λ d. limited room room (λ e. e) (shorts d)) refuses)

labels-step : {ws : List Word} (k j room : ℕ) → ((vs : List Word) → Carries (suc j) does blanks vs (some_labels k (room - 1)) (some_labels j (room - 1))) → Carries (suc (suc j)) does blanks ws (some_labels (suc k) room) (some_labels (suc j) room)
unfolding some_labels move_words inner
labels-step k j room h =
    bind-on refl (labels-one room) (λ ws₁ w w' p.
    bind {y = may} (on-kind (code ",") (λ d. only-may (next (passes 44 refl d) h)) (gives-a refl)) (λ ws₂ l l' q. gives-a (λ i. p i ∷ q i)))

some-labels : {ws : List Word} (k j room : ℕ) → Carries (suc j) does blanks ws (some_labels k room) (some_labels j room)
unfolding some_labels
some-labels zero j room = refuses
some-labels (suc k) zero room = dry-does (labels-step k 0 room (λ vs. some-labels k 0 (room - 1)))
some-labels (suc k) (suc j) room = labels-step k j room (λ vs. some-labels k j (room - 1))

-- Actions

blank_choices : Choices → Choices
blank_choices c = record { labelled = blank_alts c.labelled; default = blank_other c.default }

abbrev MovedActs : ℕ → Reader Acts → Reader Acts → Type 0
MovedActs b m m' = (ws : List Word) → Carries b may blank_acts ws m m'

abbrev MovedAlts : ℕ → Reader Choices → Reader Choices → Type 0
MovedAlts b m m' = (ws : List Word) → Carries b does blank_choices ws m m'

cycles : {b : ℕ} {ws : List Word} (m m' : Reader Acts) → MovedActs b m m' → Carries b does blank_act ws (a_cycle m) (a_cycle m')
unfolding a_cycle move_act inner
cycles m m' h = bind (h _) (λ ws₁ q q' p. next (expects 125 refl) (λ ws₂. gives-a (λ i. cycle (p i))))

choices-one : {b : ℕ} {ws : List Word} (m m' : Reader Choices) → MovedAlts b m m' → Carries b does blank_act ws (a_choice m) (a_choice m')
unfolding a_choice move_act inner blank_choices
choices-one m m' h = bind selectors (λ ws₁ s s' p. next (expects 124 refl) (λ ws₂. bind (h _) (λ ws₃ c c' q. gives-a (λ i. choice (p i) (q i).labelled (q i).default))))

actions-one : {b : ℕ} {ws : List Word} (m m' : ℕ → Reader Acts) (c c' : ℕ → Reader Choices) (left : ℕ) → ((l : ℕ) → MovedActs b (m l) (m' l)) → ((l : ℕ) → MovedAlts b (c l) (c' l))
    → Carries (suc b) does blank_act ws (an_action m c left) (an_action m' c' left)
unfolding an_action move_act inner
actions-one m m' c c' left h g =
    on-kind (code "{") (λ d. limited left left (λ e. e) (next-on refl (passes 123 refl d) (λ ws₁. cycles (m (left - 1)) (m' (left - 1)) (h (left - 1)))))
    (on-kind (code "[") (λ d. limited left left (λ e. e) (next-on refl (passes 91 refl d) (λ ws₁. choices-one (c (left - 1)) (c' (left - 1)) (g (left - 1)))))
    (bind plains (λ ws₁ p p' q. gives-a (λ i. plain (q i)))))

actions-step : (k j left : ℕ) → ((l : ℕ) → MovedActs j (actions k l) (actions j l)) → ((l : ℕ) → MovedAlts j (alternatives k l 64) (alternatives j l 64)) → MovedActs (suc j) (actions (suc k) left) (actions (suc j) left)
unfolding actions move_acts
actions-step k j left h g ws =
    record {
      carries = (by_kind closes (λ t. gives-a refl)
          (λ t. only-may (bind-on refl (actions-one (λ l ws. actions k l ws) (λ l ws. actions j l ws) (λ l ws. alternatives k l 64 ws) (λ l ws. alternatives j l 64 ws) left (λ l ws. h l ws) (λ l ws. g l ws))
          (λ ws₁ a a' p. bind (h left _) (λ ws₂ q q' r. gives-a (λ i. p i ▸ r i)))))).carries;
    }

otherwises : {b : ℕ} {ws : List Word} (m m' : Reader Acts) → MovedActs b m m' → Carries b does blank_choices ws (an_otherwise m) (an_otherwise m')
unfolding an_otherwise blank_choices move_alts inner
otherwises m m' h = next (expects 58 refl) (λ ws₁. bind (h _) (λ ws₂ q q' p. next (expects 93 refl) (λ ws₃. gives-a (λ i. record { labelled = nil; default = otherwise (p i) }))))

blanks-length : (ls : List Word) → length (blanks ls) ≡ length ls
unfolding move_words
blanks-length [] = refl
blanks-length (w ∷ ls) = ap suc (blanks-length ls)

alternatives-one : {ws : List Word} (k j room : ℕ) (m m' : Reader Acts) (c c' : ℕ → Reader Choices) → MovedActs j m m' → ((n : ℕ) → MovedAlts j (c n) (c' n))
    → Carries (suc j) does blank_choices ws (an_alternative k room m c) (an_alternative j room m' c')
unfolding an_alternative blank_choices move_alts inner
alternatives-one k j room m m' c c' h g =
    bind-on refl (some-labels k j room) (λ ws₁ ls ls' p.
    let same : length ls ≡ length ls' = sym (blanks-length ls) ∙ ap (λ (x : List Word). length x) p ∙ blanks-length ls' in
    next (expects 58 refl) (λ ws₂. bind (h _) (λ ws₃ q q' r.
    bind {bl = blank_choices} {x = does} (on-kind (code "|") (λ d. next {y = does} (passes 124 refl d) (λ ws₄. rw (← same) (g (room - length ls) _))) (next (expects 93 refl) (λ ws₄. gives-a refl)))
    (λ ws₄ o o' z. gives-a (λ i. record { labelled = alternative (p i) (r i) (z i).labelled; default = (z i).default })))))

alternatives-step : (k j left room : ℕ) → MovedActs j (actions k left) (actions j left) → ((n : ℕ) → MovedAlts j (alternatives k left n) (alternatives j left n))
    → MovedAlts (suc j) (alternatives (suc k) left room) (alternatives (suc j) left room)
unfolding actions inner
alternatives-step k j left room h g ws =
    record {
      carries = (on-kind (code "*") (λ d. next-on refl (passes 42 refl d) (λ ws₁. otherwises (λ ws. actions k left ws) (λ ws. actions j left ws) (λ ws. h ws)))
          (alternatives-one k j room (λ ws. actions k left ws) (λ ws. actions j left ws) (λ n ws. alternatives k left n ws) (λ n ws. alternatives j left n ws) (λ ws. h ws) (λ n ws. g n ws))).carries;
    }

mutual
  unfolding actions

  some-actions : (k j left : ℕ) → MovedActs j (actions k left) (actions j left)
  some-actions zero j left ws = record { carries = refuses.carries }
  some-actions (suc k) zero left ws = dry (actions-step k 0 left (λ l vs. some-actions k 0 l vs) (λ l vs. some-alternatives k 0 l 64 vs) ws)
  some-actions (suc k) (suc j) left ws = actions-step k j left (λ l vs. some-actions k j l vs) (λ l vs. some-alternatives k j l 64 vs) ws

  some-alternatives : (k j left room : ℕ) → MovedAlts j (alternatives k left room) (alternatives j left room)
  some-alternatives zero j left room ws = record { carries = refuses.carries }
  some-alternatives (suc k) zero left room ws = dry (alternatives-step k 0 left room (λ vs. some-actions k 0 left vs) (λ n vs. some-alternatives k 0 left n vs) ws)
  some-alternatives (suc k) (suc j) left room ws = alternatives-step k j left room (λ vs. some-actions k j left vs) (λ n vs. some-alternatives k j left n vs) ws

-- Rules

pub gives_moved : {b : ℕ} {ws : List Word} → Carries b may blank_if ws (optional twice a_name) (optional twice a_name)
unfolding optional move_if inner
gives_moved = on-kind twice (λ d. only-may (next (passes 256 refl d) (λ ws₁. bind a-name (λ ws₂ w w' p. gives-a (λ i. some (p i)))))) (gives-a refl)

-- a rule ends with its `;`: what stands behind is not looked at
pub rule_moved : {ws : List Word} (k j l l' : ℕ) → (eqb l 0 ≡ false → eqb l' 0 ≡ false) → Carries (suc j) alone blank_rule ws (a_rule k l) (a_rule j l')
unfolding a_rule move_rule inner
rule_moved k j l l' f =
    bind-on refl (one_name_lem l l' f) (λ ws₁ w w' p.
    bind gives_moved (λ ws₂ g g' q.
    next (expects 58 refl) (λ ws₃.
    bind (some-actions k j 32 _) (λ ws₄ b b' r.
    ends (λ e. record { rule = w; gives = g; body = b; closing = e }) (λ e. record { rule = w'; gives = g'; body = b'; closing = e }) (expects 59 refl)
    (λ e e' s. λ i. record { rule = p i; gives = q i; body = r i; closing = s i })))))
