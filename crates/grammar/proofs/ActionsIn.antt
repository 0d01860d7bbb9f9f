-- What the readers of actions give has a derivation from the words that they read: the laws follow the readers, one by one.
use mathlib.Core.List.{List, [], ◌∷◌}
use mathlib.Core.Option.{none, some}
use mathlib.Core.Path.{◌≡◌, refl}
use Prim.Native.Char.{code}
use Prim.Native.Nat.{ℕ, zero, suc, ◌-◌, ◌<◌, ◌≤◌}
use lib.ListN.{length}
use native.Mathlib.Omega.{arith}
use Rattle.base.specs.Tree.{plain, cycle, choice, done, ◌▸◌, nil, alternative, absent, otherwise}
use Rattle.grammar.specs.Derived.{Took, Not, Reference, by_name, by_string, ConstantIn, no_constant, one_constant, ValueIn, no_value, one_value, PlainIn, named_in, any_in, emit_in, error_in, exit_in, call_in, give_in, ranked_in, SelectorIn, token_in, rule_inside, operation_inside, LabelsIn, last_label, more_labels, ActIn, plain_in, cycle_in, choice_in, ActsIn, none_in, more_in, AltsIn, other_in, last_in, next_in}
use Rattle.grammar.proofs.Laws.{From, bind, next, gives, refuses, either, on-kind, limited, weaken, passes, expects, shorts, a-name, name-or-string}
use Rattle.syntax.specs.Actions.{a_constant, a_value, a_ranked, a_plain, a_selector, a_label, some_labels, closes, a_cycle, a_choice, an_action, an_otherwise, an_alternative, actions, alternatives}
use Rattle.syntax.specs.Reading.{Reader, ◌>>◌, pure, peek, pass, on◌then◌else◌, expect, short, a_name, name_or_string}
use Rattle.syntax.specs.Written.{named, any, exit, emit, error, call, give, ranked, by_token, by_rule, by_operation, Acts, Choices}
use Rattle.words.specs.Words.{Word, twice, name, string}

-- Plain actions and selectors

pub constant-in : {ws : List Word} → From ws a_constant (λ rest c. ConstantIn ws rest c)
unfolding a_constant
constant-in =
    on-kind (code "(") _ _
    (λ d. bind pass _ (passes 40 refl d) (λ ws₁ paren t.
    bind name_or_string _ name-or-string (λ ws₂ c r.
    next (expect (code ")")) _ (expects 41 refl) (λ ws₃ close u.
    gives (some (record { paren = paren; constant = c })) (one_constant t r u)))))
    (λ d. gives none (no_constant d refl))

pub value_in : {ws : List Word} → From ws a_value (λ rest v. ValueIn ws rest v)
unfolding a_value
value_in =
    on-kind name _ _ (λ d. bind a_name _ a-name (λ ws₁ v t. gives (some v) (one_value (by_name t))))
    (λ n. on-kind string _ _ (λ d. bind pass _ (passes 259 refl d) (λ ws₁ v t. gives (some v) (one_value (by_string t))))
    (λ m. gives none (no_value n m refl)))

pub some-plain-in : {ws : List Word} → From ws a_plain (λ rest a. PlainIn ws rest a)
unfolding a_plain a_ranked
some-plain-in =
    on-kind name _ _ (λ d. bind a_name _ a-name (λ ws₁ w t. bind a_constant _ constant-in (λ ws₂ c u. gives (named w c) (named_in (by_name t) u))))
    (λ _. on-kind string _ _ (λ d. bind pass _ (passes 259 refl d) (λ ws₁ w t. bind a_constant _ constant-in (λ ws₂ c u. gives (named w c) (named_in (by_string t) u))))
    (λ _. on-kind (code "?") _ _ (λ d. bind pass _ (passes 63 refl d) (λ ws₁ w t. gives (any w) (any_in t)))
    (λ _. on-kind (code ".") _ _ (λ d. next pass _ (passes 46 refl d) (λ ws₁ dot t. bind name_or_string _ name-or-string (λ ws₂ w r. gives (emit w) (emit_in t r))))
    (λ _. on-kind (code "#") _ _ (λ d. next pass _ (passes 35 refl d) (λ ws₁ hash t. bind name_or_string _ name-or-string (λ ws₂ w r. gives (error w) (error_in t r))))
    (λ _. on-kind (code ">") _ _ (λ d. bind pass _ (passes 62 refl d) (λ ws₁ w t. gives (exit w) (exit_in t)))
    (λ _. on-kind (code "@") _ _ (λ d. next pass _ (passes 64 refl d) (λ ws₁ at t. bind a_name _ a-name (λ ws₂ w u. gives (call w) (call_in t u))))
    (λ _. on-kind twice _ _ (λ d. bind pass _ (passes 256 refl d) (λ ws₁ w t. bind a_value _ value_in (λ ws₂ v u. gives (give w v) (give_in t u))))
    (λ _. on-kind (code "^") _ _ (λ d. bind pass _ (passes 94 refl d) (λ ws₁ s t.
    bind a_name _ a-name (λ ws₂ w u.
    next (expect (code "@")) _ (expects 64 refl) (λ ws₃ at v.
    bind a_name _ a-name (λ ws₄ o x. gives (ranked s w o) (ranked_in t u v x))))))
    (λ _. refuses)))))))))

pub selector-in : {ws : List Word} → From ws a_selector (λ rest s. SelectorIn ws rest s)
unfolding a_selector
selector-in =
    on-kind (code "@") _ _ (λ d. next pass _ (passes 64 refl d) (λ ws₁ at t. bind a_name _ a-name (λ ws₂ w u. gives (by_rule w) (rule_inside t u))))
    (λ n. on-kind name _ _ (λ d. bind a_name _ a-name (λ ws₁ w t. bind a_constant _ constant-in (λ ws₂ c u. gives (by_operation w c) (operation_inside t u))))
    (λ m. gives by_token (token_in n m refl)))

-- Labels

-- a label where `room` more may stand
record Label (room : ℕ) (ws rest : List Word) (w : Word) : Type 0 where
  pub word : Reference ws w rest
  pub some-room : 0 < room

label-in : {ws : List Word} (room : ℕ) → From ws (a_label room) (λ rest w. Label room ws rest w)
unfolding a_label
label-in room =
    on-kind string _ _ (λ d. limited room pass (λ h. weaken (passes 259 refl d) (λ rest w t. record { word = by_string t; some-room = h })))
    (λ _. on-kind name _ _ (λ d. limited room short (λ h. weaken (shorts d) (λ rest w t. record { word = by_name t; some-room = h })))
    (λ _. refuses))

-- labels and how many
pub record Labels (room : ℕ) (ws rest ls : List Word) : Type 0 where
  pub labels : LabelsIn ws rest ls
  pub few : length ls ≤ room

-- what stands behind the label w
data Behind (room : ℕ) (ws rest : List Word) : List Word → Type 0 where
  no-comma : Not 44 ws → rest ≡ ws → Behind room ws rest []
  comma : {c : Word} {ws₁ ls : List Word} → Took 44 ws c ws₁ → Labels room ws₁ rest ls → Behind room ws rest ls

behind : {room : ℕ} {ws ws₁ rest ls : List Word} {w : Word} → Label room ws ws₁ w → Behind (room - 1) ws₁ rest ls → Labels room ws rest (w ∷ ls)
behind l (no-comma n d) = record { labels = rw (← d) at (last_label l.word n); few = let h = l.some-room in omega arith }
behind l (comma t m) = record { labels = more_labels l.word t m.labels; few = let h = l.some-room in let g = m.few in omega arith }

pub labels_in : {ws : List Word} (k room : ℕ) → From ws (some_labels k room) (λ rest ls. Labels room ws rest ls)
unfolding some_labels
labels_in zero room = refuses
labels_in (suc k) room =
    bind (a_label room) _ (label-in room) (λ ws₁ w l.
    bind (on code "," then (◌>>◌ pass (some_labels k (room - 1))) else pure []) _
    (on-kind (code ",") _ _ (λ d. next pass _ (passes 44 refl d) (λ ws₂ c t. weaken (labels_in k (room - 1)) (λ rest ls m. comma t m)))
    (λ n. gives [] (no-comma n refl)))
    (λ ws₂ ls b. gives (w ∷ ls) (behind l b)))

-- Actions

abbrev pub ActsFrom : Reader Acts → Type 0
ActsFrom inner = (ws : List Word) → From ws inner (λ rest b. ActsIn ws rest b)

abbrev pub AltsFrom : ℕ → Reader Choices → Type 0
AltsFrom room choices = (ws : List Word) → From ws choices (λ rest c. AltsIn ws rest room c.labelled c.default)

cycle-from : {ws ws₁ : List Word} {opening : Word} (inner : Reader Acts) → ActsFrom inner → Took 123 ws opening ws₁ → From ws₁ (a_cycle inner) (λ rest a. ActIn ws rest a)
unfolding a_cycle
cycle-from {ws₁ = ws₁} inner h t =
    bind inner _ (h ws₁) (λ ws₂ b q. next (expect (code "}")) _ (expects 125 refl) (λ ws₃ close u. gives (cycle b) (cycle_in t q u)))

choice-from : {ws ws₁ : List Word} {opening : Word} (choices : Reader Choices) → AltsFrom 64 choices → Took 91 ws opening ws₁
    → From ws₁ (a_choice choices) (λ rest a. ActIn ws rest a)
unfolding a_choice
choice-from choices h t =
    bind a_selector _ selector-in (λ ws₂ s u.
    next (expect (code "|")) _ (expects 124 refl) (λ ws₃ bar v.
    bind choices _ (h ws₃) (λ ws₄ c q. gives (choice s c.labelled c.default) (choice_in t u v q))))

action-from : (inner : ℕ → Reader Acts) (choices : ℕ → Reader Choices) (left : ℕ) → ((n : ℕ) → ActsFrom (inner n)) → ((n : ℕ) → AltsFrom 64 (choices n))
    → (ws : List Word) → From ws (an_action inner choices left) (λ rest a. ActIn ws rest a)
unfolding an_action
action-from inner choices left h g ws =
    on-kind (code "{") _ _ (λ d. limited left _ (λ _. next pass _ (passes 123 refl d) (λ ws₁ opening t. cycle-from (inner (left - 1)) (h (left - 1)) t)))
    (λ _. on-kind (code "[") _ _ (λ d. limited left _ (λ _. next pass _ (passes 91 refl d) (λ ws₁ opening t. choice-from (choices (left - 1)) (g (left - 1)) t)))
    (λ _. bind a_plain _ some-plain-in (λ ws₁ p t. gives (plain p) (plain_in t))))

otherwise-from : {ws ws₁ : List Word} {star : Word} (room : ℕ) (inner : Reader Acts) → ActsFrom inner → Took 42 ws star ws₁
    → From ws₁ (an_otherwise inner) (λ rest c. AltsIn ws rest room c.labelled c.default)
unfolding an_otherwise
otherwise-from room inner h t =
    next (expect (code ":")) _ (expects 58 refl) (λ ws₂ colon u.
    bind inner _ (h ws₂) (λ ws₃ b q.
    next (expect (code "]")) _ (expects 93 refl) (λ ws₄ close v.
    gives (record { labelled = nil; default = otherwise b }) (other_in t u q v))))

-- what stands behind an alternative
data Follows (room : ℕ) (ws rest : List Word) : Choices → Type 0 where
  closed : {close : Word} → Took 93 ws close rest → Follows room ws rest (record { labelled = nil; default = absent })
  barred : {bar : Word} {ws₁ : List Word} {c : Choices} → Took 124 ws bar ws₁ → AltsIn ws₁ rest room c.labelled c.default → Follows room ws rest c

followed : {room : ℕ} {ws ws₁ ws₂ ws₃ rest ls : List Word} {colon : Word} {b : Acts} {c : Choices}
    → Labels room ws ws₁ ls → Took 58 ws₁ colon ws₂ → ActsIn ws₂ ws₃ b → Follows (room - length ls) ws₃ rest c
    → AltsIn ws rest room (alternative ls b c.labelled) c.default
followed l t q (closed u) = last_in l.labels l.few t q u
followed l t q (barred u m) = next_in l.labels l.few t q u m

alternative-from : (k room : ℕ) (inner : Reader Acts) (more : ℕ → Reader Choices) → ActsFrom inner → ((n : ℕ) → AltsFrom n (more n))
    → AltsFrom room (an_alternative k room inner more)
unfolding an_alternative
alternative-from k room inner more h g ws =
    bind (some_labels k room) _ (labels_in k room) (λ ws₁ ls l.
    next (expect (code ":")) _ (expects 58 refl) (λ ws₂ colon t.
    bind inner _ (h ws₂) (λ ws₃ b q.
    bind (on code "|" then (◌>>◌ pass (more (room - length ls))) else (◌>>◌ (expect (code "]")) (pure (record { labelled = nil; default = absent })))) _
    (on-kind (code "|") _ _
    (λ d. next pass _ (passes 124 refl d) (λ ws₄ bar u. weaken (g (room - length ls) ws₄) (λ rest c m. barred u m)))
    (λ _. next (expect (code "]")) _ (expects 93 refl) (λ ws₄ close u. gives (record { labelled = nil; default = absent }) (closed u))))
    (λ ws₄ c m. gives (record { labelled = alternative ls b c.labelled; default = c.default }) (followed l t q m)))))

mutual
  unfolding actions

  pub actions-in : (k left : ℕ) → ActsFrom (actions k left)
  actions-in zero left ws = refuses
  actions-in (suc k) left ws =
      record {
        holds = (either (closes (peek ws).kind) (pure done) _ (λ t. gives done (none_in t refl))
            (λ t. bind (an_action (λ l ws. actions k l ws) (λ l ws. alternatives k l 64 ws) left) _
            (action-from (λ l ws. actions k l ws) (λ l ws. alternatives k l 64 ws) left (λ n ws₁. actions-in k n ws₁) (λ n ws₁. alternatives-in k n 64 ws₁) ws)
            (λ ws₁ a x. bind (actions k left) _ (actions-in k left ws₁) (λ ws₂ q y. gives (a ▸ q) (more_in t x y))))).holds;
      }

  pub alternatives-in : (k left room : ℕ) → AltsFrom room (alternatives k left room)
  alternatives-in zero left room ws = refuses
  alternatives-in (suc k) left room ws =
      on-kind (code "*") _ _ (λ d. next pass _ (passes 42 refl d) (λ ws₁ star t. otherwise-from room (λ ws. actions k left ws) (λ ws₂. actions-in k left ws₂) t))
      (λ _. alternative-from k room (λ ws. actions k left ws) (λ n ws. alternatives k left n ws) (λ ws₂. actions-in k left ws₂) (λ n ws₂. alternatives-in k left n ws₂) ws)
