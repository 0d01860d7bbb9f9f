-- "At most 32 deep": what the reader gives nests no deeper than it is told.
use mathlib.Core.Bool.{Bool, true, false}
use mathlib.Core.List.{[], ◌∷◌}
use mathlib.Core.Path.{◌≡◌, refl, subst}
use native.Mathlib.Omega.{arith}
use Prim.Native.Char.{code}
use Prim.Native.Nat.{ℕ, zero, suc, ◌-◌, ◌≤◌, min}
use borrow.Author.Tests.{eqb-false}
use lib.Dec.{eqb}
use lib.ListN.{length}
use Rattle.acceptance.proofs.ReadLaws.{Gives, Any, any, no-got, bind, after, gives, refuses, either, on-kind}
use Rattle.acceptance.proofs.Shape.{Each}
use Rattle.std.specs.Prelude.{if◌then◌else◌}
use Rattle.base.specs.Tree.{plain, cycle, choice, done, ◌▸◌, nil, alternative, absent, otherwise}
use Rattle.parts.specs.Sound.{Deep, DeepAll, DeepSome, DeepOther}
use Rattle.syntax.specs.Texts.{a_part}
use Rattle.syntax.specs.Actions.{a_plain, a_selector, some_labels, closes, a_cycle, a_choice, an_action, an_otherwise, an_alternative, actions, alternatives}
use Rattle.syntax.specs.Parse.{a_rule, some_rules}
use Rattle.syntax.specs.Reading.{got, Reader, ◌>>◌, pure, peek, pass, over, within, on◌then◌else◌, expect, a_name, one_name, optional}
use Rattle.syntax.specs.Written.{Act, Acts, Choices, Rule}
use Rattle.words.specs.Words.{last, twice, name, rules, end}

-- what is read where something is left
limited : {A : Type 0} (P : A → Type 0) (left : ℕ) (m : Reader A) → (1 ≤ left → Gives P m) → Gives P (within left m)
unfolding within over
limited P left m h ws a rest e = go (eqb left 0) refl e
  where
    go : (t : Bool) → eqb left 0 ≡ t → (if t then over ws else m ws) ≡ got a rest → P a
    go true d e₁ = no-got e₁
    go false d e₁ = let n = eqb-false left 0 d in h (omega arith) ws a rest e₁

abbrev DeepActs : ℕ → Acts → Type 0
DeepActs left b = DeepAll b left

abbrev DeepAct : ℕ → Act → Type 0
DeepAct left a = Deep a left

abbrev DeepChoices : ℕ → Choices → Type 0
DeepChoices left c = DeepSome c.labelled left × DeepOther c.default left

cycle-deep : (left : ℕ) (inner : Reader Acts) → 1 ≤ left → Gives (DeepActs (left - 1)) inner → Gives (DeepAct left) (a_cycle inner)
unfolding a_cycle Deep
cycle-deep left inner l h = bind (DeepAct left) (DeepActs (left - 1)) inner _ h (λ b hb. after (DeepAct left) (expect (code "}")) _ (gives (DeepAct left) (cycle b) (l, hb)))

choice-deep : (left : ℕ) (choices : Reader Choices) → 1 ≤ left → Gives (DeepChoices (left - 1)) choices → Gives (DeepAct left) (a_choice choices)
unfolding a_choice Deep
choice-deep left choices l h =
    bind (DeepAct left) Any a_selector _ (any a_selector) (λ s _.
    after (DeepAct left) (expect (code "|")) _
    (bind (DeepAct left) (DeepChoices (left - 1)) choices _ h (λ c hc. gives (DeepAct left) (choice s c.labelled c.default) (l, hc.0, hc.1))))

action-deep : (inner : ℕ → Reader Acts) (choices : ℕ → Reader Choices) (left : ℕ) → ((n : ℕ) → Gives (DeepActs n) (inner n)) → ((n : ℕ) → Gives (DeepChoices n) (choices n))
    → Gives (DeepAct left) (an_action inner choices left)
unfolding an_action Deep
action-deep inner choices left h hc =
    on-kind (DeepAct left) (code "{") _ _ (limited (DeepAct left) left _ (λ l. after (DeepAct left) pass _ (cycle-deep left (inner (left - 1)) l (h (left - 1)))))
    (on-kind (DeepAct left) (code "[") _ _ (limited (DeepAct left) left _ (λ l. after (DeepAct left) pass _ (choice-deep left (choices (left - 1)) l (hc (left - 1)))))
    (bind (DeepAct left) Any a_plain _ (any a_plain) (λ p _. gives (DeepAct left) (plain p) tt)))

otherwise-deep : (left : ℕ) (inner : Reader Acts) → Gives (DeepActs left) inner → Gives (DeepChoices left) (an_otherwise inner)
unfolding an_otherwise Deep
otherwise-deep left inner h =
    after (DeepChoices left) (expect (code ":")) _
    (bind (DeepChoices left) (DeepActs left) inner _ h (λ b hb.
    after (DeepChoices left) (expect (code "]")) _ (gives (DeepChoices left) (record { labelled = nil; default = otherwise b }) (tt, hb))))

alternative-deep : (left k room : ℕ) (inner : Reader Acts) (more : ℕ → Reader Choices) → Gives (DeepActs left) inner → ((n : ℕ) → Gives (DeepChoices left) (more n))
    → Gives (DeepChoices left) (an_alternative k room inner more)
unfolding an_alternative Deep
alternative-deep left k room inner more h hm =
    bind (DeepChoices left) Any (some_labels k room) _ (any (some_labels k room)) (λ ls _.
    after (DeepChoices left) (expect (code ":")) _
    (bind (DeepChoices left) (DeepActs left) inner _ h (λ b hb.
    bind (DeepChoices left) (DeepChoices left)
    (on code "|" then (◌>>◌ pass (more (room - length ls))) else (◌>>◌ (expect (code "]")) (pure (record { labelled = nil; default = absent })))) _
    (on-kind (DeepChoices left) (code "|") _ _ (after (DeepChoices left) pass _ (hm (room - length ls)))
    (after (DeepChoices left) (expect (code "]")) _ (gives (DeepChoices left) (record { labelled = nil; default = absent }) (tt, tt))))
    (λ c hc. gives (DeepChoices left) (record { labelled = alternative ls b c.labelled; default = c.default }) ((hb, hc.0), hc.1)))))

mutual
  unfolding actions Deep

  actions-deep : (k left : ℕ) → Gives (DeepActs left) (actions k left)
  actions-deep zero left = refuses (DeepActs left)
  actions-deep (suc k) left = λ ws a rest e.
      either (DeepActs left) (closes (peek ws).kind) (pure done) _ (gives (DeepActs left) done tt)
      (bind (DeepActs left) (DeepAct left) (an_action (λ l ws. actions k l ws) (λ l ws. alternatives k l 64 ws) left) _
      (action-deep (λ l ws. actions k l ws) (λ l ws. alternatives k l 64 ws) left (λ n. actions-deep k n) (λ n. alternatives-deep k n 64))
      (λ x hx. bind (DeepActs left) (DeepActs left) (actions k left) _ (actions-deep k left) (λ q hq. gives (DeepActs left) (x ▸ q) (hx, hq)))) ws a rest e

  alternatives-deep : (k left room : ℕ) → Gives (DeepChoices left) (alternatives k left room)
  alternatives-deep zero left room = refuses (DeepChoices left)
  alternatives-deep (suc k) left room =
      on-kind (DeepChoices left) (code "*") _ _ (after (DeepChoices left) pass _ (otherwise-deep left (λ ws. actions k left ws) (actions-deep k left)))
      (alternative-deep left k room (λ ws. actions k left ws) (λ n ws. alternatives k left n ws) (actions-deep k left) (λ n. alternatives-deep k left n))

abbrev pub DeepRule : Rule → Type 0
DeepRule r = DeepAll r.body 32

rule-deep : (k left : ℕ) → Gives DeepRule (a_rule k left)
unfolding a_rule
rule-deep k left =
    bind DeepRule Any (one_name left) _ (any (one_name left)) (λ w _.
    bind DeepRule Any (optional twice a_name) _ (any (optional twice a_name)) (λ g _.
    after DeepRule (expect (code ":")) _
    (bind DeepRule (DeepActs 32) (actions k 32) _ (actions-deep k 32) (λ b h.
    bind DeepRule Any (expect (code ";")) _ (any (expect (code ";"))) (λ e _.
    gives DeepRule (record { rule = w; gives = g; body = b; closing = e }) h)))))

rules-deep : (k left : ℕ) → Gives (Each DeepRule) (some_rules k left)
unfolding some_rules Each
rules-deep zero left = refuses (Each DeepRule)
rules-deep (suc k) left =
    bind (Each DeepRule) DeepRule (a_rule k left) _ (rule-deep k left) (λ r h.
    bind (Each DeepRule) (Each DeepRule) (on name then some_rules k (left - 1) else pure []) _
    (on-kind (Each DeepRule) name _ _ (rules-deep k (left - 1)) (gives (Each DeepRule) [] tt))
    (λ more hs. gives (Each DeepRule) (r ∷ more) (h, hs)))

-- a part's rules are at most 32 deep
pub part-deep : (k left : ℕ) → Gives (Each DeepRule) (a_part k left)
unfolding a_part
part-deep k left =
    after (Each DeepRule) (expect rules) _
    (bind (Each DeepRule) (Each DeepRule) (some_rules k (min 128 left)) _ (rules-deep k (min 128 left)) (λ rs h.
    after (Each DeepRule) (expect end) _
    (after (Each DeepRule) (expect last) _ (gives (Each DeepRule) rs h))))

-- k cycles, one in the other, are k deep and no less
nested : ℕ → Acts
nested zero = done
nested (suc k) = cycle (nested k) ▸ done

one_less : (k : ℕ) → suc k - 1 ≡ k
one_less k = omega arith

nested-deep : (k : ℕ) → DeepAll (nested k) k
unfolding nested Deep
nested-deep zero = tt
nested-deep (suc k) = ((omega arith, rw (one_less k) (nested-deep k)), tt)

nested-not-less : (k : ℕ) → DeepAll (nested (suc k)) k → ⊥
unfolding nested Deep
nested-not-less zero h = let l = h.0.0 in omega (arith, l)
nested-not-less (suc k) h = nested-not-less k (subst (λ n. DeepAll (nested (suc k)) n) (one_less k) h.0.1)
