-- Words at other places: the rules of a part with each word's place changed by `to`, as where the part stands behind the common part in one buffer.
use Rattle.std.specs.Prelude.{List, [], ◌∷◌, ℕ, ◌+◌, ◌-◌}
use Rattle.std.proofs.Math.Option.{Option, none, some}
use Rattle.base.specs.Tree.{plain, cycle, choice, done, ◌▸◌, nil, alternative, absent, otherwise}
use Rattle.names.specs.Known.{Checked, good, wrong}
use Rattle.names.specs.Uses.{Use}
use Rattle.processor.specs.Process.{Part}
use Rattle.syntax.specs.Written.{Constant, Plain, named, any, exit, emit, error, call, give, ranked, Selector, by_token, by_rule, by_operation, Act, Acts, Alts, Other, Rule}
use Rattle.words.specs.Words.{Word}
use Rattle.parts.specs.Objects as objects
use Rattle.parts.specs.Objects.{Aim, OpenRule, Object, Translated, object, in_common, in_part}

-- the place s where what began at `from` begins at `at`
abbrev pub rebased : ℕ → ℕ → ℕ → ℕ
rebased from at s = at + (s - from)

module _ (to : ℕ → ℕ) where
  unfoldable pub move_word : Word → Word
  move_word w = record { kind = w.kind; start = to w.start; text = w.text }

  unfoldable pub move_words : List Word → List Word
  move_words [] = []
  move_words (w ∷ ws) = move_word w ∷ move_words ws

  unfoldable pub move_if : Option Word → Option Word
  move_if none = none
  move_if (some w) = some (move_word w)

  unfoldable pub move_constant : Option Constant → Option Constant
  move_constant none = none
  move_constant (some c) = some (record { paren = move_word c.paren; constant = move_word c.constant })

  unfoldable pub move_plain : Plain → Plain
  move_plain (named w c) = named (move_word w) (move_constant c)
  move_plain (any w) = any (move_word w)
  move_plain (exit w) = exit (move_word w)
  move_plain (emit w) = emit (move_word w)
  move_plain (error w) = error (move_word w)
  move_plain (call w) = call (move_word w)
  move_plain (give w v) = give (move_word w) (move_if v)
  move_plain (ranked s w o) = ranked (move_word s) (move_word w) (move_word o)

  unfoldable pub move_selector : Selector → Selector
  move_selector by_token = by_token
  move_selector (by_rule w) = by_rule (move_word w)
  move_selector (by_operation w c) = by_operation (move_word w) (move_constant c)

  unfoldable mutual
    pub move_act : Act → Act
    move_act (plain p) = plain (move_plain p)
    move_act (cycle b) = cycle (move_acts b)
    move_act (choice s q o) = choice (move_selector s) (move_alts q) (move_other o)

    pub move_acts : Acts → Acts
    move_acts done = done
    move_acts (a ▸ q) = move_act a ▸ move_acts q

    pub move_alts : Alts → Alts
    move_alts nil = nil
    move_alts (alternative ls b q) = alternative (move_words ls) (move_acts b) (move_alts q)

    pub move_other : Other → Other
    move_other absent = absent
    move_other (otherwise b) = otherwise (move_acts b)

  unfoldable pub move_rule : Rule → Rule
  move_rule r = record { rule = move_word r.rule; gives = move_if r.gives; body = move_acts r.body; closing = move_word r.closing }

  unfoldable pub move_rules : List Rule → List Rule
  move_rules [] = []
  move_rules (r ∷ rs) = move_rule r ∷ move_rules rs

  -- what is made of them

  unfoldable pub move_use : Use → Use
  move_use u = record { sign = move_word u.sign; section = move_word u.section; operand = move_word u.operand }

  unfoldable pub move_uses : List Use → List Use
  move_uses [] = []
  move_uses (u ∷ us) = move_use u ∷ move_uses us

  unfoldable pub move_aim : Aim → Aim
  move_aim (objects.named w) = objects.named w
  move_aim (objects.ranked u) = objects.ranked (move_use u)

  unfoldable pub move_aims : List Aim → List Aim
  move_aims [] = []
  move_aims (a ∷ aims) = move_aim a ∷ move_aims aims

  unfoldable pub move_open : OpenRule → OpenRule
  move_open r = record { name = move_word r.name; gives = move_if r.gives; calls = move_words r.calls; means = r.means }

  unfoldable pub move_opens : List OpenRule → List OpenRule
  move_opens [] = []
  move_opens (r ∷ rs) = move_open r ∷ move_opens rs

  unfoldable pub move_object : Object → Object
  move_object o = record { rules = move_opens o.rules; uses = move_uses o.uses; aims = move_aims o.aims }

  -- a check's outcome, its value changed by f: a fault is at the word's other place
  unfoldable pub move_checked : {A B : Type 0} → (A → B) → Checked A → Checked B
  move_checked f (good a) = good (f a)
  move_checked f (wrong n w) = wrong n (move_word w)

  unfoldable pub move_part : Part → Part
  move_part p = record { start = to p.start; size = p.size }

  unfoldable pub move_translated : Translated → Translated
  move_translated (object o) = object (move_object o)
  move_translated (in_common n p) = in_common n p
  move_translated (in_part n p) = in_part n (move_part p)

-- all of this file computes where this is unfolded
unfoldable pub opened : Unit {0}
unfolding move_word move_words move_if move_constant move_plain move_selector move_act move_rule move_rules move_use move_uses move_aim move_aims move_open move_opens move_object move_checked move_part move_translated
opened = tt
