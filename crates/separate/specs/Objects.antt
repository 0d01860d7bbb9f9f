-- An object's words, written in one go but for those that are known last.
use Rattle.std.specs.Prelude.{List, [], ◌≡◌, ℕ, ◌+◌, ◌-◌, ◌/◌, ◌%◌, ◌≤◌, length, set}
use Rattle.acceptance.proofs.Shape.{Each}
use Rattle.names.specs.Known.{good, Names}
use Rattle.names.specs.Uses.{pairs_of}
use Rattle.partpairs.specs.Pairing.{Collected}
use Rattle.parts.specs.Form.{uses_words, rules_words, first_pair, object_words}
use Rattle.parts.specs.Moved.{move_rules, move_translated}
use Rattle.parts.specs.Objects.{OpenRule, Object, Translated, object, together, open_rules, open_all, aims_of, common_means}
use Rattle.parts.specs.Sound.{SoundRule}
use Rattle.partwriter.specs.Put.{back}
use Rattle.separate.specs.Answers.{Holds}
use Rattle.separate.specs.Steps.{Refuses, StandsIn, Known, opened_by, translated_in}
use Rattle.separate.specs.declared.Plan.{Plan}
use Rattle.separate.specs.declared.Written.{Written}

-- how many words stand behind the first three, in 32 bits, and how many rules there are
unfoldable pub sized : List ℕ → ℕ → ℕ → List ℕ
sized ws n rules = set (set (set ws 1 ((n - 3) / 65536 % 65536)) 2 ((n - 3) % 65536)) 5 (rules % 65536)

-- the object's words, or the fault
pub data Writes (common : List ℕ) (size : ℕ) (lent : List ℕ) (w : Written) : Translated → Type 0 where
  object_written : {o : Object} → w.fault.number ≡ 0 → Holds lent (object_words common size o) w.words → Writes common size lent w (object o)
  not_written : {t : Translated} → (w.fault.number ≡ 0 → ⊥) → Refuses w.fault t → Writes common size lent w t

-- so few words behind the common part that 32 bits count them all
abbrev pub Countable : Object → Type 0
Countable o = length (uses_words o.uses) + length (rules_words o.aims (first_pair o) o.rules) ≤ 4000000000

-- what is known of a part that was read: its open rules are sound, and its words are so few that 32 bits count them
pub record Ordered (moved : ℕ) {text : List ℕ} {at : ℕ} (s : StandsIn text at) : Type 0 where
  pub sound : (names : Names) → common_means s.shared s.rules ≡ good names → (os : List OpenRule)
      → open_all (together s.shared s.rules) names (open_rules s.shared.listed s.rules) [] s.rules ≡ good os
      → Each (SoundRule s.shared.listed (aims_of s.shared.listed (move_rules (back moved) s.rules))) os
  pub few : (o : Object) → translated_in moved s ≡ object o → Countable o

-- of rules whose names are known, and whose pairs stand in the rows where they mean something
pub record WritesObject (common text rows signs : List ℕ) (p : Plan) (lent : List ℕ) (w : Written) : Type 0 where
  pub writes : (s : StandsIn text p.at) → Ordered p.moved s → (names : Names) → common_means s.shared s.rules ≡ good names
      → translated_in p.moved s ≡ move_translated (back p.moved) (opened_by s.shared s.rules names) → Known text rows p.count p.rules s.shared s.rules names
      → ((os : List OpenRule) → open_all (together s.shared s.rules) names (open_rules s.shared.listed s.rules) [] s.rules ≡ good os
      → Collected text rows signs p.count p.rules (pairs_of s.rules) p.pairs)
      → Writes common p.size lent w (move_translated (back p.moved) (opened_by s.shared s.rules names))

-- of a part that was read: its object's words, or its first fault
abbrev pub TranslatesIn : List ℕ → ℕ → (text : List ℕ) → (at : ℕ) → ℕ → List ℕ → Written → Type 0
TranslatesIn common size text at moved lent w = (s : StandsIn text at) → Ordered moved s → Writes common size lent w (translated_in moved s)

-- all of this file computes where this is unfolded
unfoldable pub opened : Unit {0}
unfolding sized
opened = tt
