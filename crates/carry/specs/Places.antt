-- "from the same places": the places of a rule's actions by the words of the table, and a state of the rules' own walk that stands where a walk over
-- the table stands.
use Rattle.std.specs.Prelude.{List, [], ◌∷◌, ◌⊎◌, ◌≡◌, ℕ, ◌+◌, ◌*◌, ◌<◌, length}
use Rattle.std.proofs.Math.Option.{some}
use Rattle.base.specs.Tree.{cycle, choice, ◌▸◌, alternative, otherwise}
use Rattle.events.specs.Events.{repair, Io}
use Rattle.machine.specs.Call.{writing}
use Rattle.machine.specs.Decode as decoded
use Rattle.machine.specs.Decode.{fetch, decode}
use Rattle.machine.specs.Step.{goes, tells, step}
use Rattle.machine.specs.Walk.{going, Walk, moved, with_result, with_parameter}
use Rattle.ownwalk.specs.OwnWalk.{Context, in_cycle, in_alternative, in_otherwise, Pending, before, before_choice, Own, on, choosing}
use Rattle.program.specs.Program.{Selector, Act, Acts, Alts, Other, Rule, body_of}
use Rattle.program.specs.Table.{size_selector, count_labels, size, sizes, size_alts, place}

-- the actions b of one alternative begin d words after the first alternative's start
pub data OneOf : Alts → Acts → ℕ → Type 0 where
  this_one : {ls : List ℕ} {b : Acts} {q : Alts} → OneOf (alternative ls b q) b 0
  that_one : {ls : List ℕ} {c b : Acts} {q : Alts} {d : ℕ} → OneOf q b d → OneOf (alternative ls c q) b (sizes c + 2 + d)

-- the places of a rule's actions, each with the word of the rule where it stands, from 1: "the same places" are those at the same word
pub data Inside (body : Acts) : Acts → List Context → ℕ → Type 0 where
  in_start : Inside body body [] 1
  in_rest : {a : Act} {q : Acts} {k : List Context} {o e : ℕ} → Inside body (a ▸ q) k o → o + size a ≡ e → Inside body q k e
  inside_cycle : {b q : Acts} {k : List Context} {o : ℕ} → Inside body (cycle b ▸ q) k o → Inside body b (in_cycle b q ∷ k) o
  in_labelled : {s : Selector} {al : Alts} {ot : Other} {b q : Acts} {k : List Context} {o d e : ℕ} → Inside body (choice s al ot ▸ q) k o → OneOf al b d
      → o + size_selector s + 2 + d ≡ e → Inside body b (in_alternative q ∷ k) e
  inside_otherwise : {s : Selector} {al : Alts} {b q : Acts} {k : List Context} {o e : ℕ} → Inside body (choice s al (otherwise b) ▸ q) k o
      → o + size_selector s + 2 + size_alts al + (1 + 2 * count_labels al) ≡ e → Inside body b (in_otherwise q ∷ k) e

-- pending calls at return locations: behind a call, or at the choice that the call's value is for
pub data PendingAt (prog : List Rule) : List Pending → List ℕ → Type 0 where
  no_pending : PendingAt prog [] []
  pending_at : {q : Acts} {k : List Context} {ps : List Pending} {l : ℕ} {rs : List ℕ} (r o : ℕ) → r < length prog → Inside (body_of prog r) q k o
      → l ≡ place 0 prog r + o → PendingAt prog ps rs → PendingAt prog (before q k ∷ ps) (l ∷ rs)
  choice_at : {al : Alts} {ot : Other} {b : Acts} {k : List Context} {ps : List Pending} {l : ℕ} {rs : List ℕ} (s : Selector) (r o : ℕ) → r < length prog
      → Inside (body_of prog r) (choice s al ot ▸ b) k o → l ≡ place 0 prog r + (o + size_selector s) → PendingAt prog ps rs
      → PendingAt prog (before_choice al ot b k ∷ ps) (l ∷ rs)

-- the own walk before actions, or about to choose, at the location; all else that the walk holds is the same
pub data StandsAt (prog : List Rule) : Own → Walk → Type 0 where
  stands_on : {q : Acts} {k : List Context} {ps : List Pending} {io : Io} {l w p : ℕ} {rs : List ℕ} (r o : ℕ) → r < length prog → Inside (body_of prog r) q k o
      → l ≡ place 0 prog r + o → PendingAt prog ps rs
      → StandsAt prog (on q k ps io) (record { phase = going; location = l; returns = rs; result = w; parameter = p; io = io })
  stands_choosing : {al : Alts} {ot : Other} {b : Acts} {k : List Context} {ps : List Pending} {io : Io} {l w p : ℕ} {rs : List ℕ} (s : Selector) (r o : ℕ) → r < length prog
      → Inside (body_of prog r) (choice s al ot ▸ b) k o → l ≡ place 0 prog r + (o + size_selector s) → PendingAt prog ps rs
      → StandsAt prog (choosing w al ot b k ps io) (record { phase = going; location = l; returns = rs; result = w; parameter = p; io = io })

-- Steps of the rules that are several instructions

-- the instruction of a choice at l leads to d where no label is taken: d is behind its choice table
pub record Default (T : List ℕ) (l d : ℕ) : Type 0 where
  pub table_at : ℕ
  pub labels : ℕ
  pub chooses : (decode T l ≡ decoded.input_choice table_at) ⊎ (decode T l ≡ decoded.choice table_at)
  pub count : fetch T table_at ≡ some labels
  pub behind : d ≡ table_at + 1 + 2 * labels

-- a walk in the middle of the step of the rules that began at the walk `at`
pub data Within (T tokens : List ℕ) (at : Walk) : Walk → Type 0 where
  -- the step has not begun
  at_start : Within T tokens at at
  -- `>>` with a value, before its return; an operation behind its set_parameter
  behind_value : (v : ℕ) → decode T at.location ≡ decoded.set_result v → Within T tokens at (moved (at.location + 2) (with_result v at))
  behind_parameter : (v : ℕ) → decode T at.location ≡ decoded.set_parameter v → Within T tokens at (moved (at.location + 2) (with_parameter v at))
  -- at the default of a choice
  at_default : {w : Walk} → Default T at.location w.location → step T tokens at ≡ goes w → Within T tokens at w
  -- at the default's jump_back, its input being repaired
  behind_repair : {w v : Walk} (t : ℕ) → Default T at.location w.location → step T tokens at ≡ goes w → w.phase ≡ going → step T tokens w ≡ tells (repair t) v
      → Within T tokens at (writing (repair t) v)

-- the rules' own walk stands at the walk's places, or at those where the step began in the middle of which the walk is
pub record Standing (prog : List Rule) (T tokens : List ℕ) (w : Walk) (s : Own) : Type 0 where
  pub at : Walk
  pub stands : StandsAt prog s at
  pub within : Within T tokens at w
