-- Sums under precedence, and what it means that rules read them: "reads operands by the rule and emits operators in postfix order, the higher
-- level first".
use Rattle.std.specs.Prelude.{true, false, List, [], ◌∷◌, ◌++◌, ◌≡◌, ℕ, zero, suc, ◌+◌, ◌-◌, ◌^◌, ◌≤◌, min, max, eqb, length, drop, if◌then◌else◌}
use Rattle.std.proofs.Math.Option.{Option, none, some}
use Rattle.base.specs.Tree.{plain, ◌▸◌}
use Rattle.events.specs.Events.{Event, output, Io, took}
use Rattle.ownwalk.specs.OwnWalk.{Context, Pending, Own, on, own}
use Rattle.program.specs.Made.{Operator, Level, level_body, higher_of}
use Rattle.program.specs.Program.{call, Acts, Rule, body_of}

-- an operand: the tokens that it reads, the events that it writes, how many answers it uses
pub record Operand : Type 0 where
  pub tokens : List ℕ
  pub events : List Event
  pub answers : ℕ

-- the output token of the operator with this input token
unfoldable pub emits_of : ℕ → List Operator → Option ℕ
emits_of t [] = none
emits_of t (o ∷ os) = let later = emits_of t os in if eqb t o.token then some o.emits else later

-- A sum whose operators are of these levels, the lowest first, bracketed as levels and sides say: above the highest level stands an operand; what
-- stands beside an operator is of a higher level, but on its left side (left level) or its right side (right level) it may be of the same.
pub data Sum : List Level → Type 0 where
  operand : Operand → Sum []
  only : {l : Level} {ls : List Level} → Sum ls → Sum (l ∷ ls)
  leftward : {l : Level} {ls : List Level} (t v : ℕ) → l.right ≡ false → emits_of t l.operators ≡ some v → Sum (l ∷ ls) → Sum ls → Sum (l ∷ ls)
  rightward : {l : Level} {ls : List Level} (t v : ℕ) → l.right ≡ true → emits_of t l.operators ≡ some v → Sum ls → Sum (l ∷ ls) → Sum (l ∷ ls)

-- how it is written: the operator between its sides
unfoldable pub tokens_of : {ls : List Level} → Sum ls → List ℕ
tokens_of (operand x) = x.tokens
tokens_of (only a) = tokens_of a
tokens_of (leftward t v s e a b) = tokens_of a ++ (t ∷ tokens_of b)
tokens_of (rightward t v s e a b) = tokens_of a ++ (t ∷ tokens_of b)

-- "emits operators in postfix order": the operator after both
unfoldable pub events_of : {ls : List Level} → Sum ls → List Event
events_of (operand x) = x.events
events_of (only a) = events_of a
events_of (leftward t v s e a b) = events_of a ++ (events_of b ++ (output v ∷ []))
events_of (rightward t v s e a b) = events_of a ++ (events_of b ++ (output v ∷ []))

unfoldable pub answers_of : {ls : List Level} → Sum ls → ℕ
answers_of (operand x) = x.answers
answers_of (only a) = answers_of a
answers_of (leftward t v s e a b) = answers_of a + answers_of b
answers_of (rightward t v s e a b) = answers_of a + answers_of b

-- calls pending at most, the call of its own rule included, where an operand needs d: left levels cost one each, a right operator one more
unfoldable pub depth_of : {ls : List Level} → ℕ → Sum ls → ℕ
depth_of d (operand x) = d
depth_of d (only a) = suc (depth_of d a)
depth_of d (leftward t v s e a b) = max (depth_of d a) (suc (depth_of d b))
depth_of d (rightward t v s e a b) = suc (max (depth_of d a) (depth_of d b))

-- answers used, with their greatest
unfoldable pub spent : ℕ → ℕ → ℕ
spent zero u = u
spent (suc n) u = spent n (min (u + 1) (2 ^ 64 - 1))

-- so many tokens read, these events written, so many answers used; nothing is repaired
unfoldable pub after : List ℕ → List Event → ℕ → Io → Io
after ts es n io = record { read = io.read + length ts; used = spent n io.used; allowance = io.allowance; events = io.events ++ es }

-- the first of what is left
unfoldable pub first : List ℕ → Option ℕ
first [] = none
first (t ∷ ts) = some t

unfoldable pub operator_of : Option ℕ → List Operator → Option ℕ
operator_of none os = none
operator_of (some t) os = emits_of t os

-- the token, if any, is no operator of these levels
unfoldable pub Clear : List Level → Option ℕ → Type 0
Clear [] x = Unit {0}
Clear (l ∷ ls) x = (operator_of x l.operators ≡ none) × Clear ls x

-- no operator of a level is one of a higher level: no "token listed twice"
unfoldable pub Apart : List Level → Type 0
Apart [] = Unit {0}
Apart (l ∷ ls) = ((t v : ℕ) → emits_of t l.operators ≡ some v → Clear ls (some t)) × Apart ls

-- the rules of a pair stand in the program from the place `own` on
unfoldable pub Stand : List Rule → ℕ → ℕ → List Level → Type 0
Stand prog own r [] = Unit {0}
Stand prog own r (l ∷ ls) = (body_of prog own ≡ level_body l.right own (higher_of own r ls) l.operators) × Stand prog (suc own) r ls

-- "The action is a call of the lowest"; with no level left, of the operand rule
unfoldable pub lowest : ℕ → ℕ → List Level → ℕ
lowest own r [] = r
lowest own r (l ∷ ls) = own

module _ (prog : List Rule) (tokens answers : List ℕ) where
  -- so many steps of the rules' own walk lead from one state to the other
  pub data Leads : Own → Own → Type 0 where
    stay : {s : Own} → Leads s s
    step : {s s' : Own} → Leads (own prog tokens answers s) s' → Leads s s'

  -- a call of rule r is passed, wherever it stands with d of 64 calls free, and all that it does is to read and write from io to io'
  pub record Passes (d r : ℕ) (io io' : Io) : Type 0 where
    pub leads : (q : Acts) (k : List Context) (ps : List Pending) → length ps + d ≤ 64 → Leads (on (plain (call r) ▸ q) k ps io) (on q k ps io')

  -- rule r, called where so much is read and written, reads this operand. The tokens behind it and the answers still to come are given with io, so an
  -- operand may use answers and may end where the next token ends it
  pub record Reads (d r : ℕ) (x : Operand) (io : Io) : Type 0 where
    pub passes : Passes d r io (after x.tokens x.events x.answers io)

  -- each operand of a sum is read where it stands: the first where the sum begins, one behind an operator past that token
  unfoldable pub Operands : {ls : List Level} → ℕ → ℕ → Sum ls → Io → Type 0
  Operands d r (operand x) io = Reads d r x io
  Operands d r (only a) io = Operands d r a io
  Operands d r (leftward t v s e a b) io = Operands d r a io × Operands d r b (took (after (tokens_of a) (events_of a) (answers_of a) io))
  Operands d r (rightward t v s e a b) io = Operands d r a io × Operands d r b (took (after (tokens_of a) (events_of a) (answers_of a) io))

  -- The claim, for any number of levels: where the rules of a pair stand, a sum followed by no operator of these levels is read whole, and what is
  -- written is its postfix form.
  unfoldable pub Postfix : List Level → Type 0
  Postfix ls =
      (own r d : ℕ) → Stand prog own r ls → Apart ls → (e : Sum ls) (io : Io) → Operands d r e io
      → (rest : List ℕ) → drop io.read tokens ≡ tokens_of e ++ rest → Clear ls (first rest)
      → Passes (depth_of d e) (lowest own r ls) io (after (tokens_of e) (events_of e) (answers_of e) io)
