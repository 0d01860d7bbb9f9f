-- Sums whose operands are not met by a token each, worked out by hand: an operand that goes by an operation's answer, one that may have a second token, and
-- one that writes, under a right level.
use mathlib.Core.Bool.{true, false}
use mathlib.Core.List.{List, [], ◌∷◌}
use mathlib.Core.Path.{◌≡◌, refl}
use Prim.Native.Nat.{ℕ}
use native.Mathlib.Omega.{arith}
use Rattle.base.specs.Common.{bytes}
use Rattle.base.specs.Tree.{plain, cycle, choice, done, ◌▸◌, nil, alternative, absent, otherwise}
use Rattle.events.specs.Events
use Rattle.events.specs.Events.{output, operation, finished, Io}
use Rattle.names.specs.Declare
use Rattle.names.specs.Known
use Rattle.names.specs.Resolve
use Rattle.names.specs.Understand
use Rattle.names.specs.Uses
use Rattle.ownwalk.specs.OwnWalk
use Rattle.ownwalk.specs.OwnWalk.{stopped, owns, own_start}
use Rattle.precedence.proofs.Nested.{calls, postfix}
use Rattle.precedence.specs.Sums.{Operand, emits_of, Sum, operand, only, leftward, rightward, tokens_of, events_of, answers_of, depth_of, spent, after, first, operator_of, Clear, Apart, Stand, lowest, stay, step, Passes, Operands, Postfix}
use Rattle.processor.specs.Process
use Rattle.processor.specs.Process.{meaning, understood}
use Rattle.program.specs.Made
use Rattle.program.specs.Made.{Operator, Level}
use Rattle.program.specs.Past
use Rattle.program.specs.Program
use Rattle.program.specs.Program.{match, call, emit, exit, by_token, by_operation, Acts, Rule}
use Rattle.syntax.specs.Actions
use Rattle.syntax.specs.Parse
use Rattle.syntax.specs.Reading
use Rattle.syntax.specs.Sections
use Rattle.words.specs.Words

understanding : Unit {0}
unfolding Words.opened Reading.opened Actions.opened Sections.opened Parse.opened Known.opened Declare.opened Resolve.opened Understand.opened Uses.opened Made.opened Program.opened Past.opened Process.opened
understanding = tt

walking : Unit {0}
unfolding Events.opened OwnWalk.opened Program.opened Made.opened
walking = tt

abbrev plus : Operator
plus = record { token = 2; level = 1; right = false; emits = 0 }

abbrev sums : Level
sums = record { right = false; operators = plus ∷ [] }

-- the rule of the one level, at 2, over the operand rule, at 1
abbrev rules_over : Acts → List Rule
rules_over body =
    record { valued = false; body = plain (call 2) ▸ done } ∷ record { valued = false; body = body }
    ∷ record { valued = false; body = plain (call 1) ▸ cycle (choice by_token (alternative (2 ∷ []) (plain (call 1) ▸ plain (emit 0) ▸ done) nil) (otherwise (plain exit ▸ done)) ▸ done) ▸ done } ∷ []

abbrev begun : Io
begun = record { read = 0; used = 0; allowance = 0; events = [] }

-- one plus between two operands
abbrev sum_of : Operand → Operand → Sum (sums ∷ [])
unfolding emits_of
sum_of x y = leftward 2 0 refl refl (only (operand x)) (operand y)

-- An operand that goes by an operation's answer

abbrev answering : List Rule
answering = rules_over (choice (by_operation 768) (alternative (0 ∷ []) (plain (match 0) ▸ done) (alternative (1 ∷ []) (plain (match 1) ▸ done) nil)) absent ▸ done)

answering-means :
    understood (bytes "input: a b plus; output: add; type Which: one two; mechanism M: which >> Which; operators E: plus 1 left add; rules P: ^E @T; T: [ which | one: a | two: b ]; end")
    ≡ meaning answering
unfolding understanding
answering-means = refl

abbrev one : Operand
one = record { tokens = 0 ∷ []; events = operation 768 ∷ []; answers = 1 }

abbrev two : Operand
two = record { tokens = 1 ∷ []; events = operation 768 ∷ []; answers = 1 }

-- `one plus two`, with the answers 0 and 1
answering-reads : Operands answering (0 ∷ 2 ∷ 1 ∷ []) (0 ∷ 1 ∷ []) 1 1 (sum_of one two) begun
unfolding Operands walking after spent tokens_of events_of answers_of sum_of
answering-reads = (
  record { passes = record { leads = λ q k ps l. calls answering (0 ∷ 2 ∷ 1 ∷ []) (0 ∷ 1 ∷ []) 1 q k ps _ _ (omega arith) (step (step (step (step (step stay))))) } },
  record { passes = record { leads = λ q k ps l. calls answering (0 ∷ 2 ∷ 1 ∷ []) (0 ∷ 1 ∷ []) 1 q k ps _ _ (omega arith) (step (step (step (step (step stay))))) } },
)

-- so by `postfix` it is read whole, and the plus comes behind both operands
answering-sum : Passes answering (0 ∷ 2 ∷ 1 ∷ []) (0 ∷ 1 ∷ []) 2 2 begun (record { read = 3; used = 2; allowance = 0; events = operation 768 ∷ operation 768 ∷ output 0 ∷ [] })
unfolding walking after spent tokens_of events_of answers_of depth_of lowest Stand Apart Clear first operator_of emits_of sum_of Postfix
answering-sum =
    postfix answering (0 ∷ 2 ∷ 1 ∷ []) (0 ∷ 1 ∷ []) (sums ∷ []) 2 1 1 (refl, tt) (λ t v e. tt, tt) (sum_of one two) begun answering-reads [] refl (refl, tt)

-- An operand with a second token that may be missing

abbrev trailing : List Rule
trailing = rules_over (plain (match 0) ▸ choice by_token (alternative (1 ∷ []) done nil) (otherwise done) ▸ done)

trailing-means : understood (bytes "input: a b plus; output: add; operators E: plus 1 left add; rules P: ^E @T; T: a [ | b: | *: ]; end") ≡ meaning trailing
unfolding understanding
trailing-means = refl

abbrev long : Operand
long = record { tokens = 0 ∷ 1 ∷ []; events = []; answers = 0 }

abbrev short : Operand
short = record { tokens = 0 ∷ []; events = []; answers = 0 }

-- `a b plus a`: the first has it, the second not
trailing-reads : Operands trailing (0 ∷ 1 ∷ 2 ∷ 0 ∷ []) [] 1 1 (sum_of long short) begun
unfolding Operands walking after spent tokens_of events_of answers_of sum_of
trailing-reads = (
  record { passes = record { leads = λ q k ps l. calls trailing (0 ∷ 1 ∷ 2 ∷ 0 ∷ []) [] 1 q k ps _ _ (omega arith) (step (step (step (step stay)))) } },
  record { passes = record { leads = λ q k ps l. calls trailing (0 ∷ 1 ∷ 2 ∷ 0 ∷ []) [] 1 q k ps _ _ (omega arith) (step (step (step (step stay)))) } },
)

trailing-sum : Passes trailing (0 ∷ 1 ∷ 2 ∷ 0 ∷ []) [] 2 2 begun (record { read = 4; used = 0; allowance = 0; events = output 0 ∷ [] })
unfolding walking after spent tokens_of events_of answers_of depth_of lowest Stand Apart Clear first operator_of emits_of sum_of Postfix
trailing-sum = postfix trailing (0 ∷ 1 ∷ 2 ∷ 0 ∷ []) [] (sums ∷ []) 2 1 1 (refl, tt) (λ t v e. tt, tt) (sum_of long short) begun trailing-reads [] refl (refl, tt)

-- A right level, and operands that write: `a pow b pow a` is `a pow (b pow a)`

abbrev powers : Level
powers = record { right = true; operators = record { token = 2; level = 1; right = true; emits = 0 } ∷ [] }

abbrev raising : List Rule
raising =
    record { valued = false; body = plain (call 2) ▸ done }
    ∷ record { valued = false; body = choice by_token (alternative (0 ∷ []) (plain (emit 1) ▸ done) (alternative (1 ∷ []) (plain (emit 2) ▸ done) nil)) absent ▸ done }
    ∷ record { valued = false; body = plain (call 1) ▸ choice by_token (alternative (2 ∷ []) (plain (call 2) ▸ plain (emit 0) ▸ done) nil) (otherwise done) ▸ done } ∷ []

raising-means : understood (bytes "input: a b pow; output: power x y; operators E: pow 1 right power; rules P: ^E @T; T: [ | a: .x | b: .y ]; end") ≡ meaning raising
unfolding understanding
raising-means = refl

abbrev tower : List ℕ
tower = 0 ∷ 2 ∷ 1 ∷ 2 ∷ 0 ∷ []

abbrev base : Operand
base = record { tokens = 0 ∷ []; events = output 1 ∷ []; answers = 0 }

abbrev exponent : Operand
exponent = record { tokens = 1 ∷ []; events = output 2 ∷ []; answers = 0 }

abbrev raised : Sum (powers ∷ [])
unfolding emits_of
raised = rightward 2 0 refl refl (operand base) (rightward 2 0 refl refl (operand exponent) (only (operand base)))

raising-reads : Operands raising tower [] 1 1 raised begun
unfolding Operands walking after spent tokens_of events_of answers_of raised
raising-reads = (
  record { passes = record { leads = λ q k ps l. calls raising tower [] 1 q k ps _ _ (omega arith) (step (step (step (step stay)))) } },
  (
    record { passes = record { leads = λ q k ps l. calls raising tower [] 1 q k ps _ _ (omega arith) (step (step (step (step stay)))) } },
    record { passes = record { leads = λ q k ps l. calls raising tower [] 1 q k ps _ _ (omega arith) (step (step (step (step stay)))) } },
  ),
)

-- both powers come behind all three operands; under a left level the first would come behind the second of them
raising-sum : Passes raising tower [] 4 2 begun (record { read = 5; used = 0; allowance = 0; events = output 1 ∷ output 2 ∷ output 1 ∷ output 0 ∷ output 0 ∷ [] })
unfolding walking after spent tokens_of events_of answers_of depth_of lowest Stand Apart Clear first operator_of emits_of raised Postfix
raising-sum = postfix raising tower [] (powers ∷ []) 2 1 1 (refl, tt) (λ t v e. tt, tt) raised begun raising-reads [] refl (refl, tt)

-- the walks themselves, to their ends
walked : (owns answering (0 ∷ 2 ∷ 1 ∷ []) (0 ∷ 1 ∷ []) 23 (own_start answering 0) ≡ stopped finished (record { read = 3; used = 2; allowance = 0; events = operation 768 ∷ operation 768 ∷ output 0 ∷ [] }))
    × (owns trailing (0 ∷ 1 ∷ 2 ∷ 0 ∷ []) [] 23 (own_start trailing 0) ≡ stopped finished (record { read = 4; used = 0; allowance = 0; events = output 0 ∷ [] }))
    × (owns raising tower [] 40 (own_start raising 0) ≡ stopped finished (record { read = 5; used = 0; allowance = 0; events = output 1 ∷ output 2 ∷ output 1 ∷ output 0 ∷ output 0 ∷ [] }))
unfolding walking
walked = (refl, refl, refl)
