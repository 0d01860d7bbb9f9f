-- Finishing as it was while a path ignored returned values: one through a rule choice took any alternative of it. Kept for the one theorem that
-- compares, `StillFinishing`.
use Rattle.std.specs.Prelude.{List, ℕ, ◌<◌, length}
use Rattle.base.specs.Tree.{plain, cycle, choice, done, ◌▸◌, alternative, otherwise}
use Rattle.finishing.specs.Finishing.{Way, to_end, to_exit, to_back, to_give, to_call, Away, Far, Returns, Finishing}
use Rattle.program.specs.Program.{emit, error, exit, call, back, give, update, update_with, Selector, by_token, by_rule, by_operation, by_operation_with, Act, Acts, Alts, Other, Rule, body_of}

module _ (prog : List Rule) where
  mutual
    -- "A path takes any alternative and ignores answers and returned values .. It is quiet if it reads no token": a quiet path from
    -- an action's start. A match and `?` have none.
    pub data Path : Way → Act → Type 0 where
      path_emit : {t : ℕ} → Path to_end (plain (emit t))
      path_error : {t : ℕ} → Path to_end (plain (error t))
      path_update : {op : ℕ} → Path to_end (plain (update op))
      path_update_with : {op v : ℕ} → Path to_end (plain (update_with op v))
      path_call : {r : ℕ} → Passed r → Path to_end (plain (call r))
      path_calls : {r : ℕ} → Path (to_call r) (plain (call r))
      path_exit : Path to_exit (plain exit)
      path_back : Path to_back (plain back)
      path_give : {v : ℕ} → Path (to_give v) (plain (give v))
      path_out : {b : Acts} → Paths to_exit b → Path to_end (cycle b)
      path_around : {w : Way} {b : Acts} → Paths to_end b → Path w (cycle b) → Path w (cycle b)
      path_in : {w : Way} {b : Acts} → Far w → Paths w b → Path w (cycle b)
      path_selects : {r : ℕ} {q : Alts} {o : Other} → Path (to_call r) (choice (by_rule r) q o)
      path_labelled : {w : Way} {s : Selector} {q : Alts} {o : Other} → Opens s → PathsSome w q → Path w (choice s q o)
      path_otherwise : {w : Way} {s : Selector} {q : Alts} {b : Acts} → OpensElse s → Paths w b → Path w (choice s q (otherwise b))

    -- the same of actions in a row
    pub data Paths : Way → Acts → Type 0 where
      paths_done : Paths to_end done
      paths_here : {w : Way} {a : Act} {q : Acts} → Away w → Path w a → Paths w (a ▸ q)
      paths_later : {w : Way} {a : Act} {q : Acts} → Path to_end a → Paths w q → Paths w (a ▸ q)

    -- through one labelled alternative: "a choice without otherwise has only its labelled ones"
    pub data PathsSome : Way → Alts → Type 0 where
      paths_this : {w : Way} {ls : List ℕ} {b : Acts} {q : Alts} → Paths w b → PathsSome w (alternative ls b q)
      paths_that : {w : Way} {ls : List ℕ} {b : Acts} {q : Alts} → PathsSome w q → PathsSome w (alternative ls b q)

    -- quietly through the selector to a labelled alternative; one of an input choice reads a token
    pub data Opens : Selector → Type 0 where
      opens_operation : {op : ℕ} → Opens (by_operation op)
      opens_operation_with : {op v : ℕ} → Opens (by_operation_with op v)
      opens_rule : {r : ℕ} → Passed r → Opens (by_rule r)

    -- quietly through the selector to otherwise
    pub data OpensElse : Selector → Type 0 where
      else_token : OpensElse by_token
      else_opens : {s : Selector} → Opens s → OpensElse s

    -- "A called rule is passed quietly if it has a quiet path to a return."
    pub data Passed : ℕ → Type 0 where
      passed : {w : Way} {r : ℕ} → r < length prog → Returns w → Paths w (body_of prog r) → Passed r

  -- "no rule can quietly come to a call of itself, directly or through others": rule r comes to a call of rule s
  pub data Comes : ℕ → ℕ → Type 0 where
    directly : {r s : ℕ} → r < length prog → Paths (to_call s) (body_of prog r) → Comes r s
    through : {r s t : ℕ} → Comes r s → Comes s t → Comes r t

  mutual
    -- a cycle with a quiet path from its start to its end stands somewhere in the action
    pub data Loop : Act → Type 0 where
      loop_here : {b : Acts} → Paths to_end b → Loop (cycle b)
      loop_in : {b : Acts} → Loops b → Loop (cycle b)
      loop_labelled : {s : Selector} {q : Alts} {o : Other} → LoopsSome q → Loop (choice s q o)
      loop_otherwise : {s : Selector} {q : Alts} {b : Acts} → Loops b → Loop (choice s q (otherwise b))

    pub data Loops : Acts → Type 0 where
      loops_here : {a : Act} {q : Acts} → Loop a → Loops (a ▸ q)
      loops_later : {a : Act} {q : Acts} → Loops q → Loops (a ▸ q)

    pub data LoopsSome : Alts → Type 0 where
      loops_this : {ls : List ℕ} {b : Acts} {q : Alts} → Loops b → LoopsSome (alternative ls b q)
      loops_that : {ls : List ℕ} {b : Acts} {q : Alts} → LoopsSome q → LoopsSome (alternative ls b q)

  pub record FinishingBefore : Type 0 where
    pub cycles : (r : ℕ) → r < length prog → Loops (body_of prog r) → ⊥
    pub rules : (r : ℕ) → Comes r r → ⊥

-- "every program that was finishing still is" (02, A.3), for one program; proved of each in proofs/Wider.antt
unfoldable pub StillFinishing : List Rule → Type 0
StillFinishing prog = FinishingBefore prog → Finishing prog
