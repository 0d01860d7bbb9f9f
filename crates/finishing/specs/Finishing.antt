-- "A program is finishing exactly if no cycle has a quiet path from its start to its end and no rule can quietly come to a call of
-- itself, directly or through others. All rules count, called or not."
--
-- A picture: a rule that breaks lines, and its quiet paths, each with the constructors that say so. `fits` is an operation, Foot a rule that gives `some` or `none`
-- without a token read.
--
--     Lines:
--       {  [ fits                   opens_operation: an operation's answer is any, so each alternative is open
--            | yes: ? .line         `?` reads a token: no path
--            | no: .page > ]        path_labelled (paths_that ..): .page (path_emit), then to_exit (path_exit)
--       }                           path_out: a path of the cycle to its end; `loop_here` has none, since no path comes to the body's end
--       [ @Foot                     path_selects: to_call Foot
--            | some: .mark          path_named: Foot gives `some` (Gives), so through .mark to the end
--            | *: ]                 path_unnamed: Foot gives `none`, which no label names
--       ;                           by_end: a quiet path to the rule's return, so a call of Lines is passed quietly (Passed)
--
-- With `yes: .line` for `yes: ? .line` the body has a path to its end: `loop_here`, and the program is not finishing. With @Lines in Foot before a token is
-- read, Lines comes to Foot and Foot to Lines: `through`, and it is not finishing either.
use Rattle.std.specs.Prelude.{Bool, true, false, ◌||◌, List, ◌≡◌, ℕ, ◌<◌, length}
use Rattle.base.specs.Common.{member}
use Rattle.base.specs.Tree.{plain, cycle, choice, done, ◌▸◌, nil, alternative, otherwise}
use Rattle.program.specs.Program.{emit, error, exit, call, back, give, update, update_with, Selector, by_token, by_rule, by_operation, by_operation_with, Act, Acts, Alts, Other, Rule, body_of}

-- where a path comes to: the end of what it began in, an exit of the cycle around that, a return without a value, one with its
-- value, a call of a rule
pub data Way : Type 0 where
  to_end to_exit to_back : Way
  to_give to_call : ℕ → Way

-- ways that leave a list of actions before its end
pub data Away : Way → Type 0 where
  away_exit : Away to_exit
  away_back : Away to_back
  away_give : {v : ℕ} → Away (to_give v)
  away_call : {r : ℕ} → Away (to_call r)

-- ways on which a path stops inside a cycle
pub data Far : Way → Type 0 where
  far_back : Far to_back
  far_give : {v : ℕ} → Far (to_give v)
  far_call : {r : ℕ} → Far (to_call r)

-- ways on which a rule returns: its end (a procedure rule ends in a return), or a `>>`
pub data Returns : Way → Type 0 where
  by_end : Returns to_end
  by_back : Returns to_back
  by_give : {v : ℕ} → Returns (to_give v)

-- some label of the alternatives names the value
unfoldable pub named : ℕ → Alts → Bool
named v nil = false
named v (alternative ls b q) = member v ls || named v q

-- quietly through the selector to any labelled alternative: an operation's answer is any; one of an input choice reads a token, and a
-- rule choice goes by the rule's value
pub data Opens : Selector → Type 0 where
  opens_operation : {op : ℕ} → Opens (by_operation op)
  opens_operation_with : {op v : ℕ} → Opens (by_operation_with op v)

-- quietly through the selector to otherwise, whatever the labels
pub data OpensElse : Selector → Type 0 where
  else_token : OpensElse by_token
  else_opens : {s : Selector} → Opens s → OpensElse s

module _ (prog : List Rule) where
  mutual
    -- "A path takes any alternative and ignores answers .. It is quiet if it reads no token": a quiet path from an action's start. A match
    -- and `?` have none. Of a rule choice the last two say (02, A.3): "A quiet path through a rule choice shall take only the alternative that
    -- matches a value which the rule can return quietly, and otherwise if it can quietly return a value that no label names."
    pub data Path : Way → Act → Type 0 where
      path_emit : {t : ℕ} → Path to_end (plain (emit t))
      path_error : {t : ℕ} → Path to_end (plain (error t))
      path_update : {op : ℕ} → Path to_end (plain (update op))
      path_update_with : {op v : ℕ} → Path to_end (plain (update_with op v))
      path_call : {r : ℕ} → Passed r → Path to_end (plain (call r))
      path_calls : {r : ℕ} → Path (to_call r) (plain (call r))
      path_exit : Path to_exit (plain exit)
      path_back : Path to_back (plain back)
      path_give : {v : ℕ} → Path (to_give v) (plain (give v))
      path_out : {b : Acts} → Paths to_exit b → Path to_end (cycle b)
      path_around : {w : Way} {b : Acts} → Paths to_end b → Path w (cycle b) → Path w (cycle b)
      path_in : {w : Way} {b : Acts} → Far w → Paths w b → Path w (cycle b)
      path_selects : {r : ℕ} {q : Alts} {o : Other} → Path (to_call r) (choice (by_rule r) q o)
      path_labelled : {w : Way} {s : Selector} {q : Alts} {o : Other} → Opens s → PathsSome w q → Path w (choice s q o)
      path_otherwise : {w : Way} {s : Selector} {q : Alts} {b : Acts} → OpensElse s → Paths w b → Path w (choice s q (otherwise b))
      path_named : {w : Way} {r v : ℕ} {q : Alts} {o : Other} → Gives r v → PathsFor v w q → Path w (choice (by_rule r) q o)
      path_unnamed : {w : Way} {r v : ℕ} {q : Alts} {b : Acts} → Gives r v → named v q ≡ false → Paths w b → Path w (choice (by_rule r) q (otherwise b))

    -- the same of actions in a row
    pub data Paths : Way → Acts → Type 0 where
      paths_done : Paths to_end done
      paths_here : {w : Way} {a : Act} {q : Acts} → Away w → Path w a → Paths w (a ▸ q)
      paths_later : {w : Way} {a : Act} {q : Acts} → Path to_end a → Paths w q → Paths w (a ▸ q)

    -- through one labelled alternative: "a choice without otherwise has only its labelled ones"
    pub data PathsSome : Way → Alts → Type 0 where
      paths_this : {w : Way} {ls : List ℕ} {b : Acts} {q : Alts} → Paths w b → PathsSome w (alternative ls b q)
      paths_that : {w : Way} {ls : List ℕ} {b : Acts} {q : Alts} → PathsSome w q → PathsSome w (alternative ls b q)

    -- through an alternative that a value matches
    pub data PathsFor : ℕ → Way → Alts → Type 0 where
      for_this : {v : ℕ} {w : Way} {ls : List ℕ} {b : Acts} {q : Alts} → member v ls ≡ true → Paths w b → PathsFor v w (alternative ls b q)
      for_that : {v : ℕ} {w : Way} {ls : List ℕ} {b : Acts} {q : Alts} → PathsFor v w q → PathsFor v w (alternative ls b q)

    -- rule r can quietly return the value v
    pub data Gives : ℕ → ℕ → Type 0 where
      gives : {r v : ℕ} → r < length prog → Paths (to_give v) (body_of prog r) → Gives r v

    -- "A called rule is passed quietly if it has a quiet path to a return."
    pub data Passed : ℕ → Type 0 where
      passed : {w : Way} {r : ℕ} → r < length prog → Returns w → Paths w (body_of prog r) → Passed r

  -- "no rule can quietly come to a call of itself, directly or through others": rule r comes to a call of rule s
  pub data Comes : ℕ → ℕ → Type 0 where
    directly : {r s : ℕ} → r < length prog → Paths (to_call s) (body_of prog r) → Comes r s
    through : {r s t : ℕ} → Comes r s → Comes s t → Comes r t

  mutual
    -- a cycle with a quiet path from its start to its end stands somewhere in the action
    pub data Loop : Act → Type 0 where
      loop_here : {b : Acts} → Paths to_end b → Loop (cycle b)
      loop_in : {b : Acts} → Loops b → Loop (cycle b)
      loop_labelled : {s : Selector} {q : Alts} {o : Other} → LoopsSome q → Loop (choice s q o)
      loop_otherwise : {s : Selector} {q : Alts} {b : Acts} → Loops b → Loop (choice s q (otherwise b))

    pub data Loops : Acts → Type 0 where
      loops_here : {a : Act} {q : Acts} → Loop a → Loops (a ▸ q)
      loops_later : {a : Act} {q : Acts} → Loops q → Loops (a ▸ q)

    pub data LoopsSome : Alts → Type 0 where
      loops_this : {ls : List ℕ} {b : Acts} {q : Alts} → Loops b → LoopsSome (alternative ls b q)
      loops_that : {ls : List ℕ} {b : Acts} {q : Alts} → LoopsSome q → LoopsSome (alternative ls b q)

  pub record Finishing : Type 0 where
    pub cycles : (r : ℕ) → r < length prog → Loops (body_of prog r) → ⊥
    pub rules : (r : ℕ) → Comes r r → ⊥
