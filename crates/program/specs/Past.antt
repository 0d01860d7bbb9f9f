-- "A choice rule may not reach its final semicolon": what goes past itself.
use Rattle.std.specs.Prelude.{Bool, true, false, ◌&&◌, ◌||◌}
use Rattle.base.specs.Tree.{plain, cycle, choice, done, ◌▸◌, nil, alternative, absent, otherwise}
use Rattle.program.specs.Program.{Plain, match, any, emit, error, exit, call, back, give, update, update_with, Act, Acts, Alts, Other}

-- "`>>` and `>` never go past themselves"
unfoldable pub plain_past : Plain → Bool
plain_past (match t) = true
plain_past any = true
plain_past (emit t) = true
plain_past (error t) = true
plain_past exit = false
plain_past (call r) = true
plain_past back = false
plain_past (give v) = false
plain_past (update op) = true
plain_past (update_with op v) = true

unfoldable pub is_exit : Plain → Bool
is_exit (match t) = false
is_exit any = false
is_exit (emit t) = false
is_exit (error t) = false
is_exit exit = true
is_exit (call r) = false
is_exit back = false
is_exit (give v) = false
is_exit (update op) = false
is_exit (update_with op v) = false

-- some `>` in it belongs to the cycle around it, reached or not
unfoldable mutual
  pub exits : Act → Bool
  exits (plain p) = is_exit p
  exits (cycle b) = false
  exits (choice s q o) = exits_some q || exits_other o

  pub exits_all : Acts → Bool
  exits_all done = false
  exits_all (a ▸ q) = exits a || exits_all q

  pub exits_some : Alts → Bool
  exits_some nil = false
  exits_some (alternative ls b q) = exits_all b || exits_some q

  pub exits_other : Other → Bool
  exits_other absent = false
  exits_other (otherwise b) = exits_all b

-- "a cycle goes past if some `>` belongs to it; a choice if some alternative does; a list if each of its actions does"
unfoldable mutual
  pub past : Act → Bool
  past (plain p) = plain_past p
  past (cycle b) = exits_all b
  past (choice s q o) = past_some q || past_other o

  pub past_all : Acts → Bool
  past_all done = true
  past_all (a ▸ q) = past a && past_all q

  pub past_some : Alts → Bool
  past_some nil = false
  past_some (alternative ls b q) = past_all b || past_some q

  pub past_other : Other → Bool
  past_other absent = false
  past_other (otherwise b) = past_all b

-- all of this file computes where this is unfolded
unfoldable pub opened : Unit {0}
unfolding plain_past is_exit exits past
opened = tt
