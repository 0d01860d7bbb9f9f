-- An accepted program's numbers are words.
use mathlib.Core.Bool.{Bool, true, false}
use mathlib.Core.List.{List, [], ◌∷◌}
use Prim.Native.Nat.{ℕ, ◌<◌, ◌≤◌}
use native.Mathlib.Omega.{arith}
use lib.ListN.{length, get_or}
use Rattle.base.specs.Tree.{plain, cycle, choice, done, ◌▸◌, nil, alternative, absent, otherwise}
use Rattle.program.specs.Accepted.{Values, OkPlain, OkSelector, Ok, Oks, OkAlts, OkOther, Accepted}
use Rattle.program.specs.Program.{Plain, match, any, emit, error, exit, call, back, give, update, update_with, Selector, by_token, by_rule, by_operation, by_operation_with, Act, Acts, Alts, Other, Rule, rule_of, body_of}
use Rattle.program.specs.Table.{size_rules, table}
use Rattle.program.proofs.Bounds.{Word, All, all_nil, all_cons, SmallPlain, SmallSelector, Small, Smalls, SmallAlts, SmallOther, SmallRule, SmallProgram, table-word}

small-labels : (ls : List ℕ) → Values ls → All Word ls
unfolding Values
small-labels [] g = all_nil
small-labels (v ∷ ls) g = all_cons v g.0 (small-labels ls g.1)

module _ (prog : List Rule) where
  small_plain : (p : Plain) (v c : Bool) → OkPlain prog p v c → SmallPlain (length prog) p
  unfolding OkPlain SmallPlain
  small_plain (match t) v c g = g
  small_plain any v c g = tt
  small_plain (emit t) v c g = g
  small_plain (error t) v c g = g
  small_plain exit v c g = tt
  small_plain (call r) v c g = g.there
  small_plain back v c g = tt
  small_plain (give w) v c g = g.1
  small_plain (update op) v c g = omega arith
  small_plain (update_with op w) v c g = omega arith

  small-selector : (s : Selector) → OkSelector prog s → SmallSelector (length prog) s
  unfolding OkSelector SmallSelector
  small-selector by_token g = tt
  small-selector (by_rule r) g = g.there
  small-selector (by_operation op) g = omega arith
  small-selector (by_operation_with op w) g = omega arith

  mutual
    unfolding Ok Small

    small : (a : Act) (v c : Bool) → Ok prog a v c → Small (length prog) a
    small (plain p) v c g = small_plain p v c g
    small (cycle b) v c g = smalls b v true g
    small (choice s q o) v c g = (small-selector s g.0, small-alts q v c g.1, small-other o v c g.2)

    smalls : (q : Acts) (v c : Bool) → Oks prog q v c → Smalls (length prog) q
    smalls done v c g = tt
    smalls (a ▸ q) v c g = (small a v c g.0, smalls q v c g.1)

    small-alts : (q : Alts) (v c : Bool) → OkAlts prog q v c → SmallAlts (length prog) q
    small-alts nil v c g = tt
    small-alts (alternative ls b q) v c g = (small-labels ls g.0, smalls b v c g.1, small-alts q v c g.2)

    small-other : (o : Other) (v c : Bool) → OkOther prog o v c → SmallOther (length prog) o
    small-other absent v c g = tt
    small-other (otherwise b) v c g = smalls b v c g

  pub accepted-small : Accepted prog → SmallProgram prog
  unfolding SmallProgram SmallRule body_of
  accepted-small a r l = smalls (body_of prog r) (rule_of prog r).valued false (a.in_order r l)

  pub accepted-word : Accepted prog → size_rules prog ≤ 4096 → (i : ℕ) → get_or (table prog) i 0 < 65536
  accepted-word a = table-word prog (accepted-small a)
