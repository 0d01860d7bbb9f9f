-- A walk carried by rows and tables: what `carry_walk` promises.
use Rattle.std.specs.Prelude.{List, ◌++◌, ◌≡◌, ℕ, ◌<◌, length}
use Rattle.carry.proofs.Lists.{Distinct}
use Rattle.carry.specs.Carry.{Source, Carried, carried, stays, carry_place, carry_places, put_at}
use Rattle.machine.specs.Bytes.{words_of}
use Rattle.program.specs.Accepted.{Accepted}
use Rattle.program.specs.Table.{table}
use Rattle.walker.specs.View as view
use Rattle.walker.specs.declared.Walk.{Walk}
use Rattle.carrier.specs.Sheets.{Sheet}
use Rattle.std.specs.Prelude.{Option, Some, None, IfSome}

-- rows and table of an accepted program: the sheet is that of its rules, and the bytes begin with its table
pub record Stands (text sheet bytes : List ℕ) (p : Source) : Type 0 where
  pub rows : Sheet text sheet p
  pub accepts : Accepted p.rules
  pub distinct : Distinct p.names
  pub named : length p.names ≡ length p.rules
  pub more : List ℕ
  pub words : words_of bytes ≡ table p.rules ++ more

-- "then 52 for a rule in progress that differs or is gone, or a place in no rule"
unfoldable pub carried_by : Option Walk → Carried
carried_by None = stays 52
carried_by (Some walk) = carried (view.walk_of walk)

-- "A walk is carried .. to the new table where the rule it is in, and every rule on its return stack, has the same words as before", "with all else it holds kept"
pub record CarriesWalk (a b old sheet new other : List ℕ) (walk : Walk) (r : Option Walk) : Type 0 where
  pub location : IfSome r (λ w. w.at.location < 65536)
  pub is : {p q : Source} → Stands old sheet a p → Stands new other b q
      → carried_by r ≡ put_at (view.walk_of walk) (carry_place p q walk.at.location) (carry_places p q (view.walk_of walk).returns)
