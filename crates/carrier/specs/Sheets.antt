-- The rows of a text's rules as the code holds them are those of its source.
use Rattle.std.specs.Prelude.{List, ◌≡◌, ℕ, ◌<◌, ◌≤◌, length}
use Rattle.carry.specs.Carry.{Source, name_of}
use Rattle.program.specs.Table.{place, size_rules}
use Rattle.carrier.specs.Held.{count_held, size_held, number_held, name_held}

pub record Sheet (text sheet : List ℕ) (p : Source) : Type 0 where
  pub few : length p.rules ≤ 128
  pub count : count_held sheet ≡ length p.rules
  pub size : size_held sheet ≡ size_rules p.rules
  pub locations : (i : ℕ) → i < length p.rules → number_held sheet i 0 ≡ place 1 p.rules i
  pub names : (i : ℕ) → i < length p.rules → name_held text sheet i ≡ name_of p.names i
