-- Actions of a part, resolved by themselves.
use Rattle.std.specs.Prelude.{Bool, ◌&&◌, ◌||◌, List, [], ℕ, length}
use Rattle.builder.specs.Parts.{Kept, place_of}
use Rattle.cells.specs.Cells.{acts_cells}
use Rattle.grammar.specs.Derived.{ActsIn}
use Rattle.names.specs.Known.{Names}
use Rattle.names.specs.Resolve.{acts_of}
use Rattle.names.specs.Uses.{pairs_of}
use Rattle.partpairs.specs.Numbers.{Numbered}
use Rattle.parts.specs.Objects.{open_rules, open_names, together}
use Rattle.program.specs.Past.{past_all, exits_all}
use Rattle.resolver.specs.Resolved.{BuiltTold, Ends, Flags}
use Rattle.symbols.specs.Rows.{held}
use Rattle.syntax.specs.Texts.{Common}
use Rattle.syntax.specs.Written as written
use Rattle.words.specs.Words.{Word, words_at}

-- as `ActsDone` of crate builder, for the rules rs of a part of the common part c: the outcome is that of `open_rule`, and the cells rest on the part's
-- pairs, which are numbered behind the names of rules
pub record OpenActs (c : Common) (names : Names) (rs : List written.Rule) (text rows : List ℕ) (n at : ℕ) (inside : Bool) (class : ℕ) (before some : Bool) (cs : List ℕ)
    (k : ℕ) (cs' : List ℕ) (r : BuiltTold)
    : Type 0 where
  pub kept : Kept text at cs cs' r.done
  pub done : (q : written.Acts) (ws : List Word) → ActsIn (words_at text at) ws q
      → Ends (Numbered text rows n (length (together c rs).rules) (pairs_of rs)) text ws cs k cs' (λ b. acts_cells b [])
      (λ b. Flags r.past r.exits (before && past_all b) (some || exits_all b)) r.done
      (acts_of (together c rs) (open_names names) (open_rules c.listed rs) q (place_of (held text rows n) inside class))
