-- `collector::collect_entries` meets its contract.
use mathlib.Core.Path.{◌≡◌}
use mathlib.Core.List.{List}
use Prim.Native.Nat.{ℕ, ◌-◌, ◌≤◌}
use lib.ListN.{length}
use Rattle.collector.specs.Collecting.{SomeEntries}
use Rattle.collector.specs.declared.Entries.{Entries}
use Rattle.grammar.specs.Derived.{EntriesIn}
use Rattle.words.specs.Words.{words_at}
use Rattle.collector.proofs.collect_entries.Given as goal

abbrev pub invariant-loop-e : goal.invariant-loop-e
invariant-loop-e l = (l.at ≤ l.i) × (l.i ≤ length l.text) × (l.n ≤ 512) × (length l.rows ≡ length l.initial.rows) × ((rows' : List ℕ) (r : Entries) → SomeEntries (EntriesIn l.strings l.next (words_at l.text l.i)) l.text l.rows rows' l.i l.n l.class l.most r → SomeEntries (EntriesIn l.strings l.v (words_at l.text l.at)) l.text l.initial.rows rows' l.at l.count l.class 0 r)

abbrev pub decreases-loop-e : goal.decreases-loop-e
decreases-loop-e l = length l.text - l.i
