-- `objects::past_names` meets its contract: a name at a turn; what ends behind those left ends behind all.
use Prim.Native.Nat.{◌-◌, ◌≤◌}
use lib.ListN.{length}
use Rattle.machine.specs.Bytes.{words_of}
use Rattle.objects.proofs.Ends.{Left}
use Rattle.objects.specs.View.{a_name}
use Rattle.objects.proofs.past_names.Given as goal

abbrev pub invariant-loop : goal.invariant-loop
invariant-loop l = (l.p ≤ length (words_of l.objects)) × Left a_name (words_of l.objects) l.n l.at (l.n - l.counter) l.p
