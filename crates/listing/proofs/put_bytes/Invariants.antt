-- `listing::put_bytes` meets its contract: what is left to write gives the whole.
use mathlib.Core.Path.{◌≡◌}
use Prim.Native.Nat.{◌+◌}
use lib.ListN.{drop}
use Rattle.listing.proofs.Laws.{Left}
use Rattle.listing.proofs.put_bytes.Given as goal

abbrev pub invariant-loop-byte : goal.invariant-loop-byte
invariant-loop-byte l = (l.next ≡ l.at + l.byte-index) × Left l.s l.initial.out l.at (drop l.byte-index l.s) l.out l.next
