-- `symbols::bucket` meets its contract.
use mathlib.Core.Path.{◌≡◌}
use Prim.Native.Nat.{◌<◌}
use lib.ListN.{drop}
use Rattle.symbols.specs.Index.{hash_from, seed_of}
use Rattle.symbols.proofs.bucket.Given as goal

abbrev pub invariant-loop-b : goal.invariant-loop-b
invariant-loop-b l = (l.h < 281474976710656) × (hash_from l.key l.h (drop l.b-index l.word) ≡ hash_from l.key (seed_of l.class) l.word)
