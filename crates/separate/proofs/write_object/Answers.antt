-- `separate::write_object` meets its contract.
use mathlib.Core.Path.{◌≡◌, refl, ◌∙◌}
use lib.ListN.{length}
use native.Mathlib.Omega.{arith}
use Rattle.separate.proofs.Objects.{fault-of, whole_of}
use Rattle.separate.proofs.write_object.Goals as goal

pub returns-then-r-ne0 : goal.returns-then-r-ne0
returns-then-r-ne0 c = record { writes = λ s o names m i k q. fault-of c.args.p s k c.write_rules-r.ensures c.if-r-ne0.true (record { number_is = c.unwritten.ensures.0; text_is = c.unwritten.ensures.1; start_is = c.unwritten.ensures.2 ∙ c.saturating_sub.ensures; len_is = c.unwritten.ensures.3 }) }

pub returns : goal.returns
returns c =
    let e : length c.set_sizes.new.object ≡ length c.args.object.now = omega arith in
    record { writes = λ s o names m i k q. whole_of c.args.p s k _ o m i q c.put_front-a.ensures refl refl c.put_uses-b.ensures c.write_rules-r.ensures c.if-r-ne0.false c.set_sizes.ensures e refl refl c.requires.0 }
