-- `firmware::read_walk` meets its contract: the definition of the walk that some bytes are, read off.
use mathlib.Core.Path.{◌≡◌, sym, ◌∙◌}
use borrow.Author.Rules.{rules}
use Rattle.base.proofs.Laws.{same_slices}
use Rattle.base.specs.Common.{same}
use Rattle.machine.specs.Form.{walk_bytes}
use Rattle.walker.specs.View as view
use Rattle.firmware.proofs.Walks.{no_walk, is_walk, is-no-walk}
use Rattle.firmware.proofs.read_walk.Goals as goal

pub returns-then-s-ne-WALK_BYTES : goal.returns-then-s-ne-WALK_BYTES
returns-then-s-ne-WALK_BYTES c = record { walk = tt; no_walk = no_walk c.args.s.now (λ i. (c.shared_slice_known-1.given i).fits) c.if-s-ne-WALK_BYTES.true }

pub returns-then-eq : goal.returns-then-eq
returns-then-eq c =
    let s = c.args.s.now in
    let v = view.walk_of c.named-walk.result in
    let e : c.eq.result ≡ same (walk_bytes v) s = rw (c.put_walk.ensures, same_slices (walk_bytes v) s) at c.eq.ensures in
    record { walk = record { walk = is_walk s v c.named-walk.ensures.0 (sym e ∙ c.if-eq.true); location = c.named-walk.ensures.1; returns = search rules }; no_walk = tt }

pub returns-else-eq : goal.returns-else-eq
returns-else-eq c =
    let s = c.args.s.now in
    let v = view.walk_of c.named-walk.result in
    let e : c.eq.result ≡ same (walk_bytes v) s = rw (c.put_walk.ensures, same_slices (walk_bytes v) s) at c.eq.ensures in
    record { walk = tt; no_walk = is-no-walk s v c.named-walk.ensures.0 (sym e ∙ c.if-eq.false) }
