use borrow.Author.Rules.{rules}
use mathlib.Core.Path.{◌≡◌, ◌∙◌}
use Prim.Native.Nat.{◌+◌}
use lib.ListN.{get_or}
use Rattle.meter.proofs.Words.{end-read}
use Rattle.meter.proofs.end_of.Goals as goal

pub returns : goal.returns
returns c =
    let e : c.unwrap_or.result ≡ get_or c.args.starts.now (c.args.r + 1) (c.args.size + 1) = search rules in
    e ∙ end-read c.args.size c.args.r c.args.starts.now
