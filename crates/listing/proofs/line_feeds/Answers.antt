-- `listing::line_feeds` meets its contract: std's count is the definition's.
use borrow.Author.Rules.{rules}
use mathlib.Core.Path.{◌≡◌, sym, ◌∙◌}
use Prim.Native.Nat.{ℕ}
use lib.Dec.{eqb}
use Rattle.std.specs.Prelude.{count_by}
use Rattle.listing.proofs.Lines.{feeds-counted}
use Rattle.listing.proofs.line_feeds.Goals as goal

pub returns-clause-value : goal.returns-clause-value
returns-clause-value c =
    let e : c.count.result ≡ count_by (λ (b : ℕ). eqb b 10) c.args.text.now = search rules in
    e ∙ sym (feeds-counted c.args.text.now)
