-- `verdict::tried` meets its contract: the laws of one look.
use mathlib.Core.Bool.{◌||◌}
use native.Mathlib.Omega.{arith}
use lib.ListN.{length}
use Rattle.verdict.specs.Told.{known_in, RuleTold, Joined}
use Rattle.verdict.proofs.Looking.{look-told}
use Rattle.verdict.proofs.tried.Goals as goal

pub grown-count-requires : goal.grown-count-requires
grown-count-requires c = (c.requires.1, omega arith)

pub returns : goal.returns
returns c =
    let a = c.args in
    let w = c.rule-w in
    let n = c.grown-count in
    let told : RuleTold a.cells.now a.starts.now a.r (known_in a.k.passed a.facts.now a.k.count) a.wanted.now c.rule-w.result = rw c.wide.ensures.0 at c.rule-w.ensures in
    let joined : Joined a.k.passed a.r (c.rule-w.result.end || c.rule-w.result.ret) c.joined.result = rw c.wide-2.ensures.0 at c.joined.ensures in
    record {
      told = λ from to gt. look-told a.cells.now a.starts.now a.r a.k a.facts.now a.wanted.now (record { count = length a.wanted.now; next = a.at }) c.rule-w.result c.grown-count.new.facts c.grown-count.result c.joined.result c.requires.0 told c.grown-count.ensures joined from to c.requires.2 gt;
    }
