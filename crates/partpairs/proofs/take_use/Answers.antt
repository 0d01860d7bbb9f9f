-- `partpairs::take_use` meets its contract.
use native.Mathlib.Omega.{arith}
use mathlib.Core.Path.{refl, sym, ◌∙◌}
use Rattle.partpairs.proofs.Taking.{use-missing, use-again, use-full, use-added}
use Rattle.partpairs.proofs.take_use.Goals as goal

pub returns-in_default : goal.returns-in_default
returns-in_default c = use-missing c.requires.5 c.read_use.ensures c.in_default.is

pub returns-then-is_some : goal.returns-then-is_some
returns-then-is_some c = use-again c.requires.5 (rw c.in-Some.is at c.read_use.ensures) c.look_pair.ensures.same (sym c.is_some.ensures ∙ c.if-is_some.true)

pub returns-then-k-ge-PART_PAIRS : goal.returns-then-k-ge-PART_PAIRS
returns-then-k-ge-PART_PAIRS c = use-full c.requires.5 (rw c.in-Some.is at c.read_use.ensures) c.look_pair.ensures.same (sym c.is_some.ensures ∙ c.if-is_some.false) c.number-k.ensures.0 c.if-k-ge-PART_PAIRS.true

pub add_pair-requires : goal.add_pair-requires
add_pair-requires c = let l = (rw c.in-Some.is at c.read_use.ensures).low in (omega (arith, c.requires.1, c.if-k-ge-PART_PAIRS.false), omega (arith, c.if-k-ge-PART_PAIRS.false), omega (arith, l.0, c.requires.3.few), omega (arith, l.1, c.requires.3.few), omega (arith, c.requires.4, c.if-k-ge-PART_PAIRS.false))

pub returns : goal.returns
returns c = use-added (rw c.in-Some.is at c.read_use.ensures) c.look_pair.ensures.same (sym c.is_some.ensures ∙ c.if-is_some.false) c.number-k.ensures.0 c.if-k-ge-PART_PAIRS.false c.requires.2 c.add_pair.ensures refl
