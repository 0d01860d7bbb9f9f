use native.Mathlib.Omega.{arith}
use lib.ListN.{get_or}
use Prim.Native.Nat.{ℕ, ◌<◌}
use borrow.Author.Tests.{not-true, not-false}
use Rattle.linking.proofs.Answers.{no_bytes, one-fault, sound, rules-linked, few-good}
use borrow.Author.Rules.{rules}
use Rattle.linking.proofs.link_objects.Goals as goal

pub overflow_add-o : goal.overflow_add-o
overflow_add-o c = omega (arith, few-good c.args.objects.now c.check-o.result.good c.check-o.ensures.few (search rules))

pub returns-then-not-o : goal.returns-then-not-o
returns-then-not-o c = let p = c.requires.1 in let low : (i : ℕ) → get_or c.args.objects.now i 0 < 256 = λ i. (c.shared_slice_known-3-1.given i).fits in let w = c.check-o.ensures.whole p.common_is.listed p.names p.heads_are p.rowed.found in no_bytes _ p.rowed low w (not-true _ c.if-not-o.true) (c.check-o.ensures.counted p.common_is.listed p.names p.heads_are p.rowed.found) c.refuse.ensures

pub returns-in-Some : goal.returns-in-Some
returns-in-Some c = let p = c.requires.1 in let low : (i : ℕ) → get_or c.args.objects.now i 0 < 256 = λ i. (c.shared_slice_known-3-1.given i).fits in let w = c.check-o.ensures.whole p.common_is.listed p.names p.heads_are p.rowed.found in one-fault _ p.rowed low w (not-false _ c.if-not-o.false) (λ h. c.in-Some.ensures p.common_is p.names h p.heads_are p.rowed.room) c.refuse-in-Some.ensures

pub link_rules-requires : goal.link_rules-requires
link_rules-requires c = let p = c.requires.1 in let low : (i : ℕ) → get_or c.args.objects.now i 0 < 256 = λ i. (c.shared_slice_known-3-1.given i).fits in let w = c.check-o.ensures.whole p.common_is.listed p.names p.heads_are p.rowed.found in (c.requires.0, sound _ p.rowed low w (not-false _ c.if-not-o.false) (λ h. c.in-None.ensures p.common_is p.names h p.heads_are p.rowed.room))

pub returns-in-None : goal.returns-in-None
returns-in-None c = let p = c.requires.1 in let low : (i : ℕ) → get_or c.args.objects.now i 0 < 256 = λ i. (c.shared_slice_known-3-1.given i).fits in let w = c.check-o.ensures.whole p.common_is.listed p.names p.heads_are p.rowed.found in rules-linked _ p.rowed low w (not-false _ c.if-not-o.false) (λ h. c.in-None.ensures p.common_is p.names h p.heads_are p.rowed.room) c.link_rules.ensures
