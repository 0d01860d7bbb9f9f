-- `linkpairs::operand_at` meets its contract: behind the section's name stands the operand rule's.
use mathlib.Core.Path.{◌≡◌}
use native.Mathlib.Omega.{arith}
use Prim.Native.Nat.{ℕ, ◌+◌, ◌<◌, ◌≤◌}
use lib.ListN.{length}
use mathlib.Core.List.{List}
use Rattle.std.specs.Prelude.{Option, Some, None, IfSome, unwrap_or}
use Rattle.objects.specs.Places.{Ends}
use Rattle.objects.specs.View.{a_name}
use Rattle.names.specs.Uses.{Use}
use Rattle.linkpairs.proofs.Standing.{operand-name}
use Rattle.linkpairs.specs.Standing.{PairAt, OperandName}
use Rattle.machine.specs.Bytes.{words_of}
use Rattle.linkpairs.proofs.operand_at.Goals as goal

found : (words : List ℕ) (p s end : ℕ) (o : Option ℕ) {r : ℕ} → r ≡ unwrap_or o end → end ≡ length words → end < 9223372036854775808 → ((u : Use) → PairAt words p u → s ≡ p + 2) → Ends a_name words s o → IfSome o (λ r. r ≤ length words)
    → OperandName words p r
found words p s end None e d l f x i = record { inside = omega (arith, e, d); low = omega (arith, e, l); name = λ u y. absurd (operand-name words p u y (f u y) None x) }
found words p s end (Some q) e d l f x i = record { inside = omega (arith, e, i); low = omega (arith, e, d, l, i); name = λ u y. rw e (operand-name words p u y (f u y) (Some q) x) }

pub returns : goal.returns
returns c = found (words_of c.args.objects.now) c.args.p _ _ c.past_name.result c.unwrap_or.ensures c.total.ensures.0 c.total.ensures.1 c.section_at.ensures.place c.past_name.ensures.ends c.past_name.ensures.within
