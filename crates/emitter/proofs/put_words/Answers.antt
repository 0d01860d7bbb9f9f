use Prim.Native.Nat.{ℕ, ◌+◌}
use mathlib.Core.Path.{refl, sym, ap, ◌∙◌}
use mathlib.Core.List.{List}
use native.Mathlib.Nat.{add-zero}
use native.Mathlib.Omega.{arith}
use lib.ListN.{drop}
use Rattle.emitter.specs.Words.{puts}
use Rattle.emitter.proofs.Laws.{puts-next, puts-last}
use Rattle.emitter.proofs.put_words.Goals as goal

pub loop-i-init : goal.loop-i-init
loop-i-init c = (refl, ap (λ (j : ℕ). puts c.args.out.now j c.args.words.now) (add-zero c.args.at))

pub loop-i-preserved : goal.loop-i-preserved
loop-i-preserved c = (c.put_word.auto.out ∙ c.loop-i.invariant.0, ap (λ (s : List ℕ). puts s (c.args.at + (c.loop-i.i + 1)) (drop (c.loop-i.i + 1) c.args.words.now)) c.put_word.ensures ∙ (puts-next c.loop-i.out c.args.words.now c.args.at c.loop-i.i (omega arith) ∙ c.loop-i.invariant.1))

pub returns : goal.returns
returns c = sym (puts-last c.loop-i.out c.args.words.now c.args.at c.loop-i.i (omega arith)) ∙ c.loop-i.invariant.1
