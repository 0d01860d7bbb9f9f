use mathlib.Core.Path.{ap, ◌∙◌}
use mathlib.Core.List.{List}
use Prim.Native.Nat.{ℕ}
use Rattle.emitter.specs.Words.{puts}
use Rattle.emitter.proofs.Laws.{take-firsts}
use Rattle.emitter.proofs.put_item.Goals as goal

pub returns : goal.returns
returns c = c.put_words.ensures ∙ ap (λ (w : List ℕ). puts c.args.out.now c.args.at w) (take-firsts c.args.item.count c.args.item.a c.args.item.b c.args.item.d c.requires.1)
