use Prim.Native.Nat.{ℕ, ◌+◌, ◌-◌}
use mathlib.Core.Path.{◌≡◌, refl, ap, sym, ◌∙◌}
use mathlib.Core.List.{List}
use lib.ListN.{replicate}
use Rattle.emitter.specs.Words.{words, puts, set_word}
use Rattle.emitter.proofs.Bytes.{zeros-more, zeros-none}
use Rattle.emitter.proofs.zero_from.Goals as goal

pub loop-i-init : goal.loop-i-init
loop-i-init c = (refl, refl)

pub loop-i-preserved : goal.loop-i-preserved
loop-i-preserved c = let o = c.loop-i in
    let h : c.put_word.new.out ≡ set_word o.out o.i 0 = c.put_word.ensures in
    (c.put_word.auto.out ∙ o.invariant.0, ap (λ (s : List ℕ). puts s (o.i + 1) (replicate (words c.args.out.now - (o.i + 1)) 0)) h ∙ sym (zeros-more o.out o.i (words c.args.out.now) c.loop-i-test.true) ∙ o.invariant.1)

pub returns : goal.returns
returns c = let o = c.loop-i in sym (zeros-none o.out o.i (words c.args.out.now) c.loop-i-test.false) ∙ o.invariant.1
