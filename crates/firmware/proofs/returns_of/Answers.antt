-- `firmware::returns_of` meets its contract: after i turns the first i elements are the words from 15 on.
use mathlib.Core.Path.{◌≡◌, refl, sym, ◌∙◌}
use Prim.Native.Nat.{◌+◌}
use native.Mathlib.Numerals.{add-one}
use native.Mathlib.Omega.{arith}
use lib.ListN.{take, drop, length-set, length-drop, set}
use lib.Seq.{take-suc-set, take-suc, get_or-drop, take_all}
use borrow.Author.Rules.{rules}
use Rattle.machine.proofs.Bytes.{length-words_of}
use Rattle.machine.specs.Bytes.{count, words_of}
use Rattle.firmware.proofs.returns_of.Goals as goal

pub loop-i-init : goal.loop-i-init
loop-i-init c = (search rules, (search rules, refl))

pub loop-i-preserved : goal.loop-i-preserved
unfolding count
loop-i-preserved c =
    let s = c.args.s.now in
    let ws = words_of s in
    let i = c.loop-i.i in
    let x = c.word.result in
    let n = length-words_of s in
    let m = length-drop 15 ws in
    let grows : take (i + 1) (set c.loop-i.returns i x) ≡ take (i + 1) (drop 15 ws) =
    rw (add-one, take-suc-set c.loop-i.returns i x (omega arith), take-suc (drop 15 ws) i 0 (omega arith), c.loop-i.invariant.1.1, c.word.ensures, get_or-drop) in
    (search rules, (length-set c.loop-i.returns i x ∙ c.loop-i.invariant.1.0, grows))

pub returns : goal.returns
returns c =
    let e : c.loop-i.i ≡ 64 = omega arith in
    sym (take_all 64 c.loop-i.returns (omega arith)) ∙ rw e at c.loop-i.invariant.1.1
