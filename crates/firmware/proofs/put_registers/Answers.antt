-- `firmware::put_registers` meets its contract: four writes, one after the other.
use mathlib.Core.List.{[], ◌∷◌, ◌++◌}
use mathlib.Core.Path.{refl, ap, ◌∙◌}
use Prim.Native.Nat.{◌%◌, min}
use Rattle.machine.specs.Form as form
use Rattle.firmware.specs.Writes.{puts, register_words}
use Rattle.firmware.proofs.Laws.{puts_one, puts-64, puts_then}
use Rattle.firmware.proofs.put_registers.Goals as goal

pub returns : goal.returns
unfolding register_words form.words64
returns c =
    let a = c.args in
    let s = a.out.now in
    let r = a.r in
    let first = r.location ∷ r.result % 65536 ∷ r.parameter % 65536 ∷ min r.depth 64 ∷ [] in
    let left = r.allowance % 65536 ∷ [] in
    let read = form.words64 r.read in
    let used = form.words64 r.used in
    let four = c.put_four.ensures in
    let held = c.held_of.ensures in
    let result = c.low_word.ensures in
    let parameter = c.low_word-2.ensures in
    let allowance = c.low_word-3.ensures in
    c.put_64-2.ensures ∙ puts-64 _ 11 r.used ∙ rw (c.put_64.ensures, puts-64, c.put_word.ensures, four, held, result, parameter, allowance, puts_one)
    (ap (λ t. puts (puts t 7 read) 11 used) (puts_then s 2 first left 6 refl) ∙ ap (λ t. puts t 11 used) (puts_then s 2 (first ++ left) read 7 refl)
    ∙ puts_then s 2 ((first ++ left) ++ read) used 11 refl)
