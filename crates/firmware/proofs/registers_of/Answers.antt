-- `firmware::registers_of` meets its contract: field by field.
use Rattle.firmware.specs.Writes.{registers_in}
use Rattle.firmware.proofs.registers_of.Goals as goal

pub returns : goal.returns
unfolding registers_in
returns c =
    let location = c.wide_word.ensures in
    let depth = c.wide_word-2.ensures in
    let result = c.wide_word-3.ensures in
    let parameter = c.wide_word-4.ensures in
    let read = c.read_64.ensures in
    let used = c.read_64-2.ensures in
    let allowance = c.wide_word-5.ensures in
    (λ i. record { location = c.wide_word.ensures.0 i; depth = c.wide_word-2.ensures.0 i; result = c.wide_word-3.ensures.0 i; parameter = c.wide_word-4.ensures.0 i; read = read i; used = used i; allowance = c.wide_word-5.ensures.0 i }, c.wide_word.ensures.1)
