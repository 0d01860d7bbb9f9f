-- `listing::put_decimal` meets its contract. The measure is the number.
use mathlib.Core.Path.{◌∙◌}
use native.Mathlib.Omega.{arith}
use Rattle.listing.proofs.Laws.{puts-length, puts_one, puts-more, decimal-short}
use Rattle.listing.proofs.+put_decimal.Goals as goal

pub put_byte-requires : goal.put_byte-requires
put_byte-requires t c = omega arith

pub shape_of-out-then-n-lt10 : goal.shape_of-out-then-n-lt10
shape_of-out-then-n-lt10 t c = puts-length c.put_byte.ensures

pub returns-then-n-lt10 : goal.returns-then-n-lt10
returns-then-n-lt10 t c =
    let p = puts_one c.if-n-lt10.true c.digit.ensures c.put_byte.ensures in record { puts = p; upper_bound = decimal-short (omega arith) p }

pub put_decimal-next-requires : goal.put_decimal-next-requires
put_decimal-next-requires t c = (omega arith, omega arith)

pub put_byte-requires-2 : goal.put_byte-requires-2
put_byte-requires-2 t c = omega arith

pub shape_of-out : goal.shape_of-out
shape_of-out t c = puts-length c.put_byte-2.ensures ∙ puts-length c.put_decimal-next.ensures.puts

pub returns : goal.returns
returns t c =
    let p = puts-more (λ h. omega (arith, c.if-n-lt10.false)) c.digit-2.ensures c.put_decimal-next.ensures.puts c.put_byte-2.ensures in record { puts = p; upper_bound = decimal-short (omega arith) p }
