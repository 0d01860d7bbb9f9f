-- `linkchecks::open_call` meets its contract: past the rule's name and its type stand the names of its calls.
use native.Mathlib.Omega.{arith}
use mathlib.Core.Path.{◌∙◌}
use Rattle.machine.specs.Bytes.{words_of}
use Rattle.objects.proofs.Called.{gives-there, calls_at}
use Rattle.linkchecks.proofs.open_call.Goals as goal

pub returns-in_err-gives : goal.returns-in_err-gives
returns-in_err-gives c = λ vs v k w e. absurd (gives-there (words_of c.args.objects.now) c.args.at v k e c.in_err-gives.ensures.ends)

pub returns-in_err-calls : goal.returns-in_err-calls
returns-in_err-calls c = λ vs v k w e. let y = calls_at (words_of c.args.objects.now) c.args.at _ v k e c.in_ok-gives.ensures.ends in absurd (y.there c.in_err-calls.ensures.ends)

pub returns-then-calls-total : goal.returns-then-calls-total
returns-then-calls-total c = λ vs v k w e. let y = calls_at (words_of c.args.objects.now) c.args.at _ v k e c.in_ok-gives.ensures.ends in let h = (y.count _ c.in_ok-calls.ensures.ends).0 in absurd (omega (arith, h))

pub returns : goal.returns
returns c = λ vs v k w e. let y = calls_at (words_of c.args.objects.now) c.args.at _ v k e c.in_ok-gives.ensures.ends in let d = c.number.ensures.0 ∙ (y.count _ c.in_ok-calls.ensures.ends).1 in c.open_name.ensures vs v.calls y.rest w (rw d (y.taken _ c.in_ok-calls.ensures.ends))
