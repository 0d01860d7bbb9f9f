-- `objects::plain` meets its contract.
use mathlib.Core.Path.{refl}
use Rattle.objects.proofs.Told.{plain-exit, plain-no-exit, plain-call, plain_back, plain-no-back, plain-give, plain-no-give, plain-simple}
use Rattle.objects.proofs.plain.Goals as goal

pub returns-then-depth : goal.returns-then-depth
returns-then-depth c = plain-exit c.if-x-eq-EXIT.true c.if-depth.true c.passed.ensures

pub returns-then-x-eq-EXIT : goal.returns-then-x-eq-EXIT
returns-then-x-eq-EXIT c = plain-no-exit c.if-x-eq-EXIT.true c.if-depth.false refl

pub returns-then-x-eq-CALL : goal.returns-then-x-eq-CALL
returns-then-x-eq-CALL c = plain-call c.if-x-eq-CALL.true c.call_ok-ok.ensures c.after_call.ensures

pub returns-then-ground : goal.returns-then-ground
returns-then-ground c = plain-no-back c.if-x-eq-BACK.true c.if-ground.true refl

pub returns-then-x-eq-BACK : goal.returns-then-x-eq-BACK
returns-then-x-eq-BACK c = plain_back c.if-x-eq-BACK.true c.if-ground.false c.passed-then-x-eq-BACK.ensures

pub returns-then-ground-2 : goal.returns-then-ground-2
returns-then-ground-2 c = plain-give c.if-x-eq-GIVE.true c.if-ground-2.true (c.operand.ensures _)

pub returns-then-x-eq-GIVE : goal.returns-then-x-eq-GIVE
returns-then-x-eq-GIVE c = plain-no-give c.if-x-eq-GIVE.true c.if-ground-2.false refl

pub returns : goal.returns
returns c = plain-simple (c.simple.ensures _)
