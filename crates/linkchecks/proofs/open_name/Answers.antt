-- `linkchecks::open_name` meets its contract: a rule has each of the names passed.
use native.Mathlib.Omega.{arith}
use mathlib.Core.Path.{refl, ap}
use Prim.Native.Nat.{◌+◌, ◌-◌}
use lib.ListN.{length}
use Rattle.machine.specs.Bytes.{words_of}
use Rattle.objects.proofs.Looked.{name-at}
use Rattle.linkchecks.specs.Row.{row_from}
use Rattle.linkchecks.proofs.Finding.{shows-some, asking, asked-all, asks, asked_here, asked-passed, open-some, open_none}
use Rattle.linkchecks.proofs.open_name.Goals as goal

pub loop-init : goal.loop-init
loop-init c = (omega arith, λ vs ns rest v e. asking c.args.n c.args.at ns (omega arith) refl e refl)

pub returns-then-not-is_named : goal.returns-then-not-is_named
returns-then-not-is_named c = λ vs ns rest v e. let y = asks (c.args.n - (c.loop.counter + 1)) (c.loop.invariant.1 vs ns rest v e) (omega arith) in asked_here y _ (record { text = c.args.text; name = y.first }) (open-some (length (words_of c.args.objects.now) + 1) (row_from 1 vs) c.args.text y.first _ _ (ap (λ i. i + 1) c.total-end.ensures.0) (c.is_named.ensures vs y.first v (name-at _ _ y.first y.tail y.here)) c.if-not-is_named.true) (shows-some y.first _ (c.found_at.ensures y.first y.tail y.here))

pub returns-in_err-q : goal.returns-in_err-q
returns-in_err-q c = λ vs ns rest v e. let y = asks (c.args.n - (c.loop.counter + 1)) (c.loop.invariant.1 vs ns rest v e) (omega arith) in absurd (y.there c.in_err-q.ensures.ends)

pub loop-preserved : goal.loop-preserved
loop-preserved c = (c.in_ok-q.ensures.within, λ vs ns rest v e. let y = asks (c.args.n - (c.loop.counter + 1)) (c.loop.invariant.1 vs ns rest v e) (omega arith) in asked-passed y (open_none (length (words_of c.args.objects.now) + 1) (row_from 1 vs) c.args.text y.first _ _ (ap (λ i. i + 1) c.total-end.ensures.0) (c.is_named.ensures vs y.first v (name-at _ _ y.first y.tail y.here)) c.if-not-is_named.false) _ c.in_ok-q.ensures.ends)

pub returns : goal.returns
returns c = λ vs ns rest v e. asked-all (c.loop.invariant.1 vs ns rest v e) (omega arith)
