-- `loader::are_records` meets its contract.
use mathlib.Core.Path.{ap, sym, ◌∙◌, ◌≡◌}
use Prim.Native.Nat.{ℕ, ◌+◌, ◌*◌, ◌-◌, ◌/◌}
use native.Mathlib.Omega.{arith}
use Rattle.machine.specs.Bytes.{words_of}
use Rattle.loader.proofs.Filing.{read-start, read-as, read-on, read-bad, read-end}
use Rattle.loader.proofs.are_records.Goals as goal

pub loop-k-init : goal.loop-k-init
loop-k-init c = read-as (read-start (words_of c.args.file.now) c.args.n c.requires.1 c.requires.2) (omega arith) (omega arith)

pub returns-then-not-full_record : goal.returns-then-not-full_record
returns-then-not-full_record c = read-bad c.loop-k.invariant (omega (arith, c.loop-k-test.true)) (sym c.full_record.ensures ∙ c.if-not-full_record.true)

pub loop-k-preserved : goal.loop-k-preserved
loop-k-preserved c = read-as (read-on c.loop-k.invariant (omega (arith, c.loop-k-test.true)) (sym c.full_record.ensures ∙ c.if-not-full_record.false)) (omega arith) (omega arith)

pub returns : goal.returns
returns c =
    let k : c.loop-k.k ≡ (c.args.n - 1) / 256 = omega (arith, c.loop-k-test.false, c.loop-k.auto.k-end) in
    read-end (read-as c.loop-k.invariant (ap (λ (i : ℕ). 4 + 258 * i) k) (ap (λ (i : ℕ). c.args.n - 256 * i) k)) (omega (arith, c.requires.1)) _ c.last_record.ensures
