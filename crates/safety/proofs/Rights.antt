-- The promise of rights over the operations.
use mathlib.Core.Bool.{true}
use mathlib.Core.List.{List, ◌++◌}
use mathlib.Core.Option.{some}
use mathlib.Core.Path.{◌≡◌, refl}
use Prim.Native.Nat.{ℕ}
use Rattle.events.specs.Events.{Event}
use Rattle.loading.proofs.Behind.{reach-behind, Taken-behind, decode-alike}
use Rattle.loading.specs.Reach.{Reachable, Taken}
use Rattle.machine.specs.Decode.{decode}
use Rattle.rights.proofs.Admits.{admits-exactly}
use Rattle.rights.specs.Rights.{granted, operation_of, allows, right, Admitted, admit_loaded}
use Rattle.safety.specs.Rights.{within, Within, within_nil, within_cons, AdmittedKeeps, LoadedKeeps}
use Rattle.safety.proofs.Steps.{Source, of_output, of-signal, of-repair, of-operation, of-operation_with, Sources, no-events, and-event, led}

module _ (T more set : List ℕ) (h : Taken T) (a : Admitted T set) where
  operation-within : (l op : ℕ) → Reachable (T ++ more) l → operation_of (decode (T ++ more) l) ≡ some op → granted set op ≡ true
  unfolding right allows
  operation-within l op r e =
      let s = reach-behind T more h r in
      let d = decode-alike T more h s in
      let f : operation_of (decode T l) ≡ some op = rw d at e in
      rw (f, allows) at (a l s)

  source-within : {e : Event} → Source (T ++ more) e → within set e ≡ true
  unfolding within
  source-within of_output = refl
  source-within of-signal = refl
  source-within of-repair = refl
  source-within (of-operation {l = l} {op = op} r e) = operation-within l op r e
  source-within (of-operation_with {l = l} {op = op} r e) = operation-within l op r e

  sources-within : {es : List Event} → Sources (T ++ more) es → Within set es
  sources-within no-events = within_nil
  sources-within (and-event s r) = within_cons (source-within s) (sources-within r)

pub keeps : AdmittedKeeps
keeps T more set e tokens answers allowance w es n ns l =
    let r = (admits-exactly T set).only_these e in
    let h = Taken-behind T more r.0 in
    sources-within T more set r.0 r.1 (led (T ++ more) tokens h allowance l).events

pub loaded-keeps : LoadedKeeps
unfolding admit_loaded
loaded-keeps file set room ws verdict more e z = keeps ws more set (rw e at z)
