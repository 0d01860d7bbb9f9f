-- The promises of loading.
use mathlib.Core.Bool.{Bool, true, false}
use mathlib.Core.List.{◌++◌}
use mathlib.Core.Path.{◌≡◌, refl}
use Prim.Native.Nat.{ℕ, ◌≤◌}
use native.Mathlib.Omega.{arith}
use lib.ListN.{length}
use borrow.Author.Tests.{le-leb}
use Rattle.acceptance.proofs.Accepts.{accepted-table}
use Rattle.acceptance.specs.Answers.{TableOf}
use Rattle.loading.proofs.Behind.{Taken-behind}
use Rattle.loading.proofs.Files.{loads-exactly}
use Rattle.loading.specs.File.{allowed}
use Rattle.safety.specs.Promise.{TakenNever37, LoadedNever37, claim_of, AcceptedLoads}
use Rattle.safety.proofs.Steps.{led, last-37}
use Rattle.safety.proofs.Written.{written-taken}

pub never_37 : TakenNever37
never_37 T more t tokens answers allowance w es n number ns l =
    let h = Taken-behind T more t in
    last-37 (T ++ more) tokens h (led (T ++ more) tokens h allowance l)

pub loaded-never-37 : LoadedNever37
loaded-never-37 file room ws verdict more e = never_37 ws more ((loads-exactly file room ws verdict).only_these e).takes

pub claim-allowed : (size : ℕ) (verdict : Bool) → 1 ≤ size → size ≤ 4096 → allowed size (claim_of verdict) ≡ true
unfolding allowed claim_of
claim-allowed size true a b = rw (le-leb 1 size a, le-leb size 4096 b)
claim-allowed size false a b = rw (le-leb 1 size a, le-leb size 4096 b)

pub accepted-loads : AcceptedLoads
accepted-loads text room words verdict room' e h =
    let t : TableOf text room words verdict = accepted-table text room words verdict e in
    let first : 1 ≤ length words = omega (arith, t.from 0, t.inside 0 t.accepts.some_rule) in
    (loads-exactly _ room' words (claim_of verdict)).all_these (record {
      one_file = refl;
      limits = claim-allowed (length words) verdict first t.within_4096;
      long_enough = h;
      takes = written-taken text room words verdict e;
    })
