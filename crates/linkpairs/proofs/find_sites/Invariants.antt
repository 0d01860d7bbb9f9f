-- `linkpairs::find_sites` meets its contract: two numbers a pair, those of the pairs passed kept.
use mathlib.Core.Path.{◌≡◌}
use lib.ListN.{length}
use Rattle.linkpairs.specs.Places.{SitesFound}
use Rattle.machine.specs.Bytes.{words_of}
use Rattle.linkpairs.proofs.find_sites.Given as goal

abbrev pub invariant-loop-j : goal.invariant-loop-j
invariant-loop-j l = (length l.places ≡ length l.initial.places) × SitesFound l.text l.rows l.work.n (words_of l.objects) l.heads l.sites l.j l.places
