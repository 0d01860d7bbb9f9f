-- `linkpairs::find_sites` meets its contract: two numbers a pair, those of the pairs passed kept.
use mathlib.Core.Path.{refl, ◌∙◌}
use native.Mathlib.Omega.{arith}
use Prim.Native.Nat.{◌+◌, ◌*◌}
use lib.ListN.{set, length-set}
use Rattle.linker.proofs.Placing.{place-bound}
use Rattle.linker.specs.Place.{text_at}
use Rattle.linkpairs.proofs.Making.{site-found, sites-more}
use Rattle.machine.specs.Bytes.{words_of}
use Rattle.linkpairs.proofs.find_sites.Goals as goal

pub loop-j-init : goal.loop-j-init
loop-j-init c = (refl, λ i h. absurd (omega (arith, h)))

pub offset_bounds-sites-j : goal.offset_bounds-sites-j
offset_bounds-sites-j c = omega arith

pub bounds-sites-j : goal.bounds-sites-j
bounds-sites-j c = omega (arith, c.loop-j-test.true, c.requires.2)

pub entries_of-at-requires : goal.entries_of-at-requires
entries_of-at-requires c = c.requires.1

pub operand_at-requires : goal.operand_at-requires
operand_at-requires c = tt

pub place_of-rule-requires : goal.place_of-rule-requires
place_of-rule-requires c = c.operand_at.ensures.low

pub overflow_cast-places : goal.overflow_cast-places
overflow_cast-places c = omega (arith, c.entries_of-at.ensures.inside, c.requires.0)

pub overflow_mul-places : goal.overflow_mul-places
overflow_mul-places c = omega arith

pub offset_bounds-places-j : goal.offset_bounds-places-j
offset_bounds-places-j c = omega arith

pub bounds-places-j : goal.bounds-places-j
bounds-places-j c = omega (arith, c.loop-j-test.true, c.requires.3, c.loop-j.invariant.0)

pub overflow_cast-places-in-loop-j : goal.overflow_cast-places-in-loop-j
overflow_cast-places-in-loop-j c = let a = c.args in let w = words_of a.objects.now in omega (arith, c.place_of-rule.ensures, place-bound w (text_at w c.operand_at.result) a.heads.now, c.requires.4)

pub overflow_mul-places-in-loop-j : goal.overflow_mul-places-in-loop-j
overflow_mul-places-in-loop-j c = omega arith

pub overflow_add-places : goal.overflow_add-places
overflow_add-places c = omega arith

pub offset_bounds-places-j-in-loop-j : goal.offset_bounds-places-j-in-loop-j
offset_bounds-places-j-in-loop-j c = omega arith

pub bounds-places-j-in-loop-j : goal.bounds-places-j-in-loop-j
bounds-places-j-in-loop-j c = let o = c.loop-j in omega (arith, length-set c.loop-j.places (2 * c.loop-j.j) c.entries_of-at.result, c.loop-j-test.true, c.requires.3, c.loop-j.invariant.0)

pub loop-j-preserved : goal.loop-j-preserved
loop-j-preserved c = let a = c.args in let o = c.loop-j in let w = words_of a.objects.now in (length-set (set c.loop-j.places (2 * c.loop-j.j) c.entries_of-at.result) (2 * c.loop-j.j + 1) c.place_of-rule.result ∙ length-set c.loop-j.places (2 * c.loop-j.j) c.entries_of-at.result ∙ c.loop-j.invariant.0, sites-more a.text.now a.rows.now a.work.n w a.heads.now a.sites.now c.loop-j.j c.loop-j.places c.entries_of-at.result c.place_of-rule.result (omega (arith, c.loop-j-test.true, c.requires.3, c.loop-j.invariant.0)) c.loop-j.invariant.1 (site-found c.entries_of-at.ensures c.operand_at.ensures c.place_of-rule.ensures))

pub shape_of-places : goal.shape_of-places
shape_of-places c = c.loop-j.invariant.0

pub returns : goal.returns
returns c = λ i h. c.loop-j.invariant.1 i (omega (arith, h, c.loop-j-test.false))
