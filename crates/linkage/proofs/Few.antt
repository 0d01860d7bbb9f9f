-- A choice of a sound object has labels few enough for the emitter and for the verdict.
use mathlib.Core.Path.{◌≡◌, refl}
use native.Mathlib.Omega.{arith}
use Prim.Native.Nat.{◌≤◌}
use Rattle.base.specs.Tree.{plain, cycle, choice, done, ◌▸◌, nil, alternative, absent, otherwise}
use Rattle.emitter.specs.Emitted.{FewLabels, FewLabelsAll, FewLabelsAlts, FewLabelsOther}
use Rattle.parts.specs.Sound as sound
use Rattle.program.specs.Program.{Act, Acts, Alts, Other}
use Rattle.program.specs.Table.{count_labels}
use Rattle.verdict.specs.Lies as verdict

mutual
  unfolding sound.Few FewLabels verdict.Few verdict.labelled count_labels

  act-few : (a : Act) → sound.Few a → FewLabels a × verdict.Few a
  act-few (plain p) h = (tt, tt)
  act-few (cycle b) h = acts-few b h
  act-few (choice s q o) h =
      let x = alts-few q h.0 h.1 in
      let y = other-few o h.2 in
      let e = x.0 in
      let l = h.0 in
      ((x.1, y.0), (omega (arith, e, l), x.2, y.1))

  pub acts-few : (q : Acts) → sound.FewAll q → FewLabelsAll q × verdict.FewAll q
  acts-few done h = (tt, tt)
  acts-few (a ▸ q) h = let x = act-few a h.0 in let y = acts-few q h.1 in ((x.0, y.0), (x.1, y.1))

  alts-few : (q : Alts) → count_labels q ≤ 64 → sound.FewSome q → (verdict.labelled q ≡ count_labels q) × FewLabelsAlts q × verdict.FewSome q
  alts-few nil l h = (refl, tt, tt)
  alts-few (alternative ls b q) l h =
      let x = acts-few b h.1 in
      let y = alts-few q (omega (arith, l)) h.2 in
      let e = y.0 in
      let m = h.0 in
      (omega (arith, e), (omega (arith, m), omega (arith, l), x.0, y.1), (x.1, y.2))

  other-few : (o : Other) → sound.FewOther o → FewLabelsOther o × verdict.FewOther o
  other-few absent h = (tt, tt)
  other-few (otherwise b) h = acts-few b h
