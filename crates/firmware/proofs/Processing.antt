-- The processor's answer as numbers.
use mathlib.Core.Path.{◌≡◌, refl}
use Prim.Native.Nat.{ℕ}
use Rattle.figure.specs.Told.{Told}
use Rattle.firmware.specs.Processing.{flag_of, numbers_of, tells}
use Rattle.processor.specs.Process as means
use Rattle.processor.specs.Process.{accepted, refused}
use Rattle.translator.specs.Answered.{answered}
use Rattle.translator.specs.declared.Answer.{Answer}

numbers-are : (a : means.Answer) (t : Told)
    → tells (answered a t).number (answered a t).start (answered a t).len (answered a t).words (flag_of (answered a t).finishing) (answered a t).figure (answered a t).check ≡ numbers_of a t
unfolding answered numbers_of flag_of
numbers-are (accepted words verdict) t = refl
numbers-are (refused number at) t = refl

pub numbers-told : (a : means.Answer) (t : Told) (r : Answer) (f : ℕ) → r ≡ answered a t → f ≡ flag_of r.finishing
    → tells r.number r.start r.len r.words f r.figure r.check ≡ numbers_of a t
numbers-told a t r f e h = rw h (rw e (numbers-are a t))
