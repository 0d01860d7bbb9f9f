-- What linking leaves, as the numbers of its entry.
use mathlib.Core.Path.{◌≡◌, refl}
use mathlib.Core.List.{List}
use Prim.Native.Nat.{ℕ}
use Rattle.desk.specs.Parted.{flag_of, numbers_of, tells, Joins}
use Rattle.linking.specs.Answered.{linked_as, Links}
use Rattle.linking.specs.declared.Linked as code
use Rattle.parts.specs.Link.{Linked, linked, refused}

numbers-are : (a : Linked)
    → tells (linked_as a).number (linked_as a).text (linked_as a).start (linked_as a).len (linked_as a).words (flag_of (linked_as a).finishing) (linked_as a).figure (linked_as a).check ≡ numbers_of a
unfolding linked_as numbers_of flag_of
numbers-are (linked words verdict f) = refl
numbers-are (refused number text at) = refl

numbers-told : (a : Linked) (r : code.Linked) (f : ℕ) → r ≡ linked_as a → f ≡ flag_of r.finishing
    → tells r.number r.text r.start r.len r.words f r.figure r.check ≡ numbers_of a
numbers-told a r f e h = rw h (rw e (numbers-are a))

pub joins : {common objects old new : List ℕ} {r : code.Linked} {f : ℕ} → Links common objects old new r → f ≡ flag_of r.finishing
    → Joins common objects old new (tells r.number r.text r.start r.len r.words f r.figure r.check)
joins {r = r} {f} l h = record { answer = l.answer; answers = l.answers; numbers = numbers-told l.answer r f l.leaves.answer h; lent = l.leaves.lent }
