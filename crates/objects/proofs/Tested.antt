-- What the code's answer says: the words are objects of the common part, or they are not.
use mathlib.Core.Bool.{Bool, true, ◌&&◌}
use mathlib.Core.List.{List, [], ◌∷◌, ◌++◌}
use mathlib.Core.Path.{◌≡◌, refl, sym, ap, ◌∙◌}
use native.Mathlib.Omega.{arith}
use Prim.Native.Nat.{ℕ, zero, suc, ◌%◌, ◌<◌, ◌≤◌}
use borrow.Author.Tests.{eq-eqb, eqb-true}
use lib.ListN.{length, get_or, length-append}
use Rattle.base.specs.Bools as bools
use Rattle.machine.specs.Bytes.{words_of}
use Rattle.names.specs.Known.{Names}
use Rattle.program.specs.Accepted.{Values}
use Rattle.parts.specs.Form.{AreObjects}
use Rattle.parts.specs.Objects.{Object}
use Rattle.syntax.specs.Texts.{Head, Common}
use Rattle.objects.proofs.Checking.{no-view}
use Rattle.objects.proofs.Exact.{all-views, views-in-order, objects-pass, pass-objects}
use Rattle.objects.proofs.Views.{view-exact}
use Rattle.objects.specs.View.{View, views_of, all, body_words, view_words}
use Rattle.objects.specs.Whole.{every, view_in_order, are_objects, good_after, good_views, evenly, Decides}

-- words of bytes are below 65,536
pub values_of : (s : List ℕ) → ((i : ℕ) → get_or s i 0 < 256) → Values (words_of s)
unfolding Values words_of
values_of [] h = tt
values_of (a ∷ []) h = tt
values_of (a ∷ b ∷ s) h = let x = h 0 in let y = h 1 in (omega (arith, x, y), values_of s (λ i. h (suc (suc i))))

pub check_sound : (common : List ℕ) (c : Common) (n : Names) (bytes : List ℕ) (ok : Bool) → ((i : ℕ) → get_or bytes i 0 < 256) → ok ≡ (are_objects c.listed n common (words_of bytes) && evenly bytes) → Decides common c n bytes ok
unfolding evenly
check_sound common c n bytes ok h e = record {
  objects = λ t. pass-objects common c n (words_of bytes) (values_of bytes h) (both t).0;
  words = λ t. eqb-true (length bytes % 2) 0 (both t).1;
  no_objects = λ f d x. bools.never (sym f ∙ e ∙ bools.both (are_objects c.listed n common (words_of bytes)) (evenly bytes) (objects-pass common c n (words_of bytes) x) (eq-eqb (length bytes % 2) 0 d));
}
  where
    both : ok ≡ true → (are_objects c.listed n common (words_of bytes) ≡ true) × (evenly bytes ≡ true)
    both t = bools.and (are_objects c.listed n common (words_of bytes)) (evenly bytes) (sym e ∙ t)

-- a view has a word or more
view-long : (common : List ℕ) (v : View) (ws : List ℕ) → suc (length ws) ≤ length (view_words common v ++ ws)
unfolding view_words
view-long common v ws = let l = length-append (body_words common v) ws in omega (arith, l)

-- of objects all are counted
module _ (hs : List Head) (n : Names) (common : List ℕ) where
  all-good : (k : ℕ) (vs : List View) → length (all (view_words common) vs) ≤ k → every (view_in_order hs n) vs ≡ true → good_views hs n common k (all (view_words common) vs) ≡ length vs
  unfolding good_views good_after all every
  all-good zero [] l e = refl
  all-good (suc k) [] l e = rw (no-view common)
  all-good zero (v ∷ vs) l e = let m = view-long common v (all (view_words common) vs) in absurd (omega (arith, l, m))
  all-good (suc k) (v ∷ vs) l e =
      let m = view-long common v (all (view_words common) vs) in
      let b = bools.and (view_in_order hs n v) (every (view_in_order hs n) vs) e in
      rw ((view-exact common).back v tt (all (view_words common) vs), b.0, all-good k vs (omega (arith, l, m)) b.1)

as_long : (ns : List ℕ) (os : List Object) → length ns ≡ length os → length (views_of ns os) ≡ length os
unfolding views_of
as_long [] [] e = refl
as_long [] (o ∷ os) e = absurd (omega (arith, e))
as_long (n ∷ ns) [] e = absurd (omega (arith, e))
as_long (n ∷ ns) (o ∷ os) e = ap suc (as_long ns os (omega (arith, e)))

pub objects-counted : (common : List ℕ) (c : Common) (n : Names) (words : List ℕ) (x : AreObjects common c n words) → good_views c.listed n common (length words) words ≡ length x.objects
objects-counted common c n words x =
    let vs = views_of x.lengths x.objects in
    let e = x.are ∙ all-views common x.lengths x.objects in
    ap (λ ws. good_views c.listed n common (length ws) ws) e ∙ all-good c.listed n common (length (all (view_words common) vs)) vs (omega arith) (views-in-order c.listed n x.lengths x.objects x.sound)
    ∙ as_long x.lengths x.objects x.as_many
