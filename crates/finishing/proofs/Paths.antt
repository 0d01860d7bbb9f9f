-- The test finds exactly the paths, if what is known of the rules is exact.
use mathlib.Core.Path.{◌≡◌, refl, ap}
use mathlib.Core.Logic.{inl, inr}
use mathlib.Core.Bool.{Bool, true, false, ◌&&◌, ◌||◌, not}
use mathlib.Core.List.{List}
use Prim.Native.Nat.{ℕ, ◌<◌}
use lib.ListN.{length}
use borrow.Author.Tests.{eqb-true, eq-eqb, not-true}
use Rattle.base.specs.Bools.{never, or, and, or₁, or₂, both}
use Rattle.base.specs.Common.{member}
use Rattle.base.specs.Tree.{plain, cycle, choice, done, ◌▸◌, nil, alternative, absent, otherwise}
use Rattle.program.specs.Program.{Plain, match, any, emit, error, exit, call, back, give, update, update_with, Selector, by_token, by_rule, by_operation, by_operation_with, Act, Acts, Alts, Other, Rule, body_of}
use Rattle.finishing.specs.Finishing as paths
use Rattle.finishing.specs.Finishing.{Way, to_end, to_exit, to_back, to_give, to_call, Away, away_exit, away_back, away_give, away_call, Far, far_back, far_give, far_call, Returns, by_end, by_back, by_give, named, Path, path_emit, path_error, path_update, path_update_with, path_call, path_calls, path_exit, path_back, path_give, path_out, path_around, path_in, path_selects, path_labelled, path_otherwise, path_named, path_unnamed, Paths, paths_done, paths_here, paths_later, PathsSome, paths_this, paths_that, PathsFor, for_this, for_that, opens_operation, opens_operation_with, OpensElse, else_token, else_opens, Gives, Passed, passed, Loop, loop_here, loop_in, loop_labelled, loop_otherwise, Loops, loops_here, loops_later, LoopsSome, loops_this, loops_that}
use Rattle.finishing.specs.Test.{Goal, end, leave, return, gives, calls, is_end, is_leave, is_return, is_give, is_call, is_far, Known, quiet_plain, quiet, quiets, quiet_some, quiet_named, quiet_other, passes, loop, loops, loops_some, loops_other}

-- the way is one to the goal
pub data Meets : Way → Goal → Type 0 where
  meets-end : Meets to_end end
  meets-exit : Meets to_exit leave
  meets-back : Meets to_back return
  meets_any : {v : ℕ} → Meets (to_give v) return
  meets-give : {v : ℕ} → Meets (to_give v) (gives v)
  meets_call : {r : ℕ} → Meets (to_call r) (calls r)

-- a way to the goal
pub data Found (P : Way → Type 0) (g : Goal) : Type 0 where
  found : (w : Way) → Meets w g → P w → Found P g

is-end : (P : Way → Type 0) (g : Goal) → is_end g ≡ true → P to_end → Found P g
unfolding is_end
is-end P end e p = found to_end meets-end p
is-end P leave e p = never e
is-end P return e p = never e
is-end P (gives v) e p = never e
is-end P (calls r) e p = never e

is-leave : (P : Way → Type 0) (g : Goal) → is_leave g ≡ true → P to_exit → Found P g
unfolding is_leave
is-leave P end e p = never e
is-leave P leave e p = found to_exit meets-exit p
is-leave P return e p = never e
is-leave P (gives v) e p = never e
is-leave P (calls r) e p = never e

is-return : (P : Way → Type 0) (g : Goal) → is_return g ≡ true → P to_back → Found P g
unfolding is_return
is-return P end e p = never e
is-return P leave e p = never e
is-return P return e p = found to_back meets-back p
is-return P (gives v) e p = never e
is-return P (calls r) e p = never e

give_meets : (v u : ℕ) → v ≡ u → Meets (to_give v) (gives u)
give_meets v u e = rw (← e) meets-give

call-meets : (r s : ℕ) → r ≡ s → Meets (to_call r) (calls s)
call-meets r s e = rw (← e) meets_call

is_give_lem : (P : Way → Type 0) (v : ℕ) (g : Goal) → is_give v g ≡ true → P (to_give v) → Found P g
unfolding is_give
is_give_lem P v end e p = never e
is_give_lem P v leave e p = never e
is_give_lem P v return e p = found (to_give v) meets_any p
is_give_lem P v (gives u) e p = found (to_give v) (give_meets v u (eqb-true v u e)) p
is_give_lem P v (calls r) e p = never e

is_called : (P : Way → Type 0) (r : ℕ) (g : Goal) → is_call r g ≡ true → P (to_call r) → Found P g
unfolding is_call
is_called P r end e p = never e
is_called P r leave e p = never e
is_called P r return e p = never e
is_called P r (gives v) e p = never e
is_called P r (calls s) e p = found (to_call r) (call-meets r s (eqb-true r s e)) p

is-away : {w : Way} {g : Goal} → Meets w g → not (is_end g) ≡ true → Away w
unfolding is_end
is-away meets-end e = never e
is-away meets-exit e = away_exit
is-away meets-back e = away_back
is-away meets_any e = away_give
is-away meets-give e = away_give
is-away meets_call e = away_call

is-far : {w : Way} {g : Goal} → Meets w g → is_far g ≡ true → Far w
unfolding is_far
is-far meets-end e = never e
is-far meets-exit e = never e
is-far meets-back e = far_back
is-far meets_any e = far_give
is-far meets-give e = far_give
is-far meets_call e = far_call

pub to_end_lem : (P : Way → Type 0) → Found P end → P to_end
to_end_lem P (found to_end meets-end p) = p
to_end_lem P (found to_exit x'' p) = elim x'' [ ]
to_end_lem P (found to_back x3 p) = elim x3 [ ]
to_end_lem P (found (to_give _) x5 p) = elim x5 [ ]
to_end_lem P (found (to_call _) x6 p) = elim x6 [ ]

pub to-exit : (P : Way → Type 0) → Found P leave → P to_exit
to-exit P (found to_exit meets-exit p) = p
to-exit P (found to_end x'' p) = elim x'' [ ]
to-exit P (found to_back x3 p) = elim x3 [ ]
to-exit P (found (to_give _) x5 p) = elim x5 [ ]
to-exit P (found (to_call _) x6 p) = elim x6 [ ]

to-give : (P : Way → Type 0) (v : ℕ) → Found P (gives v) → P (to_give v)
to-give P v (found (to_give u) meets-give p) = p
to-give P v (found to_end x'' p) = elim x'' [ ]
to-give P v (found to_exit x3 p) = elim x3 [ ]
to-give P v (found to_back x4 p) = elim x4 [ ]
to-give P v (found (to_call _) x6 p) = elim x6 [ ]

pub to-call : (P : Way → Type 0) (r : ℕ) → Found P (calls r) → P (to_call r)
to-call P r (found (to_call s) meets_call p) = p
to-call P r (found to_end x'' p) = elim x'' [ ]
to-call P r (found to_exit x3 p) = elim x3 [ ]
to-call P r (found to_back x4 p) = elim x4 [ ]
to-call P r (found (to_give _) x6 p) = elim x6 [ ]

-- the same goal, by another kind of path
onto : {P Q : Way → Type 0} {g : Goal} → ((w : Way) → Meets w g → P w → Q w) → Found P g → Found Q g
onto f (found w e p) = found w e (f w e p)

-- a value that the rule returns quietly, with the property
pub record Given (prog : List Rule) (r : ℕ) (p : ℕ → Bool) : Type 0 where
  pub value : ℕ
  pub quietly : Gives prog r value
  pub has : p value ≡ true

-- what is known is true
pub record Sound (prog : List Rule) (k : Known) : Type 0 where
  pub of-passed : (r : ℕ) → k.passed r ≡ true → Passed prog r
  pub of_values : (r : ℕ) (p : ℕ → Bool) → k.some_value r p ≡ true → Given prog r p

-- what is true because of what is known is known
pub record Closed (prog : List Rule) (k : Known) : Type 0 where
  pub of-passed : (r : ℕ) → r < length prog → passes k (body_of prog r) ≡ true → k.passed r ≡ true
  pub of_values : (r v : ℕ) (p : ℕ → Bool) → r < length prog → quiets k (body_of prog r) (gives v) ≡ true → p v ≡ true → k.some_value r p ≡ true

-- a way through an alternative that a value of rule r matches
data Valued (prog : List Rule) (r : ℕ) (w : Way) (q : Alts) : Type 0 where
  valued : {v : ℕ} → Gives prog r v → PathsFor prog v w q → Valued prog r w q

by_value : {prog : List Rule} {w : Way} {q : Alts} (r : ℕ) (o : Other) → Valued prog r w q → Path prog w (choice (by_rule r) q o)
by_value r o (valued x p) = path_named x p

later : {prog : List Rule} {r : ℕ} {w : Way} {ls : List ℕ} {b : Acts} {q : Alts} → Valued prog r w q → Valued prog r w (alternative ls b q)
later (valued x p) = valued x (for_that p)

module _ (prog : List Rule) (k : Known) (h : Sound prog k) where
  plain-sound : (p : Plain) (g : Goal) → quiet_plain k p g ≡ true → Found (λ w. Path prog w (plain p)) g
  unfolding quiet_plain
  plain-sound (match t) g e = never e
  plain-sound any g e = never e
  plain-sound (emit t) g e = is-end _ g e path_emit
  plain-sound (error t) g e = is-end _ g e path_error
  plain-sound exit g e = is-leave _ g e path_exit
  plain-sound (call r) g e = elim (or (is_call r g) (is_end g && k.passed r) e) [
    | inl q ↦ is_called _ r g q path_calls
    | inr q ↦ let x = and (is_end g) (k.passed r) q in is-end _ g x.0 (path_call (h.of-passed r x.1))
  ]
  plain-sound back g e = is-return _ g e path_back
  plain-sound (give v) g e = is_give_lem _ v g e path_give
  plain-sound (update op) g e = is-end _ g e path_update
  plain-sound (update_with op v) g e = is-end _ g e path_update_with

  mutual
    unfolding quiet

    pub sound : (a : Act) (g : Goal) → quiet k a g ≡ true → Found (λ w. Path prog w a) g
    sound (plain p) g e = plain-sound p g e
    sound (cycle b) g e = elim (or (is_end g && quiets k b leave) (is_far g && quiets k b g) e) [
      | inl q ↦ let x = and (is_end g) (quiets k b leave) q in is-end _ g x.0 (path_out (to-exit _ (sounds b leave x.1)))
      | inr q ↦ let x = and (is_far g) (quiets k b g) q in onto (λ w d p. path_in (is-far d x.0) p) (sounds b g x.1)
    ]
    sound (choice by_token q o) g e = sound-other o by_token q g else_token e
    sound (choice (by_rule r) q o) g e = elim (or (is_call r g) (quiet_named k r q g || (k.some_value r (λ v. not (named v q)) && quiet_other k o g)) e) [
      | inl y ↦ is_called _ r g y path_selects
      | inr y ↦ elim (or (quiet_named k r q g) (k.some_value r (λ v. not (named v q)) && quiet_other k o g) y) [
        | inl z ↦ onto (λ w d p. by_value r o p) (sound-named q r g z)
        | inr z ↦ let x = and (k.some_value r (λ v. not (named v q))) (quiet_other k o g) z in
            let u = h.of_values r (λ v. not (named v q)) x.0 in
            sound-unnamed o r u.value q g u.quietly (not-true (named u.value q) u.has) x.1
      ]
    ]
    sound (choice (by_operation op) q o) g e = elim (or (quiet_some k q g) (quiet_other k o g) e) [
      | inl z ↦ onto (λ w d p. path_labelled opens_operation p) (sound-some q g z)
      | inr z ↦ sound-other o (by_operation op) q g (else_opens opens_operation) z
    ]
    sound (choice (by_operation_with op u) q o) g e = elim (or (quiet_some k q g) (quiet_other k o g) e) [
      | inl z ↦ onto (λ w d p. path_labelled opens_operation_with p) (sound-some q g z)
      | inr z ↦ sound-other o (by_operation_with op u) q g (else_opens opens_operation_with) z
    ]

    pub sounds : (q : Acts) (g : Goal) → quiets k q g ≡ true → Found (λ w. Paths prog w q) g
    sounds done g e = is-end _ g e paths_done
    sounds (a ▸ q) g e = elim (or (not (is_end g) && quiet k a g) (quiet k a end && quiets k q g) e) [
      | inl y ↦ let x = and (not (is_end g)) (quiet k a g) y in onto (λ w d p. paths_here (is-away d x.0) p) (sound a g x.1)
      | inr y ↦ let x = and (quiet k a end) (quiets k q g) y in
          let p : Path prog to_end a = to_end_lem (λ w. Path prog w a) (sound a end x.0) in
          onto (λ w d p₁. paths_later p p₁) (sounds q g x.1)
    ]

    sound-some : (q : Alts) (g : Goal) → quiet_some k q g ≡ true → Found (λ w. PathsSome prog w q) g
    sound-some nil g e = never e
    sound-some (alternative ls b q) g e = elim (or (quiets k b g) (quiet_some k q g) e) [
      | inl y ↦ onto (λ w d p. paths_this p) (sounds b g y)
      | inr y ↦ onto (λ w d p. paths_that p) (sound-some q g y)
    ]

    sound-named : (q : Alts) (r : ℕ) (g : Goal) → quiet_named k r q g ≡ true → Found (λ w. Valued prog r w q) g
    sound-named nil r g e = never e
    sound-named (alternative ls b q) r g e = elim (or (k.some_value r (λ v. member v ls) && quiets k b g) (quiet_named k r q g) e) [
      | inl y ↦ let x = and (k.some_value r (λ v. member v ls)) (quiets k b g) y in
          let u = h.of_values r (λ v. member v ls) x.0 in
          onto (λ w d p. valued u.quietly (for_this u.has p)) (sounds b g x.1)
      | inr y ↦ onto (λ w d p. later p) (sound-named q r g y)
    ]

    sound-other : (o : Other) (s : Selector) (q : Alts) (g : Goal) → OpensElse s → quiet_other k o g ≡ true → Found (λ w. Path prog w (choice s q o)) g
    sound-other absent s q g x e = never e
    sound-other (otherwise b) s q g x e = onto (λ w d p. path_otherwise x p) (sounds b g e)

    sound-unnamed : (o : Other) (r v : ℕ) (q : Alts) (g : Goal) → Gives prog r v → named v q ≡ false → quiet_other k o g ≡ true → Found (λ w. Path prog w (choice (by_rule r) q o)) g
    sound-unnamed absent r v q g x n e = never e
    sound-unnamed (otherwise b) r v q g x n e = onto (λ w d p. path_unnamed x n p) (sounds b g e)

  mutual
    unfolding loop

    loop-sound : (a : Act) → loop k a ≡ true → Loop prog a
    loop-sound (plain p) e = never e
    loop-sound (cycle b) e = elim (or (quiets k b end) (loops k b) e) [
      | inl y ↦ loop_here (to_end_lem _ (sounds b end y))
      | inr y ↦ loop_in (loops-sound b y)
    ]
    loop-sound (choice s q o) e = elim (or (loops_some k q) (loops_other k o) e) [
      | inl y ↦ loop_labelled (loops-some-sound q y)
      | inr y ↦ loops-other-sound o s q y
    ]

    pub loops-sound : (q : Acts) → loops k q ≡ true → Loops prog q
    loops-sound done e = never e
    loops-sound (a ▸ q) e = elim (or (loop k a) (loops k q) e) [
      | inl y ↦ loops_here (loop-sound a y)
      | inr y ↦ loops_later (loops-sound q y)
    ]

    loops-some-sound : (q : Alts) → loops_some k q ≡ true → LoopsSome prog q
    loops-some-sound nil e = never e
    loops-some-sound (alternative ls b q) e = elim (or (loops k b) (loops_some k q) e) [
      | inl y ↦ loops_this (loops-sound b y)
      | inr y ↦ loops_that (loops-some-sound q y)
    ]

    loops-other-sound : (o : Other) (s : Selector) (q : Alts) → loops_other k o ≡ true → Loop prog (choice s q o)
    loops-other-sound absent s q e = never e
    loops-other-sound (otherwise b) s q e = loop_otherwise (loops-sound b e)

  pub passes-sound : (r : ℕ) → r < length prog → passes k (body_of prog r) ≡ true → Passed prog r
  unfolding passes
  passes-sound r l e = elim (or (quiets k (body_of prog r) end) (quiets k (body_of prog r) return) e) [
    | inl y ↦ passed l by_end (to_end_lem _ (sounds (body_of prog r) end y))
    | inr y ↦ returned (sounds (body_of prog r) return y)
  ]
    where
      returned : Found (λ w. Paths prog w (body_of prog r)) return → Passed prog r
      returned (found to_back meets-back p) = passed l by_back p
      returned (found (to_give v) meets_any p) = passed l by_give p
      returned (found to_end x'' p) = elim x'' [ ]
      returned (found to_exit x3 p) = elim x3 [ ]
      returned (found (to_call _) x5 p) = elim x5 [ ]

  pub gives-sound : (r v : ℕ) → r < length prog → quiets k (body_of prog r) (gives v) ≡ true → Gives prog r v
  gives-sound r v l e = paths.gives l (to-give _ v (sounds (body_of prog r) (gives v) e))

returns-true : {w : Way} → Returns w → (f : Goal → Bool) → ((g : Goal) → Meets w g → f g ≡ true) → (f end || f return) ≡ true
returns-true by_end f e = or₁ (f end) (f return) (e end meets-end)
returns-true by_back f e = or₂ (f end) (f return) (e return meets-back)
returns-true by_give f e = or₂ (f end) (f return) (e return meets_any)

far-true : {w : Way} {g : Goal} → Far w → Meets w g → is_far g ≡ true
unfolding is_far
far-true far_back meets-back = refl
far-true far_give meets_any = refl
far-true far_give meets-give = refl
far-true far_call meets_call = refl

away-true : {w : Way} {g : Goal} → Away w → Meets w g → not (is_end g) ≡ true
unfolding is_end
away-true away_exit meets-exit = refl
away-true away_back meets-back = refl
away-true away_give meets_any = refl
away-true away_give meets-give = refl
away-true away_call meets_call = refl

end-true : {g : Goal} → Meets to_end g → is_end g ≡ true
unfolding is_end
end-true meets-end = refl

leave-true : {g : Goal} → Meets to_exit g → is_leave g ≡ true
unfolding is_leave
leave-true meets-exit = refl

return-true : {g : Goal} → Meets to_back g → is_return g ≡ true
unfolding is_return
return-true meets-back = refl

give-true : {v : ℕ} {g : Goal} → Meets (to_give v) g → is_give v g ≡ true
unfolding is_give
give-true meets_any = refl
give-true (meets-give {v = v}) = eq-eqb v v refl

call-true : {r : ℕ} {g : Goal} → Meets (to_call r) g → is_call r g ≡ true
unfolding is_call
call-true (meets_call {r = r}) = eq-eqb r r refl

module _ (prog : List Rule) (k : Known) (h : Closed prog k) where
  mutual
    unfolding quiet_plain quiet passes

    pub complete : {w : Way} {a : Act} {g : Goal} → Path prog w a → Meets w g → quiet k a g ≡ true
    complete path_emit m = end-true m
    complete path_error m = end-true m
    complete path_update m = end-true m
    complete path_update_with m = end-true m
    complete {g = g} (path_call {r = r} x) m = or₂ (is_call r g) (is_end g && k.passed r) (both (is_end g) (k.passed r) (end-true m) (complete-passed x))
    complete {g = g} (path_calls {r = r}) m = or₁ (is_call r g) (is_end g && k.passed r) (call-true m)
    complete path_exit m = leave-true m
    complete path_back m = return-true m
    complete path_give m = give-true m
    complete {g = g} (path_out {b = b} x) m = or₁ (is_end g && quiets k b leave) (is_far g && quiets k b g) (both (is_end g) (quiets k b leave) (end-true m) (completes x meets-exit))
    complete (path_around x y) m = complete y m
    complete {g = g} (path_in {w = w} {b = b} f x) m =
        or₂ (is_end g && quiets k b leave) (is_far g && quiets k b g) (both (is_far g) (quiets k b g) (far-true f m) (completes x m))
    complete {g = g} (path_selects {r = r} {q = q} {o = o}) m =
        or₁ (is_call r g) (quiet_named k r q g || (k.some_value r (λ v. not (named v q)) && quiet_other k o g)) (call-true m)
    -- an operation's answer is any
    complete {g = g} (path_labelled {q = q} {o = o} opens_operation y) m = or₁ (quiet_some k q g) (quiet_other k o g) (complete-some y m)
    complete {g = g} (path_labelled {q = q} {o = o} opens_operation_with y) m = or₁ (quiet_some k q g) (quiet_other k o g) (complete-some y m)
    complete (path_otherwise else_token y) m = completes y m
    complete {g = g} (path_otherwise {q = q} {b = b} (else_opens opens_operation) y) m = or₂ (quiet_some k q g) (quiets k b g) (completes y m)
    complete {g = g} (path_otherwise {q = q} {b = b} (else_opens opens_operation_with) y) m = or₂ (quiet_some k q g) (quiets k b g) (completes y m)
    complete {g = g} (path_named {r = r} {q = q} {o = o} x y) m =
        or₂ (is_call r g) (quiet_named k r q g || (k.some_value r (λ v. not (named v q)) && quiet_other k o g))
        (or₁ (quiet_named k r q g) (k.some_value r (λ v. not (named v q)) && quiet_other k o g) (complete-named y r (λ p e. complete-gives x p e) m))
    complete {g = g} (path_unnamed {r = r} {v = v} {q = q} {b = b} x n y) m =
        or₂ (is_call r g) (quiet_named k r q g || (k.some_value r (λ v. not (named v q)) && quiets k b g))
        (or₂ (quiet_named k r q g) (k.some_value r (λ v. not (named v q)) && quiets k b g)
        (both (k.some_value r (λ v. not (named v q))) (quiets k b g) (complete-gives x (λ v. not (named v q)) (ap not n)) (completes y m)))

    pub completes : {w : Way} {q : Acts} {g : Goal} → Paths prog w q → Meets w g → quiets k q g ≡ true
    completes paths_done m = end-true m
    completes {g = g} (paths_here {a = a} {q = q} x y) m =
        or₁ (not (is_end g) && quiet k a g) (quiet k a end && quiets k q g) (both (not (is_end g)) (quiet k a g) (away-true x m) (complete y m))
    completes {g = g} (paths_later {a = a} {q = q} x y) m =
        or₂ (not (is_end g) && quiet k a g) (quiet k a end && quiets k q g) (both (quiet k a end) (quiets k q g) (complete x meets-end) (completes y m))

    complete-some : {w : Way} {q : Alts} {g : Goal} → PathsSome prog w q → Meets w g → quiet_some k q g ≡ true
    complete-some {g = g} (paths_this {b = b} {q = q} x) m = or₁ (quiets k b g) (quiet_some k q g) (completes x m)
    complete-some {g = g} (paths_that {b = b} {q = q} x) m = or₂ (quiets k b g) (quiet_some k q g) (complete-some x m)

    complete-named : {v : ℕ} {w : Way} {q : Alts} {g : Goal} → PathsFor prog v w q → (r : ℕ) → ((p : ℕ → Bool) → p v ≡ true → k.some_value r p ≡ true) → Meets w g → quiet_named k r q g ≡ true
    complete-named {g = g} (for_this {ls = ls} {b = b} {q = q} e x) r u m =
        or₁ (k.some_value r (λ v. member v ls) && quiets k b g) (quiet_named k r q g)
        (both (k.some_value r (λ v. member v ls)) (quiets k b g) (u (λ v. member v ls) e) (completes x m))
    complete-named {g = g} (for_that {ls = ls} {b = b} {q = q} x) r u m =
        or₂ (k.some_value r (λ v. member v ls) && quiets k b g) (quiet_named k r q g) (complete-named x r u m)

    complete-gives : {r v : ℕ} → Gives prog r v → (p : ℕ → Bool) → p v ≡ true → k.some_value r p ≡ true
    complete-gives (paths.gives {r = r} {v = v} l x) p e = h.of_values r v p l (completes x meets-give) e

    pub complete-passed : {r : ℕ} → Passed prog r → k.passed r ≡ true
    complete-passed (passed {r = r} l x p) = h.of-passed r l (returns-true x (quiets k (body_of prog r)) (λ g m. completes p m))

  mutual
    unfolding loop

    loop-complete : {a : Act} → Loop prog a → loop k a ≡ true
    loop-complete (loop_here {b = b} x) = or₁ (quiets k b end) (loops k b) (completes x meets-end)
    loop-complete (loop_in {b = b} x) = or₂ (quiets k b end) (loops k b) (loops-complete x)
    loop-complete (loop_labelled {q = q} {o = o} x) = or₁ (loops_some k q) (loops_other k o) (loops-some-complete x)
    loop-complete (loop_otherwise {q = q} {b = b} x) = or₂ (loops_some k q) (loops k b) (loops-complete x)

    pub loops-complete : {q : Acts} → Loops prog q → loops k q ≡ true
    loops-complete (loops_here {a = a} {q = q} x) = or₁ (loop k a) (loops k q) (loop-complete x)
    loops-complete (loops_later {a = a} {q = q} x) = or₂ (loop k a) (loops k q) (loops-complete x)

    loops-some-complete : {q : Alts} → LoopsSome prog q → loops_some k q ≡ true
    loops-some-complete (loops_this {b = b} {q = q} x) = or₁ (loops k b) (loops_some k q) (loops-complete x)
    loops-some-complete (loops_that {b = b} {q = q} x) = or₂ (loops k b) (loops_some k q) (loops-some-complete x)
