-- One turn of `visits_of`, by what the step does, and what holds at the head of the loop of `count_book`.
use mathlib.Core.Bool.{Bool, true, false, false≢true}
use mathlib.Core.List.{List, [], ◌∷◌}
use mathlib.Core.Path.{◌≡◌, refl, sym, ap, ◌∙◌, subst}
use Prim.Native.Nat.{ℕ, zero, suc, ◌+◌, ◌*◌, ◌-◌, ◌%◌, ◌<◌, ◌≤◌}
use native.Mathlib.Omega.{arith}
use lib.Dec.{eqb, leb, ltb}
use lib.ListN.{length, set, get_or, replicate}
use borrow.Author.Tests.{eqb-false, leb-true}
use Rattle.base.proofs.Laws.{above_zero}
use Rattle.std.specs.Prelude.{if◌then◌else◌}
use Rattle.machine.specs.Bytes.{count, word_at}
use Rattle.counting.specs.Counting.{visits_of, book_visits, book_of, Inside, Numbers, told_of}
use Rattle.figures.proofs.Sums.{sum-bumps, count_most, length-bump}
use Rattle.figures.specs.Figures.{sum, bump, bumps}
use Rattle.machine.specs.Lengths.{length_of}
use Rattle.walker.proofs.Go as go
use Rattle.walker.proofs.Keeps.{Keeps, keeps}
use Rattle.walker.proofs.LinkWords.{count-put_event}
use Rattle.walker.specs.Shape.{fresh_at, with_depth, size, operand, table_at, choice_of, default_of, take_input, take_other, spent_one, forward_of, back_of, mend_of, input_of, any_of, tell_of, input_choice_of, call_of, back_to, return_of, ask_of, answer_of, act_of, operate_of, fetched_of, step_of, put_event, number_of, ended, go_of, Outcome}
use Rattle.walker.specs.declared.Event.{Event}
use Rattle.walker.specs.declared.Next.{Next}
use Rattle.walker.specs.declared.Reason.{Reason}
use Rattle.walker.specs.declared.Phase.{Phase}
use Rattle.walker.specs.declared.Registers.{Registers}
use Rattle.walker.specs.declared.Target.{Target}

module _ (t k a : List ℕ) where
  module _ (r : Registers) (rs : List ℕ) (room : ℕ) where
    abbrev stepped : Next
    stepped = step_of rs t k a room false r

    full : (n : ℕ) → 0 < n → stepped ≡ Next.Full → visits_of t k a n r rs room ≡ []
    unfolding visits_of
    full zero h s = absurd (omega arith)
    full (suc n) h s = rw (s, visits_of) refl

    outside : (n : ℕ) → 0 < n → stepped ≡ Next.Outside → visits_of t k a n r rs room ≡ []
    unfolding visits_of
    outside zero h s = absurd (omega arith)
    outside (suc n) h s = rw (s, visits_of) refl

    stops : (n : ℕ) (x : Reason) → 0 < n → stepped ≡ Next.Stop x → visits_of t k a n r rs room ≡ r.location ∷ []
    unfolding visits_of
    stops zero x h s = absurd (omega arith)
    stops (suc n) x h s = rw (s, visits_of) refl

    on : (n m : ℕ) (v : Registers) → n ≡ m + 1 → stepped ≡ Next.On v → visits_of t k a n r rs room ≡ r.location ∷ visits_of t k a m v rs room
    unfolding visits_of
    on zero m v h s = absurd (omega arith)
    on (suc n) m v h s = let q : n ≡ m = omega arith in rw (s, visits_of) (ap (λ (j : ℕ). r.location ∷ visits_of t k a j v rs room) q)

    tells : (n m : ℕ) (v : Registers) (x : Event) → n ≡ m + 1 → stepped ≡ Next.Tells v x → visits_of t k a n r rs room ≡ r.location ∷ visits_of t k a m v rs (room - 3)
    unfolding visits_of
    tells zero m v x h s = absurd (omega arith)
    tells (suc n) m v x h s = let q : n ≡ m = omega arith in rw (s, visits_of) (ap (λ (j : ℕ). r.location ∷ visits_of t k a j v rs (room - 3)) q)

    pushes : (n m : ℕ) (v : Registers) (l : ℕ) → n ≡ m + 1 → stepped ≡ Next.Push v l
        → visits_of t k a n r rs room ≡ r.location ∷ visits_of t k a m (with_depth v (v.depth + 1)) (set rs v.depth l) room
    unfolding visits_of
    pushes zero m v l h s = absurd (omega arith)
    pushes (suc n) m v l h s = let q : n ≡ m = omega arith in rw (s, visits_of) (ap (λ (j : ℕ). r.location ∷ visits_of t k a j (with_depth v (v.depth + 1)) (set rs v.depth l) room) q)

  none_left : (n : ℕ) (r : Registers) (rs : List ℕ) (room : ℕ) → n ≡ 0 → visits_of t k a n r rs room ≡ []
  unfolding visits_of
  none_left n r rs room z = rw z refl

-- A step that is done stands inside the table

abbrev Done : Next → Type 0
Done Next.Full = Unit {0}
Done Next.Outside = ⊥
Done (Next.Stop x) = Unit {0}
Done (Next.On v) = Unit {0}
Done (Next.Tells v x) = Unit {0}
Done (Next.Push v l) = Unit {0}
Done (Next.Waits v x) = Unit {0}

size-most : (t : List ℕ) → size t ≤ 4096
size-most t = omega arith

either : (P : Type 0) (b : Bool) (x y : Next) → (b ≡ true → Done x → P) → (b ≡ false → Done y → P) → Done (if b then x else y) → P
either P true x y f g d = f refl d
either P false x y f g d = g refl d

stands : (rs t k a : List ℕ) (room : ℕ) (q : Bool) (r : Registers) → Done (step_of rs t k a room q r) → Inside r.location
unfolding step_of
stands rs t k a room q r d =
    either (Inside r.location) (eqb r.location 0) Next.Outside (if leb r.location (size t) then fetched_of rs t k a room q (word_at t (r.location - 1)) r else Next.Outside)
    (λ e z. absurd z)
    (λ e. either (Inside r.location) (leb r.location (size t)) (fetched_of rs t k a room q (word_at t (r.location - 1)) r) Next.Outside
    (λ f z. let n = eqb-false r.location 0 e in let b = leb-true r.location (size t) f in (above_zero r.location n, omega (arith, size-most t)))
    (λ f z. absurd z)) d

-- A whole walk hands nothing out

abbrev Takes : Next → Type 0
Takes Next.Full = Unit {0}
Takes Next.Outside = Unit {0}
Takes (Next.Stop x) = Unit {0}
Takes (Next.On v) = Unit {0}
Takes (Next.Tells v x) = Unit {0}
Takes (Next.Push v l) = Unit {0}
Takes (Next.Waits v x) = ⊥

whole : (b : Bool) (x y : Next) → Takes x → Takes y → Takes (if b then x else y)
whole true x y f g = f
whole false x y f g = g

module _ (room : ℕ) (r : Registers) where
  other-takes : (g : Target) → Takes (take_other r g)
  unfolding take_other
  other-takes (Target.Label l) = tt
  other-takes (Target.Otherwise l) = tt
  other-takes Target.Outside = tt

  input-takes : (x : ℕ) (g : Target) → Takes (take_input r x g)
  unfolding take_input
  input-takes x (Target.Label l) = tt
  input-takes x (Target.Otherwise l) = tt
  input-takes x Target.Outside = tt

  tell-takes : (l : ℕ) (e : Event) (v : Registers) → Takes (tell_of room l e v)
  unfolding tell_of
  tell-takes l e v = whole (leb 3 room) _ _ tt tt

  answer-takes : (a : List ℕ) (e : Event) → Takes (answer_of room false a e r)
  unfolding answer_of ask_of
  answer-takes a e = whole (leb 3 room) _ _ (whole (ltb r.used (count a)) _ _ tt tt) tt

  operate-takes : (a : List ℕ) (i : ℕ) → Takes (operate_of room false a i r)
  unfolding operate_of
  operate-takes a i =
      whole (ltb i 256) _ _ tt (whole (ltb i 512) _ _ (tell-takes _ _ r) (whole (ltb i 768) _ _ (tell-takes _ _ r)
      (whole (ltb i 1024) _ _ (answer-takes a _) (whole (ltb i 1280) _ _ (answer-takes a _) tt))))

  module _ (rs t k : List ℕ) where
    mend-takes : Takes (mend_of t room r)
    unfolding mend_of
    mend-takes = whole (ltb 0 (r.allowance % 65536)) _ _ (tell-takes _ _ (spent_one r)) tt

    act-takes : (i : ℕ) → Takes (act_of rs t k room i r)
    unfolding act_of forward_of back_of input_of any_of input_choice_of call_of return_of back_to
    act-takes i =
        whole (eqb i 1) _ _ (whole (leb (table_at t r.location) (size t)) _ _ tt tt)
        (whole (eqb i 2) _ _ (whole (leb (operand t r.location) r.location) _ _ tt tt)
        (whole (eqb i 3) _ _ (whole (ltb r.read (count k)) _ _ (whole (eqb (word_at k r.read) (operand t r.location)) _ _ tt mend-takes) mend-takes)
        (whole (eqb i 4) _ _ (whole (ltb r.read (count k)) _ _ tt tt)
        (whole (eqb i 5) _ _ (tell-takes _ _ r)
        (whole (eqb i 6) _ _ (tell-takes _ _ r)
        (whole (eqb i 7) _ _ (whole (ltb r.read (count k)) _ _ (input-takes _ (choice_of t r.location (word_at k r.read))) (other-takes (default_of t r.location)))
        (whole (eqb i 8) _ _ (whole (eqb (operand t r.location) 0) _ _ tt (whole (leb (operand t r.location) (size t)) _ _ (whole (ltb r.depth 64) _ _ tt tt) tt))
        (whole (eqb i 9) _ _ (whole (eqb r.depth 0) _ _ tt (whole (eqb (get_or rs (r.depth - 1) 0) 0) _ _ tt (whole (leb (get_or rs (r.depth - 1) 0) (size t)) _ _ tt tt)))
        (whole (eqb i 10) _ _ tt
        (whole (eqb i 11) _ _ (other-takes (choice_of t r.location (r.result % 65536)))
        (whole (eqb i 12) _ _ tt (whole (eqb i 13) _ _ tt tt))))))))))))

    step-takes : (a : List ℕ) → Takes (step_of rs t k a room false r)
    unfolding step_of fetched_of
    step-takes a =
        let i = word_at t (r.location - 1) in
        whole (eqb r.location 0) _ _ tt (whole (leb r.location (size t)) _ _
        (whole (ltb i 14) _ _ (whole (leb (r.location + length_of i) (size t + 1)) _ _ (act-takes i) tt) (operate-takes a i)) tt)

    pub never-waits : (a : List ℕ) (v : Registers) (x : Event) → step_of rs t k a room false r ≡ Next.Waits v x → ⊥
    never-waits a v x s = subst Takes s (step-takes a)

-- Counting

-- what holds of the counts cs, with vs still to come and X to be reached, if they are written
pub record Counts (writes : Bool) (vs X cs : List ℕ) : Type 0 where
  pub size : length cs ≡ 4096
  pub counts : (if writes then bumps cs vs else cs) ≡ X
  pub fits : writes ≡ true → sum cs + length vs < 18446744073709551616

-- what a whole call makes of the counts
abbrev pub counts-then : List ℕ → List ℕ → List ℕ → ℕ → ℕ → Bool → List ℕ → List ℕ → List ℕ
counts-then t k a budget allowance writes o cs = if writes then bumps cs (book_visits t k a budget allowance (count o)) else cs

-- what holds at the head of the loop of `count_book`; the definition's event buffer is the code's, if that is written, and as long in any case
pub record Inv (t k a : List ℕ) (budget allowance : ℕ) (writes : Bool) (o₀ cs₀ : List ℕ) (r : Registers) (rs o : List ℕ) (e d room : ℕ) (cs : List ℕ) : Type 0 where
  pub buffer : List ℕ
  pub deep : r.depth ≤ 64
  pub left : 3 * e + room ≡ count o
  pub as_long : length o ≡ length o₀
  pub as_many : count buffer ≡ count o
  pub within : d ≤ budget
  pub same : go_of t k a false (budget - d) r rs buffer e d ≡ book_of t k a budget allowance o₀
  pub written : o ≡ (if writes then buffer else o₀)
  pub all : Counts writes (visits_of t k a (budget - d) r rs room) (counts-then t k a budget allowance writes o₀ cs₀) cs

-- one location more
counted : (w : Bool) (l : ℕ) (vs rest X cs cs' : List ℕ) → vs ≡ l ∷ rest → Inside l → Counts w vs X cs → cs' ≡ (if w then bump cs l else cs) → Counts w rest X cs'
unfolding bumps
counted true l vs rest X cs cs' e i c p =
    let f : sum (bump cs l) ≡ sum cs + 1 = sum-bumps cs (l ∷ []) (rw c.size i, tt) in
    let g : length vs ≡ suc (length rest) = ap (λ (x : List ℕ). length x) e in
    let z : sum cs' ≡ sum (bump cs l) = ap sum p in
    record {
      size = ap (λ (x : List ℕ). length x) p ∙ length-bump cs l ∙ c.size;
      counts = ap (λ (x : List ℕ). bumps x rest) p ∙ sym (ap (bumps cs) e) ∙ c.counts;
      fits = λ y. omega (arith, c.fits refl);
    }
counted false l vs rest X cs cs' e i c p = record {
  size = ap (λ (x : List ℕ). length x) p ∙ c.size;
  counts = p ∙ c.counts;
  fits = λ y. absurd (false≢true y);
}

-- and its count has room
has_room : (w : Bool) (l : ℕ) (vs rest X cs : List ℕ) → vs ≡ l ∷ rest → Counts w vs X cs → w ≡ true → get_or cs (l - 1) 0 + 1 < 18446744073709551616
has_room w l vs rest X cs e c y =
    let g : length vs ≡ suc (length rest) = ap (λ (x : List ℕ). length x) e in
    omega (arith, count_most cs (l - 1), c.fits y)

-- nothing more to count
counted-all : (w : Bool) (vs X cs : List ℕ) → vs ≡ [] → Counts w vs X cs → cs ≡ X
unfolding bumps
counted-all true vs X cs e c = sym (ap (bumps cs) e) ∙ c.counts
counted-all false vs X cs e c = c.counts

-- what the loop is left with: number, events and steps; the event buffer; the counts
abbrev pub tells_of : Outcome → Numbers
tells_of x = told_of x.number x.events x.steps

abbrev pub Left : Numbers → List ℕ → List ℕ → Outcome → List ℕ → List ℕ → Type 0
Left r o cs book out all = (r ≡ tells_of book) × ((o ≡ out) × (cs ≡ all))

-- after a step that is done the walk goes on; b is the definition's event buffer before it
pub record Moved (t k a : List ℕ) (budget : ℕ) (writes : Bool) (o₀ : List ℕ) (r : Registers) (rs b o : List ℕ) (e d room : ℕ) (r' : Registers) (rs' o' : List ℕ) (e' room' : ℕ) : Type 0 where
  pub buffer : List ℕ
  pub deep : r'.depth ≤ 64
  pub left : 3 * e' + room' ≡ count o'
  pub as_long : length o' ≡ length o
  pub as_many : count buffer ≡ count o'
  pub stands : Inside r.location
  pub same : go_of t k a false (budget - d) r rs b e d ≡ go_of t k a false (budget - (d + 1)) r' rs' buffer e' (d + 1)
  pub written : o' ≡ (if writes then buffer else o₀)
  pub visits : visits_of t k a (budget - d) r rs room ≡ r.location ∷ visits_of t k a (budget - (d + 1)) r' rs' room'

pub moved_as : {t k a : List ℕ} {budget : ℕ} {writes : Bool} {o₀ : List ℕ} {r : Registers} {rs b o : List ℕ} {e d room : ℕ} {r₁ r₂ : Registers} {rs₁ rs₂ o₁ o₂ : List ℕ} {e₁ e₂ room₁ room₂ : ℕ}
    → r₂ ≡ r₁ → rs₂ ≡ rs₁ → o₂ ≡ o₁ → e₂ ≡ e₁ → room₂ ≡ room₁ → Moved t k a budget writes o₀ r rs b o e d room r₁ rs₁ o₁ e₁ room₁ → Moved t k a budget writes o₀ r rs b o e d room r₂ rs₂ o₂ e₂ room₂
moved_as p q s u v m = rw (p, q, s, u, v) m

as-counted : (x y : List ℕ) → length x ≡ length y → count x ≡ count y
unfolding count
as-counted x y e = rw e refl

-- one event more
told-on : (w : Bool) (o₀ b o o' : List ℕ) (i : ℕ) (x : Event) → o ≡ (if w then b else o₀) → o' ≡ (if w then put_event o i x else o) → o' ≡ (if w then put_event b i x else o₀)
told-on true o₀ b o o' i x p q = q ∙ ap (λ (y : List ℕ). put_event y i x) p
told-on false o₀ b o o' i x p q = q ∙ p

-- the first turn
pub start : (t k a : List ℕ) (budget allowance : ℕ) (writes : Bool) (o cs : List ℕ) (room : ℕ) → room ≡ count o → length cs ≡ 4096
    → (writes ≡ true → sum cs + length (book_visits t k a budget allowance (count o)) < 18446744073709551616)
    → Inv t k a budget allowance writes o cs (fresh_at allowance) (replicate 64 0) o 0 0 room cs
unfolding book_of book_visits
start t k a budget allowance writes o cs room e size fits =
    let z : budget - 0 ≡ budget = omega arith in
    record {
      buffer = o;
      deep = omega arith;
      left = omega arith;
      as_long = refl;
      as_many = refl;
      within = omega arith;
      same = ap (λ (n : ℕ). go_of t k a false n (fresh_at allowance) (replicate 64 0) o 0 0) z;
      written = either_way writes o;
      all = rw (z, e) (record { size = size; counts = refl; fits = fits });
    }
  where
    either_way : (w : Bool) (x : List ℕ) → x ≡ (if w then x else x)
    either_way true x = refl
    either_way false x = refl

module _ (t k a : List ℕ) (budget allowance : ℕ) (writes : Bool) (o₀ cs₀ : List ℕ) (r : Registers) (rs o : List ℕ) (e d room : ℕ) (cs : List ℕ)
    (inv : Inv t k a budget allowance writes o₀ cs₀ r rs o e d room cs) where
  abbrev b : List ℕ
  b = inv.buffer

  abbrev Done-with : Numbers → List ℕ → Type 0
  Done-with x cs' = Left x o cs' (book_of t k a budget allowance o₀) (if writes then (book_of t k a budget allowance o₀).out else o₀) (counts-then t k a budget allowance writes o₀ cs₀)

  ends_as : (ph : Phase) (number steps : ℕ) (cs' : List ℕ) → go_of t k a false (budget - d) r rs b e d ≡ ended ph r rs b e steps number
      → cs' ≡ counts-then t k a budget allowance writes o₀ cs₀ → Done-with (told_of number e steps) cs'
  ends_as ph number steps cs' p z =
      let q : ended ph r rs b e steps number ≡ book_of t k a budget allowance o₀ = sym p ∙ inv.same in
      (ap tells_of q, (inv.written ∙ ap (λ (y : Outcome). if writes then y.out else o₀) q, z))

  pub at-spent : budget ≤ d → Done-with (told_of 36 e d) cs
  at-spent h =
      let z : budget - d ≡ 0 = omega arith in
      ends_as Phase.Going 36 d cs (go.spent t k a false (budget - d) r rs b e d z) (counted-all _ _ _ _ (none_left t k a (budget - d) r rs room z) inv.all)

  module _ (more : d < budget) where
    room-is : count b - 3 * e ≡ room
    room-is = omega (arith, inv.left, inv.as_many)

    -- the walker's step is the one that was taken
    abbrev As : Next → Type 0
    As x = step_of rs t k a room false r ≡ x

    in-go : (x : Next) → As x → go.stepped t k a false r rs b e d ≡ x
    in-go x s = ap (λ (n : ℕ). step_of rs t k a n false r) room-is ∙ s

    pub at-full : As Next.Full → Done-with (told_of 35 e d) cs
    at-full s =
        ends_as Phase.Going 35 d cs (go.full t k a false r rs b e d (budget - d) (omega arith) (in-go Next.Full s))
        (counted-all _ _ _ _ (full t k a r rs room (budget - d) (omega arith) s) inv.all)

    pub at-outside : As Next.Outside → Done-with (told_of 37 e d) cs
    at-outside s =
        ends_as (Phase.Stopped Reason.Outside) 37 d cs (go.outside t k a false r rs b e d (budget - d) (omega arith) (in-go Next.Outside s))
        (counted-all _ _ _ _ (outside t k a r rs room (budget - d) (omega arith) s) inv.all)

    stop-here : (x : Reason) → As (Next.Stop x) → Inside r.location
    stop-here x s = stands rs t k a room false r (subst Done (sym s) tt)

    pub stop-room : (x : Reason) → As (Next.Stop x) → (length cs ≡ 4096) × (Inside r.location × (writes ≡ true → get_or cs (r.location - 1) 0 + 1 < 18446744073709551616))
    stop-room x s = (inv.all.size, (stop-here x s, has_room _ _ _ _ _ _ (stops t k a r rs room (budget - d) x (omega arith) s) inv.all))

    pub at-stop : (x : Reason) (cs' : List ℕ) → As (Next.Stop x) → cs' ≡ (if writes then bump cs r.location else cs) → Done-with (told_of (number_of x) e (d + 1)) cs'
    at-stop x cs' s p =
        ends_as (Phase.Stopped x) (number_of x) (d + 1) cs' (go.stops t k a false r rs b e d (budget - d) x (omega arith) (in-go (Next.Stop x) s))
        (counted-all _ _ _ _ refl (counted _ _ _ [] _ _ _ (stops t k a r rs room (budget - d) x (omega arith) s) (stop-here x s) inv.all p))

    kept : (x : Next) → As x → Keeps room r x
    kept x s = subst (Keeps room r) s (keeps room r rs t k a false)

    pub moved_on : (v : Registers) → As (Next.On v) → Moved t k a budget writes o₀ r rs b o e d room v rs o e room
    moved_on v s = record {
      buffer = b;
      deep = omega (arith, inv.deep, (kept (Next.On v) s).depth);
      left = inv.left;
      as_long = refl;
      as_many = inv.as_many;
      written = inv.written;
      stands = stands rs t k a room false r (subst Done (sym s) tt);
      same = go.on t k a false r rs b e d (budget - d) (budget - (d + 1)) v (omega arith) (in-go (Next.On v) s);
      visits = on t k a r rs room (budget - d) (budget - (d + 1)) v (omega arith) s;
    }

    pub tells-room : (v : Registers) (x : Event) → As (Next.Tells v x) → 3 ≤ room
    tells-room v x s = (kept (Next.Tells v x) s).1

    pub moved-tells : (v : Registers) (x : Event) (o' : List ℕ) → As (Next.Tells v x) → o' ≡ (if writes then put_event o (3 * e) x else o) → length o' ≡ length o
        → Moved t k a budget writes o₀ r rs b o e d room v rs o' (e + 1) (room - 3)
    moved-tells v x o' s p q =
        let h = tells-room v x s in
        let c : count o' ≡ count o = as-counted o' o q in
        record {
          buffer = put_event b (3 * e) x;
          deep = omega (arith, inv.deep, (kept (Next.Tells v x) s).0.depth);
          left = omega (arith, inv.left, c);
          as_long = q;
          as_many = count-put_event b (3 * e) x ∙ inv.as_many ∙ sym c;
          stands = stands rs t k a room false r (subst Done (sym s) tt);
          same = go.tells t k a false r rs b e d (budget - d) (budget - (d + 1)) v x (omega arith) (in-go (Next.Tells v x) s);
          written = told-on writes o₀ b o o' (3 * e) x inv.written p;
          visits = tells t k a r rs room (budget - d) (budget - (d + 1)) v x (omega arith) s;
        }

    pub push-deep : (v : Registers) (l : ℕ) → As (Next.Push v l) → v.depth < 64
    push-deep v l s = (kept (Next.Push v l) s).1

    pub moved-push : (v : Registers) (l : ℕ) → As (Next.Push v l) → Moved t k a budget writes o₀ r rs b o e d room (with_depth v (v.depth + 1)) (set rs v.depth l) o e room
    moved-push v l s =
        let h = push-deep v l s in
        record {
          buffer = b;
          deep = omega (arith, h);
          left = inv.left;
          as_long = refl;
          as_many = inv.as_many;
          written = inv.written;
          stands = stands rs t k a room false r (subst Done (sym s) tt);
          same = go.pushes t k a false r rs b e d (budget - d) (budget - (d + 1)) v l (omega arith) (in-go (Next.Push v l) s);
          visits = pushes t k a r rs room (budget - d) (budget - (d + 1)) v l (omega arith) s;
        }

  -- the next turn
  module _ (more : d < budget) (r' : Registers) (rs' o' : List ℕ) (e' room' : ℕ) (m : Moved t k a budget writes o₀ r rs b o e d room r' rs' o' e' room') where
    pub move-room : (length cs ≡ 4096) × (Inside r.location × (writes ≡ true → get_or cs (r.location - 1) 0 + 1 < 18446744073709551616))
    move-room = (inv.all.size, (m.stands, has_room _ _ _ _ _ _ m.visits inv.all))

    pub again : (cs' : List ℕ) → cs' ≡ (if writes then bump cs r.location else cs) → Inv t k a budget allowance writes o₀ cs₀ r' rs' o' e' (d + 1) room' cs'
    again cs' p = record {
      buffer = m.buffer;
      deep = m.deep;
      left = m.left;
      as_long = m.as_long ∙ inv.as_long;
      as_many = m.as_many;
      within = omega arith;
      same = sym m.same ∙ inv.same;
      written = m.written;
      all = counted _ _ _ _ _ _ _ m.visits m.stands inv.all p;
    }
