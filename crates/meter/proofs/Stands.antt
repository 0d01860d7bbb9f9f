-- What is raised is the number of a path.
use mathlib.Core.Bool.{Bool, true, false}
use mathlib.Core.List.{List}
use mathlib.Core.Option.{Option, none, some}
use mathlib.Core.Path.{◌≡◌, refl, sym, ◌∙◌}
use native.Mathlib.Decide.{dec_lt}
use native.Mathlib.Omega.{arith}
use Prim.Native.Nat.{ℕ, suc, ◌+◌, ◌≤◌, ◌<◌}
use lib.ListN.{length}
use Rattle.base.specs.Bools.{never}
use Rattle.base.specs.Common.{given}
use Rattle.loading.proofs.Members.{fetch-inside, outside-invalid}
use Rattle.machine.specs.Decode.{fetch, Instruction, invalid, call_rule, return, set_result, choice, decode}
use Rattle.figure.specs.Figure.{way_out, Leads, leads_jump, leads_input, leads_any, leads_write, leads_token, leads_call, leads_result, leads_choice, leads_parameter, leads_update, leads_update_with, leads_choose, leads_choose_with, Reached, at_start, End, over, back, Quiet, quiet, Does, does_jump, does_input, does_any, does_write, does_token, does_default, does_call_over, does_call, does_call_stop, does_return, does_result, does_choice, does_end, does_parameter, does_update, does_update_with, does_choose, does_choose_with, does_choose_stop, does_choose_with_stop, any_way, by_result}
use Rattle.meter.specs.Makes.{over_at, back_at, Makes, makes_jump, makes_input, marks_input, makes_any, marks_any, makes_write, makes_token, makes_default, marks_label, makes_call_over, makes_call_back, makes_call_value, marks_call, makes_return, makes_result, makes_choice, makes_end, makes_parameter, makes_update, makes_update_with, makes_choose, makes_choose_over, makes_choose_with, makes_choose_with_over, Alike, alike_over, alike_back, alike_given, Origin, the_start, any_place, Then, Prefix, Comes, Ends, IsOver, is_over_lem, IsBack, is_back, Sound, Stands, stands_place, stands_over, stands_back}
use Rattle.meter.specs.Shaped.{index_of, start_of, InRule, is_choice, Given, given_none, given_some, Shaped}
use Rattle.meter.proofs.Bounds.{index-start, next-to, return-path}

here : {T : List ℕ} {l n : ℕ} {x : Option ℕ} {i : Instruction} {e : End} → decode T l ≡ i → Does T l x i n e → Quiet T l x n e
here {T} {l} {n} {x} {e = e} d h =
    let z : Does T l x (decode T l) n e = rw d h in
    quiet z

long : {T : List ℕ} {b n m : ℕ} {e : End} → n ≡ m → Then T b n e → Then T b m e
long z p = rw (← z) p

long_path : {T : List ℕ} {b n m : ℕ} {e : End} → n ≡ m → Quiet T b none n e → Quiet T b none m e
long_path z p = rw (← z) p

same_end : (e : End) → Alike e e
same_end over = alike_over
same_end (back none) = alike_back
same_end (back (some v)) = alike_given

over-is : {e : End} → Alike over e → IsOver e
over-is alike_over = is_over_lem

back_is : {e : End} → Alike (back none) e → IsBack e
back_is alike_back = is_back

-- a path that is over, and one that is back with a value, are so whatever stands before
then-over : {T : List ℕ} {b n : ℕ} → Then T b n over → Quiet T b none n over
then-over t = go t.alike t.path
  where
    go : {T : List ℕ} {b n : ℕ} {e : End} → Alike over e → Quiet T b none n e → Quiet T b none n over
    go alike_over p = p

then-given : {T : List ℕ} {b n v : ℕ} → Then T b n (back (some v)) → Quiet T b none n (back (some v))
then-given t = go t.alike t.path
  where
    go : {T : List ℕ} {b n v : ℕ} {e : End} → Alike (back (some v)) e → Quiet T b none n e → Quiet T b none n (back (some v))
    go alike_given p = p

is-over-path : {T : List ℕ} {b n : ℕ} {e : End} → IsOver e → Quiet T b none n e → Quiet T b none n over
is-over-path is_over_lem p = p

-- an instruction stands in the table
pub valid-inside : (T : List ℕ) (l : ℕ) → (decode T l ≡ invalid → ⊥) → (1 ≤ l) × (l ≤ length T)
valid-inside T l f = go (given (fetch T l)) refl
  where
    go : (b : Bool) → given (fetch T l) ≡ b → (1 ≤ l) × (l ≤ length T)
    go true e = fetch-inside T l e
    go false e = absurd (f (outside-invalid T l e))

pub set-inside : (T : List ℕ) (l : ℕ) {v : ℕ} → decode T l ≡ set_result v → l ≤ length T
set-inside T l d = (valid-inside T l (λ e. let y : ◌≡◌ {A = ℕ} 0 1 = cc in omega arith)).1

from_start : {T : List ℕ} {s b : ℕ} → Origin T 0 s b → b ≡ s
from_start (the_start e) = e
from_start (any_place h r) = absurd (omega arith)

-- what stands at a place, and at the two numbers of a rule

pub comes-at : {T S : List ℕ} {row : ℕ → ℕ} {flag : ℕ} → Sound T S row flag → (l : ℕ) → l < 4097 → 0 < row l → Comes T S flag l (row l)
comes-at {T} {S} {row} {flag} so l h p = go (so.stands l (omega arith) p)
  where
    go : Stands T S flag l (row l) → Comes T S flag l (row l)
    go (stands_place z c) = c
    go (stands_over r z y c) = absurd (omega arith)
    go (stands_back r z y c) = absurd (omega arith)

module _ {T S : List ℕ} {row : ℕ → ℕ} {flag : ℕ} (few : length S ≤ 128) (so : Sound T S row flag) (r : ℕ) (hr : r < length S) where
  over-at : 0 < row (over_at r) → Ends T S flag r (row (over_at r)) IsOver
  over-at p = go (so.stands (over_at r) (omega arith) p)
    where
      go : {v : ℕ} → Stands T S flag (over_at r) v → Ends T S flag r v IsOver
      go (stands_place z c) = absurd (omega arith)
      go (stands_over q z y c) = let e : r ≡ q = omega arith in rw e c
      go (stands_back q z y c) = absurd (omega arith)

  back_at_lem : 0 < row (back_at r) → Ends T S flag r (row (back_at r)) IsBack
  back_at_lem p = go (so.stands (back_at r) (omega arith) p)
    where
      go : {v : ℕ} → Stands T S flag (back_at r) v → Ends T S flag r v IsBack
      go (stands_place z c) = absurd (omega arith)
      go (stands_over q z y c) = absurd (omega arith)
      go (stands_back q z y c) = let e : r ≡ q = omega arith in rw e c

module _ (T S : List ℕ) (sh : Shaped T S) (called : ℕ → ℕ) (so : Sound T S called 0) (flag : ℕ) (fl : flag ≤ 1) where
  -- a path comes to l of rule r
  pub record Come (r l k : ℕ) : Type 0 where
    begin : ℕ
    before : ℕ
    is_rule : r < length S
    reached : Reached T (start_of S r) l
    origin : Origin T flag (start_of S r) begin
    prefix : Prefix T begin l before
    enough : k ≤ suc before

  comes : {r l k : ℕ} → Come r l k → Comes T S flag l k
  comes {r} c = record { rule = r; begin = c.begin; before = c.before; is_rule = c.is_rule; reached = c.reached; origin = c.origin; prefix = c.prefix; enough = c.enough }

  pub come : {r l k : ℕ} → r < length S → InRule T S r l → Comes T S flag l k → Come r l k
  come {r} {l} {k} hr i c = go c.rule (sh.apart hr c.is_rule i (sh.stays c.is_rule c.reached)) c refl
    where
      go : (q : ℕ) → r ≡ q → (c : Comes T S flag l k) → c.rule ≡ q → Come r l k
      go q e c z =
          let y : c.rule ≡ r = z ∙ sym e in
          record { begin = c.begin; before = c.before; is_rule = hr; reached = rw y at c.reached; origin = rw y at c.origin; prefix = c.prefix; enough = c.enough }

  module _ {r l k : ℕ} (c : Come r l k) where
    place : {m v : ℕ} → Come r m v → Stands T S flag m v
    place z = stands_place (omega (arith, (sh.inside z.is_rule z.reached).1, sh.short)) (comes z)

    -- one instruction more
    on : {i : Instruction} {m : ℕ} → decode T l ≡ i → Leads T l i m → ((n : ℕ) (e : End) → Quiet T m none n e → Does T l none i (suc n) e) → Stands T S flag m (k + 1)
    on d w f = place (record {
      begin = c.begin;
      before = suc c.before;
      is_rule = c.is_rule;
      reached = next-to d c.reached w;
      origin = c.origin;
      prefix = record { then_path = λ n e p. long (omega arith) (c.prefix.then_path (suc n) e (here d (f n e p))) };
      enough = omega (arith, c.enough);
    })

    -- a beginning
    mark : {i : Instruction} {m : ℕ} → decode T l ≡ i → Leads T l i m → 0 < flag → Stands T S flag m flag
    mark d w h = let g = next-to d c.reached w in
        place (record {
          begin = _;
          before = 0;
          is_rule = c.is_rule;
          reached = g;
          origin = any_place h g;
          prefix = record { then_path = λ n e p. long (omega arith) (record { end = e; alike = same_end e; path = p }) };
          enough = fl;
        })

    -- the path so far, to an end

    over-with : {n v : ℕ} → Quiet T l none n over → v < k + n → Stands T S flag (over_at r) v
    over-with {n} p h =
        let t = c.prefix.then_path n over p in
        stands_over r c.is_rule refl (record { begin = c.begin; count = c.before + n; end = t.end; origin = c.origin; path = t.path; is = over-is t.alike; enough = omega (arith, c.enough) })

    over-here : {i : Instruction} → decode T l ≡ i → Does T l none i 1 over → Stands T S flag (over_at r) k
    over-here d h = over-with (here d h) (omega arith)

    back-here : decode T l ≡ return → Stands T S flag (back_at r) k
    back-here d =
        let t = c.prefix.then_path 1 (back none) (here d does_return) in
        stands_back r c.is_rule refl (record { begin = c.begin; count = c.before + 1; end = t.end; origin = c.origin; path = t.path; is = back_is t.alike; enough = omega (arith, c.enough) })

    -- a value is set, and the return stands behind it
    result-here : {v : ℕ} → decode T l ≡ set_result v → Stands T S flag (l + 2) (k + 1)
    result-here {v} d =
        let b = sh.gives c.is_rule c.reached d in
        place (record {
          begin = c.begin;
          before = suc c.before;
          is_rule = c.is_rule;
          reached = next-to d c.reached leads_result;
          origin = c.origin;
          prefix = record { then_path = λ n e p. go b n e p (return-path b p) };
          enough = omega (arith, c.enough);
        })
      where
        go : decode T (l + 2) ≡ return → (n : ℕ) (e : End) → Quiet T (l + 2) none n e → (n ≡ 1) × (e ≡ back none) → Then T c.begin (suc c.before + n) e
        go b n e p z =
            let t = c.prefix.then_path 2 (back (some v)) (here d (does_result (here b does_return))) in
            let y : Then T c.begin (suc c.before + 1) (back none) = record { end = back (some v); alike = alike_back; path = long_path (omega arith) (then-given t) } in
            rw (z.0, z.1) y

    -- Calls

    module _ {s : ℕ} (d : decode T l ≡ call_rule s) (q : index_of S s < length S) where
      to-rule : {b m : ℕ} {e : End} → Origin T 0 (start_of S (index_of S s)) b → Quiet T b none m e → Quiet T s none m e
      to-rule o p = let z = from_start o ∙ index-start S s q in rw z at p

      call-over : Stands T S flag (over_at r) (k + called (over_at (index_of S s)))
      call-over = elim (dec_lt 0 (called (over_at (index_of S s)))) [
        | yes h ↦ let w = over-at sh.few so (index_of S s) q h in over-with (here d (does_call_over (to-rule w.origin (is-over-path w.is w.path)))) (omega (arith, w.enough))
        | no h ↦ over-with (here d does_call_stop) (omega arith)
      ]

      -- back from the called rule
      back_to : {m v : ℕ} → Quiet T s none m (back none) → v ≤ k + m + 1 → Stands T S flag (l + 2) v
      back_to {m} p h = place (record {
        begin = c.begin;
        before = c.before + suc m;
        is_rule = c.is_rule;
        reached = next-to d c.reached leads_call;
        origin = c.origin;
        prefix = record { then_path = λ n e w. long (omega arith) (c.prefix.then_path (suc (m + n)) e (here d (does_call p w refl))) };
        enough = omega (arith, c.enough);
      })

      call_back : is_choice (decode T (l + 2)) ≡ false → 0 < called (back_at (index_of S s)) → Stands T S flag (l + 2) (k + called (back_at (index_of S s)) + 1)
      call_back b h = let w = back_at_lem sh.few so (index_of S s) q h in go w.is w.path w.origin w.enough
        where
          plain : {b : Bool} {y : Option ℕ} {m : ℕ} → Given b y → b ≡ false → Quiet T s none m (back y) → Quiet T s none m (back none)
          plain given_none z p = p
          plain given_some z p = never (sym z)

          go : {e : End} {x m : ℕ} → IsBack e → Quiet T x none m e → Origin T 0 (start_of S (index_of S s)) x → called (back_at (index_of S s)) ≤ m → Stands T S flag (l + 2) (k + called (back_at (index_of S s)) + 1)
          go is_back p o z = let w = to-rule o p in back_to (plain (sh.answers c.is_rule c.reached d w) b w) (omega arith)

      call-value : {x p v : ℕ} → decode T (l + 2) ≡ choice x → InRule T S (index_of S s) p → decode T p ≡ set_result v → 0 < called p → Stands T S flag (way_out T x (some v)) (k + called p + 3)
      call-value {x} {p} {v} b i g h =
          let w = comes-at so p (omega (arith, sh.short, set-inside T p g)) h in
          go w (sh.apart w.is_rule q (sh.stays w.is_rule w.reached) i)
        where
          go : (w : Comes T S 0 p (called p)) → w.rule ≡ index_of S s → Stands T S flag (way_out T x (some v)) (k + called p + 3)
          go w e =
              let re : Reached T (start_of S (index_of S s)) p = rw e at w.reached in
              let o : Origin T 0 (start_of S (index_of S s)) w.begin = rw e at w.origin in
              let z = sh.gives q re g in
              let t = then-given (w.prefix.then_path 2 (back (some v)) (here g (does_result (here z does_return)))) in
              let y = to-rule o t in
              let a = next-to d c.reached leads_call in
              place (record {
                begin = c.begin;
                before = c.before + suc (w.before + 2 + 1);
                is_rule = c.is_rule;
                reached = next-to b a (leads_choice (some v));
                origin = c.origin;
                prefix = record { then_path = λ n e₁ u. long (omega arith) (c.prefix.then_path (suc (w.before + 2 + suc n)) e₁ (here d (does_call y (here b (does_choice (some v) by_result u)) refl))) };
                enough = omega (arith, c.enough, w.enough);
              })

    pub stands : {j v : ℕ} {i : Instruction} → decode T l ≡ i → Makes T S called flag r l k i j v → 0 < v → Stands T S flag j v
    stands d makes_jump h = on d leads_jump (λ n e p. does_jump p)
    stands d makes_input h = over-here d does_input
    stands d marks_input h = mark d leads_input h
    stands d makes_any h = over-here d does_any
    stands d marks_any h = mark d leads_any h
    stands d makes_write h = on d leads_write (λ n e p. does_write p)
    stands d makes_token h = over-here d does_token
    stands d makes_default h = on d (leads_token none) (λ n e p. does_default p)
    stands d (marks_label v) h = mark d (leads_token v) h
    stands d (makes_call_over q) h = call-over d q
    stands d (makes_call_back q b z) h = call_back d q b z
    stands d (makes_call_value q b i g z) h = call-value d q b i g z
    stands d (marks_call q) h = mark d leads_call h
    stands d makes_return h = back-here d
    stands d makes_result h = result-here d
    stands d (makes_choice v) h = on d (leads_choice v) (λ n e p. does_choice v any_way p)
    stands d makes_end h = over-here d does_end
    stands d makes_parameter h = on d leads_parameter (λ n e p. does_parameter p)
    stands d makes_update h = on d leads_update (λ n e p. does_update p)
    stands d makes_update_with h = on d leads_update_with (λ n e p. does_update_with p)
    stands d makes_choose h = on d leads_choose (λ n e p. does_choose p)
    stands d makes_choose_over h = over-here d does_choose_stop
    stands d makes_choose_with h = on d leads_choose_with (λ n e p. does_choose_with p)
    stands d makes_choose_with_over h = over-here d does_choose_with_stop

-- a rule's start may have the number 1
pub start-stands : {T S : List ℕ} {flag r : ℕ} → Shaped T S → r < length S → Stands T S flag (start_of S r) 1
start-stands {T} {S} {flag} {r} sh h = stands_place (omega (arith, (sh.inside h at_start).1, sh.short)) (record {
  rule = r;
  begin = start_of S r;
  before = 0;
  is_rule = h;
  reached = at_start;
  origin = the_start refl;
  prefix = record { then_path = λ n e p. long (omega arith) (record { end = e; alike = same_end e; path = p }) };
  enough = omega arith;
})
