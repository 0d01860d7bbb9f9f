-- Numbers from which nothing can be raised bound every path.
use mathlib.Core.Bool.{Bool, true, false}
use mathlib.Core.List.{List, [], ◌∷◌}
use mathlib.Core.Option.{Option, none, some}
use mathlib.Core.Path.{◌≡◌, refl}
use native.Mathlib.Omega.{arith}
use Prim.Native.Nat.{ℕ, zero, suc, ◌+◌, ◌≤◌, ◌<◌, min}
use lib.Dec.{eqb}
use lib.ListN.{length, get_or}
use borrow.Author.Tests.{eqb-true}
use Rattle.base.specs.Bools.{never}
use Rattle.std.specs.Prelude.{if◌then◌else◌}
use Rattle.machine.specs.Decode.{Instruction, invalid, jump, input, input_any, write, input_choice, call_rule, return, set_result, choice, end_choice, set_parameter, update, update_with, choose, choose_with, decode}
use Rattle.figure.specs.Figure.{way_out, Leads, leads_jump, leads_input, leads_any, leads_write, leads_token, leads_call, leads_result, leads_choice, leads_parameter, leads_update, leads_update_with, leads_choose, leads_choose_with, Reached, at_start, further, End, over, back, Quiet, quiet, Does, does_jump, does_input, does_any, does_write, does_token, does_default, does_call_over, does_call, does_call_stop, does_return, does_result, does_choice, does_end, does_parameter, does_update, does_update_with, does_choose, does_choose_with, does_choose_stop, does_choose_with_stop, any_way, by_result}
use Rattle.meter.specs.Makes.{over_at, back_at, half, cap, Makes, makes_jump, makes_input, marks_input, makes_any, marks_any, makes_write, makes_token, makes_default, marks_label, makes_call_over, makes_call_back, makes_call_value, marks_call, makes_return, makes_result, makes_choice, makes_end, makes_parameter, makes_update, makes_update_with, makes_choose, makes_choose_over, makes_choose_with, makes_choose_with_over, Closed}
use Rattle.meter.specs.Shaped.{index_of, start_of, InRule, is_choice, Given, given_none, given_some, Shaped}

-- the rule that is found starts there
pub index-start : (S : List ℕ) (s : ℕ) → index_of S s < length S → start_of S (index_of S s) ≡ s
unfolding index_of
index-start [] s h = absurd (omega arith)
index-start (t ∷ ts) s h = go (eqb t s) refl h (λ z. index-start ts s z)
  where
    go : (b : Bool) → eqb t s ≡ b → (if b then 0 else suc (index_of ts s)) < suc (length ts) → (index_of ts s < length ts → get_or ts (index_of ts s) 0 ≡ s) → get_or (t ∷ ts) (if b then 0 else suc (index_of ts s)) 0 ≡ s
    go true e z ih = eqb-true t s e
    go false e z ih = ih (omega arith)

-- a choice by a known result
record Chosen (T : List ℕ) (c v n : ℕ) (e : End) : Type 0 where
  rest : ℕ
  one_more : n ≡ suc rest
  path : Quiet T (way_out T c (some v)) none rest e

is_a_choice : (i : Instruction) → is_choice i ≡ true → (c : ℕ) × (i ≡ choice c)
unfolding is_choice
is_a_choice (choice c) h = (c, refl)
is_a_choice invalid h = never h
is_a_choice (jump m) h = never h
is_a_choice (input t) h = never h
is_a_choice input_any h = never h
is_a_choice (write ev) h = never h
is_a_choice (input_choice c) h = never h
is_a_choice (call_rule s) h = never h
is_a_choice return h = never h
is_a_choice (set_result v) h = never h
is_a_choice end_choice h = never h
is_a_choice (set_parameter v) h = never h
is_a_choice (update op) h = never h
is_a_choice (update_with op) h = never h
is_a_choice (choose op) h = never h
is_a_choice (choose_with op) h = never h

module _ {T : List ℕ} where
  unquiet : {l n : ℕ} {x : Option ℕ} {e : End} → Quiet T l x n e → Does T l x (decode T l) n e
  unquiet (quiet d) = d

  -- a path has an instruction
  pub some-instruction : {l n : ℕ} {x : Option ℕ} {e : End} → Quiet T l x n e → 0 < n
  some-instruction (quiet d) = go d
    where
      go : {l n : ℕ} {x : Option ℕ} {i : Instruction} {e : End} → Does T l x i n e → 0 < n
      go (does_jump p) = omega arith
      go does_input = omega arith
      go does_any = omega arith
      go (does_write p) = omega arith
      go does_token = omega arith
      go (does_default p) = omega arith
      go (does_call_over p) = omega arith
      go (does_call p q j) = omega arith
      go does_call_stop = omega arith
      go does_return = omega arith
      go (does_result p) = omega arith
      go (does_choice v g p) = omega arith
      go does_end = omega arith
      go (does_parameter p) = omega arith
      go (does_update p) = omega arith
      go (does_update_with p) = omega arith
      go (does_choose p) = omega arith
      go (does_choose_with p) = omega arith
      go does_choose_stop = omega arith
      go does_choose_with_stop = omega arith

  choice-path : {l c v n : ℕ} {e : End} → decode T l ≡ choice c → Quiet T l (some v) n e → Chosen T c v n e
  choice-path d (quiet h) = go (rw d at h)
    where
      go : {l c v n : ℕ} {e : End} → Does T l (some v) (choice c) n e → Chosen T c v n e
      go (does_choice {n = n} w by_result p) = record { rest = n; one_more = refl; path = p }

  pub return-path : {l n : ℕ} {x : Option ℕ} {e : End} → decode T l ≡ return → Quiet T l x n e → (n ≡ 1) × (e ≡ back x)
  return-path d (quiet h) = go (rw d at h)
    where
      go : {l n : ℕ} {x : Option ℕ} {e : End} → Does T l x return n e → (n ≡ 1) × (e ≡ back x)
      go does_return = (refl, refl)

  pub next-to : {s l m : ℕ} {i : Instruction} → decode T l ≡ i → Reached T s l → Leads T l i m → Reached T s m
  next-to {l = l} {m = m} d h c =
      let z : Leads T l (decode T l) m = rw d c in
      further h z

module _ (T S : List ℕ) where
  -- where a value is given, with the instructions up to the return
  record Gives (row : ℕ → ℕ) (r t v : ℕ) : Type 0 where
    at : ℕ
    in_rule : InRule T S r at
    sets : decode T at ≡ set_result v
    comes : 0 < row at
    enough : min t (suc cap) ≤ row at + 2

  -- the numbers of rule r have room for t - 1 instructions to the end e
  data Upto (row : ℕ → ℕ) (r t : ℕ) : End → Type 0 where
    upto-over : min t (suc cap) ≤ suc (row (over_at r)) → Upto row r t over
    upto-back : min t (suc cap) ≤ suc (row (back_at r)) → Upto row r t (back none)
    upto-given : {v : ℕ} → min t (suc cap) ≤ suc (row (back_at r)) → Gives row r t v → Upto row r t (back (some v))

  lift : {row : ℕ → ℕ} {r t u : ℕ} {e : End} → Upto row r t e → min u (suc cap) ≤ t → Upto row r u e
  lift (upto-over h) z = upto-over (omega arith)
  lift (upto-back h) z = upto-back (omega arith)
  lift (upto-given h g) z = upto-given (omega arith) (record { at = g.at; in_rule = g.in_rule; sets = g.sets; comes = g.comes; enough = omega (arith, g.enough) })

  -- the called rules' numbers have room for paths of at most n instructions
  record Callee (called : ℕ → ℕ) (n : ℕ) : Type 0 where
    room : (q m : ℕ) (e : End) → q < length S → m ≤ n → Quiet T (start_of S q) none m e → Upto called q (suc m) e

  fewer : {called : ℕ → ℕ} {n k : ℕ} → k ≤ n → Callee called n → Callee called k
  fewer h f = record { room = λ q m e z y p. f.room q m e z (omega arith) p }

  module _ (sh : Shaped T S) (called row : ℕ → ℕ) (flag : ℕ) (c : Closed T S called row flag) where
    module _ {r l : ℕ} (hr : r < length S) (h : Reached T (start_of S r) l) (some-way : 0 < row l) where
      raised : {i : Instruction} {j v : ℕ} → decode T l ≡ i → Makes T S called flag r l (row l) i j v → j < half → min v cap ≤ row j
      raised {i} {j} {v} d m z =
          let y : Makes T S called flag r l (row l) (decode T l) j v = rw d m in
          c.closed hr (sh.stays hr h) some-way y z

      in-over : over_at r < half
      in-over = omega (arith, sh.few)

      in-back : back_at r < half
      in-back = omega (arith, sh.few)

      place-in : {m : ℕ} → Reached T (start_of S r) m → m < half
      place-in g = omega (arith, (sh.inside hr g).1, sh.short)

    over-within : {r l s m : ℕ} → r < length S → Reached T (start_of S r) l → 0 < row l → decode T l ≡ call_rule s → (q : index_of S s < length S) → Upto called (index_of S s) (suc m) over → Upto row r (row l + suc m) over
    over-within hr h w d q (upto-over u) = upto-over (omega (arith, raised hr h w d (makes_call_over q) (in-over hr h w)))

    -- shorter paths, from any place that is reached
    record Rest (n : ℕ) : Type 0 where
      rest : {r l k : ℕ} {e : End} → r < length S → Reached T (start_of S r) l → 0 < row l → Quiet T l none k e → k ≤ n → Upto row r (row l + k) e

    onward : {n r m k t : ℕ} {e : End} → Rest n → r < length S → Reached T (start_of S r) m → min t cap ≤ row m → 0 < t → Quiet T m none k e → k ≤ n → Upto row r (t + k) e
    onward o hr h w z p y = lift (o.rest hr h (omega arith) p y) (omega (arith, some-instruction p))

    -- back from a call, with a value or without
    called-within : {n : ℕ} → Rest n → Callee called n → {r l s m k : ℕ} {x : Option ℕ} {b : Bool} {e : End} → r < length S → Reached T (start_of S r) l → 0 < row l → decode T l ≡ call_rule s → index_of S s < length S
        → Given b x → Quiet T s none m (back x) → Upto called (index_of S s) (suc m) (back x) → Quiet T (l + 2) x k e → k < n → is_choice (decode T (l + 2)) ≡ b → Upto row r (row l + suc (m + k)) e
    called-within o f {r} {l} {s} {m} {k} {e = e} hr h w d q given_none p (upto-back u) t z b =
        let g = next-to d h leads_call in
        let j = some-instruction p in
        let v = raised hr h w d (makes_call_back q b (omega arith)) (place-in hr h w g) in
        lift (onward o hr g v (omega arith) t (omega arith)) (omega arith)
    called-within o f {r} {l} {s} {m} {k} {e = e} hr h w d q given_some p (upto-given u g₂) t z b =
        let g = next-to d h leads_call in
        let j = some-instruction p in
        let c₁ = is_a_choice (decode T (l + 2)) b in
        let a = choice-path c₁.1 t in
        let g₁ = next-to c₁.1 g (leads_choice (some _)) in
        let v = raised hr h w d (makes_call_value q c₁.1 g₂.in_rule g₂.sets g₂.comes) (place-in hr h w g₁) in
        lift (onward o hr g₁ v (omega arith) a.path (omega (arith, a.one_more))) (omega (arith, g₂.enough, a.one_more))

    does-within : {n : ℕ} → Rest n → Callee called n → {r l k : ℕ} {i : Instruction} {e : End} → r < length S → Reached T (start_of S r) l → 0 < row l → Does T l none i k e → decode T l ≡ i → k ≤ suc n
        → Upto row r (row l + k) e
    does-within o f hr h w (does_jump p) d y = let g = next-to d h leads_jump in lift (onward o hr g (raised hr h w d makes_jump (place-in hr h w g)) (omega arith) p (omega arith)) (omega arith)
    does-within o f hr h w does_input d y = upto-over (omega (arith, raised hr h w d makes_input (in-over hr h w)))
    does-within o f hr h w does_any d y = upto-over (omega (arith, raised hr h w d makes_any (in-over hr h w)))
    does-within o f hr h w (does_write p) d y = let g = next-to d h leads_write in lift (onward o hr g (raised hr h w d makes_write (place-in hr h w g)) (omega arith) p (omega arith)) (omega arith)
    does-within o f hr h w does_token d y = upto-over (omega (arith, raised hr h w d makes_token (in-over hr h w)))
    does-within o f hr h w (does_default p) d y = let g = next-to d h (leads_token none) in lift (onward o hr g (raised hr h w d makes_default (place-in hr h w g)) (omega arith) p (omega arith)) (omega arith)
    does-within o f hr h w (does_call_over {s = s} {n = m} p) d y =
        let q = sh.calls hr h d in
        over-within hr h w d q (f.room (index_of S s) m over q (omega arith) (rw (index-start S s q) p))
    does-within o f {r} {l} {e = e} hr h w (does_call {s = s} {m = m} {n = k} {y = x} p t j) d y =
        let q = sh.calls hr h d in
        let u = f.room (index_of S s) m (back x) q (omega (arith, some-instruction t)) (rw (index-start S s q) p) in
        lift (called-within o f hr h w d q (sh.answers hr h d p) p u t (omega (arith, some-instruction p)) refl) (omega arith)
    does-within o f hr h w (does_call_stop {s = s}) d y = let q = sh.calls hr h d in upto-over (omega (arith, raised hr h w d (makes_call_over q) (in-over hr h w)))
    does-within o f hr h w does_return d y = upto-back (omega (arith, raised hr h w d makes_return (in-back hr h w)))
    does-within o f {r} {l} {e = e} hr h w (does_result {v = v} {n = k} p) d y =
        let g = next-to d h leads_result in
        let a = raised hr h w d makes_result (place-in hr h w g) in
        let b = sh.gives hr h d in
        let t = return-path b p in
        let z = raised hr g (omega arith) b makes_return (in-back hr h w) in
        let o : Upto row r (row l + suc 1) (back (some v)) = upto-given (omega arith) (record { at = l; in_rule = sh.stays hr h; sets = d; comes = w; enough = omega arith }) in
        rw (t.0, t.1) o
    does-within o f hr h w (does_choice v any_way p) d y = let g = next-to d h (leads_choice v) in lift (onward o hr g (raised hr h w d (makes_choice v) (place-in hr h w g)) (omega arith) p (omega arith)) (omega arith)
    does-within o f hr h w does_end d y = upto-over (omega (arith, raised hr h w d makes_end (in-over hr h w)))
    does-within o f hr h w (does_parameter p) d y = let g = next-to d h leads_parameter in lift (onward o hr g (raised hr h w d makes_parameter (place-in hr h w g)) (omega arith) p (omega arith)) (omega arith)
    does-within o f hr h w (does_update p) d y = let g = next-to d h leads_update in lift (onward o hr g (raised hr h w d makes_update (place-in hr h w g)) (omega arith) p (omega arith)) (omega arith)
    does-within o f hr h w (does_update_with p) d y = let g = next-to d h leads_update_with in lift (onward o hr g (raised hr h w d makes_update_with (place-in hr h w g)) (omega arith) p (omega arith)) (omega arith)
    does-within o f hr h w (does_choose p) d y = let g = next-to d h leads_choose in lift (onward o hr g (raised hr h w d makes_choose (place-in hr h w g)) (omega arith) p (omega arith)) (omega arith)
    does-within o f hr h w (does_choose_with p) d y = let g = next-to d h leads_choose_with in lift (onward o hr g (raised hr h w d makes_choose_with (place-in hr h w g)) (omega arith) p (omega arith)) (omega arith)
    does-within o f hr h w does_choose_stop d y = upto-over (omega (arith, raised hr h w d makes_choose_over (in-over hr h w)))
    does-within o f hr h w does_choose_with_stop d y = upto-over (omega (arith, raised hr h w d makes_choose_with_over (in-over hr h w)))

    one_more : {n : ℕ} → Rest n → Callee called n → Rest (suc n)
    one_more o f = record { rest = λ hr h w p z. does-within o f hr h w (unquiet p) refl z }

    rests : (n : ℕ) → Callee called n → Rest (suc n)
    rests zero f = one_more (record { rest = λ hr h w p z. absurd (omega (arith, some-instruction p)) }) f
    rests (suc n) f = one_more (rests n (fewer (omega arith) f)) f

    -- every place that can be reached has a number, where paths begin at each

    record Made (r l k : ℕ) (i : Instruction) (m : ℕ) : Type 0 where
      value : ℕ
      makes : Makes T S called flag r l k i m value
      some_value : 0 < value

    leads-made : {r l k m : ℕ} {i : Instruction} → 0 < flag → ((s : ℕ) → i ≡ call_rule s → index_of S s < length S) → Leads T l i m → Made r l k i m
    leads-made hf f leads_jump = record { value = _; makes = makes_jump; some_value = omega arith }
    leads-made hf f leads_input = record { value = _; makes = marks_input; some_value = hf }
    leads-made hf f leads_any = record { value = _; makes = marks_any; some_value = hf }
    leads-made hf f leads_write = record { value = _; makes = makes_write; some_value = omega arith }
    leads-made hf f (leads_token v) = record { value = _; makes = marks_label v; some_value = hf }
    leads-made hf f (leads_call {s = s}) = record { value = _; makes = marks_call (f s refl); some_value = hf }
    leads-made hf f leads_result = record { value = _; makes = makes_result; some_value = omega arith }
    leads-made hf f (leads_choice v) = record { value = _; makes = makes_choice v; some_value = omega arith }
    leads-made hf f leads_parameter = record { value = _; makes = makes_parameter; some_value = omega arith }
    leads-made hf f leads_update = record { value = _; makes = makes_update; some_value = omega arith }
    leads-made hf f leads_update_with = record { value = _; makes = makes_update_with; some_value = omega arith }
    leads-made hf f leads_choose = record { value = _; makes = makes_choose; some_value = omega arith }
    leads-made hf f leads_choose_with = record { value = _; makes = makes_choose_with; some_value = omega arith }

    marked : 0 < flag → {r l : ℕ} → r < length S → Reached T (start_of S r) l → 0 < row l
    marked hf {r} hr at_start = c.begun r hr
    marked hf {r} hr (further {l = l} {m = m} h z) =
        let w = marked hf hr h in
        let y = leads-made {r = r} {k = row l} hf (λ s e. sh.calls hr h e) z in
        omega (arith, y.some_value, raised hr h w refl y.makes (place-in hr h w (further h z)))

  -- the numbers from the rules' starts have room for every path
  firsts : Shaped T S → (called : ℕ → ℕ) → Closed T S called called 0 → (n : ℕ) → Callee called n
  firsts sh called c zero = record { room = λ q m e h z p. absurd (omega (arith, some-instruction p)) }
  firsts sh called c (suc n) = record { room = λ q m e h z p. lift ((rests sh called called 0 c n (firsts sh called c n)).rest h at_start (c.begun q h) p z) (omega (arith, c.begun q h)) }

  pub record Most (row : ℕ → ℕ) (q : ℕ) : Type 0 where
    pub overs : (r : ℕ) → r < length S → row (over_at r) ≤ q
    pub backs : (r : ℕ) → r < length S → row (back_at r) ≤ q

  most-of : {row : ℕ → ℕ} {r t q : ℕ} {e : End} → Most row q → r < length S → Upto row r t e → min t (suc cap) ≤ suc q
  most-of {r = r} m h (upto-over z) = omega (arith, m.overs r h)
  most-of {r = r} m h (upto-back z) = omega (arith, m.backs r h)
  most-of {r = r} m h (upto-given z g) = omega (arith, m.backs r h)

  -- no path from a place that can be reached has more instructions than the greatest number
  pub bounds : Shaped T S → (called row : ℕ → ℕ) → Closed T S called called 0 → Closed T S called row 1 → (q : ℕ) → Most row q → q < cap
      → {r l n : ℕ} {e : End} → r < length S → Reached T (start_of S r) l → Quiet T l none n e → n ≤ q
  bounds sh called row c₁ c₂ q m small {n = n} hr h p =
      let w = marked sh called row 1 c₂ (omega arith) hr h in
      omega (arith, most-of m hr ((rests sh called row 1 c₂ n (firsts sh called c₁ n)).rest hr h w p (omega arith)))
