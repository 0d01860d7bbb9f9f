-- The table of an accepted program has the shape that the code asks for; what is found there is its figure.
use mathlib.Core.Bool.{Bool, true, false}
use mathlib.Core.List.{List, [], ◌∷◌}
use mathlib.Core.Option.{Option, none, some}
use mathlib.Core.Path.{◌≡◌, refl, sym, ap, ◌∙◌}
use native.Mathlib.Decide.{dec_lt}
use native.Mathlib.Omega.{arith}
use Prim.Native.Nat.{ℕ, zero, suc, ◌+◌, ◌≤◌, ◌<◌}
use lib.Dec.{eqb}
use lib.ListN.{length}
use borrow.Author.Tests.{eq-eqb, lt-ltb, le-ltb}
use Rattle.agreement.proofs.Lay.{At}
use Rattle.base.specs.Bools.{never}
use Rattle.std.specs.Prelude.{if◌then◌else◌}
use Rattle.base.specs.Common.{given}
use Rattle.finishing.specs.Finishing.{Finishing}
use Rattle.loading.proofs.Members.{fetch-inside}
use Rattle.machine.specs.Decode.{fetch, Instruction, invalid, jump, input, input_any, write, input_choice, call_rule, return, set_result, choice, end_choice, set_parameter, update, update_with, choose, choose_with, decode}
use Rattle.program.proofs.Lengths.{length-table}
use Rattle.program.proofs.Places.{place-next, place-fits}
use Rattle.program.specs.Accepted.{Accepted}
use Rattle.program.specs.Program.{Rule, rule_of, body_of}
use Rattle.program.specs.Table.{size_rule, place, table}
use Rattle.figure.specs.Figure.{Reached, at_start, End, over, back, Quiet, quiet, Does, does_jump, does_input, does_any, does_write, does_token, does_default, does_call_over, does_call, does_call_stop, does_return, does_result, does_choice, does_end, does_parameter, does_update, does_update_with, does_choose, does_choose_with, does_choose_stop, does_choose_with_stop}
use Rattle.figure.specs.Count.{figure}
use Rattle.figure.specs.Promise.{RuleStart, rule_start}
use Rattle.figure.proofs.Battery.{figure-exact, figure-long, figure-settles}
use Rattle.figure.proofs.Keeps.{rule-keeps}
use Rattle.figure.proofs.Spots.{Stage, plainly, choosing, giving, Returns, returns-value, returns_plain, Spot, behind_call, CallsThen, Inside, Fine, Place, spot-fine, start-spot, program-laid-here, rule-place}
use Rattle.meter.proofs.Bounds.{some-instruction}
use Rattle.meter.proofs.Stands.{valid-inside}
use Rattle.meter.specs.Shaped.{index_of, start_of, end_of, InRule, is_choice, Given, given_none, given_some, Fits, HasTable, by_token, by_result, Shaped}
use Rattle.meter.specs.Found.{Starts, starts, Found}
use Rattle.meter.specs.Makes.{cap}
use Rattle.meter.specs.Starts.{starts_from, starts_in}

-- The starts

pub starts-length : (l : ℕ) (prog : List Rule) → length (starts_from l prog) ≡ length prog
unfolding starts_from
starts-length l [] = refl
starts-length l (b ∷ bs) = ap suc (starts-length (l + size_rule b) bs)

pub start-place : (l : ℕ) (prog : List Rule) (r : ℕ) → r < length prog → start_of (starts_from l prog) r ≡ place l prog r
unfolding starts_from place
start-place l [] r h = absurd (omega arith)
start-place l (b ∷ bs) zero h = refl
start-place l (b ∷ bs) (suc r) h = start-place (l + size_rule b) bs r (omega arith)

starts_from_lem : (l : ℕ) (prog : List Rule) (r : ℕ) → r < length prog → l ≤ start_of (starts_from l prog) r
unfolding starts_from
starts_from_lem l [] r h = absurd (omega arith)
starts_from_lem l (b ∷ bs) zero h = omega arith
starts_from_lem l (b ∷ bs) (suc r) h = omega (arith, starts_from_lem (l + size_rule b) bs r (omega arith))

-- they stand in order
starts-order : (l : ℕ) (prog : List Rule) (r q : ℕ) → r ≤ q → q < length prog → start_of (starts_from l prog) r ≤ start_of (starts_from l prog) q
unfolding starts_from
starts-order l [] r q h z = absurd (omega arith)
starts-order l (b ∷ bs) zero zero h z = omega arith
starts-order l (b ∷ bs) zero (suc q) h z = omega (arith, starts_from_lem (l + size_rule b) bs q (omega arith))
starts-order l (b ∷ bs) (suc r) zero h z = absurd (omega arith)
starts-order l (b ∷ bs) (suc r) (suc q) h z = starts-order (l + size_rule b) bs r q (omega arith) (omega arith)

-- a location at which a rule starts is found
index-found : (S : List ℕ) (s r : ℕ) → r < length S → s ≡ start_of S r → index_of S s < length S
unfolding index_of
index-found [] s r h e = absurd (omega arith)
index-found (t ∷ ts) s zero h e = rw (eq-eqb t s (sym e)) (omega arith)
index-found (t ∷ ts) s (suc r) h e = go (eqb t s) (index-found ts s r (omega arith) e)
  where
    go : (b : Bool) → index_of ts s < length ts → (if b then 0 else suc (index_of ts s)) < suc (length ts)
    go true z = omega arith
    go false z = omega arith

-- What a rule gives

-- what is known of the result at a place
data Knows : Stage → Option ℕ → Type 0 where
  knows-none : Knows plainly none
  knows-any : {x : Option ℕ} → Knows choosing x
  knows_some : {u : ℕ} → Knows giving (some u)

return-given : {v : Bool} {g : Stage} {x : Option ℕ} → Returns v g → Knows g x → Given v x
return-given returns-value knows_some = given_some
return-given returns_plain knows-none = given_none

-- a path of a rule ends so: over, or back with a value exactly if the rule gives one
data Gives (v : Bool) : End → Type 0 where
  gives-over : Gives v over
  gives_back : {y : Option ℕ} → Given v y → Gives v (back y)

given_back : {v : Bool} {y : Option ℕ} → Gives v (back y) → Given v y
given_back (gives_back g) = g

plain_known : {b : Bool} {x : Option ℕ} → Gives b (back x) → b ≡ false → Knows plainly x
plain_known (gives_back g) e = go g e
  where
    go : {b : Bool} {x : Option ℕ} → Given b x → b ≡ false → Knows plainly x
    go given_none e = knows-none
    go given_some e = never (sym e)

behind-known : (b : Bool) {v : Bool} {x : Option ℕ} → v ≡ b → Gives v (back x) → Knows (behind_call b) x
behind-known true e h = knows-any
behind-known false e h = plain_known h e

given_by : {a b : Bool} {y : Option ℕ} → a ≡ b → Given a y → Given b y
given_by e g = rw e at g

unfoldable is_choosing : Stage → Bool
is_choosing plainly = false
is_choosing choosing = true
is_choosing giving = false

choosing-behind : (b : Bool) → is_choosing (behind_call b) ≡ b
unfolding is_choosing
choosing-behind true = refl
choosing-behind false = refl

module _ (T : List ℕ) (start : ℕ → ℕ) (prog : List Rule) (laid : (r : ℕ) → r < length prog → At T start prog (rule_of prog r).valued (body_of prog r) [] (start r)) where
  mutual
    unfolding Fine

    path-gives : {v : Bool} {g : Stage} {l n : ℕ} {x : Option ℕ} {e : End} → Spot T start prog v g l → Knows g x → Quiet T l x n e → Gives v e
    path-gives {v} {g} s k (quiet d) = does-give v g (spot-fine T start prog s) k d

    does-give : (v : Bool) (g : Stage) {l n : ℕ} {x : Option ℕ} {e : End} {i : Instruction} → Fine T start prog v g l i → Knows g x → Does T l x i n e → Gives v e
    does-give v g f k (does_jump p) = path-gives f.1 (rw f.0 at k) p
    does-give v g f k does_input = gives-over
    does-give v g f k does_any = gives-over
    does-give v g f k (does_write p) = path-gives f.1 (rw f.0 at k) p
    does-give v g f k does_token = gives-over
    does-give v g f k (does_default p) = path-gives (f.2 none) knows-none p
    does-give v g f k (does_call_over p) = gives-over
    does-give v g f k (does_call p t e) = let c = f.1 in path-gives c.next (behind-known c.valued c.calls.sort (path-gives (start-spot T start prog laid c.rule c.calls.there c.is_rule) knows-none p)) t
    does-give v g f k does_call_stop = gives-over
    does-give v g f k does_return = gives_back (return-given f k)
    does-give v g f k (does_result p) = path-gives f.2 knows_some p
    does-give v g f k (does_choice w h p) = path-gives (f.2 w) knows-none p
    does-give v g f k does_end = gives-over
    does-give v g f k (does_parameter p) = path-gives f.1 (rw f.0 at k) p
    does-give v g f k (does_update p) = path-gives f.1 (rw f.0 at k) p
    does-give v g f k (does_update_with p) = path-gives f.1 (rw f.0 at k) p
    does-give v g f k (does_choose p) = path-gives f.1 knows-any p
    does-give v g f k (does_choose_with p) = path-gives f.1 knows-any p
    does-give v g f k does_choose_stop = gives-over
    does-give v g f k does_choose_with_stop = gives-over

  -- a choice stands where one goes by the result
  stage-choice : (v : Bool) (g : Stage) (l : ℕ) (i : Instruction) → Fine T start prog v g l i → is_choice i ≡ is_choosing g
  unfolding Fine is_choice is_choosing
  stage-choice v g l invalid f = absurd f
  stage-choice v g l (jump m) f = rw f.0 refl
  stage-choice v g l (input t) f = rw f.0 refl
  stage-choice v g l input_any f = rw f.0 refl
  stage-choice v g l (write e) f = rw f.0 refl
  stage-choice v g l (input_choice c) f = rw f.0 refl
  stage-choice v g l (call_rule s) f = rw f.0 refl
  stage-choice v g l return f = go f
    where
      go : {v : Bool} {g : Stage} → Returns v g → false ≡ is_choosing g
      go returns-value = refl
      go returns_plain = refl
  stage-choice v g l (set_result u) f = rw f.0 refl
  stage-choice v g l (choice c) f = rw f.0 refl
  stage-choice v g l end_choice f = rw f refl
  stage-choice v g l (set_parameter u) f = rw f.0 refl
  stage-choice v g l (update op) f = rw f.0 refl
  stage-choice v g l (update_with op) f = rw f.0 refl
  stage-choice v g l (choose op) f = rw f.0 refl
  stage-choice v g l (choose_with op) f = rw f.0 refl

  -- a rule gives a value exactly if a choice stands behind its call
  called-given : {v : Bool} {s l m : ℕ} {y : Option ℕ} → CallsThen T start prog v s l → Quiet T s none m (back y) → Given (is_choice (decode T l)) y
  called-given {v} {l = l} c p =
      let z = given_back (path-gives (start-spot T start prog laid c.rule c.calls.there c.is_rule) knows-none p) in
      let q = stage-choice v (behind_call c.valued) l (decode T l) (spot-fine T start prog c.next) in
      given_by (c.calls.sort ∙ sym (q ∙ choosing-behind c.valued)) z

-- The table of a program

module _ (prog : List Rule) where
  abbrev T : List ℕ
  T = table prog

  abbrev S : List ℕ
  S = starts_in prog

  rule-before : {r q l : ℕ} → r < q → q < length S → InRule T S r l → InRule T S q l → ⊥
  unfolding end_of
  rule-before {r} {q} {l} h z i j =
      let n = starts-length 1 prog in
      let e : end_of (length T) S r ≡ start_of S (r + 1) = rw (lt-ltb (r + 1) (length S) (omega arith)) refl in
      omega (arith, e, i.to, j.from, starts-order 1 prog (r + 1) q (omega arith) (omega arith))

  -- no location is in two rules
  pub rules-apart : {r q l : ℕ} → r < length S → q < length S → InRule T S r l → InRule T S q l → r ≡ q
  rules-apart {r} {q} h z i j = elim (dec_lt r q) [
    | yes y ↦ absurd (rule-before y z i j)
    | no y ↦ elim (dec_lt q r) [ yes x ↦ absurd (rule-before x h j i) | no x ↦ omega arith ]
  ]

  -- as many words as its size says are those of rule r
  rule_end : (r : ℕ) → r < length prog → place 1 prog r + size_rule (rule_of prog r) ≤ end_of (length T) S r
  unfolding end_of
  rule_end r h = elim (dec_lt (r + 1) (length S)) [
    | yes y ↦ let e : end_of (length T) S r ≡ start_of S (r + 1) = rw (lt-ltb (r + 1) (length S) y) refl in
        let z : r + 1 ≡ suc r = omega arith in
        omega (arith, e, starts-length 1 prog, start-place 1 prog (r + 1) (omega (arith, starts-length 1 prog)), ap (place 1 prog) z, place-next 1 prog r h)
    | no y ↦ let e : end_of (length T) S r ≡ length T + 1 = rw (le-ltb (r + 1) (length S) (omega arith)) refl in
        omega (arith, e, place-fits 1 prog r h, length-table prog)
  ]

  -- a rule does not leave its words
  pub rules-stay : Accepted prog → {r l : ℕ} → r < length S → Reached T (start_of S r) l → InRule T S r l
  rules-stay a {r} {l} hr h =
      let n : r < length prog = omega (arith, starts-length 1 prog) in
      let s = start-place 1 prog r n in
      let k = rule-keeps prog a r n (rw s at h) in
      record { from = omega (arith, s, k.0); to = omega (arith, rule_end r n, k.1) }

  -- rules start one behind the other
  rules-rise : Accepted prog → {r q : ℕ} → r < q → q < length S → start_of S r < start_of S q
  unfolding end_of
  rules-rise a {r} {q} h z =
      let n = starts-length 1 prog in
      let e : end_of (length T) S r ≡ start_of S (r + 1) = rw (lt-ltb (r + 1) (length S) (omega arith)) refl in
      omega (arith, e, (rules-stay a {r = r} (omega arith) at_start).to, starts-order 1 prog (r + 1) q (omega arith) (omega arith))

  module _ (a : Accepted prog) {r l : ℕ} (hr : r < length S) (h : Reached T (start_of S r) l) where
    here : Place T (place 1 prog) prog (rule_of prog r).valued l
    here =
        let n : r < length prog = omega (arith, starts-length 1 prog) in
        rule-place prog a r n (start-place 1 prog r n) h

    fine : Fine T (place 1 prog) prog (rule_of prog r).valued here.stage l (decode T l)
    fine = spot-fine T (place 1 prog) prog here.spot

    pub rules-inside : (1 ≤ l) × (l ≤ length T)
    unfolding Fine
    rules-inside = valid-inside T l (λ e. let f : Fine T (place 1 prog) prog (rule_of prog r).valued here.stage l invalid = rw e at fine in f)

    -- a value is set before a return only
    pub rules-give : {v : ℕ} → decode T l ≡ set_result v → decode T (l + 2) ≡ return
    unfolding Fine
    rules-give {v} e = let f : Fine T (place 1 prog) prog (rule_of prog r).valued here.stage l (set_result v) = rw e at fine in f.1

    -- calls go to rules
    pub rules-call : {s : ℕ} → decode T l ≡ call_rule s → index_of S s < length S
    unfolding Fine
    rules-call {s} e =
        let f : Fine T (place 1 prog) prog (rule_of prog r).valued here.stage l (call_rule s) = rw e at fine in
        let c = f.1 in
        let n = c.calls.there in
        index-found S s c.rule (omega (arith, starts-length 1 prog)) (c.is_rule ∙ sym (start-place 1 prog c.rule n))

    -- choice tables lie inside
    pub rules-table : {c : ℕ} → HasTable c (decode T l) → Fits T c
    unfolding Fine
    rules-table {c} t = go (decode T l) t fine
      where
        fits : Inside T (place 1 prog) prog c → Fits T c
        fits i =
            let g : given (fetch T c) ≡ true = rw i.is_count refl in
            record { count = i.labels; is_count = i.is_count; low = (fetch-inside T c g).0; fits = i.fits }

        go : (i : Instruction) → HasTable c i → Fine T (place 1 prog) prog (rule_of prog r).valued here.stage l i → Fits T c
        go (input_choice d) by_token f = fits f.1
        go (choice d) by_result f = fits f.1
        go invalid x'' f = elim x'' [ ]
        go (jump _) x4 f = elim x4 [ ]
        go (input _) x5 f = elim x5 [ ]
        go input_any x5 f = elim x5 [ ]
        go (write _) x7 f = elim x7 [ ]
        go (call_rule _) x8 f = elim x8 [ ]
        go return x8 f = elim x8 [ ]
        go (set_result _) x10 f = elim x10 [ ]
        go end_choice x10 f = elim x10 [ ]
        go (set_parameter _) x12 f = elim x12 [ ]
        go (update _) x13 f = elim x13 [ ]
        go (update_with _) x14 f = elim x14 [ ]
        go (choose _) x15 f = elim x15 [ ]
        go (choose_with _) x16 f = elim x16 [ ]

    -- a rule gives a value exactly if a choice stands behind its calls
    pub rules-answer : {s m : ℕ} {y : Option ℕ} → decode T l ≡ call_rule s → Quiet T s none m (back y) → Given (is_choice (decode T (l + 2))) y
    unfolding Fine
    rules-answer {s} e p =
        let f : Fine T (place 1 prog) prog (rule_of prog r).valued here.stage l (call_rule s) = rw e at fine in
        called-given T (place 1 prog) prog (program-laid-here prog a) f.1 p

  -- the shape of a program's table
  pub rules-shaped : Accepted prog → length T ≤ 4096 → length prog ≤ 128 → Shaped T S
  rules-shaped a short few = record {
    short = short;
    few = omega (arith, starts-length 1 prog);
    rising = record { rising = λ h z. rules-rise a h z };
    inside = λ hr h. rules-inside a hr h;
    stays = λ hr h. rules-stay a hr h;
    apart = λ h z i j. rules-apart h z i j;
    tables = λ hr h t. rules-table a hr h t;
    calls = λ hr h e. rules-call a hr h e;
    gives = λ hr h e. rules-give a hr h e;
    answers = λ hr h e p. rules-answer a hr h e p;
  }

  -- What is found is the program's figure

  as-rule : {s : ℕ} → Starts S s → RuleStart prog s
  as-rule (starts r h e) = let n : r < length prog = omega (arith, starts-length 1 prog) in rule_start r n (e ∙ start-place 1 prog r n)

  as-start : {s : ℕ} → RuleStart prog s → Starts S s
  as-start (rule_start r h e) = starts r (omega (arith, starts-length 1 prog)) (e ∙ sym (start-place 1 prog r h))

  module _ (a : Accepted prog) (f : Finishing prog) {q : ℕ} (found : Found T S q) where
    -- there is a path: the figure's own, or one that is too long
    found_some : q < cap → 0 < q
    found_some h = go (figure prog) refl
      where
        go : (o : Option ℕ) → figure prog ≡ o → 0 < q
        go none e = let g = figure-long prog a e in omega (arith, g.long, (found.bounds h).most (as-start g.is_start) g.reached g.path)
        go (some r) e = let g = (figure-exact prog a f r e).exact in omega (arith, some-instruction g.path, (found.bounds h).most (as-start g.is_start) g.reached g.path)

    pub found-figure : q < cap → figure prog ≡ some q
    found-figure h =
        let g = found.exact h (found_some h) in
        (figure-settles prog a f).figure_only q (record {
          exact = record { bounds = record { most = λ s r p. g.bounds.most (as-start s) r p }; start = g.start; location = g.location; end = g.end; is_start = as-rule g.is_start; reached = g.reached; path = g.path };
          small = omega arith;
        })

    -- "47 for Q above 4,294,967,295"
    pub found-long : cap ≤ q → figure prog ≡ none
    found-long h =
        let g = found.long h in
        (figure-settles prog a f).long_only (record { start = g.start; location = g.location; end = g.end; count = g.count; is_start = as-rule g.is_start; reached = g.reached; path = g.path; long = g.long })
