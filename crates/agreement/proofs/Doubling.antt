-- Why no product of the limits is a budget: where each of d rules calls the next one twice, the walk takes 2 ^ d steps and more, with no token.
use mathlib.Core.Bool.{false}
use mathlib.Core.List.{List, [], ◌∷◌}
use mathlib.Core.Path.{◌≡◌, refl, sym, ap, ◌∙◌}
use native.Mathlib.Decide.{dec_lt}
use native.Mathlib.Nat.{pow-suc}
use native.Mathlib.Omega.{arith}
use Prim.Native.Nat.{ℕ, zero, suc, ◌+◌, ◌^◌, ◌≤◌, ◌<◌}
use lib.ListN.{length}
use borrow.Author.Tests.{lt-ltb}
use Rattle.agreement.proofs.Bound.{Over}
use Rattle.agreement.proofs.BoundWalk.{budget, finishes}
use Rattle.base.specs.Bools.{never}
use Rattle.base.specs.Tree.{plain, done, ◌▸◌}
use Rattle.events.specs.Events.{Io}
use Rattle.finishing.specs.Finishing.{to_call, path_calls, Paths, paths_here, paths_later, Comes, directly, through, Loops, loops_here, loops_later, Finishing}
use Rattle.ownwalk.specs.OwnWalk.{Context, Pending, before, Own, on, ended, entered, own_plain, own, owns, own_start}
use Rattle.program.specs.Accepted.{Calls, OkPlain, Ok, Oks, Accepted}
use Rattle.program.specs.Program.{call, Acts, Rule, rule_of, body_of}

abbrev twice : ℕ → Acts
twice r = plain (call r) ▸ plain (call r) ▸ done

-- a procedure rule
abbrev rule : Acts → Rule
rule b = record { valued = false; body = b }

-- from place r on: d rules that call the next one twice, and one with no actions
links : ℕ → ℕ → List Rule
links r zero = rule done ∷ []
links r (suc d) = rule (twice (suc r)) ∷ links (suc r) d

pub chain : ℕ → List Rule
chain d = links 0 d

links-length : (r d : ℕ) → length (links r d) ≡ suc d
unfolding links
links-length r zero = refl
links-length r (suc d) = ap suc (links-length (suc r) d)

last : (r d : ℕ) → rule_of (links r d) d ≡ rule done
unfolding links rule_of
last r zero = refl
last r (suc d) = last (suc r) d

link : (r d i : ℕ) → i < d → rule_of (links r d) i ≡ rule (twice (suc (r + i)))
unfolding links rule_of
link r zero i l = absurd (omega arith)
link r (suc d) zero l = ap (λ (x : ℕ). rule (twice (suc x))) (omega arith)
link r (suc d) (suc i) l = link (suc r) d i (omega arith) ∙ ap (λ (x : ℕ). rule (twice (suc x))) (omega arith)

-- a rule of the chain is the last, or calls the next one twice
data Is (d r : ℕ) : Rule → Type 0 where
  is_last : r ≡ d → Is d r (rule done)
  is-link : r < d → Is d r (rule (twice (suc r)))

rule-is : (d r : ℕ) → r < length (chain d) → Is d r (rule_of (chain d) r)
unfolding chain
rule-is d r l = go (dec_lt r d)
  where
    go : Dec (r < d) → Is d r (rule_of (links 0 d) r)
    go (yes h) = let e : 0 + r ≡ r = omega arith in rw (link 0 d r h, e) (is-link h)
    go (no h) = let e : r ≡ d = omega (arith, links-length 0 d) in rw (e, last 0 d) (is_last refl)

-- The chain is accepted and finishing

chain_length : (d : ℕ) → length (chain d) ≡ suc d
unfolding chain
chain_length d = links-length 0 d

procedure : {d r : ℕ} {m : Rule} → Is d r m → m.valued ≡ false
procedure (is_last e) = refl
procedure (is-link h) = refl

calls : (d r : ℕ) → r < d → Calls (chain d) (suc r) false
calls d r h =
    let l : suc r < length (chain d) = omega (arith, chain_length d) in
    record { there = l; sort = procedure (rule-is d (suc r) l) }

in_order : {d r : ℕ} {m : Rule} → Is d r m → Oks (chain d) m.body m.valued false
unfolding Ok OkPlain
in_order (is_last e) = tt
in_order {d} {r} (is-link h) = (calls d r h, (calls d r h, tt))

pub chain-accepted : (d : ℕ) → Accepted (chain d)
unfolding body_of
chain-accepted d = record {
  some_rule = omega (arith, chain_length d);
  first = procedure (rule-is d 0 (omega (arith, chain_length d)));
  in_order = λ r l. in_order (rule-is d r l);
  no_end = λ r l e. never (sym (procedure (rule-is d r l)) ∙ e);
}

module _ (prog : List Rule) where
  calls-next : {r s : ℕ} → Paths prog (to_call s) (twice r) → s ≡ r
  calls-next (paths_here a path_calls) = refl
  calls-next (paths_later p (paths_here a path_calls)) = refl
  calls-next {r = r} {s = s} (paths_later p (paths_later _ x12)) = elim x12 [ ]

  no_loop : {r : ℕ} → Loops prog (twice r) → ⊥
  no_loop (loops_here l) = elim l [ ]
  no_loop (loops_later (loops_here l)) = elim l [ ]
  no_loop {r = r} (loops_later (loops_later x6)) = elim x6 [ ]

  up : {d r s : ℕ} {m : Rule} → Is d r m → Paths prog (to_call s) m.body → r < s
  up (is_last e) p = elim p [ ]
  up (is-link h) p = omega (arith, calls-next p)

  no-loops : {d r : ℕ} {m : Rule} → Is d r m → Loops prog m.body → ⊥
  no-loops (is_last e) l = elim l [ ]
  no-loops (is-link h) l = no_loop l

comes-up : (d : ℕ) {r s : ℕ} → Comes (chain d) r s → r < s
unfolding body_of
comes-up d (directly {r = r} l p) = up (chain d) (rule-is d r l) p
comes-up d (through a b) = omega (arith, comes-up d a, comes-up d b)

pub chain-finishing : (d : ℕ) → Finishing (chain d)
unfolding body_of
chain-finishing d = record { cycles = λ r l x. no-loops (chain d) (rule-is d r l) x; rules = λ r x. let h = comes-up d x in omega arith }

-- Its walk

module _ (prog : List Rule) (tokens answers : List ℕ) where
  -- n steps lead from one state to the other, and it goes on all the way
  data Through : ℕ → Own → Own → Type 0 where
    no_step : {s : Own} → Through 0 s s
    a-step : {n : ℕ} {q : Acts} {k : List Context} {ps : List Pending} {io : Io} {t : Own} → Through n (own prog tokens answers (on q k ps io)) t → Through (suc n) (on q k ps io) t

  not-before : {n : ℕ} {s t : Own} → Through n s t → (j : ℕ) → Over (owns prog tokens answers j s) → n ≤ j
  unfolding owns
  not-before no_step j o = omega arith
  not-before (a-step h) zero o = elim o [ ]
  not-before (a-step h) (suc j) o = omega (arith, not-before h j o)

  on-through : {n m : ℕ} {s t u : Own} → Through n s t → Through m t u → Through (n + m) s u
  on-through {m = m} {s = s} {u = u} no_step h =
      let e : 0 + m ≡ m = omega arith in
      rw e h
  on-through {m = m} {s = s} {u = u} (a-step {n = n} g) h =
      let e : suc n + m ≡ suc (n + m) = omega arith in
      rw e (a-step (on-through g h))

  call-through : {n m : ℕ} {t : Own} (r : ℕ) (q : Acts) (k : List Context) (ps : List Pending) (io : Io) → length ps < 64
      → Through n (on (body_of prog r) [] (before q k ∷ ps) io) (on q k ps io) → Through m (on q k ps io) t → Through (suc (n + m)) (on (plain (call r) ▸ q) k ps io) t
  unfolding own own_plain entered
  call-through {n} {m} {t} r q k ps io l g h =
      let x : Through (n + m) (own prog tokens answers (on (plain (call r) ▸ q) k ps io)) t = rw (lt-ltb (length ps) 64 l) (on-through g h) in
      a-step x

-- steps of a rule with i rules after it
count : ℕ → ℕ
count zero = 1
count (suc i) = suc (count i + suc (count i + 1))

count-le : (i : ℕ) → 2 ^ i ≤ count i
unfolding count
count-le zero = omega arith
count-le (suc i) = rw (pow-suc 2 i) (omega (arith, count-le i))

module _ (d : ℕ) (tokens answers : List ℕ) where
  walks : (i r : ℕ) (ps : List Pending) (io : Io) → r + i ≡ d → length ps + i ≤ 64 → Through (chain d) tokens answers (count i) (on (body_of (chain d) r) [] ps io) (ended [] ps io)
  unfolding count body_of own ended
  walks zero r ps io e h = go (rule-is d r (omega (arith, chain_length d)))
    where
      go : {m : Rule} → Is d r m → Through (chain d) tokens answers 1 (on m.body [] ps io) (ended [] ps io)
      go (is_last x) = a-step no_step
      go (is-link x) = absurd (omega arith)
  walks (suc i) r ps io e h = go (rule-is d r (omega (arith, chain_length d))) (λ q. walks i (suc r) (before q [] ∷ ps) io (omega arith) (omega arith))
    where
      go : {m : Rule} → Is d r m → ((q : Acts) → Through (chain d) tokens answers (count i) (on (body_of (chain d) (suc r)) [] (before q [] ∷ ps) io) (on q [] ps io))
          → Through (chain d) tokens answers (suc (count i + suc (count i + 1))) (on m.body [] ps io) (ended [] ps io)
      go (is_last x) f = absurd (omega arith)
      go (is-link x) f =
          call-through (chain d) tokens answers (suc r) (plain (call (suc r)) ▸ done) [] ps io (omega arith) (f (plain (call (suc r)) ▸ done))
          (call-through (chain d) tokens answers (suc r) done [] ps io (omega arith) (f done) (a-step no_step))

  -- 64 calls are pending at most
  pub doubles : (allowance : ℕ) → d ≤ 64 → (j : ℕ) → Over (owns (chain d) tokens answers j (own_start (chain d) allowance)) → 2 ^ d ≤ j
  unfolding own_start
  doubles allowance h j o = omega (arith, count-le d, not-before (chain d) tokens answers (walks d 0 [] _ (omega arith) (omega arith)) j o)

pub budget-doubles : (d : ℕ) → d ≤ 64 → 2 ^ d ≤ budget (chain d) 0
budget-doubles d h =
    let x = finishes (chain d) [] [] 0 (chain-accepted d) (chain-finishing d) in
    omega (arith, x.1, doubles d [] [] 0 h x.0 x.2)
