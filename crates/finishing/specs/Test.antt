-- The same as a test that computes; that it holds exactly of the finishing programs is `Exact`.
use Rattle.std.specs.Prelude.{Bool, true, false, cond, ◌&&◌, ◌||◌, not, List, [], ◌∷◌, ◌++◌, ◌≡◌, ℕ, zero, suc, eqb, length, get_or}
use Rattle.std.proofs.Math.Option.{Option, none, some}
use Rattle.base.specs.Common.{member}
use Rattle.base.specs.Tree.{plain, cycle, choice, done, ◌▸◌, nil, alternative, absent, otherwise}
use Rattle.program.specs.Program.{Plain, match, any, emit, error, exit, call, back, give, update, update_with, by_token, by_rule, by_operation, by_operation_with, Act, Acts, Alts, Other, Rule, body_of}
use Rattle.finishing.specs.Finishing.{named, Finishing}

-- where a path is sought to: a way; `return` is a return with any value or none
pub data Goal : Type 0 where
  end leave return : Goal
  gives calls : ℕ → Goal

unfoldable pub is_end : Goal → Bool
is_end end = true
is_end leave = false
is_end return = false
is_end (gives v) = false
is_end (calls r) = false

unfoldable pub is_leave : Goal → Bool
is_leave end = false
is_leave leave = true
is_leave return = false
is_leave (gives v) = false
is_leave (calls r) = false

-- a return without a value comes to it
unfoldable pub is_return : Goal → Bool
is_return end = false
is_return leave = false
is_return return = true
is_return (gives v) = false
is_return (calls r) = false

-- a return with the value v comes to it
unfoldable pub is_give : ℕ → Goal → Bool
is_give v end = false
is_give v leave = false
is_give v return = true
is_give v (gives u) = eqb v u
is_give v (calls r) = false

unfoldable pub is_call : ℕ → Goal → Bool
is_call r end = false
is_call r leave = false
is_call r return = false
is_call r (gives v) = false
is_call r (calls s) = eqb r s

unfoldable pub is_far : Goal → Bool
is_far end = false
is_far leave = false
is_far return = true
is_far (gives v) = true
is_far (calls r) = true

-- what is known of the rules: which are passed quietly, and whether some value that a rule can return quietly has a property
pub record Known : Type 0 where
  pub passed : ℕ → Bool
  pub some_value : ℕ → (ℕ → Bool) → Bool

unfoldable pub quiet_plain : Known → Plain → Goal → Bool
quiet_plain k (match t) g = false
quiet_plain k any g = false
quiet_plain k (emit t) g = is_end g
quiet_plain k (error t) g = is_end g
quiet_plain k exit g = is_leave g
quiet_plain k (call r) g = is_call r g || (is_end g && k.passed r)
quiet_plain k back g = is_return g
quiet_plain k (give v) g = is_give v g
quiet_plain k (update op) g = is_end g
quiet_plain k (update_with op v) g = is_end g

-- there is a quiet path to the goal
unfoldable mutual
  pub quiet : Known → Act → Goal → Bool
  quiet k (plain p) g = quiet_plain k p g
  quiet k (cycle b) g = (is_end g && quiets k b leave) || (is_far g && quiets k b g)
  quiet k (choice by_token q o) g = quiet_other k o g
  quiet k (choice (by_rule r) q o) g = is_call r g || (quiet_named k r q g || (k.some_value r (λ v. not (named v q)) && quiet_other k o g))
  quiet k (choice (by_operation op) q o) g = quiet_some k q g || quiet_other k o g
  quiet k (choice (by_operation_with op v) q o) g = quiet_some k q g || quiet_other k o g

  pub quiets : Known → Acts → Goal → Bool
  quiets k done g = is_end g
  quiets k (a ▸ q) g = (not (is_end g) && quiet k a g) || (quiet k a end && quiets k q g)

  -- through any labelled alternative
  pub quiet_some : Known → Alts → Goal → Bool
  quiet_some k nil g = false
  quiet_some k (alternative ls b q) g = quiets k b g || quiet_some k q g

  -- through one that a value of rule r matches
  pub quiet_named : Known → ℕ → Alts → Goal → Bool
  quiet_named k r nil g = false
  quiet_named k r (alternative ls b q) g = (k.some_value r (λ v. member v ls) && quiets k b g) || quiet_named k r q g

  pub quiet_other : Known → Other → Goal → Bool
  quiet_other k absent g = false
  quiet_other k (otherwise b) g = quiets k b g

-- a rule's actions have a quiet path to a return
unfoldable pub passes : Known → Acts → Bool
passes k b = quiets k b end || quiets k b return

-- a cycle with a quiet path from its start to its end stands in it
unfoldable mutual
  pub loop : Known → Act → Bool
  loop k (plain p) = false
  loop k (cycle b) = quiets k b end || loops k b
  loop k (choice s q o) = loops_some k q || loops_other k o

  pub loops : Known → Acts → Bool
  loops k done = false
  loops k (a ▸ q) = loop k a || loops k q

  pub loops_some : Known → Alts → Bool
  loops_some k nil = false
  loops_some k (alternative ls b q) = loops k b || loops_some k q

  pub loops_other : Known → Other → Bool
  loops_other k absent = false
  loops_other k (otherwise b) = loops k b

-- What is known: the least, grown by one fact at a time

-- rule r is passed quietly; it can quietly return the value v
pub data Fact : Type 0 where
  passing : ℕ → Fact
  giving : ℕ → ℕ → Fact

unfoldable pub same : Fact → Fact → Bool
same (passing r) (passing s) = eqb r s
same (passing r) (giving s u) = false
same (giving r v) (passing s) = false
same (giving r v) (giving s u) = eqb r s && eqb v u

-- it is among the facts
unfoldable pub within : List Fact → Fact → Bool
within [] f = false
within (e ∷ es) f = same e f || within es f

-- the fact is that rule r returns a value with the property
unfoldable pub tells_of : Fact → ℕ → (ℕ → Bool) → Bool
tells_of (passing s) r p = false
tells_of (giving s v) r p = eqb s r && p v

unfoldable pub some_of : List Fact → ℕ → (ℕ → Bool) → Bool
some_of [] r p = false
some_of (e ∷ es) r p = tells_of e r p || some_of es r p

unfoldable pub known_of : List Fact → Known
known_of es = record { passed = λ r. within es (passing r); some_value = λ r p. some_of es r p }

-- what is known makes it a fact
unfoldable pub holds : List Rule → Known → Fact → Bool
holds prog k (passing r) = passes k (body_of prog r)
holds prog k (giving r v) = quiets k (body_of prog r) (gives v)

-- the first of the facts that the test holds of
unfoldable pub find : (Fact → Bool) → List Fact → Option Fact
find t [] = none
find t (f ∷ fs) = let later = find t fs in cond (t f) (some f) later

abbrev pub onward : Option Fact → (Fact → List Fact) → List Fact → List Fact
onward none g es = es
onward (some f) g es = g f

-- es with those of fs that come to hold, one after the other, at most i of them
unfoldable pub grow : List Rule → List Fact → ℕ → List Fact → List Fact
grow prog fs zero es = es
grow prog fs (suc i) es = onward (find (λ f. not (within es f) && holds prog (known_of es) f) fs) (λ f. grow prog fs i (f ∷ es)) es

-- the values that stand after a `>>`
unfoldable pub values_plain : Plain → List ℕ
values_plain (match t) = []
values_plain any = []
values_plain (emit t) = []
values_plain (error t) = []
values_plain exit = []
values_plain (call r) = []
values_plain back = []
values_plain (give v) = v ∷ []
values_plain (update op) = []
values_plain (update_with op v) = []

unfoldable mutual
  pub values : Act → List ℕ
  values (plain p) = values_plain p
  values (cycle b) = values_all b
  values (choice s q o) = values_some q ++ values_other o

  pub values_all : Acts → List ℕ
  values_all done = []
  values_all (a ▸ q) = values a ++ values_all q

  pub values_some : Alts → List ℕ
  values_some nil = []
  values_some (alternative ls b q) = values_all b ++ values_some q

  pub values_other : Other → List ℕ
  values_other absent = []
  values_other (otherwise b) = values_all b

unfoldable pub givings : ℕ → List ℕ → List Fact
givings r [] = []
givings r (v ∷ vs) = giving r v ∷ givings r vs

-- what can be a fact of the first n rules
unfoldable pub facts : List Rule → ℕ → List Fact
facts prog zero = []
facts prog (suc n) = passing n ∷ (givings n (values_all (body_of prog n)) ++ facts prog n)

unfoldable pub known : List Rule → Known
known prog = let fs = facts prog (length prog) in known_of (grow prog fs (length fs) [])

-- Calls, directly or through others: the transitive closure

-- from r to s by arrows of f, the places between being below k
unfoldable pub reach : (ℕ → ℕ → Bool) → ℕ → ℕ → ℕ → Bool
reach f zero r s = f r s
reach f (suc k) r s = reach f k r s || (reach f k r k && reach f k k s)

-- n values, from i on
unfoldable pub build : {A : Type 0} → ℕ → ℕ → (ℕ → A) → List A
build zero i f = []
build (suc n) i f = f i ∷ build n (suc i) f

unfoldable pub look : List (List Bool) → ℕ → ℕ → Bool
look t r s = get_or (get_or t r []) s false

unfoldable pub matrix : ℕ → (ℕ → ℕ → Bool) → List (List Bool)
matrix n f = build n 0 (λ r. build n 0 (λ s. f r s))

-- `reach` as a matrix, so that each value is computed once
unfoldable pub closure : (ℕ → ℕ → Bool) → ℕ → ℕ → List (List Bool)
closure f n zero = matrix n f
closure f n (suc k) = let t = closure f n k in matrix n (λ r s. look t r s || (look t r k && look t k s))

unfoldable pub some_below : ℕ → (ℕ → Bool) → Bool
some_below zero f = false
some_below (suc n) f = let lower = some_below n f in f n || lower

-- rule r's actions quietly come to a call of rule s
unfoldable pub arrow : List Rule → Known → ℕ → ℕ → Bool
arrow prog k r s = quiets k (body_of prog r) (calls s)

unfoldable pub finishing : List Rule → Bool
finishing prog =
    let n = length prog in
    let k = known prog in
    let t = closure (arrow prog k) n n in
    not (some_below n (λ r. loops k (body_of prog r))) && not (some_below n (λ r. look t r r))

-- "The verdict is exact for this wider meaning" (02, A.3); proved of every program in proofs/Exact.antt
pub record Exact (prog : List Rule) : Type 0 where
  pub sound : finishing prog ≡ true → Finishing prog
  pub complete : Finishing prog → finishing prog ≡ true

-- all of this file computes where this is unfolded
unfoldable pub opened : Unit {0}
unfolding named is_end is_leave is_return is_give is_call is_far quiet_plain quiet passes loop same within tells_of some_of known_of holds find grow values_plain values givings facts known reach build look matrix closure some_below arrow finishing
opened = tt
