-- Sets of rules in two words, and what each function of the scan tells.
use Rattle.std.specs.Prelude.{◌≡◌, Bool, true, false, cond, not, ◌||◌, ◌&&◌, ◌⊎◌, List, ◌++◌, ℕ, zero, suc, ◌+◌, ◌-◌, ◌*◌, ◌/◌, ◌^◌, ◌<◌, ◌≤◌, eqb, leb, ltb, length, take, drop, get_or}
use Rattle.std.specs.Int.Bits.{bit_and}
use Rattle.base.specs.Tree.{plain}
use Rattle.program.specs.Program.{Plain, Act, Acts, Alts, Other, Rule, body_of}
use Rattle.finishing.specs.Finishing.{Passed, Gives, named}
use Rattle.finishing.specs.Test.{Goal, end, leave, return, gives, calls, Known, quiet, quiets, quiet_some, quiet_named, quiet_other, loop, loops, loops_some, loops_other, passes, reach, some_below, arrow, finishing}
use Rattle.cells.specs.Cells.{plain_cells, rules_cells, cells_start}
use Rattle.verdict.specs.Lies.{RangePlain, labelled, InRange, Lies, LiesAll, LiesRest}
use Rattle.verdict.specs.declared.Rules.{Rules}
use Rattle.verdict.specs.declared.Ways.{Ways}
use Rattle.verdict.specs.declared.Learnt.{Learnt}
use Rattle.verdict.specs.declared.Query.{Query}
use Rattle.verdict.specs.declared.Look.{Look}

unfoldable pub bit : ℕ → ℕ → Bool
bit w k = eqb (bit_and (w / 2 ^ k) 1) 1

unfoldable pub member : Rules → ℕ → Bool
member s r = cond (ltb r 64) (bit s.lo r) (cond (ltb r 128) (bit s.hi (r - 64)) false)

-- m facts in a row, a rule and a value each: some value of rule r has the property
unfoldable pub some_in : List ℕ → ℕ → ℕ → (ℕ → Bool) → Bool
some_in facts m r p = some_below m (λ i. eqb (get_or facts (2 * i) 0) r && p (get_or facts (2 * i + 1) 0))

-- what is known: rules that are passed, and such facts
unfoldable pub known_in : Rules → List ℕ → ℕ → Known
known_in ps facts m = record { passed = member ps; some_value = λ r p. some_in facts m r p }

-- w tells of what the ways to each goal are, those to a return of each value asked for among them, and of cycles
pub record Tells (vs : List ℕ) (w : Ways) (f : Goal → Bool) (l : Bool) : Type 0 where
  pub at_end : w.end ≡ f end
  pub at_exit : w.exit ≡ f leave
  pub at_return : w.ret ≡ f return
  pub at_calls : (r : ℕ) → r < 128 → member w.calls r ≡ f (calls r)
  pub at_gives : (j : ℕ) → j < length vs → j < 128 → member w.given j ≡ f (gives (get_or vs j 0))
  pub at_loops : w.looping ≡ l

-- what the small functions give
pub record Simple (x y z : Bool) (n : ℕ) (r : Ways) : Type 0 where
  pub end : r.end ≡ x
  pub exit : r.exit ≡ y
  pub ret : r.ret ≡ z
  pub calls : (k : ℕ) → member r.calls k ≡ false
  pub given : (k : ℕ) → member r.given k ≡ false
  pub loops : r.looping ≡ false
  pub next : r.next ≡ n

pub record Giving (g : Rules) (n : ℕ) (r : Ways) : Type 0 where
  pub end : r.end ≡ false
  pub exit : r.exit ≡ false
  pub ret : r.ret ≡ true
  pub calls : (k : ℕ) → member r.calls k ≡ false
  pub given : r.given ≡ g
  pub loops : r.looping ≡ false
  pub next : r.next ≡ n

pub record Then (w a r : Ways) : Type 0 where
  pub end : r.end ≡ (w.end && a.end)
  pub exit : r.exit ≡ (w.exit || (w.end && a.exit))
  pub ret : r.ret ≡ (w.ret || (w.end && a.ret))
  pub calls : (k : ℕ) → member r.calls k ≡ (member w.calls k || (w.end && member a.calls k))
  pub given : (k : ℕ) → member r.given k ≡ (member w.given k || (w.end && member a.given k))
  pub loops : r.looping ≡ (w.looping || a.looping)
  pub next : r.next ≡ a.next

pub record Either (w a : Ways) (x : Bool) (r : Ways) : Type 0 where
  pub end : r.end ≡ (w.end || (x && a.end))
  pub exit : r.exit ≡ (w.exit || (x && a.exit))
  pub ret : r.ret ≡ (w.ret || (x && a.ret))
  pub calls : (k : ℕ) → member r.calls k ≡ (member w.calls k || (x && member a.calls k))
  pub given : (k : ℕ) → member r.given k ≡ (member w.given k || (x && member a.given k))
  pub loops : r.looping ≡ (w.looping || a.looping)
  pub next : r.next ≡ a.next

-- the ways of a bring nothing to those of w
pub record Covers (w a : Ways) : Type 0 where
  pub end : (w.end || a.end) ≡ w.end
  pub exit : (w.exit || a.exit) ≡ w.exit
  pub ret : (w.ret || a.ret) ≡ w.ret
  pub calls : (k : ℕ) → (member w.calls k || member a.calls k) ≡ member w.calls k
  pub given : (k : ℕ) → (member w.given k || member a.given k) ≡ member w.given k

-- of m facts all are worth a look, or none where they could only open ways that bring nothing
pub data Worth (w a : Ways) (m : ℕ) : ℕ → Type 0 where
  all_worth : Worth w a m m
  none_worth : Covers w a → Worth w a m 0

pub record Cycled (b r : Ways) : Type 0 where
  pub end : r.end ≡ b.exit
  pub exit : r.exit ≡ false
  pub ret : r.ret ≡ b.ret
  pub calls : (k : ℕ) → member r.calls k ≡ member b.calls k
  pub given : (k : ℕ) → member r.given k ≡ member b.given k
  pub loops : r.looping ≡ (b.end || b.looping)
  pub next : r.next ≡ b.next

pub record Calling (b : Ways) (n : ℕ) (r : Ways) : Type 0 where
  pub end : r.end ≡ b.end
  pub exit : r.exit ≡ b.exit
  pub ret : r.ret ≡ b.ret
  pub calls : (k : ℕ) → k < 128 → member r.calls k ≡ (eqb n k || member b.calls k)
  pub given : (k : ℕ) → member r.given k ≡ member b.given k
  pub loops : r.looping ≡ b.looping
  pub next : r.next ≡ b.next

pub record Placed (b : Ways) (n : ℕ) (r : Ways) : Type 0 where
  pub end : r.end ≡ b.end
  pub exit : r.exit ≡ b.exit
  pub ret : r.ret ≡ b.ret
  pub calls : (k : ℕ) → member r.calls k ≡ member b.calls k
  pub given : (k : ℕ) → member r.given k ≡ member b.given k
  pub loops : r.looping ≡ b.looping
  pub next : r.next ≡ n

-- An action that holds no other, by its first cell: quietly past it, a return, the cells that it takes
unfoldable pub past_cell : ℕ → Bool
past_cell t = (eqb t 5 || eqb t 6) || leb 256 t

unfoldable pub takes : ℕ → ℕ
takes t = cond ((eqb t 1 || eqb t 4) || eqb t 9) 1 (cond (ltb t 256) 2 (cond (ltb t 512) 1 2))

-- the cells before the alternatives of a choice by the token or by an operation, by the first of them
unfoldable pub heads : ℕ → ℕ
heads t = cond (ltb t 1024) 1 2

-- the scan of such an action, of any action, of actions, of alternatives, from the cell at on
pub record LeafTold (cells : List ℕ) (at : ℕ) (ps : Rules) (vs : List ℕ) (w : Ways) : Type 0 where
  pub after : at < w.next
  pub within : w.next ≤ length cells
  pub told : (facts : List ℕ) (m : ℕ) (p : Plain) (k : List ℕ) → drop at cells ≡ plain_cells p k → RangePlain p
      → (drop w.next cells ≡ k) × Tells vs w (quiet (known_in ps facts m) (plain p)) (loop (known_in ps facts m) (plain p))

pub record ActTold (cells : List ℕ) (at : ℕ) (kn : Known) (vs : List ℕ) (w : Ways) : Type 0 where
  pub after : at < w.next
  pub within : w.next ≤ length cells
  pub told : (a : Act) (k : List ℕ) → Lies (drop at cells) a k → (drop w.next cells ≡ k) × Tells vs w (quiet kn a) (loop kn a)

pub record ActsTold (cells : List ℕ) (at : ℕ) (kn : Known) (vs : List ℕ) (w : Ways) : Type 0 where
  pub after : at ≤ w.next
  pub within : w.next ≤ length cells
  pub told : (q : Acts) (k : List ℕ) → LiesAll (drop at cells) q k → (drop w.next cells ≡ k) × Tells vs w (quiets kn q) (loops kn q)

unfoldable pub among : Known → Bool → Bool → Alts → Other → Goal → Bool
among kn x y q o g = (x && quiet_some kn q g) || (y && quiet_other kn o g)

pub record AltsTold (cells : List ℕ) (at : ℕ) (kn : Known) (vs : List ℕ) (x y : Bool) (w : Ways) : Type 0 where
  pub after : at ≤ w.next
  pub within : w.next ≤ length cells
  pub told : (q : Alts) (o : Other) (k : List ℕ) → LiesRest (drop at cells) q o k
      → (drop w.next cells ≡ k) × Tells vs w (among kn x y q o) (loops_some kn q || loops_other kn o)

-- alternatives by the value of rule r
unfoldable pub by_value : Known → ℕ → Alts → Other → Goal → Bool
by_value kn r q o g = quiet_named kn r q g || (kn.some_value r (λ v. not (named v q)) && quiet_other kn o g)

pub record ValuedTold (cells : List ℕ) (at : ℕ) (kn : Known) (vs : List ℕ) (r : ℕ) (w : Ways) : Type 0 where
  pub after : at ≤ w.next
  pub within : w.next ≤ length cells
  pub told : (q : Alts) (o : Other) (k : List ℕ) → labelled q ≤ 64 → LiesRest (drop at cells) q o k
      → (drop w.next cells ≡ k) × Tells vs w (by_value kn r q o) (loops_some kn q || loops_other kn o)

-- the labels from one place to another, put behind the first n as far as there is room
pub record Collected (cells : List ℕ) (from to : ℕ) (old : List ℕ) (n : ℕ) (new : List ℕ) (k : ℕ) : Type 0 where
  pub all : n + (to - from) ≤ length old → (k ≡ n + (to - from)) × (take k new ≡ take n old ++ take (to - from) (drop from cells))

-- a rule's scan: its actions lie from the cell that starts says on
pub record RuleTold (cells starts : List ℕ) (r : ℕ) (kn : Known) (vs : List ℕ) (w : Ways) : Type 0 where
  pub within : w.next ≤ length cells
  pub told : (q : Acts) (k : List ℕ) → LiesAll (drop (get_or starts r 0) cells) q k → (drop w.next cells ≡ k) × Tells vs w (quiets kn q) (loops kn q)

-- the program's rules lie where starts says
pub record Laid (cells starts : List ℕ) (prog : List Rule) : Type 0 where
  pub tail : ℕ → List ℕ
  pub lies : (r : ℕ) → r < length prog → LiesAll (drop (get_or starts r 0) cells) (body_of prog r) (tail r)

-- every fact is one: the rule is passed quietly, it can quietly return the value
pub record True (prog : List Rule) (ps : Rules) (facts : List ℕ) (m : ℕ) : Type 0 where
  pub passes : (r : ℕ) → member ps r ≡ true → Passed prog r
  pub returns : (i : ℕ) → i < m → Gives prog (get_or facts (2 * i) 0) (get_or facts (2 * i + 1) 0)

-- all that follows from them about rule r is among them, of the values that stand behind a cell 10 from one place to another
pub record Exhausts (cells : List ℕ) (prog : List Rule) (ps : Rules) (facts : List ℕ) (m r from to : ℕ) : Type 0 where
  pub values : (i : ℕ) → from ≤ i → i < to → get_or cells i 0 ≡ 10 → quiets (known_in ps facts m) (body_of prog r) (gives (get_or cells (i + 1) 0)) ≡ true → some_in facts m r (λ u. eqb u (get_or cells (i + 1) 0)) ≡ true

-- no fact stands twice
pub record Apart (facts : List ℕ) (m : ℕ) : Type 0 where
  pub differ : (i j : ℕ) → i < j → j < m → get_or facts (2 * i) 0 ≡ get_or facts (2 * j) 0 → get_or facts (2 * i + 1) 0 ≡ get_or facts (2 * j + 1) 0 → ⊥

-- what follows about rule r is known
pub record ClosedAt (prog : List Rule) (kn : Known) (r : ℕ) : Type 0 where
  pub passing : passes kn (body_of prog r) ≡ true → kn.passed r ≡ true
  pub giving : (v : ℕ) → quiets kn (body_of prog r) (gives v) ≡ true → kn.some_value r (λ u. eqb u v) ≡ true

unfoldable pub alike : Learnt → Learnt → Bool
alike j k = (eqb j.passed.lo k.passed.lo && eqb j.passed.hi k.passed.hi) && eqb j.count k.count

-- k is what was known in j already
pub record Same (j k : Learnt) : Type 0 where
  pub passed : k.passed ≡ j.passed
  pub count : k.count ≡ j.count

-- a value that stands behind a cell 10 and is not known of rule r
unfoldable pub sought : List ℕ → ℕ → List ℕ → ℕ → ℕ → Bool
sought cells i facts m r = eqb (get_or cells i 0) 10 && not (some_in facts m r (λ u. eqb u (get_or cells (i + 1) 0)))

-- v is one of the first n values
pub record Asked (vs : List ℕ) (n v : ℕ) : Type 0 where
  pub index : ℕ
  pub below : index < n
  pub its : get_or vs index 0 ≡ v

-- values to ask for: each value behind a cell 10 is known of rule r or among them
pub record GatheredTold (cells : List ℕ) (from to : ℕ) (facts : List ℕ) (m r : ℕ) (vs : List ℕ) (g : Query) : Type 0 where
  pub after : from ≤ g.next
  pub within : g.next ≤ to
  pub further : from < to → from < g.next
  pub few : g.count ≤ length vs
  pub all : (i : ℕ) → from ≤ i → i < g.next → get_or cells i 0 ≡ 10 → (some_in facts m r (λ u. eqb u (get_or cells (i + 1) 0)) ≡ true) ⊎ Asked vs g.count (get_or cells (i + 1) 0)

-- the facts grow behind those that were there, and none stands twice
pub record Grows (old : List ℕ) (m : ℕ) (new : List ℕ) (k : ℕ) : Type 0 where
  pub sized : length new ≡ length old
  pub more : m ≤ k
  pub room : 2 * k ≤ length new
  pub kept : (i : ℕ) → i < 2 * m → get_or new i 0 ≡ get_or old i 0
  pub apart : Apart old m → Apart new k

-- one fact more, that rule r returns v, if there is room and it is none of them
pub record NotedTold (old : List ℕ) (m r v : ℕ) (new : List ℕ) (k : ℕ) : Type 0 where
  pub grows : Grows old m new k
  pub each : (i : ℕ) → m ≤ i → i < k → (get_or new (2 * i) 0 ≡ r) × (get_or new (2 * i + 1) 0 ≡ v)
  pub whole : 2 * k + 1 < length new → some_in new k r (λ u. eqb u v) ≡ true

-- one of the first n values, with its bit in the set
pub record Marked (vs : List ℕ) (n : ℕ) (s : Rules) (v : ℕ) : Type 0 where
  pub index : ℕ
  pub below : index < n
  pub there : member s index ≡ true
  pub its : get_or vs index 0 ≡ v

-- the facts that rule r returns those of the first n values
pub record NotesTold (old : List ℕ) (m r : ℕ) (vs : List ℕ) (n : ℕ) (s : Rules) (new : List ℕ) (k : ℕ) : Type 0 where
  pub grows : Grows old m new k
  pub each : (i : ℕ) → m ≤ i → i < k → (get_or new (2 * i) 0 ≡ r) × Marked vs n s (get_or new (2 * i + 1) 0)
  pub whole : 2 * k + 1 < length new → (j : ℕ) → j < n → member s j ≡ true → some_in new k r (λ u. eqb u (get_or vs j 0)) ≡ true

-- how many numbers below n the test does not hold of
unfoldable pub outside : ℕ → (ℕ → Bool) → ℕ
outside zero f = 0
outside (suc n) f = cond (f n) 0 1 + outside n f

-- what is known grows: the facts, and the rules passed, which stay as they are or are more
pub record Widens (j : Learnt) (old : List ℕ) (k : Learnt) (new : List ℕ) : Type 0 where
  pub facts : Grows old j.count new k.count
  pub sets : (k.passed ≡ j.passed) ⊎ (outside 128 (member k.passed) < outside 128 (member j.passed))

-- the rules passed, with r if it is on
pub record Joined (ps : Rules) (r : ℕ) (on : Bool) (qs : Rules) : Type 0 where
  pub members : (k : ℕ) → k < 128 → member qs k ≡ ((on && eqb r k) || member ps k)
  pub grows : r < 128 → (qs ≡ ps) ⊎ (outside 128 (member qs) < outside 128 (member ps))

-- looks at rule r, whose values from one place on were tried up to t.at: if they brought nothing, what they tried has nothing to bring
pub record Looks (cells starts : List ℕ) (r : ℕ) (j : Learnt) (old : List ℕ) (from : ℕ) (t : Look) (new : List ℕ) : Type 0 where
  pub widens : Widens j old t.known new
  pub after : from ≤ t.at
  pub inside : t.end ≤ length cells
  pub holds : (prog : List Rule) → r < length prog → Laid cells starts prog → True prog j.passed old j.count → True prog t.known.passed new t.known.count
  pub ends : (prog : List Rule) → r < length prog → (l : Laid cells starts prog) → drop t.end cells ≡ l.tail r
  pub passing : (prog : List Rule) → r < length prog → Laid cells starts prog → Same j t.known → passes (known_in t.known.passed new t.known.count) (body_of prog r) ≡ true → member t.known.passed r ≡ true
  pub tried : (prog : List Rule) → r < length prog → Laid cells starts prog → Same j t.known → 2 * t.known.count + 1 < length new → Exhausts cells prog t.known.passed new t.known.count r from t.at

-- one look, at values up to a place
pub record TriedTold (cells starts : List ℕ) (r : ℕ) (j : Learnt) (old : List ℕ) (from to : ℕ) (t : Look) (new : List ℕ) : Type 0 where
  pub looks : Looks cells starts r j old from t new
  pub further : from < to → from < t.at
  pub within : t.at ≤ to

-- one look for these values: it tried those up to at, if they are what is to be asked for up to there
pub record AskedTold (cells starts : List ℕ) (r : ℕ) (j : Learnt) (old vs : List ℕ) (at : ℕ) (t : Look) (new : List ℕ) : Type 0 where
  pub told : (from to : ℕ) → GatheredTold cells from to old j.count r vs (record { count = length vs; next = at }) → TriedTold cells starts r j old from to t new

pub record LookedTold (cells starts : List ℕ) (r : ℕ) (j : Learnt) (old : List ℕ) (k : Learnt) (new : List ℕ) : Type 0 where
  pub widens : Widens j old k new
  pub holds : (prog : List Rule) → r < length prog → Laid cells starts prog → True prog j.passed old j.count → True prog k.passed new k.count
  pub closed : (prog : List Rule) → r < length prog → Laid cells starts prog → Same j k → 2 * k.count + 1 < length new → ClosedAt prog (known_in k.passed new k.count) r

-- of n rules those from the i-th on looked at
pub record SweepTold (cells starts : List ℕ) (n i : ℕ) (j : Learnt) (old : List ℕ) (k : Learnt) (new : List ℕ) : Type 0 where
  pub widens : Widens j old k new
  pub holds : (prog : List Rule) → length prog ≡ n → Laid cells starts prog → True prog j.passed old j.count → True prog k.passed new k.count
  pub closed : (prog : List Rule) → length prog ≡ n → Laid cells starts prog → Same j k → 2 * k.count + 1 < length new → (r : ℕ) → i ≤ r → r < n → ClosedAt prog (known_in k.passed new k.count) r

-- what is known in the end is so, no fact stands twice, and nothing more follows if there was room
pub record LearntTold (cells starts : List ℕ) (n : ℕ) (k : Learnt) (facts : List ℕ) : Type 0 where
  pub room : 2 * k.count ≤ length facts
  pub apart : Apart facts k.count
  pub holds : (prog : List Rule) → length prog ≡ n → Laid cells starts prog → True prog k.passed facts k.count
  pub closed : (prog : List Rule) → length prog ≡ n → Laid cells starts prog → 2 * k.count + 1 < length facts → (r : ℕ) → r < n → ClosedAt prog (known_in k.passed facts k.count) r

-- a table of rows, two words each
unfoldable pub row_of : List ℕ → ℕ → Rules
row_of rows r = record { lo = get_or rows (2 * r) 0; hi = get_or rows (2 * r + 1) 0 }

pub record Puts (old : List ℕ) (r : ℕ) (s : Rules) (new : List ℕ) : Type 0 where
  pub here : row_of new r ≡ s
  pub there : (j : ℕ) → (j ≡ r → ⊥) → row_of new j ≡ row_of old j

-- every row that has k, with row k
pub record Widened (old : List ℕ) (n k : ℕ) (new : List ℕ) : Type 0 where
  pub rows : (r s : ℕ) → r < n → member (row_of new r) s ≡ (member (row_of old r) s || (member (row_of old r) k && member (row_of old k) s))

pub record Closure (old : List ℕ) (n : ℕ) (new : List ℕ) : Type 0 where
  pub rows : (r s : ℕ) → r < n → member (row_of new r) s ≡ reach (λ r s. member (row_of old r) s) n r s

-- the rows of the rules' calls, and whether a cycle has a quiet path from its start to its end
pub record Arrows (cells starts : List ℕ) (n : ℕ) (kn : Known) (b : Bool) (new : List ℕ) : Type 0 where
  pub looping : (prog : List Rule) → length prog ≡ n → Laid cells starts prog → b ≡ some_below n (λ r. loops kn (body_of prog r))
  pub rows : (prog : List Rule) → length prog ≡ n → Laid cells starts prog → (r s : ℕ) → r < n → s < 128 → member (row_of new r) s ≡ arrow prog kn r s

-- the cells and starts are the program's, with any cells behind them
pub record Holds (cells starts : List ℕ) (count : ℕ) (prog : List Rule) : Type 0 where
  pub rest : List ℕ
  pub number : length prog ≡ count
  pub few : count ≤ 128
  pub ranges : InRange prog
  pub its : cells ≡ rules_cells prog ++ rest
  pub short : length cells ≤ 4224
  pub begins : (r : ℕ) → r < count → get_or starts r 0 ≡ cells_start 0 prog r

-- with room for as many numbers as there can be cells, two for each fact
pub record Verdict (cells starts : List ℕ) (count room : ℕ) (b : Bool) : Type 0 where
  pub exact : (prog : List Rule) → 4224 ≤ room → Holds cells starts count prog → b ≡ finishing prog
