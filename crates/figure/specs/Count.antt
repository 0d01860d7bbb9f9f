-- The figure as a function that computes: numbers by keys, raised one at a time until nothing is left to be raised or one has come to the
-- cap. `Counted` in proofs/ shows that it is the figure, or that some quiet path has as many instructions as the cap.
use Rattle.std.specs.Prelude.{Bool, true, false, ◌&&◌, ◌||◌, List, [], ◌∷◌, ◌++◌, ℕ, zero, suc, ◌+◌, ◌*◌, max, eqb, ltb, length, if◌then◌else◌}
use Rattle.std.proofs.Math.Option.{Option, none, some}
use Rattle.base.specs.Common.{member}
use Rattle.machine.specs.Decode.{fetch, Instruction, invalid, jump, input, input_any, write, input_choice, call_rule, return, set_result, choice, end_choice, set_parameter, update, update_with, choose, choose_with, decode}
use Rattle.program.specs.Program.{Rule}
use Rattle.program.specs.Table.{place, table}
use Rattle.figure.specs.Figure.{way_out, End, over, back}

-- Numbers that grow

module _ {K : Type 0} (same : K → K → Bool) where
  -- the number of a key: the newest that it was raised to
  unfoldable pub value : List (K × ℕ) → K → ℕ
  value [] k = 0
  value (e ∷ es) k = let older = value es k in if same e.0 k then e.1 else older

  module _ (cap : ℕ) (offer : (K → ℕ) → K → ℕ) where
    -- below the cap, and more is offered
    unfoldable pub raises : List (K × ℕ) → K → Bool
    raises es k = ltb (value es k) cap && ltb (value es k) (offer (value es) k)

    -- the first key that can be raised
    unfoldable pub next : List (K × ℕ) → List K → Option K
    next es [] = none
    next es (k ∷ ks) = let later = next es ks in if raises es k then some k else later

    abbrev pub onward : Option K → (K → List (K × ℕ)) → List (K × ℕ) → List (K × ℕ)
    onward none f es = es
    onward (some k) f es = f k

    -- at most i raises
    unfoldable pub grow : List K → ℕ → List (K × ℕ) → List (K × ℕ)
    grow ks zero es = es
    grow ks (suc i) es = onward (next es ks) (λ k. grow ks i ((k, offer (value es) k) ∷ es)) es

    -- from nothing, until nothing can be raised
    unfoldable pub grown : List K → List (K × ℕ)
    grown ks = grow ks (length ks * cap) []

-- the greatest over a list
unfoldable pub most : {A : Type 0} → List A → (A → ℕ) → ℕ
most [] f = 0
most (a ∷ as₁) f = max (f a) (most as₁ f)

unfoldable pub somes : List ℕ → List (Option ℕ)
somes [] = []
somes (v ∷ vs) = some v ∷ somes vs

unfoldable pub truth : Bool → ℕ
truth true = 1
truth false = 0

unfoldable pub each : {A B : Type 0} → List A → (A → List B) → List B
each [] f = []
each (a ∷ as₁) f = f a ++ each as₁ f

unfoldable pub filter : {A : Type 0} → (A → Bool) → List A → List A
filter p [] = []
filter p (a ∷ as₁) = let later = filter p as₁ in if p a then a ∷ later else later

-- Keys: a location, what is known of the result, an end

pub data Key : Type 0 where
  at : ℕ → Option ℕ → End → Key

unfoldable pub same_option : Option ℕ → Option ℕ → Bool
same_option none none = true
same_option none (some v) = false
same_option (some u) none = false
same_option (some u) (some v) = eqb u v

unfoldable pub same_end : End → End → Bool
same_end over over = true
same_end over (back y) = false
same_end (back x) over = false
same_end (back x) (back y) = same_option x y

unfoldable pub same_key : Key → Key → Bool
same_key (at l x e) (at m y f) = eqb l m && (same_option x y && same_end e f)

-- 0 stands for no path

-- one instruction before a path
unfoldable pub more : ℕ → ℕ
more zero = zero
more (suc n) = suc (suc n)

-- a call, the called rule's path and the one behind it
unfoldable pub joined : ℕ → ℕ → ℕ
joined zero n = zero
joined (suc m) zero = zero
joined (suc m) (suc n) = suc (suc m + suc n)

-- an instruction with which a path can be over
unfoldable pub is_over : End → ℕ
is_over over = 1
is_over (back y) = 0

-- a call that stops, or a path that is over in the called rule
unfoldable pub over_in : End → ℕ → ℕ
over_in over n = suc n
over_in (back y) n = 0

unfoldable pub is_back : Option ℕ → End → ℕ
is_back x over = 0
is_back x (back y) = truth (same_option x y)

unfoldable pub backs : List (Option ℕ) → List End
backs [] = []
backs (x ∷ xs) = back x ∷ backs xs

unfoldable pub with_label : Option ℕ → List ℕ → List ℕ
with_label none vs = vs
with_label (some v) vs = v ∷ vs

module _ (T : List ℕ) where
  -- Ways out of a choice

  unfoldable pub labels_from : ℕ → ℕ → List ℕ
  labels_from zero l = []
  labels_from (suc n) l = let later = labels_from n (l + 2) in with_label (fetch T l) later

  unfoldable pub labels_if : Option ℕ → ℕ → List ℕ
  labels_if none c = []
  labels_if (some n) c = labels_from n (c + 1)

  unfoldable pub labels_of : ℕ → List ℕ
  labels_of c = labels_if (fetch T c) c

  -- what a choice with its table at c can go by
  unfoldable pub ways_of : ℕ → List (Option ℕ)
  ways_of c = none ∷ somes (labels_of c)

  -- Reachable

  unfoldable pub some_way : List (Option ℕ) → ℕ → ℕ → Bool
  some_way [] c m = false
  some_way (v ∷ vs) c m = eqb (way_out T c v) m || some_way vs c m

  -- m can come after the instruction i at l
  unfoldable pub leads_to : ℕ → Instruction → ℕ → Bool
  leads_to l invalid m = false
  leads_to l (jump k) m = eqb k m
  leads_to l (input t) m = eqb (l + 2) m
  leads_to l input_any m = eqb (l + 1) m
  leads_to l (write e) m = eqb (l + 2) m
  leads_to l (input_choice c) m = some_way (ways_of c) c m
  leads_to l (call_rule s) m = eqb (l + 2) m
  leads_to l return m = false
  leads_to l (set_result v) m = eqb (l + 2) m
  leads_to l (choice c) m = some_way (ways_of c) c m
  leads_to l end_choice m = false
  leads_to l (set_parameter v) m = eqb (l + 2) m
  leads_to l (update op) m = eqb (l + 1) m
  leads_to l (update_with op) m = eqb (l + 1) m
  leads_to l (choose op) m = eqb (l + 1) m
  leads_to l (choose_with op) m = eqb (l + 1) m

  -- n locations, from l on
  unfoldable pub from : ℕ → ℕ → List ℕ
  from zero l = []
  from (suc n) l = l ∷ from n (suc l)

  unfoldable pub locations : List ℕ
  locations = from (length T) 1

  -- a start, or behind a location that is reached
  unfoldable pub reaches : List ℕ → (ℕ → ℕ) → ℕ → ℕ
  reaches starts v m = max (truth (member m starts)) (most locations (λ l. truth (ltb 0 (v l) && leads_to l (decode T l) m)))

  unfoldable pub reached : List ℕ → List (ℕ × ℕ)
  reached starts = grown eqb 1 (reaches starts) locations

  -- Paths

  unfoldable pub result_of : Instruction → List ℕ
  result_of invalid = []
  result_of (jump k) = []
  result_of (input t) = []
  result_of input_any = []
  result_of (write e) = []
  result_of (input_choice c) = []
  result_of (call_rule s) = []
  result_of return = []
  result_of (set_result v) = v ∷ []
  result_of (choice c) = []
  result_of end_choice = []
  result_of (set_parameter v) = []
  result_of (update op) = []
  result_of (update_with op) = []
  result_of (choose op) = []
  result_of (choose_with op) = []

  -- what a path can know of the result
  unfoldable pub results : List (Option ℕ)
  results = none ∷ somes (each locations (λ l. result_of (decode T l)))

  -- what a choice goes by, the result being known or not
  unfoldable pub ways_by : Option ℕ → ℕ → List (Option ℕ)
  ways_by none c = ways_of c
  ways_by (some v) c = some v ∷ []

  -- the most instructions of a path from l, x being known, to the end e, where v has those from elsewhere; the instruction is i
  unfoldable pub offer_at : (Key → ℕ) → ℕ → Option ℕ → End → Instruction → ℕ
  offer_at v l x e invalid = 0
  offer_at v l x e (jump m) = more (v (at m x e))
  offer_at v l x e (input t) = is_over e
  offer_at v l x e input_any = is_over e
  offer_at v l x e (write ev) = more (v (at (l + 2) x e))
  offer_at v l x e (input_choice c) = max (is_over e) (more (v (at (way_out T c none) none e)))
  offer_at v l x e (call_rule s) = max (over_in e (v (at s none over))) (most results (λ y. joined (v (at s none (back y))) (v (at (l + 2) y e))))
  offer_at v l x e return = is_back x e
  offer_at v l x e (set_result u) = more (v (at (l + 2) (some u) e))
  offer_at v l x e (choice c) = most (ways_by x c) (λ u. more (v (at (way_out T c u) none e)))
  offer_at v l x e end_choice = is_over e
  offer_at v l x e (set_parameter u) = more (v (at (l + 2) x e))
  offer_at v l x e (update op) = more (v (at (l + 1) x e))
  offer_at v l x e (update_with op) = more (v (at (l + 1) x e))
  offer_at v l x e (choose op) = max (is_over e) (more (v (at (l + 1) none e)))
  offer_at v l x e (choose_with op) = max (is_over e) (more (v (at (l + 1) none e)))

  unfoldable pub offer : (Key → ℕ) → Key → ℕ
  offer v (at l x e) = offer_at v l x e (decode T l)

  unfoldable pub ends : List End
  ends = over ∷ backs results

  unfoldable pub keys : List ℕ → List Key
  keys ls = each ls (λ l. each results (λ x. each ends (λ e. at l x e ∷ [])))

  unfoldable pub reachable : List ℕ → List ℕ
  reachable starts = let es = reached starts in filter (λ l. ltb 0 (value eqb es l)) locations

  -- the numbers of all paths from reachable places
  unfoldable pub counts : ℕ → List ℕ → List (Key × ℕ)
  counts cap ls = grown same_key cap offer (keys ls)

  unfoldable pub below : ℕ → List Key → (Key → ℕ) → Bool
  below cap [] v = true
  below cap (k ∷ ks) v = let later = below cap ks v in if ltb (v k) cap then later else false

  unfoldable pub greatest : List ℕ → (Key → ℕ) → ℕ
  greatest ls v = most ls (λ l. most ends (λ e. v (at l none e)))

  -- the figure over these starts, none where some path has as many instructions as the cap
  unfoldable pub figure_at : ℕ → List ℕ → Option ℕ
  figure_at cap ls = let es = counts cap ls in if below cap (keys ls) (value same_key es) then some (greatest ls (value same_key es)) else none

-- the starts of the first n rules
unfoldable pub starts_of : List Rule → ℕ → List ℕ
starts_of prog zero = []
starts_of prog (suc n) = place 1 prog n ∷ starts_of prog n

-- "47 for Q above 4,294,967,295": the greatest figure
abbrev pub most_figure : ℕ
most_figure = 4294967295

-- the figure of a program; none for 47
unfoldable pub figure : List Rule → Option ℕ
figure prog = figure_at (table prog) (suc most_figure) (reachable (table prog) (starts_of prog (length prog)))

-- all of this file computes where this is unfolded
unfoldable pub opened : Unit {0}
unfolding value raises next grow grown most somes truth each filter same_option same_end same_key more joined is_over over_in is_back backs with_label labels_from labels_if labels_of ways_of some_way leads_to from locations reaches reached result_of results ways_by offer_at offer ends keys reachable counts below greatest figure_at starts_of figure
opened = tt
