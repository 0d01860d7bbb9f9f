-- What the checks of the processor leave of a program: the shape and the ranges that its table and both walks rest on.
use Rattle.std.specs.Prelude.{Bool, true, false, List, [], ◌∷◌, ◌≡◌, ℕ, ◌<◌, ◌≤◌, length}
use Rattle.base.specs.Tree.{plain, cycle, choice, done, ◌▸◌, nil, alternative, absent, otherwise}
use Rattle.program.specs.Past.{past_all}
use Rattle.program.specs.Program.{Plain, match, any, emit, error, exit, call, back, give, update, update_with, Selector, by_token, by_rule, by_operation, by_operation_with, Act, Acts, Alts, Other, Rule, rule_of, body_of}

-- "values to 65,535"
abbrev pub Value : ℕ → Type 0
Value v = v < 65536

unfoldable pub Values : List ℕ → Type 0
Values [] = Unit {0}
Values (v ∷ vs) = Value v × Values vs

-- an input choice without otherwise has a first label
unfoldable pub Labelled : Alts → Type 0
Labelled nil = ⊥
Labelled (alternative [] b q) = ⊥
Labelled (alternative (v ∷ ls) b q) = Unit {0}

unfoldable pub NeedsLabel : Selector → Other → Alts → Type 0
NeedsLabel by_token absent q = Labelled q
NeedsLabel by_token (otherwise b) q = Unit {0}
NeedsLabel (by_rule r) o q = Unit {0}
NeedsLabel (by_operation op) o q = Unit {0}
NeedsLabel (by_operation_with op v) o q = Unit {0}

-- rule r is there, and is a choice rule or not as v says
pub record Calls (prog : List Rule) (r : ℕ) (v : Bool) : Type 0 where
  pub there : r < length prog
  pub sort : (rule_of prog r).valued ≡ v

module _ (prog : List Rule) where
  -- v: in a choice rule; c: in a cycle
  unfoldable pub OkPlain : Plain → Bool → Bool → Type 0
  OkPlain (match t) v c = Value t
  OkPlain any v c = Unit {0}
  OkPlain (emit t) v c = Value t
  OkPlain (error t) v c = Value t
  OkPlain exit v c = c ≡ true
  OkPlain (call r) v c = Calls prog r false
  OkPlain back v c = v ≡ false
  OkPlain (give w) v c = (v ≡ true) × Value w
  OkPlain (update op) v c = (256 ≤ op) × (op < 512)
  OkPlain (update_with op w) v c = (512 ≤ op) × (op < 768) × Value w

  unfoldable pub OkSelector : Selector → Type 0
  OkSelector by_token = Unit {0}
  OkSelector (by_rule r) = Calls prog r true
  OkSelector (by_operation op) = (768 ≤ op) × (op < 1024)
  OkSelector (by_operation_with op w) = (1024 ≤ op) × (op < 1280) × Value w

  unfoldable mutual
    pub Ok : Act → Bool → Bool → Type 0
    Ok (plain p) v c = OkPlain p v c
    Ok (cycle b) v c = Oks b v true
    Ok (choice s q o) v c = OkSelector s × OkAlts q v c × OkOther o v c × NeedsLabel s o q

    pub Oks : Acts → Bool → Bool → Type 0
    Oks done v c = Unit {0}
    Oks (a ▸ q) v c = Ok a v c × Oks q v c

    pub OkAlts : Alts → Bool → Bool → Type 0
    OkAlts nil v c = Unit {0}
    OkAlts (alternative ls b q) v c = Values ls × Oks b v c × OkAlts q v c

    pub OkOther : Other → Bool → Bool → Type 0
    OkOther absent v c = Unit {0}
    OkOther (otherwise b) v c = Oks b v c

  -- every rule in order, no choice rule at its semicolon, the first a procedure rule
  pub record Accepted : Type 0 where
    pub some_rule : 0 < length prog
    pub first : (rule_of prog 0).valued ≡ false
    pub in_order : (r : ℕ) → r < length prog → Oks (body_of prog r) (rule_of prog r).valued false
    pub no_end : (r : ℕ) → r < length prog → (rule_of prog r).valued ≡ true → past_all (body_of prog r) ≡ false
