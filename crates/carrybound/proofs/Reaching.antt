-- The places of a carried walk are reachable in the rules of the new program, since those of the walk were in the rules of the old one and the rules in progress have the same words.
use mathlib.Core.List.{List, [], ◌∷◌, ◌++◌}
use mathlib.Core.Option.{some}
use mathlib.Core.Path.{◌≡◌, refl, sym, ap, ◌∙◌}
use native.Mathlib.Omega.{arith}
use Prim.Native.Nat.{ℕ, suc, ◌+◌, ◌<◌}
use lib.ListN.{length}
use Rattle.agreement.specs.Demand.{Listed}
use Rattle.carry.proofs.Carrying.{keeping}
use Rattle.carry.proofs.Found.{Partner, partner-is, carried-at, carried-two, puts}
use Rattle.carry.proofs.Lists.{some_inj}
use Rattle.carry.proofs.Lying.{listed-places}
use Rattle.carry.proofs.Rules.{place-later, rule-place}
use Rattle.carry.specs.Carry.{Source, mark, marked_words, carry_place, carry_places, carried, carry}
use Rattle.events.specs.Events.{Event}
use Rattle.figure.proofs.Spots.{reached-rule}
use Rattle.figure.specs.Figure.{Reached, at_start}
use Rattle.figure.specs.Promise.{RuleStart, rule_start}
use Rattle.machine.specs.Decode.{call_rule, decode}
use Rattle.machine.specs.Walk.{Walk, fresh, moved, with_returns}
use Rattle.program.proofs.Places.{place-first}
use Rattle.program.specs.Accepted.{Accepted}
use Rattle.program.specs.Program.{Rule, rule_of}
use Rattle.program.specs.Table.{place, table}
use Rattle.carrybound.proofs.Bound.{HereIn, is-here, AllHereIn, all_none, all_more, PlacedIn, runs-placed}
use Rattle.carrybound.proofs.Shifted.{spot-inside, down, up}

start-at : (prog : List Rule) (r : ℕ) → place 1 prog r ≡ place 0 prog r + 1
start-at prog r = place-later 0 prog r ∙ one_more (place 0 prog r)
  where
    one_more : (b : ℕ) → suc b ≡ b + 1
    one_more b = omega arith

-- from the start of a rule only starts of rules are called
pub closed : (prog : List Rule) (more : List ℕ) → Accepted prog → (s l m : ℕ) → RuleStart prog s → Reached (table prog ++ more) s l → decode (table prog ++ more) l ≡ call_rule m → RuleStart prog m
closed prog more ok s l m h r d = reached-rule prog more ok h r d

-- the places of a walk from calls
pub listed-placed : (prog : List Rule) (more tokens : List ℕ) → Accepted prog → (answers : List ℕ) (allowance : ℕ) {w : Walk} {es : List Event} {n : ℕ} {ns : List ℕ}
    → Listed (table prog ++ more) tokens answers allowance w es n ns → PlacedIn (table prog ++ more) (RuleStart prog) w.location w.returns
unfolding fresh
listed-placed prog more tokens ok answers allowance l =
    listed-places prog more tokens ok allowance (PlacedIn (table prog ++ more) (RuleStart prog))
    (λ given n g. runs-placed (table prog ++ more) tokens given (RuleStart prog) (closed prog more ok) n (fresh allowance) (λ _. begins) g) answers l
  where
    begins : PlacedIn (table prog ++ more) (RuleStart prog) 1 []
    begins = record { here = is-here (rule_start 0 ok.some_rule (sym (place-first 1 prog))) at_start; behind = all_none; few = omega arith }

module _ (p q : Source) (ok : Accepted p.rules) (ok' : Accepted q.rules) (nq : length q.names ≡ length q.rules) (more more' : List ℕ) where
  abbrev T : List ℕ
  T = table p.rules ++ more

  abbrev T' : List ℕ
  T' = table q.rules ++ more'

  abbrev mk : ℕ → ℕ
  mk = mark p.names p.names

  abbrev mk' : ℕ → ℕ
  mk' = mark p.names q.names

  abbrev Was : ℕ → Type 0
  Was = HereIn T (RuleStart p.rules)

  abbrev Is : ℕ → Type 0
  Is = HereIn T' (RuleStart q.rules)

  -- the same word of a rule with the same words
  in-new : (a a' o l' : ℕ) → Partner p q a a' → l' ≡ place 0 q.rules a' + o → Reached (marked_words mk (rule_of p.rules a)) 1 o → Is l'
  in-new a a' o l' x e r =
      let h : a' < length q.rules = omega (arith, nq, x.there) in
      let W = marked_words mk' (rule_of q.rules a') in
      let own : Reached W 1 o = rw x.words r in
      let u = up q.rules T' W (place 1 q.rules) mk' (place 0 q.rules a') (rule_of q.rules a') (rule-place q.rules more' mk' ok' a' h) own in
      let way : Reached T' (place 1 q.rules a') l' = rw (start-at q.rules a', e) u.way in
      is-here (rule_start a' h refl) way

  here-carried : (l l' : ℕ) → Was l → carry_place p q l ≡ some l' → Is l'
  here-carried l l' (is-here (rule_start a h e) r) c =
      let W = marked_words mk (rule_of p.rules a) in
      let start : Reached T (place 0 p.rules a + 1) l = rw (e ∙ start-at p.rules a) at r in
      let d = down p.rules T W (place 1 p.rules) mk (place 0 p.rules a) (rule_of p.rules a) (rule-place p.rules more mk ok a h) start in
      let i = spot-inside p.rules T W (place 1 p.rules) mk (place 0 p.rules a) (rule_of p.rules a) d.at d.spot in
      let y = carried-at p q a d.at l l' d.is h i c in
      in-new a y.rule d.at l' (partner-is p q a y.rule y.is) y.at d.reached

  all-carried : (ls ls' : List ℕ) → AllHereIn T (RuleStart p.rules) ls → carry_places p q ls ≡ some ls' → AllHereIn T' (RuleStart q.rules) ls'
  unfolding carry_places
  all-carried [] ls' all_none c = let z : [] ≡ ls' = some_inj c in rw (← z) all_none
  all-carried (l ∷ ls) ls' (all_more h hs) c =
      let x = carried-two p q l ls ls' c in
      rw x.is (all_more (here-carried l x.first h x.first_is) (all-carried ls x.rest hs x.rest-is))

  pub placed-carried : (w w' : Walk) → PlacedIn T (RuleStart p.rules) w.location w.returns → carry p q w ≡ carried w' → PlacedIn T' (RuleStart q.rules) w'.location w'.returns
  unfolding moved with_returns
  placed-carried w w' h c =
      let x = puts p q w w' c in
      let k = keeping p q w w' c in
      record {
        here = rw (ap (λ (v : Walk). v.location) x.walk_is) (here-carried w.location x.location h.here x.location-is);
        behind = rw (ap (λ (v : Walk). v.returns) x.walk_is) (all-carried w.returns x.returns h.behind x.returns-are);
        few = omega (arith, k.depth, h.few);
      }
