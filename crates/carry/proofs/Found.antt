-- "A walk from calls as in demand 3 then goes on as the new source rules say from the same places, with all else it holds kept."
use Prim.Native.Nat.{ℕ, zero, suc, ◌+◌, ◌-◌, ◌≤◌, ◌<◌}
use native.Mathlib.Omega.{arith}
use mathlib.Core.Path.{◌≡◌, refl, sym, ap, ◌∙◌, subst}
use mathlib.Core.Logic.{◌⊎◌, inl, inr}
use mathlib.Core.Bool.{Bool, true, false}
use mathlib.Core.Option.{Option, none, some}
use mathlib.Core.List.{List, [], ◌∷◌, ◌++◌}
use lib.Dec.{ltb}
use lib.ListN.{length, length-append}
use borrow.Author.Tests.{lt-ltb, le-ltb}
use Rattle.base.specs.Bools.{never}
use Rattle.std.specs.Prelude.{if◌then◌else◌}
use Rattle.base.specs.Common.{given}
use Rattle.base.proofs.Laws.{same-eq}
use Rattle.events.specs.Events.{Io}
use Rattle.machine.specs.Decode.{fetch}
use Rattle.machine.specs.Walk.{going, Walk, fresh, moved, with_returns}
use Rattle.ownwalk.specs.OwnWalk as rules
use Rattle.ownwalk.specs.OwnWalk.{Context, Own, on, Pending, before, before_choice, own, owns}
use Rattle.program.proofs.Lengths.{length-codes}
use Rattle.program.specs.Accepted.{Accepted}
use Rattle.base.specs.Tree.{choice, ◌▸◌}
use Rattle.program.specs.Program.{Selector, Acts, Alts, Other, Rule, rule_of, body_of}
use Rattle.program.specs.Table.{size_selector, size_rule, place, table}
use Rattle.agreement.proofs.Agree.{Near}
use Rattle.agreement.proofs.Laid.{fetch-le, program-laid}
use Rattle.agreement.proofs.Lay.{going_at, At, AtChoice, Pend, pend-nil, pend-last, pend-before, pend-choice, Rel, rel-on, rel-choosing}
use Rattle.agreement.proofs.Single.{runs}
use Rattle.carry.proofs.Lists.{some_inj, none-some, Distinct, number-name, number-found}
use Rattle.carry.proofs.Placed.{Place, Choice, to_at, to-choice, here-inside, before-inside}
use Rattle.carry.specs.Places.{Inside, PendingAt, no_pending, pending_at, choice_at, StandsAt, stands_on, stands_choosing, Within, at_start}
use Rattle.carry.proofs.Rules.{place-later}
use Rattle.carry.proofs.Track.{Twin, TwinC, CallsNew, plainly, choosing, Frames, frames-nil, frames-cons, at_place, at-choosing, at-stop, Track, now, half, tracked, place_inside, choice-inside}
use Rattle.carry.specs.Carry.{Name, Source, place_in, place_of, number_of, name_of, numbered, mark, marked_words, same_words, in_rule, carried_at, carry_place, beside, carry_places, carried, stays, put_at, same_all, carry}

-- Locations and places

pub shift-place : (l : ℕ) (bs : List Rule) (a : ℕ) → place l bs a ≡ l + place 0 bs a
unfolding place
shift-place l [] a = omega arith
shift-place l (b ∷ bs) zero = omega arith
shift-place l (b ∷ bs) (suc a) =
    let x = shift-place (l + size_rule b) bs a in
    let y = shift-place (0 + size_rule b) bs a in
    omega (arith, x, y)

pub place-back : (r : ℕ) (bs : List Rule) (a off : ℕ) → a < length bs → off < size_rule (rule_of bs a)
    → place_in (place 0 bs a + off) r bs ≡ some (record { rule = r + a; offset = off })
unfolding place_in place rule_of
place-back r [] a off h i = absurd (omega arith)
place-back r (b ∷ bs) zero off h i =
    let z : 0 + off ≡ off = omega arith in
    let e : r ≡ r + 0 = omega arith in
    rw (z, lt-ltb off (size_rule b) i) (ap (λ (n : ℕ). some (record { rule = n; offset = off })) e)
place-back r (b ∷ bs) (suc a) off h i =
    let s = shift-place (0 + size_rule b) bs a in
    let f : ltb (place (0 + size_rule b) bs a + off) (size_rule b) ≡ false = le-ltb (place (0 + size_rule b) bs a + off) (size_rule b) (omega (arith, s)) in
    let z : place (0 + size_rule b) bs a + off - size_rule b ≡ place 0 bs a + off = omega (arith, s) in
    let e : suc r + a ≡ r + suc a = omega arith in
    rw (f, z) (place-back (suc r) bs a off (omega arith) i ∙ ap (λ (n : ℕ). some (record { rule = n; offset = off })) e)

-- the rule of the new program with the name and the words of the old rule a
unfoldable pub partner : Source → Source → ℕ → Option ℕ
partner p q a = go (number_of (name_of p.names a) 0 q.names)
  where
    go : Option ℕ → Option ℕ
    go none = none
    go (some s) = if same_words p q a s then some s else none

pub record Partner (p q : Source) (a a' : ℕ) : Type 0 where
  pub there : a' < length q.names
  pub named : name_of q.names a' ≡ name_of p.names a
  pub words : marked_words (mark p.names q.names) (rule_of q.rules a') ≡ marked_words (mark p.names p.names) (rule_of p.rules a)

pub partner-is : (p q : Source) (a a' : ℕ) → partner p q a ≡ some a' → Partner p q a a'
unfolding partner same_words
partner-is p q a a' e = outer (number_of (name_of p.names a) 0 q.names) refl e
  where
    w₁ : List ℕ
    w₁ = marked_words (mark p.names p.names) (rule_of p.rules a)

    inner : (s : ℕ) → number_of (name_of p.names a) 0 q.names ≡ some s → (t : Bool) → same_words p q a s ≡ t → (if t then some s else none) ≡ some a' → Partner p q a a'
    inner s d true t e₁ =
        let x : s ≡ a' = some_inj e₁ in
        let f = number-found (name_of p.names a) 0 q.names s d in
        let y : f.0 ≡ a' = omega (arith, x, f.1) in
        record { there = rw y at f.2; named = rw y at f.3; words = sym (rw x at (same-eq w₁ (marked_words (mark p.names q.names) (rule_of q.rules s)) t)) }
    inner s d false t e₁ = none-some e₁

    outer : (x : Option ℕ) → number_of (name_of p.names a) 0 q.names ≡ x → elim x as (λ _. Option ℕ) [ none ↦ none | some s ↦ if same_words p q a s then some s else none ] ≡ some a' → Partner p q a a'
    outer none d e₁ = none-some e₁
    outer (some s) d e₁ = inner s d (same_words p q a s) refl e₁

-- a carried location: the rule has a partner, the word is the same
pub record CarriedAt (p q : Source) (a o l' : ℕ) : Type 0 where
  pub rule : ℕ
  pub is : partner p q a ≡ some rule
  pub at : l' ≡ place 0 q.rules rule + o

pub given_some : (x : Option ℕ) → given x ≡ true → (y : ℕ) × (x ≡ some y)
given_some none e = never e
given_some (some y) e = (y, refl)

pub length_marked : (to : ℕ → ℕ) (r : Rule) → length (marked_words to r) ≡ size_rule r
unfolding marked_words size_rule
length_marked to r = simp length-append (omega (arith, length-codes to r.body 0))

pub not-zero : (W : List ℕ) (o : ℕ) → given (fetch W o) ≡ true → 1 ≤ o
unfolding fetch
not-zero W zero e = never e
not-zero W (suc o) e = omega arith

pub carried-at : (p q : Source) (a o l l' : ℕ) → l ≡ place 0 p.rules a + o → a < length p.rules
    → given (fetch (marked_words (mark p.names p.names) (rule_of p.rules a)) o) ≡ true → carry_place p q l ≡ some l' → CarriedAt p q a o l'
unfolding carry_place carried_at place_of partner in_rule
carried-at p q a zero l l' e h g c = let z = not-zero (marked_words (mark p.names p.names) (rule_of p.rules a)) 0 g in absurd (omega arith)
carried-at p q a (suc o) l l' e h g c =
    let W = marked_words (mark p.names p.names) (rule_of p.rules a) in
    let x = given_some (fetch W (suc o)) g in
    let i = fetch-le W (suc o) x.0 x.1 in
    let n = length_marked (mark p.names p.names) (rule_of p.rules a) in
    let b = place-back 0 p.rules a o h (omega (arith, i, n)) in
    let z : 0 + a ≡ a = omega arith in
    let s : l ≡ suc (place 0 p.rules a + o) = e ∙ more (place 0 p.rules a) o in
    outer (number_of (name_of p.names a) 0 q.names) refl (rw (s, b, z) at c)
  where
    more : (b o : ℕ) → b + suc o ≡ suc (b + o)
    more b o = omega arith

    back : (b o : ℕ) → suc b + o ≡ b + suc o
    back b o = omega arith

    inner : (s : ℕ) → number_of (name_of p.names a) 0 q.names ≡ some s → (t : Bool) → same_words p q a s ≡ t
        → (if t then some (place 1 q.rules s + o) else none) ≡ some l' → CarriedAt p q a (suc o) l'
    inner s d true t c₁ =
        let y : place 1 q.rules s + o ≡ l' = some_inj c₁ in
        record { rule = s; is = rw (d, t); at = sym y ∙ ap (λ (k : ℕ). k + o) (place-later 0 q.rules s) ∙ back (place 0 q.rules s) o }
    inner s d false t c₁ = none-some c₁

    outer : (x : Option ℕ) → number_of (name_of p.names a) 0 q.names ≡ x → in_rule p q (record { rule = a; offset = o }) x ≡ some l' → CarriedAt p q a (suc o) l'
    outer none d c₁ = none-some c₁
    outer (some s) d c₁ = inner s d (same_words p q a s) refl c₁

-- all return locations
pub record CarriedTwo (p q : Source) (l : ℕ) (ls ls' : List ℕ) : Type 0 where
  pub first : ℕ
  pub rest : List ℕ
  pub is : ls' ≡ first ∷ rest
  pub first_is : carry_place p q l ≡ some first
  pub rest-is : carry_places p q ls ≡ some rest

pub carried-two : (p q : Source) (l : ℕ) (ls ls' : List ℕ) → carry_places p q (l ∷ ls) ≡ some ls' → CarriedTwo p q l ls ls'
unfolding carry_places beside
carried-two p q l ls ls' e = go (carry_place p q l) refl (carry_places p q ls) refl e
  where
    go : (x : Option ℕ) → carry_place p q l ≡ x → (y : Option (List ℕ)) → carry_places p q ls ≡ y → beside x y ≡ some ls' → CarriedTwo p q l ls ls'
    go none d y f e₁ = none-some e₁
    go (some x) d none f e₁ = none-some e₁
    go (some x) d (some y) f e₁ = let z : (x ∷ y) ≡ ls' = some_inj e₁ in record { first = x; rest = y; is = sym z; first_is = d; rest-is = f }

-- where a carried walk is put
pub record Puts (p q : Source) (w w' : Walk) : Type 0 where
  pub location : ℕ
  pub returns : List ℕ
  pub location-is : carry_place p q w.location ≡ some location
  pub returns-are : carry_places p q w.returns ≡ some returns
  pub walk_is : w' ≡ moved location (with_returns returns w)

pub carried-inj : {a b : Walk} → carried a ≡ carried b → a ≡ b
carried-inj e = cc

pub no-stay : {A : Type 0} {n : ℕ} {w : Walk} → stays n ≡ carried w → A
no-stay e = let z : ◌≡◌ {A = ℕ} 0 1 = cc in absurd (omega arith)

pub puts : (p q : Source) (w w' : Walk) → carry p q w ≡ carried w' → Puts p q w w'
unfolding carry put_at
puts p q w w' e = outer (same_all p.sections q.sections) e
  where
    inner : (x : Option ℕ) → carry_place p q w.location ≡ x → (y : Option (List ℕ)) → carry_places p q w.returns ≡ y → put_at w x y ≡ carried w' → Puts p q w w'
    inner none d y f e₁ = no-stay e₁
    inner (some x) d none f e₁ = no-stay e₁
    inner (some x) d (some y) f e₁ = record { location = x; returns = y; location-is = d; returns-are = f; walk_is = sym (carried-inj e₁) }

    outer : (t : Bool) → (if t then put_at w (carry_place p q w.location) (carry_places p q w.returns) else stays 51) ≡ carried w' → Puts p q w w'
    outer true e₁ = inner (carry_place p q w.location) refl (carry_places p q w.returns) refl e₁
    outer false e₁ = no-stay e₁

-- the rules' own walk at the place of a walk, or at the one where the step of the rules began that the walk is in
pub record Spot (prog : List Rule) (T tokens : List ℕ) (w : Walk) : Type 0 where
  pub own : Own
  pub at : Walk
  pub goes_on : at.phase ≡ going
  pub related : Rel T (place 1 prog) prog own at
  pub stands : StandsAt prog own at
  pub within : Within T tokens at w
  pub pending : at.returns ≡ w.returns

-- The two programs

module _ (p q : Source) (ok : Accepted p.rules) (ok' : Accepted q.rules) (dp : Distinct p.names) (dq : Distinct q.names)
    (np : length p.names ≡ length p.rules) (nq : length q.names ≡ length q.rules) (more more' tokens answers : List ℕ) where
  abbrev mk : ℕ → ℕ
  mk = mark p.names p.names

  abbrev mk' : ℕ → ℕ
  mk' = mark p.names q.names

  abbrev T : List ℕ
  T = table p.rules ++ more

  abbrev T' : List ℕ
  T' = table q.rules ++ more'

  there : (a a' : ℕ) → partner p q a ≡ some a' → a' < length q.rules
  there a a' e = omega (arith, nq, (partner-is p q a a' e).there)

  fits : (a a' : ℕ) → partner p q a ≡ some a' → marked_words mk' (rule_of q.rules a') ≡ marked_words mk (rule_of p.rules a)
  fits a a' e = (partner-is p q a a' e).words

  abbrev Fr : ℕ → List ℕ → Type 0
  Fr = Frames p.rules q.rules more more' mk mk' ok ok' tokens answers (partner p q) there fits

  abbrev CN : ℕ → Bool → Type 0
  CN = CallsNew p.rules q.rules more more' mk mk' ok ok' tokens answers (partner p q) there fits

  abbrev TW : ℕ → ℕ → Type 0
  TW = Twin p.rules q.rules more more' mk mk' ok ok' tokens answers (partner p q) there fits

  abbrev TC : ℕ → ℕ → Type 0
  TC = TwinC p.rules q.rules more more' mk mk' ok ok' tokens answers (partner p q) there fits

  -- the same mark is the same name
  same-rule : (a a' c' : ℕ) → a < length p.rules → partner p q a ≡ some a' → c' < length q.rules → mk a ≡ mk' c' → c' ≡ a'
  unfolding mark numbered
  same-rule a a' c' h e hc m =
      let pa = partner-is p q a a' e in
      let x = number-name dp 0 a (omega (arith, np)) in
      let y = number-name dq 0 c' (omega (arith, nq)) in
      let z = number-name dq 0 a' pa.there in
      let own : 65536 + (0 + a) ≡ 65536 + numbered (length p.names + c') (number_of (name_of q.names c') 0 p.names) = rw x at m in
      outer (number_of (name_of q.names c') 0 p.names) refl own y z pa.named
    where
      outer : (n : Option ℕ) → number_of (name_of q.names c') 0 p.names ≡ n → 65536 + (0 + a) ≡ 65536 + numbered (length p.names + c') n
          → number_of (name_of q.names c') 0 q.names ≡ some (0 + c') → number_of (name_of q.names a') 0 q.names ≡ some (0 + a')
          → name_of q.names a' ≡ name_of p.names a → c' ≡ a'
      outer none d f y z nm = absurd (omega (arith, np))
      outer (some i) d f y z nm =
          let g = number-found (name_of q.names c') 0 p.names i d in
          let k : g.0 ≡ a = omega (arith, f, g.1) in
          let w : name_of q.names a' ≡ name_of q.names c' = nm ∙ ap (name_of p.names) (sym k) ∙ g.3 in
          let u : some (0 + c') ≡ some (0 + a') = sym y ∙ ap (λ (v : Name). number_of v 0 q.names) (sym w) ∙ z in
          let v = some_inj u in
          omega (arith, v)

  -- the new program's pending calls
  record Pends (v : Bool) (rs : List ℕ) : Type 0 where
    pending : List Pending
    is : Pend T' (place 1 q.rules) q.rules v pending rs
    at : PendingAt q.rules pending rs

  last : (v : Bool) → Pends v []
  last true = record { pending = []; is = pend-last; at = no_pending }
  last false = record { pending = []; is = pend-nil; at = no_pending }

  at-location : {v : Bool} {qs : Acts} {k : List Context} {l l' : ℕ} → At T' (place 1 q.rules) q.rules v qs k l → l ≡ l' → At T' (place 1 q.rules) q.rules v qs k l'
  at-location {v} {qs} {k} h e = subst (λ (i : ℕ). At T' (place 1 q.rules) q.rules v qs k i) e h

  choice-location : {v : Bool} {al : Alts} {ot : Other} {r : Acts} {k : List Context} {l l' : ℕ} → AtChoice T' (place 1 q.rules) q.rules v al ot r k l → l ≡ l'
      → AtChoice T' (place 1 q.rules) q.rules v al ot r k l'
  choice-location {v} {al} {ot} {r} {k} h e = subst (λ (i : ℕ). AtChoice T' (place 1 q.rules) q.rules v al ot r k i) e h

  new-at : (a' o l' : ℕ) (n : Place q.rules T' (marked_words mk' (rule_of q.rules a')) (place 1 q.rules) mk' (place 0 q.rules a') (rule_of q.rules a') o)
      → l' ≡ place 0 q.rules a' + o → At T' (place 1 q.rules) q.rules (rule_of q.rules a').valued n.acts n.contexts l'
  new-at a' o l' n e =
      at-location (to_at q.rules T' (marked_words mk' (rule_of q.rules a')) (place 1 q.rules) mk' (place 0 q.rules a') (rule_of q.rules a') n.is) (sym e)

  new-choice : (a' o l' : ℕ) (n : Choice q.rules T' (marked_words mk' (rule_of q.rules a')) (place 1 q.rules) mk' (place 0 q.rules a') (rule_of q.rules a') o)
      → l' ≡ place 0 q.rules a' + o → AtChoice T' (place 1 q.rules) q.rules (rule_of q.rules a').valued n.alts n.other n.rest n.contexts l'
  new-choice a' o l' n e =
      choice-location (to-choice q.rules T' (marked_words mk' (rule_of q.rules a')) (place 1 q.rules) mk' (place 0 q.rules a') (rule_of q.rules a') n.no-token n.is) (sym e)

  in-new : (a' o : ℕ) (n : Place q.rules T' (marked_words mk' (rule_of q.rules a')) (place 1 q.rules) mk' (place 0 q.rules a') (rule_of q.rules a') o)
      → Inside (body_of q.rules a') n.acts n.contexts o
  unfolding body_of
  in-new a' o n = here-inside q.rules T' (marked_words mk' (rule_of q.rules a')) (place 1 q.rules) mk' (place 0 q.rules a') (rule_of q.rules a') n.is

  record InChoice (a' : ℕ) (s : Selector) (al : Alts) (ot : Other) (r : Acts) (k : List Context) (o : ℕ) : Type 0 where
    at : ℕ
    inside : Inside (body_of q.rules a') (choice s al ot ▸ r) k at
    selected : at + size_selector s ≡ o

  in-choice : (a' o : ℕ) (n : Choice q.rules T' (marked_words mk' (rule_of q.rules a')) (place 1 q.rules) mk' (place 0 q.rules a') (rule_of q.rules a') o)
      → InChoice a' n.by n.alts n.other n.rest n.contexts o
  unfolding body_of
  in-choice a' o n =
      let x = before-inside q.rules T' (marked_words mk' (rule_of q.rules a')) (place 1 q.rules) mk' (place 0 q.rules a') (rule_of q.rules a') n.is in
      record { at = x.at; inside = x.inside; selected = x.selected }

  -- the sort of the rule that returns next
  sort-of : (a a' : ℕ) (v : Bool) → a < length p.rules → partner p q a ≡ some a' → CN a v → (rule_of q.rules a').valued ≡ v
  sort-of a a' v h e c =
      let s = same-rule a a' c.rule h e c.calls.there c.marked in
      rw s at c.calls.sort

  pend-as : {v v' : Bool} {ps : List Pending} {rs : List ℕ} → Pend T' (place 1 q.rules) q.rules v ps rs → v' ≡ v → Pend T' (place 1 q.rules) q.rules v' ps rs
  pend-as {ps = ps} {rs = rs} h e = subst (λ (b : Bool). Pend T' (place 1 q.rules) q.rules b ps rs) (sym e) h

  old-inside : (a o : ℕ) → TW a o → given (fetch (marked_words mk (rule_of p.rules a)) o) ≡ true
  old-inside a o t = place_inside p.rules q.rules more more' mk mk' ok ok' tokens answers (partner p q) there fits a o t.old

  old-choice-inside : (a o : ℕ) → TC a o → given (fetch (marked_words mk (rule_of p.rules a)) o) ≡ true
  old-choice-inside a o t = choice-inside p.rules q.rules more more' mk mk' ok ok' tokens answers (partner p q) there fits a o t.old

  pends : {a : ℕ} {rs : List ℕ} → Fr a rs → (a' : ℕ) (rs' : List ℕ) → a < length p.rules → partner p q a ≡ some a' → carry_places p q rs ≡ some rs'
      → Pends (rule_of q.rules a').valued rs'
  unfolding carry_places
  pends frames-nil a' rs' h e c = let z : [] ≡ rs' = some_inj c in rw (← z) (last (rule_of q.rules a').valued)
  pends (frames-cons {a = a} {b = b} {o = o} {l = l} {rs = rs} d hb (plainly v t cn) fr) a' rs' h e c =
      let x = carried-two p q l rs rs' c in
      let y = carried-at p q b o l x.first d hb (old-inside b o t) x.first_is in
      let n = t.new y.rule y.is in
      let more₁ = pends fr y.rule x.rest hb y.is x.rest-is in
      rw x.is (record {
        pending = before n.acts n.contexts ∷ more₁.pending;
        is = pend-as (pend-before (new-at y.rule o x.first n y.at) more₁.is) (sort-of a a' false h e (cn y.rule y.is));
        at = pending_at y.rule o (there b y.rule y.is) (in-new y.rule o n) y.at more₁.at;
      })
  pends (frames-cons {a = a} {b = b} {o = o} {l = l} {rs = rs} d hb (choosing v t cn) fr) a' rs' h e c =
      let x = carried-two p q l rs rs' c in
      let y = carried-at p q b o l x.first d hb (old-choice-inside b o t) x.first_is in
      let n = t.new y.rule y.is in
      let more₁ = pends fr y.rule x.rest hb y.is x.rest-is in
      rw x.is (record {
        pending = before_choice n.alts n.other n.rest n.contexts ∷ more₁.pending;
        is = pend-as (pend-choice (new-choice y.rule o x.first n y.at) more₁.is) (sort-of a a' true h e (cn y.rule y.is));
        at = choice_at n.by y.rule (in-choice y.rule o n).at (there b y.rule y.is) (in-choice y.rule o n).inside
            (y.at ∙ ap (λ (i : ℕ). place 0 q.rules y.rule + i) (sym (in-choice y.rule o n).selected)) more₁.at;
      })

  -- The carried walk

  abbrev Near' : Own → Walk → Type 0
  Near' = Near T' (place 1 q.rules) q.rules tokens answers (program-laid q.rules more' ok')

  abbrev Tr : Walk → Type 0
  Tr = Track p.rules q.rules more more' mk mk' ok ok' tokens answers (partner p q) there fits

  abbrev Found : Walk → Type 0
  Found = Spot q.rules T' tokens

  relates : (a o a' l' : ℕ) (rs rs' : List ℕ) (w pa : ℕ) (io : Io) → TW a o ⊎ TC a o → Fr a rs → a < length p.rules → partner p q a ≡ some a'
      → l' ≡ place 0 q.rules a' + o → carry_places p q rs ≡ some rs'
      → (s : Own) × Rel T' (place 1 q.rules) q.rules s (going_at l' rs' w pa io) × StandsAt q.rules s (going_at l' rs' w pa io)
  relates a o a' l' rs rs' w pa io (inl t) fr h e d c =
      let n = t.new a' e in
      let ps = pends fr a' rs' h e c in
      (on n.acts n.contexts ps.pending io, rel-on (new-at a' o l' n d) ps.is, stands_on a' o (there a a' e) (in-new a' o n) d ps.at)
  relates a o a' l' rs rs' w pa io (inr t) fr h e d c =
      let n = t.new a' e in
      let ps = pends fr a' rs' h e c in (
        rules.choosing w n.alts n.other n.rest n.contexts ps.pending io,
        rel-choosing (new-choice a' o l' n d) ps.is,
        stands_choosing n.by a' (in-choice a' o n).at (there a a' e) (in-choice a' o n).inside (d ∙ ap (λ (i : ℕ). place 0 q.rules a' + i) (sym (in-choice a' o n).selected)) ps.at,
      )

  goes_on : {w : Walk} → Tr w → (w' : Walk) → w.phase ≡ going → carry p q w ≡ carried w' → Found w'
  unfolding moved with_returns
  goes_on (now (at_place {a = a} {o = o} {l = l} {w = w} {p = pa} {rs = rs} {io = io} d h t fr)) w' g e =
      let x = puts p q (going_at l rs w pa io) w' e in
      let y = carried-at p q a o l x.location d h (old-inside a o t) x.location-is in
      let r = relates a o y.rule x.location rs x.returns w pa io (inl t) fr h y.is y.at x.returns-are in
      let m = going_at x.location x.returns w pa io in
      record { own = r.0; at = m; goes_on = refl; related = r.1; stands = r.2; within = subst (Within T' tokens m) (sym x.walk_is) at_start; pending = ap (λ (v : Walk). v.returns) (sym x.walk_is) }
  goes_on (now (at-choosing {a = a} {o = o} {l = l} {w = w} {p = pa} {rs = rs} {io = io} d h t fr)) w' g e =
      let x = puts p q (going_at l rs w pa io) w' e in
      let y = carried-at p q a o l x.location d h (old-choice-inside a o t) x.location-is in
      let r = relates a o y.rule x.location rs x.returns w pa io (inr t) fr h y.is y.at x.returns-are in
      let m = going_at x.location x.returns w pa io in
      record { own = r.0; at = m; goes_on = refl; related = r.1; stands = r.2; within = subst (Within T' tokens m) (sym x.walk_is) at_start; pending = ap (λ (v : Walk). v.returns) (sym x.walk_is) }
  goes_on (now (at-stop r s)) w' g e = let z : ◌≡◌ {A = ℕ} 0 1 = cc in absurd (omega arith)
  goes_on (half {a = a} {o = o} {l = l} {w₂ = w₂} {p₂ = p₂} {rs = rs} {io₂ = io₂} o₂ w pa io d i h t fr c n) w' g e =
      let x = puts p q (going_at l rs w₂ p₂ io₂) w' e in
      let y = carried-at p q a o₂ l x.location d h i x.location-is in
      let a' = y.rule in
      let r = relates a o a' (place 0 q.rules a' + o) rs x.returns w pa io t fr h y.is refl x.returns-are in
      let m = going_at (place 0 q.rules a' + o) x.returns w pa io in
      let s : going_at (place 0 q.rules a' + o₂) x.returns w₂ p₂ io₂ ≡ w' = ap (λ (k : ℕ). going_at k x.returns w₂ p₂ io₂) (sym y.at) ∙ sym x.walk_is in
      record { own = r.0; at = m; goes_on = refl; related = r.1; stands = r.2; within = subst (Within T' tokens m) s (c a' y.is x.returns); pending = ap (λ (v : Walk). v.returns) s }

  -- after any number of single steps over the old table, carried
  pub found_after : (allowance n : ℕ) (w' : Walk) → (runs T tokens answers n (fresh allowance)).phase ≡ going → carry p q (runs T tokens answers n (fresh allowance)) ≡ carried w' → Found w'
  found_after allowance n w' g e = goes_on (tracked p.rules q.rules more more' mk mk' ok ok' tokens answers (partner p q) there fits allowance n) w' g e
