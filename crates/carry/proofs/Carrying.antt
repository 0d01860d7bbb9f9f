-- A walk that a list of calls led to, carried: it goes on, waits or has stopped, and in each case the new rules go on from its places.
use mathlib.Core.Path.{◌≡◌, refl, sym, ap, ◌∙◌}
use mathlib.Core.Logic.{inr}
use mathlib.Core.Bool.{Bool, true, false}
use mathlib.Core.Option.{Option, none, some}
use mathlib.Core.List.{List, [], ◌∷◌, ◌++◌}
use Prim.Native.Nat.{ℕ, suc, ◌+◌, ◌-◌, ◌*◌, ◌^◌, ◌≤◌, ◌<◌, min}
use native.Mathlib.Omega.{arith}
use lib.ListN.{length, get_elem?}
use Rattle.agreement.proofs.Agree.{agree, never-outside}
use Rattle.agreement.proofs.BoundWalk.{budget}
use Rattle.agreement.proofs.Lists.{with_events, step-asked, choices-asked, wanted-asked, asked-next, Kept, kept-runs, kept_fresh, Where, lives, left, waits, listed-where, going-stopped, going-waiting, waiting-stopped}
use Rattle.agreement.proofs.MoreAnswers.{kept-answer, one_more, alike}
use Rattle.agreement.proofs.Single.{taking, runs}
use Rattle.agreement.proofs.Theorem.{no-way-out}
use Rattle.agreement.specs.Demand.{wanted, Listed}
use Rattle.std.specs.Prelude.{if◌then◌else◌}
use Rattle.carry.proofs.After.{follows-going, ends-going, follows-waiting, ends-waiting, follows-stopped, ends-stopped, listed-idle}
use Rattle.carry.proofs.Ends.{ends-after}
use Rattle.carry.proofs.Found.{carried-inj, no-stay, Spot, found_after}
use Rattle.carry.proofs.Lists.{some_inj, none-some, Distinct}
use Rattle.carry.proofs.Tokens.{runs-reads}
use Rattle.carry.specs.Carry.{Source, carry_place, beside, carry_places, carried, stays, put_at, same_all, carry}
use Rattle.carry.specs.GoingOn.{Kept as AllKept, starts_going, starts_waiting, starts_stopped, EndsBy, GoesOn, Carries, after}
use Rattle.carry.specs.Places.{Standing}
use Rattle.events.specs.Events as events
use Rattle.events.specs.Events.{Event, Reason, outside, choices, Io}
use Rattle.finishing.specs.Finishing.{Finishing}
use Rattle.machine.specs.Call.{writing}
use Rattle.machine.specs.Step.{asks, step}
use Rattle.machine.specs.Walk
use Rattle.machine.specs.Walk.{Phase, going, waiting, stopped, Walk, fresh, moved, with_returns, with_io, in_phase, with_answer}
use Rattle.program.specs.Accepted.{Accepted}
use Rattle.program.specs.Table.{table}

-- carrying sees and changes places only; f changes what is no place
module _ (p q : Source) (f : Walk → Walk) (same-location : (w : Walk) → (f w).location ≡ w.location) (same-returns : (w : Walk) → (f w).returns ≡ w.returns)
    (apart : (l : ℕ) (rs : List ℕ) (w : Walk) → f (moved l (with_returns rs w)) ≡ moved l (with_returns rs (f w))) where
  carry-keeps : (w w' : Walk) → carry p q w ≡ carried w' → carry p q (f w) ≡ carried (f w')
  unfolding carry put_at
  carry-keeps w w' e =
      ap (λ (l : ℕ). if same_all p.sections q.sections then put_at (f w) (carry_place p q l) (carry_places p q (f w).returns) else stays 51) (same-location w)
      ∙ ap (λ (rs : List ℕ). if same_all p.sections q.sections then put_at (f w) (carry_place p q w.location) (carry_places p q rs) else stays 51) (same-returns w)
      ∙ outer (same_all p.sections q.sections) e
    where
      inner : (x : Option ℕ) (y : Option (List ℕ)) → put_at w x y ≡ carried w' → put_at (f w) x y ≡ carried (f w')
      inner none y e₁ = no-stay e₁
      inner (some x) none e₁ = no-stay e₁
      inner (some x) (some y) e₁ = ap carried (sym (apart x y w) ∙ ap f (carried-inj e₁))

      outer : (t : Bool) → (if t then put_at w (carry_place p q w.location) (carry_places p q w.returns) else stays 51) ≡ carried w'
          → (if t then put_at (f w) (carry_place p q w.location) (carry_places p q w.returns) else stays 51) ≡ carried (f w')
      outer true e₁ = inner (carry_place p q w.location) (carry_places p q w.returns) e₁
      outer false e₁ = no-stay e₁

-- as many return locations as before
places-length : (p q : Source) (ls ls' : List ℕ) → carry_places p q ls ≡ some ls' → length ls' ≡ length ls
unfolding carry_places beside
places-length p q [] ls' e = let z : [] ≡ ls' = some_inj e in rw (← z)
places-length p q (l ∷ ls) ls' e = go (carry_place p q l) (carry_places p q ls) refl e (λ ms d. places-length p q ls ms d)
  where
    go : (x : Option ℕ) (y : Option (List ℕ)) → carry_places p q ls ≡ y → beside x y ≡ some ls' → ((ms : List ℕ) → carry_places p q ls ≡ some ms → length ms ≡ length ls)
        → length ls' ≡ length (l ∷ ls)
    go none y d e₁ ih = none-some e₁
    go (some x) none d e₁ ih = none-some e₁
    go (some x) (some ms) d e₁ ih = let z : (x ∷ ms) ≡ ls' = some_inj e₁ in rw (← z) (ap suc (ih ms d))

-- what the carried walk keeps
pub keeping : (p q : Source) (w w' : Walk) → carry p q w ≡ carried w' → AllKept w w'
unfolding carry put_at moved with_returns
keeping p q w w' c = outer (same_all p.sections q.sections) c
  where
    inner : (x : Option ℕ) (y : Option (List ℕ)) → carry_places p q w.returns ≡ y → put_at w x y ≡ carried w' → AllKept w w'
    inner none y d e = no-stay e
    inner (some x) none d e = no-stay e
    inner (some x) (some y) d e =
        let z : moved x (with_returns y w) ≡ w' = carried-inj e in
        record {
          phase = ap (λ (v : Walk). v.phase) (sym z);
          depth = ap (λ (v : Walk). length v.returns) (sym z) ∙ places-length p q w.returns y d;
          result = ap (λ (v : Walk). v.result) (sym z);
          parameter = ap (λ (v : Walk). v.parameter) (sym z);
          io = ap (λ (v : Walk). v.io) (sym z);
        }

    outer : (t : Bool) → (if t then put_at w (carry_place p q w.location) (carry_places p q w.returns) else stays 51) ≡ carried w' → AllKept w w'
    outer true e = inner (carry_place p q w.location) (carry_places p q w.returns) refl e
    outer false e = no-stay e

-- Two programs

module _ (p q : Source) (ok : Accepted p.rules) (ok' : Accepted q.rules) (dp : Distinct p.names) (dq : Distinct q.names)
    (np : length p.names ≡ length p.rules) (nq : length q.names ≡ length q.rules) (more more' tokens : List ℕ) where
  abbrev T : List ℕ
  T = table p.rules ++ more

  abbrev T' : List ℕ
  T' = table q.rules ++ more'

  -- a walk that single steps over the old table led to, carried: w₁ has the events of all calls
  pub record Begun (answers : List ℕ) (w₁ : Walk) : Type 0 where
    pub spot : Spot q.rules T' tokens w₁
    pub kept : Kept w₁
    pub few : choices w₁.io.events ≤ length answers
    pub read : w₁.io.read ≤ length tokens

  kept-carried : (w w' : Walk) → carry p q w ≡ carried w' → Kept w → Kept w'
  kept-carried w w' c k =
      let h = keeping p q w w' c in
      let u : w'.io.used ≡ w.io.used = ap (λ (i : Io). i.used) h.io in
      let e : w'.io.events ≡ w.io.events = ap (λ (i : Io). i.events) h.io in
      record { used = u ∙ k.used ∙ ap (λ (es : List Event). min (choices es) (2 ^ 64 - 1)) (sym e); returns = omega (arith, h.depth, k.returns) }

  begun-after : (answers : List ℕ) (allowance n : ℕ) (w₁ : Walk) → (runs T tokens answers n (fresh allowance)).phase ≡ going → choices (runs T tokens answers n (fresh allowance)).io.events ≤ length answers
      → carry p q (runs T tokens answers n (fresh allowance)) ≡ carried w₁ → Begun answers w₁
  unfolding fresh
  begun-after answers allowance n w₁ g f c =
      let h = keeping p q (runs T tokens answers n (fresh allowance)) w₁ c in
      record {
        spot = found_after p q ok ok' dp dq np nq more more' tokens answers allowance n w₁ g c;
        kept = kept-carried (runs T tokens answers n (fresh allowance)) w₁ c (kept-runs T tokens answers n (fresh allowance) (kept_fresh allowance));
        few = rw h.io f;
        read = rw h.io ((runs-reads T tokens answers n (fresh allowance)).inside none_read);
      }
    where
      none_read : (fresh allowance).io.read ≤ length tokens
      none_read = omega arith

  module _ (answers : List ℕ) (allowance : ℕ) {w : Walk} {es : List Event} {n : ℕ} {ns : List ℕ} (l : Listed T tokens answers allowance w es n ns) (w' : Walk) (c : carry p q w ≡ carried w') where
    abbrev Led : Type 0
    Led = Where T tokens answers (fresh allowance) (kept_fresh allowance) w es n

    -- one that goes on
    pub begun-going : w.phase ≡ going → Begun answers (with_events es w')
    unfolding with_events with_io moved with_returns in_phase
    begun-going g = go (listed-where T tokens answers allowance l)
      where
        go : Led → Begun answers (with_events es w')
        go (lives x d mv) =
            let g₁ : (runs T tokens answers n (fresh allowance)).phase ≡ going = ap (λ (v : Walk). v.phase) (sym d) ∙ g in
            begun-after answers allowance n (with_events es w') g₁ (alike T tokens answers 0 allowance n g₁).taken
            (ap (carry p q) (sym d) ∙ carry-keeps p q (with_events es) (λ _. refl) (λ _. refl) (λ _ _ _. refl) w w' c)
        go (left x y z d) = absurd (going-stopped g x)
        go (waits k v v' e d y s r m t) = absurd (going-waiting g (ap (λ (u : Walk). u.phase) t))

    -- one that waits: by these answers, with which single steps come to the same question, and which have one for it
    answering : (given : List ℕ) (x : ℕ) (k : ℕ) (v v' : Walk) (e : Event) → runs T tokens given k (fresh allowance) ≡ v → v.phase ≡ going → step T tokens v ≡ asks e v'
        → es ≡ v.io.events ++ (e ∷ []) → w ≡ in_phase waiting (with_events [] v') → get_elem? given (choices v.io.events) ≡ some x → Begun given (with_events es (with_answer x w'))
    unfolding taking writing Walk.opened events.wrote events.answered with_events
    answering given x k v v' e d y s r t o =
        let asked = step-asked T tokens v v' e s in
        let keeps = asked.keeps in
        let z : runs T tokens given (suc k) (fresh allowance) ≡ with_answer x (writing e v') =
        asked-next T tokens given (fresh allowance) (kept_fresh allowance) k v v' e es d y s r
        ∙ ap (λ u. taking u e v' v) (ap (wanted given) r ∙ wanted-asked given v.io.events e asked.choice ∙ o) in
        let ev : es ≡ v'.io.events ++ (e ∷ []) = r ∙ ap (λ (k : List Event). k ++ (e ∷ [])) (sym keeps.events) in
        let i : f w ≡ with_answer x (writing e v') = ap f t ∙ ap (λ (k : List Event). with_events k (with_answer x v')) ev in
        let c₁ : choices es ≡ choices v.io.events + 1 = ap choices r ∙ choices-asked v.io.events e asked.choice in
        let few : choices (runs T tokens given (suc k) (fresh allowance)).io.events ≤ length given =
        rw (z, ← ev, c₁) (omega (arith, (kept-answer given 0 (choices v.io.events) x o).1)) in
        begun-after given allowance (suc k) (f w') (ap (λ (u : Walk). u.phase) z) few
        (ap (carry p q) (z ∙ sym i) ∙ carry-keeps p q f (λ _. refl) (λ _. refl) (λ _ _ _. refl) w w' c)
      where
        f : Walk → Walk
        f u = with_events es (with_answer x u)

    pub begun-waiting : (x : ℕ) → w.phase ≡ waiting → wanted answers es ≡ some x → Begun answers (with_events es (with_answer x w'))
    begun-waiting x g o = go (listed-where T tokens answers allowance l)
      where
        go : Led → Begun answers (with_events es (with_answer x w'))
        go (lives y d mv) = absurd (y g)
        go (left y z s d) = absurd (waiting-stopped g y)
        go (waits k v v' e d y s r m t) =
            answering answers x k v v' e d y s r t (sym (ap (wanted answers) r ∙ wanted-asked answers v.io.events e (step-asked T tokens v v' e s).choice) ∙ o)

    -- with one answer more there is one
    pub record More (x : ℕ) : Type 0 where
      pub answer : ℕ
      pub wants : wanted (answers ++ (x ∷ [])) es ≡ some answer
      pub begun : Begun (answers ++ (x ∷ [])) (with_events es (with_answer answer w'))

    pub begun_more : (x : ℕ) → w.phase ≡ waiting → More x
    begun_more x g = go (listed-where T tokens answers allowance l)
      where
        go : Led → More x
        go (lives y d mv) = absurd (y g)
        go (left y z s d) = absurd (waiting-stopped g y)
        go (waits k v v' e d y s r m t) =
            let g₁ : (runs T tokens answers k (fresh allowance)).phase ≡ going = ap (λ (u : Walk). u.phase) d ∙ y in
            let a = alike T tokens answers x allowance k g₁ in
            let o = one_more answers x (choices v.io.events) (rw d at a.taken) in
            record {
              answer = o.0;
              wants = ap (wanted (answers ++ (x ∷ []))) r ∙ wanted-asked (answers ++ (x ∷ [])) v.io.events e (step-asked T tokens v v' e s).choice ∙ o.1;
              begun = answering (answers ++ (x ∷ [])) o.0 k v v' e (a.same ∙ d) y s r t o.1;
            }

    -- one that has stopped, not for 37
    pub not-outside : (r : Reason) → w.phase ≡ stopped r → r ≡ outside → ⊥
    unfolding with_events with_io in_phase
    not-outside r g e = go (listed-where T tokens answers allowance l)
      where
        go : Led → ⊥
        go (lives x d mv) = never-outside (agree p.rules more tokens answers allowance ok n).1 (ap (λ (v : Walk). v.phase) (sym d) ∙ g ∙ ap stopped e)
        go (left x y z d) = no-way-out p.rules more tokens answers allowance ok n y z
        go (waits k v v' e₁ d y s r m t) = waiting-stopped (ap (λ (u : Walk). u.phase) t) g

    -- The claim

    standing : {w₁ : Walk} (s : Spot q.rules T' tokens w₁) → Standing q.rules T' tokens w₁ s.own
    standing s = record { at = s.at; stands = s.stands; within = s.within }

    kept-phase : (ph : Phase) → w.phase ≡ ph → w'.phase ≡ ph
    kept-phase ph g = (keeping p q w w' c).phase ∙ g

    on-going : w.phase ≡ going → GoesOn q.rules T' tokens answers w' es
    unfolding after with_events
    on-going g =
        let b = begun-going g in
        let g' = kept-phase going g in
        record {
          from = b.spot.own;
          starts = starts_going g' (standing b.spot);
          follows = follows-going q.rules more' tokens ok' (with_events es w') b.spot answers b.kept b.few w' es g' refl;
        }

    on-waiting : (given : List ℕ) (x : ℕ) → w.phase ≡ waiting → wanted given es ≡ some x → Begun given (with_events es (with_answer x w')) → GoesOn q.rules T' tokens given w' es
    unfolding after with_events
    on-waiting given x g o b =
        let g' = kept-phase waiting g in
        record {
          from = b.spot.own;
          starts = starts_waiting x g' o (standing b.spot);
          follows = follows-waiting q.rules more' tokens ok' (with_events es (with_answer x w')) b.spot given b.kept b.few w' es x g' o refl;
        }

    on-stopped : (r : Reason) → w.phase ≡ stopped r → GoesOn q.rules T' tokens answers w' es
    on-stopped r g =
        let g' = kept-phase (stopped r) g in
        record { from = _; starts = starts_stopped r g'; follows = follows-stopped T' tokens answers w' es r g' q.rules (not-outside r g) }

    pub carries : Carries q.rules T' tokens answers w w' es
    carries = record {
      kept = keeping p q w w' c;
      goes_on = λ h. go w.phase refl h;
      goes_on_waiting = λ g x o. on-waiting answers x g o (begun-waiting x g o);
      goes_on_with = λ g x. let m = begun_more x g in on-waiting (answers ++ (x ∷ [])) m.answer g m.wants m.begun;
    }
      where
        go : (ph : Phase) → w.phase ≡ ph → (w.phase ≡ waiting → ⊥) → GoesOn q.rules T' tokens answers w' es
        go going g h = on-going g
        go waiting g h = absurd (h g)
        go (stopped r) g h = on-stopped r g

    -- A finishing program

    module _ (fin : Finishing q.rules) (left : ℕ) (has : w.io.allowance ≡ left) where
      abbrev Bound : ℕ
      Bound = 3 * budget q.rules (length tokens + (left + 1))

      kept-left : w'.io.allowance ≡ left
      kept-left = ap (λ (i : Io). i.allowance) (keeping p q w w' c).io ∙ has

      ends_on : w.phase ≡ going → EndsBy T' tokens answers w' es (Bound + 1)
      unfolding with_events with_io
      ends_on g =
          let b = begun-going g in
          let e = ends-after q.rules ok' fin more' tokens answers (with_events es w') b.spot b.read b.kept.returns left kept-left in
          ends-going q.rules more' tokens ok' (with_events es w') b.spot answers b.kept b.few w' es (kept-phase going g) refl Bound (Bound + 1) e.0 (omega arith) e.1

      ends-answered : (x : ℕ) → w.phase ≡ waiting → wanted answers es ≡ some x → EndsBy T' tokens answers w' es (Bound + 1)
      unfolding with_events Walk.opened events.answered
      ends-answered x g o =
          let b = begun-waiting x g o in
          let w₁ = with_events es (with_answer x w') in
          let e = ends-after q.rules ok' fin more' tokens answers w₁ b.spot b.read b.kept.returns left kept-left in
          ends-waiting q.rules more' tokens ok' w₁ b.spot answers b.kept b.few w' es x (kept-phase waiting g) o refl Bound (Bound + 1) e.0 (omega arith) e.1

      pub ends-carried : EndsBy T' tokens answers w' es (Bound + 1)
      ends-carried = go w.phase refl
        where
          awaited : (o : Option ℕ) → wanted answers es ≡ o → w.phase ≡ waiting → EndsBy T' tokens answers w' es (Bound + 1)
          awaited (some x) e g = ends-answered x g e
          awaited none e g = λ w₂ es₂ n₂ ns₂ l₂. inr (idle (listed-idle T' tokens answers w' es (kept-phase waiting g) e l₂))
            where
              idle : {n₂ : ℕ} → n₂ ≡ 0 → n₂ < Bound + 1
              idle z = omega (arith, z)

          go : (ph : Phase) → w.phase ≡ ph → EndsBy T' tokens answers w' es (Bound + 1)
          go going g = ends_on g
          go waiting g = awaited (wanted answers es) refl g
          go (stopped r) g = ends-stopped T' tokens answers w' es r (kept-phase (stopped r) g) (Bound + 1)
