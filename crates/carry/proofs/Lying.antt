-- `lies-from-calls`, `identity-from-calls`: the places of a walk from calls lie in rules, and it is carried to the same text as it is.
use mathlib.Core.Bool.{Bool, true}
use mathlib.Core.List.{List, [], ◌∷◌, ◌++◌}
use mathlib.Core.Option.{Option, none, some}
use mathlib.Core.Path.{◌≡◌, refl, sym, ap, ◌∙◌}
use Prim.Native.Nat.{ℕ, zero, suc, ◌+◌, ◌≤◌, ◌<◌}
use native.Mathlib.Omega.{arith}
use lib.ListN.{length, get_elem?}
use borrow.Author.Tests.{le-leb}
use Rattle.acceptance.proofs.Accepts.{accepted-table}
use Rattle.agreement.proofs.Laid.{fetch-le}
use Rattle.agreement.proofs.Lists.{with_events, After, after-outside, after_stop, after-goes, after-tells, after-asks, step_after, step-asked, wanted-asked, asked-next, kept_fresh, runs-suc, Where, lives, left, waits, listed-where, going-stopped}
use Rattle.agreement.proofs.MoreAnswers.{one_more, alike}
use Rattle.agreement.proofs.Single.{taking, done, one_in, one, runs}
use Rattle.agreement.proofs.Theorem.{no-way-out}
use Rattle.agreement.specs.Demand.{wanted, Listed}
use Rattle.base.specs.Common.{given}
use Rattle.carry.proofs.Found.{place-back, given_some, length_marked, not-zero}
use Rattle.carry.proofs.Identity.{identity}
use Rattle.carry.proofs.Lists.{none-some}
use Rattle.carry.proofs.Sources.{source_ok}
use Rattle.carry.proofs.Track.{plainly, choosing, Frames, frames-nil, frames-cons, at_place, at-choosing, at-stop, Track, now, half, tracked, place_inside, choice-inside}
use Rattle.carry.specs.Carry.{place_of, marked_words, source_of}
use Rattle.carry.specs.FromCalls.{LiesFromCalls, IdentityFromCalls}
use Rattle.carry.specs.Identity.{InRule, InRules, in_nil, in_cons}
use Rattle.events.specs.Events as events
use Rattle.events.specs.Events.{Event, Reason, outside, unanswered, choices}
use Rattle.finishing.specs.Test.{finishing}
use Rattle.machine.specs.Call.{writing}
use Rattle.machine.specs.Decode.{fetch}
use Rattle.machine.specs.Step.{Next}
use Rattle.machine.specs.Walk
use Rattle.machine.specs.Walk.{Phase, going, waiting, stopped, Walk, fresh, in_phase, with_answer}
use Rattle.processor.specs.Process.{accepted, process, answer_for}
use Rattle.program.proofs.Lengths.{length-table}
use Rattle.program.specs.Accepted.{Accepted}
use Rattle.program.specs.Program.{Rule, rule_of}
use Rattle.program.specs.Table.{size_rules, place, table}

-- a text that is accepted with some room is accepted with the most that a table has
pub accepted-most : (text : List ℕ) (room : ℕ) (words : List ℕ) (verdict : Bool) → process text room ≡ accepted words verdict → process text 4096 ≡ accepted words verdict
unfolding process answer_for
accepted-most text room words verdict e =
    let t = accepted-table text room words verdict e in
    let n = length-table t.prog in
    let l : size_rules t.prog ≤ 4096 = omega (arith, n, t.within_4096, ap length t.words_are) in
    let z : accepted (table t.prog) (finishing t.prog) ≡ accepted words verdict = λ i. accepted (sym t.words_are i) (sym t.verdict_is i) in
    rw (t.means, le-leb (size_rules t.prog) 4096 l) z

-- A stop keeps the places

module _ (T tokens answers : List ℕ) (w₀ : Walk) where
  abbrev At : ℕ → Walk
  At n = runs T tokens answers n w₀

  -- the places are those of a walk that went on
  pub record Last (w : Walk) : Type 0 where
    pub steps : ℕ
    pub goes_on : (At steps).phase ≡ going
    pub location : w.location ≡ (At steps).location
    pub returns : w.returns ≡ (At steps).returns

  goes-there : (n : ℕ) {w : Walk} → w ≡ At n → w.phase ≡ going → Last w
  goes-there n e g = record { steps = n; goes_on = ap (λ (v : Walk). v.phase) (sym e) ∙ g; location = ap (λ (v : Walk). v.location) e; returns = ap (λ (v : Walk). v.returns) e }

  stops-there : (n : ℕ) (r : Reason) → (At n).phase ≡ going → Last (in_phase (stopped r) (At n))
  unfolding in_phase
  stops-there n r g = record { steps = n; goes_on = g; location = refl; returns = refl }

  done-last : (n : ℕ) {nx : Next} → (At n).phase ≡ going → After (At n) nx → done T tokens answers nx (At n) ≡ At (suc n) → Last (done T tokens answers nx (At n))
  unfolding done taking writing Walk.opened
  done-last n g after-outside e = stops-there n outside g
  done-last n g (after_stop r o) e = stops-there n r g
  done-last n g (after-goes v k) e = goes-there (suc n) e (k.phase ∙ g)
  done-last n g (after-tells x v c k) e = goes-there (suc n) e (k.phase ∙ g)
  done-last n g (after-asks x v c m k) e = go (get_elem? answers (choices (At n).io.events)) e
    where
      go : (o : Option ℕ) → taking o x v (At n) ≡ At (suc n) → Last (taking o x v (At n))
      go none d = stops-there n unanswered g
      go (some y) d = goes-there (suc n) d refl

  pub last : w₀.phase ≡ going → (n : ℕ) → Last (At n)
  unfolding runs one one_in
  last g zero = record { steps = 0; goes_on = g; location = refl; returns = refl }
  last g (suc n) = rw (runs-suc T tokens answers n w₀) (go (At n).phase refl (last g n) (sym (runs-suc T tokens answers n w₀)))
    where
      go : (ph : Phase) → (At n).phase ≡ ph → Last (At n) → one_in T tokens answers (At n).phase (At n) ≡ At (suc n) → Last (one_in T tokens answers (At n).phase (At n))
      go going p h e = rw p (done-last n p (step_after T tokens (At n)) (rw p at e))
      go waiting p h e = rw p h
      go (stopped r) p h e = rw p h

-- What holds of the places of each walk that single steps lead to and that goes on holds of those of every walk from calls

module _ (prog : List Rule) (more tokens : List ℕ) (ok : Accepted prog) (allowance : ℕ) (P : ℕ → List ℕ → Type 0)
    (holds : (answers : List ℕ) (n : ℕ) → (runs (table prog ++ more) tokens answers n (fresh allowance)).phase ≡ going
    → P (runs (table prog ++ more) tokens answers n (fresh allowance)).location (runs (table prog ++ more) tokens answers n (fresh allowance)).returns) where
  abbrev Over : List ℕ
  Over = table prog ++ more

  runs-places : (answers : List ℕ) (n : ℕ) → P (runs Over tokens answers n (fresh allowance)).location (runs Over tokens answers n (fresh allowance)).returns
  unfolding fresh
  runs-places answers n = let h = last Over tokens answers (fresh allowance) refl n in rw (h.location, h.returns) (holds answers h.steps h.goes_on)

  same-places : (v w : Walk) → w.location ≡ v.location → w.returns ≡ v.returns → P v.location v.returns → P w.location w.returns
  same-places v w e d h = rw (e, d) h

  pub listed-places : (answers : List ℕ) {w : Walk} {es : List Event} {n : ℕ} {ns : List ℕ} → Listed Over tokens answers allowance w es n ns → P w.location w.returns
  unfolding with_events taking writing Walk.opened events.wrote events.answered
  listed-places answers {w} {es} {n} l = go (listed-where Over tokens answers allowance l)
    where
      go : Where Over tokens answers (fresh allowance) (kept_fresh allowance) w es n → P w.location w.returns
      go (lives x d mv) = same-places (runs Over tokens answers n (fresh allowance)) w (ap (λ (v : Walk). v.location) d) (ap (λ (v : Walk). v.returns) d) (runs-places answers n)
      go (left x y z d) = no-way-out prog more tokens answers allowance ok n y z
      -- with one answer more it goes on from the same places
      go (waits k v v' e d y s r m t) =
          let asked = step-asked Over tokens v v' e s in
          let g : (runs Over tokens answers k (fresh allowance)).phase ≡ going = ap (λ (u : Walk). u.phase) d ∙ y in
          let a = alike Over tokens answers 0 allowance k g in
          let o = one_more answers 0 (choices v.io.events) (rw d at a.taken) in
          let given = answers ++ (0 ∷ []) in
          let z : runs Over tokens given (suc k) (fresh allowance) ≡ with_answer o.0 (writing e v') =
          asked-next Over tokens given (fresh allowance) (kept_fresh allowance) k v v' e es (a.same ∙ d) y s r
          ∙ ap (λ u. taking u e v' v) (ap (wanted given) r ∙ wanted-asked given v.io.events e asked.choice ∙ o.1) in
          same-places (runs Over tokens given (suc k) (fresh allowance)) w (ap (λ (u : Walk). u.location) t ∙ ap (λ (u : Walk). u.location) (sym z))
          (ap (λ (u : Walk). u.returns) t ∙ ap (λ (u : Walk). u.returns) (sym z)) (runs-places given (suc k))

-- The places of a walk that goes on lie in rules

-- a word of rule a
pub in_rule : (prog : List Rule) (mk : ℕ → ℕ) (a o l : ℕ) → l ≡ place 0 prog a + o → a < length prog → given (fetch (marked_words mk (rule_of prog a)) o) ≡ true → InRule prog l
unfolding place_of
in_rule prog mk a zero l e h g = let z = not-zero (marked_words mk (rule_of prog a)) 0 g in absurd (omega arith)
in_rule prog mk a (suc o) l e h g =
    let W = marked_words mk (rule_of prog a) in
    let x = given_some (fetch W (suc o)) g in
    let i = fetch-le W (suc o) x.0 x.1 in
    let n = length_marked mk (rule_of prog a) in
    let s : l ≡ suc (place 0 prog a + o) = e ∙ more (place 0 prog a) o in
    rw s (record { at = record { rule = 0 + a; offset = o }; is = place-back 0 prog a o h (omega (arith, i, n)) })
  where
    more : (b o : ℕ) → b + suc o ≡ suc (b + o)
    more b o = omega arith

module _ (prog : List Rule) (more tokens : List ℕ) (ok : Accepted prog) where
  abbrev T : List ℕ
  T = table prog ++ more

  -- no rule is looked for in another program
  alone : ℕ → Option ℕ
  alone a = none

  itself : ℕ → ℕ
  itself r = r

  no-rule : (a a' : ℕ) → alone a ≡ some a' → a' < length prog
  unfolding alone
  no-rule a a' e = none-some e

  no_words : (a a' : ℕ) → alone a ≡ some a' → marked_words itself (rule_of prog a') ≡ marked_words itself (rule_of prog a)
  unfolding alone
  no_words a a' e = none-some e

  record Lie (l : ℕ) (rs : List ℕ) : Type 0 where
    location : InRule prog l
    returns : InRules prog rs

  module _ (answers : List ℕ) where
    frames-lie : {a : ℕ} {rs : List ℕ} → Frames prog prog more more itself itself ok ok tokens answers alone no-rule no_words a rs → InRules prog rs
    frames-lie frames-nil = in_nil
    frames-lie (frames-cons {b = b} {o = o} {l = l} e h (plainly v t c) fr) =
        in_cons (in_rule prog itself b o l e h (place_inside prog prog more more itself itself ok ok tokens answers alone no-rule no_words b o t.old)) (frames-lie fr)
    frames-lie (frames-cons {b = b} {o = o} {l = l} e h (choosing v t c) fr) =
        in_cons (in_rule prog itself b o l e h (choice-inside prog prog more more itself itself ok ok tokens answers alone no-rule no_words b o t.old)) (frames-lie fr)

    track-lies : {w : Walk} → Track prog prog more more itself itself ok ok tokens answers alone no-rule no_words w → w.phase ≡ going → Lie w.location w.returns
    track-lies (now (at_place {a = a} {o = o} {l = l} e h t fr)) g =
        record { location = in_rule prog itself a o l e h (place_inside prog prog more more itself itself ok ok tokens answers alone no-rule no_words a o t.old); returns = frames-lie fr }
    track-lies (now (at-choosing {a = a} {o = o} {l = l} e h t fr)) g =
        record { location = in_rule prog itself a o l e h (choice-inside prog prog more more itself itself ok ok tokens answers alone no-rule no_words a o t.old); returns = frames-lie fr }
    track-lies (now (at-stop r e)) g = absurd (going-stopped g e)
    track-lies (half {a = a} {l = l} o₂ w p io e i h t fr c n) g = record { location = in_rule prog itself a o₂ l e h i; returns = frames-lie fr }

    going-lies : (allowance n : ℕ) → (runs T tokens answers n (fresh allowance)).phase ≡ going
        → Lie (runs T tokens answers n (fresh allowance)).location (runs T tokens answers n (fresh allowance)).returns
    going-lies allowance n g = track-lies (tracked prog prog more more itself itself ok ok tokens answers alone no-rule no_words allowance n) g

pub lies-from-calls : LiesFromCalls
lies-from-calls text room words verdict e more tokens answers allowance w es n ns l =
    let t = accepted-table text room words verdict e in
    let s = source_ok text t.prog t.means in
    let ok : Accepted (source_of text).rules = rw s.rules_are t.accepts in
    let d : words ≡ table (source_of text).rules = t.words_are ∙ ap table (sym s.rules_are) in
    let h = listed-places (source_of text).rules more tokens ok allowance (Lie (source_of text).rules more tokens ok)
    (λ given. going-lies (source_of text).rules more tokens ok given allowance) answers (rw d at l) in
    record { location = h.location; returns = h.returns }

pub identity-from-calls : IdentityFromCalls
identity-from-calls text room words verdict e more tokens answers allowance w es n ns l =
    identity text words verdict (accepted-most text room words verdict e) w (lies-from-calls text room words verdict e more tokens answers allowance w es n ns l)
