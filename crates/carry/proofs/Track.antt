-- A walk over the old table, single step by single step, beside the places of the new program: wherever it stands in a rule that the new program
-- has with the same words, the new rule has a place at the same word.
use Prim.Native.Nat.{ℕ, zero, suc, ◌+◌, ◌*◌, ◌<◌}
use native.Mathlib.Omega.{arith}
use mathlib.Core.Path.{◌≡◌, refl, sym, ap, ◌∙◌, subst}
use mathlib.Core.Logic.{◌⊎◌, inl, inr}
use mathlib.Core.Bool.{Bool, true, false}
use mathlib.Core.Option.{Option, none, some}
use mathlib.Core.List.{List, [], ◌∷◌, ◌++◌}
use lib.Dec.{eqb, ltb}
use lib.ListN.{length, get_elem?}
use Rattle.base.specs.Bools.{never, split}
use Rattle.std.specs.Prelude.{if◌then◌else◌}
use Rattle.base.specs.Common.{given}
use Rattle.carry.proofs.Lists.{some_inj, none-some}
use Rattle.events.specs.Events as events
use Rattle.events.specs.Events.{Event, operation, operation_with, repair, Reason, finished, differs, missing, unlabelled, deep, unanswered, choices, Io, present, took, mends, spent, repaired, is}
use Rattle.machine.specs.Call.{writing}
use Rattle.machine.specs.Decode.{fetch, Instruction, invalid, jump, input, input_any, write, input_choice, call_rule, return, set_result, choice as by_result, end_choice, set_parameter, update as updates, update_with as updates_with, choose, choose_with, decode_at, decode}
use Rattle.machine.specs.Step.{stops, goes, tells, go_to, seek_by, landed, calling, returning, requiring, exec, step}
use Rattle.machine.specs.Walk.{stopped, Walk, fresh, moved, with_returns, with_result, with_parameter, with_io, in_phase, with_answer}
use Rattle.program.specs.Accepted.{Calls, Accepted}
use Rattle.program.specs.Program.{Rule, rule_of}
use Rattle.program.specs.Table.{place, table}
use Rattle.agreement.proofs.Lay.{Entry, lookup, Leads, leads-none, leads, Table, going_at}
use Rattle.agreement.proofs.Sim.{lookup_by, missed, or_else, good, good-there, go_to-is, landed-is, seek-leads, branched-is, input_choosing-is}
use Rattle.agreement.proofs.Single.{taking, done, one_in, one, runs}
use Rattle.program.proofs.Places.{place-first}
use Rattle.carry.proofs.Placed.{later, Place, Choice}
use Rattle.carry.proofs.Ready.{Default, default-place, default-input, default-end, Branch, Ready, r-jump, r-input, r-any, r-write, r-call, r-rule, r-return, r-give, r-update, r-update_with, r-token, r-operation, r-operation_with, ready, ReadyChoice, ready-choice, Called, called, called-choice, Next, NextOp, leads-to, Stands, stands_at, place-good, choice-good, Mends, default-mends}
use Rattle.carry.proofs.Rules.{rule-place, place-later}
use Rattle.carry.specs.Carry.{marked_words}
use Rattle.carry.specs.Places.{Default as Fallback, Within, behind_value, behind_parameter, at_default as fallen-to, behind_repair}

-- Tables with entries so many words later

pub length-later : (base : ℕ) (ps : List Entry) → length (later base ps) ≡ length ps
unfolding later
length-later base [] = refl
length-later base (p ∷ ps) = ap suc (length-later base ps)

unfoldable pub ahead : ℕ → Option ℕ → Option ℕ
ahead base none = none
ahead base (some y) = some (base + y)

lookup-later : (base u : ℕ) (ps : List Entry) → lookup u (later base ps) ≡ ahead base (lookup u ps)
unfolding later lookup ahead
lookup-later base u [] = refl
lookup-later base u (p ∷ ps) = go (eqb u p.0) (lookup-later base u ps)
  where
    go : (t : Bool) → lookup u (later base ps) ≡ ahead base (lookup u ps)
        → (if t then some (base + p.1) else lookup u (later base ps)) ≡ ahead base (if t then some p.1 else lookup u ps)
    go true h = refl
    go false h = h

pub by-later : (base : ℕ) (u : Option ℕ) (ps : List Entry) → lookup_by u (later base ps) ≡ ahead base (lookup_by u ps)
unfolding lookup_by ahead
by-later base none ps = refl
by-later base (some u) ps = lookup-later base u ps

-- one choice table has one set of entries
leads-same : (W : List ℕ) {z x y : Option ℕ} → Leads W z x → Leads W z y → x ≡ y
leads-same W leads-none h = go h refl
  where
    go : {z y : Option ℕ} → Leads W z y → z ≡ none → none ≡ y
    go leads-none e = refl
    go (leads f d) e = none-some (sym e)
leads-same W (leads {l = l} {x = n} {y = y} f d) h = go h refl
  where
    go : {z y' : Option ℕ} → Leads W z y' → z ≡ some l → some y ≡ y'
    go leads-none e = none-some e
    go (leads {l = l'} {x = n'} {y = y'} f' d') e =
        let a : l' ≡ l = some_inj e in
        let b : n ≡ n' = some_inj (sym f ∙ (rw a at f')) in
        let c : y ≡ y' = sym d ∙ (rw (← a, b) d') in
        ap some c

table-length : {W : List ℕ} {c : ℕ} {ps qs : List Entry} → Table W c ps → Table W c qs → length ps ≡ length qs
table-length s t = some_inj (sym s.count ∙ t.count)

table_same : {W : List ℕ} {c : ℕ} (ps qs : List Entry) → Table W c ps → Table W c qs → (u : ℕ) → lookup u ps ≡ lookup u qs
table_same {W} ps qs s t u = let e = table-length s t in leads-same W (s.finds [] u) (rw (← e) at (t.finds [] u))

module _ (prog prog' : List Rule) (more more' : List ℕ) (mk mk' : ℕ → ℕ) (ok : Accepted prog) (ok' : Accepted prog') (tokens answers : List ℕ)
    (partner : ℕ → Option ℕ)
    (there : (a a' : ℕ) → partner a ≡ some a' → a' < length prog')
    (fits : (a a' : ℕ) → partner a ≡ some a' → marked_words mk' (rule_of prog' a') ≡ marked_words mk (rule_of prog a)) where
  abbrev T : List ℕ
  T = table prog ++ more

  abbrev T' : List ℕ
  T' = table prog' ++ more'

  abbrev W : ℕ → List ℕ
  W a = marked_words mk (rule_of prog a)

  abbrev W' : ℕ → List ℕ
  W' a = marked_words mk' (rule_of prog' a)

  abbrev pub base : ℕ → ℕ
  base a = place 0 prog a

  abbrev pub base' : ℕ → ℕ
  base' a = place 0 prog' a

  abbrev OldP : ℕ → ℕ → Type 0
  OldP a = Place prog T (W a) (place 1 prog) mk (base a) (rule_of prog a)

  abbrev OldC : ℕ → ℕ → Type 0
  OldC a = Choice prog T (W a) (place 1 prog) mk (base a) (rule_of prog a)

  abbrev pub NewP : ℕ → ℕ → Type 0
  NewP a = Place prog' T' (W' a) (place 1 prog') mk' (base' a) (rule_of prog' a)

  abbrev pub NewC : ℕ → ℕ → Type 0
  NewC a = Choice prog' T' (W' a) (place 1 prog') mk' (base' a) (rule_of prog' a)

  pub record Twin (a o : ℕ) : Type 0 where
    pub old : OldP a o
    pub new : (a' : ℕ) → partner a ≡ some a' → NewP a' o

  pub record TwinC (a o : ℕ) : Type 0 where
    pub old : OldC a o
    pub new : (a' : ℕ) → partner a ≡ some a' → NewC a' o

  -- the new program calls a rule with the mark of the old rule r, of this sort
  pub record CallsNew (r : ℕ) (v : Bool) : Type 0 where
    pub rule : ℕ
    pub marked : mk r ≡ mk' rule
    pub calls : Calls prog' rule v

  -- rule b is to go on at o when rule a returns
  pub data Pended (a b o : ℕ) : Type 0 where
    plainly : (rule_of prog a).valued ≡ false → Twin b o → ((b' : ℕ) → partner b ≡ some b' → CallsNew a false) → Pended a b o
    choosing : (rule_of prog a).valued ≡ true → TwinC b o → ((b' : ℕ) → partner b ≡ some b' → CallsNew a true) → Pended a b o

  pub data Frames : ℕ → List ℕ → Type 0 where
    frames-nil : {a : ℕ} → Frames a []
    frames-cons : {a b o l : ℕ} {rs : List ℕ} → l ≡ base b + o → b < length prog → Pended a b o → Frames b rs → Frames a (l ∷ rs)

  pub data Track₀ : Walk → Type 0 where
    at_place : {a o l w p : ℕ} {rs : List ℕ} {io : Io} → l ≡ base a + o → a < length prog → Twin a o → Frames a rs → Track₀ (going_at l rs w p io)
    at-choosing : {a o l w p : ℕ} {rs : List ℕ} {io : Io} → l ≡ base a + o → a < length prog → TwinC a o → Frames a rs → Track₀ (going_at l rs w p io)
    at-stop : {m : Walk} (r : Reason) → m.phase ≡ stopped r → Track₀ m

  -- in the middle of a step of the rules, in both tables
  pub data Track : Walk → Type 0 where
    now : {m : Walk} → Track₀ m → Track m
    half : {a o l w₂ p₂ : ℕ} {rs : List ℕ} {io₂ : Io} (o₂ w p : ℕ) (io : Io) → l ≡ base a + o₂ → given (fetch (W a) o₂) ≡ true → a < length prog → Twin a o ⊎ TwinC a o → Frames a rs
        → ((a' : ℕ) → partner a ≡ some a' → (rs' : List ℕ) → Within T' tokens (going_at (base' a' + o) rs' w p io) (going_at (base' a' + o₂) rs' w₂ p₂ io₂))
        → Track (one T tokens answers (going_at l rs w₂ p₂ io₂)) → Track (going_at l rs w₂ p₂ io₂)

  -- what the new rule's place leads to, by the old rule's words
  flow : (a a' : ℕ) {o : ℕ} (i : Instruction) → partner a ≡ some a' → NewP a' o → decode (W a) o ≡ i
      → Next prog' T' (W' a') (place 1 prog') mk' (base' a') (rule_of prog' a') i o
  flow a a' {o} i e p d =
      leads-to prog' T' (W' a') (place 1 prog') mk' (base' a') (rule_of prog' a') p i (ap (λ (w : List ℕ). decode w o) (fits a a' e) ∙ d)

  stand : (a a' : ℕ) {o : ℕ} (i : Instruction) → partner a ≡ some a' → NewP a' o → decode (W a) o ≡ i
      → Stands prog' T' (W' a') (place 1 prog') mk' (base' a') (rule_of prog' a') i o
  stand a a' {o} i e p d =
      stands_at prog' T' (W' a') (place 1 prog') mk' (base' a') (rule_of prog' a') p i (ap (λ (w : List ℕ). decode w o) (fits a a' e) ∙ d)

  old-good : (a : ℕ) {o : ℕ} → OldP a o → good (decode T (base a + o)) ≡ true
  old-good a p = place-good prog T (W a) (place 1 prog) mk (base a) (rule_of prog a) p

  old-choice-good : (a : ℕ) {o : ℕ} → OldC a o → good (decode T (base a + o)) ≡ true
  old-choice-good a p = choice-good prog T (W a) (place 1 prog) mk (base a) (rule_of prog a) p

  new-good : (a : ℕ) {o : ℕ} → NewP a o → good (decode T' (base' a + o)) ≡ true
  new-good a p = place-good prog' T' (W' a) (place 1 prog') mk' (base' a) (rule_of prog' a) p

  not-choosing : (a : ℕ) {o c : ℕ} {A : Type 0} → OldP a o → decode (W a) o ≡ by_result c → A
  unfolding Next
  not-choosing a {c = c} p d = absurd (leads-to prog T (W a) (place 1 prog) mk (base a) (rule_of prog a) p (by_result c) d)

  not-choosing' : (a : ℕ) {o c : ℕ} {A : Type 0} → NewP a o → decode (W' a) o ≡ by_result c → A
  unfolding Next
  not-choosing' a {c = c} p d = absurd (leads-to prog' T' (W' a) (place 1 prog') mk' (base' a) (rule_of prog' a) p (by_result c) d)

  choice_at : (a : ℕ) {o : ℕ} → OldC a o → ReadyChoice prog T (W a) (place 1 prog) mk (base a) (rule_of prog a) o
  choice_at a c = ready-choice prog T (W a) (place 1 prog) mk (base a) (rule_of prog a) c

  choice-at' : (a : ℕ) {o : ℕ} → NewC a o → ReadyChoice prog' T' (W' a) (place 1 prog') mk' (base' a) (rule_of prog' a) o
  choice-at' a c = ready-choice prog' T' (W' a) (place 1 prog') mk' (base' a) (rule_of prog' a) c

  -- Calls

  called-plain : (a a' : ℕ) {o r : ℕ} → partner a ≡ some a' → OldP a (o + 2) → NewP a' o → decode (W a) o ≡ call_rule (mk r) → NewP a' (o + 2) × CallsNew r false
  unfolding Next
  called-plain a a' {o} {r} e p n d = go (flow a a' (call_rule (mk r)) e n d)
    where
      go : Called prog' T' (W' a') (place 1 prog') mk' (base' a') (rule_of prog' a') (mk r) (o + 2) → NewP a' (o + 2) × CallsNew r false
      go (called {r = c} m k q) = (q, record { rule = c; marked = m; calls = k })
      go (called-choice m k q) =
          let x = choice-at' a' q in
          not-choosing a p (ap (λ (w : List ℕ). decode w (o + 2)) (sym (fits a a' e)) ∙ x.local)

  called-choosing : (a a' : ℕ) {o r : ℕ} → partner a ≡ some a' → OldC a (o + 2) → NewP a' o → decode (W a) o ≡ call_rule (mk r) → NewC a' (o + 2) × CallsNew r true
  unfolding Next
  called-choosing a a' {o} {r} e p n d = go (flow a a' (call_rule (mk r)) e n d)
    where
      go : Called prog' T' (W' a') (place 1 prog') mk' (base' a') (rule_of prog' a') (mk r) (o + 2) → NewC a' (o + 2) × CallsNew r true
      go (called {r = c} m k q) =
          let x = choice_at a p in
          not-choosing' a' q (ap (λ (w : List ℕ). decode w (o + 2)) (fits a a' e) ∙ x.local)
      go (called-choice {r = c} m k q) = (q, record { rule = c; marked = m; calls = k })

  -- every rule begins with a twin
  begins : (r : ℕ) → r < length prog → Twin r 1
  begins r h = record { old = rule-place prog more mk ok r h; new = λ r' e. rule-place prog' more' mk' ok' r' (there r r' e) }

  start-at : (r : ℕ) → place 1 prog r ≡ base r + 1
  start-at r = place-later 0 prog r ∙ one_more (base r)
    where
      one_more : (b : ℕ) → suc b ≡ b + 1
      one_more b = omega arith

  if-track : (t : Bool) (v m : Walk) (r : Reason) → Track₀ v → Track₀ (done T tokens answers (if t then goes v else stops r) m)
  unfolding done in_phase
  if-track true v m r h = h
  if-track false v m r h = at-stop r refl

  -- a required token: there, repaired, or neither
  required : (v : ℕ) (t : Bool) (l w p : ℕ) {rs : List ℕ} (io : Io) → ((io₁ : Io) → Track₀ (going_at (l + 2) rs w p io₁))
      → Track₀ (done T tokens answers (requiring T tokens v t (going_at l rs w p io)) (going_at l rs w p io))
  unfolding requiring done writing moved with_io in_phase
  required v true l w p io h = h (took io)
  required v false l w p {rs} io h = go (mends io)
    where
      go : (t : Bool) → Track₀ (done T tokens answers (if t then tells (repair v) (going_at (l + 2) rs w p (spent io)) else stops differs) (going_at l rs w p io))
      go true = h (events.wrote (repair v) (spent io))
      go false = at-stop differs refl

  next-to : (b o n : ℕ) → b + o + n ≡ b + (o + n)
  next-to b o n = omega arith

  -- a return
  returned : {a : ℕ} {rs : List ℕ} (l w p : ℕ) (io : Io) → (rule_of prog a).valued ≡ false → Frames a rs
      → Track₀ (done T tokens answers (returning T tokens rs (going_at l rs w p io)) (going_at l rs w p io))
  unfolding returning done in_phase with_returns moved
  returned l w p io z frames-nil = at-stop finished refl
  returned l w p io z (frames-cons {b = b} {o = o} {rs = rs} e h (plainly v t c) fr) =
      rw (e, go_to-is T tokens (base b + o) (going_at l rs w p io) (old-good b t.old)) (at_place refl h t fr)
  returned l w p io z (frames-cons e h (choosing v t c) fr) = never (sym z ∙ v)

  gave : {a : ℕ} {rs : List ℕ} (l w p : ℕ) (io : Io) → (rule_of prog a).valued ≡ true → Frames a rs
      → Track₀ (done T tokens answers (returning T tokens rs (going_at l rs w p io)) (going_at l rs w p io))
  unfolding returning done in_phase with_returns moved
  gave l w p io z frames-nil = at-stop finished refl
  gave l w p io z (frames-cons {b = b} {o = o} {rs = rs} e h (choosing v t c) fr) =
      rw (e, go_to-is T tokens (base b + o) (going_at l rs w p io) (old-choice-good b t.old)) (at-choosing refl h t fr)
  gave l w p io z (frames-cons e h (plainly v t c) fr) = never (sym v ∙ z)

  -- a call
  entering : (a o : ℕ) {r : ℕ} {rs : List ℕ} (w p : ℕ) (io : Io) → r < length prog → Frames r ((base a + o + 2) ∷ rs)
      → Track₀ (done T tokens answers (calling T tokens (place 1 prog r) (going_at (base a + o) rs w p io)) (going_at (base a + o) rs w p io))
  unfolding calling moved with_returns
  entering a o {r} {rs} w p io h fr =
      let t = begins r h in
      let g : good (decode T (place 1 prog r)) ≡ true = rw (start-at r) (old-good r t.old) in
      rw (good-there T (place 1 prog r) g) (if-track (ltb (length rs) 64) (going_at (place 1 prog r) ((base a + o + 2) ∷ rs) w p io) _ deep (at_place (start-at r) h t fr))

  -- an operation asks
  asking : {a o : ℕ} {rs : List ℕ} (l w p : ℕ) (io : Io) (x : Option ℕ) (e : Event) → l + 1 ≡ base a + o → a < length prog → TwinC a o → Frames a rs
      → Track₀ (taking x e (going_at (l + 1) rs w p io) (going_at l rs w p io))
  unfolding taking with_answer writing in_phase with_result with_io
  asking l w p io none e d h t fr = at-stop unanswered refl
  asking l w p io (some u) e d h t fr = at-choosing d h t fr

  -- Choices

  abbrev OldB : ℕ → Bool → ℕ → Type 0
  OldB a = Branch prog T (W a) (place 1 prog) mk (base a) (rule_of prog a)

  abbrev NewB : ℕ → Bool → ℕ → Type 0
  NewB a = Branch prog' T' (W' a) (place 1 prog') mk' (base' a) (rule_of prog' a)

  abbrev OldD : ℕ → Bool → ℕ → List Entry → Type 0
  OldD a = Default prog T (W a) (place 1 prog) mk (base a) (rule_of prog a)

  abbrev NewD : ℕ → Bool → ℕ → List Entry → Type 0
  NewD a = Default prog' T' (W' a) (place 1 prog') mk' (base' a) (rule_of prog' a)

  abbrev OldM : ℕ → ℕ → ℕ → ℕ → Type 0
  OldM a = Mends prog T (W a) (place 1 prog) mk (base a) (rule_of prog a)

  abbrev NewM : ℕ → ℕ → ℕ → ℕ → Type 0
  NewM a = Mends prog' T' (W' a) (place 1 prog') mk' (base' a) (rule_of prog' a)

  -- no label is the token
  abbrev NoLabel : Bool → Option ℕ → Io → List Entry → Type 0
  NoLabel i u io ps = (lookup_by u ps ≡ none) × (i ≡ true → u ≡ present tokens io)

  -- a word that is an instruction
  word-there : (a d : ℕ) (i : Instruction) → decode (W a) d ≡ i → good i ≡ true → given (fetch (W a) d) ≡ true
  word-there a d i e g = good-there (W a) d (rw e g)

  -- the default by the old rule's words: a place; a required token that is not there, with a jump back; end_choice
  data Fallen (i : Bool) (a d : ℕ) (io : Io) : Type 0 where
    on-place : OldP a d → Fallen i a d io
    on-token : (v y : ℕ) → i ≡ true → decode (W a) d ≡ input v → decode (W a) (d + 2) ≡ jump y → is v (present tokens io) ≡ false → Fallen i a d io
    on-end : decode (W a) d ≡ end_choice → decode T (base a + d) ≡ end_choice → Fallen i a d io

  data Required (i : Bool) (a d : ℕ) (io : Io) : Type 0 where
    required-token : (v y : ℕ) → i ≡ true → decode (W a) d ≡ input v → decode (W a) (d + 2) ≡ jump y → is v (present tokens io) ≡ false → Required i a d io

  not_there : (u : Option ℕ) (io : Io) (v x : ℕ) (ps : List Entry) → NoLabel true u io ((v, x) ∷ ps) → is v (present tokens io) ≡ false
  not_there u io v x ps n = rw (n.1 refl) at (missed u v x ps n.0)

  old-fallen : (i : Bool) (a d : ℕ) (ps : List Entry) (u : Option ℕ) (io : Io) → OldD a i d ps → NoLabel i u io ps → Fallen i a d io
  old-fallen i a d ps u io (default-place q) n = on-place q
  old-fallen true a d qs u io (default-input {u = v} {a = x} {ps = ps} dw dt dw₂ dt₂) n = on-token v x refl dw dw₂ (not_there u io v x ps n)
  old-fallen false a d ps u io (default-end dw dt) n = on-end dw dt

  -- where the old program has a place there, the new one has a place too, or the old words are those of a required token and a jump back
  new-fallen : (i : Bool) (a a' d : ℕ) (ps : List Entry) (u : Option ℕ) (io : Io) → partner a ≡ some a' → NewD a' i d ps → NoLabel i u io ps → OldP a d → NewP a' d ⊎ Required i a d io
  unfolding Next
  new-fallen i a a' d ps u io e (default-place q) n p = inl q
  new-fallen true a a' d qs u io e (default-input {u = v} {a = x} {ps = ps} dw dt dw₂ dt₂) n p =
      inr (required-token v x refl (ap (λ (w : List ℕ). decode w d) (sym (fits a a' e)) ∙ dw) (ap (λ (w : List ℕ). decode w (d + 2)) (sym (fits a a' e)) ∙ dw₂) (not_there u io v x ps n))
  new-fallen false a a' d ps u io e (default-end dw dt) n p =
      absurd (leads-to prog T (W a) (place 1 prog) mk (base a) (rule_of prog a) p end_choice (ap (λ (w : List ℕ). decode w d) (sym (fits a a' e)) ∙ dw))

  default-good : (i : Bool) (a' d : ℕ) (ps : List Entry) → NewD a' i d ps → good (decode T' (base' a' + d)) ≡ true
  unfolding good
  default-good i a' d ps (default-place q) = new-good a' q
  default-good true a' d qs (default-input dw dt dw₂ dt₂) = rw dt
  default-good false a' d ps (default-end dw dt) = rw dt

  old-default-good : (i : Bool) (a d : ℕ) (ps : List Entry) → OldD a i d ps → good (decode T (base a + d)) ≡ true
  unfolding good
  old-default-good i a d ps (default-place q) = old-good a q
  old-default-good true a d qs (default-input dw dt dw₂ dt₂) = rw dt
  old-default-good false a d ps (default-end dw dt) = rw dt

  -- where the choice table leads, in either table
  landed-some : (S : List ℕ) (z : Option ℕ) (t d : ℕ) (taken w : Walk) → Leads S z (some t) → landed S tokens z d taken w ≡ go_to S tokens t taken
  landed-some S z t d taken w h = go h refl
    where
      go : {z x : Option ℕ} → Leads S z x → x ≡ some t → landed S tokens z d taken w ≡ go_to S tokens t taken
      go leads-none e = none-some e
      go (leads {l = l} {x = n} {y = y} f g) e = landed-is S tokens l n t d taken w f (g ∙ some_inj e)

  landed_none : (S : List ℕ) (z : Option ℕ) (d : ℕ) (taken w : Walk) → Leads S z none → landed S tokens z d taken w ≡ go_to S tokens d w
  unfolding landed
  landed_none S z d taken w h = go h refl
    where
      go : {z x : Option ℕ} → Leads S z x → x ≡ none → landed S tokens z d taken w ≡ go_to S tokens d w
      go leads-none e = refl
      go (leads f g) e = none-some (sym e)

  goes_by : (a c : ℕ) (i : Bool) (b : OldB a i c) (u : Option ℕ) (y : ℕ) → lookup_by u b.ps ≡ some y → OldP a y
  unfolding lookup_by
  goes_by a c i b none y e = none-some e
  goes_by a c i b (some u) y e = b.goes u y e

  goes-by' : (a c : ℕ) (i : Bool) (b : NewB a i c) (u : Option ℕ) (y : ℕ) → lookup_by u b.ps ≡ some y → NewP a y
  unfolding lookup_by
  goes-by' a c i b none y e = none-some e
  goes-by' a c i b (some u) y e = b.goes u y e

  by-same : (a a' c : ℕ) (i : Bool) → partner a ≡ some a' → (b : OldB a i c) (b' : NewB a' i c) (u : Option ℕ) → lookup_by u b.ps ≡ lookup_by u b'.ps
  unfolding lookup_by
  by-same a a' c i e b b' none = refl
  by-same a a' c i e b b' (some u) = table_same b.ps b'.ps b.local (rw (fits a a' e) at b'.local) u

  length-same : (a a' c : ℕ) (i : Bool) → partner a ≡ some a' → (b : OldB a i c) (b' : NewB a' i c) → length b.ps ≡ length b'.ps
  length-same a a' c i e b b' = table-length b.local (rw (fits a a' e) at b'.local)

  -- a repaired token, in either table
  repairs : (S : List ℕ) (l l₂ : ℕ) (rs : List ℕ) (w p : ℕ) (io : Io) (v : ℕ) → decode S l ≡ input v → is v (present tokens io) ≡ false → mends io ≡ true → l + 2 ≡ l₂
      → step S tokens (going_at l rs w p io) ≡ tells (repair v) (going_at l₂ rs w p (spent io))
  unfolding step exec requiring moved with_io
  repairs S l l₂ rs w p io v d nt f e = rw (d, nt, f) (ap (λ (i : ℕ). tells (repair v) (going_at i rs w p (spent io))) e)

  at-default-of : {S : List ℕ} {at w : Walk} → Fallback S at.location w.location → step S tokens at ≡ goes w → Within S tokens at w
  at-default-of d e = fallen-to d e

  halts : (l : ℕ) (rs : List ℕ) (w p : ℕ) (io : Io) → decode T l ≡ end_choice → Track₀ (one T tokens answers (going_at l rs w p io))
  unfolding one one_in step exec done in_phase
  halts l rs w p io d = rw d (at-stop unlabelled refl)

  -- the required token of a default and its jump back, in the old and in the new table
  old-mends : (i : Bool) (a c v y : ℕ) → i ≡ true → (b : OldB a i c) → decode (W a) (c + 1 + 2 * length b.ps) ≡ input v → decode (W a) (c + 1 + 2 * length b.ps + 2) ≡ jump y
      → OldM a (c + 1 + 2 * length b.ps) v y
  old-mends true a c v y z b dw dw₂ = default-mends prog T (W a) (place 1 prog) mk (base a) (rule_of prog a) b.default b.goes dw dw₂
  old-mends false a c v y z b dw dw₂ = never z

  new-mends : (i : Bool) (a a' c v y : ℕ) → i ≡ true → partner a ≡ some a' → (b : OldB a i c) (n : NewB a' i c) → decode (W a) (c + 1 + 2 * length b.ps) ≡ input v
      → decode (W a) (c + 1 + 2 * length b.ps + 2) ≡ jump y → NewM a' (c + 1 + 2 * length b.ps) v y
  new-mends true a a' c v y z e b n dw dw₂ =
      let d : c + 1 + 2 * length n.ps ≡ c + 1 + 2 * length b.ps = ap (λ (k : ℕ). c + 1 + 2 * k) (sym (length-same a a' c true e b n)) in
      default-mends prog' T' (W' a') (place 1 prog') mk' (base' a') (rule_of prog' a') (rw d at n.default) n.goes
      (ap (λ (w : List ℕ). decode w (c + 1 + 2 * length b.ps)) (fits a a' e) ∙ dw) (ap (λ (w : List ℕ). decode w (c + 1 + 2 * length b.ps + 2)) (fits a a' e) ∙ dw₂)
  new-mends false a a' c v y z e b n dw dw₂ = never z

  -- the walk at the choice, and what it goes on with: where a label is taken, and where none is
  record Lands (S : List ℕ) (l bs c : ℕ) (ps : List Entry) (u : Option ℕ) (rs : List ℕ) (w₀ w₁ p : ℕ) (io io₁ : Io) : Type 0 where
    chooses : (decode S l ≡ input_choice (bs + c)) ⊎ (decode S l ≡ by_result (bs + c))
    steps : step S tokens (going_at l rs w₀ p io)
        ≡ landed S tokens (seek_by S tokens u (length (later bs ps)) (bs + c + 1)) (bs + c + 1 + 2 * length (later bs ps)) (going_at l rs w₁ p io₁) (going_at l rs w₁ p io)

  module _ (i : Bool) (a o c : ℕ) (rs : List ℕ) (w₀ w₁ p : ℕ) (io io₁ : Io) (u : Option ℕ) (h : a < length prog) (twin : Twin a o ⊎ TwinC a o) (fr : Frames a rs)
      (by : i ≡ true → u ≡ present tokens io) (b : OldB a i c) (b' : (a' : ℕ) → partner a ≡ some a' → NewB a' i c)
      (lands : Lands T (base a + o) (base a) c b.ps u rs w₀ w₁ p io io₁)
      (lands' : (a' : ℕ) (e : partner a ≡ some a') (rs' : List ℕ) → Lands T' (base' a' + o) (base' a') c (b' a' e).ps u rs' w₀ w₁ p io io₁) where
    abbrev D : ℕ
    D = c + 1 + 2 * length b.ps

    taken : (y : ℕ) → lookup_by u b.ps ≡ some y → Track₀ (one T tokens answers (going_at (base a + o) rs w₀ p io))
    unfolding one one_in done moved ahead
    taken y e =
        let q = goes_by a c i b u y e in
        let f : lookup_by u (later (base a) b.ps) ≡ some (base a + y) = by-later (base a) u b.ps ∙ ap (ahead (base a)) e in
        let g = rw f at (seek-leads T tokens u b.global) in
        let t : Twin a y = record { old = q; new = λ a' e'. goes-by' a' c i (b' a' e') u y (sym (by-same a a' c i e' b (b' a' e') u) ∙ e) } in
        rw (
          lands.steps,
          landed-some T _ (base a + y) _ (going_at (base a + o) rs w₁ p io₁) (going_at (base a + o) rs w₁ p io) g,
          go_to-is T tokens (base a + y) (going_at (base a + o) rs w₁ p io₁) (old-good a q),
        ) (at_place refl h t fr)

    -- no label: the walk is at the default
    at_default : lookup_by u b.ps ≡ none → step T tokens (going_at (base a + o) rs w₀ p io) ≡ goes (going_at (base a + D) rs w₁ p io)
    unfolding moved ahead
    at_default e =
        let f : lookup_by u (later (base a) b.ps) ≡ none = by-later (base a) u b.ps ∙ ap (ahead (base a)) e in
        let g = rw f at (seek-leads T tokens u b.global) in
        let z : base a + c + 1 + 2 * length (later (base a) b.ps) ≡ base a + D = omega (arith, length-later (base a) b.ps) in
        rw (
          lands.steps,
          landed_none T _ _ (going_at (base a + o) rs w₁ p io₁) (going_at (base a + o) rs w₁ p io) g,
          z,
          go_to-is T tokens (base a + D) (going_at (base a + o) rs w₁ p io) (old-default-good i a D b.ps b.default),
        )

    at-default' : lookup_by u b.ps ≡ none → (a' : ℕ) → partner a ≡ some a' → (rs' : List ℕ)
        → step T' tokens (going_at (base' a' + o) rs' w₀ p io) ≡ goes (going_at (base' a' + D) rs' w₁ p io)
    unfolding moved ahead
    at-default' e a' e' rs' =
        let n = b' a' e' in
        let x : lookup_by u n.ps ≡ none = sym (by-same a a' c i e' b n u) ∙ e in
        let f : lookup_by u (later (base' a') n.ps) ≡ none = by-later (base' a') u n.ps ∙ ap (ahead (base' a')) x in
        let g = rw f at (seek-leads T' tokens u n.global) in
        let s = length-same a a' c i e' b n in
        let z : base' a' + c + 1 + 2 * length (later (base' a') n.ps) ≡ base' a' + D = omega (arith, length-later (base' a') n.ps, s) in
        let d : c + 1 + 2 * length n.ps ≡ D = omega (arith, s) in
        let gd : good (decode T' (base' a' + D)) ≡ true = rw d at (default-good i a' (c + 1 + 2 * length n.ps) n.ps n.default) in
        rw (
          (lands' a' e' rs').steps,
          landed_none T' _ _ (going_at (base' a' + o) rs' w₁ p io₁) (going_at (base' a' + o) rs' w₁ p io) g,
          z,
          go_to-is T' tokens (base' a' + D) (going_at (base' a' + o) rs' w₁ p io) gd,
        )

    default-at : (a' : ℕ) → partner a ≡ some a' → (rs' : List ℕ) → Fallback T' (base' a' + o) (base' a' + D)
    default-at a' e' rs' =
        let n = b' a' e' in
        let s = length-same a a' c i e' b n in
        record {
          table_at = base' a' + c;
          labels = length (later (base' a') n.ps);
          chooses = (lands' a' e' rs').chooses;
          count = n.global.count;
          behind = omega (arith, length-later (base' a') n.ps, s);
        }

    within-default : lookup_by u b.ps ≡ none → (a' : ℕ) → partner a ≡ some a' → (rs' : List ℕ) → Within T' tokens (going_at (base' a' + o) rs' w₀ p io) (going_at (base' a' + D) rs' w₁ p io)
    within-default e a' e' rs' = at-default-of (default-at a' e' rs') (at-default' e a' e' rs')

    -- the required token of a default is not there: it is repaired, and the walk goes back to the first alternative, or it stops
    module _ (v y : ℕ) (dw : decode (W a) D ≡ input v) (dw₂ : decode (W a) (D + 2) ≡ jump y) (nt : is v (present tokens io) ≡ false)
        (om : OldM a D v y) (nm : (a' : ℕ) → partner a ≡ some a' → NewM a' D v y) (e : lookup_by u b.ps ≡ none) where
      stops-there : mends io ≡ false → Track₀ (one T tokens answers (going_at (base a + D) rs w₁ p io))
      unfolding one one_in step exec requiring done in_phase
      stops-there f = rw (om.requires-it, nt, f) (at-stop differs refl)

      mended : mends io ≡ true → one T tokens answers (going_at (base a + D) rs w₁ p io) ≡ going_at (base a + (D + 2)) rs w₁ p (repaired v io)
      unfolding one one_in done writing with_io repaired
      mended f = rw (repairs T (base a + D) (base a + (D + 2)) rs w₁ p io v om.requires-it nt f (next-to (base a) D 2))

      mended' : mends io ≡ true → (a' : ℕ) → partner a ≡ some a' → (rs' : List ℕ) → Within T' tokens (going_at (base' a' + o) rs' w₀ p io) (going_at (base' a' + (D + 2)) rs' w₁ p (repaired v io))
      unfolding writing with_io repaired
      mended' f a' e' rs' =
          behind_repair {w = going_at (base' a' + D) rs' w₁ p io} {v = going_at (base' a' + (D + 2)) rs' w₁ p (spent io)} v (default-at a' e' rs') (at-default' e a' e' rs') refl
          (repairs T' (base' a' + D) (base' a' + (D + 2)) rs' w₁ p io v (nm a' e').requires-it nt f (next-to (base' a') D 2))

      goes_first : Track₀ (one T tokens answers (going_at (base a + (D + 2)) rs w₁ p (repaired v io)))
      unfolding one one_in step exec done moved
      goes_first =
          rw (om.goes_back, go_to-is T tokens (base a + y) (going_at (base a + (D + 2)) rs w₁ p (repaired v io)) (old-good a om.first))
          (at_place refl h (record { old = om.first; new = λ a' e'. (nm a' e').first }) fr)

      requiring-track : Track (going_at (base a + D) rs w₁ p io)
      unfolding good
      requiring-track =
          half D w₀ p io refl (word-there a D (input v) dw refl) h twin fr (within-default e)
          (split (mends io)
          (λ f. rw (mended f) (half (D + 2) w₀ p io refl (word-there a (D + 2) (jump y) dw₂ refl) h twin fr (mended' f) (now goes_first)))
          (λ f. now (stops-there f)))

    -- both programs have a place there, or a required token and a jump back, or the walk stops
    untaken : lookup_by u b.ps ≡ none → Track (going_at (base a + D) rs w₁ p io)
    untaken e = outer (old-fallen i a D b.ps u io b.default (e, by))
      where
        tokened : (v y : ℕ) → i ≡ true → decode (W a) D ≡ input v → decode (W a) (D + 2) ≡ jump y → is v (present tokens io) ≡ false → Track (going_at (base a + D) rs w₁ p io)
        tokened v y z dw dw₂ nt =
            requiring-track v y dw dw₂ nt
            (old-mends i a c v y z b dw dw₂) (λ a' e'. new-mends i a a' c v y z e' b (b' a' e') dw dw₂) e

        halting : decode (W a) D ≡ end_choice → decode T (base a + D) ≡ end_choice → Track (going_at (base a + D) rs w₁ p io)
        halting dw dt = half D w₀ p io refl (word-there a D end_choice dw (unfold good in refl)) h twin fr (within-default e) (now (halts (base a + D) rs w₁ p io dt))

        here₂ : (x : Option ℕ) → partner a ≡ x → OldP a D → Track (going_at (base a + D) rs w₁ p io)
        here₂ none f q = now (at_place refl h (record { old = q; new = λ a' e'. none-some (sym f ∙ e') }) fr)
        here₂ (some a') f q = inner (new-fallen i a a' D' n.ps u io f n.default (x, by) q')
          where
            n : NewB a' i c
            n = b' a' f

            D' : ℕ
            D' = c + 1 + 2 * length n.ps

            d : D ≡ D'
            d = ap (λ (k : ℕ). c + 1 + 2 * k) (length-same a a' c i f b n)

            q' : OldP a D'
            q' = subst (OldP a) d q

            x : lookup_by u n.ps ≡ none
            x = sym (by-same a a' c i f b n u) ∙ e

            fallen : Required i a D io → Track (going_at (base a + D) rs w₁ p io)
            fallen (required-token v y z dw dw₂ nt) = tokened v y z dw dw₂ nt

            inner : NewP a' D' ⊎ Required i a D' io → Track (going_at (base a + D) rs w₁ p io)
            inner (inl r) =
                now (at_place refl h (record { old = q; new = λ a'' e''. subst (λ (k : ℕ). NewP k D) (some_inj (sym f ∙ e'')) (subst (NewP a') (sym d) r) }) fr)
            inner (inr hl) = fallen (subst (λ (k : ℕ). Required i a k io) (sym d) hl)

        outer : Fallen i a D io → Track (going_at (base a + D) rs w₁ p io)
        outer (on-place q) = here₂ (partner a) refl q
        outer (on-token v y z dw dw₂ nt) = tokened v y z dw dw₂ nt
        outer (on-end dw dt) = halting dw dt

    branch-track : Track (one T tokens answers (going_at (base a + o) rs w₀ p io))
    unfolding one one_in done
    branch-track = go (lookup_by u b.ps) refl
      where
        go : (x : Option ℕ) → lookup_by u b.ps ≡ x → Track (one T tokens answers (going_at (base a + o) rs w₀ p io))
        go none e = rw (at_default e) (untaken e)
        go (some y) e = now (taken y e)

  -- One step

  value_set : {l l₂ : ℕ} (rs : List ℕ) (u w p : ℕ) (io : Io) → l + 2 ≡ l₂ → decode T' l ≡ set_result u → Within T' tokens (going_at l rs w p io) (going_at l₂ rs u p io)
  unfolding moved with_result
  value_set {l} rs u w p io e d = subst (λ (i : ℕ). Within T' tokens (going_at l rs w p io) (going_at i rs u p io)) e (behind_value u d)

  parameter-set : {l l₂ : ℕ} (rs : List ℕ) (u w p : ℕ) (io : Io) → l + 2 ≡ l₂ → decode T' l ≡ set_parameter u → Within T' tokens (going_at l rs w p io) (going_at l₂ rs w u io)
  unfolding moved with_parameter
  parameter-set {l} rs u w p io e d = subst (λ (i : ℕ). Within T' tokens (going_at l rs w p io) (going_at i rs w u io)) e (behind_parameter u d)

  token-track : {a o c : ℕ} {rs : List ℕ} (w p : ℕ) (io : Io) → a < length prog → Twin a o → Frames a rs → decode (W a) o ≡ input_choice c
      → decode T (base a + o) ≡ input_choice (base a + c) → OldB a true c → Track (one T tokens answers (going_at (base a + o) rs w p io))
  unfolding step exec Next Stands
  token-track {a} {o} {c} {rs} w p io h t fr dw dt b =
      let u = present tokens io in
      branch-track true a o c rs w (or_else u w) p io (took io) u h (inl t) fr (λ _. refl) b
      (λ a' e. flow a a' (input_choice c) e (t.new a' e) dw)
      (record { chooses = inl dt; steps = rw dt (input_choosing-is T tokens u (base a + o) rs w p io b.global) })
      (λ a' e rs'. let n = flow a a' (input_choice c) e (t.new a' e) dw in
      let d = stand a a' (input_choice c) e (t.new a' e) dw in
      record { chooses = inl d; steps = rw d (input_choosing-is T' tokens u (base' a' + o) rs' w p io n.global) })

  -- the new program's choice at the same word
  choice-new : (a a' : ℕ) {o c : ℕ} → partner a ≡ some a' → NewC a' o → decode (W a) o ≡ by_result c → (NewB a' false c) × (decode T' (base' a' + o) ≡ by_result (base' a' + c))
  choice-new a a' {o} {c} e n d =
      let x = choice-at' a' n in
      let z : x.table_at ≡ c = same-table (sym x.local ∙ ap (λ (w : List ℕ). decode w o) (fits a a' e) ∙ d) in
      (subst (NewB a' false) z x.branches, x.global ∙ ap (λ (k : ℕ). by_result (base' a' + k)) z)
    where
      same-table : {x y : ℕ} → by_result x ≡ by_result y → x ≡ y
      same-table e = cc

  choice-track : {a o : ℕ} {rs : List ℕ} (w p : ℕ) (io : Io) → a < length prog → TwinC a o → Frames a rs → Track (one T tokens answers (going_at (base a + o) rs w p io))
  unfolding step exec
  choice-track {a} {o} {rs} w p io h t fr =
      let x = choice_at a t.old in
      let c = x.table_at in
      branch-track false a o c rs w w p io io (some w) h (inr t) fr (λ e. never e) x.branches
      (λ a' e. (choice-new a a' e (t.new a' e) x.local).0)
      (record { chooses = inr x.global; steps = rw x.global (branched-is T tokens (some w) (going_at (base a + o) rs w p io) (going_at (base a + o) rs w p io) x.branches.global) })
      (λ a' e rs'. let n = choice-new a a' e (t.new a' e) x.local in
      record { chooses = inr n.1; steps = rw n.1 (branched-is T' tokens (some w) (going_at (base' a' + o) rs' w p io) (going_at (base' a' + o) rs' w p io) n.0.global) })

  place-track : {a o : ℕ} {rs : List ℕ} (w p : ℕ) (io : Io) → a < length prog → (t : Twin a o) → Frames a rs
      → Ready prog T (W a) (place 1 prog) mk (base a) (rule_of prog a) o → Track (one T tokens answers (going_at (base a + o) rs w p io))
  unfolding one one_in step exec done moved with_io with_result with_parameter writing Next NextOp Stands good
  place-track {a} {o} {rs} w p io h t fr (r-jump {y = y} dw dt q) =
      rw (dt, go_to-is T tokens (base a + y) (going_at (base a + o) rs w p io) (old-good a q))
      (now (at_place refl h (record { old = q; new = λ a' e. flow a a' (jump y) e (t.new a' e) dw }) fr))
  place-track {a} {o} {rs} w p io h t fr (r-input {t = v} dw dt q) =
      rw dt (now (required v (is v (present tokens io)) (base a + o) w p io (λ io₁. at_place (next-to (base a) o 2) h (record { old = q; new = λ a' e. flow a a' (input v) e (t.new a' e) dw }) fr)))
  place-track {a} {o} {rs} w p io h t fr (r-any dw dt q) =
      rw dt (now (if-track (given (present tokens io)) (going_at (base a + o + 1) rs w p (took io)) _ missing
      (at_place (next-to (base a) o 1) h (record { old = q; new = λ a' e. flow a a' input_any e (t.new a' e) dw }) fr)))
  place-track {a} {o} w p io h t fr (r-write {e = v} dw dt q) =
      rw dt (now (at_place (next-to (base a) o 2) h (record { old = q; new = λ a' e. flow a a' (write v) e (t.new a' e) dw }) fr))
  place-track {a} {o} {rs} w p io h t fr (r-call {r = r} dw dt c q) =
      rw dt (now (entering a o w p io c.there (frames-cons (next-to (base a) o 2) h
      (plainly c.sort (record { old = q; new = λ a' e. (called-plain a a' e q (t.new a' e) dw).0 }) (λ a' e. (called-plain a a' e q (t.new a' e) dw).1)) fr)))
  place-track {a} {o} {rs} w p io h t fr (r-rule {r = r} dw dt c q) =
      rw dt (now (entering a o w p io c.there (frames-cons (next-to (base a) o 2) h
      (choosing c.sort (record { old = q; new = λ a' e. (called-choosing a a' e q (t.new a' e) dw).0 }) (λ a' e. (called-choosing a a' e q (t.new a' e) dw).1)) fr)))
  place-track {a} {o} {rs} w p io h t fr (r-return z dw dt) = rw dt (now (returned (base a + o) w p io z fr))
  place-track {a} {o} {rs} w p io h t fr (r-give {u = u} z dw dt dw₂ dt₂) =
      rw dt (half {o = o} {l = base a + o + 2} {w₂ = u} {p₂ = p} {io₂ = io} (o + 2) w p io (next-to (base a) o 2) (word-there a (o + 2) return dw₂ refl) h (inl t) fr
      (λ a' e rs'. value_set rs' u w p io (next-to (base' a') o 2) (stand a a' (set_result u) e (t.new a' e) dw))
      (rw (next-to (base a) o 2, dt₂) (now (gave (base a + (o + 2)) u p io z fr))))
  place-track {a} {o} w p io h t fr (r-update {op = op} dw dt q) =
      rw dt (now (at_place (next-to (base a) o 1) h (record { old = q; new = λ a' e. flow a a' (updates op) e (t.new a' e) dw }) fr))
  place-track {a} {o} {rs} w p io h t fr (r-update_with {u = u} {op = op} dw dt dw₂ dt₂ q) =
      rw dt (half {o = o} {l = base a + o + 2} {w₂ = w} {p₂ = u} {io₂ = io} (o + 2) w p io (next-to (base a) o 2) (word-there a (o + 2) (updates_with op) dw₂ refl) h (inl t) fr
      (λ a' e rs'. parameter-set rs' u w p io (next-to (base' a') o 2) (stand a a' (set_parameter u) e (t.new a' e) dw))
      (rw (next-to (base a) o 2, dt₂) (now (at_place (next-to (base a) (o + 2) 1) h
      (record { old = q; new = λ a' e. rw (ap (λ (ws : List ℕ). decode ws (o + 2)) (fits a a' e) ∙ dw₂) at (flow a a' (set_parameter u) e (t.new a' e) dw) }) fr))))
  place-track w p io h t fr (r-token dw dt b) = token-track w p io h t fr dw dt b
  place-track {a} {o} {rs} w p io h t fr (r-operation {op = op} dw dt q) =
      rw dt (now (asking (base a + o) w p io (get_elem? answers (choices io.events)) (operation op) (next-to (base a) o 1) h
      (record { old = q; new = λ a' e. flow a a' (choose op) e (t.new a' e) dw }) fr))
  place-track {a} {o} {rs} w p io h t fr (r-operation_with {u = u} {op = op} dw dt dw₂ dt₂ q) =
      rw dt (half {o = o} {l = base a + o + 2} {w₂ = w} {p₂ = u} {io₂ = io} (o + 2) w p io (next-to (base a) o 2) (word-there a (o + 2) (choose_with op) dw₂ refl) h (inl t) fr
      (λ a' e rs'. parameter-set rs' u w p io (next-to (base' a') o 2) (stand a a' (set_parameter u) e (t.new a' e) dw))
      (rw (next-to (base a) o 2, dt₂) (now (asking (base a + (o + 2)) w u io (get_elem? answers (choices io.events)) (operation_with op u) (next-to (base a) (o + 2) 1) h
      (record { old = q; new = λ a' e. rw (ap (λ (ws : List ℕ). decode ws (o + 2)) (fits a a' e) ∙ dw₂) at (flow a a' (set_parameter u) e (t.new a' e) dw) }) fr))))

  -- Any number of steps

  track-step₀ : {m : Walk} → Track₀ m → Track (one T tokens answers m)
  unfolding one one_in
  track-step₀ (at_place {a = a} {o = o} {w = w} {p = p} {io = io} e h t fr) =
      rw e (place-track w p io h t fr (ready prog T (W a) (place 1 prog) mk (base a) (rule_of prog a) t.old))
  track-step₀ (at-choosing {w = w} {p = p} {io = io} e h t fr) = rw e (choice-track w p io h t fr)
  track-step₀ (at-stop r e) = rw e (now (at-stop r refl))

  track-step : {m : Walk} → Track m → Track (one T tokens answers m)
  track-step (now h) = track-step₀ h
  track-step (half o₂ w p io e g h t fr c n) = n

  track-runs : (n : ℕ) (m : Walk) → Track m → Track (runs T tokens answers n m)
  unfolding runs
  track-runs zero m h = h
  track-runs (suc n) m h = track-runs n (one T tokens answers m) (track-step h)

  pub tracked : (allowance n : ℕ) → Track (runs T tokens answers n (fresh allowance))
  unfolding fresh
  tracked allowance n = track-runs n (fresh allowance) (now (at_place (sym (place-first 1 prog) ∙ start-at 0) ok.some_rule (begins 0 ok.some_rule) frames-nil))

  -- a place is a word of its rule
  pub place_inside : (a o : ℕ) → OldP a o → given (fetch (W a) o) ≡ true
  unfolding decode decode_at Next
  place_inside a o p = go (fetch (W a) o) refl
    where
      go : (x : Option ℕ) → fetch (W a) o ≡ x → given x ≡ true
      go (some x) e = refl
      go none e = absurd (leads-to prog T (W a) (place 1 prog) mk (base a) (rule_of prog a) p invalid (rw e))

  pub choice-inside : (a o : ℕ) → OldC a o → given (fetch (W a) o) ≡ true
  unfolding good
  choice-inside a o c = let x = choice_at a c in word-there a o (by_result x.table_at) x.local refl
