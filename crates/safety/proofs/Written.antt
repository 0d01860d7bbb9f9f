-- "What the processor writes for an accepted program is taken": every reachable location of its table is a place of the rules, or one of the few
-- second instructions that belong to one. A choice there has the table of a choice of the program, a call goes to a rule.
use mathlib.Core.Bool.{Bool, true, false, ◌||◌, not}
use mathlib.Core.List.{List, [], ◌∷◌, ◌++◌, append-nil}
use mathlib.Core.Logic.{inl, inr}
use mathlib.Core.Path.{◌≡◌, refl, sym, subst}
use Prim.Native.Nat.{ℕ, ◌+◌, ◌*◌, ◌<◌}
use lib.ListN.{length}
use Rattle.acceptance.proofs.Accepts.{accepted-table}
use Rattle.acceptance.specs.Answers.{TableOf}
use Rattle.agreement.proofs.Laid.{program-laid}
use Rattle.agreement.proofs.Lay.{Entry, entries, Entries, entries-nil, entries-cons, Table, LayPlain, lay-match, lay-any, lay-emit, lay-error, lay-exit, lay-call, lay-back, lay-give, lay-update, lay-update_with, Lay, lay-plain, lay-cycle, lay-token, lay-rule, lay-operation, lay-operation_with, Lays, lays-done, lays_cons, lay-choice, LayAlts, alts-nil, alts-cons, LayOther, other-input, other-end, other-is, At, at_place, End, end-rule, end-cycle, end-alternative, end-otherwise, Out, out-cycle, out-alternative, out-otherwise, AtChoice, at-choice}
use Rattle.agreement.proofs.Sim.{rest_at, exit_out}
use Rattle.base.specs.Bools.{never, or₁, or₂}
use Rattle.base.specs.Common.{member}
use Rattle.base.specs.Tree.{plain, cycle, choice, done, ◌▸◌, alternative, otherwise}
use Rattle.figure.proofs.Spots.{IsStart, is_start}
use Rattle.loading.proofs.Members.{member-cons, member-either}
use Rattle.loading.proofs.Ways.{ByWays, from_start, by_way, by-ways}
use Rattle.loading.specs.Reach.{fits, Reachable, bad, gives37, Taken}
use Rattle.loading.specs.Taking.{back_from, labelled, chosen, onward, ways}
use Rattle.machine.specs.Decode.{fetch, Instruction, invalid, jump, input, input_any, write, input_choice, call_rule, return, set_result, choice as by_result, end_choice, set_parameter, update as updates, update_with as updates_with, choose, choose_with, decode}
use Rattle.ownwalk.specs.OwnWalk.{Context, in_cycle, in_alternative, in_otherwise}
use Rattle.program.proofs.Places.{place-first}
use Rattle.program.specs.Accepted.{Accepted}
use Rattle.program.specs.Past.{plain_past, is_exit, exits, exits_all, exits_some, exits_other, past, past_all, past_some, past_other}
use Rattle.program.specs.Program.{Plain, match, any, emit, error, exit, call, back, give, update, update_with, Selector, by_token, by_rule, by_operation, by_operation_with, Act, Acts, Alts, Other, Rule, rule_of, body_of}
use Rattle.program.specs.Table.{place, table}
use Rattle.safety.specs.Promise.{WrittenTaken}

-- the actions of a rule, or of a part of them, from the first or a later one on; and the alternatives of a choice, likewise
mutual
  pub data Has (prog : List Rule) : Acts → Type 0 where
    has-rule : (r : ℕ) {q : Acts} → r < length prog → q ≡ body_of prog r → Has prog q
    has_rest : {a : Act} {q : Acts} → Has prog (a ▸ q) → Has prog q
    has-cycle : {b q : Acts} → Has prog (cycle b ▸ q) → Has prog b
    has-alternative : {ls : List ℕ} {b : Acts} {q : Alts} → HasAlts prog (alternative ls b q) → Has prog b
    has-otherwise : {s : Selector} {q : Alts} {b r : Acts} → Has prog (choice s q (otherwise b) ▸ r) → Has prog b

  pub data HasAlts (prog : List Rule) : Alts → Type 0 where
    has-choice : {s : Selector} {q : Alts} {o : Other} {r : Acts} → Has prog (choice s q o ▸ r) → HasAlts prog q
    has-later : {ls : List ℕ} {b : Acts} {q : Alts} → HasAlts prog (alternative ls b q) → HasAlts prog q

-- the same of all that stands around
data Around (prog : List Rule) : List Context → Type 0 where
  around-nothing : Around prog []
  around-cycle : {b r : Acts} {k : List Context} → Has prog b → Has prog r → Around prog k → Around prog (in_cycle b r ∷ k)
  around-alternative : {r : Acts} {k : List Context} → Has prog r → Around prog k → Around prog (in_alternative r ∷ k)
  around-otherwise : {r : Acts} {k : List Context} → Has prog r → Around prog k → Around prog (in_otherwise r ∷ k)

module _ (T : List ℕ) (start : ℕ → ℕ) (prog : List Rule) where
  -- the locations of a program's instructions
  data Place : ℕ → Type 0 where
    p-at : {v : Bool} {q : Acts} {k : List Context} {l : ℕ} → Has prog q → Around prog k → At T start prog v q k l → Place l
    p-choice : {v : Bool} {s : Selector} {q : Alts} {o : Other} {r : Acts} {k : List Context} {l : ℕ} → Has prog (choice s q o ▸ r) → Around prog k
        → AtChoice T start prog v q o r k l → Place l
    p-return : {l : ℕ} → decode T l ≡ return → Place l
    p-end : {l : ℕ} → decode T l ≡ end_choice → Place l
    p-input : {l t : ℕ} → decode T l ≡ input t → Place (l + 2) → Place l
    p-jump : {l y : ℕ} → decode T l ≡ jump y → Place y → Place l
    p-update : {l op : ℕ} → decode T l ≡ updates_with op → Place (l + 1) → Place l
    p-choose : {l op : ℕ} → decode T l ≡ choose_with op → Place (l + 1) → Place l

  -- the choice table at c is that of a choice of the program
  pub data TableAt (c : ℕ) : Type 0 where
    table_at : {v : Bool} {s : Selector} {q : Alts} {o : Other} {r : Acts} {x y l : ℕ} {ps : List Entry} → Has prog (choice s q o ▸ r) → Table T c ps
        → LayAlts T start prog v q x y l ps → TableAt c

  -- what an instruction refers to is the program's
  unfoldable pub Refers : Instruction → Type 0
  Refers invalid = Unit {0}
  Refers (jump m) = Unit {0}
  Refers (input t) = Unit {0}
  Refers input_any = Unit {0}
  Refers (write e) = Unit {0}
  Refers (input_choice c) = TableAt c
  Refers (call_rule m) = IsStart T start prog m
  Refers return = Unit {0}
  Refers (set_result v) = Unit {0}
  Refers (by_result c) = TableAt c
  Refers end_choice = Unit {0}
  Refers (set_parameter v) = Unit {0}
  Refers (updates op) = Unit {0}
  Refers (updates_with op) = Unit {0}
  Refers (choose op) = Unit {0}
  Refers (choose_with op) = Unit {0}

  record Sound (l : ℕ) : Type 0 where
    good : bad T (decode T l) ≡ false
    refers : Refers (decode T l)
    leads : (m : ℕ) → member m (onward T l (decode T l)) ≡ true → Place m

  by : {l : ℕ} (i : Instruction) → decode T l ≡ i → bad T i ≡ false → Refers i → ((m : ℕ) → member m (onward T l i) ≡ true → Place m) → Sound l
  by {l} i e b h f = record {
    good = rw e b;
    refers = subst Refers (sym e) h;
    leads = subst (λ (j : Instruction). (m : ℕ) → member m (onward T l j) ≡ true → Place m) (sym e) f;
  }

  none_at_all : (m : ℕ) → member m [] ≡ true → Place m
  none_at_all m h = never h

  only : {y : ℕ} → Place y → (m : ℕ) → member m (y ∷ []) ≡ true → Place m
  only {y} p m h = elim (member-cons m y [] h) [ inl e ↦ rw e p | inr t ↦ never t ]

  two : {x y : ℕ} → Place x → Place y → (m : ℕ) → member m (x ∷ y ∷ []) ≡ true → Place m
  two {x} {y} p r m h = elim (member-cons m x (y ∷ []) h) [ inl e ↦ rw e p | inr t ↦ only r m t ]

  -- single instructions
  return-sound : {l : ℕ} → decode T l ≡ return → Sound l
  unfolding bad onward Refers
  return-sound d = by return d refl tt none_at_all

  end-choice-sound : {l : ℕ} → decode T l ≡ end_choice → Sound l
  unfolding bad onward Refers
  end-choice-sound d = by end_choice d refl tt none_at_all

  jump-sound : {l y : ℕ} → decode T l ≡ jump y → Place y → Sound l
  unfolding bad onward Refers
  jump-sound {y = y} d p = by (jump y) d refl tt (only p)

  input-sound : {l t : ℕ} → decode T l ≡ input t → Place (l + 2) → Sound l
  unfolding bad onward Refers
  input-sound {t = t} d p = by (input t) d refl tt (only p)

  set-sound : {l t : ℕ} → decode T l ≡ set_parameter t → Place (l + 2) → Sound l
  unfolding bad onward Refers
  set-sound {t = t} d p = by (set_parameter t) d refl tt (only p)

  call-sound : {l y : ℕ} → decode T l ≡ call_rule y → IsStart T start prog y → Place y → Place (l + 2) → Sound l
  unfolding bad onward Refers
  call-sound {y = y} d h p r = by (call_rule y) d refl h (two p r)

  -- Choices

  data Led : List Entry → Type 0 where
    led-nil : Led []
    led-cons : {v y : ℕ} {ps : List Entry} → Place y → Led ps → Led ((v, y) ∷ ps)

  entries-led : (ls : List ℕ) {l : ℕ} {ps : List Entry} → Place l → Led ps → Led (entries ls l ps)
  unfolding entries
  entries-led [] p h = h
  entries-led (v ∷ ls) p h = led-cons p (entries-led ls p h)

  labelled-place : {l : ℕ} {ps : List Entry} → Entries T l ps → Led ps → (m : ℕ) → member m (labelled T (length ps) l) ≡ true → Place m
  unfolding labelled back_from
  labelled-place entries-nil led-nil m h = never h
  labelled-place {l} (entries-cons {x = x} {y = y} {ps = ps} w f e t) (led-cons p r) m h =
      let b : back_from T (l + 1) ≡ y = rw (back_from, f) e in
      elim (member-cons m (back_from T (l + 1)) (labelled T (length ps) (l + 2)) h) [
        | inl z ↦ rw (z, b) p
        | inr z ↦ labelled-place t r m z
      ]

  chosen-place : {c : ℕ} {ps : List Entry} → Table T c ps → Led ps → Place (c + 1 + 2 * length ps)
      → (m : ℕ) → member m (chosen T c (fetch T c)) ≡ true → Place m
  unfolding chosen
  chosen-place {c} {ps} t h p m w = go (rw (t.count, chosen, t.fits) at w)
    where
      go : member m (labelled T (length ps) (c + 1) ++ ((c + 1 + 2 * length ps) ∷ [])) ≡ true → Place m
      go z = elim (member-either m (labelled T (length ps) (c + 1)) ((c + 1 + 2 * length ps) ∷ []) z) [
        | inl y ↦ labelled-place t.all h m y
        | inr y ↦ only p m y
      ]

  table_fits : {c : ℕ} {ps : List Entry} → Table T c ps → not (fits T c (fetch T c)) ≡ false
  unfolding fits
  table_fits t = rw (t.count, fits, t.fits)

  alts-led : {v : Bool} {q : Alts} {x y l : ℕ} {ps : List Entry} {r : Acts} {k : List Context} → HasAlts prog q → Has prog r → Around prog k → LayAlts T start prog v q x y l ps
      → (past_some q ≡ true → At T start prog v r k y) → (exits_some q ≡ true → Out T start prog v k x) → Led ps
  unfolding past_some exits_some
  alts-led z hr hk alts-nil hg hh = led-nil
  alts-led z hr hk (alts-cons {ls = ls} {b = b} {q = q} h d t) hg hh =
      entries-led ls
      (p-at (has-alternative z) (around-alternative hr hk) (at_place h (λ g. end-alternative d (hg (or₁ (past_all b) (past_some q) g))) (λ g. out-alternative (hh (or₁ (exits_all b) (exits_some q) g)))))
      (alts-led (has-later z) hr hk t (λ g. hg (or₂ (past_all b) (past_some q) g)) (λ g. hh (or₂ (exits_all b) (exits_some q) g)))

  first-led : {u a : ℕ} {ps : List Entry} → Led ((u, a) ∷ ps) → Place a
  first-led (led-cons p h) = p

  other_place : {v i : Bool} {s : Selector} {q : Alts} {o : Other} {x d e : ℕ} {ps : List Entry} {r : Acts} {k : List Context} → Has prog (choice s q o ▸ r) → Around prog k → LayOther T start prog v i o x ps d e → Led ps
      → (past_other o ≡ true → At T start prog v r k e) → (exits_other o ≡ true → Out T start prog v k x) → Place d
  unfolding past_other exits_other
  other_place z hk (other-input j j₁) h hg hh = p-input j (p-jump j₁ (first-led h))
  other_place z hk (other-end j) h hg hh = p-end j
  other_place z hk (other-is b) h hg hh = p-at (has-otherwise z) (around-otherwise (has_rest z) hk) (at_place b (λ g. end-otherwise (hg g)) (λ g. out-otherwise (hh g)))

  -- a choice whose table stands at c: wherever it leads
  choice-leads : {v i : Bool} {s : Selector} {q : Alts} {o : Other} {x l e c : ℕ} {ps : List Entry} {r : Acts} {k : List Context} → Has prog (choice s q o ▸ r) → Around prog k → Table T c ps
      → LayAlts T start prog v q x e l ps → LayOther T start prog v i o x ps (c + 1 + 2 * length ps) e
      → ((past_some q || past_other o) ≡ true → At T start prog v r k e) → ((exits_some q || exits_other o) ≡ true → Out T start prog v k x)
      → (m : ℕ) → member m (chosen T c (fetch T c)) ≡ true → Place m
  choice-leads {q = q} {o = o} z hk t a b hg hh =
      let h = alts-led (has-choice z) (has_rest z) hk a (λ g. hg (or₁ (past_some q) (past_other o) g)) (λ g. hh (or₁ (exits_some q) (exits_other o) g)) in
      chosen-place t h (other_place z hk b h (λ g. hg (or₂ (past_some q) (past_other o) g)) (λ g. hh (or₂ (exits_some q) (exits_other o) g)))

  at-choice-sound : {v : Bool} {s : Selector} {q : Alts} {o : Other} {r : Acts} {k : List Context} {l : ℕ} → Has prog (choice s q o ▸ r) → Around prog k → AtChoice T start prog v q o r k l → Sound l
  unfolding bad onward Refers
  at-choice-sound z hk (at-choice (lay-choice {c = c} d t a b) hg hh) = by (by_result c) d (table_fits t) (table_at z t a) (choice-leads z hk t a b hg hh)

  out-place : {v : Bool} {k : List Context} {x : ℕ} → Around prog k → Out T start prog v k x → Place x
  out-place (around-cycle hb hr hk) (out-cycle a) = p-at hr hk a
  out-place (around-alternative hr hk) (out-alternative o) = out-place hk o
  out-place (around-otherwise hr hk) (out-otherwise o) = out-place hk o
  out-place {v = v} around-nothing x6 = elim x6 [ ]

  module _ (laid : (r : ℕ) → r < length prog → At T start prog (rule_of prog r).valued (body_of prog r) [] (start r)) where
    plain-sound : {v : Bool} (p : Plain) {q : Acts} {k : List Context} {x l m e : ℕ} → Has prog (plain p ▸ q) → Around prog k → LayPlain T start prog v p x l m → Lays T start prog v q x m e
        → (past_all (plain p ▸ q) ≡ true → End T start prog v k e) → (exits_all (plain p ▸ q) ≡ true → Out T start prog v k x) → Sound l
    unfolding bad onward Refers past plain_past exits is_exit
    plain-sound (match t) z hk (lay-match d) hs hg hh = input-sound d (p-at (has_rest z) hk (rest_at T start prog (plain (match t)) hs hg hh refl))
    plain-sound any z hk (lay-any d) hs hg hh = by input_any d refl tt (only (p-at (has_rest z) hk (rest_at T start prog (plain any) hs hg hh refl)))
    plain-sound (emit t) z hk (lay-emit d) hs hg hh = by (write _) d refl tt (only (p-at (has_rest z) hk (rest_at T start prog (plain (emit t)) hs hg hh refl)))
    plain-sound (error t) z hk (lay-error d) hs hg hh = by (write _) d refl tt (only (p-at (has_rest z) hk (rest_at T start prog (plain (error t)) hs hg hh refl)))
    plain-sound exit {q = q} z hk (lay-exit d) hs hg hh = jump-sound d (out-place hk (exit_out T start prog (plain exit) q hh refl))
    plain-sound (call r) z hk (lay-call d c) hs hg hh = call-sound d (is_start r c.there refl) (p-at (has-rule r c.there refl) around-nothing (laid r c.there)) (p-at (has_rest z) hk (rest_at T start prog (plain (call r)) hs hg hh refl))
    plain-sound back z hk (lay-back g d) hs hg hh = return-sound d
    plain-sound (give u) z hk (lay-give g d d₁) hs hg hh = by (set_result u) d refl tt (only (p-return d₁))
    plain-sound (update op) z hk (lay-update d) hs hg hh = by (updates op) d refl tt (only (p-at (has_rest z) hk (rest_at T start prog (plain (update op)) hs hg hh refl)))
    plain-sound (update_with op u) z hk (lay-update_with d d₁) hs hg hh =
        set-sound d (p-update d₁ (p-at (has_rest z) hk (rest_at T start prog (plain (update_with op u)) hs hg hh refl)))

    mutual
      unfolding bad onward Refers past exits past_all

      lay-sound : (a : Act) {v : Bool} {q : Acts} {k : List Context} {x l m e : ℕ} → Has prog (a ▸ q) → Around prog k → Lay T start prog v a x l m → Lays T start prog v q x m e
          → (past_all (a ▸ q) ≡ true → End T start prog v k e) → (exits_all (a ▸ q) ≡ true → Out T start prog v k x) → Sound l
      lay-sound (plain p) z hk (lay-plain h) hs hg hh = plain-sound p z hk h hs hg hh
      lay-sound (cycle b) z hk (lay-cycle h d) hs hg hh =
          lays_sound b (has-cycle z) (around-cycle (has-cycle z) (has_rest z) hk) h (λ g. end-cycle h d (λ y. out-cycle (rest_at T start prog (cycle b) hs hg hh y))) (λ y. out-cycle (rest_at T start prog (cycle b) hs hg hh y))
          (λ g. jump-sound d (p-at (has-cycle z) (around-cycle (has-cycle z) (has_rest z) hk) (at_place h
          (λ x. end-cycle h d (λ y. out-cycle (rest_at T start prog (cycle b) hs hg hh y))) (λ y. out-cycle (rest_at T start prog (cycle b) hs hg hh y)))))
      lay-sound (choice by_token al o) {q = q} z hk (lay-token {c = c} nl d t a b) hs hg hh =
          by (input_choice c) d (table_fits t) (table_at z t a)
          (choice-leads z hk t a b (λ x. rest_at T start prog (choice by_token al o) hs hg hh x) (λ x. exit_out T start prog (choice by_token al o) q hh x))
      lay-sound (choice (by_rule r) al o) {q = q} z hk (lay-rule d c a) hs hg hh =
          call-sound d (is_start r c.there refl) (p-at (has-rule r c.there refl) around-nothing (laid r c.there))
          (p-choice z hk (at-choice a (λ x. rest_at T start prog (choice (by_rule r) al o) hs hg hh x) (λ x. exit_out T start prog (choice (by_rule r) al o) q hh x)))
      lay-sound (choice (by_operation op) al o) {q = q} z hk (lay-operation d a) hs hg hh =
          by (choose op) d refl tt (only
          (p-choice z hk (at-choice a (λ x. rest_at T start prog (choice (by_operation op) al o) hs hg hh x) (λ x. exit_out T start prog (choice (by_operation op) al o) q hh x))))
      lay-sound (choice (by_operation_with op u) al o) {q = q} z hk (lay-operation_with d d₁ a) hs hg hh =
          set-sound d (p-choose d₁
          (p-choice z hk (at-choice a (λ x. rest_at T start prog (choice (by_operation_with op u) al o) hs hg hh x) (λ x. exit_out T start prog (choice (by_operation_with op u) al o) q hh x))))

      lays_sound : (q : Acts) {v : Bool} {k : List Context} {x l e : ℕ} → Has prog q → Around prog k → Lays T start prog v q x l e → (past_all q ≡ true → End T start prog v k e)
          → (exits_all q ≡ true → Out T start prog v k x) → (past_all q ≡ true → Sound e) → Sound l
      lays_sound done z hk lays-done hg hh s = s refl
      lays_sound (a ▸ q) z hk (lays_cons h hs) hg hh s = lay-sound a z hk h hs hg hh

    end-sound : (k : List Context) {v : Bool} {e : ℕ} → Around prog k → End T start prog v k e → Sound e
    end-sound [] hk (end-rule z d) = return-sound d
    end-sound (in_cycle b r ∷ k) (around-cycle hb hr hk) (end-cycle h d o) = jump-sound d (p-at hb (around-cycle hb hr hk) (at_place h (λ x. end-cycle h d o) o))
    end-sound (in_alternative r ∷ k) (around-alternative hr hk) (end-alternative d a) = jump-sound d (p-at hr hk a)
    end-sound (in_otherwise r ∷ k) (around-otherwise hr hk) (end-otherwise (at_place h hg hh)) = lays_sound r hr hk h hg hh (λ g. end-sound k hk (hg g))

    place-sound : {l : ℕ} → Place l → Sound l
    unfolding bad onward Refers
    place-sound (p-at z hk (at_place {q = q} {k = k} h hg hh)) = lays_sound q z hk h hg hh (λ g. end-sound k hk (hg g))
    place-sound (p-choice z hk a) = at-choice-sound z hk a
    place-sound (p-return d) = return-sound d
    place-sound (p-end d) = end-choice-sound d
    place-sound (p-input d p) = input-sound d p
    place-sound (p-jump d p) = jump-sound d p
    place-sound (p-update {op = op} d p) = by (updates_with op) d refl tt (only p)
    place-sound (p-choose {op = op} d p) = by (choose_with op) d refl tt (only p)

    reach-place : Place 1 → {l : ℕ} → ByWays T l → Place l
    unfolding ways
    reach-place s from_start = s
    reach-place s (by_way {m = m} r w) = (place-sound (reach-place s r)).leads m w

    reach-sound : Place 1 → {l : ℕ} → Reachable T l → Sound l
    reach-sound s r = place-sound (reach-place s (by-ways T r))

-- the table of an accepted program, with anything behind it
program-sound : (prog : List Rule) (more : List ℕ) → Accepted prog → {l : ℕ} → Reachable (table prog ++ more) l → Sound (table prog ++ more) (place 1 prog) prog l
program-sound prog more a =
    let laid = program-laid prog more a in
    let first = rw (place-first 1 prog) at (laid 0 a.some_rule) in
    reach-sound (table prog ++ more) (place 1 prog) prog laid (p-at (has-rule 0 a.some_rule refl) around-nothing first)

pub program-taken : (prog : List Rule) (more : List ℕ) → Accepted prog → Taken (table prog ++ more)
unfolding gives37
program-taken prog more a l r = (program-sound prog more a r).good

pub program-refers : (prog : List Rule) (more : List ℕ) → Accepted prog → {l : ℕ} → Reachable (table prog ++ more) l
    → Refers (table prog ++ more) (place 1 prog) prog (decode (table prog ++ more) l)
program-refers prog more a r = (program-sound prog more a r).refers

pub written-taken : WrittenTaken
written-taken text room words verdict e = claim (accepted-table text room words verdict e)
  where
    claim : TableOf text room words verdict → Taken words
    claim t = rw t.words_are (rw (append-nil (table t.prog)) at (program-taken t.prog [] t.accepts))
