-- Places of a rule by its own words. W has the words of one rule from location 1 on, with `mk` for the locations of the rules that it calls;
-- in the table T the rule begins `base` words later, with `start` for them. A place of the rule stands at o in W and at base + o in T, and
-- what it leads to is again such a place, told by the words of W alone.
use Prim.Native.Nat.{ℕ, ◌+◌, ◌*◌}
use native.Mathlib.Omega.{arith}
use mathlib.Core.Path.{◌≡◌, refl, sym, subst}
use mathlib.Core.Bool.{Bool, true, false, ◌||◌}
use mathlib.Core.List.{List, [], ◌∷◌, ◌++◌}
use lib.ListN.{length}
use Rattle.base.specs.Bools.{never}
use Rattle.base.specs.Tree.{choice, ◌▸◌}
use Rattle.ownwalk.specs.OwnWalk.{Context, in_cycle, in_alternative, in_otherwise}
use Rattle.program.proofs.Lengths.{length-table_words, length-codes, length-alts}
use Rattle.program.specs.Accepted.{NeedsLabel, Oks, OkAlts, OkOther}
use Rattle.program.specs.Past.{exits_all, exits_some, exits_other, past_all, past_some, past_other}
use Rattle.program.specs.Program.{Selector, by_token, by_rule, by_operation, by_operation_with, Acts, Alts, Other, Rule}
use Rattle.program.specs.Table.{size_selector, size_absent, count_labels, sizes, size_alts, size_other, table_words, first_label, absent_words, choice_number, codes, code_alts, code_other}
use Rattle.agreement.proofs.Lay.{Entry, At, at_place, End, end-rule, end-cycle, end-alternative, end-otherwise, Out, out-cycle, out-alternative, out-otherwise, AtChoice, at-choice}
use Rattle.agreement.proofs.Laid.{Seg, seg-left, seg-after, seg-return, seg-jump, seg-jump_back, pairs, pairs-length, laid_table, laids, laid-alts, laid-other, laid-result, parts, other_at, is_token}
use Rattle.carry.specs.Places.{Inside}

-- the words of a choice from its instruction on
unfoldable pub rest_of : Selector → Alts → Other → ℕ
rest_of s al ot = 1 + 2 * count_labels al + size_other ot (size_absent s)

unfoldable pub choice_words : (ℕ → ℕ) → Selector → Alts → Other → ℕ → List ℕ
choice_words st s al ot out =
    choice_number s ∷ (size_alts al + 1) ∷ (code_alts st al out (rest_of s al ot)
    ++ (count_labels al ∷ (table_words 1 al ++ code_other st ot out (absent_words s (first_label al) (size_alts al + (1 + 2 * count_labels al + 3))))))

unfoldable pub by_tokens : Selector → Bool
by_tokens by_token = true
by_tokens (by_rule r) = false
by_tokens (by_operation op) = false
by_tokens (by_operation_with op u) = false

-- entries so many words later
unfoldable pub later : ℕ → List Entry → List Entry
later base [] = []
later base (p ∷ ps) = (p.0, base + p.1) ∷ later base ps

module _ (prog : List Rule) (T W : List ℕ) (start mk : ℕ → ℕ) (base : ℕ) (rule : Rule) where
  abbrev v : Bool
  v = rule.valued

  abbrev In : Acts → List Context → ℕ → Type 0
  In = Inside rule.body

  mutual
    -- before actions
    pub data Here : Acts → List Context → ℕ → Type 0 where
      here : {q : Acts} {k : List Context} {x o : ℕ} (c : Bool) (out : ℕ) → In q k o → Oks prog q v c → (c ≡ true → x ≡ o + sizes q + out)
          → Seg W o (codes mk q out) → Seg T (base + o) (codes start q out)
          → (past_all q ≡ true → Then k (o + sizes q)) → (exits_all q ≡ true → Exit k x) → Here q k o

    -- at the end of actions
    pub data Then : List Context → ℕ → Type 0 where
      then_rule : {e : ℕ} → v ≡ false → Seg W e (9 ∷ []) → Seg T (base + e) (9 ∷ []) → Then [] e
      then-cycle : {b r : Acts} {k : List Context} {l e : ℕ} → In b (in_cycle b r ∷ k) l → Oks prog b v true → l + sizes b ≡ e
          → Seg W l (codes mk b 2 ++ (2 ∷ (sizes b + 1) ∷ [])) → Seg T (base + l) (codes start b 2 ++ (2 ∷ (sizes b + 1) ∷ []))
          → (exits_all b ≡ true → Exit (in_cycle b r ∷ k) (e + 2)) → Then (in_cycle b r ∷ k) e
      then-alternative : {r : Acts} {k : List Context} {e d y : ℕ} → e + 1 + d ≡ y → Seg W e (1 ∷ d ∷ []) → Seg T (base + e) (1 ∷ d ∷ [])
          → Here r k y → Then (in_alternative r ∷ k) e
      then-otherwise : {r : Acts} {k : List Context} {e : ℕ} → Here r k e → Then (in_otherwise r ∷ k) e

    -- where an exit goes
    pub data Exit : List Context → ℕ → Type 0 where
      exit-cycle : {b r : Acts} {k : List Context} {x : ℕ} → Here r k x → Exit (in_cycle b r ∷ k) x
      exit-alternative : {r : Acts} {k : List Context} {x : ℕ} → Exit k x → Exit (in_alternative r ∷ k) x
      exit-otherwise : {r : Acts} {k : List Context} {x : ℕ} → Exit k x → Exit (in_otherwise r ∷ k) x

  -- at the instruction of a choice, with the actions r after it
  pub data Before (s : Selector) : Alts → Other → Acts → List Context → ℕ → Type 0 where
    before : {al : Alts} {ot : Other} {r : Acts} {k : List Context} {x o : ℕ} (o₀ : ℕ) (c : Bool) (out : ℕ) → In (choice s al ot ▸ r) k o₀ → o₀ + size_selector s ≡ o → OkAlts prog al v c → OkOther prog ot v c
        → NeedsLabel s ot al → (c ≡ true → x ≡ o + (2 + size_alts al + rest_of s al ot) + out)
        → Seg W o (choice_words mk s al ot out) → Seg T (base + o) (choice_words start s al ot out)
        → ((past_some al || past_other ot) ≡ true → Here r k (o + (2 + size_alts al + rest_of s al ot)))
        → ((exits_some al || exits_other ot) ≡ true → Exit k x) → Before s al ot r k o

  pub record Place (o : ℕ) : Type 0 where
    pub acts : Acts
    pub contexts : List Context
    pub is : Here acts contexts o

  -- at a choice by the result
  pub record Choice (o : ℕ) : Type 0 where
    pub by : Selector
    pub no-token : by_tokens by ≡ false
    pub alts : Alts
    pub other : Other
    pub rest : Acts
    pub contexts : List Context
    pub is : Before by alts other rest contexts o

  -- The rules' own places, in the table

  end-to : {k : List Context} {e e' : ℕ} → End T start prog v k e → e ≡ e' → End T start prog v k e'
  end-to {k} h p = subst (λ (i : ℕ). End T start prog v k i) p h

  at-to : {q : Acts} {k : List Context} {e e' : ℕ} → At T start prog v q k e → e ≡ e' → At T start prog v q k e'
  at-to {q} {k} h p = subst (λ (i : ℕ). At T start prog v q k i) p h

  out-to : {k : List Context} {e e' : ℕ} → Out T start prog v k e → e ≡ e' → Out T start prog v k e'
  out-to {k} h p = subst (λ (i : ℕ). Out T start prog v k i) p h

  record To (k : List Context) : Type 0 where
    end : {e : ℕ} → Then k e → End T start prog v k (base + e)
    out : {x : ℕ} → Exit k x → Out T start prog v k (base + x)

  at-by : {q : Acts} {k : List Context} {o : ℕ} → To k → Here q k o → At T start prog v q k (base + o)
  at-by t (here {q = q} {x = x} {o = o} c out iw ok hx sw st hg hh) =
      at_place (laids T start prog q v c out (base + x) (base + o) ok (λ e. omega (arith, hx e)) st)
      (λ g. end-to (t.end (hg g)) (omega arith)) (λ g. t.out (hh g))

  rule_end : {e : ℕ} → Then [] e → End T start prog v [] (base + e)
  rule_end (then_rule z sw st) = end-rule z (seg-return st)

  rule-out : {x : ℕ} → Exit [] x → Out T start prog v [] (base + x)
  rule-out h = go h refl
    where
      go : {k : List Context} {x : ℕ} → Exit k x → k ≡ [] → Out T start prog v [] (base + x)
      go (exit-cycle h) e = let z : ◌≡◌ {A = ℕ} 0 1 = cc in absurd (omega arith)
      go (exit-alternative h) e = let z : ◌≡◌ {A = ℕ} 0 1 = cc in absurd (omega arith)
      go (exit-otherwise h) e = let z : ◌≡◌ {A = ℕ} 0 1 = cc in absurd (omega arith)

  cycle-out : {b r : Acts} {k : List Context} {x : ℕ} → To k → Exit (in_cycle b r ∷ k) x → Out T start prog v (in_cycle b r ∷ k) (base + x)
  cycle-out t (exit-cycle h) = out-cycle (at-by t h)

  cycle-end : {b r : Acts} {k : List Context} {e : ℕ} → To k → Then (in_cycle b r ∷ k) e → End T start prog v (in_cycle b r ∷ k) (base + e)
  cycle-end t (then-cycle {b = b} {l = l} {e = e} iw ok d sw st hh) =
      end-to (end-cycle {l = base + l} (laids T start prog b v true 2 (base + l + sizes b + 2) (base + l) ok (λ _. refl) (seg-left (codes start b 2) (2 ∷ (sizes b + 1) ∷ []) st))
      (seg-jump_back (base + l) (omega arith) (seg-after (sizes b) (codes start b 2) (2 ∷ (sizes b + 1) ∷ []) (length-codes start b 2) st))
      (λ g. out-to (cycle-out t (hh g)) (omega arith))) (omega arith)

  alternative-out : {r : Acts} {k : List Context} {x : ℕ} → To k → Exit (in_alternative r ∷ k) x → Out T start prog v (in_alternative r ∷ k) (base + x)
  alternative-out t (exit-alternative h) = out-alternative (t.out h)

  alternative-end : {r : Acts} {k : List Context} {e : ℕ} → To k → Then (in_alternative r ∷ k) e → End T start prog v (in_alternative r ∷ k) (base + e)
  alternative-end t (then-alternative {e = e} {d = d} {y = y} p sw st h) = end-alternative {y = base + y} (seg-jump (base + y) (omega arith) st) (at-by t h)

  otherwise-out : {r : Acts} {k : List Context} {x : ℕ} → To k → Exit (in_otherwise r ∷ k) x → Out T start prog v (in_otherwise r ∷ k) (base + x)
  otherwise-out t (exit-otherwise h) = out-otherwise (t.out h)

  otherwise-end : {r : Acts} {k : List Context} {e : ℕ} → To k → Then (in_otherwise r ∷ k) e → End T start prog v (in_otherwise r ∷ k) (base + e)
  otherwise-end t (then-otherwise h) = end-otherwise (at-by t h)

  to : (k : List Context) → To k
  to [] = record { end = rule_end; out = rule-out }
  to (in_cycle b r ∷ k) = let t = to k in record { end = cycle-end t; out = cycle-out t }
  to (in_alternative r ∷ k) = let t = to k in record { end = alternative-end t; out = alternative-out t }
  to (in_otherwise r ∷ k) = let t = to k in record { end = otherwise-end t; out = otherwise-out t }

  pub to_at : {q : Acts} {k : List Context} {o : ℕ} → Here q k o → At T start prog v q k (base + o)
  to_at {k = k} h = at-by (to k) h

  -- a choice by the result, in the table
  not-token : (s : Selector) → by_tokens s ≡ false → (choice_number s ≡ 11) × (is_token T start prog s ≡ false)
  unfolding by_tokens choice_number is_token
  not-token by_token e = never (sym e)
  not-token (by_rule r) e = (refl, refl)
  not-token (by_operation op) e = (refl, refl)
  not-token (by_operation_with op u) e = (refl, refl)

  pub to-choice : {s : Selector} {al : Alts} {ot : Other} {r : Acts} {k : List Context} {o : ℕ} → by_tokens s ≡ false → Before s al ot r k o
      → AtChoice T start prog v al ot r k (base + o)
  unfolding choice_words rest_of
  to-choice {s} z (before {al = al} {ot = ot} {k = k} {x = x} {o = o} o₀ c out iw oe oa oo nl hx sw st hg hh) =
      let n = not-token s z in
      let rest = 1 + 2 * count_labels al + size_other ot (size_absent s) in
      let d = size_alts al + (1 + 2 * count_labels al + 3) in
      let as₁ = code_alts start al out rest in
      let os = code_other start ot out (absent_words s (first_label al) d) in
      let ts = count_labels al ∷ (table_words 1 al ++ os) in
      let e = base + o + 2 + size_alts al + rest in
      let s₂ = seg-after 2 (choice_number s ∷ (size_alts al + 1) ∷ []) (as₁ ++ ts) refl st in
      let s₃ = seg-after (size_alts al) as₁ ts (length-alts start al out rest) s₂ in
      let s₄ = seg-after (1 + 2 * count_labels al) (count_labels al ∷ table_words 1 al) os (omega (arith, length-table_words 1 al)) s₃ in
      let lo = laid-other T start prog ot s v c al out d (base + x) (base + o + 2 + size_alts al + (1 + 2 * count_labels al)) (base + o + 2) (omega arith) oo nl (λ z₁. omega (arith, hx z₁)) s₄ in
      let lo₂ = other_at T start prog {l' = base + o + 2 + size_alts al + 1 + 2 * length (pairs (base + o + 2) al)} {e' = e} (rw n.1 at lo) (omega (arith, pairs-length (base + o + 2) al)) (omega arith) in
      let la = laid-alts T start prog al v c out rest (base + x) e (base + o + 2) oa (λ z₁. omega (arith, hx z₁)) (omega arith) (seg-left as₁ ts s₂) in
      let lr = laid-result T start prog (rw n.0 at st) (parts {c = base + o + 2 + size_alts al} {ps = pairs (base + o + 2) al} refl (laid_table T al (base + o + 2) os s₃) la lo₂) in
      at-choice {x = base + x} {e = e} lr (λ g. at-to (to_at (hg g)) (omega arith)) (λ g. (to k).out (hh g))

  -- the places are the rule's own
  pub here-inside : {q : Acts} {k : List Context} {o : ℕ} → Here q k o → Inside rule.body q k o
  here-inside (here c out iw ok hx sw st hg hh) = iw

  pub record BeforeIn (s : Selector) (al : Alts) (ot : Other) (r : Acts) (k : List Context) (o : ℕ) : Type 0 where
    pub at : ℕ
    pub inside : Inside rule.body (choice s al ot ▸ r) k at
    pub selected : at + size_selector s ≡ o

  pub before-inside : {s : Selector} {al : Alts} {ot : Other} {r : Acts} {k : List Context} {o : ℕ} → Before s al ot r k o → BeforeIn s al ot r k o
  before-inside (before o₀ c out iw oe oa oo nl hx sw st hg hh) = record { at = o₀; inside = iw; selected = oe }
