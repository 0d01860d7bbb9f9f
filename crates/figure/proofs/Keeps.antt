-- A rule keeps to its own words: what is reachable from its start lies among them. Over a table that has zeros for all that stands before the rule, and nothing
-- behind it, every reachable location is a place of the rule, and a zero is no instruction.
use mathlib.Core.Bool.{Bool, true, false}
use mathlib.Core.List.{List, [], ◌∷◌, ◌++◌, append_assoc}
use mathlib.Core.Option.{Option, none, some}
use mathlib.Core.Path.{◌≡◌, refl, sym, ap, ◌∙◌}
use native.Mathlib.Decide.{dec_lt}
use native.Mathlib.Omega.{arith}
use native.Mathlib.Nat.{zero-add, suc-add}
use Prim.Native.Nat.{ℕ, zero, suc, ◌+◌, ◌-◌, ◌*◌, ◌≤◌, ◌<◌}
use lib.ListN.{length, get_elem?, drop, replicate, length-append, length-replicate}
use Rattle.agreement.proofs.Laid.{fetch-le, own_words, rule-alone}
use Rattle.std.specs.Prelude.{if◌then◌else◌}
use Rattle.events.specs.Events.{Event, is}
use Rattle.machine.proofs.Decoded.{of-operation, of_one, of_two, of-decode}
use Rattle.machine.specs.Decode.{fetch, Instruction, invalid, jump, input, input_any, write, input_choice, call_rule, return, set_result, choice, end_choice, set_parameter, update, update_with, choose, choose_with, decode_word, decode_at, decode}
use Rattle.machine.specs.Lengths.{length_of}
use Rattle.program.proofs.Lengths.{length-codes}
use Rattle.program.proofs.Places.{place-from, place-words}
use Rattle.program.specs.Accepted.{Accepted}
use Rattle.program.specs.Program.{Rule, rule_of, body_of}
use Rattle.program.specs.Table.{codes, end_words, size_rule, rules_words, place, table}
use Rattle.figure.specs.Figure.{label_at, label_by, back_from, way_among, way_of, way_out, Leads, leads_jump, leads_input, leads_any, leads_write, leads_token, leads_call, leads_result, leads_choice, leads_parameter, leads_update, leads_update_with, leads_choose, leads_choose_with, Reached, at_start, further}
use Rattle.figure.proofs.More.{element-within, AlikeAt, alike-none, alike_at, words-alike}
use Rattle.figure.proofs.Spots.{Stage, spot-at, Fine, Place, placed, spot-fine, reached-spot}

-- Choice tables stand behind their instruction

-- the instruction at l has no choice table, or one behind l
data Ahead (l : ℕ) : Instruction → Type 0 where
  a-invalid : Ahead l invalid
  a-jump : {m : ℕ} → Ahead l (jump m)
  a-input : {t : ℕ} → Ahead l (input t)
  a-any : Ahead l input_any
  a_write : {e : Event} → Ahead l (write e)
  a-token : {c : ℕ} → l < c → Ahead l (input_choice c)
  a_call : {s : ℕ} → Ahead l (call_rule s)
  a-return : Ahead l return
  a-result : {v : ℕ} → Ahead l (set_result v)
  a-choice : {c : ℕ} → l < c → Ahead l (choice c)
  a-end : Ahead l end_choice
  a-parameter : {v : ℕ} → Ahead l (set_parameter v)
  a-update : {op : ℕ} → Ahead l (update op)
  a-update_with : {op : ℕ} → Ahead l (update_with op)
  a-choose : {op : ℕ} → Ahead l (choose op)
  a-choose_with : {op : ℕ} → Ahead l (choose_with op)

decode-ahead : (T : List ℕ) (l : ℕ) → Ahead l (decode T l)
decode-ahead T l = of-decode (Ahead l) T l a-invalid
    (λ i _. of_one (Ahead l) i (λ _. a-any) (λ _. a-return) (λ _. a-end) (of-operation (Ahead l) i (λ _. a-update) (λ _. a-update_with) (λ _. a-choose) (λ _. a-choose_with)))
    (λ i x _ _. of_two (Ahead l) l i x (λ _ _. a-jump) (λ _ _. a-jump) (λ _. a-input) (λ _. a_write) (λ _. a_write) (λ _ _ h. a-token h) (λ _. a_call) (λ _. a-result) (λ _ _ h. a-choice h) a-parameter)

-- Two tables, the second with instructions behind n only, where the first has the same words

module _ (T W : List ℕ) (n : ℕ) (same : (l : ℕ) → n < l → l ≤ length W → fetch T l ≡ fetch W l) (only : (l : ℕ) → (decode W l ≡ invalid → ⊥) → (n < l) × (l ≤ length W)) where
  fetch-same : (l x : ℕ) → n < l → fetch W l ≡ some x → fetch T l ≡ some x
  fetch-same l x h e = same l h (fetch-le W l x e) ∙ e

  decode-same : (l : ℕ) → n < l → (decode W l ≡ invalid → ⊥) → decode T l ≡ decode W l
  unfolding decode
  decode-same l h f = go (decode W l) (decode T l) f (words-alike l (fetch W l) (fetch W (suc l)) (fetch T l) (fetch T (suc l)) (λ x e. fetch-same l x h e) (λ x e. fetch-same (suc l) x (omega arith) e))
    where
      go : (i j : Instruction) → (i ≡ invalid → ⊥) → AlikeAt i j → j ≡ i
      go i j g alike-none = absurd (g refl)
      go i j g alike_at = refl

  -- k labels from l on, of a choice table at c with m of them
  among_same : (v c m k l : ℕ) → n < l → l + 2 * k ≤ suc (length W) → way_among T c m (label_at T v k l) ≡ way_among W c m (label_at W v k l)
  unfolding label_at way_among back_from
  among_same v c m zero l h z = refl
  among_same v c m (suc k) l h z = rw (same l h (omega arith)) (go (is v (fetch W l)) (among_same v c m k (l + 2) (omega arith) (omega arith)))
    where
      go : (b : Bool) → way_among T c m (label_at T v k (l + 2)) ≡ way_among W c m (label_at W v k (l + 2))
          → way_among T c m (if b then some (l + 1) else label_at T v k (l + 2)) ≡ way_among W c m (if b then some (l + 1) else label_at W v k (l + 2))
      go true e = ap (back_from T (l + 1)) (same (l + 1) (omega arith) (omega arith))
      go false e = e

  way_same : (c k : ℕ) (w : Option ℕ) → n < c → fetch W c ≡ some k → c + 2 * k ≤ length W → way_out T c w ≡ way_out W c w
  unfolding way_out way_of label_by way_among
  way_same c k none h e z = rw (fetch-same c k h e, e) refl
  way_same c k (some v) h e z = rw (fetch-same c k h e, e) (among_same v c k k (c + 1) (omega arith) (omega arith))

  module _ (start : ℕ → ℕ) (prog : List Rule) where
    leads-same : (v : Bool) (g : Stage) (l : ℕ) {m : ℕ} {i : Instruction} → n < l → Ahead l i → Fine W start prog v g l i → Leads T l i m → Leads W l i m
    unfolding Fine
    leads-same v g l h a f leads_jump = leads_jump
    leads-same v g l h a f leads_input = leads_input
    leads-same v g l h a f leads_any = leads_any
    leads-same v g l h a f leads_write = leads_write
    leads-same v g l h (a-token z) f (leads_token {c = c} w) = rw (way_same c f.1.labels w (omega arith) f.1.is_count f.1.fits) (leads_token w)
    leads-same v g l h a f leads_call = leads_call
    leads-same v g l h a f leads_result = leads_result
    leads-same v g l h (a-choice z) f (leads_choice {c = c} w) = rw (way_same c f.1.labels w (omega arith) f.1.is_count f.1.fits) (leads_choice w)
    leads-same v g l h a f leads_parameter = leads_parameter
    leads-same v g l h a f leads_update = leads_update
    leads-same v g l h a f leads_update_with = leads_update_with
    leads-same v g l h a f leads_choose = leads_choose
    leads-same v g l h a f leads_choose_with = leads_choose_with

    -- a place has an instruction
    place-valid : {v : Bool} {l : ℕ} → Place W start prog v l → decode W l ≡ invalid → ⊥
    unfolding Fine
    place-valid {v} {l} p e = let f : Fine W start prog v p.stage l invalid = rw e at (spot-fine W start prog p.spot) in f

    reached-same : {v : Bool} {s l : ℕ} → Place W start prog v s → Reached T s l → Reached W s l
    reached-same p at_start = at_start
    reached-same {v} p (further {l} {m} r d) =
        let r₁ = reached-same p r in
        let q = reached-spot W start prog p r₁ in
        let h = (only l (place-valid q)).0 in
        let d₁ : Leads T l (decode W l) m = rw (decode-same l h (place-valid q)) at d in
        further r₁ (leads-same v q.stage l h (decode-ahead W l) (spot-fine W start prog q.spot) d₁)

    reached-within : {v : Bool} {s l : ℕ} → Place W start prog v s → Reached T s l → (n < l) × (l ≤ length W)
    reached-within {l = l} p r = only l (place-valid (reached-spot W start prog p (reached-same p r)))

-- Zeros and then a rule's words

element-drop : (ws : List ℕ) (n i : ℕ) → get_elem? ws (n + i) ≡ get_elem? (drop n ws) i
element-drop ws zero i = ap (get_elem? ws) (zero-add i)
element-drop [] (suc n) i = refl
element-drop (w ∷ ws) (suc n) i = ap (get_elem? (w ∷ ws)) (suc-add n i) ∙ element-drop ws n i

element-zero : (n : ℕ) (ws : List ℕ) (i : ℕ) → i < n → get_elem? (replicate n 0 ++ ws) i ≡ some 0
element-zero zero ws i h = absurd (omega arith)
element-zero (suc n) ws zero h = refl
element-zero (suc n) ws (suc i) h = element-zero n ws i (omega arith)

element-behind : (n : ℕ) (ws : List ℕ) (i : ℕ) → get_elem? (replicate n 0 ++ ws) (n + i) ≡ get_elem? ws i
element-behind zero ws i = ap (get_elem? ws) (zero-add i)
element-behind (suc n) ws i = ap (get_elem? (0 ∷ (replicate n 0 ++ ws))) (suc-add n i) ∙ element-behind n ws i

zero-invalid : (l : ℕ) (f : Option ℕ) → decode_at l (some 0) f ≡ invalid
unfolding decode_at decode_word length_of
zero-invalid l none = refl
zero-invalid l (some x) = refl

module _ (n : ℕ) (own : List ℕ) where
  abbrev W : List ℕ
  W = replicate n 0 ++ own

  within : (l : ℕ) → (decode W l ≡ invalid → ⊥) → l ≤ length W
  unfolding decode decode_at
  within l f = go (fetch W l) refl f
    where
      go : (o : Option ℕ) → fetch W l ≡ o → (decode_at l o (fetch W (suc l)) ≡ invalid → ⊥) → l ≤ length W
      go none e g = absurd (g refl)
      go (some x) e g = fetch-le W l x e

  behind : (l : ℕ) → (decode W l ≡ invalid → ⊥) → n < l
  unfolding decode decode_at fetch
  behind zero f = absurd (f refl)
  behind (suc i) f = elim (dec_lt i n) [ yes y ↦ absurd (f (rw (element-zero n own i y) (zero-invalid (suc i) (fetch W (suc (suc i)))))) | no y ↦ omega arith ]

  -- the same words stand in T
  own_same : (T rest : List ℕ) → drop n T ≡ own ++ rest → (l : ℕ) → n < l → l ≤ length W → fetch T l ≡ fetch W l
  unfolding fetch
  own_same T rest e zero h z = absurd (omega arith)
  own_same T rest e (suc k) h z =
      let i = k - n in
      let s : k ≡ n + i = omega arith in
      let j : i < length own = omega (arith, length-append (replicate n 0) own, length-replicate {A = ℕ} n 0) in
      rw s (element-drop T n i ∙ (ap (λ (ws : List ℕ). get_elem? ws i) e ∙ (element-within own rest i j ∙ sym (element-behind n own i))))

-- what is reachable from the start of rule r lies among its own words
pub rule-keeps : (prog : List Rule) → Accepted prog → {l : ℕ} (r : ℕ) → r < length prog → Reached (table prog) (place 1 prog r) l
    → (place 1 prog r ≤ l) × (l < place 1 prog r + size_rule (rule_of prog r))
unfolding size_rule body_of
rule-keeps prog a {l} r h reached =
    let n = place 1 prog r - 1 in
    let e : place 1 prog r ≡ suc n = omega (arith, place-from 1 prog r) in
    let w = codes (place 1 prog) (body_of prog r) 0 in
    let t = end_words (rule_of prog r).valued in
    let rest = rules_words (place 1 prog) (drop (suc r) prog) in
    let own = own_words prog r in
    let alone = replicate n 0 ++ own in
    let d : drop n (table prog) ≡ own ++ rest = place-words prog r n h e ∙ sym (append_assoc w t rest) in
    let p : Place alone (place 1 prog) prog (rule_of prog r).valued (suc n) = placed alone (place 1 prog) prog (spot-at (rule-alone prog a r n h)) in
    let q = reached-within (table prog) alone n (own_same n own (table prog) rest d) (λ k f. (behind n own k f, within n own k f)) (place 1 prog) prog p (rw e at reached) in
    let size = length-codes (place 1 prog) (body_of prog r) 0 in
    (omega (arith, q.0), omega (arith, q.1, length-append (replicate n 0) own, length-replicate {A = ℕ} n 0, length-append w t, size))
