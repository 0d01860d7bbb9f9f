-- What stands at a place of a rule, in its own words and in the table, and the places that it leads to.
use Prim.Native.Nat.{ℕ, ◌+◌, ◌*◌}
use native.Mathlib.Omega.{arith}
use native.Mathlib.Nat.{add-zero}
use mathlib.Core.Path.{◌≡◌, refl, sym, ap, ◌∙◌, subst}
use mathlib.Core.Bool.{Bool, true, false}
use mathlib.Core.Option.{some}
use mathlib.Core.List.{List, [], ◌∷◌, ◌++◌}
use lib.Dec.{eqb}
use lib.ListN.{length}
use borrow.Author.Tests.{eq-eqb}
use Rattle.base.specs.Bools.{never, or₁, or₂, both}
use Rattle.std.specs.Prelude.{if◌then◌else◌}
use Rattle.base.specs.Tree.{plain, cycle, choice, done, ◌▸◌, nil, alternative, absent, otherwise}
use Rattle.events.specs.Events.{Event, output, signal}
use Rattle.machine.specs.Decode.{Instruction, invalid, jump, input, input_any, write, input_choice, call_rule, return, set_result, choice as by_result, end_choice, set_parameter, update as updates, update_with as updates_with, choose, choose_with, decode_two, decode_one, decode_word, decode}
use Rattle.machine.specs.Lengths.{lengths, length_of}
use Rattle.ownwalk.specs.OwnWalk.{Context, in_cycle, in_alternative, in_otherwise}
use Rattle.program.proofs.Lengths.{length-table_words, length-selector, length-code, length-codes, length-alts}
use Rattle.program.specs.Accepted.{Labelled, NeedsLabel, Calls, OkPlain, OkSelector, Ok, Oks, OkAlts, OkOther}
use Rattle.program.specs.Past.{plain_past, is_exit, exits, exits_all, exits_some, exits_other, past, past_all, past_some, past_other}
use Rattle.program.specs.Program.{Plain, match, any, emit, error, exit, call, back, give, update, update_with, Selector, by_token, by_rule, by_operation, by_operation_with, Act, Acts, Alts, Other, Rule}
use Rattle.program.specs.Table.{size_plain, size_selector, size_absent, count_labels, size, sizes, size_alts, size_other, table_words, first_of, first_label, absent_words, choice_number, selector_words, plain_words, code, codes, code_alts, code_other}
use Rattle.agreement.proofs.Lay.{Entry, lookup, entries, Table}
use Rattle.agreement.proofs.Sim.{good, at-good, at-choice-good}
use Rattle.agreement.proofs.Laid.{Seg, seg-at, seg-left, seg-after, seg_two, seg-one, seg-operation, seg-return, seg-jump, seg-jump_back, is_update, is_update_with, is-choose, is-choose_with, pairs, pairs-length, laid_table}
use Rattle.carry.specs.Places.{OneOf, this_one, that_one, Inside, in_rest, inside_cycle, in_labelled, inside_otherwise}
use Rattle.carry.proofs.Placed.{rest_of, choice_words, by_tokens, later, Here, here, Then, then_rule, then-cycle, then-alternative, then-otherwise, Exit, exit-cycle, exit-alternative, exit-otherwise, Before, before, Place, Choice, to_at, to-choice}

pairs-later : (base l : ℕ) (al : Alts) → pairs (base + l) al ≡ later base (pairs l al)
unfolding pairs later entries
pairs-later base l nil = refl
pairs-later base l (alternative ls b q) =
    let e : base + l + sizes b + 2 ≡ base + (l + sizes b + 2) = omega arith in
    rw e (go ls (pairs (base + (l + sizes b + 2)) q) (pairs (l + sizes b + 2) q) (pairs-later base (l + sizes b + 2) q))
  where
    go : (ls : List ℕ) (ps qs : List Entry) → ps ≡ later base qs → entries ls (base + l) ps ≡ later base (entries ls l qs)
    go [] ps qs d = d
    go (v ∷ ls) ps qs d = ap (λ (zs : List Entry). (v, base + l) ∷ zs) (go ls ps qs d)

module _ (prog : List Rule) (T W : List ℕ) (start mk : ℕ → ℕ) (base : ℕ) (rule : Rule) where
  abbrev v : Bool
  v = rule.valued

  abbrev In : Acts → List Context → ℕ → Type 0
  In = Inside rule.body

  abbrev P : ℕ → Type 0
  P = Place prog T W start mk base rule

  abbrev C : ℕ → Type 0
  C = Choice prog T W start mk base rule

  abbrev H : Acts → List Context → ℕ → Type 0
  H = Here prog T W start mk base rule

  abbrev E : List Context → ℕ → Type 0
  E = Then prog T W start mk base rule

  abbrev X : List Context → ℕ → Type 0
  X = Exit prog T W start mk base rule

  -- where a choice goes with no label taken
  pub data Default : Bool → ℕ → List Entry → Type 0 where
    default-place : {i : Bool} {d : ℕ} {ps : List Entry} → P d → Default i d ps
    default-input : {u a d : ℕ} {ps : List Entry} → decode W d ≡ input u → decode T (base + d) ≡ input u → decode W (d + 2) ≡ jump a → decode T (base + (d + 2)) ≡ jump (base + a)
        → Default true d ((u, a) ∷ ps)
    default-end : {d : ℕ} {ps : List Entry} → decode W d ≡ end_choice → decode T (base + d) ≡ end_choice → Default false d ps

  -- true: of an input choice
  pub record Branch (i : Bool) (c : ℕ) : Type 0 where
    pub ps : List Entry
    pub local : Table W c ps
    pub global : Table T (base + c) (later base ps)
    pub goes : (u y : ℕ) → lookup u ps ≡ some y → P y
    pub default : Default i (c + 1 + 2 * length ps) ps

  pub data Ready (o : ℕ) : Type 0 where
    r-jump : {y : ℕ} → decode W o ≡ jump y → decode T (base + o) ≡ jump (base + y) → P y → Ready o
    r-input : {t : ℕ} → decode W o ≡ input t → decode T (base + o) ≡ input t → P (o + 2) → Ready o
    r-any : decode W o ≡ input_any → decode T (base + o) ≡ input_any → P (o + 1) → Ready o
    r-write : {e : Event} → decode W o ≡ write e → decode T (base + o) ≡ write e → P (o + 2) → Ready o
    r-call : {r : ℕ} → decode W o ≡ call_rule (mk r) → decode T (base + o) ≡ call_rule (start r) → Calls prog r false → P (o + 2) → Ready o
    r-rule : {r : ℕ} → decode W o ≡ call_rule (mk r) → decode T (base + o) ≡ call_rule (start r) → Calls prog r true → C (o + 2) → Ready o
    r-return : v ≡ false → decode W o ≡ return → decode T (base + o) ≡ return → Ready o
    r-give : {u : ℕ} → v ≡ true → decode W o ≡ set_result u → decode T (base + o) ≡ set_result u → decode W (o + 2) ≡ return → decode T (base + (o + 2)) ≡ return → Ready o
    r-update : {op : ℕ} → decode W o ≡ updates op → decode T (base + o) ≡ updates op → P (o + 1) → Ready o
    r-update_with : {u op : ℕ} → decode W o ≡ set_parameter u → decode T (base + o) ≡ set_parameter u → decode W (o + 2) ≡ updates_with op
        → decode T (base + (o + 2)) ≡ updates_with op → P (o + 2 + 1) → Ready o
    r-token : {c : ℕ} → decode W o ≡ input_choice c → decode T (base + o) ≡ input_choice (base + c) → Branch true c → Ready o
    r-operation : {op : ℕ} → decode W o ≡ choose op → decode T (base + o) ≡ choose op → C (o + 1) → Ready o
    r-operation_with : {u op : ℕ} → decode W o ≡ set_parameter u → decode T (base + o) ≡ set_parameter u → decode W (o + 2) ≡ choose_with op
        → decode T (base + (o + 2)) ≡ choose_with op → C (o + 2 + 1) → Ready o

  ready-to : {o o' : ℕ} → Ready o → o ≡ o' → Ready o'
  ready-to h p = subst Ready p h

  here-to : {q : Acts} {k : List Context} {o o' : ℕ} → H q k o → o ≡ o' → H q k o'
  here-to {q} {k} h p = subst (λ (i : ℕ). H q k i) p h

  then_to : {k : List Context} {o o' : ℕ} → E k o → o ≡ o' → E k o'
  then_to {k} h p = subst (λ (i : ℕ). E k i) p h

  place : {q : Acts} {k : List Context} {o : ℕ} → H q k o → P o
  place {q} {k} h = record { acts = q; contexts = k; is = h }

  -- what follows an action that goes past
  rest-here : (a : Act) {q : Acts} {k : List Context} {x o : ℕ} (c : Bool) (out : ℕ) → In (a ▸ q) k o → Oks prog q v c → (c ≡ true → x ≡ o + sizes (a ▸ q) + out)
      → Seg W o (codes mk (a ▸ q) out) → Seg T (base + o) (codes start (a ▸ q) out)
      → (past_all (a ▸ q) ≡ true → E k (o + sizes (a ▸ q))) → (exits_all (a ▸ q) ≡ true → X k x) → past a ≡ true → H q k (o + size a)
  unfolding codes sizes past_all exits_all
  rest-here a {q} {x = x} {o = o} c out iw ok hx sw st hg hh g =
      here {x = x} {o = o + size a} c out (in_rest iw refl) ok (λ e. omega (arith, hx e))
      (seg-after (size a) (code mk a (sizes q + out)) (codes mk q out) (length-code mk a (sizes q + out)) sw)
      (seg-at (seg-after (size a) (code start a (sizes q + out)) (codes start q out) (length-code start a (sizes q + out)) st) (omega arith))
      (λ gs. then_to (hg (both (past a) (past_all q) g gs)) (omega arith)) (λ h. hh (or₂ (exits a) (exits_all q) h))

  -- an exit jumps to the place after its cycle
  exit-place : {k : List Context} {x : ℕ} → X k x → P x
  exit-place (exit-cycle h) = place h
  exit-place (exit-alternative h) = exit-place h
  exit-place (exit-otherwise h) = exit-place h

  -- Choices

  in-to : {q : Acts} {k : List Context} {o o' : ℕ} → In q k o → o ≡ o' → In q k o'
  in-to {q} {k} h p = subst (λ (i : ℕ). In q k i) p h

  further : (l n d : ℕ) → l + (n + 2 + d) ≡ l + n + 2 + d
  further l n d = omega arith

  alts-goes : (al : Alts) {r : Acts} {k : List Context} (l : ℕ) → ((b : Acts) (d : ℕ) → OneOf al b d → In b (in_alternative r ∷ k) (l + d)) → (c : Bool) (out rest x y : ℕ) → OkAlts prog al v c → (c ≡ true → x ≡ y + out)
      → l + size_alts al + rest ≡ y → Seg W l (code_alts mk al out rest) → Seg T (base + l) (code_alts start al out rest)
      → (past_some al ≡ true → H r k y) → (exits_some al ≡ true → X k x) → (u z : ℕ) → lookup u (pairs l al) ≡ some z → P z
  unfolding code_alts pairs lookup past_some exits_some size_alts OkAlts entries
  alts-goes nil l mem c out rest x y ok hx e sw st hg hh u z f = let n : ◌≡◌ {A = ℕ} 0 1 = cc in absurd (omega arith)
  alts-goes (alternative ls b al) {r} {k} l mem c out rest x y ok hx e sw st hg hh u z f =
      let o₁ = 2 + size_alts al + (rest + out) in
      let more : List ℕ = 1 ∷ (1 + size_alts al + rest) ∷ code_alts mk al out rest in
      let more₁ : List ℕ = 1 ∷ (1 + size_alts al + rest) ∷ code_alts start al out rest in
      let w₂ = seg-after (sizes b) (codes mk b o₁) more (length-codes mk b o₁) sw in
      let t₂ = seg-after (sizes b) (codes start b o₁) more₁ (length-codes start b o₁) st in
      let own : H b (in_alternative r ∷ k) l = here {q = b} {x = x} {o = l} c o₁ (in-to (mem b 0 this_one) (add-zero l)) ok.1 (λ z₁. omega (arith, hx z₁)) (seg-left (codes mk b o₁) more sw) (seg-left (codes start b o₁) more₁ st)
      (λ g. then-alternative {e = l + sizes b} {d = 1 + size_alts al + rest} {y = y} (omega arith) (seg-left (1 ∷ (1 + size_alts al + rest) ∷ []) (code_alts mk al out rest) w₂)
      (seg-at (seg-left (1 ∷ (1 + size_alts al + rest) ∷ []) (code_alts start al out rest) t₂) (omega arith)) (hg (or₁ (past_all b) (past_some al) g)))
      (λ g. exit-alternative (hh (or₁ (exits_all b) (exits_some al) g))) in
      go ls (place own) (λ z₁ f₁. alts-goes al (l + sizes b + 2) (λ b₁ d₁ i₁. in-to (mem b₁ (sizes b + 2 + d₁) (that_one i₁)) (further l (sizes b) d₁)) c out rest x y ok.2 hx (omega arith)
      (seg-after 2 (1 ∷ (1 + size_alts al + rest) ∷ []) (code_alts mk al out rest) refl w₂)
      (seg-at (seg-after 2 (1 ∷ (1 + size_alts al + rest) ∷ []) (code_alts start al out rest) refl t₂) (omega arith))
      (λ g. hg (or₂ (past_all b) (past_some al) g)) (λ g. hh (or₂ (exits_all b) (exits_some al) g)) u z₁ f₁) z f
    where
      go : (ls : List ℕ) → P l → ((z : ℕ) → lookup u (pairs (l + sizes b + 2) al) ≡ some z → P z) → (z : ℕ)
          → lookup u (entries ls l (pairs (l + sizes b + 2) al)) ≡ some z → P z
      go [] h ih z f = ih z f
      go (w ∷ ls) h ih z f = test (eqb u w) f (go ls h ih z)
        where
          test : (t : Bool) → (if t then some l else lookup u (entries ls l (pairs (l + sizes b + 2) al))) ≡ some z
              → (lookup u (entries ls l (pairs (l + sizes b + 2) al)) ≡ some z → P z) → P z
          test true f₁ g = let e : l ≡ z = cc in subst P e h
          test false f₁ g = g f₁

  -- where there is no otherwise
  absent-input : (al : Alts) (l d m : ℕ) → m + 3 ≡ l + d → Labelled al → Seg W m (3 ∷ first_label al ∷ 2 ∷ d ∷ []) → Seg T (base + m) (3 ∷ first_label al ∷ 2 ∷ d ∷ [])
      → Default true m (pairs l al)
  unfolding Labelled pairs entries first_label first_of length_of lengths decode_word decode_two
  absent-input nil l d m z ok sw st = absurd ok
  absent-input (alternative [] b q) l d m z ok sw st = absurd ok
  absent-input (alternative (u ∷ ls) b q) l d m z ok sw st =
      default-input (seg_two sw) (seg_two st) (seg-jump_back l (omega arith) (seg-after 2 (3 ∷ u ∷ []) (2 ∷ d ∷ []) refl sw))
      (seg-jump_back (base + l) (omega arith) (seg-at (seg-after 2 (3 ∷ u ∷ []) (2 ∷ d ∷ []) refl st) (two base m)))
    where
      two : (b o : ℕ) → b + o + 2 ≡ b + (o + 2)
      two b o = omega arith

  absent-end : (ps : List Entry) (m : ℕ) → Seg W m (12 ∷ []) → Seg T (base + m) (12 ∷ []) → Default false m ps
  unfolding length_of lengths decode_one
  absent-end ps m sw st = default-end (seg-one refl sw) (seg-one refl st)

  default-absent : (s : Selector) (al : Alts) (l d m : ℕ) → m + 3 ≡ l + d → NeedsLabel s absent al → Seg W m (absent_words s (first_label al) d) → Seg T (base + m) (absent_words s (first_label al) d)
      → Default (by_tokens s) m (pairs l al)
  unfolding NeedsLabel absent_words by_tokens
  default-absent by_token al l d m z nl sw st = absent-input al l d m z nl sw st
  default-absent (by_rule r) al l d m z nl sw st = absent-end (pairs l al) m sw st
  default-absent (by_operation op) al l d m z nl sw st = absent-end (pairs l al) m sw st
  default-absent (by_operation_with op u) al l d m z nl sw st = absent-end (pairs l al) m sw st

  default-of : (ot : Other) (s : Selector) (al : Alts) {r : Acts} {k : List Context} (m : ℕ) → ((b : Acts) → ot ≡ otherwise b → In b (in_otherwise r ∷ k) m) → (c : Bool) (out x l d : ℕ) → m + 3 ≡ l + d → OkOther prog ot v c → NeedsLabel s ot al
      → (c ≡ true → x ≡ m + size_other ot (size_absent s) + out)
      → Seg W m (code_other mk ot out (absent_words s (first_label al) d)) → Seg T (base + m) (code_other start ot out (absent_words s (first_label al) d))
      → (past_other ot ≡ true → H r k (m + size_other ot (size_absent s))) → (exits_other ot ≡ true → X k x) → Default (by_tokens s) m (pairs l al)
  unfolding code_other size_other past_other exits_other OkOther
  default-of absent s al m mem c out x l d z ok nl hx sw st hg hh = default-absent s al l d m z nl sw st
  default-of (otherwise b) s al {r} {k} m mem c out x l d z ok nl hx sw st hg hh =
      default-place (place (here {q = b} {k = in_otherwise r ∷ k} {x = x} {o = m} c out (mem b refl) ok hx sw st (λ g. then-otherwise (hg g)) (λ g. exit-otherwise (hh g))))

  default-to : {i : Bool} {d d' : ℕ} {ps : List Entry} → Default i d ps → d ≡ d' → Default i d' ps
  default-to {i} {ps = ps} h p = subst (λ (z : ℕ). Default i z ps) p h

  pub branch : {s : Selector} {al : Alts} {ot : Other} {r : Acts} {k : List Context} {o : ℕ} → Before prog T W start mk base rule s al ot r k o
      → Branch (by_tokens s) (o + 2 + size_alts al)
  unfolding choice_words rest_of
  branch {s} (before {al = al} {ot = ot} {r = r} {k = k} {x = x} {o = o} o₀ c out iw oe oa oo nl hx sw st hg hh) =
      let rest = 1 + 2 * count_labels al + size_other ot (size_absent s) in
      let d = size_alts al + (1 + 2 * count_labels al + 3) in
      let m = o + 2 + size_alts al + (1 + 2 * count_labels al) in
      let y = o + (2 + size_alts al + rest) in
      let aw = code_alts mk al out rest in
      let at₁ = code_alts start al out rest in
      let ow = code_other mk ot out (absent_words s (first_label al) d) in
      let ot₁ = code_other start ot out (absent_words s (first_label al) d) in
      let w₂ = seg-after 2 (choice_number s ∷ (size_alts al + 1) ∷ []) (aw ++ (count_labels al ∷ (table_words 1 al ++ ow))) refl sw in
      let t₂ = seg-at (seg-after 2 (choice_number s ∷ (size_alts al + 1) ∷ []) (at₁ ++ (count_labels al ∷ (table_words 1 al ++ ot₁))) refl st) (two base o) in
      let w₃ = seg-after (size_alts al) aw (count_labels al ∷ (table_words 1 al ++ ow)) (length-alts mk al out rest) w₂ in
      let t₃ = seg-after (size_alts al) at₁ (count_labels al ∷ (table_words 1 al ++ ot₁)) (length-alts start al out rest) t₂ in
      let w₄ = seg-after (1 + 2 * count_labels al) (count_labels al ∷ table_words 1 al) ow (omega (arith, length-table_words 1 al)) w₃ in
      let t₄ = seg-at (seg-after (1 + 2 * count_labels al) (count_labels al ∷ table_words 1 al) ot₁ (omega (arith, length-table_words 1 al)) t₃) (four base o (size_alts al) (1 + 2 * count_labels al)) in
      let df = default-of ot s al m (λ b₁ z₁. inside_otherwise (subst (λ (t : Other). In (choice s al t ▸ r) k o₀) z₁ iw) (omega (arith, oe))) c out x (o + 2) d (omega arith) oo nl (λ z. omega (arith, hx z)) w₄ t₄
      (λ g. here-to (hg (or₂ (past_some al) (past_other ot) g)) (omega arith)) (λ g. hh (or₂ (exits_some al) (exits_other ot) g)) in
      let gl = laid_table T al (base + (o + 2)) ot₁ t₃ in
      let z : base + (o + 2) + size_alts al ≡ base + (o + 2 + size_alts al) = omega arith in
      record {
        ps = pairs (o + 2) al;
        local = laid_table W al (o + 2) ow w₃;
        global = rw z at (rw (pairs-later base (o + 2) al) at gl);
        goes = alts-goes al (o + 2) (λ b₁ d₁ i₁. in_labelled iw i₁ (omega (arith, oe))) c out rest x y oa (λ z₁. omega (arith, hx z₁)) (omega arith) (seg-left aw (count_labels al ∷ (table_words 1 al ++ ow)) w₂)
            (seg-left at₁ (count_labels al ∷ (table_words 1 al ++ ot₁)) t₂) (λ g. hg (or₁ (past_some al) (past_other ot) g)) (λ g. hh (or₁ (exits_some al) (exits_other ot) g));
        default = default-to df (omega (arith, pairs-length (o + 2) al));
      }
    where
      two : (b o : ℕ) → b + o + 2 ≡ b + (o + 2)
      two b o = omega arith

      four : (b o n m : ℕ) → b + (o + 2) + n + m ≡ b + (o + 2 + n + m)
      four b o n m = omega arith

  -- Plain actions

  plain_ready : (a : Plain) (q : Acts) {k : List Context} (x o : ℕ) (c : Bool) (out : ℕ) → In (plain a ▸ q) k o → OkPlain prog a v c → Oks prog q v c
      → (c ≡ true → x ≡ o + sizes (plain a ▸ q) + out) → Seg W o (codes mk (plain a ▸ q) out) → Seg T (base + o) (codes start (plain a ▸ q) out)
      → (past_all (plain a ▸ q) ≡ true → E k (o + sizes (plain a ▸ q))) → (exits_all (plain a ▸ q) ≡ true → X k x) → Ready o
  unfolding OkPlain codes code plain_words sizes size size_plain past plain_past exits exits_all is_exit length_of lengths decode_word decode_two decode_one
  plain_ready (match t) q x o c out iw pk ok hx sw st hg hh =
      r-input (seg_two sw) (seg_two st) (place (rest-here (plain (match t)) c out iw ok hx sw st hg hh refl))
  plain_ready any q x o c out iw pk ok hx sw st hg hh =
      r-any (seg-one refl sw) (seg-one refl st) (place (rest-here (plain any) c out iw ok hx sw st hg hh refl))
  plain_ready (emit t) q x o c out iw pk ok hx sw st hg hh =
      r-write {e = output t} (seg_two sw) (seg_two st) (place (rest-here (plain (emit t)) c out iw ok hx sw st hg hh refl))
  plain_ready (error t) q x o c out iw pk ok hx sw st hg hh =
      r-write {e = signal t} (seg_two sw) (seg_two st) (place (rest-here (plain (error t)) c out iw ok hx sw st hg hh refl))
  plain_ready exit q x o c out iw pk ok hx sw st hg hh =
      r-jump {y = x} (seg-jump x (omega (arith, hx pk)) sw) (seg-jump (base + x) (omega (arith, hx pk)) st) (exit-place (hh (or₁ true (exits_all q) refl)))
  plain_ready (call r) q x o c out iw pk ok hx sw st hg hh =
      r-call (seg_two sw) (seg_two st) pk (place (rest-here (plain (call r)) c out iw ok hx sw st hg hh refl))
  plain_ready back q x o c out iw pk ok hx sw st hg hh = r-return pk (seg-return sw) (seg-return st)
  plain_ready (give u) q x o c out iw pk ok hx sw st hg hh =
      r-give pk.0 (seg_two sw) (seg_two st) (seg-return (seg-after 2 (10 ∷ u ∷ []) (9 ∷ codes mk q out) refl sw))
      (seg-return (seg-at (seg-after 2 (10 ∷ u ∷ []) (9 ∷ codes start q out) refl st) (two base o)))
    where
      two : (b o : ℕ) → b + o + 2 ≡ b + (o + 2)
      two b o = omega arith
  plain_ready (update op) q x o c out iw pk ok hx sw st hg hh =
      r-update (seg-operation pk.0 (omega (arith, pk.1)) sw ∙ is_update op pk.1) (seg-operation pk.0 (omega (arith, pk.1)) st ∙ is_update op pk.1)
      (place (rest-here (plain (update op)) c out iw ok hx sw st hg hh refl))
  plain_ready (update_with op u) q x o c out iw pk ok hx sw st hg hh =
      let w₂ = seg-after 2 (13 ∷ u ∷ []) (op ∷ codes mk q out) refl sw in
      let t₂ = seg-at (seg-after 2 (13 ∷ u ∷ []) (op ∷ codes start q out) refl st) (two base o) in
      r-update_with {op = op} (seg_two sw) (seg_two st)
      (seg-operation (omega (arith, pk.0)) (omega (arith, pk.1)) w₂ ∙ is_update_with op pk.0 pk.1)
      (seg-operation (omega (arith, pk.0)) (omega (arith, pk.1)) t₂ ∙ is_update_with op pk.0 pk.1)
      (place (here-to (rest-here (plain (update_with op u)) c out iw ok hx sw st hg hh refl) (three o)))
    where
      two : (b o : ℕ) → b + o + 2 ≡ b + (o + 2)
      two b o = omega arith

      three : (o : ℕ) → o + 3 ≡ o + 2 + 1
      three o = omega arith

  -- Choices

  before_of : (s : Selector) (al : Alts) (ot : Other) (q : Acts) {k : List Context} (x o : ℕ) (c : Bool) (out : ℕ) → In (choice s al ot ▸ q) k o → Ok prog (choice s al ot) v c → Oks prog q v c
      → (c ≡ true → x ≡ o + sizes (choice s al ot ▸ q) + out) → Seg W o (codes mk (choice s al ot ▸ q) out) → Seg T (base + o) (codes start (choice s al ot ▸ q) out)
      → (past_all (choice s al ot ▸ q) ≡ true → E k (o + sizes (choice s al ot ▸ q))) → (exits_all (choice s al ot ▸ q) ≡ true → X k x)
      → Before prog T W start mk base rule s al ot q k (o + size_selector s)
  unfolding Ok codes code sizes size past exits exits_all choice_words rest_of
  before_of s al ot q x o c out iw ak ok hx sw st hg hh =
      let n = sizes q + out in
      let cw = choice_words mk s al ot n in
      let ct = choice_words start s al ot n in
      let w₁ = seg-left (selector_words mk s ++ cw) (codes mk q out) sw in
      let t₁ = seg-left (selector_words start s ++ ct) (codes start q out) st in
      before {x = x} {o = o + size_selector s} o c n iw refl ak.1 ak.2 ak.3 (λ z. omega (arith, hx z))
      (seg-after (size_selector s) (selector_words mk s) cw (length-selector mk s) w₁)
      (seg-at (seg-after (size_selector s) (selector_words start s) ct (length-selector start s) t₁) (near base o (size_selector s)))
      (λ g. here-to (rest-here (choice s al ot) c out iw ok hx sw st hg hh g) (far o (size_selector s) (size_alts al) (1 + 2 * count_labels al + size_other ot (size_absent s))))
      (λ g. hh (or₁ (exits (choice s al ot)) (exits_all q) g))
    where
      near : (b o n : ℕ) → b + o + n ≡ b + (o + n)
      near b o n = omega arith

      far : (o n a r : ℕ) → o + (n + (2 + a + r)) ≡ o + n + (2 + a + r)
      far o n a r = omega arith

  choosing : {s : Selector} {al : Alts} {ot : Other} {q : Acts} {k : List Context} {o : ℕ} → by_tokens s ≡ false → Before prog T W start mk base rule s al ot q k o → C o
  choosing {s} {al} {ot} {q} {k} z b = record { by = s; no-token = z; alts = al; other = ot; rest = q; contexts = k; is = b }

  token-choice : {al : Alts} {ot : Other} {r : Acts} {k : List Context} {o : ℕ} → Before prog T W start mk base rule by_token al ot r k o → Ready o
  unfolding choice_words choice_number by_tokens length_of lengths decode_word decode_two
  token-choice {o = o} b = go b (branch b)
    where
      go : {al : Alts} {ot : Other} {r : Acts} {k : List Context} → Before prog T W start mk base rule by_token al ot r k o → Branch true (o + 2 + size_alts al) → Ready o
      go (before {al = al} {o = o} o₀ c out iw oe oa oo nl hx sw st hg hh) br =
          let e : o + 1 + (size_alts al + 1) ≡ o + 2 + size_alts al = omega arith in
          let f : base + o + 1 + (size_alts al + 1) ≡ base + (o + 2 + size_alts al) = omega arith in
          r-token (seg_two sw ∙ ap input_choice e) (seg_two st ∙ ap input_choice f) br

  choice-ready : (s : Selector) (al : Alts) (ot : Other) (q : Acts) {k : List Context} (x o : ℕ) (c : Bool) (out : ℕ) → In (choice s al ot ▸ q) k o → Ok prog (choice s al ot) v c → Oks prog q v c
      → (c ≡ true → x ≡ o + sizes (choice s al ot ▸ q) + out) → Seg W o (codes mk (choice s al ot ▸ q) out) → Seg T (base + o) (codes start (choice s al ot ▸ q) out)
      → (past_all (choice s al ot ▸ q) ≡ true → E k (o + sizes (choice s al ot ▸ q))) → (exits_all (choice s al ot ▸ q) ≡ true → X k x)
      → Before prog T W start mk base rule s al ot q k (o + size_selector s) → Ready o
  unfolding Ok OkSelector codes code selector_words size_selector by_tokens length_of lengths decode_word decode_two
  choice-ready by_token al ot q x o c out iw ak ok hx sw st hg hh b = ready-to (token-choice b) (zero_more o)
    where
      zero_more : (o : ℕ) → o + 0 ≡ o
      zero_more o = omega arith
  choice-ready (by_rule r) al ot q x o c out iw ak ok hx sw st hg hh b = r-rule (seg_two sw) (seg_two st) ak.0 (choosing refl b)
  choice-ready (by_operation op) al ot q x o c out iw ak ok hx sw st hg hh b =
      let k = ak.0 in
      r-operation {op = op} (seg-operation (omega (arith, k.0)) (omega (arith, k.1)) sw ∙ is-choose op k.0 k.1)
      (seg-operation (omega (arith, k.0)) (omega (arith, k.1)) st ∙ is-choose op k.0 k.1) (choosing refl b)
  choice-ready (by_operation_with op u) al ot q {k} x o c out iw ak ok hx sw st hg hh b =
      let i = ak.0 in
      let w₂ = seg-after 2 (13 ∷ u ∷ []) _ refl sw in
      let t₂ = seg-at (seg-after 2 (13 ∷ u ∷ []) _ refl st) (two base o) in
      r-operation_with {op = op} (seg_two sw) (seg_two st) (seg-operation (omega (arith, i.0)) i.1 w₂ ∙ is-choose_with op i.0)
      (seg-operation (omega (arith, i.0)) i.1 t₂ ∙ is-choose_with op i.0) (subst C (three o) (choosing refl b))
    where
      two : (b o : ℕ) → b + o + 2 ≡ b + (o + 2)
      two b o = omega arith

      three : (o : ℕ) → o + 3 ≡ o + 2 + 1
      three o = omega arith

  -- Any actions: into cycles and out of otherwise no instruction is needed

  zero_more : (o : ℕ) → o + 0 ≡ o
  zero_more o = omega arith

  past-it : (o n : ℕ) → o + (n + 2) ≡ o + n + 2
  past-it o n = omega arith

  near : (b o n : ℕ) → b + o + n ≡ b + (o + n)
  near b o n = omega arith

  mutual
    unfolding Oks past_all sizes code

    act-ready : (a : Act) (q : Acts) (k : List Context) (x o : ℕ) (c : Bool) (out : ℕ) → In (a ▸ q) k o → Ok prog a v c → Oks prog q v c → (c ≡ true → x ≡ o + sizes (a ▸ q) + out)
        → Seg W o (codes mk (a ▸ q) out) → Seg T (base + o) (codes start (a ▸ q) out) → (past_all (a ▸ q) ≡ true → E k (o + sizes (a ▸ q))) → (exits_all (a ▸ q) ≡ true → X k x)
        → Ready o
    act-ready (plain a) q k x o c out iw ak ok hx sw st hg hh = plain_ready a q x o c out iw ak ok hx sw st hg hh
    act-ready (choice s al ot) q k x o c out iw ak ok hx sw st hg hh =
        choice-ready s al ot q x o c out iw ak ok hx sw st hg hh (before_of s al ot q x o c out iw ak ok hx sw st hg hh)
    act-ready (cycle b) q k x o c out iw ak ok hx sw st hg hh =
        let cw = codes mk b 2 ++ (2 ∷ (sizes b + 1) ∷ []) in
        let ct = codes start b 2 ++ (2 ∷ (sizes b + 1) ∷ []) in
        let w₁ : Seg W o cw = seg-left cw (codes mk q out) sw in
        let t₁ : Seg T (base + o) ct = seg-left ct (codes start q out) st in
        let away : exits_all b ≡ true → X (in_cycle b q ∷ k) (o + sizes b + 2) = λ g. exit-cycle (here-to (rest-here (cycle b) c out iw ok hx sw st hg hh g) (past-it o (sizes b))) in
        let ends : E (in_cycle b q ∷ k) (o + sizes b) = then-cycle (inside_cycle iw) ak refl w₁ t₁ away in
        let own : H b (in_cycle b q ∷ k) o = here {x = o + sizes b + 2} {o = o} true 2 (inside_cycle iw) ak (λ _. refl) (seg-left (codes mk b 2) (2 ∷ (sizes b + 1) ∷ []) w₁)
        (seg-left (codes start b 2) (2 ∷ (sizes b + 1) ∷ []) t₁) (λ _. ends) away in
        acts-ready b (in_cycle b q ∷ k) (o + sizes b + 2) o true 2 (inside_cycle iw) ak (λ _. refl) (seg-left (codes mk b 2) (2 ∷ (sizes b + 1) ∷ []) w₁)
        (seg-left (codes start b 2) (2 ∷ (sizes b + 1) ∷ []) t₁) (λ _. ends) away
        (λ _. r-jump {y = o} (seg-jump_back o (omega arith) (seg-after (sizes b) (codes mk b 2) (2 ∷ (sizes b + 1) ∷ []) (length-codes mk b 2) w₁))
        (seg-jump_back (base + o) (omega arith) (seg-at (seg-after (sizes b) (codes start b 2) (2 ∷ (sizes b + 1) ∷ []) (length-codes start b 2) t₁) (near base o (sizes b))))
        (place own))

    acts-ready : (q : Acts) (k : List Context) (x o : ℕ) (c : Bool) (out : ℕ) → In q k o → Oks prog q v c → (c ≡ true → x ≡ o + sizes q + out)
        → Seg W o (codes mk q out) → Seg T (base + o) (codes start q out) → (past_all q ≡ true → E k (o + sizes q)) → (exits_all q ≡ true → X k x)
        → (past_all q ≡ true → Ready (o + sizes q)) → Ready o
    acts-ready done k x o c out iw ok hx sw st hg hh next = ready-to (next refl) (zero_more o)
    acts-ready (a ▸ q) k x o c out iw ok hx sw st hg hh next = act-ready a q k x o c out iw ok.0 ok.1 hx sw st hg hh

  exit-to : {k : List Context} {x x' : ℕ} → X k x → x ≡ x' → X k x'
  exit-to {k} h p = subst (λ (i : ℕ). X k i) p h

  then_ready : (k : List Context) {e : ℕ} → E k e → Ready e
  then_ready [] (then_rule z sw st) = r-return z (seg-return sw) (seg-return st)
  then_ready (in_cycle b r ∷ k) (then-cycle {l = l} {e = e} iw ok d sw st hh) =
      let own : H b (in_cycle b r ∷ k) l = here {x = e + 2} {o = l} true 2 iw ok (λ _. omega arith) (seg-left (codes mk b 2) (2 ∷ (sizes b + 1) ∷ []) sw)
      (seg-left (codes start b 2) (2 ∷ (sizes b + 1) ∷ []) st) (λ _. then_to (then-cycle iw ok refl sw st (λ g. exit-to (hh g) (omega arith))) refl) hh in
      r-jump {y = l} (seg-jump_back l (omega arith) (seg-at (seg-after (sizes b) (codes mk b 2) (2 ∷ (sizes b + 1) ∷ []) (length-codes mk b 2) sw) d))
      (seg-jump_back (base + l) (omega arith) (seg-at (seg-after (sizes b) (codes start b 2) (2 ∷ (sizes b + 1) ∷ []) (length-codes start b 2) st) (near base l (sizes b) ∙ ap (λ (i : ℕ). base + i) d)))
      (place own)
  then_ready (in_alternative r ∷ k) (then-alternative {e = e} {d = d} {y = y} p sw st h) =
      r-jump {y = y} (seg-jump y p sw) (seg-jump (base + y) (omega arith) st) (place h)
  then_ready (in_otherwise r ∷ k) (then-otherwise (here {x = x} {o = o} c out iw ok hx sw st hg hh)) =
      acts-ready r k x o c out iw ok hx sw st hg hh (λ g. then_ready k (hg g))

  pub ready : {o : ℕ} → P o → Ready o
  ready p = go p.is
    where
      go : {q : Acts} {k : List Context} {o : ℕ} → H q k o → Ready o
      go (here {q = q} {k = k} {x = x} {o = o} c out iw ok hx sw st hg hh) = acts-ready q k x o c out iw ok hx sw st hg hh (λ g. then_ready k (hg g))

  -- at a choice by the result
  pub record ReadyChoice (o : ℕ) : Type 0 where
    pub table_at : ℕ
    pub local : decode W o ≡ by_result table_at
    pub global : decode T (base + o) ≡ by_result (base + table_at)
    pub branches : Branch false table_at

  pub ready-choice : {o : ℕ} → C o → ReadyChoice o
  unfolding by_tokens choice_number choice_words length_of lengths decode_word decode_two
  ready-choice c = go c.no-token c.is
    where
      number : (s : Selector) → by_tokens s ≡ false → choice_number s ≡ 11
      number by_token e = never (sym e)
      number (by_rule r) e = refl
      number (by_operation op) e = refl
      number (by_operation_with op u) e = refl

      go : {s : Selector} {al : Alts} {ot : Other} {r : Acts} {k : List Context} {o : ℕ} → by_tokens s ≡ false → Before prog T W start mk base rule s al ot r k o → ReadyChoice o
      go {s} z (before {al = al} {ot = ot} {x = x} {o = o} o₀ c out iw oe oa oo nl hx sw st hg hh) =
          let b = branch {s = s} (before {al = al} {ot = ot} {x = x} {o = o} o₀ c out iw oe oa oo nl hx sw st hg hh) in
          let e : o + 1 + (size_alts al + 1) ≡ o + 2 + size_alts al = omega arith in
          let f : base + o + 1 + (size_alts al + 1) ≡ base + (o + 2 + size_alts al) = omega arith in
          record {
            table_at = o + 2 + size_alts al;
            local = seg_two (rw (number s z) at sw) ∙ ap by_result e;
            global = seg_two (rw (number s z) at st) ∙ ap by_result f;
            branches = rw z at b;
          }

  -- By the words of the rule alone: what the instruction at a place leads to, and what stands in the table

  pub data Called (y m : ℕ) : Type 0 where
    called : {r : ℕ} → y ≡ mk r → Calls prog r false → P m → Called y m
    called-choice : {r : ℕ} → y ≡ mk r → Calls prog r true → C m → Called y m

  unfoldable pub NextOp : Instruction → ℕ → Type 0
  NextOp invalid m = ⊥
  NextOp (jump y) m = ⊥
  NextOp (input t) m = ⊥
  NextOp input_any m = ⊥
  NextOp (write e) m = ⊥
  NextOp (input_choice c) m = ⊥
  NextOp (call_rule y) m = ⊥
  NextOp return m = ⊥
  NextOp (set_result u) m = ⊥
  NextOp (by_result c) m = ⊥
  NextOp end_choice m = ⊥
  NextOp (set_parameter u) m = ⊥
  NextOp (updates op) m = ⊥
  NextOp (updates_with op) m = P (m + 1)
  NextOp (choose op) m = ⊥
  NextOp (choose_with op) m = C (m + 1)

  unfoldable pub Next : Instruction → ℕ → Type 0
  Next invalid o = ⊥
  Next (jump y) o = P y
  Next (input t) o = P (o + 2)
  Next input_any o = P (o + 1)
  Next (write e) o = P (o + 2)
  Next (input_choice c) o = Branch true c
  Next (call_rule y) o = Called y (o + 2)
  Next return o = Unit {0}
  Next (set_result u) o = Unit {0}
  Next (by_result c) o = ⊥
  Next end_choice o = ⊥
  Next (set_parameter u) o = NextOp (decode W (o + 2)) (o + 2)
  Next (updates op) o = P (o + 1)
  Next (updates_with op) o = ⊥
  Next (choose op) o = C (o + 1)
  Next (choose_with op) o = ⊥

  next : {o : ℕ} → Ready o → Next (decode W o) o
  unfolding Next NextOp
  next (r-jump d t p) = rw d p
  next (r-input d t p) = rw d p
  next (r-any d t p) = rw d p
  next (r-write d t p) = rw d p
  next (r-call d t c p) = rw d (called refl c p)
  next (r-rule d t c p) = rw d (called-choice refl c p)
  next (r-return z d t) = rw d tt
  next (r-give z d t d₂ t₂) = rw d tt
  next (r-update d t p) = rw d p
  next (r-update_with d t d₂ t₂ p) = rw (d, d₂) p
  next (r-token d t b) = rw d b
  next (r-operation d t p) = rw d p
  next (r-operation_with d t d₂ t₂ p) = rw (d, d₂) p

  pub leads-to : {o : ℕ} → P o → (i : Instruction) → decode W o ≡ i → Next i o
  leads-to p i e = rw e at (next (ready p))

  -- the instructions that a walk can stand behind, or that have operands of no rule and no place
  unfoldable pub Stands : Instruction → ℕ → Type 0
  Stands invalid o = Unit {0}
  Stands (jump y) o = decode T (base + o) ≡ jump (base + y)
  Stands (input t) o = decode T (base + o) ≡ input t
  Stands input_any o = Unit {0}
  Stands (write e) o = Unit {0}
  Stands (input_choice c) o = decode T (base + o) ≡ input_choice (base + c)
  Stands (call_rule y) o = Unit {0}
  Stands return o = Unit {0}
  Stands (set_result u) o = decode T (base + o) ≡ set_result u
  Stands (by_result c) o = Unit {0}
  Stands end_choice o = Unit {0}
  Stands (set_parameter u) o = decode T (base + o) ≡ set_parameter u
  Stands (updates op) o = Unit {0}
  Stands (updates_with op) o = Unit {0}
  Stands (choose op) o = Unit {0}
  Stands (choose_with op) o = Unit {0}

  standing : {o : ℕ} → Ready o → Stands (decode W o) o
  unfolding Stands
  standing (r-jump d t p) = rw d t
  standing (r-input d t p) = rw d t
  standing (r-any d t p) = rw d tt
  standing (r-write d t p) = rw d tt
  standing (r-call d t c p) = rw d tt
  standing (r-rule d t c p) = rw d tt
  standing (r-return z d t) = rw d tt
  standing (r-give z d t d₂ t₂) = rw d t
  standing (r-update d t p) = rw d tt
  standing (r-update_with d t d₂ t₂ p) = rw d t
  standing (r-token d t b) = rw d t
  standing (r-operation d t p) = rw d tt
  standing (r-operation_with d t d₂ t₂ p) = rw d t

  pub stands_at : {o : ℕ} → P o → (i : Instruction) → decode W o ≡ i → Stands i o
  stands_at p i e = rw e at (standing (ready p))

  pub place-good : {o : ℕ} → P o → good (decode T (base + o)) ≡ true
  place-good p = at-good T start prog (to_at prog T W start mk base rule p.is)

  pub choice-good : {o : ℕ} → C o → good (decode T (base + o)) ≡ true
  choice-good c = at-choice-good T start prog (to-choice prog T W start mk base rule c.no-token c.is)

  -- a required token at d, and behind it a jump back to the place y: the default of an input choice without otherwise, and every place with these words
  pub record Mends (d u y : ℕ) : Type 0 where
    pub requires-it : decode T (base + d) ≡ input u
    pub goes_back : decode T (base + (d + 2)) ≡ jump (base + y)
    pub first : P y

  place-mends : {d u y : ℕ} → P d → decode W d ≡ input u → decode W (d + 2) ≡ jump y → Mends d u y
  unfolding Next Stands
  place-mends {d} {u} {y} p e f =
      let q : P (d + 2) = leads-to p (input u) e in
      record { requires-it = stands_at p (input u) e; goes_back = stands_at q (jump y) f; first = leads-to q (jump y) f }

  same-token : {u v : ℕ} → input u ≡ input v → u ≡ v
  same-token e = cc

  same_target : {u v : ℕ} → jump u ≡ jump v → u ≡ v
  same_target e = cc

  pub default-mends : {d u y : ℕ} {ps : List Entry} → Default true d ps → ((v z : ℕ) → lookup v ps ≡ some z → P z) → decode W d ≡ input u → decode W (d + 2) ≡ jump y → Mends d u y
  unfolding lookup
  default-mends (default-place p) g e f = place-mends p e f
  default-mends {d} {u} {y} (default-input {u = v} {a = z} dw dt dw₂ dt₂) g e f =
      let x : v ≡ u = same-token (sym dw ∙ e) in
      let w : z ≡ y = same_target (sym dw₂ ∙ f) in
      record { requires-it = dt ∙ ap input x; goes_back = dt₂ ∙ ap (λ (k : ℕ). jump (base + k)) w; first = subst P w (g v z (rw (eq-eqb v v refl))) }
