-- A rule's words are written one behind the other.
use mathlib.Core.List.{List, [], ◌∷◌, append_assoc}
use mathlib.Core.Option.{Option, none, some}
use mathlib.Core.Path.{◌≡◌, refl, sym, ap, ◌∙◌, subst}
use native.Mathlib.Omega.{arith}
use Prim.Native.Nat.{ℕ, zero, suc, ◌≤◌}
use lib.ListN.{length}
use Rattle.cells.specs.Cells.{acts_cells}
use Rattle.grammar.specs.Derived.{Took, ActsIn, GivesIn, gives_none, gives_some, RuleIn, one_rule}
use Rattle.parts.specs.Form.{name_words, type_words, body_cells, rule_words}
use Rattle.parts.specs.Moved.{move_word, move_words, move_if, move_open}
use Rattle.parts.specs.Objects.{Aim, OpenRule, calls_all}
use Rattle.partwriter.proofs.Putting.{puts_then, puts-same}
use Rattle.partwriter.specs.Put.{Puts, back, name_here}
use Rattle.places.proofs.Heres.{Same, took-kind, took-here, not-here}
use Rattle.scanner.specs.Next.{Next, as_word}
use Rattle.scanner.specs.declared.WordAt.{WordAt}
use Rattle.syntax.specs.Written.{Rule}
use Rattle.words.specs.Words.{Word, words_at}
use Rattle.partrules.proofs.Calling.{body-calls}
use Rattle.partrules.specs.Calls.{calls_from, called}
use Rattle.partrules.specs.Marks.{mark_by, turn_from, turn_cells}
use Rattle.partrules.specs.Words.{head_words, rule_here, TypePut, HeadPut, RulePut}
use Rattle.partrules.specs.declared.Spot.{Spot}

-- the words of a name that the scanner found
name-here : (text : List ℕ) (w : WordAt) (v : Word) (moved : ℕ) → v ≡ as_word text w → name_here text w.start w.len moved ≡ name_words (move_word (back moved) v)
unfolding name_here name_words move_word
name-here text w v moved e = ap (λ (x : Word). name_words (move_word (back moved) x)) (sym e)

-- The type

pub type-absent : {text object object' : List ℕ} {at moved c : ℕ} {g : WordAt} {h : Spot} → at ≤ length text → Next text at g → (g.kind ≡ 256 → ⊥)
    → Puts object c (0 ∷ []) object' h.count → h.at ≡ g.next → TypePut text at moved object c object' h
unfolding type_words move_if
type-absent {text} {object} {object'} {at} {moved} {c} {g} {h} inn N k p e = record { low = omega (arith, e, N.onto); high = omega (arith, e, N.high inn); done = go }
  where
    go : (x : Option Word) (colon : Word) (ws₁ ws : List Word) → GivesIn (words_at text at) ws₁ x → Took 58 ws₁ colon ws
        → (ws ≡ words_at text h.at) × Puts object c (type_words (move_if (back moved) x)) object' h.count
    go none colon ws₁ ws (gives_none _ q) t = ((took-here text at 58 g colon ws (omega arith) N (subst (λ l. Took 58 l colon ws) q t)).behind ∙ ap (words_at text) (sym e), p)
    go (some v) colon ws₁ ws (gives_some {sign = s} {ws₁ = ws₂} t _) u = absurd (k (took-kind text at 256 g s ws₂ N t))

pub type-there : {text object object₁ object' : List ℕ} {at moved c c₁ : ℕ} {g w d : WordAt} {h : Spot} → at ≤ length text → Next text at g → g.kind ≡ 256 → Next text g.next w
    → Puts object c (1 ∷ []) object₁ c₁ → Puts object₁ c₁ (name_here text w.start w.len moved) object' h.count → Next text w.next d → h.at ≡ d.next
    → TypePut text at moved object c object' h
unfolding type_words move_if
type-there {text} {object} {object₁} {object'} {at} {moved} {c} {c₁} {g} {w} {d} {h} inn N k M p q D e =
    record { low = omega (arith, e, N.onto, M.onto, D.onto); high = omega (arith, e, D.high (M.high (N.high inn))); done = go }
  where
    go : (x : Option Word) (colon : Word) (ws₁ ws : List Word) → GivesIn (words_at text at) ws₁ x → Took 58 ws₁ colon ws
        → (ws ≡ words_at text h.at) × Puts object c (type_words (move_if (back moved) x)) object' h.count
    go none colon ws₁ ws (gives_none z _) t = absurd (not-here text at 256 g N z k)
    go (some v) colon ws₁ ws (gives_some {sign = s} {ws₁ = ws₂} t u) y =
        let a : Same text g s ws₂ = took-here text at 256 g s ws₂ (omega arith) N t in
        let b : Same text w v ws₁ = took-here text g.next 257 w v ws₁ (omega arith) M (subst (λ l. Took 257 l v ws₁) a.behind u) in (
          (took-here text w.next 58 d colon ws (omega arith) D (subst (λ l. Took 58 l colon ws) b.behind y)).behind ∙ ap (words_at text) (sym e),
          puts-same (ap (λ m. 1 ∷ m) (name-here text w v moved b.word)) (puts_then p q),
        )

-- The head

pub head-put : {text object object₁ object' : List ℕ} {at moved c c₁ : ℕ} {w : WordAt} {h : Spot} → Next text at w → Puts object c (name_here text w.start w.len moved) object₁ c₁
    → TypePut text w.next moved object₁ c₁ object' h → HeadPut text at moved object c object' h
unfolding head_words
head-put {text} {object} {object₁} {object'} {at} {moved} {c} {c₁} {w} {h} N p T = record { low = omega (arith, N.onto, T.low); high = T.high; done = go }
  where
    go : (r : Rule) (colon : Word) (ws₁ ws₂ ws : List Word) → Took 257 (words_at text at) r.rule ws₁ → GivesIn ws₁ ws₂ r.gives → Took 58 ws₂ colon ws
        → (ws ≡ words_at text h.at) × Puts object c (head_words moved r) object' h.count
    go r colon ws₁ ws₂ ws t g u =
        let a : Same text w r.rule ws₁ = took-here text at 257 w r.rule ws₁ (omega arith) N t in
        let x = T.done r.gives colon ws₂ ws (subst (λ l. GivesIn l ws₂ r.gives) a.behind g) u in
        (x.0, puts_then (puts-same (name-here text w r.rule moved a.word) p) x.1)

-- The whole

pub rule-put : {text object o₁ o₂ o₃ o₄ o₅ : List ℕ} {at moved first c m : ℕ} (cells : List ℕ) {h : Spot} {c₂ c₃ c₄ c₅ : ℕ} → HeadPut text at moved object c o₁ h → m ≡ length (calls_from (words_at text h.at))
    → Puts o₁ h.count (m ∷ []) o₂ c₂ → Puts o₂ c₂ (called moved (calls_from (words_at text h.at))) o₃ c₃ → Puts o₃ c₃ (length cells ∷ []) o₄ c₄
    → Puts o₄ c₄ (turn_cells (mark_by first) cells) o₅ c₅ → RulePut text at moved first cells object c o₅ c₅
unfolding rule_here
rule-put {text} {object} {o₁} {o₂} {o₃} {o₄} {o₅} {at} {moved} {first} {c} {m} cells {h} {c₂} {c₃} {c₄} {c₅} H e p q r s = record { done = go }
  where
    go : (x : Rule) (ws : List Word) → RuleIn (words_at text at) ws x → Puts object c (rule_here moved first cells x) o₅ c₅
    go x ws (one_rule {colon = colon} {ws₁ = ws₁} {ws₂ = ws₂} {ws₃ = ws₃} {ws₄ = ws₄} t g u a z) =
        let y = H.done x colon ws₁ ws₂ ws₃ t g u in
        let b : calls_from (words_at text h.at) ≡ calls_all x.body = body-calls (subst (λ k. ActsIn k ws₄ x.body) y.0 a) z in
        let many : m ≡ length (calls_all x.body) = e ∙ ap length b in
        puts_then y.1 (puts_then (puts-same (ap (λ k. k ∷ []) many) p) (puts_then (puts-same (ap (called moved) b) q) (puts_then r s)))

-- They are the words that an object has

turn-length : (to : ℕ → ℕ) (f left : ℕ) (cells : List ℕ) → length (turn_from to f left cells) ≡ length cells
unfolding turn_from
turn-length to f left [] = refl
turn-length to f zero (x ∷ cells) = ap suc (turn-length to x _ cells)
turn-length to f (suc left) (x ∷ cells) = ap suc (turn-length to f left cells)

moved_length : (f : ℕ → ℕ) (ws : List Word) → length (move_words f ws) ≡ length ws
unfolding move_words
moved_length f [] = refl
moved_length f (w ∷ ws) = ap suc (moved_length f ws)

turn-all : (to : ℕ → ℕ) (cells : List ℕ) → length (turn_cells to cells) ≡ length cells
unfolding turn_cells
turn-all to cells = turn-length to 0 0 cells

pub rule-words : (aims : List Aim) (first moved : ℕ) (x : Rule) (o : OpenRule) → o.name ≡ x.rule → o.gives ≡ x.gives → o.calls ≡ calls_all x.body
    → turn_cells (mark_by first) (acts_cells o.means.body []) ≡ body_cells aims first o.means.body
    → rule_here moved first (acts_cells o.means.body []) x ≡ rule_words aims first (move_open (back moved) o)
unfolding rule_here head_words rule_words move_open called
rule-words aims first moved x o a b d e =
    let cs = acts_cells o.means.body [] in
    let n : length cs ≡ length (body_cells aims first o.means.body) = sym (turn-all (mark_by first) cs) ∙ ap length e in
    let k : length (calls_all x.body) ≡ length (move_words (back moved) (calls_all x.body)) = sym (moved_length (back moved) (calls_all x.body)) in
    rw (a, b, d, e, n, ← k)
    (append_assoc (name_words (move_word (back moved) x.rule)) (type_words (move_if (back moved) x.gives)) _)
