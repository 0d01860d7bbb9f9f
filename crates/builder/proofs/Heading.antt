-- A rule's head: its name and its type, one law for each return.
use mathlib.Core.Bool.{Bool, true, false, ◌&&◌}
use mathlib.Core.List.{List}
use mathlib.Core.Option.{Option, none, some}
use mathlib.Core.Path.{◌≡◌, refl, sym, ap, ◌∙◌, subst}
use Prim.Native.Nat.{ℕ, ◌+◌, ◌≤◌}
use lib.Dec.{eqb, ltb}
use lib.ListN.{length, take, drop, length-take, length-drop}
use native.Mathlib.Omega.{arith}
use borrow.Author.Tests.{eq-eqb, ne_eqb, le-ltb}
use Rattle.std.specs.Prelude.{if◌then◌else◌, Some, None}
use Rattle.base.specs.Common.{given}
use Rattle.builder.specs.Heads.{HeadTold, taken_before, head_of, HeadEnd, headed, misheaded, TypeDone, HeadDone}
use Rattle.declarations.specs.Decls.{Decl, index_of, elsewhere_in, type_in, optional_in}
use Rattle.grammar.specs.Derived.{Took, GivesIn, gives_none, gives_some}
use Rattle.names.specs.Known.{Checked, good, wrong, ◌>>=◌, fault_if}
use Rattle.places.proofs.Heres.{Same, took-kind, took-here, not-here}
use Rattle.scanner.specs.Next.{Next, as_word}
use Rattle.scanner.specs.declared.WordAt.{WordAt}
use Rattle.symbols.proofs.Numbered.{Numbered, found, missing}
use Rattle.symbols.proofs.Searches.{answer-some, answer-none}
use Rattle.symbols.specs.Rows.{answer_of, held, word_of}
use Rattle.words.specs.Words.{Word, words_at}

pub word-length : {text : List ℕ} {at : ℕ} {w : WordAt} → Next text at w → at ≤ length text → length (as_word text w).text ≡ w.len
word-length h q = simp (length-take, length-drop) (omega (arith, h.inside q))

-- a name that an operation has
pub operation-taken : (ds : List Decl) (i : ℕ) (w : List ℕ) → true ≡ given (index_of 6 w 0 ds) → true ≡ taken_before ds i w
unfolding taken_before
operation-taken ds i w e = rw (sym e) refl

-- one that none has: a rule's, or no declaration's
pub rule-taken : (ds : List Decl) (i : ℕ) (w : List ℕ) {s : ℕ} → false ≡ given (index_of 6 w 0 ds) → Some s ≡ answer_of (index_of 7 w 0 ds) → ltb s i ≡ taken_before ds i w
unfolding taken_before
rule-taken ds i w e f = rw (sym e, answer-some (index_of 7 w 0 ds) f) refl

pub rule_free : (ds : List Decl) (i : ℕ) (w : List ℕ) → i ≤ 640 → false ≡ given (index_of 6 w 0 ds) → None ≡ answer_of (index_of 7 w 0 ds) → false ≡ taken_before ds i w
unfolding taken_before
rule_free ds i w h e f = rw (sym e, answer-none (index_of 7 w 0 ds) f) (sym (le-ltb 65536 i (omega (arith, h))))

-- a fault is at the word
abbrev Owns : {A : Type 0} → Word → Checked A → Type 0
Owns w (good a) = Unit {0}
Owns w (wrong n u) = u ≡ w

type-owns : (ds before : List Decl) (w : Word) → Owns w (type_in ds before w)
unfolding type_in
type-owns ds before w = go (index_of 5 w.text 0 before)
  where
    pick : (b : Bool) → Owns {A = ℕ} w (if b then wrong 3 w else wrong (elsewhere_in ds w.text) w)
    pick true = refl
    pick false = refl

    go : (o : Option ℕ) → Owns {A = ℕ} w (elim o [ some i ↦ good (8 + i) | none ↦ if given (index_of 5 w.text 0 ds) then wrong 3 w else wrong (elsewhere_in ds w.text) w ])
    go (some i) = tt
    go none = pick (given (index_of 5 w.text 0 ds))

-- The type

pub type-none : {text rows : List ℕ} {n at : ℕ} {h : HeadTold} {g : WordAt}
    → at ≤ length text → Next text at g → (g.kind ≡ 256 → ⊥) → h.fault ≡ 0 → h.at ≡ g.next → h.class ≡ 0 → TypeDone text rows n at h
unfolding optional_in
type-none {text} {rows} {n} {at} {h} {g} inn N k f a e = record { high = λ _. omega (arith, a, N.high inn); done = go }
  where
    go : (x : Option Word) (colon : Word) (ws₁ ws : List Word) → GivesIn (words_at text at) ws₁ x → Took 58 ws₁ colon ws → HeadEnd text ws h (optional_in (held text rows n) (held text rows n) x)
    go none colon ws₁ ws (gives_none _ q) t =
        headed f ((took-here text at 58 g colon ws (omega arith) N (subst (λ l. Took 58 l colon ws) q t)).behind ∙ ap (words_at text) (sym a)) e
    go (some v) colon ws₁ ws (gives_some {sign = s} {ws₁ = ws₂} t _) u = absurd (k (took-kind text at 256 g s ws₂ N t))

looks-fail : {text : List ℕ} {ws : List Word} {h : HeadTold} {f v : ℕ} (w : Word) (m : Checked ℕ) → Numbered f v m → Owns w m → (f ≡ 0 → ⊥) → h.fault ≡ f → h.at ≡ w.start → h.len ≡ length w.text
    → HeadEnd text ws h m
looks-fail w (good a) (found e _) o z e₁ e₂ e₃ = absurd (z e)
looks-fail w (wrong n u) (missing e nz) o z e₁ e₂ e₃ = misheaded (e₁ ∙ e) nz (e₂ ∙ ap (λ (x : Word). x.start) (sym o)) (e₃ ∙ ap (λ (x : Word). length x.text) (sym o))

looks-more : {text : List ℕ} {ws : List Word} {h : HeadTold} {f v : ℕ} (m : Checked ℕ) → Numbered f v m → f ≡ 0 → h.fault ≡ 0 → ws ≡ words_at text h.at → h.class ≡ v → HeadEnd text ws h m
looks-more (good a) (found _ e) z e₁ e₂ e₃ = headed e₁ e₂ (e₃ ∙ e)
looks-more (wrong n u) (missing e nz) z e₁ e₂ e₃ = absurd (nz (sym e ∙ z))

pub type-fail : {text rows : List ℕ} {n at f v : ℕ} {h : HeadTold} {g w : WordAt}
    → at ≤ length text → Next text at g → g.kind ≡ 256 → Next text g.next w
    → ((kind : ℕ) → Numbered f v (type_in (held text rows n) (held text rows n) (word_of text kind w.start w.len))) → (f ≡ 0 → ⊥)
    → h.fault ≡ f → h.at ≡ w.start → h.len ≡ w.len → TypeDone text rows n at h
unfolding optional_in
type-fail {text} {rows} {n} {at} {f} {v} {h} {g} {w} inn N k N₂ L z e₁ e₂ e₃ = record { high = λ e. absurd (z (sym e₁ ∙ e)); done = go }
  where
    go : (x : Option Word) (colon : Word) (ws₁ ws : List Word) → GivesIn (words_at text at) ws₁ x → Took 58 ws₁ colon ws → HeadEnd text ws h (optional_in (held text rows n) (held text rows n) x)
    go none colon ws₁ ws (gives_none q _) t = absurd (not-here text at 256 g N q k)
    go (some x) colon ws₁ ws (gives_some {sign = s} {ws₁ = ws₂} t u) _ =
        let a : Same text g s ws₂ = took-here text at 256 g s ws₂ (omega arith) N t in
        let b : Same text w x ws₁ = took-here text g.next 257 w x ws₁ (omega arith) N₂ (subst (λ l. Took 257 l x ws₁) a.behind u) in
        subst (λ y. HeadEnd text ws h (type_in (held text rows n) (held text rows n) y)) (sym b.word)
        (looks-fail (as_word text w) (type_in (held text rows n) (held text rows n) (as_word text w)) (L w.kind) (type-owns (held text rows n) (held text rows n) (as_word text w)) z e₁ e₂
        (e₃ ∙ sym (word-length N₂ (N.high inn))))

pub type-more : {text rows : List ℕ} {n at f v : ℕ} {h : HeadTold} {g w d : WordAt}
    → at ≤ length text → Next text at g → g.kind ≡ 256 → Next text g.next w
    → ((kind : ℕ) → Numbered f v (type_in (held text rows n) (held text rows n) (word_of text kind w.start w.len))) → f ≡ 0
    → Next text w.next d → h.fault ≡ 0 → h.at ≡ d.next → h.class ≡ v → TypeDone text rows n at h
unfolding optional_in
type-more {text} {rows} {n} {at} {f} {v} {h} {g} {w} {d} inn N k N₂ L z N₃ e₁ e₂ e₃ =
    record { high = λ e. omega (arith, e₂, N₃.high (N₂.high (N.high inn))); done = go }
  where
    go : (x : Option Word) (colon : Word) (ws₁ ws : List Word) → GivesIn (words_at text at) ws₁ x → Took 58 ws₁ colon ws → HeadEnd text ws h (optional_in (held text rows n) (held text rows n) x)
    go none colon ws₁ ws (gives_none q _) t = absurd (not-here text at 256 g N q k)
    go (some x) colon ws₁ ws (gives_some {sign = s} {ws₁ = ws₂} t u) y =
        let a : Same text g s ws₂ = took-here text at 256 g s ws₂ (omega arith) N t in
        let b : Same text w x ws₁ = took-here text g.next 257 w x ws₁ (omega arith) N₂ (subst (λ l. Took 257 l x ws₁) a.behind u) in
        subst (λ y. HeadEnd text ws h (type_in (held text rows n) (held text rows n) y)) (sym b.word)
        (looks-more (type_in (held text rows n) (held text rows n) (as_word text w)) (L w.kind) z e₁
        ((took-here text w.next 58 d colon ws (omega arith) N₃ (subst (λ l. Took 58 l colon ws) b.behind y)).behind ∙ ap (words_at text) (sym e₂)) e₃)

-- The name

pub gives-kind : {text : List ℕ} {at : ℕ} {g : WordAt} {ws : List Word} (x : Option Word) → Next text at g → GivesIn (words_at text at) ws x → given x ≡ eqb g.kind 256
gives-kind {text} {at} {g} none N (gives_none q _) = sym (ne_eqb g.kind 256 (λ e. not-here text at 256 g N q e))
gives-kind {text} {at} {g} (some v) N (gives_some {sign = s} {ws₁ = ws₁} t _) = sym (eq-eqb g.kind 256 (took-kind text at 256 g s ws₁ N t))

fault-yes : {text : List ℕ} {ws : List Word} {h : HeadTold} (b : Bool) (n : ℕ) (w : Word) (k : Unit {0} → Checked ℕ)
    → b ≡ true → h.fault ≡ n → (n ≡ 0 → ⊥) → h.at ≡ w.start → h.len ≡ length w.text → HeadEnd text ws h (◌>>=◌ (fault_if b n w) k)
fault-yes {text} {ws} {h} b n w k e e₁ nz e₂ e₃ = subst (λ t. HeadEnd text ws h (◌>>=◌ (fault_if t n w) k)) (sym e) (misheaded e₁ nz e₂ e₃)

fault-no : {text : List ℕ} {ws : List Word} {h : HeadTold} (b : Bool) (n : ℕ) (w : Word) (k : Unit {0} → Checked ℕ) → b ≡ false → HeadEnd text ws h (k tt) → HeadEnd text ws h (◌>>=◌ (fault_if b n w) k)
fault-no {text} {ws} {h} b n w k e q = subst (λ t. HeadEnd text ws h (◌>>=◌ (fault_if t n w) k)) (sym e) q

pub head-taken : {text rows : List ℕ} {n first k at : ℕ} {h : HeadTold} {w : WordAt}
    → at ≤ length text → Next text at w → taken_before (held text rows n) (first + k) (take w.len (drop w.start text)) ≡ true
    → h.fault ≡ 4 → h.at ≡ w.start → h.len ≡ w.len → HeadDone text rows n first k at h
unfolding head_of
head-taken {text} {rows} {n} {first} {k} {at} {h} {w} inn N t e₁ e₂ e₃ = record {
  high = λ e. absurd (omega (arith, e, e₁));
  done = λ r colon ws₁ ws₂ ws q g u.
      let s : Same text w r.rule ws₁ = took-here text at 257 w r.rule ws₁ (omega arith) N q in
      fault-yes (taken_before (held text rows n) (first + k) r.rule.text) 4 r.rule _
      (ap (λ (v : Word). taken_before (held text rows n) (first + k) v.text) s.word ∙ t) e₁ (λ z. omega (arith, z)) (e₂ ∙ ap (λ (v : Word). v.start) (sym s.word))
      (e₃ ∙ sym (word-length N inn) ∙ ap (λ (v : Word). length v.text) (sym s.word));
}

pub head_first : {text rows : List ℕ} {n first k at : ℕ} {h : HeadTold} {w g : WordAt}
    → at ≤ length text → Next text at w → taken_before (held text rows n) (first + k) (take w.len (drop w.start text)) ≡ false
    → Next text w.next g → (eqb k 0 && eqb g.kind 256) ≡ true
    → h.fault ≡ 5 → h.at ≡ w.start → h.len ≡ w.len → HeadDone text rows n first k at h
unfolding head_of
head_first {text} {rows} {n} {first} {k} {at} {h} {w} {g} inn N t N₂ b e₁ e₂ e₃ = record {
  high = λ e. absurd (omega (arith, e, e₁));
  done = λ r colon ws₁ ws₂ ws q d u.
      let s : Same text w r.rule ws₁ = took-here text at 257 w r.rule ws₁ (omega arith) N q in
      fault-no (taken_before (held text rows n) (first + k) r.rule.text) 4 r.rule _ (ap (λ (v : Word). taken_before (held text rows n) (first + k) v.text) s.word ∙ t)
      (fault-yes (eqb k 0 && given r.gives) 5 r.rule _
      (ap (λ x. eqb k 0 && x) (gives-kind r.gives N₂ (subst (λ l. GivesIn l ws₂ r.gives) s.behind d)) ∙ b) e₁ (λ z. omega (arith, z))
      (e₂ ∙ ap (λ (v : Word). v.start) (sym s.word)) (e₃ ∙ sym (word-length N inn) ∙ ap (λ (v : Word). length v.text) (sym s.word)));
}

pub head_more : {text rows : List ℕ} {n first k at : ℕ} {h : HeadTold} {w g : WordAt}
    → Next text at w → taken_before (held text rows n) (first + k) (take w.len (drop w.start text)) ≡ false
    → Next text w.next g → (eqb k 0 && eqb g.kind 256) ≡ false → TypeDone text rows n w.next h → HeadDone text rows n first k at h
unfolding head_of
head_more {text} {rows} {n} {first} {k} {at} {h} {w} {g} N t N₂ b T = record {
  high = T.high;
  done = λ r colon ws₁ ws₂ ws q d u.
      let s : Same text w r.rule ws₁ = took-here text at 257 w r.rule ws₁ (omega arith) N q in
      let d₂ : GivesIn (words_at text w.next) ws₂ r.gives = subst (λ l. GivesIn l ws₂ r.gives) s.behind d in
      fault-no (taken_before (held text rows n) (first + k) r.rule.text) 4 r.rule _ (ap (λ (v : Word). taken_before (held text rows n) (first + k) v.text) s.word ∙ t)
      (fault-no (eqb k 0 && given r.gives) 5 r.rule _ (ap (λ x. eqb k 0 && x) (gives-kind r.gives N₂ d₂) ∙ b) (T.done r.gives colon ws₂ ws d₂ u));
}
