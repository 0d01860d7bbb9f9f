-- Where the parts of a rule stand in the words: the names of its calls, its cells.
use mathlib.Core.List.{List, [], ◌∷◌, ◌++◌, append_assoc}
use mathlib.Core.Path.{◌≡◌, refl, sym, ap, ◌∙◌}
use native.Mathlib.Omega.{arith}
use Prim.Native.Nat.{ℕ, ◌+◌, ◌-◌, ◌<◌, ◌≤◌}
use lib.ListN.{length, get_or, take, drop, length-append, length-take, length-drop}
use lib.Seq.{get_or-drop, drop-drop, take-append_seam, drop-append_seam}
use Rattle.linkage.specs.Bodies.{IsBody, BodyAt}
use Rattle.linkage.specs.declared.Body.{Body}
use Rattle.linkage.specs.declared.Uses.{Uses}
use Rattle.linker.proofs.Placing.{letters-are}
use Rattle.linker.specs.Place.{letters, text_at, behind_name, texts_from, texts_end}
use Rattle.std.specs.Prelude as code
use Rattle.base.specs.Bools as bools
use Rattle.objects.proofs.Called.{gives-there}
use Rattle.objects.proofs.Looked.{name-at, ends-took, not-none}
use Rattle.objects.proofs.TakeLaws.{times-exact}
use Rattle.objects.proofs.Views.{name-exact, option-exact}
use Rattle.objects.specs.Places.{EndsAt, Ends}
use Rattle.objects.specs.Take.{Taken, took, missing, times}
use Rattle.objects.specs.View.{Name, RuleView, name_words, option_words, rule_words, all, a_name, an_option}
use Rattle.objects.specs.Whole.{texts_of}

-- Names

-- the name at a place is read by its length
pub text_is : (words : List ℕ) (p : ℕ) (n : Name) (k : List ℕ) → drop p words ≡ name_words n ++ k → text_at words p ≡ n.text
unfolding text_at name_words
text_is words p n k e =
    let x = name-at words p n k e in
    let h = x.there in
    let d : drop (p + 2) words ≡ n.text ++ k = sym (drop-drop 2 p words) ∙ ap (λ (ws : List ℕ). drop 2 ws) e in
    ap (λ i. text_of i) x.size ∙ letters-are words (p + 2) (length n.text) h ∙ ap (take (length n.text)) d ∙ take-append_seam n.text k
  where
    text_of : ℕ → List ℕ
    text_of i = letters words (p + 2) i

size_of : (words : List ℕ) (p : ℕ) (n : Name) → get_or words (p + 1) 0 ≡ length n.text → p + 2 + get_or words (p + 1) 0 ≡ p + length (name_words n)
unfolding name_words
size_of words p n e = omega (arith, e)

names_at : (words : List ℕ) (p : ℕ) (ns : List Name) (k : List ℕ) → drop p words ≡ all name_words ns ++ k
    → (texts_from words p (length ns) ≡ texts_of ns) × (texts_end words p (length ns) ≡ p + length (all name_words ns))
unfolding texts_from texts_end texts_of all behind_name
names_at words p [] k e = (refl, omega arith)
names_at words p (n ∷ ns) k e =
    let a : drop p words ≡ name_words n ++ (all name_words ns ++ k) = e ∙ append_assoc (name_words n) (all name_words ns) k in
    let x = name-at words p n (all name_words ns ++ k) a in
    let z : p + 2 + get_or words (p + 1) 0 ≡ p + length (name_words n) = size_of words p n x.size in
    let d : drop (p + 2 + get_or words (p + 1) 0) words ≡ all name_words ns ++ k =
    ap (λ i. drop i words) z ∙ sym (drop-drop (length (name_words n)) p words) ∙ ap (drop (length (name_words n))) a ∙ drop-append_seam (name_words n) (all name_words ns ++ k) in
    let ih = names_at words (p + 2 + get_or words (p + 1) 0) ns k d in
    let l = length-append (name_words n) (all name_words ns) in
    let y = ih.1 in
    (ap (λ t. t ∷ texts_from words (p + 2 + get_or words (p + 1) 0) (length ns)) (text_is words p n (all name_words ns ++ k) a) ∙ ap (λ ts. n.text ∷ ts) ih.0, omega (arith, y, z, l))

-- they end where the code says
pub names-end : (words : List ℕ) (p m r : ℕ) → Ends (times m a_name) words p (code.Some r) → p ≤ length words → r ≤ length words → texts_end words p m ≡ r
unfolding EndsAt
names-end words p m r x l h = go (times m a_name (drop p words)) refl x.is
  where
    go : (t : Taken (List Name)) → times m a_name (drop p words) ≡ t → EndsAt words t (code.Some r) → texts_end words p m ≡ r
    go (took ns rest) d e =
        let f = (times-exact name-exact m).forth (drop p words) ns rest d in
        let g = (names_at words p ns rest f.0).1 in
        let a = ap length f.0 in
        let b = length-append (all name_words ns) rest in
        let c = ap length e.0 in
        let i = length-drop p words in
        let j = length-drop r words in
        ap (texts_end words p) (sym f.1) ∙ g ∙ omega (arith, a, b, c, i, j, l, h)
    go missing d e = bools.never (sym e)

-- A rule

pub record Parts (words : List ℕ) (v : RuleView) (k : List ℕ) (gives : ℕ) : Type 0 where
  pub inside : gives ≤ length words
  pub there : Ends an_option words gives code.None → ⊥
  pub count : (q : ℕ) → Ends an_option words gives (code.Some q) → (q < length words) × (get_or words q 0 ≡ length v.calls)
  pub calls : (q : ℕ) → Ends an_option words gives (code.Some q) → drop (q + 1) words ≡ all name_words v.calls ++ (length v.cells ∷ (v.cells ++ k))

at_first : (words : List ℕ) (q x : ℕ) (xs : List ℕ) → x ∷ xs ≡ drop q words → (q < length words) × (get_or words q 0 ≡ x) × (drop (q + 1) words ≡ xs)
at_first words q x xs e =
    let l = ap length e in
    let d = length-drop q words in
    let n : q + 0 ≡ q = omega arith in
    (omega (arith, l, d), ap (λ (i : ℕ). get_or words i 0) (sym n) ∙ sym (get_or-drop q words 0 0) ∙ ap (λ (ws : List ℕ). get_or ws 0 0) (sym e), sym (drop-drop 1 q words) ∙ ap (λ (ws : List ℕ). drop 1 ws) (sym e))

pub parts : (words : List ℕ) (at gives : ℕ) (v : RuleView) (k : List ℕ) → drop at words ≡ rule_words v ++ k → Ends a_name words at (code.Some gives) → Parts words v k gives
unfolding rule_words
parts words at gives v k e x = record { inside = a.1; there = not-none v.gives calls₁ option-there; count = λ q y. let z = at_first words q _ _ (b q y) in (z.0, z.1); calls = λ q y. (at_first words q _ _ (b q y)).2 }
  where
    calls₁ : List ℕ
    calls₁ = length v.calls ∷ (all name_words v.calls ++ (length v.cells ∷ (v.cells ++ k)))

    pieces : rule_words v ++ k ≡ name_words v.name ++ (option_words v.gives ++ calls₁)
    pieces = append_assoc (name_words v.name) _ k ∙ ap (λ ws. name_words v.name ++ ws) (append_assoc (option_words v.gives) _ k
        ∙ ap (λ ws. option_words v.gives ++ (length v.calls ∷ ws)) (append_assoc (all name_words v.calls) (length v.cells ∷ v.cells) k))

    a : (option_words v.gives ++ calls₁ ≡ drop gives words) × (gives ≤ length words)
    a = ends-took v.name (option_words v.gives ++ calls₁) (ap a_name (e ∙ pieces) ∙ name-exact.back v.name tt (option_words v.gives ++ calls₁)) x

    option-there : an_option (drop gives words) ≡ took v.gives calls₁
    option-there = ap an_option (sym a.0) ∙ option-exact.back v.gives tt calls₁

    b : (q : ℕ) → Ends an_option words gives (code.Some q) → calls₁ ≡ drop q words
    b q y = (ends-took v.gives calls₁ option-there y).0

-- the names are there
names-there : (words : List ℕ) (v : RuleView) (k : List ℕ) (p m : ℕ) → drop p words ≡ all name_words v.calls ++ (length v.cells ∷ (v.cells ++ k)) → m ≡ length v.calls → Ends (times m a_name) words p code.None → ⊥
names-there words v k p m e d x =
    let b = (times-exact name-exact m).back v.calls (sym d) (length v.cells ∷ (v.cells ++ k)) in
    not-none v.calls _ (ap (times m a_name) e ∙ b) x

-- the cells stand behind the names
pub cells_at : (words : List ℕ) (v : RuleView) (k : List ℕ) (p m r : ℕ) → drop p words ≡ all name_words v.calls ++ (length v.cells ∷ (v.cells ++ k)) → m ≡ length v.calls → Ends (times m a_name) words p (code.Some r)
    → (r < length words) × (get_or words r 0 ≡ length v.cells) × (drop (r + 1) words ≡ v.cells ++ k)
cells_at words v k p m r e d x =
    let b = (times-exact name-exact m).back v.calls (sym d) (length v.cells ∷ (v.cells ++ k)) in
    at_first words r _ _ (ends-took v.calls _ (ap (times m a_name) e ∙ b) x).0

pub is_body : (words : List ℕ) (v : RuleView) (k : List ℕ) (p m r n : ℕ) (uses : Uses) → drop p words ≡ all name_words v.calls ++ (length v.cells ∷ (v.cells ++ k)) → m ≡ length v.calls
    → Ends (times m a_name) words p (code.Some r) → n ≡ get_or words r 0 → IsBody words v k (record { at = r + 1; count = n; calls = record { at = p; left = m }; uses = uses })
is_body words v k p m r n uses e d x z =
    let c = cells_at words v k p m r e d x in
    let s : n ≡ length v.cells = z ∙ c.1 in
    record {
      cells = ap (λ i. take i (drop (r + 1) words)) s ∙ ap (take (length v.cells)) c.2 ∙ take-append_seam v.cells k;
      calls = ap (texts_from words p) d ∙ (names_at words p v.calls _ e).0;
      behind = ap (λ i. drop (r + 1 + i) words) s ∙ sym (drop-drop (length v.cells) (r + 1) words) ∙ ap (drop (length v.cells)) c.2 ∙ drop-append_seam v.cells k;
    }

-- What the code finds at a place

module _ {words : List ℕ} {at : ℕ} where
  pub nobody : {uses : Uses} {r : Body} → r.at ≡ length words → r.count ≡ 0 → r.calls.at ≡ length words → r.calls.left ≡ 0 → r.uses ≡ uses
      → ((v : RuleView) (k : List ℕ) → drop at words ≡ rule_words v ++ k → ⊥) → BodyAt words at uses r
  unfolding texts_end
  nobody a b c d e f = record { inside = omega (arith, a, b); names = rw (c, d) (omega arith); pairs = e; is = λ v k h. absurd (f v k h) }

  pub no-name : Ends a_name words at code.None → (v : RuleView) (k : List ℕ) → drop at words ≡ rule_words v ++ k → ⊥
  no-name x v k e = gives-there words at v k e x

  module _ {gives end : ℕ} (x : Ends a_name words at (code.Some gives)) (z : end ≡ length words) where
    pub no-option : Ends an_option words gives code.None → (v : RuleView) (k : List ℕ) → drop at words ≡ rule_words v ++ k → ⊥
    no-option y v k e = (parts words at gives v k e x).there y

    module _ {calls left : ℕ} (y : Ends an_option words gives (code.Some calls)) (m : left ≡ get_or words calls 0) where
      pub no-calls : end ≤ calls → (v : RuleView) (k : List ℕ) → drop at words ≡ rule_words v ++ k → ⊥
      no-calls l v k e = let h = ((parts words at gives v k e x).count calls y).0 in omega (arith, h, l, z)

      pub no-names : Ends (times left a_name) words (calls + 1) code.None → (v : RuleView) (k : List ℕ) → drop at words ≡ rule_words v ++ k → ⊥
      no-names w v k e = let p = parts words at gives v k e x in names-there words v k (calls + 1) left (p.calls calls y) (m ∙ (p.count calls y).1) w

      module _ {cells count : ℕ} (w : Ends (times left a_name) words (calls + 1) (code.Some cells)) (n : count ≡ get_or words cells 0) where
        found : (v : RuleView) (k : List ℕ) → drop at words ≡ rule_words v ++ k → (cells < length words) × (get_or words cells 0 ≡ length v.cells) × (drop (cells + 1) words ≡ v.cells ++ k)
        found v k e = let p = parts words at gives v k e x in cells_at words v k (calls + 1) left cells (p.calls calls y) (m ∙ (p.count calls y).1) w

        pub no_cells : end ≤ cells → (v : RuleView) (k : List ℕ) → drop at words ≡ rule_words v ++ k → ⊥
        no_cells l v k e = let h = (found v k e).0 in omega (arith, h, l, z)

        pub few-cells : end - (cells + 1) < count → (v : RuleView) (k : List ℕ) → drop at words ≡ rule_words v ++ k → ⊥
        few-cells l v k e =
            let h = found v k e in
            let a = ap length h.2 in
            let b = length-append v.cells k in
            let c = length-drop (cells + 1) words in
            let d = h.1 in
            omega (arith, a, b, c, d, n, l, z)

        pub a_body : {uses : Uses} → calls < end → cells < end → count ≤ end - (cells + 1) → BodyAt words at uses (record { at = cells + 1; count = count; calls = record { at = calls + 1; left = left }; uses = uses })
        a_body {uses} l h g = record {
          inside = omega (arith, h, g, z);
          names = let e = names-end words (calls + 1) left cells w (omega (arith, l, z)) (omega (arith, h, z)) in omega (arith, e, h, z);
          pairs = refl;
          is = λ v k e. let p = parts words at gives v k e x in is_body words v k (calls + 1) left cells count uses (p.calls calls y) (m ∙ (p.count calls y).1) w n;
        }

-- how many cells the rule has
pub body-size : {words : List ℕ} {at : ℕ} {uses : Uses} {b : Body} → BodyAt words at uses b → (v : RuleView) (k : List ℕ) → drop at words ≡ rule_words v ++ k → b.count ≡ length v.cells
body-size {words} {at} {uses} {b} x v k e =
    let a = ap length (x.is v k e).cells in
    let l = length-take b.count (drop b.at words) in
    let d = length-drop b.at words in
    let i = x.inside in
    omega (arith, a, l, d, i)
