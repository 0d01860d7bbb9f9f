-- A name sought among the calls of rules: the rules passed call others, so that those left decide.
use mathlib.Core.Bool.{Bool, true, false, ◌||◌}
use mathlib.Core.List.{List, [], ◌∷◌, ◌++◌, append_assoc}
use mathlib.Core.Path.{◌≡◌, refl, sym, ap, ◌∙◌}
use native.Mathlib.Omega.{arith}
use Prim.Native.Nat.{ℕ, suc, ◌+◌, ◌<◌, ◌≤◌}
use lib.ListN.{length, get_or, drop, length-drop}
use lib.Seq.{get_or-drop, drop-drop}
use Rattle.base.specs.Common.{same}
use Rattle.names.specs.Understand.{is_one}
use Rattle.std.specs.Prelude.{Some, None}
use Rattle.objects.proofs.Looked.{ends-took, not-none}
use Rattle.objects.proofs.Marks.{or_right}
use Rattle.objects.proofs.TakeLaws.{times-exact}
use Rattle.objects.proofs.Views.{name-exact, option-exact, rule-exact}
use Rattle.objects.specs.Places.{Ends}
use Rattle.objects.specs.Take.{took, times}
use Rattle.objects.specs.View.{Name, RuleView, name_words, option_words, rule_words, all, a_name, an_option, a_rule}
use Rattle.objects.specs.Whole.{calls_of, texts_of}

-- where the names of a rule's calls stand
pub record CallsAt (words : List ℕ) (v : RuleView) (gives : ℕ) : Type 0 where
  pub inside : gives ≤ length words
  pub there : Ends an_option words gives None → ⊥
  pub count : (calls : ℕ) → Ends an_option words gives (Some calls) → (calls < length words) × (get_or words calls 0 ≡ length v.calls)
  pub rest : List ℕ
  pub taken : (calls : ℕ) → Ends an_option words gives (Some calls) → times (length v.calls) a_name (drop (calls + 1) words) ≡ took v.calls rest

pub calls_at : (words : List ℕ) (q gives : ℕ) (v : RuleView) (k : List ℕ) → drop q words ≡ rule_words v ++ k → Ends a_name words q (Some gives) → CallsAt words v gives
unfolding rule_words
calls_at words q gives v k e x = record { inside = a.1; there = not-none v.gives calls₁ option-there; count = count; rest = cells; taken = taken }
  where
    cells : List ℕ
    cells = (length v.cells ∷ v.cells) ++ k

    calls₁ : List ℕ
    calls₁ = length v.calls ∷ (all name_words v.calls ++ cells)

    parts : (rule_words v) ++ k ≡ name_words v.name ++ (option_words v.gives ++ calls₁)
    parts = append_assoc (name_words v.name) _ k ∙ ap (λ ws. name_words v.name ++ ws) (append_assoc (option_words v.gives) _ k
        ∙ ap (λ ws. option_words v.gives ++ (length v.calls ∷ ws)) (append_assoc (all name_words v.calls) (length v.cells ∷ v.cells) k))

    a : (option_words v.gives ++ calls₁ ≡ drop gives words) × (gives ≤ length words)
    a = ends-took v.name (option_words v.gives ++ calls₁) (ap a_name (e ∙ parts) ∙ name-exact.back v.name tt (option_words v.gives ++ calls₁)) x

    option-there : an_option (drop gives words) ≡ took v.gives calls₁
    option-there = ap an_option (sym a.0) ∙ option-exact.back v.gives tt calls₁

    b : (calls : ℕ) → Ends an_option words gives (Some calls) → (calls₁ ≡ drop calls words) × (calls ≤ length words)
    b calls y = ends-took v.gives calls₁ option-there y

    count : (calls : ℕ) → Ends an_option words gives (Some calls) → (calls < length words) × (get_or words calls 0 ≡ length v.calls)
    count calls y =
        let z = b calls y in
        let l = ap length z.0 in
        let d = length-drop calls words in
        let n : calls + 0 ≡ calls = omega arith in
        (omega (arith, l, d), ap (λ (i : ℕ). get_or words i 0) (sym n) ∙ sym (get_or-drop calls words 0 0) ∙ ap (λ (ws : List ℕ). get_or ws 0 0) (sym z.0))

    taken : (calls : ℕ) → Ends an_option words gives (Some calls) → times (length v.calls) a_name (drop (calls + 1) words) ≡ took v.calls cells
    taken calls y =
        let z = b calls y in
        ap (times (length v.calls) a_name) (sym (drop-drop 1 calls words) ∙ ap (λ (ws : List ℕ). drop 1 ws) (sym z.0)) ∙ (times-exact name-exact (length v.calls)).back v.calls refl cells

one-append : (t : List ℕ) (ns ms : List Name) → is_one t (texts_of (ns ++ ms)) ≡ (is_one t (texts_of ns) || is_one t (texts_of ms))
unfolding is_one texts_of
one-append t [] ms = refl
one-append t (n ∷ ns) ms = rw (one-append t ns ms) (or_right (same t n.text) (is_one t (texts_of ns)) (is_one t (texts_of ms)))

-- the rule's name is there
pub gives-there : (words : List ℕ) (q : ℕ) (v : RuleView) (k : List ℕ) → drop q words ≡ rule_words v ++ k → Ends a_name words q None → ⊥
unfolding rule_words
gives-there words q v k e x =
    let more = (option_words v.gives ++ (length v.calls ∷ (all name_words v.calls ++ (length v.cells ∷ v.cells)))) ++ k in
    not-none v.name more (ap a_name (e ∙ append_assoc (name_words v.name) _ k) ∙ name-exact.back v.name tt more) x

module _ (words : List ℕ) (vs : List RuleView) (rest : List ℕ) (sought : Name) where
  -- m names are left, from the place q on
  pub record SeekingRules (m q : ℕ) : Type 0 where
    pub left : List RuleView
    pub taken : times m a_rule (drop q words) ≡ took left rest
    pub alike : is_one sought.text (texts_of (calls_of vs)) ≡ is_one sought.text (texts_of (calls_of left))

  -- the first of them, and those behind it
  pub record LeadsRules (m q : ℕ) : Type 0 where
    pub first : RuleView
    pub later : List RuleView
    pub tail : List ℕ
    pub here : drop q words ≡ rule_words first ++ tail
    pub alike : is_one sought.text (texts_of (calls_of vs)) ≡ (is_one sought.text (texts_of first.calls) || is_one sought.text (texts_of (calls_of later)))
    pub there : Ends a_rule words q None → ⊥
    pub behind : (r : ℕ) → Ends a_rule words q (Some r) → (r ≤ length words) × (times m a_rule (drop r words) ≡ took later rest)

  pub seeking-rules : (m n q at : ℕ) → m ≡ n → q ≡ at → times n a_rule (drop at words) ≡ took vs rest → SeekingRules m q
  seeking-rules m n q at d f e = record { left = vs; taken = rw (d, f) e; alike = refl }

  pub no-rule-left : {m q : ℕ} → SeekingRules m q → m ≡ 0 → false ≡ is_one sought.text (texts_of (calls_of vs))
  unfolding is_one texts_of calls_of
  no-rule-left {m} {q} x e = go x.left ((times-exact rule-exact m).forth (drop q words) x.left rest x.taken).1 x.alike
    where
      go : (ms : List RuleView) → length ms ≡ m → is_one sought.text (texts_of (calls_of vs)) ≡ is_one sought.text (texts_of (calls_of ms)) → false ≡ is_one sought.text (texts_of (calls_of vs))
      go [] l a = sym a
      go (n ∷ ms) l a = absurd (omega (arith, l, e))

  rules-lead : {m q : ℕ} → SeekingRules (suc m) q → LeadsRules m q
  unfolding calls_of all
  rules-lead {m} {q} x =
      let y = (times-exact rule-exact (suc m)).forth (drop q words) x.left rest x.taken in
      go x.left y.0 y.1 x.alike
    where
      go : (ms : List RuleView) → drop q words ≡ all rule_words ms ++ rest → length ms ≡ suc m → is_one sought.text (texts_of (calls_of vs)) ≡ is_one sought.text (texts_of (calls_of ms)) → LeadsRules m q
      go [] e l a = absurd (omega (arith, l))
      go (n ∷ ms) e l a =
          let more = all rule_words ms ++ rest in
          let here : drop q words ≡ rule_words n ++ more = e ∙ append_assoc (rule_words n) (all rule_words ms) rest in
          record {
            first = n;
            later = ms;
            tail = more;
            here = here;
            alike = a ∙ one-append sought.text n.calls (calls_of ms);
            there = not-none n more (ap a_rule here ∙ rule-exact.back n tt more);
            behind = λ r y.
                let z = ends-took n more (ap a_rule here ∙ rule-exact.back n tt more) y in
                (z.1, ap (times m a_rule) (sym z.0) ∙ (times-exact rule-exact m).back ms (omega (arith, l)) rest);
          }

  pub rules-by : {m q : ℕ} (m₁ : ℕ) → SeekingRules m q → m ≡ suc m₁ → LeadsRules m₁ q
  rules-by m₁ x e = rules-lead (rw e at x)

  pub found-rule : {m q : ℕ} (x : LeadsRules m q) (b : Bool) → b ≡ is_one sought.text (texts_of x.first.calls) → b ≡ true → b ≡ is_one sought.text (texts_of (calls_of vs))
  found-rule x b e t = rw (x.alike, ← e, t)

  pub not-rule : {m q : ℕ} (x : LeadsRules m q) (b : Bool) → b ≡ is_one sought.text (texts_of x.first.calls) → b ≡ false → (r : ℕ) → Ends a_rule words q (Some r) → SeekingRules m r
  not-rule x b e f r y = record { left = x.later; taken = (x.behind r y).1; alike = rw (x.alike, ← e, f) }
