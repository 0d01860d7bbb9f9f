-- Words and views are one to one, and an object's words are those of its view.
use mathlib.Core.List.{List, [], ◌∷◌, ◌++◌, append_assoc}
use mathlib.Core.Option.{Option, none, some}
use mathlib.Core.Path.{◌≡◌, refl, sym, ap, ◌∙◌}
use mathlib.Core.Bool.{Bool, true, false}
use Prim.Native.Nat.{ℕ, zero, suc, ◌≤◌}
use native.Mathlib.Omega.{arith}
use borrow.Author.Tests.{eqb-true}
use lib.Dec.{eqb}
use lib.ListN.{length, length-append}
use Rattle.std.specs.Prelude.{if◌then◌else◌}
use Rattle.names.specs.Uses.{Use}
use Rattle.parts.proofs.Numbers.{none-some}
use Rattle.parts.specs.Form as form
use Rattle.parts.specs.Form.{packed}
use Rattle.parts.specs.Objects.{Aim, OpenRule, Object}
use Rattle.words.specs.Words.{Word}
use Rattle.objects.specs.Take.{Taken, took, missing, Taker, onward, ◌>>=◌, pure, refuse, a_word}
use Rattle.objects.specs.View.{Name, Pair, RuleView, View, name_of, names_of, option_of, pair_of, pairs_of, rule_of, rules_of, view_of, name_words, option_words, all, pair_words, rule_words, body_words, view_words, a_name, if_named, an_option, a_pair, some_calls, some_cells, a_rule, before, behind, some_parts, a_content, a_body, a_view, views}
use Rattle.objects.proofs.TakeLaws.{no-took, Exact, Any, bind, ends, a_word_lem, some_words_lem, the_word_lem, the-words, times-exact, sized-exact}

pub name-exact : Exact a_name name_words Any
unfolding a_name name_words
name-exact =
    bind a_word_lem (λ (c : Name). c.start) Any (λ _ _. tt) (λ s _.
    bind a_word_lem (λ (c : Name). length c.text) (λ c. (c.start ≡ s) × Any c) (λ _ _. tt) (λ n _.
    ends (some_words_lem n) (λ t. record { start = s; text = t }) (λ (c : Name). c.text) (λ c. (length c.text ≡ n) × ((c.start ≡ s) × Any c))
    (λ _. refl) (λ t l. (l, (refl, tt))) (λ c q. q.0) (λ c q. ap (λ (x : ℕ). record { start = x; text = c.text }) (sym q.1.0))))

pub option-exact : Exact an_option option_words Any
unfolding an_option if_named option_words onward a_word refuse
option-exact = record { back = back; forth = forth }
  where
    back : (o : Option Name) → Any o → (k : List ℕ) → an_option (option_words o ++ k) ≡ took o k
    back none h k = refl
    back (some n) h k = rw (name-exact.back n tt k)

    named : (x : ℕ) (ws : List ℕ) (o : Option Name) (k : List ℕ) → x ≡ 1 → (t : Taken Name) → a_name ws ≡ t → onward t (λ n. pure (some n)) ≡ took o k → (x ∷ ws ≡ option_words o ++ k) × Any o
    named x ws o k h (took n rest) d e =
        let y = (name-exact.forth ws n rest d).0 in
        let p : some n ≡ o = cc in
        let q : rest ≡ k = cc in
        (rw (← p, h, y, q), tt)
    named x ws o k h missing d e = no-took e

    one : (x : ℕ) (ws : List ℕ) (o : Option Name) (k : List ℕ) (b : Bool) → eqb x 1 ≡ b → (if b then (◌>>=◌ a_name (λ n. pure (some n))) else refuse) ws ≡ took o k → (x ∷ ws ≡ option_words o ++ k) × Any o
    one x ws o k true d e = named x ws o k (eqb-true x 1 d) (a_name ws) refl e
    one x ws o k false d e = no-took e

    zeroth : (x : ℕ) (ws : List ℕ) (o : Option Name) (k : List ℕ) (b : Bool) → eqb x 0 ≡ b → (if b then pure none else if eqb x 1 then (◌>>=◌ a_name (λ n. pure (some n))) else refuse) ws ≡ took o k
        → (x ∷ ws ≡ option_words o ++ k) × Any o
    zeroth x ws o k true d e =
        let h = eqb-true x 0 d in
        let p : ◌≡◌ {A = Option Name} none o = cc in
        let q : ws ≡ k = cc in
        (rw (← p, h, q), tt)
    zeroth x ws o k false d e = one x ws o k (eqb x 1) refl e

    forth : (ws : List ℕ) (o : Option Name) (k : List ℕ) → an_option ws ≡ took o k → (ws ≡ option_words o ++ k) × Any o
    forth [] o k e = no-took e
    forth (x ∷ ws) o k e = zeroth x ws o k (eqb x 0) refl e

pub pair-exact : Exact a_pair pair_words Any
unfolding a_pair pair_words
pair-exact =
    bind a_word_lem (λ (c : Pair). c.start) Any (λ _ _. tt) (λ s _.
    bind a_word_lem (λ (c : Pair). c.size) (λ c. (c.start ≡ s) × Any c) (λ _ _. tt) (λ n _.
    bind name-exact (λ (c : Pair). c.section) (λ c. (c.size ≡ n) × ((c.start ≡ s) × Any c)) (λ _ _. tt) (λ w _.
    ends name-exact (λ o. record { start = s; size = n; section = w; operand = o }) (λ (c : Pair). c.operand) (λ c. (c.section ≡ w) × ((c.size ≡ n) × ((c.start ≡ s) × Any c)))
    (λ _. refl) (λ o _. (refl, (refl, (refl, tt)))) (λ _ _. tt) (λ c q. same c q.0 q.1.0 q.1.1.0))))
  where
    same : {s n : ℕ} {w : Name} (c : Pair) → c.section ≡ w → c.size ≡ n → c.start ≡ s → record { start = s; size = n; section = w; operand = c.operand } ≡ c
    same c p q r = rw (← p, ← q, ← r)

calls-exact : Exact some_calls (λ ns. length ns ∷ all name_words ns) Any
unfolding some_calls
calls-exact = bind a_word_lem (λ (ns : List Name). length ns) Any (λ _ _. tt) (λ n _. with-any (times-exact name-exact n))
  where
    with-any : {n : ℕ} {m : Taker (List Name)} {w : List Name → List ℕ} → Exact m w (λ ns. length ns ≡ n) → Exact m w (λ ns. (length ns ≡ n) × Any ns)
    with-any x = record { back = λ ns h k. x.back ns h.0 k; forth = λ ws ns k e. let y = x.forth ws ns k e in (y.0, (y.1, tt)) }

cells-exact : Exact some_cells (λ cs. length cs ∷ cs) Any
unfolding some_cells
cells-exact = bind a_word_lem (λ (cs : List ℕ). length cs) Any (λ _ _. tt) (λ n _. with-any (some_words_lem n))
  where
    with-any : {n : ℕ} {m : Taker (List ℕ)} {w : List ℕ → List ℕ} → Exact m w (λ ns. length ns ≡ n) → Exact m w (λ ns. (length ns ≡ n) × Any ns)
    with-any x = record { back = λ ns h k. x.back ns h.0 k; forth = λ ws ns k e. let y = x.forth ws ns k e in (y.0, (y.1, tt)) }

pub rule-exact : Exact a_rule rule_words Any
unfolding a_rule rule_words
rule-exact =
    bind name-exact (λ (c : RuleView). c.name) Any (λ _ _. tt) (λ w _.
    bind option-exact (λ (c : RuleView). c.gives) (λ c. (c.name ≡ w) × Any c) (λ _ _. tt) (λ g _.
    bind calls-exact (λ (c : RuleView). c.calls) (λ c. (c.gives ≡ g) × ((c.name ≡ w) × Any c)) (λ _ _. tt) (λ ns _.
    ends cells-exact (λ cells. record { name = w; gives = g; calls = ns; cells = cells }) (λ (c : RuleView). c.cells)
    (λ c. (c.calls ≡ ns) × ((c.gives ≡ g) × ((c.name ≡ w) × Any c)))
    (λ _. refl) (λ cells _. (refl, (refl, (refl, tt)))) (λ _ _. tt) (λ c q. same c q.0 q.1.0 q.1.1.0))))
  where
    same : {w : Name} {g : Option Name} {ns : List Name} (c : RuleView) → c.calls ≡ ns → c.gives ≡ g → c.name ≡ w → record { name = w; gives = g; calls = ns; cells = c.cells } ≡ c
    same c p q r = rw (← p, ← q, ← r)

pub body-exact : (common : List ℕ) → Exact (a_body common) (body_words common) Any
unfolding a_body a_content some_parts body_words
body-exact common =
    bind (the_word_lem (length common)) (λ (c : View). tt) Any (λ _ _. tt) (λ _ _.
    bind a_word_lem (λ (c : View). c.size) (λ c. (◌≡◌ {A = Unit {0}} tt tt) × Any c) (λ _ _. tt) (λ s _.
    bind a_word_lem (λ (c : View). length c.rules) (λ c. (c.size ≡ s) × ((◌≡◌ {A = Unit {0}} tt tt) × Any c)) (λ _ _. tt) (λ r _.
    bind a_word_lem (λ (c : View). length c.pairs) (λ c. (length c.rules ≡ r) × ((c.size ≡ s) × ((◌≡◌ {A = Unit {0}} tt tt) × Any c))) (λ _ _. tt) (λ p _.
    bind (the-words (packed common)) (λ (c : View). tt) (λ c. (length c.pairs ≡ p) × ((length c.rules ≡ r) × ((c.size ≡ s) × ((◌≡◌ {A = Unit {0}} tt tt) × Any c)))) (λ _ _. tt) (λ _ _.
    bind (times-exact pair-exact p) (λ (c : View). c.pairs) (λ c. (◌≡◌ {A = Unit {0}} tt tt) × ((length c.pairs ≡ p) × ((length c.rules ≡ r) × ((c.size ≡ s) × ((◌≡◌ {A = Unit {0}} tt tt) × Any c))))) (λ _ q. q.1.0) (λ ps l.
    ends (times-exact rule-exact r) (λ rs. record { size = s; pairs = ps; rules = rs }) (λ (c : View). c.rules)
    (λ c. (c.pairs ≡ ps) × ((◌≡◌ {A = Unit {0}} tt tt) × ((length c.pairs ≡ p) × ((length c.rules ≡ r) × ((c.size ≡ s) × ((◌≡◌ {A = Unit {0}} tt tt) × Any c))))))
    (λ _. refl) (λ rs m. (refl, (refl, (l, (m, (refl, (refl, tt))))))) (λ _ q. q.1.1.1.0) (λ c q. same c q.0 q.1.1.1.1.0)))))))
  where
    same : {s : ℕ} {ps : List Pair} (c : View) → c.pairs ≡ ps → c.size ≡ s → record { size = s; pairs = ps; rules = c.rules } ≡ c
    same c p q = rw (← p, ← q)

-- a view's words are taken as that view, with whatever stands behind them; and what is taken as a view are its words
pub view-exact : (common : List ℕ) → Exact (a_view common) (view_words common) Any
unfolding a_view view_words
view-exact common = bind (the_word_lem 20559) (λ (c : View). tt) Any (λ _ _. tt) (λ _ _. with_unit (sized-exact (body-exact common)))
  where
    with_unit : {m : Taker View} {w : View → List ℕ} → Exact m w Any → Exact m w (λ c. (◌≡◌ {A = Unit {0}} tt tt) × Any c)
    with_unit x = record { back = λ a _ k. x.back a tt k; forth = λ ws a k e. ((x.forth ws a k e).0, (refl, tt)) }

-- views one behind the other
module _ (common : List ℕ) where
  abbrev all_views : List View → List ℕ
  all_views vs = all (view_words common) vs

  pub views-are : (k : ℕ) (ws : List ℕ) (vs : List View) → views common k ws ≡ some vs → ws ≡ all_views vs
  unfolding views before behind all
  views-are zero [] vs e = let p : ◌≡◌ {A = List View} [] vs = cc in rw (← p)
  views-are zero (w ∷ ws) vs e = none-some e
  views-are (suc k) [] vs e = let p : ◌≡◌ {A = List View} [] vs = cc in rw (← p)
  views-are (suc k) (w ∷ ws) vs e = go (λ rest us d. views-are k rest us d) (a_view common (w ∷ ws)) refl e
    where
      Later : Type 0
      Later = (rest : List ℕ) (us : List View) → views common k rest ≡ some us → rest ≡ all_views us

      with : Later → (v : View) (rest : List ℕ) → w ∷ ws ≡ view_words common v ++ rest → (o : Option (List View)) → views common k rest ≡ o → before v o ≡ some vs → w ∷ ws ≡ all_views vs
      with later v rest y none d e₁ = none-some e₁
      with later v rest y (some us) d e₁ = let p : v ∷ us ≡ vs = cc in rw (← p) (y ∙ ap (λ r. view_words common v ++ r) (later rest us d))

      go : Later → (t : Taken View) → a_view common (w ∷ ws) ≡ t → behind t (λ rest. views common k rest) ≡ some vs → w ∷ ws ≡ all_views vs
      go later (took v rest) d e₁ = with later v rest ((view-exact common).forth (w ∷ ws) v rest d).0 (views common k rest) refl e₁
      go later missing d e₁ = none-some e₁

  pub are-views : (k : ℕ) (vs : List View) → length (all_views vs) ≤ k → views common k (all_views vs) ≡ some vs
  unfolding views before behind all view_words body_words
  are-views zero [] l = refl
  are-views (suc k) [] l = refl
  are-views zero (v ∷ vs) l = absurd (omega (arith, l))
  are-views (suc k) (v ∷ vs) l =
      let n = length-append (view_words common v) (all_views vs) in
      rw ((view-exact common).back v tt (all_views vs), are-views k vs (omega (arith, n, l)))

-- The words of an object

name-words : (w : Word) → form.name_words w ≡ name_words (name_of w)
unfolding form.name_words name_words name_of
name-words w = refl

names-words : (ws : List Word) → form.names_words ws ≡ all name_words (names_of ws)
unfolding form.names_words all names_of
names-words [] = refl
names-words (w ∷ ws) = rw (name-words w, names-words ws)

names-length : (ws : List Word) → length (names_of ws) ≡ length ws
unfolding names_of
names-length [] = refl
names-length (w ∷ ws) = ap suc (names-length ws)

option-words : (o : Option Word) → form.type_words o ≡ option_words (option_of o)
unfolding form.type_words option_words option_of
option-words none = refl
option-words (some w) = rw (name-words w)

pairs-words : (us : List Use) → form.uses_words us ≡ all pair_words (pairs_of us)
unfolding form.uses_words all pair_words pairs_of pair_of
pairs-words [] = refl
pairs-words (u ∷ us) = rw (name-words u.section, name-words u.operand, pairs-words us, append_assoc (name_words (name_of u.section)) (name_words (name_of u.operand)) (all pair_words (pairs_of us)))

pub pairs-length : (us : List Use) → length (pairs_of us) ≡ length us
unfolding pairs_of
pairs-length [] = refl
pairs-length (u ∷ us) = ap suc (pairs-length us)

module _ (aims : List Aim) (first : ℕ) where
  rule-words : (r : OpenRule) → form.rule_words aims first r ≡ rule_words (rule_of aims first r)
  unfolding form.rule_words rule_words rule_of
  rule-words r = rw (name-words r.name, option-words r.gives, names-words r.calls, names-length r.calls)

  rules-words : (rs : List OpenRule) → form.rules_words aims first rs ≡ all rule_words (rules_of aims first rs)
  unfolding form.rules_words all rules_of
  rules-words [] = refl
  rules-words (r ∷ rs) = rw (rule-words r, rules-words rs)

  pub rules-length : (rs : List OpenRule) → length (rules_of aims first rs) ≡ length rs
  unfolding rules_of
  rules-length [] = refl
  rules-length (r ∷ rs) = ap suc (rules-length rs)

-- an object's words are those of its view
pub object-words : (common : List ℕ) (size : ℕ) (o : Object) → form.object_words common size o ≡ view_words common (view_of size o)
unfolding form.object_words form.body_of view_words body_words view_of
object-words common size o =
    let first = form.first_pair o in
    rw (pairs-words o.uses, rules-words o.aims first o.rules, pairs-length o.uses, rules-length o.aims first o.rules)
