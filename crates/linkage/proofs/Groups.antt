-- The rules of an object closed one behind the other, and those of all objects.
use mathlib.Core.List.{List, [], ◌∷◌, ◌++◌, append_assoc}
use mathlib.Core.Path.{◌≡◌, refl, sym, ap, ◌∙◌}
use native.Mathlib.Omega.{arith}
use Prim.Native.Nat.{ℕ, suc, ◌+◌, ◌/◌, ◌%◌, ◌<◌, ◌≤◌, min}
use lib.ListN.{length, get_or, take, drop, length-append, length-drop}
use lib.Seq.{get_or-drop, drop-drop, drop-append_seam}
use Rattle.acceptance.proofs.Shape.{Each}
use Rattle.builder.proofs.Encoding.{acts-cells}
use Rattle.calls.specs.Renumber.{renumber_rule}
use Rattle.cells.specs.Cells.{acts_cells, rules_cells}
use Rattle.frontend.proofs.Joining.{rules-append}
use Rattle.linkage.specs.Bodies.{BodyAt, close_rules}
use Rattle.linkage.specs.Closing.{Lows, places_of}
use Rattle.linkage.specs.Groups.{IsGroup, GroupAt, ClosesGroup, Calls}
use Rattle.linkage.specs.declared.Body.{Body}
use Rattle.linkage.specs.declared.Group.{Group}
use Rattle.linkage.specs.declared.Uses.{Uses}
use Rattle.linker.proofs.Passing.{starts}
use Rattle.linker.proofs.Rules.{rule-closed}
use Rattle.linker.specs.Close.{in_row, close_cells}
use Rattle.linker.specs.Place.{texts_at, rule_texts, places_for, lowests}
use Rattle.linkpairs.specs.Standing.{Held, ObjectEnds}
use Rattle.names.specs.Known as known
use Rattle.names.specs.Uses.{Use}
use Rattle.objects.proofs.EndsLong.{packed-length}
use Rattle.std.specs.Prelude as code
use Rattle.objects.proofs.Looked.{ends-took, not-none}
use Rattle.objects.proofs.TakeLaws.{times-exact}
use Rattle.objects.proofs.Views.{pair-exact, pairs-length, object-words}
use Rattle.objects.specs.Places.{Ends}
use Rattle.objects.specs.Take.{took, times}
use Rattle.objects.specs.View as view
use Rattle.objects.specs.View.{RuleView, View, all, pair_words, rule_words, body_words, view_words, a_pair, view_of, pairs_of, rule_of, names_of}
use Rattle.objects.specs.Whole as whole
use Rattle.parts.proofs.Alike.{each_left, each_right}
use Rattle.parts.specs.Form.{packed, object_words, all_words, body_cells, first_pair}
use Rattle.parts.specs.Link.{rules_of, known_of, closing, closed, closed_in}
use Rattle.parts.specs.Objects.{OpenRule, Object}
use Rattle.parts.specs.Sound.{texts_of, SoundRule, Sound}
use Rattle.resolver.proofs.Appending.{appends-none, appends-then}
use Rattle.resolver.specs.Resolved.{Appends}
use Rattle.syntax.specs.Texts.{Head}
use Rattle.words.specs.Words.{Word}

-- The rules of an object

module _ (words names : List ℕ) (low : ℕ → ℕ) (vs : List RuleView) (k cs₀ : List ℕ) (from many : ℕ) where
  -- i of the rules are closed; whatever is appended next, with those left it is all that is to be appended
  pub record Going (cs : List ℕ) (at n i : ℕ) : Type 0 where
    pub left : List RuleView
    pub here : drop at words ≡ all rule_words left ++ k
    pub as_many : i + length left ≡ many
    pub appends : (cs' : List ℕ) (c : ℕ) → Appends cs n (close_rules low (texts_at words names) left) cs' c → Appends cs₀ from (close_rules low (texts_at words names) vs) cs' c

  pub going-first : {at n i : ℕ} → drop at words ≡ all rule_words vs ++ k → length vs ≡ many → n ≡ min from (length cs₀ + 1) → i ≡ 0 → Going cs₀ at n i
  going-first {at} {n} {i} e l m z = record { left = vs; here = e; as_many = omega (arith, l, z); appends = λ cs c h. appends-then (starts cs₀ from n m) h }

  pub going_on : {cs : List ℕ} {at n i : ℕ} (x : Going cs at n i) → i < many → {uses : Uses} {b : Body} → BodyAt words at uses b → {cs₁ : List ℕ} {n₁ : ℕ}
      → Appends cs n (close_cells low (places_of words names b.calls) (take b.count (drop b.at words))) cs₁ n₁ → Going cs₁ (b.at + b.count) n₁ (i + 1)
  unfolding close_rules all
  going_on {cs} {at} {n} {i} x l {uses} {b} y {cs₁} {n₁} h = go x.left x.here x.as_many x.appends
    where
      go : (left : List RuleView) → drop at words ≡ all rule_words left ++ k → i + length left ≡ many
          → ((cs' : List ℕ) (c : ℕ) → Appends cs n (close_rules low (texts_at words names) left) cs' c → Appends cs₀ from (close_rules low (texts_at words names) vs) cs' c) → Going cs₁ (b.at + b.count) n₁ (i + 1)
      go [] e m f = absurd (omega (arith, m, l))
      go (v ∷ left) e m f =
          let z = y.is v (all rule_words left ++ k) (e ∙ append_assoc (rule_words v) (all rule_words left) k) in
          let g : Appends cs n (close_cells low (places_for (texts_at words names) (whole.texts_of v.calls)) v.cells) cs₁ n₁ =
          rw (← z.cells, ← z.calls) h in
          record { left = left; here = z.behind; as_many = omega (arith, m); appends = λ cs' c a. f cs' c (appends-then g a) }

  pub going_end : {cs : List ℕ} {at n i : ℕ} → Going cs at n i → many ≤ i → n ≤ suc (length cs) → Appends cs₀ from (close_rules low (texts_at words names) vs) cs n
  unfolding close_rules
  going_end {cs} {at} {n} {i} x l h = go x.left x.as_many x.appends
    where
      go : (left : List RuleView) → i + length left ≡ many
          → ((cs' : List ℕ) (c : ℕ) → Appends cs n (close_rules low (texts_at words names) left) cs' c → Appends cs₀ from (close_rules low (texts_at words names) vs) cs' c) → Appends cs₀ from (close_rules low (texts_at words names) vs) cs n
      go [] m f = f cs n (appends-none cs n h)
      go (v ∷ left) m f = absurd (omega (arith, m, l))

pub lows-as : (words sites lowest : List ℕ) (low : ℕ → ℕ) {u v : Uses} → u ≡ v → Lows words sites lowest v low → Lows words sites lowest u low
lows-as words sites lowest low e h = rw e h

-- Where they stand

module _ (words : List ℕ) (at : ℕ) (common : List ℕ) (v : View) (k : List ℕ) (e : drop at words ≡ view_words common v ++ k) where
  size_is : get_or words (at + 3) 0 ≡ length common
  unfolding view_words body_words
  size_is = sym (get_or-drop at words 3 0) ∙ ap (λ (ws : List ℕ). get_or ws 3 0) e

  rules_are : get_or words (at + 5) 0 ≡ length v.rules
  unfolding view_words body_words
  rules_are = sym (get_or-drop at words 5 0) ∙ ap (λ (ws : List ℕ). get_or ws 5 0) e

  pairs-are : get_or words (at + 6) 0 ≡ length v.pairs
  unfolding view_words body_words
  pairs-are = sym (get_or-drop at words 6 0) ∙ ap (λ (ws : List ℕ). get_or ws 6 0) e

  behind-header : drop (at + 7) words ≡ packed common ++ (all pair_words v.pairs ++ (all rule_words v.rules ++ k))
  unfolding view_words body_words
  behind-header =
      sym (drop-drop 7 at words) ∙ ap (λ (ws : List ℕ). drop 7 ws) e ∙ append_assoc (packed common) (all pair_words v.pairs ++ all rule_words v.rules) k
      ∙ ap (λ (ws : List ℕ). packed common ++ ws) (append_assoc (all pair_words v.pairs) (all rule_words v.rules) k)

  long : at + 7 + length (packed common) ≤ length words
  unfolding view_words body_words
  long =
      let a = ap length e in
      let b = length-drop at words in
      let c = length-append (packed common ++ (all pair_words v.pairs ++ all rule_words v.rules)) k in
      let d = length-append (packed common) (all pair_words v.pairs ++ all rule_words v.rules) in
      omega (arith, a, b, c, d)

  pub is-group : {size pairs count at₁ left end collected : ℕ} (rules : code.Option ℕ) → end ≡ length words → size ≡ get_or words (at + 3) 0 → pairs ≡ min (at + 7 + size / 2 + size % 2) end → count ≡ get_or words (at + 6) 0
      → Ends (times count a_pair) words pairs rules → at₁ ≡ code.unwrap_or rules end → left ≡ get_or words (at + 5) 0 → IsGroup words v k (record { at = at₁; left = left; uses = record { at = pairs; count = count; collected = collected } })
  is-group {size} {pairs} {count} {at₁} {left} {end} rules z s p c x a l =
      let t : size / 2 + size % 2 ≡ length (packed common) = ap (λ i. i / 2 + i % 2) (s ∙ size_is) ∙ sym (packed-length common) in
      let q : pairs ≡ at + 7 + length (packed common) = omega (arith, t, p, z, long) in
      let d : drop pairs words ≡ all pair_words v.pairs ++ (all rule_words v.rules ++ k) =
      ap (λ i. drop i words) q ∙ sym (drop-drop (length (packed common)) (at + 7) words) ∙ ap (drop (length (packed common))) behind-header ∙ drop-append_seam (packed common) _ in
      let m : length v.pairs ≡ count = sym (c ∙ pairs-are) in
      let b = (times-exact pair-exact count).back v.pairs m (all rule_words v.rules ++ k) in
      record { pairs = (all rule_words v.rules ++ k, d); pairs_many = m; rules = go rules x a (ap (times count a_pair) d ∙ b); rules_many = sym (l ∙ rules_are) }
    where
      go : (o : code.Option ℕ) → Ends (times count a_pair) words pairs o → at₁ ≡ code.unwrap_or o end → times count a_pair (drop pairs words) ≡ took v.pairs (all rule_words v.rules ++ k) → drop at₁ words ≡ all rule_words v.rules ++ k
      go code.None y f t = absurd (not-none v.pairs _ t y)
      go (code.Some r) y f t = ap (λ i. drop i words) f ∙ sym (ends-took v.pairs (all rule_words v.rules ++ k) t y).0

-- The rules of all objects

names-texts : (ws : List Word) → whole.texts_of (names_of ws) ≡ texts_of ws
unfolding whole.texts_of names_of texts_of view.name_of
names-texts [] = refl
names-texts (w ∷ ws) = ap (λ (ts : List (List ℕ)). w.text ∷ ts) (names-texts ws)

module _ (n : known.Names) (own : ℕ) (us : List Use) (rules : List OpenRule) (hs : List Head) (o : Object) (s : Sound hs n o) where
  object-closed : (rs : List OpenRule) → Each (SoundRule hs o.aims) rs → Each (Calls rules) rs
      → close_rules (in_row (lowests n own us o.uses)) (rule_texts rules) (view.rules_of o.aims (first_pair o) rs) ≡ rules_cells (closed (closing n (known_of 0 rules) own us o.aims) rs)
  unfolding close_rules view.rules_of rules_cells closed Each rule_of
  object-closed [] t e = refl
  object-closed (r ∷ rs) t e =
      let low = in_row (lowests n own us o.uses) in
      let to = closing n (known_of 0 rules) own us o.aims in
      ap (λ (ts : List (List ℕ)). close_cells low (places_for (rule_texts rules) ts) (body_cells o.aims (first_pair o) r.means.body) ++ close_rules low (rule_texts rules) (view.rules_of o.aims (first_pair o) rs)) (names-texts r.calls)
      ∙ ap (λ (xs : List ℕ). xs ++ close_rules low (rule_texts rules) (view.rules_of o.aims (first_pair o) rs)) (rule-closed n own us rules hs o s r t.0 e.0)
      ∙ ap (λ (xs : List ℕ). acts_cells (renumber_rule to r.means).body [] ++ xs) (object-closed rs t.1 e.1)
      ∙ sym (acts-cells (renumber_rule to r.means).body (rules_cells (closed to rs)))

-- what is known of the objects that are closed: the pairs collected, and the names of all rules
pub record Ground (words names sites lowest : List ℕ) (collected : ℕ) : Type 0 where
  pub common : List ℕ
  pub heads : List Head
  pub known : known.Names
  pub own : ℕ
  pub after : ℕ
  pub pairs : List Use
  pub rules : List OpenRule
  pub held : Held words sites lowest known own collected after pairs
  pub texts : texts_at words names ≡ rule_texts rules

module _ {words names sites lowest : List ℕ} {collected : ℕ} (gr : Ground words names sites lowest collected) (os₀ : List Object) (cs₀ : List ℕ) where
  -- the objects that are left to close
  pub record GoingAll (cs : List ℕ) (at m : ℕ) : Type 0 where
    pub lengths : List ℕ
    pub left : List Object
    pub here : drop at words ≡ all_words gr.common lengths left
    pub as_many : length lengths ≡ length left
    pub sound : Each (Sound gr.heads gr.known) left
    pub called : Each (Calls gr.rules) (rules_of left)
    pub appends : (cs' : List ℕ) (c : ℕ) → Appends cs m (rules_cells (closed_in gr.known (known_of 0 gr.rules) gr.own gr.pairs left)) cs' c → Appends cs₀ 0 (rules_cells (closed_in gr.known (known_of 0 gr.rules) gr.own gr.pairs os₀)) cs' c

  lows : (m : ℕ) (o : Object) {k : List ℕ} {g : Group} → IsGroup words (view_of m o) k g → g.uses.collected ≡ collected → Lows words sites lowest g.uses (in_row (lowests gr.known gr.own gr.pairs o.uses))
  unfolding view_of
  lows m o {k} {g} x e = record {
    names = gr.known;
    own = gr.own;
    after = gr.after;
    collected = gr.pairs;
    uses = o.uses;
    rest = x.pairs.0;
    held = rw e gr.held;
    stand = x.pairs.1;
    as_many = sym (pairs-length o.uses) ∙ x.pairs_many;
    is = λ i. refl;
  }

  one : (m : ℕ) (o : Object) (k : List ℕ) {at : ℕ} {g : Group} {cs cs₁ : List ℕ} {c c₁ : ℕ} → Sound gr.heads gr.known o → Each (Calls gr.rules) o.rules → drop at words ≡ object_words gr.common m o ++ k → GroupAt words at collected g
      → ClosesGroup words names sites lowest g cs c cs₁ c₁ → Appends cs c (rules_cells (closed (closing gr.known (known_of 0 gr.rules) gr.own gr.pairs o.aims) o.rules)) cs₁ c₁
  unfolding view_of
  one m o k {at} {g} {cs} {cs₁} {c} {c₁} s e d x f =
      let y = x.is gr.common (view_of m o) k (d ∙ ap (λ (ws : List ℕ). ws ++ k) (object-words gr.common m o)) in
      let h = f (in_row (lowests gr.known gr.own gr.pairs o.uses)) (lows m o y x.collects) (view.rules_of o.aims (first_pair o) o.rules) k y.rules y.rules_many in
      let q : close_rules (in_row (lowests gr.known gr.own gr.pairs o.uses)) (texts_at words names) (view.rules_of o.aims (first_pair o) o.rules) ≡ rules_cells (closed (closing gr.known (known_of 0 gr.rules) gr.own gr.pairs o.aims) o.rules) =
      ap (λ (ts : List (List ℕ)). close_rules (in_row (lowests gr.known gr.own gr.pairs o.uses)) ts (view.rules_of o.aims (first_pair o) o.rules)) gr.texts ∙ object-closed gr.known gr.own gr.pairs gr.rules gr.heads o s o.rules s.rules e in
      rw q at h

  pub all-on : {cs : List ℕ} {at m : ℕ} → GoingAll cs at m → at < length words → {g : Group} → GroupAt words at collected g → {cs₁ : List ℕ} {m₁ : ℕ} → ClosesGroup words names sites lowest g cs m cs₁ m₁
      → {r : ℕ} → ObjectEnds words at r → GoingAll cs₁ r m₁
  unfolding all_words Each rules_of closed_in
  all-on {cs} {at} {m} x l {g} y {cs₁} {m₁} f {r} z = go x.lengths x.left x.here x.as_many x.sound x.called x.appends
    where
      nothing : drop at words ≡ [] → ⊥
      nothing e = let a = ap length e in let b = length-drop at words in omega (arith, a, b, l)

      go : (ls : List ℕ) (os : List Object) → drop at words ≡ all_words gr.common ls os → length ls ≡ length os → Each (Sound gr.heads gr.known) os → Each (Calls gr.rules) (rules_of os)
          → ((cs' : List ℕ) (c : ℕ) → Appends cs m (rules_cells (closed_in gr.known (known_of 0 gr.rules) gr.own gr.pairs os)) cs' c → Appends cs₀ 0 (rules_cells (closed_in gr.known (known_of 0 gr.rules) gr.own gr.pairs os₀)) cs' c) → GoingAll cs₁ r m₁
      go [] os e a s t h = absurd (nothing e)
      go (i ∷ ls) [] e a s t h = absurd (nothing e)
      go (i ∷ ls) (o ∷ os) e a s t h =
          let w = one i o (all_words gr.common ls os) s.0 (each_left (Calls gr.rules) o.rules (rules_of os) t) e y f in
          record {
            lengths = ls;
            left = os;
            here = z.rest gr.common i o (all_words gr.common ls os) e;
            as_many = omega (arith, a);
            sound = s.1;
            called = each_right (Calls gr.rules) o.rules (rules_of os) t;
            appends = λ cs' c b. h cs' c (rw (rules-append (closed (closing gr.known (known_of 0 gr.rules) gr.own gr.pairs o.aims) o.rules) (closed_in gr.known (known_of 0 gr.rules) gr.own gr.pairs os)) (appends-then w b));
          }

  pub all_end : {cs : List ℕ} {at m : ℕ} → GoingAll cs at m → length words ≤ at → m ≤ suc (length cs) → Appends cs₀ 0 (rules_cells (closed_in gr.known (known_of 0 gr.rules) gr.own gr.pairs os₀)) cs m
  unfolding all_words closed_in rules_cells object_words
  all_end {cs} {at} {m} x l b = go x.lengths x.left x.here x.as_many x.appends
    where
      go : (ls : List ℕ) (os : List Object) → drop at words ≡ all_words gr.common ls os → length ls ≡ length os
          → ((cs' : List ℕ) (c : ℕ) → Appends cs m (rules_cells (closed_in gr.known (known_of 0 gr.rules) gr.own gr.pairs os)) cs' c → Appends cs₀ 0 (rules_cells (closed_in gr.known (known_of 0 gr.rules) gr.own gr.pairs os₀)) cs' c)
          → Appends cs₀ 0 (rules_cells (closed_in gr.known (known_of 0 gr.rules) gr.own gr.pairs os₀)) cs m
      go ls [] e a h = h cs m (appends-none cs m b)
      go [] (o ∷ os) e a h = absurd (omega (arith, a))
      go (i ∷ ls) (o ∷ os) e a h = let c = ap length e in let d = length-drop at words in absurd (omega (arith, c, d, l))

  pub all_first : (ns : List ℕ) → words ≡ all_words gr.common ns os₀ → length ns ≡ length os₀ → Each (Sound gr.heads gr.known) os₀ → Each (Calls gr.rules) (rules_of os₀) → GoingAll cs₀ 0 0
  all_first ns e l s t = record { lengths = ns; left = os₀; here = e; as_many = l; sound = s; called = t; appends = λ cs c h. h }
