-- The buffers once the rules of all objects and those made for operators stand in them: they are those of the program as linking has it.
use mathlib.Core.Bool.{Bool, true, false, ◌||◌}
use mathlib.Core.List.{List, [], ◌∷◌, ◌++◌}
use mathlib.Core.Option.{Option, none, some}
use mathlib.Core.Path.{◌≡◌, refl, sym, ap, ◌∙◌, subst}
use native.Mathlib.Omega.{arith}
use Prim.Native.Nat.{ℕ, zero, suc, ◌+◌, ◌<◌, ◌≤◌}
use lib.Dec.{eqb, ltb}
use lib.ListN.{length, get_or, length-append}
use Rattle.acceptance.proofs.Accepts.{at_place, later-procedures, nobody-ok}
use Rattle.acceptance.proofs.NamesOk.{each_append, sections-ok}
use Rattle.acceptance.proofs.Shape.{Each}
use Rattle.acceptance.proofs.Used.{made-are, made-few, made_each}
use Rattle.base.specs.Common.{given}
use Rattle.calls.specs.Renumber.{renumber_rule}
use Rattle.cells.specs.Cells.{acts_cells, rules_cells, cells_start, sort_of}
use Rattle.frontend.proofs.Joining.{rules-append}
use Rattle.frontend.proofs.Rests.{joined, sorts_are, starts_are}
use Rattle.frontend.specs.Resolving.{Ready}
use Rattle.levels.specs.Making.{MadeEnd}
use Rattle.levels.specs.declared.Made.{Made}
use Rattle.linkage.proofs.Few.{acts-few}
use Rattle.linkage.specs.Groups.{Calls}
use Rattle.linkage.specs.Placed.{cells_before, sort_at, Placed}
use Rattle.linkchecks.specs.Row.{Item, in_text, row_from}
use Rattle.linker.proofs.Rules.{rule-closed}
use Rattle.linker.specs.Close.{behind, in_row, places_after, close_from, close_cells}
use Rattle.linker.specs.Place.{rule_texts, places_for, lowests}
use Rattle.names.specs.Known.{good, Names}
use Rattle.names.specs.Understand.{nobody}
use Rattle.names.specs.Uses.{Use, made_for}
use Rattle.objects.specs.View as view
use Rattle.objects.specs.View.{view_of, views_of, rule_of as view_rule}
use Rattle.parts.proofs.Accepted.{common-ok}
use Rattle.parts.proofs.Alike.{each_left, each_right}
use Rattle.parts.proofs.Linking.{common_is}
use Rattle.parts.proofs.Sound.{FewRule, level-few, all-few, some-rules, program-is, program-accepted, unlike-all}
use Rattle.parts.specs.Form.{AreObjects, body_cells, first_pair}
use Rattle.parts.specs.Link.{rules_of, first_typed, unlike_in, is_named, pairs_in, known_of, closing, closed, closed_in, program}
use Rattle.parts.specs.Objects.{OpenRule, Object, common_means, together}
use Rattle.parts.specs.Sound.{texts_of, call_words, SoundRule, Sound}
use Rattle.program.specs.Accepted.{Accepted}
use Rattle.program.specs.Program.{Rule, rule_of, body_of}
use Rattle.resolver.specs.Resolved.{Appends}
use Rattle.syntax.specs.Reading.{got}
use Rattle.syntax.specs.Sections.{names_in_all}
use Rattle.syntax.specs.Texts.{Head, Common, read_common}
use Rattle.words.specs.Words.{Word}
use Rattle.words.specs.Words as word

-- Every call is of a rule

calls-each : (rules rs : List OpenRule) → Each (λ w. is_named w.text rules ≡ true) (call_words rs) → Each (Calls rules) rs
unfolding call_words Each
calls-each rules [] h = tt
calls-each rules (r ∷ rs) h =
    (each_left (λ w. is_named w.text rules ≡ true) r.calls (call_words rs) h, calls-each rules rs (each_right (λ w. is_named w.text rules ≡ true) r.calls (call_words rs) h))

pub all-called : (hs : List Head) (os : List Object) → unlike_in hs (rules_of os) 1 os ≡ none → Each (Calls (rules_of os)) (rules_of os)
all-called hs os e = calls-each (rules_of os) (rules_of os) (unlike-all hs (rules_of os) 1 os e).1

-- Closing keeps the number of cells

close-length : (low : ℕ → ℕ) (first left : ℕ) (places cells : List ℕ) → length (close_from low first left places cells) ≡ length cells
unfolding close_from
close-length low first left places [] = refl
close-length low first zero places (x ∷ cells) = ap suc (close-length low x (behind x) places cells)
close-length low first (suc left) places (x ∷ cells) = ap suc (close-length low first left (places_after low first places) cells)

-- The rules of the objects, beside the row of their views

module _ (n : Names) (own : ℕ) (us : List Use) (rules : List OpenRule) (hs : List Head) where
  cells-many : (o : Object) → Sound hs n o → (r : OpenRule) → SoundRule hs o.aims r → Calls rules r
      → length (acts_cells (renumber_rule (closing n (known_of 0 rules) own us o.aims) r.means).body []) ≡ length (body_cells o.aims (first_pair o) r.means.body)
  unfolding close_cells
  cells-many o s r t e =
      ap (λ (xs : List ℕ). length xs) (sym (rule-closed n own us rules hs o s r t e))
      ∙ close-length (in_row (lowests n own us o.uses)) 0 0 (places_for (rule_texts rules) (texts_of r.calls)) (body_cells o.aims (first_pair o) r.means.body)

  object-starts : (o : Object) → Sound hs n o → (i : ℕ) (more : List Rule) (row : List Item) → ((c j : ℕ) → j < length more → cells_start c more j ≡ c + cells_before row j)
      → (rs : List OpenRule) → Each (SoundRule hs o.aims) rs → Each (Calls rules) rs → (c j : ℕ) → j < length (closed (closing n (known_of 0 rules) own us o.aims) rs ++ more)
      → cells_start c (closed (closing n (known_of 0 rules) own us o.aims) rs ++ more) j ≡ c + cells_before (in_text i (view.rules_of o.aims (first_pair o) rs) ++ row) j
  unfolding closed cells_start cells_before in_text view.rules_of view_rule Each
  object-starts o s i more row h [] t e c j l = h c j l
  object-starts o s i more row h (r ∷ rs) t e c zero l = omega arith
  object-starts o s i more row h (r ∷ rs) t e c (suc j) l =
      let to = closing n (known_of 0 rules) own us o.aims in
      let m = cells-many o s r t.0 e.0 in
      let ih = object-starts o s i more row h rs t.1 e.1 (c + length (acts_cells (renumber_rule to r.means).body [])) j (omega (arith, l)) in
      omega (arith, ih, m)

  row-starts : (i : ℕ) (ns : List ℕ) (os : List Object) → length ns ≡ length os → Each (Sound hs n) os → Each (Calls rules) (rules_of os) → (c j : ℕ) → j < length (closed_in n (known_of 0 rules) own us os)
      → cells_start c (closed_in n (known_of 0 rules) own us os) j ≡ c + cells_before (row_from i (views_of ns os)) j
  unfolding closed_in views_of view_of row_from rules_of Each
  row-starts i [] [] a s e c j l = absurd (omega (arith, l))
  row-starts i [] (o ∷ os) a s e c j l = absurd (omega (arith, a))
  row-starts i (m ∷ ns) [] a s e c j l = absurd (omega (arith, a))
  row-starts i (m ∷ ns) (o ∷ os) a s e c j l =
      object-starts o s.0 i (closed_in n (known_of 0 rules) own us os) (row_from (suc i) (views_of ns os))
      (row-starts (suc i) ns os (omega (arith, a)) s.1 (each_right (Calls rules) o.rules (rules_of os) e)) o.rules s.0.rules (each_left (Calls rules) o.rules (rules_of os) e) c j l

  sort-is : (o : Option Word) (v : Bool) → v ≡ given o → sort_of (given (view.option_of o)) ≡ sort_of v
  unfolding view.option_of
  sort-is none v e = ap sort_of (sym e)
  sort-is (some w) v e = ap sort_of (sym e)

  object-sorts : (o : Object) (i : ℕ) (more : List Rule) (row : List Item) → ((j : ℕ) → j < length more → sort_at row j ≡ sort_of (rule_of more j).valued)
      → (rs : List OpenRule) → Each (SoundRule hs o.aims) rs → (j : ℕ) → j < length (closed (closing n (known_of 0 rules) own us o.aims) rs ++ more)
      → sort_at (in_text i (view.rules_of o.aims (first_pair o) rs) ++ row) j ≡ sort_of (rule_of (closed (closing n (known_of 0 rules) own us o.aims) rs ++ more) j).valued
  unfolding closed rule_of sort_at in_text view.rules_of view_rule renumber_rule Each
  object-sorts o i more row h [] t j l = h j l
  object-sorts o i more row h (r ∷ rs) t zero l = sort-is r.gives r.means.valued t.0.sort
  object-sorts o i more row h (r ∷ rs) t (suc j) l = object-sorts o i more row h rs t.1 j (omega (arith, l))

  row-sorts : (i : ℕ) (ns : List ℕ) (os : List Object) → length ns ≡ length os → Each (Sound hs n) os → (j : ℕ) → j < length (closed_in n (known_of 0 rules) own us os)
      → sort_at (row_from i (views_of ns os)) j ≡ sort_of (rule_of (closed_in n (known_of 0 rules) own us os) j).valued
  unfolding closed_in views_of view_of row_from Each
  row-sorts i [] [] a s j l = absurd (omega (arith, l))
  row-sorts i [] (o ∷ os) a s j l = absurd (omega (arith, a))
  row-sorts i (m ∷ ns) [] a s j l = absurd (omega (arith, a))
  row-sorts i (m ∷ ns) (o ∷ os) a s j l =
      object-sorts o i (closed_in n (known_of 0 rules) own us os) (row_from (suc i) (views_of ns os)) (row-sorts (suc i) ns os (omega (arith, a)) s.1) o.rules s.0.rules j l

  closed-many : (to : ℕ → ℕ) (rs : List OpenRule) → length (closed to rs) ≡ length rs
  unfolding closed
  closed-many to [] = refl
  closed-many to (r ∷ rs) = ap suc (closed-many to rs)

  rules_many : (os : List Object) → length (closed_in n (known_of 0 rules) own us os) ≡ length (rules_of os)
  unfolding closed_in rules_of
  rules_many [] = refl
  rules_many (o ∷ os) =
      let to = closing n (known_of 0 rules) own us o.aims in
      let a = length-append (closed to o.rules) (closed_in n (known_of 0 rules) own us os) in
      let b = length-append o.rules (rules_of os) in
      let d = closed-many to o.rules in
      let e = rules_many os in
      omega (arith, a, b, d, e)

-- a rule's cells begin among all cells
start-in : (i : ℕ) (xs : List Rule) (r : ℕ) → cells_start i xs r ≤ i + length (rules_cells xs)
unfolding cells_start rules_cells
start-in i [] r = omega arith
start-in i (x ∷ xs) zero = omega arith
start-in i (x ∷ xs) (suc r) =
    let ih = start-in (i + length (acts_cells x.body [])) xs r in
    let a = ap (λ (k : List ℕ). length k) (rules-append (x ∷ []) xs) in
    let b = length-append (acts_cells x.body []) (rules_cells xs) in
    omega (arith, ih, a, b)

-- The whole

module _ {common : List ℕ} {c : Common} {n : Names} {words : List ℕ} (h : AreObjects common c n words) where
  abbrev own : ℕ
  own = length (rules_of h.objects)

  abbrev mine : List Rule
  mine = closed_in n (known_of 0 (rules_of h.objects)) own (pairs_in h.objects) h.objects

  begins : {cs cs₁ starts sorts : List ℕ} {f k : ℕ} → Each (Calls (rules_of h.objects)) (rules_of h.objects) → Appends cs 0 (rules_cells mine) cs₁ f → length cs ≡ 4224
      → Placed (row_from 1 (views_of h.lengths h.objects)) k starts sorts → own ≤ k → own ≤ length starts
      → f ≤ length cs → (r : ℕ) → r < length mine → get_or starts r 0 ≡ cells_start 0 mine r
  begins {cs} {cs₁} {starts} {sorts} {f} {k} e a z p l m fits r below =
      let w = row-starts n own (pairs_in h.objects) (rules_of h.objects) c.listed 1 h.lengths h.objects h.as_many h.sound e 0 r below in
      let i = start-in 0 mine r in
      let y = rules_many n own (pairs_in h.objects) (rules_of h.objects) c.listed h.objects in
      let d = a.count in
      let x = p.starts_are r (omega (arith, y, l, below)) (omega (arith, y, m, below)) (omega (arith, w, i, d, fits, z)) in
      x ∙ omega (arith, w)

  sorted : {starts sorts : List ℕ} {k : ℕ} → Placed (row_from 1 (views_of h.lengths h.objects)) k starts sorts → own ≤ k → own ≤ length sorts
      → (r : ℕ) → r < length mine → get_or sorts r 0 ≡ sort_of (rule_of mine r).valued
  sorted p l m r below =
      let y = rules_many n own (pairs_in h.objects) (rules_of h.objects) c.listed h.objects in
      p.sorts_are r (omega (arith, y, l, below)) (omega (arith, y, m, below)) ∙ row-sorts n own (pairs_in h.objects) (rules_of h.objects) c.listed 1 h.lengths h.objects h.as_many h.sound r below

  -- what the checks of linking have found
  pub record Passed (rest : List Word) (ms : List Rule) : Type 0 where
    pub read : read_common common ≡ got c rest
    pub means : common_means c [] ≡ good n
    pub some : (eqb (length h.objects) 0 || ltb 16 (length h.objects)) ≡ false
    pub five : first_typed (rules_of h.objects) ≡ none
    pub forty-nine : unlike_in c.listed (rules_of h.objects) 1 h.objects ≡ none
    pub few : own ≤ 128
    pub few_names : names_in_all c.sections + own ≤ 512
    pub made : made_for n (known_of 0 (rules_of h.objects)) (names_in_all c.sections) own (pairs_in h.objects) ≡ good ms

  module _ {rest : List Word} {ms : List Rule} (x : Passed rest ms) where
    accepts : Accepted (mine ++ ms)
    unfolding together read_common
    accepts =
        let sections = common-ok (length common + 1) (word.words common) c rest x.read in
        let ok = sections-ok (together c []) c.sections nobody sections sections nobody-ok n (common_is c [] n x.means).sections in
        program-accepted c.listed n ok h.objects h.sound (some-rules c.listed n h.objects h.sound x.some) x.five x.forty-nine (names_in_all c.sections) ms x.made

    few-all : Each FewRule (mine ++ ms)
    few-all =
        each_append FewRule mine ms (all-few c.listed n (known_of 0 (rules_of h.objects)) own (pairs_in h.objects) h.objects h.sound)
        (made_each FewRule level-few n (known_of 0 (rules_of h.objects)) (names_in_all c.sections) own (pairs_in h.objects) ms x.made)

    pub ready : {cs cs₁ starts₁ sorts₁ cs₂ starts₂ sorts₂ : List ℕ} {f k : ℕ} {m : Made} → Appends cs 0 (rules_cells mine) cs₁ f → length cs ≡ 4224
        → Placed (row_from 1 (views_of h.lengths h.objects)) k starts₁ sorts₁ → own ≤ k → length starts₁ ≡ 128 → length sorts₁ ≡ 128
        → MadeEnd own cs₁ f cs₂ starts₁ sorts₁ starts₂ sorts₂ m ms → Ready cs₂ starts₂ sorts₂ m.rules m.count (program n (names_in_all c.sections) h.objects)
    unfolding body_of
    ready {cs} {cs₁} {starts₁} {sorts₁} {cs₂} {starts₂} {sorts₂} {f} {k} {m} a z p l s₁ s₂ e =
        let y = rules_many n own (pairs_in h.objects) (rules_of h.objects) c.listed h.objects in
        let q = x.few in
        let called = all-called c.listed h.objects x.forty-nine in
        let d = made-are n (known_of 0 (rules_of h.objects)) (names_in_all c.sections) own (pairs_in h.objects) ms x.made in
        let w = made-few n (known_of 0 (rules_of h.objects)) (names_in_all c.sections) own (pairs_in h.objects) (omega (arith, x.few), omega (arith, x.few_names)) ms x.made in
        let long = length-append mine ms in
        let g : MadeEnd (length mine) cs₁ f cs₂ starts₁ sorts₁ starts₂ sorts₂ m ms = subst (λ i. MadeEnd i cs₁ f cs₂ starts₁ sorts₁ starts₂ sorts₂ m ms) (sym y) e in
        subst (λ (prog : List Rule). Ready cs₂ starts₂ sorts₂ m.rules m.count prog) (program-is n (names_in_all c.sections) h.objects ms x.made)
        (record {
          accepts = accepts;
          labels = λ r b. (acts-few (body_of (mine ++ ms) r) (at_place FewRule (mine ++ ms) few-all r b)).0;
          choices = λ r b. (acts-few (body_of (mine ++ ms) r) (at_place FewRule (mine ++ ms) few-all r b)).1;
          number = omega (arith, g.rules, long);
          few = omega (arith, e.rules, d.0, w.0.0);
          before = cs;
          room = z;
          appends = joined mine ms a refl g;
          sorted = sorts_are mine ms a refl g (later-procedures mine ms d.1) (sorted p l (omega (arith, s₂, q)));
          begins = λ t. starts_are mine ms a refl g (begins called a z p l (omega (arith, s₁, q))) (omega (arith, t, z));
        })
