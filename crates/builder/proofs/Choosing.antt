-- Choices: the selector, the labelled alternatives and otherwise, one law for each way in which a function goes on or returns.
use mathlib.Core.Bool.{Bool, false, ◌||◌, or-false, or_assoc}
use mathlib.Core.List.{List, [], ◌∷◌, ◌++◌}
use mathlib.Core.Logic.{◌⊎◌, inl, inr}
use mathlib.Core.Path.{◌≡◌, refl, sym, ap, ◌∙◌, subst}
use Prim.Native.Nat.{ℕ, ◌+◌, ◌-◌, ◌≤◌}
use lib.ListN.{length, take}
use native.Mathlib.Omega.{arith}
use Rattle.base.specs.Common.{member}
use Rattle.base.specs.Tree.{choice, nil, alternative, absent, otherwise}
use Rattle.resolver.proofs.Appending.{appends-length}
use Rattle.builder.proofs.Encoding.{choice-cells, alternative-cells}
use Rattle.builder.proofs.Laws.{ends-off, ends-fails, ends-here, ends-map, ends-moved, ends-then, member-more}
use Rattle.builder.specs.Parts.{LabelledTold, place_of, labelled_of, choices_of, Choices, choices_cells, Marks, ChoiceDone, AltsDone, OtherDone, LabelledDone}
use Rattle.cells.specs.Cells.{selector_cells, act_cells, alts_cells, other_cells}
use Rattle.declarations.proofs.Declaring.{alike}
use Rattle.declarations.specs.Decls.{Agrees, knowns_in}
use Rattle.grammar.specs.Derived.{Took, LabelsIn, last_label, more_labels, AltsIn, other_in, last_in, next_in}
use Rattle.maker.specs.Pairs.{PairsAre}
use Rattle.names.specs.Known.{Checked, good, wrong, ◌>>=◌, Known, KnownRule, Names}
use Rattle.names.specs.Resolve.{Place, selector_of, labels_of, act_of, acts_of, alts_of, other_of}
use Rattle.places.proofs.Heres.{took-kind, took-here, reference-kind}
use Rattle.program.specs.Past.{past, past_all, past_some, past_other, exits, exits_all, exits_some, exits_other}
use Rattle.program.specs.Program as means
use Rattle.resolver.specs.Resolved.{SelectedTold, DoneTold, BuiltTold, Appends, Ends, Flags, SelectorDone}
use Rattle.scanner.specs.Next.{Next}
use Rattle.scanner.specs.declared.WordAt.{WordAt}
use Rattle.symbols.specs.Rows.{held}
use Rattle.syntax.specs.Written as written
use Rattle.syntax.specs.Written.{Program}
use Rattle.words.specs.Words.{Word, words_at}

-- The order in which the parts are resolved

pair_then : {A B C : Type 0} (m : Checked A) (k : Checked B) (v : A → B → C)
    → ◌>>=◌ (◌>>=◌ {B = A × B} m (λ a. ◌>>=◌ {B = A × B} k (λ b. good (a, b)))) (λ x. good (v x.0 x.1)) ≡ ◌>>=◌ m (λ a. ◌>>=◌ k (λ b. good (v a b)))
pair_then (good a) (good b) v = refl
pair_then (good a) (wrong n w) v = refl
pair_then (wrong n w) k v = refl

choice-order : (p : Program) (names : Names) (rs : List KnownRule) (s : written.Selector) (q : written.Alts) (o : written.Other) (at : Place)
    → ◌>>=◌ (selector_of p names rs s) (λ c. ◌>>=◌ (choices_of p names rs q o at c.labels []) (λ x. good (choice c.by x.0 x.1))) ≡ act_of p names rs (choice s q o) at
unfolding choices_of act_of
choice-order p names rs s q o at =
    alike (selector_of p names rs s) (λ c. pair_then (alts_of p names rs q at c.labels []) (other_of p names rs o at) (λ alts other. choice c.by alts other))

abbrev both : Checked means.Alts → Checked means.Other → Checked Choices
both a l = ◌>>=◌ a (λ alts. ◌>>=◌ l (λ other. good (alts, other)))

-- labels, actions, the rest and otherwise
four : (m : Checked (List ℕ)) (k : Checked means.Acts) (f : List ℕ → Checked means.Alts) (l : Checked means.Other)
    → ◌>>=◌ {B = Choices} (◌>>=◌ {B = List ℕ × means.Acts} m (λ vs. ◌>>=◌ {B = List ℕ × means.Acts} k (λ body. good (vs, body))))
    (λ y. ◌>>=◌ (both (f y.0) l) (λ x. good (alternative y.0 y.1 x.0, x.1)))
    ≡ both (◌>>=◌ m (λ vs. ◌>>=◌ k (λ body. ◌>>=◌ (f vs) (λ rest. good (alternative vs body rest))))) l
four (wrong n w) k f l = refl
four (good vs) (wrong n w) f l = refl
four (good vs) (good body) f l = go (f vs) l
  where
    go : (a : Checked means.Alts) (l : Checked means.Other)
        → ◌>>=◌ {B = Choices} (both a l) (λ x. good (alternative vs body x.0, x.1)) ≡ both (◌>>=◌ a (λ rest. good (alternative vs body rest))) l
    go (wrong n w) l = refl
    go (good a) (wrong n w) = refl
    go (good a) (good o) = refl

alternative-order : (p : Program) (names : Names) (rs : List KnownRule) (ls : List Word) (b : written.Acts) (q : written.Alts) (o : written.Other) (at : Place) (ks : List Known) (seen : List ℕ)
    → ◌>>=◌ {B = Choices} (labelled_of p names rs ls b at ks seen) (λ y. ◌>>=◌ {B = Choices} (choices_of p names rs q o at ks (y.0 ++ seen)) (λ x. good (alternative y.0 y.1 x.0, x.1)))
    ≡ choices_of p names rs (alternative ls b q) o at ks seen
unfolding labelled_of choices_of alts_of
alternative-order p names rs ls b q o at ks seen =
    four (labels_of p names rs ls ks seen) (acts_of p names rs b at) (λ vs. alts_of p names rs q at ks (vs ++ seen)) (other_of p names rs o at)

-- The whole choice

pub choice-fail : {text rows : List ℕ} {n at : ℕ} {inside : Bool} {class : ℕ} {cs : List ℕ} {c : ℕ} {cs₁ : List ℕ} {s : SelectedTold} {r : BuiltTold}
    → SelectorDone text rows n at cs c cs₁ s → (s.done.fault ≡ 0 → ⊥) → r.done ≡ s.done → ChoiceDone text rows n at inside class cs c cs₁ r
unfolding act_of
choice-fail {text} {rows} {n} {at} {inside} {class} {cs} {c} {cs₁} {s} {r} S z e =
    let z₂ : r.done.fault ≡ 0 → ⊥ = λ k. z (sym (ap (λ (d : DoneTold). d.fault) e) ∙ k) in
    record {
      kept = record { same = S.same; low = λ k. absurd (z₂ k); high = λ k. absurd (z₂ k) };
      done = λ p names rs g x q o bar ws₁ ws₂ ws d t u.
          subst (λ (y : DoneTold). Ends (PairsAre text rows n p names) text ws cs c cs₁ (λ b. act_cells b []) (λ b. Flags r.past r.exits (past b) (exits b)) y (act_of p names rs (choice x q o) (place_of (held text rows n) inside class)))
          (sym e) (ends-fails (selector_of p names rs x) _ (S.done p names rs g x ws₁ d) z);
    }

pub choice-more : {text rows : List ℕ} {n at : ℕ} {inside : Bool} {class : ℕ} {cs : List ℕ} {c : ℕ} {cs₁ cs' seen : List ℕ} {s : SelectedTold} {r : BuiltTold} {w : WordAt}
    → SelectorDone text rows n at cs c cs₁ s → s.done.fault ≡ 0 → Next text s.done.at w → length seen ≡ 64
    → AltsDone text rows n w.next inside class s.class s.absent seen 0 false false cs₁ s.done.count cs' r → ChoiceDone text rows n at inside class cs c cs' r
unfolding past exits
choice-more {text} {rows} {n} {at} {inside} {class} {cs} {c} {cs₁} {cs'} {seen} {s} {r} {w} S z h l A = record {
  kept = record { same = A.kept.same ∙ S.same; low = λ e. omega (arith, S.low z, h.onto, A.kept.low e); high = A.kept.high };
  done = λ p names rs g x q o bar ws₁ ws₂ ws d t u.
      subst (λ m. Ends (PairsAre text rows n p names) text ws cs c cs' (λ b. act_cells b []) (λ b. Flags r.past r.exits (past b) (exits b)) r.done m)
      (choice-order p names rs x q o (place_of (held text rows n) inside class))
      (ends-then (λ _. choices_cells s.absent)
      (λ _. Marks r false false)
      (λ b. act_cells b []) (λ b. Flags r.past r.exits (past b) (exits b)) (λ k y. choice k.by y.0 y.1) (selector_of p names rs x)
      (λ k. choices_of p names rs q o (place_of (held text rows n) inside class) k.labels []) (S.done p names rs g x ws₁ d) z
      (λ k here pk. subst (λ ks. Ends (PairsAre text rows n p names) text ws cs₁ s.done.count cs' (choices_cells s.absent)
      (Marks r false false) r.done
      (choices_of p names rs q o (place_of (held text rows n) inside class) ks [])) (sym pk.0)
      (A.done p names rs g q o 64 ws
      (subst (λ l. AltsIn l ws 64 q o) (took-here text s.done.at 124 w bar ws₂ (omega arith) h (subst (λ l. Took 124 l bar ws₂) here t)).behind u) (omega (arith, l)) [] (λ v. refl)))
      (λ k y pk qy. (choice-cells k.by y.0 y.1 ∙ ap (λ e. selector_cells k.by [] ++ alts_cells y.0 (other_cells y.1 e [])) (sym pk.1), qy)));
}

-- Alternatives

-- labels begin with a name or a string
labels-begin : {text : List ℕ} {at : ℕ} {w : WordAt} {ws ls : List Word} → Next text at w → LabelsIn (words_at text at) ws ls → w.kind ≡ 42 → ⊥
labels-begin {text} {at} {w} {ws} h (last_label {w = v} d _) e = go (reference-kind text at w v ws h d)
  where
    go : (w.kind ≡ 257) ⊎ (w.kind ≡ 259) → ⊥
    go (inl k) = omega (arith, e, k)
    go (inr k) = omega (arith, e, k)
labels-begin {text} {at} {w} h (more_labels {ws₁ = ws₁} {w = v} d _ _) e = go (reference-kind text at w v ws₁ h d)
  where
    go : (w.kind ≡ 257) ⊎ (w.kind ≡ 259) → ⊥
    go (inl k) = omega (arith, e, k)
    go (inr k) = omega (arith, e, k)

pub alts-other : {text rows : List ℕ} {n at : ℕ} {inside : Bool} {class labels miss : ℕ} {seen : List ℕ} {used : ℕ} {one some : Bool} {cs : List ℕ} {c : ℕ} {cs' : List ℕ} {o r : BuiltTold} {w : WordAt}
    → Next text at w → w.kind ≡ 42 → OtherDone text rows n w.next inside class cs c cs' o → r.done ≡ o.done → r.past ≡ (one || o.past) → r.exits ≡ (some || o.exits)
    → AltsDone text rows n at inside class labels miss seen used one some cs c cs' r
unfolding choices_of alts_of alts_cells past_some exits_some
alts-other {text} {rows} {n} {at} {inside} {class} {labels} {miss} {seen} {used} {one} {some} {cs} {c} {cs'} {o} {r} {w} h k O e e₁ e₂ = record {
  kept = record {
    same = O.kept.same;
    low = λ f. omega (arith, ap (λ (d : DoneTold). d.at) e, h.onto, O.kept.low (sym (ap (λ (d : DoneTold). d.fault) e) ∙ f));
    high = λ f. omega (arith, ap (λ (d : DoneTold). d.at) e, O.kept.high (sym (ap (λ (d : DoneTold). d.fault) e) ∙ f));
  };
  done = go;
}
  where
    go : (p : Program) (names : Names) (rs : List KnownRule) → Agrees p names rs (held text rows n) → (q : written.Alts) (x : written.Other) (room : ℕ) (ws : List Word)
        → AltsIn (words_at text at) ws room q x → room + used ≤ length seen → (old : List ℕ) → ((v : ℕ) → member v old ≡ member v (take used seen))
        → Ends (PairsAre text rows n p names) text ws cs c cs' (choices_cells miss)
        (Marks r one some) r.done
        (choices_of p names rs q x (place_of (held text rows n) inside class) (knowns_in labels (held text rows n)) old)
    go p names rs g nil (otherwise b) room ws (other_in {ws₁ = ws₁} {ws₂ = ws₂} {ws₃ = ws₃} {star = star} {colon = colon} {close = close} t u d v) _ old _ =
        subst (λ (y : DoneTold). Ends (PairsAre text rows n p names) text ws cs c cs' (choices_cells miss)
        (Marks r one some) y
        (choices_of p names rs nil (otherwise b) (place_of (held text rows n) inside class) (knowns_in labels (held text rows n)) old)) (sym e)
        (ends-map (choices_cells miss)
        (Marks r one some) (λ y. (nil, y))
        (other_of p names rs (otherwise b) (place_of (held text rows n) inside class))
        (O.done p names rs g b colon close ws₂ ws₃ ws (subst (λ l. Took 58 l colon ws₂) (took-here text at 42 w star ws₁ (omega arith) h t).behind u) d v miss)
        (λ y f. (refl, (e₁ ∙ ap (λ t. one || t) f.0, e₂ ∙ ap (λ t. some || t) f.1))))
    go p names rs g (alternative ls b nil) absent room ws (last_in d _ _ _ _) _ old _ = absurd (labels-begin h d k)
    go p names rs g (alternative ls b q) x room ws (next_in d _ _ _ _ _) _ old _ = absurd (labels-begin h d k)
    go p names rs g nil absent room ws x8 _ old _ = elim x8 [ ]

pub alts-off : {text rows : List ℕ} {n at : ℕ} {inside : Bool} {class labels miss : ℕ} {seen : List ℕ} {used : ℕ} {one some : Bool} {cs : List ℕ} {c : ℕ} {cs' : List ℕ} {o : BuiltTold} {w : WordAt}
    → Next text at w → w.kind ≡ 42 → OtherDone text rows n w.next inside class cs c cs' o → (o.done.fault ≡ 0 → ⊥)
    → AltsDone text rows n at inside class labels miss seen used one some cs c cs' o
alts-off {one = one} {some = some} {o = o} h k O z = record {
  kept = record { same = O.kept.same; low = λ e. absurd (z e); high = λ e. absurd (z e) };
  done = λ p names rs g q x room ws d f old m.
      ends-off ((alts-other {r = record { done = o.done; past = one || o.past; exits = some || o.exits }} h k O refl refl refl).done p names rs g q x room ws d f old m) z;
}

pub alts-fail : {text rows : List ℕ} {n at : ℕ} {inside : Bool} {class labels miss : ℕ} {seen : List ℕ} {used : ℕ} {seen' : List ℕ} {one some : Bool} {cs : List ℕ} {c : ℕ} {cs' : List ℕ} {l : LabelledTold} {w : WordAt}
    → Next text at w → (w.kind ≡ 42 → ⊥) → LabelledDone text rows n at inside class labels seen used seen' cs c cs' l → (l.built.done.fault ≡ 0 → ⊥)
    → AltsDone text rows n at inside class labels miss seen used one some cs c cs' l.built
alts-fail {text} {rows} {n} {at} {inside} {class} {labels} {miss} {seen} {used} {seen'} {one} {some} {cs} {c} {cs'} {l} {w} h k L z =
    record { kept = record { same = L.kept.same; low = λ e. absurd (z e); high = λ e. absurd (z e) }; done = go }
  where
    go : (p : Program) (names : Names) (rs : List KnownRule) → Agrees p names rs (held text rows n) → (q : written.Alts) (x : written.Other) (room : ℕ) (ws : List Word)
        → AltsIn (words_at text at) ws room q x → room + used ≤ length seen → (old : List ℕ) → ((v : ℕ) → member v old ≡ member v (take used seen))
        → Ends (PairsAre text rows n p names) text ws cs c cs' (choices_cells miss)
        (Marks l.built one some) l.built.done
        (choices_of p names rs q x (place_of (held text rows n) inside class) (knowns_in labels (held text rows n)) old)
    go p names rs g nil (otherwise b) room ws (other_in {ws₁ = ws₁} {star = star} t _ _ _) _ old _ = absurd (k (took-kind text at 42 w star ws₁ h t))
    go p names rs g (alternative ls b nil) absent room ws (last_in {ws₁ = ws₁} {ws₂ = ws₂} {ws₃ = ws₃} {colon = colon} d i t e u) fits old m =
        subst (λ y. Ends (PairsAre text rows n p names) text ws cs c cs' (choices_cells miss) (Marks l.built one some) l.built.done y) (alternative-order p names rs ls b nil absent (place_of (held text rows n) inside class) (knowns_in labels (held text rows n)) old)
        (ends-fails (labelled_of p names rs ls b (place_of (held text rows n) inside class) (knowns_in labels (held text rows n)) old) _
        (L.done p names rs g ls b colon ws₁ ws₂ ws₃ d (omega (arith, i, fits)) t e old m) z)
    go p names rs g (alternative ls b q) x room ws (next_in {ws₁ = ws₁} {ws₂ = ws₂} {ws₃ = ws₃} {colon = colon} d i t e u f) fits old m =
        subst (λ y. Ends (PairsAre text rows n p names) text ws cs c cs' (choices_cells miss) (Marks l.built one some) l.built.done y) (alternative-order p names rs ls b q x (place_of (held text rows n) inside class) (knowns_in labels (held text rows n)) old)
        (ends-fails (labelled_of p names rs ls b (place_of (held text rows n) inside class) (knowns_in labels (held text rows n)) old) _
        (L.done p names rs g ls b colon ws₁ ws₂ ws₃ d (omega (arith, i, fits)) t e old m) z)
    go p names rs g nil absent room ws x8 fits old m = elim x8 [ ]

pub alts-last : {text rows : List ℕ} {n at : ℕ} {inside : Bool} {class labels miss : ℕ} {seen : List ℕ} {used : ℕ} {seen' : List ℕ} {one some : Bool} {cs : List ℕ} {c : ℕ} {cs₁ cs' : List ℕ} {l : LabelledTold}
    {r : BuiltTold} {w v : WordAt}
    → Next text at w → (w.kind ≡ 42 → ⊥) → LabelledDone text rows n at inside class labels seen used seen' cs c cs₁ l → l.built.done.fault ≡ 0
    → Next text l.built.done.at v → (v.kind ≡ 124 → ⊥) → Appends cs₁ l.built.done.count (miss ∷ []) cs' r.done.count
    → r.done.fault ≡ 0 → r.done.at ≡ v.next → r.past ≡ (one || l.built.past) → r.exits ≡ (some || l.built.exits)
    → AltsDone text rows n at inside class labels miss seen used one some cs c cs' r
unfolding choices_of alts_of other_of alts_cells past_some exits_some
alts-last {text} {rows} {n} {at} {inside} {class} {labels} {miss} {seen} {used} {seen'} {one} {some} {cs} {c} {cs₁} {cs'} {l} {r} {w} {v} h k L z h₂ k₂ app f a e₁ e₂ = record {
  kept = record { same = appends-length app ∙ L.kept.same; low = λ e. omega (arith, a, L.kept.low z, h₂.onto); high = λ e. omega (arith, a, h₂.high (L.kept.high z)) };
  done = go;
}
  where
    go : (p : Program) (names : Names) (rs : List KnownRule) → Agrees p names rs (held text rows n) → (q : written.Alts) (x : written.Other) (room : ℕ) (ws : List Word)
        → AltsIn (words_at text at) ws room q x → room + used ≤ length seen → (old : List ℕ) → ((v : ℕ) → member v old ≡ member v (take used seen))
        → Ends (PairsAre text rows n p names) text ws cs c cs' (choices_cells miss)
        (Marks r one some) r.done
        (choices_of p names rs q x (place_of (held text rows n) inside class) (knowns_in labels (held text rows n)) old)
    go p names rs g nil (otherwise b) room ws (other_in {ws₁ = ws₁} {star = star} t _ _ _) _ old _ = absurd (k (took-kind text at 42 w star ws₁ h t))
    go p names rs g (alternative ls b nil) absent room ws (last_in {ws₁ = ws₁} {ws₂ = ws₂} {ws₃ = ws₃} {colon = colon} {close = close} d i t e u) fits old m =
        subst (λ y. Ends (PairsAre text rows n p names) text ws cs c cs' (choices_cells miss)
        (Marks r one some) r.done y)
        (alternative-order p names rs ls b nil absent (place_of (held text rows n) inside class) (knowns_in labels (held text rows n)) old)
        (ends-map (choices_cells miss)
        (Marks r one some)
        (λ (y : List ℕ × means.Acts). (alternative y.0 y.1 nil, absent)) (labelled_of p names rs ls b (place_of (held text rows n) inside class) (knowns_in labels (held text rows n)) old)
        (ends-moved (labelled_of p names rs ls b (place_of (held text rows n) inside class) (knowns_in labels (held text rows n)) old)
        (L.done p names rs g ls b colon ws₁ ws₂ ws₃ d (omega (arith, i, fits)) t e old m) z f
        (λ here. (took-here text l.built.done.at 93 v close ws (omega arith) h₂ (subst (λ l. Took 93 l close ws) here u)).behind ∙ ap (words_at text) (sym a)) app)
        (λ y py. (
          alternative-cells y.0 y.1 nil (miss ∷ []),
          (
            e₁ ∙ ap (λ t. one || t) (py.0.0 ∙ sym (or-false (past_all y.1)) ∙ sym (or-false (past_all y.1 || false))),
            e₂ ∙ ap (λ t. some || t) (py.0.1 ∙ sym (or-false (exits_all y.1)) ∙ sym (or-false (exits_all y.1 || false))),
          ),
        )))
    go p names rs g (alternative ls b q) x room ws (next_in {ws₁ = ws₁} {ws₂ = ws₂} {ws₃ = ws₃} {ws₄ = ws₄} {colon = colon} {bar = bar} d i t e u f) fits old m =
        let here : ws₃ ≡ words_at text l.built.done.at =
        ends-here (labelled_of p names rs ls b (place_of (held text rows n) inside class) (knowns_in labels (held text rows n)) old)
        (L.done p names rs g ls b colon ws₁ ws₂ ws₃ d (omega (arith, i, fits)) t e old m) z in
        absurd (k₂ (took-kind text l.built.done.at 124 v bar ws₄ h₂ (subst (λ l. Took 124 l bar ws₄) here u)))
    go p names rs g nil absent room ws x8 fits old m = elim x8 [ ]

pub alts-next : {text rows : List ℕ} {n at : ℕ} {inside : Bool} {class labels miss : ℕ} {seen : List ℕ} {used : ℕ} {seen' : List ℕ} {one some one' some' : Bool} {cs : List ℕ} {c : ℕ} {cs₁ cs' : List ℕ} {l : LabelledTold}
    {r : BuiltTold} {w v : WordAt}
    → Next text at w → (w.kind ≡ 42 → ⊥) → LabelledDone text rows n at inside class labels seen used seen' cs c cs₁ l → l.built.done.fault ≡ 0
    → Next text l.built.done.at v → v.kind ≡ 124 → one' ≡ (one || l.built.past) → some' ≡ (some || l.built.exits)
    → AltsDone text rows n v.next inside class labels miss seen' l.used one' some' cs₁ l.built.done.count cs' r
    → AltsDone text rows n at inside class labels miss seen used one some cs c cs' r
unfolding alts_cells past_some exits_some
alts-next {text} {rows} {n} {at} {inside} {class} {labels} {miss} {seen} {used} {seen'} {one} {some} {one'} {some'} {cs} {c} {cs₁} {cs'} {l} {r} {w} {v} h k L z h₂ k₂ e₁ e₂ A = record {
  kept = record { same = A.kept.same ∙ L.kept.same; low = λ e. omega (arith, L.kept.low z, h₂.onto, A.kept.low e); high = A.kept.high };
  done = go;
}
  where
    go : (p : Program) (names : Names) (rs : List KnownRule) → Agrees p names rs (held text rows n) → (q : written.Alts) (x : written.Other) (room : ℕ) (ws : List Word)
        → AltsIn (words_at text at) ws room q x → room + used ≤ length seen → (old : List ℕ) → ((v : ℕ) → member v old ≡ member v (take used seen))
        → Ends (PairsAre text rows n p names) text ws cs c cs' (choices_cells miss)
        (Marks r one some) r.done
        (choices_of p names rs q x (place_of (held text rows n) inside class) (knowns_in labels (held text rows n)) old)
    go p names rs g nil (otherwise b) room ws (other_in {ws₁ = ws₁} {star = star} t _ _ _) _ old _ = absurd (k (took-kind text at 42 w star ws₁ h t))
    go p names rs g (alternative ls b nil) absent room ws (last_in {ws₁ = ws₁} {ws₂ = ws₂} {ws₃ = ws₃} {colon = colon} {close = close} d i t e u) fits old m =
        let here : ws₃ ≡ words_at text l.built.done.at =
        ends-here (labelled_of p names rs ls b (place_of (held text rows n) inside class) (knowns_in labels (held text rows n)) old)
        (L.done p names rs g ls b colon ws₁ ws₂ ws₃ d (omega (arith, i, fits)) t e old m) z in
        absurd (omega (arith, k₂, took-kind text l.built.done.at 93 v close ws h₂ (subst (λ l. Took 93 l close ws) here u)))
    go p names rs g (alternative ls b q) x room ws (next_in {ws₁ = ws₁} {ws₂ = ws₂} {ws₃ = ws₃} {ws₄ = ws₄} {colon = colon} {bar = bar} d i t e u f) fits old m =
        subst (λ y. Ends (PairsAre text rows n p names) text ws cs c cs' (choices_cells miss)
        (Marks r one some) r.done y)
        (alternative-order p names rs ls b q x (place_of (held text rows n) inside class) (knowns_in labels (held text rows n)) old)
        (ends-then (λ _. choices_cells miss)
        (λ _. Marks r one' some')
        (choices_cells miss)
        (Marks r one some)
        (λ a y. (alternative a.0 a.1 y.0, y.1)) (labelled_of p names rs ls b (place_of (held text rows n) inside class) (knowns_in labels (held text rows n)) old)
        (λ a. choices_of p names rs q x (place_of (held text rows n) inside class) (knowns_in labels (held text rows n)) (a.0 ++ old))
        (L.done p names rs g ls b colon ws₁ ws₂ ws₃ d (omega (arith, i, fits)) t e old m) z
        (λ a here pa. A.done p names rs g q x (room - length ls) ws
        (subst (λ l. AltsIn l ws (room - length ls) q x) (took-here text l.built.done.at 124 v bar ws₄ (omega arith) h₂ (subst (λ l. Took 124 l bar ws₄) here u)).behind f)
        (omega (arith, i, fits, L.same, pa.1)) (a.0 ++ old)
        (λ t. member-more old a.0 (take used seen) m t ∙ ap (λ l. member t l) (sym pa.2)))
        (λ a y pa qy. (
          alternative-cells a.0 a.1 y.0 (other_cells y.1 miss []),
          (
            qy.0 ∙ ap (λ t. t || (past_some y.0 || past_other y.1)) (e₁ ∙ ap (λ t. one || t) pa.0.0) ∙ or_assoc one (past_all a.1) (past_some y.0 || past_other y.1)
                ∙ ap (λ t. one || t) (sym (or_assoc (past_all a.1) (past_some y.0) (past_other y.1))),
            qy.1 ∙ ap (λ t. t || (exits_some y.0 || exits_other y.1)) (e₂ ∙ ap (λ t. some || t) pa.0.1) ∙ or_assoc some (exits_all a.1) (exits_some y.0 || exits_other y.1)
                ∙ ap (λ t. some || t) (sym (or_assoc (exits_all a.1) (exits_some y.0) (exits_other y.1))),
          ),
        ))
        )
    go p names rs g nil absent room ws x8 fits old m = elim x8 [ ]
