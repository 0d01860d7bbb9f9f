-- Alternatives: the labels that stand in the choice's array and are copied to the cells.
use mathlib.Core.Bool.{Bool, true, false}
use mathlib.Core.List.{List, [], ◌∷◌, ◌++◌}
use mathlib.Core.Path.{◌≡◌, refl, sym, ap, ◌∙◌, subst}
use Prim.Native.Nat.{ℕ, zero, suc, ◌+◌, ◌-◌, ◌<◌, ◌≤◌}
use lib.ListN.{length, take, drop, get_or, length-drop}
use lib.Seq.{drop-append_seam, get_or-drop, length-take-le, take-nil, take-suc}
use native.Mathlib.Omega.{arith}
use Rattle.base.specs.Common.{member}
use Rattle.resolver.proofs.Appending.{appends-length, appends-none, appends-then}
use Rattle.builder.proofs.Laws.{ends-off, Holds, ends-after, ends-map}
use Rattle.builder.specs.Parts.{LabelledTold, place_of, labelled_of, label_cells, ActsDone, LabelledDone}
use Rattle.cells.specs.Cells.{acts_cells}
use Rattle.declarations.specs.Decls.{knowns_in}
use Rattle.grammar.specs.Derived.{Took, ActsIn}
use Rattle.names.specs.Known.{Checked, good, wrong, ◌>>=◌, fault_if, lookup, Known, KnownRule, Names}
use Rattle.names.specs.Resolve.{labels_of, acts_of}
use Rattle.places.proofs.Heres.{took-here}
use Rattle.program.specs.Past.{past_all, exits_all}
use Rattle.program.specs.Program as means
use Rattle.resolver.specs.Resolved.{BuiltTold, LabelsTold, DoneTold, Appends, Ends, failed, Flags, LabelsEnd, labelled, mislabelled, LabelsDone}
use Rattle.scanner.specs.Next.{Next}
use Rattle.scanner.specs.declared.WordAt.{WordAt}
use Rattle.symbols.specs.Rows.{held}
use Rattle.syntax.specs.Written.{Program}
use Rattle.words.specs.Words.{Word, words_at}

-- as many values as labels
pub labels_length : (p : Program) (names : Names) (rs : List KnownRule) (ls : List Word) (ks : List Known) (seen : List ℕ) → Holds (λ vs. length vs ≡ length ls) (labels_of p names rs ls ks seen)
unfolding labels_of
labels_length p names rs [] ks seen = refl
labels_length p names rs (w ∷ ls) ks seen = go (lookup p ks w) (λ v. labels_length p names rs ls ks (v ∷ seen))
  where
    last : (v : ℕ) (m : Checked (List ℕ)) → Holds (λ vs. length vs ≡ length ls) m → Holds (λ vs. length vs ≡ suc (length ls)) (◌>>=◌ m (λ more. good (v ∷ more)))
    last v (good vs) e = ap suc e
    last v (wrong n u) e = tt

    tested : (v : ℕ) (b : Bool) → Holds (λ vs. length vs ≡ length ls) (labels_of p names rs ls ks (v ∷ seen))
        → Holds (λ vs. length vs ≡ suc (length ls)) (◌>>=◌ (fault_if b 6 w) (λ _. ◌>>=◌ (labels_of p names rs ls ks (v ∷ seen)) (λ more. good (v ∷ more))))
    tested v true e = tt
    tested v false e = last v (labels_of p names rs ls ks (v ∷ seen)) e

    go : (m : Checked ℕ) → ((v : ℕ) → Holds (λ vs. length vs ≡ length ls) (labels_of p names rs ls ks (v ∷ seen)))
        → Holds (λ vs. length vs ≡ suc (length ls)) (◌>>=◌ m (λ v. ◌>>=◌ (fault_if (member v seen) 6 w) (λ _. ◌>>=◌ (labels_of p names rs ls ks (v ∷ seen)) (λ more. good (v ∷ more)))))
    go (good v) q = tested v (member v seen) (q v)
    go (wrong n u) q = tt

labels-fail : {E B : Type 0} {text : List ℕ} {ws₁ : List Word} {seen : List ℕ} {used : ℕ} {seen' : List ℕ} {l : LabelsTold} (m : Checked (List ℕ)) (k : List ℕ → Checked B)
    {ws : List Word} {cs : List ℕ} {c : ℕ} {cs' : List ℕ} {h : B → List ℕ} {R : B → Type 0} {d : DoneTold}
    → LabelsEnd text ws₁ seen used seen' l m → (l.fault ≡ 0 → ⊥) → d.fault ≡ l.fault → d.at ≡ l.at → d.len ≡ l.len → Ends E text ws cs c cs' h R d (◌>>=◌ m k)
labels-fail (good vs) k (labelled e _ _ _) z e₁ e₂ e₃ = absurd (z e)
labels-fail (wrong n w) k (mislabelled e nz at len) z e₁ e₂ e₃ = failed (e₁ ∙ e) nz (e₂ ∙ at) (e₃ ∙ len)

labels-more : {E B : Type 0} {text : List ℕ} {ws₁ : List Word} {seen : List ℕ} {used : ℕ} {seen' : List ℕ} {l : LabelsTold} (long : ℕ) (m : Checked (List ℕ)) (k : List ℕ → Checked B)
    {ws : List Word} {cs : List ℕ} {c : ℕ} {cs' : List ℕ} {h : B → List ℕ} {R : B → Type 0} {d : DoneTold}
    → LabelsEnd text ws₁ seen used seen' l m → Holds (λ vs. length vs ≡ long) m → l.fault ≡ 0
    → ((vs : List ℕ) → ws₁ ≡ words_at text l.at → l.used ≡ used + length vs → take l.used seen' ≡ take used seen ++ vs → length vs ≡ long → Ends E text ws cs c cs' h R d (k vs))
    → Ends E text ws cs c cs' h R d (◌>>=◌ m k)
labels-more long (good vs) k (labelled e here u t) q z next = next vs here u t q
labels-more long (wrong n w) k (mislabelled e nz at len) q z next = absurd (nz (sym e ∙ z))

drop-take : (a b : ℕ) (l : List ℕ) → drop a (take (a + b) l) ≡ take b (drop a l)
drop-take zero b l = let e : 0 + b ≡ b = omega arith in rw e refl
drop-take (suc a) b [] = let e : suc a + b ≡ suc (a + b) = omega arith in rw e (sym (take-nil b))
drop-take (suc a) b (x ∷ l) = let e : suc a + b ≡ suc (a + b) = omega arith in rw e (drop-take a b l)

-- one label more is copied
pub labels-stored : (seen : List ℕ) {cs : List ℕ} {c : ℕ} {cs₁ : List ℕ} {c₁ : ℕ} {cs₂ : List ℕ} {c₂ : ℕ} (from i : ℕ) → from ≤ i → i < length seen
    → Appends cs c (take (i - from) (drop from seen)) cs₁ c₁ → Appends cs₁ c₁ (get_or seen i 0 ∷ []) cs₂ c₂ → Appends cs c (take (i + 1 - from) (drop from seen)) cs₂ c₂
labels-stored seen {cs} {c} {cs₁} {c₁} {cs₂} {c₂} from i low inn a b =
    let e : i + 1 - from ≡ suc (i - from) = omega (arith, low) in
    let l : i - from < length (drop from seen) = omega (arith, low, inn, length-drop from seen) in
    let g : from + (i - from) ≡ i = omega (arith, low) in
    let t : take (i + 1 - from) (drop from seen) ≡ take (i - from) (drop from seen) ++ (get_or seen i 0 ∷ []) =
    ap (λ k. take k (drop from seen)) e ∙ take-suc (drop from seen) (i - from) 0 l
    ∙ ap (λ k. take (i - from) (drop from seen) ++ (k ∷ [])) (get_or-drop from seen (i - from) 0 ∙ ap (λ k. get_or seen k 0) g) in
    subst (λ k. Appends cs c k cs₂ c₂) (sym t) (appends-then a b)

-- none is copied
pub labels-none : (seen : List ℕ) {cs : List ℕ} {c : ℕ} (from : ℕ) → c ≤ suc (length cs) → Appends cs c (take (from - from) (drop from seen)) cs c
labels-none seen {cs} {c} from h = let e : from - from ≡ 0 = omega arith in subst (λ k. Appends cs c (take k (drop from seen)) cs c) (sym e) (appends-none cs c h)

-- all are copied
pub labels-all : (seen : List ℕ) {cs : List ℕ} {c x : ℕ} {cs₁ : List ℕ} {c₁ : ℕ} {cs₂ : List ℕ} {c₂ : ℕ} (from to i : ℕ) → i ≤ to → to ≤ i → x ≡ 64 + (to - from)
    → Appends cs c (x ∷ []) cs₁ c₁ → Appends cs₁ c₁ (take (i - from) (drop from seen)) cs₂ c₂ → Appends cs c (label_cells seen from to) cs₂ c₂
unfolding label_cells
labels-all seen {cs} {c} {x} {cs₁} {c₁} {cs₂} {c₂} from to i low stop e a b =
    let g : i ≡ to = omega (arith, low, stop) in
    subst (λ k. Appends cs c (k ∷ take (to - from) (drop from seen)) cs₂ c₂) e (appends-then a (subst (λ k. Appends cs₁ c₁ (take (k - from) (drop from seen)) cs₂ c₂) g b))

-- the labels copied are the alternative's
copied : (seen seen' vs : List ℕ) (used to : ℕ) → used ≤ length seen → to ≡ used + length vs → take to seen' ≡ take used seen ++ vs
    → label_cells seen' used to ≡ (64 + length vs) ∷ vs
unfolding label_cells
copied seen seen' vs used to inn e q =
    let d : to - used ≡ length vs = omega (arith, e) in
    let u : length (take used seen) ≡ used = length-take-le used seen inn in
    let t : take (length vs) (drop used seen') ≡ vs =
    sym (drop-take used (length vs) seen') ∙ ap (λ k. drop used (take k seen')) (sym e) ∙ ap (λ k. drop used k) q
    ∙ ap (λ k. drop k (take used seen ++ vs)) (sym u) ∙ drop-append_seam (take used seen) vs in
    ap (λ k. (64 + k) ∷ take k (drop used seen')) d ∙ ap (λ k. (64 + length vs) ∷ k) t

pub labelled-fail : {text rows : List ℕ} {n at : ℕ} {inside : Bool} {class labels : ℕ} {seen : List ℕ} {used : ℕ} {seen' cs : List ℕ} {c : ℕ} {l : LabelsTold} {r : LabelledTold}
    → LabelsDone text rows n at labels seen used seen' l → (l.fault ≡ 0 → ⊥) → r.built.done.fault ≡ l.fault → r.built.done.at ≡ l.at → r.built.done.len ≡ l.len
    → LabelledDone text rows n at inside class labels seen used seen' cs c cs r
unfolding labelled_of
labelled-fail {text} {rows} {n} {at} {inside} {class} {labels} L z e₁ e₂ e₃ = record {
  kept = record { same = refl; low = λ k. absurd (z (sym e₁ ∙ k)); high = λ k. absurd (z (sym e₁ ∙ k)) };
  same = L.same;
  room = λ k. absurd (z (sym e₁ ∙ k));
  done = λ p names rs g ls q colon ws₁ ws₂ ws d fits t e old m.
      labels-fail (labels_of p names rs ls (knowns_in labels (held text rows n)) old) _ (L.done p names rs g ls ws₁ d fits old m) z e₁ e₂ e₃;
}

pub labelled-more : {text rows : List ℕ} {n at : ℕ} {inside : Bool} {class labels : ℕ} {seen : List ℕ} {used : ℕ} {seen' cs : List ℕ} {c : ℕ} {cs₁ : List ℕ} {c₁ : ℕ} {cs' : List ℕ} {l : LabelsTold} {r : LabelledTold} {w : WordAt}
    → used ≤ length seen → LabelsDone text rows n at labels seen used seen' l → l.fault ≡ 0 → Next text l.at w → Appends cs c (label_cells seen' used l.used) cs₁ c₁
    → ActsDone text rows n w.next inside class true false cs₁ c₁ cs' r.built → r.used ≡ l.used
    → LabelledDone text rows n at inside class labels seen used seen' cs c cs' r
unfolding labelled_of
labelled-more {text} {rows} {n} {at} {inside} {class} {labels} {seen} {used} {seen'} {cs} {c} {cs₁} {c₁} {cs'} {l} {r} {w} inn L z h app B u = record {
  kept = record { same = B.kept.same ∙ appends-length app; low = λ e. omega (arith, L.moves z, h.onto, B.kept.low e); high = B.kept.high };
  same = L.same;
  room = λ e. omega (arith, u, L.room z);
  done = λ p names rs g ls q colon ws₁ ws₂ ws d fits t e old m.
      labels-more (length ls) (labels_of p names rs ls (knowns_in labels (held text rows n)) old) _ (L.done p names rs g ls ws₁ d fits old m)
      (labels_length p names rs ls (knowns_in labels (held text rows n)) old) z
      (λ vs here used-is taken long. ends-map (λ (x : List ℕ × means.Acts). (64 + length x.0) ∷ (x.0 ++ acts_cells x.1 []))
      (λ (x : List ℕ × means.Acts). Flags r.built.past r.built.exits (past_all x.1) (exits_all x.1) × (r.used ≡ used + length ls) × (take r.used seen' ≡ take used seen ++ x.0))
      (λ body. (vs, body)) (acts_of p names rs q (place_of (held text rows n) inside class))
      (ends-after (acts_of p names rs q (place_of (held text rows n) inside class)) app
      (B.done p names rs g q ws (subst (λ k. ActsIn k ws q) (took-here text l.at 58 w colon ws₂ (omega arith) h (subst (λ k. Took 58 k colon ws₂) here t)).behind e)))
      (λ body flags. (ap (λ k. k ++ acts_cells body []) (sym (copied seen seen' vs used l.used inn used-is taken)), (flags, u ∙ used-is ∙ ap (λ k. used + k) long, ap (λ k. take k seen') u ∙ taken))));
}

-- where its actions have a fault nothing is said of its labels
pub labelled-off : {text rows : List ℕ} {n at : ℕ} {inside : Bool} {class labels : ℕ} {seen : List ℕ} {used : ℕ} {seen' cs : List ℕ} {c : ℕ} {cs' : List ℕ} {b : BuiltTold} {u v : ℕ}
    → LabelledDone text rows n at inside class labels seen used seen' cs c cs' (record { built = b; used = u }) → (b.done.fault ≡ 0 → ⊥)
    → LabelledDone text rows n at inside class labels seen used seen' cs c cs' (record { built = b; used = v })
labelled-off L z = record {
  kept = L.kept;
  same = L.same;
  room = λ e. absurd (z e);
  done = λ p names rs g ls q colon ws₁ ws₂ ws d fits t e old m. ends-off (L.done p names rs g ls q colon ws₁ ws₂ ws d fits t e old m) z;
}
