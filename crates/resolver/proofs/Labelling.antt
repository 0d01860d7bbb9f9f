-- Laws of labels: one label, and the labels from a place on by the first of them.
use mathlib.Core.Bool.{Bool, true, false, ◌||◌}
use mathlib.Core.List.{List, [], ◌∷◌, ◌++◌, append_assoc, append-nil}
use mathlib.Core.Logic.{◌⊎◌, inl, inr}
use mathlib.Core.Path.{◌≡◌, refl, sym, ap, ◌∙◌}
use Prim.Native.Nat.{ℕ, zero, suc, ◌+◌, ◌<◌, ◌≤◌}
use native.Mathlib.Numerals.{add-one}
use native.Mathlib.Omega.{arith}
use borrow.Author.Tests.{eq-eqb, ne_eqb, eqb-true}
use lib.Dec.{eqb}
use lib.ListN.{length, get_or, take, set, length-set}
use lib.Seq.{take-suc, take-suc-set}
use Rattle.std.specs.Prelude.{if◌then◌else◌}
use Rattle.std.specs.List.{list_any}
use Rattle.base.specs.Bools.{same}
use Rattle.base.specs.Common.{member}
use Rattle.declarations.specs.Decls.{Decl, Agrees, knowns_in, lookup_in}
use Rattle.declarations.proofs.Uses.{uses-lookup}
use Rattle.grammar.specs.Derived.{Took, Not, Reference, LabelsIn, last_label, more_labels}
use Rattle.names.specs.Known.{Checked, good, wrong, ◌>>=◌, fault_if, Known, KnownRule, Names}
use Rattle.names.specs.Resolve.{labels_of}
use Rattle.places.proofs.Heres.{took-here, took-kind, not-here, reference-kind, reference-here}
use Rattle.resolver.proofs.Looking.{looks-good, looks-wrong, lookup-about, after-good, after-wrong}
use Rattle.resolver.proofs.Rests.{Fails, fails-here, fails-after, fails_by}
use Rattle.resolver.specs.Parts.{LabelTold, Mislabel, label_of, LabelEnds, named, unnamed, LabelDone}
use Rattle.resolver.specs.Resolved.{LabelsTold, LabelsEnd, labelled, mislabelled, LabelsDone}
use Rattle.scanner.specs.Next.{Next, as_word}
use Rattle.scanner.specs.declared.WordAt.{WordAt}
use Rattle.symbols.proofs.Numbered.{Numbered}
use Rattle.symbols.specs.Rows.{held}
use Rattle.syntax.specs.Written.{Program}
use Rattle.words.specs.Words.{Word, words_at}

-- Members

-- what a slice's search says
pub seen-any : (v : ℕ) (xs : List ℕ) → list_any (λ y. eqb y v) xs ≡ member v xs
seen-any v [] = refl
seen-any v (x ∷ xs) = rw (seen-any v xs, turned) (go (eqb v x)) where
  turned : eqb x v ≡ eqb v x
  turned = same (eqb x v) (eqb v x) (λ e. eq-eqb v x (sym (eqb-true x v e))) (λ e. eq-eqb x v (sym (eqb-true v x e)))

  go : (b : Bool) → (b || member v xs) ≡ (if b then true else member v xs)
  go true = refl
  go false = refl

pub member-end : (v : ℕ) (xs : List ℕ) (x : ℕ) → member v (xs ++ (x ∷ [])) ≡ (if eqb v x then true else member v xs)
member-end v [] x = refl
member-end v (y ∷ xs) x = go (eqb v y) (eqb v x) (member v xs) (member-end v xs x)
  where
    go : (a b k : Bool) {m : Bool} → m ≡ (if b then true else k) → (if a then true else m) ≡ (if b then true else (if a then true else k))
    go true true k e = refl
    go true false k e = refl
    go false b k e = e

-- a value that stands behind the first `used` is a member, beside those of them
pub member-more : (v x : ℕ) (old seen : List ℕ) (used : ℕ) → used < length seen → member v old ≡ member v (take used seen) → member v (x ∷ old) ≡ member v (take (used + 1) (set seen used x))
member-more v x old seen used h e =
    ap (λ (m : Bool). if eqb v x then true else m) e ∙ sym (member-end v (take used seen) x)
    ∙ ap (member v) (sym (take-suc-set seen used x h) ∙ ap (λ (k : ℕ). take k (set seen used x)) (sym (add-one used)))

-- the search through the first `used`
pub seen-on : (v i : ℕ) (seen : List ℕ) → i < length seen → (v ≡ get_or seen i 0 → ⊥) → member v (take i seen) ≡ false → member v (take (i + 1) seen) ≡ false
seen-on v i seen h z e =
    ap (λ (k : ℕ). member v (take k seen)) (add-one i) ∙ ap (member v) (take-suc seen i 0 h) ∙ member-end v (take i seen) (get_or seen i 0)
    ∙ ap (λ (b : Bool). if b then true else member v (take i seen)) (ne_eqb v (get_or seen i 0) z) ∙ e

pub seen_at : (v i used : ℕ) (seen : List ℕ) → i < used → used ≤ length seen → v ≡ get_or seen i 0 → member v (take used seen) ≡ true
seen_at v i zero seen h q e = absurd (omega arith)
seen_at v i (suc used) [] h q e = absurd (omega arith)
seen_at v zero (suc used) (x ∷ seen) h q e = ap (λ (b : Bool). if b then true else member v (take used seen)) (eq-eqb v x e)
seen_at v (suc i) (suc used) (x ∷ seen) h q e = go (eqb v x) (seen_at v i used seen (omega arith) (omega arith) e)
  where
    go : (b : Bool) {m : Bool} → m ≡ true → (if b then true else m) ≡ true
    go true k = refl
    go false k = k

pub seen_end : (v i used : ℕ) (seen : List ℕ) → i ≡ used → member v (take i seen) ≡ false → member v (take used seen) ≡ false
seen_end v i used seen q e = ap (λ (k : ℕ). member v (take k seen)) (sym q) ∙ e

-- One label

module _ {text rows : List ℕ} {n at used : ℕ} {seen : List ℕ} {r : LabelTold} (class : ℕ) (w : WordAt) (h : Next text at w) where
  pub label-failed : {f : ℕ} → Mislabel f w r → (f ≡ 0 → ⊥) → (used < length seen → (u : Word) (ws : List Word) → Reference (words_at text at) u ws → Fails f w.start w.len (label_of (held text rows n) class (take used seen) u))
      → LabelDone text rows n at class seen used r
  label-failed {f} m z k = record {
    moves = λ e. absurd (z (sym m.fault ∙ e));
    high = λ e. absurd (z (sym m.fault ∙ e));
    room = λ e. absurd (z (sym m.fault ∙ e));
    done = λ b u ws t. ends (k b u ws t);
  }
    where
      ends : {ws : List Word} {o : Checked ℕ} → Fails f w.start w.len o → LabelEnds text ws r o
      ends e = rw e.is (unnamed m.fault z (m.at ∙ e.at) (m.len ∙ e.len))

  -- no word that may be a label
  pub label-none : w.kind < 2 → Mislabel 2 w r → LabelDone text rows n at class seen used r
  label-none q m = label-failed m (λ e. omega arith) (λ b u ws t. absurd (go (reference-kind text at w u ws h t)))
    where
      go : (w.kind ≡ 257) ⊎ (w.kind ≡ 259) → ⊥
      go (inl e) = omega arith
      go (inr e) = omega arith

  pub label-full : length seen ≤ used → Mislabel 2 w r → LabelDone text rows n at class seen used r
  label-full q m = label-failed m (λ e. omega arith) (λ b u ws t. absurd (omega arith))

label-found : (text rows : List ℕ) (n class used : ℕ) (seen : List ℕ) (w : WordAt) (b : Bool) {fl v : ℕ} → Numbered fl v (lookup_in (held text rows n) class (as_word text w)) → fl ≡ 0 → member v (take used seen) ≡ b
    → label_of (held text rows n) class (take used seen) (as_word text w) ≡ ◌>>=◌ (fault_if b 6 (as_word text w)) (λ _. good v)
label-found text rows n class used seen w b {fl} {v} looks z e =
    after-good (λ v. ◌>>=◌ (fault_if (member v (take used seen)) 6 (as_word text w)) (λ _. good v)) v (looks-good looks z)
    ∙ ap (λ (b : Bool). ◌>>=◌ (fault_if b 6 (as_word text w)) (λ _. good v)) e

module _ {text rows : List ℕ} {n at fl v used : ℕ} {seen : List ℕ} {r : LabelTold} (class : ℕ) (w : WordAt) (h : Next text at w) (inside : at ≤ length text)
    (looks : Numbered fl v (lookup_in (held text rows n) class (as_word text w))) where
  pub label-stops : (fl ≡ 0 → ⊥) → Mislabel fl w r → LabelDone text rows n at class seen used r
  label-stops z m = label-failed class w h m z (λ b u ws t.
      fails-here text w (h.inside inside) (ap (label_of (held text rows n) class (take used seen)) (reference-here text at w u ws h t).word
      ∙ after-wrong (λ v. ◌>>=◌ (fault_if (member v (take used seen)) 6 (as_word text w)) (λ _. good v)) fl (as_word text w) (looks-wrong (lookup-about (held text rows n) class (as_word text w)) looks z)))

  pub label-repeats : fl ≡ 0 → member v (take used seen) ≡ true → Mislabel 6 w r → LabelDone text rows n at class seen used r
  label-repeats z e m = label-failed class w h m (λ e. omega arith) (λ b u ws t.
      fails-here text w (h.inside inside) (ap (label_of (held text rows n) class (take used seen)) (reference-here text at w u ws h t).word ∙ label-found text rows n class used seen w true looks z e))

  pub label-goes : 2 ≤ w.kind → fl ≡ 0 → member v (take used seen) ≡ false → used < length seen → r.fault ≡ 0 → r.at ≡ w.next → r.value ≡ v → LabelDone text rows n at class seen used r
  label-goes k z e q f a x = record {
    moves = λ _. omega (arith, h.moves k);
    high = λ _. omega (arith, h.high inside);
    room = λ _. q;
    done = λ b u ws t. ends (ap (label_of (held text rows n) class (take used seen)) (reference-here text at w u ws h t).word ∙ label-found text rows n class used seen w false looks z e) (reference-here text at w u ws h t).behind;
  }
    where
      ends : {ws : List Word} {o : Checked ℕ} → o ≡ good v → ws ≡ words_at text w.next → LabelEnds text ws r o
      ends e s = rw e (named f x (s ∙ ap (words_at text) (sym a)))

pub label-fails : {text : List ℕ} {ws : List Word} {l : LabelTold} {m : Checked ℕ} → LabelEnds text ws l m → (l.fault ≡ 0 → ⊥) → Fails l.fault l.at l.len m
label-fails (named e q s) z = absurd (z e)
label-fails (unnamed {n} {w} e q a l) z = record { word = w; is = ap (λ (k : ℕ). wrong k w) (sym e); at = a; len = l }

pub label-good : {text : List ℕ} {ws : List Word} {l : LabelTold} {m : Checked ℕ} → LabelEnds text ws l m → l.fault ≡ 0 → m ≡ good l.value
label-good (named e q s) z = ap good (sym q)
label-good (unnamed e q a l) z = absurd (q (sym e ∙ z))

pub label-words : {text : List ℕ} {ws : List Word} {l : LabelTold} {m : Checked ℕ} → LabelEnds text ws l m → l.fault ≡ 0 → ws ≡ words_at text l.at
label-words (named e q s) z = s
label-words (unnamed e q a l) z = absurd (q (sym e ∙ z))

-- The labels from a place on

-- the labels behind the one of value v
abbrev others : Program → Names → List KnownRule → List Word → List Known → List ℕ → ℕ → Checked (List ℕ)
others p names rs ls ks old v = ◌>>=◌ (labels_of p names rs ls ks (v ∷ old)) (λ more. good (v ∷ more))

labels-first : {p : Program} {names : Names} {rs : List KnownRule} {ds : List Decl} → Agrees p names rs ds → (class : ℕ) (w : Word) (ls : List Word) (old sl : List ℕ)
    → ((v : ℕ) → member v old ≡ member v sl)
    → labels_of p names rs (w ∷ ls) (knowns_in class ds) old ≡ ◌>>=◌ (label_of ds class sl w) (others p names rs ls (knowns_in class ds) old)
unfolding labels_of
labels-first {p} {names} {rs} {ds} ag class w ls old sl same =
    ap (λ m. ◌>>=◌ m (λ v. ◌>>=◌ (fault_if (member v old) 6 w) (λ _. others p names rs ls (knowns_in class ds) old v))) (uses-lookup ag class w) ∙ go (lookup_in ds class w)
  where
    inner : (b : Bool) (v : ℕ) → ◌>>=◌ (fault_if b 6 w) (λ _. others p names rs ls (knowns_in class ds) old v)
        ≡ ◌>>=◌ (◌>>=◌ (fault_if b 6 w) (λ _. good v)) (others p names rs ls (knowns_in class ds) old)
    inner true v = refl
    inner false v = refl

    go : (m : Checked ℕ) → ◌>>=◌ m (λ v. ◌>>=◌ (fault_if (member v old) 6 w) (λ _. others p names rs ls (knowns_in class ds) old v))
        ≡ ◌>>=◌ (◌>>=◌ m (λ v. ◌>>=◌ (fault_if (member v sl) 6 w) (λ _. good v))) (others p names rs ls (knowns_in class ds) old)
    go (good v) = ap (λ (b : Bool). ◌>>=◌ (fault_if b 6 w) (λ _. others p names rs ls (knowns_in class ds) old v)) (same v) ∙ inner (member v sl) v
    go (wrong n u) = refl

labels-by : {text : List ℕ} {ws : List Word} {seen seen' : List ℕ} {used : ℕ} {r : LabelsTold} {m m' : Checked (List ℕ)} → m ≡ m' → LabelsEnd text ws seen used seen' r m' → LabelsEnd text ws seen used seen' r m
labels-by e t = rw e t

labels-fail : {text : List ℕ} {ws : List Word} {seen seen' : List ℕ} {used f i l : ℕ} {r : LabelsTold} {m : Checked (List ℕ)} → r.fault ≡ f → r.at ≡ i → r.len ≡ l → (f ≡ 0 → ⊥) → Fails f i l m → LabelsEnd text ws seen used seen' r m
labels-fail p q o z e = rw e.is (mislabelled p z (q ∙ e.at) (o ∙ e.len))

-- one label before those that were read
labels-extend : {text : List ℕ} {ws : List Word} {seen seen' : List ℕ} {used : ℕ} {r : LabelsTold} {m : Checked (List ℕ)} (v : ℕ) → used < length seen
    → LabelsEnd text ws (set seen used v) (used + 1) seen' r m → LabelsEnd text ws seen used seen' r (◌>>=◌ m (λ more. good (v ∷ more)))
labels-extend {seen = seen} {seen'} {used} {r} v h (labelled {vs} f s u t) =
    let e : take (used + 1) (set seen used v) ≡ take used seen ++ (v ∷ []) = ap (λ (k : ℕ). take k (set seen used v)) (add-one used) ∙ take-suc-set seen used v h in
    labelled {vs = v ∷ vs} f s (omega (arith, u)) (t ∙ ap (λ (l : List ℕ). l ++ vs) e ∙ append_assoc (take used seen) (v ∷ []) vs)
labels-extend v h (mislabelled f z a l) = mislabelled f z a l

module _ {text rows : List ℕ} {n at class used : ℕ} {seen : List ℕ} {l : LabelTold} {r : LabelsTold} (d : LabelDone text rows n at class seen used l) where
  pub labels-stop : (l.fault ≡ 0 → ⊥) → r.fault ≡ l.fault → r.at ≡ l.at → r.len ≡ l.len → LabelsDone text rows n at class seen used seen r
  labels-stop z f a b = record {
    same = refl;
    moves = λ e. absurd (z (sym f ∙ e));
    high = λ e. absurd (z (sym f ∙ e));
    more = λ e. absurd (z (sym f ∙ e));
    room = λ e. absurd (z (sym f ∙ e));
    done = λ p names rs ag ls ws t q old same. go p names rs ag ls ws t q old same;
  }
    where
      first : (p : Program) (names : Names) (rs : List KnownRule) → Agrees p names rs (held text rows n) → (w : Word) (ls ws ws₁ : List Word) → Reference (words_at text at) w ws₁
          → used < length seen → (old : List ℕ) → ((v : ℕ) → member v old ≡ member v (take used seen))
          → LabelsEnd text ws seen used seen r (labels_of p names rs (w ∷ ls) (knowns_in class (held text rows n)) old)
      first p names rs ag w ls ws ws₁ t q old same =
          labels-fail f a b z (fails_by (labels-first ag class w ls old (take used seen) same) (fails-after (others p names rs ls (knowns_in class (held text rows n)) old) (label-fails (d.done q w ws₁ t) z)))

      go : (p : Program) (names : Names) (rs : List KnownRule) → Agrees p names rs (held text rows n) → (ls ws : List Word) → LabelsIn (words_at text at) ws ls
          → used + length ls ≤ length seen → (old : List ℕ) → ((v : ℕ) → member v old ≡ member v (take used seen))
          → LabelsEnd text ws seen used seen r (labels_of p names rs ls (knowns_in class (held text rows n)) old)
      go p names rs ag (w ∷ []) ws (last_label t y) q old same = first p names rs ag w [] ws ws t (omega arith) old same
      go p names rs ag (w ∷ ls) ws (more_labels {ws₁ = ws₁} t c u) q old same = first p names rs ag w ls ws ws₁ t (omega arith) old same
      go p names rs ag [] ws x3 q old same = elim x3 [ ]

  module _ (z : l.fault ≡ 0) (k : WordAt) (h : Next text l.at k) where
    pub labels-last : (k.kind ≡ 44 → ⊥) → r.fault ≡ 0 → r.at ≡ l.at → r.used ≡ used + 1 → LabelsDone text rows n at class seen used (set seen used l.value) r
    unfolding labels_of
    labels-last y f a b = record {
      same = length-set seen used l.value;
      moves = λ _. omega (arith, d.moves z);
      high = λ _. omega (arith, d.high z);
      more = λ _. omega arith;
      room = λ _. omega (arith, d.room z);
      done = λ p names rs ag ls ws t q old same. go p names rs ag ls ws t q old same;
    }
      where
        end : {ws : List Word} → ws ≡ words_at text l.at → LabelsEnd text ws (set seen used l.value) (used + 1) (set seen used l.value) r (good [])
        end s = labelled {vs = []} f (s ∙ ap (words_at text) (sym a)) (omega arith) (ap (λ (k : ℕ). take k (set seen used l.value)) b ∙ sym (append-nil (take (used + 1) (set seen used l.value))))

        go : (p : Program) (names : Names) (rs : List KnownRule) → Agrees p names rs (held text rows n) → (ls ws : List Word) → LabelsIn (words_at text at) ws ls
            → used + length ls ≤ length seen → (old : List ℕ) → ((v : ℕ) → member v old ≡ member v (take used seen))
            → LabelsEnd text ws seen used (set seen used l.value) r (labels_of p names rs ls (knowns_in class (held text rows n)) old)
        go p names rs ag (w ∷ []) ws (last_label t x) q old same =
            let e : LabelEnds text ws l (label_of (held text rows n) class (take used seen) w) = d.done (d.room z) w ws t in
            labels-by (labels-first ag class w [] old (take used seen) same ∙ after-good (others p names rs [] (knowns_in class (held text rows n)) old) l.value (label-good e z))
            (labels-extend l.value (d.room z) (end (label-words e z)))
        go p names rs ag (w ∷ ls) ws (more_labels {ws₁ = ws₁} {ws₂ = ws₂} {comma = comma} t c u) q old same =
            let e : LabelEnds text ws₁ l (label_of (held text rows n) class (take used seen) w) = d.done (d.room z) w ws₁ t in
            let c' : Took 44 (words_at text l.at) comma ws₂ = rw (label-words e z) at c in
            absurd (y (took-kind text l.at 44 k comma ws₂ h c'))
        go p names rs ag [] ws x3 q old same = elim x3 [ ]

    pub labels-more : {seen' : List ℕ} → k.kind ≡ 44 → LabelsDone text rows n k.next class (set seen used l.value) (used + 1) seen' r → LabelsDone text rows n at class seen used seen' r
    labels-more {seen'} y g = record {
      same = g.same ∙ length-set seen used l.value;
      moves = λ f. omega (arith, d.moves z, h.onto, g.moves f);
      high = g.high;
      more = λ f. omega (arith, g.more f);
      room = λ f. omega (arith, g.room f, length-set seen used l.value);
      done = λ p names rs ag ls ws t q old same. go p names rs ag ls ws t q old same;
    }
      where
        go : (p : Program) (names : Names) (rs : List KnownRule) → Agrees p names rs (held text rows n) → (ls ws : List Word) → LabelsIn (words_at text at) ws ls
            → used + length ls ≤ length seen → (old : List ℕ) → ((v : ℕ) → member v old ≡ member v (take used seen))
            → LabelsEnd text ws seen used seen' r (labels_of p names rs ls (knowns_in class (held text rows n)) old)
        go p names rs ag (w ∷ []) ws (last_label t x) q old same =
            let e : LabelEnds text ws l (label_of (held text rows n) class (take used seen) w) = d.done (d.room z) w ws t in
            let x' : Not 44 (words_at text l.at) = rw (label-words e z) at x in
            absurd (not-here text l.at 44 k h x' y)
        go p names rs ag (w ∷ ls) ws (more_labels {ws₁ = ws₁} {ws₂ = ws₂} {comma = comma} t c u) q old same =
            let e : LabelEnds text ws₁ l (label_of (held text rows n) class (take used seen) w) = d.done (d.room z) w ws₁ t in
            let c' : Took 44 (words_at text l.at) comma ws₂ = rw (label-words e z) at c in
            let u' : LabelsIn (words_at text k.next) ws ls = rw (took-here text l.at 44 k comma ws₂ (omega arith) h c').behind at u in
            labels-by (labels-first ag class w ls old (take used seen) same ∙ after-good (others p names rs ls (knowns_in class (held text rows n)) old) l.value (label-good e z))
            (labels-extend l.value (d.room z) (g.done p names rs ag ls ws u' (omega (arith, length-set seen used l.value)) (l.value ∷ old)
            (λ v. member-more v l.value old seen used (d.room z) (same v))))
        go p names rs ag [] ws x3 q old same = elim x3 [ ]
