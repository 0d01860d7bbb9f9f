-- One rule: its head, its actions and its semicolon; and that it means what crate names says.
use mathlib.Core.Bool.{Bool, true, false, ◌&&◌, ◌||◌}
use mathlib.Core.List.{List, []}
use mathlib.Core.Option.{Option, none, some}
use mathlib.Core.Path.{◌≡◌, refl, sym, ap, ◌∙◌, subst}
use Prim.Native.Nat.{ℕ, zero, suc, ◌+◌, ◌≤◌}
use lib.Dec.{eqb, ltb}
use lib.ListN.{length}
use native.Mathlib.Omega.{arith}
use borrow.Author.Tests.{lt-ltb, ne_eqb}
use Rattle.std.specs.Prelude.{if◌then◌else◌}
use Rattle.base.specs.Common.{given}
use Rattle.builder.proofs.Heading.{word-length}
use Rattle.builder.proofs.Laws.{ends-fails}
use Rattle.builder.specs.Heads.{HeadTold, taken_before, head_of, HeadEnd, headed, misheaded, HeadDone}
use Rattle.builder.specs.Parts.{place_of, ActsDone}
use Rattle.builder.specs.Row.{RuledTold, rule_by, RuleDone}
use Rattle.cells.specs.Cells.{acts_cells}
use Rattle.declarations.proofs.Rows.{given-mapped}
use Rattle.declarations.specs.Decls.{Agrees, Decl, index_of, declared_in, elsewhere_in, type_in, optional_in, mapped, knowns_in}
use Rattle.grammar.specs.Derived.{Took, ActsIn, RuleIn, one_rule}
use Rattle.maker.specs.Pairs.{PairsAre}
use Rattle.names.specs.Known.{Checked, good, wrong, ◌>>=◌, fault_if, Known, KnownRule, Names, find_operation, declared, is_type, elsewhere, lookup_type, optional_type}
use Rattle.names.specs.Resolve.{acts_of}
use Rattle.names.specs.Understand.{is_one, is_first, taken, rule_means}
use Rattle.places.proofs.Heres.{Same, took-here}
use Rattle.program.specs.Past.{past_all}
use Rattle.program.specs.Program as means
use Rattle.resolver.specs.Resolved.{DoneTold, BuiltTold, Appends, Ends, ended, failed}
use Rattle.scanner.specs.Next.{Next}
use Rattle.scanner.specs.declared.WordAt.{WordAt}
use Rattle.symbols.specs.Rows.{held, gives_of, number_of}
use Rattle.syntax.specs.Written as written
use Rattle.syntax.specs.Written.{Program}
use Rattle.words.specs.Words.{Word, words_at}

-- How the code goes on after a head, and after actions

pub head-fails : {E B : Type 0} {text : List ℕ} {ws₁ : List Word} {h : HeadTold} (m : Checked ℕ) (k : ℕ → Checked B)
    {ws : List Word} {cs : List ℕ} {c : ℕ} {cs' : List ℕ} {f : B → List ℕ} {P : B → Type 0} {d : DoneTold}
    → HeadEnd text ws₁ h m → (h.fault ≡ 0 → ⊥) → d.fault ≡ h.fault → d.at ≡ h.at → d.len ≡ h.len → Ends E text ws cs c cs' f P d (◌>>=◌ m k)
head-fails (good a) k (headed e _ _) z e₁ e₂ e₃ = absurd (z e)
head-fails (wrong n w) k (misheaded e nz at len) z e₁ e₂ e₃ = failed (e₁ ∙ e) nz (e₂ ∙ at) (e₃ ∙ len)

pub head-then : {E B : Type 0} {text : List ℕ} {ws₁ : List Word} {h : HeadTold} (m : Checked ℕ) (k : ℕ → Checked B)
    {ws : List Word} {cs : List ℕ} {c : ℕ} {cs' : List ℕ} {f : B → List ℕ} {P : B → Type 0} {d : DoneTold}
    → HeadEnd text ws₁ h m → h.fault ≡ 0 → (ws₁ ≡ words_at text h.at → Ends E text ws cs c cs' f P d (k h.class)) → Ends E text ws cs c cs' f P d (◌>>=◌ m k)
head-then {E = E} {text = text} (good a) k {ws} {cs} {c} {cs'} {f} {P} {d} (headed e here q) z next = subst (λ t. Ends E text ws cs c cs' f P d (k t)) q (next here)
head-then (wrong n w) k (misheaded e nz at len) z next = absurd (nz (sym e ∙ z))

pub ends-bind : {E A B : Type 0} {text : List ℕ} {ws₁ : List Word} {cs : List ℕ} {c : ℕ} {cs₁ : List ℕ} {f : A → List ℕ} {P : A → Type 0} {r : DoneTold} (m : Checked A) (k : A → Checked B)
    {ws : List Word} {g : B → List ℕ} {Q : B → Type 0} {r₂ : DoneTold}
    → Ends E text ws₁ cs c cs₁ f P r m → r.fault ≡ 0
    → ((a : A) → ws₁ ≡ words_at text r.at → (E → Appends cs c (f a) cs₁ r.count) → P a → Ends E text ws cs c cs₁ g Q r₂ (k a)) → Ends E text ws cs c cs₁ g Q r₂ (◌>>=◌ m k)
ends-bind (good a) k (ended e here app pa) z next = next a here app pa
ends-bind (wrong n w) k (failed e nz at len) z next = absurd (nz (sym e ∙ z))

-- a choice rule is one whose values have a class
pub valued-is : (ds : List Decl) (class : ℕ) → given (gives_of ds class) ≡ ltb 0 class
unfolding gives_of
valued-is ds zero = refl
valued-is ds (suc n) = rw (ne_eqb (suc n) 0 (λ z. omega (arith, z)), lt-ltb 0 (suc n) (omega arith)) refl

-- The rule

pub rule-headless : {text rows : List ℕ} {n first k at : ℕ} {cs : List ℕ} {c : ℕ} {h : HeadTold} {r : RuledTold}
    → HeadDone text rows n first k at h → (h.fault ≡ 0 → ⊥) → r.done.fault ≡ h.fault → r.done.at ≡ h.at → r.done.len ≡ h.len → RuleDone text rows n first k at cs c cs r
unfolding rule_by
rule-headless {text} {rows} {n} {first} {k} {at} {cs} {c} {h} {r} H z e₁ e₂ e₃ = record { same = refl; high = λ e. absurd (z (sym e₁ ∙ e)); done = go }
  where
    go : (p : Program) (names : Names) (rs : List KnownRule) → Agrees p names rs (held text rows n) → (x : written.Rule) (ws : List Word) → RuleIn (words_at text at) ws x
        → Ends (PairsAre text rows n p names) text ws cs c cs (λ b. acts_cells b.body []) (λ b. r.valued ≡ b.valued) r.done (rule_by p names rs (held text rows n) first k x)
    go p names rs g x ws (one_rule {colon = colon} {ws₁ = ws₁} {ws₂ = ws₂} {ws₃ = ws₃} t d u _ _) =
        head-fails (head_of (held text rows n) first k x) _ (H.done x colon ws₁ ws₂ ws₃ t d u) z e₁ e₂ e₃

pub rule-fail : {text rows : List ℕ} {n first k at : ℕ} {cs : List ℕ} {c : ℕ} {cs' : List ℕ} {h : HeadTold} {b : BuiltTold} {r : RuledTold}
    → HeadDone text rows n first k at h → h.fault ≡ 0 → ActsDone text rows n h.at false h.class true false cs c cs' b → (b.done.fault ≡ 0 → ⊥) → r.done ≡ b.done
    → RuleDone text rows n first k at cs c cs' r
unfolding rule_by
rule-fail {text} {rows} {n} {first} {k} {at} {cs} {c} {cs'} {h} {b} {r} H z B z₂ e =
    record { same = B.kept.same; high = λ f. absurd (z₂ (sym (ap (λ (d : DoneTold). d.fault) e) ∙ f)); done = go }
  where
    go : (p : Program) (names : Names) (rs : List KnownRule) → Agrees p names rs (held text rows n) → (x : written.Rule) (ws : List Word) → RuleIn (words_at text at) ws x
        → Ends (PairsAre text rows n p names) text ws cs c cs' (λ b. acts_cells b.body []) (λ b. r.valued ≡ b.valued) r.done (rule_by p names rs (held text rows n) first k x)
    go p names rs g x ws (one_rule {colon = colon} {ws₁ = ws₁} {ws₂ = ws₂} {ws₃ = ws₃} {ws₄ = ws₄} t d u q _) =
        subst (λ (y : DoneTold). Ends (PairsAre text rows n p names) text ws cs c cs' (λ b. acts_cells b.body []) (λ b. r.valued ≡ b.valued) y (rule_by p names rs (held text rows n) first k x)) (sym e)
        (head-then (head_of (held text rows n) first k x) _ (H.done x colon ws₁ ws₂ ws₃ t d u) z
        (λ here. ends-fails (acts_of p names rs x.body (place_of (held text rows n) false h.class)) _ (B.done p names rs g x.body ws₄ (subst (λ l. ActsIn l ws₄ x.body) here q)) z₂))

-- the semicolon reached or not
closing : {E : Type 0} {text : List ℕ} {ws : List Word} {cs : List ℕ} {c : ℕ} {cs' : List ℕ} {d : DoneTold} (valued v : Bool) (b : means.Acts) (t : Bool) (w : Word) → t ≡ (valued && past_all b)
    → (t ≡ true → (d.fault ≡ 8) × (d.at ≡ w.start) × (d.len ≡ length w.text))
    → (t ≡ false → (d.fault ≡ 0) × (ws ≡ words_at text d.at) × (E → Appends cs c (acts_cells b []) cs' d.count) × (v ≡ valued))
    → Ends E text ws cs c cs' (λ (y : means.Rule). acts_cells y.body []) (λ (y : means.Rule). v ≡ y.valued) d
    (◌>>=◌ (fault_if (valued && past_all b) 8 w) (λ _. good (record { valued = valued; body = b })))
closing {E} {text} {ws} {cs} {c} {cs'} {d} valued v b t w e yes' no' = go (valued && past_all b) e
  where
    go : (x : Bool) → t ≡ x → Ends E text ws cs c cs' (λ (y : means.Rule). acts_cells y.body []) (λ (y : means.Rule). v ≡ y.valued) d (◌>>=◌ (fault_if x 8 w) (λ _. good (record { valued = valued; body = b })))
    go true q = let k = yes' q in failed k.0 (λ z. omega (arith, z)) k.1 k.2
    go false q = let k = no' q in ended k.0 k.1 k.2 k.3

pub rule-closed : {text rows : List ℕ} {n first k at : ℕ} {cs : List ℕ} {c : ℕ} {cs' : List ℕ} {h : HeadTold} {b : BuiltTold} {r : RuledTold} {w : WordAt} {t : Bool}
    → HeadDone text rows n first k at h → h.fault ≡ 0 → ActsDone text rows n h.at false h.class true false cs c cs' b → b.done.fault ≡ 0 → Next text b.done.at w
    → t ≡ (ltb 0 h.class && b.past)
    → (t ≡ true → (r.done.fault ≡ 8) × (r.done.at ≡ w.start) × (r.done.len ≡ w.len))
    → (t ≡ false → (r.done.fault ≡ 0) × (r.done.at ≡ w.next) × (r.done.count ≡ b.done.count) × (r.valued ≡ ltb 0 h.class))
    → (r.done.fault ≡ 0 → r.done.at ≤ length text)
    → RuleDone text rows n first k at cs c cs' r
unfolding rule_by
rule-closed {text} {rows} {n} {first} {k} {at} {cs} {c} {cs'} {h} {b} {r} {w} {t} H z B z₂ N e reached ends high = record { same = B.kept.same; high = high; done = go }
  where
    go : (p : Program) (names : Names) (rs : List KnownRule) → Agrees p names rs (held text rows n) → (x : written.Rule) (ws : List Word) → RuleIn (words_at text at) ws x
        → Ends (PairsAre text rows n p names) text ws cs c cs' (λ b. acts_cells b.body []) (λ b. r.valued ≡ b.valued) r.done (rule_by p names rs (held text rows n) first k x)
    go p names rs g x ws (one_rule {colon = colon} {ws₁ = ws₁} {ws₂ = ws₂} {ws₃ = ws₃} {ws₄ = ws₄} q d u a s) =
        head-then (head_of (held text rows n) first k x) _ (H.done x colon ws₁ ws₂ ws₃ q d u) z
        (λ here. ends-bind (acts_of p names rs x.body (place_of (held text rows n) false h.class)) _
        (B.done p names rs g x.body ws₄ (subst (λ l. ActsIn l ws₄ x.body) here a)) z₂
        (λ body here₂ app flags.
        let same : Same text w x.closing ws = took-here text b.done.at 59 w x.closing ws (omega arith) N (subst (λ l. Took 59 l x.closing ws) here₂ s) in
        closing (given (gives_of (held text rows n) h.class)) r.valued body t x.closing
        (e ∙ ap (λ y. y && b.past) (sym (valued-is (held text rows n) h.class)) ∙ ap (λ y. given (gives_of (held text rows n) h.class) && y) flags.0)
        (λ y. (
          (reached y).0,
          (reached y).1 ∙ ap (λ (m : Word). m.start) (sym same.word),
          (reached y).2 ∙ sym (word-length N (B.kept.high z₂)) ∙ ap (λ (m : Word). length m.text) (sym same.word),
        ))
        (λ y. (
          (ends y).0,
          same.behind ∙ ap (words_at text) (sym (ends y).1),
          λ x. subst (λ m. Appends cs c (acts_cells body []) cs' m) (sym (ends y).2) (app x),
          (ends y).3 ∙ sym (valued-is (held text rows n) h.class),
        ))))

-- What it means

-- a type that is found or not, declared as a type or not, declared or not
abbrev type_by : Word → Option (List Known) → Bool → Bool → Checked (Option (List Known))
type_by w f t d = ◌>>=◌ {A = List Known} (elim f [ some ks ↦ good ks | none ↦ if t then wrong 3 w else wrong (if d then 5 else 3) w ]) (λ ks. good (some ks))

-- the type, by the declarations
pub type-means : (p : Program) (names : Names) (rs : List KnownRule) (ds : List Decl) → Agrees p names rs ds → (g : Option Word)
    → optional_type p names.types g ≡ ◌>>=◌ (optional_in ds ds g) (λ class. good (gives_of ds class))
unfolding optional_type optional_in gives_of lookup_type elsewhere type_in elsewhere_in
type-means p names rs ds A none = refl
type-means p names rs ds A (some w) =
    ap (λ f. type_by w f (is_type w.text p.sections) (declared p w.text)) (A.types w.text)
    ∙ ap (λ t. type_by w (mapped (λ i. knowns_in (8 + i) ds) (index_of 5 w.text 0 ds)) t (declared p w.text)) (A.is_type w.text)
    ∙ ap (λ d. type_by w (mapped (λ i. knowns_in (8 + i) ds) (index_of 5 w.text 0 ds)) (given (index_of 5 w.text 0 ds)) d) (A.declared w.text)
    ∙ go (index_of 5 w.text 0 ds) (given (index_of 5 w.text 0 ds))
  where
    go : (o : Option ℕ) (b : Bool) → type_by w (mapped (λ i. knowns_in (8 + i) ds) o) b (declared_in w.text ds)
        ≡ ◌>>=◌ {A = ℕ} (elim o [ some i ↦ good (8 + i) | none ↦ if b then wrong 3 w else wrong (if declared_in w.text ds then 5 else 3) w ]) (λ class. good (if eqb class 0 then none else some (knowns_in class ds)))
    go (some i) b = let e : eqb (8 + i) 0 ≡ false = ne_eqb (8 + i) 0 (λ z. omega (arith, z)) in rw e refl
    go none true = refl
    go none false = refl

-- tests, then the type, then the rest
tested : {B : Type 0} (t f : Bool) (w : Word) (m : Checked ℕ) (q : ℕ → Option (List Known)) (k : Option (List Known) → Checked B)
    → ◌>>=◌ (fault_if t 4 w) (λ _. ◌>>=◌ (fault_if f 5 w) (λ _. ◌>>=◌ (◌>>=◌ m (λ class. good (q class))) k))
    ≡ ◌>>=◌ (◌>>=◌ (fault_if t 4 w) (λ _. ◌>>=◌ (fault_if f 5 w) (λ _. m))) (λ class. k (q class))
tested true f w m q k = refl
tested false true w m q k = refl
tested false false w (good a) q k = refl
tested false false w (wrong n u) q k = refl

pub rule-means : (p : Program) (names : Names) (rs : List KnownRule) (ds : List Decl) (first k : ℕ) (seen : List (List ℕ)) (r : written.Rule) → Agrees p names rs ds
    → is_first seen ≡ eqb k 0 → is_one r.rule.text seen ≡ ltb (number_of (index_of 7 r.rule.text 0 ds)) (first + k)
    → rule_means p names rs seen r ≡ rule_by p names rs ds first k r
unfolding rule_means rule_by head_of taken taken_before
rule-means p names rs ds first k seen r A e₁ e₂ =
    let op : given (find_operation r.rule.text names.operations) ≡ given (index_of 6 r.rule.text 0 ds) =
    ap given (A.operations r.rule.text) ∙ given-mapped _ (index_of 6 r.rule.text 0 ds) in
    rw (op, e₁, e₂, type-means p names rs ds A r.gives)
    (tested (given (index_of 6 r.rule.text 0 ds) || ltb (number_of (index_of 7 r.rule.text 0 ds)) (first + k)) (eqb k 0 && given r.gives) r.rule (optional_in ds ds r.gives) (λ class. gives_of ds class)
    (λ g. ◌>>=◌ (acts_of p names rs r.body (record { inside = false; gives = g })) (λ b. ◌>>=◌ (fault_if (given g && past_all b) 8 r.closing) (λ _. good (record { valued = given g; body = b })))))
