-- The rules one after the other, to the whole.
use mathlib.Core.Bool.{Bool, false}
use mathlib.Core.List.{List, [], ◌∷◌}
use mathlib.Core.Path.{◌≡◌, refl, sym, ap, ◌∙◌, subst}
use Rattle.base.specs.Tree.{done}
use Prim.Native.Nat.{ℕ, zero, suc, ◌+◌, ◌%◌, ◌<◌, ◌≤◌}
use lib.ListN.{length, get_or, set}
use lib.Seq.{get_or-set_same, get_or-set_other}
use native.Mathlib.Omega.{arith}
use native.Mathlib.Nat.{mod-eq_of_lt}
use Rattle.resolver.proofs.Appending.{appends-length, appends-then}
use Rattle.builder.proofs.Declared.{sofar-start, sofar-more}
use Rattle.builder.proofs.Encoding.{acts-cells}
use Rattle.builder.proofs.Laws.{ends-here}
use Rattle.builder.proofs.Ruling.{rule-means}
use Rattle.builder.specs.Row.{RuledTold, rule_by, RuleDone, Sofar, RowEnd, row_built, row_faulty, RowDone}
use Rattle.builder.specs.Rules.{RulesTold, sort_of, RulesEnd, built, faulty, RulesDone}
use Rattle.cells.specs.Cells.{acts_cells, rules_cells, cells_start}
use Rattle.declarations.specs.Decls.{Agrees}
use Rattle.grammar.specs.Derived.{RulesIn, last_rule, more_rules}
use Rattle.maker.specs.Pairs.{PairsAre}
use Rattle.names.specs.Declare.{known_rules}
use Rattle.names.specs.Known.{Checked, good, wrong, ◌>>=◌, KnownRule, Names}
use Rattle.names.specs.Understand.{rule_means, rules_mean}
use Rattle.places.proofs.Heres.{kind-here}
use Rattle.program.specs.Program as means
use Rattle.program.specs.Program.{rule_of}
use Rattle.resolver.specs.Resolved.{DoneTold, Appends, Ends, ended, failed}
use Rattle.scanner.specs.Next.{Next}
use Rattle.scanner.specs.declared.WordAt.{WordAt}
use Rattle.symbols.proofs.Searches.{held-length}
use Rattle.symbols.specs.Rows.{held}
use Rattle.syntax.specs.Reading.{peek}
use Rattle.syntax.specs.Written as written
use Rattle.syntax.specs.Written.{Program}
use Rattle.words.specs.Words.{Word, words_at}

pub held-short : (text rows : List ℕ) (n : ℕ) → n ≤ 512 → length (held text rows n) ≤ 512
unfolding held
held-short text rows n h = omega (arith, h, held-length text rows 0 n)

-- One rule, then the rest

-- a rule's fault is the fault of all
row-fails : {E : Type 0} {text : List ℕ} {ws : List Word} {cs : List ℕ} {c : ℕ} {cs₁ : List ℕ} {f : means.Rule → List ℕ} {P : means.Rule → Type 0} {d : DoneTold} (m : Checked means.Rule)
    (k : means.Rule → Checked (List means.Rule)) {i : ℕ} {cs₀ : List ℕ} {c₀ : ℕ} {cs' starts sorts starts' sorts' : List ℕ} {r : RulesTold}
    → Ends E text ws cs c cs₁ f P d m → (d.fault ≡ 0 → ⊥) → r.fault ≡ d.fault → r.at ≡ d.at → r.len ≡ d.len → RowEnd E i cs₀ c₀ cs' starts sorts starts' sorts' r (◌>>=◌ m k)
row-fails (good a) k (ended e _ _ _) z e₁ e₂ e₃ = absurd (z e)
row-fails (wrong n w) k (failed e nz at len) z e₁ e₂ e₃ = row_faulty (e₁ ∙ e) nz (e₂ ∙ at) (e₃ ∙ len)

-- what was stored for the rule stays, what comes behind it is stored behind it
row-then : {E : Type 0} {text : List ℕ} {ws : List Word} {cs : List ℕ} {c : ℕ} {cs₁ : List ℕ} {valued : Bool} {d : DoneTold} (m : Checked means.Rule) (rest : Checked (List means.Rule))
    {k : ℕ} {cs' starts sorts starts' sorts' : List ℕ} {r : RulesTold}
    → length cs ≤ 60000 → k < length starts → k < length sorts
    → Ends E text ws cs c cs₁ (λ (b : means.Rule). acts_cells b.body []) (λ (b : means.Rule). valued ≡ b.valued) d m → d.fault ≡ 0
    → RowEnd E (k + 1) cs₁ d.count cs' (set starts k (c % 65536)) (set sorts k (sort_of valued)) starts' sorts' r rest
    → RowEnd E k cs c cs' starts sorts starts' sorts' r (◌>>=◌ m (λ a. ◌>>=◌ rest (λ as'. good (a ∷ as'))))
unfolding rules_cells cells_start rule_of
row-then (wrong n w) rest big i j (failed e nz _ _) z q = absurd (nz (sym e ∙ z))
row-then (good a) (wrong n w) big i j (ended e here app v) z (row_faulty e₁ nz e₂ e₃) = row_faulty e₁ nz e₂ e₃
row-then {E} {text} {ws} {cs} {c} {cs₁} {valued} {d} (good a) (good prog) {k} {cs'} {starts} {sorts} {starts'} {sorts'} {r} big i j (ended e here app v) z (row_built f l app₂ old₁ old₂ new₁ new₂) =
    row_built {prog = a ∷ prog} f (omega (arith, l))
    (λ x. subst (λ y. Appends cs c y cs' r.count) (sym (acts-cells a.body (rules_cells prog))) (appends-then (app x) (app₂ x)))
    (λ x h. old₁ x (omega (arith, h)) ∙ get_or-set_other sorts k x (sort_of valued) 0 (λ t. omega (arith, h, t)))
    (λ x h. old₂ x (omega (arith, h)) ∙ get_or-set_other starts k x (c % 65536) 0 (λ t. omega (arith, h, t)))
    sorted started
  where
    zero_is : (x : ℕ) → x + 0 ≡ x
    zero_is x = omega arith

    suc-is : (x y : ℕ) → x + suc y ≡ (x + 1) + y
    suc-is x y = omega arith

    sorted : (x : ℕ) → x < suc (length prog) → get_or sorts' (k + x) 0 ≡ sort_of (get_or (a ∷ prog) x (record { valued = false; body = done })).valued
    sorted zero h = ap (λ t. get_or sorts' t 0) (zero_is k) ∙ old₁ k (omega arith) ∙ get_or-set_same sorts k (sort_of valued) 0 j ∙ ap sort_of v
    sorted (suc x) h = ap (λ t. get_or sorts' t 0) (suc-is k x) ∙ new₁ x (omega (arith, h))

    started : E → r.count ≤ length cs → (x : ℕ) → x < suc (length prog) → get_or starts' (k + x) 0 ≡ cells_start c (a ∷ prog) x
    started y fits zero h =
        let low : c < 65536 = omega (arith, fits, big, (app y).count, (app₂ y).count, appends-length (app y)) in
        ap (λ t. get_or starts' t 0) (zero_is k) ∙ old₂ k (omega arith) ∙ get_or-set_same starts k (c % 65536) 0 i ∙ mod-eq_of_lt low
    started y fits (suc x) h =
        let same : d.count ≡ c + length (acts_cells a.body []) = omega (arith, fits, (app y).count, (app₂ y).count, appends-length (app y)) in
        ap (λ t. get_or starts' t 0) (suc-is k x) ∙ new₂ y (omega (arith, fits, appends-length (app y))) x (omega (arith, h)) ∙ ap (λ t. cells_start t prog x) same

-- the last of them
row-none : {E : Type 0} {k : ℕ} {cs : List ℕ} {c : ℕ} {starts sorts : List ℕ} {r : RulesTold} → r.fault ≡ 0 → r.rules ≡ k → r.count ≡ c → (E → c ≤ suc (length cs)) → RowEnd E k cs c cs starts sorts starts sorts r (good [])
unfolding rules_cells
row-none {E} {k} {cs} {c} {starts} {sorts} {r} f e m h =
    row_built {prog = []} f (omega (arith, e)) (λ x. record { cells = refl; count = omega (arith, m, h x) }) (λ j _. refl) (λ j _. refl) (λ j q. absurd (omega (arith, q))) (λ _ _ j q. absurd (omega (arith, q)))

counted : {E A : Type 0} {text : List ℕ} {ws : List Word} {cs : List ℕ} {c : ℕ} {cs₁ : List ℕ} {f : A → List ℕ} {P : A → Type 0} {d : DoneTold} (m : Checked A)
    → Ends E text ws cs c cs₁ f P d m → d.fault ≡ 0 → E → d.count ≤ suc (length cs₁)
counted (good a) (ended e here app pa) z x = omega (arith, (app x).count, appends-length (app x))
counted (wrong n w) (failed e nz _ _) z x = absurd (nz (sym e ∙ z))

-- the rule by its declaration is the rule
one-rule : (text rows : List ℕ) (n first k : ℕ) (p : Program) (names : Names) (rs : List KnownRule) (seen : List (List ℕ)) (x : written.Rule) (rest : List written.Rule)
    → Agrees p names rs (held text rows n) → Sofar (held text rows n) first k seen (x ∷ rest) → rule_by p names rs (held text rows n) first k x ≡ rule_means p names rs seen x
one-rule text rows n first k p names rs seen x rest A s = sym (rule-means p names rs (held text rows n) first k seen x A s.start (s.names x.rule.text))

pub row-fail : {text rows : List ℕ} {n first k at : ℕ} {cs : List ℕ} {c : ℕ} {cs₁ starts sorts : List ℕ} {x : RuledTold} {r : RulesTold}
    → RuleDone text rows n first k at cs c cs₁ x → (x.done.fault ≡ 0 → ⊥) → r.fault ≡ x.done.fault → r.at ≡ x.done.at → r.len ≡ x.done.len
    → RowDone text rows n first k at cs c cs₁ starts sorts starts sorts r
unfolding rules_mean
row-fail {text} {rows} {n} {first} {k} {at} {cs} {c} {cs₁} {starts} {sorts} {x} {r} R z e₁ e₂ e₃ = record { done = go }
  where
    go : (p : Program) (names : Names) (rs : List KnownRule) → Agrees p names rs (held text rows n) → (seen : List (List ℕ)) (rest : List written.Rule) (ws : List Word)
        → Sofar (held text rows n) first k seen rest → RulesIn (words_at text at) ws rest → k + length rest ≤ 128
        → RowEnd (PairsAre text rows n p names) k cs c cs₁ starts sorts starts sorts r (rules_mean p names rs seen rest)
    go p names rs A seen (y ∷ rest) ws s (last_rule d _) _ =
        subst (λ m. RowEnd (PairsAre text rows n p names) k cs c cs₁ starts sorts starts sorts r (◌>>=◌ m (λ a. ◌>>=◌ (rules_mean p names rs (y.rule.text ∷ seen) rest) (λ as'. good (a ∷ as')))))
        (one-rule text rows n first k p names rs seen y rest A s) (row-fails (rule_by p names rs (held text rows n) first k y) _ (R.done p names rs A y ws d) z e₁ e₂ e₃)
    go p names rs A seen (y ∷ rest) ws s (more_rules {ws₁ = ws₁} d _ _) _ =
        subst (λ m. RowEnd (PairsAre text rows n p names) k cs c cs₁ starts sorts starts sorts r (◌>>=◌ m (λ a. ◌>>=◌ (rules_mean p names rs (y.rule.text ∷ seen) rest) (λ as'. good (a ∷ as')))))
        (one-rule text rows n first k p names rs seen y rest A s) (row-fails (rule_by p names rs (held text rows n) first k y) _ (R.done p names rs A y ws₁ d) z e₁ e₂ e₃)
    go p names rs A seen [] ws s x4 _ = elim x4 [ ]

pub row_last : {text rows : List ℕ} {n first k at : ℕ} {cs : List ℕ} {c : ℕ} {cs₁ starts sorts starts' sorts' : List ℕ} {x : RuledTold} {r : RulesTold} {w : WordAt}
    → length cs ≤ 60000 → k < length starts → k < length sorts
    → RuleDone text rows n first k at cs c cs₁ x → x.done.fault ≡ 0 → Next text x.done.at w → (w.kind ≡ 257 → ⊥)
    → starts' ≡ set starts k (c % 65536) → sorts' ≡ set sorts k (sort_of x.valued) → r.fault ≡ 0 → r.rules ≡ k + 1 → r.count ≡ x.done.count
    → RowDone text rows n first k at cs c cs₁ starts sorts starts' sorts' r
unfolding rules_mean
row_last {text} {rows} {n} {first} {k} {at} {cs} {c} {cs₁} {starts} {sorts} {starts'} {sorts'} {x} {r} {w} big i j R z N kind q₁ q₂ e₁ e₂ e₃ = record { done = go }
  where
    go : (p : Program) (names : Names) (rs : List KnownRule) → Agrees p names rs (held text rows n) → (seen : List (List ℕ)) (rest : List written.Rule) (ws : List Word)
        → Sofar (held text rows n) first k seen rest → RulesIn (words_at text at) ws rest → k + length rest ≤ 128
        → RowEnd (PairsAre text rows n p names) k cs c cs₁ starts sorts starts' sorts' r (rules_mean p names rs seen rest)
    go p names rs A seen (y ∷ []) ws s (last_rule d _) _ =
        subst (λ m. RowEnd (PairsAre text rows n p names) k cs c cs₁ starts sorts starts' sorts' r (◌>>=◌ m (λ a. ◌>>=◌ (rules_mean p names rs (y.rule.text ∷ seen) []) (λ as'. good (a ∷ as')))))
        (one-rule text rows n first k p names rs seen y [] A s)
        (row-then (rule_by p names rs (held text rows n) first k y) (rules_mean p names rs (y.rule.text ∷ seen) []) big i j (R.done p names rs A y ws d) z
        (subst (λ a. RowEnd (PairsAre text rows n p names) (k + 1) cs₁ x.done.count cs₁ (set starts k (c % 65536)) (set sorts k (sort_of x.valued)) a sorts' r (good [])) (sym q₁)
        (subst (λ b. RowEnd (PairsAre text rows n p names) (k + 1) cs₁ x.done.count cs₁ (set starts k (c % 65536)) (set sorts k (sort_of x.valued)) (set starts k (c % 65536)) b r (good [])) (sym q₂)
        (row-none e₁ e₂ e₃ (counted (rule_by p names rs (held text rows n) first k y) (R.done p names rs A y ws d) z)))))
    go p names rs A seen (y ∷ rest) ws s (more_rules {ws₁ = ws₁} d v _) _ =
        let here : ws₁ ≡ words_at text x.done.at = ends-here (rule_by p names rs (held text rows n) first k y) (R.done p names rs A y ws₁ d) z in
        absurd (kind (sym (kind-here text x.done.at w N) ∙ ap (λ l. (peek l).kind) (sym here) ∙ v))
    go p names rs A seen [] ws s x4 _ = elim x4 [ ]

some_rule : {ws ws' : List Word} {rs : List written.Rule} → RulesIn ws ws' rs → 0 < length rs
some_rule (last_rule _ _) = omega arith
some_rule (more_rules _ _ _) = omega arith

pub row-over : {text rows : List ℕ} {n first k at : ℕ} {cs : List ℕ} {c : ℕ} {cs₁ cs' starts sorts starts' sorts' : List ℕ} {x : RuledTold} {r : RulesTold} {w : WordAt}
    → RuleDone text rows n first k at cs c cs₁ x → x.done.fault ≡ 0 → Next text x.done.at w → w.kind ≡ 257 → k + 1 ≡ 128
    → RowDone text rows n first k at cs c cs' starts sorts starts' sorts' r
row-over {text} {rows} {n} {first} {k} {at} {cs} {c} {cs₁} {cs'} {starts} {sorts} {starts'} {sorts'} {x} {r} {w} R z N kind e = record { done = go }
  where
    go : (p : Program) (names : Names) (rs : List KnownRule) → Agrees p names rs (held text rows n) → (seen : List (List ℕ)) (rest : List written.Rule) (ws : List Word)
        → Sofar (held text rows n) first k seen rest → RulesIn (words_at text at) ws rest → k + length rest ≤ 128
        → RowEnd (PairsAre text rows n p names) k cs c cs' starts sorts starts' sorts' r (rules_mean p names rs seen rest)
    go p names rs A seen (y ∷ []) ws s (last_rule d t) _ =
        let here : ws ≡ words_at text x.done.at = ends-here (rule_by p names rs (held text rows n) first k y) (R.done p names rs A y ws d) z in
        absurd (t (ap (λ l. (peek l).kind) here ∙ kind-here text x.done.at w N ∙ kind))
    go p names rs A seen (y ∷ rest) ws s (more_rules d _ more) h = absurd (omega (arith, e, h, some_rule more))
    go p names rs A seen [] ws s x4 h = elim x4 [ ]

pub row_next : {text rows : List ℕ} {n first k at : ℕ} {cs : List ℕ} {c : ℕ} {cs₁ cs' starts sorts starts₁ sorts₁ starts' sorts' : List ℕ} {x : RuledTold} {r : RulesTold} {w : WordAt}
    → n ≤ 512 → length cs ≤ 60000 → k < length starts → k < length sorts
    → RuleDone text rows n first k at cs c cs₁ x → x.done.fault ≡ 0 → Next text x.done.at w → w.kind ≡ 257
    → starts₁ ≡ set starts k (c % 65536) → sorts₁ ≡ set sorts k (sort_of x.valued)
    → RowDone text rows n first (k + 1) x.done.at cs₁ x.done.count cs' starts₁ sorts₁ starts' sorts' r
    → RowDone text rows n first k at cs c cs' starts sorts starts' sorts' r
unfolding rules_mean
row_next {text} {rows} {n} {first} {k} {at} {cs} {c} {cs₁} {cs'} {starts} {sorts} {starts₁} {sorts₁} {starts'} {sorts'} {x} {r} {w} few big i j R z N kind q₁ q₂ M = record { done = go }
  where
    go : (p : Program) (names : Names) (rs : List KnownRule) → Agrees p names rs (held text rows n) → (seen : List (List ℕ)) (rest : List written.Rule) (ws : List Word)
        → Sofar (held text rows n) first k seen rest → RulesIn (words_at text at) ws rest → k + length rest ≤ 128
        → RowEnd (PairsAre text rows n p names) k cs c cs' starts sorts starts' sorts' r (rules_mean p names rs seen rest)
    go p names rs A seen (y ∷ []) ws s (last_rule d t) _ =
        let here : ws ≡ words_at text x.done.at = ends-here (rule_by p names rs (held text rows n) first k y) (R.done p names rs A y ws d) z in
        absurd (t (ap (λ l. (peek l).kind) here ∙ kind-here text x.done.at w N ∙ kind))
    go p names rs A seen (y ∷ rest) ws s (more_rules {ws₁ = ws₁} d v more) h =
        let here : ws₁ ≡ words_at text x.done.at = ends-here (rule_by p names rs (held text rows n) first k y) (R.done p names rs A y ws₁ d) z in
        subst (λ m. RowEnd (PairsAre text rows n p names) k cs c cs' starts sorts starts' sorts' r (◌>>=◌ m (λ a. ◌>>=◌ (rules_mean p names rs (y.rule.text ∷ seen) rest) (λ as'. good (a ∷ as')))))
        (one-rule text rows n first k p names rs seen y rest A s)
        (row-then (rule_by p names rs (held text rows n) first k y) (rules_mean p names rs (y.rule.text ∷ seen) rest) big i j (R.done p names rs A y ws₁ d) z
        (subst (λ a. RowEnd (PairsAre text rows n p names) (k + 1) cs₁ x.done.count cs' a (set sorts k (sort_of x.valued)) starts' sorts' r (rules_mean p names rs (y.rule.text ∷ seen) rest)) q₁
        (subst (λ b. RowEnd (PairsAre text rows n p names) (k + 1) cs₁ x.done.count cs' starts₁ b starts' sorts' r (rules_mean p names rs (y.rule.text ∷ seen) rest)) q₂
        (M.done p names rs A (y.rule.text ∷ seen) rest ws (sofar-more (held text rows n) first k seen y rest (held-short text rows n few) s)
        (subst (λ l. RulesIn l ws rest) here more) (omega (arith, h))))))
    go p names rs A seen [] ws s x4 h = elim x4 [ ]

-- The whole

whole-end : {E : Type 0} {cs cs' starts sorts starts' sorts' : List ℕ} {r : RulesTold} (m : Checked (List means.Rule)) → RowEnd E 0 cs 0 cs' starts sorts starts' sorts' r m → RulesEnd E cs cs' starts' sorts' r m
whole-end {starts' = starts'} {sorts'} (good prog) (row_built f l app _ _ new₁ new₂) =
    built {prog = prog} f (omega (arith, l)) app (λ k h. ap (λ t. get_or sorts' t 0) (plain k) ∙ new₁ k h) (λ x q k h. ap (λ t. get_or starts' t 0) (plain k) ∙ new₂ x q k h)
  where
    plain : (k : ℕ) → k ≡ 0 + k
    plain k = omega arith
whole-end (wrong n w) (row_faulty e nz at len) = faulty e nz at len

pub whole-done : {text rows : List ℕ} {n first at : ℕ} {cs cs' starts sorts starts' sorts' : List ℕ} {r : RulesTold}
    → n ≤ 512 → RowDone text rows n first 0 at cs 0 cs' starts sorts starts' sorts' r → RulesDone text rows n first at cs cs' starts' sorts' r
whole-done {text} {rows} {n} {first} {at} few R = record {
  done = λ p names e q A ws d h.
      whole-end (rules_mean p names (known_rules 0 p.rules) [] p.rules)
      (R.done p names (known_rules 0 p.rules) (subst (λ ds. Agrees p names (known_rules 0 p.rules) ds) (sym e) A) [] p.rules ws
      (subst (λ ds. Sofar ds first 0 [] p.rules) (sym e) (sofar-start p first q (subst (λ ds. length ds ≤ 512) e (held-short text rows n few)))) d (omega (arith, h)));
}
