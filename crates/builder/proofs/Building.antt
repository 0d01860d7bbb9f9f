-- The parts of a rule's actions, one law for each way in which a function of the cycle goes on or returns.
use mathlib.Core.Bool.{Bool, true, false, ◌&&◌, ◌||◌, and-true, or-false, and_assoc, or_assoc}
use mathlib.Core.List.{List, [], ◌∷◌}
use mathlib.Core.Logic.{◌⊎◌, inl, inr}
use mathlib.Core.Path.{◌≡◌, refl, sym, ap, ◌∙◌, subst}
use Prim.Native.Nat.{ℕ, ◌≤◌}
use lib.ListN.{length}
use native.Mathlib.Omega.{arith}
use Rattle.base.specs.Tree.{plain, cycle, choice, done, ◌▸◌, otherwise}
use Rattle.resolver.proofs.Appending.{appends-length}
use Rattle.builder.proofs.Encoding.{more-cells}
use Rattle.builder.proofs.Laws.{ends-fails, ends-map, ends-after, ends-passed, ends-then}
use Rattle.builder.specs.Parts.{place_of, ActDone, ActsDone, CycleDone, ChoiceDone, OtherDone}
use Rattle.cells.specs.Cells.{act_cells, acts_cells, other_cells}
use Rattle.declarations.specs.Decls.{Agrees}
use Rattle.grammar.specs.Derived.{Took, PlainIn, named_in, any_in, emit_in, error_in, exit_in, call_in, give_in, ranked_in, SelectorIn, ActIn, plain_in, cycle_in, choice_in, ActsIn, none_in, more_in}
use Rattle.maker.specs.Pairs.{PairsAre}
use Rattle.names.specs.Known.{good, KnownRule, Names}
use Rattle.names.specs.Resolve.{within, plain_of, act_of, acts_of, other_of}
use Rattle.places.proofs.Heres.{kind-here, took-kind, took-here, reference-kind}
use Rattle.program.specs.Past.{past, past_all, past_other, exits, exits_all, exits_other}
use Rattle.resolver.specs.Resolved.{BuiltTold, Appends, Ends, ended, Flags, PlainDone}
use Rattle.scanner.specs.Next.{Next}
use Rattle.scanner.specs.declared.WordAt.{WordAt}
use Rattle.symbols.specs.Rows.{held}
use Rattle.syntax.specs.Actions.{closes}
use Rattle.syntax.specs.Written as written
use Rattle.syntax.specs.Written.{Program}
use Rattle.words.specs.Words.{Word, words_at}

pub apart : (b : Bool) → b ≡ true → b ≡ false → ⊥
apart b p q = let z : ◌≡◌ {A = Bool} true false = sym p ∙ q in let y : ◌≡◌ {A = ℕ} 0 1 = cc in omega arith

-- Actions in a row

pub acts-stop : {text rows : List ℕ} {n at : ℕ} {inside : Bool} {class : ℕ} {before some : Bool} {cs : List ℕ} {c : ℕ} {cs' : List ℕ} {r : BuiltTold} {w : WordAt}
    → at ≤ length text → Next text at w → closes w.kind ≡ true → Appends cs c (0 ∷ []) cs' r.done.count → r.done.fault ≡ 0 → r.done.at ≡ at → r.past ≡ before → r.exits ≡ some
    → ActsDone text rows n at inside class before some cs c cs' r
unfolding acts_of acts_cells past_all exits_all
acts-stop {text} {rows} {n} {at} {inside} {class} {before} {some} {cs} {c} {cs'} {r} {w} inn h k app f a e₁ e₂ =
    record { kept = record { same = appends-length app; low = λ _. omega (arith, a); high = λ _. omega (arith, a, inn) }; done = go }
  where
    go : (p : Program) (names : Names) (rs : List KnownRule) → Agrees p names rs (held text rows n) → (q : written.Acts) (ws : List Word) → ActsIn (words_at text at) ws q
        → Ends (PairsAre text rows n p names) text ws cs c cs' (λ b. acts_cells b []) (λ b. Flags r.past r.exits (before && past_all b) (some || exits_all b)) r.done
        (acts_of p names rs q (place_of (held text rows n) inside class))
    go p names rs g done ws (none_in _ e) = ended f (e ∙ ap (words_at text) (sym a)) (λ _. app) (e₁ ∙ sym (and-true before), e₂ ∙ sym (or-false some))
    go p names rs g (x ▸ q) ws (more_in o _ _) = absurd (apart (closes w.kind) k (ap closes (sym (kind-here text at w h)) ∙ o))

pub acts-fail : {text rows : List ℕ} {n at : ℕ} {inside : Bool} {class : ℕ} {before some : Bool} {cs : List ℕ} {c : ℕ} {cs₁ : List ℕ} {a : BuiltTold} {w : WordAt}
    → Next text at w → closes w.kind ≡ false → ActDone text rows n at inside class cs c cs₁ a → (a.done.fault ≡ 0 → ⊥)
    → ActsDone text rows n at inside class before some cs c cs₁ a
unfolding acts_of
acts-fail {text} {rows} {n} {at} {inside} {class} {before} {some} {cs} {c} {cs₁} {a} {w} h k A z =
    record { kept = record { same = A.kept.same; low = λ e. absurd (z e); high = λ e. absurd (z e) }; done = go }
  where
    go : (p : Program) (names : Names) (rs : List KnownRule) → Agrees p names rs (held text rows n) → (q : written.Acts) (ws : List Word) → ActsIn (words_at text at) ws q
        → Ends (PairsAre text rows n p names) text ws cs c cs₁ (λ b. acts_cells b []) (λ b. Flags a.past a.exits (before && past_all b) (some || exits_all b)) a.done
        (acts_of p names rs q (place_of (held text rows n) inside class))
    go p names rs g done ws (none_in o _) = absurd (apart (closes w.kind) (ap closes (sym (kind-here text at w h)) ∙ o) k)
    go p names rs g (x ▸ q) ws (more_in {ws₁ = ws₁} _ d _) = ends-fails (act_of p names rs x (place_of (held text rows n) inside class)) _ (A.done p names rs g x ws₁ d) z

pub acts-more : {text rows : List ℕ} {n at : ℕ} {inside : Bool} {class : ℕ} {before some before' some' : Bool} {cs : List ℕ} {c : ℕ} {cs₁ cs' : List ℕ} {a r : BuiltTold} {w : WordAt}
    → Next text at w → closes w.kind ≡ false → ActDone text rows n at inside class cs c cs₁ a → a.done.fault ≡ 0
    → before' ≡ (before && a.past) → some' ≡ (some || a.exits)
    → ActsDone text rows n a.done.at inside class before' some' cs₁ a.done.count cs' r → ActsDone text rows n at inside class before some cs c cs' r
unfolding acts_of past exits
acts-more {text} {rows} {n} {at} {inside} {class} {before} {some} {before'} {some'} {cs} {c} {cs₁} {cs'} {a} {r} {w} h k A z e₁ e₂ B =
    record { kept = record { same = B.kept.same ∙ A.kept.same; low = λ e. omega (arith, A.kept.low z, B.kept.low e); high = B.kept.high }; done = go }
  where
    go : (p : Program) (names : Names) (rs : List KnownRule) → Agrees p names rs (held text rows n) → (q : written.Acts) (ws : List Word) → ActsIn (words_at text at) ws q
        → Ends (PairsAre text rows n p names) text ws cs c cs' (λ b. acts_cells b []) (λ b. Flags r.past r.exits (before && past_all b) (some || exits_all b)) r.done
        (acts_of p names rs q (place_of (held text rows n) inside class))
    go p names rs g done ws (none_in o _) = absurd (apart (closes w.kind) (ap closes (sym (kind-here text at w h)) ∙ o) k)
    go p names rs g (x ▸ q) ws (more_in {ws₁ = ws₁} _ d dq) =
        ends-then (λ _ b. acts_cells b []) (λ _ b. Flags r.past r.exits (before' && past_all b) (some' || exits_all b)) (λ b. acts_cells b [])
        (λ b. Flags r.past r.exits (before && past_all b) (some || exits_all b)) (λ y b. y ▸ b) (act_of p names rs x (place_of (held text rows n) inside class))
        (λ _. acts_of p names rs q (place_of (held text rows n) inside class)) (A.done p names rs g x ws₁ d) z
        (λ y here _. B.done p names rs g q ws (subst (λ l. ActsIn l ws q) here dq))
        (λ y b py qb. (
          more-cells y b,
          (
            qb.0 ∙ ap (λ t. t && past_all b) (e₁ ∙ ap (λ t. before && t) py.0) ∙ and_assoc before (past y) (past_all b),
            qb.1 ∙ ap (λ t. t || exits_all b) (e₂ ∙ ap (λ t. some || t) py.1) ∙ or_assoc some (exits y) (exits_all b),
          ),
        ))

-- One action

-- a plain action begins with neither bracket
plain-begins : {text : List ℕ} {at : ℕ} {w : WordAt} {ws : List Word} (a : written.Plain) → Next text at w → PlainIn (words_at text at) ws a → (w.kind ≡ 123 → ⊥) × (w.kind ≡ 91 → ⊥)
plain-begins {text} {at} {w} a h (named_in {w = v} {ws₁ = ws₁} d _) = go (reference-kind text at w v ws₁ h d)
  where
    go : (w.kind ≡ 257) ⊎ (w.kind ≡ 259) → (w.kind ≡ 123 → ⊥) × (w.kind ≡ 91 → ⊥)
    go (inl e) = (λ q. omega arith, λ q. omega arith)
    go (inr e) = (λ q. omega arith, λ q. omega arith)
plain-begins {text} {at} {w} {ws} a h (any_in {w = v} t) = let e = took-kind text at 63 w v ws h t in (λ q. omega (arith, e), λ q. omega (arith, e))
plain-begins {text} {at} {w} {ws} a h (emit_in {dot = v} {ws₁ = ws₁} t _) = let e = took-kind text at 46 w v ws₁ h t in (λ q. omega (arith, e), λ q. omega (arith, e))
plain-begins {text} {at} {w} {ws} a h (error_in {hash = v} {ws₁ = ws₁} t _) = let e = took-kind text at 35 w v ws₁ h t in (λ q. omega (arith, e), λ q. omega (arith, e))
plain-begins {text} {at} {w} {ws} a h (exit_in {w = v} t) = let e = took-kind text at 62 w v ws h t in (λ q. omega (arith, e), λ q. omega (arith, e))
plain-begins {text} {at} {w} {ws} a h (call_in {at = v} {ws₁ = ws₁} t _) = let e = took-kind text at 64 w v ws₁ h t in (λ q. omega (arith, e), λ q. omega (arith, e))
plain-begins {text} {at} {w} {ws} a h (give_in {w = v} {ws₁ = ws₁} t _) = let e = took-kind text at 256 w v ws₁ h t in (λ q. omega (arith, e), λ q. omega (arith, e))
plain-begins {text} {at} {w} {ws} a h (ranked_in {s = v} {ws₁ = ws₁} t _ _ _) = let e = took-kind text at 94 w v ws₁ h t in (λ q. omega (arith, e), λ q. omega (arith, e))

pub act-cycle : {text rows : List ℕ} {n at : ℕ} {inside : Bool} {class : ℕ} {cs : List ℕ} {c : ℕ} {cs' : List ℕ} {r : BuiltTold} {w : WordAt}
    → Next text at w → w.kind ≡ 123 → CycleDone text rows n w.next class cs c cs' r → ActDone text rows n at inside class cs c cs' r
act-cycle {text} {rows} {n} {at} {inside} {class} {cs} {c} {cs'} {r} {w} h k C =
    record { kept = record { same = C.kept.same; low = λ e. omega (arith, C.kept.low e, h.moves (omega (arith, k))); high = C.kept.high }; done = go }
  where
    go : (p : Program) (names : Names) (rs : List KnownRule) → Agrees p names rs (held text rows n) → (a : written.Act) (ws : List Word) → ActIn (words_at text at) ws a
        → Ends (PairsAre text rows n p names) text ws cs c cs' (λ b. act_cells b []) (λ b. Flags r.past r.exits (past b) (exits b)) r.done
        (act_of p names rs a (place_of (held text rows n) inside class))
    go p names rs g (plain a) ws (plain_in d) = absurd ((plain-begins a h d).0 k)
    go p names rs g (cycle b) ws (cycle_in {ws₁ = ws₁} {ws₂ = ws₂} {opening = o} {close = e} t d u) =
        C.done p names rs g b e ws₂ ws (subst (λ l. ActsIn l ws₂ b) (took-here text at 123 w o ws₁ (omega arith) h t).behind d) u inside
    go p names rs g (choice s q o) ws (choice_in {ws₁ = ws₁} {opening = v} t _ _ _) = absurd (omega (arith, k, took-kind text at 91 w v ws₁ h t))

pub act-choice : {text rows : List ℕ} {n at : ℕ} {inside : Bool} {class : ℕ} {cs : List ℕ} {c : ℕ} {cs' : List ℕ} {r : BuiltTold} {w : WordAt}
    → Next text at w → w.kind ≡ 91 → ChoiceDone text rows n w.next inside class cs c cs' r → ActDone text rows n at inside class cs c cs' r
act-choice {text} {rows} {n} {at} {inside} {class} {cs} {c} {cs'} {r} {w} h k C =
    record { kept = record { same = C.kept.same; low = λ e. omega (arith, C.kept.low e, h.moves (omega (arith, k))); high = C.kept.high }; done = go }
  where
    go : (p : Program) (names : Names) (rs : List KnownRule) → Agrees p names rs (held text rows n) → (a : written.Act) (ws : List Word) → ActIn (words_at text at) ws a
        → Ends (PairsAre text rows n p names) text ws cs c cs' (λ b. act_cells b []) (λ b. Flags r.past r.exits (past b) (exits b)) r.done
        (act_of p names rs a (place_of (held text rows n) inside class))
    go p names rs g (plain a) ws (plain_in d) = absurd ((plain-begins a h d).1 k)
    go p names rs g (cycle b) ws (cycle_in {ws₁ = ws₁} {opening = v} t _ _) = absurd (omega (arith, k, took-kind text at 123 w v ws₁ h t))
    go p names rs g (choice s q o) ws (choice_in {ws₁ = ws₁} {ws₂ = ws₂} {ws₃ = ws₃} {opening = v} {bar = b} t d u e) =
        C.done p names rs g s q o b ws₂ ws₃ ws (subst (λ l. SelectorIn l ws₂ s) (took-here text at 91 w v ws₁ (omega arith) h t).behind d) u e

pub act-plain : {text rows : List ℕ} {n at : ℕ} {inside : Bool} {class : ℕ} {cs : List ℕ} {c : ℕ} {cs' : List ℕ} {r : BuiltTold} {w : WordAt}
    → Next text at w → (w.kind ≡ 123 → ⊥) → (w.kind ≡ 91 → ⊥) → PlainDone text rows n at inside class cs c cs' r → ActDone text rows n at inside class cs c cs' r
unfolding act_of act_cells past exits
act-plain {text} {rows} {n} {at} {inside} {class} {cs} {c} {cs'} {r} {w} h k₁ k₂ P =
    record { kept = record { same = P.same; low = λ e. omega (arith, P.moves e); high = P.high }; done = go }
  where
    go : (p : Program) (names : Names) (rs : List KnownRule) → Agrees p names rs (held text rows n) → (a : written.Act) (ws : List Word) → ActIn (words_at text at) ws a
        → Ends (PairsAre text rows n p names) text ws cs c cs' (λ b. act_cells b []) (λ b. Flags r.past r.exits (past b) (exits b)) r.done
        (act_of p names rs a (place_of (held text rows n) inside class))
    go p names rs g (plain a) ws (plain_in d) =
        ends-map (λ b. act_cells b []) (λ b. Flags r.past r.exits (past b) (exits b)) (λ b. plain b) (plain_of p names rs (place_of (held text rows n) inside class) a)
        (P.done p names rs g a ws d) (λ b q. (refl, q))
    go p names rs g (cycle b) ws (cycle_in {ws₁ = ws₁} {opening = v} t _ _) = absurd (k₁ (took-kind text at 123 w v ws₁ h t))
    go p names rs g (choice s q o) ws (choice_in {ws₁ = ws₁} {opening = v} t _ _ _) = absurd (k₂ (took-kind text at 91 w v ws₁ h t))

-- Cycles

pub cycle-fail : {text rows : List ℕ} {n at class : ℕ} {cs : List ℕ} {c : ℕ} {cs₁ : List ℕ} {c₁ : ℕ} {cs' : List ℕ} {b : BuiltTold}
    → Appends cs c (2 ∷ []) cs₁ c₁ → ActsDone text rows n at true class true false cs₁ c₁ cs' b → (b.done.fault ≡ 0 → ⊥) → CycleDone text rows n at class cs c cs' b
unfolding act_of within
cycle-fail {text} {rows} {n} {at} {class} app B z = record {
  kept = record { same = B.kept.same ∙ appends-length app; low = λ e. absurd (z e); high = λ e. absurd (z e) };
  done = λ p names rs g q close ws₁ ws d t inside. ends-fails (acts_of p names rs q (place_of (held text rows n) true class)) (λ x. good (cycle x)) (B.done p names rs g q ws₁ d) z;
}

pub cycle-end : {text rows : List ℕ} {n at class : ℕ} {cs : List ℕ} {c : ℕ} {cs₁ : List ℕ} {c₁ : ℕ} {cs' : List ℕ} {b r : BuiltTold} {w : WordAt}
    → Appends cs c (2 ∷ []) cs₁ c₁ → ActsDone text rows n at true class true false cs₁ c₁ cs' b → b.done.fault ≡ 0 → Next text b.done.at w
    → r.done.fault ≡ 0 → r.done.at ≡ w.next → r.done.count ≡ b.done.count → r.past ≡ b.exits → r.exits ≡ false → CycleDone text rows n at class cs c cs' r
unfolding act_of within act_cells past exits
cycle-end {text} {rows} {n} {at} {class} {cs} {c} {cs₁} {c₁} {cs'} {b} {r} {w} app B z h f a m e₁ e₂ = record {
  kept = record { same = B.kept.same ∙ appends-length app; low = λ e. omega (arith, a, B.kept.low z, h.onto); high = λ e. omega (arith, a, h.high (B.kept.high z)) };
  done = λ p names rs g q close ws₁ ws d t inside.
      ends-map (λ x. act_cells x []) (λ x. Flags r.past r.exits (past x) (exits x)) (λ x. cycle x) (acts_of p names rs q (place_of (held text rows n) true class))
      (ends-passed (acts_of p names rs q (place_of (held text rows n) true class)) (ends-after (acts_of p names rs q (place_of (held text rows n) true class)) app (B.done p names rs g q ws₁ d)) z f
      (λ here. (took-here text b.done.at 125 w close ws (omega arith) h (subst (λ l. Took 125 l close ws) here t)).behind ∙ ap (words_at text) (sym a)) m)
      (λ x k. (refl, (e₁ ∙ k.1, e₂)));
}

-- Otherwise

pub other-fail : {text rows : List ℕ} {n at : ℕ} {inside : Bool} {class : ℕ} {cs : List ℕ} {c : ℕ} {cs₁ : List ℕ} {c₁ : ℕ} {cs' : List ℕ} {b : BuiltTold} {w : WordAt}
    → Next text at w → Appends cs c (13 ∷ []) cs₁ c₁ → ActsDone text rows n w.next inside class true false cs₁ c₁ cs' b → (b.done.fault ≡ 0 → ⊥)
    → OtherDone text rows n at inside class cs c cs' b
unfolding other_of
other-fail {text} {rows} {n} {at} {inside} {class} {cs} {c} {cs₁} {c₁} {cs'} {b} {w} h app B z = record {
  kept = record { same = B.kept.same ∙ appends-length app; low = λ e. absurd (z e); high = λ e. absurd (z e) };
  done = λ p names rs g q colon close ws₁ ws₂ ws t d u no.
      ends-fails (acts_of p names rs q (place_of (held text rows n) inside class)) _
      (B.done p names rs g q ws₂ (subst (λ l. ActsIn l ws₂ q) (took-here text at 58 w colon ws₁ (omega arith) h t).behind d)) z;
}

pub other-end : {text rows : List ℕ} {n at : ℕ} {inside : Bool} {class : ℕ} {cs : List ℕ} {c : ℕ} {cs₁ : List ℕ} {c₁ : ℕ} {cs' : List ℕ} {b r : BuiltTold} {w v : WordAt}
    → Next text at w → Appends cs c (13 ∷ []) cs₁ c₁ → ActsDone text rows n w.next inside class true false cs₁ c₁ cs' b → b.done.fault ≡ 0 → Next text b.done.at v
    → r.done.fault ≡ 0 → r.done.at ≡ v.next → r.done.count ≡ b.done.count → r.past ≡ b.past → r.exits ≡ b.exits → OtherDone text rows n at inside class cs c cs' r
unfolding other_of other_cells past_other exits_other
other-end {text} {rows} {n} {at} {inside} {class} {cs} {c} {cs₁} {c₁} {cs'} {b} {r} {w} {v} h app B z h₂ f a m e₁ e₂ = record {
  kept = record { same = B.kept.same ∙ appends-length app; low = λ e. omega (arith, a, h.onto, B.kept.low z, h₂.onto); high = λ e. omega (arith, a, h₂.high (B.kept.high z)) };
  done = λ p names rs g q colon close ws₁ ws₂ ws t d u no.
      ends-map (λ x. other_cells x no []) (λ x. Flags r.past r.exits (past_other x) (exits_other x)) (λ x. otherwise x) (acts_of p names rs q (place_of (held text rows n) inside class))
      (ends-passed (acts_of p names rs q (place_of (held text rows n) inside class)) (ends-after (acts_of p names rs q (place_of (held text rows n) inside class)) app
      (B.done p names rs g q ws₂ (subst (λ l. ActsIn l ws₂ q) (took-here text at 58 w colon ws₁ (omega arith) h t).behind d))) z f
      (λ here. (took-here text b.done.at 93 v close ws (omega arith) h₂ (subst (λ l. Took 93 l close ws) here u)).behind ∙ ap (words_at text) (sym a)) m)
      (λ x k. (refl, (e₁ ∙ k.0, e₂ ∙ k.1)));
}
