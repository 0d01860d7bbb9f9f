-- Laws of selectors: what each answer tells of their derivations.
use mathlib.Core.Bool.{Bool, true, false}
use mathlib.Core.List.{List, [], ◌∷◌}
use mathlib.Core.Option.{Option, none, some}
use mathlib.Core.Path.{◌≡◌, refl, sym, ap, ◌∙◌}
use Prim.Native.Nat.{ℕ, ◌+◌, ◌*◌, ◌<◌, ◌≤◌}
use native.Mathlib.Omega.{arith}
use lib.ListN.{length, get_or}
use Rattle.cells.specs.Cells.{selector_cells, absent_cell}
use Rattle.declarations.specs.Decls.{Agrees, knowns_in, class_named, members_of}
use Rattle.grammar.specs.Derived.{Took, ConstantIn, SelectorIn, token_in, rule_inside, operation_inside}
use Rattle.maker.specs.Pairs.{PairsAre}
use Rattle.names.specs.Known.{Checked, good, KnownRule, Names}
use Rattle.names.specs.Resolve.{Chooses, choosing, selector_of}
use Rattle.places.proofs.Heres.{Same, took-here, took-kind, not-here}
use Rattle.program.specs.Program.{Selector, by_token, by_rule}
use Rattle.resolver.proofs.Appending.{appends-length}
use Rattle.resolver.proofs.Looking.{looks-good, looks-wrong, row-about, rule-about, after-good}
use Rattle.resolver.proofs.Outcomes.{by-operation-missing, by-operation-update, by-operation-rest, by-rule-missing, by-rule-procedure, by-rule-rest}
use Rattle.resolver.proofs.Rests.{Fails, ends_by, fail-ends, fails-here, fails-after, parameter-fails, parameter-good, parameter-words}
use Rattle.resolver.specs.Parts.{ParameterTold, Lies, NameIn, if_there, operation_cells, ParameterDone, Chose, SelectorEnds, ChoiceDone, by_rule_of, by_operation_of, chooses_of}
use Rattle.resolver.specs.Resolved.{Faulted, SelectedTold, Appends, ended, SelectorDone}
use Rattle.scanner.specs.Next.{Next, as_word}
use Rattle.scanner.specs.declared.WordAt.{WordAt}
use Rattle.symbols.proofs.Numbered.{Numbered}
use Rattle.symbols.specs.Rows.{held, word_of, decl_at, operation_in, rule_in}
use Rattle.syntax.specs.Written as written
use Rattle.syntax.specs.Written.{Program}
use Rattle.words.specs.Words.{Word, words_at}

-- the check gives a selector of these cells, and labels of the class t
record Picks (text rows : List ℕ) (n : ℕ) (ws : List Word) (cs : List ℕ) (c : ℕ) (cs' : List ℕ) (i k t a : ℕ) (m : Checked Chooses) : Type 0 where
  pub value : Selector
  pub is : m ≡ good (record { by = value; labels = knowns_in t (held text rows n) })
  pub words : ws ≡ words_at text i
  pub cells : Appends cs c (selector_cells value []) cs' k
  pub absent : a ≡ absent_cell value

pick_ends : {E : Type 0} {text rows cs cs' : List ℕ} {ws : List Word} {n c i k t a : ℕ} {r : SelectedTold} {m : Checked Chooses} → Chose i k t a r → Picks text rows n ws cs c cs' i k t a m → SelectorEnds E text rows n ws cs c cs' r m
pick_ends {E} {text} {rows} {cs} {cs'} {ws} {n} {c} {i} {k} {t} {a} {r} h e =
    let q : Appends cs c (selector_cells e.value []) cs' r.done.count = rw h.count e.cells in
    rw e.is (ended h.fault (e.words ∙ ap (words_at text) (sym h.at)) (λ _. q) (ap (λ (x : ℕ). knowns_in x (held text rows n)) (sym h.class), h.absent ∙ e.absent))

module _ {A : Type 0} {In : List Word → List Word → A → Type 0} {outcome : Program → Names → List KnownRule → A → Checked Chooses} {text rows : List ℕ} {n from : ℕ} {cs : List ℕ} {c : ℕ} where
  balks : {r : SelectedTold} {f i l : ℕ} → Faulted f i l r.done → (f ≡ 0 → ⊥)
      → ((p : Program) (names : Names) (rs : List KnownRule) → Agrees p names rs (held text rows n) → (a : A) (ws : List Word) → In (words_at text from) ws a → Fails f i l (outcome p names rs a))
      → ChoiceDone In outcome text rows n from cs c cs r
  balks h z k = record {
    same = refl;
    low = λ e. absurd (z (sym h.fault ∙ e));
    high = λ e. absurd (z (sym h.fault ∙ e));
    done = λ p names rs ag a ws t. fail-ends h.fault h.at h.len z (k p names rs ag a ws t);
  }

  picks : {r : SelectedTold} {i k u b : ℕ} {cs' : List ℕ} → Chose i k u b r → from ≤ i → i ≤ length text → length cs' ≡ length cs
      → ((p : Program) (names : Names) (rs : List KnownRule) → Agrees p names rs (held text rows n) → (a : A) (ws : List Word) → In (words_at text from) ws a
      → Picks text rows n ws cs c cs' i k u b (outcome p names rs a)) → ChoiceDone In outcome text rows n from cs c cs' r
  picks h lo hi s k = record {
    same = s;
    low = λ e. omega (arith, h.at);
    high = λ e. omega (arith, h.at);
    done = λ p names rs ag a ws t. pick_ends h (k p names rs ag a ws t);
  }

-- A choice rule

module _ {text rows : List ℕ} {n at fl row : ℕ} {cs : List ℕ} {c : ℕ} {r : SelectedTold} (w : WordAt) (h : Next text at w) (inside : at ≤ length text)
    (looks : Numbered fl row (rule_in (held text rows n) (as_word text w))) where
  pub rule-balks : (fl ≡ 0 → ⊥) → Faulted fl w.start w.len r.done → ChoiceDone NameIn by_rule_of text rows n at cs c cs r
  rule-balks z s = balks s z (λ p names rs ag u ws t.
      fails-here text w (h.inside inside) (ap (by_rule_of p names rs) (took-here text at 257 w u ws (omega arith) h t).word
      ∙ by-rule-missing text rows n ag (as_word text w) fl (looks-wrong (rule-about (held text rows n) (as_word text w)) looks z)))

  pub rule-procedure : fl ≡ 0 → row < n → get_or rows (8 * row + 7) 0 ≡ 0 → Faulted 5 w.start w.len r.done → ChoiceDone NameIn by_rule_of text rows n at cs c cs r
  rule-procedure z b y s = balks s (λ e. omega arith) (λ p names rs ag u ws t.
      fails-here text w (h.inside inside) (ap (by_rule_of p names rs) (took-here text at 257 w u ws (omega arith) h t).word
      ∙ by-rule-procedure text rows n ag (as_word text w) row b (looks-good looks z) y))

  pub rule-picks : {cs' : List ℕ} {k : ℕ} (class : ℕ) → fl ≡ 0 → row < n → (get_or rows (8 * row + 7) 0 ≡ 0 → ⊥)
      → class ≡ class_named (held text rows n) (word_of text 257 (get_or rows (8 * row + 6) 0) (get_or rows (8 * row + 7) 0)).text
      → Appends cs c (11 ∷ get_or rows (8 * row + 1) 0 ∷ []) cs' k → Chose w.next k class 12 r → ChoiceDone NameIn by_rule_of text rows n at cs c cs' r
  unfolding decl_at selector_cells absent_cell
  rule-picks {cs'} {k} class z b y q a g = picks g h.onto (h.high inside) (appends-length a) (λ p names rs ag u ws t.
      let s : Same text w u ws = took-here text at 257 w u ws (omega arith) h t in
      record {
        value = by_rule (get_or rows (8 * row + 1) 0);
        is = ap (by_rule_of p names rs) s.word ∙ by-rule-rest text rows n ag (as_word text w) row class b (looks-good looks z) y q;
        words = s.behind;
        cells = a;
        absent = refl;
      })

-- A choice operation

choosing-cells : (op : ℕ) (b : Bool) (v : ℕ) → selector_cells (choosing op (if_there b v)) [] ≡ operation_cells op b v
unfolding selector_cells operation_cells
choosing-cells op false v = refl
choosing-cells op true v = refl

choosing-absent : (op : ℕ) (o : Option ℕ) → 12 ≡ absent_cell (choosing op o)
unfolding absent_cell
choosing-absent op none = refl
choosing-absent op (some v) = refl

module _ {text rows : List ℕ} {n : ℕ} {cs : List ℕ} {c : ℕ} {r : SelectedTold} {q : ParameterTold} (row class : ℕ) (w : WordAt)
    (d : ParameterDone text rows n w.next (as_word text w) (members_of (held text rows n) (decl_at text rows row).second) q) where
  pub with-balks : (q.fault ≡ 0 → ⊥) → Faulted q.fault q.at q.len r.done → ChoiceDone ConstantIn (chooses_of text rows n row (as_word text w) class) text rows n w.next cs c cs r
  with-balks x s = balks s x (λ p names rs ag o ws t. fails-after (λ v. good (record { by = choosing (decl_at text rows row).value v; labels = knowns_in class (held text rows n) })) (parameter-fails (d.done p names rs ag o ws t) x))

  pub with-picks : {cs' : List ℕ} {k : ℕ} → q.fault ≡ 0 → Appends cs c (operation_cells (get_or rows (8 * row + 1) 0) q.there q.value) cs' k → Chose q.at k class 12 r
      → ChoiceDone ConstantIn (chooses_of text rows n row (as_word text w) class) text rows n w.next cs c cs' r
  unfolding decl_at
  with-picks {cs'} {k} x a g = picks g (d.low x) (d.high x) (appends-length a) (λ p names rs ag o ws t. record {
    value = choosing (get_or rows (8 * row + 1) 0) (if_there q.there q.value);
    is = after-good (λ v. good (record { by = choosing (decl_at text rows row).value v; labels = knowns_in class (held text rows n) })) (if_there q.there q.value) (parameter-good (d.done p names rs ag o ws t) x);
    words = parameter-words (d.done p names rs ag o ws t) x;
    cells = rw (choosing-cells (get_or rows (8 * row + 1) 0) q.there q.value) a;
    absent = choosing-absent (get_or rows (8 * row + 1) 0) (if_there q.there q.value);
  })

module _ {text rows : List ℕ} {n fl row : ℕ} {cs : List ℕ} {c : ℕ} {r : SelectedTold} (w : WordAt) (lies : Lies text w) (looks : Numbered fl row (operation_in (held text rows n) (as_word text w))) where
  pub operation-balks : (fl ≡ 0 → ⊥) → Faulted fl w.start w.len r.done → ChoiceDone ConstantIn (λ p names rs. by_operation_of p names rs (as_word text w)) text rows n w.next cs c cs r
  operation-balks z s = balks s z (λ p names rs ag o ws t.
      fails-here text w lies.inside (by-operation-missing text rows n ag (as_word text w) o fl (looks-wrong (row-about 6 (held text rows n) (as_word text w)) looks z)))

  pub operation-update : fl ≡ 0 → row < n → get_or rows (8 * row + 7) 0 ≡ 0 → Faulted 5 w.start w.len r.done
      → ChoiceDone ConstantIn (λ p names rs. by_operation_of p names rs (as_word text w)) text rows n w.next cs c cs r
  operation-update z b y s = balks s (λ e. omega arith) (λ p names rs ag o ws t.
      fails-here text w lies.inside (by-operation-update text rows n ag (as_word text w) o row b (looks-good looks z) y))

  pub operation-picks : {cs' : List ℕ} (class : ℕ) → fl ≡ 0 → row < n → (get_or rows (8 * row + 7) 0 ≡ 0 → ⊥)
      → class ≡ class_named (held text rows n) (word_of text 257 (get_or rows (8 * row + 6) 0) (get_or rows (8 * row + 7) 0)).text
      → ChoiceDone ConstantIn (chooses_of text rows n row (as_word text w) class) text rows n w.next cs c cs' r
      → ChoiceDone ConstantIn (λ p names rs. by_operation_of p names rs (as_word text w)) text rows n w.next cs c cs' r
  operation-picks {cs'} class z b y q d = record {
    same = d.same;
    low = d.low;
    high = d.high;
    done = λ p names rs ag o ws t. ends_by (by-operation-rest text rows n ag (as_word text w) o row class b (looks-good looks z) y q) (d.done p names rs ag o ws t);
  }

-- By the first word

module _ {text rows : List ℕ} {n at : ℕ} {cs cs' : List ℕ} {c : ℕ} {r : SelectedTold} (w : WordAt) (h : Next text at w) where
  pub selector-rule : w.kind ≡ 64 → ChoiceDone NameIn by_rule_of text rows n w.next cs c cs' r → SelectorDone text rows n at cs c cs' r
  selector-rule z d = record { same = d.same; low = λ f. omega (arith, d.low f, h.onto); high = d.high; done = λ p names rs ag s ws t. go p names rs ag s ws t }
    where
      go : (p : Program) (names : Names) (rs : List KnownRule) → Agrees p names rs (held text rows n) → (s : written.Selector) (ws : List Word) → SelectorIn (words_at text at) ws s
          → SelectorEnds (PairsAre text rows n p names) text rows n ws cs c cs' r (selector_of p names rs s)
      go p names rs ag written.by_token ws (token_in a b e) = absurd (not-here text at 64 w h a z)
      go p names rs ag (written.by_rule v) ws (rule_inside {at = d'} {ws₁ = ws₁} t u) =
          let u' : Took 257 (words_at text w.next) v ws = rw (took-here text at 64 w d' ws₁ (omega arith) h t).behind at u in
          d.done p names rs ag v ws u'
      go p names rs ag (written.by_operation v o) ws (operation_inside {ws₁ = ws₁} t u) = absurd (omega (arith, took-kind text at 257 w v ws₁ h t))

  pub selector-operation : w.kind ≡ 257 → ChoiceDone ConstantIn (λ p names rs. by_operation_of p names rs (as_word text w)) text rows n w.next cs c cs' r → SelectorDone text rows n at cs c cs' r
  selector-operation z d = record { same = d.same; low = λ f. omega (arith, d.low f, h.onto); high = d.high; done = λ p names rs ag s ws t. go p names rs ag s ws t }
    where
      go : (p : Program) (names : Names) (rs : List KnownRule) → Agrees p names rs (held text rows n) → (s : written.Selector) (ws : List Word) → SelectorIn (words_at text at) ws s
          → SelectorEnds (PairsAre text rows n p names) text rows n ws cs c cs' r (selector_of p names rs s)
      go p names rs ag written.by_token ws (token_in a b e) = absurd (not-here text at 257 w h b z)
      go p names rs ag (written.by_rule v) ws (rule_inside {at = d'} {ws₁ = ws₁} t u) = absurd (omega (arith, took-kind text at 64 w d' ws₁ h t))
      go p names rs ag (written.by_operation v o) ws (operation_inside {ws₁ = ws₁} t u) =
          let s : Same text w v ws₁ = took-here text at 257 w v ws₁ (omega arith) h t in
          let u' : ConstantIn (words_at text w.next) ws o = rw s.behind at u in
          ends_by (ap (λ v. by_operation_of p names rs v o) s.word) (d.done p names rs ag o ws u')

  pub selector-token : {k : ℕ} → (w.kind ≡ 64 → ⊥) → (w.kind ≡ 257 → ⊥) → at ≤ length text → Appends cs c (7 ∷ []) cs' k → Chose at k 1 14 r → SelectorDone text rows n at cs c cs' r
  unfolding selector_of selector_cells absent_cell
  selector-token {k} y z q a g = record {
    same = appends-length a;
    low = λ f. omega (arith, g.at);
    high = λ f. omega (arith, g.at);
    done = λ p names rs ag s ws t. go p names rs ag s ws t;
  }
    where
      go : (p : Program) (names : Names) (rs : List KnownRule) → Agrees p names rs (held text rows n) → (s : written.Selector) (ws : List Word) → SelectorIn (words_at text at) ws s
          → SelectorEnds (PairsAre text rows n p names) text rows n ws cs c cs' r (selector_of p names rs s)
      go p names rs ag written.by_token ws (token_in x b e) =
          pick_ends g (record { value = by_token; is = ap (λ ks. good (record { by = by_token; labels = ks })) ag.inputs; words = e; cells = a; absent = refl })
      go p names rs ag (written.by_rule v) ws (rule_inside {at = d'} {ws₁ = ws₁} t u) = absurd (y (took-kind text at 64 w d' ws₁ h t))
      go p names rs ag (written.by_operation v o) ws (operation_inside {ws₁ = ws₁} t u) = absurd (z (took-kind text at 257 w v ws₁ h t))
