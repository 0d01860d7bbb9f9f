-- A rule that is read and written, and the rules one after the other.
use mathlib.Core.Bool.{true, false}
use mathlib.Core.List.{List, [], ◌∷◌, ◌++◌, append-nil}
use mathlib.Core.Option.{Option, none, some}
use mathlib.Core.Path.{◌≡◌, refl, sym, ap, ◌∙◌, subst}
use native.Mathlib.Omega.{arith}
use Prim.Native.Nat.{ℕ, suc, ◌+◌, ◌<◌, ◌≤◌, min}
use lib.ListN.{length, take, drop}
use lib.Seq.{take_at}
use Rattle.acceptance.proofs.Shape.{Each}
use Rattle.base.specs.Common.{given}
use Rattle.cells.specs.Cells.{acts_cells}
use Rattle.declarations.specs.Decls.{index_of}
use Rattle.grammar.specs.Derived.{Not, RuleIn, one_rule, RulesIn, last_rule, more_rules}
use Rattle.maker.proofs.Taking.{row-less}
use Rattle.names.specs.Known.{Checked, good, wrong, ◌>>=◌}
use Rattle.parts.specs.Form.{mark_of, body_cells, rule_words, rules_words}
use Rattle.parts.specs.Moved.{move_open, move_opens}
use Rattle.parts.specs.Objects.{Aim, OpenRule, open_rule, open_all}
use Rattle.parts.specs.Sound.{frame, SoundRule}
use Rattle.partwriter.proofs.Putting.{puts_then, puts-same}
use Rattle.partwriter.specs.Put.{Puts, back}
use Rattle.places.proofs.Heres.{Same, took-here, kind-here}
use Rattle.resolver.proofs.Appending.{appends-whole}
use Rattle.resolver.specs.Resolved.{DoneTold, Ends, ended, failed}
use Rattle.scanner.specs.Next.{Next}
use Rattle.scanner.specs.declared.WordAt.{WordAt}
use Rattle.symbols.specs.Rows.{held}
use Rattle.symbols.specs.Search.{part}
use Rattle.syntax.specs.Reading.{peek}
use Rattle.syntax.specs.Texts.{Head}
use Rattle.syntax.specs.Written as written
use Rattle.words.specs.Words.{Word, words_at}
use Rattle.partrules.proofs.Marking.{turned, marks-are}
use Rattle.partrules.proofs.Opening.{open-means}
use Rattle.partrules.proofs.Seeing.{seen_more}
use Rattle.partrules.proofs.Writing.{rule-words}
use Rattle.partrules.specs.Marks.{mark_by, turn_cells}
use Rattle.partrules.specs.Opened.{marking, SeenAre, Context, aims_in, Holds, Able, open_by, OpensAs, RuleRead, RuleEnd, rule_made, rule_faulty, RuleDone, RulesEnd, rules_made, rules_faulty, RulesDone}
use Rattle.partrules.specs.Words.{rule_here, RulePut}
use Rattle.partrules.specs.declared.Rules.{Rules}

-- The marks of a sound rule

frame-length : (hs : List Head) (aims : List Aim) → length (frame hs aims) ≡ length aims
unfolding frame
frame-length hs [] = refl
frame-length hs (a ∷ aims) = ap suc (frame-length hs aims)

sound-marks : (x : Context) (first : ℕ) (o : OpenRule) → first ≡ length x.listed + length x.others → SoundRule x.listed (aims_in x) o
    → turn_cells (mark_by first) (acts_cells o.means.body []) ≡ body_cells (aims_in x) first o.means.body
unfolding body_cells aims_in
sound-marks x first o f s =
    turned (mark_by first) (mark_of (aims_in x) first) (frame x.listed (aims_in x))
    (λ i l. marks-are x.listed x.others x.uses (aims_in x) first i refl f (omega (arith, l, frame-length x.listed (aims_in x))))
    o.means.body o.means.valued false s.in_order s.few

-- One rule

pub rule-fails : {text rows seen cs cs' object : List ℕ} {n first moved at c : ℕ} {d : DoneTold} → RuleRead text rows n at seen cs cs' d → (d.fault ≡ 0 → ⊥) → RuleDone text rows n first moved at seen cs object c seen object d
rule-fails {text} {rows} {seen} {cs} {cs'} {object} {n} {first} {moved} {at} {c} {d} R nz = record { high = λ z. absurd (nz z); done = go }
  where
    pick : {ws : List Word} {x : Context} {r : written.Rule} {marks : Type 0} (m : Checked OpenRule) → Ends (x.sure ≡ true) text ws cs 0 cs' (λ o. acts_cells o.means.body []) (OpensAs r) d m
        → RuleEnd text ws moved first x object c object marks d m
    pick (good o) (ended e here app p) = absurd (nz e)
    pick (wrong k w) (failed e z a l) = rule_faulty e z a l

    go : (x : Context) → Holds text rows n first x → (before : List (List ℕ)) → SeenAre (held text rows n) before seen → (r : written.Rule) (ws : List Word) → RuleIn (words_at text at) ws r
        → Able (held text rows n) (length cs) x r
        → RuleEnd text ws moved first x object c object (SeenAre (held text rows n) (r.rule.text ∷ before) seen) d (open_rule x.program x.names x.known before r)
    go x H before S r ws i A =
        subst (λ m. RuleEnd text ws moved first x object c object (SeenAre (held text rows n) (r.rule.text ∷ before) seen) d m) (sym (open-means x (held text rows n) before seen r H.agrees S))
        (pick (open_by x (held text rows n) seen r) (R.done first x H r ws i))

pub rule-writes : {text rows seen seen' cs object object' : List ℕ} (cs' : List ℕ) {n first moved at c : ℕ} (d : DoneTold) {d₂ : DoneTold} {w : WordAt} {size : ℕ} → n ≤ length seen → RuleRead text rows n at seen cs cs' d → d.fault ≡ 0
    → size ≡ min d.count (length cs') → RulePut text at moved first (take size cs') object c object' d₂.count → Next text at w
    → seen' ≡ marking seen (index_of 7 (part text w.start w.len) 0 (held text rows n)) → d₂.fault ≡ 0 → d₂.at ≡ d.at → RuleDone text rows n first moved at seen cs object c seen' object' d₂
rule-writes {text} {rows} {seen} {seen'} {cs} {object} {object'} cs' {n} {first} {moved} {at} {c} d {d₂} {w} {size} few R z l P N e f g = record { high = λ y. omega (arith, g, R.high z); done = go }
  where
    marks : (before : List (List ℕ)) (r : written.Rule) (ws₁ : List Word) → SeenAre (held text rows n) before seen → Same text w r.rule ws₁ → given (index_of 7 r.rule.text 0 (held text rows n)) ≡ true
        → SeenAre (held text rows n) (r.rule.text ∷ before) seen'
    marks before r ws₁ S s b =
        let v = r.rule.text in
        let e₂ : seen' ≡ marking seen (index_of 7 v 0 (held text rows n)) = e ∙ ap (λ (u : Word). marking seen (index_of 7 u.text 0 (held text rows n))) (sym s.word) in
        row (index_of 7 v 0 (held text rows n)) refl e₂ b
      where
        row : (o : Option ℕ) → index_of 7 r.rule.text 0 (held text rows n) ≡ o → seen' ≡ marking seen o → given o ≡ true → SeenAre (held text rows n) (r.rule.text ∷ before) seen'
        row none q k t = absurd (let y : ◌≡◌ {A = ℕ} 0 1 = cc in omega (arith, y))
        row (some j) q k t =
            subst (λ m. SeenAre (held text rows n) (r.rule.text ∷ before) m) (sym k)
            (seen_more (held text rows n) before seen r.rule.text S j q (omega (arith, few, row-less text rows n 7 r.rule.text j q)))

    pick : {ws : List Word} {r : written.Rule} {more : Type 0} (x : Context) (m : Checked OpenRule) → first ≡ length x.listed + length x.others
        → (x.sure ≡ true → (o : OpenRule) → m ≡ good o → SoundRule x.listed (aims_in x) o) → (x.sure ≡ true → (o : OpenRule) → m ≡ good o → length (acts_cells o.means.body []) ≤ length cs)
        → Puts object c (rule_here moved first (take size cs') r) object' d₂.count → more
        → Ends (x.sure ≡ true) text ws cs 0 cs' (λ o. acts_cells o.means.body []) (OpensAs r) d m → RuleEnd text ws moved first x object c object' more d₂ m
    pick {ws} {r} x (good o) p s v q more (ended y here app so) = rule_made f (here ∙ ap (words_at text) (sym g)) (λ h.
        let fits : d.count ≤ length cs = omega (arith, v h o refl, (app h).count) in
        let a = appends-whole (app h) fits in
        let i : size ≡ d.count = omega (arith, l, fits, R.same) in
        let t : take size cs' ≡ acts_cells o.means.body [] = ap (λ j. take j cs') i ∙ ap (take d.count) a.1 ∙ take_at (acts_cells o.means.body []) (drop (length (acts_cells o.means.body [])) cs) d.count a.0 in
        let k = ap (λ cells. rule_here moved first cells r) t ∙ rule-words (aims_in x) first moved r o so.name so.gives so.calls (sound-marks x first o p (s h o refl)) in
        puts-same k q) more
    pick x (wrong k v) p s u q more (failed y nz a m) = absurd (nz (sym y ∙ z))

    go : (x : Context) → Holds text rows n first x → (before : List (List ℕ)) → SeenAre (held text rows n) before seen → (r : written.Rule) (ws : List Word) → RuleIn (words_at text at) ws r
        → Able (held text rows n) (length cs) x r
        → RuleEnd text ws moved first x object c object' (SeenAre (held text rows n) (r.rule.text ∷ before) seen') d₂ (open_rule x.program x.names x.known before r)
    go x H before S r ws (one_rule {colon = colon} {ws₁ = ws₁} {ws₂ = ws₂} {ws₃ = ws₃} {ws₄ = ws₄} y i u a b) A =
        let k = open-means x (held text rows n) before seen r H.agrees S in
        let j : RuleIn (words_at text at) ws r = one_rule y i u a b in
        subst (λ m. RuleEnd text ws moved first x object c object' (SeenAre (held text rows n) (r.rule.text ∷ before) seen') d₂ m) (sym k)
        (pick x (open_by x (held text rows n) seen r) H.pairs (λ h o q. A.sound h before o (k ∙ q)) (λ h o q. A.fits h before o (k ∙ q)) (P.done r ws j)
        (marks before r ws₁ S (took-here text at 257 w r.rule ws₁ (omega arith) N y) A.row) (R.done first x H r ws j))

-- The rules

alone : (aims : List Aim) (first moved : ℕ) (o : OpenRule) → rule_words aims first (move_open (back moved) o) ≡ rules_words aims first (move_opens (back moved) (o ∷ []))
unfolding rules_words move_opens
alone aims first moved o = sym (append-nil (rule_words aims first (move_open (back moved) o)))

more-words : (aims : List Aim) (first moved : ℕ) (o : OpenRule) (os : List OpenRule)
    → rule_words aims first (move_open (back moved) o) ++ rules_words aims first (move_opens (back moved) os) ≡ rules_words aims first (move_opens (back moved) (o ∷ os))
unfolding rules_words move_opens
more-words aims first moved o os = refl

pub rules-fail : {text rows seen seen' cs object object' : List ℕ} {n first moved k at c : ℕ} {d : DoneTold} {a : Rules} → RuleDone text rows n first moved at seen cs object c seen' object' d → (d.fault ≡ 0 → ⊥)
    → a.fault ≡ d.fault → a.at ≡ d.at → a.len ≡ d.len → RulesDone text rows n first moved k at (length cs) seen object c object' a
unfolding open_all Each
rules-fail {text} {rows} {seen} {seen'} {cs} {object} {object'} {n} {first} {moved} {k} {at} {c} {d} {a} R nz e₁ e₂ e₃ = record { done = go }
  where
    pick : {ws : List Word} {x : Context} {marks : Type 0} (m : Checked OpenRule) (rest : OpenRule → Checked (List OpenRule)) → RuleEnd text ws moved first x object c object' marks d m
        → RulesEnd k moved first x object c object' a (◌>>=◌ m rest)
    pick (good o) rest (rule_made e _ _ _) = absurd (nz e)
    pick (wrong j w) rest (rule_faulty e z y l) = rules_faulty (e₁ ∙ e) z (e₂ ∙ y) (e₃ ∙ l)

    go : (x : Context) → Holds text rows n first x → (before : List (List ℕ)) → SeenAre (held text rows n) before seen → (rs : List written.Rule) (ws : List Word) → RulesIn (words_at text at) ws rs
        → k + length rs ≤ 128 → Each (Able (held text rows n) (length cs) x) rs → RulesEnd k moved first x object c object' a (open_all x.program x.names x.known before rs)
    go x H before S (r ∷ []) ws (last_rule i _) q A = pick (open_rule x.program x.names x.known before r) _ (R.done x H before S r ws i A.0)
    go x H before S (r ∷ rs) ws (more_rules {ws₁ = ws₁} i _ _) q A = pick (open_rule x.program x.names x.known before r) _ (R.done x H before S r ws₁ i A.0)
    go x H before S [] ws x4 q A = elim x4 [ ]

pub rules-last : {text rows seen seen' cs object object' : List ℕ} {n first moved k at c : ℕ} {d : DoneTold} {w : WordAt} {a : Rules} → RuleDone text rows n first moved at seen cs object c seen' object' d → d.fault ≡ 0
    → Next text d.at w → (w.kind ≡ 257 → ⊥) → a.fault ≡ 0 → a.rules ≡ k + 1 → a.count ≡ d.count → RulesDone text rows n first moved k at (length cs) seen object c object' a
unfolding open_all Each
rules-last {text} {rows} {seen} {seen'} {cs} {object} {object'} {n} {first} {moved} {k} {at} {c} {d} {w} {a} R z N nk e₁ e₂ e₃ = record { done = go }
  where
    pick : {ws : List Word} {x : Context} {marks : Type 0} (m : Checked OpenRule) → RuleEnd text ws moved first x object c object' marks d m
        → RulesEnd k moved first x object c object' a (◌>>=◌ m (λ o. good (o ∷ [])))
    pick {x = x} (good o) (rule_made e here p _) = rules_made {os = o ∷ []} e₁ e₂ (λ h. subst (λ m. Puts object c (rules_words (aims_in x) first (move_opens (back moved) (o ∷ []))) object' m) (sym e₃) (puts-same (alone (aims_in x) first moved o) (p h)))
    pick (wrong j v) (rule_faulty e y _ _) = absurd (y (sym e ∙ z))

    no : {ws₁ : List Word} {x : Context} {marks : Type 0} {B : Type 0} (m : Checked OpenRule) → RuleEnd text ws₁ moved first x object c object' marks d m → (peek ws₁).kind ≡ 257 → B
    no (good o) (rule_made e here p _) t = absurd (nk (sym (kind-here text d.at w N) ∙ ap (λ l. (peek l).kind) (sym here) ∙ t))
    no (wrong j v) (rule_faulty e y _ _) t = absurd (y (sym e ∙ z))

    go : (x : Context) → Holds text rows n first x → (before : List (List ℕ)) → SeenAre (held text rows n) before seen → (rs : List written.Rule) (ws : List Word) → RulesIn (words_at text at) ws rs
        → k + length rs ≤ 128 → Each (Able (held text rows n) (length cs) x) rs → RulesEnd k moved first x object c object' a (open_all x.program x.names x.known before rs)
    go x H before S (r ∷ []) ws (last_rule i _) q A = pick (open_rule x.program x.names x.known before r) (R.done x H before S r ws i A.0)
    go x H before S (r ∷ rs) ws (more_rules {ws₁ = ws₁} i t _) q A = no (open_rule x.program x.names x.known before r) (R.done x H before S r ws₁ i A.0) t
    go x H before S [] ws x4 q A = elim x4 [ ]

pub rules-over : {text rows seen seen' cs object object' : List ℕ} {n first moved k at c : ℕ} {d : DoneTold} {w : WordAt} {a : Rules} → RuleDone text rows n first moved at seen cs object c seen' object' d → d.fault ≡ 0
    → Next text d.at w → w.kind ≡ 257 → k + 1 ≡ 128 → RulesDone text rows n first moved k at (length cs) seen object c object' a
unfolding open_all Each
rules-over {text} {rows} {seen} {seen'} {cs} {object} {object'} {n} {first} {moved} {k} {at} {c} {d} {w} {a} R z N e full = record { done = go }
  where
    no : {ws : List Word} {x : Context} {marks : Type 0} {B : Type 0} (m : Checked OpenRule) → RuleEnd text ws moved first x object c object' marks d m → Not 257 ws → B
    no (good o) (rule_made _ here p _) t = absurd (t (ap (λ l. (peek l).kind) here ∙ kind-here text d.at w N ∙ e))
    no (wrong j v) (rule_faulty f y _ _) t = absurd (y (sym f ∙ z))

    longer : {ws ws' : List Word} (rs : List written.Rule) → RulesIn ws ws' rs → 0 < length rs
    longer rs (last_rule _ _) = omega arith
    longer rs (more_rules _ _ _) = omega arith

    go : (x : Context) → Holds text rows n first x → (before : List (List ℕ)) → SeenAre (held text rows n) before seen → (rs : List written.Rule) (ws : List Word) → RulesIn (words_at text at) ws rs
        → k + length rs ≤ 128 → Each (Able (held text rows n) (length cs) x) rs → RulesEnd k moved first x object c object' a (open_all x.program x.names x.known before rs)
    go x H before S (r ∷ []) ws (last_rule i t) q A = no (open_rule x.program x.names x.known before r) (R.done x H before S r ws i A.0) t
    go x H before S (r ∷ rs) ws (more_rules i _ more) q A = absurd (omega (arith, q, full, longer rs more))
    go x H before S [] ws x4 q A = elim x4 [ ]

pub rules-next : {text rows seen seen' cs object object' object'' : List ℕ} {n first moved k at c : ℕ} {d : DoneTold} {w : WordAt} {a : Rules} → RuleDone text rows n first moved at seen cs object c seen' object' d → d.fault ≡ 0
    → Next text d.at w → w.kind ≡ 257 → RulesDone text rows n first moved (k + 1) d.at (length cs) seen' object' d.count object'' a → RulesDone text rows n first moved k at (length cs) seen object c object'' a
unfolding open_all Each
rules-next {text} {rows} {seen} {seen'} {cs} {object} {object'} {object''} {n} {first} {moved} {k} {at} {c} {d} {w} {a} R z N e T = record { done = go }
  where
    no : {ws : List Word} {x : Context} {marks : Type 0} {B : Type 0} (m : Checked OpenRule) → RuleEnd text ws moved first x object c object' marks d m → Not 257 ws → B
    no (good o) (rule_made _ here p _) t = absurd (t (ap (λ l. (peek l).kind) here ∙ kind-here text d.at w N ∙ e))
    no (wrong j v) (rule_faulty f y _ _) t = absurd (y (sym f ∙ z))

    join : {x : Context} (o : OpenRule) (m : Checked (List OpenRule)) → (x.sure ≡ true → Puts object c (rule_words (aims_in x) first (move_open (back moved) o)) object' d.count)
        → RulesEnd (k + 1) moved first x object' d.count object'' a m → RulesEnd k moved first x object c object'' a (◌>>=◌ m (λ os. good (o ∷ os)))
    join {x} o (good os) p (rules_made f g q) = rules_made {os = o ∷ os} f (omega (arith, g)) (λ h. puts-same (more-words (aims_in x) first moved o os) (puts_then (p h) (q h)))
    join o (wrong j v) p (rules_faulty f y g h) = rules_faulty f y g h

    pick : {x : Context} {ws₁ : List Word} {marks : Type 0} (m : Checked OpenRule) (rest : Checked (List OpenRule)) → RuleEnd text ws₁ moved first x object c object' marks d m
        → (marks → ws₁ ≡ words_at text d.at → RulesEnd (k + 1) moved first x object' d.count object'' a rest) → RulesEnd k moved first x object c object'' a (◌>>=◌ m (λ o. ◌>>=◌ rest (λ os. good (o ∷ os))))
    pick (good o) rest (rule_made _ here p s) next = join o rest p (next s here)
    pick (wrong j v) rest (rule_faulty f y _ _) next = absurd (y (sym f ∙ z))

    go : (x : Context) → Holds text rows n first x → (before : List (List ℕ)) → SeenAre (held text rows n) before seen → (rs : List written.Rule) (ws : List Word) → RulesIn (words_at text at) ws rs
        → k + length rs ≤ 128 → Each (Able (held text rows n) (length cs) x) rs → RulesEnd k moved first x object c object'' a (open_all x.program x.names x.known before rs)
    go x H before S (r ∷ []) ws (last_rule i t) q A = no (open_rule x.program x.names x.known before r) (R.done x H before S r ws i A.0) t
    go x H before S (r ∷ rs) ws (more_rules {ws₁ = ws₁} i _ more) q A =
        pick (open_rule x.program x.names x.known before r) (open_all x.program x.names x.known (r.rule.text ∷ before) rs) (R.done x H before S r ws₁ i A.0)
        (λ s here. T.done x H (r.rule.text ∷ before) s rs ws (subst (λ l. RulesIn l ws rs) here more) (omega (arith, q)) A.1)
    go x H before S [] ws x4 q A = elim x4 [ ]
