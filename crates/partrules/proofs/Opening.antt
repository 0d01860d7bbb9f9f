-- One rule of a part: how the code goes on, and what it means.
use mathlib.Core.Bool.{Bool, true, false, ◌&&◌, ◌||◌}
use mathlib.Core.List.{List, []}
use mathlib.Core.Option.{Option}
use mathlib.Core.Path.{◌≡◌, refl, sym, ap, ◌∙◌, subst}
use native.Mathlib.Omega.{arith}
use Prim.Native.Nat.{ℕ, ◌≤◌}
use lib.Dec.{ltb}
use lib.ListN.{length}
use Rattle.base.specs.Common.{given}
use Rattle.builder.proofs.Heading.{word-length}
use Rattle.builder.proofs.Laws.{ends-fails}
use Rattle.builder.proofs.Ruling.{head-fails, head-then, ends-bind, valued-is, type-means}
use Rattle.builder.specs.Heads.{HeadTold, TypeDone}
use Rattle.builder.specs.Parts.{place_of, ActsDone}
use Rattle.cells.specs.Cells.{acts_cells}
use Rattle.declarations.proofs.Rows.{given-mapped}
use Rattle.declarations.specs.Decls.{Agrees, Decl, index_of, optional_in}
use Rattle.grammar.specs.Derived.{Took, GivesIn, ActsIn, RuleIn, one_rule}
use Rattle.names.specs.Known.{Checked, good, wrong, ◌>>=◌, fault_if, Known, find_operation}
use Rattle.names.specs.Resolve.{acts_of}
use Rattle.names.specs.Understand.{taken}
use Rattle.parts.specs.Objects.{OpenRule, calls_all, open_names, open_rule}
use Rattle.places.proofs.Heres.{Same, took-here}
use Rattle.program.specs.Past.{past_all}
use Rattle.program.specs.Program as means
use Rattle.resolver.specs.Resolved.{DoneTold, BuiltTold, Appends, Ends, ended, failed}
use Rattle.scanner.specs.Next.{Next}
use Rattle.scanner.specs.declared.WordAt.{WordAt}
use Rattle.symbols.specs.Rows.{held, gives_of}
use Rattle.symbols.specs.Search.{part}
use Rattle.syntax.specs.Written as written
use Rattle.words.specs.Words.{Word, words_at}
use Rattle.partrules.specs.Opened.{marked, SeenAre, taken_by, Context, Holds, open_by, OpensAs, RuleRead}

-- By the declarations

tested : {B : Type 0} (t : Bool) (w : Word) (m : Checked ℕ) (q : ℕ → Option (List Known)) (k : Option (List Known) → Checked B)
    → ◌>>=◌ (fault_if t 4 w) (λ _. ◌>>=◌ (◌>>=◌ m (λ class. good (q class))) k) ≡ ◌>>=◌ (fault_if t 4 w) (λ _. ◌>>=◌ m (λ class. k (q class)))
tested true w m q k = refl
tested false w (good a) q k = refl
tested false w (wrong n u) q k = refl

pub open-means : (x : Context) (ds : List Decl) (before : List (List ℕ)) (seen : List ℕ) (r : written.Rule) → Agrees x.program x.names x.known ds → SeenAre ds before seen
    → open_rule x.program x.names x.known before r ≡ open_by x ds seen r
unfolding open_rule open_by taken taken_by
open-means x ds before seen r A S =
    let op : given (find_operation r.rule.text x.names.operations) ≡ given (index_of 6 r.rule.text 0 ds) =
    ap given (A.operations r.rule.text) ∙ given-mapped _ (index_of 6 r.rule.text 0 ds) in
    rw (op, S.names r.rule.text, type-means x.program x.names x.known ds A r.gives)
    (tested (given (index_of 6 r.rule.text 0 ds) || marked seen (index_of 7 r.rule.text 0 ds)) r.rule (optional_in ds ds r.gives) (λ class. gives_of ds class)
    (λ g. ◌>>=◌ (acts_of x.program (open_names x.names) x.known r.body (record { inside = false; gives = g })) (λ b. ◌>>=◌ (fault_if (given g && past_all b) 8 r.closing) (λ _.
    good (record { name = r.rule; gives = r.gives; calls = calls_all r.body; means = record { valued = given g; body = b } })))))

-- A test that finds a fault, or none

module _ {B E : Type 0} {text : List ℕ} {ws : List Word} {cs : List ℕ} {c : ℕ} {cs' : List ℕ} {f : B → List ℕ} {P : B → Type 0} {d : DoneTold} where
  found : (t : Bool) (n : ℕ) (w : Word) (k : Unit {0} → Checked B) → t ≡ true → d.fault ≡ n → (n ≡ 0 → ⊥) → d.at ≡ w.start → d.len ≡ length w.text
      → Ends E text ws cs c cs' f P d (◌>>=◌ (fault_if t n w) k)
  found t n w k e e₁ nz e₂ e₃ = subst (λ b. Ends E text ws cs c cs' f P d (◌>>=◌ (fault_if b n w) k)) (sym e) (failed e₁ nz e₂ e₃)

  passed : (t : Bool) (n : ℕ) (w : Word) (k : Unit {0} → Checked B) → t ≡ false → Ends E text ws cs c cs' f P d (k tt) → Ends E text ws cs c cs' f P d (◌>>=◌ (fault_if t n w) k)
  passed t n w k e q = subst (λ b. Ends E text ws cs c cs' f P d (◌>>=◌ (fault_if b n w) k)) (sym e) q

-- the name is the word that the scanner found
named-so : {text : List ℕ} {w : WordAt} {v : Word} {ws : List Word} (ds : List Decl) (seen : List ℕ) (t : Bool) → Same text w v ws → t ≡ taken_by ds seen (part text w.start w.len) → taken_by ds seen v.text ≡ t
named-so {text} {w} {v} ds seen t s e = ap (λ (u : Word). taken_by ds seen u.text) s.word ∙ sym e

-- Each way in which a rule is read

pub open-taken : {text rows seen cs : List ℕ} {n at : ℕ} {t : Bool} {d : DoneTold} {w : WordAt} → at ≤ length text → Next text at w
    → t ≡ taken_by (held text rows n) seen (part text w.start w.len) → t ≡ true → d.fault ≡ 4 → d.at ≡ w.start → d.len ≡ w.len → RuleRead text rows n at seen cs cs d
unfolding open_by
open-taken {text} {rows} {seen} {cs} {n} {at} {t} {d} {w} inn N e q e₁ e₂ e₃ = record { same = refl; high = λ z. absurd (omega (arith, z, e₁)); done = go }
  where
    go : (first : ℕ) (x : Context) → Holds text rows n first x → (r : written.Rule) (ws : List Word) → RuleIn (words_at text at) ws r
        → Ends (x.sure ≡ true) text ws cs 0 cs (λ o. acts_cells o.means.body []) (OpensAs r) d (open_by x (held text rows n) seen r)
    go first x H r ws (one_rule {ws₁ = ws₁} y g u a z) =
        let s : Same text w r.rule ws₁ = took-here text at 257 w r.rule ws₁ (omega arith) N y in
        found (taken_by (held text rows n) seen r.rule.text) 4 r.rule _ (named-so (held text rows n) seen t s e ∙ q) e₁ (λ z. omega (arith, z))
        (e₂ ∙ ap (λ (v : Word). v.start) (sym s.word)) (e₃ ∙ sym (word-length N inn) ∙ ap (λ (v : Word). length v.text) (sym s.word))

pub open-typed : {text rows seen cs : List ℕ} {n at : ℕ} {t : Bool} {d : DoneTold} {w : WordAt} {h : HeadTold} → Next text at w
    → t ≡ taken_by (held text rows n) seen (part text w.start w.len) → t ≡ false → TypeDone text rows n w.next h → (h.fault ≡ 0 → ⊥)
    → d.fault ≡ h.fault → d.at ≡ h.at → d.len ≡ h.len → RuleRead text rows n at seen cs cs d
unfolding open_by
open-typed {text} {rows} {seen} {cs} {n} {at} {t} {d} {w} {h} N e q T nz e₁ e₂ e₃ = record { same = refl; high = λ z. absurd (nz (sym e₁ ∙ z)); done = go }
  where
    go : (first : ℕ) (x : Context) → Holds text rows n first x → (r : written.Rule) (ws : List Word) → RuleIn (words_at text at) ws r
        → Ends (x.sure ≡ true) text ws cs 0 cs (λ o. acts_cells o.means.body []) (OpensAs r) d (open_by x (held text rows n) seen r)
    go first x H r ws (one_rule {colon = colon} {ws₁ = ws₁} {ws₂ = ws₂} {ws₃ = ws₃} y g u a z) =
        let s : Same text w r.rule ws₁ = took-here text at 257 w r.rule ws₁ (omega arith) N y in
        passed (taken_by (held text rows n) seen r.rule.text) 4 r.rule _ (named-so (held text rows n) seen t s e ∙ q)
        (head-fails (optional_in (held text rows n) (held text rows n) r.gives) _ (T.done r.gives colon ws₂ ws₃ (subst (λ l. GivesIn l ws₂ r.gives) s.behind g) u) nz e₁ e₂ e₃)

pub open-fail : {text rows seen cs cs' : List ℕ} {n at : ℕ} {t : Bool} {w : WordAt} {h : HeadTold} {b : BuiltTold} → Next text at w
    → t ≡ taken_by (held text rows n) seen (part text w.start w.len) → t ≡ false → TypeDone text rows n w.next h → h.fault ≡ 0
    → ActsDone text rows n h.at false h.class true false cs 0 cs' b → (b.done.fault ≡ 0 → ⊥) → RuleRead text rows n at seen cs cs' b.done
unfolding open_by
open-fail {text} {rows} {seen} {cs} {cs'} {n} {at} {t} {w} {h} {b} N e q T z₁ B nz = record { same = B.kept.same; high = λ z. absurd (nz z); done = go }
  where
    go : (first : ℕ) (x : Context) → Holds text rows n first x → (r : written.Rule) (ws : List Word) → RuleIn (words_at text at) ws r
        → Ends (x.sure ≡ true) text ws cs 0 cs' (λ o. acts_cells o.means.body []) (OpensAs r) b.done (open_by x (held text rows n) seen r)
    go first x H r ws (one_rule {colon = colon} {ws₁ = ws₁} {ws₂ = ws₂} {ws₃ = ws₃} {ws₄ = ws₄} y g u a z) =
        let s : Same text w r.rule ws₁ = took-here text at 257 w r.rule ws₁ (omega arith) N y in
        passed (taken_by (held text rows n) seen r.rule.text) 4 r.rule _ (named-so (held text rows n) seen t s e ∙ q)
        (head-then (optional_in (held text rows n) (held text rows n) r.gives) _ (T.done r.gives colon ws₂ ws₃ (subst (λ l. GivesIn l ws₂ r.gives) s.behind g) u) z₁
        (λ here. ends-fails (acts_of x.program (open_names x.names) x.known r.body (place_of (held text rows n) false h.class)) _
        (H.acts.tells h.at h.class cs 0 cs' b B r.body ws₄ (subst (λ l. ActsIn l ws₄ r.body) here a)) nz))

-- the semicolon reached or not
closing : {E : Type 0} {text : List ℕ} {ws : List Word} {cs cs' : List ℕ} {d : DoneTold} (r : written.Rule) (valued : Bool) (b : means.Acts) (t : Bool) → t ≡ (valued && past_all b)
    → (t ≡ true → (d.fault ≡ 8) × (d.at ≡ r.closing.start) × (d.len ≡ length r.closing.text))
    → (t ≡ false → (d.fault ≡ 0) × (ws ≡ words_at text d.at) × (E → Appends cs 0 (acts_cells b []) cs' d.count))
    → Ends E text ws cs 0 cs' (λ (o : OpenRule). acts_cells o.means.body []) (OpensAs r) d
    (◌>>=◌ (fault_if (valued && past_all b) 8 r.closing) (λ _. good (record { name = r.rule; gives = r.gives; calls = calls_all r.body; means = record { valued = valued; body = b } })))
closing {E} {text} {ws} {cs} {cs'} {d} r valued b t e yes' no' = go (valued && past_all b) e
  where
    go : (x : Bool) → t ≡ x → Ends E text ws cs 0 cs' (λ (o : OpenRule). acts_cells o.means.body []) (OpensAs r) d
        (◌>>=◌ (fault_if x 8 r.closing) (λ _. good (record { name = r.rule; gives = r.gives; calls = calls_all r.body; means = record { valued = valued; body = b } })))
    go true q = let k = yes' q in failed k.0 (λ z. omega (arith, z)) k.1 k.2
    go false q = let k = no' q in ended k.0 k.1 k.2 (record { name = refl; gives = refl; calls = refl })

pub open-closed : {text rows seen cs cs' : List ℕ} {n at : ℕ} {t u : Bool} {d : DoneTold} {w v : WordAt} {h : HeadTold} {b : BuiltTold} → Next text at w
    → t ≡ taken_by (held text rows n) seen (part text w.start w.len) → t ≡ false → TypeDone text rows n w.next h → h.fault ≡ 0
    → ActsDone text rows n h.at false h.class true false cs 0 cs' b → b.done.fault ≡ 0 → Next text b.done.at v → u ≡ (ltb 0 h.class && b.past)
    → (u ≡ true → (d.fault ≡ 8) × (d.at ≡ v.start) × (d.len ≡ v.len)) → (u ≡ false → (d.fault ≡ 0) × (d.at ≡ v.next) × (d.count ≡ b.done.count))
    → (d.fault ≡ 0 → d.at ≤ length text) → RuleRead text rows n at seen cs cs' d
unfolding open_by
open-closed {text} {rows} {seen} {cs} {cs'} {n} {at} {t} {u} {d} {w} {v} {h} {b} N e q T z₁ B z₂ M k reached ends high = record { same = B.kept.same; high = high; done = go }
  where
    at_end : {E : Type 0} (r : written.Rule) (ws : List Word) (body : means.Acts) → Same text v r.closing ws → (E → Appends cs 0 (acts_cells body []) cs' b.done.count) → b.past ≡ past_all body
        → Ends E text ws cs 0 cs' (λ (o : OpenRule). acts_cells o.means.body []) (OpensAs r) d
        (◌>>=◌ (fault_if (given (gives_of (held text rows n) h.class) && past_all body) 8 r.closing) (λ _.
        good (record { name = r.rule; gives = r.gives; calls = calls_all r.body; means = record { valued = given (gives_of (held text rows n) h.class); body = body } })))
    at_end r ws body last app flag =
        closing r (given (gives_of (held text rows n) h.class)) body u
        (k ∙ ap (λ y. y && b.past) (sym (valued-is (held text rows n) h.class)) ∙ ap (λ y. given (gives_of (held text rows n) h.class) && y) flag)
        (λ y. (
          (reached y).0,
          (reached y).1 ∙ ap (λ (m : Word). m.start) (sym last.word),
          (reached y).2 ∙ sym (word-length M (B.kept.high z₂)) ∙ ap (λ (m : Word). length m.text) (sym last.word),
        ))
        (λ y. (
          (ends y).0,
          last.behind ∙ ap (words_at text) (sym (ends y).1),
          λ h. subst (λ m. Appends cs 0 (acts_cells body []) cs' m) (sym (ends y).2) (app h),
        ))

    go : (first : ℕ) (x : Context) → Holds text rows n first x → (r : written.Rule) (ws : List Word) → RuleIn (words_at text at) ws r
        → Ends (x.sure ≡ true) text ws cs 0 cs' (λ o. acts_cells o.means.body []) (OpensAs r) d (open_by x (held text rows n) seen r)
    go first x H r ws (one_rule {colon = colon} {ws₁ = ws₁} {ws₂ = ws₂} {ws₃ = ws₃} {ws₄ = ws₄} y g c a z) =
        let s : Same text w r.rule ws₁ = took-here text at 257 w r.rule ws₁ (omega arith) N y in
        passed (taken_by (held text rows n) seen r.rule.text) 4 r.rule _ (named-so (held text rows n) seen t s e ∙ q)
        (head-then (optional_in (held text rows n) (held text rows n) r.gives) _ (T.done r.gives colon ws₂ ws₃ (subst (λ l. GivesIn l ws₂ r.gives) s.behind g) c) z₁
        (λ here. ends-bind (acts_of x.program (open_names x.names) x.known r.body (place_of (held text rows n) false h.class)) _
        (H.acts.tells h.at h.class cs 0 cs' b B r.body ws₄ (subst (λ l. ActsIn l ws₄ r.body) here a)) z₂
        (λ body here₂ app flag.
        at_end r ws body (took-here text b.done.at 59 v r.closing ws (omega arith) M (subst (λ l. Took 59 l r.closing ws) here₂ z)) app flag)))
