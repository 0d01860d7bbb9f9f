-- The rules of the objects and those made for operators: what is left in the buffers gives the answer.
use mathlib.Core.Bool.{Bool, true, false, ◌&&◌}
use mathlib.Core.List.{List, [], ◌∷◌}
use mathlib.Core.Option.{Option, none, some}
use mathlib.Core.Path.{◌≡◌, refl, sym, ap, ◌∙◌}
use native.Mathlib.Omega.{arith}
use Prim.Native.Nat.{ℕ, suc, ◌<◌, ◌≤◌, min}
use lib.Dec.{leb}
use lib.ListN.{length, get_or, replicate, length-replicate}
use Rattle.std.specs.Prelude.{if◌then◌else◌}
use Rattle.figure.specs.Told.{untold, told_if}
use Rattle.finishing.specs.Test.{finishing}
use Rattle.frontend.specs.Resolving.{Ready}
use Rattle.levels.specs.declared.Made.{Made}
use Rattle.linkage.proofs.Ready.{all-called, Passed as Enough, ready}
use Rattle.linkage.specs.Concluded.{IsReady, Concludes}
use Rattle.linkage.specs.Groups.{ClosesAll}
use Rattle.linkage.specs.Placed.{Placed}
use Rattle.linkchecks.proofs.Rows.{viewed, row-length}
use Rattle.linkchecks.specs.Checks.{name_at}
use Rattle.linkchecks.specs.Row.{row_from}
use Rattle.linkchecks.specs.Walk.{Viewed}
use Rattle.linker.specs.Place.{text_at, texts_at, rule_texts}
use Rattle.linking.specs.Answered.{linked_as, Leaves}
use Rattle.linking.specs.Linking.{Rowed, Passed, behind_checks, Closed, IsClosed}
use Rattle.linking.specs.declared.Linked as code
use Rattle.linking.specs.declared.Shared.{Shared}
use Rattle.linkpairs.proofs.Making.{text_of}
use Rattle.linkpairs.proofs.Whole.{pairs_made}
use Rattle.linkpairs.specs.Places.{SitesFound, RulesMade}
use Rattle.linkpairs.specs.Standing.{Held, Tells, Collected}
use Rattle.linkpairs.specs.declared.Pairs.{Pairs}
use Rattle.linkpairs.specs.declared.Work.{Work}
use Rattle.machine.specs.Bytes.{count, words_of}
use Rattle.names.specs.Known.{good, Names}
use Rattle.names.specs.Uses.{Use, made_for}
use Rattle.objects.specs.Places.{NameAt}
use Rattle.objects.specs.View.{name_of, View, views_of}
use Rattle.parts.proofs.Checks.{limits-on}
use Rattle.parts.specs.Form.{AreObjects, last_length}
use Rattle.parts.specs.Link.{Linked, refused, Found, rules_of, pairs_in, past_made, known_of, program, refused_at, in_text, as_one, as_answer, lent_bytes}
use Rattle.parts.specs.Objects.{OpenRule, Object, together}
use Rattle.processor.specs.Process as one
use Rattle.processor.specs.Process.{Answer, accepted, meaning, part_of, answer_for}
use Rattle.program.specs.Program.{Rule}
use Rattle.program.specs.Table.{size_rules, table}
use Rattle.symbols.specs.Index.{Kept}
use Rattle.syntax.specs.Parse.{end_of}
use Rattle.syntax.specs.Sections.{names_in_all}
use Rattle.syntax.specs.Texts.{Common}
use Rattle.translator.specs.Answered.{answered, Settles}
use Rattle.translator.specs.declared.Answer as processed

-- The names of the rules

texts-named : (words names : List ℕ) (rs : List OpenRule) → length names ≡ length rs → ((k : ℕ) → k < length rs → NameAt words (get_or names k 0) (name_at rs k)) → texts_at words names ≡ rule_texts rs
unfolding texts_at rule_texts name_at name_of
texts-named words [] [] e h = refl
texts-named words [] (r ∷ rs) e h = absurd (omega (arith, e))
texts-named words (p ∷ ps) [] e h = absurd (omega (arith, e))
texts-named words (p ∷ ps) (r ∷ rs) e h =
    let a : text_at words p ≡ r.name.text = text_of words p (name_of r.name) (h 0 (omega arith)) in
    let b = texts-named words ps rs (omega (arith, e)) (λ k l. h (suc k) (omega (arith, l))) in
    ap (λ (t : List ℕ). t ∷ texts_at words ps) a ∙ ap (λ (ts : List (List ℕ)). r.name.text ∷ ts) b

-- what `name_places` tells
abbrev pub NamesPlaced : List ℕ → List ℕ → List ℕ → ℕ → Type 0
NamesPlaced common objects names r = (c : Common) (n : Names) (h : AreObjects common c n (words_of objects)) → (r ≡ length (rules_of h.objects))
    × ((k : ℕ) → k < r → k < length names → NameAt (words_of objects) (get_or names k 0) (name_at (rules_of h.objects) k))

texts-are : {common : List ℕ} (objects names : List ℕ) {r : ℕ} → NamesPlaced common objects names r → {c : Common} {n : Names} (h : AreObjects common c n (words_of objects)) → length names ≡ length (rules_of h.objects)
    → texts_at (words_of objects) names ≡ rule_texts (rules_of h.objects)
texts-are objects names f {c} {n} h e =
    let x = f c n h in
    texts-named (words_of objects) names (rules_of h.objects) e (λ k l. x.1 k (omega (arith, l, x.0)) (omega (arith, l, e)))

-- at most 128 rules
pub few_rules : {common : List ℕ} {c : Common} {os : List Object} → Passed common c os → length (rules_of os) ≤ min 128 c.left
few_rules {c = c} {os} p = limits-on (min 128 c.left) 1 os p.few

-- The answer

pub as_one_lem : (i : ℕ) (text : List ℕ) (room : ℕ) (prog : List Rule) {old new : List ℕ} {a : processed.Answer} {r : code.Linked} → Settles (answer_for text room (meaning prog)) (told_if (answer_for text room (meaning prog)) prog) old new a
    → {shown : ℕ} → (a.number ≡ 0 → shown ≡ 0) → ((a.number ≡ 0 → ⊥) → shown ≡ i)
    → r ≡ record { number = a.number; text = shown; start = a.start; len = a.len; words = a.words; finishing = a.finishing; figure = a.figure; check = a.check }
    → Leaves (as_one i text room prog) old new r
unfolding as_one in_text answer_for linked_as answered lent_bytes as_answer told_if untold
as_one_lem i text room prog {old} {new} {a} {r} s {shown} z f e = go (leb (size_rules prog) room && leb (size_rules prog) 4096) s
  where
    go : (t : Bool) → Settles (if t then accepted (table prog) (finishing prog) else one.refused 20 (part_of (end_of text))) (told_if (if t then accepted (table prog) (finishing prog) else one.refused 20 (part_of (end_of text))) prog) old new a
        → Leaves (in_text i (if t then accepted (table prog) (finishing prog) else one.refused 20 (part_of (end_of text))) (told_if (if t then accepted (table prog) (finishing prog) else one.refused 20 (part_of (end_of text))) prog)) old new r
    go true s₁ = let d = z (ap (λ (b : processed.Answer). b.number) s₁.answer) in record { answer = e ∙ rw (s₁.answer, d) refl; lent = s₁.lent }
    go false s₁ =
        let k : a.number ≡ 20 = ap (λ (b : processed.Answer). b.number) s₁.answer in
        let d = f (λ y. omega (arith, y, k)) in
        record { answer = e ∙ rw (s₁.answer, d) refl; lent = s₁.lent }

-- what `place_rules` tells
abbrev pub RulesPlaced : List ℕ → List ℕ → List ℕ → List ℕ → ℕ → Type 0
RulesPlaced common objects starts sorts k = (vs : List View) → Viewed common (words_of objects) vs → (k ≡ length (row_from 1 vs)) × Placed (row_from 1 vs) k starts sorts

-- The buffers

module _ {common rows objects places cells : List ℕ} {work : Work} {c : Common} {n : Names} {h : AreObjects common c n (words_of objects)} (x : Closed common rows objects places cells work c n h) where
  enough : (ms : List Rule) → made_for n (known_of 0 (rules_of h.objects)) (names_in_all c.sections) (length (rules_of h.objects)) (pairs_in h.objects) ≡ good ms → Enough h x.rowed.is.rest ms
  enough ms e =
      let l = few_rules x.passes in
      record {
        read = x.rowed.is.reads;
        means = x.rowed.is.means;
        some = x.passes.number;
        five = x.passes.untyped;
        forty-nine = x.passes.alike;
        few = omega (arith, l);
        few_names = omega (arith, l, x.rowed.all_names);
        made = e;
      }

  pub kept : Kept common rows work.n
  kept = rw x.rows_are x.rowed.kept

  pub few-made : work.rules ≤ 128
  few-made = let l = few_rules x.passes in omega (arith, l, x.rules_are)

  pub all-ready : {starts sorts cells' starts' sorts' : List ℕ} {k : ℕ} {m : Made} → RulesPlaced common objects starts sorts k → length starts ≡ 128 → length sorts ≡ 128
      → RulesMade common rows work.n places 0 work.count work.rules cells work.cells starts sorts cells' starts' sorts' m
      → Ready cells' starts' sorts' m.rules m.count (program n (names_in_all c.sections) h.objects)
  all-ready p s₁ s₂ r =
      let y = x.makes r in
      let v = p (views_of h.lengths h.objects) (viewed h) in
      let l = row-length 1 h.lengths h.objects h.as_many in
      ready h (enough y.0 y.1.0) x.closes x.room v.1 (omega (arith, v.0, l)) s₁ s₂ y.1.1

  -- the answer for what is ready
  pub concluded : {starts sorts cells' starts' sorts' : List ℕ} {k : ℕ} {m : Made} → RulesPlaced common objects starts sorts k → length starts ≡ 128 → length sorts ≡ 128
      → RulesMade common rows work.n places 0 work.count work.rules cells work.cells starts sorts cells' starts' sorts' m
      → {size : ℕ} → size ≡ last_length h.lengths → {old new : List ℕ} {a : processed.Answer} → Concludes size cells' starts' sorts' m.rules m.count old new a
      → {shown : ℕ} {r : code.Linked} → (a.number ≡ 0 → shown ≡ 0) → ((a.number ≡ 0 → ⊥) → shown ≡ length h.objects)
      → r ≡ record { number = a.number; text = shown; start = a.start; len = a.len; words = a.words; finishing = a.finishing; figure = a.figure; check = a.check }
      → Leaves (as_one (length h.objects) (replicate (last_length h.lengths) 0) (count old) (program n (names_in_all c.sections) h.objects)) old new r
  concluded p s₁ s₂ r {size} long {old} d z f e =
      let last : List ℕ = replicate (last_length h.lengths) 0 in
      let prog = program n (names_in_all c.sections) h.objects in
      let l : length last ≡ size = length-replicate (last_length h.lengths) 0 ∙ sym long in
      as_one_lem (length h.objects) last (count old) prog (d last prog l (all-ready p s₁ s₂ r)) z f e

pub is-ready : {common rows objects places cells : List ℕ} {work : Work} → IsClosed common rows objects places cells work
    → {starts sorts cells' starts' sorts' : List ℕ} {k : ℕ} {m : Made} → RulesPlaced common objects starts sorts k → length starts ≡ 128 → length sorts ≡ 128
    → RulesMade common rows work.n places 0 work.count work.rules cells work.cells starts sorts cells' starts' sorts' m → IsReady cells' starts' sorts' m.rules m.count
is-ready x p s₁ s₂ r = record { prog = _; ready = all-ready x.closed p s₁ s₂ r }

-- The pairs

-- no pair passes a limit, and all are collected
record AllHeld (words sites lowest : List ℕ) (n : Names) (own count : ℕ) (us : List Use) (o : Option Found) : Type 0 where
  pub unpassed : o ≡ none
  pub after : ℕ
  pub held : Held words sites lowest n own count after us

held-or : {words sites lowest : List ℕ} {n : Names} {own : ℕ} {us : List Use} (q : Pairs) (o : Option Found) → Tells words sites lowest n own us q o → q.fault ≡ 0 → AllHeld words sites lowest n own q.count us o
unfolding Tells
held-or q none t z = record { unpassed = refl; after = t.1.0; held = t.1.1 }
held-or q (some f) t z = absurd (omega (arith, z, t.0))

past-or : (words sites lowest : List ℕ) (n : Names) (own : ℕ) (us : List Use) (q : Pairs) (o : Option Found) → Tells words sites lowest n own us q o → (q.fault ≡ 0 → ⊥)
    → {old new : List ℕ} {r : code.Linked} → Leaves (refused q.fault q.text (record { start = q.start; size = q.len })) old new r → (other : Linked) → Leaves (refused_at 9 o other) old new r
unfolding Tells refused_at part_of
past-or words sites lowest n own us q none t z l other = absurd (z t.0)
past-or words sites lowest n own us q (some f) t z l other = rw (← t.0, ← t.1, ← t.2, ← t.3) l

module _ {common rows : List ℕ} (objects : List ℕ) {shared : Shared} {c : Common} {n : Names} (x : Rowed common rows shared c n) (h : AreObjects common c n (words_of objects)) {own : ℕ} (e : own ≡ length (rules_of h.objects))
    {sites lowest : List ℕ} {q : Pairs} (t : Collected common rows (record { n = shared.n; others = shared.others; own = own }) (words_of objects) sites lowest q) where
  tells : Tells (words_of objects) sites lowest n (length (rules_of h.objects)) (pairs_in h.objects) q (past_made n (names_in_all c.sections) (length (rules_of h.objects)) h.objects (pairs_in h.objects))
  tells = rw (e, x.others) at (t.tells (together c []) n x.sections common c h)

  -- 9 at the `^`
  pub pair-past : (q.fault ≡ 0 → ⊥) → {old new : List ℕ} {r : code.Linked} → Leaves (refused q.fault q.text (record { start = q.start; size = q.len })) old new r
      → (last : List ℕ) (room : ℕ) → Leaves (behind_checks c n last h.objects room) old new r
  unfolding behind_checks
  pair-past z l last room = past-or (words_of objects) sites lowest n (length (rules_of h.objects)) (pairs_in h.objects) q _ tells z l _

  module _ (z : q.fault ≡ 0) where
    held : AllHeld (words_of objects) sites lowest n (length (rules_of h.objects)) q.count (pairs_in h.objects) (past_made n (names_in_all c.sections) (length (rules_of h.objects)) h.objects (pairs_in h.objects))
    held = held-or q _ tells z

    pub as-behind : (last : List ℕ) (room : ℕ) {old new : List ℕ} {r : code.Linked} → Leaves (as_one (length h.objects) last room (program n (names_in_all c.sections) h.objects)) old new r → Leaves (behind_checks c n last h.objects room) old new r
    unfolding behind_checks refused_at
    as-behind last room l = rw held.unpassed l

    pub closed : Passed common c h.objects → {names places cells₀ cells : List ℕ} {filled : ℕ} → NamesPlaced common objects names own → length names ≡ length (rules_of h.objects)
        → ClosesAll (words_of objects) names sites lowest q.count cells₀ cells filled → length cells₀ ≡ 4224 → length cells ≡ 4224 → filled ≤ 4225
        → SitesFound common rows shared.n (words_of objects) names sites q.count places
        → Closed common rows objects places cells (record { n = shared.n; count = q.count; cells = filled; rules = own }) c n h
    closed p {names} {places} {cells₀} {cells} {filled} np long closes room size few found =
        let texts = texts-are objects names np h long in
        record {
          shared = shared;
          rowed = x;
          passes = p;
          rows_are = refl;
          rules_are = e;
          few_pairs = t.few;
          before = cells₀;
          room = room;
          size = size;
          filled = few;
          closes = closes common c n h (length (rules_of h.objects)) held.after (pairs_in h.objects) held.held texts (all-called c.listed h.objects p.alike);
          makes = λ r. pairs_made h x.sections p.alike (names_in_all c.sections) held.unpassed texts held.held found (rw e at r);
        }
