-- Choices: alternatives, the choice table, otherwise. Assumes nothing.
use Prim.Native.Nat.{ℕ, ◌+◌, ◌*◌, ◌-◌, ◌<◌, ◌≤◌, min}
use mathlib.Core.Path.{◌≡◌, refl, sym, ap, ◌∙◌, subst}
use mathlib.Core.Bool.{Bool, cond}
use mathlib.Core.List.{List, [], ◌∷◌, ◌++◌, append_assoc, append-nil}
use native.Mathlib.Omega.{arith}
use lib.ListN.{length, get_or, length-append}
use lib.Seq.{get_or-append-add, get_or-set_other}
use borrow.Author.Tests.{ne_eqb, lt-ltb, le-ltb}
use Rattle.base.specs.Tree.{choice, absent, otherwise}
use Rattle.program.specs.Program.{Plain, Selector, by_token, by_rule, by_operation, by_operation_with, Act, Acts, Alts, Other}
use Rattle.program.specs.Table.{size_absent, count_labels, size_alts, table_words, first_of, first_label, absent_words, choice_number, selector_words}
use Rattle.program.specs.Accepted.{NeedsLabel, Labelled}
use Rattle.program.proofs.Lengths.{length-table_words, length-selector}
use Rattle.cells.specs.Cells.{absent_cell}
use Rattle.chains.specs.Marks.{Target, outside, end, head, table, rule, Mark, known, waiting, waits, number, knowns, filled, close, shut, selector_marks, marks, marks_all, marks_alts, marks_other}
use Rattle.chains.specs.Chain.{Chain, places, patched, Waiting, Grown, At}
use Rattle.chains.proofs.Lists.{at_in, places-append, places-none, places-knowns, places-filled-other, filled_none, shut-append, length-filled, length-knowns, length-patched}
use Rattle.chains.proofs.Grows.{grown-none, grown-join, grown-known, grown-loose, grown-fill, chain-fill, chain-grown, chain-append}
use Rattle.chains.proofs.Solves.{length-selector_marks, length-marks_alts}
use Rattle.emitter.specs.Words.{words, puts, cut}
use Rattle.emitter.specs.Stands.{IsSel, sel_token, sel_rule, sel_op, sel_op_with, Labels, lab_none, lab_more, IsPlain, is_match, is_any, is_emit, is_error, is_exit, is_called, is_back, is_give, is_update, is_update_with, Is, is_plain, is_cycle, is_a_choice, IsAlts, is_nil, is_alt, IsOther, is_stop, is_other, IsAll}
use Rattle.emitter.specs.Heads.{labels_at, chooses, ins_of, sel_of, firsts, words_in, start_of, sel_at, called_at, anchor, behind}
use Rattle.emitter.specs.Ends.{Entry, entries, Ends, heads, ends, row_length, row_words}
use Rattle.emitter.specs.Work.{ItemDone, PatchDone, Extended, Emitted, Done, ListDone, ActDone, TableDone, AltsExtended, AltsEmitted, AltsDone, OtherDone, AbsentDone}
use Rattle.emitter.specs.declared.Item.{Item}
use Rattle.emitter.specs.declared.Row.{Row}
use Rattle.emitter.proofs.Laws.{cut_small, few-sel, puts_then}
use Rattle.emitter.proofs.Leave.{sel-in, other_in, alt-of, nil-of}
use Rattle.emitter.proofs.Rows.{row-append}
use Rattle.emitter.proofs.Tables.{ends_low, ends-chain, ends-below, row-length, row-table, heads-places, ends-places}
use Rattle.emitter.proofs.Emits.{emitted-join, emitted-known, emitted-call, not-called, is-called}
use Rattle.emitter.proofs.Waits.{for-exit, for-call, Within, for-end, for-head, for-more, alts-only, alts-closed, other-closed}

-- otherwise by its cell
pub record OtherBody (cs : List ℕ) (n p e : ℕ) (o : Other) : Type 0 where
  pub b : Acts
  pub acts : IsAll cs n (p + 1) e b
  pub eq : o ≡ otherwise b

stop-not : (s : Selector) → absent_cell s ≡ 13 → ⊥
unfolding absent_cell
stop-not by_token h = omega arith
stop-not (by_rule r) h = omega arith
stop-not (by_operation r) h = omega arith
stop-not (by_operation_with r v) h = omega arith

pub other-body : {cs : List ℕ} {n p e : ℕ} {s : Selector} {o : Other} → IsOther cs n s p e o → get_or cs p 0 ≡ 13 → OtherBody cs n p e o
other-body {s = s} (is_stop h l t) z = absurd (stop-not s (sym t ∙ z))
other-body (is_other {b = b} h t a) z = record { b = b; acts = a; eq = refl }

token-is : (s : Selector) → absent_cell s ≡ 14 → s ≡ by_token
unfolding absent_cell
token-is by_token h = refl
token-is (by_rule r) h = absurd (omega arith)
token-is (by_operation r) h = absurd (omega arith)
token-is (by_operation_with r v) h = absurd (omega arith)

pub other-token : {cs : List ℕ} {n p e : ℕ} {s : Selector} {o : Other} → IsOther cs n s p e o → get_or cs p 0 ≡ 14 → (o ≡ absent) × (s ≡ by_token) × (e ≡ p + 1)
other-token {s = s} (is_stop h l t) z = (refl, token-is s (sym t ∙ z), h)
other-token (is_other h t a) z = absurd (omega arith)

pub record Stops (s : Selector) (o : Other) (p e : ℕ) : Type 0 where
  pub eq : o ≡ absent
  pub next : e ≡ p + 1
  pub one_word : size_absent s ≡ 1
  pub words : (v d : ℕ) → absent_words s v d ≡ 12 ∷ []

ends_is : (s : Selector) (p e : ℕ) → (absent_cell s ≡ 14 → ⊥) → e ≡ p + 1 → Stops s absent p e
unfolding absent_cell size_absent absent_words
ends_is by_token p e f h = absurd (f refl)
ends_is (by_rule r) p e f h = record { eq = refl; next = h; one_word = refl; words = λ v d. refl }
ends_is (by_operation r) p e f h = record { eq = refl; next = h; one_word = refl; words = λ v d. refl }
ends_is (by_operation_with r u) p e f h = record { eq = refl; next = h; one_word = refl; words = λ v d. refl }

pub other-end : {cs : List ℕ} {n p e : ℕ} {s : Selector} {o : Other} → IsOther cs n s p e o → (get_or cs p 0 ≡ 13 → ⊥) → (get_or cs p 0 ≡ 14 → ⊥) → Stops s o p e
other-end {p = p} {e = e} {s = s} (is_stop h l t) f g = ends_is s p e (λ z. g (t ∙ z)) h
other-end (is_other h t a) f g = absurd (f t)

-- the alternatives
pub record AltsRest (cs : List ℕ) (n f : ℕ) (a : Alts) (old : List ℕ) (at x : ℕ) (slots : List ℕ) (q l y z k : ℕ) (out more : List ℕ) : Type 0 where
  pub rest : Alts
  pub so_far : List Mark
  pub es : List Entry
  pub stands : IsAlts cs n q f rest
  pub split : so_far ++ marks_alts rest ≡ marks_alts a
  pub entered : entries l rest ++ es ≡ entries at a
  pub counted : k + count_labels rest ≡ count_labels a
  pub after : l ≡ at + length so_far
  pub start : l ≡ behind z at
  pub emitted : AltsEmitted cs so_far es old out at z x y slots more

abbrev pub AltsGo : List ℕ → ℕ → List ℕ → ℕ → ℕ → List ℕ → ℕ → ℕ → ℕ → ℕ → ℕ → List ℕ → List ℕ → Type 0
AltsGo cs p old at x slots q l y z k out more = (n : ℕ) (s : Selector) (a : Alts) (o : Other) (f e : ℕ) → 1 < at → n ≤ length slots → IsAlts cs n p f a → IsOther cs n s f e o → AltsRest cs n f a old at x slots q l y z k out more

pub alts-none : (cs : List ℕ) (p : ℕ) (old : List ℕ) (at x : ℕ) (slots : List ℕ) → AltsGo cs p old at x slots p at x 0 0 old slots
unfolding Ends behind
alts-none cs p old at x slots n s a o f e h m i j = record {
  rest = a;
  so_far = [];
  es = [];
  stands = i;
  split = refl;
  entered = append-nil (entries at a);
  counted = omega arith;
  after = omega arith;
  start = refl;
  emitted = record { grow = λ base ws o l f s. record { now = ws; wrote = o; grown = grown-none ws x slots; ends = refl } };
}

behind-next : (n from : ℕ) → behind (n + 1) from ≡ n + 1 + 1
unfolding behind
behind-next n from = ap (λ (b : Bool). cond b from (n + 1 + 1)) (ne_eqb (n + 1) 0 (λ e. omega arith))

-- one alternative further
module _ (cs old : List ℕ) (at x : ℕ) (slots : List ℕ) (q l y z : ℕ) (out mid new more last : List ℕ) (l' y' : ℕ) (ls : List ℕ) (B ms : List Mark) (es : List Entry) (some : 1 < at) (few : q < 65536) (after : l ≡ at + length ms) (start : l ≡ behind z at) (count : labels_at cs q ≡ length ls) (labels : Labels cs (q + 1) ls)
    (next : l' ≡ l + length B) (wrote : new ≡ puts mid l' (cut q ∷ cut z ∷ [])) where
  alt-emits : AltsEmitted cs ms es old out at z x y slots more → Emitted B out mid l y y' more last
      → AltsEmitted cs (ms ++ (B ++ (waiting head ∷ waiting end ∷ []))) (record { labels = ls; start = l; place = l + length B + 1 } ∷ es) old new at (l' + 1) x y' slots last
  unfolding Ends number
  alt-emits g h = record {
    grow = λ base ws o e f s. (
        let k1 = length-append ms (B ++ (waiting head ∷ waiting end ∷ [])) in
        let k2 = length-append B (waiting head ∷ waiting end ∷ []) in
        let a = g.grow base ws o e (omega arith) (omega arith) in
        let b = h.grow base a.now a.wrote (omega (arith, a.grown.long)) (omega arith) (omega arith) in
        let L : length b.now ≡ l' = omega (arith, a.grown.long, b.grown.long) in
        let N1 = b.now ++ (cut q ∷ []) in
        let N = N1 ++ (cut z ∷ []) in
        let L1 : length N1 ≡ l' + 1 = length-append b.now (cut q ∷ []) ∙ ap (λ (i : ℕ). i + 1) L in
        let L2 : length N ≡ l' + 2 = omega (arith, length-append N1 (cut z ∷ [])) in
        let A : N ≡ b.now ++ (cut q ∷ cut z ∷ []) = append_assoc b.now (cut q ∷ []) (cut z ∷ []) in
        let G2 = grown-join b.grown (grown-join (grown-loose b.now head (cut q) y' last (omega arith) (omega arith)) (grown-loose N1 end (cut z) y' last (omega arith) (omega arith))) in
        let Z : z < length a.now = ends-below cs a.now at z es (omega (arith, a.grown.long)) a.ends in
        let w1 : get_or N (l' + 1) 0 ≡ z = ap (λ (i : ℕ). get_or N i 0) (sym (omega (arith, L1))) ∙ (get_or-append-add N1 (cut z ∷ []) 0 0 ∙ cut_small z (omega (arith, a.grown.long))) in
        let w0 : get_or N (l' + 1 - 1) 0 ≡ q = ap (λ (s : List ℕ). get_or s (l' + 1 - 1) 0) A ∙ (ap (λ (i : ℕ). get_or (b.now ++ (cut q ∷ cut z ∷ [])) i 0) (sym (omega (arith, L))) ∙ (get_or-append-add b.now (cut q ∷ cut z ∷ []) 0 0 ∙ cut_small q few)) in
        record {
          now = N;
          wrote = wrote ∙ (ap (λ (t : List ℕ). puts t l' (cut q ∷ cut z ∷ [])) b.wrote ∙ (row-append base b.now (cut q ∷ cut z ∷ []) l' L ∙ ap (λ (t : List ℕ). puts base 0 t) (sym A)));
          grown = grown-join a.grown G2;
          ends = (
            omega arith,
            omega arith,
            omega (arith, w1, Z, a.grown.long),
            omega arith,
            start ∙ ap (λ (i : ℕ). behind i at) (sym w1),
            ap (λ (i : ℕ). labels_at cs i) w0 ∙ count,
            subst (λ (i : ℕ). Labels cs (i + 1) ls) (sym w0) labels,
            subst (λ (i : ℕ). Ends cs N at i es) (sym w1) (ends_low cs a.now N at z es (omega (arith, L2, a.grown.long)) (λ i i1 i2 i3. G2.before i i3) a.ends),
          );
        });
  }

pub alts-more : (cs : List ℕ) (p : ℕ) (old : List ℕ) (at x : ℕ) (slots : List ℕ) (q l y z k j q' l' y' : ℕ) (out mid new more last : List ℕ) → 0 < j → j ≡ labels_at cs q → q < 65536 → length more ≡ length slots
    → ListDone cs (q + 1 + j) out mid l y more last q' l' y' → (c : ℕ) → c ≡ cut q → (w : ℕ) → w ≡ cut z → new ≡ puts mid l' (c ∷ w ∷ []) → AltsGo cs p old at x slots q l y z k out more → AltsGo cs p old at x slots q' (l' + 2) y' (l' + 1) (k + j) new last
unfolding ListDone marks_alts entries count_labels
alts-more cs p old at x slots q l y z k j q' l' y' out mid new more last J u few m d b bq w₀ wz w₁ g n s a o f e h c i t =
    let w : new ≡ puts mid l' (cut q ∷ cut z ∷ []) = w₁ ∙ (ap (λ (i : ℕ). puts mid l' (i ∷ w₀ ∷ [])) bq ∙ ap (λ (i : ℕ). puts mid l' (cut q ∷ i ∷ [])) wz) in
    let r = g n s a o f e h c i t in
    let v = alt-of r.stands t (omega arith) in
    let E : q + 1 + j ≡ q + (1 + length v.ls) = omega (arith, v.count) in
    let D = d n v.b v.mid (omega arith) (subst (λ (i : ℕ). IsAll cs n i v.mid v.b) (sym E) v.body) in
    let B = marks_all v.b in
    let e0 : Entry = record { labels = v.ls; start = l; place = l + length B + 1 } in
    let N : l' + 2 ≡ l + length B + 2 = omega (arith, D.after) in
    let e2 : count_labels r.rest ≡ length v.ls + count_labels v.r = ap count_labels v.eq in
    record {
      rest = v.r;
      so_far = r.so_far ++ (B ++ (waiting head ∷ waiting end ∷ []));
      es = e0 ∷ r.es;
      stands = subst (λ (i : ℕ). IsAlts cs n i f v.r) (sym D.next) v.alts;
      split = append_assoc r.so_far (B ++ (waiting head ∷ waiting end ∷ [])) (marks_alts v.r) ∙ (ap (λ (t : List Mark). r.so_far ++ t) (append_assoc B (waiting head ∷ waiting end ∷ []) (marks_alts v.r)) ∙ (ap (λ (i : Alts). r.so_far ++ marks_alts i) (sym v.eq) ∙ r.split));
      entered = sym (append_assoc (entries (l' + 2) v.r) (e0 ∷ []) r.es) ∙ (ap (λ (i : ℕ). (entries i v.r ++ (e0 ∷ [])) ++ r.es) N ∙ (ap (λ (i : Alts). entries l i ++ r.es) (sym v.eq) ∙ r.entered));
      counted = omega (arith, r.counted, v.count);
      after = omega (arith, D.after, r.after, length-append r.so_far (B ++ (waiting head ∷ waiting end ∷ [])), length-append B (waiting head ∷ waiting end ∷ []));
      start = sym (behind-next l' at ∙ omega arith);
      emitted = alt-emits cs old at x slots q l y z out mid new more last l' y' v.ls B r.so_far r.es h few r.after r.start v.count v.labels D.after w r.emitted D.emitted;
    }

pub alts-end : (cs : List ℕ) (p : ℕ) (old : List ℕ) (at x : ℕ) (slots : List ℕ) (q l y z k : ℕ) (out more : List ℕ) → labels_at cs q ≡ 0 → AltsGo cs p old at x slots q l y z k out more
    → AltsDone cs p old out at x slots more (record { p = q; at = l; exit = y; end = z; labels = k })
unfolding AltsDone marks_alts entries count_labels
alts-end cs p old at x slots q l y z k out more t g n s a o f e h c i j =
    let r = g n s a o f e h c i j in
    let v = nil-of r.stands j t in
    let w : r.so_far ≡ marks_alts a = sym (append-nil r.so_far) ∙ (ap (λ (i : Alts). r.so_far ++ marks_alts i) (sym v.0) ∙ r.split) in
    let u : r.es ≡ entries at a = ap (λ (i : Alts). entries l i ++ r.es) (sym v.0) ∙ r.entered in
    let e2 : count_labels r.rest ≡ 0 = ap count_labels v.0 in
    record {
      next = sym v.1;
      after = r.after ∙ ap (λ (i : List Mark). at + length i) w;
      count = omega (arith, r.counted);
      emitted = subst (λ (i : List Entry). AltsEmitted cs (marks_alts a) i old out at z x y slots more) u (subst (λ (i : List Mark). AltsEmitted cs i r.es old out at z x y slots more) w r.emitted);
    }

-- otherwise
pub other-done : (cs : List ℕ) (p : ℕ) (old new : List ℕ) (at x v from : ℕ) (slots more : List ℕ) (p' at' x' : ℕ) → get_or cs p 0 ≡ 13 → ListDone cs (p + 1) old new at x slots more p' at' x' → OtherDone cs p old new at x v from slots more p' at' x'
unfolding OtherDone ListDone marks_other
other-done cs p old new at x v from slots more p' at' x' t d n s o e m h =
    let b = other-body h t in
    subst (λ (i : Other). Done (marks_other i (absent_words s v (at + 3 - from))) e old new at x slots more p' at' x') (sym b.eq) (d n b.b e m b.acts)

pub absent-done : (cs : List ℕ) (p : ℕ) (old new : List ℕ) (at x v from : ℕ) (slots : List ℕ) (p' at' x' : ℕ) → AbsentDone cs p old new at v from p' at' → x' ≡ x → OtherDone cs p old new at x v from slots slots p' at' x'
unfolding OtherDone AbsentDone
absent-done cs p old new at x v from slots p' at' x' d y n s o e m h = subst (λ (i : ℕ). Done (marks_other o (absent_words s v (at + 3 - from))) e old new at x slots slots p' at' i) (sym y) (d n s o e x slots h)

known-done : (ws : List ℕ) (e : ℕ) (old new : List ℕ) (at x : ℕ) (slots : List ℕ) (p' at' : ℕ) → p' ≡ e → at' ≡ at + length ws → (at + length ws < 65536 → new ≡ puts old at ws) → Done (knowns ws) e old new at x slots slots p' at' x
known-done ws e old new at x slots p' at' h k w = record { next = h; after = k ∙ ap (λ (i : ℕ). at + i) (sym (length-knowns ws)); emitted = emitted-known ws w }

pub token-done : (cs : List ℕ) (p : ℕ) (old mid new : List ℕ) (at v from p' : ℕ) → get_or cs p 0 ≡ 14 → p' ≡ min (p + 1) (length cs) → mid ≡ puts old at (3 ∷ v ∷ []) → new ≡ puts mid (at + 2) (2 ∷ cut (at + 3 - from) ∷ []) → AbsentDone cs p old new at v from p' (at + 4)
unfolding AbsentDone marks_other absent_words
token-done cs p old mid new at v from p' t y a b n s o e x slots h =
    let w = other-token h t in
    let j = other_in h in
    let d = at + 3 - from in
    let W : at + 4 < 65536 → new ≡ puts old at (3 ∷ v ∷ 2 ∷ d ∷ []) = λ z. puts_then old mid new at (at + 2) (3 ∷ v ∷ []) (2 ∷ d ∷ []) a refl (b ∙ ap (λ (i : ℕ). puts mid (at + 2) (2 ∷ i ∷ [])) (cut_small d (omega arith))) in
    subst (λ (i : Other). Done (marks_other i (absent_words s v d)) e old new at x slots slots p' (at + 4) x) (sym w.0) (subst (λ (i : Selector). Done (knowns (absent_words i v d)) e old new at x slots slots p' (at + 4) x) (sym w.1) (known-done (3 ∷ v ∷ 2 ∷ d ∷ []) e old new at x slots p' (at + 4) (omega (arith, w.2)) refl W))

pub end-done : (cs : List ℕ) (p : ℕ) (old new : List ℕ) (at v from p' : ℕ) → (get_or cs p 0 ≡ 13 → ⊥) → (get_or cs p 0 ≡ 14 → ⊥) → p' ≡ min (p + 1) (length cs) → new ≡ puts old at (12 ∷ []) → AbsentDone cs p old new at v from p' (at + 1)
unfolding AbsentDone marks_other
end-done cs p old new at v from p' f g y a n s o e x slots h =
    let w = other-end h f g in
    let j = other_in h in
    let d = at + 3 - from in
    subst (λ (i : Other). Done (marks_other i (absent_words s v d)) e old new at x slots slots p' (at + 1) x) (sym w.eq) (subst (λ (i : List ℕ). Done (knowns i) e old new at x slots slots p' (at + 1) x) (sym (w.words v d)) (known-done (12 ∷ []) e old new at x slots p' (at + 1) (omega (arith, w.next)) refl (λ z. a)))

-- the whole choice
chooses-not : (k : ℕ) → 256 ≤ k → k < 768 → chooses k ≡ 0
unfolding chooses
chooses-not k h g = simp (ne_eqb k 7 (λ z. omega arith), ne_eqb k 11 (λ z. omega arith), lt-ltb k 768 g)

pub record Choice (cs : List ℕ) (n p e : ℕ) (a : Act) : Type 0 where
  pub s : Selector
  pub q : Alts
  pub o : Other
  pub f : ℕ
  pub g : ℕ
  pub sel : IsSel cs n p f s
  pub alts : IsAlts cs n f g q
  pub ends : IsOther cs n s g e o
  pub need : NeedsLabel s o q
  pub eq : a ≡ choice s q o

plain-not : {cs : List ℕ} {n p e : ℕ} {a : Plain} → IsPlain cs n p e a → chooses (get_or cs p 0) ≡ 0
unfolding chooses
plain-not (is_match h l t v) = ap chooses t
plain-not (is_any h l t) = ap chooses t
plain-not (is_emit h l t v) = ap chooses t
plain-not (is_error h l t v) = ap chooses t
plain-not (is_exit h l t) = ap chooses t
plain-not (is_called h l t v r) = ap chooses t
plain-not (is_back h l t) = ap chooses t
plain-not (is_give h l t v) = ap chooses t
plain-not (is_update {op = op} h l t f u) = ap chooses t ∙ chooses-not op f (omega arith)
plain-not (is_update_with {op = op} h l t v f u) = ap chooses t ∙ chooses-not op (omega arith) u

pub choice-of : {cs : List ℕ} {n p e : ℕ} {a : Act} → Is cs n p e a → chooses (get_or cs p 0) ≡ 1 → Choice cs n p e a
unfolding chooses
choice-of (is_plain a) z = let i = plain-not a in absurd (omega arith)
choice-of (is_cycle h t b) z = let i = ap chooses t in absurd (omega arith)
choice-of (is_a_choice {f = f} {g = g} {s = s} {q = q} {o = o} a b c d) z = record { s = s; q = q; o = o; f = f; g = g; sel = a; alts = b; ends = c; need = d; eq = refl }

-- the selector's words and cells
pub record Selects (w : Item) (k p f : ℕ) (s : Selector) (ws : List ℕ) : Type 0 where
  pub words : words_in w ≡ ws
  pub cells : f ≡ p + w.cells
  pub ins : ins_of k ≡ choice_number s

module _ (starts : List ℕ) where
  sel-is : (cs : List ℕ) (p f k v c : ℕ) (s : Selector) → get_or cs p 0 ≡ k → get_or cs (p + 1) 0 ≡ v → words_in (sel_of k v (start_of starts v)) ≡ selector_words (start_of starts) s → (sel_of k v (start_of starts v)).cells ≡ c → f ≡ p + c → ins_of k ≡ choice_number s
      → Selects (sel_at cs starts p) (get_or cs p 0) p f s (selector_words (start_of starts) s)
  unfolding sel_at
  sel-is cs p f k v c s t u x y z i =
      let w : sel_at cs starts p ≡ sel_of k v (start_of starts v) = cc in
      record { words = ap words_in w ∙ x; cells = z ∙ ap (λ (j : ℕ). p + j) (sym (ap (λ (j : Item). j.cells) w ∙ y)); ins = ap ins_of t ∙ i }

  pub selects : {cs : List ℕ} {n p f : ℕ} {s : Selector} → IsSel cs n p f s → Selects (sel_at cs starts p) (get_or cs p 0) p f s (selector_words (start_of starts) s)
  unfolding sel_of firsts selector_words choice_number ins_of
  selects {cs} {p = p} {f = f} (sel_token h l t) = sel-is cs p f 7 (get_or cs (p + 1) 0) 1 by_token t refl refl refl h refl
  selects {cs} {p = p} {f = f} (sel_rule {r = r} h l t v g) = sel-is cs p f 11 r 2 (by_rule r) t v refl refl h refl
  selects {cs} {p = p} {f = f} (sel_op {op = op} h l t a b) = sel-is cs p f op (get_or cs (p + 1) 0) 1 (by_operation op) t refl (simp (ne_eqb op 7 (λ z. omega arith), ne_eqb op 11 (λ z. omega arith), lt-ltb op 1024 b)) (simp (ne_eqb op 7 (λ z. omega arith), ne_eqb op 11 (λ z. omega arith), lt-ltb op 1024 b)) h (simp (ne_eqb op 7 (λ z. omega arith)))
  selects {cs} {p = p} {f = f} (sel_op_with {op = op} {v = u} h l t v a b) = sel-is cs p f op u 2 (by_operation_with op u) t v (simp (ne_eqb op 7 (λ z. omega arith), ne_eqb op 11 (λ z. omega arith), le-ltb op 1024 a)) (simp (ne_eqb op 7 (λ z. omega arith), ne_eqb op 11 (λ z. omega arith), le-ltb op 1024 a)) h (simp (ne_eqb op 7 (λ z. omega arith)))

first-label : {cs : List ℕ} {n p f : ℕ} {q : Alts} → IsAlts cs n p f q → Labelled q → get_or cs (p + 1) 0 ≡ first_label q
unfolding Labelled first_label first_of
first-label (is_nil c) z = absurd z
first-label (is_alt t g u lab_none a x) z = absurd z
first-label (is_alt t g u (lab_more e l) a x) z = e

-- the selector
module _ (cs : List ℕ) (n p e : ℕ) (old new : List ℕ) (at x : ℕ) (slots more : List ℕ) (most : n ≤ length slots) (m : more ≡ called_at cs p 11 slots (at + 1)) where
  shut-sel : (vs : List ℕ) (ms : List Mark) → knowns vs ≡ ms → new ≡ puts old at vs → (get_or cs p 0 ≡ 11 → ⊥) → Emitted ms old new at x x slots more
  shut-sel vs ms k w h =
      subst (λ (i : List ℕ). Emitted ms old new at x x slots i) (sym (m ∙ not-called cs p 11 slots (at + 1) h)) (subst (λ (i : List Mark). Emitted i old new at x x slots slots) k (emitted-known vs (λ z. w)))

  sel-emits : {s : Selector} → IsSel cs n p e s → new ≡ puts old at (selector_words (start_of slots) s) → Emitted (selector_marks s) old new at x x slots more
  unfolding selector_words selector_marks knowns
  sel-emits (sel_token h l t) w = shut-sel [] _ refl w (λ z. omega arith)
  sel-emits (sel_rule {r = r} h l t u b) w = emitted-call r (omega arith) w (m ∙ is-called cs p 11 slots (at + 1) r t u)
  sel-emits (sel_op {op = op} h l t c d) w = shut-sel (op ∷ []) _ refl w (λ z. omega arith)
  sel-emits (sel_op_with {op = op} {v = v} h l t u c d) w = shut-sel (13 ∷ v ∷ op ∷ []) _ refl w (λ z. omega arith)

pub sel-done : (cs : List ℕ) (p : ℕ) (old new : List ℕ) (at x : ℕ) (slots more : List ℕ) (first here n : ℕ) (s : Selector) (f : ℕ) → n ≤ length slots → IsSel cs n p f s → ItemDone cs (sel_at cs slots p) p at old new first here → more ≡ called_at cs p 11 slots (at + 1)
    → Done (selector_marks s) f old new at x slots more first here x
unfolding sel_at
sel-done cs p old new at x slots more first here n s f c h d m =
    let v = selects slots h in
    let j = sel-in h in
    let u = few-sel (get_or cs p 0) (get_or cs (p + 1) 0) (start_of slots (get_or cs (p + 1) 0)) in
    record {
      next = d.next (omega (arith, v.cells)) ∙ sym v.cells;
      after = d.after ∙ ap (λ (k : ℕ). at + k) (sym u.count ∙ (ap length v.words ∙ (length-selector (start_of slots) s ∙ sym (length-selector_marks s))));
      emitted = sel-emits cs n p f old new at x slots more c m h (d.wrote ∙ ap (λ (t : List ℕ). puts old at t) v.words);
    }

-- the choice from its instruction on: stage by stage
grown-as : {ms ns : List Mark} {ws vs : List ℕ} {x y : ℕ} {slots more : List ℕ} → ms ≡ ns → Grown ms ws vs x y slots more → Grown ns ws vs x y slots more
grown-as {ws = ws} {vs = vs} {x = x} {y = y} {slots = slots} {more = more} e g = subst (λ (i : List Mark). Grown i ws vs x y slots more) e g

not-waiting : (slots : List ℕ) (t : Target) → 0 < number t → number t < 4 → Waiting slots t → ⊥
unfolding Waiting number
not-waiting slots outside h k w = omega arith
not-waiting slots end h k w = w
not-waiting slots head h k w = w
not-waiting slots table h k w = w
not-waiting slots (rule r) h k w = omega arith

-- its distance waits, a chain of one
two-grown : (ws : List ℕ) (ins x : ℕ) (slots : List ℕ) → Grown (known ins ∷ waiting table ∷ []) ws ((ws ++ (ins ∷ [])) ++ (0 ∷ [])) x x slots slots
unfolding knowns number
two-grown ws ins x slots = grown-join (grown-known ws (ins ∷ []) x slots) (grown-loose (ws ++ (ins ∷ [])) table 0 x slots (omega arith) (omega arith))

-- then the alternatives
pub record AltsStage (cs : List ℕ) (ms : List Mark) (es : List Entry) (at z n : ℕ) (base ws new : List ℕ) (x y : ℕ) (slots more : List ℕ) : Type 0 where
  pub part : AltsExtended cs ms es at z base ws new x y slots more
  pub zeroed : get_or part.now n 0 ≡ 0

alts-stage : (cs : List ℕ) (ins : ℕ) (MA : List Mark) (es : List Entry) (z : ℕ) (base ws o1 o2 o3 : List ℕ) (here x y : ℕ) (slots more : List ℕ) → o1 ≡ puts base 0 ws → length ws ≡ here → o2 ≡ puts o1 here (ins ∷ 0 ∷ []) → AltsEmitted cs MA es o2 o3 (here + 2) z x y slots more
    → here + 2 + length MA ≤ words base → here + 2 + length MA < 65536 → AltsStage cs (known ins ∷ waiting table ∷ MA) es (here + 2) z (here + 1) base ws o3 x y slots more
alts-stage cs ins MA es z base ws o1 o2 o3 here x y slots more e l w g f s =
    let N1 = ws ++ (ins ∷ []) in
    let N = N1 ++ (0 ∷ []) in
    let A : ws ++ (ins ∷ 0 ∷ []) ≡ N = sym (append_assoc ws (ins ∷ []) (0 ∷ [])) in
    let G = two-grown ws ins x slots in
    let k : length N1 ≡ here + 1 = length-append ws (ins ∷ []) ∙ ap (λ (i : ℕ). i + 1) l in
    let a = g.grow base N (w ∙ (ap (λ (t : List ℕ). puts t here (ins ∷ 0 ∷ [])) e ∙ (row-append base ws (ins ∷ 0 ∷ []) here l ∙ ap (λ (t : List ℕ). puts base 0 t) A))) (G.long ∙ ap (λ (k : ℕ). k + 2) l) f s in
    record {
      part = record { now = a.now; wrote = a.wrote; grown = grown-join G a.grown; ends = a.ends };
      zeroed = a.grown.before (here + 1) (omega (arith, G.long)) ∙ (ap (λ (i : ℕ). get_or N i 0) (sym (omega (arith, k))) ∙ get_or-append-add N1 (0 ∷ []) 0 0);
    }

-- then its distance
table-places : (l ins : ℕ) (MA : List Mark) → ((i : ℕ) → At MA i (waiting table) → ⊥) → places table l (known ins ∷ waiting table ∷ MA) ≡ (l + 1) ∷ []
unfolding places waits number
table-places l ins MA h = append-nil (places table (l + 1 + 1) MA ++ ((l + 1) ∷ [])) ∙ ap (λ (s : List ℕ). s ++ ((l + 1) ∷ [])) (places-none table (l + 1 + 1) MA h)

table_filled : (ins : ℕ) (MA : List Mark) → ((i : ℕ) → At MA i (waiting table) → ⊥) → filled table (λ k. k + 1) (known ins ∷ waiting table ∷ MA) ≡ known ins ∷ known (length MA + 1) ∷ MA
unfolding filled waits number
table_filled ins MA h = ap (λ (s : List Mark). known ins ∷ known (length MA + 1) ∷ s) (filled_none table (λ k. k + 1) MA h)

one-chain : (ws : List ℕ) (n : ℕ) → 0 < n → n < length ws → get_or ws n 0 ≡ 0 → Chain ws n (n ∷ [])
unfolding Chain
one-chain ws n h l e = (refl, h, l, omega arith, e)

one-other : (ws : List ℕ) (f : ℕ → ℕ) (n i : ℕ) → n < i → get_or (patched ws f (n ∷ [])) i 0 ≡ get_or ws i 0
unfolding patched
one-other ws f n i h = get_or-set_other ws n i (f n) 0 (λ e. omega arith)

distance-stage : (cs : List ℕ) (ins : ℕ) (MA : List Mark) (es : List Entry) (z : ℕ) (base ws o3 o4 : List ℕ) (here to x y : ℕ) (slots more : List ℕ) → length ws ≡ here → to ≡ here + 2 + length MA → to ≤ words base → to < 65536 → ((i : ℕ) → At MA i (waiting table) → ⊥)
    → (a : AltsExtended cs (known ins ∷ waiting table ∷ MA) es (here + 2) z base ws o3 x y slots more) → get_or a.now (here + 1) 0 ≡ 0 → PatchDone o3 o4 (here + 1) to 1
    → AltsExtended cs (known ins ∷ known (length MA + 1) ∷ MA) es (here + 2) z base ws o4 x y slots more
unfolding PatchDone anchor number
distance-stage cs ins MA es z base ws o3 o4 here to x y slots more l t f s h a w d =
    let M = known ins ∷ waiting table ∷ MA in
    let L = a.grown.long in
    let P : places table (length ws) M ≡ (here + 1) ∷ [] = table-places (length ws) ins MA h ∙ ap (λ (k : ℕ). (k + 1) ∷ []) l in
    let C : Chain a.now (here + 1) (places table (length ws) M) = subst (λ (k : List ℕ). Chain a.now (here + 1) k) (sym P) (one-chain a.now (here + 1) (omega arith) (omega arith) w) in
    record {
      now = patched a.now (λ j. to - j) (places table (length ws) M);
      wrote = d base a.now (places table (length ws) M) a.wrote (omega arith) s C;
      grown = grown-as (table_filled ins MA h) (grown-fill a.grown table (λ j. to - j) (λ k. k + 1) (λ i k. omega (arith, at_in k)) (not-waiting slots table (omega arith) (omega arith)));
      ends = ends_low cs a.now (patched a.now (λ j. to - j) (places table (length ws) M)) (here + 2) z es (omega (arith, length-patched a.now (λ j. to - j) (places table (length ws) M)))
          (λ i i1 i2 i3. (ap (λ (k : List ℕ). get_or (patched a.now (λ j. to - j) k) i 0) P ∙ one-other a.now (λ j. to - j) (here + 1) i (omega arith))) a.ends;
    }

-- then how many labels
count-stage : (cs : List ℕ) (ms : List Mark) (c : ℕ) (es : List Entry) (from z : ℕ) (base ws o4 o5 : List ℕ) (at x y : ℕ) (slots more : List ℕ) → AltsExtended cs ms es from z base ws o4 x y slots more → at ≡ length ws + length ms → o5 ≡ puts o4 at (c ∷ []) → AltsExtended cs (ms ++ (known c ∷ [])) es from z base ws o5 x y slots more
unfolding knowns
count-stage cs ms c es from z base ws o4 o5 at x y slots more a l w =
    let G = grown-known a.now (c ∷ []) y more in
    record {
      now = a.now ++ (c ∷ []);
      wrote = w ∙ (ap (λ (t : List ℕ). puts t at (c ∷ [])) a.wrote ∙ row-append base a.now (c ∷ []) at (a.grown.long ∙ sym l));
      grown = grown-join a.grown G;
      ends = ends_low cs a.now (a.now ++ (c ∷ [])) from z es (omega (arith, G.long)) (λ i i1 i2 i3. G.before i i3) a.ends;
    }

-- then the choice table, and the jumps' own words
pub record Ending (ms : List Mark) (ps : List ℕ) (z : ℕ) (base ws new : List ℕ) (x x' : ℕ) (slots slots' : List ℕ) : Type 0 where
  pub now : List ℕ
  pub wrote : new ≡ puts base 0 now
  pub grown : Grown ms ws now x x' slots slots'
  pub chain : Chain now z ps

apart-ends : end ≡ head → ⊥
unfolding number
apart-ends e = let z : number end ≡ number head = ap number e in omega arith

table-stage : (cs : List ℕ) (ms : List Mark) (es : List Entry) (from z : ℕ) (base ws o5 o6 vs : List ℕ) (top x y : ℕ) (slots more : List ℕ) → (a : AltsExtended cs ms es from z base ws o5 x y slots more) → heads es ≡ places head (length ws) ms → ends es ≡ places end (length ws) ms
    → from ≤ length ws + length ms → length ws + length ms + row_length es ≡ top → top ≤ words base → top < 65536 → row_words es top ≡ vs → TableDone cs o5 o6 z from top
    → Ending (shut ms ++ knowns vs) (places end (length ws) ms) z base ws o6 x y slots more
unfolding TableDone number
table-stage cs ms es from z base ws o5 o6 vs top x y slots more a H E f t b s r d =
    let N = patched a.now (λ j. 1) (places head (length ws) ms) in
    let L = a.grown.long in
    let G = grown-fill a.grown head (λ j. 1) (λ k. 1) (λ i k. refl) (not-waiting slots head (omega arith) (omega arith)) in
    let C = chain-fill a.now z head end (λ j. 1) (length ws) ms apart-ends (subst (λ (k : List ℕ). Chain a.now z k) E (ends-chain cs a.now from z es a.ends)) in
    record {
      now = N ++ vs;
      wrote = d base a.now es a.wrote a.ends (omega arith) (omega arith) b s ∙ (ap (λ (k : List ℕ). puts base 0 (patched a.now (λ j. 1) k ++ row_words es top)) H ∙ ap (λ (k : List ℕ). puts base 0 (N ++ k)) r);
      grown = grown-join G (grown-known N vs y more);
      chain = chain-append N vs z (places end (length ws) ms) C;
    }

-- then otherwise
other-stage : {ms O : List Mark} {ps : List ℕ} {z : ℕ} {base ws o6 o7 : List ℕ} {at x y w : ℕ} {slots more last : List ℕ} → Ending ms ps z base ws o6 x y slots more → Emitted O o6 o7 at y w more last → at ≡ length ws + length ms → at + length O ≤ words base → at + length O < 65536 → Ending (ms ++ O) ps z base ws o7 x w slots last
other-stage {ps = ps} {z = z} {base = base} a g l f s =
    let b = g.grow base a.now a.wrote (a.grown.long ∙ sym l) f s in
    record { now = b.now; wrote = b.wrote; grown = grown-join a.grown b.grown; chain = chain-grown z ps b.grown a.chain }

-- and the end is known
end-stage : (ms : List Mark) (ps : List ℕ) (z : ℕ) (base ws o7 new : List ℕ) (to x y : ℕ) (slots more : List ℕ) → Ending ms ps z base ws o7 x y slots more → ps ≡ places end (length ws) ms → to ≡ length ws + length ms → to ≤ words base → to < 65536 → PatchDone o7 new z to 1 → Extended (close end ms) base ws new x y slots more
unfolding PatchDone anchor number
end-stage ms ps z base ws o7 new to x y slots more a e t f s d = record {
  now = patched a.now (λ j. to - j) (places end (length ws) ms);
  wrote = d base a.now (places end (length ws) ms) a.wrote (omega (arith, a.grown.long)) s (subst (λ (k : List ℕ). Chain a.now z k) e a.chain);
  grown = grown-fill a.grown end (λ j. to - j) (λ k. k + 1) (λ i k. omega (arith, at_in k)) (not-waiting slots end (omega arith) (omega arith));
}

-- the marks come together
known-places : (t : Target) (l a b : ℕ) (ms : List Mark) → places t l (known a ∷ known b ∷ ms) ≡ places t (l + 2) ms
unfolding places waits
known-places t l a b ms = let e : l + 1 + 1 ≡ l + 2 = omega arith in append-nil (places t (l + 1 + 1) ms ++ []) ∙ (append-nil (places t (l + 1 + 1) ms) ∙ ap (λ (k : ℕ). places t k ms) e)

row-places : (t : Target) (l a b c : ℕ) (ms : List Mark) → places t l (known a ∷ known b ∷ (ms ++ (known c ∷ []))) ≡ places t (l + 2) ms
unfolding knowns
row-places t l a b c ms = known-places t l a b (ms ++ (known c ∷ [])) ∙ (places-append t (l + 2) ms (known c ∷ []) ∙ ap (λ (s : List ℕ). s ++ places t (l + 2) ms) (places-knowns t (l + 2 + length ms) (c ∷ [])))

last-places : (l a b c : ℕ) (ms O : List Mark) (ws : List ℕ) → ((i : ℕ) → places end i O ≡ []) → places end l (known a ∷ known b ∷ (shut ms ++ (known c ∷ (knowns ws ++ O)))) ≡ places end (l + 2) ms
unfolding knowns
last-places l a b c ms O ws h =
    let S = shut ms in
    let k = l + 2 + length S in
    known-places end l a b (S ++ (known c ∷ (knowns ws ++ O)))
    ∙ (places-append end (l + 2) S (knowns (c ∷ ws) ++ O)
    ∙ (ap (λ (s : List ℕ). s ++ places end (l + 2) S) (places-append end k (knowns (c ∷ ws)) O ∙ (ap (λ (s : List ℕ). s ++ places end k (knowns (c ∷ ws))) (h (k + length (knowns (c ∷ ws)))) ∙ places-knowns end k (c ∷ ws)))
    ∙ places-filled-other head end (λ k. 1) (l + 2) ms apart-ends))

body-shape : (a b c : ℕ) (ms O : List Mark) (ws : List ℕ) → (shut (known a ∷ known b ∷ (ms ++ (known c ∷ []))) ++ knowns ws) ++ O ≡ known a ∷ known b ∷ (shut ms ++ (known c ∷ (knowns ws ++ O)))
unfolding filled waits knowns
body-shape a b c ms O ws =
    ap (λ (s : List Mark). known a ∷ known b ∷ ((s ++ knowns ws) ++ O)) (shut-append ms (known c ∷ []))
    ∙ ap (λ (s : List Mark). known a ∷ known b ∷ s) (append_assoc (shut ms ++ (known c ∷ [])) (knowns ws) O ∙ append_assoc (shut ms) (known c ∷ []) (knowns ws ++ O))

close-body : (a b : ℕ) (ms : List Mark) → close end (known a ∷ known b ∷ ms) ≡ known a ∷ known b ∷ close end ms
unfolding filled waits
close-body a b ms = refl

no_table : (n : ℕ) (t : Target) → Within n t → t ≡ table → ⊥
unfolding number
no_table n t for-end e = let z : number end ≡ number table = ap number e in omega arith
no_table n t for-head e = let z : number head ≡ number table = ap number e in omega arith
no_table n t (for-more for-exit) e = let z : number outside ≡ number table = ap number e in omega arith
no_table n t (for-more (for-call {r = r} h)) e = let z : number (rule r) ≡ number table = ap number e in omega arith

-- the choice from its instruction on
module _ (cs : List ℕ) (n : ℕ) (s : Selector) (q : Alts) (o : Other) (f g e : ℕ) (vs : List ℕ) (stands : IsAlts cs n f g q) (ended : IsOther cs n s g e o) (ins z k here to fin x y w : ℕ) (o1 o2 o3 o4 o5 o6 o7 new : List ℕ) (slots more last : List ℕ)
    (w2 : o2 ≡ puts o1 here (ins ∷ 0 ∷ [])) (g3 : AltsEmitted cs (marks_alts q) (entries (here + 2) q) o2 o3 (here + 2) z x y slots more) (is-to : to ≡ here + 2 + length (marks_alts q)) (p4 : PatchDone o3 o4 (here + 1) to 1) (w5 : o5 ≡ puts o4 to (cut k ∷ [])) (is-k : k ≡ count_labels q)
    (t6 : TableDone cs o5 o6 z (here + 2) (to + 1 + 2 * k)) (g7 : Emitted (marks_other o vs) o6 o7 (to + 1 + 2 * k) y w more last) (is-fin : fin ≡ to + 1 + 2 * k + length (marks_other o vs)) (p8 : PatchDone o7 new z fin 1) where
  body-ending : (base ws : List ℕ) → o1 ≡ puts base 0 ws → length ws ≡ here → fin ≤ words base → fin < 65536
      → Ending (known ins ∷ known (length (marks_alts q) + 1) ∷ (shut (marks_alts q) ++ (known (count_labels q) ∷ (knowns (table_words 1 q) ++ marks_other o vs)))) (places end (length ws) (known ins ∷ known (length (marks_alts q) + 1) ∷ (marks_alts q ++ (known (count_labels q) ∷ [])))) z base ws o7 x w slots last
  body-ending base ws a l b c =
      let MA = marks_alts q in
      let D = length MA + 1 in
      let cl = count_labels q in
      let M = known ins ∷ known D ∷ (MA ++ (known cl ∷ [])) in
      let lm : length M ≡ 3 + length MA = omega (arith, length-append MA (known cl ∷ [])) in
      let A = alts-stage cs ins MA (entries (here + 2) q) z base ws o1 o2 o3 here x y slots more a l w2 g3 (omega arith) (omega arith) in
      let B = distance-stage cs ins MA (entries (here + 2) q) z base ws o3 o4 here to x y slots more l is-to (omega arith) (omega arith) (λ i h. no_table n table ((alts-only stands).only i table h) refl) A.part A.zeroed p4 in
      let C = count-stage cs (known ins ∷ known D ∷ MA) cl (entries (here + 2) q) (here + 2) z base ws o4 o5 to x y slots more B (omega arith) (w5 ∙ ap (λ (i : ℕ). puts o4 to (i ∷ [])) (cut_small k (omega arith) ∙ is-k)) in
      let cq = alts-closed stands in
      let e2 : length ws + 2 ≡ here + 2 = ap (λ (i : ℕ). i + 2) l in
      let H = heads-places (here + 2) q cq ∙ (ap (λ (i : ℕ). places head i MA) (sym e2) ∙ sym (row-places head (length ws) ins D cl MA)) in
      let E = ends-places (here + 2) q cq ∙ (ap (λ (i : ℕ). places end i MA) (sym e2) ∙ sym (row-places end (length ws) ins D cl MA)) in
      let rl = row-length (here + 2) q in
      let sa = length-marks_alts q in
      let T = table-stage cs M (entries (here + 2) q) (here + 2) z base ws o5 o6 (table_words 1 q) (to + 1 + 2 * k) x y slots more C H E (omega arith) (omega arith) (omega arith) (omega arith) (row-table (here + 2) 1 (to + 1 + 2 * k) q (omega arith)) t6 in
      let tl = length-table_words 1 q in
      let ll : length (shut M ++ knowns (table_words 1 q)) ≡ 3 + length MA + 2 * cl = omega (arith, length-append (shut M) (knowns (table_words 1 q)), length-filled head (λ k. 1) M, length-knowns (table_words 1 q)) in
      let O = other-stage T g7 (omega arith) (omega arith) (omega arith) in
      subst (λ (i : List Mark). Ending i (places end (length ws) M) z base ws o7 x w slots last) (body-shape ins D cl MA (marks_other o vs) (table_words 1 q)) O

  pub body-emits : Emitted (known ins ∷ known (size_alts q + 1) ∷ close end (shut (marks_alts q) ++ (known (count_labels q) ∷ (knowns (table_words 1 q) ++ marks_other o vs)))) o1 new here x w slots last
  unfolding number
  body-emits = record {
    grow = λ base ws a l b c. (
        let MA = marks_alts q in
        let X = shut MA ++ (known (count_labels q) ∷ (knowns (table_words 1 q) ++ marks_other o vs)) in
        let lx : length X ≡ length MA + (1 + (2 * count_labels q + length (marks_other o vs))) =
        omega (arith, length-append (shut MA) (known (count_labels q) ∷ (knowns (table_words 1 q) ++ marks_other o vs)), length-filled head (λ k. 1) MA, length-append (knowns (table_words 1 q)) (marks_other o vs), length-knowns (table_words 1 q), length-table_words 1 q) in
        let lc = length-filled end (λ k. k + 1) X in
        let E = body-ending base ws a l (omega arith) (omega arith) in
        let P = row-places end (length ws) ins (length MA + 1) (count_labels q) MA ∙ sym (last-places (length ws) ins (length MA + 1) (count_labels q) MA (marks_other o vs) (table_words 1 q) (λ i. other-closed ended end (omega arith) (omega arith) i vs)) in
        let R = end-stage (known ins ∷ known (length MA + 1) ∷ X) _ z base ws o7 new fin x w slots last E P (omega arith) (omega arith) (omega arith) p8 in
        subst (λ (i : ℕ). Extended (known ins ∷ known (i + 1) ∷ close end X) base ws new x w slots last) (length-marks_alts q) (subst (λ (i : List Mark). Extended i base ws new x w slots last) (close-body ins (length MA + 1) X) R));
  }

other-same : (o : Other) (s : Selector) (u d : ℕ) (q : Alts) → NeedsLabel s o q → (Labelled q → u ≡ first_label q) → marks_other o (absent_words s u d) ≡ marks_other o (absent_words s (first_label q) d)
unfolding marks_other absent_words NeedsLabel
other-same absent by_token u d q n h = ap (λ (i : ℕ). knowns (3 ∷ i ∷ 2 ∷ d ∷ [])) (h n)
other-same absent (by_rule r) u d q n h = refl
other-same absent (by_operation op) u d q n h = refl
other-same absent (by_operation_with op v) u d q n h = refl
other-same (otherwise b) s u d q n h = refl

pub choice-join : (cs : List ℕ) (p : ℕ) (old o1 o2 o3 o4 o5 o6 o7 new : List ℕ) (at x : ℕ) (slots s1 s2 s3 : List ℕ) (first here ins v : ℕ) (r : Row) (p' at' x' : ℕ) → chooses (get_or cs p 0) ≡ 1 → length s1 ≡ length slots → length s2 ≡ length slots
    → ItemDone cs (sel_at cs slots p) p at old o1 first here → s1 ≡ called_at cs p 11 slots (at + 1) → ins ≡ ins_of (get_or cs p 0) → v ≡ get_or cs (first + 1) 0 → o2 ≡ puts o1 here (ins ∷ 0 ∷ []) → AltsDone cs first o2 o3 (here + 2) x s1 s2 r
    → PatchDone o3 o4 (here + 1) r.at 1 → o5 ≡ puts o4 r.at (cut r.labels ∷ []) → TableDone cs o5 o6 r.end (here + 2) (r.at + 1 + 2 * r.labels)
    → OtherDone cs r.p o6 o7 (r.at + 1 + 2 * r.labels) r.exit v (here + 2) s2 s3 p' at' x' → PatchDone o7 new r.end at' 1 → ActDone cs p old new at x slots s3 p' at' x'
unfolding ActDone AltsDone OtherDone marks
choice-join cs p old o1 o2 o3 o4 o5 o6 o7 new at x slots s1 s2 s3 first here ins v r p' at' x' t m1 m2 sd c1 ii vv w2 ad p4 w5 td od p8 n a e most h =
    let c = choice-of h t in
    let S = sel-done cs p old o1 at x slots s1 first here n c.s c.f most c.sel sd c1 in
    let A : IsAlts cs n first c.g c.q = subst (λ (j : ℕ). IsAlts cs n j c.g c.q) (sym S.next) c.alts in
    let R = ad n c.s c.q c.o c.g e (omega arith) (omega arith) A c.ends in
    let O : IsOther cs n c.s r.p e c.o = subst (λ (j : ℕ). IsOther cs n c.s j e c.o) (sym R.next) c.ends in
    let W = od n c.s c.o e (omega arith) O in
    let dd = size_alts c.q + (1 + 2 * count_labels c.q + 3) in
    let la = length-marks_alts c.q in
    let dq : r.at + 1 + 2 * r.labels + 3 - (here + 2) ≡ dd = omega (arith, R.after, R.count) in
    let eo : marks_other c.o (absent_words c.s v (r.at + 1 + 2 * r.labels + 3 - (here + 2))) ≡ marks_other c.o (absent_words c.s (first_label c.q) dd) =
    ap (λ (j : ℕ). marks_other c.o (absent_words c.s v j)) dq ∙ other-same c.o c.s v dd c.q c.need (λ y. vv ∙ first-label A y) in
    let W2 = subst (λ (i : List Mark). Done i e o6 o7 (r.at + 1 + 2 * r.labels) r.exit s2 s3 p' at' x') eo W in
    let i1 : ins ≡ choice_number c.s = ii ∙ (selects slots c.sel).ins in
    let B = body-emits cs n c.s c.q c.o first c.g e (absent_words c.s (first_label c.q) dd) A c.ends (choice_number c.s) r.end r.labels here r.at at' x r.exit x' o1 o2 o3 o4 o5 o6 o7 new s1 s2 s3 (w2 ∙ ap (λ (i : ℕ). puts o1 here (i ∷ 0 ∷ [])) i1) R.emitted R.after p4 w5 R.count td W2.emitted W2.after p8 in
    let X = shut (marks_alts c.q) ++ (known (count_labels c.q) ∷ (knowns (table_words 1 c.q) ++ marks_other c.o (absent_words c.s (first_label c.q) dd))) in
    let lx : length X ≡ length (marks_alts c.q) + (1 + (2 * count_labels c.q + length (marks_other c.o (absent_words c.s (first_label c.q) dd)))) =
    omega (arith, length-append (shut (marks_alts c.q)) (known (count_labels c.q) ∷ (knowns (table_words 1 c.q) ++ marks_other c.o (absent_words c.s (first_label c.q) dd))), length-filled head (λ k. 1) (marks_alts c.q), length-append (knowns (table_words 1 c.q)) (marks_other c.o (absent_words c.s (first_label c.q) dd)), length-knowns (table_words 1 c.q), length-table_words 1 c.q) in
    let lc = length-filled end (λ k. k + 1) X in
    let la2 = length-append (selector_marks c.s) (known (choice_number c.s) ∷ known (size_alts c.q + 1) ∷ close end X) in
    subst (λ (i : Act). Done (marks i) e old new at x slots s3 p' at' x') (sym c.eq) (record { next = W.next; after = omega (arith, S.after, R.after, R.count, W2.after); emitted = emitted-join S.emitted B S.after })
