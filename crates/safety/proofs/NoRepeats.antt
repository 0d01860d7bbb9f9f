-- No choice that can be reached in the table of an accepted program has a label twice, so that the two definitions of what can be reached are one there.
use mathlib.Core.Bool.{Bool, true, ◌&&◌, not}
use mathlib.Core.List.{List, [], ◌∷◌, ◌++◌, append-nil}
use mathlib.Core.Option.{some}
use mathlib.Core.Path.{◌≡◌, refl, sym, ap, ◌∙◌}
use Prim.Native.Nat.{ℕ, zero, suc, ◌+◌, ◌*◌, ◌<◌}
use native.Mathlib.Omega.{arith}
use lib.ListN.{length}
use Rattle.acceptance.proofs.Accepts.{understood-accepted, accepted-table}
use Rattle.acceptance.proofs.Distinct.{understood-distinct}
use Rattle.acceptance.specs.Answers.{TableOf}
use Rattle.agreement.proofs.Lay.{Entry, entries, Entries, entries-nil, entries-cons, LayAlts, alts-nil, alts-cons}
use Rattle.base.specs.Bools.{and, not_both}
use Rattle.base.specs.Common.{member}
use Rattle.base.specs.Tree.{choice, ◌▸◌, otherwise}
use Rattle.figure.proofs.Spots.{as-rule}
use Rattle.figure.specs.Promise.{RuleStart, rule_start}
use Rattle.loading.proofs.Members.{member-here, member-tail}
use Rattle.loading.specs.Reach.{by_token, by_result}
use Rattle.machine.specs.Decode.{fetch}
use Rattle.program.proofs.Places.{place-first}
use Rattle.program.specs.Accepted.{Accepted}
use Rattle.program.specs.Labels.{once, labels_in, distinct, distinct_all, distinct_some, distinct_other, distinct_labels}
use Rattle.program.specs.Program.{Selector, Acts, Alts, Other, Rule, rule_of, body_of}
use Rattle.program.specs.Table.{place, table}
use Rattle.safety.specs.Reached.{Begun, first, called, NoRepeats, OneReach, TextRepeatsNot, TableReach, BegunRules}
use Rattle.safety.proofs.Reached.{reached-alike}
use Rattle.safety.proofs.Written.{Has, has-rule, has_rest, has-cycle, has-alternative, has-otherwise, HasAlts, has-choice, has-later, TableAt, table_at, Refers, program-refers, written-taken}

-- What all rules have, each part of them has

rule-distinct : (prog : List Rule) → distinct_labels prog ≡ true → (r : ℕ) → r < length prog → distinct_all (body_of prog r) ≡ true
unfolding distinct_labels rule_of body_of
rule-distinct [] h r l = absurd (omega arith)
rule-distinct (b ∷ bs) h zero l = (and (distinct_all b.body) (distinct_labels bs) h).0
rule-distinct (b ∷ bs) h (suc r) l = rule-distinct bs (and (distinct_all b.body) (distinct_labels bs) h).1 r (omega arith)

-- of a choice: its labels, its alternatives, its otherwise
record Choice (q : Alts) (o : Other) : Type 0 where
  labels : once (labels_in q) ≡ true
  some_of : distinct_some q ≡ true
  other : distinct_other o ≡ true

choice-distinct : (s : Selector) (q : Alts) (o : Other) (r : Acts) → distinct_all (choice s q o ▸ r) ≡ true → Choice q o
unfolding distinct
choice-distinct s q o r h =
    let x = and (once (labels_in q) && distinct_some q) (distinct_other o) (and (distinct (choice s q o)) (distinct_all r) h).0 in
    let y = and (once (labels_in q)) (distinct_some q) x.0 in
    record { labels = y.0; some_of = y.1; other = x.1 }

module _ (prog : List Rule) (h : distinct_labels prog ≡ true) where
  mutual
    unfolding distinct

    has-distinct : {q : Acts} → Has prog q → distinct_all q ≡ true
    has-distinct (has-rule r l e) = rw e (rule-distinct prog h r l)
    has-distinct (has_rest {a = a} {q = q} z) = (and (distinct a) (distinct_all q) (has-distinct z)).1
    has-distinct (has-cycle {b = b} {q = q} z) = (and (distinct_all b) (distinct_all q) (has-distinct z)).0
    has-distinct (has-alternative {b = b} {q = q} z) = (and (distinct_all b) (distinct_some q) (alts-distinct z)).0
    has-distinct (has-otherwise {s = s} {q = q} {b = b} {r = r} z) = (choice-distinct s q (otherwise b) r (has-distinct z)).other

    alts-distinct : {q : Alts} → HasAlts prog q → distinct_some q ≡ true
    alts-distinct (has-choice {s = s} {q = q} {o = o} {r = r} z) = (choice-distinct s q o r (has-distinct z)).some_of
    alts-distinct (has-later {b = b} {q = q} z) = (and (distinct_all b) (distinct_some q) (alts-distinct z)).1

-- Choice tables

-- the labels of entries
unfoldable heads : List Entry → List ℕ
heads [] = []
heads (p ∷ ps) = p.0 ∷ heads ps

heads-entries : (ls : List ℕ) (l : ℕ) (ps : List Entry) → heads (entries ls l ps) ≡ ls ++ heads ps
unfolding heads entries
heads-entries [] l ps = refl
heads-entries (v ∷ ls) l ps = ap (λ (vs : List ℕ). v ∷ vs) (heads-entries ls l ps)

module _ (T : List ℕ) where
  labels-are : {start : ℕ → ℕ} {prog : List Rule} {v : Bool} {q : Alts} {x y l : ℕ} {ps : List Entry} → LayAlts T start prog v q x y l ps → heads ps ≡ labels_in q
  unfolding heads labels_in
  labels-are alts-nil = refl
  labels-are (alts-cons {ls = ls} {l = l} {ps = ps} h d t) = heads-entries ls l ps ∙ ap (λ (vs : List ℕ). ls ++ vs) (labels-are t)

  entry-label : {l : ℕ} {ps : List Entry} → Entries T l ps → (j v : ℕ) → j < length ps → fetch T (l + 2 * j) ≡ some v → member v (heads ps) ≡ true
  unfolding heads
  entry-label entries-nil j v k e = absurd (omega arith)
  entry-label {l} (entries-cons {v = u} {ps = ps} w f d t) zero v k e =
      let z : l + 2 * 0 ≡ l = omega arith in
      let q : fetch T l ≡ some v = rw z at e in
      let x : v ≡ u = cc in
      member-here v u (heads ps) x
  entry-label {l} (entries-cons {v = u} {ps = ps} w f d t) (suc j) v k e =
      let z : l + 2 * suc j ≡ l + 2 + 2 * j = omega arith in
      member-tail v u (heads ps) (entry-label t j v (omega arith) (rw z at e))

  entries-once : {l : ℕ} {ps : List Entry} → Entries T l ps → once (heads ps) ≡ true → (i j : ℕ) → i < j → j < length ps → fetch T (l + 2 * i) ≡ fetch T (l + 2 * j) → ⊥
  unfolding heads once
  entries-once entries-nil o i j h k e = omega arith
  entries-once (entries-cons w f d t) o i zero h k e = omega arith
  entries-once {l} (entries-cons {v = u} {ps = ps} w f d t) o zero (suc j) h k e =
      let z : l + 2 * 0 ≡ l = omega arith in
      let y : l + 2 * suc j ≡ l + 2 + 2 * j = omega arith in
      let q : fetch T l ≡ fetch T (l + 2 + 2 * j) = rw (z, y) at e in
      not_both (member u (heads ps)) (and (not (member u (heads ps))) (once (heads ps)) o).0 (entry-label t j u (omega arith) (sym q ∙ w))
  entries-once {l} (entries-cons {v = u} {ps = ps} w f d t) o (suc i) (suc j) h k e =
      let z : l + 2 * suc i ≡ l + 2 + 2 * i = omega arith in
      let y : l + 2 * suc j ≡ l + 2 + 2 * j = omega arith in
      entries-once t (and (not (member u (heads ps))) (once (heads ps)) o).1 i j (omega arith) (omega arith) (rw (z, y) at e)

module _ (prog : List Rule) (more : List ℕ) (a : Accepted prog) where
  abbrev Words : List ℕ
  Words = table prog ++ more

  table-once : (c n i j : ℕ) → distinct_labels prog ≡ true → TableAt Words (place 1 prog) prog c → fetch Words c ≡ some n → i < j → j < n
      → fetch Words (c + 2 * i + 1) ≡ fetch Words (c + 2 * j + 1) → ⊥
  table-once c n i j dl (table_at {s = s} {q = q} {o = o} {r = r} {ps = ps} z t la) e h k f =
      let len : n ≡ length ps = cc t.count in
      let x : c + 2 * i + 1 ≡ c + 1 + 2 * i = omega arith in
      let y : c + 2 * j + 1 ≡ c + 1 + 2 * j = omega arith in
      entries-once Words t.all (rw (labels-are Words la) (choice-distinct s q o r (has-distinct prog dl z)).labels) i j h (rw len at k) (rw (x, y) at f)

  program-once : distinct_labels prog ≡ true → NoRepeats Words
  unfolding Refers
  program-once dl l c n i j r (by_token d e t) = table-once c n i j dl (rw d at (program-refers prog more a r)) e
  program-once dl l c n i j r (by_result d e t) = table-once c n i j dl (rw d at (program-refers prog more a r)) e

  program-begun : {s : ℕ} → Begun Words s → RuleStart prog s
  unfolding Refers
  program-begun first = rule_start 0 a.some_rule (sym (place-first 1 prog))
  program-begun (called r d) = as-rule (rw d at (program-refers prog more a r))

-- The theorems

pub text-repeats-not : TextRepeatsNot
text-repeats-not text prog more e = program-once prog more (understood-accepted text prog e) (understood-distinct text prog e)

pub begun-rules : BegunRules
begun-rules text prog more e s b = program-begun prog more (understood-accepted text prog e) b

pub table-reach : TableReach
table-reach text room words verdict e =
    let t : TableOf text room words verdict = accepted-table text room words verdict e in
    let no-two : NoRepeats words = rw t.words_are (rw (append-nil (table t.prog)) at (text-repeats-not text t.prog [] t.means)) in
    let tied : OneReach words = reached-alike words (written-taken text room words verdict e) in
    record { all_these = tied.all_these no-two; only_these = tied.only_these }
