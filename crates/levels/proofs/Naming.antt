-- The first use of a pair: the walk finds it, and it is the one by which the pair stands among the text's.
use mathlib.Core.Bool.{Bool, true, false, ◌&&◌, ◌||◌}
use mathlib.Core.List.{List, [], ◌∷◌, ◌++◌, append_assoc}
use mathlib.Core.Option.{Option, none, some}
use mathlib.Core.Path.{◌≡◌, refl, sym, ap, ◌∙◌}
use Prim.Native.Nat.{ℕ, ◌+◌, ◌-◌, ◌<◌, ◌≤◌}
use native.Mathlib.Omega.{arith}
use borrow.Author.Tests.{eq-eqb, eqb-true}
use lib.Dec.{eqb}
use lib.ListN.{length}
use Rattle.base.proofs.Laws.{same-eq, same_refl}
use Rattle.base.specs.Bools.{never, and}
use Rattle.std.specs.Option.{option_eq}
use Rattle.std.specs.Prelude.{Option as Answer, Some, None, if◌then◌else◌}
use Rattle.base.specs.Common.{same}
use Rattle.declarations.specs.Decls.{Decl}
use Rattle.levels.specs.Naming.{is_of, first_use, behind_first, AllFirst, Names, WordOf, Found, FirstDone}
use Rattle.levels.specs.declared.FirstUse.{FirstUse}
use Rattle.levels.specs.declared.Part.{Part}
use Rattle.maker.proofs.Holding.{operand-is, never-none}
use Rattle.maker.proofs.Taking.{found-is}
use Rattle.maker.proofs.Walking.{same-pair, sign_of, word-long, marks-end, marks-last, marks-use, marks-other}
use Rattle.maker.specs.Marks.{use_of, marks}
use Rattle.maker.specs.Pairing.{UseRead, AllNamed}
use Rattle.maker.specs.Pairs.{section_row, operand_row, Ordered, AllOrdered}
use Rattle.maker.specs.declared.Used.{Used}
use Rattle.names.specs.Uses.{Use, rules_uses, same_pair, is_used, firsts, pairs_of}
use Rattle.scanner.specs.Next.{Next, as_word}
use Rattle.scanner.specs.declared.WordAt.{WordAt}
use Rattle.symbols.specs.Rows.{held}
use Rattle.syntax.specs.Written.{Rule}
use Rattle.words.specs.Words.{Word, words_at}

-- One word

pub word-no : {text rows : List ℕ} {n : ℕ} {w : WordAt} {s o : ℕ} → (w.kind ≡ 94 → ⊥) → WordOf text rows n w s o false
word-no k = record { other = λ _. refl; caret = λ e. absurd (k e) }

word-is : {text rows : List ℕ} {n : ℕ} (w : WordAt) {s o : ℕ} {u : Used} → w.kind ≡ 94 → UseRead text rows n w.next (Some u) → WordOf text rows n w s o (eqb u.section s && eqb u.operand o)
unfolding is_of
word-is {text} w {s} {o} k d = record {
  other = λ f. absurd (f k);
  caret = λ _ nm or. let f = found-is (d.finds (as_word text w) nm or) in rw (f.0, f.1) refl;
}

word-none : {text rows : List ℕ} {n : ℕ} (w : WordAt) {s o : ℕ} → w.kind ≡ 94 → UseRead text rows n w.next None → WordOf text rows n w s o false
word-none {text} w k d = record {
  other = λ _. refl;
  caret = λ _ nm or. absurd (never-none (d.finds (as_word text w) nm or).there);
}

-- the test of what was read
pub word-tested : {text rows : List ℕ} {n : ℕ} {w : WordAt} {s o : ℕ} {b : Bool} (q : Used → Used → Bool) {u : Answer Used} → w.kind ≡ 94 → UseRead text rows n w.next u
    → b ≡ option_eq q u (Some (record { section = s; operand = o })) → ((v : Used) → q v (record { section = s; operand = o }) ≡ (eqb v.section s && eqb v.operand o)) → WordOf text rows n w s o b
word-tested {text} {rows} {n} {w} {s} {o} {b} q {u} k d e f = rw e (go u d) where
  go : (u : Answer Used) → UseRead text rows n w.next u → WordOf text rows n w s o (option_eq q u (Some (record { section = s; operand = o })))
  go None d = word-none w k d
  go (Some v) d = rw (f v) (word-is w k d)

pub name-is : (text : List ℕ) (w : WordAt) {s c o : WordAt} {k : ℕ} → w.next ≤ length text → Next text w.next s → Next text s.next c → Next text c.next o → k ≡ o.start + o.len - w.start
    → (use_of (as_word text w) (words_at text w.next)).operand.kind ≡ 257 → Names (use_of (as_word text w) (words_at text w.next)) (record { start = w.start; len = k })
name-is text w {s} {c} {o} {k} h ns nc nq e nm =
    let q = operand-is text w.next ns nc nq (as_word text w) nm in
    let g = sign_of (as_word text w) (words_at text w.next) in
    let l = word-long text o.start o.len (nq.inside (nc.high (ns.high h))) in
    record {
      start = ap (λ (v : Word). v.start) (sym g);
      len = e ∙ (ap (λ (i : ℕ). o.start + i - w.start) l ∙ (ap (λ (v : Word). v.start + length v.text - w.start) (sym q) ∙ ap (λ (v : Word). (use_of (as_word text w) (words_at text w.next)).operand.start + length (use_of (as_word text w) (words_at text w.next)).operand.text - v.start) (sym g)));
    }

-- Lists of uses

module _ (ds : List Decl) (s o : ℕ) where
  pub first_one : (u : Use) (us : List Use) → is_of ds s o u ≡ true → first_use ds s o (u ∷ us) ≡ some u
  unfolding first_use
  first_one u us e = rw e refl

  behind-one : (u : Use) (us : List Use) → is_of ds s o u ≡ true → behind_first ds s o (u ∷ us) ≡ us
  unfolding behind_first
  behind-one u us e = rw e refl

  first-other : (u : Use) (us : List Use) → is_of ds s o u ≡ false → first_use ds s o (u ∷ us) ≡ first_use ds s o us
  unfolding first_use
  first-other u us e = rw e refl

  behind-other : (u : Use) (us : List Use) → is_of ds s o u ≡ false → behind_first ds s o (u ∷ us) ≡ behind_first ds s o us
  unfolding behind_first
  behind-other u us e = rw e refl

  pub named-behind : (us : List Use) → AllNamed us → AllNamed (behind_first ds s o us)
  unfolding AllNamed behind_first
  named-behind [] nm = tt
  named-behind (u ∷ us) nm = go (is_of ds s o u) (named-behind us nm.1)
    where
      go : (t : Bool) → AllNamed (behind_first ds s o us) → AllNamed (if t then us else behind_first ds s o us)
      go true f = nm.1
      go false f = f

  pub ordered-behind : (us : List Use) → AllOrdered ds us → AllOrdered ds (behind_first ds s o us)
  unfolding AllOrdered behind_first
  ordered-behind [] or = tt
  ordered-behind (u ∷ us) or = go (is_of ds s o u) (ordered-behind us or.1)
    where
      go : (t : Bool) → AllOrdered ds (behind_first ds s o us) → AllOrdered ds (if t then us else behind_first ds s o us)
      go true f = or.1
      go false f = f

-- The walk

first-none : {text rows : List ℕ} {n i s o : ℕ} {r : FirstUse} → marks (words_at text i) ≡ [] → i ≤ length text → r.next ≡ i → FirstDone text rows n i s o r
unfolding first_use
first-none {text} {rows} {n} {i} {s} {o} e l z = record { inside = omega (arith, l, z); found = λ nm or u q. absurd (none-some (ap (first_use (held text rows n) s o) (sym e) ∙ q)) }
  where
    none-some : {u : Use} → ◌≡◌ {A = Option Use} none (some u) → ⊥
    none-some q = let z : ◌≡◌ {A = ℕ} 0 1 = cc in omega (arith, z)

pub first-end : {text rows : List ℕ} {n i s o : ℕ} {w : WordAt} {r : FirstUse} → Next text i w → w.kind < 2 → i ≤ length text → r.next ≡ i → FirstDone text rows n i s o r
first-end h k = first-none (marks-end h k)

pub first-last : {text rows : List ℕ} {n i s o : ℕ} {w : WordAt} {r : FirstUse} → Next text i w → w.kind ≡ 266 → i ≤ length text → r.next ≡ i → FirstDone text rows n i s o r
first-last h k = first-none (marks-last h k)

-- the use that w begins
abbrev here : List ℕ → WordAt → Use
here text w = use_of (as_word text w) (words_at text w.next)

some_is : {u v : Use} → ◌≡◌ {A = Option Use} (some u) (some v) → u ≡ v
some_is q = cc

names-as : {u v : Use} {r : Part} → u ≡ v → Names u r → Names v r
names-as e f = rw (← e) f

-- what is promised where the uses are `all`
abbrev Finds : List ℕ → List ℕ → ℕ → ℕ → ℕ → FirstUse → List Use → Type 0
Finds text rows n s o r all = AllNamed all → AllOrdered (held text rows n) all → (u : Use) → first_use (held text rows n) s o all ≡ some u → Found text u (behind_first (held text rows n) s o all) r

module _ {text rows : List ℕ} {n i s o : ℕ} {w : WordAt} {b : Bool} (h : Next text i w) (d : WordOf text rows n w s o b) where
  abbrev ds : List Decl
  ds = held text rows n

  abbrev later : List Use
  later = marks (words_at text w.next)

  finds-here : {name : Part} → w.kind ≡ 94 → b ≡ true → ((here text w).operand.kind ≡ 257 → Names (here text w) name) → Finds text rows n s o (record { name = name; next = w.next }) (here text w ∷ later)
  unfolding AllNamed AllOrdered
  finds-here k t f nm or u q =
      let y : is_of ds s o (here text w) ≡ true = sym (d.caret k nm.0 or.0) ∙ t in
      record { names = names-as (some_is (sym (first_one ds s o (here text w) later y) ∙ q)) (f nm.0); behind = sym (behind-one ds s o (here text w) later y) }

  finds-later : {r : FirstUse} → w.kind ≡ 94 → b ≡ false → Finds text rows n s o r later → Finds text rows n s o r (here text w ∷ later)
  unfolding AllNamed AllOrdered
  finds-later {r} k t f nm or u q =
      let y : is_of ds s o (here text w) ≡ false = sym (d.caret k nm.0 or.0) ∙ t in
      let g = f nm.1 or.1 u (sym (first-other ds s o (here text w) later y) ∙ q) in
      record { names = g.names; behind = g.behind ∙ sym (behind-other ds s o (here text w) later y) }

  pub first-hit : {name : Part} → i ≤ length text → b ≡ true → ((here text w).operand.kind ≡ 257 → Names (here text w) name) → FirstDone text rows n i s o (record { name = name; next = w.next })
  first-hit {name} l t f = record { inside = h.high l; found = go (eqb w.kind 94) refl }
    where
      go : (x : Bool) → eqb w.kind 94 ≡ x → Finds text rows n s o (record { name = name; next = w.next }) (marks (words_at text i))
      go true e = let k = eqb-true w.kind 94 e in rw (marks-use h k) (finds-here k t f)
      go false e = never (sym (d.other (λ k. never (sym e ∙ eq-eqb w.kind 94 k))) ∙ t)

  pub first_next : {r : FirstUse} → 2 ≤ w.kind → (w.kind ≡ 266 → ⊥) → b ≡ false → FirstDone text rows n w.next s o r → FirstDone text rows n i s o r
  first_next {r} two l t f = record { inside = f.inside; found = go (eqb w.kind 94) refl }
    where
      go : (x : Bool) → eqb w.kind 94 ≡ x → Finds text rows n s o r (marks (words_at text i))
      go true e = let k = eqb-true w.kind 94 e in rw (marks-use h k) (finds-later k t f.found)
      go false e = rw (marks-other h two l (λ k. never (sym e ∙ eq-eqb w.kind 94 k))) f.found

-- The pairs of a text are known by their first uses

-- a use of the same pair is used as the other is
used-same : (u v : Use) (seen : List Use) → same_pair u v ≡ true → is_used u seen ≡ is_used v seen
unfolding same_pair is_used
used-same u v [] e = refl
used-same u v (x ∷ seen) e =
    let b = and (same u.section.text v.section.text) (same u.operand.text v.operand.text) e in
    let one : same_pair u x ≡ same_pair v x = rw (same-eq u.section.text v.section.text b.0, same-eq u.operand.text v.operand.text b.1) refl in
    ap (λ (t : Bool). t || is_used u seen) one ∙ ap (λ (t : Bool). same_pair v x || t) (used-same u v seen e)

is_same : {ds : List Decl} {u v : Use} → Ordered ds v → Ordered ds u → is_of ds (section_row ds v) (operand_row ds v) u ≡ same_pair v u
unfolding is_of
is_same a b = sym (same-pair a b)

-- no use of pre is of the pair
module _ (ds : List Decl) (s o : ℕ) where
  -- a use and the uses behind it are those that us have
  abbrev FirstIn : List Use → Option Use → List Use → Type 0
  FirstIn us u later = (u ≡ first_use ds s o us) × (later ≡ behind_first ds s o us)

  past : (pre us : List Use) → first_use ds s o pre ≡ none → FirstIn us (first_use ds s o (pre ++ us)) (behind_first ds s o (pre ++ us))
  unfolding first_use behind_first
  past [] us e = (refl, refl)
  past (u ∷ pre) us e = go (is_of ds s o u) e (past pre us)
    where
      go : (t : Bool) → (if t then some u else first_use ds s o pre) ≡ none → (first_use ds s o pre ≡ none → FirstIn us (first_use ds s o (pre ++ us)) (behind_first ds s o (pre ++ us)))
          → FirstIn us (if t then some u else first_use ds s o (pre ++ us)) (if t then pre ++ us else behind_first ds s o (pre ++ us))
      go true q f = let z : ◌≡◌ {A = ℕ} 0 1 = cc in absurd (omega (arith, z))
      go false q f = f q

  first-not : (pre : List Use) (u : Use) → first_use ds s o pre ≡ none → is_of ds s o u ≡ false → first_use ds s o (pre ++ (u ∷ [])) ≡ none
  unfolding first_use
  first-not pre u e f = (past pre (u ∷ []) e).0 ∙ rw f refl

-- no use of pre is of a pair that is not among those seen
abbrev Covered : List Decl → List Use → List Use → Type 0
Covered ds seen pre = (v : Use) → Ordered ds v → is_used v seen ≡ false → first_use ds (section_row ds v) (operand_row ds v) pre ≡ none

covered_none : (ds : List Decl) (seen : List Use) → Covered ds seen []
unfolding first_use
covered_none ds seen v a q = refl

self : (u : Use) → same_pair u u ≡ true
unfolding same_pair
self u = rw (same_refl u.section.text, same_refl u.operand.text) refl

-- the first uses of the pairs not seen; pre stands before the uses us, behind the first use that was seen last
all_first : (ds : List Decl) (pre us seen : List Use) → AllOrdered ds us → Covered ds seen pre → AllFirst ds (pre ++ us) (firsts seen us)
unfolding firsts AllFirst AllOrdered
all_first ds pre [] seen or c = tt
all_first ds pre (u ∷ us) seen or c = go (is_used u seen) refl (all_first ds (pre ++ (u ∷ [])) us seen or.1) (all_first ds [] us (u ∷ seen) or.1 (covered_none ds (u ∷ seen)))
  where
    whole : (pre ++ (u ∷ [])) ++ us ≡ pre ++ (u ∷ us)
    whole = append_assoc pre (u ∷ []) us

    go : (t : Bool) → is_used u seen ≡ t → (Covered ds seen (pre ++ (u ∷ [])) → AllFirst ds ((pre ++ (u ∷ [])) ++ us) (firsts seen us)) → AllFirst ds us (firsts (u ∷ seen) us)
        → AllFirst ds (pre ++ (u ∷ us)) (if t then firsts seen us else u ∷ firsts (u ∷ seen) us)
    go true e f g = rw whole at (f (λ v a q. first-not ds (section_row ds v) (operand_row ds v) pre u (c v a q) (is_same a or.0 ∙ not_same v (same_pair v u) refl q)))
      where
        not_same : (v : Use) (b : Bool) → same_pair v u ≡ b → is_used v seen ≡ false → b ≡ false
        not_same v false p q = refl
        not_same v true p q = never (sym q ∙ (used-same v u seen p ∙ e))
    go false e f g =
        let s : ℕ = section_row ds u in
        let o : ℕ = operand_row ds u in
        let own : is_of ds s o u ≡ true = is_same or.0 or.0 ∙ self u in
        let b = past ds s o pre (u ∷ us) (c u or.0 e) in
        (b.0 ∙ first_one ds s o u us own, rw (b.1 ∙ behind-one ds s o u us own) g)

pub pairs_first : (ds : List Decl) (rules : List Rule) → AllOrdered ds (rules_uses rules) → AllFirst ds (rules_uses rules) (pairs_of rules)
unfolding pairs_of
pairs_first ds rules or = all_first ds [] (rules_uses rules) [] or (covered_none ds [])
