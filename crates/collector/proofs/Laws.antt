-- Laws for the proofs of the code: what is read, part by part.
use mathlib.Core.Bool.{Bool, true, false}
use mathlib.Core.List.{List, [], ◌∷◌}
use mathlib.Core.Option.{Option, none, some}
use mathlib.Core.Path.{◌≡◌, refl, sym, ap, ◌∙◌}
use Prim.Native.Nat.{ℕ, suc, ◌+◌, ◌≤◌, ◌<◌, max}
use native.Mathlib.Omega.{arith}
use lib.Dec.{leb}
use lib.ListN.{length, take, drop}
use borrow.Author.Tests.{ne_eqb, leb-true, leb-false}
use Rattle.std.specs.Prelude.{Option as Maybe, Some, None, is_some}
use Rattle.base.specs.Common.{given}
use Rattle.collector.proofs.Rows.{appends-then}
use Rattle.collector.proofs.Words.{next-kind, not-kind, option-none, option-some, took-at, took-kind, took-past, took-rest, took-word}
use Rattle.collector.specs.Collecting.{AHead, ARule, AnEntry, AnOperation, Appends, Counts, Goes, HeadRead, LineIn, a_line, LinesIn, last_line, more_lines, Puts, Reads, Room, Skips, SomeEntries, SomeOperations, SomeRules, decl_in, in_text, option_in, part_of, written}
use Rattle.collector.specs.declared.Entered.{Entered}
use Rattle.collector.specs.declared.Entries.{Entries}
use Rattle.collector.specs.declared.Head.{Head}
use Rattle.collector.specs.declared.Operated.{Operated}
use Rattle.collector.specs.declared.Part.{Part}
use Rattle.collector.specs.declared.Row.{Row}
use Rattle.collector.specs.declared.Spot.{Spot}
use Rattle.collector.specs.declared.Valued.{Valued}
use Rattle.declarations.specs.Decls.{Decl, entry_decls, of_entry, of_operation, of_rule, operation_decls, rule_decls}
use Rattle.grammar.specs.Derived.{Took, Not, kind_of, SpellingIn, no_strings, no_spelling, one_spelling, CountIn, a_numeral, counted, EntryIn, one_entry, EntriesIn, last_entry, more_entries, GivesIn, gives_none, gives_some, TakesIn, takes_none, takes_some, OperationIn, one_operation, OperationsIn, last_operation, more_operations, ListedIn, listed_in}
use Rattle.reader.proofs.SectionLaws.{adds_one, adds_then, count-is, kinds-then}
use Rattle.reader.specs.Answers.{Here}
use Rattle.reader.specs.Counting.{Adds, Kinds, NumberOf, count_of, one_more}
use Rattle.reader.specs.declared.Seen.{Seen}
use Rattle.scanner.specs.declared.WordAt.{WordAt}
use Rattle.symbols.specs.Rows.{second_kind, word_of}
use Rattle.syntax.specs.Reading.{peek}
use Rattle.syntax.specs.Sections.{first_of, instructions, next_of, of_kind}
use Rattle.syntax.specs.Written.{Entry, Operation, Rule}
use Rattle.words.specs.Words.{Word, value, words_at}

-- Words that may be there

abbrev Is : List ℕ → ℕ → Maybe Part × ℕ → List Word → Option Word → Type 0
Is text kind r ws' o = (given o ≡ is_some r.0) × (o ≡ option_in text kind r.0) × (ws' ≡ words_at text r.1)

reads-by : {F : List Word → Option Word → Type 0} {text : List ℕ} {at kind : ℕ} {r : Maybe Part × ℕ} → at ≤ r.1 → r.1 ≤ length text → in_text text (written r.0)
    → ((ws' : List Word) (o : Option Word) → F ws' o → Is text kind r ws' o) → Reads F text at kind r
reads-by l h i f = record { low = l; high = h; inside = i; there = λ ws' o t. (f ws' o t).0; word = λ ws' o t. (f ws' o t).1; rest = λ ws' o t. (f ws' o t).2 }

is_word : {text : List ℕ} {at k : ℕ} {w : WordAt} {v : Word} {ws' : List Word} → 2 ≤ k → Here text at w → Took k (words_at text at) v ws'
    → Is text k (Some (part_of w), w.next) ws' (some v)
is_word {text} {w = w} h n t = (refl, option-some (Some (part_of w)) n h t refl refl, took-rest n h t)

is_none : (text : List ℕ) (at k : ℕ) {ws' : List Word} → ws' ≡ words_at text at → Is text k (None, at) ws' none
is_none text at k f = (refl, option-none text k None refl, f)

pub spelling-there : {text : List ℕ} {at : ℕ} (strings : Bool) {w : WordAt} → strings ≡ true → Here text at w → w.kind ≡ 259
    → Reads (SpellingIn strings (words_at text at)) text at 259 (Some (part_of w), w.next)
spelling-there {text} {at} strings {w} s n k = reads-by n.onto n.high n.inside go where
  go : (ws' : List Word) (o : Option Word) → SpellingIn strings (words_at text at) ws' o → Is text 259 (Some (part_of w), w.next) ws' o
  go ws' none (no_strings f g) = let z : ◌≡◌ {A = ℕ} 0 1 = cc in absurd (omega arith)
  go ws' none (no_spelling f m g) = absurd (not-kind 259 n m k)
  go ws' (some v) (one_spelling f t) = is_word (omega arith) n t

pub spelling-none : {text : List ℕ} {at : ℕ} (strings : Bool) {w : WordAt} → at ≤ length text → Here text at w → (w.kind ≡ 259 → ⊥)
    → Reads (SpellingIn strings (words_at text at)) text at 259 (None, at)
spelling-none {text} {at} strings {w} l n k = reads-by (omega arith) l (omega arith) go where
  go : (ws' : List Word) (o : Option Word) → SpellingIn strings (words_at text at) ws' o → Is text 259 (None, at) ws' o
  go ws' none (no_strings f g) = is_none text at 259 g
  go ws' none (no_spelling f m g) = is_none text at 259 g
  go ws' (some v) (one_spelling f t) = absurd (k (took-kind n t))

pub spelling-never : {text : List ℕ} {at : ℕ} (strings : Bool) → at ≤ length text → strings ≡ false
    → Reads (SpellingIn strings (words_at text at)) text at 259 (None, at)
spelling-never {text} {at} strings l s = reads-by (omega arith) l (omega arith) go where
  go : (ws' : List Word) (o : Option Word) → SpellingIn strings (words_at text at) ws' o → Is text 259 (None, at) ws' o
  go ws' none (no_strings f g) = is_none text at 259 g
  go ws' none (no_spelling f m g) = let z : ◌≡◌ {A = ℕ} 0 1 = cc in absurd (omega arith)
  go ws' (some v) (one_spelling f t) = let z : ◌≡◌ {A = ℕ} 0 1 = cc in absurd (omega arith)

pub gives-there : {text : List ℕ} {at : ℕ} {w t : WordAt} → Here text at w → w.kind ≡ 256 → Here text w.next t
    → Reads (GivesIn (words_at text at)) text at 257 (Some (part_of t), t.next)
gives-there {text} {at} {w} {t} n k m = reads-by (omega (arith, n.onto, m.onto)) m.high m.inside go where
  go : (ws' : List Word) (o : Option Word) → GivesIn (words_at text at) ws' o → Is text 257 (Some (part_of t), t.next) ws' o
  go ws' none (gives_none x g) = absurd (not-kind 256 n x k)
  go ws' (some v) (gives_some a b) = is_word (omega arith) m (took-at (took-rest n (omega arith) a) b)

pub gives-not : {text : List ℕ} {at : ℕ} {w : WordAt} → at ≤ length text → Here text at w → (w.kind ≡ 256 → ⊥)
    → Reads (GivesIn (words_at text at)) text at 257 (None, at)
gives-not {text} {at} {w} l n k = reads-by (omega arith) l (omega arith) go where
  go : (ws' : List Word) (o : Option Word) → GivesIn (words_at text at) ws' o → Is text 257 (None, at) ws' o
  go ws' none (gives_none x g) = is_none text at 257 g
  go ws' (some v) (gives_some a b) = absurd (k (took-kind n a))

pub takes-there : {text : List ℕ} {at : ℕ} {w t c : WordAt} → Here text at w → w.kind ≡ 40 → Here text w.next t → Here text t.next c
    → Reads (TakesIn (words_at text at)) text at 257 (Some (part_of t), c.next)
takes-there {text} {at} {w} {t} {c} n k m q = reads-by (omega (arith, n.onto, m.onto, q.onto)) q.high m.inside go where
  go : (ws' : List Word) (o : Option Word) → TakesIn (words_at text at) ws' o → Is text 257 (Some (part_of t), c.next) ws' o
  go ws' none (takes_none x g) = absurd (not-kind 40 n x k)
  go ws' (some v) (takes_some a b d) =
      let b' = took-at (took-rest n (omega arith) a) b in
      (refl, option-some (Some (part_of t)) m (omega arith) b' refl refl, took-rest q (omega arith) (took-at (took-rest m (omega arith) b') d))

pub takes-not : {text : List ℕ} {at : ℕ} {w : WordAt} → at ≤ length text → Here text at w → (w.kind ≡ 40 → ⊥)
    → Reads (TakesIn (words_at text at)) text at 257 (None, at)
takes-not {text} {at} {w} l n k = reads-by (omega arith) l (omega arith) go where
  go : (ws' : List Word) (o : Option Word) → TakesIn (words_at text at) ws' o → Is text 257 (None, at) ws' o
  go ws' none (takes_none x g) = is_none text at 257 g
  go ws' (some v) (takes_some a b d) = absurd (k (took-kind n a))

-- Values

counts-by : {text : List ℕ} {at v : ℕ} {r : Valued} → at ≤ r.at → r.at ≤ length text → r.value ≤ 65535
    → ((ws' : List Word) (n : ℕ) → CountIn v (words_at text at) ws' n → (n ≡ r.value) × (ws' ≡ words_at text r.at)) → Counts text at v r
counts-by l h s f = record { low = l; high = h; small = s; value = λ ws' n t. (f ws' n t).0; rest = λ ws' n t. (f ws' n t).1 }

not-past : {x : ℕ} → (65535 < x → ⊥) → x ≤ 65535
not-past {x} f = choose (leb x 65535) refl where
  choose : (b : Bool) → leb x 65535 ≡ b → x ≤ 65535
  choose true e = leb-true x 65535 e
  choose false e = absurd (f (leb-false x 65535 e))

-- c is x, where that is at most 65,535
pub count_set : {text : List ℕ} {at v : ℕ} {w d : WordAt} (x c : ℕ) → Here text at w → w.kind ≡ 61 → Here text w.next d
    → NumberOf (take d.len (drop d.start text)) x → c ≤ 65535 → (x ≤ 65535 → c ≡ x) → Counts text at v (record { value = c; at = d.next })
count_set {text} {at} {v} {w} {d} x c n k m e s f = counts-by (omega (arith, n.onto, m.onto)) m.high s go where
  number : (b : Word) (i : ℕ) → b ≡ word_of text 258 d.start d.len → i ≡ value 0 b.text → i ≤ 65535 → i ≡ c
  number b i p q h =
      let y : i ≡ value 0 (take d.len (drop d.start text)) = q ∙ ap (λ (z : Word). value 0 z.text) p in
      let z : x ≤ 65535 = not-past (λ g. omega (arith, e.past g)) in
      y ∙ e.exact z ∙ sym (f z)

  go : (ws' : List Word) (i : ℕ) → CountIn v (words_at text at) ws' i → (i ≡ c) × (ws' ≡ words_at text d.next)
  go ws' i (a_numeral a b q h) =
      let b' = took-at (took-rest n (omega arith) a) b in
      (number _ i (took-word m b') q h, took-rest m (omega arith) b')
  go ws' i (counted x g y h) = absurd (not-kind 61 n x k)

pub count-on : {text : List ℕ} {at v : ℕ} {w : WordAt} (c : ℕ) → at ≤ length text → Here text at w → (w.kind ≡ 61 → ⊥)
    → c ≤ 65535 → (v ≤ 65535 → c ≡ v) → Counts text at v (record { value = c; at = at })
count-on {text} {at} {v} {w} c l n k s f = counts-by (omega arith) l s go where
  go : (ws' : List Word) (i : ℕ) → CountIn v (words_at text at) ws' i → (i ≡ c) × (ws' ≡ words_at text at)
  go ws' i (a_numeral a b q h) = absurd (k (took-kind n a))
  go ws' i (counted x g y h) = (y ∙ sym (f (omega arith)), g)

-- Rows as declarations

made : {a b : ℕ} {c d : ℕ} {v w : Word} {o p q r : Option Word} → a ≡ b → c ≡ d → v ≡ w → o ≡ p → q ≡ r
    → ◌≡◌ {A = Decl} (record { class = a; value = c; name = v; second = o; third = q }) (record { class = b; value = d; name = w; second = p; third = r })
made e f g h i = rw (e, f, g, h, i)

pub decl-is : (text : List ℕ) (d : Row) (x : Decl) → x.class ≡ d.class → x.value ≡ d.value → x.name ≡ word_of text 257 d.name.start d.name.len
    → x.second ≡ option_in text (second_kind d.class) d.second → x.third ≡ option_in text 257 d.third → decl_in text d ≡ x
unfolding decl_in
decl-is text d x e f g h i = sym (made e f g h i)

second-string : (c : ℕ) → (c ≡ 6 → ⊥) → second_kind c ≡ 259
unfolding second_kind
second-string c e = rw (ne_eqb c 6 e)

second-name : second_kind 6 ≡ 257
unfolding second_kind
second-name = refl

-- the row of the declaration x was appended
pub appended : {rows rows' : List ℕ} {n n' : ℕ} {d : Row} (text : List ℕ) (x : Decl) → Puts rows rows' n n' d → decl_in text d ≡ x → Room rows n 1 → Appends text rows rows' n n' (x ∷ [])
appended text x p e r = rw e at (p.puts text r)

-- Entries

abbrev entry_row : ℕ → ℕ → WordAt → Maybe Part → Row
entry_row class v w second = record { class = class; value = v; name = part_of w; second = second; third = None }

pub entry_read : {text rows rows' : List ℕ} {at count class v c : ℕ} {strings : Bool} {w : WordAt} {s : Maybe Part × ℕ} {n : Valued} → (class ≡ 6 → ⊥)
    → Here text at w → Reads (SpellingIn strings (words_at text w.next)) text w.next 259 s → Counts text s.1 v n → Puts rows rows' count c (entry_row class n.value w s.0)
    → AnEntry text rows rows' at count class strings v (record { at = n.at; count = c; value = n.value })
entry_read {text} {rows} {rows'} {at} {count} {class} {v} {c} {strings} {w} {s} {n} z h f g p = record {
  bounds = record { low = omega (arith, h.onto, f.low, g.low); high = g.high; more = p.more; small = p.small };
  small = g.small;
  value = values;
  goes = going;
  appends = added;
} where
  count-here : {ws₁ ws₂ ws' : List Word} {v' : Word} {o : Option Word} {i : ℕ} → Took 257 (words_at text at) v' ws₁ → SpellingIn strings ws₁ ws₂ o → CountIn v ws₂ ws' i → CountIn v (words_at text s.1) ws' i
  count-here {ws₁} {ws₂} t u q =
      let u' : SpellingIn strings (words_at text w.next) ws₂ _ = rw (took-rest h (omega arith) t) at u in
      rw (f.rest _ _ u') at q

  spelt-here : {ws₁ ws₂ : List Word} {v' : Word} {o : Option Word} → Took 257 (words_at text at) v' ws₁ → SpellingIn strings ws₁ ws₂ o → o ≡ option_in text 259 s.0
  spelt-here {ws₁} {ws₂} {o = o} t u = f.word ws₂ o (rw (took-rest h (omega arith) t) at u)

  values : (ws' : List Word) (e : Entry) → EntryIn strings v (words_at text at) ws' e → e.value ≡ n.value
  values ws' e (one_entry t u q) = g.value ws' e.value (count-here t u q)

  going : (ws' : List Word) (e : Entry) → EntryIn strings v (words_at text at) ws' e → Goes text at n.at ws'
  going ws' e (one_entry t u q) = record { past = omega (arith, took-past h (omega arith) t, f.low, g.low); rest = g.rest ws' e.value (count-here t u q) }

  added : (ws' : List Word) (e : Entry) → EntryIn strings v (words_at text at) ws' e → Room rows count 1 → Appends text rows rows' count c (of_entry class e ∷ [])
  added ws' e (one_entry t u q) r =
      appended text (of_entry class e) p
      (decl-is text (entry_row class n.value w s.0) (of_entry class e) refl (g.value ws' e.value (count-here t u q)) (took-word h t)
      (spelt-here t u ∙ ap (λ (k : ℕ). option_in text k s.0) (sym (second-string class z))) (option-none text 257 None refl)) r

-- an entry, then the semicolon
pub entries-last : {text rows rows' : List ℕ} {i n class v top t : ℕ} {strings : Bool} {e : Entered} {w : WordAt}
    → AnEntry text rows rows' i n class strings v e → Here text e.at w → w.kind ≡ 59 → t ≡ max top (e.value + 1)
    → SomeEntries (EntriesIn strings v (words_at text i)) text rows rows' i n class top (record { at = w.next; count = e.count; top = t })
unfolding next_of entry_decls
entries-last {text} {rows} {rows'} {i} {n} {class} {v} {top} {t} {strings} {e} {w} a h k f = record {
  bounds = record { low = omega (arith, a.bounds.low, h.onto); high = h.high; more = a.bounds.more; small = a.bounds.small };
  most = most;
  goes = going;
  appends = added;
} where
  more-not : {ws₁ : List Word} {x : Entry} → EntryIn strings v (words_at text i) ws₁ x → Not 59 ws₁ → ⊥
  more-not {ws₁} {x} q m = not-kind 59 h (rw (a.goes ws₁ x q).rest at m) k

  most : (ws' : List Word) (es : List Entry) → EntriesIn strings v (words_at text i) ws' es → t ≡ next_of top es
  most ws' (x ∷ []) (last_entry q s) = omega (arith, a.value _ x q)
  most ws' (x ∷ es) (more_entries q m l) = absurd (more-not q m)
  most ws' [] x' = elim x' [ ]

  going : (ws' : List Word) (es : List Entry) → EntriesIn strings v (words_at text i) ws' es → Goes text i w.next ws'
  going ws' (x ∷ []) (last_entry q s) = record {
    past = omega (arith, (a.goes _ x q).past, h.onto);
    rest = took-rest h (omega arith) (took-at (a.goes _ x q).rest s);
  }
  going ws' (x ∷ es) (more_entries q m l) = absurd (more-not q m)
  going ws' [] x' = elim x' [ ]

  added : (ws' : List Word) (es : List Entry) → EntriesIn strings v (words_at text i) ws' es → Room rows n (length es) → Appends text rows rows' n e.count (entry_decls class es)
  added ws' (x ∷ []) (last_entry q s) r = a.appends _ x q r
  added ws' (x ∷ es) (more_entries q m l) r = absurd (more-not q m)
  added ws' [] x'' r = elim x'' [ ]

-- an entry, then others
pub entries-more : {text rows rows₁ rows' : List ℕ} {i n class v top t : ℕ} {strings : Bool} {e : Entered} {w : WordAt} {r : Entries}
    → AnEntry text rows rows₁ i n class strings v e → Here text e.at w → (w.kind ≡ 59 → ⊥) → t ≡ max top (e.value + 1) → length rows₁ ≡ length rows
    → SomeEntries (EntriesIn strings (e.value + 1) (words_at text e.at)) text rows₁ rows' e.at e.count class t r
    → SomeEntries (EntriesIn strings v (words_at text i)) text rows rows' i n class top r
unfolding next_of entry_decls
entries-more {text} {rows} {rows₁} {rows'} {i} {n} {class} {v} {top} {t} {strings} {e} {w} {r} a h k f z u = record {
  bounds = record { low = omega (arith, a.bounds.low, u.bounds.low); high = u.bounds.high; more = omega (arith, a.bounds.more, u.bounds.more); small = u.bounds.small };
  most = most;
  goes = going;
  appends = added;
} where
  last-not : {ws₁ ws' : List Word} {x : Entry} {s : Word} → EntryIn strings v (words_at text i) ws₁ x → Took 59 ws₁ s ws' → ⊥
  last-not {ws₁} {x = x} q s = k (took-kind h (took-at (a.goes ws₁ x q).rest s))

  others : {ws₁ ws' : List Word} {x : Entry} {es : List Entry} → EntryIn strings v (words_at text i) ws₁ x → EntriesIn strings (x.value + 1) ws₁ ws' es
      → EntriesIn strings (e.value + 1) (words_at text e.at) ws' es
  others {ws₁} {x = x} q l = rw ((a.goes ws₁ x q).rest, a.value ws₁ x q) at l

  most : (ws' : List Word) (es : List Entry) → EntriesIn strings v (words_at text i) ws' es → r.top ≡ next_of top es
  most ws' (x ∷ []) (last_entry q s) = absurd (last-not q s)
  most ws' (x ∷ es) (more_entries q m l) = rw (a.value _ x q, ← f) (u.most ws' es (others q l))
  most ws' [] x' = elim x' [ ]

  going : (ws' : List Word) (es : List Entry) → EntriesIn strings v (words_at text i) ws' es → Goes text i r.at ws'
  going ws' (x ∷ []) (last_entry q s) = absurd (last-not q s)
  going ws' (x ∷ es) (more_entries q m l) =
      let g = u.goes ws' es (others q l) in
      record { past = omega (arith, g.past, a.bounds.low); rest = g.rest }
  going ws' [] x' = elim x' [ ]

  added : (ws' : List Word) (es : List Entry) → EntriesIn strings v (words_at text i) ws' es → Room rows n (length es) → Appends text rows rows' n r.count (entry_decls class es)
  added ws' (x ∷ []) (last_entry q s) o = absurd (last-not q s)
  added ws' (x ∷ es) (more_entries q m l) o =
      let b = a.appends _ x q (record { size = o.size; room = omega (arith, o.room) }) in
      appends-then b (u.appends ws' es (others q l) (record { size = z ∙ o.size; room = omega (arith, o.room, b.counted) }))
  added ws' [] x'' o = elim x'' [ ]

-- an entry that is none
pub entries-stuck : {text rows rows' : List ℕ} {i n class v top t : ℕ} {strings : Bool} {e : Entered}
    → AnEntry text rows rows' i n class strings v e → e.at ≤ i
    → SomeEntries (EntriesIn strings v (words_at text i)) text rows rows' i n class top (record { at = e.at; count = e.count; top = t })
entries-stuck {text} {rows} {rows'} {i} {n} {class} {v} {top} {t} {strings} {e} a k = record {
  bounds = a.bounds;
  most = λ ws' es q. absurd (never q);
  goes = λ ws' es q. absurd (never q);
  appends = λ ws' es q r. absurd (never q);
} where
  never : {ws' : List Word} {es : List Entry} → EntriesIn strings v (words_at text i) ws' es → ⊥
  never (last_entry {ws₁ = ws₁} {e = x} q s) = omega (arith, (a.goes ws₁ x q).past)
  never (more_entries {ws₁ = ws₁} {e = x} q m l) = omega (arith, (a.goes ws₁ x q).past)

pub listed-read : {text rows rows' : List ℕ} {at n class v : ℕ} {strings : Bool} {c : WordAt} {r : Entries} → Here text at c
    → SomeEntries (EntriesIn strings v (words_at text c.next)) text rows rows' c.next n class 0 r
    → SomeEntries (ListedIn strings v (words_at text at)) text rows rows' at n class 0 r
listed-read {text} {rows} {rows'} {at} {n} {class} {v} {strings} {c} {r} h u = record {
  bounds = record { low = omega (arith, h.onto, u.bounds.low); high = u.bounds.high; more = u.bounds.more; small = u.bounds.small };
  most = λ ws' es q. u.most ws' es (behind q);
  goes = λ ws' es q. record { past = omega (arith, (u.goes ws' es (behind q)).past, h.onto); rest = (u.goes ws' es (behind q)).rest };
  appends = λ ws' es q o. u.appends ws' es (behind q) o;
} where
  behind : {ws' : List Word} {es : List Entry} → ListedIn strings v (words_at text at) ws' es → EntriesIn strings v (words_at text c.next) ws' es
  behind (listed_in t q) = rw (took-rest h (omega arith) t) at q

-- Operations

pub head_read : {text : List ℕ} {at : ℕ} {w : WordAt} {p g : Maybe Part × ℕ} → Here text at w → Reads (TakesIn (words_at text w.next)) text w.next 257 p
    → Reads (GivesIn (words_at text p.1)) text p.1 257 g
    → AHead text at (record { name = part_of w; second = p.0; third = g.0; at = g.1 })
head_read {text} {at} {w} {p} {g} h f u = record {
  low = omega (arith, h.onto, f.low, u.low);
  high = u.high;
  name = h.inside;
  second = f.inside;
  third = u.inside;
  reads = reading;
} where
  reading : {is : List ℕ} (ws' : List Word) (o : Operation) → OperationIn is (words_at text at) ws' o
      → HeadRead text at ws' o (record { name = part_of w; second = p.0; third = g.0; at = g.1 })
  reading ws' o (one_operation {ws₁} {ws₂} t a b i k) =
      let a' : TakesIn (words_at text w.next) ws₂ o.takes = rw (took-rest h (omega arith) t) at a in
      let b' : GivesIn (words_at text p.1) ws' o.gives = rw (f.rest ws₂ o.takes a') at b in
      record {
        past = omega (arith, took-past h (omega arith) t, f.low, u.low);
        rest = u.rest ws' o.gives b';
        name = took-word h t;
        taking = f.there ws₂ o.takes a';
        takes = f.word ws₂ o.takes a';
        giving = u.there ws' o.gives b';
        gives = u.word ws' o.gives b';
      }

limit : {is : List ℕ} {ws ws' : List Word} {o : Operation} → OperationIn is ws ws' o → of_kind (kind_of o) is ≤ 255
limit (one_operation t a b i k) = k

numbered : {is : List ℕ} {ws ws' : List Word} {o : Operation} → OperationIn is ws ws' o → o.instruction ≡ kind_of o + of_kind (kind_of o) is
numbered (one_operation t a b i k) = i

abbrev operation_row : ℕ → Head → Row
operation_row v h = record { class = 6; value = v; name = h.name; second = h.second; third = h.third }

pub operation-read : {text rows rows' : List ℕ} {at count c v : ℕ} {seen after : Seen} {h : Head} (takes gives : Bool)
    → takes ≡ is_some h.second → gives ≡ is_some h.third → AHead text at h
    → (count_of seen takes gives ≤ 255 → v ≡ first_of takes gives + count_of seen takes gives) → Puts rows rows' count c (operation_row v h)
    → (count_of seen takes gives ≤ 255 → after ≡ one_more seen takes gives)
    → AnOperation text rows rows' at count seen (record { at = h.at; count = c; seen = after })
operation-read {text} {rows} {rows'} {at} {count} {c} {v} {seen} {after} {h} takes gives e f a n p m = record {
  bounds = record { low = a.low; high = a.high; more = p.more; small = p.small };
  adds = adding;
  goes = going;
  appends = added;
} where
  kind-of : {is : List ℕ} (ws' : List Word) (o : Operation) → OperationIn is (words_at text at) ws' o → kind_of o ≡ first_of takes gives
  kind-of ws' o q =
      let r = a.reads ws' o q in
      rw (r.taking, r.giving, ← e, ← f) refl

  few : {is : List ℕ} (ws' : List Word) (o : Operation) → OperationIn is (words_at text at) ws' o → Kinds is seen → count_of seen takes gives ≤ 255
  few {is} ws' o q k =
      let b = limit q in
      let d : of_kind (kind_of o) is ≡ of_kind (first_of takes gives) is = ap (λ (x : ℕ). of_kind x is) (kind-of ws' o q) in
      omega (arith, count-is is seen takes gives k)

  number : {is : List ℕ} (ws' : List Word) (o : Operation) → OperationIn is (words_at text at) ws' o → Kinds is seen → o.instruction ≡ first_of takes gives + count_of seen takes gives
  number {is} ws' o q k =
      let d : of_kind (kind_of o) is ≡ of_kind (first_of takes gives) is = ap (λ (x : ℕ). of_kind x is) (kind-of ws' o q) in
      omega (arith, numbered q, kind-of ws' o q, count-is is seen takes gives k)

  adding : (is : List ℕ) (ws' : List Word) (o : Operation) → OperationIn is (words_at text at) ws' o → Kinds is seen → Adds (o.instruction ∷ []) seen after
  adding is ws' o q k =
      let l = few ws' o q k in
      rw (number ws' o q k, m l) (adds_one seen takes gives (count_of seen takes gives) (omega arith))

  going : (is : List ℕ) (ws' : List Word) (o : Operation) → OperationIn is (words_at text at) ws' o → Goes text at h.at ws'
  going is ws' o q = record { past = (a.reads ws' o q).past; rest = (a.reads ws' o q).rest }

  added : (is : List ℕ) (ws' : List Word) (o : Operation) → OperationIn is (words_at text at) ws' o → Kinds is seen → Room rows count 1
      → Appends text rows rows' count c (of_operation o ∷ [])
  added is ws' o q k r =
      let x = a.reads ws' o q in
      appended text (of_operation o) p
      (decl-is text (operation_row v h) (of_operation o) refl (number ws' o q k ∙ sym (n (few ws' o q k))) x.name
      (x.takes ∙ ap (λ (i : ℕ). option_in text i h.second) (sym second-name)) x.gives) r

pub operations-last : {text rows rows' : List ℕ} {i n : ℕ} {seen : Seen} {o : Operated} {w : WordAt}
    → AnOperation text rows rows' i n seen o → Here text o.at w → w.kind ≡ 59
    → SomeOperations text rows rows' i n seen (record { at = w.next; count = o.count; seen = o.seen })
unfolding instructions operation_decls
operations-last {text} {rows} {rows'} {i} {n} {seen} {o} {w} a h k = record {
  bounds = record { low = omega (arith, a.bounds.low, h.onto); high = h.high; more = a.bounds.more; small = a.bounds.small };
  adds = adding;
  goes = going;
  appends = added;
} where
  more-not : {is : List ℕ} {ws₁ : List Word} {x : Operation} → OperationIn is (words_at text i) ws₁ x → Not 59 ws₁ → ⊥
  more-not {is} {ws₁} {x} q m = not-kind 59 h (rw (a.goes is ws₁ x q).rest at m) k

  adding : (is : List ℕ) (ws' : List Word) (os : List Operation) → OperationsIn is (words_at text i) ws' os → Kinds is seen → Adds (instructions os) seen o.seen
  adding is ws' (x ∷ []) (last_operation q s) z = a.adds is _ x q z
  adding is ws' (x ∷ os) (more_operations q m l) z = absurd (more-not q m)
  adding is ws' [] x'' z = elim x'' [ ]

  going : (is : List ℕ) (ws' : List Word) (os : List Operation) → OperationsIn is (words_at text i) ws' os → Goes text i w.next ws'
  going is ws' (x ∷ []) (last_operation q s) = record {
    past = omega (arith, (a.goes is _ x q).past, h.onto);
    rest = took-rest h (omega arith) (took-at (a.goes is _ x q).rest s);
  }
  going is ws' (x ∷ os) (more_operations q m l) = absurd (more-not q m)
  going is ws' [] x' = elim x' [ ]

  added : (is : List ℕ) (ws' : List Word) (os : List Operation) → OperationsIn is (words_at text i) ws' os → Kinds is seen → Room rows n (length os)
      → Appends text rows rows' n o.count (operation_decls os)
  added is ws' (x ∷ []) (last_operation q s) z r = a.appends is _ x q z r
  added is ws' (x ∷ os) (more_operations q m l) z r = absurd (more-not q m)
  added is ws' [] x3 z r = elim x3 [ ]

pub operations-more : {text rows rows₁ rows' : List ℕ} {i n : ℕ} {seen : Seen} {o r : Operated} {w : WordAt}
    → AnOperation text rows rows₁ i n seen o → Here text o.at w → (w.kind ≡ 59 → ⊥) → length rows₁ ≡ length rows
    → SomeOperations text rows₁ rows' o.at o.count o.seen r → SomeOperations text rows rows' i n seen r
unfolding instructions operation_decls
operations-more {text} {rows} {rows₁} {rows'} {i} {n} {seen} {o} {r} {w} a h k z u = record {
  bounds = record { low = omega (arith, a.bounds.low, u.bounds.low); high = u.bounds.high; more = omega (arith, a.bounds.more, u.bounds.more); small = u.bounds.small };
  adds = adding;
  goes = going;
  appends = added;
} where
  last-not : {is : List ℕ} {ws₁ ws' : List Word} {x : Operation} {s : Word} → OperationIn is (words_at text i) ws₁ x → Took 59 ws₁ s ws' → ⊥
  last-not {is} {ws₁} {x = x} q s = k (took-kind h (took-at (a.goes is ws₁ x q).rest s))

  others : {is : List ℕ} {ws₁ ws' : List Word} {x : Operation} {os : List Operation} → OperationIn is (words_at text i) ws₁ x → OperationsIn (x.instruction ∷ is) ws₁ ws' os
      → OperationsIn (x.instruction ∷ is) (words_at text o.at) ws' os
  others {is} {ws₁} {x = x} q l = rw (a.goes is ws₁ x q).rest at l

  kinds : {is : List ℕ} {ws₁ : List Word} {x : Operation} → OperationIn is (words_at text i) ws₁ x → Kinds is seen → Kinds (x.instruction ∷ is) o.seen
  kinds {is} {ws₁} {x} q y = kinds-then (x.instruction ∷ []) is seen o.seen y (a.adds is ws₁ x q y)

  adding : (is : List ℕ) (ws' : List Word) (os : List Operation) → OperationsIn is (words_at text i) ws' os → Kinds is seen → Adds (instructions os) seen r.seen
  adding is ws' (x ∷ []) (last_operation q s) y = absurd (last-not q s)
  adding is ws' (x ∷ os) (more_operations q m l) y =
      adds_then x.instruction (instructions os) seen o.seen r.seen (a.adds is _ x q y) (u.adds (x.instruction ∷ is) ws' os (others q l) (kinds q y))
  adding is ws' [] x'' y = elim x'' [ ]

  going : (is : List ℕ) (ws' : List Word) (os : List Operation) → OperationsIn is (words_at text i) ws' os → Goes text i r.at ws'
  going is ws' (x ∷ []) (last_operation q s) = absurd (last-not q s)
  going is ws' (x ∷ os) (more_operations q m l) =
      let g = u.goes (x.instruction ∷ is) ws' os (others q l) in
      record { past = omega (arith, g.past, a.bounds.low); rest = g.rest }
  going is ws' [] x' = elim x' [ ]

  added : (is : List ℕ) (ws' : List Word) (os : List Operation) → OperationsIn is (words_at text i) ws' os → Kinds is seen → Room rows n (length os)
      → Appends text rows rows' n r.count (operation_decls os)
  added is ws' (x ∷ []) (last_operation q s) y p = absurd (last-not q s)
  added is ws' (x ∷ os) (more_operations q m l) y p =
      let b = a.appends is _ x q y (record { size = p.size; room = omega (arith, p.room) }) in
      appends-then b (u.appends (x.instruction ∷ is) ws' os (others q l) (kinds q y) (record { size = z ∙ p.size; room = omega (arith, p.room, b.counted) }))
  added is ws' [] x3 y p = elim x3 [ ]

pub operations-stuck : {text rows rows' : List ℕ} {i n : ℕ} {seen : Seen} {o : Operated} → AnOperation text rows rows' i n seen o → o.at ≤ i
    → SomeOperations text rows rows' i n seen o
operations-stuck {text} {rows} {rows'} {i} {n} {seen} {o} a k = record {
  bounds = a.bounds;
  adds = λ is ws' os q z. absurd (never q);
  goes = λ is ws' os q. absurd (never q);
  appends = λ is ws' os q z r. absurd (never q);
} where
  never : {is : List ℕ} {ws' : List Word} {os : List Operation} → OperationsIn is (words_at text i) ws' os → ⊥
  never {is} (last_operation {ws₁ = ws₁} {o = x} q s) = omega (arith, (a.goes is ws₁ x q).past)
  never {is} (more_operations {ws₁ = ws₁} {o = x} q m l) = omega (arith, (a.goes is ws₁ x q).past)

-- Rules

abbrev rule_row : ℕ → WordAt → Maybe Part → Row
rule_row k w third = record { class = 7; value = k; name = part_of w; second = None; third = third }

pub rule-read : {text rows rows' : List ℕ} {at count k c to : ℕ} {w : WordAt} {g : Maybe Part × ℕ} → Here text at w
    → Reads (GivesIn (words_at text w.next)) text w.next 257 g → Puts rows rows' count c (rule_row k w g.0) → Skips text g.1 to
    → ARule text rows rows' at count k (record { at = to; count = c })
rule-read {text} {rows} {rows'} {at} {count} {k} {c} {to} {w} {g} h f p s = record {
  bounds = record { low = omega (arith, h.onto, f.low, s.low); high = s.high; more = p.more; small = p.small };
  goes = going;
  appends = added;
} where
  going : (ws' : List Word) (x : Rule) → LineIn (words_at text at) ws' x → Goes text at to ws'
  going ws' x (a_line {semi = semi} {ws₂ = ws₂} t u d) =
      let u' : GivesIn (words_at text w.next) ws₂ x.gives = rw (took-rest h (omega arith) t) at u in
      record {
        past = omega (arith, took-past h (omega arith) t, f.low, s.low);
        rest = s.rest semi ws' (rw (f.rest ws₂ x.gives u') at d);
      }

  added : (ws' : List Word) (x : Rule) → LineIn (words_at text at) ws' x → Room rows count 1 → Appends text rows rows' count c (of_rule k x ∷ [])
  added ws' x (a_line {ws₂ = ws₂} t u d) r =
      let u' : GivesIn (words_at text w.next) ws₂ x.gives = rw (took-rest h (omega arith) t) at u in
      appended text (of_rule k x) p
      (decl-is text (rule_row k w g.0) (of_rule k x) refl refl (took-word h t) (option-none text (second_kind 7) None refl)
      (f.word ws₂ x.gives u')) r

pub rules-last : {text rows rows' : List ℕ} {i n k : ℕ} {x : Spot} {w : WordAt} → ARule text rows rows' i n k x → Here text x.at w → (w.kind ≡ 257 → ⊥)
    → SomeRules text rows rows' i n k x.count
unfolding rule_decls
rules-last {text} {rows} {rows'} {i} {n} {k} {x} {w} a h e = record { small = a.bounds.small; appends = added } where
  added : (ws' : List Word) (rs : List Rule) → LinesIn (words_at text i) ws' rs → Room rows n (length rs) → Appends text rows rows' n x.count (rule_decls k rs)
  added ws' (y ∷ []) (last_line q m) r = a.appends ws' y q r
  added ws' (y ∷ ys) (more_lines {ws₁ = ws₁} q m l) r = absurd (e (next-kind 257 h (ap (λ (vs : List Word). (peek vs).kind) (sym (a.goes ws₁ y q).rest) ∙ m)))
  added ws' [] x3 r = elim x3 [ ]

pub rules_more : {text rows rows₁ rows' : List ℕ} {i n k k' c : ℕ} {x : Spot} {w : WordAt} → ARule text rows rows₁ i n k x → Here text x.at w → w.kind ≡ 257
    → length rows₁ ≡ length rows → (x.count ≡ n + 1 → k' ≡ suc k) → SomeRules text rows₁ rows' x.at x.count k' c → SomeRules text rows rows' i n k c
unfolding rule_decls
rules_more {text} {rows} {rows₁} {rows'} {i} {n} {k} {k'} {c} {x} {w} a h e z f u = record { small = u.small; appends = added } where
  added : (ws' : List Word) (rs : List Rule) → LinesIn (words_at text i) ws' rs → Room rows n (length rs) → Appends text rows rows' n c (rule_decls k rs)
  added ws' (y ∷ []) (last_line q m) r = absurd (not-kind 257 h (rw (a.goes ws' y q).rest at m) e)
  added ws' (y ∷ ys) (more_lines {ws₁ = ws₁} q m l) r =
      let b = a.appends ws₁ y q (record { size = r.size; room = omega (arith, r.room) }) in
      let l' : LinesIn (words_at text x.at) ws' ys = rw (a.goes ws₁ y q).rest at l in
      let d = u.appends ws' ys l' (record { size = z ∙ r.size; room = omega (arith, r.room, b.counted) }) in
      appends-then b (rw (f b.counted) at d)
  added ws' [] x3 r = elim x3 [ ]

pub rules-stuck : {text rows rows' : List ℕ} {i n k : ℕ} {x : Spot} → ARule text rows rows' i n k x → x.at ≤ i → SomeRules text rows rows' i n k x.count
rules-stuck {text} {rows} {rows'} {i} {n} {k} {x} a e = record { small = a.bounds.small; appends = λ ws' rs q r. absurd (never q) } where
  never : {ws' : List Word} {rs : List Rule} → LinesIn (words_at text i) ws' rs → ⊥
  never (last_line {ws' = ws'} {r = y} q m) = omega (arith, (a.goes ws' y q).past)
  never (more_lines {ws₁ = ws₁} {r = y} q m l) = omega (arith, (a.goes ws₁ y q).past)

pub rules-from : {text rows rows' : List ℕ} {at n k c : ℕ} {j : ℕ} → k ≡ j → SomeRules text rows rows' at n k c → SomeRules text rows rows' at n j c
rules-from e u = rw e at u
