-- The common part of linking: its own faults, or its declarations in the rows.
use mathlib.Core.Bool.{Bool, true, false}
use mathlib.Core.List.{List, [], ◌∷◌}
use mathlib.Core.Path.{◌≡◌, refl, sym, ◌∙◌}
use native.Mathlib.Omega.{arith}
use Prim.Native.Nat.{ℕ, ◌+◌, ◌*◌, ◌-◌, ◌≤◌}
use borrow.Author.Tests.{ltb-false}
use lib.ListN.{length}
use Rattle.std.specs.Prelude.{if◌then◌else◌}
use Rattle.declarations.specs.Decls.{Agrees, decls_of}
use Rattle.declarer.specs.Faults.{fault_of, at_of, len_of}
use Rattle.std.specs.Prelude.{Result}
use Rattle.linking.specs.Answered.{over_long, unread, misnamed, Leaves, Links}
use Rattle.linking.specs.Linking.{IsRead, Rowed, Named, Declared}
use Rattle.linking.specs.declared.Linked.{Linked}
use Rattle.linking.specs.declared.Shared.{Shared}
use Rattle.names.specs.Known.{Checked, good, wrong, KnownRule, Names}
use Rattle.objects.proofs.Sections.{sections-agree}
use Rattle.parts.specs.Link.{refused}
use Rattle.parts.specs.Objects.{common_means, together}
use Rattle.partnames.proofs.Commons.{listed-in-text, end-no-line}
use Rattle.partnames.proofs.HeadLaws.{heads-at}
use Rattle.partnames.proofs.Together.{rows-alone}
use Rattle.partnames.specs.Declaring.{CommonIn, CommonRows, Declares}
use Rattle.partnames.specs.Heads.{CopiesHeads}
use Rattle.partnames.specs.Settling.{RowsOf, Settled, in_order, faulty, Settles}
use Rattle.partnames.specs.declared.Declared as code
use Rattle.processor.specs.Process.{part_of}
use Rattle.reader.specs.Answers.{Holds, held}
use Rattle.reader.specs.Counting.{Decides, fine, wrong as unreadable}
use Rattle.reader.specs.Texts as reads
use Rattle.reader.specs.Texts.{Listed, unless_long}
use Rattle.std.proofs.Common.{Ok, Err}
use Rattle.base.specs.Faults.{fault_number}
use Rattle.base.specs.declared.Refusal.{Refusal}
use Rattle.reader.proofs.Laws.{not_none}
use Rattle.reader.specs.Answers.{failing}
use Rattle.reader.specs.declared.Counted.{Counted}
use Rattle.symbols.specs.Rows as symbols
use Rattle.syntax.specs.Parse.{end_of}
use Rattle.syntax.specs.Reading.{Read, got, fault}
use Rattle.syntax.specs.Texts.{Common, too_long, read_common}
use Rattle.words.specs.Words.{Word, words_at}

-- The reading

-- a refusal in the common part is that of the word
shown-at : {number start len k : ℕ} (w : Word) {old new : List ℕ} {q : Linked} → number ≡ k → start ≡ w.start → len ≡ length w.text → Leaves (refused number 0 (record { start = start; size = len })) old new q → Leaves (refused k 0 (part_of w)) old new q
unfolding part_of
shown-at w a b g l = rw (← a, ← b, ← g) l

abbrev Reading : List ℕ → Counted → Read Common → Type 0
Reading common r m = reads.SettlesCommon common (Ok r) m

module _ (common : List ℕ) (r : Counted) where
  got_read : (m : Read Common) → read_common common ≡ m → too_long common ≡ false → Reading common r m → IsRead common r.room
  got_read (got c ws) e l s = go s.holds
    where
      go : Holds (Listed common r.at r.room) (got c ws) → IsRead common r.room
      go (held x) = record { short = l; tree = c; rest = ws; reads = e; at = r.at; listed = x }
  got_read (fault n w) e l s = go s.decides
    where
      go : Decides {A = Common} (record { fault = 0; at = r.at; len = 0 }) (fault n w) → IsRead common r.room
      go (unreadable k f a b) = absurd (k (sym f))

  pub is_read : Reading common r (unless_long common (read_common common)) → IsRead common r.room
  unfolding unless_long
  is_read s = go (too_long common) refl s
    where
      go : (t : Bool) → too_long common ≡ t → Reading common r (if t then fault 9 (end_of common) else read_common common) → IsRead common r.room
      go true e s₁ = at_end s₁.decides
        where
          at_end : Decides {A = Common} (record { fault = 0; at = r.at; len = 0 }) (fault 9 (end_of common)) → IsRead common r.room
          at_end (unreadable k f a b) = absurd (k (sym f))
      go false e s₁ = got_read (read_common common) refl e s₁

module _ (common : List ℕ) (x : Refusal) where
  abbrev Refusing : Read Common → Type 0
  Refusing m = reads.SettlesCommon common (Err x) m

  module _ {objects old new : List ℕ} {q : Linked} (left : Leaves (refused (fault_number x.fault) 0 (record { start = x.at; size = x.len })) old new q) where
    at_word : (m : Read Common) → read_common common ≡ m → too_long common ≡ false → Decides (failing x) m → Links common objects old new q
    at_word (got c ws) e l (fine z) = absurd (not_none x.fault z)
    at_word (fault n w) e l (unreadable k d a b) = record { answer = refused n 0 (part_of w); answers = unread k l e; leaves = shown-at w d a b left }

    pub not-read : Refusing (unless_long common (read_common common)) → Links common objects old new q
    unfolding unless_long
    not-read s = go (too_long common) refl s
      where
        go : (t : Bool) → too_long common ≡ t → Refusing (if t then fault 9 (end_of common) else read_common common) → Links common objects old new q
        go true e s₁ = at_end s₁.decides
          where
            at_end : Decides {A = Common} (failing x) (fault 9 (end_of common)) → Links common objects old new q
            at_end (unreadable k d a b) = record { answer = refused 9 0 (part_of (end_of common)); answers = over_long e; leaves = shown-at (end_of common) d a b left }
        go false e s₁ = at_word (read_common common) refl e s₁.decides

-- The names

pub short-size : (common : List ℕ) → too_long common ≡ false → length common ≤ 32768
unfolding too_long
short-size common e = ltb-false 32768 (length common) e

module _ {common rows rows₁ : List ℕ} {room : ℕ} {d : code.Declared} (i : IsRead common room) (declares : Declares common rows rows₁ d) (size : length rows ≡ 6017) where
  common_in : CommonIn (words_at common 0) (i.listed.keyword ∷ i.listed.rest) i.tree
  common_in = listed-in-text i.listed

  pub common-rows : CommonRows common rows₁ d (i.listed.keyword ∷ i.listed.rest) i.tree
  common-rows = declares.common i.tree _ common_in (end-no-line i.listed) size

  pub few-lines : d.count - d.first ≤ 128
  few-lines = omega (arith, common-rows.count, common_in.few)

  module _ {rows₂ : List ℕ} (f : Result (Unit {0}) Refusal) {lines : ℕ} (l : lines ≡ d.count - d.first) (settles : Settles common rows₁ rows₂ d.count d.first lines f) where
    rows_of : RowsOf common rows₁ d.count d.first lines i.tree []
    rows_of = rw l (rows-alone common_in common-rows)

    settled : Settled common rows₂ d.count f i.tree [] (common_means i.tree [])
    settled = settles.settled i.tree [] rows_of

    pub wrong-names : {objects old new : List ℕ} {q : Linked} → Leaves (refused (fault_of f) 0 (record { start = at_of f; size = len_of f })) old new q → (fault_of f ≡ 0 → ⊥) → Links common objects old new q
    wrong-names {objects} {old} {new} {q} left z = go (common_means i.tree []) refl settled
      where
        go : (m : Checked Names) → common_means i.tree [] ≡ m → Settled common rows₂ d.count f i.tree [] m → Links common objects old new q
        go (good n) e (in_order k x y) = absurd (z k)
        go (wrong k w) e (faulty a x b g) = record { answer = refused k 0 (part_of w); answers = misnamed x i.short i.reads e; leaves = shown-at w a b g left }

    -- the rows are those of c alone
    held_are : symbols.held common rows₂ d.count ≡ decls_of (together i.tree [])
    held_are = settles.same common ∙ rows_of.rows_are

    rowed : (n : Names) → common_means i.tree [] ≡ good n → {rs : List KnownRule} → Agrees (together i.tree []) n rs (symbols.held common rows₂ d.count) → (shared : Shared) → shared.n ≡ d.count → shared.others ≡ d.first → shared.room ≡ room → Rowed common rows₂ shared i.tree n
    rowed n e {rs} a shared x y z = record {
      is = record { short = i.short; rest = i.rest; reads = i.reads; means = e };
      size = short-size common i.short;
      small = omega (arith, x, declares.small);
      others = y ∙ common-rows.first;
      few = omega (arith, y, declares.early, declares.small);
      room = z ∙ sym i.listed.leaves;
      all_names = common_in.names;
      kept = rw x settles.kept;
      found = rw x (sections-agree a common rows₂ d.count refl);
      sections = rw x (record { entries = rw held_are rows_of.entries; operators = a.operators });
    }

    pub named : {heads : List ℕ} → fault_of f ≡ 0 → length heads ≡ 4 * lines → (shared : Shared) → shared.n ≡ d.count → shared.others ≡ d.first → shared.room ≡ room → Named common rows₂ heads shared
    named {heads} z long shared x y w = go (common_means i.tree []) refl settled
      where
        go : (m : Checked Names) → common_means i.tree [] ≡ m → Settled common rows₂ d.count f i.tree [] m → Named common rows₂ heads shared
        go (good n) e (in_order k v a) = record {
          common_is = i.tree;
          names = n;
          rowed = rowed n e a shared x y w;
          held_are = rw x held_are;
          lines = omega (arith, x, y, common-rows.count);
          room = omega (arith, long, l, common-rows.count);
        }
        go (wrong k v) e (faulty a b g h) = absurd (b (sym a ∙ z))

-- the list's numbers are written
pub named-lines : {common rows heads : List ℕ} {shared : Shared} → Named common rows heads shared → (shared.others ≤ shared.n) × (shared.others + (shared.n - shared.others) ≤ 512) × (4 * (shared.n - shared.others) ≤ length heads)
named-lines n = (omega (arith, n.lines), omega (arith, n.lines, n.rowed.small), omega (arith, n.lines, n.room))

pub declared : {common rows heads heads' : List ℕ} {shared : Shared} (n : Named common rows heads shared) → CopiesHeads common rows shared.others (shared.n - shared.others) heads heads' → Declared common rows heads' shared
declared {common} {rows} {heads} {heads'} {shared} n copies = record {
  common_is = n.common_is;
  names = n.names;
  rowed = n.rowed;
  heads_are = heads-at common rows shared.n shared.others n.common_is [] n.held_are n.rowed.others (omega (arith, n.lines)) (omega (arith, n.lines)) (omega (arith, n.lines, n.room)) copies;
}
