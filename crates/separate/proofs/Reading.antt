-- Both texts read, or the first fault of 1, 2 and 9.
use mathlib.Core.List.{List}
use mathlib.Core.Path.{◌≡◌, refl, sym, ap, ◌∙◌}
use Prim.Native.Nat.{ℕ, ◌<◌, ◌≤◌}
use native.Mathlib.Omega.{arith}
use lib.ListN.{length}
use borrow.Author.Tests.{lt-ltb, le-ltb}
use Rattle.parts.specs.Objects.{translate, read_both, read_on}
use Rattle.processor.specs.Process.{part_of}
use Rattle.reader.specs.Answers as answers
use Rattle.reader.specs.Answers.{held, void}
use Rattle.reader.specs.Counting.{Decides, fine, wrong}
use Rattle.reader.specs.Texts.{Listed, RulesAt, Settles, SettlesCommon, SettlesPart, unless_long}
use Rattle.std.proofs.Common.{Ok}
use Rattle.reader.specs.declared.Counted.{Counted}
use Rattle.reader.specs.Answers.{Out}
use Rattle.separate.specs.Steps.{Refuses, refuses_common, refuses_part, BothRead, ReadsTexts}
use Rattle.separate.specs.declared.Fault.{Fault}
use Rattle.separate.specs.declared.Texts.{Texts}
use Rattle.syntax.specs.Parse.{end_of}
use Rattle.syntax.specs.Reading.{Read, got, fault}
use Rattle.syntax.specs.Texts.{Common, too_long, read_common, read_part}
use Rattle.syntax.specs.Written.{Rule}
use Rattle.words.specs.Words.{Word}

-- the fault is the one that was found
pub record IsFault (f : Fault) (number text start len : ℕ) : Type 0 where
  pub number_is : f.number ≡ number
  pub text_is : f.text ≡ text
  pub start_is : f.start ≡ start
  pub len_is : f.len ≡ len

unread : {common part : List ℕ} {r : Texts} → (r.fault.number ≡ 0 → ⊥) → Refuses r.fault (translate common part) → ReadsTexts common part r
unread z f = record { read = λ e. absurd (z e); refused = λ _. f }

not-9 : {n : ℕ} → n ≡ 9 → n ≡ 0 → ⊥
not-9 e z = omega (arith, e, z)

pub long-common : {common part : List ℕ} {r : Texts} {n : ℕ} → 32768 < length common → n ≡ length common → IsFault r.fault 9 0 n 0 → ReadsTexts common part r
unfolding translate too_long part_of end_of
long-common {common} {part} h e f = unread (not-9 f.number_is) (rw (lt-ltb 32768 (length common) h) (refuses_common f.number_is f.text_is (f.start_is ∙ e) f.len_is))

pub long-part : {common part : List ℕ} {r : Texts} {n : ℕ} → length common ≤ 32768 → 32768 < length part → n ≡ length part → IsFault r.fault 9 1 n 0 → ReadsTexts common part r
unfolding translate too_long part_of end_of
long-part {common} {part} k h e f =
    unread (not-9 f.number_is) (rw (le-ltb 32768 (length common) k, lt-ltb 32768 (length part) h) (refuses_part f.number_is f.text_is (f.start_is ∙ e) f.len_is))

-- texts that are short enough are read
both : (common part : List ℕ) → length common ≤ 32768 → length part ≤ 32768 → translate common part ≡ read_both (read_common common) part
unfolding translate too_long
both common part h k = rw (le-ltb 32768 (length common) h, le-ltb 32768 (length part) k) refl

short : {A : Type 0} (text : List ℕ) (m : Read A) → length text ≤ 32768 → unless_long text m ≡ m
unfolding unless_long too_long
short text m h = rw (le-ltb 32768 (length text) h) refl

pub common-fault : {common part : List ℕ} {r : Texts} {P : Common → Type 0} {c : Out} → length common ≤ 32768 → length part ≤ 32768
    → Settles P c (unless_long common (read_common common)) → (c.fault ≡ 0 → ⊥) → IsFault r.fault c.fault 0 c.at c.len → ReadsTexts common part r
unfolding read_both part_of
common-fault {common} {part} {r} {P} {c} h k s z f = unread (λ e. z (sym f.number_is ∙ e)) (rw (both common part h k) (go (read_common common) (rw (short common (read_common common) h) at s.decides)))
  where
    go : (m : Read Common) → Decides c m → Refuses r.fault (read_both m part)
    go (got x ws) (fine e) = absurd (z e)
    go (fault n w) (wrong y a b d) = refuses_common (f.number_is ∙ a) f.text_is (f.start_is ∙ b) (f.len_is ∙ d)

-- the common part that was read
pub record CommonRead (common : List ℕ) (at left : ℕ) : Type 0 where
  pub shared : Common
  pub listed : Listed common at left shared
  pub names : shared.left ≡ left
  pub behind : List Word
  pub reads : read_common common ≡ got shared behind
  pub so : (part : List ℕ) → read_both (read_common common) part ≡ read_on shared (read_part left part)

pub common-read : {common : List ℕ} {c : Counted} → length common ≤ 32768
    → SettlesCommon common (Ok c) (unless_long common (read_common common)) → CommonRead common c.at c.room
unfolding read_both
common-read {common} {c} h s = let t = short common (read_common common) h in go (read_common common) refl (rw t at s.decides) (rw t at s.holds)
  where
    go : (m : Read Common) → read_common common ≡ m → Decides (record { fault = 0; at = c.at; len = 0 }) m → answers.Holds (Listed common c.at c.room) m → CommonRead common c.at c.room
    go (got x ws) q (fine e) (held l) = record { shared = x; listed = l; names = l.leaves; behind = ws; reads = q; so = λ part. rw (q, l.leaves) refl }
    go (fault n w) q (wrong y a b d) l = absurd (y (sym a))

pub part-fault : {common part : List ℕ} {r : Texts} {at left : ℕ} {P : List Rule → Type 0} {p : Out} → length common ≤ 32768 → length part ≤ 32768 → CommonRead common at left
    → Settles P p (unless_long part (read_part left part)) → (p.fault ≡ 0 → ⊥)
    → IsFault r.fault p.fault 1 p.at p.len → ReadsTexts common part r
unfolding read_on part_of
part-fault {common} {part} {r} {at} {left} {P} {p} h k x s z f =
    unread (λ e. z (sym f.number_is ∙ e)) (rw (both common part h k, x.so part) (go (read_part left part) (rw (short part (read_part left part) k) at s.decides)))
  where
    go : (m : Read (List Rule)) → Decides p m → Refuses r.fault (read_on x.shared m)
    go (got y ws) (fine e) = absurd (z e)
    go (fault n w) (wrong y a b d) = refuses_part (f.number_is ∙ a) f.text_is (f.start_is ∙ b) (f.len_is ∙ d)

pub both_read : {common part : List ℕ} {r : Texts} {left p : ℕ} → length common ≤ 32768 → length part ≤ 32768 → CommonRead common r.at left
    → SettlesPart part left (Ok p) (unless_long part (read_part left part)) → r.fault.number ≡ 0 → r.from ≡ p → ReadsTexts common part r
both_read {common} {part} {r} {left} {p} h k x s y e =
    let t = short part (read_part left part) k in
    record { read = λ _. go (read_part left part) refl (rw t at s.decides) (rw t at s.holds); refused = λ n. absurd (n y) }
  where
    go : (m : Read (List Rule)) → read_part left part ≡ m → Decides (record { fault = 0; at = p; len = 0 }) m → answers.Holds (RulesAt part left p) m → BothRead common part r.at r.from
    go (got rs ws) q (fine d) (held l) = record {
      shared = x.shared;
      left = left;
      rules = rs;
      rest = ws;
      listed = x.listed;
      rules_at = rw e l;
      reads = q;
      behind = x.behind;
      reads_common = x.reads;
      short_common = h;
      short_part = k;
      so_far = both common part h k ∙ x.so part ∙ ap (read_on x.shared) q;
    }
    go (fault n w) q (wrong u a b d) l = absurd (u (sym a))
