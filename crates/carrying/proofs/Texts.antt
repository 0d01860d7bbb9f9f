-- What an accepted text has: its sections, a word `rules`, and rows and a table that are laid.
use mathlib.Core.Bool.{Bool}
use mathlib.Core.List.{List, []}
use mathlib.Core.Path.{◌≡◌, refl, sym, ap, ◌∙◌}
use Prim.Native.Nat.{ℕ, ◌≤◌}
use native.Mathlib.Omega.{arith}
use lib.ListN.{length}
use Rattle.acceptance.proofs.Accepts.{accepted-table}
use Rattle.acceptance.specs.Answers.{TableOf}
use Rattle.carrier.proofs.HasRules.{has_rules}
use Rattle.carrier.proofs.Linked.{laid}
use Rattle.carry.proofs.Sources.{SourceOk, source_ok}
use Rattle.carry.specs.Carry.{section_words, with_rules, of_read, source_of}
use Rattle.names.specs.Known.{Checked, good, wrong}
use Rattle.names.specs.Understand.{understand}
use Rattle.processor.specs.Process.{Answer, accepted, refused, Part, meaning, faulty, checked, read_in, understood, process}
use Rattle.program.proofs.Lengths.{length-table}
use Rattle.program.specs.Program.{Rule}
use Rattle.program.specs.Table.{size_rules}
use Rattle.syntax.specs.Parse.{parse}
use Rattle.syntax.specs.Reading.{Read, got, fault}
use Rattle.syntax.specs.Written.{Program}
use Rattle.words.specs.Words.{Word, words}
use Rattle.sources.specs.Prepared.{Tabled, Prepares, ready, unready, Reads, Writes}
use Rattle.carrying.specs.Told.{Ready, Accepts, IsRead}

sections-of : (text : List ℕ) (prog : List Rule) → understood text ≡ meaning prog → (source_of text).sections ≡ section_words (words text)
unfolding source_of of_read with_rules understood read_in checked
sections-of text prog e = go (parse text) refl e
  where
    no-meaning : {A : Type 0} {n : ℕ} {at : Part} → faulty n at ≡ meaning prog → A
    no-meaning d = let z : ◌≡◌ {A = ℕ} 0 1 = cc in absurd (omega arith)

    inner : (p : Program) (vs : List Word) → parse text ≡ got p vs → (c : Checked (List Rule)) → understand p ≡ c → checked c ≡ meaning prog → (source_of text).sections ≡ section_words (words text)
    inner p vs a (good x) d f = rw (a, d) refl
    inner p vs a (wrong n w) d f = no-meaning f

    go : (r : Read Program) → parse text ≡ r → read_in r ≡ meaning prog → (source_of text).sections ≡ section_words (words text)
    go (got p vs) a f = inner p vs a (understand p) refl f
    go (fault n w) a f = no-meaning f

ready-text : {text bytes sheet words : List ℕ} {verdict : Bool} → process text 4096 ≡ accepted words verdict → Tabled text bytes sheet → Ready text bytes sheet
ready-text {text} {bytes} {sheet} {words} {verdict} e t = record {
  stands = record { rows = t.rows; accepts = rw s.rules_are x.accepts; distinct = s.distinct; named = s.length-is; more = t.more; words = t.bytes };
  laid = laid text sheet (source_of text) t.rows bytes t.more t.bytes small;
  has_rules = has_rules text x.prog x.means;
  sections = sections-of text x.prog x.means;
}
  where
    x : TableOf text 4096 words verdict
    x = accepted-table text 4096 words verdict e

    s : SourceOk (source_of text) x.prog
    s = source_ok text x.prog x.means

    small : size_rules (source_of text).rules ≤ 4096
    small = omega (arith, ap size_rules s.rules_are, length-table x.prog, ap length x.words_are, x.within_4096)

-- What was prepared

-- with 0 it is accepted
pub accepts : {text bytes sheet : List ℕ} {number start len : ℕ} → Prepares text bytes sheet number start len (process text 4096) → number ≡ 0 → Accepts text bytes sheet
accepts {text} {bytes} {sheet} {number} {start} {len} h z = go (process text 4096) refl h
  where
    go : (a : Answer) → process text 4096 ≡ a → Prepares text bytes sheet number start len a → Accepts text bytes sheet
    go (accepted ws v) e (ready d t) = record { words = ws; verdict = v; answers = e; as_ready = ready-text e t }
    go (refused n at) e (unready d nz f g) = absurd (nz (sym d ∙ z))

pub sheet-long : {text bytes sheet : List ℕ} {number start len : ℕ} → Prepares text bytes sheet number start len (process text 4096) → number ≡ 0 → length sheet ≡ 770
sheet-long {text} {bytes} {sheet} {number} {start} {len} h z = go (process text 4096) h
  where
    go : (a : Answer) → Prepares text bytes sheet number start len a → length sheet ≡ 770
    go (accepted ws v) (ready d t) = t.long
    go (refused n at) (unready d nz f g) = absurd (nz (sym d ∙ z))

-- one with another number
pub record Refuses (text : List ℕ) (number start len : ℕ) : Type 0 where
  pub part : Part
  pub answers : process text 4096 ≡ refused number part
  pub begins : start ≡ part.start
  pub long : len ≡ part.size

pub refuses : {text bytes sheet : List ℕ} {number start len : ℕ} → Prepares text bytes sheet number start len (process text 4096) → (number ≡ 0 → ⊥) → Refuses text number start len
refuses {text} {bytes} {sheet} {number} {start} {len} h nz = go (process text 4096) refl h
  where
    go : (a : Answer) → process text 4096 ≡ a → Prepares text bytes sheet number start len a → Refuses text number start len
    go (accepted ws v) e (ready d t) = absurd (nz d)
    go (refused n at) e (unready d k f g) = record { part = at; answers = e ∙ ap (λ (i : ℕ). refused i at) (sym d); begins = f; long = g }

-- What was read

-- its table is written
pub written : {text cells sorts sheet bytes : List ℕ} → IsRead text cells sorts sheet → Writes cells sorts sheet bytes → Accepts text bytes sheet
written {text} h w = let x = h.reads.sourced h.faultless in accepts (h.reads.prepares (λ _. w.writes (source_of text).rules x.cells_are x.short)) h.faultless

-- with another number there is nothing to be written
pub refuses-read : {text cells sorts sheet : List ℕ} {number start len : ℕ} → Reads text cells sorts sheet number start len → (number ≡ 0 → ⊥) → Refuses text number start len
refuses-read h nz = refuses {bytes = []} (h.prepares (λ z. absurd (nz z))) nz

pub is_read : {text cells sorts sheet : List ℕ} {n s l : ℕ} → Reads text cells sorts sheet n s l → n ≡ 0 → IsRead text cells sorts sheet
is_read {n = n} {s = s} {l = l} h z = record { number = n; start = s; len = l; faultless = z; reads = h }
