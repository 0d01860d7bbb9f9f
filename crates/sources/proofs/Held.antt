-- The table and the rows of the program in the buffers are those of the text's source.
use mathlib.Core.Bool.{true, false}
use mathlib.Core.List.{List, ◌++◌, append_assoc}
use mathlib.Core.Path.{◌≡◌, refl, sym, ap, ◌∙◌}
use Prim.Native.Nat.{ℕ, ◌+◌, ◌-◌, ◌*◌, ◌<◌, ◌≤◌}
use native.Mathlib.Omega.{arith}
use lib.ListN.{length, get_or, set, length-set, drop, replicate}
use lib.Seq.{get_or-set_same, get_or-set_other}
use borrow.Author.Tests.{le-leb, lt-leb}
use Rattle.carrier.specs.Held.{number_held, name_held}
use Rattle.carry.specs.Carry.{Source, section_words, written_names, made_names, names_of, with_rules, of_read, source_of}
use Rattle.emitter.specs.Emitted.{Emits, fits, emitted_words, emitted_bytes}
use Rattle.frontend.proofs.Buffers.{refused-20, accepts-it}
use Rattle.frontend.proofs.Steps.{process-read, checked-good}
use Rattle.frontend.specs.declared.Resolved.{Resolved}
use Rattle.machine.proofs.Bytes.{words_of-append}
use Rattle.machine.specs.Bytes.{count, words_of, bytes_of}
use Rattle.names.specs.Declare.{declare_sections}
use Rattle.names.specs.Known.{good, Names}
use Rattle.names.specs.Understand.{nobody, understand}
use Rattle.names.specs.Uses.{pairs_of}
use Rattle.processor.specs.Process.{process, meaning, checked, answer_for}
use Rattle.program.proofs.Places.{place-fits}
use Rattle.program.specs.Program.{Rule}
use Rattle.program.specs.Table.{size_rules, table}
use Rattle.rulerows.specs.Filled.{Filled, RowsOf}
use Rattle.sizes.specs.Located.{Located, Locates}
use Rattle.sources.specs.Prepared.{Sourced, Reads, Writes, ready, unready, InBuffers}
use Rattle.syntax.specs.Parse.{parse}
use Rattle.syntax.specs.Reading.{got}
use Rattle.syntax.specs.Written.{Program}
use Rattle.words.specs.Words.{Word, words}

-- The source of a text that is understood

abbrev source_by : List ℕ → Program → Names → List Rule → Source
source_by text p names prog = record { sections = section_words (words text); names = written_names p.rules ++ made_names names (pairs_of p.rules); rules = prog }

source_is : (text : List ℕ) (p : Program) (ws : List Word) (names : Names) (prog : List Rule) → parse text ≡ got p ws → declare_sections p p.sections nobody ≡ good names → understand p ≡ good prog
    → source_of text ≡ source_by text p names prog
unfolding source_of of_read with_rules names_of
source_is text p ws names prog e d u = rw (e, d, u) refl

-- Numbers behind the rows

module _ (s : List ℕ) (x y : ℕ) where
  abbrev counted : List ℕ
  counted = set (set s 768 x) 769 y

  counted-long : length counted ≡ length s
  counted-long = length-set (set s 768 x) 769 y ∙ length-set s 768 x

  count_held : length s ≡ 770 → get_or counted 768 0 ≡ x
  count_held l = get_or-set_other (set s 768 x) 769 768 y 0 (λ e. omega (arith, e)) ∙ get_or-set_same s 768 x 0 (omega (arith, l))

  size-held : length s ≡ 770 → get_or counted 769 0 ≡ y
  size-held l = get_or-set_same (set s 768 x) 769 y 0 (omega (arith, l, length-set s 768 x))

  number-kept : (i k : ℕ) → i < 128 → k < 6 → number_held counted i k ≡ number_held s i k
  unfolding number_held
  number-kept i k h l =
      get_or-set_other (set s 768 x) 769 (6 * i + k) y 0 (λ e. omega (arith, e, h, l)) ∙ get_or-set_other s 768 (6 * i + k) x 0 (λ e. omega (arith, e, h, l))

  name-kept : (text : List ℕ) (i : ℕ) → i < 128 → name_held text counted i ≡ name_held text s i
  unfolding name_held
  name-kept text i h =
      rw (number-kept i 1 h (omega arith), number-kept i 2 h (omega arith), number-kept i 3 h (omega arith), number-kept i 4 h (omega arith), number-kept i 5 h (omega arith)) refl

-- Whether the table fits

fits-short : (prog : List Rule) → size_rules prog ≤ 4096 → fits prog 4096 ≡ true
unfolding fits
fits-short prog h = rw (le-leb (size_rules prog) 4096 h) refl

fits_not : (prog : List Rule) → 4096 < size_rules prog → fits prog 4096 ≡ false
unfolding fits
fits_not prog h = rw (lt-leb (size_rules prog) 4096 h) refl

-- The program in the buffers

module _ {text rows cells sorts : List ℕ} {b : Resolved} (h : InBuffers text rows b cells sorts) (places : List ℕ) (size : ℕ) (locates : Locates cells sorts b.rules places size) where
  answer-is : process text 4096 ≡ answer_for text 4096 (meaning h.prog)
  answer-is = process-read text 4096 h.tree h.rest h.reads ∙ ap (λ m. answer_for text 4096 (checked m)) h.means ∙ checked-good text 4096 h.prog

  found : Located h.prog places size
  unfolding Locates
  found = locates h.prog h.cells_are

  pub held-20 : {sheet : List ℕ} {number start len : ℕ} → 4096 < size → number ≡ 20 → start ≡ length text → len ≡ 0 → Reads text cells sorts sheet number start len
  held-20 z n s l = record {
    sourced = λ e. absurd (omega (arith, e, n));
    prepares = λ _. rw (answer-is ∙ refused-20 text h.prog 4096 (fits_not h.prog (omega (arith, z, found.words)))) (unready n (λ e. omega (arith, e)) s l);
  }

  module _ (filled : List ℕ) (short : size ≤ 4096) (few : b.rules ≤ length places) (fills : Filled text rows b places filled) where
    in-room : size_rules h.prog ≤ 4096
    in-room = omega (arith, short, found.words)

    own : RowsOf text filled h.tree h.prog h.rowed.names
    own = fills.rules_are h.tree h.prog h.rowed h.means (sym h.cells_are.count)
        (λ r q. found.places r (omega (arith, q, h.cells_are.count)) (omega (arith, q, few)))
        (λ r q. omega (arith, place-fits 1 h.prog r (omega (arith, q, h.cells_are.count)), in-room))

    few_rules : length h.prog ≤ 128
    few_rules = omega (arith, h.cells_are.count, h.cells_are.few)

    source : source_of text ≡ source_by text h.tree h.rowed.names h.prog
    source = source_is text h.tree h.rest h.rowed.names h.prog h.reads h.rowed.known.declares h.means

    held_all : (sheet : List ℕ) → sheet ≡ counted filled b.rules size → Sourced text cells sorts sheet
    held_all sheet e = record {
      long = ap length e ∙ counted-long filled b.rules size ∙ fills.long;
      rows = rw (source, e) (record {
        few = few_rules;
        count = count_held filled b.rules size fills.long ∙ h.cells_are.count;
        size = size-held filled b.rules size fills.long ∙ found.words;
        locations = λ i q. number-kept filled b.rules size i 0 (omega (arith, q, few_rules)) (omega arith) ∙ own.locations i q;
        names = λ i q. name-kept filled b.rules size text i (omega (arith, q, few_rules)) ∙ own.names i q;
      });
      cells_are = rw (source, e, count_held filled b.rules size fills.long) h.cells_are;
      short = rw source in-room;
    }

    pub held_whole : {sheet : List ℕ} {start len : ℕ} → sheet ≡ counted filled b.rules size → Reads text cells sorts sheet 0 start len
    held_whole {sheet} e =
        let all = held_all sheet e in
        record {
          sourced = λ _. all;
          prepares = λ begins. rw (answer-is ∙ accepts-it text h.prog 4096 (fits-short h.prog in-room))
              (ready refl (record { long = all.long; rows = all.rows; more = (begins refl).more; bytes = (begins refl).bytes }));
        }

-- The table

module _ {cells sorts new : List ℕ} {rules : ℕ} (old : List ℕ) (fault size : ℕ) (room : length old ≡ 8192) (emits : Emits cells sorts rules old new fault size) where
  pub written : {sheet : List ℕ} → rules ≡ get_or sheet 768 0 → Writes cells sorts sheet new
  unfolding Emits count emitted_bytes emitted_words
  written e = record {
    writes = λ prog its short.
        let zeros : List ℕ = replicate (4096 - length (table prog)) 0 in
        let d = emits prog (rw e its) in
        let n : new ≡ bytes_of (table prog ++ zeros) ++ drop 8192 old = d.bytes ∙ rw (room, fits-short prog short) refl in
        record {
          more = zeros ++ words_of (drop 8192 old);
          bytes = ap words_of n ∙ words_of-append (table prog ++ zeros) (drop 8192 old) ∙ append_assoc (table prog) zeros (words_of (drop 8192 old));
        };
  }
