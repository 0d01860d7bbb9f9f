-- The answers of the map's functions.
use mathlib.Core.Bool.{true, false}
use mathlib.Core.List.{List, [], ◌∷◌, ◌++◌}
use mathlib.Core.Path.{◌≡◌, refl, sym, ap, ◌∙◌, subst}
use Prim.Native.Nat.{ℕ, ◌+◌, ◌-◌, ◌*◌, ◌/◌, ◌<◌, ◌≤◌}
use native.Mathlib.Omega.{arith}
use lib.ListN.{length, length-append, get_or}
use Rattle.acceptance.proofs.Used.{total}
use borrow.Author.Tests.{le-leb, lt-leb}
use Rattle.emitter.specs.Emitted.{CellsOf, fits}
use Rattle.sizes.specs.Located.{Located, Locates}
use Rattle.machine.specs.Bytes.{bytes_of, over}
use Rattle.levels.proofs.Naming.{pairs_first}
use Rattle.levels.specs.Naming.{AllFirst}
use Rattle.maker.proofs.Marked.{marked}
use Rattle.maker.proofs.Named.{rules-named}
use Rattle.maker.specs.Pairing.{AllNamed}
use Rattle.maker.specs.Pairs.{AllOrdered, pairs_from, pairs_held, pairs_mean}
use Rattle.mapper.proofs.Laws.{held-map, inside, length-rows}
use Rattle.mapper.proofs.Made.{rows_append, made-long}
use Rattle.mapper.specs.Mapped.{Maps, Puts, Placed, MadePut, MapsHeld, held_rows}
use Rattle.mapping.specs.Mapping as mapping
use Rattle.mapping.proofs.Parting.{all-understood, own-length}
use Rattle.mapping.specs.Mapping.{Row, rows_from, made_rows, rows_of, rows_read, rule_rows, Answer, mapped, refused, map_of, map_rules, numbers_of, room_in, rows_words, lent_rows}
use Rattle.names.specs.Declare.{declare_sections}
use Rattle.names.specs.Known as known
use Rattle.names.specs.Known.{Checked, good, wrong}
use Rattle.names.specs.Understand.{nobody, understand}
use Rattle.names.specs.Uses.{Use, pairs_of, levels_used}
use Rattle.processor.specs.Process.{meaning, checked, answer_for}
use Rattle.program.specs.Program.{Rule}
use Rattle.program.specs.Table.{place, size_rules}
use Rattle.reader.specs.Counting.{Decides}
use Rattle.reader.specs.Answers.{Out}
use Rattle.symbols.specs.Rows.{held}
use Rattle.base.specs.Faults.{fault_number}
use Rattle.base.specs.declared.Refusal.{Refusal}
use Rattle.std.specs.Prelude.{Ok, Err}
use Rattle.syntax.specs.Parse.{parse}
use Rattle.syntax.specs.Reading.{got}
use Rattle.syntax.specs.Written.{Program}
use Rattle.frontend.proofs.Buffers.{ready-cells, refused-20, accepts-it, too_long}
use Rattle.frontend.proofs.Meant.{its-meaning}
use Rattle.frontend.proofs.Steps.{decides-fault, process-fault, process-read, checked-wrong, checked-good}
use Rattle.frontend.specs.Resolving.{Rowed, Resolves, mistaken}
use Rattle.frontend.specs.declared.Resolved.{Resolved}
use Rattle.words.specs.Words.{Word}

maps-refused : {a : Answer} {n : ℕ} {old new : List ℕ} → a ≡ refused n → new ≡ old → Maps a n 0 old new
unfolding numbers_of lent_rows
maps-refused e q = record { numbers = rw e refl; lent = rw e q }

-- The program in the buffers

held-pairs : (rows : List ℕ) → pairs_from rows 0 (get_or rows 5632 0) ≡ pairs_held rows
unfolding pairs_held
held-pairs rows = refl

fits_not : (prog : List Rule) → 4096 < size_rules prog → fits prog 4096 ≡ false
unfolding fits
fits_not prog h = rw (lt-leb (size_rules prog) 4096 h) refl

fits-well : (prog : List Rule) → size_rules prog ≤ 4096 → fits prog 4096 ≡ true
unfolding fits
fits-well prog h = rw (le-leb (size_rules prog) 4096 h) refl

pub map-long : (text : List ℕ) (prog : List Rule) (rows : List Row) (room : ℕ) → fits prog 4096 ≡ false → map_of rows room (answer_for text 4096 (meaning prog)) ≡ refused 20
unfolding map_of
map-long text prog rows room h = rw (refused-20 text prog 4096 h) refl

map-full : (text : List ℕ) (prog : List Rule) (rows : List Row) (room : ℕ) → size_rules prog ≤ 4096 → room < length rows
    → map_of rows room (answer_for text 4096 (meaning prog)) ≡ refused 20
unfolding map_of
map-full text prog rows room h l = rw (accepts-it text prog 4096 (fits-well prog h), lt-leb (length rows) room l) refl

map_whole : (text : List ℕ) (prog : List Rule) (rows : List Row) (room : ℕ) → size_rules prog ≤ 4096 → length rows ≤ room
    → map_of rows room (answer_for text 4096 (meaning prog)) ≡ mapped rows
unfolding map_of
map_whole text prog rows room h l = rw (accepts-it text prog 4096 (fits-well prog h), le-leb (length rows) room l) refl

-- the rows of the program, those of the rules made behind those of the rules written
abbrev all_rows : List Rule → known.Names → Program → List Row
all_rows prog names p = rows_from prog 0 p.rules ++ made_rows prog names (length p.rules) (pairs_of p.rules)

made-count : (prog : List Rule) (names : known.Names) (k : ℕ) (us : List Use) → length (made_rows prog names k us) ≡ total names us
unfolding made_rows total
made-count prog names k [] = refl
made-count prog names k (u ∷ us) = made-long prog names k u us ∙ ap (λ m. length (levels_used names u) + m) (made-count prog names (k + length (levels_used names u)) us)

module _ {text rows : List ℕ} (cells sorts places : List ℕ) {b : Resolved} (size : ℕ) {p : Program} {prog : List Rule} (located : Locates cells sorts b.rules places size) (its : CellsOf cells sorts b.rules prog)
    (rowed : Rowed text rows b p) (means : understand p ≡ good prog) where
  abbrev names : known.Names
  names = rowed.names

  found : Located prog places size
  unfolding Locates
  found = located prog its

  sized : size ≡ size_rules prog
  sized = found.words

  written_all : b.rules ≡ length p.rules + length (made_rows prog names (length p.rules) (pairs_of p.rules))
  written_all = omega (arith, its.count, all-understood p names rowed.known.declares prog means, made-count prog names (length p.rules) (pairs_of p.rules))

  counted : length (all_rows prog names p) ≡ b.rules
  counted = omega (arith, length-append (rows_from prog 0 p.rules) (made_rows prog names (length p.rules) (pairs_of p.rules)), own-length prog 0 p.rules, written_all)

  pub held-long : {old : List ℕ} → 4096 < size → Maps (map_of (rows_of p (good names) (good prog)) (room_in old) (answer_for text 4096 (meaning prog))) 20 0 old old
  held-long {old} h = maps-refused (map-long text prog (rows_of p (good names) (good prog)) (room_in old) (fits_not prog (omega (arith, sized, h)))) refl

  pub held-full : {old : List ℕ} → size ≤ 4096 → length old / 24 < b.rules → Maps (map_of (rows_of p (good names) (good prog)) (room_in old) (answer_for text 4096 (meaning prog))) 20 0 old old
  unfolding room_in rows_of
  held-full {old} h l = maps-refused (map-full text prog (all_rows prog names p) (length old / 24) (omega (arith, sized, h)) (omega (arith, counted, l))) refl

  placed : b.rules ≤ length places → (r : ℕ) → r < b.rules → get_or places r 0 ≡ place 1 prog r
  placed few r q = found.places r (omega (arith, q, its.count)) (omega (arith, q, few))

  -- the words of the rules made stand behind those of the rules written
  behind-them : (old : List ℕ) {mid new : List ℕ} → b.rules ≤ length old / 24 → b.rules ≤ length places → mid ≡ over (bytes_of (rows_words (held_rows text rows places b.first 0 b.written))) old
      → MadePut text rows b 0 b.written b.body places mid new → new ≡ over (bytes_of (rows_words (all_rows prog names p))) old
  behind-them old {mid} {new} l few e put =
      let n : b.written ≡ length p.rules = rowed.number in
      let own : List Row = rows_from prog 0 p.rules in
      let made : List Row = made_rows prog names (length p.rules) (pairs_of p.rules) in
      let us = marked rowed.known.again rowed.known.ending in
      let zero-less : get_or rows 5632 0 - 0 ≡ get_or rows 5632 0 = omega arith in
      let m : held_rows text rows places b.first 0 b.written ≡ own = held-map places prog rowed (λ j q. placed few j (omega (arith, q, n, written_all))) in
      let pairs : pairs_from rows 0 (get_or rows 5632 0 - 0) ≡ pairs_mean names (held text rows b.declared) b.written (pairs_of p.rules) =
      ap (λ i. pairs_from rows 0 i) zero-less ∙ held-pairs rows ∙ rowed.pairs.pairs ∙ ap (λ i. pairs_mean names (held text rows b.declared) i (pairs_of p.rules)) (sym n) in
      let puts : Puts mid new (12 * b.written) (rows_words (made_rows prog names b.written (pairs_of p.rules))) =
      put.puts names prog (pairs_of p.rules) pairs (subst (λ xs. AllNamed xs) (sym us) (rules-named rowed.known.again))
      (subst (λ xs. AllOrdered (held text rows b.declared) xs) (sym us) rowed.ordered)
      (subst (λ xs. AllFirst (held text rows b.declared) xs (pairs_of p.rules)) (sym us) (pairs_first (held text rows b.declared) p.rules rowed.ordered))
      (ap (λ i. i + length (made_rows prog names i (pairs_of p.rules))) n ∙ sym written_all) (placed few) in
      let puts' : Puts mid new (12 * b.written) (rows_words made) = subst (λ i. Puts mid new (12 * b.written) (rows_words (made_rows prog names i (pairs_of p.rules)))) n puts in
      let long : length (rows_words own) ≡ 12 * b.written = length-rows own ∙ omega (arith, own-length prog 0 p.rules, n) in
      puts'.puts (rows_words own) old long (omega (arith, l, n, written_all, length-rows made)) (e ∙ ap (λ (z : List Row). over (bytes_of (rows_words z)) old) m)
      ∙ ap (λ (w : List ℕ). over (bytes_of w) old) (sym (rows_append own made))

  pub held_whole : {old mid new : List ℕ} → size ≤ 4096 → b.rules ≤ length old / 24 → b.rules ≤ length places → mid ≡ over (bytes_of (rows_words (held_rows text rows places b.first 0 b.written))) old
      → MadePut text rows b 0 b.written b.body places mid new → Maps (map_of (rows_of p (good names) (good prog)) (room_in old) (answer_for text 4096 (meaning prog))) 0 b.rules old new
  unfolding room_in numbers_of lent_rows rows_of
  held_whole {old} {mid} {new} h l few e put =
      let a = map_whole text prog (all_rows prog names p) (length old / 24) (omega (arith, sized, h)) (omega (arith, counted, l)) in
      rw a (record { numbers = ap (mapping.tells 0) (sym counted); lent = behind-them old l few e put })

-- A text that is read

as_read : (text : List ℕ) (room : ℕ) (p : Program) (ws : List Word) → parse text ≡ got p ws → (m : Checked (List Rule)) → understand p ≡ m
    → map_rules text room ≡ map_of (rows_of p (declare_sections p p.sections nobody) m) room (answer_for text 4096 (checked m))
unfolding map_rules rule_rows rows_read
as_read text room p ws e m u = rw (process-read text 4096 p ws e, e, u) refl

module _ {text rows : List ℕ} {p : Program} where
  module _ (ws : List Word) (e : parse text ≡ got p ws) (old : List ℕ) where
    pub read-wrong : {cells starts sorts : List ℕ} {x : Refusal} → Resolves text rows cells starts sorts p (Err x) (understand p) → Maps (map_rules text (room_in old)) (fault_number x.fault) 0 old old
    unfolding map_of
    read-wrong {cells} {starts} {sorts} {x} resolved = go (understand p) refl resolved
      where
        go : (m : Checked (List Rule)) → understand p ≡ m → Resolves text rows cells starts sorts p (Err x) m → Maps (map_rules text (room_in old)) (fault_number x.fault) 0 old old
        go (good prog) u y = elim y [ ]
        go (wrong k w) u (mistaken q start len) =
            maps-refused (as_read text (room_in old) p ws e (wrong k w) u ∙ ap (map_of (rows_of p (declare_sections p p.sections nobody) (wrong k w)) (room_in old)) (checked-wrong text 4096 k w) ∙ ap refused (sym q)) refl

    read-good : {r : Resolved} (prog : List Rule) → understand p ≡ good prog → (rowed : Rowed text rows r p)
        → map_rules text (room_in old) ≡ map_of (rows_of p (good rowed.names) (good prog)) (room_in old) (answer_for text 4096 (meaning prog))
    read-good prog u rowed =
        as_read text (room_in old) p ws e (good prog) u ∙ ap (map_of (rows_of p (declare_sections p p.sections nobody) (good prog)) (room_in old)) (checked-good text 4096 prog)
        ∙ ap (λ n. map_of (rows_of p n (good prog)) (room_in old) (answer_for text 4096 (meaning prog))) rowed.known.declares

    pub read-long : {cells starts sorts : List ℕ} {r : Resolved} → Resolves text rows cells starts sorts p (Ok r) (understand p) → 4224 < r.cells → Maps (map_rules text (room_in old)) 20 0 old old
    read-long resolved l =
        let h = its-meaning resolved in
        maps-refused (read-good h.prog h.means h.rowed ∙ map-long text h.prog (rows_of p (good h.rowed.names) (good h.prog)) (room_in old) (too_long 4096 h.ready l)) refl

    pub read_held : {cells starts sorts : List ℕ} {r : Resolved} → Resolves text rows cells starts sorts p (Ok r) (understand p) → r.cells ≤ 4224 → {number rules : ℕ} {new : List ℕ} → MapsHeld text rows r cells sorts old new number rules → Maps (map_rules text (room_in old)) number rules old new
    read_held resolved l f = let h = its-meaning resolved in rw (read-good h.prog h.means h.rowed) (f p h.prog (ready-cells h.ready l) h.rowed h.means)

  pub its-place : {cells starts sorts : List ℕ} {r : Resolved} → Resolves text rows cells starts sorts p (Ok r) (understand p) → Placed text rows r
  its-place resolved =
      let h = its-meaning resolved in
      let all = all-understood p h.rowed.names h.rowed.known.declares h.prog h.means in
      record {
        holds = record { few = omega (arith, h.rowed.number, h.rowed.known.few); inside = inside h.rowed };
        more = omega (arith, h.ready.number, h.rowed.number, all);
        few = h.ready.few;
        inside = h.rowed.inside;
        kept = h.rowed.kept;
      }

-- Any text

pub text-wrong : (text : List ℕ) {out : Out} {old : List ℕ} → Decides out (parse text) → (out.fault ≡ 0 → ⊥) → Maps (map_rules text (room_in old)) out.fault 0 old old
unfolding map_rules map_of
text-wrong text {out} {old} d z =
    let m = decides-fault d z in
    maps-refused (ap (map_of (rule_rows text) (room_in old)) (process-fault text 4096 out.fault m.word m.is)) refl
