-- What `list` prints for what is kept of an input, and for the whole of it.
use mathlib.Core.Bool.{Bool, true, false, ◌&&◌}
use mathlib.Core.List.{List, [], ◌∷◌, ◌++◌, append_assoc, flatten}
use mathlib.Core.Path.{◌≡◌, refl, sym, ap, ◌∙◌}
use Prim.Native.Nat.{ℕ, ◌+◌, ◌*◌, ◌-◌, ◌<◌, ◌≤◌}
use native.Mathlib.Nat.{zero-add}
use native.Mathlib.Omega.{arith}
use borrow.Author.Tests.{ltb-true, ltb-false, leb-true}
use lib.Dec.{ltb, leb}
use lib.ListN.{length, take, drop, replicate, length-append, length-take}
use lib.Seq.{take-append_seam, take_all, take-length, take-take, length-take-le}
use Rattle.acceptance.proofs.Numbers.{never-0}
use Rattle.std.specs.Prelude.{if◌then◌else◌}
use Rattle.figure.proofs.Battery.{figure-exact}
use Rattle.figure.specs.Told.{Told, figure_of}
use Rattle.finishing.specs.Test.{finishing}
use Rattle.machine.proofs.Bytes.{words_of-append, bytes_of-append}
use Rattle.machine.specs.Bytes.{count, words_of, table_of, bytes_of}
use Rattle.processor.specs.Process as means
use Rattle.processor.specs.Process.{Part, Understood, meaning, faulty, read_in, understood, accepted, refused, answer_for, process, part_of, lent_words, lent_bytes}
use Rattle.meter.proofs.Bounds.{some-instruction}
use Rattle.program.proofs.Lengths.{length-table}
use Rattle.program.specs.Table.{size_rules, table}
use Rattle.syntax.specs.Parse.{parse, end_of, program}
use Rattle.syntax.specs.Reading.{fault}
use Rattle.words.specs.Words.{words}
use Rattle.translator.specs.Answered.{answered, Settles, fault_word}
use Rattle.translator.specs.declared.Answer.{Answer}
use Rattle.listing.specs.Listing.{line_feeds, line_at, refusal_listing, table_listing, listing}
use Rattle.listing.specs.Written.{Listed, longest}
use Rattle.listing.proofs.Laws.{listed-whole}
use Rattle.listing.proofs.Lines.{feeds-append, feeds-few}
use Rattle.std.specs.Counts.{IsPrefixLen}
use Rattle.lister.specs.declared.Piece.{Piece}
use Rattle.lister.specs.Prints.{count_on, Counted, Prints, FigureShown}

-- Counting in pieces is counting the whole

count-on : (feeds : ℕ) (pieces : List (List ℕ)) → count_on feeds pieces ≡ feeds + line_feeds (flatten pieces)
unfolding count_on flatten line_feeds
count-on feeds [] = omega arith
count-on feeds (piece ∷ pieces) = omega (arith, count-on (feeds + line_feeds piece) pieces, feeds-append piece (flatten pieces))

-- An over-long text

-- "Text over 32,768 bytes is 9 before all else", at the empty part at the end
over_long : (text : List ℕ) (room : ℕ) → 32768 < length text → process text room ≡ refused 9 (record { start = length text; size = 0 })
unfolding process understood parse read_in answer_for part_of end_of
over_long text room h = go (ltb 32768 (length text)) refl
  where
    at_end : answer_for text room (read_in (fault 9 (end_of text))) ≡ refused 9 (record { start = length text; size = 0 })
    at_end = refl

    go : (t : Bool) → ltb 32768 (length text) ≡ t
        → answer_for text room (read_in (if t then fault 9 (end_of text) else program (length text + 1) (words text))) ≡ refused 9 (record { start = length text; size = 0 })
    go true e = at_end
    go false e = absurd (omega (arith, ltb-false 32768 (length text) e))

over-long-answer : (text : List ℕ) (room : ℕ) (f : Told) → 32768 < length text
    → answered (process text room) f ≡ record { number = 9; start = length text; len = 0; words = 0; finishing = false; figure = f.figure; check = f.number }
unfolding answered
over-long-answer text room f h = rw (over_long text room h) refl

-- What is kept of an input

length-zero : (s : List ℕ) → length s ≡ 0 → s ≡ []
length-zero [] e = refl
length-zero (x ∷ s) e = absurd (omega arith)

module _ (kept rest : List ℕ) (e : kept ≡ take 32769 (kept ++ rest)) where
  kept-length : length kept ≤ 32768 → length (kept ++ rest) ≤ 32768
  kept-length h = omega (arith, ap length e, length-take 32769 (kept ++ rest))

  -- an input that is not over-long is kept whole
  kept_whole : length kept ≤ 32768 → kept ≡ kept ++ rest
  kept_whole h = e ∙ take_all 32769 (kept ++ rest) (omega (arith, kept-length h))

  none_left : length kept ≤ 32768 → rest ≡ []
  none_left h = length-zero rest (omega (arith, ap length (kept_whole h), length-append kept rest))

-- The listing of a refusal

refusal : (text : List ℕ) (a : means.Answer) (f : Told) (s : Answer) (q : ℕ) → s ≡ answered a f → (s.number ≡ 0 → ⊥) → refusal_listing s.number (line_at text s.start) ≡ listing text a q
unfolding answered listing
refusal text (accepted ws verdict) f s q e n = absurd (n (ap (λ (x : Answer). x.number) e))
refusal text (refused number at) f s q e n = ap (λ (x : Answer). refusal_listing x.number (line_at text x.start)) e

-- of a text that is over-long, the line of its end
end_line : (kept rest : List ℕ) → line_at kept (length kept) + line_feeds rest ≡ line_at (kept ++ rest) (length (kept ++ rest))
unfolding line_at
end_line kept rest = rw (take-length kept, take-length (kept ++ rest)) (omega (arith, feeds-append kept rest))

refused-listing : (kept rest : List ℕ) (f : Told) (s : Answer) (line : ℕ) (figure : ℕ) → kept ≡ take 32769 (kept ++ rest) → s ≡ answered (process kept 4096) f → (s.number ≡ 0 → ⊥)
    → line ≡ line_at kept s.start + line_feeds rest → refusal_listing s.number line ≡ listing (kept ++ rest) (process (kept ++ rest) 4096) figure
unfolding line_feeds listing
refused-listing kept rest f s line figure e d n q = go (ltb 32768 (length kept)) refl
  where
    go : (t : Bool) → ltb 32768 (length kept) ≡ t → refusal_listing s.number line ≡ listing (kept ++ rest) (process (kept ++ rest) 4096) figure
    go true t =
        let h : 32768 < length kept = ltb-true 32768 (length kept) t in
        let x : s ≡ record { number = 9; start = length kept; len = 0; words = 0; finishing = false; figure = f.figure; check = f.number } = d ∙ over-long-answer kept 4096 f h in
        let g : line ≡ line_at (kept ++ rest) (length (kept ++ rest)) = q ∙ ap (λ (a : Answer). line_at kept a.start + line_feeds rest) x ∙ end_line kept rest in
        rw (over_long (kept ++ rest) 4096 (omega (arith, length-append kept rest)), g) (ap (λ (a : Answer). refusal_listing a.number (line_at (kept ++ rest) (length (kept ++ rest)))) x)
    go false t =
        let h : length kept ≤ 32768 = omega (arith, ltb-false 32768 (length kept) t) in
        let g : line ≡ line_at kept s.start = omega (arith, q, ap line_feeds (none_left kept rest e h)) in
        rw (← kept_whole kept rest e h, g) (refusal kept (process kept 4096) f s figure d n)

-- The listing of an accepted text

acceptance : (text lent : List ℕ) (a : means.Answer) (told : Told) (s : Answer) {after : List ℕ} → ((number : ℕ) (at : Part) → a ≡ refused number at → number ≡ 0 → ⊥) → s ≡ answered a told → after ≡ lent_bytes a lent → s.number ≡ 0 → s.words ≤ 4096
    → table_listing (take s.words (table_of after)) s.finishing s.figure ≡ listing text a told.figure
unfolding answered listing lent_bytes lent_words table_of
acceptance text lent (refused number at) told s h e q n m = absurd (h number at refl (sym (ap (λ (x : Answer). x.number) e) ∙ n))
acceptance text lent (accepted ws verdict) told s {after} x e q n m =
    let d : s.words ≡ length ws = ap (λ (x : Answer). x.words) e in
    let f : s.finishing ≡ verdict = ap (λ (x : Answer). x.finishing) e in
    let g : s.figure ≡ told.figure = ap (λ (x : Answer). x.figure) e in
    let z : List ℕ = replicate (count lent - length ws) 0 in
    let y : after ≡ bytes_of ws ++ (bytes_of z ++ drop (2 * count lent) lent) = q ∙ ap (λ (b : List ℕ). b ++ drop (2 * count lent) lent) (bytes_of-append ws z) ∙ append_assoc (bytes_of ws) (bytes_of z) (drop (2 * count lent) lent) in
    let w : take s.words (words_of after) ≡ ws = ap (λ (k : ℕ). take k (words_of after)) d ∙ ap (λ (b : List ℕ). take (length ws) (words_of b)) y ∙ ap (take (length ws)) (words_of-append ws (bytes_of z ++ drop (2 * count lent) lent)) ∙ take-append_seam ws _ in
    rw (take-take s.words 4096 (words_of after) m, w, f, g) refl

-- "or 4,096 words"
few : (text : List ℕ) (room : ℕ) (u : Understood) (f : Told) (s : Answer) → s ≡ answered (answer_for text room u) f → s.words ≤ 4096
unfolding answered answer_for
few text room (faulty n w) f s e = let d : s.words ≡ 0 = ap (λ (x : Answer). x.words) e in omega arith
few text room (meaning prog) f s e = go (leb (size_rules prog) room) (leb (size_rules prog) 4096) refl (ap (λ (x : Answer). x.words) e)
  where
    go : (a b : Bool) → leb (size_rules prog) 4096 ≡ b
        → s.words ≡ (answered (if a && b then accepted (table prog) (finishing prog) else refused 20 (part_of (end_of text))) f).words → s.words ≤ 4096
    go true true q d = omega (arith, d, length-table prog, leb-true (size_rules prog) 4096 q)
    go true false q d = omega (arith, d)
    go false b q d = omega (arith, d)

few_words : {lent after : List ℕ} {f : Told} {s : Answer} (kept : List ℕ) (room : ℕ) → Settles (process kept room) f lent after s → s.words ≤ 4096
unfolding process
few_words {f = f} {s = s} kept room d = few kept room (understood kept) f s d.answer

accepted-listing : (kept rest lent after : List ℕ) (s : Answer) → kept ≡ take 32769 (kept ++ rest) → count lent ≡ 4096 → Settles (process kept (count lent)) (figure_of kept (count lent)) lent after s → s.number ≡ 0
    → table_listing (take s.words (table_of after)) s.finishing s.figure ≡ listing (kept ++ rest) (process (kept ++ rest) 4096) (figure_of (kept ++ rest) 4096).figure
accepted-listing kept rest lent after s e c d n = go (ltb 32768 (length kept)) refl
  where
    go : (t : Bool) → ltb 32768 (length kept) ≡ t → table_listing (take s.words (table_of after)) s.finishing s.figure ≡ listing (kept ++ rest) (process (kept ++ rest) 4096) (figure_of (kept ++ rest) 4096).figure
    go true t = absurd (omega (arith, n, ap (λ (a : Answer). a.number) (d.answer ∙ over-long-answer kept (count lent) (figure_of kept (count lent)) (ltb-true 32768 (length kept) t))))
    go false t =
        let h : length kept ≤ 32768 = omega (arith, ltb-false 32768 (length kept) t) in
        rw (← kept_whole kept rest e h, ← c) (acceptance kept lent (process kept (count lent)) (figure_of kept (count lent)) s (never-0 kept (count lent)) d.answer d.lent n (few_words kept (count lent) d))

-- The word at fault

same_word : (kept rest : List ℕ) → kept ≡ take 32769 (kept ++ rest) → fault_word kept (answered (process kept 4096) (figure_of kept 4096)) ≡ fault_word (kept ++ rest) (answered (process (kept ++ rest) 4096) (figure_of (kept ++ rest) 4096))
unfolding fault_word
same_word kept rest e = go (ltb 32768 (length kept)) refl
  where
    go : (t : Bool) → ltb 32768 (length kept) ≡ t → fault_word kept (answered (process kept 4096) (figure_of kept 4096)) ≡ fault_word (kept ++ rest) (answered (process (kept ++ rest) 4096) (figure_of (kept ++ rest) 4096))
    go true t =
        let h : 32768 < length kept = ltb-true 32768 (length kept) t in
        rw (over-long-answer kept 4096 (figure_of kept 4096) h, over-long-answer (kept ++ rest) 4096 (figure_of (kept ++ rest) 4096) (omega (arith, length-append kept rest))) refl
    go false t =
        let h : length kept ≤ 32768 = omega (arith, ltb-false 32768 (length kept) t) in
        ap (λ (text : List ℕ). fault_word text (answered (process text 4096) (figure_of text 4096))) (kept_whole kept rest e h)

-- The two ends of `list`

shows : {kept lent after new : List ℕ} {s : Answer} {feeds r : ℕ} → count lent ≡ 4096 → Settles (process kept (count lent)) (figure_of kept (count lent)) lent after s
    → ((rest : List ℕ) → kept ≡ take 32769 (kept ++ rest) → feeds ≡ line_feeds rest → take r new ≡ listing (kept ++ rest) (process (kept ++ rest) 4096) (figure_of (kept ++ rest) 4096).figure)
    → Prints kept feeds new (record { len = r; answer = s })
shows {kept} c d f pieces e q = record {
  listed = f (flatten pieces) e (q ∙ count-on 0 pieces ∙ zero-add (line_feeds (flatten pieces)));
  word = ap (fault_word kept) (rw c at d.answer) ∙ same_word kept (flatten pieces) e;
}

pub list-accepted : {kept lent after old new : List ℕ} {s : Answer} {feeds r : ℕ} → count lent ≡ 4096 → Settles (process kept (count lent)) (figure_of kept (count lent)) lent after s → longest ≤ length old
    → s.number ≡ 0 → Listed (table_listing (take s.words (table_of after)) s.finishing s.figure) old new r → Prints kept feeds new (record { len = r; answer = s })
list-accepted {kept} {lent} {after} {s = s} c d room n l = shows c d (λ rest e q. listed-whole l room ∙ accepted-listing kept rest lent after s e c d n)

pub list-refused : {kept lent after old new : List ℕ} {s : Answer} {feeds line r : ℕ} → count lent ≡ 4096 → Settles (process kept (count lent)) (figure_of kept (count lent)) lent after s → longest ≤ length old
    → (s.number ≡ 0 → ⊥) → line ≡ line_at kept s.start → Listed (refusal_listing s.number (line + feeds)) old new r → Prints kept feeds new (record { len = r; answer = s })
list-refused {kept} {s = s} {feeds} {line} c d room n q l =
    shows c d (λ rest e f. listed-whole l room ∙ refused-listing kept rest (figure_of kept 4096) s (line + feeds) (figure_of (kept ++ rest) 4096).figure e (rw c at d.answer) n (omega (arith, q, f)))

-- the bytes to print lie within the buffer
pub counted : {xs old new : List ℕ} {r : ℕ} → Listed xs old new r → longest ≤ length new → IsPrefixLen r new
counted {new = new} {r = r} l h = let b : r ≤ length new = omega (arith, l.short) in (b, sym (length-take-le r new b))

-- there are no more lines than bytes and one, and no more line feeds than bytes
pub line-most : {r : ℕ} (text : List ℕ) (i : ℕ) → r ≡ line_at text i → r ≤ length text + 1
unfolding line_at
line-most text i e = omega (arith, e, feeds-few (take i text), length-take i text)

pub counted-most : {feeds : ℕ} {buffer : List ℕ} {r : Piece} → Counted feeds buffer r → r.feeds ≤ feeds + length buffer
counted-most {feeds} {buffer} {r} k = omega (arith, k.count, feeds-few (take r.len buffer), length-take r.len buffer)

-- a figure is that of a path, and every path has an instruction
pub figure-shown : FigureShown
figure-shown prog a f q e = some-instruction (figure-exact prog a f q e).exact.path
