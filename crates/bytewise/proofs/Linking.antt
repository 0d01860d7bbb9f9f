-- Demand 3, the check on loading and the figure for the bytes that `sst_link` leaves in a lent buffer, whoever wrote the objects.
use mathlib.Core.Bool.{Bool, true, false, ◌||◌, ◌&&◌}
use mathlib.Core.List.{List, [], ◌∷◌, ◌++◌}
use mathlib.Core.Logic.{◌⊎◌, inl, inr}
use mathlib.Core.Option.{Option, none, some}
use mathlib.Core.Path.{◌≡◌, refl, sym, ap, ◌∙◌}
use Prim.Native.Nat.{ℕ, suc, ◌+◌, ◌*◌, ◌<◌, ◌≤◌, min}
use native.Mathlib.Omega.{arith}
use lib.Dec.{eqb, ltb, leb}
use lib.ListN.{length, replicate}
use Rattle.base.specs.Bools.{never}
use Rattle.std.specs.Prelude.{if◌then◌else◌}
use Rattle.figure.proofs.Battery.{figure-steps}
use Rattle.figure.specs.Count.{figure}
use Rattle.figure.specs.Told.{Told, untold, told as told_of, told_if}
use Rattle.finishing.specs.Test.{finishing}
use Rattle.firmware.specs.Processing.{Numbers, numbers_of}
use Rattle.linking.proofs.Single.{answer-ways}
use Rattle.linking.specs.Answered.{Answered}
use Rattle.loading.proofs.Files.{loads-exactly}
use Rattle.loading.specs.File as files
use Rattle.loading.specs.File.{file_bytes}
use Rattle.machine.proofs.Bytes.{length-words_of}
use Rattle.machine.proofs.Words.{small-words}
use Rattle.machine.specs.Bytes.{count, words_of, table_of}
use Rattle.names.specs.Known.{good, Names}
use Rattle.objects.proofs.Exact.{objects-pass, pass-objects}
use Rattle.objects.specs.Whole.{are_objects}
use Rattle.parts.proofs.JoinedLinks.{made-joined}
use Rattle.parts.proofs.Sound.{any-objects}
use Rattle.parts.specs.Form.{AreObjects, last_length, LinksWords}
use Rattle.parts.specs.Joined.{joined_text}
use Rattle.parts.specs.Link.{Linked, linked, refused, Found, rules_of, first_typed, unlike_in, twice_in, past_limit_in, pairs_in, past_made, program, refused_at, in_text, as_one, link, as_answer, lent_bytes}
use Rattle.parts.specs.Objects.{Object, common_means}
use Rattle.parts.specs.Sound.{LinkedTable}
use Rattle.processor.specs.Process as one
use Rattle.processor.specs.Process.{Part, part_of, accepted, answer_for}
use Rattle.program.proofs.AcceptedWords.{accepted-word}
use Rattle.program.proofs.Lengths.{length-table}
use Rattle.program.proofs.Places.{place-from, place_inside}
use Rattle.program.specs.Accepted.{Values}
use Rattle.program.specs.Program.{Rule}
use Rattle.program.specs.Table.{size_rules, table}
use Rattle.safety.proofs.Theorem.{claim-allowed}
use Rattle.safety.specs.Promise.{claim_of}
use Rattle.syntax.specs.Parse.{end_of}
use Rattle.syntax.specs.Reading.{got}
use Rattle.syntax.specs.Sections.{names_in_all}
use Rattle.syntax.specs.Texts.{Common, read_common}
use Rattle.words.specs.Words.{Word}
use Rattle.bytewise.proofs.Entries.{lent-table, Below, lent-bytes, suffices-bytes, steps-bytes, agrees_bytes}
use Rattle.bytewise.specs.AtEntries.{Processed}
use Rattle.bytewise.specs.AtLinking.{LinkNumbers, link_numbers, LinkAnswer, links, refuses, LinksBytes, linked_rules, BeginsWith, LoadedAs, AtLinking, ClaimedLinked, FromLinking, FromParts}
use Rattle.bytewise.specs.AtLoading.{Loads}
use Rattle.bytewise.specs.ByteCalls.{Slice}

-- A table and the figure told of it

-- a figure is told of a program whose verdict is "finishing", and it is that of its rules
told-figure : (words : List ℕ) (verdict : Bool) (prog : List Rule) → 0 < (told_if (accepted words verdict) prog).figure
    → (verdict ≡ true) × (figure prog ≡ some (told_if (accepted words verdict) prog).figure)
unfolding told_if told_of untold
told-figure words false prog h = absurd (omega arith)
told-figure words true prog h = (refl, go (figure prog) h)
  where
    go : (o : Option ℕ) → 0 < (told_of o).figure → o ≡ some (told_of o).figure
    go (some q) h = refl
    go none h = absurd (omega arith)

module _ (prog : List Rule) (room : ℕ) (words : List ℕ) (verdict : Bool) (told : Told) (l : LinkedTable prog room words verdict told) where
  words_small : Below 65536 words
  words_small =
      let e = length-table prog in
      let d : length words ≡ length (table prog) = ap length l.words_are in
      rw l.words_are (accepted-word prog l.works.accepts (omega (arith, e, d, l.within_4096)))

  pub lent-begins : (lent : List ℕ) → Slice lent → BeginsWith words (one.lent_bytes (accepted words verdict) lent)
  lent-begins lent s =
      let t = lent-table words verdict lent l.within_4096 in
      record { are_bytes = lent-bytes words verdict lent words_small s.bytes; more = t.0; begins = t.1 }

  -- the file of the table and the verdict is loaded
  loads-file : (lent bytes : List ℕ) (y : files.Numbers) → Loads (file_bytes words (claim_of verdict)) lent bytes y → length words ≤ count lent → LoadedAs words verdict bytes y
  unfolding files.numbers_of files.lent_bytes files.lent_words
  loads-file lent bytes y h r =
      let a = l.works.accepts in
      let some_word : 1 ≤ length words = rw l.words_are (omega (arith, place-from 1 prog 0, place_inside prog a.no_end 0 a.some_rule)) in
      let e = (loads-exactly (file_bytes words (claim_of verdict)) (count lent) words (claim_of verdict)).all_these (record {
        one_file = refl;
        limits = claim-allowed (length words) verdict some_word l.within_4096;
        long_enough = r;
        takes = l.works.taken;
      }) in
      let n : y ≡ files.numbers_of (files.done words (claim_of verdict)) = h.numbers ∙ ap files.numbers_of e in
      let b : bytes ≡ one.lent_bytes (accepted words verdict) lent = h.bytes ∙ ap (λ (x : files.Answer). files.lent_bytes x lent) e ∙ unfold one.lent_bytes one.lent_words in refl in
      record {
        taken = ap (λ (z : files.Numbers). z.number) n;
        told_words = ap (λ (z : files.Numbers). z.words) n;
        told_verdict = ap (λ (z : files.Numbers). z.verdict) n;
        left = rw b (lent-begins lent h.buffer);
      }

  measured : 0 < told.figure → (verdict ≡ true) × (figure prog ≡ some told.figure)
  measured h = rw (← l.figure_is) at (told-figure words verdict prog (rw l.figure_is at h))

  on-words : {bytes : List ℕ} (b : BeginsWith words bytes) → table_of bytes ≡ table prog ++ b.more
  on-words b = b.begins ∙ ap (λ (v : List ℕ). v ++ b.more) l.words_are

  pub at-linking : AtLinking prog words verdict told.figure
  at-linking =
      let w = l.works in
      record {
        agrees = λ bytes b tokens answers bk ba allowance small.
            agrees_bytes prog bytes tokens answers b.are_bytes bk ba allowance small (rw b.begins (w.agrees b.more (words_of tokens) (words_of answers) allowance));
        finishes = λ v number allowance small.
            (let f = w.finishes v number allowance in (
              f.0,
              λ bytes b tokens answers bk ba q.
                  suffices-bytes prog bytes tokens answers b.are_bytes bk ba allowance small f.0
                  (rw b.begins (f.1 b.more (words_of tokens) (words_of answers) (length-words_of tokens ∙ q))),
            ));
        sound = w.sound;
        complete = w.complete;
        takes = w.taken;
        loads = loads-file;
        figure_finishing = λ h. (measured h).0;
        suffices = λ h bytes b tokens answers bk ba allowance small.
            (let m = measured h in
            suffices-bytes prog bytes tokens answers b.are_bytes bk ba allowance small (65 * told.figure * (count tokens + allowance + 1))
            (rw (on-words b, ← length-words_of tokens) (w.enough m.0 told.figure m.1 b.more (words_of tokens) (words_of answers) allowance)));
        steps = λ h bytes b tokens answers bk ba allowance small.
            (let m = measured h in
            steps-bytes prog bytes tokens answers b.are_bytes bk ba allowance small (65 * told.figure * (count tokens + allowance + 1))
            (rw (on-words b, ← length-words_of tokens) (figure-steps prog w.accepts (w.sound m.0) told.figure m.1 b.more (words_of tokens) (words_of answers) allowance)));
      }

-- No refusal has the number 0

pub record Positive (a : Linked) : Type 0 where
  pub says : (number text : ℕ) (at : Part) → a ≡ refused number text at → 1 ≤ number

positive-link : {words : List ℕ} {verdict : Bool} {told : Told} → Positive (linked words verdict told)
positive-link = record { says = λ number text at e. (let z : ◌≡◌ {A = ℕ} 0 1 = cc in absurd (omega arith)) }

positive-number : {n i : ℕ} {at : Part} → 1 ≤ n → Positive (refused n i at)
positive-number {n} h = record { says = λ number text at e. (let d : n ≡ number = cc in omega (arith, d, h)) }

positive-check : (n : ℕ) → 1 ≤ n → (f : Option Found) (other : Linked) → Positive other → Positive (refused_at n f other)
unfolding refused_at
positive-check n h none other p = p
positive-check n h (some f) other p = positive-number h

positive-test : (t : Bool) (n i : ℕ) (at : Part) → 1 ≤ n → (other : Linked) → Positive other → Positive (if t then refused n i at else other)
positive-test true n i at h other p = positive-number h
positive-test false n i at h other p = p

positive-one : (i : ℕ) (text : List ℕ) (room : ℕ) (prog : List Rule) → Positive (as_one i text room prog)
unfolding as_one in_text answer_for
positive-one i text room prog = go (leb (size_rules prog) room && leb (size_rules prog) 4096)
  where
    go : (t : Bool) → Positive (let a = if t then accepted (table prog) (finishing prog) else one.refused 20 (part_of (end_of text)) in in_text i a (told_if a prog))
    go true = positive-link
    go false = positive-number (omega arith)

pub positive : (common_text : List ℕ) (c : Common) (n : Names) (last_text : List ℕ) (os : List Object) (room : ℕ) → Positive (link common_text c n last_text os room)
unfolding link
positive common_text c n last_text os room =
    let all = rules_of os in
    let others = names_in_all c.sections in
    positive-test (eqb (length os) 0 || ltb 16 (length os)) 9 0 (part_of (end_of common_text)) (omega arith) _
    (positive-check 5 (omega arith) (first_typed all) _
    (positive-check 49 (omega arith) (unlike_in c.listed all 1 os) _
    (positive-check 50 (omega arith) (twice_in [] 1 os) _
    (positive-check 9 (omega arith) (past_limit_in (min 128 c.left) 1 os) _
    (positive-check 9 (omega arith) (past_made n others (length all) os (pairs_in os)) _
    (positive-one (length os) last_text room (program n others os)))))))

-- What was answered with 0

values_of : (ws : List ℕ) → Below 65536 ws → Values ws
unfolding Values
values_of [] h = tt
values_of (w ∷ ws) h = (h 0, values_of ws (λ i. h (suc i)))

abbrev Answers40 : Linked → Type 0
Answers40 answer = (text : ℕ) × (answer ≡ refused 40 text (record { start = 0; size = 0 }))

-- the words are objects, or the answer is 40
objects-or-40 : (common : List ℕ) (c : Common) (n : Names) (objects : List ℕ) → Slice objects → (room : ℕ) (answer : Linked) → LinksWords common c n (words_of objects) room answer
    → AreObjects common c n (words_of objects) ⊎ Answers40 answer
objects-or-40 common c n objects s room answer h = go (are_objects c.listed n common (words_of objects)) refl
  where
    go : (t : Bool) → are_objects c.listed n common (words_of objects) ≡ t → AreObjects common c n (words_of objects) ⊎ Answers40 answer
    go true e = inl (pass-objects common c n (words_of objects) (values_of (words_of objects) (small-words objects s.bytes)) e)
    go false e = inr (h.not_objects (λ a. never (sym e ∙ objects-pass common c n (words_of objects) a)))

record Zero (common objects : List ℕ) (room : ℕ) (answer : Linked) : Type 0 where
  c : Common
  rest : List Word
  reads : read_common common ≡ got c rest
  n : Names
  means : common_means c [] ≡ good n
  answers : LinksWords common c n (words_of objects) room answer
  are : AreObjects common c n (words_of objects)
  words : List ℕ
  verdict : Bool
  told : Told
  is : answer ≡ linked words verdict told
  so : link common c n (replicate (last_length are.lengths) 0) are.objects room ≡ linked words verdict told

zero-links : (common objects : List ℕ) → Slice objects → (room : ℕ) (answer : Linked) → LinkAnswer common objects room answer → (link_numbers answer).others.number ≡ 0 → Zero common objects room answer
unfolding link_numbers numbers_of
zero-links common objects s room answer (refuses h) z = absurd (h (omega (arith, z)))
zero-links common objects s room answer (links {c = c} {rest = rest} {n = n} r m h) z = go (objects-or-40 common c n objects s room answer h)
  where
    one_of : Positive answer → (a : Linked) → answer ≡ a → (link_numbers a).others.number ≡ 0 → (words : List ℕ) × (verdict : Bool) × (told : Told) × (answer ≡ linked words verdict told)
    one_of p (linked words verdict told) e y = (words, verdict, told, e)
    one_of p (refused number text at) e y = absurd (omega (arith, p.says number text at e, y))

    go : AreObjects common c n (words_of objects) ⊎ Answers40 answer → Zero common objects room answer
    go (inl a) =
        let e = h.linked_so a in
        let d = one_of (rw e (positive common c n _ a.objects room)) answer refl z in
        record { c = c; rest = rest; reads = r; n = n; means = m; answers = h; are = a; words = d.0; verdict = d.1; told = d.2; is = d.3; so = sym e ∙ d.3 }
    go (inr p) =
        let y : ◌≡◌ {A = ℕ} 40 0 = ap (λ (a : Linked). (link_numbers a).others.number) (sym p.1) ∙ z in
        absurd (omega (arith, y))

module _ (common objects lent bytes : List ℕ) (x : LinkNumbers) (p : LinksBytes common objects lent bytes x) (z : x.others.number ≡ 0) where
  linked-0 : Zero common objects (count lent) p.answer
  linked-0 = zero-links common objects p.source (count lent) p.answer p.answers (ap (λ (y : LinkNumbers). y.others.number) (sym p.numbers) ∙ z)

  module _ (o : Zero common objects (count lent) p.answer) where
    others-are : x.others ≡ numbers_of (accepted o.words o.verdict) o.told
    unfolding link_numbers
    others-are = ap (λ (y : LinkNumbers). y.others) (p.numbers ∙ ap link_numbers o.is)

    bytes-are : bytes ≡ one.lent_bytes (accepted o.words o.verdict) lent
    unfolding lent_bytes as_answer
    bytes-are = p.bytes ∙ ap (λ (a : Linked). lent_bytes a lent) o.is

pub from-linking : FromLinking
unfolding numbers_of
from-linking common objects lent bytes x p z = go (linked-0 common objects lent bytes x p z)
  where
    go : Zero common objects (count lent) p.answer → ClaimedLinked common objects bytes x
    go o =
        let prog = linked_rules o.c o.n o.are.objects in
        let t = any-objects common o.c o.rest o.reads o.n o.means _ o.are.objects (count lent) o.words o.verdict o.told o.are.sound o.so in
        let n = others-are common objects lent bytes x p z o in
        let b = bytes-are common objects lent bytes x p z o in
        let f : x.others.figure ≡ o.told.figure = ap (λ (y : Numbers). y.figure) n in
        record {
          common_is = o.c;
          rest = o.rest;
          reads = o.reads;
          names = o.n;
          means = o.means;
          are = o.are;
          words = o.words;
          verdict = o.verdict;
          told_words = ap (λ (y : Numbers). y.words) n;
          told_verdict = ap (λ (y : Numbers). y.finishing) n;
          accepts = t.works.accepts;
          words_are = t.words_are;
          left = rw b (lent-begins prog (count lent) o.words o.verdict o.told t lent p.buffer);
          claim = rw f (at-linking prog (count lent) o.words o.verdict o.told t);
        }

pub from_parts : FromParts
from_parts common objects lent bytes x p z parts h short = go (linked-0 common objects lent bytes x p z)
  where
    go : Zero common objects (count lent) p.answer → Processed (joined_text common parts) lent bytes x.others
    go o =
        let e = made-joined common o.c o.rest o.reads o.n o.means parts (words_of objects) h (count lent) o.words o.verdict o.told (rw o.is at o.answers) short in
        record {
          buffer = p.buffer;
          numbers = rw (e.0, e.1) (others-are common objects lent bytes x p z o);
          bytes = rw e.0 (bytes-are common objects lent bytes x p z o);
        }

-- the answer that the code gives is such an answer
pub answered-links : (common objects : List ℕ) (room : ℕ) {a : Linked} → Answered common objects room a → LinkAnswer common objects room a
answered-links common objects room x = answer-ways (LinkAnswer common objects room) (λ c rest n a e f g. links e f g) (λ k t p z. refuses z) x
