-- What is answered for bytes with a common part that is in order; and one answer for the same bytes.
use mathlib.Core.Bool.{Bool, true, false, ◌&&◌}
use mathlib.Core.List.{List, ◌++◌, append_assoc}
use mathlib.Core.Option.{Option, none, some}
use mathlib.Core.Path.{◌≡◌, refl, sym, ap, ◌∙◌}
use native.Mathlib.Omega.{arith}
use Prim.Native.Nat.{ℕ, ◌+◌, ◌*◌, ◌-◌, ◌<◌, ◌≤◌}
use lib.Dec.{leb}
use lib.ListN.{length, get_or, take, drop, replicate}
use lib.Seq.{take_at}
use Rattle.std.specs.Prelude.{if◌then◌else◌}
use Rattle.figure.specs.Told.{Told, untold, told_if}
use Rattle.finishing.specs.Test.{finishing}
use Rattle.std.specs.Prelude.{Some, None}
use Rattle.linking.specs.Answered.{AreBytes, no_objects, joined, linked_as, Leaves, Links}
use Rattle.linking.specs.Linking.{Rowed, checked, Passed, Finds, faulty, passed, behind_checks, Sound, LinksSound}
use Rattle.linking.specs.declared.Fault.{Fault}
use Rattle.linking.specs.declared.Linked as code
use Rattle.linking.specs.declared.Shared.{Shared}
use Rattle.machine.proofs.Bytes.{length-words_of, words_of-append}
use Rattle.machine.specs.Bytes.{count, words_of}
use Rattle.names.specs.Known.{Names}
use Rattle.objects.proofs.Tested.{check_sound}
use Rattle.objects.specs.Whole.{are_objects, good_views, evenly, Decides}
use Rattle.parts.specs.Form.{AreObjects, last_length}
use Rattle.parts.specs.Link.{Linked, linked, refused, Found, program, refused_at, in_text, as_one, link, as_answer, lent_bytes}
use Rattle.parts.specs.Objects.{Object}
use Rattle.processor.specs.Process as one
use Rattle.processor.specs.Process.{Part, part_of, Answer, accepted, answer_for}
use Rattle.program.specs.Program.{Rule}
use Rattle.program.specs.Table.{size_rules, table}
use Rattle.syntax.specs.Parse.{end_of}
use Rattle.syntax.specs.Sections.{names_in_all}
use Rattle.syntax.specs.Texts.{Common}
use Rattle.translator.specs.Answered.{answered}
use Rattle.translator.specs.declared.Answer as processed

-- a refusal as the processor leaves it, in a text
pub refused-so : {number start len text : ℕ} {old new : List ℕ} {a : processed.Answer} {r : code.Linked} → a ≡ answered (one.refused number (record { start = start; size = len })) untold → new ≡ one.lent_bytes (one.refused number (record { start = start; size = len })) old
    → r ≡ record { number = a.number; text = text; start = a.start; len = a.len; words = a.words; finishing = a.finishing; figure = a.figure; check = a.check }
    → Leaves (refused number text (record { start = start; size = len })) old new r
unfolding answered linked_as lent_bytes as_answer untold
refused-so e l d = record { answer = d ∙ rw e refl; lent = l }

-- so few objects stand in so few bytes
pub few-good : (objects : List ℕ) (good : ℕ) → 7 * good ≤ length (words_of objects) → length objects < 18446744073709551616 → good + 1 < 18446744073709551616
unfolding count
few-good objects good h l = let e = length-words_of objects in omega (arith, h, l, e)

-- `link` is the checks and what is behind them
link-is : (common : List ℕ) (c : Common) (n : Names) (last : List ℕ) (os : List Object) (room : ℕ) → link common c n last os room ≡ checked common c os (behind_checks c n last os room)
unfolding link checked behind_checks
link-is common c n last os room = refl

passed_on : (common : List ℕ) (c : Common) (os : List Object) (other : Linked) → Passed common c os → checked common c os other ≡ other
unfolding checked refused_at
passed_on common c os other p = rw (p.number, p.untyped, p.alike, p.once, p.few) refl

told-fields : (a b c d : ℕ) → a ≡ c → b ≡ d → ◌≡◌ {A = Told} (record { figure = a; number = b }) (record { figure = c; number = d })
told-fields a b c d e h = rw (e, h) refl

part-fields : (a b c d : ℕ) → a ≡ c → b ≡ d → ◌≡◌ {A = Part} (record { start = a; size = b }) (record { start = c; size = d })
part-fields a b c d e h = rw (e, h) refl

-- What is left tells the answer: the number is 0 for a table alone

unfoldable Shows : Linked → Type 0
Shows (linked words verdict f) = Unit {0}
Shows (refused number text at) = number ≡ 0 → ⊥

at-shows : (k : ℕ) → (k ≡ 0 → ⊥) → (o : Option Found) (other : Linked) → Shows other → Shows (refused_at k o other)
unfolding Shows refused_at
at-shows k z none other h = h
at-shows k z (some f) other h = z

one-shows : (i : ℕ) (text : List ℕ) (room : ℕ) (prog : List Rule) → Shows (as_one i text room prog)
unfolding Shows as_one in_text answer_for
one-shows i text room prog = go (leb (size_rules prog) room && leb (size_rules prog) 4096)
  where
    go : (t : Bool) → Shows (in_text i (if t then accepted (table prog) (finishing prog) else one.refused 20 (part_of (end_of text))) (told_if (if t then accepted (table prog) (finishing prog) else one.refused 20 (part_of (end_of text))) prog))
    go true = tt
    go false = λ z. omega (arith, z)

behind-shows : (c : Common) (n : Names) (last : List ℕ) (os : List Object) (room : ℕ) → Shows (behind_checks c n last os room)
unfolding behind_checks
behind-shows c n last os room = at-shows 9 (λ z. omega (arith, z)) _ _ (one-shows (length os) last room (program n (names_in_all c.sections) os))

-- the words of a table in front of what was lent
lent-front : (words : List ℕ) (verdict : Bool) (f : Told) (old : List ℕ) → take (length words) (words_of (lent_bytes (linked words verdict f) old)) ≡ words
unfolding lent_bytes as_answer one.lent_bytes one.lent_words
lent-front words verdict f old =
    let zeros = replicate {A = ℕ} (count old - length words) 0 in
    let more = words_of (drop (2 * count old) old) in
    ap (take (length words)) (words_of-append (words ++ zeros) (drop (2 * count old) old) ∙ append_assoc words zeros more) ∙ take_at words (zeros ++ more) (length words) refl

same_left : (a b : Linked) → Shows a → Shows b → {old new : List ℕ} {r : code.Linked} → Leaves a old new r → Leaves b old new r → a ≡ b
unfolding Shows linked_as
same_left (linked words verdict f) (linked words' verdict' f') x y {old} {new} {r} l m =
    let e = sym l.answer ∙ m.answer in
    let long : length words ≡ length words' = ap (λ (s : code.Linked). s.words) e in
    let w : words ≡ words' = sym (lent-front words verdict f old) ∙ ap (λ (k : ℕ). take k (words_of (lent_bytes (linked words verdict f) old))) long ∙ ap (λ (s : List ℕ). take (length words') (words_of s)) (sym l.lent ∙ m.lent) ∙ lent-front words' verdict' f' old in
    let v : verdict ≡ verdict' = ap (λ (s : code.Linked). s.finishing) e in
    let g : f ≡ f' = told-fields f.figure f.number f'.figure f'.number (ap (λ (s : code.Linked). s.figure) e) (ap (λ (s : code.Linked). s.check) e) in
    rw (w, v, g) refl
same_left (linked words verdict f) (refused number text at) x y l m = absurd (y (sym (ap (λ (s : code.Linked). s.number) (sym l.answer ∙ m.answer))))
same_left (refused number text at) (linked words verdict f) x y l m = absurd (x (ap (λ (s : code.Linked). s.number) (sym l.answer ∙ m.answer)))
same_left (refused number text at) (refused number' text' at') x y l m =
    let e = sym l.answer ∙ m.answer in
    let p : at ≡ at' = part-fields at.start at.size at'.start at'.size (ap (λ (s : code.Linked). s.start) e) (ap (λ (s : code.Linked). s.len) e) in
    let n : number ≡ number' = ap (λ (s : code.Linked). s.number) e in
    let t : text ≡ text' = ap (λ (s : code.Linked). s.text) e in
    rw (n, t, p) refl

-- the refusal of a fault
abbrev refusal : Fault → Linked
refusal f = refused f.number f.text (record { start = f.start; size = f.len })

module _ {common rows : List ℕ} (objects : List ℕ) {shared : Shared} {c : Common} {n : Names} (x : Rowed common rows shared c n) (low : (i : ℕ) → get_or objects i 0 < 256) {ok : Bool} (e : ok ≡ (are_objects c.listed n common (words_of objects) && evenly objects)) where
  decides : Decides common c n objects ok
  decides = check_sound common c n objects ok low e

  pub are_bytes : ok ≡ true → AreBytes common c n objects
  are_bytes t = record { even = decides.words t; are = decides.objects t }

  pub no_bytes : {good : ℕ} {old new : List ℕ} {r : code.Linked} → ok ≡ false → good ≡ good_views c.listed n common (length (words_of objects)) (words_of objects)
      → Leaves (refused 40 (good + 1) (record { start = 0; size = 0 })) old new r → Links common objects old new r
  no_bytes {good} {old} {new} {r} f g l =
      let z : good + 1 ≡ 1 + good_views c.listed n common (length (words_of objects)) (words_of objects) = omega (arith, g) in
      record { answer = _; answers = no_objects x.is (λ a. decides.no_objects f a.even a.are); leaves = rw z at l }

  module _ (t : ok ≡ true) where
    -- a fault of any reading is that of every reading
    fault-is : {f : Fault} → ((h : AreObjects common c n (words_of objects)) → Finds common c h.objects (Some f)) → (h : AreObjects common c n (words_of objects)) (room : ℕ)
        → refusal f ≡ link common c n (replicate {A = ℕ} (last_length h.lengths) 0) h.objects room
    fault-is {f} finds h room = go (finds h)
      where
        last : List ℕ
        last = replicate {A = ℕ} (last_length h.lengths) 0

        go : Finds common c h.objects (Some f) → refusal f ≡ link common c n last h.objects room
        go (faulty k g) = sym (link-is common c n last h.objects room ∙ g (behind_checks c n last h.objects room))

    pub one-fault : {f : Fault} → ((h : AreObjects common c n (words_of objects)) → Finds common c h.objects (Some f)) → {old new : List ℕ} {r : code.Linked} → Leaves (refusal f) old new r → Links common objects old new r
    one-fault {f} finds {old} l = record { answer = refusal f; answers = joined x.is (are_bytes t) (λ h. fault-is finds h (count old)); leaves = l }

    module _ (finds : (h : AreObjects common c n (words_of objects)) → Finds common c h.objects None) where
      pub all-passed : (h : AreObjects common c n (words_of objects)) → Passed common c h.objects
      all-passed h = go (finds h)
        where
          go : Finds common c h.objects None → Passed common c h.objects
          go (passed p) = p

      pub sound : Sound common rows objects shared
      sound = let h = (are_bytes t).are in record { common_is = c; names = n; rowed = x; are = h; passes = all-passed h }

      -- what was left is linked, for every reading
      pub rules-linked : {old new : List ℕ} {r : code.Linked} → LinksSound common rows objects shared old new r → Links common objects old new r
      rules-linked {old} {new} {r} l =
          let h = (are_bytes t).are in
          let answer = behind_checks c n (replicate {A = ℕ} (last_length h.lengths) 0) h.objects (count old) in
          record { answer = answer; answers = joined x.is (are_bytes t) same_answer; leaves = l c n x h (all-passed h) }
        where
          same_answer : (h : AreObjects common c n (words_of objects)) → behind_checks c n (replicate {A = ℕ} (last_length (are_bytes t).are.lengths) 0) (are_bytes t).are.objects (count old) ≡ link common c n (replicate {A = ℕ} (last_length h.lengths) 0) h.objects (count old)
          same_answer h =
              let h₀ = (are_bytes t).are in
              let last = replicate {A = ℕ} (last_length h.lengths) 0 in
              same_left _ _ (behind-shows c n (replicate {A = ℕ} (last_length h₀.lengths) 0) h₀.objects (count old)) (behind-shows c n last h.objects (count old)) (l c n x h₀ (all-passed h₀)) (l c n x h (all-passed h))
              ∙ sym (link-is common c n last h.objects (count old) ∙ passed_on common c h.objects (behind_checks c n last h.objects (count old)) (all-passed h))
