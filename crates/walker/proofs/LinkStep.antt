-- One step of the code's definitions is one turn of the machine's call.
use mathlib.Core.Path.{◌≡◌, refl, sym, ap, subst, ◌∙◌}
use mathlib.Core.Bool.{Bool, true, false}
use mathlib.Core.List.{List, [], ◌∷◌, ◌++◌, reverse}
use mathlib.Core.Option.{Option, none, some}
use Prim.Native.Nat.{ℕ, zero, suc, ◌+◌, ◌*◌, ◌-◌, ◌%◌, ◌<◌, ◌≤◌}
use native.Mathlib.Numerals.{add-one}
use native.Mathlib.Omega.{arith}
use lib.Dec.{eqb, leb, ltb}
use lib.ListN.{length, take, get_or, set}
use borrow.Author.Tests.{lt-ltb, le-ltb, le-leb, lt-leb, ne_eqb, eqb-true, eqb-false, leb-true, leb-false, ltb-true, ltb-false}
use Rattle.std.specs.Prelude.{if◌then◌else◌}
use Rattle.base.specs.Bools.{split}
use Rattle.events.specs.Events as events
use Rattle.events.specs.Events.{present, answer, took, mends, spent, is}
use Rattle.machine.specs.Bytes.{count, words_of, word_at, table_of}
use Rattle.machine.specs.Lengths.{length_of, lengths}
use Rattle.machine.proofs.Lengths.{length-operation, length-between, length_above}
use Rattle.machine.specs.Decode as decoding
use Rattle.machine.specs.Decode.{fetch, decode_word, decode_one, decode_two, decode_operation}
use Rattle.machine.specs.Walk as machine
use Rattle.machine.specs.Walk.{going, waiting}
use Rattle.machine.specs.Step as stepping
use Rattle.machine.specs.Step.{goes_outside, goes, tells, asks, go_to, seek, seek_by, landed, branched, input_choosing, calling, returning, requiring, exec, step}
use Rattle.machine.specs.Call.{Mode, whole, paused, waits, ends, ends_for, Turn, over, further, turn, writing, takes, hands_out}
use Rattle.walker.specs.declared.Event.{Event}
use Rattle.walker.specs.declared.Event.TheVariants.{Output, Plain, With}
use Rattle.walker.specs.declared.Next.{Next}
use Rattle.walker.specs.declared.Next.TheVariants.{Full, Stop, On, Tells, Push, Waits}
use Rattle.walker.specs.declared.Reason.TheVariants.{Unlabelled}
use Rattle.walker.specs.declared.Registers.{Registers}
use Rattle.walker.specs.declared.Target.{Target}
use Rattle.walker.specs.declared.Target.TheVariants.{Label, Otherwise}
use Rattle.walker.specs.View.{reason_of, event_of, walk_in}
use Rattle.walker.specs.Linked.{Bytes}
use Rattle.walker.specs.Shape.{size, find_from, operand, otherwise_of, label_of, labelled_of, table_at, labels_at, inside_table, choice_of, default_of, take_input, take_other, moved, read_one, with_result, with_parameter, with_depth, forward_of, back_of, mend_of, input_of, any_of, tell_of, input_choice_of, call_of, back_to, return_of, ask_of, answer_of, act_of, operate_of, fetched_of, step_of}
use Rattle.walker.proofs.LinkWords.{word_small, word_in, word_out, length-table, fetch-in, fetch-at, fetch-zero, fetch-behind, fetch-out, push-returns, pop-returns, length-returns, eqb_comm, one_more_lem, one_less}

-- the walk of the machine inside a call that has written the events es
unfoldable pub with_events : List events.Event → machine.Walk → machine.Walk
with_events es w = machine.with_io (record { read = w.io.read; used = w.io.used; allowance = w.io.allowance; events = es }) w

abbrev pub in_call : List events.Event → Registers → List ℕ → machine.Walk
in_call es r rs = with_events es (walk_in going r rs)

-- what the call does with the code's next, as the machine's definitions have it
unfoldable pub turn_of : ℕ → ℕ → List events.Event → Registers → List ℕ → Next → Turn
turn_of room n es r rs Full = over (ends 35 n (in_call es r rs))
turn_of room n es r rs Next.Outside = over (ends_for events.outside n (in_call es r rs))
turn_of room n es r rs (Stop x) = over (ends_for (reason_of x) (n + 1) (in_call es r rs))
turn_of room n es r rs (On v) = further room (in_call es v rs)
turn_of room n es r rs (Tells v e) = further (room - 3) (in_call (es ++ (event_of e ∷ [])) v rs)
turn_of room n es r rs (Push v l) = further room (in_call es (with_depth v (v.depth + 1)) (set rs v.depth l))
turn_of room n es r rs (Waits v e) = over (ends waits (n + 1) (machine.in_phase waiting (in_call (es ++ (event_of e ∷ [])) v rs)))

-- Choices

-- where the machine goes from a choice: `taken` by a label, w by the default
land_of : Target → machine.Walk → machine.Walk → stepping.Next
land_of (Label l) taken w = goes (machine.moved l taken)
land_of (Otherwise l) taken w = goes (machine.moved l w)
land_of Target.Outside taken w = goes_outside

module _ (t K : List ℕ) where
  -- on to a location inside the table, or not
  go-in : (l : ℕ) (w : machine.Walk) → 1 ≤ l → l ≤ size t → go_to (table_of t) K l w ≡ goes (machine.moved l w)
  unfolding go_to
  go-in l w p h = rw (fetch-at t l p h)

  go-out : (l : ℕ) (w : machine.Walk) → size t < l → go_to (table_of t) K l w ≡ goes_outside
  unfolding go_to
  go-out l w h = rw (fetch-out t l h)

  go-zero : (w : machine.Walk) → go_to (table_of t) K 0 w ≡ goes_outside
  unfolding go_to
  go-zero w = rw (fetch-zero t)

  -- the label found among those from i on
  sought : ℕ → ℕ → ℕ → Option ℕ
  sought b c i = if ltb i c then some (b + 2 * i + 2) else none

  seek-find : (b c x left i l : ℕ) → i + left ≡ c → b + 2 * c ≤ size t → l ≡ b + 2 * i + 1 → seek (table_of t) K x left l ≡ sought b c (find_from t b x left i)
  unfolding seek find_from sought is
  seek-find b c x zero i l e h f = rw (le-ltb i c (omega arith))
  seek-find b c x (suc left) i l e h f =
      let g : fetch (table_of t) l ≡ some (word_at t (b + 2 * i)) = rw (f, add-one) (fetch-in t (b + 2 * i) (omega arith)) in
      split (eqb (word_at t (b + 2 * i)) x)
      (λ y. rw (g, y, eqb_comm x (word_at t (b + 2 * i)) ∙ y, lt-ltb i c (omega arith)) (ap some (omega arith)))
      (λ y. rw (g, y, eqb_comm x (word_at t (b + 2 * i)) ∙ y) (seek-find b c x left (i + 1) (l + 2) (omega arith) h (omega arith)))

  label-lands : (b c i : ℕ) (taken w : machine.Walk) → i < c → b + 2 * c ≤ size t
      → landed (table_of t) K (some (b + 2 * i + 2)) (b + 1 + 2 * c) taken w ≡ land_of (label_of t (b + 2 * i)) taken w
  unfolding landed label_of land_of
  label-lands b c i taken w h f =
      let x = word_at t (b + 2 * i + 1) in
      let e : b + 2 * i + 2 ≡ suc (b + 2 * i + 1) = omega arith in
      let g : fetch (table_of t) (b + 2 * i + 2) ≡ some x = rw e (fetch-in t (b + 2 * i + 1) (omega arith)) in
      split (ltb x (b + 2 * i + 2))
      (λ y. let z = ltb-true x (b + 2 * i + 2) y in rw (g, landed, y) (go-in (b + 2 * i + 2 - x) taken (omega arith) (omega arith)))
      (λ y. let z = ltb-false x (b + 2 * i + 2) y in let o : b + 2 * i + 2 - x ≡ 0 = omega arith in rw (g, landed, y, o) (go-zero taken))

  otherwise-lands : (b c : ℕ) (taken w : machine.Walk) → landed (table_of t) K none (b + 1 + 2 * c) taken w ≡ land_of (otherwise_of (size t) (b + 2 * c)) taken w
  unfolding landed otherwise_of land_of
  otherwise-lands b c taken w =
      let e : b + 1 + 2 * c ≡ b + 2 * c + 1 = omega arith in
      split (leb (b + 2 * c + 1) (size t))
      (λ y. rw (e, y) (go-in (b + 2 * c + 1) w (omega arith) (leb-true (b + 2 * c + 1) (size t) y)))
      (λ y. rw (e, y) (go-out (b + 2 * c + 1) w (leb-false (b + 2 * c + 1) (size t) y)))

  labelled-lands : (b c x : ℕ) (taken w : machine.Walk) → b + 2 * c ≤ size t
      → landed (table_of t) K (seek (table_of t) K x c (b + 1)) (b + 1 + 2 * c) taken w ≡ land_of (labelled_of t b c x) taken w
  unfolding labelled_of sought
  labelled-lands b c x taken w f =
      let i = find_from t b x c 0 in
      rw (seek-find b c x c 0 (b + 1) (omega arith) f (omega arith))
      (split (ltb i c)
      (λ y. rw y (label-lands b c i taken w (ltb-true i c y) f))
      (λ y. rw y (otherwise-lands b c taken w)))

  -- the choice table of the instruction at l, for a value or none
  inside-lands : (l : ℕ) (x : Option ℕ) (g : Target) (taken w : machine.Walk)
      → (table_at t l + 2 * labels_at t l ≤ size t → landed (table_of t) K (seek_by (table_of t) K x (labels_at t l) (table_at t l + 1)) (table_at t l + 1 + 2 * labels_at t l) taken w ≡ land_of g taken w)
      → branched (table_of t) K (fetch (table_of t) (table_at t l)) x (table_at t l) taken w ≡ land_of (inside_table t l g) taken w
  unfolding branched inside_table land_of
  inside-lands l x g taken w lands =
      split (leb (table_at t l) (size t))
      (λ y. rw (fetch-at t (table_at t l) (omega arith) (leb-true (table_at t l) (size t) y), y, length-table t)
      (split (leb (table_at t l + 2 * labels_at t l) (size t))
      (λ z. rw z (lands (leb-true (table_at t l + 2 * labels_at t l) (size t) z)))
      (λ z. rw z)))
      (λ y. rw (fetch-out t (table_at t l) (leb-false (table_at t l) (size t) y), y))

  choice-lands : (l x : ℕ) (taken w : machine.Walk)
      → branched (table_of t) K (fetch (table_of t) (table_at t l)) (some x) (table_at t l) taken w ≡ land_of (choice_of t l x) taken w
  unfolding seek_by
  choice-lands l x taken w = inside-lands l (some x) (labelled_of t (table_at t l) (labels_at t l) x) taken w (labelled-lands (table_at t l) (labels_at t l) x taken w)

  default-lands : (l : ℕ) (taken w : machine.Walk)
      → branched (table_of t) K (fetch (table_of t) (table_at t l)) none (table_at t l) taken w ≡ land_of (default_of t l) taken w
  unfolding seek_by
  default-lands l taken w = inside-lands l none (otherwise_of (size t) (table_at t l + 2 * labels_at t l)) taken w (λ f. otherwise-lands (table_at t l) (labels_at t l) taken w)

-- Instructions: r and rs at a call that has written es and has done n steps, with so much room left

module _ (t k : List ℕ) (m : Mode) (room n : ℕ) (es : List events.Event) (r : Registers) (rs : List ℕ) where
  -- the machine's next and the code's are the same turn of the call
  abbrev Same : stepping.Next → Next → Type 0
  Same x y = turn m room n (in_call es r rs) x ≡ turn_of room n es r rs y

  forward-same : Same (go_to (table_of t) (words_of k) (table_at t r.location) (in_call es r rs)) (forward_of t r)
  unfolding turn turn_of forward_of with_events walk_in machine.opened
  forward-same =
      let l = table_at t r.location in
      split (leb l (size t))
      (λ y. rw (go-in t (words_of k) l (in_call es r rs) (omega arith) (leb-true l (size t) y), y))
      (λ y. rw (go-out t (words_of k) l (in_call es r rs) (leb-false l (size t) y), y))

  back-same : r.location < size t → Same (go_to (table_of t) (words_of k) (r.location + 1 - operand t r.location) (in_call es r rs)) (back_of t r)
  unfolding turn turn_of back_of with_events walk_in machine.opened
  back-same h =
      let x = operand t r.location in
      split (leb x r.location)
      (λ y. let z = leb-true x r.location y in rw (go-in t (words_of k) (r.location + 1 - x) (in_call es r rs) (omega arith) (omega arith), y))
      (λ y. let z = leb-false x r.location y in let o : r.location + 1 - x ≡ 0 = omega arith in rw (o, go-zero t (words_of k) (in_call es r rs), y))

  present-in : r.read < count k → present (words_of k) (in_call es r rs).io ≡ some (word_at k r.read)
  unfolding present with_events walk_in machine.opened
  present-in h = word_in k r.read h

  present-out : count k ≤ r.read → present (words_of k) (in_call es r rs).io ≡ none
  unfolding present with_events walk_in machine.opened
  present-out h = word_out k r.read h

  -- a required token that is not there
  mend-same : Same (requiring (table_of t) (words_of k) (operand t r.location) false (in_call es r rs)) (mend_of t room r)
  unfolding turn turn_of requiring mend_of tell_of with_events walk_in machine.opened mends spent writing events.wrote event_of reason_of
  mend-same =
      split (ltb 0 (r.allowance % 65536))
      (λ y. rw (y, ← one_less r.allowance (ltb-true 0 (r.allowance % 65536) y)) (split (leb 3 room)
      (λ z. rw (z, le-ltb room 3 (leb-true 3 room z)))
      (λ z. rw (z, lt-ltb room 3 (leb-false 3 room z)))))
      (λ y. rw y)

  there-same : Same (requiring (table_of t) (words_of k) (operand t r.location) true (in_call es r rs)) (On (read_one (moved r (r.location + 2))))
  unfolding turn turn_of requiring with_events walk_in machine.opened took
  there-same = refl

  input-same : Same (exec (table_of t) (words_of k) (decoding.input (operand t r.location)) (in_call es r rs)) (input_of t k room r)
  unfolding exec input_of is
  input-same =
      let x = operand t r.location in
      let u = word_at k r.read in
      split (ltb r.read (count k))
      (λ y. rw (present-in (ltb-true r.read (count k) y), y, eqb_comm x u) (split (eqb u x) (λ z. rw z there-same) (λ z. rw z mend-same)))
      (λ y. rw (present-out (ltb-false r.read (count k) y), y) mend-same)

  any_same : Same (exec (table_of t) (words_of k) decoding.input_any (in_call es r rs)) (any_of k r)
  unfolding turn turn_of exec any_of with_events walk_in machine.opened took reason_of
  any_same =
      split (ltb r.read (count k))
      (λ y. rw (present-in (ltb-true r.read (count k) y), y))
      (λ y. rw (present-out (ltb-false r.read (count k) y), y))

  tell-same : (l : ℕ) (e : Event) → Same (tells (event_of e) (machine.moved l (in_call es r rs))) (tell_of room l e r)
  unfolding turn turn_of tell_of with_events walk_in machine.opened writing events.wrote
  tell-same l e =
      split (leb 3 room)
      (λ y. rw (y, le-ltb room 3 (leb-true 3 room y)))
      (λ y. rw (y, lt-ltb room 3 (leb-false 3 room y)))

  other-same : (g : Target) → Same (land_of g (in_call es r rs) (in_call es r rs)) (take_other r g)
  unfolding turn turn_of take_other with_events walk_in machine.opened land_of
  other-same (Label l) = refl
  other-same (Otherwise l) = refl
  other-same Target.Outside = refl

  taken-same : (x : ℕ) (g : Target) → x % 65536 ≡ x → Same (land_of g (machine.with_io (took (in_call es r rs).io) (machine.with_result x (in_call es r rs))) (machine.with_result x (in_call es r rs))) (take_input r x g)
  unfolding turn turn_of take_input with_events walk_in machine.opened land_of took
  taken-same x (Label l) e = rw e
  taken-same x (Otherwise l) e = rw e
  taken-same x Target.Outside e = refl

  choice-same : Same (exec (table_of t) (words_of k) (decoding.choice (table_at t r.location)) (in_call es r rs)) (take_other r (choice_of t r.location (r.result % 65536)))
  unfolding exec with_events walk_in machine.with_io
  choice-same = ap (turn m room n (in_call es r rs)) (choice-lands t (words_of k) r.location (r.result % 65536) (in_call es r rs) (in_call es r rs)) ∙ other-same (choice_of t r.location (r.result % 65536))

  input_choice-same : Bytes k → Same (exec (table_of t) (words_of k) (decoding.input_choice (table_at t r.location)) (in_call es r rs)) (input_choice_of t k r)
  unfolding exec input_choosing input_choice_of
  input_choice-same small =
      let w = in_call es r rs in
      let x = word_at k r.read in
      split (ltb r.read (count k))
      (λ y. rw (present-in (ltb-true r.read (count k) y), y)
      (ap (turn m room n w) (choice-lands t (words_of k) r.location x (machine.with_io (took w.io) (machine.with_result x w)) (machine.with_result x w)) ∙ taken-same x (choice_of t r.location x) (word_small k small r.read)))
      (λ y. rw (present-out (ltb-false r.read (count k) y), y)
      (ap (turn m room n w) (default-lands t (words_of k) r.location w w) ∙ other-same (default_of t r.location)))

  call_same : length rs ≡ 64 → Same (calling (table_of t) (words_of k) (operand t r.location) (in_call es r rs)) (call_of t r)
  unfolding turn turn_of calling call_of with_events walk_in machine.opened reason_of
  call_same s =
      let x = operand t r.location in
      let f = length-returns rs r.depth in
      split (eqb x 0)
      (λ y. rw (ap (fetch (table_of t)) (eqb-true x 0 y) ∙ fetch-zero t, y))
      (λ y. let ne : x ≡ 0 → ⊥ = eqb-false x 0 y in
      split (leb x (size t))
      (λ z. rw (fetch-at t x (omega arith) (leb-true x (size t) z), y, z)
      (split (ltb r.depth 64)
      (λ u. let b = ltb-true r.depth 64 u in
      rw (u, lt-ltb (length (reverse (take r.depth rs))) 64 (omega arith), push-returns rs r.depth (r.location + 2) (omega arith)))
      (λ u. let b = ltb-false r.depth 64 u in rw (u, le-ltb (length (reverse (take r.depth rs))) 64 (omega arith)))))
      (λ z. rw (fetch-out t x (leb-false x (size t) z), y, z)))

  back_to-same : (l : ℕ) → Same (go_to (table_of t) (words_of k) l (machine.with_returns (reverse (take (r.depth - 1) rs)) (in_call es r rs))) (back_to t l r)
  unfolding turn turn_of back_to with_events walk_in machine.opened
  back_to-same l =
      let v = machine.with_returns (reverse (take (r.depth - 1) rs)) (in_call es r rs) in
      split (eqb l 0)
      (λ y. rw (ap (λ (i : ℕ). go_to (table_of t) (words_of k) i v) (eqb-true l 0 y) ∙ go-zero t (words_of k) v, y))
      (λ y. let ne : l ≡ 0 → ⊥ = eqb-false l 0 y in
      split (leb l (size t))
      (λ z. rw (go-in t (words_of k) l v (omega arith) (leb-true l (size t) z), y, z))
      (λ z. rw (go-out t (words_of k) l v (leb-false l (size t) z), y, z)))

  return-same : length rs ≡ 64 → r.depth ≤ 64 → Same (returning (table_of t) (words_of k) (reverse (take r.depth rs)) (in_call es r rs)) (return_of rs t r)
  unfolding turn turn_of returning return_of reason_of
  return-same s d =
      let w = in_call es r rs in
      split (eqb r.depth 0)
      (λ y. ap (λ (i : ℕ). turn m room n w (returning (table_of t) (words_of k) (reverse (take i rs)) w)) (eqb-true r.depth 0 y) ∙ rw y)
      (λ y. let ne : r.depth ≡ 0 → ⊥ = eqb-false r.depth 0 y in
      ap (λ (l : List ℕ). turn m room n w (returning (table_of t) (words_of k) l w)) (pop-returns rs r.depth (omega arith) (omega arith))
      ∙ rw y (back_to-same (get_or rs (r.depth - 1) 0)))

-- A choice operation: a paused walk hands it out, a whole one takes the next of the answers a

module _ (t k a : List ℕ) (room n : ℕ) (es : List events.Event) (r : Registers) (rs : List ℕ) where
  waits-same : (e : Event) → Same t k (paused none) room n es r rs (asks (event_of e) (machine.moved (r.location + 1) (in_call es r rs))) (answer_of room true a e r)
  unfolding turn turn_of answer_of ask_of with_events walk_in machine.opened writing events.wrote hands_out
  waits-same e =
      split (leb 3 room)
      (λ y. rw (y, le-ltb room 3 (leb-true 3 room y)))
      (λ y. rw (y, lt-ltb room 3 (leb-false 3 room y)))

  takes_same : (e : Event) → Bytes a → r.used < 18446744073709551616
      → Same t k (whole (words_of a)) room n es r rs (asks (event_of e) (machine.moved (r.location + 1) (in_call es r rs))) (answer_of room false a e r)
  unfolding turn turn_of answer_of ask_of with_events walk_in machine.opened writing events.wrote events.answered hands_out takes answer reason_of
  takes_same e small h =
      split (leb 3 room)
      (λ y. rw (y, le-ltb room 3 (leb-true 3 room y))
      (split (ltb r.used (count a))
      (λ z. rw (z, word_in a r.used (ltb-true r.used (count a) z), one_more_lem r.used h, word_small a small r.used))
      (λ z. rw (z, word_out a r.used (ltb-false r.used (count a) z)))))
      (λ y. rw (y, lt-ltb room 3 (leb-false 3 room y)))

-- Numbers

-- the mode of a call
abbrev pub mode_of : Bool → List ℕ → Mode
mode_of true a = paused none
mode_of false a = whole (words_of a)

-- by whether a number is the least that it may be
or_above : (P : ℕ → Type 0) (n : ℕ) → P n → ((i : ℕ) → n < i → P i) → (i : ℕ) → n ≤ i → P i
or_above P n p above i h =
    split (eqb i n)
    (λ y. subst P (sym (eqb-true i n y)) p)
    (λ y. let ne : i ≡ n → ⊥ = eqb-false i n y in above i (omega arith))

module _ (t k a : List ℕ) (room n : ℕ) (q : Bool) (es : List events.Event) (r : Registers) (rs : List ℕ) (sized : length rs ≡ 64)
    (shallow : r.depth ≤ 64) (fits : r.used < 18446744073709551616) (inside : r.location ≤ size t) (small-t : Bytes t) (small-k : Bytes k) (small-a : Bytes a) where
  -- the machine's instruction and the code's next are the same turn of the call
  abbrev Does : decoding.Instruction → Next → Type 0
  Does i y = Same t k (mode_of q a) room n es r rs (exec (table_of t) (words_of k) i (in_call es r rs)) y

  -- the instruction i at r
  abbrev Number : ℕ → Type 0
  Number i = Does (decode_word r.location i (fetch (table_of t) (suc r.location))) (fetched_of rs t k a room q i r)

  -- 0, 14 to 255 and above 1,279
  none-same : (i : ℕ) → length_of i ≡ 0 → fetched_of rs t k a room q i r ≡ Next.Outside → Number i
  unfolding turn turn_of decode_word exec
  none-same i e f =
      split (ltb r.location (size t))
      (λ y. rw (fetch-in t r.location (ltb-true r.location (size t) y), e, f))
      (λ y. rw (fetch-behind t r.location (ltb-false r.location (size t) y), e, f))

  -- one word, whatever stands behind it
  one_same : (i : ℕ) (y : Next) → length_of i ≡ 1 → fetched_of rs t k a room q i r ≡ y → Does (decode_one i) y → Number i
  unfolding decode_word
  one_same i y e f g =
      split (ltb r.location (size t))
      (λ z. rw (fetch-in t r.location (ltb-true r.location (size t) z), e, f) g)
      (λ z. rw (fetch-behind t r.location (ltb-false r.location (size t) z), e, f) g)

  -- 4, 9, 12
  single-same : (i : ℕ) (y : Next) → ltb i 14 ≡ true → length_of i ≡ 1 → act_of rs t k room i r ≡ y → Does (decode_one i) y → Number i
  unfolding fetched_of
  single-same i y s e f g = one_same i y e (rw (s, e, le-leb (r.location + 1) (size t + 1) (omega arith)) f) g

  -- two words, the second inside the table
  two-same : (i : ℕ) (y : Next) → ltb i 14 ≡ true → length_of i ≡ 2 → act_of rs t k room i r ≡ y
      → (r.location < size t → Does (decode_two r.location i (operand t r.location)) y) → Number i
  unfolding turn turn_of decode_word exec fetched_of
  two-same i y s e f g =
      split (ltb r.location (size t))
      (λ z. let b = ltb-true r.location (size t) z in
      rw (fetch-in t r.location b, e, s, le-leb (r.location + 2) (size t + 1) (omega arith), f) (g b))
      (λ z. let b = ltb-false r.location (size t) z in
      rw (fetch-behind t r.location b, e, s, lt-leb (r.location + 2) (size t + 1) (omega arith)))

  -- an operation
  operation-same : (i : ℕ) (y : Next) → 256 ≤ i → i < 1280 → operate_of room q a i r ≡ y → Does (decode_operation i) y → Number i
  unfolding decode_one fetched_of
  operation-same i y l u e g =
      one_same i y (length-operation i l (omega arith)) (rw (le-ltb i 14 (omega arith)) e)
      (rw (ne_eqb i 4 (omega arith), ne_eqb i 9 (omega arith), ne_eqb i 12 (omega arith)) g)

  zero_same : Number 0
  unfolding fetched_of act_of length_of
  zero_same = none-same 0 refl (rw (le-leb (r.location + 0) (size t + 1) (omega arith)))

  operations-same : (i : ℕ) → 14 ≤ i → Number i
  unfolding exec fetched_of operate_of decode_operation with_events walk_in machine.opened event_of
  operations-same i h =
      split (ltb i 256)
      (λ b₁. let h₁ = ltb-true i 256 b₁ in none-same i (length-between i h (omega arith)) (rw (le-ltb i 14 (omega arith), b₁)))
      (λ b₁. let h₁ = ltb-false i 256 b₁ in
      split (ltb i 512)
      (λ b₂. let h₂ = ltb-true i 512 b₂ in operation-same i (tell_of room (r.location + 1) (Plain i) r) h₁ (omega arith) (rw (b₁, b₂)) (rw b₂ (tell (r.location + 1) (Plain i))))
      (λ b₂. let h₂ = ltb-false i 512 b₂ in
      split (ltb i 768)
      (λ b₃. let h₃ = ltb-true i 768 b₃ in operation-same i (tell_of room (r.location + 1) (With i (r.parameter % 65536)) r) h₁ (omega arith) (rw (b₁, b₂, b₃)) (rw (b₂, b₃) (tell (r.location + 1) (With i (r.parameter % 65536)))))
      (λ b₃. let h₃ = ltb-false i 768 b₃ in
      split (ltb i 1024)
      (λ b₄. let h₄ = ltb-true i 1024 b₄ in operation-same i (answer_of room q a (Plain i) r) h₁ (omega arith) (rw (b₁, b₂, b₃, b₄)) (rw (b₂, b₃, b₄) (asks-same q (Plain i))))
      (λ b₄. let h₄ = ltb-false i 1024 b₄ in
      split (ltb i 1280)
      (λ b₅. let h₅ = ltb-true i 1280 b₅ in operation-same i (answer_of room q a (With i (r.parameter % 65536)) r) h₁ h₅ (rw (b₁, b₂, b₃, b₄, b₅)) (rw (b₂, b₃, b₄) (asks-same q (With i (r.parameter % 65536)))))
      (λ b₅. let h₅ = ltb-false i 1280 b₅ in none-same i (length_above i h₅) (rw (le-ltb i 14 (omega arith), b₁, b₂, b₃, b₄, b₅)))))))
    where
      tell : (l : ℕ) (e : Event) → Same t k (mode_of q a) room n es r rs (tells (event_of e) (machine.moved l (in_call es r rs))) (tell_of room l e r)
      tell l e = tell-same t k (mode_of q a) room n es r rs l e

      asks-same : (p : Bool) (e : Event) → Same t k (mode_of p a) room n es r rs (asks (event_of e) (machine.moved (r.location + 1) (in_call es r rs))) (answer_of room p a e r)
      asks-same true e = waits-same t k a room n es r rs e
      asks-same false e = takes_same t k a room n es r rs e small-a fits

  numbers-same : (i : ℕ) → Number i
  unfolding turn turn_of exec act_of decode_one decode_two length_of lengths with_events walk_in machine.opened event_of reason_of
  numbers-same i =
      or_above Number 0 zero_same
      (or_above Number 1 (two-same 1 (forward_of t r) refl refl refl (λ h. forward-same t k m room n es r rs))
      (or_above Number 2 (two-same 2 (back_of t r) refl refl refl (λ h. back-same t k m room n es r rs h))
      (or_above Number 3 (two-same 3 (input_of t k room r) refl refl refl (λ h. input-same t k m room n es r rs))
      (or_above Number 4 (single-same 4 (any_of k r) refl refl refl (any_same t k m room n es r rs))
      (or_above Number 5 (two-same 5 (tell_of room (r.location + 2) (Output x) r) refl refl refl (λ h. tell-same t k m room n es r rs (r.location + 2) (Output x)))
      (or_above Number 6 (two-same 6 (tell_of room (r.location + 2) (Event.Error x) r) refl refl refl (λ h. tell-same t k m room n es r rs (r.location + 2) (Event.Error x)))
      (or_above Number 7 (two-same 7 (input_choice_of t k r) refl refl refl (λ h. input_choice-same t k m room n es r rs small-k))
      (or_above Number 8 (two-same 8 (call_of t r) refl refl refl (λ h. call_same t k m room n es r rs sized))
      (or_above Number 9 (single-same 9 (return_of rs t r) refl refl refl (return-same t k m room n es r rs sized shallow))
      (or_above Number 10 (two-same 10 (On (with_result (moved r (r.location + 2)) x)) refl refl refl (λ h. rw (word_small t small-t r.location)))
      (or_above Number 11 (two-same 11 (take_other r (choice_of t r.location (r.result % 65536))) refl refl refl (λ h. choice-same t k m room n es r rs))
      (or_above Number 12 (single-same 12 (Stop Unlabelled) refl refl refl refl)
      (or_above Number 13 (two-same 13 (On (with_parameter (moved r (r.location + 2)) x)) refl refl refl (λ h. rw (word_small t small-t r.location)))
      operations-same))))))))))))) i (omega arith)
    where
      m : Mode
      m = mode_of q a

      x : ℕ
      x = operand t r.location

-- A step of the code's definitions is a turn of the machine's: `paused` for q true, `whole` over the answers a for q false
pub step-turn : (t k a : List ℕ) (room n : ℕ) (q : Bool) (es : List events.Event) (r : Registers) (rs : List ℕ)
    → length rs ≡ 64 → r.depth ≤ 64 → r.used < 18446744073709551616 → Bytes t → Bytes k → Bytes a
    → turn (mode_of q a) room n (in_call es r rs) (step (table_of t) (words_of k) (in_call es r rs)) ≡ turn_of room n es r rs (step_of rs t k a room q r)
unfolding turn turn_of step exec decoding.decode decoding.decode_at step_of with_events walk_in machine.with_io
step-turn t k a room n q es r rs s d f small-t small-k small-a =
    let l = r.location in
    split (eqb l 0)
    (λ y. rw (ap (fetch (table_of t)) (eqb-true l 0 y) ∙ fetch-zero t, y))
    (λ y. let ne : l ≡ 0 → ⊥ = eqb-false l 0 y in
    split (leb l (size t))
    (λ z. let b = leb-true l (size t) z in
    rw (fetch-at t l (omega arith) b, y, z) (numbers-same t k a room n q es r rs s d f b small-t small-k small-a (word_at t (l - 1))))
    (λ z. rw (fetch-out t l (leb-false l (size t) z), y, z)))
