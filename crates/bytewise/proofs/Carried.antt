-- Carrying over bytes: what `sst_carry` leaves where it answers 0 goes on, over the bytes of the new table, as the new rules say.
use mathlib.Core.Bool.{Bool, true, false}
use mathlib.Core.List.{List, [], ◌∷◌, ◌++◌}
use mathlib.Core.Logic.{◌⊎◌, inl, inr}
use mathlib.Core.Option.{Option, none, some}
use mathlib.Core.Path.{◌≡◌, refl, sym, ap, ◌∙◌}
use Prim.Native.Nat.{ℕ, ◌+◌, ◌-◌, ◌*◌, ◌<◌, ◌≤◌}
use native.Mathlib.Omega.{arith}
use lib.ListN.{length, get_elem?}
use Rattle.acceptance.proofs.Accepts.{accepted-table}
use Rattle.acceptance.specs.Answers.{TableOf}
use Rattle.agreement.proofs.Reports.{reports-last}
use Rattle.agreement.specs.Demand.{wanted, HasStopped, Listed}
use Rattle.agreement.specs.Reports.{Reports}
use Rattle.std.specs.Prelude.{if◌then◌else◌}
use Rattle.carrybound.proofs.Ending.{figure-carried}
use Rattle.carrybound.specs.EnoughCarried.{EnoughFrom}
use Rattle.carry.proofs.Bytes.{carried-fits}
use Rattle.carry.proofs.Lying.{accepted-most}
use Rattle.carry.proofs.Sources.{SourceOk, source_ok}
use Rattle.carry.proofs.Theorem.{carrying-on}
use Rattle.carry.specs.Carry.{Source, Carried, carried, stays, carry_place, carry_places, put_at, same_all, carry, source_of}
use Rattle.carry.specs.GoingOn.{WritesFrom, EndsBy, Follows, GoesOn, Carries, CarryingOn}
use Rattle.carry.specs.Texts.{answer_of, between, carry_texts, told, Outcome, outcome, carry_bytes}
use Rattle.events.specs.Events.{Event, Reason}
use Rattle.figure.specs.Count.{figure}
use Rattle.machine.proofs.Bytes.{length-words_of}
use Rattle.machine.proofs.Form.{walk_of-walk_bytes}
use Rattle.machine.specs.Bytes.{count, words_of, table_of}
use Rattle.machine.specs.Form.{Fits, walk_of, walk_bytes, events_words}
use Rattle.machine.specs.Walk.{Phase, going, waiting, stopped, Walk}
use Rattle.ownwalk.specs.OwnWalk.{Own}
use Rattle.processor.specs.Process.{accepted, process, understood, meaning}
use Rattle.program.proofs.Lengths.{length-table}
use Rattle.program.specs.Program.{Rule}
use Rattle.program.specs.Table.{size_rules}
use Rattle.bytewise.proofs.Entries.{behind, begins, left-bytes, Below}
use Rattle.bytewise.proofs.Joined.{events_words-then, choices-words, byte-calls-from, byte-calls}
use Rattle.bytewise.specs.AtCarry.{Moves, WritesWords, StopsWords, EndsByBytes, FollowsBytes, GoesOnBytes, KeptBytes, AtCarry}
use Rattle.bytewise.specs.AtCarryFigure.{EnoughCarried}
use Rattle.bytewise.specs.AtEntries.{StoppedBytes, Leaves}
use Rattle.bytewise.specs.ByteCalls.{Slice, choices_in, Waits, ByteCallsFrom, ByteCalls, StandsFrom, Stands}

-- what is not carried answers 51 or 52
not-0 : (p q : Source) (w : Walk) (n : ℕ) → carry p q w ≡ stays n → n ≡ 0 → ⊥
unfolding carry put_at
not-0 p q w n e z = outer (same_all p.sections q.sections) e
  where
    number : {a b : ℕ} → stays a ≡ stays b → a ≡ b
    number d = cc

    apart : {A : Type 0} {v : Walk} {k : ℕ} → carried v ≡ stays k → A
    apart d = let y : ◌≡◌ {A = ℕ} 0 1 = cc in absurd (omega arith)

    inner : (x : Option ℕ) (y : Option (List ℕ)) → put_at w x y ≡ stays n → ⊥
    inner none y d = omega (arith, number d, z)
    inner (some x) none d = omega (arith, number d, z)
    inner (some x) (some y) d = apart d

    outer : (t : Bool) → (if t then put_at w (carry_place p q w.location) (carry_places p q w.returns) else stays 51) ≡ stays n → ⊥
    outer true d = inner (carry_place p q w.location) (carry_places p q w.returns) d
    outer false d = omega (arith, number d, z)

-- where `sst_carry` answers 0 for the bytes of a walk, the walk is carried and its bytes are written
record Took (old new s' : List ℕ) (w : Walk) : Type 0 where
  walk : Walk
  carries : carry (source_of old) (source_of new) w ≡ carried walk
  bytes : s' ≡ walk_bytes walk

took : (old new words words' : List ℕ) (verdict verdict' : Bool) → process old 4096 ≡ accepted words verdict → process new 4096 ≡ accepted words' verdict'
    → (s s' : List ℕ) (w : Walk) → walk_of s ≡ some w → Moves old new s s' → Took old new s' w
unfolding carry_bytes outcome carry_texts between told answer_of
took old new words words' verdict verdict' e e' s s' w b m = go (carry (source_of old) (source_of new) w) refl (m.contract ∙ rw (b, e, e') refl)
  where
    go : (c : Carried) → carry (source_of old) (source_of new) w ≡ c → m.outcome ≡ told (answer_of c) s → Took old new s' w
    go (carried v) d f = record { walk = v; carries = d; bytes = sym m.walk ∙ ap (λ (o : Outcome). o.walk) f }
    go (stays n) d f = absurd (not-0 (source_of old) (source_of new) w n d (sym (ap (λ (o : Outcome). o.number) f) ∙ m.number))

same-walk : {o : Option Walk} {v w : Walk} → o ≡ some v → o ≡ some w → v ≡ w
same-walk {v = v} {w = w} e d = let x : some v ≡ some w = sym e ∙ d in cc

-- Lists of calls from the carried bytes on

module _ (prog : List Rule) (table tokens answers : List ℕ) (bt : Below 256 table) (bk : Slice tokens) (ba : Slice answers) (w₀ : Walk) (es₀ : List Event) (fits₀ : Fits w₀)
    (s₀ ws₀ : List ℕ) (d₀ : s₀ ≡ walk_bytes w₀) (e₀ : ws₀ ≡ events_words es₀) where
  abbrev St : List ℕ → List ℕ → ℕ → List ℕ → Type 0
  St = StandsFrom table tokens answers w₀ es₀

  standing : {s ws : List ℕ} {n : ℕ} {ns : List ℕ} → ByteCallsFrom table tokens answers s₀ ws₀ s ws n ns → St s ws n ns
  standing l = byte-calls-from table tokens answers bt bk ba w₀ es₀ fits₀ d₀ e₀ l

  words-begin : (given : List ℕ) (o : Own) (es : List Event) (ws : List ℕ) → ws ≡ events_words es → WritesFrom prog (words_of tokens) given o es → WritesWords prog (words_of tokens) given o ws
  words-begin given o es ws e h = record { steps = h.steps; rest = h.begins.rest; begins = rw e (ap events_words h.begins.whole ∙ events_words-then es h.begins.rest) }

  ends-bytes : (b : ℕ) → EndsBy (table_of table) (words_of tokens) (words_of answers) w₀ es₀ b → EndsByBytes table tokens answers s₀ ws₀ b
  ends-bytes b h s ws n ns l = let st = standing l in go st (h st.walk st.events n ns st.listed)
    where
      go : (st : St s ws n ns) → HasStopped st.walk ⊎ (n < b) → StoppedBytes s ⊎ (n < b)
      go st (inl x) = inl (st.walk, st.read_back, x)
      go st (inr x) = inr x

  enough-bytes : (b : ℕ) → EnoughFrom (table_of table) (words_of tokens) (words_of answers) w₀ es₀ b → EnoughCarried table tokens answers s₀ ws₀ b
  enough-bytes b h = record {
    suffices = ends-bytes b h.suffices;
    steps = λ s ws n ns l. (let st = standing l in h.steps st.walk st.events n ns st.listed);
  }

  follows-bytes : (o : Own) → Follows prog (table_of table) (words_of tokens) (words_of answers) o w₀ es₀ → FollowsBytes prog table tokens answers o s₀ ws₀
  follows-bytes o f =
      record {
        is_walk = λ l. (let st = standing l in (st.walk, st.read_back));
        events = λ l h. (let st = standing l in words-begin (words_of answers) o st.events _ st.words (f.events st.listed (λ p. h (st.walk, st.read_back, p))));
        events_waiting = λ l h x. (let st = standing l in
            words-begin (words_of answers ++ (x ∷ [])) o st.events _ st.words
            (f.events_waiting st.listed (ap (λ (v : Walk). v.phase) (same-walk st.read_back h.1) ∙ h.2) x));
        never_37 = λ l e. f.never_37 (standing l).listed e;
        stops = λ l d p. stopped-bytes l d p;
        says = λ l d. said l d;
        budget = λ h. (let x = f.budget h in (x.0, ends-bytes x.0 x.1));
      }
    where
      said : {s ws : List ℕ} {n number : ℕ} {ns : List ℕ} {w : Walk} → ByteCallsFrom table tokens answers s₀ ws₀ s ws n (number ∷ ns) → walk_of s ≡ some w → Reports number w.phase
      said l d =
          let st = standing l in
          rw (ap (λ (v : Walk). v.phase) (same-walk st.read_back d)) at (reports-last (table_of table) (words_of tokens) st.listed)

      stopped-bytes : {s ws : List ℕ} {n : ℕ} {ns : List ℕ} {w : Walk} {r : Reason} → ByteCallsFrom table tokens answers s₀ ws₀ s ws n ns
          → walk_of s ≡ some w → w.phase ≡ stopped r → StopsWords prog (words_of tokens) (words_of answers) o r w.io.read w.io.used w.io.allowance ws
      stopped-bytes {w = w} l d p =
          let st = standing l in
          let q : st.walk ≡ w = same-walk st.read_back d in
          record {
            io = record { read = st.walk.io.read; used = st.walk.io.used; allowance = st.walk.io.allowance; events = st.events };
            stop = f.stops st.listed (ap (λ (v : Walk). v.phase) q ∙ p);
            reads = ap (λ (v : Walk). v.io.read) q;
            uses = ap (λ (v : Walk). v.io.used) q;
            leaves = ap (λ (v : Walk). v.io.allowance) q;
            words = sym st.words;
          }

-- The claim

module _ (old new : List ℕ) (room room' : ℕ) (words words' : List ℕ) (verdict verdict' : Bool) (e : process old room ≡ accepted words verdict) (e' : process new room' ≡ accepted words' verdict') where
  t' : TableOf new room' words' verdict'
  t' = accepted-table new room' words' verdict' e'

  s' : SourceOk (source_of new) t'.prog
  s' = source_ok new t'.prog t'.means

  small : size_rules (source_of new).rules ≤ 4096
  small =
      let n = length-table t'.prog in
      let z : size_rules (source_of new).rules ≡ size_rules t'.prog = ap size_rules s'.rules_are in
      omega (arith, n, z, t'.within_4096, ap length t'.words_are)

  took-fits : {s₁ : List ℕ} {w : Walk} → Fits w → (k : Took old new s₁ w) → Fits k.walk
  took-fits {w = w} f k = carried-fits (source_of old) (source_of new) s'.length-is small w k.walk k.carries f

  took_it : (s₀ s₁ : List ℕ) (w : Walk) → walk_of s₀ ≡ some w → Moves old new s₀ s₁ → Took old new s₁ w
  took_it = took old new words words' verdict verdict' (accepted-most old room words verdict e) (accepted-most new room' words' verdict' e')

  claim : CarryingOn old new words words' verdict'
  claim = carrying-on old new room room' words words' verdict verdict' e e'

  module _ {lent table : List ℕ} (l : Leaves old words verdict lent table) (tokens answers : List ℕ) (bk : Slice tokens) (ba : Slice answers) (allowance : ℕ) (low : allowance < 65536)
      {s ws : List ℕ} {n : ℕ} {ns : List ℕ} (c : ByteCalls table tokens answers allowance s ws n ns) (s₁ : List ℕ) (m : Moves old new s s₁) where
    st : Stands table tokens answers allowance s ws n ns
    st = byte-calls table tokens answers (left-bytes old room words verdict e l) bk ba allowance low c

    k : Took old new s₁ st.walk
    k = took_it s s₁ st.walk st.read_back m

    fits₁ : Fits k.walk
    fits₁ = took-fits st.fits k

    back₁ : walk_of s₁ ≡ some k.walk
    back₁ = ap walk_of k.bytes ∙ walk_of-walk_bytes k.walk fits₁

    listed : Listed (words ++ behind old room words verdict e l) (words_of tokens) (words_of answers) allowance st.walk st.events n ns
    listed = rw (begins old room words verdict e l) at st.listed

    keeps : KeptBytes s s₁
    keeps =
        let h = (claim.carries (behind old room words verdict e l) [] (words_of tokens) (words_of answers) allowance listed k.walk k.carries).kept in
        record { before = st.walk; after = k.walk; was = st.read_back; is = back₁; phase = h.phase; depth = h.depth; result = h.result; parameter = h.parameter; io = h.io }

    module _ {lent' table' : List ℕ} (l' : Leaves new words' verdict' lent' table') where
      over : Carries claim.prog' (table_of table') (words_of tokens) (words_of answers) st.walk k.walk st.events
      over = rw (begins new room' words' verdict' e' l') (claim.carries (behind old room words verdict e l) (behind new room' words' verdict' e' l') (words_of tokens) (words_of answers) allowance listed k.walk k.carries)

      as-bytes-with : (answers₁ : List ℕ) → Slice answers₁ → GoesOn claim.prog' (table_of table') (words_of tokens) (words_of answers₁) k.walk st.events
          → GoesOnBytes claim.prog' table' tokens answers₁ s₁ ws
      as-bytes-with answers₁ ba₁ g = record {
        walk = k.walk;
        is_walk = back₁;
        events = st.events;
        are_words = st.words;
        from = g.from;
        starts = g.starts;
        follows = follows-bytes claim.prog' table' tokens answers₁ (left-bytes new room' words' verdict' e' l') bk ba₁ k.walk st.events fits₁ s₁ ws k.bytes st.words g.from g.follows;
      }

      as_bytes : GoesOn claim.prog' (table_of table') (words_of tokens) (words_of answers) k.walk st.events → GoesOnBytes claim.prog' table' tokens answers s₁ ws
      as_bytes g = as-bytes-with answers ba g

      goes_with : Waits s → (answers₁ : List ℕ) (x : ℕ) → Slice answers₁ → words_of answers₁ ≡ words_of answers ++ (x ∷ []) → GoesOnBytes claim.prog' table' tokens answers₁ s₁ ws
      goes_with h answers₁ x ba₁ q =
          as-bytes-with answers₁ ba₁
          (rw q
          (over.goes_on_with (ap (λ (v : Walk). v.phase) (same-walk st.read_back h.1) ∙ h.2) x))

      goes : ((Waits s → ⊥) ⊎ ((x : ℕ) × (get_elem? (words_of answers) (choices_in ws - 1) ≡ some x))) → GoesOnBytes claim.prog' table' tokens answers s₁ ws
      unfolding wanted
      goes (inl h) = as_bytes (over.goes_on (λ p. h (st.walk, st.read_back, p)))
      goes (inr h) = by-phase st.walk.phase refl
        where
          it : wanted (words_of answers) st.events ≡ some h.0
          it = rw (st.words, choices-words st.events) at h.1

          by-phase : (ph : Phase) → st.walk.phase ≡ ph → GoesOnBytes claim.prog' table' tokens answers s₁ ws
          by-phase going g = as_bytes (over.goes_on (λ p. no-wait g p))
            where
              no-wait : st.walk.phase ≡ going → st.walk.phase ≡ waiting → ⊥
              no-wait a b = let z : ◌≡◌ {A = ℕ} 0 1 = cc in omega arith
          by-phase waiting g = as_bytes (over.goes_on_waiting g h.0 it)
          by-phase (stopped r) g = as_bytes (over.goes_on (λ p. no-wait g p))
            where
              no-wait : st.walk.phase ≡ stopped r → st.walk.phase ≡ waiting → ⊥
              no-wait a b = let z : ◌≡◌ {A = ℕ} 0 1 = cc in omega arith

      ends : (b : ℕ) → EndsBy (words' ++ behind new room' words' verdict' e' l') (words_of tokens) (words_of answers) k.walk st.events b → EndsByBytes table' tokens answers s₁ ws b
      ends b h =
          ends-bytes claim.prog' table' tokens answers (left-bytes new room' words' verdict' e' l') bk ba k.walk st.events fits₁ s₁ ws k.bytes st.words b
          (rw (begins new room' words' verdict' e' l') h)

      -- with the new text's verdict "finishing" and its figure q
      pub enough-carried : verdict' ≡ true → (prog' : List Rule) → understood new ≡ meaning prog' → (q : ℕ) → figure prog' ≡ some q → (w : Walk) → walk_of s₁ ≡ some w
          → EnoughCarried table' tokens answers s₁ ws (65 * q * (count tokens + w.io.allowance + 1))
      enough-carried v prog' d q f w b =
          let h = figure-carried old new room room' words words' verdict e (rw v at e') prog' d q f (behind old room words verdict e l) (behind new room' words' verdict' e' l')
          (words_of tokens) (words_of answers) allowance st.walk st.events n ns listed k.walk k.carries in
          rw (← length-words_of tokens, ← same-walk back₁ b)
          (enough-bytes claim.prog' table' tokens answers (left-bytes new room' words' verdict' e' l') bk ba k.walk st.events fits₁ s₁ ws k.bytes st.words
          (65 * q * (length (words_of tokens) + k.walk.io.allowance + 1)) (rw (begins new room' words' verdict' e' l') h))

  pub at-carry : AtCarry old new words verdict words' verdict'
  at-carry = record {
    prog' = claim.prog';
    means = claim.means;
    kept = λ lent table tokens answers l bk ba allowance low s ws n ns c s₁ m. keeps l tokens answers bk ba allowance low c s₁ m;
    goes_on = λ lent table lent' table' tokens answers l l' bk ba allowance low s ws n ns c s₁ m h. goes l tokens answers bk ba allowance low c s₁ m l' h;
    goes_on_with = λ lent table lent' table' tokens answers l l' bk ba allowance low s ws n ns c s₁ m h answers₁ x ba₁ q. goes_with l tokens answers bk ba allowance low c s₁ m l' h answers₁ x ba₁ q;
    finishes = λ v number left.
        (let f = claim.finishes v number left in (
          f.0,
          λ lent table lent' table' tokens answers l l' bk ba q allowance low s ws n ns c w b a s₁ m.
              let stands = st l tokens answers bk ba allowance low c s₁ m in
              let took₁ = k l tokens answers bk ba allowance low c s₁ m in
              let same : stands.walk.io.allowance ≡ left = ap (λ (v : Walk). v.io.allowance) (same-walk stands.read_back b) ∙ a in
              ends l tokens answers bk ba allowance low c s₁ m l' f.0
              (f.1 (behind old room words verdict e l) (behind new room' words' verdict' e' l') (words_of tokens) (words_of answers) allowance stands.walk stands.events n ns (length-words_of tokens ∙ q)
              (listed l tokens answers bk ba allowance low c s₁ m) same took₁.walk took₁.carries),
        ));
  }
