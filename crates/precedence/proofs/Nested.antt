-- The nested rules read a sum and write its postfix form, for any number of levels.
use mathlib.Core.Bool.{Bool, true, false}
use mathlib.Core.List.{List, [], ◌∷◌, ◌++◌, append_assoc}
use mathlib.Core.Option.{Option, none, some}
use mathlib.Core.Path.{◌≡◌, refl, sym, ap, ◌∙◌}
use Prim.Native.Nat.{ℕ, zero, suc, ◌+◌, ◌-◌, ◌^◌, ◌<◌, ◌≤◌, min, max}
use native.Mathlib.Nat.{zero-add, suc-add}
use native.Mathlib.Omega.{arith}
use lib.Dec.{eqb}
use lib.ListN.{length, drop, get_elem?, length-append}
use lib.Seq.{drop-drop, drop-append_seam}
use borrow.Author.Tests.{lt-ltb}
use Rattle.base.specs.Bools.{never}
use Rattle.std.specs.Prelude.{if◌then◌else◌}
use Rattle.base.specs.Tree.{plain, cycle, choice, done, ◌▸◌, otherwise}
use Rattle.events.specs.Events.{Event, output, Io, present, took, wrote}
use Rattle.ownwalk.specs.OwnWalk.{Context, in_cycle, in_alternative, in_otherwise, Pending, before, Own, on, labelled, labelled_by, chosen, ended, left, entered, own_plain, own_choice, own, owns}
use Rattle.precedence.specs.Sums.{emits_of, Sum, operand, only, leftward, rightward, tokens_of, events_of, answers_of, depth_of, spent, after, first, operator_of, Clear, Apart, Stand, lowest, Leads, stay, step, Passes, Operands, Postfix}
use Rattle.program.specs.Made.{Operator, Level, operator_alts, level_body, higher_of}
use Rattle.program.specs.Program.{call, emit, exit, by_token, Acts, Rule, body_of}

-- Reading and writing

-- what the walk does to reading and writing, in its own order
told : {ls : List Level} → Sum ls → Io → Io
told (operand x) io = after x.tokens x.events x.answers io
told (only a) io = told a io
told (leftward t v s e a b) io = wrote (output v) (told b (took (told a io)))
told (rightward t v s e a b) io = wrote (output v) (told b (took (told a io)))

spent-add : (a b u : ℕ) → spent b (spent a u) ≡ spent (a + b) u
unfolding spent
spent-add zero b u = ap (λ (n : ℕ). spent n u) (sym (zero-add b))
spent-add (suc a) b u = spent-add a b (min (u + 1) (2 ^ 64 - 1)) ∙ ap (λ (n : ℕ). spent n u) (sym (suc-add a b))

same-io : {a b a' b' c : ℕ} {es fs : List Event} → a ≡ a' → b ≡ b' → es ≡ fs → ◌≡◌ {A = Io} (record { read = a; used = b; allowance = c; events = es }) (record { read = a'; used = b'; allowance = c; events = fs })
same-io e f g = rw (e, f, g) refl

node-io : (ta tb : List ℕ) (t : ℕ) (ea eb : List Event) (v na nb : ℕ) (io : Io)
    → wrote (output v) (after tb eb nb (took (after ta ea na io))) ≡ after (ta ++ (t ∷ tb)) (ea ++ (eb ++ (output v ∷ []))) (na + nb) io
unfolding after took wrote
node-io ta tb t ea eb v na nb io =
    let l = length-append ta (t ∷ tb) in
    same-io (omega (arith, l)) (spent-add na nb io.used)
    (append_assoc (io.events ++ ea) eb (output v ∷ []) ∙ append_assoc io.events ea (eb ++ (output v ∷ [])))

told_is : {ls : List Level} (e : Sum ls) (io : Io) → told e io ≡ after (tokens_of e) (events_of e) (answers_of e) io
unfolding told tokens_of events_of answers_of
told_is (operand x) io = refl
told_is (only a) io = told_is a io
told_is (leftward t v s e a b) io =
    rw (told_is a io, told_is b (took (after (tokens_of a) (events_of a) (answers_of a) io))) (node-io (tokens_of a) (tokens_of b) t (events_of a) (events_of b) v (answers_of a) (answers_of b) io)
told_is (rightward t v s e a b) io =
    rw (told_is a io, told_is b (took (after (tokens_of a) (events_of a) (answers_of a) io))) (node-io (tokens_of a) (tokens_of b) t (events_of a) (events_of b) v (answers_of a) (answers_of b) io)

-- The tokens ahead

present-first : (ts : List ℕ) (n : ℕ) → get_elem? ts n ≡ first (drop n ts)
unfolding first
present-first [] zero = refl
present-first [] (suc n) = refl
present-first (t ∷ ts) zero = refl
present-first (t ∷ ts) (suc n) = present-first ts n

-- past a beginning
drop_past : (n : ℕ) (ts xs ys : List ℕ) → drop n ts ≡ xs ++ ys → drop (n + length xs) ts ≡ ys
drop_past n ts xs ys e = sym (drop-drop (length xs) n ts) ∙ ap (drop (length xs)) e ∙ drop-append_seam xs ys

-- the same behind a sum
told-past : {ls : List Level} (e : Sum ls) (io : Io) (ts rest : List ℕ) → drop io.read ts ≡ tokens_of e ++ rest → drop (told e io).read ts ≡ rest
unfolding after
told-past e io ts rest h = ap (λ (x : Io). drop x.read ts) (told_is e io) ∙ drop_past io.read ts (tokens_of e) rest h

-- behind an operator
took-past : (io : Io) (ts : List ℕ) (t : ℕ) (rest : List ℕ) → drop io.read ts ≡ t ∷ rest → drop (took io).read ts ≡ rest
unfolding took
took-past io ts t rest h = drop_past io.read ts (t ∷ []) rest h

-- Alternatives

abbrev operator_body : ℕ → ℕ → Acts
operator_body c v = plain (call c) ▸ plain (emit v) ▸ done

-- the alternative of an operator, or none
unfoldable body_for : ℕ → Option ℕ → Option Acts
body_for c none = none
body_for c (some v) = some (operator_body c v)

labelled-is : (t c : ℕ) (os : List Operator) → labelled t (operator_alts c os) ≡ body_for c (emits_of t os)
unfolding labelled operator_alts emits_of body_for
labelled-is t c [] = refl
labelled-is t c (o ∷ os) = go (eqb t o.token) (labelled-is t c os)
  where
    go : (b : Bool) → labelled t (operator_alts c os) ≡ body_for c (emits_of t os)
        → (if (if b then true else false) then some (operator_body c o.emits) else labelled t (operator_alts c os)) ≡ body_for c (if b then some o.emits else emits_of t os)
    go true h = refl
    go false h = h

labelled_by_lem : (x : Option ℕ) (c : ℕ) (os : List Operator) → labelled_by x (operator_alts c os) ≡ body_for c (operator_of x os)
unfolding labelled_by operator_of body_for
labelled_by_lem none c os = refl
labelled_by_lem (some t) c os = labelled-is t c os

module _ (prog : List Rule) (tokens answers : List ℕ) where
  abbrev pub Led : Own → Own → Type 0
  Led s s' = Leads prog tokens answers s s'

  then-leads : {s s' s'' : Own} → Led s s' → Led s' s'' → Led s s''
  then-leads stay k = k
  then-leads (step h) k = step (then-leads h k)

  -- Single steps

  pub calls : (r : ℕ) (q : Acts) (k : List Context) (ps : List Pending) (io : Io) (s : Own) → length ps < 64 → Led (on (body_of prog r) [] (before q k ∷ ps) io) s → Led (on (plain (call r) ▸ q) k ps io) s
  unfolding own own_plain entered
  calls r q k ps io s l h = let y : Led (own prog tokens answers (on (plain (call r) ▸ q) k ps io)) s = rw (lt-ltb (length ps) 64 l) h in step y

  -- an input choice over operators takes one
  takes : (t v c : ℕ) (os : List Operator) (b : Acts) (q : Acts) (k : List Context) (ps : List Pending) (io : Io) (s : Own) (rest : List ℕ)
      → drop io.read tokens ≡ t ∷ rest → emits_of t os ≡ some v
      → Led (on (operator_body c v) (in_alternative q ∷ k) ps (took io)) s → Led (on (choice by_token (operator_alts c os) (otherwise b) ▸ q) k ps io) s
  unfolding own own_choice chosen present body_for operator_of first
  takes t v c os b q k ps io s rest a e h =
      let x : labelled_by (get_elem? tokens io.read) (operator_alts c os) ≡ some (operator_body c v) =
      labelled_by_lem (get_elem? tokens io.read) c os ∙ ap (λ (y : Option ℕ). body_for c (operator_of y os)) (present-first tokens io.read ∙ ap first a) ∙ ap (body_for c) e in
      let y : Led (own prog tokens answers (on (choice by_token (operator_alts c os) (otherwise b) ▸ q) k ps io)) s = rw x h in
      step y

  -- or goes on with otherwise
  leaves : (c : ℕ) (os : List Operator) (b : Acts) (q : Acts) (k : List Context) (ps : List Pending) (io : Io) (s : Own) (rest : List ℕ)
      → drop io.read tokens ≡ rest → operator_of (first rest) os ≡ none
      → Led (on b (in_otherwise q ∷ k) ps io) s → Led (on (choice by_token (operator_alts c os) (otherwise b) ▸ q) k ps io) s
  unfolding own own_choice chosen present body_for
  leaves c os b q k ps io s rest a e h =
      let x : labelled_by (get_elem? tokens io.read) (operator_alts c os) ≡ none =
      labelled_by_lem (get_elem? tokens io.read) c os ∙ ap (λ (y : Option ℕ). body_for c (operator_of y os)) (present-first tokens io.read ∙ ap first a) ∙ ap (body_for c) e in
      let y : Led (own prog tokens answers (on (choice by_token (operator_alts c os) (otherwise b) ▸ q) k ps io)) s = rw x h in
      step y

  abbrev Passed : ℕ → ℕ → Io → Io → Type 0
  Passed d r io io' = Passes prog tokens answers d r io io'

  -- A left level

  -- its cycle's body; the walk at the start of it
  abbrev turning : ℕ → List Operator → Acts
  turning h os = choice by_token (operator_alts h os) (otherwise (plain exit ▸ done)) ▸ done

  abbrev turn : ℕ → List Operator → List Pending → Io → Own
  turn h os P io = on (turning h os) (in_cycle (turning h os) done ∷ []) P io

  reach-only : (x h : ℕ) (os : List Operator) (n : ℕ) (io io' : Io) → Passed n h io io' → (P : List Pending) → length P + n ≤ 64 → Led (on (level_body false x h os) [] P io) (turn h os P io')
  unfolding level_body own
  reach-only x h os n io io' p P l = then-leads (p.leads (cycle (turning h os) ▸ done) [] P l) (step stay)

  reach-left : (x h : ℕ) (os : List Operator) (n t v : ℕ) (io io₁ io₂ : Io) (rest : List ℕ) (P : List Pending)
      → Led (on (level_body false x h os) [] P io) (turn h os P io₁) → drop io₁.read tokens ≡ t ∷ rest → emits_of t os ≡ some v → Passed n h (took io₁) io₂ → length P + n ≤ 64
      → Led (on (level_body false x h os) [] P io) (turn h os P (wrote (output v) io₂))
  unfolding own own_plain ended
  reach-left x h os n t v io io₁ io₂ rest P r a e p l =
      then-leads r (takes t v h os (plain exit ▸ done) done (in_cycle (turning h os) done ∷ []) P io₁ _ rest a e
      (then-leads (p.leads (plain (emit v) ▸ done) (in_alternative done ∷ in_cycle (turning h os) done ∷ []) P l) (step (step (step stay)))))

  close : (h : ℕ) (os : List Operator) (q : Acts) (k : List Context) (ps : List Pending) (io : Io) (rest : List ℕ)
      → drop io.read tokens ≡ rest → operator_of (first rest) os ≡ none → Led (turn h os (before q k ∷ ps) io) (on q k ps io)
  unfolding own own_plain left ended
  close h os q k ps io rest a e = leaves h os (plain exit ▸ done) done (in_cycle (turning h os) done ∷ []) (before q k ∷ ps) io _ rest a e (step (step stay))

  left-passes : (x h : ℕ) (os : List Operator) (n : ℕ) (io io' : Io) (rest : List ℕ) → body_of prog x ≡ level_body false x h os → 1 ≤ n
      → ((P : List Pending) → length P + n ≤ 65 → Led (on (level_body false x h os) [] P io) (turn h os P io'))
      → drop io'.read tokens ≡ rest → operator_of (first rest) os ≡ none → Passed n x io io'
  left-passes x h os n io io' rest b one r a e = record {
    leads = λ q k ps l. calls x q k ps io (on q k ps io') (omega arith) (rw b (then-leads (r (before q k ∷ ps) (omega arith)) (close h os q k ps io' rest a e)));
  }

  -- A right level

  right-only : (x h : ℕ) (os : List Operator) (n : ℕ) (io io' : Io) (rest : List ℕ) → body_of prog x ≡ level_body true x h os → Passed n h io io'
      → drop io'.read tokens ≡ rest → operator_of (first rest) os ≡ none → Passed (suc n) x io io'
  unfolding level_body own ended
  right-only x h os n io io' rest b p a e = record {
    leads = λ q k ps l. calls x q k ps io (on q k ps io') (omega arith) (rw b
        (then-leads (p.leads (choice by_token (operator_alts x os) (otherwise done) ▸ done) [] (before q k ∷ ps) (omega arith))
        (leaves x os done done [] (before q k ∷ ps) io' _ rest a e (step (step stay)))));
  }

  right-takes : (x h : ℕ) (os : List Operator) (n m t v : ℕ) (io io₁ io₂ : Io) (rest : List ℕ) → body_of prog x ≡ level_body true x h os → Passed n h io io₁
      → drop io₁.read tokens ≡ t ∷ rest → emits_of t os ≡ some v → Passed m x (took io₁) io₂ → Passed (suc (max n m)) x io (wrote (output v) io₂)
  unfolding level_body own own_plain ended
  right-takes x h os n m t v io io₁ io₂ rest b p a e p₂ = record {
    leads = λ q k ps l. calls x q k ps io (on q k ps (wrote (output v) io₂)) (omega arith) (rw b
        (then-leads (p.leads (choice by_token (operator_alts x os) (otherwise done) ▸ done) [] (before q k ∷ ps) (omega arith))
        (takes t v x os done done [] (before q k ∷ ps) io₁ _ rest a e
        (then-leads (p₂.leads (plain (emit v) ▸ done) (in_alternative done ∷ []) (before q k ∷ ps) (omega arith)) (step (step (step stay)))))));
  }

  -- The sum

  higher-is : (x r : ℕ) (ls : List Level) → lowest (suc x) r ls ≡ higher_of x r ls
  unfolding lowest higher_of
  higher-is x r [] = refl
  higher-is x r (l ∷ ls) = refl

  no-side {ℓ} : {A : Type ℓ} (b : Bool) → b ≡ false → b ≡ true → A
  no-side true e f = never (sym e)
  no-side false e f = never f

  only-passes : (b : Bool) (l : Level) (x h n : ℕ) (io io' : Io) (rest : List ℕ) → l.right ≡ b → body_of prog x ≡ level_body b x h l.operators → Passed n h io io'
      → drop io'.read tokens ≡ rest → operator_of (first rest) l.operators ≡ none → Passed (suc n) x io io'
  only-passes false l x h n io io' rest s b p a e =
      left-passes x h l.operators (suc n) io io' rest b (omega arith) (λ P k. reach-only x h l.operators n io io' p P (omega arith)) a e
  only-passes true l x h n io io' rest s b p a e = right-only x h l.operators n io io' rest b p a e

  -- the first of these levels is a left one; the token is no operator of the others; the rule of the first comes to its cycle
  unfoldable Leftmost : List Level → Type 0
  Leftmost [] = Unit {0}
  Leftmost (l ∷ ls) = l.right ≡ false

  unfoldable ClearAbove : List Level → Option ℕ → Type 0
  ClearAbove [] y = Unit {0}
  ClearAbove (l ∷ ls) y = Clear ls y

  unfoldable Reached : ℕ → ℕ → List Level → List Pending → Io → Io → Type 0
  Reached x r [] P io io' = Unit {0}
  Reached x r (l ∷ ls) P io io' = Led (on (level_body false x (higher_of x r ls) l.operators) [] P io) (turn (higher_of x r ls) l.operators P io')

  mutual
    unfolding tokens_of told depth_of Operands Stand Apart Clear lowest first wrote Leftmost ClearAbove Reached

    passes-sum : {ls : List Level} (x r d : ℕ) → Stand prog x r ls → Apart ls → (e : Sum ls) (io : Io) → Operands prog tokens answers d r e io → (rest : List ℕ)
        → drop io.read tokens ≡ tokens_of e ++ rest → Clear ls (first rest) → Passed (depth_of d e) (lowest x r ls) io (told e io)
    passes-sum x r d st pt (operand y) io op rest a c = op.passes
    passes-sum x r d st pt (only {l} {ls} e) io op rest a c =
        only-passes l.right l x (higher_of x r ls) (depth_of d e) io (told e io) rest refl st.0
        (rw (higher-is x r ls) at (passes-sum (suc x) r d st.1 pt.1 e io op rest a c.1)) (told-past e io tokens rest a) c.0
    passes-sum x r d st pt (leftward {l} {ls} t v s e f g) io op rest a c =
        let a₁ : drop io.read tokens ≡ tokens_of f ++ (t ∷ (tokens_of g ++ rest)) = a ∙ append_assoc (tokens_of f) (t ∷ tokens_of g) rest in
        let a₂ = told-past f io tokens (t ∷ (tokens_of g ++ rest)) a₁ in
        let a₃ = took-past (told f io) tokens t (tokens_of g ++ rest) a₂ in
        let p = rw (higher-is x r ls) at (passes-sum (suc x) r d st.1 pt.1 g (took (told f io)) (rw (told_is f io) op.1) rest a₃ c.1) in
        left-passes x (higher_of x r ls) l.operators (max (depth_of d f) (suc (depth_of d g))) io (wrote (output v) (told g (took (told f io)))) rest (rw s at st.0) (omega arith)
        (λ P k. reach-left x (higher_of x r ls) l.operators (depth_of d g) t v io (told f io) (told g (took (told f io))) (tokens_of g ++ rest) P
        (reach-sum x r d s st pt f io op.0 (t ∷ (tokens_of g ++ rest)) a₁ (pt.0 t v e) P (omega arith)) a₂ e p (omega arith))
        (told-past g (took (told f io)) tokens rest a₃) c.0
    passes-sum x r d st pt (rightward {l} {ls} t v s e f g) io op rest a c =
        let a₁ : drop io.read tokens ≡ tokens_of f ++ (t ∷ (tokens_of g ++ rest)) = a ∙ append_assoc (tokens_of f) (t ∷ tokens_of g) rest in
        let a₂ = told-past f io tokens (t ∷ (tokens_of g ++ rest)) a₁ in
        let a₃ = took-past (told f io) tokens t (tokens_of g ++ rest) a₂ in
        right-takes x (higher_of x r ls) l.operators (depth_of d f) (depth_of d g) t v io (told f io) (told g (took (told f io))) (tokens_of g ++ rest) (rw s at st.0)
        (rw (higher-is x r ls) at (passes-sum (suc x) r d st.1 pt.1 f io op.0 (t ∷ (tokens_of g ++ rest)) a₁ (pt.0 t v e))) a₂ e
        (passes-sum x r d st pt g (took (told f io)) (rw (told_is f io) op.1) rest a₃ c)

    -- a left level's rule comes to its cycle behind a sum of its own level
    reach-sum : {ms : List Level} (x r d : ℕ) → Leftmost ms → Stand prog x r ms → Apart ms → (e : Sum ms) (io : Io) → Operands prog tokens answers d r e io
        → (rest : List ℕ) → drop io.read tokens ≡ tokens_of e ++ rest → ClearAbove ms (first rest) → (P : List Pending) → length P + depth_of d e ≤ 65
        → Reached x r ms P io (told e io)
    reach-sum x r d b st pt (operand y) io op rest a c P k = tt
    reach-sum x r d b st pt (only {l} {ls} f) io op rest a c P k =
        reach-only x (higher_of x r ls) l.operators (depth_of d f) io (told f io)
        (rw (higher-is x r ls) at (passes-sum (suc x) r d st.1 pt.1 f io op rest a c)) P (omega arith)
    reach-sum x r d b st pt (leftward {l} {ls} t v s e f g) io op rest a c P k =
        let a₁ : drop io.read tokens ≡ tokens_of f ++ (t ∷ (tokens_of g ++ rest)) = a ∙ append_assoc (tokens_of f) (t ∷ tokens_of g) rest in
        let a₂ = told-past f io tokens (t ∷ (tokens_of g ++ rest)) a₁ in
        let a₃ = took-past (told f io) tokens t (tokens_of g ++ rest) a₂ in
        let p = rw (higher-is x r ls) at (passes-sum (suc x) r d st.1 pt.1 g (took (told f io)) (rw (told_is f io) op.1) rest a₃ c) in
        reach-left x (higher_of x r ls) l.operators (depth_of d g) t v io (told f io) (told g (took (told f io))) (tokens_of g ++ rest) P
        (reach-sum x r d b st pt f io op.0 (t ∷ (tokens_of g ++ rest)) a₁ (pt.0 t v e) P (omega arith)) a₂ e p (omega arith)
    reach-sum x r d b st pt (rightward {l} {ls} t v s e f g) io op rest a c P k = no-side l.right b s

  -- "It holds for any number of levels by one argument."
  pub postfix : (ls : List Level) → Postfix prog tokens answers ls
  unfolding Postfix
  postfix ls x r d st pt e io op rest a c = rw (told_is e io) at (passes-sum x r d st pt e io op rest a c)

  -- as a number of steps
  pub leads-owns : {s s' : Own} → Led s s' → (n : ℕ) × (owns prog tokens answers n s ≡ s')
  unfolding owns
  leads-owns stay = (0, refl)
  leads-owns (step h) = let x = leads-owns h in (suc x.0, x.1)
