-- What a reader refuses, it refuses at a word of the text, and the words of a tree that is read are words of the text: the laws follow the readers, one by one.
use mathlib.Core.Bool.{Bool, true, false, ◌||◌}
use mathlib.Core.List.{List, [], ◌∷◌}
use mathlib.Core.Logic.{inl}
use mathlib.Core.Option.{Option, none, some}
use mathlib.Core.Path.{◌≡◌, refl, sym, ◌∙◌}
use Prim.Native.Char.{code}
use Prim.Native.Nat.{ℕ, zero, suc, ◌+◌, ◌-◌, max, min}
use lib.Dec.{eqb, ltb}
use lib.ListN.{length}
use borrow.Author.Tests.{eqb-true, eqb-false}
use native.Mathlib.Omega.{arith}
use Rattle.acceptance.proofs.Shape.{Each}
use Rattle.acceptance.proofs.WordsOf.{Row, ends, breaks, more, row}
use Rattle.acceptance.specs.Shown.{WordOf, Shown, ShownBy, a_byte, too_early, a_word}
use Rattle.base.specs.Bools.{and}
use Rattle.std.specs.Prelude.{if◌then◌else◌}
use Rattle.base.specs.Common.{bytes, same}
use Rattle.base.specs.Tree.{plain, cycle, choice, done, ◌▸◌, nil, alternative, absent, otherwise}
use Rattle.syntax.specs.Actions.{a_constant, a_value, a_ranked, a_plain, a_selector, a_label, some_labels, closes, a_cycle, a_choice, an_action, an_otherwise, an_alternative, actions, alternatives}
use Rattle.syntax.specs.Parse.{a_rule, some_rules, program, end_of}
use Rattle.syntax.specs.Reading.{Read, got, fault, Reader, onward, ◌>>=◌, ◌>>◌, pure, peek, pass, refuse, over, within, on◌then◌else◌, expect, longest, short, a_name, one_name, name_or_string, small, a_number, optional}
use Rattle.syntax.specs.Sections.{a_spelling, a_count, an_entry, entries, kind_ahead, is_full, a_parameter, numbered, an_operation, some_operations, spells, ranking, a_level, a_side, an_operator, some_operators, operator_section, mechanism_section, other_section, Sofar, nothing, after as after_section, token_section, a_section, some_sections}
use Rattle.syntax.specs.Written.{Plain, named, any, exit, emit, error as an_error, call, give, ranked, Selector, by_token, by_rule, by_operation, Act, Acts, Alts, Other, Choices, Constant, Entry, Operation, Operator, Section, inputs, outputs, both, errors, values, operations, operators, Rule, Program}
use Rattle.words.specs.Words.{Word, bad, last, twice, name, number, string, input, output, error, type, mechanism, rules, end, value, words}

module _ (text : List ℕ) where
  -- The words of a tree

  abbrev pub Is : Word → Type 0
  Is w = Shown text w

  abbrev pub May : Option Word → Type 0
  May none = Unit {0}
  May (some w) = Is w

  abbrev pub ConstantShown : Option Constant → Type 0
  ConstantShown none = Unit {0}
  ConstantShown (some c) = Is c.paren × Is c.constant

  abbrev pub PlainShown : Plain → Type 0
  PlainShown (named w c) = Is w × ConstantShown c
  PlainShown (any w) = Unit {0}
  PlainShown (exit w) = Is w
  PlainShown (emit w) = Is w
  PlainShown (an_error w) = Is w
  PlainShown (call w) = Is w
  PlainShown (give w v) = Is w × May v
  PlainShown (ranked s w o) = Is s × Is w × Is o

  abbrev pub SelectorShown : Selector → Type 0
  SelectorShown by_token = Unit {0}
  SelectorShown (by_rule w) = Is w
  SelectorShown (by_operation w c) = Is w × ConstantShown c

  unfoldable mutual
    pub ActShown : Act → Type 0
    ActShown (plain p) = PlainShown p
    ActShown (cycle b) = ActsShown b
    ActShown (choice s q o) = SelectorShown s × AltsShown q × OtherShown o

    pub ActsShown : Acts → Type 0
    ActsShown done = Unit {0}
    ActsShown (a ▸ q) = ActShown a × ActsShown q

    pub AltsShown : Alts → Type 0
    AltsShown nil = Unit {0}
    AltsShown (alternative ls b q) = Each Is ls × ActsShown b × AltsShown q

    pub OtherShown : Other → Type 0
    OtherShown absent = Unit {0}
    OtherShown (otherwise b) = ActsShown b

  abbrev pub ChoicesShown : Choices → Type 0
  ChoicesShown c = AltsShown c.labelled × OtherShown c.default

  abbrev pub EntryShown : Entry → Type 0
  EntryShown e = Is e.entry

  abbrev pub OperationShown : Operation → Type 0
  OperationShown o = Is o.operation × May o.takes × May o.gives

  abbrev pub OperatorShown : Operator → Type 0
  OperatorShown o = Is o.token × Is o.emits

  abbrev pub SectionShown : Section → Type 0
  SectionShown (inputs es) = Each EntryShown es
  SectionShown (outputs es) = Each EntryShown es
  SectionShown (both es) = Each EntryShown es
  SectionShown (errors es) = Each EntryShown es
  SectionShown (values w es) = Is w × Each EntryShown es
  SectionShown (operations os) = Each OperationShown os
  SectionShown (operators w os) = Is w × Each OperatorShown os

  pub record RuleShown (r : Rule) : Type 0 where
    pub rule : Is r.rule
    pub gives : May r.gives
    pub body : ActsShown r.body
    pub closing : Is r.closing

  pub record ProgramShown (p : Program) : Type 0 where
    pub sections : Each SectionShown p.sections
    pub rules : Each RuleShown p.rules

  -- Readers

  abbrev Rest : List Word → Type 0
  Rest ws = Row text (WordOf text) ws

  -- what m makes of the words ws: a fault is shown, and what is given and the words left have P
  pub record Reads {A : Type 0} (ws : List Word) (m : Reader A) (P : List Word → A → Type 0) : Type 0 where
    pub says : (n : ℕ) (w : Word) → m ws ≡ fault n w → ShownBy text n w
    pub leaves : (a : A) (rest : List Word) → m ws ≡ got a rest → P rest a

  -- the words left are words of the text, and what is given has P
  abbrev Gives : {A : Type 0} → List Word → Reader A → (A → Type 0) → Type 0
  Gives {A} ws m P = Reads ws m (λ rest a. Rest rest × P a)

  abbrev Any : {A : Type 0} → A → Type 0
  Any a = Unit {0}

  no-fault {ℓ} : {A : Type 0} {B : Type ℓ} {n : ℕ} {w : Word} {a : A} {rest : List Word} → got a rest ≡ fault n w → B
  no-fault e = let z : ◌≡◌ {A = ℕ} 0 1 = cc in absurd (omega arith)

  no-got {ℓ} : {A : Type 0} {B : Type ℓ} {n : ℕ} {w : Word} {a : A} {rest : List Word} → fault n w ≡ got a rest → B
  no-got e = let z : ◌≡◌ {A = ℕ} 0 1 = cc in absurd (omega arith)

  -- a fault shown at this word
  this : {A : Type 0} {k n : ℕ} {v w : Word} → ◌≡◌ {A = Read A} (fault k v) (fault n w) → ShownBy text k v → ShownBy text n w
  this {k = k} {n = n} {v = v} {w = w} e h = let d : k ≡ n = cc in let c : v ≡ w = cc in rw (d, c) at h

  bind : {A B : Type 0} {ws : List Word} {m : Reader A} {f : A → Reader B} {P : List Word → B → Type 0} {Q : List Word → A → Type 0}
      → Reads ws m Q → ((rest : List Word) (a : A) → Q rest a → Reads rest (f a) P) → Reads ws (◌>>=◌ m f) P
  unfolding onward
  bind {A} {B} {ws} {m} {f} {P} p q = record { says = λ n w e. go n w (m ws) refl e; leaves = λ b rest e. stay b rest (m ws) refl e }
    where
      go : (n : ℕ) (w : Word) (r : Read A) → m ws ≡ r → onward r f ≡ fault n w → ShownBy text n w
      go n w (got a rest) d e = (q rest a (p.leaves a rest d)).says n w e
      go n w (fault k v) d e = this e (p.says k v d)

      stay : (b : B) (rest : List Word) (r : Read A) → m ws ≡ r → onward r f ≡ got b rest → P rest b
      stay b rest (got a left) d e = (q left a (p.leaves a left d)).leaves b rest e
      stay b rest (fault k v) d e = no-got e

  gives : {A : Type 0} {a : A} {ws : List Word} {P : List Word → A → Type 0} → P ws a → Reads ws (pure a) P
  gives {A} {a} {ws} {P} h = record { says = λ n w e. no-fault e; leaves = λ b rest e. (let d : a ≡ b = cc in let c : ws ≡ rest = cc in rw (d, c) at h) }

  -- the next word is one
  passes : {ws : List Word} → Rest ws → Is (peek ws) → Gives ws pass Is
  unfolding pass peek end_of
  passes (ends {w} g e) s = absurd (s.not_end (let z : w.kind ≡ last = cc in z))
  passes (breaks g e n) s = absurd (s.not_bad e)
  passes (more {w} {ws} g b l n r) s = record {
    says = λ n w e. no-fault e;
    leaves = λ a rest e. (let d : w ≡ a = cc in let c : ws ≡ rest = cc in let q : Rest ws × Is w = (r, s) in rw (d, c) at q);
  }

  -- the next word, of a kind that is neither bad nor the end
  is_word : {ws : List Word} (k : ℕ) → eqb k bad ≡ false → eqb k last ≡ false → Rest ws → (peek ws).kind ≡ k → Is (peek ws)
  unfolding peek end_of
  is_word k b l (ends {w} g e) d = absurd (eqb-false k last l (let z : k ≡ last = cc in z))
  is_word k b l (breaks g e n) d = absurd (eqb-false k bad b (let z : k ≡ bad = cc in z))
  is_word k b l (more g nb nl n r) d = record { word = g; not_bad = nb; not_end = nl; some = n }

  refuses : {A : Type 0} {ws : List Word} {P : List Word → A → Type 0} → Rest ws → Reads {A = A} ws refuse P
  unfolding refuse peek end_of
  refuses {A} (ends {w} g e) = record { says = λ n v d. go n v (eqb w.kind bad) refl d; leaves = λ a rest d. no-got d }
    where
      go : (n : ℕ) (v : Word) (t : Bool) → eqb w.kind bad ≡ t → ◌≡◌ {A = Read A} (fault (if t then 1 else 2) w) (fault n v) → ShownBy text n v
      go n v true x d = let z : last ≡ bad = (let y = eqb-true w.kind bad x in cc) in absurd (omega arith)
      go n v false x d = this d (too_early g e)
  refuses {A} (breaks {w} g e k) = record { says = λ n v d. go n v (eqb w.kind bad) refl d; leaves = λ a rest d. no-got d }
    where
      go : (n : ℕ) (v : Word) (t : Bool) → eqb w.kind bad ≡ t → ◌≡◌ {A = Read A} (fault (if t then 1 else 2) w) (fault n v) → ShownBy text n v
      go n v true x d = this d (a_byte g e k)
      go n v false x d = absurd (eqb-false w.kind bad x e)
  refuses {A} (more {w} g nb nl k r) = record { says = λ n v d. go n v (eqb w.kind bad) refl d; leaves = λ a rest d. no-got d }
    where
      go : (n : ℕ) (v : Word) (t : Bool) → eqb w.kind bad ≡ t → ◌≡◌ {A = Read A} (fault (if t then 1 else 2) w) (fault n v) → ShownBy text n v
      go n v true x d = absurd (nb (eqb-true w.kind bad x))
      go n v false x d = this d (a_word (inl (omega arith, omega arith)) (record { word = g; not_bad = nb; not_end = nl; some = k }))

  nine : {A : Type 0} {v : Word} {ws : List Word} {P : List Word → A → Type 0} → Is v → Reads {A = A} ws (λ _. fault 9 v) P
  nine s = record { says = λ n w e. this e (a_word (inl (omega arith, omega arith)) s); leaves = λ a rest e. no-got e }

  overs : {A : Type 0} {ws : List Word} {P : List Word → A → Type 0} → Is (peek ws) → Reads {A = A} ws over P
  unfolding over
  overs s = record { says = λ n w e. this e (a_word (inl (omega arith, omega arith)) s); leaves = λ a rest e. no-got e }

  -- a reader that does here as another one does
  alike : {A : Type 0} {ws : List Word} {P : List Word → A → Type 0} {m k : Reader A} → k ws ≡ m ws → Reads ws m P → Reads ws k P
  alike e p = record { says = λ n w d. p.says n w (sym e ∙ d); leaves = λ a rest d. p.leaves a rest (sym e ∙ d) }

  -- a test on the words that are left picks what is read
  by : {A : Type 0} {ws : List Word} {P : List Word → A → Type 0} (t : List Word → Bool) {m k : Reader A}
      → (t ws ≡ true → Reads ws m P) → (t ws ≡ false → Reads ws k P) → Reads ws (λ ws. if t ws then m ws else k ws) P
  by {A} {ws} {P} t {m} {k} p q = go (t ws) refl
    where
      go : (b : Bool) → t ws ≡ b → Reads ws (λ ws. if t ws then m ws else k ws) P
      go true e = record { says = λ n w d. (p e).says n w (rw e at d); leaves = λ a rest d. (p e).leaves a rest (rw e at d) }
      go false e = record { says = λ n w d. (q e).says n w (rw e at d); leaves = λ a rest d. (q e).leaves a rest (rw e at d) }

  -- the same where it picks between readers
  picks : {A : Type 0} {ws : List Word} {P : List Word → A → Type 0} (t : List Word → Bool) {m k : Reader A}
      → (t ws ≡ true → Reads ws m P) → (t ws ≡ false → Reads ws k P) → Reads ws (λ ws. (if t ws then m else k) ws) P
  picks {A} {ws} {P} t {m} {k} p q = go (t ws) refl
    where
      go : (b : Bool) → t ws ≡ b → Reads ws (λ ws. (if t ws then m else k) ws) P
      go true e = record { says = λ n w d. (p e).says n w (rw e at d); leaves = λ a rest d. (p e).leaves a rest (rw e at d) }
      go false e = record { says = λ n w d. (q e).says n w (rw e at d); leaves = λ a rest d. (q e).leaves a rest (rw e at d) }

  on-kind : {A : Type 0} {ws : List Word} {P : List Word → A → Type 0} (k : ℕ) {m n : Reader A} → eqb k bad ≡ false → eqb k last ≡ false → Rest ws
      → (Is (peek ws) → Reads ws m P) → Reads ws n P → Reads ws (on k then m else n) P
  unfolding on◌then◌else◌
  on-kind {A} {ws} {P} k b l r p q = picks (λ ws. eqb (peek ws).kind k) (λ e. p (is_word k b l r (eqb-true (peek ws).kind k e))) (λ _. q)

  limited : {A : Type 0} {ws : List Word} {P : List Word → A → Type 0} (left : ℕ) {m : Reader A} → Is (peek ws) → Reads ws m P → Reads ws (within left m) P
  unfolding within
  limited left s p = by (λ _. eqb left 0) (λ _. overs s) (λ _. p)

  expects : {ws : List Word} (k : ℕ) → eqb k bad ≡ false → eqb k last ≡ false → Rest ws → Gives ws (expect k) Is
  unfolding expect
  expects k b l r = on-kind k b l r (λ s. passes r s) (refuses r)

  shorts : {ws : List Word} → Rest ws → Is (peek ws) → Gives ws short Is
  unfolding short
  shorts r s = by (λ ws. ltb longest (length (peek ws).text)) (λ _. overs s) (λ _. passes r s)

  names : {ws : List Word} → Rest ws → Gives ws a_name Is
  unfolding a_name
  names r = on-kind name refl refl r (λ s. shorts r s) (refuses r)

  one_name_lem : {ws : List Word} (left : ℕ) → Rest ws → Gives ws (one_name left) Is
  unfolding one_name
  one_name_lem left r = on-kind name refl refl r (λ s. limited left s (shorts r s)) (refuses r)

  names-strings : {ws : List Word} → Rest ws → Gives ws name_or_string Is
  unfolding name_or_string
  names-strings r = on-kind string refl refl r (λ s. passes r s) (names r)

  -- a number that is read off the next word, or past a limit
  measured : {ws : List Word} (t : ℕ → Bool) → Rest ws → Is (peek ws)
      → Gives ws (λ ws. if t (value 0 (peek ws).text) then over ws else onward (pass ws) (λ w. pure (value 0 (peek ws).text))) Any
  measured {ws} t r s = go (t (value 0 (peek ws).text)) refl
    where
      past : Gives {A = ℕ} ws over Any
      past = overs s

      read : (x : ℕ) → Gives ws (λ ws. onward (pass ws) (λ w. pure x)) Any
      read x = bind (passes r s) (λ rest w q. gives (q.0, tt))

      go : (b : Bool) → t (value 0 (peek ws).text) ≡ b
          → Gives ws (λ ws. if t (value 0 (peek ws).text) then over ws else onward (pass ws) (λ w. pure (value 0 (peek ws).text))) Any
      go true e = record { says = λ n w d. past.says n w (rw e at d); leaves = λ a rest d. past.leaves a rest (rw e at d) }
      go false e = record { says = λ n w d. (read (value 0 (peek ws).text)).says n w (rw e at d); leaves = λ a rest d. (read (value 0 (peek ws).text)).leaves a rest (rw e at d) }

  smalls : {ws : List Word} → Rest ws → Is (peek ws) → Gives ws small Any
  unfolding small
  smalls r s = measured (λ n. ltb 65535 n) r s

  numbers : {ws : List Word} → Rest ws → Gives ws a_number Any
  unfolding a_number
  numbers r = on-kind number refl refl r (λ s. smalls r s) (refuses r)

  -- `>>` and a name, or nothing
  typed : {ws : List Word} → Rest ws → Gives ws (optional twice a_name) May
  unfolding optional
  typed r = on-kind twice refl refl r (λ s. bind (passes r s) (λ ws₁ w q. bind (names q.0) (λ ws₂ a u. gives (u.0, u.1)))) (gives (r, tt))

  -- Sections

  spellings : {ws : List Word} (strings : Bool) → Rest ws → Gives ws (a_spelling strings) Any
  unfolding a_spelling
  spellings false r = gives (r, tt)
  spellings true r = on-kind string refl refl r (λ s. bind (passes r s) (λ ws₁ w q. gives (q.0, tt))) (gives (r, tt))

  counts : {ws : List Word} (w : Word) (v : ℕ) → Is w → Rest ws → Gives ws (a_count w v) Any
  unfolding a_count
  counts w v i r = on-kind (code "=") refl refl r (λ s. bind (passes r s) (λ ws₁ w q. numbers q.0)) (by (λ _. ltb 65535 v) (λ _. nine i) (λ _. gives (r, tt)))

  entry : {ws : List Word} (left : ℕ) (strings : Bool) (v : ℕ) → Rest ws → Gives ws (an_entry left strings v) EntryShown
  unfolding an_entry
  entry left strings v r =
      bind (one_name_lem left r) (λ ws₁ w q. bind (spellings strings q.0) (λ ws₂ s u. bind (counts w v q.1 u.0) (λ ws₃ n x. gives (x.0, q.1))))

  all-entries : {ws : List Word} (k left : ℕ) (strings : Bool) (v : ℕ) → Rest ws → Gives ws (entries k left strings v) (Each EntryShown)
  unfolding entries Each
  all-entries zero left strings v r = refuses r
  all-entries (suc k) left strings v r =
      bind (entry left strings v r) (λ ws₁ e q.
      bind (on-kind (code ";") refl refl q.0 (λ s. bind (passes q.0 s) (λ ws₂ w u. gives (u.0, tt))) (all-entries k (left - 1) strings (e.value + 1) q.0))
      (λ ws₃ es x. gives (x.0, (q.1, x.1))))

  parameters : {ws : List Word} → Rest ws → Gives ws a_parameter May
  unfolding a_parameter
  parameters r =
      on-kind (code "(") refl refl r
      (λ s. bind (passes r s) (λ ws₁ w q. bind (names q.0) (λ ws₂ t u. bind (expects (code ")") refl refl u.0) (λ ws₃ c x. gives (x.0, u.1)))))
      (gives (r, tt))

  number-given : {ws : List Word} (w : Word) (seen : List ℕ) → Is w → Rest ws → Gives ws (numbered w seen) OperationShown
  unfolding numbered
  number-given w seen i r = bind (parameters r) (λ ws₁ t q. bind (typed q.0) (λ ws₂ g u. gives (u.0, (i, q.1, u.1))))

  operation : {ws : List Word} (left : ℕ) (seen : List ℕ) → Rest ws → Gives ws (an_operation left seen) OperationShown
  unfolding an_operation
  operation left seen r =
      bind (one_name_lem left r) (λ ws₁ w q. picks (λ ws. is_full (kind_ahead ws) seen) (λ _. nine q.1) (λ _. number-given w seen q.1 q.0))

  all-operations : {ws : List Word} (k left : ℕ) (seen : List ℕ) → Rest ws → Gives ws (some_operations k left seen) (Each OperationShown)
  unfolding some_operations Each
  all-operations zero left seen r = refuses r
  all-operations (suc k) left seen r =
      bind (operation left seen r) (λ ws₁ o q.
      bind (on-kind (code ";") refl refl q.0 (λ s. bind (passes q.0 s) (λ ws₂ w u. gives (u.0, tt))) (all-operations k (left - 1) (o.instruction ∷ seen) q.0))
      (λ ws₃ os x. gives (x.0, (q.1, x.1))))

  -- a colon, entries, and a section made of them
  section-of : {ws : List Word} (k left : ℕ) (strings : Bool) (v : ℕ) (make : List Entry → Section) → ((es : List Entry) → Each EntryShown es → SectionShown (make es)) → Rest ws
      → Gives ws (◌>>◌ (expect (code ":")) (◌>>=◌ (entries k left strings v) (λ es. pure (make es)))) SectionShown
  section-of k left strings v make f r = bind (expects (code ":") refl refl r) (λ ws₁ w q. bind (all-entries k left strings v q.0) (λ ws₂ es u. gives (u.0, f es u.1)))

  token-section : {ws : List Word} (k : ℕ) (s : Sofar) → Rest ws → Gives ws (token_section k s) SectionShown
  unfolding token_section
  token-section k s r =
      on-kind output refl refl r (λ i. bind (passes r i) (λ ws₁ w q. section-of k s.left true (max s.input s.output) both (λ es h. h) q.0))
      (section-of k s.left true s.input inputs (λ es h. h) r)

  ranks : {ws : List Word} → Rest ws → Is (peek ws) → Gives ws ranking Any
  unfolding ranking
  ranks r s = measured (λ n. eqb n 0 || ltb 15 n) r s

  levels : {ws : List Word} → Rest ws → Gives ws a_level Any
  unfolding a_level
  levels r = on-kind number refl refl r (λ s. ranks r s) (refuses r)

  -- a word that is spelt so is a name
  spells-name : {ws : List Word} (b : List ℕ) → Rest ws → spells b ws ≡ true → Is (peek ws)
  unfolding spells
  spells-name {ws} b r e = is_word name refl refl r (eqb-true (peek ws).kind name (and (eqb (peek ws).kind name) (same (peek ws).text b) e).0)

  sides : {ws : List Word} → Rest ws → Gives ws a_side Any
  unfolding a_side
  sides {ws} r = go (spells (bytes "left") ws) (spells (bytes "right") ws) refl refl
    where
      one : {A : Type 0} (a : A) → Is (peek ws) → Gives ws (◌>>◌ pass (pure a)) Any
      one a s = bind (passes r s) (λ ws₁ w q. gives (q.0, tt))

      go : (a b : Bool) → spells (bytes "left") ws ≡ a → spells (bytes "right") ws ≡ b → Gives ws a_side Any
      go true b e f = alike {m = ◌>>◌ pass (pure false)} (rw e refl) (one false (spells-name (bytes "left") r e))
      go false true e f = alike {m = ◌>>◌ pass (pure true)} (rw (e, f) refl) (one true (spells-name (bytes "right") r f))
      go false false e f = alike {m = refuse} (rw (e, f) refl) (refuses r)

  one_operator : {ws : List Word} → Rest ws → Gives ws an_operator OperatorShown
  unfolding an_operator
  one_operator r = bind (names-strings r) (λ ws₁ t q. bind (levels q.0) (λ ws₂ l u. bind (sides u.0) (λ ws₃ s x. bind (names-strings x.0) (λ ws₄ o y. gives (y.0, (q.1, y.1))))))

  all-operators : {ws : List Word} (k : ℕ) → Rest ws → Gives ws (some_operators k) (Each OperatorShown)
  unfolding some_operators Each
  all-operators zero r = refuses r
  all-operators (suc k) r =
      bind (one_operator r) (λ ws₁ o q.
      bind (on-kind (code ";") refl refl q.0 (λ s. bind (passes q.0 s) (λ ws₂ w u. gives (u.0, tt))) (all-operators k q.0))
      (λ ws₃ os x. gives (x.0, (q.1, x.1))))

  operator-section : {ws : List Word} (k : ℕ) (s : Sofar) → Rest ws → Gives ws (operator_section k s) SectionShown
  unfolding operator_section
  operator-section k s r =
      bind (one_name_lem s.left r) (λ ws₁ w q. bind (expects (code ":") refl refl q.0) (λ ws₂ c u. bind (all-operators k u.0) (λ ws₃ os x. gives (x.0, (q.1, x.1)))))

  mechanism-section : {ws : List Word} (k : ℕ) (s : Sofar) → Rest ws → Gives ws (mechanism_section k s) SectionShown
  unfolding mechanism_section
  mechanism-section k s r =
      bind (expects mechanism refl refl r) (λ ws₁ h q. bind (names q.0) (λ ws₂ w u. bind (expects (code ":") refl refl u.0) (λ ws₃ c x.
      bind (all-operations k s.left s.seen x.0) (λ ws₄ os y. gives (y.0, y.1)))))

  other-section : {ws : List Word} (k : ℕ) (s : Sofar) → Rest ws → Gives ws (other_section k s) SectionShown
  unfolding other_section
  other-section k s r =
      picks (λ ws. spells (bytes "operators") ws) (λ e. bind (passes r (spells-name (bytes "operators") r e)) (λ ws₁ w q. operator-section k s q.0))
      (λ _. mechanism-section k s r)

  section : {ws : List Word} (k : ℕ) (s : Sofar) → Rest ws → Gives ws (a_section k s) SectionShown
  unfolding a_section
  section k s r =
      on-kind input refl refl r (λ i. bind (passes r i) (λ ws₁ w q. token-section k s q.0))
      (on-kind output refl refl r (λ i. bind (passes r i) (λ ws₁ w q. section-of k s.left true s.output outputs (λ es h. h) q.0))
      (on-kind error refl refl r (λ i. bind (passes r i) (λ ws₁ w q. section-of k s.left false s.error errors (λ es h. h) q.0))
      (on-kind type refl refl r (λ i. bind (passes r i) (λ ws₁ h q. bind (one_name_lem s.left q.0) (λ ws₂ w u. section-of k (s.left - 1) false 0 (values w) (λ es x. (u.1, x)) u.0)))
      (other-section k s r))))

  sections : {ws : List Word} (k : ℕ) (s : Sofar) → Rest ws → Gives ws (some_sections k s) (λ x. Each SectionShown x.sections)
  unfolding some_sections Each
  sections zero s r = refuses r
  sections (suc k) s r =
      on-kind rules refl refl r (λ _. gives (r, tt))
      (bind (section k s r) (λ ws₁ x q. bind (sections k (after_section s x) q.0) (λ ws₂ xs u. gives (u.0, (q.1, u.1)))))

  -- Actions

  constants : {ws : List Word} → Rest ws → Gives ws a_constant ConstantShown
  unfolding a_constant
  constants r =
      on-kind (code "(") refl refl r
      (λ s. bind (passes r s) (λ ws₁ paren q. bind (names-strings q.0) (λ ws₂ c u. bind (expects (code ")") refl refl u.0) (λ ws₃ close x. gives (x.0, (q.1, u.1))))))
      (gives (r, tt))

  given-values : {ws : List Word} → Rest ws → Gives ws a_value May
  unfolding a_value
  given-values r =
      on-kind name refl refl r (λ _. bind (names r) (λ ws₁ v q. gives (q.0, q.1)))
      (on-kind string refl refl r (λ s. bind (passes r s) (λ ws₁ v q. gives (q.0, q.1))) (gives (r, tt)))

  a-ranked : {ws : List Word} (s : Word) → Is s → Rest ws → Gives ws (a_ranked s) PlainShown
  unfolding a_ranked
  a-ranked s i r = bind (names r) (λ ws₁ w q. bind (expects (code "@") refl refl q.0) (λ ws₂ at u. bind (names u.0) (λ ws₃ o x. gives (x.0, (i, q.1, x.1)))))

  plains : {ws : List Word} → Rest ws → Gives ws a_plain PlainShown
  unfolding a_plain
  plains r =
      on-kind name refl refl r (λ _. bind (names r) (λ ws₁ w q. bind (constants q.0) (λ ws₂ c u. gives (u.0, (q.1, u.1)))))
      (on-kind string refl refl r (λ s. bind (passes r s) (λ ws₁ w q. bind (constants q.0) (λ ws₂ c u. gives (u.0, (q.1, u.1)))))
      (on-kind (code "?") refl refl r (λ s. bind (passes r s) (λ ws₁ w q. gives (q.0, tt)))
      (on-kind (code ".") refl refl r (λ s. bind (passes r s) (λ ws₁ w q. bind (names-strings q.0) (λ ws₂ v u. gives (u.0, u.1))))
      (on-kind (code "#") refl refl r (λ s. bind (passes r s) (λ ws₁ w q. bind (names-strings q.0) (λ ws₂ v u. gives (u.0, u.1))))
      (on-kind (code ">") refl refl r (λ s. bind (passes r s) (λ ws₁ w q. gives (q.0, q.1)))
      (on-kind (code "@") refl refl r (λ s. bind (passes r s) (λ ws₁ w q. bind (names q.0) (λ ws₂ v u. gives (u.0, u.1))))
      (on-kind twice refl refl r (λ s. bind (passes r s) (λ ws₁ w q. bind (given-values q.0) (λ ws₂ v u. gives (u.0, (q.1, u.1)))))
      (on-kind (code "^") refl refl r (λ s. bind (passes r s) (λ ws₁ w q. a-ranked w q.1 q.0))
      (refuses r)))))))))

  selectors : {ws : List Word} → Rest ws → Gives ws a_selector SelectorShown
  unfolding a_selector
  selectors r =
      on-kind (code "@") refl refl r (λ s. bind (passes r s) (λ ws₁ w q. bind (names q.0) (λ ws₂ v u. gives (u.0, u.1))))
      (on-kind name refl refl r (λ _. bind (names r) (λ ws₁ w q. bind (constants q.0) (λ ws₂ c u. gives (u.0, (q.1, u.1))))) (gives (r, tt)))

  label : {ws : List Word} (room : ℕ) → Rest ws → Gives ws (a_label room) Is
  unfolding a_label
  label room r = on-kind string refl refl r (λ s. limited room s (passes r s)) (on-kind name refl refl r (λ s. limited room s (shorts r s)) (refuses r))

  labels : {ws : List Word} (k room : ℕ) → Rest ws → Gives ws (some_labels k room) (Each Is)
  unfolding some_labels Each
  labels zero room r = refuses r
  labels (suc k) room r =
      bind (label room r) (λ ws₁ w q.
      bind (on-kind (code ",") refl refl q.0 (λ s. bind (passes q.0 s) (λ ws₂ c u. labels k (room - 1) u.0)) (gives (q.0, tt)))
      (λ ws₃ ls x. gives (x.0, (q.1, x.1))))

  -- a reader of a list of actions, and of alternatives, at any words
  abbrev ActsReader : Reader Acts → Type 0
  ActsReader m = (ws : List Word) → Rest ws → Gives ws m ActsShown

  abbrev ChoicesReader : Reader Choices → Type 0
  ChoicesReader m = (ws : List Word) → Rest ws → Gives ws m ChoicesShown

  cycles : {ws : List Word} {inner : Reader Acts} → ActsReader inner → Rest ws → Gives ws (a_cycle inner) ActShown
  unfolding a_cycle ActShown
  cycles {ws} p r = bind (p ws r) (λ ws₁ b q. bind (expects (code "}") refl refl q.0) (λ ws₂ c u. gives (u.0, q.1)))

  choices : {ws : List Word} {inner : Reader Choices} → ChoicesReader inner → Rest ws → Gives ws (a_choice inner) ActShown
  unfolding a_choice ActShown
  choices p r = bind (selectors r) (λ ws₁ s q. bind (expects (code "|") refl refl q.0) (λ ws₂ b u. bind (p ws₂ u.0) (λ ws₃ c x. gives (x.0, (q.1, x.1.0, x.1.1)))))

  action : {ws : List Word} (inner : ℕ → Reader Acts) (choose : ℕ → Reader Choices) (left : ℕ) → ((n : ℕ) → ActsReader (inner n)) → ((n : ℕ) → ChoicesReader (choose n)) → Rest ws
      → Gives ws (an_action inner choose left) ActShown
  unfolding an_action ActShown
  action inner choose left p q r =
      on-kind (code "{") refl refl r (λ s. limited left s (bind (passes r s) (λ ws₁ w u. cycles (p (left - 1)) u.0)))
      (on-kind (code "[") refl refl r (λ s. limited left s (bind (passes r s) (λ ws₁ w u. choices (q (left - 1)) u.0))) (bind (plains r) (λ ws₁ x u. gives (u.0, u.1))))

  otherwises : {ws : List Word} {inner : Reader Acts} → ActsReader inner → Rest ws → Gives ws (an_otherwise inner) ChoicesShown
  unfolding an_otherwise ActShown
  otherwises p r = bind (expects (code ":") refl refl r) (λ ws₁ c q. bind (p ws₁ q.0) (λ ws₂ b u. bind (expects (code "]") refl refl u.0) (λ ws₃ d x. gives (x.0, (tt, u.1)))))

  one-alternative : {ws : List Word} (k room : ℕ) (inner : Reader Acts) (others : ℕ → Reader Choices) → ActsReader inner → ((n : ℕ) → ChoicesReader (others n)) → Rest ws
      → Gives ws (an_alternative k room inner others) ChoicesShown
  unfolding an_alternative ActShown
  one-alternative k room inner others p q r =
      bind (labels k room r) (λ ws₁ ls u. bind (expects (code ":") refl refl u.0) (λ ws₂ c x. bind (p ws₂ x.0) (λ ws₃ b y.
      bind (on-kind (code "|") refl refl y.0 (λ s. bind (passes y.0 s) (λ ws₄ w z. q (room - length ls) ws₄ z.0))
      (bind (expects (code "]") refl refl y.0) (λ ws₄ d z. gives (z.0, (tt, tt)))))
      (λ ws₅ c v. gives (v.0, ((u.1, y.1, v.1.0), v.1.1))))))

  mutual
    unfolding actions ActShown

    all-actions : (k left : ℕ) → ActsReader (actions k left)
    all-actions zero left ws r = refuses r
    all-actions (suc k) left ws r =
        picks (λ ws. closes (peek ws).kind) (λ _. gives (r, tt))
        (λ _. bind (action (λ l ws. actions k l ws) (λ l ws. alternatives k l 64 ws) left (λ n ws r. all-actions k n ws r) (λ n ws r. all-alternatives k n 64 ws r) r)
        (λ ws₁ a q. bind (all-actions k left ws₁ q.0) (λ ws₂ x u. gives (u.0, (q.1, u.1)))))

    all-alternatives : (k left room : ℕ) → ChoicesReader (alternatives k left room)
    all-alternatives zero left room ws r = refuses r
    all-alternatives (suc k) left room ws r =
        on-kind (code "*") refl refl r (λ s. bind (passes r s) (λ ws₁ w q. otherwises (λ ws r. all-actions k left ws r) q.0))
        (one-alternative k room (λ ws. actions k left ws) (λ n ws. alternatives k left n ws) (λ ws r. all-actions k left ws r) (λ n ws r. all-alternatives k left n ws r) r)

  -- Rules

  one_rule : {ws : List Word} (k left : ℕ) → Rest ws → Gives ws (a_rule k left) RuleShown
  unfolding a_rule
  one_rule k left r =
      bind (one_name_lem left r) (λ ws₁ w q. bind (typed q.0) (λ ws₂ g u. bind (expects (code ":") refl refl u.0) (λ ws₃ c x.
      bind (all-actions k 32 ws₃ x.0) (λ ws₄ b y. bind (expects (code ";") refl refl y.0) (λ ws₅ e z.
      gives (z.0, record { rule = q.1; gives = u.1; body = y.1; closing = z.1 }))))))

  all-rules : {ws : List Word} (k left : ℕ) → Rest ws → Gives ws (some_rules k left) (Each RuleShown)
  unfolding some_rules Each
  all-rules zero left r = refuses r
  all-rules (suc k) left r =
      bind (one_rule k left r) (λ ws₁ x q. bind (on-kind name refl refl q.0 (λ _. all-rules k (left - 1) q.0) (gives (q.0, tt))) (λ ws₂ xs u. gives (u.0, (q.1, u.1))))

  -- the end of the text, behind which nothing is read
  ended : {A : Type 0} {ws : List Word} (a : A) {P : List Word → A → Type 0} → Rest ws → ((rest : List Word) → P rest a) → Reads ws (◌>>◌ (expect last) (pure a)) P
  unfolding expect on◌then◌else◌ onward pass
  ended {A} {ws} a {P} r p = bind {Q = λ rest w. Unit {0}} (picks (λ ws. eqb (peek ws).kind last) (λ _. passed) (λ _. refuses r)) (λ rest w _. gives (p rest))
    where
      go : (ws : List Word) (n : ℕ) (w : Word) → pass ws ≡ fault n w → ShownBy text n w
      go [] n w e = no-fault e
      go (v ∷ ws) n w e = no-fault e

      passed : Reads ws pass (λ rest w. Unit {0})
      passed = record { says = λ n w e. go ws n w e; leaves = λ b rest e. tt }

  pub programs : (k : ℕ) → Reads (words text) (program k) (λ rest p. ProgramShown p)
  unfolding program
  programs k =
      bind (sections k nothing (row text)) (λ ws₁ s q. bind (expects rules refl refl q.0) (λ ws₂ w u. bind (all-rules k (min 128 s.left) u.0) (λ ws₃ rs x.
      bind (expects end refl refl x.0) (λ ws₄ v y. ended _ y.0 (λ rest. record { sections = q.1; rules = x.1 })))))
