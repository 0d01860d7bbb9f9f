-- Laws of the parts of plain actions: what each answer tells of the part's derivations.
use mathlib.Core.Bool.{Bool, true, false}
use mathlib.Core.List.{List, [], ◌∷◌}
use mathlib.Core.Option.{Option, none, some}
use mathlib.Core.Logic.{◌⊎◌, inl, inr}
use mathlib.Core.Path.{◌≡◌, refl, sym, ap, ◌∙◌}
use Prim.Native.Nat.{ℕ, ◌+◌, ◌*◌, ◌<◌, ◌≤◌}
use native.Mathlib.Omega.{arith}
use lib.ListN.{length, get_or, take, drop, length-drop}
use lib.Seq.{length-take-le}
use Rattle.std.specs.Prelude.{if◌then◌else◌}
use Rattle.cells.specs.Cells.{plain_cells}
use Rattle.declarations.specs.Decls.{Agrees, knowns_in, class_named, members_of, lookup_in}
use Rattle.grammar.specs.Derived.{Took, Not, Reference, ConstantIn, no_constant, one_constant, ValueIn, no_value, one_value}
use Rattle.maker.specs.Pairs.{PairsAre}
use Rattle.names.specs.Known.{Checked, good, wrong, ◌>>=◌, KnownRule, Names, find}
use Rattle.names.specs.Resolve.{updating, parameter_of, update_of, match_of, give_of}
use Rattle.places.proofs.Heres.{Same, took-here, took-kind, not-here, reference-kind, reference-here}
use Rattle.program.specs.Past.{plain_past, is_exit}
use Rattle.program.specs.Program.{Plain, match, any, exit, call, back, give}
use Rattle.resolver.proofs.Looking.{looks-good, looks-wrong, after-good, after-wrong, lookup-about, row-about, rule-about, gives_none, gives_some}
use Rattle.resolver.proofs.Outcomes.{give-is, parameter-is, named-token, named_other, update-missing, update-choice, update-rest, call-missing, call-valued, call-rule, second_none, second-some}
use Rattle.resolver.proofs.Appending.{appends-length}
use Rattle.resolver.specs.Parts.{ParameterTold, Lies, Went, Misfit, PlainEnds, RestDone, NothingIn, ReferenceIn, NameIn, valued, Sends, named_of, call_of, any_of, exit_of, if_there, operation_cells, ParameterEnds, supplied, refused, ValueDone, ParameterDone}
use Rattle.resolver.specs.Resolved.{BuiltTold, DoneTold, Faulted, Appends, Ends, ended, failed}
use Rattle.scanner.specs.Next.{Next, as_word}
use Rattle.scanner.specs.declared.WordAt.{WordAt}
use Rattle.symbols.proofs.Numbered.{Numbered}
use Rattle.symbols.specs.Rows.{answer_of, held, word_of, decl_at, gives_of, operation_in, rule_in}
use Rattle.std.specs.Prelude.{Some, None}
use Rattle.symbols.proofs.Searches.{answer-some, answer-none}
use Rattle.syntax.specs.Written.{Constant, Program}
use Rattle.words.specs.Words.{Word, words_at}

-- Faults

-- the check fails, at a word of this place and length
pub record Fails {A : Type 0} (f i l : ℕ) (m : Checked A) : Type 0 where
  pub word : Word
  pub is : m ≡ wrong f word
  pub at : i ≡ word.start
  pub len : l ≡ length word.text

pub word-length : (text : List ℕ) (w : WordAt) → w.start + w.len ≤ length text → w.len ≡ length (as_word text w).text
word-length text w h = sym (length-take-le w.len (drop w.start text) (omega (arith, length-drop w.start text)))

pub fails-here : {A : Type 0} {m : Checked A} {f : ℕ} (text : List ℕ) (w : WordAt) → w.start + w.len ≤ length text → m ≡ wrong f (as_word text w) → Fails f w.start w.len m
fails-here text w h e = record { word = as_word text w; is = e; at = refl; len = word-length text w h }

pub fails-after : {A B : Type 0} {m : Checked A} (g : A → Checked B) {f i l : ℕ} → Fails f i l m → Fails f i l (◌>>=◌ m g)
fails-after g {f} e = record { word = e.word; is = after-wrong g f e.word e.is; at = e.at; len = e.len }

pub fails_by : {A : Type 0} {m m' : Checked A} {f i l : ℕ} → m ≡ m' → Fails f i l m' → Fails f i l m
fails_by q e = record { word = e.word; is = q ∙ e.is; at = e.at; len = e.len }

-- the same outcome
pub ends_by : {B E : Type 0} {text cs cs' : List ℕ} {ws : List Word} {c : ℕ} {cells_of : B → List ℕ} {P : B → Type 0} {r : DoneTold} {m m' : Checked B} → m ≡ m'
    → Ends E text ws cs c cs' cells_of P r m' → Ends E text ws cs c cs' cells_of P r m
ends_by e t = rw e t

pub fail-ends : {B E : Type 0} {text cs cs' : List ℕ} {ws : List Word} {c f i l : ℕ} {cells_of : B → List ℕ} {P : B → Type 0} {r : DoneTold} {m : Checked B} → r.fault ≡ f → r.at ≡ i → r.len ≡ l
    → (f ≡ 0 → ⊥) → Fails f i l m → Ends E text ws cs c cs' cells_of P r m
fail-ends p q o z e = rw e.is (failed p z (q ∙ e.at) (o ∙ e.len))

-- Actions

-- the check gives an action of these cells
pub record Goes (text : List ℕ) (ws : List Word) (cs : List ℕ) (c : ℕ) (cs' : List ℕ) (i k : ℕ) (b : Bool) (m : Checked Plain) : Type 0 where
  pub value : Plain
  pub is : m ≡ good value
  pub words : ws ≡ words_at text i
  pub cells : Appends cs c (plain_cells value []) cs' k
  pub past : b ≡ plain_past value
  pub exits : false ≡ is_exit value

pub go-ends : {E : Type 0} {text cs cs' : List ℕ} {ws : List Word} {c i k : ℕ} {b : Bool} {r : BuiltTold} {m : Checked Plain} → Went i k b r → Goes text ws cs c cs' i k b m → PlainEnds E text ws cs c cs' r m
go-ends {E} {text} {cs} {cs'} {ws} {c} {i} {k} {b} {r} h e =
    let q : Appends cs c (plain_cells e.value []) cs' r.done.count = rw h.count e.cells in
    rw e.is (ended h.fault (e.words ∙ ap (words_at text) (sym h.at)) (λ _. q) (h.past ∙ e.past, h.exits ∙ e.exits))

module _ {A : Type 0} {In : List Word → List Word → A → Type 0} {outcome : Program → Names → List KnownRule → A → Checked Plain} {text rows : List ℕ} {n from : ℕ} {cs : List ℕ} {c : ℕ} where
  pub stops : {r : BuiltTold} {f i l : ℕ} → Faulted f i l r.done → (f ≡ 0 → ⊥)
      → ((p : Program) (names : Names) (rs : List KnownRule) → Agrees p names rs (held text rows n) → (a : A) (ws : List Word) → In (words_at text from) ws a → Fails f i l (outcome p names rs a))
      → RestDone In outcome text rows n from cs c cs r
  stops h z k = record {
    same = refl;
    low = λ e. absurd (z (sym h.fault ∙ e));
    high = λ e. absurd (z (sym h.fault ∙ e));
    done = λ p names rs ag a ws t. fail-ends h.fault h.at h.len z (k p names rs ag a ws t);
  }

  pub goes : {r : BuiltTold} {i k : ℕ} {b : Bool} {cs' : List ℕ} → Went i k b r → from ≤ i → i ≤ length text → length cs' ≡ length cs
      → ((p : Program) (names : Names) (rs : List KnownRule) → Agrees p names rs (held text rows n) → (a : A) (ws : List Word) → In (words_at text from) ws a
      → Goes text ws cs c cs' i k b (outcome p names rs a)) → RestDone In outcome text rows n from cs c cs' r
  goes h lo hi s k = record {
    same = s;
    low = λ e. omega (arith, h.at);
    high = λ e. omega (arith, h.at);
    done = λ p names rs ag a ws t. go-ends h (k p names rs ag a ws t);
  }

-- another outcome that is the same
pub rest-by : {A : Type 0} {In : List Word → List Word → A → Type 0} {one other : Program → Names → List KnownRule → A → Checked Plain} {text rows : List ℕ} {n from : ℕ} {cs cs' : List ℕ} {c : ℕ} {r : BuiltTold}
    → ((p : Program) (names : Names) (rs : List KnownRule) → Agrees p names rs (held text rows n) → (a : A) → other p names rs a ≡ one p names rs a)
    → RestDone In one text rows n from cs c cs' r → RestDone In other text rows n from cs c cs' r
rest-by q h = record {
  same = h.same;
  low = h.low;
  high = h.high;
  done = λ p names rs ag a ws t. ends_by (q p names rs ag a) (h.done p names rs ag a ws t);
}

-- A value of a class

module _ {text rows : List ℕ} {n at fl v : ℕ} {cs : List ℕ} {c : ℕ} {r : BuiltTold} (class : ℕ) (f : ℕ → Plain) (w : WordAt) (h : Next text at w) (inside : at ≤ length text)
    (looks : Numbered fl v (lookup_in (held text rows n) class (as_word text w))) where
  pub sent-stops : (fl ≡ 0 → ⊥) → Faulted fl w.start w.len r.done → RestDone ReferenceIn (λ p names rs u. valued f (lookup_in (held text rows n) class u)) text rows n at cs c cs r
  sent-stops z s = stops s z (λ p names rs ag a ws t.
      let q : a ≡ as_word text w = (reference-here text at w a ws h t).word in
      fails-here text w (h.inside inside) (ap (λ u. valued f (lookup_in (held text rows n) class u)) q ∙ after-wrong (λ v. good (f v)) fl (as_word text w) (looks-wrong (lookup-about (held text rows n) class (as_word text w)) looks z)))

  pub sent-goes : {first k : ℕ} {b : Bool} {cs' : List ℕ} → fl ≡ 0 → Sends first b f → Appends cs c (first ∷ v ∷ []) cs' k → Went w.next k b r
      → RestDone ReferenceIn (λ p names rs u. valued f (lookup_in (held text rows n) class u)) text rows n at cs c cs' r
  sent-goes {first} {k} {b} {cs'} z d a g = goes g h.onto (h.high inside) (appends-length a) (λ p names rs ag u ws t.
      let s : Same text w u ws = reference-here text at w u ws h t in
      record {
        value = f v;
        is = ap (λ u. valued f (lookup_in (held text rows n) class u)) s.word ∙ after-good (λ v. good (f v)) v (looks-good looks z);
        words = s.behind;
        cells = rw (d.cells v) a;
        past = d.past v;
        exits = d.exits v;
      })

-- Parameters

pub parameter-fails : {text : List ℕ} {ws : List Word} {r : ParameterTold} {m : Checked (Option ℕ)} → ParameterEnds text ws r m → (r.fault ≡ 0 → ⊥) → Fails r.fault r.at r.len m
parameter-fails (supplied e q t) z = absurd (z e)
parameter-fails {r = r} (refused {n} {w} e q a l) z = record { word = w; is = ap (λ (k : ℕ). wrong k w) (sym e); at = a; len = l }

pub parameter-good : {text : List ℕ} {ws : List Word} {r : ParameterTold} {m : Checked (Option ℕ)} → ParameterEnds text ws r m → r.fault ≡ 0 → m ≡ good (if_there r.there r.value)
parameter-good (supplied e q t) z = ap good q
parameter-good (refused e q a l) z = absurd (q (sym e ∙ z))

pub parameter-words : {text : List ℕ} {ws : List Word} {r : ParameterTold} {m : Checked (Option ℕ)} → ParameterEnds text ws r m → r.fault ≡ 0 → ws ≡ words_at text r.at
parameter-words (supplied e q t) z = t
parameter-words (refused e q a l) z = absurd (q (sym e ∙ z))

refuse : {text : List ℕ} {ws : List Word} {r : ParameterTold} {m : Checked (Option ℕ)} {f : ℕ} → r.fault ≡ f → (f ≡ 0 → ⊥) → Fails f r.at r.len m → ParameterEnds text ws r m
refuse e z h = rw h.is (refused e z h.at h.len)

supply : {text : List ℕ} {ws : List Word} {r : ParameterTold} {m : Checked (Option ℕ)} {o : Option ℕ} → m ≡ good o → r.fault ≡ 0 → o ≡ if_there r.there r.value → ws ≡ words_at text r.at → ParameterEnds text ws r m
supply q e o t = rw q (supplied e o t)

module _ {text rows : List ℕ} {n at fl v : ℕ} {r : ParameterTold} (class : ℕ) (w : WordAt) (h : Next text at w) (inside : at ≤ length text)
    (looks : Numbered fl v (lookup_in (held text rows n) class (as_word text w))) where
  pub value-stops : (fl ≡ 0 → ⊥) → r.fault ≡ fl → r.at ≡ w.start → r.len ≡ w.len → r.value ≡ 0 → ValueDone text rows n at class r
  value-stops z e a l q = record {
    low = λ g. absurd (z (sym e ∙ g));
    high = λ g. absurd (z (sym e ∙ g));
    small = omega arith;
    done = λ c close ws ws' t b.
        let s : c ≡ as_word text w = (reference-here text at w c ws h t).word in
        refuse e z (rw (a, l) (fails-here text w (h.inside inside)
        (ap (λ u. valued some (lookup_in (held text rows n) class u)) s ∙ after-wrong (λ v. good (some v)) fl (as_word text w) (looks-wrong (lookup-about (held text rows n) class (as_word text w)) looks z))));
  }

  pub value-goes : (e : WordAt) → Next text w.next e → fl ≡ 0 → r.fault ≡ 0 → r.at ≡ e.next → r.there ≡ true → r.value ≡ v → v < 65536 → ValueDone text rows n at class r
  value-goes e k z f a y q b = record {
    low = λ g. omega (arith, h.onto, k.onto);
    high = λ g. omega (arith, k.high (h.high inside));
    small = omega arith;
    done = λ c close ws ws' t u.
        let s : Same text w c ws = reference-here text at w c ws h t in
        let u' : Took 41 (words_at text w.next) close ws' = rw s.behind at u in
        let x : ws' ≡ words_at text e.next = (took-here text w.next 41 e close ws' (omega arith) k u').behind in
        let o : some v ≡ if_there r.there r.value = rw (y, q) in
        supply (ap (λ u. valued some (lookup_in (held text rows n) class u)) s.word ∙ after-good (λ v. good (some v)) v (looks-good looks z)) f o (x ∙ ap (words_at text) (sym a));
  }

-- behind the operation's name w, the next word k
module _ {text rows : List ℕ} {n : ℕ} {r : ParameterTold} (row : ℕ) (w k : WordAt) (lies : Lies text w) (h : Next text w.next k) where
  -- a parameter that is missing
  pub parameter-missing : (k.kind ≡ 40 → ⊥) → (get_or rows (8 * row + 5) 0 ≡ 0 → ⊥) → Misfit w.start w.len r
      → ParameterDone text rows n w.next (as_word text w) (members_of (held text rows n) (decl_at text rows row).second) r
  unfolding parameter_of
  parameter-missing z y m = record {
    low = λ g. absurd (omega (arith, m.fault));
    high = λ g. absurd (omega (arith, m.fault));
    small = omega (arith, m.value);
    done = λ p names rs ag c ws t. go p names rs ag c ws t;
  }
    where
      go : (p : Program) (names : Names) (rs : List KnownRule) → Agrees p names rs (held text rows n) → (c : Option Constant) (ws : List Word) → ConstantIn (words_at text w.next) ws c
          → ParameterEnds text ws r (parameter_of p names rs (as_word text w) (members_of (held text rows n) (decl_at text rows row).second) c)
      go p names rs ag none ws (no_constant q e) =
          refuse m.fault (λ e. omega arith) (rw (m.at, m.len) (fails-here text w lies.inside
          (ap (λ t. parameter_of p names rs (as_word text w) t none) (second-some text rows n ag row _ y refl))))
      go p names rs ag (some d) ws (one_constant {ws₁ = ws₁} t u v) = absurd (z (took-kind text w.next 40 k d.paren ws₁ h t))

  pub parameter-none : (k.kind ≡ 40 → ⊥) → get_or rows (8 * row + 5) 0 ≡ 0 → r.fault ≡ 0 → r.at ≡ w.next → r.there ≡ false → r.value ≡ 0
      → ParameterDone text rows n w.next (as_word text w) (members_of (held text rows n) (decl_at text rows row).second) r
  unfolding parameter_of
  parameter-none z y f a b v = record {
    low = λ g. omega arith;
    high = λ g. omega (arith, lies.high);
    small = omega arith;
    done = λ p names rs ag c ws t. go p names rs ag c ws t;
  }
    where
      go : (p : Program) (names : Names) (rs : List KnownRule) → Agrees p names rs (held text rows n) → (c : Option Constant) (ws : List Word) → ConstantIn (words_at text w.next) ws c
          → ParameterEnds text ws r (parameter_of p names rs (as_word text w) (members_of (held text rows n) (decl_at text rows row).second) c)
      go p names rs ag none ws (no_constant q e) =
          let o : none ≡ if_there r.there r.value = rw b in
          supply (ap (λ t. parameter_of p names rs (as_word text w) t none) (second_none text rows n ag row y)) f o (e ∙ ap (words_at text) (sym a))
      go p names rs ag (some d) ws (one_constant {ws₁ = ws₁} t u v) = absurd (z (took-kind text w.next 40 k d.paren ws₁ h t))

  pub parameter-extra : k.kind ≡ 40 → get_or rows (8 * row + 5) 0 ≡ 0 → Misfit k.start k.len r
      → ParameterDone text rows n w.next (as_word text w) (members_of (held text rows n) (decl_at text rows row).second) r
  unfolding parameter_of
  parameter-extra z y m = record {
    low = λ g. absurd (omega (arith, m.fault));
    high = λ g. absurd (omega (arith, m.fault));
    small = omega (arith, m.value);
    done = λ p names rs ag c ws t. go p names rs ag c ws t;
  }
    where
      go : (p : Program) (names : Names) (rs : List KnownRule) → Agrees p names rs (held text rows n) → (c : Option Constant) (ws : List Word) → ConstantIn (words_at text w.next) ws c
          → ParameterEnds text ws r (parameter_of p names rs (as_word text w) (members_of (held text rows n) (decl_at text rows row).second) c)
      go p names rs ag none ws (no_constant q e) = absurd (not-here text w.next 40 k h q z)
      go p names rs ag (some d) ws (one_constant {ws₁ = ws₁} t u v) =
          refuse m.fault (λ e. omega arith) (rw (m.at, m.len) (fails-here text k (h.inside lies.high)
          (ap (λ t. parameter_of p names rs (as_word text w) t (some d)) (second_none text rows n ag row y) ∙ ap (λ u. wrong 5 u) (took-here text w.next 40 k d.paren ws₁ (omega arith) h t).word)))

  pub parameter-there : (class : ℕ) → k.kind ≡ 40 → (get_or rows (8 * row + 5) 0 ≡ 0 → ⊥)
      → class ≡ class_named (held text rows n) (word_of text 257 (get_or rows (8 * row + 4) 0) (get_or rows (8 * row + 5) 0)).text
      → ValueDone text rows n k.next class r
      → ParameterDone text rows n w.next (as_word text w) (members_of (held text rows n) (decl_at text rows row).second) r
  parameter-there class z y q d = record {
    low = λ g. omega (arith, d.low g, h.onto);
    high = d.high;
    small = d.small;
    done = λ p names rs ag c ws t. go p names rs ag c ws t;
  }
    where
      moved : {ws : List Word} {m m' : Checked (Option ℕ)} → m ≡ m' → ParameterEnds text ws r m' → ParameterEnds text ws r m
      moved e t = rw e t

      go : (p : Program) (names : Names) (rs : List KnownRule) → Agrees p names rs (held text rows n) → (c : Option Constant) (ws : List Word) → ConstantIn (words_at text w.next) ws c
          → ParameterEnds text ws r (parameter_of p names rs (as_word text w) (members_of (held text rows n) (decl_at text rows row).second) c)
      go p names rs ag none ws (no_constant q e) = absurd (not-here text w.next 40 k h q z)
      go p names rs ag (some b) ws (one_constant {close = close} {ws₁ = ws₁} {ws₂ = ws₂} t u v) =
          let s : Same text k b.paren ws₁ = took-here text w.next 40 k b.paren ws₁ (omega arith) h t in
          let u' : Reference (words_at text k.next) b.constant ws₂ = rw s.behind at u in
          moved (ap (λ t. parameter_of p names rs (as_word text w) t (some b)) (second-some text rows n ag row class y q) ∙ parameter-is text rows n ag class (as_word text w) b)
          (d.done b.constant close ws₂ ws u' v)

-- A token to match

module _ {text : List ℕ} {at : ℕ} {cs : List ℕ} {c : ℕ} {r : BuiltTold} (rows : List ℕ) (n v : ℕ) (k : WordAt) (inside : at ≤ length text) (h : Next text at k) where
  pub match-stops : k.kind ≡ 40 → Faulted 5 k.start k.len r.done → RestDone ConstantIn (λ p names rs. match_of p names rs v) text rows n at cs c cs r
  unfolding match_of
  match-stops z s = stops s (λ e. omega arith) go
    where
      go : (p : Program) (names : Names) (rs : List KnownRule) → Agrees p names rs (held text rows n) → (d : Option Constant) (ws : List Word) → ConstantIn (words_at text at) ws d
          → Fails 5 k.start k.len (match_of p names rs v d)
      go p names rs ag none ws (no_constant q e) = absurd (not-here text at 40 k h q z)
      go p names rs ag (some d) ws (one_constant {ws₁ = ws₁} t u w) =
          fails-here text k (h.inside inside) (ap (λ u. wrong 5 u) (took-here text at 40 k d.paren ws₁ (omega arith) h t).word)

  pub match-goes : {cs' : List ℕ} {l : ℕ} → (k.kind ≡ 40 → ⊥) → Appends cs c (3 ∷ v ∷ []) cs' l → Went at l true r
      → RestDone ConstantIn (λ p names rs. match_of p names rs v) text rows n at cs c cs' r
  unfolding match_of plain_cells plain_past is_exit
  match-goes {cs'} {l} z a g = goes g (omega arith) inside (appends-length a) go
    where
      go : (p : Program) (names : Names) (rs : List KnownRule) → Agrees p names rs (held text rows n) → (d : Option Constant) (ws : List Word) → ConstantIn (words_at text at) ws d
          → Goes text ws cs c cs' at l true (match_of p names rs v d)
      go p names rs ag none ws (no_constant q e) = record { value = match v; is = refl; words = e; cells = a; past = refl; exits = refl }
      go p names rs ag (some d) ws (one_constant {ws₁ = ws₁} t u w) = absurd (z (took-kind text at 40 k d.paren ws₁ h t))

-- An update operation

updating-cells : (op : ℕ) (b : Bool) (v : ℕ) → plain_cells (updating op (if_there b v)) [] ≡ operation_cells op b v
unfolding plain_cells operation_cells
updating-cells op false v = refl
updating-cells op true v = refl

updating-past : (op : ℕ) (o : Option ℕ) → true ≡ plain_past (updating op o)
unfolding plain_past
updating-past op none = refl
updating-past op (some v) = refl

updating-stays : (op : ℕ) (o : Option ℕ) → false ≡ is_exit (updating op o)
unfolding is_exit
updating-stays op none = refl
updating-stays op (some v) = refl

module _ {text rows : List ℕ} {n fl row : ℕ} {cs : List ℕ} {c : ℕ} {r : BuiltTold} (w : WordAt) (lies : Lies text w) (looks : Numbered fl row (operation_in (held text rows n) (as_word text w))) where
  pub update-stops : (fl ≡ 0 → ⊥) → Faulted fl w.start w.len r.done
      → RestDone ConstantIn (λ p names rs. update_of p names rs (as_word text w)) text rows n w.next cs c cs r
  update-stops z s = stops s z (λ p names rs ag d ws t.
      fails-here text w lies.inside (update-missing text rows n ag (as_word text w) d fl (looks-wrong (row-about 6 (held text rows n) (as_word text w)) looks z)))

  pub update-chooses : fl ≡ 0 → row < n → (get_or rows (8 * row + 7) 0 ≡ 0 → ⊥) → Faulted 5 w.start w.len r.done
      → RestDone ConstantIn (λ p names rs. update_of p names rs (as_word text w)) text rows n w.next cs c cs r
  update-chooses z b y s = stops s (λ e. omega arith) (λ p names rs ag d ws t.
      fails-here text w lies.inside (update-choice text rows n ag (as_word text w) d row b (looks-good looks z) y))

  module _ {q : ParameterTold} (z : fl ≡ 0) (b : row < n) (y : get_or rows (8 * row + 7) 0 ≡ 0)
      (d : ParameterDone text rows n w.next (as_word text w) (members_of (held text rows n) (decl_at text rows row).second) q) where
    pub update-misfits : (q.fault ≡ 0 → ⊥) → Faulted q.fault q.at q.len r.done
        → RestDone ConstantIn (λ p names rs. update_of p names rs (as_word text w)) text rows n w.next cs c cs r
    update-misfits x s = stops s x (λ p names rs ag o ws t.
        fails_by (update-rest text rows n ag (as_word text w) o row b (looks-good looks z) y)
        (fails-after (λ v. good (updating (decl_at text rows row).value v)) (parameter-fails (d.done p names rs ag o ws t) x)))

    pub update-goes : {cs' : List ℕ} {k : ℕ} → q.fault ≡ 0 → Appends cs c (operation_cells (get_or rows (8 * row + 1) 0) q.there q.value) cs' k → Went q.at k true r
        → RestDone ConstantIn (λ p names rs. update_of p names rs (as_word text w)) text rows n w.next cs c cs' r
    unfolding decl_at
    update-goes {cs'} {k} x a g = goes g (d.low x) (d.high x) (appends-length a) (λ p names rs ag o ws t. record {
      value = updating (get_or rows (8 * row + 1) 0) (if_there q.there q.value);
      is = update-rest text rows n ag (as_word text w) o row b (looks-good looks z) y
          ∙ after-good (λ v. good (updating (decl_at text rows row).value v)) (if_there q.there q.value) (parameter-good (d.done p names rs ag o ws t) x);
      words = parameter-words (d.done p names rs ag o ws t) x;
      cells = rw (updating-cells (get_or rows (8 * row + 1) 0) q.there q.value) a;
      past = updating-past (get_or rows (8 * row + 1) 0) (if_there q.there q.value);
      exits = updating-stays (get_or rows (8 * row + 1) 0) (if_there q.there q.value);
    })

-- A token or an operation

module _ {text rows : List ℕ} {n : ℕ} {cs cs' : List ℕ} {c : ℕ} {r : BuiltTold} (w : WordAt) where
  pub named-matches : {v : ℕ} → Some v ≡ answer_of (find (as_word text w).text (knowns_in 1 (held text rows n))) → RestDone ConstantIn (λ p names rs. match_of p names rs v) text rows n w.next cs c cs' r
      → RestDone ConstantIn (λ p names rs. named_of p names rs (as_word text w)) text rows n w.next cs c cs' r
  named-matches {v} h d = rest-by (λ p names rs ag o. named-token text rows n ag (as_word text w) o v (answer-some _ h)) d

  pub named-updates : None ≡ answer_of (find (as_word text w).text (knowns_in 1 (held text rows n))) → RestDone ConstantIn (λ p names rs. update_of p names rs (as_word text w)) text rows n w.next cs c cs' r
      → RestDone ConstantIn (λ p names rs. named_of p names rs (as_word text w)) text rows n w.next cs c cs' r
  named-updates h d = rest-by (λ p names rs ag o. named_other text rows n ag (as_word text w) o (answer-none _ h)) d

-- A call

module _ {text rows : List ℕ} {n at fl row : ℕ} {cs : List ℕ} {c : ℕ} {r : BuiltTold} (w : WordAt) (h : Next text at w) (inside : at ≤ length text)
    (looks : Numbered fl row (rule_in (held text rows n) (as_word text w))) where
  pub call-stops : (fl ≡ 0 → ⊥) → Faulted fl w.start w.len r.done → RestDone NameIn call_of text rows n at cs c cs r
  call-stops z s = stops s z (λ p names rs ag u ws t.
      fails-here text w (h.inside inside) (ap (call_of p names rs) (took-here text at 257 w u ws (omega arith) h t).word
      ∙ call-missing text rows n ag (as_word text w) fl (looks-wrong (rule-about (held text rows n) (as_word text w)) looks z)))

  pub call-chooses : fl ≡ 0 → row < n → (get_or rows (8 * row + 7) 0 ≡ 0 → ⊥) → Faulted 5 w.start w.len r.done → RestDone NameIn call_of text rows n at cs c cs r
  call-chooses z b y s = stops s (λ e. omega arith) (λ p names rs ag u ws t.
      fails-here text w (h.inside inside) (ap (call_of p names rs) (took-here text at 257 w u ws (omega arith) h t).word
      ∙ call-valued text rows n ag (as_word text w) row b (looks-good looks z) y))

  pub call-goes : {cs' : List ℕ} {k : ℕ} → fl ≡ 0 → row < n → get_or rows (8 * row + 7) 0 ≡ 0 → Appends cs c (8 ∷ get_or rows (8 * row + 1) 0 ∷ []) cs' k → Went w.next k true r
      → RestDone NameIn call_of text rows n at cs c cs' r
  unfolding decl_at plain_cells plain_past is_exit
  call-goes {cs'} {k} z b y a g = goes g h.onto (h.high inside) (appends-length a) (λ p names rs ag u ws t.
      let s : Same text w u ws = took-here text at 257 w u ws (omega arith) h t in
      record {
        value = call (get_or rows (8 * row + 1) 0);
        is = ap (call_of p names rs) s.word ∙ call-rule text rows n ag (as_word text w) row b (looks-good looks z) y;
        words = s.behind;
        cells = a;
        past = refl;
        exits = refl;
      })

-- A return

pub give-sends : Sends 10 false give
unfolding plain_cells plain_past is_exit
give-sends = record { cells = λ v. refl; past = λ v. refl; exits = λ v. refl }

no-reference : {text : List ℕ} {at : ℕ} {v : WordAt} {u : Word} {ws : List Word} → Next text at v → (v.kind ≡ 257 → ⊥) → (v.kind ≡ 259 → ⊥) → Reference (words_at text at) u ws → ⊥
no-reference {text} {at} {v} {u} {ws} h a b t = go (reference-kind text at v u ws h t)
  where
    go : (v.kind ≡ 257) ⊎ (v.kind ≡ 259) → ⊥
    go (inl e) = a e
    go (inr e) = b e

module _ {text rows : List ℕ} {n : ℕ} {cs : List ℕ} {c : ℕ} {r : BuiltTold} (class : ℕ) (w v : WordAt) (lies : Lies text w) (h : Next text w.next v) where
  pub value-in-procedure : class ≡ 0 → Faulted 8 v.start v.len r.done
      → RestDone ReferenceIn (λ p names rs u. give_of p names rs (gives_of (held text rows n) class) (as_word text w) (some u)) text rows n w.next cs c cs r
  unfolding give_of
  value-in-procedure z s = stops s (λ e. omega arith) (λ p names rs ag u ws t.
      fails-here text v (h.inside lies.high)
      (ap (λ g. give_of p names rs g (as_word text w) (some u)) (gives_none (held text rows n) class z) ∙ ap (λ u. wrong 8 u) (reference-here text w.next v u ws h t).word))

  -- a value after `>>`
  pub give-with : {cs' : List ℕ} → (v.kind ≡ 257) ⊎ (v.kind ≡ 259)
      → RestDone ReferenceIn (λ p names rs u. give_of p names rs (gives_of (held text rows n) class) (as_word text w) (some u)) text rows n w.next cs c cs' r
      → RestDone ValueIn (λ p names rs. give_of p names rs (gives_of (held text rows n) class) (as_word text w)) text rows n w.next cs c cs' r
  give-with {cs'} k d = record { same = d.same; low = d.low; high = d.high; done = λ p names rs ag o ws t. go p names rs ag o ws t }
    where
      none_of : (v.kind ≡ 257) ⊎ (v.kind ≡ 259) → Not 257 (words_at text w.next) → Not 259 (words_at text w.next) → ⊥
      none_of (inl e) p q = not-here text w.next 257 v h p e
      none_of (inr e) p q = not-here text w.next 259 v h q e

      go : (p : Program) (names : Names) (rs : List KnownRule) → Agrees p names rs (held text rows n) → (o : Option Word) (ws : List Word) → ValueIn (words_at text w.next) ws o
          → PlainEnds (PairsAre text rows n p names) text ws cs c cs' r (give_of p names rs (gives_of (held text rows n) class) (as_word text w) o)
      go p names rs ag none ws (no_value a b e) = absurd (none_of k a b)
      go p names rs ag (some u) ws (one_value t) = d.done p names rs ag u ws t

  pub give-missing : (v.kind ≡ 257 → ⊥) → (v.kind ≡ 259 → ⊥) → (class ≡ 0 → ⊥) → Faulted 8 w.start w.len r.done
      → RestDone ValueIn (λ p names rs. give_of p names rs (gives_of (held text rows n) class) (as_word text w)) text rows n w.next cs c cs r
  unfolding give_of
  give-missing a b z s = stops s (λ e. omega arith) go
    where
      go : (p : Program) (names : Names) (rs : List KnownRule) → Agrees p names rs (held text rows n) → (o : Option Word) (ws : List Word) → ValueIn (words_at text w.next) ws o
          → Fails 8 w.start w.len (give_of p names rs (gives_of (held text rows n) class) (as_word text w) o)
      go p names rs ag none ws (no_value x y e) = fails-here text w lies.inside (ap (λ g. give_of p names rs g (as_word text w) none) (gives_some (held text rows n) class z))
      go p names rs ag (some u) ws (one_value t) = absurd (no-reference h a b t)

  pub give-back : {cs' : List ℕ} {k : ℕ} → (v.kind ≡ 257 → ⊥) → (v.kind ≡ 259 → ⊥) → class ≡ 0 → Appends cs c (9 ∷ []) cs' k → Went w.next k false r
      → RestDone ValueIn (λ p names rs. give_of p names rs (gives_of (held text rows n) class) (as_word text w)) text rows n w.next cs c cs' r
  unfolding give_of plain_cells plain_past is_exit
  give-back {cs'} {k} a b z q g = goes g (omega arith) lies.high (appends-length q) go
    where
      go : (p : Program) (names : Names) (rs : List KnownRule) → Agrees p names rs (held text rows n) → (o : Option Word) (ws : List Word) → ValueIn (words_at text w.next) ws o
          → Goes text ws cs c cs' w.next k false (give_of p names rs (gives_of (held text rows n) class) (as_word text w) o)
      go p names rs ag none ws (no_value x y e) = record {
        value = back;
        is = ap (λ g. give_of p names rs g (as_word text w) none) (gives_none (held text rows n) class z);
        words = e;
        cells = q;
        past = refl;
        exits = refl;
      }
      go p names rs ag (some u) ws (one_value t) = absurd (no-reference h a b t)

pub give-goes : {text rows : List ℕ} {n class : ℕ} {cs cs' : List ℕ} {c : ℕ} {r : BuiltTold} (w : WordAt) → (class ≡ 0 → ⊥)
    → RestDone ReferenceIn (λ p names rs u. valued give (lookup_in (held text rows n) class u)) text rows n w.next cs c cs' r
    → RestDone ReferenceIn (λ p names rs u. give_of p names rs (gives_of (held text rows n) class) (as_word text w) (some u)) text rows n w.next cs c cs' r
give-goes {text} {rows} {n} {class} w z d =
    rest-by (λ p names rs ag u. ap (λ g. give_of p names rs g (as_word text w) (some u)) (gives_some (held text rows n) class z) ∙ give-is text rows n ag class (as_word text w) u) d

-- `?` and `>`

pub any-goes : {text rows : List ℕ} {n : ℕ} {cs cs' : List ℕ} {c k : ℕ} {r : BuiltTold} (w : WordAt) → Lies text w → Appends cs c (4 ∷ []) cs' k → Went w.next k true r
    → RestDone NothingIn any_of text rows n w.next cs c cs' r
unfolding plain_cells plain_past is_exit
any-goes w lies a g = goes g (omega arith) lies.high (appends-length a) (λ p names rs ag u ws t. record { value = any; is = refl; words = t; cells = a; past = refl; exits = refl })

pub exit-goes : {text rows : List ℕ} {n : ℕ} {cs cs' : List ℕ} {c : ℕ} {r : BuiltTold} (b : Bool) (w : WordAt) → Lies text w → b ≡ true → Appends cs c (1 ∷ []) cs' r.done.count
    → r.done.fault ≡ 0 → r.done.at ≡ w.next → r.past ≡ false → r.exits ≡ true → RestDone NothingIn (exit_of b (as_word text w)) text rows n w.next cs c cs' r
unfolding plain_cells plain_past is_exit
exit-goes {text} {rows} {n} {cs} {cs'} {c} {r} b w lies e a f i past exits = record {
  same = appends-length a;
  low = λ z. omega arith;
  high = λ z. omega (arith, lies.high);
  done = λ p names rs ag u ws t. ends_by (ap (λ (b : Bool). if b then good exit else wrong 7 (as_word text w)) e) (ended f (t ∙ ap (words_at text) (sym i)) (λ _. a) (past, exits));
}

pub exit-stops : {text rows : List ℕ} {n : ℕ} {cs : List ℕ} {c : ℕ} {r : BuiltTold} (b : Bool) (w : WordAt) → Lies text w → b ≡ false → Faulted 7 w.start w.len r.done
    → RestDone NothingIn (exit_of b (as_word text w)) text rows n w.next cs c cs r
exit-stops {text} b w lies e s = stops s (λ z. omega arith) (λ p names rs ag u ws t.
    fails-here text w lies.inside (ap (λ (b : Bool). if b then good exit else wrong 7 (as_word text w)) e))

-- a type's class, by the numbers of a row
pub same_class : (text rows : List ℕ) (n : ℕ) {class s s' l l' : ℕ} → class ≡ class_named (held text rows n) (take l' (drop s' text)) → s' ≡ s → l' ≡ l
    → class ≡ class_named (held text rows n) (take l (drop s text))
same_class text rows n {class} {s} {s'} {l} {l'} e p q =
    e ∙ ap (λ (k : ℕ). class_named (held text rows n) (take k (drop s' text))) q ∙ ap (λ (k : ℕ). class_named (held text rows n) (take l (drop k text))) p
