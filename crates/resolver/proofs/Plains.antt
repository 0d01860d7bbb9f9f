-- A plain action by its first word: each kind leaves one derivation.
use mathlib.Core.Bool.{Bool, true}
use mathlib.Core.List.{List}
use mathlib.Core.Logic.{◌⊎◌, inl, inr}
use mathlib.Core.Path.{◌≡◌, refl, sym, ap, ◌∙◌}
use Prim.Native.Nat.{ℕ, ◌≤◌}
use native.Mathlib.Omega.{arith}
use lib.ListN.{length}
use Rattle.cells.specs.Cells.{plain_cells}
use Rattle.declarations.specs.Decls.{Agrees, lookup_in}
use Rattle.grammar.specs.Derived.{Took, Reference, ConstantIn, ValueIn, PlainIn, named_in, any_in, emit_in, error_in, exit_in, call_in, give_in, ranked_in}
use Rattle.maker.specs.Pairs.{PairsAre}
use Rattle.names.specs.Known.{KnownRule, Names}
use Rattle.names.specs.Resolve.{plain_of, give_of, ranked_of}
use Rattle.places.proofs.Heres.{Same, took-here, took-kind, reference-kind, reference-here}
use Rattle.program.specs.Past.{plain_past, is_exit}
use Rattle.program.specs.Program.{emit, error}
use Rattle.resolver.proofs.Outcomes.{emit-is, error-is}
use Rattle.resolver.proofs.Rests.{ends_by}
use Rattle.resolver.specs.Parts.{Lies, PlainEnds, RestDone, NothingIn, ReferenceIn, NameIn, valued, Sends, named_of, call_of, any_of, exit_of, RankedIn, ranked_words, by_rank}
use Rattle.resolver.specs.Resolved.{BuiltTold, PlainDone}
use Rattle.scanner.specs.Next.{Next, as_word}
use Rattle.scanner.specs.declared.WordAt.{WordAt}
use Rattle.symbols.specs.Rows.{held, gives_of}
use Rattle.syntax.specs.Written as written
use Rattle.syntax.specs.Written.{Program}
use Rattle.words.specs.Words.{Word, words_at}

pub lies-here : {text : List ℕ} {at : ℕ} {w : WordAt} → Next text at w → at ≤ length text → Lies text w
lies-here h q = record { inside = h.inside q; high = h.high q }

-- what stands behind the first word w, for each kind that it may have
record Arms (text rows : List ℕ) (n class : ℕ) (inside : Bool) (cs : List ℕ) (c : ℕ) (cs' : List ℕ) (r : BuiltTold) (w : WordAt) : Type 0 where
  pub on-name : w.kind ≡ 257 → RestDone ConstantIn (λ p names rs. named_of p names rs (as_word text w)) text rows n w.next cs c cs' r
  pub on-string : w.kind ≡ 259 → RestDone ConstantIn (λ p names rs. named_of p names rs (as_word text w)) text rows n w.next cs c cs' r
  pub on-any : w.kind ≡ 63 → RestDone NothingIn any_of text rows n w.next cs c cs' r
  pub on-emit : w.kind ≡ 46 → RestDone ReferenceIn (λ p names rs u. valued emit (lookup_in (held text rows n) 2 u)) text rows n w.next cs c cs' r
  pub on-error : w.kind ≡ 35 → RestDone ReferenceIn (λ p names rs u. valued error (lookup_in (held text rows n) 4 u)) text rows n w.next cs c cs' r
  pub on-exit : w.kind ≡ 62 → RestDone NothingIn (exit_of inside (as_word text w)) text rows n w.next cs c cs' r
  pub on_call : w.kind ≡ 64 → RestDone NameIn call_of text rows n w.next cs c cs' r
  pub on-give : w.kind ≡ 256 → RestDone ValueIn (λ p names rs. give_of p names rs (gives_of (held text rows n) class) (as_word text w)) text rows n w.next cs c cs' r
  pub on-ranked : w.kind ≡ 94 → RestDone RankedIn (by_rank (as_word text w)) text rows n w.next cs c cs' r

module _ {text rows : List ℕ} {n at : ℕ} {cs cs' : List ℕ} {c : ℕ} {r : BuiltTold} (class : ℕ) (inside : Bool) (w : WordAt) (h : Next text at w) where
  -- a derivation goes by the kind of the first word
  by_first : Arms text rows n class inside cs c cs' r w → (p : Program) (names : Names) (rs : List KnownRule) → Agrees p names rs (held text rows n) → (a : written.Plain) (ws : List Word) → PlainIn (words_at text at) ws a
      → PlainEnds (PairsAre text rows n p names) text ws cs c cs' r (plain_of p names rs (record { inside = inside; gives = gives_of (held text rows n) class }) a)
  unfolding plain_of
  by_first arms p names rs ag (written.named v o) ws (named_in {ws₁ = ws₁} t u) =
      let s : Same text w v ws₁ = reference-here text at w v ws₁ h t in
      let u' : ConstantIn (words_at text w.next) ws o = rw s.behind at u in
      ends_by (ap (λ v. named_of p names rs v o) s.word) (go (reference-kind text at w v ws₁ h t) u')
    where
      go : (w.kind ≡ 257) ⊎ (w.kind ≡ 259) → ConstantIn (words_at text w.next) ws o → PlainEnds (PairsAre text rows n p names) text ws cs c cs' r (named_of p names rs (as_word text w) o)
      go (inl e) u = (arms.on-name e).done p names rs ag o ws u
      go (inr e) u = (arms.on-string e).done p names rs ag o ws u
  by_first arms p names rs ag (written.any v) ws (any_in t) =
      (arms.on-any (took-kind text at 63 w v ws h t)).done p names rs ag tt ws (took-here text at 63 w v ws (omega arith) h t).behind
  by_first arms p names rs ag (written.exit v) ws (exit_in t) =
      let s : Same text w v ws = took-here text at 62 w v ws (omega arith) h t in
      ends_by (ap (λ v. exit_of inside v p names rs tt) s.word) ((arms.on-exit (took-kind text at 62 w v ws h t)).done p names rs ag tt ws s.behind)
  by_first arms p names rs ag (written.emit v) ws (emit_in {dot = d} {ws₁ = ws₁} t u) =
      let u' : Reference (words_at text w.next) v ws = rw (took-here text at 46 w d ws₁ (omega arith) h t).behind at u in
      ends_by (emit-is text rows n ag (record { inside = inside; gives = gives_of (held text rows n) class }) v) ((arms.on-emit (took-kind text at 46 w d ws₁ h t)).done p names rs ag v ws u')
  by_first arms p names rs ag (written.error v) ws (error_in {hash = d} {ws₁ = ws₁} t u) =
      let u' : Reference (words_at text w.next) v ws = rw (took-here text at 35 w d ws₁ (omega arith) h t).behind at u in
      ends_by (error-is text rows n ag (record { inside = inside; gives = gives_of (held text rows n) class }) v) ((arms.on-error (took-kind text at 35 w d ws₁ h t)).done p names rs ag v ws u')
  by_first arms p names rs ag (written.call v) ws (call_in {at = d} {ws₁ = ws₁} t u) =
      let u' : Took 257 (words_at text w.next) v ws = rw (took-here text at 64 w d ws₁ (omega arith) h t).behind at u in
      (arms.on_call (took-kind text at 64 w d ws₁ h t)).done p names rs ag v ws u'
  by_first arms p names rs ag (written.give v o) ws (give_in {ws₁ = ws₁} t u) =
      let s : Same text w v ws₁ = took-here text at 256 w v ws₁ (omega arith) h t in
      let u' : ValueIn (words_at text w.next) ws o = rw s.behind at u in
      ends_by (ap (λ v. give_of p names rs (gives_of (held text rows n) class) v o) s.word) ((arms.on-give (took-kind text at 256 w v ws₁ h t)).done p names rs ag o ws u')
  by_first arms p names rs ag (written.ranked v u o) ws (ranked_in {ws₁ = ws₁} {ws₂ = ws₂} t a b d) =
      let s : Same text w v ws₁ = took-here text at 94 w v ws₁ (omega arith) h t in
      let a' : Took 257 (words_at text w.next) u ws₂ = rw s.behind at a in
      ends_by (ap (λ v. ranked_of p names rs v u o) s.word) ((arms.on-ranked (took-kind text at 94 w v ws₁ h t)).done p names rs ag (u, o) ws (ranked_words a' b d))

  pub first-name : w.kind ≡ 257 → RestDone ConstantIn (λ p names rs. named_of p names rs (as_word text w)) text rows n w.next cs c cs' r → PlainDone text rows n at inside class cs c cs' r
  first-name q d = record {
    same = d.same;
    moves = λ f. omega (arith, d.low f, h.moves (omega arith));
    high = d.high;
    done = by_first (record { on-name = λ e. d; on-string = λ e. absurd (omega arith); on-any = λ e. absurd (omega arith); on-emit = λ e. absurd (omega arith); on-error = λ e. absurd (omega arith); on-exit = λ e. absurd (omega arith); on_call = λ e. absurd (omega arith); on-give = λ e. absurd (omega arith); on-ranked = λ e. absurd (omega arith) });
  }

  pub first-string : w.kind ≡ 259 → RestDone ConstantIn (λ p names rs. named_of p names rs (as_word text w)) text rows n w.next cs c cs' r → PlainDone text rows n at inside class cs c cs' r
  first-string q d = record {
    same = d.same;
    moves = λ f. omega (arith, d.low f, h.moves (omega arith));
    high = d.high;
    done = by_first (record { on-name = λ e. absurd (omega arith); on-string = λ e. d; on-any = λ e. absurd (omega arith); on-emit = λ e. absurd (omega arith); on-error = λ e. absurd (omega arith); on-exit = λ e. absurd (omega arith); on_call = λ e. absurd (omega arith); on-give = λ e. absurd (omega arith); on-ranked = λ e. absurd (omega arith) });
  }

  pub first_any : w.kind ≡ 63 → RestDone NothingIn any_of text rows n w.next cs c cs' r → PlainDone text rows n at inside class cs c cs' r
  first_any q d = record {
    same = d.same;
    moves = λ f. omega (arith, d.low f, h.moves (omega arith));
    high = d.high;
    done = by_first (record { on-name = λ e. absurd (omega arith); on-string = λ e. absurd (omega arith); on-any = λ e. d; on-emit = λ e. absurd (omega arith); on-error = λ e. absurd (omega arith); on-exit = λ e. absurd (omega arith); on_call = λ e. absurd (omega arith); on-give = λ e. absurd (omega arith); on-ranked = λ e. absurd (omega arith) });
  }

  pub first-emit : w.kind ≡ 46 → RestDone ReferenceIn (λ p names rs u. valued emit (lookup_in (held text rows n) 2 u)) text rows n w.next cs c cs' r → PlainDone text rows n at inside class cs c cs' r
  first-emit q d = record {
    same = d.same;
    moves = λ f. omega (arith, d.low f, h.moves (omega arith));
    high = d.high;
    done = by_first (record { on-name = λ e. absurd (omega arith); on-string = λ e. absurd (omega arith); on-any = λ e. absurd (omega arith); on-emit = λ e. d; on-error = λ e. absurd (omega arith); on-exit = λ e. absurd (omega arith); on_call = λ e. absurd (omega arith); on-give = λ e. absurd (omega arith); on-ranked = λ e. absurd (omega arith) });
  }

  pub first-error : w.kind ≡ 35 → RestDone ReferenceIn (λ p names rs u. valued error (lookup_in (held text rows n) 4 u)) text rows n w.next cs c cs' r → PlainDone text rows n at inside class cs c cs' r
  first-error q d = record {
    same = d.same;
    moves = λ f. omega (arith, d.low f, h.moves (omega arith));
    high = d.high;
    done = by_first (record { on-name = λ e. absurd (omega arith); on-string = λ e. absurd (omega arith); on-any = λ e. absurd (omega arith); on-emit = λ e. absurd (omega arith); on-error = λ e. d; on-exit = λ e. absurd (omega arith); on_call = λ e. absurd (omega arith); on-give = λ e. absurd (omega arith); on-ranked = λ e. absurd (omega arith) });
  }

  pub first-exit : w.kind ≡ 62 → RestDone NothingIn (exit_of inside (as_word text w)) text rows n w.next cs c cs' r → PlainDone text rows n at inside class cs c cs' r
  first-exit q d = record {
    same = d.same;
    moves = λ f. omega (arith, d.low f, h.moves (omega arith));
    high = d.high;
    done = by_first (record { on-name = λ e. absurd (omega arith); on-string = λ e. absurd (omega arith); on-any = λ e. absurd (omega arith); on-emit = λ e. absurd (omega arith); on-error = λ e. absurd (omega arith); on-exit = λ e. d; on_call = λ e. absurd (omega arith); on-give = λ e. absurd (omega arith); on-ranked = λ e. absurd (omega arith) });
  }

  pub first-call : w.kind ≡ 64 → RestDone NameIn call_of text rows n w.next cs c cs' r → PlainDone text rows n at inside class cs c cs' r
  first-call q d = record {
    same = d.same;
    moves = λ f. omega (arith, d.low f, h.moves (omega arith));
    high = d.high;
    done = by_first (record { on-name = λ e. absurd (omega arith); on-string = λ e. absurd (omega arith); on-any = λ e. absurd (omega arith); on-emit = λ e. absurd (omega arith); on-error = λ e. absurd (omega arith); on-exit = λ e. absurd (omega arith); on_call = λ e. d; on-give = λ e. absurd (omega arith); on-ranked = λ e. absurd (omega arith) });
  }

  pub first-give : w.kind ≡ 256 → RestDone ValueIn (λ p names rs. give_of p names rs (gives_of (held text rows n) class) (as_word text w)) text rows n w.next cs c cs' r → PlainDone text rows n at inside class cs c cs' r
  first-give q d = record {
    same = d.same;
    moves = λ f. omega (arith, d.low f, h.moves (omega arith));
    high = d.high;
    done = by_first (record { on-name = λ e. absurd (omega arith); on-string = λ e. absurd (omega arith); on-any = λ e. absurd (omega arith); on-emit = λ e. absurd (omega arith); on-error = λ e. absurd (omega arith); on-exit = λ e. absurd (omega arith); on_call = λ e. absurd (omega arith); on-give = λ e. d; on-ranked = λ e. absurd (omega arith) });
  }

  pub first-ranked : w.kind ≡ 94 → RestDone RankedIn (by_rank (as_word text w)) text rows n w.next cs c cs' r → PlainDone text rows n at inside class cs c cs' r
  first-ranked q d = record {
    same = d.same;
    moves = λ f. omega (arith, d.low f, h.moves (omega arith));
    high = d.high;
    done = by_first (record { on-name = λ e. absurd (omega arith); on-string = λ e. absurd (omega arith); on-any = λ e. absurd (omega arith); on-emit = λ e. absurd (omega arith); on-error = λ e. absurd (omega arith); on-exit = λ e. absurd (omega arith); on_call = λ e. absurd (omega arith); on-give = λ e. absurd (omega arith); on-ranked = λ e. d });
  }

  -- no plain action begins so
  pub first-none : (f : ℕ) → (f ≡ 0 → ⊥) → length cs' ≡ length cs → r.done.fault ≡ f
      → (w.kind ≡ 257 → ⊥) → (w.kind ≡ 259 → ⊥) → (w.kind ≡ 63 → ⊥) → (w.kind ≡ 46 → ⊥) → (w.kind ≡ 35 → ⊥) → (w.kind ≡ 62 → ⊥) → (w.kind ≡ 64 → ⊥) → (w.kind ≡ 256 → ⊥) → (w.kind ≡ 94 → ⊥) → PlainDone text rows n at inside class cs c cs' r
  first-none f z s e n0 n1 n2 n3 n4 n5 n6 n7 n8 = record {
    same = s;
    moves = λ q. absurd (z (sym e ∙ q));
    high = λ q. absurd (z (sym e ∙ q));
    done = by_first (record { on-name = λ e. absurd (n0 e); on-string = λ e. absurd (n1 e); on-any = λ e. absurd (n2 e); on-emit = λ e. absurd (n3 e); on-error = λ e. absurd (n4 e); on-exit = λ e. absurd (n5 e); on_call = λ e. absurd (n6 e); on-give = λ e. absurd (n7 e); on-ranked = λ e. absurd (n8 e) });
  }

pub emit-sends : Sends 5 true emit
unfolding plain_cells plain_past is_exit
emit-sends = record { cells = λ v. refl; past = λ v. refl; exits = λ v. refl }

pub error-sends : Sends 6 true error
unfolding plain_cells plain_past is_exit
error-sends = record { cells = λ v. refl; past = λ v. refl; exits = λ v. refl }
