-- A use that is looked at.
use mathlib.Core.Bool.{Bool, true, false}
use mathlib.Core.List.{List, [], ◌∷◌, ◌++◌}
use mathlib.Core.Path.{◌≡◌, refl, sym, ap, ◌∙◌}
use Prim.Native.Nat.{ℕ, ◌+◌, ◌<◌, ◌≤◌}
use native.Mathlib.Omega.{arith}
use lib.ListN.{length, get_or, set, length-set}
use lib.Seq.{get_or-set_same, get_or-set_other}
use Rattle.base.specs.Bools.{never}
use Rattle.base.specs.Common.{given}
use Rattle.declarations.specs.Decls.{Decl}
use Rattle.maker.proofs.Holding.{section-is, operand-is, answer-given, never-none}
use Rattle.maker.proofs.Taking.{Looked, found-is, is-there}
use Rattle.std.specs.Prelude.{Option, Some, None, is_some}
use Rattle.maker.proofs.Walking.{sign_of}
use Rattle.maker.specs.Marks.{behind, use_of}
use Rattle.maker.specs.Pairing as made
use Rattle.maker.specs.Pairing.{Adds, Finds, is_there}
use Rattle.maker.specs.Pairs.{pairs_held, look_pair, operand_row, pair_of}
use Rattle.maker.specs.declared.Used.{Used}
use Rattle.names.specs.Uses.{Use}
use Rattle.partpairs.specs.Pairing.{UseAt, UseRead, count_of, Goes, again, added, full, UseDone, WordDone}
use Rattle.places.proofs.Heres.{head-here}
use Rattle.scanner.specs.Next.{Next, as_word}
use Rattle.scanner.specs.declared.WordAt.{WordAt}
use Rattle.symbols.proofs.Indexing.{index_same}
use Rattle.symbols.specs.Rows.{held}
use Rattle.syntax.specs.Reading.{peek}
use Rattle.words.specs.Words.{Word, words_at}

-- The words of a use

same-use : {s s' a a' b b' : Word} → s ≡ s' → a ≡ a' → b ≡ b' → ◌≡◌ {A = Use} (record { sign = s; section = a; operand = b }) (record { sign = s'; section = a'; operand = b' })
same-use p q r = rw (p, q, r) refl

-- at the place of a `^`
at_sign : (text : List ℕ) (i : ℕ) {w : WordAt} → Next text i w → w.kind ≡ 94 → use_of (peek (words_at text i)) (behind (words_at text i)) ≡ use_of (as_word text w) (words_at text w.next)
unfolding peek behind
at_sign text i h k = ap (λ (ws : List Word). use_of (peek ws) (behind ws)) (h.more (omega (arith, k)))

pub words-read : (text : List ℕ) (i : ℕ) {w s c o : WordAt} → Next text i w → Next text w.next s → Next text s.next c → Next text c.next o
    → UseRead text i (record { sign = w; section = s; operand = o })
words-read text i {w} {s} {c} {o} nw ns nc nq = record {
  inside = λ h. (nw.inside h, ns.inside (nw.high h), nq.inside (nc.high (ns.high (nw.high h))));
  words = words;
}
  where
    words : (u : Use) → UseAt text i u → record { sign = as_word text w; section = as_word text s; operand = as_word text o } ≡ u
    words u h = same-use (sym (sign_of (as_word text w) (words_at text w.next))) (sym (section-is text w.next ns nc nq (as_word text w) named)) (sym (operand-is text w.next ns nc nq (as_word text w) named)) ∙ sym whole
      where
        first : as_word text w ≡ u.sign
        first = sym (head-here text i w nw) ∙ (sym (sign_of (peek (words_at text i)) (behind (words_at text i))) ∙ ap (λ (v : Use). v.sign) h.is)

        caret : w.kind ≡ 94
        caret = ap (λ (v : Word). v.kind) first ∙ h.sign

        whole : u ≡ use_of (as_word text w) (words_at text w.next)
        whole = sym h.is ∙ at_sign text i nw caret

        named : (use_of (as_word text w) (words_at text w.next)).operand.kind ≡ 257
        named = ap (λ (v : Use). v.operand.kind) (sym whole) ∙ h.operand

-- the use of a `^` stands there
pub stands_at : (text : List ℕ) (i : ℕ) {w : WordAt} → i ≤ length text → Next text i w → w.kind ≡ 94 → (use_of (as_word text w) (words_at text w.next)).operand.kind ≡ 257
    → UseAt text i (use_of (as_word text w) (words_at text w.next))
stands_at text i {w} low h k named = record {
  inside = low;
  sign = ap (λ (v : Word). v.kind) (sign_of (as_word text w) (words_at text w.next)) ∙ k;
  operand = named;
  is = at_sign text i h k;
}

-- Taking one

pub goes_same : {rows signs : List ℕ} → count_of rows ≤ 8192 → Goes rows signs rows signs
goes_same {rows} few = record { index = index_same rows; few = few; more = omega arith; size = refl; stay = λ j h. refl }

pub use-missing : {text rows signs : List ℕ} {n own at next : ℕ} {r : Option Used} → count_of rows ≤ 8192 → made.UseRead text rows n next r → r ≡ None
    → UseDone text rows signs n own at next rows signs false
use-missing few r e = record { goes = goes_same few; takes = λ w k q. absurd (never-none (sym e ∙ (r.finds w k q).there)) }

pub use-again : {text rows signs : List ℕ} {n own at next : ℕ} {v : Option ℕ} {u : Used} → count_of rows ≤ 8192 → made.UseRead text rows n next (Some u) → Looked rows u v → is_some v ≡ true
    → UseDone text rows signs n own at next rows signs true
use-again {rows = rows} few r t h = record { goes = goes_same few; takes = λ w k q. again refl refl refl (is-there rows true (answer-given _ t ∙ h) (r.finds w k q)) }

pub use-full : {text rows signs : List ℕ} {n own at next k : ℕ} {v : Option ℕ} {u : Used} → count_of rows ≤ 8192 → made.UseRead text rows n next (Some u) → Looked rows u v → is_some v ≡ false
    → k ≡ count_of rows → 8192 ≤ k → UseDone text rows signs n own at next rows signs false
use-full {rows = rows} few r t h e l = record { goes = goes_same few; takes = λ w m q. full refl (omega (arith, e, l)) (is-there rows false (answer-given _ t ∙ h) (r.finds w m q)) }

pub use-added : {text rows rows' signs signs' : List ℕ} {n own at next k : ℕ} {v : Option ℕ} {u : Used} → made.UseRead text rows n next (Some u) → Looked rows u v → is_some v ≡ false
    → k ≡ count_of rows → k < 8192 → length signs ≡ 8192 → Adds rows rows' k u.section u.operand (own + k) → signs' ≡ set signs k at
    → UseDone text rows signs n own at next rows' signs' true
use-added {text} {rows} {rows'} {signs} {signs'} {n} {own} {at} {next} {k = k} {u = u} r t h ek low size a es = record {
  goes = record {
    index = a.index;
    few = omega (arith, a.count, low);
    more = omega (arith, a.count, ek);
    size = ap length es ∙ length-set signs k at;
    stay = λ j l. ap (λ (v : List ℕ). get_or v j 0) es ∙ get_or-set_other signs k j at 0 (λ e. omega (arith, e, ek, l));
  };
  takes = λ w m q.
      let f = r.finds w m q in
      added refl (a.pairs (sym ek) ∙ pair-as f) (omega (arith, a.count, ek)) here (is-there rows false (answer-given _ t ∙ h) f);
}
  where
    pair-as : {x : Use} → Finds (held text rows n) x (Some u)
        → pairs_held rows ++ (record { section = u.section; operand = u.operand; lowest = own + k } ∷ []) ≡ pairs_held rows ++ (pair_of (held text rows n) (own + count_of rows) x ∷ [])
    pair-as g = let f = found-is g in rw (f.0, f.1, ek) refl

    here : get_or signs' (count_of rows) 0 ≡ at
    here = ap (λ (j : ℕ). get_or signs' j 0) (sym ek) ∙ (ap (λ (v : List ℕ). get_or v k 0) es ∙ get_or-set_same signs k at 0 (omega (arith, size, low)))

-- A word

pub word-caret : {text rows signs rows' signs' : List ℕ} {n own at : ℕ} {w : WordAt} {r : Bool} → w.kind ≡ 94 → UseDone text rows signs n own at w.next rows' signs' r
    → WordDone text rows signs n own at w rows' signs' r
word-caret k u = record { goes = u.goes; caret = λ _. u; other = λ f. absurd (f k) }

pub word-other : {text rows signs : List ℕ} {n own at : ℕ} {w : WordAt} → (w.kind ≡ 94 → ⊥) → count_of rows ≤ 8192 → WordDone text rows signs n own at w rows signs true
word-other k few = record { goes = goes_same few; caret = λ e. absurd (k e); other = λ _. (refl, refl, refl) }
