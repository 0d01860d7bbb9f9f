-- Laws of `^`: what each answer tells of its derivations.
use mathlib.Core.Bool.{true}
use mathlib.Core.List.{List, [], ◌∷◌}
use mathlib.Core.Option.{some}
use mathlib.Core.Path.{◌≡◌, sym, ap, ◌∙◌}
use Prim.Native.Nat.{ℕ, ◌+◌, ◌*◌, ◌<◌, ◌≤◌}
use native.Mathlib.Omega.{arith}
use lib.ListN.{length, get_or}
use Rattle.cells.specs.Cells.{plain_cells}
use Rattle.declarations.specs.Decls.{index_of}
use Rattle.grammar.specs.Derived.{Took}
use Rattle.maker.proofs.Walking.{lowest-is}
use Rattle.maker.specs.Pairs.{PairsAre, pairs_held, lowest_in, section_row, operand_row}
use Rattle.names.specs.Known.{KnownRule, Names}
use Rattle.names.specs.Resolve.{ranked_of}
use Rattle.names.specs.Uses.{Use, lowest_of, pairs_of}
use Rattle.places.proofs.Heres.{Same, took-here}
use Rattle.program.specs.Past.{plain_past, is_exit}
use Rattle.resolver.proofs.Appending.{appends-length, appends-same}
use Rattle.resolver.proofs.Looking.{looks-good, looks-wrong, row-about, row-index, rule-about, rule-index}
use Rattle.resolver.proofs.Outcomes.{ranked-nowhere, ranked-missing, ranked-valued, ranked-rule}
use Rattle.resolver.proofs.Rests.{ends_by, fails-here, stops}
use Rattle.resolver.specs.Parts.{Lies, Went, RestDone, RankedIn, ranked_words, by_rank}
use Rattle.resolver.specs.Resolved.{BuiltTold, Faulted, Appends, ended}
use Rattle.scanner.specs.Next.{Next, as_word}
use Rattle.scanner.specs.declared.WordAt.{WordAt}
use Rattle.symbols.proofs.Numbered.{Numbered}
use Rattle.symbols.specs.Rows.{held, number_of, operators_row, rule_in}
use Rattle.syntax.specs.Written.{Program}
use Rattle.words.specs.Words.{Word, words_at}

-- the section's name is the word s
section-word : {text : List ℕ} {at : ℕ} (s : WordAt) {ws : List Word} (x : Word × Word) → Next text at s → RankedIn (words_at text at) ws x → x.0 ≡ as_word text s
section-word {text} {at} s x h (ranked_words {ws₁ = ws₁} t b d) = (took-here text at 257 s x.0 ws₁ (omega arith) h t).word

-- and the rule's the word o
operand-word : {text : List ℕ} {at : ℕ} (s a o : WordAt) {ws : List Word} (x : Word × Word) → Next text at s → Next text s.next a → Next text a.next o → RankedIn (words_at text at) ws x
    → Same text o x.1 ws
operand-word {text} {at} s a o {ws} x h k m (ranked_words {at = v} {ws₁ = ws₁} {ws₂ = ws₂} t b d) =
    let b' : Took 64 (words_at text s.next) v ws₂ = rw (took-here text at 257 s x.0 ws₁ (omega arith) h t).behind at b in
    let d' : Took 257 (words_at text a.next) x.1 ws = rw (took-here text s.next 64 a v ws₂ (omega arith) k b').behind at d in
    took-here text a.next 257 o x.1 ws (omega arith) m d'

module _ {text : List ℕ} (w s a o : WordAt) (lies : Lies text w) (h : Next text w.next s) (k : Next text s.next a) (m : Next text a.next o) where
  high-o : o.next ≤ length text
  high-o = m.high (k.high (h.high lies.high))

  inside-o : o.start + o.len ≤ length text
  inside-o = m.inside (k.high (h.high lies.high))

  words : (p : Program) (names : Names) (rs : List KnownRule) (x : Word × Word) {ws : List Word} → RankedIn (words_at text w.next) ws x
      → by_rank (as_word text w) p names rs x ≡ ranked_of p names rs (as_word text w) (as_word text s) (as_word text o)
  words p names rs x t =
      ap (λ u. ranked_of p names rs (as_word text w) u x.1) (section-word s x h t) ∙ ap (λ u. ranked_of p names rs (as_word text w) (as_word text s) u) (operand-word s a o x h k m t).word

-- the lowest rule of a use, by the rows that hold the text's pairs
lowest-held : {text rows : List ℕ} {n : ℕ} {p : Program} {names : Names} → PairsAre text rows n p names → (u : Use) (i j : ℕ) → index_of 600 u.section.text 0 (held text rows n) ≡ some i
    → index_of 7 u.operand.text 0 (held text rows n) ≡ some j → lowest_in i j (pairs_held rows) ≡ lowest_of names u (length p.rules) (pairs_of p.rules)
unfolding section_row operand_row
lowest-held {text} {rows} {n} {p} {names} are u i j a b =
    let s : section_row (held text rows n) u ≡ i = ap number_of a in
    let o : operand_row (held text rows n) u ≡ j = ap number_of b in
    both (sym s) (sym o) ∙ lowest-is u are (record { section = a ∙ ap some (sym s); operand = b ∙ ap some (sym o) })
  where
    both : {i' i'' j' j'' : ℕ} → i' ≡ i'' → j' ≡ j'' → lowest_in i' j' (pairs_held rows) ≡ lowest_in i'' j'' (pairs_held rows)
    both x y = cc

counted : {cs cs' xs : List ℕ} {c l l' : ℕ} → l' ≡ l → Appends cs c xs cs' l → Appends cs c xs cs' l'
counted e q = rw e q

module _ {text rows : List ℕ} {n fs i : ℕ} {cs : List ℕ} {c : ℕ} {r : BuiltTold} (w s : WordAt) (lies : Lies text w) (h : Next text w.next s)
    (section : Numbered fs i (operators_row (held text rows n) (as_word text s))) where
  pub ranked-stops : (fs ≡ 0 → ⊥) → Faulted fs s.start s.len r.done → RestDone RankedIn (by_rank (as_word text w)) text rows n w.next cs c cs r
  ranked-stops z q = stops q z (λ p names rs ag x ws t.
      fails-here text s (h.inside lies.high) (ap (λ u. ranked_of p names rs (as_word text w) u x.1) (section-word s x h t)
      ∙ ranked-nowhere text rows n ag (as_word text w) (as_word text s) x.1 fs (looks-wrong (row-about 600 (held text rows n) (as_word text s)) section z)))

  module _ {fo row : ℕ} (a o : WordAt) (k : Next text s.next a) (m : Next text a.next o) (operand : Numbered fo row (rule_in (held text rows n) (as_word text o))) (z : fs ≡ 0) where
    pub operand-stops : (fo ≡ 0 → ⊥) → Faulted fo o.start o.len r.done → RestDone RankedIn (by_rank (as_word text w)) text rows n w.next cs c cs r
    operand-stops y q = stops q y (λ p names rs ag x ws t.
        fails-here text o (inside-o w s a o lies h k m) (words w s a o lies h k m p names rs x t
        ∙ ranked-missing text rows n ag (as_word text w) (as_word text s) (as_word text o) i fo (looks-good section z) (looks-wrong (rule-about (held text rows n) (as_word text o)) operand y)))

    pub operand-chooses : fo ≡ 0 → row < n → (get_or rows (8 * row + 7) 0 ≡ 0 → ⊥) → Faulted 5 o.start o.len r.done → RestDone RankedIn (by_rank (as_word text w)) text rows n w.next cs c cs r
    operand-chooses e b y q = stops q (λ e. omega arith) (λ p names rs ag x ws t.
        fails-here text o (inside-o w s a o lies h k m) (words w s a o lies h k m p names rs x t
        ∙ ranked-valued text rows n ag (as_word text w) (as_word text s) (as_word text o) i row (looks-good section z) b (looks-good operand e) y))

    pub ranked-goes : {cs' : List ℕ} {l : ℕ} → fo ≡ 0 → row < n → get_or rows (8 * row + 7) 0 ≡ 0 → Appends cs c (8 ∷ lowest_in i row (pairs_held rows) ∷ []) cs' l → Went o.next l true r
        → RestDone RankedIn (by_rank (as_word text w)) text rows n w.next cs c cs' r
    unfolding plain_cells plain_past is_exit
    ranked-goes {cs'} {l} e b y q g = record {
      same = appends-length q;
      low = λ f. omega (arith, g.at, h.onto, k.onto, m.onto);
      high = λ f. omega (arith, g.at, high-o w s a o lies h k m);
      done = λ p names rs ag x ws t.
          ends_by (words w s a o lies h k m p names rs x t ∙ ranked-rule text rows n ag (as_word text w) (as_word text s) (as_word text o) i row (looks-good section z) b (looks-good operand e) y)
          (ended g.fault ((operand-word s a o x h k m t).behind ∙ ap (words_at text) (sym g.at))
          (λ are. appends-same (lowest-held are (record { sign = as_word text w; section = as_word text s; operand = as_word text o }) i row
          (row-index 600 (held text rows n) (as_word text s) i (looks-good section z)) (rule-index (held text rows n) (as_word text o) row (looks-good operand e)))
          (counted g.count q))
          (g.past, g.exits));
    }
