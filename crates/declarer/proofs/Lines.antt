-- The faults of a common part's list: by the rows they are those by the names that are declared.
use mathlib.Core.Bool.{Bool, true, false, ◌||◌, or_comm}
use mathlib.Core.List.{List, [], ◌∷◌, ◌++◌, append-nil}
use mathlib.Core.Option.{Option, none, some}
use mathlib.Core.Path.{◌≡◌, refl, sym, ap, ◌∙◌}
use Prim.Native.Nat.{ℕ, suc, ◌+◌}
use lib.Dec.{eqb}
use lib.ListN.{length}
use lib.Seq.{append_snoc}
use Rattle.std.specs.Prelude.{if◌then◌else◌}
use Rattle.base.specs.Common.{same, given}
use Rattle.declarations.proofs.Rows.{first-none, given-first, given-mapped, index-append}
use Rattle.declarations.proofs.Uses.{uses-optional}
use Rattle.declarations.proofs.Whole.{index-rules, is_rule}
use Rattle.declarations.specs.Decls.{Agrees, Decl, decls_of, decl_of, elsewhere_in, index_of, knowns_in, mapped, of_rule, optional_in, rule_decls, rule_from, sections_decls, type_in}
use Rattle.declarer.specs.Faults.{line_fault, line_faults, lines_mean}
use Rattle.names.specs.Declare.{known_rules}
use Rattle.names.specs.Known.{Checked, good, wrong, ◌>>=◌, fault_if, Known, KnownRule, Names, find_operation, find_rule}
use Rattle.names.specs.Understand.{is_one, taken}
use Rattle.syntax.specs.Written.{Rule, Section, Program}
use Rattle.words.specs.Words.{Word}

-- rules behind a row are in no other class
rules-behind : (c : ℕ) (w : List ℕ) (before : List Decl) (k : ℕ) (rs : List Rule) → eqb 7 c ≡ false → index_of c w 0 (before ++ rule_decls k rs) ≡ index_of c w 0 before
rules-behind c w before k rs a = rw (index-append, index-rules c w (0 + length before) k rs a) (first-none (index_of c w 0 before))

one-rule : (w : List ℕ) (i k : ℕ) (r : Rule) → given (index_of 7 w i (of_rule k r ∷ [])) ≡ same w r.rule.text
unfolding index_of
one-rule w i k r = go (same w r.rule.text)
  where
    go : (b : Bool) → given {A = ℕ} (if b then some i else none) ≡ b
    go true = refl
    go false = refl

-- the names of one rule more
one_more : (w : List ℕ) (before : List Decl) (k : ℕ) (r : Rule) → given (index_of 7 w 0 (before ++ (of_rule k r ∷ []))) ≡ (same w r.rule.text || given (index_of 7 w 0 before))
one_more w before k r =
    ap given (index-append 7 w 0 before (of_rule k r ∷ []))
    ∙ given-first (index_of 7 w 0 before) (index_of 7 w (0 + length before) (of_rule k r ∷ []))
    ∙ ap (λ b. given (index_of 7 w 0 before) || b) (one-rule w (0 + length before) k r)
    ∙ or_comm (given (index_of 7 w 0 before)) (same w r.rule.text)

-- sections have no rule
none-there : (w : List ℕ) (ss : List Section) → given (index_of 7 w 0 (sections_decls 0 ss)) ≡ false
unfolding decls_of rule_decls find_rule known_rules
none-there w ss =
    let p : Program = record { sections = ss; rules = [] } in
    let e : given (find_rule w (known_rules 0 [])) ≡ given (index_of 7 w 0 (decls_of p)) = ap given (is_rule p w) ∙ given-mapped (λ i. rule_from (decl_of (decls_of p) i)) (index_of 7 w 0 (decls_of p)) in
    ap (λ ds. given (index_of 7 w 0 ds)) (sym (append-nil (sections_decls 0 ss))) ∙ sym e

-- a name, its type, then the rest
joined : (t : Bool) (w : Word) (m : Checked ℕ) (q : ℕ → Option (List Known)) (rest : Checked (Unit {0}))
    → ◌>>=◌ (fault_if t 4 w) (λ _. ◌>>=◌ (◌>>=◌ m (λ c. good (q c))) (λ _. rest)) ≡ ◌>>=◌ (◌>>=◌ (fault_if t 4 w) (λ _. ◌>>=◌ m (λ _. good (tt {0})))) (λ _. rest)
joined true w m q rest = refl
joined false w (good c) q rest = refl
joined false w (wrong n u) q rest = refl

module _ {p : Program} {n : Names} {ks : List KnownRule} {ds : List Decl} (ag : Agrees p n ks ds) where
  type-before : (before : List Decl) (k : ℕ) (rs : List Rule) → ds ≡ before ++ rule_decls k rs → (g : Option Word) → optional_in ds before g ≡ optional_in ds ds g
  unfolding optional_in type_in
  type-before before k rs e none = refl
  type-before before k rs e (some w) =
      ap (λ x. elim x as (λ _. Checked ℕ) [ some i ↦ good (8 + i) | none ↦ if given (index_of 5 w.text 0 ds) then wrong 3 w else wrong (elsewhere_in ds w.text) w ])
      (sym (ap (index_of 5 w.text 0) e ∙ rules-behind 5 w.text before k rs refl))

  operation-before : (before : List Decl) (k : ℕ) (rs : List Rule) → ds ≡ before ++ rule_decls k rs → (w : List ℕ) → given (find_operation w n.operations) ≡ given (index_of 6 w 0 before)
  operation-before before k rs e w = ap given (ag.operations w) ∙ given-mapped _ (index_of 6 w 0 ds) ∙ ap given (ap (index_of 6 w 0) e ∙ rules-behind 6 w before k rs refl)

  lines_from : (before : List Decl) (k : ℕ) (seen : List (List ℕ)) (hs rs : List Rule) → ds ≡ before ++ rule_decls k (hs ++ rs)
      → ((w : List ℕ) → is_one w seen ≡ given (index_of 7 w 0 before)) → lines_mean p n seen hs ≡ line_faults ds before (rule_decls k hs)
  unfolding lines_mean line_faults line_fault rule_decls taken is_one
  lines_from before k seen [] rs e o = refl
  lines_from before k seen (r ∷ hs) rs e o =
      let d = of_rule k r in
      let e' : ds ≡ (before ++ (d ∷ [])) ++ rule_decls (suc k) (hs ++ rs) = e ∙ sym (append_snoc before d (rule_decls (suc k) (hs ++ rs))) in
      let more = lines_from (before ++ (d ∷ [])) (suc k) (r.rule.text ∷ seen) hs rs e' (λ w. ap (λ b. same w r.rule.text || b) (o w) ∙ sym (one_more w before k r)) in
      rw (operation-before before k (r ∷ (hs ++ rs)) e r.rule.text, o r.rule.text, uses-optional ag r.gives, type-before before k (r ∷ (hs ++ rs)) e r.gives, more)
      (joined (given (index_of 6 r.rule.text 0 before) || given (index_of 7 r.rule.text 0 before)) r.rule (optional_in ds ds r.gives) (λ c. mapped (λ _. knowns_in c ds) r.gives)
      (line_faults ds (before ++ (d ∷ [])) (rule_decls (suc k) hs)))

-- the first lines of a program's rules
pub lines-mean : (p : Program) (n : Names) (ks : List KnownRule) → Agrees p n ks (decls_of p) → (hs rs : List Rule) → p.rules ≡ hs ++ rs
    → lines_mean p n [] hs ≡ line_faults (decls_of p) (sections_decls 0 p.sections) (rule_decls 0 hs)
unfolding decls_of is_one
lines-mean p n ks ag hs rs e =
    lines_from ag (sections_decls 0 p.sections) 0 [] hs rs (ap (λ xs. sections_decls 0 p.sections ++ rule_decls 0 xs) e) (λ w. sym (none-there w p.sections))
