-- What the builder does with a part's actions is what the definitions of parts say, where the part's pairs have one number each.
use mathlib.Core.Bool.{Bool, true, false}
use mathlib.Core.List.{List, [], ◌∷◌}
use mathlib.Core.Option.{Option, none, some}
use mathlib.Core.Path.{◌≡◌, refl, sym, ap, ◌∙◌}
use Prim.Native.Nat.{ℕ, suc, ◌+◌}
use native.Mathlib.Omega.{arith}
use lib.ListN.{length}
use Rattle.acceptance.proofs.Shape.{Each}
use Rattle.acceptance.proofs.Used.{UseOk}
use Rattle.std.specs.Prelude.{if◌then◌else◌}
use Rattle.builder.specs.Parts.{ActsDone, place_of}
use Rattle.declarations.specs.Decls.{Agrees, Decl, EntriesAt, entries_of, index_of, mapped}
use Rattle.maker.proofs.Taking.{levels-used}
use Rattle.maker.specs.Pairs.{Pair, section_row, operand_row, Ordered, AllOrdered, pair_of, pairs_mean, PairsAre}
use Rattle.names.specs.Known.{Checked, KnownRule, Names, good}
use Rattle.names.specs.Uses.{Use, rules_uses, is_used, firsts, pairs_of, levels_used}
use Rattle.partpairs.proofs.First.{first_entries, first_levels, one_entry, one_level, first-declared, first-agrees, first-levelled, found-one}
use Rattle.partpairs.proofs.Same.{acts-same}
use Rattle.partpairs.specs.Acts.{OpenActs}
use Rattle.partpairs.specs.Numbers.{numbered, Numbered}
use Rattle.parts.proofs.Alike.{OneEach, nowhere, there, one_each_lem}
use Rattle.parts.proofs.Pairs.{together-pairs}
use Rattle.parts.proofs.Rules.{all-used}
use Rattle.parts.specs.Objects.{one_each, open_rules, open_names, OpenRule, open_all, together}
use Rattle.resolver.specs.Resolved.{DoneTold, BuiltTold, Ends, ended, failed}
use Rattle.symbols.specs.Rows.{held, number_of}
use Rattle.syntax.specs.Texts.{Common}
use Rattle.syntax.specs.Written as written
use Rattle.syntax.specs.Written.{Program}
use Rattle.words.specs.Words.{Word}

-- Uses in order

found : {A : Type 0} (f : ℕ → A) (x : Option ℕ) {a : A} → mapped f x ≡ some a → x ≡ some (number_of x)
found f none e = let z : ◌≡◌ {A = ℕ} 0 1 = cc in absurd (omega (arith, z))
found f (some i) e = refl

module _ {p : Program} {n : Names} {ks : List KnownRule} {ds : List Decl} (ag : Agrees p n ks ds) where
  open-section : (u : Use) → UseOk (open_names n) ks u → Ordered ds u
  unfolding section_row operand_row open_names
  open-section u h = record {
    section = go (one_each_lem u.section.text n.operators);
    operand = found _ (index_of 7 u.operand.text 0 ds) (sym (ag.rules u.operand.text) ∙ h.found);
  }
    where
      go : OneEach u.section.text n.operators → index_of 600 u.section.text 0 ds ≡ some (number_of (index_of 600 u.section.text 0 ds))
      go (nowhere a b) = let q = sym a ∙ h.section in let z : ◌≡◌ {A = ℕ} 0 1 = cc in absurd (omega (arith, z))
      go (there ls₁ ls a l b) = found _ (index_of 600 u.section.text 0 ds) (sym (ag.operators u.section.text) ∙ b)

  all-open : (us : List Use) → Each (UseOk (open_names n) ks) us → AllOrdered ds us
  unfolding Each AllOrdered
  all-open [] h = tt
  all-open (u ∷ us) h = (open-section u h.0, all-open us h.1)

  -- where a part's rules mean something, each of its uses is in order
  pub opens-ordered : (seen : List (List ℕ)) (rs : List written.Rule) (os : List OpenRule) → open_all p n ks seen rs ≡ good os → AllOrdered ds (rules_uses rs)
  opens-ordered seen rs os e = all-open (rules_uses rs) (all-used p n ks seen rs os e)

pub firsts-ordered : (ds : List Decl) (seen us : List Use) → AllOrdered ds us → AllOrdered ds (firsts seen us)
unfolding AllOrdered firsts
firsts-ordered ds seen [] h = tt
firsts-ordered ds seen (u ∷ us) h = go (is_used u seen) (firsts-ordered ds seen us h.1) (firsts-ordered ds (u ∷ seen) us h.1)
  where
    go : (t : Bool) → AllOrdered ds (firsts seen us) → AllOrdered ds (firsts (u ∷ seen) us) → AllOrdered ds (if t then firsts seen us else u ∷ firsts (u ∷ seen) us)
    go true a b = a
    go false a b = (h.0, b)

-- Pairs with one level each

rests : {B : Type 0} {E E' : Type 0} {text : List ℕ} {ws : List Word} {cs : List ℕ} {c : ℕ} {cs' : List ℕ} {cells_of : B → List ℕ} {P : B → Type 0} {r : DoneTold} {x : Checked B}
    → (E' → E) → Ends E text ws cs c cs' cells_of P r x → Ends E' text ws cs c cs' cells_of P r x
rests f (ended a b k d) = ended a b (λ e. k (f e)) d
rests f (failed a b k d) = failed a b k d

module _ {p : Program} {n : Names} {ks : List KnownRule} {ds : List Decl} (ag : Agrees p n ks ds) {text : List ℕ} (en : EntriesAt text ds (entries_of p)) where
  one-used : (u : Use) → Ordered ds u → length (levels_used (one_level ag) u) ≡ 1
  one-used u o = ap length (levels-used u (first-agrees ag) o) ∙ found-one ag en u.section.text (section_row ds u) o.section

  one-each-mean : (own : ℕ) (us : List Use) → AllOrdered ds us → numbered ds own us ≡ pairs_mean (one_level ag) ds own us
  unfolding numbered pairs_mean AllOrdered
  one-each-mean own [] h = refl
  one-each-mean own (u ∷ us) h =
      let e : suc own ≡ own + length (levels_used (one_level ag) u) = omega (arith, one-used u h.0) in
      ap (λ (l : List Pair). pair_of ds own u ∷ l) (ap (λ (k : ℕ). numbered ds k us) e ∙ one-each-mean (own + length (levels_used (one_level ag) u)) us h.1)

module _ (c : Common) {names : Names} (rs : List written.Rule) {text rows : List ℕ} {n : ℕ} (ag : Agrees (together c rs) names (open_rules c.listed rs) (held text rows n))
    (en : EntriesAt text (held text rows n) (entries_of (together c rs))) where
  pub numbers-mean : Numbered text rows n (length (together c rs).rules) (pairs_of rs) → PairsAre text rows n (one_entry ag) (one_level ag)
  numbers-mean h =
      let e = together-pairs c rs in
      record {
        pairs = h.pairs ∙ (one-each-mean ag en (length (together c rs).rules) (pairs_of rs) h.ordered ∙ ap (pairs_mean (one_level ag) (held text rows n) (length (together c rs).rules)) (sym e));
        ordered = rw e h.ordered;
      }

  pub open-acts : {at : ℕ} {inside : Bool} {class : ℕ} {before some : Bool} {cs : List ℕ} {k : ℕ} {cs' : List ℕ} {r : BuiltTold}
      → ActsDone text rows n at inside class before some cs k cs' r → OpenActs c names rs text rows n at inside class before some cs k cs' r
  unfolding open_names
  open-acts {inside = inside} {class} d = record {
    kept = d.kept;
    done = λ q ws x.
        let at = place_of (held text rows n) inside class in
        let e = acts-same (together c rs) (first_entries (together c rs).sections) names (first_levels (held text rows n) (entries_of (one_entry ag)) names.operators) (one_each names.operators)
        (open_rules c.listed rs) (first-declared (together c rs)) (first-levelled ag en) q at in
        rw e at (rests numbers-mean (d.done (one_entry ag) (one_level ag) (open_rules c.listed rs) (first-agrees ag) q ws x));
  }
