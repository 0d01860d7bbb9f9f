-- The rules' part: from what is told of the pairs, of the rules built and of those made to the outcome.
use mathlib.Core.Bool.{Bool, true, false, false≢true}
use mathlib.Core.List.{List, [], ◌++◌}
use mathlib.Core.Logic.{◌⊎◌, inl, inr}
use mathlib.Core.Path.{◌≡◌, refl, sym, ap, ◌∙◌, subst}
use Prim.Native.Nat.{ℕ, ◌+◌, ◌-◌, ◌<◌, ◌≤◌}
use lib.ListN.{length, length-append, get_or}
use native.Mathlib.Omega.{arith}
use Rattle.acceptance.proofs.Accepts.{rule-before, later-procedures}
use Rattle.acceptance.proofs.Used.{rules-used, pairs-used, made-are, made-few}
use Rattle.base.proofs.Laws.{lt-or-le}
use Rattle.builder.specs.Rules.{RulesTold, RulesEnd, built, faulty, RulesDone}
use Rattle.cells.specs.Cells.{rules_cells, cells_start, sort_of}
use Rattle.declarations.proofs.Whole.{length-sections}
use Rattle.declarations.specs.Decls.{Agrees, EntriesAt, decls_of, entries_of}
use Rattle.grammar.proofs.Labels.{rules-labelled}
use Rattle.grammar.specs.Labels.{LabelledRules}
use Rattle.levels.specs.Making.{MadeEnd, MakeDone}
use Rattle.levels.specs.declared.Made.{Made}
use Rattle.maker.specs.Pairing.{PairsEnd, paired, passed, PairsDone}
use Rattle.maker.specs.Pairs.{AllOrdered, pairs_held, pairs_mean, PairsAre}
use Rattle.base.specs.Faults.{fault_number}
use Rattle.base.specs.declared.Refusal.{Refusal}
use Rattle.std.specs.Prelude.{Result, Ok, Err, IsOk}
use Rattle.names.specs.Declare.{known_rules}
use Rattle.names.specs.Known.{Checked, good, wrong, ◌>>=◌, KnownRule, Names}
use Rattle.names.specs.Uses.{rules_uses, pairs_of, made_for}
use Rattle.program.specs.Program.{Rule, rule_of}
use Rattle.resolver.proofs.Appending.{appends-then, appends-length, appends-bound}
use Rattle.resolver.specs.Resolved.{Appends}
use Rattle.symbols.proofs.Indexing.{held-behind, kept-behind}
use Rattle.symbols.specs.Index.{Kept}
use Rattle.symbols.specs.Rows.{held}
use Rattle.syntax.specs.Sections.{names_in_all}
use Rattle.syntax.specs.Written.{Program}
use Rattle.frontend.proofs.Few.{Meant, meant-count, meant as meant-few}
use Rattle.frontend.proofs.Joining.{rules-append, start-before, start-behind}
use Rattle.frontend.proofs.Ordering.{all-ordered}
use Rattle.frontend.specs.Resolving.{Ready, written_by, made_by, rules_by, Declared, Rowed, Resolves, meant, mistaken}
use Rattle.frontend.specs.declared.Resolved.{Resolved}

no-sort : (b : Bool) → b ≡ false → 0 ≡ sort_of b
unfolding sort_of
no-sort true e = let z : ◌≡◌ {A = ℕ} 0 1 = cc in absurd (omega (arith, z))
no-sort false e = refl

-- The buffers with the rules made behind those written

module _ {cs cs₁ starts₁ sorts₁ cs₂ starts₂ sorts₂ : List ℕ} {c k : ℕ} {m : Made} (own ms : List Rule) (app : Appends cs 0 (rules_cells own) cs₁ c) (same : k ≡ c)
    (more : MadeEnd (length own) cs₁ k cs₂ starts₁ sorts₁ starts₂ sorts₂ m ms) where
  pub joined : Appends cs 0 (rules_cells (own ++ ms)) cs₂ m.count
  joined =
      let b : Appends cs₁ c (rules_cells ms) cs₂ m.count = subst (λ i. Appends cs₁ i (rules_cells ms) cs₂ m.count) same more.cells in
      subst (λ x. Appends cs 0 x cs₂ m.count) (sym (rules-append own ms)) (appends-then app b)

  module _ (later : (r : ℕ) → length own ≤ r → r < length (own ++ ms) → (rule_of (own ++ ms) r).valued ≡ false)
      (sorted : (r : ℕ) → r < length own → get_or sorts₁ r 0 ≡ sort_of (rule_of own r).valued) where
    pub sorts_are : (r : ℕ) → r < length (own ++ ms) → get_or sorts₂ r 0 ≡ sort_of (rule_of (own ++ ms) r).valued
    sorts_are r l = go (lt-or-le r (length own))
      where
        go : (r < length own) ⊎ (length own ≤ r) → get_or sorts₂ r 0 ≡ sort_of (rule_of (own ++ ms) r).valued
        go (inl h) = more.sorts_kept r h ∙ sorted r h ∙ ap (λ (x : Rule). sort_of x.valued) (sym (rule-before own ms r h))
        go (inr h) =
            let e : r ≡ length own + (r - length own) = omega (arith, h) in
            ap (λ i. get_or sorts₂ i 0) e ∙ more.sorted (r - length own) (omega (arith, h, l, length-append own ms)) ∙ no-sort _ (later r h l)

  module _ (begins : c ≤ length cs → (r : ℕ) → r < length own → get_or starts₁ r 0 ≡ cells_start 0 own r) where
    pub starts_are : m.count ≤ length cs → (r : ℕ) → r < length (own ++ ms) → get_or starts₂ r 0 ≡ cells_start 0 (own ++ ms) r
    starts_are fits r l = go (lt-or-le r (length own))
      where
        low : c ≤ length cs
        low = omega (arith, fits, same, more.cells.count, appends-length app)

        behind : k ≡ length (rules_cells own)
        behind = omega (arith, low, same, app.count)

        go : (r < length own) ⊎ (length own ≤ r) → get_or starts₂ r 0 ≡ cells_start 0 (own ++ ms) r
        go (inl h) = more.starts_kept r h ∙ begins low r h ∙ sym (start-before 0 own ms r h)
        go (inr h) =
            let e : r ≡ length own + (r - length own) = omega (arith, h) in
            let z : k ≡ 0 + length (rules_cells own) = omega (arith, behind) in
            ap (λ i. get_or starts₂ i 0) e ∙ more.begins (omega (arith, fits, appends-length app)) (r - length own) (omega (arith, h, l, length-append own ms))
            ∙ ap (λ i. cells_start i ms (r - length own)) z ∙ sym (start-behind 0 own ms (r - length own)) ∙ ap (λ i. cells_start 0 (own ++ ms) i) (sym e)

-- The outcome

same-refusal : {A : Type 0} {x y : Refusal} → ◌≡◌ {A = Result A Refusal} (Err x) (Err y) → x ≡ y
same-refusal e = cc

never-ok : {A : Type 0} {q : Result A Refusal} {x : Refusal} → q ≡ Err x → IsOk q → ⊥
never-ok e g = false≢true (rw e at g)

module _ {text rows rows' : List ℕ} {n first at : ℕ} {p : Program} {names : Names} (known : Declared text rows n first at p names) {A : Type 0} {q : Result A Refusal} (pairing : PairsDone text rows n first at rows' q)
    {cs cs₁ starts₁ sorts₁ : List ℕ} {b : RulesTold} (done : RulesDone text rows' n first at cs cs₁ starts₁ sorts₁ b) where
  abbrev ks : List KnownRule
  ks = known_rules 0 p.rules

  same-held : held text rows' n ≡ held text rows n
  same-held = held-behind text n pairing.index known.small

  held-is : held text rows' n ≡ decls_of p
  held-is = same-held ∙ known.held_are

  told : RulesEnd (PairsAre text rows' n p names) cs cs₁ starts₁ sorts₁ b (written_by p names)
  told = done.done p names held-is known.first_is known.agrees known.left known.again known.few

  -- the uses of rules that mean something
  ordered : (own : List Rule) → written_by p names ≡ good own → AllOrdered (held text rows n) (rules_uses p.rules)
  ordered own e =
      subst (λ ds. AllOrdered ds (rules_uses p.rules)) (sym known.held_are) (all-ordered known.agrees (rules_uses p.rules) (rules-used p names ks [] p.rules own e))

  ends : (own : List Rule) → written_by p names ≡ good own → PairsEnd (held text rows n) [] rows' names (length p.rules) (pairs_of p.rules) q (made_by p names)
  ends own e =
      let all : first ≡ names_in_all p.sections = known.first_is ∙ length-sections 0 p.sections in
      subst (λ k. PairsEnd (held text rows n) [] rows' names (length p.rules) (pairs_of p.rules) q (made_for names ks k (length p.rules) (pairs_of p.rules))) all
      (pairing.done p names (subst (λ ds. Agrees p names ks ds) (sym known.held_are) known.agrees) (subst (λ ds. EntriesAt text ds (entries_of p)) (sym known.held_are) known.entries)
      known.left known.again known.ending known.count known.few (ordered own e))

  -- a fault of 3 to 8
  pub rules-wrong : {cells starts sorts : List ℕ} {x : Refusal} → (b.fault ≡ 0 → ⊥) → fault_number x.fault ≡ b.fault → x.at ≡ b.at → x.len ≡ b.len → Resolves text rows' cells starts sorts p (Err x) (rules_by p names)
  rules-wrong {cells} {starts} {sorts} {x = refusal} z e₁ e₂ e₃ = go (written_by p names) told
    where
      go : (x : Checked (List Rule)) → RulesEnd (PairsAre text rows' n p names) cs cs₁ starts₁ sorts₁ b x
          → Resolves text rows' cells starts sorts p (Err refusal) (◌>>=◌ x (λ own. ◌>>=◌ (made_by p names) (λ made. good (own ++ made))))
      go (good own) (built f _ _ _ _) = absurd (z f)
      go (wrong k w) (faulty d nonzero start len) = mistaken (e₁ ∙ d) (e₂ ∙ start) (e₃ ∙ len)

  -- then 9 at a `^`
  pub limit-passed : {cells starts sorts : List ℕ} → b.fault ≡ 0 → {x : Refusal} → q ≡ Err x → Resolves text rows' cells starts sorts p (Err x) (rules_by p names)
  limit-passed {cells} {starts} {sorts} f {x = limit} z = go (written_by p names) refl told
    where
      made : (own : List Rule) {x : Checked (List Rule)} → PairsEnd (held text rows n) [] rows' names (length p.rules) (pairs_of p.rules) q x
          → Resolves text rows' cells starts sorts p (Err limit) (◌>>=◌ x (λ made. good (own ++ made)))
      made own (paired g _) = absurd (never-ok z g)
      made own (passed {e = e} h g start len) =
          let same : limit ≡ e = same-refusal (sym z ∙ h) in
          mistaken (ap (λ (x : Refusal). fault_number x.fault) same ∙ g) (ap (λ (x : Refusal). x.at) same ∙ start) (ap (λ (x : Refusal). x.len) same ∙ len)

      go : (x : Checked (List Rule)) → written_by p names ≡ x → RulesEnd (PairsAre text rows' n p names) cs cs₁ starts₁ sorts₁ b x
          → Resolves text rows' cells starts sorts p (Err limit) (◌>>=◌ x (λ own. ◌>>=◌ (made_by p names) (λ made. good (own ++ made))))
      go (good own) e _ = made own (ends own e)
      go (wrong k w) e (faulty d nonzero _ _) = absurd (nonzero (sym d ∙ f))

  -- no fault
  module _ {k : ℕ} {m : Made} {cs₂ starts₂ sorts₂ : List ℕ} (make : MakeDone text rows' n b.rules cs₁ k starts₁ sorts₁ cs₂ starts₂ sorts₂ m) (fits : b.count ≤ 4225 → k ≡ b.count) (size : length cs ≡ 4224) where
    pairs-are : (own : List Rule) → written_by p names ≡ good own → pairs_held rows' ≡ pairs_mean names (held text rows n) (length p.rules) (pairs_of p.rules) → PairsAre text rows' n p names
    pairs-are own e h = record {
      pairs = h ∙ ap (λ ds. pairs_mean names ds (length p.rules) (pairs_of p.rules)) (sym same-held);
      ordered = subst (λ ds. AllOrdered ds (pairs_of p.rules)) (sym held-is) (all-ordered known.agrees (pairs_of p.rules) (pairs-used p names ks [] p.rules own e));
    }

    labelled : LabelledRules p.rules
    labelled = rules-labelled known.again

    module _ (own ms : List Rule) (e : written_by p names ≡ good own) (f : made_by p names ≡ good ms) (are : PairsAre text rows' n p names) where
      count : length own ≡ length p.rules
      count = meant-count p names ks [] p.rules labelled own e

      made-end : b.rules ≡ length own → MadeEnd (length own) cs₁ k cs₂ starts₁ sorts₁ starts₂ sorts₂ m ms
      made-end number =
          subst (λ i. MadeEnd i cs₁ k cs₂ starts₁ sorts₁ starts₂ sorts₂ m ms) number
          (make.made p names (subst (λ ds. Agrees p names ks ds) (sym held-is) known.agrees) (subst (λ ds. EntriesAt text ds (entries_of p)) (sym held-is) known.entries) (number ∙ count) are
          (names_in_all p.sections) ms (ap (λ i. made_for names ks (names_in_all p.sections) i (pairs_of p.rules)) (number ∙ count) ∙ f))

      whole : rules_by p names ≡ good (own ++ ms)
      whole =
          ap (λ (x : Checked (List Rule)). ◌>>=◌ x (λ own. ◌>>=◌ (made_by p names) (λ made. good (own ++ made)))) e
          ∙ ap (λ (x : Checked (List Rule)). ◌>>=◌ x (λ made. good (own ++ made))) f

      ready : RulesEnd (PairsAre text rows' n p names) cs cs₁ starts₁ sorts₁ b (good own) → Ready cs₂ starts₂ sorts₂ m.rules m.count (own ++ ms)
      ready (built z number appends sorted begins) =
          let few : Meant (own ++ ms) = meant-few p names ks [] p.rules (names_in_all p.sections) (length p.rules) (pairs_of p.rules) labelled own ms e f in
          let a = made-are names ks (names_in_all p.sections) (length p.rules) (pairs_of p.rules) ms f in
          let w = made-few names ks (names_in_all p.sections) (length p.rules) (pairs_of p.rules) (omega (arith, known.few), omega (arith, known.few_names)) ms f in
          let app : Appends cs 0 (rules_cells own) cs₁ b.count = appends are in
          let same : k ≡ b.count = fits (omega (arith, appends-bound app, size)) in
          let more = made-end number in
          let long = length-append own ms in
          record {
            accepts = known.accepts (own ++ ms) whole;
            labels = few.labels;
            choices = few.choices;
            number = omega (arith, more.rules, long);
            few = omega (arith, more.rules, a.0, w.0.0, count);
            before = cs;
            room = size;
            appends = joined own ms app same more;
            sorted = sorts_are own ms app same more (later-procedures own ms a.1) sorted;
            begins = λ h. starts_are own ms app same more (begins are) (omega (arith, h, size));
          }

    abbrev answer : Resolved
    answer = record { cells = m.count; rules = m.rules; written = b.rules; declared = n; first = first; body = at }

    -- the outcome, with what stands in the rows
    pub rules_made : b.fault ≡ 0 → IsOk q → at ≤ length text → Kept text rows n
        → Resolves text rows' cs₂ starts₂ sorts₂ p (Ok answer) (rules_by p names)
    rules_made f g inside kept = go (written_by p names) refl told
      where
        rowed : (own : List Rule) → written_by p names ≡ good own → b.rules ≡ length own → PairsAre text rows' n p names → Rowed text rows' answer p
        rowed own e number are = record {
          names = names;
          known = record {
            small = known.small;
            held_are = held-is;
            first_is = known.first_is;
            count = known.count;
            declares = known.declares;
            agrees = known.agrees;
            entries = known.entries;
            left = known.left;
            again = known.again;
            ending = known.ending;
            few = known.few;
            few_names = known.few_names;
            accepts = known.accepts;
          };
          number = number ∙ meant-count p names ks [] p.rules labelled own e;
          inside = inside;
          kept = kept-behind pairing.index kept;
          ordered = subst (λ ds. AllOrdered ds (rules_uses p.rules)) (sym same-held) (ordered own e);
          pairs = are;
        }

        made : (own : List Rule) → written_by p names ≡ good own → RulesEnd (PairsAre text rows' n p names) cs cs₁ starts₁ sorts₁ b (good own) → {x : Checked (List Rule)} → made_by p names ≡ x
            → PairsEnd (held text rows n) [] rows' names (length p.rules) (pairs_of p.rules) q x → Resolves text rows' cs₂ starts₂ sorts₂ p (Ok answer) (◌>>=◌ x (λ made. good (own ++ made)))
        made own e (built z number appends sorted begins) d (paired {ms = ms} _ h) =
            let are = pairs-are own e h in
            meant (ready own ms e d are (built z number appends sorted begins)) (rowed own e number are)
        made own e _ d (passed h _ _ _) = absurd (never-ok h g)

        go : (x : Checked (List Rule)) → written_by p names ≡ x → RulesEnd (PairsAre text rows' n p names) cs cs₁ starts₁ sorts₁ b x
            → Resolves text rows' cs₂ starts₂ sorts₂ p (Ok answer) (◌>>=◌ x (λ own. ◌>>=◌ (made_by p names) (λ made. good (own ++ made))))
        go (good own) e t = made own e t refl (ends own e)
        go (wrong j w) e (faulty d nonzero _ _) = absurd (nonzero (sym d ∙ f))
