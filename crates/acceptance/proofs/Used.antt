-- The uses of operators in rules that mean something: each names a section with a level and a procedure rule; and the rules made for them.
use mathlib.Core.Bool.{Bool, true, false, ◌&&◌, ◌||◌}
use mathlib.Core.List.{List, [], ◌∷◌, ◌++◌}
use mathlib.Core.Option.{Option, none, some}
use mathlib.Core.Path.{◌≡◌, refl, ap, ◌∙◌}
use Prim.Native.Nat.{ℕ, suc, ◌+◌, ◌<◌, ◌≤◌}
use lib.Dec.{ltb}
use lib.ListN.{length, length-append}
use borrow.Author.Tests.{ltb-false}
use native.Mathlib.Omega.{arith}
use Rattle.acceptance.proofs.CheckLaws.{Yields, no-good, yields, next, passed}
use Rattle.acceptance.proofs.NamesOk.{NamesOk, OperatorOk, LevelOk, each_append, operators_in}
use Rattle.acceptance.proofs.Shape.{Each, NotEmpty}
use Rattle.base.proofs.Laws.{neither}
use Rattle.std.specs.Prelude.{if◌then◌else◌}
use Rattle.base.specs.Common.{given}
use Rattle.base.specs.Tree.{plain, cycle, choice, done, ◌▸◌, nil, alternative, absent, otherwise}
use Rattle.names.specs.Known.{Checked, good, wrong, ◌>>=◌, fault_if, Known, KnownRule, Names, find_operation, find_operators, find_rule, elsewhere, optional_type}
use Rattle.names.specs.Resolve.{Place, within, rule_named, ranked_of, plain_of, selector_of, labels_of, act_of, acts_of, alts_of, other_of}
use Rattle.names.specs.Understand.{taken, is_first, rule_means, rules_mean}
use Rattle.names.specs.Uses.{Use, plain_uses, act_uses, acts_uses, alts_uses, other_uses, rules_uses, same_pair, is_used, firsts, pairs_of, levels_used, lowest_of, operand_of, made_for}
use Rattle.program.specs.Accepted.{Values, Calls, OkPlain, OkSelector, Ok, Oks, OkAlts, NeedsLabel}
use Rattle.program.specs.Made.{Operator, Level, operator_alts, level_body, level_rule, higher_of, level_rules, crowded}
use Rattle.program.specs.Past.{past_all}
use Rattle.program.specs.Program as means
use Rattle.program.specs.Program.{Rule, rule_of}
use Rattle.syntax.specs.Written as written
use Rattle.syntax.specs.Written.{Program}
use Rattle.words.specs.Words.{Word}

-- the section is there, and the operand rule is a procedure rule
pub record UseOk (n : Names) (rules : List KnownRule) (u : Use) : Type 0 where
  pub levels : List Level
  pub section : find_operators u.section.text n.operators ≡ some levels
  pub rule : KnownRule
  pub found : find_rule u.operand.text rules ≡ some rule
  pub procedure : given rule.gives ≡ false

module _ (p : Program) (n : Names) (rules : List KnownRule) where
  abbrev pub Found : Word → KnownRule → Type 0
  Found w r = find_rule w.text rules ≡ some r

  pub found_of : (w : Word) → Yields (Found w) (rule_named p n rules w)
  unfolding rule_named elsewhere
  found_of w r e = outer (given (find_operation w.text n.operations)) e
    where
      go : (x : Option KnownRule) → find_rule w.text rules ≡ x → elim x as (λ _. Checked KnownRule) [ some y ↦ good y | none ↦ elsewhere p w ] ≡ good r → Found w r
      go none d e₁ = no-good e₁
      go (some y) d e₁ = let z : y ≡ r = cc in d ∙ ap some z

      outer : (t : Bool) → (if t then wrong 5 w else elim (find_rule w.text rules) as (λ _. Checked KnownRule) [ some y ↦ good y | none ↦ elsewhere p w ]) ≡ good r → Found w r
      outer true e₁ = no-good e₁
      outer false e₁ = go (find_rule w.text rules) refl e₁

  ranked-used : (s w o : Word) → Yields (λ _. UseOk n rules (record { sign = s; section = w; operand = o })) (ranked_of p n rules s w o)
  unfolding ranked_of elsewhere
  ranked-used s w o = go (find_operators w.text n.operators) refl
    where
      own : Use
      own = record { sign = s; section = w; operand = o }

      go : (x : Option (List Level)) → find_operators w.text n.operators ≡ x → Yields {A = means.Plain} (λ _. UseOk n rules own) (elim x as (λ _. Checked means.Plain) [
        | none ↦ elsewhere p w
        | some ls ↦ ◌>>=◌ (rule_named p n rules o) (λ r. ◌>>=◌ (fault_if (given r.gives) 5 o) (λ _. good (means.call (lowest_of n (record { sign = s; section = w; operand = o }) (length p.rules) (pairs_of p.rules)))))
      ])
      go none d = λ a e. no-good e
      go (some ls) d =
          next (λ _. UseOk n rules own) (Found o) (rule_named p n rules o) _ (found_of o) (λ r f.
          passed (λ _. UseOk n rules own) (given r.gives) 5 o _ (λ g.
          λ a e. record { levels = ls; section = d; rule = r; found = f; procedure = g }))

  -- with these uses added, all are in order if the others are
  abbrev Adds : (List Use → List Use) → Type 0
  Adds f = (k : List Use) → Each (UseOk n rules) k → Each (UseOk n rules) (f k)

  plain-used : (at : Place) (a : written.Plain) → Yields (λ _. Adds (plain_uses a)) (plain_of p n rules at a)
  unfolding plain_uses Each plain_of
  plain-used at (written.named w c) = λ _ _ k h. h
  plain-used at (written.any w) = λ _ _ k h. h
  plain-used at (written.exit w) = λ _ _ k h. h
  plain-used at (written.emit w) = λ _ _ k h. h
  plain-used at (written.error w) = λ _ _ k h. h
  plain-used at (written.call w) = λ _ _ k h. h
  plain-used at (written.give w v) = λ _ _ k h. h
  plain-used at (written.ranked s w o) = λ a e k h. (ranked-used s w o a e, h)

  mutual
    unfolding act_of act_uses

    act-used : (a : written.Act) (at : Place) → Yields (λ _. Adds (act_uses a)) (act_of p n rules a at)
    act-used (plain a) at =
        next (λ _. Adds (plain_uses a)) (λ _. Adds (plain_uses a)) (plain_of p n rules at a) _ (plain-used at a) (λ d h. λ _ _. h)
    act-used (cycle b) at =
        next (λ _. Adds (acts_uses b)) (λ _. Adds (acts_uses b)) (acts_of p n rules b (within at)) _ (acts-used b (within at)) (λ d h. λ _ _. h)
    act-used (choice s q o) at =
        next (λ _. Adds (λ k. alts_uses q (other_uses o k))) (λ _. Unit {0}) (selector_of p n rules s) _ (λ _ _. tt) (λ c _.
        next (λ _. Adds (λ k. alts_uses q (other_uses o k))) (λ _. Adds (alts_uses q)) (alts_of p n rules q at c.labels []) _ (alts-used q at c.labels []) (λ alts ha.
        next (λ _. Adds (λ k. alts_uses q (other_uses o k))) (λ _. Adds (other_uses o)) (other_of p n rules o at) _ (other-used o at) (λ other ho.
        λ _ _ k h. ha (other_uses o k) (ho k h))))

    pub acts-used : (q : written.Acts) (at : Place) → Yields (λ _. Adds (acts_uses q)) (acts_of p n rules q at)
    acts-used done at = λ _ _ k h. h
    acts-used (a ▸ q) at =
        next (λ _. Adds (λ k. act_uses a (acts_uses q k))) (λ _. Adds (act_uses a)) (act_of p n rules a at) _ (act-used a at) (λ x hx.
        next (λ _. Adds (λ k. act_uses a (acts_uses q k))) (λ _. Adds (acts_uses q)) (acts_of p n rules q at) _ (acts-used q at) (λ y hy.
        λ _ _ k h. hx (acts_uses q k) (hy k h)))

    alts-used : (q : written.Alts) (at : Place) (ks : List Known) (seen : List ℕ) → Yields (λ _. Adds (alts_uses q)) (alts_of p n rules q at ks seen)
    alts-used nil at ks seen = λ _ _ k h. h
    alts-used (alternative ls b q) at ks seen =
        next (λ _. Adds (λ k. acts_uses b (alts_uses q k))) (λ _. Unit {0}) (labels_of p n rules ls ks seen) _ (λ _ _. tt) (λ vs _.
        next (λ _. Adds (λ k. acts_uses b (alts_uses q k))) (λ _. Adds (acts_uses b)) (acts_of p n rules b at) _ (acts-used b at) (λ d hd.
        next (λ _. Adds (λ k. acts_uses b (alts_uses q k))) (λ _. Adds (alts_uses q)) (alts_of p n rules q at ks (vs ++ seen)) _ (alts-used q at ks (vs ++ seen)) (λ r hr.
        λ _ _ k h. hd (alts_uses q k) (hr k h))))

    other-used : (o : written.Other) (at : Place) → Yields (λ _. Adds (other_uses o)) (other_of p n rules o at)
    other-used absent at = λ _ _ k h. h
    other-used (otherwise b) at =
        next (λ _. Adds (acts_uses b)) (λ _. Adds (acts_uses b)) (acts_of p n rules b at) _ (acts-used b at) (λ d h. λ _ _. h)

  rule-used : (seen : List (List ℕ)) (r : written.Rule) → Yields (λ _. Adds (acts_uses r.body)) (rule_means p n rules seen r)
  unfolding rule_means
  rule-used seen r =
      passed (λ _. Adds (acts_uses r.body)) (taken r.rule n seen) 4 r.rule _ (λ _.
      passed (λ _. Adds (acts_uses r.body)) (is_first seen && given r.gives) 5 r.rule _ (λ _.
      next (λ _. Adds (acts_uses r.body)) (λ _. Unit {0}) (optional_type p n.types r.gives) _ (λ _ _. tt) (λ g _.
      next (λ _. Adds (acts_uses r.body)) (λ _. Adds (acts_uses r.body)) (acts_of p n rules r.body (record { inside = false; gives = g })) _ (acts-used r.body (record { inside = false; gives = g })) (λ b hb.
      passed (λ _. Adds (acts_uses r.body)) (given g && past_all b) 8 r.closing _ (λ _. λ _ _. hb)))))

  pub rules-used : (seen : List (List ℕ)) (rs : List written.Rule) → Yields (λ _. Each (UseOk n rules) (rules_uses rs)) (rules_mean p n rules seen rs)
  unfolding rules_mean rules_uses Each
  rules-used seen [] = λ _ _. tt
  rules-used seen (r ∷ rs) =
      next (λ _. Each (UseOk n rules) (rules_uses (r ∷ rs))) (λ _. Adds (acts_uses r.body)) (rule_means p n rules seen r) _ (rule-used seen r) (λ m h.
      next (λ _. Each (UseOk n rules) (rules_uses (r ∷ rs))) (λ _. Each (UseOk n rules) (rules_uses rs)) (rules_mean p n rules (r.rule.text ∷ seen) rs) _ (rules-used (r.rule.text ∷ seen) rs) (λ ms hs.
      λ _ _. h (rules_uses rs) hs))

pub firsts-each : (P : Use → Type 0) (seen us : List Use) → Each P us → Each P (firsts seen us)
unfolding firsts Each
firsts-each P seen [] h = tt
firsts-each P seen (u ∷ us) h = go (is_used u seen) (firsts-each P seen us h.1) (firsts-each P (u ∷ seen) us h.1)
  where
    go : (t : Bool) → Each P (firsts seen us) → Each P (firsts (u ∷ seen) us) → Each P (if t then firsts seen us else u ∷ firsts (u ∷ seen) us)
    go true a b = a
    go false a b = (h.0, b)

pub pairs-used : (p : Program) (n : Names) (rules : List KnownRule) (seen : List (List ℕ)) (rs : List written.Rule) → Yields (λ _. Each (UseOk n rules) (pairs_of rs)) (rules_mean p n rules seen rs)
unfolding pairs_of
pairs-used p n rules seen rs a e = firsts-each (UseOk n rules) [] (rules_uses rs) (rules-used p n rules seen rs a e)

-- The rules made

-- how many rules stand for these pairs
unfoldable pub total : Names → List Use → ℕ
total n [] = 0
total n (u ∷ us) = length (levels_used n u) + total n us

abbrev pub Procedure : Rule → Type 0
Procedure m = m.valued ≡ false

pub level-rules-length : (own r : ℕ) (ls : List Level) → length (level_rules own r ls) ≡ length ls
unfolding level_rules
level-rules-length own r [] = refl
level-rules-length own r (l ∷ ls) = ap suc (level-rules-length (suc own) r ls)

level-rules-procedures : (own r : ℕ) (ls : List Level) → Each Procedure (level_rules own r ls)
unfolding level_rules level_rule Each
level-rules-procedures own r [] = tt
level-rules-procedures own r (l ∷ ls) = (refl, level-rules-procedures (suc own) r ls)

abbrev pub MadeAre : Names → List Use → List Rule → Type 0
MadeAre n us ms = (length ms ≡ total n us) × Each Procedure ms

-- the test that `made_for` makes of a pair
abbrev pub passes : ℕ → ℕ → List Level → Bool
passes others own ls = ltb 128 (own + length ls) || ltb 512 (others + (own + length ls)) || crowded ls

pub made-are : (n : Names) (rules : List KnownRule) (others own : ℕ) (us : List Use) → Yields (MadeAre n us) (made_for n rules others own us)
unfolding made_for total Each
made-are n rules others own [] = yields (MadeAre n []) [] (refl, tt)
made-are n rules others own (u ∷ us) =
    passed (MadeAre n (u ∷ us)) (passes others own (levels_used n u)) 9 u.sign _ (λ _.
    next (MadeAre n (u ∷ us)) (MadeAre n us) (made_for n rules others (own + length (levels_used n u)) us) _ (made-are n rules others (own + length (levels_used n u)) us) (λ ms h.
    yields (MadeAre n (u ∷ us)) (level_rules own (operand_of rules u) (levels_used n u) ++ ms) (
      length-append (level_rules own (operand_of rules u) (levels_used n u)) ms ∙ sum (level-rules-length own (operand_of rules u) (levels_used n u)) h.0,
      each_append Procedure (level_rules own (operand_of rules u) (levels_used n u)) ms (level-rules-procedures own (operand_of rules u) (levels_used n u)) h.1,
    )))
  where
    sum : {a b c d : ℕ} → a ≡ b → c ≡ d → a + c ≡ b + d
    sum e f = omega (arith, e, f)

-- "limits .. cover those rules": 128 rules and 512 names with those made
abbrev pub Within : ℕ → ℕ → ℕ → Type 0
Within others own made = (own + made ≤ 128) × (others + (own + made) ≤ 512)

-- of a pair that passes no limit
pub not-passed : (others own : ℕ) (ls : List Level) → passes others own ls ≡ false → Within others own (length ls) × (crowded ls ≡ false)
not-passed others own ls e =
    let x = neither (ltb 128 (own + length ls) || ltb 512 (others + (own + length ls))) (crowded ls) e in
    let y = neither (ltb 128 (own + length ls)) (ltb 512 (others + (own + length ls))) x.0 in
    ((ltb-false 128 (own + length ls) y.0, ltb-false 512 (others + (own + length ls)) y.1), x.1)

-- no pair's rules pass a limit
abbrev pub MadeFew : Names → ℕ → ℕ → List Use → List Rule → Type 0
MadeFew n others own us ms = Within others own (total n us) × Each (λ u. crowded (levels_used n u) ≡ false) us

pub made-few : (n : Names) (rules : List KnownRule) (others own : ℕ) (us : List Use) → Within others own 0 → Yields (MadeFew n others own us) (made_for n rules others own us)
unfolding made_for total Each
made-few n rules others own [] h = λ ms e. (h, tt)
made-few n rules others own (u ∷ us) h =
    passed (MadeFew n others own (u ∷ us)) (passes others own (levels_used n u)) 9 u.sign _ (λ e.
    let x = not-passed others own (levels_used n u) e in
    next (MadeFew n others own (u ∷ us)) (MadeFew n others (own + length (levels_used n u)) us) (made_for n rules others (own + length (levels_used n u)) us) _
    (made-few n rules others (own + length (levels_used n u)) us (omega (arith, x.0.0), omega (arith, x.0.1))) (λ ms k.
    λ _ _. ((omega (arith, k.0.0), omega (arith, k.0.1)), (x.1, k.1))))

-- what the rule of every level with Q has, each rule made has, where the levels used have Q
module _ (P : Rule → Type 0) (Q : Level → Type 0) (h : (l : Level) (own higher : ℕ) → Q l → P (level_rule l own higher)) where
  levels-each : (own r : ℕ) (ls : List Level) → Each Q ls → Each P (level_rules own r ls)
  unfolding level_rules Each
  levels-each own r [] k = tt
  levels-each own r (l ∷ ls) k = (h l own (higher_of own r ls) k.0, levels-each (suc own) r ls k.1)

  pub made-have : (n : Names) → ((u : Use) → crowded (levels_used n u) ≡ false → Each Q (levels_used n u)) → (rules : List KnownRule) (others own : ℕ) (us : List Use) → Yields (Each P) (made_for n rules others own us)
  unfolding made_for Each
  made-have n q rules others own [] = yields (Each P) [] tt
  made-have n q rules others own (u ∷ us) =
      passed (Each P) (passes others own (levels_used n u)) 9 u.sign _ (λ e.
      next (Each P) (Each P) (made_for n rules others (own + length (levels_used n u)) us) _ (made-have n q rules others (own + length (levels_used n u)) us) (λ ms k.
      yields (Each P) (level_rules own (operand_of rules u) (levels_used n u) ++ ms)
      (each_append P (level_rules own (operand_of rules u) (levels_used n u)) ms (levels-each own (operand_of rules u) (levels_used n u) (q u (not-passed others own (levels_used n u) e).1)) k)))

few-each : (ls : List Level) → crowded ls ≡ false → Each (λ l. length l.operators ≤ 64) ls
unfolding crowded Each
few-each [] e = tt
few-each (l ∷ ls) e = let x = neither (ltb 64 (length l.operators)) (crowded ls) e in (ltb-false 64 (length l.operators) x.0, few-each ls x.1)

-- what the rule of every level with at most 64 operators has, each rule made has
pub made_each : (P : Rule → Type 0) → ((l : Level) (own higher : ℕ) → length l.operators ≤ 64 → P (level_rule l own higher)) → (n : Names) (rules : List KnownRule) (others own : ℕ) (us : List Use)
    → Yields (Each P) (made_for n rules others own us)
made_each P h n rules others own us = made-have P (λ l. length l.operators ≤ 64) h n (λ u e. few-each (levels_used n u) e) rules others own us

levels-are : (n : Names) (u : Use) (ls : List Level) → find_operators u.section.text n.operators ≡ some ls → levels_used n u ≡ ls
unfolding levels_used
levels-are n u ls e = ap (λ (x : Option (List Level)). elim x as (λ _. List Level) [ some ks ↦ ks | none ↦ [] ]) e

operand-is : (rules : List KnownRule) (u : Use) (k : KnownRule) → find_rule u.operand.text rules ≡ some k → operand_of rules u ≡ k.place
unfolding operand_of
operand-is rules u k e = ap (λ (x : Option KnownRule). elim x as (λ _. ℕ) [ some r ↦ r.place | none ↦ 0 ]) e

-- all rules from `base` on are procedure rules
module _ (prog : List Rule) (base : ℕ) (later : (r : ℕ) → base ≤ r → r < length prog → (rule_of prog r).valued ≡ false) where
  late : (r : ℕ) → base ≤ r → r < length prog → Calls prog r false
  late r h l = record { there = l; sort = later r h l }

  alts-ok : (c : ℕ) (os : List Operator) (i : Bool) → Calls prog c false → Each OperatorOk os → OkAlts prog (operator_alts c os) false i
  unfolding operator_alts Each Ok OkPlain Values
  alts-ok c [] i h k = tt
  alts-ok c (o ∷ os) i h k = ((k.0.token, tt), (h, (k.0.emits, tt)), alts-ok c os i h k.1)

  body_ok : (b : Bool) (own h : ℕ) (os : List Operator) → Calls prog own false → Calls prog h false → Each OperatorOk os → Oks prog (level_body b own h os) false false
  unfolding level_body Ok OkPlain OkSelector NeedsLabel
  body_ok false own h os a c k = (c, (((tt, alts-ok h os true c k, (refl, tt), tt), tt), tt))
  body_ok true own h os a c k = (c, ((tt, alts-ok own os false a k, tt, tt), tt))

  abbrev Good : Rule → Type 0
  Good m = Oks prog m.body m.valued false

  levels-good : (own r : ℕ) (ls : List Level) → Calls prog r false → base ≤ own → own + length ls ≤ length prog → Each LevelOk ls → Each Good (level_rules own r ls)
  unfolding level_rules level_rule higher_of Each
  levels-good own r [] h b l k = tt
  levels-good own r (x ∷ []) h b l k = (body_ok x.right own r x.operators (late own b (omega arith)) h k.0, tt)
  levels-good own r (x ∷ y ∷ ls) h b l k =
      (body_ok x.right own (suc own) x.operators (late own b (omega arith)) (late (suc own) (omega arith) (omega arith)) k.0, levels-good (suc own) r (y ∷ ls) h (omega arith) (omega arith) k.1)

  used-levels : (n : Names) (rules : List KnownRule) (u : Use) → NamesOk n → UseOk n rules u → NotEmpty (levels_used n u) × Each LevelOk (levels_used n u)
  used-levels n rules u ok h = rw (levels-are n u h.levels h.section) (operators_in u.section.text n h.levels ok h.section)

  operand-calls : (rules : List KnownRule) (n : Names) (u : Use) → ((w : List ℕ) (k : KnownRule) → find_rule w rules ≡ some k → Calls prog k.place (given k.gives)) → UseOk n rules u
      → Calls prog (operand_of rules u) false
  operand-calls rules n u known h = rw (operand-is rules u h.rule h.found) (rw h.procedure at (known u.operand.text h.rule h.found))

  pub made-good : (n : Names) (rules : List KnownRule) → NamesOk n → ((w : List ℕ) (k : KnownRule) → find_rule w rules ≡ some k → Calls prog k.place (given k.gives))
      → (others own : ℕ) (us : List Use) → Each (UseOk n rules) us → base ≤ own → own + total n us ≤ length prog → Yields (Each Good) (made_for n rules others own us)
  unfolding made_for total Each
  made-good n rules ok known others own [] h b l = yields (Each Good) [] tt
  made-good n rules ok known others own (u ∷ us) h b l =
      passed (Each Good) (passes others own (levels_used n u)) 9 u.sign _ (λ _.
      next (Each Good) (Each Good) (made_for n rules others (own + length (levels_used n u)) us) _ (made-good n rules ok known others (own + length (levels_used n u)) us h.1 (omega arith) (omega arith)) (λ ms hs.
      yields (Each Good) (level_rules own (operand_of rules u) (levels_used n u) ++ ms)
      (each_append Good (level_rules own (operand_of rules u) (levels_used n u)) ms
      (levels-good own (operand_of rules u) (levels_used n u) (operand-calls rules n u known h.0) b (omega arith) (used-levels n rules u ok h.0).1) hs)))

  some-length : {A : Type 0} (xs : List A) → NotEmpty xs → 1 ≤ length xs
  unfolding NotEmpty
  some-length [] h = absurd h
  some-length (x ∷ xs) h = omega arith

  -- the action calls a procedure rule
  pub lowest-calls : (n : Names) (rules : List KnownRule) → NamesOk n → Calls prog 0 false → (u : Use) (own : ℕ) (us : List Use) → Each (UseOk n rules) us → base ≤ own → own + total n us ≤ length prog
      → Calls prog (lowest_of n u own us) false
  unfolding lowest_of total Each
  lowest-calls n rules ok first u own [] h b l = first
  lowest-calls n rules ok first u own (v ∷ vs) h b l = go (same_pair u v) (lowest-calls n rules ok first u (own + length (levels_used n v)) vs h.1 (omega arith) (omega arith))
    where
      one : 1 ≤ length (levels_used n v)
      one = some-length (levels_used n v) (used-levels n rules v ok h.0).0

      go : (t : Bool) → Calls prog (lowest_of n u (own + length (levels_used n v)) vs) false → Calls prog (if t then own else lowest_of n u (own + length (levels_used n v)) vs) false
      go true c = late own b (omega (arith, one))
      go false c = c
