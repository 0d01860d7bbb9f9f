-- The uses of operators, "for each pair of section and operand rule in the order of first use", and the rules made for them.
use Rattle.std.specs.Prelude.{Bool, false, ◌&&◌, ◌||◌, List, [], ◌∷◌, ◌++◌, ℕ, ◌+◌, ltb, length, if◌then◌else◌}
use Rattle.std.proofs.Math.Option.{none, some}
use Rattle.base.specs.Common.{same}
use Rattle.base.specs.Tree.{plain, cycle, choice, done, ◌▸◌, nil, alternative, absent, otherwise}
use Rattle.names.specs.Known.{Checked, good, ◌>>=◌, fault_if, KnownRule, Names, find_operators, find_rule}
use Rattle.program.specs.Made.{Level, level_rules, crowded}
use Rattle.program.specs.Program as means
use Rattle.syntax.specs.Written.{Plain, named, any, exit, emit, error, call, give, ranked, Act, Acts, Alts, Other, Rule}
use Rattle.words.specs.Words.{Word}

-- `^`, the section's name, the operand rule's name
pub record Use : Type 0 where
  pub sign : Word
  pub section : Word
  pub operand : Word

-- the uses in text order, each with those behind it
unfoldable pub plain_uses : Plain → List Use → List Use
plain_uses (named w c) k = k
plain_uses (any w) k = k
plain_uses (exit w) k = k
plain_uses (emit w) k = k
plain_uses (error w) k = k
plain_uses (call w) k = k
plain_uses (give w v) k = k
plain_uses (ranked s w o) k = record { sign = s; section = w; operand = o } ∷ k

unfoldable mutual
  pub act_uses : Act → List Use → List Use
  act_uses (plain p) k = plain_uses p k
  act_uses (cycle b) k = acts_uses b k
  act_uses (choice s q o) k = alts_uses q (other_uses o k)

  pub acts_uses : Acts → List Use → List Use
  acts_uses done k = k
  acts_uses (a ▸ q) k = act_uses a (acts_uses q k)

  pub alts_uses : Alts → List Use → List Use
  alts_uses nil k = k
  alts_uses (alternative ls b q) k = acts_uses b (alts_uses q k)

  pub other_uses : Other → List Use → List Use
  other_uses absent k = k
  other_uses (otherwise b) k = acts_uses b k

unfoldable pub rules_uses : List Rule → List Use
rules_uses [] = []
rules_uses (r ∷ rs) = acts_uses r.body (rules_uses rs)

unfoldable pub same_pair : Use → Use → Bool
same_pair u v = same u.section.text v.section.text && same u.operand.text v.operand.text

unfoldable pub is_used : Use → List Use → Bool
is_used u [] = false
is_used u (v ∷ vs) = same_pair u v || is_used u vs

-- the first use of each pair, after those seen
unfoldable pub firsts : List Use → List Use → List Use
firsts seen [] = []
firsts seen (u ∷ us) =
    let again = firsts seen us in
    let first = u ∷ firsts (u ∷ seen) us in
    if is_used u seen then again else first

unfoldable pub pairs_of : List Rule → List Use
pairs_of rules = firsts [] (rules_uses rules)

-- the levels of the section that is used
unfoldable pub levels_used : Names → Use → List Level
levels_used n u = elim (find_operators u.section.text n.operators) [ some ls ↦ ls | none ↦ [] ]

-- the place of the lowest rule of the pair, where the rules for these pairs stand from `own` on (each use is among them)
unfoldable pub lowest_of : Names → Use → ℕ → List Use → ℕ
lowest_of n u own [] = 0
lowest_of n u own (v ∷ vs) = let later = lowest_of n u (own + length (levels_used n v)) vs in if same_pair u v then own else later

unfoldable pub operand_of : List KnownRule → Use → ℕ
operand_of rules u = elim (find_rule u.operand.text rules) [ some r ↦ r.place | none ↦ 0 ]

-- the rules for the pairs, from the place `own` on, beside so many other names: "after all of 3 to 8, [9] at the `^` whose rules pass a limit": 128 rules,
-- 512 names ("as if written" each is one), 64 labels a choice
unfoldable pub made_for : Names → List KnownRule → ℕ → ℕ → List Use → Checked (List means.Rule)
made_for n rules others own [] = good []
made_for n rules others own (u ∷ us) = do
  let ls = levels_used n u
  _ ← fault_if (ltb 128 (own + length ls) || ltb 512 (others + (own + length ls)) || crowded ls) 9 u.sign
  more ← made_for n rules others (own + length ls) us
  good (level_rules own (operand_of rules u) ls ++ more)

-- all of this file computes where this is unfolded
unfoldable pub opened : Unit {0}
unfolding plain_uses act_uses rules_uses same_pair is_used firsts pairs_of levels_used lowest_of operand_of made_for
opened = tt
