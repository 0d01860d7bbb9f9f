-- The rules of several parts, read as those of one text.
use mathlib.Core.Bool.{Bool, true, false, false≢true}
use mathlib.Core.List.{List, [], ◌∷◌, ◌++◌}
use mathlib.Core.Path.{◌≡◌, refl, sym, ap, ◌∙◌}
use Prim.Native.Nat.{ℕ, zero, suc, ◌+◌, ◌-◌, ◌≤◌, ◌<◌}
use lib.Dec.{eqb}
use lib.ListN.{length}
use borrow.Author.Tests.{eqb-true, eq-eqb, ne_eqb}
use native.Mathlib.Omega.{arith}
use Rattle.acceptance.proofs.ReadLaws.{no-got}
use Rattle.std.specs.Prelude.{if◌then◌else◌}
use Rattle.parts.proofs.Moved.{Ahead, ahead-on, Upto, kind-same, next-same, split, Again}
use Rattle.parts.proofs.MovedActions.{rule_moved}
use Rattle.parts.specs.Blank.{blank_rule, blank_rules}
use Rattle.parts.specs.Moved.{move_rules}
use Rattle.syntax.specs.Parse.{a_rule, some_rules}
use Rattle.syntax.specs.Reading.{Read, got, fault, Reader, onward, ◌>>=◌, pure, peek, refuse, on◌then◌else◌}
use Rattle.syntax.specs.Written.{Rule}
use Rattle.words.specs.Words.{Word, name}

-- rules behind a rule, if a name stands there
abbrev pub further : ℕ → ℕ → Reader (List Rule)
further k left = on name then some_rules k left else pure []

-- a rule that was read first
record First (k l : ℕ) (ws : List Word) (rs : List Rule) (rest : List Word) : Type 0 where
  rule : Rule
  mid : List Word
  reads : a_rule k l ws ≡ got rule mid
  others : List Rule
  reads_on : further k (l - 1) mid ≡ got others rest
  is : rs ≡ rule ∷ others

first-rule : (k l : ℕ) (ws : List Word) (rs : List Rule) (rest : List Word) → some_rules (suc k) l ws ≡ got rs rest → First k l ws rs rest
unfolding some_rules onward
first-rule k l ws rs rest e = one (a_rule k l ws) refl e
  where
    two : (r : Rule) (mid : List Word) → a_rule k l ws ≡ got r mid → (x : Read (List Rule)) → further k (l - 1) mid ≡ x → onward x (λ m. pure (r ∷ m)) ≡ got rs rest → First k l ws rs rest
    two r mid d (got m us) f g = let y : us ≡ rest = cc in record { rule = r; mid = mid; reads = d; others = m; reads_on = f ∙ ap (got m) y; is = cc }
    two r mid d (fault n w) f g = no-got g

    one : (x : Read Rule) → a_rule k l ws ≡ x → onward x (λ r. (◌>>=◌ (further k (l - 1)) (λ m. pure (r ∷ m)))) ≡ got rs rest → First k l ws rs rest
    one (got r mid) d g = two r mid d (further k (l - 1) mid) refl g
    one (fault n w) d g = no-got g

rules-first : (k l : ℕ) (ws : List Word) (r : Rule) (mid : List Word) (m : List Rule) (rest : List Word) → a_rule k l ws ≡ got r mid → further k (l - 1) mid ≡ got m rest → some_rules (suc k) l ws ≡ got (r ∷ m) rest
unfolding some_rules onward
rules-first k l ws r mid m rest d e = rw (d, e)

further-name : (k l : ℕ) (ws : List Word) → (peek ws).kind ≡ name → further k l ws ≡ some_rules k l ws
unfolding on◌then◌else◌
further-name k l ws e = rw (eq-eqb (peek ws).kind name e)

-- rules, and behind them what is read where they end: with fuel for j words and where l₂ more may stand
pub record Chained (rs : List Rule) (ws rest : List Word) : Type 0 where
  pub ahead : Ahead rest ws
  pub some : length rest < length ws
  pub again : (ws' mid' : List Word) → Upto rest mid' ws ws' → (j l₂ : ℕ) (more : List Rule) (final : List Word)
      → ((k' l' : ℕ) → j ≤ k' → l₂ ≤ l' → Again blank_rules (further k' l') mid' more final)
      → (k' l' : ℕ) → length ws + j < length rest + k' → length rs + l₂ ≤ l' → Again blank_rules (some_rules k' l') ws' (rs ++ more) final

cons-again : (k l : ℕ) {ws mid final : List Word} {r : Rule} {m : List Rule} → Again blank_rule (a_rule k l) ws r mid → Again blank_rules (further k (l - 1)) mid m final
    → Again blank_rules (some_rules (suc k) l) ws (r ∷ m) final
unfolding move_rules
cons-again k l {ws} {mid} {final} o p =
    record { value = o.value ∷ p.value; gives = rules-first k l ws o.value mid p.value final o.gives p.gives; like = λ i. o.like i ∷ p.like i }

module _ (k l : ℕ) (ws : List Word) (r : Rule) (mid : List Word) (d : a_rule k l ws ≡ got r mid) where
  rule-ahead : Ahead mid ws × (length mid < length ws)
  rule-ahead = let p = (rule_moved {ws = ws} k 0 l l (λ e. e)).carries r mid d in (p.ahead, p.some refl)

  rule-again : (ws' mid' : List Word) → Upto mid mid' ws ws' → (k' l' : ℕ) → length ws < length mid + suc k' → 1 ≤ l' → Again blank_rule (a_rule k' l') ws' r mid'
  rule-again ws' mid' u k' l' h g = ((rule_moved {ws = ws} k k' l l' (λ _. ne_eqb l' 0 (λ z. omega arith))).carries r mid d).again ws' mid' u h (λ t. absurd (false≢true t))

  -- no rule behind it
  chain-last : Chained (r ∷ []) ws mid
  chain-last = record { ahead = rule-ahead.0; some = rule-ahead.1; again = λ ws' mid' u j l₂ more final f k' l' h g. go ws' mid' u j l₂ more final f k' l' h g }
    where
      go : (ws' mid' : List Word) → Upto mid mid' ws ws' → (j l₂ : ℕ) (more : List Rule) (final : List Word) → ((k' l' : ℕ) → j ≤ k' → l₂ ≤ l' → Again blank_rules (further k' l') mid' more final)
          → (k' l' : ℕ) → length ws + j < length mid + k' → 1 + l₂ ≤ l' → Again blank_rules (some_rules k' l') ws' (r ∷ more) final
      go ws' mid' u j l₂ more final f zero l' h g = let s = rule-ahead.1 in absurd (omega arith)
      go ws' mid' u j l₂ more final f (suc k') l' h g = let s = rule-ahead.1 in cons-again k' l' (rule-again ws' mid' u k' l' (omega arith) (omega arith)) (f k' (l' - 1) (omega arith) (omega arith))

  -- rules behind it
  chain_more : (m : List Rule) (rest : List Word) → (peek mid).kind ≡ name → Chained m mid rest → Chained (r ∷ m) ws rest
  chain_more m rest e c =
      record {
        ahead = ahead-on rule-ahead.0 c.ahead;
        some = let s = rule-ahead.1 in let t = c.some in omega arith;
        again = λ ws' mid' u j l₂ more final f k' l' h g. go ws' mid' u j l₂ more final f k' l' h g;
      }
    where
      go : (ws' mid' : List Word) → Upto rest mid' ws ws' → (j l₂ : ℕ) (more : List Rule) (final : List Word) → ((k' l' : ℕ) → j ≤ k' → l₂ ≤ l' → Again blank_rules (further k' l') mid' more final)
          → (k' l' : ℕ) → length ws + j < length rest + k' → suc (length m) + l₂ ≤ l' → Again blank_rules (some_rules k' l') ws' (r ∷ m ++ more) final
      go ws' mid' u j l₂ more final f zero l' h g = let s = rule-ahead.1 in let t = c.some in absurd (omega arith)
      go ws' mid' u j l₂ more final f (suc k') l' h g =
          let s = rule-ahead.1 in let t = c.some in
          let v = split rule-ahead.0 (omega arith) u in
          let o = rule-again ws' v.mid' v.first k' l' (omega arith) (omega arith) in
          let p = c.again v.mid' mid' v.second j l₂ more final f k' (l' - 1) (omega arith) (omega arith) in
          let n : (peek v.mid').kind ≡ name = sym (kind-same (peek mid) (peek v.mid') (next-same v.second t)) ∙ e in
          cons-again k' l' o (record { value = p.value; gives = further-name k' (l' - 1) v.mid' n ∙ p.gives; like = p.like })

chain-step : (k l : ℕ) (ws : List Word) (r : Rule) (mid : List Word) (m : List Rule) (rest : List Word) → a_rule k l ws ≡ got r mid → further k (l - 1) mid ≡ got m rest
    → (some_rules k (l - 1) mid ≡ got m rest → Chained m mid rest) → Chained (r ∷ m) ws rest
unfolding on◌then◌else◌
chain-step k l ws r mid m rest d e f = go (eqb (peek mid).kind name) refl e
  where
    go : (t : Bool) → eqb (peek mid).kind name ≡ t → (if t then some_rules k (l - 1) else pure []) mid ≡ got m rest → Chained (r ∷ m) ws rest
    go true t g = chain_more k l ws r mid d m rest (eqb-true (peek mid).kind name t) (f g)
    go false t g = let x : [] ≡ m = cc in let y : mid ≡ rest = cc in rw (← x, ← y) (chain-last k l ws r mid d)

pub chained : (k l : ℕ) (ws : List Word) (rs : List Rule) (rest : List Word) → some_rules k l ws ≡ got rs rest → Chained rs ws rest
unfolding some_rules refuse
chained zero l ws rs rest e = no-got e
chained (suc k) l ws rs rest e =
    let x = first-rule k l ws rs rest e in
    rw x.is (chain-step k l ws x.rule x.mid x.others rest x.reads x.reads_on (λ d. chained k (l - 1) x.mid x.others rest d))
