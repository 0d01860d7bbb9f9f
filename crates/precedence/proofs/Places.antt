-- In a program that a text means, each use of operators is a call of the place where its rules stand.
use mathlib.Core.Bool.{Bool, true, false, ◌||◌}
use mathlib.Core.List.{List, [], ◌∷◌, ◌++◌, append_assoc, append-nil}
use mathlib.Core.Logic.{◌⊎◌, inl, inr}
use mathlib.Core.Path.{◌≡◌, refl, sym, ap, ◌∙◌}
use Prim.Native.Nat.{ℕ, suc, ◌+◌}
use lib.ListN.{length, length-append}
use native.Mathlib.Omega.{arith}
use Rattle.acceptance.proofs.CheckLaws.{Yields, yields, next, passed}
use Rattle.acceptance.proofs.Accepts.{rules-count}
use Rattle.acceptance.proofs.Listed.{used-have}
use Rattle.acceptance.proofs.Shape.{Each}
use Rattle.acceptance.proofs.Used.{passes, level-rules-length}
use Rattle.base.proofs.Laws.{same_refl, same-eq}
use Rattle.base.specs.Bools.{never, or, and, or₁, or₂, both}
use Rattle.std.specs.Prelude.{if◌then◌else◌}
use Rattle.base.specs.Common.{same}
use Rattle.names.specs.Declare.{declare_sections, known_rules}
use Rattle.names.specs.Known.{good, KnownRule, Names}
use Rattle.names.specs.Understand.{nobody, rules_mean, understand}
use Rattle.names.specs.Uses.{Use, rules_uses, same_pair, is_used, firsts, pairs_of, levels_used, lowest_of, operand_of, made_for}
use Rattle.precedence.proofs.Levels.{sections-apart}
use Rattle.precedence.specs.Sums.{Apart, Stand}
use Rattle.precedence.specs.Text.{Stands}
use Rattle.program.specs.Made.{Level, level_rule, higher_of, level_rules}
use Rattle.program.specs.Program.{Rule, rule_of, body_of}
use Rattle.syntax.specs.Sections.{names_in_all}
use Rattle.syntax.specs.Written as written
use Rattle.syntax.specs.Written.{Program}

-- Texts of words

pub pair-refl : (u : Use) → same_pair u u ≡ true
unfolding same_pair
pair-refl u = both (same u.section.text u.section.text) (same u.operand.text u.operand.text) (same_refl u.section.text) (same_refl u.operand.text)

-- the two texts of a pair
pub record Alike (u v : Use) : Type 0 where
  pub section : u.section.text ≡ v.section.text
  pub operand : u.operand.text ≡ v.operand.text

pub alike : (u v : Use) → same_pair u v ≡ true → Alike u v
unfolding same_pair
alike u v e =
    let x = and (same u.section.text v.section.text) (same u.operand.text v.operand.text) e in
    record { section = same-eq u.section.text v.section.text x.0; operand = same-eq u.operand.text v.operand.text x.1 }

pub used-alike : (u v : Use) (xs : List Use) → Alike u v → is_used v xs ≡ true → is_used u xs ≡ true
unfolding is_used same_pair
used-alike u v [] h e = e
used-alike u v (x ∷ xs) h e = go (or (same_pair v x) (is_used v xs) e) (used-alike u v xs h)
  where
    go : (same_pair v x ≡ true) ⊎ (is_used v xs ≡ true) → (is_used v xs ≡ true → is_used u xs ≡ true) → (same_pair u x || is_used u xs) ≡ true
    go (inl d) f = or₁ (same_pair u x) (is_used u xs) (rw (h.section, h.operand) d)
    go (inr d) f = or₂ (same_pair u x) (is_used u xs) (f d)

-- Every use is among the pairs

covered-from : (u : Use) (seen us : List Use) → is_used u us ≡ true → (is_used u seen ≡ true) ⊎ (is_used u (firsts seen us) ≡ true)
unfolding is_used firsts
covered-from u seen [] e = never e
covered-from u seen (v ∷ us) e = go (is_used v seen) refl (or (same_pair u v) (is_used u us) e) (covered-from u seen us) (covered-from u (v ∷ seen) us)
  where
    seen-or : (is_used u (v ∷ seen) ≡ true) ⊎ (is_used u (firsts (v ∷ seen) us) ≡ true) → (is_used u seen ≡ true) ⊎ (is_used u (v ∷ firsts (v ∷ seen) us) ≡ true)
    seen-or (inr d) = inr (or₂ (same_pair u v) (is_used u (firsts (v ∷ seen) us)) d)
    seen-or (inl d) = two (or (same_pair u v) (is_used u seen) d)
      where
        two : (same_pair u v ≡ true) ⊎ (is_used u seen ≡ true) → (is_used u seen ≡ true) ⊎ (is_used u (v ∷ firsts (v ∷ seen) us) ≡ true)
        two (inl d₁) = inr (or₁ (same_pair u v) (is_used u (firsts (v ∷ seen) us)) d₁)
        two (inr d₁) = inl d₁

    go : (t : Bool) → is_used v seen ≡ t → (same_pair u v ≡ true) ⊎ (is_used u us ≡ true)
        → (is_used u us ≡ true → (is_used u seen ≡ true) ⊎ (is_used u (firsts seen us) ≡ true))
        → (is_used u us ≡ true → (is_used u (v ∷ seen) ≡ true) ⊎ (is_used u (firsts (v ∷ seen) us) ≡ true))
        → (is_used u seen ≡ true) ⊎ (is_used u (if t then firsts seen us else v ∷ firsts (v ∷ seen) us) ≡ true)
    go true d (inl s) f g = inl (used-alike u v seen (alike u v s) d)
    go true d (inr s) f g = f s
    go false d (inl s) f g = inr (or₁ (same_pair u v) (is_used u (firsts (v ∷ seen) us)) s)
    go false d (inr s) f g = seen-or (g s)

pub covered : (u : Use) (rs : List written.Rule) → is_used u (rules_uses rs) ≡ true → is_used u (pairs_of rs) ≡ true
unfolding pairs_of is_used
covered u rs e = go (covered-from u [] (rules_uses rs) e)
  where
    none_seen : is_used u [] ≡ true → is_used u (firsts [] (rules_uses rs)) ≡ true
    none_seen d = let x : false ≡ true = d in never x

    go : (is_used u [] ≡ true) ⊎ (is_used u (firsts [] (rules_uses rs)) ≡ true) → is_used u (firsts [] (rules_uses rs)) ≡ true
    go (inl d) = none_seen d
    go (inr d) = d

-- Where the rules of a pair stand

rule-at : (pre post : List Rule) (x : Rule) → rule_of (pre ++ (x ∷ post)) (length pre) ≡ x
unfolding rule_of
rule-at [] post x = refl
rule-at (y ∷ pre) post x = rule-at pre post x

stand-in : (own r : ℕ) (ls : List Level) (pre post : List Rule) → length pre ≡ own → Stand (pre ++ (level_rules own r ls ++ post)) own r ls
unfolding Stand level_rules level_rule body_of
stand-in own r [] pre post e = tt
stand-in own r (l ∷ ls) pre post e =
    let x = level_rule l own (higher_of own r ls) in
    let rest = level_rules (suc own) r ls ++ post in
    let len : length (pre ++ (x ∷ [])) ≡ suc own = length-append pre (x ∷ []) ∙ omega (arith, e) in
    let more = stand-in (suc own) r ls (pre ++ (x ∷ [])) post len in
    (ap (λ (k : ℕ). (rule_of (pre ++ (x ∷ rest)) k).body) (sym e) ∙ ap (λ (m : Rule). m.body) (rule-at pre rest x), rw (append_assoc pre (x ∷ []) rest) at more)

levels-alike : (n : Names) (u v : Use) → Alike u v → levels_used n u ≡ levels_used n v
unfolding levels_used
levels-alike n u v h = rw h.section refl

operand-alike : (rules : List KnownRule) (u v : Use) → Alike u v → operand_of rules u ≡ operand_of rules v
unfolding operand_of
operand-alike rules u v h = rw h.operand refl

-- wherever the made rules stand, those of a use stand at its place
abbrev Placed : Names → List KnownRule → Use → ℕ → List Use → List Rule → Type 0
Placed n rules u own us ms = (pre post : List Rule) → length pre ≡ own → Stand (pre ++ (ms ++ post)) (lowest_of n u own us) (operand_of rules u) (levels_used n u)

placed : (n : Names) (rules : List KnownRule) (u : Use) (others own : ℕ) (us : List Use) → is_used u us ≡ true → Yields (Placed n rules u own us) (made_for n rules others own us)
unfolding made_for is_used lowest_of
placed n rules u others own [] h = never h
placed n rules u others own (v ∷ us) h =
    passed (Placed n rules u own (v ∷ us)) (passes others own (levels_used n v)) 9 v.sign _ (λ _.
    next (Placed n rules u own (v ∷ us)) (λ ms. is_used u us ≡ true → Placed n rules u (own + length (levels_used n v)) us ms) (made_for n rules others (own + length (levels_used n v)) us) _
    (λ ms e d. placed n rules u others (own + length (levels_used n v)) us d ms e) (λ ms hs.
    yields (Placed n rules u own (v ∷ us)) (level_rules own (operand_of rules v) (levels_used n v) ++ ms) (λ pre post len. go ms hs pre post len (same_pair u v) refl h)))
  where
    go : (ms : List Rule) → (is_used u us ≡ true → Placed n rules u (own + length (levels_used n v)) us ms) → (pre post : List Rule) → length pre ≡ own → (t : Bool) → same_pair u v ≡ t → (t || is_used u us) ≡ true
        → Stand (pre ++ ((level_rules own (operand_of rules v) (levels_used n v) ++ ms) ++ post)) (if t then own else lowest_of n u (own + length (levels_used n v)) us) (operand_of rules u) (levels_used n u)
    go ms hs pre post len true s d =
        let a = alike u v s in
        rw (levels-alike n u v a, operand-alike rules u v a, append_assoc (level_rules own (operand_of rules v) (levels_used n v)) ms post)
        (stand-in own (operand_of rules v) (levels_used n v) pre (ms ++ post) len)
    go ms hs pre post len false s d =
        let lr = level_rules own (operand_of rules v) (levels_used n v) in
        let e₁ = length-append pre lr in
        let e₂ = level-rules-length own (operand_of rules v) (levels_used n v) in
        let x = hs d (pre ++ lr) post (e₁ ∙ omega (arith, e₂, len)) in
        let y = append_assoc pre lr (ms ++ post) in
        let z = append_assoc lr ms post in
        rw (z) (rw y at x)

-- The program

-- the names of a program, and each use at its place
pub record Ranked (p : Program) (prog : List Rule) : Type 0 where
  pub names : Names
  pub declared : declare_sections p p.sections nobody ≡ good names
  pub stands : (u : Use) → is_used u (rules_uses p.rules) ≡ true → Stands p names (known_rules 0 p.rules) prog u

-- whatever a text means: each `^NAME @rule` of it is a call of rules that `Postfix` is about
pub ranked : (p : Program) → Yields (Ranked p) (understand p)
unfolding understand nobody Each Apart
ranked p =
    next (Ranked p) (λ n. declare_sections p p.sections nobody ≡ good n) (declare_sections p p.sections nobody) _ (λ n e. e) (λ n e.
    next (Ranked p) (λ own. length own ≡ length p.rules) (rules_mean p n (known_rules 0 p.rules) [] p.rules) _ (rules-count p n (known_rules 0 p.rules) [] p.rules) (λ own h.
    next (Ranked p) (λ made. made_for n (known_rules 0 p.rules) (names_in_all p.sections) (length p.rules) (pairs_of p.rules) ≡ good made) (made_for n (known_rules 0 p.rules) (names_in_all p.sections) (length p.rules) (pairs_of p.rules)) _ (λ made f. f) (λ made f.
    yields (Ranked p) (own ++ made) (record {
      names = n;
      declared = e;
      stands = λ u d. record {
        stand = rw (append-nil made) at (placed n (known_rules 0 p.rules) u (names_in_all p.sections) (length p.rules) (pairs_of p.rules) (covered u p.rules d) made f own [] h);
        apart = used-have Apart n u tt (sections-apart p p.sections nobody tt n e);
      };
    }))))
