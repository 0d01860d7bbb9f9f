-- The pairs of section and operand rule, part by part and of the whole.
use mathlib.Core.Bool.{Bool, true, false, ◌||◌}
use mathlib.Core.List.{List, [], ◌∷◌, ◌++◌, append-nil}
use mathlib.Core.Logic.{◌⊎◌, inl, inr}
use mathlib.Core.Path.{◌≡◌, refl, sym, ap, ◌∙◌}
use Prim.Native.Nat.{suc, ◌+◌}
use native.Mathlib.Omega.{arith}
use lib.ListN.{length}
use Rattle.acceptance.proofs.Shape.{Each}
use Rattle.base.specs.Bools.{never, or, or₁, or₂}
use Rattle.std.specs.Prelude.{if◌then◌else◌}
use Rattle.base.specs.Tree.{plain, cycle, choice, done, ◌▸◌, nil, alternative, absent, otherwise}
use Rattle.names.specs.Understand.{is_one}
use Rattle.names.specs.Uses.{Use, plain_uses, act_uses, acts_uses, alts_uses, other_uses, rules_uses, same_pair, is_used, firsts, pairs_of}
use Rattle.parts.proofs.Numbers.{each_map}
use Rattle.parts.specs.Objects.{calls_all, mentions, fresh, names_of, others, as_rules, called_rules, as_acts, used_in, together}
use Rattle.precedence.proofs.Places as pair
use Rattle.syntax.specs.Texts.{Head, Common}
use Rattle.syntax.specs.Written as written
use Rattle.words.specs.Words.{Word}

-- Uses one after the other

plain-behind : (a : written.Plain) (k l : List Use) → plain_uses a (k ++ l) ≡ plain_uses a k ++ l
unfolding plain_uses
plain-behind (written.named w c) k l = refl
plain-behind (written.any w) k l = refl
plain-behind (written.exit w) k l = refl
plain-behind (written.emit w) k l = refl
plain-behind (written.error w) k l = refl
plain-behind (written.call w) k l = refl
plain-behind (written.give w v) k l = refl
plain-behind (written.ranked s w o) k l = refl

mutual
  unfolding act_uses

  act-behind : (a : written.Act) (k l : List Use) → act_uses a (k ++ l) ≡ act_uses a k ++ l
  act-behind (plain a) k l = plain-behind a k l
  act-behind (cycle b) k l = acts-behind b k l
  act-behind (choice s q o) k l = ap (alts_uses q) (other-behind o k l) ∙ alts-behind q (other_uses o k) l

  acts-behind : (q : written.Acts) (k l : List Use) → acts_uses q (k ++ l) ≡ acts_uses q k ++ l
  acts-behind done k l = refl
  acts-behind (a ▸ q) k l = ap (act_uses a) (acts-behind q k l) ∙ act-behind a (acts_uses q k) l

  alts-behind : (q : written.Alts) (k l : List Use) → alts_uses q (k ++ l) ≡ alts_uses q k ++ l
  alts-behind nil k l = refl
  alts-behind (alternative ls b q) k l = ap (acts_uses b) (alts-behind q k l) ∙ acts-behind b (alts_uses q k) l

  other-behind : (o : written.Other) (k l : List Use) → other_uses o (k ++ l) ≡ other_uses o k ++ l
  other-behind absent k l = refl
  other-behind (otherwise b) k l = acts-behind b k l

pub uses-append : (rs ss : List written.Rule) → rules_uses (rs ++ ss) ≡ rules_uses rs ++ rules_uses ss
unfolding rules_uses
uses-append [] ss = refl
uses-append (r ∷ rs) ss = ap (acts_uses r.body) (uses-append rs ss) ∙ acts-behind r.body (rules_uses rs) (rules_uses ss)

-- the program in which a part is resolved: of the names none has a use, and the first has the part's
called-uses : (ws : List Word) → rules_uses (called_rules ws) ≡ []
unfolding called_rules rules_uses acts_uses
called-uses [] = refl
called-uses (w ∷ ws) = called-uses ws

list-uses : (hs : List Head) (ws : List Word) → rules_uses (as_rules hs ++ called_rules ws) ≡ []
unfolding as_rules rules_uses acts_uses
list-uses [] ws = called-uses ws
list-uses (h ∷ hs) ws = list-uses hs ws

acts-uses : (us k : List Use) → acts_uses (as_acts us) k ≡ us ++ k
unfolding as_acts acts_uses plain_uses
acts-uses [] k = refl
acts-uses (u ∷ us) k = ap (λ (v : List Use). u ∷ v) (acts-uses us k)

first-has : (us k : List Use) → k ≡ [] → acts_uses (as_acts us) k ≡ us
first-has us k e = acts-uses us k ∙ ap (λ (v : List Use). us ++ v) e ∙ append-nil us

part-uses : (hs : List Head) (rs : List written.Rule) → rules_uses (used_in (rules_uses rs) (as_rules hs ++ called_rules (others hs rs))) ≡ rules_uses rs
unfolding used_in as_rules called_rules others names_of fresh mentions is_one rules_uses
part-uses [] [] = refl
part-uses [] (r ∷ rs) = first-has (rules_uses (r ∷ rs)) _ (called-uses (fresh (r.rule.text ∷ []) (calls_all r.body ++ mentions rs)))
part-uses (h ∷ hs) rs = first-has (rules_uses rs) _ (list-uses hs (others (h ∷ hs) rs))

pub together-pairs : (c : Common) (rs : List written.Rule) → pairs_of (together c rs).rules ≡ pairs_of rs
unfolding pairs_of together
together-pairs c rs = ap (firsts []) (part-uses c.listed rs)

called-length : (ws : List Word) → length (called_rules ws) ≡ length ws
unfolding called_rules
called-length [] = refl
called-length (w ∷ ws) = ap suc (called-length ws)

list_length : (hs : List Head) (ws : List Word) → length (as_rules hs ++ called_rules ws) ≡ length hs + length ws
unfolding as_rules
list_length [] ws = let e = called-length ws in omega (arith, e)
list_length (h ∷ hs) ws = let e = list_length hs ws in omega (arith, e)

used-length : (us : List Use) (rs : List written.Rule) → length (used_in us rs) ≡ length rs
unfolding used_in
used-length us [] = refl
used-length us (r ∷ rs) = refl

-- "as many rules as names"
pub together-length : (c : Common) (rs : List written.Rule) → length (together c rs).rules ≡ length c.listed + length (others c.listed rs)
unfolding together
together-length c rs = used-length (rules_uses rs) _ ∙ list_length c.listed (others c.listed rs)

-- First uses

abbrev Within : List Use → List Use → Type 0
Within a b = (w : Use) → is_used w a ≡ true → is_used w b ≡ true

within_both : (u : Use) (a b : List Use) → Within a b → Within (u ∷ a) (u ∷ b)
unfolding is_used
within_both u a b h w e = go (or (same_pair w u) (is_used w a) e)
  where
    go : (same_pair w u ≡ true) ⊎ (is_used w a ≡ true) → (same_pair w u || is_used w b) ≡ true
    go (inl d) = or₁ (same_pair w u) (is_used w b) d
    go (inr d) = or₂ (same_pair w u) (is_used w b) (h w d)

within_more : (u : Use) (a b : List Use) → Within a b → is_used u b ≡ true → Within (u ∷ a) b
unfolding is_used
within_more u a b h d w e = go (or (same_pair w u) (is_used w a) e)
  where
    go : (same_pair w u ≡ true) ⊎ (is_used w a ≡ true) → is_used w b ≡ true
    go (inl x) = pair.used-alike w u b (pair.alike w u x) d
    go (inr x) = h w x

-- what was first in a part is first or not in the whole; what was not, is not
first-once : (a b us more : List Use) → Within a b → firsts b (firsts a us ++ more) ≡ firsts b (us ++ more)
unfolding firsts
first-once a b [] more h = refl
first-once a b (u ∷ us) more h = go (is_used u a) refl (is_used u b) refl (first-once a b us more) (first-once (u ∷ a) b us more) (first-once (u ∷ a) (u ∷ b) us more)
  where
    go : (s : Bool) → is_used u a ≡ s → (t : Bool) → is_used u b ≡ t
        → (Within a b → firsts b (firsts a us ++ more) ≡ firsts b (us ++ more))
        → (Within (u ∷ a) b → firsts b (firsts (u ∷ a) us ++ more) ≡ firsts b (us ++ more))
        → (Within (u ∷ a) (u ∷ b) → firsts (u ∷ b) (firsts (u ∷ a) us ++ more) ≡ firsts (u ∷ b) (us ++ more))
        → firsts b ((if s then firsts a us else u ∷ firsts (u ∷ a) us) ++ more) ≡ (if t then firsts b (us ++ more) else u ∷ firsts (u ∷ b) (us ++ more))
    go true d true f x y z = x h
    go true d false f x y z = never (sym f ∙ h u d)
    go false d true f x y z = rw (firsts, f) (y (within_more u a b h f))
    go false d false f x y z = rw (firsts, f) (ap (λ (v : List Use). u ∷ v) (z (within_both u a b h)))

pub firsts-behind : (xs ys zs : List Use) → ((b : List Use) → firsts b ys ≡ firsts b zs) → (b : List Use) → firsts b (xs ++ ys) ≡ firsts b (xs ++ zs)
unfolding firsts
firsts-behind [] ys zs h b = h b
firsts-behind (x ∷ xs) ys zs h b = rw (firsts-behind xs ys zs h b, firsts-behind xs ys zs h (x ∷ b))

pub part-pairs : (b : List Use) (rs : List written.Rule) (more : List Use) → firsts b (pairs_of rs ++ more) ≡ firsts b (rules_uses rs ++ more)
unfolding pairs_of is_used
part-pairs b rs more = first-once [] b (rules_uses rs) more (λ w e. never e)

-- every use is of a pair
used-self : (us : List Use) → Each (λ u. is_used u us ≡ true) us
unfolding is_used Each
used-self [] = tt
used-self (u ∷ us) =
    (or₁ (same_pair u u) (is_used u us) (pair.pair-refl u), each_map (λ v. is_used v us ≡ true) (λ v. (same_pair v u || is_used v us) ≡ true) us (λ v e. or₂ (same_pair v u) (is_used v us) e) (used-self us))

pub uses-paired : (rs : List written.Rule) → Each (λ u. is_used u (pairs_of rs) ≡ true) (rules_uses rs)
uses-paired rs = each_map (λ u. is_used u (rules_uses rs) ≡ true) (λ u. is_used u (pairs_of rs) ≡ true) (rules_uses rs) (λ u e. pair.covered u rs e) (used-self (rules_uses rs))
