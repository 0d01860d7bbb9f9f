-- The object's words, or the first fault of its rules.
use mathlib.Core.Bool.{Bool, true, false}
use mathlib.Core.List.{List, [], ◌∷◌, ◌++◌}
use mathlib.Core.Path.{◌≡◌, refl, sym, ap, subst, ◌∙◌}
use Prim.Native.Nat.{ℕ, suc, ◌+◌, ◌-◌, ◌/◌, ◌%◌, ◌<◌, ◌≤◌}
use native.Mathlib.Omega.{arith}
use lib.ListN.{length, take, drop, set, replicate, length-append}
use lib.Seq.{sets-eq, take_at}
use Rattle.acceptance.proofs.Shape.{Each}
use Rattle.base.specs.Bools.{never}
use Rattle.machine.proofs.Bytes.{length-words_of}
use Rattle.machine.specs.Bytes.{count, words_of}
use Rattle.names.specs.Known.{Checked, good, wrong, ◌>>=◌, KnownRule, Names}
use Rattle.names.specs.Uses.{Use, pairs_of}
use Rattle.partnames.proofs.Together.{rules-length}
use Rattle.partpairs.specs.Pairing.{Collected}
use Rattle.partrules.specs.Opened.{Context, aims_in, RulesEnd, rules_made, rules_faulty, RulesDone}
use Rattle.partrules.specs.declared.Rules.{Rules}
use Rattle.parts.proofs.ShiftedRules.{others-moved, aims-moved}
use Rattle.parts.specs.Form.{packed, uses_words, rules_words, first_pair, body_of, object_words}
use Rattle.parts.specs.Moved.{move_part, move_words, move_uses, move_aims, move_rules, move_opens, move_object, move_translated}
use Rattle.parts.specs.Objects.{Aim, OpenRule, Object, object, together, open_rules, open_rule, open_all, others, head_aims, call_aims, use_aims, aims_of, of_part, common_means}
use Rattle.parts.specs.Sound.{SoundRule}
use Rattle.partwriter.proofs.Putting.{puts_then, same_count}
use Rattle.partwriter.specs.Put.{Puts, back, front}
use Rattle.partwriter.specs.declared.Sizes.{Sizes}
use Rattle.processor.specs.Process.{part_of}
use Rattle.separate.proofs.Able.{none_seen, able-sure, able-unsure}
use Rattle.separate.proofs.Contexts.{context_of, holds}
use Rattle.separate.proofs.Own.{own-rows}
use Rattle.separate.proofs.Reading.{IsFault}
use Rattle.separate.specs.Answers.{Holds}
use Rattle.separate.specs.Objects.{sized, Writes, object_written, not_written, Ordered}
use Rattle.separate.specs.Steps.{refuses_part, StandsIn, translated_in, Known, opened_by}
use Rattle.separate.specs.Uses.{UsesPut}
use Rattle.separate.specs.declared.Plan.{Plan}
use Rattle.separate.specs.declared.Written.{Written}
use Rattle.symbols.specs.Rows.{held}
use Rattle.syntax.specs.Texts.{Common, Head}
use Rattle.syntax.specs.Written.{Program, Rule}
use Rattle.words.specs.Words.{Word}

-- As many

words-many : (to : ℕ → ℕ) (ws : List Word) → length (move_words to ws) ≡ length ws
unfolding move_words
words-many to [] = refl
words-many to (w ∷ ws) = ap suc (words-many to ws)

uses-many : (to : ℕ → ℕ) (us : List Use) → length (move_uses to us) ≡ length us
unfolding move_uses
uses-many to [] = refl
uses-many to (u ∷ us) = ap suc (uses-many to us)

aims-many : (to : ℕ → ℕ) (as₁ : List Aim) → length (move_aims to as₁) ≡ length as₁
unfolding move_aims
aims-many to [] = refl
aims-many to (a ∷ as₁) = ap suc (aims-many to as₁)

opens-many : (to : ℕ → ℕ) (os : List OpenRule) → length (move_opens to os) ≡ length os
unfolding move_opens
opens-many to [] = refl
opens-many to (o ∷ os) = ap suc (opens-many to os)

heads-many : (hs : List Head) → length (head_aims hs) ≡ length hs
unfolding head_aims
heads-many [] = refl
heads-many (h ∷ hs) = ap suc (heads-many hs)

calls-many : (ws : List Word) → length (call_aims ws) ≡ length ws
unfolding call_aims
calls-many [] = refl
calls-many (w ∷ ws) = ap suc (calls-many ws)

pairs_many : (us : List Use) → length (use_aims us) ≡ length us
unfolding use_aims
pairs_many [] = refl
pairs_many (u ∷ us) = ap suc (pairs_many us)

aims-length : (hs : List Head) (rs : List Rule) → length (aims_of hs rs) ≡ length hs + length (others hs rs) + length (pairs_of rs)
unfolding aims_of
aims-length hs rs =
    omega (arith, length-append (head_aims hs) (call_aims (others hs rs) ++ use_aims (pairs_of rs)), length-append (call_aims (others hs rs)) (use_aims (pairs_of rs)), heads-many hs, calls-many (others hs rs), pairs_many (pairs_of rs))

pub packed-few : (s : List ℕ) → length (packed s) ≤ length s
unfolding packed
packed-few [] = omega arith
packed-few (a ∷ []) = omega arith
packed-few (a ∷ b ∷ s) = let h = packed-few s in omega (arith, h)

-- Words known last

pub sized-words : (ws : List ℕ) {ws₁ ws₂ ws₃ : List ℕ} (n m rules x y z : ℕ) → m ≡ n - 3 → x ≡ m / 65536 % 65536 → y ≡ m % 65536 → z ≡ rules % 65536 → ws₁ ≡ set ws 1 x → ws₂ ≡ set ws₁ 2 y → ws₃ ≡ set ws₂ 5 z
    → ws₃ ≡ sized ws n rules
unfolding sized
sized-words ws n m rules x y z e f g h a b c = c ∙ ap (λ vs. set vs 5 z) (b ∙ ap (λ vs. set vs 2 y) a) ∙ rw (f, g, h, e) refl

holds-words : {out out₃ out₄ : List ℕ} {n rules : ℕ} (common tail : List ℕ) (s : Sizes) → Puts out 0 (front common s ++ tail) out₃ n → words_of out₄ ≡ sized (words_of out₃) n rules
    → length out₄ ≡ length out → rules < 65536 → length (packed common) + length tail ≤ 4294967000
    → Holds out₄ (20559 ∷ (4 + length (packed common ++ tail)) / 65536 ∷ (4 + length (packed common ++ tail)) % 65536 ∷ length common ∷ s.part ∷ rules ∷ s.pairs ∷ (packed common ++ tail)) n
unfolding front sized
holds-words {out} {out₃} {out₄} {n} {rules} common tail s p e l r b =
    let body = packed common ++ tail in
    let z = length-append (packed common) tail in
    let c : count out₄ ≡ count out = same_count out out₄ l in
    let target : List ℕ = 20559 ∷ (4 + length (packed common ++ tail)) / 65536 ∷ (4 + length (packed common ++ tail)) % 65536 ∷ length common ∷ s.part ∷ rules ∷ s.pairs ∷ (packed common ++ tail) in
    record {
      total = omega (arith, p.total, c);
      front = λ h.
          let zero_more : 0 + length (front common s ++ tail) ≡ length (front common s ++ tail) = omega arith in
          let k : n ≡ 7 + length body = omega (arith, p.total, c, h) in
          let w : words_of out₃ ≡ (front common s ++ tail) ++ drop (length (front common s ++ tail)) (words_of out) =
          p.leaves.words ∙ sets-eq (front common s ++ tail) (words_of out) 0 (omega (arith, length-words_of out, c, h))
          ∙ ap (λ i. (front common s ++ tail) ++ drop i (words_of out)) zero_more in
          let hi : (n - 3) / 65536 % 65536 ≡ (4 + length body) / 65536 = omega (arith, k, z, b) in
          let lo : (n - 3) % 65536 ≡ (4 + length body) % 65536 = omega (arith, k) in
          let ru : rules % 65536 ≡ rules = omega (arith, r) in
          ap (take (length target)) (e ∙ ap (λ (ws : List ℕ). set (set (set ws 1 ((n - 3) / 65536 % 65536)) 2 ((n - 3) % 65536)) 5 (rules % 65536)) w)
          ∙ rw (hi, lo, ru) (ap (λ (t : List ℕ). 20559 ∷ (4 + length body) / 65536 ∷ (4 + length body) % 65536 ∷ length common ∷ s.part ∷ rules ∷ s.pairs ∷ t)
          (take_at body (drop (length (front common s ++ tail)) (words_of out)) (length body) refl));
    }

-- the words of an object by its numbers
abbrev shape : List ℕ → ℕ → ℕ → ℕ → ℕ → List ℕ → List ℕ
shape common len part rules pairs t = 20559 ∷ len / 65536 ∷ len % 65536 ∷ length common ∷ part ∷ rules ∷ pairs ∷ t

same_shape : (common : List ℕ) {len len' part part' rules rules' pairs pairs' : ℕ} {t t' : List ℕ} → len ≡ len' → part ≡ part' → rules ≡ rules' → pairs ≡ pairs' → t ≡ t'
    → shape common len part rules pairs t ≡ shape common len' part' rules' pairs' t'
same_shape common {len} {len'} {part} {part'} {rules} {rules'} {pairs} {pairs'} {t} {t'} a b c d e =
    ap (λ n. shape common n part rules pairs t) a ∙ ap (λ n. shape common len' n rules pairs t) b ∙ ap (λ n. shape common len' part' n pairs t) c ∙ ap (λ n. shape common len' part' rules' n t) d
    ∙ ap (λ l. shape common len' part' rules' pairs' l) e

-- as many open rules as rules
opens-length : (q : Program) (n : Names) (ks : List KnownRule) (seen : List (List ℕ)) (xs : List Rule) (os : List OpenRule) → open_all q n ks seen xs ≡ good os → length os ≡ length xs
unfolding open_all
opens-length q n ks seen [] os e = let y : [] ≡ os = cc in ap length (sym y)
opens-length q n ks seen (x ∷ xs) os e = go (open_rule q n ks seen x) (open_all q n ks (x.rule.text ∷ seen) xs) e (λ rest d. opens-length q n ks (x.rule.text ∷ seen) xs rest d)
  where
    go : (a : Checked OpenRule) (b : Checked (List OpenRule)) → ◌>>=◌ a (λ first. ◌>>=◌ b (λ rest. good (first ∷ rest))) ≡ good os → ((rest : List OpenRule) → b ≡ good rest → length rest ≡ length xs)
        → length os ≡ suc (length xs)
    go (wrong i w) b f later = let z : ◌≡◌ {A = ℕ} 0 1 = cc in absurd (omega (arith, z))
    go (good o) (wrong i w) f later = let z : ◌≡◌ {A = ℕ} 0 1 = cc in absurd (omega (arith, z))
    go (good o) (good rest) f later = let y : o ∷ rest ≡ os = cc in ap length (sym y) ∙ ap suc (later rest refl)

-- Rules

module _ {text rows : List ℕ} (p : Plan) (s : StandsIn text p.at) {names : Names} (k : Known text rows p.count p.rules s.shared s.rules names) where
  abbrev c : Common
  c = s.shared

  abbrev rs : List Rule
  rs = s.rules

  -- the part's rules at their own places
  abbrev own : List Rule
  own = move_rules (back p.moved) rs

  abbrev context : Bool → Context
  context sure = context_of c names rs (others c.listed own) (pairs_of own) sure

  others-many : length (others c.listed own) ≡ length (others c.listed rs)
  others-many = ap length (others-moved (back p.moved) c.listed rs) ∙ words-many (back p.moved) (others c.listed rs)

  abbrev opened : Checked (List OpenRule)
  opened = open_all (together c rs) names (open_rules c.listed rs) [] rs

  pub ends-unsure : {out out' : List ℕ} {j : ℕ} {r : Rules} → RulesDone text rows p.count p.rules p.moved 0 p.at 65535 (replicate 512 0) out j out' r
      → RulesEnd 0 p.moved p.rules (context false) out j out' r opened
  ends-unsure d =
      d.done (context false) (holds (others c.listed own) (pairs_of own) false k others-many (λ h. never h)) [] (none_seen (held text rows p.count) 512) rs s.left s.rules_in (omega (arith, s.few))
      (able-unsure text p.at (held text rows p.count) (context false) rs s.short_part s.rules_in refl (own-rows c.listed rs k.agrees))

  pub ends-sure : {signs out out' : List ℕ} {j m : ℕ} {r : Rules} (os : List OpenRule) → opened ≡ good os → Collected text rows signs p.count p.rules (pairs_of rs) m
      → Each (SoundRule c.listed (aims_of c.listed own)) os
      → RulesDone text rows p.count p.rules p.moved 0 p.at 65535 (replicate 512 0) out j out' r → RulesEnd 0 p.moved p.rules (context true) out j out' r opened
  unfolding aims_in aims_of
  ends-sure os e q h d =
      d.done (context true) (holds (others c.listed own) (pairs_of own) true k others-many (λ _. q.numbers)) [] (none_seen (held text rows p.count) 512) rs s.left s.rules_in (omega (arith, s.few))
      (able-sure text p.at (held text rows p.count) (context true) rs os s.short_part s.rules_in (own-rows c.listed rs k.agrees) e h)

  -- a fault of the rules
  pub fault-of : {common lent out out' : List ℕ} {size j : ℕ} {r : Rules} {w : Written} → RulesDone text rows p.count p.rules p.moved 0 p.at 65535 (replicate 512 0) out j out' r
      → (r.fault ≡ 0 → ⊥) → IsFault w.fault r.fault 1 (r.at - p.moved) r.len → Writes common size lent w (move_translated (back p.moved) (opened_by c rs names))
  unfolding opened_by of_part move_translated move_part part_of
  fault-of {common} {lent} {out} {out'} {size} {j} {r} {w} d z f = go opened (ends-unsure d) _
    where
      go : (m : Checked (List OpenRule)) → RulesEnd 0 p.moved p.rules (context false) out j out' r m → (o : List OpenRule → Object)
          → Writes common size lent w (move_translated (back p.moved) (of_part m (λ os. object (o os))))
      go (good os) (rules_made e g q) o = absurd (z e)
      go (wrong n v) (rules_faulty e y a l) o =
          not_written (λ h. z (sym f.number_is ∙ h)) (refuses_part (f.number_is ∙ e) f.text_is (f.start_is ∙ ap (λ i. i - p.moved) a) (f.len_is ∙ l))

  -- the object that these open rules make
  abbrev made : List OpenRule → Object
  made os = move_object (back p.moved) (record { rules = os; uses = pairs_of rs; aims = aims_of c.listed rs })

  first-pair : (os : List OpenRule) → p.rules ≡ first_pair (made os)
  unfolding first_pair move_object
  first-pair os =
      omega (arith, k.own_is, rules-length c rs, aims-length c.listed rs, aims-many (back p.moved) (aims_of c.listed rs), uses-many (back p.moved) (pairs_of rs))

  same-aims : aims_in (context true) ≡ move_aims (back p.moved) (aims_of c.listed rs)
  unfolding aims_in aims_of
  same-aims = aims-moved (back p.moved) c.listed rs

  abbrev uses_part : List ℕ
  uses_part = uses_words (move_uses (back p.moved) (pairs_of rs))

  abbrev rules_part : List OpenRule → List ℕ
  rules_part os = rules_words (aims_in (context true)) p.rules (move_opens (back p.moved) os)

  same-rules : (os : List OpenRule) → rules_part os ≡ rules_words (made os).aims (first_pair (made os)) (move_opens (back p.moved) os)
  unfolding move_object
  same-rules os = ap (λ (a : List Aim). rules_words a p.rules (move_opens (back p.moved) os)) same-aims ∙ ap (λ i. rules_words (move_aims (back p.moved) (aims_of c.listed rs)) i (move_opens (back p.moved) os)) (first-pair os)

  object-is : (common : List ℕ) {part rules pairs : ℕ} (os : List OpenRule) → part ≡ p.size → rules ≡ length os → pairs ≡ length (pairs_of rs)
      → shape common (4 + length (packed common ++ (uses_part ++ rules_part os))) part rules pairs (packed common ++ (uses_part ++ rules_part os)) ≡ object_words common p.size (made os)
  unfolding object_words body_of move_object
  object-is common os a b d =
      let e : packed common ++ (uses_part ++ rules_part os) ≡ packed common ++ (uses_part ++ rules_words (made os).aims (first_pair (made os)) (move_opens (back p.moved) os)) =
      ap (λ (l : List ℕ). packed common ++ (uses_part ++ l)) (same-rules os) in
      let f = ap length e in
      same_shape common (omega (arith, f)) a (b ∙ sym (opens-many (back p.moved) os)) (d ∙ sym (uses-many (back p.moved) (pairs_of rs))) e

  pub whole_of : {common signs lent out out₁ out₂ out₃ : List ℕ} {c₁ c₂ : ℕ} {r : Rules} {w : Written} (sizes : Sizes) → Ordered p.moved s → common_means c rs ≡ good names → translated_in p.moved s ≡ move_translated (back p.moved) (opened_by c rs names)
      → ((os : List OpenRule) → opened ≡ good os → Collected text rows signs p.count p.rules (pairs_of rs) p.pairs)
      → Puts out 0 (front common sizes) out₁ c₁ → sizes.part ≡ p.size → sizes.pairs ≡ p.pairs → UsesPut text signs p.pairs p.moved out₁ c₁ out₂ c₂
      → RulesDone text rows p.count p.rules p.moved 0 p.at 65535 (replicate 512 0) out₂ c₂ out₃ r → r.fault ≡ 0
      → words_of lent ≡ sized (words_of out₃) r.count r.rules → length lent ≡ length out → w.fault.number ≡ 0 → w.words ≡ r.count → length common ≤ 32768
      → Writes common p.size lent w (move_translated (back p.moved) (opened_by c rs names))
  unfolding opened_by of_part move_translated move_object
  whole_of {common} {signs} {lent} {out} {out₁} {out₂} {out₃} {c₁} {c₂} {r} {w} sizes od cm is co a sp sq u d z y l wz wn lc = go opened refl is
    where
      one : (os : List OpenRule) → opened ≡ good os → translated_in p.moved s ≡ object (made os) → RulesEnd 0 p.moved p.rules (context true) out₂ c₂ out₃ r (good os)
          → Writes common p.size lent w (object (made os))
      one os e t (rules_made f g q) =
          let x = co os e in
          let v = puts_then a (puts_then (u.done (pairs_of rs) x.count x.uses) (q refl)) in
          let len = opens-length (together c rs) names (open_rules c.listed rs) [] rs os e in
          let few = od.few (made os) t in
          let same = ap length (same-rules os) in
          let h = holds-words common (uses_part ++ rules_part os) sizes v y l (omega (arith, g, len, s.few))
          (omega (arith, packed-few common, lc, length-append uses_part (rules_part os), few, same)) in
          object_written {o = made os} wz (rw wn (subst (λ (t : List ℕ). Holds lent t r.count) (object-is common os sp (omega (arith, g)) (sq ∙ x.count)) h))

      go : (m : Checked (List OpenRule)) → opened ≡ m → translated_in p.moved s ≡ move_translated (back p.moved) (of_part m (λ os. object (record { rules = os; uses = pairs_of rs; aims = aims_of c.listed rs })))
          → Writes common p.size lent w (move_translated (back p.moved) (of_part m (λ os. object (record { rules = os; uses = pairs_of rs; aims = aims_of c.listed rs }))))
      go (good os) e t = one os e t (subst (λ m. RulesEnd 0 p.moved p.rules (context true) out₂ c₂ out₃ r m) e (ends-sure os e (co os e) (od.sound names cm os e) d))
      go (wrong n v) e t = bad (subst (λ m. RulesEnd 0 p.moved p.rules (context false) out₂ c₂ out₃ r m) e (ends-unsure d))
        where
          bad : {A : Type 0} → RulesEnd 0 p.moved p.rules (context false) out₂ c₂ out₃ r (wrong n v) → A
          bad (rules_faulty f x _ _) = absurd (x (sym f ∙ z))
