-- What the code finds by its rows is what the definitions find by the source: places, called rules, the rule with a name, and the words of two rules.
use mathlib.Core.Bool.{Bool, true, false}
use mathlib.Core.List.{List, [], ◌∷◌}
use mathlib.Core.Option.{Option, none, some}
use mathlib.Core.Path.{◌≡◌, refl, sym, ◌∙◌}
use Prim.Native.Nat.{ℕ, zero, suc, ◌+◌, ◌-◌, ◌<◌, ◌≤◌}
use native.Mathlib.Omega.{arith}
use native.Mathlib.Decide.{dec_lt}
use lib.Dec.{eqb, ltb}
use lib.ListN.{length}
use borrow.Author.Tests.{le-leb, lt-leb, lt-ltb, le-ltb, ne_eqb}
use Rattle.std.specs.Prelude.{if◌then◌else◌}
use Rattle.agreement.proofs.Laid.{own_words}
use Rattle.carry.proofs.Comparing.{scanned-words}
use Rattle.carry.proofs.Lists.{Distinct, place-of}
use Rattle.carry.specs.Carry.{same_name, Source, Place, place_in, place_of, same_words}
use Rattle.carry.specs.Scan.{Expects, instruction, expects_after, tables_after, same_scan, names_meet, calls_meet}
use Rattle.program.proofs.Places.{place-next}
use Rattle.program.specs.Accepted.{Accepted}
use Rattle.program.specs.Program.{Rule, rule_of}
use Rattle.program.specs.Table.{size_rule, size_rules, place}
use Rattle.carrier.specs.Held.{name_held, last_held, rule_held, calls_held}
use Rattle.carrier.specs.Sheets.{Sheet}

-- Places

place-total : (i r : ℕ) (bs : List Rule) → i < size_rules bs → (at : Place) × (place_in i r bs ≡ some at)
unfolding place_in size_rules
place-total i r [] h = absurd (omega arith)
place-total i r (b ∷ bs) h = go (ltb i (size_rule b)) refl (λ l. place-total (i - size_rule b) (suc r) bs l)
  where
    go : (t : Bool) → ltb i (size_rule b) ≡ t → (i - size_rule b < size_rules bs → (at : Place) × (place_in (i - size_rule b) (suc r) bs ≡ some at))
        → (at : Place) × ((if t then some (record { rule = r; offset = i }) else place_in (i - size_rule b) (suc r) bs) ≡ some at)
    go true e ih = (record { rule = r; offset = i }, refl)
    go false e ih = ih (omega (arith, ltb_no i (size_rule b) e, h))
      where
        ltb_no : (a c : ℕ) → ltb a c ≡ false → c ≤ a
        ltb_no a c f = elim (dec_lt a c) [ yes x ↦ absurd (false-not (sym (lt-ltb a c x) ∙ f)) | no x ↦ omega arith ]
          where
            false-not : true ≡ false → ⊥
            false-not z = let y : ◌≡◌ {A = ℕ} 0 1 = cc in omega arith

place-beyond : (i r : ℕ) (bs : List Rule) → size_rules bs ≤ i → place_in i r bs ≡ none
unfolding place_in size_rules
place-beyond i r [] h = refl
place-beyond i r (b ∷ bs) h = rw (le-ltb i (size_rule b) (omega arith)) (place-beyond (i - size_rule b) (suc r) bs (omega arith))

-- a later rule stands behind an earlier one's words
place_after : (prog : List Rule) (r k : ℕ) → r < k → k < length prog → place 1 prog r + size_rule (rule_of prog r) ≤ place 1 prog k
place_after prog r zero h l = absurd (omega arith)
place_after prog r (suc k) h l = elim (dec_lt r k) [
  | yes x ↦ let a = place_after prog r k x (omega arith) in let b = place-next 1 prog k (omega arith) in omega (arith, a, b)
  | no x ↦ let z : r ≡ k = omega arith in let b = place-next 1 prog k (omega arith) in rw z (omega (arith, b))
]

module _ (text sheet : List ℕ) (p : Source) (s : Sheet text sheet p) where
  last-is : (n r l : ℕ) → r < n → n ≤ length p.rules → place 1 p.rules r ≤ l → l < place 1 p.rules r + size_rule (rule_of p.rules r) → last_held sheet n l ≡ r
  unfolding last_held
  last-is zero r l h k a b = absurd (omega arith)
  last-is (suc n) r l h k a b = elim (dec_lt r n) [
    | yes x ↦ let z = place_after p.rules r n x (omega arith) in
        rw (s.locations n (omega arith), lt-leb (place 1 p.rules n) l (omega (arith, z, b))) (last-is n r l x (omega arith) a b)
    | no x ↦ let z : n ≡ r = omega arith in rw (z, s.locations r (omega arith), le-leb (place 1 p.rules r) l a) refl
  ]

  -- the rule in which a location lies
  pub data Found (l : ℕ) : Option Place → ℕ → Type 0 where
    nowhere : Found l none 128
    somewhere : (at : Place) → at.rule < length p.rules → place 1 p.rules at.rule + at.offset ≡ l → Found l (some at) at.rule

  pub rule-held : (l : ℕ) → Found l (place_of p.rules l) (rule_held sheet l)
  unfolding place_of rule_held
  rule-held zero = nowhere
  rule-held (suc i) = rw (s.count, s.size) (elim (dec_lt i (size_rules p.rules)) [
    | no x ↦ rw (le-leb 1 (suc i) (omega arith), lt-leb (suc i) (size_rules p.rules) (omega arith), place-beyond i 0 p.rules (omega arith)) nowhere
    | yes x ↦ let t = place-total i 0 p.rules x in
        let a = place-of p.rules (suc i) t.0 (unfold place_of in t.1) in
        let z = last-is (length p.rules) t.0.rule (suc i) a.there (omega arith) (omega (arith, a.location)) (omega (arith, a.location, a.inside)) in
        rw (le-leb 1 (suc i) (omega arith), le-leb (suc i) (size_rules p.rules) (omega arith), t.1, z) (somewhere t.0 a.there a.location)
  ])

-- Two programs

scan-as : (c d : ℕ → ℕ → Bool) → ((x y : ℕ) → c x y ≡ d x y) → (ts : List ℕ) (o : ℕ) (e : Expects) (ws vs : List ℕ) → same_scan c ts o e ws vs ≡ same_scan d ts o e ws vs
unfolding same_scan
scan-as c d h ts o e [] [] = refl
scan-as c d h ts o e [] (v ∷ vs) = refl
scan-as c d h ts o e (w ∷ ws) [] = refl
scan-as c d h ts o e (w ∷ ws) (v ∷ vs) = rw (h w v, scan-as c d h (tables_after ts o e w) (suc o) (expects_after ts o e w) ws vs) refl

module _ (old sheet : List ℕ) (p : Source) (s : Sheet old sheet p) (new sheet' : List ℕ) (q : Source) (s' : Sheet new sheet' q) where
  abbrev Calls : ℕ → ℕ → Bool
  Calls = calls_held old sheet new sheet'

  pub calls-held : (x y : ℕ) → Calls x y ≡ calls_meet p q x y
  unfolding calls_held calls_meet names_meet
  calls-held x y = go (place_of p.rules x) (rule_held sheet x) (rule-held old sheet p s x) (place_of q.rules y)
      (rule_held sheet' y) (rule-held new sheet' q s' y)
    where
      go : (a : Option Place) (i : ℕ) → Found old sheet p s x a i → (b : Option Place) (j : ℕ) → Found new sheet' q s' y b j
          → (if eqb i 128 then false else if eqb j 128 then false else same_name (name_held old sheet i) (name_held new sheet' j)) ≡ names_meet p.names q.names a b
      go none i nowhere b j f = refl
      go (some a) i (somewhere at h e) none j nowhere = rw (ne_eqb at.rule 128 (λ z. omega (arith, z, h, s.few))) refl
      go (some a) i (somewhere at h e) (some b) j (somewhere bt k f) =
          rw (ne_eqb at.rule 128 (λ z. omega (arith, z, h, s.few)), ne_eqb bt.rule 128 (λ z. omega (arith, z, k, s'.few)), s.names at.rule h, s'.names bt.rule k) refl

  -- what `same_words` finds of the words of rule r of the old program and of rule t of the new one is `same_words`
  pub words-held : Accepted p.rules → Accepted q.rules → Distinct p.names → Distinct q.names → length p.names ≡ length p.rules → length q.names ≡ length q.rules
      → (r t : ℕ) → r < length p.rules → t < length q.rules
      → same_scan Calls [] 0 instruction (own_words p.rules r) (own_words q.rules t) ≡ same_words p q r t
  words-held ok ok' dp dq np nq r t h k =
      scan-as Calls (calls_meet p q) calls-held [] 0 instruction (own_words p.rules r) (own_words q.rules t) ∙ scanned-words p q ok ok' dp dq np nq r t h k
