-- What the collected pairs and the places found give the linker: the rules that the definition makes for the pairs of all objects.
use mathlib.Core.Bool.{Bool, true, false, not}
use mathlib.Core.List.{List, [], ◌∷◌}
use mathlib.Core.Logic.{◌⊎◌, inl, inr}
use mathlib.Core.Option.{none}
use mathlib.Core.Path.{◌≡◌}
use native.Mathlib.Omega.{arith}
use Prim.Native.Nat.{ℕ, suc, ◌+◌}
use lib.ListN.{length}
use Rattle.acceptance.proofs.NamesOk.{each_append}
use Rattle.acceptance.proofs.Shape.{Each}
use Rattle.base.proofs.Laws.{same-eq}
use Rattle.base.specs.Bools as bools
use Rattle.std.specs.Prelude.{if◌then◌else◌}
use Rattle.base.specs.Common.{same}
use Rattle.levels.specs.Making.{MadeEnd}
use Rattle.levels.specs.declared.Made.{Made}
use Rattle.linker.specs.Place.{texts_at, rule_texts}
use Rattle.linkpairs.proofs.Making.{placed}
use Rattle.linkpairs.proofs.Objects.{all_known}
use Rattle.linkpairs.specs.Places.{SitesFound, RulesMade}
use Rattle.linkpairs.specs.Standing.{Sections, KnownUse, Held}
use Rattle.names.specs.Known.{good, Names}
use Rattle.names.specs.Understand.{is_one}
use Rattle.names.specs.Uses.{Use, is_used, firsts, made_for}
use Rattle.parts.proofs.Checks.{or-none, calls-there, CallsIn, made-on}
use Rattle.parts.specs.Form.{AreObjects}
use Rattle.parts.specs.Link.{found_if, or◌else◌, agrees, listed_type, rules_of, is_named, open_call, unlike, unlike_in, uses_of, pairs_in, past_made, known_of}
use Rattle.parts.specs.Objects.{OpenRule, Object}
use Rattle.parts.specs.Sound.{texts_of, call_words, SoundUse, Sound}
use Rattle.program.specs.Program.{Rule}
use Rattle.syntax.specs.Texts.{Head, Common}
use Rattle.syntax.specs.Written.{Program}
use Rattle.words.specs.Words.{Word}

-- What holds of every use holds of the first uses

module _ (P : Use → Type 0) where
  each_first : (seen us : List Use) → Each P us → Each P (firsts seen us)
  unfolding firsts Each
  each_first seen [] h = tt
  each_first seen (u ∷ us) h = go (is_used u seen) (each_first seen us h.1) (each_first (u ∷ seen) us h.1)
    where
      go : (t : Bool) → Each P (firsts seen us) → Each P (firsts (u ∷ seen) us) → Each P (if t then firsts seen us else u ∷ firsts (u ∷ seen) us)
      go true a b = a
      go false a b = (h.0, b)

  each-use : (os : List Object) → Each (λ o. Each P o.uses) os → Each P (uses_of os)
  unfolding uses_of Each
  each-use [] h = tt
  each-use (o ∷ os) h = each_append P o.uses (uses_of os) h.0 (each-use os h.1)

  each-pair : (os : List Object) → Each (λ o. Each P o.uses) os → Each P (pairs_in os)
  unfolding pairs_in
  each-pair os h = each_first [] (uses_of os) (each-use os h)

-- Every operand rule is a rule of an object, where no call is open

module _ (hs : List Head) (all : List OpenRule) where
  calls-named : (i : ℕ) (rs : List OpenRule) → unlike hs all i rs ≡ none → CallsIn all (call_words rs)
  unfolding unlike call_words Each
  calls-named i [] e = tt
  calls-named i (r ∷ rs) e =
      let x = or-none (found_if (not (agrees r.gives (listed_type r.name.text hs))) i r.name) (or open_call hs all i r.calls else unlike hs all i rs) e in
      let y = or-none (open_call hs all i r.calls) (unlike hs all i rs) x.1 in
      each_append (λ w. is_named w.text all ≡ true) r.calls (call_words rs) (calls-there hs all i r.calls y.0) (calls-named i rs y.1)

  looked : (ws : List Word) (w : List ℕ) → CallsIn all ws → is_one w (texts_of ws) ≡ true → is_named w all ≡ true
  unfolding texts_of is_one Each
  looked [] w h e = bools.never e
  looked (v ∷ ws) w h e = go (bools.or (same w v.text) (is_one w (texts_of ws)) e) (looked ws w h.1)
    where
      go : (same w v.text ≡ true) ⊎ (is_one w (texts_of ws) ≡ true) → (is_one w (texts_of ws) ≡ true → is_named w all ≡ true) → is_named w all ≡ true
      go (inl d) f = rw (same-eq w v.text d) h.0
      go (inr d) f = f d

  uses-named : (names : Names) (rs : List OpenRule) → CallsIn all (call_words rs) → (us : List Use) → Each (SoundUse hs names rs) us → Each (λ u. is_named u.operand.text all ≡ true) us
  unfolding Each
  uses-named names rs c [] h = tt
  uses-named names rs c (u ∷ us) h = (looked (call_words rs) u.operand.text c h.0.shown, uses-named names rs c us h.1)

  objects-named : (names : Names) (i : ℕ) (os : List Object) → unlike_in hs all i os ≡ none → Each (Sound hs names) os → Each (λ o. Each (λ u. is_named u.operand.text all ≡ true) o.uses) os
  unfolding unlike_in Each
  objects-named names i [] e h = tt
  objects-named names i (o ∷ os) e h =
      let x = or-none (unlike hs all i o.rules) (unlike_in hs all (suc i) os) e in
      (uses-named names o.rules (calls-named i o.rules x.0) o.uses h.0.uses, objects-named names (suc i) os x.1 h.1)

-- The pairs of all objects

module _ {common : List ℕ} {c : Common} {names : Names} {words : List ℕ} (h : AreObjects common c names words) where
  pub pairs-known : Each (KnownUse names) (pairs_in h.objects)
  pairs-known = each-pair (KnownUse names) h.objects (all_known c.listed names h.objects h.sound)

  pub operands-named : unlike_in c.listed (rules_of h.objects) 1 h.objects ≡ none → Each (λ u. is_named u.operand.text (rules_of h.objects) ≡ true) (pairs_in h.objects)
  operands-named e =
      each-pair (λ u. is_named u.operand.text (rules_of h.objects) ≡ true) h.objects (objects-named c.listed (rules_of h.objects) names 1 h.objects e h.sound)

  -- "the rules made for operators": there are such rules where no pair passes a limit, and they are those made
  pub pairs_made : {text rows : List ℕ} {n : ℕ} {p : Program} → Sections text rows n p names → unlike_in c.listed (rules_of h.objects) 1 h.objects ≡ none
      → (others : ℕ) {own count after : ℕ} {heads sites lowest places : List ℕ} → past_made names others own h.objects (pairs_in h.objects) ≡ none → texts_at words heads ≡ rule_texts (rules_of h.objects)
      → Held words sites lowest names own count after (pairs_in h.objects) → SitesFound text rows n words heads sites count places
      → {cs : List ℕ} {k : ℕ} {starts sorts cs' starts' sorts' : List ℕ} {r : Made} → RulesMade text rows n places 0 count own cs k starts sorts cs' starts' sorts' r
      → (ms : List Rule) × ((made_for names (known_of 0 (rules_of h.objects)) others own (pairs_in h.objects) ≡ good ms) × MadeEnd own cs k cs' starts sorts starts' sorts' r ms)
  pairs_made {text} {rows} {n} {p} sec e others {own} {count} {after} {heads} {sites} {lowest} {places} none-past t held found made =
      let os = h.objects in
      let all = rules_of os in
      let us = pairs_in os in
      let m = made-on names (known_of 0 all) others own os us none-past in
      let as_many : count ≡ 0 + length us = omega (arith, held.as_many) in
      let pl = placed text rows n words heads sites count places found p names sec all t 0 us as_many held.stand pairs-known (operands-named e) in
      (m.0, (m.1, made.made names (known_of 0 all) us held.as_many pl others m.0 m.1))
