-- The cells of a sound object's rule, closed by the places of its calls' names and of its pairs, are those of the rule as linking has it.
use mathlib.Core.Bool.{true, false}
use mathlib.Core.List.{List, [], ◌∷◌, ◌++◌}
use mathlib.Core.Path.{◌≡◌, refl, sym, ap, ◌∙◌}
use native.Mathlib.Omega.{arith}
use Prim.Native.Nat.{ℕ, zero, suc, ◌+◌, ◌-◌}
use lib.ListN.{length, get_or}
use Rattle.acceptance.proofs.Shape.{Each}
use Rattle.calls.specs.Renumber.{renumber_rule}
use Rattle.cells.specs.Cells.{acts_cells}
use Rattle.names.specs.Known.{Names}
use Rattle.names.specs.Uses.{Use, lowest_of}
use Rattle.objects.proofs.Marks.{nothing}
use Rattle.objects.proofs.Numbering.{not-ranked, ranked-same, first_is, past-heads, past-calls}
use Rattle.parts.specs.Form.{mark_of, body_cells, first_pair}
use Rattle.parts.specs.Link.{is_named, known_of, place_for, closing}
use Rattle.parts.specs.Objects.{Aim, named, ranked, use_aims, call_aims, OpenRule, Object}
use Rattle.parts.specs.Sound.{numbers_all, frame, texts_of, StandsFor, Aligned, SoundRule, Sound}
use Rattle.syntax.specs.Texts.{Head}
use Rattle.words.specs.Words.{Word}
use Rattle.linker.specs.Close.{in_row, close_cells, TellsOne, Tells}
use Rattle.linker.specs.Place.{place_of, rule_texts, places_for, lowests}
use Rattle.linker.proofs.Closing.{closed}
use Rattle.linker.proofs.Placing.{place-for}

module _ (n : Names) (own : ℕ) (us : List Use) where
  in-uses : (uses : List Use) (i : ℕ) (u : Use) → get_or (use_aims uses) i nothing ≡ ranked u → in_row (lowests n own us uses) i ≡ lowest_of n u own us
  unfolding use_aims lowests
  in-uses [] i u e = not-ranked e
  in-uses (x ∷ uses) zero u e = let y = ranked-same e in rw y
  in-uses (x ∷ uses) (suc i) u e = in-uses uses i u e

  lowest-at : (hs : List Head) (o : Object) → Sound hs n o → (i : ℕ) (u : Use) → get_or o.aims i nothing ≡ ranked u → in_row (lowests n own us o.uses) (i - first_pair o) ≡ lowest_of n u own us
  unfolding first_pair
  lowest-at hs o s i u e =
      let x = past-heads hs (call_aims s.others ++ use_aims o.uses) i u (rw s.numbered at e) in
      let y = past-calls s.others (use_aims o.uses) (i - length hs) u x in
      let f : length o.aims - length o.uses ≡ length hs + length s.others = ap (λ (xs : List Aim). length xs - length o.uses) s.numbered ∙ first_is hs s.others o.uses in
      let z : i - length hs - length s.others ≡ i - (length o.aims - length o.uses) = omega (arith, f) in
      rw (← z) (in-uses o.uses (i - length hs - length s.others) u y)

  module _ (all : List OpenRule) (hs : List Head) (o : Object) (s : Sound hs n o) where
    abbrev first : ℕ
    first = first_pair o

    abbrev mark : ℕ → ℕ
    mark i = mark_of o.aims first i

    abbrev to : ℕ → ℕ
    to i = closing n (known_of 0 all) own us o.aims i

    mark-named : (i : ℕ) (t : List ℕ) → get_or o.aims i nothing ≡ named t → mark i ≡ 0
    unfolding mark_of
    mark-named i t e = rw (e, mark_of)

    mark-ranked : (i : ℕ) (u : Use) → get_or o.aims i nothing ≡ ranked u → mark i ≡ suc (i - first)
    unfolding mark_of
    mark-ranked i u e = rw (e, mark_of) (omega arith)

    to_is : (i : ℕ) (a : Aim) → get_or o.aims i nothing ≡ a → to i ≡ place_for n (known_of 0 all) own us a
    unfolding closing
    to_is i a e = ap (place_for n (known_of 0 all) own us) e

    to-ranked : (u : Use) → place_for n (known_of 0 all) own us (ranked u) ≡ lowest_of n u own us
    unfolding place_for
    to-ranked u = refl

    one : (i : ℕ) (w : Word) → StandsFor (get_or o.aims i nothing) w → is_named w.text all ≡ true
        → TellsOne (in_row (lowests n own us o.uses)) (λ j. mark j) (λ j. to j) i (place_of w.text (rule_texts all))
    unfolding StandsFor
    one i w h e = go (get_or o.aims i nothing) refl h
      where
        go : (a : Aim) → get_or o.aims i nothing ≡ a → StandsFor a w → TellsOne (in_row (lowests n own us o.uses)) (λ j. mark j) (λ j. to j) i (place_of w.text (rule_texts all))
        go (named v) d h = record {
          by_name = λ m. sym (to_is i (named v) d ∙ ap (λ t. place_for n (known_of 0 all) own us (named t)) h ∙ place-for n own us w.text all e);
          by_pair = λ k m. absurd (omega (arith, m, mark-named i v d));
        }
        go (ranked u) d h = record {
          by_name = λ m. absurd (omega (arith, m, mark-ranked i u d));
          by_pair = λ k m. let z : k ≡ i - first = omega (arith, m, mark-ranked i u d) in ap (in_row (lowests n own us o.uses)) z ∙ lowest-at hs o s i u d ∙ sym (to_is i (ranked u) d ∙ to-ranked u);
        }

    tells : (is : List ℕ) (ws : List Word) → Aligned o.aims is ws → Each (λ w. is_named w.text all ≡ true) ws
        → Tells (in_row (lowests n own us o.uses)) (λ j. mark j) (λ j. to j) is (places_for (rule_texts all) (texts_of ws)) []
    unfolding Aligned Each Tells places_for texts_of
    tells [] [] h e = refl
    tells [] (w ∷ ws) h e = absurd h
    tells (i ∷ is) [] h e = absurd h
    tells (i ∷ is) (w ∷ ws) h e = (one i w h.0 e.0, tells is ws h.1 e.1)

    pub rule-closed : (r : OpenRule) → SoundRule hs o.aims r → Each (λ w. is_named w.text all ≡ true) r.calls
        → close_cells (in_row (lowests n own us o.uses)) (places_for (rule_texts all) (texts_of r.calls)) (body_cells o.aims (first_pair o) r.means.body)
        ≡ acts_cells (renumber_rule (closing n (known_of 0 all) own us o.aims) r.means).body []
    unfolding body_cells renumber_rule
    rule-closed r t e =
        closed (in_row (lowests n own us o.uses)) (λ j. mark j) (λ j. to j) (frame hs o.aims) r.means.body r.means.valued false t.in_order t.few (places_for (rule_texts all) (texts_of r.calls)) []
        (tells (numbers_all r.means.body) r.calls t.calls e)
