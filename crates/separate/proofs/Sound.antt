-- The open rules of a part that was read are sound, also at other places.
use mathlib.Core.List.{List, [], ◌∷◌}
use mathlib.Core.Option.{Option, none, some}
use mathlib.Core.Path.{◌≡◌, refl, sym, ap, subst, ◌∙◌}
use Prim.Native.Nat.{ℕ}
use lib.ListN.{get_or}
use Rattle.acceptance.proofs.Shape.{Each}
use Rattle.base.specs.Common.{given}
use Rattle.names.specs.Known.{good, Names}
use Rattle.names.specs.Uses.{pairs_of}
use Rattle.parts.proofs.Linking.{common_is, common-same, is-common}
use Rattle.parts.proofs.ShiftedRules.{aims-moved, meaning-moved}
use Rattle.parts.proofs.Written.{translated-sound}
use Rattle.parts.specs.Moved.{move_word, move_words, move_if, move_rules, move_open, move_opens, move_object, move_translated}
use Rattle.parts.specs.Objects.{Aim, named, ranked, OpenRule, Object, object, together, open_rules, open_all, aims_of, meaning, of_common, of_part, common_means}
use Rattle.parts.specs.Sound.{StandsFor, Aligned, SoundRule}
use Rattle.syntax.specs.Reading.{got}
use Rattle.syntax.specs.Texts.{Common, Head, read_common, read_part}
use Rattle.syntax.specs.Written.{Rule}
use Rattle.words.specs.Words.{Word}

module _ (to : ℕ → ℕ) where
  stands_back : (a : Aim) (w : Word) → StandsFor a (move_word to w) → StandsFor a w
  unfolding StandsFor move_word
  stands_back (named v) w h = h
  stands_back (ranked u) w h = h

  aligned-back : (aims : List Aim) (is : List ℕ) (ws : List Word) → Aligned aims is (move_words to ws) → Aligned aims is ws
  unfolding Aligned move_words
  aligned-back aims [] [] h = tt
  aligned-back aims [] (w ∷ ws) h = h
  aligned-back aims (i ∷ is) [] h = h
  aligned-back aims (i ∷ is) (w ∷ ws) h = (stands_back (get_or aims i (named [])) w h.0, aligned-back aims is ws h.1)

  given-moved : (g : Option Word) → given (move_if to g) ≡ given g
  unfolding move_if
  given-moved none = refl
  given-moved (some w) = refl

  sound_back : (hs : List Head) (aims : List Aim) (o : OpenRule) → SoundRule hs aims (move_open to o) → SoundRule hs aims o
  unfolding move_open
  sound_back hs aims o s =
      record { sort = s.sort ∙ given-moved o.gives; in_order = s.in_order; no_end = s.no_end; few = s.few; deep = s.deep; calls = aligned-back aims _ o.calls s.calls }

  all_back : (hs : List Head) (aims : List Aim) (os : List OpenRule) → Each (SoundRule hs aims) (move_opens to os) → Each (SoundRule hs aims) os
  unfolding Each move_opens
  all_back hs aims [] h = tt
  all_back hs aims (o ∷ os) h = (sound_back hs aims o h.0, all_back hs aims os h.1)

  pub sound-rules : (common part : List ℕ) {behind rest : List Word} {left : ℕ} (c : Common) (rs rs₀ : List Rule) → read_common common ≡ got c behind → c.left ≡ left → read_part left part ≡ got rs₀ rest
      → move_rules to rs ≡ rs₀ → (names : Names) → common_means c rs ≡ good names → (os : List OpenRule) → open_all (together c rs) names (open_rules c.listed rs) [] rs ≡ good os
      → Each (SoundRule c.listed (aims_of c.listed (move_rules to rs))) os
  unfolding meaning of_common of_part move_translated move_object
  sound-rules common part {behind} {rest} {left} c rs rs₀ a l b e names m os o =
      let made : Object = record { rules = os; uses = pairs_of rs; aims = aims_of c.listed rs } in
      let f : meaning c rs ≡ object made = rw (m, o) refl in
      let g : meaning c rs₀ ≡ object (move_object to made) = ap (meaning c) (sym e) ∙ meaning-moved to c rs ∙ ap (move_translated to) f in
      let n = is-common c [] names (common-same c rs [] names (common_is c rs names m)) in
      let s = translated-sound common c behind a names n part rs₀ rest (rw l b) (move_object to made) g in
      all_back c.listed (aims_of c.listed (move_rules to rs)) os (subst (λ (t : List Aim). Each (SoundRule c.listed t) (move_opens to os)) (sym (aims-moved to c.listed rs)) s.rules)
