-- `identity`, `identity-bytes`: carried to an identical program, a walk whose places lie in rules is equal.
use mathlib.Core.Bool.{Bool, true, false}
use mathlib.Core.List.{List, [], ◌∷◌}
use mathlib.Core.Option.{none, some}
use mathlib.Core.Path.{◌≡◌, refl, sym, ap, ◌∙◌}
use Prim.Native.Nat.{ℕ, ◌+◌}
use native.Mathlib.Omega.{arith}
use lib.ListN.{length}
use Rattle.acceptance.proofs.Accepts.{accepted-table}
use Rattle.base.proofs.Laws.{same_refl, same-eq}
use Rattle.std.specs.Prelude.{if◌then◌else◌}
use Rattle.base.specs.Common.{same}
use Rattle.carry.proofs.Lists.{none-some, some_inj, all-self, Distinct, number-name, place-of}
use Rattle.carry.proofs.Sources.{source_ok}
use Rattle.carry.specs.Carry.{Source, mark, marked_words, same_words, in_rule, carried_at, carry_place, beside, carry_places, carried, put_at, carry, source_of}
use Rattle.carry.specs.Identity.{InRule, InRules, in_nil, in_cons, IdentityWalks, IdentityBytes}
use Rattle.carry.specs.Texts.{answer_of, between, carry_texts, told, outcome, carry_bytes}
use Rattle.machine.specs.Bytes.{words_of}
use Rattle.machine.specs.Form.{walk_named, walk_bytes, walk_of}
use Rattle.machine.specs.Walk
use Rattle.machine.specs.Walk.{Walk, moved, with_returns}
use Rattle.program.specs.Program.{rule_of}

module _ (p : Source) (d : Distinct p.names) (n : length p.names ≡ length p.rules) where
  place-itself : (l : ℕ) → InRule p.rules l → carry_place p p l ≡ some l
  unfolding carry_place carried_at in_rule same_words
  place-itself l h =
      let x = place-of p.rules l h.at h.is in
      let r = h.at.rule in
      let y = number-name d 0 r (omega (arith, n, x.there)) in
      let z : 0 + r ≡ r = omega arith in
      let ws = marked_words (mark p.names p.names) (rule_of p.rules r) in
      rw (h.is, y, z, same_refl ws) (ap some x.location)

  places-itself : (ls : List ℕ) → InRules p.rules ls → carry_places p p ls ≡ some ls
  unfolding carry_places beside
  places-itself [] in_nil = refl
  places-itself (l ∷ ls) (in_cons h hs) = rw (place-itself l h, places-itself ls hs)

  itself : (w : Walk) → InRule p.rules w.location → InRules p.rules w.returns → carry p p w ≡ carried w
  unfolding carry put_at Walk.opened
  itself w h hs = rw (all-self p.sections, place-itself w.location h, places-itself w.returns hs)

pub identity : IdentityWalks
unfolding carry_texts between answer_of
identity text words verdict e w h =
    let t = accepted-table text 4096 words verdict e in
    let s = source_ok text t.prog t.means in
    rw (e, itself (source_of text) s.distinct s.length-is w h.location h.returns)

-- the bytes of a walk are those of the walk that they are
pub named-bytes : (walk : List ℕ) (w : Walk) → walk_of walk ≡ some w → walk_bytes w ≡ walk
unfolding walk_of
named-bytes walk w e = go (same (walk_bytes (walk_named (words_of walk))) walk) refl e
  where
    go : (t : Bool) → same (walk_bytes (walk_named (words_of walk))) walk ≡ t → (if t then some (walk_named (words_of walk)) else none) ≡ some w → walk_bytes w ≡ walk
    go true d e₁ = ap walk_bytes (sym (some_inj e₁)) ∙ same-eq (walk_bytes (walk_named (words_of walk))) walk d
    go false d e₁ = none-some e₁

pub identity-bytes : IdentityBytes
unfolding carry_bytes outcome told
identity-bytes text words verdict e walk w b h =
    rw (b, identity text words verdict e w h) (record { number = refl; bytes = named-bytes walk w b })
