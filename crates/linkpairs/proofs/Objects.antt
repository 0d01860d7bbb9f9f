-- Object after object: what is collected are the pairs of the objects passed, and what is left decides as the whole.
use mathlib.Core.Bool.{Bool, ◌||◌, or-false}
use mathlib.Core.List.{List, [], ◌∷◌, ◌++◌, append_assoc}
use mathlib.Core.Path.{◌≡◌, refl, sym, ap, ◌∙◌}
use native.Mathlib.Omega.{arith}
use Prim.Native.Nat.{ℕ, ◌+◌, ◌<◌, ◌≤◌}
use lib.ListN.{length, get_or, drop, length-drop, length-append}
use Rattle.acceptance.proofs.Shape.{Each}
use Rattle.linkpairs.proofs.Gathering.{Outcome, gathers, behind, gather_append, Seen, seen_all, used-append, uses-append, text-using}
use Rattle.linkpairs.proofs.Standing.{pair-count}
use Rattle.linkpairs.specs.Gather.{Gathered, gathered, past, gather}
use Rattle.linkpairs.specs.Standing.{PairsFrom, ObjectEnds, Sections, KnownUse, Stand, Numbered, Held, Gives, moved_to, PairsTaken, PastLimit, Tells}
use Rattle.linkpairs.specs.declared.Pairs.{Pairs}
use Rattle.linkpairs.specs.declared.Scope.{Scope}
use Rattle.linkpairs.specs.declared.Spot.{Spot}
use Rattle.names.specs.Known.{Names}
use Rattle.names.specs.Uses.{Use, is_used}
use Rattle.objects.specs.View.{all}
use Rattle.parts.specs.Form.{object_words, all_words}
use Rattle.parts.specs.Link.{uses_of, pairs_in, text_using, past_made}
use Rattle.parts.specs.Objects.{OpenRule, Object}
use Rattle.parts.specs.Sound.{SoundUse, Sound}
use Rattle.syntax.specs.Texts.{Head}
use Rattle.syntax.specs.Written.{Program}

abbrev Knows : Names → Object → Type 0
Knows names o = Each (KnownUse names) o.uses

uses-known : (hs : List Head) (names : Names) (rules : List OpenRule) (us : List Use) → Each (SoundUse hs names rules) us → Each (KnownUse names) us
unfolding Each
uses-known hs names rules [] h = tt
uses-known hs names rules (u ∷ us) h = (record { levels = h.0.levels; section = h.0.section }, uses-known hs names rules us h.1)

pub all_known : (hs : List Head) (names : Names) (os : List Object) → Each (Sound hs names) os → Each (Knows names) os
unfolding Each
all_known hs names [] h = tt
all_known hs names (o ∷ os) h = (uses-known hs names o.rules o.uses h.0.uses, all_known hs names os h.1)

-- the pairs of one object more
used-with : (w : Use) (before : List Object) (o : Object) → is_used w (uses_of (before ++ (o ∷ []))) ≡ (is_used w (uses_of before) || is_used w o.uses)
unfolding uses_of is_used
used-with w before o =
    ap (is_used w) (uses-append before (o ∷ [])) ∙ used-append w (uses_of before) (o.uses ++ []) ∙ ap (λ (t : Bool). is_used w (uses_of before) || t) (used-append w o.uses [] ∙ or-false (is_used w o.uses))

held_of : {words sites lowest : List ℕ} {names : Names} {own count count₁ after : ℕ} {us us₁ : List Use} → count ≡ count₁ → us ≡ us₁ → Held words sites lowest names own count after us → Held words sites lowest names own count₁ after us₁
held_of e f h = rw (← e, ← f) h

module _ (names : Names) (others own : ℕ) (words common : List ℕ) (os : List Object) where
  pub record Going (sites lowest : List ℕ) (at i count after : ℕ) : Type 0 where
    pub before : List Object
    pub left : List Object
    pub sizes : List ℕ
    pub as_many : length sizes ≡ length left
    pub objects-are : os ≡ before ++ left
    pub words_are : drop at words ≡ all_words common sizes left
    pub number : i ≡ 1 + length before
    pub seen : List Use
    pub held : Held words sites lowest names own count after seen
    pub same : gather names others own [] (uses_of os) ≡ gather names others after seen (uses_of left)
    pub sees : (v : Use) → is_used v seen ≡ is_used v (uses_of before)
    pub known : Each (Knows names) left

  pub going-first : (sizes sites lowest : List ℕ) {i own₁ : ℕ} → i ≡ 1 → own₁ ≡ own → length sizes ≡ length os → words ≡ all_words common sizes os → Each (Knows names) os → Going sites lowest 0 i 0 own₁
  unfolding Stand Numbered is_used uses_of
  going-first sizes sites lowest j e n w k = record {
    before = [];
    left = os;
    sizes = sizes;
    as_many = n;
    objects-are = refl;
    words_are = w;
    number = omega (arith, j);
    seen = [];
    held = record { as_many = refl; stand = tt; numbered = e };
    same = ap (λ (x : ℕ). gather names others x [] (uses_of os)) (sym e);
    sees = λ v. refl;
    known = k;
  }

  -- the next object
  record Next (sites lowest : List ℕ) (at i count after : ℕ) : Type 0 where
    before : List Object
    object : Object
    later : List Object
    size : ℕ
    sizes : List ℕ
    as_many : length sizes ≡ length later
    objects-are : os ≡ before ++ (object ∷ later)
    words_are : drop at words ≡ object_words common size object ++ all_words common sizes later
    number : i ≡ 1 + length before
    seen : List Use
    held : Held words sites lowest names own count after seen
    same : gather names others own [] (uses_of os) ≡ behind names others (gather names others after seen object.uses) (uses_of later)
    sees : (v : Use) → is_used v seen ≡ is_used v (uses_of before)
    known : Each (KnownUse names) object.uses
    later-known : Each (Knows names) later

  nothing_left : {at : ℕ} → at < length words → (ws : List ℕ) → ws ≡ [] → drop at words ≡ ws → ⊥
  nothing_left {at} l ws e d = let a = length-drop at words in let b = ap length (d ∙ e) in omega (arith, a, b, l)

  no_words : (sizes : List ℕ) → all_words common sizes [] ≡ []
  unfolding all_words
  no_words [] = refl
  no_words (n ∷ ns) = refl

  next : {sites lowest : List ℕ} {at i count after : ℕ} → Going sites lowest at i count after → at < length words → Next sites lowest at i count after
  unfolding all_words uses_of Each
  next {sites} {lowest} {at} {i} {count} {after} g l = go g.left g.sizes g.as_many g.objects-are g.words_are g.same g.known
    where
      go : (left : List Object) (sizes : List ℕ) → length sizes ≡ length left → os ≡ g.before ++ left → drop at words ≡ all_words common sizes left
          → gather names others own [] (uses_of os) ≡ gather names others after g.seen (uses_of left) → Each (Knows names) left → Next sites lowest at i count after
      go [] sizes n e w s k = absurd (nothing_left l (all_words common sizes []) (no_words sizes) w)
      go (o ∷ later) [] n e w s k = absurd (omega (arith, n))
      go (o ∷ later) (m ∷ sizes) n e w s k = record {
        before = g.before;
        object = o;
        later = later;
        size = m;
        sizes = sizes;
        as_many = omega (arith, n);
        objects-are = e;
        words_are = w;
        number = g.number;
        seen = g.seen;
        held = g.held;
        same = s ∙ gather_append names others after g.seen o.uses (uses_of later);
        sees = g.sees;
        known = k.0;
        later-known = k.1;
      }

  module _ {text rows : List ℕ} {scope : Scope} (p : Program) (sec : Sections text rows scope.n p names) (o : scope.others ≡ others) {sites lowest : List ℕ} {at i first count : ℕ} (s : Spot) {t : Spot} {sites₁ lowest₁ : List ℕ}
      (g : Going sites lowest at i s.count s.own) (l : at < length words) (f : PairsFrom words at first) (c : count ≡ get_or words (at + 6) 0)
      (taken : PairsTaken text rows scope words sites lowest (moved_to s first count) sites₁ lowest₁ t) where
    abbrev x : Next sites lowest at i s.count s.own
    x = next g l

    given : Gives words sites₁ lowest₁ names own t (gather names others s.own x.seen x.object.uses)
    given =
        let k = all_words common x.sizes x.later in
        let d = f.rest common x.size x.object k x.words_are in
        let n = pair-count words at common x.size x.object k x.words_are in
        rw o at (taken.gives p names sec own x.seen x.held refl x.object.uses d.0 d.1 (sym (c ∙ n)) x.known)

    pub going_next : {next i₁ : ℕ} → t.fault ≡ 0 → ObjectEnds words at next → i₁ ≡ i + 1 → Going sites₁ lowest₁ next i₁ t.count t.own
    unfolding Gives behind Seen
    going_next {next} {i₁} z ends e = go (gather names others s.own x.seen x.object.uses) refl given
      where
        go : (h : Gathered) → gather names others s.own x.seen x.object.uses ≡ h → Gives words sites₁ lowest₁ names own t h → Going sites₁ lowest₁ next i₁ t.count t.own
        go (gathered after all) d v = record {
          before = x.before ++ (x.object ∷ []);
          left = x.later;
          sizes = x.sizes;
          as_many = x.as_many;
          objects-are = x.objects-are ∙ sym (append_assoc x.before (x.object ∷ []) x.later);
          words_are = ends.rest common x.size x.object (all_words common x.sizes x.later) x.words_are;
          number = let n = length-append x.before (x.object ∷ []) in let m = x.number in omega (arith, e, n, m);
          seen = all;
          held = v.1;
          same = x.same ∙ ap (λ (h : Gathered). behind names others h (uses_of x.later)) d ∙ ap (λ (n : ℕ). gather names others n all (uses_of x.later)) v.2;
          sees = λ w.
              let a : is_used w all ≡ (is_used w x.seen || is_used w x.object.uses) = (rw d at (seen_all names others s.own x.seen x.object.uses)) w in
              a ∙ ap (λ (b : Bool). b || is_used w x.object.uses) (x.sees w) ∙ sym (used-with w x.before x.object);
          known = x.later-known;
        }
        go (past u) d v = let q = v.0 in absurd (omega (arith, q, z))

    pub going-over : (r : Pairs) → (t.fault ≡ 0 → ⊥) → PastLimit words t i r → Tells words sites₁ lowest₁ names own (pairs_in os) r (past_made names others own os (pairs_in os))
    unfolding Gives behind Seen Tells Outcome
    going-over r z pl = go (gather names others s.own x.seen x.object.uses) refl given
      where
        go : (h : Gathered) → gather names others s.own x.seen x.object.uses ≡ h → Gives words sites₁ lowest₁ names own t h
            → Tells words sites₁ lowest₁ names own (pairs_in os) r (past_made names others own os (pairs_in os))
        go (gathered after all) d v = absurd (z v.0)
        go (past u) d v =
            let whole : gather names others own [] (uses_of os) ≡ past u = x.same ∙ ap (λ (h : Gathered). behind names others h (uses_of x.later)) d in
            let out : Outcome names others os own [] (pairs_in os) (past u) = rw whole at (gathers names others os own) in
            let sn : Seen names others x.seen x.object.uses (past u) = rw d at (seen_all names others s.own x.seen x.object.uses) in
            let tx : text_using u 1 os ≡ i = ap (text_using u 1) x.objects-are ∙ text-using u 1 x.before x.object x.later (sym (x.sees u) ∙ sn.0) sn.1 ∙ sym x.number in
            rw out (pl.fault, pl.text ∙ sym tx, (pl.sign u v.1).0, (pl.sign u v.1).1)

  pub going_end : {sites lowest : List ℕ} {at i count after : ℕ} (r : Pairs) → Going sites lowest at i count after → length words ≤ at → r.fault ≡ 0 → r.count ≡ count
      → Tells words sites lowest names own (pairs_in os) r (past_made names others own os (pairs_in os))
  unfolding Tells Outcome gather uses_of all_words object_words
  going_end {sites} {lowest} {at} {i} {count} {after} r g l z e = go g.left g.sizes g.as_many g.words_are g.same
    where
      empty : length (drop at words) ≡ 0
      empty = let a = length-drop at words in omega (arith, a, l)

      go : (left : List Object) (sizes : List ℕ) → length sizes ≡ length left → drop at words ≡ all_words common sizes left → gather names others own [] (uses_of os) ≡ gather names others after g.seen (uses_of left)
          → Tells words sites lowest names own (pairs_in os) r (past_made names others own os (pairs_in os))
      go [] sizes n w s =
          let out : Outcome names others os own [] (pairs_in os) (gathered after g.seen) = rw s at (gathers names others os own) in
          rw out.0 (z, (after, held_of (sym e) out.1 g.held))
      go (o ∷ later) [] n w s = absurd (omega (arith, n))
      go (o ∷ later) (m ∷ sizes) n w s = let a = ap length w in absurd (omega (arith, a, empty))
