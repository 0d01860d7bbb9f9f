-- What one pass over the uses gathers are the first uses of all pairs, up to the one whose rules pass a limit; and the text of that one.
use mathlib.Core.Bool.{Bool, true, false, ◌||◌, or_comm, or_assoc, or-false}
use mathlib.Core.List.{List, [], ◌∷◌, ◌++◌, append_assoc}
use mathlib.Core.Option.{none, some}
use mathlib.Core.Path.{◌≡◌, refl, sym, ap, subst, ◌∙◌}
use native.Mathlib.Omega.{arith}
use Prim.Native.Nat.{ℕ, suc, ◌+◌}
use lib.ListN.{length}
use Rattle.base.proofs.Laws.{neither}
use Rattle.base.specs.Bools.{or₁, or₂}
use Rattle.std.specs.Prelude.{if◌then◌else◌}
use Rattle.linkpairs.specs.Gather.{Gathered, gathered, past, gather}
use Rattle.names.specs.Known.{Names}
use Rattle.names.specs.Uses.{Use, same_pair, is_used, firsts, levels_used}
use Rattle.parts.specs.Link.{or◌else◌, found_if, uses_of, pairs_in, text_using, passes, past_made}
use Rattle.parts.specs.Objects.{Object}
use Rattle.precedence.proofs.Places as pair

pub used-append : (v : Use) (xs ys : List Use) → is_used v (xs ++ ys) ≡ (is_used v xs || is_used v ys)
unfolding is_used
used-append v [] ys = refl
used-append v (x ∷ xs) ys = rw (used-append v xs ys) (sym (or_assoc (same_pair v x) (is_used v xs) (is_used v ys)))

-- the same pairs, in whatever order
abbrev pub Same : List Use → List Use → Type 0
Same a b = (v : Use) → is_used v a ≡ is_used v b

same_more : (a b : List Use) (u : Use) → Same a b → Same (u ∷ a) (b ++ (u ∷ []))
unfolding is_used
same_more a b u h v = ap (λ (t : Bool). same_pair v u || t) (h v) ∙ (or_comm (same_pair v u) (is_used v b) ∙ (ap (λ (t : Bool). is_used v b || t) (sym (or-false (same_pair v u))) ∙ sym (used-append v b (u ∷ []))))

module _ (n : Names) (others : ℕ) where
  -- First uses

  unfoldable pub Outcome : List Object → ℕ → List Use → List Use → Gathered → Type 0
  Outcome os own seen us (gathered after all) = (past_made n others own os us ≡ none) × (all ≡ seen ++ us)
  Outcome os own seen us (past u) = past_made n others own os us ≡ some (record { text = text_using u 1 os; word = u.sign })

  outcome-more : (os : List Object) (own : ℕ) (seen : List Use) (u : Use) (us : List Use) → passes others own (levels_used n u) ≡ false
      → (g : Gathered) → Outcome os (own + length (levels_used n u)) (seen ++ (u ∷ [])) us g → Outcome os own seen (u ∷ us) g
  unfolding Outcome past_made found_if or◌else◌
  outcome-more os own seen u us e (gathered after all) h = (rw e h.0, h.1 ∙ append_assoc seen (u ∷ []) us)
  outcome-more os own seen u us e (past v) h = rw e h

  firsts-is : (sees : List Use) (u : Use) (us : List Use) (t : Bool) → is_used u sees ≡ t → firsts sees (u ∷ us) ≡ (if t then firsts sees us else u ∷ firsts (u ∷ sees) us)
  unfolding firsts
  firsts-is sees u us t e = ap (λ (b : Bool). if b then firsts sees us else u ∷ firsts (u ∷ sees) us) e

  outcome : (os : List Object) (own : ℕ) (sees seen us : List Use) → Same sees seen → Outcome os own seen (firsts sees us) (gather n others own seen us)
  unfolding Outcome gather firsts past_made found_if or◌else◌
  outcome os own sees seen [] h = (refl, rw (append-nil seen))
    where
      append-nil : (xs : List Use) → xs ++ [] ≡ xs
      append-nil [] = refl
      append-nil (x ∷ xs) = ap (λ (l : List Use). x ∷ l) (append-nil xs)
  outcome os own sees seen (u ∷ us) h =
      go (is_used u seen) refl (passes others own (levels_used n u)) refl (outcome os own sees seen us h) (outcome os (own + length (levels_used n u)) (u ∷ sees) (seen ++ (u ∷ [])) us (same_more sees seen u h))
    where
      go : (s : Bool) → is_used u seen ≡ s → (t : Bool) → passes others own (levels_used n u) ≡ t → Outcome os own seen (firsts sees us) (gather n others own seen us)
          → Outcome os (own + length (levels_used n u)) (seen ++ (u ∷ [])) (firsts (u ∷ sees) us) (gather n others (own + length (levels_used n u)) (seen ++ (u ∷ [])) us)
          → Outcome os own seen (firsts sees (u ∷ us)) (gather n others own seen (u ∷ us))
      go true d t e a b = subst (λ (x : List Use). Outcome os own seen x (gather n others own seen (u ∷ us))) (sym (firsts-is sees u us true (h u ∙ d))) (rw (gather, d) a)
      go false d true e a b = subst (λ (x : List Use). Outcome os own seen x (gather n others own seen (u ∷ us))) (sym (firsts-is sees u us false (h u ∙ d))) (rw (gather, d, e, Outcome, past_made, e) refl)
      go false d false e a b = subst (λ (x : List Use). Outcome os own seen x (gather n others own seen (u ∷ us))) (sym (firsts-is sees u us false (h u ∙ d))) (rw (gather, d, e) (outcome-more os own seen u (firsts (u ∷ sees) us) e (gather n others (own + length (levels_used n u)) (seen ++ (u ∷ [])) us) b))

  -- what is gathered of all objects
  pub gathers : (os : List Object) (own : ℕ) → Outcome os own [] (pairs_in os) (gather n others own [] (uses_of os))
  unfolding pairs_in
  gathers os own = outcome os own [] [] (uses_of os) (λ v. refl)

  -- One use after the other

  -- what is gathered behind g
  unfoldable pub behind : Gathered → List Use → Gathered
  behind (gathered own seen) us = gather n others own seen us
  behind (past u) us = past u

  pub gather-next : (own : ℕ) (seen : List Use) (u : Use) (us : List Use) → gather n others own seen (u ∷ us) ≡ behind (gather n others own seen (u ∷ [])) us
  unfolding gather behind
  gather-next own seen u us = go (is_used u seen) (passes others own (levels_used n u))
    where
      go : (s t : Bool) → (if s then gather n others own seen us else if t then past u else gather n others (own + length (levels_used n u)) (seen ++ (u ∷ [])) us)
          ≡ behind (if s then gathered own seen else if t then past u else gathered (own + length (levels_used n u)) (seen ++ (u ∷ []))) us
      go true t = refl
      go false true = refl
      go false false = refl

  behind-next : (g : Gathered) (u : Use) (us : List Use) → behind (behind g (u ∷ [])) us ≡ behind g (u ∷ us)
  unfolding behind
  behind-next (gathered own seen) u us = sym (gather-next own seen u us)
  behind-next (past v) u us = refl

  pub gather_append : (own : ℕ) (seen xs ys : List Use) → gather n others own seen (xs ++ ys) ≡ behind (gather n others own seen xs) ys
  unfolding behind gather
  gather_append own seen [] ys = refl
  gather_append own seen (x ∷ xs) ys = go (is_used x seen) (passes others own (levels_used n x)) (gather_append own seen xs ys) (gather_append (own + length (levels_used n x)) (seen ++ (x ∷ [])) xs ys)
    where
      go : (s t : Bool) → gather n others own seen (xs ++ ys) ≡ behind (gather n others own seen xs) ys
          → gather n others (own + length (levels_used n x)) (seen ++ (x ∷ [])) (xs ++ ys) ≡ behind (gather n others (own + length (levels_used n x)) (seen ++ (x ∷ [])) xs) ys
          → (if s then gather n others own seen (xs ++ ys) else if t then past x else gather n others (own + length (levels_used n x)) (seen ++ (x ∷ [])) (xs ++ ys))
          ≡ behind (if s then gather n others own seen xs else if t then past x else gather n others (own + length (levels_used n x)) (seen ++ (x ∷ [])) xs) ys
      go true t a b = a
      go false true a b = refl
      go false false a b = b

  -- What is seen

  -- all pairs of the uses; or a pair that was not seen, and is one of theirs
  unfoldable pub Seen : List Use → List Use → Gathered → Type 0
  Seen seen us (gathered after all) = (v : Use) → is_used v all ≡ (is_used v seen || is_used v us)
  Seen seen us (past u) = (is_used u seen ≡ false) × (is_used u us ≡ true)

  seen-again : (seen : List Use) (u : Use) (us : List Use) → is_used u seen ≡ true → (g : Gathered) → Seen seen us g → Seen seen (u ∷ us) g
  unfolding Seen is_used
  seen-again seen u us d (gathered after all) h = λ v. h v ∙ go v (same_pair v u) refl
    where
      go : (v : Use) (t : Bool) → same_pair v u ≡ t → (is_used v seen || is_used v us) ≡ (is_used v seen || (t || is_used v us))
      go v true e = let x = pair.used-alike v u seen (pair.alike v u e) d in rw x
      go v false e = refl
  seen-again seen u us d (past w) h = (h.0, or₂ (same_pair w u) (is_used w us) h.1)

  seen_more : (seen : List Use) (u : Use) (us : List Use) → (g : Gathered) → Seen (seen ++ (u ∷ [])) us g → Seen seen (u ∷ us) g
  unfolding Seen is_used
  seen_more seen u us (gathered after all) h = λ v.
      h v ∙ (ap (λ (t : Bool). t || is_used v us) (used-append v seen (u ∷ [])) ∙ (ap (λ (t : Bool). (is_used v seen || t) || is_used v us) (or-false (same_pair v u)) ∙ or_assoc (is_used v seen) (same_pair v u) (is_used v us)))
  seen_more seen u us (past w) h = ((neither (is_used w seen) (is_used w (u ∷ [])) (sym (used-append w seen (u ∷ [])) ∙ h.0)).0, or₂ (same_pair w u) (is_used w us) h.1)

  pub seen_all : (own : ℕ) (seen us : List Use) → Seen seen us (gather n others own seen us)
  unfolding Seen gather is_used
  seen_all own seen [] = λ v. sym (or-false (is_used v seen))
  seen_all own seen (u ∷ us) = go (is_used u seen) refl (passes others own (levels_used n u)) (seen_all own seen us) (seen_all (own + length (levels_used n u)) (seen ++ (u ∷ [])) us)
    where
      go : (s : Bool) → is_used u seen ≡ s → (t : Bool) → Seen seen us (gather n others own seen us)
          → Seen (seen ++ (u ∷ [])) us (gather n others (own + length (levels_used n u)) (seen ++ (u ∷ [])) us)
          → Seen seen (u ∷ us) (if s then gather n others own seen us else if t then past u else gather n others (own + length (levels_used n u)) (seen ++ (u ∷ [])) us)
      go true d t a b = seen-again seen u us d (gather n others own seen us) a
      go false d true a b = (d, or₁ (same_pair u u) (is_used u us) (pair.pair-refl u))
      go false d false a b = seen_more seen u us (gather n others (own + length (levels_used n u)) (seen ++ (u ∷ [])) us) b

-- Objects

pub uses-append : (as' os : List Object) → uses_of (as' ++ os) ≡ uses_of as' ++ uses_of os
unfolding uses_of
uses-append [] os = refl
uses-append (a ∷ as') os = rw (uses-append as' os) (sym (append_assoc a.uses (uses_of as') (uses_of os)))

-- the text of a pair that no object before uses
pub text-using : (u : Use) (i : ℕ) (before : List Object) (o : Object) (os : List Object) → is_used u (uses_of before) ≡ false → is_used u o.uses ≡ true → text_using u i (before ++ (o ∷ os)) ≡ i + length before
unfolding text_using uses_of
text-using u i [] o os e h = rw h (omega arith)
text-using u i (b ∷ before) o os e h =
    let x = neither (is_used u b.uses) (is_used u (uses_of before)) (sym (used-append u b.uses (uses_of before)) ∙ e) in
    rw x.0 (text-using u (suc i) before o os x.1 h ∙ omega arith)
