-- Every rule of a part has a row.
use mathlib.Core.Bool.{Bool, true, false}
use mathlib.Core.List.{List, [], ◌∷◌, ◌++◌, append_assoc}
use mathlib.Core.Logic.{◌⊎◌, inl, inr}
use mathlib.Core.Option.{none, some}
use mathlib.Core.Path.{◌≡◌, refl, sym, ap, ◌∙◌}
use Prim.Native.Nat.{ℕ, suc}
use lib.ListN.{length}
use Rattle.acceptance.proofs.Shape.{Each}
use Rattle.base.proofs.Laws.{same_refl}
use Rattle.base.specs.Bools.{never, or}
use Rattle.std.specs.Prelude.{if◌then◌else◌}
use Rattle.base.specs.Common.{given, same}
use Rattle.declarations.proofs.Rows.{given-mapped}
use Rattle.declarations.specs.Decls.{Agrees, Decl, index_of}
use Rattle.names.specs.Known.{KnownRule, Names, find_rule}
use Rattle.names.specs.Understand.{is_one}
use Rattle.parts.proofs.Alike.{each_right}
use Rattle.parts.proofs.Numbers.{Finds, none-some}
use Rattle.parts.specs.Objects.{calls_all, mentions, fresh, names_of, others, by_list, by_calls, open_rules}
use Rattle.syntax.specs.Texts.{Head}
use Rattle.syntax.specs.Written.{Program, Rule}
use Rattle.words.specs.Words.{Word}

-- a rule of the name is found
abbrev FindsText : List KnownRule → List ℕ → Type 0
FindsText ks w = (k : KnownRule) × (find_rule w ks ≡ some k)

finds-cons : (x : KnownRule) (ks : List KnownRule) (w : List ℕ) → FindsText ks w → FindsText (x ∷ ks) w
unfolding find_rule
finds-cons x ks w h = go (same w x.named) refl
  where
    go : (t : Bool) → same w x.named ≡ t → FindsText (x ∷ ks) w
    go true d = (x, rw (find_rule, d))
    go false d = (h.0, rw (find_rule, d) h.1)

finds-left : (xs ks : List KnownRule) (w : List ℕ) → FindsText xs w → FindsText (xs ++ ks) w
unfolding find_rule
finds-left [] ks w h = none-some h.1
finds-left (x ∷ xs) ks w h = go (same w x.named) refl (finds-left xs ks w)
  where
    go : (t : Bool) → same w x.named ≡ t → (FindsText xs w → FindsText (xs ++ ks) w) → FindsText (x ∷ (xs ++ ks)) w
    go true d ih = (x, rw (find_rule, d))
    go false d ih = let y = ih (h.0, rw (find_rule, d) at h.1) in (y.0, rw (find_rule, d) y.1)

finds-right : (xs ks : List KnownRule) (w : List ℕ) → FindsText ks w → FindsText (xs ++ ks) w
finds-right [] ks w h = h
finds-right (x ∷ xs) ks w h = finds-cons x (xs ++ ks) w (finds-right xs ks w h)

-- what is seen is found
abbrev Covers : List (List ℕ) → List KnownRule → Type 0
Covers seen pre = (v : List ℕ) → is_one v seen ≡ true → FindsText pre v

covers_more : (w : List ℕ) (i : ℕ) (seen : List (List ℕ)) (pre : List KnownRule) → Covers seen pre → Covers (w ∷ seen) (pre ++ (record { named = w; place = i; gives = none } ∷ []))
unfolding is_one find_rule
covers_more w i seen pre h v e = go (or (same v w) (is_one v seen) e)
  where
    own : KnownRule
    own = record { named = w; place = i; gives = none }

    go : (same v w ≡ true) ⊎ (is_one v seen ≡ true) → FindsText (pre ++ (own ∷ [])) v
    go (inl d) = finds-right pre (own ∷ []) v (own, rw (find_rule, d))
    go (inr d) = finds-left pre (own ∷ []) v (h v d)

fresh-found : (i : ℕ) (seen : List (List ℕ)) (pre : List KnownRule) (ws : List Word) → Covers seen pre → Each (Finds (pre ++ by_calls i (fresh seen ws))) ws
unfolding fresh by_calls Each
fresh-found i seen pre [] h = tt
fresh-found i seen pre (w ∷ ws) h = go (is_one w.text seen) refl (fresh-found i seen pre ws h) (fresh-found (suc i) (w.text ∷ seen) (pre ++ (own ∷ [])) ws (covers_more w.text i seen pre h))
  where
    own : KnownRule
    own = record { named = w.text; place = i; gives = none }

    go : (t : Bool) → is_one w.text seen ≡ t → Each (Finds (pre ++ by_calls i (fresh seen ws))) ws → Each (Finds ((pre ++ (own ∷ [])) ++ by_calls (suc i) (fresh (w.text ∷ seen) ws))) ws
        → Each (Finds (pre ++ by_calls i (if t then fresh seen ws else w ∷ fresh (w.text ∷ seen) ws))) (w ∷ ws)
    go true d a b = (finds-left pre (by_calls i (fresh seen ws)) w.text (h w.text d), a)
    go false d a b =
        let more = by_calls (suc i) (fresh (w.text ∷ seen) ws) in
        (finds-right pre (own ∷ more) w.text (own, unfold find_rule in rw (same_refl w.text)), rw (append_assoc pre (own ∷ []) more) at b)

covers-names : (i : ℕ) (hs : List Head) → Covers (names_of hs) (by_list i hs)
unfolding names_of by_list is_one find_rule
covers-names i [] v e = never e
covers-names i (h ∷ hs) v e = go (or (same v h.rule.text) (is_one v (names_of hs)) e) (covers-names (suc i) hs v)
  where
    own : KnownRule
    own = record { named = h.rule.text; place = i; gives = some h.gives.text }

    go : (same v h.rule.text ≡ true) ⊎ (is_one v (names_of hs) ≡ true) → (is_one v (names_of hs) ≡ true → FindsText (by_list (suc i) hs) v) → FindsText (own ∷ by_list (suc i) hs) v
    go (inl d) ih = (own, rw (find_rule, d))
    go (inr d) ih = finds-cons own (by_list (suc i) hs) v (ih d)

-- its own names
owned : (P : Word → Type 0) (rs : List Rule) → Each P (mentions rs) → Each (λ r. P r.rule) rs
unfolding mentions Each
owned P [] h = tt
owned P (r ∷ rs) h = (h.0, owned P rs (each_right P (calls_all r.body) (mentions rs) h.1))

own-found : (hs : List Head) (rs : List Rule) → Each (λ r. Finds (open_rules hs rs) r.rule) rs
unfolding open_rules others
own-found hs rs = owned (Finds (open_rules hs rs)) rs (fresh-found (length hs) (names_of hs) (by_list 0 hs) (mentions rs) (covers-names 0 hs))

abbrev pub Rowed : List Decl → Rule → Type 0
Rowed ds r = given (index_of 7 r.rule.text 0 ds) ≡ true

rowed-all : {p : Program} {n : Names} {ks : List KnownRule} {ds : List Decl} → Agrees p n ks ds → (rs : List Rule) → Each (λ r. Finds ks r.rule) rs → Each (Rowed ds) rs
unfolding Each
rowed-all ag [] h = tt
rowed-all {ds = ds} ag (r ∷ rs) h =
    (sym (given-mapped _ (index_of 7 r.rule.text 0 ds)) ∙ ap given (sym (ag.rules r.rule.text) ∙ h.0.1), rowed-all ag rs h.1)

pub own-rows : {p : Program} {n : Names} {ds : List Decl} (hs : List Head) (rs : List Rule) → Agrees p n (open_rules hs rs) ds → Each (Rowed ds) rs
own-rows hs rs ag = rowed-all ag rs (own-found hs rs)
