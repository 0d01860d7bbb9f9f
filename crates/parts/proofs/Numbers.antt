-- The numbers of a part's calls: what each stands for.
use mathlib.Core.Bool.{Bool, true, false}
use mathlib.Core.List.{List, [], ◌∷◌, ◌++◌, append_assoc}
use mathlib.Core.Logic.{◌⊎◌, inl, inr}
use mathlib.Core.Option.{none, some}
use mathlib.Core.Path.{◌≡◌, refl, sym, ap, ◌∙◌}
use Prim.Native.Nat.{ℕ, suc, ◌+◌, ◌<◌, ◌≤◌}
use native.Mathlib.Omega.{arith}
use lib.ListN.{length, get_or, length-append}
use Rattle.acceptance.proofs.NamesOk.{each_append}
use Rattle.acceptance.proofs.Shape.{Each}
use Rattle.acceptance.proofs.Used.{UseOk}
use Rattle.base.proofs.Laws.{same_refl, same-eq}
use Rattle.base.specs.Bools.{never, or}
use Rattle.std.specs.Prelude.{if◌then◌else◌}
use Rattle.base.specs.Common.{same}
use Rattle.names.specs.Known.{KnownRule, Names, find_operators, find_rule}
use Rattle.names.specs.Understand.{is_one}
use Rattle.names.specs.Uses.{Use, same_pair, is_used, pairs_of, levels_used, lowest_of}
use Rattle.parts.proofs.Alike.{OneEach, nowhere, there, one_each_lem, each_left, each_right}
use Rattle.parts.specs.Link.{listed_type}
use Rattle.parts.specs.Objects.{calls_all, calls_in, mentions, Aim, named, ranked, head_aims, use_aims, call_aims, fresh, names_of, others, aims_of, by_list, by_calls, open_rules, open_names}
use Rattle.precedence.proofs.Places as pair
use Rattle.program.specs.Made.{Level}
use Rattle.syntax.specs.Texts.{Head}
use Rattle.syntax.specs.Written as written
use Rattle.words.specs.Words.{Word}

pub some_inj : {A : Type 0} {a b : A} → some a ≡ some b → a ≡ b
some_inj e = cc

pub none-some {ℓ} : {A : Type 0} {B : Type ℓ} {a : A} → none ≡ some a → B
none-some e = let z : ◌≡◌ {A = ℕ} 0 1 = cc in absurd (omega arith)

abbrev pub nothing : Aim
nothing = named []

at_length : (pre post : List Aim) (a : Aim) → get_or (pre ++ (a ∷ post)) (length pre) nothing ≡ a
at_length [] post a = refl
at_length (x ∷ pre) post a = at_length pre post a

-- Names

-- numbered from i on, each standing for its name
data Numbers : ℕ → List KnownRule → List Aim → Type 0 where
  numbers-nil : {i : ℕ} → Numbers i [] []
  numbers-cons : {i : ℕ} {k : KnownRule} {a : Aim} {ks : List KnownRule} {as₁ : List Aim} → k.place ≡ i → a ≡ named k.named → Numbers (suc i) ks as₁ → Numbers i (k ∷ ks) (a ∷ as₁)

list-numbers : (i : ℕ) (hs : List Head) → Numbers i (by_list i hs) (head_aims hs)
unfolding by_list head_aims
list-numbers i [] = numbers-nil
list-numbers i (h ∷ hs) = numbers-cons refl refl (list-numbers (suc i) hs)

calls-numbers : (i : ℕ) (ws : List Word) → Numbers i (by_calls i ws) (call_aims ws)
unfolding by_calls call_aims
calls-numbers i [] = numbers-nil
calls-numbers i (w ∷ ws) = numbers-cons refl refl (calls-numbers (suc i) ws)

abbrev pub AimedIn : List Aim → KnownRule → Type 0
AimedIn aims k = get_or aims k.place nothing ≡ named k.named

aimed : {i : ℕ} {ks : List KnownRule} {as₁ : List Aim} → Numbers i ks as₁ → (pre post : List Aim) → length pre ≡ i → Each (AimedIn (pre ++ (as₁ ++ post))) ks
unfolding Each
aimed numbers-nil pre post e = tt
aimed (numbers-cons {k = k} {a = a} {ks = ks} {as₁ = as₁} d f h) pre post e =
    let x : k.place ≡ length pre = d ∙ sym e in
    let y : get_or (pre ++ (a ∷ (as₁ ++ post))) k.place nothing ≡ named k.named =
    ap (λ (j : ℕ). get_or (pre ++ (a ∷ (as₁ ++ post))) j nothing) x ∙ at_length pre (as₁ ++ post) a ∙ f in
    let l = length-append pre (a ∷ []) in
    let more = aimed h (pre ++ (a ∷ [])) post (omega (arith, l, e)) in
    (y, rw (append_assoc pre (a ∷ []) (as₁ ++ post)) at more)

head-length : (hs : List Head) → length (head_aims hs) ≡ length hs
unfolding head_aims
head-length [] = refl
head-length (h ∷ hs) = ap suc (head-length hs)

call_length : (ws : List Word) → length (call_aims ws) ≡ length ws
unfolding call_aims
call_length [] = refl
call_length (w ∷ ws) = ap suc (call_length ws)

open-aimed : (hs : List Head) (rs : List written.Rule) → Each (AimedIn (aims_of hs rs)) (open_rules hs rs)
unfolding aims_of open_rules
open-aimed hs rs =
    let A = head_aims hs in
    let B = call_aims (others hs rs) in
    let C = use_aims (pairs_of rs) in
    let x = aimed (list-numbers 0 hs) [] (B ++ C) refl in
    let y = aimed (calls-numbers (length hs) (others hs rs)) A C (head-length hs) in
    each_append (AimedIn (A ++ (B ++ C))) (by_list 0 hs) _ x y

-- what a name finds has what each has
pub found-each : (P : KnownRule → Type 0) (w : List ℕ) (ks : List KnownRule) (k : KnownRule) → find_rule w ks ≡ some k → Each P ks → P k × (k.named ≡ w)
unfolding find_rule Each
found-each P w [] k e h = none-some e
found-each P w (x ∷ ks) k e h = go (same w x.named) refl (found-each P w ks k)
  where
    go : (t : Bool) → same w x.named ≡ t → (find_rule w ks ≡ some k → Each P ks → P k × (k.named ≡ w)) → P k × (k.named ≡ w)
    go true d ih =
        let y : x ≡ k = some_inj (rw (find_rule, d) at e) in
        (rw y at h.0, ap (λ (z : KnownRule). z.named) (sym y) ∙ sym (same-eq w x.named d))
    go false d ih = ih (rw (find_rule, d) at e) h.1

-- the sort of a name is the list's
abbrev Procedure : KnownRule → Type 0
Procedure k = k.gives ≡ none

calls-none : (i : ℕ) (ws : List Word) → Each Procedure (by_calls i ws)
unfolding by_calls Each
calls-none i [] = tt
calls-none i (w ∷ ws) = (refl, calls-none (suc i) ws)

gives-in : (i : ℕ) (hs : List Head) (more : List KnownRule) → Each Procedure more → (w : List ℕ) (k : KnownRule) → find_rule w (by_list i hs ++ more) ≡ some k → k.gives ≡ listed_type w hs
unfolding by_list listed_type find_rule
gives-in i [] more h w k e = (found-each Procedure w more k e h).0
gives-in i (g ∷ hs) more h w k e = go (same w g.rule.text) refl (gives-in (suc i) hs more h w k)
  where
    own : KnownRule
    own = record { named = g.rule.text; place = i; gives = some g.gives.text }

    go : (t : Bool) → same w g.rule.text ≡ t → (find_rule w (by_list (suc i) hs ++ more) ≡ some k → k.gives ≡ listed_type w hs) → k.gives ≡ listed_type w (g ∷ hs)
    go true d ih = let y : own ≡ k = some_inj (rw (find_rule, d) at e) in rw (listed_type, d) (ap (λ (z : KnownRule). z.gives) (sym y))
    go false d ih = rw (listed_type, d) (ih (rw (find_rule, d) at e))

-- what is known of a name that is called
pub record OpenCall (hs : List Head) (rs : List written.Rule) (w : List ℕ) (k : KnownRule) : Type 0 where
  pub aim : get_or (aims_of hs rs) k.place nothing ≡ named w
  pub gives : k.gives ≡ listed_type w hs

pub open-call : (hs : List Head) (rs : List written.Rule) (w : List ℕ) (k : KnownRule) → find_rule w (open_rules hs rs) ≡ some k → OpenCall hs rs w k
unfolding open_rules
open-call hs rs w k e =
    let x = found-each (AimedIn (aims_of hs rs)) w (open_rules hs rs) k e (open-aimed hs rs) in
    record { aim = x.0 ∙ ap named x.1; gives = gives-in 0 hs _ (calls-none (length hs) (others hs rs)) w k e }

-- every call's name is there
abbrev pub Finds : List KnownRule → Word → Type 0
Finds ks w = (k : KnownRule) × (find_rule w.text ks ≡ some k)

pub each_map : {A : Type 0} (P Q : A → Type 0) (xs : List A) → ((x : A) → P x → Q x) → Each P xs → Each Q xs
unfolding Each
each_map P Q [] f h = tt
each_map P Q (x ∷ xs) f h = (f x h.0, each_map P Q xs f h.1)

-- the same for the bytes of a name
abbrev FindsText : List KnownRule → List ℕ → Type 0
FindsText ks w = (k : KnownRule) × (find_rule w ks ≡ some k)

finds-cons : (x : KnownRule) (ks : List KnownRule) (w : List ℕ) → FindsText ks w → FindsText (x ∷ ks) w
unfolding find_rule
finds-cons x ks w h = go (same w x.named) refl
  where
    go : (t : Bool) → same w x.named ≡ t → FindsText (x ∷ ks) w
    go true d = (x, rw (find_rule, d))
    go false d = (h.0, rw (find_rule, d) h.1)

finds-left : (xs ks : List KnownRule) (w : List ℕ) → FindsText xs w → FindsText (xs ++ ks) w
unfolding find_rule
finds-left [] ks w h = none-some h.1
finds-left (x ∷ xs) ks w h = go (same w x.named) refl (finds-left xs ks w)
  where
    go : (t : Bool) → same w x.named ≡ t → (FindsText xs w → FindsText (xs ++ ks) w) → FindsText (x ∷ (xs ++ ks)) w
    go true d ih = (x, rw (find_rule, d))
    go false d ih = let y = ih (h.0, rw (find_rule, d) at h.1) in (y.0, rw (find_rule, d) y.1)

finds-right : (xs ks : List KnownRule) (w : List ℕ) → FindsText ks w → FindsText (xs ++ ks) w
finds-right [] ks w h = h
finds-right (x ∷ xs) ks w h = finds-cons x (xs ++ ks) w (finds-right xs ks w h)

-- what is seen is found
abbrev Covers : List (List ℕ) → List KnownRule → Type 0
Covers seen pre = (v : List ℕ) → is_one v seen ≡ true → FindsText pre v

covers_more : (w : List ℕ) (i : ℕ) (seen : List (List ℕ)) (pre : List KnownRule) → Covers seen pre → Covers (w ∷ seen) (pre ++ (record { named = w; place = i; gives = none } ∷ []))
unfolding is_one find_rule
covers_more w i seen pre h v e = go (or (same v w) (is_one v seen) e)
  where
    own : KnownRule
    own = record { named = w; place = i; gives = none }

    go : (same v w ≡ true) ⊎ (is_one v seen ≡ true) → FindsText (pre ++ (own ∷ [])) v
    go (inl d) = finds-right pre (own ∷ []) v (own, rw (find_rule, d))
    go (inr d) = finds-left pre (own ∷ []) v (h v d)

fresh-found : (i : ℕ) (seen : List (List ℕ)) (pre : List KnownRule) (ws : List Word) → Covers seen pre → Each (Finds (pre ++ by_calls i (fresh seen ws))) ws
unfolding fresh by_calls Each
fresh-found i seen pre [] h = tt
fresh-found i seen pre (w ∷ ws) h = go (is_one w.text seen) refl (fresh-found i seen pre ws h) (fresh-found (suc i) (w.text ∷ seen) (pre ++ (own ∷ [])) ws (covers_more w.text i seen pre h))
  where
    own : KnownRule
    own = record { named = w.text; place = i; gives = none }

    go : (t : Bool) → is_one w.text seen ≡ t → Each (Finds (pre ++ by_calls i (fresh seen ws))) ws → Each (Finds ((pre ++ (own ∷ [])) ++ by_calls (suc i) (fresh (w.text ∷ seen) ws))) ws
        → Each (Finds (pre ++ by_calls i (if t then fresh seen ws else w ∷ fresh (w.text ∷ seen) ws))) (w ∷ ws)
    go true d a b = (finds-left pre (by_calls i (fresh seen ws)) w.text (h w.text d), a)
    go false d a b =
        let more = by_calls (suc i) (fresh (w.text ∷ seen) ws) in
        (finds-right pre (own ∷ more) w.text (own, unfold find_rule in rw (same_refl w.text)), rw (append_assoc pre (own ∷ []) more) at b)

covers-names : (i : ℕ) (hs : List Head) → Covers (names_of hs) (by_list i hs)
unfolding names_of by_list is_one find_rule
covers-names i [] v e = never e
covers-names i (h ∷ hs) v e = go (or (same v h.rule.text) (is_one v (names_of hs)) e) (covers-names (suc i) hs v)
  where
    own : KnownRule
    own = record { named = h.rule.text; place = i; gives = some h.gives.text }

    go : (same v h.rule.text ≡ true) ⊎ (is_one v (names_of hs) ≡ true) → (is_one v (names_of hs) ≡ true → FindsText (by_list (suc i) hs) v) → FindsText (own ∷ by_list (suc i) hs) v
    go (inl d) ih = (own, rw (find_rule, d))
    go (inr d) ih = finds-cons own (by_list (suc i) hs) v (ih d)

-- what every name of a part has, every call has
mentioned : (P : Word → Type 0) (rs : List written.Rule) → Each P (mentions rs) → Each P (calls_in rs)
unfolding mentions calls_in Each
mentioned P [] h = tt
mentioned P (r ∷ rs) h =
    let own = calls_all r.body in
    each_append P own (calls_in rs) (each_left P own (mentions rs) h.1) (mentioned P rs (each_right P own (mentions rs) h.1))

pub open-found : (hs : List Head) (rs : List written.Rule) → Each (Finds (open_rules hs rs)) (calls_in rs)
unfolding open_rules others
open-found hs rs = mentioned (Finds (open_rules hs rs)) rs (fresh-found (length hs) (names_of hs) (by_list 0 hs) (mentions rs) (covers-names 0 hs))

-- Pairs

-- two uses of one pair

twin-pair : (u v : Use) → pair.Alike u v → (x : Use) → same_pair u x ≡ same_pair v x
unfolding same_pair
twin-pair u v h x = rw (h.section, h.operand)

pub lowest-twin : (n : Names) (u v : Use) → pair.Alike u v → (own : ℕ) (us : List Use) → lowest_of n u own us ≡ lowest_of n v own us
unfolding lowest_of
lowest-twin n u v h own [] = refl
lowest-twin n u v h own (x ∷ us) = rw (twin-pair u v h x, lowest-twin n u v h (own + length (levels_used n x)) us)

-- the section is there: in a part it has one open rule
abbrev pub Sectioned : Names → Use → Type 0
Sectioned n u = length (levels_used (open_names n) u) ≡ 1

sectioned : (n : Names) (u : Use) (ls : List Level) → find_operators u.section.text n.operators ≡ some ls → Sectioned n u
unfolding levels_used open_names
sectioned n u ls e = go (one_each_lem u.section.text n.operators)
  where
    go : OneEach u.section.text n.operators → Sectioned n u
    go (nowhere a b) = none-some (sym b ∙ e)
    go (there ls₁ ls₂ a l b) = rw (levels_used, a) l

sectioned-open : (n : Names) (u : Use) (ls : List Level) → find_operators u.section.text (open_names n).operators ≡ some ls → Sectioned n u
unfolding levels_used open_names
sectioned-open n u ls e = go (one_each_lem u.section.text n.operators)
  where
    go : OneEach u.section.text n.operators → Sectioned n u
    go (nowhere a b) = none-some (sym a ∙ e)
    go (there ls₁ ls₂ a l b) = rw (levels_used, a) l

pub use-sectioned : (n : Names) (ks : List KnownRule) (u : Use) → UseOk n ks u → Sectioned n u
use-sectioned n ks u h = sectioned n u h.levels h.section

pub use-open : (n : Names) (ks : List KnownRule) (u : Use) → UseOk (open_names n) ks u → Sectioned n u
use-open n ks u h = sectioned-open n u h.levels h.section

pub record OpenUse (u : Use) (aims : List Aim) (i : ℕ) : Type 0 where
  pub twin : Use
  pub same-pair : same_pair u twin ≡ true
  pub aim : get_or aims i nothing ≡ ranked twin

lowest-open : (n : Names) (u : Use) (own : ℕ) (us : List Use) → Each (Sectioned n) us → is_used u us ≡ true → (pre : List Aim) → length pre ≡ own
    → OpenUse u (pre ++ use_aims us) (lowest_of (open_names n) u own us)
unfolding is_used use_aims lowest_of Each
lowest-open n u own [] h e pre l = never e
lowest-open n u own (v ∷ us) h e pre l = go (same_pair u v) refl (lowest-open n u (own + length (levels_used (open_names n) v)) us h.1)
  where
    go : (t : Bool) → same_pair u v ≡ t
        → (is_used u us ≡ true → (pre : List Aim) → length pre ≡ own + length (levels_used (open_names n) v) → OpenUse u (pre ++ use_aims us) (lowest_of (open_names n) u (own + length (levels_used (open_names n) v)) us))
        → OpenUse u (pre ++ (ranked v ∷ use_aims us)) (if t then own else lowest_of (open_names n) u (own + length (levels_used (open_names n) v)) us)
    go true d ih = record { twin = v; same-pair = d; aim = ap (λ (j : ℕ). get_or (pre ++ (ranked v ∷ use_aims us)) j nothing) (sym l) ∙ at_length pre (use_aims us) (ranked v) }
    go false d ih =
        let f : is_used u us ≡ true = rw d at e in
        let k = length-append pre (ranked v ∷ []) in
        let x = ih f (pre ++ (ranked v ∷ [])) (omega (arith, k, l, h.0)) in
        rw (append_assoc pre (ranked v ∷ []) (use_aims us)) at x

-- the number of a pair that a part uses stands for that pair
pub use-aim : (hs : List Head) (rs : List written.Rule) (n : Names) (u : Use) → Each (Sectioned n) (pairs_of rs) → is_used u (pairs_of rs) ≡ true
    → OpenUse u (aims_of hs rs) (lowest_of (open_names n) u (length hs + length (others hs rs)) (pairs_of rs))
unfolding aims_of
use-aim hs rs n u h e =
    let A = head_aims hs in
    let B = call_aims (others hs rs) in
    let l = length-append A B in
    let la = head-length hs in
    let lb = call_length (others hs rs) in
    let x = lowest-open n u (length hs + length (others hs rs)) (pairs_of rs) h e (A ++ B) (omega (arith, l, la, lb)) in
    rw (append_assoc A B (use_aims (pairs_of rs))) at x

pub open-use : (hs : List Head) (rs : List written.Rule) (n : Names) (u : Use) → Each (Sectioned n) (pairs_of rs) → is_used u (pairs_of rs) ≡ true
    → (us : List Use) (own : ℕ) (f : Aim → ℕ) → ((v : Use) → f (ranked v) ≡ lowest_of n v own us)
    → lowest_of n u own us ≡ f (get_or (aims_of hs rs) (lowest_of (open_names n) u (length hs + length (others hs rs)) (pairs_of rs)) nothing)
open-use hs rs n u h e us own f g =
    let x = use-aim hs rs n u h e in
    lowest-twin n u x.twin (pair.alike u x.twin x.same-pair) own us ∙ sym (ap f x.aim ∙ g x.twin)

-- the numbers are below that of the aims
below : {i : ℕ} {ks : List KnownRule} {as₁ : List Aim} → Numbers i ks as₁ → (m : ℕ) → i + length as₁ ≤ m → Each (λ k. k.place < m) ks
unfolding Each
below numbers-nil m l = tt
below (numbers-cons d f h) m l = (omega (arith, d, l), below h m (omega (arith, l)))

pub open-below : (hs : List Head) (rs : List written.Rule) → Each (λ k. k.place < length (aims_of hs rs)) (open_rules hs rs)
unfolding aims_of open_rules
open-below hs rs =
    let A = head_aims hs in
    let B = call_aims (others hs rs) in
    let C = use_aims (pairs_of rs) in
    let a = length-append A (B ++ C) in
    let b = length-append B C in
    let la = head-length hs in
    let m = length (A ++ (B ++ C)) in
    let P : KnownRule → Type 0 = λ k. k.place < m in
    each_append P (by_list 0 hs) _ (below (list-numbers 0 hs) m (omega (arith, a))) (below (calls-numbers (length hs) (others hs rs)) m (omega (arith, a, b, la)))
