-- From one text to the object.
use mathlib.Core.List.{List, [], ◌∷◌, ◌++◌}
use mathlib.Core.Path.{◌≡◌, ap}
use Prim.Native.Nat.{ℕ, ◌+◌, ◌-◌, ◌<◌}
use native.Mathlib.Omega.{arith}
use lib.ListN.{length, take, drop, replicate, length-append, length-drop, length-take, length-replicate}
use Rattle.grammar.specs.Derived.{RulesIn, last_rule, more_rules}
use Rattle.names.specs.Understand.{is_one}
use Rattle.partnames.proofs.Together.{rules-length}
use Rattle.partpairs.specs.Pairing.{PairsDone}
use Rattle.parts.specs.Objects.{mentions, fresh, names_of, others}
use Rattle.separate.proofs.Contexts.{known_behind, collected}
use Rattle.separate.proofs.Rows.{Front, in-front, kept-front, known-front}
use Rattle.separate.specs.Objects.{Writes, not_written, WritesObject, TranslatesIn}
use Rattle.separate.specs.Steps.{StandsIn, translated_in, Known, Finds, names_found, names_faulty, FindsNames}
use Rattle.separate.specs.declared.Fault.{Fault}
use Rattle.separate.specs.declared.Named.{Named}
use Rattle.std.specs.Prelude.{Result, Ok, Err}
use Rattle.separate.specs.declared.Plan.{Plan}
use Rattle.separate.specs.declared.Written.{Written}
use Rattle.symbols.specs.Index.{Kept}
use Rattle.syntax.specs.Texts.{Head}
use Rattle.syntax.specs.Written.{Rule}
use Rattle.words.specs.Words.{Word}

-- Rows

pub front_long : {e : List ℕ} → e ≡ take 6017 (replicate {A = ℕ} 30209 0) → length e ≡ 6017
front_long e = omega (arith, ap length e, length-take 6017 (replicate {A = ℕ} 30209 0), length-replicate {A = ℕ} 30209 0)

pub rows_long : (e : List ℕ) → length e ≡ 6017 → length (e ++ drop 6017 (replicate {A = ℕ} 30209 0)) ≡ 30209
rows_long e h = omega (arith, h, length-append e (drop 6017 (replicate {A = ℕ} 30209 0)), length-drop 6017 (replicate {A = ℕ} 30209 0), length-replicate {A = ℕ} 30209 0)

-- what find_names left stands in front of the longer rows
abbrev behind : List ℕ
behind = drop 6017 (replicate {A = ℕ} 30209 0)

pub front_of : {text rows e : List ℕ} {moved : ℕ} {f : Result Named Fault} → FindsNames text rows e moved f → length rows ≡ 6017 → Front e (e ++ behind)
front_of {e = e} n h = in-front e behind (omega (arith, n.size, h))

pub kept_of : {text rows e : List ℕ} {moved : ℕ} {f : Named} → FindsNames text rows e moved (Ok f) → length rows ≡ 6017 → Kept text (e ++ behind) f.count
kept_of n h = kept-front (front_of n h) n.kept

pub rows_of : {text rows e : List ℕ} {moved : ℕ} {f : Result Named Fault} → FindsNames text rows e moved f → length rows ≡ 6017 → length (e ++ behind) ≡ 30209
rows_of {e = e} n h = rows_long e (omega (arith, n.size, h))

-- Some rule is named

some-name : (hs : List Head) {ws ws' : List Word} {rs : List Rule} → RulesIn ws ws' rs → 0 < length hs + length (others hs rs)
unfolding others names_of mentions fresh is_one
some-name [] (last_rule x m) = omega arith
some-name [] (more_rules x m q) = omega arith
some-name (h ∷ hs) q = omega arith

-- what is found, as a result tells it
same_found : {f g : Named} → ◌≡◌ {A = Result Named Fault} (Ok f) (Ok g) → g ≡ f
same_found e = cc

same_fault : {f g : Fault} → ◌≡◌ {A = Result Named Fault} (Err f) (Err g) → g ≡ f
same_fault e = cc

not_both : {f : Named} {g : Fault} → ◌≡◌ {A = Result Named Fault} (Ok f) (Err g) → ⊥
not_both e = cc

not_either : {f : Fault} {g : Named} → ◌≡◌ {A = Result Named Fault} (Err f) (Ok g) → ⊥
not_either e = cc

pub some_rule : {text rows rows' : List ℕ} {at moved : ℕ} {f : Named} → FindsNames text rows rows' moved (Ok f) → StandsIn text at → 0 < f.count - f.first
some_rule {text} {rows} {rows'} {at} {moved} {f} n s = go (n.finds s)
  where
    go : Finds text rows' moved (Ok f) s → 0 < f.count - f.first
    go (names_found names {x = x} e m k q) = let i : x ≡ f = same_found e in rw (← i) (omega (arith, k.own_is, rules-length s.shared s.rules, some-name s.shared.listed s.rules_in))
    go (names_faulty e x y) = absurd (not_both e)

-- A fault of the names

pub translates-fault : {common lent text rows rows' : List ℕ} {size at moved : ℕ} {f : Fault} {w : Written} → FindsNames text rows rows' moved (Err f) → w.fault ≡ f
    → TranslatesIn common size text at moved lent w
translates-fault {common} {lent} {text} {rows} {rows'} {size} {at} {moved} {f} {w} n e s o = go (n.finds s)
  where
    go : Finds text rows' moved (Err f) s → Writes common size lent w (translated_in moved s)
    go (names_found names x m k q) = absurd (not_either x)
    go (names_faulty {f = g} i x y) = let j : g ≡ f = same_fault i in not_written {t = translated_in moved s} (rw (e, ← j) x) (rw (e, ← j) y)

-- The rest

pub translates : {common lent text rows e rows₂ rows₃ signs signs' : List ℕ} (p : Plan) {f : Named} {w : Written} → FindsNames text rows e p.moved (Ok f) → Front e rows₂
    → p.count ≡ f.count → p.rules ≡ f.count - f.first → PairsDone text rows₂ signs p.count p.rules p.at rows₃ signs' p.pairs → WritesObject common text rows₃ signs' p lent w
    → TranslatesIn common p.size text p.at p.moved lent w
translates {common} {lent} {text} {rows} {e} {rows₂} {rows₃} {signs} {signs'} p {f} {w} n g a b d x s o = go (n.finds s)
  where
    go : Finds text e p.moved (Ok f) s → Writes common p.size lent w (translated_in p.moved s)
    go (names_faulty i y r) = absurd (not_both i)
    go (names_found names {x = v} i m k q) =
        let j : v ≡ f = same_found i in
        let k₂ : Known text rows₂ p.count p.rules s.shared s.rules names = rw (a, b) (known-front g (rw j at k)) in
        let k₃ = known_behind d.index k₂ in
        rw q (x.writes s o names m q k₃ (λ os h. collected k₂ d s.rules_in s.ends h))
