-- Rows that stand in front of longer ones.
use mathlib.Core.List.{List, [], ◌∷◌, ◌++◌}
use mathlib.Core.Path.{◌≡◌, refl, sym, ap, ◌∙◌}
use Prim.Native.Nat.{ℕ, zero, suc, ◌+◌, ◌*◌, ◌<◌, ◌≤◌}
use native.Mathlib.Omega.{arith}
use lib.ListN.{length, get_or}
use Rattle.declarations.specs.Decls.{Decl}
use Rattle.names.specs.Known.{Names}
use Rattle.separate.specs.Steps.{Known}
use Rattle.symbols.specs.Index.{key_of, link_at, Chain, chain_end, chain_node, Kept}
use Rattle.symbols.specs.Rows.{decl_at, held_from, held}
use Rattle.syntax.specs.Texts.{Common}
use Rattle.syntax.specs.Written.{Rule}

-- the numbers of the rows and of their index are the same
pub record Front (old new : List ℕ) : Type 0 where
  pub same : (j : ℕ) → j < 5632 → get_or new j 0 ≡ get_or old j 0

get_d_front : (xs ys : List ℕ) (j : ℕ) → j < length xs → get_or (xs ++ ys) j 0 ≡ get_or xs j 0
get_d_front [] ys j h = absurd (omega arith)
get_d_front (x ∷ xs) ys zero h = refl
get_d_front (x ∷ xs) ys (suc j) h = get_d_front xs ys j (omega arith)

pub in-front : (xs ys : List ℕ) → 5632 ≤ length xs → Front xs (xs ++ ys)
in-front xs ys h = record { same = λ j l. get_d_front xs ys j (omega (arith, l)) }

decl-front : {old new : List ℕ} (text : List ℕ) (i : ℕ) → Front old new → i < 512 → decl_at text new i ≡ decl_at text old i
unfolding decl_at
decl-front text i f l =
    rw (
      f.same (8 * i) (omega (arith, l)),
      f.same (8 * i + 1) (omega (arith, l)),
      f.same (8 * i + 2) (omega (arith, l)),
      f.same (8 * i + 3) (omega (arith, l)),
      f.same (8 * i + 4) (omega (arith, l)),
      f.same (8 * i + 5) (omega (arith, l)),
      f.same (8 * i + 6) (omega (arith, l)),
      f.same (8 * i + 7) (omega (arith, l)),
    ) refl

held-from-front : {old new : List ℕ} (text : List ℕ) (i n : ℕ) → Front old new → i + n ≤ 512 → held_from text new i n ≡ held_from text old i n
unfolding held_from
held-from-front text i zero f l = refl
held-from-front text i (suc n) f l = rw (decl-front text i f (omega (arith, l)), held-from-front text (suc i) n f (omega (arith, l))) refl

pub held-front : {old new : List ℕ} (text : List ℕ) (n : ℕ) → Front old new → n ≤ 512 → held text new n ≡ held text old n
unfolding held
held-front text n f l = held-from-front text 0 n f (omega (arith, l))

chain-front : {old new : List ℕ} {p : ℕ} {is : List ℕ} → Front old new → Chain old p is → Chain new p is
chain-front f (chain_end e) = chain_end e
chain-front {old} {new} f (chain_node {k = k} {is = is} e u q c) = chain_node {k = k} {is = is} e u (rw d q) (rw d (chain-front f c))
  where
    d : link_at new k ≡ link_at old k
    d = f.same (4608 + k) (omega (arith, u))

pub kept-front : {text old new : List ℕ} {n : ℕ} → Front old new → Kept text old n → Kept text new n
kept-front {text} {old} {new} {n} f k = record {
  few = k.few;
  indexed = record {
    chain = k.indexed.chain;
    follows = λ b l. rw (f.same (4096 + b) (omega (arith, l))) (chain-front f (k.indexed.follows b l));
    names = λ i l. rw (same-decl i l, same_key) (k.indexed.names i l);
    seconds = λ i w l e. rw (same-decl i l, same_key) (k.indexed.seconds i w l (ap (λ (d : Decl). d.second) (sym (same-decl i l)) ∙ e));
  };
}
  where
    same_key : key_of new ≡ key_of old
    same_key = f.same 4607 (omega arith)

    same-decl : (i : ℕ) → i < n → decl_at text new i ≡ decl_at text old i
    same-decl i l = decl-front text i f (omega (arith, l, k.few))

pub known-front : {text old new : List ℕ} {n own : ℕ} {c : Common} {rs : List Rule} {names : Names} → Front old new → Known text old n own c rs names → Known text new n own c rs names
known-front {text} {old} {new} {n} {own} {c} {rs} {names} f k =
    let e = held-front text n f k.kept.few in
    record {
      kept = kept-front f k.kept;
      agrees = rw e k.agrees;
      entries = rw e k.entries;
      held_are = e ∙ k.held_are;
      own_is = k.own_is;
    }
