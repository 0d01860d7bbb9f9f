-- Two rules gone through in step: what the loop of `same_words` keeps.
use mathlib.Core.Bool.{Bool, true, false}
use mathlib.Core.List.{List, []}
use mathlib.Core.Path.{◌≡◌, refl, sym, ap, ◌∙◌}
use Prim.Native.Nat.{ℕ, suc, ◌+◌, ◌<◌, ◌≤◌}
use native.Mathlib.Numerals.{add-one}
use native.Mathlib.Omega.{arith}
use lib.Dec.{eqb}
use lib.ListN.{length, get_or, drop, replicate, drop_of_length-le, length-replicate}
use lib.Seq.{drop-cons}
use Rattle.base.proofs.Laws.{zeros-at}
use Rattle.std.specs.Prelude.{if◌then◌else◌}
use Rattle.base.specs.Common.{member}
use Rattle.carry.specs.Scan.{Expects, instruction, operand, label, expects_after, tables_after, same_scan}
use Rattle.machine.proofs.Bytes.{length-words_of}
use Rattle.machine.specs.Bytes.{count, words_of}
use Rattle.scanner.proofs.WordLaws.{part_at}
use Rattle.symbols.proofs.Parts.{part-whole}
use Rattle.symbols.specs.Search.{part}
use Rattle.carrier.specs.Going.{Announced, expects_by, words_meet, Tells}

-- the rules' words are ws and vs, n each; the first o of them are the same, and the state is that of the scan there
pub record Going (h : ℕ → ℕ → Bool) (ws vs : List ℕ) (n o : ℕ) (e : Expects) (flags : List ℕ) : Type 0 where
  pub tables : List ℕ
  pub long : length flags ≡ 4096
  pub flagged : Announced flags tables
  pub low : o ≤ n
  pub lengths : (length ws ≡ n) × (length vs ≡ n)
  pub rest : same_scan h tables o e (drop o ws) (drop o vs) ≡ same_scan h [] 0 instruction ws vs

pub going-first : (h : ℕ → ℕ → Bool) (ws vs : List ℕ) (n : ℕ) → length ws ≡ n → length vs ≡ n → Going h ws vs n 0 instruction (replicate 4096 0)
going-first h ws vs n e f = record {
  tables = [];
  long = length-zeros;
  flagged = record { flag = λ o k. zeros-at 4096 o };
  low = omega arith;
  lengths = (e, f);
  rest = refl;
}
  where
    length-zeros : length {A = ℕ} (replicate 4096 0) ≡ 4096
    length-zeros = length-replicate {A = ℕ} 4096 0

-- one word more
module _ {h : ℕ → ℕ → Bool} {ws vs : List ℕ} {n o : ℕ} {e : Expects} {flags : List ℕ} (g : Going h ws vs n o e flags) (l : o < n) (w v : ℕ) (dw : w ≡ get_or ws o 0) (dv : v ≡ get_or vs o 0) where
  here-step : same_scan h g.tables o e (drop o ws) (drop o vs)
      ≡ (if words_meet (h w v) e w v then same_scan h (tables_after g.tables o e w) (suc o) (expects_after g.tables o e w) (drop (suc o) ws) (drop (suc o) vs) else false)
  unfolding same_scan words_meet
  here-step = rw (drop-cons ws o 0 (omega (arith, g.lengths.0, l)), drop-cons vs o 0 (omega (arith, g.lengths.1, l)), ← dw, ← dv) refl

  pub going-not : (r : Bool) → r ≡ words_meet (h w v) e w v → r ≡ false → false ≡ same_scan h [] 0 instruction ws vs
  going-not r m f = sym (here-step ∙ rw (sym m ∙ f) refl) ∙ g.rest

  -- a choice table stands here
  flag_is : (t : ℕ) → t ≡ get_or flags o 0 → n ≤ 4096 → (b : Bool) → b ≡ eqb t 1 → b ≡ member o g.tables
  flag_is t d s b e =
      let x : t ≡ (if member o g.tables then 1 else 0) = d ∙ g.flagged.flag o (omega arith) in
      e ∙ rw x (go (member o g.tables))
    where
      go : (m : Bool) → eqb (if m then 1 else 0) 1 ≡ m
      go true = refl
      go false = refl

  expects-is : (ts : List ℕ) (e : Expects) → expects_by (member o ts) e w ≡ expects_after ts o e w
  unfolding expects_by expects_after
  expects-is ts instruction = refl
  expects-is ts (operand i) = refl
  expects-is ts (label k) = refl

  pub going_next : (r : Bool) (t : ℕ) (b : Bool) (e' : Expects) (flags' : List ℕ) → r ≡ words_meet (h w v) e w v → r ≡ true → n ≤ 4096 → t ≡ get_or flags o 0 → b ≡ eqb t 1
      → Tells flags o e w flags' → e' ≡ expects_by b e w → Going h ws vs n (o + 1) e' flags'
  going_next r t b e' flags' m f s d k told fol =
      let z : words_meet (h w v) e w v ≡ true = sym m ∙ f in
      let y : b ≡ member o g.tables = flag_is t d s b k in
      let x : e' ≡ expects_after g.tables o e w = fol ∙ ap (λ (q : Bool). expects_by q e w) y ∙ expects-is g.tables e in
      record {
        tables = tables_after g.tables o e w;
        long = told.long ∙ g.long;
        flagged = told.told g.tables g.long g.flagged;
        low = omega arith;
        lengths = g.lengths;
        rest = rw (add-one o, x) (sym (here-step ∙ rw z refl) ∙ g.rest);
      }

pub going_end : {h : ℕ → ℕ → Bool} {ws vs : List ℕ} {n o : ℕ} {e : Expects} {flags : List ℕ} → Going h ws vs n o e flags → n ≤ o → true ≡ same_scan h [] 0 instruction ws vs
unfolding same_scan
going_end {h} {ws} {vs} {n} {o} {e} g l =
    let a : length ws ≤ o = omega (arith, g.lengths.0, l) in
    let b : length vs ≤ o = omega (arith, g.lengths.1, l) in
    rw (drop_of_length-le ws a, drop_of_length-le vs b) at g.rest

-- the words of a rule in its table
pub rule-length : (a : List ℕ) (i n : ℕ) → i + n ≤ count a → length (part (words_of a) i n) ≡ n
rule-length a i n h = sym (part-whole (words_of a) i n (omega (arith, length-words_of a, h)))

pub rule-word : (a : List ℕ) (i n o w : ℕ) → o < n → w ≡ get_or (words_of a) (i + o) 0 → w ≡ get_or (part (words_of a) i n) o 0
rule-word a i n o w l d = d ∙ sym (part_at (words_of a) i n o l)
