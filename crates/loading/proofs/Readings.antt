-- Record by record: `headed` is the form of a file.
use mathlib.Core.Bool.{Bool, true, false, ◌&&◌}
use mathlib.Core.List.{List, [], ◌∷◌, ◌++◌, append-nil}
use mathlib.Core.Path.{◌≡◌, refl, sym, ap, ◌∙◌}
use Prim.Native.Nat.{ℕ, zero, suc, ◌+◌, ◌*◌, ◌-◌, ◌/◌, ◌%◌, ◌<◌, ◌≤◌}
use native.Mathlib.Decide.{dec_lt}
use native.Mathlib.Omega.{arith}
use lib.Dec.{eqb, leb}
use lib.ListN.{length, take, drop, get_or, length-append, length-drop, take-append-drop, drop_of_length-le, get_or-append}
use lib.Seq.{take_all, take_at, drop_at, length-take-le, get_or-take, get_or-drop, get_or-append-add}
use borrow.Author.Tests.{eqb-true, eq-eqb, leb-true, leb-false, le-leb, lt-leb}
use Rattle.base.proofs.Laws.{same_refl}
use Rattle.base.specs.Bools.{never, and, split}
use Rattle.base.specs.Common as common
use Rattle.std.specs.Prelude.{if◌then◌else◌}
use Rattle.machine.specs.Bytes.{words_of}
use Rattle.machine.proofs.Bytes.{words_of-bytes_of, bytes_of-words_of, length-bytes_of}
use Rattle.loading.specs.File.{hd, tw, records, file_words, file_bytes, blocks, table_named, verdict_named, allowed, is_file}
use Rattle.loading.specs.Reading.{formed, headed}
use Rattle.loading.proofs.Files.{blocks-nil, is_a_file, length-allowed}

-- what records that are formed hold
pub record Forms (k left : ℕ) (ws : List ℕ) : Type 0 where
  pub words : length (blocks k ws) ≡ left
  pub back : records k (blocks k ws) ≡ ws

last-formed : (k left : ℕ) (ws : List ℕ) → left ≤ 256 → eqb (get_or ws 0 0) tw ≡ true → eqb (get_or ws 1 0) left ≡ true → eqb (length ws) (left + 2) ≡ true → Forms (suc k) left ws
unfolding blocks records
last-formed k left [] h a b c = let z = eqb-true 0 (left + 2) c in absurd (omega arith)
last-formed k left (x ∷ []) h a b c = let z = eqb-true 1 (left + 2) c in absurd (omega arith)
last-formed k left (x ∷ y ∷ ws) h a b c =
    let p = eqb-true x tw a in
    let q = eqb-true y left b in
    let r = eqb-true (length (x ∷ y ∷ ws)) (left + 2) c in
    let n : length ws ≡ left = omega arith in
    let u : length ws ≤ 256 = omega arith in
    let t : take 256 ws ++ blocks k (drop 256 ws) ≡ ws = rw (take_all 256 ws u, drop_of_length-le ws u, blocks-nil k) (append-nil ws) in
    record {
      words = rw t n;
      back = rw (t, le-leb (length ws) 256 u, p, q) (ap (λ (m : ℕ). tw ∷ m ∷ ws) n);
    }

full-formed : (k left : ℕ) (ws : List ℕ) → 256 < left → eqb (get_or ws 0 0) tw ≡ true → eqb (get_or ws 1 0) 256 ≡ true → leb 258 (length ws) ≡ true → Forms k (left - 256) (drop 258 ws)
    → Forms (suc k) left ws
unfolding blocks records
full-formed k left [] h a b c f = let z = leb-true 258 0 c in absurd (omega arith)
full-formed k left (x ∷ []) h a b c f = let z = leb-true 258 1 c in absurd (omega arith)
full-formed k left (x ∷ y ∷ ws) h a b c f =
    let p = eqb-true x tw a in
    let q = eqb-true y 256 b in
    let r = leb-true 258 (length (x ∷ y ∷ ws)) c in
    let t = length-take-le 256 ws (omega arith) in
    let B = blocks k (drop 256 ws) in
    let n : length (take 256 ws ++ B) ≡ left = omega (arith, length-append (take 256 ws) B, f.words) in
    record {
      words = n;
      back =
          rw (lt-leb (length (take 256 ws ++ B)) 256 (omega arith), p, q, take_at (take 256 ws) B 256 t, drop_at (take 256 ws) B 256 t)
          (ap (λ (z : List ℕ). tw ∷ 256 ∷ (take 256 ws ++ z)) f.back ∙ ap (λ (z : List ℕ). tw ∷ 256 ∷ z) (take-append-drop 256 ws));
    }

pub formed-forms : (k left : ℕ) (ws : List ℕ) → formed k left ws ≡ true → Forms k left ws
unfolding formed
formed-forms zero left ws e = never e
formed-forms (suc k) left ws e = go (leb left 256) refl e (formed-forms k (left - 256) (drop 258 ws))
  where
    go : (t : Bool) → leb left 256 ≡ t
        → (eqb (get_or ws 0 0) tw && (if t then (eqb (get_or ws 1 0) left && eqb (length ws) (left + 2))
        else (eqb (get_or ws 1 0) 256 && (leb 258 (length ws) && formed k (left - 256) (drop 258 ws))))) ≡ true
        → (formed k (left - 256) (drop 258 ws) ≡ true → Forms k (left - 256) (drop 258 ws)) → Forms (suc k) left ws
    go true f d i =
        let a = and (eqb (get_or ws 0 0) tw) (eqb (get_or ws 1 0) left && eqb (length ws) (left + 2)) d in
        let b = and (eqb (get_or ws 1 0) left) (eqb (length ws) (left + 2)) a.1 in
        last-formed k left ws (leb-true left 256 f) a.0 b.0 b.1
    go false f d i =
        let a = and (eqb (get_or ws 0 0) tw) (eqb (get_or ws 1 0) 256 && (leb 258 (length ws) && formed k (left - 256) (drop 258 ws))) d in
        let b = and (eqb (get_or ws 1 0) 256) (leb 258 (length ws) && formed k (left - 256) (drop 258 ws)) a.1 in
        let c = and (leb 258 (length ws)) (formed k (left - 256) (drop 258 ws)) b.1 in
        full-formed k left ws (leb-false left 256 f) a.0 b.0 c.0 (i c.1)

-- the records of words are formed
pub records-formed : (k : ℕ) (xs : List ℕ) → 1 ≤ length xs → length xs ≤ 256 * k → formed k (length xs) (records k xs) ≡ true
unfolding formed records
records-formed zero xs a b = absurd (omega arith)
records-formed (suc k) xs a b =
    split (leb (length xs) 256) last (λ f. full f (records-formed k (drop 256 xs) (omega (arith, length-drop 256 xs, leb-false (length xs) 256 f)) (omega (arith, length-drop 256 xs))))
  where
    last : leb (length xs) 256 ≡ true → formed (suc k) (length xs) (records (suc k) xs) ≡ true
    last t = rw (t, eq-eqb (length xs) (length xs) refl) (eq-eqb (length (tw ∷ length xs ∷ xs)) (length xs + 2) (omega arith))

    full : leb (length xs) 256 ≡ false → formed k (length (drop 256 xs)) (records k (drop 256 xs)) ≡ true → formed (suc k) (length xs) (records (suc k) xs) ≡ true
    full f i =
        let u = leb-false (length xs) 256 f in
        let t = length-take-le 256 xs (omega arith) in
        let R = records k (drop 256 xs) in
        let d = drop_at (take 256 xs) R 256 t in
        let l : length xs - 256 ≡ length (drop 256 xs) = sym (length-drop 256 xs) in
        let n : 258 ≤ length (tw ∷ 256 ∷ (take 256 xs ++ R)) = omega (arith, length-append (take 256 xs) R) in
        rw (f, le-leb 258 (length (tw ∷ 256 ∷ (take 256 xs ++ R))) n, d, l) i

-- A file

-- words that have records behind four words
four : (ws : List ℕ) (n : ℕ) → formed 16 n (drop 4 ws) ≡ true → ws ≡ get_or ws 0 0 ∷ get_or ws 1 0 ∷ get_or ws 2 0 ∷ get_or ws 3 0 ∷ drop 4 ws
unfolding formed
four [] n e = never e
four (a ∷ []) n e = never e
four (a ∷ b ∷ []) n e = never e
four (a ∷ b ∷ c ∷ []) n e = never e
four (a ∷ b ∷ c ∷ d ∷ ws) n e = refl

-- what `headed` says
pub record Heads (ws : List ℕ) : Type 0 where
  pub mark : get_or ws 0 0 ≡ hd
  pub two : get_or ws 1 0 ≡ 2
  pub right : allowed (get_or ws 2 0) (get_or ws 3 0) ≡ true
  pub rest : formed 16 (get_or ws 2 0) (drop 4 ws) ≡ true

pub heads : (ws : List ℕ) → headed ws ≡ true → Heads ws
unfolding headed
heads ws h =
    let r = and (eqb (get_or ws 0 0) hd) (eqb (get_or ws 1 0) 2 && (allowed (get_or ws 2 0) (get_or ws 3 0) && formed 16 (get_or ws 2 0) (drop 4 ws))) h in
    let q = and (eqb (get_or ws 1 0) 2) (allowed (get_or ws 2 0) (get_or ws 3 0) && formed 16 (get_or ws 2 0) (drop 4 ws)) r.1 in
    let p = and (allowed (get_or ws 2 0) (get_or ws 3 0)) (formed 16 (get_or ws 2 0) (drop 4 ws)) q.1 in
    record { mark = eqb-true (get_or ws 0 0) hd r.0; two = eqb-true (get_or ws 1 0) 2 q.0; right = p.0; rest = p.1 }

pub file-words : (ws : List ℕ) → Heads ws → (length (blocks 16 (drop 4 ws)) ≡ get_or ws 2 0) × (file_words (blocks 16 (drop 4 ws)) (get_or ws 3 0) ≡ ws)
unfolding file_words
file-words ws h =
    let f = formed-forms 16 (get_or ws 2 0) (drop 4 ws) h.rest in (
      f.words,
      rw (f.words, f.back)
          (ap (λ (x : ℕ). x ∷ 2 ∷ get_or ws 2 0 ∷ get_or ws 3 0 ∷ drop 4 ws) (sym h.mark)
          ∙ ap (λ (y : ℕ). get_or ws 0 0 ∷ y ∷ get_or ws 2 0 ∷ get_or ws 3 0 ∷ drop 4 ws) (sym h.two) ∙ sym (four ws (get_or ws 2 0) h.rest)),
    )

-- bytes that are read so are a file
pub headed-file : (s : List ℕ) → ((i : ℕ) → get_or s i 0 < 256) → length s % 2 ≡ 0 → headed (words_of s) ≡ true → is_file s ≡ true
unfolding is_file table_named verdict_named file_bytes
headed-file s b e h =
    let k = heads (words_of s) h in
    let f = file-words (words_of s) k in
    let z = bytes_of-words_of s b e in
    rw (f.0, k.right, f.1, z) (same_refl s)

words-file : (ws : List ℕ) (v : ℕ) → words_of (file_bytes ws v) ≡ file_words ws v
unfolding file_bytes
words-file ws v = words_of-bytes_of (file_words ws v)

file-even : (ws : List ℕ) (v : ℕ) → length (file_bytes ws v) % 2 ≡ 0
unfolding file_bytes
file-even ws v = let l = length-bytes_of (file_words ws v) in omega arith

allowed-low : (n v : ℕ) → allowed n v ≡ true → 1 ≤ n
unfolding allowed
allowed-low n v e = leb-true 1 n (and (leb 1 n) (leb n 4096) (and (leb 1 n && leb n 4096) (leb v 1) e).0).0

own-words : (ws : List ℕ) (v : ℕ) → allowed (length ws) v ≡ true → headed (file_words ws v) ≡ true
unfolding headed file_words
own-words ws v a =
    let l = length-allowed (length ws) v a in
    rw a (records-formed 16 ws (allowed-low (length ws) v a) (omega arith))

-- and a file is read so
pub file-headed : (s : List ℕ) → is_file s ≡ true → (headed (words_of s) ≡ true) × (length s % 2 ≡ 0)
unfolding is_file
file-headed s e =
    let ws = table_named s in
    let v = verdict_named s in
    let a = (and (allowed (length ws) v) (common.same (file_bytes ws v) s) e).0 in
    let q = is_a_file s e in
    (rw (← q) (own ws v a), rw (← q) (even ws v))
  where
    one-at-least : (n v : ℕ) → allowed n v ≡ true → 1 ≤ n
    one-at-least n v d = allowed-low n v d

    own : (ws : List ℕ) (v : ℕ) → allowed (length ws) v ≡ true → headed (words_of (file_bytes ws v)) ≡ true
    own ws v a = rw (words-file ws v) (own-words ws v a)

    even : (ws : List ℕ) (v : ℕ) → length (file_bytes ws v) % 2 ≡ 0
    even ws v = file-even ws v

-- Where word i of the table stands

pub below : (x y : ℕ) (ws : List ℕ) (i j : ℕ) → j ≡ suc (suc i) → get_or (x ∷ y ∷ ws) j 0 ≡ get_or ws i 0
below x y ws i j e = rw e

last-at : (k left : ℕ) (ws : List ℕ) → left ≤ 256 → eqb (length ws) (left + 2) ≡ true → (i : ℕ) → i < left
    → get_or (blocks (suc k) ws) i 0 ≡ get_or ws (i + 2 * (i / 256) + 2) 0
unfolding blocks
last-at k left [] h c i u = let z = eqb-true 0 (left + 2) c in absurd (omega arith)
last-at k left (x ∷ []) h c i u = let z = eqb-true 1 (left + 2) c in absurd (omega arith)
last-at k left (x ∷ y ∷ ws) h c i u =
    let r = eqb-true (length (x ∷ y ∷ ws)) (left + 2) c in
    let v : length ws ≤ 256 = omega arith in
    let t : take 256 ws ++ blocks k (drop 256 ws) ≡ ws = rw (take_all 256 ws v, drop_of_length-le ws v, blocks-nil k) (append-nil ws) in
    ap (λ (z : List ℕ). get_or z i 0) t ∙ sym (below x y ws i (i + 2 * (i / 256) + 2) (omega arith))

full_at : (k : ℕ) (ws : List ℕ) → leb 258 (length ws) ≡ true → (i : ℕ)
    → (256 ≤ i → get_or (blocks k (drop 258 ws)) (i - 256) 0 ≡ get_or (drop 258 ws) (i - 256 + 2 * ((i - 256) / 256) + 2) 0)
    → get_or (blocks (suc k) ws) i 0 ≡ get_or ws (i + 2 * (i / 256) + 2) 0
unfolding blocks
full_at k [] c i f = let z = leb-true 258 0 c in absurd (omega arith)
full_at k (x ∷ []) c i f = let z = leb-true 258 1 c in absurd (omega arith)
full_at k (x ∷ y ∷ ws) c i f =
    let r = leb-true 258 (length (x ∷ y ∷ ws)) c in
    let t = length-take-le 256 ws (omega arith) in
    elim (dec_lt i 256) [
      | yes u ↦ get_or-append (take 256 ws) (blocks k (drop 256 ws)) 0 i (omega arith) ∙ get_or-take 256 ws i 0 u ∙ sym (below x y ws i (i + 2 * (i / 256) + 2) (omega arith))
      | no u ↦ far (omega arith) t
    ]
  where
    far : 256 ≤ i → length (take 256 ws) ≡ 256 → get_or (take 256 ws ++ blocks k (drop 256 ws)) i 0 ≡ get_or (x ∷ y ∷ ws) (i + 2 * (i / 256) + 2) 0
    far u t =
        let e : i ≡ length (take 256 ws) + (i - 256) = omega arith in
        let j = 256 + (i - 256 + 2 * ((i - 256) / 256) + 2) in
        ap (λ (n : ℕ). get_or (take 256 ws ++ blocks k (drop 256 ws)) n 0) e ∙ get_or-append-add (take 256 ws) (blocks k (drop 256 ws)) (i - 256) 0
        ∙ f u ∙ get_or-drop 256 ws (i - 256 + 2 * ((i - 256) / 256) + 2) 0 ∙ sym (below x y ws (256 + (i - 256 + 2 * ((i - 256) / 256) + 2)) (i + 2 * (i / 256) + 2) (omega arith))

pub formed-at : (k left : ℕ) (ws : List ℕ) → formed k left ws ≡ true → (i : ℕ) → i < left → get_or (blocks k ws) i 0 ≡ get_or ws (i + 2 * (i / 256) + 2) 0
unfolding formed
formed-at zero left ws e i u = never e
formed-at (suc k) left ws e i u = go (leb left 256) refl e (formed-at k (left - 256) (drop 258 ws))
  where
    go : (t : Bool) → leb left 256 ≡ t
        → (eqb (get_or ws 0 0) tw && (if t then (eqb (get_or ws 1 0) left && eqb (length ws) (left + 2))
        else (eqb (get_or ws 1 0) 256 && (leb 258 (length ws) && formed k (left - 256) (drop 258 ws))))) ≡ true
        → (formed k (left - 256) (drop 258 ws) ≡ true → (j : ℕ) → j < left - 256 → get_or (blocks k (drop 258 ws)) j 0 ≡ get_or (drop 258 ws) (j + 2 * (j / 256) + 2) 0)
        → get_or (blocks (suc k) ws) i 0 ≡ get_or ws (i + 2 * (i / 256) + 2) 0
    go true f d n =
        let a = and (eqb (get_or ws 0 0) tw) (eqb (get_or ws 1 0) left && eqb (length ws) (left + 2)) d in
        let b = and (eqb (get_or ws 1 0) left) (eqb (length ws) (left + 2)) a.1 in
        last-at k left ws (leb-true left 256 f) b.1 i u
    go false f d n =
        let a = and (eqb (get_or ws 0 0) tw) (eqb (get_or ws 1 0) 256 && (leb 258 (length ws) && formed k (left - 256) (drop 258 ws))) d in
        let b = and (eqb (get_or ws 1 0) 256) (leb 258 (length ws) && formed k (left - 256) (drop 258 ws)) a.1 in
        let c = and (leb 258 (length ws)) (formed k (left - 256) (drop 258 ws)) b.1 in
        full_at k ws c.0 i (λ v. n c.1 (i - 256) (omega arith))

-- in a file: six words stand before the first, and two more for each 256
pub named-at : (s : List ℕ) → is_file s ≡ true → (i : ℕ) → i < length (table_named s) → get_or (table_named s) i 0 ≡ get_or (words_of s) (i + 2 * (i / 256) + 6) 0
unfolding table_named
named-at s e i u =
    let h = heads (words_of s) (file-headed s e).0 in
    let f = file-words (words_of s) h in
    formed-at 16 (get_or (words_of s) 2 0) (drop 4 (words_of s)) h.rest i (omega (arith, f.0))
    ∙ get_or-drop 4 (words_of s) (i + 2 * (i / 256) + 2) 0 ∙ ap (λ (j : ℕ). get_or (words_of s) j 0) (omega arith)
