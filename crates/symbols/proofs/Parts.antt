-- Laws of parts of a text.
use mathlib.Core.List.{List, [], ◌∷◌}
use mathlib.Core.Path.{◌≡◌, refl, ap, sym, ◌∙◌}
use Prim.Native.Nat.{ℕ, zero, suc, ◌+◌, ◌*◌, ◌-◌, ◌%◌, ◌≤◌, ◌<◌}
use native.Mathlib.Numerals.{add-one}
use native.Mathlib.Nat.{mul-le-mul}
use native.Mathlib.Omega.{arith}
use lib.ListN.{length, get_or, take, drop, length-take, length-drop, drop_of_length-le}
use lib.Seq.{drop-cons, get_or-take, get_or-drop}
use Rattle.base.specs.Common.{same}
use Rattle.symbols.specs.Index.{hash_from, seed_of, bucket_of}
use Rattle.symbols.specs.Search.{part}

pub part-past : (text : List ℕ) (start len : ℕ) → length text ≤ start → 0 ≡ length (part text start len)
part-past text start len h = simp (length-take, length-drop) (omega arith)

pub part-whole : (text : List ℕ) (start len : ℕ) → len ≤ length text - start → len ≡ length (part text start len)
part-whole text start len h = simp (length-take, length-drop) (omega arith)

pub part_cut : (text : List ℕ) (start len : ℕ) → length text - start < len → length text - start ≡ length (part text start len)
part_cut text start len h = simp (length-take, length-drop) (omega arith)

pub part-fits : (text : List ℕ) (start len n : ℕ) → n ≡ length (part text start len) → n ≤ length text - start
part-fits text start len n e = let h : length (part text start len) ≤ length text - start = simp (length-take, length-drop) (omega arith) in omega arith

take_own : (k : ℕ) (l : List ℕ) → take (length (take k l)) l ≡ take k l
take_own zero l = refl
take_own (suc k) [] = refl
take_own (suc k) (x ∷ l) = ap (λ (m : List ℕ). x ∷ m) (take_own k l)

-- a part and the part of its own length
pub part-own : (text : List ℕ) (start len n : ℕ) → n ≡ length (part text start len) → part text start n ≡ part text start len
part-own text start len n e = rw e (take_own len (drop start text))

pub same-own : (text : List ℕ) (a alen b blen n : ℕ) → n ≡ length (part text a alen) → n ≡ length (part text b blen)
    → same (part text a n) (part text b n) ≡ same (part text a alen) (part text b blen)
same-own text a alen b blen n e f = both (part-own text a alen n e) (part-own text b blen n f) where
  both : {x y u v : List ℕ} → x ≡ u → y ≡ v → same x y ≡ same u v
  both p q = cc

-- a byte of a part
pub part-byte : (text : List ℕ) (start len i : ℕ) → i < length (part text start len) → get_or (part text start len) i 0 ≡ get_or text (start + i) 0
part-byte text start len i h = get_or-take len (drop start text) i 0 low ∙ get_or-drop start text i 0
  where
    low : i < len
    low = let g : length (part text start len) ≤ len = simp (length-take) (omega arith) in omega (arith, h, g)

-- the hash takes one byte more
pub hash-more : (key : ℕ) (w : List ℕ) (h i b : ℕ) → i < length w → get_or w i 0 ≡ b → hash_from key h (drop i w) ≡ hash_from key ((h * key + b) % 281474976710656) (drop (i + 1) w)
unfolding hash_from
hash-more key w h i b l e = rw (add-one, drop-cons w i 0 l, sym e) refl

pub hash-end : (key : ℕ) (w : List ℕ) (h i : ℕ) → length w ≤ i → hash_from key h (drop i w) ≡ h
unfolding hash_from
hash-end key w h i l = rw (drop_of_length-le w l) refl

pub bucket-end : (key class : ℕ) (w : List ℕ) (h i : ℕ) → length w ≤ i → hash_from key h (drop i w) ≡ hash_from key (seed_of class) w → h % 511 ≡ bucket_of key class w
unfolding bucket_of
bucket-end key class w h i l e = ap (λ (x : ℕ). x % 511) (sym (hash-end key w h i l) ∙ e)

pub bucket-low : (key class : ℕ) (w : List ℕ) → bucket_of key class w < 511
unfolding bucket_of
bucket-low key class w = omega arith

-- a hash by a key of 16 bits
pub product-low : (h key : ℕ) → h < 281474976710656 → key < 65536 → h * key ≤ 18446462598732775425
product-low h key l m = let a : h ≤ 281474976710655 = omega (arith, l) in let b : key ≤ 65535 = omega (arith, m) in mul-le-mul a b
