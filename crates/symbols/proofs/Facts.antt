-- A text and its row of declarations, by computing: what the row holds, and what words mean by it.
use mathlib.Core.List.{List, [], ◌∷◌, ◌++◌}
use mathlib.Core.Option.{Option, none, some}
use mathlib.Core.Path.{◌≡◌, refl}
use Prim.Native.Nat.{ℕ}
use Rattle.base.specs.Common.{bytes}
use Rattle.declarations.specs.Decls
use Rattle.declarations.specs.Decls.{Decl, lookup_in, type_in}
use Rattle.names.specs.Known
use Rattle.names.specs.Known.{good, wrong}
use Rattle.symbols.specs.Index
use Rattle.symbols.specs.Index.{bucket_of}
use Rattle.symbols.specs.Rows
use Rattle.symbols.specs.Rows.{word_of, held, operation_in, rule_in}
use Rattle.words.specs.Words.{Word}

abbrev text : List ℕ
text = bytes "a 'p' b t v m r a"

-- a token a 'p' of input and output, a token b of input, a type t, its value v, an operation m(t), a rule r >> t, a rule a
abbrev rows : List ℕ
rows =
    (3 ∷ 7 ∷ 0 ∷ 1 ∷ 2 ∷ 3 ∷ 0 ∷ 0 ∷ [])
    ++ ((1 ∷ 8 ∷ 6 ∷ 1 ∷ 0 ∷ 0 ∷ 0 ∷ 0 ∷ [])
    ++ ((5 ∷ 0 ∷ 8 ∷ 1 ∷ 0 ∷ 0 ∷ 0 ∷ 0 ∷ [])
    ++ ((10 ∷ 1 ∷ 10 ∷ 1 ∷ 0 ∷ 0 ∷ 0 ∷ 0 ∷ [])
    ++ ((6 ∷ 512 ∷ 12 ∷ 1 ∷ 8 ∷ 1 ∷ 0 ∷ 0 ∷ [])
    ++ ((7 ∷ 0 ∷ 14 ∷ 1 ∷ 0 ∷ 0 ∷ 8 ∷ 1 ∷ [])
    ++ (7 ∷ 1 ∷ 16 ∷ 1 ∷ 0 ∷ 0 ∷ 0 ∷ 0 ∷ []))))))

abbrev name : ℕ → Word
name start = word_of text 257 start 1

abbrev string : Word
string = word_of text 259 2 3

abbrev decl : ℕ → ℕ → Word → Option Word → Option Word → Decl
decl class value word second third = record { class = class; value = value; name = word; second = second; third = third }

abbrev ds : List Decl
ds = held text rows 7

pub decoded : ds
    ≡ (decl 3 7 (name 0) (some string) none ∷ decl 1 8 (name 6) none none ∷ decl 5 0 (name 8) none none ∷ decl 10 1 (name 10) none none
    ∷ decl 6 512 (name 12) (some (name 8)) none ∷ decl 7 0 (name 14) none (some (name 8)) ∷ decl 7 1 (name 16) none none ∷ [])
unfolding Rows.opened
decoded = refl

-- a row past the end is empty, and its words are too
pub past : held text rows 8 ≡ ds ++ (decl 0 0 (word_of text 257 0 0) none none ∷ [])
unfolding Rows.opened
past = refl

pub looked-up : (lookup_in ds 1 (name 0) ∷ lookup_in ds 2 string ∷ lookup_in ds 10 (name 10) ∷ lookup_in ds 2 (name 6) ∷ lookup_in ds 4 (word_of text 257 1 1) ∷ [])
    ≡ (good 7 ∷ good 7 ∷ good 1 ∷ wrong 5 (name 6) ∷ wrong 3 (word_of text 257 1 1) ∷ [])
unfolding Rows.opened Decls.opened Known.opened
looked-up = refl

pub called : (operation_in ds (name 12) ∷ operation_in ds (name 14) ∷ rule_in ds (name 14) ∷ rule_in ds (name 0) ∷ rule_in ds (name 12) ∷ rule_in ds (name 6) ∷ [])
    ≡ (good 4 ∷ wrong 5 (name 14) ∷ good 5 ∷ good 6 ∷ wrong 5 (name 12) ∷ wrong 5 (name 6) ∷ [])
unfolding Rows.opened Decls.opened Known.opened
called = refl

-- a type that is declared later is 3
pub typed : (type_in ds (held text rows 3) (name 8) ∷ type_in ds (held text rows 2) (name 8) ∷ type_in ds (held text rows 3) (name 12) ∷ [])
    ≡ (good 10 ∷ wrong 3 (name 8) ∷ wrong 5 (name 12) ∷ [])
unfolding Rows.opened Decls.opened Known.opened
typed = refl

-- ((7 * 33 + 97) * 33 + 98) % 511, ((7 * 35 + 97) * 35 + 98) % 511
pub hashed : (bucket_of 33 7 [] ∷ bucket_of 33 7 (bytes "ab") ∷ bucket_of 35 7 (bytes "ab") ∷ []) ≡ (7 ∷ 191 ∷ 315 ∷ [])
unfolding Index.opened
hashed = refl

-- the classes of tokens are alike, that of errors is another
pub hashed-tokens : (bucket_of 33 1 (bytes "ab") ∷ bucket_of 33 2 (bytes "ab") ∷ bucket_of 33 3 (bytes "ab") ∷ bucket_of 33 4 (bytes "ab") ∷ []) ≡ (300 ∷ 300 ∷ 300 ∷ 501 ∷ [])
unfolding Index.opened
hashed-tokens = refl
