-- Texts that are refused: for each number 1 to 9, 20 and 45 at least one, and those whose order or word is easily got wrong. `^` marks the start
-- of the word at fault and is not in the text.
use Rattle.std.specs.Prelude.{Bool, true, false, ◌&&◌, List, [], ◌∷◌, ◌++◌, ℕ, zero, suc, eqb, replicate, if◌then◌else◌}
use Prim.Native.Char.{code}
use Prim.Native.String.{String}
use Rattle.base.specs.Common.{bytes}
use Rattle.processor.specs.Process.{Answer, accepted, refused, process}

pub record Refusal : Type 0 where
  pub text : List ℕ
  pub room : ℕ
  pub number : ℕ
  pub start : ℕ
  pub size : ℕ

-- where the mark stands, and the text without it
unfoldable pub mark_at : List ℕ → ℕ
mark_at [] = 0
mark_at (b ∷ s) = let later = suc (mark_at s) in if eqb b (code "^") then 0 else later

unfoldable pub unmarked : List ℕ → List ℕ
unmarked [] = []
unmarked (b ∷ s) = let later = b ∷ unmarked s in if eqb b (code "^") then s else later

unfoldable pub agrees : Answer → Refusal → Bool
agrees (accepted ws f) r = false
agrees (refused n at) r = eqb n r.number && eqb at.start r.start && eqb at.size r.size

unfoldable pub all_agree : List Refusal → Bool
all_agree [] = true
all_agree (r ∷ rs) = agrees (process r.text r.room) r && all_agree rs

-- a text given whole, where start and length of the part are given
unfoldable pub made : List ℕ → ℕ → ℕ → ℕ → ℕ → Refusal
made t room n s l = record { text = t; room = room; number = n; start = s; size = l }

-- a marked text: its number, and the length of the word at fault
unfoldable pub at : String → ℕ → ℕ → Refusal
at t n l = made (unmarked (bytes t)) 4096 n (mark_at (bytes t)) l

-- so many times the same bytes
unfoldable pub times : ℕ → List ℕ → List ℕ
times zero s = []
times (suc n) s = s ++ times n s

-- 1: bytes and quotes that make no word
unfoldable pub faults1 : List Refusal
faults1 =
    at "rules M: ^$ ; end" 1 1
    ∷ at "rules M: ^'ab ; end" 1 1
    ∷ at "rules M: ^'' ; end" 1 1
    ∷ at "rules M: .^'a%b ; end" 1 1
    ∷ at "rules M: .^'a%b\n' ; end" 1 1
    ∷ at "rules M: ^'%" 1 1
    ∷ at "rules M: ^'%\n' ; end" 1 1
    ∷ at "rules M: ^'%bcdefghijklmnopqrstuvwxyz12345%7' ; end" 1 1
    ∷ at "rules M: ^'abcdefghijklmnopqrstuvwxyz1234567' ; end" 1 1
    ∷ at "rules M: ^_a ; end" 1 1
    ∷ at "^< rules" 1 1
    ∷ []

-- 2: words not allowed here, and texts that end early
unfoldable pub faults2 : List Refusal
faults2 =
    at "^" 2 0
    ∷ at "% all a comment^" 2 0
    -- `'x; % it'` is a string, so that the section goes on
    ∷ at "input: a 'x; % it's^" 2 0
    ∷ at "input: a 'x'% 'b\n; rules M: ; end ^'%'" 2 3
    ∷ at "rules M: ^" 2 0
    ∷ at "rules M: ; ^; $ end" 2 1
    ∷ at "rules M: { ^; end" 2 1
    ∷ at "rules M: ; end ^x" 2 1
    ∷ at "rules ^end" 2 3
    ∷ at "input: ^; rules M: ; end" 2 1
    ∷ at "output ^input: a; rules M: ; end" 2 5
    ∷ at "input: a = 5 ^'x'; rules M: ; end" 2 3
    ∷ at "error: e ^'x'; rules M: ; end" 2 3
    ∷ at "mechanism m: f ^= 3; rules M: ; end" 2 1
    ∷ at "mechanism m: f >> t ^(t); rules M: ; end" 2 1
    ∷ at "rules M: [ ^]; end" 2 1
    ∷ at "rules M: [ a^: ]; end" 2 1
    ∷ at "rules M: [ | *: ^| a: ]; end" 2 1
    ∷ at "rules M: [ | a, ^*: ]; end" 2 1
    ∷ at "rules M: [ | *^, a: ]; end" 2 1
    ∷ at "rules M: @^'x'; end" 2 3
    ∷ at "rules M: .a^(v); end" 2 1
    ∷ at "rules M: ; ^abcdefghijklmnopqrstuvwxyzabcdefg = ; end" 9 33
    ∷ []

-- 9: over a limit
unfoldable pub faults9 : List Refusal
faults9 =
    at "input: a = ^65536; rules M: ; end" 9 5
    ∷ at "input: a = 65535 ^b $" 9 1
    ∷ at "input: a = 65535 b = ^$" 1 1
    ∷ at "rules ^abcdefghijklmnopqrstuvwxyzabcdefg: ; end" 9 33
    ∷ made (bytes "rules M:" ++ times 33 (bytes "{")) 4096 9 40 1
    ∷ made (bytes "rules M:" ++ times 32 (bytes "{")) 4096 2 40 0
    ∷ made (bytes "rules M:[|a" ++ (times 63 (bytes ",a") ++ bytes ",bc:]; end")) 4096 9 138 2
    ∷ made (bytes "rules M:[|a" ++ (times 31 (bytes ",a") ++ (bytes ":|b" ++ (times 31 (bytes ",b") ++ bytes "|d:]; end")))) 4096 2 138 1
    ∷ made (bytes "rules M:[|a" ++ (times 31 (bytes ",a") ++ (bytes ":|b" ++ (times 31 (bytes ",b") ++ bytes ":|d:]; end")))) 4096 9 140 1
    ∷ made (bytes "rules M:[|a" ++ (times 63 (bytes ",a") ++ bytes ",$")) 4096 1 138 1
    ∷ made (bytes "rules " ++ (times 128 (bytes "r:;") ++ bytes "q:;end")) 4096 9 390 1
    ∷ made (bytes "input:" ++ (times 512 (bytes "a ") ++ bytes "b;rules M:;end")) 4096 9 1030 1
    ∷ made (bytes "mechanism m:" ++ (times 256 (bytes "f ") ++ bytes "g $")) 4096 9 524 1
    ∷ made (bytes "mechanism m:" ++ (times 256 (bytes "f ") ++ bytes "g ( ;")) 4096 2 528 1
    ∷ made (bytes "mechanism m:" ++ (times 256 (bytes "f ") ++ bytes "g >> t ;")) 4096 2 532 0
    ∷ made (replicate 32769 (code "$")) 4096 9 32769 0
    ∷ []

-- 3 to 8, by place and then by number
unfoldable pub faults3to8 : List Refusal
faults3to8 =
    at "rules M: ^a ; end" 3 1
    ∷ at "rules M: @^N ; end" 3 1
    ∷ at "input: a 'x'; rules M: #^'y'; end" 3 3
    ∷ at "input: a 'x'; rules M: #^'x'; end" 5 3
    ∷ at "mechanism m: op(^t); type t: x; rules M: ; end" 3 1
    ∷ at "input: t; mechanism m: op(^t); rules M: ; end" 5 1
    ∷ at "input: t; mechanism m: op(^t); type t: x; rules M: ; end" 3 1
    ∷ at "rules M: ; N >> ^t: ; end" 3 1
    ∷ at "input: a ^a; rules M: a ; end" 4 1
    ∷ at "input: a ^b=0; rules M: a ; end" 4 1
    ∷ at "input: a 'x' ^b 'x'; rules M: a ; end" 4 1
    ∷ at "input: a = 5 b = 4 ^c; rules M: a ; end" 4 1
    ∷ at "input: a; output: b; input output: ^b; rules M: a ; end" 4 1
    ∷ at "mechanism m: f; input: ^f; rules M: ; end" 4 1
    ∷ at "input: f; mechanism m: ^f; rules M: ; end" 4 1
    ∷ at "type t: x; type ^t: y; rules M: ; end" 4 1
    ∷ at "mechanism m: f; rules M: ; ^f: ; end" 4 1
    ∷ at "mechanism m: f; rules M: @^f; f: ; end" 5 1
    ∷ at "mechanism m: M; type t: x; rules ^M >> t: >> x; end" 4 1
    ∷ at "type t: x; rules ^M >> t: >> x; end" 5 1
    ∷ at "output: a; rules M: ^a ; end" 5 1
    ∷ at "type t: x; rules M: @^N; N >> t: >> x; end" 5 1
    ∷ at "rules M: [@^M | *: ]; end" 5 1
    ∷ at "type t: x; mechanism m: op(t); rules M: ^op ; end" 5 2
    ∷ at "type t: x; mechanism m: op; rules M: op^(x) ; end" 5 1
    ∷ at "type t: x; input: a; rules M: a^(x) ; end" 5 1
    ∷ at "type t: x; mechanism m: op >> t; rules M: ^op ; end" 5 2
    ∷ at "type t: x; mechanism m: op; rules M: [ ^op | x: ] ; end" 5 2
    ∷ at "input: a; rules M: [@N | ^a: ]; N >> t: ; end" 5 1
    ∷ at "input: a; rules M: [ | a, ^a: ]; end" 6 1
    ∷ at "input: a 'x'; rules M: [ | a: | ^'x': ]; end" 6 3
    ∷ at "rules M: ^> ; end" 7 1
    ∷ at "rules M: { > } [ | *: ^> ] ; end" 7 1
    ∷ at "type t: x; rules M: ; N >> t: ^; end" 8 1
    ∷ at "type t: x; rules M: ; N >> t: { >> x > } ^; end" 8 1
    ∷ at "type t: x; rules M: ; N >> t: ^>> ; end" 8 2
    ∷ at "type t: x; rules M: >> ^x ; end" 8 1
    ∷ at "rules M: >> ^nowhere ; end" 8 7
    ∷ at "rules M: > @N ; N: ^$ ; end" 1 1
    ∷ []

-- 45: "one level with both sides or a token listed twice, at the second entry's token"
unfoldable pub faults45 : List Refusal
faults45 =
    at "input: p q; output: x; operators E: p 1 left x ^q 1 right x; rules M: ; end" 45 1
    ∷ at "input: p 'p'; output: x; operators E: p 1 left x ^'p' 2 left x; rules M: ; end" 45 3
    ∷ []

-- 20: the lent buffer is shorter than the table
unfoldable pub faults20 : List Refusal
faults20 =
    made (bytes "input: a; rules M: a; end") 2 20 25 0
    ∷ made (bytes "rules M: ; end") 0 20 14 0
    ∷ made (bytes "rules M: > ; end") 0 7 9 1
    ∷ []

unfoldable pub refusals : List Refusal
refusals = faults1 ++ (faults2 ++ (faults9 ++ (faults3to8 ++ (faults45 ++ faults20))))

-- all of this file computes where this is unfolded
unfoldable pub opened : Unit {0}
unfolding mark_at unmarked agrees all_agree made at times faults1 faults2 faults9 faults3to8 faults45 faults20 refusals
opened = tt
