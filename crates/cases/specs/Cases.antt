-- The cases P1 to P8 of document 01, each as text, table, verdict and walks, and what it is for a case to hold: `process` gives the table and the
-- verdict, the lent bytes are the table's, and calls of a fresh walk over those very bytes, with no
-- repair allowance, give the numbers.
use Rattle.std.specs.Prelude.{Bool, true, false, ◌&&◌, List, [], ◌∷◌, ◌++◌, ℕ, ◌*◌, ◌-◌, eqb, length, replicate}
use Rattle.std.proofs.Math.Option.{Option, none, some}
use Prim.Native.String.{String}
use Rattle.base.specs.Common.{bytes, same}
use Rattle.machine.specs.Bytes.{bytes_of}
use Rattle.machine.specs.Call.{whole}
use Rattle.machine.specs.Form.{walk_of, walk_bytes, call_bytes}
use Rattle.machine.specs.Walk.{Walk, fresh}
use Rattle.processor.specs.Process.{Answer, accepted, refused, process, lent_bytes}

-- a whole walk over these tokens with this budget gives this number, with so many tokens read
pub record Run : Type 0 where
  pub tokens : List ℕ
  pub budget : ℕ
  pub number : ℕ
  pub read : ℕ

-- the table, finishing or not, walks; or a fault's number, start and length
pub data Says : Type 0 where
  makes : List ℕ → Bool → List Run → Says
  fails : ℕ → ℕ → ℕ → Says

pub record Case : Type 0 where
  pub text : List ℕ
  pub says : Says

-- a lent buffer of 50 words and an odd byte, none of them zero before
unfoldable pub buffer : List ℕ
buffer = replicate 101 7

infix 25 ◌iff◌
abbrev pub ◌iff◌ : Bool → Bool → Bool
true iff b = b
false iff true = false
false iff false = true

unfoldable pub read_of : Option Walk → ℕ
read_of none = 0
read_of (some w) = w.io.read

-- a call over the lent bytes, with no event buffer: none of the walks below writes an event
unfoldable pub runs : List ℕ → Run → Bool
runs lent r =
    let end = call_bytes lent (bytes_of r.tokens) (whole []) r.budget (walk_bytes (fresh 0)) [] in
    eqb end.number r.number && eqb (read_of (walk_of end.walk)) r.read

unfoldable pub all_run : List ℕ → List Run → Bool
all_run lent [] = true
all_run lent (r ∷ rs) = runs lent r && all_run lent rs

-- the bytes of so many words, then zero words, then the odd byte
unfoldable pub lent_as : List ℕ → List ℕ
lent_as ws = bytes_of ws ++ (replicate (100 - 2 * length ws) 0 ++ (7 ∷ []))

unfoldable pub holds_of : Answer → Says → Bool
holds_of (accepted ws f) (makes vs g rs) =
    let lent = lent_bytes (accepted ws f) buffer in
    same ws vs && (f iff g) && same lent (lent_as vs) && all_run lent rs
holds_of (accepted ws f) (fails n s l) = false
holds_of (refused n at) (makes vs g rs) = false
holds_of (refused n at) (fails m s l) = eqb n m && eqb at.start s && eqb at.size l && same (lent_bytes (refused n at) buffer) (lent_as [])

unfoldable pub holds : Case → Bool
holds c = holds_of (process c.text 50) c.says

unfoldable pub all_hold : List Case → Bool
all_hold [] = true
all_hold (c ∷ cs) = holds c && all_hold cs

abbrev pub accept : String → List ℕ → Bool → List Run → Case
accept t ws f rs = record { text = bytes t; says = makes ws f rs }

abbrev pub refuse : String → ℕ → ℕ → ℕ → Case
refuse t n s l = record { text = bytes t; says = fails n s l }

abbrev pub run : List ℕ → ℕ → ℕ → ℕ → Run
run ts b n k = record { tokens = ts; budget = b; number = n; read = k }

-- P1 to P8
unfoldable pub cases : List Case
cases =
    accept "rules M: ; end" (9 ∷ []) true []
    ∷ accept "input: blank = 2 illegalChar = 3; error: badChar = 10; rules M: {[ | blank: | illegalChar: #badChar | *: > ]}; end"
    (7 ∷ 7 ∷ 1 ∷ 12 ∷ 6 ∷ 10 ∷ 1 ∷ 8 ∷ 2 ∷ 2 ∷ 8 ∷ 3 ∷ 8 ∷ 1 ∷ 3 ∷ 2 ∷ 16 ∷ 9 ∷ []) true []
    ∷ accept "rules M: { } ; end" (2 ∷ 1 ∷ 9 ∷ []) false []
    ∷ accept "rules M: { > } ; end" (1 ∷ 3 ∷ 2 ∷ 3 ∷ 9 ∷ []) true []
    ∷ accept "input: a; rules M: a; end" (3 ∷ 0 ∷ 9 ∷ []) true (run (0 ∷ []) 2 0 1 ∷ run (0 ∷ []) 1 36 1 ∷ run [] 1 30 0 ∷ [])
    ∷ accept "input: a b; rules M: [ | b: ]; end" (7 ∷ 3 ∷ 1 ∷ 8 ∷ 1 ∷ 1 ∷ 4 ∷ 3 ∷ 1 ∷ 2 ∷ 8 ∷ 9 ∷ []) true (run (0 ∷ []) 2 30 0 ∷ [])
    ∷ accept "rules M: @M; end" (8 ∷ 1 ∷ 9 ∷ []) false (run [] 64 36 0 ∷ run [] 65 33 0 ∷ [])
    ∷ refuse "rules M: > ; end" 7 9 1
    ∷ []

-- all of this file computes where this is unfolded
unfoldable pub opened : Unit {0}
unfolding buffer read_of runs all_run lent_as holds_of holds all_hold cases
opened = tt
