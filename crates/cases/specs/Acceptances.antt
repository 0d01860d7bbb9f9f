-- Texts that are accepted where a hasty reader refuses them, and verdicts that are easily got wrong.
use Rattle.std.specs.Prelude.{Bool, true, false, ◌&&◌, List, [], ◌∷◌, ℕ}
use Prim.Native.String.{String}
use Rattle.base.specs.Common.{bytes, same}
use Rattle.cases.specs.Cases.{◌iff◌}
use Rattle.processor.specs.Process.{Answer, accepted, refused, process}

pub record Acceptance : Type 0 where
  pub text : String
  pub words : List ℕ
  pub verdict : Bool

abbrev pub says : String → List ℕ → Bool → Acceptance
says t ws f = record { text = t; words = ws; verdict = f }

unfoldable pub gives : Answer → Acceptance → Bool
gives (accepted ws f) a = same ws a.words && (f iff a.verdict)
gives (refused n at) a = false

unfoldable pub all_give : List Acceptance → Bool
all_give [] = true
all_give (a ∷ more) = gives (process (bytes a.text) 4096) a && all_give more

unfoldable pub acceptances : List Acceptance
acceptances =
    says "input: a 'b' b 'a'; rules M: 'a' a; end" (3 ∷ 1 ∷ 3 ∷ 0 ∷ 9 ∷ []) true
    -- a percent sign as a token, and a comment behind it
    ∷ says "input: a percent '%' b; % 'x\nrules M: '%' [ | '%': percent | *: ]; end" (3 ∷ 1 ∷ 7 ∷ 5 ∷ 3 ∷ 1 ∷ 1 ∷ 4 ∷ 1 ∷ 1 ∷ 6 ∷ 9 ∷ []) true
    ∷ says "input: M; rules M: M @M; end" (3 ∷ 0 ∷ 8 ∷ 1 ∷ 9 ∷ []) true
    ∷ says "mechanism m: f; mechanism m: g; rules M: g f; end" (257 ∷ 256 ∷ 9 ∷ []) true
    ∷ says "output: x = 3 y; error: e = 5; rules M: .y #e >>; end" (5 ∷ 4 ∷ 6 ∷ 5 ∷ 9 ∷ 9 ∷ []) true
    ∷ says "input: a = 7; output: b; input output: c; rules M: .c c; end" (5 ∷ 8 ∷ 3 ∷ 8 ∷ 9 ∷ []) true
    ∷ says "type t: x = 4 y; mechanism m: f(t) g >> t h(t) >> t; rules M: f(y) [ g | x: ] [ h(x) | y: ? | *: ]; end"
    (13 ∷ 5 ∷ 512 ∷ 768 ∷ 11 ∷ 3 ∷ 1 ∷ 5 ∷ 1 ∷ 4 ∷ 4 ∷ 12 ∷ 13 ∷ 4 ∷ 1024 ∷ 11 ∷ 4 ∷ 4 ∷ 1 ∷ 4 ∷ 1 ∷ 5 ∷ 5 ∷ 9 ∷ []) true
    ∷ says "type t: x; rules M: [@N | x: ]; N >> t: >> x; end" (8 ∷ 12 ∷ 11 ∷ 3 ∷ 1 ∷ 5 ∷ 1 ∷ 0 ∷ 4 ∷ 12 ∷ 9 ∷ 10 ∷ 0 ∷ 9 ∷ []) true
    ∷ says "rules M: [ | *: ]; end" (7 ∷ 1 ∷ 0 ∷ 9 ∷ []) true
    ∷ says "rules M: if ! *: do > od fi; end" (7 ∷ 1 ∷ 0 ∷ 1 ∷ 3 ∷ 2 ∷ 3 ∷ 9 ∷ []) true
    -- operators: two levels over an operand that reads; a rule that is its own operand, and the same after reading
    ∷ says "input: a plus times; output: add mul; operators E: plus 1 left add times 2 left mul; rules M: ^E @P; P: a; end"
    (8 ∷ 7 ∷ 9 ∷ 3 ∷ 0 ∷ 9 ∷ 8 ∷ 25 ∷ 7 ∷ 7 ∷ 8 ∷ 25 ∷ 5 ∷ 0 ∷ 1 ∷ 6 ∷ 1 ∷ 1 ∷ 8 ∷ 1 ∷ 3 ∷ 2 ∷ 14 ∷ 9 ∷ 8 ∷ 4 ∷ 7 ∷ 7 ∷ 8 ∷ 4 ∷ 5 ∷ 1 ∷ 1 ∷ 6 ∷ 1 ∷ 2 ∷ 8 ∷ 1 ∷ 3 ∷ 2 ∷ 14 ∷ 9 ∷ []) true
    ∷ says "input: up; output: pow; operators E: up 9 right pow; rules M: ^E @M; end" (8 ∷ 4 ∷ 9 ∷ 8 ∷ 1 ∷ 7 ∷ 7 ∷ 8 ∷ 4 ∷ 5 ∷ 0 ∷ 1 ∷ 4 ∷ 1 ∷ 0 ∷ 8 ∷ 9 ∷ []) false
    ∷ says "input: up; output: pow; operators E: up 9 right pow; rules M: ? ^E @M; end" (4 ∷ 8 ∷ 5 ∷ 9 ∷ 8 ∷ 1 ∷ 7 ∷ 7 ∷ 8 ∷ 5 ∷ 5 ∷ 0 ∷ 1 ∷ 4 ∷ 1 ∷ 0 ∷ 8 ∷ 9 ∷ []) true
    ∷ says "rules M: >> { } ; end" (9 ∷ 2 ∷ 1 ∷ 9 ∷ []) false
    ∷ says "rules M: >> @M ; end" (9 ∷ 8 ∷ 1 ∷ 9 ∷ []) true
    ∷ says "rules M: ; N: { } ; end" (9 ∷ 2 ∷ 1 ∷ 9 ∷ []) false
    ∷ says "input: a; rules M: {[ | a: | *: ]}; end" (7 ∷ 3 ∷ 1 ∷ 4 ∷ 1 ∷ 0 ∷ 4 ∷ 2 ∷ 8 ∷ 9 ∷ []) false
    ∷ says "rules M: { { > } }; end" (1 ∷ 3 ∷ 2 ∷ 3 ∷ 2 ∷ 5 ∷ 9 ∷ []) false
    ∷ says "rules M: { @N }; N: { ? }; end" (8 ∷ 6 ∷ 2 ∷ 3 ∷ 9 ∷ 4 ∷ 2 ∷ 2 ∷ 9 ∷ []) true
    ∷ says "type t: x; rules M: ; N >> t: { { > } }; end" (9 ∷ 1 ∷ 3 ∷ 2 ∷ 3 ∷ 2 ∷ 5 ∷ []) false
    -- a cycle over an optional item that is true only after reading (02, A.3); with the two values changed over
    ∷ says "input: t; type B: false true; rules M: {[@OptionalItem | true: | false: > ]}; OptionalItem >> B: [ | t: >> true | *: >> false ]; end"
    (8 ∷ 20 ∷ 11 ∷ 7 ∷ 1 ∷ 11 ∷ 1 ∷ 11 ∷ 1 ∷ 7 ∷ 2 ∷ 1 ∷ 8 ∷ 0 ∷ 8 ∷ 12 ∷ 2 ∷ 17 ∷ 9 ∷ 7 ∷ 6 ∷ 10 ∷ 1 ∷ 9 ∷ 1 ∷ 7 ∷ 1 ∷ 0 ∷ 7 ∷ 10 ∷ 0 ∷ 9 ∷ []) true
    ∷ says "input: t; type B: false true; rules M: {[@OptionalItem | true: | false: > ]}; OptionalItem >> B: [ | t: >> false | *: >> true ]; end"
    (8 ∷ 20 ∷ 11 ∷ 7 ∷ 1 ∷ 11 ∷ 1 ∷ 11 ∷ 1 ∷ 7 ∷ 2 ∷ 1 ∷ 8 ∷ 0 ∷ 8 ∷ 12 ∷ 2 ∷ 17 ∷ 9 ∷ 7 ∷ 6 ∷ 10 ∷ 0 ∷ 9 ∷ 1 ∷ 7 ∷ 1 ∷ 0 ∷ 7 ∷ 10 ∷ 1 ∷ 9 ∷ []) false
    -- the same by otherwise
    ∷ says "input: t; type B: x y; rules M: {[@O | x: > | *: ]}; O >> B: [ | t: >> y | *: >> x ]; end"
    (8 ∷ 15 ∷ 11 ∷ 5 ∷ 1 ∷ 8 ∷ 1 ∷ 4 ∷ 1 ∷ 0 ∷ 6 ∷ 2 ∷ 12 ∷ 9 ∷ 7 ∷ 6 ∷ 10 ∷ 1 ∷ 9 ∷ 1 ∷ 7 ∷ 1 ∷ 0 ∷ 7 ∷ 10 ∷ 0 ∷ 9 ∷ []) true
    ∷ says "input: t; type B: x y; rules M: {[@O | x: > | *: ]}; O >> B: [ | t: >> x | *: >> y ]; end"
    (8 ∷ 15 ∷ 11 ∷ 5 ∷ 1 ∷ 8 ∷ 1 ∷ 4 ∷ 1 ∷ 0 ∷ 6 ∷ 2 ∷ 12 ∷ 9 ∷ 7 ∷ 6 ∷ 10 ∷ 0 ∷ 9 ∷ 1 ∷ 7 ∷ 1 ∷ 0 ∷ 7 ∷ 10 ∷ 1 ∷ 9 ∷ []) false
    ∷ []

-- all of this file computes where this is unfolded
unfoldable pub opened : Unit {0}
unfolding gives all_give acceptances
opened = tt
