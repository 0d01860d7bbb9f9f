-- Texts that have a derivation, because the syntax pass reads them through.
use mathlib.Core.Bool.{Bool, true, false}
use mathlib.Core.List.{List, []}
use mathlib.Core.Path.{◌≡◌, refl}
use Prim.Native.Nat.{ℕ}
use lib.Dec.{T}
use Rattle.base.specs.Common.{bytes}
use Rattle.grammar.specs.Derived.{ProgramIn}
use Rattle.grammar.proofs.ProgramIn.{parse-in}
use Rattle.syntax.specs.Actions
use Rattle.syntax.specs.Parse
use Rattle.syntax.specs.Parse.{parse}
use Rattle.syntax.specs.Reading
use Rattle.syntax.specs.Reading.{Read, got, fault}
use Rattle.syntax.specs.Sections
use Rattle.syntax.specs.Written.{Program}
use Rattle.words.specs.Words
use Rattle.words.specs.Words.{words}

-- reading comes to the end
pub is_read : Read Program → Bool
is_read (got p ws) = true
is_read (fault n w) = false

pub tree_of : Read Program → Program
tree_of (got p ws) = p
tree_of (fault n w) = record { sections = []; rules = [] }

-- the words of the text are those of the tree that it is read as
abbrev pub Derives : List ℕ → Type 0
Derives text = ProgramIn (words text) (tree_of (parse text))

pub derives : (text : List ℕ) → T (is_read (parse text)) → Derives text
unfolding is_read tree_of
derives text h = go (parse text) refl h
  where
    go : (r : Read Program) → parse text ≡ r → T (is_read r) → ProgramIn (words text) (tree_of r)
    go (got p ws) d t = parse-in text p ws d
    go (fault n w) d t = absurd t

pub smallest : Derives (bytes "rules M: ; end")
unfolding is_read Words.opened Reading.opened Actions.opened Sections.opened Parse.opened
smallest = derives (bytes "rules M: ; end") tt

pub every-section : Derives (bytes "input: a 'x' b = 5 c; output: x; input output: y; error: e; type t: v; mechanism m: f g(t) h >> t k(t) >> t; rules M: ; end")
unfolding is_read Words.opened Reading.opened Actions.opened Sections.opened Parse.opened
every-section = derives (bytes "input: a 'x' b = 5 c; output: x; input output: y; error: e; type t: v; mechanism m: f g(t) h >> t k(t) >> t; rules M: ; end") tt

pub every-action : Derives (bytes "rules M: a ? 'x' .b #e @N f f(v) { [ | a, 'x': > | b: | *: >> ] [@N | v: ] [h | v: ] [k(v) | v: ] }; N >> t: >> v; end")
unfolding is_read Words.opened Reading.opened Actions.opened Sections.opened Parse.opened
every-action = derives (bytes "rules M: a ? 'x' .b #e @N f f(v) { [ | a, 'x': > | b: | *: >> ] [@N | v: ] [h | v: ] [k(v) | v: ] }; N >> t: >> v; end") tt
