-- `labels_of` meets its contract: the table has the whole choice table, or not.
use mathlib.Core.Path.{◌≡◌, ap, ◌∙◌}
use Prim.Native.Nat.{ℕ, ◌+◌, ◌*◌, ◌-◌, ◌≤◌, ◌<◌}
use native.Mathlib.Omega.{arith}
use borrow.Author.Tests.{le-leb, lt-leb}
use Rattle.machine.specs.Bytes.{word_at}
use Rattle.walker.specs.Shape.{size, table_at, labels_at, inside_table}
use Rattle.walker.proofs.labels_of.Goals as goal

pub returns-then-n-first : goal.returns-then-n-first
unfolding inside_table
returns-then-n-first c =
    let a = c.args in
    let h : size a.t.now < table_at a.t.now a.loc = omega (arith, c.from.ensures, c.word.ensures, c.requires.0) in
    record { whole = tt; outside = λ g. simp (lt-leb _ _ h) }

pub returns-then-n-first-2 : goal.returns-then-n-first-2
unfolding inside_table
returns-then-n-first-2 c =
    let a = c.args in
    let h : table_at a.t.now a.loc ≤ size a.t.now = omega (arith, c.from.ensures, c.word.ensures, c.requires.0) in
    let e : c.from-count.result ≡ labels_at a.t.now a.loc = c.from-count.ensures ∙ c.word-2.ensures ∙ ap (λ (x : ℕ). word_at a.t.now (a.loc + 1 + x - 1)) (c.from.ensures ∙ c.word.ensures) in
    let k : size a.t.now < table_at a.t.now a.loc + 2 * labels_at a.t.now a.loc = omega (arith, c.from.ensures, c.word.ensures, c.requires.0) in
    record { whole = tt; outside = λ g. simp (le-leb _ _ h, lt-leb _ _ k) }

pub returns : goal.returns
returns c =
    let a = c.args in
    let e : c.from-count.result ≡ labels_at a.t.now a.loc = c.from-count.ensures ∙ c.word-2.ensures ∙ ap (λ (x : ℕ). word_at a.t.now (a.loc + 1 + x - 1)) (c.from.ensures ∙ c.word.ensures) in
    record { whole = (omega (arith, c.from.ensures, c.word.ensures), (e, omega arith)); outside = tt }
