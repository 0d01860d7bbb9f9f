-- `scanner::string_here` meets its contract.
use mathlib.Core.Path.{refl, sym, ◌∙◌}
use Prim.Native.Nat.{◌+◌}
use native.Mathlib.Omega.{arith}
use lib.ListN.{drop}
use borrow.Author.Tests.{eqb-false}
use Rattle.scanner.proofs.WordLaws.{spells, string-short, string-long, string-open, string-closed, past, past_end}
use Rattle.scanner.proofs.string_here.Goals as goal

pub returns-then-n-lt1 : goal.returns-then-n-lt1
returns-then-n-lt1 c = spells _ 0 1 (string-short (drop (c.args.at + 1) c.args.text.now) c.run_of-n.result c.run_of-n.ensures.count c.if-n-lt1.true) c.found.ensures (omega arith) (omega arith)

pub returns-then-n-gt-WORD_BYTES : goal.returns-then-n-gt-WORD_BYTES
returns-then-n-gt-WORD_BYTES c = spells _ 0 1 (string-long (drop (c.args.at + 1) c.args.text.now) c.run_of-n.result c.run_of-n.ensures.count c.if-n-gt-WORD_BYTES.true) c.found-then-n-gt-WORD_BYTES.ensures (omega arith) (omega arith)

pub returns-then-q-eq39 : goal.returns-then-q-eq39
returns-then-q-eq39 c = spells _ 259 (c.run_of-n.result + 2) (string-closed (drop (c.args.at + 1) c.args.text.now) c.run_of-n.result c.run_of-n.ensures.count c.if-n-lt1.false c.if-n-gt-WORD_BYTES.false (past c.args.text.now c.args.at c.run_of-n.result ∙ c.if-q-eq39.true)) c.found-then-q-eq39.ensures (omega arith) (omega arith)

pub returns-then-e-text : goal.returns-then-e-text
returns-then-e-text c = spells _ 0 1 (string-open (drop (c.args.at + 1) c.args.text.now) c.run_of-n.result c.run_of-n.ensures.count c.if-n-lt1.false c.if-n-gt-WORD_BYTES.false (λ e. c.if-q-eq39.false (sym (past c.args.text.now c.args.at c.run_of-n.result) ∙ e))) c.found-then-e-text.ensures (omega arith) (omega arith)

pub returns : goal.returns
returns c = spells _ 0 1 (string-open (drop (c.args.at + 1) c.args.text.now) c.run_of-n.result c.run_of-n.ensures.count c.if-n-lt1.false c.if-n-gt-WORD_BYTES.false (λ e. eqb-false 0 39 refl (sym (past_end c.args.text.now c.args.at c.run_of-n.result c.if-e-text.false) ∙ e))) c.found-2.ensures (omega arith) (omega arith)
