-- `scanner::word_here` meets its contract.
use mathlib.Core.Path.{sym, ◌∙◌}
use Prim.Native.Nat.{◌+◌}
use lib.ListN.{get_or, drop}
use Rattle.scanner.proofs.WordLaws.{word-greater, word-name, word_number, word-symbol}
use Rattle.words.proofs.Before.{word-string}
use Rattle.scanner.proofs.word_here.Goals as goal

pub returns-then-is_letter : goal.returns-then-is_letter
returns-then-is_letter c = rw (word-name (get_or c.args.text.now c.args.at 0) (drop (c.args.at + 1) c.args.text.now) (sym c.is_letter.ensures ∙ c.if-is_letter.true)) c.name_here.ensures

pub returns-then-is_digit : goal.returns-then-is_digit
returns-then-is_digit c = rw (word_number (get_or c.args.text.now c.args.at 0) (drop (c.args.at + 1) c.args.text.now) (sym c.is_letter.ensures ∙ c.if-is_letter.false) (sym c.is_digit.ensures ∙ c.if-is_digit.true)) c.number_here.ensures

pub returns-then-b-eq39 : goal.returns-then-b-eq39
returns-then-b-eq39 c = rw (word-string (get_or c.args.text.now c.args.at 0) (drop (c.args.at + 1) c.args.text.now) c.if-b-eq39.true) c.string_here.ensures

pub returns-then-b-eq62 : goal.returns-then-b-eq62
returns-then-b-eq62 c = rw (word-greater (get_or c.args.text.now c.args.at 0) (drop (c.args.at + 1) c.args.text.now) c.if-b-eq62.true) c.greater_here.ensures

pub returns : goal.returns
returns c = rw (word-symbol (get_or c.args.text.now c.args.at 0) (drop (c.args.at + 1) c.args.text.now) (sym c.is_letter.ensures ∙ c.if-is_letter.false) (sym c.is_digit.ensures ∙ c.if-is_digit.false) c.if-b-eq39.false c.if-b-eq62.false) c.symbol_here.ensures
