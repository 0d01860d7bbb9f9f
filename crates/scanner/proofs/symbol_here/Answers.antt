-- `scanner::symbol_here` meets its contract.
use mathlib.Core.Path.{ap, sym, ◌∙◌}
use Prim.Native.Nat.{ℕ}
use native.Mathlib.Omega.{arith}
use lib.ListN.{get_or}
use Rattle.scanner.proofs.WordLaws.{spells, bar-is, symbol-is, no_symbol}
use Rattle.scanner.specs.Scanning.{found}
use Rattle.scanner.proofs.symbol_here.Goals as goal

pub returns-then-b-eq33 : goal.returns-then-b-eq33
returns-then-b-eq33 c = spells _ 124 1 (bar-is (get_or c.args.text.now c.args.at 0) c.if-b-eq33.true) c.found.ensures (omega arith) (omega arith)

pub returns-then-is_symbol : goal.returns-then-is_symbol
returns-then-is_symbol c = spells _ c.from.result 1 (symbol-is (get_or c.args.text.now c.args.at 0) c.if-b-eq33.false (sym c.is_symbol.ensures ∙ c.if-is_symbol.true) ∙ ap (λ (k : ℕ). found k 1) (sym c.from.ensures)) c.found-then-is_symbol.ensures (omega arith) (omega arith)

pub returns : goal.returns
returns c = spells _ 0 1 (no_symbol (get_or c.args.text.now c.args.at 0) c.if-b-eq33.false (sym c.is_symbol.ensures ∙ c.if-is_symbol.false)) c.found-2.ensures (omega arith) (omega arith)
