-- `resolver::resolve_label` meets its contract.
use Rattle.resolver.proofs.Looking.{found-row, not-found}
use Rattle.symbols.proofs.Numbered.{fault-some}
use mathlib.Core.Path.{refl, sym, ◌∙◌}
use native.Mathlib.Omega.{arith}
use Rattle.resolver.proofs.Labelling.{label-none, label-stops, label-repeats, label-full, label-goes}
use Rattle.resolver.proofs.resolve_label.Goals as goal

pub returns-then-w-lt-FIRST_WORD : goal.returns-then-w-lt-FIRST_WORD
returns-then-w-lt-FIRST_WORD c = label-none c.args.class c.next_word-w.result c.next_word-w.ensures c.if-w-lt-FIRST_WORD.true (record { fault = c.refused.ensures.fault; at = c.refused.ensures.at; len = c.refused.ensures.len })

pub returns-in-Err : goal.returns-in-Err
returns-in-Err c = label-stops c.args.class c.next_word-w.result c.next_word-w.ensures c.requires.0 (not-found (c.in-Err.ensures.looks _)) (fault-some c.in-Err.fault) (record { fault = c.refused-in-Err.ensures.fault; at = c.refused-in-Err.ensures.at; len = c.refused-in-Err.ensures.len })

pub returns-then-is_seen : goal.returns-then-is_seen
returns-then-is_seen c = label-repeats c.args.class c.next_word-w.result c.next_word-w.ensures c.requires.0 (found-row (c.in-Ok.ensures.looks _)) refl (sym c.is_seen.ensures ∙ c.if-is_seen.true) (record { fault = c.refused-then-is_seen.ensures.fault; at = c.refused-then-is_seen.ensures.at; len = c.refused-then-is_seen.ensures.len })

pub returns-then-seen-used : goal.returns-then-seen-used
returns-then-seen-used c = label-full c.args.class c.next_word-w.result c.next_word-w.ensures c.if-seen-used.true (record { fault = c.refused-then-seen-used.ensures.fault; at = c.refused-then-seen-used.ensures.at; len = c.refused-then-seen-used.ensures.len })

pub returns : goal.returns
returns c = label-goes c.args.class c.next_word-w.result c.next_word-w.ensures c.requires.0 (found-row (c.in-Ok.ensures.looks _)) (omega (arith, c.if-w-lt-FIRST_WORD.false)) refl (sym c.is_seen.ensures ∙ c.if-is_seen.false) (omega (arith, c.if-seen-used.false)) refl refl refl
