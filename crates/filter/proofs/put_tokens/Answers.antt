-- `filter::put_tokens` meets its contract.
use mathlib.Core.Path.{◌∙◌}
use native.Mathlib.Omega.{arith}
use Rattle.filter.specs.Working.{map_tokens}
use Rattle.filter.proofs.Writes.{words-next, words-all, tokens-length, tokens-fit}
use lib.ListN.{length}
use Rattle.filter.proofs.put_tokens.Goals as goal

pub returns : goal.returns
returns c = words-next (map_tokens c.args.map.now c.args.text.now) _ c.put_fours-k.result _ 0 c.put_fours-k.result (length c.args.text.now) c.put_rest.ensures c.put_fours-k.ensures.1 (omega arith) (omega (arith, c.put_fours-k.ensures.0)) ∙ words-all (map_tokens c.args.map.now c.args.text.now) c.args.out.now (length c.args.text.now) (tokens-fit c.args.map.now c.args.text.now c.args.out.now c.requires.1) (omega (arith, tokens-length c.args.map.now c.args.text.now))
