-- `symbols::find_row` meets its contract.
use mathlib.Core.Path.{refl, ap, sym, ◌∙◌}
use Prim.Native.Nat.{ℕ}
use Rattle.symbols.specs.Index.{bucket_of, head_at, key_of, node_of}
use Rattle.symbols.proofs.Along.{along-start, along-end, along-past, along-hit, along-miss, node-low, named-among}
use Rattle.symbols.proofs.Parts.{bucket-low}
use Rattle.symbols.proofs.Searches.{by_name, answers-there, answers-nowhere}
use Rattle.symbols.proofs.find_row.Goals as goal

pub loop-node-init : goal.loop-node-init
loop-node-init c = (
  c.first_node-node.ensures.low,
  along-start (by_name c.args.class c.part-word.result.now) c.args.text.now c.args.rows.now c.args.n (bucket_of (key_of c.args.rows.now) c.args.class c.part-word.result.now) _ c.requires.indexed (bucket-low (key_of c.args.rows.now) c.args.class c.part-word.result.now)
      (c.first_node-node.ensures.same ∙ ap (head_at c.args.rows.now) (c.bucket.ensures.value ∙ ap (λ (k : ℕ). bucket_of k c.args.class c.part-word.result.now) c.number.ensures.0))
      (λ j l e. named-among c.requires.indexed c.part-word.result.now j l c.args.class e),
)

pub returns-then-n-i : goal.returns-then-n-i
returns-then-n-i c = record { same = rw c.part-word.ensures at (answers-nowhere _ (along-past (by_name c.args.class c.part-word.result.now) c.args.text.now c.args.rows.now c.args.n (ap node_of c.in-Some.is) c.if-n-i.true c.loop-node.invariant.1)); below = tt }

pub returns-then-named : goal.returns-then-named
returns-then-named c = record { same = rw c.part-word.ensures at (answers-there _ _ _ (along-hit (by_name c.args.class c.part-word.result.now) c.args.text.now c.args.rows.now c.args.n (ap node_of c.in-Some.is) c.if-n-i.false (sym c.named.ensures ∙ c.if-named.true) c.loop-node.invariant.1) refl); below = c.if-n-i.false }

pub loop-node-preserved : goal.loop-node-preserved
loop-node-preserved c = (node-low c.in-Some.k c.next_node-node.result c.next_node-node.ensures.up, along-miss (by_name c.args.class c.part-word.result.now) c.args.text.now c.args.rows.now c.args.n (ap node_of c.in-Some.is) (sym c.named.ensures ∙ c.if-named.false) c.next_node-node.ensures.same c.loop-node.invariant.1)

pub returns : goal.returns
returns c = record { same = rw c.part-word.ensures at (answers-nowhere _ (along-end (by_name c.args.class c.part-word.result.now) c.args.text.now c.args.rows.now c.args.n (ap node_of c.in_default.is) c.loop-node.invariant.1)); below = tt }
