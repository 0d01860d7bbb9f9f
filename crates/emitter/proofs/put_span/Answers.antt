use Rattle.emitter.proofs.put_span.Goals as goal

-- src/lib.rt:63:1
pub returns : goal.returns
returns c = cc
