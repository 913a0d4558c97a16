use Rattle.callgraph.proofs.Fine.{fine_program}
use Rattle.judging.proofs.search.Goals as goal

pub returns : goal.returns
returns c p h = c.close.ensures _ (fine_program c.args.script.now.bytes.now p h) (c.list_steps-count.ensures.steps p h)
