use Rattle.std.proofs.Common.{arith}
use Rattle.showing.proofs.Numbering.{number_fits, numbers_more}
use Rattle.showing.proofs.find_numbers.Goals as goal

pub number_of-number-requires-clause-fits : goal.number_of-number-requires-clause-fits
number_of-number-requires-clause-fits c = number_fits c.args.tree.nodes.now c.args.tree.root.0 c.loop-k.k _ _ c.loop-k.values c.args.tree.sound c.loop-k-test.true c.loop-k.invariant c.parts.ensures 4294967296 (omega arith)

pub loop-k-preserved : goal.loop-k-preserved
loop-k-preserved c = rw c.unwrap_or.ensures (numbers_more c.args.tree.nodes.now c.args.tree.root.0 c.loop-k.k _ _ c.loop-k.values c.args.tree.sound c.loop-k-test.true c.loop-k.invariant c.parts.ensures (omega arith) c.number_of-number.result c.number_of-number.ensures)
