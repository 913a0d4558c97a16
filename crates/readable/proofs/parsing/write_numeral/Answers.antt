use Rattle.std.proofs.Common.{arith}
use Rattle.readable.proofs.Numbers.{one_more, all_written}
use Rattle.readable.proofs.parsing.write_numeral.Goals as goal

pub loop-i-preserved : goal.loop-i-preserved
loop-i-preserved c = one_more c.args.n c.loop-i.i _ c.loop-i.out c.loop-i.invariant (omega arith) c.loop-i-test.true

pub returns : goal.returns
returns c = all_written c.args.n c.loop-i.i _ c.loop-i.out c.loop-i.invariant (omega arith) (omega arith)
