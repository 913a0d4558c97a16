use Rattle.std.proofs.Common.{arith}
use Rattle.reading.proofs.Finding.{before_more, before_all, before_no, before_many}
use Rattle.reading.proofs.functions.find_functions.Goals as goal

pub returns-then-n-ge-MAX_FUNCTIONS : goal.returns-then-n-ge-MAX_FUNCTIONS
returns-then-n-ge-MAX_FUNCTIONS c = before_many c.args.table.now.bytes.now c.loop-at.invariant.0 c.loop-at.at c.loop-at.starts c.loop-at.n c.loop-at.invariant.1 (omega arith) (omega arith)

pub returns-then-table-at-gt-MAX_ARGS : goal.returns-then-table-at-gt-MAX_ARGS
returns-then-table-at-gt-MAX_ARGS c p h = absurd (before_no c.args.table.now.bytes.now c.loop-at.invariant.0 c.loop-at.at c.loop-at.starts c.loop-at.n c.loop-at.invariant.1 (omega arith) (λ l. absurd (omega arith)) p h)

pub loop-at-preserved : goal.loop-at-preserved
loop-at-preserved c = (_, before_more c.args.table.now.bytes.now c.loop-at.invariant.0 c.loop-at.at c.loop-at.starts c.loop-at.n c.in_ok-end.end c.loop-at.invariant.1 (omega arith) (omega arith) (omega arith) c.in_ok-end.ensures (omega arith))

pub returns-in_err-end : goal.returns-in_err-end
returns-in_err-end c = rw c.from_residual.ensures (λ p h. absurd (before_no c.args.table.now.bytes.now c.loop-at.invariant.0 c.loop-at.at c.loop-at.starts c.loop-at.n c.loop-at.invariant.1 (omega arith) (λ l. c.in_err-end.ensures) p h))

pub returns : goal.returns
returns c = (c.loop-at.invariant.0, before_all c.args.table.now.bytes.now c.loop-at.invariant.0 c.loop-at.at c.loop-at.starts c.loop-at.n c.loop-at.invariant.1 (omega arith))
