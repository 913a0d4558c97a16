use Rattle.reading.proofs.Heading.{end_by}
use Rattle.reading.proofs.ends.EndTable.end_at.Goals as goal

pub returns-then-n-le-MAX_ARGS : goal.returns-then-n-le-MAX_ARGS
returns-then-n-le-MAX_ARGS c = end_by c.args.self.now.bytes.now c.args.at c.in_ok-head.head _ _ c.arity-n.ensures c.width.ensures c.if-n-le-MAX_ARGS.true c.in_ok-head.ensures _ c.end_of_all.ensures
