use Rattle.reading.proofs.Passing.{ends_said}
use Rattle.reading.proofs.expressions.Expressions.end.Goals as goal

pub returns : goal.returns
returns c = ends_said c.args.self.now.bytes.now c.args.self.now.ends.now c.args.at _ c.args.self.now.ending c.said_end.ensures
