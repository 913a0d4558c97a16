use Rattle.reading.proofs.Passing.{end_said}
use Rattle.reading.proofs.ends.EndTable.known_end.Goals as goal

pub returns : goal.returns
returns c = end_said c.args.self.now.bytes.now c.args.self.now.ends.now c.args.at _ c.requires c.said_end.ensures
