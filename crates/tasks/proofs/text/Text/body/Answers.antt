use Rattle.tasks.proofs.Standings.{numbered_below, body_there}
use Rattle.tasks.proofs.text.Text.body.Goals as goal

pub bounds-self-f : goal.bounds-self-f
bounds-self-f c = numbered_below c.args.self.now.bytes.now c.args.self.now.ends.now c.args.self.now.starts.now c.args.self.now.ending c.args.f c.requires

pub returns-clause-there : goal.returns-clause-there
returns-clause-there c = body_there c.args.self.now.bytes.now c.args.self.now.ends.now c.args.self.now.starts.now c.args.self.now.ending c.args.f
