use Rattle.tasks.proofs.Frames.{variable_is, variable_old}
use Rattle.tasks.proofs.store.Store.variable.Goals as goal

pub returns-clause-there : goal.returns-clause-there
returns-clause-there c base ready h = variable_old c.args.self.now base c.args.top c.args.i ready h

pub returns-clause-is : goal.returns-clause-is
returns-clause-is c base ready h = variable_is c.args.self.now.arena.nodes.now c.args.self.now.frames.now base c.args.top c.args.i h
