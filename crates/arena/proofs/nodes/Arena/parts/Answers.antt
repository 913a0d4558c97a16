use Rattle.std.proofs.Common.{ap}
use Rattle.arena.specs.Nodes.{left_of, right_of}
use Rattle.arena.proofs.nodes.Arena.parts.Goals as goal

pub returns-clause-left : goal.returns-clause-left
returns-clause-left c = cc (ap left_of c.parts.ensures.whole, c.tree.ensures.nodes)

pub returns-clause-right : goal.returns-clause-right
returns-clause-right c = cc (ap right_of c.parts.ensures.whole, c.tree.ensures.nodes)
