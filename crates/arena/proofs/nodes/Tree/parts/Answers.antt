use Rattle.arena.proofs.Trees.{tree_parts}
use Rattle.arena.proofs.nodes.Tree.parts.Goals as goal

pub returns : goal.returns
returns c = tree_parts _ _ c.args.self.sound c.args.n.0 c.requires.node c.requires.there
