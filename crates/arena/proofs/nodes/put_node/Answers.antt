use Rattle.arena.proofs.Trees.{put_grown, put_tree}
use Rattle.arena.proofs.nodes.put_node.Goals as goal

pub returns-clause-grown : goal.returns-clause-grown
returns-clause-grown c = put_grown _ _ _ _ c.requires.sound c.requires.room c.requires.left c.requires.right

pub returns-clause-made : goal.returns-clause-made
returns-clause-made c = put_tree _ _ _ _ c.requires.sound c.requires.room c.requires.left c.requires.right
