-- A tree by the number of its root.
use Rattle.lang.specs.Program as program
use Rattle.arena.specs.Nodes.{tree}
use Rattle.arena.specs.declared.nodes.Tree.{Tree}

abbrev pub rooted : Tree → program.Tree
rooted t = tree t.nodes.now t.root.0
