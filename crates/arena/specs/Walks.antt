-- A walk along the bytes of trees.
use Rattle.std.specs.Prelude.{ℕ, ◌+◌, ◌≤◌, List, [], ◌∷◌, map, length}
use Rattle.lang.specs.Bytes.{bytes_of_trees}
use Rattle.arena.specs.Nodes.{tree, Sound}
use Rattle.arena.specs.declared.writing.Walk.{Walk}

-- the nodes of every tree to come are there, and so much below the stack's capacity as there are trees after it, since the numbers fall from a node to its parts
abbrev pub Walking : List ℕ → ℕ → List ℕ → Type 0
Walking ws capacity [] = Unit {0}
Walking ws capacity (n ∷ ns) = Sound ws n × (n + length ns ≤ capacity) × Walking ws capacity ns

abbrev pub Walks : Walk → Type 0
Walks w = Walking w.nodes.now w.others.capacity (w.next.0 ∷ w.others.items)

-- the bytes to come
abbrev pub to_come : Walk → List ℕ
to_come w = bytes_of_trees (map (tree w.nodes.now) (w.next.0 ∷ w.others.items))
